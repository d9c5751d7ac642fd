-- The rows and the reduced exclusions stand for the ask, and its text is short.
-- Assumes nothing.
use mathlib.Core.Path.{◌≡◌, sym, ap, ap₂, subst, ◌∙◌}
use mathlib.Core.List.{List, map}
use Prim.Native.Nat.{ℕ, ◌≤◌, ◌<◌}
use native.Mathlib.Omega.{arith}
use lib.Dec.{lit<}
use lib.ListN.{length, get_or, take, length-map}
use Rattle.model.specs.Run.{line_of}
use Rattle.model.specs.declared.Head.{Head}
use Rattle.model.specs.declared.Exclusions.{Exclusions}
use Rattle.model.specs.declared.Line.{Line}
use Rattle.model.specs.Policy.{Policy, below_table, meaning}
use Rattle.model.specs.Line.{SESSIONS, read_line, exclusions_met}
use Rattle.model.specs.Limits.{Others, unbarred}
use Rattle.model.specs.Dimacs.{text_of}
use Rattle.model.specs.Ranges.{InRange}
use Rattle.model_laws.proofs.LineLaws.{length-read_sessions}
use Rattle.sets.specs.Words.{values}
use Rattle.tables_rows.specs.Carried.{carried_rows}
use Rattle.query.specs.Carry.{rows_of}
use Rattle.query_reduced.specs.declared.reduced.ReducedExclusion.{ReducedExclusion}
use Rattle.query_reduced.specs.Met.{masks_of, ns_of}
use Rattle.query_reduced.specs.Reduction.{reduced_for, Reduces}
use Rattle.std.proofs.lemmas.List.{get_or-map}
use Rattle.query_reduced.proofs.MetLaws.{every_has, every}
use Rattle.asks.specs.Asks.{left_to, Searched}
use Rattle.asks.proofs.Rows.{carry_rows}
use Rattle.model_clauses.specs.Texts.{TEXT_ROOM}
use Rattle.model_clauses.proofs.Meant.{meant, left_meant}
use Rattle.model_clauses.proofs.DimacsSizes.{text_small}
use Rattle.clauses.specs.Writing.{Written}
use Rattle.clauses_text.specs.Whole.{text_by}
use Rattle.clauses.specs.Stands.{Stands}
use Rattle.clauses.proofs.Meant.{text_is}

-- a line has as many sessions as are read
pub line_sessions : (W : ℕ) (ledger : List ℕ) (u : ℕ) → length (line_of W ledger u).sessions ≡ W
unfolding line_of read_line
line_sessions W ledger u = length-read_sessions W _

module _ (p : Policy) (u : ℕ) (x : Others) (l : Line) (k : ℕ) (xs : Exclusions) (rows : List (List ℕ)) (rs : List ReducedExclusion) where
  -- each role's row is what it carries, and each exclusion is reduced
  stands : p.head.roles ≤ 64 → p.exclusions ≡ take xs.count xs.list → values rows ≡ carried_rows p.granted (below_table p) every → Reduces xs l k rs
      → Stands (left_to p u x l k) l k (rows_of rows) (masks_of rs) (ns_of rs) (length rs)
  unfolding meaning unbarred
  stands small e er d =
      let f = reduced_for l k in
      let r : rs ≡ map f p.exclusions = d.each ∙ ap (map f) (sym e) in
      record {
        carried = λ r h. sym (carry_rows p u every rows (lit< tt) er r (every_has r (omega arith)));
        all = ap length r ∙ length-map p.exclusions f;
        reduced = λ o i h.
            let j : i < length (map f p.exclusions) = rw (length-map p.exclusions f) h in
            let y : get_or (map f p.exclusions) i (f o) ≡ f (get_or p.exclusions i o) = get_or-map f p.exclusions i o (f o) h in
            record {
              members = ap (λ (z : List ReducedExclusion). get_or (masks_of z) i 0) r
                  ∙ get_or-map (λ (z : ReducedExclusion). z.members) (map f p.exclusions) i (f o) 0 j ∙ ap (λ (z : ReducedExclusion). z.members) y;
              reduced = ap (λ (z : List ReducedExclusion). get_or (ns_of z) i 0) r
                  ∙ get_or-map (λ (z : ReducedExclusion). z.n) (map f p.exclusions) i (f o) 0 j ∙ ap (λ (z : ReducedExclusion). z.n) y;
            };
      }

-- what is written by these words is the text of the ask
pub wrote_text : (p : Policy) (u : ℕ) (x : Others) (k : ℕ) (ledger granted below : List ℕ) (own : ℕ) (xs : Exclusions) (h : Head) (l : Line)
    (rows : List (List ℕ)) (rs : List ReducedExclusion) (low high a b : ℕ) {before after : List ℕ} {n : ℕ}
    → InRange p → p.head ≡ h → Searched p u x ledger k granted below own xs
    → l ≡ line_of SESSIONS ledger u → k < SESSIONS → values rows ≡ carried_rows granted below every
    → Reduces xs l k rs
    → (length (text_by h.roles h.permissions own (rows_of rows) low high (masks_of rs) (ns_of rs) (length rs) a b) ≤ TEXT_ROOM
    → Written before (text_by h.roles h.permissions own (rows_of rows) low high (masks_of rs) (ns_of rs) (length rs) a b) after n)
    → Written before (text_of (left_to p u x l k) l k low high a b) after n
unfolding meaning unbarred exclusions_met
wrote_text p u x k ledger granted below own xs h l rows rs low high a b {before} {after} {n} range eh s el below-k er d w =
    let m = left_to p u x l k in
    let inside : k < length l.sessions = rw (el, line_sessions SESSIONS ledger u) below-k in
    let t = stands p u x l k xs rows rs range.roles.1 s.exclusions_are
    (er ∙ ap₂ (λ (y z : List ℕ). carried_rows y z every) s.granted_is s.below_is) d in
    let e : text_by h.roles h.permissions own (rows_of rows) low high (masks_of rs) (ns_of rs) (length rs) a b ≡ text_of m l k low high a b =
    ap₂ (λ (y : Head) (z : ℕ). text_by y.roles y.permissions z (rows_of rows) low high (masks_of rs) (ns_of rs) (length rs) a b) (sym eh)
    (sym (ap (λ (y : Line). (left_to p u x y k).authorized) el ∙ s.own_is))
    ∙ text_is m l k (rows_of rows) (masks_of rs) (ns_of rs) (length rs) t low high a b in
    let q = (text_small m (left_meant (meaning p u) (meant p range u) x l k) l k low high inside (rw el s.met) a b).bytes in
    subst (λ (y : List ℕ). Written before y after n) e (w (rw e q))
