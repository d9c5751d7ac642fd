-- The independence rule over histories, proved by induction on the runs: a run leaves the same line to a user as the
-- other does, and the next one starts from it.
-- Assumes nothing.
use mathlib.Core.Path.{◌≡◌, refl, sym, ap, ap₂, ◌∙◌}
use mathlib.Core.Bool.{Bool, true, false}
use mathlib.Core.List.{List, [], ◌∷◌, ◌++◌, map}
use Prim.Native.Nat.{ℕ, ◌+◌, ◌-◌, ◌*◌, ◌≤◌, ◌<◌}
use native.Mathlib.Nat.{mul-add}
use native.Mathlib.Omega.{arith}
use lib.Dec.{eqb, ltb}
use lib.ListN.{length, take, drop, replicate, length-append, length-drop, length-replicate}
use lib.Seq.{drop-append-le, take-append-le, drop-append-add}
use borrow.Author.Tests.{ltb-true, ltb-false}
use Rattle.model.specs.declared.Head.{Head}
use Rattle.model.specs.declared.Checked.TheVariants.{Accepted}
use Rattle.model.specs.Judgement.{judge}
use Rattle.model.specs.Line.{line_size}
use Rattle.model.specs.Policy.{excludes}
use Rattle.model.specs.Session.{Operation, Result}
use Rattle.model.specs.Run.{Call, Event, line_at}
use Rattle.model.specs.Independence.{Run, events_of, calls_of, seen_by, view_of, first_line, beside_texts, SameFor}
use Rattle.model_laws.proofs.Judgements.{accepted-head}
use Rattle.model_laws.proofs.LedgerLaws.{apart}
use Rattle.model_laws.proofs.ZeroLaws.{zero_lines}
use Rattle.model_laws.proofs.Listed.{beside-line}
use Rattle.model_laws.proofs.IndependenceProof.{independence}
use Rattle.model_runs.specs.Ends.{left_by, last_line}
use Rattle.model_runs.specs.Histories.{grown, Follows, Followed, CanFollow, History, runs_of, rules_over, RulesGive, FromEach, Pairwise, SamePart, SameThroughout, ToldAlike, IndependentThroughout, LinesOver}
use Rattle.model_runs.proofs.EndLaws.{left-length, left-line}
use Rattle.model_runs.proofs.Strangers.{strange, no_line, without-line}

-- ---- lines of a grown ledger
module _ (z n : ℕ) (l : List ℕ) (hl : length l ≡ z * n) where
  -- one that was there
  old-line : (u : ℕ) (m : List ℕ) → u < n → line_at z u (l ++ m) ≡ line_at z u l
  unfolding line_at
  old-line u m h =
      let k = apart z u n h in
      rw (drop-append-le (z * u) l m (omega arith))
      (take-append-le z (drop (z * u) l) m (rw length-drop (omega arith)))

  -- one behind it
  new_line : (u : ℕ) (m : List ℕ) → line_at z (n + u) (l ++ m) ≡ line_at z u m
  unfolding line_at
  new_line u m =
      let e : z * (n + u) ≡ length l + z * u = mul-add z n u ∙ ap (λ (k : ℕ). k + z * u) (sym hl) in
      ap (λ (k : ℕ). take z (drop k (l ++ m))) e ∙ ap (λ (bs : List ℕ). take z bs) (drop-append-add l m (z * u))

module _ (W : ℕ) (r s : Run W) (f : Follows W r s) where
  kept : (u : ℕ) → u < r.head.users → first_line W u s ≡ last_line (first_line W u r) (view_of W u r)
  unfolding first_line grown
  kept u h =
      ap (line_at (line_size W) u) f.ledger
      ∙ old-line (line_size W) r.head.users (left_by W r) (left-length W r) u _ h
      ∙ left-line W r u

  added : (u : ℕ) → r.head.users ≤ u → u < s.head.users → first_line W u s ≡ replicate (line_size W) 0
  unfolding first_line grown
  added u h k =
      let n = r.head.users in
      let m = s.head.users in
      let e : u ≡ n + (u - n) = omega arith in
      ap (line_at (line_size W) u) f.ledger
      ∙ ap (λ (v : ℕ). line_at (line_size W) v (grown W (m - n) (left_by W r))) e
      ∙ new_line (line_size W) n (left_by W r) (left-length W r) (u - n) _
      ∙ zero_lines (line_size W) (u - n) (m - n) (omega arith)

  pub lines-over : LinesOver W r s
  lines-over = record { kept = kept; added = added }

-- ---- a run that follows
pub grown-length : (W : ℕ) (r : Run W) (n : ℕ) → r.head.users ≤ n → length (grown W (n - r.head.users) (left_by W r)) ≡ line_size W * n
unfolding grown
grown-length W r n k =
    let d = n - r.head.users in
    let e : n ≡ r.head.users + d = omega arith in
    length-append (left_by W r) (replicate (line_size W * d) 0)
    ∙ ap₂ ◌+◌ (left-length W r) (length-replicate (line_size W * d) 0)
    ∙ sym (mul-add (line_size W) r.head.users d)
    ∙ ap (λ (m : ℕ). line_size W * m) (sym e)

-- the run after another, under the image and with the calls given
abbrev pub next : (W : ℕ) (r : Run W) (image : List ℕ) (head : Head) → judge image ≡ Accepted head → r.head.users ≤ head.users → List Call → Run W
next W r image head accepted few calls =
    record {
      image = image;
      head = head;
      accepted = accepted;
      ledger = grown W (head.users - r.head.users) (left_by W r);
      fits = grown-length W r head.users few;
      calls = calls;
    }

pub can_follow : (W : ℕ) (r : Run W) → CanFollow W r
can_follow W r image head accepted few calls =
    (next W r image head accepted few calls, refl, refl, record { users = few; ledger = refl })

-- ---- what is left beside texts has the lines of the view
beside_none : (os : List Operation) → ◌≡◌ {A = List Result} (beside_texts os []) []
unfolding beside_texts
beside_none [] = refl
beside_none (o ∷ os) = refl

beside_last : (z u : ℕ) (bs : List ℕ) (cs : List Call) (es : List Event)
    → last_line bs (beside_texts (calls_of u cs) (seen_by z u cs es)) ≡ last_line bs (seen_by z u cs es)
unfolding last_line calls_of seen_by beside_texts
beside_last z u bs [] es = refl
beside_last z u bs (c ∷ cs) [] = ap (last_line bs) (beside_none (calls_of u (c ∷ cs)))
beside_last z u bs (c ∷ cs) (e ∷ es) = go (eqb c.user u) refl (λ ys. beside_last z u ys cs es)
  where
    own : Result
    own = record { reply = e.reply; line = line_at z u e.ledger }

    go : (b : Bool) → eqb c.user u ≡ b
        → ((ys : List ℕ) → last_line ys (beside_texts (calls_of u cs) (seen_by z u cs es)) ≡ last_line ys (seen_by z u cs es))
        → last_line bs (beside_texts (calls_of u (c ∷ cs)) (seen_by z u (c ∷ cs) (e ∷ es))) ≡ last_line bs (seen_by z u (c ∷ cs) (e ∷ es))
    go true t ih =
        rw (t, calls_of, seen_by)
        (ap (λ (ys : List ℕ). last_line ys (beside_texts (calls_of u cs) (seen_by z u cs es))) (beside-line c.operation own)
        ∙ ih (line_at z u e.ledger))
    go false t ih = rw (t, calls_of, seen_by) (ih bs)

-- ---- the induction
module _ (W u : ℕ) where
  -- both runs leave the user the same line
  same_left : (r s : Run W) → SameFor W u r s → last_line (first_line W u r) (view_of W u r) ≡ last_line (first_line W u s) (view_of W u s)
  unfolding view_of
  same_left r s h =
      sym (beside_last (line_size W) u (first_line W u r) r.calls (events_of W r))
      ∙ ap₂ last_line h.line (independence W u r s h).beside_texts_lem
      ∙ beside_last (line_size W) u (first_line W u s) s.calls (events_of W s)

  -- a run is the same as itself, so the session rules give what its user sees
  itself : (r : Run W) → u < r.head.users → SameFor W u r r
  unfolding excludes
  itself r below =
      record {
        agree = record { heads = refl; own = refl; grants = refl; seniors = refl; exclusions = λ x. refl; limits = refl };
        below = below;
        line = refl;
        calls = refl;
        told = refl;
      }

  by_rules : (r : Run W) → u < r.head.users → (rs : List (Run W)) → Followed W r rs
      → map (view_of W u) (r ∷ rs) ≡ rules_over W u (first_line W u r) (r ∷ rs)
  unfolding rules_over
  by_rules r below [] f = ap (λ (v : List Result). v ∷ []) (independence W u r r (itself r below)).by_rules
  by_rules r below (s ∷ rs) f =
      let q = (independence W u r r (itself r below)).by_rules in
      let n = f.0.users in
      ap₂ {C = List (List Result)} (λ (v : List Result) (vs : List (List Result)). v ∷ vs) q
      (by_rules s (omega arith) rs f.1
      ∙ ap (λ (bs : List ℕ). rules_over W u bs (s ∷ rs)) (kept W r s f.0 u below ∙ ap (last_line (first_line W u r)) q))

  -- and so from each run on
  from_each : (r : Run W) (rs : List (Run W)) → Followed W r rs → FromEach (RulesGive W u) r rs
  from_each r [] f = λ below. by_rules r below [] f
  from_each r (s ∷ rs) f = (λ below. by_rules r below (s ∷ rs) f, from_each s rs f.1)

  -- as many users in both
  same_users : (r s : Run W) → SamePart W u r s → r.head.users ≡ s.head.users
  same_users r s p =
      ap (λ (g : Head). g.users)
      (sym (accepted-head r.image r.head r.accepted) ∙ p.agree.heads ∙ accepted-head s.image s.head s.accepted)

  same_for : (r s : Run W) → SamePart W u r s → first_line W u r ≡ first_line W u s → u < r.head.users → SameFor W u r s
  same_for r s p e below = record { agree = p.agree; below = below; line = e; calls = p.calls; told = p.told }

  -- ---- any user: with a line by the independence rule, without one by 10

  -- one run
  told-alike : (r s : Run W) → SamePart W u r s → first_line W u r ≡ first_line W u s → ToldAlike W u r s
  told-alike r s p e = go (ltb u r.head.users) refl
    where
      go : (b : Bool) → ltb u r.head.users ≡ b → ToldAlike W u r s
      go true t =
          let i = independence W u r s (same_for r s p e (ltb-true u r.head.users t)) in
          record { beside_texts_lem = i.beside_texts_lem; same = i.same; independent = λ _. i }
      go false t =
          let above = ltb-false u r.head.users t in
          let q : view_of W u r ≡ view_of W u s =
          without-line W r u above ∙ ap strange p.calls ∙ sym (without-line W s u (rw (← same_users r s p) above)) in
          record { beside_texts_lem = ap₂ beside_texts p.calls q; same = λ _. q; independent = λ below. absurd (omega arith) }

  -- the line that the next run starts from
  next-line : (r s r' s' : Run W) → SamePart W u r s → SamePart W u r' s' → Follows W r r' → Follows W s s' → first_line W u r ≡ first_line W u s
      → first_line W u r' ≡ first_line W u s'
  next-line r s r' s' p p' f g e = go (ltb u r.head.users) refl (ltb u r'.head.users) refl
    where
      n : r.head.users ≡ s.head.users
      n = same_users r s p

      n' : r'.head.users ≡ s'.head.users
      n' = same_users r' s' p'

      go : (a : Bool) → ltb u r.head.users ≡ a → (b : Bool) → ltb u r'.head.users ≡ b → first_line W u r' ≡ first_line W u s'
      go true t b t' =
          let below = ltb-true u r.head.users t in
          kept W r r' f u below ∙ same_left r s (same_for r s p e below) ∙ sym (kept W s s' g u (rw (← n) below))
      go false t true t' =
          let above = ltb-false u r.head.users t in
          let below = ltb-true u r'.head.users t' in
          added W r r' f u above below ∙ sym (added W s s' g u (rw (← n) above) (rw (← n') below))
      go false t false t' =
          let above = ltb-false u r'.head.users t' in
          unfold first_line in
          (no_line (line_size W) u r'.head.users r'.ledger r'.fits above
          ∙ sym (no_line (line_size W) u s'.head.users s'.ledger s'.fits (rw (← n') above)))

  told : (r s : Run W) → SamePart W u r s → first_line W u r ≡ first_line W u s → (rs ss : List (Run W)) → Followed W r rs → Followed W s ss
      → Pairwise (SamePart W u) rs ss → Pairwise (ToldAlike W u) (r ∷ rs) (s ∷ ss)
  told r s p e [] [] f g ps = (told-alike r s p e, tt)
  told r s p e [] (s' ∷ ss) f g ps = absurd ps
  told r s p e (r' ∷ rs) [] f g ps = absurd ps
  told r s p e (r' ∷ rs) (s' ∷ ss) f g ps = (
    told-alike r s p e,
    told r' s' ps.0 (next-line r s r' s' p ps.0 f.0 g.0 e) rs ss f.1 g.1 ps.1,
  )

pub histories : (W u : ℕ) (h k : History W) → SameThroughout W u h k → IndependentThroughout W u h k
unfolding runs_of
histories W u h k e =
    record {
      told = told W u h.start k.start e.pairs.0 e.line h.later k.later h.followed k.followed e.pairs.1;
      by_rules = from_each W u h.start h.later h.followed;
    }
