-- The changes of a line, by its members.
-- Assumes nothing.
use mathlib.Core.Path.{◌≡◌, refl, sym, ap, ◌∙◌, subst}
use mathlib.Core.Logic.{◌⊎◌, inl, inr, ◌↔◌}
use mathlib.Core.Bool.{Bool, true, false, ◌||◌, true≢false}
use mathlib.Core.List.{List}
use Prim.Native.Nat.{ℕ, ◌+◌, ◌-◌, ◌^◌, ◌<◌}
use native.Mathlib.Omega.{arith}
use lib.Dec.{eqb}
use lib.ListN.{length, get_or, set, length-set}
use lib.Seq.{get_or-set_same, get_or-set_other}
use lib.Pow.{pow_pos}
use borrow.Author.Tests.{eqb-true, eqb-false, eq-eqb}
use Rattle.model.specs.declared.Session.{Session}
use Rattle.model.specs.declared.Line.{Line}
use Rattle.model.specs.Sets.{has, union}
use Rattle.model.specs.Line.{empty_session, session_at, opening, closing, put_in}
use Rattle.model_laws.proofs.Bools.{or_l, or_r, or_cases}
use Rattle.model_laws.proofs.SetLaws.{has-union, has-with}
use Rattle.model_laws.proofs.UnionLaws.{has_none}
use Rattle.model_laws.proofs.AnyWidth.{same_sets}
use Rattle.model_laws.proofs.Inclusion.{add_member, drop_member}
use Rattle.model_register.specs.Changes.{ChangesAre}

-- a member of a union is one of either set
either : (a b r : ℕ) → (has (union a b) r ≡ true) ↔ ((has a r ≡ true) ⊎ (has b r ≡ true))
either a b r = (λ e. or_cases (has a r) (has b r) (sym (has-union a b r) ∙ e), back)
  where
    back : (has a r ≡ true) ⊎ (has b r ≡ true) → has (union a b) r ≡ true
    back (inl e) = has-union a b r ∙ or_l (has a r) (has b r) e
    back (inr e) = has-union a b r ∙ or_r (has a r) (has b r) e

-- a member put in by a sum
added : (s k : ℕ) → has s k ≡ false → (j : ℕ) → (has (s + 2 ^ k) j ≡ true) ↔ ((has s j ≡ true) ⊎ (j ≡ k))
added s k out j = (λ e. to (or_cases (has s j) (eqb j k) (sym same ∙ e)), back)
  where
    same : has (s + 2 ^ k) j ≡ (has s j || eqb j k)
    same = ap (λ (n : ℕ). has n j) (add_member s k out) ∙ has-with s k j

    to : (has s j ≡ true) ⊎ (eqb j k ≡ true) → (has s j ≡ true) ⊎ (j ≡ k)
    to (inl e) = inl e
    to (inr e) = inr (eqb-true j k e)

    back : (has s j ≡ true) ⊎ (j ≡ k) → has (s + 2 ^ k) j ≡ true
    back (inl e) = same ∙ or_l (has s j) (eqb j k) e
    back (inr e) = same ∙ or_r (has s j) (eqb j k) (eq-eqb j k e)

-- a member taken out by a difference
module _ (s k : ℕ) (member : has s k ≡ true) where
  gone : ¬ (has (s - 2 ^ k) k ≡ true)
  gone e =
      let z : s - 2 ^ k ≡ s = same_sets (s - 2 ^ k) s (λ j. at j (eqb j k) refl) in
      let p = pow_pos k in
      absurd (true≢false (sym member ∙ ap (λ (n : ℕ). has n k) (zero_of z p) ∙ has_none k))
    where
      at : (j : ℕ) (b : Bool) → eqb j k ≡ b → has (s - 2 ^ k) j ≡ has s j
      at j true q = let i = eqb-true j k q in ap (has (s - 2 ^ k)) i ∙ e ∙ sym member ∙ ap (has s) (sym i)
      at j false q = drop_member s k member j (eqb-false j k q)

      zero_of : s - 2 ^ k ≡ s → 0 < 2 ^ k → s ≡ 0
      zero_of z p = omega arith

  dropped : (j : ℕ) → (has (s - 2 ^ k) j ≡ true) ↔ ((has s j ≡ true) × ¬ (j ≡ k))
  dropped j = (λ e. to e (eqb j k) refl, λ (e, n). drop_member s k member j n ∙ e)
    where
      to : has (s - 2 ^ k) j ≡ true → (b : Bool) → eqb j k ≡ b → (has s j ≡ true) × ¬ (j ≡ k)
      to e true q = absurd (gone (ap (has (s - 2 ^ k)) (sym (eqb-true j k q)) ∙ e))
      to e false q = let n = eqb-false j k q in (sym (drop_member s k member j n) ∙ e, n)

module _ (k : ℕ) (l : Line) (inside : k < length l.sessions) (x : Session) where
  -- session k set
  abbrev after : List Session
  after = set l.sessions k x

  here : get_or after k empty_session ≡ x
  here = get_or-set_same l.sessions k x empty_session inside

  elsewhere : (j : ℕ) → ¬ (j ≡ k) → get_or after j empty_session ≡ get_or l.sessions j empty_session
  elsewhere j n = get_or-set_other l.sessions k j x empty_session n

pub changes_are : (k : ℕ) (l : Line) → ChangesAre k l
unfolding opening closing put_in session_at empty_session
changes_are k l =
    record {
      opens = λ out. record { opened = added l.opened k out; history = refl; sessions = refl };
      shuts = λ inside member. record {
        opened = dropped l.opened k member;
        history = refl;
        active = ap (λ (a : Session). a.active) (here k l inside empty_session);
        past = ap (λ (a : Session). a.history) (here k l inside empty_session);
        beside = record { size = length-set l.sessions k empty_session; others = elsewhere k l inside empty_session };
      };
      puts = λ inside s.
          let x : Session = record { active = s; history = union (session_at l k).history s } in
          record {
            opened = refl;
            history = either l.history s;
            active = ap (λ (a : Session). a.active) (here k l inside x);
            past = λ r. subst (λ (a : Session). (has a.history r ≡ true) ↔ ((has (session_at l k).history r ≡ true) ⊎ (has s r ≡ true)))
                (sym (here k l inside x)) (either (session_at l k).history s r);
            beside = record { size = length-set l.sessions k x; others = elsewhere k l inside x };
          };
    }
