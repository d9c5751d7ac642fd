-- An explain names the lowest role of a set that carries the permission, with its granting role.
-- Assumes nothing.
use mathlib.Core.Path.{◌≡◌, refl, sym, ap, ◌∙◌}
use mathlib.Core.Bool.{Bool, true, ◌&&◌}
use mathlib.Core.Option.{Option, none, some, some-injective, none-ne-some}
use Prim.Native.Nat.{ℕ, ◌+◌, ◌*◌, ◌^◌, ◌<◌}
use native.Mathlib.Omega.{arith}
use lib.ListN.{get_or}
use Rattle.model.specs.Tests.{is_some}
use Rattle.model.specs.Sets.{has, union_at, lowest_in}
use Rattle.model.specs.Policy.{Policy, carried_table, granter}
use Rattle.model.specs.Session.{carrier, two_roles, with_granter, explanation}
use Rattle.model.specs.Ranges.{InRange}
use Rattle.model.specs.Explained.{Explains, ExplanationIs}
use Rattle.model_laws.proofs.UnionLaws.{has_below}
use Rattle.model_laws.proofs.LowestLaws.{LowestThat, named, some_named, none_unnamed, unnamed_none, lowest_some, lowest_same, union-named}
use Rattle.model_laws.proofs.Closure.{chain-below, carried_is, provided_is, carried-named, granter-names}

module _ (p : Policy) (range : InRange p) (s m : ℕ) where
  -- role r carries the permission
  carrying : ℕ → Bool
  carrying r = is_some (granter p m r)

  carrier_is : carrier (granter p m) s ≡ lowest_in carrying s
  unfolding carrier carrying
  carrier_is = refl

  -- the two roles that are told, where there is a lowest role that carries the permission
  abbrev Told : ℕ → Type 0
  Told x = (r : ℕ) × (g : ℕ) × (r < 64) × (g < 64) × (x ≡ 64 * r + g) × Explains p s m r g

  told_by_lem : (x r : ℕ) → LowestThat carrying s r → (o : Option ℕ) → granter p m r ≡ o → two_roles r o ≡ some x → Told x
  unfolding two_roles carrying
  told_by_lem x r w none e q = absurd (none-ne-some x q)
  told_by_lem x r w (some g) e q =
      let t = (granter-names p range r m g w.small).0 e in (
        r,
        g,
        w.small,
        chain-below p range w.small t.chain,
        sym (some-injective (64 * r + g) x q),
        record {
          chosen = w.member;
          granting = t;
          lowest = λ j b i c. w.least j b i (sym (carried-named p range j m) ∙ (carried_is p range j m (lt j r b w.small)).1 c);
        },
      )
    where
      lt : (a b : ℕ) → a < b → b < 64 → a < 64
      lt a b h k = omega arith

  told-from : (x : ℕ) (o : Option ℕ) → lowest_in carrying s ≡ o → with_granter (granter p m) o ≡ some x → Told x
  unfolding with_granter
  told-from x none e q = absurd (none-ne-some x q)
  told-from x (some r) e q = told_by_lem x r ((lowest_some carrying s r).0 e) (granter p m r) refl q

  told : (x : ℕ) → explanation (granter p m) s ≡ some x → Told x
  unfolding explanation
  told x q = told-from x (carrier (granter p m) s) (sym carrier_is) q

  tells : s < 2 ^ 64 → (r g : ℕ) → Explains p s m r g → explanation (granter p m) s ≡ some (64 * r + g)
  unfolding explanation with_granter two_roles carrying
  tells small r g e =
      let h = has_below 64 s r small e.chosen in
      let n = (granter-names p range r m g h).1 e.granting in
      let c : lowest_in carrying s ≡ some r =
      (lowest_some carrying s r).1
      (record {
        small = h;
        member = e.chosen;
        passes = some_named g (granter p m r) n;
        least = λ j b i q. e.lowest j b i ((carried_is p range j m (has_below 64 s j small i)).0 (carried-named p range j m ∙ q));
      }) in
      ap (with_granter (granter p m)) (carrier_is ∙ c) ∙ ap (two_roles r) n

  -- there is something to tell exactly if there is a lowest role that carries the permission
  there_from : (o : Option ℕ) → lowest_in carrying s ≡ o → is_some (with_granter (granter p m) o) ≡ is_some o
  unfolding with_granter is_some two_roles
  there_from none e = refl
  there_from (some r) e = go (granter p m r) (unfold carrying in ((lowest_some carrying s r).0 e).passes)
    where
      go : (o : Option ℕ) → is_some o ≡ true → is_some (two_roles r o) ≡ true
      go o h = ap is_some (ap (two_roles r) (named o h).1)

  -- so, exactly if the set carries it
  pub set-named : is_some (explanation (granter p m) s) ≡ has (union_at (carried_table p) s) m
  unfolding explanation carrying
  set-named =
      there_from (carrier (granter p m) s) (sym carrier_is)
      ∙ ap is_some (carrier_is
      ∙ lowest_same carrying (λ r. has (get_or (carried_table p) r 0) m) s s (λ k l. ap (λ (b : Bool). has s k && b) (sym (carried-named p range k m))))
      ∙ sym (union-named (carried_table p) s m)

  pub explanation_is : s < 2 ^ 64 → ExplanationIs p s m
  explanation_is small =
      record {
        told = told;
        tells = tells small;
        none_there = (
          λ e v. none_unnamed (explanation (granter p m) s) e (set-named ∙ (provided_is p range s m small).1 v),
          λ n. unnamed_none (explanation (granter p m) s) (λ e. n ((provided_is p range s m small).0 (sym set-named ∙ e))),
        );
      }
