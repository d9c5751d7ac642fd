-- One word judged and taken into the tables.
-- Assumes nothing.
use mathlib.Core.Path.{◌≡◌, sym, ap, ◌∙◌}
use mathlib.Core.Bool.{Bool, false}
use mathlib.Core.List.{List}
use Prim.Native.Nat.{ℕ, ◌<◌}
use native.Mathlib.Omega.{arith}
use Rattle.model.specs.declared.Head.{Head}
use Rattle.model.specs.declared.Scan.{Scan}
use Rattle.model.specs.declared.Word.{Word}
use Rattle.model.specs.declared.Entry.{Entry}
use Rattle.model.specs.Tests.{pick}
use Rattle.model.specs.Image.{wrong_kind, entry_fault, sparing, assigning}
use Rattle.model.specs.Policy.{granting, ordering, limiting}
use Rattle.image.proofs.Turns.{right_kind, wrong_kind_lem, kind_wrong}
use Rattle.tables_words.specs.Step.{noting, Step}

-- a word of the right kind, by what its entry says
pub took : {h : Head} {t : Scan} {final : Bool} {place : ℕ} {w : Word} {a₀ g₀ j₀ l₀ p₀ : List ℕ} {n : ℕ} {a g j l p : List ℕ} (e : Entry)
    → w.entry ≡ e → wrong_kind final t.due w.entry ≡ false → n ≡ sparing w.spare (entry_fault h a₀ t e)
    → (n ≡ 0 → a ≡ assigning a₀ e) → (n ≡ 0 → g ≡ granting g₀ e) → (n ≡ 0 → j ≡ ordering j₀ e) → (n ≡ 0 → l ≡ limiting l₀ e)
    → (n ≡ 0 → p ≡ noting place t.exclusions p₀ e)
    → Step h t final place w a₀ g₀ j₀ l₀ p₀ n a g j l p
took {h} {t} {final} {place} {w} {a₀} {g₀} {j₀} {l₀} {p₀} {n} e ee ek en fa fg fj fl fp =
    record {
      faulty = right_kind h a₀ t final w n e ee ek en;
      assigned_is = λ z. fa z ∙ ap (assigning a₀) (sym ee);
      granted_is = λ z. fg z ∙ ap (granting g₀) (sym ee);
      juniors_is = λ z. fj z ∙ ap (ordering j₀) (sym ee);
      limits_is = λ z. fl z ∙ ap (limiting l₀) (sym ee);
      places_is = λ z. fp z ∙ ap (noting place t.exclusions p₀) (sym ee);
    }

-- a word of the wrong kind
pub mistook : {h : Head} {t : Scan} {final : Bool} {place : ℕ} {w : Word} {a₀ g₀ j₀ l₀ p₀ : List ℕ} {n : ℕ} {a g j l p : List ℕ}
    → n ≡ pick (wrong_kind final t.due w.entry) 3 0 → 0 < n → Step h t final place w a₀ g₀ j₀ l₀ p₀ n a g j l p
mistook {h} {t} {final} {place} {w} {a₀} e l =
    let k = kind_wrong _ _ e l in
    record {
      faulty = k.1 ∙ wrong_kind_lem h a₀ t final w k.0;
      assigned_is = λ z. absurd (omega arith);
      granted_is = λ z. absurd (omega arith);
      juniors_is = λ z. absurd (omega arith);
      limits_is = λ z. absurd (omega arith);
      places_is = λ z. absurd (omega arith);
    }
