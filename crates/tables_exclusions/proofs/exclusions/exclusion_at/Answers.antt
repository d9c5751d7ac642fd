-- `tables_exclusions::exclusions::exclusion_at` meets its contract.
-- Assumes nothing.
use mathlib.Core.Path.{◌≡◌}
use native.Mathlib.Omega.{arith}
use borrow.Author.Rules.{rules}
use Rattle.tables_exclusions.specs.Exclusions.{nothing}
use Rattle.tables_exclusions.proofs.Members.{exclusion-of, nothing_at, members-of}
use Rattle.tables_exclusions.proofs.exclusions.exclusion_at.Goals as goal

pub returns-in_default : goal.returns-in_default
unfolding nothing
returns-in_default c = let e : c.default.result ≡ nothing = search rules in search (rules, nothing_at)

pub returns : goal.returns
returns c =
    exclusion-of _ _ _ _ _ _ _ c.word_at.ensures c.decode-word.ensures.0 c.in-Exclude.is
    (members-of _ _ _ c.min-to.result _ _ _ c.requires.1 (omega arith) (omega arith) (omega arith) (λ l. omega arith) c.members_in.ensures)
