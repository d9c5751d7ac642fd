-- The last 32 of 40 bytes.
-- Assumes nothing.
use borrow.Author.Rules.{rules}
use Rattle.script_text_lines.proofs.LineLaws.{permissions_part}
use Rattle.script_text_lines.proofs.permissions_of.Statement.{statement}
use Rattle.script_text_lines.proofs.permissions_of.Tie as tie

pub permissions_of_spec : {M : Type 1} → statement M
permissions_of_spec =
    tie.close
    (tie.spec (λ c. search rules) (λ c. search rules) (λ c. search rules) (λ c. search (rules, permissions_part)))
