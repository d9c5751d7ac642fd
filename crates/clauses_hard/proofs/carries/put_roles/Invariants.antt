-- `clauses_hard::carries::put_roles` meets its contract: the roles that are left are still to be put.
-- Assumes nothing.
use mathlib.Core.Path.{◌≡◌}
use Prim.Native.Nat.{◌^◌, ◌<◌}
use lib.ListN.{length}
use Rattle.model.specs.Dimacs.{literals_text}
use Rattle.clauses_hard.specs.Parts.{roles_in}
use Rattle.clauses_bytes.proofs.WritingLaws.{Along}
use Rattle.clauses_hard.proofs.carries.put_roles.Given as goal

abbrev pub invariant-loop-r : goal.invariant-loop-r
invariant-loop-r l =
    (l.r-iterator.left < 2 ^ l.fn.variables.roles) × (length l.out ≡ length l.initial.out)
    × Along l.initial.out l.at (literals_text (roles_in l.fn.variables.roles l.set))
    (literals_text (roles_in l.fn.variables.roles l.r-iterator.left)) l.out l.next
