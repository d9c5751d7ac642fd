-- Steps that leave what they have at a word that grants nothing.
-- Assumes nothing.
use Rattle.std.proofs.Common.{refl}
use Rattle.model.specs.Policy.{granting}
use Rattle.image_usual.specs.Usual.{Ungranting}

pub nothing_none : Ungranting (λ rows e. rows)
nothing_none = record { assignment = λ x u r. refl; senior = λ x a b. refl }

pub granting_none : Ungranting granting
unfolding granting
granting_none = record { assignment = λ x u r. refl; senior = λ x a b. refl }
