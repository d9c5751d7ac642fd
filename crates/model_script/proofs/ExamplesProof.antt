-- The listed scripts print what is written beside them, by computation from the bytes of the images and inputs.
-- Assumes nothing.
use mathlib.Core.Path.{◌≡◌, refl}
use mathlib.Core.Bool.{true}
use Rattle.model.specs.Tests.{all}
use Rattle.model_script.specs.Examples.{shown, examples, unreadable, is_unreadable_text}
use Rattle.model_script.proofs.Computing.{scripting}

pub examples_print : all shown examples ≡ true
unfolding scripting
examples_print = refl

pub unreadable_so : all is_unreadable_text unreadable ≡ true
unfolding scripting
unreadable_so = refl
