use Rattle.script_lines.specs.Cutting.{words_in, nothing_left}
use Rattle.script_lines.proofs.WordLaws.{some_word}
use Rattle.script_lines.proofs.lines.Words.end.Goals as goal

pub returns-in-Some : goal.returns-in-Some
unfolding words_in
returns-in-Some c = rw c.in-Some.is (some_word _)

pub returns-in-None : goal.returns-in-None
unfolding words_in nothing_left
returns-in-None c = rw c.in-None.is
