-- `moves_line::line_in` meets its contract.
-- Assumes nothing.
use borrow.Author.Rules.{rules}
use Rattle.model.specs.Line.{line_size, read_line}
use Rattle.model.specs.Moves.{padded}
use Rattle.octets.specs.Splice.{number_at}
use Rattle.moves_line.proofs.line_in.Goals as goal

pub sessions_in-sessions-requires : goal.sessions_in-sessions-requires
unfolding line_size padded read_line number_at
sessions_in-sessions-requires c = search rules

pub get_u64-requires : goal.get_u64-requires
unfolding line_size padded read_line number_at
get_u64-requires c = search rules

pub get_u64-requires-2 : goal.get_u64-requires-2
unfolding line_size padded read_line number_at
get_u64-requires-2 c = search rules

pub returns : goal.returns
unfolding line_size padded read_line number_at
returns c = cc
