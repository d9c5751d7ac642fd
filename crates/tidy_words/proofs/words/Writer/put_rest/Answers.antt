-- `tidy_words::words::Writer::put_rest` meets its contract: the exclusions, and the limits behind them.
-- Assumes nothing.
use Rattle.tidy_words.proofs.Writing.{goes_start, goes_room, goes_next, goes_last, all_of}
use Rattle.tidy_words.proofs.Wholes.{rest_first}
use Rattle.tidy_words.proofs.words.Writer.put_rest.Goals as goal

pub put_exclusions-requires : goal.put_exclusions-requires
put_exclusions-requires c = goes_room (goes_start c.args.self.now _ c.requires.2) (rest_first _ _)

pub put_limits-requires : goal.put_limits-requires
put_limits-requires c = (
  c.requires.0,
  c.requires.1,
  goes_room (goes_next (goes_start c.args.self.now _ c.requires.2) (rest_first _ _) c.put_exclusions.ensures) (all_of _),
)

pub returns : goal.returns
returns c =
    goes_last (goes_next (goes_start c.args.self.now _ c.requires.2) (rest_first _ _) c.put_exclusions.ensures) c.put_limits.ensures
