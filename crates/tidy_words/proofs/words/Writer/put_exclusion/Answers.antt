-- `tidy_words::words::Writer::put_exclusion` meets its contract.
-- Assumes nothing.
use Rattle.std.proofs.Common.{arith}
use Rattle.tidy_words.proofs.Writing.{goes_start, goes_room, goes_next, goes_last, all_of}
use Rattle.tidy_words.proofs.Turns.{size_most, number_small, exclusion-words}
use Rattle.tidy_words.proofs.words.Writer.put_exclusion.Goals as goal

pub overflow_mul-k : goal.overflow_mul-k
overflow_mul-k c = let k = number_small _ _ c.number_of-k.ensures in omega arith

pub overflow_add-k : goal.overflow_add-k
overflow_add-k c = let k = number_small _ _ c.number_of-k.ensures in omega arith

pub overflow_add-k-2 : goal.overflow_add-k-2
overflow_add-k-2 c = let k = number_small _ _ c.number_of-k.ensures in omega arith

pub overflow_mul-m : goal.overflow_mul-m
overflow_mul-m c = let m = size_most 64 _ _ c.size-m.ensures in omega arith

pub overflow_add-k-3 : goal.overflow_add-k-3
overflow_add-k-3 c =
    let k = number_small _ _ c.number_of-k.ensures in
    let m = size_most 64 _ _ c.size-m.ensures in
    omega arith

pub put_word-requires : goal.put_word-requires
put_word-requires c =
    goes_room (goes_start c.args.self.now _ c.requires) (exclusion-words c.args.x _ _ c.number_of-k.ensures c.size-m.ensures)

pub put_set-requires : goal.put_set-requires
put_set-requires c =
    let head = exclusion-words c.args.x _ _ c.number_of-k.ensures c.size-m.ensures in
    (goes_room (goes_next (goes_start c.args.self.now _ c.requires) head c.put_word.ensures) (all_of _), omega arith)

pub returns : goal.returns
returns c =
    let head = exclusion-words c.args.x _ _ c.number_of-k.ensures c.size-m.ensures in
    goes_last (goes_next (goes_start c.args.self.now _ c.requires) head c.put_word.ensures) c.put_set.ensures
