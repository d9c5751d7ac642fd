-- `tables::read::gather` meets its contract.
-- Assumes nothing.
use Rattle.std.proofs.Common.{sym, refl, ◌∙◌}
use Rattle.tables.proofs.Fills.{head_fits, tables_of_lem}
use Rattle.tables.proofs.read.gather.Goals as goal

pub read_words-requires : goal.read_words-requires
read_words-requires c =
    let k = c.in_ok-front.ensures in rw k.words.1 (k.front.least refl)

pub invariant_of-tables : goal.invariant_of-tables
invariant_of-tables c =
    let k = c.in_ok-front.ensures in
    let e = simp (k.words.0, k.words.1, k.head, c.word.ensures, c.requires.assigned_none) at c.in_ok-head.ensures.0 in
    record { fits = (head_fits c.args.image.now c.in_ok-head.head (sym (e ∙ k.front.scanned refl))).0 }

pub returns : goal.returns
returns c =
    let k = c.in_ok-front.ensures in
    let e = simp (k.words.0, k.words.1, k.head, c.word.ensures, c.requires.assigned_none) at c.in_ok-head.ensures.0 in
    let all = rw (k.words.0, k.words.1) at (c.in_ok-head.ensures.1 _ refl) in (
      e ∙ k.front.scanned refl,
      λ g z.
          tables_of_lem c.args.image.now c.in_ok-head.head _ _ c.requires
          (record {
            assigned_is = all.assigned_is;
            granted_is = all.granted_is;
            juniors_is = all.juniors_is;
            limits_is = all.limits_is;
            exclusions_are = all.exclusions_are;
          })
          (sym (e ∙ k.front.scanned refl)) refl,
    )
