use Rattle.std.proofs.Common.{ℕ, ◌≡◌, ◌≤◌, Bool, true, false, not, eqb, length, ap, refl, ◌∙◌, arith}
use mir.Val.{bool_byte}
use lib.ListN.{get_or}
use Rattle.std.proofs.lemmas.List.{length-take}
use Rattle.model.specs.Sets.{one}
use Rattle.tidy_words.proofs.Turns.{within_first, none_left}
use Rattle.tidy_words.proofs.Limiting.{limits_count, limits_end}
use Rattle.tidy_words.proofs.count.count_limits.Goals as goal

one_is : (b : Bool) → bool_byte b ≡ one b
one_is true = refl
one_is false = refl

one_small : (t : ℕ) → one (not (eqb t 0)) ≤ 1
one_small t = go (eqb t 0)
  where
    go : (b : Bool) → one (not b) ≤ 1
    go true = omega arith
    go false = omega arith

pub loop-t-init : goal.loop-t-init
loop-t-init c = (omega arith, omega arith, omega arith)

pub loop-t-preserved : goal.loop-t-preserved
loop-t-preserved c =
    let r = within_first c.args.limits.now c.args.n c.loop-t.t-index 0 c.loop-t-test.true in
    let k = limits_count c.args.limits.now c.loop-t.t-index r.inside in
    let e = c.from-m.ensures ∙ one_is _ ∙ ap (λ (t : ℕ). one (not (eqb t 0))) r.same in
    (omega (arith, one_small (get_or c.args.limits.now c.loop-t.t-index 0)), omega (arith, r.inside), omega arith)

pub returns : goal.returns
returns c =
    let t = none_left c.args.limits.now c.args.n c.loop-t.t-index (omega arith) c.loop-t-test.false in
    let k = ap length (limits_end _ c.args.limits.now c.loop-t.t-index c.requires.1 t) in
    let l = length-take c.args.n c.args.limits.now in
    (omega arith, omega arith)
