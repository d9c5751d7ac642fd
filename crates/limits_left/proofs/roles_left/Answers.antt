-- `limits_left::roles_left` meets its contract.
-- Assumes nothing.
use mathlib.Core.Path.{◌≡◌, sym, ap, subst}
use Prim.Native.Nat.{ℕ, ◌<◌}
use Rattle.model.specs.declared.Head.{Head}
use Rattle.sessions.proofs.FirstSteps.{own_known}
use Rattle.limits_left.proofs.roles_left.Goals as goal

pub returns : goal.returns
returns c p xs h l =
    let e : p.head.users ≡ c.args.tables.now.head.users = ap (λ (x : Head). x.users) h.head_is in
    let b = subst (λ (n : ℕ). c.args.who.user < n) (sym e) c.requires.0 in
    c.left.ensures p e (sym (own_known c.args.tables.now.head c.args.tables.now.authorized xs p c.args.who.user _ h b c.roles_of-own.ensures)) l
