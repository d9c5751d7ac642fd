-- `hierarchy_loop::chain::show_loop` meets its contract.
-- Assumes nothing.
use mathlib.Core.Path.{◌≡◌, ap, sym, ◌∙◌}
use lib.ListN.{replicate}
use borrow.Author.Rules.{rules}
use Rattle.std.proofs.Common.{Err, None}
use Rattle.reasons.specs.declared.Reason.TheVariants.{NoRoles}
use Rattle.hierarchy.specs.Names.{name_of, found_of}
use Rattle.hierarchy_loop.proofs.Showing.{empty_above, shows_19, shows_20, levels_found, level_reached, shows-chain, role_small}
use Rattle.hierarchy_loop.proofs.chain.show_loop.Goals as goal

pub returns-then-chain-ne64 : goal.returns-then-chain-ne64
returns-then-chain-ne64 c = λ p range ej en. rw c.into.ensures (shows_19 p _ c.if-chain-ne64.true)

pub close_first-requires : goal.close_first-requires
close_first-requires c = (c.requires.0, c.requires.0, empty_above c.requires.1)

pub returns-in_err-who : goal.returns-in_err-who
returns-in_err-who c =
    λ p range ej en.
    let none : c.lowest_on_loop.result ≡ None = c.in_err-who.ensures.ok_part in
    let e : c.from_residual.result ≡ Err (record { reason = NoRoles; extra = 0 }) = search rules in
    rw e (shows_20 p _ _ _ _ _ c.if-chain-ne64.false ej en c.close_first.ensures c.lowest_on_loop.ensures (ap name_of none))

pub fill_levels_among-requires : goal.fill_levels_among-requires
fill_levels_among-requires c =
    (role_small _ _ _ (sym (ap name_of c.in_ok-who.ensures.ok_part) ∙ c.lowest_on_loop.ensures) c.requires.0, c.requires.0, empty_above c.requires.1)

pub returns-in_err-n : goal.returns-in_err-n
returns-in_err-n c =
    λ p range ej en.
    absurd
    (levels_found p _ _ _ _ _ c.if-chain-ne64.false ej en c.close_first.ensures c.lowest_on_loop.ensures range _ (ap name_of c.in_ok-who.ensures.ok_part)
    (sym (ap found_of c.in_err-n.ensures.ok_part) ∙ c.fill_levels_among.ensures.0))

pub put_chain-requires : goal.put_chain-requires
put_chain-requires c =
    let some = sym (ap found_of c.in_ok-n.ensures.ok_part) ∙ c.fill_levels_among.ensures.0 in
    let h = level_reached _ _ _ some in
    let zeros : c.fill.new.self ≡ replicate 64 0 = search rules in (
      role_small _ _ _ (sym (ap name_of c.in_ok-who.ensures.ok_part) ∙ c.lowest_on_loop.ensures) c.requires.0,
      h.0,
      zeros,
      c.fill_levels_among.ensures.1 _ c.in_ok-n.ensures.ok_part,
      h.1,
    )

pub returns : goal.returns
returns c =
    λ p range ej en.
    shows-chain p _ _ _ _ _ c.if-chain-ne64.false ej en c.close_first.ensures c.lowest_on_loop.ensures range _ (ap name_of c.in_ok-who.ensures.ok_part) _ _
    (sym (ap found_of c.in_ok-n.ensures.ok_part) ∙ c.fill_levels_among.ensures.0) c.put_chain.ensures
