-- The answers of `tables::read::read_words`.
-- Assumes nothing.
use Rattle.std.proofs.Common.{◌≡◌, ℕ, ◌+◌, ◌-◌, ◌<◌, ◌≤◌, List, Err, map, length, get_or, sym, refl, ap, ◌∙◌, subst, rules, arith}
use Rattle.std.proofs.lemmas.List.{length-take-le}
use Rattle.model.specs.declared.Scan.{Scan}
use Rattle.model.specs.Image.{assigning, start}
use Rattle.model.specs.Policy.{granting, ordering, limiting}
use Rattle.reasons.specs.Numbers.{checked_of}
use Rattle.reasons.proofs.Small.{number_of-numbered}
use Rattle.tables_exclusions.specs.Exclusions.{exclusion_at}
use Rattle.image_words.proofs.Folds.{fold_next}
use Rattle.image_words.proofs.Scans.{before_last, stops, goes}
use Rattle.image.proofs.Turns.{due_of}
use Rattle.tables.proofs.Places.{exclusions_placed, places_next, length-noted, noted_below, none_noted, next_few, taken_below}
use Rattle.image.proofs.Last.{last_scan, last_entry, fold_last}
use Rattle.tables.proofs.Last.{places_last}
use Rattle.tables.proofs.read.read_words.Goals as goal

pub loop-at-init : goal.loop-at-init
unfolding start
loop-at-init c =
    let none = none_noted 32 c.args.image.now.count (omega (arith, c.requires)) in
    let e : c.default-t.result ≡ start = search rules in
    rw e
    (record {
      onward = omega arith;
      inside = omega (arith, c.requires);
      scanned = refl;
      few = omega arith;
      size = refl;
      below = none;
      assigned_is = refl;
      granted_is = refl;
      juniors_is = refl;
      limits_is = refl;
      places_are = refl;
    })

pub pass-here-requires : goal.pass-here-requires
pass-here-requires c = c.members-joined.ensures.inside _ (omega arith) (omega (arith, c.loop-at.invariant.inside))

pub loop-at-preserved-then-end-here : goal.loop-at-preserved-then-end-here
unfolding assigning granting ordering limiting
loop-at-preserved-then-end-here c =
    let i = c.loop-at.invariant in
    let m = c.members-joined.ensures in
    let p = c.pass-here.ensures in
    record {
      onward = omega (arith, p.passed.onward, m.onward, i.onward);
      inside = p.passed.inside _ (omega arith) (m.inside _ (omega arith) i.inside);
      scanned = p.passed.scanned c.members-joined.result.scan refl ∙ m.scanned _ _ refl ∙ i.scanned;
      few = rw m.exclusions_same i.few;
      size = i.size;
      below = i.below;
      assigned_is = p.passed.assigned_is ∙ m.folded assigning (λ x y. refl) _ ∙ i.assigned_is;
      granted_is = p.granted_is ∙ m.folded granting (λ x y. refl) _ ∙ i.granted_is;
      juniors_is = p.passed.juniors_is ∙ m.folded ordering (λ x y. refl) _ ∙ i.juniors_is;
      limits_is = p.limits_is _ ∙ m.folded limiting (λ x y. refl) _ ∙ i.limits_is;
      places_are = rw (m.exclusions_same, p.places_are, m.places_are) i.places_are;
    }

pub returns-in_err-at_place : goal.returns-in_err-at_place
returns-in_err-at_place c =
    let i = c.loop-at.invariant in
    let m = c.members-joined.ensures in
    let p = c.pass-here.ensures in
    let e : c.from_residual.result ≡ Err c.in_err-at_place.field-0.0 = search rules in
    let k = c.in_err-at_place.ensures.refused in
    let f = rw k.0 at c.step-taken.ensures in
    let some = (number_of-numbered c.in_err-at_place.field-0.0.reason).some in
    let more : c.pass-here.result.place + 1 < c.args.image.now.count = omega (arith, c.if-end-here.false, c.last-end.ensures) in
    let lt : c.pass-here.result.place < c.args.image.now.count = omega (arith, more) in (
      ap checked_of e
          ∙ rw k.1
          (stops _ _ _ _ _ _ _ _ _ _ lt c.word-w.ensures c.decode-word.ensures.0 (before_last _ _ _ _ _ _ _ more f.faulty) _
          (λ z. absurd (omega (arith, some, z)))
          (p.passed.scanned c.members-joined.result.scan refl ∙ m.scanned _ _ refl ∙ i.scanned)),
      λ g z. cc,
    )

pub next-t-requires : goal.next-t-requires
next-t-requires c =
    let f = rw c.in_ok-at_place.ensures.done at c.step-taken.ensures in
    (c.decode-word.ensures.1, due_of _ _ _ _ _ _ f.faulty refl)

pub loop-at-preserved : goal.loop-at-preserved
unfolding assigning granting ordering limiting
loop-at-preserved c =
    let i = c.loop-at.invariant in
    let m = c.members-joined.ensures in
    let p = c.pass-here.ensures in
    let f = rw c.in_ok-at_place.ensures.done at c.step-taken.ensures in
    let more : c.pass-here.result.place + 1 < c.args.image.now.count = omega (arith, c.if-end-here.false, c.last-end.ensures) in
    let lt : c.pass-here.result.place < c.args.image.now.count = omega (arith, more) in
    let due = due_of _ _ _ _ _ _ f.faulty refl in
    let noted = f.places_is refl in
    let few : c.members-joined.result.scan.exclusions ≤ 32 = rw m.exclusions_same i.few in
    rw c.past-at.ensures.place
    (record {
      onward = omega (arith, p.passed.onward, m.onward);
      inside = omega (arith, more);
      scanned =
          goes _ _ _ _ _ _ _ _ _ _ lt c.word-w.ensures c.decode-word.ensures.0 (before_last _ _ _ _ _ _ _ more f.faulty) _ refl _ _ _ (f.assigned_is refl)
          c.next-t.ensures c.past-at.ensures.sum
          (p.passed.scanned c.members-joined.result.scan refl ∙ m.scanned _ _ refl ∙ i.scanned);
      few = subst (λ (x : Scan). x.exclusions ≤ 32) (sym c.next-t.ensures) (next_few c.members-joined.result.scan _ due few);
      size = ap length noted ∙ length-noted _ _ _ _ ∙ i.size;
      below = λ j. subst (λ (v : List ℕ). get_or v j 0 < c.args.image.now.count) (sym noted) (noted_below _ _ _ _ _ lt i.below j);
      assigned_is =
          fold_next _ _ _ _ _ _ _ _ _ lt c.word-w.ensures c.decode-word.ensures.0 (f.assigned_is refl)
          (p.passed.assigned_is ∙ m.folded assigning (λ x y. refl) _ ∙ i.assigned_is);
      granted_is =
          fold_next _ _ _ _ _ _ _ _ _ lt c.word-w.ensures c.decode-word.ensures.0 (f.granted_is refl)
          (p.granted_is ∙ m.folded granting (λ x y. refl) _ ∙ i.granted_is);
      juniors_is =
          fold_next _ _ _ _ _ _ _ _ _ lt c.word-w.ensures c.decode-word.ensures.0 (f.juniors_is refl)
          (p.passed.juniors_is ∙ m.folded ordering (λ x y. refl) _ ∙ i.juniors_is);
      limits_is =
          fold_next _ _ _ _ _ _ _ _ _ lt c.word-w.ensures c.decode-word.ensures.0 (f.limits_is refl)
          (p.limits_is _ ∙ m.folded limiting (λ x y. refl) _ ∙ i.limits_is);
      places_are =
          places_next _ _ _ _ _ _ _ _ _ lt i.size c.word-w.ensures c.decode-word.ensures.0 due c.next-t.ensures noted
          ∙ (rw (m.exclusions_same, p.places_are, m.places_are) i.places_are);
    })

pub returns-in_err-head : goal.returns-in_err-head
returns-in_err-head c =
    let i = c.loop-at.invariant in
    let e : c.from_residual-in_err-head.result ≡ Err c.in_err-head.field-0.0 = search rules in
    let end : c.loop-at.at.place + 1 ≡ c.args.image.now.count = omega (arith, c.loop-at-test.false, c.requires, i.inside, c.last-end.ensures) in (
      ap checked_of e ∙ last_scan _ _ _ end _ _ _ _ _ _ (c.in_err-head.ensures.scanned c.loop-at.tables.authorized c.loop-at.t refl) i.scanned,
      λ g z. cc,
    )

pub slice_bounds-places-end : goal.slice_bounds-places-end
slice_bounds-places-end c = omega (arith, c.loop-at.invariant.few, c.loop-at.invariant.size)

pub slice_bounds-exclusions_at-end : goal.slice_bounds-exclusions_at-end
slice_bounds-exclusions_at-end c =
    sym (length-take-le _ c.loop-at.places (omega (arith, c.loop-at.invariant.few, c.loop-at.invariant.size)))

pub exclusions_at-requires : goal.exclusions_at-requires
exclusions_at-requires c =
    let size = length-take-le c.loop-at.t.exclusions c.loop-at.places (omega (arith, c.loop-at.invariant.few, c.loop-at.invariant.size)) in
    (omega (arith, size, c.loop-at.invariant.few), taken_below c.loop-at.t.exclusions c.args.image.now.count c.loop-at.places c.loop-at.invariant.below)

pub returns : goal.returns
unfolding assigning granting ordering limiting
returns c =
    let i = c.loop-at.invariant in
    let end : c.loop-at.at.place + 1 ≡ c.args.image.now.count = omega (arith, c.loop-at-test.false, c.requires, i.inside, c.last-end.ensures) in
    let ee = last_entry _ _ _ end _ (c.in_ok-head.ensures.ended _ refl) in (
      last_scan _ _ _ end _ _ _ _ _ _ (c.in_ok-head.ensures.scanned c.loop-at.tables.authorized c.loop-at.t refl) i.scanned,
      λ g z. record {
        assigned_is = fold_last _ _ _ end ee assigning _ _ refl i.assigned_is;
        granted_is = fold_last _ _ _ end ee granting _ _ refl i.granted_is;
        juniors_is = fold_last _ _ _ end ee ordering _ _ refl i.juniors_is;
        limits_is = fold_last _ _ _ end ee limiting _ _ refl i.limits_is;
        exclusions_are =
            c.exclusions_at.ensures
            ∙ ap (map (exclusion_at c.args.image.now.bytes.now c.args.image.now.count))
            (places_last _ _ _ end ee c.loop-at.t c.loop-at.places i.size ∙ i.places_are)
            ∙ sym (exclusions_placed c.args.image.now.bytes.now c.args.image.now.count (c.args.image.now.count - 1) 1 (omega (arith, c.requires)));
      },
    )
