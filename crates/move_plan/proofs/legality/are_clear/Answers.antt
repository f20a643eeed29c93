use Rattle.std.proofs.Common.{◌≡◌, suc, ◌+◌, ◌↔◌, ◌∷◌, drop, get_or, refl, ap, ◌∙◌, arith}
use Rattle.std.proofs.Math.Seq.{drop-cons}
use Rattle.std.specs.List.{All, AllByRecursion as Each}
use Rattle.sub_heaps.specs.declared.objects.Object.{Object}
use Rattle.sub_heaps.specs.ByPlace.{end_of}
use Rattle.move_plan.specs.inner.Spans.{AreInOrder, IsClearOf}
use Rattle.move_plan.proofs.legality.are_clear.Goals as goal

pub loop-target-preserved : goal.loop-target-preserved
loop-target-preserved c =
    let objects = c.args.heaps.now.objects in
    let targets = c.args.targets.now in
    let P : Object → Type 0 = λ to. All (IsClearOf c.args.origins.now to) objects in
    let i = c.loop-target.target-index in
    let none : Object = record { at = 0; size = 0; owner = 0 } in
    let to = get_or targets i none in
    let next = i + 1 in
    let more : drop i targets ≡ to ∷ drop next targets = drop-cons targets i none c.loop-target-test.true ∙ ap (λ n. to ∷ drop n targets) {x = suc i} {y = next} (omega arith) in
    let order : AreInOrder c.loop-target.invariant.below.0 (to ∷ drop next targets) = rw more at c.loop-target.invariant.below.1.0 in
    let all : Each P (to ∷ drop next targets) ↔ All P targets = rw more at c.loop-target.invariant.clear in
    record {
      below = (end_of to, (order.1, c.in-Some.ensures.next));
      clear = ((λ each. all.0 (c.in-Some.ensures.clear.0 refl, each)), (λ every. (all.1 every).1));
    }
