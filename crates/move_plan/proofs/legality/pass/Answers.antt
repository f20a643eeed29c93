use Rattle.std.proofs.Common.{◌≤◌, ◌⊎◌, ◌↔◌, ◌∷◌, length, refl, sym, ap, inl, inr, arith}
use Rattle.std.specs.List.{All, AllByRecursion as Each}
use Rattle.std.proofs.lemmas.Bool.{false≢true}
use Rattle.std.proofs.lemmas.List.Elements.{recursion_from_All, All-from_recursion}
use Rattle.sub_heaps.specs.ByPlace.{end_of}
use Rattle.sub_heaps.proofs.Standing.{Each-weaker, start_above}
use Rattle.move_plan.specs.inner.Spans.{IsClearOf}
use Rattle.move_plan.proofs.Passing.{clear_rest, rest_clear, beside_first}
use Rattle.move_plan.proofs.Rest.{IsStep-found, rest_from, rest_none, stand_rest}
use Rattle.move_plan.proofs.legality.pass.Goals as goal

pub loop-object-init : goal.loop-object-init
loop-object-init c =
    let P = IsClearOf c.args.origins.now c.args.target in
    let objects = c.args.heaps.now.objects in
    let start = c.args.start in
    let target = c.args.target in
    let below : Each (λ o. (start ≤ o.at) ⊎ (end_of o ≤ target.at)) objects = recursion_from_All (λ o. (start ≤ o.at) ⊎ (end_of o ≤ target.at)) objects c.requires.below in
    record {
      below = All-from_recursion (λ o. (start ≤ o.at) ⊎ (end_of o ≤ end_of target)) objects (Each-weaker (λ o. (start ≤ o.at) ⊎ (end_of o ≤ target.at)) (λ o. (start ≤ o.at) ⊎ (end_of o ≤ end_of target)) (λ o b. elim b [ inl high ↦ inl high | inr low ↦ inr (omega (arith, low)) ]) objects below);
      clear = (
        (λ each. All-from_recursion P objects (clear_rest start P objects (Each-weaker (λ o. (start ≤ o.at) ⊎ (end_of o ≤ target.at)) (λ o. (start ≤ o.at) ⊎ P o) (λ o b. elim b [ inl high ↦ inl high | inr low ↦ inr (inl (inl low)) ]) objects below) each)),
        (λ all. rest_clear start P objects (recursion_from_All P objects all)),
      );
    }

-- the next object isn't clear
pub returns-then-not-is_clear_of-clause-clear : goal.returns-then-not-is_clear_of-clause-clear
returns-then-not-is_clear_of-clause-clear c =
    let step = IsStep-found c.args.heaps.now c.next_object.ensures.sound c.loop-object.from c.in-Some.object c.in-Some.ensures.next in
    let all = rw step.left at c.loop-object.invariant.clear in
    ((λ is. absurd (false≢true is)), (λ every. c.if-not-is_clear_of.ensures.1 (all.1 every).0))

pub overflow_add-end : goal.overflow_add-end
overflow_add-end c =
    let step = IsStep-found c.args.heaps.now c.next_object.ensures.sound c.loop-object.from c.in-Some.object c.in-Some.ensures.next in
    omega (arith, step.within, c.next_object.ensures.sound.shape.whole_bounded)

-- the next object ends above the target, so what follows stands above it
pub returns-then-from-clause-clear : goal.returns-then-from-clause-clear
returns-then-from-clause-clear c =
    let h = c.args.heaps.now in
    let P = IsClearOf c.args.origins.now c.args.target in
    let o = c.in-Some.object in
    let target = c.args.target in
    let sound = c.next_object.ensures.sound in
    let step = IsStep-found h sound c.loop-object.from o c.in-Some.ensures.next in
    let all : Each P (o ∷ rest_from (end_of o) h.objects) ↔ All P h.objects = rw step.left at c.loop-object.invariant.clear in
    let above = start_above h.count h.size (end_of o) (rest_from (end_of o) h.objects) (stand_rest h.count h.size (end_of o) 0 h.objects sound.stand) in
    let ends : end_of target ≤ end_of o = omega arith in
    let rest = Each-weaker (λ x. end_of o ≤ x.at) P (λ x high. inl (inr (omega (arith, high, ends)))) (rest_from (end_of o) h.objects) above in
    ((λ _. all.0 (c.if-not-is_clear_of.ensures.0 refl, rest)), (λ _. refl))

pub loop-object-smaller : goal.loop-object-smaller
loop-object-smaller c =
    let step = IsStep-found c.args.heaps.now c.next_object.ensures.sound c.loop-object.from c.in-Some.object c.in-Some.ensures.next in
    omega (arith, ap length step.left)

pub loop-object-preserved : goal.loop-object-preserved
loop-object-preserved c =
    let h = c.args.heaps.now in
    let P = IsClearOf c.args.origins.now c.args.target in
    let o = c.in-Some.object in
    let target = c.args.target in
    let sound = c.next_object.ensures.sound in
    let step = IsStep-found h sound c.loop-object.from o c.in-Some.ensures.next in
    let all : Each P (o ∷ rest_from (end_of o) h.objects) ↔ All P h.objects = rw step.left at c.loop-object.invariant.clear in
    let ends : end_of o ≤ end_of target = omega arith in
    let beside = beside_first h.count h.size 0 c.loop-object.from h.objects o sound.stand (sym c.in-Some.ensures.next) in
    record {
      below = All-from_recursion (λ x. (end_of o ≤ x.at) ⊎ (end_of x ≤ end_of target)) h.objects (Each-weaker (λ x. (end_of o ≤ x.at) ⊎ (end_of x ≤ end_of o)) (λ x. (end_of o ≤ x.at) ⊎ (end_of x ≤ end_of target)) (λ x b. elim b [ inl high ↦ inl high | inr low ↦ inr (omega (arith, low, ends)) ]) h.objects beside);
      clear = ((λ each. all.0 (c.if-not-is_clear_of.ensures.0 refl, each)), (λ every. (all.1 every).1));
    }

-- none is left
pub returns-clause-clear : goal.returns-clause-clear
returns-clause-clear c =
    let none = rest_none c.loop-object.from c.args.heaps.now.objects (sym c.in_default.ensures.next) in
    let all = rw none at c.loop-object.invariant.clear in
    ((λ _. all.0 tt), (λ _. refl))
