use Rattle.std.proofs.Common.{◌≡◌, true, false, cond, eqb, Some, None, sym, ap, ◌∙◌}
use Rattle.std.proofs.lemmas.Bool.{eqb-true, eq-eqb, ne_eqb, false≢true}
use Rattle.sub_heaps.specs.ByPlace.{object_at}
use Rattle.move_plan.proofs.Judged.{object_at-first, if_there}
use Rattle.move_plan.proofs.legality.is_of_object.Goals as goal

-- the next object starts there
pub returns-then-object-next : goal.returns-then-object-next
returns-then-object-next c =
    let h = c.args.heaps.now in
    let o = c.in-Some.object in
    let here : eqb o.at c.args.next.from ≡ true = eq-eqb o.at c.args.next.from c.if-object-next.true in
    let is : object_at c.args.next.from h.objects ≡ Some o = object_at-first h.count h.size 0 c.args.next.from h.objects c.next_object.ensures.sound.stand ∙ ap (if_there c.args.next.from) (sym c.in-Some.ensures.next) ∙ ap (λ b. cond b (Some o) None) here in
    rw is ((λ same. eqb-true o.size c.args.next.size same), (λ same. eq-eqb o.size c.args.next.size same))

-- it starts above
pub returns-else-object-next : goal.returns-else-object-next
returns-else-object-next c =
    let h = c.args.heaps.now in
    let o = c.in-Some.object in
    let other : eqb o.at c.args.next.from ≡ false = ne_eqb o.at c.args.next.from c.if-object-next.false in
    let is : object_at c.args.next.from h.objects ≡ None = object_at-first h.count h.size 0 c.args.next.from h.objects c.next_object.ensures.sound.stand ∙ ap (if_there c.args.next.from) (sym c.in-Some.ensures.next) ∙ ap (λ b. cond b (Some o) None) other in
    rw is ((λ same. absurd (c.if-object-next.false (eqb-true o.at c.args.next.from same))), (λ none. absurd none))

-- none starts there or above
pub returns-in-None : goal.returns-in-None
returns-in-None c =
    let h = c.args.heaps.now in
    let is : object_at c.args.next.from h.objects ≡ None = object_at-first h.count h.size 0 c.args.next.from h.objects c.next_object.ensures.sound.stand ∙ ap (if_there c.args.next.from) (sym c.in-None.ensures.next) in
    rw is ((λ same. absurd (false≢true same)), (λ none. absurd none))
