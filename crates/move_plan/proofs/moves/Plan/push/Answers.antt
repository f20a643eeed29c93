use Rattle.std.proofs.Common.{◌≡◌, ◌<◌, List, [], ◌∷◌, ◌++◌, length, sym, ap, subst, ◌∙◌, arith, length-append}
use Rattle.sub_heaps.specs.declared.objects.Object.{Object}
use Rattle.sub_heaps.specs.ByPlace.{with_object}
use Rattle.sub_heaps.specs.declared.moves.Move.{Move}
use Rattle.move_plan.specs.Holding.{MoveList}
use Rattle.move_plan.specs.inner.Spans.{AreSorted, origin, target, origins_of, targets_of}
use Rattle.move_plan.proofs.Spans.{AreSorted-spans, length-spans, origins_push, targets_push}
use Rattle.move_plan.proofs.moves.Plan.push.Goals as goal

pub put_in_order-requires-clause-sorted : goal.put_in_order-requires-clause-sorted
put_in_order-requires-clause-sorted c = subst (AreSorted 0) (sym c.self.invariant.in_order_from) (AreSorted-spans origin 0 [] c.self.inside.moves.items tt)

pub put_in_order-requires-clause-room : goal.put_in_order-requires-clause-room
put_in_order-requires-clause-room c =
    let p = c.self.inside in
    let less : length p.moves.items < p.room = subst (λ (m : MoveList). length m.moves < m.room) (sym c.self.view_is) c.requires in
    omega (arith, less, p.origins.ok.0, ap (λ (xs : List Object). length xs) c.self.invariant.in_order_from, length-spans origin 0 [] p.moves.items, c.self.invariant.origins_fit)

pub put_in_order-requires-2-clause-sorted : goal.put_in_order-requires-2-clause-sorted
put_in_order-requires-2-clause-sorted c = subst (AreSorted 0) (sym c.self.invariant.in_order_to) (AreSorted-spans target 0 [] c.self.inside.moves.items tt)

pub put_in_order-requires-2-clause-room : goal.put_in_order-requires-2-clause-room
put_in_order-requires-2-clause-room c =
    let p = c.self.inside in
    let less : length p.moves.items < p.room = subst (λ (m : MoveList). length m.moves < m.room) (sym c.self.view_is) c.requires in
    omega (arith, less, p.targets.ok.0, ap (λ (xs : List Object). length xs) c.self.invariant.in_order_to, length-spans target 0 [] p.moves.items, c.self.invariant.targets_fit)

pub invariant_of-self : goal.invariant_of-self
invariant_of-self c =
    let p = c.self.inside in
    let ms = p.moves.items in
    let m = c.args.m in
    let less : length ms < p.room = subst (λ (m : MoveList). length m.moves < m.room) (sym c.self.view_is) c.requires in
    let turn : c.len-turn.result ≡ length ms = c.len-turn.ensures ∙ p.moves.ok.0 in
    let pushed : c.push_reserved.new.self.items ≡ ms ++ m ∷ [] = c.push_reserved.ensures.items in
    let from : c.put_in_order.new.spans.items ≡ origins_of (ms ++ m ∷ []) =
    c.put_in_order.ensures.items ∙ ap (λ o. with_object o p.origins.items) (c.origin.ensures ∙ ap (λ t. origin t m) turn) ∙ ap (λ xs. with_object (origin (length ms) m) xs) c.self.invariant.in_order_from ∙ sym (origins_push ms m) in
    let to : c.put_in_order-2.new.spans.items ≡ targets_of (ms ++ m ∷ []) =
    c.put_in_order-2.ensures.items ∙ ap (λ o. with_object o p.targets.items) (c.target.ensures ∙ ap (λ t. target t m) turn) ∙ ap (λ xs. with_object (target (length ms) m) xs) c.self.invariant.in_order_to ∙ sym (targets_push ms m) in
    record {
      few = omega (arith, less, ap (λ (xs : List Move). length xs) pushed, length-append {A = Move} ms (m ∷ []));
      bounded = c.self.invariant.bounded;
      in_order_from = from ∙ ap origins_of (sym pushed);
      in_order_to = to ∙ ap targets_of (sym pushed);
      moves_fit = omega (arith, c.self.invariant.moves_fit, c.push_reserved.ensures.capacity);
      origins_fit = omega (arith, c.self.invariant.origins_fit, c.put_in_order.ensures.capacity);
      targets_fit = omega (arith, c.self.invariant.targets_fit, c.put_in_order-2.ensures.capacity);
    }
