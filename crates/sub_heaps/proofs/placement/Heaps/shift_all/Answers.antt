use Rattle.std.proofs.Common.{◌≡◌, ℕ, List, ◌++◌, length, IsSome, ap, sym, ◌∙◌, subst, arith}
use Rattle.std.proofs.lemmas.List.Elements.{recursion_from_All}
use Rattle.sub_heaps.specs.declared.objects.Object.{Object}
use Rattle.sub_heaps.specs.ByPlace.{object_at}
use Rattle.sub_heaps.specs.Moving.{AreOwners, carried}
use Rattle.sub_heaps.specs.SubHeaps.{SubHeaps, IsSound}
use Rattle.sub_heaps.specs.inner.Walks.{walked, owners_met}
use Rattle.sub_heaps.proofs.Carried.{walked-carried}
use Rattle.sub_heaps.proofs.Fits.{objects_in_order}
use Rattle.sub_heaps.proofs.Noted.{owners_met_all}
use Rattle.sub_heaps.proofs.placement.Heaps.shift_all.Goals as goal

pub make_in_order-requires : goal.make_in_order-requires
make_in_order-requires c =
    let sound = subst IsSound c.self.view_is c.self.invariant.sound in
    let there = recursion_from_All (λ m. IsSome (object_at m.from c.args.self.now.objects)) c.args.moves.now c.requires.objects in
    let same = walked-carried 0 c.args.moves.now c.args.self.now.objects (objects_in_order c.args.self.now sound) c.requires.rising there in
    subst (λ (xs : List Object). IsSound (record c.args.self.now { objects = xs })) (sym same) c.requires.stand

pub returns-clause-moved : goal.returns-clause-moved
returns-clause-moved c =
    let sound = subst IsSound c.self.view_is c.self.invariant.sound in
    let there = recursion_from_All (λ m. IsSome (object_at m.from c.args.self.now.objects)) c.args.moves.now c.requires.objects in
    let same = walked-carried 0 c.args.moves.now c.args.self.now.objects (objects_in_order c.args.self.now sound) c.requires.rising there in
    c.make_in_order.ensures.made ∙ ap (λ (xs : List Object). record c.args.self.now { objects = xs }) same

pub returns-clause-owners : goal.returns-clause-owners
returns-clause-owners c =
    let sound = subst IsSound c.self.view_is c.self.invariant.sound in
    let there = recursion_from_All (λ m. IsSome (object_at m.from c.args.self.now.objects)) c.args.moves.now c.requires.objects in
    let noted = c.make_in_order.ensures.owners (omega (arith, ap (λ (os : List ℕ). length os) c.clear.ensures.items, c.clear.ensures.capacity, c.requires.room)) in
    let only : c.make_in_order.new.owners.items ≡ owners_met c.args.moves.now c.args.self.now.objects = noted ∙ ap (λ (os : List ℕ). os ++ owners_met c.args.moves.now c.args.self.now.objects) c.clear.ensures.items in
    subst (λ (os : List ℕ). AreOwners c.args.moves.now c.args.self.now.objects os) (sym only) (owners_met_all 0 c.args.moves.now c.args.self.now.objects (objects_in_order c.args.self.now sound) c.requires.rising there)
