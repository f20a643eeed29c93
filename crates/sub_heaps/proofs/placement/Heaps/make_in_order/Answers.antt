use Rattle.std.proofs.Common.{◌≡◌, ◌+◌, ◌≤◌, ◌++◌, length, vec_capacity, sym, subst}
use Rattle.sub_heaps.specs.SubHeaps.{SubHeaps, IsSound}
use Rattle.sub_heaps.specs.inner.Trees.{objects_of}
use Rattle.sub_heaps.specs.inner.Walks.{walked, owners_met}
use Rattle.sub_heaps.proofs.Fits.{objects_in_order}
use Rattle.sub_heaps.proofs.Kept.{tree_ordered}
use Rattle.sub_heaps.proofs.Shifting.{IsKept-walked}
use Rattle.sub_heaps.proofs.placement.Heaps.make_in_order.Goals as goal

pub walk-requires-clause-end : goal.walk-requires-clause-end
walk-requires-clause-end c = c.end-end.ensures c.self.inside.size c.self.invariant.balanced

pub walk-requires-clause-ordered : goal.walk-requires-clause-ordered
walk-requires-clause-ordered c = tree_ordered c.self.inside.count c.self.inside.size c.self.inside.most c.self.inside.tree _ _ c.self.invariant

pub walk-requires-clause-in_order : goal.walk-requires-clause-in_order
walk-requires-clause-in_order c =
    let sound = subst (λ (h : SubHeaps). IsSound (record h { objects = walked c.args.moves.now h.objects })) (sym c.self.view_is) c.requires in
    objects_in_order (record { count = c.self.inside.count; size = c.self.inside.size; most = c.self.inside.most; objects = walked c.args.moves.now (objects_of c.self.inside.tree) }) sound

pub invariant_of-self : goal.invariant_of-self
invariant_of-self c =
    let sound = subst (λ (h : SubHeaps). IsSound (record h { objects = walked c.args.moves.now h.objects })) (sym c.self.view_is) c.requires in
    IsKept-walked c.self.inside.count c.self.inside.size c.self.inside.most c.self.inside.tree _ _ c.self.invariant c.args.moves.now c.walk.new.tree sound c.walk.ensures.tree c.walk.ensures.objects

pub returns-clause-owners : goal.returns-clause-owners
returns-clause-owners c =
    subst (λ (h : SubHeaps). length c.args.owners.now.items + length c.args.moves.now ≤ vec_capacity c.args.owners.now → c.walk.new.owners.items ≡ c.args.owners.now.items ++ owners_met c.args.moves.now h.objects) c.self.view_is c.walk.ensures.owners
