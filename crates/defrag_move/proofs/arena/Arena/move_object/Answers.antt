use Rattle.std.proofs.Common.{◌+◌, ◌≤◌, vec_capacity, sym, ap, subst}
use Rattle.std.proofs.lemmas.Bool.{false≢true}
use Rattle.sub_heaps.specs.SubHeaps.{SubHeaps}
use Rattle.defrag_move.proofs.Turns.{IsConsistent-moved_storage, has_from, has_to, moved_storage, not_none, owner_in_use, shift_allowed}
use Rattle.defrag_move.proofs.arena.Arena.move_object.Goals as goal

pub returns-in_default-clause-moved : goal.returns-in_default-clause-moved
returns-in_default-clause-moved c = absurd (not_none _ c.args.self.now c.self.view_is c.self.invariant.0 c.args.next c.requires c.in_default.ensures.next)

pub shift-requires : goal.shift-requires
shift-requires c = shift_allowed _ c.args.self.now c.self.view_is c.self.invariant.0 c.args.next c.requires c.in-Some.object c.in-Some.ensures.next

pub set-requires : goal.set-requires
set-requires c = owner_in_use _ c.args.self.now c.self.view_is c.self.invariant.0 c.args.next c.requires c.in-Some.object c.in-Some.ensures.next

pub unreachable-requires : goal.unreachable-requires
unreachable-requires c =
    let from = ap (λ n. c.self.inside.start + n) c.from.ensures in
    let to = ap (λ n. c.self.inside.start + n) c.from-2.ensures in
    false≢true (c.in-Err.ensures.within.1 (
      has_to _ c.args.self.now c.self.view_is c.self.invariant.0 c.args.next c.requires c.in-Some.object c.in-Some.ensures.next _ _ _ from to c.from-3.ensures,
      has_from _ c.args.self.now c.self.view_is c.self.invariant.0 c.args.next c.requires c.in-Some.object c.in-Some.ensures.next _ _ _ from to c.from-3.ensures,
    ))

pub invariant_of-self : goal.invariant_of-self
invariant_of-self c = (
  IsConsistent-moved_storage _ c.args.self.now c.self.view_is c.self.invariant.0 c.args.next c.requires c.in-Some.object c.in-Some.ensures.next _ _ _
      (ap (λ n. c.self.inside.start + n) c.from.ensures) (ap (λ n. c.self.inside.start + n) c.from-2.ensures) c.from-3.ensures
      c.set.new.self c.shift.new.self c.copy.new.self c.set.ensures.set c.shift.ensures.moved c.in-Ok.ensures.copied,
  subst (λ (h : SubHeaps). h.most ≤ vec_capacity c.self.inside.owners) (sym c.shift.ensures.moved) c.self.invariant.1,
)

pub returns-clause-moved : goal.returns-clause-moved
returns-clause-moved c =
    moved_storage _ c.args.self.now c.self.view_is c.self.invariant.0 c.args.next c.requires c.in-Some.object c.in-Some.ensures.next _ _ _
    (ap (λ n. c.self.inside.start + n) c.from.ensures) (ap (λ n. c.self.inside.start + n) c.from-2.ensures) c.from-3.ensures
    c.set.new.self c.shift.new.self c.copy.new.self c.set.ensures.set c.shift.ensures.moved c.in-Ok.ensures.copied

pub returns-clause-consistent : goal.returns-clause-consistent
returns-clause-consistent c = (invariant_of-self c).0
