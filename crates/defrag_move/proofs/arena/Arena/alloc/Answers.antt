use Rattle.std.proofs.Common.{◌≤◌, vec_capacity, sym, ap, ◌∙◌, subst}
use Rattle.sub_heaps.specs.SubHeaps.{SubHeaps, rounded}
use Rattle.arena_meaning.specs.Arena.{Storage}
use Rattle.arena_meaning.specs.Changes.{with_new}
use Rattle.defrag_move.proofs.Named.{fewer}
use Rattle.defrag_move.proofs.Steps.{IsConsistent-placed, given_back, placed_is}
use Rattle.defrag_move.proofs.arena.Arena.alloc.Goals as goal

pub place-requires : goal.place-requires
place-requires c = fewer _ c.self.invariant.0 c.in-Some.id c.in-Some.ensures.least.free

pub invariant_of-self-in-Some-place : goal.invariant_of-self-in-Some-place
invariant_of-self-in-Some-place c = (
  IsConsistent-placed _ c.self.invariant.0 c.in-Some.id c.in-Some-place.place c.from.result _ c.take.new.self c.set.new.self c.place.new.self c.in-Some.ensures.taken c.set.ensures.set c.from.ensures c.in-Some-place.ensures.placed c.in-Some.ensures.least.free c.in-Some-place.ensures.sound,
  subst (λ (h : SubHeaps). h.most ≤ vec_capacity c.self.inside.owners) (sym c.in-Some-place.ensures.placed) c.self.invariant.1,
)

pub returns-in-Some-place-clause-after : goal.returns-in-Some-place-clause-after
returns-in-Some-place-clause-after c =
    placed_is _ c.self.invariant.0 c.in-Some.id c.in-Some-place.place c.from.result _ c.take.new.self c.set.new.self c.place.new.self c.in-Some.ensures.taken c.set.ensures.set c.from.ensures c.in-Some-place.ensures.placed
    ∙ ap (λ (s : Storage). with_new s (record { at = c.in-Some-place.place; size = rounded c.args.bytes; owner = c.in-Some.id })) c.self.view_is

pub returns-in-Some-place-clause-consistent : goal.returns-in-Some-place-clause-consistent
returns-in-Some-place-clause-consistent c = (invariant_of-self-in-Some-place c).0

pub returns-in-None-clause-after : goal.returns-in-None-clause-after
returns-in-None-clause-after c =
    (λ i. record { start = c.self.inside.start; table = given_back c.self.inside.table c.take.new.self c.give.new.self c.in-Some.id c.in-Some.ensures.least.free c.in-Some.ensures.taken c.give.ensures.given i; heaps = c.in-None.ensures.unchanged i; bytes = c.self.inside.bytes })
    ∙ c.self.view_is
