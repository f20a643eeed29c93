use Rattle.std.proofs.Common.{◌≡◌, ◌≤◌, vec_capacity, Some, refl, sym, ap, ◌∙◌, subst, inr}
use Rattle.std.specs.Option.{option_map}
use Rattle.handle_words.specs.Handle.{id_of}
use Rattle.handle_table.specs.Table.{IsInUse}
use Rattle.sub_heaps.specs.SubHeaps.{SubHeaps}
use Rattle.arena_meaning.specs.Arena.{Storage, object_of}
use Rattle.arena_meaning.specs.Changes.{without_id}
use Rattle.defrag_move.proofs.Steps.{IsConsistent-freed, freed_storage, starts_there}
use Rattle.defrag_move.proofs.arena.Arena.free.Goals as goal

pub free-requires : goal.free-requires
free-requires c =
    starts_there _ c.self.invariant.0 (id_of c.args.word) c.in-Some.place (subst (λ (s : Storage). Some c.in-Some.place ≡ option_map (λ o. o.at) (object_of (id_of c.args.word) s.heaps.objects)) (sym c.self.view_is) c.in-Some.ensures.place)

pub give-requires : goal.give-requires
give-requires c = rw c.id.ensures.value (subst (λ (s : Storage). IsInUse s.table (id_of c.args.word)) (sym c.self.view_is) (c.in-Some.ensures.live.0 refl).in_use)

pub invariant_of-self : goal.invariant_of-self
invariant_of-self c = (
  IsConsistent-freed _ c.self.invariant.0 (id_of c.args.word) c.in-Some.place (subst (λ (s : Storage). Some c.in-Some.place ≡ option_map (λ o. o.at) (object_of (id_of c.args.word) s.heaps.objects)) (sym c.self.view_is) c.in-Some.ensures.place)
      c.id.result c.give.new.self c.free.new.self c.id.ensures.value c.give.ensures.given c.free.ensures.freed c.free.ensures.sound,
  subst (λ (h : SubHeaps). h.most ≤ vec_capacity c.self.inside.owners) (sym c.free.ensures.freed) c.self.invariant.1,
)

pub returns-clause-answer : goal.returns-clause-answer
returns-clause-answer c = (λ ok. inr (c.in-Some.ensures.live.0 refl), λ live. refl)

pub returns-clause-freed : goal.returns-clause-freed
returns-clause-freed c = λ live.
    freed_storage _ c.self.invariant.0 (id_of c.args.word) c.in-Some.place (subst (λ (s : Storage). Some c.in-Some.place ≡ option_map (λ o. o.at) (object_of (id_of c.args.word) s.heaps.objects)) (sym c.self.view_is) c.in-Some.ensures.place)
    c.id.result c.give.new.self c.free.new.self c.id.ensures.value c.give.ensures.given c.free.ensures.freed
    ∙ ap (λ (s : Storage). without_id s (id_of c.args.word)) c.self.view_is

pub returns-clause-consistent : goal.returns-clause-consistent
returns-clause-consistent c = (invariant_of-self c).0
