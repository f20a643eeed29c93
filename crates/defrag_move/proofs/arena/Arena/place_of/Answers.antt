use Rattle.std.proofs.Common.{◌≡◌, ◌-◌, Some, None, sym, ◌∙◌, subst, arith}
use Rattle.std.specs.Option.{option_map}
use Rattle.std.proofs.lemmas.Bool.{false≢true}
use Rattle.arena_meaning.specs.Arena.{Storage, object_of}
use Rattle.defrag_move.proofs.Named.{looked-above, looked-below, place-looked, place-unused}
use Rattle.defrag_move.proofs.arena.Arena.place_of.Goals as goal

pub returns-then-not-in_use-clause-place : goal.returns-then-not-in_use-clause-place
returns-then-not-in_use-clause-place c =
    subst (λ (s : Storage). None ≡ option_map (λ o. o.at) (object_of c.args.id s.heaps.objects)) c.self.view_is
    (place-unused _ c.self.invariant.0 c.args.id (λ used. false≢true (sym c.if-not-in_use.true ∙ c.in_use.ensures.answer.1 used)))

pub overflow_sub-result : goal.overflow_sub-result
overflow_sub-result c = looked-above _ c.self.invariant.0 c.args.id (c.in_use.ensures.answer.0 c.if-not-in_use.false) c.make.result c.look-address.result c.make.ensures.handle c.make.ensures.id c.make.ensures.offset c.look-address.ensures

pub overflow_cast-result : goal.overflow_cast-result
overflow_cast-result c = omega (arith, looked-below _ c.self.invariant.0 c.args.id (c.in_use.ensures.answer.0 c.if-not-in_use.false) c.make.result c.look-address.result c.make.ensures.handle c.make.ensures.id c.make.ensures.offset c.look-address.ensures)

pub returns-clause-place : goal.returns-clause-place
returns-clause-place c =
    subst (λ (s : Storage). Some (c.look-address.result - c.self.inside.start) ≡ option_map (λ o. o.at) (object_of c.args.id s.heaps.objects)) c.self.view_is
    (place-looked _ c.self.invariant.0 c.args.id (c.in_use.ensures.answer.0 c.if-not-in_use.false) c.make.result c.look-address.result c.make.ensures.handle c.make.ensures.id c.make.ensures.offset c.look-address.ensures)
