use Rattle.std.proofs.Common.{◌≡◌, sym, ap, ◌∙◌, arith}
use Rattle.std.specs.FinSet as set
use Rattle.std.proofs.lemmas.List.{drop_all}
use Rattle.arena_meaning.specs.Arena.{places_named}
use Rattle.arena_meaning.specs.Changes.{with_places}
use Rattle.defrag_move.proofs.Places.{members-with_places, place_room}
use Rattle.defrag_move.proofs.arena.Arena.pins_of.Goals as goal

pub add-requires : goal.add-requires
add-requires c = λ absent.
    rw c.loop-i.invariant.room
    (place_room c.args.self.now c.args.words.now.words c.loop-i.i (omega (arith, c.loop-i-test.true, c.len-i-end.ensures.number)) c.place_at.result c.place_at.ensures c.loop-i.into.places c.args.into.now.places c.loop-i.invariant.places c.in-Some.place c.args.into.now.room c.in-Some.is c.requires absent)

pub returns-clause-members : goal.returns-clause-members
returns-clause-members c = λ at.
    let past = drop_all c.loop-i.i c.args.words.now.words (omega (arith, c.loop-i-test.false, c.len-i-end.ensures.number)) in
    let whole : c.loop-i.into.places ≡ with_places (places_named c.args.self.now c.args.words.now.words) c.args.into.now.places = ap (λ ws. with_places (places_named c.args.self.now ws) c.loop-i.into.places) (sym past) ∙ c.loop-i.invariant.places in
    let members = members-with_places (places_named c.args.self.now c.args.words.now.words) c.args.into.now.places at in
    (λ there. members.0 (ap (λ s. set.contains s at) (sym whole) ∙ there), λ either. ap (λ s. set.contains s at) whole ∙ members.1 either)
