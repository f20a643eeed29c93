use Rattle.std.proofs.Common.{◌≡◌, drop}
use Rattle.arena_meaning.specs.Arena.{places_named}
use Rattle.arena_meaning.specs.Changes.{with_places}
use Rattle.defrag_move.proofs.arena.Arena.pins_of.Given as goal

-- the set with the places that the words which are left name is the whole one
abbrev pub invariant-loop-i : goal.invariant-loop-i
invariant-loop-i l = record {
  room : l.into.room ≡ l.fn.into.room;
  places : with_places (places_named l.self (drop l.i l.words.words)) l.into.places ≡ with_places (places_named l.self l.words.words) l.fn.into.places;
}
