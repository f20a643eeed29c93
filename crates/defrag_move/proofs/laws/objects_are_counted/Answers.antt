use Rattle.defrag_move.proofs.Counts.{as_many}
use Rattle.defrag_move.proofs.Kept.{matches}
use Rattle.defrag_move.proofs.Places.{len-places_named}
use Rattle.defrag_move.proofs.laws.objects_are_counted.Goals as goal

pub returns-clause-objects : goal.returns-clause-objects
returns-clause-objects c = λ s consistent. as_many s.start s.heaps.count s.heaps.size 0 s.table s.heaps.objects consistent.heaps.stand (matches s consistent)

pub returns-clause-places : goal.returns-clause-places
returns-clause-places c = len-places_named
