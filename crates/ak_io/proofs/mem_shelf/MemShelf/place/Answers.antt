use Rattle.ak_io.proofs.Places.{place_of-files}
use Rattle.ak_io.proofs.mem_shelf.MemShelf.place.Goals as goal

pub returns-clause-place : goal.returns-clause-place
returns-clause-place c = rw (← c.self.view_is, place_of-files, ← c.deref.ensures.value) c.first_named.ensures
