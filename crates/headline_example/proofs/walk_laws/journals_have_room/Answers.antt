use Rattle.headline_example.proofs.Room.{journals_have_room}
use Rattle.headline_example.proofs.walk_laws.journals_have_room.Goals as goal

pub returns : goal.returns
returns c = journals_have_room c.bases_have_own_slots.ensures.kept
