-- What a journal of a small code made by hand says: it stops first at an operation on a value of a kind that it doesn't take.
use Rattle.std.specs.Prelude.{List, [], ◌∷◌, None}
use Rattle.ak_trace.specs.declared.entry.Entry.{Entry}
use Rattle.ak_trace.specs.Rows.{row}
use Rattle.flat_simulation.specs.KindRows.{by_hand}
use Rattle.flat_replay.specs.Kinds.{MeetsKindAt, IsFirstStop}

-- main goes out, and both of its prints are done
abbrev pub prints_journal : List Entry
prints_journal = row 0 0 0 0 ∷ row 2 0 1 0 ∷ row 2 0 1 0 ∷ []

-- of the code that adds a pointer to a number before its second print: behind one turn there is that operation, and nothing stops before
pub record FirstStopsAreTold : Type 0 where
  pub meets : MeetsKindAt by_hand prints_journal None 1
  pub first : IsFirstStop by_hand prints_journal None 1
