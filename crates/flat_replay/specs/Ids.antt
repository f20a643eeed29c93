-- The ids that a journal tells of as handed out.
use Rattle.std.specs.Prelude.{ℕ, ◌==◌, ◌&&◌, ◌||◌, if◌then◌else◌, List, [], ◌∷◌}
use Rattle.std.specs.List.{flat_map}
use Rattle.ak_trace.specs.declared.entry.Entry.{Entry}
use Rattle.ak_trace.specs.Hows as how
use Rattle.ak_trace.specs.Kinds as kind

-- that of an allocation that got an object, at its thread's step or served at a barrier
abbrev pub entry_ids : Entry → List ℕ
entry_ids e = if ((e.kind == kind.turn) || (e.kind == kind.served)) && (e.how == how.malloc_got) then e.id ∷ [] else []

-- those of entries, in order
abbrev pub ids_told : List Entry → List ℕ
ids_told log = flat_map entry_ids log
