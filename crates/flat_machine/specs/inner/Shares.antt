-- What threads share, as it is kept.
use Rattle.std.specs.Prelude.{◌≡◌, ℕ, ◌<◌, ◌≤◌, List, length}
use Rattle.ak_trace.specs.declared.entry.Entry.{Entry}
use Rattle.handle_table.specs.Words.{WordList}
use Rattle.move_plan.specs.Holding.{MoveList, PinSet}
use Rattle.arena_meaning.specs.Arena.{Storage, IsConsistent}
use Rattle.flat_meaning.specs.Memory.{Made}
use Rattle.flat_machine.specs.declared.made.MadeThread.{MadeThread}

-- a thread that was made
abbrev pub made_view : MadeThread → Made
made_view t = record { function = t.function; argument = t.argument; result = t.result }

-- objects and table agree, no limit is passed, and a barrier has the room that it needs
pub record IsKept (storage : Storage) (output : List ℕ) (output_limit : ℕ) (threads : List MadeThread) (made : List Entry) (plan : MoveList) (pins : PinSet) (words : WordList) : Type 0 where
  pub consistent : IsConsistent storage
  pub printed : length output ≤ output_limit
  pub output_small : output_limit ≤ 16777216
  pub some_thread : 0 < length threads
  pub few_threads : length threads ≤ 64
  pub few_entries : length made ≤ 66
  pub plan_room : plan.room ≡ storage.heaps.most
  pub pins_room : pins.room ≡ 65536
  pub words_room : words.room ≡ 65536
