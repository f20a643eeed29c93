-- Which bytes steps of small codes read and write, and which threads want room, worked out by hand.
use Rattle.std.specs.Prelude.{◌≡◌, ℕ, Bool, true, false, List, [], ◌∷◌, ◌++◌, Option, Some, None}
use Rattle.std.specs.Option.{option_map}
use Rattle.block_store.specs.Runs.{own_at}
use Rattle.flat_meaning.specs.Image.{Image, structured_image}
use Rattle.flat_meaning.specs.Accesses.{wait}
use Rattle.flat_meaning.specs.Stages.{Stage, thread_at}
use Rattle.flat_meaning.specs.Ready.{wants_room}
use Rattle.flat_meaning.specs.Events.{MachineState, Event, local, look, act, after_all, first_state}
use Rattle.flat_meaning.specs.Touched.{Touched, reading, writing, touched_at}
use Rattle.flat_meaning.specs.SmallCodes.{structured_main, small, counting_up, unended_text}
use Rattle.flat_meaning.specs.Rows.{go, gets, looks, steps}
use Rattle.flat_meaning.specs.ThreadRows.{with_thread, main_locks, locking}

-- what the step at which a thread stands reads and writes
abbrev pub touched_if : {P : Type 0} → Image P → MachineState P → Option (Stage P) → List Touched
touched_if x s None = []
touched_if x s (Some stage) = let q = (thread_at x stage).top in touched_at x.layout q.own s.memory (x.flow.here q.at)

-- after these events
abbrev pub touched_after : {P : Type 0} → Image P → List Event → (thread : ℕ) → List Touched
touched_after x es thread = let s = after_all x es (first_state x) in touched_if x s (own_at s.own thread)

-- thread 0 wants room after these events
abbrev pub room_is_wanted : {P : Type 0} → Image P → List Event → Option Bool
room_is_wanted x es = option_map (wants_room x) (own_at (after_all x es (first_state x)).own 0)

-- what they come to
pub record TouchRowsHold : Type 0 where
  -- an int in the object at place 16
  pub store_there : touched_after (structured_image (structured_main counting_up (Some 6)) (small 10)) (go ∷ gets 3 16 ∷ go ∷ looks ∷ []) 0 ≡ writing 4 4176
  -- two letters behind which there is no byte, and the second of them where only one may come
  pub text_there : touched_after (structured_image (structured_main unended_text (Some 6)) (small 10)) (go ∷ gets 0 48 ∷ go ∷ looks ∷ steps ∷ []) 0 ≡ reading 2 4222
  pub text_with_room_for_one : touched_after (structured_image (structured_main unended_text (Some 6)) (small 1)) (go ∷ gets 0 48 ∷ go ∷ looks ∷ steps ∷ []) 0 ≡ reading 2 4222
  -- a lock of a free mutex, and of one that another thread holds
  pub free_mutex : touched_after (structured_image (with_thread main_locks) (small 0)) (local 0 ∷ look 0 ∷ look 0 ∷ local 0 ∷ look 0 ∷ []) 0 ≡ reading 8 4096 ++ writing 8 4096
  pub held_mutex : touched_after (structured_image (with_thread main_locks) (small 0)) locking 1 ≡ reading 8 4096
  -- a thread wants room that waits at a malloc
  pub wants : room_is_wanted (structured_image (structured_main counting_up (Some 6)) (small 10)) (go ∷ act 0 wait ∷ []) ≡ Some true
  pub has : room_is_wanted (structured_image (structured_main counting_up (Some 6)) (small 10)) (go ∷ gets 3 16 ∷ []) ≡ Some false
