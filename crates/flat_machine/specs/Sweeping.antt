-- What barrier makes of what threads share, and of the contexts at home.
use Rattle.std.specs.Prelude.{ℕ, ◌+◌, ◌-◌, ◌^◌, min, Bool, true, false, nat_lt, List, [], ◌∷◌, ◌++◌, length, map, sum_by, count_by, Option, Some, None}
use Rattle.std.specs.List.{range_with_len}
use Rattle.block_store.specs.Runs.{own_at}
use Rattle.sub_heaps.specs.SubHeaps.{SubHeaps, extent_of}
use Rattle.sub_heaps.specs.declared.moves.Move.{Move}
use Rattle.sub_heaps.specs.Moving.{after_moves}
use Rattle.move_plan.specs.Stretches.{room_of}
use Rattle.struct_ir.specs.Instrs.{LinearCode}
use Rattle.struct_ir.specs.Linear.{Spot}
use Rattle.flat_meaning.specs.Image.{Image}
use Rattle.flat_meaning.specs.Memory.{Made}
use Rattle.flat_meaning.specs.Accesses.{Choice, got}
use Rattle.flat_meaning.specs.Stages.{Stage, thread_at}
use Rattle.flat_meaning.specs.Ready as stages
use Rattle.flat_meaning.specs.Events.{MachineState, Serve, stage_made, moved_state, serving_state, served_state, after_serves}
use Rattle.flat_meaning.specs.Allowed.{pinned}
use Rattle.flat_rules.specs.Entries.{barrier_entry, served_entry}
use Rattle.flat_rules.specs.Machine.{Served, Swept}
use Rattle.flat_threads.specs.Contexts.{Context, own_image, standing}
use Rattle.flat_threads.specs.Waits.{waits_at}
use Rattle.run_report.specs.declared.report.LastBarrier.{LastBarrier}
use Rattle.flat_machine.specs.Choices.{served_choice, choice_here}
use Rattle.flat_machine.specs.Readiness.{wants_room}
use Rattle.flat_machine.specs.Shares.{Shared, Barriers, image_of}
use Rattle.flat_machine.specs.Slides.{slide_moves}

-- ---- all contexts are at home

-- the stage of a thread whose context is at home: a blank one hasn't begun
abbrev pub stage_or : Made → Option (Stage Spot) → Option (Stage Spot)
stage_or t None = stage_made t
stage_or t (Some stage) = Some stage

-- none, if it has ended
abbrev pub stage_home : Made → Option Context → Option (Stage Spot)
stage_home t None = None
stage_home t (Some c) = stage_or t c.stage

-- of all threads that were made
abbrev pub stages_home : List Made → List (Option Context) → List (Option (Stage Spot))
stages_home [] home = []
stages_home (t ∷ ts) [] = None ∷ stages_home ts []
stages_home (t ∷ ts) (c ∷ home) = stage_home t c ∷ stages_home ts home

-- the state
abbrev pub at_home : Shared → List (Option Context) → MachineState Spot
at_home s home = record { memory = s.memory; own = stages_home s.memory.threads home; end = None }

-- ---- moves

-- the moves that slide all objects that may move
abbrev pub moves_of : ((at : ℕ) → Bool) → SubHeaps → List Move
moves_of pinned h = slide_moves pinned h.size 0 h.objects

-- those of a barrier
abbrev pub sweep_moves : Image Spot → MachineState Spot → List Move
sweep_moves x s = moves_of (pinned x s) s.memory.storage.heaps

-- ---- served allocations

-- what is chosen for an allocation that waits
abbrev pub serve_of : Image Spot → MachineState Spot → (thread : ℕ) → Stage Spot → Serve
serve_of x s thread stage = let p = (thread_at x stage).top in record { thread = thread; choice = choice_here (served_choice s.memory.storage) p.own (x.flow.here p.at) }

-- where a thread waits at one
abbrev pub if_wants : Bool → Serve → List Serve
if_wants true v = v ∷ []
if_wants false v = []

-- of a thread
abbrev pub serves_if : Image Spot → MachineState Spot → (thread : ℕ) → Option (Stage Spot) → List Serve
serves_if x s thread None = []
serves_if x s thread (Some stage) = if_wants (stages.wants_room x stage) (serve_of x s thread stage)

-- of these threads, one after the other
abbrev pub serves_from : Image Spot → List ℕ → MachineState Spot → List Serve
serves_from x [] s = []
serves_from x (thread ∷ threads) s = let v = serves_if x s thread (own_at s.own thread) in v ++ serves_from x threads (after_serves x v s)

-- of all threads, in rising order, once the objects have moved
abbrev pub sweep_serves : Image Spot → MachineState Spot → List Serve
sweep_serves x s = serves_from x (range_with_len 0 (length s.own)) (serving_state (moved_state (sweep_moves x s) s))

-- ---- behind it

-- the state, without the old objects of reallocs that were served
abbrev pub swept_state : Image Spot → MachineState Spot → MachineState Spot
swept_state x s = served_state (after_serves x (sweep_serves x s) (serving_state (moved_state (sweep_moves x s) s)))

-- a context, where this is its thread's stage; a blank one stays blank, and one whose allocation was served waits for nothing
abbrev pub context_at : LinearCode → Context → Option (Stage Spot) → Option (Stage Spot) → Context
context_at code c None stage = c
context_at code c (Some before) None = c
context_at code c (Some before) (Some stage) = standing c (Some stage) (waits_at (own_image code) (Some stage))

-- each place of home, where these are the stages by number
abbrev pub place_at : LinearCode → Option Context → Option (Stage Spot) → Option Context
place_at code None stage = None
place_at code (Some c) stage = Some (context_at code c c.stage stage)

-- all places
abbrev pub home_at : LinearCode → List (Option (Stage Spot)) → List (Option Context) → List (Option Context)
home_at code own [] = []
home_at code [] (c ∷ home) = c ∷ home
home_at code (stage ∷ own) (c ∷ home) = place_at code c stage ∷ home_at code own home

-- home behind a barrier
abbrev pub home_after : LinearCode → Shared → List (Option Context) → List (Option Context)
home_after code s home = home_at code (swept_state (image_of code s) (at_home s home)).own home

-- ---- what is told of it

-- a context at home waits for room
abbrev pub waits_at_home : Option Context → Bool
waits_at_home None = false
waits_at_home (Some c) = wants_room c.wait

-- what an allocation that was served got
abbrev pub object_got : Choice → Option (ℕ × ℕ)
object_got (got id place) = Some (id, place)
object_got choice = None

-- a served allocation as its entry tells it
abbrev pub served_of : Serve → Served
served_of v = record { thread = v.thread; object = object_got v.choice }

-- the extents before and after the slide, and the room after it, before serving
abbrev pub last_of : ((at : ℕ) → Bool) → SubHeaps → List Move → LastBarrier
last_of pinned h moves = record { before = extent_of h; after = extent_of (after_moves moves h); room = room_of pinned (after_moves moves h) }

-- a count stays at the greatest number of 64 bits once it is there
abbrev pub counted : ℕ → ℕ
counted n = min n (2 ^ 64 - 1)

-- one barrier more
abbrev pub with_barrier : Barriers → List Move → LastBarrier → Barriers
with_barrier w moves last = record { count = counted (w.count + 1); objects = counted (w.objects + length moves); bytes = counted (w.bytes + sum_by (λ m. m.size) moves); emptied = w.emptied; last = Some last }

-- what threads share behind a barrier, with its entries, told with worker 0
abbrev pub shared_swept : Image Spot → Shared → (for_room : Bool) → MachineState Spot → Shared
shared_swept x old for_room s = let moves = sweep_moves x s in record {
  memory = (swept_state x s).memory;
  output_limit = old.output_limit;
  made = barrier_entry 0 for_room ∷ map (λ v. served_entry 0 (served_of v)) (sweep_serves x s);
  barriers = with_barrier old.barriers moves (last_of (pinned x s) s.memory.storage.heaps moves);
}

-- what a barrier comes to: it is for room where a thread waits for that
abbrev pub swept_by : LinearCode → Shared → List (Option Context) → Swept Shared Context
swept_by code s home = let x = image_of code s in record {
  shared = shared_swept x s (nat_lt 0 (count_by waits_at_home home)) (at_home s home);
  homes = home_after code s home;
  served = map served_of (sweep_serves x (at_home s home));
}
