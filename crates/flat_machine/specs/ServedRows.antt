-- Small codes under what the machine itself chooses, worked out by hand: calloc and realloc at once, and at a barrier.
use Rattle.std.specs.Prelude.{◌≡◌, ℕ, pos, ◌-◌, List, [], ◌∷◌, ◌++◌, codes, map, Option, Some, None}
use Rattle.std.specs.Option.{option_map}
use Rattle.ak_words.specs.IntType.{int, unsigned_long}
use Rattle.block_store.specs.Runs.{own_at}
use Rattle.sub_heaps.specs.declared.objects.Object.{Object}
use Rattle.struct_ir.specs.Instrs.{LinearCode, LinearFunc}
use Rattle.struct_ir.specs.Linear.{Spot}
use Rattle.struct_ir.specs.Nodes.{constant, global, calloc, realloc, free, start, Act, set, look}
use Rattle.ak_trace.specs.declared.endings.TrapKind.TheVariants as kinds
use Rattle.flat_meaning.specs.declared.endings.Stop.TheVariants.{AtStep}
use Rattle.flat_meaning.specs.AllocRows.{object}
use Rattle.flat_meaning.specs.Events.{MachineState, Serve, Event, local, after_all, first_state}
use Rattle.flat_meaning.specs.Image.{Limits, Image, linear_image}
use Rattle.flat_meaning.specs.SmallCodes.{instrs, behind, does, malloc_bytes, store_int, load_int, print_int}
use Rattle.flat_meaning.specs.Stages.{Stage, thread_at}
use Rattle.flat_meaning.specs.ThreadRows.{two_globals}
use Rattle.flat_rules.specs.Machine.{Turned, got, got_null, wants_room, trapped, looked, made_thread, stepped}
use Rattle.flat_machine.specs.Laws.{events_of, barrier_of}
use Rattle.flat_machine.specs.Sweeping.{sweep_serves}
use Rattle.flat_machine.specs.Turns.{malloc_turned, turned_at}

-- ---- calls

-- a thread goes on alone to where it stops; what it stands before there is done; or a barrier comes
pub data Call : Type 0 where
  goes : (thread : ℕ) → Call
  acts : (thread : ℕ) → Call
  sweeps : Call

-- the event of a thread's act
abbrev pub act_event : Image Spot → MachineState Spot → (thread : ℕ) → Option (Stage Spot) → List Event
act_event x s thread None = []
act_event x s thread (Some stage) = events_of x thread s.memory stage AtStep

-- the event of a call
abbrev pub event_of : Image Spot → MachineState Spot → Call → List Event
event_of x s (goes thread) = local thread ∷ []
event_of x s (acts thread) = act_event x s thread (own_at s.own thread)
event_of x s sweeps = barrier_of x s ∷ []

-- the state behind calls
abbrev pub behind_calls : Image Spot → List Call → MachineState Spot → MachineState Spot
behind_calls x [] s = s
behind_calls x (c ∷ calls) s = behind_calls x calls (after_all x (event_of x s c) s)

-- ---- what is told of them

-- how a thread's step went, or an allocation of it that a barrier served
pub record Told : Type 0 where
  pub thread : ℕ
  pub turned : Turned

-- but for Looks, threads that are made, and steps that neither allocate nor end the run
abbrev pub told_of : (thread : ℕ) → Turned → List Told
told_of thread looked = []
told_of thread stepped = []
told_of thread (made_thread number) = []
told_of thread turned = record { thread = thread; turned = turned } ∷ []

-- of a thread's act
abbrev pub told_act : Image Spot → MachineState Spot → (thread : ℕ) → Option (Stage Spot) → List Told
told_act x s thread None = []
told_act x s thread (Some stage) = told_of thread (turned_at x thread s.memory AtStep (thread_at x stage))

-- of an allocation that a barrier served
abbrev pub told_serve : Serve → Told
told_serve v = record { thread = v.thread; turned = malloc_turned v.choice }

-- of a call
abbrev pub told_call : Image Spot → MachineState Spot → Call → List Told
told_call x s (goes thread) = []
told_call x s (acts thread) = told_act x s thread (own_at s.own thread)
told_call x s sweeps = map told_serve (sweep_serves x s)

-- of calls
abbrev pub told_calls : Image Spot → List Call → MachineState Spot → List Told
told_calls x [] s = []
told_calls x (c ∷ calls) s = told_call x s c ++ told_calls x calls (after_all x (event_of x s c) s)

-- what is seen of a program's run: what is told, the objects with the places by id, and what was printed
pub record Seen : Type 0 where
  pub told : List Told
  pub objects : List Object
  pub table : List (Option ℕ)
  pub output : List ℕ

-- of these calls
abbrev pub seen : LinearCode → Limits → List Call → Seen
seen code limits calls =
    let x = linear_image code limits in
    let m = (behind_calls x calls (first_state x)).memory in
    record { told = told_calls x calls (first_state x); objects = m.storage.heaps.objects; table = map (option_map (λ a. a - m.storage.start)) m.storage.table; output = m.output }

-- one sub-heap of so many bytes, with so many ids
abbrev pub one_heap : (bytes ids : ℕ) → Limits
one_heap bytes ids = record { registers = 16; slots = 4; frames = 2; stack = 32; threads = 3; output = 20; heaps = 1; heap = bytes; ids = ids }

-- a function with 8 registers and 2 slots
abbrev pub function : (params : ℕ) → List Act → LinearFunc
function params all = record { params = params; temps = 8; slots = 2; objects = []; instrs = instrs all None }

-- threads with these functions, the first of which is main
abbrev pub program : List LinearFunc → LinearCode
program funcs = record { globals = two_globals; literals = []; funcs = funcs; main = 0 }

-- a thread is started with what a register has; its number is stored behind register 6
abbrev pub starts : (function argument : ℕ) → Act
starts f argument = does (start f) (behind 0 6 1 ∷ []) (Some 5) (argument ∷ [])

-- register 6 is the address of global 0, and slot 1 has it
abbrev pub before_starts : List Act
before_starts = set 6 (global 0) ∷ look 1 6 ∷ []

-- a realloc of so many bytes in place of what register 0 has
abbrev pub realloc_bytes : (to size : ℕ) → List Act
realloc_bytes to size = set 7 (constant unsigned_long (pos size)) ∷ does realloc [] (Some to) (0 ∷ 7 ∷ []) ∷ []

-- a calloc of so many elements of so many bytes
abbrev pub calloc_bytes : (to count size : ℕ) → List Act
calloc_bytes to count size = set 6 (constant unsigned_long (pos count)) ∷ set 7 (constant unsigned_long (pos size)) ∷ does calloc [] (Some to) (6 ∷ 7 ∷ []) ∷ []

-- a free of what a register has
abbrev pub frees : (temp : ℕ) → Act
frees temp = does free [] None (temp ∷ [])

-- the int at what a register points to is printed
abbrev pub shows : (temp : ℕ) → List Act
shows temp = look 0 temp ∷ load_int 3 temp ∷ print_int 3 ∷ []

-- a thread goes on, and does what it stands before then
abbrev pub goes_and_acts : (thread : ℕ) → List Call
goes_and_acts thread = goes thread ∷ acts thread ∷ []

-- ---- the old object counts as there until the last was served

-- main: t0 = malloc(16); t1 = malloc(16); two threads are started; t0 = realloc(t0, 40); t1 = calloc(2, 32)
abbrev pub counts_as_there : LinearCode
counts_as_there = program (
    function 0 (malloc_bytes 0 16 ++ malloc_bytes 1 16 ++ before_starts ++ starts 1 1 ∷ starts 2 1 ∷ realloc_bytes 0 40 ++ calloc_bytes 1 2 32)
    -- a thread: t1 = malloc(16)
    ∷ function 1 (malloc_bytes 1 16)
    -- the other one: free(t0), which is main's t1
    ∷ function 1 (frees 0 ∷ []) ∷ [])

-- main's realloc and the thread's malloc find no id; the free comes, a barrier, and main's calloc
abbrev pub counts_as_there_calls : List Call
counts_as_there_calls =
    goes_and_acts 0 ++ goes_and_acts 0 ++ goes_and_acts 0 ++ acts 0 ∷ acts 0 ∷ goes_and_acts 0
    ++ goes_and_acts 1 ++ goes_and_acts 2 ++ sweeps ∷ goes_and_acts 0

-- ---- two reallocs of one word in one barrier

-- main: three objects of 16 bytes, which stay, with gaps of 32 between them; *t0 = 7; a thread is started with t0; t1 = realloc(t0, 40); print *t1
abbrev pub two_reallocs : LinearCode
two_reallocs = program (
    function 0 (malloc_bytes 0 4 ++ malloc_bytes 1 20 ++ malloc_bytes 2 4 ++ malloc_bytes 3 20 ++ malloc_bytes 4 4 ++ frees 1 ∷ frees 3
    ∷ set 1 (constant int (pos 7)) ∷ look 0 0 ∷ store_int 0 1 ∷ before_starts ++ starts 1 0 ∷ realloc_bytes 1 40 ++ shows 1)
    -- the thread: t1 = realloc(t0, 40); print *t1
    ∷ function 1 (realloc_bytes 1 40 ++ shows 1) ∷ [])

-- up to both reallocs, which wait, and a barrier
abbrev pub up_to_both : List Call
up_to_both =
    goes_and_acts 0 ++ goes_and_acts 0 ++ goes_and_acts 0 ++ goes_and_acts 0 ++ goes_and_acts 0 ++ acts 0 ∷ acts 0 ∷ goes_and_acts 0 ++ acts 0 ∷ goes_and_acts 0 ++ acts 0 ∷ goes_and_acts 0
    ++ goes_and_acts 1 ++ sweeps ∷ []

-- and the prints of both
abbrev pub both_show : List Call
both_show = goes_and_acts 0 ++ acts 0 ∷ acts 0 ∷ goes_and_acts 1 ++ acts 1 ∷ acts 1 ∷ []

-- ---- at once

-- t0 = malloc(4); *t0 = 7; free(t0); t1 = calloc(2, 2), of the same id at the same place; print *t1; a calloc of 2^32 times 2^32 bytes;
-- free(t1); and then a realloc of t0, which isn't live, to more bytes than a sub-heap has
abbrev pub at_once : LinearCode
at_once = program (function 0 (malloc_bytes 0 4 ++ set 1 (constant int (pos 7)) ∷ look 0 0 ∷ store_int 0 1 ∷ frees 0 ∷ calloc_bytes 1 2 2 ++ shows 1
    ++ calloc_bytes 2 4294967296 4294967296 ++ frees 1 ∷ realloc_bytes 1 100) ∷ [])

-- to its end
abbrev pub at_once_calls : List Call
at_once_calls =
    goes_and_acts 0 ++ goes_and_acts 0 ++ acts 0 ∷ acts 0 ∷ goes_and_acts 0 ++ acts 0 ∷ acts 0 ∷ acts 0 ∷ goes_and_acts 0 ++ acts 0 ∷ goes_and_acts 0

-- ---- what they come to

-- a thread's step went so
abbrev pub told : (thread : ℕ) → Turned → Told
told thread turned = record { thread = thread; turned = turned }

-- what the three programs come to
pub record ServedRowsHold : Type 0 where
  -- the served realloc's old object still has its id, so the malloc that is served behind it finds none; behind the barrier the calloc gets that id
  pub one_id_left : seen counts_as_there (one_heap 128 2) counts_as_there_calls ≡ record {
    told = told 0 (got 0 0) ∷ told 0 (got 1 16) ∷ told 0 wants_room ∷ told 1 wants_room ∷ told 0 (got 1 16) ∷ told 1 got_null ∷ told 0 (got 0 64) ∷ [];
    objects = object 16 48 1 ∷ object 64 64 0 ∷ [];
    table = Some 64 ∷ Some 16 ∷ [];
    output = [];
  }
  -- objects slide, both reallocs get an object with the int, and the old one leaves once, behind the second
  pub both_get : seen two_reallocs (one_heap 144 5) (up_to_both ++ both_show) ≡ record {
    told = told 0 (got 0 0) ∷ told 0 (got 1 16) ∷ told 0 (got 2 48) ∷ told 0 (got 3 64) ∷ told 0 (got 4 96) ∷ told 0 wants_room ∷ told 1 wants_room
        ∷ told 0 (got 1 48) ∷ told 1 (got 3 96) ∷ [];
    objects = object 16 16 2 ∷ object 32 16 4 ∷ object 48 48 1 ∷ object 96 48 3 ∷ [];
    table = None ∷ Some 48 ∷ Some 16 ∷ Some 96 ∷ Some 32 ∷ [];
    output = codes "7\n7\n";
  }
  -- a calloc's bytes are 0, its product doesn't wrap, and a realloc of what isn't live is a trap, whatever it asks for
  pub gets_at_once : seen at_once (one_heap 64 4) at_once_calls ≡ record {
    told = told 0 (got 0 0) ∷ told 0 (got 0 0) ∷ told 0 got_null ∷ told 0 (trapped 9223372036854775808 kinds.Free) ∷ [];
    objects = [];
    table = None ∷ None ∷ None ∷ None ∷ [];
    output = codes "0\n";
  }
