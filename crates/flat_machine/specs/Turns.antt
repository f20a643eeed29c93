-- How a thread's pending step went, as its entry tells it.
use Rattle.std.specs.Prelude.{ℕ, Bool, true, false, length, slice_get, Option, Some, None, ℤ, pos}
use Rattle.ak_words.specs.IntType.{int}
use Rattle.struct_ir.specs.Nodes.{Action, malloc, calloc, realloc, start, step}
use Rattle.struct_ir.specs.Flow.{Here, does}
use Rattle.struct_ir.specs.Linear.{Spot}
use Rattle.struct_ir.specs.Threads.{Thread, Outcome, went, ended, blocked, broke, unfit}
use Rattle.flat_words.specs.Words.{number_in}
use Rattle.flat_meaning.specs.declared.endings.Stop.{Stop}
use Rattle.flat_meaning.specs.declared.endings.Stop.TheVariants.{AtStep, Spent, NoRoom}
use Rattle.flat_meaning.specs.Image.{Image}
use Rattle.flat_meaning.specs.Words.{Words}
use Rattle.flat_meaning.specs.Memory.{Made, Memory}
use Rattle.flat_meaning.specs.Actions.{may_start}
use Rattle.flat_meaning.specs.Accesses.{Fault, trap, output_limit, Choice, got, wait}
use Rattle.flat_meaning.specs.Stages.{Stage, Before, looks, thread_at, before}
use Rattle.flat_meaning.specs.Effects.{stop_of}
use Rattle.flat_rules.specs.Machine as turns
use Rattle.flat_rules.specs.Machine.{Turned}
use Rattle.flat_machine.specs.Choices.{malloc_choice, choice_here}

-- an allocation's, by what is chosen
abbrev pub malloc_turned : Choice → Turned
malloc_turned (got id place) = turns.got id place
malloc_turned choice = turns.got_null

-- a start's, where so many threads were made before
abbrev pub start_turned : Bool → (made : ℕ) → Turned
start_turned true made = turns.made_thread made
start_turned false made = turns.refused_thread

-- an action's that was done
abbrev pub done_turned : Image Spot → Memory → Choice → Action → Turned
done_turned x m choice malloc = malloc_turned choice
done_turned x m choice calloc = malloc_turned choice
done_turned x m choice realloc = malloc_turned choice
done_turned x m choice (start function) = start_turned (may_start x.layout.limits.threads m) (length m.threads)
done_turned x m choice action = turns.stepped

-- by what stands there
abbrev pub done_here : Image Spot → Memory → Choice → Here → Turned
done_here x m choice (does place (step s)) = done_turned x m choice s.action
done_here x m choice here = turns.stepped

-- a step that wasn't done: an allocation waits for room, and any other for a mutex or a thread
abbrev pub blocked_turned : Choice → Turned
blocked_turned wait = turns.wants_room
blocked_turned choice = turns.found_busy

-- a fault's
abbrev pub fault_turned : Fault → Turned
fault_turned (trap word kind) = turns.trapped word kind
fault_turned output_limit = turns.passed_limit

-- the value as an int that a thread returned
abbrev pub value_if : Option ℕ → ℤ
value_if None = pos 0
value_if (Some word) = (number_in int word).value

-- of a thread that was made
abbrev pub value_of : Option Made → ℤ
value_of None = pos 0
value_of (Some t) = value_if t.result

-- by what came of it
abbrev pub outcome_turned : Image Spot → (number : ℕ) → Memory → Choice → Here → Outcome Spot Words Fault Memory → Turned
outcome_turned x number m choice here (went t s) = done_here x m choice here
outcome_turned x number m choice here (ended l s) = turns.ended (value_of (slice_get s.threads number))
outcome_turned x number m choice here blocked = blocked_turned choice
outcome_turned x number m choice here (broke f) = fault_turned f
outcome_turned x number m choice here unfit = turns.stepped

-- by why the thread stopped, and what it stands before
abbrev pub turned_before : Image Spot → (number : ℕ) → Memory → Choice → Thread Spot Words → Stop → Before → Turned
turned_before x number m choice t Spent b = turns.rested
turned_before x number m choice t NoRoom b = turns.lacked_stack
turned_before x number m choice t AtStep looks = turns.looked
turned_before x number m choice t AtStep b = outcome_turned x number m choice (x.flow.here t.top.at) (stop_of x number choice t m)

-- of a thread at a stage, with the least id and the lowest place at an allocation
abbrev pub turned_at : Image Spot → (number : ℕ) → Memory → Stop → Thread Spot Words → Turned
turned_at x number m stop t = turned_before x number m (choice_here (malloc_choice m.storage) t.top.own (x.flow.here t.top.at)) t stop (before x t)

-- of a context, if it has begun and has stopped
abbrev pub turned_of : Image Spot → (number : ℕ) → Memory → Option (Stage Spot) → Option Stop → Turned
turned_of x number m (Some stage) (Some stop) = turned_at x number m stop (thread_at x stage)
turned_of x number m stage stop = turns.rested
