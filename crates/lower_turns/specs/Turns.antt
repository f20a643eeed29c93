-- The code of every well formed program does what the program does: turn by turn, in each thread, under every order and answer, in the
-- same world, and as deep in calls; and where a turn breaks a rule of C, so does the code's, the same rule at the same place.
use Rattle.std.specs.Prelude.{◌≡◌, ◌↔◌, List, [], ◌∷◌, ◌++◌, ℕ, Some}
use Rattle.block_store.specs.Runs.{Pick}
use Rattle.block_store.specs.Actions.{World}
use Rattle.block_store.specs.Runs as runs
use Rattle.c_tree.specs.Typed.{Typed}
use Rattle.c_tree.specs.TypedForm.{IsWellFormed}
use Rattle.c_meaning.specs.Alike.{reached_by, AsDeep}
use Rattle.c_meaning.specs.Control.{Control}
use Rattle.c_meaning.specs.Turns.{turn}
use Rattle.c_meaning.specs.Sound.{End, FitsEnd, EndsAs}
use Rattle.c_meaning.specs.Meaning.{program, start, run, shown}
use Rattle.struct_ir.specs.Nodes.{Ir}
use Rattle.struct_ir.specs.Erased.{ir_erased}
use Rattle.struct_ir.specs.Structured.{Position}
use Rattle.struct_ir.specs.Threads.{Thread}
use Rattle.struct_ir.specs.meaning.Blocks.{Own}
use Rattle.struct_ir.specs.meaning.Start.{start as code_start}
use Rattle.struct_ir.specs.meaning.Threads.{program_of}
use Rattle.lower_forms.specs.Programs.{lowered}
use Rattle.lower_turns.specs.Rows.{Keeps}

-- under every order of turns and answers the code of a program shows what the program shows
abbrev pub LowerKeepsEveryTurn : Type 0
LowerKeepsEveryTurn = (t : Typed) → IsWellFormed t → (order : List Pick) → Keeps t order

-- and each order's run comes to the same: a world, a rule that is broken after as many turns, or no run after as many turns
abbrev pub LowerKeepsEveryRun : Type 0
LowerKeepsEveryRun = (t : Typed) → IsWellFormed t → (order : List Pick) → reached_by (runs.run (program_of (lowered t)) (start t) order) ≡ reached_by (run t order)

-- ---- code with Looks, safepoints, slots and lists

-- in every world code shows under every order what it shows without them
abbrev pub ErasedCodeShowsTheSame : Type 0
ErasedCodeShowsTheSame = (p : Ir) (w : World) (order : List Pick) → runs.shown (program_of (ir_erased p)) w order ≡ runs.shown (program_of p) w order

-- code that is a program's code without them shows what the program shows
abbrev pub CodeWithLooksKeepsEveryTurn : Type 0
CodeWithLooksKeepsEveryTurn = (t : Typed) → IsWellFormed t → (ready : Ir) → ir_erased ready ≡ lowered t → (order : List Pick) → runs.shown (program_of ready) (start t) order ≡ shown t order

-- the run of each order comes to the same, too
abbrev pub CodeWithLooksKeepsEveryRun : Type 0
CodeWithLooksKeepsEveryRun =
    (t : Typed) → IsWellFormed t → (ready : Ir) → ir_erased ready ≡ lowered t → (order : List Pick) → reached_by (runs.run (program_of ready) (start t) order) ≡ reached_by (run t order)

-- ---- code as it stands, from its own first world on

-- it begins in the world in which the program begins
abbrev pub CodeBeginsAlike : Type 0
CodeBeginsAlike = (t : Typed) (ready : Ir) → ir_erased ready ≡ lowered t → code_start ready ≡ start t

-- code keeps every turn of a program: begun in its own first world it shows under every order of turns and answers what the program
-- shows, from the first world on: how each turn goes, how many calls of its thread wait then, the world, and which rule is broken where
abbrev pub KeepsEveryTurn : Typed → Ir → Type 0
KeepsEveryTurn t code = (order : List Pick) → runs.shown (program_of code) (code_start code) order ≡ shown t order

-- so does all code that is a well formed program's code without its Looks, safepoints, slots and lists
abbrev pub CodeKeepsEveryTurn : Type 0
CodeKeepsEveryTurn = (t : Typed) → IsWellFormed t → (ready : Ir) → ir_erased ready ≡ lowered t → KeepsEveryTurn t ready

-- code keeps every turn of a program where it does so without its Looks, safepoints, slots and lists, and only there
abbrev pub ErasedKeepsEveryTurn : Type 0
ErasedKeepsEveryTurn = (t : Typed) (code : Ir) → KeepsEveryTurn t (ir_erased code) ↔ KeepsEveryTurn t code

-- such code never goes wrong: from each state that a run of the program reaches, a turn of any thread that runs, under an answer that
-- fits this turn's end, has no run of the code only where it waits. So no operand is ever of another type than the code says
abbrev pub CodeGoesOn : Type 0
CodeGoesOn = (t : Typed) → IsWellFormed t → (code : Ir) → KeepsEveryTurn t code → (order : List Pick) (s : runs.State Control) → run t order ≡ runs.reaches s
    → (p : Pick) (main own : Control) → runs.own_at s.own 0 ≡ Some main → runs.own_at s.own p.thread ≡ Some own
    → (e : End) × EndsAs p.thread (λ answer. turn t p.thread answer own s.world) e
    × (FitsEnd e p.answer → (k : ℕ) → runs.run (program_of code) (code_start code) (order ++ p ∷ []) ≡ runs.no_run k → turn t p.thread p.answer own s.world ≡ runs.blocked)

-- ---- calls that wait

-- in the states to which an order leads a program and code that keeps its every turn each thread runs in both or in neither, and as many
-- calls wait in it. So a turn enters a call in the one where it does in the other, and leaves one likewise
abbrev pub CallsAreAsDeep : Type 0
CallsAreAsDeep = (t : Typed) (code : Ir) → KeepsEveryTurn t code → (order : List Pick) (s : runs.State Control) (u : runs.State (Thread Position Own))
    → run t order ≡ runs.reaches s → runs.run (program_of code) (code_start code) order ≡ runs.reaches u → (thread : ℕ) → AsDeep (program t) (program_of code) (runs.own_at s.own thread) (runs.own_at u.own thread)
