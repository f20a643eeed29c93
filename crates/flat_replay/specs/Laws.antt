-- What a journal that replays says of the machine.
use Rattle.std.specs.Prelude.{◌≡◌, ◌≤◌, List, length, Some}
use Rattle.ak_trace.specs.declared.entry.Entry.{Entry}
use Rattle.c_tree.specs.Typed.{Typed}
use Rattle.c_meaning.specs.Meaning as source
use Rattle.struct_ir.specs.Nodes.{Ir}
use Rattle.struct_ir.specs.Erased.{ir_erased}
use Rattle.struct_ir.specs.Instrs.{LinearCode}
use Rattle.struct_ir.specs.Lawful.{AllLawful}
use Rattle.struct_ir.specs.Whole.{plain_bytes}
use Rattle.struct_ir.specs.Emitted.{IsEmitted}
use Rattle.struct_ir.specs.meaning.Start.{start}
use Rattle.struct_ir.specs.meaning.Threads.{program_of}
use Rattle.lower_turns.specs.Turns.{KeepsEveryTurn}
use Rattle.flat_meaning.specs.Image.{linear_image}
use Rattle.flat_meaning.specs.Simulation.{IsLoadable, IsChecked}
use Rattle.flat_rules.specs.declared.settings.Settings.{Settings}
use Rattle.flat_rules.specs.States.{RunState}
use Rattle.flat_threads.specs.Contexts.{Context, IsProgram}
use Rattle.flat_machine.specs.Replays.{replay, final_at}
use Rattle.flat_machine.specs.Shares.{Shared}
use Rattle.flat_machine.specs.Start.{settings_limits}
use Rattle.flat_simulation.specs.Kinds.{IsGuarded}
use Rattle.flat_replay.specs.Barriers.{BarriersKeep}
use Rattle.flat_replay.specs.Accesses.{AccessesKeep}
use Rattle.flat_replay.specs.Journals.{IsOfEvents}
use Rattle.flat_replay.specs.Kinds.{IsMeaningUpToAKind, AccessesKeepUpToAKind}
use Rattle.flat_replay.specs.Meaning.{IsMeaning}

-- whatever the program, the settings and the rules of C that it broke
abbrev pub BarriersOfARunKeepObjects : Type 0
BarriersOfARunKeepObjects =
    (code : LinearCode) (s : Settings) → IsProgram code → IsLoadable (linear_image code (settings_limits s)).layout → (log : List Entry) (z : RunState Shared Context) → replay code s log ≡ Some z → BarriersKeep code s log

-- a program with little plain data fits in memory, whatever the settings
abbrev pub SmallProgramsFit : Type 0
SmallProgramsFit = (code : LinearCode) (s : Settings) → plain_bytes code.globals code.literals ≤ 1048576 → IsLoadable (linear_image code (settings_limits s)).layout

-- a journal that replays is of events that may come, one after the other
abbrev pub AJournalIsOfEvents : Type 0
AJournalIsOfEvents =
    (code : LinearCode) (s : Settings) → IsProgram code → IsLoadable (linear_image code (settings_limits s)).layout → (log : List Entry) (x : RunState Shared Context) → replay code s log ≡ Some x → IsOfEvents code s log x

-- ---- what a journal means

-- a journal of guarded code, which may be made by hand, has the code's own meaning over named blocks, up to the first operation on a value of a
-- kind that it doesn't take
abbrev pub JournalsOfGuardedCodeAreMeant : Type 0
JournalsOfGuardedCodeAreMeant =
    (p : Ir) → IsGuarded p → (code : LinearCode) → IsEmitted p code → AllLawful code.funcs → IsProgram code → (s : Settings) (log : List Entry) (x : RunState Shared Context) → replay code s log ≡ Some x
    → IsMeaningUpToAKind p log s (final_at code s log x)

-- a journal of checked code has the code's own meaning over named blocks
abbrev pub JournalsOfCheckedCodeAreMeant : Type 0
JournalsOfCheckedCodeAreMeant =
    (p : Ir) → IsChecked p → (code : LinearCode) → IsEmitted p code → AllLawful code.funcs → IsProgram code → (s : Settings) (log : List Entry) (x : RunState Shared Context) → replay code s log ≡ Some x
    → IsMeaning (program_of p) (start p) (λ t. length t.callers) log s (final_at code s log x)

-- and so that of each program of which, without its Looks, safepoints, slots and lists, it keeps every turn
abbrev pub JournalsMeanTheSource : Type 0
JournalsMeanTheSource =
    (t : Typed) (p : Ir) → KeepsEveryTurn t (ir_erased p) → IsChecked p → (code : LinearCode) → IsEmitted p code → AllLawful code.funcs → IsProgram code
    → (s : Settings) (log : List Entry) (x : RunState Shared Context) → replay code s log ≡ Some x → IsMeaning (source.program t) (source.start t) (λ c. length c.callers) log s (final_at code s log x)

-- ---- accesses

-- of checked code: unless a rule was broken before, no step that an entry of a journal tells of reads or writes a byte outside the blocks
-- that its turn reaches
abbrev pub AccessesOfJournalsStay : Type 0
AccessesOfJournalsStay =
    (p : Ir) → IsChecked p → (code : LinearCode) → IsEmitted p code → AllLawful code.funcs → IsProgram code → (s : Settings) (log : List Entry) (x : RunState Shared Context) → replay code s log ≡ Some x → AccessesKeep p code s log

-- and of guarded code, up to the first operation on a value of a kind that it doesn't take, too
abbrev pub AccessesOfGuardedJournalsStay : Type 0
AccessesOfGuardedJournalsStay =
    (p : Ir) → IsGuarded p → (code : LinearCode) → IsEmitted p code → AllLawful code.funcs → IsProgram code → (s : Settings) (log : List Entry) (x : RunState Shared Context) → replay code s log ≡ Some x → AccessesKeepUpToAKind p code s log
