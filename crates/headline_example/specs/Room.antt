-- What the machine makes of the text's code under the default settings: its journals and its stack have room, and its malloc gets an object.
use Rattle.std.specs.Prelude.{◌≡◌, ◌≤◌, List, length, Some, None, true, false}
use Rattle.ak_trace.specs.declared.entry.Entry.{Entry}
use Rattle.struct_ir.specs.Nodes.{Ir}
use Rattle.struct_ir.specs.Erased.{ir_erased}
use Rattle.struct_ir.specs.Instrs.{LinearCode}
use Rattle.struct_ir.specs.Lawful.{AllLawful}
use Rattle.struct_ir.specs.Placed.{all_due}
use Rattle.struct_ir.specs.Safe.{EveryFunc}
use Rattle.pin_flow.specs.Funcs.{IsHoisted}
use Rattle.pin_flow.specs.Slots.{HasOwnSlots}
use Rattle.lower_forms.specs.Programs.{lowered}
use Rattle.struct_ir.specs.Emitted.{IsEmitted}
use Rattle.ak_trace.specs.declared.endings.End.{End}
use Rattle.ak_trace.specs.declared.endings.End.TheVariants as ends
use Rattle.flat_meaning.specs.Journals.{journal_picks}
use Rattle.flat_rules.specs.declared.settings.Settings.{Settings}
use Rattle.flat_machine.specs.Replays.{Final, final_of}
use Rattle.headline_example.specs.Text.{tree}
use Rattle.headline_example.specs.Runs.{BeginsWithNull}

-- the code is made of the text's tree: without Looks and safepoints it is what that is lowered to, safepoints stand where they have to and
-- nowhere else, each base has a slot of its own, and no Look stands where a slot is available for it; and the machine's code is that
pub record IsTextsCode (checked : Ir) (code : LinearCode) : Type 0 where
  pub left : ir_erased checked ≡ lowered tree
  pub due : all_due checked ≡ true
  pub slots : EveryFunc HasOwnSlots checked
  pub hoisted : EveryFunc IsHoisted checked
  pub emitted : IsEmitted checked code
  pub lawful : AllLawful code.funcs

-- what counts of the default settings: one worker, no draws, no barrier by count, 16 sub-heaps of 65,536 bytes, 65,536 ids, 1,000,000
-- entries of the journal, and no evacuations
pub record AreDefaults (s : Settings) : Type 0 where
  pub workers : s.workers ≡ 1
  pub schedule : s.schedule ≡ None
  pub every : s.every ≡ None
  pub subheap : s.subheap ≡ 65536
  pub subheaps : s.subheaps ≡ 16
  pub ids : s.ids ≡ 65536
  pub entries : s.entries ≡ 1000000
  pub evacuate : s.evacuate ≡ false

-- the run didn't end since the journal was full, nor since a call had no room on its stack
abbrev pub NotFull : End → Type 0
NotFull (ends.Done value) = Unit {0}
NotFull (ends.Trap word kind) = Unit {0}
NotFull ends.AllBlocked = Unit {0}
NotFull ends.TurnLimit = ⊥
NotFull ends.OutputLimit = Unit {0}
NotFull (ends.StackLimit thread) = ⊥

-- a journal that replays to this last state
pub record HasRoom (log : List Entry) (f : Final) : Type 0 where
  pub short : length log ≤ 12
  pub ends_so : (end : End) → f.end ≡ Some end → NotFull end
  pub gets : BeginsWithNull (journal_picks log) → ⊥

-- each journal of the text's code under the defaults
abbrev pub JournalsHaveRoom : Type 0
JournalsHaveRoom =
    (checked : Ir) (code : LinearCode) → IsTextsCode checked code → (s : Settings) → AreDefaults s → (log : List Entry) (f : Final) → final_of code s log ≡ Some f → HasRoom log f
