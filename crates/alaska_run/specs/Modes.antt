-- What each mode says of a call, a line a mode: whose the code is that ran, what is answered beside a run, what is done without one, and what
-- a text of the subset comes to.
-- Where a mode has its text from is told in Sources.antt.
use Rattle.std.specs.Prelude.{◌≡◌, ℕ, ◌⊎◌, List, [], length, Option, Some, None, Ok, Err, IsSome, IfSome, unwrap_or}
use Rattle.c_tree.specs.Typed.{Typed}
use Rattle.struct_ir.specs.Nodes.{Ir}
use Rattle.struct_ir.specs.Instrs.{LinearCode}
use Rattle.ak_trace.specs.declared.entry.Entry.{Entry}
use Rattle.ak_trace.specs.declared.endings.End.{End}
use Rattle.ak_trace.specs.declared.endings.Verdict.{Verdict}
use Rattle.flat_rules.specs.declared.settings.Mode.{Mode}
use Rattle.flat_rules.specs.declared.settings.Mode.TheVariants.{Run, Churn, Check, Race, Build, Load}
use Rattle.flat_rules.specs.declared.settings.Settings.{Settings}
use Rattle.flat_meaning.specs.Journals.{journal_picks}
use Rattle.race_check.specs.Ends.{IsRaceEnd}
use Rattle.race_check.specs.declared.ending.RaceEnd.{RaceEnd}
use Rattle.rule_check.specs.Checks.{IsCheckOf}
use Rattle.rule_check.specs.Reports.{Report}
use Rattle.code_save.specs.Saves.{Saves}
use Rattle.code_save.specs.declared.fault.SaveFault.TheVariants.{TooDeep, TooLong}
use Rattle.run_notes.specs.Checks.{check_line}
use Rattle.run_notes.specs.Lines.{built_line, fault_line}
use Rattle.run_notes.specs.Races.{race_line, status_with}
use Rattle.run_notes.specs.declared.status.Status.{Status}
use Rattle.run_notes.specs.declared.status.Status.TheVariants as statuses
use Rattle.run_notes.specs.Statuses.{status_of}
use Rattle.alaska_run.specs.Built.{IsTreeOf, IsBuilt}
use Rattle.alaska_run.specs.Loaded.{IsLoadedTo}
use Rattle.alaska_run.specs.Ending.{Ending}
use Rattle.alaska_run.specs.Races.{note_of}
use Rattle.alaska_run.specs.Sources.{name_in}

-- ---- whose the code is

-- the text has a typed tree, and is compiled to this checked code and this machine's code
abbrev pub IsCompiledTo : (text : List ℕ) → Ir → LinearCode → Type 0
IsCompiledTo text checked code = (typed : Typed) × IsBuilt text typed checked code

-- what a text and the code that ran have to do with each other; in mode load the text is a code file, and the code is its; in the other modes
-- no code runs
abbrev pub IsCodeBy : Mode → (text : List ℕ) → Ir → LinearCode → Type 0
IsCodeBy Run text checked code = IsCompiledTo text checked code
IsCodeBy Churn text checked code = IsCompiledTo text checked code
IsCodeBy Race text checked code = IsCompiledTo text checked code
IsCodeBy Load text checked code = IsLoadedTo text checked code
IsCodeBy mode text checked code = ⊥

-- of which typed trees a run is said to mean something, where its code keeps their every turn: of each; in mode load of those that some text of
-- the subset has
abbrev pub SpeaksOf : Mode → Typed → Type 0
SpeaksOf Load typed = (text : List ℕ) × IsTreeOf text typed
SpeaksOf mode typed = Unit {0}

-- ---- with a run

-- the end of the run is the status before anything is written, and behind the report note takes nothing more
abbrev pub IsTheEnd : End → (judged : Status) → (behind : List ℕ) → Type 0
IsTheEnd end judged behind = (judged ≡ status_of end) × (behind ≡ [])

-- what mode race does with the run: the turns that its journal tells are gone through once more, in that order, by the source's meaning of the
-- text's own typed tree
pub record IsARace (e : Ending) (end : End) (judged : Status) (behind : List ℕ) : Type 0 where
  pub typed : Typed
  pub tree : IsTreeOf e.text typed
  pub log : List Entry
  pub has_journal : e.journal ≡ Some log
  -- this is found of them; where memory was wanting nothing is
  pub found : Option RaceEnd
  pub is_found : IfSome found (IsRaceEnd typed (journal_picks log))
  -- the status is the end of the run, unless two turns race, or memory was wanting; and behind the report stands the line of what was found
  pub judged_is : judged ≡ status_with (note_of found) (status_of end)
  pub behind_is : behind ≡ race_line (name_in e.settings) e.text (note_of found)

-- where a run ended so: the status before anything is written, and what note is to take behind the report
abbrev pub IsAnswerBy : Mode → Ending → End → (judged : Status) → (behind : List ℕ) → Type 0
IsAnswerBy Run e end judged behind = IsTheEnd end judged behind
IsAnswerBy Churn e end judged behind = IsTheEnd end judged behind
IsAnswerBy Race e end judged behind = IsARace e end judged behind
IsAnswerBy Load e end judged behind = IsTheEnd end judged behind
IsAnswerBy mode e end judged behind = ⊥

-- ---- without one

-- what mode check does: the source's run of the text's own typed tree is checked, and no code runs
pub record IsACheck (settings : Settings) (e : Ending) (judged : Status) (output line : List ℕ) : Type 0 where
  -- checked and code are what this tree is compiled to
  pub typed : Typed
  pub checked : Ir
  pub code : LinearCode
  pub has_checked : e.checked ≡ Some checked
  pub has_code : e.code ≡ Some code
  pub built : IsBuilt e.text typed checked code
  -- this is found of the tree, in the order that the schedule's seed gives, or the seed 0, and in as many turns as a journal may have entries
  pub report : Report
  pub found : IsCheckOf typed (unwrap_or settings.schedule 0) settings.entries report
  -- the status tells what was found, out takes what was printed until then, and note the line of what was found
  pub judged_is : judged ≡ statuses.Checked report.verdict
  pub output_is : output ≡ report.output
  pub line_is : line ≡ check_line (name_in e.settings) e.text report.verdict

-- how the saving of checked code is answered: the status before anything is written, and what out and note are to take. The bytes are the one
-- spelling of the code; or its nodes are nested deeper than in a code file; or they aren't, and the spelling is longer than one
abbrev pub IsSavedAs : Option Settings → (text : List ℕ) → (checked : Ir) → (judged : Status) → (output line : List ℕ) → Type 0
IsSavedAs settings text checked statuses.Built output line = Saves checked (Ok output) × (line ≡ built_line (length output))
IsSavedAs settings text checked statuses.CodeTooDeep output line = Saves checked (Err TooDeep) × (output ≡ []) × (line ≡ fault_line (name_in settings) text statuses.CodeTooDeep)
IsSavedAs settings text checked statuses.CodeTooLong output line = Saves checked (Err TooLong) × (output ≡ []) × (line ≡ fault_line (name_in settings) text statuses.CodeTooLong)
IsSavedAs settings text checked judged output line = ⊥

-- what mode build does: the text is compiled, its checked code is saved, and no code runs
pub record IsASave (e : Ending) (judged : Status) (output line : List ℕ) : Type 0 where
  -- checked and code are what the text's own tree is compiled to
  pub typed : Typed
  pub checked : Ir
  pub code : LinearCode
  pub has_checked : e.checked ≡ Some checked
  pub has_code : e.code ≡ Some code
  pub built : IsBuilt e.text typed checked code
  -- and this came of saving it
  pub saved : IsSavedAs e.settings e.text checked judged output line

-- what a mode does that runs nothing: the status before anything is written, and what out and note are to take. Modes run, churn, race and load do
-- nothing without a run
abbrev pub IsWorkBy : Mode → Settings → Ending → (judged : Status) → (output line : List ℕ) → Type 0
IsWorkBy Check settings e judged output line = IsACheck settings e judged output line
IsWorkBy Build settings e judged output line = IsASave e judged output line
IsWorkBy mode settings e judged output line = ⊥

-- the mode is that of the settings, where there are any
abbrev pub IsWorkIn : Option Settings → Ending → (judged : Status) → (output line : List ℕ) → Type 0
IsWorkIn None e judged output line = ⊥
IsWorkIn (Some settings) e judged output line = IsWorkBy settings.mode settings e judged output line

-- ---- a text of the subset, or a code file

-- what a mode makes of it, where nothing failed and memory sufficed: a run, of which there is a journal; what a check found; or what came of
-- saving
abbrev pub IsDoneBy : Mode → Ending → Type 0
IsDoneBy Run e = IsSome e.journal
IsDoneBy Churn e = IsSome e.journal
IsDoneBy Check e = (found : Verdict) × (e.status ≡ statuses.Checked found)
IsDoneBy Race e = IsSome e.journal
IsDoneBy Build e = (e.status ≡ statuses.Built) ⊎ (e.status ≡ statuses.CodeTooDeep) ⊎ (e.status ≡ statuses.CodeTooLong)
IsDoneBy Load e = IsSome e.journal
