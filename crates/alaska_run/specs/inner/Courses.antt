-- What comes of words and text before anything is written, and what a run comes to.
use Rattle.std.specs.Prelude.{◌≡◌, ◌≢◌, ℕ, ◌+◌, ◌*◌, ◌≤◌, List, [], ◌++◌, length, Option, Some, None, IfSome, unwrap_or, vec_len, vec_capacity}
use Rattle.std.specs.Option.{option_map}
use Rattle.std.specs.Arc.{arc_value}
use Rattle.c_lex.specs.declared.refusal.Refusal.{Refusal}
use Rattle.ak_trace.specs.declared.entry.Entry.{Entry}
use Rattle.block_store.specs.Runs.{run, no_run}
use Rattle.c_tree.specs.Typed.{Typed}
use Rattle.c_tree.specs.TypedViews.{typed_view}
use Rattle.c_meaning.specs.Meaning.{program, start}
use Rattle.flat_meaning.specs.Journals.{journal_picks}
use Rattle.race_check.specs.Ends.{IsRaceEnd}
use Rattle.race_check.specs.declared.ending.RaceEnd.{RaceEnd}
use Rattle.alaska_run.specs.Reading.{Refuses}
use Rattle.alaska_run.specs.Built.{IsBuilt}
use Rattle.alaska_run.specs.Loaded.{IsLoadedTo}
use Rattle.struct_ir.specs.Instrs.{LinearCode}
use Rattle.struct_ir.specs.Whole.{plain_bytes}
use Rattle.pin_checker.specs.CheckedViews.{program_in}
use Rattle.turn_lock.specs.Locks.{AllPasses, first_of, passes_of}
use Rattle.ak_trace.specs.declared.endings.End.{End}
use Rattle.flat_rules.specs.declared.settings.Mode.{Mode}
use Rattle.flat_rules.specs.declared.settings.Mode.TheVariants.{Check, Race, Build}
use Rattle.flat_rules.specs.declared.settings.Settings.{Settings}
use Rattle.flat_rules.specs.Rules.{rules_of}
use Rattle.flat_rules.specs.States.{RunState}
use Rattle.flat_machine.specs.Shares.{Shared}
use Rattle.flat_machine.specs.Start.{first_shared, settings_limits}
use Rattle.flat_machine.specs.Replays.{Final, final_at, replay}
use Rattle.flat_replay.specs.Barriers.{BarriersKeep}
use Rattle.flat_threads.specs.Contexts.{Context, IsProgram}
use Rattle.world_rules.specs.Whole.{Whole}
use Rattle.run_words.specs.Wanted.{settings_of, wanted_of}
use Rattle.rule_check.specs.Checks.{IsCheckOf}
use Rattle.rule_check.specs.Reports.{Report}
use Rattle.alaska_run.specs.declared.checking.Worked.{Worked}
use Rattle.alaska_run.specs.declared.preparing.Course.{Course}
use Rattle.alaska_run.specs.declared.preparing.Course.TheVariants as courses
use Rattle.alaska_run.specs.declared.preparing.Opened.{Opened}
use Rattle.alaska_run.specs.declared.preparing.Stopped.{Stopped}
use Rattle.alaska_run.specs.declared.racing.Racing.{Racing}
use Rattle.alaska_run.specs.declared.running.Ran.{Ran}
use Rattle.run_notes.specs.declared.status.Status.{Status}
use Rattle.run_notes.specs.declared.status.Status.TheVariants as statuses
use Rattle.alaska_run.specs.Sources.{Source, source_of, source_in, name_in, IsAll}
use Rattle.alaska_run.specs.Faults.{IsFault, RefusesCode}
use Rattle.alaska_run.specs.Races.{note_of}
use Rattle.alaska_run.specs.Modes.{IsCodeBy, IsSavedAs}
use Rattle.alaska_run.specs.Headline.{IsTextOf}
use Rattle.run_notes.specs.Checks.{check_line}
use Rattle.run_notes.specs.Lines.{fault_line}
use Rattle.run_notes.specs.Races.{race_line, status_with}
use Rattle.run_edges.specs.Files.{Shelved}
use Rattle.run_notes.specs.Reports.{report_text}
use Rattle.run_notes.specs.Statuses.{status_of}

-- a call that comes to no run
pub record IsStopped (words : List (List ℕ)) (file : List ℕ → Shelved) (x : Stopped) : Type 0 where
  pub settings : option_map wanted_of x.settings ≡ settings_of words
  pub text : (source : Source) → source_in file x.settings ≡ Some source → IsTextOf source x.text.items x.status
  pub none : x.settings ≡ None → x.text.items ≡ []
  pub fault : IsFault words file x.settings x.text.items x.status
  pub line : x.line.items ≡ fault_line (name_in x.settings) x.text.items x.status

-- a world in which nothing of this code has run, under these settings
pub record IsWorldOf (settings : Settings) (code : LinearCode) (first : Whole Shared LinearCode Context) : Type 0 where
  pub code_is : first.code ≡ code
  pub rules : first.settings ≡ rules_of settings
  pub shared : first.shared ≡ first_shared code (settings_limits settings)

-- what a run stands on
pub record IsReady (x : Opened) : Type 0 where
  pub program : IsProgram (arc_value x.code)
  pub fits : plain_bytes (arc_value x.code).globals (arc_value x.code).literals ≤ 1048576
  pub world : IsWorldOf x.settings (arc_value x.code) (first_of x.world.lock)
  pub count : vec_len x.passes ≡ passes_of x.world.lock
  pub passes : AllPasses x.world.lock x.passes.items
  pub empty : x.line.items ≡ []
  pub room : 1024 ≤ vec_capacity x.line

-- what a run stands on that is to be judged: its code is that of the tree, and there is room for the line of a race
pub record IsReadyToRace (x : Racing) : Type 0 where
  pub ready : IsReady x.opened
  pub built : IsBuilt x.opened.text.items (typed_view x.typed) (program_in x.opened.checked) (arc_value x.opened.code)
  pub room : 1184 + 2 * length (name_in (Some x.opened.settings)) ≤ vec_capacity x.opened.line

-- the text of a source is compiled or, in mode load, loaded, and the world opened
pub record IsOpened (words : List (List ℕ)) (file : List ℕ → Shelved) (x : Opened) : Type 0 where
  pub settings : settings_of words ≡ Some (wanted_of x.settings)
  pub source : Source
  pub from : source_of file (wanted_of x.settings) ≡ Some source
  pub whole : IsAll source x.text.items
  pub of_text : IsCodeBy x.settings.mode x.text.items (program_in x.checked) (arc_value x.code)
  pub ready : IsReady x

-- and the run is not to be judged
pub record IsToRun (words : List (List ℕ)) (file : List ℕ → Shelved) (x : Opened) : Type 0 where
  pub opened : IsOpened words file x
  pub not_judged : x.settings.mode ≢ Race

-- or it is
pub record IsToRace (words : List (List ℕ)) (file : List ℕ → Shelved) (x : Racing) : Type 0 where
  pub opened : IsOpened words file x.opened
  pub mode : x.opened.settings.mode ≡ Race
  pub set : IsReadyToRace x

-- this tree was checked under the settings, and this is what was found of it
pub record IsFound (typed : Typed) (report : Report) (x : Worked) : Type 0 where
  pub found : IsCheckOf typed (unwrap_or x.settings.schedule 0) x.settings.entries report
  pub status : x.status ≡ statuses.Checked report.verdict
  pub output : x.output.items ≡ report.output
  pub line : x.line.items ≡ check_line (name_in (Some x.settings)) x.text.items report.verdict

-- what was done with the tree of a text that is compiled and not run, by the mode: it was checked, or its checked code was saved
abbrev pub WorkedBy : Mode → Typed → Worked → Type 0
WorkedBy Check typed x = (report : Report) × IsFound typed report x
WorkedBy Build typed x = IsSavedAs (Some x.settings) x.text.items (program_in x.checked) x.status x.output.items x.line.items
WorkedBy mode typed x = ⊥

-- the text of a source is compiled, and its tree is checked, or its code saved
pub record IsWorked (words : List (List ℕ)) (file : List ℕ → Shelved) (x : Worked) : Type 0 where
  pub settings : settings_of words ≡ Some (wanted_of x.settings)
  pub source : Source
  pub from : source_of file (wanted_of x.settings) ≡ Some source
  pub whole : IsAll source x.text.items
  pub typed : Typed
  pub built : IsBuilt x.text.items typed (program_in x.checked) (arc_value x.code)
  pub work : WorkedBy x.settings.mode typed x

-- a call that comes to no run, with this status, of these settings and this text
pub record IsStoppedWith (status : Status) (settings : Option Settings) (text : List ℕ) (x : Stopped) : Type 0 where
  pub status_is : x.status ≡ status
  pub settings_are : x.settings ≡ settings
  pub text_is : x.text.items ≡ text
  pub line : x.line.items ≡ fault_line (name_in settings) text status

-- the course comes to no run, with this status
abbrev pub IsStoppedAs : Status → Option Settings → List ℕ → Course → Type 0
IsStoppedAs status settings text (courses.Stopped x) = IsStoppedWith status settings text x
IsStoppedAs status settings text (courses.Opened x) = ⊥
IsStoppedAs status settings text (courses.Racing x) = ⊥
IsStoppedAs status settings text (courses.Worked x) = ⊥

-- the text is compiled and the world is opened
pub record IsOpenedOf (settings : Settings) (text : List ℕ) (x : Opened) : Type 0 where
  pub settings_are : x.settings ≡ settings
  pub text_is : x.text.items ≡ text
  pub not_checked : settings.mode ≢ Check
  pub not_judged : settings.mode ≢ Race
  pub not_built : settings.mode ≢ Build
  pub typed : Typed
  pub built : IsBuilt text typed (program_in x.checked) (arc_value x.code)
  pub ready : IsReady x

-- and the run is to be judged
pub record IsRacingOf (settings : Settings) (text : List ℕ) (x : Racing) : Type 0 where
  pub settings_are : x.opened.settings ≡ settings
  pub text_is : x.opened.text.items ≡ text
  pub mode : settings.mode ≡ Race
  pub built : IsBuilt text (typed_view x.typed) (program_in x.opened.checked) (arc_value x.opened.code)
  pub ready : IsReady x.opened
  pub room : 1184 + 2 * length (name_in (Some settings)) ≤ vec_capacity x.opened.line

-- the text is a code file, its code is loaded, and the world is opened
pub record IsLoadedOf (settings : Settings) (text : List ℕ) (x : Opened) : Type 0 where
  pub settings_are : x.settings ≡ settings
  pub text_is : x.text.items ≡ text
  pub loaded : IsLoadedTo text (program_in x.checked) (arc_value x.code)
  pub ready : IsReady x

-- the text is compiled, and its tree is checked, or its code saved
pub record IsWorkedOf (settings : Settings) (text : List ℕ) (x : Worked) : Type 0 where
  pub settings_are : x.settings ≡ settings
  pub text_is : x.text.items ≡ text
  pub typed : Typed
  pub built : IsBuilt text typed (program_in x.checked) (arc_value x.code)
  pub work : WorkedBy settings.mode typed x

-- the text is none of the subset, and this is its refusal
pub record IsRefusedOf (settings : Settings) (text : List ℕ) (x : Stopped) : Type 0 where
  pub reason : Refusal
  pub refuses : Refuses text reason
  pub stopped : IsStoppedWith (statuses.Refused reason.place reason.kind) (Some settings) text x

-- what a text that was read whole comes to: a run, what a check finds or saving gives, or its refusal
abbrev pub IsCourseOf : Settings → List ℕ → Course → Type 0
IsCourseOf settings text (courses.Stopped x) = IsRefusedOf settings text x
IsCourseOf settings text (courses.Opened x) = IsOpenedOf settings text x
IsCourseOf settings text (courses.Racing x) = IsRacingOf settings text x
IsCourseOf settings text (courses.Worked x) = IsWorkedOf settings text x

-- the bytes are no code file, or one whose code isn't safe for moves
pub record IsUnloadedOf (settings : Settings) (text : List ℕ) (x : Stopped) : Type 0 where
  pub status : Status
  pub refuses : RefusesCode text status
  pub stopped : IsStoppedWith status (Some settings) text x

-- what a file that was read whole comes to in mode load: a run, or why there is none
abbrev pub IsLoadingOf : Settings → List ℕ → Course → Type 0
IsLoadingOf settings text (courses.Stopped x) = IsUnloadedOf settings text x
IsLoadingOf settings text (courses.Opened x) = IsLoadedOf settings text x
IsLoadingOf settings text (courses.Racing x) = ⊥
IsLoadingOf settings text (courses.Worked x) = ⊥

-- what words and file come to
abbrev pub IsCourse : (words : List (List ℕ)) → (List ℕ → Shelved) → Course → Type 0
IsCourse words file (courses.Stopped x) = IsStopped words file x
IsCourse words file (courses.Opened x) = IsToRun words file x
IsCourse words file (courses.Racing x) = IsToRace words file x
IsCourse words file (courses.Worked x) = IsWorked words file x

-- a run of what was opened is over
pub record HasRun (x : Opened) (r : Ran) : Type 0 where
  pub settings : r.settings ≡ x.settings
  pub text : r.text ≡ x.text
  pub checked : r.checked ≡ x.checked
  pub code : r.code ≡ x.code
  pub end : End
  pub final : Final
  pub last : RunState Shared Context
  pub leads : replay (arc_value x.code) x.settings r.journal.entries ≡ Some last
  pub final_is : final_at (arc_value x.code) x.settings r.journal.entries last ≡ final
  pub ended : final.end ≡ Some end
  pub keeps : BarriersKeep (arc_value x.code) x.settings r.journal.entries
  pub status : r.status ≡ status_of end
  pub output : r.output.items ≡ final.output
  pub line : r.line.items ≡ report_text x.settings.evacuate end final.report
  pub short : length r.line.items ≤ 1024
  pub room : vec_capacity r.line ≡ vec_capacity x.line

-- the order of a journal has a run of the tree's program
abbrev pub HasARun : Typed → List Entry → Type 0
HasARun typed log = (turns : ℕ) → run (program typed) (start typed) (journal_picks log) ≢ no_run turns

-- a run that is over was judged by this tree, in the order of its journal
pub record IsJudged (typed : Typed) (ran r : Ran) : Type 0 where
  pub settings : r.settings ≡ ran.settings
  pub text : r.text ≡ ran.text
  pub checked : r.checked ≡ ran.checked
  pub code : r.code ≡ ran.code
  pub journal : r.journal ≡ ran.journal
  pub output : r.output ≡ ran.output
  pub found : Option RaceEnd
  pub is_found : IfSome found (IsRaceEnd typed (journal_picks ran.journal.entries))
  pub status : r.status ≡ status_with (note_of found) ran.status
  pub line : r.line.items ≡ ran.line.items ++ race_line (name_in (Some ran.settings)) ran.text.items (note_of found)

-- a run of what was opened is over, and was judged
pub record HasRaced (x : Racing) (r : Ran) : Type 0 where
  pub ran : Ran
  pub has_run : HasRun x.opened ran
  pub judged : IsJudged (typed_view x.typed) ran r
