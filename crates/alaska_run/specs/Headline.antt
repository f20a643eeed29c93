-- What a call of `alaska` promises, part by part: what it wrote and how it ended is what its journal replays to, on the text's own code or, in
-- mode load, the code file's, and under the settings of its words. What only one mode says stands in Modes.antt.
use Rattle.std.specs.Prelude.{◌≡◌, ◌≢◌, ℕ, ◌≤◌, ◌⊎◌, List, [], ◌++◌, length, Some, None}
use Rattle.std.specs.Option.{option_map}
use Rattle.ak_trace.specs.declared.entry.Entry.{Entry}
use Rattle.block_store.specs.Runs.{no_run}
use Rattle.c_tree.specs.Typed.{Typed}
use Rattle.c_meaning.specs.Control.{Control}
use Rattle.c_meaning.specs.Meaning.{program, start}
use Rattle.struct_ir.specs.Nodes.{Ir}
use Rattle.struct_ir.specs.Erased.{ir_erased}
use Rattle.struct_ir.specs.Instrs.{LinearCode}
use Rattle.lower_turns.specs.Turns.{KeepsEveryTurn}
use Rattle.ak_trace.specs.declared.endings.End.{End}
use Rattle.flat_rules.specs.declared.settings.Settings.{Settings}
use Rattle.flat_machine.specs.Replays.{Final, final_of}
use Rattle.flat_replay.specs.Accesses.{AccessesKeep}
use Rattle.flat_replay.specs.Barriers.{BarriersKeep}
use Rattle.flat_replay.specs.Meaning.{whole_run, IsClean, IsFirstBreak, IsAsMeant, IsUpToABreak}
use Rattle.run_words.specs.Wanted.{settings_of, wanted_of}
use Rattle.run_notes.specs.declared.status.Status.{Status}
use Rattle.run_notes.specs.declared.status.Status.TheVariants as statuses
use Rattle.run_notes.specs.Lines.{fault_line}
use Rattle.run_notes.specs.Reports.{report_text}
use Rattle.run_edges.specs.Files.{Shelved}
use Rattle.run_edges.specs.Sinks.{Channel}
use Rattle.run_edges.specs.Writing.{Written}
use Rattle.alaska_run.specs.Ending.{Ending, WantedMemory}
use Rattle.alaska_run.specs.Sources.{Source, source_in, name_in, IsAll, IsFirst, Failed}
use Rattle.alaska_run.specs.Faults.{IsFault}
use Rattle.alaska_run.specs.Modes.{IsCodeBy, SpeaksOf, IsAnswerBy, IsWorkIn}

-- ---- the status

-- the status is the judged one, or a fault of writing, as a sink failed
abbrev pub IsOrUnwritten : (judged status : Status) → Type 0
IsOrUnwritten judged status = (status ≡ judged) ⊎ (status ≡ statuses.WriteFault)

-- ---- the text

-- a read of its source failed, there is no text, and the status says so
pub record IsUnread (source : Source) (text : List ℕ) (status : Status) : Type 0 where
  pub failed : Failed source
  pub none : text ≡ []
  pub told : IsOrUnwritten statuses.ReadFault status

-- the text is all of its source; or its first bytes, where it has more than a text or a code file may have; or none, where it couldn't be read
abbrev pub IsTextOf : Source → List ℕ → Status → Type 0
IsTextOf source text status = IsAll source text ⊎ IsFirst source text ⊎ IsUnread source text status

-- the settings are those of the words, and the text is that of the file that they name, in mode load a code file, or, in mode churn, that of
-- their seed and their size
pub record TheText (words : List (List ℕ)) (file : List ℕ → Shelved) (e : Ending) : Type 0 where
  pub settings : (option_map wanted_of e.settings ≡ settings_of words) ⊎ WantedMemory e
  pub text : (source : Source) → source_in file e.settings ≡ Some source → IsTextOf source e.text e.status
  pub none : e.settings ≡ None → e.text ≡ []

-- ---- a run, by its code, checked and as it ran, its settings and its journal

-- the journal is that of a run of the code under the settings: within its limit, it replays to this last state, in which the run is over,
-- with this end
pub record IsRun (code : LinearCode) (settings : Settings) (log : List Entry) (end : End) (final : Final) : Type 0 where
  pub within : length log ≤ settings.entries
  pub replays : final_of code settings log ≡ Some final
  pub ended : final.end ≡ Some end

-- how many calls of a thread of the source wait
abbrev pub depth : Control → ℕ
depth c = length c.callers

-- what is said of a run to a typed tree of which its checked code keeps every turn
pub record OfATree (typed : Typed) (checked : Ir) (code : LinearCode) (settings : Settings) (log : List Entry) (final : Final) : Type 0 where
  -- the tree has a run of the journal's order, told its answers, or breaks a rule of C in it
  pub a_run : (turns : ℕ) → whole_run (program typed) (start typed) depth log ≢ no_run turns
  -- where no rule is broken, what was printed is the output of that run, and the end is that of the table
  pub what_the_text_means : IsClean (program typed) (start typed) depth log final.end → IsAsMeant (program typed) (start typed) depth log settings final
  -- where the first rule is broken after so many turns, the output of the tree's run of these is what was printed first
  pub up_to_the_first_rule : (turns : ℕ) → IsFirstBreak (program typed) (start typed) depth log final.end turns → IsUpToABreak (program typed) (start typed) depth log turns final
  -- up to there, entry by entry, each byte that a step reads or writes is of a block, at an offset, that the source's turn reaches
  pub no_access_leaves_its_object : AccessesKeep checked code settings log

-- what is said of a run
pub record OfARun (checked : Ir) (code : LinearCode) (settings : Settings) (log : List Entry) : Type 0 where
  pub end : End
  pub final : Final
  -- the journal is that of a run, and this is its last state
  pub the_same_order : IsRun code settings log end final
  -- what it means to each typed tree of which the checked code, without its Looks, safepoints, slots and lists, keeps every turn; in mode load,
  -- where the code may be of no text, to each such tree that some text has
  pub of_each_tree : (typed : Typed) → SpeaksOf settings.mode typed → KeepsEveryTurn typed (ir_erased checked) → OfATree typed checked code settings log final
  -- at each barrier no pinned object moves, and the object of every id in use keeps its bytes, at the address that the table then has
  pub no_pinned_object_every_handle : BarriersKeep code settings log

-- ---- a call with a run

-- the text is all of its source, and the code is its own, as the mode has it
pub record TheCode (file : List ℕ → Shelved) (e : Ending) (settings : Settings) (checked : Ir) (code : LinearCode) : Type 0 where
  pub source : Source
  pub from : source_in file e.settings ≡ Some source
  pub whole : IsAll source e.text
  pub of_text : IsCodeBy settings.mode e.text checked code

-- where this journal is there
pub record WithARun (file : List ℕ → Shelved) (out note : Channel) (e : Ending) (log : List Entry) : Type 0 where
  -- so are settings, checked code and the code that ran
  pub settings : Settings
  pub checked : Ir
  pub code : LinearCode
  pub has_settings : e.settings ≡ Some settings
  pub has_checked : e.checked ≡ Some checked
  pub has_code : e.code ≡ Some code
  -- the code is the text's, or the code file's
  pub the_code : TheCode file e settings checked code
  -- the journal is that of its run
  pub the_run : OfARun checked code settings log
  -- how the mode answers a run that ended so: the status before anything is written, and what note is to take behind the report
  pub judged : Status
  pub behind : List ℕ
  pub answer : IsAnswerBy settings.mode e the_run.end judged behind
  -- out gained just what the run printed, and note its report, as the settings want it, and what stands behind it, as far as the sinks took them
  pub what_it_wrote : Written judged e.status the_run.final.output (report_text settings.evacuate the_run.end the_run.final.report ++ behind) out note
  -- the status is that, or a sink failed
  pub how_it_ended : IsOrUnwritten judged e.status

-- ---- a call without one

-- the call came to no run: for this cause; no code is there; out is to take nothing, and note the one line that tells why
pub record CameToNoRun (words : List (List ℕ)) (file : List ℕ → Shelved) (e : Ending) (judged : Status) (output line : List ℕ) : Type 0 where
  pub cause : IsFault words file e.settings e.text judged
  pub no_checked : e.checked ≡ None
  pub no_code : e.code ≡ None
  pub no_output : output ≡ []
  pub line_is : line ≡ fault_line (name_in e.settings) e.text judged

-- the call did what its mode does that runs nothing, to a text that is all of its source
pub record DidItsWork (file : List ℕ → Shelved) (e : Ending) (judged : Status) (output line : List ℕ) : Type 0 where
  pub source : Source
  pub from : source_in file e.settings ≡ Some source
  pub whole : IsAll source e.text
  pub work : IsWorkIn e.settings e judged output line

-- where there is no journal
pub record WithoutARun (words : List (List ℕ)) (file : List ℕ → Shelved) (out note : Channel) (e : Ending) : Type 0 where
  pub judged : Status
  pub output : List ℕ
  pub line : List ℕ
  -- the call came to no run, or its mode does something else
  pub why : CameToNoRun words file e judged output line ⊎ DidItsWork file e judged output line
  -- out gained just that output, and note that line, as far as the sinks took them
  pub written : Written judged e.status output line out note

-- ---- the whole

-- what a call with these words wrote, and how it ended
pub record Headline (words : List (List ℕ)) (file : List ℕ → Shelved) (out note : Channel) (e : Ending) : Type 0 where
  pub the_text : TheText words file e
  pub with_a_run : (log : List Entry) → e.journal ≡ Some log → WithARun file out note e log
  pub without_a_run : e.journal ≡ None → WithoutARun words file out note e
