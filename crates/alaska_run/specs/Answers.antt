-- When each status comes: only where it has its cause, and just there where nothing failed and memory sufficed.
use Rattle.std.specs.Prelude.{◌≡◌, ◌≢◌, ℕ, ◌<◌, ◌≤◌, ◌⊎◌, List, length, Some, None}
use Rattle.c_lex.specs.declared.refusal.Refusal.{Refusal}
use Rattle.c_lex.specs.declared.refusal.Kind.{Kind}
use Rattle.c_lex.specs.declared.refusal.Kind.TheVariants.{TooLong}
use Rattle.c_tree.specs.Typed.{Typed}
use Rattle.alaska_run.specs.Reading.{Refuses}
use Rattle.alaska_run.specs.Built.{IsTreeOf}
use Rattle.struct_ir.specs.Nodes.{Ir}
use Rattle.pin_checker.specs.Safe.{IsSafe}
use Rattle.pin_checker.specs.declared.fault.Why.{Why}
use Rattle.code_load.specs.Loads.{IsLoaded}
use Rattle.flat_rules.specs.declared.settings.Mode.{Mode}
use Rattle.flat_rules.specs.declared.settings.Mode.TheVariants.{Load}
use Rattle.run_words.specs.Wanted.{Wanted, settings_of}
use Rattle.run_notes.specs.declared.status.Status.{Status}
use Rattle.run_notes.specs.declared.status.Status.TheVariants as statuses
use Rattle.run_edges.specs.Files.{Shelved, most_bytes, most_file_bytes}
use Rattle.run_edges.specs.Sinks.{Channel, WriteFailed}
use Rattle.alaska_run.specs.Ending.{Ending, WantedMemory}
use Rattle.alaska_run.specs.Sources.{Source, source_of, source_in, Tells, Failed}
use Rattle.alaska_run.specs.Faults.{IsRefused, RefusesCode, IsUnloaded}
use Rattle.alaska_run.specs.Modes.{IsDoneBy}

-- no read of the source failed, and no write
pub record NothingFailed (source : Source) (out note : Channel) : Type 0 where
  pub read : Failed source → ⊥
  pub out_kept : WriteFailed out → ⊥
  pub note_kept : WriteFailed note → ⊥

-- what a status says of the words, the shelf and the sinks
pub record Causes (words : List (List ℕ)) (file : List ℕ → Shelved) (out note : Channel) (e : Ending) : Type 0 where
  -- usage comes only where the words are no settings
  pub usage : e.status ≡ statuses.Usage → settings_of words ≡ None
  -- a refusal only where the text is none of the subset, or too long
  pub refused : (place : ℕ) (kind : Kind) → e.status ≡ statuses.Refused place kind → (source : Source) × (source_in file e.settings ≡ Some source) × IsRefused source e.text place kind
  -- bad or unsafe code, or a file that is too long, only where the file isn't loaded for just that
  pub bad_code : (place : ℕ) → e.status ≡ statuses.BadCode place → (source : Source) × (source_in file e.settings ≡ Some source) × IsUnloaded source e.text (statuses.BadCode place)
  pub unsafe_code : (place : ℕ) (why : Why) → e.status ≡ statuses.UnsafeCode place why → (source : Source) × (source_in file e.settings ≡ Some source) × IsUnloaded source e.text (statuses.UnsafeCode place why)
  pub file_too_long : e.status ≡ statuses.FileTooLong → (source : Source) × (source_in file e.settings ≡ Some source) × IsUnloaded source e.text statuses.FileTooLong
  -- a fault of reading only where the count of FILE rose
  pub read_fault : e.status ≡ statuses.ReadFault → (source : Source) × (source_in file e.settings ≡ Some source) × Failed source
  -- a fault of writing only where the count of a sink rose
  pub write_fault : e.status ≡ statuses.WriteFault → WriteFailed out ⊎ WriteFailed note

-- the status is this one, unless memory was wanting before anything ran
abbrev pub IsUnlessMemory : Ending → Status → Type 0
IsUnlessMemory e status = (e.status ≡ status) ⊎ WantedMemory e

-- what the bytes of a text say of the ending, in this mode
pub record AnswersToAText (mode : Mode) (bytes : List ℕ) (e : Ending) : Type 0 where
  -- to a text of the subset is done what the mode does: it is run, in mode race also judged, checked in mode check, or saved in mode build
  pub complete : (typed : Typed) → length bytes ≤ most_bytes → IsTreeOf bytes typed → IsDoneBy mode e ⊎ WantedMemory e
  -- another text is refused, for the one reason that it has
  pub refused : (r : Refusal) → length bytes ≤ most_bytes → Refuses bytes r → IsUnlessMemory e (statuses.Refused r.place r.kind)
  -- and so is one that is too long
  pub too_long : most_bytes < length bytes → IsUnlessMemory e (statuses.Refused most_bytes TooLong)

-- what the bytes of a file say of the ending where they are to be a code file
pub record AnswersToCode (bytes : List ℕ) (e : Ending) : Type 0 where
  -- code that is safe for moves is run
  pub complete : (checked : Ir) → IsLoaded bytes checked → IsSafe checked → IsDoneBy Load e ⊎ WantedMemory e
  -- other bytes are bad, or their code is unsafe, for the one reason that they have
  pub refused : (status : Status) → length bytes ≤ most_file_bytes → RefusesCode bytes status → IsUnlessMemory e status
  -- a file that is too long is so
  pub too_long : most_file_bytes < length bytes → IsUnlessMemory e statuses.FileTooLong

-- the words name a file of which the shelf tells these bytes, or want a text to be made that is these; and nothing failed
pub record IsTold (words : List (List ℕ)) (file : List ℕ → Shelved) (out note : Channel) (bytes : List ℕ) : Type 0 where
  pub wanted : Wanted
  pub source : Source
  pub words_are : settings_of words ≡ Some wanted
  pub from : source_of file wanted ≡ Some source
  pub told : Tells source bytes
  pub kept : NothingFailed source out note

-- what the words and the bytes of the source say of the ending
pub record Answers (words : List (List ℕ)) (file : List ℕ → Shelved) (out note : Channel) (e : Ending) : Type 0 where
  -- words that are no settings are usage
  pub usage : settings_of words ≡ None → (WriteFailed out → ⊥) → (WriteFailed note → ⊥) → IsUnlessMemory e statuses.Usage
  -- of a text, in each mode but load
  pub texts : (bytes : List ℕ) (told : IsTold words file out note bytes) → told.wanted.mode ≢ Load → AnswersToAText told.wanted.mode bytes e
  -- of code that was saved, in mode load
  pub code_files : (bytes : List ℕ) (told : IsTold words file out note bytes) → told.wanted.mode ≡ Load → AnswersToCode bytes e
