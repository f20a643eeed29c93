-- Why nothing ran.
use Rattle.std.specs.Prelude.{◌≡◌, ℕ, ◌⊎◌, List, Option, Some, None}
use Rattle.c_lex.specs.declared.refusal.Kind.{Kind}
use Rattle.c_lex.specs.declared.refusal.Kind.TheVariants.{TooLong}
use Rattle.alaska_run.specs.Reading.{Refuses}
use Rattle.flat_rules.specs.declared.settings.Settings.{Settings}
use Rattle.run_words.specs.Wanted.{settings_of}
use Rattle.run_notes.specs.declared.status.Status.{Status}
use Rattle.run_notes.specs.declared.status.Status.TheVariants as statuses
use Rattle.run_edges.specs.Files.{Shelved, most_bytes}
use Rattle.code_file.specs.Reads.{IsBad}
use Rattle.code_load.specs.Loads.{IsUnmet, IsUnsafeFile}
use Rattle.alaska_run.specs.Sources.{Source, Saved, source_in, IsAll, IsFirst, Failed}

-- the text is all of its source, and none of the subset; or the source has more bytes than a text may have, of which the text is the first.
-- Code that was saved is never refused so
abbrev pub IsRefused : Source → (text : List ℕ) → (place : ℕ) → Kind → Type 0
IsRefused (Saved file) text place kind = ⊥
IsRefused source text place kind =
    (IsAll source text × Refuses text (record { place = place; kind = kind })) ⊎ (IsFirst source text × (place ≡ most_bytes) × (kind ≡ TooLong))

-- ---- code that was saved

-- why bytes aren't loaded: they are no code file, since they don't spell code from this place on, or spell code that breaks a condition of code
-- files, and then the place is their end; or they are one, whose code isn't safe for moves, at this node first, for this reason
abbrev pub RefusesCode : (bytes : List ℕ) → Status → Type 0
RefusesCode bytes (statuses.BadCode place) = IsBad bytes place ⊎ IsUnmet bytes place
RefusesCode bytes (statuses.UnsafeCode place why) = IsUnsafeFile bytes place why
RefusesCode bytes status = ⊥

-- why a file is not loaded: it has more bytes than a code file may have, of which the text is the first; or the text is all of it, and such bytes
abbrev pub IsUnloaded : Source → (text : List ℕ) → Status → Type 0
IsUnloaded (Saved file) text statuses.FileTooLong = IsFirst (Saved file) text
IsUnloaded (Saved file) text status = IsAll (Saved file) text × RefusesCode text status
IsUnloaded source text status = ⊥

-- ---- each status

module _ (words : List (List ℕ)) (file : List ℕ → Shelved) (settings : Option Settings) (text : List ℕ) where
  -- the settings have the text come from a source of which this holds
  abbrev pub OfSource : (Source → Type 0) → Type 0
  OfSource P = (source : Source) × (source_in file settings ≡ Some source) × P source

  -- the cause of a status without a run: the words, the shelf, the text, or want of memory
  abbrev pub IsFault : Status → Type 0
  IsFault statuses.Usage = settings_of words ≡ None
  IsFault statuses.ReadFault = OfSource Failed
  IsFault (statuses.Refused place kind) = OfSource (λ source. IsRefused source text place kind)
  IsFault (statuses.BadCode place) = OfSource (λ source. IsUnloaded source text (statuses.BadCode place))
  IsFault (statuses.UnsafeCode place why) = OfSource (λ source. IsUnloaded source text (statuses.UnsafeCode place why))
  IsFault statuses.FileTooLong = OfSource (λ source. IsUnloaded source text statuses.FileTooLong)
  IsFault statuses.NoMemory = Unit {0}
  IsFault status = ⊥
