-- Where the text of a call comes from: in mode churn from the seed and the size that the words give, in each other mode from the file that they name,
-- which in mode load is a code file and may be longer.
use Rattle.std.specs.Prelude.{◌≡◌, ℕ, ◌≤◌, List, [], length, Option, Some, None, codes, unwrap_or, option_and_then}
use Rattle.std.specs.Option.{option_map}
use Rattle.flat_rules.specs.declared.settings.Mode.{Mode}
use Rattle.flat_rules.specs.declared.settings.Mode.TheVariants.{Churn, Load}
use Rattle.flat_rules.specs.declared.settings.Settings.{Settings}
use Rattle.run_words.specs.Wanted.{Wanted, wanted_of}
use Rattle.run_churn.specs.Text as churn
use Rattle.run_edges.specs.Files.{Shelved, ReadFailed, IsWhole, IsFront, most_bytes, most_file_bytes}

-- a file that is read as a text of C, a text that is made, or a file that is read as code that was saved
pub data Source : Type 0 where
  Read : Shelved → Source
  Made : List ℕ → Source
  Saved : Shelved → Source

-- the text of a seed and a size
abbrev pub churned : Option ℕ → Option ℕ → Option Source
churned (Some seed) (Some size) = Some (Made (churn.text seed size))
churned _ _ = None

-- what a mode has the text come from
abbrev pub source_by : Mode → (List ℕ → Shelved) → Wanted → Option Source
source_by Churn file w = churned w.seed w.size
source_by Load file w = option_map (λ name. Saved (file name)) w.file
source_by mode file w = option_map (λ name. Read (file name)) w.file

-- what the text comes from that is wanted
abbrev pub source_of : (List ℕ → Shelved) → Wanted → Option Source
source_of file w = source_by w.mode file w

-- what the settings have it come from
abbrev pub source_in : (List ℕ → Shelved) → Option Settings → Option Source
source_in file settings = option_and_then (λ s. source_of file (wanted_of s)) settings

-- its name in the line of a fault: that of the file, or `churn`
abbrev pub name_by : Mode → Wanted → List ℕ
name_by Churn w = codes "churn"
name_by mode w = unwrap_or w.file []

-- and none without settings
abbrev pub name_in : Option Settings → List ℕ
name_in None = []
name_in (Some s) = name_by s.mode (wanted_of s)

-- these are the bytes of it: what the shelf tells of a file, or what was made
abbrev pub Tells : Source → List ℕ → Type 0
Tells (Read file) bytes = file.told ≡ Some bytes
Tells (Made made) bytes = made ≡ bytes
Tells (Saved file) bytes = file.told ≡ Some bytes

-- the text is all of it
abbrev pub IsAll : Source → List ℕ → Type 0
IsAll (Read file) text = IsWhole most_bytes file text
IsAll (Made made) text = (length text ≤ most_bytes) × (text ≡ made)
IsAll (Saved file) text = IsWhole most_file_bytes file text

-- it has more bytes than are taken of it, of which the text is the first
abbrev pub IsFirst : Source → List ℕ → Type 0
IsFirst (Read file) text = IsFront most_bytes file text
IsFirst (Made made) text = ⊥
IsFirst (Saved file) text = IsFront most_file_bytes file text

-- a read of it failed
abbrev pub Failed : Source → Type 0
Failed (Read file) = ReadFailed file
Failed (Made made) = ⊥
Failed (Saved file) = ReadFailed file
