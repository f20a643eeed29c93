-- A file on a shelf, before a call and after it, and the text that was read of it.
use Rattle.std.specs.Prelude.{◌≡◌, ℕ, ◌<◌, ◌≤◌, List, length, take, Option, Some}
use Rattle.ak_io.specs.Faults.{Rose}

-- what a shelf tells of a file, and its count of faults of that file
pub record Shelved : Type 0 where
  pub told : Option (List ℕ)
  pub faults_before : ℕ
  pub faults_after : ℕ

-- what a shelf tells of each file and how often it failed, before and after
abbrev pub shelved : {F : Type 0} → (F → List ℕ → Option (List ℕ)) → (F → List ℕ → ℕ) → F → F → List ℕ → Shelved
shelved contents faults old new name = record { told = contents old name; faults_before = faults old name; faults_after = faults new name }

-- a read of the file failed: its count rose
abbrev pub ReadFailed : Shelved → Type 0
ReadFailed file = Rose file.faults_before file.faults_after

-- the most bytes that a C text may have
abbrev pub most_bytes : ℕ
most_bytes = 1048576

-- the most bytes that a code file may have
abbrev pub most_file_bytes : ℕ
most_file_bytes = 67108864

-- the file, which may have so many bytes at most, was read to its end, and this is all of it
pub record IsWhole (most : ℕ) (file : Shelved) (text : List ℕ) : Type 0 where
  pub short : length text ≤ most
  pub whole : (bytes : List ℕ) → file.told ≡ Some bytes → text ≡ bytes

-- the file has more bytes than it may have, and these are the first of them
pub record IsFront (most : ℕ) (file : Shelved) (text : List ℕ) : Type 0 where
  pub full : length text ≡ most
  pub longer : (bytes : List ℕ) → file.told ≡ Some bytes → most < length bytes
  pub first : (bytes : List ℕ) → file.told ≡ Some bytes → text ≡ take most bytes
