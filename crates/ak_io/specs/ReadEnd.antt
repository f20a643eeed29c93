-- How a read into a buffer ended.
use Rattle.std.specs.Prelude.{◌≡◌, ℕ, ◌<◌, ◌≤◌, List, length, take, drop}
use Rattle.ak_io.specs.declared.outside.ReadEnd.{ReadEnd}
use Rattle.ak_io.specs.declared.outside.ReadEnd.TheVariants.{Whole, TooLong}

-- what is said to have been read fits the buffer
abbrev pub FitsIn : List ℕ → ReadEnd → Type 0
FitsIn buffer (Whole n) = n ≤ length buffer
FitsIn buffer TooLong = Unit {0}

-- the buffer and the end are those of a file that holds these bytes: all of them at the front, or as many as fit
abbrev pub IsReadOf : List ℕ → List ℕ → ReadEnd → Type 0
IsReadOf bytes buffer (Whole n) = (n ≤ length buffer) × (take n buffer ≡ bytes)
IsReadOf bytes buffer TooLong = (length buffer < length bytes) × (buffer ≡ take (length buffer) bytes)

-- what stands in the buffer behind the file is as before
abbrev pub KeepsRest : List ℕ → List ℕ → ReadEnd → Type 0
KeepsRest old new (Whole n) = drop n new ≡ drop n old
KeepsRest old new TooLong = Unit {0}
