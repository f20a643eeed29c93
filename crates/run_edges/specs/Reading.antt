-- What came of reading a file from a shelf, of which at most so many bytes are wanted.
use Rattle.std.specs.Prelude.{ℕ}
use Rattle.run_edges.specs.declared.reading.TextRead.{TextRead}
use Rattle.run_edges.specs.declared.reading.TextRead.TheVariants.{Whole, Front, Fault}
use Rattle.run_edges.specs.Files.{Shelved, IsWhole, IsFront, ReadFailed}

-- the bytes that were read are those of the file, or its first ones where it has more than these, or the file's count of faults rose
abbrev pub IsReadFrom : (most : ℕ) → Shelved → TextRead → Type 0
IsReadFrom most file (Whole text) = IsWhole most file text.items
IsReadFrom most file (Front text) = IsFront most file text.items
IsReadFrom most file Fault = ReadFailed file
