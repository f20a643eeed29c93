-- What reading all the bytes of a file gives.
use Rattle.std.specs.Prelude.{ℕ, List, Result, Ok, Err}
use Rattle.struct_ir.specs.Nodes.{Ir}
use Rattle.formats.specs.Laws.{Longest, Spells}
use Rattle.code_file.specs.declared.raw.RawCode.{RawCode}
use Rattle.code_file.specs.declared.reading.ReadFault.{ReadFault}
use Rattle.code_file.specs.declared.reading.ReadFault.TheVariants.{NoMemory, BadCode}
use Rattle.code_file.specs.Files.{file}
use Rattle.code_file.specs.RawViews.{raw_view}

-- no code is spelled so, whose nodes are nested at most 1,024 deep; and `at` is how long the longest front of the bytes is that begins the
-- spelling of one
pub record IsBad (bytes : List ℕ) (at : ℕ) : Type 0 where
  pub none : (c : Ir) → Spells (file 1024) c bytes → ⊥
  pub longest : Longest (file 1024) bytes at

-- the code that the bytes spell, or where they are bad; want of memory is free
abbrev pub Reads : List ℕ → Result RawCode ReadFault → Type 0
Reads bytes (Ok c) = Spells (file 1024) (raw_view c) bytes
Reads bytes (Err NoMemory) = Unit {0}
Reads bytes (Err (BadCode at)) = IsBad bytes at
