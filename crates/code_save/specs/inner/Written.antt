-- What a writer has done.
use Rattle.std.specs.Prelude.{◌≡◌, ◌<◌, ◌≤◌, ℕ, Bool, true, List, ◌++◌, length, Option, Some, None, Result, Ok, Err}
use Rattle.std.specs.Global.{Vec}
use Rattle.formats.specs.Formats.{Format}
use Rattle.code_file.specs.Conditions.{most_file_bytes}
use Rattle.code_save.specs.declared.fault.SaveFault.{SaveFault}
use Rattle.code_save.specs.declared.fault.SaveFault.TheVariants.{TooDeep, TooLong, NoMemory}
use Rattle.code_save.specs.declared.output.Output.{Output}

-- these bytes were written so far
pub record Holds (out : Output) (written : List ℕ) : Type 0 where
  -- all are counted, until they are more than a file may have
  pub counted : out.count ≤ most_file_bytes → length written ≡ out.count
  pub many : most_file_bytes < out.count → most_file_bytes < length written
  -- until then they are kept, too, where any are
  pub kept : out.keeps ≡ true → out.count ≤ most_file_bytes → out.bytes.items ≡ written

-- these bytes were written behind those that were
pub record Gains (before : Output) (bytes : List ℕ) (after : Output) : Type 0 where
  pub holds : (written : List ℕ) → Holds before written → Holds after (written ++ bytes)
  pub keeps : after.keeps ≡ before.keeps

-- the value's spelling was written, and where the value fits it has one
pub record Wrote {A : Type 0} (F : Format A) (a : A) (fits : Bool) (before after : Output) : Type 0 where
  pub is : fits ≡ true → F.Is a
  pub gains : Gains before (F.spell a) after

-- how many bytes were written, or they are more than a file may have
abbrev pub Measured : List ℕ → Option ℕ → Type 0
Measured written (Some n) = (length written ≡ n) × (n ≤ most_file_bytes)
Measured written None = most_file_bytes < length written

-- all that was written, or it is longer than a file may be
abbrev pub Finished : List ℕ → Result (Vec ℕ) SaveFault → Type 0
Finished written (Ok v) = (v.items ≡ written) × (length written ≤ most_file_bytes)
Finished written (Err TooLong) = most_file_bytes < length written
Finished written (Err TooDeep) = ⊥
Finished written (Err NoMemory) = ⊥
