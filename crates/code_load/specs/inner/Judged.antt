-- What judging the code that a file spells gives.
use Rattle.std.specs.Prelude.{◌≡◌, ℕ, true, false, Result, Ok, Err}
use Rattle.struct_ir.specs.Nodes.{Ir}
use Rattle.pin_checker.specs.declared.checked.Checked.{Checked}
use Rattle.pin_checker.specs.Answers.{IsRefused}
use Rattle.pin_checker.specs.CheckedViews.{program_in}
use Rattle.code_file.specs.Calls.{ir_filled}
use Rattle.code_file.specs.Conditions.{meets}
use Rattle.code_load.specs.declared.loading.LoadFault.{LoadFault}
use Rattle.code_load.specs.declared.loading.LoadFault.TheVariants.{BadCode, Unsafe, NoMemory}

-- the code of a file of so many bytes, filled, is accepted where it meets the conditions; else a condition fails, or the checker refuses it
abbrev pub Judged : (bytes : ℕ) → Ir → Result Checked LoadFault → Type 0
Judged bytes code (Ok c) = (program_in c ≡ ir_filled code) × (meets bytes code ≡ true)
Judged bytes code (Err (BadCode at)) = (at ≡ bytes) × (meets bytes code ≡ false)
Judged bytes code (Err (Unsafe place why)) = (meets bytes code ≡ true) × IsRefused (ir_filled code) place why
Judged bytes code (Err NoMemory) = Unit {0}
