-- From judging what bytes spell to loading them.
use Rattle.std.proofs.Common.{ℕ, List, length, Result, Ok, Err, inr, sym}
use Rattle.formats.specs.Laws.{Spells}
use Rattle.struct_ir.specs.Nodes.{Ir}
use Rattle.pin_checker.specs.declared.checked.Checked.{Checked}
use Rattle.code_file.specs.Files.{file}
use Rattle.code_load.specs.declared.loading.LoadFault.{LoadFault}
use Rattle.code_load.specs.declared.loading.LoadFault.TheVariants.{BadCode, Unsafe, NoMemory}
use Rattle.code_load.specs.Loads.{Loads}
use Rattle.code_load.specs.inner.Judged.{Judged}

pub loads : (bytes : List ℕ) (code : Ir) (r : Result Checked LoadFault) → Spells (file 1024) code bytes → Judged (length bytes) code r → Loads bytes r
loads bytes code (Ok c) s j = record { code = code; is_file = record { spells = s; lawful = j.1 }; filled = sym j.0 }
loads bytes code (Err (BadCode at)) s j = inr (record { code = code; spells = s; fails = j.1; end = j.0 })
loads bytes code (Err (Unsafe place why)) s j = record { code = code; is_file = record { spells = s; lawful = j.0 }; refused = j.1 }
loads bytes code (Err NoMemory) s j = tt
