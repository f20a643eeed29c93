-- A fault of a part is that of the whole.
use Rattle.std.proofs.Common.{◌≡◌, ℕ, Result, Ok, Err}
use Rattle.code_file.specs.declared.fault.Fault.{Fault}
use Rattle.code_file.specs.declared.fault.Fault.TheVariants.{NoMemory, Bad}
use Rattle.code_file.specs.inner.Gives.{Fails}

pub passes : {X Y : Type 0} (e : Fault) (part : Result X ℕ) (whole : Result Y ℕ) → ((n : ℕ) → part ≡ Err n → whole ≡ Err n) → Fails e part → Fails e whole
passes NoMemory part whole h f = tt
passes (Bad n) part whole h f = h n f
