-- What a function that reads returned, beside what the format reads.
use Rattle.std.specs.Prelude.{◌≡◌, ℕ, List, Result, Ok, Err}
use Rattle.formats.specs.Formats.{Got}
use Rattle.code_file.specs.declared.fault.Fault.{Fault}
use Rattle.code_file.specs.declared.fault.Fault.TheVariants.{NoMemory, Bad}

-- it failed: memory ran out, or so many bytes are left where reading gives up
abbrev pub Fails : {Y : Type 0} → Fault → Result Y ℕ → Type 0
Fails NoMemory read = Unit {0}
Fails (Bad n) read = read ≡ Err n

-- what it returned, seen by a view, is what reading gives, unless memory ran out
abbrev pub Gives : {X Y : Type 0} → (X → Y) → Result X Fault → Result Y ℕ → Type 0
Gives view (Ok x) read = read ≡ Ok (view x)
Gives view (Err e) read = Fails e read
