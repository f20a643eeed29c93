-- What the answers of loading are among each other.
use Rattle.std.specs.Prelude.{◌≡◌, ℕ, List, Result, Ok, Err}
use Rattle.struct_ir.specs.Nodes.{Ir}
use Rattle.pin_checker.specs.declared.checked.Checked.{Checked}
use Rattle.pin_checker.specs.CheckedViews.{program_in}
use Rattle.pin_checker.specs.Safe.{IsSafe}
use Rattle.code_file.specs.Calls.{ir_bare}
use Rattle.code_file.specs.Conditions.{IsFile}
use Rattle.code_load.specs.declared.loading.LoadFault.{LoadFault}
use Rattle.code_load.specs.declared.loading.LoadFault.TheVariants.{BadCode, Unsafe, NoMemory}
use Rattle.code_load.specs.Loads.{Loads}

-- it is this code, or there was no memory
abbrev pub IsCode : Ir → Result Checked LoadFault → Type 0
IsCode p (Ok c) = program_in c ≡ p
IsCode p (Err (BadCode at)) = ⊥
IsCode p (Err (Unsafe place why)) = ⊥
IsCode p (Err NoMemory) = Unit {0}

-- each answer on a file of safe code is that code
abbrev pub LoadsWhatWasSaved : Type 0
LoadsWhatWasSaved = (p : Ir) (bytes : List ℕ) → IsSafe p → IsFile bytes (ir_bare p) → (r : Result Checked LoadFault) → Loads bytes r → IsCode p r

-- both give the same code, or both name the same fault, or in one there was no memory
abbrev pub AreAlike : (r s : Result Checked LoadFault) → Type 0
AreAlike (Ok c) (Ok d) = program_in c ≡ program_in d
AreAlike (Ok c) (Err NoMemory) = Unit {0}
AreAlike (Ok c) (Err (BadCode at)) = ⊥
AreAlike (Ok c) (Err (Unsafe place why)) = ⊥
AreAlike (Err NoMemory) s = Unit {0}
AreAlike (Err (BadCode at)) (Ok c) = ⊥
AreAlike (Err (BadCode at)) (Err NoMemory) = Unit {0}
AreAlike (Err (BadCode at)) (Err (BadCode at')) = at ≡ at'
AreAlike (Err (BadCode at)) (Err (Unsafe place why)) = ⊥
AreAlike (Err (Unsafe place why)) (Ok c) = ⊥
AreAlike (Err (Unsafe place why)) (Err NoMemory) = Unit {0}
AreAlike (Err (Unsafe place why)) (Err (BadCode at)) = ⊥
AreAlike (Err (Unsafe place why)) (Err (Unsafe place' why')) = (place ≡ place') × (why ≡ why')

-- two answers on the same bytes are alike
abbrev pub LoadingHasOneAnswer : Type 0
LoadingHasOneAnswer = (bytes : List ℕ) (r s : Result Checked LoadFault) → Loads bytes r → Loads bytes s → AreAlike r s
