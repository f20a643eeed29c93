-- What is made of code that a file spells.
use Rattle.std.specs.Prelude.{◌≡◌, ℕ, Bool, false, ◌&&◌, nat_le, List, length, slice_get, Result, Ok, Err}
use Rattle.std.specs.List.{list_all}
use Rattle.struct_ir.specs.Nodes.{Global, Func}
use Rattle.struct_ir.specs.Whole.{takes_nothing, is_init_in, plain_bytes}
use Rattle.code_load.specs.declared.refusal.Refusal.{Refusal}
use Rattle.code_load.specs.declared.refusal.Refusal.TheVariants.{NoMemory, Unmet}

-- the condition fails; want of memory is free
abbrev pub Fails : Refusal → (condition : Bool) → Type 0
Fails NoMemory condition = Unit {0}
Fails Unmet condition = condition ≡ false

-- it is so, or the condition fails
abbrev pub Fills : {A : Type 0} → (A → Type 0) → (condition : Bool) → Result A Refusal → Type 0
Fills P condition (Ok x) = P x
Fills P condition (Err e) = Fails e condition

-- what code has by its type
abbrev pub is_whole : List Global → List (List ℕ) → List Func → (main : ℕ) → Bool
is_whole globals literals funcs main =
    takes_nothing (slice_get funcs main) && (list_all (λ g. is_init_in (length literals) g.init) globals && nat_le (plain_bytes globals literals) 1048576)
