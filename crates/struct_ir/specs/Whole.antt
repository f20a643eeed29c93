-- What a program's structured code keeps by its type.
use Rattle.std.specs.Prelude.{ℕ, Bool, true, false, ◌==◌, nat_lt, List, Option, Some, None}
use Rattle.c_tree.specs.Typed.{Init, zero_bytes, number, literal_at}
use Rattle.c_tree.specs.TypedForm.{plain_bytes_by}
use Rattle.struct_ir.specs.Nodes.{Global, Func}

-- there is a function, and it has no parameter
abbrev pub takes_nothing : Option Func → Bool
takes_nothing None = false
takes_nothing (Some f) = f.params == 0

-- a literal that is pointed to at the start is one of so many
abbrev pub is_init_in : (literals : ℕ) → Init → Bool
is_init_in literals zero_bytes = true
is_init_in literals (number t value) = true
is_init_in literals (literal_at n) = nat_lt n literals

-- the bytes that the globals and literals of code take
abbrev pub plain_bytes : List Global → List (List ℕ) → ℕ
plain_bytes globals literals = plain_bytes_by (λ (g : Global). g.size) globals literals
