-- Which label of a switch a value chooses: that of equal value, else default, else none (C11 6.8.4.2 p5). Labels have numbers, from 0 on.
use Rattle.std.specs.Prelude.{ℕ, suc, Bool, false, if◌then◌else◌, List, [], ◌∷◌, slice_get, Option, Some, None}
use Rattle.std.specs.Ordering.{int_eq}
use Rattle.ak_words.specs.declared.number.Num.{Num}
use Rattle.ak_words.specs.Num.{num}
use Rattle.block_store.specs.declared.values.Value.{Value}
use Rattle.block_store.specs.declared.values.Value.TheVariants as values
use Rattle.c_tree.specs.Typed.{Label, case_at, default_at}

-- a value is this number; in a well typed program it's no pointer
abbrev pub is_number : Num → Value → Bool
is_number a (values.Num b) = int_eq b.value a.value
is_number a (values.Pointer p) = false

-- the number of default among labels of which the first has this number; or the number behind the last one, which is none's
abbrev pub default_from : (number : ℕ) → List Label → ℕ
default_from number [] = number
default_from number (case_at t value at ∷ labels) = default_from (suc number) labels
default_from number (default_at at ∷ labels) = number

-- the number of the label of equal value among labels of which the first has this number; or else the other number
abbrev pub equal_from : Value → (other number : ℕ) → List Label → ℕ
equal_from v other number [] = other
equal_from v other number (case_at t value at ∷ labels) = if is_number (num t value) v then number else equal_from v other (suc number) labels
equal_from v other number (default_at at ∷ labels) = equal_from v other (suc number) labels

-- the number of the label that a value chooses
abbrev pub chosen : List Label → Value → ℕ
chosen labels v = equal_from v (default_from 0 labels) 0 labels

-- the statement at which a label stands
abbrev pub stands_at : Label → ℕ
stands_at (case_at t value at) = at
stands_at (default_at at) = at

-- the same, if there is a label
abbrev pub stands_at_if : Option Label → Option ℕ
stands_at_if None = None
stands_at_if (Some label) = Some (stands_at label)

-- the statement at which the label of this number stands
abbrev pub starts_at : List Label → (number : ℕ) → Option ℕ
starts_at labels number = stands_at_if (slice_get labels number)
