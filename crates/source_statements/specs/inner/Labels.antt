-- The labels of a switch, one by one.
use Rattle.std.specs.Prelude.{Bool, false}
use Rattle.ak_words.specs.Num.{num}
use Rattle.block_store.specs.declared.values.Value.{Value}
use Rattle.c_tree.specs.Typed.{Label, case_at, default_at}
use Rattle.c_meaning.specs.Switches.{is_number}

-- a label is a case of this value (C11 6.8.4.2 p5)
abbrev pub is_case : Label → Value → Bool
is_case (case_at t value at) v = is_number (num t value) v
is_case (default_at at) v = false
