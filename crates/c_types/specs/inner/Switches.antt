-- What the code has of a switch: where jumps may stand, and what stands between its braces so far.
use Rattle.std.specs.Prelude.{◌≡◌, map, Bool, true, false, ℤ, Result, Ok, Err}
use Rattle.std.specs.Ordering.{int_eq}
use Rattle.c_lex.specs.declared.refusal.CompileFault.{CompileFault}
use Rattle.type_context.specs.inner.Outcomes.{joined}
use Rattle.ak_words.specs.declared.int_type.IntType.{IntType}
use Rattle.ak_words.specs.declared.number.Num.{Num}
use Rattle.c_tree.specs.Typed.{Label, case_at, default_at}
use Rattle.c_tree.specs.TypedForm as forms
use Rattle.c_tree.specs.TypedViews.{stmt_view, label_view}
use Rattle.c_typing.specs.Faults.{Judged, typed, ◌>>=◌}
use Rattle.c_typing.specs.Statements as rules
use Rattle.c_types.specs.declared.switches.Entries.{Entries}
use Rattle.c_types.specs.declared.switches.Jumps.{Jumps}

-- where jumps may stand
abbrev pub jumps_view : Jumps → forms.Jumps
jumps_view j = record { breaks = j.breaks; continues = j.continues }

-- the labels and the statements between the braces of a switch
abbrev pub entries_view : Entries → rules.Entries
entries_view es = record { labels = map label_view es.labels.items; body = map stmt_view es.body.items }

-- a label is a case of this value
abbrev pub is_case : ℤ → Label → Bool
is_case z (case_at t value n) = int_eq value z
is_case z (default_at n) = false

-- a label is a default
abbrev pub is_default : Label → Bool
is_default (case_at t value n) = false
is_default (default_at n) = true

-- the value of a label, which has the type of its switch
abbrev pub value_view : Num → IntType × ℤ
value_view n = (n.ty, n.value)

-- the value of a label, with the type of its switch
abbrev pub typed_value : IntType → Judged ℤ → Judged (IntType × ℤ)
typed_value t j = j >>= λ z. typed (t, z)

-- what is at fault is at one fault more, and of two the one that comes first is named
abbrev pub IsFaultMore : Result (Unit {0}) CompileFault → CompileFault → Result (Unit {0}) CompileFault → Type 0
IsFaultMore fine fault (Ok u) = ⊥
IsFaultMore fine fault (Err e) = Err e ≡ joined {A = Unit {0}} {B = Unit {0}} fine (Err fault)
