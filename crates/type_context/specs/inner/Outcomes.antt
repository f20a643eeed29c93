-- Two outcomes of the code as one.
use Rattle.std.specs.Prelude.{Result, Ok, Err}
use Rattle.c_lex.specs.declared.refusal.CompileFault.{CompileFault}
use Rattle.c_lex.specs.declared.refusal.CompileFault.TheVariants.{Refused, NoMemory}
use Rattle.c_typing.specs.Faults.{earlier}

-- want of memory stops both; of two refusals the one that comes first is named
abbrev pub joined_fault : CompileFault → CompileFault → CompileFault
joined_fault NoMemory e = NoMemory
joined_fault (Refused r) NoMemory = NoMemory
joined_fault (Refused r) (Refused s) = Refused (earlier r s)

-- both values where there are two, the one fault where there is one, and else the fault that both come to
unfoldable pub joined : {A B : Type 0} → Result A CompileFault → Result B CompileFault → Result (A × B) CompileFault
joined (Ok x) (Ok y) = Ok (x, y)
joined (Ok x) (Err e) = Err e
joined (Err d) (Ok y) = Err d
joined (Err d) (Err e) = Err (joined_fault d e)
