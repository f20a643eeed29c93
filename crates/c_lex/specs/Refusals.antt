-- When a text is refused.
use Rattle.std.specs.Prelude.{◌≡◌, ℕ, List, Result, Ok, Err}
use Rattle.c_lex.specs.declared.refusal.Refusal.{Refusal}
use Rattle.c_lex.specs.declared.refusal.CompileFault.{CompileFault}
use Rattle.c_lex.specs.declared.refusal.CompileFault.TheVariants as faults
use Rattle.c_lex.specs.Tokens.{reading_of}

-- P of the refusal, if the result is one
abbrev pub IfRefused : {X : Type 0} → Result X CompileFault → (Refusal → Type 0) → Type 0
IfRefused (Ok x) P = Unit {0}
IfRefused (Err (faults.Refused r)) P = P r
IfRefused (Err faults.NoMemory) P = Unit {0}

-- the text is refused so: up to the place stand items that refuse nothing, and this is the first that does
abbrev pub RefusesText : List ℕ → Refusal → Type 0
RefusesText text r = reading_of text ≡ Err r
