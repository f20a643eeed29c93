-- What a call that judges a node answers, and what it leaves of its context.
use Rattle.std.specs.Prelude.{◌≡◌, Bool, true, false, Result, Ok, Err}
use Rattle.c_lex.specs.declared.refusal.Refusal.{Refusal}
use Rattle.c_lex.specs.declared.refusal.CompileFault.{CompileFault}
use Rattle.c_lex.specs.declared.refusal.CompileFault.TheVariants.{Refused, NoMemory}
use Rattle.c_typing.specs.Faults.{Judged, typed, Gives, both, ◌>>=◌}
use Rattle.c_typing.specs.Scope.{Context}
use Rattle.type_context.specs.declared.context.Context.{Context as CodeContext}
use Rattle.type_context.specs.ContextViews.{context_view}

-- what a function that takes no memory returned, where memory might have run out
abbrev pub as_fault : {A : Type 0} → Result A Refusal → Result A CompileFault
as_fault (Ok x) = Ok x
as_fault (Err r) = Err (Refused r)

-- what such a function returned, seen by view, is what judging gives: the same typed form, or the refusal that is named
abbrev pub Says : {A B : Type 0} → (A → B) → Result A Refusal → Judged B → Type 0
Says view r j = Gives view (as_fault r) j

-- the context that judging leaves, whether or not the node is typed; nothing is said where memory ran out
abbrev pub Leaves : {A : Type 0} → Result A CompileFault → CodeContext → Context → Type 0
Leaves (Ok x) c d = context_view c ≡ d
Leaves (Err (Refused r)) c d = context_view c ≡ d
Leaves (Err NoMemory) c d = Unit {0}

-- what a call returned, seen by view, and the context that it left are what judging gives and leaves, unless memory ran out
pub record Tells {A B : Type 0} (view : A → B) (r : Result A CompileFault) (left : CodeContext) (judged : Judged B × Context) : Type 0 where
  pub gives : Gives view r judged.0
  pub leaves : Leaves r left judged.1

-- two things are fine
abbrev pub both_fine : Judged (Unit {0}) → Judged (Unit {0}) → Judged (Unit {0})
both_fine j k = both j k >>= λ p. typed tt

-- whether memory ran out
abbrev pub lacks_memory : {A : Type 0} → Result A CompileFault → Bool
lacks_memory (Ok x) = false
lacks_memory (Err (Refused r)) = false
lacks_memory (Err NoMemory) = true
