-- Outcomes that are gone on from.
use Rattle.std.proofs.Common.{◌≡◌, true, false, Result, Ok, Err, sym, subst}
use Rattle.c_lex.specs.declared.refusal.CompileFault.{CompileFault}
use Rattle.c_lex.specs.declared.refusal.CompileFault.TheVariants.{Refused, NoMemory}
use Rattle.c_typing.specs.Faults.{Judged, Gives}
use Rattle.c_typing.specs.Scope.{Context}
use Rattle.type_context.specs.declared.context.Context.{Context as CodeContext}
use Rattle.type_context.specs.ContextViews.{context_view}
use Rattle.type_context.specs.Telling.{Leaves}
use Rattle.c_types.specs.inner.Gathering.{IsOutcome}

-- an outcome that is gone on from
pub known_left : {A : Type 0} (r s : Result A CompileFault) (n : CodeContext) (d : Context) → IsOutcome r (Ok s) → Leaves r n d → context_view n ≡ d
known_left (Ok x) s n d h l = l
known_left (Err (Refused r)) s n d h l = l
known_left (Err NoMemory) s n d h l = absurd (let e : true ≡ false = h.1 in cc)

pub known_gives : {A B : Type 0} (view : A → B) (r s : Result A CompileFault) (j : Judged B) → IsOutcome r (Ok s) → Gives view r j → Gives view s j
known_gives view r s j h g = subst (λ x. Gives view x j) (sym h.0) g
