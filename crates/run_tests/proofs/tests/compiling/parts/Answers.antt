use Rattle.std.proofs.Common.{List, Result, Ok, Err}
use Rattle.c_lex.specs.declared.refusal.CompileFault.{CompileFault}
use Rattle.c_lex.specs.declared.refusal.CompileFault.TheVariants as faults
use Rattle.c_lex.specs.declared.refusal.Refusal.{Refusal}
use Rattle.c_lex.specs.declared.token.Token.{Token}
use Rattle.c_lex.specs.Refusals.{IfRefused}
use Rattle.alaska_run.specs.Reading.{IsRead, Refuses}
use Rattle.c_tree.specs.Typed.{Typed}
use Rattle.run_tests.proofs.tests.compiling.parts.Goals as goal

-- what is refused for one reason is refused for another that follows
refused_for : {X : Type 0} (x : Result X CompileFault) (P Q : Refusal → Type 0) → ((r : Refusal) → P r → Q r) → IfRefused x P → IfRefused x Q
refused_for (Ok x) P Q f h = tt
refused_for (Err (faults.Refused r)) P Q f h = f r h
refused_for (Err faults.NoMemory) P Q f h = tt

pub returns-clause-outside : goal.returns-clause-outside
returns-clause-outside c =
    let text = c.args.text.now in
    refused_for c.compile.result (λ r. Refuses text r) (λ r. (tokens : List Token) (t : Typed) → IsRead text tokens t → ⊥)
    (λ r h tokens t i. c.read_each_text_once.ensures.not_both text tokens t r i h) c.compile.ensures.refused
