use Rattle.std.proofs.Common.{ap, sym, ◌∙◌}
use Rattle.std.proofs.lemmas.Result.{err_from_is_err_and}
use Rattle.c_lex.specs.declared.refusal.CompileFault.TheVariants.{Refused}
use Rattle.c_typing.specs.Faults.{typed, ◌>>=◌}
use Rattle.type_context.specs.Telling.{as_fault}
use Rattle.type_context.proofs.Judging.{both_fails, both_typed}
use Rattle.type_context.proofs.outcomes.both_fine.Goals as goal

pub returns-in_err-both_or_refusal : goal.returns-in_err-both_or_refusal
returns-in_err-both_or_refusal c = λ j k h l.
    let p = err_from_is_err_and c.from_residual.result c.from_residual.ensures.1 in
    rw (p.1, p.2) (both_fails (λ (u : Unit {0}). u) (λ (u : Unit {0}). u) (as_fault c.args.a) (as_fault c.args.b) j k (λ p. typed tt) (Refused c.in_err-both_or_refusal.field-0.0) h l
    (sym c.both_or_refusal.ensures ∙ ap as_fault c.in_err-both_or_refusal.was))

pub returns : goal.returns
returns c = λ j k h l.
    ap (λ i. i >>= (λ p. typed tt)) (both_typed (λ (u : Unit {0}). u) (λ (u : Unit {0}). u) (as_fault c.args.a) (as_fault c.args.b) j k c.in_ok-both_or_refusal.field-0 h l
    (sym c.both_or_refusal.ensures ∙ ap as_fault c.in_ok-both_or_refusal.was))
