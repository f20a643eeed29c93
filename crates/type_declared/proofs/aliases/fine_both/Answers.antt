use Rattle.std.proofs.Common.{ap, sym, ◌∙◌}
use Rattle.std.proofs.lemmas.Result.{err_from_is_err_and}
use Rattle.c_typing.specs.Faults.{typed, ◌>>=◌}
use Rattle.type_context.proofs.Judging.{both_fails, both_typed}
use Rattle.type_declared.proofs.aliases.fine_both.Goals as goal

pub returns-in_err-both : goal.returns-in_err-both
returns-in_err-both c = λ j k h l.
    let p = err_from_is_err_and c.from_residual.result c.from_residual.ensures.1 in
    rw (p.1, p.2) (both_fails (λ (x : Unit {0} × Unit {0}). x) (λ (u : Unit {0}). u) c.args.fine c.args.agrees j k (λ p. typed tt) c.in_err-both.field-0.0 h l (sym c.both.ensures ∙ c.in_err-both.was))

pub returns : goal.returns
returns c = λ j k h l.
    ap (λ i. i >>= (λ p. typed tt)) (both_typed (λ (x : Unit {0} × Unit {0}). x) (λ (u : Unit {0}). u) c.args.fine c.args.agrees j k c.in_ok-both.field-0 h l (sym c.both.ensures ∙ c.in_ok-both.was))
