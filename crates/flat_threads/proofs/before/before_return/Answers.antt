use Rattle.std.proofs.Common.{ap, sym, ◌∙◌, arith}
use Rattle.std.proofs.lemmas.Bool.{eqb-false}
use Rattle.flat_threads.specs.inner.Steps.{told_before}
use Rattle.flat_threads.proofs.Standing.{return_over}
use Rattle.flat_threads.proofs.before.before_return.Goals as goal

pub returns-else-is_empty : goal.returns-else-is_empty
returns-else-is_empty c =
    let ne = eqb-false _ 0 (sym c.is_empty.ensures ∙ c.if-is_empty.false) in
    ap told_before (sym (return_over c.calls.inside.registers.items c.calls.inside.slots c.calls.inside.top c.calls.inside.callers.items c.args.calls.now c.calls.view_is (omega (arith, ne))))
