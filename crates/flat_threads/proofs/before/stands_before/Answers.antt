use Rattle.std.proofs.Common.{sym, ◌∙◌}
use Rattle.flat_threads.specs.declared.flat.Flat.TheVariants as flats
use Rattle.flat_threads.proofs.Flats.{tells, tells_of, other_tells}
use Rattle.flat_threads.proofs.before.stands_before.Goals as goal

pub returns-in-Safe-clause-before : goal.returns-in-Safe-clause-before
returns-in-Safe-clause-before c = tells_of c.args.program.now c.args.calls.now _ c.flat.ensures.is flats.Safe c.in-Safe.is

pub returns-in-Stop-clause-before : goal.returns-in-Stop-clause-before
returns-in-Stop-clause-before c = tells_of c.args.program.now c.args.calls.now _ c.flat.ensures.is flats.Stop c.in-Stop.is

pub returns-in-Enter-clause-before : goal.returns-in-Enter-clause-before
returns-in-Enter-clause-before c = tells_of c.args.program.now c.args.calls.now _ c.flat.ensures.is flats.Enter c.in-Enter.is

pub returns-in-Round-clause-before : goal.returns-in-Round-clause-before
returns-in-Round-clause-before c = tells_of c.args.program.now c.args.calls.now _ c.flat.ensures.is _ c.in-Round.is

pub returns-in-Leave-clause-before : goal.returns-in-Leave-clause-before
returns-in-Leave-clause-before c = c.before_return.ensures ∙ tells_of c.args.program.now c.args.calls.now _ c.flat.ensures.is flats.Leave c.in-Leave.is

pub returns-in_default-clause-before : goal.returns-in_default-clause-before
returns-in_default-clause-before c =
    sym (other_tells c.args.calls.now.callers _ c.in_default.not-Round c.in_default.not-Safe c.in_default.not-Stop c.in_default.not-Enter c.in_default.not-Leave)
    ∙ tells c.args.program.now c.args.calls.now _ c.flat.ensures.is
