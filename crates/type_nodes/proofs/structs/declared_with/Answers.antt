use Rattle.std.proofs.lemmas.Result.{err_from_is_err_and}
use Rattle.c_typing.specs.Judgement.{struct_fits}
use Rattle.type_context.specs.ContextViews.{context_view, members_view}
use Rattle.type_nodes.proofs.Braces.{unfit_tells, fit_again, declared_tells}
use Rattle.type_nodes.proofs.structs.declared_with.Goals as goal

pub returns-in_err-fits : goal.returns-in_err-fits
returns-in_err-fits c =
    let p = err_from_is_err_and c.from_residual.result c.from_residual.ensures.1 in
    rw (p.1, p.2)
    (unfit_tells c.args.again c.args.number c.args.context.now (struct_fits (context_view c.args.context.now) c.args.place (members_view c.args.all.items)) _
    (rw c.deref.ensures.value at c.in_err-fits.ensures))

pub returns-then-again : goal.returns-then-again
returns-then-again c =
    fit_again c.args.number c.args.place c.args.again c.args.context.now (members_view c.args.all.items) c.if-again.true (rw c.deref.ensures.value at c.in_ok-fits.ensures)

pub returns : goal.returns
returns c =
    declared_tells c.args.number c.args.place c.args.again c.args.context.now c.declare_struct.new.self (members_view c.args.all.items) _ c.if-again.false
    (rw c.deref.ensures.value at c.in_ok-fits.ensures) c.declare_struct.ensures.after c.declare_struct.ensures.memory
