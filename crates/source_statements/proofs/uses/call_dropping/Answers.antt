use Rattle.std.proofs.Common.{refl}
use Rattle.std.proofs.lemmas.Result.{IfOk-weaker}
use Rattle.c_meaning.specs.Control as control
use Rattle.source_tree.specs.SharedViews.{args_of}
use Rattle.source_state.specs.Views.{callee_of, values_of, todo_of}
use Rattle.source_statements.proofs.Resuming.{give_call}
use Rattle.source_statements.proofs.uses.call_dropping.Goals as goal

pub returns : goal.returns
returns c =
    let wait = control.dropped (todo_of c.args.k.now.value) in
    let callee = callee_of c.args.callee.now.value in
    let before = values_of c.args.before.now.value in
    let rest = args_of c.args.rest.now.value in
    IfOk-weaker c.next_argument.result _ _
    (λ q f function. give_call c.args.program.now function c.args.place callee before rest _ wait (control.argument c.args.place callee before rest wait) c.args.v _ _ q
    refl c.in_ok-wait.ensures f)
    c.next_argument.ensures
