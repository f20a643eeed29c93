use Rattle.std.proofs.Common.{ℕ, Option, Some, refl}
use Rattle.c_tree.specs.SyntaxViews as source
use Rattle.c_typing.specs.Faults.{typed}
use Rattle.c_typing.specs.Judgement.{judged, array_size}
use Rattle.type_context.specs.ContextViews.{context_view}
use Rattle.type_context.proofs.Walks.{ok_tells}
use Rattle.c_types.proofs.Steps.{err_passes}
use Rattle.c_types.proofs.parameters.some_size.Goals as goal

pub returns-in_err-n : goal.returns-in_err-n
returns-in_err-n c = λ outermost d.
    let e = source.expr_view c.args.e.now in
    err_passes (λ (x : ℕ). x) (λ (x : Option ℕ). x) (array_size e (judged e)) (λ d n. typed (Some n)) (context_view c.args.context.now) c.array_size.new.context c.array_size.result c.in_err-n.field-0.0 c.from_residual.result
    c.array_size.ensures c.in_err-n.was c.from_residual.ensures.1

pub returns : goal.returns
returns c = λ outermost d.
    let e = source.expr_view c.args.e.now in
    ok_tells (λ (x : ℕ). x) (λ (x : Option ℕ). x) (array_size e (judged e)) (λ d n. typed (Some n)) (context_view c.args.context.now) c.array_size.new.context c.array_size.result c.in_ok-n.n _
    c.array_size.ensures c.in_ok-n.was refl
