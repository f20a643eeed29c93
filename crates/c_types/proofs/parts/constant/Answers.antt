use Rattle.std.proofs.Common.{ap, sym, Option}
use Rattle.ak_words.specs.declared.number.Num.{Num}
use Rattle.c_tree.specs.SyntaxViews as source
use Rattle.c_tree.specs.TypedViews.{boxed_expr_view}
use Rattle.c_typing.specs.Faults.{typed}
use Rattle.c_typing.specs.Judgement.{judged, valued}
use Rattle.c_typing.specs.Constants.{constant_value}
use Rattle.type_context.specs.ContextViews.{context_view}
use Rattle.type_context.proofs.Walks.{ok_tells}
use Rattle.c_types.proofs.Steps.{err_passes}
use Rattle.c_types.proofs.parts.constant.Goals as goal

pub returns-in_err-x : goal.returns-in_err-x
returns-in_err-x c =
    err_passes boxed_expr_view (λ (v : Option Num). v) (valued (judged (source.expr_view c.args.e.now))) (λ d x. typed (constant_value d (source.expr_view c.args.e.now) x)) (context_view c.args.context.now) c.value.new.context c.value.result c.in_err-x.field-0.0 c.from_residual.result
    c.value.ensures c.in_err-x.was c.from_residual.ensures.1

pub returns : goal.returns
returns c =
    ok_tells boxed_expr_view (λ (v : Option Num). v) (valued (judged (source.expr_view c.args.e.now))) (λ d x. typed (constant_value d (source.expr_view c.args.e.now) x)) (context_view c.args.context.now) c.value.new.context c.value.result c.in_ok-x.x _
    c.value.ensures c.in_ok-x.was (ap typed (sym (rw c.deref.ensures at c.constant_value.ensures)))
