use Rattle.std.proofs.Common.{◌∙◌, map}
use Rattle.std.proofs.lemmas.Result.{IfOk-weaker}
use Rattle.c_tree.specs.Typed.{stmts_of}
use Rattle.c_tree.specs.TypedViews.{type_view, stmt_view}
use Rattle.type_locals.specs.LocalViews.{params_view}
use Rattle.type_locals.specs.inner.Marking.{marked}
use Rattle.type_locals.proofs.FurtherLocals.{same_func}
use Rattle.type_locals.proofs.locals.settled.Goals as goal

pub returns : goal.returns
returns c =
    IfOk-weaker c.settled_by.result _ _
    (λ v h t. h t ∙ same_func (marked c.in_ok-addressed.addressed) c.args.addressed.now c.in_ok-addressed.ensures (params_view c.args.params.now) (map type_view c.args.types.now) t (stmts_of (map stmt_view c.args.body.now.items)))
    c.settled_by.ensures
