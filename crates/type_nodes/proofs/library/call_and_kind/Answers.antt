use Rattle.std.proofs.Common.{subst, sym}
use Rattle.c_tree.specs.TypedViews.{boxed_expr_view}
use Rattle.c_typing.specs.Faults.{Gives, both}
use Rattle.type_context.proofs.Judging.{gives_both}
use Rattle.type_nodes.specs.inner.Calls.{call_and_kind_view}
use Rattle.type_nodes.proofs.library.call_and_kind.Goals as goal

pub returns : goal.returns
returns c j k h l =
    let plain : Unit {0} → Unit {0} = λ u. tt in
    subst (λ r. Gives call_and_kind_view r (both j k)) (sym c.both.ensures) (gives_both boxed_expr_view plain c.args.call c.args.kind j k h l)
