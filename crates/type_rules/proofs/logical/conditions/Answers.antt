use Rattle.std.proofs.Common.{subst, sym}
use Rattle.c_typing.specs.Faults.{Gives, both}
use Rattle.c_typing.specs.Rules.{tested}
use Rattle.c_tree.specs.TypedViews.{boxed_expr_view}
use Rattle.type_context.proofs.Judging.{gives_both}
use Rattle.type_rules.specs.inner.Pairs.{expr_pair_view}
use Rattle.type_rules.proofs.logical.conditions.Goals as goal

pub returns : goal.returns
returns c =
    let j = tested c.args.place (boxed_expr_view c.args.a) in
    let k = tested c.args.place (boxed_expr_view c.args.b) in
    subst (λ r. Gives expr_pair_view r (both j k)) (sym c.both.ensures) (gives_both boxed_expr_view boxed_expr_view c.tested.result c.tested-2.result j k c.tested.ensures c.tested-2.ensures)
