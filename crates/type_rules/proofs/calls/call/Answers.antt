use Rattle.std.proofs.Common.{subst}
use Rattle.c_tree.specs.Typed.{at}
use Rattle.c_tree.specs.TypedViews.{type_view, boxed_expr_view}
use Rattle.c_typing.specs.Faults.{Gives, typed}
use Rattle.type_rules.proofs.Rowed.{call_seen}
use Rattle.type_rules.proofs.calls.call.Goals as goal

pub returns : goal.returns
returns c =
    subst (λ n. Gives boxed_expr_view c.made.result (typed (at c.args.place (type_view c.args.ty) n))) (call_seen c.args.number c.args.args) c.made.ensures
