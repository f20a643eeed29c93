use Rattle.std.proofs.Common.{ℕ, Option}
use Rattle.type_context.proofs.Judging.{fault_gives}
use Rattle.type_context.proofs.Walks.{lone_tells}
use Rattle.c_typing.specs.Programs.{lacking}
use Rattle.c_tree.specs.SyntaxViews.{param_dim_view}
use Rattle.c_types.proofs.parameters.size.Goals as goal

pub returns-in-Some : goal.returns-in-Some
returns-in-Some c = rw c.in-Some.is (c.some_size.ensures c.args.outermost (param_dim_view c.args.d.now))

pub returns-in-None : goal.returns-in-None
returns-in-None c = rw c.in-None.is (lone_tells (λ (x : Option ℕ). x) c.as_fault.result c.args.context.now (lacking c.args.outermost c.args.d.now.place) (fault_gives (λ (x : Option ℕ). x) _ _ _ c.as_fault.ensures c.lacking.ensures))
