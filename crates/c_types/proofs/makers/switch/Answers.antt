use Rattle.std.proofs.Common.{ap, subst, sym}
use Rattle.c_tree.specs.Typed.{at_stmt}
use Rattle.c_tree.proofs.ListedViews.{switch_view}
use Rattle.c_types.proofs.makers.switch.Goals as goal

pub returns : goal.returns
returns c = rw c.into_inner.ensures (ap (at_stmt c.args.place) (switch_view c.args.e.value c.args.entries.labels c.args.entries.body))
