use Rattle.std.proofs.Common.{sym, subst, ◌∙◌}
use Rattle.struct_ir.specs.Views.{func_view}
use Rattle.hoist_pass.specs.inner.Hoist.{AreDistinct}
use Rattle.hoist_pass.proofs.LiftedRows.{bases_distinct}
use Rattle.hoist_pass.proofs.hoisting.hoist_func.Goals as goal

pub hoist_bases-requires-clause-distinct : goal.hoist_bases-requires-clause-distinct
hoist_bases-requires-clause-distinct c =
    let f = func_view c.args.f in
    subst (λ l. AreDistinct l) (sym (c.deref.ensures.value ∙ c.in_ok-bases.ensures.those)) (bases_distinct f.temps f.nodes)
