use Rattle.std.proofs.Common.{sym, subst}
use Rattle.struct_ir.specs.Views.{nodes_view}
use Rattle.mark_sets.specs.Homes.{AreOnce}
use Rattle.mark_sets.proofs.HomeSlots.{bases_once}
use Rattle.pin_frames.proofs.placing.place_func.Goals as goal

pub list_bases-requires-clause-once : goal.list_bases-requires-clause-once
list_bases-requires-clause-once c = subst (λ l. AreOnce l) (sym c.in_ok-bases.ensures.those) (bases_once c.args.f.temps (nodes_view c.args.f.nodes.items))
