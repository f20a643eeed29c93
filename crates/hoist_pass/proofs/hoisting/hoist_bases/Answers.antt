use Rattle.struct_ir.specs.Views.{nodes_view}
use Rattle.hoist_pass.proofs.AllBits.{hoisted_at_once}
use Rattle.hoist_pass.proofs.hoisting.hoist_bases.Goals as goal

pub returns : goal.returns
returns c =
    hoisted_at_once c.in_ok-marks.marks c.in_ok-marks.ensures.own c.in_ok-full.field-0.items c.in_ok-full.ensures c.args.bases.now (nodes_view c.args.rows.items) (nodes_view c.in_ok-lifted.lifted.rows.items)
    (nodes_view c.in_ok-dropped.dropped.rows.items) c.in_ok-marks.ensures.bits c.requires.distinct c.in_ok-lifted.ensures.rows c.in_ok-dropped.ensures.rows
