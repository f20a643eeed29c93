use Rattle.std.proofs.Common.{ap, ◌∙◌}
use Rattle.std.proofs.lemmas.Result.{on_ok_weaker}
use Rattle.struct_ir.specs.Views.{node_view, followed}
use Rattle.pin_flow.specs.Looks.{act_looks, act_assigns}
use Rattle.pin_flow.specs.Slots.{slot_in}
use Rattle.hoist_pass.proofs.LiftedRows.{on_any, leaf_tells, leaf_lifted}
use Rattle.hoist_pass.proofs.lifting.lift_leaf.Goals as goal

pub returns-clause-rows : goal.returns-clause-rows
returns-clause-rows c =
    on_ok_weaker c.add.result (λ f rest. f rest ∙ ap (followed c.args.out.now.items) (leaf_lifted (slot_in c.args.bases.now) c.args.bases.now (node_view c.args.n) c.requires.leaf rest)) c.add.ensures

pub returns-clause-looks : goal.returns-clause-looks
returns-clause-looks c = on_any c.add.result (leaf_tells c.args.marks.now act_looks c.args.seen.now.looks.items c.see_leaf.new.seen.looks.items (node_view c.args.n) c.requires.leaf c.in_ok-see_leaf.ensures.looks)

pub returns-clause-assigns : goal.returns-clause-assigns
returns-clause-assigns c = on_any c.add.result (leaf_tells c.args.marks.now act_assigns c.args.seen.now.assigns.items c.see_leaf.new.seen.assigns.items (node_view c.args.n) c.requires.leaf c.in_ok-see_leaf.ensures.assigns)
