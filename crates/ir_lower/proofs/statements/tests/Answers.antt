use Rattle.std.proofs.Common.{ap, refl, ◌∙◌}
use Rattle.struct_ir.specs.Nodes.{no_nodes, more_nodes, break_}
use Rattle.struct_ir.specs.Views.{followed}
use Rattle.lower_expressions.specs.FrameViews.{frame_view}
use Rattle.std.proofs.lemmas.Result.{on_ok_weaker}
use Rattle.ir_lower.proofs.Rows.{row_alone, tests_done}
use Rattle.ir_lower.proofs.statements.tests.Goals as goal

pub returns : goal.returns
returns c =
    on_ok_weaker c.branches.result (λ h.
    tests_done (frame_view c.args.f.now) c.args.e.now c.args.f.now.first_temp c.args.out.now.items c.expr.new.out.items c.branches.new.out.items c.new.result.items c.put.new.out.items
    refl c.new.ensures.items
    (row_alone c.put.new.out.items (more_nodes (break_ c.args.e.now.place) no_nodes) (c.in_ok-put.ensures no_nodes ∙ ap (λ l. followed l (more_nodes (break_ c.args.e.now.place) no_nodes)) c.new-no.ensures.items))
    c.in_ok-expr.ensures h) c.branches.ensures
