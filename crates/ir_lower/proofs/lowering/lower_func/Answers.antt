use Rattle.std.proofs.Common.{map, [], ap, ◌∙◌, ◌+◌, ◌*◌, length, None}
use Rattle.c_tree.specs.TypedViews.{layout_view, local_view, stmt_view, func_view as tree_func_view}
use Rattle.struct_ir.specs.Views.{object_view, followed}
use Rattle.lower_forms.specs.Counts.{greatest_row, switches_in}
use Rattle.lower_forms.specs.Forms.{Frame, opened, objects_in, row_nodes}
use Rattle.lower_forms.specs.Programs.{homes_from, objects_of}
use Rattle.lower_expressions.specs.FrameViews.{frame_view}
use Rattle.ir_lower.proofs.Rows.{params_fit, func_done}
use Rattle.ir_lower.proofs.lowering.lower_func.Goals as goal
use Rattle.c_tree.specs.Typed.{stmts_of}

pub invariant_of-result : goal.invariant_of-result
invariant_of-result c = record {
  params_are_registers = params_fit c.args.f.now.params (length (map local_view c.args.f.now.locals.items)) _ c.in_ok-temps.temps c.requires
      (c.in_ok-temps.ensures ∙ ap (λ d. length (map local_view d) + (greatest_row (stmts_of (map stmt_view c.deref-5.result.now)) + 2 * switches_in (stmts_of (map stmt_view c.deref-5.result.now)))) c.deref-4.ensures.value);
}

pub returns : goal.returns
returns c =
    func_done (map layout_view c.args.structs.now) c.args.is_main (tree_func_view c.args.f.now) (frame_view c.in_ok-frame.frame) c.in_ok-temps.temps
    (map object_view c.in_ok-objects.field-0.items) c.new-nodes.result.items c.body.new.out.items c.last.new.out.items
    (c.in_ok-frame.ensures ∙ ap {B = Frame} (λ d. record { structs = map layout_view c.args.structs.now; homes = homes_from 0 (map local_view d); first = length (map local_view d); flag = None; around = []; outer = [] }) c.deref-3.ensures.value)
    (c.in_ok-temps.ensures ∙ (λ i. length (map local_view (c.deref-4.ensures.value i)) + (greatest_row (stmts_of (map stmt_view (c.deref-5.ensures.value i))) + 2 * switches_in (stmts_of (map stmt_view (c.deref-5.ensures.value i))))))
    (c.in_ok-objects.ensures ∙ ap (λ d. objects_of (map layout_view c.args.structs.now) (map local_view d)) c.deref-7.ensures.value)
    c.new-nodes.ensures.items
    (λ r. c.in_ok-body.ensures r ∙ ap (λ d. followed c.new-nodes.result.items (row_nodes (opened (frame_view c.in_ok-frame.frame) (objects_in (frame_view c.in_ok-frame.frame) (stmts_of (map stmt_view d)))) (stmts_of (map stmt_view d)) [] r)) c.deref-6.ensures.value)
    c.in_ok-last.ensures
