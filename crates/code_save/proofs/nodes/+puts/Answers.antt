use Rattle.std.proofs.Common.{◌<◌, ◌-◌, true, Ok, sym, ap, ◌∙◌, arith}
use Rattle.formats.specs.Formats.{u32, list}
use Rattle.struct_ir.specs.declared.code.CallNode.{CallNode}
use Rattle.struct_ir.specs.declared.code.StepNode.{StepNode}
use Rattle.struct_ir.specs.Nodes.{set, call, step, look, safepoint, begin_object, end_object, plain, if_, loop, break_, next_, ret}
use Rattle.struct_ir.specs.Views.{calc_view, call_view, step_view, kind_view, node_view, nodes_view}
use Rattle.struct_ir.proofs.Views.{if_is, loop_is}
use Rattle.code_file.specs.Files.{node, nodes}
use Rattle.code_file.specs.Calls.{node_bare}
use Rattle.code_save.specs.inner.Fits.{node_fits}
use Rattle.code_save.proofs.Writing.{on_ok, nothing_wrote, wrote_as, pair_wrote, first_writes, item_writes, all_wrote}
use Rattle.code_save.proofs.Rows.{fields_of, if_wrote, loop_wrote, node_wrote, place_is, none_wrote, nodes_wrote}
use Rattle.code_save.proofs.nodes.+puts.Goals as goal

pub put_nodes-returns-then-levels-eq0 : goal.put_nodes-returns-then-levels-eq0
put_nodes-returns-then-levels-eq0 t c = on_ok c.put.result (none_wrote c.args.levels (nodes_view c.args.all.now) c.if-levels-eq0.true) c.put.ensures

pub put_nodes-loop-n-init : goal.put_nodes-loop-n-init
put_nodes-loop-n-init t c = first_writes (node (nodes (c.args.levels - 1))) (λ n. node_bare (node_view n)) (λ n. node_fits (c.args.levels - 1) (node_view n)) c.args.all.now c.in_ok-put_count.ensures

pub put_nodes-loop-n-preserved : goal.put_nodes-loop-n-preserved
put_nodes-loop-n-preserved t c = item_writes (node (nodes (c.args.levels - 1))) (λ n. node_bare (node_view n)) (λ n. node_fits (c.args.levels - 1) (node_view n)) c.args.all.now c.loop-n.n-index c.n-item.result c.loop-n-test.true c.n-item.is c.in_ok-put_node.ensures c.loop-n.invariant

pub put_nodes-returns : goal.put_nodes-returns
put_nodes-returns t c = let pos : 0 < c.args.levels = omega arith in nodes_wrote c.args.levels pos c.args.all.now (all_wrote (node (nodes (c.args.levels - 1))) (λ n. node_bare (node_view n)) (λ n. node_fits (c.args.levels - 1) (node_view n)) c.args.all.now c.loop-n.n-index c.loop-n-test.false c.loop-n.invariant)

pub put_node-returns : goal.put_node-returns
put_node-returns t c = on_ok c.put_fields.result (node_wrote c.args.levels (node_view c.args.n.now) c.tag_of.result c.tag_of.ensures (wrote_as u32 (sym (place_is c.args.n.now)) c.in_ok-put_u32.ensures) c.in_ok-put.ensures) c.put_fields.ensures

pub put_fields-returns-in-If : goal.put_fields-returns-in-If
put_fields-returns-in-If t c =
    fields_of c.args.levels (node_view c.args.n.now) (if_ c.args.n.now.place c.in-If.temp (nodes_view c.in-If.one.items) (nodes_view c.in-If.other.items)) c.put_if.result c.args.out.now c.put_if.new.out (if_is c.args.n.now c.in-If.temp c.in-If.one c.in-If.other c.in-If.is)
    (on_ok c.put_if.result (if_wrote c.args.levels c.in-If.temp c.deref.result.now c.deref-in-If.result.now c.in-If.one.items c.in-If.other.items c.deref.ensures.value c.deref-in-If.ensures.value) c.put_if.ensures)

pub put_fields-returns-in-Loop : goal.put_fields-returns-in-Loop
put_fields-returns-in-Loop t c =
    fields_of c.args.levels (node_view c.args.n.now) (loop c.args.n.now.place (nodes_view c.in-Loop.body.items) (nodes_view c.in-Loop.latch.items)) c.put_loop.result c.args.out.now c.put_loop.new.out (loop_is c.args.n.now c.in-Loop.body c.in-Loop.latch c.in-Loop.is)
    (on_ok c.put_loop.result (loop_wrote c.args.levels c.deref-in-Loop.result.now c.deref-in-Loop-2.result.now c.in-Loop.body.items c.in-Loop.latch.items c.deref-in-Loop.ensures.value c.deref-in-Loop-2.ensures.value) c.put_loop.ensures)

pub put_fields-returns-in-Set : goal.put_fields-returns-in-Set
put_fields-returns-in-Set t c = fields_of c.args.levels (node_view c.args.n.now) (plain c.args.n.now.place (set c.in-Set.to (calc_view c.in-Set.calc))) c.put_set.result c.args.out.now c.put_set.new.out (ap (λ k. kind_view c.args.n.now.place k) c.in-Set.is) c.put_set.ensures

pub put_fields-returns-in-Call : goal.put_fields-returns-in-Call
put_fields-returns-in-Call t c = fields_of c.args.levels (node_view c.args.n.now) (plain c.args.n.now.place (call (call_view c.deref-in-Call.result.now))) c.put_call.result c.args.out.now c.put_call.new.out (ap (λ k. kind_view c.args.n.now.place k) c.in-Call.is ∙ ap (λ (x : CallNode). plain c.args.n.now.place (call (call_view x))) (sym c.deref-in-Call.ensures)) c.put_call.ensures

pub put_fields-returns-in-Ret : goal.put_fields-returns-in-Ret
put_fields-returns-in-Ret t c = fields_of c.args.levels (node_view c.args.n.now) (ret c.args.n.now.place c.in-Ret.temp) c.put_option.result c.args.out.now c.put_option.new.out (ap (λ k. kind_view c.args.n.now.place k) c.in-Ret.is) c.put_option.ensures

pub put_fields-returns-in-Step : goal.put_fields-returns-in-Step
put_fields-returns-in-Step t c = fields_of c.args.levels (node_view c.args.n.now) (plain c.args.n.now.place (step (step_view c.deref-in-Step.result.now))) c.put_step.result c.args.out.now c.put_step.new.out (ap (λ k. kind_view c.args.n.now.place k) c.in-Step.is ∙ ap (λ (x : StepNode). plain c.args.n.now.place (step (step_view x))) (sym c.deref-in-Step.ensures)) c.put_step.ensures

pub put_fields-returns-in-Look : goal.put_fields-returns-in-Look
put_fields-returns-in-Look t c = fields_of c.args.levels (node_view c.args.n.now) (plain c.args.n.now.place (look c.in-Look.slot c.in-Look.base)) c.put_two.result c.args.out.now c.put_two.new.out (ap (λ k. kind_view c.args.n.now.place k) c.in-Look.is) c.put_two.ensures

pub put_fields-returns-in-Safepoint : goal.put_fields-returns-in-Safepoint
put_fields-returns-in-Safepoint t c = fields_of c.args.levels (node_view c.args.n.now) (plain c.args.n.now.place (safepoint c.in-Safepoint.slots.items)) c.put_numbers.result c.args.out.now c.put_numbers.new.out (ap (λ k. kind_view c.args.n.now.place k) c.in-Safepoint.is) (on_ok c.put_numbers.result (wrote_as (list u32) c.deref-in-Safepoint.ensures.value) c.put_numbers.ensures)

pub put_fields-returns-in-Begin : goal.put_fields-returns-in-Begin
put_fields-returns-in-Begin t c = fields_of c.args.levels (node_view c.args.n.now) (plain c.args.n.now.place (begin_object c.in-Begin.object)) c.put_u32.result c.args.out.now c.put_u32.new.out (ap (λ k. kind_view c.args.n.now.place k) c.in-Begin.is) c.put_u32.ensures

pub put_fields-returns-in-End : goal.put_fields-returns-in-End
put_fields-returns-in-End t c = fields_of c.args.levels (node_view c.args.n.now) (plain c.args.n.now.place (end_object c.in-End.object)) c.put_u32-in-End.result c.args.out.now c.put_u32-in-End.new.out (ap (λ k. kind_view c.args.n.now.place k) c.in-End.is) c.put_u32-in-End.ensures

pub put_fields-returns-in-Break : goal.put_fields-returns-in-Break
put_fields-returns-in-Break t c = fields_of c.args.levels (node_view c.args.n.now) (break_ c.args.n.now.place) (Ok tt) c.args.out.now c.args.out.now (ap (λ k. kind_view c.args.n.now.place k) c.in-Break.is) (nothing_wrote true)

pub put_fields-returns-in-Next : goal.put_fields-returns-in-Next
put_fields-returns-in-Next t c = fields_of c.args.levels (node_view c.args.n.now) (next_ c.args.n.now.place) (Ok tt) c.args.out.now c.args.out.now (ap (λ k. kind_view c.args.n.now.place k) c.in-Next.is) (nothing_wrote true)

pub put_if-returns : goal.put_if-returns
put_if-returns t c = on_ok c.put_nodes-2.result (λ w. pair_wrote c.in_ok-put_u32.ensures (pair_wrote c.in_ok-put_nodes.ensures w)) c.put_nodes-2.ensures

pub put_loop-returns : goal.put_loop-returns
put_loop-returns t c = on_ok c.put_nodes-2.result (λ w. pair_wrote c.in_ok-put_nodes.ensures w) c.put_nodes-2.ensures
