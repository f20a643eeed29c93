use Rattle.lower_expressions.specs.FrameViews.{frame_view}
use Rattle.std.proofs.Common.{map}
use Rattle.std.proofs.lemmas.Result.{on_ok_weaker}
use Rattle.c_tree.specs.Typed.{stmts_of}
use Rattle.c_tree.specs.TypedViews.{optional_expr_view, stmt_view}
use Rattle.ir_lower.proofs.Rows.{block_bare, block_done, for_bare, none_of, switch_done}
use Rattle.ir_lower.proofs.statements.+stmts.Goals as goal

pub stmt-returns-in-Block : goal.stmt-returns-in-Block
stmt-returns-in-Block t c =
    on_ok_weaker c.block.result (λ h.
    block_done (frame_view c.args.f.now) c.args.s.now.place c.args.s.now.node c.in-Block.body c.args.left.now c.args.out.now.items c.block.new.out.items c.deref.result.now
    c.in-Block.is c.deref.ensures.value h) c.block.ensures

pub stmt-returns-in-Switch : goal.stmt-returns-in-Switch
stmt-returns-in-Switch t c =
    on_ok_weaker c.switch.result (λ h.
    switch_done (frame_view c.args.f.now) c.args.s.now.place c.args.s.now.node c.in-Switch.e c.in-Switch.labels c.in-Switch.body c.args.left.now c.args.out.now.items c.switch.new.out.items
    c.deref-in-Switch-2.result.now c.deref-in-Switch.result.now c.in-Switch.is c.deref-in-Switch-2.ensures.value c.deref-in-Switch.ensures.value h) c.switch.ensures

-- ---- where no local has a stack object

pub block-returns-then-is_empty : goal.block-returns-then-is_empty
block-returns-then-is_empty t c =
    on_ok_weaker c.row.result (λ h.
    block_bare (frame_view c.args.f.now) c.args.at (stmts_of (map stmt_view c.args.body.now)) c.args.left.now c.in_ok-own.own.items c.args.out.now.items c.row.new.out.items
    c.in_ok-own.ensures (none_of c.in_ok-own.own.items _ c.is_empty.result c.in_ok-own.own.ok.0 c.is_empty.ensures c.if-is_empty.true) h) c.row.ensures

pub for_loop-returns-then-is_empty : goal.for_loop-returns-then-is_empty
for_loop-returns-then-is_empty t c =
    on_ok_weaker c.for_in.result (λ h.
    for_bare (frame_view c.args.f.now) c.args.at (stmt_view c.args.first.now) (stmt_view c.args.body.now) (stmt_view c.args.step.now) (optional_expr_view c.args.e.now) c.args.left.now c.in_ok-own.own.items c.args.out.now.items c.for_in.new.out.items
    c.in_ok-own.ensures (none_of c.in_ok-own.own.items _ c.is_empty.result c.in_ok-own.own.ok.0 c.is_empty.ensures c.if-is_empty.true) h) c.for_in.ensures
