use Rattle.std.proofs.Common.{None, ap, ◌∙◌, arith}
use Rattle.std.specs.Prelude.{option_map}
use Rattle.struct_ir.specs.Valid.{last_list}
use Rattle.struct_ir.specs.Views.{node_view, nodes_view, followed}
use Rattle.code_file.specs.Calls.{node_filled, filled}
use Rattle.code_load.proofs.FilledRows.{row_more, row_end, if_filled, loop_filled}
use Rattle.code_load.proofs.filling.+fills.Goals as goal

pub fill_row-loop-n-preserved : goal.fill_row-loop-n-preserved
fill_row-loop-n-preserved t c =
    let rest = c.next.new.self.rest.items in
    let made = c.in_ok-whole.ensures ∙ ap (λ o. node_filled o (node_view c.in-Some.n)) (c.list_behind.ensures ∙ ap (λ l. last_list None (nodes_view l)) c.deref.ensures.value) in
    ap (λ l. followed l (filled (last_list None (nodes_view l)) (nodes_view rest))) c.in_ok-push.ensures.items
    ∙ row_more c.loop-n.out.items c.in_ok-whole.whole c.in-Some.n c.loop-n.n-iterator.rest.items rest _ c.in-Some.ensures.steps.0 made c.loop-n.invariant

pub fill_row-returns : goal.fill_row-returns
fill_row-returns t c =
    let h = c.in-None.ensures.steps.0 in
    let k = c.loop-n.n-iterator.rest.ok.0 in
    row_end c.loop-n.out.items c.loop-n.n-iterator.rest.items _ (omega (arith, h, k)) c.loop-n.invariant

pub fill_node-returns-in_ok-no-in-If : goal.fill_node-returns-in_ok-no-in-If
fill_node-returns-in_ok-no-in-If t c =
    if_filled (option_map (λ s. s.now) c.args.before) c.args.n c.branches.result c.in-If.temp c.in-If.one c.in-If.other c.in_ok-yes-in-If.yes c.in_ok-no-in-If.no c.in-If.is c.branches.ensures
    c.in_ok-yes-in-If.ensures c.in_ok-no-in-If.ensures

pub fill_node-returns-in_ok-second-in-Loop : goal.fill_node-returns-in_ok-second-in-Loop
fill_node-returns-in_ok-second-in-Loop t c =
    loop_filled (option_map (λ s. s.now) c.args.before) c.args.n c.rounds.result c.in-Loop.body c.in-Loop.latch c.in_ok-first-in-Loop.first c.in_ok-second-in-Loop.second c.in-Loop.is c.rounds.ensures
    c.in_ok-first-in-Loop.ensures c.in_ok-second-in-Loop.ensures
