use Rattle.std.proofs.Common.{◌≡◌, ◌+◌, ◌*◌, map, drop}
use Rattle.std.specs.Prelude.{max}
use Rattle.c_tree.specs.TypedViews.{stmt_view, label_view}
use Rattle.c_tree.proofs.typed.Stmt.TheLaws.{the_size}
use Rattle.struct_ir.specs.Nodes.{Nodes}
use Rattle.struct_ir.specs.Views.{followed}
use Rattle.lower_forms.specs.Forms.{row_nodes, switch_nodes}
use Rattle.lower_expressions.specs.FrameViews.{frame_view}
use Rattle.ir_lower.proofs.statements.+stmts.Given as goal
use Rattle.c_tree.specs.Typed.{stmts_of}

-- so far
abbrev pub invariant-row-loop-s : goal.invariant-row-loop-s
invariant-row-loop-s l =
    (rest : Nodes) → followed l.out.items (row_nodes (frame_view l.f) (stmts_of (map stmt_view (drop l.s-index l.all))) l.left rest)
    ≡ followed l.initial.out.items (row_nodes (frame_view l.f) (stmts_of (map stmt_view l.all)) l.left rest)

-- ---- a statement and what begins with it

abbrev pub decreases-stmt : goal.decreases-stmt
decreases-stmt l = goal.size-stmt l * 8

abbrev pub decreases-row_of : goal.decreases-row_of
decreases-row_of l = goal.size-row_of l * 8 + 1

abbrev pub decreases-for_step : goal.decreases-for_step
decreases-for_step l = the_size l.step.now * 8 + 1

abbrev pub decreases-while_round : goal.decreases-while_round
decreases-while_round l = goal.size-while_round l * 8 + 1

abbrev pub decreases-for_round : goal.decreases-for_round
decreases-for_round l = goal.size-for_round l * 8 + 1

-- ---- parts of a statement

abbrev pub decreases-row : goal.decreases-row
decreases-row l = goal.size-row l * 8 + 3

abbrev pub decreases-block : goal.decreases-block
decreases-block l = goal.size-block l * 8 + 5

abbrev pub decreases-block_with : goal.decreases-block_with
decreases-block_with l = goal.size-block_with l * 8 + 4

abbrev pub decreases-if_alone : goal.decreases-if_alone
decreases-if_alone l = goal.size-if_alone l * 8 + 2

abbrev pub decreases-if_else : goal.decreases-if_else
decreases-if_else l = max (the_size l.one.now) (the_size l.other.now) * 8 + 2

abbrev pub decreases-for_rounds : goal.decreases-for_rounds
decreases-for_rounds l = max (the_size l.body.now) (the_size l.step.now) * 8 + 2

abbrev pub decreases-while_loop : goal.decreases-while_loop
decreases-while_loop l = goal.size-while_loop l * 8 + 2

abbrev pub decreases-for_loop : goal.decreases-for_loop
decreases-for_loop l = max (the_size l.first.now) (max (the_size l.body.now) (the_size l.step.now)) * 8 + 4

abbrev pub decreases-for_in : goal.decreases-for_in
decreases-for_in l = max (the_size l.first.now) (max (the_size l.body.now) (the_size l.step.now)) * 8 + 3

-- ---- a switch, and a statement under its flag

abbrev pub invariant-cases-loop-i : goal.invariant-cases-loop-i
invariant-cases-loop-i l =
    (rest : Nodes) → followed l.out.items (switch_nodes (frame_view l.f) l.at l.chosen (map label_view l.labels) l.i (stmts_of (map stmt_view (drop l.i l.body))) l.left rest)
    ≡ followed l.initial.out.items (switch_nodes (frame_view l.f) l.at l.chosen (map label_view l.labels) 0 (stmts_of (map stmt_view l.body)) l.left rest)

abbrev pub decreases-guarded_stmt : goal.decreases-guarded_stmt
decreases-guarded_stmt l = goal.size-guarded_stmt l * 8 + 2

abbrev pub decreases-do_loop : goal.decreases-do_loop
decreases-do_loop l = goal.size-do_loop l * 8 + 2

abbrev pub decreases-cases : goal.decreases-cases
decreases-cases l = goal.size-cases l * 8 + 2

abbrev pub decreases-switch : goal.decreases-switch
decreases-switch l = goal.size-switch l * 8 + 3
