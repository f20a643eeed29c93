use Rattle.std.proofs.Common.{◌+◌, ◌*◌, map, take}
use Prim.Native.Nat.{max}
use denote.Param.Weighed.{most}
use Rattle.c_tree.specs.Syntax.{stmts_of}
use Rattle.c_tree.specs.SyntaxViews as source
use Rattle.c_tree.proofs.syntax.Stmt.TheLaws.{the_size}
use Rattle.c_tree.specs.TypedViews.{type_view, stmt_view}
use Rattle.c_typing.specs.Statements.{judged_stmts}
use Rattle.type_context.specs.ContextViews.{context_view}
use Rattle.type_context.specs.Telling.{Tells}
use Rattle.type_declared.specs.Gathering.{each}
use Rattle.c_types.specs.inner.Switches.{jumps_view}
use Rattle.c_types.proofs.SwitchRows.{Walked}
use Rattle.c_types.proofs.statements.+statements.Given as goal

-- ---- measures: the depth of the statements that are left, and then which function calls which

abbrev pub decreases-stmt : goal.decreases-stmt
decreases-stmt l = 5 * the_size l.s.now

abbrev pub decreases-one : goal.decreases-one
decreases-one l = 5 * the_size l.s.now + 1

abbrev pub decreases-if_then : goal.decreases-if_then
decreases-if_then l = 5 * the_size l.s.now + 2

abbrev pub decreases-if_else : goal.decreases-if_else
decreases-if_else l = 5 * max (the_size l.s.now) (the_size l.o.now) + 2

abbrev pub decreases-while_loop : goal.decreases-while_loop
decreases-while_loop l = 5 * the_size l.s.now + 2

abbrev pub decreases-for_inside : goal.decreases-for_inside
decreases-for_inside l = 5 * the_size l.s.now + 2

abbrev pub decreases-for_loop : goal.decreases-for_loop
decreases-for_loop l = 5 * the_size l.s.now + 3

abbrev pub decreases-stmts : goal.decreases-stmts
decreases-stmts l = 5 * most the_size l.items.now + 1

abbrev pub decreases-block : goal.decreases-block
decreases-block l = 5 * most the_size l.items.now + 2

abbrev pub decreases-do_loop : goal.decreases-do_loop
decreases-do_loop l = 5 * the_size l.s.now + 2

abbrev pub decreases-entry : goal.decreases-entry
decreases-entry l = 5 * the_size l.s.now + 2

abbrev pub decreases-entries : goal.decreases-entries
decreases-entries l = 5 * most the_size l.all.now + 3

abbrev pub decreases-switch : goal.decreases-switch
decreases-switch l = 5 * most the_size l.all.now + 4

-- ---- those before the index are told

abbrev pub invariant-stmts-items : goal.invariant-stmts-items
invariant-stmts-items l = Tells (each stmt_view) l.all l.context (judged_stmts (type_view l.t) (jumps_view l.jumps) (stmts_of (map source.stmt_view (take l.s-index l.items))) (context_view l.fn.context))

abbrev pub invariant-entries-entries : goal.invariant-entries-entries
invariant-entries-entries l = Walked (type_view l.t) (jumps_view l.jumps) l.of (map source.stmt_view (take l.s-index l.all)) (context_view l.fn.context) l.fine l.so_far l.context
