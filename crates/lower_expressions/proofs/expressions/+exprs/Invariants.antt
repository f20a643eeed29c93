use Rattle.std.proofs.Common.{◌≡◌, ◌+◌, ◌*◌, map, drop}
use Rattle.std.specs.Prelude.{max}
use Rattle.c_tree.specs.TypedViews.{expr_view}
use Rattle.c_tree.proofs.typed.Expr.TheLaws.{the_size}
use Rattle.struct_ir.specs.Nodes.{Nodes}
use Rattle.struct_ir.specs.Views.{followed}
use Rattle.lower_forms.specs.Forms.{args_nodes}
use Rattle.lower_expressions.specs.FrameViews.{frame_view}
use Rattle.lower_expressions.proofs.expressions.+exprs.Given as goal
use Rattle.c_tree.specs.Typed.{exprs_of}

-- so far
abbrev pub invariant-args-loop-e : goal.invariant-args-loop-e
invariant-args-loop-e l =
    (rest : Nodes) → followed l.out.items (args_nodes (frame_view l.f) (exprs_of (map expr_view (drop l.e-index l.all))) l.u rest)
    ≡ followed l.initial.out.items (args_nodes (frame_view l.f) (exprs_of (map expr_view l.all)) l.t rest)

-- ---- an expression and what reads it

abbrev pub decreases-place : goal.decreases-place
decreases-place l = goal.size-place l * 8

abbrev pub decreases-read : goal.decreases-read
decreases-read l = goal.size-read l * 8 + 1

abbrev pub decreases-address : goal.decreases-address
decreases-address l = goal.size-address l * 8 + 1

abbrev pub decreases-expr : goal.decreases-expr
decreases-expr l = goal.size-expr l * 8 + 2

abbrev pub decreases-row_of : goal.decreases-row_of
decreases-row_of l = goal.size-row_of l * 8 + 3

abbrev pub decreases-tested : goal.decreases-tested
decreases-tested l = goal.size-tested l * 8 + 3

-- ---- parts of an expression

abbrev pub decreases-args : goal.decreases-args
decreases-args l = goal.size-args l * 8 + 4

abbrev pub decreases-call : goal.decreases-call
decreases-call l = goal.size-call l * 8 + 5

abbrev pub decreases-lib_call : goal.decreases-lib_call
decreases-lib_call l = goal.size-lib_call l * 8 + 5

abbrev pub decreases-unary : goal.decreases-unary
decreases-unary l = the_size l.a.now * 8 + 4

abbrev pub decreases-binary : goal.decreases-binary
decreases-binary l = max (the_size l.a.now) (the_size l.b.now) * 8 + 4

abbrev pub decreases-and_also : goal.decreases-and_also
decreases-and_also l = max (the_size l.a.now) (the_size l.b.now) * 8 + 4

abbrev pub decreases-or_else : goal.decreases-or_else
decreases-or_else l = max (the_size l.a.now) (the_size l.b.now) * 8 + 4

abbrev pub decreases-choose : goal.decreases-choose
decreases-choose l = max (the_size l.c.now) (max (the_size l.a.now) (the_size l.b.now)) * 8 + 4
