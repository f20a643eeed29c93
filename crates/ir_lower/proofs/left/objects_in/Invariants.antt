use Rattle.std.proofs.Common.{◌≡◌, ◌++◌, map, drop}
use Rattle.c_tree.specs.TypedViews.{stmt_view}
use Rattle.lower_forms.specs.Forms.{objects_in}
use Rattle.lower_expressions.specs.FrameViews.{frame_view}
use Rattle.ir_lower.proofs.left.objects_in.Given as goal
use Rattle.c_tree.specs.Typed.{stmts_of}

-- so far
abbrev pub invariant-loop-s : goal.invariant-loop-s
invariant-loop-s l = l.objects.items ++ objects_in (frame_view l.f) (stmts_of (map stmt_view (drop l.s-index l.all))) ≡ objects_in (frame_view l.f) (stmts_of (map stmt_view l.all))
