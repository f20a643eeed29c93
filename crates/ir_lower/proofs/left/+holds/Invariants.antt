use Rattle.std.proofs.Common.{◌≡◌, ◌+◌, ◌*◌, ◌++◌, drop, map}
use Rattle.std.specs.Prelude.{max}
use Rattle.c_tree.specs.TypedViews.{stmt_view}
use Rattle.c_tree.specs.Typed.{stmts_of}
use Rattle.c_tree.proofs.typed.Stmt.TheLaws.{the_size}
use Rattle.lower_forms.specs.Forms.{held_in}
use Rattle.lower_expressions.specs.FrameViews.{frame_view}
use Rattle.ir_lower.proofs.left.+holds.Given as goal

-- so far
abbrev pub invariant-held_in-loop-s : goal.invariant-held_in-loop-s
invariant-held_in-loop-s l =
    l.out.items ++ held_in (frame_view l.f) (stmts_of (map stmt_view (drop l.s-index l.all))) ≡ l.initial.out.items ++ held_in (frame_view l.f) (stmts_of (map stmt_view l.all))

-- ---- a statement and its parts

abbrev pub decreases-held : goal.decreases-held
decreases-held l = goal.size-held l * 4

abbrev pub decreases-held_by : goal.decreases-held_by
decreases-held_by l = goal.size-held_by l * 4

abbrev pub decreases-held_block : goal.decreases-held_block
decreases-held_block l = goal.size-held_block l * 4 + 2

abbrev pub decreases-held_both : goal.decreases-held_both
decreases-held_both l = max (the_size l.one.now) (the_size l.other.now) * 4 + 1

abbrev pub decreases-held_in : goal.decreases-held_in
decreases-held_in l = goal.size-held_in l * 4 + 1
