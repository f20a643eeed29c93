use Rattle.std.proofs.Common.{◌≡◌, ℕ, ◌≤◌, map, take, length, get_or}
use Rattle.c_tree.specs.declared.typed.Expr.{Expr}
use Rattle.c_tree.specs.TypedViews.{expr_view}
use Rattle.c_typing.specs.Numbering.{renumbered}
use Rattle.type_locals.specs.inner.Numbers.{new_number}
use Rattle.type_locals.proofs.numbering.Numbers.+renumbering.Given as goal

-- those before the index have their numbers, and the others are as they were
abbrev pub invariant-row-loop-i : goal.invariant-row-loop-i
invariant-row-loop-i l =
    ((length l.all ≡ length l.fn.all) × ((k : ℕ) (d : Expr) → l.i ≤ k → get_or l.all k d ≡ get_or l.fn.all k d))
    × (map expr_view (take l.i l.all) ≡ map (λ e. renumbered (new_number l.self) (expr_view e)) (take l.i l.fn.all))
