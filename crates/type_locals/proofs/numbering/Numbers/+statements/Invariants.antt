use Rattle.std.proofs.Common.{◌≡◌, ℕ, ◌≤◌, map, take, length, get_or}
use Rattle.c_tree.specs.declared.typed.Stmt.{Stmt}
use Rattle.c_tree.specs.TypedViews.{stmt_view}
use Rattle.c_typing.specs.Numbering.{renumbered_stmt}
use Rattle.type_locals.specs.inner.Numbers.{new_number}
use Rattle.type_locals.proofs.numbering.Numbers.+statements.Given as goal

-- those before the index have their numbers, and the others are as they were
abbrev pub invariant-statements-loop-i : goal.invariant-statements-loop-i
invariant-statements-loop-i l =
    ((length l.all ≡ length l.fn.all) × ((k : ℕ) (d : Stmt) → l.i ≤ k → get_or l.all k d ≡ get_or l.fn.all k d))
    × (map stmt_view (take l.i l.all) ≡ map (λ s. renumbered_stmt (new_number l.self) (stmt_view s)) (take l.i l.fn.all))
