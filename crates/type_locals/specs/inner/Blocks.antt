-- Statements in blocks.
use Rattle.std.specs.Prelude.{ℕ, List, [], ◌∷◌, ◌++◌}
use Rattle.c_tree.specs.Typed.{Stmt, at_stmt, block, stmts_of}

-- statements and one behind them in a block, or that one alone
abbrev pub enclosed : (place : ℕ) → List Stmt → Stmt → Stmt
enclosed place [] s = s
enclosed place (x ∷ xs) s = at_stmt place (block (stmts_of ((x ∷ xs) ++ s ∷ [])))
