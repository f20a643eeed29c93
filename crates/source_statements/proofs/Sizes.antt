-- How large statements are: the measures of what walks over them.
use Rattle.std.proofs.Common.{◌≡◌, ◌+◌, ◌<◌, ◌≤◌, ℕ, zero, suc, List, [], ◌∷◌, length, get_or, Option, Some, None, sym, subst, arith}
use Rattle.std.specs.Global.{Global}
use Rattle.std.specs.declared.rc.Rc.{Rc}
use Rattle.c_tree.specs.Typed as tree
use Rattle.source_tree.specs.declared.tree.SharedStmt.{SharedStmt}
use Rattle.source_tree.specs.declared.tree.SharedRow.{SharedRow}
use Rattle.source_tree.specs.SharedViews.{stmt_of, these, row_of}
use Rattle.source_state.specs.Views.{stmt_or_nothing}

abbrev mutual
  pub stmt_size : tree.Stmt → ℕ
  stmt_size (tree.at_stmt place node) = node_size node

  pub node_size : tree.StmtNode → ℕ
  node_size (tree.block body) = row_size body + 1
  node_size (tree.if_ e one) = stmt_size one + 1
  node_size (tree.if_else e one other) = stmt_size one + stmt_size other + 1
  node_size (tree.while_ e body) = stmt_size body + 1
  node_size (tree.for_ first e step body) = stmt_size first + stmt_size step + stmt_size body + 1
  node_size (tree.do_while body e) = stmt_size body + 2
  node_size (tree.switch e labels body) = row_size body + 1
  node_size node = 0

  pub row_size : tree.Stmts → ℕ
  row_size tree.no_stmts = 0
  row_size (tree.more_stmts s rest) = stmt_size s + row_size rest

-- that of a statement behind a pointer, and of one that may not be there
abbrev pub shared_size : Rc SharedStmt Global → ℕ
shared_size s = stmt_size (stmt_of s.value)

abbrev pub step_size : Option (Rc SharedStmt Global) → ℕ
step_size None = 0
step_size (Some s) = shared_size s

-- a step is no larger than the statement that it is
pub step_bound : (at : ℕ) (o : Option (Rc SharedStmt Global)) → step_size o ≤ stmt_size (stmt_or_nothing at o)
step_bound at None = omega arith
step_bound at (Some s) = omega arith

item_size : (xs : List (Rc SharedStmt Global)) (i : ℕ) (d : Rc SharedStmt Global) → i < length xs → shared_size (get_or xs i d) ≤ row_size (these xs)
item_size [] i d h = absurd (omega arith)
item_size (x ∷ xs) zero d h = omega arith
item_size (x ∷ xs) (suc i) d h = let q : shared_size (get_or xs i d) ≤ row_size (these xs) = item_size xs i d (omega arith) in omega arith

-- a statement of a row
pub in_row : (all : SharedRow) (i : ℕ) (s : Rc SharedStmt Global) → i < length all.stmts.items → s ≡ get_or all.stmts.items i s → shared_size s ≤ row_size (row_of all)
in_row all i s h is = subst (λ (t : Rc SharedStmt Global). shared_size t ≤ row_size (row_of all)) (sym is) (item_size all.stmts.items i s h)
