-- The header of a for.
use Rattle.std.proofs.Common.{◌≡◌, ℕ, ◌==◌, false, length, List, [], ◌∷◌, ◌++◌, map, refl, sym, ap, ◌∙◌}
use Rattle.std.proofs.lemmas.List.{map-append}
use Rattle.c_tree.specs.declared.typed.Stmt.{Stmt as CodeStmt}
use Rattle.c_tree.specs.Typed.{Stmt, at_stmt, block, stmts_of}
use Rattle.c_tree.specs.TypedViews.{stmt_view}
use Rattle.c_typing.specs.Statements.{header_row, headed}
use Rattle.type_locals.specs.inner.Blocks.{enclosed}

row_push : (y : Stmt) (xs : List Stmt) (x : Stmt) (loop : Stmt → Stmt) → header_row y (xs ++ x ∷ []) loop ≡ y ∷ xs ++ loop x ∷ []
row_push y [] x loop = refl
row_push y (z ∷ xs) x loop = ap (λ l. y ∷ l) (row_push z xs x loop)

headed_push : (place : ℕ) (xs : List Stmt) (x : Stmt) (loop : Stmt → Stmt) → headed place (xs ++ x ∷ []) loop ≡ enclosed place xs (loop x)
headed_push place [] x loop = refl
headed_push place (y ∷ []) x loop = refl
headed_push place (y ∷ z ∷ xs) x loop = ap (λ l. at_stmt place (block (stmts_of l))) (row_push y (z ∷ xs) x loop)

-- the last of these is taken
pub headed_pop : (place : ℕ) (all rest : List CodeStmt) (x : CodeStmt) (loop : Stmt → Stmt) → all ≡ rest ++ x ∷ []
    → enclosed place (map stmt_view rest) (loop (stmt_view x)) ≡ headed place (map stmt_view all) loop
headed_pop place all rest x loop is =
    sym (headed_push place (map stmt_view rest) (stmt_view x) loop)
    ∙ ap (λ l. headed place l loop) (sym (ap (map stmt_view) is ∙ map-append stmt_view rest (x ∷ [])))

-- a block of statements that are there
pub enclosed_is : (place : ℕ) (before : List CodeStmt) (last : CodeStmt) → (length before == 0) ≡ false
    → at_stmt place (block (stmts_of (map stmt_view (before ++ last ∷ [])))) ≡ enclosed place (map stmt_view before) (stmt_view last)
enclosed_is place [] last h = cc
enclosed_is place (x ∷ xs) last h =
    ap (λ l. at_stmt place (block (stmts_of l))) (map-append stmt_view (x ∷ xs) (last ∷ []))
