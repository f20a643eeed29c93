-- Arguments of a format, one behind the other.
use Rattle.std.proofs.Common.{◌≡◌, ℕ, ◌+◌, ◌<◌, true, false, List, [], ◌∷◌, ◌++◌, length, map, drop, get_or, Option, Some, None, refl, ap, sym, ◌∙◌, append_assoc}
use Rattle.std.proofs.lemmas.List.{drop_more}
use Rattle.c_lex.specs.declared.refusal.CompileFault.{CompileFault}
use Rattle.c_lex.specs.declared.refusal.CompileFault.TheVariants.{Refused, NoMemory}
use Rattle.c_tree.specs.declared.typed.Piece.{Piece as CodePiece}
use Rattle.c_tree.specs.declared.typed.Expr.{Expr as CodeExpr}
use Rattle.c_tree.specs.Typed.{Piece, bytes, signed, unsigned, hexadecimal, character, text, Expr}
use Rattle.c_tree.specs.TypedViews.{piece_view, expr_view}
use Rattle.c_typing.specs.Faults.{typed, Fails}
use Rattle.c_typing.specs.Rules.{or_mismatch}
use Rattle.c_typing.specs.Formats.{argument_for, before_argument, arguments_for}
use Rattle.type_rules.proofs.Fitting.{behind, is_fitted}
use Rattle.type_nodes.specs.inner.Formatting.{is_bytes}

-- the next piece
pub next_piece : (all : Option (List Expr)) (done : List Expr) (pieces : List CodePiece) (i : ℕ) (p : CodePiece) (es : List Expr)
    → all ≡ behind done (arguments_for (map piece_view (drop i pieces)) es) → i < length pieces → p ≡ get_or pieces i p
    → all ≡ behind done (arguments_for (piece_view p ∷ map piece_view (drop (i + 1) pieces)) es)
next_piece all done pieces i p es h lt is =
    h ∙ ap (λ ps. behind done (arguments_for (map piece_view ps) es)) (drop_more pieces i p lt ∙ ap (λ x. x ∷ drop (i + 1) pieces) (sym is))

-- bytes take no argument
pub bytes_passed : (piece : Piece) (rest : List Piece) (es : List Expr) → is_bytes piece ≡ true → arguments_for (piece ∷ rest) es ≡ arguments_for rest es
bytes_passed (bytes all) rest es h = refl
bytes_passed (signed bits) rest es h = cc
bytes_passed (unsigned bits) rest es h = cc
bytes_passed (hexadecimal bits) rest es h = cc
bytes_passed character rest es h = cc
bytes_passed text rest es h = cc

-- any other piece takes the next
pub argument_taken : (piece : Piece) (rest : List Piece) (e : Expr) (es : List Expr) → is_bytes piece ≡ false
    → arguments_for (piece ∷ rest) (e ∷ es) ≡ before_argument (argument_for piece e) (arguments_for rest es)
argument_taken (bytes all) rest e es h = cc
argument_taken (signed bits) rest e es h = refl
argument_taken (unsigned bits) rest e es h = refl
argument_taken (hexadecimal bits) rest e es h = refl
argument_taken character rest e es h = refl
argument_taken text rest e es h = refl

-- and fails where there is none
pub argument_lacks : (piece : Piece) (rest : List Piece) → is_bytes piece ≡ false → arguments_for (piece ∷ rest) [] ≡ None
argument_lacks (bytes all) rest h = cc
argument_lacks (signed bits) rest h = refl
argument_lacks (unsigned bits) rest h = refl
argument_lacks (hexadecimal bits) rest h = refl
argument_lacks character rest h = refl
argument_lacks text rest h = refl

behind_argument : (done : List Expr) (x : Expr) (o : Option (List Expr)) → behind done (before_argument (Some x) o) ≡ behind (done ++ x ∷ []) o
behind_argument done x None = refl
behind_argument done x (Some es) = ap Some (sym (append_assoc done (x ∷ []) es))

-- the next piece takes the next argument
pub argument_next : (all : Option (List Expr)) (done : List Expr) (piece : Piece) (rest : List Piece) (es : List CodeExpr) (e : CodeExpr) (new : List CodeExpr)
    → all ≡ behind done (arguments_for (piece ∷ rest) (map expr_view es)) → is_bytes piece ≡ false → es ≡ e ∷ new
    → all ≡ behind done (before_argument (argument_for piece (expr_view e)) (arguments_for rest (map expr_view new)))
argument_next all done piece rest es e new h takes next =
    h ∙ (ap (λ (xs : List CodeExpr). behind done (arguments_for (piece ∷ rest) (map expr_view xs))) next
    ∙ ap (behind done) (argument_taken piece rest (expr_view e) (map expr_view new) takes))

-- one more is taken
pub argument_more : (place : ℕ) (all : Option (List Expr)) (done : List Expr) (o : Option Expr) (x : Expr) (rest : Option (List Expr))
    → all ≡ behind done (before_argument o rest) → or_mismatch place o ≡ typed x → all ≡ behind (done ++ x ∷ []) rest
argument_more place all done o x rest h q =
    h ∙ (ap (λ p. behind done (before_argument p rest)) (is_fitted place o x q) ∙ behind_argument done x rest)

-- one that doesn't fit its piece makes all fail
pub argument_fails : (place : ℕ) (o : Option Expr) (f : CompileFault) (all rest : Option (List Expr)) (done : List Expr)
    → all ≡ behind done (before_argument o rest) → Fails f (or_mismatch place o) → Fails f (or_mismatch place all)
argument_fails place o NoMemory all rest done q h = tt
argument_fails place None (Refused r) all rest done q h = rw q h
argument_fails place (Some y) (Refused r) all rest done q h = cc
