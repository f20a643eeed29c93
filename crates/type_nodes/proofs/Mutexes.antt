-- The two arguments of mtx_init.
use Rattle.std.proofs.Common.{◌≡◌, ℕ, List, [], ◌∷◌, ◌++◌, length, map, refl, ap, sym, subst, ◌∙◌, arith, length-append}
use Rattle.ak_words.specs.IntType.{int}
use Rattle.c_lex.specs.declared.refusal.CompileFault.{CompileFault}
use Rattle.c_lex.specs.declared.refusal.Kind.TheVariants.{TypeMismatch}
use Rattle.c_tree.specs.declared.typed.Expr.{Expr as CodeExpr}
use Rattle.c_tree.specs.Typed.{Expr, integer, mutex, pointer, mutex_init}
use Rattle.c_tree.specs.TypedViews.{expr_view}
use Rattle.c_typing.specs.Faults.{Judged, typed, refuse, both, Fails, ◌>>=◌}
use Rattle.c_typing.specs.Judgement.{called_lib, plain_kind, init_by}
use Rattle.type_context.proofs.Judging.{fails_part}

-- fewer or more are refused
pub init_refused : (place : ℕ) (args : List CodeExpr) → (length args ≡ 2 → ⊥) → init_by place (map expr_view args) ≡ refuse place TypeMismatch
init_refused place [] h = refl
init_refused place (m ∷ []) h = refl
init_refused place (m ∷ kind ∷ []) h = absurd (h refl)
init_refused place (m ∷ kind ∷ x ∷ rest) h = refl

-- two are the first and the last
two_popped : (all front : List CodeExpr) (kind : CodeExpr) → all ≡ front ++ kind ∷ [] → length all ≡ 2 → (m : CodeExpr) × (front ≡ m ∷ [])
two_popped all [] kind p q = absurd (let e = ap length p in omega (arith, length-append [] (kind ∷ [])))
two_popped all (m ∷ []) kind p q = (m, refl)
two_popped all (m ∷ n ∷ front) kind p q = absurd (let e = ap length p in omega (arith, length-append (m ∷ n ∷ front) (kind ∷ [])))

-- what is judged of the mutex and of its kind
abbrev pub of_both : (place : ℕ) (front : List CodeExpr) (kind : CodeExpr) → Judged (Expr × Unit {0})
of_both place front kind = both (called_lib place mutex_init (pointer mutex ∷ []) (integer int) (map expr_view front)) (plain_kind (expr_view kind))

abbrev the_call : Expr × Unit {0} → Judged Expr
the_call p = typed p.0

-- they are the mutex and its kind
init_two : (place : ℕ) (args front : List CodeExpr) (kind : CodeExpr) → args ≡ front ++ kind ∷ [] → length args ≡ 2
    → init_by place (map expr_view args) ≡ of_both place front kind >>= the_call
init_two place args front kind p q =
    let two = two_popped args front kind p q in
    ap (λ (all : List CodeExpr). init_by place (map expr_view all)) (p ∙ ap (λ (f : List CodeExpr). f ++ kind ∷ []) two.1)
    ∙ ap (λ (f : List CodeExpr). of_both place f kind >>= the_call) (sym two.1)

-- one of them fails
pub init_fails : (place : ℕ) (args front : List CodeExpr) (kind : CodeExpr) (e : CompileFault) → args ≡ front ++ kind ∷ [] → length args ≡ 2
    → Fails e (of_both place front kind) → Fails e (init_by place (map expr_view args))
init_fails place args front kind e p q h =
    subst (λ (j : Judged Expr). Fails e j) (sym (init_two place args front kind p q)) (fails_part (of_both place front kind) the_call e h)

-- both are fine
pub init_called : (place : ℕ) (args front : List CodeExpr) (kind : CodeExpr) (x : Expr) → args ≡ front ++ kind ∷ [] → length args ≡ 2
    → of_both place front kind ≡ typed (x, tt) → init_by place (map expr_view args) ≡ typed x
init_called place args front kind x p q h =
    init_two place args front kind p q ∙ ap (λ (j : Judged (Expr × Unit {0})). j >>= the_call) h
