-- Arguments, fitted one after the other.
use Rattle.std.proofs.Common.{◌≡◌, ℕ, ◌+◌, ◌<◌, List, [], ◌∷◌, ◌++◌, length, map, drop, get_or, Option, Some, None, refl, ap, sym, ◌∙◌, append_assoc}
use Rattle.std.proofs.lemmas.List.{drop_more}
use Rattle.c_lex.specs.declared.refusal.CompileFault.{CompileFault}
use Rattle.c_lex.specs.declared.refusal.CompileFault.TheVariants.{Refused, NoMemory}
use Rattle.c_tree.specs.declared.typed.CType.{CType}
use Rattle.c_tree.specs.declared.typed.Expr.{Expr as CodeExpr}
use Rattle.c_tree.specs.Typed.{Ty, Expr}
use Rattle.c_tree.specs.TypedViews.{type_view, expr_view}
use Rattle.c_typing.specs.Faults.{typed, Fails}
use Rattle.c_typing.specs.Rules.{fitted, or_mismatch}
use Rattle.c_typing.specs.Judgement.{before_fitted, fitted_all}

-- those that were fitted already, and the rest
abbrev pub behind : List Expr → Option (List Expr) → Option (List Expr)
behind done None = None
behind done (Some es) = Some (done ++ es)

pub behind_more : (done : List Expr) (x : Expr) (o : Option (List Expr)) → behind done (before_fitted (Some x) o) ≡ behind (done ++ x ∷ []) o
behind_more done x None = refl
behind_more done x (Some es) = ap Some (sym (append_assoc done (x ∷ []) es))

pub is_fitted : (place : ℕ) (o : Option Expr) (x : Expr) → or_mismatch place o ≡ typed x → o ≡ Some x
is_fitted place None x h = cc
is_fitted place (Some y) x h = cc

pub fails_by : (place : ℕ) (o : Option Expr) (f : CompileFault) (all rest : Option (List Expr)) (done : List Expr)
    → all ≡ behind done (before_fitted o rest) → Fails f (or_mismatch place o) → Fails f (or_mismatch place all)
fails_by place o NoMemory all rest done q h = tt
fails_by place None (Refused r) all rest done q h = rw q h
fails_by place (Some y) (Refused r) all rest done q h = cc

-- the next parameter and the next argument
pub fitted_next : (all : Option (List Expr)) (done : List Expr) (params : List CType) (i : ℕ) (t : CType) (rest new : List CodeExpr) (e : CodeExpr)
    → all ≡ behind done (fitted_all (map type_view (drop i params)) (map expr_view rest)) → i < length params → t ≡ get_or params i t → rest ≡ e ∷ new
    → all ≡ behind done (fitted_all (type_view t ∷ map type_view (drop (i + 1) params)) (expr_view e ∷ map expr_view new))
fitted_next all done params i t rest new e h lt is next =
    h ∙ (ap (λ ts. behind done (fitted_all (map type_view ts) (map expr_view rest))) (drop_more params i t lt ∙ ap (λ x. x ∷ drop (i + 1) params) (sym is))
    ∙ ap (λ es. behind done (fitted_all (type_view t ∷ map type_view (drop (i + 1) params)) (map expr_view es))) next)

-- one more is fitted
pub fitted_more : (place : ℕ) (all : Option (List Expr)) (done : List Expr) (t : Ty) (ts : List Ty) (e x : Expr) (es : List Expr)
    → all ≡ behind done (fitted_all (t ∷ ts) (e ∷ es)) → or_mismatch place (fitted t e) ≡ typed x → all ≡ behind (done ++ x ∷ []) (fitted_all ts es)
fitted_more place all done t ts e x es h q =
    h ∙ (ap (λ o. behind done (before_fitted o (fitted_all ts es))) (is_fitted place (fitted t e) x q) ∙ behind_more done x (fitted_all ts es))

-- one that isn't makes all fail
pub fitted_fails : (place : ℕ) (all : Option (List Expr)) (done : List Expr) (t : Ty) (ts : List Ty) (e : Expr) (es : List Expr) (f : CompileFault)
    → all ≡ behind done (fitted_all (t ∷ ts) (e ∷ es)) → Fails f (or_mismatch place (fitted t e)) → Fails f (or_mismatch place all)
fitted_fails place all done t ts e es f q h = fails_by place (fitted t e) f all (fitted_all ts es) done q h

-- what was done, and one more
pub seen_more : (all : List CodeExpr) (new : List CodeExpr) (x : CodeExpr) → new ≡ all ++ x ∷ [] → map expr_view new ≡ map expr_view all ++ expr_view x ∷ []
seen_more all new x q = ap (map expr_view) q ∙ map_behind all x
  where
    map_behind : (all : List CodeExpr) (x : CodeExpr) → map expr_view (all ++ x ∷ []) ≡ map expr_view all ++ expr_view x ∷ []
    map_behind [] x = refl
    map_behind (y ∷ all) x = ap (λ es. expr_view y ∷ es) (map_behind all x)
