-- What single nodes tell: scopes that are entered, lists of statements, and locals.
use Rattle.std.proofs.Common.{◌≡◌, ℕ, false, List, [], length, Option, Result, Ok, Err, Box, Global, ap, sym, subst, ◌∙◌}
use Rattle.std.specs.Borrow.{Bor}
use Rattle.std.specs.Option.{option_map}
use Rattle.c_lex.specs.declared.refusal.CompileFault.{CompileFault}
use Rattle.c_lex.specs.declared.refusal.CompileFault.TheVariants.{Refused, NoMemory}
use Rattle.c_tree.specs.Syntax as source
use Rattle.c_tree.specs.declared.syntax.Name.{Name}
use Rattle.c_tree.specs.declared.syntax.Declarator.{Declarator as CodeDeclarator}
use Rattle.c_tree.specs.declared.syntax.Expr.TheFolds.{fold_out-Declarator}
use Rattle.c_tree.specs.SyntaxViews.{declarator_view, expr_layer, spec_layer, declarator_layer, enumerator_layer, member_layer, type_name_layer}
use Rattle.c_tree.specs.Typed.{Ty, at_stmt, declare}
use Rattle.c_tree.specs.TypedForm.{Jumps}
use Rattle.c_tree.specs.TypedViews.{type_view, boxed_expr_view, stmt_view, boxed_stmt_view}
use Rattle.c_tree.specs.declared.typed.CType.{CType}
use Rattle.c_tree.specs.declared.typed.Expr.{Expr as CodeExpr}
use Rattle.c_tree.specs.declared.typed.Stmt.{Stmt as CodeStmt}
use Rattle.c_typing.specs.Faults.{Judged, typed, Gives}
use Rattle.c_typing.specs.Scope.{Context, inside}
use Rattle.c_typing.specs.Statements.{or_int, object_of, name_of, local_fine, with_local, judged_init, judged_local, one_of, judged_stmt}
use Rattle.type_context.specs.declared.context.Context.{Context as CodeContext}
use Rattle.type_context.specs.declared.names.Binding.{Binding as CodeMeaning}
use Rattle.type_context.specs.ContextViews.{context_view, frame_view}
use Rattle.type_context.specs.inner.Outcomes.{joined}
use Rattle.type_context.specs.Telling.{Leaves, Tells, lacks_memory}
use Rattle.std.specs.Result.{IsErrAnd}
use Rattle.type_context.proofs.Walks.{joined_keeps, ok_finishes}
use Rattle.c_types.proofs.Steps.{declared_parts, object_parts, err_finish}

-- into an empty scope
pub entered : (m : CodeContext) (c : Context) (es : List (Bor (List ℕ) × CodeMeaning)) → context_view m ≡ record (inside c) { inner = frame_view es } → es ≡ [] → context_view m ≡ inside c
entered m c es h none = h ∙ ap (λ fs. record (inside c) { inner = frame_view fs }) none

-- the statement under a loop
pub looped : (t : Ty) (k l : Jumps) (s : source.Stmt) (d : Context) (n : CodeContext) (r : Result (Box CodeStmt Global) CompileFault)
    → k ≡ l → Tells boxed_stmt_view r n (one_of (judged_stmt t k s) d) → Tells boxed_stmt_view r n (one_of (judged_stmt t l s) d)
looped t k l s d n r is = subst (λ (j : Jumps). Tells boxed_stmt_view r n (one_of (judged_stmt t j s) d)) is

-- the name that a declarator of the code declares
pub declared_name : (d : CodeDeclarator) → name_of (declarator_view d) ≡ d.name
declared_name d = ap name_of (fold_out-Declarator source.Expr source.Spec source.Declarator source.Enumerator source.Member source.TypeName expr_layer spec_layer declarator_layer enumerator_layer member_layer type_name_layer d)

-- what doesn't lack memory leaves its context
pub left_known : {A : Type 0} (r : Result A CompileFault) (n : CodeContext) (d : Context) → Leaves r n d → lacks_memory r ≡ false → context_view n ≡ d
left_known (Ok x) n d h k = h
left_known (Err (Refused r)) n d h k = h
left_known (Err NoMemory) n d h k = cc

local_known : (J : Judged Ty) (x : source.InitDeclarator) (c : Context) (m n o : CodeContext)
    (t : Result CType CompileFault) (f : Result (Unit {0} × Unit {0}) CompileFault) (s : CType) (i : Result (Option (Box CodeExpr Global)) CompileFault)
    (q : Result (((Unit {0} × Unit {0}) × CType) × Option (Box CodeExpr Global)) CompileFault) (p : ((Unit {0} × Unit {0}) × CType) × Option (Box CodeExpr Global)) (r : Result CodeStmt CompileFault)
    → Tells type_view t m (object_of J x.declarator c)
    → Gives (λ x. x) f (local_fine (context_view m) (name_of x.declarator))
    → ((j : Judged Ty) → Gives type_view t j → type_view s ≡ or_int j)
    → context_view n ≡ with_local (context_view m) (name_of x.declarator) (type_view s)
    → ((j : Judged Ty) → Gives type_view t j → Tells (option_map boxed_expr_view) i o (judged_init (name_of x.declarator).from j x.value (context_view n)))
    → q ≡ joined (joined f t) i → q ≡ Ok p
    → Gives stmt_view r (typed (at_stmt (name_of x.declarator).from (declare (length (context_view m).locals) (option_map boxed_expr_view p.1))))
    → Tells stmt_view r o (judged_local J x c)
local_known J x c m n o t f s i q p r h g w l k is ok made =
    let name = name_of x.declarator in
    let O = object_of J x.declarator in
    let parts = object_parts (λ x. x) (option_map boxed_expr_view) O (λ d j. local_fine d name) (λ d t. with_local d name t) (λ j. judged_init name.from j x.value) c m n o t f s i h (λ j y. g) w l k in
    let all_fine : lacks_memory (joined (joined f t) i) ≡ false = ap lacks_memory (sym is ∙ ok) in
    let there : context_view m ≡ (O c).1 = left_known t m (O c).1 h.leaves (joined_keeps f t (joined_keeps (joined f t) i all_fine).0).1 in
    ok_finishes (λ (p : ((Unit {0} × Unit {0}) × CType) × Option (Box CodeExpr Global)). ((p.0.0, type_view p.0.1), option_map boxed_expr_view p.1)) stmt_view
    (λ y. typed (at_stmt name.from (declare (length (O c).1.locals) y.1)))
    (declared_parts O (λ d j. local_fine d name) (λ d t. with_local d name t) (λ j. judged_init name.from j x.value) c) o (joined (joined f t) i) p r
    parts (sym is ∙ ok) (subst (λ (d : Context). Gives stmt_view r (typed (at_stmt name.from (declare (length d.locals) (option_map boxed_expr_view p.1))))) there made)

local_unknown : (J : Judged Ty) (x : source.InitDeclarator) (c : Context) (m n o : CodeContext)
    (t : Result CType CompileFault) (f : Result (Unit {0} × Unit {0}) CompileFault) (s : CType) (i : Result (Option (Box CodeExpr Global)) CompileFault)
    (q : Result (((Unit {0} × Unit {0}) × CType) × Option (Box CodeExpr Global)) CompileFault) (e : CompileFault) (r : Result CodeStmt CompileFault)
    → Tells type_view t m (object_of J x.declarator c)
    → Gives (λ x. x) f (local_fine (context_view m) (name_of x.declarator))
    → ((j : Judged Ty) → Gives type_view t j → type_view s ≡ or_int j)
    → context_view n ≡ with_local (context_view m) (name_of x.declarator) (type_view s)
    → ((j : Judged Ty) → Gives type_view t j → Tells (option_map boxed_expr_view) i o (judged_init (name_of x.declarator).from j x.value (context_view n)))
    → q ≡ joined (joined f t) i → q ≡ Err e → IsErrAnd r (λ d. d ≡ e)
    → Tells stmt_view r o (judged_local J x c)
local_unknown J x c m n o t f s i q e r h g w l k is err p =
    let name = name_of x.declarator in
    let O = object_of J x.declarator in
    let parts = object_parts (λ x. x) (option_map boxed_expr_view) O (λ d j. local_fine d name) (λ d t. with_local d name t) (λ j. judged_init name.from j x.value) c m n o t f s i h (λ j y. g) w l k in
    err_finish (λ (p : ((Unit {0} × Unit {0}) × CType) × Option (Box CodeExpr Global)). ((p.0.0, type_view p.0.1), option_map boxed_expr_view p.1)) stmt_view
    (λ y. typed (at_stmt name.from (declare (length (O c).1.locals) y.1)))
    (declared_parts O (λ d j. local_fine d name) (λ d t. with_local d name t) (λ j. judged_init name.from j x.value) c) o (joined (joined f t) i) q e r
    parts is err p

-- a local that is declared, whose parts are typed
pub local_ok : (J : Judged Ty) (x : source.InitDeclarator) (name : Name) (c : Context) (m n o : CodeContext)
    (t : Result CType CompileFault) (f : Result (Unit {0} × Unit {0}) CompileFault) (s : CType) (i : Result (Option (Box CodeExpr Global)) CompileFault)
    (q : Result (((Unit {0} × Unit {0}) × CType) × Option (Box CodeExpr Global)) CompileFault) (p : ((Unit {0} × Unit {0}) × CType) × Option (Box CodeExpr Global)) (r : Result CodeStmt CompileFault)
    → name_of x.declarator ≡ name
    → Tells type_view t m (object_of J x.declarator c)
    → Gives (λ x. x) f (local_fine (context_view m) name)
    → ((j : Judged Ty) → Gives type_view t j → type_view s ≡ or_int j)
    → context_view n ≡ with_local (context_view m) name (type_view s)
    → ((j : Judged Ty) → Gives type_view t j → Tells (option_map boxed_expr_view) i o (judged_init name.from j x.value (context_view n)))
    → q ≡ joined (joined f t) i → q ≡ Ok p
    → Gives stmt_view r (typed (at_stmt name.from (declare (length (context_view m).locals) (option_map boxed_expr_view p.1))))
    → Tells stmt_view r o (judged_local J x c)
local_ok J x name c m n o t f s i q p r named h g w l k is ok made =
    let back = sym named in
    local_known J x c m n o t f s i q p r h
    (subst (λ (y : Name). Gives (λ x. x) f (local_fine (context_view m) y)) back g) w
    (subst (λ (y : Name). context_view n ≡ with_local (context_view m) y (type_view s)) back l)
    (subst (λ (y : Name). (j : Judged Ty) → Gives type_view t j → Tells (option_map boxed_expr_view) i o (judged_init y.from j x.value (context_view n))) back k) is ok
    (subst (λ (y : Name). Gives stmt_view r (typed (at_stmt y.from (declare (length (context_view m).locals) (option_map boxed_expr_view p.1))))) back made)

-- one whose parts are not
pub local_err : (J : Judged Ty) (x : source.InitDeclarator) (name : Name) (c : Context) (m n o : CodeContext)
    (t : Result CType CompileFault) (f : Result (Unit {0} × Unit {0}) CompileFault) (s : CType) (i : Result (Option (Box CodeExpr Global)) CompileFault)
    (q : Result (((Unit {0} × Unit {0}) × CType) × Option (Box CodeExpr Global)) CompileFault) (e : CompileFault) (r : Result CodeStmt CompileFault)
    → name_of x.declarator ≡ name
    → Tells type_view t m (object_of J x.declarator c)
    → Gives (λ x. x) f (local_fine (context_view m) name)
    → ((j : Judged Ty) → Gives type_view t j → type_view s ≡ or_int j)
    → context_view n ≡ with_local (context_view m) name (type_view s)
    → ((j : Judged Ty) → Gives type_view t j → Tells (option_map boxed_expr_view) i o (judged_init name.from j x.value (context_view n)))
    → q ≡ joined (joined f t) i → q ≡ Err e → IsErrAnd r (λ d. d ≡ e)
    → Tells stmt_view r o (judged_local J x c)
local_err J x name c m n o t f s i q e r named h g w l k is err p =
    let back = sym named in
    local_unknown J x c m n o t f s i q e r h
    (subst (λ (y : Name). Gives (λ x. x) f (local_fine (context_view m) y)) back g) w
    (subst (λ (y : Name). context_view n ≡ with_local (context_view m) y (type_view s)) back l)
    (subst (λ (y : Name). (j : Judged Ty) → Gives type_view t j → Tells (option_map boxed_expr_view) i o (judged_init y.from j x.value (context_view n))) back k) is err p
