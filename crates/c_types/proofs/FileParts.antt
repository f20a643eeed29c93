-- Parameters: sizes in a row, types that are void, and a list of one parameter.
use Rattle.std.proofs.Common.{◌≡◌, ◌≢◌, ℕ, ◌+◌, ◌<◌, Bool, true, false, List, [], ◌∷◌, ◌++◌, Option, map, take, length, get_or, arith, Result, Ok, Err, refl, ap, sym, subst, ◌∙◌}
use Rattle.std.proofs.lemmas.List.{map_more, map-id}
use Rattle.std.specs.Prelude.{Vec}
use Rattle.std.specs.declared.alloc.Global.{Global}
use Rattle.c_lex.specs.declared.refusal.CompileFault.{CompileFault}
use Rattle.c_tree.specs.declared.syntax.ParamDim.{ParamDim as CodeParamDim}
use Rattle.c_tree.specs.declared.syntax.Param.{Param as CodeSource}
use Rattle.c_tree.specs.declared.typed.CType.{CType}
use Rattle.c_tree.specs.Syntax as source
use Rattle.c_tree.specs.SyntaxViews.{param_dim_view, param_view as seen_param}
use Rattle.c_tree.specs.Typed.{Ty, void}
use Rattle.c_tree.specs.TypedViews.{type_view}
use Rattle.c_typing.specs.Faults.{Judged, typed, faulty, Gives, both, ◌>>=◌}
use Rattle.c_typing.specs.Scope.{Context}
use Rattle.c_typing.specs.Judgement.{in_turn, judged_specs}
use Rattle.c_typing.specs.Numbering.{Param}
use Rattle.c_typing.specs.Programs.{param_place, with_param, judged_size, judged_sizes, judged_param, judged_params, param_object, param_fine, param_behind, is_none, none_if, judged_param_list}
use Rattle.type_context.specs.declared.context.Context.{Context as CodeContext}
use Rattle.type_context.specs.ContextViews.{context_view}
use Rattle.type_context.specs.inner.Outcomes.{joined}
use Rattle.type_context.specs.Telling.{Tells}
use Rattle.type_context.specs.Rows.{IsPushed}
use Rattle.type_context.proofs.Walks.{both_tell, ok_finishes}
use Rattle.type_context.proofs.Rows.{pushed_tells}
use Rattle.std.specs.Result.{IsErrAnd}
use Rattle.c_typing.specs.Statements.{or_int}
use Rattle.type_locals.specs.declared.locals.Param.{Param as CodeParam}
use Rattle.type_locals.specs.LocalViews.{param_view}
use Rattle.type_declared.specs.Gathering.{each}
use Rattle.c_types.proofs.Steps.{object_fine, err_finish}
use Rattle.c_types.specs.inner.Gathering.{IsOutcome}
use Rattle.c_types.proofs.FileRows.{is_outermost, sizes_row, outermost_behind}
use Rattle.c_types.proofs.Known.{known_left, known_gives}

-- ---- sizes

-- the elements of a list of numbers are themselves
pub items_told : {A : Type 0} (r : Result (Vec A Global) CompileFault) (n : CodeContext) (p : Judged (List A) × Context) → Tells (each (λ (x : A). x)) r n p → Tells (λ (v : Vec A Global). v.items) r n p
items_told (Ok v) n p h = record { gives = h.gives ∙ ap typed (map-id v.items); leaves = h.leaves }
items_told (Err e) n p h = record { gives = h.gives; leaves = h.leaves }

taken_more : (ys : List CodeParamDim) (i : ℕ) (y : CodeParamDim) → i < length ys → y ≡ get_or ys i y → map param_dim_view (take (i + 1) ys) ≡ map param_dim_view (take i ys) ++ param_dim_view y ∷ []
taken_more ys i y h is = map_more param_dim_view ys i y h ∙ ap (λ x. map param_dim_view (take i ys) ++ param_dim_view x ∷ []) (sym is)

-- one size more
pub sizes_more : (ys : List CodeParamDim) (i : ℕ) (y : CodeParamDim) (b : Bool) (c : Context) (n m : CodeContext) (all : Result (Vec (Option ℕ) Global) CompileFault) (next : Result (Option ℕ) CompileFault) (r : Result (Vec (Option ℕ) Global) CompileFault)
    → i < length ys → y ≡ get_or ys i y → b ≡ is_outermost (map param_dim_view (take i ys))
    → Tells (each (λ (x : Option ℕ). x)) all n (judged_sizes true (map param_dim_view (take i ys)) c) → Tells (λ (x : Option ℕ). x) next m (judged_size b (param_dim_view y) (param_dim_view y).size (context_view n)) → IsPushed (joined all next) r
    → Tells (each (λ (x : Option ℕ). x)) r m (judged_sizes true (map param_dim_view (take (i + 1) ys)) c)
sizes_more ys i y b c n m all next r h is outer before here push =
    let ds = map param_dim_view (take i ys) in
    let d = param_dim_view y in
    let here_too : Tells (λ (x : Option ℕ). x) next m (judged_size (is_outermost ds) d d.size (context_view n)) = subst (λ o. Tells (λ (x : Option ℕ). x) next m (judged_size o d d.size (context_view n))) outer here in
    subst (λ xs. Tells (each (λ (x : Option ℕ). x)) r m (judged_sizes true xs c)) (sym (taken_more ys i y h is))
    (subst (Tells (each (λ (x : Option ℕ). x)) r m) (sym (sizes_row ds d c))
    (pushed_tells (λ (x : Option ℕ). x) (joined all next) r (in_turn (judged_sizes true ds) (judged_size (is_outermost ds) d d.size)) c m
    (both_tell (each (λ (x : Option ℕ). x)) (λ (x : Option ℕ). x) (judged_sizes true ds) (judged_size (is_outermost ds) d d.size) c n m all next before here_too) push))

pub not_outermost : (ys : List CodeParamDim) (i : ℕ) (y : CodeParamDim) → i < length ys → y ≡ get_or ys i y → false ≡ is_outermost (map param_dim_view (take (i + 1) ys))
not_outermost ys i y h is = sym (ap is_outermost (taken_more ys i y h is) ∙ outermost_behind (map param_dim_view (take i ys)) (param_dim_view y))

-- ---- void

-- ---- a list of one parameter

one_alone : {A : Type 0} (j : Judged A) → (both j (typed []) >>= λ (x : A × List A). typed (x.0 ∷ x.1)) ≡ (j >>= λ x. typed (x ∷ []))
one_alone (typed x) = refl
one_alone (faulty r rs) = refl

-- a list of one parameter that is one
pub only_is : (p : source.Param) (c : Context)
    → is_none (judged_specs (source.specs_of p.specs) c).0 p ≡ false
    → judged_param_list (p ∷ []) c ≡ ((judged_param p c).0 >>= λ x. typed (x ∷ []), (judged_param p c).1)
only_is p c h =
    ap (λ b. none_if c p b (judged_params (p ∷ [])) c) h
    ∙ ap (λ j. (j, (judged_param p c).1)) (one_alone (judged_param p c).0)

-- a list of one that is none
pub none_is : (p : source.Param) (c : Context)
    → is_none (judged_specs (source.specs_of p.specs) c).0 p ≡ true
    → judged_param_list (p ∷ []) c ≡ (typed [], (judged_specs (source.specs_of p.specs) c).1)
none_is p c h = ap (λ b. none_if c p b (judged_params (p ∷ [])) c) h

-- a parameter, behind its specifiers
pub param_told : {A : Type 0} (view : A → Param) (p : source.Param) (c : Context) (n m : CodeContext) (s t : Result CType CompileFault) (r : Result A CompileFault)
    → Tells type_view s n (judged_specs (source.specs_of p.specs) c) → IsOutcome s (Ok t)
    → ((j : Judged Ty) → Gives type_view t j → Tells view r m (param_behind j p (context_view n)))
    → Tells view r m (judged_param p c)
param_told view p c n m s t r h is behind =
    let base = (judged_specs (source.specs_of p.specs) c).0 in
    subst (λ d. Tells view r m (param_behind base p d)) (known_left s t n (judged_specs (source.specs_of p.specs) c).1 is h.leaves) (behind base (known_gives type_view s t base is h.gives))

-- a parameter behind its specifiers, whose parts are typed
pub param_ok : (p : source.Param) (J : Judged Ty) (c : Context) (m n : CodeContext) (t : Result CType CompileFault) (f : Result (Unit {0} × (Unit {0} × Unit {0})) CompileFault) (s : CType)
    (q : Result ((Unit {0} × (Unit {0} × Unit {0})) × CType) CompileFault) (x : (Unit {0} × (Unit {0} × Unit {0})) × CType) (r : Result CodeParam CompileFault)
    → Tells type_view t m (param_object J p c)
    → Gives (λ x. x) f (param_fine (context_view m) (param_place p) p.name)
    → ((j : Judged Ty) → Gives type_view t j → type_view s ≡ or_int j)
    → context_view n ≡ with_param (context_view m) p.name (type_view s)
    → q ≡ joined f t → q ≡ Ok x
    → Gives param_view r (typed (record { place = param_place p; ty = type_view x.1 }))
    → Tells param_view r n (param_behind J p c)
param_ok p J c m n t f s q x r h g w l is ok made =
    let O = param_object J p in
    ok_finishes (λ (z : (Unit {0} × (Unit {0} × Unit {0})) × CType). (z.0, type_view z.1)) param_view (λ z. typed (record { place = param_place p; ty = z.1 }))
    (both (param_fine (O c).1 (param_place p) p.name) (O c).0, with_param (O c).1 p.name (or_int (O c).0)) n (joined f t) x r
    (object_fine (λ x. x) O (λ d j. param_fine d (param_place p) p.name) (λ d t. with_param d p.name t) c m n t f s h (λ j y. g) w l) (sym is ∙ ok) made

-- a parameter of a place and a type
abbrev pub param_at : ℕ → Ty → Judged Param
param_at place t = typed (record { place = place; ty = t })

-- one whose parts are not
pub param_err : (p : source.Param) (J : Judged Ty) (c : Context) (m n : CodeContext) (t : Result CType CompileFault) (f : Result (Unit {0} × (Unit {0} × Unit {0})) CompileFault) (s : CType)
    (q : Result ((Unit {0} × (Unit {0} × Unit {0})) × CType) CompileFault) (e : CompileFault) (r : Result CodeParam CompileFault)
    → Tells type_view t m (param_object J p c)
    → Gives (λ x. x) f (param_fine (context_view m) (param_place p) p.name)
    → ((j : Judged Ty) → Gives type_view t j → type_view s ≡ or_int j)
    → context_view n ≡ with_param (context_view m) p.name (type_view s)
    → q ≡ joined f t → q ≡ Err e → IsErrAnd r (λ d. d ≡ e)
    → Tells param_view r n (param_behind J p c)
param_err p J c m n t f s q e r h g w l is err back =
    let O = param_object J p in
    err_finish (λ (z : (Unit {0} × (Unit {0} × Unit {0})) × CType). (z.0, type_view z.1)) param_view (λ z. typed (record { place = param_place p; ty = z.1 }))
    (both (param_fine (O c).1 (param_place p) p.name) (O c).0, with_param (O c).1 p.name (or_int (O c).0)) n (joined f t) q e r
    (object_fine (λ x. x) O (λ d j. param_fine d (param_place p) p.name) (λ d t. with_param d p.name t) c m n t f s h (λ j y. g) w l) is err back

-- ---- lists of parameters, brackets and pointers

-- a list of one item
pub one_item : {A : Type 0} (xs : List A) (x : A) → length xs ≡ 1 → x ≡ get_or xs 0 x → xs ≡ x ∷ []
one_item [] x h is = absurd (omega arith)
one_item (y ∷ []) x h is = ap (λ z. z ∷ []) (sym is)
one_item (y ∷ z ∷ zs) x h is = absurd (omega arith)

-- another list of parameters than one of one
pub many_params : (ps : List CodeSource) (c : Context) → length ps ≢ 1 → judged_param_list (map seen_param ps) c ≡ judged_params (map seen_param ps) c
many_params [] c h = refl
many_params (p ∷ []) c h = absurd (h refl)
many_params (p ∷ q ∷ ps) c h = refl
