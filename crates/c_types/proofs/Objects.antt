-- Globals: what their parts tell together.
use Rattle.std.proofs.Common.{◌≡◌, Result, Ok, Err, sym, subst, ◌∙◌}
use Rattle.std.specs.Result.{IsErrAnd}
use Rattle.c_lex.specs.declared.refusal.CompileFault.{CompileFault}
use Rattle.c_tree.specs.Syntax as source
use Rattle.c_tree.specs.declared.syntax.Name.{Name}
use Rattle.c_tree.specs.declared.typed.CType.{CType}
use Rattle.c_tree.specs.declared.typed.Init.{Init as CodeInit}
use Rattle.c_tree.specs.declared.typed.GlobalVar.{GlobalVar as CodeGlobal}
use Rattle.c_tree.specs.Typed.{Ty, Init, GlobalVar}
use Rattle.c_tree.specs.TypedViews.{type_view, init_view, global_view}
use Rattle.c_typing.specs.Faults.{Judged, typed, Gives}
use Rattle.c_typing.specs.Scope.{Context}
use Rattle.c_typing.specs.Judgement.{Judging}
use Rattle.c_typing.specs.Statements.{or_int, object_of, name_of}
use Rattle.c_typing.specs.Programs.{with_global, judged_global_init, global_fine, judged_global}
use Rattle.type_context.specs.declared.context.Context.{Context as CodeContext}
use Rattle.type_context.specs.ContextViews.{context_view}
use Rattle.type_context.specs.inner.Outcomes.{joined}
use Rattle.type_context.specs.Telling.{Tells}
use Rattle.type_context.proofs.Walks.{ok_finishes}
use Rattle.c_types.proofs.Steps.{declared_parts, object_parts, err_finish}

-- what is fine at a global's name
abbrev pub Fine : Type 0
Fine = Unit {0} × (Unit {0} × Unit {0})

-- what the parts of a global are
abbrev pub parts_view : (Fine × CType) × CodeInit → (Fine × Ty) × Init
parts_view p = ((p.0.0, type_view p.0.1), init_view p.1)

-- a global of its parts
abbrev pub global_of : (Fine × Ty) × Init → Judged GlobalVar
global_of p = typed (record { ty = p.0.1; init = p.1 })

-- the parts of a global, in the order of the text
abbrev pub global_parts : (name : Name) → Judged Ty → source.InitDeclarator → Judging ((Fine × Ty) × Init)
global_parts name J x = declared_parts (object_of J x.declarator) (λ d j. global_fine d name j) (λ d t. with_global d name t) (λ j. judged_global_init name.from j x.value)

-- the parts of a global are told
global_told : (J : Judged Ty) (x : source.InitDeclarator) (name : Name) (c : Context) (m n o : CodeContext)
    (t : Result CType CompileFault) (f : Result Fine CompileFault) (s : CType) (i : Result CodeInit CompileFault)
    → Tells type_view t m (object_of J x.declarator c)
    → ((j : Judged Ty) → Gives type_view t j → Gives (λ x. x) f (global_fine (context_view m) name j))
    → ((j : Judged Ty) → Gives type_view t j → type_view s ≡ or_int j)
    → context_view n ≡ with_global (context_view m) name (type_view s)
    → ((j : Judged Ty) → Gives type_view t j → Tells init_view i o (judged_global_init name.from j x.value (context_view n)))
    → Tells parts_view (joined (joined f t) i) o (global_parts name J x c)
global_told J x name c m n o t f s i h g w l k =
    object_parts (λ x. x) init_view (object_of J x.declarator) (λ d j. global_fine d name j) (λ d t. with_global d name t) (λ j. judged_global_init name.from j x.value) c m n o t f s i h g w l k

-- a global that is declared, whose parts are typed
pub global_ok : (J : Judged Ty) (x : source.InitDeclarator) (name : Name) (c : Context) (m n o : CodeContext)
    (t : Result CType CompileFault) (f : Result Fine CompileFault) (s : CType) (i : Result CodeInit CompileFault)
    (q : Result ((Fine × CType) × CodeInit) CompileFault) (p : (Fine × CType) × CodeInit) (r : Result CodeGlobal CompileFault)
    → name_of x.declarator ≡ name
    → Tells type_view t m (object_of J x.declarator c)
    → ((j : Judged Ty) → Gives type_view t j → Gives (λ x. x) f (global_fine (context_view m) name j))
    → ((j : Judged Ty) → Gives type_view t j → type_view s ≡ or_int j)
    → context_view n ≡ with_global (context_view m) name (type_view s)
    → ((j : Judged Ty) → Gives type_view t j → Tells init_view i o (judged_global_init name.from j x.value (context_view n)))
    → q ≡ joined (joined f t) i → q ≡ Ok p → Gives global_view r (global_of (parts_view p))
    → Tells global_view r o (judged_global J x c)
global_ok J x name c m n o t f s i q p r named h g w l k is ok made =
    let back = sym named in
    let y = name_of x.declarator in
    ok_finishes parts_view global_view global_of (global_parts y J x c) o (joined (joined f t) i) p r
    (global_told J x y c m n o t f s i h
    (subst (λ (y : Name). (j : Judged Ty) → Gives type_view t j → Gives (λ x. x) f (global_fine (context_view m) y j)) back g) w
    (subst (λ (y : Name). context_view n ≡ with_global (context_view m) y (type_view s)) back l)
    (subst (λ (y : Name). (j : Judged Ty) → Gives type_view t j → Tells init_view i o (judged_global_init y.from j x.value (context_view n))) back k))
    (sym is ∙ ok) made

-- one whose parts are not
pub global_err : (J : Judged Ty) (x : source.InitDeclarator) (name : Name) (c : Context) (m n o : CodeContext)
    (t : Result CType CompileFault) (f : Result Fine CompileFault) (s : CType) (i : Result CodeInit CompileFault)
    (q : Result ((Fine × CType) × CodeInit) CompileFault) (e : CompileFault) (r : Result CodeGlobal CompileFault)
    → name_of x.declarator ≡ name
    → Tells type_view t m (object_of J x.declarator c)
    → ((j : Judged Ty) → Gives type_view t j → Gives (λ x. x) f (global_fine (context_view m) name j))
    → ((j : Judged Ty) → Gives type_view t j → type_view s ≡ or_int j)
    → context_view n ≡ with_global (context_view m) name (type_view s)
    → ((j : Judged Ty) → Gives type_view t j → Tells init_view i o (judged_global_init name.from j x.value (context_view n)))
    → q ≡ joined (joined f t) i → q ≡ Err e → IsErrAnd r (λ d. d ≡ e)
    → Tells global_view r o (judged_global J x c)
global_err J x name c m n o t f s i q e r named h g w l k is err back_err =
    let back = sym named in
    let y = name_of x.declarator in
    err_finish parts_view global_view global_of (global_parts y J x c) o (joined (joined f t) i) q e r
    (global_told J x y c m n o t f s i h
    (subst (λ (y : Name). (j : Judged Ty) → Gives type_view t j → Gives (λ x. x) f (global_fine (context_view m) y j)) back g) w
    (subst (λ (y : Name). context_view n ≡ with_global (context_view m) y (type_view s)) back l)
    (subst (λ (y : Name). (j : Judged Ty) → Gives type_view t j → Tells init_view i o (judged_global_init y.from j x.value (context_view n))) back k))
    is err back_err
