-- Functions: what their parts tell together.
use Rattle.std.proofs.Common.{◌≡◌, ℕ, List, [], ◌∷◌, ◌++◌, Option, Some, Result, Ok, Err, refl, ap, sym, subst, ◌∙◌}
use Rattle.std.specs.Borrow.{Bor}
use Rattle.std.specs.Prelude.{Vec}
use Rattle.std.specs.declared.alloc.Global.{Global}
use Rattle.c_lex.specs.declared.refusal.CompileFault.{CompileFault}
use Rattle.c_lex.specs.declared.refusal.CompileFault.TheVariants.{Refused, NoMemory}
use Rattle.c_tree.specs.declared.syntax.Name.{Name}
use Rattle.c_tree.specs.declared.syntax.Pointer.{Pointer}
use Rattle.c_tree.specs.declared.typed.CType.{CType}
use Rattle.c_tree.specs.declared.typed.Func.{Func as CodeFunc}
use Rattle.c_tree.specs.Syntax as source
use Rattle.c_tree.specs.Typed.{Ty, Func}
use Rattle.c_tree.specs.TypedForm.{in_function}
use Rattle.c_tree.specs.TypedViews.{type_view, func_view}
use Rattle.c_typing.specs.Faults.{Judged, typed, Gives, ◌>>=◌}
use Rattle.c_typing.specs.Scope.{Frame, Context, inside, back_to}
use Rattle.c_typing.specs.Judgement.{Judging, lone, in_turn}
use Rattle.c_typing.specs.Statements.{or_int}
use Rattle.c_typing.specs.Numbering.{Param}
use Rattle.c_typing.specs.Programs.{result_of, head_fine, before_params, types_or, with_function, with_body, judged_param_list, judged_body, body_within, judged_function}
use Rattle.type_context.specs.declared.context.Context.{Context as CodeContext}
use Rattle.type_context.specs.declared.names.Binding.{Binding as CodeMeaning}
use Rattle.type_context.specs.ContextViews.{context_view, frame_view, types_view}
use Rattle.type_context.specs.inner.Outcomes.{joined}
use Rattle.type_locals.specs.LocalViews.{param_view}
use Rattle.type_context.specs.Telling.{Tells}
use Rattle.type_context.proofs.Walks.{memory_tells, known_tells, both_tell}
use Rattle.type_declared.specs.Gathering.{each}
use Rattle.c_typing.proofs.Unmoved.{stmts_stays}
use Rattle.c_types.specs.declared.definitions.Head.{Head}
use Rattle.c_types.specs.inner.Functions.{IsHead}

-- ---- parameters

-- the context that parameters find
pub found_params : (k : CodeContext) (ls : Vec CType Global) (ns : Vec ℕ Global) (m : CodeContext) (es : List (Bor (List ℕ) × CodeMeaning))
    → context_view m ≡ record (inside (context_view (record k { locals = ls; addressed = ns }))) { inner = frame_view es } → ls.items ≡ [] → ns.items ≡ [] → es ≡ []
    → context_view m ≡ before_params (context_view k)
found_params k ls ns m es h no_locals no_addressed no_names =
    h
    ∙ ap (λ l. record (inside (context_view k)) { locals = types_view l; addressed = ns.items; inner = frame_view es }) no_locals
    ∙ ap (λ l. record (inside (context_view k)) { locals = []; addressed = l; inner = frame_view es }) no_addressed
    ∙ ap (λ l. record (inside (context_view k)) { locals = []; addressed = []; inner = frame_view l }) no_names

-- ---- bodies

-- a body, once its scope is left and its name has it
pub whole_told : (J : Judged (List Param)) (k : Judged Ty) (n : Name) (body : source.Body) (es : List (Bor (List ℕ) × CodeMeaning)) (d : Context) (m o p q : CodeContext) (a : Result (Vec CodeFunc Global) CompileFault)
    → context_view m ≡ record (inside d) { inner = frame_view es }
    → Tells (each func_view) a o (judged_body J k (Some body) (context_view m))
    → ((around : Context) → (context_view o).outer ≡ around.outer ++ around.inner ∷ [] → context_view p ≡ back_to around (context_view o))
    → context_view q ≡ with_body (context_view p) n
    → Tells (each func_view) a q (body_within (frame_view es) J k n (Some body) d)
whole_told J k n body es d m o p q (Err NoMemory) into h out more = memory_tells (each func_view) q (body_within (frame_view es) J k n (Some body) d)
whole_told J k n body es d m o p q (Ok x) into h out more =
    let e = record (inside d) { inner = frame_view es } in
    let told : Tells (each func_view) (Ok x) o (judged_body J k (Some body) e) = subst (λ f. Tells (each func_view) (Ok x) o (judged_body J k (Some body) f)) into h in
    record {
      gives = told.gives;
      leaves = more ∙ ap (λ f. with_body f n) (out d (ap (λ (f : Context). f.outer) told.leaves ∙ ap (λ (p : List ℕ × List Frame). p.1) (stmts_stays (or_int k) in_function (source.stmts_of body.items) e)) ∙ ap (back_to d) told.leaves);
    }
whole_told J k n body es d m o p q (Err (Refused r)) into h out more =
    let e = record (inside d) { inner = frame_view es } in
    let told : Tells (each func_view) (Err (Refused r)) o (judged_body J k (Some body) e) = subst (λ f. Tells (each func_view) (Err (Refused r)) o (judged_body J k (Some body) f)) into h in
    record {
      gives = told.gives;
      leaves = more ∙ ap (λ f. with_body f n) (out d (ap (λ (f : Context). f.outer) told.leaves ∙ ap (λ (p : List ℕ × List Frame). p.1) (stmts_stays (or_int k) in_function (source.stmts_of body.items) e)) ∙ ap (back_to d) told.leaves);
    }

-- ---- functions

-- a function, by what is judged at its name and by its body
abbrev pub function_parts : (names : List (List ℕ)) → Judged Ty → List Pointer → Name → List source.Param → Option source.Body → Judging ((Unit {0} × Unit {0}) × List Func)
function_parts names base pointers n params body around =
    let ps = judged_param_list params (before_params around) in
    let result = result_of n.from base pointers in
    let c = back_to around ps.1 in
    in_turn (lone (head_fine c names n body ps.0 result)) (body_within ps.1.inner ps.0 result n body) (with_function c names n (types_or ps.0) (or_int result))

pub function_is : (names : List (List ℕ)) (base : Judged Ty) (pointers : List Pointer) (n : Name) (params : List source.Param) (body : Option source.Body) (around : Context)
    → judged_function names base pointers n params body around ≡ ((function_parts names base pointers n params body around).0 >>= λ p. typed p.1, (function_parts names base pointers n params body around).1)
function_is names base pointers n params body around = refl

pub function_told : (names : List (List ℕ)) (base : Judged Ty) (pointers : List Pointer) (n : Name) (params : List source.Param) (body : Option source.Body) (around : Context)
    (h : Head) (m o p : CodeContext) (s : CType) (ts : List CType) (returned : Result CType CompileFault) (f : Result (Unit {0} × Unit {0}) CompileFault) (b : Result (Vec CodeFunc Global) CompileFault)
    → IsHead h m params around → Gives type_view returned (result_of n.from base pointers)
    → ((j : Judged (List Param)) (k : Judged Ty) → Gives (each param_view) h.params j → Gives type_view returned k → Gives (λ x. x) f (head_fine (context_view m) names n body j k))
    → ((j : Judged (List Param)) → Gives (each param_view) h.params j → types_view ts ≡ types_or j)
    → ((k : Judged Ty) → Gives type_view returned k → type_view s ≡ or_int k)
    → context_view o ≡ with_function (context_view m) names n (types_view ts) (type_view s)
    → ((j : Judged (List Param)) (k : Judged Ty) → Gives (each param_view) h.params j → Gives type_view returned k → Tells (each func_view) b p (body_within (frame_view h.scope.entries) j k n body (context_view o)))
    → Tells (λ (z : (Unit {0} × Unit {0}) × Vec CodeFunc Global). (z.0, each func_view z.1)) (joined f b) p (function_parts names base pointers n params body around)
function_told names base pointers n params body around h m o p s ts returned f b head gives fine types result declared funcs =
    let ps = judged_param_list params (before_params around) in
    let j = ps.0 in
    let k = result_of n.from base pointers in
    let c = back_to around ps.1 in
    let d = with_function c names n (types_or j) (or_int k) in
    let here : context_view o ≡ d =
    declared ∙ ap (λ e. with_function e names n (types_view ts) (type_view s)) head.leaves
    ∙ ap (λ l. with_function c names n l (type_view s)) (types j head.gives) ∙ ap (with_function c names n (types_or j)) (result k gives) in
    let told : Tells (each func_view) b p (body_within (frame_view h.scope.entries) j k n body d) = subst (λ e. Tells (each func_view) b p (body_within (frame_view h.scope.entries) j k n body e)) here (funcs j k head.gives gives) in
    let body_told : Tells (each func_view) b p (body_within ps.1.inner j k n body d) = subst (λ e. Tells (each func_view) b p (body_within e j k n body d)) head.scope told in
    let name_told : Gives (λ x. x) f (head_fine c names n body j k) = subst (λ e. Gives (λ x. x) f (head_fine e names n body j k)) head.leaves (fine j k head.gives gives) in
    both_tell (λ x. x) (each func_view) (lone (head_fine c names n body j k)) (body_within ps.1.inner j k n body) d o p f b
    (known_tells (λ x. x) f o (head_fine c names n body j k) d name_told here) (subst (λ e. Tells (each func_view) b p (body_within ps.1.inner j k n body e)) (sym here) body_told)
