-- The names of functions at file scope: each means the function that is defined under it.
use Rattle.std.proofs.Common.{◌≡◌, ℕ, zero, suc, ◌+◌, ◌<◌, ◌⊎◌, inl, inr, Bool, true, false, ◌&&◌, ◌||◌, not, refl, sym, ap, ◌∙◌, subst, arith, List, [], ◌∷◌, ◌++◌, length, map, Option, Some, None, slice_get, nat_lt, if◌then◌else◌}
use Rattle.std.specs.List.{list_any}
use Rattle.std.specs.Map.{lookup}
use Rattle.std.specs.Str.{bytes_eq}
use Rattle.std.specs.Option.{is_some, option_map}
use Rattle.std.proofs.lemmas.Option.{slice_get-map}
use Rattle.std.proofs.lemmas.Slice.Eq.{bytes_eq-Decides}
use Rattle.c_lex.specs.declared.refusal.Kind.TheVariants.{UnknownName, DoubleName, TypeMismatch, OutsideSubset, TooMany}
use Rattle.c_tree.specs.declared.syntax.Name.{Name}
use Rattle.c_tree.specs.declared.syntax.Pointer.{Pointer}
use Rattle.c_tree.specs.Syntax as source
use Rattle.c_tree.specs.Typed.{Ty, void, integer, atomic, mutex, pointer, array, structure, Layout, Func, Stmt, stmts_of}
use Rattle.c_tree.specs.TypedLayout.{size_in}
use Rattle.c_tree.specs.TypedForm.{in_function, IsResult, Signature, signature_of, taken}
use Rattle.c_typing.specs.Faults.{Judged, typed, faulty, unless, both, ◌>>=◌}
use Rattle.c_typing.specs.Types.{is_array, value_type, is_struct_or_mutex, same_type, same_types, behind_pointers}
use Rattle.c_typing.specs.Scope.{Binding, global_name, local_name, function_name, enumerator_name, type_name, library_name, Frame, Context, bytes_of, library, or_else, is_double, declared, with_alias, back_to, within}
use Rattle.c_typing.specs.Judgement.{in_turn, judged_specs, plain_type, object_declared}
use Rattle.c_typing.specs.Statements.{or_int, judged_declarator, name_of, judged_stmts}
use Rattle.c_typing.specs.Numbering.{Param, passed_type, func_of}
use Rattle.c_typing.specs.Programs.{judged_global_init, with_global, judged_global, judged_globals, judged_param_list, defined_name, defined_by, defined_names, judged_alias, judged_aliases, behind_specs, no_objects, place_of_name, once, agrees, is_new, first_time, one_body, before_name, not_library, result_type, result_of, name_fine, type_fine, types_fine, head_fine, types_or, with_name, with_function, with_body, before_params, in_scope_of, judged_body, body_behind, body_within, judged_function, Made, joined, judged_rest, judged_external, judged_externals}
use Rattle.c_typing.proofs.Carried.{OnTyped, on_bind, on_unless}
use Rattle.c_typing.proofs.Extending.{Ready, below}
use Rattle.c_typing.proofs.Elements.{nothing_at}
use Rattle.c_typing.proofs.RuledWell.{both_hold, value_ready}
use Rattle.c_typing.proofs.TypesWell.{behind_ready, plain_type_is, same_type_is, same_types_are}
use Rattle.c_typing.proofs.Lengthened.{meaning_kept, function_before, lookup_last}
use Rattle.c_typing.proofs.FunctionWell.{signature_is}
use Rattle.c_typing.proofs.Unmoved.{Keeping, keeping_itself, Still, judged_still, specs_still, declarator_still, declared_stays, stmts_stays, param_list_stays}

-- ---- outcomes that are typed

pub typed_given : {A : Type 0} (P : A → Type 0) (j : Judged A) (x : A) → OnTyped P j → j ≡ typed x → P x
typed_given P j x h e = subst (OnTyped P) e h

pub known_typed : {A : Type 0} (j : Judged A) → OnTyped (λ x. j ≡ typed x) j
known_typed (typed x) = refl
known_typed (faulty r rs) = tt

pub both_typed : {A B : Type 0} (j : Judged A) (k : Judged B) → OnTyped (λ (p : A × B). (j ≡ typed p.0) × (k ≡ typed p.1)) (both j k)
both_typed (typed x) (typed y) = (refl, refl)
both_typed (typed x) (faulty s ss) = tt
both_typed (faulty r rs) (typed y) = tt
both_typed (faulty r rs) (faulty s ss) = tt

pub both_is : {A B : Type 0} (j : Judged A) (k : Judged B) (p : A × B) → both j k ≡ typed p → (j ≡ typed p.0) × (k ≡ typed p.1)
both_is {A} {B} j k p e = typed_given (λ (p : A × B). (j ≡ typed p.0) × (k ≡ typed p.1)) (both j k) p (both_typed j k) e

abbrev Via : {A B : Type 0} → Judged A → (A → Judged B) → B → Type 0
Via {A} j f y = (x : A) × (j ≡ typed x) × (f x ≡ typed y)

pub bind_is : {A B : Type 0} (j : Judged A) (f : A → Judged B) (y : B) → (j >>= f) ≡ typed y → (x : A) × (j ≡ typed x) × (f x ≡ typed y)
bind_is (typed x) f y e = (x, refl, e)
bind_is (faulty r rs) f y e = absurd cc

typed_same : {A : Type 0} (x y : A) → typed x ≡ typed y → x ≡ y
typed_same x y e = cc

-- ---- scopes that grow

abbrev pub Seen : Context → Context → Type 0
Seen c d = (q : List ℕ) (m : Binding) → lookup (bytes_eq q) c.inner ≡ Some m → lookup (bytes_eq q) d.inner ≡ Some m

-- a function's number is its place among the names, and it is among them
abbrev pub ArePlaced : List (List ℕ) → Context → Type 0
ArePlaced names c = (q : List ℕ) (n : ℕ) (ps : List Ty) (r : Ty) → lookup (bytes_eq q) c.inner ≡ Some (function_name n ps r) → (n ≡ place_of_name q names) × (list_any (bytes_eq q) names ≡ true)

abbrev Says : Frame → List ℕ → Func → Type 0
Says f q x = (n : ℕ) × (lookup (bytes_eq q) f ≡ Some (function_name n (signature_of x).params (signature_of x).result))

-- each function stands under its name
abbrev pub Heads : Frame → List (List ℕ) → List Func → Type 0
Heads f [] [] = Unit {0}
Heads f (q ∷ qs) (x ∷ xs) = Says f q x × IsResult x.result × Heads f qs xs
Heads f [] (x ∷ xs) = ⊥
Heads f (q ∷ qs) [] = ⊥

pub record Headed (names : List (List ℕ)) (c d : Context) (qs : List (List ℕ)) (fs : List Func) : Type 0 where
  pub text : d.text ≡ c.text
  pub seen : Seen c d
  pub placed : ArePlaced names c → ArePlaced names d
  pub heads : Heads d.inner qs fs

heads_later : (c d : Context) → Seen c d → (qs : List (List ℕ)) (fs : List Func) → Heads c.inner qs fs → Heads d.inner qs fs
heads_later c d f [] [] h = tt
heads_later c d f (q ∷ qs) (x ∷ xs) h = ((h.0.0, f q (function_name h.0.0 (signature_of x).params (signature_of x).result) h.0.1), h.1, heads_later c d f qs xs h.2)
heads_later c d f [] (x ∷ xs) h = h
heads_later c d f (q ∷ qs) [] h = h

heads_append : (f : Frame) (qs rs : List (List ℕ)) (xs ys : List Func) → Heads f qs xs → Heads f rs ys → Heads f (qs ++ rs) (xs ++ ys)
heads_append f [] rs [] ys h k = k
heads_append f (q ∷ qs) rs (x ∷ xs) ys h k = (h.0, h.1, heads_append f qs rs xs ys h.2 k)
heads_append f [] rs (x ∷ xs) ys h k = absurd h
heads_append f (q ∷ qs) rs [] ys h k = absurd h

headed_further : (names : List (List ℕ)) (b c d : Context) (qs rs : List (List ℕ)) (xs ys : List Func) → Headed names b c qs xs → Headed names c d rs ys → Headed names b d (qs ++ rs) (xs ++ ys)
headed_further names b c d qs rs xs ys f g = record {
  text = g.text ∙ f.text;
  seen = λ q m h. g.seen q m (f.seen q m h);
  placed = λ h. g.placed (f.placed h);
  heads = heads_append d.inner qs rs xs ys (heads_later c d g.seen qs xs f.heads) g.heads;
}

headed_still : (names : List (List ℕ)) (c d : Context) → Keeping c d → Headed names c d [] []
headed_still names c d e = record {
  text = e.text;
  seen = λ q m h. meaning_kept c.inner d.inner e.inner q m h;
  placed = λ f q n ps r h. f q n ps r (function_before c.inner d.inner e.inner q n ps r h);
  heads = tt;
}

-- ---- a name more

pub new_name : (inner : Frame) (q k : List ℕ) (v m : Binding) → lookup (bytes_eq q) (inner ++ (k, v) ∷ []) ≡ Some m → (lookup (bytes_eq q) inner ≡ Some m) ⊎ ((bytes_eq q k ≡ true) × (v ≡ m))
new_name inner q k v m h = by (lookup (bytes_eq q) inner) (bytes_eq q k) refl (sym (lookup_last (bytes_eq q) inner k v) ∙ h)
  where
    by : (o : Option Binding) (b : Bool) → bytes_eq q k ≡ b → or_else o (if b then Some v else None) ≡ Some m → (o ≡ Some m) ⊎ ((bytes_eq q k ≡ true) × (v ≡ m))
    by (Some x) b e h = inl h
    by None true e h = inr (e, cc)
    by None false e h = absurd cc

old_name : (inner : Frame) (q k : List ℕ) (v m : Binding) → lookup (bytes_eq q) inner ≡ Some m → lookup (bytes_eq q) (inner ++ (k, v) ∷ []) ≡ Some m
old_name inner q k v m h = lookup_last (bytes_eq q) inner k v ∙ ap (λ o. or_else o (if bytes_eq q k then Some v else None)) h

pub same_bytes_is : (p q : List ℕ) → bytes_eq p q ≡ true → p ≡ q
same_bytes_is p q h = (bytes_eq-Decides p q).0 h

pub bytes_same : (q : List ℕ) → bytes_eq q q ≡ true
bytes_same q = (bytes_eq-Decides q q).1 refl

pub declared_inner : (c : Context) (n : Name) (m : Binding) → (declared c n m).inner ≡ (if is_double c n then c.inner else c.inner ++ (bytes_of c.text n, m) ∷ [])
declared_inner c n m = by (is_double c n)
  where
    by : (b : Bool) → (if b then c else record c { inner = c.inner ++ (bytes_of c.text n, m) ∷ [] }).inner ≡ (if b then c.inner else c.inner ++ (bytes_of c.text n, m) ∷ [])
    by true = refl
    by false = refl

-- a name that is no function's
other_name : (names : List (List ℕ)) (c d : Context) (k : List ℕ) (v : Binding) → d.text ≡ c.text → (d.inner ≡ c.inner) ⊎ (d.inner ≡ c.inner ++ (k, v) ∷ []) → ((n : ℕ) (ps : List Ty) (r : Ty) → v ≡ function_name n ps r → ⊥) → Headed names c d [] []
other_name names c d k v t i f = record { text = t; seen = seen i; placed = placed i; heads = tt }
  where
    seen : (d.inner ≡ c.inner) ⊎ (d.inner ≡ c.inner ++ (k, v) ∷ []) → Seen c d
    seen (inl e) q m h = ap (lookup (bytes_eq q)) e ∙ h
    seen (inr e) q m h = ap (lookup (bytes_eq q)) e ∙ old_name c.inner q k v m h

    placed : (d.inner ≡ c.inner) ⊎ (d.inner ≡ c.inner ++ (k, v) ∷ []) → ArePlaced names c → ArePlaced names d
    placed (inl e) g q n ps r h = g q n ps r (sym (ap (lookup (bytes_eq q)) e) ∙ h)
    placed (inr e) g q n ps r h = by (new_name c.inner q k v (function_name n ps r) (sym (ap (lookup (bytes_eq q)) e) ∙ h))
      where
        by : (lookup (bytes_eq q) c.inner ≡ Some (function_name n ps r)) ⊎ ((bytes_eq q k ≡ true) × (v ≡ function_name n ps r)) → (n ≡ place_of_name q names) × (list_any (bytes_eq q) names ≡ true)
        by (inl l) = g q n ps r l
        by (inr l) = absurd (f n ps r l.1)

-- ---- globals

init_still : (place : ℕ) (t : Judged Ty) (o : Option source.Expr) → Still (judged_global_init place t o)
init_still place t None c = keeping_itself c
init_still place t (Some s) c = judged_still s c

global_named : (names : List (List ℕ)) (d : Context) (n : Name) (t : Ty) → Headed names d (with_global d n t) [] []
global_named names d n t = by (is_double d n)
  where
    by : (b : Bool) → Headed names d (record (if b then d else record d { inner = d.inner ++ (bytes_of d.text n, global_name (length d.globals) t) ∷ [] }) { globals = d.globals ++ t ∷ []; plain = d.plain + taken (size_in d.structs t) }) [] []
    by true = other_name names d _ (bytes_of d.text n) (global_name (length d.globals) t) refl (inl refl) (λ n ps r e. absurd cc)
    by false = other_name names d _ (bytes_of d.text n) (global_name (length d.globals) t) refl (inr refl) (λ n ps r e. absurd cc)

global_headed : (names : List (List ℕ)) (base : Judged Ty) (x : source.InitDeclarator) (c : Context) → Headed names c (judged_global base x c).1 [] []
global_headed names base x c = by (judged_declarator x.declarator c).1 (both base (judged_declarator x.declarator c).0 >>= λ p. object_declared (judged_declarator x.declarator c).1 p.0 p.1) (declarator_still x.declarator c)
  where
    by : (d : Context) (t : Judged Ty) → Keeping c d → Headed names c (judged_global_init (name_of x.declarator).from t x.value (with_global d (name_of x.declarator) (or_int t))).1 [] []
    by d t e =
        let last : Context = (judged_global_init (name_of x.declarator).from t x.value (with_global d (name_of x.declarator) (or_int t))).1 in
        headed_further names c d last [] [] [] [] (headed_still names c d e)
        (headed_further names d (with_global d (name_of x.declarator) (or_int t)) last [] [] [] [] (global_named names d (name_of x.declarator) (or_int t))
        (headed_still names (with_global d (name_of x.declarator) (or_int t)) last (init_still (name_of x.declarator).from t x.value (with_global d (name_of x.declarator) (or_int t)))))

globals_headed : (names : List (List ℕ)) (base : Judged Ty) (xs : List source.InitDeclarator) (c : Context) → Headed names c (judged_globals base xs c).1 [] []
globals_headed names base [] c = headed_still names c c (keeping_itself c)
globals_headed names base (x ∷ xs) c = headed_further names c (judged_global base x c).1 (judged_globals base (x ∷ xs) c).1 [] [] [] [] (global_headed names base x c) (globals_headed names base xs (judged_global base x c).1)

-- ---- functions

-- a function that is typed: its parameters and its result, and what holds at its name
pub record IsFunction (names : List (List ℕ)) (base : Judged Ty) (pointers : List Pointer) (n : Name) (params : List source.Param) (body : Option source.Body) (around : Context) (fs : List Func) : Type 0 where
  pub xs : List Param
  pub r : Ty
  pub result : result_of n.from base pointers ≡ typed r
  pub given : (judged_param_list params (before_params around)).0 ≡ typed xs
  pub name : name_fine (back_to around (judged_param_list params (before_params around)).1) names n body ≡ typed (tt {0})
  pub type : type_fine (back_to around (judged_param_list params (before_params around)).1) n xs r ≡ typed (tt {0})
  pub made : (judged_body (typed xs) (typed r) body (in_scope_of (judged_param_list params (before_params around)).1.inner (with_function (back_to around (judged_param_list params (before_params around)).1) names n (map passed_type xs) r))).0 ≡ typed fs
  pub last : (judged_function names base pointers n params body around).1 ≡ body_behind (with_function (back_to around (judged_param_list params (before_params around)).1) names n (map passed_type xs) r) n body
      (judged_body (typed xs) (typed r) body (in_scope_of (judged_param_list params (before_params around)).1.inner (with_function (back_to around (judged_param_list params (before_params around)).1) names n (map passed_type xs) r))).1

abbrev body_of : (names : List (List ℕ)) (n : Name) (params : List source.Param) (body : Option source.Body) (around : Context) → Judged (List Param) → Judged Ty → Judged (List Func) × Context
body_of names n params body around j k = body_within (judged_param_list params (before_params around)).1.inner j k n body (with_function (back_to around (judged_param_list params (before_params around)).1) names n (types_or j) (or_int k))

abbrev function_of : (names : List (List ℕ)) (n : Name) (params : List source.Param) (body : Option source.Body) (around : Context) → Judged (List Param) → Judged Ty → Judged (List Func) × Context
function_of names n params body around j k =
    (both (head_fine (back_to around (judged_param_list params (before_params around)).1) names n body j k) (body_of names n params body around j k).0 >>= λ p. typed p.1, (body_of names n params body around j k).1)

pub is_function : (names : List (List ℕ)) (base : Judged Ty) (pointers : List Pointer) (n : Name) (params : List source.Param) (body : Option source.Body) (around : Context) (fs : List Func)
    → (judged_function names base pointers n params body around).0 ≡ typed fs → IsFunction names base pointers n params body around fs
is_function names base pointers n params body around fs e =
    let result : Judged Ty = result_of n.from base pointers in
    let given : Judged (List Param) = (judged_param_list params (before_params around)).0 in
    let c : Context = back_to around (judged_param_list params (before_params around)).1 in
    let fine : Judged (Unit {0} × Unit {0}) = head_fine c names n body given result in
    let a = bind_is (both fine (body_of names n params body around given result).0) (λ p. typed p.1) fs e in
    let b = both_is fine (body_of names n params body around given result).0 a.0 a.1 in
    let f = both_is (name_fine c names n body) (types_fine c n given result) a.0.0 b.0 in
    let g = bind_is (both given result) (λ p. type_fine c n p.0 p.1) a.0.0.1 f.1 in
    let h = both_is given result g.0 g.1 in
    let same : a.0.1 ≡ fs = typed_same a.0.1 fs a.2 in
    record {
      xs = g.0.0;
      r = g.0.1;
      result = h.1;
      given = h.0;
      name = f.0;
      type = g.2;
      made = sym (ap (λ j. (body_of names n params body around j result).0) h.0 ∙ ap (λ k. (body_of names n params body around (typed g.0.0) k).0) h.1) ∙ b.1 ∙ ap typed same;
      last = ap (λ j. (function_of names n params body around j result).1) h.0 ∙ ap (λ k. (function_of names n params body around (typed g.0.0) k).1) h.1;
    }

-- what holds at a function's name
pub record AtName (c : Context) (names : List (List ℕ)) (n : Name) (body : Option source.Body) : Type 0 where
  pub no_library : is_some (lookup (bytes_eq (bytes_of c.text n)) library) ≡ false
  pub once_at : once n.from (before_name c n) ≡ typed (tt {0})
  pub first_at : first_time c names n (is_new (before_name c n)) ≡ typed (tt {0})
  pub body_at : one_body c n body ≡ typed (tt {0})

not_true : (b : Bool) → not b ≡ true → b ≡ false
not_true true h = absurd cc
not_true false h = refl

pub at_name : (c : Context) (names : List (List ℕ)) (n : Name) (body : Option source.Body) → name_fine c names n body ≡ typed (tt {0}) → AtName c names n body
at_name c names n body e =
    let a = bind_is (both (both (not_library c n) (once n.from (before_name c n))) (both (first_time c names n (is_new (before_name c n))) (one_body c n body))) (λ u. typed (tt {0})) tt e in
    let b = both_is (both (not_library c n) (once n.from (before_name c n))) (both (first_time c names n (is_new (before_name c n))) (one_body c n body)) a.0 a.1 in
    let f = both_is (not_library c n) (once n.from (before_name c n)) a.0.0 b.0 in
    let g = both_is (first_time c names n (is_new (before_name c n))) (one_body c n body) a.0.1 b.1 in
    record {
      no_library = not_true (is_some (lookup (bytes_eq (bytes_of c.text n)) library)) (typed_given (λ u. not (is_some (lookup (bytes_eq (bytes_of c.text n)) library)) ≡ true) (not_library c n) a.0.0.0 (on_unless n.from DoubleName (not (is_some (lookup (bytes_eq (bytes_of c.text n)) library)))) f.0);
      once_at = f.1;
      first_at = g.0;
      body_at = g.1;
    }

-- the first time that a function is named, it is among the names, and there are not too many
pub first_is : (c : Context) (names : List (List ℕ)) (n : Name) → first_time c names n true ≡ typed (tt {0}) → (list_any (bytes_eq (bytes_of c.text n)) names ≡ true) × (length c.functions < 8192)
first_is c names n e =
    let a = bind_is (both (unless n.from UnknownName (list_any (bytes_eq (bytes_of c.text n)) names)) (within n.from 1 8192 (length c.functions))) (λ u. typed (tt {0})) tt e in
    let b = both_is (unless n.from UnknownName (list_any (bytes_eq (bytes_of c.text n)) names)) (within n.from 1 8192 (length c.functions)) a.0 a.1 in (
      typed_given (λ u. list_any (bytes_eq (bytes_of c.text n)) names ≡ true) (unless n.from UnknownName (list_any (bytes_eq (bytes_of c.text n)) names)) a.0.0 (on_unless n.from UnknownName (list_any (bytes_eq (bytes_of c.text n)) names)) b.0,
      below (length c.functions) 8192 (typed_given (λ u. nat_lt (length c.functions) 8192 ≡ true) (within n.from 1 8192 (length c.functions)) a.0.1 (on_unless n.from (TooMany 1) (nat_lt (length c.functions) 8192)) b.1),
    )

-- a function's name was a function's before, of the same type, or is new
abbrev pub WasFunction : Context → Name → Context → List Ty → Ty → Type 0
WasFunction c n d ts r = (k : ℕ) × (lookup (bytes_eq (bytes_of c.text n)) c.inner ≡ Some (function_name k ts r)) × (d.inner ≡ c.inner)

abbrev pub IsNew : Context → List (List ℕ) → Name → Context → List Ty → Ty → Type 0
IsNew c names n d ts r = (lookup (bytes_eq (bytes_of c.text n)) c.inner ≡ None) × (list_any (bytes_eq (bytes_of c.text n)) names ≡ true) × (length c.functions < 8192)
    × (d.inner ≡ c.inner ++ (bytes_of c.text n, function_name (place_of_name (bytes_of c.text n) names) ts r) ∷ [])

pub entry : (c : Context) (names : List (List ℕ)) (n : Name) (body : Option source.Body) (xs : List Param) (r : Ty) → AtName c names n body → type_fine c n xs r ≡ typed (tt {0})
    → WasFunction c n (with_function c names n (map passed_type xs) r) (map passed_type xs) r ⊎ IsNew c names n (with_function c names n (map passed_type xs) r) (map passed_type xs) r
entry c names n body xs r a t = by (before_name c n) refl a.once_at a.first_at t
  where
    inner : (b : Bool) → is_double (with_name c n) n ≡ b → (with_function c names n (map passed_type xs) r).inner ≡ (if b then c.inner else c.inner ++ (bytes_of c.text n, function_name (place_of_name (bytes_of c.text n) names) (map passed_type xs) r) ∷ [])
    inner b e = declared_inner (with_name c n) n (function_name (place_of_name (bytes_of c.text n) names) (map passed_type xs) r) ∙ ap (λ b. if b then c.inner else c.inner ++ (bytes_of c.text n, function_name (place_of_name (bytes_of c.text n) names) (map passed_type xs) r) ∷ []) e

    double : (o : Option Binding) → lookup (bytes_eq (bytes_of c.text n)) c.inner ≡ o → is_double (with_name c n) n ≡ is_some o
    double o e = ap (λ o. is_some o || is_some (lookup (bytes_eq (bytes_of c.text n)) library)) e ∙ last (is_some o)
      where
        last : (b : Bool) → (b || is_some (lookup (bytes_eq (bytes_of c.text n)) library)) ≡ b
        last true = refl
        last false = a.no_library

    by : (o : Option Binding) → lookup (bytes_eq (bytes_of c.text n)) c.inner ≡ o → once n.from o ≡ typed (tt {0}) → first_time c names n (is_new o) ≡ typed (tt {0}) → agrees n.from (map passed_type xs) r o ≡ typed (tt {0})
        → WasFunction c n (with_function c names n (map passed_type xs) r) (map passed_type xs) r ⊎ IsNew c names n (with_function c names n (map passed_type xs) r) (map passed_type xs) r
    by None e o f t =
        let k = first_is c names n f in
        inr (e, k.0, k.1, inner false (double None e))
    by (Some (function_name k ps s)) e o f t =
        let h = both_hold (same_types (map passed_type xs) ps) (same_type r s) (typed_given (λ u. (same_types (map passed_type xs) ps && same_type r s) ≡ true) (agrees n.from (map passed_type xs) r (Some (function_name k ps s))) tt (on_unless n.from TypeMismatch (same_types (map passed_type xs) ps && same_type r s)) t) in
        let i : map passed_type xs ≡ ps = same_types_are (map passed_type xs) ps h.0 in
        let j : r ≡ s = same_type_is r s h.1 in
        inl (k, e ∙ ap (λ us. Some (function_name k us s)) (sym i) ∙ ap (λ u. Some (function_name k (map passed_type xs) u)) (sym j), inner true (double (Some (function_name k ps s)) e))
    by (Some (global_name k u)) e o f t = absurd cc
    by (Some (local_name k u)) e o f t = absurd cc
    by (Some (enumerator_name value)) e o f t = absurd cc
    by (Some (type_name u)) e o f t = absurd cc
    by (Some (library_name which)) e o f t = absurd cc

pub entry_says : (c : Context) (names : List (List ℕ)) (n : Name) (d : Context) (ts : List Ty) (r : Ty) → WasFunction c n d ts r ⊎ IsNew c names n d ts r → (k : ℕ) × (lookup (bytes_eq (bytes_of c.text n)) d.inner ≡ Some (function_name k ts r))
entry_says c names n d ts r (inl h) = (h.0, ap (lookup (bytes_eq (bytes_of c.text n))) h.2 ∙ h.1)
entry_says c names n d ts r (inr h) = (
  place_of_name (bytes_of c.text n) names,
  ap (lookup (bytes_eq (bytes_of c.text n))) h.3 ∙ lookup_last (bytes_eq (bytes_of c.text n)) c.inner (bytes_of c.text n) (function_name (place_of_name (bytes_of c.text n) names) ts r)
      ∙ ap (λ o. or_else o (if bytes_eq (bytes_of c.text n) (bytes_of c.text n) then Some (function_name (place_of_name (bytes_of c.text n) names) ts r) else None)) h.0
      ∙ ap (λ b. if b then Some (function_name (place_of_name (bytes_of c.text n) names) ts r) else None) (bytes_same (bytes_of c.text n)),
)

entry_seen : (c : Context) (names : List (List ℕ)) (n : Name) (d : Context) (ts : List Ty) (r : Ty) → WasFunction c n d ts r ⊎ IsNew c names n d ts r → Seen c d
entry_seen c names n d ts r (inl h) q m k = ap (lookup (bytes_eq q)) h.2 ∙ k
entry_seen c names n d ts r (inr h) q m k = ap (lookup (bytes_eq q)) h.3 ∙ old_name c.inner q (bytes_of c.text n) (function_name (place_of_name (bytes_of c.text n) names) ts r) m k

entry_placed : (c : Context) (names : List (List ℕ)) (n : Name) (d : Context) (ts : List Ty) (r : Ty) → WasFunction c n d ts r ⊎ IsNew c names n d ts r → ArePlaced names c → ArePlaced names d
entry_placed c names n d ts r (inl h) f q k ps s l = f q k ps s (sym (ap (lookup (bytes_eq q)) h.2) ∙ l)
entry_placed c names n d ts r (inr h) f q k ps s l = by (new_name c.inner q (bytes_of c.text n) (function_name (place_of_name (bytes_of c.text n) names) ts r) (function_name k ps s) (sym (ap (lookup (bytes_eq q)) h.3) ∙ l))
  where
    by : (lookup (bytes_eq q) c.inner ≡ Some (function_name k ps s)) ⊎ ((bytes_eq q (bytes_of c.text n) ≡ true) × (function_name (place_of_name (bytes_of c.text n) names) ts r ≡ function_name k ps s)) → (k ≡ place_of_name q names) × (list_any (bytes_eq q) names ≡ true)
    by (inl g) = f q k ps s g
    by (inr g) =
        let e : q ≡ bytes_of c.text n = same_bytes_is q (bytes_of c.text n) g.0 in
        let i : place_of_name (bytes_of c.text n) names ≡ k = cc in
        (sym i ∙ ap (λ x. place_of_name x names) (sym e), ap (λ x. list_any (bytes_eq x) names) e ∙ h.1)

-- ---- results

value_result : (t : Ty) → is_array (value_type t) ≡ false → is_struct_or_mutex (value_type t) ≡ false → IsResult (value_type t)
value_result void h k = tt
value_result (integer t) h k = tt
value_result (atomic t) h k = tt
value_result (pointer t) h k = tt
value_result mutex h k = absurd cc
value_result (array t n) h k = absurd cc
value_result (structure n) h k = absurd cc

result_good : (s : List Layout) (place : ℕ) (t : Ty) → Ready s t → OnTyped (λ u. IsResult u × Ready s u) (result_type place (value_type t))
result_good s place t h = by (is_array (value_type t)) (is_struct_or_mutex (value_type t)) refl refl
  where
    by : (a b : Bool) → is_array (value_type t) ≡ a → is_struct_or_mutex (value_type t) ≡ b → OnTyped (λ u. IsResult u × Ready s u) (both (unless place TypeMismatch (not a)) (unless place (OutsideSubset 13) (not b)) >>= λ u. plain_type place (value_type t))
    by false false k l = plain_type_is (λ u. IsResult u × Ready s u) place (value_type t) (value_result t k l, value_ready s t h)
    by false true k l = tt
    by true false k l = tt
    by true true k l = tt

pub function_result : (s : List Layout) (base : Judged Ty) → OnTyped (Ready s) base → (place : ℕ) (pointers : List Pointer) → OnTyped (λ u. IsResult u × Ready s u) (result_of place base pointers)
function_result s base h place pointers =
    on_bind (Ready s) (λ u. IsResult u × Ready s u) base (λ t. result_type place (value_type (behind_pointers t pointers))) h (λ t k. result_good s place (behind_pointers t pointers) (behind_ready s t pointers k))

-- a function's result, whatever its type is made of
any_result : (place : ℕ) (t : Ty) → OnTyped IsResult (result_type place (value_type t))
any_result place t = by (is_array (value_type t)) (is_struct_or_mutex (value_type t)) refl refl
  where
    by : (a b : Bool) → is_array (value_type t) ≡ a → is_struct_or_mutex (value_type t) ≡ b → OnTyped IsResult (both (unless place TypeMismatch (not a)) (unless place (OutsideSubset 13) (not b)) >>= λ u. plain_type place (value_type t))
    by false false k l = plain_type_is IsResult place (value_type t) (value_result t k l)
    by false true k l = tt
    by true false k l = tt
    by true true k l = tt

is_result : (base : Judged Ty) (place : ℕ) (pointers : List Pointer) → OnTyped IsResult (result_of place base pointers)
is_result (typed t) place pointers = any_result place (behind_pointers t pointers)
is_result (faulty r rs) place pointers = tt

-- ---- a function, in a file

-- the body of a function that has one
pub record HasBody (r : Ty) (xs : List Param) (items : source.Stmts) (b : Context) (fs : List Func) : Type 0 where
  pub ss : List Stmt
  pub typed_body : (judged_stmts r in_function items b).0 ≡ typed ss
  pub made : fs ≡ func_of xs (judged_stmts r in_function items b).1.locals (judged_stmts r in_function items b).1.addressed r (stmts_of ss) ∷ []

pub has_body : (r : Ty) (xs : List Param) (body : source.Body) (b : Context) (fs : List Func) → (judged_body (typed xs) (typed r) (Some body) b).0 ≡ typed fs → HasBody r xs (source.stmts_of body.items) b fs
has_body r xs body b fs e =
    let x : Judged (List Stmt) × Context = judged_stmts r in_function (source.stmts_of body.items) b in
    let f = bind_is (both (both (typed xs) (typed r)) x.0) (λ p. typed (func_of p.0.0 x.1.locals x.1.addressed p.0.1 (stmts_of p.1) ∷ [])) fs e in
    let g = both_is (both (typed xs) (typed r)) x.0 f.0 f.1 in
    let h : (xs, r) ≡ f.0.0 = typed_same (xs, r) f.0.0 g.0 in
    record {
      ss = f.0.1;
      typed_body = g.1;
      made = sym (typed_same (func_of f.0.0.0 x.1.locals x.1.addressed f.0.0.1 (stmts_of f.0.1) ∷ []) fs f.2) ∙ ap (λ (p : List Param × Ty). func_of p.0 x.1.locals x.1.addressed p.1 (stmts_of f.0.1) ∷ []) (sym h);
    }

function_text : (around : Context) (params : List source.Param) → (judged_param_list params (before_params around)).1.text ≡ around.text
function_text around params = ap (λ (p : List ℕ × List Frame). p.0) (param_list_stays params (before_params around))

with_function_text : (c : Context) (names : List (List ℕ)) (n : Name) (ts : List Ty) (r : Ty) → (with_function c names n ts r).text ≡ c.text
with_function_text c names n ts r = ap (λ (p : List ℕ × List Frame). p.0) (declared_stays (with_name c n) n (function_name (place_of_name (bytes_of c.text n) names) ts r))

none_is : {A : Type 0} (fs : List A) → typed [] ≡ typed fs → fs ≡ []
none_is fs e = sym (typed_same [] fs e)

abbrev In : (around : Context) (params : List source.Param) (names : List (List ℕ)) (n : Name) (xs : List Param) (r : Ty) → Context
In around params names n xs r = with_function (back_to around (judged_param_list params (before_params around)).1) names n (map passed_type xs) r

abbrev Named : (around : Context) (params : List source.Param) (names : List (List ℕ)) (n : Name) (xs : List Param) (r : Ty) → Type 0
Named around params names n xs r =
    WasFunction (back_to around (judged_param_list params (before_params around)).1) n (In around params names n xs r) (map passed_type xs) r
    ⊎ IsNew (back_to around (judged_param_list params (before_params around)).1) names n (In around params names n xs r) (map passed_type xs) r

in_text : (around : Context) (params : List source.Param) (names : List (List ℕ)) (n : Name) (xs : List Param) (r : Ty) → (In around params names n xs r).text ≡ around.text
in_text around params names n xs r = with_function_text (back_to around (judged_param_list params (before_params around)).1) names n (map passed_type xs) r ∙ function_text around params

body_headed : (names : List (List ℕ)) (pointers : List Pointer) (n : Name) (params : List source.Param) (around : Context) (fs : List Func) (xs : List Param) (r : Ty) → Named around params names n xs r → IsResult r → (o : Option source.Body)
    → (judged_body (typed xs) (typed r) o (in_scope_of (judged_param_list params (before_params around)).1.inner (In around params names n xs r))).0 ≡ typed fs
    → Headed names around (body_behind (In around params names n xs r) n o (judged_body (typed xs) (typed r) o (in_scope_of (judged_param_list params (before_params around)).1.inner (In around params names n xs r))).1) (defined_name around.text (source.function pointers n params o)) fs
body_headed names pointers n params around fs xs r i g None m =
    subst (λ (ys : List Func). Headed names around (In around params names n xs r) [] ys) (sym (none_is fs m))
    (record {
      text = in_text around params names n xs r;
      seen = entry_seen (back_to around (judged_param_list params (before_params around)).1) names n (In around params names n xs r) (map passed_type xs) r i;
      placed = entry_placed (back_to around (judged_param_list params (before_params around)).1) names n (In around params names n xs r) (map passed_type xs) r i;
      heads = tt;
    })
body_headed names pointers n params around fs xs r i g (Some body) m =
    let p : Context = (judged_param_list params (before_params around)).1 in
    let d : Context = In around params names n xs r in
    let x : Judged (List Stmt) × Context = judged_stmts r in_function (source.stmts_of body.items) (in_scope_of p.inner d) in
    let h = has_body r xs body (in_scope_of p.inner d) fs m in
    let says = entry_says (back_to around p) names n d (map passed_type xs) r i in
    let s = signature_is xs x.1.locals x.1.addressed r (stmts_of h.ss) in
    subst (λ (ys : List Func). Headed names around (with_body (back_to d x.1) n) (bytes_of around.text n ∷ []) ys) (sym h.made)
    (record {
      text = ap (λ (p : List ℕ × List Frame). p.0) (stmts_stays r in_function (source.stmts_of body.items) (in_scope_of p.inner d)) ∙ in_text around params names n xs r;
      seen = entry_seen (back_to around p) names n d (map passed_type xs) r i;
      placed = entry_placed (back_to around p) names n d (map passed_type xs) r i;
      heads = (
        (says.0, ap (λ t. lookup (bytes_eq (bytes_of t n)) d.inner) (sym (function_text around params)) ∙ says.1 ∙ ap (λ (z : Signature). Some (function_name says.0 z.params z.result)) (sym s)),
        g,
        tt,
      );
    })

pub function_headed : (names : List (List ℕ)) (base : Judged Ty) (pointers : List Pointer) (n : Name) (params : List source.Param) (body : Option source.Body) (around : Context) (fs : List Func)
    → (judged_function names base pointers n params body around).0 ≡ typed fs → Headed names around (judged_function names base pointers n params body around).1 (defined_name around.text (source.function pointers n params body)) fs
function_headed names base pointers n params body around fs e =
    let f = is_function names base pointers n params body around fs e in
    let c : Context = back_to around (judged_param_list params (before_params around)).1 in
    subst (λ z. Headed names around z (defined_name around.text (source.function pointers n params body)) fs) (sym f.last)
    (body_headed names pointers n params around fs f.xs f.r (entry c names n body f.xs f.r (at_name c names n body f.name) f.type)
    (typed_given IsResult (result_of n.from base pointers) f.r (is_result base n.from pointers) f.result) body f.made)

-- ---- a file

rest_headed : (names : List (List ℕ)) (base : Judged Ty) (rest : source.Rest) (c : Context) (m : Made) → (judged_rest names base rest c).0 ≡ typed m → Headed names c (judged_rest names base rest c).1 (defined_name c.text rest) m.funcs
rest_headed names base source.nothing c m e = subst (λ (x : Made). Headed names c c [] x.funcs) (typed_same (record { globals = []; funcs = [] }) m e) (headed_still names c c (keeping_itself c))
rest_headed names base (source.function pointers n params body) c m e =
    let f = bind_is (judged_function names base pointers n params body c).0 (λ fs. typed (record { globals = []; funcs = fs })) m e in
    subst (λ (x : Made). Headed names c (judged_function names base pointers n params body c).1 (defined_name c.text (source.function pointers n params body)) x.funcs) (typed_same (record { globals = []; funcs = f.0 }) m f.2)
    (function_headed names base pointers n params body c f.0 f.1)
rest_headed names base (source.variables declarators) c m e =
    let f = bind_is (judged_globals base declarators c).0 (λ gs. typed (record { globals = gs; funcs = [] })) m e in
    subst (λ (x : Made). Headed names c (judged_globals base declarators c).1 [] x.funcs) (typed_same (record { globals = f.0; funcs = [] }) m f.2) (globals_headed names base declarators c)

-- names of types
alias_named : (names : List (List ℕ)) (d : Context) (n : Name) (t : Ty) → Headed names d (with_alias d n t) [] []
alias_named names d n t = by (is_double d n) (if is_double d n then d.aliases else d.aliases + 1)
  where
    by : (b : Bool) (k : ℕ) → Headed names d (record (if b then d else record d { inner = d.inner ++ (bytes_of d.text n, type_name t) ∷ [] }) { aliases = k }) [] []
    by true k = other_name names d (record d { aliases = k }) (bytes_of d.text n) (type_name t) refl (inl refl) (λ n ps r e. absurd cc)
    by false k = other_name names d (record d { inner = d.inner ++ (bytes_of d.text n, type_name t) ∷ []; aliases = k }) (bytes_of d.text n) (type_name t) refl (inr refl) (λ n ps r e. absurd cc)

alias_headed : (names : List (List ℕ)) (base : Judged Ty) (x : source.Declarator) (c : Context) → Headed names c (judged_alias base x c).1 [] []
alias_headed names base x c =
    headed_further names c (judged_declarator x c).1 (judged_alias base x c).1 [] [] [] [] (headed_still names c (judged_declarator x c).1 (declarator_still x c)) (alias_named names (judged_declarator x c).1 (name_of x) _)

aliases_headed : (names : List (List ℕ)) (base : Judged Ty) (xs : List source.Declarator) (c : Context) → Headed names c (judged_aliases base xs c).1 [] []
aliases_headed names base [] c = headed_still names c c (keeping_itself c)
aliases_headed names base (x ∷ xs) c = headed_further names c (judged_alias base x c).1 (judged_aliases base (x ∷ xs) c).1 [] [] [] [] (alias_headed names base x c) (aliases_headed names base xs (judged_alias base x c).1)

pub external_headed : (names : List (List ℕ)) (x : source.External) (c : Context) (m : Made) → (judged_external names x c).0 ≡ typed m → Headed names c (judged_external names x c).1 (defined_by c.text x) m.funcs
external_headed names (source.types_by specs declarators) c m e =
    let b : Judged Ty × Context = judged_specs (source.specs_of specs) c in
    let f = bind_is (behind_specs specs (λ base. judged_aliases base declarators) c).0 (λ u. typed no_objects) m e in
    subst (λ (y : Made). Headed names c (judged_aliases b.0 declarators b.1).1 [] y.funcs) (typed_same no_objects m f.2)
    (headed_further names c b.1 (judged_aliases b.0 declarators b.1).1 [] [] [] [] (headed_still names c b.1 (specs_still (source.specs_of specs) c)) (aliases_headed names b.0 declarators b.1))
external_headed names (source.external_of storage specs rest) c m e =
    let b : Judged Ty × Context = judged_specs (source.specs_of specs) c in
    let r : Judged Made × Context = judged_rest names b.0 rest b.1 in
    let f = bind_is (both b.0 r.0) (λ p. typed p.1) m e in
    let g = both_is b.0 r.0 f.0 f.1 in
    let h = rest_headed names b.0 rest b.1 f.0.1 g.1 in
    let t : b.1.text ≡ c.text = (specs_still (source.specs_of specs) c).text in
    headed_further names c b.1 r.1 [] (defined_name c.text rest) [] m.funcs (headed_still names c b.1 (specs_still (source.specs_of specs) c))
    (subst (λ (y : Made). Headed names b.1 r.1 (defined_name c.text rest) y.funcs) (typed_same f.0.1 m f.2) (subst (λ (u : List ℕ). Headed names b.1 r.1 (defined_name u rest) f.0.1.funcs) t h))

pub externals_headed : (names : List (List ℕ)) (xs : List source.External) (c : Context) (m : Made) → (judged_externals names xs c).0 ≡ typed m → Headed names c (judged_externals names xs c).1 (defined_names c.text xs) m.funcs
externals_headed names [] c m e = subst (λ (x : Made). Headed names c c [] x.funcs) (typed_same (record { globals = []; funcs = [] }) m e) (headed_still names c c (keeping_itself c))
externals_headed names (x ∷ xs) c m e =
    let d : Context = (judged_external names x c).1 in
    let f = bind_is (in_turn (judged_external names x) (judged_externals names xs) c).0 (λ p. typed (joined p.0 p.1)) m e in
    let g = both_is (judged_external names x c).0 (judged_externals names xs d).0 f.0 f.1 in
    let a = external_headed names x c f.0.0 g.0 in
    let b = externals_headed names xs d f.0.1 g.1 in
    let h = headed_further names c d (judged_externals names xs d).1 (defined_by c.text x) (defined_names d.text xs) f.0.0.funcs f.0.1.funcs a b in
    subst (λ (y : Made). Headed names c (judged_externals names xs d).1 (defined_names c.text (x ∷ xs)) y.funcs) (typed_same (joined f.0.0 f.0.1) m f.2)
    (subst (λ (u : List ℕ). Headed names c (judged_externals names xs d).1 (defined_by c.text x ++ defined_names u xs) (f.0.0.funcs ++ f.0.1.funcs)) a.text h)

-- ---- so the names of functions agree with the functions

abbrev pub Agrees : List Signature → Context → Type 0
Agrees fs c = (q : List ℕ) (n : ℕ) (ps : List Ty) (r : Ty) → lookup (bytes_eq q) c.inner ≡ Some (function_name n ps r) → slice_get fs n ≡ Some (record { params = ps; result = r })

head_at : (f : Frame) (qs : List (List ℕ)) (xs : List Func) → Heads f qs xs → (q : List ℕ) → list_any (bytes_eq q) qs ≡ true → (x : Func) × (slice_get xs (place_of_name q qs) ≡ Some x) × Says f q x
head_at f [] xs h q a = absurd cc
head_at f (p ∷ qs) [] h q a = absurd h
head_at f (p ∷ qs) (x ∷ xs) h q a = by (bytes_eq q p) refl a (head_at f qs xs h.2 q)
  where
    by : (b : Bool) → bytes_eq q p ≡ b → (b || list_any (bytes_eq q) qs) ≡ true → (list_any (bytes_eq q) qs ≡ true → (y : Func) × (slice_get xs (place_of_name q qs) ≡ Some y) × Says f q y)
        → (y : Func) × (slice_get (x ∷ xs) (if b then 0 else 1 + place_of_name q qs) ≡ Some y) × Says f q y
    by true e k r = (x, refl, subst (λ z. Says f z x) (sym (same_bytes_is q p e)) h.0)
    by false e k r =
        let g = r k in
        let i : 1 + place_of_name q qs ≡ suc (place_of_name q qs) = omega arith in
        (g.0, ap (slice_get (x ∷ xs)) i ∙ g.1, g.2)

pub agreed : (names : List (List ℕ)) (c : Context) (xs : List Func) → Heads c.inner names xs → ArePlaced names c → Agrees (map signature_of xs) c
agreed names c xs h p q n ps r l =
    let a = p q n ps r l in
    let b = head_at c.inner names xs h q a.1 in
    let e : Some (function_name n ps r) ≡ Some (function_name b.2.0 (signature_of b.0).params (signature_of b.0).result) = sym l ∙ b.2.1 in
    let i : ps ≡ (signature_of b.0).params = cc in
    let j : r ≡ (signature_of b.0).result = cc in
    slice_get-map signature_of xs n ∙ ap (λ k. option_map signature_of (slice_get xs k)) a.0 ∙ ap (option_map signature_of) b.1 ∙ ap (λ us. Some (record { params = us; result = b.0.result })) (sym i) ∙ ap (λ u. Some (record { params = ps; result = u })) (sym j)

pub all_results : (f : Frame) (qs : List (List ℕ)) (xs : List Func) → Heads f qs xs → (n : ℕ) (s : Signature) → slice_get (map signature_of xs) n ≡ Some s → IsResult s.result
all_results f qs [] h n s k = absurd (nothing_at n s k)
all_results f [] (x ∷ xs) h n s k = absurd h
all_results f (q ∷ qs) (x ∷ xs) h zero s k = let e : signature_of x ≡ s = cc in subst (λ (z : Signature). IsResult z.result) e h.1
all_results f (q ∷ qs) (x ∷ xs) h (suc n) s k = all_results f qs xs h.2 n s k

pub as_many : (f : Frame) (qs : List (List ℕ)) (xs : List Func) → Heads f qs xs → length qs ≡ length xs
as_many f [] [] h = refl
as_many f (q ∷ qs) (x ∷ xs) h = ap suc (as_many f qs xs h.2)
as_many f [] (x ∷ xs) h = absurd h
as_many f (q ∷ qs) [] h = absurd h
