-- Functions and files, judged where they stand.
use Rattle.std.proofs.Common.{◌≡◌, ℕ, zero, suc, ◌+◌, ◌<◌, ◌≤◌, ◌⊎◌, inl, inr, Bool, true, false, ◌||◌, not, refl, sym, ap, ◌∙◌, subst, arith, List, [], ◌∷◌, ◌++◌, length, map, take, filter, cond, Option, Some, None, slice_get, if◌then◌else◌, append_assoc, append-nil}
use Rattle.std.specs.List.{AllByRecursion, list_any}
use Rattle.std.specs.Map.{lookup}
use Rattle.std.specs.Option.{option_map}
use Rattle.std.specs.Str.{bytes_eq}
use Rattle.std.proofs.lemmas.List.{length-append}
use Rattle.std.proofs.lemmas.Option.{slice_get-map}
use Rattle.c_lex.specs.declared.refusal.Kind.TheVariants.{DoubleName}
use Rattle.c_tree.specs.declared.syntax.Name.{Name}
use Rattle.c_tree.specs.declared.syntax.Pointer.{Pointer}
use Rattle.c_tree.specs.Syntax as source
use Rattle.c_tree.specs.Typed.{Ty, Layout, Local, GlobalVar, Func, Typed, Stmt, stmts_of}
use Rattle.c_tree.specs.TypedLayout.{greatest_object}
use Rattle.c_tree.specs.TypedForm.{in_function, IsScalar, IsResult, IsLocal, AreWell, Signature, signature_of, IsFunc}
use Rattle.c_tree.specs.TypedForm as form
use Rattle.c_typing.specs.Faults.{Judged, typed, both, ◌>>=◌}
use Rattle.c_typing.specs.Scope.{Binding, global_name, local_name, function_name, enumerator_name, type_name, library_name, Frame, Context, bytes_of, or_else, found, is_double, declared, back_to}
use Rattle.c_typing.specs.Judgement.{in_turn, judged_specs}
use Rattle.c_typing.specs.Statements.{judged_stmts}
use Rattle.c_typing.specs.Numbering.{Param, passed_type, is_block, is_in, func_of, locals_from}
use Rattle.c_typing.specs.Programs.{judged_globals, judged_param_list, place_of_name, one_body, with_name, with_function, before_params, in_scope_of, judged_body, body_behind, judged_function, result_of, judged_aliases, no_objects, Made, joined, judged_rest, judged_external, judged_externals}
use Rattle.c_typing.specs.Laws.{IsBodyWritten, IsExternalWritten}
use Rattle.c_typing.proofs.Extending.{Extends, extends_itself, extends_further, Ready, AreSmall, ready_kept, sized_kept}
use Rattle.c_typing.proofs.Elements.{nothing_at, any_left, any_last}
use Rattle.c_typing.proofs.Carried.{OnTyped, on_unless, on_weaker, World, since, good_since, IsNamed, visible, Good, Grows, grows_further, within_itself, Over, After}
use Rattle.c_typing.proofs.Own.{own, over_own, as_local, local_at, local_is, block_in}
use Rattle.c_typing.proofs.JudgedWell.{judged_specs_keeps}
use Rattle.c_typing.proofs.WalkedWell.{found_last, stmts_keep, stmts_well, AreFineStmts}
use Rattle.c_typing.proofs.RenumberedWell.{with_locals}
use Rattle.c_typing.proofs.FunctionWell.{AreFirst, all_locals, body_well, locals_well, few_locals, params_within, in_registers, same_locals}
use Rattle.c_typing.proofs.ParamsWell.{Params, param_list_after}
use Rattle.c_typing.proofs.GlobalsWell.{NotLocal, Free, Globals, globals_still, globals_after, globals_since, AreHeld, held_kept}
use Rattle.c_typing.proofs.AliasesWell.{aliases_after}
use Rattle.c_typing.proofs.HeadsWell.{typed_given, both_is, bind_is, same_bytes_is, bytes_same, new_name, is_function, at_name, WasFunction, IsNew, entry, has_body, function_result, Agrees, externals_headed}

-- the functions of the whole program, outside each of them, and inside of one
abbrev pub W : List Signature → ℕ → World
W fs k = record { funcs = fs; params = k; structs = [] }

named_world : (fs : List Signature) (k j : ℕ) (c d : Context) → Extends c.structs d.structs → ((n : ℕ) (t : Ty) → slice_get c.globals n ≡ Some t → slice_get d.globals n ≡ Some t) → ((n : ℕ) (t : Ty) → slice_get c.locals n ≡ Some t → slice_get d.locals n ≡ Some t) → (m : Binding) → IsNamed (W fs k) c m → IsNamed (W fs j) d m
named_world fs k j c d x f g (global_name n t) h = f n t h
named_world fs k j c d x f g (local_name n t) h = g n t h
named_world fs k j c d x f g (function_name n ps r) h = (h.0, ready_kept c.structs d.structs x r h.1)
named_world fs k j c d x f g (enumerator_name value) h = h
named_world fs k j c d x f g (type_name t) h = ready_kept c.structs d.structs x t h
named_world fs k j c d x f g (library_name which) h = h

named_free : (fs : List Signature) (k j : ℕ) (c d : Context) → Extends c.structs d.structs → ((n : ℕ) (t : Ty) → slice_get c.globals n ≡ Some t → slice_get d.globals n ≡ Some t) → (m : Binding) → NotLocal m → IsNamed (W fs k) c m → IsNamed (W fs j) d m
named_free fs k j c d x f (global_name n t) l h = f n t h
named_free fs k j c d x f (local_name n t) l h = absurd l
named_free fs k j c d x f (function_name n ps r) l h = (h.0, ready_kept c.structs d.structs x r h.1)
named_free fs k j c d x f (enumerator_name value) l h = h
named_free fs k j c d x f (type_name t) l h = ready_kept c.structs d.structs x t h
named_free fs k j c d x f (library_name which) l h = h

-- ---- how many functions there are

abbrev pub count_in : (bodies names : List (List ℕ)) → ℕ
count_in bodies names = length (filter (λ x. list_any (bytes_eq x) bodies) names)

count_cons : (x : List ℕ) (a b : List (List ℕ)) (p q : Bool) → (p ≡ true → q ≡ true) → length a ≤ length b → length (cond p (x ∷ a) a) ≤ length (cond q (x ∷ b) b)
count_cons x a b true true f h = omega (arith, h)
count_cons x a b true false f h = let e : false ≡ true = f refl in absurd cc
count_cons x a b false true f h = omega (arith, h)
count_cons x a b false false f h = h

count_next : (x : List ℕ) (a b : List (List ℕ)) (p q : Bool) → (p ≡ true → q ≡ true) → length a + 1 ≤ length b → length (cond p (x ∷ a) a) + 1 ≤ length (cond q (x ∷ b) b)
count_next x a b true true f h = omega (arith, h)
count_next x a b true false f h = let e : false ≡ true = f refl in absurd cc
count_next x a b false true f h = omega (arith, h)
count_next x a b false false f h = h

pub count_le : (bodies names : List (List ℕ)) → count_in bodies names ≤ length names
count_le bodies [] = omega arith
count_le bodies (x ∷ names) = by (list_any (bytes_eq x) bodies) (count_le bodies names)
  where
    by : (b : Bool) → count_in bodies names ≤ length names → length (cond b (x ∷ filter (λ y. list_any (bytes_eq y) bodies) names) (filter (λ y. list_any (bytes_eq y) bodies) names)) ≤ suc (length names)
    by true h = omega (arith, h)
    by false h = omega (arith, h)

count_append : (bodies names : List (List ℕ)) (q : List ℕ) → count_in bodies names ≤ count_in bodies (names ++ q ∷ [])
count_append bodies [] q = omega arith
count_append bodies (x ∷ names) q = count_cons x (filter (λ y. list_any (bytes_eq y) bodies) names) (filter (λ y. list_any (bytes_eq y) bodies) (names ++ q ∷ [])) (list_any (bytes_eq x) bodies) (list_any (bytes_eq x) bodies) (λ e. e) (count_append bodies names q)

count_body : (bodies names : List (List ℕ)) (q : List ℕ) → count_in bodies names ≤ count_in (bodies ++ q ∷ []) names
count_body bodies [] q = omega arith
count_body bodies (x ∷ names) q = count_cons x (filter (λ y. list_any (bytes_eq y) bodies) names) (filter (λ y. list_any (bytes_eq y) (bodies ++ q ∷ [])) names) (list_any (bytes_eq x) bodies) (list_any (bytes_eq x) (bodies ++ q ∷ [])) (any_left (bytes_eq x) bodies (q ∷ [])) (count_body bodies names q)

count_more : (bodies names : List (List ℕ)) (q : List ℕ) → list_any (bytes_eq q) names ≡ true → list_any (bytes_eq q) bodies ≡ false → count_in bodies names + 1 ≤ count_in (bodies ++ q ∷ []) names
count_more bodies [] q h k = absurd cc
count_more bodies (x ∷ names) q h k = by (bytes_eq q x) refl h (count_more bodies names q)
  where
    first : (p r : Bool) → p ≡ false → r ≡ true → length (filter (λ y. list_any (bytes_eq y) bodies) names) ≤ length (filter (λ y. list_any (bytes_eq y) (bodies ++ q ∷ [])) names)
        → length (cond p (x ∷ filter (λ y. list_any (bytes_eq y) bodies) names) (filter (λ y. list_any (bytes_eq y) bodies) names)) + 1 ≤ length (cond r (x ∷ filter (λ y. list_any (bytes_eq y) (bodies ++ q ∷ [])) names) (filter (λ y. list_any (bytes_eq y) (bodies ++ q ∷ [])) names))
    first false true e f h = omega (arith, h)
    first true r e f h = absurd cc
    first false false e f h = absurd cc

    by : (c : Bool) → bytes_eq q x ≡ c → (c || list_any (bytes_eq q) names) ≡ true → (list_any (bytes_eq q) names ≡ true → list_any (bytes_eq q) bodies ≡ false → count_in bodies names + 1 ≤ count_in (bodies ++ q ∷ []) names)
        → count_in bodies (x ∷ names) + 1 ≤ count_in (bodies ++ q ∷ []) (x ∷ names)
    by true e g f =
        let i : q ≡ x = same_bytes_is q x e in
        first (list_any (bytes_eq x) bodies) (list_any (bytes_eq x) (bodies ++ q ∷ [])) (ap (λ z. list_any (bytes_eq z) bodies) (sym i) ∙ k) (any_last (bytes_eq x) bodies q (ap (λ z. bytes_eq z q) (sym i) ∙ bytes_same q)) (count_body bodies names q)
    by false e g f = count_next x (filter (λ y. list_any (bytes_eq y) bodies) names) (filter (λ y. list_any (bytes_eq y) (bodies ++ q ∷ [])) names) (list_any (bytes_eq x) bodies) (list_any (bytes_eq x) (bodies ++ q ∷ [])) (any_left (bytes_eq x) bodies (q ∷ [])) (f g k)

-- ---- at file scope

pub record FileGood (fs : List Signature) (c : Context) : Type 0 where
  pub good : Good (W fs 0) c
  pub free : Free c
  pub outer : c.outer ≡ []
  pub known : (q : List ℕ) (n : ℕ) (ps : List Ty) (r : Ty) → lookup (bytes_eq q) c.inner ≡ Some (function_name n ps r) → list_any (bytes_eq q) c.functions ≡ true
  pub few_functions : length c.functions ≤ 8192
  pub counted : length c.bodies ≤ count_in c.bodies c.functions
  pub few_globals : length c.globals ≤ 4096

-- the tree of the whole program, which holds all that a context has shown
pub record Final (fs : List Signature) (d : Context) (t : Typed) : Type 0 where
  pub funcs : map signature_of t.funcs ≡ fs
  pub structs : Extends d.structs t.structs
  pub globals : (n : ℕ) (u : Ty) → slice_get d.globals n ≡ Some u → slice_get (map (λ (g : GlobalVar). g.ty) t.globals) n ≡ Some u
  pub literals : (n : ℕ) (bs : List ℕ) → slice_get d.literals n ≡ Some bs → slice_get t.literals n ≡ Some bs
  pub small : AreSmall t.structs
  pub members : (n : ℕ) (l : Layout) → slice_get t.structs n ≡ Some l → (m : ℕ) (u : Ty) → slice_get l.types m ≡ Some u → Ready t.structs u
  pub ready : (n : ℕ) (u : Ty) → slice_get (map (λ (g : GlobalVar). g.ty) t.globals) n ≡ Some u → Ready t.structs u
  pub some : (n : ℕ) (bs : List ℕ) → slice_get t.literals n ≡ Some bs → (0 < length bs) × (length bs ≤ greatest_object)

final_before : (fs : List Signature) (c d : Context) (t : Typed) → Grows c d → Final fs d t → Final fs c t
final_before fs c d t g f = record {
  funcs = f.funcs;
  structs = extends_further c.structs d.structs t.structs g.structs f.structs;
  globals = λ n u h. f.globals n u (g.globals n u h);
  literals = λ n bs h. f.literals n bs (g.literals n bs h);
  small = f.small;
  members = f.members;
  ready = f.ready;
  some = f.some;
}

pub record FileStep (fs : List Signature) (c d : Context) (m : Made) : Type 0 where
  pub good : FileGood fs d
  pub grows : Grows c d
  pub globals : d.globals ≡ c.globals ++ map (λ (g : GlobalVar). g.ty) m.globals
  pub held : AreHeld d.structs d.literals m.globals
  pub bodies : length d.bodies ≡ length c.bodies + length m.funcs
  pub funcs : (t : Typed) → Final fs d t → AllByRecursion (IsFunc t) m.funcs

map_append : (gs hs : List GlobalVar) → map (λ (g : GlobalVar). g.ty) (gs ++ hs) ≡ map (λ (g : GlobalVar). g.ty) gs ++ map (λ (g : GlobalVar). g.ty) hs
map_append [] hs = refl
map_append (g ∷ gs) hs = ap (λ ts. g.ty ∷ ts) (map_append gs hs)

all_append : {X : Type 0} (P : X → Type 0) (a b : List X) → AllByRecursion P a → AllByRecursion P b → AllByRecursion P (a ++ b)
all_append P [] b h k = k
all_append P (x ∷ a) b h k = (h.0, all_append P a b h.1 k)

step_further : (fs : List Signature) (b c d : Context) (m n : Made) → FileStep fs b c m → FileStep fs c d n → FileStep fs b d (joined m n)
step_further fs b c d m n f g =
    let h = f.bodies in
    let k = g.bodies in
    let l = length-append m.funcs n.funcs in
    record {
      good = g.good;
      grows = grows_further b c d f.grows g.grows;
      globals = g.globals ∙ ap (λ ts. ts ++ map (λ (x : GlobalVar). x.ty) n.globals) f.globals ∙ append_assoc b.globals (map (λ (x : GlobalVar). x.ty) m.globals) (map (λ (x : GlobalVar). x.ty) n.globals) ∙ ap (λ ts. b.globals ++ ts) (sym (map_append m.globals n.globals));
      held = all_append _ m.globals n.globals (held_kept c d g.grows m.globals f.held) g.held;
      bodies = omega (arith, h, k, l);
      funcs = λ t x. all_append (IsFunc t) m.funcs n.funcs (f.funcs t (final_before fs c d t g.grows x)) (g.funcs t x);
    }

globals_step : (fs : List Signature) (c d : Context) (gs : List GlobalVar) → FileGood fs c → Globals (W fs 0) c d gs → FileStep fs c d (record { globals = gs; funcs = [] })
globals_step fs c d gs f g = record {
  good = record {
    good = g.good;
    free = g.free f.free;
    outer = g.outer ∙ f.outer;
    known = λ q n ps r h. ap (list_any (bytes_eq q)) g.functions ∙ f.known q n ps r (g.no_functions q n ps r h);
    few_functions = subst (λ (x : List (List ℕ)). length x ≤ 8192) (sym g.functions) f.few_functions;
    counted = subst (λ (x : List (List ℕ)). length x ≤ count_in x d.functions) (sym g.bodies) (subst (λ (x : List (List ℕ)). length c.bodies ≤ count_in c.bodies x) (sym g.functions) f.counted);
    few_globals = g.few f.few_globals;
  };
  grows = g.grows;
  globals = g.globals;
  held = g.held;
  bodies = let e : length d.bodies ≡ length c.bodies = ap length g.bodies in omega (arith, e);
  funcs = λ t x. tt;
}

-- ---- a function

or_none : {A : Type 0} (o : Option A) → or_else o None ≡ o
or_none (Some x) = refl
or_none None = refl

-- what is visible at file scope
at_file : (c : Context) → c.outer ≡ [] → (q : List ℕ) → visible c q ≡ lookup (bytes_eq q) c.inner
at_file c e q = ap (λ (os : List Frame). or_else (lookup (bytes_eq q) c.inner) (found os q)) e ∙ or_none (lookup (bytes_eq q) c.inner)

start_good : (fs : List Signature) (c : Context) → FileGood fs c → Good (W fs 0) (before_params c)
start_good fs c f = record {
  results = f.good.results;
  since = f.good.since;
  numbered = f.good.numbered;
  names = λ q m h. by q m (sym (found_last c.outer c.inner q) ∙ h);
  layouts = f.good.layouts;
  apart = f.good.apart;
  members = f.good.members;
  unbegun = f.good.unbegun;
  tags = f.good.tags;
  begun = f.good.begun;
  literals = f.good.literals;
  globals = f.good.globals;
  locals = λ n t h. absurd (nothing_at n t h);
  plain = f.good.plain;
  small = f.good.small;
  params = omega arith;
  few = omega arith;
}
  where
    by : (q : List ℕ) (m : Binding) → visible c q ≡ Some m → IsNamed (W fs 0) (before_params c) m
    by q m h = named_free fs 0 0 c (before_params c) (extends_itself c.structs) (λ n t k. k) m (f.free q m (sym (at_file c f.outer q) ∙ h)) (f.good.names q m h)

-- behind a function's name
abbrev Behind : (around p : Context) → Frame → List (List ℕ) → Context
Behind around p x y = record p { inner = x; outer = around.outer; functions = y }

abbrev functions_with : Context → Name → List (List ℕ)
functions_with c n = if list_any (bytes_eq (bytes_of c.text n)) c.functions then c.functions else c.functions ++ bytes_of c.text n ∷ []

declared_is : (c : Context) (n : Name) (m : Binding) → declared c n m ≡ record c { inner = if is_double c n then c.inner else c.inner ++ (bytes_of c.text n, m) ∷ [] }
declared_is c n m = by (is_double c n)
  where
    by : (b : Bool) → (if b then c else record c { inner = c.inner ++ (bytes_of c.text n, m) ∷ [] }) ≡ record c { inner = if b then c.inner else c.inner ++ (bytes_of c.text n, m) ∷ [] }
    by true = refl
    by false = refl

abbrev inner_with : (around p : Context) (names : List (List ℕ)) (n : Name) (ts : List Ty) (r : Ty) → Frame
inner_with around p names n ts r = if is_double (with_name (back_to around p) n) n then around.inner else around.inner ++ (bytes_of p.text n, function_name (place_of_name (bytes_of p.text n) names) ts r) ∷ []

with_function_is : (around p : Context) (names : List (List ℕ)) (n : Name) (ts : List Ty) (r : Ty) → with_function (back_to around p) names n ts r ≡ Behind around p (inner_with around p names n ts r) (functions_with p n)
with_function_is around p names n ts r = declared_is (with_name (back_to around p) n) n (function_name (place_of_name (bytes_of p.text n) names) ts r)

-- what holds behind a function's name
record IsBehind (fs : List Signature) (names : List (List ℕ)) (around p : Context) (n : Name) (xs : List Param) (r : Ty) (x : Frame) (y : List (List ℕ)) : Type 0 where
  file : FileGood fs around
  given : Params (W fs 0) (before_params around) p xs
  agrees : Agrees fs (Behind around p x y)
  entry : WasFunction (back_to around p) n (Behind around p x y) (map passed_type xs) r ⊎ IsNew (back_to around p) names n (Behind around p x y) (map passed_type xs) r
  functions : y ≡ functions_with p n
  ready : Ready p.structs r

module _ (fs : List Signature) (names : List (List ℕ)) (around p : Context) (n : Name) (xs : List Param) (r : Ty) (x : Frame) (y : List (List ℕ)) (h : IsBehind fs names around p n xs r x y) where
  abbrev D : Context
  D = Behind around p x y

  same_globals : D.globals ≡ around.globals
  same_globals = h.given.within.1.globals

  named_before : (q : List ℕ) (m : Binding) → lookup (bytes_eq q) around.inner ≡ Some m → NotLocal m × IsNamed (W fs 0) D m
  named_before q m k =
      let l = h.file.free q m k in
      (l, named_free fs 0 0 around D h.given.within.0.structs (λ i t g. ap (λ ts. slice_get ts i) same_globals ∙ g) m l (h.file.good.names q m (at_file around h.file.outer q ∙ k)))

  named_here : (q : List ℕ) (m : Binding) → lookup (bytes_eq q) x ≡ Some m → NotLocal m × IsNamed (W fs 0) D m
  named_here q m k = by h.entry
    where
      new : IsNew (back_to around p) names n D (map passed_type xs) r → (lookup (bytes_eq q) around.inner ≡ Some m) ⊎ ((bytes_eq q (bytes_of p.text n) ≡ true) × (function_name (place_of_name (bytes_of p.text n) names) (map passed_type xs) r ≡ m)) → NotLocal m × IsNamed (W fs 0) D m
      new i (inl g) = named_before q m g
      new i (inr g) = subst (λ (z : Binding). NotLocal z × IsNamed (W fs 0) D z) g.1 (tt, (h.agrees q (place_of_name (bytes_of p.text n) names) (map passed_type xs) r (k ∙ ap Some (sym g.1)), h.ready))

      by : WasFunction (back_to around p) n D (map passed_type xs) r ⊎ IsNew (back_to around p) names n D (map passed_type xs) r → NotLocal m × IsNamed (W fs 0) D m
      by (inl i) = named_before q m (ap (lookup (bytes_eq q)) (sym i.2) ∙ k)
      by (inr i) = new i (new_name around.inner q (bytes_of p.text n) (function_name (place_of_name (bytes_of p.text n) names) (map passed_type xs) r) m (sym (ap (lookup (bytes_eq q)) i.3) ∙ k))

  named_visible : (q : List ℕ) (m : Binding) → visible D q ≡ Some m → NotLocal m × IsNamed (W fs 0) D m
  named_visible q m k = named_here q m (sym (at_file D h.file.outer q) ∙ k)

  behind_good : Good (W fs 0) D
  behind_good = record {
    results = h.given.good.results;
    since = h.given.good.since;
    numbered = h.given.good.numbered;
    names = λ q m k. (named_visible q m k).1;
    layouts = h.given.good.layouts;
    apart = h.given.good.apart;
    members = h.given.good.members;
    unbegun = h.given.good.unbegun;
    tags = h.given.good.tags;
    begun = h.given.good.begun;
    literals = h.given.good.literals;
    globals = h.given.good.globals;
    locals = h.given.good.locals;
    plain = h.given.good.plain;
    small = h.given.good.small;
    params = h.given.good.params;
    few = h.given.good.few;
  }

  locals_are : p.locals ≡ map (λ (z : Param). z.ty) xs
  locals_are = h.given.locals

  types_many : (zs : List Param) → length (map (λ (z : Param). z.ty) zs) ≡ length zs
  types_many [] = refl
  types_many (z ∷ zs) = ap suc (types_many zs)

  many : length p.locals ≡ length xs
  many = ap length locals_are ∙ types_many xs

  abbrev B : Context
  B = in_scope_of p.inner D

  body_good : Good (W fs (length xs)) B
  body_good = record {
    results = h.given.good.results;
    since = h.given.good.since;
    numbered = h.given.good.numbered;
    names = λ q m k. by q m (lookup (bytes_eq q) p.inner) refl (ap (or_else (lookup (bytes_eq q) p.inner)) (sym (found_last around.outer x q)) ∙ k);
    layouts = h.given.good.layouts;
    apart = h.given.good.apart;
    members = h.given.good.members;
    unbegun = h.given.good.unbegun;
    tags = h.given.good.tags;
    begun = h.given.good.begun;
    literals = h.given.good.literals;
    globals = h.given.good.globals;
    locals = h.given.good.locals;
    plain = h.given.good.plain;
    small = h.given.good.small;
    params = let e = many in omega (arith, e);
    few = h.given.good.few;
  }
    where
      by : (q : List ℕ) (m : Binding) (o : Option Binding) → lookup (bytes_eq q) p.inner ≡ o → or_else o (or_else (lookup (bytes_eq q) x) (found around.outer q)) ≡ Some m → IsNamed (W fs (length xs)) B m
      by q m (Some z) e k = named_world fs 0 (length xs) p B (extends_itself p.structs) (λ i t g. g) (λ i t g. g) m (h.given.good.names q m (ap (λ o. or_else o (found p.outer q)) e ∙ k))
      by q m None e k = named_world fs 0 (length xs) D B (extends_itself p.structs) (λ i t g. g) (λ i t g. g) m (named_visible q m k).1

  -- ---- the names of functions

  same_functions : p.functions ≡ around.functions
  same_functions = h.given.within.1.functions

  same_bodies : p.bodies ≡ around.bodies
  same_bodies = h.given.within.1.bodies

  in_here : list_any (bytes_eq (bytes_of p.text n)) y ≡ true
  in_here = ap (list_any (bytes_eq (bytes_of p.text n))) h.functions ∙ by (list_any (bytes_eq (bytes_of p.text n)) p.functions) refl
    where
      by : (b : Bool) → list_any (bytes_eq (bytes_of p.text n)) p.functions ≡ b → list_any (bytes_eq (bytes_of p.text n)) (if b then p.functions else p.functions ++ bytes_of p.text n ∷ []) ≡ true
      by true e = e
      by false e = any_last (bytes_eq (bytes_of p.text n)) p.functions (bytes_of p.text n) (bytes_same (bytes_of p.text n))

  still_here : (q : List ℕ) → list_any (bytes_eq q) around.functions ≡ true → list_any (bytes_eq q) y ≡ true
  still_here q a = ap (list_any (bytes_eq q)) h.functions ∙ by (list_any (bytes_eq (bytes_of p.text n)) p.functions)
    where
      by : (b : Bool) → list_any (bytes_eq q) (if b then p.functions else p.functions ++ bytes_of p.text n ∷ []) ≡ true
      by true = ap (list_any (bytes_eq q)) same_functions ∙ a
      by false = any_left (bytes_eq q) p.functions (bytes_of p.text n ∷ []) (ap (list_any (bytes_eq q)) same_functions ∙ a)

  known_here : (q : List ℕ) (k : ℕ) (ps : List Ty) (s : Ty) → lookup (bytes_eq q) x ≡ Some (function_name k ps s) → list_any (bytes_eq q) y ≡ true
  known_here q k ps s l = by h.entry
    where
      new : (lookup (bytes_eq q) around.inner ≡ Some (function_name k ps s)) ⊎ ((bytes_eq q (bytes_of p.text n) ≡ true) × (function_name (place_of_name (bytes_of p.text n) names) (map passed_type xs) r ≡ function_name k ps s)) → list_any (bytes_eq q) y ≡ true
      new (inl g) = still_here q (h.file.known q k ps s g)
      new (inr g) = ap (λ z. list_any (bytes_eq z) y) (same_bytes_is q (bytes_of p.text n) g.0) ∙ in_here

      by : WasFunction (back_to around p) n D (map passed_type xs) r ⊎ IsNew (back_to around p) names n D (map passed_type xs) r → list_any (bytes_eq q) y ≡ true
      by (inl i) = still_here q (h.file.known q k ps s (ap (lookup (bytes_eq q)) (sym i.2) ∙ l))
      by (inr i) = new (new_name around.inner q (bytes_of p.text n) (function_name (place_of_name (bytes_of p.text n) names) (map passed_type xs) r) (function_name k ps s) (sym (ap (lookup (bytes_eq q)) i.3) ∙ l))

  few_here : length y ≤ 8192
  few_here = subst (λ (z : List (List ℕ)). length z ≤ 8192) (sym h.functions) (by (list_any (bytes_eq (bytes_of p.text n)) p.functions) refl h.entry)
    where
      by : (b : Bool) → list_any (bytes_eq (bytes_of p.text n)) p.functions ≡ b → WasFunction (back_to around p) n D (map passed_type xs) r ⊎ IsNew (back_to around p) names n D (map passed_type xs) r
          → length (if b then p.functions else p.functions ++ bytes_of p.text n ∷ []) ≤ 8192
      by true e i = subst (λ (z : List (List ℕ)). length z ≤ 8192) (sym same_functions) h.file.few_functions
      by false e (inl i) =
          let k : list_any (bytes_eq (bytes_of p.text n)) p.functions ≡ true = ap (list_any (bytes_eq (bytes_of p.text n))) same_functions ∙ h.file.known (bytes_of p.text n) i.0 (map passed_type xs) r i.1 in
          let l : true ≡ false = sym k ∙ e in
          absurd cc
      by false e (inr i) = let k = i.2 in let l = length-append p.functions (bytes_of p.text n ∷ []) in omega (arith, k, l)

  counted_before : length p.bodies ≤ count_in p.bodies p.functions
  counted_before = subst (λ (z : List (List ℕ)). length z ≤ count_in z p.functions) (sym same_bodies) (subst (λ (z : List (List ℕ)). length around.bodies ≤ count_in around.bodies z) (sym same_functions) h.file.counted)

  counted_here : length p.bodies ≤ count_in p.bodies y
  counted_here = subst (λ (z : List (List ℕ)). length p.bodies ≤ count_in p.bodies z) (sym h.functions) (by (list_any (bytes_eq (bytes_of p.text n)) p.functions))
    where
      by : (b : Bool) → length p.bodies ≤ count_in p.bodies (if b then p.functions else p.functions ++ bytes_of p.text n ∷ [])
      by true = counted_before
      by false = let k = count_append p.bodies p.functions (bytes_of p.text n) in let l = counted_before in omega (arith, k, l)

  free_here : Free D
  free_here q m k = (named_here q m k).0

  few_globals_here : length D.globals ≤ 4096
  few_globals_here = subst (λ (z : List Ty). length z ≤ 4096) (sym same_globals) h.file.few_globals

  params_grow : Grows around p
  params_grow = let g = h.given.within.0 in record { text = g.text; structs = g.structs; begun = g.begun; begun_kept = g.begun_kept; count = g.count; literals = g.literals; globals = g.globals }

  -- ---- a function that has no body

  declared_step : FileStep fs around D (record { globals = []; funcs = [] })
  declared_step = record {
    good = record { good = behind_good; free = free_here; outer = h.file.outer; known = known_here; few_functions = few_here; counted = counted_here; few_globals = few_globals_here };
    grows = let g = params_grow in record { text = g.text; structs = g.structs; begun = g.begun; begun_kept = g.begun_kept; count = g.count; literals = g.literals; globals = g.globals };
    globals = same_globals ∙ sym (append-nil around.globals);
    held = tt;
    bodies = let e : length p.bodies ≡ length around.bodies = ap length same_bodies in omega (arith, e);
    funcs = λ t f. tt;
  }

  -- ---- a function with a body

  first_params : (z : Context) → ((i : ℕ) (t : Ty) → slice_get p.locals i ≡ Some t → slice_get z.locals i ≡ Some t) → length xs ≤ length z.locals → AreFirst xs z.locals
  first_params z f le = record {
    first = λ i q g. f i q.ty (ap (λ ts. slice_get ts i) locals_are ∙ slice_get-map (λ (z : Param). z.ty) xs i ∙ ap (option_map (λ (z : Param). z.ty)) g);
    scalar = λ i q g. scalars xs h.given.scalar i q g;
    within = le;
  }
    where
      scalars : (zs : List Param) → AllByRecursion (λ (z : Param). IsScalar (passed_type z)) zs → (i : ℕ) (q : Param) → slice_get zs i ≡ Some q → IsScalar (passed_type q)
      scalars [] a i q g = absurd (nothing_at i q g)
      scalars (z ∷ zs) a zero q g = let e : z ≡ q = cc in subst (λ (u : Param). IsScalar (passed_type u)) e a.0
      scalars (z ∷ zs) a (suc i) q g = scalars zs a.1 i q g

  few_params : length xs ≤ 16
  few_params = let a : length p.locals ≤ 16 = h.given.few (omega arith) in let e = many in omega (arith, a, e)

-- ---- a function's body, in the tree of the whole program

abbrev tree_of : Typed → Context → form.InScope
tree_of t z = record { structs = t.structs; globals = map (λ (g : GlobalVar). g.ty) t.globals; literals = t.literals; funcs = map signature_of t.funcs; locals = locals_from 0 z.addressed z.locals }

or_true : (a b : Bool) → b ≡ true → (a || b) ≡ true
or_true true b h = refl
or_true false b h = h

tree_over : (fs : List Signature) (k : ℕ) (z : Context) (t : Typed) → Good (W fs k) z → Final fs z t → Over (W fs k) z (tree_of t z)
tree_over fs k z t g f = record {
  sound = record {
    small = f.small;
    members = f.members;
    globals = f.ready;
    locals = λ n l h. let r = local_is 0 z.addressed z.locals n l h in subst (Ready t.structs) (sym (ap (λ (x : Local). x.ty) r.2)) (ready_kept z.structs t.structs f.structs r.0 (g.locals n r.0 r.1).1);
    blocks = λ n l h b. let r = local_is 0 z.addressed z.locals n l h in block_in l z.addressed (0 + n) r.0 r.2 b;
    literals = f.some;
    results = λ n s h. g.results n s (ap (λ (fs : List Signature). slice_get fs n) (sym f.funcs) ∙ h);
  };
  funcs = f.funcs;
  structs = f.structs;
  globals = f.globals;
  literals = f.literals;
  locals = λ n t h. (as_local z.addressed (0 + n) t, local_at 0 z.addressed z.locals n t h, refl);
  addressed = λ n l a h.
      let r = local_is 0 z.addressed z.locals n l h in
      let e : 0 + n ≡ n = omega arith in
      ap (λ (x : Local). x.in_memory) r.2 ∙ or_true (is_block r.0) (is_in (0 + n) z.addressed) (ap (λ m. is_in m z.addressed) e ∙ a);
}

function_well : (fs : List Signature) (z : Context) (t : Typed) (xs : List Param) (r : Ty) (ss : List Stmt) → Good (W fs (length xs)) z → Final fs z t → AreFirst xs z.locals → length xs ≤ 16 → IsResult r
    → AreFineStmts (W fs (length xs)) r in_function (tree_of t z) ss → IsFunc t (func_of xs z.locals z.addressed r (stmts_of ss))
function_well fs z t xs r ss g f first few result h = record {
  few_params = few;
  params = subst (λ (ls : List Local). length xs ≤ length ls) same (params_within xs z.locals z.addressed);
  in_registers = subst (λ (ls : List Local). AllByRecursion (λ (l : Local). l.in_memory ≡ false) (take (length xs) ls)) same (in_registers xs z.locals z.addressed);
  locals = subst (AllByRecursion (IsLocal t.structs)) same (locals_well t.structs xs z.locals z.addressed first (λ n u k. sized_kept z.structs t.structs f.structs u (g.locals n u k).0));
  few_locals = subst (λ (ls : List Local). length ls ≤ 1040) same (few_locals xs z.locals z.addressed first few g.few);
  result = result;
  body = subst (λ (ls : List Local). AreWell (record { context = with_locals (tree_of t z) ls; params = length xs; result = r }) in_function (func_of xs z.locals z.addressed r (stmts_of ss)).body) same
      (body_well (tree_of t z) xs z.locals z.addressed r (stmts_of ss) first (stmts_well (W fs (length xs)) r in_function (tree_of t z) ss h));
}
  where
    same : all_locals xs z.locals z.addressed ≡ (func_of xs z.locals z.addressed r (stmts_of ss)).locals
    same = same_locals xs z.locals z.addressed r (stmts_of ss)

body_false : (c : Context) (n : Name) (b : source.Body) → one_body c n (Some b) ≡ typed (tt {0}) → list_any (bytes_eq (bytes_of c.text n)) c.bodies ≡ false
body_false c n b e = by (list_any (bytes_eq (bytes_of c.text n)) c.bodies) (typed_given (λ u. not (list_any (bytes_eq (bytes_of c.text n)) c.bodies) ≡ true) (one_body c n (Some b)) tt (on_unless n.from DoubleName (not (list_any (bytes_eq (bytes_of c.text n)) c.bodies))) e)
  where
    by : (b : Bool) → not b ≡ true → b ≡ false
    by true k = absurd cc
    by false k = refl

-- behind a body
abbrev Closed : (around z : Context) → Frame → Name → Context
Closed around z x n = record z { inner = x; outer = around.outer; bodies = z.bodies ++ bytes_of z.text n ∷ [] }

-- where its name had no body before, that is what is left behind it
closed_is : (around z p : Context) (x : Frame) (n : Name) → z.text ≡ p.text → z.bodies ≡ p.bodies → list_any (bytes_eq (bytes_of p.text n)) p.bodies ≡ false
    → Closed around z x n ≡ record z { inner = x; outer = around.outer; bodies = if list_any (bytes_eq (bytes_of z.text n)) z.bodies then z.bodies else z.bodies ++ bytes_of z.text n ∷ [] }
closed_is around z p x n text bodies fresh =
    ap (λ b. record z { inner = x; outer = around.outer; bodies = if b then z.bodies else z.bodies ++ bytes_of z.text n ∷ [] }) (sym unseen)
  where
    unseen : list_any (bytes_eq (bytes_of z.text n)) z.bodies ≡ false
    unseen = ap (λ t. list_any (bytes_eq (bytes_of t n)) z.bodies) text ∙ ap (list_any (bytes_eq (bytes_of p.text n))) bodies ∙ fresh

defined_step : (fs : List Signature) (names : List (List ℕ)) (around p : Context) (n : Name) (xs : List Param) (r : Ty) (x : Frame) (y : List (List ℕ)) (h : IsBehind fs names around p n xs r x y)
    → (z : Context) (ss : List Stmt) → After (W fs (length xs)) false (in_scope_of p.inner (Behind around p x y)) z (λ e. AreFineStmts (W fs (length xs)) r in_function e ss) → list_any (bytes_eq (bytes_of p.text n)) p.bodies ≡ false → IsResult r
    → FileStep fs around (Closed around z x n) (record { globals = []; funcs = func_of xs z.locals z.addressed r (stmts_of ss) ∷ [] })
defined_step fs names around p n xs r x y h z ss a fresh result = record {
  good = record {
    good = closed_good;
    free = free_here fs names around p n xs r x y h;
    outer = h.file.outer;
    known = λ q k ps s l. ap (list_any (bytes_eq q)) a.within.1.functions ∙ known_here fs names around p n xs r x y h q k ps s l;
    few_functions = subst (λ (v : List (List ℕ)). length v ≤ 8192) (sym a.within.1.functions) (few_here fs names around p n xs r x y h);
    counted = counted;
    few_globals = subst (λ (v : List Ty). length v ≤ 4096) (sym a.within.1.globals) (few_globals_here fs names around p n xs r x y h);
  };
  grows = closed_grows;
  globals = a.within.1.globals ∙ same_globals fs names around p n xs r x y h ∙ sym (append-nil around.globals);
  held = tt;
  bodies =
      let e : length z.bodies ≡ length around.bodies = ap length (a.within.1.bodies ∙ same_bodies fs names around p n xs r x y h) in
      let k = length-append z.bodies (bytes_of z.text n ∷ []) in
      omega (arith, e, k);
  funcs = λ t f. (function_well fs z t xs r ss a.good (there t f) (first_params fs names around p n xs r x y h z a.within.1.locals a.good.params) (few_params fs names around p n xs r x y h) result (a.fine (tree_of t z) (tree_over fs (length xs) z t a.good (there t f))), tt);
}
  where
    there : (t : Typed) → Final fs (Closed around z x n) t → Final fs z t
    there t f = record { funcs = f.funcs; structs = f.structs; globals = f.globals; literals = f.literals; small = f.small; members = f.members; ready = f.ready; some = f.some }

    closed_grows : Grows around (Closed around z x n)
    closed_grows =
        let g = params_grow fs names around p n xs r x y h in
        let k = a.within.0 in
        let b = g.count in
        let c = k.count in
        record {
          text = k.text ∙ g.text;
          structs = extends_further around.structs p.structs z.structs g.structs k.structs;
          begun = λ i e. k.begun i (g.begun i e);
          begun_kept = λ i l e f. k.begun_kept i l (g.begun i e) (g.begun_kept i l e f);
          count = omega (arith, b, c);
          literals = λ i bs e. k.literals i bs (g.literals i bs e);
          globals = λ i t e. k.globals i t (g.globals i t e);
        }

    named : (q : List ℕ) (m : Binding) → NotLocal m × IsNamed (W fs 0) (Behind around p x y) m → IsNamed (W fs 0) (Closed around z x n) m
    named q m k = named_free fs 0 0 (Behind around p x y) (Closed around z x n) a.within.0.structs a.within.0.globals m k.0 k.1

    closed_good : Good (W fs 0) (Closed around z x n)
    closed_good = record {
      results = a.good.results;
      since = a.good.since;
      numbered = a.good.numbered;
      names = λ q m k. named q m (named_visible fs names around p n xs r x y h q m k);
      layouts = a.good.layouts;
      apart = a.good.apart;
      members = a.good.members;
      unbegun = a.good.unbegun;
      tags = a.good.tags;
      begun = a.good.begun;
      literals = a.good.literals;
      globals = a.good.globals;
      locals = a.good.locals;
      plain = a.good.plain;
      small = a.good.small;
      params = omega arith;
      few = a.good.few;
    }

    counted : length (z.bodies ++ bytes_of z.text n ∷ []) ≤ count_in (z.bodies ++ bytes_of z.text n ∷ []) z.functions
    counted =
        let k = counted_here fs names around p n xs r x y h in
        let l = count_more p.bodies y (bytes_of p.text n) (in_here fs names around p n xs r x y h) fresh in
        let o = length-append p.bodies (bytes_of p.text n ∷ []) in
        let all : length (p.bodies ++ bytes_of p.text n ∷ []) ≤ count_in (p.bodies ++ bytes_of p.text n ∷ []) y = omega (arith, k, l, o) in
        subst (λ (v : List (List ℕ)). length (z.bodies ++ bytes_of z.text n ∷ []) ≤ count_in (z.bodies ++ bytes_of z.text n ∷ []) v) (sym a.within.1.functions)
        (subst (λ (u : List ℕ). length (z.bodies ++ bytes_of u n ∷ []) ≤ count_in (z.bodies ++ bytes_of u n ∷ []) y) (sym a.within.0.text)
        (subst (λ (v : List (List ℕ)). length (v ++ bytes_of p.text n ∷ []) ≤ count_in (v ++ bytes_of p.text n ∷ []) y) (sym a.within.1.bodies) all))

-- ---- a function, with a body or not

body_step : (fs : List Signature) (names : List (List ℕ)) (around p : Context) (n : Name) (xs : List Param) (r : Ty) (x : Frame) (y : List (List ℕ)) (h : IsBehind fs names around p n xs r x y) → (pointers : List Pointer) (params : List source.Param) (o : Option source.Body)
    → IsBodyWritten (source.function pointers n params o) → one_body (back_to around p) n o ≡ typed (tt {0}) → IsResult r → (gs : List Func) → (judged_body (typed xs) (typed r) o (in_scope_of p.inner (Behind around p x y))).0 ≡ typed gs
    → FileStep fs around (body_behind (Behind around p x y) n o (judged_body (typed xs) (typed r) o (in_scope_of p.inner (Behind around p x y))).1) (record { globals = []; funcs = gs })
body_step fs names around p n xs r x y h pointers params None a once result gs e =
    subst (λ (v : List Func). FileStep fs around (Behind around p x y) (record { globals = []; funcs = v })) (none_same gs e) (declared_step fs names around p n xs r x y h)
  where
    none_same : (gs : List Func) → typed [] ≡ typed gs → [] ≡ gs
    none_same gs e = cc
body_step fs names around p n xs r x y h pointers params (Some body) a once result gs e =
    let b : Context = in_scope_of p.inner (Behind around p x y) in
    let z : Context = (judged_stmts r in_function (source.stmts_of body.items) b).1 in
    let m = has_body r xs body b gs e in
    let k = typed_given (λ ss. After (W fs (length xs)) false b z (λ e. AreFineStmts (W fs (length xs)) r in_function e ss)) (judged_stmts r in_function (source.stmts_of body.items) b).0 m.ss
    ((stmts_keep (W fs (length xs)) r in_function (source.stmts_of body.items) a).keeps b (body_good fs names around p n xs r x y h)) m.typed_body in
    let fresh = body_false (back_to around p) n body once in
    subst (λ (d : Context). FileStep fs around d (record { globals = []; funcs = gs })) (closed_is around z p x n k.within.0.text k.within.1.bodies fresh)
    (subst (λ (v : List Func). FileStep fs around (Closed around z x n) (record { globals = []; funcs = v })) (sym m.made)
    (defined_step fs names around p n xs r x y h z m.ss k fresh result))

function_step : (fs : List Signature) (names : List (List ℕ)) (base : Judged Ty) (pointers : List Pointer) (n : Name) (params : List source.Param) (body : Option source.Body) (around : Context) → OnTyped (Ready around.structs) base → FileGood fs around
    → IsBodyWritten (source.function pointers n params body) → (gs : List Func) → (judged_function names base pointers n params body around).0 ≡ typed gs → Agrees fs (judged_function names base pointers n params body around).1
    → FileStep fs around (judged_function names base pointers n params body around).1 (record { globals = []; funcs = gs })
function_step fs names base pointers n params body around hb f a gs e agrees =
    let p : Context = (judged_param_list params (before_params around)).1 in
    let i = is_function names base pointers n params body around gs e in
    let ts : List Ty = map passed_type i.xs in
    let x : Frame = inner_with around p names n ts i.r in
    let y : List (List ℕ) = functions_with p n in
    let same : with_function (back_to around p) names n ts i.r ≡ Behind around p x y = with_function_is around p names n ts i.r in
    let at = at_name (back_to around p) names n body i.name in
    let result = typed_given (λ u. IsResult u × Ready around.structs u) (result_of n.from base pointers) i.r (function_result around.structs base hb n.from pointers) i.result in
    let given = typed_given (λ xs. Params (W fs 0) (before_params around) p xs) (judged_param_list params (before_params around)).0 i.xs (param_list_after (W fs 0) params (before_params around) (start_good fs around f)) i.given in
    let last : (judged_function names base pointers n params body around).1 ≡ body_behind (Behind around p x y) n body (judged_body (typed i.xs) (typed i.r) body (in_scope_of p.inner (Behind around p x y))).1
    = i.last ∙ ap (λ d. body_behind d n body (judged_body (typed i.xs) (typed i.r) body (in_scope_of p.inner d)).1) same in
    let made : (judged_body (typed i.xs) (typed i.r) body (in_scope_of p.inner (Behind around p x y))).0 ≡ typed gs = ap (λ d. (judged_body (typed i.xs) (typed i.r) body (in_scope_of p.inner d)).0) (sym same) ∙ i.made in
    let seen : Agrees fs (Behind around p x y) = agrees_before fs (Behind around p x y) (judged_function names base pointers n params body around).1 (ap (λ (c : Context). c.inner) last ∙ inner_behind (Behind around p x y) n body (judged_body (typed i.xs) (typed i.r) body (in_scope_of p.inner (Behind around p x y))).1) agrees in
    subst (λ z. FileStep fs around z (record { globals = []; funcs = gs })) (sym last)
    (body_step fs names around p n i.xs i.r x y
    (record {
      file = f;
      given = given;
      agrees = seen;
      entry = subst (λ d. WasFunction (back_to around p) n d ts i.r ⊎ IsNew (back_to around p) names n d ts i.r) same (entry (back_to around p) names n body i.xs i.r at i.type);
      functions = refl;
      ready = ready_kept around.structs p.structs given.within.0.structs i.r result.1;
    })
    pointers params body a at.body_at result.0 gs made)
  where
    agrees_before : (fs : List Signature) (c d : Context) → d.inner ≡ c.inner → Agrees fs d → Agrees fs c
    agrees_before fs c d e g q n ps r l = g q n ps r (ap (lookup (bytes_eq q)) e ∙ l)

    inner_behind : (d : Context) (n : Name) (o : Option source.Body) (z : Context) → (body_behind d n o z).inner ≡ d.inner
    inner_behind d n None z = refl
    inner_behind d n (Some body) z = refl

-- ---- a file

no_step : (fs : List Signature) (c : Context) → FileGood fs c → FileStep fs c c (record { globals = []; funcs = [] })
no_step fs c f = globals_step fs c c [] f (globals_still (W fs 0) c c f.good (within_itself true c))

-- what was declared from here on, with a type that is ready here
from_here : (fs : List Signature) (c : Context) (base : Judged Ty) (xs : List source.InitDeclarator) → OnTyped (Ready c.structs) base → Good (W fs 0) c → OnTyped (λ gs. Globals (W fs 0) c (judged_globals base xs c).1 gs) (judged_globals base xs c).0
from_here fs c base xs h g =
    on_weaker (λ gs. Globals (since (W fs 0) c.structs) c (judged_globals base xs c).1 gs) (λ gs. Globals (W fs 0) c (judged_globals base xs c).1 gs) (judged_globals base xs c).0
    (globals_after (since (W fs 0) c.structs) base h xs c (good_since (W fs 0) [] c.structs c (extends_itself c.structs) g))
    (λ gs k. globals_since (since (W fs 0) c.structs) [] c (judged_globals base xs c).1 gs (λ n l e. absurd (nothing_at n l e)) k)

types_here : (fs : List Signature) (c : Context) (base : Judged Ty) (xs : List source.Declarator) → OnTyped (Ready c.structs) base → Good (W fs 0) c → OnTyped (λ u. Globals (W fs 0) c (judged_aliases base xs c).1 []) (judged_aliases base xs c).0
types_here fs c base xs h g =
    on_weaker (λ u. Globals (since (W fs 0) c.structs) c (judged_aliases base xs c).1 []) (λ u. Globals (W fs 0) c (judged_aliases base xs c).1 []) (judged_aliases base xs c).0
    (aliases_after (since (W fs 0) c.structs) base h xs c (good_since (W fs 0) [] c.structs c (extends_itself c.structs) g))
    (λ u k. globals_since (since (W fs 0) c.structs) [] c (judged_aliases base xs c).1 [] (λ n l e. absurd (nothing_at n l e)) k)

ready_base : (fs : List Signature) (c b : Context) (t : Ty) (j : Judged Ty) → j ≡ typed t → After (W fs 0) true c b (λ e. Ready e.structs t) → OnTyped (Ready b.structs) j
ready_base fs c b t j e a = subst (OnTyped (Ready b.structs)) (sym e) (a.fine (own (W fs 0) b) (over_own (W fs 0) b a.good))

rest_step : (fs : List Signature) (names : List (List ℕ)) (base : Judged Ty) (rest : source.Rest) (c : Context) → OnTyped (Ready c.structs) base → FileGood fs c → IsBodyWritten rest → (m : Made) → (judged_rest names base rest c).0 ≡ typed m → Agrees fs (judged_rest names base rest c).1 → FileStep fs c (judged_rest names base rest c).1 m
rest_step fs names base source.nothing c hb f a m e g = subst (FileStep fs c c) (made_is (record { globals = []; funcs = [] }) m e) (no_step fs c f)
  where
    made_is : (m n : Made) → typed m ≡ typed n → m ≡ n
    made_is m n e = cc
rest_step fs names base (source.function pointers n params body) c hb f a m e g =
    let i = bind_is (judged_function names base pointers n params body c).0 (λ gs. typed (record { globals = []; funcs = gs })) m e in
    subst (FileStep fs c (judged_function names base pointers n params body c).1) (made_is (record { globals = []; funcs = i.0 }) m i.2) (function_step fs names base pointers n params body c hb f a i.0 i.1 g)
  where
    made_is : (m n : Made) → typed m ≡ typed n → m ≡ n
    made_is m n e = cc
rest_step fs names base (source.variables declarators) c hb f a m e g =
    let i = bind_is (judged_globals base declarators c).0 (λ gs. typed (record { globals = gs; funcs = [] })) m e in
    subst (FileStep fs c (judged_globals base declarators c).1) (made_is (record { globals = i.0; funcs = [] }) m i.2)
    (globals_step fs c (judged_globals base declarators c).1 i.0 f (typed_given (λ gs. Globals (W fs 0) c (judged_globals base declarators c).1 gs) (judged_globals base declarators c).0 i.0 (from_here fs c base declarators hb f.good) i.1))
  where
    made_is : (m n : Made) → typed m ≡ typed n → m ≡ n
    made_is m n e = cc

external_step : (fs : List Signature) (names : List (List ℕ)) (x : source.External) (c : Context) → FileGood fs c → IsExternalWritten x → (m : Made) → (judged_external names x c).0 ≡ typed m → Agrees fs (judged_external names x c).1 → FileStep fs c (judged_external names x c).1 m
external_step fs names (source.types_by specs declarators) c f a m e g =
    let b : Judged Ty × Context = judged_specs (source.specs_of specs) c in
    let r : Judged (Unit {0}) × Context = judged_aliases b.0 declarators b.1 in
    let h = bind_is (both b.0 r.0 >>= λ p. typed p.1) (λ u. typed no_objects) m e in
    let i = bind_is (both b.0 r.0) (λ p. typed p.1) h.0 h.1 in
    let j = both_is b.0 r.0 i.0 i.1 in
    let k = typed_given (λ t. After (W fs 0) true c b.1 (λ e. Ready e.structs t)) b.0 i.0.0 ((judged_specs_keeps (W fs 0) (source.specs_of specs)).keeps c f.good) j.0 in
    let first = globals_step fs c b.1 [] f (globals_still (W fs 0) c b.1 k.good k.within) in
    let named = typed_given (λ u. Globals (W fs 0) b.1 r.1 []) r.0 i.0.1 (types_here fs b.1 b.0 declarators (ready_base fs c b.1 i.0.0 b.0 j.0 k) k.good) j.1 in
    subst (FileStep fs c r.1) (made_is no_objects m h.2)
    (step_further fs c b.1 r.1 (record { globals = []; funcs = [] }) no_objects first (globals_step fs b.1 r.1 [] first.good named))
  where
    made_is : (m n : Made) → typed m ≡ typed n → m ≡ n
    made_is m n e = cc
external_step fs names (source.external_of storage specs rest) c f a m e g =
    let b : Judged Ty × Context = judged_specs (source.specs_of specs) c in
    let r : Judged Made × Context = judged_rest names b.0 rest b.1 in
    let i = bind_is (both b.0 r.0) (λ p. typed p.1) m e in
    let j = both_is b.0 r.0 i.0 i.1 in
    let k = typed_given (λ t. After (W fs 0) true c b.1 (λ e. Ready e.structs t)) b.0 i.0.0 ((judged_specs_keeps (W fs 0) (source.specs_of specs)).keeps c f.good) j.0 in
    let first = globals_step fs c b.1 [] f (globals_still (W fs 0) c b.1 k.good k.within) in
    subst (FileStep fs c r.1) (made_is i.0.1 m i.2)
    (step_further fs c b.1 r.1 (record { globals = []; funcs = [] }) i.0.1 first (rest_step fs names b.0 rest b.1 (ready_base fs c b.1 i.0.0 b.0 j.0 k) first.good a i.0.1 j.1 g))
  where
    made_is : (m n : Made) → typed m ≡ typed n → m ≡ n
    made_is m n e = cc

pub externals_step : (fs : List Signature) (names : List (List ℕ)) (xs : List source.External) (c : Context) → FileGood fs c → AllByRecursion IsExternalWritten xs → (m : Made) → (judged_externals names xs c).0 ≡ typed m → Agrees fs (judged_externals names xs c).1
    → FileStep fs c (judged_externals names xs c).1 m
externals_step fs names [] c f a m e g = subst (FileStep fs c c) (made_is (record { globals = []; funcs = [] }) m e) (no_step fs c f)
  where
    made_is : (m n : Made) → typed m ≡ typed n → m ≡ n
    made_is m n e = cc
externals_step fs names (x ∷ xs) c f a m e g =
    let d : Context = (judged_external names x c).1 in
    let i = bind_is (in_turn (judged_external names x) (judged_externals names xs) c).0 (λ p. typed (joined p.0 p.1)) m e in
    let j = both_is (judged_external names x c).0 (judged_externals names xs d).0 i.0 i.1 in
    let later = externals_headed names xs d i.0.1 j.1 in
    let first = external_step fs names x c f a.0 i.0.0 j.0 (λ q n ps r l. g q n ps r (later.seen q (function_name n ps r) l)) in
    subst (FileStep fs c (judged_externals names xs d).1) (made_is (joined i.0.0 i.0.1) m i.2)
    (step_further fs c d (judged_externals names xs d).1 i.0.0 i.0.1 first (externals_step fs names xs d first.good a.1 i.0.1 j.1 g))
  where
    made_is : (m n : Made) → typed m ≡ typed n → m ≡ n
    made_is m n e = cc
