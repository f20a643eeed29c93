-- Names, and calls of functions and of the library, give well formed nodes.
use Rattle.std.proofs.Common.{◌≡◌, ℕ, ◌⊎◌, inl, Bool, true, false, refl, sym, ap, ◌∙◌, subst, arith, List, [], ◌∷◌, ◌++◌, Option, Some, None, slice_get, nat_lt, nat_eq, if◌then◌else◌, IsTrue}
use Rattle.std.specs.List.{AllByRecursion}
use Rattle.std.specs.Map.{lookup}
use Rattle.std.specs.Str.{bytes_eq}
use Rattle.std.proofs.lemmas.Bool.Decides.{nat_tests}
use Rattle.std.proofs.lemmas.Int.{ints}
use Rattle.ak_words.specs.declared.int_type.IntType.{IntType}
use Rattle.ak_words.specs.Width.{is_width}
use Rattle.ak_words.specs.IntType.{int, unsigned_long, promoted_type}
use Rattle.c_tree.specs.declared.syntax.Name.{Name}
use Rattle.c_tree.specs.Typed.{Ty, void, integer, atomic, mutex, pointer, array, structure, Piece, bytes, signed, unsigned, hexadecimal, character, text, Expr, at, deref, convert, call, lib, Exprs, more_exprs, type_of, place_of, exprs_of}
use Rattle.c_tree.specs.Typed as trees
use Rattle.c_tree.specs.TypedForm.{IsPointer, IsPromoted, IsNth, HasBits, ArePrinted, CanStart, AreArguments, IsLibCall, IsTyped, AreTyped}
use Rattle.c_tree.specs.TypedForm as form
use Rattle.c_typing.specs.Faults.{Judged, typed, faulty, both, ◌>>=◌}
use Rattle.c_typing.specs.Scope.{Library, printf, malloc, calloc, realloc, free, memcpy, thrd_create, thrd_join, mtx_init, mtx_lock, mtx_unlock, mtx_destroy, atomic_store, atomic_load, atomic_add, atomic_sub, atomic_swap, atomic_compare, constant, atomic_type, library}
use Rattle.c_typing.specs.Scope.{Binding, global_name, local_name, function_name, enumerator_name, type_name, library_name, Context, bytes_of, meaning_of, or_else, found, of_library}
use Rattle.c_typing.specs.Rules.{value_of, converted, fitted_if, fitted_by, fitted, or_mismatch}
use Rattle.c_typing.specs.Formats.{number_for, text_for, before_argument, arguments_for}
use Rattle.c_typing.specs.Judgement.{named, before_fitted, fitted_all, called, called_lib, printed, started_by, started, plain_kind, init_by, atomic_at, atomic_params, atomic_result, called_atomic, loaded, called_library}
use Rattle.c_typing.proofs.Extending.{Ready}
use Rattle.c_typing.proofs.Carried.{OnTyped, OnSome, on_bind, on_both, on_mismatch, Plain, World, Good, Over, IsNamed, InLibrary}
use Rattle.c_typing.proofs.RuledWell.{Fine, Made, plain_ready, same_number, int_itself, Fitting, fits, converted_has, Has}

-- ---- names

find_all : {X : Type 0} (P : X → Type 0) (q : List ℕ → Bool) (es : List (List ℕ × X)) → AllByRecursion (λ (x : List ℕ × X). P x.1) es → OnSome P (lookup q es)
find_all P q [] h = tt
find_all {X} P q (x ∷ es) h = by (q x.0) (find_all P q es h.1)
  where
    by : (b : Bool) → OnSome P (lookup q es) → OnSome P (if b then Some x.1 else lookup q es)
    by true r = h.0
    by false r = r

library_fine : AllByRecursion (λ (x : List ℕ × Library). InLibrary x.1) library
unfolding library
library_fine = (tt, (tt, (tt, (tt, (tt, (tt, (tt, (tt, (tt, (tt, (tt, (tt, (tt, (tt, (tt, (tt, (tt, (tt, (tt, (tt, ((omega (arith, ints), omega (arith, ints)), ((omega (arith, ints), omega (arith, ints)), ((omega (arith, ints), omega (arith, ints)), (refl, (refl, (refl, (refl, tt)))))))))))))))))))))))))))

-- what a name means is as it must be
pub meaning_named : (w : World) (c : Context) → Good w c → (n : Name) → OnSome (IsNamed w c) (meaning_of c n)
meaning_named w c g n = by (lookup (bytes_eq q) c.inner) (found c.outer q) (lookup (bytes_eq q) library) (λ m h. g.names q m h) (find_all InLibrary (bytes_eq q) library library_fine)
  where
    q : List ℕ
    q = bytes_of c.text n

    by : (i f : Option Binding) (l : Option Library) → ((m : Binding) → or_else i f ≡ Some m → IsNamed w c m) → OnSome InLibrary l → OnSome (IsNamed w c) (or_else i (or_else f (of_library l)))
    by (Some m) f l h k = h m refl
    by None (Some m) l h k = h m refl
    by None None (Some which) h k = k
    by None None None h k = tt

pub named_made : (w : World) (d : Context) (e : form.InScope) → Over w d e → (place : ℕ) (o : Option Binding) → OnSome (IsNamed w d) o → OnTyped (Fine e) (named place o)
named_made w d e o place None h = tt
named_made w d e o place (Some (global_name n t)) h = (o.globals n t h, o.sound.globals n t (o.globals n t h))
named_made w d e o place (Some (local_name n t)) h =
    let k = o.locals n t h in (k, subst (Ready e.structs) k.2 (o.sound.locals n k.0 k.1))
named_made w d e o place (Some (function_name n params result)) h = tt
named_made w d e o place (Some (enumerator_name value)) h = ((refl, h), tt)
named_made w d e o place (Some (type_name t)) h = tt
named_made w d e o place (Some (library_name (constant value))) h = ((refl, h), tt)
named_made w d e o place (Some (library_name printf)) h = tt
named_made w d e o place (Some (library_name malloc)) h = tt
named_made w d e o place (Some (library_name calloc)) h = tt
named_made w d e o place (Some (library_name realloc)) h = tt
named_made w d e o place (Some (library_name free)) h = tt
named_made w d e o place (Some (library_name memcpy)) h = tt
named_made w d e o place (Some (library_name thrd_create)) h = tt
named_made w d e o place (Some (library_name thrd_join)) h = tt
named_made w d e o place (Some (library_name mtx_init)) h = tt
named_made w d e o place (Some (library_name mtx_lock)) h = tt
named_made w d e o place (Some (library_name mtx_unlock)) h = tt
named_made w d e o place (Some (library_name mtx_destroy)) h = tt
named_made w d e o place (Some (library_name atomic_store)) h = tt
named_made w d e o place (Some (library_name atomic_load)) h = tt
named_made w d e o place (Some (library_name atomic_add)) h = tt
named_made w d e o place (Some (library_name atomic_sub)) h = tt
named_made w d e o place (Some (library_name atomic_swap)) h = tt
named_made w d e o place (Some (library_name atomic_compare)) h = tt
named_made w d e o place (Some (library_name (atomic_type t))) h = tt

-- ---- arguments

abbrev pub AreFine : form.InScope → List Expr → Type 0
AreFine e es = AllByRecursion (Fine e) es

abbrev Passed : form.InScope → List Ty → List Expr → Type 0
Passed e ts es = AreTyped e (exprs_of es) × AreArguments ts (exprs_of es)

before_passed : (e : form.InScope) (t : Ty) (ts : List Ty) (o : Option Expr) (os : Option (List Expr)) → OnSome (Fitting e t) o → OnSome (Passed e ts) os → OnSome (Passed e (t ∷ ts)) (before_fitted o os)
before_passed e t ts (Some x) (Some es) h k = ((h.0, k.0), (h.1, k.1))
before_passed e t ts None os h k = tt
before_passed e t ts (Some x) None h k = tt

passed : (e : form.InScope) (ts : List Ty) (es : List Expr) → AreFine e es → OnSome (Passed e ts) (fitted_all ts es)
passed e [] [] h = (tt, tt)
passed e (t ∷ ts) (x ∷ es) h = before_passed e t ts (fitted t x) (fitted_all ts es) (fits e t x h.0.0) (passed e ts es h.1)
passed e [] (x ∷ es) h = tt
passed e (t ∷ ts) [] h = tt

pub called_made : (e : form.InScope) (place n : ℕ) (params : List Ty) (result : Ty) (args : List Expr) → Ready e.structs result → slice_get e.funcs n ≡ Some (record { params = params; result = result }) → AreFine e args
    → OnTyped (Made e) (called place n params result args)
called_made e place n params result args r f h =
    on_bind (Passed e params) (Made e) (or_mismatch place (fitted_all params args)) (λ es. typed (at place result (call n (exprs_of es))))
    (on_mismatch (Passed e params) place (fitted_all params args) (passed e params args h))
    (λ es p. (((p.0, (record { params = params; result = result }, f, (p.1, refl))), r), tt))

lib_made : (e : form.InScope) (place : ℕ) (which : trees.Lib) (params : List Ty) (result : Ty) (args : List Expr)
    → ((es : Exprs) → AreArguments params es → IsLibCall e which es result) → Plain result → AreFine e args → OnTyped (Made e) (called_lib place which params result args)
lib_made e place which params result args f r h =
    on_bind (Passed e params) (Made e) (or_mismatch place (fitted_all params args)) (λ es. typed (at place result (lib which (exprs_of es))))
    (on_mismatch (Passed e params) place (fitted_all params args) (passed e params args h))
    (λ es p. (((p.0, f (exprs_of es) p.1), plain_ready e.structs result r), tt))

init_made : (e : form.InScope) (place : ℕ) (args : List Expr) → AreFine e args → OnTyped (Made e) (init_by place args)
init_made e place [] h = tt
init_made e place (m ∷ []) h = tt
init_made e place (m ∷ kind ∷ []) h =
    on_bind (λ (p : Expr × Unit {0}). Made e p.0 × Unit {0}) (Made e) (both (called_lib place trees.mutex_init (pointer mutex ∷ []) (integer int) (m ∷ [])) (plain_kind kind)) (λ p. typed p.0)
    (on_both (Made e) (λ u. Unit {0}) (called_lib place trees.mutex_init (pointer mutex ∷ []) (integer int) (m ∷ [])) (plain_kind kind)
    (lib_made e place trees.mutex_init (pointer mutex ∷ []) (integer int) (m ∷ []) (λ es p. (p, refl)) tt (h.0, tt)) (any (plain_kind kind)))
    (λ p k. k.0)
  where
    any : (j : Judged (Unit {0})) → OnTyped (λ u. Unit {0}) j
    any (typed u) = tt
    any (faulty r rs) = tt
init_made e place (m ∷ kind ∷ other ∷ rest) h = tt

-- the first argument, fitted to the type that it has
itself_fits : (t : IntType) (x : Expr) → type_of x ≡ pointer (atomic t) → fitted (pointer (atomic t)) x ≡ Some x
itself_fits t x h = ap (λ s. fitted_by s (pointer (atomic t)) x) h ∙ ap (λ b. if b then Some x else fitted_if (at (place_of x) (pointer (pointer (atomic t))) (convert x)) false) (int_itself t)

abbrev Leads : Expr → IntType → Type 0
Leads x t = type_of x ≡ pointer (atomic t)

leads_at : (s : Ty) → OnSome (λ t. s ≡ pointer (atomic t)) (atomic_at s)
leads_at (pointer (atomic t)) = refl
leads_at _ = tt

-- a call on an atomic number, by the types behind the first argument
atomic_passed : (e : form.InScope) (place : ℕ) (which : trees.Lib) (t : IntType) (others : List Ty) (result : Ty) (x : Expr) (args : List Expr) → Leads x t
    → ((es : Exprs) → AreArguments others es → IsLibCall e which (more_exprs x es) result) → Plain result → AreFine e (x ∷ args) → OnTyped (Made e) (called_lib place which (pointer (atomic t) ∷ others) result (x ∷ args))
atomic_passed e place which t others result x args l f r h =
    subst (λ o. OnTyped (Made e) (or_mismatch place (before_fitted o (fitted_all others args)) >>= λ es. typed (at place result (lib which (exprs_of es))))) (sym (itself_fits t x l))
    (by (fitted_all others args) (passed e others args h.1))
  where
    by : (os : Option (List Expr)) → OnSome (Passed e others) os → OnTyped (Made e) (or_mismatch place (before_fitted (Some x) os) >>= λ es. typed (at place result (lib which (exprs_of es))))
    by (Some es) p = ((((h.0.0, p.0), f (exprs_of es) p.1), plain_ready e.structs result r), tt)
    by None p = tt

-- an atomic number to which what is well formed leads has 32 bits at least
leads_promoted : (e : form.InScope) (t : IntType) (x : Expr) → Fine e x → Leads x t → IsPromoted t
leads_promoted e t x h l = subst (Ready e.structs) l h.1

atomic_made : (e : form.InScope) (place : ℕ) (which : trees.Lib) (x : Expr) (args : List Expr)
    → ((t : IntType) → Leads x t → IsPromoted t → OnTyped (Made e) (called_lib place which (atomic_params which t) (atomic_result which t) (x ∷ args)))
    → AreFine e (x ∷ args) → OnTyped (Made e) (called_atomic place which (x ∷ args))
atomic_made e place which x args f h =
    on_bind (λ t. Leads x t) (Made e) (or_mismatch place (atomic_at (type_of x))) (λ t. called_lib place which (atomic_params which t) (atomic_result which t) (x ∷ args))
    (on_mismatch (λ t. Leads x t) place (atomic_at (type_of x)) (leads_at (type_of x)))
    (λ t l. f t l (leads_promoted e t x h.0 l))

loaded_made : (e : form.InScope) (place : ℕ) (args : List Expr) → AreFine e args → OnTyped (Made e) (loaded place args)
loaded_made e place [] h = tt
loaded_made e place (x ∷ []) h =
    on_bind (λ t. Leads x t) (Made e) (or_mismatch place (atomic_at (type_of x))) (λ t. typed (value_of (at place (atomic t) (deref x))))
    (on_mismatch (λ t. Leads x t) place (atomic_at (type_of x)) (leads_at (type_of x)))
    (λ t l. ((((h.0.0, l, inl tt), refl), tt), tt))
loaded_made e place (x ∷ y ∷ rest) h = tt

pub library_made : (e : form.InScope) (place : ℕ) (which : Library) (args : List Expr) → AreFine e args → OnTyped (Made e) (called_library place which args)
library_made e place malloc args h = lib_made e place trees.malloc (integer unsigned_long ∷ []) (pointer void) args (λ es p. (p, refl)) tt h
library_made e place calloc args h = lib_made e place trees.calloc (integer unsigned_long ∷ integer unsigned_long ∷ []) (pointer void) args (λ es p. (p, refl)) tt h
library_made e place realloc args h = lib_made e place trees.realloc (pointer void ∷ integer unsigned_long ∷ []) (pointer void) args (λ es p. (p, refl)) tt h
library_made e place free args h = lib_made e place trees.free (pointer void ∷ []) void args (λ es p. (p, refl)) tt h
library_made e place memcpy args h = lib_made e place trees.copy (pointer void ∷ pointer void ∷ integer unsigned_long ∷ []) (pointer void) args (λ es p. (p, refl)) tt h
library_made e place thrd_join args h = lib_made e place trees.join (integer unsigned_long ∷ pointer (integer int) ∷ []) (integer int) args (λ es p. (p, refl)) tt h
library_made e place mtx_init args h = init_made e place args h
library_made e place mtx_lock args h = lib_made e place trees.mutex_lock (pointer mutex ∷ []) (integer int) args (λ es p. (p, refl)) tt h
library_made e place mtx_unlock args h = lib_made e place trees.mutex_unlock (pointer mutex ∷ []) (integer int) args (λ es p. (p, refl)) tt h
library_made e place mtx_destroy args h = lib_made e place trees.mutex_destroy (pointer mutex ∷ []) void args (λ es p. (p, refl)) tt h
library_made e place atomic_load args h = loaded_made e place args h
library_made e place atomic_store [] h = tt
library_made e place atomic_store (x ∷ args) h = atomic_made e place trees.atomic_store x args (λ t l p. atomic_passed e place trees.atomic_store t (integer t ∷ []) void x args l (λ es q. (t, l, p, q, refl)) tt h) h
library_made e place atomic_add [] h = tt
library_made e place atomic_add (x ∷ args) h = atomic_made e place trees.atomic_add x args (λ t l p. atomic_passed e place trees.atomic_add t (integer t ∷ []) (integer t) x args l (λ es q. (t, l, p, q, refl)) tt h) h
library_made e place atomic_sub [] h = tt
library_made e place atomic_sub (x ∷ args) h = atomic_made e place trees.atomic_sub x args (λ t l p. atomic_passed e place trees.atomic_sub t (integer t ∷ []) (integer t) x args l (λ es q. (t, l, p, q, refl)) tt h) h
library_made e place atomic_swap [] h = tt
library_made e place atomic_swap (x ∷ args) h = atomic_made e place trees.atomic_swap x args (λ t l p. atomic_passed e place trees.atomic_swap t (integer t ∷ []) (integer t) x args l (λ es q. (t, l, p, q, refl)) tt h) h
library_made e place atomic_compare [] h = tt
library_made e place atomic_compare (x ∷ args) h = atomic_made e place trees.atomic_compare x args (λ t l p. atomic_passed e place trees.atomic_compare t (pointer (integer t) ∷ integer t ∷ []) (integer int) x args l (λ es q. (t, l, p, q, refl)) tt h) h
library_made e place (atomic_type t) args h = tt
library_made e place printf args h = tt
library_made e place thrd_create args h = tt
library_made e place (constant value) args h = tt

-- ---- printf

wide : (n : ℕ) → IsTrue (is_width n) → nat_lt n 32 ≡ false → (n ≡ 32) ⊎ (n ≡ 64)
wide n h k = grind (arith, nat_tests)

promoted_width : (t : IntType) → ((promoted_type t).bits ≡ 32) ⊎ ((promoted_type t).bits ≡ 64)
promoted_width t = by (nat_lt t.bits 32) refl
  where
    by : (b : Bool) → nat_lt t.bits 32 ≡ b → ((if b then int else t).bits ≡ 32) ⊎ ((if b then int else t).bits ≡ 64)
    by true h = inl refl
    by false h = wide t.bits t.known_width h

abbrev Numbered : form.InScope → ℕ → Expr → Type 0
Numbered e bits x = IsTyped e x × HasBits bits (type_of x)

number_fits : (e : form.InScope) (bits : ℕ) (s : Ty) (x : Expr) → Has e x s → OnSome (Numbered e bits) (number_for bits s x)
number_fits e bits (integer t) x h = by (nat_eq (promoted_type t).bits bits) refl
  where
    p : IntType
    p = promoted_type t

    by : (b : Bool) → nat_eq (promoted_type t).bits bits ≡ b → OnSome (Numbered e bits) (if b then Some (converted t (promoted_type t) x) else None)
    by true k =
        let c = converted_has e t (promoted_type t) x h in
        let is : (promoted_type t).bits ≡ bits = same_number (promoted_type t).bits bits k in
        (c.0, subst (HasBits bits) (sym c.1) (is, subst (λ n. (n ≡ 32) ⊎ (n ≡ 64)) is (promoted_width t)))
    by false k = tt
number_fits e bits void x h = tt
number_fits e bits (atomic t) x h = tt
number_fits e bits mutex x h = tt
number_fits e bits (pointer t) x h = tt
number_fits e bits (array t n) x h = tt
number_fits e bits (structure n) x h = tt

abbrev Texted : form.InScope → Expr → Type 0
Texted e x = IsTyped e x × IsPointer (type_of x)

text_fits : (e : form.InScope) (s : Ty) (x : Expr) → Has e x s → OnSome (Texted e) (text_for s x)
text_fits e (pointer (integer t)) x h = by (nat_eq t.bits 8)
  where
    by : (b : Bool) → OnSome (Texted e) (if b then Some x else None)
    by true = (h.0, subst IsPointer (sym h.1) tt)
    by false = tt
text_fits e _ x h = tt

abbrev Written : form.InScope → List Piece → List Expr → Type 0
Written e pieces es = AreTyped e (exprs_of es) × ArePrinted pieces (exprs_of es)

before_written : (e : form.InScope) (piece : Piece) (pieces : List Piece) (P : Expr → Type 0) (o : Option Expr) (os : Option (List Expr)) → OnSome (λ x. IsTyped e x × P x) o → OnSome (Written e pieces) os
    → ((x : Expr) (es : Exprs) → P x → ArePrinted pieces es → ArePrinted (piece ∷ pieces) (more_exprs x es)) → OnSome (Written e (piece ∷ pieces)) (before_argument o os)
before_written e piece pieces P (Some x) (Some es) h k f = ((h.0, k.0), f x (exprs_of es) h.1 k.1)
before_written e piece pieces P None os h k f = tt
before_written e piece pieces P (Some x) None h k f = tt

arguments_fit : (e : form.InScope) (pieces : List Piece) (es : List Expr) → AreFine e es → OnSome (Written e pieces) (arguments_for pieces es)
arguments_fit e [] [] h = (tt, tt)
arguments_fit e [] (x ∷ es) h = tt
arguments_fit e (bytes all ∷ pieces) es h = arguments_fit e pieces es h
arguments_fit e (signed bits ∷ pieces) [] h = tt
arguments_fit e (unsigned bits ∷ pieces) [] h = tt
arguments_fit e (hexadecimal bits ∷ pieces) [] h = tt
arguments_fit e (character ∷ pieces) [] h = tt
arguments_fit e (text ∷ pieces) [] h = tt
arguments_fit e (signed bits ∷ pieces) (x ∷ es) h = before_written e (signed bits) pieces (λ y. HasBits bits (type_of y)) (number_for bits (type_of x) x) (arguments_for pieces es) (number_fits e bits (type_of x) x (h.0.0, refl)) (arguments_fit e pieces es h.1) (λ y ys p q. (p, q))
arguments_fit e (unsigned bits ∷ pieces) (x ∷ es) h = before_written e (unsigned bits) pieces (λ y. HasBits bits (type_of y)) (number_for bits (type_of x) x) (arguments_for pieces es) (number_fits e bits (type_of x) x (h.0.0, refl)) (arguments_fit e pieces es h.1) (λ y ys p q. (p, q))
arguments_fit e (hexadecimal bits ∷ pieces) (x ∷ es) h = before_written e (hexadecimal bits) pieces (λ y. HasBits bits (type_of y)) (number_for bits (type_of x) x) (arguments_for pieces es) (number_fits e bits (type_of x) x (h.0.0, refl)) (arguments_fit e pieces es h.1) (λ y ys p q. (p, q))
arguments_fit e (character ∷ pieces) (x ∷ es) h = before_written e character pieces (λ y. HasBits 32 (type_of y)) (number_for 32 (type_of x) x) (arguments_for pieces es) (number_fits e 32 (type_of x) x (h.0.0, refl)) (arguments_fit e pieces es h.1) (λ y ys p q. (p, q))
arguments_fit e (text ∷ pieces) (x ∷ es) h = before_written e text pieces (λ y. IsPointer (type_of y)) (text_for (type_of x) x) (arguments_for pieces es) (text_fits e (type_of x) x (h.0.0, refl)) (arguments_fit e pieces es h.1) (λ y ys p q. (p, q))

pub printed_made : (e : form.InScope) (place : ℕ) (p : List Piece × List Expr) → AreFine e p.1 → OnTyped (Made e) (printed place p)
printed_made e place p h =
    on_bind (Written e p.0) (Made e) (or_mismatch place (arguments_for p.0 p.1)) (λ es. typed (at place (integer int) (lib (trees.print p.0) (exprs_of es))))
    (on_mismatch (Written e p.0) place (arguments_for p.0 p.1) (arguments_fit e p.0 p.1 h)) (λ es k. (((k.0, (k.1, refl)), tt), tt))

-- ---- thrd_create

abbrev pub Starting : form.InScope → Option ℕ → Type 0
Starting e o = OnSome (λ f. IsNth e.funcs f CanStart) o

append_fine : (e : form.InScope) (a b : List Expr) → AreFine e a → AreFine e b → AreFine e (a ++ b)
append_fine e [] b h k = k
append_fine e (x ∷ a) b h k = (h.0, append_fine e a b h.1 k)

started_well : (e : form.InScope) (place : ℕ) (f : Option ℕ) (es : Option (List Expr)) → Starting e f → OnSome (Passed e (pointer (integer unsigned_long) ∷ pointer void ∷ [])) es → OnTyped (Made e) (started_by place f es)
started_well e place (Some f) (Some es) h k = (((k.0, (h, k.1, refl)), tt), tt)
started_well e place None es h k = tt
started_well e place (Some f) None h k = tt

pub started_made : (e : form.InScope) (place : ℕ) (before : List Expr) (f : Option ℕ) (behind : List Expr) → AreFine e before → Starting e f → AreFine e behind → OnTyped (Made e) (started place before f behind)
started_made e place before f behind h s k =
    started_well e place f (fitted_all (pointer (integer unsigned_long) ∷ pointer void ∷ []) (before ++ behind)) s (passed e (pointer (integer unsigned_long) ∷ pointer void ∷ []) (before ++ behind) (append_fine e before behind h k))
