-- The typed tree that a file has is well formed.
use Rattle.std.proofs.Common.{◌≡◌, ℕ, zero, suc, ◌<◌, ◌≤◌, true, ◌&&◌, refl, sym, ap, ◌∙◌, subst, arith, List, [], ◌∷◌, length, map, take, sum_by, codes, Option, Some, None, slice_get, length-take}
use Rattle.std.specs.List.{AllByRecursion, list_any}
use Rattle.std.specs.Map.{lookup}
use Rattle.std.specs.Option.{option_map}
use Rattle.std.specs.Str.{bytes_eq}
use Rattle.std.proofs.lemmas.List.Sums.{sum_by-append}
use Rattle.std.proofs.lemmas.Option.{slice_get-map}
use Rattle.ak_words.specs.IntType.{int}
use Rattle.c_lex.specs.declared.refusal.Kind.TheVariants.{UnknownName}
use Rattle.c_tree.specs.Typed.{Ty, void, integer, atomic, mutex, pointer, array, structure, Local, GlobalVar, Func, Typed}
use Rattle.c_tree.specs.TypedLayout.{size_in}
use Rattle.c_tree.specs.TypedForm.{LiesIn, as_part, deeper, IsNth, Signature, signature_of, IsLayout, IsGlobal, IsFunc, IsMain, IsWellFormed, taken}
use Rattle.c_tree.specs.TypedForm as form
use Rattle.c_typing.specs.Faults.{Judged, typed, unless, both}
use Rattle.c_typing.specs.Scope.{Binding, global_name, local_name, function_name, enumerator_name, type_name, library_name, Context, at_start}
use Rattle.c_typing.specs.Programs.{defined_names, place_of_name, is_main, has_main, Made, program_of, judged_externals}
use Rattle.c_typing.specs.Laws.{GivesWellFormed}
use Rattle.c_typing.proofs.Extending.{extends_itself}
use Rattle.c_typing.proofs.Elements.{nothing_at}
use Rattle.c_typing.proofs.Carried.{on_unless}
use Rattle.c_typing.proofs.RuledWell.{both_hold, same_int_is}
use Rattle.c_typing.proofs.GlobalsWell.{AreHeld}
use Rattle.c_typing.proofs.HeadsWell.{typed_given, both_is, bind_is, Agrees, ArePlaced, externals_headed, agreed, all_results}
use Rattle.c_typing.proofs.FilesWell.{FileGood, Final, FileStep, externals_step, count_le}

all_from : {X : Type 0} (P : X → Type 0) (xs : List X) → ((n : ℕ) (x : X) → slice_get xs n ≡ Some x → P x) → AllByRecursion P xs
all_from P [] h = tt
all_from P (x ∷ xs) h = (h 0 x refl, all_from P xs (λ n y g. h (suc n) y g))

all_at : {X : Type 0} (P : X → Type 0) (xs : List X) → AllByRecursion P xs → (n : ℕ) (x : X) → slice_get xs n ≡ Some x → P x
all_at P [] h n x g = absurd (nothing_at n x g)
all_at P (y ∷ xs) h zero x g = let e : y ≡ x = cc in subst P e h.0
all_at P (y ∷ xs) h (suc n) x g = all_at P xs h.1 n x g

-- ---- before the first token

nothing_apart : (m n : ℕ) → LiesIn [] m n → ⊥
nothing_apart m n (as_part p) = nothing_at n p.0 p.1
nothing_apart m n (deeper {k} p r) = nothing_at k p.0 p.1

start_good : (fs : List Signature) (text : List ℕ) → ((n : ℕ) (s : Signature) → slice_get fs n ≡ Some s → form.IsResult s.result) → FileGood fs (at_start text)
start_good fs text r = record {
  good = record {
    results = r;
    since = λ n l h. absurd (nothing_at n l h);
    numbered = λ n h. absurd cc;
    names = λ q m h. absurd cc;
    layouts = λ n l h. absurd (nothing_at n l h);
    apart = λ n h. nothing_apart n n h;
    members = λ n l h. absurd (nothing_at n l h);
    unbegun = λ n l b h. absurd (nothing_at n l h);
    tags = refl;
    begun = omega arith;
    literals = λ n bs h. absurd (nothing_at n bs h);
    globals = λ n t h. absurd (nothing_at n t h);
    locals = λ n t h. absurd (nothing_at n t h);
    plain = refl;
    small = omega arith;
    params = omega arith;
    few = omega arith;
  };
  free = λ q m h. absurd cc;
  outer = refl;
  known = λ q n ps r h. absurd cc;
  few_functions = omega arith;
  counted = omega arith;
  few_globals = omega arith;
}

-- ---- main

some_of : {A B : Type 0} (f : A → B) (o : Option A) (y : B) → option_map f o ≡ Some y → (x : A) × (o ≡ Some x) × (f x ≡ y)
some_of f (Some x) y h = (x, refl, cc)
some_of f None y h = absurd cc

main_is : (o : Option Binding) → is_main o ≡ true → (n : ℕ) × (o ≡ Some (function_name n [] (integer int)))
main_is (Some (function_name n [] (integer t))) h = (n, ap (λ u. Some (function_name n [] (integer u))) (same_int_is t int h))
main_is (Some (function_name n [] void)) h = absurd cc
main_is (Some (function_name n [] (atomic t))) h = absurd cc
main_is (Some (function_name n [] mutex)) h = absurd cc
main_is (Some (function_name n [] (pointer t))) h = absurd cc
main_is (Some (function_name n [] (array t k))) h = absurd cc
main_is (Some (function_name n [] (structure k))) h = absurd cc
main_is (Some (function_name n (p ∷ ps) r)) h = absurd cc
main_is (Some (global_name n t)) h = absurd cc
main_is (Some (local_name n t)) h = absurd cc
main_is (Some (enumerator_name value)) h = absurd cc
main_is (Some (type_name t)) h = absurd cc
main_is (Some (library_name which)) h = absurd cc
main_is None h = absurd cc

length_map : {X Y : Type 0} (f : X → Y) (xs : List X) → length (map f xs) ≡ length xs
length_map f [] = refl
length_map f (x ∷ xs) = ap suc (length_map f xs)

main_well : (f : Func) → f.params ≤ length f.locals → signature_of f ≡ record { params = []; result = integer int } → IsMain f
main_well f h e =
    let a : map (λ (l : Local). l.ty) (take f.params f.locals) ≡ [] = ap (λ (s : Signature). s.params) e in
    let b : length (map (λ (l : Local). l.ty) (take f.params f.locals)) ≡ 0 = ap length a in
    let c = length_map (λ (l : Local). l.ty) (take f.params f.locals) in
    let d = length-take f.params f.locals in
    (omega (arith, h, b, c, d), ap (λ (s : Signature). s.result) e)

-- ---- sums

sum_map : {X Y : Type 0} (f : Y → ℕ) (g : X → Y) (xs : List X) → sum_by f (map g xs) ≡ sum_by (λ x. f (g x)) xs
sum_map f g [] = refl
sum_map f g (x ∷ xs) =
    let a = sum_by-append f (g x ∷ []) (map g xs) in
    let b = sum_by-append (λ x. f (g x)) (x ∷ []) xs in
    let c = sum_map f g xs in
    omega (arith, a, b, c)

globals_well : (t : Typed) (gs : List GlobalVar) → AreHeld t.structs t.literals gs → AllByRecursion (IsGlobal t) gs
globals_well t [] h = tt
globals_well t (g ∷ gs) h = (record { sized = h.0.0; init = h.0.1 }, globals_well t gs h.1)

-- ---- the tree

program_well : (text : List ℕ) (fs : List Signature) (d : Context) (m : Made) (main : ℕ) → map signature_of m.funcs ≡ fs → FileStep fs (at_start text) d m → IsNth fs main (λ (s : Signature). s ≡ record { params = []; result = integer int }) → IsWellFormed (program_of d m main)
program_well text fs d m main e s k =
    let globals : d.globals ≡ map (λ (g : GlobalVar). g.ty) m.globals = s.globals in
    let g = s.good.good in
    let count = s.grows.count in
    let begun = g.begun in
    let few = s.good.few_globals in
    let many : length d.globals ≡ length (map (λ (g : GlobalVar). g.ty) m.globals) = ap length globals in
    let same = length_map (λ (g : GlobalVar). g.ty) m.globals in
    let bodies = s.bodies in
    let counted = s.good.counted in
    let less = count_le d.bodies d.functions in
    let functions = s.good.few_functions in
    let small = g.small in
    let plain = g.plain in
    let sums : sum_by (λ t. taken (size_in d.structs t)) d.globals ≡ sum_by (λ (x : GlobalVar). taken (size_in d.structs x.ty)) m.globals = ap (sum_by (λ t. taken (size_in d.structs t))) globals ∙ sum_map (λ t. taken (size_in d.structs t)) (λ (x : GlobalVar). x.ty) m.globals in
    let funcs = s.funcs (program_of d m main) final in
    let first = some_of signature_of (slice_get m.funcs main) k.0 (sym (slice_get-map signature_of m.funcs main) ∙ ap (λ (l : List Signature). slice_get l main) e ∙ k.1) in
    record {
      structs = all_from (IsLayout d.structs) d.structs g.layouts;
      apart = g.apart;
      globals = globals_well (program_of d m main) m.globals s.held;
      literals = all_from (λ (bs : List ℕ). 0 < length bs) d.literals (λ n bs h. (g.literals n bs h).0);
      funcs = funcs;
      main = (first.0, first.1, main_well first.0 (all_at (IsFunc (program_of d m main)) m.funcs funcs main first.0 first.1).params (first.2 ∙ k.2));
      few_structs = omega (arith, count, begun);
      few_globals = omega (arith, few, many, same);
      few_funcs = omega (arith, bodies, counted, less, functions);
      small = omega (arith, small, plain, sums);
    }
  where
    final : Final fs d (program_of d m main)
    final = record {
      funcs = e;
      structs = extends_itself d.structs;
      globals = λ n u h. ap (λ (l : List Ty). slice_get l n) (sym s.globals) ∙ h;
      literals = λ n bs h. h;
      small = λ n l h. (s.good.good.layouts n l h).small;
      members = s.good.good.members;
      ready = λ n u h. (s.good.good.globals n u (ap (λ (l : List Ty). slice_get l n) s.globals ∙ h)).1;
      some = s.good.good.literals;
    }

has_main_is : (c : Context) (names : List (List ℕ)) (main : ℕ) → has_main c names ≡ typed main → (is_main (lookup (bytes_eq (codes "main")) c.inner) ≡ true) × (main ≡ place_of_name (codes "main") names)
has_main_is c names main e =
    let i = bind_is (unless (length c.text) UnknownName (is_main (lookup (bytes_eq (codes "main")) c.inner) && list_any (bytes_eq (codes "main")) names)) (λ u. typed (place_of_name (codes "main") names)) main e in
    let k = typed_given (λ u. (is_main (lookup (bytes_eq (codes "main")) c.inner) && list_any (bytes_eq (codes "main")) names) ≡ true) (unless (length c.text) UnknownName (is_main (lookup (bytes_eq (codes "main")) c.inner) && list_any (bytes_eq (codes "main")) names)) i.0
    (on_unless (length c.text) UnknownName (is_main (lookup (bytes_eq (codes "main")) c.inner) && list_any (bytes_eq (codes "main")) names)) i.1 in
    ((both_hold (is_main (lookup (bytes_eq (codes "main")) c.inner)) (list_any (bytes_eq (codes "main")) names) k).0, sym (typed_is (place_of_name (codes "main") names) main i.2))
  where
    typed_is : (m n : ℕ) → typed m ≡ typed n → m ≡ n
    typed_is m n e = cc

pub gives_well_formed : GivesWellFormed
gives_well_formed text f t a e =
    let names : List (List ℕ) = defined_names text f.externals in
    let x : Judged Made × Context = judged_externals names f.externals (at_start text) in
    let i = bind_is (both x.0 (has_main x.1 names)) (λ p. typed (program_of x.1 p.0 p.1)) t e in
    let j = both_is x.0 (has_main x.1 names) i.0 i.1 in
    let h = externals_headed names f.externals (at_start text) i.0.0 j.0 in
    let fs : List Signature = map signature_of i.0.0.funcs in
    let placed : ArePlaced names x.1 = h.placed (λ q n ps r l. absurd cc) in
    let agrees : Agrees fs x.1 = agreed names x.1 i.0.0.funcs h.heads placed in
    let step = externals_step fs names f.externals (at_start text) (start_good fs text (all_results x.1.inner names i.0.0.funcs h.heads)) a i.0.0 j.0 agrees in
    let m = has_main_is x.1 names i.0.1 j.1 in
    let n = main_is (lookup (bytes_eq (codes "main")) x.1.inner) m.0 in
    let p = placed (codes "main") n.0 [] (integer int) n.1 in
    let k : slice_get fs i.0.1 ≡ Some (record { params = []; result = integer int }) = ap (slice_get fs) (m.1 ∙ sym p.0) ∙ agrees (codes "main") n.0 [] (integer int) n.1 in
    subst IsWellFormed (tree_is (program_of x.1 i.0.0 i.0.1) t i.2) (program_well text fs x.1 i.0.0 i.0.1 refl step (record { params = []; result = integer int }, k, refl))
  where
    tree_is : (m n : Typed) → typed m ≡ typed n → m ≡ n
    tree_is m n e = cc
