-- The laws of parameters (C11 6.7.6.3), each at the level d, with the brackets around them.
use Rattle.std.proofs.Common.{◌≡◌, ℕ, suc, ◌+◌, List, [], ◌∷◌, ◌++◌, length, Option, Some, None, Bool, true, false, refl, sym, ap, subst, ◌∙◌, arith, append_assoc, inl, inr, ◌⊎◌}
use Rattle.std.specs.Prelude.{◌||◌}
use Rattle.std.specs.List.{AllByRecursion}
use Rattle.c_lex.specs.declared.token.Mark.TheVariants as marks
use Rattle.c_tree.specs.declared.syntax.Name.{Name}
use Rattle.c_tree.specs.declared.syntax.TypeWord.TheVariants as types
use Rattle.c_tree.specs.declared.syntax.Pointer.{Pointer}
use Rattle.c_tree.specs.Syntax.{Expr, Spec, word, ParamDim, Param}
use Rattle.c_grammar.specs.Leaves.{Leaf, at, derivation_at, name_at, mark_at, some_mark}
use Rattle.c_grammar.specs.Grammar.{on_spec, on_pointers, stars, on_each, on_commas, on_size, on_param_dims, on_name, on_param, IsValue, IsParam}
use Rattle.c_grammar.specs.inner.Readers.{Sort, nothing, pushed}
use Rattle.c_grammar.specs.inner.Tokens.{is_mark, is_pointer, begins_type, begins_expr}
use Rattle.c_grammar.specs.inner.Reading.{level_at, param_dim_by, param_dim, is_name, param_behind, param, params}
use Rattle.c_grammar.proofs.Lawful.{Class, Info, Lawful, starts, both, before}
use Rattle.c_grammar.proofs.Joints.{Makes, tree, known, full_class, full_lawful, empty_info, nothing_lawful}
use Rattle.c_grammar.proofs.Loops.{Link, base, Linked, chained, built_from, all_pushed, all_before, option_class, maybe_lawful, from_class}
use Rattle.c_grammar.proofs.TokenLaws.{Room, plain_class, derived_class, mark_sign, mark_place_sign, name_lawful, mark_lawful, derived_place_lawful, shallow}
use Rattle.c_grammar.proofs.TreeClasses.{expr_class, LevelLawful}
use Rattle.c_grammar.proofs.MoreJoints.{joined, either_lawful, comma_rows, commas_lawful, flat_after, some_spelt, commas_spelt}
use Rattle.c_grammar.proofs.EnumLaws.{no_name}
use Rattle.c_grammar.proofs.SpecLaws.{specs_class, specs_lawful, specs_some, some_specs, goes_specs}
use Rattle.c_grammar.proofs.PointerLaws.{bare_class, bare_lawful}
use Rattle.c_grammar.proofs.ArgumentLaws.{rank_most}

-- ---- a size between brackets, which may be left out

abbrev size_class : ℕ → Class
size_class d = option_class (full_class (expr_class false d 13))

size_spelt : (d c : ℕ) (o : Option Expr) → on_size d o ≡ (size_class d).leaves c o
size_spelt d c None = refl
size_spelt d c (Some e) = refl

size_after : (d c : ℕ) (o : Option Expr) → c ≡ (size_class d).after c o
size_after d c None = refl
size_after d c (Some e) = refl

size_fits : (d : ℕ) (o : Option Expr) → (size_class d).Is o → IsValue false o
size_fits d None f = tt
size_fits d (Some e) f = f.1

fits_size : (d : ℕ) (o : Option Expr) → IsValue false o → (size_class d).Is o
fits_size d None f = tt
fits_size d (Some e) f = (rank_most e, f)

-- the leaves of a size, behind k stars and dimensions
abbrev on_param_dim : ℕ → ℕ → ParamDim → List Leaf
on_param_dim d k x = derivation_at (d + 1) (k + 1) (mark_at x.place marks.OpenBracket) ∷ on_size (d + 1) x.size ++ at (d + 1) (some_mark marks.CloseBracket) ∷ []

abbrev IsParamDim : ParamDim → Type 0
IsParamDim x = IsValue false x.size

abbrev param_dim_class : ℕ → ℕ → Class
param_dim_class d k = record { Tree = ParamDim; leaves = λ c x. on_param_dim d k x; after = λ c x. c; Is = IsParamDim; some = record { place = 0; size = None }; some_is = tt }

param_dim_makes : (d k : ℕ) → Makes (both (derived_class (d + 1) k (mark_place_sign marks.OpenBracket) 0) (λ _. both (size_class (d + 1)) (λ _. plain_class (d + 1) (mark_sign marks.CloseBracket) tt))) (param_dim_class d k) (λ (place, (e, _)). param_dim_by place e)
param_dim_makes d k = record {
  fits = λ a f. size_fits (d + 1) a.1.0 f.1.0;
  spelt = λ c a. ap (λ (ls : List Leaf). derivation_at (d + 1) (k + 1) (mark_at a.0 marks.OpenBracket) ∷ ls ++ at (d + 1) (some_mark marks.CloseBracket) ∷ []) (size_spelt (d + 1) c a.1.0);
  after = λ c a. size_after (d + 1) c a.1.0;
  back = λ x f. ((x.place, (x.size, tt)), (tt, (fits_size (d + 1) x.size f, tt)), refl);
}

-- "[" [ expr ] "]"
param_dim_lawful : (d n k : ℕ) → Room (d + 1) n → LevelLawful false (d + 1) (level_at false n) → Lawful (param_dim_class d k) (starts (is_mark marks.OpenBracket)) (param_dim n k)
unfolding param_dim
param_dim_lawful d n k e l =
    let size = maybe_lawful (full_lawful l.expr) begins_expr refl refl in
    let parts = joined (derived_place_lawful (d + 1) n k e marks.OpenBracket) (joined size (mark_lawful (d + 1) n e marks.CloseBracket) refl) refl in
    known (tree parts (param_dim_class d k) _ (param_dim_makes d k)) (record { first = refl; goes = refl; empty = refl })

-- ---- any number of them

abbrev param_dims_class : ℕ → ℕ → Class
param_dims_class d k = record { Tree = List ParamDim; leaves = λ c xs. on_param_dims d k xs; after = λ c xs. c; Is = AllByRecursion IsParamDim; some = []; some_is = tt }

abbrev param_dims_link : ℕ → ℕ → Link (List ParamDim)
param_dims_link d k = record { Tree = ParamDim; leaves = λ front. (param_dim_class d (k + length front)).leaves; after = λ front c x. c; Is = λ front. IsParamDim; some = λ front. record { place = 0; size = None }; some_is = λ front. tt }

pushed_dims : (d k : ℕ) (front : List ParamDim) (x : ParamDim) → on_param_dims d k (pushed front x) ≡ on_param_dims d k front ++ on_param_dim d (k + length front) x
pushed_dims d k [] x = let same : k ≡ k + length {A = ParamDim} [] = omega arith in ap (λ (m : ℕ). on_param_dim d m x) same
pushed_dims d k (y ∷ front) x =
    let behind : List Leaf = at (d + 1) (some_mark marks.CloseBracket) ∷ on_param_dims d (k + 1) front in
    let same : (k + 1) + length front ≡ k + length (y ∷ front) = omega arith in
    let more : on_param_dims d (k + 1) (pushed front x) ≡ on_param_dims d (k + 1) front ++ on_param_dim d (k + length (y ∷ front)) x
    = pushed_dims d (k + 1) front x ∙ ap (λ (m : ℕ). on_param_dims d (k + 1) front ++ on_param_dim d m x) same in
    ap (λ (ls : List Leaf). derivation_at (d + 1) (k + 1) (mark_at y.place marks.OpenBracket) ∷ on_size (d + 1) y.size ++ (at (d + 1) (some_mark marks.CloseBracket) ∷ ls)) more
    ∙ ap (λ (ls : List Leaf). derivation_at (d + 1) (k + 1) (mark_at y.place marks.OpenBracket) ∷ ls) (sym (append_assoc (on_size (d + 1) y.size) behind (on_param_dim d (k + length (y ∷ front)) x)))

param_dims_linked : (d k : ℕ) → Linked (param_dims_class d k) (param_dims_link d k) (λ x. [] ≡ x) pushed (is_mark marks.OpenBracket) empty_info (starts (is_mark marks.OpenBracket))
param_dims_linked d k = record {
  fits_base = λ a e. subst (AllByRecursion IsParamDim) e tt;
  fits = λ a x f g. all_pushed IsParamDim a x f g;
  spelt = λ c a x f. pushed_dims d k a x;
  after = λ c a x. refl;
  built = λ xs f. built_from (λ x. [] ≡ x) (λ a x. AllByRecursion IsParamDim a × IsParamDim x) [] xs (base [] refl)
      (λ front x behind same. all_before IsParamDim front x behind (subst (AllByRecursion IsParamDim) same f));
  told = refl;
  some = refl;
  apart_base = refl;
  apart_link = refl;
}

-- ---- behind what stands before the name

abbrev name_class : ℕ → Class
name_class d = option_class (plain_class d name_at no_name)

abbrev param_behind_class : ℕ → List Pointer → Class
param_behind_class d ps = both (name_class d) (λ _. param_dims_class d (stars 0 ps))

abbrev goes_name : Sort → Bool
goes_name s = is_name s || is_mark marks.OpenBracket s

abbrev begins_name : Sort → Bool
begins_name s = is_name s || is_mark marks.OpenBracket s

abbrev param_behind_info : Info
param_behind_info = record { first = begins_name; goes = goes_name; empty = true }

-- [ NAME ] { "[" [ expr ] "]" }
param_behind_lawful : (d n : ℕ) → Room d (suc n) → LevelLawful false (d + 1) (level_at false n) → (ps : List Pointer) → Lawful (param_behind_class d ps) param_behind_info (param_behind (suc n) n ps)
unfolding param_behind
param_behind_lawful d n e l ps =
    let k = stars 0 ps in
    let none = nothing_lawful (param_dims_class d k) [] (λ c. refl) (λ c. refl) in
    let dims = chained (param_dims_class d k) (param_dims_link d k) (λ x. [] ≡ x) [] refl pushed (is_mark marks.OpenBracket) empty_info (starts (is_mark marks.OpenBracket)) (param_dims_linked d k) (nothing []) none
    (λ front. param_dim n (k + length front)) (λ front. param_dim_lawful d n (k + length front) (omega (arith, e)) l) in
    known (joined (maybe_lawful (name_lawful d (suc n) e) is_name refl refl) dims refl) (record { first = refl; goes = refl; empty = refl })

-- ---- parameters

abbrev pub param_class : ℕ → Class
param_class d = record { Tree = Param; leaves = λ c p. on_param d p; after = λ c p. c; Is = IsParam; some = record { specs = word 0 types.Int ∷ []; pointers = []; name = None; dims = [] }; some_is = ((tt, (tt, tt)), tt, tt) }

abbrev pub goes_param : Sort → Bool
goes_param s = goes_specs s || (is_pointer s || goes_name s)

abbrev pub param_info : Info
param_info = record { first = begins_type; goes = goes_param; empty = false }

name_spelt : (d c : ℕ) (o : Option Name) → on_name d o ≡ (name_class d).leaves c o
name_spelt d c None = refl
name_spelt d c (Some n) = refl

name_after : (d c : ℕ) (o : Option Name) → (name_class d).after c o ≡ c
name_after d c None = refl
name_after d c (Some n) = refl

any_name : (d : ℕ) (o : Option Name) → (name_class d).Is o
any_name d None = tt
any_name d (Some n) = tt

abbrev param_parts : ℕ → Class
param_parts d = both (specs_class false d) (λ _. both (bare_class d) (λ ps. param_behind_class d ps))

abbrev param_of : List Spec → List Pointer → Option Name → List ParamDim → Param
param_of ss ps n xs = record { specs = ss; pointers = ps; name = n; dims = xs }

param_spelt : (d c : ℕ) (ss : List Spec) (ps : List Pointer) (n : Option Name) (xs : List ParamDim) → on_param d (param_of ss ps n xs) ≡ (param_parts d).leaves c (ss, (ps, (n, xs)))
param_spelt d c ss ps n xs =
    let S : List Leaf = on_each (on_spec d) ss in
    let P : List Leaf = on_pointers d 0 ps in
    let N : List Leaf = on_name d n in
    let D : List Leaf = on_param_dims d (stars 0 ps) xs in
    append_assoc (S ++ P) N D
    ∙ append_assoc S P (N ++ D)
    ∙ ap (λ (ls : List Leaf). ls ++ (P ++ (N ++ D))) (some_spelt (on_spec d) c ss)
    ∙ ap (λ (ls : List Leaf). (specs_class false d).leaves c ss ++ (P ++ (ls ++ D))) (name_spelt d c n)

param_makes : (d : ℕ) → Makes (param_parts d) (param_class d) (λ (ss, (ps, (n, ds))). record { specs = ss; pointers = ps; name = n; dims = ds })
param_makes d = record {
  fits = λ a f. (specs_some false a.0 f.0, f.1.0, f.1.1.1);
  spelt = λ c a. param_spelt d c a.0 a.1.0 a.1.1.0 a.1.1.1;
  after = λ c a. sym (name_after d ((specs_class false d).after c a.0) a.1.1.0 ∙ flat_after c a.0);
  back = λ p f. ((p.specs, (p.pointers, (p.name, p.dims))), (some_specs false p.specs f.0, (f.1, (any_name d p.name, f.2))), refl);
}

-- specs ptr [ NAME ] { "[" [ expr ] "]" }
pub param_lawful : (d n : ℕ) → Room d (suc n) → LevelLawful false (d + 1) (level_at false n) → Lawful (param_class d) param_info (param (suc n) n)
unfolding param
param_lawful d n e l =
    let behind = param_behind_lawful d n e l in
    let more = before (bare_lawful d (suc n) e (shallow d n e)) (λ ps f. behind ps) refl (λ ps. (behind ps).steady) in
    known (tree (joined (specs_lawful false d n (level_at false n) e l) more refl) (param_class d) _ (param_makes d)) (record { first = refl; goes = refl; empty = refl })

-- ---- parameters between brackets, of a function at file scope

abbrev rows : Class
rows = from_class (comma_rows (param_class 1) IsParam ((tt, (tt, tt)), tt, tt) 1)

-- any number of parameters with commas between them
abbrev any_params : Class
any_params = record { Tree = List Param; leaves = rows.leaves; after = rows.after; Is = AllByRecursion IsParam; some = []; some_is = tt }

some_params : (ps : List Param) → rows.Is ps → AllByRecursion IsParam ps
some_params [] f = absurd f
some_params (p ∷ ps) f = f

no_params : (ps : List Param) → [] ≡ ps → AllByRecursion IsParam ps
no_params ps e = subst (AllByRecursion IsParam) e tt

which_params : (ps : List Param) → AllByRecursion IsParam ps → rows.Is ps ⊎ ([] ≡ ps)
which_params [] f = inr refl
which_params (p ∷ ps) f = inl f

abbrev pub params_class : Class
params_class = record {
  Tree = List Param;
  leaves = λ c ps. at 1 (some_mark marks.OpenParen) ∷ on_commas 1 (on_param 1) ps ++ at 1 (some_mark marks.CloseParen) ∷ [];
  after = λ c ps. c;
  Is = AllByRecursion IsParam;
  some = [];
  some_is = tt;
}

params_makes : Makes (both (plain_class 1 (mark_sign marks.OpenParen) tt) (λ _. both any_params (λ _. plain_class 1 (mark_sign marks.CloseParen) tt))) params_class (λ (_, (all, _)). all)
params_makes = record {
  fits = λ a f. f.1.0;
  spelt = λ c a. ap (λ (ls : List Leaf). at 1 (some_mark marks.OpenParen) ∷ ls ++ at 1 (some_mark marks.CloseParen) ∷ []) (commas_spelt 1 (on_param 1) c a.1.0);
  after = λ c a. sym (flat_after c a.1.0);
  back = λ b f. ((tt, (b, tt)), (tt, (f, tt)), refl);
}

-- "(" [ params ] ")"
pub params_lawful : LevelLawful false 2 (level_at false 127) → Lawful params_class (starts (is_mark marks.OpenParen)) params
unfolding params
params_lawful l =
    let each = param_lawful 1 127 refl l in
    let some = commas_lawful (param_class 1) IsParam ((tt, (tt, tt)), tt, tt) 1 128 refl each each refl refl refl in
    let none = nothing_lawful any_params [] (λ c. refl) (λ c. refl) in
    let all = either_lawful any_params rows.Is (λ ps. [] ≡ ps) rows.some [] rows.some_is refl some none begins_type refl refl refl some_params no_params which_params in
    let parts = joined (mark_lawful 1 128 refl marks.OpenParen) (joined all (mark_lawful 1 128 refl marks.CloseParen) refl) refl in
    known (tree parts params_class _ params_makes) (record { first = refl; goes = refl; empty = refl })
