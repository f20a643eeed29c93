-- The laws of declarators (C11 6.7.6): what stands before a name, the name, and the sizes of arrays.
use Rattle.std.proofs.Common.{◌≡◌, ℕ, suc, ◌+◌, List, [], ◌∷◌, ◌++◌, length, Bool, true, false, refl, sym, ap, subst, ◌∙◌, arith, append_assoc}
use Rattle.std.specs.Prelude.{◌||◌}
use Rattle.std.specs.List.{AllByRecursion}
use Rattle.c_lex.specs.declared.token.Mark.TheVariants as marks
use Rattle.c_tree.specs.declared.syntax.Name.{Name}
use Rattle.c_tree.specs.declared.syntax.Pointer.{Pointer}
use Rattle.c_tree.specs.declared.syntax.Pointer.TheVariants.{Star, Const, Restrict}
use Rattle.c_grammar.proofs.Sorts.{apart}
use Rattle.c_tree.specs.Syntax.{Expr, null, Exprs, no_exprs, exprs_of, Declarator, declarator}
use Rattle.c_grammar.specs.Leaves.{Leaf, at, derivation_at, some_mark}
use Rattle.c_grammar.specs.Grammar.{on, on_pointers, stars, on_dims, IsExpr, AreExprs, StartsBare, StartsBareIn, IsDeclarator, Naming, as_name, as_any, as_bare, declared_at, on_declared}
use Rattle.c_grammar.specs.inner.Readers.{Sort, nothing, pushed}
use Rattle.c_grammar.specs.inner.Tokens.{is_mark, is_pointer, is_tag, tok}
use Rattle.c_grammar.specs.inner.Reading.{Level, is_name, dim, dims, declarator_behind, declared, bare_declared, declared_name}
use Rattle.c_grammar.proofs.Lawful.{Class, Info, Lawful, starts, both, before, both_info, HeadIn}
use Rattle.c_grammar.proofs.Joints.{Makes, tree, known, full_class, full_lawful, narrow, empty_info, nothing_lawful, Less}
use Rattle.c_grammar.proofs.Loops.{Link, base, Linked, chained, built_from, all_before}
use Rattle.c_grammar.proofs.TokenLaws.{Room, plain_class, derived_class, mark_sign, name_lawful, mark_lawful, derived_mark_lawful, shallow, tag_lawful}
use Rattle.c_grammar.proofs.TreeClasses.{expr_class, LevelLawful}
use Rattle.c_grammar.proofs.MoreJoints.{joined, Forms, formed}
use Rattle.c_grammar.proofs.ArgumentLaws.{rank_most, listed}
use Rattle.c_grammar.proofs.EnumLaws.{no_name}
use Rattle.c_grammar.proofs.SpecLaws.{}
use Rattle.c_grammar.proofs.PointerLaws.{pointers_class, pointers_lawful, bare_class, is_bare, bare_lawful, pointers_info, bare_info}

-- ---- a size between brackets

-- the leaves of a size, behind k stars and dimensions
abbrev on_bracket : ℕ → ℕ → Expr → List Leaf
on_bracket d k e = derivation_at (d + 1) (k + 1) (some_mark marks.OpenBracket) ∷ on (d + 1) 0 e ++ at (d + 1) (some_mark marks.CloseBracket) ∷ []

abbrev pub dim_class : Bool → ℕ → ℕ → Class
dim_class b d k = record {
  Tree = Expr;
  leaves = λ c e. derivation_at (d + 1) (k + 1) (some_mark marks.OpenBracket) ∷ on (d + 1) 0 e ++ at (d + 1) (some_mark marks.CloseBracket) ∷ [];
  after = λ c e. c;
  Is = IsExpr b;
  some = null 0;
  some_is = tt;
}

dim_makes : (b : Bool) (d k : ℕ) → Makes (both (derived_class (d + 1) k (mark_sign marks.OpenBracket) tt) (λ _. both (full_class (expr_class b (d + 1) 13)) (λ _. plain_class (d + 1) (mark_sign marks.CloseBracket) tt))) (dim_class b d k) (λ (_, (e, _)). e)
dim_makes b d k = record {
  fits = λ a f. f.1.0.1;
  spelt = λ c a. refl;
  after = λ c a. refl;
  back = λ e f. ((tt, (e, tt)), (tt, ((rank_most e, f), tt)), refl);
}

-- "[" expr "]"
pub dim_lawful : (b : Bool) (d n k : ℕ) (inner : Level) → Room (d + 1) n → LevelLawful b (d + 1) inner → Lawful (dim_class b d k) (starts (is_mark marks.OpenBracket)) (dim n inner k)
unfolding dim
dim_lawful b d n k inner e l =
    let parts = joined (derived_mark_lawful (d + 1) n k e marks.OpenBracket) (joined (full_lawful l.expr) (mark_lawful (d + 1) n e marks.CloseBracket) refl) refl in
    known (tree parts (dim_class b d k) _ (dim_makes b d k)) (record { first = refl; goes = refl; empty = refl })

-- ---- any number of sizes

abbrev pub dims_class : Bool → ℕ → ℕ → Class
dims_class b d k = record { Tree = List Expr; leaves = λ c es. on_dims d k (exprs_of es); after = λ c es. c; Is = λ es. AreExprs b (exprs_of es); some = []; some_is = tt }

abbrev dims_link : Bool → ℕ → ℕ → Link (List Expr)
dims_link b d k = record { Tree = Expr; leaves = λ front. (dim_class b d (k + length front)).leaves; after = λ front c e. c; Is = λ front. IsExpr b; some = λ front. null 0; some_is = λ front. tt }

are_exprs : (b : Bool) (es : List Expr) → AllByRecursion (IsExpr b) es → AreExprs b (exprs_of es)
are_exprs b [] f = tt
are_exprs b (e ∷ es) f = (f.0, are_exprs b es f.1)

all_exprs : (b : Bool) (es : List Expr) → AreExprs b (exprs_of es) → AllByRecursion (IsExpr b) es
all_exprs b [] f = tt
all_exprs b (e ∷ es) f = (f.0, all_exprs b es f.1)

pushed_exprs : (b : Bool) (front : List Expr) (e : Expr) → AreExprs b (exprs_of front) → IsExpr b e → AreExprs b (exprs_of (pushed front e))
pushed_exprs b [] e f g = (g, tt)
pushed_exprs b (x ∷ front) e f g = (f.0, pushed_exprs b front e f.1 g)

pushed_dims : (d k : ℕ) (front : List Expr) (e : Expr) → on_dims d k (exprs_of (pushed front e)) ≡ on_dims d k (exprs_of front) ++ on_bracket d (k + length front) e
pushed_dims d k [] e = let same : k ≡ k + length {A = Expr} [] = omega arith in ap (λ (m : ℕ). on_bracket d m e) same
pushed_dims d k (x ∷ front) e =
    let behind : List Leaf = at (d + 1) (some_mark marks.CloseBracket) ∷ on_dims d (k + 1) (exprs_of front) in
    let same : (k + 1) + length front ≡ k + length (x ∷ front) = omega arith in
    let more : on_dims d (k + 1) (exprs_of (pushed front e)) ≡ on_dims d (k + 1) (exprs_of front) ++ on_bracket d (k + length (x ∷ front)) e
    = pushed_dims d (k + 1) front e ∙ ap (λ (m : ℕ). on_dims d (k + 1) (exprs_of front) ++ on_bracket d m e) same in
    ap (λ (ls : List Leaf). derivation_at (d + 1) (k + 1) (some_mark marks.OpenBracket) ∷ on (d + 1) 0 x ++ (at (d + 1) (some_mark marks.CloseBracket) ∷ ls)) more
    ∙ ap (λ (ls : List Leaf). derivation_at (d + 1) (k + 1) (some_mark marks.OpenBracket) ∷ ls) (sym (append_assoc (on (d + 1) 0 x) behind (on_bracket d (k + length (x ∷ front)) e)))

dims_linked : (b : Bool) (d k : ℕ) → Linked (dims_class b d k) (dims_link b d k) (λ x. [] ≡ x) pushed (is_mark marks.OpenBracket) empty_info (starts (is_mark marks.OpenBracket))
dims_linked b d k = record {
  fits_base = λ a e. subst (λ (es : List Expr). AreExprs b (exprs_of es)) e tt;
  fits = λ a x f g. pushed_exprs b a x f g;
  spelt = λ c a x f. pushed_dims d k a x;
  after = λ c a x. refl;
  built = λ es f. built_from (λ x. [] ≡ x) (λ a x. AreExprs b (exprs_of a) × IsExpr b x) [] es (base [] refl)
      (λ front e behind same. let q = all_before (IsExpr b) front e behind (subst (AllByRecursion (IsExpr b)) same (all_exprs b es f)) in (are_exprs b front q.0, q.1));
  told = refl;
  some = refl;
  apart_base = refl;
  apart_link = refl;
}

abbrev pub dims_info : Info
dims_info = record { first = is_mark marks.OpenBracket; goes = is_mark marks.OpenBracket; empty = true }

-- { "[" expr "]" }, behind k stars
pub dims_lawful : (b : Bool) (d n k : ℕ) (inner : Level) → Room (d + 1) n → LevelLawful b (d + 1) inner → Lawful (dims_class b d k) dims_info (dims n inner k)
unfolding dims
dims_lawful b d n k inner e l =
    let none = nothing_lawful (dims_class b d k) [] (λ c. refl) (λ c. refl) in
    known (chained (dims_class b d k) (dims_link b d k) (λ x. [] ≡ x) [] refl pushed (is_mark marks.OpenBracket) empty_info (starts (is_mark marks.OpenBracket)) (dims_linked b d k) (nothing []) none
    (λ front. dim n inner (k + length front)) (λ front. dim_lawful b d n (k + length front) inner e l)) (record { first = refl; goes = refl; empty = refl })

-- ---- a declarator, behind what stands before its name

abbrev behind_leaves : Naming → ℕ → List Pointer → Declarator → List Leaf
behind_leaves k d ps (declarator qs n es) = at d (declared_at k ps n) ∷ on_dims d (stars 0 ps) es

abbrev BehindIs : Bool → List Pointer → Declarator → Type 0
BehindIs b ps (declarator qs n es) = (ps ≡ qs) × AreExprs b es

-- the declarators that begin so, without what they begin with
abbrev behind_class : Naming → Bool → ℕ → List Pointer → Class
behind_class k b d ps = record { Tree = Declarator; leaves = λ c x. behind_leaves k d ps x; after = λ c x. c; Is = BehindIs b ps; some = declarator ps no_name no_exprs; some_is = (refl, tt) }

-- what the name may be, whatever stands before it
abbrev pub names_of : Naming → Sort → Bool
names_of as_name s = is_name s
names_of as_any s = is_tag s
names_of as_bare s = is_tag s

abbrev behind_info : Naming → Info
behind_info k = record { first = names_of k; goes = is_mark marks.OpenBracket; empty = false }

behind_back : (b : Bool) (ps qs : List Pointer) (n : Name) (es : Exprs) → ps ≡ qs → AreExprs b es → (a : Name × List Expr) × (Unit {0} × AreExprs b (exprs_of a.1)) × (declarator ps a.0 (exprs_of a.1) ≡ declarator qs n es)
behind_back b ps qs n es e f =
    let all = listed es in
    let is : AreExprs b (exprs_of all.0) = rw (all.1) f in
    ((n, all.0), (tt, is), ap (λ (x : Exprs). declarator ps n x) all.1 ∙ ap (λ (x : List Pointer). declarator x n es) e)

behind_makes : (k : Naming) (b : Bool) (d : ℕ) (ps : List Pointer) → Makes (both (plain_class d (declared_at k ps) no_name) (λ _. dims_class b d (stars 0 ps))) (behind_class k b d ps) (λ (n, es). declarator ps n (exprs_of es))
behind_makes k b d ps = record {
  fits = λ a f. (refl, f.1);
  spelt = λ c a. refl;
  after = λ c a. refl;
  back = elim [ declarator qs n es ↦ λ f. behind_back b ps qs n es f.0 f.1 ];
}

-- the name
declared_token : (k : Naming) (d n : ℕ) → Room d n → (ps : List Pointer) → Lawful (plain_class d (declared_at k ps) no_name) (starts (names_of k)) (tok n (declared_name k ps))
declared_token as_name d n e ps = name_lawful d n e
declared_token as_any d n e ps = tag_lawful d n e
declared_token as_bare d n e [] = known (name_lawful d n e) (record { first = refl; goes = refl; empty = refl })
declared_token as_bare d n e (p ∷ ps) = tag_lawful d n e

less_behind : (k : Naming) → Less (both_info (starts (names_of k)) dims_info) (behind_info k)
less_behind as_name = record { first = refl; goes = refl; empty = refl }
less_behind as_any = record { first = refl; goes = refl; empty = refl }
less_behind as_bare = record { first = refl; goes = refl; empty = refl }

-- NAME dims
behind_lawful : (k : Naming) (b : Bool) (d n : ℕ) (inner : Level) → Room d (suc n) → LevelLawful b (d + 1) inner → (ps : List Pointer) → Lawful (behind_class k b d ps) (behind_info k) (declarator_behind k (suc n) n inner ps)
unfolding declarator_behind
behind_lawful k b d n inner e l ps =
    let parts = joined (declared_token k d (suc n) e ps) (dims_lawful b d n (stars 0 ps) inner (omega (arith, e)) l) refl in
    known (tree parts (behind_class k b d ps) _ (behind_makes k b d ps)) (less_behind k)

-- ---- declarators

abbrev pub declarator_class : Naming → Bool → ℕ → Class
declarator_class k b d = record { Tree = Declarator; leaves = λ c x. on_declared d k x; after = λ c x. c; Is = IsDeclarator b; some = declarator [] no_name no_exprs; some_is = tt }

abbrev pub begins_declarator : Naming → Sort → Bool
begins_declarator k s = is_pointer s || names_of k s

abbrev pub declarator_info : Naming → Info
declarator_info k = record { first = begins_declarator k; goes = is_mark marks.OpenBracket; empty = false }

behind_fits : (b : Bool) (ps : List Pointer) (x : Declarator) → BehindIs b ps x → IsDeclarator b x
behind_fits b ps (declarator qs n es) f = f.1

behind_spelt : (k : Naming) (b : Bool) (d : ℕ) (ps : List Pointer) (x : Declarator) → BehindIs b ps x → on_declared d k x ≡ on_pointers d 0 ps ++ behind_leaves k d ps x
behind_spelt k b d ps (declarator qs n es) f = subst (λ (x : List Pointer). on_declared d k (declarator x n es) ≡ on_pointers d 0 ps ++ at d (declared_at k ps n) ∷ on_dims d (stars 0 ps) es) f.0 refl

declared_forms : (k : Naming) (b : Bool) (d : ℕ) → Forms (both (pointers_class d) (λ ps. behind_class k b d ps)) (declarator_class k b d) (λ (_, x). x)
declared_forms k b d = record {
  fits = λ a f. behind_fits b a.0 a.1 f.1;
  spelt = λ c a f. behind_spelt k b d a.0 a.1 f.1;
  after = λ c a f. refl;
  back = elim [ declarator qs n es ↦ λ f. ((qs, declarator qs n es), (tt, (refl, f)), refl) ];
}

names_apart : (k : Naming) → apart (names_of k) is_pointer ≡ true
names_apart as_name = refl
names_apart as_any = refl
names_apart as_bare = refl

less_declared : (k : Naming) → Less (both_info pointers_info (behind_info k)) (declarator_info k)
less_declared as_name = record { first = refl; goes = refl; empty = refl }
less_declared as_any = record { first = refl; goes = refl; empty = refl }
less_declared as_bare = record { first = refl; goes = refl; empty = refl }

-- ptr NAME dims
pub declared_lawful : (k : Naming) (b : Bool) (d n : ℕ) (inner : Level) → Room d (suc n) → LevelLawful b (d + 1) inner → Lawful (declarator_class k b d) (declarator_info k) (declared k (suc n) n inner)
unfolding declared
declared_lawful k b d n inner e l =
    let behind = behind_lawful k b d n inner e l in
    known (formed (before (pointers_lawful d (suc n) e (shallow d n e)) (λ ps f. behind ps) (names_apart k) (λ ps. (behind ps).steady)) (declarator_class k b d) _ (declared_forms k b d)) (less_declared k)

-- ---- declarators behind specifiers

abbrev pub IsBareDeclarator : Bool → Declarator → Type 0
IsBareDeclarator b x = StartsBareIn x × IsDeclarator b x

abbrev pub bare_declarator_class : Naming → Bool → ℕ → Class
bare_declarator_class k b d = narrow (declarator_class k b d) (IsBareDeclarator b) (declarator [] no_name no_exprs) (tt, tt)

-- directly behind specifiers with no type among them stands no type's name
abbrev pub begins_bare : Naming → Sort → Bool
begins_bare as_name s = is_bare s || is_name s
begins_bare as_any s = is_bare s || is_tag s
begins_bare as_bare s = is_bare s || is_name s

abbrev pub begins_bare_declarator : Sort → Bool
begins_bare_declarator s = is_bare s || is_name s

abbrev pub bare_declarator_info : Naming → Info
bare_declarator_info k = record { first = begins_bare k; goes = is_mark marks.OpenBracket; empty = false }

bare_fits : (b : Bool) (ps : List Pointer) (x : Declarator) → StartsBare ps → BehindIs b ps x → IsBareDeclarator b x
bare_fits b ps (declarator qs n es) f g = (subst StartsBare g.0 f, g.1)

bare_forms : (k : Naming) (b : Bool) (d : ℕ) → Forms (both (bare_class d) (λ ps. behind_class k b d ps)) (bare_declarator_class k b d) (λ (_, x). x)
bare_forms k b d = record {
  fits = λ a f. bare_fits b a.0 a.1 f.0 f.1;
  spelt = λ c a f. behind_spelt k b d a.0 a.1 f.1;
  after = λ c a f. refl;
  back = elim [ declarator qs n es ↦ λ f. ((qs, declarator qs n es), (f.0, (refl, f.1)), refl) ];
}

-- what one may begin with, whatever stands before its name
abbrev wide_info : Naming → Info
wide_info k = record { first = λ s. is_bare s || names_of k s; goes = is_mark marks.OpenBracket; empty = false }

less_bare : (k : Naming) → Less (both_info bare_info (behind_info k)) (wide_info k)
less_bare as_name = record { first = refl; goes = refl; empty = refl }
less_bare as_any = record { first = refl; goes = refl; empty = refl }
less_bare as_bare = record { first = refl; goes = refl; empty = refl }

wide_lawful : (k : Naming) (b : Bool) (d n : ℕ) (inner : Level) → Room d (suc n) → LevelLawful b (d + 1) inner → Lawful (bare_declarator_class k b d) (wide_info k) (bare_declared k (suc n) n inner)
unfolding bare_declared
wide_lawful k b d n inner e l =
    let behind = behind_lawful k b d n inner e l in
    known (formed (before (bare_lawful d (suc n) e (shallow d n e)) (λ ps f. behind ps) (names_apart k) (λ ps. (behind ps).steady)) (bare_declarator_class k b d) _ (bare_forms k b d)) (less_bare k)

bare_headed : (b : Bool) (d : ℕ) (x : Declarator) → IsBareDeclarator b x → HeadIn (bare_declarator_info as_bare) (on_declared d as_bare x)
bare_headed b d (declarator [] n es) f = refl
bare_headed b d (declarator (Star ∷ ps) n es) f = refl
bare_headed b d (declarator (Restrict ∷ ps) n es) f = refl
bare_headed b d (declarator (Const ∷ ps) n es) f = absurd f.0

pub bare_declared_lawful : (k : Naming) (b : Bool) (d n : ℕ) (inner : Level) → Room d (suc n) → LevelLawful b (d + 1) inner → Lawful (bare_declarator_class k b d) (bare_declarator_info k) (bare_declared k (suc n) n inner)
bare_declared_lawful as_name b d n inner e l = wide_lawful as_name b d n inner e l
bare_declared_lawful as_any b d n inner e l = wide_lawful as_any b d n inner e l
bare_declared_lawful as_bare b d n inner e l =
    let w = wide_lawful as_bare b d n inner e l in
    record { sound = w.sound; steady = w.steady; complete = w.complete; limited = w.limited; headed = λ c x f. bare_headed b d x f }
