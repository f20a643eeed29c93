-- The laws of enumerators, and of what is between the braces of an enum (C11 6.7.2.2).
use Rattle.std.proofs.Common.{◌≡◌, ℕ, ◌+◌, List, [], ◌∷◌, ◌++◌, Option, Some, None, Bool, true, false, refl, sym, ap, subst}
use Rattle.std.proofs.lemmas.List.{append-nil}
use Rattle.std.specs.Prelude.{◌||◌}
use Rattle.std.specs.List.{AllByRecursion}
use Rattle.c_lex.specs.declared.token.Mark.TheVariants as marks
use Rattle.c_tree.specs.declared.syntax.Name.{Name}
use Rattle.c_tree.specs.Syntax.{Expr, Enumerator, enumerator, valued, Enumerators, no_enumerators, more_enumerators, enumerators_of}
use Rattle.c_grammar.specs.Leaves.{Leaf, at, name_at, some_mark}
use Rattle.c_grammar.specs.Grammar.{on_enumerator, on_enumerators, has_comma, AreParted, HasEnumerators, IsExpr, IsEnumerator, AreEnumerators}
use Rattle.c_grammar.specs.inner.Readers.{Sort, made, chain_by, pushed}
use Rattle.c_grammar.specs.inner.Tokens.{is_mark}
use Rattle.c_grammar.specs.inner.Reading.{Level, is_name, enumerator_by, enumerated, parted, begins_enumerator, enumerators}
use Rattle.c_grammar.proofs.Lawful.{Class, Info, Lawful, starts, both}
use Rattle.c_grammar.proofs.Joints.{Makes, tree, known, narrow}
use Rattle.c_grammar.proofs.Loops.{row_leaves, from_leaves, FromIs, Rows, from_class, from_pushed_leaves, pushed_after, Link, Built, base, LinkedBy, chained_by, built_behind, all_pushed, all_before, OptionIs, option_class, maybe_lawful}
use Rattle.c_grammar.proofs.TokenLaws.{Room, plain_class, name_lawful, mark_lawful, mark_sign}
use Rattle.c_grammar.proofs.TreeClasses.{LevelLawful}
use Rattle.c_grammar.proofs.MoreJoints.{joined, flat_after}
use Rattle.c_grammar.proofs.ValueLaws.{value_class, goes_init, values_lawful}

-- ---- one enumerator

abbrev pub no_name : Name
no_name = record { from = 0; to = 0 }

abbrev pub enumerator_class : ℕ → Class
enumerator_class d = record { Tree = Enumerator; leaves = λ c e. on_enumerator d e; after = λ c e. c; Is = IsEnumerator; some = enumerator no_name false; some_is = tt }

abbrev enumerator_info : Info
enumerator_info = record { first = is_name; goes = λ s. is_mark marks.Comma s || goes_init s; empty = false }

-- the name, the value and the comma
abbrev enumerator_parts : ℕ → Class
enumerator_parts d = both (plain_class d name_at no_name) (λ _. both (option_class (value_class true d)) (λ _. option_class (plain_class d (mark_sign marks.Comma) tt)))

enumerator_fits : (n : Name) (v : Option Expr) (o : Option (Unit {0})) → OptionIs (IsExpr true) v → IsEnumerator (enumerator_by n v o)
enumerator_fits n None o f = tt
enumerator_fits n (Some e) o f = f

enumerator_spelt : (d c : ℕ) (n : Name) (v : Option Expr) (o : Option (Unit {0})) → on_enumerator d (enumerator_by n v o) ≡ (enumerator_parts d).leaves c (n, (v, o))
enumerator_spelt d c n None None = refl
enumerator_spelt d c n None (Some u) = refl
enumerator_spelt d c n (Some e) None = refl
enumerator_spelt d c n (Some e) (Some u) = refl

enumerator_after : (d c : ℕ) (n : Name) (v : Option Expr) (o : Option (Unit {0})) → c ≡ (enumerator_parts d).after c (n, (v, o))
enumerator_after d c n None None = refl
enumerator_after d c n None (Some u) = refl
enumerator_after d c n (Some e) None = refl
enumerator_after d c n (Some e) (Some u) = refl

enumerator_back : (d : ℕ) (e : Enumerator) → IsEnumerator e → (a : (enumerator_parts d).Tree) × (enumerator_parts d).Is a × (enumerator_by a.0 a.1.0 a.1.1 ≡ e)
enumerator_back d (enumerator n true) f = ((n, (None, Some tt)), (tt, (tt, tt)), refl)
enumerator_back d (enumerator n false) f = ((n, (None, None)), (tt, (tt, tt)), refl)
enumerator_back d (valued n e true) f = ((n, (Some e, Some tt)), (tt, (f, tt)), refl)
enumerator_back d (valued n e false) f = ((n, (Some e, None)), (tt, (f, tt)), refl)

enumerator_makes : (d : ℕ) → Makes (enumerator_parts d) (enumerator_class d) (λ (n, (v, comma)). enumerator_by n v comma)
enumerator_makes d = record {
  fits = λ a f. enumerator_fits a.0 a.1.0 a.1.1 f.1.0;
  spelt = λ c a. enumerator_spelt d c a.0 a.1.0 a.1.1;
  after = λ c a. enumerator_after d c a.0 a.1.0 a.1.1;
  back = enumerator_back d;
}

-- NAME [ "=" expr ] [ "," ]
enumerator_lawful : (d n : ℕ) (inner : Level) → Room d n → LevelLawful true d inner → Lawful (enumerator_class d) enumerator_info (enumerated n inner)
unfolding enumerated
enumerator_lawful d n inner e l =
    let comma = maybe_lawful (mark_lawful d n e marks.Comma) (is_mark marks.Comma) refl refl in
    let parts = joined (name_lawful d n e) (joined (values_lawful true d n inner e l) comma refl) refl in
    known (tree parts (enumerator_class d) _ (enumerator_makes d)) (record { first = refl; goes = refl; empty = refl })

-- ---- one enumerator or more

abbrev enumerator_rows : ℕ → Rows Enumerator
enumerator_rows d = record { first = λ c e. on_enumerator d e; leaves = λ c e. on_enumerator d e; after = λ c e. c; First = IsEnumerator; Is = IsEnumerator; some = enumerator no_name false; some_first = tt; some_is = tt }

abbrev AreListed : List Enumerator → Type 0
AreListed es = HasEnumerators (enumerators_of es) × AllByRecursion IsEnumerator es

abbrev list_class : ℕ → Class
list_class d = narrow (from_class (enumerator_rows d)) AreListed (enumerator no_name false ∷ []) (tt, (tt, tt))

abbrev IsOne : List Enumerator → Type 0
IsOne [] = ⊥
IsOne (e ∷ []) = IsEnumerator e
IsOne (e ∷ f ∷ es) = ⊥

one_makes : (d : ℕ) → Makes (enumerator_class d) (narrow (list_class d) IsOne (enumerator no_name false ∷ []) tt) (λ e. e ∷ [])
one_makes d = record {
  fits = λ a f. f;
  spelt = λ c a. append-nil (on_enumerator d a);
  after = λ c a. refl;
  back = elim [ [] ↦ λ f. absurd f | e ∷ [] ↦ λ f. (e, f, refl) | e ∷ g ∷ es ↦ λ f. absurd f ];
}

abbrev enumerator_link : ℕ → Link (List Enumerator)
enumerator_link d = record { Tree = Enumerator; leaves = λ front c e. on_enumerator d e; after = λ front c e. c; Is = λ front e. IsEnumerator e; some = λ front. enumerator no_name false; some_is = λ front. tt }

-- one more may stand behind a comma
abbrev IsParted : List Enumerator → Type 0
IsParted front = parted true front ≡ true

one_fits : (es : List Enumerator) → IsOne es → AreListed es
one_fits [] f = absurd f
one_fits (e ∷ []) f = (tt, (f, tt))
one_fits (e ∷ g ∷ es) f = absurd f

parted_pushed : (comma : Bool) (front : List Enumerator) (x : Enumerator) → AreParted comma (enumerators_of front) → parted comma front ≡ true → AreParted comma (enumerators_of (pushed front x))
parted_pushed comma [] x f m = (m, tt)
parted_pushed comma (e ∷ front) x f m = (f.0, parted_pushed (has_comma e) front x f.1 m)

pushed_fits : (front : List Enumerator) (x : Enumerator) → AreListed front → IsParted front → IsEnumerator x → AreListed (pushed front x)
pushed_fits [] x f m g = absurd f.0
pushed_fits (e ∷ front) x f m g = (parted_pushed (has_comma e) front x f.0 m, all_pushed IsEnumerator (e ∷ front) x f.1 g)

listed_from : (es : List Enumerator) → AreListed es → FromIs IsEnumerator IsEnumerator es
listed_from [] f = absurd f.0
listed_from (e ∷ es) f = f.1

parted_before : (comma : Bool) (before : List Enumerator) (a : Enumerator) (behind : List Enumerator) → AreParted comma (enumerators_of (before ++ a ∷ behind)) → AreParted comma (enumerators_of before) × (parted comma before ≡ true)
parted_before comma [] a behind f = (tt, f.0)
parted_before comma (x ∷ before) a behind f = let h = parted_before (has_comma x) before a behind f.1 in ((f.0, h.0), h.1)

listed_front : (first : Enumerator) (before : List Enumerator) (x : Enumerator) (behind : List Enumerator) → AreListed (first ∷ before ++ x ∷ behind) → AreListed (first ∷ before) × IsParted (first ∷ before) × IsEnumerator x
listed_front first before x behind f =
    let o = parted_before (has_comma first) before x behind f.0 in
    let a = all_before IsEnumerator (first ∷ before) x behind f.1 in
    ((o.0, a.0), o.1, a.1)

listed_built : (es : List Enumerator) → AreListed es → Built IsOne (λ a x. AreListed a × IsParted a × IsEnumerator x) pushed es
listed_built [] f = absurd f.0
listed_built (e ∷ es) f = built_behind IsOne (λ a x. AreListed a × IsParted a × IsEnumerator x) e [] es (base (e ∷ []) f.1.0)
    (λ before x behind q. listed_front e before x behind (subst (λ (y : List Enumerator). AreListed (e ∷ y)) q f))

behind_comma : (comma : Bool) (s : Sort) → comma ≡ true → is_name s ≡ true → begins_enumerator comma s ≡ true
behind_comma true s m e = e
behind_comma false s m e = absurd cc

comma_before : (comma : Bool) (s : Sort) → begins_enumerator comma s ≡ true → comma ≡ true
comma_before true s e = refl
comma_before false s e = absurd cc

begins_name : (comma : Bool) (s : Sort) → begins_enumerator comma s ≡ true → is_name s ≡ true
begins_name true s e = e
begins_name false s e = absurd cc

abbrev starts_behind : List Enumerator → Sort → Bool
starts_behind front = begins_enumerator (parted true front)

listed_linked : (d : ℕ) → LinkedBy (list_class d) (enumerator_link d) IsOne pushed IsParted starts_behind (λ _. is_name) enumerator_info enumerator_info
listed_linked d = record {
  fits_base = one_fits;
  fits = λ a x f m g. pushed_fits a x f m g;
  spelt = λ c a x f. from_pushed_leaves (enumerator_rows d) c a x (listed_from a f);
  after = λ c a x. pushed_after (λ (c : ℕ) (e : Enumerator). c) c a x;
  built = listed_built;
  told = λ a s m e. behind_comma (parted true a) s m e;
  may = λ a s e. comma_before (parted true a) s e;
  first_in = λ a s e. e;
  some = refl;
  apart_base = refl;
  apart_link = refl;
}

abbrev list_info : Info
list_info = record { first = is_name; goes = λ s. is_name s || (is_mark marks.Comma s || goes_init s); empty = false }

list_lawful : (d n : ℕ) (inner : Level) → Room d n → LevelLawful true d inner → Lawful (list_class d) list_info (chain_by (made (λ e. e ∷ []) (enumerated n inner)) (λ front. begins_enumerator (parted true front)) (λ front. enumerated n inner) pushed)
list_lawful d n inner e l =
    let one = enumerator_lawful d n inner e l in
    let first = tree one (narrow (list_class d) IsOne (enumerator no_name false ∷ []) tt) (λ e. e ∷ []) (one_makes d) in
    known (chained_by (list_class d) (enumerator_link d) IsOne (enumerator no_name false ∷ []) tt pushed IsParted starts_behind (λ _. is_name) enumerator_info enumerator_info (listed_linked d) is_name (λ a s e. begins_name (parted true a) s e)
    (made (λ e. e ∷ []) (enumerated n inner)) first (λ front. enumerated n inner) (λ front. one)) (record { first = refl; goes = refl; empty = refl })

-- ---- enumerators between braces

abbrev AreBraced : Enumerators → Type 0
AreBraced es = HasEnumerators es × AreEnumerators es

-- the enumerators of an enum of the level d, with their braces
abbrev pub enumerators_class : ℕ → Class
enumerators_class d = record {
  Tree = List Enumerator;
  leaves = λ c es. at (d + 1) (some_mark marks.OpenBrace) ∷ on_enumerators (d + 1) (enumerators_of es) ++ at (d + 1) (some_mark marks.CloseBrace) ∷ [];
  after = λ c es. c;
  Is = λ es. AreBraced (enumerators_of es);
  some = enumerator no_name false ∷ [];
  some_is = (tt, (tt, tt));
}

are_enumerators : (es : List Enumerator) → AllByRecursion IsEnumerator es → AreEnumerators (enumerators_of es)
are_enumerators [] f = tt
are_enumerators (e ∷ es) f = (f.0, are_enumerators es f.1)

all_enumerators : (es : List Enumerator) → AreEnumerators (enumerators_of es) → AllByRecursion IsEnumerator es
all_enumerators [] f = tt
all_enumerators (e ∷ es) f = (f.0, all_enumerators es f.1)

enumerators_more : (d c : ℕ) (es : List Enumerator) → on_enumerators d (enumerators_of es) ≡ row_leaves (λ (c : ℕ) (e : Enumerator). on_enumerator d e) (λ (c : ℕ) (e : Enumerator). c) c es
enumerators_more d c [] = refl
enumerators_more d c (e ∷ es) = ap (λ (ls : List Leaf). on_enumerator d e ++ ls) (enumerators_more d c es)

enumerators_spelt : (d c : ℕ) (es : List Enumerator) → on_enumerators d (enumerators_of es) ≡ from_leaves (λ (c : ℕ) (e : Enumerator). on_enumerator d e) (λ (c : ℕ) (e : Enumerator). on_enumerator d e) (λ (c : ℕ) (e : Enumerator). c) c es
enumerators_spelt d c [] = refl
enumerators_spelt d c (e ∷ es) = ap (λ (ls : List Leaf). on_enumerator d e ++ ls) (enumerators_more d c es)

enumerators_makes : (d : ℕ) → Makes (both (plain_class (d + 1) (mark_sign marks.OpenBrace) tt) (λ _. both (list_class (d + 1)) (λ _. plain_class (d + 1) (mark_sign marks.CloseBrace) tt))) (enumerators_class d) (λ (_, (all, _)). all)
enumerators_makes d = record {
  fits = λ a f. (f.1.0.0, are_enumerators a.1.0 f.1.0.1);
  spelt = λ c a. ap (λ (ls : List Leaf). at (d + 1) (some_mark marks.OpenBrace) ∷ ls ++ at (d + 1) (some_mark marks.CloseBrace) ∷ []) (enumerators_spelt (d + 1) c a.1.0);
  after = λ c a. sym (flat_after c a.1.0);
  back = λ b f. ((tt, (b, tt)), (tt, ((f.0, all_enumerators b f.1), tt)), refl);
}

-- "{" NAME [ "=" expr ] { "," NAME [ "=" expr ] } [ "," ] "}"
pub enumerators_lawful : (d n : ℕ) (inner : Level) → Room (d + 1) n → LevelLawful true (d + 1) inner → Lawful (enumerators_class d) (starts (is_mark marks.OpenBrace)) (enumerators n inner)
unfolding enumerators
enumerators_lawful d n inner e l =
    let parts = joined (mark_lawful (d + 1) n e marks.OpenBrace) (joined (list_lawful (d + 1) n inner e l) (mark_lawful (d + 1) n e marks.CloseBrace) refl) refl in
    known (tree parts (enumerators_class d) _ (enumerators_makes d)) (record { first = refl; goes = refl; empty = refl })

-- ---- the list of a row

pub enumerators_list : Enumerators → List Enumerator
enumerators_list no_enumerators = []
enumerators_list (more_enumerators e es) = e ∷ enumerators_list es

pub list_enumerators : (es : Enumerators) → enumerators_of (enumerators_list es) ≡ es
unfolding enumerators_list
list_enumerators no_enumerators = refl
list_enumerators (more_enumerators e es) = ap (more_enumerators e) (list_enumerators es)
