-- The laws of external declarations (C11 6.9), and of the reader of a whole file.
use Rattle.std.proofs.Common.{◌≡◌, ℕ, List, [], ◌∷◌, ◌++◌, Bool, true, false, refl, sym, ap, subst, ◌∙◌, append_assoc, inl, inr, ◌⊎◌}
use Rattle.std.specs.Prelude.{◌||◌}
use Rattle.std.specs.List.{AllByRecursion}
use Rattle.c_lex.specs.declared.token.Word.TheVariants as words
use Rattle.c_lex.specs.declared.token.Mark.TheVariants as marks
use Rattle.c_tree.specs.declared.syntax.Name.{Name}
use Rattle.c_tree.specs.declared.syntax.TypeWord.TheVariants as types
use Rattle.c_tree.specs.declared.syntax.Storage.{Storage}
use Rattle.c_tree.specs.declared.syntax.Storage.TheVariants as storages
use Rattle.c_tree.specs.Syntax.{Spec, word, Rest, nothing, External, types_by, external_of, Declarator, declarator, no_exprs}
use Rattle.c_grammar.specs.Leaves.{Leaf, at, some_word, declares, the_end}
use Rattle.c_grammar.specs.Grammar.{on_spec, on_each, on_storage, on_rest, name_of_declarator, on_types, on_typedef, on_external, StartsBareOf, IsDeclarator, IsExternal, Naming, as_any, as_bare, naming_of, on_declared}
use Rattle.c_grammar.specs.inner.Readers.{Sort, row, made, pushed, ◌&◌}
use Rattle.c_grammar.specs.inner.Tokens.{is_storage, is_word, is_mark, mark_is, tok}
use Rattle.c_grammar.specs.inner.Reading.{level_at, external_rest, typedef, external, begins_external, file, commas, declared, bare_declared, typed, any_declared}
use Rattle.c_grammar.proofs.Lawful.{Class, Info, Lawful, starts, both, before, info_at, before_by, both_info}
use Rattle.c_grammar.proofs.Joints.{Makes, tree, known, narrow}
use Rattle.c_grammar.proofs.Loops.{row_class, row_lawful, Link, link_class, Built, base, Linked, chained, built_behind, all_pushed, all_before, chain_info}
use Rattle.c_grammar.proofs.TokenLaws.{plain_class, word_sign, word_lawful, declares_lawful, storage_sign, storage_lawful, end_sign, is_end, end_lawful}
use Rattle.c_grammar.proofs.TreeClasses.{LevelLawful}
use Rattle.c_grammar.proofs.FileLaws.{file_class}
use Rattle.c_grammar.proofs.MoreJoints.{joined, flat_after, each_spelt, some_spelt, Forms, formed, either_lawful, comma_info}
use Rattle.c_grammar.proofs.EnumLaws.{no_name}
use Rattle.c_grammar.proofs.SpecLaws.{specs_class, specs_lawful, specs_some, some_specs, specs_read, goes_behind}
use Rattle.c_grammar.proofs.DeclaratorLaws.{declarator_class, declarator_info, IsBareDeclarator, bare_declarator_class, bare_declarator_info, declared_lawful, bare_declared_lawful, begins_bare}
use Rattle.c_grammar.proofs.MemberLaws.{any_info, any_away, any_inside}
use Rattle.c_grammar.proofs.RestLaws.{rest_class, begins_rest}

-- ---- the declarators of a typedef

abbrev some_declarator : Declarator
some_declarator = declarator [] no_name no_exprs

-- declarators with commas between them, from each of which on a name is a type's
abbrev front_from : Naming → Declarator → List Declarator → List Leaf
front_from k x [] = on_declared 0 k x
front_from k x (y ∷ ds) = on_declared 0 k x ++ at 0 (declares marks.Comma (name_of_declarator x)) ∷ front_from as_any y ds

abbrev front_leaves : Naming → List Declarator → List Leaf
front_leaves k [] = []
front_leaves k (x ∷ ds) = front_from k x ds

-- the last of the names
abbrev last_from : Declarator → List Declarator → Name
last_from x [] = name_of_declarator x
last_from x (y ∷ ds) = last_from y ds

abbrev last_name : List Declarator → Name
last_name [] = no_name
last_name (x ∷ ds) = last_from x ds

abbrev AreTypes : List Declarator → Type 0
AreTypes ds = StartsBareOf ds × AllByRecursion (IsDeclarator true) ds

abbrev types_class : Naming → Class
types_class k = record { Tree = List Declarator; leaves = λ c ds. front_leaves k ds; after = λ c ds. c; Is = AreTypes; some = some_declarator ∷ []; some_is = (tt, (tt, tt)) }

abbrev IsOneType : List Declarator → Type 0
IsOneType [] = ⊥
IsOneType (x ∷ []) = IsBareDeclarator true x
IsOneType (x ∷ y ∷ ds) = ⊥

abbrev types_link : Link (List Declarator)
types_link = record { Tree = Declarator; leaves = λ front c x. at 0 (declares marks.Comma (last_name front)) ∷ on_declared 0 as_any x; after = λ front c x. c; Is = λ front. IsDeclarator true; some = λ front. some_declarator; some_is = λ front. tt }

one_type_makes : (k : Naming) → Makes (bare_declarator_class k true 0) (narrow (types_class k) IsOneType (some_declarator ∷ []) (tt, tt)) (λ x. x ∷ [])
one_type_makes k = record {
  fits = λ a f. f;
  spelt = λ c a. refl;
  after = λ c a. refl;
  back = elim [ [] ↦ λ f. absurd f | x ∷ [] ↦ λ f. (x, f, refl) | x ∷ y ∷ ds ↦ λ f. absurd f ];
}

link_makes : (front : List Declarator) → Makes (both (plain_class 0 (λ (u : Unit {0}). declares marks.Comma (last_name front)) tt) (λ _. declarator_class as_any true 0)) (link_class types_link front) (λ (_, x). x)
link_makes front = record { fits = λ a f. f.1; spelt = λ c a. refl; after = λ c a. refl; back = λ x f. ((tt, x), (tt, f), refl) }

one_type_fits : (ds : List Declarator) → IsOneType ds → AreTypes ds
one_type_fits [] f = absurd f
one_type_fits (x ∷ []) f = (f.0, (f.1, tt))
one_type_fits (x ∷ y ∷ ds) f = absurd f

types_pushed : (ds : List Declarator) (x : Declarator) → AreTypes ds → IsDeclarator true x → AreTypes (pushed ds x)
types_pushed [] x f g = absurd f.0
types_pushed (y ∷ ds) x f g = (f.0, all_pushed (IsDeclarator true) (y ∷ ds) x f.1 g)

front_pushed : (k : Naming) (x : Declarator) (ds : List Declarator) (y : Declarator) → front_from k x (pushed ds y) ≡ front_from k x ds ++ at 0 (declares marks.Comma (last_from x ds)) ∷ on_declared 0 as_any y
front_pushed k x [] y = refl
front_pushed k x (z ∷ ds) y =
    let comma : Leaf = at 0 (declares marks.Comma (name_of_declarator x)) in
    let behind : List Leaf = at 0 (declares marks.Comma (last_from z ds)) ∷ on_declared 0 as_any y in
    ap (λ (ls : List Leaf). on_declared 0 k x ++ comma ∷ ls) (front_pushed as_any z ds y) ∙ sym (append_assoc (on_declared 0 k x) (comma ∷ front_from as_any z ds) behind)

leaves_pushed : (k : Naming) (ds : List Declarator) (y : Declarator) → AreTypes ds → front_leaves k (pushed ds y) ≡ front_leaves k ds ++ at 0 (declares marks.Comma (last_name ds)) ∷ on_declared 0 as_any y
leaves_pushed k [] y f = absurd f.0
leaves_pushed k (x ∷ ds) y f = front_pushed k x ds y

types_front : (first : Declarator) (before : List Declarator) (x : Declarator) (behind : List Declarator) → AreTypes (first ∷ before ++ x ∷ behind) → AreTypes (first ∷ before) × IsDeclarator true x
types_front first before x behind f = let a = all_before (IsDeclarator true) (first ∷ before) x behind f.1 in ((f.0, a.0), a.1)

types_built : (ds : List Declarator) → AreTypes ds → Built IsOneType (λ a x. AreTypes a × IsDeclarator true x) pushed ds
types_built [] f = absurd f.0
types_built (x ∷ ds) f = built_behind IsOneType (λ a x. AreTypes a × IsDeclarator true x) x [] ds (base (x ∷ []) (f.0, f.1.0))
    (λ before y behind e. types_front x before y behind (subst (λ (z : List Declarator). AreTypes (x ∷ z)) e f))

abbrev more_types_info : Info
more_types_info = comma_info (declarator_info as_any)

types_linked : (k : Naming) → Linked (types_class k) types_link IsOneType pushed (is_mark marks.Comma) (bare_declarator_info k) more_types_info
types_linked k = record {
  fits_base = one_type_fits;
  fits = λ a x f g. types_pushed a x f g;
  spelt = λ c a x f. leaves_pushed k a x f;
  after = λ c a x. refl;
  built = types_built;
  told = refl;
  some = refl;
  apart_base = refl;
  apart_link = refl;
}

types_all : (k : Naming) → LevelLawful true 1 (level_at true 128) → Lawful (types_class k) (chain_info (is_mark marks.Comma) (bare_declarator_info k) more_types_info) (commas 129 (bare_declared k 129 128 (level_at true 128)) (declared as_any 129 128 (level_at true 128)))
types_all k m =
    let first = tree (bare_declared_lawful k true 0 128 (level_at true 128) refl m) (narrow (types_class k) IsOneType (some_declarator ∷ []) (tt, tt)) (λ x. x ∷ []) (one_type_makes k) in
    chained (types_class k) types_link IsOneType (some_declarator ∷ []) (tt, tt) pushed (is_mark marks.Comma) (bare_declarator_info k) more_types_info (types_linked k)
    (made (λ x. x ∷ []) (bare_declared k 129 128 (level_at true 128))) first
    (λ front. made (λ (_, x). x) (tok 129 (mark_is marks.Comma) & declared as_any 129 128 (level_at true 128)))
    (λ front. tree (joined (declares_lawful 0 129 refl marks.Comma (last_name front)) (declared_lawful as_any true 0 128 (level_at true 128) refl m) refl) (link_class types_link front) _ (link_makes front))

abbrev ended_types : Naming → Class
ended_types k = both (types_class k) (λ ds. plain_class 0 (λ (u : Unit {0}). declares marks.Semicolon (last_name ds)) tt)

types_ended : (k : Naming) → LevelLawful true 1 (level_at true 128) → Lawful (ended_types k) (both_info (chain_info (is_mark marks.Comma) (bare_declarator_info k) more_types_info) (starts (is_mark marks.Semicolon))) (commas 129 (bare_declared k 129 128 (level_at true 128)) (declared as_any 129 128 (level_at true 128)) & tok 129 (mark_is marks.Semicolon))
types_ended k m = before (types_all k m) (λ ds f. declares_lawful 0 129 refl marks.Semicolon (last_name ds)) refl (λ ds. (declares_lawful 0 129 refl marks.Semicolon (last_name ds)).steady)

-- ptr TNAME dims { "," ptr TNAME dims } ";"
types_lawful : LevelLawful true 1 (level_at true 128) → (t : Bool) → Lawful (ended_types (naming_of t)) (info_at any_info (begins_bare (naming_of t))) (any_declared 129 128 (level_at true 128) t)
unfolding any_declared
types_lawful m true = known (types_ended as_any m) (record { first = refl; goes = refl; empty = refl })
types_lawful m false = known (types_ended as_bare m) (record { first = refl; goes = refl; empty = refl })

-- ---- external declarations

abbrev pub external_class : Class
external_class = record { Tree = External; leaves = λ c e. on_external 0 e; after = λ c e. c; Is = IsExternal; some = external_of [] (word 0 types.Int ∷ []) nothing; some_is = ((tt, (tt, tt)), tt) }

-- one that makes types
abbrev IsTypedef : External → Type 0
IsTypedef (types_by ss ds) = IsExternal (types_by ss ds)
IsTypedef (external_of storage ss r) = ⊥

abbrev some_typedef : External
some_typedef = types_by (word 0 types.Int ∷ []) (some_declarator ∷ [])

abbrev typedef_class : Class
typedef_class = narrow external_class IsTypedef some_typedef ((tt, (tt, tt)), tt, (tt, tt))

-- how the first name is told behind these specifiers
abbrev naming : List Spec → Naming
naming ss = naming_of (typed false ss)

abbrev typedef_parts : Class
typedef_parts = both (plain_class 0 (word_sign words.Typedef) tt) (λ _. both (specs_class true 0) (λ ss. ended_types (naming ss)))

types_end : (k : Naming) (x : Declarator) (ds : List Declarator) → on_types 0 k x ds ≡ front_from k x ds ++ at 0 (declares marks.Semicolon (last_from x ds)) ∷ []
types_end k x [] = refl
types_end k x (y ∷ ds) =
    let comma : Leaf = at 0 (declares marks.Comma (name_of_declarator x)) in
    ap (λ (ls : List Leaf). on_declared 0 k x ++ comma ∷ ls) (types_end as_any y ds) ∙ sym (append_assoc (on_declared 0 k x) (comma ∷ front_from as_any y ds) (at 0 (declares marks.Semicolon (last_from y ds)) ∷ []))

typedef_end : (k : Naming) (ds : List Declarator) → AreTypes ds → on_typedef 0 k ds ≡ front_leaves k ds ++ at 0 (declares marks.Semicolon (last_name ds)) ∷ []
typedef_end k [] f = absurd f.0
typedef_end k (x ∷ ds) f = types_end k x ds

typedef_spelt : (c : ℕ) (ss : List Spec) (ds : List Declarator) → AreTypes ds → on_external 0 (types_by ss ds) ≡ typedef_parts.leaves c (tt, (ss, (ds, tt)))
typedef_spelt c ss ds f =
    ap (λ (ls : List Leaf). at 0 (some_word words.Typedef) ∷ ls ++ on_typedef 0 (naming ss) ds) (some_spelt (on_spec 0) c ss)
    ∙ ap (λ (ls : List Leaf). at 0 (some_word words.Typedef) ∷ (specs_class true 0).leaves c ss ++ ls) (typedef_end (naming ss) ds f)

typedef_forms : Forms typedef_parts typedef_class (λ (_, (ss, (ds, _))). types_by ss ds)
typedef_forms = record {
  fits = λ a f. (specs_some true a.1.0 f.1.0, f.1.1.0.0, f.1.1.0.1);
  spelt = λ c a f. typedef_spelt c a.1.0 a.1.1.0 f.1.1.0;
  after = λ c a f. sym (flat_after c a.1.0);
  back = elim [ types_by ss ds ↦ λ f. ((tt, (ss, (ds, tt))), (tt, (some_specs true ss f.0, ((f.1, f.2), tt))), refl) | external_of storage ss r ↦ λ f. absurd f ];
}

-- "typedef" specs ptr TNAME dims { "," ptr TNAME dims } ";"
typedef_lawful : LevelLawful true 1 (level_at true 128) → Lawful typedef_class (starts (is_word words.Typedef)) typedef
unfolding typedef
typedef_lawful m =
    let behind = before_by {goes = λ ss. goes_behind (typed false ss)} {first = λ ss. begins_bare (naming ss)} any_info (specs_lawful true 0 128 (level_at true 128) refl m) (record {
      read = specs_read true 0 128 (level_at true 128) refl m;
      law = λ ss. types_lawful m (typed false ss);
      away = λ ss. any_away (typed false ss);
      inside = λ ss. any_inside (typed false ss);
      some = refl;
    }) in
    known (formed (joined (word_lawful 0 129 refl words.Typedef) behind refl) typedef_class _ typedef_forms) (record { first = refl; goes = refl; empty = refl })

-- any other
abbrev IsOther : External → Type 0
IsOther (types_by ss ds) = ⊥
IsOther (external_of storage ss r) = IsExternal (external_of storage ss r)

abbrev other_class : Class
other_class = narrow external_class IsOther (external_of [] (word 0 types.Int ∷ []) nothing) ((tt, (tt, tt)), tt)

abbrev storage_class : Class
storage_class = plain_class 0 storage_sign storages.Static

abbrev external_parts : Class
external_parts = both (row_class storage_class) (λ _. both (specs_class true 0) (λ _. rest_class))

any_storage : (ss : List Storage) → (row_class storage_class).Is ss
any_storage [] = tt
any_storage (s ∷ ss) = (tt, any_storage ss)

external_spelt : (c : ℕ) (storage : List Storage) (ss : List Spec) (r : Rest) → on_external 0 (external_of storage ss r) ≡ external_parts.leaves c (storage, (ss, r))
external_spelt c storage ss r =
    append_assoc (on_each (on_storage 0) storage) (on_each (on_spec 0) ss) (on_rest 0 r)
    ∙ ap (λ (ls : List Leaf). ls ++ (on_each (on_spec 0) ss ++ on_rest 0 r)) (each_spelt (on_storage 0) c storage)
    ∙ ap (λ (ls : List Leaf). (row_class storage_class).leaves c storage ++ (ls ++ on_rest 0 r)) (some_spelt (on_spec 0) ((row_class storage_class).after c storage) ss)

external_makes : Makes external_parts other_class (λ (storage, (ss, r)). external_of storage ss r)
external_makes = record {
  fits = λ a f. (specs_some true a.1.0 f.1.0, f.1.1);
  spelt = λ c a. external_spelt c a.0 a.1.0 a.1.1;
  after = λ c a. sym (flat_after ((row_class storage_class).after c a.0) a.1.0 ∙ flat_after c a.0);
  back = elim [ types_by ss ds ↦ λ f. absurd f | external_of storage ss r ↦ λ f. ((storage, (ss, r)), (any_storage storage, (some_specs true ss f.0, f.1)), refl) ];
}

typedef_fits : (e : External) → IsTypedef e → IsExternal e
typedef_fits (types_by ss ds) f = f
typedef_fits (external_of storage ss r) f = absurd f

other_fits : (e : External) → IsOther e → IsExternal e
other_fits (types_by ss ds) f = absurd f
other_fits (external_of storage ss r) f = f

which_external : (e : External) → IsExternal e → IsTypedef e ⊎ IsOther e
which_external (types_by ss ds) f = inl f
which_external (external_of storage ss r) f = inr f

-- external
pub external_lawful : LevelLawful true 1 (level_at true 128) → Lawful rest_class (starts begins_rest) external_rest → Lawful external_class (starts begins_external) external
unfolding external
external_lawful m r =
    let storage = row_lawful (storage_lawful 0 129 refl) is_storage refl refl refl refl in
    let parts = joined storage (joined (specs_lawful true 0 128 (level_at true 128) refl m) r refl) refl in
    let other = tree parts other_class (λ (storage, (ss, r)). external_of storage ss r) external_makes in
    let all = either_lawful external_class IsTypedef IsOther some_typedef (external_of [] (word 0 types.Int ∷ []) nothing) ((tt, (tt, tt)), tt, (tt, tt)) ((tt, (tt, tt)), tt) (typedef_lawful m) other (is_word words.Typedef) refl refl refl typedef_fits other_fits which_external in
    known all (record { first = refl; goes = refl; empty = refl })

-- ---- files

abbrev pub externals_class : Class
externals_class = row_class external_class

abbrev pub externals_info : Info
externals_info = record { first = begins_external; goes = begins_external; empty = true }

abbrev pub ended_class : Class
ended_class = both externals_class (λ _. plain_class 0 end_sign tt)

abbrev pub begins_file : Sort → Bool
begins_file s = begins_external s || is_end s

pub file_spelt : (c : ℕ) (all : List External) → on_each (on_external 0) all ++ at 0 the_end ∷ [] ≡ externals_class.leaves c all ++ at 0 the_end ∷ []
file_spelt c all = ap (λ (ls : List Leaf). ls ++ at 0 the_end ∷ []) (each_spelt (on_external 0) c all)

file_makes : Makes ended_class file_class (λ (all, _). record { externals = all })
file_makes = record {
  fits = λ a f. f.0;
  spelt = λ c a. file_spelt c a.0;
  after = λ c a. sym (flat_after c a.0);
  back = λ x f. ((x.externals, tt), (f, tt), refl);
}

pub externals_lawful : Lawful external_class (starts begins_external) external → Lawful externals_class externals_info (row begins_external external)
externals_lawful l = known (row_lawful l begins_external refl refl refl refl) (record { first = refl; goes = refl; empty = refl })

-- { external } End
pub file_lawful : Lawful external_class (starts begins_external) external → Lawful file_class (starts begins_file) file
unfolding file
file_lawful l = known (tree (joined (externals_lawful l) (end_lawful 0 129 refl) refl) file_class _ file_makes) (record { first = refl; goes = refl; empty = refl })
