-- The laws of the members of a struct (C11 6.7.2.1), and of types and members where no room is left.
use Rattle.std.proofs.Common.{◌≡◌, ℕ, suc, ◌+◌, List, [], ◌∷◌, ◌++◌, Option, Some, None, Bool, true, false, refl, sym, ap, ◌∙◌, inl, inr, ◌⊎◌, append_assoc}
use Rattle.std.specs.Prelude.{◌||◌}
use Rattle.std.specs.List.{AllByRecursion}
use denote.Enum.Bare.{sameb, same_true}
use Rattle.c_lex.specs.declared.token.Word.{Word}
use Rattle.c_lex.specs.declared.token.Word.TheVariants as words
use Rattle.c_lex.specs.declared.token.Mark.TheVariants as marks
use Rattle.c_grammar.specs.declared.terminal.TerminalKind.{TerminalKind}
use Rattle.c_grammar.specs.declared.terminal.TerminalKind.TheVariants as kinds
use Rattle.c_grammar.specs.declared.terminal.Terminal.{Terminal}
use Rattle.c_lex.specs.declared.refusal.Kind.TheVariants.{TooDeep}
use Rattle.c_lex.specs.contracts.token.Word.{the_type as word_type}
use Rattle.c_tree.specs.declared.syntax.TypeWord.{TypeWord}
use Rattle.c_tree.specs.Syntax.{Spec, word, struct, struct_body, unnamed_struct, enum, enum_body, unnamed_enum, alias, Specs, no_specs, more_specs, specs_of, TypeName, type_name, Member, members_of, Declarator, declarator, no_exprs, Declarators, no_declarators, more_declarators, declarators_of}
use Rattle.c_grammar.specs.Leaves.{Leaf, at, word_at, type_at, some_mark, over}
use Rattle.c_grammar.specs.inner.Terminals.{IsSpelt}
use Rattle.c_grammar.specs.Grammar.{word_of_type, on_spec, on_specs, on_pointers, on_type, on_member, on_declarators, on_more_declarators, HasSpecs, AreSpecs, IsSpec, HasDeclarators, AreDeclarators, IsDeclarator, Naming, as_any, as_bare, naming_of, typed_row, on_declared}
use Rattle.c_grammar.specs.inner.Readers.{a_word, sort_of_kind, sort, Sort}
use Rattle.c_grammar.specs.inner.Tokens.{is_some, type_of_word, begins_type, is_mark}
use Rattle.c_grammar.specs.inner.Reading.{Level, membered, typed, any_declared, commas, bare_declared, declared}
use Rattle.c_grammar.proofs.Lawful.{Class, Lawful, both, told, Info, info_at, before_by}
use Rattle.c_grammar.proofs.Joints.{Makes, tree, known, TooDeepFor}
use Rattle.c_grammar.proofs.Loops.{row_leaves, FromIs, from_class, Rows, rest_class, chain_info, row_from_lawful}
use Rattle.c_grammar.proofs.TokenLaws.{Room, plain_class, mark_sign, mark_lawful, type_back, type_forth}
use Rattle.c_grammar.proofs.TreeClasses.{LevelLawful, type_class, member_class, member_info}
use Rattle.c_grammar.proofs.MoreJoints.{joined, flat_after, behind_comma, comma_info}
use Rattle.c_grammar.proofs.EnumLaws.{no_name}
use Rattle.c_grammar.proofs.SpecLaws.{specs_class, specs_lawful, specs_row, row_specs, specs_list, list_specs, specs_spelt, one_spec, specs_read, goes_behind}
use Rattle.c_grammar.proofs.Sorts.{are_apart, is_inside}
use Rattle.c_grammar.proofs.DeclaratorLaws.{declarator_class, declarator_info, bare_declarator_info, begins_bare, IsBareDeclarator, bare_declared_lawful, declared_lawful}

-- ---- declarators with commas between them

-- the first as it stands behind the specifiers, and any name in the others
abbrev declarator_rows : Naming → ℕ → Rows Declarator
declarator_rows k d = record { first = λ c x. on_declared d k x; leaves = behind_comma d (λ (c : ℕ) (x : Declarator). on_declared d as_any x); after = λ c x. c; First = IsBareDeclarator true; Is = IsDeclarator true; some = declarator [] no_name no_exprs; some_first = (tt, tt); some_is = tt }

abbrev declarators_class : Naming → ℕ → Class
declarators_class k d = from_class (declarator_rows k d)

are_declarators : (ds : List Declarator) → AllByRecursion (IsDeclarator true) ds → AreDeclarators true (declarators_of ds)
are_declarators [] f = tt
are_declarators (x ∷ ds) f = (f.0, are_declarators ds f.1)

all_declarators : (ds : List Declarator) → AreDeclarators true (declarators_of ds) → AllByRecursion (IsDeclarator true) ds
all_declarators [] f = tt
all_declarators (x ∷ ds) f = (f.0, all_declarators ds f.1)

declarators_row : (ds : List Declarator) → FromIs (IsBareDeclarator true) (IsDeclarator true) ds → HasDeclarators (declarators_of ds) × AreDeclarators true (declarators_of ds)
declarators_row [] f = absurd f
declarators_row (x ∷ ds) f = (f.0.0, (f.0.1, are_declarators ds f.1))

row_declarators : (ds : List Declarator) → HasDeclarators (declarators_of ds) → AreDeclarators true (declarators_of ds) → FromIs (IsBareDeclarator true) (IsDeclarator true) ds
row_declarators [] h f = absurd h
row_declarators (x ∷ ds) h f = ((h, f.0), all_declarators ds f.1)

declarators_list : Declarators → List Declarator
declarators_list no_declarators = []
declarators_list (more_declarators x ds) = x ∷ declarators_list ds

list_declarators : (ds : Declarators) → declarators_of (declarators_list ds) ≡ ds
unfolding declarators_list
list_declarators no_declarators = refl
list_declarators (more_declarators x ds) = ap (more_declarators x) (list_declarators ds)

declarators_more : (d c : ℕ) (ds : List Declarator) → on_more_declarators d (declarators_of ds) ≡ row_leaves (behind_comma d (λ (c : ℕ) (x : Declarator). on_declared d as_any x)) (λ (c : ℕ) (x : Declarator). c) c ds
declarators_more d c [] = refl
declarators_more d c (x ∷ ds) = ap (λ (ls : List Leaf). at d (some_mark marks.Comma) ∷ on_declared d as_any x ++ ls) (declarators_more d c ds)

declarators_spelt : (k : Naming) (d c : ℕ) (ds : List Declarator) → on_declarators d k (declarators_of ds) ≡ (declarators_class k d).leaves c ds
declarators_spelt k d c [] = refl
declarators_spelt k d c (x ∷ ds) = ap (λ (ls : List Leaf). on_declared d k x ++ ls) (declarators_more d c ds)

-- ---- members that are declared together

-- how the first name is told behind these specifiers
abbrev naming : List Spec → Naming
naming ss = naming_of (typed false ss)

abbrev ended_class : Naming → ℕ → Class
ended_class k d = both (declarators_class k d) (λ _. plain_class d (mark_sign marks.Semicolon) tt)

member_fits : (d : ℕ) (ss : List Spec) (ds : List Declarator) → (specs_class true d).Is ss → FromIs (IsBareDeclarator true) (IsDeclarator true) ds → (member_class d).Is (members_of (specs_of ss) (declarators_of ds))
member_fits d ss ds f g = let s = specs_row true ss f in let t = declarators_row ds g in (s.0, s.1, t.0, t.1)

member_spelt : (d c : ℕ) (ss : List Spec) (ds : List Declarator)
    → on_member d (members_of (specs_of ss) (declarators_of ds)) ≡ (specs_class true d).leaves c ss ++ ((declarators_class (naming ss) d).leaves ((specs_class true d).after c ss) ds ++ at d (some_mark marks.Semicolon) ∷ [])
member_spelt d c ss ds =
    append_assoc (on_specs d (specs_of ss)) (on_declarators d (naming ss) (declarators_of ds)) (at d (some_mark marks.Semicolon) ∷ [])
    ∙ ap (λ (ls : List Leaf). ls ++ (on_declarators d (naming ss) (declarators_of ds) ++ at d (some_mark marks.Semicolon) ∷ [])) (specs_spelt true d c ss)
    ∙ ap (λ (ls : List Leaf). (specs_class true d).leaves c ss ++ (ls ++ at d (some_mark marks.Semicolon) ∷ [])) (declarators_spelt (naming ss) d ((specs_class true d).after c ss) ds)

member_back : (d : ℕ) (ss : Specs) (ds : Declarators) → HasSpecs ss × AreSpecs true ss → HasDeclarators ds × AreDeclarators true ds
    → (a : List Spec × (List Declarator × Unit {0})) × ((specs_class true d).Is a.0 × (FromIs (IsBareDeclarator true) (IsDeclarator true) a.1.0 × Unit {0})) × (members_of (specs_of a.0) (declarators_of a.1.0) ≡ members_of ss ds)
member_back d ss ds f g =
    let are : HasSpecs (specs_of (specs_list ss)) × AreSpecs true (specs_of (specs_list ss)) = rw (list_specs ss) f in
    let is : HasDeclarators (declarators_of (declarators_list ds)) × AreDeclarators true (declarators_of (declarators_list ds)) = rw (list_declarators ds) g in (
      (specs_list ss, (declarators_list ds, tt)),
      (row_specs true (specs_list ss) are.0 are.1, (row_declarators (declarators_list ds) is.0 is.1, tt)),
      ap (λ (x : Specs). members_of x (declarators_of (declarators_list ds))) (list_specs ss) ∙ ap (members_of ss) (list_declarators ds),
    )

member_makes : (d : ℕ) → Makes (both (specs_class true d) (λ ss. ended_class (naming ss) d)) (member_class d) (λ (ss, (ds, _)). members_of (specs_of ss) (declarators_of ds))
member_makes d = record {
  fits = λ a f. member_fits d a.0 a.1.0 f.0 f.1.0;
  spelt = λ c a. member_spelt d c a.0 a.1.0;
  after = λ c a. sym (flat_after ((specs_class true d).after c a.0) a.1.0 ∙ flat_after c a.0);
  back = elim [ members_of ss ds ↦ λ f. member_back d ss ds (f.0, f.1) (f.2, f.3) ];
}

more_makes : (k : Naming) (d : ℕ) → Makes (both (plain_class d (mark_sign marks.Comma) tt) (λ _. declarator_class as_any true d)) (rest_class (declarator_rows k d)) (λ (_, x). x)
more_makes k d = record { fits = λ a f. f.1; spelt = λ c a. refl; after = λ c a. refl; back = λ x f. ((tt, x), (tt, f), refl) }

abbrev pub any_info : Info
any_info = record { first = begins_bare as_any; goes = λ s. false; empty = false }

declared_all : (k : Naming) (d n : ℕ) (inner : Level) → Room d (suc n) → LevelLawful true (d + 1) inner → Lawful (declarators_class k d) (chain_info (is_mark marks.Comma) (bare_declarator_info k) (comma_info (declarator_info as_any))) (commas (suc n) (bare_declared k (suc n) n inner) (declared as_any (suc n) n inner))
declared_all k d n inner e l =
    let part = tree (joined (mark_lawful d (suc n) e marks.Comma) (declared_lawful as_any true d n inner e l) refl) (rest_class (declarator_rows k d)) (λ (_, x). x) (more_makes k d) in
    row_from_lawful (declarator_rows k d) (bare_declared_lawful k true d n inner e l) part (is_mark marks.Comma) refl refl refl refl

-- ptr TNAME dims { "," ptr TNAME dims } ";"
any_lawful : (d n : ℕ) (inner : Level) → Room d (suc n) → LevelLawful true (d + 1) inner → (t : Bool) → Lawful (ended_class (naming_of t) d) (info_at any_info (begins_bare (naming_of t))) (any_declared (suc n) n inner t)
unfolding any_declared
any_lawful d n inner e l true = known (joined (declared_all as_any d n inner e l) (mark_lawful d (suc n) e marks.Semicolon) refl) (record { first = refl; goes = refl; empty = refl })
any_lawful d n inner e l false = known (joined (declared_all as_bare d n inner e l) (mark_lawful d (suc n) e marks.Semicolon) refl) (record { first = refl; goes = refl; empty = refl })

-- behind specifiers of a type any name may stand, and behind others no type's
pub any_away : (t : Bool) (s : Sort) → begins_bare (naming_of t) s ≡ true → goes_behind t s ≡ false
any_away true s e = are_apart (begins_bare as_any) (goes_behind true) refl s e
any_away false s e = are_apart (begins_bare as_bare) (goes_behind false) refl s e

pub any_inside : (t : Bool) (s : Sort) → begins_bare (naming_of t) s ≡ true → begins_bare as_any s ≡ true
any_inside true s e = e
any_inside false s e = is_inside (begins_bare as_bare) (begins_bare as_any) refl s e

-- specs ptr TNAME dims { "," ptr TNAME dims } ";"
pub member_lawful : (d n : ℕ) (inner : Level) → Room d (suc n) → LevelLawful true (d + 1) inner → Lawful (member_class d) member_info (membered (suc n) n inner)
unfolding membered
member_lawful d n inner e l =
    let parts = before_by {goes = λ ss. goes_behind (typed false ss)} {first = λ ss. begins_bare (naming ss)} any_info (specs_lawful true d n inner e l) (record {
      read = specs_read true d n inner e l;
      law = λ ss. any_lawful d n inner e l (typed false ss);
      away = λ ss. any_away (typed false ss);
      inside = λ ss. any_inside (typed false ss);
      some = refl;
    }) in
    known (tree parts (member_class d) _ (member_makes d)) (record { first = refl; goes = refl; empty = refl })

-- ---- where no room is left

-- the leaves begin with one of a type, which lies too deep
abbrev pub BeginsDeep : List Leaf → Type 0
BeginsDeep leaves = (l : Leaf) × (ls : List Leaf) × (leaves ≡ l ∷ ls) × (over l ≡ Some TooDeep) × (told begins_type l.sign ≡ true)

-- and the token is that
abbrev pub BeginsAt : Terminal → List Leaf → Type 0
BeginsAt t leaves = (l : Leaf) × (ls : List Leaf) × (leaves ≡ l ∷ ls) × (over l ≡ Some TooDeep) × IsSpelt l.sign t

type_word_begins : (w : TypeWord) → begins_type (a_word (word_of_type w)) ≡ true
type_word_begins w = rw (type_forth w) refl

pub spec_deep : (s : Spec) → BeginsDeep (on_spec 129 s)
spec_deep (word place w) = (at 129 (word_at place (word_of_type w)), [], refl, refl, type_word_begins w)
spec_deep (struct place tag) = (at 129 (word_at place words.Struct), _, refl, refl, refl)
spec_deep (alias n) = (at 129 (type_at n), [], refl, refl, refl)
spec_deep (struct_body place tag ms) = (at 129 (word_at place words.Struct), _, refl, refl, refl)
spec_deep (unnamed_struct place ms) = (at 129 (word_at place words.Struct), _, refl, refl, refl)
spec_deep (enum place tag) = (at 129 (word_at place words.Enum), _, refl, refl, refl)
spec_deep (enum_body place tag es) = (at 129 (word_at place words.Enum), _, refl, refl, refl)
spec_deep (unnamed_enum place es) = (at 129 (word_at place words.Enum), _, refl, refl, refl)

-- a word that a type begins with
abbrev BeginsType : Word → Type 0
BeginsType w = ((x : TypeWord) × (w ≡ word_of_type x)) ⊎ ((w ≡ words.Struct) ⊎ (w ≡ words.Enum))

tagged_start : (w : Word) (b : Bool) → sameb word_type w words.Struct ≡ b → (b || sameb word_type w words.Enum) ≡ true → (w ≡ words.Struct) ⊎ (w ≡ words.Enum)
tagged_start w true e h = inl (same_true word_type tt w words.Struct e)
tagged_start w false e h = inr (same_true word_type tt w words.Enum h)

type_start : (w : Word) (o : Option TypeWord) → type_of_word w ≡ o → (is_some o || (sameb word_type w words.Struct || sameb word_type w words.Enum)) ≡ true → BeginsType w
type_start w (Some x) e h = inl (x, type_back w x e)
type_start w None e h = inr (tagged_start w (sameb word_type w words.Struct) refl h)

-- a specifier that the token begins
pub spec_at : (b : Bool) (t : Terminal) → begins_type (sort t) ≡ true → (s : Spec) × IsSpec b s × BeginsAt t (on_spec 129 s)
spec_at b t h = by_kind t.kind refl h
  where
    by_word : (w : Word) → t.kind ≡ kinds.Word w → BeginsType w → (s : Spec) × IsSpec b s × BeginsAt t (on_spec 129 s)
    by_word w e (inl x) = (word t.from x.0, tt, (at 129 (word_at t.from (word_of_type x.0)), [], refl, refl, (e ∙ ap kinds.Word x.1, refl)))
    by_word w e (inr (inl s)) = (struct t.from no_name, tt, (at 129 (word_at t.from words.Struct), _, refl, refl, (e ∙ ap kinds.Word s, refl)))
    by_word w e (inr (inr s)) = (enum t.from no_name, tt, (at 129 (word_at t.from words.Enum), _, refl, refl, (e ∙ ap kinds.Word s, refl)))

    by_kind : (k : TerminalKind) → t.kind ≡ k → begins_type (sort_of_kind k) ≡ true → (s : Spec) × IsSpec b s × BeginsAt t (on_spec 129 s)
    by_kind (kinds.Word w) e i = by_word w e (type_start w (type_of_word w) refl i)
    by_kind kinds.TypeName e i = (alias (record { from = t.from; to = t.to }), tt, (at 129 (type_at (record { from = t.from; to = t.to })), [], refl, refl, (e, refl, refl)))
    by_kind _ e i = absurd cc

-- with leaves behind them
pub deep_behind : (ls behind : List Leaf) → BeginsDeep ls → BeginsDeep (ls ++ behind)
deep_behind ls behind b = (b.0, b.1 ++ behind, ap (λ (x : List Leaf). x ++ behind) b.2, b.3, b.4)

pub at_behind : (t : Terminal) (ls behind : List Leaf) → BeginsAt t ls → BeginsAt t (ls ++ behind)
at_behind t ls behind b = (b.0, b.1 ++ behind, ap (λ (x : List Leaf). x ++ behind) b.2, b.3, b.4)

specs_deep : (b : Bool) (ss : Specs) → HasSpecs ss → BeginsDeep (on_specs 129 ss)
specs_deep b no_specs h = absurd h
specs_deep b (more_specs s ss) h = deep_behind (on_spec 129 s) (on_specs 129 ss) (spec_deep s)

specs_at : (t : Terminal) (s : Spec) → BeginsAt t (on_spec 129 s) → BeginsAt t (on_specs 129 (more_specs s no_specs))
specs_at t s b = at_behind t (on_spec 129 s) [] b

type_deep : (b : Bool) (t : TypeName) → (type_class b 129).Is t → BeginsDeep (on_type 129 t)
type_deep b (type_name ss ps) f = deep_behind (on_specs 129 ss) (on_pointers 129 0 ps) (specs_deep b ss f.0)

-- type names
pub type_too_deep : (b : Bool) → TooDeepFor (type_class b 129) begins_type
type_too_deep b = record {
  deep = λ c a f. type_deep b a f;
  begins = λ c t h. let s = spec_at b t h in (type_name (more_specs s.0 no_specs) [], (one_spec s.0, (s.1, tt), tt), at_behind t (on_specs 129 (more_specs s.0 no_specs)) [] (specs_at t s.0 s.2));
}

member_deep : (m : Member) → (member_class 129).Is m → BeginsDeep (on_member 129 m)
member_deep (members_of ss ds) f = deep_behind (on_specs 129 ss ++ on_declarators 129 (naming_of (typed_row false ss)) ds) (at 129 (some_mark marks.Semicolon) ∷ []) (deep_behind (on_specs 129 ss) (on_declarators 129 (naming_of (typed_row false ss)) ds) (specs_deep true ss f.0))

abbrev one_declarator : Declarators
one_declarator = more_declarators (declarator [] no_name no_exprs) no_declarators

-- members
pub member_too_deep : TooDeepFor (member_class 129) begins_type
member_too_deep = record {
  deep = λ c a f. member_deep a f;
  begins = λ c t h. let s = spec_at true t h in (
    members_of (more_specs s.0 no_specs) one_declarator,
    (one_spec s.0, (s.1, tt), tt, (tt, tt)),
    at_behind t (on_specs 129 (more_specs s.0 no_specs) ++ on_declarators 129 (naming_of (typed_row false (more_specs s.0 no_specs))) one_declarator) (at 129 (some_mark marks.Semicolon) ∷ [])
        (at_behind t (on_specs 129 (more_specs s.0 no_specs)) (on_declarators 129 (naming_of (typed_row false (more_specs s.0 no_specs))) one_declarator) (specs_at t s.0 s.2)),
  );
}
