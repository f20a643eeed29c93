-- The laws of specifiers (C11 6.7.1 to 6.7.3), with what is between the braces of a struct or an enum.
use Rattle.std.proofs.Common.{◌≡◌, ℕ, suc, ◌+◌, List, [], ◌∷◌, ◌++◌, Some, Bool, true, false, refl, sym, ap, subst, inl, inr, ◌⊎◌, arith}
use Rattle.std.proofs.lemmas.List.{append-nil}
use Rattle.std.specs.Prelude.{◌||◌}
use Rattle.std.specs.List.{AllByRecursion}
use denote.Enum.Bare.{sameb, same_true}
use Rattle.c_lex.specs.declared.token.Word.{Word}
use Rattle.c_lex.specs.declared.token.Word.TheVariants as words
use Rattle.c_lex.specs.declared.token.Mark.TheVariants as marks
use Rattle.c_lex.specs.contracts.token.Word.{the_type as word_type}
use Rattle.c_grammar.specs.declared.terminal.Terminal.{Terminal}
use Rattle.c_tree.specs.declared.syntax.TypeWord.TheVariants as types
use Rattle.c_tree.specs.Syntax.{Spec, word, struct, struct_body, unnamed_struct, enum, enum_body, unnamed_enum, alias, Enumerator, Member, Members, no_members, more_members, members_row, Enumerators, enumerators_of, Specs, no_specs, more_specs, specs_of}
use Rattle.c_grammar.specs.Leaves.{Leaf, at, type_at, some_mark}
use Rattle.c_grammar.specs.Grammar.{on_spec, on_specs, on_member, on_members, OneNamed, HasSpecs, HasMembers, HasEnumerators, IsSpec, AreSpecs, IsMember, AreMembers, AreEnumerators, IsSpecList, typed_by}
use Rattle.c_grammar.specs.inner.Readers.{Sort, a_word, got, made, pushed}
use Rattle.c_grammar.specs.inner.Tokens.{is_some, is_word, is_mark, type_of_word, is_type_name, begins_type_word, begins_type}
use Rattle.c_grammar.specs.inner.Reading.{Level, Tagged, by_tag, by_both, by_body, SpecStart, TypeWords, StructWord, EnumWord, if_spec, spec_start, members, struct_by, enum_by, spec_by, spec, spec_behind, typed, begins_spec, specs}
use Rattle.c_grammar.proofs.Lawful.{Class, Info, Lawful, Follows, starts, both, info_at}
use Rattle.c_grammar.proofs.Runs.{Within}
use Rattle.c_grammar.proofs.Joints.{Makes, tree, known, narrow, chosen}
use Rattle.c_grammar.proofs.Loops.{row_leaves, from_leaves, FromIs, Rows, from_class, row_from_lawful, from_pushed_leaves, pushed_after, Link, Built, base, LinkedBy, chained_by, chain_complete, built_behind, all_pushed, all_before}
use Rattle.c_grammar.proofs.TokenLaws.{Room, plain_class, word_place_sign, word_place_lawful, mark_lawful, mark_sign, is_type_word, type_word_sign, type_word_lawful, type_name_lawful, shallow}
use Rattle.c_grammar.proofs.Respelling.{retold}
use Rattle.c_grammar.proofs.Sorts.{is_inside}
use Rattle.c_grammar.proofs.TreeClasses.{member_class, member_info, LevelLawful}
use Rattle.c_grammar.proofs.MoreJoints.{joined, flat_after, either_lawful}
use Rattle.c_grammar.proofs.EnumLaws.{no_name, enumerators_class, enumerators_lawful, enumerators_list, list_enumerators}
use Rattle.c_grammar.proofs.TaggedLaws.{tagged_class, tagged_lawful}

-- ---- members between braces

abbrev pub member_rows : ℕ → Rows Member
member_rows d = record { first = λ c m. on_member d m; leaves = λ c m. on_member d m; after = λ c m. c; First = IsMember; Is = IsMember; some = (member_class d).some; some_first = (member_class d).some_is; some_is = (member_class d).some_is }

abbrev AreBraced : Members → Type 0
AreBraced ms = HasMembers ms × AreMembers ms

-- the members of a struct of the level d, with their braces
abbrev pub braces_class : ℕ → Class
braces_class d = record {
  Tree = List Member;
  leaves = λ c ms. at (d + 1) (some_mark marks.OpenBrace) ∷ on_members (d + 1) (members_row ms) ++ at (d + 1) (some_mark marks.CloseBrace) ∷ [];
  after = λ c ms. c;
  Is = λ ms. AreBraced (members_row ms);
  some = (member_class d).some ∷ [];
  some_is = (tt, ((member_class d).some_is, tt));
}

are_members : (ms : List Member) → AllByRecursion IsMember ms → AreMembers (members_row ms)
are_members [] f = tt
are_members (m ∷ ms) f = (f.0, are_members ms f.1)

all_members : (ms : List Member) → AreMembers (members_row ms) → AllByRecursion IsMember ms
all_members [] f = tt
all_members (m ∷ ms) f = (f.0, all_members ms f.1)

braced_of : (ms : List Member) → FromIs IsMember IsMember ms → AreBraced (members_row ms)
braced_of [] f = absurd f
braced_of (m ∷ ms) f = (tt, (f.0, are_members ms f.1))

braced_from : (ms : List Member) → AreBraced (members_row ms) → FromIs IsMember IsMember ms
braced_from [] f = absurd f.0
braced_from (m ∷ ms) f = (f.1.0, all_members ms f.1.1)

members_more : (d c : ℕ) (ms : List Member) → on_members d (members_row ms) ≡ row_leaves (λ (c : ℕ) (m : Member). on_member d m) (λ (c : ℕ) (m : Member). c) c ms
members_more d c [] = refl
members_more d c (m ∷ ms) = ap (λ (ls : List Leaf). on_member d m ++ ls) (members_more d c ms)

members_spelt : (d c : ℕ) (ms : List Member) → on_members d (members_row ms) ≡ from_leaves (λ (c : ℕ) (m : Member). on_member d m) (λ (c : ℕ) (m : Member). on_member d m) (λ (c : ℕ) (m : Member). c) c ms
members_spelt d c [] = refl
members_spelt d c (m ∷ ms) = ap (λ (ls : List Leaf). on_member d m ++ ls) (members_more d c ms)

members_makes : (d : ℕ) → Makes (both (plain_class (d + 1) (mark_sign marks.OpenBrace) tt) (λ _. both (from_class (member_rows (d + 1))) (λ _. plain_class (d + 1) (mark_sign marks.CloseBrace) tt))) (braces_class d) (λ (_, (all, _)). all)
members_makes d = record {
  fits = λ a f. braced_of a.1.0 f.1.0;
  spelt = λ c a. ap (λ (ls : List Leaf). at (d + 1) (some_mark marks.OpenBrace) ∷ ls ++ at (d + 1) (some_mark marks.CloseBrace) ∷ []) (members_spelt (d + 1) c a.1.0);
  after = λ c a. sym (flat_after c a.1.0);
  back = λ b f. ((tt, (b, tt)), (tt, (braced_from b f, tt)), refl);
}

-- "{" member { member } "}"
pub members_lawful : (d n : ℕ) (inner : Level) → Room (d + 1) n → Lawful (member_class (d + 1)) member_info inner.member → Lawful (braces_class d) (starts (is_mark marks.OpenBrace)) (members n inner)
unfolding members
members_lawful d n inner e m =
    let rows = row_from_lawful (member_rows (d + 1)) m m begins_type refl refl refl refl in
    let parts = joined (mark_lawful (d + 1) n e marks.OpenBrace) (joined rows (mark_lawful (d + 1) n e marks.CloseBrace) refl) refl in
    known (tree parts (braces_class d) _ (members_makes d)) (record { first = refl; goes = refl; empty = refl })

-- ---- specifiers

-- a specifier that is no type's name
abbrev IsWordSpec : Bool → Spec → Type 0
IsWordSpec b (alias n) = ⊥
IsWordSpec b s = IsSpec b s

abbrev spec_class : Bool → ℕ → Class
spec_class b d = record { Tree = Spec; leaves = λ c s. on_spec d s; after = λ c s. c; Is = IsWordSpec b; some = word 0 types.Int; some_is = tt }

-- a specifier that begins so
abbrev pub WhichSpec : Bool → SpecStart → Spec → Type 0
WhichSpec b TypeWords (word place w) = Unit {0}
WhichSpec b StructWord (struct place tag) = Unit {0}
WhichSpec b StructWord (struct_body place tag ms) = (b ≡ true) × HasMembers ms × AreMembers ms
WhichSpec b StructWord (unnamed_struct place ms) = (b ≡ true) × HasMembers ms × AreMembers ms
WhichSpec b EnumWord (enum place tag) = Unit {0}
WhichSpec b EnumWord (enum_body place tag es) = (b ≡ true) × HasEnumerators es × AreEnumerators es
WhichSpec b EnumWord (unnamed_enum place es) = (b ≡ true) × HasEnumerators es × AreEnumerators es
WhichSpec b _ _ = ⊥

abbrev some_spec : (b : Bool) (s : SpecStart) → (a : Spec) × WhichSpec b s a
some_spec b TypeWords = (word 0 types.Int, tt)
some_spec b StructWord = (struct 0 no_name, tt)
some_spec b EnumWord = (enum 0 no_name, tt)

abbrev spec_part_info : SpecStart → Info
spec_part_info TypeWords = starts is_type_word
spec_part_info StructWord = record { first = is_word words.Struct; goes = is_mark marks.OpenBrace; empty = false }
spec_part_info EnumWord = record { first = is_word words.Enum; goes = is_mark marks.OpenBrace; empty = false }

abbrev pub spec_info : Info
spec_info = record { first = begins_type_word; goes = is_mark marks.OpenBrace; empty = false }

spec_fits : (b : Bool) (s : SpecStart) (a : Spec) → WhichSpec b s a → IsWordSpec b a
spec_fits b TypeWords (word place w) f = tt
spec_fits b StructWord (struct place tag) f = tt
spec_fits b StructWord (struct_body place tag ms) f = f
spec_fits b StructWord (unnamed_struct place ms) f = f
spec_fits b EnumWord (enum place tag) f = tt
spec_fits b EnumWord (enum_body place tag es) f = f
spec_fits b EnumWord (unnamed_enum place es) f = f
spec_fits b _ _ f = absurd f

spec_which : (b : Bool) (a : Spec) → IsWordSpec b a → (s : SpecStart) × WhichSpec b s a
spec_which b (word place w) f = (TypeWords, tt)
spec_which b (struct place tag) f = (StructWord, tt)
spec_which b (struct_body place tag ms) f = (StructWord, f)
spec_which b (unnamed_struct place ms) f = (StructWord, f)
spec_which b (enum place tag) f = (EnumWord, tt)
spec_which b (enum_body place tag es) f = (EnumWord, f)
spec_which b (unnamed_enum place es) f = (EnumWord, f)
spec_which b (alias n) f = absurd f

struct_told : (w : Word) → w ≡ words.Struct → if_spec (is_some (type_of_word w)) (sameb word_type w words.Struct) (sameb word_type w words.Enum) ≡ Some StructWord
struct_told w e = rw e refl

enum_told : (w : Word) → w ≡ words.Enum → if_spec (is_some (type_of_word w)) (sameb word_type w words.Struct) (sameb word_type w words.Enum) ≡ Some EnumWord
enum_told w e = rw e refl

spec_told : (s : SpecStart) (x : Sort) → (spec_part_info s).first x ≡ true → spec_start x ≡ Some s
spec_told TypeWords (a_word w) h = rw h refl
spec_told TypeWords _ h = absurd cc
spec_told StructWord (a_word w) h = struct_told w (same_true word_type tt w words.Struct h)
spec_told StructWord _ h = absurd cc
spec_told EnumWord (a_word w) h = enum_told w (same_true word_type tt w words.Enum h)
spec_told EnumWord _ h = absurd cc

spec_first : (s : SpecStart) (x : Sort) → (spec_part_info s).first x ≡ true → begins_type_word x ≡ true
spec_first TypeWords x h = is_inside is_type_word begins_type_word refl x h
spec_first StructWord x h = is_inside (is_word words.Struct) begins_type_word refl x h
spec_first EnumWord x h = is_inside (is_word words.Enum) begins_type_word refl x h

spec_goes : (s : SpecStart) (x : Sort) → is_mark marks.OpenBrace x ≡ false → (spec_part_info s).goes x ≡ false
spec_goes TypeWords x f = refl
spec_goes StructWord x f = f
spec_goes EnumWord x f = f

spec_some : (s : SpecStart) → (spec_part_info s).empty ≡ true → ⊥
spec_some TypeWords h = absurd cc
spec_some StructWord h = absurd cc
spec_some EnumWord h = absurd cc

-- a word of a type
word_makes : (b : Bool) (d : ℕ) → Makes (plain_class d type_word_sign (0, types.Int)) (narrow (spec_class b d) (WhichSpec b TypeWords) (word 0 types.Int) tt) (λ (place, w). word place w)
word_makes b d = record {
  fits = λ a f. tt;
  spelt = λ c a. refl;
  after = λ c a. refl;
  back = elim [ word place w ↦ λ f. ((place, w), tt, refl) | _ ↦ λ f. absurd f ];
}

-- the list of members
members_list : Members → List Member
members_list no_members = []
members_list (more_members m ms) = m ∷ members_list ms

row_list : (ms : Members) → members_row (members_list ms) ≡ ms
unfolding members_list
row_list no_members = refl
row_list (more_members m ms) = ap (more_members m) (row_list ms)

-- the word, and a tag, what is between braces, or both
abbrev struct_parts : Bool → ℕ → Class
struct_parts b d = both (plain_class d (word_place_sign words.Struct) 0) (λ _. tagged_class b d (braces_class d))

struct_fits : (b : Bool) (d place : ℕ) (x : Tagged (List Member)) → (tagged_class b d (braces_class d)).Is x → WhichSpec b StructWord (struct_by place x)
struct_fits b d place (by_tag tag) f = tt
struct_fits b d place (by_both tag ms) f = (f.0, f.1.0, f.1.1)
struct_fits b d place (by_body ms) f = (f.0, f.1.0, f.1.1)

struct_spelt : (b : Bool) (d place c : ℕ) (x : Tagged (List Member)) → on_spec d (struct_by place x) ≡ (struct_parts b d).leaves c (place, x)
struct_spelt b d place c (by_tag tag) = refl
struct_spelt b d place c (by_both tag ms) = refl
struct_spelt b d place c (by_body ms) = refl

struct_after : (b : Bool) (d c : ℕ) (x : Tagged (List Member)) → c ≡ (tagged_class b d (braces_class d)).after c x
struct_after b d c (by_tag tag) = refl
struct_after b d c (by_both tag ms) = refl
struct_after b d c (by_body ms) = refl

listed_members : (ms : Members) → HasMembers ms × AreMembers ms → AreBraced (members_row (members_list ms))
listed_members ms f = rw (row_list ms) f

struct_makes : (b : Bool) (d : ℕ) → Makes (struct_parts b d) (narrow (spec_class b d) (WhichSpec b StructWord) (struct 0 no_name) tt) (λ (place, x). struct_by place x)
struct_makes b d = record {
  fits = λ a f. struct_fits b d a.0 a.1 f.1;
  spelt = λ c a. struct_spelt b d a.0 c a.1;
  after = λ c a. struct_after b d c a.1;
  back = elim [
    | struct place tag ↦ λ f. ((place, by_tag tag), (tt, tt), refl)
    | struct_body place tag ms ↦ λ f. ((place, by_both tag (members_list ms)), (tt, (f.0, listed_members ms (f.1, f.2))), ap (struct_body place tag) (row_list ms))
    | unnamed_struct place ms ↦ λ f. ((place, by_body (members_list ms)), (tt, (f.0, listed_members ms (f.1, f.2))), ap (unnamed_struct place) (row_list ms))
    | _ ↦ λ f. absurd f
  ];
}

abbrev enum_parts : Bool → ℕ → Class
enum_parts b d = both (plain_class d (word_place_sign words.Enum) 0) (λ _. tagged_class b d (enumerators_class d))

enum_fits : (b : Bool) (d place : ℕ) (x : Tagged (List Enumerator)) → (tagged_class b d (enumerators_class d)).Is x → WhichSpec b EnumWord (enum_by place x)
enum_fits b d place (by_tag tag) f = tt
enum_fits b d place (by_both tag es) f = (f.0, f.1.0, f.1.1)
enum_fits b d place (by_body es) f = (f.0, f.1.0, f.1.1)

enum_spelt : (b : Bool) (d place c : ℕ) (x : Tagged (List Enumerator)) → on_spec d (enum_by place x) ≡ (enum_parts b d).leaves c (place, x)
enum_spelt b d place c (by_tag tag) = refl
enum_spelt b d place c (by_both tag es) = refl
enum_spelt b d place c (by_body es) = refl

enum_after : (b : Bool) (d c : ℕ) (x : Tagged (List Enumerator)) → c ≡ (tagged_class b d (enumerators_class d)).after c x
enum_after b d c (by_tag tag) = refl
enum_after b d c (by_both tag es) = refl
enum_after b d c (by_body es) = refl

listed_enumerators : (es : Enumerators) → HasEnumerators es × AreEnumerators es → HasEnumerators (enumerators_of (enumerators_list es)) × AreEnumerators (enumerators_of (enumerators_list es))
listed_enumerators es f = rw (list_enumerators es) f

enum_makes : (b : Bool) (d : ℕ) → Makes (enum_parts b d) (narrow (spec_class b d) (WhichSpec b EnumWord) (enum 0 no_name) tt) (λ (place, x). enum_by place x)
enum_makes b d = record {
  fits = λ a f. enum_fits b d a.0 a.1 f.1;
  spelt = λ c a. enum_spelt b d a.0 c a.1;
  after = λ c a. enum_after b d c a.1;
  back = elim [
    | enum place tag ↦ λ f. ((place, by_tag tag), (tt, tt), refl)
    | enum_body place tag es ↦ λ f. ((place, by_both tag (enumerators_list es)), (tt, (f.0, listed_enumerators es (f.1, f.2))), ap (enum_body place tag) (list_enumerators es))
    | unnamed_enum place es ↦ λ f. ((place, by_body (enumerators_list es)), (tt, (f.0, listed_enumerators es (f.1, f.2))), ap (unnamed_enum place) (list_enumerators es))
    | _ ↦ λ f. absurd f
  ];
}

struct_lawful : (b : Bool) (d n : ℕ) (inner : Level) → Room d (suc n) → LevelLawful b (d + 1) inner → Lawful (narrow (spec_class b d) (WhichSpec b StructWord) (struct 0 no_name) tt) (spec_part_info StructWord) (spec_by b (suc n) n inner StructWord)
struct_lawful b d n inner e l =
    let parts = joined (word_place_lawful d (suc n) e words.Struct) (tagged_lawful b d (suc n) e (λ q. members_lawful d n inner (omega (arith, e)) (l.member q))) refl in
    known (tree parts (narrow (spec_class b d) (WhichSpec b StructWord) (struct 0 no_name) tt) _ (struct_makes b d)) (record { first = refl; goes = refl; empty = refl })

enum_lawful : (b : Bool) (d n : ℕ) (inner : Level) → Room d (suc n) → LevelLawful b (d + 1) inner → Lawful (narrow (spec_class b d) (WhichSpec b EnumWord) (enum 0 no_name) tt) (spec_part_info EnumWord) (spec_by b (suc n) n inner EnumWord)
enum_lawful b d n inner e l =
    let parts = joined (word_place_lawful d (suc n) e words.Enum) (tagged_lawful b d (suc n) e (λ q. enumerators_lawful d n inner (omega (arith, e)) (subst (λ (x : Bool). LevelLawful x (d + 1) inner) q l))) refl in
    known (tree parts (narrow (spec_class b d) (WhichSpec b EnumWord) (enum 0 no_name) tt) _ (enum_makes b d)) (record { first = refl; goes = refl; empty = refl })

spec_part : (b : Bool) (d n : ℕ) (inner : Level) → Room d (suc n) → LevelLawful b (d + 1) inner → (s : SpecStart) → Lawful (narrow (spec_class b d) (WhichSpec b s) (some_spec b s).0 (some_spec b s).1) (spec_part_info s) (spec_by b (suc n) n inner s)
spec_part b d n inner e l TypeWords = tree (type_word_lawful d (suc n) e) (narrow (spec_class b d) (WhichSpec b TypeWords) (word 0 types.Int) tt) _ (word_makes b d)
spec_part b d n inner e l StructWord = struct_lawful b d n inner e l
spec_part b d n inner e l EnumWord = enum_lawful b d n inner e l

-- spec
spec_lawful : (b : Bool) (d n : ℕ) (inner : Level) → Room d (suc n) → LevelLawful b (d + 1) inner → Lawful (spec_class b d) spec_info (spec b (suc n) n inner)
unfolding spec
spec_lawful b d n inner e l = chosen (spec_class b d) spec_info spec_start (WhichSpec b) spec_part_info
    (record {
      fits = spec_fits b;
      which = spec_which b;
      told = spec_told;
      left = λ s h x f. absurd (spec_some s h);
      first = spec_first;
      goes = spec_goes;
      empty = λ s h. absurd (spec_some s h);
      shallow = λ x h c. record { tree = word 0 types.Int; fits = tt; shallow = shallow d n e };
    })
    (some_spec b) (spec_by b (suc n) n inner) (spec_part b d n inner e l)

-- ---- a specifier behind others

-- a type's name is one only where no type stands before it
abbrev pub FitsBehind : Bool → Spec → Type 0
FitsBehind t (alias n) = t ≡ false
FitsBehind t _ = Unit {0}

abbrev pub spec_behind_class : Bool → ℕ → Bool → Class
spec_behind_class b d t = record { Tree = Spec; leaves = λ c s. on_spec d s; after = λ c s. c; Is = λ s. IsSpec b s × FitsBehind t s; some = word 0 types.Int; some_is = (tt, tt) }

abbrev pub spec_behind_info : Info
spec_behind_info = record { first = begins_type; goes = is_mark marks.OpenBrace; empty = false }

abbrev IsTypeName : Spec → Type 0
IsTypeName (alias n) = Unit {0}
IsTypeName _ = ⊥

word_behind : (b t : Bool) (s : Spec) → IsWordSpec b s → IsSpec b s × FitsBehind t s
word_behind b t (word place w) f = (f, tt)
word_behind b t (struct place tag) f = (f, tt)
word_behind b t (struct_body place tag ms) f = (f, tt)
word_behind b t (unnamed_struct place ms) f = (f, tt)
word_behind b t (enum place tag) f = (f, tt)
word_behind b t (enum_body place tag es) f = (f, tt)
word_behind b t (unnamed_enum place es) f = (f, tt)
word_behind b t (alias n) f = absurd f

name_behind : (b : Bool) (s : Spec) → IsTypeName s → IsSpec b s × FitsBehind false s
name_behind b (alias n) f = (tt, refl)
name_behind b _ f = absurd f

behind_word : (b : Bool) (s : Spec) → IsSpec b s × FitsBehind true s → IsWordSpec b s
behind_word b (word place w) f = f.0
behind_word b (struct place tag) f = f.0
behind_word b (struct_body place tag ms) f = f.0
behind_word b (unnamed_struct place ms) f = f.0
behind_word b (enum place tag) f = f.0
behind_word b (enum_body place tag es) f = f.0
behind_word b (unnamed_enum place es) f = f.0
behind_word b (alias n) f = absurd (cc f.1)

which_behind : (b : Bool) (s : Spec) → IsSpec b s × FitsBehind false s → IsTypeName s ⊎ IsWordSpec b s
which_behind b (word place w) f = inr f.0
which_behind b (struct place tag) f = inr f.0
which_behind b (struct_body place tag ms) f = inr f.0
which_behind b (unnamed_struct place ms) f = inr f.0
which_behind b (enum place tag) f = inr f.0
which_behind b (enum_body place tag es) f = inr f.0
which_behind b (unnamed_enum place es) f = inr f.0
which_behind b (alias n) f = inl tt

named_makes : (b : Bool) (d : ℕ) → Makes (plain_class d type_at no_name) (narrow (spec_behind_class b d false) IsTypeName (alias no_name) tt) alias
named_makes b d = record {
  fits = λ a f. tt;
  spelt = λ c a. refl;
  after = λ c a. refl;
  back = elim [ alias n ↦ λ f. (n, tt, refl) | _ ↦ λ f. absurd f ];
}

spec_behind_lawful : (b : Bool) (d n : ℕ) (inner : Level) → Room d (suc n) → LevelLawful b (d + 1) inner → (t : Bool) → Lawful (spec_behind_class b d t) (info_at spec_behind_info (begins_spec t)) (spec_behind b (suc n) n inner t)
spec_behind_lawful b d n inner e l true =
    let s = retold (spec_lawful b d n inner e l) (λ s. IsSpec b s × FitsBehind true s) (word 0 types.Int) (tt, tt) (word_behind b true) (behind_word b) in
    known s (record { first = refl; goes = refl; empty = refl })
spec_behind_lawful b d n inner e l false =
    let name = tree (type_name_lawful d (suc n) e) (narrow (spec_behind_class b d false) IsTypeName (alias no_name) tt) alias (named_makes b d) in
    let all = either_lawful (spec_behind_class b d false) IsTypeName (IsWordSpec b) (alias no_name) (word 0 types.Int) tt tt name (spec_lawful b d n inner e l) is_type_name refl refl refl (name_behind b) (word_behind b false) (which_behind b) in
    known all (record { first = refl; goes = refl; empty = refl })

-- ---- one specifier or more

one_first : (t : Bool) (s : Spec) (rest : Specs) → OneNamed t (more_specs s rest) → FitsBehind t s × OneNamed (typed_by t s) rest
one_first t (word place w) rest f = (tt, f)
one_first t (struct place tag) rest f = (tt, f)
one_first t (struct_body place tag ms) rest f = (tt, f)
one_first t (unnamed_struct place ms) rest f = (tt, f)
one_first t (enum place tag) rest f = (tt, f)
one_first t (enum_body place tag es) rest f = (tt, f)
one_first t (unnamed_enum place es) rest f = (tt, f)
one_first t (alias n) rest f = (f.0, f.1)

one_more : (t : Bool) (s : Spec) (rest : Specs) → FitsBehind t s → OneNamed (typed_by t s) rest → OneNamed t (more_specs s rest)
one_more t (word place w) rest f g = g
one_more t (struct place tag) rest f g = g
one_more t (struct_body place tag ms) rest f g = g
one_more t (unnamed_struct place ms) rest f g = g
one_more t (enum place tag) rest f g = g
one_more t (enum_body place tag es) rest f g = g
one_more t (unnamed_enum place es) rest f g = g
one_more t (alias n) rest f g = (f, g)

pub one_spec : (s : Spec) → OneNamed false (more_specs s no_specs)
one_spec (word place w) = tt
one_spec (struct place tag) = tt
one_spec (struct_body place tag ms) = tt
one_spec (unnamed_struct place ms) = tt
one_spec (enum place tag) = tt
one_spec (enum_body place tag es) = tt
one_spec (unnamed_enum place es) = tt
one_spec (alias n) = (refl, tt)

one_pushed : (t : Bool) (front : List Spec) (x : Spec) → OneNamed t (specs_of front) → FitsBehind (typed t front) x → OneNamed t (specs_of (pushed front x))
one_pushed t [] x f g = one_more t x no_specs g tt
one_pushed t (s ∷ front) x f g = let h = one_first t s (specs_of front) f in one_more t s (specs_of (pushed front x)) h.0 (one_pushed (typed_by t s) front x h.1 g)

one_before : (t : Bool) (before : List Spec) (a : Spec) (behind : List Spec) → OneNamed t (specs_of (before ++ a ∷ behind)) → OneNamed t (specs_of before) × FitsBehind (typed t before) a
one_before t [] a behind f = (tt, (one_first t a (specs_of behind) f).0)
one_before t (s ∷ before) a behind f =
    let h = one_first t s (specs_of (before ++ a ∷ behind)) f in
    let m = one_before (typed_by t s) before a behind h.1 in
    (one_more t s (specs_of before) h.0 m.0, m.1)

abbrev pub spec_rows : Bool → ℕ → Rows Spec
spec_rows b d = record { first = λ c s. on_spec d s; leaves = λ c s. on_spec d s; after = λ c s. c; First = IsSpec b; Is = IsSpec b; some = word 0 types.Int; some_first = tt; some_is = tt }

abbrev pub AreOne : Bool → List Spec → Type 0
AreOne b ss = HasSpecs (specs_of ss) × AllByRecursion (IsSpec b) ss

abbrev pub specs_class : Bool → ℕ → Class
specs_class b d = narrow (from_class (spec_rows b d)) (AreOne b) (word 0 types.Int ∷ []) (tt, (tt, tt))

abbrev pub goes_specs : Sort → Bool
goes_specs s = begins_type s || is_mark marks.OpenBrace s

abbrev pub specs_info : Info
specs_info = record { first = begins_type; goes = goes_specs; empty = false }

-- one specifier
abbrev IsOne : Bool → List Spec → Type 0
IsOne b [] = ⊥
IsOne b (s ∷ []) = IsSpec b s × FitsBehind false s
IsOne b (s ∷ t ∷ ss) = ⊥

one_makes : (b : Bool) (d : ℕ) → Makes (spec_behind_class b d false) (narrow (specs_class b d) (IsOne b) (word 0 types.Int ∷ []) (tt, tt)) (λ s. s ∷ [])
one_makes b d = record {
  fits = λ a f. f;
  spelt = λ c a. append-nil (on_spec d a);
  after = λ c a. refl;
  back = elim [ [] ↦ λ f. absurd f | s ∷ [] ↦ λ f. (s, f, refl) | s ∷ t ∷ ss ↦ λ f. absurd f ];
}

abbrev spec_link : Bool → ℕ → Link (List Spec)
spec_link b d = record { Tree = Spec; leaves = λ front c s. on_spec d s; after = λ front c s. c; Is = λ front s. IsSpec b s × FitsBehind (typed false front) s; some = λ front. word 0 types.Int; some_is = λ front. (tt, tt) }

one_fits : (b : Bool) (ss : List Spec) → IsOne b ss → AreOne b ss
one_fits b [] f = absurd f
one_fits b (s ∷ []) f = (one_more false s no_specs f.1 tt, (f.0, tt))
one_fits b (s ∷ t ∷ ss) f = absurd f

pushed_fits : (b : Bool) (front : List Spec) (x : Spec) → AreOne b front → IsSpec b x × FitsBehind (typed false front) x → AreOne b (pushed front x)
pushed_fits b [] x f g = absurd f.0
pushed_fits b (s ∷ front) x f g = (one_pushed false (s ∷ front) x f.0 g.1, all_pushed (IsSpec b) (s ∷ front) x f.1 g.0)

specs_from : (b : Bool) (ss : List Spec) → AreOne b ss → FromIs (IsSpec b) (IsSpec b) ss
specs_from b [] f = absurd f.0
specs_from b (s ∷ ss) f = f.1

specs_front : (b : Bool) (first : Spec) (before : List Spec) (x : Spec) (behind : List Spec) → AreOne b (first ∷ before ++ x ∷ behind) → AreOne b (first ∷ before) × Unit {0} × (IsSpec b x × FitsBehind (typed false (first ∷ before)) x)
specs_front b first before x behind f =
    let o = one_before false (first ∷ before) x behind f.0 in
    let a = all_before (IsSpec b) (first ∷ before) x behind f.1 in
    ((o.0, a.0), tt, (a.1, o.1))

specs_built : (b : Bool) (ss : List Spec) → AreOne b ss → Built (IsOne b) (λ a x. AreOne b a × Unit {0} × (IsSpec b x × FitsBehind (typed false a) x)) pushed ss
specs_built b [] f = absurd f.0
specs_built b (s ∷ ss) f = built_behind (IsOne b) (λ a x. AreOne b a × Unit {0} × (IsSpec b x × FitsBehind (typed false a) x)) s [] ss
    (base (s ∷ []) (f.1.0, (one_first false s (specs_of ss) f.0).0))
    (λ before x behind e. specs_front b s before x behind (subst (λ (y : List Spec). AreOne b (s ∷ y)) e f))

-- what begins a specifier behind others begins one anywhere
begins_less : (t : Bool) (s : Sort) → begins_spec t s ≡ true → begins_type s ≡ true
begins_less true s e = is_inside begins_type_word begins_type refl s e
begins_less false s e = e

abbrev starts_behind : List Spec → Sort → Bool
starts_behind front = begins_spec (typed false front)

specs_linked : (b : Bool) (d : ℕ) → LinkedBy (specs_class b d) (spec_link b d) (IsOne b) pushed (λ _. Unit {0}) starts_behind starts_behind spec_behind_info spec_behind_info
specs_linked b d = record {
  fits_base = one_fits b;
  fits = λ a x f m g. pushed_fits b a x f g;
  spelt = λ c a x f. from_pushed_leaves (spec_rows b d) c a x (specs_from b a f);
  after = λ c a x. pushed_after (λ (c : ℕ) (s : Spec). c) c a x;
  built = specs_built b;
  told = λ a s m e. e;
  may = λ a s e. tt;
  first_in = λ a s e. begins_less (typed false a) s e;
  some = refl;
  apart_base = refl;
  apart_link = refl;
}

-- spec { spec }
pub specs_lawful : (b : Bool) (d n : ℕ) (inner : Level) → Room d (suc n) → LevelLawful b (d + 1) inner → Lawful (specs_class b d) specs_info (specs b (suc n) n inner)
unfolding specs
specs_lawful b d n inner e l =
    let s = spec_behind_lawful b d n inner e l in
    let first = tree (s false) (narrow (specs_class b d) (IsOne b) (word 0 types.Int ∷ []) (tt, tt)) (λ s. s ∷ []) (one_makes b d) in
    known (chained_by (specs_class b d) (spec_link b d) (IsOne b) (word 0 types.Int ∷ []) (tt, tt) pushed (λ _. Unit {0}) starts_behind starts_behind spec_behind_info spec_behind_info (specs_linked b d) begins_type (λ a s e. begins_less (typed false a) s e)
    (made (λ s. s ∷ []) (spec_behind b (suc n) n inner false)) first (λ front. spec_behind b (suc n) n inner (typed false front)) (λ front. s (typed false front))) (record { first = refl; goes = refl; empty = refl })

-- what may not follow specifiers, with a type among them or none
abbrev pub goes_behind : Bool → Sort → Bool
goes_behind t s = begins_spec t s || (is_mark marks.OpenBrace s || is_mark marks.OpenBrace s)

-- behind specifiers of a type may stand a type's name
pub specs_read : (b : Bool) (d n : ℕ) (inner : Level) → Room d (suc n) → LevelLawful b (d + 1) inner → (c : ℕ) (ss : List Spec) → AreOne b ss → (ts z : List Terminal) → Within ((specs_class b d).leaves c ss) ts z → Follows (goes_behind (typed false ss)) z
    → specs b (suc n) n inner c ts ≡ got ss ((specs_class b d).after c ss) z
unfolding specs
specs_read b d n inner e l c ss is ts z w f =
    let s = spec_behind_lawful b d n inner e l in
    let first = tree (s false) (narrow (specs_class b d) (IsOne b) (word 0 types.Int ∷ []) (tt, tt)) (λ s. s ∷ []) (one_makes b d) in
    chain_complete (specs_class b d) (spec_link b d) (IsOne b) (word 0 types.Int ∷ []) (tt, tt) pushed (λ _. Unit {0}) starts_behind starts_behind spec_behind_info spec_behind_info (specs_linked b d)
    (made (λ s. s ∷ []) (spec_behind b (suc n) n inner false)) first (λ front. spec_behind b (suc n) n inner (typed false front)) (λ front. s (typed false front)) c ss is ts z w f

-- ---- the two forms of rows of specifiers

pub specs_some : (b : Bool) (ss : List Spec) → AreOne b ss → IsSpecList b ss
specs_some b ss f = f

pub some_specs : (b : Bool) (ss : List Spec) → IsSpecList b ss → AreOne b ss
some_specs b ss f = f

are_specs : (b : Bool) (ss : List Spec) → AllByRecursion (IsSpec b) ss → AreSpecs b (specs_of ss)
are_specs b [] f = tt
are_specs b (s ∷ ss) f = (f.0, are_specs b ss f.1)

all_specs : (b : Bool) (ss : List Spec) → AreSpecs b (specs_of ss) → AllByRecursion (IsSpec b) ss
all_specs b [] f = tt
all_specs b (s ∷ ss) f = (f.0, all_specs b ss f.1)

pub specs_row : (b : Bool) (ss : List Spec) → AreOne b ss → HasSpecs (specs_of ss) × AreSpecs b (specs_of ss)
specs_row b ss f = (f.0, are_specs b ss f.1)

pub row_specs : (b : Bool) (ss : List Spec) → HasSpecs (specs_of ss) → AreSpecs b (specs_of ss) → AreOne b ss
row_specs b ss h f = (h, all_specs b ss f)

pub specs_list : Specs → List Spec
specs_list no_specs = []
specs_list (more_specs s ss) = s ∷ specs_list ss

pub list_specs : (ss : Specs) → specs_of (specs_list ss) ≡ ss
unfolding specs_list
list_specs no_specs = refl
list_specs (more_specs s ss) = ap (more_specs s) (list_specs ss)

specs_more : (d c : ℕ) (ss : List Spec) → on_specs d (specs_of ss) ≡ row_leaves (λ (c : ℕ) (s : Spec). on_spec d s) (λ (c : ℕ) (s : Spec). c) c ss
specs_more d c [] = refl
specs_more d c (s ∷ ss) = ap (λ (ls : List Leaf). on_spec d s ++ ls) (specs_more d c ss)

pub specs_spelt : (b : Bool) (d c : ℕ) (ss : List Spec) → on_specs d (specs_of ss) ≡ (specs_class b d).leaves c ss
specs_spelt b d c [] = refl
specs_spelt b d c (s ∷ ss) = ap (λ (ls : List Leaf). on_spec d s ++ ls) (specs_more d c ss)
