-- The laws of what stands behind struct or enum: a tag, what is between braces, or both (C11 6.7.2.1 to 6.7.2.3).
use Rattle.std.proofs.Common.{◌≡◌, ℕ, List, [], ◌∷◌, Option, Some, None, Bool, true, false, refl, inl, inr, ◌⊎◌}
use Rattle.std.specs.Prelude.{◌||◌}
use Rattle.c_lex.specs.declared.token.Mark.TheVariants as marks
use Rattle.c_tree.specs.declared.syntax.Name.{Name}
use Rattle.c_grammar.specs.Leaves.{Leaf, at, tag_at}
use Rattle.c_grammar.specs.inner.Readers.{Reads}
use Rattle.c_grammar.specs.inner.Tokens.{is_mark, is_tag}
use Rattle.c_grammar.specs.inner.Reading.{Tagged, by_tag, by_both, by_body, tagged_by, tagged}
use Rattle.c_grammar.proofs.Lawful.{Class, Info, Lawful, starts, both}
use Rattle.c_grammar.proofs.Joints.{Makes, tree, known, narrow}
use Rattle.c_grammar.proofs.Loops.{option_class, OptionIs, maybe_lawful}
use Rattle.c_grammar.proofs.TokenLaws.{Room, plain_class, tag_lawful}
use Rattle.c_grammar.proofs.MoreJoints.{joined, either_lawful}
use Rattle.c_grammar.proofs.EnumLaws.{no_name}

abbrev on_tagged : {A : Type 0} → ℕ → (ℕ → A → List Leaf) → ℕ → Tagged A → List Leaf
on_tagged d body c (by_tag tag) = at d (tag_at tag) ∷ []
on_tagged d body c (by_both tag a) = at d (tag_at tag) ∷ body c a
on_tagged d body c (by_body a) = body c a

abbrev behind_tagged : {A : Type 0} → (ℕ → A → ℕ) → ℕ → Tagged A → ℕ
behind_tagged after c (by_tag tag) = c
behind_tagged after c (by_both tag a) = after c a
behind_tagged after c (by_body a) = after c a

-- what is between braces stands where it may
abbrev TaggedIs : {A : Type 0} → Bool → (A → Type 0) → Tagged A → Type 0
TaggedIs b Is (by_tag tag) = Unit {0}
TaggedIs b Is (by_both tag a) = (b ≡ true) × Is a
TaggedIs b Is (by_body a) = (b ≡ true) × Is a

abbrev pub tagged_class : Bool → ℕ → Class → Class
tagged_class b d C = record { Tree = Tagged C.Tree; leaves = on_tagged d C.leaves; after = behind_tagged C.after; Is = TaggedIs b C.Is; some = by_tag no_name; some_is = tt }

abbrev pub tagged_info : Info
tagged_info = record { first = λ s. is_mark marks.OpenBrace s || is_tag s; goes = is_mark marks.OpenBrace; empty = false }

-- ---- braces alone

abbrev IsBody : (C : Class) → Tagged C.Tree → Type 0
IsBody C (by_tag tag) = ⊥
IsBody C (by_both tag a) = ⊥
IsBody C (by_body a) = C.Is a

body_makes : (d : ℕ) (C : Class) → Makes C (narrow (tagged_class true d C) (IsBody C) (by_body C.some) C.some_is) by_body
body_makes d C = record {
  fits = λ a f. f;
  spelt = λ c a. refl;
  after = λ c a. refl;
  back = elim [ by_tag tag ↦ λ f. absurd f | by_both tag a ↦ λ f. absurd f | by_body a ↦ λ f. (a, f, refl) ];
}

-- ---- a tag, with braces or without

abbrev HasTag : (C : Class) → Tagged C.Tree → Type 0
HasTag C (by_tag tag) = Unit {0}
HasTag C (by_both tag a) = C.Is a
HasTag C (by_body a) = ⊥

abbrev tag_parts : ℕ → Class → Class
tag_parts d C = both (plain_class d tag_at no_name) (λ _. option_class C)

tag_fits : (C : Class) (tag : Name) (o : Option C.Tree) → OptionIs C.Is o → HasTag C (tagged_by tag o)
tag_fits C tag None f = tt
tag_fits C tag (Some a) f = f

tag_spelt : (d : ℕ) (C : Class) (c : ℕ) (tag : Name) (o : Option C.Tree) → on_tagged d C.leaves c (tagged_by tag o) ≡ (tag_parts d C).leaves c (tag, o)
tag_spelt d C c tag None = refl
tag_spelt d C c tag (Some a) = refl

tag_after : (d : ℕ) (C : Class) (c : ℕ) (tag : Name) (o : Option C.Tree) → behind_tagged C.after c (tagged_by tag o) ≡ (tag_parts d C).after c (tag, o)
tag_after d C c tag None = refl
tag_after d C c tag (Some a) = refl

tag_makes : (d : ℕ) (C : Class) → Makes (tag_parts d C) (narrow (tagged_class true d C) (HasTag C) (by_tag no_name) tt) (λ (tag, o). tagged_by tag o)
tag_makes d C = record {
  fits = λ a f. tag_fits C a.0 a.1 f.1;
  spelt = λ c a. tag_spelt d C c a.0 a.1;
  after = λ c a. tag_after d C c a.0 a.1;
  back = elim [ by_tag tag ↦ λ f. ((tag, None), (tt, tt), refl) | by_both tag a ↦ λ f. ((tag, Some a), (tt, f), refl) | by_body a ↦ λ f. absurd f ];
}

body_fits : (C : Class) (x : Tagged C.Tree) → IsBody C x → TaggedIs true C.Is x
body_fits C (by_tag tag) f = absurd f
body_fits C (by_both tag a) f = absurd f
body_fits C (by_body a) f = (refl, f)

has_fits : (C : Class) (x : Tagged C.Tree) → HasTag C x → TaggedIs true C.Is x
has_fits C (by_tag tag) f = tt
has_fits C (by_both tag a) f = (refl, f)
has_fits C (by_body a) f = absurd f

which_tagged : (C : Class) (x : Tagged C.Tree) → TaggedIs true C.Is x → IsBody C x ⊎ HasTag C x
which_tagged C (by_tag tag) f = inr tt
which_tagged C (by_both tag a) f = inr f.1
which_tagged C (by_body a) f = inl f.1

-- where no braces may stand
alone_makes : (d : ℕ) (C : Class) → Makes (plain_class d tag_at no_name) (tagged_class false d C) by_tag
alone_makes d C = record {
  fits = λ a f. tt;
  spelt = λ c a. refl;
  after = λ c a. refl;
  back = elim [ by_tag tag ↦ λ f. (tag, tt, refl) | by_both tag a ↦ λ f. absurd (cc f.0) | by_body a ↦ λ f. absurd (cc f.0) ];
}

-- TNAME [ body ] | body, or TNAME alone
pub tagged_lawful : (b : Bool) (d n : ℕ) → Room d n → {C : Class} {body : Reads C.Tree} → (b ≡ true → Lawful C (starts (is_mark marks.OpenBrace)) body) → Lawful (tagged_class b d C) tagged_info (tagged b n body)
tagged_lawful true d n e {C = C} l =
    let body = l refl in
    let alone = tree body (narrow (tagged_class true d C) (IsBody C) (by_body C.some) C.some_is) by_body (body_makes d C) in
    let tag = tree (joined (tag_lawful d n e) (maybe_lawful body (is_mark marks.OpenBrace) refl refl) refl) (narrow (tagged_class true d C) (HasTag C) (by_tag no_name) tt) _ (tag_makes d C) in
    known (either_lawful (tagged_class true d C) (IsBody C) (HasTag C) (by_body C.some) (by_tag no_name) C.some_is tt alone tag (is_mark marks.OpenBrace) refl refl refl (body_fits C) (has_fits C) (which_tagged C)) (record { first = refl; goes = refl; empty = refl })
tagged_lawful false d n e {C = C} l = known (tree (tag_lawful d n e) (tagged_class false d C) by_tag (alone_makes d C)) (record { first = refl; goes = refl; empty = refl })
