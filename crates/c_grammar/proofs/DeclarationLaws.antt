-- The laws of declarations (C11 6.7): declarators with their initialisers, and specifiers before them.
use Rattle.std.proofs.Common.{subst, ◌≡◌, ℕ, zero, suc, ◌+◌, List, [], ◌∷◌, ◌++◌, None, Bool, true, false, refl, sym, ap, ◌∙◌, arith, append_assoc}
use Rattle.std.specs.Prelude.{◌||◌}
use Rattle.std.specs.List.{AllByRecursion}
use Rattle.c_lex.specs.declared.token.Mark.TheVariants as marks
use Rattle.c_tree.specs.Syntax.{Spec, Declarator, declarator, no_exprs, InitDeclarator, specs_of}
use Rattle.c_grammar.specs.Leaves.{Leaf, at, some_mark}
use Rattle.c_grammar.specs.Grammar.{HasSpecs, on_spec, on_each, on_commas, on_init_declarator, on_declaration, IsDeclarator, StartsBareFirst, IsValue, IsInitDeclarator, IsDeclaration, as_name}
use Rattle.c_grammar.specs.inner.Readers.{Sort, Reads}
use Rattle.c_grammar.specs.inner.Tokens.{is_mark, begins_type}
use Rattle.c_grammar.specs.inner.Reading.{Level, level_at, init_by, initialised, declared, bare_declared, declaration}
use Rattle.c_grammar.proofs.Sorts.{inside}
use Rattle.c_grammar.proofs.Lawful.{Class, Info, Lawful, starts, both, if_empty}
use Rattle.c_grammar.proofs.Joints.{TooDeepFor, Makes, tree, known, narrow, too_deep_lawful}
use Rattle.c_grammar.proofs.Loops.{option_class, FromIs, from_class}
use Rattle.c_grammar.proofs.TokenLaws.{Room, plain_class, mark_sign, mark_lawful}
use Rattle.c_grammar.proofs.TreeClasses.{LevelLawful}
use Rattle.c_grammar.proofs.StatementClasses.{declaration_class}
use Rattle.c_grammar.proofs.MemberLaws.{BeginsDeep, spec_deep, spec_at, deep_behind, at_behind}
use Rattle.c_grammar.proofs.ValueLaws.{value_class, goes_init, values_lawful, value_spelt, value_after, value_there, there_value}
use Rattle.c_grammar.proofs.MoreJoints.{joined, comma_rows, commas_lawful, flat_after, some_spelt, commas_spelt}
use Rattle.c_grammar.proofs.EnumLaws.{no_name}
use Rattle.c_grammar.proofs.SpecLaws.{specs_class, specs_lawful, specs_some, some_specs, one_spec}
use Rattle.c_grammar.proofs.DeclaratorLaws.{declarator_class, IsBareDeclarator, bare_declared_lawful, declared_lawful, begins_declarator, begins_bare_declarator}

-- ---- declarators with their initialisers

-- where the declarator is what Q says
abbrev pub init_class : Bool → ℕ → (Q : Declarator → Type 0) → Q (declarator [] no_name no_exprs) → Class
init_class b d Q q = record {
  Tree = InitDeclarator;
  leaves = λ c i. on_init_declarator d i;
  after = λ c i. c;
  Is = λ i. Q i.declarator × IsValue b i.value;
  some = record { declarator = declarator [] no_name no_exprs; value = None };
  some_is = (q, tt);
}

init_makes : (b : Bool) (d : ℕ) (Q : Declarator → Type 0) (q : Q (declarator [] no_name no_exprs)) → Makes (both (narrow (declarator_class as_name b d) Q (declarator [] no_name no_exprs) q) (λ _. option_class (value_class b d))) (init_class b d Q q) (λ (x, v). init_by x v)
init_makes b d Q q = record {
  fits = λ a f. (f.0, value_there b a.1 f.1);
  spelt = λ c a. ap (λ (ls : List Leaf). (declarator_class as_name b d).leaves c a.0 ++ ls) (value_spelt b d c a.1);
  after = λ c a. sym (value_after b d c a.1);
  back = λ i f. ((i.declarator, i.value), (f.0, there_value b i.value f.1), refl);
}

abbrev pub init_info : (Sort → Bool) → Info
init_info first = record { first = first; goes = goes_init; empty = false }

-- a declarator, and its initialiser
pub init_lawful : (b : Bool) (d n : ℕ) (here : Level) → Room d n → LevelLawful b d here → (Q : Declarator → Type 0) (q : Q (declarator [] no_name no_exprs)) (first : Sort → Bool) {r : Reads Declarator}
    → Lawful (narrow (declarator_class as_name b d) Q (declarator [] no_name no_exprs) q) (record { first = first; goes = is_mark marks.OpenBracket; empty = false }) r
    → inside (λ s. first s || if_empty false (is_mark marks.Assign) s) first ≡ true → Lawful (init_class b d Q q) (init_info first) (initialised n here r)
unfolding initialised
init_lawful b d n here e l Q q first r told = known (tree (joined r (values_lawful b d n here e l) refl) (init_class b d Q q) _ (init_makes b d Q q)) (record { first = told; goes = refl; empty = refl })

-- behind specifiers, and behind a comma
abbrev pub bare_init_class : Bool → ℕ → Class
bare_init_class b d = init_class b d (IsBareDeclarator b) (tt, tt)

pub bare_init_lawful : (b : Bool) (d n : ℕ) (here inner : Level) → Room d (suc n) → LevelLawful b d here → LevelLawful b (d + 1) inner → Lawful (bare_init_class b d) (init_info begins_bare_declarator) (initialised (suc n) here (bare_declared as_name (suc n) n inner))
bare_init_lawful b d n here inner e l m = init_lawful b d (suc n) here e l (IsBareDeclarator b) (tt, tt) begins_bare_declarator (bare_declared_lawful as_name b d n inner e m) refl

pub more_init_lawful : (b : Bool) (d n : ℕ) (here inner : Level) → Room d (suc n) → LevelLawful b d here → LevelLawful b (d + 1) inner → Lawful (init_class b d (IsDeclarator b) tt) (init_info (begins_declarator as_name)) (initialised (suc n) here (declared as_name (suc n) n inner))
more_init_lawful b d n here inner e l m = init_lawful b d (suc n) here e l (IsDeclarator b) tt (begins_declarator as_name) (declared_lawful as_name b d n inner e m) refl

-- ---- declarations

abbrev inits_class : ℕ → Class
inits_class d = from_class (comma_rows (bare_init_class false d) (IsInitDeclarator false) (tt, tt) d)

inits_some : (is : List InitDeclarator) → FromIs (bare_init_class false 0).Is (IsInitDeclarator false) is → StartsBareFirst is × AllByRecursion (IsInitDeclarator false) is
inits_some [] f = absurd f
inits_some (i ∷ is) f = (f.0.0.0, ((f.0.0.1, f.0.1), f.1))

some_inits : (is : List InitDeclarator) → StartsBareFirst is → AllByRecursion (IsInitDeclarator false) is → FromIs (bare_init_class false 0).Is (IsInitDeclarator false) is
some_inits [] h f = absurd h
some_inits (i ∷ is) h f = (((h, f.0.0), f.0.1), f.1)

declaration_fits : (d : ℕ) (ss : List Spec) (is : List InitDeclarator) → (specs_class false d).Is ss → (inits_class d).Is is → IsDeclaration false (record { specs = ss; declarators = is })
declaration_fits d ss is f g = let t = inits_some is g in (specs_some false ss f, t.0, t.1)

declaration_spelt : (d c : ℕ) (ss : List Spec) (is : List InitDeclarator)
    → on_declaration d (record { specs = ss; declarators = is }) ≡ (specs_class false d).leaves c ss ++ ((inits_class d).leaves ((specs_class false d).after c ss) is ++ at d (some_mark marks.Semicolon) ∷ [])
declaration_spelt d c ss is =
    append_assoc (on_each (on_spec d) ss) (on_commas d (on_init_declarator d) is) (at d (some_mark marks.Semicolon) ∷ [])
    ∙ ap (λ (ls : List Leaf). ls ++ (on_commas d (on_init_declarator d) is ++ at d (some_mark marks.Semicolon) ∷ [])) (some_spelt (on_spec d) c ss)
    ∙ ap (λ (ls : List Leaf). (specs_class false d).leaves c ss ++ (ls ++ at d (some_mark marks.Semicolon) ∷ [])) (commas_spelt d (on_init_declarator d) ((specs_class false d).after c ss) is)

declaration_makes : (d : ℕ) → Makes (both (specs_class false d) (λ _. both (inits_class d) (λ _. plain_class d (mark_sign marks.Semicolon) tt))) (declaration_class d) (λ (ss, (ds, _)). record { specs = ss; declarators = ds })
declaration_makes d = record {
  fits = λ a f. declaration_fits d a.0 a.1.0 f.0 f.1.0;
  spelt = λ c a. declaration_spelt d c a.0 a.1.0;
  after = λ c a. sym (flat_after ((specs_class false d).after c a.0) a.1.0 ∙ flat_after c a.0);
  back = λ x f. ((x.specs, (x.declarators, tt)), (some_specs false x.specs f.0, (some_inits x.declarators f.1 f.2, tt)), refl);
}

-- specifiers and declarators, where there is room
declaration_there : (d n : ℕ) → Room d (suc n) → LevelLawful false d (level_at false (suc n)) → LevelLawful false (d + 1) (level_at false n) → Lawful (declaration_class d) (starts begins_type) (declaration (suc n))
unfolding declaration
declaration_there d n e l m =
    let all = commas_lawful (bare_init_class false d) (IsInitDeclarator false) (tt, tt) d (suc n) e
    (bare_init_lawful false d n (level_at false (suc n)) (level_at false n) e l m) (more_init_lawful false d n (level_at false (suc n)) (level_at false n) e l m) refl refl refl in
    let parts = joined (specs_lawful false d n (level_at false n) e m) (joined all (mark_lawful d (suc n) e marks.Semicolon) refl) refl in
    known (tree parts (declaration_class d) _ (declaration_makes d)) (record { first = refl; goes = refl; empty = refl })

each_deep : (ss : List Spec) → HasSpecs (specs_of ss) → BeginsDeep (on_each (on_spec 129) ss)
each_deep [] f = absurd f
each_deep (s ∷ ss) f = deep_behind (on_spec 129 s) (on_each (on_spec 129) ss) (spec_deep s)

-- declarations, where no room is left
declaration_too_deep : TooDeepFor (declaration_class 129) begins_type
declaration_too_deep = record {
  deep = λ c a f. deep_behind (on_each (on_spec 129) a.specs ++ on_commas 129 (on_init_declarator 129) a.declarators) (at 129 (some_mark marks.Semicolon) ∷ [])
      (deep_behind (on_each (on_spec 129) a.specs) (on_commas 129 (on_init_declarator 129) a.declarators) (each_deep a.specs f.0.0));
  begins = λ c t h. let s = spec_at false t h in
      let is = (declaration_class 129).some.declarators in (
        record { specs = s.0 ∷ []; declarators = is },
        ((one_spec s.0, (s.1, tt)), tt, ((tt, tt), tt)),
        at_behind t (on_spec 129 s.0 ++ [] ++ on_commas 129 (on_init_declarator 129) is) (at 129 (some_mark marks.Semicolon) ∷ []) (at_behind t (on_spec 129 s.0 ++ []) (on_commas 129 (on_init_declarator 129) is) (at_behind t (on_spec 129 s.0) [] s.2)),
      );
}

declaration_zero : Lawful (declaration_class 129) (starts begins_type) (declaration zero)
unfolding declaration
declaration_zero = too_deep_lawful (declaration_class 129) begins_type (λ s. false) declaration_too_deep

-- specs ptr NAME dims rest
pub declaration_lawful : ((n d : ℕ) → Room d n → LevelLawful false d (level_at false n)) → (n d : ℕ) → Room d n → Lawful (declaration_class d) (starts begins_type) (declaration n)
declaration_lawful levels zero d e =
    let same : 129 ≡ d = omega arith in
    subst (λ (x : ℕ). Lawful (declaration_class x) (starts begins_type) (declaration zero)) same declaration_zero
declaration_lawful levels (suc n) d e = declaration_there d n e (levels (suc n) d e) (levels n (d + 1) (omega (arith, e)))
