-- The laws of what stands behind the specifiers at file scope: a function, or variables (C11 6.9.1, 6.9.2).
use Rattle.std.proofs.Common.{◌≡◌, ℕ, List, [], ◌∷◌, ◌++◌, Option, None, Bool, true, refl, sym, ap, subst, ◌∙◌, append_assoc, inl, inr, ◌⊎◌}
use Rattle.std.specs.Prelude.{◌||◌}
use Rattle.std.specs.List.{AllByRecursion}
use Rattle.c_lex.specs.declared.token.Mark.TheVariants as marks
use Rattle.c_tree.specs.declared.syntax.Name.{Name}
use Rattle.c_tree.specs.declared.syntax.Pointer.{Pointer}
use Rattle.c_tree.specs.Syntax.{Expr, Exprs, exprs_of, Declarator, declarator, InitDeclarator, Param, Body, Rest, nothing, function, variables}
use Rattle.c_grammar.specs.Leaves.{Leaf, at, name_at, some_mark}
use Rattle.c_grammar.specs.Grammar.{on_pointers, stars, on_dims, on_more, on_commas, on_value, on_init_declarator, on_param, on_body, on_rest, StartsBare, AreExprs, IsValue, IsDeclarator, IsInitDeclarator, IsParam, IsMaybe, IsBody, IsRest}
use Rattle.c_grammar.specs.inner.Readers.{Sort, ◌&◌, made}
use Rattle.c_grammar.specs.inner.Tokens.{is_mark}
use Rattle.c_grammar.specs.inner.Reading.{level_at, init_by, params, body, variable_rest, named_rest, external_rest}
use Rattle.c_grammar.proofs.Lawful.{Class, Lawful, starts, both, before}
use Rattle.c_grammar.proofs.Joints.{Makes, tree, known, narrow}
use Rattle.c_grammar.proofs.Loops.{option_class, row_class, row_lawful}
use Rattle.c_grammar.proofs.TokenLaws.{plain_class, mark_sign, name_lawful, mark_lawful}
use Rattle.c_grammar.proofs.TreeClasses.{LevelLawful}
use Rattle.c_grammar.proofs.MoreJoints.{joined, Forms, formed, either_lawful, behind_comma, flat_after, more_spelt}
use Rattle.c_grammar.proofs.ArgumentLaws.{listed}
use Rattle.c_grammar.proofs.EnumLaws.{no_name}
use Rattle.c_grammar.proofs.PointerLaws.{bare_class, bare_lawful}
use Rattle.c_grammar.proofs.DeclaratorLaws.{dims_class, dims_lawful, begins_bare_declarator}
use Rattle.c_grammar.proofs.ValueLaws.{value_class, values_lawful, value_spelt, value_after, value_there, there_value}
use Rattle.c_grammar.proofs.DeclarationLaws.{init_class, more_init_lawful}
use Rattle.c_grammar.proofs.ParamLaws.{params_class}
use Rattle.c_grammar.proofs.BodyLaws.{body_class, begins_body}

-- ---- what is behind a name at file scope

abbrev sizes_of : Declarator → Exprs
sizes_of (declarator ps n es) = es

-- the leaves behind the name, with what stands before it
abbrev named_leaves : List Pointer → Rest → List Leaf
named_leaves ps nothing = []
named_leaves ps (function qs m all b) = at 1 (some_mark marks.OpenParen) ∷ on_commas 1 (on_param 1) all ++ at 1 (some_mark marks.CloseParen) ∷ on_body 0 b
named_leaves ps (variables []) = []
named_leaves ps (variables (i ∷ is)) = on_dims 0 (stars 0 ps) (sizes_of i.declarator) ++ (on_value 0 i.value ++ (on_more 0 (on_init_declarator 0) is ++ at 0 (some_mark marks.Semicolon) ∷ []))

-- the declarator has that before its name, and that name
abbrev IsNamedSo : List Pointer → Name → Declarator → Type 0
IsNamedSo ps n (declarator qs m es) = (ps ≡ qs) × (n ≡ m) × AreExprs true es

abbrev IsFunction : List Pointer → Name → Rest → Type 0
IsFunction ps n nothing = ⊥
IsFunction ps n (function qs m all b) = (ps ≡ qs) × (n ≡ m) × AllByRecursion IsParam all × IsMaybe IsBody b
IsFunction ps n (variables is) = ⊥

abbrev AreVariables : List Pointer → Name → Rest → Type 0
AreVariables ps n nothing = ⊥
AreVariables ps n (function qs m all b) = ⊥
AreVariables ps n (variables []) = ⊥
AreVariables ps n (variables (i ∷ is)) = IsNamedSo ps n i.declarator × IsValue true i.value × AllByRecursion (IsInitDeclarator true) is

abbrev IsNamed : List Pointer → Name → Rest → Type 0
IsNamed ps n nothing = ⊥
IsNamed ps n (function qs m all b) = IsFunction ps n (function qs m all b)
IsNamed ps n (variables is) = AreVariables ps n (variables is)

abbrev named_class : List Pointer → Name → Class
named_class ps n = record { Tree = Rest; leaves = λ c r. named_leaves ps r; after = λ c r. c; Is = IsNamed ps n; some = function ps n [] None; some_is = (refl, refl, tt, tt) }

function_fits : (ps : List Pointer) (n : Name) (r : Rest) → IsFunction ps n r → IsNamed ps n r
function_fits ps n nothing f = absurd f
function_fits ps n (function qs m all b) f = f
function_fits ps n (variables is) f = absurd f

variables_fit : (ps : List Pointer) (n : Name) (r : Rest) → AreVariables ps n r → IsNamed ps n r
variables_fit ps n nothing f = absurd f
variables_fit ps n (function qs m all b) f = absurd f
variables_fit ps n (variables is) f = f

which_named : (ps : List Pointer) (n : Name) (r : Rest) → IsNamed ps n r → IsFunction ps n r ⊎ AreVariables ps n r
which_named ps n nothing f = absurd f
which_named ps n (function qs m all b) f = inl f
which_named ps n (variables is) f = inr f

-- ---- a function

abbrev function_class : List Pointer → Name → Class
function_class ps n = narrow (named_class ps n) (IsFunction ps n) (function ps n [] None) (refl, refl, tt, tt)

function_spelt : (ps : List Pointer) (n : Name) (c : ℕ) (all : List Param) (b : Option Body) → named_leaves ps (function ps n all b) ≡ params_class.leaves c all ++ on_body 0 b
function_spelt ps n c all b = ap (λ (ls : List Leaf). at 1 (some_mark marks.OpenParen) ∷ ls) (sym (append_assoc (on_commas 1 (on_param 1) all) (at 1 (some_mark marks.CloseParen) ∷ []) (on_body 0 b)))

function_same : (ps qs : List Pointer) (n m : Name) (all : List Param) (b : Option Body) → ps ≡ qs → n ≡ m → function ps n all b ≡ function qs m all b
function_same ps qs n m all b e f = ap (λ (x : List Pointer). function x n all b) e ∙ ap (λ (x : Name). function qs x all b) f

function_makes : (ps : List Pointer) (n : Name) → Makes (both params_class (λ _. body_class)) (function_class ps n) (λ (all, b). function ps n all b)
function_makes ps n = record {
  fits = λ a f. (refl, refl, f.0, f.1);
  spelt = λ c a. function_spelt ps n c a.0 a.1;
  after = λ c a. refl;
  back = elim [ nothing ↦ λ f. absurd f | function qs m all b ↦ λ f. ((all, b), (f.2, f.3), function_same ps qs n m all b f.0 f.1) | variables is ↦ λ f. absurd f ];
}

function_lawful : Lawful params_class (starts (is_mark marks.OpenParen)) params → Lawful body_class (starts begins_body) body → (ps : List Pointer) (n : Name) → Lawful (function_class ps n) (starts (is_mark marks.OpenParen)) (made (λ (all, b). function ps n all b) (params & body))
function_lawful l m ps n = known (tree (joined l m refl) (function_class ps n) (λ (all, b). function ps n all b) (function_makes ps n)) (record { first = refl; goes = refl; empty = refl })

-- ---- variables

abbrev pub is_more_class : Class
is_more_class = init_class true 0 (IsDeclarator true) tt

abbrev more_class : Class
more_class = record { Tree = InitDeclarator; leaves = behind_comma 0 is_more_class.leaves; after = is_more_class.after; Is = is_more_class.Is; some = is_more_class.some; some_is = is_more_class.some_is }

more_makes : Makes (both (plain_class 0 (mark_sign marks.Comma) tt) (λ _. is_more_class)) more_class (λ (_, i). i)
more_makes = record { fits = λ a f. f.1; spelt = λ c a. refl; after = λ c a. refl; back = λ i f. ((tt, i), (tt, f), refl) }

abbrev variable_parts : List Pointer → Class
variable_parts ps = both (dims_class true 0 (stars 0 ps)) (λ _. both (option_class (value_class true 0)) (λ _. both (row_class more_class) (λ _. plain_class 0 (mark_sign marks.Semicolon) tt)))

abbrev variables_class : List Pointer → Name → Class
variables_class ps n = narrow (named_class ps n) (AreVariables ps n) (variables (init_by (declarator ps n (exprs_of [])) None ∷ [])) ((refl, refl, tt), tt, tt)

variables_spelt : (ps : List Pointer) (c : ℕ) (es : List Expr) (v : Option Expr) (is : List InitDeclarator)
    → on_dims 0 (stars 0 ps) (exprs_of es) ++ (on_value 0 v ++ (on_more 0 (on_init_declarator 0) is ++ at 0 (some_mark marks.Semicolon) ∷ [])) ≡ (variable_parts ps).leaves c (es, (v, (is, tt)))
variables_spelt ps c es v is =
    ap (λ (ls : List Leaf). on_dims 0 (stars 0 ps) (exprs_of es) ++ (ls ++ (on_more 0 (on_init_declarator 0) is ++ at 0 (some_mark marks.Semicolon) ∷ []))) (value_spelt true 0 c v)
    ∙ ap (λ (ls : List Leaf). on_dims 0 (stars 0 ps) (exprs_of es) ++ ((option_class (value_class true 0)).leaves c v ++ (ls ++ at 0 (some_mark marks.Semicolon) ∷ []))) (more_spelt 0 (on_init_declarator 0) ((option_class (value_class true 0)).after c v) is)

variables_back : (ps : List Pointer) (n : Name) (x : Declarator) (v : Option Expr) (is : List InitDeclarator) → IsNamedSo ps n x → IsValue true v → AllByRecursion (IsInitDeclarator true) is
    → (a : (variable_parts ps).Tree) × (variable_parts ps).Is a × (variables (init_by (declarator ps n (exprs_of a.0)) a.1.0 ∷ a.1.1.0) ≡ variables (init_by x v ∷ is))
variables_back ps n (declarator qs m es) v is e f g =
    let all = listed es in
    let are : AreExprs true (exprs_of all.0) = rw (all.1) e.2 in
    let same : declarator ps n (exprs_of all.0) ≡ declarator qs m es = ap (λ (x : Exprs). declarator ps n x) all.1 ∙ ap (λ (x : List Pointer). declarator x n es) e.0 ∙ ap (λ (x : Name). declarator qs x es) e.1 in
    ((all.0, (v, (is, tt))), (are, (there_value true v f, (g, tt))), ap (λ (x : Declarator). variables (init_by x v ∷ is)) same)

variables_makes : (ps : List Pointer) (n : Name) → Makes (variable_parts ps) (variables_class ps n) (λ (es, (v, (ds, _))). variables (init_by (declarator ps n (exprs_of es)) v ∷ ds))
variables_makes ps n = record {
  fits = λ a f. ((refl, refl, f.0), value_there true a.1.0 f.1.0, f.1.1.0);
  spelt = λ c a. variables_spelt ps c a.0 a.1.0 a.1.1.0;
  after = λ c a. sym (flat_after ((option_class (value_class true 0)).after c a.1.0) a.1.1.0 ∙ value_after true 0 c a.1.0);
  back = elim [
    | nothing ↦ λ f. absurd f
    | function qs m all b ↦ λ f. absurd f
    | variables [] ↦ λ f. absurd f
    | variables (i ∷ is) ↦ λ f. variables_back ps n i.declarator i.value is f.0 f.1 f.2
  ];
}

abbrev begins_variables : Sort → Bool
begins_variables s = is_mark marks.OpenBracket s || (is_mark marks.Assign s || (is_mark marks.Comma s || is_mark marks.Semicolon s))

-- dims rest
variables_lawful : LevelLawful true 0 (level_at true 129) → LevelLawful true 1 (level_at true 128) → (ps : List Pointer) (n : Name) → Lawful (variables_class ps n) (starts begins_variables) (variable_rest ps n)
unfolding variable_rest
variables_lawful l m ps n =
    let more = tree (joined (mark_lawful 0 129 refl marks.Comma) (more_init_lawful true 0 128 (level_at true 129) (level_at true 128) refl l m) refl) more_class (λ (_, i). i) more_makes in
    let rest = joined (row_lawful more (is_mark marks.Comma) refl refl refl refl) (mark_lawful 0 129 refl marks.Semicolon) refl in
    let parts = joined (dims_lawful true 0 128 (stars 0 ps) (level_at true 128) refl m) (joined (values_lawful true 0 129 (level_at true 129) refl l) rest refl) refl in
    known (tree parts (variables_class ps n) _ (variables_makes ps n)) (record { first = refl; goes = refl; empty = refl })

-- ---- one of the two

abbrev begins_named : Sort → Bool
begins_named s = is_mark marks.OpenParen s || begins_variables s

named_lawful : LevelLawful true 0 (level_at true 129) → LevelLawful true 1 (level_at true 128) → Lawful params_class (starts (is_mark marks.OpenParen)) params → Lawful body_class (starts begins_body) body → (ps : List Pointer) (n : Name)
    → Lawful (named_class ps n) (starts begins_named) (named_rest ps n)
unfolding named_rest
named_lawful l m q b ps n =
    known (either_lawful (named_class ps n) (IsFunction ps n) (AreVariables ps n) (function_class ps n).some (variables_class ps n).some (function_class ps n).some_is (variables_class ps n).some_is
    (function_lawful q b ps n) (variables_lawful l m ps n) (is_mark marks.OpenParen) refl refl refl (function_fits ps n) (variables_fit ps n) (which_named ps n)) (record { first = refl; goes = refl; empty = refl })

-- ---- with what stands before the name

abbrev pub rest_class : Class
rest_class = record { Tree = Rest; leaves = λ c r. on_rest 0 r; after = λ c r. c; Is = IsRest; some = nothing; some_is = tt }

abbrev IsDeclared : Rest → Type 0
IsDeclared nothing = ⊥
IsDeclared (function ps n all b) = IsRest (function ps n all b)
IsDeclared (variables is) = IsRest (variables is)

abbrev rest_parts : Class
rest_parts = both (bare_class 0) (λ ps. both (plain_class 0 name_at no_name) (λ n. named_class ps n))

abbrev declared_class : Class
declared_class = narrow rest_class IsDeclared (function [] no_name [] None) (tt, tt, tt)

first_fits : (ps : List Pointer) (n : Name) (x : Declarator) (v : Option Expr) (is : List InitDeclarator) → StartsBare ps → IsNamedSo ps n x → IsValue true v → AllByRecursion (IsInitDeclarator true) is → IsRest (variables (init_by x v ∷ is))
first_fits ps n (declarator qs m es) v is s e f g = (subst StartsBare e.0 s, ((e.2, f), g))

rest_fits : (ps : List Pointer) (n : Name) (r : Rest) → StartsBare ps → IsNamed ps n r → IsDeclared r
rest_fits ps n nothing s f = absurd f
rest_fits ps n (function qs m all b) s f = (subst StartsBare f.0 s, f.2, f.3)
rest_fits ps n (variables []) s f = absurd f
rest_fits ps n (variables (i ∷ is)) s f = first_fits ps n i.declarator i.value is s f.0 f.1 f.2

-- the leaves before the name, the name, and those behind it
abbrev whole_leaves : List Pointer → Name → Rest → List Leaf
whole_leaves ps n r = on_pointers 0 0 ps ++ (at 0 (name_at n) ∷ named_leaves ps r)

function_whole : (ps qs : List Pointer) (n m : Name) (all : List Param) (b : Option Body) → ps ≡ qs → n ≡ m → on_rest 0 (function qs m all b) ≡ whole_leaves ps n (function qs m all b)
function_whole ps qs n m all b e f =
    append_assoc (on_pointers 0 0 qs) (at 0 (name_at m) ∷ at 1 (some_mark marks.OpenParen) ∷ on_commas 1 (on_param 1) all) (at 1 (some_mark marks.CloseParen) ∷ on_body 0 b)
    ∙ ap (λ (x : List Pointer). whole_leaves x m (function qs m all b)) (sym e)
    ∙ ap (λ (x : Name). whole_leaves ps x (function qs m all b)) (sym f)

variables_whole : (ps : List Pointer) (n : Name) (x : Declarator) (v : Option Expr) (is : List InitDeclarator) → IsNamedSo ps n x → on_rest 0 (variables (init_by x v ∷ is)) ≡ whole_leaves ps n (variables (init_by x v ∷ is))
variables_whole ps n (declarator qs m es) v is e =
    let r : Rest = variables (init_by (declarator qs m es) v ∷ is) in
    let P : List Leaf = on_pointers 0 0 qs in
    let D : List Leaf = at 0 (name_at m) ∷ on_dims 0 (stars 0 qs) es in
    let V : List Leaf = on_value 0 v in
    let M : List Leaf = on_more 0 (on_init_declarator 0) is in
    let S : List Leaf = at 0 (some_mark marks.Semicolon) ∷ [] in
    append_assoc ((P ++ D) ++ V) M S
    ∙ append_assoc (P ++ D) V (M ++ S)
    ∙ append_assoc P D (V ++ (M ++ S))
    ∙ ap (λ (x : List Pointer). whole_leaves x m r) (sym e.0)
    ∙ ap (λ (x : Name). whole_leaves ps x r) (sym e.1)

rest_spelt : (ps : List Pointer) (n : Name) (r : Rest) → IsNamed ps n r → on_rest 0 r ≡ whole_leaves ps n r
rest_spelt ps n nothing f = absurd f
rest_spelt ps n (function qs m all b) f = function_whole ps qs n m all b f.0 f.1
rest_spelt ps n (variables []) f = absurd f
rest_spelt ps n (variables (i ∷ is)) f = variables_whole ps n i.declarator i.value is f.0

variables_parts : (x : Declarator) (v : Option Expr) (is : List InitDeclarator) → IsRest (variables (init_by x v ∷ is)) → (a : rest_parts.Tree) × rest_parts.Is a × (a.1.1 ≡ variables (init_by x v ∷ is))
variables_parts (declarator ps n es) v is f = ((ps, (n, variables (init_by (declarator ps n es) v ∷ is))), (f.0, (tt, ((refl, refl, f.1.0.0), f.1.0.1, f.1.1))), refl)

rest_forms : Forms rest_parts declared_class (λ (_, (_, r)). r)
rest_forms = record {
  fits = λ a f. rest_fits a.0 a.1.0 a.1.1 f.0 f.1.1;
  spelt = λ c a f. rest_spelt a.0 a.1.0 a.1.1 f.1.1;
  after = λ c a f. refl;
  back = elim [
    | nothing ↦ λ f. absurd f
    | function ps n all b ↦ λ f. ((ps, (n, function ps n all b)), (f.0, (tt, (refl, refl, f.1, f.2))), refl)
    | variables [] ↦ λ f. absurd f.0
    | variables (i ∷ is) ↦ λ f. variables_parts i.declarator i.value is f
  ];
}

abbrev nothing_class : Class
nothing_class = narrow rest_class (λ r. nothing ≡ r) nothing refl

nothing_makes : Makes (plain_class 0 (mark_sign marks.Semicolon) tt) nothing_class (λ _. nothing)
nothing_makes = record { fits = λ a f. refl; spelt = λ c a. refl; after = λ c a. refl; back = λ r f. (tt, tt, f) }

nothing_fits : (r : Rest) → nothing ≡ r → IsRest r
nothing_fits r f = subst IsRest f tt

declared_fits : (r : Rest) → IsDeclared r → IsRest r
declared_fits nothing f = absurd f
declared_fits (function ps n all b) f = f
declared_fits (variables is) f = f

which_rest : (r : Rest) → IsRest r → (nothing ≡ r) ⊎ IsDeclared r
which_rest nothing f = inl refl
which_rest (function ps n all b) f = inr f
which_rest (variables is) f = inr f

abbrev pub begins_rest : Sort → Bool
begins_rest s = is_mark marks.Semicolon s || begins_bare_declarator s

-- ";" | ptr NAME ( "(" [ params ] ")" ( body | ";" ) | dims rest )
pub rest_lawful : LevelLawful true 0 (level_at true 129) → LevelLawful true 1 (level_at true 128) → Lawful params_class (starts (is_mark marks.OpenParen)) params → Lawful body_class (starts begins_body) body → Lawful rest_class (starts begins_rest) external_rest
unfolding external_rest
rest_lawful l m q b =
    let named = named_lawful l m q b in
    let behind = λ (ps : List Pointer). before (name_lawful 0 129 refl) (λ n f. named ps n) refl (λ n. (named ps n).steady) in
    let declared = formed (before (bare_lawful 0 129 refl refl) (λ ps f. behind ps) refl (λ ps. (behind ps).steady)) declared_class (λ (_, (_, r)). r) rest_forms in
    let none = tree (mark_lawful 0 129 refl marks.Semicolon) nothing_class (λ _. nothing) nothing_makes in
    known (either_lawful rest_class (λ r. nothing ≡ r) IsDeclared nothing declared_class.some refl declared_class.some_is none declared (is_mark marks.Semicolon) refl refl refl nothing_fits declared_fits which_rest)
    (record { first = refl; goes = refl; empty = refl })
