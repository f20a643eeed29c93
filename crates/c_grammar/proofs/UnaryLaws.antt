-- The laws of unary expressions, of casts, and of what stands behind sizeof. A bracket opens a group or the type of a cast: the token
-- behind it tells which.
use Rattle.std.proofs.Common.{◌≡◌, ℕ, suc, ◌+◌, ◌≤◌, List, [], ◌∷◌, ◌++◌, Option, Some, Bool, true, false, refl, ap, ◌∙◌, arith, nat_lt}
use Rattle.c_lex.specs.declared.token.Word.TheVariants as words
use Rattle.c_lex.specs.declared.token.Mark.TheVariants as marks
use Rattle.c_tree.specs.declared.syntax.PrefixOp.{PrefixOp}
use Rattle.c_tree.specs.declared.syntax.PrefixOp.TheVariants as prefixes
use Rattle.c_tree.specs.Syntax.{Expr, null, group, prefix, sizeof_type, sizeof_expr, cast, index, member, arrow, binary, conditional}
use Rattle.c_grammar.specs.Leaves.{Sign, mark_at, word_at, some_mark, Leaf, at}
use Rattle.c_grammar.specs.Grammar.{mark_of_prefix, counted, on, on_type, rank, IsExpr}
use Rattle.c_grammar.specs.inner.Tokens.{is_mark, is_word}
use Rattle.c_grammar.specs.inner.Reading.{Sized, a_type, an_expr, Level, an_index, a_member, an_arrow, begins_post, UnaryStart, Primary, Paren, Prefix, Sizeof, unary_start, sizeof_by, unary_by, unary}
use Rattle.c_grammar.proofs.Lawful.{Class, Info, Lawful, both}
use Rattle.c_grammar.proofs.Joints.{Makes, tree, known, narrow}
use Rattle.c_grammar.proofs.TokenLaws.{Room, plain_class, mark_sign, word_place_sign, marked, is_prefix, mark_lawful, word_place_lawful, prefix_lawful, shallow}
use Rattle.c_grammar.proofs.TreeClasses.{none_less, goes_postfix, postfix_info, expr_class, on_sized, counted_sized, IsSized, sized_class, LevelLawful}
use Rattle.c_grammar.proofs.MoreJoints.{joined, Forms, formed}
use Rattle.c_grammar.proofs.Respelling.{retold, Picks, picked}
use Rattle.c_grammar.proofs.ArgumentLaws.{room_deeper}
use Rattle.c_grammar.proofs.PostfixLaws.{on_post, posted_spelt, start_of, Begins, behind, group_class, group_rest_lawful}
use Rattle.c_grammar.proofs.OperandLaws.{primary_info, primary_lawful}

-- ---- expressions by what they begin with

pub one_one : 1 ≤ 1
one_one = omega arith

pub one_two : 1 ≤ 2
one_two = omega arith

abbrev pub some_begin : (b : Bool) (k : ℕ) → 1 ≤ k → (s : UnaryStart) → (e : Expr) × Begins b k s e
some_begin b k le Primary = (null 0, (none_less k, tt, refl))
some_begin b k le Paren = (group (null 0), (none_less k, tt, refl))
some_begin b k le Prefix = (prefix 0 prefixes.Minus (null 0), (le, (none_less 2, tt), refl))
some_begin b k le Sizeof = (sizeof_expr 0 (null 0), (le, (none_less 1, tt), refl))

abbrev pub begin_class : Bool → ℕ → (k : ℕ) → 1 ≤ k → UnaryStart → Class
begin_class b d k le s = narrow (expr_class b d k) (Begins b k s) (some_begin b k le s).0 (some_begin b k le s).1

pub low_primary : (b : Bool) (e : Expr) → Begins b 2 Primary e → rank e ≤ 0
low_primary b (prefix place op e) f = absurd (cc f.2)
low_primary b (sizeof_type place t) f = absurd (cc f.2)
low_primary b (sizeof_expr place e) f = absurd (cc f.2)
low_primary b (cast place t e) f = absurd (cc f.2)
low_primary b (binary place op a e) f = absurd (omega (arith, f.0))
low_primary b (conditional place a t e) f = absurd (omega (arith, f.0))
low_primary b _ f = none_less 0

pub low_paren : (b : Bool) (e : Expr) → Begins b 1 Paren e → rank e ≤ 0
low_paren b (prefix place op e) f = absurd (cc f.2)
low_paren b (sizeof_type place t) f = absurd (cc f.2)
low_paren b (sizeof_expr place e) f = absurd (cc f.2)
low_paren b (cast place t e) f = absurd (omega (arith, f.0))
low_paren b (binary place op a e) f = absurd (omega (arith, f.0))
low_paren b (conditional place a t e) f = absurd (omega (arith, f.0))
low_paren b _ f = none_less 0

pub not_cast : (e : Expr) → rank e ≤ 2 → (start_of e ≡ Paren → ⊥) → rank e ≤ 1
not_cast (prefix place op e) le h = one_one
not_cast (sizeof_type place t) le h = one_one
not_cast (sizeof_expr place e) le h = one_one
not_cast (cast place t e) le h = absurd (h refl)
not_cast (binary place op a e) le h = absurd (omega (arith, le))
not_cast (conditional place a t e) le h = absurd (omega (arith, le))
not_cast _ le h = none_less 1

-- no postfix begins with an operator
not_operator : (b : Bool) (e : Expr) → rank e ≤ 0 → IsExpr b e → (start_of e ≡ Prefix → ⊥) × (start_of e ≡ Sizeof → ⊥)
not_operator b (index place a i) le f = not_operator b a f.0 f.1
not_operator b (member place a m) le f = not_operator b a f.0 f.1
not_operator b (arrow place a m) le f = not_operator b a f.0 f.1
not_operator b (prefix place op e) le f = absurd (omega (arith, le))
not_operator b (sizeof_type place t) le f = absurd (omega (arith, le))
not_operator b (sizeof_expr place e) le f = absurd (omega (arith, le))
not_operator b (binary place op a e) le f = absurd (omega (arith, le))
not_operator b (conditional place a t e) le f = absurd (omega (arith, le))
not_operator b _ le f = (λ h. absurd (cc h), λ h. absurd (cc h))

-- ---- the leaves behind the bracket that begins an expression

pub group_opens : (b : Bool) (d c : ℕ) (e : Expr) → Begins b 0 Paren e → on d c e ≡ at (d + 1) (some_mark marks.OpenParen) ∷ behind d c e
group_opens b d c (group e) f = refl
group_opens b d c (index place a i) f = posted_spelt d c a (an_index place i) ∙ ap (λ (ls : List Leaf). ls ++ on_post d (counted c a) (an_index place i)) (group_opens b d c a (f.1.0, f.1.1, f.2))
group_opens b d c (member place a m) f = posted_spelt d c a (a_member place m) ∙ ap (λ (ls : List Leaf). ls ++ on_post d (counted c a) (a_member place m)) (group_opens b d c a (f.1.0, f.1.1, f.2))
group_opens b d c (arrow place a m) f = posted_spelt d c a (an_arrow place m) ∙ ap (λ (ls : List Leaf). ls ++ on_post d (counted c a) (an_arrow place m)) (group_opens b d c a (f.1.0, f.1.1, f.2))
group_opens b d c (cast place t e) f = absurd (omega (arith, f.0))
group_opens b d c (binary place op a e) f = absurd (omega (arith, f.0))
group_opens b d c (conditional place a t e) f = absurd (omega (arith, f.0))
group_opens b d c _ f = absurd (cc f.2)

-- the bracket: the tree knows the place of a cast's
abbrev pub opening : Expr → Sign
opening (cast place t e) = mark_at place marks.OpenParen
opening _ = some_mark marks.OpenParen

pub opens : (b : Bool) (d c : ℕ) (e : Expr) → Begins b 2 Paren e → on d c e ≡ at (d + 1) (opening e) ∷ behind d c e
opens b d c (cast place t e) f = refl
opens b d c (group e) f = refl
opens b d c (index place a i) f = group_opens b d c (index place a i) (none_less 0, f.1, f.2)
opens b d c (member place a m) f = group_opens b d c (member place a m) (none_less 0, f.1, f.2)
opens b d c (arrow place a m) f = group_opens b d c (arrow place a m) (none_less 0, f.1, f.2)
opens b d c (binary place op a e) f = absurd (omega (arith, f.0))
opens b d c (conditional place a t e) f = absurd (omega (arith, f.0))
opens b d c _ f = absurd (cc f.2)

-- ---- unary expressions

abbrev pub start_info : UnaryStart → Info
start_info Primary = primary_info
start_info Paren = record { first = is_mark marks.OpenParen; goes = begins_post; empty = false }
start_info Prefix = record { first = is_prefix; goes = goes_postfix; empty = false }
start_info Sizeof = record { first = is_word words.Sizeof; goes = goes_postfix; empty = false }

abbrev pub is_start : UnaryStart → Option UnaryStart → Bool
is_start Primary (Some Primary) = true
is_start Paren (Some Paren) = true
is_start Prefix (Some Prefix) = true
is_start Sizeof (Some Sizeof) = true
is_start _ _ = false

pub start_is : (s : UnaryStart) (o : Option UnaryStart) → is_start s o ≡ true → o ≡ Some s
start_is Primary (Some Primary) e = refl
start_is Paren (Some Paren) e = refl
start_is Prefix (Some Prefix) e = refl
start_is Sizeof (Some Sizeof) e = refl
start_is _ _ e = absurd cc

pub begin_picks : (b : Bool) (d k : ℕ) → nat_lt 128 d ≡ false → Picks (expr_class b d k) postfix_info unary_start (Begins b k) start_info is_start
begin_picks b d k s = record {
  is = start_is;
  fits = λ s e f. (f.0, f.1);
  which = λ e f. (start_of e, (f.0, f.1, refl));
  told = elim [ Primary ↦ refl | Paren ↦ refl | Prefix ↦ refl | Sizeof ↦ refl ];
  some = elim [ Primary ↦ refl | Paren ↦ refl | Prefix ↦ refl | Sizeof ↦ refl ];
  first = elim [ Primary ↦ refl | Paren ↦ refl | Prefix ↦ refl | Sizeof ↦ refl ];
  goes = elim [ Primary ↦ refl | Paren ↦ refl | Prefix ↦ refl | Sizeof ↦ refl ];
  shallow = λ c. record { tree = null 0; fits = (none_less k, tt); shallow = s };
}

group_forms : (b : Bool) (d : ℕ) → Forms (both (plain_class (d + 1) (mark_sign marks.OpenParen) tt) (λ _. group_class b d)) (begin_class b d 1 one_one Paren) (λ (_, e). e)
group_forms b d = record {
  fits = λ a f. (lower a.1 f.1.0, f.1.1, f.1.2);
  spelt = λ c a f. group_opens b d c a.1 f.1;
  after = λ c a f. refl;
  back = λ e f. ((tt, e), (tt, (low_paren b e f, f.1, f.2)), refl);
}
  where
    lower : (e : Expr) → rank e ≤ 0 → rank e ≤ 1
    lower e le = omega (arith, le)

prefix_makes : (b : Bool) (d : ℕ) → Makes (both (plain_class d (marked mark_of_prefix) (0, prefixes.Minus)) (λ _. expr_class b (d + 1) 2)) (begin_class b d 1 one_one Prefix) (λ ((place, op), e). prefix place op e)
prefix_makes b d = record {
  fits = λ a f. (one_one, f.1, refl);
  spelt = λ c a. refl;
  after = λ c a. refl;
  back = prefix_back;
}
  where
    prefix_back : (e : Expr) → Begins b 1 Prefix e → (a : (ℕ × PrefixOp) × Expr) × (Unit {0} × ((rank a.1 ≤ 2) × IsExpr b a.1)) × (prefix a.0.0 a.0.1 a.1 ≡ e)
    prefix_back (prefix place op e) f = (((place, op), e), (tt, f.1), refl)
    prefix_back (index place a i) f = absurd ((not_operator b a f.1.0 f.1.1).0 f.2)
    prefix_back (member place a m) f = absurd ((not_operator b a f.1.0 f.1.1).0 f.2)
    prefix_back (arrow place a m) f = absurd ((not_operator b a f.1.0 f.1.1).0 f.2)
    prefix_back (binary place op a e) f = absurd (omega (arith, f.0))
    prefix_back (conditional place a t e) f = absurd (omega (arith, f.0))
    prefix_back _ f = absurd (cc f.2)

next_level : (d : ℕ) → d + 2 ≡ d + 1 + 1
next_level d = omega arith

sizeof_makes : (b : Bool) (d : ℕ) → Makes (both (plain_class d (word_place_sign words.Sizeof) 0) (λ _. sized_class b (d + 1))) (begin_class b d 1 one_one Sizeof) (λ (place, s). sizeof_by place s)
sizeof_makes b d = record {
  fits = λ a f. sizeof_fits a.0 a.1 f.1;
  spelt = λ c a. sizeof_spelt c a.0 a.1;
  after = λ c a. sizeof_after c a.0 a.1;
  back = sizeof_back;
}
  where
    sizeof_fits : (place : ℕ) (s : Sized) → IsSized b s → Begins b 1 Sizeof (sizeof_by place s)
    sizeof_fits place (a_type t) f = (one_one, f, refl)
    sizeof_fits place (an_expr e) f = (one_one, f, refl)

    sizeof_spelt : (c place : ℕ) (s : Sized) → on d c (sizeof_by place s) ≡ at d (word_at place words.Sizeof) ∷ on_sized (d + 1) c s
    sizeof_spelt c place (a_type t) = ap (λ (n : ℕ). at d (word_at place words.Sizeof) ∷ at n (some_mark marks.OpenParen) ∷ on_type n t ++ at n (some_mark marks.CloseParen) ∷ []) (next_level d)
    sizeof_spelt c place (an_expr e) = refl

    sizeof_after : (c place : ℕ) (s : Sized) → counted c (sizeof_by place s) ≡ counted_sized c s
    sizeof_after c place (a_type t) = refl
    sizeof_after c place (an_expr e) = refl

    sizeof_back : (e : Expr) → Begins b 1 Sizeof e → (a : ℕ × Sized) × (Unit {0} × IsSized b a.1) × (sizeof_by a.0 a.1 ≡ e)
    sizeof_back (sizeof_type place t) f = ((place, a_type t), (tt, f.1), refl)
    sizeof_back (sizeof_expr place e) f = ((place, an_expr e), (tt, f.1), refl)
    sizeof_back (index place a i) f = absurd ((not_operator b a f.1.0 f.1.1).1 f.2)
    sizeof_back (member place a m) f = absurd ((not_operator b a f.1.0 f.1.1).1 f.2)
    sizeof_back (arrow place a m) f = absurd ((not_operator b a f.1.0 f.1.1).1 f.2)
    sizeof_back (binary place op a e) f = absurd (omega (arith, f.0))
    sizeof_back (conditional place a t e) f = absurd (omega (arith, f.0))
    sizeof_back _ f = absurd (cc f.2)

primary_low : (b : Bool) (e : Expr) → Begins b 1 Primary e → Begins b 0 Primary e
primary_low b e f = let le : rank e ≤ 2 = omega (arith, f.0) in (low_primary b e (le, f.1, f.2), f.1, f.2)

primary_high : (b : Bool) (e : Expr) → Begins b 0 Primary e → Begins b 1 Primary e
primary_high b e f = let le : rank e ≤ 1 = omega (arith, f.0) in (le, f.1, f.2)

pub unary_part : (b : Bool) (d deeper : ℕ) (inner : Level) → Room d (suc deeper) → LevelLawful b (d + 1) inner → (s : UnaryStart) → Lawful (begin_class b d 1 one_one s) (start_info s) (unary_by (suc deeper) deeper inner s)
unary_part b d deeper inner e l Primary = retold (primary_lawful b d deeper inner e l) (Begins b 1 Primary) (null 0) (none_less 1, tt, refl) (primary_high b) (primary_low b)
unary_part b d deeper inner e l Paren =
    let r = room_deeper d deeper e in
    let all = joined (mark_lawful (d + 1) deeper r marks.OpenParen) (group_rest_lawful b d deeper inner e l) refl in
    known (formed all (begin_class b d 1 one_one Paren) (λ (_, e). e) (group_forms b d)) (record { first = refl; goes = refl; empty = refl })
unary_part b d deeper inner e l Prefix =
    let all = joined (prefix_lawful d (suc deeper) e) l.cast refl in
    known (tree all (begin_class b d 1 one_one Prefix) (λ ((place, op), e). prefix place op e) (prefix_makes b d)) (record { first = refl; goes = refl; empty = refl })
unary_part b d deeper inner e l Sizeof =
    let all = joined (word_place_lawful d (suc deeper) e words.Sizeof) l.sized refl in
    known (tree all (begin_class b d 1 one_one Sizeof) (λ (place, s). sizeof_by place s) (sizeof_makes b d)) (record { first = refl; goes = refl; empty = refl })

-- unary
pub unary_lawful : (b : Bool) (d deeper : ℕ) (inner : Level) → Room d (suc deeper) → LevelLawful b (d + 1) inner → Lawful (expr_class b d 1) postfix_info (unary (suc deeper) deeper inner)
unfolding unary
unary_lawful b d deeper inner e l = picked (expr_class b d 1) postfix_info unary_start (Begins b 1) start_info is_start (begin_picks b d 1 (shallow d deeper e)) (some_begin b 1 one_one) (unary_by (suc deeper) deeper inner) (unary_part b d deeper inner e l)
