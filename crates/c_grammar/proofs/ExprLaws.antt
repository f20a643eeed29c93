-- The law of expressions: binary operators, and a conditional behind them. With it what a level's readers of expressions are, by the deeper level.
use Rattle.std.proofs.Common.{◌≡◌, ℕ, suc, ◌+◌, ◌≤◌, ◌∷◌, Option, Some, None, Bool, refl, sym, arith, append_assoc}
use Rattle.std.proofs.lemmas.List.{append-nil}
use Rattle.c_lex.specs.declared.token.Mark.TheVariants as marks
use Rattle.c_tree.specs.Syntax.{Expr, binary, conditional}
use Rattle.c_grammar.specs.Leaves.{mark_at, some_mark, at}
use Rattle.c_grammar.specs.Grammar.{counted, on, rank, IsExpr}
use Rattle.c_grammar.specs.inner.Tokens.{is_mark}
use Rattle.c_grammar.specs.inner.Reading.{Level, casted, conditional_by, expr}
use Rattle.c_grammar.proofs.Lawful.{Class, Lawful, both}
use Rattle.c_grammar.proofs.Joints.{known}
use Rattle.c_grammar.proofs.Loops.{option_class, maybe_lawful}
use Rattle.c_grammar.proofs.TokenLaws.{Room, plain_class, mark_sign, mark_place_sign, mark_lawful, mark_place_lawful}
use Rattle.c_grammar.proofs.TreeClasses.{expr_class, expr_info, LevelLawful}
use Rattle.c_grammar.proofs.MoreJoints.{joined, Forms, formed}
use Rattle.c_grammar.proofs.ArgumentLaws.{height_most, rank_most}
use Rattle.c_grammar.proofs.CastLaws.{casted_lawful}
use Rattle.c_grammar.proofs.LadderLaws.{ladder_lawful}

-- a question mark, an expression, a colon and an expression
abbrev branches_class : Bool → ℕ → Class
branches_class b d = both (plain_class d (mark_place_sign marks.Question) 0) (λ _. both (expr_class b (d + 1) 13) (λ _. both (plain_class d (mark_sign marks.Colon) tt) (λ _. expr_class b (d + 1) 13)))

abbrev Branches : Type 0
Branches = ℕ × (Expr × (Unit {0} × Expr))

abbrev parts_class : Bool → ℕ → Class
parts_class b d = both (expr_class b d 12) (λ _. option_class (branches_class b d))

expr_forms : (b : Bool) (d : ℕ) → Forms (parts_class b d) (expr_class b d 13) (λ (a, o). conditional_by a o)
expr_forms b d = record {
  fits = λ x f. fits_by x.0 x.1 f;
  spelt = λ c x f. spelt_by c x.0 x.1;
  after = λ c x f. after_by c x.0 x.1;
  back = back_by;
}
  where
    fits_by : (a : Expr) (o : Option Branches) → (parts_class b d).Is (a, o) → (rank (conditional_by a o) ≤ 13) × IsExpr b (conditional_by a o)
    fits_by a None f = (rank_most a, f.0.1)
    fits_by a (Some x) f = (rank_most (conditional x.0 a x.1.0 x.1.1.1), (f.0.0, f.0.1, f.1.1.0.1, f.1.1.1.1.1))

    spelt_by : (c : ℕ) (a : Expr) (o : Option Branches) → on d c (conditional_by a o) ≡ (parts_class b d).leaves c (a, o)
    spelt_by c a None = sym (append-nil (on d c a))
    spelt_by c a (Some x) = append_assoc (on d c a) (at d (mark_at x.0 marks.Question) ∷ on (d + 1) (counted c a) x.1.0) (at d (some_mark marks.Colon) ∷ on (d + 1) (counted (counted c a) x.1.0) x.1.1.1)

    after_by : (c : ℕ) (a : Expr) (o : Option Branches) → counted c (conditional_by a o) ≡ (parts_class b d).after c (a, o)
    after_by c a None = refl
    after_by c a (Some x) = refl

    alone : (e : Expr) → rank e ≤ 12 → IsExpr b e → (x : Expr × Option Branches) × (parts_class b d).Is x × (conditional_by x.0 x.1 ≡ e)
    alone e le f = ((e, None), ((le, f), tt), refl)

    back_by : (e : Expr) → (rank e ≤ 13) × IsExpr b e → (x : Expr × Option Branches) × (parts_class b d).Is x × (conditional_by x.0 x.1 ≡ e)
    back_by (conditional place a t e) f = ((a, Some (place, (t, (tt, e)))), ((f.1.0, f.1.1), (tt, ((rank_most t, f.1.2), (tt, (rank_most e, f.1.3))))), refl)
    back_by (binary place op a e) f = let h = height_most op in alone (binary place op a e) (omega (arith, h)) f.1
    back_by e f = alone e (omega arith) f.1

-- or [ "?" expr ":" expr ]
pub expr_lawful : (b : Bool) (d deeper : ℕ) (inner : Level) → Room d (suc deeper) → LevelLawful b (d + 1) inner → Lawful (expr_class b d 13) expr_info (expr (suc deeper) deeper inner)
unfolding expr
expr_lawful b d deeper inner e l =
    let n = suc deeper in
    let operators = ladder_lawful b d n e (casted n deeper inner) (casted_lawful b d deeper inner e l) 10 (omega arith) in
    let branches = joined (mark_place_lawful d n e marks.Question) (joined l.expr (joined (mark_lawful d n e marks.Colon) l.expr refl) refl) refl in
    let all = joined operators (maybe_lawful branches (is_mark marks.Question) refl refl) refl in
    known (formed all (expr_class b d 13) (λ (a, o). conditional_by a o) (expr_forms b d)) (record { first = refl; goes = refl; empty = refl })
