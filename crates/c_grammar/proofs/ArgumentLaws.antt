-- The law of what stands between the brackets of a call.
use Rattle.std.proofs.Common.{◌≡◌, ℕ, suc, ◌+◌, ◌≤◌, List, [], ◌∷◌, ◌++◌, Bool, false, refl, ap, subst, inl, inr, ◌⊎◌, arith}
use Rattle.std.specs.List.{AllByRecursion}
use Rattle.ak_words.specs.declared.operation.Op.TheVariants as ops
use Rattle.c_lex.specs.declared.token.Mark.TheVariants as marks
use Rattle.c_tree.specs.declared.syntax.BinaryOp.{BinaryOp}
use Rattle.c_tree.specs.declared.syntax.BinaryOp.TheVariants.{Value, AndAnd, OrOr}
use Rattle.c_tree.specs.Syntax.{Expr, null, binary, conditional, Exprs, no_exprs, more_exprs, exprs_of}
use Rattle.c_grammar.specs.Leaves.{some_mark, Leaf, at}
use Rattle.c_grammar.specs.Grammar.{counted, counted_all, on, on_args, on_more_args, height, rank, IsExpr, AreExprs}
use Rattle.c_grammar.specs.inner.Tokens.{is_mark, begins_expr}
use Rattle.c_grammar.specs.inner.Reading.{Level, arguments}
use Rattle.c_grammar.proofs.Lawful.{Class, Info, Lawful, both}
use Rattle.c_grammar.proofs.Joints.{known, nothing_lawful}
use Rattle.c_grammar.proofs.Loops.{row_leaves, row_after, from_leaves, FromIs}
use Rattle.c_grammar.proofs.TokenLaws.{Room, plain_class, mark_sign, mark_lawful}
use Rattle.c_grammar.proofs.TreeClasses.{expr_class, LevelLawful}
use Rattle.c_grammar.proofs.MoreJoints.{joined, Forms, formed, either_lawful, behind_comma, commas_lawful}

-- ---- ranks

pub height_most : (op : BinaryOp) → height op ≤ 9
height_most (Value ops.Mul) = omega arith
height_most (Value ops.Div) = omega arith
height_most (Value ops.Rem) = omega arith
height_most (Value ops.Add) = omega arith
height_most (Value ops.Sub) = omega arith
height_most (Value ops.Shl) = omega arith
height_most (Value ops.Shr) = omega arith
height_most (Value ops.Lt) = omega arith
height_most (Value ops.Gt) = omega arith
height_most (Value ops.Le) = omega arith
height_most (Value ops.Ge) = omega arith
height_most (Value ops.Eq) = omega arith
height_most (Value ops.Ne) = omega arith
height_most (Value ops.And) = omega arith
height_most (Value ops.Xor) = omega arith
height_most (Value ops.Or) = omega arith
height_most AndAnd = omega arith
height_most OrOr = omega arith

pub rank_most : (e : Expr) → rank e ≤ 13
rank_most (binary place op a b) = let h = height_most op in omega (arith, h)
rank_most (conditional place a b e) = omega arith
rank_most _ = omega arith

-- ---- expressions in a row, and lists

pub listed : (es : Exprs) → (all : List Expr) × (exprs_of all ≡ es)
listed no_exprs = ([], refl)
listed (more_exprs e rest) = let l = listed rest in (e ∷ l.0, ap (λ (x : Exprs). more_exprs e x) l.1)

-- an expression of any rank
abbrev pub IsAny : Bool → Expr → Type 0
IsAny b e = (rank e ≤ 13) × IsExpr b e

pub are_all : (b : Bool) (all : List Expr) → AreExprs b (exprs_of all) → AllByRecursion (IsAny b) all
are_all b [] f = tt
are_all b (e ∷ all) f = ((rank_most e, f.0), are_all b all f.1)

pub all_are : (b : Bool) (all : List Expr) → AllByRecursion (IsAny b) all → AreExprs b (exprs_of all)
all_are b [] f = tt
all_are b (e ∷ all) f = (f.0.1, all_are b all f.1)

more_spelt : (d c : ℕ) (all : List Expr) → on_more_args d c (exprs_of all) ≡ row_leaves (behind_comma d (λ c e. on d c e)) (λ c e. counted c e) c all
more_spelt d c [] = refl
more_spelt d c (e ∷ all) = ap (λ (ls : List Leaf). at d (some_mark marks.Comma) ∷ on d c e ++ ls) (more_spelt d (counted c e) all)

args_spelt : (d c : ℕ) (all : List Expr) → on_args d c (exprs_of all) ≡ from_leaves (λ c e. on d c e) (behind_comma d (λ c e. on d c e)) (λ c e. counted c e) c all
args_spelt d c [] = refl
args_spelt d c (e ∷ all) = ap (λ (ls : List Leaf). on d c e ++ ls) (more_spelt d (counted c e) all)

args_after : (c : ℕ) (all : List Expr) → counted_all c (exprs_of all) ≡ row_after (λ c e. counted c e) c all
args_after c [] = refl
args_after c (e ∷ all) = args_after (counted c e) all

-- ---- classes

-- expressions with commas between them, at the level of the expressions
abbrev pub list_class : Bool → ℕ → Class
list_class b d = record {
  Tree = List Expr;
  leaves = λ c all. on_args d c (exprs_of all);
  after = λ c all. counted_all c (exprs_of all);
  Is = λ all. AreExprs b (exprs_of all);
  some = [];
  some_is = tt;
}

-- the same in brackets, at the level of what stands before them
abbrev pub args_class : Bool → ℕ → Class
args_class b d = record {
  Tree = List Expr;
  leaves = λ c all. at (d + 1) (some_mark marks.OpenParen) ∷ on_args (d + 1) c (exprs_of all) ++ at (d + 1) (some_mark marks.CloseParen) ∷ [];
  after = λ c all. counted_all c (exprs_of all);
  Is = λ all. AreExprs b (exprs_of all);
  some = [];
  some_is = tt;
}

abbrev pub args_info : Info
args_info = record { first = is_mark marks.OpenParen; goes = λ s. false; empty = false }

-- one expression or more
abbrev IsFrom : Bool → List Expr → Type 0
IsFrom b all = FromIs (IsAny b) (IsAny b) all

from_fits : (b : Bool) (all : List Expr) → IsFrom b all → AreExprs b (exprs_of all)
from_fits b [] f = absurd f
from_fits b (e ∷ all) f = (f.0.1, all_are b all f.1)

none_fits : (b : Bool) (all : List Expr) → [] ≡ all → AreExprs b (exprs_of all)
none_fits b all e = subst (λ (x : List Expr). AreExprs b (exprs_of x)) e tt

some_or_none : (b : Bool) (all : List Expr) → AreExprs b (exprs_of all) → IsFrom b all ⊎ ([] ≡ all)
some_or_none b [] f = inr refl
some_or_none b (e ∷ all) f = inl ((rank_most e, f.0), are_all b all f.1)

-- ---- the readers

pub room_deeper : (d n : ℕ) → Room d (suc n) → Room (d + 1) n
room_deeper d n e = omega (arith, e)

-- the same list, spelled as a row is
abbrev row_list_class : Bool → ℕ → Class
row_list_class b d = record {
  Tree = List Expr;
  leaves = λ c all. from_leaves (λ c e. on d c e) (behind_comma d (λ c e. on d c e)) (λ c e. counted c e) c all;
  after = λ c all. row_after (λ c e. counted c e) c all;
  Is = λ all. AreExprs b (exprs_of all);
  some = [];
  some_is = tt;
}

args_forms : (b : Bool) (d : ℕ) → Forms (both (plain_class (d + 1) (mark_sign marks.OpenParen) tt) (λ _. both (row_list_class b (d + 1)) (λ _. plain_class (d + 1) (mark_sign marks.CloseParen) tt))) (args_class b d) (λ (_, (all, _)). all)
args_forms b d = record {
  fits = λ a f. f.1.0;
  spelt = λ c a f. ap (λ (ls : List Leaf). at (d + 1) (some_mark marks.OpenParen) ∷ ls ++ at (d + 1) (some_mark marks.CloseParen) ∷ []) (args_spelt (d + 1) c a.1.0);
  after = λ c a f. args_after c a.1.0;
  back = λ all f. ((tt, (all, tt)), (tt, (f, tt)), refl);
}

-- "(" [ expr { "," expr } ] ")"
pub arguments_lawful : (b : Bool) (d deeper : ℕ) (inner : Level) → Room d (suc deeper) → LevelLawful b (d + 1) inner → Lawful (args_class b d) args_info (arguments deeper inner)
unfolding arguments
arguments_lawful b d deeper inner e l =
    let r : Room (d + 1) deeper = room_deeper d deeper e in
    let C = expr_class b (d + 1) 13 in
    let row = commas_lawful C C.Is C.some_is (d + 1) deeper r l.expr l.expr refl refl refl in
    let none = nothing_lawful (row_list_class b (d + 1)) [] (λ c. refl) (λ c. refl) in
    let list = either_lawful (row_list_class b (d + 1)) (IsFrom b) (λ x. [] ≡ x) (null 0 ∷ []) [] (C.some_is, tt) refl row none begins_expr refl refl refl (from_fits b) (none_fits b) (some_or_none b) in
    let all = joined (mark_lawful (d + 1) deeper r marks.OpenParen) (joined list (mark_lawful (d + 1) deeper r marks.CloseParen) refl) refl in
    known (formed all (args_class b d) (λ (_, (all, _)). all) (args_forms b d)) (record { first = refl; goes = refl; empty = refl })
