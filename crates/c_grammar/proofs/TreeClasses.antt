-- The trees that a level's readers are for, and the laws of a level: what the deeper level is known to be, when one is read.
use Rattle.std.proofs.Common.{◌≡◌, ℕ, ◌+◌, ◌≤◌, List, [], ◌∷◌, ◌++◌, Bool, true, false, arith}
use Rattle.std.specs.Prelude.{◌||◌}
use Rattle.c_lex.specs.declared.token.Mark.TheVariants as marks
use Rattle.c_tree.specs.declared.syntax.TypeWord.TheVariants as types
use Rattle.c_tree.specs.Syntax.{Expr, null, TypeName, type_name, word, no_specs, more_specs, Member, members_of, declarator, more_declarators, no_declarators, no_exprs}
use Rattle.c_grammar.specs.Leaves.{some_mark, Leaf, at}
use Rattle.c_grammar.specs.Grammar.{counted, on, on_type, on_member, rank, IsExpr, IsType, IsMember}
use Rattle.c_grammar.specs.inner.Readers.{Sort, a_mark}
use Rattle.c_grammar.specs.inner.Tokens.{op_of_mark, is_some, is_mark, is_text, begins_type, begins_expr, is_pointer}
use Rattle.c_grammar.specs.inner.Reading.{Sized, a_type, an_expr, Level, begins_post}
use Rattle.c_grammar.proofs.Lawful.{Class, Info, Lawful}

-- ---- what may not follow, since it would be read on

-- behind a postfix, a unary or a cast: a postfix operator, the bracket of a call, one more string
abbrev pub goes_postfix : Sort → Bool
goes_postfix s = begins_post s || (is_mark marks.OpenParen s || is_text s)

-- a binary operator of any height
abbrev pub is_operator : Sort → Bool
is_operator (a_mark m) = is_some (op_of_mark m)
is_operator _ = false

-- behind an expression: these, and any operator that joins it to another
abbrev pub goes_expr : Sort → Bool
goes_expr s = goes_postfix s || (is_operator s || is_mark marks.Question s)

-- behind a type name: a word of a type, what stands before a name, and where they may stand the braces of a struct
abbrev pub goes_type : Sort → Bool
goes_type s = begins_type s || (is_pointer s || is_mark marks.OpenBrace s)

abbrev pub postfix_info : Info
postfix_info = record { first = begins_expr; goes = goes_postfix; empty = false }

abbrev pub expr_info : Info
expr_info = record { first = begins_expr; goes = goes_expr; empty = false }

abbrev pub type_info : Info
type_info = record { first = begins_type; goes = goes_type; empty = false }

abbrev pub member_info : Info
member_info = record { first = begins_type; goes = λ s. false; empty = false }

-- ---- the classes

pub none_less : (k : ℕ) → 0 ≤ k
none_less k = omega arith

-- expressions at the level d that bind as tightly as the rank k, or tighter; braces of a struct may stand in them where b says so
abbrev pub expr_class : Bool → ℕ → ℕ → Class
expr_class b d k = record {
  Tree = Expr;
  leaves = λ c e. on d c e;
  after = λ c e. counted c e;
  Is = λ e. (rank e ≤ k) × IsExpr b e;
  some = null 0;
  some_is = (none_less k, tt);
}

-- what stands behind sizeof, where sizeof itself is a level less deep; a type in brackets lies a level deeper
abbrev pub on_sized : ℕ → ℕ → Sized → List Leaf
on_sized d c (a_type t) = at (d + 1) (some_mark marks.OpenParen) ∷ on_type (d + 1) t ++ at (d + 1) (some_mark marks.CloseParen) ∷ []
on_sized d c (an_expr e) = on d c e

abbrev pub counted_sized : ℕ → Sized → ℕ
counted_sized c (a_type t) = c
counted_sized c (an_expr e) = counted c e

abbrev pub IsSized : Bool → Sized → Type 0
IsSized b (a_type t) = IsType b t
IsSized b (an_expr e) = (rank e ≤ 1) × IsExpr b e

abbrev pub sized_class : Bool → ℕ → Class
sized_class b d = record {
  Tree = Sized;
  leaves = on_sized d;
  after = counted_sized;
  Is = IsSized b;
  some = an_expr (null 0);
  some_is = (none_less 1, tt);
}

abbrev pub type_class : Bool → ℕ → Class
type_class b d = record {
  Tree = TypeName;
  leaves = λ c t. on_type d t;
  after = λ c t. c;
  Is = λ t. IsType b t;
  some = type_name (more_specs (word 0 types.Int) no_specs) [];
  some_is = (tt, (tt, tt), tt);
}

abbrev pub member_class : ℕ → Class
member_class d = record {
  Tree = Member;
  leaves = λ c m. on_member d m;
  after = λ c m. c;
  Is = λ m. IsMember m;
  some = members_of (more_specs (word 0 types.Int) no_specs) (more_declarators (declarator [] (record { from = 0; to = 0 }) no_exprs) no_declarators);
  some_is = (tt, (tt, tt), tt, (tt, tt));
}

-- ---- a level

-- the readers of the level d keep the laws; braces of a struct may stand in its types where b says so, and its members may have them always,
-- so they are read only there
pub record LevelLawful (b : Bool) (d : ℕ) (l : Level) : Type 0 where
  pub expr : Lawful (expr_class b d 13) expr_info l.expr
  pub cast : Lawful (expr_class b d 2) postfix_info l.cast
  pub unary : Lawful (expr_class b d 1) postfix_info l.unary
  pub sized : Lawful (sized_class b d) postfix_info l.sized
  pub type_name : Lawful (type_class b d) type_info l.type_name
  pub member : b ≡ true → Lawful (member_class d) member_info l.member
