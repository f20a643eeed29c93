-- The trees that the readers of statements are for, and what those readers take of expressions and declarations.
use Rattle.std.proofs.Common.{ℕ, List, [], ◌∷◌, ◌++◌, None, Bool, true, false}
use Rattle.std.specs.Prelude.{◌||◌}
use Rattle.std.specs.List.{AllByRecursion}
use Rattle.c_lex.specs.declared.token.Word.TheVariants as words
use Rattle.c_lex.specs.declared.token.Mark.TheVariants as marks
use Rattle.c_tree.specs.declared.syntax.TypeWord.TheVariants as types
use Rattle.c_tree.specs.Syntax.{null, word, declarator, no_exprs, Declaration, Simple, eval, ForFirst, first_nothing, Stmt, empty}
use Rattle.c_grammar.specs.Leaves.{mark_at, some_mark, at}
use Rattle.c_grammar.specs.Grammar.{on_each, on_declaration, IsDeclaration, on_simple, on_first, on_stmt, IsSimple, IsFirst, IsStmt}
use Rattle.c_grammar.specs.inner.Readers.{Sort}
use Rattle.c_grammar.specs.inner.Tokens.{is_word, begins_type, begins_expr, begins_simple, is_mark}
use Rattle.c_grammar.specs.inner.Reading.{level_at, declaration, begins_stmt, is_step}
use Rattle.c_grammar.proofs.Lawful.{Class, Info, Lawful, starts}
use Rattle.c_grammar.proofs.Joints.{TooDeepFor}
use Rattle.c_grammar.proofs.TokenLaws.{Room, is_assign}
use Rattle.c_grammar.proofs.TreeClasses.{goes_expr, expr_class, LevelLawful}

-- ---- declarations in a body

abbrev pub declaration_class : ℕ → Class
declaration_class d = record {
  Tree = Declaration;
  leaves = λ c x. on_declaration d x;
  after = λ c x. c;
  Is = λ x. IsDeclaration false x;
  some = record { specs = word 0 types.Int ∷ []; declarators = record { declarator = declarator [] (record { from = 0; to = 0 }) no_exprs; value = None } ∷ [] };
  some_is = ((tt, (tt, tt)), tt, ((tt, tt), tt));
}

-- ---- statements

abbrev pub simple_class : ℕ → Class
simple_class d = record {
  Tree = Simple;
  leaves = λ c s. on_simple d s;
  after = λ c s. c;
  Is = λ s. IsSimple s;
  some = eval (null 0);
  some_is = tt;
}

-- behind a simple statement: what goes on in an expression, an assignment, a step
abbrev pub goes_simple : Sort → Bool
goes_simple s = is_step s || (is_assign s || goes_expr s)

abbrev pub simple_info : Info
simple_info = record { first = begins_simple; goes = goes_simple; empty = false }

abbrev pub first_class : ℕ → Class
first_class d = record {
  Tree = ForFirst;
  leaves = λ c f. on_first d f;
  after = λ c f. c;
  Is = λ f. IsFirst f;
  some = first_nothing;
  some_is = tt;
}

abbrev pub begins_first : Sort → Bool
begins_first s = begins_type s || (is_mark marks.Semicolon s || begins_simple s)

-- statements, or the items of a body where b says so
abbrev pub stmt_class : Bool → ℕ → Class
stmt_class b d = record {
  Tree = Stmt;
  leaves = λ c s. on_stmt d s;
  after = λ c s. c;
  Is = λ s. IsStmt b s;
  some = empty 0;
  some_is = tt;
}

-- an else would belong to an if in the statement
abbrev pub stmt_info : Info
stmt_info = record { first = begins_stmt; goes = is_word words.Else; empty = false }

-- the place of an opening brace, and the items behind it
abbrev pub items_class : ℕ → Class
items_class d = record {
  Tree = ℕ × List Stmt;
  leaves = λ c x. at d (mark_at x.0 marks.OpenBrace) ∷ on_each (on_stmt d) x.1 ++ at d (some_mark marks.CloseBrace) ∷ [];
  after = λ c x. c;
  Is = λ x. AllByRecursion (IsStmt true) x.1;
  some = (0, []);
  some_is = tt;
}

-- ---- what is known of expressions and declarations

pub record Parts : Type 0 where
  pub levels : (n d : ℕ) → Room d n → LevelLawful false d (level_at false n)
  pub deep : (d : ℕ) → Room d 0 → TooDeepFor (expr_class false d 13) begins_expr
  pub declarations : (n d : ℕ) → Room d n → Lawful (declaration_class d) (starts begins_type) (declaration n)
