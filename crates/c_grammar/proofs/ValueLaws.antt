-- The laws of a value behind =, of a variable or an enumerator (C11 6.7.2.2, 6.7.9).
use Rattle.std.proofs.Common.{◌≡◌, ℕ, Option, Some, None, Bool, true, false, refl, ◌∷◌}
use Rattle.std.specs.Prelude.{◌||◌}
use Rattle.c_lex.specs.declared.token.Mark.TheVariants as marks
use Rattle.c_tree.specs.Syntax.{Expr, null}
use Rattle.c_grammar.specs.Leaves.{at, some_mark}
use Rattle.c_grammar.specs.Grammar.{on_full, on_value, IsExpr, IsValue}
use Rattle.c_grammar.specs.inner.Readers.{Sort, maybe}
use Rattle.c_grammar.specs.inner.Tokens.{is_mark}
use Rattle.c_grammar.specs.inner.Reading.{Level, value}
use Rattle.c_grammar.proofs.Lawful.{Class, Info, Lawful, both}
use Rattle.c_grammar.proofs.Joints.{Makes, tree, known, full_class, full_lawful}
use Rattle.c_grammar.proofs.Loops.{OptionIs, option_class, maybe_lawful}
use Rattle.c_grammar.proofs.TokenLaws.{Room, plain_class, mark_sign, mark_lawful}
use Rattle.c_grammar.proofs.TreeClasses.{expr_class, goes_expr, LevelLawful}
use Rattle.c_grammar.proofs.ArgumentLaws.{rank_most}
use Rattle.c_grammar.proofs.MoreJoints.{joined}

abbrev pub value_class : Bool → ℕ → Class
value_class b d = record { Tree = Expr; leaves = λ c e. at d (some_mark marks.Assign) ∷ on_full d e; after = λ c e. c; Is = IsExpr b; some = null 0; some_is = tt }

abbrev pub value_info : Info
value_info = record { first = is_mark marks.Assign; goes = goes_expr; empty = false }

value_makes : (b : Bool) (d : ℕ) → Makes (both (plain_class d (mark_sign marks.Assign) tt) (λ _. full_class (expr_class b d 13))) (value_class b d) (λ (_, e). e)
value_makes b d = record { fits = λ a f. f.1.1; spelt = λ c a. refl; after = λ c a. refl; back = λ e f. ((tt, e), (tt, (rank_most e, f)), refl) }

-- "=" expr
pub value_lawful : (b : Bool) (d n : ℕ) (here : Level) → Room d n → LevelLawful b d here → Lawful (value_class b d) value_info (value n here)
unfolding value
value_lawful b d n here e l = known (tree (joined (mark_lawful d n e marks.Assign) (full_lawful l.expr) refl) (value_class b d) _ (value_makes b d)) (record { first = refl; goes = refl; empty = refl })

abbrev pub goes_init : Sort → Bool
goes_init s = is_mark marks.Assign s || goes_expr s

abbrev pub values_info : Info
values_info = record { first = is_mark marks.Assign; goes = goes_init; empty = true }

-- one that may be left out
pub values_lawful : (b : Bool) (d n : ℕ) (here : Level) → Room d n → LevelLawful b d here → Lawful (option_class (value_class b d)) values_info (maybe (is_mark marks.Assign) (value n here))
values_lawful b d n here e l = maybe_lawful (value_lawful b d n here e l) (is_mark marks.Assign) refl refl

pub value_spelt : (b : Bool) (d c : ℕ) (o : Option Expr) → on_value d o ≡ (option_class (value_class b d)).leaves c o
value_spelt b d c None = refl
value_spelt b d c (Some e) = refl

pub value_after : (b : Bool) (d c : ℕ) (o : Option Expr) → (option_class (value_class b d)).after c o ≡ c
value_after b d c None = refl
value_after b d c (Some e) = refl

pub value_there : (b : Bool) (o : Option Expr) → OptionIs (IsExpr b) o → IsValue b o
value_there b None f = tt
value_there b (Some e) f = f

pub there_value : (b : Bool) (o : Option Expr) → IsValue b o → OptionIs (IsExpr b) o
there_value b None f = tt
there_value b (Some e) f = f
