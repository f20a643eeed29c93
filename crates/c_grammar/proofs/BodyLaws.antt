-- The law of what stands behind a function's parameters: its body, or a semicolon.
use Rattle.std.proofs.Common.{◌≡◌, ℕ, List, [], Option, Some, None, Bool, true, false, refl}
use Rattle.std.specs.Prelude.{◌||◌}
use Rattle.std.specs.List.{AllByRecursion}
use Rattle.c_lex.specs.declared.token.Mark.TheVariants as marks
use Rattle.c_tree.specs.Syntax.{Stmt, Body}
use Rattle.c_grammar.specs.Grammar.{on_body, IsStmt, IsBody, IsMaybe}
use Rattle.c_grammar.specs.inner.Readers.{Sort}
use Rattle.c_grammar.specs.inner.Tokens.{is_mark}
use Rattle.c_grammar.specs.inner.Reading.{body_by, body}
use Rattle.c_grammar.proofs.Lawful.{Class, Lawful, starts}
use Rattle.c_grammar.proofs.Joints.{Makes, tree, narrow}
use Rattle.c_grammar.proofs.TokenLaws.{plain_class, mark_sign, mark_lawful}
use Rattle.c_grammar.proofs.Forks.{by_which, Forks, forked}
use Rattle.c_grammar.proofs.StatementClasses.{items_class, Parts}
use Rattle.c_grammar.proofs.ItemLaws.{items_lawful}
use Rattle.c_grammar.proofs.StmtLaws.{stmt_lawful}

-- a body that there may be, at file scope
abbrev pub body_class : Class
body_class = record {
  Tree = Option Body;
  leaves = λ c b. on_body 0 b;
  after = λ c b. c;
  Is = λ b. IsMaybe IsBody b;
  some = None;
  some_is = tt;
}

abbrev pub begins_body : Sort → Bool
begins_body s = is_mark marks.OpenBrace s || is_mark marks.Semicolon s

abbrev IsThere : Option Body → Type 0
IsThere None = ⊥
IsThere (Some b) = IsBody b

abbrev some_body : Option Body
some_body = Some (record { place = 0; items = [] })

there_back : (b : Option Body) → IsThere b → (a : ℕ × List Stmt) × AllByRecursion (IsStmt true) a.1 × (Some (body_by a) ≡ b)
there_back None f = absurd f
there_back (Some b) f = ((b.place, b.items), f, refl)

there_makes : Makes (items_class 1) (narrow body_class IsThere some_body tt) (λ b. Some (body_by b))
there_makes = record { fits = λ a f. f; spelt = λ c a. refl; after = λ c a. refl; back = there_back }

none_makes : Makes (plain_class 0 (mark_sign marks.Semicolon) tt) (narrow body_class (λ b. None ≡ b) None refl) (λ _. None)
none_makes = record { fits = λ a f. refl; spelt = λ c a. refl; after = λ c a. refl; back = λ b f. (tt, tt, f) }

body_which : (b : Option Body) → IsMaybe IsBody b → (t : Bool) × by_which IsThere (λ b. None ≡ b) t b
body_which None f = (false, refl)
body_which (Some b) f = (true, f)

there_fits : (b : Option Body) → IsThere b → IsMaybe IsBody b
there_fits None f = absurd f
there_fits (Some b) f = f

none_fits : (b : Option Body) → None ≡ b → IsMaybe IsBody b
none_fits None f = tt
none_fits (Some b) f = absurd cc

body_forks : Forks body_class (starts begins_body) (starts (is_mark marks.OpenBrace)) (starts (is_mark marks.Semicolon)) (is_mark marks.OpenBrace) IsThere (λ b. None ≡ b)
body_forks = record {
  yes_fits = there_fits;
  no_fits = none_fits;
  which = body_which;
  told_yes = refl;
  told_no = refl;
  some = refl;
  left = λ e. absurd cc;
  first_yes = refl;
  first_no = refl;
  goes_yes = refl;
  goes_no = refl;
  empty = λ e. e;
}

pub body_lawful : Parts → Lawful body_class (starts begins_body) body
unfolding body
body_lawful p =
    let all = tree (items_lawful p 128 1 refl (stmt_lawful p 128 1 refl).law) (narrow body_class IsThere some_body tt) (λ b. Some (body_by b)) there_makes in
    let none = tree (mark_lawful 0 129 refl marks.Semicolon) (narrow body_class (λ b. None ≡ b) None refl) (λ _. None) none_makes in
    forked body_class (starts begins_body) (starts (is_mark marks.OpenBrace)) (starts (is_mark marks.Semicolon)) (is_mark marks.OpenBrace) IsThere (λ b. None ≡ b) body_forks some_body tt None refl all none
