-- The law of a for.
use Rattle.std.proofs.Common.{◌≡◌, ℕ, suc, ◌+◌, List, [], ◌∷◌, ◌++◌, Option, Some, None, false, refl, ap, ◌∙◌, append_assoc}
use Rattle.c_lex.specs.declared.token.Word.TheVariants as words
use Rattle.c_lex.specs.declared.token.Mark.TheVariants as marks
use Rattle.c_tree.specs.Syntax.{Expr, Simple, ForFirst, Stmt, for}
use Rattle.c_grammar.specs.Leaves.{word_at, some_mark, Leaf, at}
use Rattle.c_grammar.specs.Grammar.{on_full, on_simple, on_first, on_stmt, IsSimple, IsMaybe, is_open}
use Rattle.c_grammar.specs.inner.Readers.{Reads, full, maybe}
use Rattle.c_grammar.specs.inner.Tokens.{tok, word_place, mark_is, begins_expr, begins_simple}
use Rattle.c_grammar.specs.inner.Reading.{level_at, simply, first, AFor, stmt_by}
use Rattle.c_grammar.proofs.Lawful.{Class, Lawful, both}
use Rattle.c_grammar.proofs.Joints.{Makes, tree, known}
use Rattle.c_grammar.proofs.Loops.{option_class, OptionIs, maybe_info, maybe_lawful}
use Rattle.c_grammar.proofs.TokenLaws.{Room, plain_class, word_place_sign, mark_sign, word_place_lawful, mark_lawful}
use Rattle.c_grammar.proofs.MoreJoints.{joined}
use Rattle.c_grammar.proofs.StatementClasses.{simple_class, simple_info, first_class, stmt_class, Parts}
use Rattle.c_grammar.proofs.SimpleLaws.{deeper_room}
use Rattle.c_grammar.proofs.DeepStatements.{simply_lawful}
use Rattle.c_grammar.proofs.ItemLaws.{first_lawful}
use Rattle.c_grammar.proofs.ElseLaws.{no_sort, Completes, last_completes, made_completes, Leaves, leaves_made, leaves_last, StmtLawful}
use Rattle.c_grammar.proofs.StmtParts.{WhichStmt, part_class, some_expr, expr_fits, expr_back, maybe_expr, StmtPart}

-- ---- the parts, from the last on, of a for of the level d

abbrev some_step : ℕ → Class
some_step d = option_class (simple_class d)

-- ")" and the statement
abbrev end_class : ℕ → Class
end_class d = both (plain_class (d + 1) (mark_sign marks.CloseParen) tt) (λ _. stmt_class false (d + 1))

-- with the step, and the semicolon before it
abbrev step_class : ℕ → Class
step_class d = both (plain_class (d + 1) (mark_sign marks.Semicolon) tt) (λ _. both (some_step (d + 1)) (λ _. end_class d))

abbrev for_class : ℕ → Class
for_class d = both (plain_class d (word_place_sign words.For) 0) (λ _. both (plain_class (d + 1) (mark_sign marks.OpenParen) tt) (λ _. both (first_class (d + 1)) (λ _. both (some_expr (d + 1)) (λ _. step_class d))))

abbrev for_of : (for_class 0).Tree → Stmt
for_of (place, (_, (f, (e, (_, (step, (_, s))))))) = for place f e step s

step_fits : (o : Option Simple) → OptionIs IsSimple o → IsMaybe IsSimple o
step_fits None f = tt
step_fits (Some s) f = f

step_back : (o : Option Simple) → IsMaybe IsSimple o → OptionIs IsSimple o
step_back None f = tt
step_back (Some s) f = f

regroup : (first cond step behind : List Leaf) (x y : Leaf) → first ++ cond ++ x ∷ step ++ y ∷ behind ≡ first ++ (cond ++ x ∷ (step ++ y ∷ behind))
regroup first cond step behind x y = append_assoc (first ++ cond) (x ∷ step) (y ∷ behind) ∙ append_assoc first cond (x ∷ (step ++ y ∷ behind))

-- what stands behind the opening bracket of a for
abbrev behind_for : ℕ → ℕ → List Leaf → List Leaf
behind_for d place ls = at d (word_at place words.For) ∷ at (d + 1) (some_mark marks.OpenParen) ∷ ls

for_spelt : (d c place : ℕ) (f : ForFirst) (e : Option Expr) (step : Option Simple) (s : Stmt) → on_stmt d (for place f e step s) ≡ (for_class d).leaves c (place, (tt, (f, (e, (tt, (step, (tt, s)))))))
for_spelt d c place f e step s =
    let semicolon = at (d + 1) (some_mark marks.Semicolon) in
    let close = at (d + 1) (some_mark marks.CloseParen) in
    by_parts (λ cond step. ap (behind_for d place) (regroup (on_first (d + 1) f) cond step (on_stmt (d + 1) s) semicolon close)) e step
  where
    by_parts : ((cond step : List Leaf) → behind_for d place (on_first (d + 1) f ++ cond ++ at (d + 1) (some_mark marks.Semicolon) ∷ step ++ at (d + 1) (some_mark marks.CloseParen) ∷ on_stmt (d + 1) s)
        ≡ behind_for d place (on_first (d + 1) f ++ (cond ++ at (d + 1) (some_mark marks.Semicolon) ∷ (step ++ at (d + 1) (some_mark marks.CloseParen) ∷ on_stmt (d + 1) s))))
        → (e : Option Expr) (step : Option Simple) → on_stmt d (for place f e step s) ≡ (for_class d).leaves c (place, (tt, (f, (e, (tt, (step, (tt, s)))))))
    by_parts h None None = h [] []
    by_parts h None (Some t) = h [] (on_simple (d + 1) t)
    by_parts h (Some e) None = h (on_full (d + 1) e) []
    by_parts h (Some e) (Some t) = h (on_full (d + 1) e) (on_simple (d + 1) t)

for_after : (d c place : ℕ) (f : ForFirst) (e : Option Expr) (step : Option Simple) (s : Stmt) → c ≡ (for_class d).after c (place, (tt, (f, (e, (tt, (step, (tt, s)))))))
for_after d c place f None None s = refl
for_after d c place f None (Some t) s = refl
for_after d c place f (Some e) None s = refl
for_after d c place f (Some e) (Some t) s = refl

for_back : (d : ℕ) (b : Stmt) → WhichStmt AFor b → (a : (for_class d).Tree) × (for_class d).Is a × (for_of a ≡ b)
for_back d (for place f e step s) is = ((place, (tt, (f, (e, (tt, (step, (tt, s))))))), (tt, (tt, (is.0, (expr_back (d + 1) e is.1, (tt, (step_back step is.2, (tt, is.3))))))), refl)
for_back d _ is = absurd is

for_makes : (d : ℕ) → Makes (for_class d) (part_class d AFor) for_of
for_makes d = record {
  fits = λ a f. (f.1.1.0, expr_fits (d + 1) a.1.1.1.0 f.1.1.1.0, step_fits a.1.1.1.1.1.0 f.1.1.1.1.1.0, f.1.1.1.1.1.1.1);
  spelt = λ c a. for_spelt d c a.0 a.1.1.0 a.1.1.1.0 a.1.1.1.1.1.0 a.1.1.1.1.1.1.1;
  after = λ c a. for_after d c a.0 a.1.1.0 a.1.1.1.0 a.1.1.1.1.1.0 a.1.1.1.1.1.1.1;
  back = for_back d;
}

-- ---- the laws

maybe_step : Parts → (n d : ℕ) → Room d n → Lawful (some_step d) (maybe_info begins_simple simple_info) (maybe begins_simple (simply n))
maybe_step p n d r = maybe_lawful (simply_lawful p n d r) begins_simple refl refl

pub for_lawful : Parts → (n d : ℕ) → Room d (suc n) → {inner : Reads Stmt} → StmtLawful (d + 1) inner → StmtPart d n inner AFor
for_lawful p n d r l =
    let there = deeper_room d n r in
    let close = joined (mark_lawful (d + 1) n there marks.CloseParen) l.law refl in
    let step = joined (mark_lawful (d + 1) n there marks.Semicolon) (joined (maybe_step p n (d + 1) there) close refl) refl in
    let behind = joined (first_lawful p n (d + 1) there) (joined (maybe_expr p n (d + 1) there) step refl) refl in
    let parts = joined (word_place_lawful d (suc n) r words.For) (joined (mark_lawful (d + 1) n there marks.OpenParen) behind refl) refl in
    known (tree parts (part_class d AFor) for_of (for_makes d)) (record { first = refl; goes = refl; empty = refl })

-- a for isn't open where its statement isn't
pub for_closed : Parts → (n d : ℕ) → Room d (suc n) → {inner : Reads Stmt} → StmtLawful (d + 1) inner → Completes (part_class d AFor) (λ b. WhichStmt AFor b × (is_open b ≡ false)) no_sort (stmt_by (suc n) n inner AFor)
for_closed p n d r l =
    let there = deeper_room d n r in
    let close = joined (mark_lawful (d + 1) n there marks.CloseParen) l.law refl in
    let close_read = last_completes (mark_lawful (d + 1) n there marks.CloseParen) l.law (λ s. is_open s ≡ false) l.closed refl refl in
    let some = joined (maybe_step p n (d + 1) there) close refl in
    let some_read = last_completes (maybe_step p n (d + 1) there) close (λ x. is_open x.1 ≡ false) close_read refl refl in
    let step = joined (mark_lawful (d + 1) n there marks.Semicolon) some refl in
    let step_read = last_completes (mark_lawful (d + 1) n there marks.Semicolon) some (λ x. is_open x.1.1 ≡ false) some_read refl refl in
    let cond = joined (maybe_expr p n (d + 1) there) step refl in
    let cond_read = last_completes (maybe_expr p n (d + 1) there) step (λ x. is_open x.1.1.1 ≡ false) step_read refl refl in
    let behind = joined (first_lawful p n (d + 1) there) cond refl in
    let behind_read = last_completes (first_lawful p n (d + 1) there) cond (λ x. is_open x.1.1.1.1 ≡ false) cond_read refl refl in
    let bracket = joined (mark_lawful (d + 1) n there marks.OpenParen) behind refl in
    let bracket_read = last_completes (mark_lawful (d + 1) n there marks.OpenParen) behind (λ x. is_open x.1.1.1.1.1 ≡ false) behind_read refl refl in
    let read = last_completes (word_place_lawful d (suc n) r words.For) bracket (λ x. is_open x.1.1.1.1.1.1 ≡ false) bracket_read refl refl in
    made_completes (for_class d) (part_class d AFor) (λ x. is_open x.1.1.1.1.1.1.1 ≡ false) read for_of (for_makes d) (λ b. is_open b ≡ false) (λ a f. f)

-- an else behind a for is one behind its statement
pub for_leaves : (n d : ℕ) {inner : Reads Stmt} → StmtLawful d inner → Leaves (λ s. is_open s ≡ false) (stmt_by (suc n) n inner AFor)
for_leaves n d {inner = inner} l =
    let close = leaves_last (λ s. is_open s ≡ false) (tok n (mark_is marks.CloseParen)) l.greedy in
    let some = leaves_last (λ x. is_open x.1 ≡ false) (maybe begins_simple (simply n)) close in
    let step = leaves_last (λ x. is_open x.1.1 ≡ false) (tok n (mark_is marks.Semicolon)) some in
    let cond = leaves_last (λ x. is_open x.1.1.1 ≡ false) (maybe begins_expr (full (level_at false n).expr)) step in
    let behind = leaves_last (λ x. is_open x.1.1.1.1 ≡ false) (first n) cond in
    let bracket = leaves_last (λ x. is_open x.1.1.1.1.1 ≡ false) (tok n (mark_is marks.OpenParen)) behind in
    let all = leaves_last (λ x. is_open x.1.1.1.1.1.1 ≡ false) (tok (suc n) (word_place words.For)) bracket in
    leaves_made (λ x. is_open x.1.1.1.1.1.1.1 ≡ false) all for_of (λ s. is_open s ≡ false) (λ a f. f)
