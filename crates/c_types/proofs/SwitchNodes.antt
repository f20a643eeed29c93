-- What a switch, its entries and its labels tell.
use Rattle.std.proofs.Common.{◌≡◌, ℕ, true, false, Bool, List, [], ◌∷◌, Option, Some, None, Result, Ok, Err, Vec, Box, Global, refl, ap, sym, subst, ◌∙◌}
use Rattle.std.specs.Result.{IsErrAnd}
use Rattle.std.proofs.lemmas.Result.{err_from_is_err_and}
use Rattle.ak_words.specs.declared.int_type.IntType.{IntType}
use Rattle.ak_words.specs.declared.number.Num.{Num}
use Rattle.c_lex.specs.declared.refusal.CompileFault.{CompileFault}
use Rattle.c_lex.specs.declared.refusal.CompileFault.TheVariants.{Refused, NoMemory}
use Rattle.c_tree.specs.Syntax as source
use Rattle.c_tree.specs.SyntaxViews as seen
use Rattle.c_tree.specs.declared.syntax.Expr.{Expr as CodeSource}
use Rattle.c_tree.specs.declared.syntax.Stmt.{Stmt as Tree}
use Rattle.c_tree.specs.declared.syntax.Stmt.TheOpen.{Stmt-F}
use Rattle.c_tree.specs.declared.syntax.Stmt.TheViews.{roll-Stmt}
use Rattle.c_tree.specs.declared.syntax.Stmt.TheFolds.{ind-Stmt}
use Rattle.c_tree.specs.declared.syntax.Stmt.TheVariants as codes
use Rattle.c_tree.specs.Typed.{Ty, Stmt, Expr, at_stmt, switch, stmts_of}
use Rattle.c_tree.specs.TypedForm.{Jumps, in_switch}
use Rattle.c_tree.specs.TypedViews.{boxed_expr_view, stmt_view, boxed_stmt_view}
use Rattle.c_tree.specs.declared.typed.Expr.{Expr as CodeExpr}
use Rattle.c_tree.specs.declared.typed.Stmt.{Stmt as CodeStmt}
use Rattle.c_typing.specs.Faults.{Judged, typed, faulty, Gives, ◌>>=◌}
use Rattle.c_typing.specs.Scope.{Context}
use Rattle.c_typing.specs.Constants.{constant_value}
use Rattle.c_typing.specs.Judgement.{Judging, in_turn, ruled, judged, valued}
use Rattle.c_typing.specs.Statements.{Entries, no_entries, with_stmt, switched, type_of_switch, cased, defaulted, entry_of, one_of, judged_stmt, judged_entries}
use Rattle.type_context.specs.declared.context.Context.{Context as CodeContext}
use Rattle.type_context.specs.ContextViews.{context_view}
use Rattle.type_context.specs.inner.Outcomes.{joined}
use Rattle.type_context.specs.Telling.{Tells, lacks_memory}
use Rattle.type_context.proofs.Walks.{memory_tells, lone_tells, ok_tells, joined_keeps}
use Rattle.type_declared.specs.Gathering.{each}
use Rattle.c_types.specs.declared.switches.Entries.{Entries as CodeEntries}
use Rattle.c_types.specs.inner.Switches.{entries_view}
use Rattle.c_types.proofs.Steps.{err_passes, two_pass, two_rule}
use Rattle.c_types.proofs.StatementViews.{block_is, declare_is, empty_is, if_then_is, if_else_is, while_is, for_is, do_is, switch_is, break_is, continue_is, return_is, simple_is}

-- ---- a switch

-- what it is of its parts
abbrev pub switch_of : (place : ℕ) → Expr × Entries → Judged (List Stmt)
switch_of place p = typed (at_stmt place (switch p.0 p.1.labels (stmts_of p.1.body)) ∷ [])

-- the type of its values is that of its expression
switch_as : (place : ℕ) (e : source.Expr) (ss : source.Stmts) (t : Ty) (l : Jumps) (c : Context) (n m : CodeContext) (x : Result (Box CodeExpr Global) CompileFault) (of : IntType) (r : Result (Vec CodeStmt Global) CompileFault)
    → Tells boxed_expr_view x n (switched place e c) → ((j : Judged Expr) → lacks_memory x ≡ false → Gives boxed_expr_view x j → of ≡ type_of_switch j) → (lacks_memory r ≡ false → lacks_memory x ≡ false)
    → Tells (each stmt_view) r m (ruled (in_turn (switched place e) (judged_entries t (in_switch l) of no_entries ss)) (λ d p. switch_of place p) c)
    → Tells (each stmt_view) r m (judged_stmt t l (source.switch place e ss) c)
switch_as place e ss t l c n m x of (Err NoMemory) h is keeps told = memory_tells (each stmt_view) m (judged_stmt t l (source.switch place e ss) c)
switch_as place e ss t l c n m x of (Ok y) h is keeps told =
    subst (λ (i : IntType). Tells (each stmt_view) (Ok y) m (ruled (in_turn (switched place e) (judged_entries t (in_switch l) i no_entries ss)) (λ d p. switch_of place p) c)) (is (switched place e c).0 (keeps refl) h.gives) told
switch_as place e ss t l c n m x of (Err (Refused s)) h is keeps told =
    subst (λ (i : IntType). Tells {A = Vec CodeStmt Global} (each stmt_view) (Err (Refused s)) m (ruled (in_turn (switched place e) (judged_entries t (in_switch l) i no_entries ss)) (λ d p. switch_of place p) c)) (is (switched place e c).0 (keeps refl) h.gives) told

pub switch_ok : (place : ℕ) (e : source.Expr) (ss : source.Stmts) (t : Ty) (l k : Jumps) (c : Context) (n m : CodeContext) (x : Result (Box CodeExpr Global) CompileFault) (of : IntType) (y : Result CodeEntries CompileFault)
    (q : Result (Box CodeExpr Global × CodeEntries) CompileFault) (p : Box CodeExpr Global × CodeEntries) (r : Result (Vec CodeStmt Global) CompileFault)
    → Tells boxed_expr_view x n (switched place e c) → ((j : Judged Expr) → lacks_memory x ≡ false → Gives boxed_expr_view x j → of ≡ type_of_switch j)
    → k ≡ in_switch l → Tells entries_view y m (judged_entries t k of no_entries ss (context_view n))
    → q ≡ joined x y → q ≡ Ok p → Gives (each stmt_view) r (switch_of place (boxed_expr_view p.0, entries_view p.1))
    → Tells (each stmt_view) r m (judged_stmt t l (source.switch place e ss) c)
switch_ok place e ss t l k c n m x of y q p r h is inside told two ok made =
    let here = subst (λ (j : Jumps). Tells entries_view y m (judged_entries t j of no_entries ss (context_view n))) inside told in
    switch_as place e ss t l c n m x of r h is (λ fine. (joined_keeps x y (ap lacks_memory (sym two ∙ ok))).0)
    (two_rule boxed_expr_view entries_view (each stmt_view) (switched place e) (judged_entries t (in_switch l) of no_entries ss) (λ d p. switch_of place p) c n m x y q p r h here two ok made)

keeps_fault : {A B : Type 0} (f : CompileFault) (r : Result A CompileFault) (q : Result B CompileFault) → q ≡ Err f → IsErrAnd r (λ g. g ≡ f) → lacks_memory r ≡ false → lacks_memory q ≡ false
keeps_fault {A = A} {B = B} f r q is back fine =
    let b = err_from_is_err_and r back in
    let known : lacks_memory {A = A} (Err f) ≡ false = sym (ap lacks_memory (b.1 ∙ ap Err b.2)) ∙ fine in
    ap lacks_memory is ∙ again f known
  where
    again : (g : CompileFault) → lacks_memory {A = A} (Err g) ≡ false → lacks_memory {A = B} (Err g) ≡ false
    again NoMemory h = h
    again (Refused s) h = h

pub switch_err : (place : ℕ) (e : source.Expr) (ss : source.Stmts) (t : Ty) (l k : Jumps) (c : Context) (n m : CodeContext) (x : Result (Box CodeExpr Global) CompileFault) (of : IntType) (y : Result CodeEntries CompileFault)
    (q : Result (Box CodeExpr Global × CodeEntries) CompileFault) (f : CompileFault) (r : Result (Vec CodeStmt Global) CompileFault)
    → Tells boxed_expr_view x n (switched place e c) → ((j : Judged Expr) → lacks_memory x ≡ false → Gives boxed_expr_view x j → of ≡ type_of_switch j)
    → k ≡ in_switch l → Tells entries_view y m (judged_entries t k of no_entries ss (context_view n))
    → q ≡ joined x y → q ≡ Err f → IsErrAnd r (λ g. g ≡ f)
    → Tells (each stmt_view) r m (judged_stmt t l (source.switch place e ss) c)
switch_err place e ss t l k c n m x of y q f r h is inside told two err back =
    let here = subst (λ (j : Jumps). Tells entries_view y m (judged_entries t j of no_entries ss (context_view n))) inside told in
    switch_as place e ss t l c n m x of r h is (λ fine. (joined_keeps x y (ap lacks_memory (sym two) ∙ keeps_fault f r q err back fine)).0)
    (two_pass boxed_expr_view entries_view (each stmt_view) (switched place e) (judged_entries t (in_switch l) of no_entries ss) (λ d p. switch_of place p) c n m x y q f r h here two err back)

-- ---- an entry

then_rule : {A B C : Type 0} (j : Judged A) (f : A → B) (g : B → Judged C) → (j >>= (λ x. typed (f x)) >>= g) ≡ (j >>= λ x. g (f x))
then_rule (typed x) f g = refl
then_rule (faulty r rs) f g = refl

-- the value of a label's expression
abbrev pub label_of : source.Expr → Judging (Option Num)
label_of e = ruled (valued (judged e)) (λ d x. typed (constant_value d e x))

case_as : (place : ℕ) (e : source.Expr) (of : IntType) (es : Entries) (one : Judging (List Stmt)) (c : Context)
    → ruled (label_of e) (λ d v. cased place of es v) c ≡ entry_of of es (source.case_label place e) one c
case_as place e of es one c =
    let x = valued (judged e) c in
    ap (λ j. (j, x.1)) (then_rule x.0 (λ v. constant_value x.1 e v) (λ v. cased place of es v))

pub case_ok : (s : source.Stmt) (place : ℕ) (e : source.Expr) (of : IntType) (es : Entries) (one : Judging (List Stmt)) (c : Context) (n : CodeContext) (a : Result (Option Num) CompileFault) (v : Option Num) (r : Result CodeEntries CompileFault)
    → s ≡ source.case_label place e → Tells (λ v. v) a n (label_of e c) → a ≡ Ok v → Gives entries_view r (cased place of es v)
    → Tells entries_view r n (entry_of of es s one c)
case_ok s place e of es one c n a v r is h ok g =
    subst (λ x. Tells entries_view r n (entry_of of es x one c)) (sym is)
    (subst (λ p. Tells entries_view r n p) (case_as place e of es one c) (ok_tells (λ v. v) entries_view (label_of e) (λ d v. cased place of es v) c n a v r h ok g))

pub case_err : (s : source.Stmt) (place : ℕ) (e : source.Expr) (of : IntType) (es : Entries) (one : Judging (List Stmt)) (c : Context) (n : CodeContext) (a : Result (Option Num) CompileFault) (f : CompileFault) (r : Result CodeEntries CompileFault)
    → s ≡ source.case_label place e → Tells (λ v. v) a n (label_of e c) → a ≡ Err f → IsErrAnd r (λ g. g ≡ f)
    → Tells entries_view r n (entry_of of es s one c)
case_err s place e of es one c n a f r is h err back =
    subst (λ x. Tells entries_view r n (entry_of of es x one c)) (sym is)
    (subst (λ p. Tells entries_view r n p) (case_as place e of es one c) (err_passes (λ v. v) entries_view (label_of e) (λ d v. cased place of es v) c n a f r h err back))

pub default_told : (s : source.Stmt) (place : ℕ) (of : IntType) (es : Entries) (one : Judging (List Stmt)) (n : CodeContext) (r : Result CodeEntries CompileFault)
    → s ≡ source.default_label place → Gives entries_view r (defaulted place es) → Tells entries_view r n (entry_of of es s one (context_view n))
default_told s place of es one n r is g =
    subst (λ x. Tells entries_view r n (entry_of of es x one (context_view n))) (sym is) (lone_tells entries_view r n (defaulted place es) g)

-- a statement is a label
abbrev pub is_label : source.Stmt → Bool
is_label (source.case_label place e) = true
is_label (source.default_label place) = true
is_label s = false

other_as : (of : IntType) (es : Entries) (s : source.Stmt) (one : Judging (List Stmt)) (c : Context) → is_label s ≡ false → ruled (one_of one) (λ d x. typed (with_stmt es x)) c ≡ entry_of of es s one c
other_as of es (source.block place items) one c h = refl
other_as of es (source.declare d) one c h = refl
other_as of es (source.empty place) one c h = refl
other_as of es (source.if_then place e s) one c h = refl
other_as of es (source.if_else place e s u) one c h = refl
other_as of es (source.while place e s) one c h = refl
other_as of es (source.for place first e step s) one c h = refl
other_as of es (source.do_while place s e) one c h = refl
other_as of es (source.switch place e entries) one c h = refl
other_as of es (source.case_label place e) one c h = cc
other_as of es (source.default_label place) one c h = cc
other_as of es (source.break place) one c h = refl
other_as of es (source.continue place) one c h = refl
other_as of es (source.return place value) one c h = refl
other_as of es (source.simple s) one c h = refl

pub other_ok : (s : source.Stmt) (of : IntType) (es : Entries) (one : Judging (List Stmt)) (c : Context) (n : CodeContext) (a : Result (Box CodeStmt Global) CompileFault) (x : Box CodeStmt Global) (r : Result CodeEntries CompileFault)
    → is_label s ≡ false → Tells boxed_stmt_view a n (one_of one c) → a ≡ Ok x → Gives entries_view r (typed (with_stmt es (boxed_stmt_view x)))
    → Tells entries_view r n (entry_of of es s one c)
other_ok s of es one c n a x r is h ok g =
    subst (λ p. Tells entries_view r n p) (other_as of es s one c is) (ok_tells boxed_stmt_view entries_view (one_of one) (λ d x. typed (with_stmt es x)) c n a x r h ok g)

pub other_err : (s : source.Stmt) (of : IntType) (es : Entries) (one : Judging (List Stmt)) (c : Context) (n : CodeContext) (a : Result (Box CodeStmt Global) CompileFault) (f : CompileFault) (r : Result CodeEntries CompileFault)
    → is_label s ≡ false → Tells boxed_stmt_view a n (one_of one c) → a ≡ Err f → IsErrAnd r (λ g. g ≡ f)
    → Tells entries_view r n (entry_of of es s one c)
other_err s of es one c n a f r is h err back =
    subst (λ p. Tells entries_view r n p) (other_as of es s one c is) (err_passes boxed_stmt_view entries_view (one_of one) (λ d x. typed (with_stmt es x)) c n a f r h err back)

-- ---- a statement of the code that is no label

-- what is seen of a statement that is no label
seen_so : (s t : Tree) (y : source.Stmt) → t ≡ s → seen.stmt_view t ≡ y → is_label y ≡ false → is_label (seen.stmt_view s) ≡ false
seen_so s t y is view none = ap is_label (sym (ap seen.stmt_view is) ∙ view) ∙ none

-- a statement of the code that is no label is seen as none
abbrev pub SeenNoLabel : Tree → Type 0
SeenNoLabel s = ((place : ℕ) (value : Box CodeSource Global) → s ≡ codes.Case place value → ⊥) → ((place : ℕ) → s ≡ codes.Default place → ⊥) → is_label (seen.stmt_view s) ≡ false

layer_so : (s : Tree) (k : Stmt-F Tree) → roll-Stmt k ≡ s → SeenNoLabel s
layer_so s (Stmt-F.Block place items) is no_case no_default = seen_so s (codes.Block place items) _ (sym (codes.rolls-Block place items) ∙ is) (block_is place items) refl
layer_so s (Stmt-F.Declare d) is no_case no_default = seen_so s (codes.Declare d) _ (sym (codes.rolls-Declare d) ∙ is) (declare_is d) refl
layer_so s (Stmt-F.Empty place) is no_case no_default = seen_so s (codes.Empty place) _ (sym (codes.rolls-Empty place) ∙ is) (empty_is place) refl
layer_so s (Stmt-F.If place e b None) is no_case no_default = seen_so s (codes.If place e b None) _ (sym (codes.rolls-If place e b None) ∙ is) (if_then_is place e b) refl
layer_so s (Stmt-F.If place e b (Some o)) is no_case no_default = seen_so s (codes.If place e b (Some o)) _ (sym (codes.rolls-If place e b (Some o)) ∙ is) (if_else_is place e b o) refl
layer_so s (Stmt-F.While place e b) is no_case no_default = seen_so s (codes.While place e b) _ (sym (codes.rolls-While place e b) ∙ is) (while_is place e b) refl
layer_so s (Stmt-F.For place h b) is no_case no_default = seen_so s (codes.For place h b) _ (sym (codes.rolls-For place h b) ∙ is) (for_is place h b) refl
layer_so s (Stmt-F.DoWhile place b e) is no_case no_default = seen_so s (codes.DoWhile place b e) _ (sym (codes.rolls-DoWhile place b e) ∙ is) (do_is place b e) refl
layer_so s (Stmt-F.Switch place e entries) is no_case no_default = seen_so s (codes.Switch place e entries) _ (sym (codes.rolls-Switch place e entries) ∙ is) (switch_is place e entries) refl
layer_so s (Stmt-F.Case place e) is no_case no_default = absurd (no_case place e (sym is ∙ codes.rolls-Case place e))
layer_so s (Stmt-F.Default place) is no_case no_default = absurd (no_default place (sym is ∙ codes.rolls-Default place))
layer_so s (Stmt-F.Break place) is no_case no_default = seen_so s (codes.Break place) _ (sym (codes.rolls-Break place) ∙ is) (break_is place) refl
layer_so s (Stmt-F.Continue place) is no_case no_default = seen_so s (codes.Continue place) _ (sym (codes.rolls-Continue place) ∙ is) (continue_is place) refl
layer_so s (Stmt-F.Return place value) is no_case no_default = seen_so s (codes.Return place value) _ (sym (codes.rolls-Return place value) ∙ is) (return_is place value) refl
layer_so s (Stmt-F.Simple x) is no_case no_default = seen_so s (codes.Simple x) _ (sym (codes.rolls-Simple x) ∙ is) (simple_is x) refl

pub no_label : (s : Tree) → SeenNoLabel s
no_label = ind-Stmt SeenNoLabel (λ x y is. layer_so (roll-Stmt x) x refl)
