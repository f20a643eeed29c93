-- What a statement of the code tells, by what it is.
use Rattle.std.proofs.Common.{◌≡◌, ℕ, List, [], ◌∷◌, map, Option, Some, None, Result, Err, Vec, Box, Global, refl, sym, ap, subst, ◌∙◌}
use Rattle.std.specs.Option.{option_map}
use Rattle.c_lex.specs.declared.refusal.CompileFault.{CompileFault}
use Rattle.c_lex.specs.declared.refusal.CompileFault.TheVariants.{Refused}
use Rattle.c_tree.specs.Syntax as source
use Rattle.c_tree.specs.SyntaxViews as seen
use Rattle.c_tree.specs.declared.syntax.Expr.{Expr as CodeExpr}
use Rattle.c_tree.specs.declared.syntax.Declaration.{Declaration as CodeDeclaration}
use Rattle.c_tree.specs.declared.syntax.ForHead.{ForHead as CodeForHead}
use Rattle.c_tree.specs.declared.syntax.Simple.{Simple as CodeSimple}
use Rattle.c_tree.specs.declared.syntax.Stmt.{Stmt as Tree}
use Rattle.c_tree.specs.declared.syntax.Stmt.TheVariants as codes
use Rattle.c_tree.specs.declared.typed.Stmt.{Stmt as CodeStmt}
use Rattle.c_tree.specs.Typed.{Ty, Stmt, at_stmt, empty, break_, continue_}
use Rattle.c_tree.specs.TypedForm.{Jumps}
use Rattle.c_tree.specs.TypedViews.{stmt_view}
use Rattle.c_lex.specs.declared.refusal.Kind.TheVariants.{TypeMismatch}
use Rattle.c_typing.specs.Faults.{typed, refuse, Gives}
use Rattle.c_typing.specs.Scope.{Context}
use Rattle.c_typing.specs.Judgement.{ruled}
use Rattle.c_typing.specs.Statements.{jump, judged_declaration, judged_simple, judged_stmt}
use Rattle.type_context.specs.declared.context.Context.{Context as CodeContext}
use Rattle.type_context.specs.ContextViews.{context_view}
use Rattle.type_context.specs.Telling.{Tells}
use Rattle.type_context.proofs.Walks.{lone_tells}
use Rattle.type_declared.specs.Gathering.{each}
use Rattle.c_types.proofs.StatementViews.{block_is, declare_is, empty_is, if_then_is, if_else_is, while_is, for_is, do_is, switch_is, case_is, default_is, break_is, continue_is, return_is, simple_is}

-- what is told of a statement that is seen so
as_seen : (x : Tree) (y : source.Stmt) (t : Ty) (l : Jumps) (c : Context) (n : CodeContext) (r : Result (Vec CodeStmt Global) CompileFault)
    → seen.stmt_view x ≡ y → Tells (each stmt_view) r n (judged_stmt t l y c) → Tells (each stmt_view) r n (judged_stmt t l (seen.stmt_view x) c)
as_seen x y t l c n r is h = subst (λ (z : source.Stmt). Tells (each stmt_view) r n (judged_stmt t l z c)) (sym is) h

pub block_told : (x : Tree) (place : ℕ) (items : Vec Tree Global) (all : List Tree) (t : Ty) (l : Jumps) (c : Context) (n : CodeContext) (r : Result (Vec CodeStmt Global) CompileFault)
    → x ≡ codes.Block place items
    → all ≡ items.items
    → Tells (each stmt_view) r n (judged_stmt t l (source.block place (source.stmts_of (map seen.stmt_view all))) c)
    → Tells (each stmt_view) r n (judged_stmt t l (seen.stmt_view x) c)
block_told x place items all t l c n r is same h =
    as_seen x (source.block place (source.stmts_of (map seen.stmt_view all))) t l c n r (ap seen.stmt_view is ∙ block_is place items ∙ ap (λ (xs : List Tree). source.block place (source.stmts_of (map seen.stmt_view xs))) (sym same)) h

pub declare_told : (x : Tree) (b : Box CodeDeclaration Global) (d : CodeDeclaration) (t : Ty) (l : Jumps) (c : Context) (n : CodeContext) (r : Result (Vec CodeStmt Global) CompileFault)
    → x ≡ codes.Declare b
    → d ≡ b.value
    → Tells (each stmt_view) r n (judged_declaration (seen.declaration_view d) c)
    → Tells (each stmt_view) r n (judged_stmt t l (seen.stmt_view x) c)
declare_told x b d t l c n r is same h =
    as_seen x (source.declare (seen.declaration_view d)) t l c n r (ap seen.stmt_view is ∙ declare_is b ∙ ap (λ (y : CodeDeclaration). source.declare (seen.declaration_view y)) (sym same)) h

pub empty_told : (x : Tree) (place : ℕ) (t : Ty) (l : Jumps) (n : CodeContext) (s : CodeStmt) (r : Result (Vec CodeStmt Global) CompileFault)
    → x ≡ codes.Empty place
    → stmt_view s ≡ at_stmt place empty
    → Gives (each stmt_view) r (typed (stmt_view s ∷ []))
    → Tells (each stmt_view) r n (judged_stmt t l (seen.stmt_view x) (context_view n))
empty_told x place t l n s r is same h =
    as_seen x (source.empty place) t l (context_view n) n r (ap seen.stmt_view is ∙ empty_is place)
    (lone_tells (each stmt_view) r n (typed (at_stmt place empty ∷ [])) (subst (λ (y : Stmt). Gives (each stmt_view) r (typed (y ∷ []))) same h))

pub if_then_told : (x : Tree) (place : ℕ) (f : Box CodeExpr Global) (b : Box Tree Global) (o : Option (Box Tree Global)) (e : CodeExpr) (s : Tree) (t : Ty) (l : Jumps) (c : Context) (n : CodeContext) (r : Result (Vec CodeStmt Global) CompileFault)
    → x ≡ codes.If place f b o
    → o ≡ None
    → e ≡ f.value
    → s ≡ b.value
    → Tells (each stmt_view) r n (judged_stmt t l (source.if_then place (seen.expr_view e) (seen.stmt_view s)) c)
    → Tells (each stmt_view) r n (judged_stmt t l (seen.stmt_view x) c)
if_then_told x place f b o e s t l c n r is none test same h =
    as_seen x (source.if_then place (seen.expr_view e) (seen.stmt_view s)) t l c n r
    (ap seen.stmt_view (is ∙ ap (λ (q : Option (Box Tree Global)). codes.If place f b q) none) ∙ if_then_is place f b
    ∙ ap (λ (y : CodeExpr). source.if_then place (seen.expr_view y) (seen.stmt_view b.value)) (sym test)
    ∙ ap (λ (y : Tree). source.if_then place (seen.expr_view e) (seen.stmt_view y)) (sym same)) h

pub if_else_told : (x : Tree) (place : ℕ) (f : Box CodeExpr Global) (b : Box Tree Global) (o : Option (Box Tree Global)) (d : Box Tree Global) (e : CodeExpr) (s u : Tree) (t : Ty) (l : Jumps) (c : Context) (n : CodeContext) (r : Result (Vec CodeStmt Global) CompileFault)
    → x ≡ codes.If place f b o
    → o ≡ Some d
    → e ≡ f.value
    → s ≡ b.value
    → u ≡ d.value
    → Tells (each stmt_view) r n (judged_stmt t l (source.if_else place (seen.expr_view e) (seen.stmt_view s) (seen.stmt_view u)) c)
    → Tells (each stmt_view) r n (judged_stmt t l (seen.stmt_view x) c)
if_else_told x place f b o d e s u t l c n r is some test same other h =
    as_seen x (source.if_else place (seen.expr_view e) (seen.stmt_view s) (seen.stmt_view u)) t l c n r
    (ap seen.stmt_view (is ∙ ap (λ (q : Option (Box Tree Global)). codes.If place f b q) some) ∙ if_else_is place f b d
    ∙ ap (λ (y : CodeExpr). source.if_else place (seen.expr_view y) (seen.stmt_view b.value) (seen.stmt_view d.value)) (sym test)
    ∙ ap (λ (y : Tree). source.if_else place (seen.expr_view e) (seen.stmt_view y) (seen.stmt_view d.value)) (sym same)
    ∙ ap (λ (y : Tree). source.if_else place (seen.expr_view e) (seen.stmt_view s) (seen.stmt_view y)) (sym other)) h

pub while_told : (x : Tree) (place : ℕ) (f : Box CodeExpr Global) (b : Box Tree Global) (e : CodeExpr) (s : Tree) (t : Ty) (l : Jumps) (c : Context) (n : CodeContext) (r : Result (Vec CodeStmt Global) CompileFault)
    → x ≡ codes.While place f b
    → e ≡ f.value
    → s ≡ b.value
    → Tells (each stmt_view) r n (judged_stmt t l (source.while place (seen.expr_view e) (seen.stmt_view s)) c)
    → Tells (each stmt_view) r n (judged_stmt t l (seen.stmt_view x) c)
while_told x place f b e s t l c n r is test same h =
    as_seen x (source.while place (seen.expr_view e) (seen.stmt_view s)) t l c n r
    (ap seen.stmt_view is ∙ while_is place f b
    ∙ ap (λ (y : CodeExpr). source.while place (seen.expr_view y) (seen.stmt_view b.value)) (sym test)
    ∙ ap (λ (y : Tree). source.while place (seen.expr_view e) (seen.stmt_view y)) (sym same)) h

pub for_told : (x : Tree) (place : ℕ) (f : Box CodeForHead Global) (b : Box Tree Global) (head : CodeForHead) (s : Tree) (t : Ty) (l : Jumps) (c : Context) (n : CodeContext) (r : Result (Vec CodeStmt Global) CompileFault)
    → x ≡ codes.For place f b
    → head ≡ f.value
    → s ≡ b.value
    → Tells (each stmt_view) r n (judged_stmt t l (source.for place (seen.for_first_view head.first) (option_map seen.expr_view head.condition) (option_map seen.simple_view head.step) (seen.stmt_view s)) c)
    → Tells (each stmt_view) r n (judged_stmt t l (seen.stmt_view x) c)
for_told x place f b head s t l c n r is heads same h =
    as_seen x (source.for place (seen.for_first_view head.first) (option_map seen.expr_view head.condition) (option_map seen.simple_view head.step) (seen.stmt_view s)) t l c n r
    (ap seen.stmt_view is ∙ for_is place f b
    ∙ ap (λ (y : CodeForHead). source.for place (seen.for_first_view y.first) (option_map seen.expr_view y.condition) (option_map seen.simple_view y.step) (seen.stmt_view b.value)) (sym heads)
    ∙ ap (λ (y : Tree). source.for place (seen.for_first_view head.first) (option_map seen.expr_view head.condition) (option_map seen.simple_view head.step) (seen.stmt_view y)) (sym same)) h

pub do_told : (x : Tree) (place : ℕ) (b : Box Tree Global) (f : Box CodeExpr Global) (s : Tree) (e : CodeExpr) (t : Ty) (l : Jumps) (c : Context) (n : CodeContext) (r : Result (Vec CodeStmt Global) CompileFault)
    → x ≡ codes.DoWhile place b f
    → s ≡ b.value
    → e ≡ f.value
    → Tells (each stmt_view) r n (judged_stmt t l (source.do_while place (seen.stmt_view s) (seen.expr_view e)) c)
    → Tells (each stmt_view) r n (judged_stmt t l (seen.stmt_view x) c)
do_told x place b f s e t l c n r is same test h =
    as_seen x (source.do_while place (seen.stmt_view s) (seen.expr_view e)) t l c n r
    (ap seen.stmt_view is ∙ do_is place b f
    ∙ ap (λ (y : CodeExpr). source.do_while place (seen.stmt_view b.value) (seen.expr_view y)) (sym test)
    ∙ ap (λ (y : Tree). source.do_while place (seen.stmt_view y) (seen.expr_view e)) (sym same)) h

pub switch_told : (x : Tree) (place : ℕ) (f : Box CodeExpr Global) (entries : Vec Tree Global) (e : CodeExpr) (all : List Tree) (t : Ty) (l : Jumps) (c : Context) (n : CodeContext) (r : Result (Vec CodeStmt Global) CompileFault)
    → x ≡ codes.Switch place f entries
    → e ≡ f.value
    → all ≡ entries.items
    → Tells (each stmt_view) r n (judged_stmt t l (source.switch place (seen.expr_view e) (source.stmts_of (map seen.stmt_view all))) c)
    → Tells (each stmt_view) r n (judged_stmt t l (seen.stmt_view x) c)
switch_told x place f entries e all t l c n r is test same h =
    as_seen x (source.switch place (seen.expr_view e) (source.stmts_of (map seen.stmt_view all))) t l c n r
    (ap seen.stmt_view is ∙ switch_is place f entries
    ∙ ap (λ (y : CodeExpr). source.switch place (seen.expr_view y) (source.stmts_of (map seen.stmt_view entries.items))) (sym test)
    ∙ ap (λ (xs : List Tree). source.switch place (seen.expr_view e) (source.stmts_of (map seen.stmt_view xs))) (sym same)) h

-- a label stands in a switch alone
pub case_told : (x : Tree) (place : ℕ) (e : Box CodeExpr Global) (t : Ty) (l : Jumps) (n : CodeContext) (r : Result (Vec CodeStmt Global) CompileFault)
    → x ≡ codes.Case place e
    → r ≡ Err (Refused (record { place = place; kind = TypeMismatch }))
    → Tells (each stmt_view) r n (judged_stmt t l (seen.stmt_view x) (context_view n))
case_told x place e t l n r is h =
    as_seen x (source.case_label place (seen.expr_view e.value)) t l (context_view n) n r (ap seen.stmt_view is ∙ case_is place e)
    (lone_tells (each stmt_view) r n (refuse place TypeMismatch) (subst (λ q. Gives (each stmt_view) q (refuse {A = List Stmt} place TypeMismatch)) (sym h) refl))

pub default_told : (x : Tree) (place : ℕ) (t : Ty) (l : Jumps) (n : CodeContext) (r : Result (Vec CodeStmt Global) CompileFault)
    → x ≡ codes.Default place
    → r ≡ Err (Refused (record { place = place; kind = TypeMismatch }))
    → Tells (each stmt_view) r n (judged_stmt t l (seen.stmt_view x) (context_view n))
default_told x place t l n r is h =
    as_seen x (source.default_label place) t l (context_view n) n r (ap seen.stmt_view is ∙ default_is place)
    (lone_tells (each stmt_view) r n (refuse place TypeMismatch) (subst (λ q. Gives (each stmt_view) q (refuse {A = List Stmt} place TypeMismatch)) (sym h) refl))

pub break_told : (x : Tree) (place : ℕ) (t : Ty) (l : Jumps) (n : CodeContext) (r : Result (Vec CodeStmt Global) CompileFault)
    → x ≡ codes.Break place
    → Gives (each stmt_view) r (jump place l.breaks break_)
    → Tells (each stmt_view) r n (judged_stmt t l (seen.stmt_view x) (context_view n))
break_told x place t l n r is h =
    as_seen x (source.break place) t l (context_view n) n r (ap seen.stmt_view is ∙ break_is place) (lone_tells (each stmt_view) r n (jump place l.breaks break_) h)

pub continue_told : (x : Tree) (place : ℕ) (t : Ty) (l : Jumps) (n : CodeContext) (r : Result (Vec CodeStmt Global) CompileFault)
    → x ≡ codes.Continue place
    → Gives (each stmt_view) r (jump place l.continues continue_)
    → Tells (each stmt_view) r n (judged_stmt t l (seen.stmt_view x) (context_view n))
continue_told x place t l n r is h =
    as_seen x (source.continue place) t l (context_view n) n r (ap seen.stmt_view is ∙ continue_is place) (lone_tells (each stmt_view) r n (jump place l.continues continue_) h)

pub return_told : (x : Tree) (place : ℕ) (value : Option (Box CodeExpr Global)) (t : Ty) (l : Jumps) (c : Context) (n : CodeContext) (r : Result (Vec CodeStmt Global) CompileFault)
    → x ≡ codes.Return place value
    → Tells (each stmt_view) r n (judged_stmt t l (source.return place (option_map seen.boxed_expr_view value)) c)
    → Tells (each stmt_view) r n (judged_stmt t l (seen.stmt_view x) c)
return_told x place value t l c n r is h = as_seen x (source.return place (option_map seen.boxed_expr_view value)) t l c n r (ap seen.stmt_view is ∙ return_is place value) h

pub simple_told : (x : Tree) (b : Box CodeSimple Global) (s : CodeSimple) (t : Ty) (l : Jumps) (c : Context) (n : CodeContext) (r : Result (Vec CodeStmt Global) CompileFault)
    → x ≡ codes.Simple b
    → s ≡ b.value
    → Tells (each stmt_view) r n (ruled (judged_simple (seen.simple_view s)) (λ d y. typed (y ∷ [])) c)
    → Tells (each stmt_view) r n (judged_stmt t l (seen.stmt_view x) c)
simple_told x b s t l c n r is same h =
    as_seen x (source.simple (seen.simple_view s)) t l c n r (ap seen.stmt_view is ∙ simple_is b ∙ ap (λ (y : CodeSimple). source.simple (seen.simple_view y)) (sym same)) h
