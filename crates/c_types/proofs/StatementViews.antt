-- What the statements of the code are, each by its parts.
use Rattle.std.proofs.Common.{◌≡◌, ℕ, map, Option, Some, None, Vec, Box, Global, sym, ap, ◌∙◌}
use Rattle.std.specs.Option.{option_map}
use Rattle.c_tree.specs.Syntax as trees
use Rattle.c_tree.specs.SyntaxViews.{expr_view, boxed_expr_view, stmt_view, stmt_layer, declaration_view, for_first_view, simple_view}
use Rattle.c_tree.specs.declared.syntax.Expr.{Expr as CodeExpr}
use Rattle.c_tree.specs.declared.syntax.Declaration.{Declaration as CodeDeclaration}
use Rattle.c_tree.specs.declared.syntax.ForHead.{ForHead as CodeForHead}
use Rattle.c_tree.specs.declared.syntax.Simple.{Simple as CodeSimple}
use Rattle.c_tree.specs.declared.syntax.Stmt.{Stmt as CodeStmt}
use Rattle.c_tree.specs.declared.syntax.Stmt.TheOpen.{Stmt-F}
use Rattle.c_tree.specs.declared.syntax.Stmt.TheFolds.{fold-roll-Stmt}
use Rattle.c_tree.specs.declared.syntax.Stmt.TheVariants as stmts

pub block_is : (place : ℕ) (items : Vec CodeStmt Global) → stmt_view (stmts.Block place items) ≡ trees.block place (trees.stmts_of (map stmt_view items.items))
block_is place items = ap stmt_view (sym (stmts.rolls-Block place items)) ∙ fold-roll-Stmt trees.Stmt stmt_layer (Stmt-F.Block place items)

pub declare_is : (d : Box CodeDeclaration Global) → stmt_view (stmts.Declare d) ≡ trees.declare (declaration_view d.value)
declare_is d = ap stmt_view (sym (stmts.rolls-Declare d)) ∙ fold-roll-Stmt trees.Stmt stmt_layer (Stmt-F.Declare d)

pub empty_is : (place : ℕ) → stmt_view (stmts.Empty place) ≡ trees.empty place
empty_is place = ap stmt_view (sym (stmts.rolls-Empty place)) ∙ fold-roll-Stmt trees.Stmt stmt_layer (Stmt-F.Empty place)

pub if_then_is : (place : ℕ) (e : Box CodeExpr Global) (s : Box CodeStmt Global) → stmt_view (stmts.If place e s None) ≡ trees.if_then place (expr_view e.value) (stmt_view s.value)
if_then_is place e s = ap stmt_view (sym (stmts.rolls-If place e s None)) ∙ fold-roll-Stmt trees.Stmt stmt_layer (Stmt-F.If place e s None)

pub if_else_is : (place : ℕ) (e : Box CodeExpr Global) (s o : Box CodeStmt Global) → stmt_view (stmts.If place e s (Some o)) ≡ trees.if_else place (expr_view e.value) (stmt_view s.value) (stmt_view o.value)
if_else_is place e s o = ap stmt_view (sym (stmts.rolls-If place e s (Some o))) ∙ fold-roll-Stmt trees.Stmt stmt_layer (Stmt-F.If place e s (Some o))

pub while_is : (place : ℕ) (e : Box CodeExpr Global) (s : Box CodeStmt Global) → stmt_view (stmts.While place e s) ≡ trees.while place (expr_view e.value) (stmt_view s.value)
while_is place e s = ap stmt_view (sym (stmts.rolls-While place e s)) ∙ fold-roll-Stmt trees.Stmt stmt_layer (Stmt-F.While place e s)

pub for_is : (place : ℕ) (h : Box CodeForHead Global) (s : Box CodeStmt Global)
    → stmt_view (stmts.For place h s) ≡ trees.for place (for_first_view h.value.first) (option_map expr_view h.value.condition) (option_map simple_view h.value.step) (stmt_view s.value)
for_is place h s = ap stmt_view (sym (stmts.rolls-For place h s)) ∙ fold-roll-Stmt trees.Stmt stmt_layer (Stmt-F.For place h s)

pub do_is : (place : ℕ) (s : Box CodeStmt Global) (e : Box CodeExpr Global) → stmt_view (stmts.DoWhile place s e) ≡ trees.do_while place (stmt_view s.value) (expr_view e.value)
do_is place s e = ap stmt_view (sym (stmts.rolls-DoWhile place s e)) ∙ fold-roll-Stmt trees.Stmt stmt_layer (Stmt-F.DoWhile place s e)

pub switch_is : (place : ℕ) (e : Box CodeExpr Global) (entries : Vec CodeStmt Global) → stmt_view (stmts.Switch place e entries) ≡ trees.switch place (expr_view e.value) (trees.stmts_of (map stmt_view entries.items))
switch_is place e entries = ap stmt_view (sym (stmts.rolls-Switch place e entries)) ∙ fold-roll-Stmt trees.Stmt stmt_layer (Stmt-F.Switch place e entries)

pub case_is : (place : ℕ) (e : Box CodeExpr Global) → stmt_view (stmts.Case place e) ≡ trees.case_label place (expr_view e.value)
case_is place e = ap stmt_view (sym (stmts.rolls-Case place e)) ∙ fold-roll-Stmt trees.Stmt stmt_layer (Stmt-F.Case place e)

pub default_is : (place : ℕ) → stmt_view (stmts.Default place) ≡ trees.default_label place
default_is place = ap stmt_view (sym (stmts.rolls-Default place)) ∙ fold-roll-Stmt trees.Stmt stmt_layer (Stmt-F.Default place)

pub break_is : (place : ℕ) → stmt_view (stmts.Break place) ≡ trees.break place
break_is place = ap stmt_view (sym (stmts.rolls-Break place)) ∙ fold-roll-Stmt trees.Stmt stmt_layer (Stmt-F.Break place)

pub continue_is : (place : ℕ) → stmt_view (stmts.Continue place) ≡ trees.continue place
continue_is place = ap stmt_view (sym (stmts.rolls-Continue place)) ∙ fold-roll-Stmt trees.Stmt stmt_layer (Stmt-F.Continue place)

pub return_is : (place : ℕ) (value : Option (Box CodeExpr Global)) → stmt_view (stmts.Return place value) ≡ trees.return place (option_map boxed_expr_view value)
return_is place value = ap stmt_view (sym (stmts.rolls-Return place value)) ∙ fold-roll-Stmt trees.Stmt stmt_layer (Stmt-F.Return place value)

pub simple_is : (s : Box CodeSimple Global) → stmt_view (stmts.Simple s) ≡ trees.simple (simple_view s.value)
simple_is s = ap stmt_view (sym (stmts.rolls-Simple s)) ∙ fold-roll-Stmt trees.Stmt stmt_layer (Stmt-F.Simple s)
