-- What the shared trees are: the typed trees of c_tree.
use Rattle.std.specs.Prelude.{ℕ, Bool, true, false, List, [], ◌∷◌, drop, map, Option, Some, None}
use Rattle.std.specs.Global.{Global}
use Rattle.std.specs.declared.rc.Rc.{Rc}
use Rattle.c_tree.specs.Typed as trees
use Rattle.c_tree.specs.TypedViews.{type_view, lib_view, label_view, layout_view, global_view, literal_view, local_view}
use Rattle.source_tree.specs.declared.tree.AddressForm.{AddressForm}
use Rattle.source_tree.specs.declared.tree.AddressForm.TheVariants as addresses
use Rattle.source_tree.specs.declared.tree.OneForm.{OneForm}
use Rattle.source_tree.specs.declared.tree.OneForm.TheVariants as ones
use Rattle.source_tree.specs.declared.tree.TwoForm.{TwoForm}
use Rattle.source_tree.specs.declared.tree.TwoForm.TheVariants as twos
use Rattle.source_tree.specs.declared.tree.Callee.{Callee}
use Rattle.source_tree.specs.declared.tree.Callee.TheVariants as callees
use Rattle.source_tree.specs.declared.tree.SharedExpr.{SharedExpr}
use Rattle.source_tree.specs.declared.tree.SharedNode.{SharedNode}
use Rattle.source_tree.specs.declared.tree.SharedNode.TheVariants as nodes
use Rattle.source_tree.specs.declared.tree.SharedArgs.{SharedArgs}
use Rattle.source_tree.specs.declared.tree.SharedArgs.TheVariants as args
use Rattle.source_tree.specs.declared.tree.SharedStmt.{SharedStmt, Row_of-SharedRow-stmts-1, end_of-SharedRow-stmts-1, more_of-SharedRow-stmts-1}
use Rattle.source_tree.specs.declared.tree.SharedStmt.TheVariants as stmts
use Rattle.source_tree.specs.declared.tree.SharedRow.{SharedRow}
use Rattle.source_tree.specs.declared.tree.SharedLabels.{SharedLabels}
use Rattle.source_tree.specs.declared.tree.SharedFunc.{SharedFunc}
use Rattle.source_tree.specs.declared.tree.SharedProgram.{SharedProgram}

-- ---- expressions

-- how an object becomes a pointer (C11 6.3.2.1, 6.5.3.2)
abbrev pub address_of_form : AddressForm → trees.Expr → trees.ExprNode
address_of_form addresses.Of e = trees.address_of e
address_of_form addresses.Decay e = trees.decay e

-- an operation on one value (C11 6.5.3, 6.5.4)
abbrev pub one_of_form : OneForm → trees.Expr → trees.ExprNode
one_of_form ones.Convert e = trees.convert e
one_of_form ones.Not e = trees.not_ e
one_of_form ones.Test e = trees.pointer_test e

-- an operation on two values (C11 6.5.5 to 6.5.12)
abbrev pub two_of_form : TwoForm → (a b : trees.Expr) → trees.ExprNode
two_of_form (twos.Numbers op) a b = trees.binary op a b
two_of_form twos.Forward a b = trees.pointer_add a b
two_of_form twos.Backward a b = trees.pointer_sub a b
two_of_form twos.Distance a b = trees.pointer_diff a b
two_of_form (twos.Pointers op) a b = trees.pointer_compare op a b

-- `||`, which true decides, and `&&`, which false does (C11 6.5.13, 6.5.14)
abbrev pub either_of : (decides : Bool) → (a b : trees.Expr) → trees.ExprNode
either_of true a b = trees.or_else a b
either_of false a b = trees.and_also a b

-- a call of a function of the program or of the library (C11 6.5.2.2)
abbrev pub call_of : Callee → trees.Exprs → trees.ExprNode
call_of (callees.Function number) all = trees.call number all
call_of (callees.Library lib) all = trees.lib (lib_view lib) all

-- what an expression does, and the arguments of a call
abbrev mutual
  pub node_of : SharedNode → trees.ExprNode
  node_of (nodes.Num n) = trees.num n.ty n.value
  node_of nodes.Null = trees.null
  node_of (nodes.Literal n) = trees.literal n
  node_of (nodes.Global n) = trees.global n
  node_of (nodes.Local n) = trees.local n
  node_of (nodes.Deref' x place ty node) = trees.deref (trees.at place (type_view ty.value) (node_of node))
  node_of (nodes.Member' x place ty node n) = trees.member (trees.at place (type_view ty.value) (node_of node)) n
  node_of (nodes.Address' form x place ty node) = address_of_form form (trees.at place (type_view ty.value) (node_of node))
  node_of (nodes.One' form x place ty node) = one_of_form form (trees.at place (type_view ty.value) (node_of node))
  node_of (nodes.Two' form x place ty node y r s b) =
      two_of_form form (trees.at place (type_view ty.value) (node_of node)) (trees.at r (type_view s.value) (node_of b))
  node_of (nodes.Either' decides x place ty node y r s b) =
      either_of decides (trees.at place (type_view ty.value) (node_of node)) (trees.at r (type_view s.value) (node_of b))
  node_of (nodes.Choose' x place ty node y r s b z u v c) =
      trees.choose (trees.at place (type_view ty.value) (node_of node)) (trees.at r (type_view s.value) (node_of b)) (trees.at u (type_view v.value) (node_of c))
  node_of (nodes.Call' callee x all) = call_of callee.value (args_of all)

  pub args_of : SharedArgs → trees.Exprs
  args_of args.NoMore = trees.no_exprs
  args_of (args.More' x place ty node y rest) = trees.more_exprs (trees.at place (type_view ty.value) (node_of node)) (args_of rest)

-- an expression at its place, with its type
abbrev pub expr_of : SharedExpr → trees.Expr
expr_of e = trees.at e.place (type_view e.ty.value) (node_of e.node)

-- an expression, if there is one
abbrev pub optional_expr_of : Option (Rc SharedExpr Global) → Option trees.Expr
optional_expr_of None = None
optional_expr_of (Some e) = Some (expr_of e.value)

-- ---- statements

-- the labels of a switch (C11 6.8.1)
abbrev pub labels_of : SharedLabels → List trees.Label
labels_of all = map label_view all.labels.items

-- a statement at its place, and those that a block holds (C11 6.8)
abbrev mutual
  pub stmt_of : SharedStmt → trees.Stmt
  stmt_of (stmts.Block' place x shape body) = trees.at_stmt place (trees.block (held_row body))
  stmt_of (stmts.Declare place n init) = trees.at_stmt place (trees.declare n (optional_expr_of init))
  stmt_of (stmts.If' place e x one) = trees.at_stmt place (trees.if_ (expr_of e.value) (stmt_of one))
  stmt_of (stmts.IfElse' place e x one y other) = trees.at_stmt place (trees.if_else (expr_of e.value) (stmt_of one) (stmt_of other))
  stmt_of (stmts.While' place e x body) = trees.at_stmt place (trees.while_ (expr_of e.value) (stmt_of body))
  stmt_of (stmts.For' place x first e y step z body) =
      trees.at_stmt place (trees.for_ (stmt_of first) (optional_expr_of e) (stmt_of step) (stmt_of body))
  stmt_of (stmts.DoWhile' place x body e) = trees.at_stmt place (trees.do_while (stmt_of body) (expr_of e.value))
  stmt_of (stmts.Switch' place e labels x shape body) = trees.at_stmt place (trees.switch (expr_of e.value) (labels_of labels.value) (held_row body))
  stmt_of (stmts.Break place) = trees.at_stmt place trees.break_
  stmt_of (stmts.Continue place) = trees.at_stmt place trees.continue_
  stmt_of (stmts.Return place value) = trees.at_stmt place (trees.return_ (optional_expr_of value))
  stmt_of (stmts.Assign place left right) = trees.at_stmt place (trees.assign (expr_of left.value) (expr_of right.value))
  stmt_of (stmts.Update place left op right) = trees.at_stmt place (trees.update (expr_of left.value) op (expr_of right.value))
  stmt_of (stmts.Eval place e) = trees.at_stmt place (trees.evaluate (expr_of e.value))
  stmt_of (stmts.Empty place) = trees.at_stmt place trees.empty

  pub held_row : {m : _} → Row_of-SharedRow-stmts-1 m → trees.Stmts
  held_row end_of-SharedRow-stmts-1 = trees.no_stmts
  held_row (more_of-SharedRow-stmts-1 x s rest) = trees.more_stmts (stmt_of s) (held_row rest)

-- these statements in a row
abbrev pub these : List (Rc SharedStmt Global) → trees.Stmts
these [] = trees.no_stmts
these (s ∷ rest) = trees.more_stmts (stmt_of s.value) (these rest)

-- the statements of a row
abbrev pub row_of : SharedRow → trees.Stmts
row_of all = these all.stmts.items

-- those from a place on
abbrev pub row_from : SharedRow → ℕ → trees.Stmts
row_from all i = these (drop i all.stmts.items)

-- ---- programs

-- a function of the program
abbrev pub func_of : SharedFunc → trees.Func
func_of f = record { params = f.params; locals = map local_view f.locals.items; result = type_view f.result; body = row_of f.body.value }

-- the program, part by part
abbrev pub program_of : SharedProgram → trees.Typed
program_of p = record {
  structs = map layout_view p.structs.items;
  globals = map global_view p.globals.items;
  literals = map literal_view p.literals.items;
  funcs = map func_of p.funcs.items;
  main = p.main;
}
