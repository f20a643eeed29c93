-- How large and how deep trees and code are.
use Rattle.std.specs.Prelude.{ℕ, suc, ◌+◌, max, length, Option, Some, None}
use Rattle.c_tree.specs.Typed as tree
use Rattle.struct_ir.specs.Nodes.{Node, plain, if_, loop, break_, next_, ret, Nodes, no_nodes, more_nodes}
use Rattle.lower_forms.specs.Forms.{Frame, home}

-- ---- code

abbrev mutual
  -- the nodes of a row, with those inside them
  pub nodes_in : Nodes → ℕ
  nodes_in no_nodes = 0
  nodes_in (more_nodes n rest) = suc (nodes_inside n + nodes_in rest)

  -- those inside a node
  pub nodes_inside : Node → ℕ
  nodes_inside (plain place a) = 0
  nodes_inside (if_ place temp one other) = nodes_in one + nodes_in other
  nodes_inside (loop place body latch) = nodes_in body + nodes_in latch
  nodes_inside (break_ place) = 0
  nodes_inside (next_ place) = 0
  nodes_inside (ret place temp) = 0

abbrev mutual
  -- how deep the nodes of a row are nested: 1 where none holds another
  pub nested_in : Nodes → ℕ
  nested_in no_nodes = 0
  nested_in (more_nodes n rest) = max (suc (nested_inside n)) (nested_in rest)

  -- how deep those inside a node are
  pub nested_inside : Node → ℕ
  nested_inside (plain place a) = 0
  nested_inside (if_ place temp one other) = max (nested_in one) (nested_in other)
  nested_inside (loop place body latch) = max (nested_in body) (nested_in latch)
  nested_inside (break_ place) = 0
  nested_inside (next_ place) = 0
  nested_inside (ret place temp) = 0

-- ---- trees

-- the pieces of a print
abbrev pub pieces_of : tree.Lib → ℕ
pieces_of (tree.print pieces) = length pieces
pieces_of which = 0

abbrev mutual
  -- the expressions and print pieces of an expression
  pub expr_size : tree.Expr → ℕ
  expr_size (tree.at place ty node) = suc (expr_parts node)

  -- those inside it
  pub expr_parts : tree.ExprNode → ℕ
  expr_parts (tree.num t z) = 0
  expr_parts tree.null = 0
  expr_parts (tree.literal number) = 0
  expr_parts (tree.global number) = 0
  expr_parts (tree.local number) = 0
  expr_parts (tree.deref e) = expr_size e
  expr_parts (tree.member e number) = expr_size e
  expr_parts (tree.address_of e) = expr_size e
  expr_parts (tree.decay e) = expr_size e
  expr_parts (tree.convert e) = expr_size e
  expr_parts (tree.not_ e) = expr_size e
  expr_parts (tree.binary op a b) = expr_size a + expr_size b
  expr_parts (tree.and_also a b) = expr_size a + expr_size b
  expr_parts (tree.or_else a b) = expr_size a + expr_size b
  expr_parts (tree.choose c a b) = expr_size c + expr_size a + expr_size b
  expr_parts (tree.pointer_add p n) = expr_size p + expr_size n
  expr_parts (tree.pointer_sub p n) = expr_size p + expr_size n
  expr_parts (tree.pointer_diff p q) = expr_size p + expr_size q
  expr_parts (tree.pointer_compare op p q) = expr_size p + expr_size q
  expr_parts (tree.pointer_test p) = expr_size p
  expr_parts (tree.call function args) = args_size args
  expr_parts (tree.lib which args) = pieces_of which + args_size args

  -- those of arguments
  pub args_size : tree.Exprs → ℕ
  args_size tree.no_exprs = 0
  args_size (tree.more_exprs e rest) = expr_size e + args_size rest

-- of an expression, if there is one
abbrev pub size_if : Option tree.Expr → ℕ
size_if None = 0
size_if (Some e) = expr_size e

abbrev mutual
  -- the statements, expressions, print pieces and labels of a statement
  pub stmt_size : tree.Stmt → ℕ
  stmt_size (tree.at_stmt place node) = suc (stmt_parts node)

  -- those inside it
  pub stmt_parts : tree.StmtNode → ℕ
  stmt_parts (tree.block body) = row_size body
  stmt_parts (tree.declare number init) = size_if init
  stmt_parts (tree.if_ e one) = expr_size e + stmt_size one
  stmt_parts (tree.if_else e one other) = expr_size e + (stmt_size one + stmt_size other)
  stmt_parts (tree.while_ e body) = expr_size e + stmt_size body
  stmt_parts (tree.for_ first e last body) = (stmt_size first + size_if e) + (stmt_size last + stmt_size body)
  stmt_parts (tree.do_while body e) = expr_size e + stmt_size body
  stmt_parts (tree.switch e labels body) = expr_size e + (length labels + row_size body)
  stmt_parts tree.break_ = 0
  stmt_parts tree.continue_ = 0
  stmt_parts (tree.return_ value) = size_if value
  stmt_parts (tree.assign a b) = expr_size a + expr_size b
  stmt_parts (tree.update a op b) = expr_size a + expr_size b
  stmt_parts (tree.evaluate e) = expr_size e
  stmt_parts tree.empty = 0

  -- those of a row
  pub row_size : tree.Stmts → ℕ
  row_size tree.no_stmts = 0
  row_size (tree.more_stmts s rest) = stmt_size s + row_size rest

abbrev mutual
  -- how deep an expression is: 1 where it has no parts
  pub expr_depth : tree.Expr → ℕ
  expr_depth (tree.at place ty node) = suc (depth_inside node)

  -- how deep its parts are
  pub depth_inside : tree.ExprNode → ℕ
  depth_inside (tree.num t z) = 0
  depth_inside tree.null = 0
  depth_inside (tree.literal number) = 0
  depth_inside (tree.global number) = 0
  depth_inside (tree.local number) = 0
  depth_inside (tree.deref e) = expr_depth e
  depth_inside (tree.member e number) = expr_depth e
  depth_inside (tree.address_of e) = expr_depth e
  depth_inside (tree.decay e) = expr_depth e
  depth_inside (tree.convert e) = expr_depth e
  depth_inside (tree.not_ e) = expr_depth e
  depth_inside (tree.binary op a b) = max (expr_depth a) (expr_depth b)
  depth_inside (tree.and_also a b) = max (expr_depth a) (expr_depth b)
  depth_inside (tree.or_else a b) = max (expr_depth a) (expr_depth b)
  depth_inside (tree.choose c a b) = max (expr_depth c) (max (expr_depth a) (expr_depth b))
  depth_inside (tree.pointer_add p n) = max (expr_depth p) (expr_depth n)
  depth_inside (tree.pointer_sub p n) = max (expr_depth p) (expr_depth n)
  depth_inside (tree.pointer_diff p q) = max (expr_depth p) (expr_depth q)
  depth_inside (tree.pointer_compare op p q) = max (expr_depth p) (expr_depth q)
  depth_inside (tree.pointer_test p) = expr_depth p
  depth_inside (tree.call function args) = args_depth args
  depth_inside (tree.lib which args) = args_depth args

  -- how deep arguments are
  pub args_depth : tree.Exprs → ℕ
  args_depth tree.no_exprs = 0
  args_depth (tree.more_exprs e rest) = max (expr_depth e) (args_depth rest)

-- of an expression, if there is one
abbrev pub depth_if : Option tree.Expr → ℕ
depth_if None = 0
depth_if (Some e) = expr_depth e

abbrev mutual
  -- how deep a statement is, with the expressions in it
  pub stmt_depth : tree.Stmt → ℕ
  stmt_depth (tree.at_stmt place node) = suc (stmt_inside node)

  -- how deep its parts are
  pub stmt_inside : tree.StmtNode → ℕ
  stmt_inside (tree.block body) = row_depth body
  stmt_inside (tree.declare number init) = depth_if init
  stmt_inside (tree.if_ e one) = max (expr_depth e) (stmt_depth one)
  stmt_inside (tree.if_else e one other) = max (expr_depth e) (max (stmt_depth one) (stmt_depth other))
  stmt_inside (tree.while_ e body) = max (expr_depth e) (stmt_depth body)
  stmt_inside (tree.for_ first e last body) = max (max (stmt_depth first) (depth_if e)) (max (stmt_depth last) (stmt_depth body))
  stmt_inside (tree.do_while body e) = max (expr_depth e) (stmt_depth body)
  stmt_inside (tree.switch e labels body) = max (expr_depth e) (row_depth body)
  stmt_inside tree.break_ = 0
  stmt_inside tree.continue_ = 0
  stmt_inside (tree.return_ value) = depth_if value
  stmt_inside (tree.assign a b) = max (expr_depth a) (expr_depth b)
  stmt_inside (tree.update a op b) = max (expr_depth a) (expr_depth b)
  stmt_inside (tree.evaluate e) = expr_depth e
  stmt_inside tree.empty = 0

  -- how deep a row is
  pub row_depth : tree.Stmts → ℕ
  row_depth tree.no_stmts = 0
  row_depth (tree.more_stmts s rest) = max (stmt_depth s) (row_depth rest)

-- 1 where there is a stack object
abbrev pub one_if : (home : Option ℕ) → ℕ
one_if None = 0
one_if (Some object) = 1

abbrev mutual
  -- the declarations of locals in memory in a statement
  pub begun : Frame → tree.Stmt → ℕ
  begun f (tree.at_stmt place node) = begun_by f node

  -- by its form
  pub begun_by : Frame → tree.StmtNode → ℕ
  begun_by f (tree.block body) = begun_in f body
  begun_by f (tree.declare number init) = one_if (home f number)
  begun_by f (tree.if_ e one) = begun f one
  begun_by f (tree.if_else e one other) = begun f one + begun f other
  begun_by f (tree.while_ e body) = begun f body
  begun_by f (tree.for_ first e last body) = begun f first + (begun f last + begun f body)
  begun_by f (tree.do_while body e) = begun f body
  begun_by f (tree.switch e labels body) = begun_in f body
  begun_by f tree.break_ = 0
  begun_by f tree.continue_ = 0
  begun_by f (tree.return_ value) = 0
  begun_by f (tree.assign a b) = 0
  begun_by f (tree.update a op b) = 0
  begun_by f (tree.evaluate e) = 0
  begun_by f tree.empty = 0

  -- those in a row
  pub begun_in : Frame → tree.Stmts → ℕ
  begun_in f tree.no_stmts = 0
  begun_in f (tree.more_stmts s rest) = begun f s + begun_in f rest
