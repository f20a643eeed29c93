-- What the code's typed trees are.
use Rattle.std.specs.Prelude.{ℕ, List, map, Option, Some, None, Box}
use Rattle.std.specs.declared.alloc.Global.{Global}
use Rattle.ak_words.specs.declared.number.Num.{Num}
use Rattle.c_tree.specs.declared.typed.CType.{CType}
use Rattle.c_tree.specs.declared.typed.CType.TheVariants as types
use Rattle.c_tree.specs.declared.typed.Layout.{Layout as CodeLayout}
use Rattle.c_tree.specs.declared.typed.Piece.{Piece as CodePiece}
use Rattle.c_tree.specs.declared.typed.Piece.TheVariants as pieces
use Rattle.c_tree.specs.declared.typed.Lib.{Lib as CodeLib}
use Rattle.c_tree.specs.declared.typed.Lib.TheVariants as libs
use Rattle.c_tree.specs.declared.typed.Expr.{Expr as CodeExpr}
use Rattle.c_tree.specs.declared.typed.ExprNode.{ExprNode as CodeExprNode, Row_of-Expr, end_of-Expr, more_of-Expr}
use Rattle.c_tree.specs.declared.typed.ExprNode.TheVariants as exprs
use Rattle.c_tree.specs.declared.typed.Label.{Label as CodeLabel}
use Rattle.c_tree.specs.declared.typed.Stmt.{Stmt as CodeStmt}
use Rattle.c_tree.specs.declared.typed.StmtNode.{StmtNode as CodeStmtNode, Row_of-Stmt, end_of-Stmt, more_of-Stmt, Held-StmtNode-If-2, None', Some'}
use Rattle.c_tree.specs.declared.typed.StmtNode.TheVariants as stmts
use Rattle.c_tree.specs.declared.typed.Init.{Init as CodeInit}
use Rattle.c_tree.specs.declared.typed.Init.TheVariants as inits
use Rattle.c_tree.specs.declared.typed.GlobalVar.{GlobalVar as CodeGlobal}
use Rattle.c_tree.specs.declared.typed.Literal.{Literal as CodeLiteral}
use Rattle.c_tree.specs.declared.typed.Local.{Local as CodeLocal}
use Rattle.c_tree.specs.declared.typed.Func.{Func as CodeFunc}
use Rattle.c_tree.specs.declared.typed.Typed.{Typed as CodeTyped}
use Rattle.c_tree.specs.Typed as trees
use Rattle.c_tree.specs.Typed.{stmts_of}

-- the type that one of the code stands for
abbrev pub type_view : CType → trees.Ty
type_view types.Void = trees.void
type_view (types.Int t) = trees.integer t
type_view (types.Atomic t) = trees.atomic t
type_view types.Mutex = trees.mutex
type_view (types.Pointer' p t) = trees.pointer (type_view t)
type_view (types.Array' p t n) = trees.array (type_view t) n
type_view (types.Struct n) = trees.structure n

-- the struct's layout that one of the code stands for
abbrev pub layout_view : CodeLayout → trees.Layout
layout_view l = record { offsets = l.offsets.items; types = map type_view l.types.items; size = l.size; align = l.align }

-- the piece of a format that one of the code stands for
abbrev pub piece_view : CodePiece → trees.Piece
piece_view (pieces.Bytes all) = trees.bytes all.items
piece_view (pieces.Signed bits) = trees.signed bits
piece_view (pieces.Unsigned bits) = trees.unsigned bits
piece_view (pieces.Hex bits) = trees.hexadecimal bits
piece_view pieces.Char = trees.character
piece_view pieces.Text = trees.text

-- the library function that one of the code stands for
abbrev pub lib_view : CodeLib → trees.Lib
lib_view (libs.Print all) = trees.print (map piece_view all.items)
lib_view libs.Malloc = trees.malloc
lib_view libs.Calloc = trees.calloc
lib_view libs.Realloc = trees.realloc
lib_view libs.Free = trees.free
lib_view libs.Copy = trees.copy
lib_view (libs.Start function) = trees.start function
lib_view libs.Join = trees.join
lib_view libs.MutexInit = trees.mutex_init
lib_view libs.MutexLock = trees.mutex_lock
lib_view libs.MutexUnlock = trees.mutex_unlock
lib_view libs.MutexDestroy = trees.mutex_destroy
lib_view libs.AtomicAdd = trees.atomic_add
lib_view libs.AtomicSub = trees.atomic_sub
lib_view libs.AtomicSwap = trees.atomic_swap
lib_view libs.AtomicCompare = trees.atomic_compare
lib_view libs.AtomicStore = trees.atomic_store

abbrev mutual
  -- what an expression of the code does
  pub expr_node_view : CodeExprNode → trees.ExprNode
  expr_node_view (exprs.Num n) = trees.num n.ty n.value
  expr_node_view exprs.Null = trees.null
  expr_node_view (exprs.Literal n) = trees.literal n
  expr_node_view (exprs.Global n) = trees.global n
  expr_node_view (exprs.Local n) = trees.local n
  expr_node_view (exprs.Deref' p place ty node) = trees.deref (trees.at place (type_view ty) (expr_node_view node))
  expr_node_view (exprs.Member' p place ty node m) = trees.member (trees.at place (type_view ty) (expr_node_view node)) m
  expr_node_view (exprs.AddrOf' p place ty node) = trees.address_of (trees.at place (type_view ty) (expr_node_view node))
  expr_node_view (exprs.Decay' p place ty node) = trees.decay (trees.at place (type_view ty) (expr_node_view node))
  expr_node_view (exprs.Convert' p place ty node) = trees.convert (trees.at place (type_view ty) (expr_node_view node))
  expr_node_view (exprs.Not' p place ty node) = trees.not_ (trees.at place (type_view ty) (expr_node_view node))
  expr_node_view (exprs.Binary' op p place ty node q r s b) =
      trees.binary op (trees.at place (type_view ty) (expr_node_view node)) (trees.at r (type_view s) (expr_node_view b))
  expr_node_view (exprs.AndAlso' p place ty node q r s b) =
      trees.and_also (trees.at place (type_view ty) (expr_node_view node)) (trees.at r (type_view s) (expr_node_view b))
  expr_node_view (exprs.OrElse' p place ty node q r s b) =
      trees.or_else (trees.at place (type_view ty) (expr_node_view node)) (trees.at r (type_view s) (expr_node_view b))
  expr_node_view (exprs.Choose' p place ty node q r s b u v w c) =
      trees.choose (trees.at place (type_view ty) (expr_node_view node)) (trees.at r (type_view s) (expr_node_view b)) (trees.at v (type_view w) (expr_node_view c))
  expr_node_view (exprs.PtrAdd' p place ty node q r s b) =
      trees.pointer_add (trees.at place (type_view ty) (expr_node_view node)) (trees.at r (type_view s) (expr_node_view b))
  expr_node_view (exprs.PtrSub' p place ty node q r s b) =
      trees.pointer_sub (trees.at place (type_view ty) (expr_node_view node)) (trees.at r (type_view s) (expr_node_view b))
  expr_node_view (exprs.PtrDiff' p place ty node q r s b) =
      trees.pointer_diff (trees.at place (type_view ty) (expr_node_view node)) (trees.at r (type_view s) (expr_node_view b))
  expr_node_view (exprs.PtrCompare' op p place ty node q r s b) =
      trees.pointer_compare op (trees.at place (type_view ty) (expr_node_view node)) (trees.at r (type_view s) (expr_node_view b))
  expr_node_view (exprs.PtrTest' p place ty node) = trees.pointer_test (trees.at place (type_view ty) (expr_node_view node))
  expr_node_view (exprs.Call' f shape args) = trees.call f (expr_row_view args)
  expr_node_view (exprs.Lib' which shape args) = trees.lib (lib_view which) (expr_row_view args)

  -- the arguments of a call, as the code holds them
  pub expr_row_view : {m : _} → Row_of-Expr m → trees.Exprs
  expr_row_view end_of-Expr = trees.no_exprs
  expr_row_view (more_of-Expr place ty node rest) = trees.more_exprs (trees.at place (type_view ty) (expr_node_view node)) (expr_row_view rest)

-- the expression that one of the code stands for
abbrev pub expr_view : CodeExpr → trees.Expr
expr_view e = trees.at e.place (type_view e.ty) (expr_node_view e.node)

-- the expression in a box
abbrev pub boxed_expr_view : Box CodeExpr Global → trees.Expr
boxed_expr_view b = expr_view b.value

-- the expression, if the code has one there
abbrev pub optional_expr_view : Option CodeExpr → Option trees.Expr
optional_expr_view None = None
optional_expr_view (Some e) = Some (expr_view e)

-- a label of this value, or default where there is none, at the statement of this index
abbrev pub label_at : Option Num → ℕ → trees.Label
label_at None index = trees.default_at index
label_at (Some n) index = trees.case_at n.ty n.value index

-- the label of a switch that one of the code stands for
abbrev pub label_view : CodeLabel → trees.Label
label_view l = label_at l.value l.at

-- an `if`, with an `else` or without
abbrev mutual
  -- what a statement of the code does
  pub stmt_node_view : CodeStmtNode → trees.StmtNode
  stmt_node_view (stmts.Block' shape body) = trees.block (stmt_row_view body)
  stmt_node_view (stmts.Declare n init) = trees.declare n (optional_expr_view init)
  stmt_node_view (stmts.If' condition p place node other) = if_view (expr_view condition) (trees.at_stmt place (stmt_node_view node)) other
  stmt_node_view (stmts.While' condition p place node) = trees.while_ (expr_view condition) (trees.at_stmt place (stmt_node_view node))
  stmt_node_view (stmts.For' p place node condition q r b s t c) =
      trees.for_ (trees.at_stmt place (stmt_node_view node)) (optional_expr_view condition) (trees.at_stmt r (stmt_node_view b)) (trees.at_stmt t (stmt_node_view c))
  stmt_node_view (stmts.DoWhile' p place node condition) = trees.do_while (trees.at_stmt place (stmt_node_view node)) (expr_view condition)
  stmt_node_view (stmts.Switch' e labels shape body) = trees.switch (expr_view e) (map label_view labels.items) (stmt_row_view body)
  stmt_node_view stmts.Break = trees.break_
  stmt_node_view stmts.Continue = trees.continue_
  stmt_node_view (stmts.Return value) = trees.return_ (optional_expr_view value)
  stmt_node_view (stmts.Assign left right) = trees.assign (boxed_expr_view left) (boxed_expr_view right)
  stmt_node_view (stmts.Update left op right) = trees.update (boxed_expr_view left) op (boxed_expr_view right)
  stmt_node_view (stmts.Eval e) = trees.evaluate (expr_view e)
  stmt_node_view stmts.Empty = trees.empty

  -- an if of this condition and this first branch, with what the code holds as its else
  pub if_view : trees.Expr → trees.Stmt → Held-StmtNode-If-2 → trees.StmtNode
  if_view condition then_ None' = trees.if_ condition then_
  if_view condition then_ (Some' p place node) = trees.if_else condition then_ (trees.at_stmt place (stmt_node_view node))

  -- the items of a block, as the code holds them
  pub stmt_row_view : {m : _} → Row_of-Stmt m → trees.Stmts
  stmt_row_view end_of-Stmt = trees.no_stmts
  stmt_row_view (more_of-Stmt place node rest) = trees.more_stmts (trees.at_stmt place (stmt_node_view node)) (stmt_row_view rest)

-- the statement that one of the code stands for
abbrev pub stmt_view : CodeStmt → trees.Stmt
stmt_view s = trees.at_stmt s.place (stmt_node_view s.node)

-- the statement in a box
abbrev pub boxed_stmt_view : Box CodeStmt Global → trees.Stmt
boxed_stmt_view b = stmt_view b.value

-- what a global of the code holds at the start
abbrev pub init_view : CodeInit → trees.Init
init_view inits.Zero = trees.zero_bytes
init_view (inits.Num n) = trees.number n.ty n.value
init_view (inits.Literal n) = trees.literal_at n

-- the global that one of the code stands for
abbrev pub global_view : CodeGlobal → trees.GlobalVar
global_view g = record { ty = type_view g.ty; init = init_view g.init }

-- the bytes of a string literal of the code
abbrev pub literal_view : CodeLiteral → List ℕ
literal_view l = l.bytes.items

-- the local that one of the code stands for
abbrev pub local_view : CodeLocal → trees.Local
local_view l = record { ty = type_view l.ty; in_memory = l.in_memory }

-- the function that one of the code stands for
abbrev pub func_view : CodeFunc → trees.Func
func_view f = record { params = f.params; locals = map local_view f.locals.items; result = type_view f.result; body = stmts_of (map stmt_view f.body.items) }

-- the typed tree that one of the code stands for
abbrev pub typed_view : CodeTyped → trees.Typed
typed_view t = record {
  structs = map layout_view t.structs.items;
  globals = map global_view t.globals.items;
  literals = map literal_view t.literals.items;
  funcs = map func_view t.funcs.items;
  main = t.main;
}
