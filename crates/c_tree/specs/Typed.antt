-- The typed tree of a program, without where it lies in memory.
use Rattle.std.specs.Prelude.{[], ◌∷◌, ℕ, ℤ, Bool, List, Option}
use Rattle.ak_words.specs.declared.int_type.IntType.{IntType}
use Rattle.ak_words.specs.declared.operation.Op.{Op}

-- ---- types (C11 6.2.5)

-- a type: void, an integer type, an atomic one, which is a number that is read and written whole (C11 6.2.5 p20), mtx_t, a pointer to a type, an array of so many elements of a type, or the struct of this number
pub data Ty : Type 0 where
  void : Ty
  integer : (t : IntType) → Ty
  atomic : (t : IntType) → Ty
  mutex : Ty
  pointer : (to : Ty) → Ty
  array : (of : Ty) (size : ℕ) → Ty
  structure : (number : ℕ) → Ty

-- a struct: the offset and the type of each member, and its size and alignment (6.7.2.1)
pub record Layout : Type 0 where
  pub offsets : List ℕ
  pub types : List Ty
  pub size : ℕ
  pub align : ℕ

-- ---- library functions (7.17, 7.21, 7.22, 7.24, 7.26)

-- a piece of a format: bytes as they stand; a number of so many bits in decimal, as a signed one or as an unsigned one, or in
-- hexadecimal; the low byte of a number; the text that a pointer leads to (7.21.6.1)
pub data Piece : Type 0 where
  bytes : (all : List ℕ) → Piece
  signed : (bits : ℕ) → Piece
  unsigned : (bits : ℕ) → Piece
  hexadecimal : (bits : ℕ) → Piece
  character : Piece
  text : Piece

-- printf with the pieces of its format, malloc, calloc, realloc, free, memcpy, thrd_create of a function, thrd_join, the calls of a mutex,
-- and of an atomic number the sum, the difference, the exchange, the exchange where two numbers are equal, and the store; its load is
-- a conversion of the lvalue
pub data Lib : Type 0 where
  print : (pieces : List Piece) → Lib
  malloc : Lib
  calloc : Lib
  realloc : Lib
  free : Lib
  copy : Lib
  start : (function : ℕ) → Lib
  join : Lib
  mutex_init : Lib
  mutex_lock : Lib
  mutex_unlock : Lib
  mutex_destroy : Lib
  atomic_add : Lib
  atomic_sub : Lib
  atomic_swap : Lib
  atomic_compare : Lib
  atomic_store : Lib

-- ---- expressions (6.5)

-- an expression has a place in the text, a type, and what it does. Of these literal, global, local, deref and member are
-- lvalues; decay is the pointer to the first element of an array; test says whether a pointer is not null
mutual
  -- an expression: its place in the text, its type, and what it does
  pub data Expr : Type 0 where
    at : (place : ℕ) (ty : Ty) (node : ExprNode) → Expr

  -- what an expression does; objects, functions and members are known by their numbers
  pub data ExprNode : Type 0 where
    num : (t : IntType) (value : ℤ) → ExprNode
    null : ExprNode
    literal : (number : ℕ) → ExprNode
    global : (number : ℕ) → ExprNode
    local : (number : ℕ) → ExprNode
    deref : (e : Expr) → ExprNode
    member : (e : Expr) (number : ℕ) → ExprNode
    address_of : (e : Expr) → ExprNode
    decay : (e : Expr) → ExprNode
    convert : (e : Expr) → ExprNode
    not_ : (e : Expr) → ExprNode
    binary : (op : Op) (left right : Expr) → ExprNode
    and_also : (left right : Expr) → ExprNode
    or_else : (left right : Expr) → ExprNode
    choose : (condition yes_ no_ : Expr) → ExprNode
    pointer_add : (left right : Expr) → ExprNode
    pointer_sub : (p n : Expr) → ExprNode
    pointer_diff : (p q : Expr) → ExprNode
    pointer_compare : (op : Op) (p q : Expr) → ExprNode
    pointer_test : (p : Expr) → ExprNode
    call : (function : ℕ) (args : Exprs) → ExprNode
    lib : (which : Lib) (args : Exprs) → ExprNode

  -- expressions in a row: the arguments of a call
  pub data Exprs : Type 0 where
    no_exprs : Exprs
    more_exprs : (e : Expr) (rest : Exprs) → Exprs

-- a list of expressions
abbrev pub exprs_of : List Expr → Exprs
exprs_of [] = no_exprs
exprs_of (e ∷ es) = more_exprs e (exprs_of es)

-- the place of an expression in the text
abbrev pub place_of : Expr → ℕ
place_of (at place ty node) = place

-- the type of an expression
abbrev pub type_of : Expr → Ty
type_of (at place ty node) = ty

-- what an expression does
abbrev pub node_of : Expr → ExprNode
node_of (at place ty node) = node

-- ---- statements (6.8)

-- a label of a switch: a value of this type, or default; `at` is the index of the statement at which the label stands, or their
-- number where none stands behind it (6.8.1)
pub data Label : Type 0 where
  case_at : (t : IntType) (value : ℤ) (at : ℕ) → Label
  default_at : (at : ℕ) → Label

-- a statement has a place in the text and what it does; update is a compound assignment, ++ or --
mutual
  -- a statement: its place in the text, and what it does
  pub data Stmt : Type 0 where
    at_stmt : (place : ℕ) (node : StmtNode) → Stmt

  -- what a statement does; a local is known by its number
  pub data StmtNode : Type 0 where
    block : (body : Stmts) → StmtNode
    declare : (number : ℕ) (init : Option Expr) → StmtNode
    if_ : (condition : Expr) (then_ : Stmt) → StmtNode
    if_else : (condition : Expr) (then_ else_ : Stmt) → StmtNode
    while_ : (condition : Expr) (body : Stmt) → StmtNode
    for_ : (first : Stmt) (condition : Option Expr) (step body : Stmt) → StmtNode
    do_while : (body : Stmt) (condition : Expr) → StmtNode
    switch : (e : Expr) (labels : List Label) (body : Stmts) → StmtNode
    break_ : StmtNode
    continue_ : StmtNode
    return_ : (value : Option Expr) → StmtNode
    assign : (left right : Expr) → StmtNode
    update : (left : Expr) (op : Op) (right : Expr) → StmtNode
    evaluate : (e : Expr) → StmtNode
    empty : StmtNode

  -- statements in a row: the items of a body (C11 6.8.2)
  pub data Stmts : Type 0 where
    no_stmts : Stmts
    more_stmts : (s : Stmt) (rest : Stmts) → Stmts

-- a list of statements
abbrev pub stmts_of : List Stmt → Stmts
stmts_of [] = no_stmts
stmts_of (s ∷ rest) = more_stmts s (stmts_of rest)

-- ---- programs (6.9)

-- what a global holds at the start: zero bytes, a number, or a pointer to a string literal (6.7.9)
pub data Init : Type 0 where
  zero_bytes : Init
  number : (t : IntType) (value : ℤ) → Init
  literal_at : (number : ℕ) → Init

-- an object of file scope: its type, and what it holds at the start
pub record GlobalVar : Type 0 where
  pub ty : Ty
  pub init : Init

-- a local or parameter of a function: its type, and whether it is in memory and so has an address
pub record Local : Type 0 where
  pub ty : Ty
  pub in_memory : Bool

-- the first `params` locals are the parameters
pub record Func : Type 0 where
  pub params : ℕ
  pub locals : List Local
  pub result : Ty
  pub body : Stmts

-- a literal is its bytes
pub record Typed : Type 0 where
  pub structs : List Layout
  pub globals : List GlobalVar
  pub literals : List (List ℕ)
  pub funcs : List Func
  pub main : ℕ
