-- Where a thread of the source is: a stack of calls, each with its locals and a list of what is left to do.
use Rattle.std.specs.Prelude.{ℕ, Bool, List, Option}
use Rattle.ak_words.specs.declared.operation.Op.{Op}
use Rattle.block_store.specs.declared.values.Access.{Access}
use Rattle.block_store.specs.declared.values.Value.{Value}
use Rattle.c_tree.specs.Typed as tree
use Rattle.race_rules.specs.declared.touch.Touch.{Touch}
use Rattle.c_meaning.specs.Values.{Unary, Binary}

-- a local: it has no value or no block yet; it has a value; or it is a block (an object in memory)
pub data Variable : Type 0 where
  unset : Variable
  holds : (value : Value) → Variable
  lies : (block : ℕ) → Variable

-- a loop: while (condition) body, or for (..; condition; step) body; without a condition it goes on for ever (C11 6.8.5)
pub record Loop : Type 0 where
  pub condition : Option tree.Expr
  pub step : tree.Stmt
  pub body : tree.Stmt

-- a compound assignment: the place of its left side, that of its operator, the operator, and the type of the left side
pub record Update : Type 0 where
  pub place : ℕ
  pub operator : ℕ
  pub op : Op
  pub ty : tree.Ty

-- what is called: a function of the program, or one of the library
pub data Callee : Type 0 where
  function : (number : ℕ) → Callee
  library : (which : tree.Lib) → Callee

-- what is left to do in a call once a statement is done
pub data Todo : Type 0 where
  -- the body's end
  leaves : Todo
  then_row : (rest : tree.Stmts) (k : Todo) → Todo
  -- these locals end, since the block or the loop header that declares them is left
  then_end : (locals : List ℕ) (k : Todo) → Todo
  -- the first clause of a for is done, a loop's body, a loop's step
  then_loop : (l : Loop) (k : Todo) → Todo
  in_body : (l : Loop) (k : Todo) → Todo
  in_step : (l : Loop) (k : Todo) → Todo
  -- the statements of a switch
  in_switch : (k : Todo) → Todo

mutual
  -- what a value is used for, as soon as it's there
  pub data Use : Type 0 where
    -- an operation's operands
    first_of : (place : ℕ) (op : Binary) (right : tree.Expr) (k : Use) → Use
    second_of : (place : ℕ) (op : Binary) (left : Value) (k : Use) → Use
    only_of : (place : ℕ) (op : Unary) (k : Use) → Use
    -- the place that is read, and whether the object there is atomic
    place_read : (place : ℕ) (how : Access) (atomic : Bool) (k : Use) → Use
    -- the left operand of && (which 0 decides: `decides` is false) or of || (which 1 decides), and then the right one
    first_test : (place : ℕ) (decides : Bool) (right : tree.Expr) (k : Use) → Use
    second_test : (place : ℕ) (k : Use) → Use
    -- the condition of ?:
    choice : (place : ℕ) (one other : tree.Expr) (k : Use) → Use
    -- an argument of a call, those before it and those behind it
    argument : (place : ℕ) (callee : Callee) (before : List Value) (rest : tree.Exprs) (k : Wait) → Use
    -- an assigned or initial value, and whether the object is atomic
    to_local : (number : ℕ) (k : Todo) → Use
    left_place : (place : ℕ) (atomic : Bool) (right : tree.Expr) (k : Todo) → Use
    to_place : (place : ℕ) (atomic : Bool) (to : Value) (k : Todo) → Use
    -- an assigned struct: the place of the left side, and then that of the right one
    struct_left : (place : ℕ) (ty : tree.Ty) (right : tree.Expr) (k : Todo) → Use
    struct_right : (place : ℕ) (ty : tree.Ty) (to : Value) (k : Todo) → Use
    -- a op= b: the place of a; b, where a is a local without a block, or in memory; the value of a
    update_left : (u : Update) (right : tree.Expr) (k : Todo) → Use
    update_local : (u : Update) (number : ℕ) (k : Todo) → Use
    update_right : (u : Update) (at : Value) (k : Todo) → Use
    update_read : (u : Update) (at by : Value) (k : Todo) → Use
    -- a condition, or what chooses a label of a switch
    if_test : (place : ℕ) (one other : tree.Stmt) (k : Todo) → Use
    loop_test : (place : ℕ) (l : Loop) (k : Todo) → Use
    switch_test : (labels : List tree.Label) (body : tree.Stmts) (k : Todo) → Use
    -- a returned value; one that nothing uses
    to_caller : Use
    to_nowhere : (k : Todo) → Use

  -- what waits for a call's value, at the call's place; or goes on without it
  pub data Wait : Type 0 where
    wanted : (place : ℕ) (k : Use) → Wait
    dropped : (k : Todo) → Wait

-- a call that waits for the one that it made
pub record Caller : Type 0 where
  pub function : ℕ
  pub locals : List Variable
  pub wait : Wait

-- where a turn begins: with a value and its use; where a call ended without the value that is used; with what is left to do; with
-- a round of a loop
pub data TurnStart : Type 0 where
  gives : (value : Value) (k : Use) → TurnStart
  lacks : (place : ℕ) → TurnStart
  begins : (k : Todo) → TurnStart
  round : (l : Loop) (k : Todo) → TurnStart

-- a thread's own: the call under way, where it is, the calls that wait, the nearest first, and what its last turn touched
pub record Control : Type 0 where
  pub function : ℕ
  pub locals : List Variable
  pub point : TurnStart
  pub callers : List Caller
  pub touched : List Touch
