-- The tree of a program as it is written, without where it lies in memory: one node a production of the grammar.
use Rattle.std.specs.Prelude.{ℕ, List, [], ◌∷◌, Option, Some, None, Bool}
use Rattle.ak_words.specs.declared.number.Num.{Num}
use Rattle.c_tree.specs.declared.syntax.Name.{Name}
use Rattle.c_tree.specs.declared.syntax.Span.{Span}
use Rattle.c_tree.specs.declared.syntax.TypeWord.{TypeWord}
use Rattle.c_tree.specs.declared.syntax.Pointer.{Pointer}
use Rattle.c_tree.specs.declared.syntax.Storage.{Storage}
use Rattle.c_tree.specs.declared.syntax.PrefixOp.{PrefixOp}
use Rattle.c_tree.specs.declared.syntax.BinaryOp.{BinaryOp}
use Rattle.c_tree.specs.declared.syntax.StepOp.{StepOp}
use Rattle.c_tree.specs.declared.syntax.AssignOp.{AssignOp}

-- ---- expressions (C11 6.5), and the types that are named in them (C11 6.7.7)

mutual
  -- an expression, with the place of its operator or first token; what stands in brackets is a group
  pub data Expr : Type 0 where
    name : (n : Name) → Expr
    call : (callee : Name) (args : Exprs) → Expr
    int : (place : ℕ) (value : Num) → Expr
    char : (place : ℕ) (value : Num) → Expr
    text : (parts : List Span) → Expr
    null : (place : ℕ) → Expr
    group : (e : Expr) → Expr
    prefix : (place : ℕ) (op : PrefixOp) (operand : Expr) → Expr
    sizeof_type : (place : ℕ) (type : TypeName) → Expr
    sizeof_expr : (place : ℕ) (operand : Expr) → Expr
    cast : (place : ℕ) (type : TypeName) (operand : Expr) → Expr
    index : (place : ℕ) (base at : Expr) → Expr
    member : (place : ℕ) (base : Expr) (m : Name) → Expr
    arrow : (place : ℕ) (base : Expr) (m : Name) → Expr
    binary : (place : ℕ) (op : BinaryOp) (left right : Expr) → Expr
    conditional : (place : ℕ) (condition then otherwise : Expr) → Expr

  -- expressions in a row: arguments, or the sizes of an array
  pub data Exprs : Type 0 where
    no_exprs : Exprs
    more_exprs : (e : Expr) (rest : Exprs) → Exprs

  -- the name of a type
  pub data TypeName : Type 0 where
    type_name : (specs : Specs) (pointers : List Pointer) → TypeName

  -- a specifier of a declaration, with the place of its first token (C11 6.7.1 to 6.7.3)
  pub data Spec : Type 0 where
    word : (place : ℕ) (w : TypeWord) → Spec
    struct : (place : ℕ) (tag : Name) → Spec
    struct_body : (place : ℕ) (tag : Name) (members : Members) → Spec
    -- a struct without a tag
    unnamed_struct : (place : ℕ) (members : Members) → Spec
    -- an enum by its tag, with its enumerators, and with these and no tag (C11 6.7.2.2)
    enum : (place : ℕ) (tag : Name) → Spec
    enum_body : (place : ℕ) (tag : Name) (list : Enumerators) → Spec
    unnamed_enum : (place : ℕ) (list : Enumerators) → Spec
    -- the name of a type (C11 6.7.8)
    alias : (n : Name) → Spec

  -- specifiers in a row
  pub data Specs : Type 0 where
    no_specs : Specs
    more_specs : (s : Spec) (rest : Specs) → Specs

  -- an enumerator, without a value of its own or with one, and whether a comma stands behind it (C11 6.7.2.2)
  pub data Enumerator : Type 0 where
    enumerator : (n : Name) (comma : Bool) → Enumerator
    valued : (n : Name) (value : Expr) (comma : Bool) → Enumerator

  -- enumerators in a row: what stands between the braces of an enum (C11 6.7.2.2)
  pub data Enumerators : Type 0 where
    no_enumerators : Enumerators
    more_enumerators : (e : Enumerator) (rest : Enumerators) → Enumerators

  -- members of a struct that are declared together (C11 6.7.2.1)
  pub data Member : Type 0 where
    members_of : (specs : Specs) (declarators : Declarators) → Member

  -- declarations of members in a row: what stands between the braces of a struct (C11 6.7.2.1)
  pub data Members : Type 0 where
    no_members : Members
    more_members : (m : Member) (rest : Members) → Members

  -- a declarator: what stands before the name, the name, and the size of each array (C11 6.7.6)
  pub data Declarator : Type 0 where
    declarator : (pointers : List Pointer) (n : Name) (dims : Exprs) → Declarator

  -- declarators in a row, those of one declaration of members (C11 6.7.2.1)
  pub data Declarators : Type 0 where
    no_declarators : Declarators
    more_declarators : (d : Declarator) (rest : Declarators) → Declarators

-- ---- declarations (C11 6.7)

-- a declarator, and its initialiser
pub record InitDeclarator : Type 0 where
  pub declarator : Declarator
  pub value : Option Expr

-- a declaration: specifiers, and one declarator or more
pub record Declaration : Type 0 where
  pub specs : List Spec
  pub declarators : List InitDeclarator

-- the size between the brackets behind a parameter, if there is one, with the place of the opening bracket
pub record ParamDim : Type 0 where
  pub place : ℕ
  pub size : Option Expr

-- a parameter
pub record Param : Type 0 where
  pub specs : List Spec
  pub pointers : List Pointer
  pub name : Option Name
  pub dims : List ParamDim

-- ---- statements (C11 6.8)

-- an assignment, an increment or decrement before or after its operand, or an expression; the place is that of the operator
pub data Simple : Type 0 where
  before : (place : ℕ) (op : StepOp) (target : Expr) → Simple
  after : (place : ℕ) (op : StepOp) (target : Expr) → Simple
  assign : (place : ℕ) (op : AssignOp) (target value : Expr) → Simple
  eval : (e : Expr) → Simple

-- what stands first between the brackets of a for
pub data ForFirst : Type 0 where
  first_declare : (d : Declaration) → ForFirst
  first_simple : (s : Simple) → ForFirst
  first_nothing : ForFirst

mutual
  -- a statement, a declaration among the items of a body, or a label of a switch; the place is that of the first token
  pub data Stmt : Type 0 where
    block : (place : ℕ) (items : Stmts) → Stmt
    declare : (d : Declaration) → Stmt
    empty : (place : ℕ) → Stmt
    if_then : (place : ℕ) (condition : Expr) (then : Stmt) → Stmt
    if_else : (place : ℕ) (condition : Expr) (then otherwise : Stmt) → Stmt
    while : (place : ℕ) (condition : Expr) (body : Stmt) → Stmt
    for : (place : ℕ) (first : ForFirst) (condition : Option Expr) (step : Option Simple) (body : Stmt) → Stmt
    -- do, and the statement before its condition (C11 6.8.5.2)
    do_while : (place : ℕ) (body : Stmt) (condition : Expr) → Stmt
    -- a switch, with the labels and statements between its braces in order (C11 6.8.4.2)
    switch : (place : ℕ) (condition : Expr) (entries : Stmts) → Stmt
    -- the labels of a switch
    case_label : (place : ℕ) (value : Expr) → Stmt
    default_label : (place : ℕ) → Stmt
    break : (place : ℕ) → Stmt
    continue : (place : ℕ) → Stmt
    return : (place : ℕ) (value : Option Expr) → Stmt
    simple : (s : Simple) → Stmt

  -- statements and declarations in a row: the items of a body (C11 6.8.2)
  pub data Stmts : Type 0 where
    no_stmts : Stmts
    more_stmts : (s : Stmt) (rest : Stmts) → Stmts

-- ---- files (C11 6.9)

-- a body: what stands between braces, with the place of the opening one
pub record Body : Type 0 where
  pub place : ℕ
  pub items : List Stmt

-- what stands behind the specifiers of an external declaration
pub data Rest : Type 0 where
  nothing : Rest
  function : (pointers : List Pointer) (n : Name) (params : List Param) (body : Option Body) → Rest
  variables : (declarators : List InitDeclarator) → Rest

-- an external declaration: one that makes names of types (C11 6.7.8), or another
pub data External : Type 0 where
  types_by : (specs : List Spec) (declarators : List Declarator) → External
  external_of : (storage : List Storage) (specs : List Spec) (rest : Rest) → External

-- a file: its external declarations in order
pub record File : Type 0 where
  pub externals : List External

-- ---- rows and lists

-- expressions of a list, in a row
abbrev pub exprs_of : List Expr → Exprs
exprs_of [] = no_exprs
exprs_of (e ∷ es) = more_exprs e (exprs_of es)

-- specifiers of a list, in a row
abbrev pub specs_of : List Spec → Specs
specs_of [] = no_specs
specs_of (s ∷ ss) = more_specs s (specs_of ss)

-- an enumerator, with a value of its own where there is one
abbrev pub enumerator_of : Name → Option Expr → Bool → Enumerator
enumerator_of n None comma = enumerator n comma
enumerator_of n (Some value) comma = valued n value comma

-- enumerators of a list, in a row
abbrev pub enumerators_of : List Enumerator → Enumerators
enumerators_of [] = no_enumerators
enumerators_of (e ∷ es) = more_enumerators e (enumerators_of es)

-- declarations of members of a list, in a row
abbrev pub members_row : List Member → Members
members_row [] = no_members
members_row (m ∷ ms) = more_members m (members_row ms)

-- declarators of a list, in a row
abbrev pub declarators_of : List Declarator → Declarators
declarators_of [] = no_declarators
declarators_of (d ∷ ds) = more_declarators d (declarators_of ds)

-- statements of a list, in a row
abbrev pub stmts_of : List Stmt → Stmts
stmts_of [] = no_stmts
stmts_of (s ∷ ss) = more_stmts s (stmts_of ss)
