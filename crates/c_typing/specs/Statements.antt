-- Judging declarations and statements where they stand (C11 6.7, 6.8).
use Rattle.std.specs.Prelude.{ℕ, Bool, true, false, ◌||◌, not, if◌then◌else◌, List, [], ◌∷◌, ◌++◌, length, Option, Some, None, ℤ, pos}
use Rattle.std.specs.Ordering.{int_eq}
use Rattle.ak_words.specs.declared.int_type.IntType.{IntType}
use Rattle.ak_words.specs.declared.number.Num.{Num}
use Rattle.ak_words.specs.declared.operation.Op.{Op}
use Rattle.ak_words.specs.declared.operation.Op.TheVariants as ops
use Rattle.ak_words.specs.IntType.{int, promoted_type}
use Rattle.ak_words.specs.Num.{num as number}
use Rattle.c_lex.specs.declared.refusal.Kind.TheVariants.{DoubleName, TypeMismatch, NotAnLvalue, BadSize}
use Rattle.c_tree.specs.declared.syntax.Name.{Name}
use Rattle.c_tree.specs.declared.syntax.StepOp.{StepOp}
use Rattle.c_tree.specs.declared.syntax.StepOp.TheVariants as steps
use Rattle.c_tree.specs.declared.syntax.AssignOp.{AssignOp}
use Rattle.c_tree.specs.declared.syntax.AssignOp.TheVariants as assigns
use Rattle.c_tree.specs.Syntax as source
use Rattle.c_tree.specs.Typed.{Ty, integer, atomic, pointer, Expr, at, num, type_of, node_of, place_of, Stmt, at_stmt, StmtNode, block, declare, if_, if_else, while_, for_, do_while, switch, Label, case_at, default_at, break_, continue_, return_, assign, update, evaluate, empty, stmts_of}
use Rattle.c_tree.specs.TypedForm.{Jumps, in_loop, in_switch}
use Rattle.c_typing.specs.Faults.{Judged, typed, faulty, refuse, unless, both, ◌>>=◌}
use Rattle.c_typing.specs.Types.{is_void, is_array, is_scalar, has_size, is_declared}
use Rattle.c_typing.specs.Scope.{Context, local_name, fresh, declared, inside, back_to, within}
use Rattle.c_typing.specs.Constants.{constant_value}
use Rattle.c_typing.specs.Rules.{value_of, converted, fitted, or_mismatch, tested, is_lvalue}
use Rattle.c_typing.specs.Judgement.{Judging, lone, in_turn, ruled, valued, Declarator, object_declared, node_place, judged, judged_specs, judged_dims}

-- ---- assignments (6.5.16, 6.5.2.4, 6.5.3.1)

-- what may be assigned: an object that is no array, and no struct that isn't complete where it stands, which is a fault of the left
-- side (6.3.2.1 p1)
abbrev pub assignable : Context → (place : ℕ) → Expr → Judged (Unit {0})
assignable c place e =
    unless place NotAnLvalue (if is_array (type_of e) then false else is_lvalue (node_of e)) >>= λ u. unless (place_of e) NotAnLvalue (is_declared c.structs (type_of e))

-- left = right
abbrev pub assigned : Context → (place : ℕ) → Expr → Expr → Judged Stmt
assigned c place left right =
    assignable c place left >>= λ u. or_mismatch place (fitted (type_of left) (value_of right)) >>= λ x. typed (at_stmt place (assign left x))

-- + and - also move a pointer to elements that have a size, and they alone change an atomic number (this project's profile)
abbrev pub moves : Op → Bool
moves ops.Add = true
moves ops.Sub = true
moves op = false

-- what a compound assignment takes: two numbers, an atomic number and a number, or a pointer and a number (6.5.16.2)
abbrev pub updates : Context → (place : ℕ) → Op → (s t : Ty) → Judged (Unit {0})
updates c place op (integer s) (integer t) = typed tt
updates c place op (atomic s) (integer t) = unless place TypeMismatch (moves op)
updates c place op (pointer s) (integer t) = unless place TypeMismatch (moves op) >>= λ u. unless place BadSize (has_size c.structs s)
updates c place op s t = refuse place TypeMismatch

-- what is added to an atomic number, or taken away, is converted to its type; an operand of any other object stays as it is
abbrev pub operand_by : (s t : Ty) → Expr → Expr
operand_by (atomic s) (integer t) e = converted t s e
operand_by s t e = e

-- left op= right
abbrev pub updated : Context → (place : ℕ) → Op → Expr → Expr → Judged Stmt
updated c place op left right =
    assignable c place left >>= λ u. updates c place op (type_of left) (type_of right) >>= λ v. typed (at_stmt place (update left op (operand_by (type_of left) (type_of right) right)))

-- ++ and -- add and subtract 1
abbrev pub step_op : StepOp → Op
step_op steps.Increment = ops.Add
step_op steps.Decrement = ops.Sub

-- ++ or -- of an object: a compound assignment of 1 to it (C11 6.5.2.4, 6.5.3.1)
abbrev pub stepped : Context → (place : ℕ) → StepOp → Expr → Judged Stmt
stepped c place op e = updated c place (step_op op) e (at place (integer int) (num int (pos 1)))

-- = assigns, and each other operator updates
abbrev pub assign_op : AssignOp → Option Op
assign_op assigns.Plain = None
assign_op assigns.Add = Some ops.Add
assign_op assigns.Sub = Some ops.Sub
assign_op assigns.Mul = Some ops.Mul
assign_op assigns.Div = Some ops.Div
assign_op assigns.Rem = Some ops.Rem
assign_op assigns.And = Some ops.And
assign_op assigns.Or = Some ops.Or
assign_op assigns.Xor = Some ops.Xor
assign_op assigns.Shl = Some ops.Shl
assign_op assigns.Shr = Some ops.Shr

-- left = right where there is no other operator, and else left op= right
abbrev pub assigned_by : Context → (place : ℕ) → Option Op → Expr → Expr → Judged Stmt
assigned_by c place None left right = assigned c place left right
assigned_by c place (Some op) left right = updated c place op left (value_of right)

-- ++ or -- of an expression, before or behind it: as a whole statement both do the same
abbrev pub stepped_by : (place : ℕ) → StepOp → Judging Expr → Judging Stmt
stepped_by place op e = ruled e (λ c x. stepped c place op x)

-- an expression statement, an assignment, ++ or --
abbrev pub judged_simple : source.Simple → Judging Stmt
judged_simple (source.before place op e) = stepped_by place op (judged e)
judged_simple (source.after place op e) = stepped_by place op (judged e)
judged_simple (source.assign place op left right) = ruled (in_turn (judged left) (judged right)) (λ c p. assigned_by c place (assign_op op) p.0 p.1)
judged_simple (source.eval e) = ruled (valued (judged e)) (λ c x. typed (at_stmt (node_place e) (evaluate x)))

-- ---- declarations of locals (6.7)

-- the type that a declarator declares, or int where it is at fault: no name is used before its declarator, so what it means
-- then is nowhere seen
abbrev pub or_int : Judged Ty → Ty
or_int (typed t) = t
or_int (faulty r rs) = integer int

-- a function's locals and parameters, of which there are 1,024 at most
abbrev pub most_locals : ℕ
most_locals = 1024

-- behind a local's declarator: it is the last of the locals, and its name is in scope
abbrev pub with_local : Context → Name → Ty → Context
with_local c n t = record (declared c n (local_name (length c.locals) t)) { locals = c.locals ++ t ∷ [] }

-- an initialiser: of a number or a pointer, at the declarator's name (6.7.9 p11; arrays and structs have none in the language)
abbrev pub initialised : (place : ℕ) → Ty → Expr → Judged Expr
initialised place t x = unless place TypeMismatch (is_scalar t) >>= λ u. or_mismatch place (fitted t x)

-- the initialiser of a local, if it has one
abbrev pub judged_init : (place : ℕ) → Judged Ty → Option source.Expr → Judging (Option Expr)
judged_init place t None c = (typed None, c)
judged_init place t (Some e) c = ruled (in_turn (lone t) (valued (judged e))) (λ d p. initialised place p.0 p.1 >>= λ x. typed (Some x)) c

-- a declarator: its name is in scope directly behind it (6.2.1 p7)
abbrev pub judged_declarator : source.Declarator → Judging Declarator
judged_declarator (source.declarator pointers n dims) = ruled (judged_dims dims) (λ c sizes. typed (record { name = n; pointers = pointers; sizes = sizes }))

-- the type of the object that a declarator declares, by the type that its specifiers name
abbrev pub object_of : (base : Judged Ty) → source.Declarator → Judging Ty
object_of base d = ruled (in_turn (lone base) (judged_declarator d)) (λ c p. object_declared c p.0 p.1)

-- the name that a declarator declares
abbrev pub name_of : source.Declarator → Name
name_of (source.declarator pointers n dims) = n

-- what is judged at a local's name, whatever its type is
abbrev pub local_fine : Context → Name → Judged (Unit {0} × Unit {0})
local_fine c n = both (fresh c n) (within n.from 5 most_locals (length c.locals))

-- a local, at its name, which is in scope in its own initialiser already (C11 6.2.1 p7)
abbrev pub judged_local : Judged Ty → source.InitDeclarator → Judging Stmt
judged_local base x around =
    let n = name_of x.declarator in
    let t = object_of base x.declarator around in
    let i = judged_init n.from t.0 x.value (with_local t.1 n (or_int t.0)) in
    (both (both (local_fine t.1 n) t.0) i.0 >>= λ p. typed (at_stmt n.from (declare (length t.1.locals) p.1)), i.1)

-- locals that are declared together, in order
abbrev pub judged_locals : Judged Ty → List source.InitDeclarator → Judging (List Stmt)
judged_locals base [] c = (typed [], c)
judged_locals base (x ∷ xs) c = ruled (in_turn (judged_local base x) (judged_locals base xs)) (λ d p. typed (p.0 ∷ p.1)) c

-- a declaration: a statement for each declarator
abbrev pub judged_declaration : source.Declaration → Judging (List Stmt)
judged_declaration d around =
    let base = judged_specs (source.specs_of d.specs) around in
    let all = judged_locals base.0 d.declarators base.1 in
    (both base.0 all.0 >>= λ p. typed p.1, all.1)

-- ---- statements (6.8)

-- a condition, at the place of a word
abbrev pub condition : (place : ℕ) → source.Expr → Judging Expr
condition place e = ruled (valued (judged e)) (λ c x. tested place x)

-- in a scope of its own
abbrev pub scoped : {A : Type 0} → Judging A → Judging A
scoped j c = let x = j (inside c) in (x.0, back_to c x.1)

-- the statement under an if or a loop: it is one, and no declaration
abbrev pub only : List Stmt → Stmt
only [] = at_stmt 0 empty
only (s ∷ rest) = s

-- the statement under an if or a loop: the only one that judging it gives
abbrev pub one_of : Judging (List Stmt) → Judging Stmt
one_of j = ruled j (λ c ss. typed (only ss))

-- a break stands in a loop or a switch, and a continue in a loop (6.8.6.2 p1, 6.8.6.3 p1)
abbrev pub jump : (place : ℕ) → (may : Bool) → StmtNode → Judged (List Stmt)
jump place may node = unless place TypeMismatch may >>= λ u. typed (at_stmt place node ∷ [])

-- a return without a value, in a function that returns none (6.8.6.4 p1)
abbrev pub returned_none : (place : ℕ) → Ty → Judged Stmt
returned_none place result = unless place TypeMismatch (is_void result) >>= λ u. typed (at_stmt place (return_ None))

-- a return with a value, at the word, in a function that returns one (6.8.6.4 p1)
abbrev pub returned_by : (place : ℕ) → Ty → Expr → Judged Stmt
returned_by place result x =
    unless place TypeMismatch (not (is_void result)) >>= λ u. or_mismatch place (fitted result x) >>= λ y. typed (at_stmt place (return_ (Some y)))

-- a return at its word, with a value or without, in a function of this result
abbrev pub returned : (place : ℕ) → (result : Ty) → Option source.Expr → Judging Stmt
returned place result None c = (returned_none place result, c)
returned place result (Some e) c = ruled (valued (judged e)) (λ d x. returned_by place result x) c

-- locals that a for declares in its header, one behind the other; the last stands in the loop
abbrev pub header_row : (first : Stmt) → List Stmt → (Stmt → Stmt) → List Stmt
header_row s [] loop = loop s ∷ []
header_row s (t ∷ rest) loop = s ∷ header_row t rest loop

-- a for with its header: where that declares several locals, one block holds them all
abbrev pub headed : (place : ℕ) → List Stmt → (Stmt → Stmt) → Stmt
headed place [] loop = loop (at_stmt place empty)
headed place (s ∷ []) loop = loop s
headed place (s ∷ t ∷ rest) loop = at_stmt place (block (stmts_of (header_row s (t ∷ rest) loop)))

-- what stands first in a for: a declaration, an assignment or other expression, or nothing (C11 6.8.5.3)
abbrev pub judged_first : (place : ℕ) → source.ForFirst → Judging (List Stmt)
judged_first place (source.first_declare d) = judged_declaration d
judged_first place (source.first_simple s) = ruled (judged_simple s) (λ c x. typed (x ∷ []))
judged_first place source.first_nothing = lone (typed [])

-- the condition of a for, if it has one (C11 6.8.5.3 p2)
abbrev pub judged_condition : (place : ℕ) → Option source.Expr → Judging (Option Expr)
judged_condition place None = lone (typed None)
judged_condition place (Some e) = ruled (condition place e) (λ c x. typed (Some x))

-- what a for does behind each turn: an assignment or other expression, or nothing
abbrev pub judged_step : (place : ℕ) → Option source.Simple → Judging Stmt
judged_step place None = lone (typed (at_stmt place empty))
judged_step place (Some s) = judged_simple s

-- the parts of a for, in the order of the text
abbrev pub for_of : (place : ℕ) → Judging (List Stmt) → Judging (Option Expr) → Judging Stmt → Judging Stmt → Judging Stmt
for_of place first test step body =
    ruled (in_turn first (in_turn test (in_turn step body))) (λ c p. typed (headed place p.0 (λ s. at_stmt place (for_ s p.1.0 p.1.1.0 p.1.1.1))))

-- a for, in a scope of its own (C11 6.8.5 p5)
abbrev pub looped : (place : ℕ) → Judging (List Stmt) → Judging (Option Expr) → Judging Stmt → Judging Stmt → Judging Stmt
looped place first test step body = scoped (for_of place first test step body)

-- ---- switches (6.8.4.2)

-- the expression of a switch, at the word: a number, promoted (p1, p5)
abbrev pub switched_by : (place : ℕ) → Ty → Expr → Judged Expr
switched_by place (integer t) x = typed (converted t (promoted_type t) x)
switched_by place t x = refuse place TypeMismatch

-- the expression of a switch
abbrev pub switched : (place : ℕ) → source.Expr → Judging Expr
switched place e = ruled (valued (judged e)) (λ c x. switched_by place (type_of x) x)

-- the type of a switch's values, or int where its expression is at fault: its labels' values are then nowhere seen
abbrev pub type_of_switch : Judged Expr → IntType
type_of_switch (typed (at place (integer t) node)) = t
type_of_switch j = int

-- what stands between the braces: the labels, and the statements behind which they count
pub record Entries : Type 0 where
  pub labels : List Label
  pub body : List Stmt

-- before the first label and the first statement
abbrev pub no_entries : Entries
no_entries = record { labels = []; body = [] }

-- a label of this value stands before
abbrev pub has_value : ℤ → List Label → Bool
has_value z [] = false
has_value z (case_at t value n ∷ rest) = int_eq value z || has_value z rest
has_value z (default_at n ∷ rest) = has_value z rest

-- a default stands before
abbrev pub has_default : List Label → Bool
has_default [] = false
has_default (case_at t value n ∷ rest) = has_default rest
has_default (default_at n ∷ rest) = true

-- 1,024 labels of one switch at most
abbrev pub most_labels : ℕ
most_labels = 1024

-- one label more, at the statement that comes next
abbrev pub with_label : Entries → Label → Entries
with_label es l = record { labels = es.labels ++ l ∷ []; body = es.body }

-- one statement more
abbrev pub with_stmt : Entries → Stmt → Entries
with_stmt es s = record { labels = es.labels; body = es.body ++ s ∷ [] }

-- a label at its word: it differs from those before it, and is not too many (p3)
abbrev pub label_fine : (place : ℕ) → (again : Bool) → List Label → Judged (Unit {0})
label_fine place again before = both (unless place DoubleName (not again)) (within place 13 most_labels (length before)) >>= λ u. typed tt

-- the value of a label in a switch of this type: an integer constant expression, converted (p3, p5)
abbrev pub label_value : (place : ℕ) → IntType → Option Num → Judged ℤ
label_value place t None = refuse place TypeMismatch
label_value place t (Some n) = typed (number t n.value).value

-- a case at its word
abbrev pub cased : (place : ℕ) → IntType → Entries → Option Num → Judged Entries
cased place t es n =
    label_value place t n >>= λ z. label_fine place (has_value z es.labels) es.labels >>= λ u. typed (with_label es (case_at t z (length es.body)))

-- a default at its word
abbrev pub defaulted : (place : ℕ) → Entries → Judged Entries
defaulted place es = label_fine place (has_default es.labels) es.labels >>= λ u. typed (with_label es (default_at (length es.body)))

-- the entries up to here, or none where one is at fault: those behind are then nowhere seen
abbrev pub entries_or : Judged Entries → Entries
entries_or (typed es) = es
entries_or (faulty r rs) = no_entries

-- an entry, and then those behind it, which stand behind what it leaves
abbrev pub entry_then : Judging Entries → (Entries → Judging Entries) → Judging Entries
entry_then first rest c =
    let x = first c in
    let y = rest (entries_or x.0) x.1 in
    (both x.0 y.0 >>= λ p. typed p.1, y.1)

-- an entry of a switch of this type, behind these: a label, or a statement, as it is judged
abbrev pub entry_of : IntType → Entries → source.Stmt → Judging (List Stmt) → Judging Entries
entry_of t es (source.case_label place e) one c = ruled (valued (judged e)) (λ d x. cased place t es (constant_value d e x)) c
entry_of t es (source.default_label place) one c = (defaulted place es, c)
entry_of t es s one c = ruled (one_of one) (λ d x. typed (with_stmt es x)) c

-- a switch: its expression, and what stands between its braces, by the type of that
abbrev pub switching : (place : ℕ) → Judging Expr → (IntType → Judging Entries) → Judging (List Stmt)
switching place e entries around =
    let x = e around in
    let y = entries (type_of_switch x.0) x.1 in
    (both x.0 y.0 >>= λ p. typed (at_stmt place (switch p.0 p.1.labels (stmts_of p.1.body)) ∷ []), y.1)

-- a statement, in a function of this result, where these jumps may stand; and the items of a body: a declaration may give several
abbrev mutual
  -- a statement where it stands: what it makes, which for a declaration is one statement for each declarator
  pub judged_stmt : (result : Ty) → Jumps → source.Stmt → Judging (List Stmt)
  judged_stmt result j (source.block place items) c =
      ruled (scoped (judged_stmts result j items)) (λ d ss. typed (at_stmt place (block (stmts_of ss)) ∷ [])) c
  judged_stmt result j (source.declare d) c = judged_declaration d c
  judged_stmt result j (source.empty place) c = (typed (at_stmt place empty ∷ []), c)
  judged_stmt result j (source.if_then place e s) c =
      ruled (in_turn (condition place e) (one_of (judged_stmt result j s))) (λ d p. typed (at_stmt place (if_ p.0 p.1) ∷ [])) c
  judged_stmt result j (source.if_else place e s t) c =
      ruled (in_turn (condition place e) (in_turn (one_of (judged_stmt result j s)) (one_of (judged_stmt result j t))))
      (λ d p. typed (at_stmt place (if_else p.0 p.1.0 p.1.1) ∷ [])) c
  judged_stmt result j (source.while place e s) c =
      ruled (in_turn (condition place e) (one_of (judged_stmt result in_loop s))) (λ d p. typed (at_stmt place (while_ p.0 p.1) ∷ [])) c
  judged_stmt result j (source.for place first e step s) c =
      ruled (looped place (judged_first place first) (judged_condition place e) (judged_step place step) (one_of (judged_stmt result in_loop s))) (λ d x. typed (x ∷ [])) c
  judged_stmt result j (source.do_while place s e) c =
      ruled (in_turn (one_of (judged_stmt result in_loop s)) (condition place e)) (λ d p. typed (at_stmt place (do_while p.0 p.1) ∷ [])) c
  judged_stmt result j (source.switch place e entries) c =
      switching place (switched place e) (λ t. judged_entries result (in_switch j) t no_entries entries) c
  -- (a label stands directly in the braces of a switch, where the grammar has it)
  judged_stmt result j (source.case_label place e) c = (refuse place TypeMismatch, c)
  judged_stmt result j (source.default_label place) c = (refuse place TypeMismatch, c)
  judged_stmt result j (source.break place) c = (jump place j.breaks break_, c)
  judged_stmt result j (source.continue place) c = (jump place j.continues continue_, c)
  judged_stmt result j (source.return place value) c = ruled (returned place result value) (λ d x. typed (x ∷ [])) c
  judged_stmt result j (source.simple s) c = ruled (judged_simple s) (λ d x. typed (x ∷ [])) c

  -- the items of a body, from first to last
  pub judged_stmts : (result : Ty) → Jumps → source.Stmts → Judging (List Stmt)
  judged_stmts result j source.no_stmts c = (typed [], c)
  judged_stmts result j (source.more_stmts s rest) c =
      ruled (in_turn (judged_stmt result j s) (judged_stmts result j rest)) (λ d p. typed (p.0 ++ p.1)) c

  -- what stands between the braces of a switch of this type, behind these labels and statements
  pub judged_entries : (result : Ty) → Jumps → IntType → Entries → source.Stmts → Judging Entries
  judged_entries result j t es source.no_stmts c = (typed es, c)
  judged_entries result j t es (source.more_stmts s rest) c =
      entry_then (entry_of t es s (judged_stmt result j s)) (λ next. judged_entries result j t next rest) c
