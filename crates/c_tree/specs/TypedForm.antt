-- What a well formed typed tree is: each number is in range, and types agree as the meaning of the tree needs them.
use Rattle.std.specs.Prelude.{◌≡◌, ℕ, nat_lt, ◌+◌, ◌*◌, ◌/◌, ◌<◌, ◌≤◌, ◌⊎◌, Bool, true, false, List, [], ◌∷◌, length, map, take, sum_by, slice_get, Option, Some, None}
use Rattle.std.specs.List.{AllByRecursion, filter}
use Rattle.ak_words.specs.declared.int_type.IntType.{IntType}
use Rattle.ak_words.specs.declared.operation.Op.{Op}
use Rattle.ak_words.specs.declared.operation.Op.TheVariants as ops
use Rattle.ak_words.specs.IntType.{char, int, long, unsigned_long, promoted_type, IsInRange}
use Rattle.ak_words.specs.Op.{result_type}
use Rattle.c_tree.specs.Typed.{Ty, void, integer, atomic, mutex, pointer, array, structure, Layout, Piece, bytes, signed, unsigned, hexadecimal, character, text}
use Rattle.c_tree.specs.Typed.{Lib, print, malloc, calloc, realloc, free, copy, start, join, mutex_init, mutex_lock, mutex_unlock, mutex_destroy, atomic_add, atomic_sub, atomic_swap, atomic_compare, atomic_store}
use Rattle.c_tree.specs.Typed.{Expr, at, ExprNode, num, null, literal, global, local, deref, member, address_of, decay, convert, not_, binary, and_also, or_else, choose}
use Rattle.c_tree.specs.Typed.{pointer_add, pointer_sub, pointer_diff, pointer_compare, pointer_test, call, lib, Exprs, no_exprs, more_exprs, type_of, node_of}
use Rattle.c_tree.specs.Typed.{Stmt, at_stmt, StmtNode, block, declare, if_, if_else, while_, for_, break_, continue_, return_, assign, update, evaluate, empty, do_while, switch, Label, case_at, default_at, Stmts, no_stmts, more_stmts}
use Rattle.c_tree.specs.Typed.{Init, zero_bytes, number, literal_at, GlobalVar, Local, Func, Typed}
use Rattle.c_tree.specs.TypedLayout.{greatest_object, layout_size, size_in, IsSized, laid_out}

-- ---- types

-- an integer type (C11 6.2.5 p17)
abbrev pub IsInteger : Ty → Type 0
IsInteger (integer t) = Unit {0}
IsInteger t = ⊥

-- a pointer type (C11 6.2.5 p20)
abbrev pub IsPointer : Ty → Type 0
IsPointer (pointer t) = Unit {0}
IsPointer t = ⊥

-- a number or a pointer (C11 6.2.5 p21)
abbrev pub IsScalar : Ty → Type 0
IsScalar (integer t) = Unit {0}
IsScalar (pointer t) = Unit {0}
IsScalar t = ⊥

-- a value of type s stands where one of type t is wanted: numbers of one type, also where the second is atomic, any two pointers, one struct
abbrev pub Fits : (s t : Ty) → Type 0
Fits (integer s) (integer t) = s ≡ t
Fits (integer s) (atomic t) = s ≡ t
Fits (pointer s) (pointer t) = Unit {0}
Fits (structure m) (structure n) = m ≡ n
Fits s t = ⊥

-- a pointer to elements that have a size (6.5.6 p2)
abbrev pub PointsToSized : List Layout → Ty → Type 0
PointsToSized structs (pointer t) = IsSized structs t
PointsToSized structs t = ⊥

-- one of the two is a pointer of this type to what has a size, and the other a number, whichever stands first (6.5.6 p2)
abbrev pub MovesPointer : List Layout → (a b ty : Ty) → Type 0
MovesPointer structs (pointer s) (integer t) ty = IsSized structs s × (ty ≡ pointer s)
MovesPointer structs (integer t) (pointer s) ty = IsSized structs s × (ty ≡ pointer s)
MovesPointer structs a b ty = ⊥

-- a type without a size, to which a pointer may lead for all that: void, and a struct that isn't declared (6.2.5 p19, p22)
abbrev pub IsIncomplete : List Layout → Ty → Type 0
IsIncomplete structs void = Unit {0}
IsIncomplete structs (structure n) = layout_size (slice_get structs n) ≡ 0
IsIncomplete structs t = ⊥

-- what `*` may designate: an object, whose type has a size, or what has no size and of which only the address may be taken
-- (6.5.3.2 p3, p4)
abbrev pub IsTarget : List Layout → Ty → Type 0
IsTarget structs t = IsSized structs t ⊎ IsIncomplete structs t

-- at least 32 bits
abbrev pub IsPromoted : IntType → Type 0
IsPromoted t = promoted_type t ≡ t

-- operands of an operation: both of one promoted type, and of a shift each of a promoted type (6.3.1.8, 6.5.7)
abbrev pub AreOperands : Op → Ty → Ty → Type 0
AreOperands ops.Shl (integer s) (integer t) = IsPromoted s × IsPromoted t
AreOperands ops.Shr (integer s) (integer t) = IsPromoted s × IsPromoted t
AreOperands op (integer s) (integer t) = IsPromoted s × (s ≡ t)
AreOperands op s t = ⊥

-- the type of an operation's result, by that of its left operand: int for a comparison, and else the same type
abbrev pub type_of_result : Op → Ty → Ty
type_of_result op (integer t) = integer (result_type op t)
type_of_result op t = t

-- the operators == != < <= > >=, whose result is an int that is 0 or 1 (C11 6.5.8, 6.5.9)
abbrev pub is_comparison : Op → Bool
is_comparison ops.Eq = true
is_comparison ops.Ne = true
is_comparison ops.Lt = true
is_comparison ops.Le = true
is_comparison ops.Gt = true
is_comparison ops.Ge = true
is_comparison op = false

-- what a compound assignment to an object of type s takes: numbers with any operator but a comparison, an atomic number of 32 or 64
-- bits with a number of its type that is added or taken away, or a pointer moved by a number of elements (6.5.16.2; this project's profile)
abbrev pub CanUpdate : List Layout → Op → (s t : Ty) → Type 0
CanUpdate structs op (integer s) (integer t) = is_comparison op ≡ false
CanUpdate structs op (atomic s) (integer t) = ((op ≡ ops.Add) ⊎ (op ≡ ops.Sub)) × (s ≡ t) × IsPromoted s
CanUpdate structs op (pointer s) (integer t) = ((op ≡ ops.Add) ⊎ (op ≡ ops.Sub)) × IsSized structs s
CanUpdate structs op s t = ⊥

-- a conversion: of a number to a number, of an atomic number to its own value, of a pointer to a pointer, and of anything to void
-- (6.3, 6.3.2.1 p2, 6.5.4)
abbrev pub Converts : (s t : Ty) → Type 0
Converts s void = Unit {0}
Converts (integer s) (integer t) = Unit {0}
Converts (atomic s) (integer t) = s ≡ t
Converts (pointer s) (pointer t) = Unit {0}
Converts s t = ⊥

-- ---- what is in scope

-- a function, as a call sees it
pub record Signature : Type 0 where
  pub params : List Ty
  pub result : Ty

-- the structs, the types of the globals, the bytes of the literals, the functions, and the locals of the function around
pub record InScope : Type 0 where
  pub structs : List Layout
  pub globals : List Ty
  pub literals : List (List ℕ)
  pub funcs : List Signature
  pub locals : List Local

-- the list has one at this number, counted from 0, and that one has this property
abbrev pub IsNth : {A : Type 0} → List A → ℕ → (A → Type 0) → Type 0
IsNth xs n P = (x : _) × (slice_get xs n ≡ Some x) × P x

-- the member of this number has this type
abbrev pub IsMember : List Layout → Ty → ℕ → Ty → Type 0
IsMember structs (structure s) m t = IsNth structs s (λ l. slice_get l.types m ≡ Some t)
IsMember structs s m t = ⊥

-- ---- expressions

-- an object: something that has a place (6.3.2.1)
abbrev pub IsLvalue : ExprNode → Type 0
IsLvalue (literal n) = Unit {0}
IsLvalue (global n) = Unit {0}
IsLvalue (local n) = Unit {0}
IsLvalue (deref e) = Unit {0}
IsLvalue (member e m) = Unit {0}
IsLvalue node = ⊥

-- an object that is a block or lies in one; a local that is none has no address
abbrev pub IsInMemory : InScope → ExprNode → Type 0
IsInMemory c (literal n) = Unit {0}
IsInMemory c (global n) = Unit {0}
IsInMemory c (local n) = IsNth c.locals n (λ l. l.in_memory ≡ true)
IsInMemory c (deref e) = Unit {0}
IsInMemory c (member e m) = Unit {0}
IsInMemory c node = ⊥

-- a number of so many bits, for a piece that writes one
abbrev pub HasBits : ℕ → Ty → Type 0
HasBits bits (integer t) = (t.bits ≡ bits) × ((bits ≡ 32) ⊎ (bits ≡ 64))
HasBits bits t = ⊥

-- the arguments of printf behind its format, one for each piece that takes one, in order
abbrev pub ArePrinted : List Piece → Exprs → Type 0
ArePrinted [] no_exprs = Unit {0}
ArePrinted [] (more_exprs e rest) = ⊥
ArePrinted (bytes all ∷ pieces) es = ArePrinted pieces es
ArePrinted (signed bits ∷ pieces) (more_exprs e rest) = HasBits bits (type_of e) × ArePrinted pieces rest
ArePrinted (unsigned bits ∷ pieces) (more_exprs e rest) = HasBits bits (type_of e) × ArePrinted pieces rest
ArePrinted (hexadecimal bits ∷ pieces) (more_exprs e rest) = HasBits bits (type_of e) × ArePrinted pieces rest
ArePrinted (character ∷ pieces) (more_exprs e rest) = HasBits 32 (type_of e) × ArePrinted pieces rest
ArePrinted (text ∷ pieces) (more_exprs e rest) = IsPointer (type_of e) × ArePrinted pieces rest
ArePrinted (piece ∷ pieces) no_exprs = ⊥

-- a function that a thread may begin with: int f(void *)
abbrev pub CanStart : Signature → Type 0
CanStart f = (f.result ≡ integer int) × (f.params ≡ pointer void ∷ [])

-- arguments of these types, as many as there are
abbrev pub AreArguments : List Ty → Exprs → Type 0
AreArguments [] no_exprs = Unit {0}
AreArguments (t ∷ ts) (more_exprs e rest) = Fits (type_of e) t × AreArguments ts rest
AreArguments [] (more_exprs e rest) = ⊥
AreArguments (t ∷ ts) no_exprs = ⊥

-- the first argument points to an atomic number of 32 or 64 bits, and its type tells those of the others and the result (7.17.7)
abbrev pub IsAtomicCall : (others : IntType → List Ty) → (result : IntType → Ty) → Exprs → Ty → Type 0
IsAtomicCall others result no_exprs ty = ⊥
IsAtomicCall others result (more_exprs e rest) ty = (t : IntType) × (type_of e ≡ pointer (atomic t)) × IsPromoted t
    × AreArguments (others t) rest × (ty ≡ result t)

-- the arguments and the result of a library function; the mutex's kind, and the function of a new thread, are no arguments
abbrev pub IsLibCall : InScope → Lib → Exprs → Ty → Type 0
IsLibCall c (print pieces) es t = ArePrinted pieces es × (t ≡ integer int)
IsLibCall c malloc es t = AreArguments (integer unsigned_long ∷ []) es × (t ≡ pointer void)
IsLibCall c calloc es t = AreArguments (integer unsigned_long ∷ integer unsigned_long ∷ []) es × (t ≡ pointer void)
IsLibCall c realloc es t = AreArguments (pointer void ∷ integer unsigned_long ∷ []) es × (t ≡ pointer void)
IsLibCall c free es t = AreArguments (pointer void ∷ []) es × (t ≡ void)
IsLibCall c copy es t = AreArguments (pointer void ∷ pointer void ∷ integer unsigned_long ∷ []) es × (t ≡ pointer void)
IsLibCall c (start f) es t = IsNth c.funcs f CanStart × AreArguments (pointer (integer unsigned_long) ∷ pointer void ∷ []) es × (t ≡ integer int)
IsLibCall c join es t = AreArguments (integer unsigned_long ∷ pointer (integer int) ∷ []) es × (t ≡ integer int)
IsLibCall c mutex_init es t = AreArguments (pointer mutex ∷ []) es × (t ≡ integer int)
IsLibCall c mutex_lock es t = AreArguments (pointer mutex ∷ []) es × (t ≡ integer int)
IsLibCall c mutex_unlock es t = AreArguments (pointer mutex ∷ []) es × (t ≡ integer int)
IsLibCall c mutex_destroy es t = AreArguments (pointer mutex ∷ []) es × (t ≡ void)
IsLibCall c atomic_add es t = IsAtomicCall (λ s. integer s ∷ []) (λ s. integer s) es t
IsLibCall c atomic_sub es t = IsAtomicCall (λ s. integer s ∷ []) (λ s. integer s) es t
IsLibCall c atomic_swap es t = IsAtomicCall (λ s. integer s ∷ []) (λ s. integer s) es t
IsLibCall c atomic_compare es t = IsAtomicCall (λ s. pointer (integer s) ∷ integer s ∷ []) (λ s. integer int) es t
IsLibCall c atomic_store es t = IsAtomicCall (λ s. integer s ∷ []) (λ s. void) es t

-- an expression of its type, whose parts are well formed
abbrev mutual
  -- an expression is well formed if what it does is, at its type
  pub IsTyped : InScope → Expr → Type 0
  IsTyped c (at place ty node) = IsTypedNode c ty node

  -- what an expression of this type does is well formed: its parts are, and their types are those that it needs (C11 6.5)
  pub IsTypedNode : InScope → Ty → ExprNode → Type 0
  IsTypedNode c ty (num t value) = (ty ≡ integer t) × IsInRange t value
  IsTypedNode c ty null = IsPointer ty
  IsTypedNode c ty (literal n) = IsNth c.literals n (λ bs. ty ≡ array (integer char) (length bs))
  IsTypedNode c ty (global n) = slice_get c.globals n ≡ Some ty
  IsTypedNode c ty (local n) = IsNth c.locals n (λ l. l.ty ≡ ty)
  IsTypedNode c ty (deref e) = IsTyped c e × (type_of e ≡ pointer ty) × IsTarget c.structs ty
  IsTypedNode c ty (member e m) = IsTyped c e × IsLvalue (node_of e) × IsMember c.structs (type_of e) m ty
  IsTypedNode c ty (address_of e) = IsTyped c e × IsInMemory c (node_of e) × (ty ≡ pointer (type_of e))
  IsTypedNode c ty (decay e) = IsTyped c e × IsInMemory c (node_of e) × ((t : Ty) × (n : ℕ) × (type_of e ≡ array t n) × (ty ≡ pointer t))
  IsTypedNode c ty (convert e) = IsTyped c e × Converts (type_of e) ty
  IsTypedNode c ty (not_ e) = IsTyped c e × IsScalar (type_of e) × (ty ≡ integer int)
  IsTypedNode c ty (binary op a b) = IsTyped c a × IsTyped c b × AreOperands op (type_of a) (type_of b) × (ty ≡ type_of_result op (type_of a))
  IsTypedNode c ty (and_also a b) = IsTyped c a × IsTyped c b × IsScalar (type_of a) × IsScalar (type_of b) × (ty ≡ integer int)
  IsTypedNode c ty (or_else a b) = IsTyped c a × IsTyped c b × IsScalar (type_of a) × IsScalar (type_of b) × (ty ≡ integer int)
  IsTypedNode c ty (choose a b d) = IsTyped c a × IsTyped c b × IsTyped c d × IsScalar (type_of a) × IsInteger ty × (type_of b ≡ ty) × (type_of d ≡ ty)
  IsTypedNode c ty (pointer_add a b) = IsTyped c a × IsTyped c b × MovesPointer c.structs (type_of a) (type_of b) ty
  IsTypedNode c ty (pointer_sub p n) = IsTyped c p × IsTyped c n × PointsToSized c.structs (type_of p) × IsInteger (type_of n) × (ty ≡ type_of p)
  IsTypedNode c ty (pointer_diff p q) = IsTyped c p × IsTyped c q × PointsToSized c.structs (type_of p) × IsPointer (type_of q) × (ty ≡ integer long)
  IsTypedNode c ty (pointer_compare op p q) = IsTyped c p × IsTyped c q × IsPointer (type_of p) × IsPointer (type_of q) × (is_comparison op ≡ true) × (ty ≡ integer int)
  IsTypedNode c ty (pointer_test p) = IsTyped c p × IsPointer (type_of p) × (ty ≡ integer int)
  IsTypedNode c ty (call f args) = AreTyped c args × IsNth c.funcs f (λ s. AreArguments s.params args × (ty ≡ s.result))
  IsTypedNode c ty (lib which args) = AreTyped c args × IsLibCall c which args ty

  -- each expression of a row is well formed
  pub AreTyped : InScope → Exprs → Type 0
  AreTyped c no_exprs = Unit {0}
  AreTyped c (more_exprs e rest) = IsTyped c e × AreTyped c rest

-- a value of this type, or none where there is no expression
abbrev pub IfTyped : InScope → (Ty → Type 0) → Option Expr → Type 0
IfTyped c P None = Unit {0}
IfTyped c P (Some e) = IsTyped c e × P (type_of e)

-- ---- statements

-- it declares nothing: it may stand under an if or a loop
abbrev pub IsNoDeclaration : Stmt → Type 0
IsNoDeclaration (at_stmt place (declare n init)) = ⊥
IsNoDeclaration s = Unit {0}

-- an expression of C as a statement, or nothing: it may be the step of a for
abbrev pub IsStep : Stmt → Type 0
IsStep (at_stmt place (assign left right)) = Unit {0}
IsStep (at_stmt place (update left op right)) = Unit {0}
IsStep (at_stmt place (evaluate e)) = Unit {0}
IsStep (at_stmt place empty) = Unit {0}
IsStep s = ⊥

-- what may stand first in a for: that, or one declaration
abbrev pub IsFirst : Stmt → Type 0
IsFirst (at_stmt place (declare n init)) = Unit {0}
IsFirst s = IsStep s

-- the value of a return: none in a function of type void, and else one that fits
abbrev pub IsReturned : InScope → Ty → Option Expr → Type 0
IsReturned c result None = result ≡ void
IsReturned c result (Some e) = IsTyped c e × Fits (type_of e) result

-- the first locals are parameters, so many, and are declared by no statement
pub record Inside : Type 0 where
  pub context : InScope
  pub params : ℕ
  pub result : Ty

-- what may stand there: a break, in a loop or a switch, and a continue, in a loop (6.8.6.2, 6.8.6.3)
pub record Jumps : Type 0 where
  pub breaks : Bool
  pub continues : Bool

-- directly in the body of a function: neither
abbrev pub in_function : Jumps
in_function = record { breaks = false; continues = false }

-- in the body of a loop
abbrev pub in_loop : Jumps
in_loop = record { breaks = true; continues = true }

-- between the braces of a switch that stands there
abbrev pub in_switch : Jumps → Jumps
in_switch j = record { breaks = true; continues = j.continues }

-- ---- the labels of a switch (6.8.4.2)

-- how many statements stand in the row
abbrev pub stmts_count : Stmts → ℕ
stmts_count no_stmts = 0
stmts_count (more_stmts s rest) = stmts_count rest + 1

-- no statement of the row is a declaration: a jump to a label could pass it
abbrev pub AreNoDeclarations : Stmts → Type 0
AreNoDeclarations no_stmts = Unit {0}
AreNoDeclarations (more_stmts s rest) = IsNoDeclaration s × AreNoDeclarations rest

-- the type of a switch's expression, after its promotion
abbrev pub IsSwitched : Ty → Type 0
IsSwitched (integer t) = IsPromoted t
IsSwitched t = ⊥

-- a label of a switch of this type and so many statements: a value of the type, at one of them or behind the last
abbrev pub IsLabel : Ty → (count : ℕ) → Label → Type 0
IsLabel t count (case_at s value n) = (t ≡ integer s) × IsInRange s value × (n ≤ count)
IsLabel t count (default_at n) = n ≤ count

-- two labels of one switch: two values, or only one of them a default
abbrev pub Differ : Label → Label → Type 0
Differ (case_at s a m) (case_at t b n) = a ≡ b → ⊥
Differ (default_at m) (default_at n) = ⊥
Differ l m = Unit {0}

-- each two of the labels differ
abbrev pub AreApart : List Label → Type 0
AreApart [] = Unit {0}
AreApart (l ∷ rest) = AllByRecursion (Differ l) rest × AreApart rest

-- a statement is well formed, where these jumps may stand
abbrev mutual
  -- a statement is well formed if what it does is
  pub IsWell : Inside → (jumps : Jumps) → Stmt → Type 0
  IsWell f j (at_stmt place node) = IsWellNode f j node

  -- what a statement does is well formed: its parts are, of the types that it needs, and a break or continue is
  -- where it may stand (C11 6.8)
  pub IsWellNode : Inside → Jumps → StmtNode → Type 0
  IsWellNode f j (block body) = AreWell f j body
  IsWellNode f j (declare n init) = (f.params ≤ n) × IsNth f.context.locals n (λ l. IfTyped f.context (λ t. Fits t l.ty × IsScalar t) init)
  IsWellNode f j (if_ e one) = IsTyped f.context e × IsScalar (type_of e) × IsWell f j one × IsNoDeclaration one
  IsWellNode f j (if_else e one other) = IsTyped f.context e × IsScalar (type_of e) × IsWell f j one × IsNoDeclaration one
      × IsWell f j other × IsNoDeclaration other
  IsWellNode f j (while_ e body) = IsTyped f.context e × IsScalar (type_of e) × IsWell f in_loop body × IsNoDeclaration body
  IsWellNode f j (for_ first e step body) = IsWell f j first × IsFirst first × IfTyped f.context IsScalar e
      × IsWell f j step × IsStep step × IsWell f in_loop body × IsNoDeclaration body
  IsWellNode f j (do_while body e) = IsWell f in_loop body × IsNoDeclaration body × IsTyped f.context e × IsScalar (type_of e)
  IsWellNode f j (switch e labels body) = IsTyped f.context e × IsSwitched (type_of e) × AllByRecursion (IsLabel (type_of e) (stmts_count body)) labels
      × AreApart labels × (length labels ≤ 1024) × AreWell f (in_switch j) body × AreNoDeclarations body
  IsWellNode f j break_ = j.breaks ≡ true
  IsWellNode f j continue_ = j.continues ≡ true
  IsWellNode f j (return_ value) = IsReturned f.context f.result value
  IsWellNode f j (assign left right) = IsTyped f.context left × IsTyped f.context right × IsLvalue (node_of left) × Fits (type_of right) (type_of left)
      × IsSized f.context.structs (type_of left)
  IsWellNode f j (update left op right) = IsTyped f.context left × IsTyped f.context right × IsLvalue (node_of left)
      × CanUpdate f.context.structs op (type_of left) (type_of right)
  IsWellNode f j (evaluate e) = IsTyped f.context e
  IsWellNode f j empty = Unit {0}

  -- each statement of a row is well formed
  pub AreWell : Inside → Jumps → Stmts → Type 0
  AreWell f j no_stmts = Unit {0}
  AreWell f j (more_stmts s rest) = IsWell f j s × AreWell f j rest

-- ---- programs

-- a local that is no block is a number or a pointer
pub record IsLocal (structs : List Layout) (l : Local) : Type 0 where
  pub sized : IsSized structs l.ty
  pub scalar : l.in_memory ≡ false → IsScalar l.ty

-- a function returns nothing, a number or a pointer
abbrev pub IsResult : Ty → Type 0
IsResult void = Unit {0}
IsResult t = IsScalar t

-- a function as its calls see it: the types of its parameters, and its result
abbrev pub signature_of : Func → Signature
signature_of f = record { params = map (λ l. l.ty) (take f.params f.locals); result = f.result }

-- what is in scope in the body of a function of a program
abbrev pub context_of : Typed → Func → InScope
context_of t f = record { structs = t.structs; globals = map (λ g. g.ty) t.globals; literals = t.literals; funcs = map signature_of t.funcs; locals = f.locals }

-- a function of a program is well formed: its first locals are its parameters, its locals, its result and its body are well
-- formed, and neither count passes its limit (this project's profile)
pub record IsFunc (t : Typed) (f : Func) : Type 0 where
  pub few_params : f.params ≤ 16
  pub params : f.params ≤ length f.locals
  -- no parameter is in memory
  pub in_registers : AllByRecursion (λ l. l.in_memory ≡ false) (take f.params f.locals)
  pub locals : AllByRecursion (IsLocal t.structs) f.locals
  -- 1,024 of the text, and one for each parameter whose address is taken
  pub few_locals : length f.locals ≤ 1040
  pub result : IsResult f.result
  pub body : AreWell (record { context = context_of t f; params = f.params; result = f.result }) in_function f.body

-- its members lie as they must, and each has a size
pub record IsLayout (structs : List Layout) (l : Layout) : Type 0 where
  pub sized : AllByRecursion (IsSized structs) l.types
  pub laid : l ≡ laid_out structs l.types
  pub few : length l.types ≤ 256
  pub small : l.size ≤ greatest_object

-- an object of this type is an object of that struct, or an array of such, however deep
abbrev pub HoldsStruct : Ty → ℕ → Type 0
HoldsStruct (structure n) m = n ≡ m
HoldsStruct (array t size) m = HoldsStruct t m
HoldsStruct t m = ⊥

-- struct m is a member of struct n, or the element of a member that is an array
abbrev pub IsPart : List Layout → (m n : ℕ) → Type 0
IsPart structs m n = IsNth structs n (λ l. (k : ℕ) × IsNth l.types k (λ t. HoldsStruct t m))

-- a struct lies in another, by their numbers: it is a part of it, or of one that lies in it
pub data LiesIn (structs : List Layout) : ℕ → ℕ → Type 0 where
  as_part : {m n : ℕ} → IsPart structs m n → LiesIn structs m n
  deeper : {m k n : ℕ} → IsPart structs m k → LiesIn structs k n → LiesIn structs m n

-- what a global of this type may hold at the start
abbrev pub IsInit : List (List ℕ) → Ty → Init → Type 0
IsInit literals t zero_bytes = Unit {0}
IsInit literals t (number s value) = Fits (integer s) t × IsInRange s value
IsInit literals t (literal_at n) = (t ≡ pointer (integer char)) × (n < length literals)

-- a global of a program is well formed: its type has a size, and it may hold what it holds at the start
pub record IsGlobal (t : Typed) (g : GlobalVar) : Type 0 where
  pub sized : IsSized t.structs g.ty
  pub init : IsInit t.literals g.ty g.init

-- the bytes that a plain object of this size takes, with at least one of padding behind it
abbrev pub taken : ℕ → ℕ
taken size = 16 * (size / 16 + 1)

-- the bytes that globals of these sizes, and literals, take
abbrev pub plain_bytes_by : {A : Type 0} → (size : A → ℕ) → (globals : List A) → (literals : List (List ℕ)) → ℕ
plain_bytes_by size globals literals = sum_by (λ g. taken (size g)) globals + sum_by (λ bs. taken (length bs)) literals

-- the bytes that a program's globals and literals take
abbrev pub plain_bytes : Typed → ℕ
plain_bytes t = plain_bytes_by (λ (g : GlobalVar). size_in t.structs g.ty) t.globals t.literals

-- main has no parameter and gives an int
abbrev pub IsMain : Func → Type 0
IsMain f = (f.params ≡ 0) × (f.result ≡ integer int)

-- a program is well formed: each part of it is, main is there, and no count passes its limit (this project's profile)
pub record IsWellFormed (t : Typed) : Type 0 where
  pub structs : AllByRecursion (IsLayout t.structs) t.structs
  -- no struct lies in itself (C11 6.7.2.1 p3)
  pub apart : (n : ℕ) → LiesIn t.structs n n → ⊥
  pub globals : AllByRecursion (IsGlobal t) t.globals
  -- a literal has a zero byte at its end, and so at least one
  pub literals : AllByRecursion (λ bs. 0 < length bs) t.literals
  pub funcs : AllByRecursion (IsFunc t) t.funcs
  pub main : IsNth t.funcs t.main IsMain
  -- a struct whose tag is named and never declared has no member and no size, and isn't counted
  pub few_structs : length (filter (λ (l : Layout). nat_lt 0 l.size) t.structs) ≤ 256
  pub few_globals : length t.globals ≤ 4096
  pub few_funcs : length t.funcs ≤ 8192
  pub small : plain_bytes t ≤ 1048576
