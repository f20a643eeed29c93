-- A function's locals get other numbers, and its body stays well formed.
use Rattle.std.proofs.Common.{◌≡◌, ℕ, ◌+◌, ◌≤◌, true, refl, sym, ap, ◌∙◌, subst, List, [], ◌∷◌, Option, Some, None, slice_get}
use Rattle.std.specs.List.{AllByRecursion}
use Rattle.ak_words.specs.declared.int_type.IntType.{IntType}
use Rattle.ak_words.specs.IntType.{int, unsigned_long}
use Rattle.c_tree.specs.Typed.{Ty, void, integer, atomic, mutex, pointer, Local, Piece, bytes, signed, unsigned, hexadecimal, character, text, Lib, print, malloc, calloc, realloc, free, copy, start, join, mutex_init, mutex_lock, mutex_unlock, mutex_destroy, atomic_add, atomic_sub, atomic_swap, atomic_compare, atomic_store}
use Rattle.c_tree.specs.Typed.{Expr, at, ExprNode, num, null, literal, global, local, deref, member, address_of, decay, convert, not_, binary, and_also, or_else, choose, pointer_add, pointer_sub, pointer_diff, pointer_compare, pointer_test, call, lib, Exprs, no_exprs, more_exprs, type_of}
use Rattle.c_tree.specs.Typed.{Stmt, at_stmt, StmtNode, block, declare, if_, if_else, while_, for_, do_while, switch, break_, continue_, return_, assign, update, evaluate, empty, Stmts, no_stmts, more_stmts}
use Rattle.c_tree.specs.TypedForm.{Jumps, in_loop, in_switch, stmts_count, AreNoDeclarations, IsLabel, IsScalar, Fits, IsNth, IsLvalue, IsInMemory, ArePrinted, AreArguments, IsAtomicCall, IsLibCall, IsTyped, IsTypedNode, AreTyped, IfTyped, IsNoDeclaration, IsStep, IsFirst, IsReturned, Inside, IsWellNode, AreWell}
use Rattle.c_tree.specs.TypedForm as form
use Rattle.c_typing.specs.Numbering.{renumbered, renumbered_node, renumbered_all, renumbered_if, renumbered_stmt, renumbered_stmt_node, renumbered_stmts}

-- each local of one list is by its new number of the same type in the other, and in memory if it was
abbrev pub Carries : (ℕ → ℕ) → (old new : List Local) → Type 0
Carries f old new = (n : ℕ) (l : Local) → slice_get old n ≡ Some l → IsNth new (f n) (λ (m : Local). (m.ty ≡ l.ty) × (l.in_memory ≡ true → m.in_memory ≡ true))

abbrev pub with_locals : form.InScope → List Local → form.InScope
with_locals e ls = record e { locals = ls }

lvalue_too : (f : ℕ → ℕ) (node : ExprNode) → IsLvalue node → IsLvalue (renumbered_node f node)
lvalue_too f (literal n) h = tt
lvalue_too f _ h = h

memory_too : (f : ℕ → ℕ) (e : form.InScope) (ls : List Local) → Carries f e.locals ls → (node : ExprNode) → IsInMemory e node → IsInMemory (with_locals e ls) (renumbered_node f node)
memory_too f e ls c (local n) h = let m = c n h.0 h.1 in (m.0, m.1, m.2.1 h.2)
memory_too f e ls c (literal n) h = tt
memory_too f e ls c _ h = h

same_type_too : (f : ℕ → ℕ) (x : Expr) → type_of (renumbered f x) ≡ type_of x
same_type_too f (at place ty node) = refl

arguments_too : (f : ℕ → ℕ) (ts : List Ty) (es : Exprs) → AreArguments ts es → AreArguments ts (renumbered_all f es)
arguments_too f [] no_exprs h = tt
arguments_too f (t ∷ ts) (more_exprs (at place ty node) rest) h = (h.0, arguments_too f ts rest h.1)
arguments_too f [] (more_exprs x rest) h = absurd h
arguments_too f (t ∷ ts) no_exprs h = absurd h

printed_too : (f : ℕ → ℕ) (ps : List Piece) (es : Exprs) → ArePrinted ps es → ArePrinted ps (renumbered_all f es)
printed_too f [] no_exprs h = tt
printed_too f [] (more_exprs x rest) h = absurd h
printed_too f (bytes all ∷ ps) es h = printed_too f ps es h
printed_too f (signed bits ∷ ps) (more_exprs (at place ty node) rest) h = (h.0, printed_too f ps rest h.1)
printed_too f (unsigned bits ∷ ps) (more_exprs (at place ty node) rest) h = (h.0, printed_too f ps rest h.1)
printed_too f (hexadecimal bits ∷ ps) (more_exprs (at place ty node) rest) h = (h.0, printed_too f ps rest h.1)
printed_too f (character ∷ ps) (more_exprs (at place ty node) rest) h = (h.0, printed_too f ps rest h.1)
printed_too f (text ∷ ps) (more_exprs (at place ty node) rest) h = (h.0, printed_too f ps rest h.1)
printed_too f (signed bits ∷ ps) no_exprs h = absurd h
printed_too f (unsigned bits ∷ ps) no_exprs h = absurd h
printed_too f (hexadecimal bits ∷ ps) no_exprs h = absurd h
printed_too f (character ∷ ps) no_exprs h = absurd h
printed_too f (text ∷ ps) no_exprs h = absurd h

atomic_too : (f : ℕ → ℕ) (others : IntType → List Ty) (result : IntType → Ty) (es : Exprs) (t : Ty) → IsAtomicCall others result es t → IsAtomicCall others result (renumbered_all f es) t
atomic_too f others result no_exprs t h = h
atomic_too f others result (more_exprs e rest) t h = (h.0, same_type_too f e ∙ h.1, h.2, arguments_too f (others h.0) rest h.3, h.4)

lib_too : (f : ℕ → ℕ) (e : form.InScope) (ls : List Local) (which : Lib) (es : Exprs) (t : Ty) → IsLibCall e which es t → IsLibCall (with_locals e ls) which (renumbered_all f es) t
lib_too f e ls (print pieces) es t h = (printed_too f pieces es h.0, h.1)
lib_too f e ls malloc es t h = (arguments_too f (integer unsigned_long ∷ []) es h.0, h.1)
lib_too f e ls calloc es t h = (arguments_too f (integer unsigned_long ∷ integer unsigned_long ∷ []) es h.0, h.1)
lib_too f e ls realloc es t h = (arguments_too f (pointer void ∷ integer unsigned_long ∷ []) es h.0, h.1)
lib_too f e ls free es t h = (arguments_too f (pointer void ∷ []) es h.0, h.1)
lib_too f e ls copy es t h = (arguments_too f (pointer void ∷ pointer void ∷ integer unsigned_long ∷ []) es h.0, h.1)
lib_too f e ls (start n) es t h = (h.0, arguments_too f (pointer (integer unsigned_long) ∷ pointer void ∷ []) es h.1, h.2)
lib_too f e ls join es t h = (arguments_too f (integer unsigned_long ∷ pointer (integer int) ∷ []) es h.0, h.1)
lib_too f e ls mutex_init es t h = (arguments_too f (pointer mutex ∷ []) es h.0, h.1)
lib_too f e ls mutex_lock es t h = (arguments_too f (pointer mutex ∷ []) es h.0, h.1)
lib_too f e ls mutex_unlock es t h = (arguments_too f (pointer mutex ∷ []) es h.0, h.1)
lib_too f e ls mutex_destroy es t h = (arguments_too f (pointer mutex ∷ []) es h.0, h.1)
lib_too f e ls atomic_add es t h = atomic_too f (λ s. integer s ∷ []) (λ s. integer s) es t h
lib_too f e ls atomic_sub es t h = atomic_too f (λ s. integer s ∷ []) (λ s. integer s) es t h
lib_too f e ls atomic_swap es t h = atomic_too f (λ s. integer s ∷ []) (λ s. integer s) es t h
lib_too f e ls atomic_compare es t h = atomic_too f (λ s. pointer (integer s) ∷ integer s ∷ []) (λ s. integer int) es t h
lib_too f e ls atomic_store es t h = atomic_too f (λ s. integer s ∷ []) (λ s. void) es t h

mutual
  node_too : (f : ℕ → ℕ) (e : form.InScope) (ls : List Local) → Carries f e.locals ls → (ty : Ty) (node : ExprNode) → IsTypedNode e ty node → IsTypedNode (with_locals e ls) ty (renumbered_node f node)
  node_too f e ls c ty (num t value) h = h
  node_too f e ls c ty null h = h
  node_too f e ls c ty (literal n) h = h
  node_too f e ls c ty (global n) h = h
  node_too f e ls c ty (local n) h = let m = c n h.0 h.1 in (m.0, m.1, m.2.0 ∙ h.2)
  node_too f e ls c ty (deref (at p t x)) h = (node_too f e ls c t x h.0, h.1, h.2)
  node_too f e ls c ty (member (at p t x) m) h = (node_too f e ls c t x h.0, lvalue_too f x h.1, h.2)
  node_too f e ls c ty (address_of (at p t x)) h = (node_too f e ls c t x h.0, memory_too f e ls c x h.1, h.2)
  node_too f e ls c ty (decay (at p t x)) h = (node_too f e ls c t x h.0, memory_too f e ls c x h.1, h.2)
  node_too f e ls c ty (convert (at p t x)) h = (node_too f e ls c t x h.0, h.1)
  node_too f e ls c ty (not_ (at p t x)) h = (node_too f e ls c t x h.0, h.1, h.2)
  node_too f e ls c ty (binary op (at p t x) (at q u y)) h = (node_too f e ls c t x h.0, node_too f e ls c u y h.1, h.2, h.3)
  node_too f e ls c ty (and_also (at p t x) (at q u y)) h = (node_too f e ls c t x h.0, node_too f e ls c u y h.1, h.2, h.3, h.4)
  node_too f e ls c ty (or_else (at p t x) (at q u y)) h = (node_too f e ls c t x h.0, node_too f e ls c u y h.1, h.2, h.3, h.4)
  node_too f e ls c ty (choose (at p t x) (at q u y) (at r v z)) h = (node_too f e ls c t x h.0, node_too f e ls c u y h.1, node_too f e ls c v z h.2, h.3, h.4, h.5, h.6)
  node_too f e ls c ty (pointer_add (at p t x) (at q u y)) h = (node_too f e ls c t x h.0, node_too f e ls c u y h.1, h.2)
  node_too f e ls c ty (pointer_sub (at p t x) (at q u y)) h = (node_too f e ls c t x h.0, node_too f e ls c u y h.1, h.2, h.3, h.4)
  node_too f e ls c ty (pointer_diff (at p t x) (at q u y)) h = (node_too f e ls c t x h.0, node_too f e ls c u y h.1, h.2, h.3, h.4)
  node_too f e ls c ty (pointer_compare op (at p t x) (at q u y)) h = (node_too f e ls c t x h.0, node_too f e ls c u y h.1, h.2, h.3, h.4, h.5)
  node_too f e ls c ty (pointer_test (at p t x)) h = (node_too f e ls c t x h.0, h.1, h.2)
  node_too f e ls c ty (call n args) h = (all_too f e ls c args h.0, (h.1.0, h.1.1, (arguments_too f h.1.0.params args h.1.2.0, h.1.2.1)))
  node_too f e ls c ty (lib which args) h = (all_too f e ls c args h.0, lib_too f e ls which args ty h.1)

  all_too : (f : ℕ → ℕ) (e : form.InScope) (ls : List Local) → Carries f e.locals ls → (es : Exprs) → AreTyped e es → AreTyped (with_locals e ls) (renumbered_all f es)
  all_too f e ls c no_exprs h = tt
  all_too f e ls c (more_exprs (at p t x) rest) h = (node_too f e ls c t x h.0, all_too f e ls c rest h.1)

typed_too : (f : ℕ → ℕ) (e : form.InScope) (ls : List Local) → Carries f e.locals ls → (x : Expr) → IsTyped e x → IsTyped (with_locals e ls) (renumbered f x)
typed_too f e ls c (at p t x) h = node_too f e ls c t x h

-- ---- statements

no_declaration_too : (f : ℕ → ℕ) (s : Stmt) → IsNoDeclaration s → IsNoDeclaration (renumbered_stmt f s)
no_declaration_too f (at_stmt place (declare n init)) h = h
no_declaration_too f (at_stmt place (block body)) h = tt
no_declaration_too f (at_stmt place _) h = tt

step_too : (f : ℕ → ℕ) (s : Stmt) → IsStep s → IsStep (renumbered_stmt f s)
step_too f (at_stmt place (declare n init)) h = h
step_too f (at_stmt place (block body)) h = h
step_too f (at_stmt place _) h = h

first_too : (f : ℕ → ℕ) (s : Stmt) → IsFirst s → IsFirst (renumbered_stmt f s)
first_too f (at_stmt place (declare n init)) h = tt
first_too f (at_stmt place (block body)) h = h
first_too f (at_stmt place _) h = h

if_too : (f : ℕ → ℕ) (e : form.InScope) (ls : List Local) → Carries f e.locals ls → (P : Ty → Type 0) (o : Option Expr) → IfTyped e P o → IfTyped (with_locals e ls) P (renumbered_if f o)
if_too f e ls c P None h = tt
if_too f e ls c P (Some (at p t x)) h = (node_too f e ls c t x h.0, h.1)

returned_too : (f : ℕ → ℕ) (e : form.InScope) (ls : List Local) → Carries f e.locals ls → (r : Ty) (o : Option Expr) → IsReturned e r o → IsReturned (with_locals e ls) r (renumbered_if f o)
returned_too f e ls c r None h = h
returned_too f e ls c r (Some (at p t x)) h = (node_too f e ls c t x h.0, h.1)

abbrev Inner : form.InScope → ℕ → Ty → Inside
Inner e k r = record { context = e; params = k; result = r }

-- no parameter's number becomes of what is none
abbrev pub Rises : (ℕ → ℕ) → ℕ → Type 0
Rises f k = (n : ℕ) → k ≤ n → k ≤ f n

declared_too : (f : ℕ → ℕ) (e : form.InScope) (ls : List Local) → Carries f e.locals ls → (k : ℕ) (r : Ty) → Rises f k → (l : Jumps) (n : ℕ) (init : Option Expr)
    → IsWellNode (Inner e k r) l (declare n init) → IsWellNode (Inner (with_locals e ls) k r) l (declare (f n) (renumbered_if f init))
declared_too f e ls c k r u l n init h =
    let m = c n h.1.0 h.1.1 in
    (u n h.0, (m.0, m.1, if_too f e ls c (λ t. Fits t m.0.ty × IsScalar t) init (subst (λ v. IfTyped e (λ t. Fits t v × IsScalar t) init) (sym m.2.0) h.1.2)))

count_too : (f : ℕ → ℕ) (ss : Stmts) → stmts_count (renumbered_stmts f ss) ≡ stmts_count ss
count_too f no_stmts = refl
count_too f (more_stmts s rest) = ap (λ n. n + 1) (count_too f rest)

no_declarations_too : (f : ℕ → ℕ) (ss : Stmts) → AreNoDeclarations ss → AreNoDeclarations (renumbered_stmts f ss)
no_declarations_too f no_stmts h = tt
no_declarations_too f (more_stmts s rest) h = (no_declaration_too f s h.0, no_declarations_too f rest h.1)

mutual
  stmt_too : (f : ℕ → ℕ) (e : form.InScope) (ls : List Local) → Carries f e.locals ls → (k : ℕ) (r : Ty) → Rises f k → (l : Jumps) (s : StmtNode) → IsWellNode (Inner e k r) l s → IsWellNode (Inner (with_locals e ls) k r) l (renumbered_stmt_node f s)
  stmt_too f e ls c k r u l (block body) h = stmts_too f e ls c k r u l body h
  stmt_too f e ls c k r u l (declare n init) h = declared_too f e ls c k r u l n init h
  stmt_too f e ls c k r u l (if_ (at p t x) (at_stmt q s)) h = (node_too f e ls c t x h.0, h.1, stmt_too f e ls c k r u l s h.2, no_declaration_too f (at_stmt q s) h.3)
  stmt_too f e ls c k r u l (if_else (at p t x) (at_stmt q s) (at_stmt o z)) h =
      (node_too f e ls c t x h.0, h.1, stmt_too f e ls c k r u l s h.2, no_declaration_too f (at_stmt q s) h.3, stmt_too f e ls c k r u l z h.4, no_declaration_too f (at_stmt o z) h.5)
  stmt_too f e ls c k r u l (while_ (at p t x) (at_stmt q s)) h = (node_too f e ls c t x h.0, h.1, stmt_too f e ls c k r u in_loop s h.2, no_declaration_too f (at_stmt q s) h.3)
  stmt_too f e ls c k r u l (for_ (at_stmt p a) x (at_stmt q b) (at_stmt o s)) h =
      (stmt_too f e ls c k r u l a h.0, first_too f (at_stmt p a) h.1, if_too f e ls c IsScalar x h.2, stmt_too f e ls c k r u l b h.3, step_too f (at_stmt q b) h.4, stmt_too f e ls c k r u in_loop s h.5, no_declaration_too f (at_stmt o s) h.6)
  stmt_too f e ls c k r u l (do_while (at_stmt q s) (at p t x)) h = (stmt_too f e ls c k r u in_loop s h.0, no_declaration_too f (at_stmt q s) h.1, node_too f e ls c t x h.2, h.3)
  stmt_too f e ls c k r u l (switch (at p t x) labels body) h =
      (node_too f e ls c t x h.0, h.1, subst (λ n. AllByRecursion (IsLabel t n) labels) (sym (count_too f body)) h.2, h.3, h.4, stmts_too f e ls c k r u (in_switch l) body h.5, no_declarations_too f body h.6)
  stmt_too f e ls c k r u l break_ h = h
  stmt_too f e ls c k r u l continue_ h = h
  stmt_too f e ls c k r u l (return_ value) h = returned_too f e ls c r value h
  stmt_too f e ls c k r u l (assign (at p t x) (at q v y)) h = (node_too f e ls c t x h.0, node_too f e ls c v y h.1, lvalue_too f x h.2, h.3, h.4)
  stmt_too f e ls c k r u l (update (at p t x) op (at q v y)) h = (node_too f e ls c t x h.0, node_too f e ls c v y h.1, lvalue_too f x h.2, h.3)
  stmt_too f e ls c k r u l (evaluate (at p t x)) h = node_too f e ls c t x h
  stmt_too f e ls c k r u l empty h = tt

  pub stmts_too : (f : ℕ → ℕ) (e : form.InScope) (ls : List Local) → Carries f e.locals ls → (k : ℕ) (r : Ty) → Rises f k → (l : Jumps) (ss : Stmts) → AreWell (Inner e k r) l ss → AreWell (Inner (with_locals e ls) k r) l (renumbered_stmts f ss)
  stmts_too f e ls c k r u l no_stmts h = tt
  stmts_too f e ls c k r u l (more_stmts (at_stmt p s) rest) h = (stmt_too f e ls c k r u l s h.0, stmts_too f e ls c k r u l rest h.1)
