-- Which locals of a function are in memory, and the numbers that all get once the whole body is known.
use Rattle.std.specs.Prelude.{ℕ, ◌+◌, ◌==◌, nat_lt, Bool, true, false, ◌||◌, if◌then◌else◌, List, [], ◌∷◌, ◌++◌, length, map, drop, Option, Some, None}
use Rattle.std.specs.List.{list_any}
use Rattle.std.specs.Option.{option_map}
use Rattle.c_typing.specs.Types.{value_type}
use Rattle.c_tree.specs.Typed.{Ty, atomic, array, structure, mutex, Local, Func, Expr, at, ExprNode, num, null, literal, global, local, deref, member, address_of, decay, convert, not_, binary, and_also, or_else, choose, pointer_add, pointer_sub, pointer_diff, pointer_compare, pointer_test, call, lib, Exprs, no_exprs, more_exprs, Stmt, at_stmt, StmtNode, block, declare, if_, if_else, while_, for_, do_while, switch, break_, continue_, return_, assign, update, evaluate, empty, Stmts, no_stmts, more_stmts}

-- ---- other numbers for the locals of a tree

abbrev mutual
  -- an expression, each of its locals with the number that f gives it
  pub renumbered : (ℕ → ℕ) → Expr → Expr
  renumbered f (at place ty node) = at place ty (renumbered_node f node)

  -- what an expression does, each of its locals with the number that f gives it
  pub renumbered_node : (ℕ → ℕ) → ExprNode → ExprNode
  renumbered_node f (num t value) = num t value
  renumbered_node f null = null
  renumbered_node f (literal n) = literal n
  renumbered_node f (global n) = global n
  renumbered_node f (local n) = local (f n)
  renumbered_node f (deref e) = deref (renumbered f e)
  renumbered_node f (member e m) = member (renumbered f e) m
  renumbered_node f (address_of e) = address_of (renumbered f e)
  renumbered_node f (decay e) = decay (renumbered f e)
  renumbered_node f (convert e) = convert (renumbered f e)
  renumbered_node f (not_ e) = not_ (renumbered f e)
  renumbered_node f (binary op a b) = binary op (renumbered f a) (renumbered f b)
  renumbered_node f (and_also a b) = and_also (renumbered f a) (renumbered f b)
  renumbered_node f (or_else a b) = or_else (renumbered f a) (renumbered f b)
  renumbered_node f (choose e a b) = choose (renumbered f e) (renumbered f a) (renumbered f b)
  renumbered_node f (pointer_add p n) = pointer_add (renumbered f p) (renumbered f n)
  renumbered_node f (pointer_sub p n) = pointer_sub (renumbered f p) (renumbered f n)
  renumbered_node f (pointer_diff p q) = pointer_diff (renumbered f p) (renumbered f q)
  renumbered_node f (pointer_compare op p q) = pointer_compare op (renumbered f p) (renumbered f q)
  renumbered_node f (pointer_test p) = pointer_test (renumbered f p)
  renumbered_node f (call n args) = call n (renumbered_all f args)
  renumbered_node f (lib which args) = lib which (renumbered_all f args)

  -- the arguments of a call, each of their locals with the number that f gives it
  pub renumbered_all : (ℕ → ℕ) → Exprs → Exprs
  renumbered_all f no_exprs = no_exprs
  renumbered_all f (more_exprs e rest) = more_exprs (renumbered f e) (renumbered_all f rest)

-- an expression, if there is one, each of its locals with the number that f gives it
abbrev pub renumbered_if : (ℕ → ℕ) → Option Expr → Option Expr
renumbered_if f None = None
renumbered_if f (Some e) = Some (renumbered f e)

abbrev mutual
  -- a statement, each of its locals with the number that f gives it
  pub renumbered_stmt : (ℕ → ℕ) → Stmt → Stmt
  renumbered_stmt f (at_stmt place node) = at_stmt place (renumbered_stmt_node f node)

  -- what a statement does, each of its locals with the number that f gives it
  pub renumbered_stmt_node : (ℕ → ℕ) → StmtNode → StmtNode
  renumbered_stmt_node f (block body) = block (renumbered_stmts f body)
  renumbered_stmt_node f (declare n init) = declare (f n) (renumbered_if f init)
  renumbered_stmt_node f (if_ e s) = if_ (renumbered f e) (renumbered_stmt f s)
  renumbered_stmt_node f (if_else e s t) = if_else (renumbered f e) (renumbered_stmt f s) (renumbered_stmt f t)
  renumbered_stmt_node f (while_ e s) = while_ (renumbered f e) (renumbered_stmt f s)
  renumbered_stmt_node f (for_ first e step s) = for_ (renumbered_stmt f first) (renumbered_if f e) (renumbered_stmt f step) (renumbered_stmt f s)
  renumbered_stmt_node f (do_while s e) = do_while (renumbered_stmt f s) (renumbered f e)
  renumbered_stmt_node f (switch e labels body) = switch (renumbered f e) labels (renumbered_stmts f body)
  renumbered_stmt_node f break_ = break_
  renumbered_stmt_node f continue_ = continue_
  renumbered_stmt_node f (return_ value) = return_ (renumbered_if f value)
  renumbered_stmt_node f (assign left right) = assign (renumbered f left) (renumbered f right)
  renumbered_stmt_node f (update left op right) = update (renumbered f left) op (renumbered f right)
  renumbered_stmt_node f (evaluate e) = evaluate (renumbered f e)
  renumbered_stmt_node f empty = empty

  -- statements in a row, each of their locals with the number that f gives it
  pub renumbered_stmts : (ℕ → ℕ) → Stmts → Stmts
  renumbered_stmts f no_stmts = no_stmts
  renumbered_stmts f (more_stmts s rest) = more_stmts (renumbered_stmt f s) (renumbered_stmts f rest)

-- ---- a function's locals

-- a parameter of a function: the place of its name, and the type with which it is declared
pub record Param : Type 0 where
  pub place : ℕ
  pub ty : Ty

-- the type that a parameter's argument has: of an atomic number the number's
abbrev pub passed_type : Param → Ty
passed_type p = value_type p.ty

-- arrays, structs, mutexes and atomic numbers are in memory, and so is a local whose address is taken
abbrev pub is_block : Ty → Bool
is_block (array t n) = true
is_block (structure n) = true
is_block mutex = true
is_block (atomic t) = true
is_block t = false

-- a number is one of these
abbrev pub is_in : ℕ → List ℕ → Bool
is_in n ns = list_any (λ m. n == m) ns

-- the parameters that are in memory, since they are atomic or their address is taken, by number from k on
abbrev pub addressed_params : (k : ℕ) → List Param → (addressed : List ℕ) → List (ℕ × Param)
addressed_params k [] addressed = []
addressed_params k (p ∷ ps) addressed =
    if is_block p.ty || is_in k addressed then (k, p) ∷ addressed_params (1 + k) ps addressed else addressed_params (1 + k) ps addressed

-- the place of a number among those of the parameters that are in memory
abbrev pub place_among : ℕ → List (ℕ × Param) → Option ℕ
place_among n [] = None
place_among n ((k, p) ∷ rest) = if n == k then Some 0 else option_map (λ i. 1 + i) (place_among n rest)

-- a parameter that is in memory means a further local, which stands behind the parameters; the other locals behind those
abbrev pub or_number : (params further n : ℕ) → Option ℕ → ℕ
or_number params further n (Some i) = params + i
or_number params further n None = if nat_lt n params then n else n + further

-- the number that local n gets, in a function of so many parameters of which these are in memory
abbrev pub number_of : (params : ℕ) → List (ℕ × Param) → ℕ → ℕ
number_of params further n = or_number params (length further) n (place_among n further)

-- locals of these types, by number from k on: each is in memory if its type makes it a block, or its address is taken
abbrev pub locals_from : (k : ℕ) → (addressed : List ℕ) → List Ty → List Local
locals_from k addressed [] = []
locals_from k addressed (t ∷ ts) = record { ty = t; in_memory = is_block t || is_in k addressed } ∷ locals_from (1 + k) addressed ts

-- the body begins with a declaration of each further local, from its parameter, at the place of that one's name
abbrev pub copies : (params i : ℕ) → List (ℕ × Param) → Stmts → Stmts
copies params i [] body = body
copies params i ((k, p) ∷ rest) body =
    more_stmts (at_stmt p.place (declare (params + i) (Some (at p.place (passed_type p) (local k))))) (copies params (1 + i) rest body)

-- a function of these parameters, whose locals have these types, the parameters' first, and whose address is taken of these
abbrev pub func_of : List Param → (locals : List Ty) → (addressed : List ℕ) → (result : Ty) → Stmts → Func
func_of params locals addressed result body =
    let n = length params in
    let further = addressed_params 0 params addressed in
    record {
      params = n;
      locals = map (λ (p : Param). record { ty = passed_type p; in_memory = false }) params
          ++ map (λ (x : ℕ × Param). record { ty = x.1.ty; in_memory = true }) further
          ++ locals_from n addressed (drop n locals);
      result = result;
      body = copies n 0 further (renumbered_stmts (number_of n further) body);
    }
