-- The code of a statement does what the statement does.
use Rattle.std.specs.List.{AllByRecursion}
use Rattle.ak_words.specs.declared.int_type.IntType.{IntType}
use Rattle.block_store.specs.declared.values.Access.TheVariants as accesses
use Rattle.std.proofs.Common.{◌≡◌, ℕ, zero, suc, ◌+◌, ◌≤◌, add-zero, max, Bool, true, false, List, [], ◌∷◌, ◌++◌, length, Option, Some, None, refl, sym, ap, subst, ◌∙◌, arith, if◌then◌else◌}
use Rattle.std.specs.Prelude.{slice_get}
use Rattle.ak_words.specs.declared.operation.Op.{Op}
use Rattle.block_store.specs.Blocks.{Blocks}
use Rattle.c_tree.specs.Typed as tree
use Rattle.c_tree.specs.TypedForm.{Jumps, in_function, in_loop, in_switch, IsSwitched, IsLabel, stmts_count, IsScalar, IsTyped, IsTypedNode, Converts, IsLocal, IsFunc, type_of_result, AreArguments, Signature, signature_of, IsWell, IsWellNode, AreWell, IsFirst, IsStep}
use Rattle.c_meaning.specs.Values.{access_of_type, is_scalar}
use Rattle.c_meaning.specs.Control.{Variable, dropped, function, library}
use Rattle.c_meaning.specs.Turns.{Way, run, run_node, run_place_node, run_dropped, run_dropped_node, drops_object, nowhere_way, caller_way, returns, if_way, end_way, loop_way, row_way, run_stmt, run_stmt_node, run_row, while_loop, for_loop, do_loop, leaving, switch_way, switch_test_way, run_from, nothing, declared, declared_by, with_declared, declares}
use Rattle.struct_ir.specs.Nodes as ir
use Rattle.struct_ir.specs.Nodes.{Nodes, no_nodes, more_nodes}
use Rattle.struct_ir.specs.Structured.{Position, then_, end_of}
use Rattle.struct_ir.specs.meaning.Blocks.{Held}
use Rattle.lower_forms.specs.Counts.{count, greatest, greatest_in, greatest_row, count_if}
use Rattle.lower_forms.specs.Forms as forms
use Rattle.lower_forms.specs.Forms.{opened, looped, among, again, held, held_by, held_in, with_home, loop_nodes, test_nodes, pointed, pointed_in, reach_in, branches, expr_nodes, value_nodes, object_place, dropped_nodes, dropped_value, dropped_object, return_nodes, ends, objects_in, objects_by, stmt_nodes, form_nodes, row_nodes}
use Rattle.lower_forms.specs.Programs.{homes_from, lowered}
use Rattle.c_meaning.specs.Switches.{starts_at}
use Rattle.lower_turns.proofs.Relation.{HasValues, ctx, inside, Calls, Free, in_step, IsPast, Room, RoomOf, RoomRow, bare, jumps_of, body_nodes, latch_nodes, loop_behind, LoopIs, IsPlace, none_yet, homes_of}
use Rattle.lower_turns.proofs.Operands.{pointer_scalar, integer_scalar, sized_pointer, moved_pointer, operand_scalars, fits_access, scalar_values, argument_scalars, lib_scalars}
use Rattle.lower_turns.proofs.Steps.{goes_next}
use Rattle.lower_turns.proofs.Setting.{Stands, IsOpen, body_in, step_in, Setting, here, now, own, Alike, frame, start, GoesS, of_kind, objects_over}
use Rattle.lower_turns.proofs.Calls.{all_at, nth_mapped, wait_dropped}
use Rattle.lower_turns.proofs.Locals.{in_memory_home, signature_scalars}
use Rattle.lower_turns.proofs.Exprs.{expr_sim, value_sim, object_sim, args_sim}
use Rattle.lower_turns.proofs.Ends.{blocked_in, opens_block, end_goes, ends_then}
use Rattle.lower_turns.proofs.Rooms.{among_first, among_left, among_right, objects_are, first_objects, by_jumps, none_declared, part_room, switch_room, block_covers, block_room, for_covers, step_declares_none, step_holds_none, first_room, row_first, row_rest, body_room, step_room}
use Rattle.lower_turns.proofs.Assigns.{nowhere_goes}
use Rattle.lower_turns.proofs.Leaves.{caller_goes, returns_none}
use Rattle.lower_turns.proofs.Loops.{one_or_more, SimS, SimRow, stepped, guarded_alike, break_alike, row_goes, if_goes, enters_alike, loop_goes}
use Rattle.lower_turns.proofs.Switches.{inside_switch, SwitchStands, leaves_switch, from_case, SimCases, cases_goes, case_alike, start_alike, before_alike, switch_test_goes}
use Rattle.lower_turns.proofs.Forms.{returned_scalar, declares_none, declares_some, assigns_alike, updates_alike}

-- ---- dropped values

scalar_test : (ty : tree.Ty) → is_scalar ty ≡ true → HasValues ty
scalar_test (tree.integer s) e = tt
scalar_test (tree.atomic s) e = tt
scalar_test (tree.pointer u) e = tt
scalar_test ty e = absurd cc

no_scalar : (ty : tree.Ty) → is_scalar ty ≡ false → IsScalar ty → ⊥
no_scalar (tree.integer s) e h = absurd cc
no_scalar (tree.atomic s) e h = elim h [ ]
no_scalar (tree.pointer u) e h = absurd cc
no_scalar ty e h = elim h [ ]

result_scalar : (op : Op) (a ty : tree.Ty) → IsScalar a → ty ≡ type_of_result op a → IsScalar ty
result_scalar op (tree.integer x) ty h e = subst IsScalar (sym e) tt
result_scalar op (tree.pointer u) ty h e = subst IsScalar (sym e) tt
result_scalar op a ty h e = elim h [ ]

module _ (g : Setting) (busy : Calls g.t) (io : Jumps) (w : Way) (left : List ℕ) (r : Nodes) (q : Position) (goes : GoesS g io w left r q) (vs : List Variable) (b : Blocks) (tm : ℕ → Held) (ob : ℕ → Option ℕ) (agrees : Stands g vs tm ob) where
  -- a value that is dropped, also one that is read
  read_alike : (place : ℕ) (ty : tree.Ty) (node : tree.ExprNode) → IsTypedNode (ctx g.t g.n g.f) ty node → HasValues ty
      → Alike g (run_node (here g) place ty node (nowhere_way w) (now g vs b)) (then_ (value_nodes (frame g) place ty node (start g) r) q) (own g ob tm b)
  read_alike place ty node h s =
      value_sim g busy place ty node h s vs ob b tm (nowhere_way w) (start g) r q (nowhere_goes g vs ob b tm agrees io w left r q goes (access_of_type ty) (pointed_in (frame g) ty node))

  value_alike : (place : ℕ) (ty : tree.Ty) (node : tree.ExprNode) → IsTypedNode (ctx g.t g.n g.f) ty node → IsScalar ty
      → Alike g (run_node (here g) place ty node (nowhere_way w) (now g vs b)) (then_ (value_nodes (frame g) place ty node (start g) r) q) (own g ob tm b)
  value_alike place ty node h s =
      read_alike place ty node h (scalar_values ty s)

  object_at : (place : ℕ) (ty : tree.Ty) (node : tree.ExprNode) → IsTypedNode (ctx g.t g.n g.f) ty node → (m : Bool) → is_scalar ty ≡ m → (m ≡ false → IsPlace (frame g) node)
      → Alike g (if m then run_node (here g) place ty node (nowhere_way w) (now g vs b) else run_place_node (here g) place node (nowhere_way w) (now g vs b))
      (then_ (if m then value_nodes (frame g) place ty node (start g) r else object_place (frame g) place node (start g) r) q) (own g ob tm b)
  object_at place ty node h true e p = read_alike place ty node h (scalar_test ty e)
  object_at place ty node h false e p =
      object_sim g busy place ty node h (p refl) vs ob b tm (nowhere_way w) (start g) r q (nowhere_goes g vs ob b tm agrees io w left r q goes _ (reach_in (frame g) node))

  object_alike : (place : ℕ) (ty : tree.Ty) (node : tree.ExprNode) → IsTypedNode (ctx g.t g.n g.f) ty node → (is_scalar ty ≡ false → IsPlace (frame g) node)
      → Alike g (drops_object (here g) place ty node w (now g vs b)) (then_ (dropped_object (frame g) place ty node (start g) r) q) (own g ob tm b)
  object_alike place ty node h p = object_at place ty node h (is_scalar ty) refl p

  -- a local that is neither number nor pointer is in memory
  memory_at : (i : ℕ) (l : tree.Local) → slice_get g.f.locals i ≡ Some l → is_scalar l.ty ≡ false → (m : Bool) → l.in_memory ≡ m → IsPlace (frame g) (tree.local i)
  memory_at i l there e true h = in_memory_home g.t g.n g.f g.a i l there h
  memory_at i l there e false h = absurd (no_scalar l.ty e ((all_at (IsLocal g.t.structs) g.f.locals i l g.is_func.locals there).scalar h))

  mutual
    pub dropped_sim : (e : tree.Expr) → IsTyped (ctx g.t g.n g.f) e → Alike g (run_dropped (here g) e w (now g vs b)) (then_ (dropped_nodes (frame g) e (start g) r) q) (own g ob tm b)
    dropped_sim (tree.at place ty node) h = dropped_form place ty node h

    dropped_form : (place : ℕ) (ty : tree.Ty) (node : tree.ExprNode) → IsTypedNode (ctx g.t g.n g.f) ty node → Alike g (run_dropped_node (here g) place ty node w (now g vs b)) (then_ (dropped_value (frame g) place ty node (start g) r) q) (own g ob tm b)
    dropped_form place ty (tree.call m args) h =
        let f = nth_mapped signature_of g.t.funcs m h.1.0 h.1.1 in
        let is = all_at (IsFunc g.t) g.t.funcs m f.0 g.well.funcs f.1 in
        let scalars = argument_scalars (signature_of f.0).params args (signature_scalars g.t f.0 is) (subst (λ (x : Signature). AreArguments x.params args) (sym f.2) h.1.2.0) in
        args_sim g busy args h.0 vs ob b tm place (function m) args [] (dropped w.k) (start g) (start g) ty r q scalars h.1 scalars (wait_dropped (omega arith) goes.at) none_yet agrees
    dropped_form place ty (tree.lib which args) h =
        let scalars = lib_scalars (ctx g.t g.n g.f) which args ty h.1 in
        args_sim g busy args h.0 vs ob b tm place (library which) args [] (dropped w.k) (start g) (start g) ty r q scalars h.1 scalars (wait_dropped (omega arith) goes.at) none_yet agrees
    dropped_form place tree.void (tree.convert e) h = dropped_sim e h.0
    dropped_form place (tree.integer s) (tree.convert e) h = value_alike place (tree.integer s) (tree.convert e) h tt
    dropped_form place (tree.pointer u) (tree.convert e) h = value_alike place (tree.pointer u) (tree.convert e) h tt
    dropped_form place (tree.atomic s) (tree.convert e) h = elim (no_atomic (tree.type_of e) h.1) [ ]
      where
        no_atomic : (ty : tree.Ty) → Converts ty (tree.atomic s) → ⊥
        no_atomic ty k = elim k [ ]
    dropped_form place tree.mutex (tree.convert e) h = elim (no_mutex (tree.type_of e) h.1) [ ]
      where
        no_mutex : (ty : tree.Ty) → Converts ty tree.mutex → ⊥
        no_mutex ty k = elim k [ ]
    dropped_form place (tree.array u n) (tree.convert e) h = elim (no_array (tree.type_of e) h.1) [ ]
      where
        no_array : (ty : tree.Ty) → Converts ty (tree.array u n) → ⊥
        no_array ty k = elim k [ ]
    dropped_form place (tree.structure n) (tree.convert e) h = elim (no_struct (tree.type_of e) h.1) [ ]
      where
        no_struct : (ty : tree.Ty) → Converts ty (tree.structure n) → ⊥
        no_struct ty k = elim k [ ]
    dropped_form place ty (tree.literal i) h = object_alike place ty (tree.literal i) h (λ e. tt)
    dropped_form place ty (tree.global i) h = object_alike place ty (tree.global i) h (λ e. tt)
    dropped_form place ty (tree.local i) h = object_alike place ty (tree.local i) h (λ e. memory_at i h.0 h.1 (ap is_scalar h.2 ∙ e) (h.0).in_memory refl)
    dropped_form place ty (tree.deref e) h = object_alike place ty (tree.deref e) h (λ x. tt)
    dropped_form place ty (tree.member e i) h = object_alike place ty (tree.member e i) h (λ x. tt)
    dropped_form place ty (tree.num x z) h = value_alike place ty (tree.num x z) h (subst IsScalar (sym h.0) tt)
    dropped_form place ty tree.null h = value_alike place ty tree.null h (pointer_scalar ty h)
    dropped_form place ty (tree.address_of e) h = value_alike place ty (tree.address_of e) h (subst IsScalar (sym h.2) tt)
    dropped_form place ty (tree.decay e) h = value_alike place ty (tree.decay e) h (subst IsScalar (sym h.2.3) tt)
    dropped_form place ty (tree.not_ e) h = value_alike place ty (tree.not_ e) h (subst IsScalar (sym h.2) tt)
    dropped_form place ty (tree.binary op x y) h = value_alike place ty (tree.binary op x y) h (result_scalar op (tree.type_of x) ty (operand_scalars op (tree.type_of x) (tree.type_of y) h.2).0 h.3)
    dropped_form place ty (tree.and_also x y) h = value_alike place ty (tree.and_also x y) h (subst IsScalar (sym h.4) tt)
    dropped_form place ty (tree.or_else x y) h = value_alike place ty (tree.or_else x y) h (subst IsScalar (sym h.4) tt)
    dropped_form place ty (tree.choose x y z) h = value_alike place ty (tree.choose x y z) h (integer_scalar ty h.4)
    dropped_form place ty (tree.pointer_add x y) h = value_alike place ty (tree.pointer_add x y) h (pointer_scalar ty (moved_pointer g.t.structs (tree.type_of x) (tree.type_of y) ty h.2))
    dropped_form place ty (tree.pointer_sub x y) h = value_alike place ty (tree.pointer_sub x y) h (subst IsScalar (sym h.4) (pointer_scalar (tree.type_of x) (sized_pointer g.t.structs (tree.type_of x) h.2)))
    dropped_form place ty (tree.pointer_diff x y) h = value_alike place ty (tree.pointer_diff x y) h (subst IsScalar (sym h.4) tt)
    dropped_form place ty (tree.pointer_compare op x y) h = value_alike place ty (tree.pointer_compare op x y) h (subst IsScalar (sym h.5) tt)
    dropped_form place ty (tree.pointer_test e) h = value_alike place ty (tree.pointer_test e) h (subst IsScalar (sym h.2) tt)

-- ---- counts

free_left : (t : tree.Typed) (a c : ℕ) → Free t (max a c) → Free t a
free_left t a c h lt = h (omega (arith, lt))

free_right : (t : tree.Typed) (a c : ℕ) → Free t (max a c) → Free t c
free_right t a c h lt = h (omega (arith, lt))

-- what may stand first in a for, and as its step, breaks out of nothing
first_well : (g : Setting) (io : Jumps) (s : tree.Stmt) → IsFirst s → IsWell (inside g.t g.n g.f) io s → IsWell (inside g.t g.n g.f) in_function s
first_well g io (tree.at_stmt place (tree.declare i init)) f h = h
first_well g io (tree.at_stmt place (tree.assign x y)) f h = h
first_well g io (tree.at_stmt place (tree.update x op y)) f h = h
first_well g io (tree.at_stmt place (tree.evaluate e)) f h = h
first_well g io (tree.at_stmt place tree.empty) f h = h
first_well g io (tree.at_stmt place node) f h = elim f [ ]

step_well : (g : Setting) (io : Jumps) (s : tree.Stmt) → IsStep s → IsWell (inside g.t g.n g.f) io s → IsWell (inside g.t g.n g.f) in_step s
step_well g io (tree.at_stmt place (tree.assign x y)) f h = h
step_well g io (tree.at_stmt place (tree.update x op y)) f h = h
step_well g io (tree.at_stmt place (tree.evaluate e)) f h = h
step_well g io (tree.at_stmt place tree.empty) f h = h
step_well g io (tree.at_stmt place node) f h = elim f [ ]

-- ---- every form

module _ (g : Setting) where
  if_alike : (io : Jumps) (w : Way) (left : List ℕ) (r : Nodes) (q : Position) → GoesS g io w left r q → (e : tree.Expr) (one other : tree.Stmt) → Calls g.t → IsTyped (ctx g.t g.n g.f) e → IsScalar (tree.type_of e)
      → IsWell (inside g.t g.n g.f) io one → IsWell (inside g.t g.n g.f) io other → RoomOf g.t g.n g.f g.a one → RoomOf g.t g.n g.f g.a other → SimS g io one → SimS g io other
      → (vs : List Variable) (b : Blocks) (tm : ℕ → Held) (ob : ℕ → Option ℕ) → Stands g vs tm ob
      → Alike g (run (here g) e (if_way (tree.place_of e) one other (run_stmt (here g) one) (run_stmt (here g) other) w) (now g vs b))
      (then_ (expr_nodes (frame g) e (start g) (branches (tree.place_of e) (start g) (stmt_nodes (frame g) one left no_nodes) (stmt_nodes (frame g) other left no_nodes) r)) q) (own g ob tm b)
  if_alike io w left r q goes e one other busy typed scalar w1 w2 m1 m2 sim1 sim2 vs b tm ob agrees =
      expr_sim g busy e typed scalar vs ob b tm (if_way (tree.place_of e) one other (run_stmt (here g) one) (run_stmt (here g) other) w) (start g)
      (branches (tree.place_of e) (start g) (stmt_nodes (frame g) one left no_nodes) (stmt_nodes (frame g) other left no_nodes) r) q
      (if_goes g io w left r q goes (tree.place_of e) one other w1 w2 m1 m2 sim1 sim2 vs ob b tm agrees (access_of_type (tree.type_of e)) (pointed (frame g) e))

  return_alike : (io : Jumps) (w : Way) (left : List ℕ) (r : Nodes) (q : Position) (place : ℕ) (value : Option tree.Expr) → IsWellNode (inside g.t g.n g.f) io (tree.return_ value) → Free g.t (count_if value)
      → (vs : List Variable) (b : Blocks) (tm : ℕ → Held) (ob : ℕ → Option ℕ) → Stands g vs tm ob → Alike g (returns (here g) value (now g vs b)) (then_ (return_nodes (frame g) place value r) q) (own g ob tm b)
  return_alike io w left r q place None h free vs b tm ob agrees = returns_none g vs ob b tm agrees place r q h
  return_alike io w left r q place (Some e) h free vs b tm ob agrees =
      expr_sim g (free (one_or_more e)) e h.0 (returned_scalar (tree.type_of e) g.f.result h.1 g.is_func.result) vs ob b tm (caller_way (here g)) (start g) (more_nodes (ir.ret place (Some (start g))) r) q
      (of_kind g vs ob b tm (caller_way (here g)) (start g) (access_of_type g.f.result) (access_of_type (tree.type_of e)) (pointed (frame g) e) (more_nodes (ir.ret place (Some (start g))) r) q (sym (fits_access (tree.type_of e) g.f.result h.1))
      (caller_goes g vs ob b tm agrees place (pointed (frame g) e) r q))

  declare_alike : (io : Jumps) (w : Way) (left : List ℕ) (r : Nodes) (q : Position) → GoesS g io w left r q → (place i : ℕ) (init : Option tree.Expr) → IsWellNode (inside g.t g.n g.f) io (tree.declare i init) → IsOpen g i → Free g.t (count_if init)
      → (vs : List Variable) (b : Blocks) (tm : ℕ → Held) (ob : ℕ → Option ℕ) → Stands g vs tm ob
      → Alike g (declares (here g) place i init w (now g vs b)) (then_ (forms.declare_nodes (frame g) place i init r) q) (own g ob tm b)
  declare_alike io w left r q goes place i None h near free vs b tm ob agrees = declares_none g io w left r q goes vs b tm ob agrees place i h.1.0 h.1.1 near
  declare_alike io w left r q goes place i (Some e) h near free vs b tm ob agrees =
      declares_some g io w left r q goes vs b tm ob agrees (free (one_or_more e)) place i h.1.0 e h.1.1 h.1.2.0 h.1.2.1.0 h.1.2.1.1 near

-- no objects and no declarations
no_room : (g : Setting) → Room g.t g.n g.f g.a [] []
no_room g = (λ k e apart. absurd cc, λ k e. absurd cc)

-- a local that is declared has its object around
open_by : (g : Setting) (i : ℕ) → Room g.t g.n g.f g.a [] (i ∷ []) → IsOpen g i
open_by g i room k e = room.1 k (ap (λ (h : Option ℕ). among (with_home h []) k) e ∙ among_first k [])

-- the condition of a do
leaving_sim : (g : Setting) (place : ℕ) → SimS g in_step (leaving place)
leaving_sim g place w left r q goes vs b tm ob agrees = break_alike g in_step w left r q goes refl place vs b tm ob agrees

again_sim : (g : Setting) (e : tree.Expr) → Calls g.t → IsTyped (ctx g.t g.n g.f) e → IsScalar (tree.type_of e)
    → SimS g in_step (tree.at_stmt (tree.place_of e) (tree.if_else e (nothing (tree.place_of e)) (leaving (tree.place_of e))))
again_sim g e busy typed scalar w left r q goes vs b tm ob agrees =
    if_alike g in_step w left r q goes e (nothing (tree.place_of e)) (leaving (tree.place_of e)) busy typed scalar tt refl (no_room g) (no_room g) (λ x l n p k xs c a o z. k.end xs c a o z) (leaving_sim g (tree.place_of e)) vs b tm ob agrees

switched_type : (ty : tree.Ty) → IsSwitched ty → (s : IntType) × (ty ≡ tree.integer s)
switched_type (tree.integer s) h = (s, refl)
switched_type ty h = elim h [ ]

pub sum_zero : (k : ℕ) → k ≡ 0 + k
sum_zero k = omega arith

-- the objects of a block, and those of the first clause of a for
abbrev block_homes : Setting → tree.Stmts → List ℕ
block_homes g body = homes_of (homes_from 0 g.f.locals) (declared body)

abbrev first_homes : Setting → tree.Stmt → List ℕ
first_homes g first = homes_of (homes_from 0 g.f.locals) (declared_by first [])

-- a block, whose objects end behind it
block_alike : (g : Setting) (body : tree.Stmts) (place : ℕ) (io : Jumps) → SimRow (blocked_in g (block_homes g body)) io body → Room g.t g.n g.f g.a (held_in (bare g.t g.n g.f) body ++ objects_in (bare g.t g.n g.f) body) []
    → (w : Way) (left : List ℕ) (r : Nodes) (q : Position) → GoesS g io w left r q → (vs : List Variable) (b : Blocks) (tm : ℕ → Held) (ob : ℕ → Option ℕ) → Stands g vs tm ob
    → Alike g (run_row (here g) body (end_way (declared body) w) (now g vs b))
    (then_ (row_nodes (opened (frame g) (objects_in (frame g) body)) body (again g.a.outer (objects_in (frame g) body) ++ left) (ends place (objects_in (frame g) body) r)) q) (own g ob tm b)
block_alike g body place io sim room w left r q goes vs b tm ob agrees =
    let mine : List ℕ = block_homes g body in
    subst (λ (js : List ℕ). Alike g (run_row (here g) body (end_way (declared body) w) (now g vs b)) (then_ (row_nodes (opened (frame g) js) body (again g.a.outer js ++ left) (ends place js r)) q) (own g ob tm b)) (objects_are (frame g) body)
    (sim (end_way (declared body) w) (again g.a.outer mine ++ left) (ends place mine r) q
    (end_goes g io w left r q goes place (declared body) (block_covers g.t g.n g.f g.a body room)) vs b tm ob (opens_block g mine vs tm ob agrees))

for_is : (g : Setting) (place : ℕ) (io : Jumps) (first step body : tree.Stmt) (e : Option tree.Expr) → IsWellNode (inside g.t g.n g.f) io (tree.for_ first e step body) → Free g.t (count_if e) → Free g.t (greatest step) → Free g.t (greatest body)
    → LoopIs g.t g.n g.f (for_loop e step body)
for_is g place io first step body e h f_test f_step f_body = record {
  condition = h.2;
  step = step_well g io step h.4 h.3;
  body = by_jumps (inside g.t g.n g.f) in_loop (jumps_of g.t g.n g.f body) body h.5 (λ z. z) (λ z. z);
  step_holds = step_holds_none g.t g.n g.f step h.4;
  step_declares = step_declares_none g.t g.n g.f step h.4;
  body_declares = none_declared body h.6;
  free_condition = f_test;
  free_step = f_step;
  free_body = f_body;
}

-- a for, whose first clause's objects end behind it
for_alike : (g : Setting) (place : ℕ) (io : Jumps) (first step body : tree.Stmt) (e : Option tree.Expr) → LoopIs g.t g.n g.f (for_loop e step body) → Room g.t g.n g.f g.a (objects_by (bare g.t g.n g.f) first []) []
    → SimS (blocked_in g (first_homes g first)) in_function first → SimS (step_in (blocked_in g (first_homes g first))) in_step step
    → SimS (body_in (blocked_in g (first_homes g first)) (for_loop e step body)) (jumps_of g.t g.n g.f body) body
    → (w : Way) (left : List ℕ) (r : Nodes) (q : Position) → GoesS g io w left r q → (vs : List Variable) (b : Blocks) (tm : ℕ → Held) (ob : ℕ → Option ℕ) → Stands g vs tm ob
    → Alike g (run_stmt_node (here g) place (tree.for_ first e step body) w (now g vs b)) (then_ (form_nodes (frame g) place (tree.for_ first e step body) left r) q) (own g ob tm b)
for_alike g place io first step body e is room sim_first sim_step sim_body w left r q goes vs b tm ob agrees =
    let mine : List ℕ = first_homes g first in
    let in_it : Setting = blocked_in g mine in
    let outside = loop_way (here g) (for_loop e step body) (run_stmt (here g) body) (run_stmt (here g) step) (end_way (declared_by first []) w) in
    subst (λ (js : List ℕ). Alike g (run_stmt (here g) first outside (now g vs b)) (then_ (stmt_nodes (opened (frame g) js) first left (loop_nodes (looped (opened (frame g) js)) place body
    (test_nodes (looped (opened (frame g) js)) e (stmt_nodes (looped (opened (frame g) js)) body [] no_nodes)) (stmt_nodes (looped (opened (frame g) js)) step [] no_nodes) (ends place js r))) q) (own g ob tm b)) (first_objects (frame g) first)
    (sim_first outside left
    (more_nodes (ir.loop place (body_nodes g.t g.n g.f in_it.a (for_loop e step body)) (latch_nodes g.t g.n g.f in_it.a place (for_loop e step body))) (loop_behind g.t g.n g.f in_it.a place (for_loop e step body) (ends place mine r))) q
    (loop_goes in_it io (end_way (declared_by first []) w) (again g.a.outer mine ++ left) (ends place mine r) q (end_goes g io w left r q goes place (declared_by first []) (for_covers g.t g.n g.f g.a first room))
    (for_loop e step body) is place sim_step sim_body left) vs b tm ob (opens_block g mine vs tm ob agrees))

mutual
  pub stmt_sim : (g : Setting) (s : tree.Stmt) (io : Jumps) → IsWell (inside g.t g.n g.f) io s → RoomOf g.t g.n g.f g.a s → Free g.t (greatest s) → SimS g io s
  stmt_sim g (tree.at_stmt place node) io h room free w left r q goes vs b tm ob agrees = form_sim g node place io h room free w left r q goes vs b tm ob agrees

  pub form_sim : (g : Setting) (node : tree.StmtNode) (place : ℕ) (io : Jumps) → IsWellNode (inside g.t g.n g.f) io node → Room g.t g.n g.f g.a (held_by (bare g.t g.n g.f) node) (with_declared node []) → Free g.t (greatest_in node)
      → (w : Way) (left : List ℕ) (r : Nodes) (q : Position) → GoesS g io w left r q → (vs : List Variable) (b : Blocks) (tm : ℕ → Held) (ob : ℕ → Option ℕ) → Stands g vs tm ob
      → Alike g (run_stmt_node (here g) place node w (now g vs b)) (then_ (form_nodes (frame g) place node left r) q) (own g ob tm b)
  form_sim g (tree.block body) place io h room free w left r q goes vs b tm ob agrees =
      block_alike g body place io (row_sim (blocked_in g (block_homes g body)) body io h (block_room g.t g.n g.f g.a body room) free) room w left r q goes vs b tm ob agrees
  form_sim g (tree.declare i init) place io h room free w left r q goes vs b tm ob agrees = declare_alike g io w left r q goes place i init h (open_by g i room) free vs b tm ob agrees
  form_sim g (tree.if_ e one) place io h room free w left r q goes vs b tm ob agrees =
      let busy = free_left g.t (count e) (greatest one) free (one_or_more e) in
      if_alike g io w left r q goes e one (nothing place) busy h.0 h.1 h.2 tt (part_room g.t g.n g.f g.a one (held (bare g.t g.n g.f) one) h.3 (λ k z. z) room) (no_room g)
      (stmt_sim g one io h.2 (part_room g.t g.n g.f g.a one (held (bare g.t g.n g.f) one) h.3 (λ k z. z) room) (free_right g.t (count e) (greatest one) free)) (λ x l n p k xs c a o z. k.end xs c a o z) vs b tm ob agrees
  form_sim g (tree.if_else e one other) place io h room free w left r q goes vs b tm ob agrees =
      let busy = free_left g.t (count e) (max (greatest one) (greatest other)) free (one_or_more e) in
      let rest = free_right g.t (count e) (max (greatest one) (greatest other)) free in
      let frame_is = bare g.t g.n g.f in
      let objects = held frame_is one ++ held frame_is other in
      let m1 = part_room g.t g.n g.f g.a one objects h.3 (λ k z. among_left (held frame_is one) (held frame_is other) k z) room in
      let m2 = part_room g.t g.n g.f g.a other objects h.5 (λ k z. among_right (held frame_is one) (held frame_is other) k z) room in
      if_alike g io w left r q goes e one other busy h.0 h.1 h.2 h.4 m1 m2
      (stmt_sim g one io h.2 m1 (free_left g.t (greatest one) (greatest other) rest)) (stmt_sim g other io h.4 m2 (free_right g.t (greatest one) (greatest other) rest)) vs b tm ob agrees
  form_sim g (tree.while_ e body) place io h room free w left r q goes vs b tm ob agrees =
      let is : LoopIs g.t g.n g.f (while_loop place e body) = record {
        condition = (h.0, h.1);
        step = tt;
        body = by_jumps (inside g.t g.n g.f) in_loop (jumps_of g.t g.n g.f body) body h.2 (λ z. z) (λ z. z);
        step_holds = refl;
        step_declares = refl;
        body_declares = none_declared body h.3;
        free_condition = free_left g.t (count e) (greatest body) free;
        free_step = λ lt. absurd (omega (arith, lt));
        free_body = free_right g.t (count e) (greatest body) free;
      } in
      enters_alike g io w left r q goes (while_loop place e body) is place (λ x l n p k xs c a o z. k.end xs c a o z)
      (stmt_sim (body_in g (while_loop place e body)) body (jumps_of g.t g.n g.f body) is.body (body_room g.t g.n g.f g.a (while_loop place e body) is) (free_right g.t (count e) (greatest body) free)) vs b tm ob agrees
  form_sim g (tree.for_ first e step body) place io h room free w left r q goes vs b tm ob agrees =
      let f_first = free_left g.t (greatest first) (count_if e) (free_left g.t (max (greatest first) (count_if e)) (max (greatest step) (greatest body)) free) in
      let f_test = free_right g.t (greatest first) (count_if e) (free_left g.t (max (greatest first) (count_if e)) (max (greatest step) (greatest body)) free) in
      let f_rest = free_right g.t (max (greatest first) (count_if e)) (max (greatest step) (greatest body)) free in
      let f_step = free_left g.t (greatest step) (greatest body) f_rest in
      let f_body = free_right g.t (greatest step) (greatest body) f_rest in
      let is = for_is g place io first step body e h f_test f_step f_body in
      let in_it : Setting = blocked_in g (first_homes g first) in
      for_alike g place io first step body e is room
      (stmt_sim in_it first in_function (first_well g io first h.1 h.0) (first_room g.t g.n g.f g.a first h.1) f_first)
      (stmt_sim (step_in in_it) step in_step is.step (step_room g.t g.n g.f in_it.a (for_loop e step body) is) f_step)
      (stmt_sim (body_in in_it (for_loop e step body)) body (jumps_of g.t g.n g.f body) is.body (body_room g.t g.n g.f in_it.a (for_loop e step body) is) f_body) w left r q goes vs b tm ob agrees
  form_sim g (tree.do_while body e) place io h room free w left r q goes vs b tm ob agrees =
      let f_test = free_left g.t (count e) (greatest body) free in
      let f_body = free_right g.t (count e) (greatest body) free in
      let is : LoopIs g.t g.n g.f (do_loop body e) = record {
        condition = tt;
        step = (h.2, h.3, tt, tt, refl, tt);
        body = by_jumps (inside g.t g.n g.f) in_loop (jumps_of g.t g.n g.f body) body h.0 (λ z. z) (λ z. z);
        step_holds = refl;
        step_declares = refl;
        body_declares = none_declared body h.1;
        free_condition = λ lt. absurd (omega (arith, lt));
        free_step = λ lt. f_test (one_or_more e);
        free_body = f_body;
      } in
      enters_alike g io w left r q goes (do_loop body e) is place (again_sim (step_in g) e (f_test (one_or_more e)) h.2 h.3)
      (stmt_sim (body_in g (do_loop body e)) body (jumps_of g.t g.n g.f body) is.body (body_room g.t g.n g.f g.a (do_loop body e) is) f_body) vs b tm ob agrees
  form_sim g (tree.switch e labels body) place io h room free w left r q goes vs b tm ob agrees =
      let f_test = free_left g.t (count e) (greatest_row body) free in
      let f_body = free_right g.t (count e) (greatest_row body) free in
      let s = switched_type (tree.type_of e) h.1 in
      let all : AllByRecursion (IsLabel (tree.integer s.0) (stmts_count body)) labels = subst (λ (ty : tree.Ty). AllByRecursion (IsLabel ty (stmts_count body)) labels) s.1 h.2 in
      expr_sim g (f_test (one_or_more e)) e h.0 (subst IsScalar (sym s.1) tt) vs ob b tm (switch_test_way labels body (run_from (here g) body) w) (suc (suc (start g))) _ q
      (of_kind g vs ob b tm (switch_test_way labels body (run_from (here g) body) w) (suc (suc (start g))) (accesses.Number s.0) (access_of_type (tree.type_of e)) (pointed (frame g) e) _ q (ap access_of_type (sym s.1))
      (switch_test_goes g io w left r q goes place labels body h.4 s.0 all h.5 (switch_room g.t g.n g.f g.a body h.6 room) f_body
      (λ n low small at at_it. from_sim g n low place labels h.4 small io w left r q goes body h.5 (switch_room g.t g.n g.f g.a body h.6 room) f_body 0 at (at_it ∙ ap Some (sum_zero at))) vs ob b tm agrees (pointed (frame g) e)))
  form_sim g tree.break_ place io h room free w left r q goes vs b tm ob agrees = break_alike g io w left r q goes h place vs b tm ob agrees
  form_sim g tree.continue_ place io h room free w left r q goes vs b tm ob agrees =
      ends_then g (w.continues (now g vs b)) place left (more_nodes (ir.next_ place) r) q (own g ob tm b)
      (stepped g (w.continues (now g vs b)) (then_ (more_nodes (ir.next_ place) r) q) (end_of q) (objects_over left (own g ob tm b)) (objects_over left (own g ob tm b))
      (goes_next (lowered g.t) g.thread g.answer g.cs' g.s place r q (objects_over left (own g ob tm b))) (goes.continues h vs b tm ob agrees))
  form_sim g (tree.return_ value) place io h room free w left r q goes vs b tm ob agrees = return_alike g io w left r q place value h free vs b tm ob agrees
  form_sim g (tree.assign x y) place io h room free w left r q goes vs b tm ob agrees = assigns_alike g io w left r q goes vs b tm ob agrees (free (omega arith)) place x y h.0 h.1 h.2 h.3
  form_sim g (tree.update x op y) place io h room free w left r q goes vs b tm ob agrees = updates_alike g io w left r q goes vs b tm ob agrees (free (omega arith)) place op x y h.0 h.1 h.2 h.3
  form_sim g (tree.evaluate e) place io h room free w left r q goes vs b tm ob agrees = dropped_sim g (free (one_or_more e)) io w left r q goes vs b tm ob agrees e h
  form_sim g tree.empty place io h room free w left r q goes vs b tm ob agrees = goes.end vs b tm ob agrees

  pub row_sim : (g : Setting) (all : tree.Stmts) (io : Jumps) → AreWell (inside g.t g.n g.f) io all → RoomRow g.t g.n g.f g.a all → Free g.t (greatest_row all) → SimRow g io all
  row_sim g tree.no_stmts io h room free w left r q goes vs b tm ob agrees = goes.end vs b tm ob agrees
  row_sim g (tree.more_stmts s rest) io h room free w left r q goes vs b tm ob agrees =
      let more = free_right g.t (greatest s) (greatest_row rest) free in
      guarded_alike g io s (stmt_sim g s io h.0 (row_first g.t g.n g.f g.a s rest room) (free_left g.t (greatest s) (greatest_row rest) free)) (row_way rest (run_row (here g) rest) w) left (row_nodes (frame g) rest left r) q
      (row_goes g io w left r q goes rest h.1 (row_rest g.t g.n g.f g.a s rest room) more (row_sim g rest io h.1 (row_rest g.t g.n g.f g.a s rest room) more)) vs b tm ob agrees

  -- the statements of a switch behind the chosen label, and from it on
  pub cases_sim : (g : Setting) (n : ℕ) (low : length g.f.locals ≤ suc (suc (start g))) (place : ℕ) (labels : List tree.Label) (few : length labels ≤ 1024) (small : n ≤ 1024)
      (io : Jumps) (w : Way) (left : List ℕ) (r : Nodes) (q : Position) (goes : GoesS g io w left r q) (rest : tree.Stmts) → AreWell (inside g.t g.n g.f) (in_switch io) rest → RoomRow g.t g.n g.f g.a rest → Free g.t (greatest_row rest) → (i : ℕ) → IsPast labels n i
      → SimCases g n low place labels few small io w left r q goes i rest
  cases_sim g n low place labels few small io w left r q goes tree.no_stmts h room free i past vs b tm ob stands = goes.end vs b tm ob (leaves_switch g n low 1 vs tm ob stands)
  cases_sim g n low place labels few small io w left r q goes (tree.more_stmts s rest) h room free i past vs b tm ob stands =
      let more = free_right g.t (greatest s) (greatest_row rest) free in
      let next : IsPast labels n (suc i) = let lt = past.past in record { at = past.at; starts = past.starts; past = omega (arith, lt); few = few } in
      case_alike g n low place labels few small io w left r q goes s rest i (stmt_sim (inside_switch g n low) s (in_switch io) h.0 (row_first g.t g.n g.f g.a s rest room) (free_left g.t (greatest s) (greatest_row rest) free))
      (cases_goes g n low place labels few small io w left r q goes (suc i) rest h.1 (row_rest g.t g.n g.f g.a s rest room) more next (cases_sim g n low place labels few small io w left r q goes rest h.1 (row_rest g.t g.n g.f g.a s rest room) more (suc i) next)) past vs b tm ob stands

  pub from_sim : (g : Setting) (n : ℕ) (low : length g.f.locals ≤ suc (suc (start g))) (place : ℕ) (labels : List tree.Label) (few : length labels ≤ 1024) (small : n ≤ 1024)
      (io : Jumps) (w : Way) (left : List ℕ) (r : Nodes) (q : Position) (goes : GoesS g io w left r q) (body : tree.Stmts) → AreWell (inside g.t g.n g.f) (in_switch io) body → RoomRow g.t g.n g.f g.a body → Free g.t (greatest_row body) → (i k : ℕ) → starts_at labels n ≡ Some (i + k)
      → (vs : List Variable) (b : Blocks) (tm : ℕ → Held) (ob : ℕ → Option ℕ) → SwitchStands g n low 0 vs tm ob
      → Alike g (run_from (here g) body k (switch_way w) (now g vs b)) (then_ (from_case g n low place labels few small i body left r) q) (own g ob tm b)
  from_sim g n low place labels few small io w left r q goes tree.no_stmts h room free i k at_it vs b tm ob stands = goes.end vs b tm ob (leaves_switch g n low 0 vs tm ob stands)
  from_sim g n low place labels few small io w left r q goes (tree.more_stmts s rest) h room free i zero at_it vs b tm ob stands =
      let more = free_right g.t (greatest s) (greatest_row rest) free in
      let here_it : starts_at labels n ≡ Some i = at_it ∙ ap Some (add-zero i) in
      let next : IsPast labels n (suc i) = record { at = i; starts = here_it; past = omega arith; few = few } in
      start_alike g n low place labels few small io w left r q goes s rest i (stmt_sim (inside_switch g n low) s (in_switch io) h.0 (row_first g.t g.n g.f g.a s rest room) (free_left g.t (greatest s) (greatest_row rest) free))
      (cases_goes g n low place labels few small io w left r q goes (suc i) rest h.1 (row_rest g.t g.n g.f g.a s rest room) more next (cases_sim g n low place labels few small io w left r q goes rest h.1 (row_rest g.t g.n g.f g.a s rest room) more (suc i) next)) here_it vs b tm ob stands
  from_sim g n low place labels few small io w left r q goes (tree.more_stmts s rest) h room free i (suc k) at_it vs b tm ob stands =
      let next : i + suc k ≡ suc i + k = omega arith in
      before_alike g n low place labels few small io w left r q goes s rest i k at_it
      (from_sim g n low place labels few small io w left r q goes rest h.1 (row_rest g.t g.n g.f g.a s rest room) (free_right g.t (greatest s) (greatest_row rest) free) (suc i) k (at_it ∙ ap Some next)) vs b tm ob stands
