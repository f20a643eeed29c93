-- In the code of statements each copy is aligned to 1, 2, 4 or 8 bytes, where types are.
use Rattle.std.proofs.Common.{ℕ, suc, ◌==◌, Bool, true, false, if◌then◌else◌, List, [], ◌∷◌, ◌++◌, Option, Some, None}
use Rattle.ak_words.specs.declared.int_type.IntType.{IntType}
use Rattle.ak_words.specs.declared.operation.Op.{Op}
use Rattle.c_tree.specs.Typed as tree
use Rattle.c_meaning.specs.Values.{is_scalar, is_atomic, operand_types, is_minus}
use Rattle.c_meaning.specs.Switches.{stands_at}
use Rattle.c_meaning.specs.Turns.{is_struct}
use Rattle.struct_ir.specs.Nodes.{Place, Nodes, no_nodes}
use Rattle.lower_forms.specs.Forms.{Frame, looped, switched, opened, again, over_break, over_next, loop_nodes, home, first_temp, behind, reach, is_void, value_nodes, object_place, dropped_nodes, dropped_value, begins, ends, objects_by, objects_in, initialises, store_nodes, copy_nodes, own_register, assign_nodes, number_type, computes, change_nodes, update_nodes, choose_nodes, begin_if, label_nodes, stmt_place, guarded, break_nodes, test_nodes, stmt_nodes, form_nodes, row_nodes, switch_nodes}
use Rattle.alaska_run.proofs.AlignedTypes.{AreTypesAligned}
use Rattle.alaska_run.proofs.AlignedRows.{AreAligned}
use Rattle.alaska_run.proofs.AlignedExprs.{becomes_aligned, expr_aligned, value_aligned, place_aligned, object_aligned, args_aligned}

-- whichever of the two it is
either_aligned : (b : Bool) (m n : Nodes) → AreAligned m → AreAligned n → AreAligned (if b then m else n)
either_aligned true m n h k = h
either_aligned false m n h k = k

-- ---- stack objects

begins_aligned : (place n : ℕ) (o : Option ℕ) (rest : Nodes) → AreAligned rest → AreAligned (begins place n o rest)
begins_aligned place n None rest g = (tt, g)
begins_aligned place n (Some object) rest g = (tt, g)

ends_aligned : (place : ℕ) (objects : List ℕ) (rest : Nodes) → AreAligned rest → AreAligned (ends place objects rest)
ends_aligned place [] rest g = g
ends_aligned place (object ∷ objects) rest g = (tt, ends_aligned place objects rest g)

initialises_aligned : (place : ℕ) (o : Option ℕ) (n t : ℕ) (ty : tree.Ty) (rest : Nodes) → AreAligned rest → AreAligned (initialises place o n t ty rest)
initialises_aligned place None n t ty rest g = (tt, g)
initialises_aligned place (Some object) n t ty rest g = (tt, (tt, g))

-- ---- compound assignments

computes_aligned : (structs : List tree.Layout) (place : ℕ) (op : Op) (u v : tree.Ty) (m n to : ℕ) (rest : Nodes) → AreAligned rest → AreAligned (computes structs place op u v m n to rest)
computes_aligned structs place op (tree.integer u) v m n to rest g =
    let types = operand_types op u (number_type v) in
    becomes_aligned place u types.0 m _ (becomes_aligned place (number_type v) types.1 n _ (tt, becomes_aligned place types.0 u to rest g))
computes_aligned structs place op tree.void v m n to rest g = (tt, g)
computes_aligned structs place op (tree.atomic u) v m n to rest g = (tt, g)
computes_aligned structs place op tree.mutex v m n to rest g = (tt, g)
computes_aligned structs place op (tree.pointer u) v m n to rest g = (tt, g)
computes_aligned structs place op (tree.array u l) v m n to rest g = (tt, g)
computes_aligned structs place op (tree.structure l) v m n to rest g = (tt, g)

module _ (f : Frame) where
  -- ---- values that are dropped

  dropped_object_aligned : (place : ℕ) (ty : tree.Ty) (node : tree.ExprNode) (t : ℕ) (rest : Nodes) (b : Bool)
      → AreAligned rest → AreAligned (if b then value_nodes f place ty node t rest else object_place f place node t rest)
  dropped_object_aligned place ty node t rest b g = either_aligned b _ _ (value_aligned f place ty node t rest g) (object_aligned f place node t rest g)

  mutual
    dropped_aligned : (e : tree.Expr) (t : ℕ) (rest : Nodes) → AreAligned rest → AreAligned (dropped_nodes f e t rest)
    dropped_aligned (tree.at place ty node) t rest g = dropped_value_aligned place ty node t rest g

    dropped_value_aligned : (place : ℕ) (ty : tree.Ty) (node : tree.ExprNode) (t : ℕ) (rest : Nodes) → AreAligned rest → AreAligned (dropped_value f place ty node t rest)
    dropped_value_aligned place ty (tree.literal n) t rest g = dropped_object_aligned place ty (tree.literal n) t rest (is_scalar ty) g
    dropped_value_aligned place ty (tree.global n) t rest g = dropped_object_aligned place ty (tree.global n) t rest (is_scalar ty) g
    dropped_value_aligned place ty (tree.local n) t rest g = dropped_object_aligned place ty (tree.local n) t rest (is_scalar ty) g
    dropped_value_aligned place ty (tree.deref e) t rest g = dropped_object_aligned place ty (tree.deref e) t rest (is_scalar ty) g
    dropped_value_aligned place ty (tree.member e m) t rest g = dropped_object_aligned place ty (tree.member e m) t rest (is_scalar ty) g
    dropped_value_aligned place ty (tree.convert e) t rest g = either_aligned (is_void ty) _ _ (dropped_aligned e t rest g) (value_aligned f place ty (tree.convert e) t rest g)
    dropped_value_aligned place ty (tree.call function es) t rest g = args_aligned f es t _ (tt, g)
    dropped_value_aligned place ty node t rest g = value_aligned f place ty node t rest g

  -- ---- assignments

  store_aligned : (left right : tree.Expr) (t : ℕ) (rest : Nodes) → AreAligned rest → AreAligned (store_nodes f left right t rest)
  store_aligned left right t rest g = place_aligned f left t _ (expr_aligned f right _ _ (tt, g))

  copy_aligned : AreTypesAligned f.structs → (left right : tree.Expr) (t : ℕ) (rest : Nodes) → AreAligned rest → AreAligned (copy_nodes f left right t rest)
  copy_aligned a left right t rest g = place_aligned f left t _ (place_aligned f right _ _ (tt, (a (tree.type_of left), g)))

  assign_aligned : AreTypesAligned f.structs → (place : ℕ) (o : Option ℕ) (left right : tree.Expr) (t : ℕ) (rest : Nodes) → AreAligned rest → AreAligned (assign_nodes f place o left right t rest)
  assign_aligned a place None left right t rest g = either_aligned (is_struct (tree.type_of left)) _ _ (copy_aligned a left right t rest g) (store_aligned left right t rest g)
  assign_aligned a place (Some n) left right t rest g = expr_aligned f right t _ (tt, g)

  change_aligned : (place : ℕ) (away : Bool) (ty : IntType) (p : Place) (u : ℕ) (to : Option ℕ) (rest : Nodes) → AreAligned rest → AreAligned (change_nodes place away ty p u to rest)
  change_aligned place false ty p u to rest g = (tt, g)
  change_aligned place true ty p u to rest g = (tt, (tt, (tt, (tt, (tt, g)))))

  update_aligned : (place : ℕ) (op : Op) (o : Option ℕ) (left right : tree.Expr) (t : ℕ) (rest : Nodes) → AreAligned rest → AreAligned (update_nodes f place op o left right t rest)
  update_aligned place op None left right t rest g =
      place_aligned f left t _ (expr_aligned f right _ _
      (either_aligned (is_atomic (tree.type_of left)) _ _ (change_aligned (tree.place_of left) (is_minus op) _ _ _ None rest g)
      (tt, computes_aligned f.structs place op (tree.type_of left) (tree.type_of right) (suc (behind (reach f left) t)) (behind (reach f left) t) (behind (reach f left) t) _ (tt, g))))
  update_aligned place op (Some n) left right t rest g =
      expr_aligned f right t _ (tt, computes_aligned f.structs place op (tree.type_of left) (tree.type_of right) (suc t) t n rest g)

  -- ---- conditions

  test_aligned : (e : Option tree.Expr) (rest : Nodes) → AreAligned rest → AreAligned (test_nodes f e rest)
  test_aligned None rest g = g
  test_aligned (Some e) rest g = expr_aligned f e (first_temp f) _ ((tt, (tt, tt)), g)

-- ---- breaks, and the labels of a switch

guarded_aligned : (flag : Option ℕ) (place : ℕ) (nodes : Nodes → Nodes) (rest : Nodes) → ((r : Nodes) → AreAligned r → AreAligned (nodes r)) → AreAligned rest → AreAligned (guarded flag place nodes rest)
guarded_aligned None place nodes rest h g = h rest g
guarded_aligned (Some flag) place nodes rest h g = ((h no_nodes tt, tt), g)

break_aligned : (flag : Option ℕ) (place : ℕ) (left : List ℕ) (rest : Nodes) → AreAligned rest → AreAligned (break_nodes flag place left rest)
break_aligned None place left rest g = ends_aligned place left _ (tt, g)
break_aligned (Some flag) place left rest g = (tt, g)

choose_aligned : (place r number : ℕ) (labels : List tree.Label) (rest : Nodes) → AreAligned rest → AreAligned (choose_nodes place r number labels rest)
choose_aligned place r number [] rest g = g
choose_aligned place r number (tree.case_at t z at ∷ labels) rest g = choose_aligned place r (suc number) labels _ (tt, (tt, (((tt, tt), tt), g)))
choose_aligned place r number (tree.default_at at ∷ labels) rest g = choose_aligned place r (suc number) labels rest g

begin_aligned : (here : Bool) (place r number : ℕ) (rest : Nodes) → AreAligned rest → AreAligned (begin_if here place r number rest)
begin_aligned true place r number rest g = (tt, (tt, (((tt, tt), tt), g)))
begin_aligned false place r number rest g = g

labels_aligned : (place r i number : ℕ) (labels : List tree.Label) (rest : Nodes) → AreAligned rest → AreAligned (label_nodes place r i number labels rest)
labels_aligned place r i number [] rest g = g
labels_aligned place r i number (label ∷ labels) rest g = begin_aligned (stands_at label == i) place r number _ (labels_aligned place r i (suc number) labels rest g)

-- ---- statements

loop_aligned : (f : Frame) (place : ℕ) (body : tree.Stmt) (round latch rest : Nodes) → AreAligned round → AreAligned latch → AreAligned rest → AreAligned (loop_nodes f place body round latch rest)
loop_aligned f place body round latch rest h k g = ((h, ends_aligned place (over_next f body) latch k), ends_aligned place (over_break f body) rest g)

mutual
  pub stmt_aligned : (f : Frame) → AreTypesAligned f.structs → (st : tree.Stmt) (left : List ℕ) (rest : Nodes) → AreAligned rest → AreAligned (stmt_nodes f st left rest)
  stmt_aligned f a (tree.at_stmt place node) left rest g = form_aligned f a place node left rest g

  form_aligned : (f : Frame) → AreTypesAligned f.structs → (place : ℕ) (node : tree.StmtNode) (left : List ℕ) (rest : Nodes) → AreAligned rest → AreAligned (form_nodes f place node left rest)
  form_aligned f a place (tree.block body) left rest g =
      row_aligned (opened f (objects_in f body)) a body (again f.outer (objects_in f body) ++ left) _ (ends_aligned place (objects_in f body) rest g)
  form_aligned f a place (tree.declare n None) left rest g = begins_aligned place n (home f n) rest g
  form_aligned f a place (tree.declare n (Some e)) left rest g =
      begins_aligned place n (home f n) _ (expr_aligned f e (first_temp f) _ (initialises_aligned place (home f n) n (first_temp f) (tree.type_of e) rest g))
  form_aligned f a place (tree.if_ e one) left rest g = expr_aligned f e (first_temp f) _ ((stmt_aligned f a one left no_nodes tt, tt), g)
  form_aligned f a place (tree.if_else e one other) left rest g =
      expr_aligned f e (first_temp f) _ ((stmt_aligned f a one left no_nodes tt, stmt_aligned f a other left no_nodes tt), g)
  form_aligned f a place (tree.while_ e body) left rest g =
      loop_aligned (looped f) place body _ no_nodes rest (test_aligned (looped f) (Some e) _ (stmt_aligned (looped f) a body [] no_nodes tt)) tt g
  form_aligned f a place (tree.for_ first e last body) left rest g =
      let inner : Frame = opened f (objects_by f first []) in
      stmt_aligned inner a first left _
      (loop_aligned (looped inner) place body _ _ _ (test_aligned (looped inner) e _ (stmt_aligned (looped inner) a body [] no_nodes tt)) (stmt_aligned (looped inner) a last [] no_nodes tt)
      (ends_aligned place (objects_by f first []) rest g))
  form_aligned f a place (tree.do_while body e) left rest g =
      loop_aligned (looped f) place body _ _ rest (stmt_aligned (looped f) a body [] no_nodes tt) (test_aligned (looped f) (Some e) no_nodes tt) g
  form_aligned f a place (tree.switch e labels body) left rest g =
      expr_aligned f e (suc (suc (first_temp f))) _ (
        tt,
        choose_aligned place (first_temp f) 0 labels _
            (tt, switch_aligned (switched f) a place (first_temp f) labels 0 body left rest g),
      )
  form_aligned f a place tree.break_ left rest g = break_aligned f.flag place left rest g
  form_aligned f a place tree.continue_ left rest g = ends_aligned place left _ (tt, g)
  form_aligned f a place (tree.return_ None) left rest g = (tt, g)
  form_aligned f a place (tree.return_ (Some e)) left rest g = expr_aligned f e (first_temp f) _ (tt, g)
  form_aligned f a place (tree.assign d e) left rest g = assign_aligned f a place (own_register f (tree.node_of d)) d e (first_temp f) rest g
  form_aligned f a place (tree.update d op e) left rest g = update_aligned f place op (own_register f (tree.node_of d)) d e (first_temp f) rest g
  form_aligned f a place (tree.evaluate e) left rest g = dropped_aligned f e (first_temp f) rest g
  form_aligned f a place tree.empty left rest g = g

  pub row_aligned : (f : Frame) → AreTypesAligned f.structs → (body : tree.Stmts) (left : List ℕ) (rest : Nodes) → AreAligned rest → AreAligned (row_nodes f body left rest)
  row_aligned f a tree.no_stmts left rest g = g
  row_aligned f a (tree.more_stmts st body) left rest g =
      guarded_aligned f.flag (stmt_place st) (stmt_nodes f st left) _ (λ r q. stmt_aligned f a st left r q) (row_aligned f a body left rest g)

  switch_aligned : (f : Frame) → AreTypesAligned f.structs → (place r : ℕ) (labels : List tree.Label) (i : ℕ) (body : tree.Stmts) (left : List ℕ) (rest : Nodes)
      → AreAligned rest → AreAligned (switch_nodes f place r labels i body left rest)
  switch_aligned f a place r labels i tree.no_stmts left rest g = g
  switch_aligned f a place r labels i (tree.more_stmts st body) left rest g =
      labels_aligned place r i 0 labels _ ((stmt_aligned f a st left no_nodes tt, tt), switch_aligned f a place r labels (suc i) body left rest g)
