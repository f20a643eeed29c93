-- The code of statements is not deep.
use Rattle.std.proofs.Common.{ℕ, suc, ◌*◌, ◌==◌, ℤ, Bool, true, false, List, [], ◌∷◌, ◌++◌, Option, Some, None, arith}
use Rattle.std.specs.Prelude.{max}
use Rattle.ak_words.specs.declared.int_type.IntType.{IntType}
use Rattle.ak_words.specs.declared.operation.Op.{Op}
use Rattle.c_tree.specs.Typed as tree
use Rattle.c_meaning.specs.Values.{is_atomic, operand_types, is_minus}
use Rattle.c_meaning.specs.Switches.{stands_at}
use Rattle.c_meaning.specs.Turns.{is_struct}
use Rattle.struct_ir.specs.Nodes.{Place, Nodes, no_nodes, more_nodes, loop, break_, next_, ret}
use Rattle.lower_forms.specs.Forms.{opened, again, over_break, over_next, loop_nodes, Frame, home, looped, switched, first_temp, begins, ends, objects_by, objects_in, initialises, store_nodes, copy_nodes, own_register, assign_nodes, number_type, computes, change_nodes, update_by, update_nodes, equal_nodes, choose_nodes, begin_if, label_nodes, stmt_place, guarded, break_nodes, test_nodes, declare_nodes, return_nodes, stmt_nodes, form_nodes, row_nodes, switch_nodes}
use Rattle.lower_forms.specs.Sizes.{expr_depth, depth_if, stmt_depth, stmt_inside, row_depth}
use Rattle.lower_forms.proofs.DeepExprs.{NoDeeper, deep_step, deep_weak, deep_same, deep_one, deep_branch, deep_either, deep_becomes, deep_expr, deep_place, deep_dropped}

deep_loop : (place : ℕ) (body latch rest : Nodes) (a b : ℕ) → NoDeeper body a no_nodes → NoDeeper latch b no_nodes → NoDeeper (more_nodes (loop place body latch) rest) (suc (max a b)) rest
deep_loop place body latch rest a b h k = record { most = omega (arith, h.most, k.most) }

deep_break : (place : ℕ) (rest : Nodes) → NoDeeper (more_nodes (break_ place) rest) 1 rest
deep_break place rest = record { most = omega arith }

deep_next : (place : ℕ) (rest : Nodes) → NoDeeper (more_nodes (next_ place) rest) 1 rest
deep_next place rest = record { most = omega arith }

deep_ret : (place : ℕ) (t : Option ℕ) (rest : Nodes) → NoDeeper (more_nodes (ret place t) rest) 1 rest
deep_ret place t rest = record { most = omega arith }

deep_begins : (place n : ℕ) (o : Option ℕ) (rest : Nodes) → NoDeeper (begins place n o rest) 1 rest
deep_begins place n None rest = deep_one _ _ _
deep_begins place n (Some k) rest = deep_one _ _ _

deep_ends : (place : ℕ) (ks : List ℕ) (rest : Nodes) → NoDeeper (ends place ks rest) 1 rest
deep_ends place [] rest = deep_weak _ _ _ _ (deep_same _) (omega arith)
deep_ends place (k ∷ ks) rest = deep_weak _ _ _ _ (deep_step _ _ _ _ _ (deep_one _ _ _) (deep_ends place ks rest)) (omega arith)

deep_initialises : (place : ℕ) (o : Option ℕ) (n t : ℕ) (ty : tree.Ty) (rest : Nodes) → NoDeeper (initialises place o n t ty rest) 1 rest
deep_initialises place None n t ty rest = deep_one _ _ _
deep_initialises place (Some k) n t ty rest = deep_weak _ _ _ _ (deep_step _ _ _ _ _ (deep_one _ _ _) (deep_one _ _ _)) (omega arith)

deep_computes : (structs : List tree.Layout) (place : ℕ) (op : Op) (u v : tree.Ty) (m n to : ℕ) (rest : Nodes) → NoDeeper (computes structs place op u v m n to rest) 1 rest
deep_computes structs place op tree.void v m n to rest = deep_one _ _ _
deep_computes structs place op (tree.integer u) v m n to rest =
    let types = operand_types op u (number_type v) in
    deep_weak _ _ _ _ (deep_step _ _ _ _ _ (deep_becomes place u types.0 m _) (deep_step _ _ _ _ _ (deep_becomes place (number_type v) types.1 n _)
    (deep_step _ _ _ _ _ (deep_one _ _ _) (deep_becomes place types.0 u to rest)))) (omega arith)
deep_computes structs place op (tree.atomic u) v m n to rest = deep_one _ _ _
deep_computes structs place op tree.mutex v m n to rest = deep_one _ _ _
deep_computes structs place op (tree.pointer u) v m n to rest = deep_one _ _ _
deep_computes structs place op (tree.array u l) v m n to rest = deep_one _ _ _
deep_computes structs place op (tree.structure l) v m n to rest = deep_one _ _ _

module _ (f : Frame) where
  deep_store : (left right : tree.Expr) (t : ℕ) (rest : Nodes) → NoDeeper (store_nodes f left right t rest) (max (3 * expr_depth left) (max (3 * expr_depth right) 1)) rest
  deep_store left right t rest = deep_step _ _ _ _ _ (deep_place f left t _) (deep_step _ _ _ _ _ (deep_expr f right _ _) (deep_one _ _ _))

  deep_copy : (left right : tree.Expr) (t : ℕ) (rest : Nodes) → NoDeeper (copy_nodes f left right t rest) (max (3 * expr_depth left) (max (3 * expr_depth right) 1)) rest
  deep_copy left right t rest =
      deep_step _ _ _ _ _ (deep_place f left t _) (deep_step _ _ _ _ _ (deep_place f right _ _) (deep_weak _ _ _ _ (deep_step _ _ _ _ _ (deep_one _ _ _) (deep_one _ _ _)) (omega arith)))

  deep_assign : (place : ℕ) (o : Option ℕ) (left right : tree.Expr) (t : ℕ) (rest : Nodes) → NoDeeper (assign_nodes f place o left right t rest) (max (3 * expr_depth left) (max (3 * expr_depth right) 1)) rest
  deep_assign place None left right t rest = deep_either (is_struct (tree.type_of left)) _ _ _ _ (deep_copy left right t rest) (deep_store left right t rest)
  deep_assign place (Some n) left right t rest = deep_weak _ _ _ _ (deep_step _ _ _ _ _ (deep_expr f right t _) (deep_one _ _ _)) (omega arith)

  deep_change : (place : ℕ) (away : Bool) (ty : IntType) (p : Place) (u : ℕ) (to : Option ℕ) (rest : Nodes) → NoDeeper (change_nodes place away ty p u to rest) 1 rest
  deep_change place false ty p u to rest = deep_one _ _ _
  deep_change place true ty p u to rest =
      deep_weak _ _ _ _ (deep_step _ _ _ _ _ (deep_one _ _ _) (deep_step _ _ _ _ _ (deep_one _ _ _) (deep_step _ _ _ _ _ (deep_one _ _ _) (deep_step _ _ _ _ _ (deep_one _ _ _) (deep_one _ _ _))))) (omega arith)

  deep_by : (place u : ℕ) (op : Op) (p : Place) (left right : tree.Expr) (rest : Nodes) → NoDeeper (update_by f place u op p left right rest) 1 rest
  deep_by place u op p left right rest =
      deep_either (is_atomic (tree.type_of left)) _ _ _ _ (deep_change (tree.place_of left) (is_minus op) _ p u None rest)
      (deep_weak _ _ _ _ (deep_step _ _ _ _ _ (deep_one _ _ _) (deep_step _ _ _ _ _ (deep_computes f.structs place op _ _ _ _ _ _) (deep_one _ _ _))) (omega arith))

  deep_update : (place : ℕ) (op : Op) (o : Option ℕ) (left right : tree.Expr) (t : ℕ) (rest : Nodes) → NoDeeper (update_nodes f place op o left right t rest) (max (3 * expr_depth left) (max (3 * expr_depth right) 1)) rest
  deep_update place op None left right t rest =
      deep_step _ _ _ _ _ (deep_place f left t _) (deep_step _ _ _ _ _ (deep_expr f right _ _) (deep_by place _ op _ left right rest))
  deep_update place op (Some n) left right t rest =
      deep_weak _ _ _ _ (deep_step _ _ _ _ _ (deep_expr f right t _) (deep_step _ _ _ _ _ (deep_one _ _ _) (deep_computes f.structs place op _ _ _ _ _ rest))) (omega arith)

  deep_test : (o : Option tree.Expr) (rest : Nodes) → NoDeeper (test_nodes f o rest) (max (3 * depth_if o) 2) rest
  deep_test None rest = deep_weak _ _ _ _ (deep_same _) (omega arith)
  deep_test (Some e) rest =
      deep_weak _ _ _ _ (deep_step _ _ _ _ _ (deep_expr f e _ _) (deep_branch _ _ _ _ rest _ _ (deep_same _) (deep_break _ no_nodes))) (omega arith)

  deep_declare : (place n : ℕ) (o : Option tree.Expr) (rest : Nodes) → NoDeeper (declare_nodes f place n o rest) (max (3 * depth_if o) 1) rest
  deep_declare place n None rest = deep_weak _ _ _ _ (deep_begins place n (home f n) rest) (omega arith)
  deep_declare place n (Some e) rest =
      deep_weak _ _ _ _ (deep_step _ _ _ _ _ (deep_begins place n (home f n) _) (deep_step _ _ _ _ _ (deep_expr f e _ _) (deep_initialises place (home f n) n _ _ rest))) (omega arith)

  deep_return : (place : ℕ) (o : Option tree.Expr) (rest : Nodes) → NoDeeper (return_nodes f place o rest) (max (3 * depth_if o) 1) rest
  deep_return place None rest = deep_weak _ _ _ _ (deep_ret place None rest) (omega arith)
  deep_return place (Some e) rest = deep_step _ _ _ _ _ (deep_expr f e _ _) (deep_ret place _ rest)

-- ---- the labels of a switch

deep_equal : (place r number : ℕ) (t : IntType) (z : ℤ) (rest : Nodes) → NoDeeper (equal_nodes place r number t z rest) 2 rest
deep_equal place r number t z rest =
    deep_weak _ _ _ _ (deep_step _ _ _ _ _ (deep_one _ _ _) (deep_step _ _ _ _ _ (deep_one _ _ _) (deep_branch _ _ _ _ rest _ _ (deep_one _ _ _) (deep_same _)))) (omega arith)

deep_choose : (place r number : ℕ) (labels : List tree.Label) (rest : Nodes) → NoDeeper (choose_nodes place r number labels rest) 2 rest
deep_choose place r number [] rest = deep_weak _ _ _ _ (deep_same _) (omega arith)
deep_choose place r number (tree.case_at t z at ∷ labels) rest =
    deep_weak _ _ _ _ (deep_step _ _ _ _ _ (deep_choose place r (suc number) labels _) (deep_equal place r number t z rest)) (omega arith)
deep_choose place r number (tree.default_at at ∷ labels) rest = deep_choose place r (suc number) labels rest

deep_begin_if : (here : Bool) (place r number : ℕ) (rest : Nodes) → NoDeeper (begin_if here place r number rest) 2 rest
deep_begin_if true place r number rest =
    deep_weak _ _ _ _ (deep_step _ _ _ _ _ (deep_one _ _ _) (deep_step _ _ _ _ _ (deep_one _ _ _) (deep_branch _ _ _ _ rest _ _ (deep_one _ _ _) (deep_same _)))) (omega arith)
deep_begin_if false place r number rest = deep_weak _ _ _ _ (deep_same _) (omega arith)

deep_labels : (place r i number : ℕ) (labels : List tree.Label) (rest : Nodes) → NoDeeper (label_nodes place r i number labels rest) 2 rest
deep_labels place r i number [] rest = deep_weak _ _ _ _ (deep_same _) (omega arith)
deep_labels place r i number (label ∷ labels) rest =
    deep_weak _ _ _ _ (deep_step _ _ _ _ _ (deep_begin_if (stands_at label == i) place r number _) (deep_labels place r i (suc number) labels rest)) (omega arith)

-- under a flag it's one level deeper
deep_guarded : (flag : Option ℕ) (place : ℕ) (nodes : Nodes → Nodes) (a : ℕ) (rest : Nodes) → ((r : Nodes) → NoDeeper (nodes r) a r) → NoDeeper (guarded flag place nodes rest) (suc a) rest
deep_guarded None place nodes a rest h = deep_weak _ _ _ _ (h rest) (omega arith)
deep_guarded (Some flag) place nodes a rest h = deep_weak _ _ _ _ (deep_branch _ _ _ _ rest _ _ (h no_nodes) (deep_same _)) (omega arith)

deep_break_by : (flag : Option ℕ) (place : ℕ) (left : List ℕ) (rest : Nodes) → NoDeeper (break_nodes flag place left rest) 1 rest
deep_break_by None place left rest = deep_weak _ _ _ _ (deep_step _ _ _ _ _ (deep_ends place left _) (deep_break place rest)) (omega arith)
deep_break_by (Some flag) place left rest = deep_one _ _ _

deep_rounds : (f : Frame) (place : ℕ) (body : tree.Stmt) (round latch rest : Nodes) (a b : ℕ) → NoDeeper round a no_nodes → NoDeeper latch b no_nodes → NoDeeper (loop_nodes f place body round latch rest) (suc (max 1 (max a b))) rest
deep_rounds f place body round latch rest a b h k =
    deep_weak _ _ _ _ (deep_step _ _ _ _ _ (deep_loop place round _ (ends place (over_break f body) rest) _ _ h (deep_step _ _ _ _ _ (deep_ends place (over_next f body) latch) k)) (deep_ends place (over_break f body) rest)) (omega arith)

mutual
  pub deep_stmt : (f : Frame) (st : tree.Stmt) (left : List ℕ) (rest : Nodes) → NoDeeper (stmt_nodes f st left rest) (4 * stmt_depth st) rest
  deep_stmt f (tree.at_stmt place node) left rest = deep_form f place node left rest

  deep_form : (f : Frame) (place : ℕ) (node : tree.StmtNode) (left : List ℕ) (rest : Nodes) → NoDeeper (form_nodes f place node left rest) (4 * suc (stmt_inside node)) rest
  deep_form f place (tree.block body) left rest =
      deep_weak _ _ _ _ (deep_step _ _ _ _ _ (deep_row (opened f (objects_in f body)) body (again f.outer (objects_in f body) ++ left) _) (deep_ends place (objects_in f body) rest)) (omega arith)
  deep_form f place (tree.declare n init) left rest = deep_weak _ _ _ _ (deep_declare f place n init rest) (omega arith)
  deep_form f place (tree.if_ e one) left rest =
      deep_weak _ _ _ _ (deep_step _ _ _ _ _ (deep_expr f e _ _) (deep_branch _ _ _ _ rest _ _ (deep_stmt f one left no_nodes) (deep_same _))) (omega arith)
  deep_form f place (tree.if_else e one other) left rest =
      deep_weak _ _ _ _ (deep_step _ _ _ _ _ (deep_expr f e _ _) (deep_branch _ _ _ _ rest _ _ (deep_stmt f one left no_nodes) (deep_stmt f other left no_nodes))) (omega arith)
  deep_form f place (tree.while_ e body) left rest =
      deep_weak _ _ _ _ (deep_rounds (looped f) place body _ no_nodes rest _ _ (deep_step _ _ _ _ _ (deep_test (looped f) (Some e) _) (deep_stmt (looped f) body [] no_nodes)) (deep_same _)) (omega arith)
  deep_form f place (tree.for_ first e last body) left rest =
      deep_weak _ _ _ _ (deep_step _ _ _ _ _ (deep_stmt (opened f (objects_by f first [])) first left _) (deep_step _ _ _ _ _ (deep_rounds (looped (opened f (objects_by f first []))) place body _ _ _ _ _
      (deep_step _ _ _ _ _ (deep_test (looped (opened f (objects_by f first []))) e _) (deep_stmt (looped (opened f (objects_by f first []))) body [] no_nodes)) (deep_stmt (looped (opened f (objects_by f first []))) last [] no_nodes)) (deep_ends place (objects_by f first []) rest))) (omega arith)
  deep_form f place (tree.do_while body e) left rest =
      deep_weak _ _ _ _ (deep_rounds (looped f) place body _ _ rest _ _ (deep_stmt (looped f) body [] no_nodes) (deep_test (looped f) (Some e) no_nodes)) (omega arith)
  deep_form f place (tree.switch e labels body) left rest =
      deep_weak _ _ _ _ (deep_step _ _ _ _ _ (deep_expr f e _ _) (deep_step _ _ _ _ _ (deep_one _ _ _) (deep_step _ _ _ _ _ (deep_choose place (first_temp f) 0 labels _)
      (deep_step _ _ _ _ _ (deep_one _ _ _) (deep_switch (switched f) place (first_temp f) labels 0 body left rest))))) (omega arith)
  deep_form f place tree.break_ left rest = deep_weak _ _ _ _ (deep_break_by f.flag place left rest) (omega arith)
  deep_form f place tree.continue_ left rest = deep_weak _ _ _ _ (deep_step _ _ _ _ _ (deep_ends place left _) (deep_next place rest)) (omega arith)
  deep_form f place (tree.return_ value) left rest = deep_weak _ _ _ _ (deep_return f place value rest) (omega arith)
  deep_form f place (tree.assign a b) left rest = deep_weak _ _ _ _ (deep_assign f place (own_register f (tree.node_of a)) a b _ rest) (omega arith)
  deep_form f place (tree.update a op b) left rest = deep_weak _ _ _ _ (deep_update f place op (own_register f (tree.node_of a)) a b _ rest) (omega arith)
  deep_form f place (tree.evaluate e) left rest = deep_weak _ _ _ _ (deep_dropped f e _ rest) (omega arith)
  deep_form f place tree.empty left rest = deep_weak _ _ _ _ (deep_same _) (omega arith)

  pub deep_row : (f : Frame) (body : tree.Stmts) (left : List ℕ) (rest : Nodes) → NoDeeper (row_nodes f body left rest) (suc (4 * row_depth body)) rest
  deep_row f tree.no_stmts left rest = deep_weak _ _ _ _ (deep_same _) (omega arith)
  deep_row f (tree.more_stmts st body) left rest =
      deep_weak _ _ _ _ (deep_step _ _ _ _ _ (deep_guarded f.flag (stmt_place st) (stmt_nodes f st left) _ _ (λ r. deep_stmt f st left r)) (deep_row f body left rest)) (omega arith)

  deep_switch : (f : Frame) (place r : ℕ) (labels : List tree.Label) (i : ℕ) (body : tree.Stmts) (left : List ℕ) (rest : Nodes)
      → NoDeeper (switch_nodes f place r labels i body left rest) (max 2 (suc (4 * row_depth body))) rest
  deep_switch f place r labels i tree.no_stmts left rest = deep_weak _ _ _ _ (deep_same _) (omega arith)
  deep_switch f place r labels i (tree.more_stmts st body) left rest =
      deep_weak _ _ _ _ (deep_step _ _ _ _ _ (deep_labels place r i 0 labels _) (deep_step _ _ _ _ _
      (deep_guarded (Some (suc r)) (stmt_place st) (stmt_nodes f st left) _ _ (λ q. deep_stmt f st left q)) (deep_switch f place r labels (suc i) body left rest))) (omega arith)
