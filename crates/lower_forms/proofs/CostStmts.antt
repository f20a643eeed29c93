-- The code of statements is small.
use Rattle.std.proofs.Common.{◌≡◌, ℕ, suc, ◌+◌, ◌*◌, ◌≤◌, ◌==◌, ℤ, Bool, true, false, List, [], ◌∷◌, ◌++◌, length, Option, Some, None, length-append, refl, ap, arith, if◌then◌else◌}
use Rattle.std.proofs.lemmas.Bool.Decides.{nat_tests}
use Rattle.std.specs.Prelude.{nat_le, slice_get}
use Rattle.ak_words.specs.declared.int_type.IntType.{IntType}
use Rattle.ak_words.specs.declared.operation.Op.{Op}
use Rattle.c_tree.specs.Typed as tree
use Rattle.c_meaning.specs.Values.{is_atomic, operand_types, is_minus}
use Rattle.c_meaning.specs.Switches.{stands_at}
use Rattle.c_meaning.specs.Turns.{is_struct}
use Rattle.struct_ir.specs.Nodes.{Place, Nodes, no_nodes, more_nodes, loop, break_, next_, ret}
use Rattle.lower_forms.specs.Forms.{Frame, opened, held, held_by, held_in, among, fresh, again, over_break, over_next, breaks_in, nexts_in, loop_nodes, home, home_or_none, looped, switched, first_temp, begins, ends, with_home, declared_home, home_in, objects_by, objects_in, initialises, store_nodes, copy_nodes, own_register, assign_nodes, number_type, computes, change_nodes, update_by, update_nodes, equal_nodes, choose_nodes, begin_nodes, begin_if, label_nodes, stmt_place, guarded, break_nodes, test_nodes, declare_nodes, return_nodes, stmt_nodes, form_nodes, row_nodes, switch_nodes}
use Rattle.lower_forms.specs.Sizes.{nodes_in, expr_size, size_if, stmt_size, stmt_parts, row_size, one_if, begun, begun_by, begun_in}
use Rattle.lower_forms.proofs.Growth.{times_suc, times_plus, grows_five, grows_eight}
use Rattle.lower_forms.proofs.CostExprs.{AtMost, cost_step, cost_weak, cost_same, cost_one, cost_branch, cost_either, cost_becomes, cost_expr, cost_place, cost_dropped}

cost_loop : (place : ℕ) (body latch rest : Nodes) (a b : ℕ) → AtMost body a no_nodes → AtMost latch b no_nodes → AtMost (more_nodes (loop place body latch) rest) (suc (a + b)) rest
cost_loop place body latch rest a b h k = record { most = omega (arith, h.most, k.most) }

cost_break : (place : ℕ) (rest : Nodes) → AtMost (more_nodes (break_ place) rest) 1 rest
cost_break place rest = record { most = omega arith }

cost_next : (place : ℕ) (rest : Nodes) → AtMost (more_nodes (next_ place) rest) 1 rest
cost_next place rest = record { most = omega arith }

cost_ret : (place : ℕ) (t : Option ℕ) (rest : Nodes) → AtMost (more_nodes (ret place t) rest) 1 rest
cost_ret place t rest = record { most = omega arith }

cost_begins : (place n : ℕ) (o : Option ℕ) (rest : Nodes) → AtMost (begins place n o rest) 1 rest
cost_begins place n None rest = cost_one _ _ _
cost_begins place n (Some k) rest = cost_one _ _ _

cost_ends : (place : ℕ) (ks : List ℕ) (rest : Nodes) → AtMost (ends place ks rest) (length ks) rest
cost_ends place [] rest = cost_same _
cost_ends place (k ∷ ks) rest = cost_weak _ _ _ _ (cost_step _ _ _ _ _ (cost_one _ _ _) (cost_ends place ks rest)) (omega arith)

cost_initialises : (place : ℕ) (o : Option ℕ) (n t : ℕ) (ty : tree.Ty) (rest : Nodes) → AtMost (initialises place o n t ty rest) 2 rest
cost_initialises place None n t ty rest = cost_weak _ _ _ _ (cost_one _ _ _) (omega arith)
cost_initialises place (Some k) n t ty rest = cost_weak _ _ _ _ (cost_step _ _ _ _ _ (cost_one _ _ _) (cost_one _ _ _)) (omega arith)

cost_computes : (structs : List tree.Layout) (place : ℕ) (op : Op) (u v : tree.Ty) (m n to : ℕ) (rest : Nodes) → AtMost (computes structs place op u v m n to rest) 4 rest
cost_computes structs place op tree.void v m n to rest = cost_weak _ _ _ _ (cost_one _ _ _) (omega arith)
cost_computes structs place op (tree.integer u) v m n to rest =
    let types = operand_types op u (number_type v) in
    cost_weak _ _ _ _ (cost_step _ _ _ _ _ (cost_becomes place u types.0 m _) (cost_step _ _ _ _ _ (cost_becomes place (number_type v) types.1 n _)
    (cost_step _ _ _ _ _ (cost_one _ _ _) (cost_becomes place types.0 u to rest)))) (omega arith)
cost_computes structs place op (tree.atomic u) v m n to rest = cost_weak _ _ _ _ (cost_one _ _ _) (omega arith)
cost_computes structs place op tree.mutex v m n to rest = cost_weak _ _ _ _ (cost_one _ _ _) (omega arith)
cost_computes structs place op (tree.pointer u) v m n to rest = cost_weak _ _ _ _ (cost_one _ _ _) (omega arith)
cost_computes structs place op (tree.array u l) v m n to rest = cost_weak _ _ _ _ (cost_one _ _ _) (omega arith)
cost_computes structs place op (tree.structure l) v m n to rest = cost_weak _ _ _ _ (cost_one _ _ _) (omega arith)

module _ (f : Frame) where
  cost_store : (left right : tree.Expr) (t : ℕ) (rest : Nodes) → AtMost (store_nodes f left right t rest) (5 * expr_size left + 5 * expr_size right + 2) rest
  cost_store left right t rest =
      cost_weak _ _ _ _ (cost_step _ _ _ _ _ (cost_place f left t _) (cost_step _ _ _ _ _ (cost_expr f right _ _) (cost_one _ _ _))) (omega arith)

  cost_copy : (left right : tree.Expr) (t : ℕ) (rest : Nodes) → AtMost (copy_nodes f left right t rest) (5 * expr_size left + 5 * expr_size right + 2) rest
  cost_copy left right t rest =
      cost_weak _ _ _ _ (cost_step _ _ _ _ _ (cost_place f left t _) (cost_step _ _ _ _ _ (cost_place f right _ _) (cost_step _ _ _ _ _ (cost_one _ _ _) (cost_one _ _ _)))) (omega arith)

  cost_assign : (place : ℕ) (o : Option ℕ) (left right : tree.Expr) (t : ℕ) (rest : Nodes) → AtMost (assign_nodes f place o left right t rest) (5 * expr_size left + 5 * expr_size right + 2) rest
  cost_assign place None left right t rest = cost_either (is_struct (tree.type_of left)) _ _ _ _ (cost_copy left right t rest) (cost_store left right t rest)
  cost_assign place (Some n) left right t rest = cost_weak _ _ _ _ (cost_step _ _ _ _ _ (cost_expr f right t _) (cost_one _ _ _)) (omega arith)

  cost_change : (place : ℕ) (away : Bool) (ty : IntType) (p : Place) (u : ℕ) (to : Option ℕ) (rest : Nodes) → AtMost (change_nodes place away ty p u to rest) 5 rest
  cost_change place false ty p u to rest = cost_weak _ _ _ _ (cost_one _ _ _) (omega arith)
  cost_change place true ty p u to rest =
      cost_weak _ _ _ _ (cost_step _ _ _ _ _ (cost_one _ _ _) (cost_step _ _ _ _ _ (cost_one _ _ _) (cost_step _ _ _ _ _ (cost_one _ _ _) (cost_step _ _ _ _ _ (cost_one _ _ _) (cost_one _ _ _))))) (omega arith)

  cost_by : (place u : ℕ) (op : Op) (p : Place) (left right : tree.Expr) (rest : Nodes) → AtMost (update_by f place u op p left right rest) 6 rest
  cost_by place u op p left right rest =
      cost_either (is_atomic (tree.type_of left)) _ _ _ _ (cost_weak _ _ _ _ (cost_change (tree.place_of left) (is_minus op) _ p u None rest) (omega arith))
      (cost_weak _ _ _ _ (cost_step _ _ _ _ _ (cost_one _ _ _) (cost_step _ _ _ _ _ (cost_computes f.structs place op _ _ _ _ _ _) (cost_one _ _ _))) (omega arith))

  cost_update : (place : ℕ) (op : Op) (o : Option ℕ) (left right : tree.Expr) (t : ℕ) (rest : Nodes) → AtMost (update_nodes f place op o left right t rest) (5 * expr_size left + 5 * expr_size right + 6) rest
  cost_update place op None left right t rest =
      cost_weak _ _ _ _ (cost_step _ _ _ _ _ (cost_place f left t _) (cost_step _ _ _ _ _ (cost_expr f right _ _) (cost_by place _ op _ left right rest))) (omega arith)
  cost_update place op (Some n) left right t rest =
      cost_weak _ _ _ _ (cost_step _ _ _ _ _ (cost_expr f right t _) (cost_step _ _ _ _ _ (cost_one _ _ _) (cost_computes f.structs place op _ _ _ _ _ rest))) (omega arith)

  cost_test : (o : Option tree.Expr) (rest : Nodes) → AtMost (test_nodes f o rest) (5 * size_if o + 2) rest
  cost_test None rest = cost_weak _ _ _ _ (cost_same _) (omega arith)
  cost_test (Some e) rest =
      cost_weak _ _ _ _ (cost_step _ _ _ _ _ (cost_expr f e _ _) (cost_branch _ _ _ _ rest _ _ (cost_same _) (cost_break _ no_nodes))) (omega arith)

  cost_declare : (place n : ℕ) (o : Option tree.Expr) (rest : Nodes) → AtMost (declare_nodes f place n o rest) (5 * size_if o + 3) rest
  cost_declare place n None rest = cost_weak _ _ _ _ (cost_begins place n (home f n) rest) (omega arith)
  cost_declare place n (Some e) rest =
      cost_weak _ _ _ _ (cost_step _ _ _ _ _ (cost_begins place n (home f n) _) (cost_step _ _ _ _ _ (cost_expr f e _ _) (cost_initialises place (home f n) n _ _ rest))) (omega arith)

  cost_return : (place : ℕ) (o : Option tree.Expr) (rest : Nodes) → AtMost (return_nodes f place o rest) (5 * size_if o + 1) rest
  cost_return place None rest = cost_weak _ _ _ _ (cost_ret place None rest) (omega arith)
  cost_return place (Some e) rest = cost_weak _ _ _ _ (cost_step _ _ _ _ _ (cost_expr f e _ _) (cost_ret place _ rest)) (omega arith)

-- ---- the stack objects that a break can end

abbrev mutual
  -- those that blocks inside a statement begin, by the homes of the locals
  inside : List (Option ℕ) → tree.Stmt → ℕ
  inside homes (tree.at_stmt place node) = inside_by homes node

  inside_by : List (Option ℕ) → tree.StmtNode → ℕ
  inside_by homes (tree.block body) = objects_count homes body + inside_in homes body
  inside_by homes (tree.declare n init) = 0
  inside_by homes (tree.if_ e one) = inside homes one
  inside_by homes (tree.if_else e one other) = inside homes one + inside homes other
  inside_by homes (tree.while_ e body) = inside homes body
  inside_by homes (tree.for_ first e last body) = one_if (home_of homes first) + (inside homes first + (inside homes last + inside homes body))
  inside_by homes (tree.do_while body e) = inside homes body
  inside_by homes (tree.switch e labels body) = inside_in homes body
  inside_by homes tree.break_ = 0
  inside_by homes tree.continue_ = 0
  inside_by homes (tree.return_ value) = 0
  inside_by homes (tree.assign a b) = 0
  inside_by homes (tree.update a op b) = 0
  inside_by homes (tree.evaluate e) = 0
  inside_by homes tree.empty = 0

  inside_in : List (Option ℕ) → tree.Stmts → ℕ
  inside_in homes tree.no_stmts = 0
  inside_in homes (tree.more_stmts st rest) = inside homes st + inside_in homes rest

  -- those of the locals that the statements of a row declare
  objects_count : List (Option ℕ) → tree.Stmts → ℕ
  objects_count homes tree.no_stmts = 0
  objects_count homes (tree.more_stmts st rest) = one_if (home_of homes st) + objects_count homes rest

  home_of : List (Option ℕ) → tree.Stmt → Option ℕ
  home_of homes (tree.at_stmt place node) = home_by homes node

  home_by : List (Option ℕ) → tree.StmtNode → Option ℕ
  home_by homes (tree.declare n init) = home_or_none (slice_get homes n)
  home_by homes node = None

home_by_is : (f : Frame) (node : tree.StmtNode) → home_in f node ≡ home_by f.homes node
home_by_is f (tree.block body) = refl
home_by_is f (tree.declare n init) = refl
home_by_is f (tree.if_ e one) = refl
home_by_is f (tree.if_else e one other) = refl
home_by_is f (tree.while_ e body) = refl
home_by_is f (tree.for_ first e last body) = refl
home_by_is f (tree.do_while body e) = refl
home_by_is f (tree.switch e labels body) = refl
home_by_is f tree.break_ = refl
home_by_is f tree.continue_ = refl
home_by_is f (tree.return_ value) = refl
home_by_is f (tree.assign a b) = refl
home_by_is f (tree.update a op b) = refl
home_by_is f (tree.evaluate e) = refl
home_by_is f tree.empty = refl

home_is : (f : Frame) (st : tree.Stmt) → declared_home f st ≡ home_of f.homes st
home_is f (tree.at_stmt place node) = home_by_is f node

one_more : (o : Option ℕ) (ks : List ℕ) → length (with_home o ks) ≡ one_if o + length ks
one_more None ks = omega arith
one_more (Some k) ks = omega arith

objects_counted : (f : Frame) (body : tree.Stmts) → length (objects_in f body) ≡ objects_count f.homes body
objects_counted f tree.no_stmts = refl
objects_counted f (tree.more_stmts st rest) = omega (arith, one_more (declared_home f st) (objects_in f rest), ap one_if (home_is f st), objects_counted f rest)

module _ (f : Frame) where
  mutual
    inside_begun : (st : tree.Stmt) → one_if (home_of f.homes st) + inside f.homes st ≤ begun f st
    inside_begun (tree.at_stmt place node) = inside_begun_by node

    inside_begun_by : (node : tree.StmtNode) → one_if (home_by f.homes node) + inside_by f.homes node ≤ begun_by f node
    inside_begun_by (tree.block body) = omega (arith, inside_begun_in body)
    inside_begun_by (tree.declare n init) = omega arith
    inside_begun_by (tree.if_ e one) = omega (arith, inside_begun one)
    inside_begun_by (tree.if_else e one other) = omega (arith, inside_begun one, inside_begun other)
    inside_begun_by (tree.while_ e body) = omega (arith, inside_begun body)
    inside_begun_by (tree.for_ first e last body) = omega (arith, inside_begun first, inside_begun last, inside_begun body)
    inside_begun_by (tree.do_while body e) = omega (arith, inside_begun body)
    inside_begun_by (tree.switch e labels body) = omega (arith, inside_begun_in body)
    inside_begun_by tree.break_ = omega arith
    inside_begun_by tree.continue_ = omega arith
    inside_begun_by (tree.return_ value) = omega arith
    inside_begun_by (tree.assign a b) = omega arith
    inside_begun_by (tree.update a op b) = omega arith
    inside_begun_by (tree.evaluate e) = omega arith
    inside_begun_by tree.empty = omega arith

    pub inside_begun_in : (body : tree.Stmts) → objects_count f.homes body + inside_in f.homes body ≤ begun_in f body
    inside_begun_in tree.no_stmts = omega arith
    inside_begun_in (tree.more_stmts st rest) = omega (arith, inside_begun st, inside_begun_in rest)

-- ---- the objects that end behind a loop, and before its step

fresh_few : (outer is : List ℕ) → length (fresh outer is) ≤ length is
fresh_few outer [] = omega arith
fresh_few outer (i ∷ is) = by (among outer i) (fresh_few outer is)
  where
    by : (b : Bool) → length (fresh outer is) ≤ length is → length (if b then fresh outer is else i ∷ fresh outer is) ≤ suc (length is)
    by true h = omega (arith, h)
    by false h = omega (arith, h)

again_few : (outer is : List ℕ) → length (again outer is) ≤ length is
again_few outer [] = omega arith
again_few outer (i ∷ is) = by (among outer i) (again_few outer is)
  where
    by : (b : Bool) → length (again outer is) ≤ length is → length (if b then i ∷ again outer is else again outer is) ≤ suc (length is)
    by true h = omega (arith, h)
    by false h = omega (arith, h)

if_few : (b : Bool) (is : List ℕ) → length (if b then is else []) ≤ length is
if_few true is = omega arith
if_few false is = omega arith

module _ (f : Frame) where
  mutual
    held_few : (st : tree.Stmt) → length (held f st) ≤ inside f.homes st
    held_few (tree.at_stmt place node) = held_few_by node

    held_few_by : (node : tree.StmtNode) → length (held_by f node) ≤ inside_by f.homes node
    held_few_by (tree.block body) = omega (arith, length-append (held_in f body) (objects_in f body), held_few_in body, objects_counted f body)
    held_few_by (tree.declare n init) = omega arith
    held_few_by (tree.if_ e one) = held_few one
    held_few_by (tree.if_else e one other) = omega (arith, length-append (held f one) (held f other), held_few one, held_few other)
    held_few_by (tree.while_ e body) = omega arith
    held_few_by (tree.for_ first e last body) = omega (arith, one_more (declared_home f first) [], ap one_if (home_is f first))
    held_few_by (tree.do_while body e) = omega arith
    held_few_by (tree.switch e labels body) = held_few_in body
    held_few_by tree.break_ = omega arith
    held_few_by tree.continue_ = omega arith
    held_few_by (tree.return_ value) = omega arith
    held_few_by (tree.assign a b) = omega arith
    held_few_by (tree.update a op b) = omega arith
    held_few_by (tree.evaluate e) = omega arith
    held_few_by tree.empty = omega arith

    held_few_in : (body : tree.Stmts) → length (held_in f body) ≤ inside_in f.homes body
    held_few_in tree.no_stmts = omega arith
    held_few_in (tree.more_stmts st rest) = omega (arith, length-append (held f st) (held_in f rest), held_few st, held_few_in rest)

  break_few : (body : tree.Stmt) → length (over_break f body) ≤ inside f.homes body
  break_few body = omega (arith, if_few (breaks_in body) (fresh f.outer (held f body)), fresh_few f.outer (held f body), held_few body)

  next_few : (body : tree.Stmt) → length (over_next f body) ≤ inside f.homes body
  next_few body = omega (arith, if_few (nexts_in body) (fresh f.outer (held f body)), fresh_few f.outer (held f body), held_few body)

  -- a loop with its Ends
  cost_rounds : (place : ℕ) (body : tree.Stmt) (round latch rest : Nodes) (a b : ℕ) → AtMost round a no_nodes → AtMost latch b no_nodes → AtMost (loop_nodes f place body round latch rest) (suc (a + b) + 2 * inside f.homes body) rest
  cost_rounds place body round latch rest a b h k =
      cost_weak _ _ _ _ (cost_step _ _ _ _ _ (cost_loop place round _ (ends place (over_break f body) rest) _ _ h (cost_step _ _ _ _ _ (cost_ends place (over_next f body) latch) k)) (cost_ends place (over_break f body) rest))
      (omega (arith, break_few body, next_few body))

-- ---- the labels of a switch

cost_equal : (place r number : ℕ) (t : IntType) (z : ℤ) (rest : Nodes) → AtMost (equal_nodes place r number t z rest) 4 rest
cost_equal place r number t z rest =
    cost_weak _ _ _ _ (cost_step _ _ _ _ _ (cost_one _ _ _) (cost_step _ _ _ _ _ (cost_one _ _ _) (cost_branch _ _ _ _ rest _ _ (cost_one _ _ _) (cost_same _)))) (omega arith)

cost_choose : (place r number : ℕ) (labels : List tree.Label) (rest : Nodes) → AtMost (choose_nodes place r number labels rest) (4 * length labels) rest
cost_choose place r number [] rest = cost_weak _ _ _ _ (cost_same _) (omega arith)
cost_choose place r number (tree.case_at t z at ∷ labels) rest =
    cost_weak _ _ _ _ (cost_step _ _ _ _ _ (cost_choose place r (suc number) labels _) (cost_equal place r number t z rest)) (omega arith)
cost_choose place r number (tree.default_at at ∷ labels) rest = cost_weak _ _ _ _ (cost_choose place r (suc number) labels rest) (omega arith)

cost_begin : (place r number : ℕ) (rest : Nodes) → AtMost (begin_nodes place r number rest) 4 rest
cost_begin place r number rest =
    cost_weak _ _ _ _ (cost_step _ _ _ _ _ (cost_one _ _ _) (cost_step _ _ _ _ _ (cost_one _ _ _) (cost_branch _ _ _ _ rest _ _ (cost_one _ _ _) (cost_same _)))) (omega arith)

-- 1 where that holds
abbrev one_where : Bool → ℕ
one_where true = 1
one_where false = 0

-- the labels that stand at the statement of index i, and those that stand there or behind it
abbrev labels_at : (i : ℕ) → List tree.Label → ℕ
labels_at i [] = 0
labels_at i (label ∷ labels) = one_where (stands_at label == i) + labels_at i labels

abbrev labels_from : (i : ℕ) → List tree.Label → ℕ
labels_from i [] = 0
labels_from i (label ∷ labels) = one_where (nat_le i (stands_at label)) + labels_from i labels

from_at : (i a : ℕ) → one_where (a == i) + one_where (nat_le (suc i) a) ≤ one_where (nat_le i a)
from_at i a = by (a == i) (nat_le (suc i) a) (nat_le i a) refl refl refl
  where
    by : (x y z : Bool) → (a == i) ≡ x → nat_le (suc i) a ≡ y → nat_le i a ≡ z → one_where x + one_where y ≤ one_where z
    by true true z p q e = absurd (grind (arith, nat_tests, p, q))
    by true false true p q e = omega arith
    by true false false p q e = absurd (grind (arith, nat_tests, p, e))
    by false true true p q e = omega arith
    by false true false p q e = absurd (grind (arith, nat_tests, q, e))
    by false false z p q e = omega arith

labels_split : (i : ℕ) (labels : List tree.Label) → labels_at i labels + labels_from (suc i) labels ≤ labels_from i labels
labels_split i [] = omega arith
labels_split i (label ∷ labels) = omega (arith, from_at i (stands_at label), labels_split i labels)

at_most_one : (b : Bool) → one_where b ≤ 1
at_most_one true = omega arith
at_most_one false = omega arith

labels_few : (i : ℕ) (labels : List tree.Label) → labels_from i labels ≤ length labels
labels_few i [] = omega arith
labels_few i (label ∷ labels) = omega (arith, at_most_one (nat_le i (stands_at label)), labels_few i labels)

cost_begin_if : (here : Bool) (place r number : ℕ) (rest : Nodes) → AtMost (begin_if here place r number rest) (4 * one_where here) rest
cost_begin_if true place r number rest = cost_begin place r number rest
cost_begin_if false place r number rest = cost_weak _ _ _ _ (cost_same _) (omega arith)

cost_labels : (place r i number : ℕ) (labels : List tree.Label) (rest : Nodes) → AtMost (label_nodes place r i number labels rest) (4 * labels_at i labels) rest
cost_labels place r i number [] rest = cost_weak _ _ _ _ (cost_same _) (omega arith)
cost_labels place r i number (label ∷ labels) rest =
    cost_weak _ _ _ _ (cost_step _ _ _ _ _ (cost_begin_if (stands_at label == i) place r number _) (cost_labels place r i (suc number) labels rest)) (omega arith)

-- ---- statements, where at most `most` objects end at once

-- the first row is the second with fewer than so many nodes before it
pub record Under (n : Nodes) (a : ℕ) (r : Nodes) : Type 0 where
  pub most : suc (nodes_in n) ≤ a + (nodes_in r)

under : (n : Nodes) (a b : ℕ) (q : Nodes) → AtMost n a q → suc a ≤ b → Under n b q
under n a b q h k = record { most = omega (arith, h.most, k) }

at_most : (n : Nodes) (a : ℕ) (q : Nodes) → Under n a q → AtMost n a q
at_most n a q h = record { most = omega (arith, h.most) }

-- under a flag it's one node more
cost_guarded : (flag : Option ℕ) (place : ℕ) (nodes : Nodes → Nodes) (a : ℕ) (rest : Nodes) → ((r : Nodes) → Under (nodes r) a r) → AtMost (guarded flag place nodes rest) a rest
cost_guarded None place nodes a rest h = at_most _ _ _ (h rest)
cost_guarded (Some flag) place nodes a rest h = record { most = omega (arith, (h no_nodes).most) }

cost_break_by : (flag : Option ℕ) (place : ℕ) (left : List ℕ) (rest : Nodes) → AtMost (break_nodes flag place left rest) (length left + 1) rest
cost_break_by None place left rest = cost_step _ _ _ _ _ (cost_ends place left _) (cost_break place rest)
cost_break_by (Some flag) place left rest = cost_weak _ _ _ _ (cost_one _ _ _) (omega arith)

module _ (most : ℕ) where
  -- it is enough for an expression
  enough : 5 ≤ 8 + 2 * most
  enough = omega arith

  mutual
    pub cost_stmt : (f : Frame) (st : tree.Stmt) (left : List ℕ) (rest : Nodes) → length left + inside f.homes st ≤ most → Under (stmt_nodes f st left rest) ((8 + 2 * most) * stmt_size st) rest
    cost_stmt f (tree.at_stmt place node) left rest h = cost_form f place node left rest h

    cost_form : (f : Frame) (place : ℕ) (node : tree.StmtNode) (left : List ℕ) (rest : Nodes) → length left + inside_by f.homes node ≤ most → Under (form_nodes f place node left rest) ((8 + 2 * most) * suc (stmt_parts node)) rest
    cost_form f place (tree.block body) left rest h =
        under _ _ _ _ (cost_step _ _ _ _ _ (cost_row (opened f (objects_in f body)) body (again f.outer (objects_in f body) ++ left) _ (omega (arith, h, length-append (again f.outer (objects_in f body)) left, again_few f.outer (objects_in f body), objects_counted f body))) (cost_ends place (objects_in f body) rest))
        (omega (arith, h, objects_counted f body, times_suc (8 + 2 * most) (row_size body)))
    cost_form f place (tree.declare n init) left rest h =
        under _ _ _ _ (cost_declare f place n init rest) (omega (arith, times_suc (8 + 2 * most) (size_if init), grows_five (8 + 2 * most) (size_if init) enough))
    cost_form f place (tree.if_ e one) left rest h =
        under _ _ _ _ (cost_step _ _ _ _ _ (cost_expr f e _ _) (cost_branch _ _ _ _ rest _ _ (at_most _ _ _ (cost_stmt f one left no_nodes h)) (cost_same _)))
        (omega (arith, times_suc (8 + 2 * most) (expr_size e + stmt_size one), times_plus (8 + 2 * most) (expr_size e) (stmt_size one), grows_five (8 + 2 * most) (expr_size e) enough))
    cost_form f place (tree.if_else e one other) left rest h =
        under _ _ _ _ (cost_step _ _ _ _ _ (cost_expr f e _ _)
        (cost_branch _ _ _ _ rest _ _ (at_most _ _ _ (cost_stmt f one left no_nodes (omega (arith, h)))) (at_most _ _ _ (cost_stmt f other left no_nodes (omega (arith, h))))))
        (omega (
          arith,
          times_suc (8 + 2 * most) (expr_size e + (stmt_size one + stmt_size other)),
          times_plus (8 + 2 * most) (expr_size e) (stmt_size one + stmt_size other),
          times_plus (8 + 2 * most) (stmt_size one) (stmt_size other),
          grows_five (8 + 2 * most) (expr_size e) enough,
        ))
    cost_form f place (tree.while_ e body) left rest h =
        under _ _ _ _ (cost_rounds (looped f) place body _ no_nodes rest _ _ (cost_step _ _ _ _ _ (cost_test (looped f) (Some e) _) (at_most _ _ _ (cost_stmt (looped f) body [] no_nodes (omega (arith, h))))) (cost_same _))
        (omega (arith, h, times_suc (8 + 2 * most) (expr_size e + stmt_size body), times_plus (8 + 2 * most) (expr_size e) (stmt_size body), grows_five (8 + 2 * most) (expr_size e) enough))
    cost_form f place (tree.for_ first e last body) left rest h =
        let inner : Frame = opened f (objects_by f first []) in
        under _ _ _ _ (cost_step _ _ _ _ _ (at_most _ _ _ (cost_stmt inner first left _ (omega (arith, h)))) (cost_step _ _ _ _ _ (cost_rounds (looped inner) place body _ _ _ _ _
        (cost_step _ _ _ _ _ (cost_test (looped inner) e _) (at_most _ _ _ (cost_stmt (looped inner) body [] no_nodes (omega (arith, h))))) (at_most _ _ _ (cost_stmt (looped inner) last [] no_nodes (omega (arith, h)))))
        (cost_weak _ _ 1 _ (cost_ends place (objects_by f first []) rest) (by_one (declared_home f first)))))
        (omega (
          arith,
          h,
          times_suc (8 + 2 * most) ((stmt_size first + size_if e) + (stmt_size last + stmt_size body)),
          times_plus (8 + 2 * most) (stmt_size first + size_if e) (stmt_size last + stmt_size body),
          times_plus (8 + 2 * most) (stmt_size first) (size_if e),
          times_plus (8 + 2 * most) (stmt_size last) (stmt_size body),
          grows_five (8 + 2 * most) (size_if e) enough,
        ))
      where
        by_one : (o : Option ℕ) → length (with_home o []) ≤ 1
        by_one None = omega arith
        by_one (Some k) = omega arith
    cost_form f place (tree.do_while body e) left rest h =
        under _ _ _ _ (cost_rounds (looped f) place body _ _ rest _ _ (at_most _ _ _ (cost_stmt (looped f) body [] no_nodes (omega (arith, h)))) (cost_test (looped f) (Some e) no_nodes))
        (omega (arith, h, times_suc (8 + 2 * most) (expr_size e + stmt_size body), times_plus (8 + 2 * most) (expr_size e) (stmt_size body), grows_five (8 + 2 * most) (expr_size e) enough))
    cost_form f place (tree.switch e labels body) left rest h =
        under _ _ _ _ (cost_step _ _ _ _ _ (cost_expr f e _ _) (cost_step _ _ _ _ _ (cost_one _ _ _) (cost_step _ _ _ _ _ (cost_choose place (first_temp f) 0 labels _)
        (cost_step _ _ _ _ _ (cost_one _ _ _) (cost_switch (switched f) place (first_temp f) labels 0 body left rest h)))))
        (omega (
          arith,
          labels_few 0 labels,
          times_suc (8 + 2 * most) (expr_size e + (length labels + row_size body)),
          times_plus (8 + 2 * most) (expr_size e) (length labels + row_size body),
          times_plus (8 + 2 * most) (length labels) (row_size body),
          grows_five (8 + 2 * most) (expr_size e) enough,
          grows_eight (8 + 2 * most) (length labels) (omega arith),
        ))
    cost_form f place tree.break_ left rest h =
        under _ _ _ _ (cost_break_by f.flag place left rest) (omega (arith, h, times_suc (8 + 2 * most) 0))
    cost_form f place tree.continue_ left rest h =
        under _ _ _ _ (cost_step _ _ _ _ _ (cost_ends place left _) (cost_next place rest)) (omega (arith, h, times_suc (8 + 2 * most) 0))
    cost_form f place (tree.return_ value) left rest h =
        under _ _ _ _ (cost_return f place value rest) (omega (arith, times_suc (8 + 2 * most) (size_if value), grows_five (8 + 2 * most) (size_if value) enough))
    cost_form f place (tree.assign a b) left rest h =
        under _ _ _ _ (cost_assign f place (own_register f (tree.node_of a)) a b _ rest)
        (omega (arith, times_suc (8 + 2 * most) (expr_size a + expr_size b), times_plus (8 + 2 * most) (expr_size a) (expr_size b), grows_five (8 + 2 * most) (expr_size a) enough, grows_five (8 + 2 * most) (expr_size b) enough))
    cost_form f place (tree.update a op b) left rest h =
        under _ _ _ _ (cost_update f place op (own_register f (tree.node_of a)) a b _ rest)
        (omega (arith, times_suc (8 + 2 * most) (expr_size a + expr_size b), times_plus (8 + 2 * most) (expr_size a) (expr_size b), grows_five (8 + 2 * most) (expr_size a) enough, grows_five (8 + 2 * most) (expr_size b) enough))
    cost_form f place (tree.evaluate e) left rest h =
        under _ _ _ _ (cost_dropped f e _ rest) (omega (arith, times_suc (8 + 2 * most) (expr_size e), grows_five (8 + 2 * most) (expr_size e) enough))
    cost_form f place tree.empty left rest h = under _ _ _ _ (cost_same _) (omega (arith, times_suc (8 + 2 * most) 0))

    pub cost_row : (f : Frame) (body : tree.Stmts) (left : List ℕ) (rest : Nodes) → length left + inside_in f.homes body ≤ most → AtMost (row_nodes f body left rest) ((8 + 2 * most) * row_size body) rest
    cost_row f tree.no_stmts left rest h = cost_weak _ _ _ _ (cost_same _) (omega arith)
    cost_row f (tree.more_stmts st body) left rest h =
        cost_weak _ _ _ _ (cost_step _ _ _ _ _ (cost_guarded f.flag (stmt_place st) (stmt_nodes f st left) _ _ (λ r. cost_stmt f st left r (omega (arith, h)))) (cost_row f body left rest (omega (arith, h))))
        (omega (arith, times_plus (8 + 2 * most) (stmt_size st) (row_size body)))

    cost_switch : (f : Frame) (place r : ℕ) (labels : List tree.Label) (i : ℕ) (body : tree.Stmts) (left : List ℕ) (rest : Nodes) → length left + inside_in f.homes body ≤ most
        → AtMost (switch_nodes f place r labels i body left rest) (4 * labels_from i labels + (8 + 2 * most) * row_size body) rest
    cost_switch f place r labels i tree.no_stmts left rest h = cost_weak _ _ _ _ (cost_same _) (omega arith)
    cost_switch f place r labels i (tree.more_stmts st body) left rest h =
        cost_weak _ _ _ _ (cost_step _ _ _ _ _ (cost_labels place r i 0 labels _) (cost_step _ _ _ _ _
        (cost_guarded (Some (suc r)) (stmt_place st) (stmt_nodes f st left) _ _ (λ q. cost_stmt f st left q (omega (arith, h)))) (cost_switch f place r labels (suc i) body left rest (omega (arith, h)))))
        (omega (arith, labels_split i labels, times_plus (8 + 2 * most) (stmt_size st) (row_size body)))
