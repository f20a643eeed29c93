-- The code of expressions is small.
use Rattle.std.proofs.Common.{ℕ, suc, ◌+◌, ◌*◌, ◌≤◌, Bool, true, false, if◌then◌else◌, Option, Some, None, arith}
use Rattle.ak_words.specs.declared.int_type.IntType.{IntType}
use Rattle.c_tree.specs.Typed as tree
use Rattle.c_meaning.specs.Values.{is_scalar}
use Rattle.struct_ir.specs.Nodes.{Act, Nodes, no_nodes, more_nodes, plain}
use Rattle.struct_ir.specs.meaning.Blocks.{same_type}
use Rattle.lower_forms.specs.Forms.{Frame, home, branches, sets_truth, is_void, local_value, local_place, number_type, converts_number, converts, negation, lib_nodes, expr_nodes, value_nodes, place_nodes, object_place, args_nodes, dropped_nodes, dropped_value}
use Rattle.lower_forms.specs.Sizes.{nodes_in, expr_size, expr_parts, args_size}

-- the first row is the second with at most so many nodes before it
pub record AtMost (n : Nodes) (a : ℕ) (r : Nodes) : Type 0 where
  pub most : nodes_in n ≤ a + (nodes_in r)

pub cost_step : (n : Nodes) (a : ℕ) (r : Nodes) (b : ℕ) (q : Nodes) → AtMost n a r → AtMost r b q → AtMost n (a + b) q
cost_step n a r b q h k = record { most = omega (arith, h.most, k.most) }

pub cost_weak : (n : Nodes) (a b : ℕ) (q : Nodes) → AtMost n a q → a ≤ b → AtMost n b q
cost_weak n a b q h k = record { most = omega (arith, h.most, k) }

pub cost_same : (q : Nodes) → AtMost q 0 q
cost_same q = record { most = omega arith }

pub cost_one : (place : ℕ) (a : Act) (rest : Nodes) → AtMost (more_nodes (plain place a) rest) 1 rest
cost_one place a rest = record { most = omega arith }

pub cost_branch : (place t : ℕ) (one other rest : Nodes) (a b : ℕ) → AtMost one a no_nodes → AtMost other b no_nodes → AtMost (branches place t one other rest) (suc (a + b)) rest
cost_branch place t one other rest a b h k = record { most = omega (arith, h.most, k.most) }

pub cost_either : (b : Bool) (x y : Nodes) (a : ℕ) (q : Nodes) → AtMost x a q → AtMost y a q → AtMost (if b then x else y) a q
cost_either true x y a q h k = h
cost_either false x y a q h k = k

pub cost_becomes : (place : ℕ) (s u : IntType) (t : ℕ) (rest : Nodes) → AtMost (converts_number place s u t rest) 1 rest
cost_becomes place s u t rest = cost_either (same_type s u) _ _ _ _ (cost_weak _ _ _ _ (cost_same rest) (omega arith)) (cost_one _ _ _)

cost_truth : (place t m n : ℕ) (rest : Nodes) → AtMost (sets_truth place t m n rest) 3 rest
cost_truth place t m n rest = cost_branch _ _ _ _ _ _ _ (cost_one _ _ _) (cost_one _ _ _)

module _ (f : Frame) where
  cost_local : (place : ℕ) (ty : tree.Ty) (m t : ℕ) (o : Option ℕ) (rest : Nodes) → AtMost (local_value place ty m t o rest) (3) rest
  cost_local place ty m t None rest = cost_weak _ _ _ _ (cost_step _ _ _ _ _ (cost_one _ _ _) (cost_same _)) (omega arith)
  cost_local place ty m t (Some k) rest = cost_weak _ _ _ _ (cost_step _ _ _ _ _ (cost_one _ _ _) (cost_step _ _ _ _ _ (cost_one _ _ _) (cost_step _ _ _ _ _ (cost_one _ _ _) (cost_same _)))) (omega arith)

  cost_local_place : (place m t : ℕ) (o : Option ℕ) (rest : Nodes) → AtMost (local_place place m t o rest) (2) rest
  cost_local_place place m t None rest = cost_weak _ _ _ _ (cost_step _ _ _ _ _ (cost_one _ _ _) (cost_same _)) (omega arith)
  cost_local_place place m t (Some k) rest = cost_weak _ _ _ _ (cost_step _ _ _ _ _ (cost_one _ _ _) (cost_step _ _ _ _ _ (cost_one _ _ _) (cost_same _))) (omega arith)

  cost_converts : (place : ℕ) (from ty : tree.Ty) (t : ℕ) (rest : Nodes) → AtMost (converts place from ty t rest) (1) rest
  cost_converts place from tree.void t rest = cost_weak _ _ _ _ (cost_same _) (omega arith)
  cost_converts place from (tree.integer s) t rest = cost_becomes place (number_type from) s t rest
  cost_converts place from (tree.atomic s) t rest = cost_weak _ _ _ _ (cost_same _) (omega arith)
  cost_converts place from tree.mutex t rest = cost_weak _ _ _ _ (cost_same _) (omega arith)
  cost_converts place from (tree.pointer s) t rest = cost_weak _ _ _ _ (cost_same _) (omega arith)
  cost_converts place from (tree.array s m) t rest = cost_weak _ _ _ _ (cost_same _) (omega arith)
  cost_converts place from (tree.structure m) t rest = cost_weak _ _ _ _ (cost_same _) (omega arith)

  cost_negation : (place : ℕ) (ty : tree.Ty) (t : ℕ) (rest : Nodes) → AtMost (negation place ty t rest) (3) rest
  cost_negation place (tree.integer s) t rest = cost_step _ _ _ _ _ (cost_becomes place s _ t _) (cost_step _ _ _ _ _ (cost_one _ _ _) (cost_one _ _ _))
  cost_negation place tree.void t rest = cost_truth place t 0 1 rest
  cost_negation place (tree.atomic s) t rest = cost_truth place t 0 1 rest
  cost_negation place tree.mutex t rest = cost_truth place t 0 1 rest
  cost_negation place (tree.pointer s) t rest = cost_truth place t 0 1 rest
  cost_negation place (tree.array s m) t rest = cost_truth place t 0 1 rest
  cost_negation place (tree.structure m) t rest = cost_truth place t 0 1 rest

  cost_lib : (place : ℕ) (which : tree.Lib) (es : tree.Exprs) (t : ℕ) (rest : Nodes) → AtMost (lib_nodes place which es t rest) (5) rest
  cost_lib place (tree.print pieces) es t rest = cost_weak _ _ _ _ (cost_step _ _ _ _ _ (cost_one _ _ _) (cost_same _)) (omega arith)
  cost_lib place tree.malloc es t rest = cost_weak _ _ _ _ (cost_step _ _ _ _ _ (cost_one _ _ _) (cost_same _)) (omega arith)
  cost_lib place tree.calloc es t rest = cost_weak _ _ _ _ (cost_step _ _ _ _ _ (cost_one _ _ _) (cost_same _)) (omega arith)
  cost_lib place tree.realloc es t rest = cost_weak _ _ _ _ (cost_step _ _ _ _ _ (cost_one _ _ _) (cost_same _)) (omega arith)
  cost_lib place tree.free es t rest = cost_weak _ _ _ _ (cost_step _ _ _ _ _ (cost_one _ _ _) (cost_same _)) (omega arith)
  cost_lib place tree.copy es t rest = cost_weak _ _ _ _ (cost_step _ _ _ _ _ (cost_one _ _ _) (cost_same _)) (omega arith)
  cost_lib place (tree.start function) es t rest = cost_weak _ _ _ _ (cost_step _ _ _ _ _ (cost_one _ _ _) (cost_same _)) (omega arith)
  cost_lib place tree.join es t rest = cost_weak _ _ _ _ (cost_step _ _ _ _ _ (cost_one _ _ _) (cost_same _)) (omega arith)
  cost_lib place tree.mutex_init es t rest = cost_weak _ _ _ _ (cost_step _ _ _ _ _ (cost_one _ _ _) (cost_step _ _ _ _ _ (cost_one _ _ _) (cost_step _ _ _ _ _ (cost_one _ _ _) (cost_same _)))) (omega arith)
  cost_lib place tree.mutex_lock es t rest = cost_weak _ _ _ _ (cost_step _ _ _ _ _ (cost_one _ _ _) (cost_step _ _ _ _ _ (cost_one _ _ _) (cost_same _))) (omega arith)
  cost_lib place tree.mutex_unlock es t rest = cost_weak _ _ _ _ (cost_step _ _ _ _ _ (cost_one _ _ _) (cost_step _ _ _ _ _ (cost_one _ _ _) (cost_same _))) (omega arith)
  cost_lib place tree.mutex_destroy es t rest = cost_weak _ _ _ _ (cost_step _ _ _ _ _ (cost_one _ _ _) (cost_same _)) (omega arith)
  cost_lib place tree.atomic_add es t rest = cost_weak _ _ _ _ (cost_step _ _ _ _ _ (cost_one _ _ _) (cost_same _)) (omega arith)
  cost_lib place tree.atomic_sub es t rest = cost_weak _ _ _ _ (cost_step _ _ _ _ _ (cost_one _ _ _) (cost_step _ _ _ _ _ (cost_one _ _ _) (cost_step _ _ _ _ _ (cost_one _ _ _) (cost_step _ _ _ _ _ (cost_one _ _ _) (cost_step _ _ _ _ _ (cost_one _ _ _) (cost_same _)))))) (omega arith)
  cost_lib place tree.atomic_swap es t rest = cost_weak _ _ _ _ (cost_step _ _ _ _ _ (cost_one _ _ _) (cost_same _)) (omega arith)
  cost_lib place tree.atomic_compare es t rest = cost_weak _ _ _ _ (cost_step _ _ _ _ _ (cost_one _ _ _) (cost_same _)) (omega arith)
  cost_lib place tree.atomic_store es t rest = cost_weak _ _ _ _ (cost_step _ _ _ _ _ (cost_one _ _ _) (cost_same _)) (omega arith)

  mutual
    pub cost_expr : (e : tree.Expr) (t : ℕ) (rest : Nodes) → AtMost (expr_nodes f e t rest) (5 * expr_size e) rest
    cost_expr (tree.at place ty node) t rest = cost_value place ty node t rest

    pub cost_value : (place : ℕ) (ty : tree.Ty) (node : tree.ExprNode) (t : ℕ) (rest : Nodes) → AtMost (value_nodes f place ty node t rest) (5 * suc (expr_parts node)) rest
    cost_value place ty (tree.num u z) t rest = cost_weak _ _ _ _ (cost_step _ _ _ _ _ (cost_one _ _ _) (cost_same _)) (omega arith)
    cost_value place ty tree.null t rest = cost_weak _ _ _ _ (cost_step _ _ _ _ _ (cost_one _ _ _) (cost_same _)) (omega arith)
    cost_value place ty (tree.literal m) t rest = cost_weak _ _ _ _ (cost_step _ _ _ _ _ (cost_one _ _ _) (cost_step _ _ _ _ _ (cost_one _ _ _) (cost_same _))) (omega arith)
    cost_value place ty (tree.global m) t rest = cost_weak _ _ _ _ (cost_step _ _ _ _ _ (cost_one _ _ _) (cost_step _ _ _ _ _ (cost_one _ _ _) (cost_same _))) (omega arith)
    cost_value place ty (tree.local m) t rest = cost_weak _ _ _ _ (cost_step _ _ _ _ _ (cost_local place ty m t (home f m) rest) (cost_same _)) (omega arith)
    cost_value place ty (tree.deref e) t rest = cost_weak _ _ _ _ (cost_step _ _ _ _ _ (cost_expr e t _) (cost_step _ _ _ _ _ (cost_one _ _ _) (cost_same _))) (omega arith)
    cost_value place ty (tree.member e m) t rest = cost_weak _ _ _ _ (cost_step _ _ _ _ _ (cost_place e t _) (cost_step _ _ _ _ _ (cost_one _ _ _) (cost_step _ _ _ _ _ (cost_one _ _ _) (cost_step _ _ _ _ _ (cost_one _ _ _) (cost_same _))))) (omega arith)
    cost_value place ty (tree.address_of e) t rest = cost_weak _ _ _ _ (cost_step _ _ _ _ _ (cost_place e t _) (cost_same _)) (omega arith)
    cost_value place ty (tree.decay e) t rest = cost_weak _ _ _ _ (cost_step _ _ _ _ _ (cost_place e t _) (cost_same _)) (omega arith)
    cost_value place ty (tree.convert e) t rest = cost_weak _ _ _ _ (cost_step _ _ _ _ _ (cost_expr e t _) (cost_step _ _ _ _ _ (cost_converts place (tree.type_of e) ty t rest) (cost_same _))) (omega arith)
    cost_value place ty (tree.not_ e) t rest = cost_weak _ _ _ _ (cost_step _ _ _ _ _ (cost_expr e t _) (cost_negation place (tree.type_of e) t rest)) (omega arith)
    cost_value place ty (tree.binary op a b) t rest = cost_weak _ _ _ _ (cost_step _ _ _ _ _ (cost_expr a t _) (cost_step _ _ _ _ _ (cost_expr b (suc t) _) (cost_step _ _ _ _ _ (cost_one _ _ _) (cost_same _)))) (omega arith)
    cost_value place ty (tree.and_also a b) t rest = cost_weak _ _ _ _ (cost_step _ _ _ _ _ (cost_expr a t _) (cost_step _ _ _ _ _ (cost_branch _ _ _ _ _ _ _ (cost_step _ _ _ _ _ (cost_expr b t _) (cost_step _ _ _ _ _ (cost_branch _ _ _ _ _ _ _ (cost_step _ _ _ _ _ (cost_one _ _ _) (cost_same _)) (cost_step _ _ _ _ _ (cost_one _ _ _) (cost_same _))) (cost_same _))) (cost_step _ _ _ _ _ (cost_one _ _ _) (cost_same _))) (cost_same _))) (omega arith)
    cost_value place ty (tree.or_else a b) t rest = cost_weak _ _ _ _ (cost_step _ _ _ _ _ (cost_expr a t _) (cost_step _ _ _ _ _ (cost_branch _ _ _ _ _ _ _ (cost_step _ _ _ _ _ (cost_one _ _ _) (cost_same _)) (cost_step _ _ _ _ _ (cost_expr b t _) (cost_step _ _ _ _ _ (cost_branch _ _ _ _ _ _ _ (cost_step _ _ _ _ _ (cost_one _ _ _) (cost_same _)) (cost_step _ _ _ _ _ (cost_one _ _ _) (cost_same _))) (cost_same _)))) (cost_same _))) (omega arith)
    cost_value place ty (tree.choose c a b) t rest = cost_weak _ _ _ _ (cost_step _ _ _ _ _ (cost_expr c t _) (cost_step _ _ _ _ _ (cost_branch _ _ _ _ _ _ _ (cost_step _ _ _ _ _ (cost_expr a t _) (cost_same _)) (cost_step _ _ _ _ _ (cost_expr b t _) (cost_same _))) (cost_same _))) (omega arith)
    cost_value place ty (tree.pointer_add a b) t rest = cost_weak _ _ _ _ (cost_step _ _ _ _ _ (cost_expr a t _) (cost_step _ _ _ _ _ (cost_expr b (suc t) _) (cost_step _ _ _ _ _ (cost_one _ _ _) (cost_same _)))) (omega arith)
    cost_value place ty (tree.pointer_sub a b) t rest = cost_weak _ _ _ _ (cost_step _ _ _ _ _ (cost_expr a t _) (cost_step _ _ _ _ _ (cost_expr b (suc t) _) (cost_step _ _ _ _ _ (cost_one _ _ _) (cost_same _)))) (omega arith)
    cost_value place ty (tree.pointer_diff a b) t rest = cost_weak _ _ _ _ (cost_step _ _ _ _ _ (cost_expr a t _) (cost_step _ _ _ _ _ (cost_expr b (suc t) _) (cost_step _ _ _ _ _ (cost_one _ _ _) (cost_same _)))) (omega arith)
    cost_value place ty (tree.pointer_compare op a b) t rest = cost_weak _ _ _ _ (cost_step _ _ _ _ _ (cost_expr a t _) (cost_step _ _ _ _ _ (cost_expr b (suc t) _) (cost_step _ _ _ _ _ (cost_one _ _ _) (cost_same _)))) (omega arith)
    cost_value place ty (tree.pointer_test e) t rest = cost_weak _ _ _ _ (cost_step _ _ _ _ _ (cost_expr e t _) (cost_step _ _ _ _ _ (cost_one _ _ _) (cost_same _))) (omega arith)
    cost_value place ty (tree.call function es) t rest = cost_weak _ _ _ _ (cost_step _ _ _ _ _ (cost_args es t _) (cost_step _ _ _ _ _ (cost_one _ _ _) (cost_step _ _ _ _ _ (cost_one _ _ _) (cost_same _)))) (omega arith)
    cost_value place ty (tree.lib which es) t rest = cost_weak _ _ _ _ (cost_step _ _ _ _ _ (cost_args es t _) (cost_step _ _ _ _ _ (cost_lib place which es t rest) (cost_same _))) (omega arith)

    pub cost_place : (e : tree.Expr) (t : ℕ) (rest : Nodes) → AtMost (place_nodes f e t rest) (5 * expr_size e) rest
    cost_place (tree.at place ty node) t rest = cost_object_place place node t rest

    pub cost_object_place : (place : ℕ) (node : tree.ExprNode) (t : ℕ) (rest : Nodes) → AtMost (object_place f place node t rest) (5 * suc (expr_parts node)) rest
    cost_object_place place (tree.num u z) t rest = cost_weak _ _ _ _ (cost_same _) (omega arith)
    cost_object_place place tree.null t rest = cost_weak _ _ _ _ (cost_same _) (omega arith)
    cost_object_place place (tree.literal m) t rest = cost_weak _ _ _ _ (cost_step _ _ _ _ _ (cost_one _ _ _) (cost_same _)) (omega arith)
    cost_object_place place (tree.global m) t rest = cost_weak _ _ _ _ (cost_step _ _ _ _ _ (cost_one _ _ _) (cost_same _)) (omega arith)
    cost_object_place place (tree.local m) t rest = cost_weak _ _ _ _ (cost_step _ _ _ _ _ (cost_local_place place m t (home f m) rest) (cost_same _)) (omega arith)
    cost_object_place place (tree.deref e) t rest = cost_weak _ _ _ _ (cost_step _ _ _ _ _ (cost_expr e t _) (cost_same _)) (omega arith)
    cost_object_place place (tree.member e m) t rest = cost_weak _ _ _ _ (cost_step _ _ _ _ _ (cost_place e t _) (cost_step _ _ _ _ _ (cost_one _ _ _) (cost_step _ _ _ _ _ (cost_one _ _ _) (cost_same _)))) (omega arith)
    cost_object_place place (tree.address_of e) t rest = cost_weak _ _ _ _ (cost_same _) (omega arith)
    cost_object_place place (tree.decay e) t rest = cost_weak _ _ _ _ (cost_same _) (omega arith)
    cost_object_place place (tree.convert e) t rest = cost_weak _ _ _ _ (cost_same _) (omega arith)
    cost_object_place place (tree.not_ e) t rest = cost_weak _ _ _ _ (cost_same _) (omega arith)
    cost_object_place place (tree.binary op a b) t rest = cost_weak _ _ _ _ (cost_same _) (omega arith)
    cost_object_place place (tree.and_also a b) t rest = cost_weak _ _ _ _ (cost_same _) (omega arith)
    cost_object_place place (tree.or_else a b) t rest = cost_weak _ _ _ _ (cost_same _) (omega arith)
    cost_object_place place (tree.choose c a b) t rest = cost_weak _ _ _ _ (cost_same _) (omega arith)
    cost_object_place place (tree.pointer_add a b) t rest = cost_weak _ _ _ _ (cost_same _) (omega arith)
    cost_object_place place (tree.pointer_sub a b) t rest = cost_weak _ _ _ _ (cost_same _) (omega arith)
    cost_object_place place (tree.pointer_diff a b) t rest = cost_weak _ _ _ _ (cost_same _) (omega arith)
    cost_object_place place (tree.pointer_compare op a b) t rest = cost_weak _ _ _ _ (cost_same _) (omega arith)
    cost_object_place place (tree.pointer_test e) t rest = cost_weak _ _ _ _ (cost_same _) (omega arith)
    cost_object_place place (tree.call function es) t rest = cost_weak _ _ _ _ (cost_same _) (omega arith)
    cost_object_place place (tree.lib which es) t rest = cost_weak _ _ _ _ (cost_same _) (omega arith)

    pub cost_args : (es : tree.Exprs) (t : ℕ) (rest : Nodes) → AtMost (args_nodes f es t rest) (5 * args_size es) rest
    cost_args tree.no_exprs t rest = cost_weak _ _ _ _ (cost_same _) (omega arith)
    cost_args (tree.more_exprs e es) t rest = cost_weak _ _ _ _ (cost_step _ _ _ _ _ (cost_expr e t _) (cost_step _ _ _ _ _ (cost_args es (suc t) _) (cost_same _))) (omega arith)

  mutual
    pub cost_dropped : (e : tree.Expr) (t : ℕ) (rest : Nodes) → AtMost (dropped_nodes f e t rest) (5 * expr_size e) rest
    cost_dropped (tree.at place ty node) t rest = cost_dropped_value place ty node t rest

    cost_dropped_value : (place : ℕ) (ty : tree.Ty) (node : tree.ExprNode) (t : ℕ) (rest : Nodes) → AtMost (dropped_value f place ty node t rest) (5 * suc (expr_parts node)) rest
    cost_dropped_value place ty (tree.num u z) t rest = cost_value place ty (tree.num u z) t rest
    cost_dropped_value place ty tree.null t rest = cost_value place ty tree.null t rest
    cost_dropped_value place ty (tree.literal m) t rest = cost_either (is_scalar ty) _ _ _ _ (cost_value place ty (tree.literal m) t rest) (cost_object_place place (tree.literal m) t rest)
    cost_dropped_value place ty (tree.global m) t rest = cost_either (is_scalar ty) _ _ _ _ (cost_value place ty (tree.global m) t rest) (cost_object_place place (tree.global m) t rest)
    cost_dropped_value place ty (tree.local m) t rest = cost_either (is_scalar ty) _ _ _ _ (cost_value place ty (tree.local m) t rest) (cost_object_place place (tree.local m) t rest)
    cost_dropped_value place ty (tree.deref e) t rest = cost_either (is_scalar ty) _ _ _ _ (cost_value place ty (tree.deref e) t rest) (cost_object_place place (tree.deref e) t rest)
    cost_dropped_value place ty (tree.member e m) t rest = cost_either (is_scalar ty) _ _ _ _ (cost_value place ty (tree.member e m) t rest) (cost_object_place place (tree.member e m) t rest)
    cost_dropped_value place ty (tree.address_of e) t rest = cost_value place ty (tree.address_of e) t rest
    cost_dropped_value place ty (tree.decay e) t rest = cost_value place ty (tree.decay e) t rest
    cost_dropped_value place ty (tree.convert e) t rest = cost_either (is_void ty) _ _ _ _ (cost_weak _ _ _ _ (cost_step _ _ _ _ _ (cost_dropped e t rest) (cost_same _)) (omega arith)) (cost_value place ty (tree.convert e) t rest)
    cost_dropped_value place ty (tree.not_ e) t rest = cost_value place ty (tree.not_ e) t rest
    cost_dropped_value place ty (tree.binary op a b) t rest = cost_value place ty (tree.binary op a b) t rest
    cost_dropped_value place ty (tree.and_also a b) t rest = cost_value place ty (tree.and_also a b) t rest
    cost_dropped_value place ty (tree.or_else a b) t rest = cost_value place ty (tree.or_else a b) t rest
    cost_dropped_value place ty (tree.choose c a b) t rest = cost_value place ty (tree.choose c a b) t rest
    cost_dropped_value place ty (tree.pointer_add a b) t rest = cost_value place ty (tree.pointer_add a b) t rest
    cost_dropped_value place ty (tree.pointer_sub a b) t rest = cost_value place ty (tree.pointer_sub a b) t rest
    cost_dropped_value place ty (tree.pointer_diff a b) t rest = cost_value place ty (tree.pointer_diff a b) t rest
    cost_dropped_value place ty (tree.pointer_compare op a b) t rest = cost_value place ty (tree.pointer_compare op a b) t rest
    cost_dropped_value place ty (tree.pointer_test e) t rest = cost_value place ty (tree.pointer_test e) t rest
    cost_dropped_value place ty (tree.call function es) t rest = cost_weak _ _ _ _ (cost_step _ _ _ _ _ (cost_args es t _) (cost_step _ _ _ _ _ (cost_one _ _ _) (cost_same _))) (omega arith)
    cost_dropped_value place ty (tree.lib which es) t rest = cost_value place ty (tree.lib which es) t rest
