-- The code of expressions is not deep.
use Rattle.std.proofs.Common.{ℕ, suc, ◌*◌, ◌≤◌, Bool, true, false, if◌then◌else◌, Option, Some, None, arith}
use Rattle.std.specs.Prelude.{max}
use Rattle.ak_words.specs.declared.int_type.IntType.{IntType}
use Rattle.c_tree.specs.Typed as tree
use Rattle.c_meaning.specs.Values.{is_scalar}
use Rattle.struct_ir.specs.Nodes.{Act, Nodes, no_nodes, more_nodes, plain}
use Rattle.struct_ir.specs.meaning.Blocks.{same_type}
use Rattle.lower_forms.specs.Forms.{Frame, home, branches, sets_truth, is_void, local_value, local_place, number_type, converts_number, converts, negation, lib_nodes, expr_nodes, value_nodes, place_nodes, object_place, args_nodes, dropped_nodes, dropped_value}
use Rattle.lower_forms.specs.Sizes.{nested_in, expr_depth, depth_inside, args_depth}

-- the first row is the second with nodes before it that are nested at most so deep
pub record NoDeeper (n : Nodes) (a : ℕ) (r : Nodes) : Type 0 where
  pub most : nested_in n ≤ max a (nested_in r)

pub deep_step : (n : Nodes) (a : ℕ) (r : Nodes) (b : ℕ) (q : Nodes) → NoDeeper n a r → NoDeeper r b q → NoDeeper n (max a b) q
deep_step n a r b q h k = record { most = omega (arith, h.most, k.most) }

pub deep_weak : (n : Nodes) (a b : ℕ) (q : Nodes) → NoDeeper n a q → a ≤ b → NoDeeper n b q
deep_weak n a b q h k = record { most = omega (arith, h.most, k) }

pub deep_same : (q : Nodes) → NoDeeper q 0 q
deep_same q = record { most = omega arith }

pub deep_one : (place : ℕ) (a : Act) (rest : Nodes) → NoDeeper (more_nodes (plain place a) rest) 1 rest
deep_one place a rest = record { most = omega arith }

pub deep_branch : (place t : ℕ) (one other rest : Nodes) (a b : ℕ) → NoDeeper one a no_nodes → NoDeeper other b no_nodes → NoDeeper (branches place t one other rest) (suc (max a b)) rest
deep_branch place t one other rest a b h k = record { most = omega (arith, h.most, k.most) }

pub deep_either : (b : Bool) (x y : Nodes) (a : ℕ) (q : Nodes) → NoDeeper x a q → NoDeeper y a q → NoDeeper (if b then x else y) a q
deep_either true x y a q h k = h
deep_either false x y a q h k = k

pub deep_becomes : (place : ℕ) (s u : IntType) (t : ℕ) (rest : Nodes) → NoDeeper (converts_number place s u t rest) 1 rest
deep_becomes place s u t rest = deep_either (same_type s u) _ _ _ _ (deep_weak _ _ _ _ (deep_same rest) (omega arith)) (deep_one _ _ _)

deep_truth : (place t m n : ℕ) (rest : Nodes) → NoDeeper (sets_truth place t m n rest) 2 rest
deep_truth place t m n rest = deep_branch _ _ _ _ _ _ _ (deep_one _ _ _) (deep_one _ _ _)

module _ (f : Frame) where
  deep_local : (place : ℕ) (ty : tree.Ty) (m t : ℕ) (o : Option ℕ) (rest : Nodes) → NoDeeper (local_value place ty m t o rest) (1) rest
  deep_local place ty m t None rest = deep_weak _ _ _ _ (deep_step _ _ _ _ _ (deep_one _ _ _) (deep_same _)) (omega arith)
  deep_local place ty m t (Some k) rest = deep_weak _ _ _ _ (deep_step _ _ _ _ _ (deep_one _ _ _) (deep_step _ _ _ _ _ (deep_one _ _ _) (deep_step _ _ _ _ _ (deep_one _ _ _) (deep_same _)))) (omega arith)

  deep_local_place : (place m t : ℕ) (o : Option ℕ) (rest : Nodes) → NoDeeper (local_place place m t o rest) (1) rest
  deep_local_place place m t None rest = deep_weak _ _ _ _ (deep_step _ _ _ _ _ (deep_one _ _ _) (deep_same _)) (omega arith)
  deep_local_place place m t (Some k) rest = deep_weak _ _ _ _ (deep_step _ _ _ _ _ (deep_one _ _ _) (deep_step _ _ _ _ _ (deep_one _ _ _) (deep_same _))) (omega arith)

  deep_converts : (place : ℕ) (from ty : tree.Ty) (t : ℕ) (rest : Nodes) → NoDeeper (converts place from ty t rest) (1) rest
  deep_converts place from tree.void t rest = deep_weak _ _ _ _ (deep_same _) (omega arith)
  deep_converts place from (tree.integer s) t rest = deep_becomes place (number_type from) s t rest
  deep_converts place from (tree.atomic s) t rest = deep_weak _ _ _ _ (deep_same _) (omega arith)
  deep_converts place from tree.mutex t rest = deep_weak _ _ _ _ (deep_same _) (omega arith)
  deep_converts place from (tree.pointer s) t rest = deep_weak _ _ _ _ (deep_same _) (omega arith)
  deep_converts place from (tree.array s m) t rest = deep_weak _ _ _ _ (deep_same _) (omega arith)
  deep_converts place from (tree.structure m) t rest = deep_weak _ _ _ _ (deep_same _) (omega arith)

  deep_negation : (place : ℕ) (ty : tree.Ty) (t : ℕ) (rest : Nodes) → NoDeeper (negation place ty t rest) (2) rest
  deep_negation place (tree.integer s) t rest = deep_weak _ _ _ _ (deep_step _ _ _ _ _ (deep_becomes place s _ t _) (deep_step _ _ _ _ _ (deep_one _ _ _) (deep_one _ _ _))) (omega arith)
  deep_negation place tree.void t rest = deep_truth place t 0 1 rest
  deep_negation place (tree.atomic s) t rest = deep_truth place t 0 1 rest
  deep_negation place tree.mutex t rest = deep_truth place t 0 1 rest
  deep_negation place (tree.pointer s) t rest = deep_truth place t 0 1 rest
  deep_negation place (tree.array s m) t rest = deep_truth place t 0 1 rest
  deep_negation place (tree.structure m) t rest = deep_truth place t 0 1 rest

  deep_lib : (place : ℕ) (which : tree.Lib) (es : tree.Exprs) (t : ℕ) (rest : Nodes) → NoDeeper (lib_nodes place which es t rest) (1) rest
  deep_lib place (tree.print pieces) es t rest = deep_weak _ _ _ _ (deep_step _ _ _ _ _ (deep_one _ _ _) (deep_same _)) (omega arith)
  deep_lib place tree.malloc es t rest = deep_weak _ _ _ _ (deep_step _ _ _ _ _ (deep_one _ _ _) (deep_same _)) (omega arith)
  deep_lib place tree.calloc es t rest = deep_weak _ _ _ _ (deep_step _ _ _ _ _ (deep_one _ _ _) (deep_same _)) (omega arith)
  deep_lib place tree.realloc es t rest = deep_weak _ _ _ _ (deep_step _ _ _ _ _ (deep_one _ _ _) (deep_same _)) (omega arith)
  deep_lib place tree.free es t rest = deep_weak _ _ _ _ (deep_step _ _ _ _ _ (deep_one _ _ _) (deep_same _)) (omega arith)
  deep_lib place tree.copy es t rest = deep_weak _ _ _ _ (deep_step _ _ _ _ _ (deep_one _ _ _) (deep_same _)) (omega arith)
  deep_lib place (tree.start function) es t rest = deep_weak _ _ _ _ (deep_step _ _ _ _ _ (deep_one _ _ _) (deep_same _)) (omega arith)
  deep_lib place tree.join es t rest = deep_weak _ _ _ _ (deep_step _ _ _ _ _ (deep_one _ _ _) (deep_same _)) (omega arith)
  deep_lib place tree.mutex_init es t rest = deep_weak _ _ _ _ (deep_step _ _ _ _ _ (deep_one _ _ _) (deep_step _ _ _ _ _ (deep_one _ _ _) (deep_step _ _ _ _ _ (deep_one _ _ _) (deep_same _)))) (omega arith)
  deep_lib place tree.mutex_lock es t rest = deep_weak _ _ _ _ (deep_step _ _ _ _ _ (deep_one _ _ _) (deep_step _ _ _ _ _ (deep_one _ _ _) (deep_same _))) (omega arith)
  deep_lib place tree.mutex_unlock es t rest = deep_weak _ _ _ _ (deep_step _ _ _ _ _ (deep_one _ _ _) (deep_step _ _ _ _ _ (deep_one _ _ _) (deep_same _))) (omega arith)
  deep_lib place tree.mutex_destroy es t rest = deep_weak _ _ _ _ (deep_step _ _ _ _ _ (deep_one _ _ _) (deep_same _)) (omega arith)
  deep_lib place tree.atomic_add es t rest = deep_weak _ _ _ _ (deep_step _ _ _ _ _ (deep_one _ _ _) (deep_same _)) (omega arith)
  deep_lib place tree.atomic_sub es t rest = deep_weak _ _ _ _ (deep_step _ _ _ _ _ (deep_one _ _ _) (deep_step _ _ _ _ _ (deep_one _ _ _) (deep_step _ _ _ _ _ (deep_one _ _ _) (deep_step _ _ _ _ _ (deep_one _ _ _) (deep_step _ _ _ _ _ (deep_one _ _ _) (deep_same _)))))) (omega arith)
  deep_lib place tree.atomic_swap es t rest = deep_weak _ _ _ _ (deep_step _ _ _ _ _ (deep_one _ _ _) (deep_same _)) (omega arith)
  deep_lib place tree.atomic_compare es t rest = deep_weak _ _ _ _ (deep_step _ _ _ _ _ (deep_one _ _ _) (deep_same _)) (omega arith)
  deep_lib place tree.atomic_store es t rest = deep_weak _ _ _ _ (deep_step _ _ _ _ _ (deep_one _ _ _) (deep_same _)) (omega arith)

  mutual
    pub deep_expr : (e : tree.Expr) (t : ℕ) (rest : Nodes) → NoDeeper (expr_nodes f e t rest) (3 * expr_depth e) rest
    deep_expr (tree.at place ty node) t rest = deep_value place ty node t rest

    pub deep_value : (place : ℕ) (ty : tree.Ty) (node : tree.ExprNode) (t : ℕ) (rest : Nodes) → NoDeeper (value_nodes f place ty node t rest) (3 * suc (depth_inside node)) rest
    deep_value place ty (tree.num u z) t rest = deep_weak _ _ _ _ (deep_step _ _ _ _ _ (deep_one _ _ _) (deep_same _)) (omega arith)
    deep_value place ty tree.null t rest = deep_weak _ _ _ _ (deep_step _ _ _ _ _ (deep_one _ _ _) (deep_same _)) (omega arith)
    deep_value place ty (tree.literal m) t rest = deep_weak _ _ _ _ (deep_step _ _ _ _ _ (deep_one _ _ _) (deep_step _ _ _ _ _ (deep_one _ _ _) (deep_same _))) (omega arith)
    deep_value place ty (tree.global m) t rest = deep_weak _ _ _ _ (deep_step _ _ _ _ _ (deep_one _ _ _) (deep_step _ _ _ _ _ (deep_one _ _ _) (deep_same _))) (omega arith)
    deep_value place ty (tree.local m) t rest = deep_weak _ _ _ _ (deep_step _ _ _ _ _ (deep_local place ty m t (home f m) rest) (deep_same _)) (omega arith)
    deep_value place ty (tree.deref e) t rest = deep_weak _ _ _ _ (deep_step _ _ _ _ _ (deep_expr e t _) (deep_step _ _ _ _ _ (deep_one _ _ _) (deep_same _))) (omega arith)
    deep_value place ty (tree.member e m) t rest = deep_weak _ _ _ _ (deep_step _ _ _ _ _ (deep_place e t _) (deep_step _ _ _ _ _ (deep_one _ _ _) (deep_step _ _ _ _ _ (deep_one _ _ _) (deep_step _ _ _ _ _ (deep_one _ _ _) (deep_same _))))) (omega arith)
    deep_value place ty (tree.address_of e) t rest = deep_weak _ _ _ _ (deep_step _ _ _ _ _ (deep_place e t _) (deep_same _)) (omega arith)
    deep_value place ty (tree.decay e) t rest = deep_weak _ _ _ _ (deep_step _ _ _ _ _ (deep_place e t _) (deep_same _)) (omega arith)
    deep_value place ty (tree.convert e) t rest = deep_weak _ _ _ _ (deep_step _ _ _ _ _ (deep_expr e t _) (deep_step _ _ _ _ _ (deep_converts place (tree.type_of e) ty t rest) (deep_same _))) (omega arith)
    deep_value place ty (tree.not_ e) t rest = deep_weak _ _ _ _ (deep_step _ _ _ _ _ (deep_expr e t _) (deep_negation place (tree.type_of e) t rest)) (omega arith)
    deep_value place ty (tree.binary op a b) t rest = deep_weak _ _ _ _ (deep_step _ _ _ _ _ (deep_expr a t _) (deep_step _ _ _ _ _ (deep_expr b (suc t) _) (deep_step _ _ _ _ _ (deep_one _ _ _) (deep_same _)))) (omega arith)
    deep_value place ty (tree.and_also a b) t rest = deep_weak _ _ _ _ (deep_step _ _ _ _ _ (deep_expr a t _) (deep_step _ _ _ _ _ (deep_branch _ _ _ _ _ _ _ (deep_step _ _ _ _ _ (deep_expr b t _) (deep_step _ _ _ _ _ (deep_branch _ _ _ _ _ _ _ (deep_step _ _ _ _ _ (deep_one _ _ _) (deep_same _)) (deep_step _ _ _ _ _ (deep_one _ _ _) (deep_same _))) (deep_same _))) (deep_step _ _ _ _ _ (deep_one _ _ _) (deep_same _))) (deep_same _))) (omega arith)
    deep_value place ty (tree.or_else a b) t rest = deep_weak _ _ _ _ (deep_step _ _ _ _ _ (deep_expr a t _) (deep_step _ _ _ _ _ (deep_branch _ _ _ _ _ _ _ (deep_step _ _ _ _ _ (deep_one _ _ _) (deep_same _)) (deep_step _ _ _ _ _ (deep_expr b t _) (deep_step _ _ _ _ _ (deep_branch _ _ _ _ _ _ _ (deep_step _ _ _ _ _ (deep_one _ _ _) (deep_same _)) (deep_step _ _ _ _ _ (deep_one _ _ _) (deep_same _))) (deep_same _)))) (deep_same _))) (omega arith)
    deep_value place ty (tree.choose c a b) t rest = deep_weak _ _ _ _ (deep_step _ _ _ _ _ (deep_expr c t _) (deep_step _ _ _ _ _ (deep_branch _ _ _ _ _ _ _ (deep_step _ _ _ _ _ (deep_expr a t _) (deep_same _)) (deep_step _ _ _ _ _ (deep_expr b t _) (deep_same _))) (deep_same _))) (omega arith)
    deep_value place ty (tree.pointer_add a b) t rest = deep_weak _ _ _ _ (deep_step _ _ _ _ _ (deep_expr a t _) (deep_step _ _ _ _ _ (deep_expr b (suc t) _) (deep_step _ _ _ _ _ (deep_one _ _ _) (deep_same _)))) (omega arith)
    deep_value place ty (tree.pointer_sub a b) t rest = deep_weak _ _ _ _ (deep_step _ _ _ _ _ (deep_expr a t _) (deep_step _ _ _ _ _ (deep_expr b (suc t) _) (deep_step _ _ _ _ _ (deep_one _ _ _) (deep_same _)))) (omega arith)
    deep_value place ty (tree.pointer_diff a b) t rest = deep_weak _ _ _ _ (deep_step _ _ _ _ _ (deep_expr a t _) (deep_step _ _ _ _ _ (deep_expr b (suc t) _) (deep_step _ _ _ _ _ (deep_one _ _ _) (deep_same _)))) (omega arith)
    deep_value place ty (tree.pointer_compare op a b) t rest = deep_weak _ _ _ _ (deep_step _ _ _ _ _ (deep_expr a t _) (deep_step _ _ _ _ _ (deep_expr b (suc t) _) (deep_step _ _ _ _ _ (deep_one _ _ _) (deep_same _)))) (omega arith)
    deep_value place ty (tree.pointer_test e) t rest = deep_weak _ _ _ _ (deep_step _ _ _ _ _ (deep_expr e t _) (deep_step _ _ _ _ _ (deep_one _ _ _) (deep_same _))) (omega arith)
    deep_value place ty (tree.call function es) t rest = deep_weak _ _ _ _ (deep_step _ _ _ _ _ (deep_args es t _) (deep_step _ _ _ _ _ (deep_one _ _ _) (deep_step _ _ _ _ _ (deep_one _ _ _) (deep_same _)))) (omega arith)
    deep_value place ty (tree.lib which es) t rest = deep_weak _ _ _ _ (deep_step _ _ _ _ _ (deep_args es t _) (deep_step _ _ _ _ _ (deep_lib place which es t rest) (deep_same _))) (omega arith)

    pub deep_place : (e : tree.Expr) (t : ℕ) (rest : Nodes) → NoDeeper (place_nodes f e t rest) (3 * expr_depth e) rest
    deep_place (tree.at place ty node) t rest = deep_object_place place node t rest

    pub deep_object_place : (place : ℕ) (node : tree.ExprNode) (t : ℕ) (rest : Nodes) → NoDeeper (object_place f place node t rest) (3 * suc (depth_inside node)) rest
    deep_object_place place (tree.num u z) t rest = deep_weak _ _ _ _ (deep_same _) (omega arith)
    deep_object_place place tree.null t rest = deep_weak _ _ _ _ (deep_same _) (omega arith)
    deep_object_place place (tree.literal m) t rest = deep_weak _ _ _ _ (deep_step _ _ _ _ _ (deep_one _ _ _) (deep_same _)) (omega arith)
    deep_object_place place (tree.global m) t rest = deep_weak _ _ _ _ (deep_step _ _ _ _ _ (deep_one _ _ _) (deep_same _)) (omega arith)
    deep_object_place place (tree.local m) t rest = deep_weak _ _ _ _ (deep_step _ _ _ _ _ (deep_local_place place m t (home f m) rest) (deep_same _)) (omega arith)
    deep_object_place place (tree.deref e) t rest = deep_weak _ _ _ _ (deep_step _ _ _ _ _ (deep_expr e t _) (deep_same _)) (omega arith)
    deep_object_place place (tree.member e m) t rest = deep_weak _ _ _ _ (deep_step _ _ _ _ _ (deep_place e t _) (deep_step _ _ _ _ _ (deep_one _ _ _) (deep_step _ _ _ _ _ (deep_one _ _ _) (deep_same _)))) (omega arith)
    deep_object_place place (tree.address_of e) t rest = deep_weak _ _ _ _ (deep_same _) (omega arith)
    deep_object_place place (tree.decay e) t rest = deep_weak _ _ _ _ (deep_same _) (omega arith)
    deep_object_place place (tree.convert e) t rest = deep_weak _ _ _ _ (deep_same _) (omega arith)
    deep_object_place place (tree.not_ e) t rest = deep_weak _ _ _ _ (deep_same _) (omega arith)
    deep_object_place place (tree.binary op a b) t rest = deep_weak _ _ _ _ (deep_same _) (omega arith)
    deep_object_place place (tree.and_also a b) t rest = deep_weak _ _ _ _ (deep_same _) (omega arith)
    deep_object_place place (tree.or_else a b) t rest = deep_weak _ _ _ _ (deep_same _) (omega arith)
    deep_object_place place (tree.choose c a b) t rest = deep_weak _ _ _ _ (deep_same _) (omega arith)
    deep_object_place place (tree.pointer_add a b) t rest = deep_weak _ _ _ _ (deep_same _) (omega arith)
    deep_object_place place (tree.pointer_sub a b) t rest = deep_weak _ _ _ _ (deep_same _) (omega arith)
    deep_object_place place (tree.pointer_diff a b) t rest = deep_weak _ _ _ _ (deep_same _) (omega arith)
    deep_object_place place (tree.pointer_compare op a b) t rest = deep_weak _ _ _ _ (deep_same _) (omega arith)
    deep_object_place place (tree.pointer_test e) t rest = deep_weak _ _ _ _ (deep_same _) (omega arith)
    deep_object_place place (tree.call function es) t rest = deep_weak _ _ _ _ (deep_same _) (omega arith)
    deep_object_place place (tree.lib which es) t rest = deep_weak _ _ _ _ (deep_same _) (omega arith)

    pub deep_args : (es : tree.Exprs) (t : ℕ) (rest : Nodes) → NoDeeper (args_nodes f es t rest) (3 * args_depth es) rest
    deep_args tree.no_exprs t rest = deep_weak _ _ _ _ (deep_same _) (omega arith)
    deep_args (tree.more_exprs e es) t rest = deep_weak _ _ _ _ (deep_step _ _ _ _ _ (deep_expr e t _) (deep_step _ _ _ _ _ (deep_args es (suc t) _) (deep_same _))) (omega arith)

  mutual
    pub deep_dropped : (e : tree.Expr) (t : ℕ) (rest : Nodes) → NoDeeper (dropped_nodes f e t rest) (3 * expr_depth e) rest
    deep_dropped (tree.at place ty node) t rest = deep_dropped_value place ty node t rest

    deep_dropped_value : (place : ℕ) (ty : tree.Ty) (node : tree.ExprNode) (t : ℕ) (rest : Nodes) → NoDeeper (dropped_value f place ty node t rest) (3 * suc (depth_inside node)) rest
    deep_dropped_value place ty (tree.num u z) t rest = deep_value place ty (tree.num u z) t rest
    deep_dropped_value place ty tree.null t rest = deep_value place ty tree.null t rest
    deep_dropped_value place ty (tree.literal m) t rest = deep_either (is_scalar ty) _ _ _ _ (deep_value place ty (tree.literal m) t rest) (deep_object_place place (tree.literal m) t rest)
    deep_dropped_value place ty (tree.global m) t rest = deep_either (is_scalar ty) _ _ _ _ (deep_value place ty (tree.global m) t rest) (deep_object_place place (tree.global m) t rest)
    deep_dropped_value place ty (tree.local m) t rest = deep_either (is_scalar ty) _ _ _ _ (deep_value place ty (tree.local m) t rest) (deep_object_place place (tree.local m) t rest)
    deep_dropped_value place ty (tree.deref e) t rest = deep_either (is_scalar ty) _ _ _ _ (deep_value place ty (tree.deref e) t rest) (deep_object_place place (tree.deref e) t rest)
    deep_dropped_value place ty (tree.member e m) t rest = deep_either (is_scalar ty) _ _ _ _ (deep_value place ty (tree.member e m) t rest) (deep_object_place place (tree.member e m) t rest)
    deep_dropped_value place ty (tree.address_of e) t rest = deep_value place ty (tree.address_of e) t rest
    deep_dropped_value place ty (tree.decay e) t rest = deep_value place ty (tree.decay e) t rest
    deep_dropped_value place ty (tree.convert e) t rest = deep_either (is_void ty) _ _ _ _ (deep_weak _ _ _ _ (deep_step _ _ _ _ _ (deep_dropped e t rest) (deep_same _)) (omega arith)) (deep_value place ty (tree.convert e) t rest)
    deep_dropped_value place ty (tree.not_ e) t rest = deep_value place ty (tree.not_ e) t rest
    deep_dropped_value place ty (tree.binary op a b) t rest = deep_value place ty (tree.binary op a b) t rest
    deep_dropped_value place ty (tree.and_also a b) t rest = deep_value place ty (tree.and_also a b) t rest
    deep_dropped_value place ty (tree.or_else a b) t rest = deep_value place ty (tree.or_else a b) t rest
    deep_dropped_value place ty (tree.choose c a b) t rest = deep_value place ty (tree.choose c a b) t rest
    deep_dropped_value place ty (tree.pointer_add a b) t rest = deep_value place ty (tree.pointer_add a b) t rest
    deep_dropped_value place ty (tree.pointer_sub a b) t rest = deep_value place ty (tree.pointer_sub a b) t rest
    deep_dropped_value place ty (tree.pointer_diff a b) t rest = deep_value place ty (tree.pointer_diff a b) t rest
    deep_dropped_value place ty (tree.pointer_compare op a b) t rest = deep_value place ty (tree.pointer_compare op a b) t rest
    deep_dropped_value place ty (tree.pointer_test e) t rest = deep_value place ty (tree.pointer_test e) t rest
    deep_dropped_value place ty (tree.call function es) t rest = deep_weak _ _ _ _ (deep_step _ _ _ _ _ (deep_args es t _) (deep_step _ _ _ _ _ (deep_one _ _ _) (deep_same _))) (omega arith)
    deep_dropped_value place ty (tree.lib which es) t rest = deep_value place ty (tree.lib which es) t rest
