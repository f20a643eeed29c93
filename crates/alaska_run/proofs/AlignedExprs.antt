-- In the code of expressions each copy is aligned to 1, 2, 4 or 8 bytes.
use Rattle.std.proofs.Common.{ℕ, suc, Bool, true, false, if◌then◌else◌, Option, Some, None, refl}
use Rattle.ak_words.specs.declared.int_type.IntType.{IntType}
use Rattle.ak_words.specs.IntType.{promoted_type}
use Rattle.c_tree.specs.Typed as tree
use Rattle.struct_ir.specs.Nodes.{Nodes, no_nodes, convert}
use Rattle.struct_ir.specs.meaning.Blocks.{same_type}
use Rattle.lower_forms.specs.Forms.{Frame, home, local_value, local_place, sets, number_type, converts_number, converts, negation, lib_nodes, expr_nodes, value_nodes, place_nodes, object_place, args_nodes}
use Rattle.alaska_run.proofs.AlignedRows.{AreAligned}

-- ---- parts of expressions

local_aligned : (place : ℕ) (ty : tree.Ty) (n t : ℕ) (o : Option ℕ) (rest : Nodes) → AreAligned rest → AreAligned (local_value place ty n t o rest)
local_aligned place ty n t None rest g = (tt, g)
local_aligned place ty n t (Some object) rest g = (tt, (tt, (tt, g)))

local_place_aligned : (place n t : ℕ) (o : Option ℕ) (rest : Nodes) → AreAligned rest → AreAligned (local_place place n t o rest)
local_place_aligned place n t None rest g = (tt, g)
local_place_aligned place n t (Some object) rest g = (tt, (tt, g))

pub becomes_aligned : (place : ℕ) (s u : IntType) (t : ℕ) (rest : Nodes) → AreAligned rest → AreAligned (converts_number place s u t rest)
becomes_aligned place s u t rest g = by_type (same_type s u)
  where
    by_type : (same : Bool) → AreAligned (if same then rest else sets place t (convert u t) rest)
    by_type true = g
    by_type false = (tt, g)

converts_aligned : (place : ℕ) (from ty : tree.Ty) (t : ℕ) (rest : Nodes) → AreAligned rest → AreAligned (converts place from ty t rest)
converts_aligned place from tree.void t rest g = g
converts_aligned place from (tree.integer s) t rest g = becomes_aligned place (number_type from) s t rest g
converts_aligned place from (tree.atomic s) t rest g = g
converts_aligned place from tree.mutex t rest g = g
converts_aligned place from (tree.pointer s) t rest g = g
converts_aligned place from (tree.array s n) t rest g = g
converts_aligned place from (tree.structure n) t rest g = g

negation_aligned : (place : ℕ) (ty : tree.Ty) (t : ℕ) (rest : Nodes) → AreAligned rest → AreAligned (negation place ty t rest)
negation_aligned place tree.void t rest g = (((tt, tt), (tt, tt)), g)
negation_aligned place (tree.integer s) t rest g = becomes_aligned place s (promoted_type s) t _ (tt, (tt, g))
negation_aligned place (tree.atomic s) t rest g = (((tt, tt), (tt, tt)), g)
negation_aligned place tree.mutex t rest g = (((tt, tt), (tt, tt)), g)
negation_aligned place (tree.pointer s) t rest g = (((tt, tt), (tt, tt)), g)
negation_aligned place (tree.array s n) t rest g = (((tt, tt), (tt, tt)), g)
negation_aligned place (tree.structure n) t rest g = (((tt, tt), (tt, tt)), g)

lib_aligned : (place : ℕ) (which : tree.Lib) (es : tree.Exprs) (t : ℕ) (rest : Nodes) → AreAligned rest → AreAligned (lib_nodes place which es t rest)
lib_aligned place (tree.print pieces) es t rest g = (tt, g)
lib_aligned place tree.malloc es t rest g = (tt, g)
lib_aligned place tree.calloc es t rest g = (tt, g)
lib_aligned place tree.realloc es t rest g = (tt, g)
lib_aligned place tree.free es t rest g = (tt, g)
lib_aligned place tree.copy es t rest g = (refl, g)
lib_aligned place (tree.start function) es t rest g = (tt, g)
lib_aligned place tree.join es t rest g = (tt, g)
lib_aligned place tree.mutex_init es t rest g = (tt, (tt, (tt, g)))
lib_aligned place tree.mutex_lock es t rest g = (tt, (tt, g))
lib_aligned place tree.mutex_unlock es t rest g = (tt, (tt, g))
lib_aligned place tree.mutex_destroy es t rest g = (tt, g)
lib_aligned place tree.atomic_add es t rest g = (tt, g)
lib_aligned place tree.atomic_sub es t rest g = (tt, (tt, (tt, (tt, (tt, g)))))
lib_aligned place tree.atomic_swap es t rest g = (tt, g)
lib_aligned place tree.atomic_compare es t rest g = (tt, g)
lib_aligned place tree.atomic_store es t rest g = (tt, g)

-- ---- expressions

module _ (f : Frame) where
  mutual
    pub expr_aligned : (e : tree.Expr) (t : ℕ) (rest : Nodes) → AreAligned rest → AreAligned (expr_nodes f e t rest)
    expr_aligned (tree.at place ty node) t rest g = value_aligned place ty node t rest g

    pub value_aligned : (place : ℕ) (ty : tree.Ty) (node : tree.ExprNode) (t : ℕ) (rest : Nodes) → AreAligned rest → AreAligned (value_nodes f place ty node t rest)
    value_aligned place ty (tree.num u z) t rest g = (tt, g)
    value_aligned place ty tree.null t rest g = (tt, g)
    value_aligned place ty (tree.literal n) t rest g = (tt, (tt, g))
    value_aligned place ty (tree.global n) t rest g = (tt, (tt, g))
    value_aligned place ty (tree.local n) t rest g = local_aligned place ty n t (home f n) rest g
    value_aligned place ty (tree.deref e) t rest g = expr_aligned e t _ (tt, g)
    value_aligned place ty (tree.member e m) t rest g = place_aligned e t _ (tt, (tt, (tt, g)))
    value_aligned place ty (tree.address_of e) t rest g = place_aligned e t rest g
    value_aligned place ty (tree.decay e) t rest g = place_aligned e t rest g
    value_aligned place ty (tree.convert e) t rest g = expr_aligned e t _ (converts_aligned place (tree.type_of e) ty t rest g)
    value_aligned place ty (tree.not_ e) t rest g = expr_aligned e t _ (negation_aligned place (tree.type_of e) t rest g)
    value_aligned place ty (tree.binary op d e) t rest g = expr_aligned d t _ (expr_aligned e (suc t) _ (tt, g))
    value_aligned place ty (tree.and_also d e) t rest g =
        expr_aligned d t _ ((expr_aligned e t _ (((tt, tt), (tt, tt)), tt), (tt, tt)), g)
    value_aligned place ty (tree.or_else d e) t rest g =
        expr_aligned d t _ (((tt, tt), expr_aligned e t _ (((tt, tt), (tt, tt)), tt)), g)
    value_aligned place ty (tree.choose b d e) t rest g =
        expr_aligned b t _ ((expr_aligned d t no_nodes tt, expr_aligned e t no_nodes tt), g)
    value_aligned place ty (tree.pointer_add d e) t rest g =
        expr_aligned d t _ (expr_aligned e (suc t) _ (tt, g))
    value_aligned place ty (tree.pointer_sub d e) t rest g = expr_aligned d t _ (expr_aligned e (suc t) _ (tt, g))
    value_aligned place ty (tree.pointer_diff d e) t rest g =
        expr_aligned d t _ (expr_aligned e (suc t) _ (tt, g))
    value_aligned place ty (tree.pointer_compare op d e) t rest g = expr_aligned d t _ (expr_aligned e (suc t) _ (tt, g))
    value_aligned place ty (tree.pointer_test p) t rest g = expr_aligned p t _ (tt, g)
    value_aligned place ty (tree.call function es) t rest g = args_aligned es t _ (tt, (tt, g))
    value_aligned place ty (tree.lib which es) t rest g = args_aligned es t _ (lib_aligned place which es t rest g)

    pub place_aligned : (e : tree.Expr) (t : ℕ) (rest : Nodes) → AreAligned rest → AreAligned (place_nodes f e t rest)
    place_aligned (tree.at place ty node) t rest g = object_aligned place node t rest g

    pub object_aligned : (place : ℕ) (node : tree.ExprNode) (t : ℕ) (rest : Nodes) → AreAligned rest → AreAligned (object_place f place node t rest)
    object_aligned place (tree.literal n) t rest g = (tt, g)
    object_aligned place (tree.global n) t rest g = (tt, g)
    object_aligned place (tree.local n) t rest g = local_place_aligned place n t (home f n) rest g
    object_aligned place (tree.deref e) t rest g = expr_aligned e t rest g
    object_aligned place (tree.member e m) t rest g = place_aligned e t _ (tt, (tt, g))
    object_aligned place node t rest g = g

    pub args_aligned : (es : tree.Exprs) (t : ℕ) (rest : Nodes) → AreAligned rest → AreAligned (args_nodes f es t rest)
    args_aligned tree.no_exprs t rest g = g
    args_aligned (tree.more_exprs e es) t rest g = expr_aligned e t _ (args_aligned es (suc t) rest g)
