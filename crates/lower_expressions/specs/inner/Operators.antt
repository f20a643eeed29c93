-- What an operator does once the values of its operands are in registers.
use Rattle.std.specs.Prelude.{ℕ, List}
use Rattle.c_tree.specs.Typed as tree
use Rattle.c_meaning.specs.Values.{element_size}
use Rattle.struct_ir.specs.Nodes.{Calc, Nodes}
use Rattle.struct_ir.specs.Nodes as ir
use Rattle.lower_forms.specs.Forms.{sets, negation, converts, is_pointer, sum_calc, number_type}

-- an operator of one operand, whose value is in t; a form that is none does nothing
abbrev pub unary_nodes : (place : ℕ) → tree.Ty → tree.ExprNode → (t : ℕ) → Nodes → Nodes
unary_nodes place ty (tree.convert e) t rest = converts place (tree.type_of e) ty t rest
unary_nodes place ty (tree.not_ e) t rest = negation place (tree.type_of e) t rest
unary_nodes place ty (tree.pointer_test p) t rest = sets place t (ir.pointer_test t) rest
unary_nodes place ty node t rest = rest

-- what an operator of two operands computes of the registers t and u, where the result has the type ty and the first operand the type a;
-- of a form that is none, nothing
abbrev pub operation : List tree.Layout → (ty a : tree.Ty) → tree.ExprNode → (t u : ℕ) → Calc
operation structs ty a (tree.binary op p q) t u = ir.apply op (number_type a) t u
operation structs ty a (tree.pointer_add p q) t u = sum_calc (is_pointer a) t u (element_size structs ty)
operation structs ty a (tree.pointer_sub p n) t u = ir.pointer_sub t u (element_size structs a)
operation structs ty a (tree.pointer_diff p q) t u = ir.pointer_diff t u (element_size structs a)
operation structs ty a (tree.pointer_compare op p q) t u = ir.pointer_compare op t u
operation structs ty a node t u = ir.unset
