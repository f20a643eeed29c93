-- Code files: nodes, functions, globals, and the whole file.
use Rattle.std.specs.Prelude.{ℕ, zero, suc, List, [], ◌∷◌, Option, ℤ}
use Rattle.ak_words.specs.declared.int_type.IntType.{IntType}
use Rattle.c_tree.specs.Typed as tree
use Rattle.c_tree.specs.Typed.{Init}
use Rattle.struct_ir.specs.Nodes as ir
use Rattle.struct_ir.specs.Nodes.{Calc, Step, Call, Node, Nodes, no_nodes, more_nodes, StackObject, Global, Func, Ir}
use Rattle.formats.specs.Formats.{Format, nothing, behind, seen, ◌▸◌, byte, one_of, u32, exactly, list, tagged}
use Rattle.code_file.specs.Numbers.{u32_or_none, int_type, value, zeros}
use Rattle.code_file.specs.Calcs.{calc}
use Rattle.code_file.specs.Actions.{step}

-- ---- a call: to:u32 or none, function:u32, list(temp:u32). Its list of slots isn't in the file: it is that of the safepoint before it

-- the call of these parts, without its list
abbrev pub make_call : Option ℕ × (ℕ × List ℕ) → Call
make_call x = record { to = x.0; function = x.1.0; temps = x.1.1; slots = [] }

-- its parts
abbrev pub call_parts : Call → Option ℕ × (ℕ × List ℕ)
call_parts c = (c.to, (c.function, c.temps))

-- its parts in order
unfoldable pub call : Format Call
call = seen make_call call_parts (u32_or_none ▸ u32 ▸ list u32)

-- ---- nodes: place:u32 tag:u8 fields

-- what a node is
pub data NodeTag : Type 0 where
  set if_ loop break_ next_ call_node ret step_node look safepoint begin_object end_object : NodeTag

-- the tag's byte
abbrev pub node_number : NodeTag → ℕ
node_number set = 0
node_number if_ = 1
node_number loop = 2
node_number break_ = 3
node_number next_ = 4
node_number call_node = 5
node_number ret = 6
node_number step_node = 7
node_number look = 8
node_number safepoint = 9
node_number begin_object = 10
node_number end_object = 11

-- the tags behind the first one
abbrev pub other_nodes : List NodeTag
other_nodes = if_ ∷ loop ∷ break_ ∷ next_ ∷ call_node ∷ ret ∷ step_node ∷ look ∷ safepoint ∷ begin_object ∷ end_object ∷ []

-- one byte
abbrev pub node_tag : Format NodeTag
node_tag = one_of set other_nodes node_number

-- the fields behind a tag
abbrev pub NodeFields : NodeTag → Type 0
NodeFields set = ℕ × Calc
NodeFields if_ = ℕ × (Nodes × Nodes)
NodeFields loop = Nodes × Nodes
NodeFields break_ = Unit {0}
NodeFields next_ = Unit {0}
NodeFields call_node = Call
NodeFields ret = Option ℕ
NodeFields step_node = Step
NodeFields look = ℕ × ℕ
NodeFields safepoint = List ℕ
NodeFields begin_object = ℕ
NodeFields end_object = ℕ

-- a register and what it is set to; a register and two rows of nodes; two rows of nodes; nothing; nothing; a call; a register or none; one
-- action; a slot and a register; slots; the number of an object; and once more
abbrev pub node_fields : Format Nodes → (t : NodeTag) → Format (NodeFields t)
node_fields nodes set = u32 ▸ calc
node_fields nodes if_ = u32 ▸ nodes ▸ nodes
node_fields nodes loop = nodes ▸ nodes
node_fields nodes break_ = nothing
node_fields nodes next_ = nothing
node_fields nodes call_node = call
node_fields nodes ret = u32_or_none
node_fields nodes step_node = step
node_fields nodes look = u32 ▸ u32
node_fields nodes safepoint = list u32
node_fields nodes begin_object = u32
node_fields nodes end_object = u32

-- the node of a place, a tag and its fields
abbrev pub make_node : (place : ℕ) (t : NodeTag) → NodeFields t → Node
make_node p set x = ir.plain p (ir.set x.0 x.1)
make_node p if_ x = ir.if_ p x.0 x.1.0 x.1.1
make_node p loop x = ir.loop p x.0 x.1
make_node p break_ x = ir.break_ p
make_node p next_ x = ir.next_ p
make_node p call_node c = ir.plain p (ir.call c)
make_node p ret temp = ir.ret p temp
make_node p step_node s = ir.plain p (ir.step s)
make_node p look x = ir.plain p (ir.look x.0 x.1)
make_node p safepoint slots = ir.plain p (ir.safepoint slots)
make_node p begin_object n = ir.plain p (ir.begin_object n)
make_node p end_object n = ir.plain p (ir.end_object n)

-- the place, the tag and the fields of a node
abbrev pub node_parts : Node → ℕ × ((t : NodeTag) × NodeFields t)
node_parts (ir.plain p (ir.set to c)) = (p, (set, (to, c)))
node_parts (ir.if_ p temp one other) = (p, (if_, (temp, (one, other))))
node_parts (ir.loop p body latch) = (p, (loop, (body, latch)))
node_parts (ir.break_ p) = (p, (break_, tt))
node_parts (ir.next_ p) = (p, (next_, tt))
node_parts (ir.plain p (ir.call c)) = (p, (call_node, c))
node_parts (ir.ret p temp) = (p, (ret, temp))
node_parts (ir.plain p (ir.step s)) = (p, (step_node, s))
node_parts (ir.plain p (ir.look slot base)) = (p, (look, (slot, base)))
node_parts (ir.plain p (ir.safepoint slots)) = (p, (safepoint, slots))
node_parts (ir.plain p (ir.begin_object n)) = (p, (begin_object, n))
node_parts (ir.plain p (ir.end_object n)) = (p, (end_object, n))

-- a node, where the rows of nodes within have this format
unfoldable pub node : Format Nodes → Format Node
node nodes = seen (λ x. make_node x.0 x.1.0 x.1.1) node_parts (u32 ▸ behind node_tag (node_fields nodes))

-- a row of nodes as a list
abbrev pub list_of : Nodes → List Node
list_of no_nodes = []
list_of (more_nodes n rest) = n ∷ list_of rest

-- a list of nodes as a row
abbrev pub nodes_of : List Node → Nodes
nodes_of [] = no_nodes
nodes_of (n ∷ rest) = more_nodes n (nodes_of rest)

-- rows of nodes, nested at most so deep; within the deepest ones every row is empty
unfoldable pub nodes : (depth : ℕ) → Format Nodes
nodes zero = seen (λ x. no_nodes) (λ ns. tt) (exactly (zeros 4))
nodes (suc depth) = seen nodes_of list_of (list (node (nodes depth)))

-- ---- functions: params:u32 temps:u32 slots:u32 list(object) nodes

-- an object on the stack: size:u32 align:u8
unfoldable pub object : Format StackObject
object = seen (λ x. record { size = x.0; align = x.1 }) (λ o. (o.size, o.align)) (u32 ▸ byte)

-- the function of these parts
abbrev pub make_func : ℕ × (ℕ × (ℕ × (List StackObject × Nodes))) → Func
make_func x = record { params = x.0; temps = x.1.0; slots = x.1.1.0; objects = x.1.1.1.0; nodes = x.1.1.1.1 }

-- its parts
abbrev pub func_parts : Func → ℕ × (ℕ × (ℕ × (List StackObject × Nodes)))
func_parts f = (f.params, (f.temps, (f.slots, (f.objects, f.nodes))))

-- its parts in order
unfoldable pub func : (depth : ℕ) → Format Func
func depth = seen make_func func_parts (u32 ▸ u32 ▸ u32 ▸ list object ▸ nodes depth)

-- ---- globals: size:u32 align:u8, and what one holds at the start

-- what that is
pub data InitTag : Type 0 where
  zero_bytes number literal_at : InitTag

-- the tag's byte
abbrev pub init_number : InitTag → ℕ
init_number zero_bytes = 0
init_number number = 1
init_number literal_at = 2

-- one byte
abbrev pub init_tag : Format InitTag
init_tag = one_of zero_bytes (number ∷ literal_at ∷ []) init_number

-- the fields behind a tag
abbrev pub InitFields : InitTag → Type 0
InitFields zero_bytes = Unit {0}
InitFields number = (t : IntType) × ℤ
InitFields literal_at = ℕ

-- nothing; a type and its value; the number of a literal
abbrev pub init_fields : (t : InitTag) → Format (InitFields t)
init_fields zero_bytes = nothing
init_fields number = behind int_type value
init_fields literal_at = u32

-- what a tag and its fields say
abbrev pub make_init : (t : InitTag) → InitFields t → Init
make_init zero_bytes x = tree.zero_bytes
make_init number x = tree.number x.0 x.1
make_init literal_at n = tree.literal_at n

-- the tag and the fields
abbrev pub init_parts : Init → (t : InitTag) × InitFields t
init_parts tree.zero_bytes = (zero_bytes, tt)
init_parts (tree.number t z) = (number, (t, z))
init_parts (tree.literal_at n) = (literal_at, n)

-- a tag and its fields
unfoldable pub init : Format Init
init = tagged init_tag init_fields make_init init_parts

-- a global
unfoldable pub global : Format Global
global = seen (λ x. record { size = x.0; align = x.1.0; init = x.1.1 }) (λ g. (g.size, (g.align, g.init))) (u32 ▸ byte ▸ init)

-- ---- the file: "ALSK" version:u32=1 main:u32 list(global) list(literal) list(func), where a literal is list(u8)

-- the code of these parts
abbrev pub make_file : Unit {0} × (ℕ × (List Global × (List (List ℕ) × List Func))) → Ir
make_file x = record { main = x.1.0; globals = x.1.1.0; literals = x.1.1.1.0; funcs = x.1.1.1.1 }

-- its parts
abbrev pub file_parts : Ir → Unit {0} × (ℕ × (List Global × (List (List ℕ) × List Func)))
file_parts c = (tt, (c.main, (c.globals, (c.literals, c.funcs))))

-- the eight bytes with which each file begins
abbrev pub begins_file : List ℕ
begins_file = 65 ∷ 76 ∷ 83 ∷ 75 ∷ 1 ∷ 0 ∷ 0 ∷ 0 ∷ []

-- the whole file, of nodes that are nested at most so deep
unfoldable pub file : (depth : ℕ) → Format Ir
file depth = seen make_file file_parts (exactly begins_file ▸ u32 ▸ list global ▸ list (list byte) ▸ list (func depth))
