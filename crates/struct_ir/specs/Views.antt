-- What the code's nodes are.
use Rattle.std.specs.Prelude.{ℕ, pos, List, [], ◌∷◌, map}
use Rattle.ak_words.specs.Num.{num}
use Rattle.c_tree.specs.TypedViews.{piece_view, init_view}
use Rattle.struct_ir.specs.declared.code.Place.{Place as CodePlace}
use Rattle.struct_ir.specs.declared.code.Calc.{Calc as CodeCalc}
use Rattle.struct_ir.specs.declared.code.Calc.TheVariants as calcs
use Rattle.struct_ir.specs.declared.code.Action.{Action as CodeAction}
use Rattle.struct_ir.specs.declared.code.Action.TheVariants as actions
use Rattle.struct_ir.specs.declared.code.StepNode.{StepNode}
use Rattle.struct_ir.specs.declared.code.CallNode.{CallNode}
use Rattle.struct_ir.specs.declared.code.Node.{Node as CodeNode}
use Rattle.struct_ir.specs.declared.code.NodeKind.{NodeKind, Row_of-Node, end_of-Node, more_of-Node}
use Rattle.struct_ir.specs.declared.code.NodeKind.TheVariants as kinds
use Rattle.struct_ir.specs.declared.code.StackObject.{StackObject as CodeObject}
use Rattle.struct_ir.specs.declared.code.IrGlobal.{IrGlobal}
use Rattle.struct_ir.specs.declared.code.IrFunc.{IrFunc}
use Rattle.struct_ir.specs.Nodes as nodes

-- where an access goes
abbrev pub place_view : CodePlace → nodes.Place
place_view a = record { base = a.base; index = a.index; scale = a.scale; offset = a.offset; slot = a.slot }

-- what a register is set to
abbrev pub calc_view : CodeCalc → nodes.Calc
calc_view (calcs.Num ty bits) = nodes.constant ty (num ty (pos bits)).value
calc_view calcs.Unset = nodes.unset
calc_view calcs.Null = nodes.null
calc_view (calcs.Global n) = nodes.global n
calc_view (calcs.Literal n) = nodes.literal n
calc_view (calcs.Object n) = nodes.object n
calc_view (calcs.Copy t) = nodes.copy t
calc_view (calcs.Convert to t) = nodes.convert to t
calc_view (calcs.Apply op t a b) = nodes.apply op t a b
calc_view (calcs.PtrAdd p n scale) = nodes.pointer_add p n scale
calc_view (calcs.PtrSub p n scale) = nodes.pointer_sub p n scale
calc_view (calcs.PtrDiff p q scale) = nodes.pointer_diff p q scale
calc_view (calcs.PtrCompare op p q) = nodes.pointer_compare op p q
calc_view (calcs.PtrTest p) = nodes.pointer_test p

-- an action
abbrev pub action_view : CodeAction → nodes.Action
action_view (actions.Load how) = nodes.load how
action_view (actions.Store how) = nodes.store how
action_view (actions.Copy align same) = nodes.copy_bytes align same
action_view actions.Malloc = nodes.malloc
action_view actions.Calloc = nodes.calloc
action_view actions.Realloc = nodes.realloc
action_view actions.Free = nodes.free
action_view (actions.Change how t) = nodes.change how t
action_view (actions.Compare t) = nodes.compare t
action_view (actions.Print pieces) = nodes.print (map piece_view pieces.items)
action_view actions.Lock = nodes.lock
action_view actions.Unlock = nodes.unlock
action_view actions.Destroy = nodes.destroy
action_view (actions.Start f) = nodes.start f
action_view actions.Join = nodes.join

-- a step
abbrev pub step_view : StepNode → nodes.Step
step_view s = record { action = action_view s.action; places = map place_view s.places.items; to = s.to; temps = s.temps.items; slots = s.slots.items }

-- a call
abbrev pub call_view : CallNode → nodes.Call
call_view c = record { to = c.to; function = c.function; temps = c.temps.items; slots = c.slots.items }

abbrev mutual
  pub kind_view : ℕ → NodeKind → nodes.Node
  kind_view place (kinds.Set to calc) = nodes.plain place (nodes.set to (calc_view calc))
  kind_view place (kinds.If' temp shape one shape' other) = nodes.if_ place temp (row_view one) (row_view other)
  kind_view place (kinds.Loop' shape body shape' latch) = nodes.loop place (row_view body) (row_view latch)
  kind_view place kinds.Break = nodes.break_ place
  kind_view place kinds.Next = nodes.next_ place
  kind_view place (kinds.Call c) = nodes.plain place (nodes.call (call_view c.value))
  kind_view place (kinds.Ret temp) = nodes.ret place temp
  kind_view place (kinds.Step s) = nodes.plain place (nodes.step (step_view s.value))
  kind_view place (kinds.Look slot base) = nodes.plain place (nodes.look slot base)
  kind_view place (kinds.Safepoint slots) = nodes.plain place (nodes.safepoint slots.items)
  kind_view place (kinds.Begin i) = nodes.plain place (nodes.begin_object i)
  kind_view place (kinds.End i) = nodes.plain place (nodes.end_object i)

  pub row_view : {m : _} → Row_of-Node m → nodes.Nodes
  row_view end_of-Node = nodes.no_nodes
  row_view (more_of-Node place kind rest) = nodes.more_nodes (kind_view place kind) (row_view rest)

-- a node
abbrev pub node_view : CodeNode → nodes.Node
node_view n = kind_view n.place n.kind

-- a row of nodes
abbrev pub nodes_view : List CodeNode → nodes.Nodes
nodes_view [] = nodes.no_nodes
nodes_view (n ∷ rest) = nodes.more_nodes (node_view n) (nodes_view rest)

-- a stack object
abbrev pub object_view : CodeObject → nodes.StackObject
object_view o = record { size = o.size; align = o.align }

-- a global object
abbrev pub global_view : IrGlobal → nodes.Global
global_view g = record { size = g.size; align = g.align; init = init_view g.init }

-- a function
abbrev pub func_view : IrFunc → nodes.Func
func_view f = record { params = f.params; temps = f.temps; slots = f.slots; objects = map object_view f.objects.items; nodes = nodes_view f.nodes.items }

-- these, and then the others
abbrev pub followed : List CodeNode → nodes.Nodes → nodes.Nodes
followed [] rest = rest
followed (n ∷ all) rest = nodes.more_nodes (node_view n) (followed all rest)
