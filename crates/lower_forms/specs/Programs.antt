-- What a program is lowered to.
use Rattle.std.specs.Prelude.{ℕ, zero, suc, ◌+◌, ◌*◌, ◌==◌, ◌≤◌, Bool, true, false, List, [], ◌∷◌, length, Option, Some, None}
use Rattle.c_tree.specs.Typed as tree
use Rattle.c_tree.specs.TypedLayout.{size_in, align_in}
use Rattle.struct_ir.specs.Nodes.{StackObject, Global, Func, Ir, Nodes, no_nodes, more_nodes, ret}
use Rattle.lower_forms.specs.Forms.{Frame, opened, objects_in, sets_int, row_nodes}
use Rattle.lower_forms.specs.Counts.{greatest_row, switches_in}

-- ---- stack objects

-- a local's stack object of this number, if it's in memory
abbrev pub home_if : (in_memory : Bool) → (next : ℕ) → Option ℕ
home_if true next = Some next
home_if false next = None

-- the number of the next stack object
abbrev pub next_home : (in_memory : Bool) → (next : ℕ) → ℕ
next_home true next = suc next
next_home false next = next

-- the stack objects of locals: those in memory have one each, in order, from this number on
abbrev pub homes_from : (next : ℕ) → List tree.Local → List (Option ℕ)
homes_from next [] = []
homes_from next (l ∷ locals) = home_if l.in_memory next ∷ homes_from (next_home l.in_memory next) locals

-- the stack object of a local
abbrev pub object_of : List tree.Layout → tree.Local → StackObject
object_of structs l = record { size = size_in structs l.ty; align = align_in structs l.ty }

-- with one of the local, if it's in memory
abbrev pub with_object : (in_memory : Bool) → StackObject → List StackObject → List StackObject
with_object true o objects = o ∷ objects
with_object false o objects = objects

-- the stack objects of a function: just its locals in memory, in order
abbrev pub objects_of : List tree.Layout → List tree.Local → List StackObject
objects_of structs [] = []
objects_of structs (l ∷ locals) = with_object l.in_memory (object_of structs l) (objects_of structs locals)

-- ---- functions

-- the parameters of a function are among its locals
abbrev pub HasParams : tree.Func → Type 0
HasParams f = f.params ≤ length f.locals

-- what stays the same in a function, and where its body begins: behind the locals each register is free
abbrev pub frame_of : List tree.Layout → tree.Func → Frame
frame_of structs f = record { structs = structs; homes = homes_from 0 f.locals; first = length f.locals; flag = None; around = []; outer = [] }

-- among the locals that its body declares
abbrev pub body_frame : List tree.Layout → tree.Func → Frame
body_frame structs f = opened (frame_of structs f) (objects_in (frame_of structs f) f.body)

-- how many registers a function has: one for each local, one for each node of its greatest full expression, and two for each switch
abbrev pub registers_of : tree.Func → ℕ
registers_of f = length f.locals + (greatest_row f.body + 2 * switches_in f.body)

-- main that reaches its end gives 0 (C11 5.1.2.2.3), and needs no register where nothing can call it: a program whose main has no
-- register calls nothing
abbrev pub last_nodes : (is_main : Bool) → (registers : ℕ) → Nodes
last_nodes true (suc n) = sets_int 0 0 0 (more_nodes (ret 0 (Some 0)) no_nodes)
last_nodes true zero = no_nodes
last_nodes false registers = no_nodes

-- a function
abbrev pub func_lowered : List tree.Layout → (is_main : Bool) → tree.Func → Func
func_lowered structs is_main f = record {
  params = f.params;
  temps = registers_of f;
  slots = 0;
  objects = objects_of structs f.locals;
  nodes = row_nodes (body_frame structs f) f.body [] (last_nodes is_main (registers_of f));
}

-- functions, the first of which has this number
abbrev pub funcs_lowered : List tree.Layout → (main number : ℕ) → List tree.Func → List Func
funcs_lowered structs main number [] = []
funcs_lowered structs main number (f ∷ fs) = func_lowered structs (number == main) f ∷ funcs_lowered structs main (suc number) fs

-- ---- programs

-- a global object
abbrev pub global_lowered : List tree.Layout → tree.GlobalVar → Global
global_lowered structs g = record { size = size_in structs g.ty; align = align_in structs g.ty; init = g.init }

-- the globals
abbrev pub globals_lowered : List tree.Layout → List tree.GlobalVar → List Global
globals_lowered structs [] = []
globals_lowered structs (g ∷ gs) = global_lowered structs g ∷ globals_lowered structs gs

-- a program
abbrev pub lowered : tree.Typed → Ir
lowered t = record {
  globals = globals_lowered t.structs t.globals;
  literals = t.literals;
  funcs = funcs_lowered t.structs t.main 0 t.funcs;
  main = t.main;
}
