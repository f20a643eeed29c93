-- What the code is that was read from a file, before it is judged.
use Rattle.std.specs.Prelude.{map}
use Rattle.c_tree.specs.TypedViews.{literal_view}
use Rattle.struct_ir.specs.Nodes.{Func, Ir}
use Rattle.struct_ir.specs.Views.{object_view, global_view, nodes_view}
use Rattle.code_file.specs.declared.raw.RawFunc.{RawFunc}
use Rattle.code_file.specs.declared.raw.RawCode.{RawCode}

-- a function
abbrev pub raw_func_view : RawFunc → Func
raw_func_view f = record { params = f.params; temps = f.temps; slots = f.slots; objects = map object_view f.objects.items; nodes = nodes_view f.nodes.items }

-- a program
abbrev pub raw_view : RawCode → Ir
raw_view c = record { main = c.main; globals = map global_view c.globals.items; literals = map literal_view c.literals.items; funcs = map raw_func_view c.funcs.items }
