use Rattle.std.proofs.Common.{◌≡◌, ◌++◌, map}
use Rattle.struct_ir.specs.Views.{func_view}
use Rattle.translate_pass.specs.inner.Insert.{func_inserted}
use Rattle.translate_pass.proofs.inserting.insert_funcs.Given as goal

-- with what is made of the functions that are left, they are what is to be made
abbrev pub invariant-loop-f : goal.invariant-loop-f
invariant-loop-f l = map func_view l.out.items ++ map func_inserted (map func_view l.f-iterator.rest.items) ≡ map func_inserted (map func_view l.fn.funcs.items)
