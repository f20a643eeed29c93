use Rattle.std.proofs.Common.{◌≡◌, ◌++◌, false, map}
use Rattle.std.specs.List.{list_all}
use Rattle.struct_ir.specs.Views.{func_view}
use Rattle.code_file.specs.RawViews.{raw_func_view}
use Rattle.code_file.specs.Calls.{func_filled}
use Rattle.code_file.specs.Conditions.{has_parameters}
use Rattle.code_load.proofs.filling.fill_funcs.Given as goal

-- with what is made of the functions that are left, they are what is to be made; and where one of those has too many parameters, one has
abbrev pub invariant-loop-f : goal.invariant-loop-f
invariant-loop-f l = record {
  made : map func_view l.out.items ++ map func_filled (map raw_func_view l.f-iterator.rest.items) ≡ map func_filled (map raw_func_view l.fn.funcs.items);
  falls : list_all has_parameters (map raw_func_view l.f-iterator.rest.items) ≡ false → list_all has_parameters (map raw_func_view l.fn.funcs.items) ≡ false;
}
