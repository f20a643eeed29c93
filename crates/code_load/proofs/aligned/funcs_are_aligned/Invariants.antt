use Rattle.std.proofs.Common.{◌≡◌, drop, map}
use Rattle.std.specs.List.{list_all}
use Rattle.struct_ir.specs.Views.{func_view}
use Rattle.code_file.specs.Conditions.{func_is_aligned}
use Rattle.code_load.proofs.aligned.funcs_are_aligned.Given as goal

-- what is left decides
abbrev pub invariant-loop-f : goal.invariant-loop-f
invariant-loop-f l = list_all func_is_aligned (map func_view (drop l.f-index l.funcs)) ≡ list_all func_is_aligned (map func_view l.funcs)
