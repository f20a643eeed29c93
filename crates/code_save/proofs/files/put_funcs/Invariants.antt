use Rattle.struct_ir.specs.Views.{func_view}
use Rattle.code_file.specs.Files.{func}
use Rattle.code_file.specs.Calls.{func_bare}
use Rattle.code_save.specs.inner.Fits.{func_fits}
use Rattle.std.proofs.Common.{drop}
use Rattle.code_save.proofs.Writing.{WritesAll}
use Rattle.code_save.proofs.files.put_funcs.Given as goal

-- what is left makes the whole
abbrev pub invariant-loop-f : goal.invariant-loop-f
invariant-loop-f l = WritesAll (func l.levels) (λ x. func_bare (func_view x)) (λ x. func_fits l.levels (func_view x)) (drop l.f-index l.funcs) l.funcs l.fn.out l.out
