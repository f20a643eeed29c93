use Rattle.struct_ir.specs.Views.{global_view}
use Rattle.code_file.specs.Files.{global}
use Rattle.std.proofs.Common.{true}
use Rattle.std.proofs.Common.{drop}
use Rattle.code_save.proofs.Writing.{WritesAll}
use Rattle.code_save.proofs.files.put_globals.Given as goal

-- what is left makes the whole
abbrev pub invariant-loop-global : goal.invariant-loop-global
invariant-loop-global l = WritesAll (global) (global_view) (λ x. true) (drop l.global-index l.globals) l.globals l.fn.out l.out
