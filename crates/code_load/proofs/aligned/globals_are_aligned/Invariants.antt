use Rattle.std.proofs.Common.{◌≡◌, drop, map}
use Rattle.std.specs.List.{list_all}
use Rattle.struct_ir.specs.Views.{global_view}
use Rattle.code_file.specs.Conditions.{is_alignment}
use Rattle.code_load.proofs.aligned.globals_are_aligned.Given as goal

-- what is left decides
abbrev pub invariant-loop-global : goal.invariant-loop-global
invariant-loop-global l = list_all (λ g. is_alignment g.align) (map global_view (drop l.global-index l.globals)) ≡ list_all (λ g. is_alignment g.align) (map global_view l.globals)
