use Rattle.std.proofs.Common.{◌≡◌, drop, map}
use Rattle.std.specs.List.{list_all}
use Rattle.struct_ir.specs.Views.{global_view}
use Rattle.struct_ir.specs.Whole.{is_init_in}
use Rattle.code_load.proofs.filling.literals_are_there.Given as goal

-- what is left decides
abbrev pub invariant-loop-global : goal.invariant-loop-global
invariant-loop-global l = list_all (λ g. is_init_in l.literals g.init) (map global_view (drop l.global-index l.globals)) ≡ list_all (λ g. is_init_in l.literals g.init) (map global_view l.globals)
