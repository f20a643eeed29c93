use Rattle.std.proofs.Common.{◌≡◌, ◌++◌, drop}
use Rattle.c_typing.specs.Programs.{known}
use Rattle.type_declared.proofs.parameters.known.Given as goal

-- those that were found, and the rest
abbrev pub invariant-sizes : goal.invariant-sizes
invariant-sizes l = known l.sizes ≡ l.all.items ++ known (drop l.size-index l.sizes)
