use Rattle.std.proofs.Common.{◌≡◌, ◌++◌, drop, map}
use Rattle.c_meaning.specs.Control.{holds}
use Rattle.source_state.specs.Variables.{variable_of}
use Rattle.block_meaning.proofs.begin.holding.Given as goal

abbrev pub invariant-arguments : goal.invariant-arguments
invariant-arguments l = map variable_of l.locals.items ++ map holds (drop l.arg-index l.args) ≡ map holds l.args
