use Rattle.std.proofs.Common.{◌≡◌, ◌++◌, drop}
use Rattle.c_meaning.specs.Library.{numbers_of}
use Rattle.source_expressions.proofs.printing.numbers_of.Given as goal

abbrev pub invariant-each : goal.invariant-each
invariant-each l = l.numbers.items ++ numbers_of (drop l.arg-index l.args) ≡ numbers_of l.args
