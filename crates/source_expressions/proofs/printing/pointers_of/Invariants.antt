use Rattle.std.proofs.Common.{◌≡◌, ◌++◌, drop}
use Rattle.c_meaning.specs.Library.{pointers_of}
use Rattle.source_expressions.proofs.printing.pointers_of.Given as goal

abbrev pub invariant-each : goal.invariant-each
invariant-each l = l.pointers.items ++ pointers_of (drop l.arg-index l.args) ≡ pointers_of l.args
