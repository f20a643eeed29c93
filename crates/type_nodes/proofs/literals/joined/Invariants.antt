use Rattle.std.proofs.Common.{◌≡◌, ◌++◌, drop}
use Rattle.c_typing.specs.Literals.{joined_bytes}
use Rattle.type_nodes.proofs.literals.joined.Given as goal

abbrev pub invariant-parts : goal.invariant-parts
invariant-parts l = joined_bytes l.text l.parts ≡ l.bytes.items ++ joined_bytes l.text (drop l.span-index l.parts)
