use Rattle.std.proofs.Common.{◌≡◌, map, length, false}
use Rattle.c_tree.specs.SyntaxViews.{spec_view}
use Rattle.c_grammar.specs.inner.Reading.{typed}
use Rattle.parse_expressions.proofs.types.are_typed.Given as goal

-- the rest tells of all what is still to be told
abbrev pub invariant-specs : goal.invariant-specs
invariant-specs l = typed l.typed (map spec_view l.rest) ≡ typed false (map spec_view l.specs)

abbrev pub decreases-specs : goal.decreases-specs
decreases-specs l = length l.rest
