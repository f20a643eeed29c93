use Rattle.c_tree.specs.TypedViews.{literal_view}
use Rattle.formats.specs.Formats.{list, byte}
use Rattle.std.proofs.Common.{true}
use Rattle.std.proofs.Common.{drop}
use Rattle.code_save.proofs.Writing.{WritesAll}
use Rattle.code_save.proofs.files.put_literals.Given as goal

-- what is left makes the whole
abbrev pub invariant-loop-literal : goal.invariant-loop-literal
invariant-loop-literal l = WritesAll (list byte) (literal_view) (λ x. true) (drop l.literal-index l.literals) l.literals l.fn.out l.out
