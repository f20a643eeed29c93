use Rattle.std.proofs.Common.{map, take}
use Rattle.c_tree.specs.SyntaxViews.{external_view}
use Rattle.c_typing.specs.Programs.{defined_names}
use Rattle.type_declared.specs.FunctionNames.{IsDefined}
use Rattle.type_declared.proofs.functions.all_defined.Given as goal

-- the names so far
abbrev pub invariant-externals : goal.invariant-externals
invariant-externals l = IsDefined (defined_names l.context.text.now (map external_view (take l.x-index l.externals))) l.defined
