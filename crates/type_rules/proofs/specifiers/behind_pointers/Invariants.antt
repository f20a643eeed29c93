use Rattle.std.proofs.Common.{◌≡◌, drop}
use Rattle.c_tree.specs.TypedViews.{type_view}
use Rattle.c_typing.specs.Types.{behind_pointers}
use Rattle.type_rules.proofs.specifiers.behind_pointers.Given as goal

abbrev pub invariant-pointers : goal.invariant-pointers
invariant-pointers l = behind_pointers (type_view l.fn.t) l.pointers ≡ behind_pointers (type_view l.t) (drop l.pointer-index l.pointers)
