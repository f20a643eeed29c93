use Rattle.std.proofs.Common.{◌≡◌, ◌++◌, map, drop}
use Rattle.c_tree.specs.TypedViews.{type_view}
use Rattle.c_typing.specs.Numbering.{locals_from}
use Rattle.type_locals.specs.inner.Marking.{marked}
use Rattle.type_locals.specs.inner.Numbers.{locals_view}
use Rattle.type_locals.proofs.locals.others_of.Given as goal

-- the locals so far, and the rest
abbrev pub invariant-types : goal.invariant-types
invariant-types l = locals_view l.all.items ++ locals_from l.n (marked l.addressed) (map type_view (drop l.t-index l.types)) ≡ locals_from l.fn.from (marked l.addressed) (map type_view l.types)
