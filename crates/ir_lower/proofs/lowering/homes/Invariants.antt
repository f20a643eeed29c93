use Rattle.std.proofs.Common.{◌≡◌, ◌++◌, map, drop}
use Rattle.c_tree.specs.TypedViews.{local_view}
use Rattle.lower_forms.specs.Programs.{homes_from}
use Rattle.ir_lower.proofs.lowering.homes.Given as goal

-- so far
abbrev pub invariant-loop-l : goal.invariant-loop-l
invariant-loop-l l = l.homes.items ++ homes_from l.next (map local_view (drop l.l-index l.locals)) ≡ homes_from 0 (map local_view l.locals)
