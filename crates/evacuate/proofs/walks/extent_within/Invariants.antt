use Rattle.std.proofs.Common.{◌≡◌, ◌-◌, ◌*◌, ◌≤◌, length}
use Rattle.sub_heaps.specs.SubHeaps.{IsSound, extent_in, objects_in}
use Rattle.move_plan.proofs.Rest.{rest_from}
use Rattle.evacuate.proofs.Steps.{reach}
use Rattle.evacuate.proofs.walks.extent_within.Given as goal

-- the objects that are left reach as far from where those before them end as all do
abbrev pub invariant-loop-object : goal.invariant-loop-object
invariant-loop-object l = record {
  sound : IsSound l.heaps;
  start : l.start ≡ l.number * l.heaps.size;
  above : l.start ≤ l.at;
  reached : extent_in l.heaps l.number ≡ reach (l.number * l.heaps.size) (l.at - l.number * l.heaps.size) (rest_from l.at (objects_in l.heaps l.number));
}

abbrev pub decreases-loop-object : goal.decreases-loop-object
decreases-loop-object l = length (rest_from l.at (objects_in l.heaps l.number))
