use Rattle.std.proofs.Common.{◌≡◌, drop}
use Rattle.std.specs.Prelude.{count_by}
use Rattle.flat_machine.specs.Sweeping.{waits_at_home}
use Rattle.flat_machine.proofs.barriers.wants_room.Given as goal

-- all that wait are among those that are left
abbrev pub invariant-loop-place : goal.invariant-loop-place
invariant-loop-place l = count_by waits_at_home (drop l.place-index l.home) ≡ count_by waits_at_home l.home
