use Rattle.std.proofs.Common.{◌≡◌, ◌+◌, ◌*◌, ◌≤◌, ◌++◌, length, take}
use Rattle.std.specs.Prelude.{flat_map}
use Rattle.flat_machine.specs.inner.Swept.{handles_home}
use Rattle.flat_machine.proofs.pinning.unite_all.Given as goal

-- the handles of so many places
abbrev pub invariant-loop-place : goal.invariant-loop-place
invariant-loop-place l = record {
  united : l.into ≡ record l.fn.into { words = l.fn.into.words ++ flat_map (handles_home l.program) (take l.place-index l.home) };
  few : length l.into.words ≤ length l.fn.into.words + 1024 * l.place-index;
}
