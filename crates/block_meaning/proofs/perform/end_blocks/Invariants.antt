use Rattle.std.proofs.Common.{◌≡◌, drop, map}
use Rattle.block_store.specs.Actions.{World, with_blocks}
use Rattle.c_meaning.specs.Turns.{without_blocks}
use Rattle.source_state.specs.Variables.{variable_of}
use Rattle.block_meaning.proofs.perform.end_blocks.Given as goal

pub record Ends (here kept : Type 0) : Type 0 where
  pub here_so : here
  pub kept_so : kept

abbrev pub invariant-ended : goal.invariant-ended
invariant-ended l =
    Ends ((x : World) → without_blocks (map variable_of (drop l.variable-index l.variables)) (with_blocks x l.store.now) ≡ without_blocks (map variable_of l.variables) (with_blocks x l.initial.store.now))
    (l.store.kept ≡ l.initial.store.kept)
