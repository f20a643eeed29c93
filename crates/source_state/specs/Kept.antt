-- A store as it is now, and as it was kept last.
use Rattle.block_store.specs.Blocks.{Blocks}

-- the blocks as they are now, and as they were when kept last
pub record Kept : Type 0 where
  pub now : Blocks
  pub kept : Blocks
