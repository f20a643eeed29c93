-- What is kept of each cell of each block.
use Rattle.std.specs.Prelude.{nat_eq}
use Rattle.std.specs.HashMap.{get}
use Rattle.race_rules.specs.Histories as model
use Rattle.race_walk.specs.declared.history.History.{History}
use Rattle.race_walk.specs.Blocks.{seen_at}

-- what is kept of each cell; of a block that isn't there nothing is
abbrev pub history_of : History → model.History
history_of h block cell = seen_at (get nat_eq h.blocks block) cell
