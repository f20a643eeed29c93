-- Where control leaves nodes, from either state in which a path comes to them.
use Rattle.pin_flow.specs.Marks.{AllPaths, unreached, good, bad, Ways, at}
use Rattle.pin_flow.specs.Views.{ways_view}
use Rattle.pin_flow.specs.declared.flow.Both.{Both as CodeBoth}

-- where each path that comes says yes, and where some path says no
pub record Both : Type 0 where
  pub good : Ways
  pub bad : Ways

-- of what leads from each state
abbrev pub both_of : (AllPaths → Ways) → Both
both_of f = record { good = f good; bad = f bad }

-- from a state; where no path comes, none goes on
abbrev pub from : Both → AllPaths → Ways
from b unreached = at unreached
from b good = b.good
from b bad = b.bad

-- what the code found
abbrev pub both_view : CodeBoth → Both
both_view b = record { good = ways_view b.good; bad = ways_view b.bad }
