-- What a search finds in nodes by itself, from either state in which a path comes to them.
use Rattle.std.specs.Prelude.{Option, Some, None, Bool, true, false}
use Rattle.struct_ir.specs.Nodes.{Node, plain, if_, loop, break_, next_, ret, Nodes}
use Rattle.pin_flow.specs.Marks.{AllPaths, unreached, good, bad, join, Ways, at, either, in_turn, end_state, turned, flow, flow_node}
use Rattle.pin_flow.specs.Views.{ways_view}
use Rattle.pin_checker.specs.declared.fault.Fault.{Fault}
use Rattle.pin_checker.specs.declared.found.Found.{Found as CodeFound}
use Rattle.pin_checker.specs.declared.found.Both.{Both as CodeBoth}
use Rattle.pin_checker.specs.inner.Reports.{Search, earlier, report, report_node}

-- where control leaves the nodes, and the first fault in them
pub record Found : Type 0 where
  pub ways : Ways
  pub first : Option Fault

-- in a row
abbrev pub found_in : Search → Nodes → AllPaths → Found
found_in s ns t = record { ways = flow s.mark ns t; first = report s ns t None }

-- in a node
abbrev pub found_at : Search → Node → AllPaths → Found
found_at s n t = record { ways = flow_node s.mark n t; first = report_node s n t None }

-- the node holds no others
abbrev pub is_leaf : Node → Bool
is_leaf (plain place a) = true
is_leaf (if_ place temp one other) = false
is_leaf (loop place body latch) = false
is_leaf (break_ place) = true
is_leaf (next_ place) = true
is_leaf (ret place temp) = true

-- where each path that comes says yes, and where some path says no
pub record Both : Type 0 where
  pub good : Found
  pub bad : Found

-- of what is found from each state
abbrev pub both_of : (AllPaths → Found) → Both
both_of f = record { good = f good; bad = f bad }

-- what is found from a state; where no path comes, nothing is
abbrev pub from : Both → AllPaths → Found
from b unreached = record { ways = at unreached; first = None }
from b good = b.good
from b bad = b.bad

-- the earlier of what was found before and what is found behind it
abbrev pub earlier_of : (before behind : Option Fault) → Option Fault
earlier_of before None = before
earlier_of before (Some f) = earlier f before

-- nodes, and one behind them
abbrev pub behind : Found → Found → Found
behind a n = record { ways = in_turn a.ways n.ways; first = earlier_of a.first n.first }

-- of two branches
abbrev pub one_of : Found → Found → Found
one_of a b = record { ways = either a.ways b.ways; first = earlier_of a.first b.first }

-- a body from this state, and then the step from where the body leads
abbrev pub round_from : (body latch : Both) → AllPaths → Found
round_from body latch t = record {
  ways = turned (from body t).ways (from latch (end_state (from body t).ways)).ways;
  first = earlier_of (from body t).first (from latch (end_state (from body t).ways)).first;
}

-- a loop: one round from the state before it tells where each round starts
abbrev pub looped : (body latch : Both) → AllPaths → Found
looped body latch t = record {
  ways = at (round_from body latch (join t (round_from body latch t).ways.on)).ways.broken;
  first = (round_from body latch (join t (round_from body latch t).ways.on)).first;
}

-- what the code found
abbrev pub found_view : CodeFound → Found
found_view f = record { ways = ways_view f.ways; first = f.first }

-- from either state
abbrev pub both_view : CodeBoth → Both
both_view b = record { good = found_view b.good; bad = found_view b.bad }
