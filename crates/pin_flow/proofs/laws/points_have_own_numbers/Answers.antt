use Rattle.pin_flow.proofs.Numbered.{numbers_rise, throughout_at_points}
use Rattle.pin_flow.proofs.laws.points_have_own_numbers.Goals as goal

pub returns-clause-rise : goal.returns-clause-rise
returns-clause-rise c = numbers_rise

pub returns-clause-hoisted : goal.returns-clause-hoisted
returns-clause-hoisted c = throughout_at_points
