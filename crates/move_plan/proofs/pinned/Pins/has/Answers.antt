use Rattle.std.proofs.Common.{◌≤◌, ap, sym, ◌∙◌, subst, arith}
use Rattle.std.specs.FinSet as set
use Rattle.move_plan.specs.Holding.{PinSet, is_pinned}
use Rattle.move_plan.proofs.PinSets.{contains-list, len-from_list}
use Rattle.move_plan.proofs.pinned.Pins.has.Goals as goal

pub returns-clause-member : goal.returns-clause-member
returns-clause-member c = c.contains.ensures ∙ sym (contains-list c.self.inside.places.keys c.args.at) ∙ ap (λ (p : PinSet). is_pinned p c.args.at) c.self.view_is

pub returns-clause-within : goal.returns-clause-within
returns-clause-within c = subst (λ (p : PinSet). set.len p.places ≤ p.room) c.self.view_is (omega (arith, len-from_list _ c.self.invariant.2, c.self.invariant.0))
