use Rattle.std.proofs.Common.{nat_eq, ap, ◌∙◌, arith}
use Rattle.mark_sets.proofs.HomeSlots.{slot_found}
use Rattle.mark_sets.proofs.homes.is_home.Goals as goal

pub returns-then-at-len : goal.returns-then-at-len
returns-then-at-len c = λ d e. ap (λ y. nat_eq c.args.b y) (c.index.ensures ∙ (slot_found c.args.homes.now.bases.items d c.args.slot c.index.result.now e).1)

pub returns-else-at-len : goal.returns-else-at-len
returns-else-at-len c = λ d e. let h = (slot_found c.args.homes.now.bases.items d c.args.slot 0 e).0 in absurd (omega (arith, h))
