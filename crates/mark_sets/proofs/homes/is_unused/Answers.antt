use Rattle.std.proofs.Common.{sym, ◌∙◌}
use Rattle.mark_sets.proofs.HomeSlots.{home_of, unused_some, unused_none}
use Rattle.mark_sets.proofs.homes.is_unused.Goals as goal

pub returns-in-Some : goal.returns-in-Some
returns-in-Some c = λ r d i e h.
    let bs = c.args.homes.now.bases.items in
    unused_some bs c.args.set.now c.args.b c.in-Some.i d i c.contains.result (sym ((home_of c.requires).bits c.args.b) ∙ (sym c.bit.ensures ∙ c.in-Some.is)) c.contains.ensures r e h

pub returns-in-None : goal.returns-in-None
returns-in-None c = λ r d i e h. unused_none c.args.homes.now.bases.items c.args.b d i (sym ((home_of c.requires).bits c.args.b) ∙ (sym c.bit.ensures ∙ c.in-None.is)) e
