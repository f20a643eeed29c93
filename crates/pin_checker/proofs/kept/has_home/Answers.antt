use Rattle.std.proofs.Common.{Some, sym, ap, ◌∙◌}
use Rattle.std.proofs.lemmas.Bool.{eqb-true}
use Rattle.mark_sets.proofs.HomeSlots.{home_of}
use Rattle.pin_checker.proofs.kept.has_home.Goals as goal

pub returns-in-Some : goal.returns-in-Some
returns-in-Some c = λ y.
    sym ((home_of c.requires).bits c.args.q.base) ∙ (sym c.bit.ensures ∙ (c.in-Some.is ∙ ap (λ s. Some s) (eqb-true c.in-Some.i c.args.q.slot y)))
