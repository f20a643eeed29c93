use Rattle.std.proofs.Common.{◌≡◌, eqb, true, refl, sym, arith}
use Rattle.std.proofs.lemmas.Bool.{eq-eqb}
use Rattle.sub_heaps.proofs.Walked.{walked-none, left_over-none}
use Rattle.sub_heaps.proofs.Noted.{owners_met-none}
use Rattle.sub_heaps.proofs.walk.step.Goals as goal

pub returns-in-Some-clause-left : goal.returns-in-Some-clause-left
returns-in-Some-clause-left c =
    let same : eqb c.in-Some.next.now.from c.args.object.now.at ≡ true = eq-eqb _ _ c.if-next-object.true in
    rw (c.in-Some.ensures.cases.0, same) (sym (left_over-none c.in-Some.later.now))

pub returns-in-Some-clause-object : goal.returns-in-Some-clause-object
returns-in-Some-clause-object c =
    let same : eqb c.in-Some.next.now.from c.args.object.now.at ≡ true = eq-eqb _ _ c.if-next-object.true in
    rw (c.in-Some.ensures.cases.0, same, walked-none c.in-Some.later.now) refl

pub returns-in-Some-clause-owners : goal.returns-in-Some-clause-owners
returns-in-Some-clause-owners c =
    let same : eqb c.in-Some.next.now.from c.args.object.now.at ≡ true = eq-eqb _ _ c.if-next-object.true in
    rw (c.in-Some.ensures.cases.0, same, owners_met-none c.in-Some.later.now) (λ fits. c.note.ensures.noted (omega (arith, fits, c.args.owners.now.ok.0)))
