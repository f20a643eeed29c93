use Rattle.std.proofs.Common.{◌≡◌, ◌-◌, length, get_or, ap, arith, rules}
use Rattle.std.proofs.lemmas.Bool.{leb-true}
use Rattle.sub_heaps.specs.declared.objects.Object.{Object}
use Rattle.move_plan.proofs.Spans.{rising_from_sorted}
use Rattle.move_plan.proofs.places.end_no_higher.Goals as goal

pub returns-in-Some : goal.returns-in-Some
returns-in-Some c = λ is k d below.
    let xs = c.args.spans.now in
    let last : (get_or xs (length xs - 1) d) ≡ c.in-Some.last.now = search rules in
    omega (arith, rising_from_sorted 0 xs c.requires k (length xs - 1) d (omega arith) (omega arith), ap (λ (s : Object). s.at) last, leb-true c.in-Some.last.now.at c.args.at is)
