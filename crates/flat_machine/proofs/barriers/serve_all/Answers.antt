use Rattle.std.proofs.Common.{◌<◌, length, None, refl, sym, ap, ◌∙◌, subst, arith}
use Rattle.std.proofs.lemmas.List.{length-map, length-set}
use Rattle.flat_rules.specs.Lawful.{IsOfRun}
use Rattle.flat_threads.specs.Belonging.{IsContextOf}
use Rattle.flat_machine.specs.Machine.{machine_of}
use Rattle.flat_machine.specs.Shares.{Shared}
use Rattle.flat_machine.specs.inner.Shares.{made_view}
use Rattle.flat_machine.specs.inner.Swept.{IsServedIf}
use Rattle.flat_machine.specs.lemmas.Homes.{get_or_any}
use Rattle.flat_machine.proofs.Serves.{next_below, none_below}
use Rattle.flat_machine.proofs.barriers.serve_all.Goals as goal

pub loop-number-init : goal.loop-number-init
loop-number-init c = record { served = none_below c.args.program.now c.args.shared.now c.args.home.now c.requires.contexts c.requires.home c.requires.serves; long = refl }

pub serve_if-requires-clause-of : goal.serve_if-requires-clause-of
serve_if-requires-clause-of c =
    let n = c.loop-number.number in
    let d = c.index-home-number.result in
    let below : n < length c.args.shared.now.memory.threads = omega (arith, c.loop-number-test.true, c.len-number-end.ensures, ap (λ (v : Shared). length v.memory.threads) c.shared.view_is, length-map c.shared.inside.threads.items made_view) in
    let within : n < length c.args.home.now = omega (arith, c.requires.home.0) in
    let same = get_or_any c.loop-number.home n d None (omega (arith, c.loop-number.invariant.long)) ∙ c.loop-number.invariant.served.unserved n (omega arith) in
    subst (IsOfRun (machine_of c.args.program.now) (IsContextOf c.args.program.now)) (sym same) (c.requires.contexts n None within)

pub loop-number-preserved : goal.loop-number-preserved
loop-number-preserved c =
    let n = c.loop-number.number in
    let d = c.index-home-number.result in
    let q = c.serve_if.new.place in
    let below : n < length c.args.shared.now.memory.threads = omega (arith, c.loop-number-test.true, c.len-number-end.ensures, ap (λ (v : Shared). length v.memory.threads) c.shared.view_is, length-map c.shared.inside.threads.items made_view) in
    let within : n < length c.args.home.now = omega (arith, c.requires.home.0) in
    let same = get_or_any c.loop-number.home n d None (omega (arith, c.loop-number.invariant.long)) in
    let served = subst (λ p. IsServedIf c.args.program.now c.loop-number.shared c.serve_if.new.shared p q) same c.serve_if.ensures in
    record {
      served = next_below c.args.program.now c.args.shared.now c.args.home.now c.requires.contexts c.requires.home c.requires.serves n c.loop-number.shared c.serve_if.new.shared c.loop-number.home q c.loop-number.invariant.served below served;
      long = length-set c.loop-number.home n q ∙ c.loop-number.invariant.long;
    }

pub serve_if-requires-clause-serves : goal.serve_if-requires-clause-serves
serve_if-requires-clause-serves c = c.loop-number.invariant.served.serves

pub serve_if-requires-clause-leaving : goal.serve_if-requires-clause-leaving
serve_if-requires-clause-leaving c =
    omega (arith, c.loop-number.invariant.served.leaving, c.requires.few, c.loop-number-test.true, c.len-number-end.ensures, ap (λ (v : Shared). length v.memory.threads) c.shared.view_is, length-map c.shared.inside.threads.items made_view)
