use Rattle.std.proofs.Common.{refl, subst}
use Rattle.ak_trace.specs.declared.endings.TrapKind.TheVariants as kinds
use Rattle.flat_meaning.specs.Actions.{compared}
use Rattle.flat_threads.specs.Targets.{target_view}
use Rattle.flat_machine.specs.inner.Dones.{Does}
use Rattle.flat_machine.proofs.Doing.{does_trap}
use Rattle.flat_machine.proofs.Changing.{are_equal, are_unequal, equal_puts, second_traps, unequal_puts}
use Rattle.flat_machine.proofs.shared.Shared.compare.Goals as goal

pub returns-in-Err-number_at-clause-does : goal.returns-in-Err-number_at-clause-does
returns-in-Err-number_at-clause-does c =
    let m = c.args.self.now.memory in
    let at = target_view c.args.at in
    let want = target_view c.args.want in
    does_trap c.args.self.now _ (compared c.args.ty at want c.args.new m) c.args.self.now c.in-Err-number_at.outside.0 kinds.Store refl
    (second_traps m c.args.ty at want c.args.new c.in-Ok.old _ c.in-Ok.ensures.number refl c.in-Ok.ensures.inside c.in-Err-number_at.outside.0 c.in-Err-number_at.ensures.outside) refl

pub returns-then-same-eq1-clause-does : goal.returns-then-same-eq1-clause-does
returns-then-same-eq1-clause-does c =
    let m = c.args.self.now.memory in
    let at = target_view c.args.at in
    let want = target_view c.args.want in
    subst (Does c.args.self.now c.write_number.new.self c.write_number.result)
    (equal_puts m c.args.ty at want c.args.new c.in-Ok.old c.in-Ok-number_at.wanted c.in-Ok.ensures.number c.in-Ok-number_at.ensures.number c.in-Ok.ensures.inside c.in-Ok-number_at.ensures.inside
    (are_equal c.args.ty c.in-Ok.old c.in-Ok-number_at.wanted c.equal-same.result c.equal-same.ensures c.if-same-eq1.true))
    c.write_number.ensures.does

pub returns-else-same-eq1-clause-does : goal.returns-else-same-eq1-clause-does
returns-else-same-eq1-clause-does c =
    let m = c.args.self.now.memory in
    let at = target_view c.args.at in
    let want = target_view c.args.want in
    subst (Does c.args.self.now c.write_number-else-same-eq1.new.self c.write_number-else-same-eq1.result)
    (unequal_puts m c.args.ty at want c.args.new c.in-Ok.old c.in-Ok-number_at.wanted c.in-Ok.ensures.number c.in-Ok-number_at.ensures.number c.in-Ok.ensures.inside c.in-Ok-number_at.ensures.inside
    (are_unequal c.args.ty c.in-Ok.old c.in-Ok-number_at.wanted c.equal-same.result c.equal-same.ensures c.if-same-eq1.false))
    c.write_number-else-same-eq1.ensures.does
