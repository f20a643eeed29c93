use Rattle.std.proofs.Common.{◌≡◌, true, subst}
use Rattle.struct_ir.specs.declared.linear.InstrKind.{InstrKind}
use Rattle.struct_ir.specs.InstrViews.{instr_kind_view}
use Rattle.struct_ir.specs.ValidCode.{is_instr}
use Rattle.flat_machine.specs.lemmas.Steps.{stands, in_range, look_fits, given_fits, step_fits, stops_before, stops_at_these, step_is_done, leave_is_done}
use Rattle.flat_threads.specs.Contexts.{own_image}
use Rattle.flat_threads.specs.Deeds.{top_of}
use Rattle.flat_machine.proofs.shared.Shared.step.Goals as goal

pub word-word-requires-clause-temp : goal.word-word-requires-clause-temp
word-word-requires-clause-temp c =
    let s = stands c.args.program.now c.args.ctx.now c.requires.of c.requires.stopped in
    let r = in_range c.args.program.now c.args.ctx.now c.requires.of.program s _ c.instr.ensures.is in
    (look_fits r.scope (top_of c.args.ctx.now).own _ _ r.temps r.slots (subst (λ (k : InstrKind). is_instr r.scope (instr_kind_view c.instr.result.now.place k) ≡ true) c.in-Look.is r.valid)).1

pub look-requires-in-Look-clause-slot : goal.look-requires-in-Look-clause-slot
look-requires-in-Look-clause-slot c =
    let s = stands c.args.program.now c.args.ctx.now c.requires.of c.requires.stopped in
    let r = in_range c.args.program.now c.args.ctx.now c.requires.of.program s _ c.instr.ensures.is in
    (look_fits r.scope (top_of c.args.ctx.now).own _ _ r.temps r.slots (subst (λ (k : InstrKind). is_instr r.scope (instr_kind_view c.instr.result.now.place k) ≡ true) c.in-Look.is r.valid)).0

pub given-word-requires-clause-temp : goal.given-word-requires-clause-temp
given-word-requires-clause-temp c =
    let s = stands c.args.program.now c.args.ctx.now c.requires.of c.requires.stopped in
    let r = in_range c.args.program.now c.args.ctx.now c.requires.of.program s _ c.instr.ensures.is in
    given_fits r.scope (top_of c.args.ctx.now).own _ r.temps (subst (λ (k : InstrKind). is_instr r.scope (instr_kind_view c.instr.result.now.place k) ≡ true) c.in-Leave.is r.valid)

pub done-done-requires-clause-step : goal.done-done-requires-clause-step
done-done-requires-clause-step c =
    let s = stands c.args.program.now c.args.ctx.now c.requires.of c.requires.stopped in
    let r = in_range c.args.program.now c.args.ctx.now c.requires.of.program s _ c.instr.ensures.is in
    rw c.deref.ensures (step_fits r.scope (top_of c.args.ctx.now).own _ r.temps r.slots (subst (λ (k : InstrKind). is_instr r.scope (instr_kind_view c.instr.result.now.place k) ≡ true) c.in-Step.is r.valid))

pub done-done-requires-clause-idle : goal.done-done-requires-clause-idle
done-done-requires-clause-idle c = c.requires.shared.idle

pub settle-requires-clause-step : goal.settle-requires-clause-step
settle-requires-clause-step c =
    let s = stands c.args.program.now c.args.ctx.now c.requires.of c.requires.stopped in
    let r = in_range c.args.program.now c.args.ctx.now c.requires.of.program s _ c.instr.ensures.is in
    rw c.deref-in-Step.ensures (step_fits r.scope (top_of c.args.ctx.now).own _ r.temps r.slots (subst (λ (k : InstrKind). is_instr r.scope (instr_kind_view c.instr.result.now.place k) ≡ true) c.in-Step.is r.valid))

pub returns-in_default : goal.returns-in_default
returns-in_default c =
    let s = stands c.args.program.now c.args.ctx.now c.requires.of c.requires.stopped in
    absurd (stops_at_these (own_image c.args.program.now) s.most s.ends s.t c.instr.result.now (stops_before c.args.program.now c.args.ctx.now s _ c.instr.ensures.is) c.in_default.not-Look c.in_default.not-Leave c.in_default.not-Step)

pub returns-in-Leave : goal.returns-in-Leave
returns-in-Leave c =
    let s = stands c.args.program.now c.args.ctx.now c.requires.of c.requires.stopped in
    leave_is_done c.args.program.now c.args.self.now c.finish.new.self c.args.ctx.now c.end.new.self c.finish.result s c.instr.result.now c.in-Leave.temp c.thread.result c.given-word.result c.in-Leave.is c.instr.ensures.is c.given-word.ensures c.thread.ensures.number c.requires.made c.finish.ensures.ended c.end.ensures
    c.finish.ensures.turned

pub returns-in-Step : goal.returns-in-Step
returns-in-Step c =
    let s = stands c.args.program.now c.args.ctx.now c.requires.of c.requires.stopped in
    step_is_done c.args.program.now c.args.self.now c.done-done.new.self c.args.ctx.now c.settle.new.ctx c.settle.result s c.instr.result.now c.in-Step.node c.done-done.result c.in-Step.is c.instr.ensures.is c.requires.of.wait (rw c.deref.ensures at (c.done-done.ensures.does c.args.program.now))
    (rw c.deref.ensures at (c.done-done.ensures.told c.args.program.now)) (rw c.deref.ensures at c.done-done.ensures.waits) (rw c.deref-in-Step.ensures at c.settle.ensures)
