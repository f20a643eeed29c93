use Rattle.std.proofs.Common.{◌≡◌, ◌+◌, length, ap, ◌∙◌, arith, Some}
use Rattle.std.specs.Prelude.{slice_get}
use Rattle.struct_ir.specs.Instrs.{LinearFunc}
use Rattle.flat_meaning.specs.Words.{Used}
use Rattle.flat_threads.specs.inner.Parts.{fits_above}
use Rattle.flat_threads.proofs.Loaded.{flat_at}
use Rattle.flat_threads.proofs.Rooms.{fits_is, own_bytes, used, used_there}
use Rattle.flat_threads.proofs.before.has_room.Goals as goal

pub overflow_add-top-3 : goal.overflow_add-top-3
overflow_add-top-3 c =
    let b = own_bytes c.args.program.now c.calls.inside.registers.items c.calls.inside.slots c.calls.inside.top c.calls.inside.callers.items c.calls.invariant.0 c.args.calls.now c.calls.view_is c.requires c.index.result.now
    (λ (f : LinearFunc) (e : slice_get c.args.program.now.funcs c.calls.inside.top.function ≡ Some f). flat_at _ c.args.program.now c.program.view_is c.program.inside.funcs.items c.program.invariant.0 c.calls.inside.top.function f c.index.result.now e c.index.ensures) in
    omega (arith, b.3)

pub returns : goal.returns
returns c = λ n f e are.
    let n_calls : c.len.result ≡ length c.calls.inside.callers.items = omega (arith, c.len.ensures) in
    c.fits.ensures
    ∙ (ap (λ k. fits_above (used (c.calls.inside.top.registers + c.calls.inside.top.own_registers) (c.calls.inside.top.slots + c.calls.inside.top.own_slots) (k + 1) (c.calls.inside.top.stack + c.index.result.now.stack)) c.args.func.now) n_calls
    ∙ (ap (λ (u : Used). fits_above u c.args.func.now) (used_there c.args.program.now c.calls.inside.registers.items c.calls.inside.slots c.calls.inside.top c.calls.inside.callers.items c.calls.invariant.0 c.args.calls.now c.calls.view_is c.requires c.index.result.now
    (λ (f : LinearFunc) (e : slice_get c.args.program.now.funcs c.calls.inside.top.function ≡ Some f). flat_at _ c.args.program.now c.program.view_is c.program.inside.funcs.items c.program.invariant.0 c.calls.inside.top.function f c.index.result.now e c.index.ensures))
    ∙ fits_is c.args.program.now _ n f c.args.func.now e are))
