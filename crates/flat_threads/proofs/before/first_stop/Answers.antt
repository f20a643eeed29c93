use Rattle.std.proofs.Common.{◌≡◌, ap, ◌∙◌, sym, Some}
use Rattle.std.specs.Prelude.{slice_get}
use Rattle.struct_ir.specs.Instrs.{LinearFunc}
use Rattle.flat_meaning.specs.Local.{no_room_if}
use Rattle.flat_threads.specs.Contexts.{Context}
use Rattle.flat_threads.specs.declared.context.Parts.{Parts}
use Rattle.flat_threads.specs.declared.call.Phase.{Phase}
use Rattle.flat_threads.specs.inner.Arrays.{stage_of}
use Rattle.flat_threads.proofs.Loaded.{flat_at}
use Rattle.flat_threads.proofs.Standing.{starts_stops, starts_first}
use Rattle.flat_threads.proofs.before.first_stop.Goals as goal

pub returns-in-Starts : goal.returns-in-Starts
returns-in-Starts c = λ stage e.
    let there = sym (ap (λ (k : Context). k.stage) c.ctx.view_is)
    ∙ (ap (λ (q : Parts). stage_of q.phase q.list.items q.calls) (sym c.deref-parts.ensures)
    ∙ ap (λ (p : Phase). stage_of p c.deref-parts.result.now.list.items c.deref-parts.result.now.calls) c.in-Starts.is) in
    c.no_room_unless.ensures ∙ (ap no_room_if c.is_small.ensures
    ∙ starts_stops c.args.program.now c.args.ctx.now.stage c.in-Starts.function c.in-Starts.field-1 there c.requires c.index.result.now
    (λ (f : LinearFunc) (g : slice_get c.args.program.now.funcs c.in-Starts.function ≡ Some f). flat_at _ c.args.program.now c.program.view_is c.program.inside.funcs.items c.program.invariant.0 c.in-Starts.function f c.index.result.now g c.index.ensures) c.args.most 0 stage e ∙ starts_first c.args.program.now c.args.most c.in-Starts.function c.in-Starts.field-1 stage (sym there ∙ e))
