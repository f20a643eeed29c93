use Rattle.std.proofs.Common.{sym, subst, ap, ◌∙◌}
use Rattle.struct_ir.specs.Lawful.{IsLawful}
use Rattle.struct_ir.specs.Views.{nodes_view}
use Rattle.emit_code.specs.inner.Layout.{instrs_for}
use Rattle.emit_code.proofs.Lawful.{lawful}
use Rattle.emit_code.proofs.emitting.emit_func.Goals as goal

pub invariant_of-result : goal.invariant_of-result
invariant_of-result c =
    let f = c.args.f.now in
    let made = c.in_ok-instrs.ensures ∙ ap (λ l. instrs_for (nodes_view l)) c.deref.ensures.value in
    record { params_are_registers = f.params_are_registers; is_lawful = subst IsLawful (sym made) (lawful (nodes_view f.nodes.items) c.requires.placed c.requires.scoped.0 c.requires.scoped.1) }
