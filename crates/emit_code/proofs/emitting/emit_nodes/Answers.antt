use Rattle.std.proofs.Common.{◌++◌, ◌∷◌, [], None, ap, ◌∙◌, map}
use Rattle.struct_ir.specs.Instrs.{leave}
use Rattle.struct_ir.specs.InstrViews.{instr_view}
use Rattle.struct_ir.specs.Views.{nodes_view}
use Rattle.emit_code.proofs.Turned.{turned}
use Rattle.emit_code.proofs.emitting.emit_nodes.Goals as goal

pub returns-in_ok-emit_row-in-Some : goal.returns-in_ok-emit_row-in-Some
returns-in_ok-emit_row-in-Some c =
    let first = c.in_ok-put-in-Some.ensures ∙ ap (λ l. map instr_view l ++ leave 0 None ∷ []) c.in_ok-code-in-Some.ensures.items in
    turned _ _ _ (nodes_view c.args.nodes.now) _ _ first c.in_ok-emit_row-in-Some.ensures.code c.reverse.ensures.items c.in-Some.ensures c.in_ok-emit_row-in-Some.ensures.index
