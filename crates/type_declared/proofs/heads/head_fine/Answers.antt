use Rattle.std.proofs.Common.{sym, subst}
use Rattle.std.specs.Option.{option_map}
use Rattle.c_tree.specs.SyntaxViews as source
use Rattle.c_typing.specs.Faults.{Gives}
use Rattle.c_typing.specs.Programs.{name_fine, types_fine, head_fine}
use Rattle.type_context.specs.ContextViews.{context_view}
use Rattle.type_context.proofs.Judging.{gives_both, fault_gives}
use Rattle.type_declared.proofs.heads.head_fine.Goals as goal

pub returns : goal.returns
returns c = λ names j k is g h.
    let unit = λ (u : Unit {0}). tt in
    let d = context_view c.args.context.now in
    let body = option_map source.body_view c.args.body.now in
    subst (λ r. Gives (λ x. x) r (head_fine d names c.args.name body j k)) (sym c.both.ensures)
    (gives_both unit unit c.as_fault-named.result c.types_fine-types.result (name_fine d names c.args.name body) (types_fine d c.args.name j k) (fault_gives unit _ _ _ c.as_fault-named.ensures (c.name_fine.ensures names is)) (c.types_fine-types.ensures j k g h))
