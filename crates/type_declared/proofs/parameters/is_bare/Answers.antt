use Rattle.std.proofs.Common.{ℕ, ◌==◌, not, ap, ◌∙◌}
use Rattle.type_declared.proofs.ParamLaws.{bare_named, bare_unnamed}
use Rattle.type_declared.proofs.parameters.is_bare.Goals as goal

pub returns-then-is_none : goal.returns-then-is_none
returns-then-is_none c =
    c.is_empty.ensures ∙ ap (λ (k : ℕ). k == 0) c.args.p.now.dims.ok.0 ∙ bare_unnamed c.args.p.now.name c.args.p.now.dims.items (c.is_none.ensures ∙ ap not c.if-is_none.true)

pub returns-else-is_none : goal.returns-else-is_none
returns-else-is_none c =
    c.if-is_none.false ∙ bare_named c.args.p.now.name c.args.p.now.dims.items (c.is_none.ensures ∙ ap not c.if-is_none.false)
