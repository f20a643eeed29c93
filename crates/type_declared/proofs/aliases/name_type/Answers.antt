use Rattle.c_typing.specs.Programs.{alias_fine}
use Rattle.type_context.specs.ContextViews.{context_view}
use Rattle.type_context.proofs.Judging.{fault_gives}
use Rattle.type_declared.specs.AliasFits.{alias_agrees}
use Rattle.type_declared.proofs.TypeNames.{name_type_tells}
use Rattle.type_declared.proofs.aliases.name_type.Goals as goal

pub returns : goal.returns
returns c = λ p h.
    let d = context_view c.args.context.now in
    let n = c.args.name in
    name_type_tells n p c.args.context.now c.declare_alias.new.self c.args.t c.fine_both.result _ c.in_ok-ty.ensures.kept h (c.in_ok-ty.ensures.declared p.0 h.gives) c.in_ok-declare_alias.ensures.after
    (c.fine_both.ensures (alias_fine d n) (alias_agrees d n p.0) (fault_gives (λ x. x) _ _ _ c.as_fault-fine.ensures c.alias_fine.ensures) (c.alias_agrees-agrees.ensures p.0 h.gives))
