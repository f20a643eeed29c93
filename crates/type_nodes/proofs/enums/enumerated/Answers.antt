use Rattle.std.proofs.Common.{◌≡◌, ℤ, w32, to_z, of_z, rules, subst}
use Rattle.std.proofs.lemmas.Int.{ints}
use Rattle.c_typing.specs.Scope.{with_enumerator}
use Rattle.type_context.specs.ContextViews.{context_view}
use Rattle.type_context.proofs.Judging.{fault_gives}
use Rattle.type_nodes.proofs.EnumLists.{enumerated_tells}
use Rattle.type_nodes.proofs.enums.enumerated.Goals as goal

pub returns : goal.returns
returns c = λ J d h.
    let o = context_view c.args.context.now in
    let m = context_view c.declare_enumerator.new.self in
    let same : to_z w32 (of_z w32 c.in_ok-z.z) ≡ c.in_ok-z.z = search (rules, ints) in
    let after = subst (λ (i : ℤ). m ≡ with_enumerator o c.args.name i) same c.in_ok-declare_enumerator.ensures.after in
    enumerated_tells c.args.name J d c.args.context.now c.declare_enumerator.new.self c.as_fault-fine.result c.args.value c.value_if.result c.in_ok-z.z h
    (fault_gives (λ x. x) _ _ _ c.as_fault-fine.ensures c.enumerator_fine.ensures) (c.in_ok-z.ensures.value (J d).0 h.gives) after c.value_if.ensures
