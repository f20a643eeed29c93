use Rattle.std.proofs.Common.{◌&&◌, ap, sym, ◌∙◌}
use Rattle.c_typing.specs.Faults.{mapped}
use Rattle.c_typing.specs.Types.{behind_pointers}
use Rattle.c_typing.specs.Programs.{void_by}
use Rattle.type_declared.proofs.parameters.is_none.Goals as goal

pub returns-then-is_bare : goal.returns-then-is_bare
returns-then-is_bare c = λ j k g.
    (rw c.deref.ensures.value at (c.is_void_behind.ensures j k g)) ∙ ap (λ b. b && void_by (mapped (λ t. behind_pointers t c.args.p.now.pointers.items) j)) (sym (sym c.is_bare.ensures ∙ c.if-is_bare.true))

pub returns-else-is_bare : goal.returns-else-is_bare
returns-else-is_bare c = λ j k g.
    c.if-is_bare.false ∙ ap (λ b. b && void_by (mapped (λ t. behind_pointers t c.args.p.now.pointers.items) j)) (sym (sym c.is_bare.ensures ∙ c.if-is_bare.false))
