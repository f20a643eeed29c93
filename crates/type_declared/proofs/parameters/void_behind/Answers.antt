use Rattle.std.proofs.Common.{◌&&◌, ap, sym, ◌∙◌}
use Rattle.c_tree.specs.Typed.{void}
use Rattle.c_tree.specs.TypedViews.{type_view}
use Rattle.c_typing.specs.Types.{is_void, behind_pointers}
use Rattle.type_declared.proofs.ParamLaws.{void_of}
use Rattle.type_declared.proofs.parameters.void_behind.Goals as goal

pub returns-then-is_void : goal.returns-then-is_void
returns-then-is_void c =
    c.stays_void.ensures ∙ ap (λ b. b && is_void (behind_pointers void c.args.pointers.now)) (sym (sym c.is_void.ensures ∙ c.if-is_void.true)) ∙ sym (void_of (type_view c.args.t.now) c.args.pointers.now)

pub returns-else-is_void : goal.returns-else-is_void
returns-else-is_void c =
    c.if-is_void.false ∙ ap (λ b. b && is_void (behind_pointers void c.args.pointers.now)) (sym (sym c.is_void.ensures ∙ c.if-is_void.false)) ∙ sym (void_of (type_view c.args.t.now) c.args.pointers.now)
