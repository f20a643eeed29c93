use Rattle.std.proofs.Common.{sym, ◌∙◌}
use denote.Enum.Bare.{same_true}
use Rattle.c_tree.specs.contracts.syntax.Pointer.{the_type}
use Rattle.c_tree.specs.declared.syntax.Pointer.TheVariants as pointers
use Rattle.type_declared.proofs.ParamLaws.{star_no_void}
use Rattle.type_declared.proofs.parameters.stays_void.Goals as goal

pub returns-then-eq : goal.returns-then-eq
returns-then-eq c =
    sym (star_no_void c.args.pointers.now c.pointers.pointer-index _ c.pointers-test.true (same_true the_type tt _ pointers.Star (sym c.eq.ensures ∙ c.if-eq.true)) c.pointers.invariant)
