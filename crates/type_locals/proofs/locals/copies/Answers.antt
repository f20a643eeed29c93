use Rattle.std.proofs.Common.{◌∙◌, ap, arith}
use Rattle.std.proofs.lemmas.Grind.{common_steps}
use Rattle.c_tree.specs.Typed.{more_stmts}
use Rattle.type_locals.specs.inner.Numbers.{further_view, copy_of, followed}
use Rattle.type_locals.proofs.FurtherLocals.{copy_more}
use Rattle.type_locals.proofs.locals.copies.Goals as goal

pub loop-i-preserved : goal.loop-i-preserved
loop-i-preserved c = λ body.
    copy_more c.args.params c.loop-i.i c.in_ok-number-2.number c.args.further.now c.loop-i.all.items c.copied.new.all.items c.index-further-i.result _ body
    c.loop-i-test.true (grind (arith, common_steps)) (λ b. c.in_ok-copied.ensures b ∙ ap (λ x. followed c.loop-i.all.items (more_stmts (copy_of c.in_ok-number-2.number (further_view x)) b)) c.index-further-i.is) (c.loop-i.invariant body)
