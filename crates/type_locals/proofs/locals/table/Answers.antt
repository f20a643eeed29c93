use Rattle.std.proofs.Common.{sym, ◌∙◌, ap, ℕ, arith}
use Rattle.std.proofs.lemmas.Grind.{common_steps}
use Rattle.std.specs.Global.{Vec}
use Rattle.type_locals.specs.inner.Marking.{marked}
use Rattle.type_locals.specs.declared.locals.Param.{Param}
use Rattle.type_locals.specs.LocalViews.{param_view}
use Rattle.type_locals.proofs.FurtherLocals.{moved, table_taken, table_left}
use Rattle.type_locals.proofs.locals.table.Goals as goal
use Rattle.type_locals.proofs.locals.table.Goals.{then-is_further+in_ok-push+in_ok-next-2, else-is_further+in_ok-push-2}

pub loop-k-preserved : goal.loop-k-preserved
loop-k-preserved c =
    elim c.if-is_further.branch [
      | then-is_further+in_ok-push+in_ok-next-2 w ↦
          table_taken c.loop-k.k c.in_ok-number.number c.loop-k.next c.if-is_further.next c.args.params.now (marked c.args.addressed.now) c.loop-k.all.items c.if-is_further.all.items c.index-params-k.result _ c.loop-k-test.true c.in_ok-number.ensures
          (ap (λ (p : Param). moved (param_view p) c.in_ok-number.number (marked c.args.addressed.now)) (sym c.index-params-k.is) ∙ sym c.is_further.ensures ∙ w.if-is_further.true) (grind (arith, common_steps)) (ap (λ (v : Vec ℕ). v.items) w.all-is ∙ w.in_ok-push.ensures.items) c.loop-k.invariant
      | else-is_further+in_ok-push-2 w ↦
          rw w.next-is (table_left c.loop-k.k c.in_ok-number.number c.loop-k.next c.args.params.now (marked c.args.addressed.now) c.loop-k.all.items c.if-is_further.all.items c.index-params-k.result _ c.loop-k-test.true c.in_ok-number.ensures
          (ap (λ (p : Param). moved (param_view p) c.in_ok-number.number (marked c.args.addressed.now)) (sym c.index-params-k.is) ∙ sym c.is_further.ensures ∙ w.if-is_further.false) (ap (λ (v : Vec ℕ). v.items) w.all-is ∙ w.in_ok-push-2.ensures.items) c.loop-k.invariant)
    ]
