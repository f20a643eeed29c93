use Rattle.std.proofs.Common.{sym, ◌∙◌, refl, ap}
use Rattle.std.specs.Global.{Vec}
use Rattle.type_locals.specs.inner.Marking.{marked}
use Rattle.type_locals.specs.declared.locals.Param.{Param}
use Rattle.type_locals.specs.LocalViews.{param_view}
use Rattle.type_locals.specs.declared.locals.Further.{Further}
use Rattle.type_locals.specs.inner.Numbers.{furthers_view}
use Rattle.type_locals.proofs.FurtherLocals.{moved, further_taken, further_left}
use Rattle.type_locals.proofs.locals.further_params.Goals as goal
use Rattle.type_locals.proofs.locals.further_params.Goals.{then-is_further+in_ok-push, else-is_further}

pub loop-k-preserved : goal.loop-k-preserved
loop-k-preserved c =
    elim c.if-is_further.branch [
      | then-is_further+in_ok-push w ↦
          further_taken c.loop-k.k c.in_ok-number.number c.args.params.now (marked c.args.addressed.now) c.loop-k.all.items c.if-is_further.all.items _ c.index-params-k.result _ c.loop-k-test.true c.in_ok-number.ensures
          (ap (λ (p : Param). moved (param_view p) c.in_ok-number.number (marked c.args.addressed.now)) (sym c.index-params-k.is) ∙ sym c.is_further.ensures ∙ w.if-is_further.true) refl c.index-params-k.is (ap (λ (v : Vec Further). v.items) w.all-is ∙ w.in_ok-push.ensures.items) c.loop-k.invariant
      | else-is_further w ↦
          rw w.all-is (further_left c.loop-k.k c.in_ok-number.number c.args.params.now (marked c.args.addressed.now) (furthers_view c.loop-k.all.items) c.index-params-k.result _ c.loop-k-test.true c.in_ok-number.ensures
          (ap (λ (p : Param). moved (param_view p) c.in_ok-number.number (marked c.args.addressed.now)) (sym c.index-params-k.is) ∙ sym c.is_further.ensures ∙ w.if-is_further.false) c.loop-k.invariant)
    ]
