use Rattle.std.proofs.Common.{◌++◌, map, ap, ◌∙◌, arith}
use Rattle.struct_ir.specs.Views.{func_view}
use Rattle.pin_flow.proofs.MadeEach.{made_step, made_end}
use Rattle.hoist_pass.specs.inner.Hoist.{func_hoisted}
use Rattle.hoist_pass.proofs.hoisting.hoist_funcs.Goals as goal

pub loop-f-preserved : goal.loop-f-preserved
loop-f-preserved c =
    let rest = c.next.new.self.rest.items in
    ap (λ l. map func_view l ++ map func_hoisted (map func_view rest)) c.in_ok-push.ensures.items
    ∙ made_step func_view func_view func_hoisted c.loop-f.out.items c.in-Some.f c.in_ok-hoist_func.field-0 c.loop-f.f-iterator.rest.items rest _ c.in-Some.ensures.steps.0 c.in_ok-hoist_func.ensures c.loop-f.invariant

pub returns : goal.returns
returns c =
    let h = c.in-None.ensures.steps.0 in
    let k = c.loop-f.f-iterator.rest.ok.0 in
    made_end func_view func_view func_hoisted c.loop-f.out.items c.loop-f.f-iterator.rest.items _ (omega (arith, h, k)) c.loop-f.invariant
