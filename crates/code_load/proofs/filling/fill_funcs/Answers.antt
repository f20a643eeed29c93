use Rattle.std.proofs.Common.{◌++◌, map, ap, ◌∙◌, arith}
use Rattle.std.proofs.lemmas.Result.{err_from_is_err_and}
use Rattle.struct_ir.specs.Views.{func_view}
use Rattle.pin_flow.proofs.MadeEach.{made_step, made_end}
use Rattle.code_file.specs.RawViews.{raw_func_view}
use Rattle.code_file.specs.Calls.{func_filled}
use Rattle.code_file.specs.Conditions.{has_parameters}
use Rattle.code_load.proofs.FilledRows.{passes, falls_here, falls_on}
use Rattle.code_load.proofs.filling.fill_funcs.Goals as goal

pub loop-f-preserved : goal.loop-f-preserved
loop-f-preserved c =
    let rest = c.next.new.self.rest.items in
    let left = c.loop-f.f-iterator.rest.items in
    record {
      made = ap (λ l. map func_view l ++ map func_filled (map raw_func_view rest)) c.in_ok-push.ensures.items
          ∙ made_step raw_func_view func_view func_filled c.loop-f.out.items c.in-Some.f c.in_ok-whole.whole left rest _ c.in-Some.ensures.steps.0 c.in_ok-whole.ensures c.loop-f.invariant.made;
      falls = falls_on left rest c.in-Some.f _ c.in-Some.ensures.steps.0 c.loop-f.invariant.falls;
    }

pub returns-in_err-whole : goal.returns-in_err-whole
returns-in_err-whole c =
    let p = err_from_is_err_and c.from_residual-in_err-whole.result c.from_residual-in_err-whole.ensures.1 in
    rw (p.1, p.2) (passes c.in_err-whole.field-0.0 (has_parameters (raw_func_view c.in-Some.f)) _
    (falls_here c.loop-f.f-iterator.rest.items c.next.new.self.rest.items c.in-Some.f _ c.in-Some.ensures.steps.0 c.loop-f.invariant.falls) c.in_err-whole.ensures)

pub returns : goal.returns
returns c =
    let h = c.in-None.ensures.steps.0 in
    let k = c.loop-f.f-iterator.rest.ok.0 in
    made_end raw_func_view func_view func_filled c.loop-f.out.items c.loop-f.f-iterator.rest.items _ (omega (arith, h, k)) c.loop-f.invariant.made
