use Rattle.std.proofs.Common.{◌≡◌, ap, sym, ◌∙◌, None}
use Rattle.std.specs.Prelude.{option_map}
use Rattle.struct_ir.specs.Valid.{body_of, latch_of}
use Rattle.struct_ir.specs.Views.{nodes_view}
use Rattle.struct_ir.specs.ValidViews.{scope_view, around_view}
use Rattle.struct_ir.proofs.Views.{if_is, loop_is}
use Rattle.pin_checker.specs.inner.Reports.{report_invalid, report_invalid_in}
use Rattle.pin_checker.proofs.ReportRows.{invalid_on}
use Rattle.pin_checker.proofs.invalid.+invalids.Goals as goal

pub report_invalid-loop-i-preserved : goal.report_invalid-loop-i-preserved
report_invalid-loop-i-preserved t c =
    invalid_on (scope_view c.args.x.now) (around_view c.args.around) c.args.nodes.now c.loop-i.i c.index-nodes-i.result (option_map (λ s. s.now) c.loop-i.before) _ c.loop-i.found _ _ _ _ c.loop-i-test.true c.index-nodes-i.is c.loop-i.invariant
    c.is_sound-is_bad.ensures c.noted.ensures c.report_invalid_in-found.ensures c.list_at-before.ensures

pub report_invalid_in-returns-in-If : goal.report_invalid_in-returns-in-If
unfolding report_invalid_in
report_invalid_in-returns-in-If t c =
    let x = scope_view c.args.x.now in
    let around = around_view c.args.around in
    let a : c.report_invalid-first.result ≡ report_invalid x around None (nodes_view c.in-If.one.items) c.args.best = c.report_invalid-first.ensures ∙ ap (λ l. report_invalid x around None (nodes_view l) c.args.best) c.deref.ensures.value in
    let b : c.report_invalid.result ≡ report_invalid x around None (nodes_view c.in-If.other.items) (report_invalid x around None (nodes_view c.in-If.one.items) c.args.best) = c.report_invalid.ensures ∙ (λ i. report_invalid x around None (nodes_view (c.deref-in-If.ensures.value i)) (a i)) in
    b ∙ ap (λ n. report_invalid_in x around n c.args.best) (sym (if_is c.args.n.now _ c.in-If.one c.in-If.other c.in-If.is))

pub report_invalid_in-returns-in-Loop : goal.report_invalid_in-returns-in-Loop
unfolding report_invalid_in
report_invalid_in-returns-in-Loop t c =
    let x = scope_view c.args.x.now in
    let a : c.report_invalid-first-in-Loop.result ≡ report_invalid x body_of None (nodes_view c.in-Loop.body.items) c.args.best = c.report_invalid-first-in-Loop.ensures ∙ (λ i. report_invalid x (c.in_body.ensures i) None (nodes_view (c.deref-in-Loop.ensures.value i)) c.args.best) in
    let b : c.report_invalid-in-Loop.result ≡ report_invalid x latch_of None (nodes_view c.in-Loop.step.items) (report_invalid x body_of None (nodes_view c.in-Loop.body.items) c.args.best) =
    c.report_invalid-in-Loop.ensures ∙ (λ i. report_invalid x (c.in_latch.ensures i) None (nodes_view (c.deref-in-Loop-2.ensures.value i)) (a i)) in
    b ∙ ap (λ n. report_invalid_in x (around_view c.args.around) n c.args.best) (sym (loop_is c.args.n.now c.in-Loop.body c.in-Loop.step c.in-Loop.is))
