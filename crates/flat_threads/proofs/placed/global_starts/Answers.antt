use Rattle.std.proofs.Common.{◌≡◌, ◌∙◌, ◌+◌, arith, length, map, ap}
use Rattle.std.specs.List.{range_with_len}
use Rattle.std.proofs.lemmas.List.{length-map}
use Rattle.std.proofs.lemmas.List.Sums.{sum_by_more}
use Rattle.c_tree.specs.TypedForm.{taken}
use Rattle.struct_ir.specs.declared.code.IrGlobal.{IrGlobal}
use Rattle.struct_ir.specs.LinearViews.{code_view}
use Rattle.struct_ir.specs.Views.{global_view}
use Rattle.flat_meaning.specs.Image.{global_address}
use Rattle.flat_threads.specs.Contexts.{layout_of}
use Rattle.flat_threads.proofs.Addresses.{sum_taken, one_more}
use Rattle.flat_threads.proofs.placed.global_starts.Goals as goal

pub loop-global-preserved : goal.loop-global-preserved
loop-global-preserved c =
    let x = layout_of (code_view c.args.code.now) in
    let i = c.loop-global.global-index in
    let e = sum_by_more (λ (g : IrGlobal). taken g.size) c.deref-global-items.result.now i c.global-item.result c.loop-global-test.true in
    let d = ap (λ (g : IrGlobal). taken g.size) c.global-item.is in
    let s = sum_taken global_view (λ g. taken g.size) c.deref-global-items.result.now c.args.code.now.globals.items i c.deref-global-items.ensures.value in
    let here : c.loop-global.at ≡ global_address x i = omega (arith, s, c.loop-global.invariant.at) in
    record {
      at = omega (arith, e, d, ap taken c.from.ensures, c.loop-global.invariant.at);
      starts = one_more (global_address x) c.loop-global.starts.items i c.loop-global.at _ c.loop-global.invariant.starts here c.in_ok-push.ensures.items;
    }

pub returns : goal.returns
returns c =
    let x = layout_of (code_view c.args.code.now) in
    let i = c.loop-global.global-index in
    let s = sum_taken global_view (λ g. taken g.size) c.deref-global-items.result.now c.args.code.now.globals.items i c.deref-global-items.ensures.value in
    let here : c.loop-global.at ≡ global_address x i = omega (arith, s, c.loop-global.invariant.at) in
    let all : i ≡ length x.globals =
    omega (arith, c.loop-global-test.false, c.loop-global.auto.global-index-end, ap length c.deref-global-items.ensures.value, length-map c.args.code.now.globals.items global_view) in
    one_more (global_address x) c.loop-global.starts.items i c.loop-global.at _ c.loop-global.invariant.starts here c.in_ok-push-2.ensures.items
    ∙ ap (λ n. map (global_address x) (range_with_len 0 (n + 1))) all
