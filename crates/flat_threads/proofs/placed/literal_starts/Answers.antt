use Rattle.std.proofs.Common.{◌≡◌, ◌∙◌, ◌+◌, arith, length, map, ap}
use Rattle.std.specs.List.{range_with_len}
use Rattle.std.proofs.lemmas.List.{length-map}
use Rattle.std.proofs.lemmas.List.Sums.{sum_by_more}
use Rattle.c_tree.specs.TypedForm.{taken}
use Rattle.c_tree.specs.TypedViews.{literal_view}
use Rattle.c_tree.specs.declared.typed.Literal.{Literal}
use Rattle.struct_ir.specs.LinearViews.{code_view}
use Rattle.flat_meaning.specs.Image.{literal_address}
use Rattle.flat_threads.specs.Contexts.{layout_of}
use Rattle.flat_threads.proofs.Addresses.{sum_taken, one_more}
use Rattle.flat_threads.proofs.placed.literal_starts.Goals as goal

pub loop-literal-preserved : goal.loop-literal-preserved
loop-literal-preserved c =
    let x = layout_of (code_view c.args.code.now) in
    let i = c.loop-literal.literal-index in
    let e = sum_by_more (λ (t : Literal). taken (length t.bytes.items)) c.deref-literal-items.result.now i c.literal-item.result c.loop-literal-test.true in
    let d = ap (λ (t : Literal). taken (length t.bytes.items)) c.literal-item.is in
    let s = sum_taken literal_view (λ bs. taken (length bs)) c.deref-literal-items.result.now c.args.code.now.literals.items i c.deref-literal-items.ensures.value in
    let here : c.loop-literal.at ≡ literal_address x i = omega (arith, s, c.requires, c.loop-literal.invariant.at) in
    record {
      at = omega (arith, e, d, ap taken c.len-in-loop-literal.ensures, c.loop-literal.invariant.at);
      starts = one_more (literal_address x) c.loop-literal.starts.items i c.loop-literal.at _ c.loop-literal.invariant.starts here c.in_ok-push.ensures.items;
    }

pub returns : goal.returns
returns c =
    let x = layout_of (code_view c.args.code.now) in
    let i = c.loop-literal.literal-index in
    let s = sum_taken literal_view (λ bs. taken (length bs)) c.deref-literal-items.result.now c.args.code.now.literals.items i c.deref-literal-items.ensures.value in
    let here : c.loop-literal.at ≡ literal_address x i = omega (arith, s, c.requires, c.loop-literal.invariant.at) in
    let all : i ≡ length x.literals =
    omega (arith, c.loop-literal-test.false, c.loop-literal.auto.literal-index-end, ap length c.deref-literal-items.ensures.value, length-map c.args.code.now.literals.items literal_view) in
    one_more (literal_address x) c.loop-literal.starts.items i c.loop-literal.at _ c.loop-literal.invariant.starts here c.in_ok-push-2.ensures.items
    ∙ ap (λ n. map (literal_address x) (range_with_len 0 (n + 1))) all
