use Rattle.std.proofs.Common.{◌≡◌, ℕ, ◌+◌, ◌<◌, ◌≤◌, List, length, map, get_or, drop, sym, ap, ◌∙◌, arith}
use Rattle.std.specs.Prelude.{sum_by}
use Rattle.c_tree.specs.TypedForm.{taken}
use Rattle.c_tree.specs.TypedViews.{literal_view}
use Rattle.struct_ir.specs.Instrs.{LinearCode}
use Rattle.flat_store.specs.Flat.{with_bytes}
use Rattle.arena_meaning.specs.Arena.{Storage}
use Rattle.flat_meaning.specs.Image.{literals_written}
use Rattle.flat_machine.proofs.Written.{length-with_bytes, next_of, next_sum, viewed}
use Rattle.flat_machine.proofs.loading.write_literals.Goals as goal

-- one literal more
module _ (all : List (List ℕ)) (i at end : ℕ) (l : List ℕ) (here : (i < length all) × (get_or all i l ≡ l)) (left : at + sum_by (λ bs. taken (length bs)) (drop i all) ≤ end) where
  sum_here : at + (taken (length l) + sum_by (λ bs. taken (length bs)) (drop (i + 1) all)) ≤ end
  sum_here = omega (arith, left, next_sum (λ (bs : List ℕ). taken (length bs)) all i l here)

  literal_fits : at + length l ≤ end
  literal_fits = omega (arith, sum_here)

  literal_left : at + taken (length l) + sum_by (λ bs. taken (length bs)) (drop (i + 1) all) ≤ end
  literal_left = omega (arith, sum_here)

  literal_written : (old new first : Storage) (result : List ℕ) → old ≡ record first { bytes = old.bytes } → new ≡ record old { bytes = with_bytes old.bytes at l } → literals_written at (drop i all) old.bytes ≡ result → (new ≡ record first { bytes = new.bytes }) × (literals_written (at + taken (length l)) (drop (i + 1) all) new.bytes ≡ result)
  literal_written old new first result kept is written =
      let bytes : new.bytes ≡ with_bytes old.bytes at l = ap (λ (s : Storage). s.bytes) is in
      let next = ap (λ ls. literals_written at ls old.bytes) (next_of all i l here) in (
        is ∙ ap (λ (s : Storage). record s { bytes = with_bytes old.bytes at l }) kept ∙ ap (λ bs. record first { bytes = bs }) (sym bytes),
        ap (λ bs. literals_written (at + taken (length l)) (drop (i + 1) all) bs) bytes ∙ sym next ∙ written,
      )

pub write_literal-requires-clause-fit : goal.write_literal-requires-clause-fit
write_literal-requires-clause-fit c =
    let items = c.deref-literal-items.result.now in
    let views : map literal_view items ≡ c.args.program.now.literals = ap (map literal_view) c.deref-literal-items.ensures.value ∙ ap (λ (p : LinearCode). p.literals) c.code.ensures.code in
    let here = viewed literal_view items c.args.program.now.literals c.loop-literal.literal-index c.literal-item.result views c.loop-literal-test.true c.literal-item.is in
    let fits = literal_fits c.args.program.now.literals c.loop-literal.literal-index c.loop-literal.at _ (literal_view c.literal-item.result) here c.loop-literal.invariant.left in
    omega (arith, fits, ap length c.deref.ensures.value)

pub taken-at-requires : goal.taken-at-requires
taken-at-requires c =
    let items = c.deref-literal-items.result.now in
    let views : map literal_view items ≡ c.args.program.now.literals = ap (map literal_view) c.deref-literal-items.ensures.value ∙ ap (λ (p : LinearCode). p.literals) c.code.ensures.code in
    let here = viewed literal_view items c.args.program.now.literals c.loop-literal.literal-index c.literal-item.result views c.loop-literal-test.true c.literal-item.is in
    let fits = literal_fits c.args.program.now.literals c.loop-literal.literal-index c.loop-literal.at _ (literal_view c.literal-item.result) here c.loop-literal.invariant.left in
    omega (arith, fits, c.len.ensures, c.literal-item.result.bytes.ok.0, c.loop-literal.invariant.whole, c.requires.small, c.loop-literal.invariant.first)

pub overflow_add-at : goal.overflow_add-at
overflow_add-at c =
    let items = c.deref-literal-items.result.now in
    let views : map literal_view items ≡ c.args.program.now.literals = ap (map literal_view) c.deref-literal-items.ensures.value ∙ ap (λ (p : LinearCode). p.literals) c.code.ensures.code in
    let here = viewed literal_view items c.args.program.now.literals c.loop-literal.literal-index c.literal-item.result views c.loop-literal-test.true c.literal-item.is in
    let left = literal_left c.args.program.now.literals c.loop-literal.literal-index c.loop-literal.at _ (literal_view c.literal-item.result) here c.loop-literal.invariant.left in
    omega (arith, left, c.len.ensures, c.literal-item.result.bytes.ok.0, c.taken-at.ensures, c.loop-literal.invariant.whole, c.requires.small)

pub loop-literal-preserved : goal.loop-literal-preserved
loop-literal-preserved c =
    let items = c.deref-literal-items.result.now in
    let i = c.loop-literal.literal-index in
    let at = c.loop-literal.at in
    let all = c.args.program.now.literals in
    let l = literal_view c.literal-item.result in
    let old = c.loop-literal.arena in
    let new = c.write_literal.new.arena in
    let views : map literal_view items ≡ all = ap (map literal_view) c.deref-literal-items.ensures.value ∙ ap (λ (p : LinearCode). p.literals) c.code.ensures.code in
    let here = viewed literal_view items all i c.literal-item.result views c.loop-literal-test.true c.literal-item.is in
    let fits = literal_fits all i at _ l here c.loop-literal.invariant.left in
    let left = literal_left all i at _ l here c.loop-literal.invariant.left in
    let is : new ≡ record old { bytes = with_bytes old.bytes at l } = c.write_literal.ensures ∙ ap (λ bs. record old { bytes = with_bytes old.bytes at bs }) c.deref.ensures.value in
    let whole : length new.bytes ≡ length old.bytes = ap (λ (s : Storage). length s.bytes) is ∙ length-with_bytes old.bytes l at (omega (arith, fits, c.loop-literal.invariant.first)) in
    let count : c.len.result ≡ length l = omega (arith, c.len.ensures, c.literal-item.result.bytes.ok.0) in
    let step : c.taken-at.result ≡ taken (length l) = c.taken-at.ensures ∙ ap taken count in
    let done = literal_written all i at _ l here c.loop-literal.invariant.left old new c.args.arena.now _ c.loop-literal.invariant.rest is c.loop-literal.invariant.written in
    record {
      first = omega (arith, c.loop-literal.invariant.first);
      left = omega (arith, left, step, whole);
      whole = whole ∙ c.loop-literal.invariant.whole;
      rest = done.0;
      written = rw step done.1;
    }
