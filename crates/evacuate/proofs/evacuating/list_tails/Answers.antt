use Rattle.std.proofs.Common.{ℕ, List, [], ◌∷◌, ◌++◌, sym, ap, ◌∙◌, arith}
use Rattle.std.proofs.lemmas.List.FromFn.{map-range_with_len_more}
use Rattle.sub_heaps.specs.SubHeaps.{extent_in}
use Rattle.evacuate.proofs.evacuating.list_tails.Goals as goal

pub loop-number-preserved : goal.loop-number-preserved
loop-number-preserved c =
    let f = extent_in c.args.heaps.now in
    let k = c.loop-number.number in
    record {
      end = c.loop-number.invariant.end;
      items = c.in-Ok.ensures.items ∙ ap (λ (x : ℕ). c.loop-number.into.items ++ x ∷ []) c.extent_within.ensures ∙ ap (λ (xs : List ℕ). xs ++ f k ∷ []) c.loop-number.invariant.items ∙ sym (map-range_with_len_more f 0 k k (omega arith));
      len = omega (arith, c.in-Ok.ensures.len, c.loop-number.invariant.len);
      capacity = omega (arith, c.in-Ok.ensures.capacity, c.loop-number.invariant.capacity);
    }
