use Rattle.std.proofs.Common.{◌≡◌, ℕ, ◌≤◌, map}
use Rattle.std.specs.List.{range_with_len}
use Rattle.std.specs.Vec.{vec_len, vec_capacity}
use Rattle.sub_heaps.specs.SubHeaps.{extent_in}
use Rattle.evacuate.proofs.evacuating.list_tails.Given as goal

abbrev pub invariant-loop-number : goal.invariant-loop-number
invariant-loop-number l = record {
  end : l.number-end ≡ l.heaps.count;
  items : l.into.items ≡ map {A = ℕ} {B = ℕ} (extent_in l.heaps) (range_with_len 0 l.number);
  len : vec_len l.into ≡ l.number;
  capacity : vec_capacity l.fn.into ≤ vec_capacity l.into;
}
