-- What a node knows of the objects under it.
use Rattle.std.specs.Prelude.{ℕ, ◌+◌, ◌-◌, ◌%◌, ◌≤◌, max, List, [], ◌∷◌}
use Rattle.std.specs.List.{sum_by}
use Rattle.sub_heaps.specs.declared.objects.Object.{Object}
use Rattle.sub_heaps.specs.declared.summary.Summary.{Summary}
use Rattle.sub_heaps.specs.ByPlace.{end_of}
use Rattle.sub_heaps.specs.inner.Order.{last_end}
use Rattle.sub_heaps.specs.inner.Gaps.{widest, longest_among}

-- what the objects reach into their sub-heaps: each above the end of the one before it, which is `end` for the first, or above its own sub-heap's start
abbrev pub extent_from : (size end : ℕ) → List Object → ℕ
extent_from size end [] = 0
extent_from size end (o ∷ os) = (end_of o - max (o.at - o.at % size) end) + extent_from size (end_of o) os

-- the start of the first object, or 0 where there is none
abbrev pub first_start : List Object → ℕ
first_start [] = 0
first_start (o ∷ os) = o.at

-- the start of the first object and the end of the last, the longest gap between two, the bytes that they take, and what they reach into their sub-heaps from that start on
abbrev pub summary_of : (size : ℕ) → List Object → Summary
summary_of size objects = record {
  first = first_start objects;
  end = last_end 0 objects;
  longest = longest_among size objects;
  bytes = sum_by (λ o. o.size) objects;
  extent = extent_from size (first_start objects) objects;
}

-- what is known of objects and those behind them together
abbrev pub joined : (size : ℕ) → Summary → Summary → Summary
joined size low high = record {
  first = low.first;
  end = high.end;
  longest = max low.longest (max (widest size low.end high.first) high.longest);
  bytes = low.bytes + high.bytes;
  extent = low.extent + (high.first - max (high.first - high.first % size) low.end) + high.extent;
}

-- bytes and extent are no more than what lies between the first start and the last end
pub record IsBounded (s : Summary) : Type 0 where
  pub bytes : s.first + s.bytes ≤ s.end
  pub extent : s.first + s.extent ≤ s.end
  pub end : s.end ≤ 268435456

-- the objects of one stand below those of the other
pub record AreInOrder (low high : Summary) : Type 0 where
  pub low_bounded : IsBounded low
  pub high_bounded : IsBounded high
  pub order : low.end ≤ high.first
