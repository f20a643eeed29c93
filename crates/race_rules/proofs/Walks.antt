-- The laws.
use Rattle.std.proofs.Common.{◌≡◌, ◌↔◌, ℕ, ◌<◌, ◌≤◌, ◌⊎◌, inl, inr, List, slice_get, Some, subst, arith}
use Rattle.std.proofs.lemmas.Bool.{cases_lt}
use Rattle.race_rules.specs.Turns.{Turn, Pair}
use Rattle.race_rules.specs.Order.{Before}
use Rattle.race_rules.specs.Order.Orders.{same_thread}
use Rattle.race_rules.specs.Order.Before.{at_once}
use Rattle.race_rules.specs.Races.{Clash, Race}
use Rattle.race_rules.specs.Clocks.{Clock, AtOrBefore, clock_of}
use Rattle.race_rules.specs.Laws.{ClocksKnow, ClocksBegin, ClocksGoOn, WalksBegin, RacesAreCaught, WalksGoOn, BlocksMayGo, FirstsAreFound}
use Rattle.race_rules.proofs.Knowing.{some_one}
use Rattle.race_rules.proofs.Walking.{clock_law, first_clocks_are_sound, after_is_sound}
use Rattle.race_rules.proofs.Remembering.{after_nothing, caught_exactly, after_turn, after_going}

pub clocks_know : ClocksKnow
clocks_know ts k c x s at i y is = clock_law ts k c s x at i y is

pub clocks_begin : ClocksBegin
clocks_begin ts = first_clocks_are_sound ts

pub clocks_go_on : ClocksGoOn
clocks_go_on ts k c x s at = after_is_sound ts k c s x at

pub walks_begin : WalksBegin
walks_begin ts = after_nothing ts

pub races_are_caught : RacesAreCaught
races_are_caught ts k c h x a at = caught_exactly ts k c h a x at

pub blocks_may_go : BlocksMayGo
blocks_may_go ts k block c h a never = after_going ts k block c h a never

pub walks_go_on : WalksGoOn
walks_go_on ts k c h x a at never = after_turn ts k c h a x at never

-- the first turns of races with a turn whose clock knows just what is before it
module _ (ts : List Turn) (k : ℕ) (v : Clock) (x : Turn) (at : slice_get ts k ≡ Some x) (knows : (i : ℕ) (y : Turn) → slice_get ts i ≡ Some y → (i < v y.thread) ↔ AtOrBefore ts i k)
    (i : ℕ) (y : Turn) (is : slice_get ts i ≡ Some y) (lt : i < k) where
  late : (Before ts i k → ⊥) → (i < v y.thread) ⊎ (v y.thread ≤ i) → v y.thread ≤ i
  late never (inr le) = le
  late never (inl h) = absurd (elim ((knows i y is).0 h) [ inl e ↦ (let f = e in omega arith) | inr b ↦ never b ])

  not_before : v y.thread ≤ i → Before ts i k → ⊥
  not_before le b = let h = (knows i y is).1 (inr b) in omega arith

  pub race_tells : Race ts i k → Pair Clash y x × (v y.thread ≤ i)
  race_tells r =
      let F : Turn → Type 0 = λ z. Pair Clash z r.second in
      let G : Turn → Type 0 = λ z. Pair Clash y z in
      (subst G (some_one r.second_is at) (subst F (some_one r.first_is is) r.conflict.touches), late r.unordered (cases_lt i (v y.thread)))

  pub told_race : Pair Clash y x × (v y.thread ≤ i) → Race ts i k
  told_race (p, le) = record {
    first = y;
    second = x;
    first_is = is;
    second_is = at;
    earlier = lt;
    conflict = record { apart = λ e. not_before le (at_once (record { first = y; second = x; first_is = is; second_is = at; earlier = lt; orders = same_thread e })); touches = p };
    unordered = not_before le;
  }

pub firsts_are_found : FirstsAreFound
firsts_are_found ts k c x s at i y is lt = let v = clock_of c k x in (race_tells ts k v x at (clock_law ts k c s x at) i y is lt, told_race ts k v x at (clock_law ts k c s x at) i y is lt)
