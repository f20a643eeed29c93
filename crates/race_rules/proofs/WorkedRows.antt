-- The worked rows hold.
use Rattle.std.proofs.Common.{◌≡◌, ℕ, ◌<◌, true, refl, subst, arith}
use Rattle.race_rules.specs.declared.touch.Touch.{Touch}
use Rattle.race_rules.specs.declared.touch.TouchKind.{TouchKind}
use Rattle.race_rules.specs.declared.touch.TouchKind.TheVariants.{Read, Write, AtomicWrite, Lock, Unlock}
use Rattle.race_rules.specs.Kinds.{clash}
use Rattle.race_rules.specs.Turns.{Turn, Has, Pair, Meet}
use Rattle.race_rules.specs.Turns.Has.{here, later}
use Rattle.race_rules.specs.Order.{Directly}
use Rattle.race_rules.specs.Order.Orders.{same_thread, hands}
use Rattle.race_rules.specs.Order.Before.{at_once, through}
use Rattle.race_rules.specs.Races.{Clash, Race}
use Rattle.race_rules.specs.Shown.FirstOf.{first_here}
use Rattle.race_rules.specs.Clocks.{Clocks, clock_of, after, first_clocks}
use Rattle.race_rules.specs.Sound.{Sound}
use Rattle.race_rules.specs.Histories.{History, Caught, After, first_history, saw_all}
use Rattle.race_rules.specs.Rows.{touch, start_turn, main_turn, idle_turn, other_turn, racing, RacingRow, ShownRow, turn, handed, both, HandedRow, ApartRow, AtomicsRow, MixedRow}
use Rattle.race_rules.proofs.Knowing.{some_one}
use Rattle.race_rules.proofs.Touching.{no_has}
use Rattle.race_rules.proofs.Walking.{after_is_sound, first_clocks_are_sound}
use Rattle.race_rules.proofs.Remembering.{after_nothing, after_turn}
use Rattle.race_rules.proofs.Walks.{firsts_are_found}
use Rattle.race_rules.proofs.Clashing.{turned}

-- the clocks and the history after each turn
c1 : Clocks
c1 = after first_clocks 0 start_turn

h1 : History
h1 = saw_all (clock_of first_clocks 0 start_turn) 0 0 start_turn.touches first_history

first_never : Has (Caught (clock_of first_clocks 0 start_turn) first_history) start_turn.touches → ⊥
first_never (here c) = no_has c.by
first_never (later (here c)) = no_has c.by
first_never (later (later m)) = no_has m

after_1 : After racing 1 c1 h1
unfolding c1 h1
after_1 = after_turn racing 0 first_clocks first_history (after_nothing racing) start_turn refl first_never

c2 : Clocks
c2 = after c1 1 main_turn

h2 : History
h2 = saw_all (clock_of c1 1 main_turn) 1 0 main_turn.touches h1

-- block 0 was not seen before
second_never : Has (Caught (clock_of c1 1 main_turn) h1) main_turn.touches → ⊥
unfolding c1 h1
second_never (here c) = no_has c.by
second_never (later m) = no_has m

after_2 : After racing 2 c2 h2
unfolding c2 h2
after_2 = after_turn racing 1 c1 h1 after_1 main_turn refl second_never

c3 : Clocks
c3 = after c2 2 idle_turn

after_3 : After racing 3 c3 h2
unfolding c3
after_3 = after_turn racing 2 c2 h2 after_2 idle_turn refl (λ m. no_has m)

their_clash : Clash (touch Write 0 4 48) (touch Write 0 4 22)
their_clash = record { kinds = refl; cell = record { block = 0; cell = 0; first = record { in_block = refl; from_here = omega arith; up_to = omega arith }; second = record { in_block = refl; from_here = omega arith; up_to = omega arith } } }

they_race : Race racing 1 3
unfolding c1 c2 c3
they_race = (firsts_are_found racing 3 c3 other_turn after_3.clocks refl 1 main_turn refl (omega arith)).1 (here (here their_clash), omega arith)

other_block : (a b : Touch) → a.block ≡ 1 → b.block ≡ 0 → Meet a b → ⊥
other_block a b p q m = let r = m.first.in_block in let s = m.second.in_block in omega (arith, p, q, r, s)

no_clash : Pair Clash start_turn other_turn → ⊥
no_clash (here (here c)) = other_block _ _ refl refl c.cell
no_clash (here (later m)) = no_has m
no_clash (later (here (here c))) = (let e = c.kinds in cc)
no_clash (later (here (later m))) = no_has m
no_clash (later (later m)) = no_has m

none_sooner : (k : ℕ) → k < 1 → Race racing k 3 → ⊥
none_sooner k lt r =
    let z : k ≡ 0 = omega arith in
    let F : ℕ → Type 0 = λ n. Race racing n 3 in
    no_clash ((firsts_are_found racing 3 c3 other_turn after_3.clocks refl 0 start_turn refl (omega arith)).0 (subst F z r)).0

pub racing_row : RacingRow
racing_row = record { race = they_race; no_sooner = after_3.clean; none_below = none_sooner }

pub shown_row : ShownRow
shown_row = record { first = first_here (here their_clash); second = first_here (here (turned _ _ their_clash)) }

-- ---- mutexes and atomic touches

first_second : Directly (handed 2) 0 1
first_second = record { first = turn 0 Write 0; second = turn 0 Unlock 2; first_is = refl; second_is = refl; earlier = omega arith; orders = same_thread refl }

second_third : Directly (handed 2) 1 2
second_third = record {
  first = turn 0 Unlock 2;
  second = turn 1 Lock 2;
  first_is = refl;
  second_is = refl;
  earlier = omega arith;
  orders = hands (here (here (record { gave = refl; got = refl; same_block = refl; same_from = refl; same_to = refl })));
}

third_fourth : Directly (handed 2) 2 3
third_fourth = record { first = turn 1 Lock 2; second = turn 1 Write 0; first_is = refl; second_is = refl; earlier = omega arith; orders = same_thread refl }

pub handed_row : HandedRow
handed_row = through (through (at_once first_second) second_third) third_fourth

-- what two touches of one block have in common
first_cell : (κ μ : TouchKind) (block : ℕ) → clash κ μ ≡ true → Clash (touch κ block 8 0) (touch μ block 8 0)
first_cell κ μ block e = record {
  kinds = e;
  cell = record {
    block = block;
    cell = 0;
    first = record { in_block = refl; from_here = omega arith; up_to = omega arith };
    second = record { in_block = refl; from_here = omega arith; up_to = omega arith };
  };
}

a1 : Clocks
a1 = after first_clocks 0 (turn 0 Write 0)

a2 : Clocks
a2 = after a1 1 (turn 0 Unlock 2)

a3 : Clocks
a3 = after a2 2 (turn 1 Lock 3)

sound_3 : Sound (handed 3) 3 a3
unfolding a1 a2 a3
sound_3 =
    after_is_sound (handed 3) 2 a2 (after_is_sound (handed 3) 1 a1 (after_is_sound (handed 3) 0 first_clocks (first_clocks_are_sound (handed 3)) (turn 0 Write 0) refl) (turn 0 Unlock 2) refl) (turn 1 Lock 3) refl

pub apart_row : ApartRow
unfolding a1 a2 a3
apart_row = (firsts_are_found (handed 3) 3 a3 (turn 1 Write 0) sound_3 refl 0 (turn 0 Write 0) refl (omega arith)).1 (here (here (first_cell Write Write 0 refl)), omega arith)

m1 : Clocks
m1 = after first_clocks 0 (turn 0 AtomicWrite 4)

mixed_sound : Sound (both AtomicWrite Read) 1 m1
unfolding m1
mixed_sound = after_is_sound (both AtomicWrite Read) 0 first_clocks (first_clocks_are_sound (both AtomicWrite Read)) (turn 0 AtomicWrite 4) refl

pub mixed_row : MixedRow
unfolding m1
mixed_row = (firsts_are_found (both AtomicWrite Read) 1 m1 (turn 1 Read 4) mixed_sound refl 0 (turn 0 AtomicWrite 4) refl (omega arith)).1 (here (here (first_cell AtomicWrite Read 4 refl)), omega arith)

never_clash : Pair Clash (turn 0 AtomicWrite 4) (turn 1 AtomicWrite 4) → ⊥
never_clash (here (here c)) = (let e = c.kinds in cc)
never_clash (here (later m)) = no_has m
never_clash (later m) = no_has m

pub atomics_row : AtomicsRow
atomics_row r =
    let F : Turn → Type 0 = λ z. Pair Clash z r.second in
    let G : Turn → Type 0 = λ z. Pair Clash (turn 0 AtomicWrite 4) z in
    never_clash (subst G (some_one r.second_is refl) (subst F (some_one r.first_is refl) r.conflict.touches))
