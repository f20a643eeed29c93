-- Ends worked out by hand.
use Rattle.std.proofs.Common.{◌≡◌, ◌≢◌, ℕ, zero, suc, ◌<◌, List, slice_get, Some, refl, subst, arith}
use Rattle.ak_words.specs.declared.rule.Rule.TheVariants.{C5}
use Rattle.block_store.specs.Runs.{reaches, breaks}
use Rattle.race_rules.specs.declared.touch.TouchKind.TheVariants.{Write, Lock, Unlock}
use Rattle.race_rules.specs.Turns.{Turn, Pair}
use Rattle.race_rules.specs.Turns.Has.{here, later}
use Rattle.race_rules.specs.Races.{Clash, Race}
use Rattle.race_rules.specs.Shown.{Shows}
use Rattle.race_rules.specs.Rows.{touch, main_turn, other_turn, racing, turn, handed}
use Rattle.race_rules.proofs.Knowing.{some_one}
use Rattle.race_rules.proofs.Touching.{no_has}
use Rattle.race_rules.proofs.WorkedRows.{racing_row, shown_row, handed_row}
use Rattle.race_check.specs.Ends.{HaveNoRace, IsSide, IsTold}
use Rattle.race_check.specs.Rows.{side, EndsStand}
use Rattle.race_check.proofs.Telling.{race_end, broke_end, clean_end, reaches_breaks}

told : IsTold racing (side 0 48 1) (side 1 22 3)
told =
    let r = racing_row.race in
    let p : main_turn ≡ r.first = some_one refl r.first_is in
    let q : other_turn ≡ r.second = some_one refl r.second_is in
    let F : Turn → Type 0 = λ x. Shows x other_turn (touch Write 0 4 48) (touch Write 0 4 22) in
    let G : Turn → Type 0 = λ y. Shows r.first y (touch Write 0 4 48) (touch Write 0 4 22) in
    let H : Turn → Type 0 = λ x. IsSide x (touch Write 0 4 48) (side 0 48 1) in
    let K : Turn → Type 0 = λ x. IsSide x (touch Write 0 4 22) (side 1 22 3) in
    record {
      least = racing_row;
      one = touch Write 0 4 48;
      other = touch Write 0 4 22;
      shown = record { race = r; touches = subst G q (subst F p shown_row) };
      first_side = subst H p (record { thread = refl; place = refl });
      second_side = subst K q (record { thread = refl; place = refl });
    }

-- two turns of one thread don't race
one_thread : (ts : List Turn) (i j : ℕ) (x y : Turn) → slice_get ts i ≡ Some x → slice_get ts j ≡ Some y → x.thread ≡ y.thread → Race ts i j → ⊥
one_thread ts i j x y is at same r =
    let F : Turn → Type 0 = λ z. z.thread ≢ y.thread in
    let G : Turn → Type 0 = λ z. r.first.thread ≢ z.thread in
    subst F (some_one r.first_is is) (subst G (some_one r.second_is at) r.conflict.apart) same

-- nor do two whose touches don't clash
clash_not : (ts : List Turn) (i j : ℕ) (x y : Turn) → slice_get ts i ≡ Some x → slice_get ts j ≡ Some y → (Pair Clash x y → ⊥) → Race ts i j → ⊥
clash_not ts i j x y is at never r =
    let F : Turn → Type 0 = λ z. Pair Clash z y in
    let G : Turn → Type 0 = λ z. Pair Clash r.first z in
    never (subst F (some_one r.first_is is) (subst G (some_one r.second_is at) r.conflict.touches))

write_lock : Pair Clash (turn 0 Write 0) (turn 1 Lock 2) → ⊥
write_lock (here (here c)) = absurd (let e = c.kinds in cc)
write_lock (here (later m)) = no_has m
write_lock (later m) = no_has m

unlock_lock : Pair Clash (turn 0 Unlock 2) (turn 1 Lock 2) → ⊥
unlock_lock (here (here c)) = absurd (let e = c.kinds in cc)
unlock_lock (here (later m)) = no_has m
unlock_lock (later m) = no_has m

unlock_write : Pair Clash (turn 0 Unlock 2) (turn 1 Write 0) → ⊥
unlock_write (here (here c)) = absurd (let e = c.kinds in cc)
unlock_write (here (later m)) = no_has m
unlock_write (later m) = no_has m

-- no two of the turns race between which a mutex is handed on
none_of_handed : (i j : ℕ) → i < j → Race (handed 2) i j → ⊥
none_of_handed zero (suc zero) lt r = one_thread (handed 2) 0 1 (turn 0 Write 0) (turn 0 Unlock 2) refl refl refl r
none_of_handed zero (suc (suc zero)) lt r = clash_not (handed 2) 0 2 (turn 0 Write 0) (turn 1 Lock 2) refl refl write_lock r
none_of_handed zero (suc (suc (suc zero))) lt r = r.unordered handed_row
none_of_handed (suc zero) (suc (suc zero)) lt r = clash_not (handed 2) 1 2 (turn 0 Unlock 2) (turn 1 Lock 2) refl refl unlock_lock r
none_of_handed (suc zero) (suc (suc (suc zero))) lt r = clash_not (handed 2) 1 3 (turn 0 Unlock 2) (turn 1 Write 0) refl refl unlock_write r
none_of_handed (suc (suc zero)) (suc (suc (suc zero))) lt r = one_thread (handed 2) 2 3 (turn 1 Lock 2) (turn 1 Write 0) refl refl refl r
none_of_handed i zero lt r = absurd (omega (arith, lt))
none_of_handed (suc i) (suc zero) lt r = absurd (omega (arith, lt))
none_of_handed (suc (suc i)) (suc (suc zero)) lt r = absurd (omega (arith, lt))
none_of_handed (suc (suc (suc i))) (suc (suc (suc zero))) lt r = absurd (omega (arith, lt))
none_of_handed i (suc (suc (suc (suc j)))) lt r = absurd (let e = r.second_is in cc)

handed_clean : HaveNoRace (handed 2)
handed_clean j q = none_of_handed q.turn j q.race.earlier q.race

pub ends_stand : EndsStand
ends_stand = record {
  a_race = λ s. race_end racing (reaches s) (side 0 48 1) (side 1 22 3) told;
  a_race_before_a_rule = race_end {A = ℕ} racing (breaks C5 4) (side 0 48 1) (side 1 22 3) told;
  ordered = λ s. clean_end (handed 2) (reaches s) handed_clean (reaches_breaks (reaches s) s refl);
  a_rule = broke_end {A = ℕ} (handed 2) (breaks C5 4) C5 4 handed_clean refl;
}
