-- The moves of objects out of one sub-heap, one after the other: the tails rise with each, and go back with it.
use Rattle.std.proofs.Common.{◌≡◌, ℕ, zero, suc, ◌+◌, ◌-◌, ◌*◌, ◌/◌, ◌%◌, ◌<◌, ◌≤◌, Bool, true, false, cond, nat_le, nat_lt, List, [], ◌∷◌, ◌++◌, length, get_or, set, drop, take, Option, Some, None, refl, sym, ap, ◌∙◌, subst, arith}
use Rattle.std.specs.Prelude.{option_and_then}
use Rattle.std.specs.List.{AllByRecursion as Each, find, range_with_len}
use Rattle.std.proofs.lemmas.Bool.Decides.{nat_tests}
use Rattle.std.proofs.lemmas.List.{append_assoc, append-nil, length-append, length-set, drop-append-le, take-append-le, take_at, drop_at}
use Rattle.std.proofs.lemmas.Nat.{div-mul-add}
use Rattle.sub_heaps.specs.declared.objects.Object.{Object}
use Rattle.sub_heaps.specs.declared.moves.Move.{Move}
use Rattle.sub_heaps.proofs.Blocks.{place_parts}
use Rattle.sub_heaps.proofs.Standing.{Each-append, Each-left, Each-right}
use Rattle.sub_heaps.proofs.Taken.{find_each}
use Rattle.evacuate.proofs.Legal.{and_right, find_true, numbers_below}
use Rattle.evacuate.specs.Evacuation.{then_moves}
use Rattle.evacuate.specs.inner.Tails.{has_room, lowered, planned, raised, raised_at, tail_move}

-- moves that were made, before those that come
abbrev pub with_front : List Move → Option (List Move) → Option (List Move)
with_front done None = None
with_front done (Some ms) = Some (done ++ ms)

pub with_front-nil : (r : Option (List Move)) → with_front [] r ≡ r
with_front-nil None = refl
with_front-nil (Some ms) = refl

pub with_front-then : (done : List Move) (m : Move) (r : Option (List Move)) → with_front done (then_moves m r) ≡ with_front (done ++ m ∷ []) r
with_front-then done m None = refl
with_front-then done m (Some ms) = ap Some (sym (append_assoc done (m ∷ []) ms))

pub raised-append : (size : ℕ) (ms ns : List Move) (tails : List ℕ) → raised size (ms ++ ns) tails ≡ raised size ns (raised size ms tails)
raised-append size [] ns tails = refl
raised-append size (m ∷ ms) ns tails = raised-append size ms ns (raised_at (m.to / size) m.size tails)

pub lowered-last : (size : ℕ) (ms : List Move) (m : Move) (tails : List ℕ) → lowered size (ms ++ m ∷ []) tails ≡ lowered size ms (set tails (m.to / size) (m.to % size))
lowered-last size [] m tails = refl
lowered-last size (n ∷ ms) m tails = ap (λ (ts : List ℕ). set ts (n.to / size) (n.to % size)) (lowered-last size ms m tails)

-- what is put back
pub put_back : (tails : List ℕ) (i x : ℕ) → set (set tails i x) i (get_or tails i 0) ≡ tails
put_back [] i x = refl
put_back (t ∷ tails) zero x = refl
put_back (t ∷ tails) (suc i) x = ap (λ (ts : List ℕ). t ∷ ts) (put_back tails i x)

pub length-raised_at : (i bytes : ℕ) (tails : List ℕ) → length (raised_at i bytes tails) ≡ length tails
length-raised_at i bytes tails = length-set tails i (get_or tails i 0 + bytes)

-- where the move to a tail goes
module _ (size : ℕ) (o : Object) (j : ℕ) (tails : List ℕ) (has : 0 < o.size) (fits : get_or tails j 0 + o.size ≤ size) where
  pub move_number : (tail_move size o j tails).to / size ≡ j
  move_number = div-mul-add j size (get_or tails j 0) (omega (arith, has, fits))

  pub move_offset : (tail_move size o j tails).to % size ≡ get_or tails j 0
  move_offset =
      let parts = place_parts size (omega (arith, has, fits)) (j * size + get_or tails j 0) in
      let same : (j * size + get_or tails j 0) / size * size ≡ j * size = ap (λ (k : ℕ). k * size) move_number in
      omega (arith, parts, same)

-- some objects of a sub-heap were moved, and the rest is to come
pub record Filling (size number : ℕ) (os rest : List Object) (before tails : List ℕ) (front moves done : List Move) : Type 0 where
  pub appended : moves ≡ front ++ done
  pub plan : planned size number os before ≡ with_front done (planned size number rest tails)
  pub risen : tails ≡ raised size done before
  pub back : lowered size done tails ≡ before
  pub numbers : Each (λ m. m.to / size < length before) done
  pub listed : length tails ≡ length before
  pub few : length done + length rest ≡ length os

pub starts : (size number : ℕ) (os : List Object) (tails : List ℕ) (front : List Move) → Filling size number os os tails tails front front []
starts size number os tails front = record { appended = sym (append-nil front); plan = sym (with_front-nil (planned size number os tails)); risen = refl; back = refl; numbers = tt; listed = refl; few = omega arith }

module _ (size number : ℕ) (os : List Object) (o : Object) (rest : List Object) (before tails : List ℕ) (front moves done : List Move) (now : Filling size number os (o ∷ rest) before tails front moves done) where
  pub goes : (j : ℕ) → 0 < o.size → j < length tails → get_or tails j 0 + o.size ≤ size → find (has_room size o.size tails) (range_with_len 0 number) ≡ Some j
      → Filling size number os rest before (raised_at j o.size tails) front (moves ++ tail_move size o j tails ∷ []) (done ++ tail_move size o j tails ∷ [])
  goes j has low fits found =
      let m = tail_move size o j tails in
      let at = move_number size o j tails has fits in
      let made : planned size number (o ∷ rest) tails ≡ then_moves m (planned size number rest (raised_at j o.size tails)) = ap (λ (r : Option ℕ). option_and_then (λ lower. then_moves (tail_move size o lower tails) (planned size number rest (raised_at lower o.size tails))) r) found in
      record {
        appended = ap (λ (ms : List Move). ms ++ m ∷ []) now.appended ∙ append_assoc front done (m ∷ []);
        plan = now.plan ∙ ap (with_front done) made ∙ with_front-then done m (planned size number rest (raised_at j o.size tails));
        risen = sym (raised-append size done (m ∷ []) before ∙ ap (λ (ts : List ℕ). raised_at (m.to / size) o.size ts) (sym now.risen) ∙ ap (λ (k : ℕ). raised_at k o.size tails) at);
        back = lowered-last size done m (raised_at j o.size tails)
            ∙ ap (λ (k : ℕ). lowered size done (set (raised_at j o.size tails) k (m.to % size))) at
            ∙ ap (λ (x : ℕ). lowered size done (set (raised_at j o.size tails) j x)) (move_offset size o j tails has fits)
            ∙ ap (lowered size done) (put_back tails j (get_or tails j 0 + o.size)) ∙ now.back;
        numbers = Each-append (λ n. n.to / size < length before) done (m ∷ []) now.numbers (omega (arith, at, low, now.listed), tt);
        listed = length-raised_at j o.size tails ∙ now.listed;
        few = omega (arith, now.few, length_last done m);
      }
    where
      length_last : (ms : List Move) (m : Move) → length (ms ++ m ∷ []) ≡ length ms + 1
      length_last [] m = refl
      length_last (n ∷ ms) m = omega (arith, length_last ms m)

  -- where one finds no place, none is moved
  pub stops : find (has_room size o.size tails) (range_with_len 0 number) ≡ None → planned size number os before ≡ None
  stops none =
      let made : planned size number (o ∷ rest) tails ≡ None = ap (λ (r : Option ℕ). option_and_then (λ lower. then_moves (tail_move size o lower tails) (planned size number rest (raised_at lower o.size tails))) r) none in
      now.plan ∙ ap (with_front done) made

pub ends : (size number : ℕ) (os : List Object) (before tails : List ℕ) (front moves done : List Move) → Filling size number os [] before tails front moves done → planned size number os before ≡ Some done
ends size number os before tails front moves done now = now.plan ∙ ap Some (append-nil done)

-- ---- the last move is taken back

module _ (kept : ℕ) (ms front : List Move) (m : Move) (is : ms ≡ front ++ m ∷ []) (more : kept < length ms) where
  pub popped_long : kept ≤ length front
  popped_long = let z = ap (λ (xs : List Move). length xs) is in omega (arith, z, length-append front (m ∷ []), more)

  pub popped_rest : drop kept ms ≡ drop kept front ++ m ∷ []
  popped_rest = ap (drop kept) is ∙ drop-append-le kept front (m ∷ []) popped_long

  pub popped_front : take kept front ≡ take kept ms
  popped_front = sym (ap (take kept) is ∙ take-append-le kept front (m ∷ []) popped_long)

  pub popped_lowered : (size : ℕ) (tails : List ℕ) → lowered size (drop kept front) (set tails (m.to / size) (m.to % size)) ≡ lowered size (drop kept ms) tails
  popped_lowered size tails = sym (ap (λ (xs : List Move). lowered size xs tails) popped_rest ∙ lowered-last size (drop kept front) m tails)

  pub popped_each : (P : Move → Type 0) → Each P (drop kept ms) → P m × Each P (drop kept front)
  popped_each P each = let all : Each P (drop kept front ++ m ∷ []) = subst (Each P) popped_rest each in ((Each-right P (drop kept front) (m ∷ []) all).0, Each-left P (drop kept front) (m ∷ []) all)

-- the walk over the numbers goes on where one has no room
pub find_past : (p : ℕ → Bool) (number below : ℕ) → number < below → p number ≡ false → find p (range_with_len number (below - number)) ≡ find p (range_with_len (number + 1) (below - (number + 1)))
find_past p number below lt fails =
    let one : below - number ≡ suc (below - (number + 1)) = omega (arith, lt) in
    ap (λ (n : ℕ). find p (range_with_len number n)) one ∙ ap (λ (b : Bool). cond b (Some number) (find p (range_with_len (number + 1) (below - (number + 1))))) fails

le_from : (a b : ℕ) → nat_le a b ≡ true → a ≤ b
le_from a b is = grind (arith, nat_tests)

-- a number that is found is below, and its tail has room
pub room_found : (size bytes : ℕ) (tails : List ℕ) (s j : ℕ) → find (has_room size bytes tails) (range_with_len 0 s) ≡ Some j → (j < s) × (get_or tails j 0 + bytes ≤ size)
room_found size bytes tails s j found = (
  find_each (λ k. k < s) (has_room size bytes tails) (range_with_len 0 s) j found (numbers_below 0 s s (omega arith)),
  le_from (get_or tails j 0 + bytes) size (and_right (nat_lt 0 (get_or tails j 0)) (nat_le (get_or tails j 0 + bytes) size) (find_true (has_room size bytes tails) (range_with_len 0 s) j found)),
)

-- taken back, all is as it was
pub taken_back : (size number : ℕ) (os rest : List Object) (before tails : List ℕ) (front moves done : List Move) → Filling size number os rest before tails front moves done → (kept : ℕ) → length front ≡ kept
    → (take kept moves ≡ front) × (lowered size (drop kept moves) tails ≡ before)
taken_back size number os rest before tails front moves done now kept is = (
  ap (take kept) now.appended ∙ take_at front done kept is,
  ap (λ (xs : List Move). lowered size (drop kept xs) tails) now.appended ∙ ap (λ (xs : List Move). lowered size xs tails) (drop_at front done kept is) ∙ now.back,
)
