-- An evacuation by the tails is the evacuation: the moves out of one sub-heap, and all of them.
use Rattle.std.proofs.Common.{◌≡◌, ℕ, zero, suc, ◌+◌, ◌-◌, ◌*◌, ◌/◌, ◌<◌, ◌≤◌, ◌≢◌, ◌⊎◌, inl, inr, ◌&&◌, not, Bool, true, false, cond, eqb, nat_le, nat_lt, List, [], ◌∷◌, ◌++◌, length, get_or, map, Option, Some, None, ap, sym, subst, ◌∙◌, refl, arith, length-append}
use Rattle.std.specs.Prelude.{option_and_then, MatchOption}
use Rattle.std.specs.List.{AllByRecursion as Each, filter, find, list_any, sum_by, range_with_len}
use Rattle.std.proofs.lemmas.Bool.{cases_eq, eq-eqb, ne_eqb}
use Rattle.std.proofs.lemmas.Bool.Decides.{nat_tests}
use Rattle.std.proofs.lemmas.List.{append_assoc, append-nil}
use Rattle.sub_heaps.specs.declared.objects.Object.{Object}
use Rattle.sub_heaps.specs.declared.moves.Move.{Move}
use Rattle.sub_heaps.specs.ByPlace.{object_at}
use Rattle.sub_heaps.specs.SubHeaps.{SubHeaps, IsRounded, IsSound, objects_in, extent_in}
use Rattle.sub_heaps.specs.Moving.{AreLegal, IsAllowed, after_move, after_moves}
use Rattle.sub_heaps.proofs.Standing.{Each-weaker}
use Rattle.sub_heaps.proofs.Taken.{find_each}
use Rattle.move_plan.proofs.Numbered.{number_of_each}
use Rattle.move_plan.proofs.Turns.{Each-three, object_at-shifted, IsSound-after_move}
use Rattle.evacuate.proofs.Legal.{Apart, Standing, Good, and_right, find_true, numbers_below, allowed, number, thin_standing, thin_apart, evacuates_good}
use Rattle.evacuate.proofs.Made.{after-append}
use Rattle.evacuate.proofs.Tails.{Known, known_below, known_first, known_move, find-same, any-none, holds-extent}
use Rattle.evacuate.specs.Evacuation.{Evacuated, has_tail_for, to_tail, then_moves, emptying, was_moved, is_thin, with_moves, evacuates, evacuates_down, evacuation, holding}
use Rattle.evacuate.specs.inner.Tails.{has_room, is_thin_at, planned, planned_if_thin, raised, raised_at, tail_move}

and-false : (x y : Bool) → (x && (y && false)) ≡ false
and-false true true = refl
and-false true false = refl
and-false false y = refl

one_less : (n : ℕ) → suc n - 1 ≡ n
one_less n = omega arith

-- as many moves as objects
one_length : (size s : ℕ) (o : Object) (os : List Object) (tails : List ℕ) → ((j : ℕ) (ms : List Move) → planned size s os (raised_at j o.size tails) ≡ Some ms → length ms ≡ length os)
    → (ns : List Move) (r : Option ℕ) → option_and_then (λ lower. then_moves (tail_move size o lower tails) (planned size s os (raised_at lower o.size tails))) r ≡ Some ns → length ns ≡ suc (length os)
one_length size s o os tails again ns None e = absurd (cc e)
one_length size s o os tails again ns (Some j) e = more (planned size s os (raised_at j o.size tails)) refl e
  where
    more : (r : Option (List Move)) → planned size s os (raised_at j o.size tails) ≡ r → then_moves (tail_move size o j tails) r ≡ Some ns → length ns ≡ suc (length os)
    more None rest e = absurd (cc e)
    more (Some ms) rest e =
        let same : tail_move size o j tails ∷ ms ≡ ns = cc e in
        sym (ap (λ (xs : List Move). length xs) same) ∙ ap suc (again j ms rest)

pub planned_length : (size s : ℕ) (os : List Object) (tails : List ℕ) (ns : List Move) → planned size s os tails ≡ Some ns → length ns ≡ length os
planned_length size s [] tails ns is = let e : [] ≡ ns = cc is in sym (ap (λ (xs : List Move). length xs) e)
planned_length size s (o ∷ os) tails ns is = one_length size s o os tails (λ j ms rest. planned_length size s os (raised_at j o.size tails) ms rest) ns (find (has_room size o.size tails) (range_with_len 0 s)) is

-- the objects of the sub-heaps below a number
abbrev pub below : SubHeaps → ℕ → ℕ
below h n = length (filter (λ o. nat_lt (o.at / h.size) n) h.objects)

pub filter_few : (f : Object → Bool) (xs : List Object) → length (filter f xs) ≤ length xs
filter_few f [] = omega arith
filter_few f (x ∷ xs) = elim (f x) as (λ t. length (cond t (x ∷ filter f xs) (filter f xs)) ≤ suc (length xs)) [ true ↦ (let z = filter_few f xs in omega arith) | false ↦ (let z = filter_few f xs in omega arith) ]

pub below_more : (h : SubHeaps) (s : ℕ) → below h (suc s) ≡ below h s + length (objects_in h s)
below_more h s = by h.objects
  where
    cons : (f : Object → Bool) (x : Object) (xs : List Object) → length (filter f (x ∷ xs)) ≡ cond {A = ℕ} (f x) 1 0 + length (filter f xs)
    cons f x xs = elim (f x) as (λ t. length (cond t (x ∷ filter f xs) (filter f xs)) ≡ cond {A = ℕ} t 1 0 + length (filter f xs)) [ true ↦ omega arith | false ↦ omega arith ]

    each : (q : ℕ) → cond {A = ℕ} (nat_lt q (suc s)) 1 0 ≡ cond {A = ℕ} (nat_lt q s) 1 0 + cond {A = ℕ} (eqb q s) 1 0
    each q = grind (arith, nat_tests)

    by : (xs : List Object) → length (filter (λ o. nat_lt (o.at / h.size) (suc s)) xs) ≡ length (filter (λ o. nat_lt (o.at / h.size) s) xs) + length (filter (λ o. eqb (o.at / h.size) s) xs)
    by [] = refl
    by (x ∷ xs) = omega (arith, cons (λ o. nat_lt (o.at / h.size) (suc s)) x xs, cons (λ o. nat_lt (o.at / h.size) s) x xs, cons (λ o. eqb (o.at / h.size) s) x xs, each (x.at / h.size), by xs)

module _ (pinned : ℕ → Bool) (h : SubHeaps) where
  -- ---- the moves out of one sub-heap

  pub record Filled (s : ℕ) (os : List Object) (k : SubHeaps) (ms : List Move) (tails : List ℕ) : Type 0 where
    pub same : emptying s os k ≡ planned k.size s os tails
    pub known : (ns : List Move) → planned k.size s os tails ≡ Some ns → Known h s (after_moves ns k) (ms ++ ns) (raised k.size ns tails)

  room_same : (s : ℕ) (k : SubHeaps) (ms : List Move) (tails : List ℕ) → Known h s k ms tails → (bytes : ℕ) → find (has_tail_for k bytes) (range_with_len 0 s) ≡ find (has_room k.size bytes tails) (range_with_len 0 s)
  room_same s k ms tails now bytes =
      find-same (has_tail_for k bytes) (has_room k.size bytes tails) (range_with_len 0 s)
      (Each-weaker (λ j. j < s) (λ j. has_tail_for k bytes j ≡ has_room k.size bytes tails j)
      (λ j lt. ap (λ (b : Bool). b && nat_le (extent_in k j + bytes) k.size) (holds-extent k now.sound j) ∙ ap (λ (t : ℕ). nat_lt 0 t && nat_le (t + bytes) k.size) (sym (now.tail j lt)))
      (range_with_len 0 s) (numbers_below 0 s s (omega arith)))

  one_filled : (s : ℕ) (o : Object) (os : List Object) (k : SubHeaps) (ms : List Move) (tails : List ℕ) → s < h.count → Known h s k ms tails → Apart (o ∷ os) → Standing pinned k s (o ∷ os)
      → ((j : ℕ) → Known h s (after_move (to_tail k o j) k) (ms ++ to_tail k o j ∷ []) (raised_at j o.size tails) → Standing pinned (after_move (to_tail k o j) k) s os → Filled s os (after_move (to_tail k o j) k) (ms ++ to_tail k o j ∷ []) (raised_at j o.size tails))
      → Filled s (o ∷ os) k ms tails
  one_filled s o os k ms tails low now apart st again = at (find (has_room k.size o.size tails) (range_with_len 0 s)) refl
    where
      by_tails : (r : Option ℕ) → find (has_room k.size o.size tails) (range_with_len 0 s) ≡ r → planned k.size s (o ∷ os) tails ≡ option_and_then (λ lower. then_moves (tail_move k.size o lower tails) (planned k.size s os (raised_at lower o.size tails))) r
      by_tails r is = ap (λ (r : Option ℕ). option_and_then (λ lower. then_moves (tail_move k.size o lower tails) (planned k.size s os (raised_at lower o.size tails))) r) is

      by_heaps : (r : Option ℕ) → find (has_room k.size o.size tails) (range_with_len 0 s) ≡ r → emptying s (o ∷ os) k ≡ option_and_then (λ lower. then_moves (to_tail k o lower) (emptying s os (after_move (to_tail k o lower) k))) r
      by_heaps r is = ap (λ (r : Option ℕ). option_and_then (λ lower. then_moves (to_tail k o lower) (emptying s os (after_move (to_tail k o lower) k))) r) (room_same s k ms tails now o.size ∙ is)

      found : (j : ℕ) → find (has_room k.size o.size tails) (range_with_len 0 s) ≡ Some j → Filled s (o ∷ os) k ms tails
      found j is =
          let test = find_true (has_room k.size o.size tails) (range_with_len 0 s) j is in
          let lower : j < s = find_each (λ i. i < s) (has_room k.size o.size tails) (range_with_len 0 s) j is (numbers_below 0 s s (omega arith)) in
          let tail : get_or tails j 0 ≡ extent_in k j = now.tail j lower in
          let fits : nat_le (extent_in k j + o.size) k.size ≡ true = ap (λ (t : ℕ). nat_le (t + o.size) k.size) (sym tail) ∙ and_right (nat_lt 0 (get_or tails j 0)) _ test in
          let first = st.0 in
          let under : j < o.at / k.size = omega (arith, lower, first.4) in
          let a : IsAllowed pinned k (to_tail k o j) = allowed pinned k now.sound o j first.0 first.1 first.2 first.3 under fits in
          let goes : (j * k.size + extent_in k j) / k.size ≡ j = number pinned k now.sound o j first.0 first.1 first.2 first.3 under fits in
          let known' = known_move h s k ms tails now low o j first.0 first.2 first.4 lower goes (IsSound-after_move pinned k (to_tail k o j) now.sound a) in
          let away : Each (λ x. x.at ≢ j * k.size + extent_in k j) os = Each-weaker (λ x. (object_at x.at k.objects ≡ Some x) × (pinned x.at ≡ false) × IsRounded x.size × (x.at < k.count * k.size) × (x.at / k.size ≡ s)) (λ x. x.at ≢ j * k.size + extent_in k j)
          (λ x here same. let z : x.at / k.size ≡ (j * k.size + extent_in k j) / k.size = ap (λ (i : ℕ). i / k.size) same in absurd (omega (arith, z, goes, here.4, lower))) os st.1 in
          let st' : Standing pinned (after_move (to_tail k o j) k) s os = Each-three
          (λ x. o.at < x.at) (λ x. x.at ≢ j * k.size + extent_in k j) (λ x. (object_at x.at k.objects ≡ Some x) × (pinned x.at ≡ false) × IsRounded x.size × (x.at < k.count * k.size) × (x.at / k.size ≡ s))
          (λ x. (object_at x.at (after_move (to_tail k o j) k).objects ≡ Some x) × (pinned x.at ≡ false) × IsRounded x.size × (x.at < k.count * k.size) × (x.at / k.size ≡ s))
          (λ x lt other here. (object_at-shifted x.at o.at (j * k.size + extent_in k j) k.objects (omega (arith, lt)) other ∙ here.0, here.1, here.2, here.3, here.4)) os apart.0 away st.1 in
          let rest = again j known' st' in
          let moved : to_tail k o j ≡ tail_move k.size o j tails = ap (λ (t : ℕ). record { from = o.at; to = j * k.size + t; size = o.size }) (sym tail) in
          record {
            same = by_heaps (Some j) is ∙ ap (then_moves (to_tail k o j)) rest.same ∙ ap (λ (m : Move). then_moves m (planned k.size s os (raised_at j o.size tails))) moved ∙ sym (by_tails (Some j) is);
            known = λ ns e. last j goes moved rest ns (planned k.size s os (raised_at j o.size tails)) refl (sym (by_tails (Some j) is) ∙ e);
          }
        where
          last : (j : ℕ) → (j * k.size + extent_in k j) / k.size ≡ j → to_tail k o j ≡ tail_move k.size o j tails → Filled s os (after_move (to_tail k o j) k) (ms ++ to_tail k o j ∷ []) (raised_at j o.size tails)
              → (ns : List Move) (r : Option (List Move)) → planned k.size s os (raised_at j o.size tails) ≡ r → then_moves (tail_move k.size o j tails) r ≡ Some ns → Known h s (after_moves ns k) (ms ++ ns) (raised k.size ns tails)
          last j goes moved rest ns None is e = absurd (cc e)
          last j goes moved rest ns (Some ns') is e =
              let m = to_tail k o j in
              let same : m ∷ ns' ≡ ns = ap (λ (x : Move). x ∷ ns') moved ∙ cc e in
              let z = rest.known ns' is in
              let y : Known h s (after_moves (m ∷ ns') k) (ms ++ m ∷ ns') (raised k.size ns' (raised_at j o.size tails)) = subst (λ (xs : List Move). Known h s (after_moves ns' (after_move m k)) xs (raised k.size ns' (raised_at j o.size tails))) (append_assoc ms (m ∷ []) ns') z in
              let x : Known h s (after_moves (m ∷ ns') k) (ms ++ m ∷ ns') (raised k.size (m ∷ ns') tails) = subst (λ (i : ℕ). Known h s (after_moves (m ∷ ns') k) (ms ++ m ∷ ns') (raised k.size ns' (raised_at i o.size tails))) (sym goes) y in
              subst (λ (xs : List Move). Known h s (after_moves xs k) (ms ++ xs) (raised k.size xs tails)) same x

      at : (r : Option ℕ) → find (has_room k.size o.size tails) (range_with_len 0 s) ≡ r → Filled s (o ∷ os) k ms tails
      at None is = record { same = by_heaps None is ∙ sym (by_tails None is); known = λ ns e. let z : None ≡ Some ns = sym (by_tails None is) ∙ e in absurd (cc z) }
      at (Some j) is = found j is

  pub filled : (s : ℕ) (os : List Object) (k : SubHeaps) (ms : List Move) (tails : List ℕ) → s < h.count → Known h s k ms tails → Apart os → Standing pinned k s os → Filled s os k ms tails
  filled s [] k ms tails low now apart st = record {
    same = refl;
    known = λ ns e. let same : [] ≡ ns = cc e in subst (λ (xs : List Move). Known h s (after_moves xs k) (ms ++ xs) (raised k.size xs tails)) same (subst (λ (xs : List Move). Known h s k xs tails) (sym (append-nil ms)) now);
  }
  filled s (o ∷ os) k ms tails low now apart st = one_filled s o os k ms tails low now apart st (λ j now' st'. filled s os (after_move (to_tail k o j) k) (ms ++ to_tail k o j ∷ []) (raised_at j o.size tails) low now' apart.1 st')

  -- ---- which sub-heaps are thin

  thin_same : (s : ℕ) (e : Evacuated) (tails : List ℕ) → Known h (suc s) e.heaps e.moves tails → is_thin pinned e s ≡ is_thin_at pinned h s (get_or tails s 0)
  thin_same s e tails now = at (cases_eq (get_or tails s 0) (extent_in h s))
    where
      body : List Object → ℕ → Bool → Bool
      body xs size last = (nat_lt 0 (length xs) && not (list_any (λ o. pinned o.at) xs)) && (nat_le (4 * sum_by (λ o. o.size) xs) size && last)

      at : (get_or tails s 0 ≡ extent_in h s) ⊎ (get_or tails s 0 ≢ extent_in h s) → is_thin pinned e s ≡ is_thin_at pinned h s (get_or tails s 0)
      at (inl is) =
          let objects = now.untouched s (omega arith) is in
          let none : list_any (was_moved e.moves) (objects_in e.heaps s) ≡ false = any-none (was_moved e.moves) (objects_in e.heaps s)
          (Each-weaker (λ o. o.at / e.heaps.size ≡ s) (λ o. was_moved e.moves o ≡ false)
          (λ o there. any-none (λ m. eqb m.to o.at) e.moves (Each-weaker (λ m. m.to / h.size ≢ s) (λ m. eqb m.to o.at ≡ false)
          (λ m other. ne_eqb m.to o.at (λ same. other (ap (λ (a : ℕ). a / h.size) same ∙ ap (λ (b : ℕ). o.at / b) (sym now.size) ∙ there))) e.moves (now.unmoved s (omega arith) is)))
          (objects_in e.heaps s) (number_of_each e.heaps now.sound s)) in
          let a : is_thin pinned e s ≡ body (objects_in e.heaps s) e.heaps.size true = ap (λ (b : Bool). body (objects_in e.heaps s) e.heaps.size (not b)) none in
          let b : body (objects_in e.heaps s) e.heaps.size true ≡ body (objects_in h s) h.size true = ap (λ (xs : List Object). body xs e.heaps.size true) objects ∙ ap (λ (n : ℕ). body (objects_in h s) n true) now.size in
          let c : body (objects_in h s) h.size true ≡ is_thin_at pinned h s (get_or tails s 0) = ap (body (objects_in h s) h.size) (sym (eq-eqb (extent_in h s) (get_or tails s 0) (sym is))) in
          a ∙ b ∙ c
      at (inr other) =
          let moved = now.touched s (omega arith) other in
          let a : is_thin pinned e s ≡ body (objects_in e.heaps s) e.heaps.size false = ap (λ (b : Bool). body (objects_in e.heaps s) e.heaps.size (not b)) moved in
          let c : body (objects_in h s) h.size false ≡ is_thin_at pinned h s (get_or tails s 0) = ap (body (objects_in h s) h.size) (sym (ne_eqb (extent_in h s) (get_or tails s 0) (λ same. other (sym same)))) in
          a ∙ and-false (nat_lt 0 (length (objects_in e.heaps s)) && not (list_any (λ o. pinned o.at) (objects_in e.heaps s))) (nat_le (4 * sum_by (λ o. o.size) (objects_in e.heaps s)) e.heaps.size)
          ∙ sym (and-false (nat_lt 0 (length (objects_in h s)) && not (list_any (λ o. pinned o.at) (objects_in h s))) (nat_le (4 * sum_by (λ o. o.size) (objects_in h s)) h.size)) ∙ c

  -- ---- one sub-heap

  module _ (sound : IsSound h) (s : ℕ) (e : Evacuated) (good : Good pinned h e) (tails : List ℕ) (low : s < h.count) (now : Known h (suc s) e.heaps e.moves tails) where
    pub record Stepped (r : Option (List Move)) : Type 0 where
      pub same : evacuates pinned s e ≡ with_moves r e
      pub known : (ns : List Move) → r ≡ Some ns → Known h s (after_moves ns e.heaps) (e.moves ++ ns) (raised h.size ns tails)
      pub few : (ns : List Move) → r ≡ Some ns → length ns ≡ length (objects_in h s)

    pub stepped : Stepped (planned_if_thin pinned h s tails)
    stepped = at (is_thin_at pinned h s (get_or tails s 0)) refl
      where
        at : (b : Bool) → is_thin_at pinned h s (get_or tails s 0) ≡ b → Stepped (cond b (planned h.size s (objects_in h s) tails) None)
        at false not_thin =
            let thin : is_thin pinned e s ≡ false = thin_same s e tails now ∙ not_thin in
            record {
              same = ap (λ (b : Bool). with_moves (cond b (emptying s (objects_in e.heaps s) e.heaps) None) e) thin;
              known = λ ns is. absurd (cc is);
              few = λ ns is. absurd (cc is);
            }
        at true is_thin' =
            let thin : is_thin pinned e s ≡ true = thin_same s e tails now ∙ is_thin' in
            let k = e.heaps in
            let f = filled s (objects_in k s) k e.moves tails low (known_below h (suc s) s k e.moves tails (omega arith) now) (thin_apart pinned h sound e good s) (thin_standing pinned h sound e good s thin) in
            let there : get_or tails s 0 ≡ extent_in h s = tail_is (extent_in h s) (get_or tails s 0) (and_right (nat_le (4 * sum_by (λ o. o.size) (objects_in h s)) h.size) _ (and_right (nat_lt 0 (length (objects_in h s)) && not (list_any (λ o. pinned o.at) (objects_in h s))) _ is_thin')) in
            let objects : objects_in k s ≡ objects_in h s = now.untouched s (omega arith) there in
            let plans : planned k.size s (objects_in k s) tails ≡ planned h.size s (objects_in h s) tails = ap (λ (n : ℕ). planned n s (objects_in k s) tails) now.size ∙ ap (λ (xs : List Object). planned h.size s xs tails) objects in
            record {
              same = ap (λ (b : Bool). with_moves (cond b (emptying s (objects_in k s) k) None) e) thin ∙ ap (λ (r : Option (List Move)). with_moves r e) (f.same ∙ plans);
              known = λ ns is. subst (λ (n : ℕ). Known h s (after_moves ns k) (e.moves ++ ns) (raised n ns tails)) now.size (f.known ns (plans ∙ is));
              few = λ ns is. planned_length h.size s (objects_in h s) tails ns is;
            }
          where
            tail_is : (a b : ℕ) → eqb a b ≡ true → b ≡ a
            tail_is a b is = grind (arith, nat_tests)

  -- ---- all of them

  abbrev pub state : List Move → ℕ → Evacuated
  state moves emptied = record { heaps = after_moves moves h; moves = moves; emptied = emptied }

  -- the sub-heaps from a number on were gone through
  pub record Evacuating (n : ℕ) (moves : List Move) (emptied : ℕ) (tails : List ℕ) : Type 0 where
    pub good : Good pinned h (state moves emptied)
    pub known : Known h n (after_moves moves h) moves tails
    pub still : evacuates_down pinned (n - 1) (state moves emptied) ≡ evacuation pinned h
    pub few : length moves + below h n ≤ length h.objects
    pub counted : emptied + n ≤ h.count

  pub evacuating_first : IsSound h → Evacuating h.count [] 0 (map {A = ℕ} {B = ℕ} (extent_in h) (range_with_len 0 h.count))
  evacuating_first sound = record {
    good = record { made = refl; legal = tt; count = refl; fewer = omega arith };
    known = known_first h sound;
    still = refl;
    few = let z = filter_few (λ o. nat_lt (o.at / h.size) h.count) h.objects in omega (arith, z);
    counted = omega arith;
  }

  module _ (sound : IsSound h) (s : ℕ) (moves : List Move) (emptied : ℕ) (tails : List ℕ) (now : Evacuating (suc (suc s)) moves emptied tails) (low : suc s < h.count) where
    step : Stepped sound (suc s) (state moves emptied) now.good tails low now.known (planned_if_thin pinned h (suc s) tails)
    step = stepped sound (suc s) (state moves emptied) now.good tails low now.known

    pub next_none : planned_if_thin pinned h (suc s) tails ≡ None → Evacuating (suc s) moves emptied tails
    next_none is =
        let same : evacuates pinned (suc s) (state moves emptied) ≡ state moves emptied = step.same ∙ ap (λ (r : Option (List Move)). with_moves r (state moves emptied)) is in
        record {
          good = now.good;
          known = known_below h (suc (suc s)) (suc s) (after_moves moves h) moves tails (omega arith) now.known;
          still = ap (λ (n : ℕ). evacuates_down pinned n (state moves emptied)) (one_less s) ∙ ap (evacuates_down pinned s) (sym same) ∙ ap (λ (n : ℕ). evacuates_down pinned n (state moves emptied)) (sym (one_less (suc s))) ∙ now.still;
          few = let z = below_more h (suc s) in let y = now.few in omega (arith, z, y);
          counted = let y = now.counted in omega (arith, y);
        }

    pub next_some : (ns : List Move) → planned_if_thin pinned h (suc s) tails ≡ Some ns → Evacuating (suc s) (moves ++ ns) (emptied + 1) (raised h.size ns tails)
    next_some ns is =
        let joined : after_moves ns (after_moves moves h) ≡ after_moves (moves ++ ns) h = sym (after-append moves ns h) in
        let same : evacuates pinned (suc s) (state moves emptied) ≡ state (moves ++ ns) (emptied + 1) =
        step.same ∙ ap (λ (r : Option (List Move)). with_moves r (state moves emptied)) is ∙ ap (λ (k : SubHeaps). record { heaps = k; moves = moves ++ ns; emptied = emptied + 1 }) joined in
        record {
          good = subst (Good pinned h) same (evacuates_good pinned h sound (state moves emptied) now.good (suc s) low);
          known = subst (λ (k : SubHeaps). Known h (suc s) k (moves ++ ns) (raised h.size ns tails)) joined (step.known ns is);
          still = ap (λ (n : ℕ). evacuates_down pinned n (state (moves ++ ns) (emptied + 1))) (one_less s) ∙ ap (evacuates_down pinned s) (sym same) ∙ ap (λ (n : ℕ). evacuates_down pinned n (state moves emptied)) (sym (one_less (suc s))) ∙ now.still;
          few = let z = below_more h (suc s) in let y = now.few in let x = step.few ns is in omega (arith, z, y, x, length-append moves ns);
          counted = let y = now.counted in omega (arith, y);
        }

  -- the answer of one step tells the next state
  pub next : IsSound h → (n : ℕ) (moves moves' : List Move) (emptied : ℕ) (tails tails' : List ℕ) (b : Bool) → 1 < n → Evacuating n moves emptied tails
      → MatchOption (planned_if_thin pinned h (n - 1) tails) ((b ≡ false) × (moves' ≡ moves) × (tails' ≡ tails)) (λ ms. (b ≡ true) × (moves' ≡ moves ++ ms) × (tails' ≡ raised h.size ms tails))
      → Evacuating (n - 1) moves' (cond b (emptied + 1) emptied) tails'
  next sound zero moves moves' emptied tails tails' b lt now told = absurd (omega (arith, lt))
  next sound (suc zero) moves moves' emptied tails tails' b lt now told = absurd (omega (arith, lt))
  next sound (suc (suc s)) moves moves' emptied tails tails' b lt now told =
      subst (λ (n : ℕ). Evacuating n moves' (cond b (emptied + 1) emptied) tails') (sym (one_less (suc s)))
      (at (planned_if_thin pinned h (suc s) tails) refl
      (subst (λ (n : ℕ). MatchOption (planned_if_thin pinned h n tails) ((b ≡ false) × (moves' ≡ moves) × (tails' ≡ tails)) (λ ms. (b ≡ true) × (moves' ≡ moves ++ ms) × (tails' ≡ raised h.size ms tails))) (one_less (suc s)) told))
    where
      low : suc s < h.count
      low = let z = now.counted in omega (arith, z)

      at : (r : Option (List Move)) → planned_if_thin pinned h (suc s) tails ≡ r → MatchOption r ((b ≡ false) × (moves' ≡ moves) × (tails' ≡ tails)) (λ ms. (b ≡ true) × (moves' ≡ moves ++ ms) × (tails' ≡ raised h.size ms tails))
          → Evacuating (suc s) moves' (cond b (emptied + 1) emptied) tails'
      at None is told = rw (told.0, told.1, told.2) (next_none sound s moves emptied tails now low is)
      at (Some ms) is told = rw (told.0, told.1, told.2) (next_some sound s moves emptied tails now low ms is)

  -- there is room for the moves of the next one
  pub has_room_left : (n : ℕ) (moves : List Move) (emptied : ℕ) (tails : List ℕ) → 1 ≤ n → Evacuating n moves emptied tails → length moves + length (objects_in h (n - 1)) ≤ length h.objects
  has_room_left zero moves emptied tails some now = absurd (omega (arith, some))
  has_room_left (suc n) moves emptied tails some now = let z = below_more h n in let y = now.few in let x = ap (λ (k : ℕ). length (objects_in h k)) (one_less n) in omega (arith, z, y, x)

  -- at the end
  pub record AtEnd (moves : List Move) (emptied : ℕ) : Type 0 where
    pub all : moves ≡ (evacuation pinned h).moves
    pub number : emptied ≡ (evacuation pinned h).emptied
    pub legal : AreLegal pinned h moves
    pub fewer : holding (after_moves moves h) + emptied ≡ holding h

  pub done : (moves : List Move) (emptied : ℕ) (tails : List ℕ) → Evacuating 1 moves emptied tails → AtEnd moves emptied
  done moves emptied tails now = record {
    all = ap (λ (e : Evacuated). e.moves) now.still;
    number = ap (λ (e : Evacuated). e.emptied) now.still;
    legal = now.good.legal;
    fewer = now.good.fewer;
  }
