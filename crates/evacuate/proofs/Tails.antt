-- The tails tell which sub-heaps are thin and where objects go, so an evacuation by them is the evacuation.
use Rattle.std.proofs.Common.{◌≡◌, ℕ, ◌+◌, ◌-◌, ◌*◌, ◌/◌, ◌<◌, ◌≤◌, ◌≢◌, ◌⊎◌, inl, inr, ◌||◌, not, max, Bool, true, false, cond, eqb, ltb, nat_lt, List, [], ◌∷◌, ◌++◌, length, get_or, map, Option, Some, ap, sym, ◌∙◌, refl, arith}
use Rattle.std.specs.List.{AllByRecursion as Each, filter, fold, find, list_any, range_with_len}
use Rattle.std.proofs.lemmas.Bool.{cases_eq, eq-eqb, ne_eqb, eqb-true}
use Rattle.std.proofs.lemmas.Bool.Decides.{nat_tests}
use Rattle.std.proofs.lemmas.List.{get_or-set_same, get_or-set_other}
use Rattle.std.proofs.lemmas.List.FromFn.{get_or-map-range_with_len, length-map-range_with_len}
use Rattle.std.proofs.lemmas.List.Folds.{list_any-append}
use Rattle.sub_heaps.specs.declared.objects.Object.{Object}
use Rattle.sub_heaps.specs.declared.moves.Move.{Move}
use Rattle.sub_heaps.specs.ByPlace.{end_of, object_at, without, with_object, with_moved}
use Rattle.sub_heaps.specs.SubHeaps.{SubHeaps, IsRounded, IsSound, objects_in, extent_in, greatest_by}
use Rattle.sub_heaps.specs.Moving.{after_move}
use Rattle.sub_heaps.proofs.Standing.{Each-append, each_rounded}
use Rattle.move_plan.proofs.Numbered.{start_of_each, Each-filter}
use Rattle.evacuate.proofs.Filling.{length-raised_at}
use Rattle.evacuate.proofs.Legal.{fold_least}
use Rattle.evacuate.specs.Evacuation.{holds_object, to_tail, was_moved}
use Rattle.evacuate.specs.inner.Tails.{raised_at}

-- ---- lists

pub find-same : {X : Type 0} (p q : X → Bool) (xs : List X) → Each (λ x. p x ≡ q x) xs → find p xs ≡ find q xs
find-same p q [] same = refl
find-same p q (x ∷ xs) same = ap (λ (b : Bool). cond b (Some x) (find p xs)) same.0 ∙ ap (λ (r : Option _). cond (q x) (Some x) r) (find-same p q xs same.1)

any-left : {X : Type 0} (p : X → Bool) (xs ys : List X) → list_any p xs ≡ true → list_any p (xs ++ ys) ≡ true
any-left p xs ys h = list_any-append p xs ys ∙ ap (λ (b : Bool). b || list_any p ys) h

any-more : {X : Type 0} (p q : X → Bool) (xs : List X) → ((x : X) → p x ≡ true → q x ≡ true) → list_any p xs ≡ true → list_any q xs ≡ true
any-more p q [] f h = absurd (cc h)
any-more p q (x ∷ xs) f h = elim (p x) as (λ t. p x ≡ t → (t || list_any p xs) ≡ true → (q x || list_any q xs) ≡ true) [
  | true ↦ λ is h. ap (λ (b : Bool). b || list_any q xs) (f x is)
  | false ↦ λ is h. elim (q x) as (λ t. (t || list_any q xs) ≡ true) [ true ↦ refl | false ↦ any-more p q xs f h ]
] refl h

any-last : {X : Type 0} (p : X → Bool) (xs : List X) (y : X) → p y ≡ true → list_any p (xs ++ y ∷ []) ≡ true
any-last p [] y is = ap (λ (b : Bool). b || false) is
any-last p (x ∷ xs) y is = elim (p x) as (λ t. (t || list_any p (xs ++ y ∷ [])) ≡ true) [ true ↦ refl | false ↦ any-last p xs y is ]

pub any-none : {X : Type 0} (p : X → Bool) (xs : List X) → Each (λ x. p x ≡ false) xs → list_any p xs ≡ false
any-none p [] h = refl
any-none p (x ∷ xs) h = ap (λ (b : Bool). b || list_any p xs) h.0 ∙ any-none p xs h.1

-- ---- the objects of one sub-heap after a move

filter-skip : (f : Object → Bool) (new : Object) (xs : List Object) → f new ≡ false → filter f (with_object new xs) ≡ filter f xs
filter-skip f new [] fails = ap (λ (b : Bool). cond b (new ∷ []) []) fails
filter-skip f new (x ∷ xs) fails = elim (ltb new.at x.at) as (λ t. filter f (cond t (new ∷ x ∷ xs) (x ∷ with_object new xs)) ≡ filter f (x ∷ xs)) [
  | true ↦ ap (λ (b : Bool). cond b (new ∷ filter f (x ∷ xs)) (filter f (x ∷ xs))) fails
  | false ↦ ap (λ (ys : List Object). cond (f x) (x ∷ ys) ys) (filter-skip f new xs fails)
]

filter-without : (f : Object → Bool) (at : ℕ) (xs : List Object) → ((x : Object) → x.at ≡ at → f x ≡ false) → filter f (without at xs) ≡ filter f xs
filter-without f at [] fails = refl
filter-without f at (x ∷ xs) fails = elim (eqb x.at at) as (λ t. eqb x.at at ≡ t → filter f (cond (not t) (x ∷ without at xs) (without at xs)) ≡ filter f (x ∷ xs)) [
  | true ↦ λ is. filter-without f at xs fails ∙ ap (λ (b : Bool). cond b (x ∷ filter f xs) (filter f xs)) (sym (fails x (eqb-true x.at at is)))
  | false ↦ λ is. ap (λ (ys : List Object). cond (f x) (x ∷ ys) ys) (filter-without f at xs fails)
] refl

-- the greatest of one more
fold-out : (g : Object → ℕ) (xs : List Object) (best more : ℕ) → fold (λ best x. max best (g x)) (max best more) xs ≡ max more (fold (λ best x. max best (g x)) best xs)
fold-out g [] best more = omega arith
fold-out g (x ∷ xs) best more =
    let swap : max (max best more) (g x) ≡ max (max best (g x)) more = omega arith in
    ap (λ (b : ℕ). fold (λ best x. max best (g x)) b xs) swap ∙ fold-out g xs (max best (g x)) more

fold-with : (f : Object → Bool) (g : Object → ℕ) (new : Object) (xs : List Object) (best : ℕ) → f new ≡ true → fold (λ best x. max best (g x)) best (filter f (with_object new xs)) ≡ max (g new) (fold (λ best x. max best (g x)) best (filter f xs))
fold-with f g new [] best passes = ap (λ (b : Bool). fold (λ best x. max best (g x)) best (cond b (new ∷ []) [])) passes ∙ fold-out g [] best (g new)
fold-with f g new (x ∷ xs) best passes = elim (ltb new.at x.at) as (λ t. fold (λ best x. max best (g x)) best (filter f (cond t (new ∷ x ∷ xs) (x ∷ with_object new xs))) ≡ max (g new) (fold (λ best x. max best (g x)) best (filter f (x ∷ xs)))) [
  | true ↦ ap (λ (b : Bool). fold (λ best x. max best (g x)) best (cond b (new ∷ filter f (x ∷ xs)) (filter f (x ∷ xs)))) passes ∙ fold-out g (filter f (x ∷ xs)) best (g new)
  | false ↦ elim (f x) as (λ t. fold (λ best x. max best (g x)) best (cond t (x ∷ filter f (with_object new xs)) (filter f (with_object new xs))) ≡ max (g new) (fold (λ best x. max best (g x)) best (cond t (x ∷ filter f xs) (filter f xs)))) [
    | true ↦ fold-with f g new xs (max best (g x)) passes
    | false ↦ fold-with f g new xs best passes
  ]
]

any-with : (f q : Object → Bool) (new : Object) (xs : List Object) → f new ≡ true → q new ≡ true → list_any q (filter f (with_object new xs)) ≡ true
any-with f q new [] passes is = ap (λ (b : Bool). list_any q (cond b (new ∷ []) [])) passes ∙ ap (λ (b : Bool). b || false) is
any-with f q new (x ∷ xs) passes is = elim (ltb new.at x.at) as (λ t. list_any q (filter f (cond t (new ∷ x ∷ xs) (x ∷ with_object new xs))) ≡ true) [
  | true ↦ ap (λ (b : Bool). list_any q (cond b (new ∷ filter f (x ∷ xs)) (filter f (x ∷ xs)))) passes ∙ ap (λ (b : Bool). b || list_any q (filter f (x ∷ xs))) is
  | false ↦ elim (f x) as (λ t. list_any q (cond t (x ∷ filter f (with_object new xs)) (filter f (with_object new xs))) ≡ true) [
    | true ↦ elim (q x) as (λ t. (t || list_any q (filter f (with_object new xs))) ≡ true) [ true ↦ refl | false ↦ any-with f q new xs passes is ]
    | false ↦ any-with f q new xs passes is
  ]
]

-- ---- where a sub-heap holds an object, its tail starts above its start

fold_first : (g : Object → ℕ) (x : Object) (xs : List Object) → g x ≤ fold (λ best x. max best (g x)) 0 (x ∷ xs)
fold_first g x xs = let h = fold_least g xs (max 0 (g x)) in omega (arith, h)

pub holds-extent : (h : SubHeaps) → IsSound h → (j : ℕ) → holds_object h j ≡ nat_lt 0 (extent_in h j)
holds-extent h sound j = by (objects_in h j) (start_of_each h sound j) (Each-filter (λ o. IsRounded o.size) (λ o. eqb (o.at / h.size) j) h.objects (each_rounded h.count h.size 0 h.objects sound.stand))
  where
    by : (xs : List Object) → Each (λ o. j * h.size ≤ o.at) xs → Each (λ o. IsRounded o.size) xs → nat_lt 0 (length xs) ≡ nat_lt 0 (greatest_by (λ o. end_of o - j * h.size) xs)
    by [] starts takes = refl
    by (x ∷ xs) starts takes =
        let some : 0 < greatest_by (λ o. end_of o - j * h.size) (x ∷ xs) = let first = fold_first (λ o. end_of o - j * h.size) x xs in omega (arith, first, starts.0, takes.0) in
        let passes : nat_lt 0 (greatest_by (λ o. end_of o - j * h.size) (x ∷ xs)) ≡ true = grind (arith, nat_tests) in
        let long : nat_lt 0 (length (x ∷ xs)) ≡ true = grind (arith, nat_tests) in
        long ∙ sym passes

-- ---- what is known of sub-heaps and their tails, below a number, after moves

module _ (h : SubHeaps) where
  pub record Known (n : ℕ) (k : SubHeaps) (ms : List Move) (tails : List ℕ) : Type 0 where
    pub sound : IsSound k
    pub count : k.count ≡ h.count
    pub size : k.size ≡ h.size
    pub listed : length tails ≡ h.count
    pub tail : (j : ℕ) → j < n → get_or tails j 0 ≡ extent_in k j
    pub grown : (j : ℕ) → j < n → extent_in h j ≤ get_or tails j 0
    pub untouched : (j : ℕ) → j < n → get_or tails j 0 ≡ extent_in h j → objects_in k j ≡ objects_in h j
    pub unmoved : (j : ℕ) → j < n → get_or tails j 0 ≡ extent_in h j → Each (λ m. m.to / h.size ≢ j) ms
    pub touched : (j : ℕ) → j < n → get_or tails j 0 ≢ extent_in h j → list_any (was_moved ms) (objects_in k j) ≡ true

  pub known_first : IsSound h → Known h.count h [] (map {A = ℕ} {B = ℕ} (extent_in h) (range_with_len 0 h.count))
  known_first sound =
      let tails = map {A = ℕ} {B = ℕ} (extent_in h) (range_with_len 0 h.count) in
      let at : (j : ℕ) → j < h.count → get_or tails j 0 ≡ extent_in h j = λ j low. get_or-map-range_with_len (extent_in h) 0 h.count j j 0 low (omega arith) in
      record {
        sound = sound;
        count = refl;
        size = refl;
        listed = length-map-range_with_len (extent_in h) 0 h.count;
        tail = at;
        grown = λ j low. let z = at j low in omega (arith, z);
        untouched = λ j low is. refl;
        unmoved = λ j low is. tt;
        touched = λ j low other. absurd (other (at j low));
      }

  pub known_below : (n s : ℕ) (k : SubHeaps) (ms : List Move) (tails : List ℕ) → s ≤ n → Known n k ms tails → Known s k ms tails
  known_below n s k ms tails le now = record {
    sound = now.sound;
    count = now.count;
    size = now.size;
    listed = now.listed;
    tail = λ j low. now.tail j (omega (arith, low, le));
    grown = λ j low. now.grown j (omega (arith, low, le));
    untouched = λ j low is. now.untouched j (omega (arith, low, le)) is;
    unmoved = λ j low is. now.unmoved j (omega (arith, low, le)) is;
    touched = λ j low other. now.touched j (omega (arith, low, le)) other;
  }

  -- ---- one move

  module _ (s : ℕ) (k : SubHeaps) (ms : List Move) (tails : List ℕ) (now : Known s k ms tails) (low : s < h.count)
      (o : Object) (j : ℕ) (here : object_at o.at k.objects ≡ Some o) (takes : IsRounded o.size) (there : o.at / k.size ≡ s) (lower : j < s)
      (goes : (j * k.size + extent_in k j) / k.size ≡ j) (sound : IsSound (after_move (to_tail k o j) k)) where
    abbrev new : Object
    new = record o { at = j * k.size + extent_in k j }

    objects_are : (after_move (to_tail k o j) k).objects ≡ with_object new (without o.at k.objects)
    objects_are = ap (λ (r : Option Object). with_moved r (j * k.size + extent_in k j) (without o.at k.objects)) here

    left : (i : ℕ) → i < s → filter (λ x. eqb (x.at / k.size) i) (without o.at k.objects) ≡ objects_in k i
    left i lt = filter-without (λ x. eqb (x.at / k.size) i) o.at k.objects (λ x at. ne_eqb (x.at / k.size) i (λ is. let z : x.at / k.size ≡ o.at / k.size = ap (λ (a : ℕ). a / k.size) at in absurd (omega (arith, z, is, there, lt))))

    others : (i : ℕ) → i < s → i ≢ j → objects_in (after_move (to_tail k o j) k) i ≡ objects_in k i
    others i lt other =
        ap (filter (λ x. eqb (x.at / k.size) i)) objects_are
        ∙ filter-skip (λ x. eqb (x.at / k.size) i) new (without o.at k.objects) (ne_eqb ((j * k.size + extent_in k j) / k.size) i (λ is. other (sym is ∙ goes)))
        ∙ left i lt

    is_new : eqb ((j * k.size + extent_in k j) / k.size) j ≡ true
    is_new = eq-eqb ((j * k.size + extent_in k j) / k.size) j goes

    extent_there : extent_in (after_move (to_tail k o j) k) j ≡ extent_in k j + o.size
    extent_there =
        let g : Object → ℕ = λ x. end_of x - j * k.size in
        let a = ap (λ (xs : List Object). fold (λ best x. max best (g x)) 0 (filter (λ x. eqb (x.at / k.size) j) xs)) objects_are in
        let b = fold-with (λ x. eqb (x.at / k.size) j) g new (without o.at k.objects) 0 is_new in
        let c = ap (λ (xs : List Object). max (g new) (fold (λ best x. max best (g x)) 0 xs)) (left j lower) in
        let all : extent_in (after_move (to_tail k o j) k) j ≡ max (g new) (extent_in k j) = a ∙ b ∙ c in
        let reach : g new ≡ extent_in k j + o.size = omega arith in
        omega (arith, all, reach)

    extent_other : (i : ℕ) → i < s → i ≢ j → extent_in (after_move (to_tail k o j) k) i ≡ extent_in k i
    extent_other i lt other = ap (greatest_by (λ x. end_of x - i * k.size)) (others i lt other)

    tail_there : get_or (raised_at j o.size tails) j 0 ≡ extent_in k j + o.size
    tail_there = get_or-set_same tails j (get_or tails j 0 + o.size) 0 (let z = now.listed in omega (arith, z, lower, low)) ∙ ap (λ (t : ℕ). t + o.size) (now.tail j lower)

    tail_other : (i : ℕ) → i ≢ j → get_or (raised_at j o.size tails) i 0 ≡ get_or tails i 0
    tail_other i other = get_or-set_other tails j i (get_or tails j 0 + o.size) 0 other

    touched_there : list_any (was_moved (ms ++ to_tail k o j ∷ [])) (objects_in (after_move (to_tail k o j) k) j) ≡ true
    touched_there =
        let q = was_moved (ms ++ to_tail k o j ∷ []) in
        ap (λ (xs : List Object). list_any q (filter (λ x. eqb (x.at / k.size) j) xs)) objects_are
        ∙ any-with (λ x. eqb (x.at / k.size) j) q new (without o.at k.objects) is_new
        (any-last (λ m. eqb m.to (j * k.size + extent_in k j)) ms (to_tail k o j) (eq-eqb (j * k.size + extent_in k j) (j * k.size + extent_in k j) refl))

    touched_other : (i : ℕ) → i < s → i ≢ j → list_any (was_moved ms) (objects_in k i) ≡ true → list_any (was_moved (ms ++ to_tail k o j ∷ [])) (objects_in (after_move (to_tail k o j) k) i) ≡ true
    touched_other i lt other passes =
        ap (list_any (was_moved (ms ++ to_tail k o j ∷ []))) (others i lt other)
        ∙ any-more (was_moved ms) (was_moved (ms ++ to_tail k o j ∷ [])) (objects_in k i) (λ x is. any-left (λ m. eqb m.to x.at) ms (to_tail k o j ∷ []) is) passes

    -- its tail is above where it was
    raised_there : get_or (raised_at j o.size tails) j 0 ≢ extent_in h j
    raised_there is = let g = now.grown j lower in let t = now.tail j lower in absurd (omega (arith, is, tail_there, g, t, takes))

    pub known_move : Known s (after_move (to_tail k o j) k) (ms ++ to_tail k o j ∷ []) (raised_at j o.size tails)
    known_move = record {
      sound = sound;
      count = now.count;
      size = now.size;
      listed = length-raised_at j o.size tails ∙ now.listed;
      tail = λ i lt. at_tail i lt (cases_eq i j);
      grown = λ i lt. at_grown i lt (cases_eq i j);
      untouched = λ i lt is. at_untouched i lt is (cases_eq i j);
      unmoved = λ i lt is. at_unmoved i lt is (cases_eq i j);
      touched = λ i lt other. at_touched i lt other (cases_eq i j);
    }
      where
        at_tail : (i : ℕ) → i < s → (i ≡ j) ⊎ (i ≢ j) → get_or (raised_at j o.size tails) i 0 ≡ extent_in (after_move (to_tail k o j) k) i
        at_tail i lt (inl is) = ap (λ (n : ℕ). get_or (raised_at j o.size tails) n 0) is ∙ tail_there ∙ sym extent_there ∙ ap (extent_in (after_move (to_tail k o j) k)) (sym is)
        at_tail i lt (inr other) = tail_other i other ∙ now.tail i lt ∙ sym (extent_other i lt other)

        at_grown : (i : ℕ) → i < s → (i ≡ j) ⊎ (i ≢ j) → extent_in h i ≤ get_or (raised_at j o.size tails) i 0
        at_grown i lt (inl is) =
            let g = now.grown j lower in let t = now.tail j lower in
            let a : extent_in h i ≡ extent_in h j = ap (extent_in h) is in
            let b : get_or (raised_at j o.size tails) i 0 ≡ get_or (raised_at j o.size tails) j 0 = ap (λ (n : ℕ). get_or (raised_at j o.size tails) n 0) is in omega (arith, a, b, tail_there, g, t)
        at_grown i lt (inr other) = let g = now.grown i lt in let t = tail_other i other in omega (arith, g, t)

        none_there : (i : ℕ) → i ≡ j → get_or (raised_at j o.size tails) i 0 ≢ extent_in h i
        none_there i is same = raised_there (ap (λ (n : ℕ). get_or (raised_at j o.size tails) n 0) (sym is) ∙ same ∙ ap (extent_in h) is)

        at_untouched : (i : ℕ) → i < s → get_or (raised_at j o.size tails) i 0 ≡ extent_in h i → (i ≡ j) ⊎ (i ≢ j) → objects_in (after_move (to_tail k o j) k) i ≡ objects_in h i
        at_untouched i lt same (inl is) = absurd (none_there i is same)
        at_untouched i lt same (inr other) = others i lt other ∙ now.untouched i lt (sym (tail_other i other) ∙ same)

        at_unmoved : (i : ℕ) → i < s → get_or (raised_at j o.size tails) i 0 ≡ extent_in h i → (i ≡ j) ⊎ (i ≢ j) → Each (λ m. m.to / h.size ≢ i) (ms ++ to_tail k o j ∷ [])
        at_unmoved i lt same (inl is) = absurd (none_there i is same)
        at_unmoved i lt same (inr other) =
            Each-append (λ m. m.to / h.size ≢ i) ms (to_tail k o j ∷ []) (now.unmoved i lt (sym (tail_other i other) ∙ same))
            ((λ is. other (sym is ∙ ap (λ (b : ℕ). (j * k.size + extent_in k j) / b) (sym now.size) ∙ goes)), tt)

        at_touched : (i : ℕ) → i < s → get_or (raised_at j o.size tails) i 0 ≢ extent_in h i → (i ≡ j) ⊎ (i ≢ j) → list_any (was_moved (ms ++ to_tail k o j ∷ [])) (objects_in (after_move (to_tail k o j) k) i) ≡ true
        at_touched i lt differs (inl is) = ap (λ (n : ℕ). list_any (was_moved (ms ++ to_tail k o j ∷ [])) (objects_in (after_move (to_tail k o j) k) n)) is ∙ touched_there
        at_touched i lt differs (inr other) = touched_other i lt other (now.touched i lt (λ same. differs (tail_other i other ∙ same)))
