-- Two pointers into named blocks, and their words: tested, compared and subtracted.
use Rattle.std.proofs.Common.{◌≡◌, ℕ, zero, suc, ◌+◌, ◌-◌, ◌*◌, ◌/◌, ◌%◌, ◌^◌, ◌<◌, ◌≤◌, ℤ, pos, negsuc, ◌-ℤ◌, ◌≤ℤ◌, Bool, true, false, not, ◌&&◌, ◌==◌, List, Some, Result, Ok, Err, refl, sym, ap, ◌∙◌, arith, inl, inr}
use Rattle.std.specs.Prelude.{neg_ℤ, if◌then◌else◌, int_lt, int_le, int_div}
use Rattle.std.specs.Bool.{one_answer}
use Rattle.std.specs.Ordering.{int_eq}
use Rattle.std.proofs.Math.Nat.{zero-div, div-add-mod'}
use Rattle.std.proofs.lemmas.Int.{ints}
use Rattle.std.proofs.lemmas.Nat.{div-mul-add}
use Rattle.std.proofs.lemmas.Bool.{cases_eq, eq-eqb, ne_eqb, eqb-true}
use Rattle.std.proofs.lemmas.Bool.Decides.{Decides-eqb, Decides-int_eq, nat_tests}
use Rattle.ak_words.specs.declared.number.Num.{Num}
use Rattle.ak_words.specs.declared.operation.Op.{Op}
use Rattle.ak_words.specs.declared.operation.Op.TheVariants as ops
use Rattle.ak_words.specs.declared.rule.Rule.{Rule}
use Rattle.ak_words.specs.declared.rule.Rule.TheVariants.{C1, C2, C8, C9}
use Rattle.ak_words.specs.IntType.{int, long, unsigned_long}
use Rattle.ak_words.specs.Num.{num}
use Rattle.ak_words.specs.Op.{truth, exact_result, rule_of, rule_if, outcome, overflows, replacement, wrapped_result}
use Rattle.ak_words.specs.Wrapped.{wrapped_value}
use Rattle.ak_words.proofs.Wraps.{wrapped_value-in_type}
use Rattle.std.specs.Result.{result_unwrap_or}
use Rattle.block_store.specs.declared.values.Ptr.{Ptr}
use Rattle.block_store.specs.declared.values.Ptr.TheVariants.{Null, To}
use Rattle.block_store.specs.Blocks.{Blocks}
use Rattle.block_store.specs.Pointers.{is_usable, tested, is_same, distance, by_distance, is_below_0, related, compared, in_elements, difference}
use Rattle.flat_words.specs.Words.{number_word, number_in}
use Rattle.flat_meaning.specs.Names.{Name, name_of}
use Rattle.flat_simulation.specs.inner.Values.{Sees, PointerStands}
use Rattle.flat_simulation.proofs.Pointers.{start_word, if_ok, IsThere, used, told_apart}

-- ---- by cases

-- a test that is an equation of naturals
decided : (a c : ℕ) (b : Bool) → (b ≡ true → a ≡ c) → (a ≡ c → b ≡ true) → (a == c) ≡ b
decided a c true f g = eq-eqb a c (f refl)
decided a c false f g = ne_eqb a c (λ e. (let h : false ≡ true = g e in absurd cc))

usable_both : {A : Type 0} (a b : Bool) (r : Result A Rule) (x : A) → (if a && b then r else Err C9) ≡ Ok x → (a ≡ true) × (b ≡ true) × (r ≡ Ok x)
usable_both true true r x e = (refl, refl, e)
usable_both true false r x e = absurd cc
usable_both false b r x e = absurd cc

both_true : (a b : Bool) → (a && b) ≡ true → (a ≡ true) × (b ≡ true)
both_true true b e = (refl, e)
both_true false b e = absurd cc

-- the number of a word as unsigned long
unsigned_value : (w : ℕ) → w < 2 ^ 64 → wrapped_value unsigned_long (pos w) ≡ pos w
unsigned_value w small = wrapped_value-in_type unsigned_long (pos w) (omega (arith, ints), omega (arith, ints, small))

-- equal numbers, naturals as they are
same_naturals : (a c : ℕ) → int_eq (pos a) (pos c) ≡ (a == c)
same_naturals a c =
    let here = Decides-int_eq (pos a) (pos c) in
    one_answer _ _ (λ t. (let e = here.0 t in cc), λ e. here.1 (ap pos e)) (Decides-eqb a c)

-- the signs of a difference
below_by : (a c : ℕ) (z : ℤ) → pos a -ℤ pos c ≡ z → int_lt (pos a) (pos c) ≡ is_below_0 z
below_by a c (pos n) e = let h : c ≤ a = omega (arith, ints) in grind (arith, nat_tests)
below_by a c (negsuc n) e = let h : a < c = omega (arith, ints) in grind (arith, nat_tests)

reaches_by : (a c : ℕ) (z : ℤ) → pos a -ℤ pos c ≡ z → int_le (pos c) (pos a) ≡ not (is_below_0 z)
reaches_by a c (pos n) e = let h : c ≤ a = omega (arith, ints) in grind (arith, nat_tests)
reaches_by a c (negsuc n) e = let h : a < c = omega (arith, ints) in grind (arith, nat_tests)

-- a test of a distance that there is
distance_there : (test : ℤ → Bool) (r : Result ℤ Rule) (b : Bool) → by_distance test r ≡ Ok b → (z : ℤ) × (r ≡ Ok z) × (test z ≡ b)
distance_there test (Ok z) b e = (z, refl, cc)
distance_there test (Err rule) b e = absurd cc

-- ---- quotients

-- the quotient of two numbers, with or without a broken rule
by_tests : (zero_divisor over : Bool) (n d : Num) → result_unwrap_or (outcome (if zero_divisor then Some C2 else rule_if C1 over) n) (if zero_divisor then d else n) ≡ (if zero_divisor then d else n)
by_tests true over n d = refl
by_tests false true n d = refl
by_tests false false n d = refl

if_num : (b : Bool) (x y : ℤ) → num long (if b then x else y) ≡ (if b then num long x else num long y)
if_num true x y = refl
if_num false x y = refl

abbrev quotient : ℤ → ℤ → ℤ
quotient x y = if int_eq y (pos 0) then pos 0 else int_div x y

wrapped_quotient : (x y : ℤ) → wrapped_result ops.Div (num long x) (num long y) ≡ num long (quotient (wrapped_value long x) (wrapped_value long y))
unfolding exact_result rule_of replacement
wrapped_quotient x y =
    let a = wrapped_value long x in
    let b = wrapped_value long y in
    rw (if_num (int_eq b (pos 0)) (pos 0) (int_div a b)) (by_tests (int_eq b (pos 0)) (overflows long (int_div a b)) (num long (int_div a b)) (num long (pos 0)))

long_value : (z : ℤ) → neg_ℤ (pos (2 ^ 34)) ≤ℤ z → z ≤ℤ pos (2 ^ 34) → wrapped_value long z ≡ z
long_value z low high = wrapped_value-in_type long z (omega (arith, ints), omega (arith, ints))

nothing_if : (b : Bool) (x : ℤ) → x ≡ pos 0 → (if b then pos 0 else x) ≡ pos 0
nothing_if true x e = refl
nothing_if false x e = e

zero_over : (y : ℤ) → quotient (pos 0) y ≡ pos 0
zero_over (pos b) = nothing_if (int_eq (pos b) (pos 0)) _ (ap pos (zero-div b))
zero_over (negsuc b) = nothing_if (int_eq (negsuc b) (pos 0)) _ (ap (λ n. neg_ℤ (pos n)) (zero-div (suc b)))

-- by a size that isn't 0
some_over : (x : ℤ) (size : ℕ) → 0 < size → quotient x (pos size) ≡ int_div x (pos size)
some_over x size some = let fails : int_eq (pos size) (pos 0) ≡ false = same_naturals size 0 ∙ ne_eqb size 0 (λ e. omega (arith, e)) in rw fails refl

-- where a whole number of elements lies below a place, one of them is the last
fewer_by_one : (n size : ℕ) → 0 < size → suc n % size ≡ 0 → (size ≤ suc n) × (suc n / size ≡ suc (n / size))
fewer_by_one n size some none = counted (suc n / size) (sym (omega (arith, none, div-add-mod' (suc n) size)))
  where
    counted : (k : ℕ) → suc n ≡ k * size → (size ≤ suc n) × (k ≡ suc (n / size))
    counted zero whole = absurd (omega (arith, whole))
    counted (suc k) whole =
        let below : size - 1 < size = omega (arith, some) in
        let is : n ≡ k * size + (size - 1) = omega (arith, whole, some) in
        (omega (arith, whole), ap suc (sym (ap (λ m. m / size) is ∙ div-mul-add k size (size - 1) below)))

-- a distance in elements of some size is the quotient of the words' distance
sized_quotient : (d z : ℤ) (size : ℕ) → 0 < size → neg_ℤ (pos (2 ^ 34)) ≤ℤ d → d ≤ℤ pos (2 ^ 34) → in_elements size (Ok d) ≡ Ok z → quotient (wrapped_value long d) (wrapped_value long (pos size)) ≡ z
sized_quotient (pos zero) z size some low high e =
    let fits = if_ok (0 % size == 0) (pos (0 / size)) z C8 e in
    ap (λ x. quotient x (wrapped_value long (pos size))) (long_value (pos 0) low high) ∙ zero_over (wrapped_value long (pos size)) ∙ sym (ap pos (zero-div size)) ∙ fits.1
sized_quotient (pos (suc n)) z size some low high e =
    let fits = if_ok (suc n % size == 0) (pos (suc n / size)) z C8 e in
    let none : suc n % size ≡ 0 = eqb-true (suc n % size) 0 fits.0 in
    let few : size ≤ suc n = (fewer_by_one n size some none).0 in
    let of : wrapped_value long (pos (suc n)) ≡ pos (suc n) = long_value (pos (suc n)) low high in
    let by : wrapped_value long (pos size) ≡ pos size = long_value (pos size) (omega (arith, ints)) (omega (arith, ints, high, few)) in
    (λ i. quotient (of i) (by i)) ∙ some_over (pos (suc n)) size some ∙ fits.1
sized_quotient (negsuc n) z size some low high e =
    let fits = if_ok (suc n % size == 0) (negsuc (n / size)) z C8 e in
    let none : suc n % size ≡ 0 = eqb-true (suc n % size) 0 fits.0 in
    let counts = fewer_by_one n size some none in
    let few : size ≤ suc n = counts.0 in
    let of : wrapped_value long (negsuc n) ≡ negsuc n = long_value (negsuc n) low high in
    let by : wrapped_value long (pos size) ≡ pos size = long_value (pos size) (omega (arith, ints)) (omega (arith, ints, low, few)) in
    (λ i. quotient (of i) (by i)) ∙ some_over (negsuc n) size some ∙ ap (λ k. neg_ℤ (pos k)) counts.1 ∙ fits.1

-- of elements of size 0 only no distance is a multiple
no_multiple : (n : ℕ) → (suc n % 0 == 0) ≡ true → ⊥
no_multiple n e = let none : suc n % 0 ≡ 0 = eqb-true (suc n % 0) 0 e in omega (arith, none, div-add-mod' (suc n) 0)

-- a distance in elements is the quotient of the words' distance
quotient_is : (d z : ℤ) (size : ℕ) → neg_ℤ (pos (2 ^ 34)) ≤ℤ d → d ≤ℤ pos (2 ^ 34) → in_elements size (Ok d) ≡ Ok z → quotient (wrapped_value long d) (wrapped_value long (pos size)) ≡ z
quotient_is d z (suc size) low high e = sized_quotient d z (suc size) (omega arith) low high e
quotient_is (pos zero) z zero low high e =
    let fits = if_ok (0 % 0 == 0) (pos (0 / 0)) z C8 e in
    ap (λ x. quotient x (wrapped_value long (pos 0))) (long_value (pos 0) low high) ∙ zero_over (wrapped_value long (pos 0)) ∙ sym (ap pos (zero-div 0)) ∙ fits.1
quotient_is (pos (suc n)) z zero low high e = absurd (no_multiple n (if_ok (suc n % 0 == 0) (pos (suc n / 0)) z C8 e).0)
quotient_is (negsuc n) z zero low high e = absurd (no_multiple n (if_ok (suc n % 0 == 0) (negsuc (n / 0)) z C8 e).0)

module _ (names : List Name) (K : ℕ → Type 0) (blocks : Blocks) (sees : Sees names K blocks) where
  abbrev There : (block offset word : ℕ) → Type 0
  There block offset word = IsThere names K blocks sees block offset word

  abbrev PStands : Ptr → ℕ → Type 0
  PStands p word = PointerStands names K blocks p word

  there : (block offset word : ℕ) → PStands (To block offset) word → is_usable blocks (To block offset) ≡ true → There block offset word
  there block offset word stands e = used names K blocks sees block offset word stands e

  -- ---- one pointer

  -- it is null just where its word is 0
  pub tested_stands : (p : Ptr) (word : ℕ) (b : Bool) → PStands p word → tested blocks p ≡ Ok b → not (word == 0) ≡ b
  tested_stands Null word b stands e = let is : false ≡ b = cc in ap not (eq-eqb word 0 stands) ∙ is
  tested_stands (To block offset) word b stands e =
      let fits = if_ok (is_usable blocks (To block offset)) true b C9 e in
      let p = there block offset word stands fits.0 in
      ap not (ne_eqb word 0 (λ same. omega (arith, p.some, same))) ∙ fits.1

  -- ---- two pointers

  small_word : (p : Ptr) (word : ℕ) → PStands p word → is_usable blocks p ≡ true → word < 2 ^ 64
  small_word Null word stands e = omega (arith, stands)
  small_word (To block offset) word stands e = (there block offset word stands e).small

  -- the same pointer, the same word
  same_words : (p q : Ptr) (a c : ℕ) → PStands p a → PStands q c → is_usable blocks p ≡ true → is_usable blocks q ≡ true → (a == c) ≡ is_same p q
  same_words Null Null a c s t u v = eq-eqb a c (s ∙ sym t)
  same_words Null (To block offset) a c s t u v = let q = there block offset c t v in ne_eqb a c (λ e. omega (arith, s, e, q.some))
  same_words (To block offset) Null a c s t u v = let p = there block offset a s u in ne_eqb a c (λ e. omega (arith, t, e, p.some))
  same_words (To block offset) (To other further) a c s t u v =
      let p = there block offset a s u in
      let q = there other further c t v in
      decided a c ((block == other) && (offset == further))
      (λ h. (let both = both_true (block == other) (offset == further) h in
      let one : block ≡ other = eqb-true block other both.0 in
      let two : offset ≡ further = eqb-true offset further both.1 in
      p.is ∙ (λ i. start_word (name_of names (one i)) + two i) ∙ sym q.is))
      (λ e. elim (cases_eq block other) [
        | inl one ↦
            let start : start_word (name_of names block) ≡ start_word (name_of names other) = ap (λ n. start_word (name_of names n)) one in
            let two : offset ≡ further = omega (arith, p.is, q.is, start, e) in
            rw (eq-eqb block other one, eq-eqb offset further two) refl
        | inr ne ↦ absurd (told_apart names K blocks sees block other offset further a c ne p q e)
      ])

  -- the distance is that of the words
  distance_words : (p q : Ptr) (a c : ℕ) (z : ℤ) → PStands p a → PStands q c → is_usable blocks p ≡ true → is_usable blocks q ≡ true → distance p q ≡ Ok z → pos a -ℤ pos c ≡ z
  distance_words Null Null a c z s t u v e = let is : pos 0 ≡ z = cc in omega (arith, ints, s, t, is)
  distance_words Null (To block offset) a c z s t u v e = absurd cc
  distance_words (To block offset) Null a c z s t u v e = absurd cc
  distance_words (To block offset) (To other further) a c z s t u v e =
      let p = there block offset a s u in
      let q = there other further c t v in
      let fits = if_ok (block == other) (pos offset -ℤ pos further) z C8 e in
      let start : start_word (name_of names block) ≡ start_word (name_of names other) = ap (λ n. start_word (name_of names n)) (eqb-true block other fits.0) in
      omega (arith, ints, p.is, q.is, start, fits.1)

  -- ---- comparisons

  -- the operation on the words, where both may be used
  module _ (p q : Ptr) (a c : ℕ) (s : PStands p a) (t : PStands q c) (u : is_usable blocks p ≡ true) (v : is_usable blocks q ≡ true) where
    one : wrapped_value unsigned_long (pos a) ≡ pos a
    one = unsigned_value a (small_word p a s u)

    two : wrapped_value unsigned_long (pos c) ≡ pos c
    two = unsigned_value c (small_word q c t v)

    -- by what the test says of the words
    abbrev Answers : Op → Bool → Type 0
    Answers op b = number_word (wrapped_result op (number_in unsigned_long a) (number_in unsigned_long c)) ≡ number_word (num int (truth b))

    same_answers : (b : Bool) → is_same p q ≡ b → Answers ops.Eq b
    unfolding rule_of exact_result
    same_answers b e = ap (λ x. number_word (num int (truth x))) ((λ i. int_eq (one i) (two i)) ∙ same_naturals a c ∙ same_words p q a c s t u v ∙ e)

    differ_answers : (b : Bool) → not (is_same p q) ≡ b → Answers ops.Ne b
    unfolding rule_of exact_result
    differ_answers b e = ap (λ x. number_word (num int (truth x))) (ap not ((λ i. int_eq (one i) (two i)) ∙ same_naturals a c ∙ same_words p q a c s t u v) ∙ e)

    below_answers : (b : Bool) → by_distance is_below_0 (distance p q) ≡ Ok b → Answers ops.Lt b
    unfolding rule_of exact_result
    below_answers b e =
        let d = distance_there is_below_0 (distance p q) b e in
        ap (λ x. number_word (num int (truth x))) ((λ i. int_lt (one i) (two i)) ∙ below_by a c d.0 (distance_words p q a c d.0 s t u v d.1) ∙ d.2)

    reaches_answers : (b : Bool) → by_distance (λ z. not (is_below_0 z)) (distance p q) ≡ Ok b → Answers ops.Ge b
    unfolding rule_of exact_result
    reaches_answers b e =
        let d = distance_there (λ z. not (is_below_0 z)) (distance p q) b e in
        ap (λ x. number_word (num int (truth x))) ((λ i. int_le (two i) (one i)) ∙ reaches_by a c d.0 (distance_words p q a c d.0 s t u v d.1) ∙ d.2)

    above_answers : (b : Bool) → by_distance is_below_0 (distance q p) ≡ Ok b → Answers ops.Gt b
    unfolding rule_of exact_result
    above_answers b e =
        let d = distance_there is_below_0 (distance q p) b e in
        ap (λ x. number_word (num int (truth x))) ((λ i. int_lt (two i) (one i)) ∙ below_by c a d.0 (distance_words q p c a d.0 t s v u d.1) ∙ d.2)

    at_most_answers : (b : Bool) → by_distance (λ z. not (is_below_0 z)) (distance q p) ≡ Ok b → Answers ops.Le b
    unfolding rule_of exact_result
    at_most_answers b e =
        let d = distance_there (λ z. not (is_below_0 z)) (distance q p) b e in
        ap (λ x. number_word (num int (truth x))) ((λ i. int_le (one i) (two i)) ∙ reaches_by c a d.0 (distance_words q p c a d.0 t s v u d.1) ∙ d.2)

    related_answers : (op : Op) (b : Bool) → related op p q ≡ Ok b → Answers op b
    related_answers ops.Eq b e = same_answers b cc
    related_answers ops.Ne b e = differ_answers b cc
    related_answers ops.Lt b e = below_answers b e
    related_answers ops.Le b e = at_most_answers b e
    related_answers ops.Gt b e = above_answers b e
    related_answers ops.Ge b e = reaches_answers b e
    related_answers op b e = absurd cc

  -- a comparison of two pointers, and of their words
  pub compared_stands : (op : Op) (p q : Ptr) (a c : ℕ) (b : Bool) → PStands p a → PStands q c → compared blocks op p q ≡ Ok b
      → number_word (wrapped_result op (number_in unsigned_long a) (number_in unsigned_long c)) ≡ number_word (num int (truth b))
  compared_stands op p q a c b s t e =
      let used = usable_both (is_usable blocks p) (is_usable blocks q) (related op p q) b e in
      related_answers p q a c s t used.0 used.1 op b used.2

  -- ---- differences

  -- the words of two that may be used in one operation lie near one another, where their distance counts
  near : (p q : Ptr) (a c : ℕ) (z : ℤ) → PStands p a → PStands q c → is_usable blocks p ≡ true → is_usable blocks q ≡ true → distance p q ≡ Ok z → (neg_ℤ (pos (2 ^ 34)) ≤ℤ z) × (z ≤ℤ pos (2 ^ 34))
  near Null Null a c z s t u v e = let is : pos 0 ≡ z = cc in (omega (arith, ints, is), omega (arith, ints, is))
  near Null (To block offset) a c z s t u v e = absurd cc
  near (To block offset) Null a c z s t u v e = absurd cc
  near (To block offset) (To other further) a c z s t u v e =
      let p = there block offset a s u in
      let q = there other further c t v in
      let fits = if_ok (block == other) (pos offset -ℤ pos further) z C8 e in
      (omega (arith, ints, p.within, p.size, q.within, q.size, fits.1), omega (arith, ints, p.within, p.size, q.within, q.size, fits.1))

  distance_in : (size : ℕ) (r : Result ℤ Rule) (z : ℤ) → in_elements size r ≡ Ok z → (d : ℤ) × (r ≡ Ok d) × (in_elements size (Ok d) ≡ Ok z)
  distance_in size (Ok d) z e = (d, refl, e)
  distance_in size (Err rule) z e = absurd cc

  -- the elements between two pointers, and between their words
  pub difference_stands : (p q : Ptr) (a c size : ℕ) (z : ℤ) → PStands p a → PStands q c → difference blocks p q size ≡ Ok z
      → number_word (wrapped_result ops.Div (num long (pos a -ℤ pos c)) (num long (pos size))) ≡ number_word (num long z)
  difference_stands p q a c size z s t e =
      let used = usable_both (is_usable blocks p) (is_usable blocks q) (in_elements size (distance p q)) z e in
      let d = distance_in size (distance p q) z used.2 in
      let bounds = near p q a c d.0 s t used.0 used.1 d.1 in
      ap (λ x. number_word (wrapped_result ops.Div (num long x) (num long (pos size)))) (distance_words p q a c d.0 s t used.0 used.1 d.1)
      ∙ ap number_word (wrapped_quotient d.0 (pos size))
      ∙ ap (λ x. number_word (num long x)) (quotient_is d.0 z size bounds.0 bounds.1 d.2)
