-- Numbers are among those that are marked as their marks say.
use Rattle.std.proofs.Common.{◌≡◌, ℕ, zero, suc, ◌+◌, ◌-◌, ◌≤◌, ◌<◌, ◌||◌, Bool, true, false, List, [], ◌∷◌, ◌++◌, length, get_or, take, drop, set, replicate, refl, sym, ap, ◌∙◌, if◌then◌else◌, arith}
use Rattle.std.specs.Prelude.{nat_eq}
use Rattle.std.proofs.lemmas.Bool.{false≢true}
use Rattle.std.proofs.lemmas.Bool.Decides.{nat_tests}
use Rattle.std.proofs.lemmas.Grind.{get_or-set_at}
use Rattle.std.proofs.lemmas.List.{get_or-set_other, take_all, at_drop_more}
use Rattle.c_typing.specs.Numbering.{is_in}
use Rattle.type_locals.specs.inner.Marking.{marked_from}

differs : (m k : ℕ) → m < k → nat_eq m k ≡ false
differs m k h = grind (arith, nat_tests)

-- a number before those of the marks is none of them
none_marked : (m k : ℕ) (marks : List Bool) → m < k → is_in m (marked_from k marks) ≡ false
none_marked m k [] h = refl
none_marked m k (mark ∷ marks) h = by mark (none_marked m (1 + k) marks (omega arith))
  where
    by : (b : Bool) → is_in m (marked_from (1 + k) marks) ≡ false → is_in m (if b then k ∷ marked_from (1 + k) marks else marked_from (1 + k) marks) ≡ false
    by true later = ap (λ t. t || is_in m (marked_from (1 + k) marks)) (differs m k h) ∙ later
    by false later = later

marked_at : (k j m : ℕ) (marks : List Bool) → m ≡ k + j → is_in m (marked_from k marks) ≡ get_or marks j false
marked_at k j m [] e = refl
marked_at k zero m (mark ∷ marks) e = by mark
  where
    same : nat_eq m k ≡ true
    same = grind (arith, nat_tests)

    by : (b : Bool) → is_in m (if b then k ∷ marked_from (1 + k) marks else marked_from (1 + k) marks) ≡ b
    by true = ap (λ t. t || is_in m (marked_from (1 + k) marks)) same
    by false = none_marked m (1 + k) marks (omega arith)
marked_at k (suc j) m (mark ∷ marks) e = by mark (marked_at (1 + k) j m marks (omega arith))
  where
    other : nat_eq m k ≡ false
    other = grind (arith, nat_tests)

    by : (b : Bool) → is_in m (marked_from (1 + k) marks) ≡ get_or marks j false → is_in m (if b then k ∷ marked_from (1 + k) marks else marked_from (1 + k) marks) ≡ get_or marks j false
    by true later = ap (λ t. t || is_in m (marked_from (1 + k) marks)) other ∙ later
    by false later = later

-- a number is marked if its mark is set
pub is_marked : (k : ℕ) (marks : List Bool) → is_in k (marked_from 0 marks) ≡ get_or marks k false
is_marked k marks = marked_at 0 k k marks (omega arith)

marked_more : (n k : ℕ) (marks : List Bool) (b : Bool) → n < length marks → nat_eq k n ≡ b → get_or (set marks n true) k false ≡ (b || get_or marks k false)
marked_more n k marks true h e = let same : k ≡ n = grind (arith, nat_tests) in get_or-set_at marks n k true false same h
marked_more n k marks false h e = get_or-set_other marks n k true false (λ same. absurd (false≢true (sym e ∙ grind (arith, nat_tests))))

-- one more number is marked
pub set_marked : (n k : ℕ) (marks new : List Bool) → n < length marks → new ≡ set marks n true → is_in k (marked_from 0 new) ≡ (nat_eq k n || is_in k (marked_from 0 marks))
set_marked n k marks new h is =
    ap (λ l. is_in k (marked_from 0 l)) is ∙ is_marked k (set marks n true) ∙ marked_more n k marks (nat_eq k n) h refl ∙ ap (λ b. nat_eq k n || b) (sym (is_marked k marks))

beyond : (n k : ℕ) → get_or (replicate n false) k false ≡ false
beyond zero k = refl
beyond (suc n) zero = refl
beyond (suc n) (suc k) = beyond n k

-- numbers behind the marks are not marked
further : (marks : List Bool) (n k : ℕ) → get_or (marks ++ replicate n false) k false ≡ get_or marks k false
further [] n k = beyond n k
further (mark ∷ marks) n zero = refl
further (mark ∷ marks) n (suc k) = further marks n k

-- more room marks no number
pub same_marked : (len n k : ℕ) (marks new : List Bool) → length marks ≤ len → new ≡ take len marks ++ replicate n false → is_in k (marked_from 0 new) ≡ is_in k (marked_from 0 marks)
same_marked len n k marks new h is =
    is_marked k new ∙ ap (λ l. get_or l k false) is ∙ ap (λ l. get_or (l ++ replicate n false) k false) (take_all len marks h) ∙ further marks n k ∙ sym (is_marked k marks)

turned : (a b c : Bool) → ((a || b) || c) ≡ (b || (a || c))
turned true true c = refl
turned true false c = refl
turned false b c = refl

-- one more of the numbers is marked
pub in_more : (k i x : ℕ) (all : List ℕ) (b c : Bool) → i < length all → x ≡ get_or all i 0 → c ≡ (nat_eq k x || b)
    → (b || is_in k (drop i all)) ≡ is_in k all → (c || is_in k (drop (i + 1) all)) ≡ is_in k all
in_more k i x all b c h at is so_far =
    let here : is_in k (drop i all) ≡ (nat_eq k x || is_in k (drop (i + 1) all)) = at_drop_more (is_in k) all i 0 h ∙ ap (λ y. nat_eq k y || is_in k (drop (i + 1) all)) (sym at) in
    ap (λ t. t || is_in k (drop (i + 1) all)) is ∙ turned (nat_eq k x) b (is_in k (drop (i + 1) all)) ∙ ap (λ t. b || t) (sym here) ∙ so_far
