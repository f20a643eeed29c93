-- Elements of lists that grow or change in one place.
use Rattle.std.proofs.Common.{◌≡◌, ◌≢◌, ℕ, zero, suc, ◌+◌, ◌<◌, ◌≤◌, ◌⊎◌, inl, inr, Bool, true, false, ◌||◌, refl, ap, ◌∙◌, arith, List, [], ◌∷◌, ◌++◌, length, Some, slice_get, set, nat_lt, filter, sum_by, cond}
use Rattle.std.specs.List.{list_any}
use Rattle.std.proofs.lemmas.List.Sums.{sum_by-append}
use Rattle.std.proofs.lemmas.List.Folds.{list_any-append}
use Rattle.c_tree.specs.Typed.{Ty, Layout}
use Rattle.c_tree.specs.TypedLayout.{size_in, IsSized}
use Rattle.c_typing.proofs.Extending.{Extends, size_kept, undeclared}
use Rattle.c_typing.proofs.Carried.{declared_in, bytes_taken}
use Rattle.c_tree.specs.TypedForm.{taken}

pub nothing_at : {X : Type 0} (n : ℕ) (x : X) → slice_get {X = X} [] n ≡ Some x → ⊥
nothing_at n x h = cc

pub get_before : {X : Type 0} (xs ys : List X) (n : ℕ) (x : X) → slice_get xs n ≡ Some x → slice_get (xs ++ ys) n ≡ Some x
get_before [] ys n x h = absurd cc
get_before (y ∷ xs) ys zero x h = h
get_before (y ∷ xs) ys (suc n) x h = get_before xs ys n x h

pub get_last : {X : Type 0} (xs : List X) (x : X) → slice_get (xs ++ x ∷ []) (length xs) ≡ Some x
get_last [] x = refl
get_last (y ∷ xs) x = get_last xs x

-- an element of a list with one more
pub get_either : {X : Type 0} (xs : List X) (y : X) (n : ℕ) (x : X) → slice_get (xs ++ y ∷ []) n ≡ Some x → (slice_get xs n ≡ Some x) ⊎ (y ≡ x)
get_either [] y zero x h = inr cc
get_either [] y (suc n) x h = absurd cc
get_either (z ∷ xs) y zero x h = inl h
get_either (z ∷ xs) y (suc n) x h = get_either xs y n x h

pub set_same : {X : Type 0} (xs : List X) (i : ℕ) (y : X) → i < length xs → slice_get (set xs i y) i ≡ Some y
set_same [] i y h = absurd (omega arith)
set_same (x ∷ xs) zero y h = refl
set_same (x ∷ xs) (suc i) y h = set_same xs i y (omega arith)

pub set_other : {X : Type 0} (xs : List X) (i n : ℕ) (y : X) → n ≢ i → slice_get (set xs i y) n ≡ slice_get xs n
set_other [] i n y h = refl
set_other (x ∷ xs) zero zero y h = absurd (h refl)
set_other (x ∷ xs) zero (suc n) y h = refl
set_other (x ∷ xs) (suc i) zero y h = refl
set_other (x ∷ xs) (suc i) (suc n) y h = set_other xs i n y (λ e. h (ap suc e))

pub set_either : {X : Type 0} (xs : List X) (i n : ℕ) (y x : X) → slice_get (set xs i y) n ≡ Some x → ((n ≡ i) × (y ≡ x)) ⊎ ((n ≢ i) × (slice_get xs n ≡ Some x))
set_either [] i n y x h = absurd cc
set_either (z ∷ xs) zero zero y x h = inl (refl, cc)
set_either (z ∷ xs) zero (suc n) y x h = inr (λ e. absurd (omega arith), h)
set_either (z ∷ xs) (suc i) zero y x h = inr (λ e. absurd (omega arith), h)
set_either (z ∷ xs) (suc i) (suc n) y x h = by (set_either xs i n y x h)
  where
    by : ((n ≡ i) × (y ≡ x)) ⊎ ((n ≢ i) × (slice_get xs n ≡ Some x)) → ((suc n ≡ suc i) × (y ≡ x)) ⊎ ((suc n ≢ suc i) × (slice_get xs n ≡ Some x))
    by (inl p) = inl (ap suc p.0, p.1)
    by (inr p) = inr (λ e. p.0 (omega arith), p.1)

-- ---- how many structs are declared

pub declared_append : (s : List Layout) → declared_in (s ++ undeclared ∷ []) ≡ declared_in s
declared_append [] = refl
declared_append (l ∷ s) = by (nat_lt 0 l.size) (declared_append s)
  where
    by : (b : Bool) → declared_in (s ++ undeclared ∷ []) ≡ declared_in s → length (cond b (l ∷ filter (λ (x : Layout). nat_lt 0 x.size) (s ++ undeclared ∷ [])) (filter (λ (x : Layout). nat_lt 0 x.size) (s ++ undeclared ∷ []))) ≡ length (cond b (l ∷ filter (λ (x : Layout). nat_lt 0 x.size) s) (filter (λ (x : Layout). nat_lt 0 x.size) s))
    by true h = ap suc h
    by false h = h

pub declared_set : (s : List Layout) (i : ℕ) (l : Layout) → declared_in (set s i l) ≤ declared_in s + 1
declared_set [] i l = omega arith
declared_set (x ∷ s) zero l = by (nat_lt 0 l.size) (nat_lt 0 x.size)
  where
    rest : List Layout
    rest = filter (λ (y : Layout). nat_lt 0 y.size) s

    by : (b d : Bool) → length (cond b (l ∷ filter (λ (y : Layout). nat_lt 0 y.size) s) (filter (λ (y : Layout). nat_lt 0 y.size) s)) ≤ length (cond d (x ∷ filter (λ (y : Layout). nat_lt 0 y.size) s) (filter (λ (y : Layout). nat_lt 0 y.size) s)) + 1
    by true true = omega arith
    by true false = omega arith
    by false true = omega arith
    by false false = omega arith
declared_set (x ∷ s) (suc i) l = by (nat_lt 0 x.size) (declared_set s i l)
  where
    by : (b : Bool) → declared_in (set s i l) ≤ declared_in s + 1 → length (cond b (x ∷ filter (λ (y : Layout). nat_lt 0 y.size) (set s i l)) (filter (λ (y : Layout). nat_lt 0 y.size) (set s i l))) ≤ length (cond b (x ∷ filter (λ (y : Layout). nat_lt 0 y.size) s) (filter (λ (y : Layout). nat_lt 0 y.size) s)) + 1
    by true h = omega arith
    by false h = h

-- ---- sums

pub sum_last : {X : Type 0} (f : X → ℕ) (xs : List X) (x : X) → sum_by f (xs ++ x ∷ []) ≡ sum_by f xs + f x
sum_last f xs x = sum_by-append f xs (x ∷ []) ∙ omega arith

sum_same : (f g : Ty → ℕ) (ts : List Ty) → ((n : ℕ) (t : Ty) → slice_get ts n ≡ Some t → f t ≡ g t) → sum_by f ts ≡ sum_by g ts
sum_same f g [] h = refl
sum_same f g (t ∷ ts) h =
    let first : f t ≡ g t = h 0 t refl in
    let rest : sum_by f ts ≡ sum_by g ts = sum_same f g ts (λ n u k. h (suc n) u k) in
    let a = sum_by-append f (t ∷ []) ts in
    let b = sum_by-append g (t ∷ []) ts in
    omega (arith, a, b, first, rest)

-- what globals and literals take, with more structs
pub taken_kept : (old new : List Layout) → Extends old new → (globals : List Ty) (literals : List (List ℕ)) → ((n : ℕ) (t : Ty) → slice_get globals n ≡ Some t → IsSized old t) → bytes_taken new globals literals ≡ bytes_taken old globals literals
taken_kept old new f globals literals h =
    ap (λ k. k + sum_by (λ (bs : List ℕ). taken (length bs)) literals) (sum_same (λ t. taken (size_in new t)) (λ t. taken (size_in old t)) globals (λ n t k. ap taken (size_kept old new f t (h n t k))))

-- ---- tests of lists

pub any_left : {X : Type 0} (p : X → Bool) (xs ys : List X) → list_any p xs ≡ true → list_any p (xs ++ ys) ≡ true
any_left p xs ys h = list_any-append p xs ys ∙ ap (λ b. b || list_any p ys) h

pub none_left : {X : Type 0} (p : X → Bool) (xs ys : List X) → list_any p (xs ++ ys) ≡ false → list_any p xs ≡ false
none_left p xs ys h = by (list_any p xs) refl
  where
    by : (b : Bool) → list_any p xs ≡ b → list_any p xs ≡ false
    by true k = absurd (apart (any_left p xs ys k))
      where
        apart : list_any p (xs ++ ys) ≡ true → ⊥
        apart k = cc
    by false k = k

pub any_last : {X : Type 0} (p : X → Bool) (xs : List X) (y : X) → p y ≡ true → list_any p (xs ++ y ∷ []) ≡ true
any_last p [] y h = ap (λ b. b || false) h
any_last p (x ∷ xs) y h = by (p x) (any_last p xs y h)
  where
    by : (b : Bool) → list_any p (xs ++ y ∷ []) ≡ true → (b || list_any p (xs ++ y ∷ [])) ≡ true
    by true k = refl
    by false k = k

pub any_either : {X : Type 0} (p : X → Bool) (xs : List X) (y : X) → list_any p (xs ++ y ∷ []) ≡ true → (list_any p xs ≡ true) ⊎ (p y ≡ true)
any_either p [] y h = by (p y) h
  where
    by : (b : Bool) → (b || false) ≡ true → (false ≡ true) ⊎ (b ≡ true)
    by true k = inr refl
    by false k = absurd cc
any_either p (x ∷ xs) y h = by (p x) h (any_either p xs y)
  where
    by : (b : Bool) → (b || list_any p (xs ++ y ∷ [])) ≡ true → (list_any p (xs ++ y ∷ []) ≡ true → (list_any p xs ≡ true) ⊎ (p y ≡ true)) → ((b || list_any p xs) ≡ true) ⊎ (p y ≡ true)
    by true k f = inl refl
    by false k f = f k
