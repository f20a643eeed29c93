-- Which thread is the first that doesn't wait.
use Rattle.std.proofs.Common.{◌≡◌, ◌<◌, ℕ, zero, suc, Bool, true, false, if◌then◌else◌, List, [], ◌∷◌, ◌++◌, length, take, drop, get_or, Option, Some, None, refl, ap, subst, inl, inr, ◌⊎◌, ◌∙◌, arith}
use Rattle.std.specs.List.{AllByRecursion}
use Rattle.block_store.specs.declared.values.Answer.TheVariants as answers
use Rattle.block_store.specs.Runs.{Program, State, Turn, went, ended, blocked, unfit, broke}
use Rattle.block_meaning.specs.Asking.{told}
use Rattle.rule_check.specs.Seeded.{is_blocked, first_ready}

-- of a list and another the first that doesn't wait
ready_at : (b : Bool) (x y : ℕ) (rest more : Option ℕ) → (if b then rest else Some x) ≡ Some y → (rest ≡ Some y → more ≡ Some y) → (if b then more else Some x) ≡ Some y
ready_at true x y rest more e f = f e
ready_at false x y rest more e f = e

none_at : (b : Bool) (x : ℕ) (rest : Option ℕ) → (if b then rest else Some x) ≡ None → (b ≡ true) × (rest ≡ None)
none_at true x rest e = (refl, e)
none_at false x rest e = absurd (cc e)

pub found_before : {A : Type 0} (P : Program A) (s : State A) (l m : List ℕ) (y : ℕ) → first_ready P s l ≡ Some y → first_ready P s (l ++ m) ≡ Some y
found_before P s [] m y e = absurd (cc e)
found_before P s (x ∷ l) m y e = ready_at (is_blocked (told P s x answers.Plain)) x y (first_ready P s l) (first_ready P s (l ++ m)) e (found_before P s l m y)

pub found_behind : {A : Type 0} (P : Program A) (s : State A) (l m : List ℕ) → first_ready P s l ≡ None → first_ready P s (l ++ m) ≡ first_ready P s m
found_behind P s [] m e = refl
found_behind P s (x ∷ l) m e =
    let both = none_at (is_blocked (told P s x answers.Plain)) x (first_ready P s l) e in
    ap (λ (b : Bool). if b then first_ready P s (l ++ m) else Some x) both.0 ∙ found_behind P s l m both.1

-- where none is found each waits
pub all_wait : {A : Type 0} (P : Program A) (s : State A) (l : List ℕ) → first_ready P s l ≡ None → AllByRecursion (λ thread. is_blocked (told P s thread answers.Plain) ≡ true) l
all_wait P s [] e = tt
all_wait P s (x ∷ l) e =
    let both = none_at (is_blocked (told P s x answers.Plain)) x (first_ready P s l) e in
    (both.0, all_wait P s l both.1)

-- the one that is found doesn't wait
found_at : (b : Bool) (x y : ℕ) (rest : Option ℕ) → (if b then rest else Some x) ≡ Some y → ((b ≡ false) × (x ≡ y)) ⊎ (rest ≡ Some y)
found_at true x y rest e = inr e
found_at false x y rest e = inl (refl, cc e)

pub is_ready : {A : Type 0} (P : Program A) (s : State A) (l : List ℕ) (y : ℕ) → first_ready P s l ≡ Some y → is_blocked (told P s y answers.Plain) ≡ false
is_ready P s [] y e = absurd (cc e)
is_ready P s (x ∷ l) y e =
    elim (found_at (is_blocked (told P s x answers.Plain)) x y (first_ready P s l) e) as (λ w. is_blocked (told P s y answers.Plain) ≡ false) [
      | inl both ↦ subst (λ z. is_blocked (told P s z answers.Plain) ≡ false) both.1 both.0
      | inr later ↦ is_ready P s l y later
    ]

-- what waits
pub blocked_is : {A : Type 0} (t : Option (Turn A)) → is_blocked t ≡ true → t ≡ Some blocked
blocked_is None e = absurd (cc e)
blocked_is (Some (went own w)) e = absurd (cc e)
blocked_is (Some (ended w)) e = absurd (cc e)
blocked_is (Some blocked) e = refl
blocked_is (Some unfit) e = absurd (cc e)
blocked_is (Some (broke rule place)) e = absurd (cc e)

-- facts of all elements
pub all_append : (Q : ℕ → Type 0) (l m : List ℕ) → AllByRecursion Q (l ++ m) → AllByRecursion Q l × AllByRecursion Q m
all_append Q [] m h = (tt, h)
all_append Q (x ∷ l) m h = let both = all_append Q l m h.1 in ((h.0, both.0), both.1)

pub all_joined : (Q : ℕ → Type 0) (l m : List ℕ) → AllByRecursion Q l → AllByRecursion Q m → AllByRecursion Q (l ++ m)
all_joined Q [] m h k = k
all_joined Q (x ∷ l) m h k = (h.0, all_joined Q l m h.1 k)

pub all_take : (Q : ℕ → Type 0) (n : ℕ) (l : List ℕ) → AllByRecursion Q l → AllByRecursion Q (take n l)
all_take Q zero l h = tt
all_take Q (suc n) [] h = tt
all_take Q (suc n) (x ∷ l) h = (h.0, all_take Q n l h.1)

pub all_drop : (Q : ℕ → Type 0) (n : ℕ) (l : List ℕ) → AllByRecursion Q l → AllByRecursion Q (drop n l)
all_drop Q zero l h = h
all_drop Q (suc n) [] h = tt
all_drop Q (suc n) (x ∷ l) h = all_drop Q n l h.1

pub all_at : (Q : ℕ → Type 0) (l : List ℕ) (i d : ℕ) → AllByRecursion Q l → i < length l → Q (get_or l i d)
all_at Q [] i d h k = absurd (omega (arith, k))
all_at Q (x ∷ l) zero d h k = h.0
all_at Q (x ∷ l) (suc i) d h k = all_at Q l i d h.1 (omega (arith, k))
