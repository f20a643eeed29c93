-- The threads that run, as a list.
use Rattle.std.proofs.Common.{◌≡◌, ◌<◌, ◌≤◌, ◌+◌, ℕ, zero, suc, Bool, true, false, if◌then◌else◌, List, [], ◌∷◌, ◌++◌, length, drop, set, Option, Some, None, IsSome, is_some, refl, sym, ap, subst, ◌∙◌, arith, add-one, append_assoc, append-nil}
use Rattle.std.proofs.lemmas.List.{length-set, length-append, drop_all}
use Rattle.std.specs.List.{AllByRecursion}
use Rattle.block_store.specs.Runs.{own_at}
use Rattle.rule_check.specs.Seeded.{running_from, running}
use Rattle.rule_check.specs.inner.Steps.{AllRun, IsBehind}

pub add_zero : (n : ℕ) → n + 0 ≡ n
add_zero n = omega arith

pub zero_adds : (t : ℕ) → t ≡ 0 + t
zero_adds t = omega arith

suc_moves : (n t : ℕ) → suc n + t ≡ n + suc t
suc_moves n t = omega arith

-- what holds of each thread that runs holds of each that is listed
pub listed_from : {A : Type 0} (Q : ℕ → Type 0) (own : List (Option A)) (n : ℕ) → ((t : ℕ) → IsSome (own_at own t) → Q (n + t)) → AllByRecursion Q (running_from n own)
listed_from Q [] n h = tt
listed_from Q (None ∷ own) n h = listed_from Q own (suc n) (λ t r. subst Q (sym (suc_moves n t)) (h (suc t) r))
listed_from Q (Some a ∷ own) n h = (subst Q (add_zero n) (h 0 refl), listed_from Q own (suc n) (λ t r. subst Q (sym (suc_moves n t)) (h (suc t) r)))

-- and the other way round
pub listed_back : {A : Type 0} (Q : ℕ → Type 0) (own : List (Option A)) (n : ℕ) → AllByRecursion Q (running_from n own) → (t : ℕ) → IsSome (own_at own t) → Q (n + t)
listed_back Q [] n h t r = absurd (cc r)
listed_back Q (None ∷ own) n h zero r = absurd (cc r)
listed_back Q (None ∷ own) n h (suc t) r = subst Q (suc_moves n t) (listed_back Q own (suc n) h t r)
listed_back Q (Some a ∷ own) n h zero r = subst Q (sym (add_zero n)) h.0
listed_back Q (Some a ∷ own) n h (suc t) r = subst Q (suc_moves n t) (listed_back Q own (suc n) h.1 t r)

-- each that is listed runs
pub all_run : {A : Type 0} (own : List (Option A)) → AllRun own (running own)
all_run own = listed_from (λ t. IsSome (own_at own t)) own 0 (λ t r. subst (λ k. IsSome (own_at own k)) (zero_adds t) r)

-- main runs, so there is one
pub some_runs : {A : Type 0} (own : List (Option A)) → IsSome (own_at own 0) → 0 < length (running own)
some_runs [] h = absurd (cc h)
some_runs (None ∷ own) h = absurd (cc h)
some_runs (Some a ∷ own) h = omega arith

-- a thread that ran and runs is set to what it now has of its own
same_from : {A : Type 0} (own : List (Option A)) (n t : ℕ) (o : Option A) → IsSome (own_at own t) → IsSome (own_at (set own t o) t) → running_from n (set own t o) ≡ running_from n own
same_from [] n t o h k = absurd (cc h)
same_from (None ∷ own) n zero o h k = absurd (cc h)
same_from (Some a ∷ own) n zero None h k = absurd (cc k)
same_from (Some a ∷ own) n zero (Some b) h k = refl
same_from (None ∷ own) n (suc t) o h k = same_from own (suc n) t o h k
same_from (Some a ∷ own) n (suc t) o h k = ap (λ l. n ∷ l) (same_from own (suc n) t o h k)

empty_of : {A : Type 0} (l : List A) → length l ≡ 0 → l ≡ []
empty_of [] e = refl
empty_of (x ∷ l) e = absurd (omega (arith, e))

-- so where no thread more was made, those that run are the same
pub same_running : {A : Type 0} (before after : List (Option A)) (thread : ℕ) → IsSome (own_at before thread) → IsBehind thread before after → length after ≡ length before → IsSome (own_at after thread) → running before ≡ running after
same_running before after thread ran behind len runs =
    let own = behind.0 in
    let more = behind.1 in
    let lengths : length (set before thread own ++ more) ≡ length before = subst (λ l. length l ≡ length before) behind.2 len in
    let none : more ≡ [] = empty_of more (omega (arith, lengths, length-append (set before thread own) more, length-set before thread own)) in
    let is : after ≡ set before thread own = behind.2 ∙ ap (λ m. set before thread own ++ m) none ∙ append-nil (set before thread own) in
    sym (ap running is ∙ same_from before 0 thread own ran (subst (λ l. IsSome (own_at l thread)) is runs))

-- one thread more that was looked at
listed_at : {A : Type 0} (own : List (Option A)) (t n : ℕ) → t < length own
    → running_from n (drop t own) ≡ (if is_some (own_at own t) then n ∷ running_from (suc n) (drop (suc t) own) else running_from (suc n) (drop (suc t) own))
listed_at [] t n h = absurd (omega (arith, h))
listed_at (None ∷ own) zero n h = refl
listed_at (Some a ∷ own) zero n h = refl
listed_at (x ∷ own) (suc t) n h = listed_at own t n (omega (arith, h))

pub more_listed : {A : Type 0} (own : List (Option A)) (t : ℕ) (l : List ℕ) → t < length own → is_some (own_at own t) ≡ true → l ++ running_from t (drop t own) ≡ running own
    → (l ++ t ∷ []) ++ running_from (t + 1) (drop (t + 1) own) ≡ running own
more_listed own t l h e so =
    let is : running_from t (drop t own) ≡ t ∷ running_from (suc t) (drop (suc t) own) =
    listed_at own t t h ∙ ap (λ (b : Bool). if b then t ∷ running_from (suc t) (drop (suc t) own) else running_from (suc t) (drop (suc t) own)) e in
    rw (add-one, append_assoc l (t ∷ []) (running_from (suc t) (drop (suc t) own))) (ap (λ m. l ++ m) (sym is) ∙ so)

pub none_listed : {A : Type 0} (own : List (Option A)) (t : ℕ) (l : List ℕ) → t < length own → is_some (own_at own t) ≡ false → l ++ running_from t (drop t own) ≡ running own
    → l ++ running_from (t + 1) (drop (t + 1) own) ≡ running own
none_listed own t l h e so =
    let is : running_from t (drop t own) ≡ running_from (suc t) (drop (suc t) own) =
    listed_at own t t h ∙ ap (λ (b : Bool). if b then t ∷ running_from (suc t) (drop (suc t) own) else running_from (suc t) (drop (suc t) own)) e in
    rw add-one (ap (λ m. l ++ m) (sym is) ∙ so)

-- all were looked at
pub all_listed : {A : Type 0} (own : List (Option A)) (t : ℕ) (l : List ℕ) → length own ≤ t → l ++ running_from t (drop t own) ≡ running own → l ≡ running own
all_listed own t l h so =
    let none : drop t own ≡ [] = drop_all t own h in
    sym (append-nil l) ∙ ap (λ m. l ++ running_from t m) (sym none) ∙ so
