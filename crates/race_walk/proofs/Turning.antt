-- What the loops over touches see, and a turn of the walk.
use Rattle.std.proofs.Common.{◌≡◌, ℕ, zero, suc, ◌+◌, ◌<◌, ◌≤◌, Bool, true, false, ◌&&◌, ◌||◌, ◌⊎◌, inl, inr, List, [], ◌∷◌, length, drop, get_or, slice_get, Some, refl, sym, subst, arith}
use Rattle.std.specs.List.{list_any}
use Rattle.std.proofs.lemmas.List.{drop_all}
use Rattle.std.proofs.lemmas.Bool.{leb-true, le-leb}
use Rattle.std.proofs.Math.Seq.{drop-cons}
use mathlib.Core.Path.{fun_ext}
use Rattle.race_rules.specs.declared.touch.Seen.{Seen}
use Rattle.race_rules.specs.declared.touch.Touch.{Touch}
use Rattle.race_rules.specs.declared.touch.TouchKind.{TouchKind}
use Rattle.race_rules.specs.Turns.{Turn, Has}
use Rattle.race_rules.specs.Turns.Has.{here, later}
use Rattle.race_rules.specs.Races.{Second}
use Rattle.race_rules.specs.Clocks.{Clock, Clocks, clock_of, told_all, in_thread}
use Rattle.race_rules.specs.Histories.{History, Clashes, Caught, After, saw, saw_all}
use Rattle.race_rules.proofs.Touching.{no_has, has_cases}
use Rattle.race_rules.proofs.Walks.{races_are_caught, walks_go_on}
use Rattle.race_walk.specs.Views.{clashes}

pub first_true : (a b : Bool) → (a && b) ≡ true → a ≡ true
first_true true b h = refl
first_true false b h = (cc)

pub second_true : (a b : Bool) → (a && b) ≡ true → b ≡ true
second_true true b h = h
second_true false b h = (cc)

pub or_cases : (a b : Bool) → (a || b) ≡ true → (a ≡ true) ⊎ (b ≡ true)
or_cases true b h = inl refl
or_cases false b h = inr h

pub or_first : (a b : Bool) → a ≡ true → (a || b) ≡ true
or_first true b h = refl
or_first false b h = (cc)

pub or_second : (a b : Bool) → b ≡ true → (a || b) ≡ true
or_second true b h = refl
or_second false b h = h

clash_is : (v : Clock) (κ : TouchKind) (s : Seen) → clashes v κ s ≡ true → Clashes v κ s
clash_is v κ s h = record { kinds = first_true _ _ h; unknown = leb-true (v s.thread) s.turn (second_true _ _ h) }

pub both_true : (a b : Bool) → a ≡ true → b ≡ true → (a && b) ≡ true
both_true true b h g = g
both_true false b h g = (cc)

is_clash : (v : Clock) (κ : TouchKind) (s : Seen) → Clashes v κ s → clashes v κ s ≡ true
is_clash v κ s c = both_true _ _ c.kinds (le-leb (v s.thread) s.turn c.unknown)

pub any_is : (v : Clock) (κ : TouchKind) (xs : List Seen) → list_any (clashes v κ) xs ≡ true → Has (Clashes v κ) xs
any_is v κ [] h = (cc)
any_is v κ (s ∷ xs) h = elim (or_cases (clashes v κ s) (list_any (clashes v κ) xs) h) [ inl e ↦ here (clash_is v κ s e) | inr e ↦ later (any_is v κ xs e) ]

pub is_any : (v : Clock) (κ : TouchKind) (xs : List Seen) → Has (Clashes v κ) xs → list_any (clashes v κ) xs ≡ true
is_any v κ [] h = absurd (no_has h)
is_any v κ (s ∷ xs) h = elim (has_cases h) [ inl e ↦ or_first (clashes v κ s) (list_any (clashes v κ) xs) (is_clash v κ s e) | inr e ↦ or_second (clashes v κ s) (list_any (clashes v κ) xs) (is_any v κ xs e) ]

-- what one call of `catches` tells
pub caught_of : (v : Clock) (h : History) (a : Touch) → ((c : ℕ) × (a.from ≤ c) × (c < a.to) × (list_any (clashes v a.kind) (h a.block c) ≡ true)) → Caught v h a
caught_of v h a (c, low, high, any) = record { cell = c; there = record { in_block = refl; from_here = low; up_to = high }; by = any_is v a.kind (h a.block c) any }

pub of_caught : (v : Clock) (h : History) (a : Touch) → Caught v h a → (c : ℕ) × (a.from ≤ c) × (c < a.to) × (list_any (clashes v a.kind) (h a.block c) ≡ true)
of_caught v h a c = (c.cell, c.there.from_here, c.there.up_to, is_any v a.kind (h a.block c.cell) c.by)

-- ---- loops over touches

has_from : {P : Touch → Type 0} (xs : List Touch) (i : ℕ) → Has P (drop i xs) → Has P xs
has_from xs zero h = h
has_from [] (suc i) h = h
has_from (x ∷ xs) (suc i) h = later (has_from xs i h)

pub has_item : {P : Touch → Type 0} (xs : List Touch) (i : ℕ) (d : Touch) → i < length xs → P (get_or xs i d) → Has P xs
has_item {P = P} xs i d h p = let F : List Touch → Type 0 = λ l. Has P l in has_from xs i (subst F (sym (drop-cons xs i d h)) (here p))

pub rest_has : {P : Touch → Type 0} (xs : List Touch) (i : ℕ) (d : Touch) → i < length xs → (P (get_or xs i d) → ⊥) → Has P (drop i xs) → Has P (drop (i + 1) xs)
rest_has {P = P} xs i d h never m =
    let F : List Touch → Type 0 = λ l. Has P l in
    let f : i + 1 ≡ suc i = omega arith in
    elim (has_cases (subst F (drop-cons xs i d h) m)) [ inl p ↦ absurd (never p) | inr r ↦ rw f r ]

pub none_has : {P : Touch → Type 0} (xs : List Touch) (i : ℕ) → length xs ≤ i → Has P (drop i xs) → ⊥
none_has {P = P} xs i h m = let F : List Touch → Type 0 = λ l. Has P l in no_has (subst F (drop_all i xs h) m)

pub see_step : (v : Clock) (k thread : ℕ) (xs : List Touch) (i : ℕ) (d : Touch) (old now : History) (whole : History) → i < length xs → ((b e : ℕ) → now b e ≡ saw v k thread (get_or xs i d) old b e) →
    ((b e : ℕ) → saw_all v k thread (drop i xs) old b e ≡ whole b e) → (b e : ℕ) → saw_all v k thread (drop (i + 1) xs) now b e ≡ whole b e
see_step v k thread xs i d old now whole h n w b e =
    let f : i + 1 ≡ suc i = omega arith in
    let g : now ≡ saw v k thread (get_or xs i d) old = fun_ext (λ b. fun_ext (λ e. n b e)) in
    let F : List Touch → Type 0 = λ l. saw_all v k thread l old b e ≡ whole b e in
    rw (f, g) (subst F (drop-cons xs i d h) (w b e))

pub see_end : (v : Clock) (k thread : ℕ) (xs : List Touch) (i : ℕ) (now whole : History) → length xs ≤ i → ((b e : ℕ) → saw_all v k thread (drop i xs) now b e ≡ whole b e) → (b e : ℕ) → now b e ≡ whole b e
see_end v k thread xs i now whole h w b e = let F : List Touch → Type 0 = λ l. saw_all v k thread l now b e ≡ whole b e in subst F (drop_all i xs h) (w b e)

-- ---- a turn of the walk

pub found_so : (ts : List Turn) (k : ℕ) (c : Clocks) (h : History) (x : Turn) (v : Clock) → After ts k c h → slice_get ts k ≡ Some x → ((t : ℕ) → v t ≡ clock_of c k x t) →
    (Has (Caught v h) x.touches → Second ts k) × (Second ts k → Has (Caught v h) x.touches)
found_so ts k c h x v a at e =
    let g : v ≡ clock_of c k x = fun_ext e in
    let F : Clock → Type 0 = λ w. (Has (Caught w h) x.touches → Second ts k) × (Second ts k → Has (Caught w h) x.touches) in
    subst F (sym g) (races_are_caught ts k c h x a at)

pub walked_on : (ts : List Turn) (k : ℕ) (c d : Clocks) (h g : History) (x : Turn) (v : Clock) → After ts k c h → slice_get ts k ≡ Some x → ((t : ℕ) → v t ≡ clock_of c k x t) → (Has (Caught v h) x.touches → ⊥) →
    d ≡ in_thread x.thread v (told_all v x.touches c) → ((b e : ℕ) → g b e ≡ saw_all v k x.thread x.touches h b e) → After ts (k + 1) d g
walked_on ts k c d h g x v a at e never p q =
    let r : v ≡ clock_of c k x = fun_ext e in
    let f : k + 1 ≡ suc k = omega arith in
    let s : g ≡ saw_all v k x.thread x.touches h = fun_ext (λ b. fun_ext (λ i. q b i)) in
    let F : Clock → Type 0 = λ w. (Has (Caught w h) x.touches → ⊥) → After ts (suc k) (in_thread x.thread w (told_all w x.touches c)) (saw_all w k x.thread x.touches h) in
    let G : Clocks → Type 0 = λ z. After ts (suc k) z (saw_all v k x.thread x.touches h) in
    let H : History → Type 0 = λ z. After ts (suc k) d z in
    let K : ℕ → Type 0 = λ n. After ts n d g in
    subst K (sym f) (subst H (sym s) (subst G (sym p) (subst F (sym r) (walks_go_on ts k c h x a at) never)))

-- ---- in the loops' words

pub false_true : (r : Bool) → r ≡ false → r ≡ true → ⊥
false_true r f t = (cc)

pub caught_item : (v : Clock) (h : History) (xs : List Touch) (i : ℕ) (d : Touch) → i < length xs →
    ((c : ℕ) × ((get_or xs i d).from ≤ c) × (c < (get_or xs i d).to) × (list_any (clashes v (get_or xs i d).kind) (h (get_or xs i d).block c) ≡ true)) → Has (Caught v h) xs
caught_item v h xs i d lt t = has_item xs i d lt (caught_of v h (get_or xs i d) t)

pub not_item : (v : Clock) (h : History) (xs : List Touch) (i : ℕ) (d : Touch) (r : Bool) → i < length xs → r ≡ false →
    (((c : ℕ) × ((get_or xs i d).from ≤ c) × (c < (get_or xs i d).to) × (list_any (clashes v (get_or xs i d).kind) (h (get_or xs i d).block c) ≡ true)) → r ≡ true) →
    Has (Caught v h) (drop i xs) → Has (Caught v h) (drop (i + 1) xs)
not_item v h xs i d r lt f g m = rest_has {P = Caught v h} xs i d lt (λ k. false_true r f (g (of_caught v h (get_or xs i d) k))) m
