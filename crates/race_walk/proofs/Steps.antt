-- Steps of the loops, and how clocks that are the same at each place go on.
use Rattle.std.proofs.Common.{◌≡◌, ◌≢◌, ℕ, suc, ◌+◌, ◌-◌, ◌<◌, ◌≤◌, max, nat_le, nat_lt, nat_eq, ◌&&◌, Bool, true, false, ◌⊎◌, inl, inr, List, [], ◌∷◌, length, drop, get_or, ◌==◌, refl, sym, ap, subst, arith, ◌∙◌}
use Rattle.std.proofs.lemmas.Bool.Decides.{leb_tells, eqb_tells}
use Rattle.std.proofs.lemmas.Bool.{eqb-true, lt-ltb, le-leb, cases_lt}
use Rattle.std.proofs.Math.Seq.{drop-cons}
use Rattle.std.proofs.lemmas.List.{drop_all}
use mathlib.Core.Path.{fun_ext}
use Rattle.race_rules.specs.declared.touch.Touch.{Touch}
use Rattle.race_rules.specs.Clocks.{Clock, Clocks, own, if_told, told, told_all, gained, gained_all, written_over, is_start, is_unlock, is_of_all, is_atomic_write, is_of}
use Rattle.race_walk.specs.Keys.{two_eq, three_eq}
use Rattle.race_walk.specs.States.{Same}

pub bool_cases : (b : Bool) → (b ≡ true) ⊎ (b ≡ false)
bool_cases true = inl refl
bool_cases false = inr refl

first_true : (a b : Bool) → (a && b) ≡ true → a ≡ true
first_true true b h = refl
first_true false b h = (cc)

second_true : (a b : Bool) → (a && b) ≡ true → b ≡ true
second_true true b h = h
second_true false b h = (cc)

pub two_same : (p q : ℕ × ℕ) → two_eq p q ≡ true → p ≡ q
two_same (a, b) (c, d) h = let e = eqb-true a c (first_true _ _ h) in let f = eqb-true b d (second_true _ _ h) in cc

pub three_same : (p q : ℕ × (ℕ × ℕ)) → three_eq p q ≡ true → p ≡ q
three_same (a, b) (c, d) h = let e = eqb-true a c (first_true _ _ h) in let f = two_same b d (second_true _ _ h) in cc

-- a row of a table that knows more
pub joined_at : {K : Type 0} (test : K → K → Bool) (exact : (p q : K) → test p q ≡ true → p ≡ q) (g new : K → Clock) (v : Clock) (key : K) →
    ((t : ℕ) → new key t ≡ max (g key t) (v t)) → ((q : K) → test key q ≡ false → (t : ℕ) → new q t ≡ g q t) → (q : K) (u : ℕ) → new q u ≡ if_told (test key q) v (g q) u
joined_at {K} test exact g new v key at others q u = elim (bool_cases (test key q)) [
  | inl h ↦ (let F : K → Type 0 = λ z. new z u ≡ max (g z u) (v u) in rw h (subst F (exact key q h) (at u)))
  | inr h ↦ rw h (others q h u)
]

pub lt_false : (a b : ℕ) → b ≤ a → nat_lt a b ≡ false
lt_false a b h = elim (leb_tells (suc a) b) [ inl x ↦ (let y = x.1 in absurd (omega arith)) | inr x ↦ x.0 ]

lt_more : (e cell : ℕ) → cell ≢ e → nat_lt e (cell + 1) ≡ nat_lt e cell
lt_more e cell ne = elim (cases_lt e cell) [
  | inl lt ↦ lt-ltb e (cell + 1) (omega arith) ∙ sym (lt-ltb e cell lt)
  | inr le ↦ (let more : cell + 1 ≤ e = omega arith in lt_false e (cell + 1) more ∙ sym (lt_false e cell le))
]

le_false : (a b : ℕ) → b < a → nat_le a b ≡ false
le_false a b h = elim (leb_tells a b) [ inl x ↦ (let y = x.1 in absurd (omega arith)) | inr x ↦ x.0 ]

write_at : (from e cell : ℕ) (v w0 wl wn : Clock) (u : ℕ) → wl u ≡ if_told (nat_le from e && nat_lt e cell) v w0 u → wn u ≡ if_told (nat_eq cell e) v wl u → from ≤ cell →
    wn u ≡ if_told (nat_le from e && nat_lt e (cell + 1)) v w0 u
write_at from e cell v w0 wl wn u p q le = elim (eqb_tells cell e) [
  | inl h ↦
      (let s = h.1 in
      let f : nat_lt e cell ≡ false = lt_false e cell (omega arith) in
      let g : nat_le from e ≡ true = le-leb from e (omega arith) in
      let k : nat_lt e (cell + 1) ≡ true = lt-ltb e (cell + 1) (omega arith) in
      let p1 = rw (g, f) at p in
      let q1 = rw h.0 at q in
      let F : ℕ → ℕ = λ n. max n (v u) in
      rw (g, k) (q1 ∙ ap F p1))
  | inr h ↦ rw (lt_more e cell h.1) ((rw h.0 at q) ∙ p)
]

-- one more cell of a block's row
pub write_step : (block b from e cell : ℕ) (v w0 wl wn : Clock) (u : ℕ) → wl u ≡ if_told (nat_eq block b && (nat_le from e && nat_lt e cell)) v w0 u → wn u ≡ if_told (nat_eq block b && nat_eq cell e) v wl u → from ≤ cell →
    wn u ≡ if_told (nat_eq block b && (nat_le from e && nat_lt e (cell + 1))) v w0 u
write_step block b from e cell v w0 wl wn u p q le = elim (eqb_tells block b) [
  | inl h ↦ rw h.0 (write_at from e cell v w0 wl wn u (rw h.0 at p) (rw h.0 at q) le)
  | inr h ↦ rw h.0 ((rw h.0 at q) ∙ (rw h.0 at p))
]

-- where a loop over cells ends
pub test_end : (from to cell e : ℕ) → cell ≤ max from to → to ≤ cell → from ≤ cell → (nat_le from e && nat_lt e cell) ≡ (nat_le from e && nat_lt e to)
test_end from to cell e most end low = elim (leb_tells from e) [
  | inr x ↦ rw x.0 refl
  | inl x ↦ rw x.0 (elim (cases_lt to from) [
    | inl lt ↦ (let y = x.1 in lt_false e cell (omega arith) ∙ sym (lt_false e to (omega arith)))
    | inr le ↦ (let same : cell ≡ to = omega arith in let F : ℕ → Bool = λ n. nat_lt e n in ap F same)
  ])
]

-- ---- what a turn's own touches let it know

pub gain_step : (old new row rest now whole part : ℕ) → new ≡ max old row → row ≡ part → now ≡ max part rest → max old now ≡ whole → max new rest ≡ whole
gain_step old new row rest now whole part j r e i = omega arith

pub clock_step : (c : Clocks) (xs : List Touch) (i : ℕ) (d : Touch) (new old whole t : ℕ) → i < length xs → new ≡ max old (gained c (get_or xs i d) t) → max old (gained_all c (drop i xs) t) ≡ whole → max new (gained_all c (drop (i + 1) xs) t) ≡ whole
clock_step c xs i d new old whole t h n w =
    let e : drop i xs ≡ get_or xs i d ∷ drop (suc i) xs = drop-cons xs i d h in
    let f : i + 1 ≡ suc i = omega arith in
    let w1 = rw e at w in
    rw f (omega arith)

pub own_same : (k thread : ℕ) (v w : Clock) → ((t : ℕ) → v t ≡ w t) → (t : ℕ) → own k thread v t ≡ own k thread w t
own_same k thread v w e t = elim (bool_cases (t == thread)) [ inl h ↦ rw h refl | inr h ↦ rw h (e t) ]

pub clock_end : (c : Clocks) (xs : List Touch) (i u now first a z r1 r2 th st : ℕ) → length xs ≤ i → max now (gained_all c (drop i xs) u) ≡ max a (gained_all c xs u) → a ≡ max first r2 → first ≡ max z r1 → z ≡ 0 → r1 ≡ th → r2 ≡ st → now ≡ max (max th st) (gained_all c xs u)
clock_end c xs i u now first a z r1 r2 th st h inv e f n p q = let inv1 = rw (drop_all i xs h) at inv in omega arith

pub over_step : (c : Clocks) (block cell to t : ℕ) → cell < to → written_over c block cell (to - cell) t ≡ max (c.written block cell t) (written_over c block (cell + 1) (to - (cell + 1)) t)
over_step c block cell to t h =
    let e : to - cell ≡ suc (to - (cell + 1)) = omega arith in
    let f : cell + 1 ≡ suc cell = omega arith in
    rw (e, f) refl

pub over_none : (c : Clocks) (block cell to t : ℕ) → to ≤ cell → written_over c block cell (to - cell) t ≡ 0
over_none c block cell to t h = let e : to - cell ≡ 0 = omega arith in rw e refl

-- ---- the same clocks

pub same_back : {c d e : Clocks} → Same c d → Same d e → Same c e
same_back s r = record {
  threads = λ t u. s.threads t u ∙ r.threads t u;
  started = λ t u. s.started t u ∙ r.started t u;
  released = λ b f e u. s.released b f e u ∙ r.released b f e u;
  written = λ b e u. s.written b e u ∙ r.written b e u;
}

pub same_itself : (c : Clocks) → Same c c
same_itself c = record { threads = λ t u. refl; started = λ t u. refl; released = λ b f e u. refl; written = λ b e u. refl }

if_same : (b : Bool) (v w z : Clock) (u : ℕ) → w u ≡ z u → if_told b v w u ≡ if_told b v z u
if_same true v w z u e = rw e refl
if_same false v w z u e = e

pub told_same : (v : Clock) (a : Touch) (c d : Clocks) → Same c d → Same (told v a c) (told v a d)
told_same v a c d s = record {
  threads = s.threads;
  started = λ t u. if_same (is_start t a.kind) v (c.started t) (d.started t) u (s.started t u);
  released = λ b f e u. if_same (is_unlock a.kind && is_of_all a b f e) v (c.released b f e) (d.released b f e) u (s.released b f e u);
  written = λ b e u. if_same (is_atomic_write a.kind && is_of a b e) v (c.written b e) (d.written b e) u (s.written b e u);
}

pub told_all_same : (v : Clock) (all : List Touch) (c d : Clocks) → Same c d → Same (told_all v all c) (told_all v all d)
told_all_same v [] c d s = s
told_all_same v (a ∷ all) c d s = told_all_same v all (told v a c) (told v a d) (told_same v a c d s)

-- one more touch is told
pub tell_step : (v : Clock) (xs : List Touch) (i : ℕ) (d : Touch) (c n e : Clocks) → i < length xs → Same n (told v (get_or xs i d) c) → Same (told_all v (drop i xs) c) e → Same (told_all v (drop (i + 1) xs) n) e
tell_step v xs i d c n e h s r =
    let f : i + 1 ≡ suc i = omega arith in
    let F : List Touch → Type 0 = λ l. Same (told_all v l c) e in
    rw f (same_back (told_all_same v (drop (suc i) xs) n (told v (get_or xs i d) c) s) (subst F (drop-cons xs i d h) r))

pub tell_end : (v : Clock) (xs : List Touch) (i : ℕ) (c e : Clocks) → length xs ≤ i → Same (told_all v (drop i xs) c) e → Same c e
tell_end v xs i c e h r = let F : List Touch → Type 0 = λ l. Same (told_all v l c) e in subst F (drop_all i xs h) r

-- ---- equal functions

make : (ℕ → Clock) → (ℕ → Clock) → (ℕ → ℕ → ℕ → Clock) → (ℕ → ℕ → Clock) → Clocks
make a b c d = record { threads = a; started = b; released = c; written = d }

pub same_is : (c d : Clocks) → Same c d → c ≡ d
unfolding make
same_is c d s =
    let e1 : c.threads ≡ d.threads = fun_ext (λ t. fun_ext (λ u. s.threads t u)) in
    let e2 : c.started ≡ d.started = fun_ext (λ t. fun_ext (λ u. s.started t u)) in
    let e3 : c.released ≡ d.released = fun_ext (λ b. fun_ext (λ f. fun_ext (λ e. fun_ext (λ u. s.released b f e u)))) in
    let e4 : c.written ≡ d.written = fun_ext (λ b. fun_ext (λ e. fun_ext (λ u. s.written b e u))) in
    ap (λ (z : ℕ → Clock). make z c.started c.released c.written) e1 ∙ ap (λ (z : ℕ → Clock). make d.threads z c.released c.written) e2
    ∙ ap (λ (z : ℕ → ℕ → ℕ → Clock). make d.threads d.started z c.written) e3 ∙ ap (λ (z : ℕ → ℕ → Clock). make d.threads d.started d.released z) e4
