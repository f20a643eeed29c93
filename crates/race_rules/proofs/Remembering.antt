-- From turn to turn the history stays what it stands for, and it tells the races.
use Rattle.std.proofs.Common.{◌≡◌, ◌≢◌, ℕ, suc, ◌<◌, ◌≤◌, ◌==◌, Bool, true, false, not, ◌&&◌, ◌||◌, cond, ◌⊎◌, inl, inr, List, [], ◌∷◌, ◌++◌, slice_get, Some, if◌then◌else◌, refl, sym, subst, arith}
use Rattle.std.specs.List.{filter, All}
use Rattle.std.proofs.Math.Nat.{eq-or-lt_of_le}
use Rattle.std.proofs.lemmas.Bool.{cases_lt}
use Rattle.std.proofs.lemmas.Bool.Decides.{Decides-ltb, eqb_tells}
use Rattle.std.proofs.lemmas.List.Elements.{All-nil, All-filter, All-push, All-head, All-tail, All-weaker}
use Rattle.race_rules.specs.declared.touch.Seen.{Seen}
use Rattle.race_rules.specs.declared.touch.Touch.{Touch}
use Rattle.race_rules.specs.declared.touch.TouchKind.{TouchKind}
use Rattle.race_rules.specs.Turns.{Turn, Has, Pair}
use Rattle.race_rules.specs.Kinds.{is_access, is_write, is_atomic, clash, outdoes}
use Rattle.race_rules.specs.Turns.Has.{here, later}
use Rattle.race_rules.specs.Order.{Before}
use Rattle.race_rules.specs.Order.Orders.{same_thread}
use Rattle.race_rules.specs.Order.Before.{at_once}
use Rattle.race_rules.specs.Races.{Clash, Second}
use Rattle.race_rules.specs.Clocks.{Clock, Clocks, AtOrBefore, clock_of, after, is_of, first_clocks}
use Rattle.race_rules.specs.Sound.{Sound}
use Rattle.race_rules.specs.Histories.{History, keeps, noted, saw, saw_all, first_history, forgotten, Clashes, Caught, At, Real, Stands, StillTouched, Remembers, After}
use Rattle.race_rules.proofs.Knowing.{some_one, before_trans}
use Rattle.race_rules.proofs.Touching.{no_has, has_cases, has_map, reach_tells}
use Rattle.race_rules.proofs.Walking.{clock_law, after_is_sound, first_clocks_are_sound}

-- ---- kinds

bool_law : (an ao ak wn wo wk tn to tk : Bool) → (an && ((not wo || wn) && (not tn || to))) ≡ true → ((ao && ak) && ((wo || wk) && not (to && tk))) ≡ true → ((an && ak) && ((wn || wk) && not (tn && tk))) ≡ true
bool_law false ao ak wn wo wk tn to tk h g = cc
bool_law true false ak wn wo wk tn to tk h g = cc
bool_law true true false wn wo wk tn to tk h g = cc
bool_law true true true true true true true true true h g = cc
bool_law true true true true true true true true false h g = refl
bool_law true true true true true true true false true h g = cc
bool_law true true true true true true true false false h g = cc
bool_law true true true true true true false true true h g = cc
bool_law true true true true true true false true false h g = refl
bool_law true true true true true true false false true h g = refl
bool_law true true true true true true false false false h g = refl
bool_law true true true true true false true true true h g = cc
bool_law true true true true true false true true false h g = refl
bool_law true true true true true false true false true h g = cc
bool_law true true true true true false true false false h g = cc
bool_law true true true true true false false true true h g = cc
bool_law true true true true true false false true false h g = refl
bool_law true true true true true false false false true h g = refl
bool_law true true true true true false false false false h g = refl
bool_law true true true true false true true true true h g = cc
bool_law true true true true false true true true false h g = refl
bool_law true true true true false true true false true h g = cc
bool_law true true true true false true true false false h g = cc
bool_law true true true true false true false true true h g = cc
bool_law true true true true false true false true false h g = refl
bool_law true true true true false true false false true h g = refl
bool_law true true true true false true false false false h g = refl
bool_law true true true true false false tn to tk h g = cc
bool_law true true true false true true tn to tk h g = cc
bool_law true true true false true false tn to tk h g = cc
bool_law true true true false false true true true true h g = cc
bool_law true true true false false true true true false h g = refl
bool_law true true true false false true true false true h g = cc
bool_law true true true false false true true false false h g = cc
bool_law true true true false false true false true true h g = cc
bool_law true true true false false true false true false h g = refl
bool_law true true true false false true false false true h g = refl
bool_law true true true false false true false false false h g = refl
bool_law true true true false false false tn to tk h g = cc

pub outdone : (new old κ : TouchKind) → outdoes new old ≡ true → clash old κ ≡ true → clash new κ ≡ true
outdone new old κ h g = bool_law (is_access new) (is_access old) (is_access κ) (is_write new) (is_write old) (is_write κ) (is_atomic new) (is_atomic old) (is_atomic κ) h g

first_true : (a b : Bool) → (a && b) ≡ true → a ≡ true
first_true true b h = refl
first_true false b h = cc

second_true : (a b : Bool) → (a && b) ≡ true → b ≡ true
second_true true b h = h
second_true false b h = cc

not_false : (a : Bool) → not a ≡ false → a ≡ true
not_false true h = refl
not_false false h = cc

bool_cases : (b : Bool) → (b ≡ true) ⊎ (b ≡ false)
bool_cases true = inl refl
bool_cases false = inr refl

-- ---- one of a list

-- one that is so, and is in the list
record Picked {X : Type 0} (P : X → Type 0) (xs : List X) : Type 0 where
  one : X
  is : P one
  member : Has (λ x. x ≡ one) xs

pick : {X : Type 0} {P : X → Type 0} {xs : List X} → Has P xs → Picked P xs
pick (here {x = x} h) = record { one = x; is = h; member = here refl }
pick (later h) = let r = pick h in record { one = r.one; is = r.is; member = later r.member }

put : {X : Type 0} {P : X → Type 0} {one : X} {xs : List X} → Has (λ x. x ≡ one) xs → P one → Has P xs
put {P = P} (here e) h = here (subst P (sym e) h)
put (later m) h = later (put m h)

-- one that is so and of which all is true
with_all : {X : Type 0} {P : X → Type 0} (R : X → Type 0) (xs : List X) → All R xs → Has P xs → Has (λ x. R x × P x) xs
with_all {X = X} {P = P} R [] all h = elim h [ ]
with_all R (x ∷ xs) all (here h) = here (All-head R x xs all, h)
with_all R (x ∷ xs) all (later h) = later (with_all R xs (All-tail R x xs all) h)

has_last : {X : Type 0} {P : X → Type 0} (xs : List X) (y : X) → P y → Has P (xs ++ y ∷ [])
has_last [] y h = here h
has_last (x ∷ xs) y h = later (has_last xs y h)

has_cond : {X : Type 0} {P : X → Type 0} (b : Bool) (x y : X) (xs : List X) → ((b ≡ true) × P x) ⊎ Has P (xs ++ y ∷ []) → Has P (cond b (x ∷ xs) xs ++ y ∷ [])
has_cond true x y xs (inl h) = here h.1
has_cond true x y xs (inr h) = later h
has_cond false x y xs (inl h) = (let e = h.0 in cc)
has_cond false x y xs (inr h) = h

-- what isn't kept passes on what it stands for
has_kept : {X : Type 0} {P : X → Type 0} (test : X → Bool) (xs : List X) (y : X) → ((x : X) → test x ≡ false → P x → P y) → Has P xs → Has P (filter test xs ++ y ∷ [])
has_kept {X = X} {P = P} test [] y f h = elim h [ ]
has_kept test (x ∷ xs) y f (here h) =
    elim (bool_cases (test x)) [ inl e ↦ has_cond (test x) x y (filter test xs) (inl (e, h)) | inr e ↦ has_cond (test x) x y (filter test xs) (inr (has_last (filter test xs) y (f x e h))) ]
has_kept test (x ∷ xs) y f (later h) = has_cond (test x) x y (filter test xs) (inr (has_kept test xs y f h))

-- ---- the history

module _ (ts : List Turn) where
  still_before : (k b : ℕ) → StillTouched ts (suc k) b → StillTouched ts k b
  still_before k b s = let late = s.late in record { turn = s.turn; it = s.it; is = s.is; late = omega arith; touch = s.touch }

  -- what is kept of a block that may have gone
  real_if_kept : (k b e : ℕ) (test : Bool) (old : List Seen) → All (Real ts k b e) old → All (Real ts k b e) (cond test [] old)
  real_if_kept k b e true old all = All-nil _
  real_if_kept k b e false old all = all

  -- one that is still touched didn't go
  stays_if : (gone b : ℕ) (old : List Seen) (i : ℕ) (κ : TouchKind) → (gone ≢ b) → Has (Stands ts i κ) old → Has (Stands ts i κ) (if gone == b then [] else old)
  stays_if gone b old i κ ne h = elim (eqb_tells gone b) [ inl t ↦ absurd (ne t.1) | inr t ↦ rw t.0 h ]

  pub forgotten_remembers : (k gone : ℕ) (h : History) → Remembers ts k h → (StillTouched ts k gone → ⊥) → Remembers ts k (forgotten gone h)
  forgotten_remembers k gone h r never = record {
    real = λ b e. real_if_kept k b e (gone == b) (h b e) (r.real b e);
    whole = λ i y is lt b e κ acc m still. stays_if gone b (h b e) i κ (λ same. let F : ℕ → Type 0 = λ n. StillTouched ts k n in never (subst F (sym same) still)) (r.whole i y is lt b e κ acc m still);
  }

  pub first_history_remembers : Remembers ts 0 first_history
  first_history_remembers = record { real = λ b c. All-nil _; whole = λ i y is lt b c κ acc h still. absurd (omega arith) }

  module _ (k : ℕ) (c : Clocks) (s : Sound ts k c) (x : Turn) (at : slice_get ts k ≡ Some x) where
    abbrev pub now : Clock
    now = clock_of c k x

    strictly : (i : ℕ) → i < k → AtOrBefore ts i k → Before ts i k
    strictly i lt (inl e) = (let f = e in absurd (omega arith))
    strictly i lt (inr b) = b

    chained : (i j : ℕ) → AtOrBefore ts i j → Before ts j k → Before ts i k
    chained i j a b = before_trans ts a b

    -- what is known of a turn that was seen is at or before this one
    known : (b e : ℕ) (o : Seen) → Real ts (suc k) b e o → o.turn < now o.thread → AtOrBefore ts o.turn k
    known b e o r lt = (clock_law ts k c s x at o.turn r.turn r.is).0 (rw r.of lt)

    unknown_not : (b e : ℕ) (o : Seen) → Real ts k b e o → now o.thread ≤ o.turn → Before ts o.turn k → ⊥
    unknown_not b e o r le bef = let lt : o.turn < now o.thread = rw r.of at ((clock_law ts k c s x at o.turn r.turn r.is).1 (inr bef)) in omega arith

    unknown_is : (b e : ℕ) (o : Seen) (i : ℕ) → (Before ts i k → ⊥) → Real ts k b e o → AtOrBefore ts i o.turn → (o.turn < now o.thread) ⊎ (now o.thread ≤ o.turn) → now o.thread ≤ o.turn
    unknown_is b e o i never r reach (inr le) = le
    unknown_is b e o i never r reach (inl lt) =
        let p = (clock_law ts k c s x at o.turn r.turn r.is).0 (rw r.of lt) in
        let below = r.below in absurd (never (chained i o.turn reach (strictly o.turn below p)))

    at_or : {i j : ℕ} → AtOrBefore ts i j → AtOrBefore ts j k → AtOrBefore ts i k
    at_or {i} (inl e) q = let F : ℕ → Type 0 = λ n. AtOrBefore ts n k in subst F (sym e) q
    at_or {i} (inr b) (inl e) = let F : ℕ → Type 0 = λ n. AtOrBefore ts i n in subst F e (inr b)
    at_or (inr b) (inr q) = inr (before_trans ts (inr b) q)

    -- what is kept of a touch of this turn
    abbrev pub entry : TouchKind → Seen
    entry κ = record { turn = k; thread = x.thread; kind = κ }

    entry_is_real : (b e : ℕ) (κ : TouchKind) → Has (At b e κ) x.touches → Real ts (suc k) b e (entry κ)
    entry_is_real b e κ h = record { turn = x; is = at; below = omega arith; of = refl; touch = h }

    -- an entry that is forgotten is known and outdone
    passes_on : (b e : ℕ) (κ new : TouchKind) (i : ℕ) → Real ts (suc k) b e (entry new) → (o : Seen) → keeps now new o ≡ false → Real ts (suc k) b e o × Stands ts i κ o → Real ts (suc k) b e (entry new) × Stands ts i κ (entry new)
    passes_on b e κ new i rn o gone (r, st) =
        let both = not_false _ gone in
        let over = first_true _ _ both in
        let lt = (Decides-ltb o.turn (now o.thread)).0 (second_true _ _ both) in
        (rn, record { kinds = λ other h. outdone new o.kind other over (st.kinds other h); reach = at_or st.reach (known b e o r lt) })

    real_if : (b e : ℕ) (κ : TouchKind) (test : Bool) → (test ≡ true → Has (At b e κ) x.touches) → (old : List Seen) → All (Real ts (suc k) b e) old → All (Real ts (suc k) b e) (cond test (noted now (entry κ) old) old)
    real_if b e κ true f old all = All-push (Real ts (suc k) b e) (filter (keeps now κ) old) (entry κ) (All-filter (keeps now κ) (Real ts (suc k) b e) old all) (entry_is_real b e κ (f refl))
    real_if b e κ false f old all = all

    stands_if : (b e : ℕ) (κ new : TouchKind) (i : ℕ) (test : Bool) → (test ≡ true → Has (At b e new) x.touches) → (old : List Seen) → All (Real ts (suc k) b e) old → Has (Stands ts i κ) old →
        Has (Stands ts i κ) (cond test (noted now (entry new) old) old)
    stands_if b e κ new i true f old all h =
        has_map (λ o q. q.1) (has_kept (keeps now new) old (entry new) (passes_on b e κ new i (entry_is_real b e new (f refl))) (with_all (Real ts (suc k) b e) old all h))
    stands_if b e κ new i false f old all h = h

    -- the test of a touch, and what it tells
    tested : (b e : ℕ) (a : Touch) → (is_access a.kind && is_of a b e) ≡ true → At b e a.kind a
    tested b e a h = record { kind_is = refl; there = (reach_tells a b e).0 (second_true _ _ h) }

    is_tested : (b e : ℕ) (κ : TouchKind) (a : Touch) → is_access κ ≡ true → At b e κ a → (is_access a.kind && is_of a b e) ≡ true
    is_tested b e κ a acc h =
        let F : TouchKind → Type 0 = λ z. (is_access z && is_of a b e) ≡ true in
        subst F (sym h.kind_is) (rw acc ((reach_tells a b e).1 h.there))

    abbrev AllReal : History → Type 0
    AllReal h = (b e : ℕ) → All (Real ts (suc k) b e) (h b e)

    abbrev Within : List Touch → Type 0
    Within rest = (b e : ℕ) (κ : TouchKind) → Has (At b e κ) rest → Has (At b e κ) x.touches

    real_saw : (a : Touch) (rest : List Touch) → Within (a ∷ rest) → (h : History) → AllReal h → AllReal (saw now k x.thread a h)
    real_saw a rest ins h all b e = real_if b e a.kind (is_access a.kind && is_of a b e) (λ t. ins b e a.kind (here (tested b e a t))) (h b e) (all b e)

    real_all : (rest : List Touch) → Within rest → (h : History) → AllReal h → AllReal (saw_all now k x.thread rest h)
    real_all [] ins h all = all
    real_all (a ∷ rest) ins h all = real_all rest (λ b e κ m. ins b e κ (later m)) (saw now k x.thread a h) (real_saw a rest ins h all)

    stands_all : (rest : List Touch) → Within rest → (h : History) → AllReal h → (b e i : ℕ) (κ : TouchKind) → Has (Stands ts i κ) (h b e) → Has (Stands ts i κ) (saw_all now k x.thread rest h b e)
    stands_all [] ins h all b e i κ m = m
    stands_all (a ∷ rest) ins h all b e i κ m =
        stands_all rest (λ b e κ m. ins b e κ (later m)) (saw now k x.thread a h) (real_saw a rest ins h all) b e i κ
        (stands_if b e κ a.kind i (is_access a.kind && is_of a b e) (λ t. ins b e a.kind (here (tested b e a t))) (h b e) (all b e) m)

    new_if : (κ new : TouchKind) (test : Bool) (old : List Seen) → test ≡ true → new ≡ κ → Has (Stands ts k κ) (cond test (noted now (entry new) old) old)
    new_if κ new true old is e = has_last (filter (keeps now new) old) (entry new) (record { kinds = λ other h. (let F : TouchKind → Type 0 = λ z. clash z other ≡ true in subst F (sym e) h); reach = inl refl })
    new_if κ new false old is e = (cc)

    new_all : (b e : ℕ) (κ : TouchKind) → is_access κ ≡ true → (rest : List Touch) → Within rest → (h : History) → AllReal h → Has (At b e κ) rest → Has (Stands ts k κ) (saw_all now k x.thread rest h b e)
    new_all b e κ acc [] ins h all m = absurd (no_has m)
    new_all b e κ acc (a ∷ rest) ins h all m =
        elim (has_cases m) [
          | inl g ↦ stands_all rest (λ b e κ m. ins b e κ (later m)) (saw now k x.thread a h) (real_saw a rest ins h all) b e k κ (new_if κ a.kind (is_access a.kind && is_of a b e) (h b e) (is_tested b e κ a acc g) g.kind_is)
          | inr g ↦ new_all b e κ acc rest (λ b e κ m. ins b e κ (later m)) (saw now k x.thread a h) (real_saw a rest ins h all) g
        ]

    module _ (h : History) (r : Remembers ts k h) where
      real_more : AllReal h
      real_more b e = All-weaker (Real ts k b e) (Real ts (suc k) b e) (λ o q. record { turn = q.turn; is = q.is; below = (let lt = q.below in omega arith); of = q.of; touch = q.touch }) (h b e) (r.real b e)

      whole_at : (i : ℕ) (y : Turn) → slice_get ts i ≡ Some y → (i ≡ k) ⊎ (i < k) → (b e : ℕ) (κ : TouchKind) → is_access κ ≡ true → Has (At b e κ) y.touches → StillTouched ts (suc k) b → Has (Stands ts i κ) (saw_all now k x.thread x.touches h b e)
      whole_at i y is (inl same) b e κ acc m still =
          let at_i : slice_get ts i ≡ Some x = rw same at in
          let F : Turn → Type 0 = λ z. Has (At b e κ) z.touches in
          let G : ℕ → Type 0 = λ n. Has (Stands ts n κ) (saw_all now k x.thread x.touches h b e) in
          subst G (sym same) (new_all b e κ acc x.touches (λ b e κ m. m) h real_more (subst F (some_one is at_i) m))
      whole_at i y is (inr lt) b e κ acc m still = stands_all x.touches (λ b e κ m. m) h real_more b e i κ (r.whole i y is lt b e κ acc m (still_before k b still))

      pub remembers_after : Remembers ts (suc k) (saw_all now k x.thread x.touches h)
      remembers_after = record {
        real = real_all x.touches (λ b e κ m. m) h real_more;
        whole = λ i y is lt. whole_at i y is (eq-or-lt_of_le (omega arith));
      }

      -- ---- races

      caught_at : (a : Touch) → Has (λ z. z ≡ a) x.touches → Caught now h a → Second ts k
      caught_at a m c =
          let w = pick (with_all (Real ts k a.block c.cell) (h a.block c.cell) (r.real a.block c.cell) c.by) in
          let o = w.one in
          let y = w.is.0 in
          let not_before = unknown_not a.block c.cell o y w.is.1.unknown in
          let below = y.below in
          record {
            turn = o.turn;
            race = record {
              first = y.turn;
              second = x;
              first_is = y.is;
              second_is = at;
              earlier = below;
              conflict = record {
                apart = λ e. not_before (at_once (record { first = y.turn; second = x; first_is = y.is; second_is = at; earlier = below; orders = same_thread e }));
                touches = has_map (λ z q. put m (record { kinds = (let e = q.kind_is in let f = w.is.1.kinds in rw e f); cell = record { block = a.block; cell = c.cell; first = q.there; second = c.there } })) y.touch;
              };
              unordered = not_before;
            };
          }

      -- a touch that is caught shows a race
      pub caught_is_second : Has (Caught now h) x.touches → Second ts k
      caught_is_second m = let p = pick m in caught_at p.one p.member p.is

      first_access : (κ μ : TouchKind) → clash κ μ ≡ true → is_access κ ≡ true
      first_access κ μ e = first_true _ _ (first_true _ _ e)

      second_access : (κ μ : TouchKind) → clash κ μ ≡ true → is_access μ ≡ true
      second_access κ μ e = second_true _ _ (first_true _ _ e)

      still_by : (a : Touch) → Has (λ q. q ≡ a) x.touches → (b : ℕ) → is_access a.kind ≡ true → a.block ≡ b → StillTouched ts k b
      still_by a n b acc e = record { turn = k; it = x; is = at; late = omega arith; touch = put n (record { access = acc; in_block = e }) }

      clash_is_caught : (i : ℕ) (y : Turn) → slice_get ts i ≡ Some y → i < k → (Before ts i k → ⊥) → (z a : Touch) → Has (λ q. q ≡ z) y.touches → Has (λ q. q ≡ a) x.touches → Clash z a → Caught now h a
      clash_is_caught i y is lt never z a m n g =
          let b = g.cell.block in
          let e = g.cell.cell in
          let old = r.whole i y is lt b e z.kind (first_access z.kind a.kind g.kinds) (put m (record { kind_is = refl; there = g.cell.first })) (still_by a n b (second_access z.kind a.kind g.kinds) g.cell.second.in_block) in
          let F : ℕ → Type 0 = λ n. Has (Clashes now a.kind) (h n e) in
          record {
            cell = e;
            there = record { in_block = refl; from_here = g.cell.second.from_here; up_to = g.cell.second.up_to };
            by = subst F (sym g.cell.second.in_block) (has_map (λ o q. record { kinds = q.1.kinds a.kind g.kinds; unknown = unknown_is b e o i never q.0 q.1.reach (cases_lt o.turn (now o.thread)) }) (with_all (Real ts k b e) (h b e) (r.real b e) old));
          }

      -- the second of a race is caught
      pub second_is_caught : Second ts k → Has (Caught now h) x.touches
      second_is_caught q =
          let d = q.race in
          let F : Turn → Type 0 = λ z. Pair Clash d.first z in
          let p = pick (subst F (some_one d.second_is at) d.conflict.touches) in
          let n = pick p.is in
          put n.member (clash_is_caught q.turn d.first d.first_is d.earlier d.unordered p.one n.one p.member n.member n.is)

module _ (ts : List Turn) where
  pub after_nothing : After ts 0 first_clocks first_history
  after_nothing = record { clocks = first_clocks_are_sound ts; history = first_history_remembers ts; clean = λ j lt s. absurd (omega arith) }

  module _ (k : ℕ) (c : Clocks) (h : History) (a : After ts k c h) (x : Turn) (at : slice_get ts k ≡ Some x) where
    abbrev pub this_clock : Clock
    this_clock = clock_of c k x

    -- a turn is the second of a race exactly where one of its touches is caught
    pub caught_exactly : (Has (Caught this_clock h) x.touches → Second ts k) × (Second ts k → Has (Caught this_clock h) x.touches)
    caught_exactly = (caught_is_second ts k c a.clocks x at h a.history, second_is_caught ts k c a.clocks x at h a.history)

    clean_at : (Has (Caught this_clock h) x.touches → ⊥) → (j : ℕ) → (j ≡ k) ⊎ (j < k) → Second ts j → ⊥
    clean_at never j (inl e) s = let F : ℕ → Type 0 = λ n. Second ts n in never (caught_exactly.1 (subst F e s))
    clean_at never j (inr lt) s = a.clean j lt s

    pub after_turn : (Has (Caught this_clock h) x.touches → ⊥) → After ts (suc k) (after c k x) (saw_all this_clock k x.thread x.touches h)
    after_turn never = record {
      clocks = after_is_sound ts k c a.clocks x at;
      history = remembers_after ts k c a.clocks x at h a.history;
      clean = λ j lt. clean_at never j (eq-or-lt_of_le (omega arith));
    }

  -- a block that is touched no more may go
  pub after_going : (k gone : ℕ) (c : Clocks) (h : History) → After ts k c h → (StillTouched ts k gone → ⊥) → After ts k c (forgotten gone h)
  after_going k gone c h a never = record { clocks = a.clocks; history = forgotten_remembers ts k gone h a.history never; clean = a.clean }
