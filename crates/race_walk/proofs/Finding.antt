-- The race that is found.
use Rattle.std.proofs.Common.{◌≡◌, ◌↔◌, ℕ, suc, ◌+◌, ◌<◌, ◌≤◌, max, min, Bool, true, false, inl, inr, List, [], ◌∷◌, length, drop, get_or, slice_get, Option, Some, None, MatchOption, refl, sym, ap, subst, arith, ◌∙◌}
use Rattle.std.specs.List.{list_any}
use Rattle.std.specs.Option.{option_map}
use Rattle.std.proofs.lemmas.Bool.{ltb-true, lt-ltb, eqb-true, eq-eqb, cases_lt}
use Rattle.std.proofs.Math.Seq.{drop-cons}
use Rattle.std.proofs.lemmas.List.{length-map}
use Rattle.std.proofs.lemmas.Option.{slice_get-map, slice_get_within, slice_get_read, slice_get_cases}
use Rattle.race_rules.specs.declared.touch.Touch.{Touch}
use Rattle.race_rules.specs.Turns.{Turn, Has}
use Rattle.race_rules.specs.Turns.Has.{here, later}
use Rattle.race_rules.specs.Races.{Clash, Race, Second}
use Rattle.race_rules.specs.Shown.{FirstOf, ClashesOne, Shows, Shown}
use Rattle.race_rules.specs.Shown.FirstOf.{first_here, first_later}
use Rattle.race_rules.specs.Clocks.{Clock, Clocks, AtOrBefore, clock_of}
use Rattle.race_rules.specs.Sound.{Sound}
use Rattle.race_rules.specs.Histories.{History, After}
use Rattle.race_rules.proofs.Touching.{no_has, has_cases}
use Rattle.race_rules.proofs.Knowing.{some_one}
use Rattle.race_rules.proofs.Clashing.{some_turned}
use Rattle.race_rules.proofs.Walks.{race_tells, told_race, clocks_know}
use Rattle.race_walk.specs.declared.step.Step.{Step}
use Rattle.race_walk.specs.Views.{told_by, this_turn, clash_test}
use Rattle.race_walk.specs.declared.step.Found.{Found}
use Rattle.race_walk.specs.declared.second.SecondTurn.{SecondTurn}
use Rattle.race_walk.specs.Seconds.{IsTurnOf}
use Rattle.race_walk.specs.Steps.{turn_of, turns_of, IsRace, IsFirstWith, IsFound}
use Rattle.race_walk.proofs.Turning.{first_true, second_true, both_true, or_cases, or_first, or_second, false_true}

-- ---- tests

any_has : {X : Type 0} (test : X → Bool) (P : X → Type 0) → ((x : X) → test x ≡ true → P x) → (xs : List X) → list_any test xs ≡ true → Has P xs
any_has test P f [] h = (cc)
any_has test P f (x ∷ xs) h = elim (or_cases (test x) (list_any test xs) h) [ inl e ↦ here (f x e) | inr e ↦ later (any_has test P f xs e) ]

has_any : {X : Type 0} (test : X → Bool) (P : X → Type 0) → ((x : X) → P x → test x ≡ true) → (xs : List X) → Has P xs → list_any test xs ≡ true
has_any test P f [] h = absurd (no_has h)
has_any test P f (x ∷ xs) h = elim (has_cases h) [ inl e ↦ or_first (test x) (list_any test xs) (f x e) | inr e ↦ or_second (test x) (list_any test xs) (has_any test P f xs e) ]

test_clash : (a b : Touch) → clash_test a b ≡ true → Clash a b
test_clash a b h =
    let front = first_true _ _ h in
    let e = eqb-true a.block b.block (second_true _ _ front) in
    let lt = ltb-true (max a.from b.from) (min a.to b.to) (second_true _ _ h) in
    record {
      kinds = first_true _ _ front;
      cell = record {
        block = a.block;
        cell = max a.from b.from;
        first = record { in_block = refl; from_here = omega arith; up_to = omega arith };
        second = record { in_block = sym e; from_here = omega arith; up_to = omega arith };
      };
    }

clash_test_is : (a b : Touch) → Clash a b → clash_test a b ≡ true
clash_test_is a b c =
    let p = c.cell.first.in_block in
    let q = c.cell.second.in_block in
    let low1 = c.cell.first.from_here in
    let low2 = c.cell.second.from_here in
    let high1 = c.cell.first.up_to in
    let high2 = c.cell.second.up_to in
    both_true _ _ (both_true _ _ c.kinds (eq-eqb a.block b.block (p ∙ sym q))) (lt-ltb (max a.from b.from) (min a.to b.to) (omega arith))

pub any_clash : (a : Touch) (ys : List Touch) → list_any (clash_test a) ys ≡ true → ClashesOne ys a
any_clash a ys h = any_has (clash_test a) (Clash a) (test_clash a) ys h

pub no_clash : (a : Touch) (ys : List Touch) → list_any (clash_test a) ys ≡ false → ClashesOne ys a → ⊥
no_clash a ys h g = false_true (list_any (clash_test a) ys) h (has_any (clash_test a) (Clash a) (clash_test_is a) ys g)

-- ---- the first of a list

pub first_has : {X : Type 0} (P : X → Type 0) (xs : List X) (y : X) → FirstOf P xs y → Has P xs
first_has P _ y (first_here h) = here h
first_has P _ y (first_later n f) = later (first_has P _ y f)

pub item_first : (P : Touch → Type 0) (xs : List Touch) (i : ℕ) (d : Touch) → i < length xs → P (get_or xs i d) → FirstOf P (drop i xs) (get_or xs i d)
item_first P xs i d h p = let F : List Touch → Type 0 = λ l. FirstOf P l (get_or xs i d) in subst F (sym (drop-cons xs i d h)) (first_here p)

pub rest_first : (P : Touch → Type 0) (xs : List Touch) (i : ℕ) (d y : Touch) → i < length xs → (P (get_or xs i d) → ⊥) → FirstOf P (drop (i + 1) xs) y → FirstOf P (drop i xs) y
rest_first P xs i d y h never m =
    let F : List Touch → Type 0 = λ l. FirstOf P l y in
    let G : ℕ → Type 0 = λ n. FirstOf P (drop n xs) y in
    let f : i + 1 ≡ suc i = omega arith in subst F (sym (drop-cons xs i d h)) (first_later never (subst G f m))

-- ---- a race with a turn whose clock is known

module _ (ts : List Turn) (j : ℕ) (x : Turn) (at : slice_get ts j ≡ Some x) (v : Clock) (knows : (i : ℕ) (y : Turn) → slice_get ts i ≡ Some y → (i < v y.thread) ↔ AtOrBefore ts i j)
    (i : ℕ) (y : Turn) (is : slice_get ts i ≡ Some y) (lt : i < j) where
  pub known_none : i < v y.thread → Race ts i j → ⊥
  known_none h r = let p = race_tells ts j v x at knows i y is lt r in let le = p.1 in omega arith

  pub clash_none : (Has (ClashesOne x.touches) y.touches → ⊥) → Race ts i j → ⊥
  clash_none never r = let p = race_tells ts j v x at knows i y is lt r in never p.0

  shown_of : (a b : Touch) → Race ts i j → Shows y x a b → Shown ts i j a b
  shown_of a b r s =
      let F : Turn → Type 0 = λ z. Shows z x a b in
      let G : Turn → Type 0 = λ z. Shows r.first z a b in
      record { race = r; touches = subst G (sym (some_one r.second_is at)) (subst F (sym (some_one r.first_is is)) s) }

  shows : (a b : Touch) → (FirstOf (ClashesOne x.touches) y.touches a) × (FirstOf (ClashesOne y.touches) x.touches b) → Shows y x a b
  shows a b f = record { first = f.0; second = f.1 }

  pub told_shown : (a b : Touch) → v y.thread ≤ i → (FirstOf (ClashesOne x.touches) y.touches a) × (FirstOf (ClashesOne y.touches) x.touches b) → Shown ts i j a b
  told_shown a b le f = shown_of a b (told_race ts j v x at knows i y is lt (first_has (ClashesOne x.touches) y.touches a f.0, le)) (shows a b f)

  pub answered : (o : Option (Touch × Touch)) → v y.thread ≤ i → MatchOption o (Has (ClashesOne x.touches) y.touches → ⊥) (λ p. (FirstOf (ClashesOne x.touches) y.touches p.0) × (FirstOf (ClashesOne y.touches) x.touches p.1)) →
      MatchOption o (Race ts i j → ⊥) (λ p. Shown ts i j p.0 p.1)
  answered None le m = clash_none m
  answered (Some p) le m = told_shown p.0 p.1 le m

-- ---- the list

pub turn_at : (steps : List Step) (i : ℕ) (s : Step) → slice_get steps i ≡ Some s → slice_get (turns_of steps) i ≡ Some (turn_of s)
turn_at steps i s is = let F : Option Step → Option Turn = λ o. option_map turn_of o in slice_get-map turn_of steps i ∙ ap F is

pub below_length : (steps : List Step) (i : ℕ) (x : Turn) → slice_get (turns_of steps) i ≡ Some x → i < length steps
below_length steps i x is = let h = slice_get_within (turns_of steps) i x is in let e = length-map steps turn_of in omega (arith, h, e)

record Held (steps : List Step) (i : ℕ) : Type 0 where
  step : Step
  is : slice_get steps i ≡ Some step

held : (steps : List Step) (i : ℕ) → i < length steps → Held steps i
held steps i h = elim (slice_get_cases steps i).1 [ inl x ↦ record { step = x.0; is = x.2 } | inr x ↦ (let le = x.0 in absurd (omega arith)) ]

pub item_at : (steps : List Step) (i : ℕ) (s : Step) → i < length steps → s ≡ get_or steps i s → slice_get steps i ≡ Some s
item_at steps i s h e = slice_get_read steps (length steps) i s refl h e

-- the turn that the walk is told
pub told_at : (steps : List Step) (i n : ℕ) (s : Step) (all : List Touch) → i < length steps → s ≡ get_or steps i s → n ≡ i → all ≡ s.touches.items → slice_get (turns_of steps) n ≡ Some (record { thread = s.thread; touches = all })
told_at steps i n s all h e same items =
    let F : ℕ → Type 0 = λ m. slice_get (turns_of steps) m ≡ Some (record { thread = s.thread; touches = all }) in
    let G : List Touch → Type 0 = λ l. slice_get (turns_of steps) i ≡ Some (record { thread = s.thread; touches = l }) in
    subst F (sym same) (subst G (sym items) (turn_at steps i s (item_at steps i s h e)))

pub none_of_all : (steps : List Step) (n : ℕ) (c : Clocks) (h : History) → After (turns_of steps) n c h → length steps ≤ n → (j : ℕ) → Second (turns_of steps) j → ⊥
none_of_all steps n c h a le j q =
    let d = q.race in
    let lt = below_length steps j d.second d.second_is in a.clean j (omega arith) q

-- the turn lies in the list
pub second_within : (steps : List Step) (s : SecondTurn) → IsTurnOf (turns_of steps) s → s.turn < length steps
second_within steps s t = below_length steps s.turn (this_turn s.thread s.touches.items) t.at

-- the turns of a race that is shown
pub same_thread_of : (ts : List Turn) (i : ℕ) (x y : Turn) → slice_get ts i ≡ Some x → slice_get ts i ≡ Some y → x.thread ≡ y.thread
same_thread_of ts i x y p q = ap (λ (z : Turn). z.thread) (some_one p q)

pub race_is : (ts : List Turn) (f : Found) (y x : Turn) → slice_get ts f.first.turn ≡ Some y → slice_get ts f.second.turn ≡ Some x → f.first.thread ≡ y.thread → f.second.thread ≡ x.thread →
    Shown ts f.first.turn f.second.turn f.first.touch f.second.touch → IsRace ts f
race_is ts f y x p q e g s = record {
  shown = s;
  first_thread = e ∙ same_thread_of ts f.first.turn y s.race.first p s.race.first_is;
  second_thread = g ∙ same_thread_of ts f.second.turn x s.race.second q s.race.second_is;
}

-- the first race, where its second turn is known
pub found_is : (ts : List Turn) (n : ℕ) (c : Clocks) (h : History) (f : Found) → After ts n c h → IsFirstWith ts n f → IsFound ts f
found_is ts n c h f a w =
    let F : ℕ → Type 0 = λ m. ((k : ℕ) → k < m → Second ts k → ⊥) × ((k : ℕ) → k < f.first.turn → Race ts k m → ⊥) in
    let both = subst F (sym w.second) (a.clean, w.none_below) in
    record { is = w.is; first = record { race = w.is.shown.race; no_sooner = both.0; none_below = both.1 } }

pub answer_is : (ts : List Turn) (n m : ℕ) (c : Clocks) (h : History) (o : Option Found) → After ts n c h → Second ts n → m ≡ n → MatchOption o ((i : ℕ) → Race ts i m → ⊥) (IsFirstWith ts m) →
    MatchOption o ((j : ℕ) → Second ts j → ⊥) (IsFound ts)
answer_is ts n m c h None a s e p = let F : ℕ → Type 0 = λ z. Race ts s.turn z in absurd (p s.turn (subst F (sym e) s.race))
answer_is ts n m c h (Some f) a s e p = let F : ℕ → Type 0 = λ z. IsFirstWith ts z f in found_is ts n c h f a (subst F e p)

-- ---- the answers of the calls

pub none_turned : (xs ys : List Touch) → (Has (ClashesOne xs) ys → ⊥) → Has (ClashesOne ys) xs → ⊥
none_turned xs ys never h = never (some_turned xs ys h)

pub race_answer : (ts : List Turn) (s : SecondTurn) (turn thread : ℕ) (all others : List Touch) (w : List ℕ) (known : ℕ) (o : Option (Touch × Touch)) → known ≤ turn → known ≡ told_by w thread → w ≡ s.clock.items → others ≡ s.touches.items →
    MatchOption o (Has (ClashesOne others) all → ⊥) (λ p. (FirstOf (ClashesOne others) all p.0) × (FirstOf (ClashesOne all) others p.1)) → IsTurnOf ts s → turn < s.turn → slice_get ts turn ≡ Some (this_turn thread all) →
    MatchOption o (Race ts turn s.turn → ⊥) (λ p. Shown ts turn s.turn p.0 p.1)
race_answer ts s turn thread all others w known o le e clock same m t lt is =
    let F : List ℕ → Type 0 = λ l. told_by l thread ≤ turn in
    let G : List Touch → Type 0 = λ l. MatchOption o (Has (ClashesOne l) all → ⊥) (λ p. (FirstOf (ClashesOne l) all p.0) × (FirstOf (ClashesOne all) l p.1)) in
    let most : told_by w thread ≤ turn = omega (arith, le, e) in
    answered ts s.turn (this_turn s.thread s.touches.items) t.at (told_by s.clock.items) t.knows turn (this_turn thread all) is lt o (subst F clock most) (subst G same m)

pub known_answer : (ts : List Turn) (s : SecondTurn) (turn thread : ℕ) (all : List Touch) (w : List ℕ) (known : ℕ) → turn < known → known ≡ told_by w thread → w ≡ s.clock.items → IsTurnOf ts s → turn < s.turn → slice_get ts turn ≡ Some (this_turn thread all) → Race ts turn s.turn → ⊥
known_answer ts s turn thread all w known lt e clock t below is =
    let F : List ℕ → Type 0 = λ l. turn < told_by l thread in
    let more : turn < told_by w thread = omega (arith, lt, e) in
    known_none ts s.turn (this_turn s.thread s.touches.items) t.at (told_by s.clock.items) t.knows turn (this_turn thread all) is below (subst F clock more)

-- one of the turns before
pub first_answer : (steps : List Step) (s : SecondTurn) (turn : ℕ) (x : Step) (all : List Touch) (one other : Touch) → IsTurnOf (turns_of steps) s → turn < s.turn → x ≡ get_or steps turn x → all ≡ x.touches.items →
    ((ts : List Turn) → IsTurnOf ts s → turn < s.turn → slice_get ts turn ≡ Some (this_turn x.thread all) → Shown ts turn s.turn one other) → ((k : ℕ) → k < turn → Race (turns_of steps) k s.turn → ⊥) →
    IsFirstWith (turns_of steps) s.turn (record { first = record { turn = turn; thread = x.thread; touch = one }; second = record { turn = s.turn; thread = s.thread; touch = other } })
first_answer steps s turn x all one other t lt e same f none =
    let within = second_within steps s t in
    let is = told_at steps turn turn x all (omega (arith, lt, within)) e refl same in
    record { is = race_is (turns_of steps) _ (this_turn x.thread all) (this_turn s.thread s.touches.items) is t.at refl refl (f (turns_of steps) t lt is); second = refl; none_below = none }

pub next_none : (steps : List Step) (s : SecondTurn) (turn : ℕ) (x : Step) (all : List Touch) → IsTurnOf (turns_of steps) s → turn < s.turn → x ≡ get_or steps turn x → all ≡ x.touches.items →
    ((ts : List Turn) → IsTurnOf ts s → turn < s.turn → slice_get ts turn ≡ Some (this_turn x.thread all) → Race ts turn s.turn → ⊥) → ((k : ℕ) → k < turn → Race (turns_of steps) k s.turn → ⊥) →
    (k : ℕ) → k < turn + 1 → Race (turns_of steps) k s.turn → ⊥
next_none steps s turn x all t lt e same f none k below r =
    let within = second_within steps s t in
    let is = told_at steps turn turn x all (omega (arith, lt, within)) e refl same in
    elim (cases_lt k turn) [
      | inl less ↦ none k less r
      | inr le ↦ (let this : k ≡ turn = omega (arith, le, below) in let F : ℕ → Type 0 = λ n. Race (turns_of steps) n s.turn in f (turns_of steps) t lt is (subst F this r))
    ]

pub none_at_all : (ts : List Turn) (j turn : ℕ) → j ≤ turn → ((k : ℕ) → k < turn → Race ts k j → ⊥) → (i : ℕ) → Race ts i j → ⊥
none_at_all ts j turn le none i r = let lt = r.earlier in none i (omega (arith, lt, le)) r

-- what a clock knows that is the turn's at each thread
clock_tells : (ts : List Turn) (k : ℕ) (c : Clocks) (n : ℕ) (x : Turn) (v : Clock) → Sound ts k c → slice_get ts k ≡ Some x → n ≡ k → ((t : ℕ) → v t ≡ clock_of c k x t) →
    (i : ℕ) (y : Turn) → slice_get ts i ≡ Some y → (i < v y.thread) ↔ AtOrBefore ts i n
clock_tells ts k c n x v s at e told i y is =
    let law = clocks_know ts k c x s at i y is in
    let q = told y.thread in
    let F : ℕ → Type 0 = λ m. AtOrBefore ts i m in
    (λ h. subst F (sym e) (law.0 (omega (arith, h, q))), λ b. let p = law.1 (subst F e b) in omega (arith, p, q))

-- the turn that a walk comes to, with its clock
pub turn_with_clock : (ts : List Turn) (k : ℕ) (c : Clocks) (h : History) (s : SecondTurn) (all : List Touch) → After ts k c h → slice_get ts k ≡ Some (this_turn s.thread all) → s.turn ≡ k → s.touches.items ≡ all →
    ((t : ℕ) → told_by s.clock.items t ≡ clock_of c k (this_turn s.thread all) t) → IsTurnOf ts s
turn_with_clock ts k c h s all a at e same told =
    let F : ℕ → Type 0 = λ n. slice_get ts n ≡ Some (this_turn s.thread s.touches.items) in
    let G : List Touch → Type 0 = λ l. slice_get ts k ≡ Some (this_turn s.thread l) in
    record { at = subst F (sym e) (subst G (sym same) at); knows = clock_tells ts k c s.turn (this_turn s.thread all) (told_by s.clock.items) a.clocks at e told }
