-- The next turn of a thread, under the answer that it takes.
use Rattle.std.proofs.Common.{◌≡◌, ◌<◌, ◌≤◌, ◌==◌, ℕ, Bool, true, false, if◌then◌else◌, length, Option, Some, None, IsSome, is_some, ℤ, refl, sym, ap, subst, ◌∙◌, arith}
use Rattle.std.specs.Prelude.{nat_lt, MatchOption, ⊤}
use Rattle.block_store.specs.declared.values.Answer.{Answer}
use Rattle.block_store.specs.declared.values.Answer.TheVariants as answers
use Rattle.block_store.specs.Actions.{World}
use Rattle.block_store.specs.Runs.{Program, State, Pick, Turn, went, ended, blocked, unfit, broke, own_at, turn_if, picked}
use Rattle.c_tree.specs.Typed.{Typed}
use Rattle.c_meaning.specs.Control.{Control}
use Rattle.c_meaning.specs.Meaning.{program}
use Rattle.block_meaning.specs.declared.running.Turned.{Turned}
use Rattle.block_meaning.specs.declared.running.Turned.TheVariants as turneds
use Rattle.block_meaning.specs.Asking.{Wish, nothing, some_bytes, too_many_bytes, a_thread, wish_by_none, wish_by_got, wish_by, told, wish, size_of_last, AreAsked}
use Rattle.block_meaning.specs.Running.{answered_if, ended_by, ended_with, left_by}
use Rattle.rule_check.specs.Seeded.{is_blocked, answer_to}
use Rattle.rule_check.specs.inner.Steps.{waits, IsTried}

-- ---- the answer

if_lt : (a b : ℕ) → a < b → nat_lt a b ≡ true
if_lt a b h = grind arith

if_le : (a b : ℕ) → b ≤ a → nat_lt a b ≡ false
if_le a b h = grind arith

by_size : (made n : ℕ) (b : Bool) → nat_lt 16777216 n ≡ b → (if b then answers.None else answers.Got) ≡ answer_to made (some_bytes n)
by_size made n b e = ap (λ (x : Bool). if x then answers.None else answers.Got) (sym e)

-- what asks for many bytes gets none, and what asks for few gets them
pub large : (made n : ℕ) (w : Wish) → 16777216 < n → AreAsked w (Some n) → answers.None ≡ answer_to made w
large made n nothing h are = absurd (cc are)
large made n (some_bytes m) h are = let same : n ≡ m = cc are in by_size made m true (subst (λ k. nat_lt 16777216 k ≡ true) same (if_lt 16777216 n h))
large made n too_many_bytes h are = refl
large made n a_thread h are = absurd (cc are)

pub small : (made n : ℕ) (w : Wish) → n ≤ 16777216 → AreAsked w (Some n) → answers.Got ≡ answer_to made w
small made n nothing h are = absurd (cc are)
small made n (some_bytes m) h are = let same : n ≡ m = cc are in by_size made m false (subst (λ k. nat_lt 16777216 k ≡ false) same (if_le 16777216 n h))
small made n too_many_bytes h are = absurd (omega (arith, h, are))
small made n a_thread h are = absurd (cc are)

-- the next thread is made while there are few
pub few : (made : ℕ) → made < 64 → answers.Got ≡ answer_to made a_thread
few made h = ap (λ (x : Bool). if x then answers.Got else answers.None) (sym (if_lt made 64 h))

pub many : (made : ℕ) → 64 ≤ made → answers.None ≡ answer_to made a_thread
many made h = ap (λ (x : Bool). if x then answers.Got else answers.None) (sym (if_le made 64 h))

-- ---- what a turn comes to

-- one that has come to this waits or doesn't
end_waits : (is_main : Bool) (value : Option ℤ) (t : Turned) → ended_by is_main value ≡ Some t → false ≡ waits t
end_waits true None t e = absurd (cc e)
end_waits true (Some z) t e = let same : turneds.Ended z ≡ t = cc e in subst (λ (x : Turned). false ≡ waits x) same refl
end_waits false value t e = let same : turneds.Went ≡ t = cc e in subst (λ (x : Turned). false ≡ waits x) same refl

pub waits_as : (thread : ℕ) (o : Option (Turn Control)) (t : Turned) → answered_if thread o ≡ Some t → is_blocked o ≡ waits t
waits_as thread None t e = absurd (cc e)
waits_as thread (Some (went own w)) t e = let same : turneds.Went ≡ t = cc e in subst (λ (x : Turned). false ≡ waits x) same refl
waits_as thread (Some (ended w)) t e = end_waits (thread == 0) (ended_with w 0) t e
waits_as thread (Some blocked) t e = let same : turneds.Blocked ≡ t = cc e in subst (λ (x : Turned). true ≡ waits x) same refl
waits_as thread (Some unfit) t e = let same : turneds.Unfit ≡ t = cc e in subst (λ (x : Turned). false ≡ waits x) same refl
waits_as thread (Some (broke rule place)) t e = let same : turneds.Broke rule place ≡ t = cc e in subst (λ (x : Turned). false ≡ waits x) same refl

-- one that waits leaves the state as it was
end_goes : (is_main : Bool) (value : Option ℤ) → ended_by is_main value ≡ Some turneds.Blocked → ⊥
end_goes true None e = absurd (cc e)
end_goes true (Some z) e = absurd (cc e)
end_goes false value e = absurd (cc e)

pub waiting_stays : (typed : Typed) (s : State Control) (thread : ℕ) (o : Option (Turn Control)) → answered_if thread o ≡ Some turneds.Blocked → left_by typed s thread o ≡ s
waiting_stays typed s thread None e = absurd (cc e)
waiting_stays typed s thread (Some (went own w)) e = absurd (cc e)
waiting_stays typed s thread (Some (ended w)) e = absurd (end_goes (thread == 0) (ended_with w 0) e)
waiting_stays typed s thread (Some blocked) e = refl
waiting_stays typed s thread (Some unfit) e = absurd (cc e)
waiting_stays typed s thread (Some (broke rule place)) e = absurd (cc e)

-- what takes Plain asks for nothing
plain_wish : (w : World) (thread : ℕ) (o granted refused : Option (Turn Control)) (t : Turned) → answered_if thread o ≡ Some t → (t ≡ turneds.Unfit → ⊥) → wish_by w o granted refused ≡ nothing
plain_wish w thread None granted refused t e not = refl
plain_wish w thread (Some (went own after)) granted refused t e not = refl
plain_wish w thread (Some (ended after)) granted refused t e not = refl
plain_wish w thread (Some blocked) granted refused t e not = refl
plain_wish w thread (Some unfit) granted refused t e not = absurd (not (cc e))
plain_wish w thread (Some (broke rule place)) granted refused t e not = refl

-- a turn that takes Plain
pub plain_tried : (typed : Typed) (s after : State Control) (thread : ℕ) (t : Turned) → answered_if thread (told (program typed) s thread answers.Plain) ≡ Some t → after ≡ left_by typed s thread (told (program typed) s thread answers.Plain) → (t ≡ turneds.Unfit → ⊥)
    → IsTried typed s thread answers.Plain t after
plain_tried typed s after thread t e left not =
    let P = program typed in
    let none : wish P s thread ≡ nothing = plain_wish s.world thread (told P s thread answers.Plain) (told P s thread answers.Got) (told P s thread answers.None) t e not in
    let as_told : answers.Plain ≡ answer_to (length s.own) (wish P s thread) = ap (answer_to (length s.own)) (sym none) in
    record {
      told_so = as_told;
      says = subst (λ (a : Answer). answered_if thread (told P s thread a) ≡ Some t) as_told e;
      leaves = subst (λ (a : Answer). after ≡ left_by typed s thread (told P s thread a)) as_told left;
      as_plain = waits_as thread (told P s thread answers.Plain) t e;
    }

-- ---- a turn that doesn't take Plain

end_fits : (is_main : Bool) (value : Option ℤ) → ended_by is_main value ≡ Some turneds.Unfit → ⊥
end_fits true None e = absurd (cc e)
end_fits true (Some z) e = absurd (cc e)
end_fits false value e = absurd (cc e)

is_unfit : (thread : ℕ) (o : Option (Turn Control)) → answered_if thread o ≡ Some turneds.Unfit → o ≡ Some unfit
is_unfit thread None e = absurd (cc e)
is_unfit thread (Some (went own w)) e = absurd (cc e)
is_unfit thread (Some (ended w)) e = absurd (end_fits (thread == 0) (ended_with w 0) e)
is_unfit thread (Some blocked) e = absurd (cc e)
is_unfit thread (Some unfit) e = refl
is_unfit thread (Some (broke rule place)) e = absurd (cc e)

if_asks : (b : Bool) (n : ℕ) → (if b then some_bytes n else a_thread) ≡ nothing → ⊥
if_asks true n e = absurd (cc e)
if_asks false n e = absurd (cc e)

refused_is : (o : Option (Turn Control)) → wish_by_none o ≡ nothing → o ≡ Some unfit
refused_is None e = absurd (cc e)
refused_is (Some (went own w)) e = absurd (cc e)
refused_is (Some (ended w)) e = absurd (cc e)
refused_is (Some blocked) e = absurd (cc e)
refused_is (Some unfit) e = refl
refused_is (Some (broke rule place)) e = absurd (cc e)

nothing_is : (w : World) (granted refused : Option (Turn Control)) → wish_by_got w granted refused ≡ nothing → (granted ≡ Some unfit) × (refused ≡ Some unfit)
nothing_is w None refused e = absurd (cc e)
nothing_is w (Some (went own after)) refused e = absurd (if_asks (length after.threads == length w.threads) (size_of_last after.blocks) e)
nothing_is w (Some (ended after)) refused e = absurd (cc e)
nothing_is w (Some blocked) refused e = absurd (cc e)
nothing_is w (Some unfit) refused e = (refl, refused_is refused e)
nothing_is w (Some (broke rule place)) refused e = absurd (cc e)

-- what takes no answer takes none
all_unfit : (P : Program Control) (s : State Control) (thread : ℕ) (a : Answer) → told P s thread answers.Plain ≡ Some unfit → (told P s thread answers.Got ≡ Some unfit) × (told P s thread answers.None ≡ Some unfit) → told P s thread a ≡ Some unfit
all_unfit P s thread answers.Plain e both = e
all_unfit P s thread answers.Got e both = both.0
all_unfit P s thread answers.None e both = both.1

fits_some : (P : Program Control) (s : State Control) (thread : ℕ) (a : Answer) (t : Turned) → told P s thread answers.Plain ≡ Some unfit → answered_if thread (told P s thread a) ≡ Some t → (t ≡ turneds.Unfit → ⊥) → wish P s thread ≡ nothing → ⊥
fits_some P s thread a t e says not none =
    let got : wish_by_got s.world (told P s thread answers.Got) (told P s thread answers.None) ≡ nothing = ap (λ o. wish_by s.world o (told P s thread answers.Got) (told P s thread answers.None)) (sym e) ∙ none in
    let no = all_unfit P s thread a e (nothing_is s.world (told P s thread answers.Got) (told P s thread answers.None) got) in
    let same : Some turneds.Unfit ≡ Some t = ap (answered_if thread) (sym no) ∙ says in
    not (cc same)

-- the answer is the one that it is to be told
is_told : (made : ℕ) (v : Wish) (asked : Option ℕ) (a : Answer) → AreAsked v asked → MatchOption asked ⊤ (λ n. (w : Wish) → AreAsked w asked → a ≡ answer_to made w) → MatchOption asked (a ≡ answer_to made a_thread) (λ n. ⊤) → (v ≡ nothing → ⊥) → a ≡ answer_to made v
is_told made v (Some n) a are bytes thread not = bytes v are
is_told made nothing None a are bytes thread not = absurd (not refl)
is_told made (some_bytes n) None a are bytes thread not = absurd (cc are)
is_told made too_many_bytes None a are bytes thread not = absurd are
is_told made a_thread None a are bytes thread not = thread

pub goes : (t : Turned) → (t ≡ turneds.Blocked → ⊥) → waits t ≡ false
goes turneds.Went not = refl
goes turneds.Blocked not = absurd (not refl)
goes turneds.Unfit not = refl
goes (turneds.Broke rule place) not = refl
goes (turneds.Ended exit) not = refl

-- a turn that doesn't take Plain, under the answer that it is to be told
asked_tried : (typed : Typed) (s after : State Control) (thread : ℕ) (asked : Option ℕ) (a : Answer) (t : Turned) → answered_if thread (told (program typed) s thread answers.Plain) ≡ Some turneds.Unfit → AreAsked (wish (program typed) s thread) asked
    → MatchOption asked ⊤ (λ n. (w : Wish) → AreAsked w asked → a ≡ answer_to (length s.own) w) → MatchOption asked (a ≡ answer_to (length s.own) a_thread) (λ n. ⊤)
    → answered_if thread (told (program typed) s thread a) ≡ Some t → after ≡ left_by typed s thread (told (program typed) s thread a) → (t ≡ turneds.Unfit → ⊥) → (t ≡ turneds.Blocked → ⊥)
    → IsTried typed s thread a t after
asked_tried typed s after thread asked a t unfit_so are bytes threads says left fits not =
    let P = program typed in
    let plain = is_unfit thread (told P s thread answers.Plain) unfit_so in
    let as_told : a ≡ answer_to (length s.own) (wish P s thread) = is_told (length s.own) (wish P s thread) asked a are bytes threads (fits_some P s thread a t plain says fits) in
    record {
      told_so = as_told;
      says = subst (λ (b : Answer). answered_if thread (told P s thread b) ≡ Some t) as_told says;
      leaves = subst (λ (b : Answer). after ≡ left_by typed s thread (told P s thread b)) as_told left;
      as_plain = ap is_blocked plain ∙ sym (goes t not);
    }

-- the same where the state was told anew in between
pub again_tried : (typed typed' : Typed) (s s' after : State Control) (thread : ℕ) (asked : Option ℕ) (a : Answer) (t : Turned) → answered_if thread (told (program typed) s thread answers.Plain) ≡ Some turneds.Unfit → AreAsked (wish (program typed) s thread) asked
    → typed' ≡ typed → s' ≡ s
    → MatchOption asked ⊤ (λ n. (w : Wish) → AreAsked w asked → a ≡ answer_to (length s'.own) w) → MatchOption asked (a ≡ answer_to (length s'.own) a_thread) (λ n. ⊤)
    → answered_if thread (told (program typed') s' thread a) ≡ Some t → after ≡ left_by typed' s' thread (told (program typed') s' thread a) → (t ≡ turneds.Unfit → ⊥) → (t ≡ turneds.Blocked → ⊥)
    → IsTried typed s thread a t after
again_tried typed typed' s s' after thread asked a t unfit_so are e f bytes threads says left fits not =
    asked_tried typed s after thread asked a t unfit_so are
    (subst (λ (u : State Control). MatchOption asked ⊤ (λ n. (w : Wish) → AreAsked w asked → a ≡ answer_to (length u.own) w)) f bytes)
    (subst (λ (u : State Control). MatchOption asked (a ≡ answer_to (length u.own) a_thread) (λ n. ⊤)) f threads)
    (subst (λ (u : State Control). answered_if thread (told (program typed) u thread a) ≡ Some t) f (subst (λ (p : Typed). answered_if thread (told (program p) s' thread a) ≡ Some t) e says))
    (subst (λ (u : State Control). after ≡ left_by typed u thread (told (program typed) u thread a)) f (subst (λ (p : Typed). after ≡ left_by p s' thread (told (program p) s' thread a)) e left))
    fits not

-- ---- which threads have a turn

some_if : {A : Type 0} (P : Program A) (s : State A) (thread : ℕ) (a b : Answer) (main own : Option A) → IsSome (turn_if P s (record { thread = thread; answer = a }) main own) → IsSome (turn_if P s (record { thread = thread; answer = b }) main own)
some_if P s thread a b None own h = absurd (cc h)
some_if P s thread a b (Some main) None h = absurd (cc h)
some_if P s thread a b (Some main) (Some own) h = refl

pub some_told : {A : Type 0} (P : Program A) (s : State A) (thread : ℕ) (a b : Answer) → IsSome (told P s thread a) → IsSome (told P s thread b)
some_told P s thread a b h = some_if P s thread a b (own_at s.own 0) (own_at s.own thread) h

run_if : {A : Type 0} (P : Program A) (s : State A) (p : Pick) (main own : Option A) → IsSome main → is_some (turn_if P s p main own) ≡ is_some own
run_if P s p None own h = absurd (cc h)
run_if P s p (Some main) None h = refl
run_if P s p (Some main) (Some own) h = refl

pub runs_as : {A : Type 0} (P : Program A) (s : State A) (p : Pick) → IsSome (own_at s.own 0) → is_some (picked P s p) ≡ is_some (own_at s.own p.thread)
runs_as P s p h = run_if P s p (own_at s.own 0) (own_at s.own p.thread) h
