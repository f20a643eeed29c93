-- Programs that keep each other's turns show the same under every order, and what is shown tells where a run comes to, and how many calls of
-- each thread wait there.
use Rattle.std.proofs.Common.{◌≡◌, ◌∙◌, refl, sym, ap, subst, ℕ, zero, suc, List, [], ◌∷◌, ◌++◌, length, map, drop, set, Option, Some, None}
use Rattle.std.specs.Prelude.{slice_get}
use Rattle.block_store.specs.declared.values.Ptr.{Ptr}
use Rattle.block_store.specs.Actions.{World, ThreadRecord}
use Rattle.block_store.specs.Runs.{Turn, went, ended, blocked, unfit, broke, Program, BeginsOutsideCalls, State, Run, reaches, Pick, begun, next_state, own_at, turn_if, picked, goes_on, run_from, run, first_state, Shown, it_begins, it_went, it_ended, it_blocked, it_was_unfit, no_such_turn, shown_then, shown_from, shown}
use Rattle.c_tree.specs.Typed.{Typed, Func}
use Rattle.c_meaning.specs.Meaning.{program, begins_if}
use Rattle.c_meaning.specs.Alike.{TurnsAlike, both_went, both_ended, both_blocked, both_unfit, both_broke, KeepsTurns, reached_by, reached_in, AsDeep}

-- ---- what threads have of their own

data OneAlike {A B : Type 0} (R : A → B → Type 0) : Option A → Option B → Type 0 where
  neither : OneAlike R None None
  both : (a : A) (b : B) → R a b → OneAlike R (Some a) (Some b)

data AllAlike {A B : Type 0} (R : A → B → Type 0) : List (Option A) → List (Option B) → Type 0 where
  nobody : AllAlike R [] []
  one_more : (a : Option A) (b : Option B) (xs : List (Option A)) (ys : List (Option B)) → OneAlike R a b → AllAlike R xs ys → AllAlike R (a ∷ xs) (b ∷ ys)

own_alike : {A B : Type 0} (R : A → B → Type 0) (xs : List (Option A)) (ys : List (Option B)) (n : ℕ) → AllAlike R xs ys → OneAlike R (own_at xs n) (own_at ys n)
own_alike R _ _ n nobody = neither
own_alike R _ _ zero (one_more _ _ xs ys neither rest) = neither
own_alike R _ _ zero (one_more _ _ xs ys (both a b r) rest) = both a b r
own_alike R _ _ (suc n) (one_more a b xs ys o rest) = own_alike R xs ys n rest

set_alike : {A B : Type 0} (R : A → B → Type 0) (xs : List (Option A)) (ys : List (Option B)) (n : ℕ) (a : Option A) (b : Option B) → AllAlike R xs ys → OneAlike R a b → AllAlike R (set xs n a) (set ys n b)
set_alike R _ _ n a b nobody o = nobody
set_alike R _ _ zero a b (one_more x y xs ys p rest) o = one_more a b xs ys o rest
set_alike R _ _ (suc n) a b (one_more x y xs ys p rest) o = one_more x y (set xs n a) (set ys n b) p (set_alike R xs ys n a b rest o)

append_alike : {A B : Type 0} (R : A → B → Type 0) (xs xs' : List (Option A)) (ys ys' : List (Option B)) → AllAlike R xs ys → AllAlike R xs' ys' → AllAlike R (xs ++ xs') (ys ++ ys')
append_alike R _ xs' _ ys' nobody more = more
append_alike R _ xs' _ ys' (one_more a b xs ys o rest) more = one_more a b (xs ++ xs') (ys ++ ys') o (append_alike R xs xs' ys ys' rest more)

length_alike : {A B : Type 0} (R : A → B → Type 0) (xs : List (Option A)) (ys : List (Option B)) → AllAlike R xs ys → length xs ≡ length ys
length_alike R _ _ nobody = refl
length_alike R _ _ (one_more a b xs ys o rest) = ap suc (length_alike R xs ys rest)

-- threads of the two programs begin related
abbrev BeginAlike : {A B : Type 0} → (A → B → Type 0) → Program A → Program B → Type 0
BeginAlike R P Q = (f : ℕ) (argument : Ptr) → R (P.begins f argument) (Q.begins f argument)

begun_alike : {A B : Type 0} (R : A → B → Type 0) (P : Program A) (Q : Program B) → BeginAlike R P Q → (ts : List ThreadRecord)
    → AllAlike R (map (λ (t : ThreadRecord). Some (P.begins t.function t.argument)) ts) (map (λ (t : ThreadRecord). Some (Q.begins t.function t.argument)) ts)
begun_alike R P Q begins [] = nobody
begun_alike R P Q begins (t ∷ ts) = one_more _ _ _ _ (both _ _ (begins t.function t.argument)) (begun_alike R P Q begins ts)

-- ---- states in one world

abbrev state : {A : Type 0} → World → List (Option A) → State A
state w own = record { world = w; own = own }

-- after a turn, also one that has made threads
next_alike : {A B : Type 0} (R : A → B → Type 0) (P : Program A) (Q : Program B) → BeginAlike R P Q → (xs : List (Option A)) (ys : List (Option B)) (n : ℕ) (a : Option A) (b : Option B) (next : World)
    → AllAlike R xs ys → OneAlike R a b → AllAlike R (set xs n a ++ begun P (length xs) next) (set ys n b ++ begun Q (length ys) next)
next_alike {A} {B} R P Q begins xs ys n a b next all o =
    let same = length_alike R xs ys all in
    let made : AllAlike R (begun P (length xs) next) (begun Q (length xs) next) = begun_alike R P Q begins (drop (length xs) next.threads) in
    let F : ℕ → Type 0 = λ k. AllAlike R (begun P (length xs) next) (begun Q k next) in
    append_alike R (set xs n a) (begun P (length xs) next) (set ys n b) (begun Q (length ys) next) (set_alike R xs ys n a b all o) (subst F same made)

-- ---- orders

-- what is shown of one turn, and then of the rest
turn_shown : {A B : Type 0} (R : A → B → Type 0) (P : Program A) (Q : Program B) → KeepsTurns R P Q → (go : State A → List Shown) (go' : State B → List Shown)
    → ((xs : List (Option A)) (ys : List (Option B)) (w : World) → AllAlike R xs ys → go (state w xs) ≡ go' (state w ys))
    → (xs : List (Option A)) (ys : List (Option B)) (w : World) (n : ℕ) → AllAlike R xs ys → (t : Turn A) (u : Turn B) → TurnsAlike R t u
    → shown_then P go (state w xs) n (Some t) ≡ shown_then Q go' (state w ys) n (Some u)
turn_shown R P Q keeps go go' rest xs ys w n all _ _ (both_went a b next r) =
    ap (λ calls. it_went calls next ∷ go (next_state P (state w xs) n (Some a) next)) (keeps.calls a b r)
    ∙ ap (λ z. it_went (Q.calls b) next ∷ z) (rest _ _ next (next_alike R P Q keeps.begins xs ys n (Some a) (Some b) next all (both a b r)))
turn_shown R P Q keeps go go' rest xs ys w n all _ _ (both_ended next) =
    ap (λ z. it_ended next ∷ z) (rest _ _ next (next_alike R P Q keeps.begins xs ys n None None next all neither))
turn_shown R P Q keeps go go' rest xs ys w n all _ _ both_blocked = ap (λ z. it_blocked ∷ z) (rest xs ys w all)
turn_shown R P Q keeps go go' rest xs ys w n all _ _ both_unfit = ap (λ z. it_was_unfit ∷ z) (rest xs ys w all)
turn_shown R P Q keeps go go' rest xs ys w n all _ _ (both_broke rule place) = refl

-- a pick, by what main and the picked thread have
pick_shown : {A B : Type 0} (R : A → B → Type 0) (P : Program A) (Q : Program B) → KeepsTurns R P Q → (go : State A → List Shown) (go' : State B → List Shown)
    → ((xs : List (Option A)) (ys : List (Option B)) (w : World) → AllAlike R xs ys → go (state w xs) ≡ go' (state w ys))
    → (xs : List (Option A)) (ys : List (Option B)) (w : World) (p : Pick) → AllAlike R xs ys
    → (m : Option A) (m' : Option B) → OneAlike R m m' → (o : Option A) (o' : Option B) → OneAlike R o o'
    → shown_then P go (state w xs) p.thread (turn_if P (state w xs) p m o) ≡ shown_then Q go' (state w ys) p.thread (turn_if Q (state w ys) p m' o')
pick_shown R P Q keeps go go' rest xs ys w p all _ _ neither o o' t = ap (λ z. no_such_turn ∷ z) (rest xs ys w all)
pick_shown R P Q keeps go go' rest xs ys w p all _ _ (both m m' r) _ _ neither = ap (λ z. no_such_turn ∷ z) (rest xs ys w all)
pick_shown R P Q keeps go go' rest xs ys w p all _ _ (both m m' r) _ _ (both a b s) =
    turn_shown R P Q keeps go go' rest xs ys w p.thread all _ _ (keeps.turn p.thread p.answer a b w s)

same_from : {A B : Type 0} (R : A → B → Type 0) (P : Program A) (Q : Program B) → KeepsTurns R P Q → (order : List Pick) (xs : List (Option A)) (ys : List (Option B)) (w : World)
    → AllAlike R xs ys → shown_from P order (state w xs) ≡ shown_from Q order (state w ys)
same_from R P Q keeps [] xs ys w all = refl
same_from R P Q keeps (p ∷ order) xs ys w all =
    pick_shown R P Q keeps (shown_from P order) (shown_from Q order) (same_from R P Q keeps order) xs ys w p all _ _ (own_alike R xs ys 0 all) _ _ (own_alike R xs ys p.thread all)

-- two programs of which one relation keeps all turns show the same under every order
pub shown_alike : {A B : Type 0} (R : A → B → Type 0) (P : Program A) (Q : Program B) → KeepsTurns R P Q → (w : World) (order : List Pick) → shown P w order ≡ shown Q w order
shown_alike R P Q keeps w order = ap (λ z. it_begins w ∷ z) (same_from R P Q keeps order (begun P 0 w) (begun Q 0 w) w (begun_alike R P Q keeps.begins (drop 0 w.threads)))

-- ---- what is shown tells where the run comes to

reached_turn : {A : Type 0} (P : Program A) (run_rest : State A → Run A) (show_rest : State A → List Shown) (k : ℕ)
    → ((s : State A) → reached_by (run_rest s) ≡ reached_in s.world (suc k) (show_rest s))
    → (s : State A) (n : ℕ) (o : Option (Turn A)) → reached_by (goes_on P run_rest s n k o) ≡ reached_in s.world k (shown_then P show_rest s n o)
reached_turn P run_rest show_rest k rest s n None = refl
reached_turn P run_rest show_rest k rest s n (Some (went own w)) = rest (next_state P s n (Some own) w)
reached_turn P run_rest show_rest k rest s n (Some (ended w)) = rest (next_state P s n None w)
reached_turn P run_rest show_rest k rest s n (Some blocked) = refl
reached_turn P run_rest show_rest k rest s n (Some unfit) = refl
reached_turn P run_rest show_rest k rest s n (Some (broke rule place)) = refl

reached_from : {A : Type 0} (P : Program A) (order : List Pick) (k : ℕ) (s : State A) → reached_by (run_from P order k s) ≡ reached_in s.world k (shown_from P order s)
reached_from P [] k s = refl
reached_from P (p ∷ order) k s = reached_turn P (run_from P order (suc k)) (shown_from P order) k (reached_from P order (suc k)) s p.thread (picked P s p)

pub reached_shown : {A : Type 0} (P : Program A) (w v : World) (order : List Pick) → reached_by (run P w order) ≡ reached_in v 0 (shown P w order)
reached_shown P w v order = reached_from P order 0 (record { world = w; own = begun P 0 w })

-- ---- and how many calls of each thread wait there

module _ {A B : Type 0} (P : Program A) (Q : Program B) (begins : BeginsOutsideCalls P) (begins_too : BeginsOutsideCalls Q) where
  -- as many calls of two threads wait
  abbrev Deep : A → B → Type 0
  Deep a b = P.calls a ≡ Q.calls b

  begin_deep : BeginAlike Deep P Q
  begin_deep f argument = begins f argument ∙ sym (begins_too f argument)

  -- after a turn in the one and one in the other, in one world
  next_deep : (xs : List (Option A)) (ys : List (Option B)) (n : ℕ) (a : Option A) (b : Option B) (x y : World) → x ≡ y → AllAlike Deep xs ys → OneAlike Deep a b
      → AllAlike Deep (set xs n a ++ begun P (length xs) x) (set ys n b ++ begun Q (length ys) y)
  next_deep xs ys n a b x y one all o = subst (λ (z : World). AllAlike Deep (set xs n a ++ begun P (length xs) x) (set ys n b ++ begun Q (length ys) z)) one (next_alike Deep P Q begin_deep xs ys n a b x all o)

  -- where what the rest shows is the same, the states that it reaches are as deep
  abbrev RestDeep : (State A → List Shown) → (State A → Run A) → (State B → List Shown) → (State B → Run B) → Type 0
  RestDeep show go show' go' = (xs : List (Option A)) (ys : List (Option B)) (w v : World) → AllAlike Deep xs ys → show (state w xs) ≡ show' (state v ys) → (s : State A) (u : State B)
      → go (state w xs) ≡ reaches s → go' (state v ys) ≡ reaches u → AllAlike Deep s.own u.own

  turn_deep : (show : State A → List Shown) (go : State A → Run A) (show' : State B → List Shown) (go' : State B → Run B) → RestDeep show go show' go'
      → (xs : List (Option A)) (ys : List (Option B)) (w v : World) (n k : ℕ) → AllAlike Deep xs ys → (x : Option (Turn A)) (y : Option (Turn B))
      → shown_then P show (state w xs) n x ≡ shown_then Q show' (state v ys) n y → (s : State A) (u : State B)
      → goes_on P go (state w xs) n k x ≡ reaches s → goes_on Q go' (state v ys) n k y ≡ reaches u → AllAlike Deep s.own u.own
  turn_deep show go show' go' rest xs ys w v n k all (Some (went a x)) (Some (went b y)) same s u p q =
      let deep : Deep a b = cc in
      let one : x ≡ y = cc in
      let more : show (next_state P (state w xs) n (Some a) x) ≡ show' (next_state Q (state v ys) n (Some b) y) = cc in
      rest _ _ x y (next_deep xs ys n (Some a) (Some b) x y one all (both a b deep)) more s u p q
  turn_deep show go show' go' rest xs ys w v n k all (Some (ended x)) (Some (ended y)) same s u p q =
      let one : x ≡ y = cc in
      let more : show (next_state P (state w xs) n None x) ≡ show' (next_state Q (state v ys) n None y) = cc in
      rest _ _ x y (next_deep xs ys n None None x y one all neither) more s u p q
  turn_deep show go show' go' rest xs ys w v n k all (Some (went a x)) (Some (ended y)) same s u p q = absurd cc
  turn_deep show go show' go' rest xs ys w v n k all (Some (ended x)) (Some (went b y)) same s u p q = absurd cc
  turn_deep show go show' go' rest xs ys w v n k all None y same s u p q = absurd cc
  turn_deep show go show' go' rest xs ys w v n k all (Some blocked) y same s u p q = absurd cc
  turn_deep show go show' go' rest xs ys w v n k all (Some unfit) y same s u p q = absurd cc
  turn_deep show go show' go' rest xs ys w v n k all (Some (broke rule place)) y same s u p q = absurd cc
  turn_deep show go show' go' rest xs ys w v n k all (Some (went a x)) None same s u p q = absurd cc
  turn_deep show go show' go' rest xs ys w v n k all (Some (went a x)) (Some blocked) same s u p q = absurd cc
  turn_deep show go show' go' rest xs ys w v n k all (Some (went a x)) (Some unfit) same s u p q = absurd cc
  turn_deep show go show' go' rest xs ys w v n k all (Some (went a x)) (Some (broke rule place)) same s u p q = absurd cc
  turn_deep show go show' go' rest xs ys w v n k all (Some (ended x)) None same s u p q = absurd cc
  turn_deep show go show' go' rest xs ys w v n k all (Some (ended x)) (Some blocked) same s u p q = absurd cc
  turn_deep show go show' go' rest xs ys w v n k all (Some (ended x)) (Some unfit) same s u p q = absurd cc
  turn_deep show go show' go' rest xs ys w v n k all (Some (ended x)) (Some (broke rule place)) same s u p q = absurd cc

  deep_from : (order : List Pick) (k : ℕ) → RestDeep (shown_from P order) (run_from P order k) (shown_from Q order) (run_from Q order k)
  deep_from [] k xs ys w v all same s u p q =
      let first : state w xs ≡ s = cc in
      let second : state v ys ≡ u = cc in
      subst (λ (z : State A). AllAlike Deep z.own u.own) first (subst (λ (z : State B). AllAlike Deep xs z.own) second all)
  deep_from (i ∷ order) k xs ys w v all same s u p q =
      turn_deep (shown_from P order) (run_from P order (suc k)) (shown_from Q order) (run_from Q order (suc k)) (deep_from order (suc k)) xs ys w v i.thread k all
      (picked P (state w xs) i) (picked Q (state v ys) i) same s u p q

  as_deep : (o : Option A) (o' : Option B) → OneAlike Deep o o' → AsDeep P Q o o'
  as_deep _ _ neither = tt
  as_deep _ _ (both a b h) = h

  pub calls_shown : (w v : World) (order : List Pick) → shown P w order ≡ shown Q v order → (s : State A) (u : State B) → run P w order ≡ reaches s → run Q v order ≡ reaches u
      → (thread : ℕ) → AsDeep P Q (own_at s.own thread) (own_at u.own thread)
  calls_shown w v order same s u p q thread =
      let one : w ≡ v = cc in
      let more : shown_from P order (first_state P w) ≡ shown_from Q order (first_state Q v) = cc in
      as_deep (own_at s.own thread) (own_at u.own thread)
      (own_alike Deep s.own u.own thread
      (deep_from order 0 (begun P 0 w) (begun Q 0 v) w v
      (subst (λ (z : World). AllAlike Deep (begun P 0 w) (begun Q 0 z)) one (begun_alike Deep P Q begin_deep (drop 0 w.threads))) more s u p q))

-- ---- the program of a tree

begins_if_outside : (t : Typed) (number : ℕ) (argument : Ptr) (f : Option Func) → (program t).calls (begins_if number argument f) ≡ 0
begins_if_outside t number argument None = refl
begins_if_outside t number argument (Some f) = refl

pub begins_outside_calls : (t : Typed) → BeginsOutsideCalls (program t)
begins_outside_calls t number argument = begins_if_outside t number argument (slice_get t.funcs number)
