-- Runs of a well formed program come only to states that are well formed, and go on from them.
use Rattle.std.proofs.Common.{◌≡◌, ℕ, zero, suc, List, [], ◌∷◌, ◌++◌, length, map, drop, set, Option, Some, None, refl, sym, ap, subst, ◌∙◌, inl}
use Rattle.std.specs.List.{AllByRecursion}
use Rattle.block_store.specs.Actions.{World, ThreadRecord}
use Rattle.block_store.specs.Runs as runs
use Rattle.block_store.specs.Runs.{Turn, State, Pick, Run, begun, next_state, own_at, turn_if, picked, goes_on, run_from}
use Rattle.c_tree.specs.Typed as tree
use Rattle.c_tree.specs.TypedForm.{IsWellFormed}
use Rattle.c_meaning.specs.Control.{Control}
use Rattle.c_meaning.specs.Turns.{turn}
use Rattle.c_meaning.specs.Meaning.{program, start}
use Rattle.c_meaning.specs.Kinds.{IsTypedControl, IsTypedWorld, CanBegin}
use Rattle.c_meaning.specs.Sound.{IsUnfit, IsTypedTurn, AreTypedThreads, IsTypedState, LeadsOn, RunsBeginTyped, PicksKeepTypes, RunsKeepTypes, RunsGoOn}
use Rattle.c_meaning.proofs.TypedThreads.{threads_begin_typed, turns_keep_types, turns_go_on}

-- ---- what threads have

abbrev IsTypedOwn : tree.Typed → Option Control → Type 0
IsTypedOwn t None = Unit {0}
IsTypedOwn t (Some c) = IsTypedControl t c

own_typed : (t : tree.Typed) (all : List (Option Control)) (n : ℕ) → AreTypedThreads t all → IsTypedOwn t (own_at all n)
own_typed t [] n h = tt
own_typed t (None ∷ all) zero h = tt
own_typed t (Some c ∷ all) zero h = h.0
own_typed t (None ∷ all) (suc n) h = own_typed t all n h
own_typed t (Some c ∷ all) (suc n) h = own_typed t all n h.1

before_typed : (t : tree.Typed) (o : Option Control) (all : List (Option Control)) → IsTypedOwn t o → AreTypedThreads t all → AreTypedThreads t (o ∷ all)
before_typed t None all o h = h
before_typed t (Some c) all o h = (o, h)

set_typed : (t : tree.Typed) (all : List (Option Control)) (n : ℕ) (o : Option Control) → AreTypedThreads t all → IsTypedOwn t o → AreTypedThreads t (set all n o)
set_typed t [] n o h i = tt
set_typed t (None ∷ all) zero o h i = before_typed t o all i h
set_typed t (Some c ∷ all) zero o h i = before_typed t o all i h.1
set_typed t (None ∷ all) (suc n) o h i = set_typed t all n o h i
set_typed t (Some c ∷ all) (suc n) o h i = (h.0, set_typed t all n o h.1 i)

both_typed : (t : tree.Typed) (all more : List (Option Control)) → AreTypedThreads t all → AreTypedThreads t more → AreTypedThreads t (all ++ more)
both_typed t [] more h m = m
both_typed t (None ∷ all) more h m = both_typed t all more h m
both_typed t (Some c ∷ all) more h m = (h.0, both_typed t all more h.1 m)

abbrev MayBegin : tree.Typed → ThreadRecord → Type 0
MayBegin t h = CanBegin t h.function

dropped_typed : (t : tree.Typed) (n : ℕ) (all : List ThreadRecord) → AllByRecursion (MayBegin t) all → AllByRecursion (MayBegin t) (drop n all)
dropped_typed t zero all h = h
dropped_typed t (suc n) [] h = tt
dropped_typed t (suc n) (x ∷ all) h = dropped_typed t n all h.1

made_typed : (t : tree.Typed) → IsWellFormed t → (all : List ThreadRecord) → AllByRecursion (MayBegin t) all → AreTypedThreads t (map (λ (x : ThreadRecord). Some ((program t).begins x.function x.argument)) all)
made_typed t wf [] h = tt
made_typed t wf (x ∷ all) h = (threads_begin_typed t wf x.function h.0 x.argument, made_typed t wf all h.1)

begun_typed : (t : tree.Typed) → IsWellFormed t → (n : ℕ) (w : World) → IsTypedWorld t w → AreTypedThreads t (begun (program t) n w)
begun_typed t wf n w h = made_typed t wf (drop n w.threads) (dropped_typed t n w.threads h)

next_typed : (t : tree.Typed) → IsWellFormed t → (s : State Control) (thread : ℕ) (own : Option Control) (w : World) → IsTypedState t s → IsTypedOwn t own → IsTypedWorld t w → IsTypedState t (next_state (program t) s thread own w)
next_typed t wf s thread own w h o i = record {
  world = i;
  threads = both_typed t (set s.own thread own) (begun (program t) (length s.own) w) (set_typed t s.own thread own h.threads o) (begun_typed t wf (length s.own) w i);
}

-- ---- runs

abbrev IsTypedPick : tree.Typed → Option (Turn Control) → Type 0
IsTypedPick t None = Unit {0}
IsTypedPick t (Some u) = IsTypedTurn t u

pick_typed : (t : tree.Typed) → IsWellFormed t → (s : State Control) (p : Pick) (main own : Option Control) → IsTypedState t s → IsTypedOwn t own → IsTypedPick t (turn_if (program t) s p main own)
pick_typed t wf s p None own h o = tt
pick_typed t wf s p (Some main) None h o = tt
pick_typed t wf s p (Some main) (Some own) h o = turns_keep_types t wf p.thread p.answer own s.world o h.world

picked_typed : (t : tree.Typed) → IsWellFormed t → (s : State Control) (p : Pick) → IsTypedState t s → IsTypedPick t (picked (program t) s p)
picked_typed t wf s p h = pick_typed t wf s p (own_at s.own 0) (own_at s.own p.thread) h (own_typed t s.own p.thread h.threads)

leads_on : (t : tree.Typed) → IsWellFormed t → (s : State Control) (thread : ℕ) (o : Option (Turn Control)) → IsTypedState t s → IsTypedPick t o → LeadsOn t s thread o
leads_on t wf s thread None h o = tt
leads_on t wf s thread (Some (runs.went own w)) h o = next_typed t wf s thread (Some own) w h o.0 o.1
leads_on t wf s thread (Some (runs.ended w)) h o = next_typed t wf s thread None w h tt o
leads_on t wf s thread (Some runs.blocked) h o = tt
leads_on t wf s thread (Some runs.unfit) h o = tt
leads_on t wf s thread (Some (runs.broke rule place)) h o = tt

pub picks_keep_types : PicksKeepTypes
picks_keep_types t wf s p h = leads_on t wf s p.thread (picked (program t) s p) h (picked_typed t wf s p h)

goes_typed : (t : tree.Typed) (go : State Control → Run Control) (s end : State Control) (thread k : ℕ) (o : Option (Turn Control)) → LeadsOn t s thread o
    → ((next : State Control) → IsTypedState t next → go next ≡ runs.reaches end → IsTypedState t end) → goes_on (program t) go s thread k o ≡ runs.reaches end → IsTypedState t end
goes_typed t go s end thread k None h rest e = absurd cc
goes_typed t go s end thread k (Some (runs.went own w)) h rest e = rest (next_state (program t) s thread (Some own) w) h e
goes_typed t go s end thread k (Some (runs.ended w)) h rest e = rest (next_state (program t) s thread None w) h e
goes_typed t go s end thread k (Some runs.blocked) h rest e = absurd cc
goes_typed t go s end thread k (Some runs.unfit) h rest e = absurd cc
goes_typed t go s end thread k (Some (runs.broke rule place)) h rest e = absurd cc

run_typed : (t : tree.Typed) → IsWellFormed t → (order : List Pick) (k : ℕ) (s end : State Control) → IsTypedState t s → run_from (program t) order k s ≡ runs.reaches end → IsTypedState t end
run_typed t wf [] k s end h e = let same : s ≡ end = cc in subst (IsTypedState t) same h
run_typed t wf (p ∷ order) k s end h e =
    goes_typed t (run_from (program t) order (suc k)) s end p.thread k (picked (program t) s p) (picks_keep_types t wf s p h) (λ next i. run_typed t wf order (suc k) next end i) e

pub runs_begin_typed : RunsBeginTyped
runs_begin_typed t wf =
    let world : IsTypedWorld t (start t) = ((wf.main.0, wf.main.1, inl wf.main.2), tt) in
    record { world = world; threads = begun_typed t wf 0 (start t) world }

pub runs_keep_types : RunsKeepTypes
runs_keep_types t wf order s e = run_typed t wf order 0 (runs.first_state (program t) (start t)) s (runs_begin_typed t wf) e

-- ---- turns of the threads that run

-- what comes of one pick more
abbrev comes_to : runs.Program Control → State Control → Pick → (k : ℕ) → Run Control
comes_to P s p k = goes_on P (λ next. runs.reaches next) s p.thread k (picked P s p)

one_after : (P : runs.Program Control) (go further : State Control → Run Control) (p : Pick) (first s : State Control) (thread k : ℕ) (o : Option (Turn Control))
    → ((next : State Control) → go next ≡ runs.reaches s → (n : ℕ) × (further next ≡ comes_to P s p n))
    → goes_on P go first thread k o ≡ runs.reaches s → (n : ℕ) × (goes_on P further first thread k o ≡ comes_to P s p n)
one_after P go further p first s thread k None rest e = absurd cc
one_after P go further p first s thread k (Some (runs.went own w)) rest e = rest (next_state P first thread (Some own) w) e
one_after P go further p first s thread k (Some (runs.ended w)) rest e = rest (next_state P first thread None w) e
one_after P go further p first s thread k (Some runs.blocked) rest e = absurd cc
one_after P go further p first s thread k (Some runs.unfit) rest e = absurd cc
one_after P go further p first s thread k (Some (runs.broke rule place)) rest e = absurd cc

one_more : (P : runs.Program Control) (order : List Pick) (p : Pick) (k : ℕ) (first s : State Control) → run_from P order k first ≡ runs.reaches s → (n : ℕ) × (run_from P (order ++ p ∷ []) k first ≡ comes_to P s p n)
one_more P [] p k first s e = let same : first ≡ s = cc in (k, ap (λ (x : State Control). comes_to P x p k) same)
one_more P (q ∷ order) p k first s e =
    one_after P (run_from P order (suc k)) (run_from P (order ++ p ∷ []) (suc k)) p first s q.thread k (picked P first q) (λ next i. one_more P order p (suc k) next s i) e

pick_of : (P : runs.Program Control) (s : State Control) (p : Pick) (main own : Control) → own_at s.own 0 ≡ Some main → own_at s.own p.thread ≡ Some own → picked P s p ≡ Some (P.turn p.thread p.answer own s.world)
pick_of P s p main own m o = ap (λ (x : Option Control). turn_if P s p x (own_at s.own p.thread)) m ∙ ap (turn_if P s p (Some main)) o

-- a turn that takes its answer has no run only where it waits
waits_only : (P : runs.Program Control) (s : State Control) (thread n k : ℕ) (u : Turn Control) → (IsUnfit u → ⊥) → goes_on P (λ next. runs.reaches next) s thread n (Some u) ≡ runs.no_run k → u ≡ runs.blocked
waits_only P s thread n k (runs.went own w) f e = absurd cc
waits_only P s thread n k (runs.ended w) f e = absurd cc
waits_only P s thread n k runs.blocked f e = refl
waits_only P s thread n k runs.unfit f e = absurd (f tt)
waits_only P s thread n k (runs.broke rule place) f e = absurd cc

pub runs_go_on : RunsGoOn
runs_go_on t wf order s e p main own m o =
    let h = runs_keep_types t wf order s e in
    let c : IsTypedControl t own = subst (IsTypedOwn t) o (own_typed t s.own p.thread h.threads) in
    let g = turns_go_on t wf p.thread own s.world c h.world in
    let more = one_more (program t) order p 0 (runs.first_state (program t) (start t)) s e in
    let turned : picked (program t) s p ≡ Some (turn t p.thread p.answer own s.world) = pick_of (program t) s p main own m o in (
      g.0,
      g.1,
      λ fits k none. waits_only (program t) s p.thread more.0 k (turn t p.thread p.answer own s.world) ((g.2 p.answer).1 fits)
          (sym (ap (goes_on (program t) (λ next. runs.reaches next) s p.thread more.0) turned) ∙ sym more.1 ∙ none),
    )
