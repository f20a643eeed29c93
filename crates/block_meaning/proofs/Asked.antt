-- What a turn asks for, by what ends it.
use Rattle.std.proofs.Common.{◌≡◌, ◌≤◌, ◌==◌, ◌+◌, ◌-◌, ◌^◌, Bool, true, false, if◌then◌else◌, ℕ, min, List, [], ◌∷◌, ◌++◌, length, map, Option, Some, None, Result, Ok, Err, IsSome, refl, sym, ap, subst, ◌∙◌, arith}
use Rattle.std.proofs.lemmas.List.{length_push}
use Rattle.std.specs.List.{slice_get}
use Rattle.std.specs.Prelude.{nat_lt}
use Rattle.ak_words.specs.declared.rule.Rule.{Rule}
use Rattle.block_store.specs.declared.values.Answer.{Answer}
use Rattle.block_store.specs.declared.values.Answer.TheVariants as answers
use Rattle.block_store.specs.declared.values.BlockKind.TheVariants as kinds
use Rattle.block_store.specs.declared.values.Ptr.{Ptr}
use Rattle.block_store.specs.declared.values.Ptr.TheVariants.{To}
use Rattle.block_store.specs.declared.values.Value.{Value}
use Rattle.block_store.specs.declared.values.Value.TheVariants as values
use Rattle.block_store.specs.Actions as actions
use Rattle.block_store.specs.Atomics.{changed, compared}
use Rattle.block_store.specs.Blocks.{Blocks, made, loaded, stored, copied, freed, renewed}
use Rattle.block_store.specs.Mutexes.{locked, unlocked, destroyed}
use Rattle.block_store.specs.Runs.{Turn, Program, State, Pick, went, unfit, turn_if, picked, own_at}
use Rattle.c_tree.specs.Typed as tree
use Rattle.c_meaning.specs.Control as control
use Rattle.c_meaning.specs.Turns as turns
use Rattle.c_meaning.specs.Turns.{turn}
use Rattle.c_meaning.specs.Touches.{touches_of}
use Rattle.race_rules.specs.declared.touch.Touch.{Touch}
use Rattle.source_state.specs.declared.world.SharedAction.TheVariants as acts
use Rattle.source_state.specs.declared.world.World.{World}
use Rattle.source_state.specs.Worlds.{world_of, printed_of}
use Rattle.source_state.specs.Views.{values_of, wait_of}
use Rattle.source_tree.specs.declared.tree.SharedProgram.{SharedProgram}
use Rattle.source_tree.specs.SharedViews.{program_of}
use Rattle.source_state.specs.declared.control.Pending.{Pending}
use Rattle.source_state.specs.declared.control.Pending.TheVariants as pendings
use Rattle.source_expressions.specs.Ends.{here_at, point_of, ends}
use Rattle.source_expressions.specs.Progress.{now_in}
use Rattle.block_meaning.specs.Asking.{some_bytes, a_thread, size_of_last, wish_by, wish_by_got, AreAsked, AreAskedOf, told, wish}
use Rattle.block_meaning.specs.declared.thread.Own.{Own}
use Rattle.block_meaning.specs.Threads.{callers_of, control_of}
use Rattle.block_meaning.specs.inner.Turns.{unless_broken, bytes_asked, asked_under, ComesToEnd}
use Rattle.block_meaning.proofs.Reaching.{turn_taken}
use Rattle.block_meaning.proofs.Renewing.{last_is, Renewal, renewal}

-- where a thread goes on behind an action
abbrev Goes : Type 0
Goes = Option Value → actions.World → Turn control.Control

-- by the point at which it goes on, and what it touched
abbrev goes_on : turns.TurnContext → List control.Variable → (Option Value → control.TurnStart) → List Touch → Goes
goes_on h locals point touched v next = turns.having_touched touched (turns.stays h locals (point v) next)

-- an action of which nothing is chosen asks for nothing
settled_asks : (w : actions.World) (place : ℕ) (h : turns.TurnContext) (locals : List control.Variable) (point : Option Value → control.TurnStart) (touched : List Touch) (reached : List actions.Reached) (d : actions.Done)
    → AreAsked (wish_by w (Some (turns.on_done place (goes_on h locals point touched) (actions.telling reached d))) (Some unfit) (Some unfit)) None
settled_asks w place h locals point touched reached (actions.went v next) = refl
settled_asks w place h locals point touched reached actions.blocked = refl
settled_asks w place h locals point touched reached actions.unfit = refl
settled_asks w place h locals point touched reached (actions.broke rule) = refl

same_length : (n : ℕ) → (n == n) ≡ true
same_length n = grind arith

longer : (n m : ℕ) → m ≡ n + 1 → (m == n) ≡ false
longer n m e = grind arith

-- an allocation that gets what it asks for, where that fits, and else takes no block
abbrev got_block : turns.TurnContext → List control.Variable → (Option Value → control.TurnStart) → List Touch → (place : ℕ) → actions.World → List actions.Reached → Blocks → Bool → Turn control.Control
got_block h locals point touched place w reached blocks fits =
    turns.on_done place (goes_on h locals point touched) (actions.telling reached (if fits then actions.went (Some (values.Pointer (To (length w.blocks) 0))) (actions.with_blocks w blocks) else actions.unfit))

min_fits : (n : ℕ) → nat_lt n (2 ^ 32) ≡ true → min n (2 ^ 64 - 1) ≡ n
min_fits n e = grind arith

min_large : (n : ℕ) → nat_lt n (2 ^ 32) ≡ false → 2 ^ 32 ≤ min n (2 ^ 64 - 1)
min_large n e = grind arith

-- it asks for its bytes
allocation_asks : (h : turns.TurnContext) (locals : List control.Variable) (point : Option Value → control.TurnStart) (touched : List Touch) (place : ℕ) (w : actions.World) (blocks : Blocks) (reached : List actions.Reached) (new : Blocks) (size : ℕ) (fits : Bool) (own : control.Control) (after : actions.World)
    → nat_lt size (2 ^ 32) ≡ fits → size_of_last new ≡ size
    → AreAsked (wish_by_got w (Some (got_block h locals point touched place (actions.with_blocks w blocks) reached new fits)) (Some (went own after))) (Some (min size (2 ^ 64 - 1)))
allocation_asks h locals point touched place w blocks reached new size true own after e f =
    subst (λ (b : Bool). AreAsked (if b then some_bytes (size_of_last new) else a_thread) (Some (min size (2 ^ 64 - 1)))) (sym (same_length (length w.threads)))
    (ap Some (min_fits size e ∙ sym f))
allocation_asks h locals point touched place w blocks reached new size false own after e f = min_large size e

-- what comes of a realloc that is told an answer
abbrev renewing : turns.TurnContext → List control.Variable → (Option Value → control.TurnStart) → List Touch → (place : ℕ) → actions.World → List actions.Reached → Answer → (size : ℕ) → Result Blocks Rule → Turn control.Control
renewing h locals point touched place w reached answer size r = turns.on_done place (goes_on h locals point touched) (actions.telling reached (actions.under answer (actions.renews w size r)))

-- a realloc asks for its bytes, unless it breaks a rule
renewal_asks : (told : Answer → turns.TurnContext) (locals : List control.Variable) (point : Option Value → control.TurnStart) (touched : Answer → List Touch) (place : ℕ) (w : actions.World) (blocks : Blocks) (reached : Answer → List actions.Reached) (size : ℕ) (r f : Result Blocks Rule) → Renewal size r f
    → AreAsked (wish_by w (Some (renewing (told answers.Plain) locals point (touched answers.Plain) place (actions.with_blocks w blocks) (reached answers.Plain) answers.Plain size r))
    (Some (renewing (told answers.Got) locals point (touched answers.Got) place (actions.with_blocks w blocks) (reached answers.Got) answers.Got size r))
    (Some (renewing (told answers.None) locals point (touched answers.None) place (actions.with_blocks w blocks) (reached answers.None) answers.None size r))) (unless_broken f size)
renewal_asks told locals point touched place w blocks reached size (Err rule) (Err other) e = refl
renewal_asks told locals point touched place w blocks reached size (Ok new) (Err other) e = absurd e
renewal_asks told locals point touched place w blocks reached size (Err rule) (Ok left) e = absurd e
renewal_asks told locals point touched place w blocks reached size (Ok new) (Ok left) e =
    allocation_asks (told answers.Got) locals point (touched answers.Got) place w blocks (reached answers.Got) new size (nat_lt size (2 ^ 32)) _ _ refl e

-- a new thread asks for no bytes
start_asks : (h : turns.TurnContext) (locals : List control.Variable) (point : Option Value → control.TurnStart) (touched : List Touch) (place : ℕ) (w : actions.World) (before : Blocks) (function : ℕ) (argument : Ptr) (reached : List actions.Reached) (r : Result Blocks Rule) (refused : Option (Turn control.Control))
    → AreAsked (wish_by_got w (Some (turns.on_done place (goes_on h locals point touched) (actions.telling reached (actions.starts (actions.with_blocks w before) function argument r)))) refused) None
start_asks h locals point touched place w before function argument reached (Err rule) refused = refl
start_asks h locals point touched place w before function argument reached (Ok blocks) refused =
    subst (λ (b : Bool). AreAsked (if b then some_bytes (size_of_last blocks) else a_thread) None) (sym (longer (length w.threads) (length (w.threads ++ actions.beginning function argument ∷ [])) (length_push w.threads (actions.beginning function argument)))) refl

-- what ends a turn, under an answer
abbrev ended_under : SharedProgram → (thread function : ℕ) → List control.Caller → Pending → List control.Variable → Blocks → actions.World → Answer → Turn control.Control
ended_under p thread function callers q locals blocks w answer = ends (here_at p function (record { thread = thread; answer = answer; callers = callers })) q (now_in locals blocks w)

-- what a turn knows that is told an answer
abbrev told_in : SharedProgram → (thread function : ℕ) → List control.Caller → Answer → turns.TurnContext
told_in p thread function callers answer = here_at p function (record { thread = thread; answer = answer; callers = callers })

-- a call of a function asks for nothing
enter_asks : (p : SharedProgram) (thread function : ℕ) (callers : List control.Caller) (w : actions.World) (number : ℕ) (args : List Value) (k : control.Wait) (x : turns.Now) (f : Option tree.Func)
    → AreAsked (wish_by w (Some (turns.enters (told_in p thread function callers answers.Plain) number args k x f)) (Some (turns.enters (told_in p thread function callers answers.Got) number args k x f)) (Some (turns.enters (told_in p thread function callers answers.None) number args k x f))) None
enter_asks p thread function callers w number args k x None = refl
enter_asks p thread function callers w number args k x (Some f) = refl

-- nor does the end of one
leave_asks : (h : turns.TurnContext) (w v : actions.World) (value : Option Value) (calls : List control.Caller) (granted refused : Option (Turn control.Control)) → h.answer ≡ answers.Plain
    → AreAsked (wish_by w (Some (turns.returns_to h value v calls)) granted refused) None
leave_asks h w v value [] granted refused e = rw e refl
leave_asks h w v value (c ∷ calls) granted refused e = rw e refl

-- what ends a turn asks for the bytes that the code tells
asks : (p : SharedProgram) (thread function : ℕ) (callers : List control.Caller) (q : Pending) (locals : List control.Variable) (blocks : Blocks) (w : actions.World)
    → AreAsked (wish_by w (Some (ended_under p thread function callers q locals blocks w answers.Plain)) (Some (ended_under p thread function callers q locals blocks w answers.Got)) (Some (ended_under p thread function callers q locals blocks w answers.None))) (bytes_asked blocks q)
asks p thread function callers (pendings.Broke rule place) locals blocks w = refl
asks p thread function callers (pendings.Round l k) locals blocks w = refl
asks p thread function callers (pendings.Enter number args k) locals blocks w =
    enter_asks p thread function callers w number (values_of args.value) (wait_of k) (now_in locals blocks w) (slice_get (program_of p).funcs number)
asks p thread function callers (pendings.Leave v) locals blocks w = leave_asks (told_in p thread function callers answers.Plain) w (turns.without_blocks locals (actions.with_blocks w blocks)) (turns.result_of_call (told_in p thread function callers answers.Plain) v) callers
    (Some (ended_under p thread function callers (pendings.Leave v) locals blocks w answers.Got)) (Some (ended_under p thread function callers (pendings.Leave v) locals blocks w answers.None)) refl
asks p thread function callers pendings.Unfit locals blocks w = refl
asks p thread function callers (pendings.Act site (acts.Load at how) next) locals blocks w = settled_asks w site.place (told_in p thread function callers answers.Plain) locals (point_of next) _ _ (actions.gives (actions.with_blocks w blocks) (loaded blocks at how))
asks p thread function callers (pendings.Act site (acts.Store at v) next) locals blocks w = settled_asks w site.place (told_in p thread function callers answers.Plain) locals (point_of next) _ _ (actions.changes (actions.with_blocks w blocks) (stored blocks at v))
asks p thread function callers (pendings.Act site (acts.Copy to from n align same) next) locals blocks w = settled_asks w site.place (told_in p thread function callers answers.Plain) locals (point_of next) _ _ (actions.changes (actions.with_blocks w blocks) (copied blocks to from n align same))
asks p thread function callers (pendings.Act site (acts.Allocate size first) next) locals blocks w =
    allocation_asks (told_in p thread function callers answers.Got) locals (point_of next) _ site.place w blocks [] (made blocks size kinds.Heap first) size (nat_lt size (2 ^ 32)) _ _ refl (last_is blocks size first)
asks p thread function callers (pendings.Act site (acts.Reallocate at size) next) locals blocks w =
    renewal_asks (told_in p thread function callers) locals (point_of next) (λ answer. touches_of site.place (actions.with_blocks w blocks) answer site.atomic (actions.reallocate at size)) site.place w blocks (λ answer. actions.renew_reaches (actions.with_blocks w blocks) answer at size) size (renewed blocks at size) (freed blocks at) (renewal blocks at size)
asks p thread function callers (pendings.Act site (acts.Free at) next) locals blocks w = settled_asks w site.place (told_in p thread function callers answers.Plain) locals (point_of next) _ _ (actions.changes (actions.with_blocks w blocks) (freed blocks at))
asks p thread function callers (pendings.Act site (acts.Change at how by) next) locals blocks w = settled_asks w site.place (told_in p thread function callers answers.Plain) locals (point_of next) _ _ (actions.changes_number (actions.with_blocks w blocks) (changed blocks at by.ty how by.value))
asks p thread function callers (pendings.Act site (acts.Compare at want new) next) locals blocks w = settled_asks w site.place (told_in p thread function callers answers.Plain) locals (point_of next) _ _ (actions.compares (actions.with_blocks w blocks) (compared blocks at want new.ty new.value))
asks p thread function callers (pendings.Act site (acts.Print all) next) locals blocks w = settled_asks w site.place (told_in p thread function callers answers.Plain) locals (point_of next) _ _ (actions.prints (actions.with_blocks w blocks) (actions.all_bytes blocks (map printed_of all.items)))
asks p thread function callers (pendings.Act site (acts.Lock at) next) locals blocks w = settled_asks w site.place (told_in p thread function callers answers.Plain) locals (point_of next) _ _ (actions.changes_or_waits (actions.with_blocks w blocks) (locked blocks at thread))
asks p thread function callers (pendings.Act site (acts.Unlock at) next) locals blocks w = settled_asks w site.place (told_in p thread function callers answers.Plain) locals (point_of next) _ _ (actions.changes (actions.with_blocks w blocks) (unlocked blocks at thread))
asks p thread function callers (pendings.Act site (acts.Destroy at) next) locals blocks w = settled_asks w site.place (told_in p thread function callers answers.Plain) locals (point_of next) _ _ (actions.passes (actions.with_blocks w blocks) (destroyed blocks at))
asks p thread function callers (pendings.Act site (acts.Start to start argument) next) locals blocks w =
    start_asks (told_in p thread function callers answers.Got) locals (point_of next) _ site.place w blocks start argument _ (stored blocks to (actions.next_number (actions.with_blocks w blocks))) _
asks p thread function callers (pendings.Act site (acts.Join number to) next) locals blocks w = settled_asks w site.place (told_in p thread function callers answers.Plain) locals (point_of next) _ _ (actions.joined_by (actions.with_blocks w blocks) thread number to)
asks p thread function callers (pendings.Act site (acts.Finish value) next) locals blocks w = refl

-- the same of turns that are those
same_asks : (w : actions.World) (a b c a' b' c' : Turn control.Control) (n m : Option ℕ) → a ≡ a' → b ≡ b' → c ≡ c' → m ≡ n
    → AreAsked (wish_by w (Some a) (Some b) (Some c)) n → AreAsked (wish_by w (Some a') (Some b') (Some c')) m
same_asks w a b c a' b' c' n m e f g h k = rw (h, ← e, ← f, ← g) k

-- a turn asks for the bytes that the code tells, as the code takes it
pub turn_asks : (p : SharedProgram) (thread : ℕ) (answer : Answer) (own : Own) (w : World) (locals : List control.Variable) (blocks : Blocks) (new_locals : List control.Variable) (new_blocks : Blocks) (q : Pending) (asked : Option ℕ)
    → ComesToEnd p own.at own.function locals blocks new_locals new_blocks q → locals ≡ own.locals.now → blocks ≡ w.store.now → asked ≡ asked_under answer new_blocks q
    → AreAskedOf answer (wish_by (world_of w) (Some (turn (program_of p) thread answers.Plain (control_of own) (world_of w))) (Some (turn (program_of p) thread answers.Got (control_of own) (world_of w))) (Some (turn (program_of p) thread answers.None (control_of own) (world_of w)))) asked
turn_asks p thread answers.Plain own w locals blocks new_locals new_blocks q asked reaches e f is =
    same_asks (world_of w) _ _ _ _ _ _ (bytes_asked new_blocks q) asked
    (turn_taken p thread answers.Plain own w locals blocks new_locals new_blocks q _ reaches e f refl)
    (turn_taken p thread answers.Got own w locals blocks new_locals new_blocks q _ reaches e f refl)
    (turn_taken p thread answers.None own w locals blocks new_locals new_blocks q _ reaches e f refl)
    is (asks p thread own.function (callers_of own.callers) q new_locals new_blocks (world_of w))
turn_asks p thread answers.Got own w locals blocks new_locals new_blocks q asked reaches e f is = is
turn_asks p thread answers.None own w locals blocks new_locals new_blocks q asked reaches e f is = is

told_if : {A : Type 0} (P : Program A) (s : State A) (p : Pick) (a : Answer) (c : A) (main own : Option A) → IsSome (turn_if P s p main own) → own ≡ Some c
    → turn_if P s (record { thread = p.thread; answer = a }) main own ≡ Some (P.turn p.thread a c s.world)
told_if P s p a c None own h e = cc
told_if P s p a c (Some main) own h e = rw e refl

-- what a thread asks for in its next turn, where that turn is one of a thread that runs
pub told_asks : {A : Type 0} (P : Program A) (s : State A) (p : Pick) (c : A) (asked : Option ℕ) → IsSome (picked P s p) → own_at s.own p.thread ≡ Some c
    → AreAskedOf p.answer (wish_by s.world (Some (P.turn p.thread answers.Plain c s.world)) (Some (P.turn p.thread answers.Got c s.world)) (Some (P.turn p.thread answers.None c s.world))) asked
    → AreAskedOf p.answer (wish P s p.thread) asked
told_asks P s p c asked h e k =
    let same : (a : Answer) → told P s p.thread a ≡ Some (P.turn p.thread a c s.world) = λ a. told_if P s p a c (own_at s.own 0) (own_at s.own p.thread) h e in
    rw (same answers.Plain, same answers.Got, same answers.None) k
