-- That the meaning of a well formed program never goes wrong: all values keep their types, and a turn comes to nothing for one reason
-- alone, that the answer doesn't fit its action.
use Rattle.std.specs.Prelude.{◌≡◌, ◌↔◌, ℕ, ◌^◌, ◌<◌, ◌≤◌, List, [], ◌∷◌, ◌++◌, Option, Some, None, Result, Ok, Err}
use Rattle.ak_words.specs.declared.rule.Rule.{Rule}
use Rattle.ak_words.specs.declared.rule.Rule.TheVariants.{C16}
use Rattle.block_store.specs.declared.values.Answer.{Answer}
use Rattle.block_store.specs.declared.values.Answer.TheVariants as answers
use Rattle.block_store.specs.declared.values.Ptr.{Ptr}
use Rattle.block_store.specs.Actions as actions
use Rattle.block_store.specs.Actions.{World, SharedAction, Done, acted}
use Rattle.block_store.specs.Blocks.{Blocks, renewed}
use Rattle.block_store.specs.Runs as runs
use Rattle.block_store.specs.Runs.{Turn, State, Pick}
use Rattle.c_tree.specs.Typed as tree
use Rattle.c_tree.specs.TypedForm.{IsWellFormed}
use Rattle.c_meaning.specs.Control.{Control}
use Rattle.c_meaning.specs.Turns.{plainly, turn}
use Rattle.c_meaning.specs.Meaning.{program, start, run}
use Rattle.c_meaning.specs.Kinds.{IsTypedControl, IsTypedWorld, CanBegin}

-- ---- answers

-- an allocation of so many bytes takes this answer: there is no block of 2^32 bytes or more
abbrev pub TakesRoom : (size : ℕ) → Answer → Type 0
TakesRoom size answers.Plain = ⊥
TakesRoom size answers.Got = size < 2 ^ 32
TakesRoom size answers.None = Unit {0}

-- a realloc, by what comes of it where it gets its block: one that breaks a rule breaks it whatever it is told
abbrev pub TakesRenewed : Result Blocks Rule → (size : ℕ) → Answer → Type 0
TakesRenewed (Err rule) size answer = Unit {0}
TakesRenewed (Ok blocks) size answer = TakesRoom size answer

-- an action in a world takes this answer: only an allocation and a new thread leave a choice
abbrev pub Takes : World → SharedAction → Answer → Type 0
Takes w (actions.allocate size first) answer = TakesRoom size answer
Takes w (actions.reallocate at size) answer = TakesRenewed (renewed w.blocks at size) size answer
Takes w (actions.start to function argument) answers.Plain = ⊥
Takes w (actions.start to function argument) answers.Got = Unit {0}
Takes w (actions.start to function argument) answers.None = Unit {0}
Takes w action answers.Plain = Unit {0}
Takes w action answers.Got = ⊥
Takes w action answers.None = ⊥

-- how a turn ends: by a rule that it breaks before any action; without an action, where a round of a loop is over, or a call is
-- entered or left; or by an action in a world
pub data End : Type 0 where
  breaking : (rule : Rule) (place : ℕ) → End
  quiet : (own : Control) (w : World) → End
  acting : (place : ℕ) (action : SharedAction) (w : World) → End

-- a turn that ends so fits this answer: one that breaks a rule before any action does so under each
abbrev pub FitsEnd : End → Answer → Type 0
FitsEnd (breaking rule place) answer = Unit {0}
FitsEnd (quiet own w) answers.Plain = Unit {0}
FitsEnd (quiet own w) answers.Got = ⊥
FitsEnd (quiet own w) answers.None = ⊥
FitsEnd (acting place action w) answer = Takes w action answer

-- the turn comes out as its action does
abbrev pub ComesOutAs : (place : ℕ) → Done → Turn Control → Type 0
ComesOutAs place (actions.went v w) (runs.went own x) = x ≡ w
ComesOutAs place (actions.went v w) (runs.ended x) = x ≡ w
ComesOutAs place actions.blocked runs.blocked = Unit {0}
ComesOutAs place actions.unfit runs.unfit = Unit {0}
ComesOutAs place (actions.broke rule) t = t ≡ runs.broke rule place
ComesOutAs place d t = ⊥

-- any rule but C16, which is that of cells that hold no value of an access's kind: only an action breaks it
abbrev pub IsNotC16 : Rule → Type 0
IsNotC16 rule = rule ≡ C16 → ⊥

-- a turn of a thread, under each answer, ends so
abbrev pub EndsAs : (thread : ℕ) → (Answer → Turn Control) → End → Type 0
EndsAs thread t (breaking rule place) = IsNotC16 rule × ((answer : Answer) → t answer ≡ runs.broke rule place)
EndsAs thread t (quiet own w) = (answer : Answer) → t answer ≡ plainly answer (runs.went own w)
EndsAs thread t (acting place action w) = (answer : Answer) → ComesOutAs place (acted w thread answer action) (t answer)

-- an action that asks for something, so that it's chosen whether the thread gets it
abbrev pub IsChosen : SharedAction → Type 0
IsChosen (actions.allocate size first) = Unit {0}
IsChosen (actions.reallocate at size) = Unit {0}
IsChosen (actions.start to function argument) = Unit {0}
IsChosen action = ⊥

-- an allocation of 2^32 bytes or more
abbrev pub AllocatesTooMuch : SharedAction → Type 0
AllocatesTooMuch (actions.allocate size first) = 2 ^ 32 ≤ size
AllocatesTooMuch (actions.reallocate at size) = 2 ^ 32 ≤ size
AllocatesTooMuch action = ⊥

-- ---- turns

-- the turn doesn't take its answer
abbrev pub IsUnfit : Turn Control → Type 0
IsUnfit runs.unfit = Unit {0}
IsUnfit t = ⊥

-- what a turn leaves is well formed
abbrev pub IsTypedTurn : tree.Typed → Turn Control → Type 0
IsTypedTurn t (runs.went own w) = IsTypedControl t own × IsTypedWorld t w
IsTypedTurn t (runs.ended w) = IsTypedWorld t w
IsTypedTurn t runs.blocked = Unit {0}
IsTypedTurn t runs.unfit = Unit {0}
IsTypedTurn t (runs.broke rule place) = Unit {0}

-- ---- the laws

-- a thread that begins with a function that one may begin with is well formed
abbrev pub ThreadsBeginTyped : Type 0
ThreadsBeginTyped = (t : tree.Typed) → IsWellFormed t → (number : ℕ) → CanBegin t number → (argument : Ptr) → IsTypedControl t ((program t).begins number argument)

-- a turn keeps all types, in every world and under every answer
abbrev pub TurnsKeepTypes : Type 0
TurnsKeepTypes = (t : tree.Typed) → IsWellFormed t → (thread : ℕ) (answer : Answer) (c : Control) (w : World) → IsTypedControl t c → IsTypedWorld t w
    → IsTypedTurn t (turn t thread answer c w)

-- a turn has one of these ends, the same under every answer, and takes just the answers that fit it
abbrev pub TurnsGoOn : Type 0
TurnsGoOn = (t : tree.Typed) → IsWellFormed t → (thread : ℕ) (c : Control) (w : World) → IsTypedControl t c → IsTypedWorld t w
    → (e : End) × EndsAs thread (λ answer. turn t thread answer c w) e × ((answer : Answer) → (IsUnfit (turn t thread answer c w) → ⊥) ↔ FitsEnd e answer)

-- where it doesn't take Plain, it ends by an allocation or by a new thread: it takes None, and Got but for 2^32 bytes or more
abbrev pub SomeAnswerFits : Type 0
SomeAnswerFits = (t : tree.Typed) → IsWellFormed t → (thread : ℕ) (c : Control) (w : World) → IsTypedControl t c → IsTypedWorld t w → IsUnfit (turn t thread answers.Plain c w)
    → (place : ℕ) × (action : SharedAction) × (x : World) × EndsAs thread (λ answer. turn t thread answer c w) (acting place action x) × IsChosen action
    × (IsUnfit (turn t thread answers.None c w) → ⊥) × (IsUnfit (turn t thread answers.Got c w) → AllocatesTooMuch action)

-- ---- runs

-- each thread that runs is well formed
abbrev pub AreTypedThreads : tree.Typed → List (Option Control) → Type 0
AreTypedThreads t [] = Unit {0}
AreTypedThreads t (None ∷ all) = AreTypedThreads t all
AreTypedThreads t (Some c ∷ all) = IsTypedControl t c × AreTypedThreads t all

-- a state is well formed: its world is, and each thread that runs
pub record IsTypedState (t : tree.Typed) (s : State Control) : Type 0 where
  pub world : IsTypedWorld t s.world
  pub threads : AreTypedThreads t s.own

-- so is the state that a pick of a thread leads to, if it leads to one
abbrev pub LeadsOn : tree.Typed → State Control → (thread : ℕ) → Option (Turn Control) → Type 0
LeadsOn t s thread (Some (runs.went own w)) = IsTypedState t (runs.next_state (program t) s thread (Some own) w)
LeadsOn t s thread (Some (runs.ended w)) = IsTypedState t (runs.next_state (program t) s thread None w)
LeadsOn t s thread turned = Unit {0}

-- the state in which a run begins is well formed
abbrev pub RunsBeginTyped : Type 0
RunsBeginTyped = (t : tree.Typed) → IsWellFormed t → IsTypedState t (runs.first_state (program t) (start t))

-- each pick, in a well formed state, leads only to one
abbrev pub PicksKeepTypes : Type 0
PicksKeepTypes = (t : tree.Typed) → IsWellFormed t → (s : State Control) (p : Pick) → IsTypedState t s → LeadsOn t s p.thread (runs.picked (program t) s p)

-- each state that a run of an order reaches is well formed
abbrev pub RunsKeepTypes : Type 0
RunsKeepTypes = (t : tree.Typed) → IsWellFormed t → (order : List Pick) (s : State Control) → run t order ≡ runs.reaches s → IsTypedState t s

-- a run goes on from each such state by a turn of any thread that runs while main does, under an answer that fits this turn's end: the
-- order that goes on so has no run only where the turn waits
abbrev pub RunsGoOn : Type 0
RunsGoOn = (t : tree.Typed) → IsWellFormed t → (order : List Pick) (s : State Control) → run t order ≡ runs.reaches s
    → (p : Pick) (main own : Control) → runs.own_at s.own 0 ≡ Some main → runs.own_at s.own p.thread ≡ Some own
    → (e : End) × EndsAs p.thread (λ answer. turn t p.thread answer own s.world) e
    × (FitsEnd e p.answer → (k : ℕ) → run t (order ++ p ∷ []) ≡ runs.no_run k → turn t p.thread p.answer own s.world ≡ runs.blocked)
