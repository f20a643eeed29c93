-- Journals of code of which it isn't known that each turn takes some answer: what they say up to the first operation on a value of a kind that it
-- doesn't take.
use Rattle.std.specs.Prelude.{◌≡◌, ◌≢◌, ℕ, ◌<◌, ◌⊎◌, List, ◌∷◌, ◌++◌, Any, length, take, Option, Some}
use Rattle.ak_trace.specs.declared.endings.End.{End}
use Rattle.ak_trace.specs.declared.endings.End.TheVariants as ends
use Rattle.ak_trace.specs.declared.entry.Entry.{Entry}
use Rattle.ak_trace.specs.Hows as how
use Rattle.ak_trace.specs.Kinds as kind
use Rattle.block_store.specs.declared.values.Answer.{Answer}
use Rattle.block_store.specs.Runs as runs
use Rattle.block_store.specs.Runs.{reaches, no_run, run}
use Rattle.struct_ir.specs.Nodes.{Ir}
use Rattle.struct_ir.specs.Instrs.{LinearCode}
use Rattle.struct_ir.specs.Structured.{Position}
use Rattle.struct_ir.specs.Threads.{Thread}
use Rattle.struct_ir.specs.meaning.Blocks.{Own}
use Rattle.struct_ir.specs.meaning.Start.{start}
use Rattle.struct_ir.specs.meaning.Threads.{program_of}
use Rattle.flat_meaning.specs.Journals.{journal_picks}
use Rattle.flat_meaning.specs.Order.{pick}
use Rattle.flat_rules.specs.declared.settings.Settings.{Settings}
use Rattle.flat_machine.specs.Replays.{Final}
use Rattle.flat_simulation.specs.Kinds.{TakesWrongKind, TakesRightKinds, MeetsWrongKind, UpToAKind}
use Rattle.flat_replay.specs.Accesses.{ActStays, ServeStays, StandsBy, TurnOf, ServesOf}
use Rattle.flat_replay.specs.Attempts.{attempts_from}
use Rattle.flat_replay.specs.Ids.{ids_told}
use Rattle.flat_replay.specs.Meaning.{BreaksAt, IsAsMeant, IsUpToABreak}

-- how many calls of a thread wait
abbrev pub depth_of : Thread Position Own → ℕ
depth_of t = length t.callers

module _ (p : Ir) (log : List Entry) where
  -- after so many turns there is an operation on a value of a kind that it doesn't take: the next turn of the order; a turn that the journal
  -- tells of as tried there and not done; or, where the run ended since all threads wait, a turn for which one of them waits
  pub data MeetsKindAt (end : Option End) (turns : ℕ) : Type 0 where
    in_order : MeetsWrongKind p (journal_picks log) 0 (runs.first_state (program_of p) (start p)) turns → MeetsKindAt end turns
    in_attempt : (thread : ℕ) (answer : Answer) (u : runs.State (Thread Position Own)) → Any (λ (a : ℕ × ℕ). a ≡ (thread, turns)) (attempts_from 0 log) → run (program_of p) (start p) (take turns (journal_picks log)) ≡ reaches u
        → TakesWrongKind p u (pick thread answer) → MeetsKindAt end turns
    in_waiting : (thread : ℕ) (answer : Answer) (u : runs.State (Thread Position Own)) → end ≡ Some ends.AllBlocked → turns ≡ length (journal_picks log) → run (program_of p) (start p) (journal_picks log) ≡ reaches u
        → TakesWrongKind p u (pick thread answer) → MeetsKindAt end turns

  -- after so many turns a rule of C is broken, or there is such an operation
  abbrev pub StopsAt : Option End → (turns : ℕ) → Type 0
  StopsAt end turns = BreaksAt (program_of p) (start p) depth_of log end turns ⊎ MeetsKindAt end turns

  -- nowhere
  abbrev pub NeverStops : Option End → Type 0
  NeverStops end = (turns : ℕ) → StopsAt end turns → ⊥

  -- the first is after so many turns
  abbrev pub IsFirstStop : Option End → (turns : ℕ) → Type 0
  IsFirstStop end turns = StopsAt end turns × ((before : ℕ) → before < turns → StopsAt end before → ⊥)

  -- what a journal's last state is, by the code's runs: each pick of its order is a turn, up to a broken rule or such an operation; where there is
  -- neither, output and end are those of the run of its order; and else, what the run of the turns before the first prints was printed first
  pub record IsMeaningUpToAKind (s : Settings) (f : Final) : Type 0 where
    pub a_run : (turns : ℕ) → run (program_of p) (start p) (journal_picks log) ≡ no_run turns → MeetsKindAt f.end turns
    pub clean : NeverStops f.end → IsAsMeant (program_of p) (start p) depth_of log s f
    pub stopped : (turns : ℕ) → IsFirstStop f.end turns → IsUpToABreak (program_of p) (start p) depth_of log turns f

-- ---- accesses

-- an entry of a turn, as `TurnStays` has it, up to a broken rule or such an operation, of the journal so far or of the thread's own turns: the state
-- stands; and unless the thread's next turn is such an operation, its step stays
abbrev pub TurnStaysUpToAKind : Ir → LinearCode → Settings → List Entry → Entry → Type 0
TurnStaysUpToAKind p code s log e = TurnOf code s log e
    (λ picks y moved choice stage. UpToAKind p picks (λ u. StandsBy y p (ids_told log) u moved × (TakesRightKinds p u e.thread → ActStays y p (ids_told log) u moved e.thread choice stage)))

-- and one of a barrier, as `ServesStay` has it
abbrev pub ServesStayUpToAKind : Ir → LinearCode → Settings → List Entry → Entry → Type 0
ServesStayUpToAKind p code s log e = ServesOf code s log e
    (λ picks given y served v q. UpToAKind p picks (λ u. StandsBy y p given u served × (TakesRightKinds p u v.thread → ServeStays y p given u served v q)))

-- each entry of a turn, and each of a barrier, which an evacuation's is not
pub record AccessesKeepUpToAKind (p : Ir) (code : LinearCode) (s : Settings) (log : List Entry) : Type 0 where
  pub turns : (front : List Entry) (e : Entry) (more : List Entry) → log ≡ front ++ e ∷ more → e.kind ≡ kind.turn → TurnStaysUpToAKind p code s front e
  pub served : (front : List Entry) (e : Entry) (more : List Entry) → log ≡ front ++ e ∷ more → e.kind ≡ kind.barrier → e.how ≢ how.evacuation → ServesStayUpToAKind p code s front e
