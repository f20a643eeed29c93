-- What the steps of a journal read and write, entry by entry: of its own turns, in the states that its replay has there.
use Rattle.std.specs.Prelude.{◌≡◌, ◌≢◌, ℕ, true, List, [], ◌∷◌, ◌++◌, replicate, set, Some, None}
use Rattle.ak_trace.specs.declared.entry.Entry.{Entry}
use Rattle.ak_trace.specs.Hows as how
use Rattle.ak_trace.specs.Kinds as kind
use Rattle.ak_words.specs.Prefix.{IsPrefix}
use Rattle.block_store.specs.declared.values.Answer.TheVariants as answers
use Rattle.block_store.specs.Runs as runs
use Rattle.block_store.specs.Runs.{Pick, own_at, run}
use Rattle.struct_ir.specs.Nodes.{Ir}
use Rattle.struct_ir.specs.Instrs.{LinearCode}
use Rattle.struct_ir.specs.Linear.{Spot}
use Rattle.struct_ir.specs.Structured.{Position}
use Rattle.struct_ir.specs.Threads.{Thread}
use Rattle.struct_ir.specs.meaning.Blocks.{Own}
use Rattle.struct_ir.specs.meaning.Start.{start}
use Rattle.struct_ir.specs.meaning.Threads.{program_of}
use Rattle.flat_meaning.specs.declared.endings.Stop.{Stop}
use Rattle.flat_meaning.specs.Accesses.{Choice}
use Rattle.flat_meaning.specs.Events as events
use Rattle.flat_meaning.specs.Events.{Event, Serve, act, after_all, after_serves, moved_state, served_state, serving_state}
use Rattle.flat_meaning.specs.Image.{Image}
use Rattle.flat_meaning.specs.Journals.{journal_picks}
use Rattle.flat_meaning.specs.Names.{Name, ids_in}
use Rattle.flat_meaning.specs.Order.{order_of, pick, picks_of_serve, picks_of_serves}
use Rattle.flat_meaning.specs.Simulation.{UpToABreak}
use Rattle.flat_meaning.specs.Stages.{Stage, waiting}
use Rattle.flat_meaning.specs.Stands.{WorldStands}
use Rattle.flat_meaning.specs.Start.{first_names, served_ids}
use Rattle.flat_meaning.specs.Words.{Words}
use Rattle.flat_rules.specs.declared.settings.Settings.{Settings}
use Rattle.flat_rules.specs.Events.{most_local}
use Rattle.flat_rules.specs.Replays.{step}
use Rattle.flat_rules.specs.Replays as rules
use Rattle.flat_rules.specs.Rules.{rules_of}
use Rattle.flat_rules.specs.States.{Mood, free, asked, must, RunState, out, place_at, homes_of, none_out}
use Rattle.flat_rules.specs.States as states
use Rattle.flat_threads.specs.Contexts.{Context}
use Rattle.flat_threads.specs.Going.{gone_on}
use Rattle.world_rules.specs.Journals.{IsBehind}
use Rattle.flat_machine.specs.Laws.{events_of}
use Rattle.flat_machine.specs.Machine.{machine_of}
use Rattle.flat_machine.specs.Replays.{replay}
use Rattle.flat_machine.specs.Shares.{Shared, image_of}
use Rattle.flat_machine.specs.Start.{first_shared, settings_limits}
use Rattle.flat_machine.specs.Sweeping.{at_home, sweep_moves, sweep_serves}
use Rattle.flat_simulation.specs.LinearSteps.{ActFollows, HasStack, TurnsTouch}
use Rattle.flat_replay.specs.Barriers.{middle}
use Rattle.flat_replay.specs.Ids.{ids_told}
use Rattle.flat_replay.specs.Journals.{stages_in}

-- ---- the machine's states at an entry

-- each thread where its context says, but for one, which has gone on to this stage
abbrev pub gone_to : RunState Shared Context → (thread : ℕ) → Stage Spot → events.MachineState Spot
gone_to x thread stage = record { memory = x.shared.memory; own = set (stages_in x) thread (Some stage); end = None }

-- how many turns a thread goes on alone at most
abbrev pub bound_of : Mood → ℕ
bound_of free = most_local
bound_of asked = 0
bound_of must = 0

-- all threads at home, behind a barrier's moves, where it begins to serve and threads shared this before the moves
abbrev pub swept_first : LinearCode → Shared → RunState Shared Context → events.MachineState Spot
swept_first code shared x = let s = at_home shared (homes_of x.places) in serving_state (moved_state (sweep_moves (image_of code shared) s) s)

-- the machine's events of a turn, of a thread that has gone on to this stage and stops there
abbrev pub turn_events : LinearCode → RunState Shared Context → (thread : ℕ) → Stage Spot → Stop → List Event
turn_events code x thread stage stop = events_of (image_of code x.shared) thread x.shared.memory stage stop

-- and the state behind them
abbrev pub behind_turn : LinearCode → RunState Shared Context → (thread : ℕ) → Stage Spot → Stop → events.MachineState Spot
behind_turn code x thread stage stop = after_all (image_of code x.shared) (turn_events code x thread stage stop) (gone_to x thread stage)

-- the allocations that a barrier serves, in their order
abbrev pub barrier_serves : LinearCode → Shared → RunState Shared Context → List Serve
barrier_serves code shared x = sweep_serves (image_of code shared) (at_home shared (homes_of x.places))

-- ---- a step in a state

-- by names of the globals and literals, and of the objects that got these ids, in this order, what is shared stands for the source's
-- world; the source has each thread that the machine has, and each of its stack objects that has begun lies at its place in its call
pub record StandsBy (y : Image Spot) (p : Ir) (given : List ℕ) (u : runs.State (Thread Position Own)) (s : events.MachineState Spot) : Type 0 where
  pub names : List Name
  pub loaded : IsPrefix (first_names y.layout) names
  pub ids : ids_in names ≡ given
  pub world : WorldStands names u.world s.memory
  pub stacks : (thread : ℕ) (stage : Stage Spot) → own_at s.own thread ≡ Some stage → HasStack y p thread names u stage

-- a thread's step, with what is chosen for it, done or tried: it follows its turn
pub record ActStays (y : Image Spot) (p : Ir) (given : List ℕ) (u : runs.State (Thread Position Own)) (s : events.MachineState Spot) (thread : ℕ) (choice : Choice) (stage : Stage Spot) : Type 0 where
  pub stands : StandsBy y p given u s
  pub own : Thread Position Own
  pub at : own_at u.own thread ≡ Some own
  pub follows : ActFollows y p stands.names u s thread choice own stage

-- an allocation that is served, of a thread that waits there, in the state that its barrier leaves where it serves those before alone: their
-- old objects have left. There a realloc of what has left with them is a trap, and so has no turn
pub record ServeStays (y : Image Spot) (p : Ir) (given : List ℕ) (u : runs.State (Thread Position Own)) (s : events.MachineState Spot) (v : Serve) (q : Thread Spot Words) : Type 0 where
  pub stands : StandsBy y p given u s
  pub own : Thread Position Own
  pub at : own_at u.own v.thread ≡ Some own
  pub touches : TurnsTouch y p stands.names u s own q (picks_of_serve y s.memory v (Some (waiting q)))

-- ---- an entry of a turn

-- what the journal leads to, where the entry's thread is out with the entry's worker
pub record IsOut (code : LinearCode) (s : Settings) (log : List Entry) (e : Entry) : Type 0 where
  pub here : RunState Shared Context
  pub leads : replay code s log ≡ Some here
  pub context : Context
  pub count : ℕ
  pub mood : Mood
  pub at : place_at here.places e.thread ≡ out e.worker context count mood

-- where a thread goes to alone, in as many turns as the entry tells
pub record GoesAlone (code : LinearCode) (mood : Mood) (context : Context) (e : Entry) : Type 0 where
  pub stage : Stage Spot
  pub comes_to : (gone_on code (bound_of mood) context).stage ≡ Some stage
  pub stop : Stop
  pub stops : (gone_on code (bound_of mood) context).stop ≡ Some stop
  pub turns : (gone_on code (bound_of mood) context).turns ≡ e.local

-- the machine's event there, if it has one, does what the entry does, and its turn is the entry's, behind those that the thread does alone
pub record DoesTurn (code : LinearCode) (s : Settings) (here : RunState Shared Context) (e : Entry) (stage : Stage Spot) (stop : Stop) : Type 0 where
  pub next : RunState Shared Context
  pub goes : step (machine_of code) (rules_of s) here e ≡ Some next
  pub memory : next.shared.memory ≡ (behind_turn code here e.thread stage stop).memory
  pub ending : next.ending ≡ (behind_turn code here e.thread stage stop).end
  pub turns : journal_picks (e ∷ [])
      ≡ replicate e.local (pick e.thread answers.Plain) ++ order_of (image_of code here.shared) (turn_events code here e.thread stage stop) (gone_to here e.thread stage)

-- all of it; and what is claimed of the step, behind the turns of the journal so far and the thread's own
pub record TurnOf (code : LinearCode) (s : Settings) (log : List Entry) (e : Entry) (Claim : List Pick → Image Spot → events.MachineState Spot → Choice → Stage Spot → Type 0) : Type 0 where
  pub is_out : IsOut code s log e
  pub alone : GoesAlone code is_out.mood is_out.context e
  pub does : DoesTurn code s is_out.here e alone.stage alone.stop
  pub keeps : (choice : Choice) → turn_events code is_out.here e.thread alone.stage alone.stop ≡ act e.thread choice ∷ []
      → Claim (journal_picks log ++ replicate e.local (pick e.thread answers.Plain)) (image_of code is_out.here.shared) (gone_to is_out.here e.thread alone.stage) choice alone.stage

-- unless a turn broke a rule, of the journal so far or of the thread's own, its step stays in the run of these turns
abbrev pub TurnStays : Ir → LinearCode → Settings → List Entry → Entry → Type 0
TurnStays p code s log e = TurnOf code s log e (λ picks y moved choice stage. UpToABreak (run (program_of p) (start p) picks) (λ u. ActStays y p (ids_told log) u moved e.thread choice stage))

-- ---- an entry of a barrier

-- what the journal leads to up to the entry or its evacuation, where no thread is out; and of each allocation that is then served, behind
-- the moves and the allocations before it, by which thread it waits, and what is claimed of it, behind the turns so far
pub record ServesOf (code : LinearCode) (s : Settings) (log : List Entry) (e : Entry) (Claim : List Pick → (given : List ℕ) → Image Spot → events.MachineState Spot → Serve → Thread Spot Words → Type 0) : Type 0 where
  pub front : List Entry
  pub behind : IsBehind front log e
  pub here : RunState Shared Context
  pub leads : replay code s front ≡ Some here
  pub alone : none_out (machine_of code) (rules_of s) here ≡ true
  pub next : RunState Shared Context
  pub goes : rules.run (machine_of code) (rules_of s) (log ++ e ∷ []) (states.start (machine_of code) (rules_of s) (first_shared code (settings_limits s))) ≡ Some next
  pub memory : let shared = middle code s here in
      next.shared.memory ≡ (served_state (after_serves (image_of code shared) (barrier_serves code shared here) (swept_first code shared here))).memory
  pub keeps : let shared = middle code s here in let y = image_of code shared in (vs : List Serve) (v : Serve) (us : List Serve) → barrier_serves code shared here ≡ vs ++ v ∷ us
      → (q : Thread Spot Words) × (own_at (after_serves y vs (swept_first code shared here)).own v.thread ≡ Some (waiting q))
      × Claim (journal_picks front ++ picks_of_serves y vs (swept_first code shared here)) (ids_told front ++ served_ids vs) y (served_state (after_serves y vs (swept_first code shared here))) v q

-- unless a turn so far broke a rule, each stays
abbrev pub ServesStay : Ir → LinearCode → Settings → List Entry → Entry → Type 0
ServesStay p code s log e = ServesOf code s log e (λ picks given y served v q. UpToABreak (run (program_of p) (start p) picks) (λ u. ServeStays y p given u served v q))

-- ---- a journal

-- each entry of a turn, and each of a barrier, which an evacuation's is not. (A Look reads a word of the table and no byte: its event has no turn here.)
pub record AccessesKeep (p : Ir) (code : LinearCode) (s : Settings) (log : List Entry) : Type 0 where
  pub turns : (front : List Entry) (e : Entry) (more : List Entry) → log ≡ front ++ e ∷ more → e.kind ≡ kind.turn → TurnStays p code s front e
  pub served : (front : List Entry) (e : Entry) (more : List Entry) → log ≡ front ++ e ∷ more → e.kind ≡ kind.barrier → e.how ≢ how.evacuation → ServesStay p code s front e
