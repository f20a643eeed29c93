-- All events: the machine's state stands for the source's after the same turns, and what may come next follows the source's.
use Rattle.std.proofs.Common.{ℕ, List, ◌++◌, ap, ◌∙◌}
use Rattle.block_store.specs.Runs as runs
use Rattle.block_store.specs.Runs.{Pick}
use Rattle.sub_heaps.specs.SubHeaps.{IsShape}
use Rattle.struct_ir.specs.Nodes.{Ir}
use Rattle.struct_ir.specs.Structured.{Position}
use Rattle.struct_ir.specs.Threads.{Thread}
use Rattle.struct_ir.specs.meaning.Blocks.{Own}
use Rattle.struct_ir.specs.meaning.Start.{start}
use Rattle.struct_ir.specs.meaning.Threads.{program_of, start_in}
use Rattle.flat_meaning.specs.Image.{Limits, Image, limits_for, structured_image}
use Rattle.flat_meaning.specs.Events.{MachineState, Event, after_all, first_state}
use Rattle.flat_meaning.specs.Order.{order_of}
use Rattle.flat_meaning.specs.Simulation.{UpToABreak, EachTurnTakesAnAnswer, Simulates, EventsFollowTurns}
use Rattle.flat_meaning.specs.Start.{ids_of}
use Rattle.flat_simulation.specs.Kinds.{IsGuarded, TakesRightKinds, MeetsWrongKind, UpToAKind, StandsAfter, FollowsCode, EventsFollowCode}
use Rattle.flat_simulation.specs.inner.Kept.{EventsKeep}
use Rattle.flat_simulation.specs.inner.Next.{Next}
use Rattle.flat_simulation.specs.inner.Programs.{IsImage}
use Rattle.flat_simulation.proofs.ActsAlike.{stage_acts}
use Rattle.flat_simulation.proofs.AllEvents.{events_stand}
use Rattle.flat_simulation.proofs.First.{names, first_stands, first_ids}
use Rattle.flat_simulation.proofs.Followed.{step_follows}
use Rattle.flat_simulation.proofs.Going.{goes_on, ends, looks_on}
use Rattle.flat_simulation.proofs.KindRuns.{up_to, never_meets, none_met, all_right}
use Rattle.flat_simulation.proofs.Moved.{state_moved}
use Rattle.flat_simulation.proofs.Programs.{guarded_of, guarded_image}
use Rattle.flat_simulation.proofs.Public.{state_stands}
use Rattle.flat_simulation.proofs.WordsCome.{first_state_comes}

-- each kind of event keeps what it is to keep
pub events_keep : (p : Ir) (limits : Limits) → IsImage (structured_image p limits) p → EventsKeep p limits
events_keep p limits image = record {
  thread = λ thread names w m k g world stand. record {
    goes = λ can none. goes_on (structured_image p limits) p image thread names w m world k g stand can none;
    ends = λ can one. ends (structured_image p limits) p image thread names w m world k g stand can one;
    looks_on = λ at. looks_on (structured_image p limits) p image thread names w m world k g stand at;
    acts = λ choice at may not_waiting. stage_acts (structured_image p limits) p image thread (start_in p) names w m world k g stand choice at may not_waiting;
  };
  moves = λ names u s plan stand all legal. state_moved (structured_image p limits) p image names u s plan stand all legal;
}

module _ (p : Ir) (c : IsGuarded p) (output heaps heap ids : ℕ) (shape : IsShape heaps heap ids) where
  abbrev y : Image Position
  y = structured_image p (limits_for output heaps heap ids)

  -- of guarded code
  pub image_follows : FollowsCode p y
  image_follows es may =
      let limits = limits_for output heaps heap ids in
      let image : IsImage y p = guarded_image p c output heaps heap ids in
      let first = names p c output heaps heap ids shape in
      let order = order_of y es (first_state y) in
      let later = after_all y es (first_state y) in
      let begin = runs.first_state (program_of p) (start p) in
      let all = events_stand p limits image (events_keep p limits image) first (first_state y) (first_stands p c output heaps heap ids shape) (first_state_comes p limits) es may in
      up_to (runs.run (program_of p) (start p) order) (Next p limits first (ids_of es) later) (λ u. StandsAfter y p es u later) (MeetsWrongKind p order 0 begin) (λ u reached n. record {
        names = n.all;
        made = record { loaded = n.first; ids = n.ids ∙ ap (λ l. l ++ ids_of es) (first_ids p c output heaps heap ids shape) };
        stands = state_stands y p image n.all u later n.stands;
        steps = λ thread right. step_follows p limits image n.all u later n.stands thread right;
      }) all

pub events_follow_code : EventsFollowCode
events_follow_code p c output heaps heap ids shape = image_follows p c output heaps heap ids shape

-- ---- of checked code

-- no turn of it is of a wrong kind
pub up_to_a_break : (p : Ir) → EachTurnTakesAnAnswer p → (order : List Pick) (B D : runs.State (Thread Position Own) → Type 0)
    → ((u : runs.State (Thread Position Own)) → ((thread : ℕ) → TakesRightKinds p u thread) → B u → D u) → UpToAKind p order B → UpToABreak (runs.run (program_of p) (start p) order) D
up_to_a_break p answers order B D so h =
    let begin = runs.first_state (program_of p) (start p) in
    let r = runs.run (program_of p) (start p) order in
    let W : ℕ → Type 0 = MeetsWrongKind p order 0 begin in
    never_meets r D W (none_met p answers order) (up_to r B D W (λ u reached b. so u (all_right p answers order u reached) b) h)

-- each thread's next step follows
pub each_follows : (x : Image Position) (p : Ir) (es : List Event) (u : runs.State (Thread Position Own)) (s : MachineState Position) → ((thread : ℕ) → TakesRightKinds p u thread) → StandsAfter x p es u s → Simulates x p es u s
each_follows x p es u s right h = record {
  names = h.names;
  made = h.made;
  stands = h.stands;
  steps = record {
    reaches = λ thread choice t stage i e may at. (h.steps thread (right thread)).reaches choice t stage i e may at;
    waits = λ thread choice may end. (h.steps thread (right thread)).waits choice may end;
    traps = λ thread choice may end. (h.steps thread (right thread)).traps choice may end;
  };
}

pub events_follow_turns : EventsFollowTurns
events_follow_turns p c output heaps heap ids shape es may =
    let y : Image Position = structured_image p (limits_for output heaps heap ids) in
    let later = after_all y es (first_state y) in
    up_to_a_break p c.answers (order_of y es (first_state y)) (λ u. StandsAfter y p es u later) (λ u. Simulates y p es u later) (λ u right h. each_follows y p es u later right h)
    (image_follows p (guarded_of p c) output heaps heap ids shape es may)
