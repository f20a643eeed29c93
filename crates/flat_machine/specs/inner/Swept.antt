-- What the parts of a barrier leave.
use Rattle.std.specs.Prelude.{◌≡◌, ℕ, ◌+◌, ◌≤◌, is_some, true, false, [], ◌∷◌, ◌++◌, List, length, map, Option, Some, None}
use Rattle.std.specs.List.{range_with_len}
use Rattle.struct_ir.specs.Instrs.{LinearCode}
use Rattle.struct_ir.specs.Linear.{Spot}
use Rattle.flat_meaning.specs.Allowed.{handles_if, pinned}
use Rattle.flat_meaning.specs.Effects.{serve_effect}
use Rattle.flat_meaning.specs.Events.{MachineState, Serve, after_serves, moved_state}
use Rattle.flat_meaning.specs.Memory.{words_leaving}
use Rattle.flat_meaning.specs.Ready as stages
use Rattle.flat_meaning.specs.Stages.{Stage}
use Rattle.flat_rules.specs.Entries.{served_entry}
use Rattle.flat_threads.specs.Contexts.{Context, own_image, standing}
use Rattle.flat_threads.specs.Waits.{waits_at}
use Rattle.flat_machine.specs.declared.turned.Turned.{Turned}
use Rattle.flat_machine.specs.declared.turned.Turned.TheVariants as code
use Rattle.flat_machine.specs.Shares.{Shared, image_of, limits_of}
use Rattle.flat_machine.specs.Sweeping.{at_home, home_at, last_of, serve_of, served_of, serves_from, sweep_moves, waits_at_home, with_barrier}

-- the handles in listed slots of the thread of a place
abbrev pub handles_home : LinearCode → Option Context → List ℕ
handles_home code None = []
handles_home code (Some c) = handles_if (own_image code).flow c.stage

-- the objects have slid, and that is told
abbrev pub shared_slid : LinearCode → Shared → List (Option Context) → Shared
shared_slid code s home = let x = image_of code s in let here = at_home s home in let moves = sweep_moves x here in record {
  memory = (moved_state moves here).memory;
  output_limit = s.output_limit;
  made = s.made;
  barriers = with_barrier s.barriers moves (last_of (pinned x here) s.memory.storage.heaps moves);
}

-- the object that the turn of an allocation tells
abbrev pub object_told : Turned → Option (ℕ × ℕ)
object_told (code.Got id place) = Some (id, place)
object_told turned = None

-- how the allocation of a thread at this stage is served now
abbrev pub serve_now : LinearCode → Shared → (thread : ℕ) → Stage Spot → Serve
serve_now code s thread stage = serve_of (image_of code s) (record { memory = s.memory; own = []; end = None }) thread stage

-- an allocation that waits is served, and its thread then stands behind it
pub record IsServed (code : LinearCode) (old new : Shared) (c d : Context) : Type 0 where
  pub stage : Stage Spot
  pub is : c.stage ≡ Some stage
  pub wants : stages.wants_room (own_image code) stage ≡ true
  pub behind : Stage Spot
  pub effect : serve_effect (image_of code old) c.number (serve_now code old c.number stage).choice stage old.memory ≡ record { memory = new.memory; stage = Some behind; end = None }
  pub context : d ≡ standing c (Some behind) (waits_at (own_image code) (Some behind))
  pub serves : is_some old.memory.leaving ≡ true → is_some new.memory.leaving ≡ true
  pub leaving : length (words_leaving new.memory.leaving) ≤ length (words_leaving old.memory.leaving) + 1
  pub threads : new.memory.threads ≡ old.memory.threads
  pub limits : limits_of new ≡ limits_of old
  pub shared : new ≡ record old { memory = new.memory; made = old.made ++ served_entry 0 (served_of (serve_now code old c.number stage)) ∷ [] }

-- the thread of a place waits at an allocation, and that is served
pub record IsServedAt (code : LinearCode) (old new : Shared) (before after : Option Context) : Type 0 where
  pub context : Context
  pub is : before ≡ Some context
  pub behind : Context
  pub is_behind : after ≡ Some behind
  pub served : IsServed code old new context behind

-- if it does; and else nothing changes
pub record IsServedIf (code : LinearCode) (old new : Shared) (before after : Option Context) : Type 0 where
  pub waits : waits_at_home before ≡ true → IsServedAt code old new before after
  pub none : waits_at_home before ≡ false → (new ≡ old) × (after ≡ before)

-- the allocations of so many threads, counted from 0, as they are served
abbrev pub serves_below : LinearCode → Shared → List (Option Context) → (count : ℕ) → List Serve
serves_below code s home count = serves_from (image_of code s) (range_with_len 0 count) (at_home s home)

-- and the state behind that
abbrev pub state_below : LinearCode → Shared → List (Option Context) → (count : ℕ) → MachineState Spot
state_below code s home count = after_serves (image_of code s) (serves_below code s home count) (at_home s home)

-- all allocations that wait are served
pub record AreServed (code : LinearCode) (old new : Shared) (home behind : List (Option Context)) : Type 0 where
  pub shared : let count = length old.memory.threads in new ≡ record old { memory = (state_below code old home count).memory; made = old.made ++ map (λ v. served_entry 0 (served_of v)) (serves_below code old home count) }
  pub home_ : behind ≡ home_at code (state_below code old home (length old.memory.threads)).own home
