-- What act makes of what threads share and of a context.
use Rattle.std.specs.Prelude.{ℕ, [], ◌∷◌, Option, Some, None}
use Rattle.struct_ir.specs.Instrs.{LinearCode}
use Rattle.struct_ir.specs.Linear.{Spot}
use Rattle.flat_meaning.specs.declared.endings.Stop.{Stop}
use Rattle.flat_meaning.specs.declared.endings.Stop.TheVariants.{AtStep, Spent, NoRoom}
use Rattle.flat_meaning.specs.Image.{Image}
use Rattle.flat_meaning.specs.Memory.{Memory}
use Rattle.flat_meaning.specs.Accesses.{Choice}
use Rattle.flat_meaning.specs.Stages.{Stage, Before, looks, thread_at, before}
use Rattle.flat_meaning.specs.Effects.{Effect, no_effect, act_effect, look_effect}
use Rattle.flat_rules.specs.Entries.{turn_entry}
use Rattle.flat_rules.specs.Machine.{Acted, Turned}
use Rattle.flat_threads.specs.Contexts.{Context, own_image}
use Rattle.flat_threads.specs.Waits.{waits_at}
use Rattle.flat_machine.specs.Choices.{malloc_choice, choice_here}
use Rattle.flat_machine.specs.Shares.{Shared, image_of}
use Rattle.flat_machine.specs.Turns.{turned_of}

-- ---- the pending step

-- behind Spent it is a rest, which does nothing; a Look is done; and else a step, or the end of the run where a call has no room
abbrev pub effect_before : Image Spot → (number : ℕ) → Choice → Stage Spot → Memory → Stop → Before → Effect Spot
effect_before x number choice stage m Spent b = no_effect m stage
effect_before x number choice stage m NoRoom b = act_effect x number choice stage m
effect_before x number choice stage m AtStep looks = look_effect x number stage m
effect_before x number choice stage m AtStep b = act_effect x number choice stage m

-- of a thread that stopped so
abbrev pub effect_of : Image Spot → (number : ℕ) → Choice → Stage Spot → Memory → Stop → Effect Spot
effect_of x number choice stage m stop = effect_before x number choice stage m stop (before x (thread_at x stage))

-- what is chosen for it
abbrev pub choice_for : Image Spot → Memory → Stage Spot → Choice
choice_for x m stage = let p = (thread_at x stage).top in choice_here (malloc_choice m.storage) p.own (x.flow.here p.at)

-- of a context's thread, if it has begun and has stopped
abbrev pub effect_if : Image Spot → (number : ℕ) → Memory → Option (Stage Spot) → Option Stop → Effect Spot
effect_if x number m (Some stage) (Some stop) = effect_of x number (choice_for x m stage) stage m stop
effect_if x number m (Some stage) None = no_effect m stage
effect_if x number m None stop = record { memory = m; stage = None; end = None }

-- what act does
abbrev pub act_of : LinearCode → Shared → Context → Effect Spot
act_of code s c = effect_if (image_of code s) c.number s.memory c.stage c.stop

-- ---- behind it

-- what threads share, with the one entry of the step, told with worker 0
abbrev pub shared_behind : Shared → Context → Memory → Turned → Shared
shared_behind s c m turned = record { memory = m; output_limit = s.output_limit; made = turn_entry 0 c.number c.turns turned ∷ []; barriers = s.barriers }

-- the context
abbrev pub context_behind : LinearCode → Context → Option (Stage Spot) → Context
context_behind code c stage = record { number = c.number; stage = stage; turns = c.turns; stop = None; wait = waits_at (own_image code) stage }

-- what a context's pending step comes to, with the turns that its thread did alone before
abbrev pub acted_by : LinearCode → Shared → Context → Acted Shared Context
acted_by code s c = let turned = turned_of (image_of code s) c.number s.memory c.stage c.stop in record {
  local = c.turns;
  turned = turned;
  shared = shared_behind s c (act_of code s c).memory turned;
  context = context_behind code c (act_of code s c).stage;
}
