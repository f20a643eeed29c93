-- What a thread waits for that stands before a step that couldn't be done.
use Rattle.std.specs.Prelude.{ℕ, List, [], ◌∷◌, map, Option, Some, None}
use Rattle.struct_ir.specs.Nodes.{Action, malloc, calloc, realloc, lock, join, step}
use Rattle.struct_ir.specs.Flow.{Here, does}
use Rattle.struct_ir.specs.Linear.{Spot}
use Rattle.flat_meaning.specs.Image.{Image}
use Rattle.flat_meaning.specs.Words.{Words, word_at, Target, target_of}
use Rattle.flat_meaning.specs.Stages.{Stage, waiting}
use Rattle.flat_threads.specs.declared.wait.Wait.{Wait}
use Rattle.flat_threads.specs.declared.wait.Wait.TheVariants as waits

-- an allocation for room, a lock for its mutex, a join for the thread
abbrev pub action_waits : Action → List Target → List ℕ → Option Wait
action_waits malloc places words = Some waits.Room
action_waits calloc places words = Some waits.Room
action_waits realloc places words = Some waits.Room
action_waits lock (a ∷ []) [] = Some (waits.Mutex a.address)
action_waits join (to ∷ []) (number ∷ []) = Some (waits.Thread number)
action_waits action places words = None

-- by what stands there
abbrev pub waits_here : Words → Here → Option Wait
waits_here l (does place (step s)) = action_waits s.action (map (target_of l) s.places) (map (word_at l) s.temps)
waits_here l here = None

-- of a stage
abbrev pub waits_at : Image Spot → Option (Stage Spot) → Option Wait
waits_at x (Some (waiting t)) = waits_here t.top.own (x.flow.here t.top.at)
waits_at x stage = None
