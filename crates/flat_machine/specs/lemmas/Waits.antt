-- What a context waits for is what its stage waits for.
use Rattle.std.proofs.Common.{◌≡◌, List, [], ◌∷◌, ℕ, false, Some, refl, map}
use Rattle.struct_ir.specs.Nodes.{Action, load, store, copy_bytes, malloc, calloc, realloc, free, change, compare, print, lock, unlock, destroy, start, join, set, call, step, look, safepoint, begin_object, end_object}
use Rattle.struct_ir.specs.Flow.{Here, does, tests, passes, round, returns}
use Rattle.struct_ir.specs.Linear.{Spot}
use Rattle.flat_meaning.specs.Image.{Image}
use Rattle.flat_meaning.specs.Memory.{Memory}
use Rattle.flat_meaning.specs.Words.{Target, Words, word_at, target_of}
use Rattle.flat_meaning.specs.Ready as stages
use Rattle.flat_meaning.specs.Ready.{action_ready, ready_at, takes_room, is_allocation}
use Rattle.flat_meaning.specs.Stages.{Stage, starts, going, waiting, landed}
use Rattle.flat_threads.specs.Waits.{action_waits, waits_here, waits_at}
use Rattle.flat_machine.specs.Readiness.{WaitsAreTold, is_ready, wants_room}

-- ---- ready

lock_ready : (m : Memory) (places : List Target) (words : List ℕ) → is_ready m (action_waits lock places words) ≡ action_ready m lock places words
lock_ready m [] words = refl
lock_ready m (a ∷ []) [] = refl
lock_ready m (a ∷ []) (w ∷ words) = refl
lock_ready m (a ∷ b ∷ places) words = refl

join_ready : (m : Memory) (places : List Target) (words : List ℕ) → is_ready m (action_waits join places words) ≡ action_ready m join places words
join_ready m [] words = refl
join_ready m (a ∷ []) [] = refl
join_ready m (a ∷ []) (w ∷ []) = refl
join_ready m (a ∷ []) (w ∷ v ∷ words) = refl
join_ready m (a ∷ b ∷ places) words = refl

act_ready : (m : Memory) (a : Action) (places : List Target) (words : List ℕ) → is_ready m (action_waits a places words) ≡ action_ready m a places words
act_ready m (load how) places words = refl
act_ready m (store how) places words = refl
act_ready m (copy_bytes align same) places words = refl
act_ready m malloc places words = refl
act_ready m calloc places words = refl
act_ready m realloc places words = refl
act_ready m free places words = refl
act_ready m (change how t) places words = refl
act_ready m (compare t) places words = refl
act_ready m (print pieces) places words = refl
act_ready m lock places words = lock_ready m places words
act_ready m unlock places words = refl
act_ready m destroy places words = refl
act_ready m (start function) places words = refl
act_ready m join places words = join_ready m places words

here_ready : (m : Memory) (l : Words) (h : Here) → is_ready m (waits_here l h) ≡ ready_at m l h
here_ready m l (does place (step s)) = act_ready m s.action (map (target_of l) s.places) (map (word_at l) s.temps)
here_ready m l (does place (set to calc)) = refl
here_ready m l (does place (call c)) = refl
here_ready m l (does place (look slot base)) = refl
here_ready m l (does place (safepoint slots)) = refl
here_ready m l (does place (begin_object number)) = refl
here_ready m l (does place (end_object number)) = refl
here_ready m l (tests place temp) = refl
here_ready m l passes = refl
here_ready m l round = refl
here_ready m l (returns temp) = refl

ready : (x : Image Spot) (m : Memory) (stage : Stage Spot) → is_ready m (waits_at x (Some stage)) ≡ stages.is_ready x m stage
ready x m (starts function argument) = refl
ready x m (going t) = refl
ready x m (waiting t) = here_ready m t.top.own (x.flow.here t.top.at)
ready x m (landed list t) = refl

-- ---- room

lock_room : (places : List Target) (words : List ℕ) → wants_room (action_waits lock places words) ≡ false
lock_room [] words = refl
lock_room (a ∷ []) [] = refl
lock_room (a ∷ []) (w ∷ words) = refl
lock_room (a ∷ b ∷ places) words = refl

join_room : (places : List Target) (words : List ℕ) → wants_room (action_waits join places words) ≡ false
join_room [] words = refl
join_room (a ∷ []) [] = refl
join_room (a ∷ []) (w ∷ []) = refl
join_room (a ∷ []) (w ∷ v ∷ words) = refl
join_room (a ∷ b ∷ places) words = refl

act_room : (a : Action) (places : List Target) (words : List ℕ) → wants_room (action_waits a places words) ≡ takes_room a
act_room (load how) places words = refl
act_room (store how) places words = refl
act_room (copy_bytes align same) places words = refl
act_room malloc places words = refl
act_room calloc places words = refl
act_room realloc places words = refl
act_room free places words = refl
act_room (change how t) places words = refl
act_room (compare t) places words = refl
act_room (print pieces) places words = refl
act_room lock places words = lock_room places words
act_room unlock places words = refl
act_room destroy places words = refl
act_room (start function) places words = refl
act_room join places words = join_room places words

here_room : (l : Words) (h : Here) → wants_room (waits_here l h) ≡ is_allocation h
here_room l (does place (step s)) = act_room s.action (map (target_of l) s.places) (map (word_at l) s.temps)
here_room l (does place (set to calc)) = refl
here_room l (does place (call c)) = refl
here_room l (does place (look slot base)) = refl
here_room l (does place (safepoint slots)) = refl
here_room l (does place (begin_object number)) = refl
here_room l (does place (end_object number)) = refl
here_room l (tests place temp) = refl
here_room l passes = refl
here_room l round = refl
here_room l (returns temp) = refl

room : (x : Image Spot) (stage : Stage Spot) → wants_room (waits_at x (Some stage)) ≡ stages.wants_room x stage
room x (starts function argument) = refl
room x (going t) = refl
room x (waiting t) = here_room t.top.own (x.flow.here t.top.at)
room x (landed list t) = refl

pub waits_are_told : WaitsAreTold
waits_are_told = record { ready = ready; room = room }
