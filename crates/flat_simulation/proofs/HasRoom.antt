-- What a calloc or realloc may get, it has room for.
use Rattle.std.proofs.Common.{ℕ, List, [], ◌∷◌, map}
use Rattle.arena_meaning.specs.Arena.{Storage, IsConsistent}
use Rattle.struct_ir.specs.Nodes.{Action, load, store, copy_bytes, malloc, calloc, realloc, free, change, compare, print, lock, unlock, destroy, start, join, set, call, step, look, safepoint, begin_object, end_object}
use Rattle.struct_ir.specs.Flow.{Here, does, tests, passes, round, returns}
use Rattle.flat_meaning.specs.Allocations.{allocation_of}
use Rattle.flat_meaning.specs.Accesses.{Choice, plain, got, null, wait}
use Rattle.flat_meaning.specs.Allowed.{MayGet, MayGetIf, MayBeGiven, MayAct}
use Rattle.flat_meaning.specs.Words.{Words, word_at}
use Rattle.flat_simulation.specs.TouchedAlone.{HasRoom, HasItsRoom, HasRoomHere, HaveRoom}

room : (s : Storage) (choice : Choice) (bytes : ℕ) → IsConsistent s → MayGet s bytes choice → HasRoom s choice bytes
room s plain bytes consistent may = tt
room s (got id place) bytes consistent may = (consistent, may.1)
room s null bytes consistent may = tt
room s wait bytes consistent may = tt

its_room : (s : Storage) (choice : Choice) (a : Action) (ws : List ℕ) → IsConsistent s → MayGetIf s choice (allocation_of a ws) → HasItsRoom s choice a ws
its_room s choice calloc [] consistent may = tt
its_room s choice calloc (w ∷ []) consistent may = tt
its_room s choice calloc (w ∷ v ∷ []) consistent may = room s choice _ consistent may
its_room s choice calloc (w ∷ v ∷ u ∷ ws) consistent may = tt
its_room s choice realloc [] consistent may = tt
its_room s choice realloc (w ∷ []) consistent may = tt
its_room s choice realloc (w ∷ v ∷ []) consistent may = room s choice v consistent may
its_room s choice realloc (w ∷ v ∷ u ∷ ws) consistent may = tt
its_room s choice malloc ws consistent may = tt
its_room s choice (load how) ws consistent may = tt
its_room s choice (store how) ws consistent may = tt
its_room s choice (copy_bytes align same) ws consistent may = tt
its_room s choice free ws consistent may = tt
its_room s choice (change how t) ws consistent may = tt
its_room s choice (compare t) ws consistent may = tt
its_room s choice (print pieces) ws consistent may = tt
its_room s choice lock ws consistent may = tt
its_room s choice unlock ws consistent may = tt
its_room s choice destroy ws consistent may = tt
its_room s choice (start function) ws consistent may = tt
its_room s choice join ws consistent may = tt

given_room : (s : Storage) (l : Words) (choice : Choice) (h : Here) → IsConsistent s → MayBeGiven s l choice h → HasRoomHere s choice l h
given_room s l choice (does place (step x)) consistent may = its_room s choice x.action (map (word_at l) x.temps) consistent may
given_room s l choice (does place (set to calc)) consistent may = tt
given_room s l choice (does place (call c)) consistent may = tt
given_room s l choice (does place (look slot base)) consistent may = tt
given_room s l choice (does place (safepoint slots)) consistent may = tt
given_room s l choice (does place (begin_object i)) consistent may = tt
given_room s l choice (does place (end_object i)) consistent may = tt
given_room s l choice (tests place temp) consistent may = tt
given_room s l choice passes consistent may = tt
given_room s l choice round consistent may = tt
given_room s l choice (returns temp) consistent may = tt

act_room : (s : Storage) (l : Words) (choice : Choice) (h : Here) → IsConsistent s → MayAct s l choice h → HasRoomHere s choice l h
act_room s l choice (does place (step x)) consistent may = its_room s choice x.action (map (word_at l) x.temps) consistent may.0
act_room s l choice (does place (set to calc)) consistent may = tt
act_room s l choice (does place (call c)) consistent may = tt
act_room s l choice (does place (look slot base)) consistent may = tt
act_room s l choice (does place (safepoint slots)) consistent may = tt
act_room s l choice (does place (begin_object i)) consistent may = tt
act_room s l choice (does place (end_object i)) consistent may = tt
act_room s l choice (tests place temp) consistent may = tt
act_room s l choice passes consistent may = tt
act_room s l choice round consistent may = tt
act_room s l choice (returns temp) consistent may = tt

pub have_room : HaveRoom
have_room = record { acts = act_room; serves = given_room }
