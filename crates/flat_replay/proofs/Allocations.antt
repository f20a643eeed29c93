-- What an allocation leaves: one that is left waiting ends no run, and while a barrier serves it goes on serving behind each.
use Rattle.std.proofs.Common.{◌≡◌, ℕ, ◌*◌, ◌==◌, Bool, true, false, cond, List, [], ◌∷◌, map, Option, Some, None, refl}
use Rattle.std.specs.Prelude.{is_some}
use Rattle.struct_ir.specs.Flow.{Here, does, tests, passes, round, returns}
use Rattle.struct_ir.specs.Linear.{Spot}
use Rattle.struct_ir.specs.Nodes.{Action, load, store, copy_bytes, malloc, calloc, realloc, free, change, compare, print, lock, unlock, destroy, start, join, set, call, step, look, safepoint, begin_object, end_object}
use Rattle.struct_ir.specs.Threads.{Thread, served, stop_at}
use Rattle.arena_meaning.specs.Changes.{is_live_start}
use Rattle.ak_trace.specs.declared.endings.TrapKind.TheVariants as kinds
use Rattle.flat_meaning.specs.Accesses as choices
use Rattle.flat_meaning.specs.Accesses.{Choice, Done, wait}
use Rattle.flat_meaning.specs.Actions as actions
use Rattle.flat_meaning.specs.Allowed.{IsRenewable, MayAct, MayTry}
use Rattle.flat_meaning.specs.Effects.{Effect, effect_of_outcome}
use Rattle.flat_meaning.specs.Image.{Image}
use Rattle.flat_meaning.specs.Machine.{served_by, words_machine, words_world}
use Rattle.flat_meaning.specs.Memory.{Memory, left_by, with_storage}
use Rattle.flat_meaning.specs.Ready.{is_allocation, takes_room}
use Rattle.flat_meaning.specs.Stages.{Stage}
use Rattle.flat_meaning.specs.Words.{Target, Words, target_of, word_at}

module _ (x : Image Spot) (thread : ℕ) (m : Memory) (stage : Stage Spot) (t : Thread Spot Words) where
  -- what comes of a step that was done so
  abbrev effect_of : (list : Option (List ℕ)) → Done → (l : Words) → (to : Option ℕ) → Effect Spot
  effect_of list d l to = effect_of_outcome thread stage t list m (served x.flow t (served_by l to d))

  -- and of what stands there
  abbrev effect_here : (list : Option (List ℕ)) → Choice → Here → Effect Spot
  effect_here list choice h = effect_of_outcome thread stage t list m (stop_at x.flow (words_machine x.layout thread) (words_world x.layout thread) x.start choice t m h)

  -- ---- left waiting

  -- what is done, but no fault
  abbrev NoFault : Done → Type 0
  NoFault (choices.went word m2) = Unit {0}
  NoFault choices.waits = Unit {0}
  NoFault choices.unfit = Unit {0}
  NoFault (choices.over f) = ⊥

  done_ends : (list : Option (List ℕ)) (l : Words) (to : Option ℕ) (d : Done) → NoFault d → (effect_of list d l to).end ≡ None
  done_ends list l to (choices.went None m2) n = refl
  done_ends list l to (choices.went (Some word) m2) n = refl
  done_ends list l to choices.waits n = refl
  done_ends list l to choices.unfit n = refl
  done_ends list l to (choices.over f) n = absurd n

  -- a realloc that may be left waiting
  realloc_waits : (word size : ℕ) → IsRenewable m.storage word wait → NoFault (choices.reallocated wait word size m)
  realloc_waits word size may = by (word == 0) refl where
    live : (b : Bool) → is_live_start m.storage word ≡ b → is_live_start m.storage word ≡ true → NoFault (cond b choices.waits (choices.over (choices.trap word kinds.Free)))
    live true is e = tt
    live false is e = absurd cc

    guarded_waits : (leaving : Option (List ℕ)) → (word == 0) ≡ false → NoFault (choices.guarded leaving word m.storage choices.waits)
    guarded_waits None some = live (is_live_start m.storage word) refl (may some)
    guarded_waits (Some words) some = tt

    by : (b : Bool) → (word == 0) ≡ b → NoFault (cond b choices.waits (choices.guarded m.leaving word m.storage choices.waits))
    by true is = tt
    by false is = guarded_waits m.leaving is

  action_waits : (a : Action) (ts : List Target) (temps : List ℕ) → takes_room a ≡ true → MayTry m.storage t.top.own wait a temps → NoFault (actions.acted_on_memory x.layout thread wait a ts (map (word_at t.top.own) temps) m)
  action_waits (load how) ts temps e may = absurd cc
  action_waits (store how) ts temps e may = absurd cc
  action_waits (copy_bytes align same) ts temps e may = absurd cc
  action_waits malloc [] [] e may = tt
  action_waits malloc [] (size ∷ []) e may = tt
  action_waits malloc [] (size ∷ w ∷ temps) e may = tt
  action_waits malloc (a ∷ ts) temps e may = tt
  action_waits calloc [] [] e may = tt
  action_waits calloc [] (count ∷ []) e may = tt
  action_waits calloc [] (count ∷ size ∷ []) e may = tt
  action_waits calloc [] (count ∷ size ∷ w ∷ temps) e may = tt
  action_waits calloc (a ∷ ts) temps e may = tt
  action_waits realloc [] [] e may = tt
  action_waits realloc [] (word ∷ []) e may = tt
  action_waits realloc [] (word ∷ size ∷ []) e may = realloc_waits (word_at t.top.own word) (word_at t.top.own size) may
  action_waits realloc [] (word ∷ size ∷ w ∷ temps) e may = tt
  action_waits realloc (a ∷ ts) temps e may = tt
  action_waits free ts temps e may = absurd cc
  action_waits (change how u) ts temps e may = absurd cc
  action_waits (compare u) ts temps e may = absurd cc
  action_waits (print pieces) ts temps e may = absurd cc
  action_waits lock ts temps e may = absurd cc
  action_waits unlock ts temps e may = absurd cc
  action_waits destroy ts temps e may = absurd cc
  action_waits (start function) ts temps e may = absurd cc
  action_waits join ts temps e may = absurd cc

  -- an allocation that is left waiting ends no run
  pub waiting_ends : (list : Option (List ℕ)) (h : Here) → is_allocation h ≡ true → MayAct m.storage t.top.own wait h → (effect_here list wait h).end ≡ None
  waiting_ends list (does place (set to calc)) e may = absurd cc
  waiting_ends list (does place (call c)) e may = absurd cc
  waiting_ends list (does place (step s)) e may = done_ends list t.top.own s.to _ (action_waits s.action (map (target_of t.top.own) s.places) s.temps e may.1)
  waiting_ends list (does place (look slot base)) e may = absurd cc
  waiting_ends list (does place (safepoint slots)) e may = absurd cc
  waiting_ends list (does place (begin_object i)) e may = absurd cc
  waiting_ends list (does place (end_object i)) e may = absurd cc
  waiting_ends list (tests place temp) e may = absurd cc
  waiting_ends list passes e may = absurd cc
  waiting_ends list round e may = absurd cc
  waiting_ends list (returns temp) e may = absurd cc

  -- ---- while a barrier serves

  module _ (serves : is_some m.leaving ≡ true) (choice : Choice) where
    -- where something is done, it serves behind that
    abbrev ServesOn : Done → Type 0
    ServesOn (choices.went word m2) = is_some m2.leaving ≡ true
    ServesOn choices.waits = Unit {0}
    ServesOn choices.unfit = Unit {0}
    ServesOn (choices.over f) = Unit {0}

    allocated_serves : (c : Choice) (size : ℕ) → ServesOn (choices.allocated c size m)
    allocated_serves choices.plain size = tt
    allocated_serves (choices.got id place) size = serves
    allocated_serves choices.null size = serves
    allocated_serves wait size = tt

    zeroed_serves : (c : Choice) (size : ℕ) → ServesOn (choices.zeroed c size m)
    zeroed_serves choices.plain size = tt
    zeroed_serves (choices.got id place) size = serves
    zeroed_serves choices.null size = serves
    zeroed_serves wait size = tt

    left_serves : (leaving : Option (List ℕ)) (word : ℕ) (new : Memory) → is_some leaving ≡ true → is_some (left_by leaving word new).leaving ≡ true
    left_serves None word new some = absurd cc
    left_serves (Some words) word new some = refl

    either_serves : (b : Bool) (one other : Memory) → is_some one.leaving ≡ true → is_some other.leaving ≡ true → is_some (cond b one other).leaving ≡ true
    either_serves true one other h k = h
    either_serves false one other h k = k

    renewed_serves : (c : Choice) (word size : ℕ) → ServesOn (choices.renewed c word size m)
    renewed_serves choices.plain word size = tt
    renewed_serves (choices.got id place) word size =
        let new : Memory = with_storage m (choices.with_copy m.storage id place word size) in
        either_serves (is_live_start m.storage word) (left_by m.leaving word new) new (left_serves m.leaving word new serves) serves
    renewed_serves choices.null word size = serves
    renewed_serves wait word size = tt

    either_done : (b : Bool) (d e : Done) → ServesOn d → ServesOn e → ServesOn (cond b d e)
    either_done true d e h k = h
    either_done false d e h k = k

    guarded_serves : (leaving : Option (List ℕ)) (word : ℕ) (d : Done) → ServesOn d → ServesOn (choices.guarded leaving word m.storage d)
    guarded_serves None word d h = either_done (is_live_start m.storage word) d (choices.over (choices.trap word kinds.Free)) h tt
    guarded_serves (Some words) word d h = h

    reallocated_serves : (word size : ℕ) → ServesOn (choices.reallocated choice word size m)
    reallocated_serves word size =
        either_done (word == 0) (choices.allocated choice size m) (choices.guarded m.leaving word m.storage (choices.renewed choice word size m)) (allocated_serves choice size)
        (guarded_serves m.leaving word (choices.renewed choice word size m) (renewed_serves choice word size))

    action_serves : (a : Action) (ts : List Target) (ws : List ℕ) → takes_room a ≡ true → ServesOn (actions.acted_on_memory x.layout thread choice a ts ws m)
    action_serves (load how) ts ws e = absurd cc
    action_serves (store how) ts ws e = absurd cc
    action_serves (copy_bytes align same) ts ws e = absurd cc
    action_serves malloc [] [] e = tt
    action_serves malloc [] (size ∷ []) e = allocated_serves choice size
    action_serves malloc [] (size ∷ w ∷ ws) e = tt
    action_serves malloc (a ∷ ts) ws e = tt
    action_serves calloc [] [] e = tt
    action_serves calloc [] (count ∷ []) e = tt
    action_serves calloc [] (count ∷ size ∷ []) e = zeroed_serves choice (count * size)
    action_serves calloc [] (count ∷ size ∷ w ∷ ws) e = tt
    action_serves calloc (a ∷ ts) ws e = tt
    action_serves realloc [] [] e = tt
    action_serves realloc [] (word ∷ []) e = tt
    action_serves realloc [] (word ∷ size ∷ []) e = reallocated_serves word size
    action_serves realloc [] (word ∷ size ∷ w ∷ ws) e = tt
    action_serves realloc (a ∷ ts) ws e = tt
    action_serves free ts ws e = absurd cc
    action_serves (change how u) ts ws e = absurd cc
    action_serves (compare u) ts ws e = absurd cc
    action_serves (print pieces) ts ws e = absurd cc
    action_serves lock ts ws e = absurd cc
    action_serves unlock ts ws e = absurd cc
    action_serves destroy ts ws e = absurd cc
    action_serves (start function) ts ws e = absurd cc
    action_serves join ts ws e = absurd cc

    done_serves : (list : Option (List ℕ)) (l : Words) (to : Option ℕ) (d : Done) → ServesOn d → is_some (effect_of list d l to).memory.leaving ≡ true
    done_serves list l to (choices.went None m2) h = h
    done_serves list l to (choices.went (Some word) m2) h = h
    done_serves list l to choices.waits h = serves
    done_serves list l to choices.unfit h = serves
    done_serves list l to (choices.over f) h = serves

    -- behind an allocation the barrier still serves
    pub still_serves : (list : Option (List ℕ)) (h : Here) → is_allocation h ≡ true → is_some (effect_here list choice h).memory.leaving ≡ true
    still_serves list (does place (set to calc)) e = absurd cc
    still_serves list (does place (call c)) e = absurd cc
    still_serves list (does place (step s)) e = done_serves list t.top.own s.to _ (action_serves s.action (map (target_of t.top.own) s.places) (map (word_at t.top.own) s.temps) e)
    still_serves list (does place (look slot base)) e = absurd cc
    still_serves list (does place (safepoint slots)) e = absurd cc
    still_serves list (does place (begin_object i)) e = absurd cc
    still_serves list (does place (end_object i)) e = absurd cc
    still_serves list (tests place temp) e = absurd cc
    still_serves list passes e = absurd cc
    still_serves list round e = absurd cc
    still_serves list (returns temp) e = absurd cc
