-- Code shows under every order what it shows without its Looks, safepoints, slots and lists.
use Rattle.std.proofs.Common.{◌≡◌, ◌∙◌, refl, sym, ap, subst, ℕ, zero, suc, List, [], ◌∷◌, length, map, Option, None, Ok}
use Rattle.std.specs.Prelude.{slice_get}
use Rattle.block_store.specs.declared.values.Answer.{Answer}
use Rattle.block_store.specs.declared.values.Ptr.{Ptr}
use Rattle.block_store.specs.Actions.{World as Shared}
use Rattle.block_store.specs.Runs as runs
use Rattle.c_meaning.specs.Alike.{TurnsAlike, both_went, both_ended, both_blocked, both_unfit, both_broke, KeepsTurns}
use Rattle.c_meaning.specs.Meaning.{start}
use Rattle.c_meaning.proofs.Alike.{shown_alike}
use Rattle.struct_ir.specs.Nodes as ir
use Rattle.struct_ir.specs.Nodes.{Calc, Act, Func, Ir, StackObject}
use Rattle.struct_ir.specs.Structured.{Position, then_, done, structured}
use Rattle.struct_ir.specs.MapsTurns.{thread_mapped, AllCarry, IsMapped}
use Rattle.struct_ir.specs.Lists.{listless}
use Rattle.struct_ir.specs.Erased.{erased, func_erased, ir_erased, at_erased}
use Rattle.struct_ir.specs.Threads.{Thread, Outcome, went, ended, blocked, broke, unfit, turn}
use Rattle.struct_ir.specs.meaning.Blocks.{Fault, broken, wrong_kind, Own, calculated, assigned, objects_of, size_of, without, begun_after, own_act, all_ended, blocks_machine}
use Rattle.struct_ir.specs.meaning.Threads.{result_of, finished_with, given, set_given, over, left, finished, nodes_of, params_of, first_temps, start_in, blocks_world, turned, program_of}
use Rattle.struct_ir.proofs.Bare.{erased_code}
use Rattle.lower_turns.specs.Turns.{ErasedCodeShowsTheSame, CodeWithLooksKeepsEveryTurn}
use Rattle.lower_turns.proofs.Depths.{mapped_long}
use Rattle.lower_turns.proofs.Threads.{lower_keeps_every_turn}

-- ---- functions without slots

objects_same : (fs : List Func) (n : ℕ) → objects_of (slice_get (map func_erased fs) n) ≡ objects_of (slice_get fs n)
objects_same [] n = refl
objects_same (f ∷ fs) zero = refl
objects_same (f ∷ fs) (suc n) = objects_same fs n

nodes_same : (fs : List Func) (n : ℕ) → nodes_of (slice_get (map func_erased fs) n) ≡ erased (nodes_of (slice_get fs n))
nodes_same [] n = refl
nodes_same (f ∷ fs) zero = refl
nodes_same (f ∷ fs) (suc n) = nodes_same fs n

params_same : (fs : List Func) (n : ℕ) → params_of (slice_get (map func_erased fs) n) ≡ params_of (slice_get fs n)
params_same [] n = refl
params_same (f ∷ fs) zero = refl
params_same (f ∷ fs) (suc n) = params_same fs n

module _ (p : Ir) where
  -- ---- the machine and the world look at neither

  calculated_same : (place : ℕ) (l : Own) (calc : Calc) → calculated (ir_erased p) place l calc ≡ calculated p place l calc
  calculated_same place l (ir.constant t z) = refl
  calculated_same place l ir.unset = refl
  calculated_same place l ir.null = refl
  calculated_same place l (ir.global n) = refl
  calculated_same place l (ir.literal n) = refl
  calculated_same place l (ir.object i) = refl
  calculated_same place l (ir.copy t) = refl
  calculated_same place l (ir.convert to t) = refl
  calculated_same place l (ir.apply op t a b) = refl
  calculated_same place l (ir.pointer_add q n scale) = refl
  calculated_same place l (ir.pointer_sub q n scale) = refl
  calculated_same place l (ir.pointer_diff a b scale) = refl
  calculated_same place l (ir.pointer_compare op a b) = refl
  calculated_same place l (ir.pointer_test a) = refl

  does_same : (place : ℕ) (a : Act) (l : Own) → own_act (ir_erased p) place a l ≡ own_act p place a l
  does_same place (ir.set to calc) l = ap (assigned l to) (calculated_same place l calc)
  does_same place (ir.call c) l = refl
  does_same place (ir.step s) l = refl
  does_same place (ir.look slot base) l = refl
  does_same place (ir.safepoint slots) l = refl
  does_same place (ir.begin_object i) l = ap (λ (os : List StackObject). Ok (begun_after l i (size_of (slice_get os i)) (without l.blocks (l.objects i)))) (objects_same p.funcs l.function)
  does_same place (ir.end_object i) l = refl

  machine_same : blocks_machine (ir_erased p) ≡ blocks_machine p
  machine_same = λ i. record { stops = (blocks_machine p).stops; does = λ place a l. does_same place a l i; test = (blocks_machine p).test }

  over_same : (l : Own) → over (ir_erased p) l ≡ over p l
  over_same l = ap (λ (os : List StackObject). all_ended l (length os)) (objects_same p.funcs l.function)

  module _ (thread : ℕ) where
    finished_same : (answer : Answer) (l : Own) (temp : Option ℕ) (w : Shared) → finished (ir_erased p) thread answer l temp w ≡ finished p thread answer l temp w
    finished_same answer l temp w =
        ap (λ (o : Own). finished_with thread answer l w o.blocks (result_of l temp)) (over_same l)

    left_same : (l : Own) (temp : Option ℕ) (caller : Own) (to : Option ℕ) → left (ir_erased p) l temp caller to ≡ left p l temp caller to
    left_same l temp caller to =
        ap (λ (o : Own). record { function = caller.function; temps = set_given caller.temps to (given l temp); objects = caller.objects; blocks = o.blocks }) (over_same l)

    world_same : blocks_world (ir_erased p) thread ≡ blocks_world p thread
    world_same = λ i. record {
      seen = (blocks_world p thread).seen;
      kept = (blocks_world p thread).kept;
      serve = (blocks_world p thread).serve;
      finish = λ answer l temp w. finished_same answer l temp w i;
      is_plain = (blocks_world p thread).is_plain;
      entered = (blocks_world p thread).entered;
      left = λ l temp caller to. left_same l temp caller to i;
    }

    code_same : start_in (ir_erased p) ≡ (λ (f : ℕ). at_erased (start_in p f))
    code_same = λ i f. then_ (nodes_same p.funcs f i) done

    turn_same : (answer : Answer) (t : Thread Position Own) (w : Shared)
        → turn structured (blocks_machine p) (blocks_world p thread) (λ f. at_erased (start_in p f)) answer t w ≡ turn structured (blocks_machine (ir_erased p)) (blocks_world (ir_erased p) thread) (start_in (ir_erased p)) answer t w
    turn_same answer t w = sym (λ i. turn structured (machine_same i) (world_same i) (code_same i) answer t w)

  -- ---- threads

  -- a thread of the erased code stands where one of the code does
  record Stands (a b : Thread Position Own) : Type 0 where
    pub is : b ≡ thread_mapped at_erased a
    pub carry : AllCarry (listless structured) structured at_erased a.callers

  broke_alike : (e : Fault) → TurnsAlike Stands (turned (broke e)) (turned (broke e))
  broke_alike (broken rule place) = both_broke rule place
  broke_alike wrong_kind = both_unfit

  outcomes_alike : (x y : Outcome Position Own Fault Shared) → IsMapped (listless structured) structured at_erased x y → TurnsAlike Stands (turned x) (turned y)
  outcomes_alike (went t s) (went u r) h = subst (λ (z : Shared). TurnsAlike Stands (runs.went t s) (runs.went u z)) (sym h.1) (both_went t u s (record { is = h.0; carry = h.2 }))
  outcomes_alike (ended l s) (ended m r) h = subst (λ (z : Shared). TurnsAlike Stands (runs.ended s) (runs.ended z)) (sym h.1) (both_ended s)
  outcomes_alike blocked blocked h = both_blocked
  outcomes_alike (broke e) (broke e') h = subst (λ (z : Fault). TurnsAlike Stands (turned (broke e)) (turned (broke z))) (sym h) (broke_alike e)
  outcomes_alike unfit unfit h = both_unfit
  outcomes_alike x y h = elim h [ ]

  turns_alike : (thread : ℕ) (answer : Answer) (a b : Thread Position Own) (w : Shared) → Stands a b → TurnsAlike Stands ((program_of p).turn thread answer a w) ((program_of (ir_erased p)).turn thread answer b w)
  turns_alike thread answer a b w h =
      subst (λ (z : Thread Position Own). TurnsAlike Stands ((program_of p).turn thread answer a w) ((program_of (ir_erased p)).turn thread answer z w)) (sym h.is)
      (subst (λ (o : Outcome Position Own Fault Shared). TurnsAlike Stands ((program_of p).turn thread answer a w) (turned o)) (turn_same thread answer (thread_mapped at_erased a) w)
      (outcomes_alike _ _ (erased_code p thread answer a w h.carry)))

  begins_alike : (f : ℕ) (argument : Ptr) → Stands ((program_of p).begins f argument) ((program_of (ir_erased p)).begins f argument)
  begins_alike f argument = record {
    is = λ i. record {
      top = record { at = then_ (nodes_same p.funcs f i) done; own = record { function = f; temps = first_temps (params_same p.funcs f i) argument; objects = λ k. None; blocks = [] } };
      callers = [];
    };
    carry = tt;
  }

  as_deep : (a b : Thread Position Own) → Stands a b → length a.callers ≡ length b.callers
  as_deep a b h = sym (mapped_long a.callers) ∙ sym (ap (λ (k : Thread Position Own). length k.callers) h.is)

  keeps : KeepsTurns Stands (program_of p) (program_of (ir_erased p))
  keeps = record { begins = begins_alike; calls = as_deep; turn = turns_alike }

-- ---- orders

pub erased_code_shows : ErasedCodeShowsTheSame
erased_code_shows p w order = sym (shown_alike (Stands p) (program_of p) (program_of (ir_erased p)) (keeps p) w order)

pub looks_keep_every_turn : CodeWithLooksKeepsEveryTurn
looks_keep_every_turn t well ready e order =
    sym (erased_code_shows ready (start t) order)
    ∙ ap (λ (x : Ir). runs.shown (program_of x) (start t) order) e
    ∙ lower_keeps_every_turn t well order
