-- One go of a thread that stands at no call and at no round's end: it comes further on in its function, or to a safepoint.
use Rattle.std.proofs.Common.{◌≡◌, ℕ, ◌+◌, ◌-◌, ◌≤◌, List, [], ◌∷◌, Option, Some, None, Bool, true, false, Result, Ok, Err, refl, sym, subst, ap, ◌∙◌, arith}
use Rattle.std.specs.Prelude.{slice_get, is_some, All}
use Rattle.struct_ir.specs.Nodes.{Act, set, call, step, look, safepoint, begin_object, end_object, act_is_call}
use Rattle.struct_ir.specs.Flow.{Here, does, tests, passes, round, returns, GoesOn, IsCall, Flow}
use Rattle.struct_ir.specs.Instrs.{Instr, acts, unless, jump, round_to, leave, LinearFunc, LinearCode, instrs_if, instrs_of}
use Rattle.struct_ir.specs.Lawful.{AllLawful, IsLawful, is_guarded, safe_list, safepoint_list, list_at_index}
use Rattle.struct_ir.specs.Linear.{Spot, linear, instr_here, here_in}
use Rattle.struct_ir.specs.Machine.{Machine, Point, goes, stops, breaks, ahead_at, ahead, run, Steps, still, more}
use Rattle.struct_ir.specs.Threads.{Thread, behind, result_to}
use Rattle.struct_ir.specs.Valid.{is_the_list}
use Rattle.struct_ir.proofs.Lawful.{lawful_at, lawful_code_shrinks}
use Rattle.struct_ir.proofs.Runs.{led, ends}
use Rattle.flat_meaning.specs.Accesses.{Fault}
use Rattle.flat_meaning.specs.Image.{Image}
use Rattle.flat_meaning.specs.Machine.{words_machine, left}
use Rattle.flat_meaning.specs.Stages.{safe, before, before_act, before_here, before_return, Advance, at_next_stop, back, turn_done, ending_if, advanced_from}
use Rattle.flat_meaning.specs.Stops.{CallersAtCalls}
use Rattle.flat_meaning.specs.Words.{Words}
use Rattle.flat_meaning.proofs.Guards.{Passes, guarded, unguarded_step, safe_behind_call}
use Rattle.flat_meaning.proofs.Halves.{NoFault, no_fault}
use Rattle.flat_meaning.proofs.Stops.{act_passes, safe_instr}
use Rattle.flat_threads.specs.Contexts.{own_image}

-- further on in the same function
pub record IsBeyond (p q : Spot) : Type 0 where
  pub same : q.function ≡ p.function
  pub later : p.index ≤ q.index

pub here_still : (p : Spot) → IsBeyond p p
here_still p = record { same = refl; later = omega arith }

pub further_on : (p q r : Spot) → IsBeyond p q → IsBeyond q r → IsBeyond p r
further_on p q r a b = let le = a.later in let lf = b.later in record { same = b.same ∙ a.same; later = omega (arith, le, lf) }

-- ---- calls and rounds

-- a call or the end of a round
abbrev pub is_barred : Here → Bool
is_barred (does place a) = act_is_call a
is_barred (tests place temp) = false
is_barred passes = false
is_barred round = true
is_barred (returns temp) = false

pub guarded_is : (o : Option Instr) → is_guarded o ≡ is_barred (instr_here o)
guarded_is None = refl
guarded_is (Some (acts place a)) = refl
guarded_is (Some (unless place temp to)) = refl
guarded_is (Some (jump place to)) = refl
guarded_is (Some (round_to place to)) = refl
guarded_is (Some (leave place temp)) = refl

no_list : (o : Option (List ℕ)) → o ≡ None → is_some o ≡ true → ⊥
no_list None e h = cc
no_list (Some list) e h = cc

the_list : (o : Option (List ℕ)) (slots : List ℕ) → is_the_list o slots ≡ true → is_some o ≡ true
the_list None slots e = absurd cc
the_list (Some list) slots e = refl

-- behind an act that is no safepoint
module _ (code : List Instr) (lawful : IsLawful code) (at : ℕ) (none : safe_list (slice_get code at) ≡ None) where
  bare_before : is_some (list_at_index code (at + 1 - 1)) ≡ true → ⊥
  bare_before e = let same : at + 1 - 1 ≡ at = omega arith in no_list (list_at_index code at) none (subst (λ k. is_some (list_at_index code k) ≡ true) same e)

  act_behind : (place : ℕ) (a : Act) → slice_get code (at + 1) ≡ Some (acts place a) → act_is_call a ≡ false
  act_behind place (set to calc) e = refl
  act_behind place (call c) e = absurd (bare_before (the_list (list_at_index code (at + 1 - 1)) c.slots (lawful.calls (at + 1) place c e).1))
  act_behind place (step s) e = refl
  act_behind place (look slot base) e = refl
  act_behind place (safepoint slots) e = refl
  act_behind place (begin_object i) e = refl
  act_behind place (end_object i) e = refl

  bare_behind : (o : Option Instr) → slice_get code (at + 1) ≡ o → is_guarded o ≡ false
  bare_behind None e = refl
  bare_behind (Some (acts place a)) e = act_behind place a e
  bare_behind (Some (unless place temp to)) e = refl
  bare_behind (Some (jump place to)) e = refl
  bare_behind (Some (round_to place to)) e = absurd (bare_before (lawful.rounds (at + 1) place to e).1.1)
  bare_behind (Some (leave place temp)) e = refl

act_at : (o : Option Instr) (place : ℕ) (a : Act) → instr_here o ≡ does place a → safe_list o ≡ safepoint_list a
act_at None place a e = absurd cc
act_at (Some (acts place2 b)) place a e = let same : b ≡ a = cc in ap safepoint_list same
act_at (Some (unless place2 temp to)) place a e = absurd cc
act_at (Some (jump place2 to)) place a e = absurd cc
act_at (Some (round_to place2 to)) place a e = absurd cc
act_at (Some (leave place2 temp)) place a e = absurd cc

in_func : (funcs : List LinearFunc) → AllLawful funcs → (n : ℕ) (o : Option LinearFunc) → slice_get funcs n ≡ o → (at place : ℕ) (a : Act) → here_in (instrs_if o) at ≡ does place a → safepoint_list a ≡ None → is_guarded (slice_get (instrs_if o) (at + 1)) ≡ false
in_func funcs lawful n None is at place a e none = refl
in_func funcs lawful n (Some f) is at place a e none =
    bare_behind f.instrs (lawful_at funcs lawful n f is) at (act_at (slice_get f.instrs at) place a e ∙ none) (slice_get f.instrs (at + 1)) refl

-- behind an act that is no safepoint stands no call and no round's end
pub unguarded_behind : (funcs : List LinearFunc) → AllLawful funcs → (p : Spot) (place : ℕ) (a : Act) → (linear funcs).here p ≡ does place a → safepoint_list a ≡ None → guarded funcs (record { function = p.function; index = p.index + 1 }) ≡ false
unguarded_behind funcs lawful p place a e none = in_func funcs lawful p.function (slice_get funcs p.function) refl p.index place a e none

-- ---- a go

module _ (code : LinearCode) (lawful : AllLawful code.funcs) (thread : ℕ) where
  abbrev x : Image Spot
  x = own_image code

  abbrev C : Flow Spot
  C = linear code.funcs

  abbrev M : Machine Words Fault
  M = words_machine x.layout thread

  -- it stands at no call and at no round's end
  abbrev pub IsOpen : Point Spot Words → Type 0
  IsOpen p = guarded code.funcs p.at ≡ false

  beyond_next : (p : Spot) (c : Bool) → GoesOn (C.here p) → IsBeyond p (C.next p c)
  beyond_next p c g = let h = lawful_code_shrinks code.funcs lawful p c g in record { same = refl; later = omega (arith, h) }

  rises : (p q : Point Spot Words) → Steps C M p q → IsBeyond p.at q.at
  rises p q still = here_still p.at
  rises p q (more r s w e) = let h = led C M r s e in further_on p.at r.at s.at (rises p r w) (subst (IsBeyond r.at) (sym h.2) (beyond_next r.at h.1 h.0))

  passes_at : (p q : Point Spot Words) (h : Here) → ahead_at C M p h ≡ goes q → Passes h
  passes_at p q (does place a) e = act_passes a _ q e
  passes_at p q (tests place temp) e = tt
  passes_at p q passes e = tt
  passes_at p q round e = absurd cc
  passes_at p q (returns temp) e = absurd cc

  stays_open : (p q : Point Spot Words) → Steps C M p q → IsOpen p → IsOpen q
  stays_open p q still a = a
  stays_open p q (more r s w e) a = let h = led C M r s e in subst (λ k. guarded code.funcs k ≡ false) (sym h.2) (unguarded_step code.funcs lawful r.at h.1 (passes_at r s (C.here r.at) e))

  -- where a run stands
  record Ran (t r : Thread Spot Words) : Type 0 where
    callers : r.callers ≡ t.callers
    way : Steps C M t.top r.top
    stop : ahead C M r.top ≡ stops

  abbrev Ends : Point Spot Words → Result (Point Spot Words) Fault → Type 0
  Ends p (Ok q) = Steps C M p q × (ahead C M q ≡ stops)
  Ends p (Err f) = (q : Point Spot Words) × Steps C M p q × (ahead C M q ≡ breaks f)

  ran_by : (t : Thread Spot Words) (o : Result (Point Spot Words) Fault) → Ends t.top o → NoFault x thread o → Ran t (at_next_stop t o)
  ran_by t (Ok q) e f = record { callers = refl; way = e.0; stop = e.1 }
  ran_by t (Err g) e f = absurd f

  ran : (t : Thread Spot Words) → Ran t (at_next_stop t (run C M t.top))
  ran t = ran_by t (run C M t.top) (ends C (lawful_code_shrinks code.funcs lawful) M t.top) (no_fault x thread t.top)

  -- what one go comes to
  pub data Lands (p : Point Spot Words) (g : Advance Spot) : Type 0 where
    along : IsBeyond p.at g.thread.top.at → IsOpen g.thread.top → CallersAtCalls C g.thread → Lands p g
    rests : before x g.thread ≡ safe → Lands p g

  safe_back : (c : Point Spot Words) (l : Words) (cs : List (Point Spot Words)) → IsCall (C.here c.at) → before x (record { top = behind C c l; callers = cs }) ≡ safe
  safe_back c l cs h = safe_instr _ (safe_behind_call code.funcs lawful c.at h) cs

  module _ (t q : Thread Spot Words) (all : CallersAtCalls C q) (way : Steps C M t.top q.top) (open_ : IsOpen t.top) where
    no_bar : (h : Here) → C.here q.top.at ≡ h → is_barred h ≡ true → ⊥
    no_bar h e b =
        let i : Option Instr = slice_get (instrs_of code.funcs q.top.at.function) q.top.at.index in
        let bad : true ≡ false = sym b ∙ (sym (ap is_barred e) ∙ (sym (guarded_is i) ∙ stays_open t.top q.top way open_)) in
        cc

    here_lands : Lands t.top (record { thread = q; turns = 0 })
    here_lands = along (rises t.top q.top way) (stays_open t.top q.top way open_) all

    act_lands : (place : ℕ) (a : Act) → C.here q.top.at ≡ does place a → ahead_at C M q.top (does place a) ≡ stops → Lands t.top (ending_if x q (before_act a))
    act_lands place (set to calc) e s = absurd cc
    act_lands place (call c) e s = absurd (no_bar (does place (call c)) e refl)
    act_lands place (step n) e s = here_lands
    act_lands place (look slot base) e s = here_lands
    act_lands place (safepoint slots) e s = here_lands
    act_lands place (begin_object i) e s = absurd cc
    act_lands place (end_object i) e s = absurd cc

    return_lands : (temp : Option ℕ) → C.here q.top.at ≡ returns temp → (cs : List (Point Spot Words)) → q.callers ≡ cs → Lands t.top (ending_if x q (before_return cs))
    return_lands temp e [] f = here_lands
    return_lands temp e (c ∷ cs) f =
        let each = subst (All (λ (c : Point Spot Words). IsCall (C.here c.at))) f all in
        subst (λ h. Lands t.top (record { thread = turn_done x q h; turns = 1 })) (sym e)
        (subst (λ all. Lands t.top (record { thread = back x q temp all; turns = 1 })) (sym f)
        (rests (safe_back c (left q.top.own temp c.own (result_to (C.here c.at))) cs (each 0 c (omega arith)))))

    at_lands : (h : Here) → C.here q.top.at ≡ h → ahead_at C M q.top h ≡ stops → Lands t.top (ending_if x q (before_here q.callers h))
    at_lands (does place a) e s = act_lands place a e s
    at_lands (tests place temp) e s = absurd cc
    at_lands passes e s = absurd cc
    at_lands round e s = absurd (no_bar round e refl)
    at_lands (returns temp) e s = return_lands temp e q.callers refl

  pub lands : (t : Thread Spot Words) → CallersAtCalls C t → IsOpen t.top → Lands t.top (advanced_from x thread t)
  lands t all open_ =
      let q = at_next_stop t (run C M t.top) in
      let r = ran t in
      at_lands t q (subst (All (λ (c : Point Spot Words). IsCall (C.here c.at))) (sym r.callers) all) r.way open_ (C.here q.top.at) refl r.stop
