-- In lawful linear code control comes to the end of a round, and to a call, over the safepoint before it alone; and behind a call stands
-- a safepoint.
use Rattle.std.proofs.Common.{◌≡◌, ℕ, ◌+◌, ◌-◌, ◌<◌, List, Option, Some, None, Bool, true, false, refl, sym, subst, arith}
use Rattle.std.specs.Prelude.{slice_get, is_some}
use Rattle.struct_ir.specs.Nodes.{Act, set, call, step, look, safepoint, begin_object, end_object}
use Rattle.struct_ir.specs.Flow.{Here, does, tests, passes, round, returns, IsCall}
use Rattle.struct_ir.specs.Instrs.{Instr, acts, unless, jump, round_to, leave, LinearFunc, instrs_if, instrs_of}
use Rattle.struct_ir.specs.Linear.{Spot, linear, instr_here, instr_next, here_in, next_in}
use Rattle.struct_ir.specs.Valid.{is_the_list}
use Rattle.struct_ir.proofs.Lawful.{lawful_at}
use Rattle.struct_ir.specs.Lawful.{safe_list, list_at_index, is_guarded, IsLawful, AllLawful}
use Rattle.flat_meaning.specs.Machine.{ends_event}

-- a thread doesn't stop before what stands there
abbrev pub Passes : Here → Type 0
Passes (does place a) = ends_event a ≡ false
Passes (tests place temp) = Unit {0}
Passes passes = Unit {0}
Passes round = ⊥
Passes (returns temp) = ⊥

is_false : (b : Bool) → (b ≡ true → ⊥) → b ≡ false
is_false true h = absurd (h refl)
is_false false h = refl

same_list : (o : Option (List ℕ)) (slots : List ℕ) → is_the_list o slots ≡ true → is_some o ≡ true
same_list None slots e = absurd cc
same_list (Some list) slots e = refl

no_list : (o p : Option (List ℕ)) → o ≡ None → is_some o ≡ true → ⊥
no_list None p e h = cc
no_list (Some list) p e h = cc

act_has_no_list : (place : ℕ) (a : Act) → ends_event a ≡ false → safe_list (Some (acts place a)) ≡ None
act_has_no_list place (set to calc) e = refl
act_has_no_list place (call c) e = refl
act_has_no_list place (step s) e = refl
act_has_no_list place (look slot base) e = refl
act_has_no_list place (safepoint slots) e = absurd cc
act_has_no_list place (begin_object i) e = refl
act_has_no_list place (end_object i) e = refl

module _ (code : List Instr) (lawful : IsLawful code) where
  act_behind : (at place : ℕ) (a : Act) → slice_get code at ≡ Some (acts place a) → is_guarded (Some (acts place a)) ≡ true → (0 < at) × (is_some (list_at_index code (at - 1)) ≡ true)
  act_behind at place (set to calc) e g = absurd cc
  act_behind at place (call c) e g = let h = lawful.calls at place c e in (h.0, same_list _ c.slots h.1)
  act_behind at place (step s) e g = absurd cc
  act_behind at place (look slot base) e g = absurd cc
  act_behind at place (safepoint slots) e g = absurd cc
  act_behind at place (begin_object i) e g = absurd cc
  act_behind at place (end_object i) e g = absurd cc

  -- a safepoint stands before each of them
  behind_safepoint : (at : ℕ) (o : Option Instr) → slice_get code at ≡ o → is_guarded o ≡ true → (0 < at) × (is_some (list_at_index code (at - 1)) ≡ true)
  behind_safepoint at None e g = absurd cc
  behind_safepoint at (Some (acts place a)) e g = act_behind at place a e g
  behind_safepoint at (Some (unless place temp to)) e g = absurd cc
  behind_safepoint at (Some (jump place to)) e g = absurd cc
  behind_safepoint at (Some (round_to place to)) e g = (lawful.rounds at place to e).1
  behind_safepoint at (Some (leave place temp)) e g = absurd cc

  -- so none stands at the start
  good_entry : is_guarded (slice_get code 0) ≡ false
  good_entry = is_false _ (λ g. let h = behind_safepoint 0 (slice_get code 0) refl g in absurd (omega (arith, h.0)))

  -- nor behind what is no safepoint
  behind_other : (at : ℕ) → safe_list (slice_get code at) ≡ None → is_guarded (slice_get code (at + 1)) ≡ false
  behind_other at e = is_false _ (λ g.
      let h = behind_safepoint (at + 1) (slice_get code (at + 1)) refl g in
      let same : at + 1 - 1 ≡ at = omega arith in
      no_list (list_at_index code at) None e (subst (λ k. is_some (list_at_index code k) ≡ true) same h.1))

  none_at : (at : ℕ) (o : Option Instr) → slice_get code at ≡ o → safe_list o ≡ None → is_guarded (slice_get code (at + 1)) ≡ false
  none_at at o e h = behind_other at (subst (λ p. safe_list p ≡ None) (sym e) h)

  good_step : (at : ℕ) (c : Bool) (o : Option Instr) → slice_get code at ≡ o → Passes (instr_here o) → is_guarded (slice_get code (instr_next at o c)) ≡ false
  good_step at c None e g = absurd g
  good_step at c (Some (acts place a)) e g = none_at at (Some (acts place a)) e (act_has_no_list place a g)
  good_step at true (Some (unless place temp to)) e g = none_at at (Some (unless place temp to)) e refl
  good_step at false (Some (unless place temp to)) e g = lawful.safepoints.tests at place temp to e
  good_step at c (Some (jump place to)) e g = lawful.safepoints.jumps at place to e
  good_step at c (Some (round_to place to)) e g = absurd g
  good_step at c (Some (leave place temp)) e g = absurd g

  good_round : (at : ℕ) (o : Option Instr) → slice_get code at ≡ o → instr_here o ≡ round → is_guarded (slice_get code (instr_next at o true)) ≡ false
  good_round at None e h = absurd cc
  good_round at (Some (acts place a)) e h = absurd cc
  good_round at (Some (unless place temp to)) e h = absurd cc
  good_round at (Some (jump place to)) e h = absurd cc
  good_round at (Some (round_to place to)) e h = lawful.safepoints.rounds at place to e
  good_round at (Some (leave place temp)) e h = absurd cc

  call_before : (at place : ℕ) (a : Act) → slice_get code at ≡ Some (acts place a) → IsCall (does place a) → is_some (list_at_index code (at + 1)) ≡ true
  call_before at place (set to calc) e h = absurd cc
  call_before at place (call c) e h = (lawful.calls at place c e).2
  call_before at place (step s) e h = absurd cc
  call_before at place (look slot base) e h = absurd cc
  call_before at place (safepoint slots) e h = absurd cc
  call_before at place (begin_object i) e h = absurd cc
  call_before at place (end_object i) e h = absurd cc

  good_call : (at : ℕ) (o : Option Instr) → slice_get code at ≡ o → IsCall (instr_here o) → is_some (list_at_index code (instr_next at o true)) ≡ true
  good_call at None e h = absurd h
  good_call at (Some (acts place a)) e h = call_before at place a e h
  good_call at (Some (unless place temp to)) e h = absurd h
  good_call at (Some (jump place to)) e h = absurd h
  good_call at (Some (round_to place to)) e h = absurd h
  good_call at (Some (leave place temp)) e h = absurd h

-- ---- all functions

-- a call or the end of a round stands there
abbrev pub guarded : List LinearFunc → Spot → Bool
guarded funcs p = is_guarded (slice_get (instrs_of funcs p.function) p.index)

module _ (funcs : List LinearFunc) (lawful : AllLawful funcs) where
  entry_in : (f : ℕ) (o : Option LinearFunc) → slice_get funcs f ≡ o → is_guarded (slice_get (instrs_if o) 0) ≡ false
  entry_in f None e = refl
  entry_in f (Some x) e = good_entry x.instrs (lawful_at funcs lawful f x e)

  pub unguarded_entry : (f : ℕ) → guarded funcs (record { function = f; index = 0 }) ≡ false
  unguarded_entry f = entry_in f (slice_get funcs f) refl

  step_in : (f : ℕ) (o : Option LinearFunc) → slice_get funcs f ≡ o → (at : ℕ) (c : Bool) → Passes (here_in (instrs_if o) at) → is_guarded (slice_get (instrs_if o) (next_in (instrs_if o) at c)) ≡ false
  step_in f None e at c g = absurd g
  step_in f (Some x) e at c g = good_step x.instrs (lawful_at funcs lawful f x e) at c (slice_get x.instrs at) refl g

  pub unguarded_step : (p : Spot) (c : Bool) → Passes ((linear funcs).here p) → guarded funcs ((linear funcs).next p c) ≡ false
  unguarded_step p c g = step_in p.function (slice_get funcs p.function) refl p.index c g

  round_in : (f : ℕ) (o : Option LinearFunc) → slice_get funcs f ≡ o → (at : ℕ) → here_in (instrs_if o) at ≡ round → is_guarded (slice_get (instrs_if o) (next_in (instrs_if o) at true)) ≡ false
  round_in f None e at h = absurd cc
  round_in f (Some x) e at h = good_round x.instrs (lawful_at funcs lawful f x e) at (slice_get x.instrs at) refl h

  pub unguarded_round : (p : Spot) → (linear funcs).here p ≡ round → guarded funcs ((linear funcs).next p true) ≡ false
  unguarded_round p h = round_in p.function (slice_get funcs p.function) refl p.index h

  call_in : (f : ℕ) (o : Option LinearFunc) → slice_get funcs f ≡ o → (at : ℕ) → IsCall (here_in (instrs_if o) at) → is_some (list_at_index (instrs_if o) (next_in (instrs_if o) at true)) ≡ true
  call_in f None e at h = absurd h
  call_in f (Some x) e at h = good_call x.instrs (lawful_at funcs lawful f x e) at (slice_get x.instrs at) refl h

  pub safe_behind_call : (p : Spot) → IsCall ((linear funcs).here p) → is_some (list_at_index (instrs_of funcs p.function) ((linear funcs).next p true).index) ≡ true
  safe_behind_call p h = call_in p.function (slice_get funcs p.function) refl p.index h
