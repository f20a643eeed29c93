-- A thread that is asked home does each Look or step of one function at most once more.
use Rattle.std.proofs.Common.{◌≡◌, ℕ, zero, suc, ◌+◌, ◌≤◌, Option, Some, None, true, false, refl, sym, ap, subst, ◌∙◌, arith}
use Rattle.std.specs.Prelude.{slice_get}
use Rattle.std.proofs.lemmas.Option.{same_Some}
use Rattle.struct_ir.specs.Flow.{does}
use Rattle.struct_ir.specs.Instrs.{Instr, acts, unless, jump, round_to, leave, LinearCode, instrs_of}
use Rattle.struct_ir.specs.Linear.{Spot, linear, instr_here}
use Rattle.struct_ir.specs.Nodes.{Act}
use Rattle.flat_meaning.specs.declared.endings.Stop.{Stop}
use Rattle.flat_meaning.specs.declared.endings.Stop.TheVariants.{AtStep}
use Rattle.flat_meaning.specs.Local.{Came, local, goes_for}
use Rattle.flat_meaning.specs.Stages.{Stage, starts, going, waiting, landed, thread_at}
use Rattle.flat_meaning.specs.Stops.{CallersAtCalls}
use Rattle.flat_meaning.proofs.Guards.{guarded}
use Rattle.flat_rules.specs.Events.{away, goes, on}
use Rattle.flat_rules.specs.Lawful.{Lives}
use Rattle.flat_rules.specs.Machine.{steps}
use Rattle.flat_threads.proofs.GoesOn.{waits_of}
use Rattle.flat_threads.proofs.Threads.{next_behind}
use Rattle.flat_threads.specs.Belonging.{IsContextOf}
use Rattle.flat_threads.specs.Contexts.{Context, IsStageIf, IsStageOf, IsProgram, own_image}
use Rattle.flat_threads.specs.Going.{came_from, gone_on, stopped_at}
use Rattle.flat_machine.specs.Acting.{acted_by}
use Rattle.flat_machine.specs.Machine.{machine_of, progress_of}
use Rattle.flat_machine.specs.Shares.{Shared, IsSharedOf}
use Rattle.flat_machine.specs.lemmas.Goes.{goes_on}
use Rattle.world_rules.specs.Every.{ComesHome}
use Rattle.flat_homes.specs.Laws.{ThreadsComeHome}
use Rattle.struct_ir.specs.Looks.{is_look_or_step, look_count}
use Rattle.flat_homes.proofs.Left.{left_at, later_is_less, left_from, left_is_few, one_is_less}
use Rattle.flat_homes.proofs.Rises.{IsBeyond, unguarded_behind}
use Rattle.flat_homes.proofs.Arrives.{arrives}
use Rattle.flat_homes.proofs.Deeds.{Deed, deed_of}

-- the instruction that an act is
instr_at : (o : Option Instr) (place : ℕ) (a : Act) → instr_here o ≡ does place a → o ≡ Some (acts place a)
instr_at None place a e = absurd cc
instr_at (Some (acts place2 b)) place a e = let same : acts place2 b ≡ acts place a = cc in ap Some same
instr_at (Some (unless place2 temp to)) place a e = absurd cc
instr_at (Some (jump place2 to)) place a e = absurd cc
instr_at (Some (round_to place2 to)) place a e = absurd cc
instr_at (Some (leave place2 temp)) place a e = absurd cc

module _ (code : LinearCode) where
  abbrev left : Spot → ℕ
  left p = left_at code.funcs p

  abbrev Home : ℕ → Context → Type 0
  Home n c = ComesHome (machine_of code) (IsSharedOf code) (IsContextOf code) n c

  -- a thread that stands so, with no more Looks and steps before it in its function
  record Stays (n : ℕ) (c : Context) : Type 0 where
    of_ : IsContextOf code c
    stop : c.stop ≡ None
    stage : Stage Spot
    is : c.stage ≡ Some stage
    open_ : guarded code.funcs (thread_at (own_image code) stage).top.at ≡ false
    few : left (thread_at (own_image code) stage).top.at ≤ n

  -- ---- behind a turn

  behind_spot : (p : Spot) (place : ℕ) (a : Act) → (linear code.funcs).here p ≡ does place a → (linear code.funcs).next p true ≡ record { function = p.function; index = p.index + 1 }
  behind_spot p place a e = ap (λ (k : ℕ). record { function = p.function; index = k }) (next_behind p.index (slice_get (instrs_of code.funcs p.function) p.index) place a e)

  -- there is one less
  past_less : (p : Spot) (place : ℕ) (a : Act) → (linear code.funcs).here p ≡ does place a → is_look_or_step a ≡ true → left (record { function = p.function; index = p.index + 1 }) + 1 ≤ left p
  past_less p place a e g = one_is_less (instrs_of code.funcs p.function) p.index (acts place a) (instr_at (slice_get (instrs_of code.funcs p.function) p.index) place a e) g

  not_away : (s : Shared) (c : Context) → goes (acted_by code s c).turned ≡ on → goes (acted_by code s c).turned ≡ away → ⊥
  not_away s c o a = let bad : on ≡ away = sym o ∙ a in cc

  stop_steps : (c : Context) (stage : Stage Spot) (stop : Stop) → c.stage ≡ Some stage → c.stop ≡ Some stop → progress_of c.stage c.stop ≡ steps
  stop_steps c stage stop e f = ap (λ o. progress_of o c.stop) e ∙ ap (progress_of (Some stage)) f

  -- after a turn behind which the thread goes on
  after_turn : (s : Shared) (c : Context) → Lives (machine_of code) (IsSharedOf code) (IsContextOf code) s c → (o : goes (acted_by code s c).turned ≡ on) → (n : ℕ) → (d : Deed code s c) → left (thread_at (own_image code) d.stage).top.at ≤ suc n → Stays n (acted_by code s c).context
  after_turn s c lives o n d le =
      let p : Spot = (thread_at (own_image code) d.stage).top.at in
      let at = d.past.at ∙ behind_spot p d.place d.act d.here in
      let less = past_less p d.place d.act d.here d.done in
      let few : left (record { function = p.function; index = p.index + 1 }) ≤ n = omega (arith, less, le) in
      record {
        of_ = (goes_on code s c lives (stop_steps c d.stage AtStep d.is d.stop) (not_away s c o)).of_;
        stop = refl;
        stage = d.past.stage;
        is = d.past.is;
        open_ = subst (λ k. guarded code.funcs k ≡ false) (sym at) (unguarded_behind code.funcs lives.context.program.lawful p d.place d.act d.here d.none);
        few = subst (λ k. left k ≤ n) (sym at) few;
      }

  -- ---- up to a turn

  callers_of : (program : IsProgram code) (stage : Stage Spot) → IsStageOf code stage → CallersAtCalls (linear code.funcs) (thread_at (own_image code) stage)
  callers_of program (starts f a) is = λ k d lt. absurd (omega (arith, lt))
  callers_of program (going t) is = waits_of code program 0 0 (going t) is
  callers_of program (waiting t) is = waits_of code program 0 0 (waiting t) is
  callers_of program (landed list t) is = waits_of code program 0 0 (landed list t) is

  -- where it came to
  record Reached (c : Context) (stage : Stage Spot) : Type 0 where
    came : Came Spot
    comes : came_from code 0 c.number c.stage ≡ Some came
    same : came.stage ≡ stage
    stop : came.stop ≡ AtStep

  reached : (c : Context) (stage : Stage Spot) → c.stop ≡ None → (o : Option (Came Spot)) → came_from code 0 c.number c.stage ≡ o → (stopped_at c o).stage ≡ Some stage → (stopped_at c o).stop ≡ Some AtStep → Reached c stage
  reached c stage none None e is stop = let bad : None ≡ Some AtStep = sym none ∙ stop in absurd cc
  reached c stage none (Some came) e is stop = record { came = came; comes = e; same = same_Some _ _ is; stop = same_Some _ _ stop }

  up_to : (n : ℕ) (c : Context) → Stays n c → (stage : Stage Spot) → (gone_on code 0 c).stage ≡ Some stage → (gone_on code 0 c).stop ≡ Some AtStep → left (thread_at (own_image code) stage).top.at ≤ n
  up_to n c st stage is stop =
      let r = reached c stage st.stop (came_from code 0 c.number c.stage) refl is stop in
      let from : local (own_image code) c.number 0 st.stage ≡ Some r.came = sym (ap (came_from code 0 c.number) st.is) ∙ r.comes in
      let all = callers_of st.of_.program st.stage (subst (IsStageIf code) st.is st.of_.stage) in
      let b = arrives code st.of_.program.lawful c.number (goes_for (own_image code) 0) 0 st.stage st.open_ all r.came from r.stop in
      let less = below (thread_at (own_image code) st.stage).top.at (thread_at (own_image code) r.came.stage).top.at b in
      let few = st.few in
      subst (λ (k : Stage Spot). left (thread_at (own_image code) k).top.at ≤ n) r.same (omega (arith, less, few)) where
        below : (p q : Spot) → IsBeyond p q → left q ≤ left p
        below p q b = subst (λ f. left_from (instrs_of code.funcs f) q.index ≤ left p) (sym b.same) (later_is_less (instrs_of code.funcs p.function) p.index q.index b.later)

  -- ---- all turns

  one_at_least : (p : Spot) (place : ℕ) (a : Act) → (linear code.funcs).here p ≡ does place a → is_look_or_step a ≡ true → left p ≤ 0 → ⊥
  one_at_least p place a e g le = let less = past_less p place a e g in omega (arith, less, le)

  comes : (n : ℕ) (c : Context) → Stays n c → Home (suc n) c
  comes zero c st = λ s lives o.
      let d = deed_of code s (gone_on code 0 c) lives.context o in
      one_at_least (thread_at (own_image code) d.stage).top.at d.place d.act d.here d.done (up_to 0 c st d.stage d.is d.stop)
  comes (suc n) c st = λ s lives o.
      let d = deed_of code s (gone_on code 0 c) lives.context o in
      comes n (acted_by code s (gone_on code 0 c)).context (after_turn s (gone_on code 0 c) lives o n d (up_to (suc n) c st d.stage d.is d.stop))

  -- at first it may stand anywhere
  from_anywhere : (c : Context) → Home (suc (suc (look_count code.funcs))) c
  from_anywhere c = λ s lives o.
      let d = deed_of code s (gone_on code 0 c) lives.context o in
      let few = left_is_few code.funcs (thread_at (own_image code) d.stage).top.at in
      comes (look_count code.funcs) (acted_by code s (gone_on code 0 c)).context (after_turn s (gone_on code 0 c) lives o (look_count code.funcs) d (omega (arith, few)))

pub threads_come_home : ThreadsComeHome
threads_come_home code c of_ is =
    let same : suc (suc (look_count code.funcs)) ≡ look_count code.funcs + 2 = omega arith in
    subst (λ n. ComesHome (machine_of code) (IsSharedOf code) (IsContextOf code) n c) same (from_anywhere code c)
