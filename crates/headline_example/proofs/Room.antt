-- Journals of the text's code have room.
use Rattle.std.proofs.Common.{◌≡◌, refl, sym, ap, subst, ◌∙◌, ℕ, suc, ◌*◌, ◌≤◌, ◌==◌, Bool, true, false, cond, List, [], ◌∷◌, length, map, Option, Some, None, inl, inr, arith}
use Rattle.std.specs.Prelude.{◌⊎◌, nat_lt, option_and_then, replicate}
use Rattle.std.specs.Option.{option_map}
use Rattle.std.proofs.lemmas.Bool.Decides.{nat_tests}
use Rattle.ak_trace.specs.declared.entry.Entry.{Entry}
use Rattle.ak_trace.specs.declared.order.Answer.{Answer as Told}
use Rattle.ak_trace.specs.Order.{order}
use Rattle.block_store.specs.declared.values.Answer.TheVariants as answers
use Rattle.block_store.specs.Runs.{Pick}
use Rattle.struct_ir.specs.Nodes.{Nodes}
use Rattle.struct_ir.specs.Instrs.{Instr, LinearCode}
use Rattle.struct_ir.specs.Flow.{Shrinks}
use Rattle.pin_flow.specs.Laws.{BasesAreKept}
use Rattle.ak_trace.specs.declared.endings.End.{End}
use Rattle.ak_trace.specs.declared.endings.End.TheVariants as ends
use Rattle.flat_meaning.specs.Image.{linear_image}
use Rattle.flat_meaning.specs.Events.{first_memory}
use Rattle.flat_meaning.specs.Memory.{Memory}
use Rattle.flat_meaning.specs.Accesses.{got}
use Rattle.flat_meaning.specs.Journals.{told}
use Rattle.flat_threads.specs.Contexts.{Context}
use Rattle.flat_rules.specs.declared.settings.Settings.{Settings}
use Rattle.flat_rules.specs.Rules.{Rules, rules_of}
use Rattle.flat_rules.specs.Machine.{Machine}
use Rattle.flat_rules.specs.States.{RunState, or_else, is_blocked, start}
use Rattle.flat_rules.specs.Replays.{run, settled}
use Rattle.flat_rules.specs.Replays as rules
use Rattle.flat_machine.specs.Choices.{malloc_choice}
use Rattle.flat_machine.specs.Machine.{machine_of}
use Rattle.flat_machine.specs.Replays.{Final, final_at, final_of, replay}
use Rattle.flat_machine.specs.Shares.{Shared, no_barriers}
use Rattle.flat_machine.specs.Start.{first_shared, settings_limits}
use Rattle.headline_example.specs.Runs.{BeginsWithNull}
use Rattle.headline_example.specs.Room.{AreDefaults, NotFull, HasRoom, JournalsHaveRoom}
use Rattle.headline_example.proofs.Rows.{Flat, stops}
use Rattle.headline_example.proofs.Alone.{code_with, Early, Sits, flow}
use Rattle.headline_example.proofs.Acts.{EndsWell}
use Rattle.headline_example.proofs.Turns.{first_choice}
use Rattle.headline_example.proofs.Replays.{GotFirst, Whole, whole}
use Rattle.headline_example.proofs.Main.{is_code}

-- ---- ends

not_full : (end : End) → EndsWell (Some end) → NotFull end
not_full (ends.Done value) h = tt
not_full (ends.Trap word kind) h = tt
not_full ends.AllBlocked h = tt
not_full ends.TurnLimit h = h
not_full ends.OutputLimit h = tt
not_full (ends.StackLimit thread) h = h

blocked_or : (c : Bool) (end : End) → cond c (Some ends.AllBlocked) None ≡ Some end → NotFull end
blocked_or true end e = let same : ends.AllBlocked ≡ end = cc e in subst NotFull same tt
blocked_or false end e = absurd (cc e)

ends_so : (o : Option End) (b c : Bool) (end : End) → (o ≡ None) ⊎ EndsWell o → b ≡ false → or_else o (cond b (Some ends.TurnLimit) (cond c (Some ends.AllBlocked) None)) ≡ Some end → NotFull end
ends_so None b c end h few e = blocked_or c end (sym (ap (λ b. cond b (Some ends.TurnLimit) (cond c (Some ends.AllBlocked) None)) few) ∙ e)
ends_so (Some o) b c end (inl h) few e = absurd (cc h)
ends_so (Some o) b c end (inr h) few e = let same : o ≡ end = cc e in subst NotFull same (not_full o h)

-- ---- answers

gets : (turns : List (ℕ × Told)) → GotFirst turns → BeginsWithNull (map (λ (turn : ℕ × Told). record { thread = turn.0; answer = told turn.1 }) turns) → ⊥
gets [] h e = e
gets (t ∷ ts) h e =
    let is : told t.1 ≡ answers.Got = ap (λ (t : ℕ × Told). told t.1) h in
    let other : told t.1 ≡ answers.None = ap (λ (p : Pick). p.answer) e in
    let no : answers.Got ≡ answers.None = sym is ∙ other in absurd (cc no)

-- ---- a whole journal

settled_run : {S C : Type 0} (m : Machine S C) (r : Rules) (o : Option (RunState S C)) (z : RunState S C) → option_and_then (settled m r) o ≡ Some z → o ≡ Some z
settled_run m r None z e = absurd (cc e)
settled_run m r (Some x) z e = at (length x.due == 0) e
  where
    at : (b : Bool) → cond b (Some x) None ≡ Some z → Some x ≡ Some z
    at true e = e
    at false e = absurd (cc e)

module _ (instrs : List Instr) (shrinks : Shrinks (flow instrs)) (ns : Nodes) (f : Flat ns) (early : Early ns (replicate 8 0)) (sits : Sits instrs ns 0) (few : stops ns ≤ 11) (s : Settings) (d : AreDefaults s) where
  abbrev code : LinearCode
  code = code_with instrs

  abbrev r : Rules
  r = record { workers = 1; schedule = None; every = None; entries = s.entries; evacuates = false }

  rules_are : rules_of s ≡ r
  rules_are = λ i. record { workers = d.workers i; schedule = d.schedule i; every = d.every i; entries = s.entries; evacuates = d.evacuate i }

  abbrev memory : Memory
  memory = first_memory (linear_image code (settings_limits s))

  room : s.subheaps * s.subheap ≡ suc 1048575
  room = ap (λ n. n * s.subheap) d.subheaps ∙ ap (λ n. 16 * n) d.subheap

  chooses : malloc_choice memory.storage 0 4 ≡ got 0 0
  chooses = first_choice memory.storage s.ids 65535 1048575 refl d.ids refl d.subheap room

  comes : (log : List Entry) (z : RunState Shared Context) → replay code s log ≡ Some z
      → Whole instrs shrinks s.entries memory chooses memory.storage [] s.output [] no_barriers refl (stops ns) log z
  comes log z e =
      whole instrs shrinks s.entries memory chooses memory.storage [] s.output [] no_barriers refl ns f early sits log z
      (settled_run (machine_of code) r (run (machine_of code) r log (start (machine_of code) r (first_shared code (settings_limits s)))) z
      (subst (λ r. rules.replay (machine_of code) r (first_shared code (settings_limits s)) log ≡ Some z) rules_are e))

  pub room_of : (log : List Entry) (g : Final) → final_of code s log ≡ Some g → HasRoom log g
  room_of log g e = at (replay code s log) refl e
    where
      at : (o : Option (RunState Shared Context)) → replay code s log ≡ o → option_map (final_at code s log) o ≡ Some g → HasRoom log g
      at None is e = absurd (cc e)
      at (Some z) is e =
          let h = comes log z is in
          let same : final_at code s log z ≡ g = cc e in
          let short = h.short in
          let kept = h.kept in
          let many = d.entries in
          let enough : nat_lt z.spare 66 ≡ false = grind (arith, nat_tests, short, kept, many, few) in
          record {
            short = omega (arith, short, few);
            ends_so = λ end q. ends_so z.ending (nat_lt z.spare 66) (is_blocked (machine_of code) (rules_of s) z) end h.ends enough (ap (λ (g : Final). g.end) same ∙ q);
            gets = gets (order log) h.got_first;
          }

pub journals_have_room : BasesAreKept → JournalsHaveRoom
journals_have_room bases checked code t s d log g e =
    let c = is_code bases checked code t in
    room_of c.instrs c.shrinks c.nodes c.flat_ c.early c.sits c.few_stops s d log g (subst (λ code. final_of code s log ≡ Some g) c.is e)
