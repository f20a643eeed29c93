-- Journals of the text's code: main goes out, does its turns and ends; no other thread is made, and no barrier is wanted.
use Rattle.std.proofs.Common.{◌≡◌, refl, sym, ap, subst, ◌∙◌, ℕ, zero, suc, ◌+◌, ◌-◌, ◌≤◌, Bool, true, false, cond, ◌||◌, List, [], ◌∷◌, ◌++◌, length, map, Option, Some, None, inl, inr, arith}
use Rattle.std.specs.Prelude.{◌⊎◌, nat_lt, is_none, option_and_then}
use Rattle.std.proofs.lemmas.Bool.Decides.{nat_tests}
use Rattle.ak_trace.specs.declared.entry.Entry.{Entry}
use Rattle.ak_trace.specs.declared.order.Answer.{Answer}
use Rattle.ak_trace.specs.declared.order.Answer.TheVariants as told
use Rattle.ak_trace.specs.Order.{order, turns_of, step_answers}
use Rattle.struct_ir.specs.Nodes.{Nodes}
use Rattle.struct_ir.specs.Flow.{Shrinks}
use Rattle.struct_ir.specs.Threads.{Thread}
use Rattle.struct_ir.specs.Instrs.{Instr}
use Rattle.struct_ir.specs.Linear.{Spot}
use Rattle.arena_meaning.specs.Arena.{Storage}
use Rattle.ak_trace.specs.declared.endings.End.{End}
use Rattle.flat_meaning.specs.declared.endings.Stop.TheVariants.{AtStep}
use Rattle.flat_meaning.specs.Image.{Image}
use Rattle.flat_meaning.specs.Words.{Words, first_call}
use Rattle.flat_meaning.specs.Memory.{Memory, beginning}
use Rattle.flat_meaning.specs.Accesses.{got}
use Rattle.flat_meaning.specs.Effects.{Effect, landing}
use Rattle.flat_meaning.specs.Stages.{Stage, starts}
use Rattle.flat_meaning.specs.Local.{Came}
use Rattle.flat_threads.specs.declared.wait.Wait.{Wait}
use Rattle.flat_threads.specs.Contexts.{Context}
use Rattle.flat_threads.specs.Going.{stopped_at}
use Rattle.flat_threads.specs.Waits.{waits_at}
use Rattle.flat_rules.specs.Rules.{Rules}
use Rattle.flat_rules.specs.Machine.{Machine, Acted, Turned}
use Rattle.flat_rules.specs.Machine as turns
use Rattle.flat_rules.specs.Draws.{after_draw}
use Rattle.flat_rules.specs.Entries.{out_entry, turn_entry, how_of}
use Rattle.flat_rules.specs.Events.{Event, Goes, on, goes, goes_out, turn_event, turned_by, mood_after, is_called_home, turned_state, ends_with}
use Rattle.ak_trace.specs.declared.endings.End.TheVariants.{AllBlocked, TurnLimit}
use Rattle.flat_rules.specs.States.{is_blocked, or_else, RunState, Place, unbegun, home, out, gone, Mood, free, asked, must, place_at, unbegun_from, start}
use Rattle.flat_rules.specs.Replays.{event_at, step, run}
use Rattle.flat_rules.specs.inner.Cases.{Cases, Holds, event_holds}
use Rattle.flat_rules.specs.inner.Steps.{entry_is, IsNext, IsFirst, step_cases}
use Rattle.flat_machine.specs.Choices.{malloc_choice}
use Rattle.flat_machine.specs.Machine.{machine_of}
use Rattle.flat_machine.specs.Shares.{Shared, Barriers, limits_of}
use Rattle.headline_example.proofs.Rows.{Flat, stops}
use Rattle.headline_example.proofs.Alone.{code_with, Asked, Sits, flow}
use Rattle.headline_example.proofs.Locals.{own, alone, StopsAt, from_start, from_there}
use Rattle.headline_example.proofs.Acts.{EndsWell, Tells, On, Off, effect, turned}
use Rattle.headline_example.proofs.Turns.{turn_goes}

-- ---- entries

-- main's first turn, if it has had one, got what it asked for
abbrev pub GotFirst : List (ℕ × Answer) → Type 0
GotFirst [] = Unit {0}
GotFirst (t ∷ ts) = t ≡ (0, told.Got)

-- the turns of a turn's entry, by what it tells
turns_told : (u : Turned) (answers : List Answer) → step_answers (how_of u) ≡ answers → turns_of (turn_entry 0 0 0 u) ≡ map (λ answer. (0, answer)) answers
turns_told u answers e = ap (map (λ answer. (0, answer))) e

one_worker : (w : ℕ) → nat_lt w 1 ≡ true → w ≡ 0
one_worker w h = grind (arith, nat_tests, h)

-- ---- places

module _ {C : Type 0} where
  -- nobody has begun
  abbrev AreUnbegun : List (Place C) → Type 0
  AreUnbegun [] = Unit {0}
  AreUnbegun (unbegun c ∷ ps) = AreUnbegun ps
  AreUnbegun (home c ∷ ps) = ⊥
  AreUnbegun (out w c n mood ∷ ps) = ⊥
  AreUnbegun (gone ∷ ps) = ⊥

  abbrev is_out : Place C → Bool
  is_out (unbegun c) = false
  is_out (home c) = false
  is_out (out w c n mood) = true
  is_out gone = false

  none_out : (ps : List (Place C)) → AreUnbegun ps → (t : ℕ) → is_out (place_at ps t) ≡ false
  none_out [] h t = refl
  none_out (unbegun c ∷ ps) h zero = refl
  none_out (unbegun c ∷ ps) h (suc t) = none_out ps h t
  none_out (home c ∷ ps) h t = absurd h
  none_out (out w c n mood ∷ ps) h t = absurd h
  none_out (gone ∷ ps) h t = absurd h

  not_out : (ps : List (Place C)) → AreUnbegun ps → (t w n : ℕ) (c : C) (mood : Mood) → place_at ps t ≡ out w c n mood → ⊥
  not_out ps h t w n c mood e = let no : false ≡ true = sym (none_out ps h t) ∙ ap is_out e in absurd (cc no)

  -- what an out place tells
  abbrev worker_in : Place C → ℕ
  worker_in (unbegun c) = 0
  worker_in (home c) = 0
  worker_in (out w c n mood) = w
  worker_in gone = 0

  abbrev turns_in : Place C → ℕ
  turns_in (unbegun c) = 0
  turns_in (home c) = 0
  turns_in (out w c n mood) = n
  turns_in gone = 0

  abbrev mood_in : Place C → Mood
  mood_in (unbegun c) = free
  mood_in (home c) = free
  mood_in (out w c n mood) = mood
  mood_in gone = free

  abbrev context_in : C → Place C → C
  context_in d (unbegun c) = c
  context_in d (home c) = c
  context_in d (out w c n mood) = c
  context_in d gone = d

-- asked home, or not yet
abbrev pub mood_of : Bool → Mood
mood_of true = asked
mood_of false = free

abbrev pub most_of : Bool → ℕ
most_of true = 0
most_of false = 1024

not_must : (b : Bool) → mood_of b ≡ must → ⊥
not_must true e = absurd (cc e)
not_must false e = absurd (cc e)

free_is : (b : Bool) → mood_of b ≡ free → b ≡ false
free_is true e = absurd (cc e)
free_is false e = refl

asked_is : (b : Bool) → mood_of b ≡ asked → b ≡ true
asked_is true e = refl
asked_is false e = absurd (cc e)

later_mood : (b c : Bool) → mood_after (mood_of b) c ≡ mood_of (b || c)
later_mood true c = refl
later_mood false true = refl
later_mood false false = refl

-- a turn after which the thread goes on ends nothing
no_end : (u : Turned) → goes u ≡ on → ends_with 0 u ≡ None
no_end turns.looked e = refl
no_end turns.stepped e = refl
no_end (turns.got id place) e = refl
no_end turns.got_null e = refl
no_end (turns.made_thread number) e = refl
no_end turns.refused_thread e = refl
no_end turns.found_busy e = refl
no_end turns.wants_room e = refl
no_end turns.rested e = refl
no_end (turns.ended value) e = absurd (cc e)
no_end (turns.trapped word kind) e = absurd (cc e)
no_end turns.passed_limit e = absurd (cc e)
no_end turns.lacked_stack e = absurd (cc e)

same_some : {A : Type 0} (a b : A) → Some a ≡ Some b → a ≡ b
same_some a b e = cc

module _ (instrs : List Instr) (shrinks : Shrinks (flow instrs)) (entries : ℕ) (first : Memory) (chooses : malloc_choice first.storage 0 4 ≡ got 0 0) where
  abbrev m : Machine Shared Context
  m = machine_of (code_with instrs)

  abbrev r : Rules
  r = record { workers = 1; schedule = None; every = None; entries = entries; evacuates = false }

  abbrev S : Type 0
  S = RunState Shared Context

  abbrev thread : ℕ → Words → Thread Spot Words
  thread i l = alone instrs shrinks i l

  abbrev image : Image Spot
  image = own instrs shrinks

  -- ---- states

  -- what is shared, where main alone was made
  abbrev shared : Storage → (output : List ℕ) → (limit : ℕ) → List Entry → Barriers → Shared
  shared st output limit made barriers = record { memory = record { storage = st; output = output; threads = beginning 0 0 ∷ []; leaving = None }; output_limit = limit; made = made; barriers = barriers }

  abbrev context : Stage Spot → (turns : ℕ) → Context
  context stage turns = record { number = 0; stage = Some stage; turns = turns; stop = None; wait = None }

  abbrev others : List (Place Context)
  others = unbegun_from m r 1 63

  -- main is out
  abbrev out_state : Shared → Context → (k : ℕ) → Bool → (x since spare : ℕ) → S
  out_state s c k b x since spare = record { shared = s; places = out 0 c k (mood_of b) ∷ others; last = 0; x = x; since = since; spare = spare; ending = None; due = [] }

  -- it stands at a row
  pub record OnRow (early : Bool) (ns : Nodes) (stage : Stage Spot) : Type 0 where
    pub stops_at : (most : ℕ) → StopsAt instrs shrinks most early ns stage

  pub record Out (early : Bool) (ns : Nodes) (s : S) : Type 0 where
    pub storage : Storage
    pub output : List ℕ
    pub limit : ℕ
    pub made : List Entry
    pub barriers : Barriers
    pub stage : Stage Spot
    pub turns : ℕ
    pub k : ℕ
    pub is_asked : Bool
    pub x : ℕ
    pub since : ℕ
    pub spare : ℕ
    pub is : s ≡ out_state (shared storage output limit made barriers) (context stage turns) k is_asked x since spare
    pub on_row : OnRow early ns stage
    pub still : early ≡ true → (shared storage output limit made barriers).memory ≡ first

  -- it is over
  record Over (s : S) : Type 0 where
    settled : s.due ≡ []
    well : EndsWell s.ending

  -- ---- all entries

  pub record Result (early : Bool) (bound : ℕ) (log : List Entry) (spare : ℕ) (z : S) : Type 0 where
    pub short : length log ≤ bound
    pub settled : z.due ≡ []
    pub ends : (z.ending ≡ None) ⊎ EndsWell z.ending
    pub kept : spare ≤ z.spare + length log
    pub got_first : early ≡ true → GotFirst (order log)

  ends_some : (o : Option End) (other : Option End) → EndsWell o → is_none (or_else o other) ≡ true → ⊥
  ends_some None other h e = h
  ends_some (Some end) other h e = absurd (cc e)

  -- once it is over nothing comes
  nothing_comes : (s : S) (es : List Entry) (z : S) → Over s → run m r es s ≡ Some z → (es ≡ []) × (z ≡ s)
  nothing_comes s [] z h e = (refl, sym (same_some s z e))
  nothing_comes s (e ∷ es) z h is = at (step m r s e) refl is
    where
      at : (o : Option S) → step m r s e ≡ o → option_and_then (run m r es) o ≡ Some z → (e ∷ es ≡ []) × (z ≡ s)
      at None st is = absurd (cc is)
      at (Some s1) st is = step_cases m r s e s1
          (λ (n : IsNext m r s e s1). let no : [] ≡ n.d ∷ n.ds = sym h.settled ∙ n.due in absurd (cc no))
          (λ (f : IsFirst m r s e s1). absurd (ends_some s.ending (cond (nat_lt s.spare 66) (Some TurnLimit) (cond (is_blocked m r s) (Some AllBlocked) None)) h.well f.live))
          st

  -- ---- a turn

  waits_none : (o : Option (List ℕ)) (t : Thread Spot Words) → waits_at image (Some (landing o t)) ≡ None
  waits_none None t = refl
  waits_none (Some list) t = refl

  -- what main's first turn was told, with the entries behind
  first_told : (later : Bool) (u : Turned) (es : List (ℕ × Answer)) → Tells true later u → (later ≡ true → GotFirst es) → GotFirst (turns_of (turn_entry 0 0 0 u) ++ es)
  first_told true u es h rest = subst (λ ts. GotFirst (ts ++ es)) (sym (turns_told u [] h)) (rest refl)
  first_told false u es h rest = subst (λ ts. GotFirst (ts ++ es)) (sym (turns_told u (told.Got ∷ []) h)) refl

  module _ (early : Bool) (ns : Nodes) (s : S) (o : Out early ns s) where
    abbrev there : Shared
    there = shared o.storage o.output o.limit o.made o.barriers

    abbrev c0 : Context
    c0 = context o.stage o.turns

    abbrev x0 : S
    x0 = out_state there c0 o.k o.is_asked o.x o.since o.spare

    at_stop : StopsAt instrs shrinks (most_of o.is_asked) early ns o.stage
    at_stop = o.on_row.stops_at (most_of o.is_asked)

    abbrev stage : Stage Spot
    stage = landing at_stop.list (thread at_stop.at at_stop.words)

    abbrev u : Turned
    u = turned instrs shrinks (limits_of there) first there.memory stage

    abbrev eff : Effect Spot
    eff = effect instrs shrinks (limits_of there) first there.memory stage

    abbrev acting : Acted Shared Context
    acting = m.act there (m.local (most_of o.is_asked) c0)

    abbrev did : Acted Shared Context
    did = m.act there (record { number = 0; stage = Some stage; turns = 0; stop = Some AtStep; wait = None })

    acting_is : acting ≡ did
    acting_is = ap (λ (came : Option (Came Spot)). m.act there (stopped_at c0 came)) at_stop.is

    -- the only event
    abbrev the_event : Acted Shared Context → Event Shared Context
    the_event a = turn_event m r x0 0 0 o.k (mood_of o.is_asked) a

    abbrev Is : Event Shared Context → Type 0
    Is v = v ≡ the_event acting

    works_at : (t n : ℕ) (c : Context) → place_at x0.places t ≡ out 0 c n free → Is (turn_event m r x0 0 t n free (m.act there (m.local 1024 c)))
    works_at zero n c at =
        ap (λ (p : Place Context). turn_event m r x0 0 0 (turns_in p) free (m.act there (m.local 1024 (context_in c0 p)))) (sym at)
        ∙ ap (λ b. turn_event m r x0 0 0 o.k (mood_of b) (m.act there (m.local (most_of b) c0))) (sym (free_is o.is_asked (ap mood_in at)))
    works_at (suc t) n c at = absurd (not_out others tt t 0 n c free at)

    rests_at : (t n : ℕ) (c : Context) → place_at x0.places t ≡ out 0 c n asked → Is (turn_event m r x0 0 t n asked (m.act there (m.local 0 c)))
    rests_at zero n c at =
        ap (λ (p : Place Context). turn_event m r x0 0 0 (turns_in p) asked (m.act there (m.local 0 (context_in c0 p)))) (sym at)
        ∙ ap (λ b. turn_event m r x0 0 0 o.k (mood_of b) (m.act there (m.local (most_of b) c0))) (sym (asked_is o.is_asked (ap mood_in at)))
    rests_at (suc t) n c at = absurd (not_out others tt t 0 n c asked at)

    no_must : (t n : ℕ) (c : Context) → place_at x0.places t ≡ out 0 c n must → ⊥
    no_must zero n c at = not_must o.is_asked (ap mood_in at)
    no_must (suc t) n c at = not_out others tt t 0 n c must at

    cases : Cases m r x0 0 Is
    cases = record {
      begins = λ t c calm picked at. let no : None ≡ Some t = picked in absurd (cc no);
      leaves = λ t c calm picked at. let no : None ≡ Some t = picked in absurd (cc no);
      sweeps = λ want none. let no : false ≡ true = want in absurd (cc no);
      works = works_at;
      rests = rests_at;
      comes = λ t n c at. absurd (no_must t n c at);
    }

    event_is : (k t : ℕ) (v : Event Shared Context) → event_at m r x0 k 0 t ≡ Some v → Is v
    event_is k t v e = subst (Holds m r x0 0 Is) e (event_holds m r x0 0 Is cases k t)

    -- the state behind it
    abbrev behind : Acted Shared Context → S
    behind a = record (turned_by m r x0 0 0 (o.k + 1) (mood_of o.is_asked) a (goes a.turned)) { due = []; spare = (turned_by m r x0 0 0 (o.k + 1) (mood_of o.is_asked) a (goes a.turned)).spare - 1 }

    -- an entry is that of the turn, and leads behind it
    record Leads (e : Entry) (s1 : S) : Type 0 where
      entry : e ≡ turn_entry 0 0 0 u
      state : s1 ≡ behind did

    leads : (e : Entry) (s1 : S) → IsFirst m r x0 e s1 → Leads e s1
    leads e s1 f =
        let w : e.worker ≡ 0 = one_worker e.worker f.known in
        let v : f.v ≡ the_event did = event_is e.kind e.thread f.v (ap (λ w. event_at m r x0 e.kind w e.thread) (sym w) ∙ f.event) ∙ ap the_event acting_is in
        let es : f.d ∷ f.ds ≡ turn_entry 0 0 0 u ∷ [] = sym f.entries ∙ ap (λ (v : Event Shared Context). v.entries) v in
        let d : f.d ≡ turn_entry 0 0 0 u = cc es in
        let ds : f.ds ≡ [] = cc es in
        record {
          entry = entry_is e f.d f.same ∙ d;
          state = f.is ∙ (ap (λ ds. record f.v.after { due = ds; spare = f.v.after.spare - length f.v.entries }) ds
              ∙ ap (λ (v : Event Shared Context). record v.after { due = []; spare = v.after.spare - length v.entries }) v);
        }

    -- ---- it goes on

    module _ (n : On instrs shrinks (limits_of there) first there.memory early at_stop.rest stage) where
      abbrev stage1 : Stage Spot
      stage1 = landing n.list (thread n.at n.words)

      abbrev calls_home : Bool
      calls_home = is_called_home m r x0 0 (o.k + 1) (turned_state m r x0 0 0 did (out 0 did.context (o.k + 1) (mood_of o.is_asked)))

      abbrev by_effect : Effect Spot → Option End → Mood → S
      by_effect e end mood = record {
        shared = record { memory = e.memory; output_limit = o.limit; made = turn_entry 0 0 0 u ∷ []; barriers = o.barriers };
        places = out 0 (record { number = 0; stage = e.stage; turns = 0; stop = None; wait = waits_at image e.stage }) (o.k + 1) mood ∷ others;
        last = 0;
        x = after_draw None o.x;
        since = o.since + 1;
        spare = o.spare - 1;
        ending = end;
        due = [];
      }

      abbrev by_memory : Memory → Option Wait → S
      by_memory memory wait = record {
        shared = record { memory = memory; output_limit = o.limit; made = turn_entry 0 0 0 u ∷ []; barriers = o.barriers };
        places = out 0 (record { number = 0; stage = Some stage1; turns = 0; stop = None; wait = wait }) (o.k + 1) (mood_of (o.is_asked || calls_home)) ∷ others;
        last = 0;
        x = after_draw None o.x;
        since = o.since + 1;
        spare = o.spare - 1;
        ending = None;
        due = [];
      }

      memory_is : n.memory ≡ record { storage = n.memory.storage; output = n.memory.output; threads = beginning 0 0 ∷ []; leaving = None }
      memory_is = λ i. record { storage = n.memory.storage; output = n.memory.output; threads = n.threads i; leaving = n.leaving i }

      state_is : behind did ≡ out_state (shared n.memory.storage n.memory.output o.limit (turn_entry 0 0 0 u ∷ []) o.barriers) (context stage1 0) (o.k + 1) (o.is_asked || calls_home) (after_draw None o.x) (o.since + 1) (o.spare - 1)
      state_is =
          ap (λ (g : Goes). record (turned_by m r x0 0 0 (o.k + 1) (mood_of o.is_asked) did g) { due = []; spare = (turned_by m r x0 0 0 (o.k + 1) (mood_of o.is_asked) did g).spare - 1 }) n.goes_on
          ∙ (ap (λ end. by_effect eff end (mood_after (mood_of o.is_asked) calls_home)) (no_end u n.goes_on)
          ∙ (ap (λ mood. by_effect eff None mood) (later_mood o.is_asked calls_home)
          ∙ (ap (λ (e : Effect Spot). by_effect e None (mood_of (o.is_asked || calls_home))) n.is
          ∙ (ap (λ wait. by_memory n.memory wait) (waits_none n.list (thread n.at n.words)) ∙ ap (λ (memory : Memory). by_memory memory None) memory_is))))

      next_out : Out n.later n.rest (behind did)
      next_out = record {
        storage = n.memory.storage;
        output = n.memory.output;
        limit = o.limit;
        made = turn_entry 0 0 0 u ∷ [];
        barriers = o.barriers;
        stage = stage1;
        turns = 0;
        k = o.k + 1;
        is_asked = o.is_asked || calls_home;
        x = after_draw None o.x;
        since = o.since + 1;
        spare = o.spare - 1;
        is = state_is;
        on_row = record { stops_at = λ most. from_there instrs shrinks most n.later n.rest n.at n.words n.list n.flat n.asked n.sits };
        still = λ e. sym memory_is ∙ n.still e;
      }

      spare_is : (behind did).spare ≡ o.spare - 1
      spare_is = ap (λ (s : S). s.spare) state_is

    -- ---- or it is over

    module _ (n : Off instrs shrinks (limits_of there) first there.memory early at_stop.rest stage) where
      gone_is : behind did ≡ record (turned_state m r x0 0 0 did gone) { due = []; spare = o.spare - 1 }
      gone_is = ap (λ (g : Goes). record (turned_by m r x0 0 0 (o.k + 1) (mood_of o.is_asked) did g) { due = []; spare = (turned_by m r x0 0 0 (o.k + 1) (mood_of o.is_asked) did g).spare - 1 }) n.goes_away

      over : Over (behind did)
      over = record { settled = ap (λ (s : S). s.due) gone_is; well = subst EndsWell (sym (ap (λ (s : S). s.ending) gone_is)) n.well }

      spare_gone : (behind did).spare ≡ o.spare - 1
      spare_gone = ap (λ (s : S). s.spare) gone_is

  -- ---- all turns

  turn : (e : Entry) (es : List Entry) (again : (early : Bool) (ns : Nodes) (s : S) (o : Out early ns s) (z : S) → run m r es s ≡ Some z → Result early (stops ns) es o.spare z) (early : Bool) (ns : Nodes) (s : S) (o : Out early ns s) (z : S) → e ≡ turn_entry 0 0 0 (u early ns s o) → run m r es (behind early ns s o (did early ns s o)) ≡ Some z
      → On instrs shrinks (limits_of (there early ns s o)) first (there early ns s o).memory early (at_stop early ns s o).rest (stage early ns s o)
      ⊎ Off instrs shrinks (limits_of (there early ns s o)) first (there early ns s o).memory early (at_stop early ns s o).rest (stage early ns s o)
      → Result early (stops ns) (e ∷ es) o.spare z
  unfolding next_out
  turn e es again early ns s o z entry is (inl n) =
      let h = again n.later n.rest (behind early ns s o (did early ns s o)) (next_out early ns s o n) z is in
      let count = (at_stop early ns s o).count in
      let fewer = n.count in
      let short = h.short in
      let kept : o.spare - 1 ≤ z.spare + length es = h.kept in
      record {
        short = omega (arith, count, fewer, short);
        settled = h.settled;
        ends = h.ends;
        kept = omega (arith, kept);
        got_first = λ q. subst (λ (t : Entry). GotFirst (turns_of t ++ order es)) (sym entry) (first_told n.later (u early ns s o) (order es) (subst (λ b. Tells b n.later (u early ns s o)) q n.tells) h.got_first);
      }
  turn e es again early ns s o z entry is (inr n) =
      let h = nothing_comes (behind early ns s o (did early ns s o)) es z (over early ns s o n) is in
      let count = (at_stop early ns s o).count in
      let some = n.some in
      let none : length es ≡ 0 = ap length h.0 in
      let spare : z.spare ≡ o.spare - 1 = ap (λ (s : S). s.spare) h.1 ∙ spare_gone early ns s o n in
      record {
        short = omega (arith, count, some, none);
        settled = subst (λ (s : S). s.due ≡ []) (sym h.1) (over early ns s o n).settled;
        ends = inr (subst (λ (s : S). EndsWell s.ending) (sym h.1) (over early ns s o n).well);
        kept = omega (arith, spare, none);
        got_first = λ q. let no : true ≡ false = sym q ∙ n.late in absurd (cc no);
      }

  next_of : (e : Entry) (es : List Entry) (again : (early : Bool) (ns : Nodes) (s : S) (o : Out early ns s) (z : S) → run m r es s ≡ Some z → Result early (stops ns) es o.spare z) (early : Bool) (ns : Nodes) (s : S) (o : Out early ns s) (z : S)
      (next : Option S) → step m r (x0 early ns s o) e ≡ next → option_and_then (run m r es) next ≡ Some z → Result early (stops ns) (e ∷ es) o.spare z
  next_of e es again early ns s o z None st is = absurd (cc is)
  next_of e es again early ns s o z (Some s1) st is = step_cases m r (x0 early ns s o) e s1
      (λ (n : IsNext m r (x0 early ns s o) e s1). let no : [] ≡ n.d ∷ n.ds = n.due in absurd (cc no))
      (λ (f : IsFirst m r (x0 early ns s o) e s1). let l = leads early ns s o e s1 f in
      let stop = at_stop early ns s o in
      turn e es again early ns s o z l.entry (subst (λ s. run m r es s ≡ Some z) l.state is)
      (turn_goes instrs shrinks (limits_of (there early ns s o)) first (there early ns s o).memory chooses early stop.rest stop.at stop.words stop.list stop.flat stop.first stop.asked stop.sits o.still))
      st

  pub outs : (log : List Entry) (early : Bool) (ns : Nodes) (s : S) (o : Out early ns s) (z : S) → run m r log s ≡ Some z → Result early (stops ns) log o.spare z
  outs [] early ns s o z is =
      let same : s ≡ z = same_some s z is in
      let z_is : z ≡ x0 early ns s o = sym same ∙ o.is in
      record {
        short = omega arith;
        settled = ap (λ (s : S). s.due) z_is;
        ends = inl (ap (λ (s : S). s.ending) z_is);
        kept = let e : z.spare ≡ o.spare = ap (λ (s : S). s.spare) z_is in omega (arith, e);
        got_first = λ e. tt;
      }
  outs (e ∷ es) early ns s o z is = next_of e es (outs es) early ns s o z (step m r (x0 early ns s o) e) refl (subst (λ s. run m r (e ∷ es) s ≡ Some z) o.is is)

  -- ---- from the start

  module _ (storage : Storage) (output : List ℕ) (limit : ℕ) (made : List Entry) (barriers : Barriers) (is_first : (shared storage output limit made barriers).memory ≡ first) where
    abbrev sh : Shared
    sh = shared storage output limit made barriers

    abbrev x1 : S
    x1 = start m r sh

    abbrev goes_first : Event Shared Context
    goes_first = goes_out m r x1 0 0 (m.begin sh (m.blank 0))

    abbrev IsGo : Event Shared Context → Type 0
    IsGo v = v ≡ goes_first

    is_home : Place Context → Bool
    is_home (unbegun c) = false
    is_home (home c) = true
    is_home (out w c n mood) = false
    is_home gone = false

    starts_cases : Cases m r x1 0 IsGo
    unfolding is_home
    starts_cases = record {
      begins = λ t c calm picked at.
          ap (λ (p : Place Context). goes_out m r x1 0 t (m.begin sh (context_in (m.blank 0) p))) (sym at)
          ∙ ap (λ t. goes_out m r x1 0 t (m.begin sh (context_in (m.blank 0) (place_at x1.places t)))) (sym (same_some 0 t picked));
      leaves = λ t c calm picked at. let no : false ≡ true = ap is_home (ap (λ t. place_at x1.places t) (same_some 0 t picked) ∙ at) in absurd (cc no);
      sweeps = λ want none. let no : false ≡ true = want in absurd (cc no);
      works = λ t n c at. absurd (not_out x1.places tt t 0 n c free at);
      rests = λ t n c at. absurd (not_out x1.places tt t 0 n c asked at);
      comes = λ t n c at. absurd (not_out x1.places tt t 0 n c must at);
    }

    go_is : (k t : ℕ) (v : Event Shared Context) → event_at m r x1 k 0 t ≡ Some v → IsGo v
    go_is k t v e = subst (Holds m r x1 0 IsGo) e (event_holds m r x1 0 IsGo starts_cases k t)

    abbrev out_first : S
    out_first = out_state sh (context (starts 0 0) 0) 0 false (after_draw None x1.x) 0 (entries - 1)

    record Begins (e : Entry) (s1 : S) : Type 0 where
      entry : e ≡ out_entry 0 0
      state : s1 ≡ out_first

    begins_so : (e : Entry) (s1 : S) → IsFirst m r x1 e s1 → Begins e s1
    begins_so e s1 f =
        let w : e.worker ≡ 0 = one_worker e.worker f.known in
        let v : f.v ≡ goes_first = go_is e.kind e.thread f.v (ap (λ w. event_at m r x1 e.kind w e.thread) (sym w) ∙ f.event) in
        let es : f.d ∷ f.ds ≡ out_entry 0 0 ∷ [] = sym f.entries ∙ ap (λ (v : Event Shared Context). v.entries) v in
        let d : f.d ≡ out_entry 0 0 = cc es in
        let ds : f.ds ≡ [] = cc es in
        record {
          entry = entry_is e f.d f.same ∙ d;
          state = f.is ∙ (ap (λ ds. record f.v.after { due = ds; spare = f.v.after.spare - length f.v.entries }) ds
              ∙ ap (λ (v : Event Shared Context). record v.after { due = []; spare = v.after.spare - length v.entries }) v);
        }

    -- what any journal comes to
    pub record Whole (bound : ℕ) (log : List Entry) (z : S) : Type 0 where
      pub short : length log ≤ suc bound
      pub settled : z.due ≡ []
      pub ends : (z.ending ≡ None) ⊎ EndsWell z.ending
      pub kept : entries ≤ z.spare + length log
      pub got_first : GotFirst (order log)

    module _ (ns : Nodes) (f : Flat ns) (asked : Asked true ns (first_call image.layout 0 0).temps) (sits : Sits instrs ns 0) where
      first_out : Out true ns out_first
      first_out = record {
        storage = storage;
        output = output;
        limit = limit;
        made = made;
        barriers = barriers;
        stage = starts 0 0;
        turns = 0;
        k = 0;
        is_asked = false;
        x = after_draw None x1.x;
        since = 0;
        spare = entries - 1;
        is = refl;
        on_row = record { stops_at = λ most. from_start instrs shrinks most true ns f asked sits };
        still = λ e. is_first;
      }

      pub whole : (log : List Entry) (z : S) → run m r log x1 ≡ Some z → Whole (stops ns) log z
      unfolding first_out
      whole [] z is =
          let z_is : z ≡ x1 = sym (same_some x1 z is) in
          record {
            short = omega arith;
            settled = ap (λ (s : S). s.due) z_is;
            ends = inl (ap (λ (s : S). s.ending) z_is);
            kept = let e : z.spare ≡ entries = ap (λ (s : S). s.spare) z_is in omega (arith, e);
            got_first = tt;
          }
      whole (e ∷ es) z is = at (step m r x1 e) refl is
        where
          at : (next : Option S) → step m r x1 e ≡ next → option_and_then (run m r es) next ≡ Some z → Whole (stops ns) (e ∷ es) z
          at None st is = absurd (cc is)
          at (Some s1) st is = step_cases m r x1 e s1
              (λ (n : IsNext m r x1 e s1). let no : [] ≡ n.d ∷ n.ds = n.due in absurd (cc no))
              (λ (g : IsFirst m r x1 e s1).
              let b = begins_so e s1 g in
              let h = outs es true ns out_first first_out z (subst (λ s. run m r es s ≡ Some z) b.state is) in
              let short = h.short in
              let kept : entries - 1 ≤ z.spare + length es = h.kept in
              record {
                short = omega (arith, short);
                settled = h.settled;
                ends = h.ends;
                kept = omega (arith, kept);
                got_first = subst (λ (t : Entry). GotFirst (turns_of t ++ order es)) (sym b.entry) (h.got_first refl);
              })
              st
