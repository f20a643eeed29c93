-- A turn that ends in a step, or in the return of its thread's first function: what comes of it is alike over named blocks and over words.
use Rattle.std.proofs.Common.{◌≡◌, ℕ, ℤ, ◌<◌, true, List, [], ◌∷◌, length, Option, Some, None, Result, Ok, Err, refl, sym, ap, subst, ◌∙◌, inl, inr, arith}
use Rattle.std.proofs.lemmas.Bool.{ltb-true}
use Rattle.ak_words.specs.IntType.{int}
use Rattle.block_store.specs.declared.values.Answer.{Answer}
use Rattle.block_store.specs.declared.values.Answer.TheVariants as answers
use Rattle.block_store.specs.declared.values.Value.{Value}
use Rattle.block_store.specs.declared.values.Value.TheVariants as values
use Rattle.block_store.specs.Actions as actions
use Rattle.block_store.specs.Actions.{World, with_blocks}
use Rattle.struct_ir.specs.Nodes.{Step, step, own_list, Ir}
use Rattle.struct_ir.specs.Flow.{does, returns}
use Rattle.struct_ir.specs.Machine.{Point, run}
use Rattle.struct_ir.specs.Threads.{Thread, Outcome, ended, broke, alone, and_then, served, finished, stop_at, stop_event, left_call, turn}
use Rattle.struct_ir.specs.Valid.{scope_of, is_below_if, is_step}
use Rattle.struct_ir.specs.ValidCode.{is_here}
use Rattle.struct_ir.specs.meaning.Blocks.{value, Own, Fault, wrong_kind, same_type, blocks_machine}
use Rattle.struct_ir.specs.meaning.Threads.{action_of, served_if, result_of, int_in, finished_with, over, blocks_world}
use Rattle.flat_words.specs.Words.{word_of}
use Rattle.flat_meaning.specs.Image.{Image}
use Rattle.flat_meaning.specs.Words.{Words, word_at}
use Rattle.flat_meaning.specs.Memory.{Memory, thread_ended}
use Rattle.flat_meaning.specs.Accesses.{Choice, plain, wait}
use Rattle.flat_meaning.specs.Machine.{words_machine, words_world, given}
use Rattle.flat_meaning.specs.Effects.{stop_of}
use Rattle.flat_meaning.specs.Allowed.{MayDo}
use Rattle.flat_meaning.specs.Order.{action_answer}
use Rattle.flat_meaning.specs.Start.{chosen_id}
use Rattle.flat_meaning.specs.Names.{Name}
use Rattle.flat_meaning.specs.Stands.{in_blocks}
use Rattle.flat_simulation.specs.inner.Values.{KnownIn, Stands}
use Rattle.flat_simulation.specs.inner.Programs.{IsImage}
use Rattle.flat_simulation.specs.inner.Worlds.{WorldStands}
use Rattle.flat_simulation.specs.inner.Threads.{CallersStand, ThreadStands, TurnsAlike}
use Rattle.flat_simulation.proofs.Numbers.{word_small}
use Rattle.flat_simulation.proofs.Registers.{was_value}
use Rattle.flat_simulation.proofs.Pointers.{if_ok}
use Rattle.flat_simulation.proofs.Programs.{in_range}
use Rattle.flat_simulation.proofs.Settled.{settled_world, settled}
use Rattle.flat_simulation.proofs.Returns.{its_end}
use Rattle.flat_simulation.proofs.Lands.{acted_ends, ended_then, alike_then, step_lands}
use Rattle.flat_simulation.proofs.Done.{finish_done}
use Rattle.flat_simulation.proofs.Steps.{step_alike}
use Rattle.flat_simulation.proofs.Leads.{leads_there}
use Rattle.flat_simulation.proofs.Stopping.{IsStop, Stopped, stops_or_breaks, left, stopped_world, stopped_ended, stopped_stands, stopped_clear, stopped_callers}

module _ {P : Type 0} (x : Image P) (p : Ir) (image : IsImage x p) (thread : ℕ) (code : ℕ → P) (names : List Name) (w : World) (m : Memory) (world : WorldStands x.layout p names w m) (k : Thread P Own) (q : Thread P Words)
    (stand : ThreadStands x p thread names w.blocks m.storage k q) (stop : IsStop (x.flow.here q.top.at)) where
  abbrev Stop : Type 0
  Stop = Stopped x p image thread names w m world k q stand stop

  abbrev left_ : Stop → World
  left_ t = left x p image thread names w m world k q stand stop t

  -- the thread at its stop
  abbrev pub there : Stop → Thread P Own
  there t = record { top = record { at = q.top.at; own = t.own }; callers = k.callers }

  abbrev pub its_turn : Answer → Outcome P Own Fault World
  its_turn answer = turn x.flow (blocks_machine p) (blocks_world p thread) code answer k w

  -- a turn is what it stops before
  pub turn_stops : (answer : Answer) (t : Stop) → its_turn answer ≡ stop_at x.flow (blocks_machine p) (blocks_world p thread) code answer (there t) (left_ t) (x.flow.here q.top.at)
  turn_stops answer t = ap (λ r. and_then (alone (blocks_world p thread) k.callers w r) (stop_event x.flow (blocks_machine p) (blocks_world p thread) code answer)) t.runs

  -- or its fault
  pub turn_breaks : (answer : Answer) (f : Fault) → run x.flow (blocks_machine p) (in_blocks w.blocks k.top) ≡ Err f → its_turn answer ≡ broke f
  turn_breaks answer f e = ap (λ r. and_then (alone (blocks_world p thread) k.callers w r) (stop_event x.flow (blocks_machine p) (blocks_world p thread) code answer)) e

  its_range : (t : Stop) → is_here (scope_of p stand.frame.func) (x.flow.here q.top.at) ≡ true
  its_range t = in_range x p image q.top.own stand.frame t.stands.way q.top.at t.stands.path

  -- ---- a step

  module _ (place : ℕ) (st : Step) (here : x.flow.here q.top.at ≡ does place (step st)) (choice : Choice) (may : MayDo m.storage q.top.own choice st.action st.temps) (not_waiting : choice ≡ wait → ⊥) where
    pub step_in_range : (t : Stop) → is_step (scope_of p stand.frame.func) st ≡ true
    step_in_range t = subst (λ h. is_here (scope_of p stand.frame.func) h ≡ true) here (its_range t)

    words_stop : stop_of x thread choice q m ≡ stop_at x.flow (words_machine x.layout thread) (words_world x.layout thread) x.start choice q m (does place (step st))
    words_stop = ap (λ h. stop_at x.flow (words_machine x.layout thread) (words_world x.layout thread) x.start choice q m h) here

    by_action : (t : Stop) (r : Result actions.SharedAction Fault) → action_of place t.own st ≡ r
        → TurnsAlike x p thread t.made_names (chosen_id choice) (own_list st) (left_ t) m (served x.flow (there t) (served_if place thread (action_answer x m choice st.action) t.own st.to (left_ t) r))
        (stop_at x.flow (words_machine x.layout thread) (words_world x.layout thread) x.start choice q m (does place (step st)))
    by_action t (Err f) e = tt
    by_action t (Ok action) e =
        let n = t.made_names in
        let world_there = stopped_world x p image thread names w m world k q stand stop t in
        let stands_there = stopped_stands x p image thread names w m world k q stand stop t in
        let alike = step_alike x p thread n (left_ t) m world_there t.own refl q.top.own stands_there.call stand.frame place st choice (step_in_range t)
        (leads_there x p image thread n m.storage (record { at = q.top.at; own = t.own }) q.top world_there.blocks stands_there place st here) may not_waiting action e in
        step_lands x p image thread stand.stack n w m t.own world_there q.top.at q.top.own k.callers q.callers stands_there stand.frame (stopped_clear x p image thread names w m world k q stand stop t) (stopped_callers x p image thread names w m world k q stand stop t) place st here
        (chosen_id choice) _ _ alike

    pub step_turns : TurnsAlike x p thread names (chosen_id choice) (own_list st) w m (its_turn (action_answer x m choice st.action)) (stop_of x thread choice q m)
    step_turns = elim (stops_or_breaks x p image thread names w m world k q stand stop) [
      | inl t ↦
          let turn_is = turn_stops (action_answer x m choice st.action) t ∙ ap (λ h. stop_at x.flow (blocks_machine p) (blocks_world p thread) code (action_answer x m choice st.action) (there t) (left_ t) h) here in
          let alike = by_action t (action_of place t.own st) refl in
          let whole = alike_then x p thread names t.made_names (chosen_id choice) (own_list st) w t.own.blocks m (stopped_ended x p image thread names w m world k q stand stop t) _ _ alike in
          subst (λ o. TurnsAlike x p thread names (chosen_id choice) (own_list st) w m o (stop_of x thread choice q m)) (sym turn_is)
          (subst (λ o. TurnsAlike x p thread names (chosen_id choice) (own_list st) w m (stop_at x.flow (blocks_machine p) (blocks_world p thread) code (action_answer x m choice st.action) (there t) (left_ t) (does place (step st))) o) (sym words_stop) whole)
      | inr b ↦ subst (λ o. TurnsAlike x p thread names (chosen_id choice) (own_list st) w m o (stop_of x thread choice q m)) (sym (turn_breaks (action_answer x m choice st.action) b.0 b.1)) tt
    ]

  -- ---- the return of its first function

  module _ (temp : Option ℕ) (here : x.flow.here q.top.at ≡ returns temp) (last : q.callers ≡ []) where
    none_waits : (ks : List (Point P Own)) (qs : List (Point P Words)) → qs ≡ [] → CallersStand x p thread names w.blocks m.storage q.top.own.below.stack ks qs → ks ≡ []
    none_waits [] [] e s = refl
    none_waits (c ∷ ks) [] e s = absurd s
    none_waits ks (d ∷ qs) e s = absurd cc

    word_given : (t : Stop) (o : Option ℕ) → is_below_if stand.frame.func.temps o ≡ true → (z : Option ℤ) → result_of t.own o ≡ Ok z → given q.top.own o ≡ word_of (actions.result_of z)
    word_given t None below z e = let is : None ≡ z = cc in sym (word_small 0 (omega arith)) ∙ ap (λ r. word_of (actions.result_of r)) is
    word_given t (Some r) below z e = by_value (was_value 0 (t.own.temps r) int_in z e)
      where
        stands_r : Stands t.made_names (KnownIn (length w.blocks) (length w.blocks)) t.own.blocks (t.own.temps r) (word_at q.top.own r)
        stands_r = t.stands.call.temps r (subst (λ n. r < n) (sym stand.frame.temps) (ltb-true r stand.frame.func.temps below))

        by_int : (v : Value) → t.own.temps r ≡ value v → int_in v ≡ Ok z → word_at q.top.own r ≡ word_of (actions.result_of z)
        by_int (values.Num n) is i =
            let same = if_ok (same_type int n.ty) (Some n.value) z wrong_kind i in
            let number : Stands t.made_names (KnownIn (length w.blocks) (length w.blocks)) t.own.blocks (value (values.Num n)) (word_at q.top.own r) = subst (λ h. Stands t.made_names (KnownIn (length w.blocks) (length w.blocks)) t.own.blocks h (word_at q.top.own r)) is stands_r in
            number ∙ ap (λ y. word_of (actions.result_of y)) same.1
        by_int (values.Pointer a) is i = absurd cc

        by_value : (v : Value) × (t.own.temps r ≡ value v) × (int_in v ≡ Ok z) → word_at q.top.own r ≡ word_of (actions.result_of z)
        by_value (v, is, i) = by_int v is i

    by_result : (t : Stop) (list : Option (List ℕ)) (r : Result (Option ℤ) Fault) → result_of t.own temp ≡ r
        → TurnsAlike x p thread names [] list w m (finished (finished_with thread answers.Plain t.own (left_ t) (over p t.own).blocks r)) (ended q.top.own (thread_ended m thread (given q.top.own temp)))
    by_result t list (Err f) e = tt
    by_result t list (Ok z) e =
        let n = t.made_names in
        let its = its_end x p image thread stand.stack names w m world n t.own q.top.own stand.frame t.far t.stands.call in
        let world_there = settled_world x p image thread stand.stack names w m world n (over p t.own) q.top.own stand.frame its.far its.call in
        let one = settled x p image thread stand.stack names w m world n (over p t.own) q.top.own stand.frame its.far its.call in
        let below : is_below_if stand.frame.func.temps temp ≡ true = subst (λ h. is_here (scope_of p stand.frame.func) h ≡ true) here (its_range t) in
        let done = finish_done x.layout p n (with_blocks w (over p t.own).blocks) m world_there thread (given q.top.own temp) (actions.result_of z) [] (word_given t temp below z e) in
        (n, ended_then x.layout p thread names n n [] w _ (over p t.own).blocks m (thread_ended m thread (given q.top.own temp)) one (acted_ends x.layout p thread n n [] _ _ m (thread_ended m thread (given q.top.own temp)) done))

    pub return_turns : (list : Option (List ℕ)) → TurnsAlike x p thread names [] list w m (its_turn answers.Plain) (stop_of x thread plain q m)
    return_turns list = elim (stops_or_breaks x p image thread names w m world k q stand stop) [
      | inl t ↦
          let none = none_waits k.callers q.callers last stand.callers in
          let turn_is = turn_stops answers.Plain t ∙ ap (λ h. stop_at x.flow (blocks_machine p) (blocks_world p thread) code answers.Plain (there t) (left_ t) h) here
          ∙ ap (λ cs. left_call x.flow (blocks_world p thread) answers.Plain t.own temp (left_ t) cs) none in
          let words_stop : stop_of x thread plain q m ≡ ended q.top.own (thread_ended m thread (given q.top.own temp)) =
          ap (λ h. stop_at x.flow (words_machine x.layout thread) (words_world x.layout thread) x.start plain q m h) here ∙ ap (λ cs. left_call x.flow (words_world x.layout thread) plain q.top.own temp m cs) last in
          subst (λ o. TurnsAlike x p thread names [] list w m o (stop_of x thread plain q m)) (sym turn_is)
          (subst (λ o. TurnsAlike x p thread names [] list w m (left_call x.flow (blocks_world p thread) answers.Plain t.own temp (left_ t) []) o) (sym words_stop) (by_result t list (result_of t.own temp) refl))
      | inr b ↦ subst (λ o. TurnsAlike x p thread names [] list w m o (stop_of x thread plain q m)) (sym (turn_breaks answers.Plain b.0 b.1)) tt
    ]
