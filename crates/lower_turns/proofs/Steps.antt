-- What a thread of the code does from a position on, step by step.
use Rattle.std.proofs.Common.{◌≡◌, ℕ, Bool, true, false, List, Option, Result, Ok, Err, refl, sym, ap, subst, ◌∙◌}
use Rattle.ak_words.specs.declared.rule.Rule.{Rule}
use Rattle.block_store.specs.declared.values.Answer.{Answer}
use Rattle.block_store.specs.declared.values.Value.{Value}
use Rattle.block_store.specs.declared.values.Value.TheVariants as values
use Rattle.block_store.specs.Actions as actions
use Rattle.block_store.specs.Actions.{World, Done, acted}
use Rattle.block_store.specs.Runs as runs
use Rattle.block_store.specs.Runs.{Turn}
use Rattle.c_tree.specs.Typed as tree
use Rattle.race_rules.specs.declared.touch.Touch.{Touch}
use Rattle.c_meaning.specs.Control.{Control}
use Rattle.c_meaning.specs.Turns.{on_ok, on_done, having_touched}
use Rattle.c_meaning.specs.Values.{truth_of}
use Rattle.struct_ir.specs.Nodes as ir
use Rattle.struct_ir.specs.Nodes.{Calc, Nodes, no_nodes, more_nodes, plain, Ir, Step}
use Rattle.struct_ir.specs.Structured.{Position, then_, in_body, in_latch, out_of, end_of, structured}
use Rattle.struct_ir.specs.Machine as machine
use Rattle.struct_ir.specs.Machine.{Point, Ahead, goes, stops, breaks, ahead, run}
use Rattle.struct_ir.specs.Threads.{Thread, and_then, alone, stop_event, served}
use Rattle.struct_ir.specs.Threads as threads
use Rattle.struct_ir.proofs.Runs.{unfolds}
use Rattle.struct_ir.proofs.Sizes.{structured_shrinks}
use Rattle.struct_ir.specs.meaning.Blocks.{Held, value, Fault, broken, Own, set_at, with_temps, known, on_value, or_broken, calculated, assigned, begun, object_ended, way_of, blocks_machine}
use Rattle.struct_ir.specs.meaning.Threads.{action_of, set_if, served_by, blocks_world, start_in, turned, served_if}
use Rattle.lower_forms.specs.Forms.{sets, branches}
use Rattle.lower_turns.proofs.Relation.{Together, both_went, both_ended, both_blocked, both_unfit, both_broke, same}

module _ (p : Ir) (thread : ℕ) (answer : Answer) (callers : List (Point Position Own)) (s : World) where
  -- what comes of a turn that goes on so
  abbrev pub after : Result (Point Position Own) Fault → Turn (Thread Position Own)
  after x = turned (and_then (alone (blocks_world p thread) callers s x) (stop_event structured (blocks_machine p) (blocks_world p thread) (start_in p) answer))

  -- the rest of a turn, from a position on
  abbrev pub onward : Position → Own → Turn (Thread Position Own)
  onward k l = after (run structured (blocks_machine p) (record { at = k; own = l }))

  -- the world of a stop
  abbrev pub kept : Own → World
  kept l = actions.with_blocks s l.blocks

  abbrev Next : Type 0
  Next = Ahead Position Own Fault

  leads_to : (k : Position) (l : Own) (x : Next) → ahead structured (blocks_machine p) (record { at = k; own = l }) ≡ x
      → onward k l ≡ after (machine.further (run structured (blocks_machine p)) (record { at = k; own = l }) x)
  leads_to k l x e =
      ap after (unfolds structured structured_shrinks (blocks_machine p) (record { at = k; own = l }))
      ∙ ap (λ (y : Next). after (machine.further (run structured (blocks_machine p)) (record { at = k; own = l }) y)) e

  pub goes_to : (k j : Position) (l m : Own) → ahead structured (blocks_machine p) (record { at = k; own = l }) ≡ goes (record { at = j; own = m }) → onward k l ≡ onward j m
  goes_to k j l m e = leads_to k l (goes (record { at = j; own = m })) e

  pub breaks_to : (k : Position) (l : Own) (f : Fault) → ahead structured (blocks_machine p) (record { at = k; own = l }) ≡ breaks f → onward k l ≡ after (Err f)
  breaks_to k l f e = leads_to k l (breaks f) e

  -- what the thread stops before
  pub stops_at : (k : Position) (l : Own) → ahead structured (blocks_machine p) (record { at = k; own = l }) ≡ stops
      → onward k l ≡ turned (stop_event structured (blocks_machine p) (blocks_world p thread) (start_in p) answer (record { top = record { at = k; own = l }; callers = callers }) (kept l))
  stops_at k l e = leads_to k l stops e

  -- ---- nodes at which nothing is decided

  pub no_more : (k : Position) (l : Own) → onward (then_ no_nodes k) l ≡ onward k l
  no_more k l = goes_to (then_ no_nodes k) k l l refl

  pub enters_loop : (place : ℕ) (B L r : Nodes) (q : Position) (l : Own) → onward (then_ (more_nodes (ir.loop place B L) r) q) l ≡ onward (then_ B (in_body B L (then_ r q))) l
  enters_loop place B L r q l = goes_to _ _ l l refl

  pub breaks_out : (place : ℕ) (r : Nodes) (q : Position) (l : Own) → onward (then_ (more_nodes (ir.break_ place) r) q) l ≡ onward (out_of q) l
  breaks_out place r q l = goes_to _ _ l l refl

  pub goes_next : (place : ℕ) (r : Nodes) (q : Position) (l : Own) → onward (then_ (more_nodes (ir.next_ place) r) q) l ≡ onward (end_of q) l
  goes_next place r q l = goes_to _ _ l l refl

  pub body_over : (B L : Nodes) (q : Position) (l : Own) → onward (in_body B L q) l ≡ onward (then_ L (in_latch B L q)) l
  body_over B L q l = goes_to _ _ l l refl

  pub begins_object : (place i : ℕ) (r : Nodes) (q : Position) (l : Own) → onward (then_ (more_nodes (plain place (ir.begin_object i)) r) q) l ≡ onward (then_ r q) (begun p l i)
  begins_object place i r q l = goes_to _ _ l _ refl

  pub ends_object : (place i : ℕ) (r : Nodes) (q : Position) (l : Own) → onward (then_ (more_nodes (plain place (ir.end_object i)) r) q) l ≡ onward (then_ r q) (object_ended l i)
  ends_object place i r q l = goes_to _ _ l _ refl

  -- ---- registers that are set

  pub set_step : (place to : ℕ) (calc : Calc) (r : Nodes) (q : Position) (l : Own) (h : Held) → calculated p place l calc ≡ Ok h
      → onward (then_ (sets place to calc r) q) l ≡ onward (then_ r q) (with_temps l (set_at l.temps to h))
  set_step place to calc r q l h e = goes_to _ _ l _ (ap (λ (x : Result Held Fault). machine.after_act (then_ r q) (assigned l to x)) e)

  pub set_breaks : (place to : ℕ) (calc : Calc) (r : Nodes) (q : Position) (l : Own) (f : Fault) → calculated p place l calc ≡ Err f
      → onward (then_ (sets place to calc r) q) l ≡ after (Err f)
  set_breaks place to calc r q l f e = breaks_to _ l f (ap (λ (x : Result Held Fault). machine.after_act (then_ r q) (assigned l to x)) e)

  -- ---- branches

  pub test_true : (place u : ℕ) (one other r : Nodes) (q : Position) (l : Own) → on_value (known place (l.temps u)) (way_of place l) ≡ Ok true
      → onward (then_ (branches place u one other r) q) l ≡ onward (then_ one (then_ r q)) l
  test_true place u one other r q l e = goes_to _ _ l l (ap (λ (x : Result Bool Fault). machine.tested structured (record { at = then_ (branches place u one other r) q; own = l }) x) e)

  pub test_false : (place u : ℕ) (one other r : Nodes) (q : Position) (l : Own) → on_value (known place (l.temps u)) (way_of place l) ≡ Ok false
      → onward (then_ (branches place u one other r) q) l ≡ onward (then_ other (then_ r q)) l
  test_false place u one other r q l e = goes_to _ _ l l (ap (λ (x : Result Bool Fault). machine.tested structured (record { at = then_ (branches place u one other r) q; own = l }) x) e)

  pub test_breaks : (place u : ℕ) (one other r : Nodes) (q : Position) (l : Own) (f : Fault) → on_value (known place (l.temps u)) (way_of place l) ≡ Err f
      → onward (then_ (branches place u one other r) q) l ≡ after (Err f)
  test_breaks place u one other r q l f e = breaks_to _ l f (ap (λ (x : Result Bool Fault). machine.tested structured (record { at = then_ (branches place u one other r) q; own = l }) x) e)

  -- ---- actions

  pub does_step : (place : ℕ) (st : Step) (r : Nodes) (q : Position) (l : Own) (a : actions.SharedAction) → action_of place l st ≡ Ok a
      → onward (then_ (more_nodes (plain place (ir.step st)) r) q) l
      ≡ turned (served structured (record { top = record { at = then_ (more_nodes (plain place (ir.step st)) r) q; own = l }; callers = callers }) (served_by place l st.to (acted (kept l) thread answer a)))
  does_step place st r q l a e =
      stops_at (then_ (more_nodes (plain place (ir.step st)) r) q) l refl
      ∙ ap (λ (x : Result actions.SharedAction Fault). turned (served structured (record { top = record { at = then_ (more_nodes (plain place (ir.step st)) r) q; own = l }; callers = callers })
      (served_if place thread answer l st.to (kept l) x))) e

  -- ---- both sides

  module _ (t : tree.Typed) where
    pub then_same : (x : Turn Control) (k j : Position) (l m : Own) → onward k l ≡ onward j m → Together t x (onward j m) → Together t x (onward k l)
    then_same x k j l m e h = subst (Together t x) (sym e) h

    pub set_then : (x : Turn Control) (place to : ℕ) (calc : Calc) (r : Nodes) (q : Position) (l : Own) (h : Held) → calculated p place l calc ≡ Ok h
        → Together t x (onward (then_ r q) (with_temps l (set_at l.temps to h))) → Together t x (onward (then_ (sets place to calc r) q) l)
    set_then x place to calc r q l h e y = subst (Together t x) (sym (set_step place to calc r q l h e)) y

    set_result_at : (go : Value → Turn Control) (place to : ℕ) (calc : Calc) (r : Nodes) (q : Position) (l : Own) (res : Result Value Rule) → calculated p place l calc ≡ or_broken place value res
        → ((v : Value) → res ≡ Ok v → Together t (go v) (onward (then_ r q) (with_temps l (set_at l.temps to (value v)))))
        → Together t (on_ok place go res) (onward (then_ (sets place to calc r) q) l)
    set_result_at go place to calc r q l (Ok v) e h = set_then (go v) place to calc r q l (value v) e (h v refl)
    set_result_at go place to calc r q l (Err rule) e h =
        subst (Together t (runs.broke rule place)) (sym (set_breaks place to calc r q l (broken rule place) e)) (both_broke rule place)

    -- a register takes a result, or a rule is broken
    pub set_result : (go : Value → Turn Control) (place to : ℕ) (calc : Calc) (r : Nodes) (q : Position) (l : Own) (res : Result Value Rule) → calculated p place l calc ≡ or_broken place value res
        → ((v : Value) → res ≡ Ok v → Together t (go v) (onward (then_ r q) (with_temps l (set_at l.temps to (value v)))))
        → Together t (on_ok place go res) (onward (then_ (sets place to calc r) q) l)
    set_result go place to calc r q l res e h = set_result_at go place to calc r q l res e h

    way_is : (place : ℕ) (l : Own) (v : Value) → way_of place l v ≡ or_broken place (λ b. b) (truth_of l.blocks v)
    way_is place l (values.Num n) = refl
    way_is place l (values.Pointer a) = refl

    known_way : (place u : ℕ) (l : Own) (v : Value) → l.temps u ≡ value v → on_value (known place (l.temps u)) (way_of place l) ≡ or_broken place (λ b. b) (truth_of l.blocks v)
    known_way place u l v e = ap (λ (h : Held). on_value (known place h) (way_of place l)) e ∙ way_is place l v

    branch_at : (go : Bool → Turn Control) (place u : ℕ) (one other r : Nodes) (q : Position) (l : Own) (res : Result Bool Rule)
        → on_value (known place (l.temps u)) (way_of place l) ≡ or_broken place (λ b. b) res
        → (res ≡ Ok true → Together t (go true) (onward (then_ one (then_ r q)) l)) → (res ≡ Ok false → Together t (go false) (onward (then_ other (then_ r q)) l))
        → Together t (on_ok place go res) (onward (then_ (branches place u one other r) q) l)
    branch_at go place u one other r q l (Ok true) e h g = subst (Together t (go true)) (sym (test_true place u one other r q l e)) (h refl)
    branch_at go place u one other r q l (Ok false) e h g = subst (Together t (go false)) (sym (test_false place u one other r q l e)) (g refl)
    branch_at go place u one other r q l (Err rule) e h g =
        subst (Together t (runs.broke rule place)) (sym (test_breaks place u one other r q l (broken rule place) e)) (both_broke rule place)

    -- one way or the other, or a rule is broken
    pub branch : (go : Bool → Turn Control) (place u : ℕ) (one other r : Nodes) (q : Position) (l : Own) (v : Value) → l.temps u ≡ value v
        → Together t (go true) (onward (then_ one (then_ r q)) l) → Together t (go false) (onward (then_ other (then_ r q)) l)
        → Together t (on_ok place go (truth_of l.blocks v)) (onward (then_ (branches place u one other r) q) l)
    branch go place u one other r q l v e h g = branch_at go place u one other r q l (truth_of l.blocks v) (known_way place u l v e) (λ x. h) (λ x. g)

    -- an action's end
    done_alike : (go : Option Value → World → Turn Control) (place : ℕ) (at : Point Position Own) (to : Option ℕ) (d : Done)
        → ((v : Option Value) (w : World) → d ≡ actions.went v w
        → Together t (go v w) (runs.went (record { top = threads.behind structured at (with_temps at.own (set_if at.own.temps to v)); callers = callers }) w))
        → Together t (on_done place go d) (turned (served structured (record { top = at; callers = callers }) (served_by place at.own to d)))
    done_alike go place at to (actions.went v w) h = h v w refl
    done_alike go place at to actions.blocked h = both_blocked
    done_alike go place at to actions.unfit h = both_unfit
    done_alike go place at to (actions.broke rule) h = both_broke rule place

    -- a step that both do
    step_alike : (go : Option Value → World → Turn Control) (place : ℕ) (st : Step) (r : Nodes) (q : Position) (l : Own) (a : actions.SharedAction) → action_of place l st ≡ Ok a
        → ((v : Option Value) (w : World) → acted (kept l) thread answer a ≡ actions.went v w
        → Together t (go v w) (runs.went (record { top = record { at = then_ r q; own = with_temps l (set_if l.temps st.to v) }; callers = callers }) w))
        → Together t (on_done place go (acted (kept l) thread answer a)) (onward (then_ (more_nodes (plain place (ir.step st)) r) q) l)
    step_alike go place st r q l a e h =
        subst (Together t (on_done place go (acted (kept l) thread answer a))) (sym (does_step place st r q l a e))
        (done_alike go place (record { at = then_ (more_nodes (plain place (ir.step st)) r) q; own = l }) st.to (acted (kept l) thread answer a) h)

    -- what a turn touched is no matter
    touching : (ts : List Touch) (x : Turn Control) (y : Turn (Thread Position Own)) → Together t x y → Together t (having_touched ts x) y
    touching ts _ _ (both_went w all (same call agrees point callers')) = both_went w all (same call agrees point callers')
    touching ts _ _ (both_ended w all) = both_ended w all
    touching ts _ _ both_blocked = both_blocked
    touching ts _ _ both_unfit = both_unfit
    touching ts _ _ (both_broke rule place) = both_broke rule place

    -- an action that both do
    pub acts_alike : (go : Option Value → World → Turn Control) (ts : List Touch) (place : ℕ) (st : Step) (r : Nodes) (q : Position) (l : Own) (a : actions.SharedAction) → action_of place l st ≡ Ok a
        → ((v : Option Value) (w : World) → acted (kept l) thread answer a ≡ actions.went v w
        → Together t (go v w) (runs.went (record { top = record { at = then_ r q; own = with_temps l (set_if l.temps st.to v) }; callers = callers }) w))
        → Together t (on_done place (λ v w. having_touched ts (go v w)) (acted (kept l) thread answer a)) (onward (then_ (more_nodes (plain place (ir.step st)) r) q) l)
    acts_alike go ts place st r q l a e h = step_alike (λ v w. having_touched ts (go v w)) place st r q l a e (λ v w is. touching ts (go v w) _ (h v w is))
