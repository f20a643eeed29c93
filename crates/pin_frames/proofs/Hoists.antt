-- Hoisted code stays hoisted with its safepoints and lists.
use Rattle.std.proofs.Common.{◌≡◌, ℕ, List, [], true, false, ◌||◌, ◌&&◌, refl, sym, ◌∙◌}
use Rattle.std.specs.Prelude.{not}
use Rattle.struct_ir.specs.Nodes.{Act, set, call, step, look, safepoint, begin_object, end_object, Node, plain, if_, loop, break_, next_, ret, Nodes, no_nodes, more_nodes}
use Rattle.pin_flow.specs.Marks.{AllPaths, bad, Each}
use Rattle.pin_flow.specs.Looks.{act_looks, act_assigns, loops_assign, loop_in_assigns, Hoisted}
use Rattle.pin_flow.specs.Held.{held, IsDue, HoistedThroughout}
use Rattle.pin_flow.specs.Live.{Live, body_lives, latch_lives}
use Rattle.pin_flow.proofs.Covers.{due_needed}
use Rattle.pin_frames.specs.inner.Place.{act_listing, heads, turns, on_states, rest_lives, listed, listed_in, none_held, none_later, placed}
use Rattle.pin_frames.proofs.Listed.{some_listed, each_listed}
use Rattle.pin_frames.proofs.Exact.{held_listing}
use Rattle.pin_frames.proofs.Seat.{sat, loops_seated, each_seated}

pub looks_listing : (b : ℕ) (a : Act) (l : List ℕ) → act_looks b (act_listing a l) ≡ act_looks b a
looks_listing b (set to calc) l = refl
looks_listing b (call c) l = refl
looks_listing b (step x) l = refl
looks_listing b (look s base) l = refl
looks_listing b (safepoint old) l = refl
looks_listing b (begin_object i) l = refl
looks_listing b (end_object i) l = refl

assigns_listing : (b : ℕ) (a : Act) (l : List ℕ) → act_assigns b (act_listing a l) ≡ act_assigns b a
assigns_listing b (set to calc) l = refl
assigns_listing b (call c) l = refl
assigns_listing b (step x) l = refl
assigns_listing b (look s base) l = refl
assigns_listing b (safepoint old) l = refl
assigns_listing b (begin_object i) l = refl
assigns_listing b (end_object i) l = refl

module _ (slot_of : ℕ → ℕ) (bs : List ℕ) (b : ℕ) where
  mutual
    loops_listed : (ns : Nodes) (ts : ℕ → AllPaths) (ls : ℕ → Live) → loops_assign b (listed slot_of bs ns ts ls) ≡ loops_assign b ns
    loops_listed no_nodes ts ls = refl
    loops_listed (more_nodes n rest) ts ls = λ i. loop_in_listed n ts (rest_lives slot_of rest ls) i && loops_listed rest (on_states n ts) ls i

    loop_in_listed : (n : Node) (ts : ℕ → AllPaths) (ls : ℕ → Live) → loop_in_assigns b (listed_in slot_of bs n ts ls) ≡ loop_in_assigns b n
    loop_in_listed (plain p a) ts ls = refl
    loop_in_listed (if_ p x one other) ts ls = λ i. loops_listed one ts ls i && loops_listed other ts ls i
    loop_in_listed (loop p body latch) ts ls =
        let bl : ℕ → Live = λ c. body_lives (slot_of c) c body latch (ls c).on in
        let tl : ℕ → Live = λ c. latch_lives (slot_of c) c body latch (ls c).on in
        let hs = heads body latch ts in
        let us = turns body latch ts in
        let look_body = some_listed slot_of bs (act_looks b) (looks_listing b) body hs bl in
        let look_latch = some_listed slot_of bs (act_looks b) (looks_listing b) latch us tl in
        let set_body = some_listed slot_of bs (act_assigns b) (assigns_listing b) body hs bl in
        let set_latch = some_listed slot_of bs (act_assigns b) (assigns_listing b) latch us tl in
        λ i. (not (look_body i || look_latch i) || (set_body i || set_latch i)) && (loops_listed body hs bl i && loops_listed latch us tl i)
    loop_in_listed (break_ p) ts ls = refl
    loop_in_listed (next_ p) ts ls = refl
    loop_in_listed (ret p x) ts ls = refl

  each_due : (ns : Nodes) (ts : ℕ → AllPaths) (ls : ℕ → Live) → Each (IsDue b) (held b) ns bad → Each (IsDue b) (held b) (listed slot_of bs ns ts ls) bad
  each_due ns ts ls e = each_listed slot_of bs (held b) (held_listing b) (IsDue b) (λ a l t q g. q (sym (looks_listing b a l) ∙ g)) ns ts ls bad e

  due_sat : (ns : Nodes) → Each (IsDue b) (held b) ns bad → Each (IsDue b) (held b) (sat ns) bad
  due_sat ns e = each_seated (held b) (λ slots v. refl) (IsDue b) (λ slots t g. absurd (let x : false ≡ true = g in cc)) ns e

-- cleared first
pub hoisted_cleared : (slot_of : ℕ → ℕ) (ns : Nodes) → HoistedThroughout ns → HoistedThroughout (listed slot_of [] ns none_held none_later)
hoisted_cleared slot_of ns h = record {
  out_of_loops = λ b. loops_listed slot_of [] b ns none_held none_later ∙ h.out_of_loops b;
  due = λ b. each_due slot_of [] b ns none_held none_later (h.due b);
}

pub throughout_placed : (slot_of : ℕ → ℕ) (bs : List ℕ) (ns : Nodes) → HoistedThroughout ns → HoistedThroughout (placed slot_of bs ns)
throughout_placed slot_of bs ns h = record {
  out_of_loops = λ b. loops_listed slot_of bs b (sat ns) none_held none_later ∙ (loops_seated b ns ∙ h.out_of_loops b);
  due = λ b. each_due slot_of bs b (sat ns) none_held none_later (due_sat slot_of bs b ns (h.due b));
}

pub throughout_is_hoisted : (ns : Nodes) → HoistedThroughout ns → Hoisted ns
throughout_is_hoisted ns h = record {
  out_of_loops = h.out_of_loops;
  needed = λ b. due_needed ns b (h.due b);
}
