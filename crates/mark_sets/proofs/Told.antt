-- What sets of slots tell of rows and of loops.
use Rattle.std.proofs.Common.{◌≡◌, ℕ, List, Some, Result, IfOk, true, ◌||◌, ◌&&◌, ap, ◌∙◌}
use Rattle.std.specs.Prelude.{not}
use Rattle.std.proofs.lemmas.Result.{IfOk-weaker}
use Rattle.struct_ir.specs.declared.code.Node.{Node as CodeNode}
use Rattle.struct_ir.specs.Views.{node_view}
use Rattle.pin_flow.specs.Views.{act_is, looks_slot}
use Rattle.pin_flow.proofs.FlowRows.{is_plain}
use Rattle.mark_sets.specs.declared.from_behind.Walked.{Walked}
use Rattle.mark_sets.proofs.LiveRows.{live_act_at}
use Rattle.struct_ir.specs.Nodes.{Node, Nodes}
use Rattle.pin_flow.specs.Slots.{slot_if}
use Rattle.pin_flow.specs.Live.{uses, lives, live, live_node, head_live, latch_live, body_lives, latch_lives}
use Rattle.mark_sets.specs.Words.{has}
use Rattle.mark_sets.specs.Homes.{Tells, lives_in}

-- before a row that is told
module _ (bs on set out end : List ℕ) (rest : Nodes) (told : Tells bs set (λ i b. live i b rest (lives_in on out end i))) where
  pub lives_told : (b i : ℕ) → slot_if bs b ≡ Some i → lives_in set out end i ≡ lives (live i b rest (lives_in on out end i)) (has out i) (has end i)
  lives_told b i e = ap (λ y. lives y (has out i) (has end i)) (told b i e)

-- in a loop of which the rounds' start and the body's end are told
module _ (bs on head top last : List ℕ) (body latch : Nodes) (tops : top ≡ head) (lasts : List ℕ) (same : lasts ≡ last)
    (heads : Tells bs head (λ i b. head_live i b body latch (has on i))) (ends : Tells bs last (λ i b. live i b latch (lives_in top on head i))) where
  pub in_latch : (b i : ℕ) → slot_if bs b ≡ Some i → lives_in top on head i ≡ latch_lives i b body latch (has on i)
  in_latch b i e = (λ j. lives (has (tops j) i) (has on i) (has head i)) ∙ (λ j. lives (heads b i e j) (has on i) (heads b i e j))

  pub at_end : (b i : ℕ) → slot_if bs b ≡ Some i → has last i ≡ latch_live i b body latch (has on i)
  unfolding latch_live
  at_end b i e = ends b i e ∙ ap (live i b latch) (in_latch b i e)

  pub in_body : (b i : ℕ) → slot_if bs b ≡ Some i → lives_in lasts on last i ≡ body_lives i b body latch (has on i)
  in_body b i e = (λ j. lives (has (same j) i) (has on i) (has last i)) ∙ (λ j. lives (at_end b i e j) (has on i) (at_end b i e j))

-- an act
module _ {E : Type 0} (r : Result Walked E) (bs on out end : List ℕ) (n' : Node) (n : CodeNode) where
  pub act_told : IfOk r (λ w. Tells bs w.on.items (λ i b. act_is (uses i b) n' || (not (looks_slot i n') && has on i))) → n' ≡ node_view n → is_plain (node_view n) ≡ true
      → IfOk r (λ w. Tells bs w.on.items (λ i b. live_node i b (node_view n) (lives_in on out end i)))
  act_told f same l =
      IfOk-weaker r (λ w. Tells bs w.on.items (λ i b. act_is (uses i b) n' || (not (looks_slot i n') && has on i))) (λ w. Tells bs w.on.items (λ i b. live_node i b (node_view n) (lives_in on out end i)))
      (λ w g b i e. g b i e ∙ ((λ j. act_is (uses i b) (same j) || (not (looks_slot i (same j)) && has on i)) ∙ live_act_at i b (node_view n) (lives_in on out end i) l)) f
