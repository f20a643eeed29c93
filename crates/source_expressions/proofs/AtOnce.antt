-- Operands whose value is there without any step.
use Rattle.std.proofs.Common.{◌≡◌, ◌∙◌, ℕ, List, Result, Ok, Err, refl, ap, sym}
use Rattle.ak_words.specs.declared.rule.Rule.{Rule}
use Rattle.block_store.specs.declared.values.Value.{Value}
use Rattle.block_store.specs.Blocks.{Blocks}
use Rattle.c_tree.specs.Typed as tree
use Rattle.c_meaning.specs.Control as control
use Rattle.c_meaning.specs.Turns.{TurnContext, Now, WayOfUse, on_ok, second_way}
use Rattle.c_meaning.specs.Values.{Binary, of_two}
use Rattle.source_tree.specs.declared.tree.SharedProgram.{SharedProgram}
use Rattle.source_state.specs.declared.control.Progress.{Progress}
use Rattle.source_state.specs.declared.control.Progress.TheVariants as flows
use Rattle.source_expressions.specs.Ends.{here_at}
use Rattle.source_expressions.specs.Progress.{Flows, FlowsSecond, now_in, progress, done_with}

done_flow : (h : TurnContext) (w : WayOfUse) (x : Now) (place : ℕ) (answer : Result Value Rule) → on_ok place (λ v. w.go v x) answer ≡ progress h w x (done_with place answer)
done_flow h w x place (Ok v) = refl
done_flow h w x place (Err rule) = refl

-- a right operand that needs no name of what follows
pub second_there : (p : SharedProgram) (locals : List control.Variable) (blocks : Blocks) (place : ℕ) (op : Binary) (left v : Value) (e : tree.Expr) (k : control.Use) (answer : Result Value Rule) (g : Progress)
    → ((q : SharedProgram) (b : Blocks) (u : control.Use) → Flows q locals b e u (flows.Gives v))
    → answer ≡ of_two blocks op left v → g ≡ done_with place answer
    → FlowsSecond p locals blocks place op left e k g
second_there p locals blocks place op left v e k answer g there is_answer is_flow = record {
  goes = λ function r w x n.
      (there p blocks (control.second_of place op left w.k)).goes function r (second_way place op left w) x refl
      ∙ ap (λ a. on_ok place (λ u. w.go u (now_in locals blocks x)) a) (sym is_answer)
      ∙ done_flow (here_at p function r) w (now_in locals blocks x) place answer
      ∙ ap (λ f. progress (here_at p function r) w (now_in locals blocks x) f) (sym is_flow);
}
