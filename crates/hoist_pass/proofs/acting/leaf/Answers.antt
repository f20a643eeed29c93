use Rattle.std.proofs.Common.{◌≡◌, ℕ, Bool, true, refl, ap, ◌∙◌, inl, inr}
use Rattle.std.specs.Prelude.{Result, Ok, Err, IfOk}
use Rattle.struct_ir.specs.declared.code.Node.{Node as CodeNode}
use Rattle.struct_ir.specs.Views.{node_view}
use Rattle.pin_flow.specs.Held.{held}
use Rattle.pin_flow.specs.Marks.{at, after, in_turn}
use Rattle.pin_flow.specs.Views.{node_marked, leaf}
use Rattle.pin_flow.proofs.FlowRows.{is_plain, plain_of}
use Rattle.mark_sets.specs.declared.marks.Marks.{Marks}
use Rattle.mark_sets.specs.declared.sets.SetWays.{SetWays}
use Rattle.mark_sets.specs.Views.{sets_view, ways_view}
use Rattle.mark_sets.proofs.Bits.{leaf_marked}
use Rattle.hoist_pass.specs.inner.Sets.{bit, states, ways_by}
use Rattle.hoist_pass.proofs.acting.leaf.Goals as goal

-- an act
as_leaf : {E : Type 0} (x : Marks) (n : CodeNode) (a : SetWays) (r : Result SetWays E) → is_plain (node_view n) ≡ true
    → IfOk r (λ o. (b : ℕ) → ways_by (bit x b) (ways_view o) ≡ in_turn (ways_by (bit x b) (ways_view a)) (at (after (λ (w : Bool). node_marked (held b) (node_view n) w) (states x (sets_view a.on) b))))
    → IfOk r (λ o. (b : ℕ) → ways_by (bit x b) (ways_view o) ≡ in_turn (ways_by (bit x b) (ways_view a)) (leaf (held b) (node_view n) (states x (sets_view a.on) b)))
as_leaf x n a (Ok o) l f = λ b. f b ∙ ap (in_turn (ways_by (bit x b) (ways_view a))) (leaf_marked (held b) (node_view n) l (states x (sets_view a.on) b))
as_leaf x n a (Err e) l f = tt

pub returns-in-Set : goal.returns-in-Set
returns-in-Set c =
    let l : is_plain (node_view c.args.n.now) ≡ true = elim c.in-Set.is [
      | inl (x, y, e) ↦ plain_of c.args.n.now _ e refl
      | inr (inl (x, e)) ↦ plain_of c.args.n.now _ e refl
      | inr (inr (inl (x, e))) ↦ plain_of c.args.n.now _ e refl
      | inr (inr (inr (x, y, e))) ↦ plain_of c.args.n.now _ e refl
    ] in
    as_leaf c.args.marks.now c.args.n.now c.args.ahead c.acted-in-Set.result l c.acted-in-Set.ensures

pub returns-in-Safepoint : goal.returns-in-Safepoint
returns-in-Safepoint c =
    let l : is_plain (node_view c.args.n.now) ≡ true = elim c.in-Safepoint.is [
      | inl (x, e) ↦ plain_of c.args.n.now _ e refl
      | inr (inl (x, e)) ↦ plain_of c.args.n.now _ e refl
      | inr (inr (x, e)) ↦ plain_of c.args.n.now _ e refl
    ] in
    as_leaf c.args.marks.now c.args.n.now c.args.ahead c.acted.result l c.acted.ensures
