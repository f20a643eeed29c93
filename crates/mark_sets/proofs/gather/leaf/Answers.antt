use Rattle.std.proofs.Common.{◌≡◌, Bool, true, refl, ap, ◌∙◌, inl, inr}
use Rattle.std.specs.Prelude.{Result, Ok, Err, IfOk}
use Rattle.struct_ir.specs.declared.code.Node.{Node as CodeNode}
use Rattle.struct_ir.specs.Views.{node_view}
use Rattle.pin_flow.specs.Marks.{at, after, in_turn}
use Rattle.pin_flow.specs.Views.{mark_view, node_marked, leaf}
use Rattle.pin_flow.proofs.FlowRows.{is_plain, plain_of}
use Rattle.mark_sets.specs.declared.marks.Marks.{Marks}
use Rattle.mark_sets.specs.declared.pairs.PairWays.{PairWays}
use Rattle.mark_sets.specs.Sets.{state_at, ways_at}
use Rattle.mark_sets.specs.Views.{pairs_view, pair_ways_view, GoesOn}
use Rattle.mark_sets.proofs.Bits.{leaf_marked}
use Rattle.mark_sets.proofs.gather.leaf.Goals as goal

-- an act
as_leaf : {E : Type 0} (x : Marks) (n : CodeNode) (a : PairWays) (r : Result PairWays E) → is_plain (node_view n) ≡ true → IfOk r (λ o. GoesOn x (pair_ways_view a) (λ m t. at (after (λ (w : Bool). node_marked m (node_view n) w) t)) (pair_ways_view o))
    → IfOk r (λ o. GoesOn x (pair_ways_view a) (λ m t. leaf m (node_view n) t) (pair_ways_view o))
as_leaf x n a (Ok o) l f = λ k i v e. f k i v e ∙ ap (in_turn (ways_at (i, v) (pair_ways_view a))) (leaf_marked (mark_view k) (node_view n) l (state_at (i, v) (pairs_view a.on)))
as_leaf x n a (Err e) l f = tt

pub returns-in-Set : goal.returns-in-Set
returns-in-Set c =
    let l : is_plain (node_view c.args.n.now) ≡ true = elim c.in-Set.is [
      | inl (x, y, e) ↦ plain_of c.args.n.now _ e refl
      | inr (inl (x, e)) ↦ plain_of c.args.n.now _ e refl
      | inr (inr (inl (x, e))) ↦ plain_of c.args.n.now _ e refl
      | inr (inr (inr (x, y, e))) ↦ plain_of c.args.n.now _ e refl
    ] in
    as_leaf c.args.marks.now c.args.n.now c.args.ahead c.acted-in-Set.result l c.acted-in-Set.ensures

pub returns-in-Safepoint : goal.returns-in-Safepoint
returns-in-Safepoint c =
    let l : is_plain (node_view c.args.n.now) ≡ true = elim c.in-Safepoint.is [
      | inl (x, e) ↦ plain_of c.args.n.now _ e refl
      | inr (inl (x, e)) ↦ plain_of c.args.n.now _ e refl
      | inr (inr (x, e)) ↦ plain_of c.args.n.now _ e refl
    ] in
    as_leaf c.args.marks.now c.args.n.now c.args.ahead c.acted.result l c.acted.ensures
