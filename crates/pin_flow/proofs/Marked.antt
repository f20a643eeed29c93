-- The marks at nodes.
use Rattle.std.proofs.Common.{◌≡◌, ℕ, Bool, true, false, ◌||◌, ◌&&◌, if◌then◌else◌, refl, ap, ◌∙◌}
use Rattle.std.specs.Prelude.{not}
use Rattle.struct_ir.specs.Nodes.{Node, plain, if_, loop, break_, next_, ret}
use Rattle.pin_flow.specs.Held.{held, filled, filled_for, fresh, pinned}
use Rattle.pin_flow.specs.Views.{node_marked, looks_at, looks_slot, assigns_at, lacks_at}

held_at_before : (b : ℕ) (n : Node) (v : Bool) → node_marked (held b) n v ≡ (looks_at b n || (not (assigns_at b n) && v))
held_at_before b (plain p a) v = refl
held_at_before b (if_ p x one other) v = refl
held_at_before b (loop p body latch) v = refl
held_at_before b (break_ p) v = refl
held_at_before b (next_ p) v = refl
held_at_before b (ret p x) v = refl

pub filled_at : (s : ℕ) (n : Node) (v : Bool) → node_marked (filled s) n v ≡ (looks_slot s n || v)
filled_at s (plain p a) v = refl
filled_at s (if_ p x one other) v = refl
filled_at s (loop p body latch) v = refl
filled_at s (break_ p) v = refl
filled_at s (next_ p) v = refl
filled_at s (ret p x) v = refl

pub filled_for_at : (s b : ℕ) (n : Node) (v : Bool) → node_marked (filled_for s b) n v ≡ (if looks_slot s n then looks_at b n else v)
filled_for_at s b (plain p a) v = refl
filled_for_at s b (if_ p x one other) v = refl
filled_for_at s b (loop p body latch) v = refl
filled_for_at s b (break_ p) v = refl
filled_for_at s b (next_ p) v = refl
filled_for_at s b (ret p x) v = refl

fresh_at_before : (s b : ℕ) (n : Node) (v : Bool) → node_marked (fresh s b) n v ≡ (if looks_slot s n then looks_at b n else (not (assigns_at b n) && v))
fresh_at_before s b (plain p a) v = refl
fresh_at_before s b (if_ p x one other) v = refl
fresh_at_before s b (loop p body latch) v = refl
fresh_at_before s b (break_ p) v = refl
fresh_at_before s b (next_ p) v = refl
fresh_at_before s b (ret p x) v = refl

pinned_at_before : (s b : ℕ) (n : Node) (v : Bool) → node_marked (pinned s b) n v ≡ (if looks_slot s n then looks_at b n else (not (assigns_at b n) && (not (lacks_at s n) && v)))
pinned_at_before s b (plain p a) v = refl
pinned_at_before s b (if_ p x one other) v = refl
pinned_at_before s b (loop p body latch) v = refl
pinned_at_before s b (break_ p) v = refl
pinned_at_before s b (next_ p) v = refl
pinned_at_before s b (ret p x) v = refl

-- ---- what was before, asked first

turned : (a v : Bool) → (a && v) ≡ (v && a)
turned true true = refl
turned true false = refl
turned false true = refl
turned false false = refl

turned_twice : (a b v : Bool) → (a && (b && v)) ≡ (v && (a && b))
turned_twice true b v = turned b v
turned_twice false b true = refl
turned_twice false b false = refl

pub held_at : (b : ℕ) (n : Node) (v : Bool) → node_marked (held b) n v ≡ (looks_at b n || (v && not (assigns_at b n)))
held_at b n v = held_at_before b n v ∙ ap (λ x. looks_at b n || x) (turned (not (assigns_at b n)) v)

pub fresh_at : (s b : ℕ) (n : Node) (v : Bool) → node_marked (fresh s b) n v ≡ (if looks_slot s n then looks_at b n else (v && not (assigns_at b n)))
fresh_at s b n v = fresh_at_before s b n v ∙ ap (λ x. if looks_slot s n then looks_at b n else x) (turned (not (assigns_at b n)) v)

pub pinned_at : (s b : ℕ) (n : Node) (v : Bool) → node_marked (pinned s b) n v ≡ (if looks_slot s n then looks_at b n else (v && (not (assigns_at b n) && not (lacks_at s n))))
pinned_at s b n v = pinned_at_before s b n v ∙ ap (λ x. if looks_slot s n then looks_at b n else x) (turned_twice (not (assigns_at b n)) (not (lacks_at s n)) v)
