-- Rows with safepoints, as the program makes them.
use Rattle.std.proofs.Common.{◌≡◌, ℕ, List, [], ◌∷◌, length, arith, Bool, true, false, if◌then◌else◌, refl, sym, ap, ◌∙◌}
use Rattle.std.specs.Global.{Vec}
use Rattle.struct_ir.specs.declared.code.Node.{Node as CodeNode}
use Rattle.struct_ir.specs.declared.code.NodeKind.TheViews as views
use Rattle.struct_ir.specs.Nodes.{Step, may_wait, if_, loop, Nodes, no_nodes, more_nodes}
use Rattle.struct_ir.specs.Views.{node_view, nodes_view, followed}
use Rattle.struct_ir.proofs.Views.{if_is, loop_is, followed_none}
use Rattle.pin_frames.specs.inner.Place.{step_listing, stop, seats, seated, seated_in, cleared, cleared_in}

abbrev no_slots : List ℕ
no_slots = []

no_choice : (x : Bool) → (if x then no_slots else no_slots) ≡ no_slots
no_choice true = refl
no_choice false = refl

pub step_cleared : (x : Step) → step_listing x [] ≡ record { action = x.action; places = x.places; to = x.to; temps = x.temps; slots = [] }
step_cleared x = λ i. record { action = x.action; places = x.places; to = x.to; temps = x.temps; slots = no_choice (may_wait x.action) i }

-- no node more
pub row_seated : (out rest : List CodeNode) (all : Nodes → Nodes) → length rest ≡ 0 → ((tail : Nodes) → followed out (seated (cleared (nodes_view rest)) tail) ≡ all tail) → (tail : Nodes) → followed out tail ≡ all tail
row_seated out [] all e inv = inv
row_seated out (x ∷ rest) all e inv = absurd (omega (arith, e))

-- by itself
pub row_alone : (out : List CodeNode) (ns : Nodes) → ((tail : Nodes) → followed out tail ≡ seated ns tail) → nodes_view out ≡ seated ns no_nodes
row_alone out ns f = sym (followed_none out) ∙ f no_nodes

pub if_sat : (n x : CodeNode) (temp : ℕ) (v w one other : Vec CodeNode) → n.kind ≡ views.If temp v w → node_view x ≡ if_ n.place temp (nodes_view one.items) (nodes_view other.items)
    → nodes_view one.items ≡ seated (cleared (nodes_view v.items)) no_nodes → nodes_view other.items ≡ seated (cleared (nodes_view w.items)) no_nodes
    → (rest : Nodes) → more_nodes (node_view x) rest ≡ seats (seated_in (cleared_in (node_view n))) rest
if_sat n x temp v w one other is e f g rest =
    ap (λ y. more_nodes y rest) (e ∙ (λ i. if_ n.place temp (f i) (g i))) ∙ ap (λ y. seats (seated_in (cleared_in y)) rest) (sym (if_is n temp v w is))

pub loop_sat : (n x : CodeNode) (v w one other : Vec CodeNode) → n.kind ≡ views.Loop v w → node_view x ≡ loop n.place (nodes_view one.items) (nodes_view other.items)
    → nodes_view one.items ≡ seated (cleared (nodes_view v.items)) no_nodes → nodes_view other.items ≡ seated (cleared (nodes_view w.items)) (more_nodes (stop n.place) no_nodes)
    → (rest : Nodes) → more_nodes (node_view x) rest ≡ seats (seated_in (cleared_in (node_view n))) rest
loop_sat n x v w one other is e f g rest =
    ap (λ y. more_nodes y rest) (e ∙ (λ i. loop n.place (f i) (g i))) ∙ ap (λ y. seats (seated_in (cleared_in y)) rest) (sym (loop_is n v w is))
