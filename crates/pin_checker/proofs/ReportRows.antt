-- Rows of nodes, as the program reports them.
use Rattle.std.proofs.Common.{◌≡◌, ◌<◌, ◌≤◌, ◌+◌, ℕ, List, length, drop, take, ◌-◌, get_or, Option, Bool, refl, sym, ap, ◌∙◌, arith}
use Rattle.std.proofs.lemmas.List.{drop_all, take_all, length-drop}
use Rattle.std.specs.Prelude.{not}
use Rattle.struct_ir.specs.declared.code.Node.{Node as CodeNode}
use Rattle.struct_ir.specs.declared.code.NodeKind.{NodeKind}
use Rattle.struct_ir.specs.declared.code.NodeKind.TheVariants as kinds
use Rattle.struct_ir.specs.Valid.{Scope, Around, list_at}
use Rattle.struct_ir.specs.Views.{kind_view, node_view, nodes_view}
use Rattle.pin_flow.specs.Marks.{AllPaths, flow_node}
use Rattle.pin_flow.proofs.FlowRows.{split_at}
use Rattle.pin_checker.specs.declared.fault.Fault.{Fault}
use Rattle.pin_checker.specs.declared.fault.Why.TheVariants.{BadTemp}
use Rattle.pin_checker.specs.Faults.{is_sound}
use Rattle.pin_checker.specs.inner.Reports.{Search, noted, report, report_node, report_invalid, report_invalid_in}
use Rattle.struct_ir.specs.Nodes.{node_place}

-- one node more
pub row_on : (s : Search) (rows : List CodeNode) (i : ℕ) (x : CodeNode) (t t' : AllPaths) (best best' all : Option Fault) → i < length rows → x ≡ get_or rows i x → report s (nodes_view (drop i rows)) t best ≡ all
    → best' ≡ report_node s (node_view x) t best → t' ≡ (flow_node s.mark (node_view x) t).on → report s (nodes_view (drop (i + 1) rows)) t' best' ≡ all
unfolding report
row_on s rows i x t t' best best' all le is inv e f =
    (λ j. report s (nodes_view (drop (i + 1) rows)) (f j) (e j)) ∙ (ap (λ l. report s (nodes_view l) t best) (sym (split_at rows i x le is)) ∙ inv)

-- no node more
pub row_over : (s : Search) (rows : List CodeNode) (i : ℕ) (t : AllPaths) (best all : Option Fault) → length rows ≤ i → report s (nodes_view (drop i rows)) t best ≡ all → best ≡ all
unfolding report
row_over s rows i t best all le inv = ap (λ l. report s (nodes_view l) t best) (sym (drop_all i rows le)) ∙ inv

-- ---- nodes that are not valid

pub place_is : (p : ℕ) (k : NodeKind) → p ≡ node_place (kind_view p k)
place_is p (kinds.Set to calc) = refl
place_is p (kinds.If' temp shape one shape' other) = refl
place_is p (kinds.Loop' shape body shape' latch) = refl
place_is p kinds.Break = refl
place_is p kinds.Next = refl
place_is p (kinds.Call c) = refl
place_is p (kinds.Ret temp) = refl
place_is p (kinds.Step s) = refl
place_is p (kinds.Look slot base) = refl
place_is p (kinds.Safepoint slots) = refl
place_is p (kinds.Begin i) = refl
place_is p (kinds.End i) = refl

-- the slice behind a node
rest_is : (rows : List CodeNode) (i : ℕ) → take (length rows - (i + 1)) (drop (i + 1) rows) ≡ drop (i + 1) rows
rest_is rows i = take_all _ _ (omega (arith, length-drop (i + 1) rows))

-- one node more
pub invalid_on : (x : Scope) (around : Around) (rows : List CodeNode) (i : ℕ) (n : CodeNode) (before before' : Option (List ℕ)) (best next best' all : Option Fault) (sound : Bool) → i < length rows → n ≡ get_or rows i n
    → report_invalid x around before (nodes_view (drop i rows)) best ≡ all → sound ≡ is_sound x around before (node_view n) (nodes_view (take (length rows - (i + 1)) (drop (i + 1) rows))) → next ≡ noted (not sound) n.place BadTemp best
    → best' ≡ report_invalid_in x around (node_view n) next → before' ≡ list_at (node_view n) → report_invalid x around before' (nodes_view (drop (i + 1) rows)) best' ≡ all
unfolding report_invalid
invalid_on x around rows i n before before' best next best' all sound le is inv e f g h =
    let e' = e ∙ ap (λ l. is_sound x around before (node_view n) (nodes_view l)) (rest_is rows i) in
    let a : next ≡ noted (not (is_sound x around before (node_view n) (nodes_view (drop (i + 1) rows)))) (node_place (node_view n)) BadTemp best = f ∙ (λ j. noted (not (e' j)) (place_is n.place n.kind j) BadTemp best) in
    let b = g ∙ ap (report_invalid_in x around (node_view n)) a in
    (λ j. report_invalid x around (h j) (nodes_view (drop (i + 1) rows)) (b j)) ∙ (ap (λ l. report_invalid x around before (nodes_view l) best) (sym (split_at rows i n le is)) ∙ inv)
