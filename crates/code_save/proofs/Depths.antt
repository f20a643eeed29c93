-- How deep rows of nodes are.
use Rattle.std.proofs.Common.{◌≡◌, ℕ, suc, ◌-◌, ◌+◌, ◌<◌, ◌≤◌, max, Bool, true, false, ◌&&◌, leb, List, [], ◌∷◌, length, map, drop, get_or, refl, sym, ap, ◌∙◌, arith}
use Rattle.std.proofs.lemmas.Bool.{le-leb, lt-leb, leb-true, leb-false}
use Rattle.std.proofs.lemmas.List.{drop_all, drop_more}
use Rattle.std.proofs.Math.Dec.{eqb-suc-zero}
use Rattle.std.specs.Prelude.{nat_le, ◌==◌}
use Rattle.struct_ir.specs.declared.code.Node.{Node as CodeNode}
use Rattle.struct_ir.specs.declared.code.IrFunc.{IrFunc}
use Rattle.struct_ir.specs.Nodes.{Node, Nodes, more_nodes, Func}
use Rattle.struct_ir.specs.Views.{node_view, nodes_view, func_view}
use Rattle.code_save.specs.Saves.{node_depth, depth, most_of}

pub le_max : (a b n : ℕ) → nat_le (max a b) n ≡ (nat_le a n && nat_le b n)
le_max a b n = by (leb a n) (leb b n) refl refl
  where
    by : (p q : Bool) → leb a n ≡ p → leb b n ≡ q → leb (max a b) n ≡ (p && q)
    by true true e f = let x : a ≤ n = leb-true a n e in let y : b ≤ n = leb-true b n f in le-leb (max a b) n (omega arith)
    by true false e f = let y : n < b = leb-false b n f in lt-leb (max a b) n (omega arith)
    by false q e f = let x : n < a = leb-false a n e in lt-leb (max a b) n (omega arith)

one_less : (a n : ℕ) → 0 < n → nat_le (suc a) n ≡ nat_le a (n - 1)
one_less a n h = by (leb a (n - 1)) refl
  where
    by : (p : Bool) → leb a (n - 1) ≡ p → leb (suc a) n ≡ p
    by true e = let x : a ≤ n - 1 = leb-true a (n - 1) e in le-leb (suc a) n (omega arith)
    by false e = let x : n - 1 < a = leb-false a (n - 1) e in lt-leb (suc a) n (omega arith)

row_more : (levels : ℕ) → 0 < levels → (n : Node) (rest : Nodes) → nat_le (depth (more_nodes n rest)) levels ≡ (nat_le (node_depth n) (levels - 1) && nat_le (depth rest) levels)
row_more levels h n rest = le_max (suc (node_depth n)) (depth rest) levels ∙ ap (λ b. b && nat_le (depth rest) levels) (one_less (node_depth n) levels h)

-- one item of a loop decides, or what is left does
step_is : (levels : ℕ) → 0 < levels → (xs : List CodeNode) (i : ℕ) (d : CodeNode) → i < length xs
    → nat_le (depth (nodes_view (drop i xs))) levels ≡ (nat_le (node_depth (node_view (get_or xs i d))) (levels - 1) && nat_le (depth (nodes_view (drop (i + 1) xs))) levels)
step_is levels h xs i d lt =
    ap (λ (l : List CodeNode). nat_le (depth (nodes_view l)) levels) (drop_more xs i d lt) ∙ row_more levels h (node_view (get_or xs i d)) (nodes_view (drop (i + 1) xs))

pub goes_on : (levels : ℕ) → 0 < levels → (xs : List CodeNode) (i : ℕ) (d : CodeNode) (whole : Bool) → i < length xs → true ≡ nat_le (node_depth (node_view (get_or xs i d))) (levels - 1)
    → nat_le (depth (nodes_view (drop i xs))) levels ≡ whole → nat_le (depth (nodes_view (drop (i + 1) xs))) levels ≡ whole
goes_on levels h xs i d whole lt e so_far = sym (ap (λ b. b && nat_le (depth (nodes_view (drop (i + 1) xs))) levels) (sym e)) ∙ sym (step_is levels h xs i d lt) ∙ so_far

pub stops : (levels : ℕ) → 0 < levels → (xs : List CodeNode) (i : ℕ) (d : CodeNode) (whole : Bool) → i < length xs → false ≡ nat_le (node_depth (node_view (get_or xs i d))) (levels - 1)
    → nat_le (depth (nodes_view (drop i xs))) levels ≡ whole → false ≡ whole
stops levels h xs i d whole lt e so_far = ap (λ b. b && nat_le (depth (nodes_view (drop (i + 1) xs))) levels) e ∙ sym (step_is levels h xs i d lt) ∙ so_far

pub ends : (levels : ℕ) (xs : List CodeNode) (i : ℕ) (whole : Bool) → length xs ≤ i → nat_le (depth (nodes_view (drop i xs))) levels ≡ whole → true ≡ whole
ends levels xs i whole le so_far = sym (le-leb 0 levels (omega arith)) ∙ ap (λ (l : List CodeNode). nat_le (depth (nodes_view l)) levels) (sym (drop_all i xs le)) ∙ so_far

pub none_within : (xs : List CodeNode) (b : Bool) (levels : ℕ) → levels ≡ 0 → b ≡ (length xs == 0) → b ≡ nat_le (depth (nodes_view xs)) levels
none_within xs b levels z e = e ∙ same xs ∙ ap (nat_le (depth (nodes_view xs))) (sym z)
  where
    same : (xs : List CodeNode) → (length xs == 0) ≡ nat_le (depth (nodes_view xs)) 0
    same [] = refl
    same (n ∷ xs) = eqb-suc-zero (length xs) ∙ sym (lt-leb (max (suc (node_depth (node_view n))) (depth (nodes_view xs))) 0 (omega arith))

-- ---- functions

abbrev pub most_left : List IrFunc → ℕ
most_left fs = most_of (map (λ (f : Func). depth f.nodes) (map func_view fs))

func_step : (levels : ℕ) (fs : List IrFunc) (i : ℕ) (d : IrFunc) → i < length fs → nat_le (most_left (drop i fs)) levels ≡ (nat_le (depth (nodes_view (get_or fs i d).nodes.items)) levels && nat_le (most_left (drop (i + 1) fs)) levels)
func_step levels fs i d lt = ap (λ (l : List IrFunc). nat_le (most_left l) levels) (drop_more fs i d lt) ∙ le_max (depth (nodes_view (get_or fs i d).nodes.items)) (most_left (drop (i + 1) fs)) levels

pub funcs_go_on : (levels : ℕ) (fs : List IrFunc) (i : ℕ) (d : IrFunc) (whole : Bool) → i < length fs → true ≡ nat_le (depth (nodes_view (get_or fs i d).nodes.items)) levels → nat_le (most_left (drop i fs)) levels ≡ whole → nat_le (most_left (drop (i + 1) fs)) levels ≡ whole
funcs_go_on levels fs i d whole lt e so_far = sym (ap (λ b. b && nat_le (most_left (drop (i + 1) fs)) levels) (sym e)) ∙ sym (func_step levels fs i d lt) ∙ so_far

pub funcs_stop : (levels : ℕ) (fs : List IrFunc) (i : ℕ) (d : IrFunc) (whole : Bool) → i < length fs → false ≡ nat_le (depth (nodes_view (get_or fs i d).nodes.items)) levels → nat_le (most_left (drop i fs)) levels ≡ whole → false ≡ whole
funcs_stop levels fs i d whole lt e so_far = ap (λ b. b && nat_le (most_left (drop (i + 1) fs)) levels) e ∙ sym (func_step levels fs i d lt) ∙ so_far

pub funcs_end : (levels : ℕ) (fs : List IrFunc) (i : ℕ) (whole : Bool) → length fs ≤ i → nat_le (most_left (drop i fs)) levels ≡ whole → true ≡ whole
funcs_end levels fs i whole le so_far = sym (le-leb 0 levels (omega arith)) ∙ ap (λ (l : List IrFunc). nat_le (most_left l) levels) (sym (drop_all i fs le)) ∙ so_far
