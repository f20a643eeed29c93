-- Rows from which Looks are dropped for all registers, as the program makes them.
use Rattle.std.proofs.Common.{◌≡◌, ◌<◌, ◌+◌, ℕ, zero, suc, length, get_or, List, [], ◌∷◌, Bool, true, false, refl, sym, ap, subst, ◌∙◌, arith}
use Rattle.std.specs.Global.{Vec}
use Rattle.struct_ir.specs.declared.code.Node.{Node as CodeNode}
use Rattle.struct_ir.specs.Nodes.{Node, plain, if_, loop, break_, next_, ret, Nodes}
use Rattle.struct_ir.specs.Erased.{put}
use Rattle.struct_ir.specs.Structured.{row_size, node_size}
use Rattle.struct_ir.specs.Views.{node_view, nodes_view, followed}
use Rattle.struct_ir.proofs.Views.{followed_none}
use Rattle.pin_flow.specs.Marks.{Mark, AllPaths, Ways, at, in_turn, end_state, head_of, flow, flow_node}
use Rattle.pin_flow.specs.Held.{held}
use Rattle.pin_flow.proofs.FlowRows.{row_on, row_over}
use Rattle.mark_sets.specs.declared.marks.Marks.{Marks}
use Rattle.mark_sets.specs.Sets.{Sets}
use Rattle.mark_sets.specs.Added.{loops, loops_in, set_at, AreAdded, AreAddedIn}
use Rattle.hoist_pass.specs.inner.Hoist.{node_stays, dropped_all, dropped_all_in}
use Rattle.hoist_pass.specs.inner.Sets.{has_bit, states, is_leaf}

-- ---- where control leaves a row

-- at its start
pub ways_begun : (m : Mark) (rows : Nodes) (a : Ways) (s : AllPaths) → a ≡ at s → in_turn a (flow m rows a.on) ≡ flow m rows s
ways_begun m rows a s e = ap (λ (w : Ways). in_turn w (flow m rows w.on)) e

-- a node more
pub ways_more : (m : Mark) (old rest : List CodeNode) (n : CodeNode) (a b all : Ways) → old ≡ n ∷ rest → in_turn a (flow m (nodes_view old) a.on) ≡ all → b ≡ in_turn a (flow_node m (node_view n) a.on)
    → in_turn b (flow m (nodes_view rest) b.on) ≡ all
ways_more m old rest n a b all e inv made =
    row_on m (n ∷ rest) 0 n a b (flow_node m (node_view n) a.on) all (omega arith) refl (ap (λ l. in_turn a (flow m (nodes_view l) a.on)) (sym e) ∙ inv) refl made

-- no node more
pub ways_over : (m : Mark) (rest : List CodeNode) (a all : Ways) → length rest ≡ 0 → in_turn a (flow m (nodes_view rest) a.on) ≡ all → a ≡ all
ways_over m rest a all e inv = row_over m rest 0 a all (omega (arith, e)) inv

-- ---- what the rounds of its loops add

pub sizes_split : (old rest : List CodeNode) (n : CodeNode) → old ≡ n ∷ rest → row_size (nodes_view old) ≡ node_size (node_view n) + row_size (nodes_view rest) + 1
sizes_split old rest n e = ap (λ l. row_size (nodes_view l)) e

pub loops_split : (old rest : List CodeNode) (n : CodeNode) → old ≡ n ∷ rest → loops (nodes_view old) ≡ loops_in (node_view n) + loops (nodes_view rest)
loops_split old rest n e = ap (λ l. loops (nodes_view l)) e

pub added_split : (x : Marks) (sets : List (Vec ℕ)) (at : ℕ) (old rest : List CodeNode) (n : CodeNode) → old ≡ n ∷ rest → AreAdded x sets at (nodes_view old)
    → AreAddedIn x sets at (node_view n) × AreAdded x sets (at + loops_in (node_view n)) (nodes_view rest)
added_split x sets at old rest n e a = subst (λ l. AreAdded x sets at (nodes_view l)) e a

pub loops_over : (rest : List CodeNode) → length rest ≡ 0 → loops (nodes_view rest) ≡ 0
loops_over [] e = refl
loops_over (n ∷ rest) e = absurd (omega (arith, e))

-- the set of a number
pub set_got : (s : List (Vec ℕ)) (i : ℕ) (v : Vec ℕ) → i < length s → v ≡ get_or s i v → v.items ≡ set_at s i
set_got [] i v h e = absurd (omega (arith, h))
set_got (y ∷ s) zero v h e = ap (λ (u : Vec ℕ). u.items) e
set_got (y ∷ s) (suc i) v h e = set_got s i v (omega (arith, h)) e

-- ---- what stays

module _ (x : Marks) where
  abbrev those : ℕ → Bool
  those = has_bit x

  pub made_more : (out new old rest : List CodeNode) (n : CodeNode) (kept : Bool) (made : Node) (t u : Sets ℕ) (all : Nodes) → old ≡ n ∷ rest
      → ((r : Nodes) → followed new r ≡ followed out (put kept made r)) → kept ≡ node_stays those (node_view n) (states x t) → made ≡ dropped_all_in those (node_view n) (states x t)
      → ((b : ℕ) → states x u b ≡ (flow_node (held b) (node_view n) (states x t b)).on) → followed out (dropped_all those (nodes_view old) (states x t)) ≡ all
      → followed new (dropped_all those (nodes_view rest) (states x u)) ≡ all
  made_more out new old rest n kept made t u all e put_there k m s inv =
      put_there (dropped_all those (nodes_view rest) (states x u))
      ∙ ((λ i. followed out (put (k i) (m i) (dropped_all those (nodes_view rest) (λ b. s b i)))) ∙ (ap (λ l. followed out (dropped_all those (nodes_view l) (states x t))) (sym e) ∙ inv))

  pub made_over : (out rest : List CodeNode) (t : Sets ℕ) (all : Nodes) → length rest ≡ 0 → followed out (dropped_all those (nodes_view rest) (states x t)) ≡ all → nodes_view out ≡ all
  made_over out [] t all e inv = sym (followed_none out) ∙ inv
  made_over out (n ∷ rest) t all e inv = absurd (omega (arith, e))

  pub if_made : (p temp : ℕ) (one other : Nodes) (first second : Nodes) (n m : Node) (t u w : Sets ℕ) → n ≡ if_ p temp one other → m ≡ if_ p temp first second → u ≡ t → w ≡ t
      → first ≡ dropped_all those one (states x u) → second ≡ dropped_all those other (states x w) → m ≡ dropped_all_in those n (states x t)
  if_made p temp one other first second n m t u w is e f g h k =
      e ∙ ((λ i. if_ p temp ((h ∙ ap (λ y. dropped_all those one (states x y)) f) i) ((k ∙ ap (λ y. dropped_all those other (states x y)) g) i)) ∙ ap (λ y. dropped_all_in those y (states x t)) (sym is))

  pub loop_made : (p : ℕ) (body latch first second : Nodes) (n m : Node) (t h z : Sets ℕ) → n ≡ loop p body latch → m ≡ loop p first second
      → ((b : ℕ) → states x h b ≡ head_of (flow (held b) body) (flow (held b) latch) (states x t b)) → ((b : ℕ) → states x z b ≡ end_state (flow (held b) body (states x h b)))
      → first ≡ dropped_all those body (states x h) → second ≡ dropped_all those latch (states x z) → m ≡ dropped_all_in those n (states x t)
  loop_made p body latch first second n m t h z is e he ze f g =
      e
      ∙ ((λ i. loop p ((f ∙ (λ j. dropped_all those body (λ b. he b j))) i)
      ((g ∙ (λ j. dropped_all those latch (λ b. (ze b ∙ ap (λ s. end_state (flow (held b) body s)) (he b)) j))) i))
      ∙ ap (λ y. dropped_all_in those y (states x t)) (sym is))

-- ---- nodes that hold no others

pub no_loops : (n : Node) → is_leaf n ≡ true → loops_in n ≡ 0
no_loops (plain p a) e = refl
no_loops (if_ p x one other) e = absurd (let h : false ≡ true = e in cc)
no_loops (loop p body latch) e = absurd (let h : false ≡ true = e in cc)
no_loops (break_ p) e = refl
no_loops (next_ p) e = refl
no_loops (ret p x) e = refl

pub leaf_made : (those : ℕ → Bool) (n : Node) (t : ℕ → AllPaths) → is_leaf n ≡ true → n ≡ dropped_all_in those n t
leaf_made those (plain p a) t e = refl
leaf_made those (if_ p x one other) t e = absurd (let h : false ≡ true = e in cc)
leaf_made those (loop p body latch) t e = absurd (let h : false ≡ true = e in cc)
leaf_made those (break_ p) t e = refl
leaf_made those (next_ p) t e = refl
leaf_made those (ret p x) t e = refl
