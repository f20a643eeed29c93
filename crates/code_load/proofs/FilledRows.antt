-- Rows whose calls have their lists, as the program makes them.
use Rattle.std.proofs.Common.{◌≡◌, ℕ, zero, suc, ◌-◌, List, [], ◌∷◌, ◌++◌, length, map, Option, Some, None, Bool, false, ◌&&◌, refl, sym, ap, ◌∙◌, arith}
use Rattle.std.specs.Global.{Vec}
use Rattle.std.specs.Prelude.{slice_get}
use Rattle.std.specs.List.{list_all}
use Rattle.struct_ir.specs.declared.code.Node.{Node as CodeNode}
use Rattle.struct_ir.specs.declared.code.NodeKind.TheViews as views
use Rattle.struct_ir.specs.Nodes.{set, call, step, look, safepoint, begin_object, end_object, Node, plain, if_, loop, break_, next_, ret, Nodes, more_nodes}
use Rattle.struct_ir.specs.Valid.{list_at, last_list}
use Rattle.struct_ir.specs.Views.{node_view, nodes_view, followed}
use Rattle.struct_ir.proofs.Views.{if_is, loop_is, put_view, followed_none}
use Rattle.code_file.specs.declared.raw.RawFunc.{RawFunc}
use Rattle.code_file.specs.RawViews.{raw_func_view}
use Rattle.code_file.specs.Calls.{node_filled, filled}
use Rattle.code_file.specs.Conditions.{has_parameters}
use Rattle.code_load.specs.declared.refusal.Refusal.{Refusal}
use Rattle.code_load.specs.declared.refusal.Refusal.TheVariants.{NoMemory, Unmet}
use Rattle.code_load.specs.inner.Fills.{Fails}
use Rattle.code_load.proofs.Lawful.{and_no}

-- ---- the list before a node

same_some : (x y : CodeNode) → Some x ≡ Some y → x ≡ y
same_some x y e = cc

no_node : {A : Type 0} (x : CodeNode) → Some x ≡ None → A
no_node x e = absurd cc

pub last_is : (nodes : List CodeNode) (before : Option (List ℕ)) (x : CodeNode) (k : ℕ) → k ≡ length nodes - 1 → Some x ≡ slice_get nodes k → last_list before (nodes_view nodes) ≡ list_at (node_view x)
last_is [] before x k l e = no_node x e
last_is (n ∷ []) before x zero l e = ap (λ y. list_at (node_view y)) (sym (same_some x n e))
last_is (n ∷ []) before x (suc k) l e = no_node x e
last_is (n ∷ m ∷ rest) before x zero l e = absurd (omega (arith, l))
last_is (n ∷ m ∷ rest) before x (suc k) l e = last_is (m ∷ rest) (list_at (node_view n)) x k (omega (arith, l)) e

last_pushed : (out : List CodeNode) (before : Option (List ℕ)) (x : CodeNode) → last_list before (nodes_view (out ++ (x ∷ []))) ≡ list_at (node_view x)
last_pushed [] before x = refl
last_pushed (y ∷ out) before x = last_pushed out (list_at (node_view y)) x

list_stays : (before : Option (List ℕ)) (n : Node) → list_at (node_filled before n) ≡ list_at n
list_stays before (plain place (set to calc)) = refl
list_stays before (plain place (call c)) = refl
list_stays before (plain place (step s)) = refl
list_stays before (plain place (look slot base)) = refl
list_stays before (plain place (safepoint slots)) = refl
list_stays before (plain place (begin_object i)) = refl
list_stays before (plain place (end_object i)) = refl
list_stays before (if_ place temp one other) = refl
list_stays before (loop place body latch) = refl
list_stays before (break_ place) = refl
list_stays before (next_ place) = refl
list_stays before (ret place temp) = refl

-- ---- a row so far

-- one node more
pub row_more : (out : List CodeNode) (x n : CodeNode) (left rest : List CodeNode) (all : Nodes) → left ≡ n ∷ rest → node_view x ≡ node_filled (last_list None (nodes_view out)) (node_view n)
    → followed out (filled (last_list None (nodes_view out)) (nodes_view left)) ≡ all
    → followed (out ++ (x ∷ [])) (filled (last_list None (nodes_view (out ++ (x ∷ [])))) (nodes_view rest)) ≡ all
row_more out x n left rest all is e inv =
    let b = last_list None (nodes_view out) in
    let rows = filled (list_at (node_view n)) (nodes_view rest) in
    ap (λ l. followed (out ++ (x ∷ [])) (filled l (nodes_view rest))) (last_pushed out None x ∙ (ap list_at e ∙ list_stays b (node_view n)))
    ∙ (put_view x out rows
    ∙ (ap (λ y. followed out (more_nodes y rows)) e
    ∙ (ap (λ l. followed out (filled b (nodes_view l))) (sym is) ∙ inv)))

-- no node more
pub row_end : (out rest : List CodeNode) (all : Nodes) → length rest ≡ 0 → followed out (filled (last_list None (nodes_view out)) (nodes_view rest)) ≡ all → nodes_view out ≡ all
row_end out [] all e inv = sym (followed_none out) ∙ inv
row_end out (x ∷ rest) all e inv = absurd (omega (arith, e))

-- ---- nodes with rows

pub if_filled : (before : Option (List ℕ)) (n x : CodeNode) (temp : ℕ) (v w one other : Vec CodeNode) → n.kind ≡ views.If temp v w → node_view x ≡ if_ n.place temp (nodes_view one.items) (nodes_view other.items)
    → nodes_view one.items ≡ filled None (nodes_view v.items) → nodes_view other.items ≡ filled None (nodes_view w.items) → node_view x ≡ node_filled before (node_view n)
if_filled before n x temp v w one other is e f g = e ∙ ((λ i. if_ n.place temp (f i) (g i)) ∙ ap (node_filled before) (sym (if_is n temp v w is)))

pub loop_filled : (before : Option (List ℕ)) (n x : CodeNode) (v w one other : Vec CodeNode) → n.kind ≡ views.Loop v w → node_view x ≡ loop n.place (nodes_view one.items) (nodes_view other.items)
    → nodes_view one.items ≡ filled None (nodes_view v.items) → nodes_view other.items ≡ filled None (nodes_view w.items) → node_view x ≡ node_filled before (node_view n)
loop_filled before n x v w one other is e f g = e ∙ ((λ i. loop n.place (f i) (g i)) ∙ ap (node_filled before) (sym (loop_is n v w is)))

-- ---- functions

-- a condition that fails of a part fails of the whole
pub passes : (e : Refusal) (part whole : Bool) → (part ≡ false → whole ≡ false) → Fails e part → Fails e whole
passes NoMemory part whole h f = tt
passes Unmet part whole h f = h f

-- of the first of those that are left
pub falls_here : (left rest : List RawFunc) (f : RawFunc) (all : Bool) → left ≡ f ∷ rest → (list_all has_parameters (map raw_func_view left) ≡ false → all ≡ false)
    → has_parameters (raw_func_view f) ≡ false → all ≡ false
falls_here left rest f all is inv e = inv (ap (λ l. list_all has_parameters (map raw_func_view l)) is ∙ ap (λ b. b && list_all has_parameters (map raw_func_view rest)) e)

-- of one behind it
pub falls_on : (left rest : List RawFunc) (f : RawFunc) (all : Bool) → left ≡ f ∷ rest → (list_all has_parameters (map raw_func_view left) ≡ false → all ≡ false)
    → list_all has_parameters (map raw_func_view rest) ≡ false → all ≡ false
falls_on left rest f all is inv e =
    inv (ap (λ l. list_all has_parameters (map raw_func_view l)) is ∙ and_no (has_parameters (raw_func_view f)) (list_all has_parameters (map raw_func_view rest)) e)
