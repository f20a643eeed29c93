-- What a row becomes by a block and by a loop, and a function by its rows.
use Rattle.std.proofs.Common.{◌≡◌, ℕ, zero, suc, ◌+◌, ◌<◌, ◌≤◌, Bool, true, false, arith, length, List, [], ◌∷◌, ◌++◌, map, Some, refl, ap, sym, ◌∙◌}
use Rattle.std.specs.Prelude.{Option, ◌==◌}
use Rattle.std.specs.Global.{Vec}
use Rattle.std.proofs.lemmas.Bool.{eqb-true}
use Rattle.std.proofs.lemmas.List.{nil_from_length}
use Rattle.c_tree.specs.declared.typed.Expr.{Expr}
use Rattle.c_tree.specs.declared.typed.Label.{Label}
use Rattle.c_tree.specs.declared.typed.Stmt.{Stmt}
use Rattle.c_tree.specs.declared.typed.StmtNode.{StmtNode}
use Rattle.c_tree.specs.declared.typed.StmtNode.TheViews as stmt_views
use Rattle.c_tree.specs.Typed as tree
use Rattle.c_meaning.specs.Switches.{default_from}
use Rattle.c_tree.specs.TypedViews.{expr_view, label_view, stmt_view, stmt_node_view}
use Rattle.struct_ir.specs.declared.code.Node.{Node}
use Rattle.struct_ir.specs.Nodes.{Nodes, no_nodes, more_nodes, break_, ret, StackObject}
use Rattle.struct_ir.specs.Views.{nodes_view, followed}
use Rattle.struct_ir.proofs.Views.{followed_none}
use Rattle.lower_forms.specs.Forms.{Frame, opened, again, first_temp, branches, sets_int, expr_nodes, ends, looped, objects_by, objects_in, test_nodes, loop_nodes, choose_nodes, switched, stmt_nodes, form_nodes, row_nodes, switch_nodes}
use Rattle.lower_forms.specs.Programs.{objects_of, frame_of, body_frame, registers_of, last_nodes, func_lowered}
use Rattle.c_tree.proofs.ListedViews.{block_view, switch_view}
use Rattle.c_tree.specs.Typed.{stmts_of}

-- a switch
abbrev pub switch_form : Frame → ℕ → tree.Expr → List tree.Label → tree.Stmts → List ℕ → Nodes → Nodes
switch_form F place e labels body left r =
    expr_nodes F e (suc (suc (first_temp F))) (sets_int place (first_temp F) (default_from 0 labels) (choose_nodes place (first_temp F) 0 labels
    (sets_int place (suc (first_temp F)) 0 (switch_nodes (switched F) place (first_temp F) labels 0 body left r))))

-- a block
abbrev pub block_form : Frame → ℕ → tree.Stmts → List ℕ → Nodes → Nodes
block_form F place body left r = row_nodes (opened F (objects_in F body)) body (again F.outer (objects_in F body) ++ left) (ends place (objects_in F body) r)

pub block_done : (F : Frame) (place : ℕ) (node : StmtNode) (v : Vec Stmt) (left : List ℕ) (o0 o1 : List Node) (d : List Stmt) → node ≡ stmt_views.Block v → d ≡ v.items
    → ((r : Nodes) → followed o1 r ≡ followed o0 (block_form F place (stmts_of (map stmt_view d)) left r))
    → (r : Nodes) → followed o1 r ≡ followed o0 (form_nodes F place (stmt_node_view node) left r)
block_done F place node v left o0 o1 d is e h r =
    h r ∙ ap (λ l. followed o0 (block_form F place (stmts_of (map stmt_view l)) left r)) e
    ∙ ap (λ n. followed o0 (form_nodes F place n left r)) (sym (ap stmt_node_view is ∙ block_view v))

-- ---- where no local has a stack object

pub none_of : (objects : List ℕ) (n : ℕ) (b : Bool) → n ≡ length objects → b ≡ (n == 0) → b ≡ true → objects ≡ []
none_of objects n b long is empty = nil_from_length objects (sym long ∙ eqb-true n 0 (sym is ∙ empty))

-- a block's row stands as it would outside of it
pub block_bare : (F : Frame) (place : ℕ) (body : tree.Stmts) (left objects : List ℕ) (o0 o1 : List Node) → objects ≡ objects_in F body → objects ≡ []
    → ((r : Nodes) → followed o1 r ≡ followed o0 (row_nodes F body left r))
    → (r : Nodes) → followed o1 r ≡ followed o0 (block_form F place body left r)
block_bare F place body left objects o0 o1 e none h r =
    h r ∙ ap (λ os. followed o0 (row_nodes (opened F os) body (again F.outer os ++ left) (ends place os r))) (sym none ∙ e)

-- a for, whose first clause has begun its object
abbrev pub for_form : Frame → ℕ → (first body step : tree.Stmt) → Option tree.Expr → List ℕ → Nodes → Nodes
for_form F place first body step e left r =
    stmt_nodes F first left (loop_nodes (looped F) place body (test_nodes (looped F) e (stmt_nodes (looped F) body [] no_nodes)) (stmt_nodes (looped F) step [] no_nodes) r)

-- so does a for
pub for_bare : (F : Frame) (place : ℕ) (first body step : tree.Stmt) (e : Option tree.Expr) (left objects : List ℕ) (o0 o1 : List Node) → objects ≡ objects_by F first [] → objects ≡ []
    → ((r : Nodes) → followed o1 r ≡ followed o0 (for_form F place first body step e left r))
    → (r : Nodes) → followed o1 r ≡ followed o0 (for_form (opened F (objects_by F first [])) place first body step e left (ends place (objects_by F first []) r))
for_bare F place first body step e left objects o0 o1 is none h r =
    h r ∙ ap (λ os. followed o0 (for_form (opened F os) place first body step e left (ends place os r))) (sym none ∙ is)

-- ---- switches

pub switch_done : (F : Frame) (place : ℕ) (node : StmtNode) (e : Expr) (labels : Vec Label) (v : Vec Stmt) (left : List ℕ) (o0 o1 : List Node) (dl : List Label) (d : List Stmt) → node ≡ stmt_views.Switch e labels v → dl ≡ labels.items → d ≡ v.items
    → ((r : Nodes) → followed o1 r ≡ followed o0 (switch_form F place (expr_view e) (map label_view dl) (stmts_of (map stmt_view d)) left r))
    → (r : Nodes) → followed o1 r ≡ followed o0 (form_nodes F place (stmt_node_view node) left r)
switch_done F place node e labels v left o0 o1 dl d is el ed h r =
    h r ∙ (λ i. followed o0 (switch_form F place (expr_view e) (map label_view (el i)) (stmts_of (map stmt_view (ed i))) left r))
    ∙ ap (λ n. followed o0 (form_nodes F place n left r)) (sym (ap stmt_node_view is ∙ switch_view e labels v))

-- the condition of a loop
pub tests_done : (F : Frame) (e : Expr) (t : ℕ) (o0 o1 o2 one other : List Node) → t ≡ first_temp F → one ≡ [] → nodes_view other ≡ more_nodes (break_ e.place) no_nodes
    → ((r : Nodes) → followed o1 r ≡ followed o0 (expr_nodes F (expr_view e) t r))
    → ((r : Nodes) → followed o2 r ≡ followed o1 (branches e.place t (nodes_view one) (nodes_view other) r))
    → (r : Nodes) → followed o2 r ≡ followed o0 (test_nodes F (Some (expr_view e)) r)
tests_done F e t o0 o1 o2 one other et e1 e2 h1 h2 r =
    h2 r ∙ h1 (branches e.place t (nodes_view one) (nodes_view other) r)
    ∙ (λ i. followed o0 (expr_nodes F (expr_view e) (et i) (branches e.place (et i) (nodes_view (e1 i)) (e2 i) r)))

-- a row alone
pub row_alone : (l : List Node) (n : Nodes) → followed l no_nodes ≡ n → nodes_view l ≡ n
row_alone l n e = sym (followed_none l) ∙ e

-- ---- the end of main

pub last_done : (b : Bool) (n : ℕ) (o0 o1 o2 : List Node) → b ≡ true → 0 < n → ((r : Nodes) → followed o1 r ≡ followed o0 (sets_int 0 0 0 r))
    → ((r : Nodes) → followed o2 r ≡ followed o1 (more_nodes (ret 0 (Some 0)) r)) → nodes_view o2 ≡ followed o0 (last_nodes b n)
last_done false n o0 o1 o2 e h h1 h2 = absurd cc
last_done true zero o0 o1 o2 e h h1 h2 = absurd (omega (arith, h))
last_done true (suc n) o0 o1 o2 e h h1 h2 = row_alone o2 _ (h2 no_nodes ∙ h1 (more_nodes (ret 0 (Some 0)) no_nodes))

pub none_in_other : (b : Bool) (n : ℕ) (o : List Node) → b ≡ false → nodes_view o ≡ followed o (last_nodes b n)
none_in_other true n o e = absurd cc
none_in_other false n o e = sym (followed_none o)

pub none_without : (b : Bool) (n : ℕ) (o : List Node) → n ≤ 0 → nodes_view o ≡ followed o (last_nodes b n)
none_without false n o h = sym (followed_none o)
none_without true zero o h = sym (followed_none o)
none_without true (suc n) o h = absurd (omega (arith, h))

-- ---- functions

pub params_fit : (params long g temps : ℕ) → params ≤ long → temps ≡ long + g → params ≤ temps
params_fit params long g temps h e = omega (arith, h, e)

pub func_done : (structs : List tree.Layout) (b : Bool) (f : tree.Func) (F : Frame) (temps : ℕ) (os : List StackObject) (n0 n1 n2 : List Node)
    → F ≡ frame_of structs f → temps ≡ registers_of f → os ≡ objects_of structs f.locals → n0 ≡ []
    → ((r : Nodes) → followed n1 r ≡ followed n0 (row_nodes (opened F (objects_in F f.body)) f.body [] r)) → nodes_view n2 ≡ followed n1 (last_nodes b temps)
    → record { params = f.params; temps = temps; slots = 0; objects = os; nodes = nodes_view n2 } ≡ func_lowered structs b f
func_done structs b f F temps os n0 n1 n2 eF et eo e0 h1 h2 =
    let row : nodes_view n2 ≡ row_nodes (body_frame structs f) f.body [] (last_nodes b (registers_of f))
    = h2 ∙ h1 (last_nodes b temps) ∙ (λ i. followed (e0 i) (row_nodes (opened (eF i) (objects_in (eF i) f.body)) f.body [] (last_nodes b (et i)))) in
    λ i. record { params = f.params; temps = et i; slots = 0; objects = eo i; nodes = row i }
