-- What leaves a loop from a block and from a switch, and the objects of these.
use Rattle.std.proofs.Common.{◌≡◌, Bool, List, ◌++◌, ℕ, map, ap, sym, ◌∙◌}
use Rattle.std.specs.Global.{Vec}
use Rattle.c_tree.specs.declared.typed.Expr.{Expr}
use Rattle.c_tree.specs.declared.typed.Label.{Label}
use Rattle.c_tree.specs.declared.typed.Stmt.{Stmt}
use Rattle.c_tree.specs.declared.typed.StmtNode.{StmtNode}
use Rattle.c_tree.specs.declared.typed.StmtNode.TheViews as stmt_views
use Rattle.c_tree.specs.Typed as tree
use Rattle.c_tree.specs.Typed.{Stmts, StmtNode as Node, block, switch, stmts_of}
use Rattle.c_tree.specs.TypedViews.{expr_view, label_view, stmt_view, stmt_node_view}
use Rattle.c_tree.proofs.ListedViews.{block_view, switch_view}

-- what is computed of a block's statements is computed of the block
pub block_has : {A : Type 0} (by : Node → A) (among : Stmts → A) → ((all : Stmts) → by (block all) ≡ among all)
    → (node : StmtNode) (v : Vec Stmt) (d : List Stmt) (x : A) → node ≡ stmt_views.Block v → d ≡ v.items → x ≡ among (stmts_of (map stmt_view d)) → x ≡ by (stmt_node_view node)
block_has by among same node v d x is e h =
    h ∙ ap (λ l. among (stmts_of (map stmt_view l))) e ∙ sym (same (stmts_of (map stmt_view v.items))) ∙ ap by (sym (ap stmt_node_view is ∙ block_view v))

-- the same of a switch
pub switch_has : {A : Type 0} (by : Node → A) (among : Stmts → A) → ((e : tree.Expr) (labels : List tree.Label) (all : Stmts) → by (switch e labels all) ≡ among all)
    → (node : StmtNode) (e : Expr) (labels : Vec Label) (v : Vec Stmt) (d : List Stmt) (x : A) → node ≡ stmt_views.Switch e labels v → d ≡ v.items → x ≡ among (stmts_of (map stmt_view d)) → x ≡ by (stmt_node_view node)
switch_has by among same node e labels v d x is h k =
    k ∙ ap (λ l. among (stmts_of (map stmt_view l))) h ∙ sym (same (expr_view e) (map label_view labels.items) (stmts_of (map stmt_view v.items))) ∙ ap by (sym (ap stmt_node_view is ∙ switch_view e labels v))
