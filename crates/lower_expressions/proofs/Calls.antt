-- What a row becomes by a call.
use Rattle.std.proofs.Common.{◌≡◌, ℕ, List, map, Some, None, sym, ap, ◌∙◌}
use Rattle.std.specs.Global.{Vec}
use Rattle.c_tree.specs.declared.typed.Expr.{Expr}
use Rattle.c_tree.specs.declared.typed.ExprNode.TheViews as expr_views
use Rattle.c_tree.specs.declared.typed.Lib.{Lib}
use Rattle.c_tree.specs.Typed.{exprs_of}
use Rattle.c_tree.specs.TypedViews.{type_view, expr_view, expr_node_view, lib_view}
use Rattle.struct_ir.specs.declared.code.Node.{Node}
use Rattle.struct_ir.specs.Nodes.{Nodes, copy}
use Rattle.struct_ir.specs.Views.{followed}
use Rattle.lower_forms.specs.Forms.{Frame, sets, calls, temps_of, lib_nodes, expr_nodes, value_nodes, args_nodes, dropped_nodes, dropped_value}
use Rattle.c_tree.proofs.ListedViews.{call_view, lib_call_view}

module _ (F : Frame) where
  pub call_done : (e : Expr) (fn : ℕ) (v : Vec Expr) (t : ℕ) (o0 o1 : List Node) (d : List Expr) → e.node ≡ expr_views.Call fn v → d ≡ v.items
      → ((r : Nodes) → followed o1 r ≡ followed o0 (args_nodes F (exprs_of (map expr_view d)) t (calls e.place (Some t) fn (temps_of (exprs_of (map expr_view d)) t) (sets e.place t (copy t) r))))
      → (r : Nodes) → followed o1 r ≡ followed o0 (expr_nodes F (expr_view e) t r)
  call_done e fn v t o0 o1 d is i h r =
      h r ∙ ap (λ l. followed o0 (args_nodes F (exprs_of (map expr_view l)) t (calls e.place (Some t) fn (temps_of (exprs_of (map expr_view l)) t) (sets e.place t (copy t) r)))) i
      ∙ ap (λ n. followed o0 (value_nodes F e.place (type_view e.ty) n t r)) (sym (ap expr_node_view is ∙ call_view fn v))

  pub call_dropped : (e : Expr) (fn : ℕ) (v : Vec Expr) (t : ℕ) (o0 o1 : List Node) (d : List Expr) → e.node ≡ expr_views.Call fn v → d ≡ v.items
      → ((r : Nodes) → followed o1 r ≡ followed o0 (args_nodes F (exprs_of (map expr_view d)) t (calls e.place None fn (temps_of (exprs_of (map expr_view d)) t) r)))
      → (r : Nodes) → followed o1 r ≡ followed o0 (dropped_nodes F (expr_view e) t r)
  call_dropped e fn v t o0 o1 d is i h r =
      h r ∙ ap (λ l. followed o0 (args_nodes F (exprs_of (map expr_view l)) t (calls e.place None fn (temps_of (exprs_of (map expr_view l)) t) r))) i
      ∙ ap (λ n. followed o0 (dropped_value F e.place (type_view e.ty) n t r)) (sym (ap expr_node_view is ∙ call_view fn v))

  pub lib_done : (e : Expr) (lib : Lib) (v : Vec Expr) (t : ℕ) (o0 o1 : List Node) (d : List Expr) → e.node ≡ expr_views.Lib lib v → d ≡ v.items
      → ((r : Nodes) → followed o1 r ≡ followed o0 (args_nodes F (exprs_of (map expr_view d)) t (lib_nodes e.place (lib_view lib) (exprs_of (map expr_view d)) t r)))
      → (r : Nodes) → followed o1 r ≡ followed o0 (expr_nodes F (expr_view e) t r)
  lib_done e lib v t o0 o1 d is i h r =
      h r ∙ ap (λ l. followed o0 (args_nodes F (exprs_of (map expr_view l)) t (lib_nodes e.place (lib_view lib) (exprs_of (map expr_view l)) t r))) i
      ∙ ap (λ n. followed o0 (value_nodes F e.place (type_view e.ty) n t r)) (sym (ap expr_node_view is ∙ lib_call_view lib v))
