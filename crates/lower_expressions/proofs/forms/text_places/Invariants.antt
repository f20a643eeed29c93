use Rattle.std.proofs.Common.{◌≡◌, ◌++◌, map, drop}
use Rattle.c_tree.specs.TypedViews.{expr_view}
use Rattle.struct_ir.specs.Views.{place_view}
use Rattle.lower_forms.specs.Forms.{text_places}
use Rattle.lower_expressions.proofs.forms.text_places.Given as goal
use Rattle.c_tree.specs.Typed.{exprs_of}

-- so far
abbrev pub invariant-loop-e : goal.invariant-loop-e
invariant-loop-e l = map place_view l.places.items ++ text_places (exprs_of (map expr_view (drop l.e-index l.args))) l.u ≡ text_places (exprs_of (map expr_view l.args)) l.t
