use Rattle.std.proofs.Common.{◌≡◌, ◌++◌, map, drop}
use Rattle.c_tree.specs.TypedViews.{expr_view}
use Rattle.lower_forms.specs.Forms.{temps_of}
use Rattle.lower_expressions.proofs.forms.temps_of.Given as goal
use Rattle.c_tree.specs.Typed.{exprs_of}

-- so far
abbrev pub invariant-loop-e : goal.invariant-loop-e
invariant-loop-e l = l.temps.items ++ temps_of (exprs_of (map expr_view (drop l._e-index l.args))) l.u ≡ temps_of (exprs_of (map expr_view l.args)) l.t
