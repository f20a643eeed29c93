use Rattle.std.proofs.Common.{◌≡◌, ◌++◌, map, drop}
use Rattle.c_tree.specs.TypedViews.{expr_view}
use Rattle.lower_forms.specs.Forms.{number_temps}
use Rattle.lower_expressions.proofs.forms.number_temps.Given as goal
use Rattle.c_tree.specs.Typed.{exprs_of}

-- so far
abbrev pub invariant-loop-e : goal.invariant-loop-e
invariant-loop-e l = l.temps.items ++ number_temps (exprs_of (map expr_view (drop l.e-index l.args))) l.u ≡ number_temps (exprs_of (map expr_view l.args)) l.t
