use Rattle.std.proofs.Common.{◌≡◌, map, drop}
use Rattle.std.specs.Vec.Iter.{into_iter_items}
use Rattle.c_tree.specs.TypedViews.{type_view, expr_view}
use Rattle.c_typing.specs.Judgement.{fitted_all}
use Rattle.type_rules.specs.ListViews.{exprs_view}
use Rattle.type_rules.proofs.Fitting.{behind}
use Rattle.type_rules.proofs.calls.fitted_all.Given as goal

abbrev pub invariant-params : goal.invariant-params
invariant-params l =
    fitted_all (map type_view l.params) (exprs_view l.fn.args)
    ≡ behind (exprs_view l.all) (fitted_all (map type_view (drop l.t-index l.params)) (map expr_view (into_iter_items l.rest)))
