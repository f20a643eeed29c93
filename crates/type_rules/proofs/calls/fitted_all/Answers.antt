use Rattle.std.proofs.Common.{◌∙◌, ◌+◌, map, drop, ap, sym}
use Rattle.std.proofs.lemmas.Result.{err_from_is_err_and}
use Rattle.std.specs.Vec.Iter.{into_iter_items}
use Rattle.c_tree.specs.TypedViews.{type_view, expr_view}
use Rattle.c_typing.specs.Judgement.{fitted_all}
use Rattle.type_rules.specs.ListViews.{exprs_view}
use Rattle.type_rules.proofs.Fitting.{behind, fitted_next, fitted_more, fitted_fails, seen_more}
use Rattle.type_rules.proofs.calls.fitted_all.Goals as goal

pub returns-in_err-e : goal.returns-in_err-e
returns-in_err-e c =
    let all = fitted_all (map type_view c.args.params.now) (exprs_view c.args.args) in
    let new = into_iter_items c.next.new.self in
    let next = fitted_next all (exprs_view c.params.all) c.args.params.now c.params.t-index c.t-item.result (into_iter_items c.params.rest) new c.in-Some.e
    c.params.invariant c.params-test.true c.t-item.is c.in-Some.ensures.items in
    let p = err_from_is_err_and c.from_residual.result c.from_residual.ensures.1 in
    rw (p.1, p.2) (fitted_fails c.args.place all (exprs_view c.params.all) (type_view c.t-item.result) (map type_view (drop (c.params.t-index + 1) c.args.params.now))
    (expr_view c.in-Some.e) (map expr_view new) c.in_err-e.field-0.0 next c.in_err-e.ensures)

pub params-preserved : goal.params-preserved
params-preserved c =
    let all = fitted_all (map type_view c.args.params.now) (exprs_view c.args.args) in
    let new = into_iter_items c.next.new.self in
    let ts = map type_view (drop (c.params.t-index + 1) c.args.params.now) in
    let next = fitted_next all (exprs_view c.params.all) c.args.params.now c.params.t-index c.t-item.result (into_iter_items c.params.rest) new c.in-Some.e
    c.params.invariant c.params-test.true c.t-item.is c.in-Some.ensures.items in
    let more = fitted_more c.args.place all (exprs_view c.params.all) (type_view c.t-item.result) ts (expr_view c.in-Some.e) (expr_view c.in_ok-e.e) (map expr_view new)
    next c.in_ok-e.ensures in
    more ∙ ap (λ done. behind done (fitted_all ts (map expr_view new))) (sym (seen_more c.params.all.items c.push.new.self.items c.in_ok-e.e c.in_ok-push.ensures.items))
