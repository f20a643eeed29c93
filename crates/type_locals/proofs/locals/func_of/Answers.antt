use Rattle.std.proofs.Common.{ap, map, ◌∙◌}
use Rattle.c_tree.specs.Typed.{stmts_of}
use Rattle.c_tree.specs.TypedViews.{type_view, stmt_view}
use Rattle.type_locals.specs.inner.Numbers.{locals_view, func}
use Rattle.type_locals.proofs.locals.func_of.Goals as goal

pub returns : goal.returns
returns c =
    let t = type_view c.args.returned in
    ap (λ n. func n (locals_view c.in_ok-locals.locals.items) t (stmts_of (map stmt_view c.settled.new.body.items))) c.in_ok-count.ensures ∙ c.in_ok-locals.ensures t
