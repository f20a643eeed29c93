use Rattle.std.proofs.Common.{◌≢◌, map, length, ltb-true, ltb-false, subst, sym, arith}
use Rattle.c_tree.specs.SyntaxViews as source
use Rattle.c_typing.specs.Programs.{judged_param_list}
use Rattle.type_context.specs.ContextViews.{context_view}
use Rattle.type_locals.specs.LocalViews.{param_view}
use Rattle.type_context.specs.Telling.{Tells}
use Rattle.type_declared.specs.Gathering.{each}
use Rattle.c_types.proofs.FileParts.{one_item, many_params}
use Rattle.c_types.proofs.parameters.param_list.Goals.{in_default-via-then-all-lt1, in_default-via-else-all-lt1+else-all-lt2}
use Rattle.c_types.proofs.parameters.param_list.Goals as goal

pub returns-in-len1 : goal.returns-in-len1
returns-in-len1 c =
    subst (λ l. Tells (each param_view) c.only_param.result c.only_param.new.context (judged_param_list (map source.param_view l) (context_view c.args.context.now)))
    (sym (one_item c.args.all.now c.p-item.result (omega (arith, c.in-len1.len_at_least, c.in-len1.len_below)) c.p-item.is)) c.only_param.ensures

pub returns-in_default : goal.returns-in_default
returns-in_default c =
    let n = length c.args.all.now in
    let other : n ≢ 1 = elim c.in_default.branch [
      | in_default-via-then-all-lt1 w ↦ λ e. absurd (omega (arith, ltb-true n 1 w.if-all-lt1-1.true, e))
      | in_default-via-else-all-lt1+else-all-lt2 w ↦ λ e. absurd (omega (arith, ltb-false n 2 w.if-all-lt2-1.false, e))
    ] in
    subst (Tells (each param_view) c.params.result c.params.new.context) (sym (many_params c.args.all.now (context_view c.args.context.now) other)) c.params.ensures
