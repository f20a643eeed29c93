use Rattle.std.proofs.Common.{◌≡◌, ℕ, List, map, ap, subst, ◌∙◌}
use Rattle.c_tree.specs.SyntaxViews as source
use Rattle.c_typing.specs.Scope.{Frame, Context, back_to}
use Rattle.c_typing.specs.Programs.{judged_param_list, before_params}
use Rattle.type_context.specs.ContextViews.{context_view}
use Rattle.type_locals.specs.LocalViews.{param_view}
use Rattle.type_context.specs.Telling.{Tells}
use Rattle.type_declared.specs.Gathering.{each}
use Rattle.c_types.proofs.Known.{known_left, known_gives}
use Rattle.c_typing.proofs.Unmoved.{param_list_stays}
use Rattle.c_types.proofs.Functions.{found_params}
use Rattle.c_types.proofs.definitions.found_head.Goals as goal

pub returns-clause-found : goal.returns-clause-found
returns-clause-found c =
    let k = c.args.context.now in
    let ps = map source.param_view c.args.all.now in
    let begun = before_params (context_view k) in
    let into : context_view c.enter.new.self ≡ begun = found_params k c.new.result c.new-2.result c.enter.new.self c.new-3.result.entries c.in_ok-enter.ensures.after c.new.ensures.items c.new-2.ensures.items c.new-3.ensures.empty in
    let told : Tells (each param_view) c.param_list.result c.param_list.new.context (judged_param_list ps begun) = subst (λ d. Tells (each param_view) c.param_list.result c.param_list.new.context (judged_param_list ps d)) into c.param_list.ensures in
    let left : context_view c.param_list.new.context ≡ (judged_param_list ps begun).1 = known_left c.param_list.result c.in_ok-params.params c.param_list.new.context (judged_param_list ps begun).1 c.in_ok-params.ensures told.leaves in
    record {
      gives = known_gives (each param_view) c.param_list.result c.in_ok-params.params (judged_param_list ps begun).0 c.in_ok-params.ensures told.gives;
      scope = c.leave-scope.ensures.inner ∙ ap (λ (d : Context). d.inner) left;
      leaves = c.leave-scope.ensures.around (context_view k) (ap (λ (d : Context). d.outer) left ∙ ap (λ (p : List ℕ × List Frame). p.1) (param_list_stays ps begun)) ∙ ap (back_to (context_view k)) left;
    }
