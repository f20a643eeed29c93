use Rattle.std.proofs.Common.{◌≡◌, ◌∙◌, sym, subst, IfOk}
use Rattle.std.proofs.lemmas.List.{length-map}
use Rattle.c_tree.specs.TypedViews.{type_view}
use Rattle.type_declared.proofs.objects.local_number.Goals as goal

pub returns-clause-number : goal.returns-clause-number
returns-clause-number c = subst (λ m. IfOk c.count.result (λ n. n ≡ m)) (c.len.ensures ∙ c.args.context.now.locals.ok.0 ∙ sym (length-map c.args.context.now.locals.items type_view)) c.count.ensures.number
