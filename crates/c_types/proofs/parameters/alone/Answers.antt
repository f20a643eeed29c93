use Rattle.std.proofs.Common.{ap, sym, ◌∙◌, [], ◌∷◌, ◌++◌, map}
use Rattle.c_typing.specs.Faults.{typed}
use Rattle.type_locals.specs.LocalViews.{param_view}
use Rattle.c_types.proofs.parameters.alone.Goals as goal

pub returns : goal.returns
returns c = ap (λ l. typed (map param_view l)) (sym (c.in_ok-push.ensures.items ∙ ap (λ l. l ++ c.args.p ∷ []) c.new-all.ensures.items))
