use Rattle.std.proofs.Common.{ap, sym, ◌∙◌, [], ◌∷◌, ◌++◌, map}
use Rattle.c_tree.specs.TypedViews.{stmt_view}
use Rattle.c_typing.specs.Faults.{typed}
use Rattle.c_types.proofs.parts.alone.Goals as goal

pub returns : goal.returns
returns c = ap (λ l. typed (map stmt_view l)) (sym (c.in_ok-push.ensures.items ∙ ap (λ l. l ++ c.args.s ∷ []) c.new-all.ensures.items))
