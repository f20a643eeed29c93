use Rattle.std.proofs.Common.{ap, sym, ◌∙◌, [], ◌∷◌, ◌++◌, map}
use Rattle.c_tree.specs.TypedViews.{func_view}
use Rattle.c_typing.specs.Faults.{typed}
use Rattle.c_types.proofs.definitions.func_made.Goals as goal

pub returns : goal.returns
returns c =
    ap (λ f. typed (f ∷ [])) (sym (rw (c.deref.ensures.value, c.deref-2.ensures.value) at c.in_ok-func.ensures))
    ∙ ap (λ l. typed (map func_view l)) (sym (c.in_ok-push.ensures.items ∙ ap (λ l. l ++ c.in_ok-func.func ∷ []) c.new-all.ensures.items))
