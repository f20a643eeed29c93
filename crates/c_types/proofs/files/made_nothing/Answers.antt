use Rattle.std.proofs.Common.{[], map, ap, ◌∙◌}
use Rattle.c_tree.specs.TypedViews.{global_view, func_view}
use Rattle.c_types.proofs.Externals.{file_made}
use Rattle.c_types.proofs.files.made_nothing.Goals as goal

pub returns : goal.returns
returns c =
    ap (λ l. file_made (map global_view l) (map func_view c.new-2.result.items)) c.new.ensures.items
    ∙ ap (λ l. file_made [] (map func_view l)) c.new-2.ensures.items
