use Rattle.std.proofs.Common.{map, ap}
use Rattle.c_tree.specs.TypedViews.{global_view, func_view}
use Rattle.c_types.proofs.Externals.{file_made}
use Rattle.c_types.proofs.files.made_funcs.Goals as goal

pub returns : goal.returns
returns c = ap (λ l. file_made (map global_view l) (map func_view c.args.funcs.items)) c.new.ensures.items
