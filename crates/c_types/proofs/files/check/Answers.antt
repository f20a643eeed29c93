use Rattle.std.proofs.Common.{subst}
use Rattle.c_tree.specs.SyntaxViews as source
use Rattle.c_tree.specs.TypedViews.{typed_view}
use Rattle.c_typing.specs.Faults.{Gives}
use Rattle.c_typing.specs.Programs.{whole_file}
use Rattle.c_types.proofs.files.check.Goals as goal

pub returns : goal.returns
returns c = subst (λ d. Gives typed_view c.whole_file.result (whole_file (source.view c.args.file.now) d)) c.at_start-context.ensures c.whole_file.ensures
