use Rattle.std.proofs.Common.{◌≡◌, map}
use Rattle.c_tree.specs.TypedViews.{func_view}
use Rattle.source_tree.specs.SharedViews.{func_of}
use Rattle.source_tree.proofs.share_stmts.share_funcs.Given as goal

abbrev pub invariant-each : goal.invariant-each
invariant-each l = map func_of l.all.items ≡ map func_view l.yielded
