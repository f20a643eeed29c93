use Rattle.std.proofs.Common.{◌≡◌, ◌++◌, drop, map}
use Rattle.c_tree.specs.TypedViews.{literal_view}
use Rattle.block_store.specs.Blocks.{literal_block}
use Rattle.block_meaning.proofs.first.make_literals.Given as goal

abbrev pub invariant-literals : goal.invariant-literals
invariant-literals l = l.store ++ map literal_block (map literal_view (drop l.l-index l.all)) ≡ l.initial.store ++ map literal_block (map literal_view l.all)
