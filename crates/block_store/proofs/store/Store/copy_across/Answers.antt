-- A block is taken out, another is written, and it is put back.
use Rattle.std.proofs.Common.{◌≤◌, ◌+◌, ◌∙◌, length}
use Rattle.block_store.specs.Blocks.{Block}
use Rattle.block_store.proofs.Copies.{copied_across}
use Rattle.block_store.proofs.store.Store.copy_across.Goals as goal

pub returns : goal.returns
returns c = copied_across (λ (b : Block). c.args.from.offset + c.args.n ≤ length b.cells) c.args.self.now c.self.inside.blocks.items c.self-2.inside.blocks.items
    c.args.from.name c.args.to.name c.args.to.offset c.args.n c.args.from.offset c.in-Some.source c.index_mut.result.now c.take.new.self c.cells.result.now
    c.self.view_is c.requires.other c.requires.source (c.in-Some.ensures.value ∙ c.index_mut.ensures.value) c.take.ensures.after c.cells.ensures (c.self-2.view_is ∙ c.write.ensures)
