use Rattle.std.proofs.Common.{ap, ◌∙◌}
use Rattle.block_store.specs.declared.values.Value.{Value}
use Rattle.block_store.specs.Blocks.{answer_of, stored}
use Rattle.source_state.specs.Worlds.{world_of}
use Rattle.source_state.proofs.Broken.{starts_err}
use Rattle.source_state.proofs.world.World.start_got.Goals as goal

pub returns-in-Err-clause-done : goal.returns-in-Err-clause-done
returns-in-Err-clause-done c =
    starts_err _ (world_of c.args.self.now) c.args.function c.args.argument _ _ (c.in-Err.ensures.answer ∙ ap (λ (v : Value). answer_of (stored c.args.self.now.store.now c.args.to v)) c.next_number-number.ensures)
