use Rattle.std.proofs.Common.{ap, sym, ◌∙◌, false, Ok, ℕ}
use Rattle.block_store.specs.Blocks.{Blocks}
use Rattle.block_store.specs.Texts.{text_len}
use Rattle.block_meaning.proofs.Touching.{text_part}
use Rattle.block_meaning.proofs.touches.Gathered.read_part.Goals as goal

pub returns-in_ok-bytes-in-Ok : goal.returns-in_ok-bytes-in-Ok
returns-in_ok-bytes-in-Ok c =
    text_part c.args.self.now c.bytes.new.self c.args.world.now.store.now c.args.part.now c.in-Text.at c.from.result c.in-Text.is
    (ap (λ (blocks : Blocks). text_len blocks c.in-Text.at) (sym c.store.ensures) ∙ sym c.text_len.ensures ∙ c.in-Ok.is ∙ ap Ok (sym c.from.ensures))
    (c.in_ok-bytes-in-Ok.ensures false)
