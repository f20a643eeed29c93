use Rattle.std.proofs.Common.{◌++◌, map, Ok, ap, sym, ◌∙◌, rules}
use Rattle.std.specs.Prelude.{Result}
use Rattle.ak_words.specs.declared.rule.Rule.{Rule}
use Rattle.block_store.specs.Blocks.{Blocks}
use Rattle.block_store.specs.Actions.{joined_bytes}
use Rattle.block_store.specs.Texts.{text_at}
use Rattle.block_store.specs.Undo.{appended}
use Rattle.source_state.specs.Worlds.{reached_of}
use Rattle.source_state.proofs.Texts.{text_read}
use Rattle.source_state.proofs.world.World.append_text.Goals as goal

pub returns-in_ok-note-in-Ok-clause-reached : goal.returns-in_ok-note-in-Ok-clause-reached
returns-in_ok-note-in-Ok-clause-reached c =
    c.in_ok-note-in-Ok.ensures
    ∙ ap (λ l. map reached_of c.args.reached.now.items ++ l)
    (text_read c.args.self.now.store.now c.args.at c.args.text.now.items c.append_text.new.out.items _ _ (search rules) (search rules)
    (sym (ap (λ (a : Result (Unit {0}) Rule). appended a c.append_text.new.out.items) c.in-Ok.is) ∙ c.in_ok-append_text.ensures
    ∙ ap (λ (b : Blocks). joined_bytes (Ok c.args.text.now.items) (text_at b c.args.at)) c.store.ensures))
