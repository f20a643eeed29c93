use Rattle.std.proofs.Common.{◌/◌, slice_index, ap, ◌∙◌}
use Rattle.mark_sets.proofs.Bit.{put_there, put_others}
use Rattle.mark_sets.proofs.words.put.Goals as goal

pub returns-clause-there : goal.returns-clause-there
returns-clause-there c = put_there c.args.set.now.items c.args.i c.word.result (c.word.ensures ∙ ap (λ l. slice_index l (c.args.i / 64)) c.deref.ensures.value) c.requires

pub returns-clause-others : goal.returns-clause-others
returns-clause-others c = put_others c.args.set.now.items c.args.i c.word.result (c.word.ensures ∙ ap (λ l. slice_index l (c.args.i / 64)) c.deref.ensures.value) c.requires
