use Rattle.std.proofs.Common.{ap, ◌∙◌}
use Rattle.ak_words.specs.Num.{num}
use Rattle.ak_words.proofs.Values.{sum_read}
use Rattle.block_store.proofs.values.Change.changed.Goals as goal

pub returns-in-Add : goal.returns-in-Add
returns-in-Add c = rw c.in-Add.is (c.wrapping.ensures ∙ ap (num c.args.ty) (sum_read c.args.old c.args.by))
