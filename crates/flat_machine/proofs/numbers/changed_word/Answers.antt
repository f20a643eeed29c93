use Rattle.std.proofs.Common.{◌∙◌, sym, ap}
use Rattle.flat_meaning.specs.Actions.{word_after_change}
use Rattle.flat_machine.proofs.Changing.{added_is}
use Rattle.flat_machine.proofs.numbers.changed_word.Goals as goal

pub returns-in-Add : goal.returns-in-Add
returns-in-Add c = c.add.ensures ∙ added_is c.args.ty c.args.old c.args.by ∙ sym (ap (λ how. word_after_change how c.args.ty c.args.old c.args.by) c.in-Add.is)
