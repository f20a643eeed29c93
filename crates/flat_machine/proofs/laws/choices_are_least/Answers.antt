use Rattle.flat_machine.proofs.Choices.{least_free_is, none_free, lowest_fit_is, none_fits}
use Rattle.flat_machine.proofs.laws.choices_are_least.Goals as goal

pub returns : goal.returns
returns c = record { id = least_free_is; no_id = none_free; place = lowest_fit_is; no_place = none_fits }
