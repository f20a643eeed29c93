use Rattle.pin_checker.proofs.Uses.{all_clean}
use Rattle.pin_checker.proofs.laws.kept_pairs_are_clean.Goals as goal

pub returns : goal.returns
returns c = all_clean
