use Rattle.pin_checker.specs.CheckedViews.{program_in}
use Rattle.pin_checker.proofs.Main.{accepted_is}
use Rattle.pin_checker.proofs.checked.Checked.into_ir.Goals as goal

pub returns-clause-safe : goal.returns-clause-safe
returns-clause-safe c = accepted_is (program_in c.args.self) c.args.self.nothing_fails
