use Rattle.pin_checker.specs.CheckedViews.{program_in}
use Rattle.pin_checker.proofs.Main.{accepted_is}
use Rattle.pin_checker.proofs.checked.Checked.ir.Goals as goal

pub returns-clause-safe : goal.returns-clause-safe
returns-clause-safe c = accepted_is (program_in c.args.self.now) c.args.self.now.nothing_fails
