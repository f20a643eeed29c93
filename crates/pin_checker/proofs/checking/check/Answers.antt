use Rattle.std.proofs.Common.{sym, ◌∙◌}
use Rattle.struct_ir.specs.WholeViews.{ir_view}
use Rattle.pin_checker.proofs.Main.{refused_is}
use Rattle.pin_checker.proofs.checking.check.Goals as goal

pub returns-in-Some-clause-refused : goal.returns-in-Some-clause-refused
returns-in-Some-clause-refused c = refused_is (ir_view c.args.ir) c.in-Some.fault (sym c.in_ok-first_fault.ensures ∙ c.in-Some.is)
