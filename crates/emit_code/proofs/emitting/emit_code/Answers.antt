use Rattle.std.proofs.Common.{sym, subst}
use Rattle.struct_ir.specs.WholeViews.{ir_view}
use Rattle.struct_ir.specs.Emitted.{IsEmitted}
use Rattle.emit_code.proofs.Emitted.{emitted}
use Rattle.emit_code.proofs.emitting.emit_code.Goals as goal

pub returns : goal.returns
returns c = subst (IsEmitted (ir_view c.args.ir.now)) (sym c.in_ok-code.ensures) (emitted (ir_view c.args.ir.now))
