use Rattle.lower_expressions.specs.FrameViews.{frame_view}
use Rattle.std.proofs.lemmas.Result.{on_ok_weaker}
use Rattle.lower_expressions.proofs.Calls.{call_done, lib_done}
use Rattle.lower_expressions.proofs.expressions.+exprs.Goals as goal

pub expr-returns-in-Call : goal.expr-returns-in-Call
expr-returns-in-Call t c =
    on_ok_weaker c.call.result (λ h.
    call_done (frame_view c.args.f.now) c.args.e.now c.in-Call.function c.in-Call.all c.args.t c.args.out.now.items c.call.new.out.items c.deref-in-Call.result.now
    c.in-Call.is c.deref-in-Call.ensures.value h) c.call.ensures

pub expr-returns-in-Lib : goal.expr-returns-in-Lib
expr-returns-in-Lib t c =
    on_ok_weaker c.lib_call.result (λ h.
    lib_done (frame_view c.args.f.now) c.args.e.now c.in-Lib.lib c.in-Lib.all c.args.t c.args.out.now.items c.lib_call.new.out.items c.deref-in-Lib.result.now
    c.in-Lib.is c.deref-in-Lib.ensures.value h) c.lib_call.ensures
