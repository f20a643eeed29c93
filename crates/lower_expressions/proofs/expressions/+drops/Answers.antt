use Rattle.lower_expressions.specs.FrameViews.{frame_view}
use Rattle.std.proofs.lemmas.Result.{on_ok_weaker}
use Rattle.lower_expressions.proofs.Calls.{call_dropped}
use Rattle.lower_expressions.proofs.expressions.+drops.Goals as goal

pub returns-in-Call : goal.returns-in-Call
returns-in-Call t c =
    on_ok_weaker c.call_dropped.result (λ h.
    call_dropped (frame_view c.args.f.now) c.args.e.now c.in-Call.function c.in-Call.all c.args.t c.args.out.now.items c.call_dropped.new.out.items c.deref.result.now
    c.in-Call.is c.deref.ensures.value h) c.call_dropped.ensures
