use Rattle.std.proofs.Common.{ap, ◌∙◌}
use Rattle.std.specs.Arc.{arc_value}
use Rattle.flat_machine.specs.Replays.{final_of}
use Rattle.flat_replay.proofs.Reported.{reported}
use Rattle.flat_replay.proofs.replaying.replay_run.Goals as goal

pub returns-in-Some : goal.returns-in-Some
returns-in-Some c =
    reported (arc_value c.in_ok-code.code) c.args.settings.now c.args.journal.now.entries c.in_ok-shared.field-0 c.in-Some.shared c.in-Some.end c.into_output.result.items c.report-report.result c.len.result
    c.in_ok-shared.ensures c.in-Some.is c.into_output.ensures c.report-report.ensures c.len.ensures
    ∙ ap (λ k. final_of k c.args.settings.now c.args.journal.now.entries) c.in_ok-code.ensures.cases
