use Rattle.std.proofs.Common.{◌≡◌, length, refl, ap, subst, ◌∙◌, Some}
use Rattle.std.specs.Prelude.{slice_get}
use Rattle.std.specs.Arc.{arc_value}
use Rattle.ak_trace.specs.Log.{Log}
use Rattle.flat_machine.specs.Replays.{final_at}
use Rattle.flat_machine.specs.Reports.{report_of}
use Rattle.flat_machine.specs.Shares.{Shared}
use Rattle.run_report.specs.declared.report.Report.{Report}
use Rattle.run_notes.specs.Reports.{report_text}
use Rattle.alaska_run.proofs.Runs.{end_of_run, replay_of, whole_written}
use Rattle.alaska_run.proofs.running.run_opened.Goals as goal

pub run-requires-clause-all : goal.run-requires-clause-all
run-requires-clause-all g c κs within =
    (c.deref_mut.ensures.len ∙ c.requires.count, λ k p e. c.requires.passes k p (subst (λ ps. slice_get ps k ≡ Some p) c.deref_mut.ensures.value e))

pub finish-end-requires-clause-all : goal.finish-end-requires-clause-all
finish-end-requires-clause-all g c =
    (c.requires.count, λ k p e. c.run.ensures.all.1 k p (subst (λ ps. slice_get ps k ≡ Some p) (whole_written _ c.run.new.passes _ (c.run.auto.passes ∙ c.deref_mut.ensures.len)) e))

pub returns : goal.returns
returns g c =
    let ends = c.finish-end.ensures.ends in
    let world = c.requires.world in
    let entries : c.len.result ≡ length c.finish-end.result.journal.entries = c.len.ensures ∙ ap (λ (j : Log). length j.entries) c.journal.ensures in
    let told : c.report-report.result ≡ report_of ends.state.shared (length c.finish-end.result.journal.entries) =
    c.report-report.ensures ∙ ap (λ (s : Shared). report_of s c.len.result) ends.shared_is ∙ ap (report_of ends.state.shared) entries in
    record {
      settings = refl;
      text = refl;
      checked = refl;
      code = refl;
      end = c.finish-end.result.end;
      final = final_at (arc_value c.args.opened.code) c.args.opened.settings c.finish-end.result.journal.entries ends.state;
      last = ends.state;
      leads = replay_of _ _ _ _ _ world ends.leads;
      final_is = refl;
      ended = end_of_run _ _ _ ends.state _ world ends.ends;
      keeps = c.barriers_of_a_run_keep_objects.ensures (arc_value c.args.opened.code) c.args.opened.settings c.requires.program
          (c.small_programs_fit.ensures (arc_value c.args.opened.code) c.args.opened.settings c.requires.fits) c.finish-end.result.journal.entries ends.state (replay_of _ _ _ _ _ world ends.leads);
      status = c.status_of.ensures;
      output = c.into_output.ensures ∙ ap (λ (s : Shared). s.memory.output) ends.shared_is;
      short = c.push_report.ensures.short;
      room = c.push_report.ensures.capacity;
      line = c.push_report.ensures.text ∙ ap (λ (r : Report). report_text c.args.opened.settings.evacuate c.finish-end.result.end r) told;
    }
