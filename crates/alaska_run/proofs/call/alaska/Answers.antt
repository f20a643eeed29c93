use Rattle.std.proofs.Common.{◌≡◌, [], map, string_bytes, Some, ap, subst, ◌∙◌}
use Rattle.std.specs.Option.{option_map}
use Rattle.std.specs.Arc.{arc_value}
use Rattle.pin_checker.specs.CheckedViews.{program_in}
use Rattle.run_edges.specs.Files.{shelved}
use Rattle.run_edges.specs.Sinks.{channel}
use Rattle.run_edges.specs.Writing.{Written}
use Rattle.alaska_run.specs.declared.checking.Worked.{Worked}
use Rattle.alaska_run.specs.declared.preparing.Opened.{Opened}
use Rattle.alaska_run.specs.declared.preparing.Stopped.{Stopped}
use Rattle.alaska_run.specs.declared.racing.Racing.{Racing}
use Rattle.alaska_run.specs.Ending.{ending_view}
use Rattle.alaska_run.specs.inner.Courses.{IsCourse, IsToRun, IsToRace, IsStopped, IsWorked, HasRun, HasRaced}
use Rattle.alaska_run.proofs.Headlines.{of_run, of_raced, of_stopped, of_worked}
use Rattle.alaska_run.proofs.Told.{causes, answers}
use Rattle.alaska_run.proofs.call.alaska.Goals as goal

pub returns-in-Ok-Opened-clause-headline : goal.returns-in-Ok-Opened-clause-headline
returns-in-Ok-Opened-clause-headline g c =
    let words = map string_bytes c.args.words.now in
    let file = shelved g.F.Shelf.contents g.F.Shelf.faults c.args.shelf.now c.prepare.new.shelf in
    let o : IsToRun words file c.in-Ok-Opened.opened = subst (IsCourse words file) c.in-Ok-Opened.field-0-is c.in-Ok-Opened.ensures.course in
    let r : HasRun c.in-Ok-Opened.opened c.run_opened.result = subst (λ (z : Opened). HasRun z c.run_opened.result) c.in-Ok-Opened.opened-is c.run_opened.ensures in
    of_run words file (channel g.O.Sink.contents g.O.Sink.faults c.args.out.now c.end_run.new.out) (channel g.N.Sink.contents g.N.Sink.faults c.args.note.now c.end_run.new.note)
    c.in-Ok-Opened.opened c.run_opened.result (ending_view c.end_run.result) o r
    (c.end_run.ensures.words.0 ∙ ap (λ s. Some s) r.settings)
    (ap (λ t. t.items) (c.end_run.ensures.words.1 ∙ r.text))
    (ap (option_map program_in) (c.end_run.ensures.code.0 ∙ ap (λ z. Some z) r.checked))
    (ap (option_map arc_value) (c.end_run.ensures.code.1 ∙ ap (λ z. Some z) r.code))
    (ap (option_map (λ k. k.entries)) c.end_run.ensures.journal)
    c.end_run.ensures.written
    (record {
      erased = c.code_with_looks_keeps_every_turn.ensures.kept;
      types = c.runs_go_on.ensures.types;
      ends = c.turns_go_on.ensures.ends;
      meant = c.journals_mean_the_source.ensures;
      stay = c.accesses_of_journals_stay.ensures;
    })

pub returns-in-Ok-Opened-clause-causes : goal.returns-in-Ok-Opened-clause-causes
returns-in-Ok-Opened-clause-causes g c = causes _ _ _ _ _ (returns-in-Ok-Opened-clause-headline g c)

pub returns-in-Ok-Opened-clause-answers : goal.returns-in-Ok-Opened-clause-answers
returns-in-Ok-Opened-clause-answers g c = answers _ _ _ _ _ (returns-in-Ok-Opened-clause-headline g c) c.read_each_text_once.ensures.not_both c.read_each_text_once.ensures.one_reason c.load_each_file_once.ensures.not_both c.load_each_file_once.ensures.one_reason

pub returns-in-Ok-Racing-clause-headline : goal.returns-in-Ok-Racing-clause-headline
returns-in-Ok-Racing-clause-headline g c =
    let words = map string_bytes c.args.words.now in
    let file = shelved g.F.Shelf.contents g.F.Shelf.faults c.args.shelf.now c.prepare.new.shelf in
    let o : IsToRace words file c.in-Ok-Racing.racing = subst (IsCourse words file) c.in-Ok-Racing.field-0-is c.in-Ok-Racing.ensures.course in
    let r : HasRaced c.in-Ok-Racing.racing c.run_racing.result = subst (λ (z : Racing). HasRaced z c.run_racing.result) c.in-Ok-Racing.racing-is c.run_racing.ensures in
    of_raced words file (channel g.O.Sink.contents g.O.Sink.faults c.args.out.now c.end_run-in-Ok-Racing.new.out) (channel g.N.Sink.contents g.N.Sink.faults c.args.note.now c.end_run-in-Ok-Racing.new.note)
    c.in-Ok-Racing.racing c.run_racing.result (ending_view c.end_run-in-Ok-Racing.result) o r
    (c.end_run-in-Ok-Racing.ensures.words.0 ∙ ap (λ s. Some s) (r.judged.settings ∙ r.has_run.settings))
    (ap (λ t. t.items) (c.end_run-in-Ok-Racing.ensures.words.1 ∙ (r.judged.text ∙ r.has_run.text)))
    (ap (option_map program_in) (c.end_run-in-Ok-Racing.ensures.code.0 ∙ ap (λ z. Some z) (r.judged.checked ∙ r.has_run.checked)))
    (ap (option_map arc_value) (c.end_run-in-Ok-Racing.ensures.code.1 ∙ ap (λ z. Some z) (r.judged.code ∙ r.has_run.code)))
    (ap (option_map (λ k. k.entries)) c.end_run-in-Ok-Racing.ensures.journal)
    c.end_run-in-Ok-Racing.ensures.written
    (record {
      erased = c.code_with_looks_keeps_every_turn.ensures.kept;
      types = c.runs_go_on.ensures.types;
      ends = c.turns_go_on.ensures.ends;
      meant = c.journals_mean_the_source.ensures;
      stay = c.accesses_of_journals_stay.ensures;
    })

pub returns-in-Ok-Racing-clause-causes : goal.returns-in-Ok-Racing-clause-causes
returns-in-Ok-Racing-clause-causes g c = causes _ _ _ _ _ (returns-in-Ok-Racing-clause-headline g c)

pub returns-in-Ok-Racing-clause-answers : goal.returns-in-Ok-Racing-clause-answers
returns-in-Ok-Racing-clause-answers g c = answers _ _ _ _ _ (returns-in-Ok-Racing-clause-headline g c) c.read_each_text_once.ensures.not_both c.read_each_text_once.ensures.one_reason c.load_each_file_once.ensures.not_both c.load_each_file_once.ensures.one_reason

pub returns-in-Ok-Worked-clause-headline : goal.returns-in-Ok-Worked-clause-headline
returns-in-Ok-Worked-clause-headline g c =
    let words = map string_bytes c.args.words.now in
    let file = shelved g.F.Shelf.contents g.F.Shelf.faults c.args.shelf.now c.prepare.new.shelf in
    let out = channel g.O.Sink.contents g.O.Sink.faults c.args.out.now c.end_worked.new.out in
    let note = channel g.N.Sink.contents g.N.Sink.faults c.args.note.now c.end_worked.new.note in
    let o : IsWorked words file c.in-Ok-Worked.worked = subst (IsCourse words file) c.in-Ok-Worked.field-0-is c.in-Ok-Worked.ensures.course in
    let P : Worked → Type 0 = λ z. Written z.status c.end_worked.result.status z.output.items z.line.items out note × (c.end_worked.result.settings ≡ Some z.settings) × (c.end_worked.result.text ≡ z.text)
    × (c.end_worked.result.checked ≡ Some z.checked) × (c.end_worked.result.code ≡ Some z.code) in
    let w : P c.in-Ok-Worked.worked = subst P c.in-Ok-Worked.worked-is (c.end_worked.ensures.written, c.end_worked.ensures.words.0, c.end_worked.ensures.words.1, c.end_worked.ensures.code.0, c.end_worked.ensures.code.1) in
    of_worked words file out note c.in-Ok-Worked.worked (ending_view c.end_worked.result) o w.1 (ap (λ t. t.items) w.2) (ap (option_map program_in) w.3) (ap (option_map arc_value) w.4)
    (ap (option_map (λ k. k.entries)) c.end_worked.ensures.journal) w.0

pub returns-in-Ok-Worked-clause-causes : goal.returns-in-Ok-Worked-clause-causes
returns-in-Ok-Worked-clause-causes g c = causes _ _ _ _ _ (returns-in-Ok-Worked-clause-headline g c)

pub returns-in-Ok-Worked-clause-answers : goal.returns-in-Ok-Worked-clause-answers
returns-in-Ok-Worked-clause-answers g c = answers _ _ _ _ _ (returns-in-Ok-Worked-clause-headline g c) c.read_each_text_once.ensures.not_both c.read_each_text_once.ensures.one_reason c.load_each_file_once.ensures.not_both c.load_each_file_once.ensures.one_reason

pub returns-in-Ok-Stopped-clause-headline : goal.returns-in-Ok-Stopped-clause-headline
returns-in-Ok-Stopped-clause-headline g c =
    let words = map string_bytes c.args.words.now in
    let file = shelved g.F.Shelf.contents g.F.Shelf.faults c.args.shelf.now c.prepare.new.shelf in
    let out = channel g.O.Sink.contents g.O.Sink.faults c.args.out.now c.end_stopped.new.out in
    let note = channel g.N.Sink.contents g.N.Sink.faults c.args.note.now c.end_stopped.new.note in
    let s : IsStopped words file c.in-Ok-Stopped.stopped = subst (IsCourse words file) c.in-Ok-Stopped.field-0-is c.in-Ok-Stopped.ensures.course in
    let P : Stopped → Type 0 = λ z. Written z.status c.end_stopped.result.status [] z.line.items out note × (c.end_stopped.result.settings ≡ z.settings) × (c.end_stopped.result.text ≡ z.text) in
    let w : P c.in-Ok-Stopped.stopped = subst P c.in-Ok-Stopped.stopped-is (c.end_stopped.ensures.written, c.end_stopped.ensures.words.0, c.end_stopped.ensures.words.1) in
    of_stopped words file out note (ending_view c.end_stopped.result) (ap (option_map program_in) c.end_stopped.ensures.code.0) (ap (option_map arc_value) c.end_stopped.ensures.code.1)
    (ap (option_map (λ k. k.entries)) c.end_stopped.ensures.journal) c.in-Ok-Stopped.stopped s w.1 (ap (λ t. t.items) w.2) w.0

pub returns-in-Ok-Stopped-clause-causes : goal.returns-in-Ok-Stopped-clause-causes
returns-in-Ok-Stopped-clause-causes g c = causes _ _ _ _ _ (returns-in-Ok-Stopped-clause-headline g c)

pub returns-in-Ok-Stopped-clause-answers : goal.returns-in-Ok-Stopped-clause-answers
returns-in-Ok-Stopped-clause-answers g c = answers _ _ _ _ _ (returns-in-Ok-Stopped-clause-headline g c) c.read_each_text_once.ensures.not_both c.read_each_text_once.ensures.one_reason c.load_each_file_once.ensures.not_both c.load_each_file_once.ensures.one_reason
