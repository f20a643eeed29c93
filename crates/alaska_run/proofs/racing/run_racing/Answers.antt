use Rattle.std.proofs.Common.{◌≡◌, length, Some, ap, arith}
use Rattle.std.specs.Arc.{arc_value}
use Rattle.c_tree.specs.TypedViews.{typed_view}
use Rattle.pin_checker.specs.CheckedViews.{program_in}
use Rattle.flat_rules.specs.declared.settings.Settings.{Settings}
use Rattle.alaska_run.specs.Sources.{name_in}
use Rattle.alaska_run.proofs.racing.run_racing.Goals as goal

pub judge-requires-clause-a_run : goal.judge-requires-clause-a_run
judge-requires-clause-a_run g c =
    let built = c.requires.built in
    let ran = c.run_opened.ensures in
    (c.journals_mean_the_source.ensures (typed_view c.args.racing.typed) (program_in c.args.racing.opened.checked) built.erased_turns built.sound (arc_value c.args.racing.opened.code) built.emitted built.lawful c.requires.ready.program
    c.args.racing.opened.settings c.run_opened.result.journal.entries ran.last ran.leads).a_run

pub judge-requires-clause-room : goal.judge-requires-clause-room
judge-requires-clause-room g c =
    let ran = c.run_opened.ensures in
    let named = ap (λ (s : Settings). length (name_in (Some s))) ran.settings in
    let short = ran.short in
    let room = ran.room in
    let enough = c.requires.room in
    omega (arith, named, short, room, enough)

pub returns : goal.returns
returns g c = record { ran = c.run_opened.result; has_run = c.run_opened.ensures; judged = c.judge.ensures }
