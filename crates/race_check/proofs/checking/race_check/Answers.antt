use Rattle.std.proofs.Common.{◌∙◌}
use Rattle.c_tree.specs.TypedViews.{typed_view}
use Rattle.flat_meaning.specs.Journals.{journal_picks}
use Rattle.block_meaning.specs.Running.{running_of}
use Rattle.race_check.proofs.Along.{told_clean, told_broke, told_race}
use Rattle.race_check.proofs.checking.race_check.Goals as goal

pub returns-in-Clean : goal.returns-in-Clean
returns-in-Clean c =
    told_clean (typed_view c.args.typed) (running_of c.in_ok-run.run').typed (journal_picks c.args.journal.now.entries) c.in_ok-walk.field-0 c.in_ok-run.ensures.program c.in_ok-walk.ensures.walked c.in-Clean.is

pub returns-in-Broke : goal.returns-in-Broke
returns-in-Broke c =
    told_broke (typed_view c.args.typed) (running_of c.in_ok-run.run').typed (journal_picks c.args.journal.now.entries) c.in_ok-walk.field-0 c.in_ok-run.ensures.program c.in_ok-walk.ensures.walked c.in-Broke.rule c.in-Broke.turns
    c.in-Broke.is

pub returns-in_ok-first-in-Raced : goal.returns-in_ok-first-in-Raced
returns-in_ok-first-in-Raced c =
    told_race (typed_view c.args.typed) (running_of c.in_ok-again-in-Raced.again).typed (journal_picks c.args.journal.now.entries) c.in_ok-first-in-Raced.first c.in_ok-first-in-Raced.second
    (c.in_ok-again-in-Raced.ensures.program ∙ c.in_ok-walk.ensures.program ∙ c.in_ok-run.ensures.program) c.in_ok-first-in-Raced.ensures
