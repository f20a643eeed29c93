use Rattle.std.proofs.Common.{◌∙◌, ap, map, length, refl}
use Rattle.std.proofs.lemmas.Option.{slice_get_past, slice_get_read}
use Rattle.c_tree.specs.TypedViews.{label_view}
use Rattle.c_meaning.specs.Switches.{starts_at}
use Rattle.source_statements.proofs.Cases.{starts_none, starts_some}
use Rattle.source_statements.proofs.labels.start.Goals as goal

pub returns-in-None : goal.returns-in-None
returns-in-None c =
    starts_none c.args.labels.now c.chosen.result (slice_get_past c.args.labels.now c.chosen.result c.in-None.ensures.lookup.3)
    ∙ ap (starts_at (map label_view c.args.labels.now)) c.chosen.ensures

pub returns-in-Some : goal.returns-in-Some
returns-in-Some c =
    starts_some c.args.labels.now c.chosen.result c.in-Some.label.now (slice_get_read c.args.labels.now (length c.args.labels.now) c.chosen.result c.in-Some.label.now refl c.in-Some.ensures.lookup.3.0 c.in-Some.ensures.lookup.1)
    ∙ ap (starts_at (map label_view c.args.labels.now)) c.chosen.ensures
