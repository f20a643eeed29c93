use Rattle.std.proofs.Common.{map, string_bytes}
use Rattle.run_edges.specs.Files.{shelved}
use Rattle.alaska_run.proofs.Prepared.{said}
use Rattle.alaska_run.proofs.preparing.prepare.Goals as goal

pub returns-in-Churn-clause-course : goal.returns-in-Churn-clause-course
returns-in-Churn-clause-course g c =
    let words = map string_bytes c.args.words.now in
    c.prepare_churn.ensures words (shelved g.F.Shelf.contents g.F.Shelf.faults c.args.shelf.now c.args.shelf.now) (said words _ c.in-Some.settings c.in_ok-settings.ensures c.in-Some.is)
