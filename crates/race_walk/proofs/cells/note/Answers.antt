use Rattle.std.proofs.Common.{rules, List, [], ◌∷◌, ◌++◌, ap, ◌∙◌}
use Rattle.race_rules.specs.declared.touch.Seen.{Seen}
use Rattle.race_rules.specs.Histories.{keeps}
use Rattle.race_walk.specs.Views.{told_by}
use Rattle.race_walk.proofs.Entries.{retained}
use Rattle.race_walk.proofs.cells.note.Goals as goal

pub returns : goal.returns
returns c =
    let e = retained _ (keeps (told_by c.args.clock.now) c.args.seen.kind) _ (λ x b g y k. search rules) _ _ c.retain.ensures.filtered in
    let f : List Seen → List Seen = λ l. l ++ c.args.seen ∷ [] in
    c.in_ok-push.ensures.ok ∙ ap f e
