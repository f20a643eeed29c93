use Rattle.std.proofs.Common.{sym, subst}
use Rattle.c_typing.specs.Faults.{Gives}
use Rattle.c_typing.specs.Scope.{fresh, within}
use Rattle.c_typing.specs.Judgement.{most_enumerators, enumerator_fine}
use Rattle.type_context.specs.ContextViews.{context_view}
use Rattle.type_context.specs.Telling.{as_fault}
use Rattle.type_context.proofs.Judging.{gives_both}
use Rattle.type_nodes.proofs.enums.enumerator_fine.Goals as goal

pub returns : goal.returns
returns c =
    let n = c.args.name in
    let d = context_view c.args.context.now in
    subst (λ r. Gives (λ x. x) r (enumerator_fine d n)) (sym c.both_or_refusal.ensures)
    (gives_both (λ (u : Unit {0}). tt) (λ (u : Unit {0}). tt) (as_fault c.fresh.result) (as_fault c.within-few.result) (fresh d n) (within n.from 12 most_enumerators d.enumerators) c.fresh.ensures c.within-few.ensures)
