use Rattle.std.proofs.Common.{sym, subst, not}
use Rattle.c_typing.specs.Faults.{Gives}
use Rattle.c_typing.specs.Scope.{is_double}
use Rattle.c_typing.specs.Programs.{not_library, alias_fits, alias_fine}
use Rattle.type_context.specs.ContextViews.{context_view}
use Rattle.type_context.specs.Telling.{as_fault, Says}
use Rattle.type_context.proofs.Judging.{gives_both}
use Rattle.type_declared.proofs.aliases.alias_fine.Goals as goal

pub returns : goal.returns
returns c =
    let n = c.args.name in
    let d = context_view c.args.context.now in
    let few : Says (λ (u : Unit {0}). tt) c.alias_fits-few.result (alias_fits d n (not (is_double d n))) = subst (λ b. Says (λ (u : Unit {0}). tt) c.alias_fits-few.result (alias_fits d n (not b))) c.is_double.ensures c.alias_fits-few.ensures in
    subst (λ r. Gives (λ x. x) r (alias_fine d n)) (sym c.both_or_refusal.ensures)
    (gives_both (λ (u : Unit {0}). tt) (λ (u : Unit {0}). tt) (as_fault c.not_library.result) (as_fault c.alias_fits-few.result) (not_library d n) (alias_fits d n (not (is_double d n))) c.not_library.ensures few)
