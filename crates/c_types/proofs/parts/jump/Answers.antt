use Rattle.std.proofs.Common.{[], ◌∷◌, Ok, subst, sym}
use Rattle.c_lex.specs.declared.refusal.Kind.TheVariants.{TypeMismatch}
use Rattle.c_tree.specs.Typed.{at_stmt}
use Rattle.c_tree.specs.TypedViews.{stmt_view, stmt_node_view}
use Rattle.c_typing.specs.Faults.{Judged, typed, unless, Gives, ◌>>=◌}
use Rattle.type_context.proofs.Judging.{fails_typed, fails_part, fault_gives}
use Rattle.type_declared.specs.Gathering.{each}
use Rattle.c_typing.specs.Statements.{jump}
use Rattle.c_types.proofs.Steps.{fails_passes}
use Rattle.c_types.proofs.parts.jump.Goals as goal

pub returns-in_err-all : goal.returns-in_err-all
returns-in_err-all c =
    let j = jump c.args.place c.args.may (stmt_node_view c.args.node) in
    fails_passes (each stmt_view) c.from_residual.result c.in_err-all.field-0.0 j
    (fails_typed (at_stmt c.args.place (stmt_node_view c.args.node) ∷ []) j c.in_err-all.field-0.0 c.in_err-all.ensures) c.from_residual.ensures.1

pub returns-in_err-as_fault : goal.returns-in_err-as_fault
returns-in_err-as_fault c =
    fails_passes (each stmt_view) c.from_residual-in_err-as_fault.result c.in_err-as_fault.field-0.0 (jump c.args.place c.args.may (stmt_node_view c.args.node))
    (fails_part (unless c.args.place TypeMismatch c.args.may) (λ u. typed (at_stmt c.args.place (stmt_node_view c.args.node) ∷ [])) c.in_err-as_fault.field-0.0 (subst (λ r. Gives (λ (u : Unit {0}). tt) r (unless c.args.place TypeMismatch c.args.may)) c.in_err-as_fault.was (fault_gives (λ (u : Unit {0}). tt) _ _ _ c.as_fault.ensures c.unless.ensures))) c.from_residual-in_err-as_fault.ensures.1

pub returns : goal.returns
returns c =
    subst (λ (j : Judged (Unit {0})). Gives (each stmt_view) (Ok c.in_ok-all.all) (j >>= λ u. typed (at_stmt c.args.place (stmt_node_view c.args.node) ∷ []))) (sym (subst (λ r. Gives (λ (u : Unit {0}). tt) r (unless c.args.place TypeMismatch c.args.may)) c.in_ok-as_fault.was (fault_gives (λ (u : Unit {0}). tt) _ _ _ c.as_fault.ensures c.unless.ensures))) c.in_ok-all.ensures
