use Rattle.std.proofs.Common.{rules, []}
use Rattle.c_meaning.specs.Turns as turns
use Rattle.source_tree.specs.SharedViews.{stmt_of}
use Rattle.source_assignments.specs.declared.exit.Exit.TheVariants as exits
use Rattle.source_statements.proofs.Walking.{passes_at, closed_end, closed_break, closed_next}
use Rattle.source_statements.proofs.statements.close_first.Goals as goal

pub returns-in_ok-end_first-in-End-clause-passes : goal.returns-in_ok-end_first-in-End-clause-passes
returns-in_ok-end_first-in-End-clause-passes c = λ p function k.
    passes_at (λ h. turns.end_way (turns.declared_by (stmt_of c.args.first.now.value) [])) p function k _ exits.End _ _ _ _ _ c.in-End.is
    (λ r w x n. (closed_end (turns.declared_by (stmt_of c.args.first.now.value) []) (turns.declared_by (stmt_of c.deref.result.now) []) p function k _ _ _ _ c.in_ok-end_first-in-End.ensures.now (search rules)).goes r w x n)

pub returns-in_ok-end_first-in-Break-clause-passes : goal.returns-in_ok-end_first-in-Break-clause-passes
returns-in_ok-end_first-in-Break-clause-passes c = λ p function k.
    passes_at (λ h. turns.end_way (turns.declared_by (stmt_of c.args.first.now.value) [])) p function k _ exits.Break _ _ _ _ _ c.in-Break.is
    (λ r w x n. (closed_break (turns.declared_by (stmt_of c.args.first.now.value) []) (turns.declared_by (stmt_of c.deref-in-Break.result.now) []) p function k _ _ _ _ c.in_ok-end_first-in-Break.ensures.now (search rules)).goes r w x n)

pub returns-in_ok-end_first-in-Next-clause-passes : goal.returns-in_ok-end_first-in-Next-clause-passes
returns-in_ok-end_first-in-Next-clause-passes c = λ p function k.
    passes_at (λ h. turns.end_way (turns.declared_by (stmt_of c.args.first.now.value) [])) p function k _ exits.Next _ _ _ _ _ c.in-Next.is
    (λ r w x n. (closed_next (turns.declared_by (stmt_of c.args.first.now.value) []) (turns.declared_by (stmt_of c.deref-in-Next.result.now) []) p function k _ _ _ _ c.in_ok-end_first-in-Next.ensures.now (search rules)).goes r w x n)
