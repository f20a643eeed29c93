use Rattle.c_meaning.specs.Turns.{row_way, run_row}
use Rattle.std.proofs.lemmas.Result.{IfOk-weaker}
use Rattle.source_tree.specs.SharedViews.{row_from}
use Rattle.source_assignments.specs.declared.exit.Exit.TheVariants as exits
use Rattle.source_statements.proofs.Walking.{passes_at}
use Rattle.source_statements.proofs.resume.after_stmt.Goals as goal

pub returns-in-End-clause-passes : goal.returns-in-End-clause-passes
returns-in-End-clause-passes c =
    IfOk-weaker c.row.result _ _ (λ g e. let rest = row_from c.args.all.now.value c.args.from in
    passes_at (λ h. row_way rest (run_row h rest)) _ _ _ _ exits.End _ _ _ _ _ c.in-End.is (λ r w x n. e.goes r w x n))
    c.row.ensures.exits
