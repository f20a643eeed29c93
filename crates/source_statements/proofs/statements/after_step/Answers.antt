use Rattle.c_meaning.specs.Turns.{step_way}
use Rattle.source_state.specs.Views.{loop_of, todo_of}
use Rattle.source_assignments.specs.declared.exit.Exit.TheVariants as exits
use Rattle.source_statements.proofs.Walking.{passes_at, round_ends}
use Rattle.source_statements.proofs.statements.after_step.Goals as goal

pub returns-in_ok-end_over-in-End : goal.returns-in_ok-end_over-in-End
returns-in_ok-end_over-in-End c = λ p function locals blocks.
    passes_at (λ h. step_way h (loop_of c.args.l.now.value)) p function (todo_of c.args.k.now.value) _ exits.End locals blocks locals blocks _ c.in-End.is
    (round_ends p function (loop_of c.args.l.now.value) (todo_of c.args.k.now.value) locals blocks _ c.in_ok-end_over-in-End.ensures)

pub returns-in_ok-next_over-in-Next : goal.returns-in_ok-next_over-in-Next
returns-in_ok-next_over-in-Next c = λ p function locals blocks.
    passes_at (λ h. step_way h (loop_of c.args.l.now.value)) p function (todo_of c.args.k.now.value) _ exits.Next locals blocks locals blocks _ c.in-Next.is
    (round_ends p function (loop_of c.args.l.now.value) (todo_of c.args.k.now.value) locals blocks _ c.in_ok-next_over-in-Next.ensures)
