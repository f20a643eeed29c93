use Rattle.std.proofs.Common.{ap, ◌∙◌}
use Rattle.block_store.specs.Runs.{first_state}
use Rattle.c_tree.specs.Typed as tree
use Rattle.c_tree.specs.TypedViews.{typed_view}
use Rattle.c_meaning.specs.Meaning.{program, start}
use Rattle.block_meaning.proofs.Fitting.{new_reaches}
use Rattle.block_meaning.proofs.running.SourceRun.new.Goals as goal

pub returns-clause-state : goal.returns-clause-state
returns-clause-state c = c.in_ok-run.ensures.state ∙ ap (λ (t : tree.Typed). first_state (program t) (start t)) c.in_ok-program.ensures

pub returns-clause-few : goal.returns-clause-few
returns-clause-few c = λ n few.
    new_reaches n (typed_view c.args.typed) _ _ (c.in_ok-run.ensures.program ∙ c.in_ok-program.ensures)
    (c.in_ok-run.ensures.state ∙ ap (λ (t : tree.Typed). first_state (program t) (start t)) c.in_ok-program.ensures) few
