use Rattle.std.proofs.Common.{rules, refl}
use Rattle.source_tree.specs.SharedViews.{program_of}
use Rattle.block_meaning.proofs.Fitting.{new_reaches}
use Rattle.block_meaning.proofs.Starts.{run_begins}
use Rattle.block_meaning.proofs.running.begin.Goals as goal

pub returns-clause-state : goal.returns-clause-state
returns-clause-state c =
    run_begins (program_of c.args.program) c.args.program c.in_ok-own.own _ _ _ _ _ refl c.in_ok-own.ensures (search rules) (search rules) (search rules) (search rules) (search rules)

pub returns-clause-few : goal.returns-clause-few
returns-clause-few c = λ n few.
    new_reaches n (program_of c.args.program) _ _ refl
    (run_begins (program_of c.args.program) c.args.program c.in_ok-own.own _ _ _ _ _ refl c.in_ok-own.ensures (search rules) (search rules) (search rules) (search rules) (search rules)) few
