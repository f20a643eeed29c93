use Rattle.std.proofs.Common.{rules}
use Rattle.std.proofs.lemmas.Result.{IfOk-weaker}
use Rattle.source_tree.specs.SharedViews.{expr_of}
use Rattle.source_assignments.proofs.Tails.{initialised_block, initialised_plain}
use Rattle.source_assignments.proofs.assignments.initialise.Goals as goal

pub returns-in_ok-block-clause-exits : goal.returns-in_ok-block-clause-exits
returns-in_ok-block-clause-exits c =
    IfOk-weaker c.assign_place.result _ _ (λ g e. initialised_block c.args.program.now c.args.function c.args.place c.args.number c.in_ok-block.block c.is_atomic_local.result (expr_of c.args.e.now.value) _ _ _ _ _ _ (search rules) c.is_atomic_local.ensures c.in_ok-block.ensures.block c.in_ok-block.ensures.now (e c.args.function))
    c.assign_place.ensures

pub returns-in_ok-set-clause-exits : goal.returns-in_ok-set-clause-exits
returns-in_ok-set-clause-exits c =
    IfOk-weaker c.assign_local.result _ _ (λ g e. initialised_plain c.args.program.now c.args.function c.args.place c.args.number (expr_of c.args.e.now.value) _ _ _ _ _ _ _ (search rules) c.in_ok-set.ensures.now (e c.args.function))
    c.assign_local.ensures.exits
