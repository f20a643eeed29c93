use Rattle.std.proofs.Common.{◌≡◌, ◌+◌, ◌-◌, ◌*◌, length}
use Rattle.source_tree.specs.SharedViews.{row_of, row_from}
use Rattle.source_state.specs.Views.{todo_of}
use Rattle.source_statements.specs.inner.Behind.{RowGoes}
use Rattle.source_statements.proofs.Sizes.{row_size, shared_size, step_size}
use Rattle.source_statements.proofs.statements.+walk.Given as goal

pub record Goes (goes locals store : Type 0) : Type 0 where
  pub goes_so : goes
  pub locals_so : locals
  pub store_so : store

abbrev pub decreases-stmt : goal.decreases-stmt
decreases-stmt l = 16 * shared_size l.s.now

abbrev pub decreases-block : goal.decreases-block
decreases-block l = 16 * row_size (row_of l.all.now.value) + 2

abbrev pub decreases-row : goal.decreases-row
decreases-row l = 16 * row_size (row_of l.all.now.value) + 1

abbrev pub decreases-if_then : goal.decreases-if_then
decreases-if_then l = 16 * shared_size l.one.now + 1

abbrev pub decreases-if_else : goal.decreases-if_else
decreases-if_else l = 16 * (shared_size l.one.now + shared_size l.other.now) + 1

abbrev pub decreases-last_some : goal.decreases-last_some
decreases-last_some l = 16 * shared_size l.s.now + 1

abbrev pub decreases-last : goal.decreases-last
decreases-last l = 16 * step_size l.step.now + 2

abbrev pub decreases-after_body : goal.decreases-after_body
decreases-after_body l = 16 * step_size l.step.now + 3

abbrev pub decreases-enter_body : goal.decreases-enter_body
decreases-enter_body l = 16 * (shared_size l.body.now + step_size l.step.now) + 4

abbrev pub decreases-tested_round : goal.decreases-tested_round
decreases-tested_round l = 16 * (shared_size l.body.now + step_size l.step.now) + 5

abbrev pub decreases-rounds : goal.decreases-rounds
decreases-rounds l = 16 * (shared_size l.body.now + step_size l.step.now) + 6

abbrev pub decreases-after_first : goal.decreases-after_first
decreases-after_first l = 16 * (shared_size l.body.now + step_size l.step.now) + 7

abbrev pub decreases-while_holds : goal.decreases-while_holds
decreases-while_holds l = 16 * shared_size l.body.now + 7

abbrev pub decreases-do_while : goal.decreases-do_while
decreases-do_while l = 16 * shared_size l.body.now + 23

abbrev pub decreases-enter_switch : goal.decreases-enter_switch
decreases-enter_switch l = 16 * row_size (row_of l.body.now.value) + 2

abbrev pub decreases-switch : goal.decreases-switch
decreases-switch l = 16 * row_size (row_of l.body.now.value) + 3

abbrev pub decreases-run_for : goal.decreases-run_for
decreases-run_for l = 16 * (shared_size l.first.now + shared_size l.body.now + step_size l.step.now) + 8

abbrev pub decreases-for_each : goal.decreases-for_each
decreases-for_each l = 16 * (shared_size l.first.now + shared_size l.body.now + shared_size l.step.now) + 9

abbrev pub invariant-row-row : goal.invariant-row-row
invariant-row-row l =
    Goes (RowGoes l.program l.function (row_from l.all.value l.from) (row_from l.all.value l.at) (todo_of l.k.value) l.initial.locals.now l.initial.store.now l.locals.now l.store.now)
    (l.locals.kept ≡ l.initial.locals.kept)
    (l.store.kept ≡ l.initial.store.kept)

abbrev pub decreases-row-row : goal.decreases-row-row
decreases-row-row l = length l.all.value.stmts.items - l.at
