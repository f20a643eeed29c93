use Rattle.std.proofs.Common.{◌≡◌, ℕ, subst, sym}
use Rattle.block_store.specs.Runs.{no_run}
use Rattle.c_tree.specs.Typed.{Typed}
use Rattle.c_tree.specs.TypedViews.{typed_view}
use Rattle.c_meaning.specs.Meaning.{run}
use Rattle.flat_meaning.specs.Journals.{journal_picks}
use Rattle.race_check.specs.Ends.{IsRaceEnd}
use Rattle.run_tests.proofs.race_checks.check_twice.Goals as goal

pub race_check-requires-2 : goal.race_check-requires-2
race_check-requires-2 c =
    let F : Typed → Type 0 = λ t. (turns : ℕ) → run t (journal_picks c.args.journal.now.entries) ≡ no_run turns → ⊥ in
    subst F (sym c.requires.same) c.requires.has_run

pub returns : goal.returns
returns c =
    let order = journal_picks c.args.journal.now.entries in
    let F : Typed → Type 0 = λ t. IsRaceEnd t order c.in_ok-second.second in
    c.one_end_alone.ensures (typed_view c.args.one) order c.in_ok-first.first c.in_ok-second.second c.in_ok-first.ensures (subst F c.requires.same c.in_ok-second.ensures)
