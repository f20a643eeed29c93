use Rattle.std.proofs.Common.{true, sym, ap, ◌∙◌, arith, []}
use Rattle.mark_sets.specs.declared.pairs.Pairs.{Pairs}
use Rattle.mark_sets.specs.Sets.{state_at}
use Rattle.mark_sets.specs.Words.{has}
use Rattle.mark_sets.specs.Views.{pairs_view, is_bad}
use Rattle.mark_sets.proofs.Wordly.{past}
use Rattle.mark_sets.proofs.pairs.added.Goals as goal

pub returns-in-Nowhere : goal.returns-in-Nowhere
returns-in-Nowhere c = λ i. ap (λ l. has l i) c.new.ensures.items ∙ (past [] i (omega arith) ∙ sym (ap (λ (o : Pairs). is_bad (state_at (i, true) (pairs_view o))) c.in-Nowhere.is))
