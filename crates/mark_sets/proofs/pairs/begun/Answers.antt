use Rattle.mark_sets.proofs.Wordly.{begun_at}
use Rattle.mark_sets.proofs.pairs.begun.Goals as goal

pub returns : goal.returns
returns c = begun_at c.new-yes.result.items c.in_ok-no.no.items c.args.count c.new-yes.ensures.items c.in_ok-no.ensures
