use Rattle.std.proofs.Common.{ap, sym, rules}
use Rattle.source_state.specs.Kept.{Kept}
use Rattle.source_state.proofs.Back.{ended_back}
use Rattle.source_state.proofs.kept.KeptStore.end.Goals as goal

pub returns-clause-kept : goal.returns-clause-kept
returns-clause-kept c =
    ended_back c.self.inside.log.items c.push.new.self.items c.self.inside.store c.take-gone.new.self c.args.self.now.kept c.args.block c.take-gone.result
    (search rules) c.take-gone.ensures.taken c.take-gone.ensures.after (sym (ap (λ (k : Kept). k.kept) c.self.view_is))
