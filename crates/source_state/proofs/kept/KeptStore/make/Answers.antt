use Rattle.std.proofs.Common.{ap, sym, rules}
use Rattle.source_state.specs.Kept.{Kept}
use Rattle.source_state.proofs.Back.{made_back}
use Rattle.source_state.proofs.kept.KeptStore.make.Goals as goal

pub returns-clause-kept : goal.returns-clause-kept
returns-clause-kept c =
    made_back c.self.inside.log.items c.push.new.self.items c.self.inside.store c.make.new.self c.args.self.now.kept _
    (search rules) c.in_ok-name.ensures.made (sym (ap (λ (k : Kept). k.kept) c.self.view_is))
