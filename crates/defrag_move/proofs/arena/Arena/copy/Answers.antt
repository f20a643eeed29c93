use Rattle.std.proofs.Common.{◌≡◌, ◌↔◌, Some, IsOk, IfErr, subst}
use Rattle.flat_store.specs.Flat.{HasBytes, first_outside_of_both}
use Rattle.arena_meaning.specs.Arena.{Storage}
use Rattle.defrag_move.proofs.arena.Arena.copy.Goals as goal

pub returns-clause-within : goal.returns-clause-within
returns-clause-within c = subst (λ (s : Storage). IsOk c.copy.result ↔ (HasBytes s.bytes c.args.to c.args.n × HasBytes s.bytes c.args.from c.args.n)) c.self.view_is c.copy.ensures.within

pub returns-clause-outside : goal.returns-clause-outside
returns-clause-outside c = subst (λ (s : Storage). IfErr c.copy.result (λ e. first_outside_of_both s.bytes c.args.to c.args.from c.args.n ≡ Some e.0)) c.self.view_is c.copy.ensures.outside
