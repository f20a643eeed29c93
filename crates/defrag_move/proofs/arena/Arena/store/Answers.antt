use Rattle.std.proofs.Common.{◌↔◌, IsOk, subst}
use Rattle.flat_store.specs.Flat.{HasBytes}
use Rattle.arena_meaning.specs.Arena.{Storage}
use Rattle.defrag_move.proofs.arena.Arena.store.Goals as goal

pub returns-clause-within : goal.returns-clause-within
returns-clause-within c = subst (λ (s : Storage). IsOk c.store.result ↔ HasBytes s.bytes c.args.at c.args.n) c.self.view_is c.store.ensures.within
