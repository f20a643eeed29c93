use Rattle.std.proofs.Common.{rules, ◌≡◌, List, [], ◌∷◌, sym, subst}
use Rattle.atomic_table.specs.Table.{opening}
use Rattle.turn_lock.specs.inner.Board.{InTurn, founder}
use Rattle.turn_lock.proofs.Keeps.{starts}
use Rattle.turn_lock.proofs.lock.TurnLock.new.Goals as goal

pub new-requires : goal.new-requires
new-requires g c = let items : c.push_reserved.new.self.items ≡ c.args.object ∷ [] = search rules in let first : c.of-first.result.value ≡ c.args.object = c.of-first.ensures in
    subst (λ (xs : List g.row.O.Denot). InTurn (g.O.Object.replays c.of-first.result.value) (opening (0 ∷ 0 ∷ []) xs (founder 1))) (sym items)
    (starts (g.O.Object.replays c.of-first.result.value) 0 c.args.object (search rules) (subst (λ (x : g.row.O.Denot). g.O.Object.replays x [] c.args.object) (sym first) c.requires.state))
