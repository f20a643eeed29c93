use Rattle.std.proofs.Common.{◌<◌, ◌≤◌, length, if◌then◌else◌, Some, None, ap, sym, subst, ◌∙◌}
use Rattle.flat_replay.proofs.Following.{index_due, index_none, index_called}
use Rattle.flat_replay.proofs.driver.Driver.takes.Goals as goal

pub call-requires : goal.call-requires
call-requires g c = let at = c.requires.at in record { at = (at.0, at.3.at, at.4) }

pub returns-then-not-call : goal.returns-then-not-call
returns-then-not-call g c = let f = g.F.Flat in let x = c.args.self.now.world in λ first front at follows.
    index_none f.machine f.shared_of first f.context_of g.met.F.Flat.lawful c.args.i front c.args.e x c.args.self.now.hands.items follows at
    (subst (λ n. n ≤ c.args.i) (c.len.ensures ∙ ap (λ l. length l.entries) c.journal.ensures) c.if-i-len.false)
    (sym c.call.ensures ∙ ap (λ b. if b then Some (c.call.new.self.world, c.call.new.self.hands.items) else None) c.if-not-call.true)

pub returns-then-i-len : goal.returns-then-i-len
returns-then-i-len g c = let f = g.F.Flat in λ first front at follows.
    index_due f.machine f.shared_of first f.context_of g.met.F.Flat.lawful c.args.i front c.args.e c.args.self.now.world c.args.self.now.hands.items follows at
    (subst (λ n. c.args.i < n) (c.len.ensures ∙ ap (λ l. length l.entries) c.journal.ensures) c.if-i-len.true) c.wrote.result c.wrote.ensures

pub returns : goal.returns
returns g c = let f = g.F.Flat in λ first front at follows.
    index_called f.machine f.shared_of first f.context_of g.met.F.Flat.lawful c.args.i front c.args.e c.args.self.now.world c.args.self.now.hands.items follows at
    (subst (λ n. n ≤ c.args.i) (c.len.ensures ∙ ap (λ l. length l.entries) c.journal.ensures) c.if-i-len.false) c.call.new.self.world c.call.new.self.hands.items
    (sym c.call.ensures ∙ ap (λ b. if b then Some (c.call.new.self.world, c.call.new.self.hands.items) else None) c.if-not-call.false) c.wrote-2.result c.wrote-2.ensures
