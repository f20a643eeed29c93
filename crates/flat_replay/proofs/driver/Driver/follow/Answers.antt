use Rattle.std.proofs.Common.{◌≤◌, length, take, ap, sym, subst, ◌∙◌, arith}
use Rattle.std.proofs.lemmas.List.{length-take-le}
use Rattle.flat_replay.specs.inner.Follows.{Takes}
use Rattle.flat_replay.proofs.Following.{begins, comes_by, follows_on, follows_none, there_is}
use Rattle.flat_replay.proofs.driver.Driver.follow.Goals as goal

pub takes-requires : goal.takes-requires
takes-requires g c = record { at = (c.args.self.now.world, take c.loop-i.i c.args.journal.now.entries, sym (length-take-le c.loop-i.i c.args.journal.now.entries (let a = c.loop-i-test.true in let b = c.len-i-end.ensures in omega arith)), c.loop-i.invariant, c.requires.workers) }

pub loop-i-preserved : goal.loop-i-preserved
loop-i-preserved g c = let f = g.F.Flat in let log = c.args.journal.now.entries in
    follows_on f.machine f.shared_of c.args.self.now.world log c.loop-i.i c.in-Some.e c.takes.new.self.world c.takes.new.self.hands.items (sym c.get.ensures ∙ c.in-Some.is)
    (subst (Takes f.machine f.shared_of c.args.self.now.world (take c.loop-i.i log) c.in-Some.e c.takes.new.self.world c.takes.new.self.hands.items) c.if-takes.true
    (c.takes.ensures c.args.self.now.world (take c.loop-i.i log) (sym (length-take-le c.loop-i.i log (let a = c.loop-i-test.true in let b = c.len-i-end.ensures in omega arith))) c.loop-i.invariant))

pub loop-i-init : goal.loop-i-init
loop-i-init g c = begins g.F.Flat.machine g.F.Flat.shared_of c.args.self.now.world c.args.self.now.world c.args.self.now.hands.items c.requires.fresh c.requires.home

pub returns-in_default : goal.returns-in_default
returns-in_default g c = let f = g.F.Flat in let log = c.args.journal.now.entries in
    follows_none f.machine f.shared_of c.args.self.now.world log c.loop-i.i c.in-Some.e c.takes.new.self.world c.takes.new.self.hands.items (sym c.get.ensures ∙ c.in-Some.is)
    (subst (Takes f.machine f.shared_of c.args.self.now.world (take c.loop-i.i log) c.in-Some.e c.takes.new.self.world c.takes.new.self.hands.items) c.if-takes.false
    (c.takes.ensures c.args.self.now.world (take c.loop-i.i log) (sym (length-take-le c.loop-i.i log (let a = c.loop-i-test.true in let b = c.len-i-end.ensures in omega arith))) c.loop-i.invariant))

pub returns-in_default-2 : goal.returns-in_default-2
returns-in_default-2 g c = absurd (there_is c.args.journal.now.entries c.loop-i.i (let a = c.loop-i-test.true in let b = c.len-i-end.ensures in omega arith) (sym c.get.ensures ∙ c.in_default.is))

pub returns : goal.returns
returns g c = comes_by g.F.Flat.machine g.F.Flat.shared_of c.args.self.now.world c.args.journal.now.entries c.loop-i.self.world c.loop-i.self.hands.items c.loop-i.i c.len.result c.len-2.result c.loop-i.invariant
    (subst (λ n. n ≤ c.loop-i.i) c.len-i-end.ensures c.loop-i-test.false) (c.len.ensures ∙ ap (λ l. length l.entries) c.journal.ensures) c.len-2.ensures
