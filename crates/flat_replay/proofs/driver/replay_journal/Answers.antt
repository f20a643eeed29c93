use Rattle.std.specs.Arc.{arc_value}
use Rattle.flat_rules.specs.Rules.{rules_of}
use Rattle.flat_replay.proofs.Ended.{ended_none, ended_some, ended_homes}
use Rattle.flat_replay.proofs.driver.replay_journal.Goals as goal

pub end-end-requires : goal.end-end-requires
end-end-requires g c = let f = g.F.Flat in let told = c.in_ok-world.ensures.told in record {
  contexts =
      ended_homes f.machine f.shared_of f.context_of g.met.F.Flat.lawful c.in_ok-world.world c.follow.new.self.world c.args.journal.now.entries (arc_value c.args.code) (rules_of c.args.settings.now) (f.opened (arc_value c.args.code) c.args.settings.now) told.1 told.0 told.2 c.if-not-follow.ensures;
}

pub returns-then-not-follow : goal.returns-then-not-follow
returns-then-not-follow g c = let f = g.F.Flat in let told = c.in_ok-world.ensures.told in
    ended_none f.machine f.shared_of f.context_of g.met.F.Flat.lawful c.in_ok-world.world c.follow.new.self.world c.args.journal.now.entries (arc_value c.args.code) (rules_of c.args.settings.now) (f.opened (arc_value c.args.code) c.args.settings.now) told.1 told.0 told.2 c.if-not-follow.ensures

pub returns : goal.returns
returns g c = let f = g.F.Flat in let told = c.in_ok-world.ensures.told in
    ended_some f.machine f.shared_of f.context_of g.met.F.Flat.lawful c.in_ok-world.world c.follow.new.self.world c.args.journal.now.entries (arc_value c.args.code) (rules_of c.args.settings.now) (f.opened (arc_value c.args.code) c.args.settings.now) told.1 told.0 told.2 c.if-not-follow.ensures
    c.into_shared.result c.end-end.result c.into_shared.ensures c.end-end.ensures
