use Rattle.std.proofs.Common.{◌<◌, sym, subst, ◌∙◌}
use Rattle.flat_rules.specs.States.{most_threads}
use Rattle.world_rules.specs.Sound.{IsSound}
use Rattle.flat_replay.proofs.Asking.{is_sound, homes_on}
use Rattle.flat_replay.proofs.driver.Driver.home.Goals as goal

pub take_home-requires-clause-sound : goal.take_home-requires-clause-sound
take_home-requires-clause-sound g c = let f = g.F.Flat in let at = c.requires.at in
    subst (IsSound f.machine f.shared_of f.context_of) (sym c.take.ensures.world) (is_sound f.machine f.shared_of f.context_of g.met.F.Flat.lawful at.0 c.args.self.now.world c.args.self.now.hands.items at.1)

pub take_home-requires-clause-out : goal.take_home-requires-clause-out
take_home-requires-clause-out g c = let f = g.F.Flat in let at = c.requires.at in
    subst (λ z. (0 < z.out) × ((f.machine z.code).thread_of c.in-Some.hand.ctx < most_threads)) (sym c.take.ensures.world)
    (homes_on f.machine f.shared_of f.context_of g.met.F.Flat.lawful at.0 c.args.self.now.world c.args.self.now.hands.items at.1 c.args.worker c.args.thread c.in-Some.hand (sym c.take.ensures.hand ∙ c.in-Some.is) c.in-Must.is)
