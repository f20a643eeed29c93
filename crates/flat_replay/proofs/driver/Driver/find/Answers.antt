use Rattle.std.proofs.Common.{sym, ◌∙◌, arith}
use Rattle.flat_replay.proofs.Asking.{is_sound, found_place}
use Rattle.flat_replay.proofs.driver.Driver.find.Goals as goal

pub find-requires-clause-sound : goal.find-requires-clause-sound
find-requires-clause-sound g c = let f = g.F.Flat in let at = c.requires.at in is_sound f.machine f.shared_of f.context_of g.met.F.Flat.lawful at.0 c.args.self.now.world c.args.self.now.hands.items at.1

pub index_mut-requires : goal.index_mut-requires
index_mut-requires g c = let f = g.F.Flat in let at = c.requires.at in
    let within = found_place f.machine f.shared_of f.context_of g.met.F.Flat.lawful at.0 c.args.self.now.world c.args.self.now.hands.items at.1 c.args.worker at.2 c.in-Work.ctx (sym c.find.ensures.reply ∙ c.in-Work.is)
    c.find.new.self c.code.result.now c.thread-thread.result c.find.ensures.after c.code.ensures c.thread-thread.ensures in omega (arith, c.args.self.now.hands.ok.0)
