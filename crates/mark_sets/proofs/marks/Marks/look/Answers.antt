use Rattle.std.proofs.Common.{sym, ◌∙◌}
use Rattle.mark_sets.proofs.Bits.{looked}
use Rattle.mark_sets.proofs.marks.Marks.look.Goals as goal

pub returns-in-Some : goal.returns-in-Some
returns-in-Some c = looked c.args.self.now c.requires c.args.b c.in-Some.j c.args.set.now.items c.remove.new.set.items (sym c.bit.ensures ∙ c.in-Some.is) c.remove.ensures.others c.remove.ensures.gone
