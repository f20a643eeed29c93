use Rattle.sub_heaps.proofs.Parts.{IsPart-itself}
use Rattle.sub_heaps.proofs.reader.Reader.new.Goals as goal

pub invariant_of-result : goal.invariant_of-result
invariant_of-result c = (c.requires, IsPart-itself 0 c.args.tree.now)
