use Rattle.std.proofs.Common.{length}
use Rattle.type_nodes.proofs.formats.+conversion_among.Given as goal

abbrev pub decreases-conversion_among : goal.decreases-conversion_among
decreases-conversion_among l = length l.rows.now
