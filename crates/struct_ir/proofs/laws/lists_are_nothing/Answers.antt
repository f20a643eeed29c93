use Rattle.struct_ir.proofs.Lists as lists
use Rattle.struct_ir.proofs.laws.lists_are_nothing.Goals as goal

pub returns : goal.returns
returns g c = lists.lists_are_nothing _ _ _ _ _
