-- What checked code is.
use Rattle.struct_ir.specs.Nodes as nodes
use Rattle.struct_ir.specs.WholeViews.{ir_view}
use Rattle.pin_checker.specs.declared.checked.Checked.{Checked}

-- the program
abbrev pub program_in : Checked → nodes.Ir
program_in c = ir_view c.ir
