use Rattle.std.proofs.Common.{◌≡◌, drop}
use Rattle.struct_ir.specs.Valid.{is_distinct}
use Rattle.struct_ir.proofs.valid.is_each_once.Given as goal

-- what is left decides
abbrev pub invariant-loop-i : goal.invariant-loop-i
invariant-loop-i l = is_distinct (drop l.i l.list) ≡ is_distinct l.list
