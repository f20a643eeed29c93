use Rattle.std.proofs.Common.{◌≡◌, drop}
use Rattle.struct_ir.specs.inner.Rising.{rises_from}
use Rattle.struct_ir.proofs.valid.rises_from.Given as goal

-- what is left decides
abbrev pub invariant-loop-x : goal.invariant-loop-x
invariant-loop-x l = rises_from l.last (drop l.x-index l.list) ≡ rises_from l.low l.list
