use Rattle.std.proofs.Common.{◌≡◌, min, map, take}
use Rattle.struct_ir.specs.Instrs.{instr_count}
use Rattle.struct_ir.specs.LinearViews.{linear_func_view}
use Rattle.struct_ir.proofs.linear.Code.count.Given as goal

-- so far
abbrev pub invariant-loop-f : goal.invariant-loop-f
invariant-loop-f l = l.sum ≡ min (instr_count (map linear_func_view (take l.f-index l.self.funcs.items))) 18446744073709551615
