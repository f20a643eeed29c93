use Rattle.std.proofs.Common.{◌≡◌, drop}
use Rattle.std.specs.Prelude.{nat_le}
use Rattle.struct_ir.specs.WholeViews.{ir_view}
use Rattle.code_save.specs.Saves.{deepest}
use Rattle.code_save.proofs.Depths.{most_left}
use Rattle.code_save.proofs.depth.is_within.Given as goal

-- what is left decides
abbrev pub invariant-loop-f : goal.invariant-loop-f
invariant-loop-f l = nat_le (most_left (drop l.f-index l.ir.funcs.items)) l.levels ≡ nat_le (deepest (ir_view l.ir)) l.levels
