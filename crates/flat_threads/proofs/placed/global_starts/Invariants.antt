use Rattle.std.proofs.Common.{◌≡◌, ◌+◌, take, map}
use Rattle.std.specs.List.{range_with_len}
use Rattle.std.specs.Prelude.{sum_by}
use Rattle.c_tree.specs.TypedForm.{taken}
use Rattle.flat_meaning.specs.Image.{global_address}
use Rattle.flat_threads.specs.Contexts.{layout_of}
use Rattle.struct_ir.specs.LinearViews.{code_view}
use Rattle.struct_ir.specs.declared.code.IrGlobal.{IrGlobal}
use Rattle.flat_threads.proofs.placed.global_starts.Given as goal

abbrev pub invariant-loop-global : goal.invariant-loop-global
invariant-loop-global l = record {
  at : l.at ≡ 4096 + sum_by (λ (g : IrGlobal). taken g.size) (take l.global-index l.global-items);
  starts : l.starts.items ≡ map (global_address (layout_of (code_view l.code))) (range_with_len 0 l.global-index);
}
