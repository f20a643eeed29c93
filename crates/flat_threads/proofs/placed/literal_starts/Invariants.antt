use Rattle.std.proofs.Common.{◌≡◌, ◌+◌, take, map, length}
use Rattle.std.specs.List.{range_with_len}
use Rattle.std.specs.Prelude.{sum_by}
use Rattle.c_tree.specs.TypedForm.{taken}
use Rattle.c_tree.specs.declared.typed.Literal.{Literal}
use Rattle.flat_meaning.specs.Image.{literal_address}
use Rattle.flat_threads.specs.Contexts.{layout_of}
use Rattle.struct_ir.specs.LinearViews.{code_view}
use Rattle.flat_threads.proofs.placed.literal_starts.Given as goal

abbrev pub invariant-loop-literal : goal.invariant-loop-literal
invariant-loop-literal l = record {
  at : l.at ≡ l.initial.at + sum_by (λ (t : Literal). taken (length t.bytes.items)) (take l.literal-index l.literal-items);
  starts : l.starts.items ≡ map (literal_address (layout_of (code_view l.code))) (range_with_len 0 l.literal-index);
}
