use Rattle.std.proofs.Common.{◌≡◌, ◌+◌, ◌≤◌, drop, length}
use Rattle.std.specs.Prelude.{sum_by}
use Rattle.c_tree.specs.TypedForm.{taken}
use Rattle.flat_store.specs.Flat.{first_address}
use Rattle.flat_threads.specs.Contexts.{layout_of}
use Rattle.flat_meaning.specs.Image.{global_address, globals_written, literal_address}
use Rattle.flat_machine.proofs.loading.write_plain_data.Given as goal

-- what is left to write makes of the bytes what all makes of the first ones
abbrev pub invariant-loop-global : goal.invariant-loop-global
invariant-loop-global l = let x = layout_of l.program in record {
  first : first_address ≤ l.at;
  left : l.at + sum_by (λ g. taken g.size) (drop l.global-index x.globals) ≡ literal_address x 0;
  whole : length l.arena.bytes ≡ length l.fn.arena.bytes;
  rest : l.arena ≡ record l.fn.arena { bytes = l.arena.bytes };
  written : globals_written x l.at (drop l.global-index x.globals) l.arena.bytes ≡ globals_written x (global_address x 0) x.globals l.fn.arena.bytes;
}
