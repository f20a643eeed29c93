use Rattle.std.proofs.Common.{◌≡◌, ◌+◌, ◌≤◌, drop, length}
use Rattle.std.specs.Prelude.{sum_by}
use Rattle.c_tree.specs.TypedForm.{taken}
use Rattle.flat_store.specs.Flat.{first_address}
use Rattle.flat_meaning.specs.Image.{literals_written}
use Rattle.flat_machine.proofs.loading.write_literals.Given as goal

-- what is left to write makes of the bytes what all makes of the first ones
abbrev pub invariant-loop-literal : goal.invariant-loop-literal
invariant-loop-literal l = record {
  first : first_address ≤ l.at;
  left : l.at + sum_by (λ bs. taken (length bs)) (drop l.literal-index l.program.literals) ≤ first_address + length l.arena.bytes;
  whole : length l.arena.bytes ≡ length l.fn.arena.bytes;
  rest : l.arena ≡ record l.fn.arena { bytes = l.arena.bytes };
  written : literals_written l.at (drop l.literal-index l.program.literals) l.arena.bytes ≡ literals_written l.from l.program.literals l.fn.arena.bytes;
}
