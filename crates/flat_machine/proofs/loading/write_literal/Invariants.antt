use Rattle.std.proofs.Common.{◌≡◌, ◌+◌, take}
use Rattle.flat_store.specs.Flat.{with_bytes}
use Rattle.flat_machine.proofs.loading.write_literal.Given as goal

-- so many bytes are written
abbrev pub invariant-loop-byte : goal.invariant-loop-byte
invariant-loop-byte l = record {
  next : l.next ≡ l.at + l.byte-index;
  so_far : l.arena ≡ record l.fn.arena { bytes = with_bytes l.fn.arena.bytes l.at (take l.byte-index l.bytes) };
}
