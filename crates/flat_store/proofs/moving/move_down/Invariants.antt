use Rattle.std.proofs.Common.{◌≡◌, ◌+◌, ◌++◌, ◌*◌, take, drop}
use Rattle.flat_store.proofs.moving.move_down.Given as goal

-- the bytes of the parts so far stand where they go
abbrev pub invariant-loop-k : goal.invariant-loop-k
invariant-loop-k l = l.bytes ≡ take l.to l.fn.bytes ++ take (l.k * 64) (drop l.from l.fn.bytes) ++ drop (l.to + l.k * 64) l.fn.bytes
