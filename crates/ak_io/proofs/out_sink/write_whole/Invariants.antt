use Rattle.std.proofs.Common.{◌≡◌, ℕ, List, ◌++◌, length}
use Rattle.std.specs.Io.KnownBytes.{Appends}
use Rattle.ak_io.proofs.out_sink.write_whole.Given as goal

-- the writer got all of the bytes but the rest
abbrev pub invariant-writing : goal.invariant-writing
invariant-writing g l =
    (done : List ℕ) × (l.bytes ≡ done ++ l.rest) × Appends (g.W.Write.contents l.fn.writer) (g.W.Write.contents l.writer) done

abbrev pub decreases-writing : goal.decreases-writing
decreases-writing g l = length l.rest
