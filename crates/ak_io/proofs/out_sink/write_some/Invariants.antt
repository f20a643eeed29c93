use Rattle.std.specs.Io.KnownBytes.{Keeps}
use Rattle.ak_io.proofs.out_sink.write_some.Given as goal

abbrev pub invariant-interrupted : goal.invariant-interrupted
invariant-interrupted g l = Keeps (g.W.Write.contents l.fn.writer) (g.W.Write.contents l.writer)
