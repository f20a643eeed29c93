use Rattle.std.specs.Io.KnownBytes.{Keeps}
use Rattle.ak_io.proofs.file_shelf.read_some.Given as goal

abbrev pub invariant-interrupted : goal.invariant-interrupted
invariant-interrupted g l = Keeps (g.F.Read.remaining l.fn.file) (g.F.Read.remaining l.file)
