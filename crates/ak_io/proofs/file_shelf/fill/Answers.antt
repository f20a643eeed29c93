use Rattle.std.proofs.Common.{sym, subst, rules}
use Rattle.std.specs.Io.KnownBytes.{Consumes}
use Rattle.ak_io.proofs.Streams.{Consumes-trans, take-put_mid-add}
use Rattle.ak_io.proofs.file_shelf.fill.Goals as goal

pub filling-preserved : goal.filling-preserved
filling-preserved g c =
    let front = take-put_mid-add c.filling.filled _ c.in_ok-count.count c.filling.into c.read_some.new.into c.filling.invariant.within c.in_ok-count.ensures.fits in
    record {
      within = search rules;
      bytes = subst (Consumes _ _) (sym front) (Consumes-trans _ _ _ _ _ c.filling.invariant.bytes c.in_ok-count.ensures.bytes);
    }
