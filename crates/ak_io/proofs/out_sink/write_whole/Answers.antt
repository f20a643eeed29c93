use Rattle.std.proofs.Common.{◌++◌, take}
use Rattle.ak_io.proofs.Streams.{Appends-trans, split_further}
use Rattle.ak_io.proofs.out_sink.write_whole.Goals as goal

pub writing-preserved : goal.writing-preserved
writing-preserved g c =
    let (done, split, appended) = c.writing.invariant in
    let rest = c.writing.rest.now in
    let count = c.in_ok-count.count in
    (done ++ take count rest, split_further _ done rest count split, Appends-trans _ _ _ _ _ appended c.in_ok-count.ensures.written)
