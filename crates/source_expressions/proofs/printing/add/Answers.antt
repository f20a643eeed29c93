use Rattle.std.proofs.Common.{ap, drop}
use Rattle.c_tree.specs.TypedViews.{piece_view}
use Rattle.source_expressions.proofs.Gather.{more_bytes}
use Rattle.source_expressions.proofs.printing.add.Goals as goal

pub returns-in_ok-push-in-Bytes : goal.returns-in_ok-push-in-Bytes
returns-in_ok-push-in-Bytes c = λ rest.
    more_bytes c.args.so_far.now.all.items c.push.new.self.items c.in_ok-bytes-in-Bytes.bytes c.in-Bytes.bytes.items (piece_view c.args.piece.now) rest
    (drop c.args.so_far.now.numbers c.args.numbers.now) (drop c.args.so_far.now.pointers c.args.pointers.now)
    (ap piece_view c.in-Bytes.is) c.in_ok-bytes-in-Bytes.ensures c.in_ok-push-in-Bytes.ensures.items
