use Rattle.std.proofs.Common.{◌-◌, vec_len, arith}
use Rattle.type_locals.proofs.Marked.{same_marked}
use Rattle.type_locals.proofs.marks.Marks.grow.Goals as goal

pub returns-in_ok-resize-clause-same : goal.returns-in_ok-resize-clause-same
returns-in_ok-resize-clause-same c = λ k.
    let old = c.args.self.now.table in
    same_marked c.args.count (c.args.count - vec_len old) k old.items c.resize.new.self.items (omega (arith, c.if-len-count.true, c.len.ensures, old.ok.0)) c.in_ok-resize.ensures.items
