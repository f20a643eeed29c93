use Rattle.std.proofs.Common.{length}
use Rattle.type_locals.specs.inner.Marking.{marked}
use Rattle.type_locals.proofs.FurtherLocals.{locals_are}
use Rattle.type_locals.proofs.locals.locals_of.Goals as goal

pub returns : goal.returns
returns c =
    locals_are (length c.args.params.now) c.args.types.now c.behind.result.now (marked c.args.addressed.now) c.in_ok-all.all.items c.in_ok-more.more.items c.in_ok-others.others.items _ _ _ _
    c.in_ok-all.ensures c.in_ok-more.ensures c.in_ok-others.ensures c.behind.ensures c.in_ok-append.ensures.items c.in_ok-append-2.ensures.items
