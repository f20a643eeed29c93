use Rattle.std.proofs.Common.{Some, None}
use Rattle.block_meaning.proofs.Begins.{begun_at}
use Rattle.block_meaning.proofs.Lists.{lookup_some, lookup_none}
use Rattle.block_meaning.proofs.begin.begun.Goals as goal

pub returns-in_ok-nowhere-in-None : goal.returns-in_ok-nowhere-in-None
returns-in_ok-nowhere-in-None c =
    begun_at c.args.program.now c.args.function c.args.argument None _
    (lookup_none _ _ c.args.function c.in-None.ensures.lookup.3 c.deref.ensures.value) (c.in_ok-nowhere-in-None.ensures c.args.argument)

pub returns-in_ok-inside-in-Some : goal.returns-in_ok-inside-in-Some
returns-in_ok-inside-in-Some c =
    begun_at c.args.program.now c.args.function c.args.argument (Some c.in-Some.f.now) _
    (lookup_some _ _ c.args.function _ c.in-Some.ensures.lookup.3.0 c.in-Some.ensures.lookup.1 c.deref.ensures.value) c.in_ok-inside-in-Some.ensures
