use Rattle.std.proofs.Common.{subst, arith}
use Rattle.arena_meaning.specs.Arena.{IsConsistent}
use Rattle.defrag_move.proofs.Filled.{new_cleared, new_is_there, new_within, new_size}
use Rattle.defrag_move.proofs.arena.Arena.alloc_zero.Goals as goal

pub size_at-size-requires : goal.size_at-size-requires
size_at-size-requires c =
    new_is_there c.args.self.now (subst IsConsistent c.self.view_is c.self.invariant.0) c.in-Got.id c.in-Got.place c.args.bytes c.in-Got.ensures.answer.1.fits c.alloc-taken.new.self c.in-Got.ensures.after

pub clear_bytes-requires : goal.clear_bytes-requires
clear_bytes-requires c =
    new_within c.args.self.now (subst IsConsistent c.self.view_is c.self.invariant.0) c.in-Got.id c.in-Got.place c.args.bytes c.in-Got.ensures.answer.1.fits c.alloc-taken.new.self c.in-Got.ensures.after c.size_at-size.result
    (omega (arith, new_size c.args.self.now (subst IsConsistent c.self.view_is c.self.invariant.0) c.in-Got.id c.in-Got.place c.args.bytes c.in-Got.ensures.answer.1.fits c.alloc-taken.new.self c.in-Got.ensures.after c.size_at-size.result c.size_at-size.ensures.size))

pub returns-in-Got-clause-after : goal.returns-in-Got-clause-after
returns-in-Got-clause-after c =
    new_cleared c.args.self.now (subst IsConsistent c.self.view_is c.self.invariant.0) c.in-Got.id c.in-Got.place c.args.bytes c.in-Got.ensures.answer.1.fits c.alloc-taken.new.self c.in-Got.ensures.after c.size_at-size.result _ c.size_at-size.ensures.size c.clear_bytes.ensures.cleared
