use Rattle.std.proofs.Common.{refl}
use Rattle.defrag_move.proofs.Filled.{from_within, new_copied, new_is_there, old_is_there, to_within}
use Rattle.defrag_move.proofs.arena.Arena.alloc_copy.Goals as goal

pub size_at-requires : goal.size_at-requires
size_at-requires c =
    old_is_there c.args.self.now c.live_start.ensures.consistent c.in-Got.id c.in-Got.place c.args.bytes c.in-Got.ensures.answer.1.fits c.alloc-taken.new.self c.in-Got.ensures.after c.args.word c.in-Some.from (c.in-Some.ensures.live.0 refl) c.in-Some.ensures.place

pub size_at-requires-in-Got : goal.size_at-requires-in-Got
size_at-requires-in-Got c = new_is_there c.args.self.now c.live_start.ensures.consistent c.in-Got.id c.in-Got.place c.args.bytes c.in-Got.ensures.answer.1.fits c.alloc-taken.new.self c.in-Got.ensures.after

pub copy_bytes-requires-clause-to : goal.copy_bytes-requires-clause-to
copy_bytes-requires-clause-to c =
    to_within c.args.self.now c.live_start.ensures.consistent c.in-Got.id c.in-Got.place c.args.bytes c.in-Got.ensures.answer.1.fits c.alloc-taken.new.self c.in-Got.ensures.after c.args.word c.in-Some.from (c.in-Some.ensures.live.0 refl) c.in-Some.ensures.place
    c.size_at.result c.size_at-in-Got.result c.min-size.result c.size_at.ensures.size c.size_at-in-Got.ensures.size c.min-size.ensures

pub copy_bytes-requires-clause-from : goal.copy_bytes-requires-clause-from
copy_bytes-requires-clause-from c =
    from_within c.args.self.now c.live_start.ensures.consistent c.in-Got.id c.in-Got.place c.args.bytes c.in-Got.ensures.answer.1.fits c.alloc-taken.new.self c.in-Got.ensures.after c.args.word c.in-Some.from (c.in-Some.ensures.live.0 refl) c.in-Some.ensures.place
    c.size_at.result c.size_at-in-Got.result c.min-size.result c.size_at.ensures.size c.size_at-in-Got.ensures.size c.min-size.ensures

pub returns-in-Got-clause-after : goal.returns-in-Got-clause-after
returns-in-Got-clause-after c =
    new_copied c.args.self.now c.live_start.ensures.consistent c.in-Got.id c.in-Got.place c.args.bytes c.in-Got.ensures.answer.1.fits c.alloc-taken.new.self c.in-Got.ensures.after c.args.word c.in-Some.from (c.in-Some.ensures.live.0 refl) c.in-Some.ensures.place
    c.size_at.result c.size_at-in-Got.result c.min-size.result c.size_at.ensures.size c.size_at-in-Got.ensures.size c.min-size.ensures _ c.copy_bytes.ensures.copied
