use Rattle.std.proofs.Common.{◌+◌, ◌∙◌, inl, inr, refl}
use Rattle.flat_meaning.specs.Journals.{journal_picks}
use Rattle.c_meaning.specs.Touching.{turns_of}
use Rattle.block_meaning.specs.Running.{running_of}
use Rattle.race_check.proofs.Going.{went_is_done, waiting_is}
use Rattle.race_check.proofs.Along.{IsTurned, along_all, along_more, turn_is, breaks_here, waits_never, none_more, tells, second_past, second_gone}
use Rattle.race_check.proofs.finding.first_with.Goals as goal

pub returns-in-Some-race_with : goal.returns-in-Some-race_with
returns-in-Some-race_with c =
    let typed = (running_of c.args.run.now).typed in
    let now = (running_of c.loop-thread.run).typed in
    let order = journal_picks c.args.journal.now.entries in
    let s = (running_of c.loop-thread.run).state in
    let after = (running_of c.turn.new.self).state in
    let touches = c.touched.result.now in
    let turned : IsTurned now s after c.in-Some.thread c.told.result c.in_ok-turn.field-0 touches =
    record { says = c.in_ok-turn.ensures.answer; leaves = c.in_ok-turn.ensures.state; touched = c.touched.ensures ∙ c.in_ok-turn.ensures.touched } in
    let done = went_is_done c.in_ok-turn.field-0 c.in-Went.is in
    let at = turn_is typed now order c.loop-thread.turn c.loop-thread.thread-iterator c.next.new.self s c.in-Some.thread c.in-Some.answer c.told.result c.loop-thread.invariant.along c.in-Some.ensures.steps c.told.ensures
    after c.in_ok-turn.field-0 touches turned done in
    tells (turns_of typed order) c.args.second.now c.loop-thread.turn c.in-Some.thread touches c.in-Some-race_with.one c.in-Some-race_with.other c.requires.second at c.loop-thread.invariant.none
    (c.in-Some-race_with.ensures (turns_of typed order) c.requires.second.of c.if-turn-second.false at)

pub loop-thread-preserved : goal.loop-thread-preserved
loop-thread-preserved c =
    let typed = (running_of c.args.run.now).typed in
    let now = (running_of c.loop-thread.run).typed in
    let order = journal_picks c.args.journal.now.entries in
    let s = (running_of c.loop-thread.run).state in
    let after = (running_of c.turn.new.self).state in
    let touches = c.touched.result.now in
    let turned : IsTurned now s after c.in-Some.thread c.told.result c.in_ok-turn.field-0 touches =
    record { says = c.in_ok-turn.ensures.answer; leaves = c.in_ok-turn.ensures.state; touched = c.touched.ensures ∙ c.in_ok-turn.ensures.touched } in
    let done = went_is_done c.in_ok-turn.field-0 c.in-Went.is in
    let at = turn_is typed now order c.loop-thread.turn c.loop-thread.thread-iterator c.next.new.self s c.in-Some.thread c.in-Some.answer c.told.result c.loop-thread.invariant.along c.in-Some.ensures.steps c.told.ensures
    after c.in_ok-turn.field-0 touches turned done in
    record {
      can_next = tt;
      is_finite = tt;
      along = along_more typed now order c.loop-thread.turn c.loop-thread.thread-iterator c.next.new.self s c.in-Some.thread c.in-Some.answer c.told.result c.loop-thread.invariant.along c.in-Some.ensures.steps c.told.ensures
          after c.in_ok-turn.field-0 touches turned ((running_of c.turn.new.self).typed) (c.loop-thread.turn + 1) c.in_ok-turn.ensures.program refl done;
      none = none_more (turns_of typed order) c.loop-thread.turn c.args.second.now.turn c.loop-thread.invariant.none (c.in_default.ensures (turns_of typed order) c.requires.second.of c.if-turn-second.false at);
    }

pub unreachable-requires : goal.unreachable-requires
unreachable-requires c =
    second_past (turns_of (running_of c.args.run.now).typed (journal_picks c.args.journal.now.entries)) c.args.second.now c.loop-thread.turn c.requires.second c.loop-thread.invariant.none c.if-turn-second.true

pub unreachable-requires-in-Broke : goal.unreachable-requires-in-Broke
unreachable-requires-in-Broke c =
    let typed = (running_of c.args.run.now).typed in
    let now = (running_of c.loop-thread.run).typed in
    let order = journal_picks c.args.journal.now.entries in
    let s = (running_of c.loop-thread.run).state in
    let after = (running_of c.turn.new.self).state in
    let touches = (running_of c.turn.new.self).touched in
    let t = c.in_ok-turn.field-0 in
    let turned : IsTurned now s after c.in-Some.thread c.told.result t touches = record { says = c.in_ok-turn.ensures.answer; leaves = c.in_ok-turn.ensures.state; touched = c.in_ok-turn.ensures.touched } in
    let breaks = breaks_here typed now order c.loop-thread.turn c.loop-thread.thread-iterator c.next.new.self s c.in-Some.thread c.in-Some.answer c.told.result c.loop-thread.invariant.along c.in-Some.ensures.steps c.told.ensures after t touches turned in
    let waits = waits_never typed now order c.loop-thread.turn c.loop-thread.thread-iterator c.next.new.self s c.in-Some.thread c.in-Some.answer c.told.result c.loop-thread.invariant.along c.in-Some.ensures.steps c.told.ensures after t touches turned c.requires.has_run in
    elim c.in-Broke.is [
      | inl b ↦ second_gone (turns_of typed order) c.args.second.now c.loop-thread.turn c.requires.second c.loop-thread.invariant.none (breaks b.0 b.1 b.2).0
      | inr w ↦ waits (waiting_is t w)
    ]

pub unreachable-requires-2 : goal.unreachable-requires-2
unreachable-requires-2 c =
    let typed = (running_of c.args.run.now).typed in
    let order = journal_picks c.args.journal.now.entries in
    second_gone (turns_of typed order) c.args.second.now c.loop-thread.turn c.requires.second c.loop-thread.invariant.none
    (along_all typed ((running_of c.loop-thread.run).typed) order c.loop-thread.turn c.loop-thread.thread-iterator ((running_of c.loop-thread.run).state) c.loop-thread.invariant.along c.in-None.ensures.steps.0).0
