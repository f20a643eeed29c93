use Rattle.std.proofs.Common.{◌∙◌}
use Rattle.flat_meaning.specs.Journals.{journal_picks}
use Rattle.c_meaning.specs.Touching.{turns_of}
use Rattle.block_meaning.specs.Running.{running_of}
use Rattle.race_check.proofs.Going.{went_is_done}
use Rattle.race_check.proofs.Along.{IsTurned, along_all, along_more, along_rests, turn_is, breaks_here, ends_clean, ends_broke, ends_raced}
use Rattle.race_check.proofs.walking.walk.Goals as goal

pub returns-then-branch-clause-walked : goal.returns-then-branch-clause-walked
returns-then-branch-clause-walked c =
    let typed = (running_of c.args.run.now).typed in
    let now = (running_of c.loop-thread.run).typed in
    let order = journal_picks c.args.journal.now.entries in
    let s = (running_of c.loop-thread.run).state in
    let after = (running_of c.turn.new.self).state in
    let touches = c.touched-touches.result.now in
    let turned : IsTurned now s after c.in-Some.thread c.told.result c.in_ok-turn.field-0 touches =
    record { says = c.in_ok-turn.ensures.answer; leaves = c.in_ok-turn.ensures.state; touched = c.touched-touches.ensures ∙ c.in_ok-turn.ensures.touched } in
    let done = went_is_done c.in_ok-turn.field-0 c.in-Went.is in
    let at = turn_is typed now order c.loop-thread.walk.turns c.loop-thread.thread-iterator c.next.new.self s c.in-Some.thread c.in-Some.answer c.told.result c.loop-thread.invariant.along c.in-Some.ensures.steps c.told.ensures
    after c.in_ok-turn.field-0 touches turned done in
    let f = c.in_ok-turn-in-Went.ensures.finds (turns_of typed order) c.loop-thread.invariant.after at in
    ends_raced (turns_of typed order) c.loop-thread.walk c.turn-in-Went.new.self c.in_ok-second-in-Went.second c.in-Some.thread touches c.in_ok-turn-in-Went.field-0 at f c.if-branch.true c.in_ok-second-in-Went.ensures.number
    c.in_ok-second-in-Went.ensures.turn

pub loop-thread-preserved : goal.loop-thread-preserved
loop-thread-preserved c =
    let typed = (running_of c.args.run.now).typed in
    let now = (running_of c.loop-thread.run).typed in
    let order = journal_picks c.args.journal.now.entries in
    let s = (running_of c.loop-thread.run).state in
    let after = (running_of c.turn.new.self).state in
    let touches = c.touched-touches.result.now in
    let turned : IsTurned now s after c.in-Some.thread c.told.result c.in_ok-turn.field-0 touches =
    record { says = c.in_ok-turn.ensures.answer; leaves = c.in_ok-turn.ensures.state; touched = c.touched-touches.ensures ∙ c.in_ok-turn.ensures.touched } in
    let done = went_is_done c.in_ok-turn.field-0 c.in-Went.is in
    let at = turn_is typed now order c.loop-thread.walk.turns c.loop-thread.thread-iterator c.next.new.self s c.in-Some.thread c.in-Some.answer c.told.result c.loop-thread.invariant.along c.in-Some.ensures.steps c.told.ensures
    after c.in_ok-turn.field-0 touches turned done in
    let f = c.in_ok-turn-in-Went.ensures.finds (turns_of typed order) c.loop-thread.invariant.after at in
    let kept = c.in_ok-limit-in-Went.ensures in
    let more = along_more typed now order c.loop-thread.walk.turns c.loop-thread.thread-iterator c.next.new.self s c.in-Some.thread c.in-Some.answer c.told.result c.loop-thread.invariant.along c.in-Some.ensures.steps c.told.ensures
    after c.in_ok-turn.field-0 touches turned ((running_of c.turn.new.self).typed) in
    record {
      can_next = tt;
      is_finite = tt;
      along = more c.forget_beyond.new.walk.turns c.in_ok-turn.ensures.program (kept.count ∙ f.counts c.if-branch.false) done;
      after = kept.after (turns_of typed order) (f.goes_on c.if-branch.false)
          (λ block gone still. along_rests typed ((running_of c.turn.new.self).typed) order c.turn-in-Went.new.self.turns c.next.new.self after (more c.turn-in-Went.new.self.turns c.in_ok-turn.ensures.program (f.counts c.if-branch.false) done) block gone still);
    }

pub returns-in-Broke-clause-walked : goal.returns-in-Broke-clause-walked
returns-in-Broke-clause-walked c =
    let typed = (running_of c.args.run.now).typed in
    let now = (running_of c.loop-thread.run).typed in
    let order = journal_picks c.args.journal.now.entries in
    let s = (running_of c.loop-thread.run).state in
    let after = (running_of c.turn.new.self).state in
    let touches = (running_of c.turn.new.self).touched in
    let turned : IsTurned now s after c.in-Some.thread c.told.result c.in_ok-turn.field-0 touches = record { says = c.in_ok-turn.ensures.answer; leaves = c.in_ok-turn.ensures.state; touched = c.in_ok-turn.ensures.touched } in
    ends_broke typed order c.loop-thread.walk c.in-Broke.rule c.loop-thread.invariant.after
    (breaks_here typed now order c.loop-thread.walk.turns c.loop-thread.thread-iterator c.next.new.self s c.in-Some.thread c.in-Some.answer c.told.result c.loop-thread.invariant.along c.in-Some.ensures.steps c.told.ensures
    after c.in_ok-turn.field-0 touches turned c.in-Broke.rule c.in-Broke.field-1 c.in-Broke.is)

pub returns-clause-walked : goal.returns-clause-walked
returns-clause-walked c =
    let typed = (running_of c.args.run.now).typed in
    let order = journal_picks c.args.journal.now.entries in
    let s = (running_of c.loop-thread.run).state in
    ends_clean typed order c.loop-thread.walk s c.loop-thread.invariant.after
    (along_all typed ((running_of c.loop-thread.run).typed) order c.loop-thread.walk.turns c.loop-thread.thread-iterator s c.loop-thread.invariant.along c.in-None.ensures.steps.0)
