use Rattle.std.proofs.Common.{ℕ, ◌+◌, arith, subst, sym, ◌∙◌, ap}
use Rattle.race_rules.specs.Races.{Second}
use Rattle.race_walk.specs.Steps.{turns_of}
use Rattle.race_walk.specs.States.{clocks_of}
use Rattle.race_walk.specs.Seeing.{history_of}
use Rattle.race_walk.proofs.Finding.{told_at, none_of_all, answer_is}
use Rattle.race_walk.proofs.found.find_race.Goals as goal

pub loop-i-init : goal.loop-i-init
loop-i-init c = record { after = c.new-walk.ensures.after (turns_of c.args.steps.now); count = c.new-walk.ensures.count }

pub first_with-requires : goal.first_with-requires
first_with-requires c =
    let f = c.in_ok-turn.ensures.finds (turns_of c.args.steps.now) c.loop-i.invariant.after
    (told_at c.args.steps.now c.loop-i.i c.loop-i.walk.turns c.index-steps-i.result c.as_slice-touches.result.now c.loop-i-test.true c.index-steps-i.is c.loop-i.invariant.count c.as_slice-touches.ensures.value) in
    c.in_ok-second.ensures.turn (turns_of c.args.steps.now) (f.stays c.if-branch.true)
    (told_at c.args.steps.now c.loop-i.i c.turn.new.self.turns c.index-steps-i.result c.as_slice-touches.result.now c.loop-i-test.true c.index-steps-i.is (f.still c.if-branch.true ∙ c.loop-i.invariant.count) c.as_slice-touches.ensures.value)

pub returns-then-branch : goal.returns-then-branch
returns-then-branch c =
    let f = c.in_ok-turn.ensures.finds (turns_of c.args.steps.now) c.loop-i.invariant.after
    (told_at c.args.steps.now c.loop-i.i c.loop-i.walk.turns c.index-steps-i.result c.as_slice-touches.result.now c.loop-i-test.true c.index-steps-i.is c.loop-i.invariant.count c.as_slice-touches.ensures.value) in
    let G : ℕ → Type 0 = λ n. Second (turns_of c.args.steps.now) n in
    answer_is (turns_of c.args.steps.now) c.turn.new.self.turns c.in_ok-second.second.turn (clocks_of c.turn.new.self.clocks) (history_of c.turn.new.self.history) c.first_with.result (f.stays c.if-branch.true)
    (subst G (sym (f.still c.if-branch.true)) (f.exactly.0 c.if-branch.true)) c.in_ok-second.ensures.number c.first_with.ensures

pub loop-i-preserved : goal.loop-i-preserved
loop-i-preserved c =
    let f = c.in_ok-turn.ensures.finds (turns_of c.args.steps.now) c.loop-i.invariant.after
    (told_at c.args.steps.now c.loop-i.i c.loop-i.walk.turns c.index-steps-i.result c.as_slice-touches.result.now c.loop-i-test.true c.index-steps-i.is c.loop-i.invariant.count c.as_slice-touches.ensures.value) in
    let F : ℕ → ℕ = λ n. n + 1 in
    record { after = f.goes_on c.if-branch.false; count = f.counts c.if-branch.false ∙ ap F c.loop-i.invariant.count }

pub returns : goal.returns
returns c =
    let count = c.loop-i.invariant.count in
    let out = c.loop-i-test.false in
    none_of_all c.args.steps.now c.loop-i.walk.turns (clocks_of c.loop-i.walk.clocks) (history_of c.loop-i.walk.history) c.loop-i.invariant.after (omega arith)

pub second-requires : goal.second-requires
second-requires c = c.in_ok-turn.ensures.room c.if-branch.true
