use Rattle.std.proofs.Common.{◌≡◌, ℕ, Option, Some, sym, ap, subst, ◌∙◌}
use Rattle.std.specs.Prelude.{MatchOption, ⊤}
use Rattle.block_meaning.specs.declared.running.Turned.{Turned}
use Rattle.block_meaning.specs.Asking.{Wish, a_thread, AreAsked, wish}
use Rattle.block_meaning.specs.Running.{running_of, IsAsBefore}
use Rattle.c_meaning.specs.Meaning.{program}
use Rattle.rule_check.specs.Seeded.{answer_to}
use Rattle.rule_check.proofs.Told.{again_tried}
use Rattle.rule_check.proofs.choosing.try_turn.Goals as goal

pub returns-in_default-2-clause-tried : goal.returns-in_default-2-clause-tried
returns-in_default-2-clause-tried c =
    let typed = (running_of c.args.run.now).typed in
    let s = (running_of c.args.run.now).state in
    let mid = (running_of c.turn.new.self).state in
    let a = c.answer_to-answer.result in
    let are : AreAsked (wish (program typed) s c.args.thread) c.asked.result = subst (λ (n : Option ℕ). AreAsked (wish (program typed) s c.args.thread) n) (sym c.asked.ensures) c.in_ok-turned.ensures.asked in
    again_tried typed ((running_of c.turn.new.self).typed) s mid _ c.args.thread c.asked.result a c.in_ok-turned-in-Unfit.turned
    (c.in_ok-turned.ensures.answer ∙ ap Some c.in-Unfit.is) are c.in_ok-turned.ensures.program
    (subst (λ (t : Turned). IsAsBefore t s mid) c.in-Unfit.is c.in_ok-turned.ensures.stays)
    (subst (λ (made : ℕ). MatchOption c.asked.result ⊤ (λ n. (w : Wish) → AreAsked w c.asked.result → a ≡ answer_to made w)) c.threads.ensures c.answer_to-answer.ensures.bytes)
    (subst (λ (made : ℕ). MatchOption c.asked.result (a ≡ answer_to made a_thread) (λ n. ⊤)) c.threads.ensures c.answer_to-answer.ensures.thread)
    c.in_ok-turned-in-Unfit.ensures.answer c.in_ok-turned-in-Unfit.ensures.state c.in_default-2.not-Unfit c.in_default-2.not-Blocked
