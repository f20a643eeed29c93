use Rattle.std.proofs.Common.{ap, subst, ◌∙◌, ◌<◌}
use Rattle.flat_replay.proofs.driver.Driver.call.Goals as goal

pub find-requires-clause-at : goal.find-requires-clause-at
find-requires-clause-at g c = let at = c.requires.at in (at.0, at.1, subst (λ n. c.from-worker.result < n) (c.workers.ensures ∙ ap (λ z. z.settings.workers) at.1.reaches.replays.is) c.if-worker-workers.false)

pub act-requires-clause-at : goal.act-requires-clause-at
act-requires-clause-at g c = let at = c.requires.at in (at.0, at.1, subst (λ n. c.from-worker.result < n) (c.workers.ensures ∙ ap (λ z. z.settings.workers) at.1.reaches.replays.is) c.if-worker-workers.false)

pub home-requires-clause-at : goal.home-requires-clause-at
home-requires-clause-at g c = let at = c.requires.at in (at.0, at.1, subst (λ n. c.from-worker.result < n) (c.workers.ensures ∙ ap (λ z. z.settings.workers) at.1.reaches.replays.is) c.if-worker-workers.false)
