use Rattle.std.proofs.Common.{◌≡◌, ap, sym, subst, ◌∙◌}
use Rattle.flat_rules.specs.Machine.{works}
use Rattle.world_rules.specs.Sound.{IsSound, MayStep}
use Rattle.flat_replay.proofs.Acting.{free_acts, asked_acts}
use Rattle.flat_replay.proofs.Asking.{is_sound, works_on, free_steps, asked_steps}
use Rattle.flat_replay.proofs.driver.Driver.act.Goals as goal
use Rattle.flat_replay.proofs.driver.Driver.act.Goals.{in-Free, in-Asked}

pub local-requires-clause-of : goal.local-requires-clause-of
local-requires-clause-of g c = let f = g.F.Flat in let x = c.args.self.now.world in let at = c.requires.at in let h = c.in-Some.field-0 in
    subst (λ k. f.context_of k h.ctx) (sym (c.code.ensures ∙ ap (λ z. z.code) c.take.ensures.world))
    (works_on f.machine f.shared_of f.context_of g.met.F.Flat.lawful at.0 x c.args.self.now.hands.items at.1 c.args.worker c.args.thread h (sym c.take.ensures.hand ∙ c.in-Some.is)).of_

pub local-requires-clause-begun : goal.local-requires-clause-begun
local-requires-clause-begun g c = let f = g.F.Flat in let x = c.args.self.now.world in let at = c.requires.at in let h = c.in-Some.field-0 in
    subst (λ k. (f.machine k).progress h.ctx ≡ works) (sym (c.code.ensures ∙ ap (λ z. z.code) c.take.ensures.world))
    (works_on f.machine f.shared_of f.context_of g.met.F.Flat.lawful at.0 x c.args.self.now.hands.items at.1 c.args.worker c.args.thread h (sym c.take.ensures.hand ∙ c.in-Some.is)).begun

pub act-acted-requires-clause-sound : goal.act-acted-requires-clause-sound
act-acted-requires-clause-sound g c = let f = g.F.Flat in let at = c.requires.at in
    subst (IsSound f.machine f.shared_of f.context_of) (sym c.take.ensures.world) (is_sound f.machine f.shared_of f.context_of g.met.F.Flat.lawful at.0 c.args.self.now.world c.args.self.now.hands.items at.1)

pub act-acted-requires-clause-may : goal.act-acted-requires-clause-may
act-acted-requires-clause-may g c = let f = g.F.Flat in let at = c.requires.at in let x = c.args.self.now.world in let h = c.in-Some.field-0 in
    let is = sym c.take.ensures.hand ∙ c.in-Some.is in let code = c.code.ensures ∙ ap (λ z. z.code) c.take.ensures.world in
    subst (λ z. MayStep f.machine f.shared_of f.context_of z c.local.new.ctx) (sym c.take.ensures.world) (elim c.match-mood.branch [
      | in-Free w ↦ free_steps f.machine f.shared_of f.context_of g.met.F.Flat.lawful at.0 x c.args.self.now.hands.items at.1 c.args.worker c.args.thread h is c.code.result.now c.local.new.ctx w.in-Free.is code (c.local.ensures ∙ ap (λ n. (f.machine c.code.result.now).local n h.ctx) w.most-is)
      | in-Asked w ↦ asked_steps f.machine f.shared_of f.context_of g.met.F.Flat.lawful at.0 x c.args.self.now.hands.items at.1 c.args.worker c.args.thread h is c.code.result.now c.local.new.ctx w.in-Asked.is code (c.local.ensures ∙ ap (λ n. (f.machine c.code.result.now).local n h.ctx) w.most-is)
    ])

pub returns : goal.returns
returns g c = let f = g.F.Flat in let x = c.args.self.now.world in let h = c.in-Some.field-0 in
    let is = sym c.take.ensures.hand ∙ c.in-Some.is in let code = c.code.ensures ∙ ap (λ z. z.code) c.take.ensures.world in
    elim c.match-mood.branch [
      | in-Free w ↦ free_acts f.machine x c.args.self.now.hands.items c.args.worker c.args.thread h is w.in-Free.is c.take.new.self.world c.act-acted.new.self c.take.new.self.hands.items c.code.result.now c.local.new.ctx c.act-acted.result c.after_step.result
          c.take.ensures.world c.in-Some.ensures.rest.0 code (c.local.ensures ∙ ap (λ n. (f.machine c.code.result.now).local n h.ctx) w.most-is) c.act-acted.ensures.after c.act-acted.ensures.reply c.after_step.ensures
      | in-Asked w ↦ asked_acts f.machine x c.args.self.now.hands.items c.args.worker c.args.thread h is w.in-Asked.is c.take.new.self.world c.act-acted.new.self c.take.new.self.hands.items c.code.result.now c.local.new.ctx c.act-acted.result c.after_step.result
          c.take.ensures.world c.in-Some.ensures.rest.0 code (c.local.ensures ∙ ap (λ n. (f.machine c.code.result.now).local n h.ctx) w.most-is) c.act-acted.ensures.after c.act-acted.ensures.reply c.after_step.ensures
    ]
