use Rattle.std.proofs.Common.{◌<◌, sym, subst}
use Rattle.ak_crew.proofs.Together.{carried, all_left, each_over, saw_over}
use Rattle.ak_crew.proofs.running.run.Goals as goal

pub returns-clause-all : goal.returns-clause-all
returns-clause-all g c = (
  c.for_each_mut.auto.s,
  all_left g.F.Flat.machine g.F.Flat.shared_of g.F.Flat.context_of c.args.world.now.lock c.args.passes.now c.for_each_mut.new.s c.for_each_mut.auto.s c.requires.all.1
      (λ k d within. let h = (c.for_each_mut.ensures k d within).1 in carried g.F.Flat.machine g.F.Flat.shared_of g.F.Flat.context_of c.args.world.now.lock _ _ _ _ h.argument_is h.left h.call),
)

pub returns-clause-each : goal.returns-clause-each
returns-clause-each g c = each_over g.F.Flat.machine g.F.Flat.shared_of g.F.Flat.context_of c.args.world.now.lock c.args.passes.now c.for_each_mut.new.s c.for_each_mut.auto.s c.requires.all.1
    (λ k d within. let h = (c.for_each_mut.ensures k d within).1 in carried g.F.Flat.machine g.F.Flat.shared_of g.F.Flat.context_of c.args.world.now.lock _ _ _ _ h.argument_is h.left h.call)

pub returns-clause-over : goal.returns-clause-over
returns-clause-over g c = saw_over g.F.Flat.machine g.F.Flat.shared_of g.F.Flat.context_of c.args.world.now.lock c.args.passes.now c.for_each_mut.new.s (subst (λ n. 0 < n) (sym c.requires.all.0) c.args.world.now.lock.few.0) c.for_each_mut.auto.s
    (λ k d within. let h = (c.for_each_mut.ensures k d within).1 in carried g.F.Flat.machine g.F.Flat.shared_of g.F.Flat.context_of c.args.world.now.lock _ _ _ _ h.argument_is h.left h.call)
