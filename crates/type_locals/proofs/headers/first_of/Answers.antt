use Rattle.std.proofs.Common.{map, ap, ◌∙◌}
use Rattle.std.proofs.lemmas.Result.{IfOk-weaker}
use Rattle.c_tree.specs.TypedViews.{stmt_view}
use Rattle.type_locals.specs.inner.Blocks.{enclosed}
use Rattle.type_locals.proofs.LoopHeaders.{headed_pop}
use Rattle.type_locals.proofs.headers.first_of.Goals as goal

pub returns-in-Some : goal.returns-in-Some
returns-in-Some c =
    IfOk-weaker c.boxed.result _ _
    (λ b e loop. ap (λ s. enclosed c.args.place (map stmt_view c.pop.new.self.items) (loop (stmt_view s))) e
    ∙ headed_pop c.args.place c.args.header.now.items c.pop.new.self.items c.in-Some.first loop c.in-Some.ensures.items)
    c.boxed.ensures
