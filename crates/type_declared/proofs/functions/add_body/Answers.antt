use Rattle.std.proofs.Common.{ap}
use Rattle.type_context.specs.ContextViews.{context_view}
use Rattle.type_declared.proofs.Defining.{name_more}
use Rattle.type_declared.proofs.functions.add_body.Goals as goal

pub returns-clause-after : goal.returns-clause-after
returns-clause-after c =
    let s = c.args.context.now in
    ap (λ bs. record (context_view s) { bodies = bs }) (name_more s.bodies.keys c.insert.new.self.keys c.bytes-bytes.result _ c.bytes-bytes.ensures c.in_ok-insert.ensures.keys)
