use Rattle.std.proofs.Common.{ap}
use Rattle.type_context.specs.ContextViews.{context_view}
use Rattle.type_declared.proofs.Defining.{name_more}
use Rattle.type_declared.proofs.functions.name_function.Goals as goal

pub returns-clause-after : goal.returns-clause-after
returns-clause-after c =
    let s = c.args.context.now in
    ap (λ fs. record (context_view s) { functions = fs }) (name_more s.functions.keys c.insert.new.self.keys c.bytes-bytes.result _ c.bytes-bytes.ensures c.in_ok-insert.ensures.keys)
