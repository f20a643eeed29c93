use Rattle.std.proofs.Common.{refl, rules, ◌≡◌, false}
use Rattle.type_context.specs.ContextViews.{context_view}
use Rattle.type_context.proofs.Declaring.{declared_new}
use Rattle.type_context.proofs.context.Context.declare.Goals as goal

pub returns-in_ok-insert-clause-after : goal.returns-in_ok-insert-clause-after
returns-in_ok-insert-clause-after c =
    let old : c.is_double.result ≡ false = search rules in
    declared_new (context_view c.args.self.now) c.args.self.now.inner.entries c.insert.new.self.entries c.args.name c.bytes-bytes.result c.args.meaning c.is_double.result c.bytes-bytes.ensures refl c.is_double.ensures old c.in_ok-insert.ensures.entries
