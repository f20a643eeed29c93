use Rattle.std.proofs.Common.{◌∙◌}
use Rattle.type_context.proofs.Tagging.{any_view}
use Rattle.type_declared.proofs.functions.has_body.Goals as goal

pub returns : goal.returns
returns c = c.contains.ensures ∙ any_view c.args.bytes.now c.args.context.now.bodies.keys
