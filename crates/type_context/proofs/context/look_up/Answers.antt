use Rattle.type_context.proofs.Lookups.{seen_lookup}
use Rattle.type_context.proofs.context.look_up.Goals as goal

pub returns : goal.returns
returns c = seen_lookup c.args.bytes.now c.args.frame.now.entries _ c.get.ensures.value
