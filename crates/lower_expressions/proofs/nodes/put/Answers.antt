use Rattle.std.proofs.Common.{ap, ◌∙◌}
use Rattle.struct_ir.specs.Views.{followed}
use Rattle.struct_ir.proofs.Views.{put_view}
use Rattle.lower_expressions.proofs.nodes.put.Goals as goal

pub returns : goal.returns
returns c = λ rest. ap (λ ns. followed ns rest) c.in_ok-push.ensures.items ∙ put_view _ c.args.out.now.items rest
