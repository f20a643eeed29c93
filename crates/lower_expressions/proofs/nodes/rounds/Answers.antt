use Rattle.std.proofs.Common.{ap, ◌∙◌}
use Rattle.struct_ir.specs.Nodes.{more_nodes}
use Rattle.struct_ir.specs.Views.{followed}
use Rattle.struct_ir.proofs.Views.{loop_view}
use Rattle.std.proofs.lemmas.Result.{on_ok_weaker}
use Rattle.lower_expressions.proofs.nodes.rounds.Goals as goal

pub returns : goal.returns
returns c = on_ok_weaker c.put.result (λ h rest. h rest ∙ ap (λ n. followed c.args.out.now.items (more_nodes n rest)) (loop_view c.args.place c.args.body c.args.step)) c.put.ensures
