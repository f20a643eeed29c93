use Rattle.std.proofs.Common.{ap, ◌∙◌}
use Rattle.struct_ir.specs.Views.{followed}
use Rattle.lower_forms.specs.Forms.{sets}
use Rattle.std.proofs.lemmas.Result.{on_ok_weaker}
use Rattle.lower_expressions.proofs.nodes.sets_constant.Goals as goal

pub returns : goal.returns
returns c = on_ok_weaker c.sets.result (λ h rest. h rest ∙ ap (λ k. followed c.args.out.now.items (sets c.args.place c.args.to k rest)) c.number.ensures) c.sets.ensures
