use Rattle.std.proofs.Common.{◌∙◌}
use Rattle.struct_ir.specs.Nodes.{constant}
use Rattle.struct_ir.specs.Views.{followed}
use Rattle.lower_forms.specs.Forms.{sets}
use Rattle.std.proofs.lemmas.Result.{on_ok_weaker}
use Rattle.lower_expressions.proofs.nodes.sets_long.Goals as goal

pub returns : goal.returns
returns c =
    on_ok_weaker c.sets_constant.result (λ h rest. h rest
    ∙ (λ i. followed c.args.out.now.items (sets c.args.place c.args.to (constant (c.long_number.ensures.ty i) (c.long_number.ensures.value i)) rest))) c.sets_constant.ensures
