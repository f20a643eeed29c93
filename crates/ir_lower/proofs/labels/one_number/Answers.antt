use Rattle.std.proofs.Common.{sym, ap, ◌∙◌}
use Rattle.struct_ir.specs.Nodes.{no_nodes}
use Rattle.struct_ir.specs.Views.{followed}
use Rattle.struct_ir.proofs.Views.{followed_none}
use Rattle.lower_forms.specs.Forms.{sets_int}
use Rattle.ir_lower.proofs.labels.one_number.Goals as goal

pub returns : goal.returns
returns c =
    sym (followed_none c.sets_number.new.out.items) ∙ c.in_ok-sets_number.ensures no_nodes
    ∙ ap (λ l. followed l (sets_int c.args.place c.args.to c.args.number no_nodes)) c.in_ok-row.ensures.items
