use Rattle.std.proofs.Common.{sym, ap, ◌∙◌}
use Rattle.struct_ir.specs.Nodes.{no_nodes}
use Rattle.struct_ir.specs.Views.{followed}
use Rattle.struct_ir.proofs.Views.{followed_none}
use Rattle.lower_forms.specs.Forms.{sets_int}
use Rattle.lower_expressions.proofs.nodes.one_int.Goals as goal

pub returns : goal.returns
returns c =
    sym (followed_none c.sets_int.new.out.items) ∙ c.in_ok-sets_int.ensures no_nodes
    ∙ ap (λ l. followed l (sets_int c.args.place c.args.t c.args.value no_nodes)) c.in_ok-row.ensures.items
