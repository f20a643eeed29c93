use Rattle.std.proofs.Common.{◌≡◌, drop}
use Rattle.struct_ir.specs.Nodes.{Nodes}
use Rattle.struct_ir.specs.Views.{followed}
use Rattle.lower_forms.specs.Forms.{ends}
use Rattle.lower_expressions.proofs.nodes.ends.Given as goal

-- so far
abbrev pub invariant-loop-object : goal.invariant-loop-object
invariant-loop-object l = (rest : Nodes) → followed l.out.items (ends l.place (drop l.object-index l.objects) rest) ≡ followed l.initial.out.items (ends l.place l.objects rest)
