use Rattle.std.proofs.Common.{◌≡◌, ◌++◌, drop}
use Rattle.lower_forms.specs.Forms.{again}
use Rattle.ir_lower.proofs.left.again.Given as goal

-- so far
abbrev pub invariant-loop-object : goal.invariant-loop-object
invariant-loop-object l = l.some.items ++ again l.outer (drop l.object-index l.objects) ≡ again l.outer l.objects
