use Rattle.std.proofs.Common.{◌≡◌, ◌++◌, drop}
use Rattle.lower_forms.specs.Forms.{fresh}
use Rattle.ir_lower.proofs.left.fresh.Given as goal

-- so far
abbrev pub invariant-loop-object : goal.invariant-loop-object
invariant-loop-object l = l.some.items ++ fresh l.outer (drop l.object-index l.objects) ≡ fresh l.outer l.objects
