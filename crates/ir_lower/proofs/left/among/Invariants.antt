use Rattle.std.proofs.Common.{◌≡◌, drop}
use Rattle.lower_forms.specs.Forms.{among}
use Rattle.ir_lower.proofs.left.among.Given as goal

-- so far
abbrev pub invariant-loop-k : goal.invariant-loop-k
invariant-loop-k l = among (drop l.k-index l.objects) l.object ≡ among l.objects l.object
