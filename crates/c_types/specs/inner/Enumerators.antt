-- The value of an enumerator, apart from its name.
use Rattle.std.specs.Prelude.{ℤ, Some}
use Rattle.c_tree.specs.Syntax as source
use Rattle.c_typing.specs.Constants.{constant_value}
use Rattle.c_typing.specs.Judgement.{Judging, lone, ruled, valued, judged, enumerator_value, whole_value}

-- the value of an enumerator: the one that is given, or else this
abbrev pub value_or : (next : ℤ) → source.Enumerator → Judging ℤ
value_or next (source.enumerator n comma) = lone (enumerator_value n.from (Some next))
value_or next (source.valued n e comma) = ruled (valued (judged e)) (λ d x. enumerator_value n.from (whole_value (constant_value d e x)))
