use Rattle.std.proofs.Common.{◌∙◌, ap}
use Rattle.ak_words.specs.declared.number.Num.{Num}
use Rattle.ak_words.proofs.Replacements.{result_type-broken}
use Rattle.ak_words.proofs.wrapping.wrap_apply.Goals as goal

pub returns-in-Err-clause-ty : goal.returns-in-Err-clause-ty
returns-in-Err-clause-ty c = ap (λ (n : Num). n.ty) c.replacement.ensures ∙ result_type-broken c.args.op c.args.a c.args.b _ c.in-Err.ensures
