use Rattle.std.proofs.Common.{◌≡◌, ◌^◌, ◌∙◌, ap, subst, sym}
use Rattle.ak_words.specs.declared.number.Num.{Num}
use Rattle.ak_words.specs.Wrapped.{AreCongruent, wrapped_value}
use Rattle.ak_words.proofs.Wraps.{wrapped_value-congruent, wrapped_value-in_type}
use Rattle.ak_words.proofs.Numbers.{value_read}
use Rattle.ak_words.proofs.conversion.convert.Goals as goal

-- the value that the code's call gives
is : (c : goal.After-wrapping) → c.wrapping.result.value ≡ wrapped_value c.args.to c.args.n.value
is c = ap (λ (n : Num). n.value) c.wrapping.ensures ∙ ap (wrapped_value c.args.to) (value_read c.args.n)

pub returns-clause-congruent : goal.returns-clause-congruent
returns-clause-congruent c = subst (λ z. AreCongruent (2 ^ c.args.to.bits) z c.args.n.value) (sym (is c)) (wrapped_value-congruent c.args.to c.args.n.value)

pub returns-clause-kept : goal.returns-clause-kept
returns-clause-kept c = λ h. is c ∙ wrapped_value-in_type c.args.to c.args.n.value h
