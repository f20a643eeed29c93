use Rattle.std.proofs.Common.{◌∙◌}
use Rattle.ak_words.proofs.Results.{sum_result, difference_result}
use Rattle.ak_words.proofs.Comparisons.{eq_result, ne_result, lt_result, le_result, gt_result, ge_result}
use Rattle.ak_words.proofs.Bitwise.{and_result, or_result, xor_result}
use Rattle.ak_words.proofs.evaluation.apply.Goals as goal

pub returns-in-Add : goal.returns-in-Add
returns-in-Add c = rw c.in-Add.is (c.at_type.ensures ∙ sum_result c.args.a c.args.b)

pub returns-in-Sub : goal.returns-in-Sub
returns-in-Sub c = rw c.in-Sub.is (c.at_type-in-Sub.ensures ∙ difference_result c.args.a c.args.b)

pub returns-in-And : goal.returns-in-And
returns-in-And c = rw c.in-And.is (and_result c.args.a c.args.b c.from_bits.result _ _ c.to_bits.ensures.value c.bit_pattern.ensures c.from_bits.ensures.value)

pub returns-in-Or : goal.returns-in-Or
returns-in-Or c = rw c.in-Or.is (or_result c.args.a c.args.b c.from_bits-in-Or.result _ _ c.to_bits-in-Or.ensures.value c.bit_pattern-in-Or.ensures c.from_bits-in-Or.ensures.value)

pub returns-in-Xor : goal.returns-in-Xor
returns-in-Xor c = rw c.in-Xor.is (xor_result c.args.a c.args.b c.from_bits-in-Xor.result _ _ c.to_bits-in-Xor.ensures.value c.bit_pattern-in-Xor.ensures c.from_bits-in-Xor.ensures.value)

pub returns-in-Eq : goal.returns-in-Eq
returns-in-Eq c = rw c.in-Eq.is (eq_result c.args.a c.args.b c.truth.result c.truth.ensures)

pub returns-in-Ne : goal.returns-in-Ne
returns-in-Ne c = rw c.in-Ne.is (ne_result c.args.a c.args.b c.truth-in-Ne.result c.truth-in-Ne.ensures)

pub returns-in-Lt : goal.returns-in-Lt
returns-in-Lt c = rw c.in-Lt.is (lt_result c.args.a c.args.b c.truth-in-Lt.result c.truth-in-Lt.ensures)

pub returns-in-Le : goal.returns-in-Le
returns-in-Le c = rw c.in-Le.is (le_result c.args.a c.args.b c.truth-in-Le.result c.truth-in-Le.ensures)

pub returns-in-Gt : goal.returns-in-Gt
returns-in-Gt c = rw c.in-Gt.is (gt_result c.args.a c.args.b c.truth-in-Gt.result c.truth-in-Gt.ensures)

pub returns-in-Ge : goal.returns-in-Ge
returns-in-Ge c = rw c.in-Ge.is (ge_result c.args.a c.args.b c.truth-in-Ge.result c.truth-in-Ge.ensures)
