use Rattle.std.proofs.Common.{◌∙◌, refl}
use Rattle.ak_words.specs.IntType.{int}
use Rattle.ak_words.proofs.Wraps.{wrapped_value-in_type}
use Rattle.ak_words.proofs.Numbers.{read_int}
use Rattle.ak_words.proofs.number.Num.to_int.Goals as goal

pub returns-clause-value : goal.returns-clause-value
returns-clause-value c = read_int c.wrapping.result c.args.self _ refl refl c.wrapping.ensures

pub returns-clause-kept : goal.returns-clause-kept
returns-clause-kept c = λ h. read_int c.wrapping.result c.args.self _ refl refl c.wrapping.ensures ∙ wrapped_value-in_type int c.args.self.value h
