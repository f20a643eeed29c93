use Rattle.std.proofs.Common.{◌∙◌}
use Rattle.ak_words.proofs.Results.{product_result}
use Rattle.ak_words.proofs.evaluation.product.Goals as goal

pub returns : goal.returns
returns c = c.at_type.ensures ∙ product_result c.args.a c.args.b
