use Rattle.std.proofs.Common.{rules, tests, not, nat_eq}
use Rattle.std.proofs.lemmas.Iterator.Adapters.{YieldsList-from_rev_slice}
use Rattle.std.proofs.lemmas.Iterator.Consumers.{count_from_yields_List}
use Rattle.std.proofs.lemmas.Iterator.Search.{YieldsList-from_take_while}
use Rattle.run_notes.proofs.lines.tail_len.Goals as goal

pub returns : goal.returns
returns c = count_from_yields_List c.take_while.result _ c.count.ensures.ran (YieldsList-from_take_while _ (λ byte. not (nat_eq byte 10)) (YieldsList-from_rev_slice c.args.bytes.now cc) c.take_while.ensures.closure c.take_while.ensures.done (λ x b q k. search (rules, tests)))
