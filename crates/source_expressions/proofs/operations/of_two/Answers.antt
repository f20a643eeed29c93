use Rattle.std.proofs.Common.{◌∙◌, ap, sym}
use Rattle.c_meaning.specs.Values.{of_two}
use Rattle.source_state.specs.declared.operations.Binary.{Binary}
use Rattle.source_state.specs.Operations.{binary_of}
use Rattle.source_expressions.proofs.operations.of_two.Goals as goal

pub returns-in-Numbers : goal.returns-in-Numbers
returns-in-Numbers c = c.on_numbers.ensures c.args.store.now ∙ ap (λ (op : Binary). of_two c.args.store.now (binary_of op) c.args.a c.args.b) (sym c.in-Numbers.is)
