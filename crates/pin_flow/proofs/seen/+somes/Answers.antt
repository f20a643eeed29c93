use Rattle.std.proofs.Common.{ap, ◌∙◌}
use Rattle.struct_ir.specs.Views.{nodes_view}
use Rattle.pin_flow.specs.Looks.{some_act}
use Rattle.pin_flow.specs.Views.{test_view}
use Rattle.pin_flow.proofs.SeenRows.{some_if, some_loop}
use Rattle.pin_flow.proofs.seen.+somes.Goals as goal

pub some_in-returns-in-If : goal.some_in-returns-in-If
some_in-returns-in-If t c =
    some_if (test_view c.args.test) c.args.n.now c.in-If.field-0 c.in-If.one c.in-If.other c.either.result c.some-first.result c.some.result c.in-If.is c.either.ensures
    (c.some-first.ensures ∙ ap (λ l. some_act (test_view c.args.test) (nodes_view l)) c.deref.ensures.value)
    (c.some.ensures ∙ ap (λ l. some_act (test_view c.args.test) (nodes_view l)) c.deref-in-If.ensures.value)

pub some_in-returns-in-Loop : goal.some_in-returns-in-Loop
some_in-returns-in-Loop t c =
    some_loop (test_view c.args.test) c.args.n.now c.in-Loop.body c.in-Loop.step c.either-in-Loop.result c.some-first-in-Loop.result c.some-in-Loop.result c.in-Loop.is c.either-in-Loop.ensures
    (c.some-first-in-Loop.ensures ∙ ap (λ l. some_act (test_view c.args.test) (nodes_view l)) c.deref-in-Loop.ensures.value)
    (c.some-in-Loop.ensures ∙ ap (λ l. some_act (test_view c.args.test) (nodes_view l)) c.deref-in-Loop-2.ensures.value)
