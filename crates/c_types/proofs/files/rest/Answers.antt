use Rattle.std.proofs.Common.{ap, sym, []}
use Rattle.c_typing.specs.Faults.{typed}
use Rattle.type_context.proofs.Walks.{lone_tells}
use Rattle.c_types.specs.inner.Files.{made_view}
use Rattle.c_types.proofs.files.rest.Goals as goal

pub returns-in-Nothing : goal.returns-in-Nothing
returns-in-Nothing c = λ names j is g.
    rw c.in-Nothing.is (lone_tells made_view _ c.args.context.now (typed (record { globals = []; funcs = [] })) (ap typed (sym c.made_nothing.ensures)))

pub returns-in-Function : goal.returns-in-Function
returns-in-Function c = λ names j is g. rw c.in-Function.is (rw (c.deref.ensures.value, c.deref-in-Function.ensures.value) at (c.function_alone.ensures names j is g))

pub returns-in-Variables : goal.returns-in-Variables
returns-in-Variables c = λ names j is g. rw c.in-Variables.is (rw c.deref-in-Variables.ensures.value at (c.globals_alone.ensures names j g))
