use Rattle.std.proofs.Common.{map, ap, sym, []}
use Rattle.c_tree.specs.SyntaxViews as source
use Rattle.c_tree.specs.TypedViews.{global_view}
use Rattle.c_typing.specs.Faults.{typed}
use Rattle.c_typing.specs.Programs.{judged_globals}
use Rattle.type_context.specs.ContextViews.{context_view}
use Rattle.type_declared.specs.Gathering.{each}
use Rattle.type_context.proofs.Walks.{ok_tells}
use Rattle.c_types.proofs.Steps.{err_passes}
use Rattle.c_types.specs.inner.Files.{made_view}
use Rattle.c_types.proofs.files.globals_alone.Goals as goal

pub returns-in_err-all : goal.returns-in_err-all
returns-in_err-all c = λ names j g.
    err_passes (each global_view) made_view (judged_globals j (map source.init_declarator_view c.args.declarators.now)) (λ d gs. typed (record { globals = gs; funcs = [] })) (context_view c.args.context.now)
    c.globals.new.context c.globals.result c.in_err-all.field-0.0 c.from_residual.result (c.globals.ensures j g) c.in_err-all.was c.from_residual.ensures.1

pub returns : goal.returns
returns c = λ names j g.
    ok_tells (each global_view) made_view (judged_globals j (map source.init_declarator_view c.args.declarators.now)) (λ d gs. typed (record { globals = gs; funcs = [] })) (context_view c.args.context.now)
    c.globals.new.context c.globals.result c.in_ok-all.all _ (c.globals.ensures j g) c.in_ok-all.was (ap typed (sym c.made_globals.ensures))
