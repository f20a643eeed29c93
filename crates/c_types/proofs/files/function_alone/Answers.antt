use Rattle.std.proofs.Common.{map, ap, sym, []}
use Rattle.std.specs.Option.{option_map}
use Rattle.c_tree.specs.SyntaxViews as source
use Rattle.c_tree.specs.TypedViews.{func_view}
use Rattle.c_typing.specs.Faults.{typed}
use Rattle.c_typing.specs.Programs.{judged_function}
use Rattle.type_context.specs.ContextViews.{context_view}
use Rattle.type_declared.specs.Gathering.{each}
use Rattle.type_context.proofs.Walks.{ok_tells}
use Rattle.c_types.proofs.Steps.{err_passes}
use Rattle.c_types.specs.inner.Files.{made_view}
use Rattle.c_types.proofs.files.function_alone.Goals as goal

pub returns-in_err-funcs : goal.returns-in_err-funcs
returns-in_err-funcs c = λ names j is g.
    err_passes (each func_view) made_view (judged_function names j c.args.pointers.now c.args.name (map source.param_view c.args.params.now) (option_map source.body_view c.args.body.now)) (λ d fs. typed (record { globals = []; funcs = fs })) (context_view c.args.context.now)
    c.function.new.context c.function.result c.in_err-funcs.field-0.0 c.from_residual.result (c.function.ensures names j is g) c.in_err-funcs.was c.from_residual.ensures.1

pub returns : goal.returns
returns c = λ names j is g.
    ok_tells (each func_view) made_view (judged_function names j c.args.pointers.now c.args.name (map source.param_view c.args.params.now) (option_map source.body_view c.args.body.now)) (λ d fs. typed (record { globals = []; funcs = fs })) (context_view c.args.context.now)
    c.function.new.context c.function.result c.in_ok-funcs.funcs _ (c.function.ensures names j is g) c.in_ok-funcs.was (ap typed (sym c.made_funcs.ensures))
