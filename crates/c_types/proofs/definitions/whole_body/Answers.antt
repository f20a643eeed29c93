use Rattle.c_tree.specs.SyntaxViews as source
use Rattle.c_tree.specs.TypedViews.{func_view}
use Rattle.type_context.specs.ContextViews.{context_view, frame_view}
use Rattle.type_declared.specs.Gathering.{each}
use Rattle.c_types.proofs.Steps.{memory_passes}
use Rattle.std.proofs.Common.{Some}
use Rattle.c_typing.specs.Programs.{body_within}
use Rattle.c_types.proofs.Functions.{whole_told}
use Rattle.c_types.proofs.definitions.whole_body.Goals as goal

pub returns-in_err-enter : goal.returns-in_err-enter
returns-in_err-enter c = λ j k g h.
    memory_passes (each func_view) c.from_residual.result c.in_err-enter.field-0.0 c.enter.new.self (body_within (frame_view c.args.head.scope.entries) j k c.args.name (Some (source.body_view c.args.body.now)) (context_view c.args.context.now)) c.in_err-enter.ensures.memory c.from_residual.ensures.1

pub returns-in_err-add_body : goal.returns-in_err-add_body
returns-in_err-add_body c = λ j k g h.
    memory_passes (each func_view) c.from_residual-in_err-add_body.result c.in_err-add_body.field-0.0 c.add_body.new.context (body_within (frame_view c.args.head.scope.entries) j k c.args.name (Some (source.body_view c.args.body.now)) (context_view c.args.context.now)) c.in_err-add_body.ensures.memory c.from_residual-in_err-add_body.ensures.1

pub returns : goal.returns
returns c = λ j k g h.
    whole_told j k c.args.name (source.body_view c.args.body.now) c.args.head.scope.entries (context_view c.args.context.now) c.enter.new.self c.typed_body-func.new.context c.leave.new.self c.add_body.new.context c.typed_body-func.result
    c.in_ok-enter.ensures.after (c.typed_body-func.ensures j k g h) c.leave.ensures.around c.in_ok-add_body.ensures.after
