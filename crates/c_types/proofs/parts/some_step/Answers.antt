use Rattle.std.proofs.Common.{ap, refl}
use Rattle.c_lex.specs.declared.refusal.CompileFault.TheVariants.{NoMemory}
use Rattle.c_tree.specs.SyntaxViews as source
use Rattle.c_tree.specs.TypedViews.{stmt_view, boxed_stmt_view}
use Rattle.c_typing.specs.Statements.{judged_simple}
use Rattle.type_context.specs.ContextViews.{context_view}
use Rattle.c_types.proofs.Steps.{ok_again, err_again, memory_passes}
use Rattle.c_types.proofs.parts.some_step.Goals as goal

pub returns-in_err-s : goal.returns-in_err-s
returns-in_err-s c =
    err_again stmt_view boxed_stmt_view (judged_simple (source.simple_view c.args.s.now) (context_view c.args.context.now)) c.simple.new.context c.simple.result c.in_err-s.field-0.0 c.from_residual.result
    c.simple.ensures c.in_err-s.was c.from_residual.ensures.1

pub returns-in_err-new : goal.returns-in_err-new
returns-in_err-new c =
    memory_passes boxed_stmt_view c.from_residual-in_err-new.result NoMemory c.simple.new.context (judged_simple (source.simple_view c.args.s.now) (context_view c.args.context.now)) refl c.from_residual-in_err-new.ensures.1

pub returns : goal.returns
returns c =
    ok_again stmt_view boxed_stmt_view (judged_simple (source.simple_view c.args.s.now) (context_view c.args.context.now)) c.simple.new.context c.simple.result c.in_ok-s.s _
    c.simple.ensures c.in_ok-s.was (ap stmt_view c.in_ok-new.ensures.ok)
