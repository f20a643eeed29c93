use Rattle.std.proofs.Common.{List, map, subst, sym, Some}
use Rattle.std.specs.Prelude.{Vec}
use Rattle.std.specs.declared.alloc.Global.{Global}
use Rattle.c_tree.specs.declared.typed.CType.{CType}
use Rattle.c_tree.specs.Syntax.{stmts_of}
use Rattle.c_tree.specs.SyntaxViews as source
use Rattle.c_tree.specs.Typed.{Ty}
use Rattle.c_tree.specs.TypedForm.{Jumps, in_function}
use Rattle.c_tree.specs.TypedViews.{type_view, stmt_view, func_view}
use Rattle.c_typing.specs.Faults.{typed, both, Gives}
use Rattle.c_typing.specs.Judgement.{lone}
use Rattle.c_typing.specs.Numbering.{Param}
use Rattle.c_typing.specs.Statements.{or_int, judged_stmts}
use Rattle.c_typing.specs.Programs.{func_by, judged_body}
use Rattle.type_context.specs.ContextViews.{context_view}
use Rattle.type_context.proofs.Judging.{gives_both}
use Rattle.type_locals.specs.declared.locals.Param.{Param as CodeParam}
use Rattle.type_locals.specs.LocalViews.{param_view}
use Rattle.type_context.specs.Telling.{Tells}
use Rattle.type_context.proofs.Walks.{lone_tells}
use Rattle.type_declared.specs.Gathering.{each}
use Rattle.c_types.proofs.Steps.{memory_passes, two_pass, two_rule}
use Rattle.c_types.proofs.definitions.typed_body.Goals as goal

pub returns-in_err-t : goal.returns-in_err-t
returns-in_err-t c = λ j k g h.
    memory_passes (each func_view) c.from_residual.result c.in_err-t.field-0.0 c.args.context.now (judged_body j k (Some (source.body_view c.args.body.now)) (context_view c.args.context.now)) c.in_err-t.ensures.memory c.from_residual.ensures.1

pub returns-in_err-params : goal.returns-in_err-params
returns-in_err-params c = λ j k g h.
    let v : Vec CodeParam Global × CType → List Param × Ty = λ p. (each param_view p.0, type_view p.1) in
    let ss = stmts_of (map source.stmt_view c.args.body.now.items.items) in
    let started = subst (λ (l : Jumps). Tells (each stmt_view) c.stmts-items.result c.stmts-items.new.context (judged_stmts (type_view c.in_ok-t.t) l ss (context_view c.args.context.now))) c.in_function.ensures (rw c.deref.ensures.value at c.stmts-items.ensures) in
    let items = subst (λ (t : Ty). Tells (each stmt_view) c.stmts-items.result c.stmts-items.new.context (judged_stmts t in_function ss (context_view c.args.context.now))) (c.in_ok-t.ensures.declared k h) started in
    two_pass v (each stmt_view) (each func_view) (lone (both j k)) (judged_stmts (or_int k) in_function ss) (λ d p. func_by (typed p.0.0) (typed p.0.1) d (typed p.1)) (context_view c.args.context.now) c.args.context.now c.stmts-items.new.context c.both.result c.stmts-items.result c.both-2.result c.in_err-params.field-0.0 c.from_residual-in_err-params.result
    (lone_tells v c.both.result c.args.context.now (both j k) (subst (λ r. Gives v r (both j k)) (sym c.both.ensures) (gives_both (each param_view) type_view c.args.params c.args.returned j k g h)))
    items c.both-2.ensures c.in_err-params.was c.from_residual-in_err-params.ensures.1

pub returns : goal.returns
returns c = λ j k g h.
    let v : Vec CodeParam Global × CType → List Param × Ty = λ p. (each param_view p.0, type_view p.1) in
    let ss = stmts_of (map source.stmt_view c.args.body.now.items.items) in
    let started = subst (λ (l : Jumps). Tells (each stmt_view) c.stmts-items.result c.stmts-items.new.context (judged_stmts (type_view c.in_ok-t.t) l ss (context_view c.args.context.now))) c.in_function.ensures (rw c.deref.ensures.value at c.stmts-items.ensures) in
    let items = subst (λ (t : Ty). Tells (each stmt_view) c.stmts-items.result c.stmts-items.new.context (judged_stmts t in_function ss (context_view c.args.context.now))) (c.in_ok-t.ensures.declared k h) started in
    two_rule v (each stmt_view) (each func_view) (lone (both j k)) (judged_stmts (or_int k) in_function ss) (λ d p. func_by (typed p.0.0) (typed p.0.1) d (typed p.1)) (context_view c.args.context.now) c.args.context.now c.stmts-items.new.context c.both.result c.stmts-items.result c.both-2.result
    ((c.in_ok-params.params, c.in_ok-params.returned), c.in_ok-params.items) c.func_made.result
    (lone_tells v c.both.result c.args.context.now (both j k) (subst (λ r. Gives v r (both j k)) (sym c.both.ensures) (gives_both (each param_view) type_view c.args.params c.args.returned j k g h)))
    items c.both-2.ensures c.in_ok-params.was (rw c.deref-2.ensures.value at c.func_made.ensures)
