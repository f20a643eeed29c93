use Rattle.std.proofs.Common.{List, map, Ok, sym, subst, ◌∙◌, refl}
use Rattle.std.specs.Option.{option_map}
use Rattle.std.specs.Prelude.{Vec}
use Rattle.std.specs.declared.alloc.Global.{Global}
use Rattle.c_tree.specs.declared.typed.Func.{Func as CodeFunc}
use Rattle.c_tree.specs.SyntaxViews as source
use Rattle.c_tree.specs.Typed.{Func}
use Rattle.c_tree.specs.TypedViews.{type_view, func_view}
use Rattle.c_typing.specs.Faults.{typed}
use Rattle.c_typing.specs.Programs.{result_of, judged_function}
use Rattle.type_context.specs.ContextViews.{context_view}
use Rattle.type_context.specs.inner.Outcomes.{joined}
use Rattle.type_context.specs.Telling.{Tells}
use Rattle.type_context.proofs.Walks.{ok_finishes}
use Rattle.type_declared.specs.Gathering.{each}
use Rattle.c_types.proofs.Steps.{memory_passes, err_finish}
use Rattle.c_types.proofs.Known.{known_gives}
use Rattle.c_types.proofs.Functions.{function_parts, function_is, function_told}
use Rattle.c_types.proofs.definitions.function.Goals as goal

pub returns-in_err-returned : goal.returns-in_err-returned
returns-in_err-returned c = λ names j is g.
    memory_passes (each func_view) c.from_residual.result c.in_err-returned.field-0.0 c.args.context.now (judged_function names j c.args.pointers.now c.args.name (map source.param_view c.args.params.now) (option_map source.body_view c.args.body.now) (context_view c.args.context.now))
    c.in_err-returned.ensures c.from_residual.ensures.1

pub returns-in_err-head : goal.returns-in_err-head
returns-in_err-head c = λ names j is g.
    memory_passes (each func_view) c.from_residual-in_err-head.result c.in_err-head.field-0.0 c.found_head.new.context (judged_function names j c.args.pointers.now c.args.name (map source.param_view c.args.params.now) (option_map source.body_view c.args.body.now) (context_view c.args.context.now))
    c.in_err-head.ensures.memory c.from_residual-in_err-head.ensures.1

pub returns-in_err-types : goal.returns-in_err-types
returns-in_err-types c = λ names j is g.
    memory_passes (each func_view) c.from_residual-in_err-types.result c.in_err-types.field-0.0 c.found_head.new.context (judged_function names j c.args.pointers.now c.args.name (map source.param_view c.args.params.now) (option_map source.body_view c.args.body.now) (context_view c.args.context.now))
    c.in_err-types.ensures.memory c.from_residual-in_err-types.ensures.1

pub returns-in_err-declared : goal.returns-in_err-declared
returns-in_err-declared c = λ names j is g.
    memory_passes (each func_view) c.from_residual-in_err-declared.result c.in_err-declared.field-0.0 c.found_head.new.context (judged_function names j c.args.pointers.now c.args.name (map source.param_view c.args.params.now) (option_map source.body_view c.args.body.now) (context_view c.args.context.now))
    c.in_err-declared.ensures.memory c.from_residual-in_err-declared.ensures.1

pub returns-in_err-declare_function : goal.returns-in_err-declare_function
returns-in_err-declare_function c = λ names j is g.
    memory_passes (each func_view) c.from_residual-in_err-declare_function.result c.in_err-declare_function.field-0.0 c.declare_function.new.context (judged_function names j c.args.pointers.now c.args.name (map source.param_view c.args.params.now) (option_map source.body_view c.args.body.now) (context_view c.args.context.now))
    c.in_err-declare_function.ensures.memory c.from_residual-in_err-declare_function.ensures.1

pub returns-in_err-funcs : goal.returns-in_err-funcs
returns-in_err-funcs c = λ names j is g.
    let params = map source.param_view c.args.params.now in
    let body = option_map source.body_view c.args.body.now in
    let d = context_view c.args.context.now in
    let returned = result_of c.args.name.from j c.args.pointers.now in
    let told = function_told names j c.args.pointers.now c.args.name params body d c.in_ok-head.head c.found_head.new.context c.declare_function.new.context c.body_within-funcs.new.context c.in_ok-declared.declared c.in_ok-types.types.items c.in_ok-returned.returned c.head_fine-fine.result c.body_within-funcs.result
    c.in_ok-head.ensures.found (known_gives type_view c.result_of.result c.in_ok-returned.returned returned c.in_ok-returned.ensures (c.result_of.ensures j (c.again-base.ensures j g)))
    (λ i k x y. c.head_fine-fine.ensures names i k is x y) c.in_ok-types.ensures.types c.in_ok-declared.ensures.declared (c.in_ok-declare_function.ensures.after names is) c.body_within-funcs.ensures in
    let v : (Unit {0} × Unit {0}) × Vec CodeFunc Global → (Unit {0} × Unit {0}) × List Func = λ z. (z.0, each func_view z.1) in
    subst (λ z. Tells (each func_view) c.from_residual-in_err-funcs.result c.body_within-funcs.new.context z) (sym (function_is names j c.args.pointers.now c.args.name params body d))
    (err_finish v (each func_view) (λ (p : (Unit {0} × Unit {0}) × List Func). typed p.1) (function_parts names j c.args.pointers.now c.args.name params body d) c.body_within-funcs.new.context (joined c.head_fine-fine.result c.body_within-funcs.result) c.both.result c.in_err-funcs.field-0.0 c.from_residual-in_err-funcs.result
    told c.both.ensures c.in_err-funcs.was c.from_residual-in_err-funcs.ensures.1)

pub returns : goal.returns
returns c = λ names j is g.
    let params = map source.param_view c.args.params.now in
    let body = option_map source.body_view c.args.body.now in
    let d = context_view c.args.context.now in
    let returned = result_of c.args.name.from j c.args.pointers.now in
    let told = function_told names j c.args.pointers.now c.args.name params body d c.in_ok-head.head c.found_head.new.context c.declare_function.new.context c.body_within-funcs.new.context c.in_ok-declared.declared c.in_ok-types.types.items c.in_ok-returned.returned c.head_fine-fine.result c.body_within-funcs.result
    c.in_ok-head.ensures.found (known_gives type_view c.result_of.result c.in_ok-returned.returned returned c.in_ok-returned.ensures (c.result_of.ensures j (c.again-base.ensures j g)))
    (λ i k x y. c.head_fine-fine.ensures names i k is x y) c.in_ok-types.ensures.types c.in_ok-declared.ensures.declared (c.in_ok-declare_function.ensures.after names is) c.body_within-funcs.ensures in
    let v : (Unit {0} × Unit {0}) × Vec CodeFunc Global → (Unit {0} × Unit {0}) × List Func = λ z. (z.0, each func_view z.1) in
    subst (λ z. Tells (each func_view) (Ok c.in_ok-funcs.funcs) c.body_within-funcs.new.context z) (sym (function_is names j c.args.pointers.now c.args.name params body d))
    (ok_finishes v (each func_view) (λ (p : (Unit {0} × Unit {0}) × List Func). typed p.1) (function_parts names j c.args.pointers.now c.args.name params body d) c.body_within-funcs.new.context (joined c.head_fine-fine.result c.body_within-funcs.result) (c.in_ok-funcs.field-0-0, c.in_ok-funcs.funcs) (Ok c.in_ok-funcs.funcs)
    told (sym c.both.ensures ∙ c.in_ok-funcs.was) refl)
