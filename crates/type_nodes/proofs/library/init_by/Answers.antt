use Rattle.std.proofs.Common.{◌≡◌, [], ◌∷◌, length, subst, arith}
use Rattle.std.proofs.lemmas.Result.{err_from_is_err_and}
use Rattle.ak_words.specs.IntType.{int}
use Rattle.c_tree.specs.Typed.{integer, mutex, pointer, mutex_init}
use Rattle.c_tree.specs.TypedViews.{expr_view, boxed_expr_view}
use Rattle.c_typing.specs.Faults.{Gives}
use Rattle.c_typing.specs.Judgement.{called_lib, plain_kind}
use Rattle.type_rules.specs.ListViews.{exprs_view}
use Rattle.type_context.proofs.Judging.{fault_gives}
use Rattle.type_nodes.proofs.Mutexes.{init_fails, init_called}
use Rattle.type_nodes.proofs.library.init_by.Goals as goal

pub returns-in_err-call : goal.returns-in_err-call
returns-in_err-call c =
    let two : length c.args.args.items ≡ 2 = omega (arith, c.len.ensures, c.if-len-ne2.false, c.args.args.ok) in
    let call = called_lib c.args.place mutex_init (pointer mutex ∷ []) (integer int) (exprs_view c.pop.new.self) in
    let of_call : Gives boxed_expr_view c.on_mutex-call.result call =
    subst (λ t. Gives boxed_expr_view c.on_mutex-call.result (called_lib c.args.place mutex_init (pointer mutex ∷ []) (integer t) (exprs_view c.pop.new.self)))
    c.int.ensures c.on_mutex-call.ensures in
    let p = err_from_is_err_and c.from_residual.result c.from_residual.ensures.1 in
    rw (p.1, p.2) (init_fails c.args.place c.args.args.items c.pop.new.self.items c.in-Some.kind c.in_err-call.field-0.0 c.in-Some.ensures.items two
    (c.in_err-call.ensures call (plain_kind (expr_view c.in-Some.kind)) of_call (fault_gives (λ (u : Unit {0}). tt) c.plain_kind.result c.as_fault-plain.result (plain_kind (expr_view c.in-Some.kind)) c.as_fault-plain.ensures c.plain_kind.ensures)))

pub returns : goal.returns
returns c =
    let two : length c.args.args.items ≡ 2 = omega (arith, c.len.ensures, c.if-len-ne2.false, c.args.args.ok) in
    let call = called_lib c.args.place mutex_init (pointer mutex ∷ []) (integer int) (exprs_view c.pop.new.self) in
    let of_call : Gives boxed_expr_view c.on_mutex-call.result call =
    subst (λ t. Gives boxed_expr_view c.on_mutex-call.result (called_lib c.args.place mutex_init (pointer mutex ∷ []) (integer t) (exprs_view c.pop.new.self)))
    c.int.ensures c.on_mutex-call.ensures in
    init_called c.args.place c.args.args.items c.pop.new.self.items c.in-Some.kind (boxed_expr_view c.in_ok-call.call) c.in-Some.ensures.items two
    (c.in_ok-call.ensures call (plain_kind (expr_view c.in-Some.kind)) of_call (fault_gives (λ (u : Unit {0}). tt) c.plain_kind.result c.as_fault-plain.result (plain_kind (expr_view c.in-Some.kind)) c.as_fault-plain.ensures c.plain_kind.ensures))
