use Rattle.std.proofs.Common.{ap, refl, sym}
use Rattle.std.proofs.lemmas.Result.{IfOk-weaker}
use Rattle.c_tree.specs.TypedViews.{type_view}
use Rattle.c_meaning.specs.Control as control
use Rattle.c_meaning.specs.Turns.{run, read_way, only_way, second_way, first_way, second_test_way, first_test_way, choice_way}
use Rattle.source_tree.specs.SharedViews.{expr_of}
use Rattle.source_state.specs.Operations.{unary_of, binary_of}
use Rattle.source_state.specs.Views.{use_of, todo_of, updating_of}
use Rattle.source_statements.proofs.Resuming.{flow_ended, flow_given, read_continues, gives_at, give_flow, give_caller, give_stores, give_copies, give_reads, give_updates, give_nowhere}
use Rattle.source_statements.proofs.uses.+uses.Goals as goal

pub pass-returns-in-Ends-clause-comes : goal.pass-returns-in-Ends-clause-comes
pass-returns-in-Ends-clause-comes t c =
    flow_ended c.args.program.now c.args.function _ _ _ _ _ c.in-Ends.is

pub pass-returns-in-Gives-clause-comes : goal.pass-returns-in-Gives-clause-comes
pass-returns-in-Gives-clause-comes t c =
    IfOk-weaker c.give.result _ _ (λ q g. flow_given c.args.program.now c.args.function _ _ _ _ _ _ _ _ q c.in-Gives.is (ap use_of c.deref.ensures) g) c.give.ensures.comes

-- ---- the value of an expression within another

pub pass_second-returns-clause-comes : goal.pass_second-returns-clause-comes
pass_second-returns-clause-comes t c =
    let rest = use_of c.args.k.now.value in
    IfOk-weaker c.pass.result _ _
    (λ q f. give_flow (λ h. second_way c.args.place (binary_of c.args.op) c.args.left) c.args.program.now c.args.function (control.second_of c.args.place (binary_of c.args.op) c.args.left rest) (control.second_of c.args.place (binary_of c.args.op) c.args.left rest) rest c.args.v _ _ _ _ _ q
    refl (λ h. refl) (c.in_ok-flow.ensures _ _ _) f)
    c.pass.ensures.comes

pub pass_only-returns-clause-comes : goal.pass_only-returns-clause-comes
pass_only-returns-clause-comes t c =
    let rest = use_of c.args.k.now.value in
    IfOk-weaker c.pass.result _ _
    (λ q f. give_flow (λ h. only_way c.args.place (unary_of c.args.op.now.value)) c.args.program.now c.args.function (control.only_of c.args.place (unary_of c.args.op.now.value) rest) (control.only_of c.args.place (unary_of c.args.op.now.value) rest) rest c.args.v _ _ _ _ _ q
    refl (λ h. refl) (c.only_given-flow.ensures _ _ _) f)
    c.pass.ensures.comes

pub pass_read-returns-clause-comes : goal.pass_read-returns-clause-comes
pass_read-returns-clause-comes t c =
    let rest = use_of c.args.k.now.value in
    IfOk-weaker c.pass.result _ _
    (λ q f. give_flow (λ h. read_way h c.args.site.place c.args.how c.args.site.atomic) c.args.program.now c.args.function (control.place_read c.args.site.place c.args.how c.args.site.atomic rest) (control.place_read c.args.site.place c.args.how c.args.site.atomic rest) rest c.args.v _ _ _ _ _ q
    refl (λ h. refl) (read_continues _ _ _ _ _ _ _ _ _ c.in_ok-flow.ensures) f)
    c.pass.ensures.comes

pub pass_second_test-returns-clause-comes : goal.pass_second_test-returns-clause-comes
pass_second_test-returns-clause-comes t c =
    let rest = use_of c.args.k.now.value in
    IfOk-weaker c.pass.result _ _
    (λ q f. give_flow (λ h. second_test_way c.args.place) c.args.program.now c.args.function (control.second_test c.args.place rest) (control.second_test c.args.place rest) rest c.args.v _ _ _ _ _ q
    refl (λ h. refl) (c.second_tested-flow.ensures _ _ _) f)
    c.pass.ensures.comes

pub pass_first-returns-clause-comes : goal.pass_first-returns-clause-comes
pass_first-returns-clause-comes t c =
    let rest = use_of c.args.k.now.value in
    IfOk-weaker c.pass.result _ _
    (λ q f. give_flow (λ h. first_way c.args.place (binary_of c.args.op) (expr_of c.args.right.now.value) (run h (expr_of c.args.right.now.value))) c.args.program.now c.args.function (control.first_of c.args.place (binary_of c.args.op) (expr_of c.args.right.now.value) rest) (control.first_of c.args.place (binary_of c.args.op) (expr_of c.args.right.now.value) rest) rest c.args.v _ _ _ _ _ q
    refl (λ h. refl) c.in_ok-flow.ensures f)
    c.pass.ensures.comes

pub pass_first_test-returns-clause-comes : goal.pass_first_test-returns-clause-comes
pass_first_test-returns-clause-comes t c =
    let rest = use_of c.args.k.now.value in
    IfOk-weaker c.pass.result _ _
    (λ q f. give_flow (λ h. first_test_way c.args.place c.args.decides (expr_of c.args.right.now.value) (run h (expr_of c.args.right.now.value))) c.args.program.now c.args.function (control.first_test c.args.place c.args.decides (expr_of c.args.right.now.value) rest) (control.first_test c.args.place c.args.decides (expr_of c.args.right.now.value) rest) rest c.args.v _ _ _ _ _ q
    refl (λ h. refl) c.in_ok-flow.ensures f)
    c.pass.ensures.comes

pub pass_choice-returns-clause-comes : goal.pass_choice-returns-clause-comes
pass_choice-returns-clause-comes t c =
    let rest = use_of c.args.k.now.value in
    IfOk-weaker c.pass.result _ _
    (λ q f. give_flow (λ h. choice_way c.args.place (expr_of c.args.one.now.value) (expr_of c.args.other.now.value) (run h (expr_of c.args.one.now.value)) (run h (expr_of c.args.other.now.value))) c.args.program.now c.args.function (control.choice c.args.place (expr_of c.args.one.now.value) (expr_of c.args.other.now.value) rest) (control.choice c.args.place (expr_of c.args.one.now.value) (expr_of c.args.other.now.value) rest) rest c.args.v _ _ _ _ _ q
    refl (λ h. refl) c.in_ok-flow.ensures f)
    c.pass.ensures.comes

-- ---- by their forms

pub give-returns-in-FirstOf-clause-comes : goal.give-returns-in-FirstOf-clause-comes
give-returns-in-FirstOf-clause-comes t c =
    IfOk-weaker c.pass_first.result _ _ (λ q g. gives_at c.args.program.now c.args.function _ (use_of c.args.k.now) c.args.v _ _ _ _ q (sym (ap use_of c.in-FirstOf.is)) g) c.pass_first.ensures.comes

pub give-returns-in-FirstTest-clause-comes : goal.give-returns-in-FirstTest-clause-comes
give-returns-in-FirstTest-clause-comes t c =
    IfOk-weaker c.pass_first_test.result _ _ (λ q g. gives_at c.args.program.now c.args.function _ (use_of c.args.k.now) c.args.v _ _ _ _ q (sym (ap use_of c.in-FirstTest.is)) g) c.pass_first_test.ensures.comes

pub give-returns-in-Choice-clause-comes : goal.give-returns-in-Choice-clause-comes
give-returns-in-Choice-clause-comes t c =
    IfOk-weaker c.pass_choice.result _ _ (λ q g. gives_at c.args.program.now c.args.function _ (use_of c.args.k.now) c.args.v _ _ _ _ q (sym (ap use_of c.in-Choice.is)) g) c.pass_choice.ensures.comes

pub give-returns-in-SecondOf-clause-comes : goal.give-returns-in-SecondOf-clause-comes
give-returns-in-SecondOf-clause-comes t c =
    IfOk-weaker c.pass_second.result _ _ (λ q g. gives_at c.args.program.now c.args.function _ (use_of c.args.k.now) c.args.v _ _ _ _ q (sym (ap use_of c.in-SecondOf.is)) g) c.pass_second.ensures.comes

pub give-returns-in-OnlyOf-clause-comes : goal.give-returns-in-OnlyOf-clause-comes
give-returns-in-OnlyOf-clause-comes t c =
    IfOk-weaker c.pass_only.result _ _ (λ q g. gives_at c.args.program.now c.args.function _ (use_of c.args.k.now) c.args.v _ _ _ _ q (sym (ap use_of c.in-OnlyOf.is)) g) c.pass_only.ensures.comes

pub give-returns-in-PlaceRead-clause-comes : goal.give-returns-in-PlaceRead-clause-comes
give-returns-in-PlaceRead-clause-comes t c =
    IfOk-weaker c.pass_read.result _ _ (λ q g. gives_at c.args.program.now c.args.function _ (use_of c.args.k.now) c.args.v _ _ _ _ q (sym (ap use_of c.in-PlaceRead.is)) g) c.pass_read.ensures.comes

pub give-returns-in-SecondTest-clause-comes : goal.give-returns-in-SecondTest-clause-comes
give-returns-in-SecondTest-clause-comes t c =
    IfOk-weaker c.pass_second_test.result _ _ (λ q g. gives_at c.args.program.now c.args.function _ (use_of c.args.k.now) c.args.v _ _ _ _ q (sym (ap use_of c.in-SecondTest.is)) g) c.pass_second_test.ensures.comes

pub give-returns-in-Argument-clause-comes : goal.give-returns-in-Argument-clause-comes
give-returns-in-Argument-clause-comes t c =
    IfOk-weaker c.call_wanted.result _ _ (λ q g. gives_at c.args.program.now c.args.function _ (use_of c.args.k.now) c.args.v _ _ _ _ q (sym (ap use_of c.in-Argument.is)) (g c.args.function)) c.call_wanted.ensures

pub give-returns-in-DroppedArgument-clause-comes : goal.give-returns-in-DroppedArgument-clause-comes
give-returns-in-DroppedArgument-clause-comes t c =
    IfOk-weaker c.call_dropping.result _ _ (λ q g. gives_at c.args.program.now c.args.function _ (use_of c.args.k.now) c.args.v _ _ _ _ q (sym (ap use_of c.in-DroppedArgument.is)) (g c.args.function)) c.call_dropping.ensures

pub give-returns-in-LeftPlace-clause-comes : goal.give-returns-in-LeftPlace-clause-comes
give-returns-in-LeftPlace-clause-comes t c =
    IfOk-weaker c.finish_place.result _ _ (λ q g. gives_at c.args.program.now c.args.function _ (use_of c.args.k.now) c.args.v _ _ _ _ q (sym (ap use_of c.in-LeftPlace.is)) g) c.finish_place.ensures.comes

pub give-returns-in-StructLeft-clause-comes : goal.give-returns-in-StructLeft-clause-comes
give-returns-in-StructLeft-clause-comes t c =
    IfOk-weaker c.finish_struct.result _ _ (λ q g. gives_at c.args.program.now c.args.function _ (use_of c.args.k.now) c.args.v _ _ _ _ q (sym (ap use_of c.in-StructLeft.is)) g) c.finish_struct.ensures.comes

pub give-returns-in-UpdateLeft-clause-comes : goal.give-returns-in-UpdateLeft-clause-comes
give-returns-in-UpdateLeft-clause-comes t c =
    IfOk-weaker c.finish_left.result _ _ (λ q g. gives_at c.args.program.now c.args.function _ (use_of c.args.k.now) c.args.v _ _ _ _ q (sym (ap use_of c.in-UpdateLeft.is)) g) c.finish_left.ensures.comes

pub give-returns-in-UpdateLocal-clause-comes : goal.give-returns-in-UpdateLocal-clause-comes
give-returns-in-UpdateLocal-clause-comes t c =
    IfOk-weaker c.finish_variable.result _ _ (λ q g. gives_at c.args.program.now c.args.function _ (use_of c.args.k.now) c.args.v _ _ _ _ q (sym (ap use_of c.in-UpdateLocal.is)) g) c.finish_variable.ensures.comes

pub give-returns-in-IfTest-clause-comes : goal.give-returns-in-IfTest-clause-comes
give-returns-in-IfTest-clause-comes t c =
    IfOk-weaker c.finish_if.result _ _ (λ q g. gives_at c.args.program.now c.args.function _ (use_of c.args.k.now) c.args.v _ _ _ _ q (sym (ap use_of c.in-IfTest.is)) g) c.finish_if.ensures.comes

pub give-returns-in-LoopTest-clause-comes : goal.give-returns-in-LoopTest-clause-comes
give-returns-in-LoopTest-clause-comes t c =
    IfOk-weaker c.finish_round.result _ _ (λ q g. gives_at c.args.program.now c.args.function _ (use_of c.args.k.now) c.args.v _ _ _ _ q (sym (ap use_of c.in-LoopTest.is)) g) c.finish_round.ensures.comes

pub give-returns-in-SwitchTest-clause-comes : goal.give-returns-in-SwitchTest-clause-comes
give-returns-in-SwitchTest-clause-comes t c =
    IfOk-weaker c.finish_switch.result _ _ (λ q g. gives_at c.args.program.now c.args.function _ (use_of c.args.k.now) c.args.v _ _ _ _ q (sym (ap use_of c.in-SwitchTest.is)) g) c.finish_switch.ensures.comes

pub give-returns-in-ToCaller-clause-comes : goal.give-returns-in-ToCaller-clause-comes
give-returns-in-ToCaller-clause-comes t c =
    give_caller c.args.program.now c.args.function (use_of c.args.k.now) _ _ _ (ap use_of c.in-ToCaller.is)

pub give-returns-in-ToPlace-clause-comes : goal.give-returns-in-ToPlace-clause-comes
give-returns-in-ToPlace-clause-comes t c =
    IfOk-weaker c.store_value.result _ _ (λ q s. give_stores c.args.program.now c.args.function c.in-ToPlace.site.place c.in-ToPlace.site.atomic c.in-ToPlace.to (use_of c.args.k.now) (todo_of c.in-ToPlace.k.value) c.args.v _ _ q (ap use_of c.in-ToPlace.is) s) c.store_value.ensures

pub give-returns-in-StructRight-clause-comes : goal.give-returns-in-StructRight-clause-comes
give-returns-in-StructRight-clause-comes t c =
    IfOk-weaker c.copy_struct.result _ _ (λ q s. give_copies c.args.program.now c.args.function c.in-StructRight.place _ (type_view c.in-StructRight.ty.value) c.in-StructRight.to (use_of c.args.k.now) (todo_of c.in-StructRight.k.value) c.args.v _ _ q (ap use_of c.in-StructRight.is) (ap type_view c.deref.ensures) s) c.copy_struct.ensures

pub give-returns-in-UpdateRight-clause-comes : goal.give-returns-in-UpdateRight-clause-comes
give-returns-in-UpdateRight-clause-comes t c =
    IfOk-weaker c.update_right.result _ _ (λ q s. give_reads c.args.program.now c.args.function (updating_of c.in-UpdateRight.u.value) c.in-UpdateRight.at (use_of c.args.k.now) (todo_of c.in-UpdateRight.k.value) c.args.v _ _ q (ap use_of c.in-UpdateRight.is) s) c.update_right.ensures

pub give-returns-in-UpdateRead-clause-comes : goal.give-returns-in-UpdateRead-clause-comes
give-returns-in-UpdateRead-clause-comes t c =
    IfOk-weaker c.update_read.result _ _ (λ q s. give_updates c.args.program.now c.args.function _ (updating_of c.in-UpdateRead.u.value) c.in-UpdateRead.at c.in-UpdateRead.by (use_of c.args.k.now) (todo_of c.in-UpdateRead.k.value) c.args.v _ _ q (ap use_of c.in-UpdateRead.is) (ap updating_of c.deref-in-UpdateRead.ensures) s) c.update_read.ensures

pub give-returns-in-ToNowhere-clause-comes : goal.give-returns-in-ToNowhere-clause-comes
give-returns-in-ToNowhere-clause-comes t c =
    IfOk-weaker c.complete.result _ _ (λ q f. give_nowhere c.args.program.now c.args.function (use_of c.args.k.now) (todo_of c.in-ToNowhere.k.value) c.args.v _ _ _ _ q (ap use_of c.in-ToNowhere.is) f) c.complete.ensures.comes

pub give-returns-in-ToLocal-clause-comes : goal.give-returns-in-ToLocal-clause-comes
give-returns-in-ToLocal-clause-comes t c =
    IfOk-weaker c.finish_local.result _ _ (λ q g. gives_at c.args.program.now c.args.function _ (use_of c.args.k.now) c.args.v _ _ _ _ q (sym (ap use_of c.in-ToLocal.is)) g) c.finish_local.ensures.comes
