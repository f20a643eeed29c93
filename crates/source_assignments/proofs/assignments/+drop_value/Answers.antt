use Rattle.std.proofs.Common.{arith, rules}
use Rattle.std.proofs.lemmas.Result.{IfOk-weaker}
use Rattle.c_tree.specs.TypedViews.{type_view}
use Rattle.source_tree.specs.SharedViews.{node_of, expr_of}
use Rattle.source_assignments.proofs.Dropped.{kind_forms}
use Rattle.source_assignments.proofs.Tails.{value_dropped, object_dropped, void_dropped}
use Rattle.source_assignments.proofs.assignments.+drop_value.Goals as goal

pub returns-then-voids : goal.returns-then-voids
returns-then-voids t c =
    IfOk-weaker c.drop_value.result _ _ (λ g e. λ function. void_dropped _ function c.args.e.now.place (type_view c.args.e.now.ty.value) (node_of c.args.e.now.node) c.in-One.form (expr_of c.in-One.a.value) (expr_of c.deref-then-voids.result.now) _ _ _ _ (e function) (search rules) (search rules) (search rules))
    c.drop_value.ensures

pub returns-else-voids : goal.returns-else-voids
returns-else-voids t c =
    IfOk-weaker c.drop_plain.result _ _ (λ g e. λ function. value_dropped _ function c.args.e.now.place (type_view c.args.e.now.ty.value) (node_of c.args.e.now.node) _ _ _ _ (grind (arith, kind_forms)) (e function))
    c.drop_plain.ensures

pub returns-in-Literal : goal.returns-in-Literal
returns-in-Literal t c =
    IfOk-weaker c.drop_object.result _ _ (λ g e. λ function. object_dropped _ function c.args.e.now.place (type_view c.args.e.now.ty.value) (node_of c.args.e.now.node) _ _ _ _ (search rules) (e function))
    c.drop_object.ensures

pub returns-in-Global : goal.returns-in-Global
returns-in-Global t c =
    IfOk-weaker c.drop_object-in-Global.result _ _ (λ g e. λ function. object_dropped _ function c.args.e.now.place (type_view c.args.e.now.ty.value) (node_of c.args.e.now.node) _ _ _ _ (search rules) (e function))
    c.drop_object-in-Global.ensures

pub returns-in-Local : goal.returns-in-Local
returns-in-Local t c =
    IfOk-weaker c.drop_object-in-Local.result _ _ (λ g e. λ function. object_dropped _ function c.args.e.now.place (type_view c.args.e.now.ty.value) (node_of c.args.e.now.node) _ _ _ _ (search rules) (e function))
    c.drop_object-in-Local.ensures

pub returns-in-Deref : goal.returns-in-Deref
returns-in-Deref t c =
    IfOk-weaker c.drop_object-in-Deref.result _ _ (λ g e. λ function. object_dropped _ function c.args.e.now.place (type_view c.args.e.now.ty.value) (node_of c.args.e.now.node) _ _ _ _ (search rules) (e function))
    c.drop_object-in-Deref.ensures

pub returns-in-Member : goal.returns-in-Member
returns-in-Member t c =
    IfOk-weaker c.drop_object-in-Member.result _ _ (λ g e. λ function. object_dropped _ function c.args.e.now.place (type_view c.args.e.now.ty.value) (node_of c.args.e.now.node) _ _ _ _ (search rules) (e function))
    c.drop_object-in-Member.ensures

pub returns-in-Num : goal.returns-in-Num
returns-in-Num t c =
    IfOk-weaker c.drop_plain-in-Num.result _ _ (λ g e. λ function. value_dropped _ function c.args.e.now.place (type_view c.args.e.now.ty.value) (node_of c.args.e.now.node) _ _ _ _ (search rules) (e function))
    c.drop_plain-in-Num.ensures

pub returns-in-Null : goal.returns-in-Null
returns-in-Null t c =
    IfOk-weaker c.drop_plain-in-Null.result _ _ (λ g e. λ function. value_dropped _ function c.args.e.now.place (type_view c.args.e.now.ty.value) (node_of c.args.e.now.node) _ _ _ _ (search rules) (e function))
    c.drop_plain-in-Null.ensures

pub returns-in-Address : goal.returns-in-Address
returns-in-Address t c =
    IfOk-weaker c.drop_plain-in-Address.result _ _ (λ g e. λ function. value_dropped _ function c.args.e.now.place (type_view c.args.e.now.ty.value) (node_of c.args.e.now.node) _ _ _ _ (grind (arith, kind_forms)) (e function))
    c.drop_plain-in-Address.ensures

pub returns-in-Two : goal.returns-in-Two
returns-in-Two t c =
    IfOk-weaker c.drop_plain-in-Two.result _ _ (λ g e. λ function. value_dropped _ function c.args.e.now.place (type_view c.args.e.now.ty.value) (node_of c.args.e.now.node) _ _ _ _ (grind (arith, kind_forms)) (e function))
    c.drop_plain-in-Two.ensures

pub returns-in-Either : goal.returns-in-Either
returns-in-Either t c =
    IfOk-weaker c.drop_plain-in-Either.result _ _ (λ g e. λ function. value_dropped _ function c.args.e.now.place (type_view c.args.e.now.ty.value) (node_of c.args.e.now.node) _ _ _ _ (grind (arith, kind_forms)) (e function))
    c.drop_plain-in-Either.ensures

pub returns-in-Choose : goal.returns-in-Choose
returns-in-Choose t c =
    IfOk-weaker c.drop_plain-in-Choose.result _ _ (λ g e. λ function. value_dropped _ function c.args.e.now.place (type_view c.args.e.now.ty.value) (node_of c.args.e.now.node) _ _ _ _ (search rules) (e function))
    c.drop_plain-in-Choose.ensures
