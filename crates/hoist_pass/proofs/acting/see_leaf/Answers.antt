use Rattle.std.proofs.Common.{sym, ap, ◌∙◌}
use Rattle.std.proofs.lemmas.Result.{on_ok_weaker}
use Rattle.struct_ir.specs.declared.code.CallNode.{CallNode}
use Rattle.struct_ir.specs.declared.code.StepNode.{StepNode}
use Rattle.struct_ir.specs.Views.{kind_view}
use Rattle.pin_flow.specs.Looks.{is_to}
use Rattle.pin_flow.specs.Views.{looks_at, assigns_at}
use Rattle.hoist_pass.proofs.ByBit.{told_look, told_set}
use Rattle.hoist_pass.proofs.acting.see_leaf.Goals as goal

pub returns-in-Look-clause-looks : goal.returns-in-Look-clause-looks
returns-in-Look-clause-looks c =
    on_ok_weaker c.put.result (λ f b i e. told_look b c.in-Look.b _ _ _ (f b i e) (ap (λ y. looks_at b (kind_view c.args.n.now.place y)) c.in-Look.is)) c.put.ensures

pub returns-in-Set-clause-assigns : goal.returns-in-Set-clause-assigns
returns-in-Set-clause-assigns c =
    on_ok_weaker c.put-in-Set.result (λ f b i e. told_set _ _ _ _ (f b i e) (ap (λ y. assigns_at b (kind_view c.args.n.now.place y)) c.in-Set.is)) c.put-in-Set.ensures

pub returns-in-Call-clause-assigns : goal.returns-in-Call-clause-assigns
returns-in-Call-clause-assigns c =
    on_ok_weaker c.put_if.result (λ f b i e. told_set _ _ _ _ (f b i e) (ap (λ y. assigns_at b (kind_view c.args.n.now.place y)) c.in-Call.is ∙ ap (λ (k : CallNode). is_to b k.to) (sym c.deref.ensures))) c.put_if.ensures

pub returns-in-Step-clause-assigns : goal.returns-in-Step-clause-assigns
returns-in-Step-clause-assigns c =
    on_ok_weaker c.put_if-in-Step.result (λ f b i e. told_set _ _ _ _ (f b i e) (ap (λ y. assigns_at b (kind_view c.args.n.now.place y)) c.in-Step.is ∙ ap (λ (k : StepNode). is_to b k.to) (sym c.deref-in-Step.ensures))) c.put_if-in-Step.ensures
