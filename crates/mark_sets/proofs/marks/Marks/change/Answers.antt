use Rattle.std.proofs.Common.{◌==◌, false, sym, ap, ◌∙◌}
use Rattle.std.proofs.lemmas.Result.{on_ok_weaker}
use Rattle.struct_ir.specs.declared.code.CallNode.{CallNode}
use Rattle.struct_ir.specs.declared.code.StepNode.{StepNode}
use Rattle.struct_ir.specs.Views.{kind_view, node_view}
use Rattle.pin_flow.specs.Looks.{is_to}
use Rattle.pin_flow.specs.Views.{looks_at, assigns_at}
use Rattle.mark_sets.specs.Words.{has}
use Rattle.mark_sets.proofs.Bits.{bit_behind, look_behind, assign_behind}
use Rattle.mark_sets.proofs.marks.Marks.change.Goals as goal

pub returns-in-Look : goal.returns-in-Look
returns-in-Look c = λ k i e.
    let old = has c.args.set.now.items i in
    let new = has c.look.new.set.items i in
    let b = c.in-Look.b in
    bit_behind c.args.self.now (node_view c.args.n.now) i old new (λ d. b == d) (λ d. false) (λ d. ap (λ y. looks_at d (kind_view c.args.n.now.place y)) c.in-Look.is) (λ d. ap (λ y. assigns_at d (kind_view c.args.n.now.place y)) c.in-Look.is)
    (λ d h. look_behind (b == d) old new (c.look.ensures d i h)) k e

pub returns-in-Set : goal.returns-in-Set
returns-in-Set c =
    let to = c.in-Set.to in
    on_ok_weaker c.assign.result
    (λ f k i e.
    let old = has c.args.set.now.items i in
    let new = has c.assign.new.set.items i in
    bit_behind c.args.self.now (node_view c.args.n.now) i old new (λ d. false) (λ d. d == to) (λ d. ap (λ y. looks_at d (kind_view c.args.n.now.place y)) c.in-Set.is) (λ d. ap (λ y. assigns_at d (kind_view c.args.n.now.place y)) c.in-Set.is)
    (λ d h. assign_behind (d == to) old new (f d i h)) k e)
    c.assign.ensures

pub returns-in-Call : goal.returns-in-Call
returns-in-Call c =
    let to = c.deref.result.now.to in
    on_ok_weaker c.assign_if.result
    (λ f k i e.
    let old = has c.args.set.now.items i in
    let new = has c.assign_if.new.set.items i in
    bit_behind c.args.self.now (node_view c.args.n.now) i old new (λ d. false) (λ d. is_to d to) (λ d. ap (λ y. looks_at d (kind_view c.args.n.now.place y)) c.in-Call.is) (λ d. ap (λ y. assigns_at d (kind_view c.args.n.now.place y)) c.in-Call.is ∙ ap (λ (k : CallNode). is_to d k.to) (sym c.deref.ensures))
    (λ d h. assign_behind (is_to d to) old new (f d i h)) k e)
    c.assign_if.ensures

pub returns-in-Step : goal.returns-in-Step
returns-in-Step c =
    let to = c.deref-in-Step.result.now.to in
    on_ok_weaker c.assign_if-in-Step.result
    (λ f k i e.
    let old = has c.args.set.now.items i in
    let new = has c.assign_if-in-Step.new.set.items i in
    bit_behind c.args.self.now (node_view c.args.n.now) i old new (λ d. false) (λ d. is_to d to) (λ d. ap (λ y. looks_at d (kind_view c.args.n.now.place y)) c.in-Step.is) (λ d. ap (λ y. assigns_at d (kind_view c.args.n.now.place y)) c.in-Step.is ∙ ap (λ (k : StepNode). is_to d k.to) (sym c.deref-in-Step.ensures))
    (λ d h. assign_behind (is_to d to) old new (f d i h)) k e)
    c.assign_if-in-Step.ensures
