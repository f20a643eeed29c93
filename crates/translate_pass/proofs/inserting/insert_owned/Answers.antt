use Rattle.std.proofs.Common.{◌≡◌, true, sym, ap, subst, ◌∙◌}
use Rattle.std.proofs.lemmas.Result.{IfOk-weaker}
use Rattle.struct_ir.specs.Nodes.{Ir}
use Rattle.struct_ir.specs.Erased.{ir_erased}
use Rattle.struct_ir.specs.Valid.{is_valid}
use Rattle.struct_ir.specs.WholeViews.{ir_view}
use Rattle.struct_ir.specs.Safe.{EveryFunc}
use Rattle.pin_flow.specs.Funcs.{IsCovered}
use Rattle.pin_flow.specs.Slots.{HasOwnSlots}
use Rattle.translate_pass.specs.inner.Insert.{ir_inserted}
use Rattle.translate_pass.proofs.Programs.{every_is, func_covered, func_slots, whole_valid, whole_erased}
use Rattle.translate_pass.proofs.inserting.insert_owned.Goals as goal

pub returns-clause-valid : goal.returns-clause-valid
returns-clause-valid c =
    let ir = ir_view c.args.ir in
    IfOk-weaker c.insert_all.result (λ x. ir_view x ≡ ir_inserted ir) (λ x. is_valid (ir_view x) ≡ true) (λ x e. ap is_valid e ∙ whole_valid ir c.requires.valid c.requires.bare) c.insert_all.ensures

pub returns-clause-erased : goal.returns-clause-erased
returns-clause-erased c =
    let ir = ir_view c.args.ir in
    IfOk-weaker c.insert_all.result (λ x. ir_view x ≡ ir_inserted ir) (λ x. ir_erased (ir_view x) ≡ ir) (λ x e. ap ir_erased e ∙ (whole_erased ir ∙ c.requires.bare)) c.insert_all.ensures

pub returns-clause-covered : goal.returns-clause-covered
returns-clause-covered c =
    let ir = ir_view c.args.ir in
    let all : EveryFunc IsCovered (ir_inserted ir) = every_is IsCovered ir (func_covered ir) c.requires.valid c.requires.bare in
    IfOk-weaker c.insert_all.result (λ x. ir_view x ≡ ir_inserted ir) (λ x. EveryFunc IsCovered (ir_view x)) (λ x e. subst (λ (y : Ir). EveryFunc IsCovered y) (sym e) all) c.insert_all.ensures

pub returns-clause-slots : goal.returns-clause-slots
returns-clause-slots c =
    let ir = ir_view c.args.ir in
    let all : EveryFunc HasOwnSlots (ir_inserted ir) = every_is HasOwnSlots ir (func_slots ir) c.requires.valid c.requires.bare in
    IfOk-weaker c.insert_all.result (λ x. ir_view x ≡ ir_inserted ir) (λ x. EveryFunc HasOwnSlots (ir_view x)) (λ x e. subst (λ (y : Ir). EveryFunc HasOwnSlots y) (sym e) all) c.insert_all.ensures
