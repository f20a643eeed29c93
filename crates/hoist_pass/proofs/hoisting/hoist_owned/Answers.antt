use Rattle.std.proofs.Common.{sym, ap, subst, ◌∙◌, ◌≡◌, true}
use Rattle.std.proofs.lemmas.Result.{IfOk-weaker}
use Rattle.struct_ir.specs.Nodes.{Ir}
use Rattle.struct_ir.specs.Erased.{ir_erased}
use Rattle.struct_ir.specs.Valid.{is_valid}
use Rattle.struct_ir.specs.WholeViews.{ir_view}
use Rattle.struct_ir.specs.Safe.{EveryFunc}
use Rattle.pin_flow.specs.Funcs.{IsCovered, IsHoisted, IsHoistedThroughout}
use Rattle.pin_flow.specs.Slots.{HasOwnSlots}
use Rattle.hoist_pass.specs.inner.Hoist.{ir_hoisted}
use Rattle.hoist_pass.proofs.Programs.{every_is, func_covered, func_slots, func_is_hoisted, func_throughout, whole_valid, whole_erased}
use Rattle.hoist_pass.proofs.hoisting.hoist_owned.Goals as goal

pub returns-clause-valid : goal.returns-clause-valid
returns-clause-valid c =
    let ir = ir_view c.args.ir in
    IfOk-weaker c.hoist_all.result (λ x. ir_view x ≡ ir_hoisted ir) (λ x. is_valid (ir_view x) ≡ true) (λ x e. ap is_valid e ∙ whole_valid ir c.requires.slots c.requires.valid) c.hoist_all.ensures

pub returns-clause-erased : goal.returns-clause-erased
returns-clause-erased c =
    let ir = ir_view c.args.ir in
    IfOk-weaker c.hoist_all.result (λ x. ir_view x ≡ ir_hoisted ir) (λ x. ir_erased (ir_view x) ≡ ir_erased ir) (λ x e. ap ir_erased e ∙ whole_erased ir) c.hoist_all.ensures

pub returns-clause-covered : goal.returns-clause-covered
returns-clause-covered c =
    let ir = ir_view c.args.ir in
    let all : EveryFunc IsCovered (ir_hoisted ir) = every_is HasOwnSlots IsCovered IsCovered func_covered ir c.requires.slots c.requires.covered in
    IfOk-weaker c.hoist_all.result (λ x. ir_view x ≡ ir_hoisted ir) (λ x. EveryFunc IsCovered (ir_view x)) (λ x e. subst (λ (y : Ir). EveryFunc IsCovered y) (sym e) all) c.hoist_all.ensures

pub returns-clause-slots : goal.returns-clause-slots
returns-clause-slots c =
    let ir = ir_view c.args.ir in
    let all : EveryFunc HasOwnSlots (ir_hoisted ir) = every_is HasOwnSlots IsCovered HasOwnSlots (λ f s k. func_slots f s) ir c.requires.slots c.requires.covered in
    IfOk-weaker c.hoist_all.result (λ x. ir_view x ≡ ir_hoisted ir) (λ x. EveryFunc HasOwnSlots (ir_view x)) (λ x e. subst (λ (y : Ir). EveryFunc HasOwnSlots y) (sym e) all) c.hoist_all.ensures

pub returns-clause-hoisted : goal.returns-clause-hoisted
returns-clause-hoisted c =
    let ir = ir_view c.args.ir in
    let all : EveryFunc IsHoisted (ir_hoisted ir) = every_is HasOwnSlots IsCovered IsHoisted (λ f s k. func_is_hoisted f s) ir c.requires.slots c.requires.covered in
    IfOk-weaker c.hoist_all.result (λ x. ir_view x ≡ ir_hoisted ir) (λ x. EveryFunc IsHoisted (ir_view x)) (λ x e. subst (λ (y : Ir). EveryFunc IsHoisted y) (sym e) all) c.hoist_all.ensures

pub returns-clause-throughout : goal.returns-clause-throughout
returns-clause-throughout c =
    let ir = ir_view c.args.ir in
    let all : EveryFunc IsHoistedThroughout (ir_hoisted ir) = every_is HasOwnSlots IsCovered IsHoistedThroughout (λ f s k. func_throughout f s) ir c.requires.slots c.requires.covered in
    IfOk-weaker c.hoist_all.result (λ x. ir_view x ≡ ir_hoisted ir) (λ x. EveryFunc IsHoistedThroughout (ir_view x)) (λ x e. subst (λ (y : Ir). EveryFunc IsHoistedThroughout y) (sym e) all) c.hoist_all.ensures
