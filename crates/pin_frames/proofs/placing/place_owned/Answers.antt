use Rattle.std.proofs.Common.{None, true, sym, ap, subst, ◌∙◌, ◌≡◌}
use Rattle.std.proofs.lemmas.Result.{IfOk-weaker}
use Rattle.std.specs.List.{list_all}
use Rattle.struct_ir.specs.Nodes.{Ir, Func}
use Rattle.struct_ir.specs.Erased.{ir_erased}
use Rattle.struct_ir.specs.Placed.{all_due}
use Rattle.struct_ir.specs.Valid.{is_valid, are_placed}
use Rattle.struct_ir.specs.WholeViews.{ir_view}
use Rattle.struct_ir.specs.Safe.{EveryFunc, IsPinSafe}
use Rattle.pin_flow.specs.Funcs.{IsCovered, IsExact, IsExactAtPoints, IsHoisted, IsHoistedAtPoints, IsHoistedThroughout}
use Rattle.pin_flow.specs.Slots.{HasOwnSlots}
use Rattle.pin_frames.specs.inner.Place.{ir_placed}
use Rattle.pin_frames.proofs.Programs.{IsNamed, every_is, every_both, every_named, every_stands, every_due, func_exact, func_exact_at_points, func_hoisted, func_hoisted_at_points, func_throughout, func_safe, func_slots, whole_erased, whole_valid}
use Rattle.pin_frames.proofs.placing.place_owned.Goals as goal

pub returns-clause-erased : goal.returns-clause-erased
returns-clause-erased c =
    let ir = ir_view c.args.ir in
    IfOk-weaker c.place_all.result (λ x. ir_view x ≡ ir_placed ir) (λ x. ir_erased (ir_view x) ≡ ir_erased ir) (λ x e. ap ir_erased e ∙ whole_erased ir) c.place_all.ensures

pub returns-clause-slots : goal.returns-clause-slots
returns-clause-slots c =
    let ir = ir_view c.args.ir in
    let all : EveryFunc HasOwnSlots (ir_placed ir) = every_is IsNamed HasOwnSlots HasOwnSlots func_slots ir (every_named ir c.requires.named) c.requires.slots in
    IfOk-weaker c.place_all.result (λ x. ir_view x ≡ ir_placed ir) (λ x. EveryFunc HasOwnSlots (ir_view x)) (λ x e. subst (λ (y : Ir). EveryFunc HasOwnSlots y) (sym e) all) c.place_all.ensures

pub returns-clause-stand : goal.returns-clause-stand
returns-clause-stand c =
    let ir = ir_view c.args.ir in
    IfOk-weaker c.place_all.result (λ x. ir_view x ≡ ir_placed ir) (λ x. list_all (λ f. are_placed None f.nodes) (ir_view x).funcs ≡ true)
    (λ x e. ap (λ (y : Ir). list_all (λ (f : Func). are_placed None f.nodes) y.funcs) e ∙ every_stands ir) c.place_all.ensures

pub returns-clause-due : goal.returns-clause-due
returns-clause-due c =
    let ir = ir_view c.args.ir in
    IfOk-weaker c.place_all.result (λ x. ir_view x ≡ ir_placed ir) (λ x. all_due (ir_view x) ≡ true) (λ x e. ap all_due e ∙ every_due ir) c.place_all.ensures

pub returns-clause-hoisted : goal.returns-clause-hoisted
returns-clause-hoisted c hoisted =
    let ir = ir_view c.args.ir in
    let all : EveryFunc IsHoisted (ir_placed ir) = every_is IsHoistedThroughout IsHoistedThroughout IsHoisted (λ f p q. func_hoisted f p) ir hoisted hoisted in
    IfOk-weaker c.place_all.result (λ x. ir_view x ≡ ir_placed ir) (λ x. EveryFunc IsHoisted (ir_view x)) (λ x e. subst (λ (y : Ir). EveryFunc IsHoisted y) (sym e) all) c.place_all.ensures

pub returns-clause-throughout : goal.returns-clause-throughout
returns-clause-throughout c hoisted =
    let ir = ir_view c.args.ir in
    let all : EveryFunc IsHoistedThroughout (ir_placed ir) = every_is IsHoistedThroughout IsHoistedThroughout IsHoistedThroughout (λ f p q. func_throughout f p) ir hoisted hoisted in
    IfOk-weaker c.place_all.result (λ x. ir_view x ≡ ir_placed ir) (λ x. EveryFunc IsHoistedThroughout (ir_view x)) (λ x e. subst (λ (y : Ir). EveryFunc IsHoistedThroughout y) (sym e) all) c.place_all.ensures

pub returns-clause-hoisted_at_points : goal.returns-clause-hoisted_at_points
returns-clause-hoisted_at_points c hoisted =
    let ir = ir_view c.args.ir in
    let all : EveryFunc IsHoistedAtPoints (ir_placed ir) = every_is IsHoistedThroughout IsHoistedThroughout IsHoistedAtPoints (λ f p q. func_hoisted_at_points f p) ir hoisted hoisted in
    IfOk-weaker c.place_all.result (λ x. ir_view x ≡ ir_placed ir) (λ x. EveryFunc IsHoistedAtPoints (ir_view x)) (λ x e. subst (λ (y : Ir). EveryFunc IsHoistedAtPoints y) (sym e) all) c.place_all.ensures

pub returns-clause-exact : goal.returns-clause-exact
returns-clause-exact c =
    let ir = ir_view c.args.ir in
    let all : EveryFunc IsExact (ir_placed ir) = every_is IsNamed HasOwnSlots IsExact func_exact ir (every_named ir c.requires.named) c.requires.slots in
    IfOk-weaker c.place_all.result (λ x. ir_view x ≡ ir_placed ir) (λ x. EveryFunc IsExact (ir_view x)) (λ x e. subst (λ (y : Ir). EveryFunc IsExact y) (sym e) all) c.place_all.ensures

pub returns-clause-exact_at_points : goal.returns-clause-exact_at_points
returns-clause-exact_at_points c =
    let ir = ir_view c.args.ir in
    let all : EveryFunc IsExactAtPoints (ir_placed ir) = every_is IsNamed HasOwnSlots IsExactAtPoints func_exact_at_points ir (every_named ir c.requires.named) c.requires.slots in
    IfOk-weaker c.place_all.result (λ x. ir_view x ≡ ir_placed ir) (λ x. EveryFunc IsExactAtPoints (ir_view x)) (λ x e. subst (λ (y : Ir). EveryFunc IsExactAtPoints y) (sym e) all) c.place_all.ensures

pub returns-clause-safe : goal.returns-clause-safe
returns-clause-safe c covered =
    let ir = ir_view c.args.ir in
    let all : EveryFunc IsPinSafe (ir_placed ir) =
    every_is (λ f. IsNamed f × HasOwnSlots f) IsCovered IsPinSafe (λ f p k. func_safe f p.0 p.1 k) ir (every_both IsNamed HasOwnSlots ir (every_named ir c.requires.named) c.requires.slots) covered in
    IfOk-weaker c.place_all.result (λ x. ir_view x ≡ ir_placed ir) (λ x. EveryFunc IsPinSafe (ir_view x)) (λ x e. subst (λ (y : Ir). EveryFunc IsPinSafe y) (sym e) all) c.place_all.ensures

pub returns-clause-valid : goal.returns-clause-valid
returns-clause-valid c valid =
    let ir = ir_view c.args.ir in
    IfOk-weaker c.place_all.result (λ x. ir_view x ≡ ir_placed ir) (λ x. is_valid (ir_view x) ≡ true) (λ x e. ap is_valid e ∙ whole_valid ir c.requires.slots valid) c.place_all.ensures
