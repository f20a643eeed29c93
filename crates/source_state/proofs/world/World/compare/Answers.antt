use Rattle.std.proofs.Common.{◌≡◌, ◌∙◌, ap, if◌then◌else◌, Some}
use Rattle.std.proofs.lemmas.Result.{IfOk-weaker}
use Rattle.block_store.specs.declared.values.Value.{Value}
use Rattle.source_state.specs.Worlds.{world_of}
use Rattle.source_state.proofs.Broken.{compare_err, compare_went}
use Rattle.source_state.proofs.world.World.compare.Goals.{then-equal, else-equal}
use Rattle.source_state.proofs.world.World.compare.Goals as goal

pub returns-in-Err-clause-done : goal.returns-in-Err-clause-done
returns-in-Err-clause-done c = compare_err _ (world_of c.args.self.now) _ _ c.in-Err.ensures.answer

pub returns-after-equal-clause-done : goal.returns-after-equal-clause-done
returns-after-equal-clause-done c =
    let place : c.if-equal.to ≡ (if c.in-Ok.equal then c.args.at else c.args.want) = elim c.if-equal.branch [ then-equal w ↦ rw w.if-equal.true w.to-is | else-equal w ↦ rw w.if-equal.false w.to-is ] in
    IfOk-weaker c.went_comparing.result _ _
    (λ done is. is ∙ compare_went (world_of c.args.self.now) c.args.at c.args.want c.if-equal.to c.args.new.ty _ _ _ _ c.in-Ok.equal
    c.from-bytes.ensures (ap (λ (v : Value). Some v) c.truth_value.ensures) c.compare.ensures.after c.in-Ok.ensures.answer place)
    c.went_comparing.ensures.done
