use Rattle.std.proofs.Common.{◌++◌, refl}
use Rattle.std.proofs.lemmas.Result.{on_ok_weaker}
use Rattle.lower_forms.specs.Forms.{held_by, held_in, objects_in}
use Rattle.lower_expressions.specs.FrameViews.{frame_view}
use Rattle.ir_lower.proofs.LeftRows.{block_has, switch_has}
use Rattle.ir_lower.proofs.left.+holds.Goals as goal

pub held_by-returns-in-Block : goal.held_by-returns-in-Block
held_by-returns-in-Block t c =
    on_ok_weaker c.held_block.result (λ h.
    block_has (λ n. c.args.out.now.items ++ held_by (frame_view c.args.f.now) n) (λ a. c.args.out.now.items ++ (held_in (frame_view c.args.f.now) a ++ objects_in (frame_view c.args.f.now) a)) (λ a. refl)
    c.args.node.now c.in-Block.body c.deref.result.now c.held_block.new.out.items c.in-Block.is c.deref.ensures.value h) c.held_block.ensures

pub held_by-returns-in-Switch : goal.held_by-returns-in-Switch
held_by-returns-in-Switch t c =
    on_ok_weaker c.held_in.result (λ h.
    switch_has (λ n. c.args.out.now.items ++ held_by (frame_view c.args.f.now) n) (λ a. c.args.out.now.items ++ held_in (frame_view c.args.f.now) a) (λ e ls a. refl)
    c.args.node.now c.in-Switch.field-0 c.in-Switch.field-1 c.in-Switch.body c.deref-in-Switch.result.now c.held_in.new.out.items c.in-Switch.is c.deref-in-Switch.ensures.value h) c.held_in.ensures
