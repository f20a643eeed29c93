use Rattle.c_tree.specs.TypedViews.{literal_view}
use Rattle.formats.specs.Formats.{list, byte}
use Rattle.std.proofs.Common.{true}
use Rattle.code_save.proofs.Writing.{first_writes, item_writes, all_wrote, plain_wrote, wrote_as}
use Rattle.code_save.proofs.files.put_literals.Goals as goal

pub loop-literal-init : goal.loop-literal-init
loop-literal-init c = first_writes (list byte) (literal_view) (λ x. true) c.args.literals.now c.in_ok-put_count.ensures

pub loop-literal-preserved : goal.loop-literal-preserved
loop-literal-preserved c = item_writes (list byte) (literal_view) (λ x. true) c.args.literals.now c.loop-literal.literal-index c.literal-item.result c.loop-literal-test.true c.literal-item.is (wrote_as (list byte) c.deref.ensures.value c.in_ok-put_text.ensures) c.loop-literal.invariant

pub returns : goal.returns
returns c = plain_wrote (list byte) literal_view c.args.literals.now (all_wrote (list byte) (literal_view) (λ x. true) c.args.literals.now c.loop-literal.literal-index c.loop-literal-test.false c.loop-literal.invariant)
