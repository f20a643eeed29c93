use Rattle.std.proofs.Common.{sym, ◌∙◌}
use Rattle.race_rules.specs.Shown.{ClashesOne}
use Rattle.race_walk.proofs.Turning.{rest_has, none_has}
use Rattle.race_walk.proofs.Finding.{any_clash, no_clash, item_first, rest_first}
use Rattle.race_walk.proofs.shown.first_clashing.Goals as goal

pub returns-then-clashes_any : goal.returns-then-clashes_any
returns-then-clashes_any c =
    c.loop-touch.invariant.first _
    (item_first (ClashesOne c.args.others.now) c.args.touches.now c.loop-touch.touch-index _ c.loop-touch-test.true (any_clash _ c.args.others.now (sym c.clashes_any.ensures ∙ c.if-clashes_any.true)))

pub loop-touch-preserved : goal.loop-touch-preserved
loop-touch-preserved c =
    let never = no_clash _ c.args.others.now (sym c.clashes_any.ensures ∙ c.if-clashes_any.false) in
    record {
      none = λ m. rest_has c.args.touches.now c.loop-touch.touch-index _ c.loop-touch-test.true never (c.loop-touch.invariant.none m);
      first = λ y m. c.loop-touch.invariant.first y (rest_first (ClashesOne c.args.others.now) c.args.touches.now c.loop-touch.touch-index _ y c.loop-touch-test.true never m);
    }

pub returns : goal.returns
returns c = λ m. none_has c.args.touches.now c.loop-touch.touch-index c.loop-touch-test.false (c.loop-touch.invariant.none m)
