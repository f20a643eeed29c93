use Rattle.std.proofs.Common.{ℕ, sym, subst, ◌∙◌}
use Rattle.race_rules.specs.Histories.{StillTouched}
use Rattle.race_check.proofs.forgetting.forget_ended.Goals as goal

pub loop-block-preserved-then-has_ended : goal.loop-block-preserved-then-has_ended
loop-block-preserved-then-has_ended c = record {
  can_next = tt;
  is_finite = tt;
  after = λ ts a never.
      let F : ℕ → Type 0 = λ k. StillTouched ts k c.in-Some.block → ⊥ in
      c.forget.ensures.after ts (c.loop-block.invariant.after ts a never) (subst F (sym c.loop-block.invariant.count) (never c.in-Some.block (c.has_ended.ensures.0 c.if-has_ended.true)));
  count = c.forget.ensures.count ∙ c.loop-block.invariant.count;
}
