-- What the bodies of the calls come to, as functions of the world and of those that are out.
use Rattle.std.proofs.Common.{◌≡◌, ℕ, ◌==◌, Bool, true, false, cond, List, set, ap, sym, subst, ◌∙◌, refl, Option, Some, None}
use Rattle.std.proofs.lemmas.List.{set-set}
use Rattle.flat_rules.specs.Machine.{Machine}
use Rattle.flat_rules.specs.Events.{most_local}
use Rattle.world_rules.specs.declared.calls.Acted.{Acted}
use Rattle.world_rules.specs.declared.calls.Call.TheVariants as call
use Rattle.world_rules.specs.Whole.{Whole}
use Rattle.world_rules.specs.Calls.{after, acts}
use Rattle.flat_replay.specs.declared.driver.Hand.{Hand}
use Rattle.flat_replay.specs.declared.driver.Mood.{Mood}
use Rattle.flat_replay.specs.declared.driver.Mood.TheVariants as mood
use Rattle.flat_replay.specs.inner.Hands.{hand_at, with_worker, hand_acted, acted_on, steps_as, stepped}

module _ {S K C : Type 0} (machine : K → Machine S C) (x : Whole S K C) (hands : List (Option (Hand C))) (w t : ℕ) (h : Hand C) (is : with_worker w (hand_at hands t) ≡ Some h) where
  stepped_is : stepped machine x hands w t (hand_at hands t) ≡ steps_as machine x hands w t h.mood h.ctx
  stepped_is = by (hand_at hands t) is
    where
      by : (o : Option (Hand C)) → with_worker w o ≡ Some h → stepped machine x hands w t o ≡ steps_as machine x hands w t h.mood h.ctx
      by None e = absurd (cc e)
      by (Some g) e = at (g.worker == w) e
        where
          at : (b : Bool) → cond b (Some g) None ≡ Some h → cond b (steps_as machine x hands w t g.mood g.ctx) None ≡ steps_as machine x hands w t h.mood h.ctx
          at true q = let same : g ≡ h = cc q in ap (λ (z : Hand C). steps_as machine x hands w t z.mood z.ctx) same
          at false q = absurd (cc q)

  acts_as : (n : ℕ) → steps_as machine x hands w t h.mood h.ctx ≡ acted_on machine x hands w t h.mood ((machine x.code).local n h.ctx)
      → (x1 x' : Whole S K C) (hands1 : List (Option (Hand C))) (k : K) (d : C) (told : Acted C) (r : Option (Hand C)) → x1 ≡ x → hands1 ≡ set hands t None → k ≡ x.code → d ≡ (machine k).local n h.ctx
      → x' ≡ after machine x1 w (call.Act d) → told ≡ (acts machine x1 w d).0 → r ≡ hand_acted w h.mood told → Some (x', set hands1 t r) ≡ stepped machine x hands w t (hand_at hands t)
  acts_as n steps x1 x' hands1 k d told r one rest code moved left said kept =
      (λ i. Some (world i, held i)) ∙ (sym steps ∙ sym stepped_is)
    where
      d0 : C
      d0 = (machine x.code).local n h.ctx

      d_is : d ≡ (machine x.code).local n h.ctx
      d_is = moved ∙ ap (λ (z : K). (machine z).local n h.ctx) code

      world : x' ≡ after machine x w (call.Act ((machine x.code).local n h.ctx))
      world = left ∙ (λ i. after machine (one i) w (call.Act (d_is i)))

      held : set hands1 t r ≡ set hands t (hand_acted w h.mood (acts machine x w ((machine x.code).local n h.ctx)).0)
      held = (λ i. set (rest i) t ((kept ∙ (ap (hand_acted w h.mood) said ∙ (λ j. hand_acted w h.mood (acts machine (one j) w (d_is j)).0))) i)) ∙ set-set hands t None _

  -- a thread that was not asked home takes its step
  pub free_acts : h.mood ≡ mood.Free → (x1 x' : Whole S K C) (hands1 : List (Option (Hand C))) (k : K) (d : C) (told : Acted C) (r : Option (Hand C)) → x1 ≡ x → hands1 ≡ set hands t None → k ≡ x.code → d ≡ (machine k).local most_local h.ctx
      → x' ≡ after machine x1 w (call.Act d) → told ≡ (acts machine x1 w d).0 → r ≡ hand_acted w h.mood told → Some (x', set hands1 t r) ≡ stepped machine x hands w t (hand_at hands t)
  free_acts fresh = acts_as most_local (subst (λ (m : Mood). steps_as machine x hands w t m h.ctx ≡ acted_on machine x hands w t m ((machine x.code).local most_local h.ctx)) (sym fresh) refl)

  -- or one that was
  pub asked_acts : h.mood ≡ mood.Asked → (x1 x' : Whole S K C) (hands1 : List (Option (Hand C))) (k : K) (d : C) (told : Acted C) (r : Option (Hand C)) → x1 ≡ x → hands1 ≡ set hands t None → k ≡ x.code → d ≡ (machine k).local 0 h.ctx
      → x' ≡ after machine x1 w (call.Act d) → told ≡ (acts machine x1 w d).0 → r ≡ hand_acted w h.mood told → Some (x', set hands1 t r) ≡ stepped machine x hands w t (hand_at hands t)
  asked_acts fresh = acts_as 0 (subst (λ (m : Mood). steps_as machine x hands w t m h.ctx ≡ acted_on machine x hands w t m ((machine x.code).local 0 h.ctx)) (sym fresh) refl)
