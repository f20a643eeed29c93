-- Threads of the source by those of the machine that they stand for.
use Rattle.std.proofs.Common.{◌≡◌, ℕ, zero, suc, ◌<◌, true, false, List, [], ◌∷◌, length, Some, None, ℤ, pos, refl, sym, ap, ◌∙◌, subst, arith, inl, inr}
use Rattle.std.specs.Prelude.{◌⊎◌, is_some, slice_get}
use Rattle.ak_words.specs.IntType.{int}
use Rattle.ak_words.specs.Wrapped.{wrapped_value}
use Rattle.block_store.specs.Actions as actions
use Rattle.block_store.specs.Actions.{World, running, returned, joined}
use Rattle.block_store.specs.Blocks.{Blocks}
use Rattle.flat_words.specs.Words.{word_of}
use Rattle.ak_trace.specs.declared.endings.End.TheVariants as ends
use Rattle.flat_meaning.specs.Effects.{exit_of, exit_with}
use Rattle.flat_meaning.specs.Memory.{Made, Memory}
use Rattle.flat_meaning.specs.Names.{Name}
use Rattle.flat_meaning.specs.Ready.{has_ended}
use Rattle.flat_meaning.specs.Stands.{AllMadeStand, ResultStands, WorldStands}
use Rattle.flat_simulation.proofs.Numbers.{wrapped_word}
use Rattle.flat_replay.specs.Meaning.{MainReturned, Runs}
use Rattle.flat_replay.proofs.WaitsMade.{there_is}

-- main runs, or has returned
abbrev pub MainIs : World → Type 0
MainIs w = Runs w 0 ⊎ ((t : actions.ThreadRecord) × (slice_get w.threads 0 ≡ Some t) × ((z : ℤ) × (t.stage ≡ returned z)))

module _ (names : List Name) (blocks : Blocks) where
  -- a thread that stands for this one was made
  pub record MadeAt (t : actions.ThreadRecord) (us : List Made) (n : ℕ) : Type 0 where
    pub made : Made
    pub is : slice_get us n ≡ Some made
    pub result : ResultStands t.stage made.result

  -- there is one for each
  pub made_at : (ts : List actions.ThreadRecord) (us : List Made) → AllMadeStand names blocks ts us → (n : ℕ) (t : actions.ThreadRecord) → slice_get ts n ≡ Some t → MadeAt t us n
  made_at [] us stand n t is = absurd cc
  made_at (t2 ∷ ts) [] stand n t is = absurd stand
  made_at (t2 ∷ ts) (u ∷ us) stand zero t is =
      let same : t2 ≡ t = cc in
      record { made = u; is = refl; result = subst (λ (k : actions.ThreadRecord). ResultStands k.stage u.result) same stand.0.result }
  made_at (t2 ∷ ts) (u ∷ us) stand (suc n) t is = let r : MadeAt t us n = made_at ts us stand.1 n t is in record { made = r.made; is = r.is; result = r.result }

-- one that runs has no result
pub runs_on : (names : List Name) (w : World) (m : Memory) → WorldStands names w m → (n : ℕ) → Runs w n → has_ended (slice_get m.threads n) ≡ false
runs_on names w m stands n runs =
    let a : MadeAt names w.blocks runs.0 m.threads n = made_at names w.blocks w.threads m.threads stands.threads n runs.0 runs.1 in
    let none : a.made.result ≡ None = subst (λ k. ResultStands k a.made.result) runs.2 a.result in
    ap has_ended a.is ∙ ap is_some none

-- one that runs was made
pub runs_below : (names : List Name) (w : World) (m : Memory) → WorldStands names w m → (n : ℕ) → Runs w n → n < length m.threads
runs_below names w m stands n runs = let a : MadeAt names w.blocks runs.0 m.threads n = made_at names w.blocks w.threads m.threads stands.threads n runs.0 runs.1 in there_is m.threads n a.made a.is

-- of threads that stand for others, one without a result stands for one that runs
back_at : (names : List Name) (blocks : Blocks) (ts : List actions.ThreadRecord) (us : List Made) → AllMadeStand names blocks ts us → (n : ℕ) → n < length us → has_ended (slice_get us n) ≡ false → (t : actions.ThreadRecord) × (slice_get ts n ≡ Some t) × (t.stage ≡ running)
back_at names blocks [] [] stand n below none = absurd (omega (arith, below))
back_at names blocks [] (u ∷ us) stand n below none = absurd stand
back_at names blocks (t ∷ ts) [] stand n below none = absurd stand
back_at names blocks (t ∷ ts) (u ∷ us) stand zero below none = (t, refl, by t.stage stand.0.result) where
  by : (stage : actions.Stage) → ResultStands stage u.result → stage ≡ running
  by running h = refl
  by (returned z) h = absurd (let bad : true ≡ false = sym (ap is_some h) ∙ none in cc)
  by (joined z) h = absurd (let bad : true ≡ false = sym (ap is_some h) ∙ none in cc)
back_at names blocks (t ∷ ts) (u ∷ us) stand (suc n) below none = back_at names blocks ts us stand.1 n (omega (arith, below)) none

-- where the machine's thread has no result, the source's runs
pub made_back : (names : List Name) (w : World) (m : Memory) → WorldStands names w m → (n : ℕ) → n < length m.threads → has_ended (slice_get m.threads n) ≡ false → Runs w n
made_back names w m stands n below none = back_at names w.blocks w.threads m.threads stands.threads n below none

-- main runs where it has no result
pub main_on : (names : List Name) (w : World) (m : Memory) → WorldStands names w m → MainIs w → has_ended (slice_get m.threads 0) ≡ false → Runs w 0
main_on names w m stands (inl runs) none = runs
main_on names w m stands (inr there) none =
    let a : MadeAt names w.blocks there.0 m.threads 0 = made_at names w.blocks w.threads m.threads stands.threads 0 there.0 there.1 in
    let result : a.made.result ≡ Some (word_of there.2.0) = subst (λ k. ResultStands k a.made.result) there.2.1 a.result in
    let bad : true ≡ false = sym (ap has_ended a.is ∙ ap is_some result) ∙ none in absurd cc

-- it has returned the value with which the run ended
pub main_over : (names : List Name) (w : World) (m : Memory) (value : ℤ) → WorldStands names w m → MainIs w → exit_of (slice_get m.threads 0) ≡ Some (ends.Done value) → MainReturned w value
main_over names w m value stands (inl runs) over =
    let a : MadeAt names w.blocks runs.0 m.threads 0 = made_at names w.blocks w.threads m.threads stands.threads 0 runs.0 runs.1 in
    let none : a.made.result ≡ None = subst (λ k. ResultStands k a.made.result) runs.2 a.result in
    let bad : None ≡ Some (ends.Done value) = sym (ap exit_of a.is ∙ ap exit_with none) ∙ over in absurd cc
main_over names w m value stands (inr there) over =
    let a : MadeAt names w.blocks there.0 m.threads 0 = made_at names w.blocks w.threads m.threads stands.threads 0 there.0 there.1 in
    let result : a.made.result ≡ Some (word_of there.2.0) = subst (λ k. ResultStands k a.made.result) there.2.1 a.result in
    let exit : Some (ends.Done (wrapped_value int (pos (word_of there.2.0)))) ≡ Some (ends.Done value) = sym (ap exit_of a.is ∙ ap exit_with result) ∙ over in
    let same : wrapped_value int (pos (word_of there.2.0)) ≡ value = cc in
    (there.0, there.1, (there.2.0, there.2.1, sym (wrapped_word int there.2.0) ∙ same))
