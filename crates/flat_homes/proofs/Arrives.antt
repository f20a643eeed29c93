-- A thread that is to stop at its first safepoint: where it stops before a Look or a step, that is further on in its function.
use Rattle.std.proofs.Common.{◌≡◌, ℕ, zero, suc, Option, Some, None, refl, sym, subst, ap, ◌∙◌, arith}
use Rattle.std.specs.Prelude.{nat_le}
use Rattle.std.proofs.lemmas.Bool.{le-leb}
use Rattle.std.proofs.lemmas.Option.{same_Some, none-some}
use Rattle.struct_ir.specs.Instrs.{LinearCode}
use Rattle.struct_ir.specs.Lawful.{AllLawful}
use Rattle.struct_ir.specs.Linear.{Spot, linear}
use Rattle.struct_ir.specs.Threads.{Thread}
use Rattle.flat_meaning.specs.declared.endings.Stop.{Stop}
use Rattle.flat_meaning.specs.declared.endings.Stop.TheVariants.{AtStep, Spent}
use Rattle.flat_meaning.specs.Image.{Image}
use Rattle.flat_meaning.specs.Local.{Came, spent_if, stop_before, stop_at, stopped_or, local_within}
use Rattle.flat_meaning.specs.Stages.{Stage, starts, going, waiting, landed, thread_at, Before, safe, looks, steps, calls, turn_over, nothing, before, past_safepoint, Advance, advanced, advanced_from}
use Rattle.flat_meaning.specs.Stops.{CallersAtCalls}
use Rattle.flat_meaning.specs.Words.{Words}
use Rattle.flat_threads.specs.Contexts.{own_image}
use Rattle.flat_homes.proofs.Rises.{IsBeyond, here_still, further_on, IsOpen, Lands, along, rests, lands}

module _ (code : LinearCode) (lawful : AllLawful code.funcs) (thread : ℕ) where
  abbrev x : Image Spot
  x = own_image code

  -- ---- at a safepoint

  spends : (turns : ℕ) → spent_if (nat_le 0 turns) ≡ Some Spent
  spends turns = ap spent_if (le-leb 0 turns (omega arith))

  stops_safe : (turns : ℕ) (t : Thread Spot Words) → before x t ≡ safe → stop_at x 0 turns (going t) ≡ Some Spent
  stops_safe turns t e = ap (stop_before x 0 turns t) e ∙ spends turns

  came_so : (turns : ℕ) (stage : Stage Spot) (came : Came Spot) (stop : Stop) (further : Option (Came Spot)) (o : Option Stop) → o ≡ Some stop → stopped_or stage turns o further ≡ Some came → came ≡ record { stage = stage; turns = turns; stop = stop }
  came_so turns stage came stop further o e f = same_Some _ _ (sym f ∙ ap (λ p. stopped_or stage turns p further) e)

  rest_comes : (n turns : ℕ) (t : Thread Spot Words) (came : Came Spot) → before x t ≡ safe → local_within x thread 0 n turns (going t) ≡ Some came → came.stop ≡ Spent
  unfolding local_within
  rest_comes zero turns t came e f = ap (λ (c : Came Spot). c.stop) (came_so turns (going t) came Spent _ _ (stops_safe turns t e) f)
  rest_comes (suc n) turns t came e f = ap (λ (c : Came Spot). c.stop) (came_so turns (going t) came Spent _ _ (stops_safe turns t e) f)

  -- ---- one go

  past_same : (turns : ℕ) (t : Thread Spot Words) (b : Before) → stop_before x 0 turns t b ≡ None → past_safepoint x t b ≡ t
  past_same turns t safe e = let bad : Some Spent ≡ None = sym (spends turns) ∙ e in absurd cc
  past_same turns t looks e = refl
  past_same turns t steps e = refl
  past_same turns t (calls function) e = refl
  past_same turns t turn_over e = refl
  past_same turns t nothing e = refl

  thread_lands : (turns : ℕ) (t : Thread Spot Words) → stop_before x 0 turns t (before x t) ≡ None → IsOpen code lawful thread t.top → CallersAtCalls (linear code.funcs) t → Lands code lawful thread t.top (advanced_from x thread (past_safepoint x t (before x t)))
  thread_lands turns t none open_ all = subst (λ (q : Thread Spot Words). Lands code lawful thread t.top (advanced_from x thread q)) (sym (past_same turns t (before x t) none)) (lands code lawful thread t all open_)

  gone_lands : (turns : ℕ) (stage : Stage Spot) → stop_at x 0 turns stage ≡ None → IsOpen code lawful thread (thread_at x stage).top → CallersAtCalls (linear code.funcs) (thread_at x stage) → Lands code lawful thread (thread_at x stage).top (advanced x thread stage)
  gone_lands turns (starts f a) none open_ all = lands code lawful thread (thread_at x (starts f a)) all open_
  gone_lands turns (going t) none open_ all = thread_lands turns t none open_ all
  gone_lands turns (waiting t) none open_ all = thread_lands turns t none open_ all
  gone_lands turns (landed list t) none open_ all = thread_lands turns t none open_ all

  -- ---- all goes

  -- where it comes to
  abbrev Arrives : Stage Spot → Came Spot → Type 0
  Arrives stage came = IsBeyond (thread_at x stage).top.at (thread_at x came.stage).top.at

  by_stop : (turns : ℕ) (stage : Stage Spot) (came : Came Spot) (o : Option Stop) → stop_at x 0 turns stage ≡ o → (further : Option (Came Spot)) → stopped_or stage turns o further ≡ Some came → (stop_at x 0 turns stage ≡ None → further ≡ Some came → Arrives stage came) → Arrives stage came
  by_stop turns stage came (Some stop) e further f go = subst (Arrives stage) (sym (came_so turns stage came stop further (Some stop) refl f)) (here_still (thread_at x stage).top.at)
  by_stop turns stage came None e further f go = go e f

  by_go : (stage : Stage Spot) (came : Came Spot) (n turns : ℕ) (g : Advance Spot) → Lands code lawful thread (thread_at x stage).top g → local_within x thread 0 n turns (going g.thread) ≡ Some came → came.stop ≡ AtStep
      → (IsOpen code lawful thread g.thread.top → CallersAtCalls (linear code.funcs) g.thread → IsBeyond g.thread.top.at (thread_at x came.stage).top.at) → Arrives stage came
  by_go stage came n turns g (along b o each) f at again = further_on _ _ _ b (again o each)
  by_go stage came n turns g (rests r) f at again = let bad : AtStep ≡ Spent = sym at ∙ rest_comes n turns g.thread came r f in absurd cc

  pub arrives : (n turns : ℕ) (stage : Stage Spot) → IsOpen code lawful thread (thread_at x stage).top → CallersAtCalls (linear code.funcs) (thread_at x stage) → (came : Came Spot) → local_within x thread 0 n turns stage ≡ Some came → came.stop ≡ AtStep
      → IsBeyond (thread_at x stage).top.at (thread_at x came.stage).top.at
  unfolding local_within
  arrives zero turns stage open_ all came e at = by_stop turns stage came (stop_at x 0 turns stage) refl None e (λ none f. absurd (none-some came f))
  arrives (suc n) turns stage open_ all came e at =
      by_stop turns stage came (stop_at x 0 turns stage) refl _ e
      (λ none f. by_go stage came n _ (advanced x thread stage) (gone_lands turns stage none open_ all) f at (λ o each. arrives n _ (going (advanced x thread stage).thread) o each came f at))
