-- What a journal that was followed comes to, under the names that the caller has for what was opened.
use Rattle.std.proofs.Common.{◌≡◌, List, ap, sym, ◌∙◌, Option, Some, None}
use Rattle.std.specs.Prelude.{true, false, All}
use Rattle.std.specs.Option.{option_map}
use Rattle.ak_trace.specs.declared.entry.Entry.{Entry}
use Rattle.ak_trace.specs.declared.endings.End.{End}
use Rattle.flat_rules.specs.Rules.{Rules}
use Rattle.flat_rules.specs.Machine.{Machine}
use Rattle.flat_rules.specs.States.{RunState, end_of}
use Rattle.flat_rules.specs.Lawful.{IsFlat, IsOfRun}
use Rattle.flat_rules.specs.Replays.{replay}
use Rattle.world_rules.specs.Whole.{Whole}
use Rattle.world_rules.specs.Calls.{end_now}
use Rattle.world_rules.proofs.Soundness.{sound}
use Rattle.ak_world.proofs.Over.{end_told}
use Rattle.flat_replay.specs.inner.Follows.{Comes}

module _ {S K C : Type 0} (machine : K → Machine S C) (SharedOf : K → S → Type 0) (ContextOf : K → C → Type 0) (flat : (code : K) → IsFlat (machine code) (SharedOf code) (ContextOf code))
    (first x : Whole S K C) (log : List Entry) (k : K) (rules : Rules) (shared : S) (code : first.code ≡ k) (told : first.settings ≡ rules) (opened : first.shared ≡ shared) where
  -- what is shared in a state, and the end
  abbrev pub final : RunState S C → S × Option End
  final s = (s.shared, end_of (machine k) rules s)

  -- a journal of none
  pub ended_none : Comes machine SharedOf first log x false → None ≡ option_map final (replay (machine k) rules shared log)
  ended_none none = sym (ap (option_map final) ((λ i. replay (machine (sym code i)) (sym told i) (sym opened i) log) ∙ none))

  -- or of one
  pub ended_some : Comes machine SharedOf first log x true → (s : S) (end : Option End) → s ≡ x.shared → end ≡ end_now machine x → Some (s, end) ≡ option_map final (replay (machine k) rules shared log)
  ended_some come s end same ends =
      (λ i. Some ((same ∙ ap (λ (z : Whole S K C). z.shared) come.0.replays.is) i, (ends ∙ (end_told machine first SharedOf ContextOf flat log x come.0 ∙ (λ j. end_of (machine (code j)) (told j) come.0.replays.state))) i))
      ∙ sym (ap (option_map final) ((λ i. replay (machine (sym code i)) (sym told i) (sym opened i) log) ∙ come.1))

  -- its contexts at home are of the run
  pub ended_homes : Comes machine SharedOf first log x true → All (IsOfRun (machine x.code) (ContextOf x.code)) x.homes
  ended_homes come = (sound machine SharedOf ContextOf flat first log x come.0).contexts
