-- A thread that goes on alone makes events that may come.
use Rattle.std.proofs.Common.{◌≡◌, ℕ, zero, suc, ◌+◌, ◌<◌, Bool, true, false, cond, List, [], ◌∷◌, ◌++◌, length, map, replicate, set, Option, Some, None, refl, sym, ap, ◌∙◌, subst, arith}
use Rattle.std.specs.Prelude.{◌⊎◌}
use Rattle.std.proofs.Common.{inl, inr}
use Rattle.std.proofs.lemmas.List.{append-nil, drop_all, length-set}
use Rattle.std.proofs.lemmas.Option.{none-some, same_Some}
use Rattle.block_store.specs.Runs.{Pick, own_at}
use Rattle.block_store.specs.declared.values.Answer.TheVariants as answers
use Rattle.struct_ir.specs.Linear.{Spot}
use Rattle.struct_ir.specs.Threads.{Thread}
use Rattle.flat_meaning.specs.declared.endings.Stop.{Stop}
use Rattle.flat_meaning.specs.Allowed.{MayGo}
use Rattle.flat_meaning.specs.Effects.{gone_effect, no_effect}
use Rattle.flat_meaning.specs.Events as events
use Rattle.flat_meaning.specs.Events.{MachineState, after, new_stages, put, put_if, stage_made}
use Rattle.flat_meaning.specs.Image.{Image}
use Rattle.flat_meaning.specs.Local.{Came, local_within, no_room_if, stop_at, stop_before, stopped_or}
use Rattle.flat_meaning.specs.Order.{local_picks, pick, picks_of_local}
use Rattle.flat_meaning.specs.Stages.{Before, Advance, Stage, calls, can_advance, ending_if, going, advanced, can_pass, landed, looks, nothing, room_for, safe, starts, steps, turn_over, waiting}
use Rattle.flat_meaning.specs.Words.{Words}
use Rattle.flat_machine.specs.lemmas.Homes.{own_at_set}
use Rattle.flat_replay.proofs.Segments.{Comes, joins, none_come}

pub set_same : {A : Type 0} (own : List (Option A)) (n : ℕ) (v : A) → own_at own n ≡ Some v → set own n (Some v) ≡ own
set_same [] n v e = refl
set_same (x ∷ own) zero v e = ap (λ o. o ∷ own) (sym e)
set_same (x ∷ own) (suc n) v e = ap (λ (os : List _). x ∷ os) (set_same own n v e)

pub set_twice : {A : Type 0} (own : List A) (n : ℕ) (v w : A) → set (set own n v) n w ≡ set own n w
set_twice [] n v w = refl
set_twice (x ∷ own) zero v w = refl
set_twice (x ∷ own) (suc n) v w = ap (λ (os : List _). x ∷ os) (set_twice own n v w)

-- ---- a thread that can go on

room_none : (b : Bool) → no_room_if b ≡ None → b ≡ true
room_none true e = refl
room_none false e = absurd cc

module _ (x : Image Spot) (thread most : ℕ) where
  before_goes : (turns : ℕ) (t : Thread Spot Words) (b : Before) → stop_before x most turns t b ≡ None → can_pass x t b ≡ true
  before_goes turns t safe e = refl
  before_goes turns t looks e = absurd cc
  before_goes turns t steps e = absurd cc
  before_goes turns t (calls function) e = room_none _ e
  before_goes turns t turn_over e = refl
  before_goes turns t nothing e = refl

  goes_if : (turns : ℕ) (stage : Stage Spot) → stop_at x most turns stage ≡ None → can_advance x stage ≡ true
  goes_if turns (starts f a) e = room_none _ e
  goes_if turns (going t) e = before_goes turns t _ e
  goes_if turns (waiting t) e = before_goes turns t _ e
  goes_if turns (landed list t) e = before_goes turns t _ e

  -- it ends one turn at most
  AtMostOne : ℕ → Type 0
  AtMostOne n = (n ≡ 0) ⊎ (n ≡ 1)

  either_one : (b : Bool) (g h : Advance Spot) → (g.turns ≡ 0) ⊎ (g.turns ≡ 1) → (h.turns ≡ 0) ⊎ (h.turns ≡ 1) → ((cond b g h).turns ≡ 0) ⊎ ((cond b g h).turns ≡ 1)
  either_one true g h p q = p
  either_one false g h p q = q

  one_turn : (q : Thread Spot Words) (b : Before) → ((ending_if x q b).turns ≡ 0) ⊎ ((ending_if x q b).turns ≡ 1)
  one_turn q safe = inl refl
  one_turn q looks = inl refl
  one_turn q steps = inl refl
  one_turn q (calls function) = either_one (room_for x q function) _ _ (inr refl) (inl refl)
  one_turn q turn_over = inr refl
  one_turn q nothing = inl refl

  gone_one : (stage : Stage Spot) → ((advanced x thread stage).turns ≡ 0) ⊎ ((advanced x thread stage).turns ≡ 1)
  gone_one (starts function argument) = one_turn _ _
  gone_one (going t) = one_turn _ _
  gone_one (waiting t) = one_turn _ _
  gone_one (landed list t) = one_turn _ _

  -- ---- one go

  abbrev turns_alone : ℕ → List Pick
  turns_alone n = replicate n (pick thread answers.Plain)

  local_alone : (n : ℕ) → (n ≡ 0) ⊎ (n ≡ 1) → local_picks thread n ≡ turns_alone n
  local_alone n (inl e) = ap (local_picks thread) e ∙ ap turns_alone (sym e)
  local_alone n (inr e) = ap (local_picks thread) e ∙ ap turns_alone (sym e)

  module _ (s : MachineState Spot) (on_ : s.end ≡ None) (each : length s.own ≡ length s.memory.threads) where
    none_new : (os : List (Option (Stage Spot))) → length os ≡ length s.own → new_stages os s.memory ≡ []
    none_new os long = ap (map stage_made) (drop_all (length os) s.memory.threads (omega (arith, each, long)))

    -- with a thread at another stage
    abbrev pub moved_to : Stage Spot → MachineState Spot
    moved_to stage = record { memory = s.memory; own = set s.own thread (Some stage); end = None }

    put_there : (stage : Stage Spot) → put s thread (no_effect s.memory stage) ≡ moved_to stage
    put_there stage = λ i. record { memory = s.memory; own = own_there i; end = on_ i } where
      own_there : set s.own thread (Some stage) ++ new_stages s.own s.memory ≡ set s.own thread (Some stage)
      own_there = ap (λ (os : List (Option (Stage Spot))). set s.own thread (Some stage) ++ os) (none_new s.own refl) ∙ append-nil (set s.own thread (Some stage))

    abbrev next : Stage Spot → Stage Spot
    next stage = going (advanced x thread stage).thread

    pub one_go : (stage : Stage Spot) → own_at s.own thread ≡ Some stage → can_advance x stage ≡ true → Comes x s (moved_to (next stage)) (turns_alone (advanced x thread stage).turns) (λ turns. []) []
    one_go stage own can = record {
      events = events.local thread ∷ [];
      allowed = ((on_, subst (MayGo x) (sym own) can), tt);
      after = ap (put_if s thread (gone_effect x thread)) own ∙ ap (λ (b : Bool). put s thread (cond b (no_effect s.memory (next stage)) (no_effect s.memory stage))) can ∙ put_there (next stage);
      order = append-nil _ ∙ ap (picks_of_local x thread) own ∙ ap (λ (b : Bool). cond b (local_picks thread (advanced x thread stage).turns) []) can ∙ local_alone (advanced x thread stage).turns (gone_one stage);
      attempts = λ turns. refl;
      ids = refl;
    }

    stays : (stage : Stage Spot) → own_at s.own thread ≡ Some stage → s ≡ moved_to stage
    stays stage own = λ i. record { memory = s.memory; own = sym (set_same s.own thread stage own) i; end = on_ i }

  -- ---- all goes

  pub replicate-plus : (a b : ℕ) → turns_alone a ++ turns_alone b ≡ turns_alone (a + b)
  replicate-plus zero b = let same : b ≡ 0 + b = omega arith in ap turns_alone same
  replicate-plus (suc a) b = let same : suc (a + b) ≡ suc a + b = omega arith in ap (λ (ps : List Pick). pick thread answers.Plain ∷ ps) (replicate-plus a b) ∙ ap turns_alone same

  -- from a state, after so many turns, to where it comes
  pub record GoesAlone (s : MachineState Spot) (turns : ℕ) (came : Came Spot) : Type 0 where
    pub did : ℕ
    pub is : came.turns ≡ turns + did
    pub comes : Comes x s (record { memory = s.memory; own = set s.own thread (Some came.stage); end = None }) (turns_alone did) (λ turns. []) []

  here_stops : (s : MachineState Spot) → s.end ≡ None → length s.own ≡ length s.memory.threads → (stage : Stage Spot) → own_at s.own thread ≡ Some stage → (turns : ℕ) (stop : Stop) → GoesAlone s turns (record { stage = stage; turns = turns; stop = stop })
  here_stops s on_ each stage own turns stop = record {
    did = 0;
    is = omega arith;
    comes = subst (λ (z : MachineState Spot). Comes x s z [] (λ turns. []) []) (stays s on_ each stage own) (none_come x s);
  }

  further_on : (s : MachineState Spot) → (on_ : s.end ≡ None) → (each : length s.own ≡ length s.memory.threads) → (stage : Stage Spot) → own_at s.own thread ≡ Some stage → can_advance x stage ≡ true → (turns : ℕ) (came : Came Spot)
      → GoesAlone (moved_to s on_ each (going (advanced x thread stage).thread)) (turns + (advanced x thread stage).turns) came → GoesAlone s turns came
  further_on s on_ each stage own can turns came rest = record {
    did = (advanced x thread stage).turns + rest.did;
    is = omega (arith, rest.is);
    comes =
        let mid = moved_to s on_ each (going (advanced x thread stage).thread) in
        let both = joins x s mid _ _ _ _ _ [] [] (one_go s on_ each stage own can) rest.comes in
        let same : record { memory = s.memory; own = set (set s.own thread (Some (going (advanced x thread stage).thread))) thread (Some came.stage); end = None } ≡ record { memory = s.memory; own = set s.own thread (Some came.stage); end = None } = λ i. record { memory = s.memory; own = set_twice s.own thread (Some (going (advanced x thread stage).thread)) (Some came.stage) i; end = None } in
        subst (λ (ps : List Pick). Comes x s (record { memory = s.memory; own = set s.own thread (Some came.stage); end = None }) ps (λ turns. []) []) (replicate-plus (advanced x thread stage).turns rest.did)
        (subst (λ (z : MachineState Spot). Comes x s z (turns_alone (advanced x thread stage).turns ++ turns_alone rest.did) (λ turns. []) []) same both);
  }

  by_stop : {R : Type 0} (turns : ℕ) (stage : Stage Spot) (came : Came Spot) (o : Option Stop) → stop_at x most turns stage ≡ o → (further : Option (Came Spot)) → stopped_or stage turns o further ≡ Some came
      → ((stop : Stop) → record { stage = stage; turns = turns; stop = stop } ≡ came → R) → (stop_at x most turns stage ≡ None → further ≡ Some came → R) → R
  by_stop turns stage came (Some stop) e further h stops go = stops stop (same_Some _ came h)
  by_stop turns stage came None e further h stops go = go e h

  pub goes_alone_to : (n turns : ℕ) (s : MachineState Spot) → s.end ≡ None → length s.own ≡ length s.memory.threads → thread < length s.own → (stage : Stage Spot) → own_at s.own thread ≡ Some stage → (came : Came Spot) → local_within x thread most n turns stage ≡ Some came → GoesAlone s turns came
  unfolding local_within
  goes_alone_to zero turns s on_ each below stage own came e = by_stop {R = GoesAlone s turns came} turns stage came _ refl None e
      (λ stop same. subst (GoesAlone s turns) same (here_stops s on_ each stage own turns stop)) (λ f g. absurd (none-some came g))
  goes_alone_to (suc n) turns s on_ each below stage own came e = by_stop {R = GoesAlone s turns came} turns stage came _ refl _ e
      (λ stop same. subst (GoesAlone s turns) same (here_stops s on_ each stage own turns stop))
      (λ f g. further_on s on_ each stage own (goes_if turns stage f) turns came
      (goes_alone_to n (turns + (advanced x thread stage).turns) (moved_to s on_ each (going (advanced x thread stage).thread)) refl (length-set s.own thread (Some (going (advanced x thread stage).thread)) ∙ each)
      (omega (arith, below, length-set s.own thread (Some (going (advanced x thread stage).thread)))) (going (advanced x thread stage).thread) (own_at_set s.own thread (Some (going (advanced x thread stage).thread)) below) came g))
