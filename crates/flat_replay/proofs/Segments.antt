-- Events one after the other: what they come to, the turns that they make and those that they try, and the ids that they hand out.
use Rattle.std.proofs.Common.{◌≡◌, ℕ, ◌+◌, List, [], ◌∷◌, ◌++◌, length, map, refl, sym, ap, ◌∙◌, subst, arith, append_assoc}
use Rattle.std.proofs.lemmas.List.{length-append, map-append}
use Rattle.block_store.specs.Runs.{Pick}
use Rattle.struct_ir.specs.Linear.{Spot}
use Rattle.flat_meaning.specs.Allowed.{AreAllowed}
use Rattle.flat_meaning.specs.Events.{MachineState, Event, after, after_all}
use Rattle.flat_meaning.specs.Image.{Image}
use Rattle.flat_meaning.specs.Order.{Attempt, attempts_of, order_of, picks_of, tried_by}
use Rattle.flat_meaning.specs.Start.{ids_of}
use Rattle.flat_simulation.proofs.EventRuns.{ids_of-append}
use Rattle.flat_replay.specs.Attempts.{placed}

module _ (x : Image Spot) where
  after_all-append : (es fs : List Event) (s : MachineState Spot) → after_all x (es ++ fs) s ≡ after_all x fs (after_all x es s)
  after_all-append [] fs s = refl
  after_all-append (e ∷ es) fs s = after_all-append es fs (after x s e)

  allowed-append : (es fs : List Event) (s : MachineState Spot) → AreAllowed x es s → AreAllowed x fs (after_all x es s) → AreAllowed x (es ++ fs) s
  allowed-append [] fs s h k = k
  allowed-append (e ∷ es) fs s h k = (h.0, allowed-append es fs (after x s e) h.1 k)

  order-append : (es fs : List Event) (s : MachineState Spot) → order_of x (es ++ fs) s ≡ order_of x es s ++ order_of x fs (after_all x es s)
  order-append [] fs s = refl
  order-append (e ∷ es) fs s = ap (λ (ps : List Pick). picks_of x s e ++ ps) (order-append es fs (after x s e)) ∙ sym (append_assoc (picks_of x s e) (order_of x es (after x s e)) (order_of x fs (after_all x es (after x s e))))

  abbrev tries : Event → (turns : ℕ) → MachineState Spot → List Attempt
  tries e turns s = map (λ (p : Pick). record { turn = p; position = turns }) (tried_by x s e)

  attempts-append : (es fs : List Event) (turns : ℕ) (s : MachineState Spot) → attempts_of x (es ++ fs) turns s ≡ attempts_of x es turns s ++ attempts_of x fs (turns + length (order_of x es s)) (after_all x es s)
  attempts-append [] fs turns s = let same : turns ≡ turns + 0 = omega arith in ap (λ (n : ℕ). attempts_of x fs n s) same
  attempts-append (e ∷ es) fs turns s =
      let next : MachineState Spot = after x s e in
      let mid : ℕ = turns + length (picks_of x s e) in
      let same : mid + length (order_of x es next) ≡ turns + length (picks_of x s e ++ order_of x es next) = omega (arith, length-append (picks_of x s e) (order_of x es next)) in
      ap (λ (as' : List Attempt). tries e turns s ++ as') (attempts-append es fs mid next ∙ ap (λ (n : ℕ). attempts_of x es mid next ++ attempts_of x fs n (after_all x es next)) same)
      ∙ sym (append_assoc (tries e turns s) (attempts_of x es mid next) (attempts_of x fs (turns + length (picks_of x s e ++ order_of x es next)) (after_all x es next)))

  -- events that may come from one state on, and lead to another; the turns that they make, and those that they try, by the turns before;
  -- and the ids that they hand out
  pub record Comes (s t : MachineState Spot) (picks : List Pick) (tried : ℕ → List (ℕ × ℕ)) (given : List ℕ) : Type 0 where
    pub events : List Event
    pub allowed : AreAllowed x events s
    pub after : after_all x events s ≡ t
    pub order : order_of x events s ≡ picks
    pub attempts : (turns : ℕ) → map placed (attempts_of x events turns s) ≡ tried turns
    pub ids : ids_of events ≡ given

  pub none_come : (s : MachineState Spot) → Comes s s [] (λ turns. []) []
  none_come s = record { events = []; allowed = tt; after = refl; order = refl; attempts = λ turns. refl; ids = refl }

  joined : (s u : MachineState Spot) (p p2 : List Pick) (q q2 : ℕ → List (ℕ × ℕ)) (g g2 : List ℕ) (es : List Event) → AreAllowed x es s → order_of x es s ≡ p → ((turns : ℕ) → map placed (attempts_of x es turns s) ≡ q turns) → ids_of es ≡ g
      → Comes (after_all x es s) u p2 q2 g2 → Comes s u (p ++ p2) (λ turns. q turns ++ q2 (turns + length p)) (g ++ g2)
  joined s u p p2 q q2 g g2 es allowed order attempts ids b = record {
    events = es ++ b.events;
    allowed = allowed-append es b.events s allowed b.allowed;
    after = after_all-append es b.events s ∙ b.after;
    order = order-append es b.events s ∙ ap (λ (ps : List Pick). ps ++ order_of x b.events (after_all x es s)) order ∙ ap (λ (ps : List Pick). p ++ ps) b.order;
    attempts = λ turns.
        ap (map placed) (attempts-append es b.events turns s)
        ∙ map-append placed (attempts_of x es turns s) (attempts_of x b.events (turns + length (order_of x es s)) (after_all x es s))
        ∙ ap (λ (as' : List (ℕ × ℕ)). as' ++ map placed (attempts_of x b.events (turns + length (order_of x es s)) (after_all x es s))) (attempts turns)
        ∙ ap (λ (as' : List (ℕ × ℕ)). q turns ++ as') (b.attempts (turns + length (order_of x es s)))
        ∙ ap (λ (ps : List Pick). q turns ++ q2 (turns + length ps)) order;
    ids = ids_of-append es b.events ∙ (λ i. ids i ++ b.ids i);
  }

  -- one behind the other
  pub joins : (s t u : MachineState Spot) (p p2 : List Pick) (q q2 : ℕ → List (ℕ × ℕ)) (g g2 : List ℕ) → Comes s t p q g → Comes t u p2 q2 g2 → Comes s u (p ++ p2) (λ turns. q turns ++ q2 (turns + length p)) (g ++ g2)
  joins s t u p p2 q q2 g g2 a b = joined s u p p2 q q2 g g2 a.events a.allowed a.order a.attempts a.ids (subst (λ (z : MachineState Spot). Comes z u p2 q2 g2) (sym a.after) b)
