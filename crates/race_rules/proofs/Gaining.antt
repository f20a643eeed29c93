-- What a turn's own touches let it know.
use Rattle.std.proofs.Common.{◌≡◌, ℕ, zero, suc, ◌+◌, ◌-◌, ◌<◌, ◌≤◌, ◌⊎◌, inl, inr, List, [], ◌∷◌, slice_get, Some, refl, sym, subst, arith}
use Rattle.std.proofs.Math.Nat.{eq-or-lt_of_le}
use Rattle.race_rules.specs.declared.touch.Touch.{Touch}
use Rattle.race_rules.specs.declared.touch.TouchKind.{TouchKind}
use Rattle.race_rules.specs.declared.touch.TouchKind.TheVariants.{Read, Write, AtomicRead, AtomicWrite, Lock, Unlock, Start, Join}
use Rattle.race_rules.specs.Turns.{Turn, Has, CoversCell}
use Rattle.race_rules.specs.Turns.Has.{here, later}
use Rattle.race_rules.specs.Order.{Directly, Orders, Hands, Passes, IsJoin}
use Rattle.race_rules.specs.Order.Orders.{same_thread, starts, joins, hands, passes}
use Rattle.race_rules.specs.Clocks.{Clocks, Knows, nothing, joined, written_over, gained_by, gained_all}
use Rattle.race_rules.specs.Sound.{Earlier, Sound, OfThread, Starting, Releasing, Writing, IsAtomicWriteOf}
use Rattle.race_rules.proofs.Knowing.{knows_same, knows_joined, knows_nothing, some_one}
use Rattle.race_rules.proofs.Touching.{no_has, has_cases, has_map, has_swap}

-- why a turn y is before one with the touch a
data Why (y : Turn) (a : Touch) : Type 0 where
  joining : a.kind ≡ Join y.thread → Why y a
  handing : Has (λ b. Hands b a) y.touches → Why y a
  passing : Has (λ b. Passes b a) y.touches → Why y a

why_orders : (y x : Turn) → (all : List Touch) → Has (Why y) all → Has (IsJoin y.thread) all ⊎ (Has (λ a. Has (λ b. Hands b a) y.touches) all ⊎ Has (λ a. Has (λ b. Passes b a) y.touches) all)
why_orders y x _ (here (joining e)) = inl (here e)
why_orders y x _ (here (handing h)) = inr (inl (here h))
why_orders y x _ (here (passing h)) = inr (inr (here h))
why_orders y x _ (later h) = elim (why_orders y x _ h) [ inl j ↦ inl (later j) | inr r ↦ elim r [ inl j ↦ inr (inl (later j)) | inr j ↦ inr (inr (later j)) ] ]

orders_of : (y x : Turn) → Has (IsJoin y.thread) x.touches ⊎ (Has (λ a. Has (λ b. Hands b a) y.touches) x.touches ⊎ Has (λ a. Has (λ b. Passes b a) y.touches) x.touches) → Orders y x
orders_of y x (inl h) = joins h
orders_of y x (inr (inl h)) = hands (has_swap h)
orders_of y x (inr (inr h)) = passes (has_swap h)

-- a cell that one of them wrote and the touch reads
record Passed (a : Touch) (ys : List Touch) : Type 0 where
  cell : ℕ
  reads : CoversCell a a.block cell
  wrote : Has (IsAtomicWriteOf a.block cell) ys

passed : (a : Touch) (ys : List Touch) → Has (λ b. Passes b a) ys → Passed a ys
passed a _ (here {x = b} h) =
    record {
      cell = h.cell.cell;
      reads = record { in_block = refl; from_here = h.cell.second.from_here; up_to = h.cell.second.up_to };
      wrote = here (record { wrote = h.wrote; there = record { in_block = (let p = h.cell.first.in_block in let q = h.cell.second.in_block in cc); from_here = h.cell.first.from_here; up_to = h.cell.first.up_to } });
    }
passed a _ (later h) = let q = passed a _ h in record { cell = q.cell; reads = q.reads; wrote = later q.wrote }

module _ (ts : List Turn) (k : ℕ) (c : Clocks) (s : Sound ts k c) where
  pub Over : (block from count : ℕ) → ℕ → Type 0
  Over block from zero p = ⊥
  Over block from (suc n) p = Earlier ts k (Writing block from) p ⊎ Over block (suc from) n p

  knows_over : (block from count : ℕ) → Knows ts (written_over c block from count) (Over block from count)
  unfolding Over
  knows_over block from zero = knows_nothing ts
  knows_over block from (suc n) = knows_joined ts _ _ (Earlier ts k (Writing block from)) (Over block (suc from) n) (s.written block from) (knows_over block (suc from) n)

  over_cell : (block from count p : ℕ) → Over block from count p → (cell : ℕ) × (from ≤ cell) × (cell < from + count) × Earlier ts k (Writing block cell) p
  unfolding Over
  over_cell block from zero p h = absurd h
  over_cell block from (suc n) p (inl e) = (from, omega arith, omega arith, e)
  over_cell block from (suc n) p (inr h) = let r = over_cell block (suc from) n p h in let low = r.1 in let high = r.2 in (r.0, omega arith, omega arith, r.3)

  over_at : (block from count p cell : ℕ) → from ≤ cell → cell < from + count → Earlier ts k (Writing block cell) p → Over block from count p
  unfolding Over
  over_at block from zero p cell low high e = absurd (omega arith)
  over_at block from (suc n) p cell low high e = elim (eq-or-lt_of_le low) [ inl same ↦ inl (let F : ℕ → Type 0 = λ f. Earlier ts k (Writing block f) p in subst F (sym same) e) | inr lt ↦ inr (over_at block (suc from) n p cell (omega arith) (omega arith) e) ]

  pub Gain : (block from to : ℕ) → TouchKind → ℕ → Type 0
  Gain block from to Read p = ⊥
  Gain block from to Write p = ⊥
  Gain block from to AtomicRead p = Over block from (to - from) p
  Gain block from to AtomicWrite p = ⊥
  Gain block from to Lock p = Earlier ts k (Releasing block from to) p
  Gain block from to Unlock p = ⊥
  Gain block from to (Start t) p = ⊥
  Gain block from to (Join t) p = Earlier ts k (OfThread t) p

  knows_gain : (block from to : ℕ) (κ : TouchKind) → Knows ts (gained_by c block from to κ) (Gain block from to κ)
  unfolding Gain
  knows_gain block from to Read = knows_nothing ts
  knows_gain block from to Write = knows_nothing ts
  knows_gain block from to AtomicRead = knows_over block from (to - from)
  knows_gain block from to AtomicWrite = knows_nothing ts
  knows_gain block from to Lock = s.released block from to
  knows_gain block from to Unlock = knows_nothing ts
  knows_gain block from to (Start t) = knows_nothing ts
  knows_gain block from to (Join t) = s.threads t

  abbrev pub GainOf : Touch → ℕ → Type 0
  GainOf a p = Gain a.block a.from a.to a.kind p

  pub knows_gained : (all : List Touch) → Knows ts (gained_all c all) (λ p. Has (λ a. GainOf a p) all)
  knows_gained [] = knows_same ts nothing (λ p. ⊥) (λ p. Has (λ a. GainOf a p) []) (λ p h. absurd h) (λ p h. absurd (no_has h)) (knows_nothing ts)
  knows_gained (a ∷ all) =
      knows_same ts _ (λ p. GainOf a p ⊎ Has (λ b. GainOf b p) all) (λ p. Has (λ b. GainOf b p) (a ∷ all)) (λ p h. elim h [ inl g ↦ here g | inr g ↦ later g ]) (λ p h. has_cases h)
      (knows_joined ts _ _ (GainOf a) (λ p. Has (λ b. GainOf b p) all) (knows_gain a.block a.from a.to a.kind) (knows_gained all))

  -- ---- these are the turns directly before

  of_atomic : (a : Touch) (p : ℕ) → a.kind ≡ AtomicRead → (r : (cell : ℕ) × (a.from ≤ cell) × (cell < a.from + (a.to - a.from)) × Earlier ts k (Writing a.block cell) p) → (y : Turn) × (slice_get ts p ≡ Some y) × (p < k) × Why y a
  of_atomic a p is r =
      let low = r.1 in let high = r.2 in
      (r.3.turn, r.3.is, r.3.below, passing (has_map (λ b w. record { wrote = w.wrote; read = is; cell = record { block = a.block; cell = r.0; first = w.there; second = record { in_block = refl; from_here = low; up_to = omega arith } } }) r.3.so))

  of_gain : (a : Touch) (p : ℕ) → (κ : TouchKind) → a.kind ≡ κ → Gain a.block a.from a.to κ p → (y : Turn) × (slice_get ts p ≡ Some y) × (p < k) × Why y a
  unfolding Gain
  of_gain a p Read is g = absurd g
  of_gain a p Write is g = absurd g
  of_gain a p AtomicRead is g = of_atomic a p is (over_cell a.block a.from (a.to - a.from) p g)
  of_gain a p AtomicWrite is g = absurd g
  of_gain a p Lock is g =
      (g.turn, g.is, g.below, handing (has_map (λ b r. record { gave = r.gave; got = is; same_block = r.same_block; same_from = r.same_from; same_to = r.same_to }) g.so))
  of_gain a p Unlock is g = absurd g
  of_gain a p (Start t) is g = absurd g
  of_gain a p (Join t) is g = (g.turn, g.is, g.below, joining (let e = g.so in cc))

  one_gain : (p : ℕ) (all : List Touch) → Has (λ a. GainOf a p) all → (y : Turn) × (slice_get ts p ≡ Some y) × (p < k)
  one_gain p _ (here {x = a} g) = let r = of_gain a p a.kind refl g in (r.0, r.1, r.2)
  one_gain p _ (later h) = one_gain p _ h

  why_of : (a : Touch) (p : ℕ) (y : Turn) → slice_get ts p ≡ Some y → GainOf a p → Why y a
  why_of a p y is g = let r = of_gain a p a.kind refl g in let F : Turn → Type 0 = λ z. Why z a in subst F (some_one r.1 is) r.3

  pub gain_is_directly : (x : Turn) → slice_get ts k ≡ Some x → (p : ℕ) → Has (λ a. GainOf a p) x.touches → Directly ts p k
  gain_is_directly x at p h =
      let o = one_gain p x.touches h in
      record { first = o.0; second = x; first_is = o.1; second_is = at; earlier = o.2; orders = orders_of o.0 x (why_orders o.0 x x.touches (has_map (λ a g. why_of a p o.0 o.1 g) h)) }

  gain_at : (a : Touch) (p : ℕ) (κ : TouchKind) → a.kind ≡ κ → Gain a.block a.from a.to κ p → GainOf a p
  gain_at a p κ e g = let F : TouchKind → Type 0 = λ z. Gain a.block a.from a.to z p in subst F (sym e) g

  gain_of_join : (y : Turn) (p : ℕ) → slice_get ts p ≡ Some y → p < k → (a : Touch) → IsJoin y.thread a → GainOf a p
  unfolding Gain
  gain_of_join y p is lt a e = gain_at a p (Join y.thread) e (record { turn = y; is = is; below = lt; so = refl })

  got_of : (a : Touch) (ys : List Touch) → Has (λ b. Hands b a) ys → a.kind ≡ Lock
  got_of a _ (here h) = h.got
  got_of a _ (later h) = got_of a _ h

  gain_of_hand : (y : Turn) (p : ℕ) → slice_get ts p ≡ Some y → p < k → (a : Touch) → Has (λ b. Hands b a) y.touches → GainOf a p
  unfolding Gain
  gain_of_hand y p is lt a h =
      gain_at a p Lock (got_of a y.touches h) (record { turn = y; is = is; below = lt; so = has_map (λ b r. record { gave = r.gave; same_block = r.same_block; same_from = r.same_from; same_to = r.same_to }) h })

  read_of : (a : Touch) (ys : List Touch) → Has (λ b. Passes b a) ys → a.kind ≡ AtomicRead
  read_of a _ (here h) = h.read
  read_of a _ (later h) = read_of a _ h

  gain_of_pass : (y : Turn) (p : ℕ) → slice_get ts p ≡ Some y → p < k → (a : Touch) → Has (λ b. Passes b a) y.touches → GainOf a p
  unfolding Gain
  gain_of_pass y p is lt a h =
      let q = passed a y.touches h in
      let low = q.reads.from_here in let high = q.reads.up_to in
      gain_at a p AtomicRead (read_of a y.touches h)
      (over_at a.block a.from (a.to - a.from) p q.cell low (omega arith) (record { turn = y; is = is; below = lt; so = q.wrote }))

  Sources : Turn → ℕ → Type 0
  Sources x p = (Earlier ts k (OfThread x.thread) p ⊎ Earlier ts k (Starting x.thread) p) ⊎ Has (λ a. GainOf a p) x.touches

  source_of : (y x : Turn) (p : ℕ) → slice_get ts p ≡ Some y → p < k → Orders y x → Sources x p
  unfolding Sources
  source_of y x p is lt (same_thread e) = inl (inl (record { turn = y; is = is; below = lt; so = e }))
  source_of y x p is lt (starts h) = inl (inr (record { turn = y; is = is; below = lt; so = h }))
  source_of y x p is lt (joins h) = inr (has_map (gain_of_join y p is lt) h)
  source_of y x p is lt (hands h) = inr (has_map (gain_of_hand y p is lt) (has_swap h))
  source_of y x p is lt (passes h) = inr (has_map (gain_of_pass y p is lt) (has_swap h))

  directly_is_source : (x : Turn) → slice_get ts k ≡ Some x → (p : ℕ) → Directly ts p k → Sources x p
  directly_is_source x at p d =
      let F : Turn → Type 0 = λ z. Orders d.first z in source_of d.first x p d.first_is d.earlier (subst F (some_one d.second_is at) d.orders)

  source_is_directly : (x : Turn) → slice_get ts k ≡ Some x → (p : ℕ) → Sources x p → Directly ts p k
  unfolding Sources
  source_is_directly x at p (inl (inl e)) = record { first = e.turn; second = x; first_is = e.is; second_is = at; earlier = e.below; orders = same_thread e.so }
  source_is_directly x at p (inl (inr e)) = record { first = e.turn; second = x; first_is = e.is; second_is = at; earlier = e.below; orders = starts e.so }
  source_is_directly x at p (inr h) = gain_is_directly x at p h

  pub knows_directly : (x : Turn) → slice_get ts k ≡ Some x → Knows ts (joined (joined (c.threads x.thread) (c.started x.thread)) (gained_all c x.touches)) (λ p. Directly ts p k)
  unfolding Sources
  knows_directly x at =
      knows_same ts _ (Sources x) (λ p. Directly ts p k) (source_is_directly x at) (directly_is_source x at)
      (knows_joined ts _ _ (λ p. Earlier ts k (OfThread x.thread) p ⊎ Earlier ts k (Starting x.thread) p) (λ p. Has (λ a. GainOf a p) x.touches)
      (knows_joined ts _ _ (Earlier ts k (OfThread x.thread)) (Earlier ts k (Starting x.thread)) (s.threads x.thread) (s.started x.thread)) (knows_gained x.touches))
