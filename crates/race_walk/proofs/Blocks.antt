-- Blocks of the history.
use Rattle.std.proofs.Common.{◌≡◌, ℕ, zero, suc, ◌<◌, ◌≤◌, nat_le, nat_lt, ◌&&◌, ◌+◌, Bool, true, false, cond, inl, inr, List, [], ◌∷◌, ◌++◌, length, slice_get, Option, None, if◌then◌else◌, refl, ap, arith, ◌∙◌}
use Rattle.std.proofs.lemmas.Bool.{cases_lt, lt-ltb, le-leb}
use Rattle.std.proofs.lemmas.Option.{slice_get_past}
use Rattle.smallvec.specs.SmallVec.{SmallVec}
use Rattle.race_rules.specs.declared.touch.Seen.{Seen}
use Rattle.race_rules.specs.Clocks.{Clock}
use Rattle.race_rules.specs.Histories.{noted}
use Rattle.race_walk.specs.declared.block.Block.{Block}
use Rattle.race_walk.specs.Views.{cell_of}
use Rattle.race_walk.specs.Blocks.{seen_at}
use Rattle.race_walk.proofs.Steps.{bool_cases, lt_false}

pub gone_at : (t : Bool) (o n : Option Block) (e : ℕ) → n ≡ cond t None o → seen_at n e ≡ (if t then [] else seen_at o e)
gone_at true o n e h = rw h refl
gone_at false o n e h = rw h refl

-- ---- the same at each of the first cells

pub spread_step : (xs : List (SmallVec Seen)) (y : SmallVec Seen) (all : List Seen) → y.items ≡ all → ((k : ℕ) → k < length xs → cell_of (slice_get xs k) ≡ all) → (k : ℕ) → k < length xs + 1 → cell_of (slice_get (xs ++ y ∷ []) k) ≡ all
spread_step [] y all e each zero h = e
spread_step [] y all e each (suc k) h = absurd (omega (arith, h))
spread_step (x ∷ xs) y all e each zero h = each zero (omega arith)
spread_step (x ∷ xs) y all e each (suc k) h = spread_step xs y all e (λ j lt. each (suc j) (omega (arith, lt))) k (omega (arith, h))

pub spread_end : (cells : List (SmallVec Seen)) (all : List Seen) (count c : ℕ) → length cells ≤ count → count ≤ length cells → ((k : ℕ) → k < length cells → cell_of (slice_get cells k) ≡ all) →
    cell_of (slice_get cells c) ≡ (if nat_lt c count then all else [])
spread_end cells all count c most least each = elim (cases_lt c count) [
  | inl lt ↦ rw (lt-ltb c count lt) (each c (omega arith))
  | inr le ↦ rw (lt_false c count le) (let F : Option (SmallVec Seen) → List Seen = λ o. cell_of o in ap F (slice_get_past cells c (omega arith)))
]

pub whole_seen : (v : Clock) (new : Seen) (from to count c : ℕ) (old now : List Seen) → from ≡ 0 → to ≡ count → now ≡ noted v new old →
    (if nat_lt c count then now else []) ≡ (if nat_le from c && nat_lt c to then noted v new (if nat_lt c count then old else []) else (if nat_lt c count then old else []))
whole_seen v new from to count c old now p q e =
    let g : nat_le from c ≡ true = le-leb from c (omega arith) in
    elim (bool_cases (nat_lt c count)) [ inl h ↦ rw (q, g, h) e | inr h ↦ rw (q, g, h) refl ]

pub split_seen : (v : Clock) (new : Seen) (test : Bool) (b l whole : List Seen) → b ≡ (if test then noted v new l else l) → l ≡ whole → b ≡ (if test then noted v new whole else whole)
split_seen v new test b l whole p e = let F : List Seen → List Seen = λ z. (if test then noted v new z else z) in p ∙ ap F e
