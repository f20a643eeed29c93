-- Lists of touches, one of which is so; and the tests of a touch.
use Rattle.std.proofs.Common.{◌≡◌, ℕ, ◌≤◌, nat_le, ◌&&◌, ◌⊎◌, inl, inr, List, [], ◌∷◌, refl, sym, ap}
use Rattle.std.specs.Bool.{Decides}
use Rattle.std.proofs.lemmas.Bool.Decides.{Decides-eqb, Decides-and, Decides-ltb, Decides-like}
use Rattle.std.proofs.lemmas.Bool.{leb-true, le-leb}
use Rattle.race_rules.specs.declared.touch.Touch.{Touch}
use Rattle.race_rules.specs.declared.touch.TouchKind.{TouchKind}
use Rattle.race_rules.specs.declared.touch.TouchKind.TheVariants.{Read, Write, AtomicRead, AtomicWrite, Lock, Unlock, Start, Join}
use Rattle.race_rules.specs.Turns.{Has, CoversCell}
use Rattle.race_rules.specs.Turns.Has.{here, later}
use Rattle.race_rules.specs.Order.{IsStart}
use Rattle.race_rules.specs.Sound.{IsRelease, IsAtomicWriteOf}
use Rattle.race_rules.specs.Clocks.{is_start, is_unlock, is_atomic_write, is_of, is_of_all}

pub no_has : {X : Type 0} {P : X → Type 0} → Has P [] → ⊥
no_has h = elim h [ ]

pub has_map : {X : Type 0} {P Q : X → Type 0} {xs : List X} → ((x : X) → P x → Q x) → Has P xs → Has Q xs
has_map f (here {x = x} h) = here (f x h)
has_map f (later h) = later (has_map f h)

pub has_cases : {X : Type 0} {P : X → Type 0} {x : X} {xs : List X} → Has P (x ∷ xs) → P x ⊎ Has P xs
has_cases (here h) = inl h
has_cases (later h) = inr h

pub has_swap : {X Y : Type 0} {R : X → Y → Type 0} {xs : List X} {ys : List Y} → Has (λ y. Has (λ x. R x y) xs) ys → Has (λ x. Has (λ y. R x y) ys) xs
has_swap (here h) = has_map (λ x r. here r) h
has_swap (later h) = has_map (λ x r. later r) (has_swap h)

-- ---- tests

starts_of : (t : ℕ) (κ : TouchKind) → Decides (is_start t κ) (κ ≡ Start t)
starts_of t (Start u) = Decides-like _ (λ e. ap Start (sym e)) (λ e. cc) (Decides-eqb t u)
starts_of t Read = (λ h. cc, λ h. cc)
starts_of t Write = (λ h. cc, λ h. cc)
starts_of t AtomicRead = (λ h. cc, λ h. cc)
starts_of t AtomicWrite = (λ h. cc, λ h. cc)
starts_of t Lock = (λ h. cc, λ h. cc)
starts_of t Unlock = (λ h. cc, λ h. cc)
starts_of t (Join u) = (λ h. cc, λ h. cc)

pub start_tells : (t : ℕ) (a : Touch) → Decides (is_start t a.kind) (IsStart t a)
start_tells t a = starts_of t a.kind

unlocks_of : (κ : TouchKind) → Decides (is_unlock κ) (κ ≡ Unlock)
unlocks_of Unlock = (λ h. refl, λ h. refl)
unlocks_of (Start u) = (λ h. cc, λ h. cc)
unlocks_of Read = (λ h. cc, λ h. cc)
unlocks_of Write = (λ h. cc, λ h. cc)
unlocks_of AtomicRead = (λ h. cc, λ h. cc)
unlocks_of AtomicWrite = (λ h. cc, λ h. cc)
unlocks_of Lock = (λ h. cc, λ h. cc)
unlocks_of (Join u) = (λ h. cc, λ h. cc)

atomic_writes_of : (κ : TouchKind) → Decides (is_atomic_write κ) (κ ≡ AtomicWrite)
atomic_writes_of AtomicWrite = (λ h. refl, λ h. refl)
atomic_writes_of (Start u) = (λ h. cc, λ h. cc)
atomic_writes_of Read = (λ h. cc, λ h. cc)
atomic_writes_of Write = (λ h. cc, λ h. cc)
atomic_writes_of AtomicRead = (λ h. cc, λ h. cc)
atomic_writes_of Unlock = (λ h. cc, λ h. cc)
atomic_writes_of Lock = (λ h. cc, λ h. cc)
atomic_writes_of (Join u) = (λ h. cc, λ h. cc)

pub of_all_tells : (a : Touch) (block from to : ℕ) → Decides (is_of_all a block from to) ((a.block ≡ block) × ((a.from ≡ from) × (a.to ≡ to)))
of_all_tells a block from to = Decides-and _ _ (Decides-eqb a.block block) (Decides-and _ _ (Decides-eqb a.from from) (Decides-eqb a.to to))

pub release_tells : (block from to : ℕ) (a : Touch) → Decides (is_unlock a.kind && is_of_all a block from to) (IsRelease block from to a)
release_tells block from to a =
    Decides-like _ (λ h. record { gave = h.0; same_block = h.1.0; same_from = h.1.1.0; same_to = h.1.1.1 })
    (λ r. (r.gave, (r.same_block, (r.same_from, r.same_to)))) (Decides-and _ _ (unlocks_of a.kind) (of_all_tells a block from to))

le_tells : (a b : ℕ) → Decides (nat_le a b) (a ≤ b)
le_tells a b = (leb-true a b, le-leb a b)

pub reach_tells : (a : Touch) (block cell : ℕ) → Decides (is_of a block cell) (CoversCell a block cell)
reach_tells a block cell =
    Decides-like _ (λ h. record { in_block = h.0; from_here = h.1.0; up_to = h.1.1 })
    (λ r. (r.in_block, (r.from_here, r.up_to))) (Decides-and _ _ (Decides-eqb a.block block) (Decides-and _ _ (le_tells a.from cell) (Decides-ltb cell a.to)))

pub write_tells : (block cell : ℕ) (a : Touch) → Decides (is_atomic_write a.kind && is_of a block cell) (IsAtomicWriteOf block cell a)
write_tells block cell a =
    Decides-like _ (λ h. record { wrote = h.0; there = h.1 }) (λ r. (r.wrote, r.there)) (Decides-and _ _ (atomic_writes_of a.kind) (reach_tells a block cell))
