-- What is told is told of one end alone.
use Rattle.std.proofs.Common.{◌≡◌, ◌≢◌, ℕ, ◌<◌, ◌≤◌, inl, inr, List, length, slice_get, Some, refl, sym, ap, subst, ◌∙◌, arith}
use Rattle.std.proofs.lemmas.Bool.{cases_lt}
use Rattle.std.proofs.lemmas.Option.{slice_get_within}
use Rattle.ak_words.specs.declared.rule.Rule.{Rule}
use Rattle.block_store.specs.Runs.{State, Run, reaches, breaks}
use Rattle.c_meaning.specs.Meaning.{run}
use Rattle.c_meaning.specs.Touching.{turns_of}
use Rattle.race_rules.specs.declared.touch.Touch.{Touch}
use Rattle.race_rules.specs.Turns.{Turn}
use Rattle.race_rules.specs.Races.{Race, Second, First}
use Rattle.race_rules.specs.Shown.{FirstOf, ClashesOne}
use Rattle.race_rules.specs.Shown.FirstOf.{first_here, first_later}
use Rattle.race_rules.proofs.Knowing.{some_one}
use Rattle.race_check.specs.declared.ending.Side.{Side}
use Rattle.race_check.specs.declared.ending.RaceEnd.{RaceEnd}
use Rattle.race_check.specs.declared.ending.RaceEnd.TheVariants as ends
use Rattle.race_check.specs.Ends.{HaveNoRace, IsSide, IsTold, IsEnd, OneEndAlone}
use Rattle.race_check.specs.Rows.{side}

-- ---- a first of a list is one alone

first_one : {X : Type 0} (P : X → Type 0) (xs : List X) (x y : X) → FirstOf P xs x → FirstOf P xs y → x ≡ y
first_one P _ x y (first_here p) (first_here q) = refl
first_one P _ x y (first_here p) (first_later n q) = absurd (n p)
first_one P _ x y (first_later n p) (first_here q) = absurd (n q)
first_one P _ x y (first_later n p) (first_later m q) = first_one P _ x y p q

-- ---- the first race is one alone

second_of : (ts : List Turn) (i j : ℕ) → Race ts i j → Second ts j
second_of ts i j r = record { turn = i; race = r }

same_second : (ts : List Turn) (i j k l : ℕ) → First ts i j → First ts k l → j ≡ l
same_second ts i j k l f g =
    elim (cases_lt j l) [
      | inl lt ↦ absurd (g.no_sooner j lt (second_of ts i j f.race))
      | inr le ↦ elim (cases_lt l j) [ inl lt ↦ absurd (f.no_sooner l lt (second_of ts k l g.race)) | inr ge ↦ omega (arith, le, ge) ]
    ]

same_first : (ts : List Turn) (i k j : ℕ) → First ts i j → First ts k j → i ≡ k
same_first ts i k j f g =
    elim (cases_lt i k) [
      | inl lt ↦ absurd (g.none_below i lt f.race)
      | inr le ↦ elim (cases_lt k i) [ inl lt ↦ absurd (f.none_below k lt g.race) | inr ge ↦ omega (arith, le, ge) ]
    ]

-- what is shown of two turns
record Sides (x y : Turn) (first second : Side) : Type 0 where
  one : Touch
  other : Touch
  first_one : FirstOf (ClashesOne y.touches) x.touches one
  second_one : FirstOf (ClashesOne x.touches) y.touches other
  first_side : IsSide x one first
  second_side : IsSide y other second

sides_of : (ts : List Turn) (x y : Turn) (first second : Side) → IsTold ts first second → slice_get ts first.turn ≡ Some x → slice_get ts second.turn ≡ Some y → Sides x y first second
sides_of ts x y first second t is at =
    let p = some_one t.shown.race.first_is is in
    let q = some_one t.shown.race.second_is at in
    let F : Turn → Turn → Type 0 = λ u v. Sides u v first second in
    let G : Turn → Type 0 = λ u. F u y in
    let H : Turn → Type 0 = λ v. F t.shown.race.first v in
    subst G p (subst H q (record { one = t.one; other = t.other; first_one = t.shown.touches.first; second_one = t.shown.touches.second; first_side = t.first_side; second_side = t.second_side }))

same_sides : (x y : Turn) (a b c d : Side) → Sides x y a b → Sides x y c d → ((a.thread ≡ c.thread) × (a.place ≡ c.place)) × ((b.thread ≡ d.thread) × (b.place ≡ d.place))
same_sides x y a b c d s t =
    let one = first_one (ClashesOne y.touches) x.touches s.one t.one s.first_one t.first_one in
    let other = first_one (ClashesOne x.touches) y.touches s.other t.other s.second_one t.second_one in
    let F : Touch → ℕ = λ z. z.place in (
      (s.first_side.thread ∙ sym t.first_side.thread, s.first_side.place ∙ ap F one ∙ sym t.first_side.place),
      (s.second_side.thread ∙ sym t.second_side.thread, s.second_side.place ∙ ap F other ∙ sym t.second_side.place),
    )

same_side : (a b : Side) → a.thread ≡ b.thread → a.place ≡ b.place → a.turn ≡ b.turn → a ≡ b
same_side a b e f g = ap (λ t. side t a.place a.turn) e ∙ ap (λ p. side b.thread p a.turn) f ∙ ap (λ n. side b.thread b.place n) g

told_once : (ts : List Turn) (a b c d : Side) → IsTold ts a b → IsTold ts c d → (a ≡ c) × (b ≡ d)
told_once ts a b c d s t =
    let later : b.turn ≡ d.turn = same_second ts a.turn b.turn c.turn d.turn s.least t.least in
    let F : ℕ → Type 0 = λ n. First ts a.turn n in
    let sooner : a.turn ≡ c.turn = same_first ts a.turn c.turn d.turn (subst F later s.least) t.least in
    let G : ℕ → Type 0 = λ n. slice_get ts n ≡ Some s.shown.race.first in
    let H : ℕ → Type 0 = λ n. slice_get ts n ≡ Some s.shown.race.second in
    let x = s.shown.race.first in
    let y = s.shown.race.second in
    let both = same_sides x y a b c d (sides_of ts x y a b s s.shown.race.first_is s.shown.race.second_is) (sides_of ts x y c d t (subst G sooner s.shown.race.first_is) (subst H later s.shown.race.second_is)) in
    (same_side a c both.0.0 both.0.1 sooner, same_side b d both.1.0 both.1.1 later)

-- ---- the three ends

is_second : (ts : List Turn) (first second : Side) → IsTold ts first second → Second ts second.turn
is_second ts first second t = second_of ts first.turn second.turn t.least.race

pub race_end : {A : Type 0} (ts : List Turn) (comes : Run A) (first second : Side) → IsTold ts first second → IsEnd ts comes (ends.Race first second)
race_end ts comes first second t = record {
  race = λ a b. (
    λ e.
        let p : first ≡ a = cc e in
        let q : second ≡ b = cc e in
        let F : Side → Type 0 = λ z. IsTold ts z b in
        let G : Side → Type 0 = λ z. IsTold ts first z in
        subst F p (subst G q t),
    λ u. let same = told_once ts first second a b t u in ap (λ z. ends.Race z second) same.0 ∙ ap (λ z. ends.Race a z) same.1,
  );
  broke = λ rule turns. (λ e. absurd (cc e), λ f. absurd (f.0 second.turn (is_second ts first second t)));
  clean = (λ e. absurd (cc e), λ f. absurd (f.0 second.turn (is_second ts first second t)));
}

pub broke_end : {A : Type 0} (ts : List Turn) (comes : Run A) (rule : Rule) (turns : ℕ) → HaveNoRace ts → comes ≡ breaks rule turns → IsEnd ts comes (ends.Broke rule turns)
broke_end {A} ts comes rule turns none is = record {
  race = λ a b. (λ e. absurd (cc e), λ u. absurd (none b.turn (is_second ts a b u)));
  broke = λ rule' turns'. (
    λ e.
        let p : rule ≡ rule' = cc e in
        let q : turns ≡ turns' = cc e in
        (none, is ∙ ap (λ r. breaks r turns) p ∙ ap (λ n. breaks rule' n) q),
    λ f.
        let same : ◌≡◌ {A = Run A} (breaks rule turns) (breaks rule' turns') = sym is ∙ f.1 in
        let p : rule ≡ rule' = cc same in
        let q : turns ≡ turns' = cc same in
        ap (λ r. ends.Broke r turns) p ∙ ap (λ n. ends.Broke rule' n) q,
  );
  clean = (λ e. absurd (cc e), λ f. absurd (f.1 rule turns is));
}

pub clean_end : {A : Type 0} (ts : List Turn) (comes : Run A) → HaveNoRace ts → ((rule : Rule) (turns : ℕ) → comes ≢ breaks rule turns) → IsEnd ts comes ends.Clean
clean_end ts comes none never = record {
  race = λ a b. (λ e. absurd (cc e), λ u. absurd (none b.turn (is_second ts a b u)));
  broke = λ rule turns. (λ e. absurd (cc e), λ f. absurd (never rule turns f.1));
  clean = (λ e. (none, never), λ f. refl);
}

-- ---- no race

-- where as many turns were walked as there are, none is the second of a race
pub none_race : (ts : List Turn) (k : ℕ) → ((j : ℕ) → j < k → Second ts j → ⊥) → length ts ≤ k → HaveNoRace ts
none_race ts k clean all j q =
    let within = slice_get_within ts j q.race.second q.race.second_is in
    clean j (omega (arith, within, all)) q

-- a run that reaches a state breaks no rule
pub reaches_breaks : {A : Type 0} (comes : Run A) (s : State A) → comes ≡ reaches s → (rule : Rule) (turns : ℕ) → comes ≢ breaks rule turns
reaches_breaks comes s e rule turns f = absurd (cc (sym e ∙ f))

-- ---- one end alone

module _ {A : Type 0} (ts : List Turn) (comes : Run A) where
  same_end : (e f : RaceEnd) → IsEnd ts comes e → IsEnd ts comes f → f ≡ e
  same_end ends.Clean f d g = g.clean.1 (d.clean.0 refl)
  same_end (ends.Race first second) f d g = (g.race first second).1 ((d.race first second).0 refl)
  same_end (ends.Broke rule turns) f d g = (g.broke rule turns).1 ((d.broke rule turns).0 refl)

pub one_end : OneEndAlone
one_end typed order e f d g = sym (same_end (turns_of typed order) (run typed order) e f d g)
