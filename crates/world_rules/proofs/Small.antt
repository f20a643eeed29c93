-- The small machine on which journals are worked by hand is lawful.
use Rattle.std.proofs.Common.{◌≡◌, ℕ, zero, suc, ◌+◌, ◌-◌, ◌*◌, ◌<◌, ◌≤◌, ◌==◌, ◌&&◌, ◌||◌, Bool, true, false, cond, nat_lt, nat_le, List, [], ◌∷◌, length, ap, sym, ◌∙◌, refl, arith, pos, Option, Some, None}
use Rattle.std.specs.Prelude.{ℤ}
use Rattle.std.specs.List.{AllZip}
use Rattle.std.proofs.lemmas.Bool.Decides.{nat_tests}
use Rattle.flat_rules.specs.Machine.{steps, Acted, Turned, stepped, got, made_thread, refused_thread, found_busy, wants_room, rested, ended}
use Rattle.flat_rules.specs.States.{most_threads}
use Rattle.flat_rules.specs.Events.{away, goes}
use Rattle.flat_rules.specs.Lawful.{IsFlat, IsOpened, Goes_on, Leaves, KeptAt, Clears, is_end, is_for_room}
use Rattle.flat_rules.specs.Toys.{evacuates_by, Deed, safe, spin, store, lock, unlock, start, join, alloc, stop, Want, nothing, key, other, room, Thread, Common, has, rounds, behind, work, rest_at, local_by, comes_to, deed_by, act_by, waits_by, taken, serve, toy, common}
use Rattle.world_rules.specs.Rows.{Any, SmallIsLawful}

or_none : (b c : Bool) → b ≡ (b || (c && false))
or_none true c = refl
or_none false true = refl
or_none false false = refl

one_more_end : (ks : List ℕ) (t k : ℕ) → has (t ∷ ks) k ≡ (has ks k || ((k == t) && true))
one_more_end ks t k = by (t == k) refl (has ks k)
  where
    other_way : (b : Bool) → (t == k) ≡ b → (k == t) ≡ b
    other_way true e = grind (arith, nat_tests)
    other_way false e = grind (arith, nat_tests)

    by : (b : Bool) → (t == k) ≡ b → (h : Bool) → cond b true h ≡ (h || ((k == t) && true))
    by true e h = is h ∙ ap (λ (z : Bool). h || (z && true)) (sym (other_way true e))
      where
        is : (h : Bool) → true ≡ (h || true)
        is true = refl
        is false = refl
    by false e h = is h ∙ ap (λ (z : Bool). h || (z && true)) (sym (other_way false e))
      where
        is : (h : Bool) → h ≡ (h || false)
        is true = refl
        is false = refl

module _ (code : ℕ → List Deed) where
  -- what `local` leaves
  abbrev Moves : Thread → Thread → Type 0
  Moves c d = (d.number ≡ c.number) × (d.progress ≡ steps) × (d.want ≡ c.want)

  rests_move : (ds : List Deed) (c : Thread) → Moves c (rest_at ds c)
  rests_move (safe ∷ ds) c = (refl, refl, refl)
  rests_move (spin ∷ ds) c = (refl, refl, refl)
  rests_move ds c = (refl, refl, refl)

  work_moves : (ds : List Deed) (c : Thread) → Moves c (work ds c)
  work_moves (spin ∷ ds) c = (refl, refl, refl)
  work_moves ds c = (refl, refl, refl)

  moves : (n : ℕ) (c : Thread) → Moves c (local_by n c)
  moves zero c = rests_move c.deeds c
  moves (suc n) c = work_moves (behind c.deeds) (record c { did = rounds c.deeds; rests = false })

  module _ (s : Common) (c : Thread) where
    -- what a step leaves
    pub record Does (a : Acted Common Thread) : Type 0 where
      pub on_ : (goes a.turned ≡ away → ⊥) → Goes_on (toy code) Any a c
      pub left : s.made ≤ most_threads → Leaves (toy code) Any s c.number a

    cond_does : (b : Bool) (x y : Acted Common Thread) → (b ≡ true → Does x) → (b ≡ false → Does y) → Does (cond b x y)
    cond_does true x y p q = p refl
    cond_does false x y p q = q refl

    does : (turned : Turned) (after : Common) (want : Want) (ds : List Deed) → ((goes turned ≡ away → ⊥) → waits_by want ≡ is_for_room turned) → s.made ≤ after.made → (s.made ≤ most_threads → after.made ≤ most_threads)
        → ((k : ℕ) → has after.ends k ≡ (has s.ends k || ((k == c.number) && is_end turned))) → Does (comes_to s c turned after want ds)
    does turned after want ds waits more most ends = record {
      on_ = λ stays. record { of_ = tt; thread = refl; progress = refl; waits = waits stays; stands = λ _. refl };
      left = λ few. record { of_ = tt; more = more; most = most few; ends = ends };
    }

    quiet : (k : ℕ) → has s.ends k ≡ (has s.ends k || ((k == c.number) && false))
    quiet k = or_none (has s.ends k) (k == c.number)

    same : s.made ≤ s.made
    same = omega arith

    stops : (v : ℤ) (ds : List Deed) → Does (deed_by (stop v) ds s c)
    stops v ds = does (ended v) (record s { ends = c.number ∷ s.ends }) nothing ds (λ stays. absurd (stays refl)) same (λ few. few) (one_more_end s.ends c.number)

    deeds : (d : Deed) (ds : List Deed) → Does (deed_by d ds s c)
    deeds lock ds = cond_does s.held _ _ (λ _. does found_busy s key (lock ∷ ds) (λ _. refl) same (λ few. few) quiet) (λ _. does stepped (record s { held = true }) nothing ds (λ _. refl) same (λ few. few) quiet)
    deeds unlock ds = does stepped (record s { held = false }) nothing ds (λ _. refl) same (λ few. few) quiet
    deeds start ds = cond_does (nat_lt s.made 64) _ _
        (λ e. does (made_thread s.made) (record s { made = s.made + 1 }) nothing ds (λ _. refl) (omega arith) (λ few. let z : s.made < 64 = grind (arith, nat_tests) in omega arith) quiet)
        (λ _. does refused_thread s nothing ds (λ _. refl) same (λ few. few) quiet)
    deeds (join k) ds = cond_does (has s.ends k) _ _ (λ _. does stepped s nothing ds (λ _. refl) same (λ few. few) quiet) (λ _. does found_busy s (other k) (join k ∷ ds) (λ _. refl) same (λ few. few) quiet)
    deeds alloc ds = cond_does (nat_le s.free 0) _ _ (λ _. does wants_room s room ds (λ _. refl) same (λ few. few) quiet) (λ _. does (got s.objects (16 * s.objects)) (record s { free = s.free - 1; objects = s.objects + 1 }) nothing ds (λ _. refl) same (λ few. few) quiet)
    deeds (stop v) ds = stops v ds
    deeds safe ds = does stepped s nothing ds (λ _. refl) same (λ few. few) quiet
    deeds spin ds = does stepped s nothing ds (λ _. refl) same (λ few. few) quiet
    deeds store ds = does stepped s nothing ds (λ _. refl) same (λ few. few) quiet

    acts : (b : Bool) (ds : List Deed) → Does (act_by b ds s c)
    acts true ds = does rested s nothing ds (λ _. refl) same (λ few. few) quiet
    acts false [] = stops (pos 0) []
    acts false (d ∷ ds) = deeds d ds

  -- what a barrier leaves
  pub record Serves (s : Common) (hs : List (Option Thread)) : Type 0 where
    pub kept : AllZip (KeptAt (toy code) Any) hs (serve s hs).homes
    pub made : (serve s hs).shared.made ≡ s.made
    pub ends : (serve s hs).shared.ends ≡ s.ends
    pub few : length (serve s hs).served ≤ length hs

  taken_same : (s : Common) → ((taken s).made ≡ s.made) × ((taken s).ends ≡ s.ends)
  taken_same s = by (nat_le s.free 0)
    where
      by : (b : Bool) → ((cond b s (record s { free = s.free - 1; objects = s.objects + 1 })).made ≡ s.made) × ((cond b s (record s { free = s.free - 1; objects = s.objects + 1 })).ends ≡ s.ends)
      by true = (refl, refl)
      by false = (refl, refl)

  serves : (hs : List (Option Thread)) (s : Common) → Serves s hs
  serves [] s = record { kept = tt; made = refl; ends = refl; few = omega arith }
  serves (None ∷ hs) s = let r = serves hs s in record { kept = (tt, r.kept); made = r.made; ends = r.ends; few = let a = r.few in omega arith }
  serves (Some t ∷ hs) s = by t.want (serves hs s) (serves hs (taken s))
    where
      by : (w : Want) → Serves s hs → Serves (taken s) hs → Serves s (Some (record t { want = w }) ∷ hs)
      by nothing r r' = record { kept = ((tt, refl, refl, refl, refl), r.kept); made = r.made; ends = r.ends; few = let a = r.few in omega arith }
      by key r r' = record { kept = ((tt, refl, refl, refl, refl), r.kept); made = r.made; ends = r.ends; few = let a = r.few in omega arith }
      by (other k) r r' = record { kept = ((tt, refl, refl, refl, refl), r.kept); made = r.made; ends = r.ends; few = let a = r.few in omega arith }
      by room r r' = let e = taken_same s in record { kept = ((tt, refl, refl, refl, refl), r'.kept); made = r'.made ∙ e.0; ends = r'.ends ∙ e.1; few = let a = r'.few in omega arith }

  -- an evacuation leaves the threads as they are
  clears_by : (s : Common) (b : Bool) → Clears (toy code) Any s (evacuates_by b s)
  clears_by s true = record { of_ = tt; threads = refl; ends = λ k. refl }
  clears_by s false = record { of_ = tt; threads = refl; ends = λ k. refl }

  small_lawful : IsFlat (toy code) Any Any
  small_lawful = record {
    blank_of = λ s k of_ few. tt;
    blank_thread = λ k. refl;
    blank_progress = λ k. refl;
    blank_stands = λ k. refl;
    blank_waits = λ k. refl;
    few = λ s hs. (serves hs (record s { free = 2 })).few;
    begins = λ s c lives is. record { of_ = tt; thread = refl; progress = refl; waits = refl };
    works = λ n c of_ bound is. let h = moves n c in record { of_ = tt; thread = h.0; progress = h.1; waits = ap waits_by h.2 };
    goes_on = λ s c lives is stays. (acts s c c.rests c.deeds).on_ stays;
    leaves = λ s c lives is few. (acts s c c.rests c.deeds).left few;
    clears = λ s hs of_ all home. clears_by s (nat_le 2 s.objects);
    sweeps = λ s hs of_ all home. let r = serves hs (record s { free = 2 }) in record { of_ = tt; kept = r.kept; threads = r.made; ends = λ k. ap (λ (ks : List ℕ). has ks k) r.ends };
  }

  small_opened : IsOpened (toy code) Any common
  small_opened = record { of_ = tt; one = refl; going = λ k. refl }

pub small_is_lawful : SmallIsLawful
small_is_lawful code = (small_lawful code, small_opened code)
