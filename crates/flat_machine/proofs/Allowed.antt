-- What the machine chooses is allowed: a free id, and a place where the object fits.
use Rattle.std.proofs.Common.{◌≡◌, ℕ, zero, suc, ◌+◌, ◌*◌, ◌<◌, Bool, true, false, cond, eqb, ◌||◌, List, [], ◌∷◌, length, Option, Some, None, refl, subst, arith}
use Rattle.std.specs.Prelude.{IsNone, is_none, nat_lt}
use Rattle.std.specs.List.{find, position_or_len, range_with_len}
use Rattle.std.proofs.lemmas.Bool.{ltb-true}
use Rattle.std.proofs.lemmas.List.Sums.{passes_at_first}
use Rattle.handle_table.specs.Table.{IsFree}
use Rattle.sub_heaps.specs.SubHeaps.{SubHeaps, FitsAt, rounded}
use Rattle.arena_meaning.specs.Arena.{Storage}
use Rattle.struct_ir.specs.Flow.{Here, does, tests, passes, round, returns}
use Rattle.struct_ir.specs.Nodes.{Action, load, store, copy_bytes, malloc, calloc, realloc, free, change, compare, print, lock, unlock, destroy, start, join, set, call, step, look, safepoint, begin_object, end_object}
use Rattle.arena_meaning.specs.Changes.{is_live_start}
use Rattle.flat_meaning.specs.Accesses.{Choice, plain, got, null, wait}
use Rattle.flat_meaning.specs.Allowed.{IsRenewable, MayAct, MayBeGiven, MayDo, MayGet, MayTry}
use Rattle.flat_meaning.specs.Words.{Words, word_at}
use Rattle.flat_machine.specs.Choices.{action_choice, choice_here, fits_at, got_or, is_renewable, least_free, lowest_fit, malloc_choice, room_or, served_choice, sized_choice}
use Rattle.flat_machine.proofs.Choices.{Decides-fits}

-- ---- ids and places

is_free_entry : (o : Option ℕ) → is_none o ≡ true → IsNone o
is_free_entry None e = refl
is_free_entry (Some a) e = absurd cc

-- the least free id is free
pub free_is : (table : List (Option ℕ)) (id : ℕ) → least_free table ≡ Some id → IsFree table id
free_is table id e = by (nat_lt (position_or_len is_none table) (length table)) refl e where
  by : (b : Bool) → nat_lt (position_or_len is_none table) (length table) ≡ b → cond b (Some (position_or_len is_none table)) None ≡ Some id → IsFree table id
  by true is e =
      let here : position_or_len is_none table ≡ id = cc in
      let within = ltb-true (position_or_len is_none table) (length table) is in
      subst (IsFree table) here (within, is_free_entry _ (passes_at_first is_none table None within))
  by false is e = absurd cc

found_by : (p : ℕ → Bool) (a n k : ℕ) (b : Bool) → p a ≡ b → (find p (range_with_len (a + 1) n) ≡ Some k → (k < a + 1 + n) × (p k ≡ true)) → cond b (Some a) (find p (range_with_len (a + 1) n)) ≡ Some k → (k < a + suc n) × (p k ≡ true)
found_by p a n k true is rest e = let here : a ≡ k = cc in (omega (arith, here), subst (λ (i : ℕ). p i ≡ true) here is)
found_by p a n k false is rest e = let later = rest e in (omega (arith, later.0), later.1)

found : (p : ℕ → Bool) (a n k : ℕ) → find p (range_with_len a n) ≡ Some k → (k < a + n) × (p k ≡ true)
found p a zero k e = absurd cc
found p a (suc n) k e = found_by p a n k (p a) refl (found p (a + 1) n k) e

-- at the lowest place that fits the bytes fit
pub fits_is : (h : SubHeaps) (bytes at : ℕ) → lowest_fit h bytes ≡ Some at → FitsAt h bytes at
fits_is h bytes at e =
    let here = found (fits_at h bytes) 0 (h.count * h.size) at e in
    let within : at < h.count * h.size = omega (arith, here.0) in
    (Decides-fits h bytes at within).0 here.1

-- ---- choices

got_may : (s : Storage) (size : ℕ) (other : Choice) (o q : Option ℕ) → least_free s.table ≡ o → lowest_fit s.heaps (rounded size) ≡ q → MayGet s size other → MayGet s size (got_or o q other)
got_may s size other None q e f may = may
got_may s size other (Some id) None e f may = may
got_may s size other (Some id) (Some place) e f may = (free_is s.table id e, fits_is s.heaps (rounded size) place f)

room_may : (s : Storage) (size : ℕ) (other : Choice) → MayGet s size other → MayGet s size (room_or s size other)
room_may s size other may = got_may s size other (least_free s.table) (lowest_fit s.heaps (rounded size)) refl refl may

sized_may : (s : Storage) (size : ℕ) → MayGet s size (sized_choice s size)
sized_may s size = by (nat_lt s.heaps.size (rounded size)) where
  by : (b : Bool) → MayGet s size (cond b null (room_or s size wait))
  by true = tt
  by false = room_may s size wait tt

pub malloc_may : (s : Storage) (word size : ℕ) → MayGet s size (malloc_choice s word size)
malloc_may s word size = by (is_renewable s word) where
  by : (b : Bool) → MayGet s size (cond b (sized_choice s size) null)
  by true = sized_may s size
  by false = tt

pub served_may : (s : Storage) (word size : ℕ) → MayGet s size (served_choice s word size)
served_may s word size = room_may s size null tt

-- where a word may be one of a realloc, whatever is chosen may be
renewable_any : (s : Storage) (word : ℕ) (choice : Choice) → (eqb word 0 ≡ false → is_live_start s word ≡ true) → IsRenewable s word choice
renewable_any s word plain h = h
renewable_any s word (got id place) h = h
renewable_any s word null h = tt
renewable_any s word wait h = h

either_lives : (a b : Bool) → (a || b) ≡ true → a ≡ false → b ≡ true
either_lives true b e f = absurd cc
either_lives false b e f = e

pub malloc_tries : (s : Storage) (word size : ℕ) → IsRenewable s word (malloc_choice s word size)
malloc_tries s word size = by (is_renewable s word) refl where
  by : (b : Bool) → is_renewable s word ≡ b → IsRenewable s word (cond b (sized_choice s size) null)
  by true is = renewable_any s word (sized_choice s size) (either_lives (eqb word 0) (is_live_start s word) is)
  by false is = tt

-- an allocation that is served doesn't wait on
pub served_goes : (s : Storage) (word size : ℕ) → served_choice s word size ≡ wait → ⊥
served_goes s word size e = by (least_free s.table) (lowest_fit s.heaps (rounded size)) e where
  by : (o q : Option ℕ) → got_or o q null ≡ wait → ⊥
  by None q e = absurd cc
  by (Some id) None e = absurd cc
  by (Some id) (Some place) e = absurd cc

-- ---- by what stands there

module _ (s : Storage) (rule : (word size : ℕ) → Choice) (may : (word size : ℕ) → MayGet s size (rule word size)) (l : Words) where
  action_may : (a : Action) (temps : List ℕ) → MayDo s l (action_choice rule l a temps) a temps
  action_may (load how) temps = refl
  action_may (store how) temps = refl
  action_may (copy_bytes align same) temps = refl
  action_may malloc [] = refl
  action_may malloc (t ∷ []) = may 0 (word_at l t)
  action_may malloc (t ∷ u ∷ temps) = refl
  action_may calloc [] = refl
  action_may calloc (t ∷ []) = refl
  action_may calloc (t ∷ u ∷ []) = may 0 (word_at l t * word_at l u)
  action_may calloc (t ∷ u ∷ v ∷ temps) = refl
  action_may realloc [] = refl
  action_may realloc (t ∷ []) = refl
  action_may realloc (t ∷ u ∷ []) = may (word_at l t) (word_at l u)
  action_may realloc (t ∷ u ∷ v ∷ temps) = refl
  action_may free temps = refl
  action_may (change how t) temps = refl
  action_may (compare t) temps = refl
  action_may (print pieces) temps = refl
  action_may lock temps = refl
  action_may unlock temps = refl
  action_may destroy temps = refl
  action_may (start function) temps = refl
  action_may join temps = refl

  -- where it is served
  pub given_may : (h : Here) → MayBeGiven s l (choice_here rule l h) h
  given_may (does place (set to calc)) = refl
  given_may (does place (call c)) = refl
  given_may (does place (step n)) = action_may n.action n.temps
  given_may (does place (look slot base)) = refl
  given_may (does place (safepoint slots)) = refl
  given_may (does place (begin_object i)) = refl
  given_may (does place (end_object i)) = refl
  given_may (tests place temp) = refl
  given_may passes = refl
  given_may round = refl
  given_may (returns temp) = refl

  module _ (tries : (word size : ℕ) → IsRenewable s word (rule word size)) where
    action_tries : (a : Action) (temps : List ℕ) → MayTry s l (action_choice rule l a temps) a temps
    action_tries (load how) temps = tt
    action_tries (store how) temps = tt
    action_tries (copy_bytes align same) temps = tt
    action_tries malloc [] = tt
    action_tries malloc (t ∷ []) = tt
    action_tries malloc (t ∷ u ∷ temps) = tt
    action_tries calloc [] = tt
    action_tries calloc (t ∷ []) = tt
    action_tries calloc (t ∷ u ∷ []) = tt
    action_tries calloc (t ∷ u ∷ v ∷ temps) = tt
    action_tries realloc [] = tt
    action_tries realloc (t ∷ []) = tt
    action_tries realloc (t ∷ u ∷ []) = tries (word_at l t) (word_at l u)
    action_tries realloc (t ∷ u ∷ v ∷ temps) = tt
    action_tries free temps = tt
    action_tries (change how t) temps = tt
    action_tries (compare t) temps = tt
    action_tries (print pieces) temps = tt
    action_tries lock temps = tt
    action_tries unlock temps = tt
    action_tries destroy temps = tt
    action_tries (start function) temps = tt
    action_tries join temps = tt

    -- where it is done
    pub here_may : (h : Here) → MayAct s l (choice_here rule l h) h
    here_may (does place (set to calc)) = refl
    here_may (does place (call c)) = refl
    here_may (does place (step n)) = (action_may n.action n.temps, action_tries n.action n.temps)
    here_may (does place (look slot base)) = refl
    here_may (does place (safepoint slots)) = refl
    here_may (does place (begin_object i)) = refl
    here_may (does place (end_object i)) = refl
    here_may (tests place temp) = refl
    here_may passes = refl
    here_may round = refl
    here_may (returns temp) = refl
