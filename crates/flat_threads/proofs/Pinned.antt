-- The handles in the slots that are listed where a thread's calls stand: of one call after the other, the last one first.
use Rattle.std.proofs.Common.{◌≡◌, ℕ, zero, suc, ◌+◌, ◌<◌, ◌≤◌, ◌⊎◌, inl, inr, List, [], ◌∷◌, ◌++◌, length, take, get_or, All, flat_map, Option, Some, None, append_assoc, append-nil, refl, sym, subst, ap, ◌∙◌, arith}
use Rattle.std.specs.Prelude.{unwrap_or}
use Rattle.std.proofs.lemmas.List.{take_all, length-append}
use Rattle.handle_table.specs.declared.frame.PinSlot.{PinSlot}
use Rattle.handle_table.specs.Frame.{HasSlot, listed_handles}
use Rattle.handle_table.specs.Words.{WordList}
use Rattle.struct_ir.specs.Flow.{Here}
use Rattle.struct_ir.specs.Instrs.{LinearCode}
use Rattle.struct_ir.specs.Linear.{Spot, linear}
use Rattle.struct_ir.specs.Machine.{Point}
use Rattle.struct_ir.specs.Threads.{Thread}
use Rattle.flat_meaning.specs.Allowed.{list_at, handles_in, handles_here, handles_if}
use Rattle.flat_meaning.specs.Stages.{Stage}
use Rattle.flat_meaning.specs.Words.{Used, Words}
use Rattle.flat_threads.specs.declared.call.Call.{Call}
use Rattle.flat_threads.specs.declared.call.Phase.{Phase}
use Rattle.flat_threads.specs.declared.call.Phase.TheVariants as phases
use Rattle.flat_threads.specs.Contexts.{IsProgram, IsThreadOf, IsStageIf, IsListFor}
use Rattle.flat_threads.specs.inner.Arrays.{point_of, callers_of, thread_of, stage_of, StandFrom, IsKept}
use Rattle.flat_threads.specs.inner.Parts.{IsAt, listed_at}
use Rattle.flat_threads.proofs.Listed.{listed_for, top_slots, top_handles, top_few, with_more}
use Rattle.flat_threads.proofs.Spans.{callers_push, kept_under, stand_front, slots_count, uncovers}
use Rattle.flat_threads.proofs.Threads.{room_is, stands_at, top_is, uncovered_is}

-- ---- the list where a call stands

-- no list lists nothing
pub handles_listed : (l : Words) (h : Here) → handles_in l (Some (listed_at h)) ≡ handles_in l (list_at h)
handles_listed l h = by (list_at h) where
  by : (o : Option (List ℕ)) → handles_in l (Some (unwrap_or o [])) ≡ handles_in l o
  by (Some list) = refl
  by None = refl

-- it names slots of the call
pub listed_is : (code : LinearCode) → IsProgram code → (t : Thread Spot Words) → IsThreadOf code t → IsListFor t.top.own (listed_at ((linear code.funcs).here t.top.at))
listed_is code program t all = by (list_at ((linear code.funcs).here t.top.at)) refl where
  by : (o : Option (List ℕ)) → list_at ((linear code.funcs).here t.top.at) ≡ o → IsListFor t.top.own (unwrap_or o [])
  by (Some list) e = let is = top_is code t.top t.callers all in listed_for code program is.0 t.top is.1 list e
  by None e = (λ k d lt. absurd (omega (arith, lt)), omega arith)

-- a thread has no more slots than there are
pub few_slots : (code : LinearCode) (t : Thread Spot Words) → IsThreadOf code t → t.top.own.below.slots + length t.top.own.slots ≤ 1024
few_slots code t all =
    let is = top_is code t.top t.callers all in
    let room = room_is code is.0 t.top.at.function is.1.function is.1.there is.1.room in
    let same = ap (λ (u : Used). u.slots) is.1.used in
    omega (arith, room.slots, same, is.1.slots)

-- ---- one call after the other

-- the handles of calls
abbrev pub handles_all : LinearCode → List (Point Spot Words) → List ℕ
handles_all code calls = flat_map (handles_here (linear code.funcs)) calls

-- where so many calls are left, the words end with the handles of those above them; what is left fits
pub record Pins (code : LinearCode) (xs : List ℕ) (ss : List PinSlot) (top : Call) (cs : List Call) (start now : WordList) (left : ℕ) : Type 0 where
  pub under : Call
  pub kept : IsKept under (take left cs) xs ss
  pub of_ : IsThreadOf code (thread_of xs ss under (take left cs))
  pub room : now.room ≡ start.room
  pub words : now.words ++ handles_all code (callers_of xs ss (take left cs) 0 []) ≡ start.words ++ handles_all code (callers_of xs ss cs 0 [])
  pub few : length now.words + under.slots ≤ length start.words + top.slots

pub begins : (code : LinearCode) (xs : List ℕ) (ss : List PinSlot) (top : Call) (cs : List Call) (start : WordList) → IsKept top cs xs ss → (t : Thread Spot Words) → thread_of xs ss top cs ≡ t → IsThreadOf code t → (n : ℕ) → n ≡ length cs
    → Pins code xs ss top cs start start n
begins code xs ss top cs start kept t is of_ n e =
    let all : take n cs ≡ cs = take_all n cs (omega (arith, e)) in
    record {
      under = top;
      kept = subst (λ (l : List Call). IsKept top l xs ss) (sym all) kept;
      of_ = subst (λ (l : List Call). IsThreadOf code (thread_of xs ss top l)) (sym all) (subst (IsThreadOf code) (sym is) of_);
      room = refl;
      words = ap (λ (l : List Call). start.words ++ handles_all code (callers_of xs ss l 0 [])) all;
      few = omega arith;
    }

take_more : (cs : List Call) (i : ℕ) (c : Call) → i < length cs → c ≡ get_or cs i c → take (suc i) cs ≡ take i cs ++ c ∷ []
take_more [] i c lt e = absurd (omega (arith, lt))
take_more (d ∷ cs) zero c lt e = ap (λ (k : Call). k ∷ []) (sym e)
take_more (d ∷ cs) (suc i) c lt e = ap (λ (l : List Call). d ∷ l) (take_more cs i c (omega (arith, lt)) e)

module _ (code : LinearCode) (program : IsProgram code) (xs : List ℕ) (ss : List PinSlot) (top : Call) (cs : List Call) (start now : WordList) (left i : ℕ) (pins : Pins code xs ss top cs start now left)
    (e : left ≡ suc i) (lt : i < length cs) (c : Call) (at : c ≡ get_or cs i c) where
  abbrev list : List ℕ
  list = listed_at ((linear code.funcs).here (record { function = c.function; index = c.index }))

  split : take left cs ≡ take i cs ++ c ∷ []
  split = ap (λ n. take n cs) e ∙ take_more cs i c lt at

  abbrev under_it : Thread Spot Words
  under_it = thread_of xs ss c (take i cs)

  kept_there : IsKept c (take i cs) xs ss
  kept_there = kept_under xs ss pins.under (take left cs) (take i cs) c split pins.kept

  callers_there : callers_of xs ss (take left cs) 0 [] ≡ under_it.top ∷ under_it.callers
  callers_there =
      let z : 0 + length (take i cs) ≡ length (take i cs) = omega arith in
      ap (λ (l : List Call). callers_of xs ss l 0 []) split ∙ (callers_push xs ss (take i cs) c 0 [] ∙ ap (λ k. point_of xs ss c k ∷ callers_of xs ss (take i cs) 0 []) z)

  some_caller : callers_of xs ss (take left cs) 0 [] ≡ [] → ⊥
  some_caller none = let same : under_it.top ∷ under_it.callers ≡ [] = sym callers_there ∙ none in cc

  thread_there : IsThreadOf code under_it
  thread_there =
      subst (IsThreadOf code) (sym (uncovers xs ss pins.under (take left cs) (take i cs) c split pins.kept (thread_of xs ss pins.under (take left cs)) refl)) (uncovered_is code (thread_of xs ss pins.under (take left cs)) some_caller pins.of_)

  pub stands_there : IsAt code (record { function = c.function; index = c.index })
  stands_there = stands_at code under_it thread_there

  listed : IsListFor under_it.top.own list
  listed = listed_is code program under_it thread_there

  ends_below : c.slots + c.own_slots ≤ pins.under.slots
  ends_below = (stand_front (take i cs) c pins.under 0 0 (subst (λ (l : List Call). StandFrom 0 0 (l ++ pins.under ∷ [])) split pins.kept.stand)).2

  few_there : length (listed_handles ss c.slots list) ≤ c.own_slots
  few_there =
      let n = top_few xs ss c (take i cs) kept_there under_it refl list listed in
      let m = slots_count xs ss c (take i cs) kept_there in
      omega (arith, n, m)

  module _ (got : List ℕ) (got_is : got ≡ list) where
    pub slots_there : All (λ s. HasSlot ss (c.slots + s)) got
    slots_there = subst (All (λ s. HasSlot ss (c.slots + s))) (sym got_is) (top_slots xs ss c (take i cs) kept_there under_it refl list listed)

    few_got : length (listed_handles ss c.slots got) ≤ c.own_slots
    few_got = subst (λ (l : List ℕ). length (listed_handles ss c.slots l) ≤ c.own_slots) (sym got_is) few_there

    pub room_there : length start.words + top.slots ≤ start.room → length now.words + length (listed_handles ss c.slots got) ≤ now.room
    room_there room = omega (arith, few_got, ends_below, pins.few, pins.room, room)

    pub pins_more : (later : WordList) → later ≡ with_more now (listed_handles ss c.slots got) → Pins code xs ss top cs start later i
    pins_more later f =
        let handles : listed_handles ss c.slots got ≡ handles_here (linear code.funcs) under_it.top =
        ap (listed_handles ss c.slots) got_is ∙ (top_handles xs ss c (take i cs) kept_there under_it refl list listed ∙ handles_listed under_it.top.own ((linear code.funcs).here under_it.top.at)) in
        let rest = handles_all code under_it.callers in
        let n = length-append now.words (listed_handles ss c.slots got) in
        subst (λ (w : WordList). Pins code xs ss top cs start w i) (sym f) (record {
          under = c;
          kept = kept_there;
          of_ = thread_there;
          room = pins.room;
          words = append_assoc now.words (listed_handles ss c.slots got) rest
              ∙ (ap (λ (l : List ℕ). now.words ++ (l ++ rest)) handles
              ∙ (ap (λ (l : List (Point Spot Words)). now.words ++ handles_all code l) (sym callers_there) ∙ pins.words));
          few = omega (arith, n, few_got, ends_below, pins.few);
        })

-- words, with room for so many
abbrev pub word_list : (room : ℕ) → List ℕ → WordList
word_list room words = record { room = room; words = words }

-- none is left
pub pinned_all : (code : LinearCode) (xs : List ℕ) (ss : List PinSlot) (top : Call) (cs : List Call) (start now : WordList) (left : ℕ) → Pins code xs ss top cs start now left → left ≡ 0 → (t : Thread Spot Words) → thread_of xs ss top cs ≡ t
    → (now ≡ with_more start (handles_all code t.callers)) × (length now.words ≤ length start.words + t.top.own.below.slots)
pinned_all code xs ss top cs start now left pins e t is =
    let words : now.words ++ [] ≡ start.words ++ handles_all code (callers_of xs ss cs 0 []) = ap (λ n. now.words ++ handles_all code (callers_of xs ss (take n cs) 0 [])) (sym e) ∙ pins.words in
    let all : now.words ≡ start.words ++ handles_all code t.callers = sym (append-nil now.words) ∙ (words ∙ ap (λ (t : Thread Spot Words). start.words ++ handles_all code t.callers) is) in
    let same : top.slots ≡ t.top.own.below.slots = ap (λ (t : Thread Spot Words). t.top.own.below.slots) is in
    (list_is now.room start.room now.words _ pins.room all, omega (arith, pins.few, same)) where
      list_is : (n m : ℕ) (a b : List ℕ) → n ≡ m → a ≡ b → word_list n a ≡ word_list m b
      list_is n m a b f g = cc

pub room_of : (xs : List ℕ) (ss : List PinSlot) (top : Call) (cs : List Call) (t : Thread Spot Words) → thread_of xs ss top cs ≡ t → (into : WordList) → length into.words + t.top.own.below.slots ≤ into.room → length into.words + top.slots ≤ into.room
room_of xs ss top cs t is into le = subst (λ (t : Thread Spot Words). length into.words + t.top.own.below.slots ≤ into.room) (sym is) le

-- ---- a context

-- a thread that stands somewhere pins what its call under way lists, and what its callers do
pub pins_of : (code : LinearCode) (p : Phase) (list : List ℕ) (t : Thread Spot Words) (o : Option (Stage Spot)) → stage_of p list t ≡ o → (p ≡ phases.Going) ⊎ (p ≡ phases.Waiting)
    → handles_if (linear code.funcs) o ≡ handles_here (linear code.funcs) t.top ++ handles_all code t.callers
pins_of code p list t o e (inl at) = ap (handles_if (linear code.funcs)) (sym e ∙ ap (λ p. stage_of p list t) at)
pins_of code p list t o e (inr at) = ap (handles_if (linear code.funcs)) (sym e ∙ ap (λ p. stage_of p list t) at)

-- its calls are the program's
pub thread_at : (code : LinearCode) (p : Phase) (list : List ℕ) (t : Thread Spot Words) (o : Option (Stage Spot)) → stage_of p list t ≡ o → (p ≡ phases.Going) ⊎ (p ≡ phases.Waiting) → IsStageIf code o → IsThreadOf code t
thread_at code p list t o e (inl at) is = subst (IsStageIf code) (sym e ∙ ap (λ p. stage_of p list t) at) is
thread_at code p list t o e (inr at) is = subst (IsStageIf code) (sym e ∙ ap (λ p. stage_of p list t) at) is

pub pins_landed : (code : LinearCode) (p : Phase) (list : List ℕ) (t : Thread Spot Words) (o : Option (Stage Spot)) → stage_of p list t ≡ o → p ≡ phases.Landed → handles_if (linear code.funcs) o ≡ handles_in t.top.own (Some list) ++ handles_all code t.callers
pins_landed code p list t o e at = ap (handles_if (linear code.funcs)) (sym e ∙ ap (λ p. stage_of p list t) at)

-- the words of the call under way, and then those of the callers
pub pins_both : (start first last : WordList) (a b all : List ℕ) → first ≡ with_more start a → last ≡ with_more first b → all ≡ a ++ b → last ≡ with_more start all
pins_both start first last a b all e f g =
    f ∙ (ap (λ (w : WordList). with_more w b) e ∙ (ap (word_list start.room) (append_assoc start.words a b) ∙ ap (with_more start) (sym g)))
