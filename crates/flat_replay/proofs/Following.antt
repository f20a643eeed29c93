-- A journal entry by entry, and at its end.
use Rattle.std.proofs.Common.{◌≡◌, ◌↔◌, ◌<◌, ◌≤◌, ℕ, zero, suc, ◌+◌, ◌-◌, ◌==◌, Bool, true, false, cond, List, [], ◌∷◌, ◌++◌, length, length-append, replicate, take, ap, sym, subst, ◌∙◌, refl, arith, append_assoc, Option, Some, None, slice_get}
use Rattle.std.specs.Prelude.{option_and_then}
use Rattle.std.proofs.lemmas.List.{append-nil, take_all}
use Rattle.std.proofs.lemmas.Bool.Decides.{nat_tests}
use Rattle.ak_trace.specs.declared.entry.Entry.{Entry}
use Rattle.flat_rules.specs.Rules.{Rules}
use Rattle.flat_rules.specs.Machine.{Machine}
use Rattle.flat_rules.specs.States.{RunState, start, unbegun_from}
use Rattle.flat_rules.specs.Lawful.{IsFlat}
use Rattle.flat_rules.specs.Replays.{same_entry, run, settled, replay}
use Rattle.flat_rules.specs.inner.Cases.{same_number, same_refl}
use Rattle.flat_rules.specs.inner.Steps.{entry_is, same_entry_refl, run-append}
use Rattle.world_rules.specs.Whole.{Whole, Leads, LeadsFromOpening, whole_of}
use Rattle.flat_replay.specs.declared.driver.Hand.{Hand}
use Rattle.flat_replay.specs.inner.Hands.{hands_of, called}
use Rattle.flat_replay.specs.inner.Follows.{FollowsFront, Takes, Comes, state_behind}
use Rattle.flat_replay.proofs.Calling.{behind, none_called, some_called}

-- a journal up to an entry, and that entry
pub taken_more : (log : List Entry) (i : ℕ) (e : Entry) → slice_get log i ≡ Some e → take i log ++ e ∷ [] ≡ take (suc i) log
taken_more [] i e h = absurd (cc h)
taken_more (d ∷ ds) zero e h = let same : d ≡ e = cc h in ap (λ (z : Entry). z ∷ []) (sym same)
taken_more (d ∷ ds) (suc i) e h = ap (λ (l : List Entry). d ∷ l) (taken_more ds i e h)

pub rest_of : (log : List Entry) (i : ℕ) (e : Entry) → slice_get log i ≡ Some e → (rest : List Entry) × ((take i log ++ e ∷ []) ++ rest ≡ log)
rest_of [] i e h = absurd (cc h)
rest_of (d ∷ ds) zero e h = let same : d ≡ e = cc h in (ds, ap (λ (z : Entry). z ∷ ds) (sym same))
rest_of (d ∷ ds) (suc i) e h = let r = rest_of ds i e h in (r.0, ap (λ (l : List Entry). d ∷ l) r.1)

-- within its length it has an entry
pub there_is : (log : List Entry) (i : ℕ) → i < length log → slice_get log i ≡ None → ⊥
there_is [] i within none = absurd (omega arith)
there_is (d ∷ ds) zero within none = absurd (cc none)
there_is (d ∷ ds) (suc i) within none = there_is ds i (omega arith) none

-- one more thread that is not out
pub none_next : {C : Type 0} (k n : ℕ) (so_far all : List (Option (Hand C))) → k < n → so_far ++ replicate (n - k) None ≡ all → (so_far ++ None ∷ []) ++ replicate (n - (k + 1)) None ≡ all
none_next k n so_far all within is = append_assoc so_far (None ∷ []) (replicate (n - (k + 1)) None) ∙ (ap (λ (j : ℕ). so_far ++ replicate j None) (let z : suc (n - (k + 1)) ≡ n - k = omega arith in z) ∙ is)

-- no longer: nothing more
none_more : (front rest : List Entry) → length (front ++ rest) ≡ length front → rest ≡ []
none_more front [] same = refl
none_more front (e ∷ es) same = absurd (let a = length-append front (e ∷ es) in omega arith)

module _ {S K C : Type 0} (machine : K → Machine S C) (SharedOf : K → S → Type 0) (first : Whole S K C) where
  abbrev m : Machine S C
  m = machine first.code

  abbrev Behind : List Entry → Option (RunState S C)
  Behind = state_behind machine SharedOf first

  -- all of the world's entries were followed
  at_front : (front : List Entry) (x : Whole S K C) (hands : List (Option (Hand C))) → FollowsFront machine SharedOf first front x hands → length x.log.entries ≡ length front → x.log.entries ≡ front
  at_front front x hands f same = f.own ∙ (ap (λ (l : List Entry). front ++ l) (none_more front f.rest (ap length (sym f.own) ∙ same)) ∙ append-nil front)

  abbrev due_in : (front : List Entry) (x : Whole S K C) (hands : List (Option (Hand C))) → FollowsFront machine SharedOf first front x hands → List Entry → RunState S C
  due_in front x hands f ds = record f.at.reaches.replays.state { due = ds }

  -- an entry that is still to come
  pub takes_due : (front : List Entry) (e : Entry) (x : Whole S K C) (hands : List (Option (Hand C))) → FollowsFront machine SharedOf first front x hands → (length x.log.entries ≡ length front → ⊥)
      → (b : Bool) → (b ≡ true → slice_get x.log.entries (length front) ≡ Some e) → (slice_get x.log.entries (length front) ≡ Some e → b ≡ true) → Takes machine SharedOf first front e x hands b
  takes_due front e x hands f more b p q = by f.rest f.own f.runs b p q
    where
      next : (d : Entry) (ds : List Entry) → x.log.entries ≡ front ++ d ∷ ds → slice_get x.log.entries (length front) ≡ Some d
      next d ds own = ap (λ (l : List Entry). slice_get l (length front)) own ∙ behind front (d ∷ ds)

      one : (d : Entry) (ds : List Entry) → Behind front ≡ Some (due_in front x hands f (d ∷ ds)) → Behind (front ++ e ∷ []) ≡ option_and_then (run m first.settings []) (cond (same_entry e d) (Some (due_in front x hands f ds)) None)
      one d ds runs = run-append m first.settings front (e ∷ []) (start m first.settings first.shared) ∙ ap (option_and_then (run m first.settings (e ∷ []))) runs

      by : (rest : List Entry) → x.log.entries ≡ front ++ rest → Behind front ≡ Some (due_in front x hands f rest) → (b : Bool) → (b ≡ true → slice_get x.log.entries (length front) ≡ Some e) → (slice_get x.log.entries (length front) ≡ Some e → b ≡ true) → Takes machine SharedOf first front e x hands b
      by [] own runs b p q = absurd (more (ap length (own ∙ append-nil front)))
      by (d ∷ ds) own runs true p q =
          let same : d ≡ e = let z : Some d ≡ Some e = sym (next d ds own) ∙ p refl in cc z in record {
            at = f.at;
            rest = ds;
            own = own ∙ (ap (λ (z : Entry). front ++ z ∷ ds) same ∙ sym (append_assoc front (e ∷ []) ds));
            runs = one d ds runs ∙ ap (λ (c : Bool). option_and_then (run m first.settings []) (cond c (Some (due_in front x hands f ds)) None)) (ap (same_entry e) same ∙ same_entry_refl e);
          }
      by (d ∷ ds) own runs false p q = one d ds runs ∙ ap (λ (c : Bool). option_and_then (run m first.settings []) (cond c (Some (due_in front x hands f ds)) None)) (other (same_entry e d) refl)
        where
          other : (c : Bool) → same_entry e d ≡ c → same_entry e d ≡ false
          other false h = h
          other true h = absurd (let z : false ≡ true = q (next d ds own ∙ ap (λ (y : Entry). Some y) (sym (entry_is e d h))) in cc z)

  module _ (ContextOf : K → C → Type 0) (flat : (code : K) → IsFlat (machine code) (SharedOf code) (ContextOf code)) where
    -- where all of the world's entries were followed, and nothing can be called
    pub takes_none : (front : List Entry) (e : Entry) (x : Whole S K C) (hands : List (Option (Hand C))) → FollowsFront machine SharedOf first front x hands → length x.log.entries ≡ length front → called machine x hands e ≡ None → Behind (front ++ e ∷ []) ≡ None
    takes_none front e x hands f same none = subst (λ (l : List Entry). Behind (l ++ e ∷ []) ≡ None) (at_front front x hands f same) (none_called machine SharedOf ContextOf flat first x hands f.at e none)

    -- or something is
    pub takes_called : (front : List Entry) (e : Entry) (x x' : Whole S K C) (hands hands' : List (Option (Hand C))) → FollowsFront machine SharedOf first front x hands → length x.log.entries ≡ length front → called machine x hands e ≡ Some (x', hands')
        → (b : Bool) → (b ≡ true → slice_get x'.log.entries (length front) ≡ Some e) → (slice_get x'.log.entries (length front) ≡ Some e → b ≡ true) → Takes machine SharedOf first front e x' hands' b
    takes_called front e x x' hands hands' f same is b p q =
        subst (λ (l : List Entry). Takes machine SharedOf first l e x' hands' b) (at_front front x hands f same)
        (some_called machine SharedOf ContextOf flat first x hands f.at e x' hands' is b
        (λ h. subst (λ (n : ℕ). slice_get x'.log.entries n ≡ Some e) (sym same) (p h))
        (λ h. q (subst (λ (n : ℕ). slice_get x'.log.entries n ≡ Some e) same h)))

    -- where so many entries were followed, by whether the world has more of its own
    module _ (i : ℕ) (front : List Entry) (e : Entry) (x : Whole S K C) (hands : List (Option (Hand C))) (f : FollowsFront machine SharedOf first front x hands) (at : i ≡ length front) where
      all_followed : length x.log.entries ≤ i → length x.log.entries ≡ length front
      all_followed few = let a : length x.log.entries ≡ length (front ++ f.rest) = ap length f.own in let b = length-append front f.rest in omega arith

      pub index_due : i < length x.log.entries → (b : Bool) → (b ≡ true) ↔ (slice_get x.log.entries i ≡ Some e) → Takes machine SharedOf first front e x hands b
      index_due more b wrote = takes_due front e x hands f (λ (h : length x.log.entries ≡ length front). omega arith) b
          (λ h. subst (λ (n : ℕ). slice_get x.log.entries n ≡ Some e) at (wrote.0 h)) (λ h. wrote.1 (subst (λ (n : ℕ). slice_get x.log.entries n ≡ Some e) (sym at) h))

      pub index_none : length x.log.entries ≤ i → called machine x hands e ≡ None → Behind (front ++ e ∷ []) ≡ None
      index_none few none = takes_none front e x hands f (all_followed few) none

      pub index_called : length x.log.entries ≤ i → (x' : Whole S K C) (hands' : List (Option (Hand C))) → called machine x hands e ≡ Some (x', hands') → (b : Bool) → (b ≡ true) ↔ (slice_get x'.log.entries i ≡ Some e) → Takes machine SharedOf first front e x' hands' b
      index_called few x' hands' is b wrote = takes_called front e x x' hands hands' f (all_followed few) is b
          (λ h. subst (λ (n : ℕ). slice_get x'.log.entries n ≡ Some e) at (wrote.0 h)) (λ h. wrote.1 (subst (λ (n : ℕ). slice_get x'.log.entries n ≡ Some e) (sym at) h))

  -- ---- the whole journal

  -- where none may stand behind a front, none may behind the journal
  pub no_journal : (front rest log : List Entry) → front ++ rest ≡ log → Behind front ≡ None → replay m first.settings first.shared log ≡ None
  no_journal front rest log is none = ap (λ (l : List Entry). option_and_then (settled m first.settings) (Behind l)) (sym is)
      ∙ (ap (option_and_then (settled m first.settings)) (run-append m first.settings front rest (start m first.settings first.shared) ∙ ap (option_and_then (run m first.settings rest)) none))

  -- at its end, by whether the world has more entries
  pub comes : (log : List Entry) (x : Whole S K C) (hands : List (Option (Hand C))) → FollowsFront machine SharedOf first log x hands → (b : Bool) → (b ≡ true → length x.log.entries ≡ length log) → (length x.log.entries ≡ length log → b ≡ true) → Comes machine SharedOf first log x b
  comes log x hands f true p q =
      let s : RunState S C = f.at.reaches.replays.state in let is : x.log.entries ≡ log = at_front log x hands f (p refl) in
      let due : f.rest ≡ [] = none_more log f.rest (ap length (sym f.own) ∙ p refl) in (
        record { opened = f.at.reaches.opened; replays = record { state = s; leads = subst (λ (l : List Entry). Leads machine first l s) is f.at.reaches.replays.leads; is = f.at.reaches.replays.is ∙ ap (λ (l : List Entry). whole_of machine first l s) is } },
        ap (option_and_then (settled m first.settings)) (ap Behind (sym is) ∙ f.at.reaches.replays.leads.runs) ∙ ap (λ (ds : List Entry). cond (length ds == 0) (Some s) None) f.at.reaches.replays.leads.settled,
      )
  comes log x hands f false p q = ap (option_and_then (settled m first.settings)) f.runs ∙ by f.rest refl
    where
      by : (ds : List Entry) → f.rest ≡ ds → cond (length f.rest == 0) (Some (record f.at.reaches.replays.state { due = f.rest })) None ≡ None
      by [] none = absurd (let z : false ≡ true = q (ap length (f.own ∙ (ap (λ (l : List Entry). log ++ l) none ∙ append-nil log))) in cc z)
      by (d ∷ ds) some = let h : length f.rest ≡ suc (length ds) = ap length some in let z : (length f.rest == 0) ≡ false = grind (arith, nat_tests) in
          ap (λ (c : Bool). cond c (Some (record f.at.reaches.replays.state { due = f.rest })) None) z

  -- by numbers that are those of the entries
  pub comes_by : (log : List Entry) (x : Whole S K C) (hands : List (Option (Hand C))) (i own given : ℕ) → FollowsFront machine SharedOf first (take i log) x hands → length log ≤ i → own ≡ length x.log.entries → given ≡ length log → Comes machine SharedOf first log x (own == given)
  comes_by log x hands i own given f all a b = comes log x hands (subst (λ (l : List Entry). FollowsFront machine SharedOf first l x hands) (take_all i log all) f) (own == given)
      (λ h. sym a ∙ (same_number own given h ∙ b))
      (λ h. ap (λ (n : ℕ). n == given) (a ∙ (h ∙ sym b)) ∙ same_refl given)

  -- nothing has run: no thread is out
  none_out_yet : (settings : Rules) (k n : ℕ) → replicate n None ≡ hands_of (unbegun_from m settings k n)
  none_out_yet settings k zero = refl
  none_out_yet settings k (suc n) = ap (λ (l : List (Option (Hand C))). None ∷ l) (none_out_yet settings (k + 1) n)

  abbrev s0 : RunState S C
  s0 = start m first.settings first.shared

  -- the empty front
  pub begins : (x : Whole S K C) (hands : List (Option (Hand C))) → LeadsFromOpening machine SharedOf first [] x → hands ≡ replicate 64 None → FollowsFront machine SharedOf first [] x hands
  begins x hands r none = record {
    at = record {
      reaches = record { opened = r.opened; replays = record { state = s0; leads = record { runs = ap Behind nothing; settled = refl }; is = r.replays.is ∙ (λ i. whole_of machine first (sym nothing i) (s_is i)) } };
      hands_are = none ∙ none_out_yet first.settings 0 64;
    };
    rest = [];
    own = nothing;
    runs = refl;
  }
    where
      s_is : r.replays.state ≡ s0
      s_is = let z : Some s0 ≡ Some r.replays.state = r.replays.leads.runs in let q : r.replays.state ≡ s0 = cc (sym z) in q

      nothing : x.log.entries ≡ []
      nothing = ap (λ (z : Whole S K C). z.log.entries) r.replays.is

  -- one entry more, or none may come
  pub follows_on : (log : List Entry) (i : ℕ) (e : Entry) (x : Whole S K C) (hands : List (Option (Hand C))) → slice_get log i ≡ Some e → Takes machine SharedOf first (take i log) e x hands true → FollowsFront machine SharedOf first (take (i + 1) log) x hands
  follows_on log i e x hands there f = subst (λ (l : List Entry). FollowsFront machine SharedOf first l x hands) (taken_more log i e there ∙ ap (λ (n : ℕ). take n log) (let z : suc i ≡ i + 1 = omega arith in z)) f

  pub follows_none : (log : List Entry) (i : ℕ) (e : Entry) (x : Whole S K C) (hands : List (Option (Hand C))) → slice_get log i ≡ Some e → Takes machine SharedOf first (take i log) e x hands false → Comes machine SharedOf first log x false
  follows_none log i e x hands there none = let r = rest_of log i e there in no_journal (take i log ++ e ∷ []) r.0 log r.1 none
