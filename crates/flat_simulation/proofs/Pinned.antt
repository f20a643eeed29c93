-- Where objects move that no listed slot names, each slot that a thread's list has leads where it led.
use Rattle.std.proofs.Common.{◌≡◌, ℕ, zero, suc, ◌+◌, ◌^◌, ◌%◌, ◌≤◌, ◌==◌, ◌||◌, eqb, cond, List, [], ◌∷◌, ◌++◌, length, Bool, true, false, Option, Some, None, refl, sym, ap, subst, ◌∙◌, arith, ◌⊎◌, inl, inr}
use Rattle.std.specs.Prelude.{nat_le, not, is_some, flat_map, option_map, if◌then◌else◌}
use Rattle.std.specs.List.{list_any, filter, cons_option}
use Rattle.std.proofs.lemmas.Bool.{le-leb, eqb-true, eq-eqb}
use Rattle.block_store.specs.Blocks.{Blocks}
use Rattle.block_store.specs.Runs.{own_at}
use Rattle.handle_words.specs.Handle.{id_of}
use Rattle.handle_table.specs.declared.frame.PinSlot.{PinSlot}
use Rattle.handle_table.specs.Table.{address_of, translated}
use Rattle.handle_table.specs.Frame.{slot_at, listed_words}
use Rattle.sub_heaps.specs.declared.objects.Object.{Object}
use Rattle.sub_heaps.specs.declared.moves.Move.{Move}
use Rattle.arena_meaning.specs.Arena.{IsConsistent, Storage, object_of, place_named, places_named}
use Rattle.arena_meaning.specs.Moves.{KeepsObjects}
use Rattle.struct_ir.specs.Nodes.{set, call, step, look, safepoint, begin_object, end_object, Ir}
use Rattle.struct_ir.specs.Flow.{Here, does, tests, passes, round, returns, IsCall}
use Rattle.struct_ir.specs.Machine.{Point}
use Rattle.struct_ir.specs.Threads.{Thread}
use Rattle.struct_ir.specs.Pins.{lacks, lacks_if}
use Rattle.struct_ir.specs.meaning.Blocks.{Own}
use Rattle.flat_meaning.specs.Image.{Image}
use Rattle.flat_meaning.specs.Words.{Words}
use Rattle.flat_meaning.specs.Stages.{Stage, starts, going, waiting, landed}
use Rattle.flat_meaning.specs.Events.{MachineState}
use Rattle.flat_meaning.specs.Allowed.{list_at, handles_in, handles_here, handles_of, handles_if, pinned, stands}
use Rattle.flat_meaning.specs.Names.{Name, heap, plain, name_of, word_for, address_if, IsOutside}
use Rattle.flat_simulation.specs.inner.Lags.{KeepsSlot, KeepsCall, KeepCalls}
use Rattle.flat_simulation.specs.inner.Values.{IsPlaced}
use Rattle.flat_simulation.specs.inner.World.{BlocksStand}
use Rattle.flat_simulation.specs.inner.Threads.{CallersStand, StageStands}
use Rattle.flat_simulation.proofs.Later.{KeepsStage}
use Rattle.flat_simulation.proofs.Moves.{pinned_address}
use Rattle.flat_simulation.proofs.Placed.{IsHere, lies, sees_all}
use Rattle.flat_simulation.proofs.Places.{translated_word}

-- ---- words in lists

abbrev pub In : ℕ → List ℕ → Type 0
In w [] = ⊥
In w (v ∷ vs) = (v ≡ w) ⊎ In w vs

pub in_left : (w : ℕ) (xs ys : List ℕ) → In w xs → In w (xs ++ ys)
in_left w [] ys h = absurd h
in_left w (x ∷ xs) ys (inl e) = inl e
in_left w (x ∷ xs) ys (inr h) = inr (in_left w xs ys h)

pub in_right : (w : ℕ) (xs ys : List ℕ) → In w ys → In w (xs ++ ys)
in_right w [] ys h = h
in_right w (x ∷ xs) ys h = inr (in_right w xs ys h)

in_filtered : (test : ℕ → Bool) (w : ℕ) (xs : List ℕ) → test w ≡ true → In w xs → In w (filter test xs)
in_filtered test w [] t h = absurd h
in_filtered test w (x ∷ xs) t (inl e) = let passes : test x ≡ true = ap test e ∙ t in rw passes (inl e)
in_filtered test w (x ∷ xs) t (inr h) = by_test (test x) (in_filtered test w xs t h)
  where
    by_test : (b : Bool) → In w (filter test xs) → In w (cond b (x ∷ filter test xs) (filter test xs))
    by_test true more = inr more
    by_test false more = more

-- the word in a slot that the list doesn't lack
in_words : (slots : List PinSlot) (slot : ℕ) (list : List ℕ) → lacks slot list ≡ false → In (slot_at slots slot).word (listed_words slots 0 list)
in_words slots slot [] e = absurd cc
in_words slots slot (y ∷ list) e = by_test (eqb y slot) refl (in_words slots slot list) e
  where
    by_test : (b : Bool) → eqb y slot ≡ b → (lacks slot list ≡ false → In (slot_at slots slot).word (listed_words slots 0 list)) → not (b || list_any (λ z. z == slot) list) ≡ false → In (slot_at slots slot).word (listed_words slots 0 (y ∷ list))
    by_test true t more f = let same : 0 + y ≡ slot = omega (arith, eqb-true y slot t) in inl (ap (λ k. (slot_at slots k).word) same)
    by_test false t more f = inr (more f)

-- a thread's words are among all threads'
in_threads : {A : Type 0} (f : A → List ℕ) (w : ℕ) (own : List (Option A)) (thread : ℕ) (g : A) → (h : Option A → List ℕ) → ((a : A) → h (Some a) ≡ f a) → own_at own thread ≡ Some g → In w (f g) → In w (flat_map h own)
in_threads f w [] thread g h is e i = absurd cc
in_threads f w (o ∷ own) zero g h is e i =
    let same : o ≡ Some g = e in
    in_left w (h o) (flat_map h own) (subst (λ z. In w (h z)) (sym same) (subst (In w) (sym (is g)) i))
in_threads f w (o ∷ own) (suc n) g h is e i = in_right w (h o) (flat_map h own) (in_threads f w own n g h is e i)

-- the place of an object that a word among these names
is_pinned : (s : Storage) (w at : ℕ) (ws : List ℕ) → In w ws → place_named s w ≡ Some at → list_any (λ p. p == at) (places_named s ws) ≡ true
is_pinned s w at [] i e = absurd i
is_pinned s w at (v ∷ ws) (inl same) e =
    let here : place_named s v ≡ Some at = ap (place_named s) same ∙ e in
    rw here (ap (λ b. b || list_any (λ p. p == at) (places_named s ws)) (eq-eqb at at refl))
is_pinned s w at (v ∷ ws) (inr i) e = by_place (place_named s v) (is_pinned s w at ws i e)
  where
    more : (b : Bool) → list_any (λ p. p == at) (places_named s ws) ≡ true → (b || list_any (λ p. p == at) (places_named s ws)) ≡ true
    more true h = refl
    more false h = h

    by_place : (o : Option ℕ) → list_any (λ p. p == at) (places_named s ws) ≡ true → list_any (λ p. p == at) (cons_option o (places_named s ws)) ≡ true
    by_place None rest = rest
    by_place (Some k) rest = more (k == at) rest

-- ---- slots

module _ {P : Type 0} (x : Image P) (st : MachineState P) (names : List Name) (blocks : Blocks) (stand : BlocksStand names blocks st.memory.storage) (moves : List Move) (new : Storage) (consistent : IsConsistent new)
    (kept : KeepsObjects (pinned x st) moves st.memory.storage new) where
  abbrev s : Storage
  s = st.memory.storage

  -- all handles in listed slots
  abbrev all_handles : List ℕ
  all_handles = flat_map (handles_if x.flow) st.own

  -- what a word leads to that is in a listed slot, if it is a handle
  slot_stays : (v : PinSlot) → (2 ^ 63 ≤ v.word → In v.word all_handles) → KeepsSlot names blocks blocks s new v
  slot_stays v listed n o b below e within is = by_place (lies names blocks s stand.consistent stand.names_stand n b e)
    where
      placed : IsPlaced (name_of names n) (length b.cells)
      placed = (sees_all names blocks s stand.consistent stand.names_stand).placed n b tt e

      heap_stays : (h : IsHere names blocks s stand.consistent stand.names_stand (name_of names n) (length b.cells)) → translated new.table v.word ≡ translated s.table v.word
      heap_stays h =
          let here : IsPlaced (heap h.id) (length b.cells) = subst (λ m. IsPlaced m (length b.cells)) h.named placed in
          let word : v.word ≡ word_for (heap h.id) o = is ∙ ap (λ m. word_for m o) h.named in
          let key : id_of v.word ≡ h.id = omega (arith, word, here.0, here.1, within) in
          let high : 2 ^ 63 ≤ v.word = omega (arith, word) in
          let at : place_named s v.word ≡ Some h.object.at
          = ap (λ c. if c then option_map (λ (z : Object). z.at) (object_of (id_of v.word) s.heaps.objects) else None) (le-leb (2 ^ 63) v.word high) ∙ ap (λ k. option_map (λ (z : Object). z.at) (object_of k s.heaps.objects)) key
          ∙ ap (option_map (λ (z : Object). z.at)) h.owned in
          let pin : pinned x st h.object.at ≡ true = is_pinned s v.word h.object.at all_handles (listed high) at in
          let same : address_of new.table h.id ≡ address_of s.table h.id = pinned_address names blocks s new (pinned x st) moves stand consistent kept h.id h.object h.owned pin in
          ap (translated new.table) word ∙ translated_word new (heap h.id) (length b.cells) o here (λ id e. (s.start + h.object.at, ap (address_of new.table) (id_is h.id id e) ∙ same ∙ h.in_use)) within
          ∙ ap (λ a. (address_if a + o) % 2 ^ 64) same
          ∙ sym (translated_word s (heap h.id) (length b.cells) o here (λ id e. (s.start + h.object.at, ap (address_of s.table) (id_is h.id id e) ∙ h.in_use)) within) ∙ ap (translated s.table) (sym word)
        where
          id_is : (key id : ℕ) → heap key ≡ heap id → id ≡ key
          id_is key id e = cc

      plain_stays : (a : ℕ) → name_of names n ≡ plain a → translated new.table v.word ≡ translated s.table v.word
      plain_stays a named =
          let here : IsPlaced (plain a) (length b.cells) = subst (λ m. IsPlaced m (length b.cells)) named placed in
          let word : v.word ≡ word_for (plain a) o = is ∙ ap (λ m. word_for m o) named in
          ap (translated new.table) word ∙ translated_word new (plain a) (length b.cells) o here (λ id e. absurd (differ id a e)) within ∙ sym (translated_word s (plain a) (length b.cells) o here (λ id e. absurd (differ id a e)) within) ∙ ap (translated s.table) (sym word)
        where
          differ : (id a : ℕ) → plain a ≡ heap id → ⊥
          differ id a e = cc

      by_place : IsHere names blocks s stand.consistent stand.names_stand (name_of names n) (length b.cells) ⊎ IsOutside s (name_of names n) (length b.cells) → translated new.table v.word ≡ translated s.table v.word
      by_place (inl h) = heap_stays h
      by_place (inr h) = plain_stays h.address h.named

  -- ---- calls

  -- the slots of a list
  list_stays : (q : Words) (list : List ℕ) → ((w : ℕ) → In w (handles_in q (Some list)) → In w all_handles) → (slot : ℕ) → lacks slot list ≡ false → KeepsSlot names blocks blocks s new (slot_at q.slots slot)
  list_stays q list among slot e =
      let v = slot_at q.slots slot in
      slot_stays v (λ high. among v.word (in_filtered (nat_le (2 ^ 63)) v.word (listed_words q.slots 0 list) (le-leb (2 ^ 63) v.word high) (in_words q.slots slot list e)))

  -- a call that stands at a list
  call_stays : (q : Point P Words) (o : Option (List ℕ)) → list_at (x.flow.here q.at) ≡ o → is_some o ≡ true → ((w : ℕ) → In w (handles_in q.own o) → In w all_handles) → KeepsCall x.flow names blocks blocks s new q
  call_stays q None here some among slot e = absurd cc
  call_stays q (Some list) here some among slot e = list_stays q.own list among slot (ap (lacks_if slot) (sym here) ∙ e)

  -- before a call there is a list
  call_has_list : (h : Here) → IsCall h → is_some (list_at h) ≡ true
  call_has_list (does place (call c)) i = refl
  call_has_list (does place (set to calc)) i = absurd cc
  call_has_list (does place (step st)) i = absurd cc
  call_has_list (does place (look slot base)) i = absurd cc
  call_has_list (does place (safepoint slots)) i = absurd cc
  call_has_list (does place (begin_object i)) j = absurd cc
  call_has_list (does place (end_object i)) j = absurd cc
  call_has_list (tests place temp) i = absurd i
  call_has_list passes i = absurd i
  call_has_list round i = absurd i
  call_has_list (returns temp) i = absurd i

  callers_stay : (p : Ir) (thread : ℕ) (above : ℕ) (ks : List (Point P Own)) (qs : List (Point P Words)) → CallersStand x p thread names blocks s above ks qs → ((w : ℕ) → In w (flat_map (handles_here x.flow) qs) → In w all_handles) → KeepCalls x.flow names blocks blocks s new qs
  callers_stay p thread above [] [] stand_ among = tt
  callers_stay p thread above [] (q ∷ qs) stand_ among = absurd stand_
  callers_stay p thread above (k ∷ ks) [] stand_ among = absurd stand_
  callers_stay p thread above (k ∷ ks) (q ∷ qs) stand_ among = (
    call_stays q (list_at (x.flow.here q.at)) refl (call_has_list (x.flow.here q.at) stand_.0.call) (λ w i. among w (in_left w (handles_here x.flow q) (flat_map (handles_here x.flow) qs) i)),
    callers_stay p thread q.own.below.stack ks qs stand_.1 (λ w i. among w (in_right w (handles_here x.flow q) (flat_map (handles_here x.flow) qs) i)),
  )

  -- ---- threads

  -- a thread that stands at a list
  at_list : (p : Ir) (thread : ℕ) (k : Option (Thread P Own)) (q : Thread P Words) (above : ℕ) (ks : List (Point P Own)) → is_some (list_at (x.flow.here q.top.at)) ≡ true → CallersStand x p thread names blocks s above ks q.callers
      → ((w : ℕ) → In w (handles_here x.flow q.top ++ flat_map (handles_here x.flow) q.callers) → In w all_handles) → KeepCalls x.flow names blocks blocks s new (q.top ∷ q.callers)
  at_list p thread k q above ks some under among = (
    call_stays q.top (list_at (x.flow.here q.top.at)) refl some (λ w i. among w (in_left w (handles_here x.flow q.top) (flat_map (handles_here x.flow) q.callers) i)),
    callers_stay p thread above ks q.callers under (λ w i. among w (in_right w (handles_here x.flow q.top) (flat_map (handles_here x.flow) q.callers) i)),
  )

  stage_stays : (p : Ir) (thread : ℕ) (k : Option (Thread P Own)) (g : Option (Stage P)) → StageStands x p thread names blocks s k g → ((stage : Stage P) → g ≡ Some stage → (stands x.flow stage ≡ true) × ((w : ℕ) → In w (handles_of x.flow stage) → In w all_handles))
      → KeepsStage x.flow names blocks blocks s new g
  stage_stays p thread k None stand_ may = tt
  stage_stays p thread k (Some (starts function argument)) stand_ may = tt
  stage_stays p thread (Some k) (Some (going q)) stand_ may = let m = may (going q) refl in at_list p thread (Some k) q q.top.own.below.stack k.callers m.0 stand_.callers m.1
  stage_stays p thread (Some k) (Some (waiting q)) stand_ may = let m = may (waiting q) refl in at_list p thread (Some k) q q.top.own.below.stack k.callers m.0 stand_.callers m.1
  stage_stays p thread (Some k) (Some (landed list q)) stand_ may =
      let m = may (landed list q) refl in (
        list_stays q.top.own list (λ w i. m.1 w (in_left w (handles_in q.top.own (Some list)) (flat_map (handles_here x.flow) q.callers) i)),
        callers_stay p thread q.top.own.below.stack k.callers q.callers stand_.fresh.callers (λ w i. m.1 w (in_right w (handles_in q.top.own (Some list)) (flat_map (handles_here x.flow) q.callers) i)),
      )
  stage_stays p thread None (Some (going q)) stand_ may = absurd stand_
  stage_stays p thread None (Some (waiting q)) stand_ may = absurd stand_
  stage_stays p thread None (Some (landed list q)) stand_ may = absurd stand_

  -- each thread that was made
  pub threads_stay : (p : Ir) (thread : ℕ) (k : Option (Thread P Own)) → StageStands x p thread names blocks s k (own_at st.own thread) → ((stage : Stage P) → own_at st.own thread ≡ Some stage → stands x.flow stage ≡ true) → KeepsStage x.flow names blocks blocks s new (own_at st.own thread)
  threads_stay p thread k stand_ may = stage_stays p thread k (own_at st.own thread) stand_ (λ stage e. (may stage e, λ w i. in_threads (handles_of x.flow) w st.own thread stage (handles_if x.flow) (λ a. refl) e i))
