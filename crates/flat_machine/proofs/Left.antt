-- Objects that leave, one after the other.
use Rattle.std.proofs.Common.{◌≡◌, ℕ, ◌+◌, ◌<◌, ◌≤◌, ◌⊎◌, ◌↔◌, Bool, true, false, cond, List, [], ◌∷◌, ◌++◌, length, drop, get_or, Option, Some, None, is_some, Result, Ok, Err, refl, sym, ap, ◌∙◌, inl, inr, arith}
use Rattle.std.specs.Prelude.{IsOk, IsSome, OnErr}
use Rattle.std.proofs.lemmas.List.{drop_all, drop_more}
use Rattle.handle_words.specs.Handle.{id_of}
use Rattle.arena_meaning.specs.Arena.{IsConsistent, IsLiveStart, Storage}
use Rattle.arena_meaning.specs.Changes.{is_live_start, without_id, without_words}
use Rattle.defrag_move.proofs.Choices.{chosen_free}
use Rattle.flat_meaning.specs.Memory.{words_leaving}
use Rattle.flat_meaning.proofs.LiveStarts.{live_starts_are_told}

-- without the object of a word, if it is live
abbrev pub without_word : Storage → (word : ℕ) → Storage
without_word s word = cond (is_live_start s word) (without_id s (id_of word)) s

-- it ends, if it is live
pub one_left : (s after : Storage) (word : ℕ) → (IsLiveStart s word → after ≡ without_id s (id_of word)) → ((IsLiveStart s word → ⊥) → after ≡ s) → after ≡ without_word s word
one_left s after word ends stays = by (is_live_start s word) refl where
  by : (b : Bool) → is_live_start s word ≡ b → after ≡ cond b (without_id s (id_of word)) s
  by true e = ends ((live_starts_are_told s word).0 e)
  by false e = stays (λ live. let told = (live_starts_are_told s word).1 live in let bad : true ≡ false = sym told ∙ e in absurd cc)

-- as a free of the word leaves it
pub free_left : {A E : Type 0} (r : Result A E) (s after : Storage) (word : ℕ) → (IsOk r ↔ ((word ≡ 0) ⊎ IsLiveStart s word)) → (word ≡ 0 → after ≡ s) → (IsLiveStart s word → after ≡ without_id s (id_of word)) → OnErr r (after ≡ s) → after ≡ without_word s word
free_left (Ok x) s after word answer null freed err = one_left s after word freed (λ dead. elim (answer.0 refl) [ inl is ↦ null is | inr live ↦ absurd (dead live) ])
free_left (Err e) s after word answer null freed err = one_left s after word freed (λ dead. err)

-- the words that are left
pub next_left : (words : List ℕ) (i : ℕ) (s next whole : Storage) → i < length words → without_words (drop i words) s ≡ whole → next ≡ without_word s (get_or words i 0) → without_words (drop (i + 1) words) next ≡ whole
next_left words i s next whole below same is = ap (without_words (drop (i + 1) words)) is ∙ sym (ap (λ (ws : List ℕ). without_words ws s) (drop_more words i 0 below)) ∙ same

pub all_left : (words : List ℕ) (i : ℕ) (s whole : Storage) → length words ≤ i → without_words (drop i words) s ≡ whole → s ≡ whole
all_left words i s whole past same = ap (λ (ws : List ℕ). without_words ws s) (sym (drop_all i words past)) ∙ same

-- ---- the words that leave, as they are kept

pub has_room : (serves : Bool) (items : List ℕ) (view : Option (List ℕ)) → cond serves (Some items) None ≡ view → IsSome view → length (words_leaving view) < 64 → length items < 64
has_room true items view is some few = omega (arith, few, ap (λ (w : Option (List ℕ)). length (words_leaving w)) is)
has_room false items view is some few = absurd (let bad : false ≡ true = ap is_some is ∙ some in cc)

pub with_one : (serves : Bool) (items more : List ℕ) (word : ℕ) (view : Option (List ℕ)) → cond serves (Some items) None ≡ view → IsSome view → more ≡ items ++ word ∷ [] → cond serves (Some more) None ≡ Some (words_leaving view ++ word ∷ [])
with_one true items more word view is some e = ap Some e ∙ ap (λ (w : Option (List ℕ)). Some (words_leaving w ++ word ∷ [])) is
with_one false items more word view is some e = absurd (let bad : false ≡ true = ap is_some is ∙ some in cc)

-- ---- what they keep

one_keeps : (s : Storage) (word : ℕ) → IsConsistent s → IsConsistent (without_word s word)
one_keeps s word consistent = by (is_live_start s word) where
  by : (b : Bool) → IsConsistent (cond b (without_id s (id_of word)) s)
  by true = chosen_free s consistent (id_of word)
  by false = consistent

pub words_keep : (words : List ℕ) (s : Storage) → IsConsistent s → IsConsistent (without_words words s)
words_keep [] s consistent = consistent
words_keep (word ∷ words) s consistent = words_keep words (without_word s word) (one_keeps s word consistent)

one_most : (s : Storage) (word : ℕ) → (without_word s word).heaps.most ≡ s.heaps.most
one_most s word = by (is_live_start s word) where
  by : (b : Bool) → (cond b (without_id s (id_of word)) s).heaps.most ≡ s.heaps.most
  by true = refl
  by false = refl

pub most_kept : (words : List ℕ) (s : Storage) → (without_words words s).heaps.most ≡ s.heaps.most
most_kept [] s = refl
most_kept (word ∷ words) s = most_kept words (without_word s word) ∙ one_most s word

one_count : (s : Storage) (word : ℕ) → (without_word s word).heaps.count ≡ s.heaps.count
one_count s word = by (is_live_start s word) where
  by : (b : Bool) → (cond b (without_id s (id_of word)) s).heaps.count ≡ s.heaps.count
  by true = refl
  by false = refl

pub count_kept : (words : List ℕ) (s : Storage) → (without_words words s).heaps.count ≡ s.heaps.count
count_kept [] s = refl
count_kept (word ∷ words) s = count_kept words (without_word s word) ∙ one_count s word
