-- What a step touches is all that it touches.
use Rattle.std.proofs.Common.{◌≡◌, ℕ, zero, suc, ◌+◌, ◌-◌, ◌<◌, ◌≤◌, ◌==◌, Bool, true, false, cond, List, [], ◌∷◌, ◌++◌, length, take, drop, replicate, get_or, Option, Some, None, refl, sym, ap, subst, ◌∙◌, ◌⊎◌, inl, inr, arith, append-nil}
use Rattle.std.specs.Prelude.{slice_get, nat_le, nat_lt, not, ◌&&◌, ◌*◌, ◌/◌, min}
use Rattle.std.specs.List.{find, range_with_len}
use Rattle.std.proofs.lemmas.Bool.{and_parts, cases_lt}
use Rattle.std.proofs.lemmas.Bool.Decides.{nat_tests}
use Rattle.std.proofs.lemmas.List.{ext_get_or, get_or-drop, get_or-take, length-drop, length-replicate, length-take, take-append-drop}
use Rattle.ak_words.specs.Bytes.{low_bytes, number_of}
use Rattle.ak_words.proofs.Bytes.{length-low_bytes}
use Rattle.ak_words.specs.declared.int_type.IntType.{IntType}
use Rattle.block_store.specs.declared.values.Access.{Access}
use Rattle.block_store.specs.declared.values.Change.{Change}
use Rattle.block_store.specs.Cells.{size_of}
use Rattle.flat_store.specs.Flat.{HasByte, HasBytes, byte_at, bytes_from, first_address, first_of, first_outside, first_outside_of_both, has_byte, with_bytes}
use Rattle.flat_store.proofs.Firsts.{none_meant}
use Rattle.handle_words.specs.Handle.{handle_of, id_of}
use Rattle.handle_table.specs.Table.{address_of}
use Rattle.sub_heaps.specs.declared.objects.Object.{Object}
use Rattle.sub_heaps.specs.SubHeaps.{rounded, FitsAt}
use Rattle.sub_heaps.proofs.Blocks.{end_inside}
use Rattle.arena_meaning.specs.Arena.{IsConsistent, object_of}
use Rattle.arena_meaning.specs.Changes.{first_bytes_of, bytes_named}
use Rattle.defrag_move.proofs.Kept.{matches}
use Rattle.defrag_move.proofs.Owners.{owner_found}
use Rattle.struct_ir.specs.Nodes.{Action, load, store, copy_bytes, malloc, calloc, realloc, free, change, compare, print, lock, unlock, destroy, start, join}
use Rattle.ak_trace.specs.declared.endings.TrapKind.{TrapKind}
use Rattle.ak_trace.specs.declared.endings.TrapKind.TheVariants as kinds
use Rattle.flat_meaning.specs.Accesses.{Choice, plain, got, null, wait, Done, went, waits, unfit, over, allocated, guarded, is_live_start, is_plain, output_room, prints, renewed, within, word_read, zeroed}
use Rattle.flat_meaning.specs.Actions.{acted_on_memory, word_after_change, is_equal, is_free, joined_at, joined_if, may_start, number_at, printed_parts}
use Rattle.flat_meaning.specs.Image.{Layout}
use Rattle.flat_meaning.specs.Memory.{Made, Memory, beginning, left_by, with_thread, written}
use Rattle.flat_meaning.specs.Printing.{Printed, bytes, text, Read, reads, outside, too_long, and_then, behind, read_part, read_parts, text_in}
use Rattle.flat_meaning.specs.Touched.{Touched, Touches, bytes_read, join_writes, object_reads, object_writes, part_reads, print_reads, reading, reads_behind, result_writes, touched_by, touched_in_objects, writing}
use Rattle.flat_meaning.specs.Words.{Target}
use Rattle.flat_words.specs.Words.{word_in}
use Rattle.flat_meaning.specs.Names.{address_if}
use Rattle.flat_simulation.specs.TouchedAlone.{ChangesWritten, HasItsRoom, HasRoom, ReadsSame, SameMemory, with_other}
use Rattle.flat_simulation.proofs.ObjectsTouched.{taken_few, taken_whole}
use Rattle.flat_simulation.proofs.Reached.{any_left, any_right, one_any}
use Rattle.flat_simulation.proofs.Rows.{over_inside, over_outside}
use Rattle.flat_simulation.proofs.Written.{length-read, length-written, none_of_both}

-- ---- bytes that are written

no_bytes : (all : List ℕ) (k : ℕ) → take k all ++ [] ++ drop (k + 0) all ≡ all
no_bytes all k = let same : k + 0 ≡ k = omega arith in rw (same, append-nil (take k all)) (take-append-drop k all)

module _ (all : List ℕ) (at n : ℕ) (there : first_outside all at n ≡ None) where
  has : HasBytes all at n
  has = (none_meant all at n).0 there

  -- beside them
  beside : (new : List ℕ) → length new ≡ n → (address : ℕ) → HasByte all address → (address < at) ⊎ (at + n ≤ address) → byte_at (with_bytes all at new) address ≡ byte_at all address
  beside [] long address is out = ap (λ bs. byte_at bs address) (no_bytes all (at - first_address))
  beside (b ∷ bs) long address is out =
      let first = has 0 (omega (arith, long)) in
      let last = has (length bs) (omega (arith, long)) in
      over_outside all (b ∷ bs) (at - first_address) 0 (omega (arith, first.0, last.1)) (address - first_address) (elim out [
        | inl lt ↦ inl (omega (arith, first.0, is.0, lt))
        | inr ge ↦ inr (omega (arith, first.0, is.0, ge, long))
      ])

  -- and there
  inside : (new : List ℕ) → length new ≡ n → (address : ℕ) → at ≤ address → address < at + n → byte_at (with_bytes all at new) address ≡ get_or new (address - at) 0
  inside new long address le lt =
      let here = has (address - at) (omega (arith, le, lt)) in
      let first = has 0 (omega (arith, le, lt)) in
      let last = has (n - 1) (omega (arith, le, lt)) in
      let same : address - first_address ≡ at - first_address + (address - at) = omega (arith, le, first.0) in
      ap (λ k. get_or (with_bytes all at new) k 0) same ∙ over_inside all new (at - first_address) 0 (omega (arith, first.0, last.1, long, le, lt)) (address - at) (omega (arith, le, lt, long))

-- as many bytes have the same addresses
abbrev first_by : (long at n : ℕ) → Option ℕ
first_by long at n = find (λ address. not (nat_le first_address address && nat_lt address (first_address + long))) (range_with_len at n)

same_outside : (all other : List ℕ) → length other ≡ length all → (at n : ℕ) → first_outside other at n ≡ first_outside all at n
same_outside all other size at n = ap (λ (k : ℕ). first_by k at n) size

-- ---- what is listed

reads_it : (n at address : ℕ) → at ≤ address → address < at + n → Touches (reading n at) false address
reads_it n at address le lt = one_any _ _ (refl, le, lt)

writes_it : (n at address : ℕ) → at ≤ address → address < at + n → Touches (writing n at) true address
writes_it n at address le lt = one_any _ _ (refl, le, lt)

-- ---- a memory, and one with other bytes

module _ (touched : List Touched) (m : Memory) (other : List ℕ) (same : ReadsSame touched m.storage.bytes other) where
  abbrev all : List ℕ
  all = m.storage.bytes

  abbrev n : Memory
  n = with_other m other

  -- what is done changes what is written alone
  abbrev Alone : Done → Type 0
  Alone (went word after) = ChangesWritten touched m.storage.bytes after.storage.bytes
  Alone waits = Unit {0}
  Alone unfit = Unit {0}
  Alone (over f) = Unit {0}

  -- the same is done
  abbrev Same : Done → Done → Type 0
  Same (went word after) (went other_word later) = (other_word ≡ word) × SameMemory m.storage.bytes other after later
  Same waits waits = Unit {0}
  Same unfit unfit = Unit {0}
  Same (over f) (over g) = g ≡ f
  Same d e = ⊥

  -- both
  abbrev pub Both : Done → Done → Type 0
  Both d e = Alone d × Same d e

  settles : (b : Bool) (d e : Done) → Both d e → Both (cond b d unfit) (cond b e unfit)
  settles true d e h = h
  settles false d e h = (tt, tt)

  either : (b : Bool) (d d2 e e2 : Done) → Both d e → Both d2 e2 → Both (cond b d d2) (cond b e e2)
  either true d d2 e e2 h k = h
  either false d d2 e e2 h k = k

  by_outside : (kind : TrapKind) (o : Option ℕ) (d e : Done) → (o ≡ None → Both d e) → Both (within kind o d) (within kind o e)
  by_outside kind None d e h = h refl
  by_outside kind (Some a) d e h = (tt, refl)

  in_range : (kind : TrapKind) (at k : ℕ) (d e : Done) → (first_outside all at k ≡ None → Both d e) → Both (within kind (first_outside all at k) d) (within kind (first_outside other at k) e)
  in_range kind at k d e h = subst (λ o. Both (within kind (first_outside all at k) d) (within kind o e)) (sym (same_outside all other same.size at k)) (by_outside kind (first_outside all at k) d e h)

  -- ---- reads

  read_same : (at k : ℕ) → first_outside all at k ≡ None → ((address : ℕ) → at ≤ address → address < at + k → Touches touched false address) → bytes_from other at k ≡ bytes_from all at k
  read_same at k there listed =
      let there_other : first_outside other at k ≡ None = same_outside all other same.size at k ∙ there in
      let long = length-read all at k there in
      let long_other = length-read other at k there_other in
      ext_get_or 0 (bytes_from other at k) (bytes_from all at k) (long_other ∙ sym long) (λ i below.
      let lt : i < k = omega (arith, below, long_other) in
      let is : HasByte all (at + i) = has all at k there i lt in
      let first = has all at k there 0 (omega (arith, lt)) in
      let at_i : at - first_address + i ≡ at + i - first_address = omega (arith, first.0) in
      let each : (l : List ℕ) → get_or (bytes_from l at k) i 0 ≡ byte_at l (at + i) = λ (l : List ℕ). get_or-take k (drop (at - first_address) l) i 0 lt ∙ get_or-drop (at - first_address) l i 0 ∙ ap (λ (j : ℕ). get_or l j 0) at_i in
      each other ∙ same.same (at + i) is (listed (at + i) (omega arith) (omega (arith, lt))) ∙ sym (each all))

  -- ---- what is done

  -- nothing is written
  unwritten : (word word2 : Option ℕ) → word2 ≡ word → Both (went word m) (went word2 n)
  unwritten word word2 e = (record { size = refl; others = λ address is not. refl }, (e, record { is = refl; bytes = λ address is. inr (refl, refl) }))

  -- bytes are written, and nothing else of the storage changes
  module _ (at k : ℕ) (there : first_outside all at k ≡ None) (listed : (address : ℕ) → at ≤ address → address < at + k → Touches touched true address) where
    out : (address : ℕ) → (Touches touched true address → ⊥) → (address < at) ⊎ (at + k ≤ address)
    out address not = elim (cases_lt address at) [
      | inl lt ↦ inl lt
      | inr ge ↦ elim (cases_lt address (at + k)) [
        | inl lt ↦ absurd (not (listed address ge lt))
        | inr past ↦ inr past
      ]
    ]

    changes : (new : List ℕ) → length new ≡ k → ChangesWritten touched all (with_bytes all at new)
    changes new long = record { size = length-written all new at k long there; others = λ address is not. beside all at k there new long address is (out address not) }

    there_other : first_outside other at k ≡ None
    there_other = same_outside all other same.size at k ∙ there

    abbrev EachSame : List ℕ → List ℕ → Type 0
    EachSame new new2 = (address : ℕ) → HasByte all address
        → (byte_at (with_bytes other at new2) address ≡ byte_at (with_bytes all at new) address) ⊎ ((byte_at (with_bytes all at new) address ≡ byte_at all address) × (byte_at (with_bytes other at new2) address ≡ byte_at other address))

    stayed : (new new2 : List ℕ) → length new ≡ k → new2 ≡ new → (address : ℕ) → HasByte all address → (address < at) ⊎ (at + k ≤ address)
        → (byte_at (with_bytes all at new) address ≡ byte_at all address) × (byte_at (with_bytes other at new2) address ≡ byte_at other address)
    stayed new new2 long e address is out =
        let size = same.size in
        (beside all at k there new long address is out, beside other at k there_other new2 (ap length e ∙ long) address (is.0, omega (arith, is.1, size)) out)

    each_same : (new new2 : List ℕ) → length new ≡ k → new2 ≡ new → EachSame new new2
    each_same new new2 long e address is = elim (cases_lt address at) [
      | inl lt ↦ inr (stayed new new2 long e address is (inl lt))
      | inr ge ↦ elim (cases_lt address (at + k)) [
        | inl lt ↦ inl (inside other at k there_other new2 (ap length e ∙ long) address ge lt ∙ ap (λ (l : List ℕ). get_or l (address - at) 0) e ∙ sym (inside all at k there new long address ge lt))
        | inr past ↦ inr (stayed new new2 long e address is (inr past))
      ]
    ]

    writes : (new new2 : List ℕ) → length new ≡ k → new2 ≡ new → (word : Option ℕ) → Both (went word (written m at new)) (went word (written n at new2))
    writes new new2 long e word = (changes new long, (refl, record { is = refl; bytes = each_same new new2 long e }))

    writes_thread : (new : List ℕ) → length new ≡ k → (word : Option ℕ) (t : Made) → Both (went word (with_thread (written m at new) t)) (went word (with_thread (written n at new) t))
    writes_thread new long word t = (changes new long, (refl, record { is = refl; bytes = each_same new new long refl }))

-- ---- each action

module _ (y : Layout) (number : ℕ) (choice : Choice) (m : Memory) (other : List ℕ) where
  abbrev all_bytes : List ℕ
  all_bytes = m.storage.bytes

  abbrev later : Memory
  later = with_other m other

  -- an action, with what it touches
  abbrev ActsAlone : Action → List Target → List ℕ → Type 0
  ActsAlone a ps ws = (same : ReadsSame (touched_in_objects choice a ws m.storage ++ touched_by y a ps ws m) m.storage.bytes other) → HasItsRoom m.storage choice a ws
      → Both (touched_in_objects choice a ws m.storage ++ touched_by y a ps ws m) m other same (acted_on_memory y number choice a ps ws m) (acted_on_memory y number choice a ps ws (with_other m other))

  misfits : (touched : List Touched) (same : ReadsSame touched m.storage.bytes other) → Both touched m other same unfit unfit
  misfits touched same = (tt, tt)

  loads : (how : Access) (a : Target) → ActsAlone (load how) (a ∷ []) []
  loads how a same room =
      let touched = reading (size_of how) a.address in
      settles touched m other same (is_plain choice) _ _
      (in_range touched m other same kinds.Load a.address (size_of how) _ _ (λ there.
      unwritten touched m other same _ _
      (ap (λ (l : List ℕ). Some (word_read how l)) (read_same touched m other same a.address (size_of how) there (λ address le lt. reads_it (size_of how) a.address address le lt)))))

  stores : (how : Access) (a : Target) (word : ℕ) → ActsAlone (store how) (a ∷ []) (word ∷ [])
  stores how a word same room =
      let touched = writing (size_of how) a.address in
      settles touched m other same (is_plain choice) _ _
      (in_range touched m other same kinds.Store a.address (size_of how) _ _ (λ there.
      writes touched m other same a.address (size_of how) there (λ address le lt. writes_it (size_of how) a.address address le lt)
      (low_bytes (size_of how) word) (low_bytes (size_of how) word) (length-low_bytes (size_of how) word) refl None))

  copies : (align : ℕ) (eq : Bool) (to from : Target) (k : ℕ) → ActsAlone (copy_bytes align eq) (to ∷ from ∷ []) (k ∷ [])
  copies align eq to from k same room =
      let touched = reading k from.address ++ writing k to.address in
      let outside_same : first_outside_of_both other to.address from.address k ≡ first_outside_of_both all_bytes to.address from.address k = λ i. first_of (same_outside all_bytes other same.size to.address k i) (same_outside all_bytes other same.size from.address k i) in
      settles touched m other same (is_plain choice) _ _
      (subst (λ o. Both touched m other same (within kinds.Copy (first_outside_of_both all_bytes to.address from.address k) (went None (written m to.address (bytes_from all_bytes from.address k)))) (within kinds.Copy o (went None (written later to.address (bytes_from other from.address k))))) (sym outside_same)
      (by_outside touched m other same kinds.Copy (first_outside_of_both all_bytes to.address from.address k) _ _ (λ none.
      let both = none_of_both (first_outside all_bytes to.address k) (first_outside all_bytes from.address k) none in
      writes touched m other same to.address k both.0 (λ address le lt. any_right _ (reading k from.address) (writing k to.address) (writes_it k to.address address le lt))
      (bytes_from all_bytes from.address k) (bytes_from other from.address k) (length-read all_bytes from.address k both.1)
      (read_same touched m other same from.address k both.1 (λ address le lt. any_left _ (reading k from.address) (writing k to.address) (reads_it k from.address address le lt))) None)))

  -- ---- allocations

  gets : (touched : List Touched) (same : ReadsSame touched m.storage.bytes other) (c : Choice) (size : ℕ) → Both touched m other same (allocated c size m) (allocated c size (with_other m other))
  gets touched same plain size = (tt, tt)
  gets touched same (got id place) size = (record { size = refl; others = λ address is not. refl }, (refl, record { is = refl; bytes = λ address is. inr (refl, refl) }))
  gets touched same null size = unwritten touched m other same _ _ refl
  gets touched same wait size = (tt, tt)

  -- a new object that fits has its bytes
  there_in : (taken place : ℕ) → IsConsistent m.storage → FitsAt m.storage.heaps taken place → (k : ℕ) → k ≤ taken → first_outside all_bytes (m.storage.start + place) k ≡ None
  there_in taken place consistent fits k le =
      let inside = end_inside m.storage.heaps.size (omega (arith, consistent.heaps.shape.size_least)) m.storage.heaps.count taken place fits.inside in
      (none_meant all_bytes (m.storage.start + place) k).1 (λ i lt. (omega (arith, consistent.above), omega (arith, consistent.whole, inside, lt, le)))

  callocs : (count size : ℕ) → ActsAlone calloc [] (count ∷ size ∷ [])
  callocs count size same room = by choice same room where
    by : (c : Choice) (same : ReadsSame (object_writes m.storage c (rounded (count * size)) ++ []) m.storage.bytes other) → HasRoom m.storage c (count * size)
        → Both (object_writes m.storage c (rounded (count * size)) ++ []) m other same (zeroed c (count * size) m) (zeroed c (count * size) (with_other m other))
    by plain same room = (tt, tt)
    by (got id place) same room =
        let n = rounded (count * size) in
        let at = m.storage.start + place in
        let there = there_in n place room.0 room.1 n (omega arith) in
        let listed : (address : ℕ) → at ≤ address → address < at + n → Touches (writing n at) true address = λ address le lt. writes_it n at address le lt in
        let new = replicate n 0 in
        let long : length new ≡ n = length-replicate n 0 in
        (changes (writing n at) m other same at n there listed new long, (refl, record { is = refl; bytes = each_same (writing n at) m other same at n there listed new new long refl }))
    by null same room = unwritten [] m other same _ _ refl
    by wait same room = (tt, tt)

  -- ---- realloc

  module _ (word size : ℕ) where
    abbrev most : ℕ
    most = rounded size

    -- the old object's bytes, here and there
    abbrev old : List ℕ
    old = bytes_named m.storage word most

    abbrev Listed : List Touched → Type 0
    Listed touched = (address : ℕ) → HasByte all_bytes address → Touches touched false address → byte_at other address ≡ byte_at all_bytes address

    object_same : (o : Object) → IsConsistent m.storage → length other ≡ length all_bytes
        → ((i : ℕ) → i < length (first_bytes_of m.storage most (Some o)) → byte_at other (m.storage.start + o.at + i) ≡ byte_at all_bytes (m.storage.start + o.at + i))
        → first_bytes_of (with_other m other).storage most (Some o) ≡ first_bytes_of m.storage most (Some o)
    object_same o consistent size same =
        let at = m.storage.start + o.at in
        let k = at - first_address in
        let long : length (take most (take o.size (drop k other))) ≡ length (take most (take o.size (drop k all_bytes))) =
        length-take most (take o.size (drop k other)) ∙ ap (λ (j : ℕ). min most j) (length-take o.size (drop k other) ∙ ap (λ (j : ℕ). min o.size j) (length-drop k other ∙ ap (λ (j : ℕ). j - k) size ∙ sym (length-drop k all_bytes)) ∙ sym (length-take o.size (drop k all_bytes))) ∙ sym (length-take most (take o.size (drop k all_bytes))) in
        ext_get_or 0 (take most (take o.size (drop k other))) (take most (take o.size (drop k all_bytes))) long (λ i below.
        let few = taken_few most o.size (drop k all_bytes) in
        let lt : i < length (take most (take o.size (drop k all_bytes))) = omega (arith, below, long) in
        let lt_n : i < most = omega (arith, lt, few.0) in
        let lt_size : i < o.size = omega (arith, lt, few.1) in
        let at_i : k + i ≡ at + i - first_address = omega (arith, consistent.above) in
        let each : (l : List ℕ) → get_or (take most (take o.size (drop k l))) i 0 ≡ byte_at l (at + i) = λ (l : List ℕ).
        get_or-take most (take o.size (drop k l)) i 0 lt_n ∙ get_or-take o.size (drop k l) i 0 lt_size ∙ get_or-drop k l i 0 ∙ ap (λ (j : ℕ). get_or l j 0) at_i in
        each other ∙ same i lt ∙ sym (each all_bytes))

    named_by : (b : Bool) (o : Option Object) → is_live_start m.storage word ≡ b → object_of (id_of word) m.storage.heaps.objects ≡ o → IsConsistent m.storage → length other ≡ length all_bytes
        → Listed (reading (length (cond b (first_bytes_of m.storage most o) [])) (address_if (address_of m.storage.table (id_of word))))
        → cond b (first_bytes_of (with_other m other).storage most o) [] ≡ cond b (first_bytes_of m.storage most o) []
    named_by false o live owned consistent long listed = refl
    named_by true None live owned consistent long listed = refl
    named_by true (Some o) live owned consistent long listed =
        let found = owner_found m.storage.start m.storage.table m.storage.heaps.objects (matches m.storage consistent) (id_of word) o owned in
        let at : address_if (address_of m.storage.table (id_of word)) ≡ m.storage.start + o.at = ap address_if found.1 in
        let k = m.storage.start + o.at - first_address in
        object_same o consistent long (λ i lt.
        let few = taken_whole most o.size (drop k all_bytes) in
        listed (m.storage.start + o.at + i) (omega (arith, consistent.above), omega (arith, consistent.above, lt, few, length-drop k all_bytes))
        (reads_it (length (first_bytes_of m.storage most (Some o))) (address_if (address_of m.storage.table (id_of word))) (m.storage.start + o.at + i) (omega (arith, at)) (omega (arith, at, lt))))

    -- the old object leaves, or is noted, or there is none: bytes stay
    leaves_alone : (touched : List Touched) (same : ReadsSame touched m.storage.bytes other) (b : Bool) (leaving : Option (List ℕ)) (result : Option ℕ) (p r : Memory) → r ≡ with_other p r.storage.bytes → ChangesWritten touched all_bytes p.storage.bytes
        → ((address : ℕ) → HasByte all_bytes address → (byte_at r.storage.bytes address ≡ byte_at p.storage.bytes address) ⊎ ((byte_at p.storage.bytes address ≡ byte_at all_bytes address) × (byte_at r.storage.bytes address ≡ byte_at other address)))
        → Both touched m other same (went result (cond b (left_by leaving word p) p)) (went result (cond b (left_by leaving word r) r))
    leaves_alone touched same false leaving result p r is changed each = (changed, (refl, record { is = is; bytes = each }))
    leaves_alone touched same true None result p r is changed each = (changed, (refl, record { is = ap (left_by None word) is; bytes = each }))
    leaves_alone touched same true (Some words) result p r is changed each = (changed, (refl, record { is = ap (left_by (Some words) word) is; bytes = each }))

    renews : (c : Choice) (same : ReadsSame ((object_reads m.storage c word most ++ object_writes m.storage c (length old)) ++ []) m.storage.bytes other) → HasRoom m.storage c size
        → Both ((object_reads m.storage c word most ++ object_writes m.storage c (length old)) ++ []) m other same (renewed c word size m) (renewed c word size (with_other m other))
    renews plain same room = (tt, tt)
    renews (got id place) same room =
        let at = m.storage.start + place in
        let k = length old in
        let from = address_if (address_of m.storage.table (id_of word)) in
        let touched = (reading k from ++ writing k at) ++ [] in
        let there = there_in most place room.0 room.1 k (old_few (is_live_start m.storage word) (object_of (id_of word) m.storage.heaps.objects)) in
        let listed : (address : ℕ) → at ≤ address → address < at + k → Touches touched true address = λ address le lt. any_right _ (reading k from) (writing k at) (writes_it k at address le lt) in
        let bytes_same : bytes_named (with_other m other).storage word most ≡ old =
        named_by (is_live_start m.storage word) (object_of (id_of word) m.storage.heaps.objects) refl refl room.0 same.size
        (λ address is t. same.same address is (any_left _ (reading k from) (writing k at) t)) in
        leaves_alone touched same (is_live_start m.storage word) m.leaving (Some (handle_of id 0)) _ _ refl (changes touched m other same at k there listed old refl)
        (each_same touched m other same at k there listed old (bytes_named (with_other m other).storage word most) refl bytes_same)
      where
        old_few : (b : Bool) (o : Option Object) → length (cond b (first_bytes_of m.storage most o) []) ≤ most
        old_few false o = omega arith
        old_few true None = omega arith
        old_few true (Some o) = (taken_few most o.size _).0
    renews null same room = unwritten _ m other same _ _ refl
    renews wait same room = (tt, tt)

    guards : (touched : List Touched) (same : ReadsSame touched m.storage.bytes other) (leaving : Option (List ℕ)) (d e : Done) → Both touched m other same d e → Both touched m other same (guarded leaving word m.storage d) (guarded leaving word (with_other m other).storage e)
    guards touched same None d e h = either touched m other same (is_live_start m.storage word) _ _ _ _ h (tt, refl)
    guards touched same (Some words) d e h = h

    reallocs : ActsAlone realloc [] (word ∷ size ∷ [])
    reallocs same room = either _ m other same (word == 0) _ _ _ _ (gets _ same choice size) (guards _ same m.leaving _ _ (renews choice same room))

  -- ---- numbers that are changed and compared

  number_same : (touched : List Touched) (same : ReadsSame touched m.storage.bytes other) (t : IntType) (at : ℕ) → first_outside all_bytes at (t.bits / 8) ≡ None → ((address : ℕ) → at ≤ address → address < at + t.bits / 8 → Touches touched false address)
      → number_at t at (with_other m other) ≡ number_at t at m
  number_same touched same t at there listed = ap (λ (l : List ℕ). word_in t (number_of l)) (read_same touched m other same at (t.bits / 8) there listed)

  changes_number : (how : Change) (t : IntType) (a : Target) (by : ℕ) → ActsAlone (change how t) (a ∷ []) (by ∷ [])
  changes_number how t a by same room =
      let k = t.bits / 8 in
      let touched = reading k a.address ++ writing k a.address in
      settles touched m other same (is_plain choice) _ _
      (in_range touched m other same kinds.Store a.address k _ _ (λ there.
      let num = number_same touched same t a.address there (λ address le lt. any_left _ (reading k a.address) (writing k a.address) (reads_it k a.address address le lt)) in
      let new = low_bytes k (word_after_change how t (number_at t a.address m) by) in
      let result : (went (Some (number_at t a.address (with_other m other))) (written (with_other m other) a.address (low_bytes k (word_after_change how t (number_at t a.address (with_other m other)) by)))) ≡ went (Some (number_at t a.address m)) (written (with_other m other) a.address new) =
      ap (λ (v : ℕ). went (Some v) (written (with_other m other) a.address (low_bytes k (word_after_change how t v by)))) num in
      subst (λ (e : Done). Both touched m other same (went (Some (number_at t a.address m)) (written m a.address new)) e) (sym result)
      (writes touched m other same a.address k there (λ address le lt. any_right _ (reading k a.address) (writing k a.address) (writes_it k a.address address le lt)) new new (length-low_bytes k _) refl (Some (number_at t a.address m)))))

  module _ (t : IntType) (a want : Target) (new : ℕ) where
    abbrev k : ℕ
    k = t.bits / 8

    abbrev Compares : Bool → List Touched
    Compares b = (reading k a.address ++ reading k want.address) ++ writing k (cond b a.address want.address)

    abbrev Result : Bool → Memory → Done
    Result b n = let old = number_at t a.address n in cond b (went (Some 1) (written n a.address (low_bytes k new))) (went (Some 0) (written n want.address (low_bytes k old)))

    stores_one : (b : Bool) (same : ReadsSame (Compares b) m.storage.bytes other) → first_outside all_bytes a.address k ≡ None → first_outside all_bytes want.address k ≡ None → number_at t a.address (with_other m other) ≡ number_at t a.address m
        → Both (Compares b) m other same (Result b m) (Result b (with_other m other))
    stores_one true same there there_want num =
        writes (Compares true) m other same a.address k there (λ address le lt. any_right _ (reading k a.address ++ reading k want.address) (writing k a.address) (writes_it k a.address address le lt)) (low_bytes k new) (low_bytes k new) (length-low_bytes k new) refl (Some 1)
    stores_one false same there there_want num =
        writes (Compares false) m other same want.address k there_want (λ address le lt. any_right _ (reading k a.address ++ reading k want.address) (writing k want.address) (writes_it k want.address address le lt))
        (low_bytes k (number_at t a.address m)) (low_bytes k (number_at t a.address (with_other m other))) (length-low_bytes k _) (ap (low_bytes k) num) (Some 0)

    compares_by : (b : Bool) → is_equal t (number_at t a.address m) (number_at t want.address m) ≡ b → (same : ReadsSame (Compares b) m.storage.bytes other)
        → Both (Compares b) m other same (cond (is_plain choice) (within kinds.Store (first_outside_of_both all_bytes a.address want.address k) (Result b m)) unfit) (acted_on_memory y number choice (compare t) (a ∷ want ∷ []) (new ∷ []) (with_other m other))
    compares_by b is_so same =
        let outside_same : first_outside_of_both other a.address want.address k ≡ first_outside_of_both all_bytes a.address want.address k = λ i. first_of (same_outside all_bytes other same.size a.address k i) (same_outside all_bytes other same.size want.address k i) in
        settles (Compares b) m other same (is_plain choice) _ _
        (subst (λ o. Both (Compares b) m other same (within kinds.Store (first_outside_of_both all_bytes a.address want.address k) (Result b m)) (within kinds.Store o (Result (is_equal t (number_at t a.address (with_other m other)) (number_at t want.address (with_other m other))) (with_other m other)))) (sym outside_same)
        (by_outside (Compares b) m other same kinds.Store (first_outside_of_both all_bytes a.address want.address k) _ _ (λ none.
        let both = none_of_both (first_outside all_bytes a.address k) (first_outside all_bytes want.address k) none in
        let listed : (address : ℕ) → Touches (reading k a.address ++ reading k want.address) false address → Touches (Compares b) false address = λ address h. any_left _ (reading k a.address ++ reading k want.address) (writing k (cond b a.address want.address)) h in
        let one = number_same (Compares b) same t a.address both.0 (λ address le lt. listed address (any_left _ (reading k a.address) (reading k want.address) (reads_it k a.address address le lt))) in
        let two = number_same (Compares b) same t want.address both.1 (λ address le lt. listed address (any_right _ (reading k a.address) (reading k want.address) (reads_it k want.address address le lt))) in
        let equal_other : is_equal t (number_at t a.address (with_other m other)) (number_at t want.address (with_other m other)) ≡ b = (λ i. is_equal t (one i) (two i)) ∙ is_so in
        subst (λ (c : Bool). Both (Compares b) m other same (Result b m) (Result c (with_other m other))) (sym equal_other) (stores_one b same both.0 both.1 one))))

    compares : ActsAlone (compare t) (a ∷ want ∷ []) (new ∷ [])
    compares same room = compares_by (is_equal t (number_at t a.address m) (number_at t want.address m)) refl same

  frees : (word : ℕ) → ActsAlone free [] (word ∷ [])
  frees word same room =
      settles [] m other same (is_plain choice) _ _
      (either [] m other same (word == 0) _ _ _ _ (unwritten [] m other same _ _ refl)
      (either [] m other same (is_live_start m.storage word) _ _ _ _ (record { size = refl; others = λ address is not. refl }, (refl, record { is = refl; bytes = λ address is. inr (refl, refl) })) (tt, refl)))

  -- ---- a print

  -- a text's first bytes
  text_same : (at : ℕ) (xs ys : List ℕ) (room : ℕ) → length ys ≡ length xs → ((i : ℕ) → i < length xs → i < bytes_read xs room → get_or ys i 0 ≡ get_or xs i 0) → text_in at ys room ≡ text_in at xs room
  text_same at [] [] room long same = refl
  text_same at [] (v ∷ ys) room long same = absurd (omega (arith, long))
  text_same at (b ∷ xs) [] room long same = absurd (omega (arith, long))
  text_same at (zero ∷ xs) (v ∷ ys) room long same = let head : v ≡ 0 = same 0 (omega arith) (omega arith) in ap (λ (b : ℕ). text_in at (b ∷ ys) room) head
  text_same at (suc b ∷ xs) (v ∷ ys) zero long same = let head : v ≡ suc b = same 0 (omega arith) (omega arith) in ap (λ (b : ℕ). text_in at (b ∷ ys) 0) head
  text_same at (suc b ∷ xs) (v ∷ ys) (suc room) long same =
      let head : v ≡ suc b = same 0 (omega arith) (omega arith) in
      ap (λ (b : ℕ). text_in at (b ∷ ys) (suc room)) head
      ∙ ap (behind (suc b ∷ [])) (text_same (suc at) xs ys room (omega (arith, long)) (λ i below lt. same (suc i) (omega (arith, below)) (omega (arith, lt))))

  module _ (size : length other ≡ length m.storage.bytes) where
    abbrev SameOn : List Touched → Type 0
    SameOn ts = (address : ℕ) → HasByte m.storage.bytes address → Touches ts false address → byte_at other address ≡ byte_at m.storage.bytes address

    has_same : (at : ℕ) → has_byte other at ≡ has_byte all_bytes at
    has_same at = ap (λ (k : ℕ). nat_le first_address at && nat_lt at (first_address + k)) size

    text_there : (at room : ℕ) (b : Bool) → has_byte all_bytes at ≡ b → SameOn (cond b (reading (bytes_read (drop (at - first_address) all_bytes) room) at) []) → cond b (text_in at (drop (at - first_address) other) room) (outside at) ≡ cond b (text_in at (drop (at - first_address) all_bytes) room) (outside at)
    text_there at room false is same = refl
    text_there at room true is same =
        let tests = and_parts (nat_le first_address at) (nat_lt at (first_address + length all_bytes)) is in
        let above = tests.0 in
        let low : first_address ≤ at = grind (arith, nat_tests) in
        let k = at - first_address in
        text_same at (drop k all_bytes) (drop k other) room (length-drop k other ∙ ap (λ (n : ℕ). n - k) size ∙ sym (length-drop k all_bytes)) (λ i below lt.
        let there : i + k < length all_bytes = omega (arith, below, length-drop k all_bytes) in
        let at_i : k + i ≡ at + i - first_address = omega (arith, low) in
        get_or-drop k other i 0 ∙ ap (λ (j : ℕ). get_or other j 0) at_i
        ∙ same (at + i) (omega (arith, low), omega (arith, there, low)) (reads_it (bytes_read (drop k all_bytes) room) at (at + i) (omega arith) (omega (arith, lt)))
        ∙ sym (get_or-drop k all_bytes i 0 ∙ ap (λ (j : ℕ). get_or all_bytes j 0) at_i))

    part_same : (part : Printed) (room : ℕ) → SameOn (part_reads all_bytes part room) → read_part other part room ≡ read_part all_bytes part room
    part_same (bytes these) room same = refl
    part_same (text at) room same = ap (λ (b : Bool). cond b (text_in at (drop (at - first_address) other) room) (outside at)) (has_same at) ∙ text_there at room (has_byte all_bytes at) refl same

    parts_same : (parts : List Printed) (room : ℕ) → SameOn (print_reads all_bytes parts room) → read_parts other parts room ≡ read_parts all_bytes parts room
    parts_same [] room same = refl
    parts_same (part ∷ parts) room same =
        ap (λ (r : Read). and_then r room (read_parts other parts)) (part_same part room (λ address is t. same address is (any_left _ (part_reads all_bytes part room) _ t)))
        ∙ by_read (read_part all_bytes part room) (λ (k : ℕ). parts_same parts k) (λ address is t. same address is (any_right _ (part_reads all_bytes part room) _ t))
      where
        by_read : (r : Read) → ((k : ℕ) → SameOn (print_reads all_bytes parts k) → read_parts other parts k ≡ read_parts all_bytes parts k) → SameOn (reads_behind r room (print_reads all_bytes parts))
            → and_then r room (read_parts other parts) ≡ and_then r room (read_parts all_bytes parts)
        by_read (reads first) rest_same rest = ap (behind first) (rest_same (room - length first) rest)
        by_read (outside address) rest_same rest = refl
        by_read too_long rest_same rest = refl

  print_alone : (touched : List Touched) (same : ReadsSame touched m.storage.bytes other) (r r2 : Read) → r2 ≡ r → Both touched m other same (prints r m) (prints r2 (with_other m other))
  print_alone touched same r r2 e = subst (λ (z : Read). Both touched m other same (prints r m) (prints z (with_other m other))) (sym e) (by r) where
    by : (r : Read) → Both touched m other same (prints r m) (prints r (with_other m other))
    by (reads those) = (record { size = refl; others = λ address is not. refl }, (refl, record { is = refl; bytes = λ address is. inr (refl, refl) }))
    by (outside address) = (tt, refl)
    by too_long = (tt, refl)

  prints_alone : (pieces : _) (ps : List Target) (ws : List ℕ) → ActsAlone (print pieces) ps ws
  prints_alone pieces ps ws same room =
      let parts = printed_parts pieces ps ws in
      let room = output_room y.limits.output m in
      settles (print_reads all_bytes parts room ++ []) m other same (is_plain choice) _ _
      (print_alone (print_reads all_bytes parts room ++ []) same (read_parts all_bytes parts room) (read_parts other parts room)
      (parts_same same.size parts room (λ address is t. same.same address is (any_left _ (print_reads all_bytes parts room) [] t))))

  -- ---- mutexes and threads

  locks : (a : Target) → ActsAlone lock (a ∷ []) []
  locks a same room = by (is_free m a.address) refl same where
    by : (b : Bool) → is_free m a.address ≡ b → (same : ReadsSame (reading 8 a.address ++ cond b (writing 8 a.address) []) m.storage.bytes other)
        → Both (reading 8 a.address ++ cond b (writing 8 a.address) []) m other same (cond (is_plain choice) (within kinds.Lock (first_outside all_bytes a.address 8) (cond b (went None (written m a.address (low_bytes 8 (number + 1)))) waits)) unfit)
        (acted_on_memory y number choice lock (a ∷ []) [] (with_other m other))
    by b is_free_now same =
        let touched = reading 8 a.address ++ cond b (writing 8 a.address) [] in
        settles touched m other same (is_plain choice) _ _
        (in_range touched m other same kinds.Lock a.address 8 _ _ (λ there.
        let read = read_same touched m other same a.address 8 there (λ address le lt. any_left _ (reading 8 a.address) (cond b (writing 8 a.address) []) (reads_it 8 a.address address le lt)) in
        let free_other : is_free (with_other m other) a.address ≡ b = ap (λ (l : List ℕ). number_of l == 0) read ∙ is_free_now in
        subst (λ (c : Bool). Both touched m other same (cond b (went None (written m a.address (low_bytes 8 (number + 1)))) waits) (cond c (went None (written later a.address (low_bytes 8 (number + 1)))) waits)) (sym free_other)
        (taken b same there)))
      where
        taken : (b : Bool) (same : ReadsSame (reading 8 a.address ++ cond b (writing 8 a.address) []) m.storage.bytes other) → first_outside all_bytes a.address 8 ≡ None
            → Both (reading 8 a.address ++ cond b (writing 8 a.address) []) m other same (cond b (went None (written m a.address (low_bytes 8 (number + 1)))) waits) (cond b (went None (written later a.address (low_bytes 8 (number + 1)))) waits)
        taken true same there =
            writes (reading 8 a.address ++ writing 8 a.address) m other same a.address 8 there (λ address le lt. any_right _ (reading 8 a.address) (writing 8 a.address) (writes_it 8 a.address address le lt))
            (low_bytes 8 (number + 1)) (low_bytes 8 (number + 1)) (length-low_bytes 8 (number + 1)) refl None
        taken false same there = (tt, tt)

  unlocks : (a : Target) → ActsAlone unlock (a ∷ []) []
  unlocks a same room =
      settles (writing 8 a.address) m other same (is_plain choice) _ _
      (in_range (writing 8 a.address) m other same kinds.Lock a.address 8 _ _ (λ there.
      writes (writing 8 a.address) m other same a.address 8 there (λ address le lt. writes_it 8 a.address address le lt) (low_bytes 8 0) (low_bytes 8 0) (length-low_bytes 8 0) refl None))

  starts : (function : ℕ) (to : Target) (argument : ℕ) → ActsAlone (start function) (to ∷ []) (argument ∷ [])
  starts function to argument same room = by (may_start y.limits.threads m) same where
    by : (b : Bool) → (same : ReadsSame (cond b (writing 8 to.address) []) m.storage.bytes other)
        → Both (cond b (writing 8 to.address) []) m other same
        (cond (is_plain choice) (cond b (within kinds.Start (first_outside all_bytes to.address 8) (went (Some 0) (with_thread (written m to.address (low_bytes 8 (length m.threads))) (beginning function argument)))) (went (Some 1) m)) unfit)
        (cond (is_plain choice) (cond b (within kinds.Start (first_outside other to.address 8) (went (Some 0) (with_thread (written later to.address (low_bytes 8 (length m.threads))) (beginning function argument)))) (went (Some 1) later)) unfit)
    by true same =
        settles (writing 8 to.address) m other same (is_plain choice) _ _
        (in_range (writing 8 to.address) m other same kinds.Start to.address 8 _ _ (λ there.
        writes_thread (writing 8 to.address) m other same to.address 8 there (λ address le lt. writes_it 8 to.address address le lt) (low_bytes 8 (length m.threads)) (length-low_bytes 8 (length m.threads)) (Some 0) (beginning function argument)))
    by false same = settles [] m other same (is_plain choice) _ _ (unwritten [] m other same _ _ refl)

  joins_with : (to : Target) (word : ℕ) (b : Bool) → (same : ReadsSame (cond b [] (writing 4 to.address)) m.storage.bytes other)
      → Both (cond b [] (writing 4 to.address)) m other same
      (cond (is_plain choice) (cond b (went (Some 0) m) (within kinds.Join (first_outside all_bytes to.address 4) (went (Some 0) (written m to.address (low_bytes 4 word))))) unfit)
      (cond (is_plain choice) (cond b (went (Some 0) later) (within kinds.Join (first_outside other to.address 4) (went (Some 0) (written later to.address (low_bytes 4 word))))) unfit)
  joins_with to word true same = settles [] m other same (is_plain choice) _ _ (unwritten [] m other same _ _ refl)
  joins_with to word false same =
      settles (writing 4 to.address) m other same (is_plain choice) _ _
      (in_range (writing 4 to.address) m other same kinds.Join to.address 4 _ _ (λ there.
      writes (writing 4 to.address) m other same to.address 4 there (λ address le lt. writes_it 4 to.address address le lt) (low_bytes 4 word) (low_bytes 4 word) (length-low_bytes 4 word) refl (Some 0)))

  joins_at : (to : Target) (o : Option ℕ) → (same : ReadsSame (result_writes to o) m.storage.bytes other)
      → Both (result_writes to o) m other same (cond (is_plain choice) (joined_at to o m) unfit) (cond (is_plain choice) (joined_at to o (with_other m other)) unfit)
  joins_at to None same = settles [] m other same (is_plain choice) _ _ (tt, tt)
  joins_at to (Some word) same = joins_with to word (to.pointer == 0) same

  joins_if : (to : Target) (o : Option Made) → (same : ReadsSame (join_writes to o) m.storage.bytes other)
      → Both (join_writes to o) m other same (cond (is_plain choice) (joined_if to o m) unfit) (cond (is_plain choice) (joined_if to o (with_other m other)) unfit)
  joins_if to None same = settles [] m other same (is_plain choice) _ _ (unwritten [] m other same _ _ refl)
  joins_if to (Some t) same = joins_at to t.result same

  -- ---- the table

  pub acts_alone : (a : Action) (ps : List Target) (ws : List ℕ) → ActsAlone a ps ws
  acts_alone (load how) [] ws same room = (tt, tt)
  acts_alone (load how) (a ∷ []) [] same room = loads how a same room
  acts_alone (load how) (a ∷ []) (w ∷ ws) same room = (tt, tt)
  acts_alone (load how) (a ∷ b ∷ ps) ws same room = (tt, tt)
  acts_alone (store how) [] ws same room = (tt, tt)
  acts_alone (store how) (a ∷ []) [] same room = (tt, tt)
  acts_alone (store how) (a ∷ []) (w ∷ []) same room = stores how a w same room
  acts_alone (store how) (a ∷ []) (w ∷ v ∷ ws) same room = (tt, tt)
  acts_alone (store how) (a ∷ b ∷ ps) ws same room = (tt, tt)
  acts_alone (copy_bytes align eq) [] ws same room = (tt, tt)
  acts_alone (copy_bytes align eq) (a ∷ []) ws same room = (tt, tt)
  acts_alone (copy_bytes align eq) (a ∷ b ∷ []) [] same room = (tt, tt)
  acts_alone (copy_bytes align eq) (a ∷ b ∷ []) (w ∷ []) same room = copies align eq a b w same room
  acts_alone (copy_bytes align eq) (a ∷ b ∷ []) (w ∷ v ∷ ws) same room = (tt, tt)
  acts_alone (copy_bytes align eq) (a ∷ b ∷ c ∷ ps) ws same room = (tt, tt)
  acts_alone malloc [] [] same room = (tt, tt)
  acts_alone malloc [] (w ∷ []) same room = gets [] same choice w
  acts_alone malloc [] (w ∷ v ∷ ws) same room = (tt, tt)
  acts_alone malloc (a ∷ ps) ws same room = (tt, tt)
  acts_alone calloc [] [] same room = (tt, tt)
  acts_alone calloc [] (w ∷ []) same room = (tt, tt)
  acts_alone calloc [] (w ∷ v ∷ []) same room = callocs w v same room
  acts_alone calloc [] (w ∷ v ∷ u ∷ ws) same room = (tt, tt)
  acts_alone calloc (a ∷ ps) [] same room = (tt, tt)
  acts_alone calloc (a ∷ ps) (w ∷ []) same room = (tt, tt)
  acts_alone calloc (a ∷ ps) (w ∷ v ∷ []) same room = (tt, tt)
  acts_alone calloc (a ∷ ps) (w ∷ v ∷ u ∷ ws) same room = (tt, tt)
  acts_alone realloc [] [] same room = (tt, tt)
  acts_alone realloc [] (w ∷ []) same room = (tt, tt)
  acts_alone realloc [] (w ∷ v ∷ []) same room = reallocs w v same room
  acts_alone realloc [] (w ∷ v ∷ u ∷ ws) same room = (tt, tt)
  acts_alone realloc (a ∷ ps) [] same room = (tt, tt)
  acts_alone realloc (a ∷ ps) (w ∷ []) same room = (tt, tt)
  acts_alone realloc (a ∷ ps) (w ∷ v ∷ []) same room = (tt, tt)
  acts_alone realloc (a ∷ ps) (w ∷ v ∷ u ∷ ws) same room = (tt, tt)
  acts_alone (change how t) [] ws same room = (tt, tt)
  acts_alone (change how t) (a ∷ []) [] same room = (tt, tt)
  acts_alone (change how t) (a ∷ []) (w ∷ []) same room = changes_number how t a w same room
  acts_alone (change how t) (a ∷ []) (w ∷ v ∷ ws) same room = (tt, tt)
  acts_alone (change how t) (a ∷ b ∷ ps) ws same room = (tt, tt)
  acts_alone (compare t) [] ws same room = (tt, tt)
  acts_alone (compare t) (a ∷ []) ws same room = (tt, tt)
  acts_alone (compare t) (a ∷ b ∷ []) [] same room = (tt, tt)
  acts_alone (compare t) (a ∷ b ∷ []) (w ∷ []) same room = compares t a b w same room
  acts_alone (compare t) (a ∷ b ∷ []) (w ∷ v ∷ ws) same room = (tt, tt)
  acts_alone (compare t) (a ∷ b ∷ c ∷ ps) ws same room = (tt, tt)
  acts_alone free [] [] same room = (tt, tt)
  acts_alone free [] (w ∷ []) same room = frees w same room
  acts_alone free [] (w ∷ v ∷ ws) same room = (tt, tt)
  acts_alone free (a ∷ ps) ws same room = (tt, tt)
  acts_alone (print pieces) ps ws same room = prints_alone pieces ps ws same room
  acts_alone lock [] ws same room = (tt, tt)
  acts_alone lock (a ∷ []) [] same room = locks a same room
  acts_alone lock (a ∷ []) (w ∷ ws) same room = (tt, tt)
  acts_alone lock (a ∷ b ∷ ps) ws same room = (tt, tt)
  acts_alone unlock [] ws same room = (tt, tt)
  acts_alone unlock (a ∷ []) [] same room = unlocks a same room
  acts_alone unlock (a ∷ []) (w ∷ ws) same room = (tt, tt)
  acts_alone unlock (a ∷ b ∷ ps) ws same room = (tt, tt)
  acts_alone destroy [] ws same room = (tt, tt)
  acts_alone destroy (a ∷ []) [] same room = settles [] m other same (is_plain choice) _ _ (unwritten [] m other same _ _ refl)
  acts_alone destroy (a ∷ []) (w ∷ ws) same room = (tt, tt)
  acts_alone destroy (a ∷ b ∷ ps) ws same room = (tt, tt)
  acts_alone (start function) [] ws same room = (tt, tt)
  acts_alone (start function) (a ∷ []) [] same room = (tt, tt)
  acts_alone (start function) (a ∷ []) (w ∷ []) same room = starts function a w same room
  acts_alone (start function) (a ∷ []) (w ∷ v ∷ ws) same room = (tt, tt)
  acts_alone (start function) (a ∷ b ∷ ps) ws same room = (tt, tt)
  acts_alone join [] ws same room = (tt, tt)
  acts_alone join (a ∷ []) [] same room = (tt, tt)
  acts_alone join (a ∷ []) (w ∷ []) same room = joins_if a (slice_get m.threads w) same
  acts_alone join (a ∷ []) (w ∷ v ∷ ws) same room = (tt, tt)
  acts_alone join (a ∷ b ∷ ps) ws same room = (tt, tt)
