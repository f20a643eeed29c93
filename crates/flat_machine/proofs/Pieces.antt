-- The pieces of a print, one after the other.
use Rattle.std.proofs.Common.{◌≡◌, ℕ, suc, ◌+◌, ◌<◌, Bool, true, false, ◌&&◌, List, [], ◌∷◌, length, map, drop, get_or, Result, Ok, Err, refl, ap, sym, ◌∙◌, subst, length-drop, arith}
use Rattle.std.specs.Prelude.{count_by, pos}
use Rattle.std.specs.List.{list_all, filter}
use Rattle.std.specs.Prelude.{Vec}
use Rattle.std.specs.declared.alloc.Global.{Global}
use Rattle.std.proofs.lemmas.List.{drop_more, get_or-map, length-map}
use Rattle.std.proofs.lemmas.List.Elements.{All-get_or}
use Rattle.std.proofs.lemmas.List.Sums.{length-filter}
use Rattle.c_tree.specs.declared.typed.Piece.{Piece as CodePiece}
use Rattle.c_tree.specs.declared.typed.Piece.TheVariants as code
use Rattle.c_tree.specs.Typed as pieces
use Rattle.c_tree.specs.Typed.{Piece}
use Rattle.c_tree.specs.TypedPrinting.{takes_number, takes_text, written}
use Rattle.c_tree.specs.TypedViews.{piece_view}
use Rattle.struct_ir.specs.Valid.{is_piece}
use Rattle.flat_meaning.specs.Accesses.{output_room}
use Rattle.flat_meaning.specs.Actions.{printed_parts}
use Rattle.flat_meaning.specs.Printing.{Printed, Read, bytes, text, read_part, read_parts}
use Rattle.flat_meaning.specs.Words.{Words, Target, target_of, word_at}
use Rattle.struct_ir.specs.Views.{place_view}
use Rattle.struct_ir.specs.declared.code.Place.{Place as CodePlace}
use Rattle.flat_threads.specs.Deeds.{IsPlaceOf, ArePlacesOf}
use Rattle.flat_machine.specs.declared.printing.Fault.{Fault}
use Rattle.flat_machine.specs.Shares.{Shared}
use Rattle.flat_machine.specs.inner.Prints.{PrintsPart}
use Rattle.flat_machine.proofs.Prints.{PrintsOn, prints_first, prints_next, prints_all}

-- ---- what is left

both : (a b : Bool) → (a && b) ≡ true → (a ≡ true) × (b ≡ true)
both true b e = (refl, e)
both false b e = absurd cc

count_one : {X : Type 0} (p : X → Bool) (x : X) (xs : List X) → p x ≡ true → count_by p (x ∷ xs) ≡ suc (count_by p xs)
count_one p x xs passes =
    let kept : length (filter p (x ∷ xs)) ≡ suc (length (filter p xs)) = rw passes refl in
    sym (length-filter p (x ∷ xs)) ∙ kept ∙ ap suc (length-filter p xs)

-- the pieces, the targets of the texts and the words of the numbers that are left, where so much of a print is done
pub record IsLeft (old now : Shared) (whole : Read) (left : List Piece) (targets : List Target) (words : List ℕ) : Type 0 where
  pub prints : PrintsOn old now whole (printed_parts left targets words)
  pub texts : count_by takes_text left ≡ length targets
  pub numbers : count_by takes_number left ≡ length words
  pub widths : list_all is_piece left ≡ true

-- a piece went so
pub record Goes (old new : Shared) (whole : Read) (left : List Piece) (targets : List Target) (words : List ℕ) (r : Result (Unit {0}) Fault) : Type 0 where
  pub goes : r ≡ Ok tt → IsLeft old new whole left targets words
  pub stops : (f : Fault) → r ≡ Err f → PrintsPart whole old new (Err f)

-- what is printed of a part of what threads share now
abbrev pub Puts : Printed → (now new : Shared) → Result (Unit {0}) Fault → Type 0
Puts part now new r = PrintsPart (read_part now.memory.storage.bytes part (output_room now.output_limit now.memory)) now new r

module _ (old now : Shared) (whole : Read) (left : List Piece) (targets : List Target) (words : List ℕ) where
  -- bytes
  pub bytes_go : (all : List ℕ) → IsLeft old now whole (pieces.bytes all ∷ left) targets words → (new : Shared) (r : Result (Unit {0}) Fault) → Puts (bytes all) now new r → Goes old new whole left targets words r
  bytes_go all h new r put =
      let next = prints_next old now new whole (bytes all) (printed_parts left targets words) r h.prints put in
      record {
        goes = λ e. record { prints = next.goes e; texts = omega (arith, h.texts); numbers = omega (arith, h.numbers); widths = h.widths };
        stops = next.stops;
      }

  -- a text
  pub text_go : (t : Target) → IsLeft old now whole (pieces.text ∷ left) (t ∷ targets) words → (new : Shared) (r : Result (Unit {0}) Fault) → Puts (text t.address) now new r → Goes old new whole left targets words r
  text_go t h new r put =
      let next = prints_next old now new whole (text t.address) (printed_parts left targets words) r h.prints put in
      record {
        goes = λ e. record { prints = next.goes e; texts = omega (arith, h.texts, count_one takes_text pieces.text left refl); numbers = h.numbers; widths = h.widths };
        stops = next.stops;
      }

  -- a number
  parts_number : (p : Piece) → takes_number p ≡ true → (word : ℕ) → printed_parts (p ∷ left) targets (word ∷ words) ≡ bytes (written p (pos word)) ∷ printed_parts left targets words
  parts_number (pieces.bytes all) takes word = absurd cc
  parts_number (pieces.signed bits) takes word = refl
  parts_number (pieces.unsigned bits) takes word = refl
  parts_number (pieces.hexadecimal bits) takes word = refl
  parts_number pieces.character takes word = refl
  parts_number pieces.text takes word = absurd cc

  no_text : (p : Piece) → takes_number p ≡ true → takes_text p ≡ false
  no_text (pieces.bytes all) takes = refl
  no_text (pieces.signed bits) takes = refl
  no_text (pieces.unsigned bits) takes = refl
  no_text (pieces.hexadecimal bits) takes = refl
  no_text pieces.character takes = refl
  no_text pieces.text takes = absurd cc

  pub number_go : (p : Piece) → takes_number p ≡ true → (word : ℕ) → IsLeft old now whole (p ∷ left) targets (word ∷ words) → (new : Shared) (r : Result (Unit {0}) Fault) → Puts (bytes (written p (pos word))) now new r → Goes old new whole left targets words r
  number_go p takes word h new r put =
      let next = prints_next old now new whole (bytes (written p (pos word))) (printed_parts left targets words) r (subst (PrintsOn old now whole) (parts_number p takes word) h.prints) put in
      record {
        goes = λ e. record {
          prints = next.goes e;
          texts = rw (no_text p takes) at h.texts;
          numbers = omega (arith, h.numbers, count_one takes_number p left takes);
          widths = (both (is_piece p) (list_all is_piece left) h.widths).1;
        };
        stops = next.stops;
      }

-- ---- the next piece

module _ (old now : Shared) (whole : Read) (all : List CodePiece) (targets : List Target) (words : List ℕ) (i texts numbers : ℕ) (h : IsLeft old now whole (map piece_view (drop i all)) (drop texts targets) (drop numbers words)) (p : CodePiece) (within : i < length all) (is : p ≡ get_or all i p) where
  next_piece : map piece_view (drop i all) ≡ piece_view p ∷ map piece_view (drop (i + 1) all)
  next_piece = ap (map piece_view) (drop_more all i p within) ∙ ap (λ q. piece_view q ∷ map piece_view (drop (i + 1) all)) (sym is)

  here : IsLeft old now whole (piece_view p ∷ map piece_view (drop (i + 1) all)) (drop texts targets) (drop numbers words)
  here = subst (λ l. IsLeft old now whole l (drop texts targets) (drop numbers words)) next_piece h

  pub next_bytes : (these : List ℕ) → piece_view p ≡ pieces.bytes these → (new : Shared) (r : Result (Unit {0}) Fault) → Puts (bytes these) now new r
      → Goes old new whole (map piece_view (drop (i + 1) all)) (drop texts targets) (drop numbers words) r
  next_bytes these p_is new r put =
      bytes_go old now whole (map piece_view (drop (i + 1) all)) (drop texts targets) (drop numbers words) these (subst (λ q. IsLeft old now whole (q ∷ map piece_view (drop (i + 1) all)) (drop texts targets) (drop numbers words)) p_is here) new r put

  pub texts_within : piece_view p ≡ pieces.text → texts < length targets
  texts_within p_is =
      let counted : count_by takes_text (pieces.text ∷ map piece_view (drop (i + 1) all)) ≡ length (drop texts targets) = rw p_is at here.texts in
      omega (arith, counted, count_one takes_text pieces.text (map piece_view (drop (i + 1) all)) refl, length-drop texts targets)

  pub next_text : piece_view p ≡ pieces.text → (t : Target) → (texts < length targets → t ≡ get_or targets texts t) → (new : Shared) (r : Result (Unit {0}) Fault) → Puts (text t.address) now new r
      → Goes old new whole (map piece_view (drop (i + 1) all)) (drop (texts + 1) targets) (drop numbers words) r
  next_text p_is t t_is new r put =
      let in_range = texts_within p_is in
      let left : drop texts targets ≡ t ∷ drop (texts + 1) targets = drop_more targets texts t in_range ∙ ap (λ u. u ∷ drop (texts + 1) targets) (sym (t_is in_range)) in
      let first = subst (λ q. IsLeft old now whole (q ∷ map piece_view (drop (i + 1) all)) (drop texts targets) (drop numbers words)) p_is here in
      text_go old now whole (map piece_view (drop (i + 1) all)) (drop (texts + 1) targets) (drop numbers words) t (subst (λ ts. IsLeft old now whole (pieces.text ∷ map piece_view (drop (i + 1) all)) ts (drop numbers words)) left first) new r put

  pub numbers_within : takes_number (piece_view p) ≡ true → numbers < length words
  numbers_within takes = omega (arith, here.numbers, count_one takes_number (piece_view p) (map piece_view (drop (i + 1) all)) takes, length-drop numbers words)

  pub next_number : takes_number (piece_view p) ≡ true → (w : ℕ) → (numbers < length words → w ≡ get_or words numbers w) → (new : Shared) (r : Result (Unit {0}) Fault) → Puts (bytes (written (piece_view p) (pos w))) now new r
      → Goes old new whole (map piece_view (drop (i + 1) all)) (drop texts targets) (drop (numbers + 1) words) r
  next_number takes w w_is new r put =
      let in_range = numbers_within takes in
      let left : drop numbers words ≡ w ∷ drop (numbers + 1) words = drop_more words numbers w in_range ∙ ap (λ u. u ∷ drop (numbers + 1) words) (sym (w_is in_range)) in
      number_go old now whole (map piece_view (drop (i + 1) all)) (drop texts targets) (drop (numbers + 1) words) (piece_view p) takes w (subst (IsLeft old now whole (piece_view p ∷ map piece_view (drop (i + 1) all)) (drop texts targets)) left here) new r put

-- a piece that is neither bytes nor a text takes a number
pub others_take : (p : CodePiece) → ((all : Vec ℕ Global) → ¬ (p ≡ code.Bytes all)) → ¬ (p ≡ code.Text) → takes_number (piece_view p) ≡ true
others_take (code.Bytes all) b t = absurd (b all refl)
others_take (code.Signed bits) b t = refl
others_take (code.Unsigned bits) b t = refl
others_take (code.Hex bits) b t = refl
others_take code.Char b t = refl
others_take code.Text b t = absurd (t refl)

-- the target of a place, and the word of a register, of a list of them
pub target_there : (own : Words) (places : List CodePlace) (k : ℕ) (d : CodePlace) (t : Target) → k < length (map (target_of own) (map place_view places)) → t ≡ target_of own (place_view (get_or places k d)) → t ≡ get_or (map (target_of own) (map place_view places)) k t
target_there own places k d t within is =
    let inner : k < length (map place_view places) = rw length-map at within in
    let innermost : k < length places = rw length-map at inner in
    is ∙ ap (target_of own) (sym (get_or-map place_view places k d (place_view d) innermost)) ∙ sym (get_or-map (target_of own) (map place_view places) k (place_view d) t inner)

pub word_there : (own : Words) (temps : List ℕ) (k : ℕ) (w : ℕ) → k < length (map (word_at own) temps) → w ≡ word_at own (get_or temps k 0) → w ≡ get_or (map (word_at own) temps) k w
word_there own temps k w within is =
    let inner : k < length temps = rw length-map at within in
    is ∙ sym (get_or-map (word_at own) temps k 0 w inner)

-- a place names registers and slots of the call, as all of them do
pub place_there : (own : Words) (places : List CodePlace) (k : ℕ) (d : CodePlace) → k < length (map (target_of own) (map place_view places)) → ArePlacesOf own (map place_view places) → IsPlaceOf own (place_view (get_or places k d))
place_there own places k d within all_are =
    let inner : k < length (map place_view places) = rw length-map at within in
    let innermost : k < length places = rw length-map at inner in
    subst (IsPlaceOf own) (get_or-map place_view places k d (place_view d) innermost) (All-get_or (IsPlaceOf own) (map place_view places) k (place_view d) inner all_are)

-- ---- all pieces

-- at first all is left
pub left_first : (old : Shared) (all : List Piece) (targets : List Target) (words : List ℕ) → count_by takes_text all ≡ length targets → count_by takes_number all ≡ length words → list_all is_piece all ≡ true
    → IsLeft old old (read_parts old.memory.storage.bytes (printed_parts all targets words) (output_room old.output_limit old.memory)) all targets words
left_first old all targets words texts numbers widths = record { prints = prints_first old (printed_parts all targets words); texts = texts; numbers = numbers; widths = widths }

-- at last nothing is
pub left_last : (old new : Shared) (whole : Read) (targets : List Target) (words : List ℕ) → IsLeft old new whole [] targets words → PrintsPart whole old new (Ok tt)
left_last old new whole targets words h = prints_all old new whole h.prints
