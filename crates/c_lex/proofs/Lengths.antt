-- How many bytes items take.
use Rattle.std.proofs.Common.{◌≡◌, ℕ, ◌+◌, ◌<◌, ◌≤◌, List, [], ◌∷◌, length, take, drop, Bool, true, false, ◌&&◌, not, Option, Some, None, Result, Ok, Err, if◌then◌else◌, nat_eq, refl, ap, ◌⊎◌, inl, inr, arith}
use Rattle.std.specs.Prelude.{◌==◌, nat_lt}
use Rattle.std.specs.List.{find, list_all, starts_with}
use Rattle.std.proofs.lemmas.Bool.{ltb-true}
use Rattle.std.proofs.lemmas.Bool.Decides.{Decides-eqb}
use Rattle.std.proofs.lemmas.List.{length-drop, length-append}
use Rattle.std.proofs.lemmas.List.Sums.{prefix_len-le-length}
use Rattle.std.proofs.lemmas.Slice.Eq.{starts_is}
use Rattle.ak_words.specs.declared.number.Num.{Num}
use Rattle.c_lex.specs.declared.refusal.Kind.{Kind}
use Rattle.c_lex.specs.declared.token.Mark.{Mark}
use Rattle.c_lex.specs.declared.item.Start.{Start}
use Rattle.c_lex.specs.declared.item.Start.TheVariants as starts
use Rattle.c_lex.specs.Bytes.{is_in_line, is_name_byte}
use Rattle.c_lex.specs.Spellings.{mark_text, longest_marks_first, mark_of}
use Rattle.c_lex.specs.Constants.{number_len, goes_on, is_exponent, number_of}
use Rattle.c_lex.specs.Quoted.{closing, string_of, char_of}
use Rattle.c_lex.specs.Items.{comment_len, block_comment, char_item, char_literal, string_item, string_literal, number_item, mark_item, run, start_of, item_from, item_at}

-- a choice that gives a value gives it on one side
either : (b : Bool) (x y : Option ℕ) (n : ℕ) → (if b then x else y) ≡ Some n → (x ≡ Some n) ⊎ (y ≡ Some n)
either true x y n is = inl is
either false x y n is = inr is

-- a comment takes its end at least, and no more bytes than there are
pub comment_len-bounds : (star : Bool) (before : ℕ) (bytes : List ℕ) (n : ℕ) → comment_len star before bytes ≡ Some n → (before < n) × (n ≤ before + length bytes)
comment_len-bounds star before [] n is = absurd cc
comment_len-bounds star before (byte ∷ bytes) n is =
    elim (either (star && byte == 47) (Some (1 + before)) (comment_len (byte == 42) (1 + before) bytes) n is) as (λ _. (before < n) × (n ≤ before + length (byte ∷ bytes))) [
      | inl here ↦ let e : 1 + before ≡ n = cc in (omega arith, omega arith)
      | inr later ↦ let h = comment_len-bounds (byte == 42) (1 + before) bytes n later in let h0 = h.0 in let h1 = h.1 in (omega arith, omega arith)
    ]

-- a closing quote stands among the bytes
pub closing-bounds : (quote : ℕ) (hidden : Bool) (before : ℕ) (bytes : List ℕ) (n : ℕ) → closing quote hidden before bytes ≡ Some n → (before ≤ n) × (n < before + length bytes)
closing-bounds quote hidden before [] n is = absurd cc
closing-bounds quote hidden before (byte ∷ bytes) n is =
    elim (either (byte == 10) None (if byte == quote && not hidden then Some before else closing quote (byte == 92 && not hidden) (1 + before) bytes) n is) as (λ _. (before ≤ n) × (n < before + length (byte ∷ bytes))) [
      | inl line ↦ absurd cc
      | inr on ↦ elim (either (byte == quote && not hidden) (Some before) (closing quote (byte == 92 && not hidden) (1 + before) bytes) n on) as (λ _. (before ≤ n) × (n < before + length (byte ∷ bytes))) [
        | inl here ↦ let e : before ≡ n = cc in (omega arith, omega arith)
        | inr later ↦ let h = closing-bounds quote (byte == 92 && not hidden) (1 + before) bytes n later in let h0 = h.0 in let h1 = h.1 in (omega arith, omega arith)
      ]
    ]

-- one more, or none
one_more : (b : Bool) (x n : ℕ) → x ≤ n → (if b then 1 + x else 0) ≤ 1 + n
one_more true x n le = omega arith
one_more false x n le = omega arith

-- a number goes no further than the bytes
pub number_len-le-length : (after : Bool) (bytes : List ℕ) → number_len after bytes ≤ length bytes
number_len-le-length after [] = omega arith
number_len-le-length after (byte ∷ bytes) =
    let h = one_more (goes_on after byte) (number_len (is_exponent byte) bytes) (length bytes) (number_len-le-length (is_exponent byte) bytes) in
    omega arith

-- nor do the first byte and those of a class behind it
pub run-le-length : (class : ℕ → Bool) (bytes : List ℕ) → 0 < length bytes → run class bytes ≤ length bytes
run-le-length class [] some = absurd (omega arith)
run-le-length class (byte ∷ bytes) some = omega (arith, prefix_len-le-length class bytes)

-- ---- marks

-- what is found passes the test
found_passes : {X : Type 0} (p : X → Bool) (y x : X) (b : Bool) (rest : Option X) → p y ≡ b → (if b then Some y else rest) ≡ Some x → (rest ≡ Some x → p x ≡ true) → p x ≡ true
found_passes p y x true rest passes here later = let e : y ≡ x = cc in rw (← e) passes
found_passes p y x false rest fails there later = later there

pub find-passes : {X : Type 0} (p : X → Bool) (xs : List X) (x : X) → find p xs ≡ Some x → p x ≡ true
find-passes p [] x is = absurd cc
find-passes p (y ∷ ys) x is = found_passes p y x (p y) (find p ys) refl is (find-passes p ys x)

-- and what all of them pass
found_all : {X : Type 0} (q : X → Bool) (y x : X) (b a : Bool) (rest : Option X) (others : Bool) → q y ≡ a → (a && others) ≡ true → (if b then Some y else rest) ≡ Some x → (others ≡ true → rest ≡ Some x → q x ≡ true) → q x ≡ true
found_all q y x true true rest others passes all here later = let e : y ≡ x = cc in rw (← e) passes
found_all q y x false true rest others passes all there later = later all there
found_all q y x b false rest others fails all h later = absurd cc

pub find-all : {X : Type 0} (q p : X → Bool) (xs : List X) (x : X) → list_all q xs ≡ true → find p xs ≡ Some x → q x ≡ true
find-all q p [] x all is = absurd cc
find-all q p (y ∷ ys) x all is = found_all q y x (p y) (q y) (find p ys) (list_all q ys) refl all is (find-all q p ys x)

-- a text that begins with another is no shorter
pub starts-length : (bytes text : List ℕ) → starts_with nat_eq bytes text ≡ true → length text ≤ length bytes
starts-length bytes text is =
    let whole = (starts_is Decides-eqb bytes text (starts_with nat_eq bytes text) refl).0 is in
    omega (arith, ap length whole, length-append text (drop (length text) bytes))

-- whether a mark has a byte or more
abbrev has_byte : Mark → Bool
has_byte mark = nat_lt 0 (length (mark_text mark))

-- each has
marks-have_bytes : list_all has_byte longest_marks_first ≡ true
unfolding longest_marks_first mark_text
marks-have_bytes = refl

-- a mark has a byte or more, and they stand there
pub mark-bounds : (bytes : List ℕ) (mark : Mark) → mark_of bytes ≡ Some mark → (0 < length (mark_text mark)) × (length (mark_text mark) ≤ length bytes)
unfolding mark_of
mark-bounds bytes mark is =
    let test : Mark → Bool = λ m. starts_with nat_eq bytes (mark_text m) in
    (ltb-true 0 (length (mark_text mark)) (find-all has_byte test longest_marks_first mark marks-have_bytes is), starts-length bytes (mark_text mark) (find-passes test longest_marks_first mark is))

-- ---- items

-- what an item takes, where what it is made of takes so many
block-bounds : (o : Option ℕ) (long : ℕ) → ((n : ℕ) → o ≡ Some n → 2 + n ≤ long) → 0 < long → (0 < (block_comment o).len) × ((block_comment o).len ≤ long)
block-bounds None long within some = (omega arith, omega arith)
block-bounds (Some n) long within some = let h = within n refl in (omega arith, omega arith)

number-bounds : (r : Result Num Kind) (len long : ℕ) → 0 < len → len ≤ long → (0 < (number_item r len).len) × ((number_item r len).len ≤ long)
number-bounds (Ok n) len long some within = (some, within)
number-bounds (Err kind) len long some within = (omega arith, omega arith)

char-bounds : (r : Result Num Kind) (len long : ℕ) → 0 < len → len ≤ long → (0 < (char_item r len).len) × ((char_item r len).len ≤ long)
char-bounds (Ok n) len long some within = (some, within)
char-bounds (Err kind) len long some within = (omega arith, omega arith)

string-bounds : (r : Result (List ℕ) Kind) (len long : ℕ) → 0 < len → len ≤ long → (0 < (string_item r len).len) × ((string_item r len).len ≤ long)
string-bounds (Ok bytes) len long some within = (some, within)
string-bounds (Err kind) len long some within = (omega arith, omega arith)

char_literal-bounds : (bytes : List ℕ) (o : Option ℕ) (long : ℕ) → ((n : ℕ) → o ≡ Some n → n + 2 ≤ long) → 0 < long → (0 < (char_literal bytes o).len) × ((char_literal bytes o).len ≤ long)
char_literal-bounds bytes None long within some = (omega arith, omega arith)
char_literal-bounds bytes (Some n) long within some = char-bounds (char_of (take n bytes)) (n + 2) long (omega arith) (within n refl)

string_literal-bounds : (bytes : List ℕ) (o : Option ℕ) (long : ℕ) → ((n : ℕ) → o ≡ Some n → n + 2 ≤ long) → 0 < long → (0 < (string_literal bytes o).len) × ((string_literal bytes o).len ≤ long)
string_literal-bounds bytes None long within some = (omega arith, omega arith)
string_literal-bounds bytes (Some n) long within some = string-bounds (string_of (take n bytes)) (n + 2) long (omega arith) (within n refl)

marked-bounds : (o : Option Mark) (long : ℕ) → ((mark : Mark) → o ≡ Some mark → (0 < length (mark_text mark)) × (length (mark_text mark) ≤ long)) → 0 < long → (0 < (mark_item o).len) × ((mark_item o).len ≤ long)
marked-bounds None long within some = (omega arith, omega arith)
marked-bounds (Some mark) long within some = within mark refl

-- an item takes a byte or more, and no more than there are
pub from-bounds : (s : Start) (bytes : List ℕ) → 0 < length bytes → (0 < (item_from s bytes).len) × ((item_from s bytes).len ≤ length bytes)
from-bounds starts.White bytes some = (omega arith, some)
from-bounds starts.LineComment bytes some = (omega arith, run-le-length is_in_line bytes some)
from-bounds starts.BlockComment bytes some = block-bounds (comment_len false 0 (drop 2 bytes)) (length bytes) (λ n is. let h = comment_len-bounds false 0 (drop 2 bytes) n is in omega (arith, h.0, h.1, length-drop 2 bytes)) some
from-bounds starts.Directive bytes some = (omega arith, run-le-length is_in_line bytes some)
from-bounds starts.Name bytes some = (omega arith, run-le-length is_name_byte bytes some)
from-bounds starts.Number bytes some = number-bounds (number_of (take (1 + number_len false (drop 1 bytes)) bytes)) (1 + number_len false (drop 1 bytes)) (length bytes) (omega arith) (omega (arith, number_len-le-length false (drop 1 bytes), length-drop 1 bytes))
from-bounds starts.Char bytes some = char_literal-bounds (drop 1 bytes) (closing 39 false 0 (drop 1 bytes)) (length bytes) (λ n is. let h = closing-bounds 39 false 0 (drop 1 bytes) n is in omega (arith, h.1, length-drop 1 bytes)) some
from-bounds starts.Text bytes some = string_literal-bounds (drop 1 bytes) (closing 34 false 0 (drop 1 bytes)) (length bytes) (λ n is. let h = closing-bounds 34 false 0 (drop 1 bytes) n is in omega (arith, h.1, length-drop 1 bytes)) some
from-bounds starts.Mark bytes some = marked-bounds (mark_of bytes) (length bytes) (mark-bounds bytes) some

pub item-bounds : (start : Bool) (bytes : List ℕ) → 0 < length bytes → (0 < (item_at start bytes).len) × ((item_at start bytes).len ≤ length bytes)
unfolding item_at
item-bounds start bytes some = from-bounds (start_of start bytes) bytes some
