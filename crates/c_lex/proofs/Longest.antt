-- A token is the longest at its place.
use Rattle.std.proofs.Common.{◌≡◌, ℕ, zero, suc, ◌+◌, ◌<◌, ◌≤◌, List, [], ◌∷◌, ◌++◌, length, take, drop, codes, Bool, true, false, ◌&&◌, not, Option, Some, None, if◌then◌else◌, nat_eq, refl, sym, ap, subst, ◌∙◌, append_assoc, arith}
use Rattle.std.specs.Prelude.{◌==◌, nat_lt}
use Rattle.std.specs.List.{prefix_len, find, list_all, starts_with}
use Rattle.std.proofs.lemmas.Bool.{ltb-true}
use Rattle.std.proofs.lemmas.Bool.Decides.{Decides-eqb}
use Rattle.std.proofs.lemmas.List.{take-append-drop}
use Rattle.std.proofs.lemmas.Slice.Eq.{starts_is}
use Rattle.c_lex.specs.declared.token.Mark.{Mark}
use Rattle.c_lex.specs.declared.item.Item.{Item}
use Rattle.c_lex.specs.declared.item.Start.{Start}
use Rattle.c_lex.specs.declared.item.Start.TheVariants as starts
use Rattle.c_lex.specs.Bytes.{is_white, is_name_byte}
use Rattle.c_lex.specs.Spellings.{mark_text, longest_marks_first, mark_of}
use Rattle.c_lex.specs.Constants.{number_len, goes_on, is_exponent}
use Rattle.c_lex.specs.Quoted.{closing}
use Rattle.c_lex.specs.Directives.{begins}
use Rattle.c_lex.specs.Items.{found, begins_number, start_of, item_at}
use Rattle.c_lex.specs.Laws.{IsToken}
use Rattle.c_lex.proofs.Lengths.{find-all, find-passes}
use Rattle.c_lex.proofs.TokenForms.{Form, form_of}

-- ---- a front of bytes goes no further

more : (b : Bool) (x y : ℕ) → x ≤ y → (if b then 1 + x else 0) ≤ (if b then 1 + y else 0)
more true x y le = omega arith
more false x y le = omega arith

prefix_len-take : (p : ℕ → Bool) (n : ℕ) (bytes : List ℕ) → prefix_len p (take n bytes) ≤ prefix_len p bytes
prefix_len-take p zero bytes = omega arith
prefix_len-take p (suc n) [] = omega arith
prefix_len-take p (suc n) (byte ∷ bytes) = more (p byte) (prefix_len p (take n bytes)) (prefix_len p bytes) (prefix_len-take p n bytes)

number_len-take : (after : Bool) (n : ℕ) (bytes : List ℕ) → number_len after (take n bytes) ≤ number_len after bytes
number_len-take after zero bytes = omega arith
number_len-take after (suc n) [] = omega arith
number_len-take after (suc n) (byte ∷ bytes) =
    more (goes_on after byte) (number_len (is_exponent byte) (take n bytes)) (number_len (is_exponent byte) bytes) (number_len-take (is_exponent byte) n bytes)

-- a quote that closes the front closes the whole
same_closing : (line here : Bool) (before v : ℕ) (r s : Option ℕ) → (if line then None else (if here then Some before else r)) ≡ Some v → (r ≡ Some v → s ≡ Some v) → (if line then None else (if here then Some before else s)) ≡ Some v
same_closing true here before v r s is later = absurd cc
same_closing false true before v r s is later = is
same_closing false false before v r s is later = later is

closing-take : (quote : ℕ) (hidden : Bool) (before n v : ℕ) (bytes : List ℕ) → closing quote hidden before (take n bytes) ≡ Some v → closing quote hidden before bytes ≡ Some v
closing-take quote hidden before zero v bytes is = absurd cc
closing-take quote hidden before (suc n) v [] is = absurd cc
closing-take quote hidden before (suc n) v (byte ∷ bytes) is =
    same_closing (byte == 10) (byte == quote && not hidden) before v (closing quote (byte == 92 && not hidden) (1 + before) (take n bytes)) (closing quote (byte == 92 && not hidden) (1 + before) bytes) is
    (closing-take quote (byte == 92 && not hidden) (1 + before) n v bytes)

-- ---- marks

-- what the front begins with, the whole begins with
starts_with-take : (n : ℕ) (bytes text : List ℕ) → starts_with nat_eq (take n bytes) text ≡ true → starts_with nat_eq bytes text ≡ true
starts_with-take n bytes text is =
    let front = (starts_is Decides-eqb (take n bytes) text (starts_with nat_eq (take n bytes) text) refl).0 is in
    let whole : bytes ≡ text ++ (drop (length text) (take n bytes) ++ drop n bytes) =
    sym (take-append-drop n bytes) ∙ ap (λ (xs : List ℕ). xs ++ drop n bytes) front ∙ append_assoc text (drop (length text) (take n bytes)) (drop n bytes) in
    (starts_is Decides-eqb bytes text (starts_with nat_eq bytes text) refl).1 (drop (length text) (take n bytes) ++ drop n bytes) whole

-- each element is no larger than those before it
abbrev descends : {X : Type 0} → (X → ℕ) → List X → Bool
descends f [] = true
descends f (x ∷ xs) = list_all (λ y. nat_lt (f y) (1 + f x)) (x ∷ xs) && descends f xs

-- the marks become shorter
marks-descend : descends (λ mark. length (mark_text mark)) longest_marks_first ≡ true
unfolding longest_marks_first mark_text
marks-descend = refl

both_true : (a b : Bool) → (a && b) ≡ true → (a ≡ true) × (b ≡ true)
both_true true b is = (refl, is)
both_true false b is = absurd cc

-- the first that passes is no smaller than any that does
first_largest : {X : Type 0} (f : X → ℕ) (z x y : X) (here there : Bool) (p : X → Bool) (r s : Option X) → p z ≡ here → (if here then Some z else r) ≡ Some x → (if there then Some z else s) ≡ Some y → p y ≡ true
    → ((if there then Some z else s) ≡ Some y → f y ≤ f z) → (r ≡ Some x → s ≡ Some y → f y ≤ f x) → f y ≤ f x
first_largest f z x y true there p r s at first other passes most later = let e : z ≡ x = cc in rw (← e) (most other)
first_largest f z x y false true p r s at first other passes most later = let e : z ≡ y = cc in let clash : p y ≡ false = rw (← e) at in absurd cc
first_largest f z x y false false p r s at first other passes most later = later first other

find-largest : {X : Type 0} (f : X → ℕ) (p q : X → Bool) (xs : List X) (x y : X) → descends f xs ≡ true → find p xs ≡ Some x → find q xs ≡ Some y → p y ≡ true → f y ≤ f x
find-largest f p q [] x y down first other passes = absurd cc
find-largest f p q (z ∷ zs) x y down first other passes =
    let both = both_true (list_all (λ w. nat_lt (f w) (1 + f z)) (z ∷ zs)) (descends f zs) down in
    first_largest f z x y (p z) (q z) p (find p zs) (find q zs) refl first other passes
    (λ is. let lt = ltb-true (f y) (1 + f z) (find-all (λ w. nat_lt (f w) (1 + f z)) q (z ∷ zs) y both.0 is) in omega arith)
    (λ first' other'. find-largest f p q zs x y both.1 first' other' passes)

mark-take : (n : ℕ) (bytes : List ℕ) (mark other : Mark) → mark_of bytes ≡ Some mark → mark_of (take n bytes) ≡ Some other → length (mark_text other) ≤ length (mark_text mark)
unfolding mark_of
mark-take n bytes mark other is front =
    let p : Mark → Bool = λ m. starts_with nat_eq bytes (mark_text m) in
    let q : Mark → Bool = λ m. starts_with nat_eq (take n bytes) (mark_text m) in
    find-largest (λ m. length (mark_text m)) p q longest_marks_first mark other marks-descend is front (starts_with-take n bytes (mark_text other) (find-passes q longest_marks_first other front))

-- ---- items

-- of two tokens of one sort, the one of a front is no longer
compare : (s : Start) (byte : ℕ) (bytes : List ℕ) (n len : ℕ) (item other : Item) → Form s (byte ∷ bytes) item len → Form s (byte ∷ take n bytes) other (suc n) → suc n ≤ len
compare starts.White byte bytes n len item other form front = absurd form
compare starts.LineComment byte bytes n len item other form front = absurd form
compare starts.BlockComment byte bytes n len item other form front = absurd form
compare starts.Directive byte bytes n len item other form front = absurd form
compare starts.Name byte bytes n len item other form front = omega (arith, form.goes, front.goes, prefix_len-take is_name_byte n bytes)
compare starts.Number byte bytes n len item other form front = omega (arith, form.goes, front.goes, number_len-take false n bytes)
compare starts.Char byte bytes n len item other form front =
    let same = sym form.closes ∙ closing-take 39 false 0 n front.inside bytes front.closes in
    let inside : form.inside ≡ front.inside = cc in
    omega (arith, form.goes, front.goes)
compare starts.Text byte bytes n len item other form front =
    let same = sym form.closes ∙ closing-take 34 false 0 n front.inside bytes front.closes in
    let inside : form.inside ≡ front.inside = cc in
    omega (arith, form.goes, front.goes)
compare starts.Mark byte bytes n len item other form front =
    omega (arith, form.goes, front.goes, mark-take (suc n) (byte ∷ bytes) form.mark front.mark form.begins front.begins)

-- what begins where a token does depends on two bytes
start_same : (a b : ℕ) (r s : List ℕ) → start_of false (a ∷ b ∷ r) ≡ start_of false (a ∷ b ∷ s)
unfolding start_of begins_number
start_same a b r s = refl

-- and not on the line's start, where it is no directive
no_directive : (white line block hash : Bool) (rest s : Start) → (if white then starts.White else (if line then starts.LineComment else (if block then starts.BlockComment else (if true && hash then starts.Directive else rest)))) ≡ s
    → (s ≡ starts.Directive → ⊥) → (if white then starts.White else (if line then starts.LineComment else (if block then starts.BlockComment else (if false && hash then starts.Directive else rest)))) ≡ s
no_directive true line block hash rest s is none = is
no_directive false true block hash rest s is none = is
no_directive false false true hash rest s is none = is
no_directive false false false true rest s is none = absurd (none (sym is))
no_directive false false false false rest s is none = is

start_any : (start : Bool) (bytes : List ℕ) (s : Start) → start_of start bytes ≡ s → (s ≡ starts.Directive → ⊥) → start_of false bytes ≡ s
unfolding start_of
start_any false bytes s is none = is
start_any true bytes s is none =
    no_directive (begins is_white bytes) (starts_with nat_eq bytes (codes "//")) (starts_with nat_eq bytes (codes "/*")) (starts_with nat_eq bytes (codes "#")) _ s is none

-- a directive is no token
form-no_directive : (s : Start) (bytes : List ℕ) (item : Item) (len : ℕ) → Form s bytes item len → s ≡ starts.Directive → ⊥
form-no_directive s bytes item len form is = let P : Start → Type 0 = λ t. Form t bytes item len in subst P is form

-- no more bytes than a token's are a token
pub no_longer : (start : Bool) (bytes : List ℕ) (len n : ℕ) (item other : Item) → item_at start bytes ≡ found item len → IsToken item → 0 < len → n ≤ length bytes → item_at false (take n bytes) ≡ found other n → IsToken other → n ≤ len
unfolding item_at
no_longer start [] len n item other is token some within that other_token = omega arith
no_longer start (a ∷ []) len n item other is token some within that other_token = omega arith
no_longer start (a ∷ b ∷ r) len zero item other is token some within that other_token = omega arith
no_longer start (a ∷ b ∷ r) len (suc zero) item other is token some within that other_token = omega arith
no_longer start (a ∷ b ∷ r) len (suc (suc n)) item other is token some within that other_token =
    let s = start_of start (a ∷ b ∷ r) in
    let form = form_of s (a ∷ b ∷ r) item len is token in
    let any = start_any start (a ∷ b ∷ r) s refl (form-no_directive s (a ∷ b ∷ r) item len form) in
    let same = start_same a b (take n r) r ∙ any in
    let front = form_of (start_of false (a ∷ b ∷ take n r)) (a ∷ b ∷ take n r) other (suc (suc n)) that other_token in
    let P : Start → Type 0 = λ t. Form t (a ∷ b ∷ take n r) other (suc (suc n)) in
    compare s a (b ∷ r) (suc n) len item other form (subst P same front)
