-- The pieces of a format, one behind the other.
use Rattle.std.proofs.Common.{◌≡◌, ◌≢◌, ℕ, zero, suc, ◌+◌, ◌-◌, ◌<◌, ◌≤◌, nat_eq, true, false, List, [], ◌∷◌, ◌++◌, length, get_or, drop, Option, Some, None, refl, ap, sym, subst, ◌∙◌, append_assoc, arith}
use Rattle.std.proofs.lemmas.Bool.Decides.{nat_tests}
use Rattle.std.proofs.lemmas.List.{at_drop_more, drop-drop, drop_all}
use Rattle.std.specs.Option.{option_map}
use Rattle.c_lex.specs.declared.refusal.Kind.TheVariants.{OutsideSubset}
use Rattle.c_lex.specs.declared.refusal.CompileFault.{CompileFault}
use Rattle.c_tree.specs.Typed.{Piece, bytes, signed, unsigned, hexadecimal, character, text}
use Rattle.c_typing.specs.Faults.{refuse, Fails}
use Rattle.c_typing.specs.Formats.{Conversion, before_pieces, conversion_at, with_conversion, pieces_from}
use Rattle.c_typing.specs.Judgement.{format_by}
use Rattle.type_nodes.specs.inner.Formatting.{is_bytes, before_run, measured}

-- bytes before bytes before others
before_bytes : (front back : List ℕ) (rest : List Piece) → before_pieces (bytes front) (before_pieces (bytes back) rest) ≡ before_pieces (bytes (front ++ back)) rest
before_bytes front back [] = refl
before_bytes front back (bytes all ∷ rest) = ap (λ bs. bytes bs ∷ rest) (sym (append_assoc front back all))
before_bytes front back (signed bits ∷ rest) = refl
before_bytes front back (unsigned bits ∷ rest) = refl
before_bytes front back (hexadecimal bits ∷ rest) = refl
before_bytes front back (character ∷ rest) = refl
before_bytes front back (text ∷ rest) = refl

pub before_run_byte : (run : List ℕ) (byte : ℕ) (rest : List Piece) → before_run (run ++ byte ∷ []) rest ≡ before_run run (before_pieces (bytes (byte ∷ [])) rest)
before_run_byte [] byte rest = refl
before_run_byte (b ∷ bs) byte rest = sym (before_bytes (b ∷ bs) (byte ∷ []) rest)

-- one byte more
pub so_far_byte : (done : List Piece) (run new : List ℕ) (byte : ℕ) (rest : List Piece) → new ≡ run ++ byte ∷ []
    → done ++ before_run new rest ≡ done ++ before_run run (before_pieces (bytes (byte ∷ [])) rest)
so_far_byte done run new byte rest h = ap (λ r. done ++ before_run r rest) h ∙ ap (λ ps. done ++ ps) (before_run_byte run byte rest)

before_run_piece : (run : List ℕ) (piece : Piece) (rest : List Piece) → is_bytes piece ≡ false → before_run run (piece ∷ rest) ≡ before_run run [] ++ piece ∷ rest
before_run_piece [] piece rest h = refl
before_run_piece (b ∷ bs) (bytes all) rest h = cc
before_run_piece (b ∷ bs) (signed bits) rest h = refl
before_run_piece (b ∷ bs) (unsigned bits) rest h = refl
before_run_piece (b ∷ bs) (hexadecimal bits) rest h = refl
before_run_piece (b ∷ bs) character rest h = refl
before_run_piece (b ∷ bs) text rest h = refl

-- one piece more, behind what was gathered
pub so_far_piece : (done flushed : List Piece) (run : List ℕ) (piece : Piece) (rest : List Piece) → is_bytes piece ≡ false → flushed ≡ done ++ before_run run []
    → (flushed ++ piece ∷ []) ++ rest ≡ done ++ before_run run (piece ∷ rest)
so_far_piece done flushed run piece rest h q =
    append_assoc flushed (piece ∷ []) rest ∙ (ap (λ f. f ++ piece ∷ rest) q ∙ (append_assoc done (before_run run []) (piece ∷ rest)
    ∙ ap (λ ps. done ++ ps) (sym (before_run_piece run piece rest h))))

-- bytes that are passed over
pub pieces_passed : (n : ℕ) (all : List ℕ) → pieces_from n all ≡ pieces_from 0 (drop n all)
pieces_passed zero all = refl
pieces_passed (suc n) [] = refl
pieces_passed (suc n) (byte ∷ rest) = pieces_passed n rest

-- two functions, one behind the other
pub option_map_twice : {A B C : Type 0} (f : B → C) (g : A → B) (h : A → C) (o : Option A) → ((x : A) → f (g x) ≡ h x) → option_map f (option_map g o) ≡ option_map h o
option_map_twice f g h None same = refl
option_map_twice f g h (Some x) same = ap Some (same x)

-- ---- a format, read byte by byte

-- no byte is left
pub pieces_end : (done : List Piece → List Piece) (all : Option (List Piece)) (k i : ℕ) (xs : List ℕ)
    → all ≡ option_map done (pieces_from k (drop i xs)) → length xs ≤ i → all ≡ Some (done [])
pieces_end done all k i xs h le = h ∙ ap (λ ys. option_map done (pieces_from k ys)) (drop_all i xs le)

-- a zero byte ends it
pub pieces_zero : (done : List Piece → List Piece) (all : Option (List Piece)) (k i d : ℕ) (xs : List ℕ)
    → all ≡ option_map done (pieces_from k (drop i xs)) → k ≡ 0 → i < length xs → get_or xs i d ≡ 0 → all ≡ Some (done [])
pieces_zero done all k i d xs h none lt end =
    h ∙ (ap (λ m. option_map done (pieces_from m (drop i xs))) none ∙ ap (option_map done) (at_drop_more (pieces_from 0) xs i d lt ∙ ap (λ b. pieces_from 0 (b ∷ drop (i + 1) xs)) end))

over : (k byte : ℕ) (rest : List ℕ) → 0 < k → pieces_from k (byte ∷ rest) ≡ pieces_from (k - 1) rest
over zero byte rest some = absurd (omega arith)
over (suc n) byte rest some = let e : suc n - 1 ≡ n = omega arith in ap (λ m. pieces_from m rest) (sym e)

-- a byte is passed over
pub pieces_over : (done : List Piece → List Piece) (all : Option (List Piece)) (k i : ℕ) (xs : List ℕ)
    → all ≡ option_map done (pieces_from k (drop i xs)) → 0 < k → i < length xs → all ≡ option_map done (pieces_from (k - 1) (drop (i + 1) xs))
pieces_over done all k i xs h some lt =
    h ∙ ap (option_map done) (at_drop_more (pieces_from k) xs i 0 lt ∙ over k (get_or xs i 0) (drop (i + 1) xs) some)

-- one piece more
pub pieces_pushed : (done new : List Piece → List Piece) (all : Option (List Piece)) (k n i : ℕ) (xs ys : List ℕ)
    → all ≡ option_map done (pieces_from k (drop i xs)) → k ≡ 0 → ys ≡ drop i xs
    → option_map done (pieces_from 0 ys) ≡ option_map new (pieces_from n (drop 1 ys)) → all ≡ option_map new (pieces_from n (drop (i + 1) xs))
pieces_pushed done new all k n i xs ys h none is more =
    h ∙ (ap (λ m. option_map done (pieces_from m (drop i xs))) none ∙ (ap (λ zs. option_map done (pieces_from 0 zs)) (sym is)
    ∙ (more ∙ ap (λ zs. option_map new (pieces_from n zs)) (ap (drop 1) is ∙ drop-drop 1 i xs))))

-- no piece
pub pieces_fault : (place : ℕ) (done : List Piece → List Piece) (all : Option (List Piece)) (k i : ℕ) (xs ys : List ℕ) (e : CompileFault)
    → all ≡ option_map done (pieces_from k (drop i xs)) → k ≡ 0 → ys ≡ drop i xs
    → Fails e (format_by place (option_map done (pieces_from 0 ys))) → Fails e (format_by place all)
pieces_fault place done all k i xs ys e h none is f =
    subst (λ o. Fails e (format_by place o))
    (ap (λ zs. option_map done (pieces_from 0 zs)) is ∙ (ap (λ m. option_map done (pieces_from m (drop i xs))) (sym none) ∙ sym h)) f

-- ---- what the bytes begin with

plain : (byte : ℕ) (rest : List ℕ) → byte ≢ 0 → byte ≢ 37 → pieces_from 0 (byte ∷ rest) ≡ option_map (before_pieces (bytes (byte ∷ []))) (pieces_from 0 rest)
plain byte rest no_end no_percent =
    let p : nat_eq byte 0 ≡ false = grind (arith, nat_tests) in
    let q : nat_eq byte 37 ≡ false = grind (arith, nat_tests) in
    rw (p, q) refl

-- a byte that stands for itself
pub first_plain : (old new : List Piece → List Piece) (all : List ℕ) (d : ℕ) → 0 < length all → get_or all 0 d ≢ 0 → get_or all 0 d ≢ 37
    → ((rest : List Piece) → new rest ≡ old (before_pieces (bytes (get_or all 0 d ∷ [])) rest))
    → option_map old (pieces_from 0 all) ≡ option_map new (pieces_from 0 (drop 1 all))
first_plain old new [] d some no_end no_percent same = absurd (omega arith)
first_plain old new (byte ∷ rest) d some no_end no_percent same =
    ap (option_map old) (plain byte rest no_end no_percent)
    ∙ option_map_twice old (before_pieces (bytes (byte ∷ []))) new (pieces_from 0 rest) (λ x. sym (same x))

percent_first : (byte : ℕ) (rest : List ℕ) → byte ≡ 37 → pieces_from 0 (byte ∷ rest) ≡ with_conversion (conversion_at (byte ∷ rest)) (λ n. pieces_from n rest)
percent_first byte rest percent =
    let p : nat_eq byte 0 ≡ false = grind (arith, nat_tests) in
    let q : nat_eq byte 37 ≡ true = grind (arith, nat_tests) in
    rw (p, q) refl

abbrev some_or : {A : Type 0} → Option A → A → A
some_or None x = x
some_or (Some y) x = y

measured_none : (o : Option Conversion) (behind : ℕ → Option (List Piece)) → None ≡ option_map measured o → with_conversion o behind ≡ None
measured_none None behind h = refl
measured_none (Some c) behind h = cc

measured_some : (o : Option Conversion) (len : ℕ) (piece : Piece) (behind : ℕ → Option (List Piece)) → Some (len, piece) ≡ option_map measured o
    → with_conversion o behind ≡ option_map (before_pieces piece) (behind (len - 1))
measured_some None len piece behind h = cc
measured_some (Some (spelling, is)) len piece behind h =
    let same : (len, piece) ≡ (length spelling, is) = ap (λ f. some_or f (len, piece)) h in
    ap (λ f. option_map (before_pieces f.1) (behind (f.0 - 1))) (sym same)

-- a conversion
pub first_conversion : (old new : List Piece → List Piece) (all : List ℕ) (d len : ℕ) (piece : Piece) → 0 < length all → get_or all 0 d ≡ 37
    → Some (len, piece) ≡ option_map measured (conversion_at all) → ((rest : List Piece) → new rest ≡ old (before_pieces piece rest))
    → option_map old (pieces_from 0 all) ≡ option_map new (pieces_from (len - 1) (drop 1 all))
first_conversion old new [] d len piece some percent found same = absurd (omega arith)
first_conversion old new (byte ∷ rest) d len piece some percent found same =
    ap (option_map old) (percent_first byte rest percent ∙ measured_some (conversion_at (byte ∷ rest)) len piece (λ n. pieces_from n rest) found)
    ∙ option_map_twice old (before_pieces piece) new (pieces_from (len - 1) rest) (λ x. sym (same x))

-- no conversion
pub first_none : (place : ℕ) (old : List Piece → List Piece) (all : List ℕ) (d : ℕ) → 0 < length all → get_or all 0 d ≡ 37
    → None ≡ option_map measured (conversion_at all) → format_by place (option_map old (pieces_from 0 all)) ≡ refuse place (OutsideSubset 15)
first_none place old [] d some percent found = absurd (omega arith)
first_none place old (byte ∷ rest) d some percent found =
    ap (λ o. format_by place (option_map old o)) (percent_first byte rest percent ∙ measured_none (conversion_at (byte ∷ rest)) (λ n. pieces_from n rest) found)
