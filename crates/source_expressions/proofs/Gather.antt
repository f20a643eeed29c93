-- One piece more.
use Rattle.std.proofs.Common.{◌≡◌, ◌<◌, ◌+◌, ℕ, List, [], ◌∷◌, ◌++◌, length, drop, get_or, map, true, refl, sym, ap, ◌∙◌, ℤ, append_assoc}
use Rattle.std.proofs.lemmas.List.{at_drop_more, map-append}
use Rattle.block_store.specs.declared.values.Ptr.{Ptr}
use Rattle.block_store.specs.Actions.{Printed, bytes, text}
use Rattle.c_tree.specs.Typed as tree
use Rattle.c_tree.specs.TypedPrinting.{parts, written, takes_number}
use Rattle.source_state.specs.Worlds.{printed_of}
use Rattle.source_state.specs.declared.world.Printed.{Printed as CodePrinted}
use Rattle.source_state.specs.declared.world.Printed.TheVariants as codes
use Rattle.std.specs.Global.{Vec}
use Rattle.std.specs.Prelude.{slice_get, Some}
use Rattle.std.proofs.lemmas.Option.{slice_get_within, get_or_from_slice_get}

-- an element that is read, and those behind it
pub drop_read : {A : Type 0} (xs : List A) (i : ℕ) (x : A) → i < length xs → x ≡ get_or xs i x → drop i xs ≡ x ∷ drop (i + 1) xs
drop_read xs i x h e = at_drop_more (λ l. l) xs i x h ∙ ap (λ y. y ∷ drop (i + 1) xs) (sym e)

pub number_some : (all : List Printed) (q : tree.Piece) (rest : List tree.Piece) (ns ms : List ℤ) (n : ℤ) (ps : List Ptr) → takes_number q ≡ true → ns ≡ n ∷ ms →
    all ++ parts bytes text (q ∷ rest) ns ps ≡ (all ++ bytes (written q n) ∷ []) ++ parts bytes text rest ms ps
number_some all (tree.bytes b) rest ns ms n ps t e = cc
number_some all (tree.signed b) rest ns ms n ps t e = rw e (sym (append_assoc all (bytes (written (tree.signed b) n) ∷ []) (parts bytes text rest ms ps)))
number_some all (tree.unsigned b) rest ns ms n ps t e = rw e (sym (append_assoc all (bytes (written (tree.unsigned b) n) ∷ []) (parts bytes text rest ms ps)))
number_some all (tree.hexadecimal b) rest ns ms n ps t e = rw e (sym (append_assoc all (bytes (written (tree.hexadecimal b) n) ∷ []) (parts bytes text rest ms ps)))
number_some all tree.character rest ns ms n ps t e = rw e (sym (append_assoc all (bytes (written tree.character n) ∷ []) (parts bytes text rest ms ps)))
number_some all tree.text rest ns ms n ps t e = cc

pub number_none : (q : tree.Piece) (rest : List tree.Piece) (ns : List ℤ) (ps : List Ptr) → takes_number q ≡ true → ns ≡ [] → parts bytes text (q ∷ rest) ns ps ≡ parts bytes text rest ns ps
number_none (tree.bytes b) rest ns ps t e = cc
number_none (tree.signed b) rest ns ps t e = rw e refl
number_none (tree.unsigned b) rest ns ps t e = rw e refl
number_none (tree.hexadecimal b) rest ns ps t e = rw e refl
number_none tree.character rest ns ps t e = rw e refl
number_none tree.text rest ns ps t e = cc

pub text_some : (all : List Printed) (rest : List tree.Piece) (ns : List ℤ) (ps qs : List Ptr) (p : Ptr) → ps ≡ p ∷ qs →
    all ++ parts bytes text (tree.text ∷ rest) ns ps ≡ (all ++ text p ∷ []) ++ parts bytes text rest ns qs
text_some all rest ns ps qs p e = rw e (sym (append_assoc all (text p ∷ []) (parts bytes text rest ns qs)))

pub text_none : (rest : List tree.Piece) (ns : List ℤ) (ps : List Ptr) → ps ≡ [] → parts bytes text (tree.text ∷ rest) ns ps ≡ parts bytes text rest ns ps
text_none rest ns ps e = rw e refl

-- what was gathered, with these bytes behind it
gathered : (all all' : List CodePrinted) (b : Vec ℕ) (bs : List ℕ) → b.items ≡ bs → all' ≡ all ++ codes.Bytes b ∷ [] → map printed_of all' ≡ map printed_of all ++ bytes bs ∷ []
gathered all all' b bs e h = ap (map printed_of) h ∙ map-append printed_of all (codes.Bytes b ∷ []) ∙ ap (λ i. map printed_of all ++ bytes i ∷ []) e

pub more_number : (all all' : List CodePrinted) (b : Vec ℕ) (q : tree.Piece) (rest : List tree.Piece) (numbers : List ℤ) (n : ℕ) (z : ℤ) (ps : List Ptr) →
    takes_number q ≡ true → slice_get numbers n ≡ Some z → b.items ≡ written q z → all' ≡ all ++ codes.Bytes b ∷ [] →
    map printed_of all ++ parts bytes text (q ∷ rest) (drop n numbers) ps ≡ map printed_of all' ++ parts bytes text rest (drop (n + 1) numbers) ps
more_number all all' b q rest numbers n z ps t g e h =
    number_some (map printed_of all) q rest (drop n numbers) (drop (n + 1) numbers) z ps t (drop_read numbers n z (slice_get_within numbers n z g) (sym (get_or_from_slice_get numbers n z z g)))
    ∙ ap (λ i. i ++ parts bytes text rest (drop (n + 1) numbers) ps) (sym (gathered all all' b (written q z) e h))

pub more_bytes : (all all' : List CodePrinted) (b : Vec ℕ) (bs : List ℕ) (q : tree.Piece) (rest : List tree.Piece) (numbers : List ℤ) (ps : List Ptr) →
    q ≡ tree.bytes bs → b.items ≡ bs → all' ≡ all ++ codes.Bytes b ∷ [] →
    map printed_of all ++ parts bytes text (q ∷ rest) numbers ps ≡ map printed_of all' ++ parts bytes text rest numbers ps
more_bytes all all' b bs q rest numbers ps k e h =
    ap (λ i. map printed_of all ++ parts bytes text (i ∷ rest) numbers ps) k
    ∙ sym (append_assoc (map printed_of all) (bytes bs ∷ []) (parts bytes text rest numbers ps))
    ∙ ap (λ i. i ++ parts bytes text rest numbers ps) (sym (gathered all all' b bs e h))
