-- The slots that are left to be read put no more words behind the others than there is room for.
use Rattle.std.proofs.Common.{◌≡◌, ℕ, suc, ◌+◌, ◌^◌, ◌<◌, ◌≤◌, true, nat_le, List, ◌∷◌, ◌++◌, length, get_or, drop, ap, ◌∙◌, length-append, arith}
use Rattle.std.proofs.lemmas.Bool.{le-leb, cond-true}
use Rattle.std.proofs.Math.Seq.{drop-cons}
use Rattle.handle_table.specs.declared.frame.PinSlot.{PinSlot}
use Rattle.handle_table.specs.Frame.{listed_handles, slot_at}

-- where the next listed slot holds a handle, that is the first word that is left
listed_handles-drop : (slots : List PinSlot) (first : ℕ) (listed : List ℕ) (i : ℕ) → i < length listed → 2 ^ 63 ≤ (slot_at slots (first + get_or listed i 0)).word
    → listed_handles slots first (drop i listed) ≡ (slot_at slots (first + get_or listed i 0)).word ∷ listed_handles slots first (drop (suc i) listed)
listed_handles-drop slots first listed i within handle =
    let marked : nat_le (2 ^ 63) (slot_at slots (first + get_or listed i 0)).word ≡ true = le-leb (2 ^ 63) (slot_at slots (first + get_or listed i 0)).word handle in
    ap (listed_handles slots first) (drop-cons listed i 0 within) ∙ cond-true _ _ _ marked

pub room_left : (slots : List PinSlot) (first : ℕ) (listed : List ℕ) (i : ℕ) (words old : List ℕ) (room : ℕ) → i < length listed → 2 ^ 63 ≤ (slot_at slots (first + get_or listed i 0)).word
    → words ++ listed_handles slots first (drop i listed) ≡ old ++ listed_handles slots first listed → length old + length (listed_handles slots first listed) ≤ room → length words < room
room_left slots first listed i words old room within handle same fits =
    let left : length (listed_handles slots first (drop i listed)) ≡ suc (length (listed_handles slots first (drop (suc i) listed))) = ap length (listed_handles-drop slots first listed i within handle) in
    omega (arith, ap length same, length-append words (listed_handles slots first (drop i listed)), length-append old (listed_handles slots first listed), left)
