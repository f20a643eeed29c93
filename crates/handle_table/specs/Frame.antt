-- Pin slots, and what the listed ones of a frame name.
use Rattle.std.specs.Prelude.{ℕ, ◌+◌, ◌^◌, ◌<◌, nat_le, List, length, map, slice_index_or}
use Rattle.std.specs.List.{filter}
use Rattle.handle_table.specs.declared.frame.PinSlot.{PinSlot}

-- what a slot holds before it is set
abbrev pub blank_slot : PinSlot
blank_slot = record { word = 0; address = 0 }

-- the slot of a number, where there is one
abbrev pub slot_at : List PinSlot → ℕ → PinSlot
slot_at slots slot = slice_index_or slots slot blank_slot

-- there is a slot of this number
abbrev pub HasSlot : List PinSlot → ℕ → Type 0
HasSlot slots slot = slot < length slots

-- the words in the listed slots of the frame whose slots begin with the one numbered `first`
abbrev pub listed_words : List PinSlot → (first : ℕ) → List ℕ → List ℕ
listed_words slots first listed = map (λ s. (slot_at slots (first + s)).word) listed

-- those of them that are handles
abbrev pub listed_handles : List PinSlot → (first : ℕ) → List ℕ → List ℕ
listed_handles slots first listed = filter (nat_le (2 ^ 63)) (listed_words slots first listed)
