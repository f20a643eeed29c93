-- What the machine chooses: at an allocation the least free id and the lowest place.
use Rattle.std.specs.Prelude.{ℕ, ◌+◌, ◌*◌, ◌%◌, ◌==◌, ◌&&◌, ◌||◌, nat_le, nat_lt, Bool, if◌then◌else◌, List, [], ◌∷◌, is_none, position, Option, Some}
use Rattle.std.specs.List.{list_all, find, range_with_len}
use Rattle.sub_heaps.specs.declared.objects.Object.{Object}
use Rattle.sub_heaps.specs.ByPlace.{end_of}
use Rattle.sub_heaps.specs.SubHeaps.{SubHeaps, rounded}
use Rattle.arena_meaning.specs.Arena.{Storage}
use Rattle.arena_meaning.specs.Changes.{is_live_start}
use Rattle.struct_ir.specs.Nodes.{Action, malloc, calloc, realloc, step}
use Rattle.struct_ir.specs.Flow.{Here, does}
use Rattle.flat_meaning.specs.Words.{Words, word_at}
use Rattle.flat_meaning.specs.Accesses.{Choice, plain, got, null, wait}

-- ---- ids and places

-- the least id that isn't in use
abbrev pub least_free : List (Option ℕ) → Option ℕ
least_free table = position is_none table

-- so many bytes from a place on are apart from an object
abbrev pub is_apart : (bytes at : ℕ) → Object → Bool
is_apart bytes at o = nat_le (end_of o) at || nat_le (at + bytes) o.at

-- so many bytes fit at a place
abbrev pub fits_at : SubHeaps → (bytes at : ℕ) → Bool
fits_at h bytes at = nat_le (at % h.size + bytes) h.size && list_all (is_apart bytes at) h.objects

-- the lowest place at which so many bytes fit
abbrev pub lowest_fit : SubHeaps → (bytes : ℕ) → Option ℕ
lowest_fit h bytes = find (fits_at h bytes) (range_with_len 0 (h.count * h.size))

-- an id and a place, or else
abbrev pub got_or : Option ℕ → Option ℕ → Choice → Choice
got_or (Some id) (Some place) other = got id place
got_or id place other = other

-- the least id and the lowest place for so many bytes, or else
abbrev pub room_or : Storage → (size : ℕ) → Choice → Choice
room_or s size other = got_or (least_free s.table) (lowest_fit s.heaps (rounded size)) other

-- ---- choices

-- for so many bytes: above a sub-heap null at once, and else it waits where there is no room
abbrev pub sized_choice : Storage → (size : ℕ) → Choice
sized_choice s size = if nat_lt s.heaps.size (rounded size) then null else room_or s size wait

-- a word in place of which an object may be allocated: null, or that of a live object
abbrev pub is_renewable : Storage → (word : ℕ) → Bool
is_renewable s word = word == 0 || is_live_start s word

-- at an allocation of so many bytes in place of a word, which is null but at a realloc: where the word isn't live, which is a trap, null
abbrev pub malloc_choice : Storage → (word size : ℕ) → Choice
malloc_choice s word size = if is_renewable s word then sized_choice s size else null

-- where an allocation that waits is served: null where there is no room
abbrev pub served_choice : Storage → (word size : ℕ) → Choice
served_choice s word size = room_or s size null

-- by the action, with a rule for allocations
abbrev pub action_choice : ((word size : ℕ) → Choice) → Words → Action → List ℕ → Choice
action_choice rule l malloc (size ∷ []) = rule 0 (word_at l size)
action_choice rule l calloc (count ∷ size ∷ []) = rule 0 (word_at l count * word_at l size)
action_choice rule l realloc (word ∷ size ∷ []) = rule (word_at l word) (word_at l size)
action_choice rule l action temps = plain

-- by what stands there
abbrev pub choice_here : ((word size : ℕ) → Choice) → Words → Here → Choice
choice_here rule l (does place (step x)) = action_choice rule l x.action x.temps
choice_here rule l here = plain
