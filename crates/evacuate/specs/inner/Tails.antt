-- An evacuation told by where the tails of the sub-heaps start, which a list holds by their numbers: 0 where a sub-heap holds no object.
use Rattle.std.specs.Prelude.{ℕ, ◌+◌, ◌*◌, ◌/◌, ◌%◌, ◌==◌, Bool, not, ◌&&◌, nat_lt, nat_le, if◌then◌else◌, List, [], ◌∷◌, Option, Some, None, option_and_then, slice_index, slice_set}
use Rattle.std.specs.List.{find, list_any, sum_by, range_with_len}
use Rattle.sub_heaps.specs.declared.objects.Object.{Object}
use Rattle.sub_heaps.specs.declared.moves.Move.{Move}
use Rattle.sub_heaps.specs.SubHeaps.{SubHeaps, objects_in, extent_in}
use Rattle.evacuate.specs.Evacuation.{holds_object, then_moves}

-- the sub-heap holds an object and has room for so many bytes behind it
abbrev pub has_room : (size bytes : ℕ) → List ℕ → ℕ → Bool
has_room size bytes tails number = nat_lt 0 (slice_index tails number) && nat_le (slice_index tails number + bytes) size

-- a tail that starts so many bytes higher
abbrev pub raised_at : (number bytes : ℕ) → List ℕ → List ℕ
raised_at number bytes tails = slice_set tails number (slice_index tails number + bytes)

-- the tails after all moves, in their order
abbrev pub raised : (size : ℕ) → List Move → List ℕ → List ℕ
raised size [] tails = tails
raised size (m ∷ ms) tails = raised size ms (raised_at (m.to / size) m.size tails)

-- the tails before all moves, of which the last is taken back first
abbrev pub lowered : (size : ℕ) → List Move → List ℕ → List ℕ
lowered size [] tails = tails
lowered size (m ∷ ms) tails = slice_set (lowered size ms tails) (m.to / size) (m.to % size)

-- the move of an object to the start of a tail
abbrev pub tail_move : (size : ℕ) → Object → ℕ → List ℕ → Move
tail_move size o lower tails = record { from = o.at; to = lower * size + slice_index tails lower; size = o.size }

-- the moves of objects, each to the tail of the lowest sub-heap below a number that has room, counting the moves before; or none, where one finds no place
abbrev pub planned : (size number : ℕ) → List Object → List ℕ → Option (List Move)
planned size number [] tails = Some []
planned size number (o ∷ os) tails =
    option_and_then (λ lower. then_moves (tail_move size o lower tails) (planned size number os (raised_at lower o.size tails))) (find (has_room size o.size tails) (range_with_len 0 number))

-- a sub-heap is thin, where its tail starts here by now: it holds an object, no pinned one, at most a quarter of its size, and none was moved into it, since its tail starts where it did
abbrev pub is_thin_at : (pinned : ℕ → Bool) → SubHeaps → (number tail : ℕ) → Bool
is_thin_at pinned h number tail =
    (holds_object h number && not (list_any (λ o. pinned o.at) (objects_in h number)))
    && (nat_le (4 * sum_by (λ o. o.size) (objects_in h number)) h.size && (extent_in h number == tail))

-- the moves that empty a sub-heap, if it is thin and each of its objects finds a place
abbrev pub planned_if_thin : (pinned : ℕ → Bool) → SubHeaps → ℕ → List ℕ → Option (List Move)
planned_if_thin pinned h number tails = if is_thin_at pinned h number (slice_index tails number) then planned h.size number (objects_in h number) tails else None
