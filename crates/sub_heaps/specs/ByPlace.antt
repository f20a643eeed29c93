-- The objects as a list in order of place: where one ends, which one starts at a place, and the list with one more, one less or one moved.
use Rattle.std.specs.Prelude.{ℕ, ◌+◌, ◌==◌, nat_lt, not, if◌then◌else◌, List, [], ◌∷◌, Option, Some, None}
use Rattle.std.specs.List.{filter, find}
use Rattle.sub_heaps.specs.declared.objects.Object.{Object}

-- the first place after an object
abbrev pub end_of : Object → ℕ
end_of o = o.at + o.size

-- the object that starts at a place
abbrev pub object_at : ℕ → List Object → Option Object
object_at at objects = find (λ o. o.at == at) objects

-- the list with one object more, in order of place
abbrev pub with_object : Object → List Object → List Object
with_object new [] = new ∷ []
with_object new (o ∷ os) = if nat_lt new.at o.at then new ∷ o ∷ os else o ∷ with_object new os

-- the list without the object that starts at a place
abbrev pub without : ℕ → List Object → List Object
without at objects = filter (λ o. not (o.at == at)) objects

-- the list with this object more, if there is one, at a new place
abbrev pub with_moved : Option Object → ℕ → List Object → List Object
with_moved None to objects = objects
with_moved (Some o) to objects = with_object (record o { at = to }) objects

-- the list after the object that starts at `from` has moved to `to`
abbrev pub shifted : ℕ → ℕ → List Object → List Object
shifted from to objects = with_moved (object_at from objects) to (without from objects)
