-- Whether the members of a struct are fine, as the body is cut into calls.
use Rattle.std.specs.Prelude.{ℕ}
use Rattle.c_typing.specs.Faults.{Judged, typed, ◌>>=◌}
use Rattle.ak_words.specs.IntType.{int}
use Rattle.c_tree.specs.Typed.{integer, structure}
use Rattle.c_typing.specs.Judgement.{Judging, ruled, Part, whole}

-- that a part is fine, without what it is
abbrev pub is_fine : {A : Type 0} → Judged A → Judged (Unit {0})
is_fine j = j >>= λ x. typed tt

-- the same, where it stands
abbrev pub stands_fine : {A : Type 0} → Judging A → Judging (Unit {0})
stands_fine j = ruled j (λ c x. typed tt)

-- a struct of this number, where what was judged of its tag is fine
abbrev pub struct_part : Judged (Unit {0}) → ℕ → Judged Part
struct_part j number = j >>= λ u. typed (whole (structure number))

-- an enum, where what was judged of its braces is fine
abbrev pub enum_part : {A : Type 0} → Judged A → Judged Part
enum_part j = j >>= λ x. typed (whole (integer int))
