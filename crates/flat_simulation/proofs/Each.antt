-- What holds of each of a list holds of the one that stands at a place.
use Rattle.std.proofs.Common.{◌≡◌, ℕ, List, Some, subst}
use Rattle.std.specs.Prelude.{slice_get, All}
use Rattle.std.proofs.lemmas.Option.{slice_get_within, get_or_from_slice_get}

pub one_of : {A : Type 0} (Q : A → Type 0) (xs : List A) (n : ℕ) (x : A) → All Q xs → slice_get xs n ≡ Some x → Q x
one_of Q xs n x all at = subst Q (get_or_from_slice_get xs n x x at) (all n x (slice_get_within xs n x at))
