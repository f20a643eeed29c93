-- A list cut before its last part.
use Rattle.std.proofs.Common.{◌≡◌, ◌≤◌, ℕ, suc, List, ◌∷◌, length, drop, get_or, arith}
use Rattle.std.proofs.Math.Seq.{drop-cons}

pub drop_one : {A : Type 0} (l : List A) (n : ℕ) (d : A) → suc n ≤ length l → drop n l ≡ get_or l n d ∷ drop (suc n) l
drop_one l n d h = drop-cons l n d (omega (arith, h))
