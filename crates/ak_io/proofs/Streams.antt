-- What two reads in a row, and two writes in a row, do to the bytes of a stream.
use Rattle.std.proofs.Common.{◌≡◌, ℕ, ◌+◌, ◌-◌, ◌≤◌, List, ◌++◌, length, take, drop, Option, Some, None, sym, ap, ◌∙◌, subst, append_assoc, take-append-drop}
use Rattle.std.proofs.Math.Seq.{take-append-add}
use Rattle.std.proofs.lemmas.List.{take-append-le, length-take-le, take_rest}
use Rattle.std.specs.Io.KnownBytes.{Appends, Consumes}
use borrow.Rule.Slice.PartMut.{put_mid, post_of}

-- one read after another
pub Consumes-trans : (old mid new : Option (List ℕ)) (xs ys : List ℕ) → Consumes old mid xs → Consumes mid new ys → Consumes old new (xs ++ ys)
Consumes-trans None mid new xs ys first second = tt
Consumes-trans (Some old) None new xs ys first second = absurd first
Consumes-trans (Some old) (Some mid) None xs ys first second = absurd second
Consumes-trans (Some old) (Some mid) (Some new) xs ys first second = first ∙ ap (λ l. xs ++ l) second ∙ sym (append_assoc xs ys new)

-- one write after another
pub Appends-trans : (old mid new : Option (List ℕ)) (xs ys : List ℕ) → Appends old mid xs → Appends mid new ys → Appends old new (xs ++ ys)
Appends-trans None mid new xs ys first second = tt
Appends-trans (Some old) None new xs ys first second = absurd first
Appends-trans (Some old) (Some mid) None xs ys first second = absurd second
Appends-trans (Some old) (Some mid) (Some new) xs ys first second = second ∙ ap (λ l. l ++ ys) first ∙ append_assoc old xs ys

-- the front of a buffer whose part from a on was written
pub take-put_mid-add : (a k n : ℕ) (xs ys : List ℕ) → a ≤ length xs → n ≤ length ys → take (a + n) (put_mid a k xs ys) ≡ take a xs ++ take n ys
take-put_mid-add a k n xs ys within fits =
    let front = length-take-le a xs within in
    subst (λ (m : ℕ). take (m + n) (put_mid a k xs ys) ≡ take a xs ++ take n ys) front
    (take-append-add (take a xs) (ys ++ post_of a k xs) n ∙ ap (λ l. take a xs ++ l) (take-append-le n ys (post_of a k xs) fits))

-- n bytes move from the rest to what is done
pub split_further : (all done rest : List ℕ) (n : ℕ) → all ≡ done ++ rest → all ≡ (done ++ take n rest) ++ take (length rest - n) (drop n rest)
split_further all done rest n split = rw (append_assoc, take_rest, take-append-drop) split
