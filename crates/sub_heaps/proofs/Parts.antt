-- Parts of a tree: a part of a side is a part of the tree, and what a part has at or above a place is the tree's.
use Rattle.std.proofs.Common.{◌≡◌, ℕ, ◌<◌, ◌≤◌, List, [], ◌∷◌, ◌++◌, Some, refl, sym, ap, ◌∙◌, append_assoc, arith}
use Rattle.std.specs.Bool.{nat_le}
use Rattle.std.specs.List.{AllByRecursion as Each, find}
use Rattle.std.specs.Option.{option_or}
use Rattle.std.proofs.lemmas.List.Folds.{find-append}
use Rattle.std.proofs.lemmas.List.{append-nil}
use Rattle.sub_heaps.specs.declared.objects.Object.{Object}
use Rattle.sub_heaps.specs.declared.tree.Tree.{Tree}
use Rattle.sub_heaps.specs.inner.Order.{InOrder, last_end}
use Rattle.sub_heaps.specs.inner.Parts.{IsPart}
use Rattle.sub_heaps.specs.inner.Trees.{objects_of}
use Rattle.sub_heaps.proofs.Edits.{first_from-skip}
use Rattle.sub_heaps.proofs.Order.{InOrder-left, InOrder-right, InOrder-weaker, start_before}
use Rattle.sub_heaps.proofs.Standing.{Each-weaker}

pub IsPart-itself : (low : ℕ) (t : Tree) → IsPart low t t
IsPart-itself low t = record { before = []; behind = []; objects = sym (append-nil (objects_of t)); below = tt }

Each-append : (P : Object → Type 0) (xs ys : List Object) → Each P xs → Each P ys → Each P (xs ++ ys)
Each-append P [] ys left right = right
Each-append P (x ∷ xs) ys left right = (left.0, Each-append P xs ys left.1 right)

-- a part of what stands behind an object that starts at or below the place
pub IsPart-right : (low : ℕ) (part right whole : Tree) (xs : List Object) (o : Object) → InOrder 0 (objects_of whole) → objects_of whole ≡ xs ++ o ∷ objects_of right → o.at ≤ low → IsPart low part right → IsPart low part whole
IsPart-right low part right whole xs o order whole_is le p = record {
  before = xs ++ o ∷ p.before;
  behind = p.behind;
  objects = whole_is ∙ ap (λ ys. xs ++ o ∷ ys) p.objects ∙ sym (append_assoc xs (o ∷ p.before) (objects_of part ++ p.behind));
  below = Each-append (λ x. x.at ≤ low) xs (o ∷ p.before) (Each-weaker (λ x. x.at < o.at) (λ x. x.at ≤ low) (λ x lower. omega (arith, lower, le)) xs (start_before 0 xs o (objects_of right) (rw whole_is at order))) (le, p.below);
}

-- a part of what stands before an object
pub IsPart-left : (low : ℕ) (part left whole : Tree) (o : Object) (ys : List Object) → objects_of whole ≡ objects_of left ++ o ∷ ys → IsPart low part left → IsPart low part whole
IsPart-left low part left whole o ys whole_is p = record {
  before = p.before;
  behind = p.behind ++ o ∷ ys;
  objects = whole_is ∙ ap (λ xs. xs ++ o ∷ ys) p.objects ∙ append_assoc p.before (objects_of part ++ p.behind) (o ∷ ys) ∙ ap (λ zs. p.before ++ zs) (append_assoc (objects_of part) p.behind (o ∷ ys));
  below = p.below;
}

pub InOrder-part : (low : ℕ) (part whole : Tree) → IsPart low part whole → InOrder 0 (objects_of whole) → InOrder 0 (objects_of part)
InOrder-part low part whole p order =
    let right = InOrder-right 0 p.before (objects_of part ++ p.behind) (rw p.objects at order) in
    InOrder-weaker 0 (last_end 0 p.before) (objects_of part) (omega arith) (InOrder-left (last_end 0 p.before) (objects_of part) p.behind right)

-- what the part has at or above a place that is above the objects before it
pub found_in_part : (low from : ℕ) (part whole : Tree) (o : Object) → IsPart low part whole → low < from → Some o ≡ find (λ o. nat_le from o.at) (objects_of part) → Some o ≡ find (λ o. nat_le from o.at) (objects_of whole)
found_in_part low from part whole o p lower found =
    let skipped = first_from-skip from p.before (objects_of part ++ p.behind) (Each-weaker (λ x. x.at ≤ low) (λ x. x.at < from) (λ x below. omega (arith, below, lower)) p.before p.below) in
    let first = find-append (λ o. nat_le from o.at) (objects_of part) p.behind in
    let here : Some o ≡ find (λ o. nat_le from o.at) (objects_of part ++ p.behind) = sym (first ∙ ap (λ r. option_or r (find (λ o. nat_le from o.at) p.behind)) (sym found)) in
    here ∙ sym (ap (λ os. find (λ o. nat_le from o.at) os) p.objects ∙ skipped)
