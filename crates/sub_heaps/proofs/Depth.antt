-- A tree of so many objects is no deeper than twice the logarithm of their number.
use Rattle.std.proofs.Common.{◌≡◌, ℕ, ◌+◌, ◌*◌, ◌/◌, ◌^◌, ◌≤◌, length, length-append, ◌∷◌, inl, inr, arith}
use Rattle.std.proofs.lemmas.Bool.{cases_lt}
use Rattle.std.proofs.Math.Pow.{pow_mono}
use Rattle.sub_heaps.specs.declared.tree.Tree.{Tree}
use Rattle.sub_heaps.specs.declared.tree.Tree.TheVariants.{Empty, Fork'}
use Rattle.sub_heaps.specs.inner.Trees.{objects_of, height_of, IsTree}

-- twice a power of two is the next one
twice : (k : ℕ) → 2 ^ (k + 1) ≡ 2 * 2 ^ k
twice k = omega (arith, Rattle.std.proofs.lemmas.Grind.pow_more 2 k)

-- half a height above one that is two lower at most
half_power : (low high : ℕ) → high ≤ low + 2 → 2 ^ (high / 2) ≤ 2 * 2 ^ (low / 2)
half_power low high le = omega (arith, pow_mono {i = high / 2} {j = low / 2 + 1} (omega arith), twice (low / 2))

pub nodes_at_least : (size : ℕ) (t : Tree) → IsTree size t → 2 ^ (height_of t / 2) ≤ length (objects_of t) + 1
nodes_at_least size Empty tree = omega arith
nodes_at_least size (Fork' p left object right height under) tree =
    omega (
      arith,
      tree.2,
      tree.3,
      length-append (objects_of left) (object ∷ objects_of right),
      nodes_at_least size left tree.0,
      nodes_at_least size right tree.1,
      half_power (height_of left) height (omega (arith, tree.2, tree.3)),
      half_power (height_of right) height (omega (arith, tree.2, tree.3)),
    )

-- with at most 2^20 objects no way down has more than 41 nodes
pub shallow : (size : ℕ) (t : Tree) → IsTree size t → length (objects_of t) ≤ 1048576 → height_of t ≤ 41
shallow size t tree few = elim (cases_lt 41 (height_of t)) [
  | inl deep ↦ absurd (omega (arith, nodes_at_least size t tree, pow_mono {i = 21} {j = height_of t / 2} (omega arith)))
  | inr low ↦ low
]
