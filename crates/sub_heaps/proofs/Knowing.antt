-- What a node knows of the objects under it, put together with an object beside them.
use Rattle.std.proofs.Common.{◌≡◌, ℕ, List, ◌∷◌, ◌++◌, [], Box, sym, subst, append_assoc, ◌∙◌}
use Rattle.std.specs.declared.alloc.Global.{Global}
use Rattle.sub_heaps.specs.declared.objects.Object.{Object}
use Rattle.sub_heaps.specs.declared.summary.Summary.{Summary}
use Rattle.sub_heaps.specs.declared.tree.Tree.{Tree}
use Rattle.sub_heaps.specs.declared.tree.Node.{Node}
use Rattle.sub_heaps.specs.declared.tree.Tree.TheVariants.{Fork}
use Rattle.sub_heaps.specs.inner.Order.{InOrder}
use Rattle.sub_heaps.specs.inner.Summaries.{summary_of, joined, AreInOrder}
use Rattle.sub_heaps.specs.inner.Trees.{objects_of, IsTree}
use Rattle.sub_heaps.proofs.Order.{IsCons-append}
use Rattle.sub_heaps.proofs.Summing.{summaries_in_order, summary_of-append}

-- what is known of two parts of a list, one behind the other, is known of the list
pub record Joins (size : ℕ) (low behind : Summary) (objects : List Object) : Type 0 where
  pub order : AreInOrder low behind
  pub is : joined size low behind ≡ summary_of size objects

pub joins_low : (size : ℕ) (t : Tree) (o : Object) (node : Box Node Global) → t ≡ Fork node → IsTree size t → InOrder 0 (objects_of t ++ o ∷ []) → Joins size node.value.under (summary_of size (o ∷ [])) (objects_of t ++ o ∷ [])
joins_low size t o node is tree order =
    let known = subst (IsTree size) is tree in
    let here = subst (λ t. InOrder 0 (objects_of t ++ o ∷ [])) is order in
    let has = IsCons-append (objects_of node.value.left) node.value.object (objects_of node.value.right) in
    rw is (record {
      order = rw known.4 (summaries_in_order size (objects_of (Fork node)) (o ∷ []) here has tt);
      is = rw known.4 (sym (summary_of-append size (objects_of (Fork node)) (o ∷ []) here has tt));
    })

pub joins_high : (size : ℕ) (xs : List Object) (o : Object) (t : Tree) (node : Box Node Global) → t ≡ Fork node → IsTree size t → InOrder 0 (xs ++ o ∷ objects_of t) → Joins size (summary_of size (xs ++ o ∷ [])) node.value.under (xs ++ o ∷ objects_of t)
joins_high size xs o t node is tree order =
    let known = subst (IsTree size) is tree in
    let here : InOrder 0 ((xs ++ o ∷ []) ++ objects_of (Fork node)) = rw (append_assoc xs (o ∷ []) (objects_of (Fork node))) (subst (λ t. InOrder 0 (xs ++ o ∷ objects_of t)) is order) in
    let some = IsCons-append xs o [] in
    let has = IsCons-append (objects_of node.value.left) node.value.object (objects_of node.value.right) in
    rw is (record {
      order = rw known.4 (summaries_in_order size (xs ++ o ∷ []) (objects_of (Fork node)) here some has);
      is = rw known.4 (sym (summary_of-append size (xs ++ o ∷ []) (objects_of (Fork node)) here some has) ∙ rw (append_assoc xs (o ∷ []) (objects_of (Fork node))));
    })
