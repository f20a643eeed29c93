-- What is used at the start of loops' rounds, as the program gathers it.
use Rattle.std.proofs.Common.{◌≡◌, ◌≢◌, ◌<◌, ◌≤◌, ◌+◌, ℕ, zero, suc, Bool, true, false, length, set, drop, get_or, List, [], ◌∷◌, ◌++◌, refl, sym, ap, ◌∙◌, subst, if◌then◌else◌, arith, length-append}
use Rattle.std.proofs.lemmas.List.{length-set}
use Rattle.struct_ir.specs.declared.code.Node.{Node as CodeNode}
use Rattle.struct_ir.specs.Nodes.{Node, plain, if_, loop, break_, next_, ret, Nodes, no_nodes, more_nodes}
use Rattle.struct_ir.specs.Views.{node_view, nodes_view}
use Rattle.mark_sets.specs.declared.heads.Later.{Later}
use Rattle.mark_sets.specs.Added.{loops, loops_in}
use Rattle.mark_sets.specs.Words.{has}
use Rattle.mark_sets.proofs.HomeSlots.{has_nothing}
use Rattle.mark_sets.specs.Heads.{later_in, head_at, IsHead, AreHeads, AreHeadsIn, HasHeads, HasHeadsIn, HasHeadsWithin}

-- ---- behind the loop around

-- nothing is used
pub later_none : (none all : List ℕ) → none ≡ [] → all ≡ [] → (t : Bool) (i : ℕ) → (if t then has all i else has none i) ≡ false
later_none none all n a true i = ap (λ l. has l i) a ∙ has_nothing i
later_none none all n a false i = ap (λ l. has l i) n ∙ has_nothing i

-- what is used is just what is there
pub later_all : (none all : List ℕ) → none ≡ [] → (t : Bool) (i : ℕ) → has all i ≡ true → (if t then has all i else has none i) ≡ t
later_all none all n true i h = h
later_all none all n false i h = ap (λ l. has l i) n ∙ has_nothing i

-- ---- heads by their numbers

head_past : (s : List Later) (l : Later) (j : ℕ) (on : Bool) (i : ℕ) → j < length s → head_at (s ++ (l ∷ [])) j on i ≡ head_at s j on i
head_past [] l j on i h = absurd (omega (arith, h))
head_past (y ∷ s) l zero on i h = refl
head_past (y ∷ s) l (suc j) on i h = head_past s l j on i (omega (arith, h))

head_here : (s : List Later) (l : Later) (j : ℕ) (on : Bool) (i : ℕ) → j < length s → head_at (set s j l) j on i ≡ later_in l on i
head_here [] l j on i h = absurd (omega (arith, h))
head_here (y ∷ s) l zero on i h = refl
head_here (y ∷ s) l (suc j) on i h = head_here s l j on i (omega (arith, h))

head_apart : (s : List Later) (l : Later) (k j : ℕ) (on : Bool) (i : ℕ) → k ≢ j → head_at (set s k l) j on i ≡ head_at s j on i
head_apart [] l k j on i ne = refl
head_apart (y ∷ s) l zero zero on i ne = absurd (ne refl)
head_apart (y ∷ s) l zero (suc j) on i ne = refl
head_apart (y ∷ s) l (suc k) zero on i ne = refl
head_apart (y ∷ s) l (suc k) (suc j) on i ne = head_apart s l k j on i (λ e. ne (ap suc e))

-- the head of this number, as it is read
pub head_got : (s : List Later) (j : ℕ) (l : Later) (on : Bool) (i : ℕ) → j < length s → l ≡ get_or s j l → head_at s j on i ≡ later_in l on i
head_got [] j l on i h e = absurd (omega (arith, h))
head_got (y ∷ s) zero l on i h e = ap (λ z. later_in z on i) (sym e)
head_got (y ∷ s) (suc j) l on i h e = head_got s j l on i (omega (arith, h)) e

-- ---- heads that are the same for a row

abbrev IsSame : (s s' : List Later) (at end : ℕ) → Type 0
IsSame s s' at end = (j : ℕ) (on : Bool) (i : ℕ) → at ≤ j → j < end → head_at s' j on i ≡ head_at s j on i

module _ (bs : List ℕ) (s s' : List Later) where
  mutual
    row_same : (at : ℕ) (ns : Nodes) → IsSame s s' at (at + loops ns) → AreHeads bs s at ns → AreHeads bs s' at ns
    row_same at no_nodes e a = tt
    row_same at (more_nodes n rest) e a =
        (row_same at rest (λ j on i ge lt. e j on i ge (omega (arith, lt))) a.0, node_same (at + loops rest) n (λ j on i ge lt. e j on i (omega (arith, ge)) (omega (arith, lt))) a.1)

    node_same : (at : ℕ) (n : Node) → IsSame s s' at (at + loops_in n) → AreHeadsIn bs s at n → AreHeadsIn bs s' at n
    node_same at (plain p act) e a = tt
    node_same at (if_ p t one other) e a =
        (row_same at one (λ j on i ge lt. e j on i ge (omega (arith, lt))) a.0, row_same (at + loops one) other (λ j on i ge lt. e j on i (omega (arith, ge)) (omega (arith, lt))) a.1)
    node_same at (loop p body latch) e a = (
      λ b i on h. e at on i (omega arith) (omega arith) ∙ a.0 b i on h,
      row_same (suc at) latch (λ j on i ge lt. e j on i (omega (arith, ge)) (omega (arith, lt))) a.1,
      row_same (suc at + loops latch) body (λ j on i ge lt. e j on i (omega (arith, ge)) (omega (arith, lt))) a.2,
    )
    node_same at (break_ p) e a = tt
    node_same at (next_ p) e a = tt
    node_same at (ret p t) e a = tt

-- ---- rows, from behind

-- none yet
pub heads_none : (bs : List ℕ) (s : List Later) → HasHeads bs s s no_nodes
heads_none bs s = record { long = omega arith; before = λ j on i h. refl; heads = tt }

-- a node more, before those that were gone through
pub heads_more : (bs : List ℕ) (old now new : List Later) (n : Node) (rest : Nodes) → HasHeads bs old now rest → HasHeadsIn bs now new n → HasHeads bs old new (more_nodes n rest)
heads_more bs old now new n rest a b =
    let al = a.long in
    let bl = b.long in
    record {
      long = omega (arith, al, bl);
      before = λ j on i h. b.before j on i (omega (arith, h, al)) ∙ a.before j on i h;
      heads = (row_same bs now new (length old) rest (λ j on i ge lt. b.before j on i (omega (arith, lt, al))) a.heads, subst (λ k. AreHeadsIn bs new k n) al b.heads);
    }

-- what is behind is numbered as the whole is
pub heads_behind : (bs : List ℕ) (s : List Later) (at : ℕ) (rows : List CodeNode) (k : ℕ) → AreHeads bs s at (nodes_view rows) → AreHeads bs s at (nodes_view (drop k rows))
heads_behind bs s at rows zero a = a
heads_behind bs s at [] (suc k) a = tt
heads_behind bs s at (x ∷ rows) (suc k) a = heads_behind bs s at rows k a.0

pub loops_behind : (rows : List CodeNode) (k : ℕ) → loops (nodes_view (drop k rows)) ≤ loops (nodes_view rows)
loops_behind rows zero = omega arith
loops_behind [] (suc k) = omega arith
loops_behind (x ∷ rows) (suc k) = let h = loops_behind rows k in omega (arith, h)

pub none_over : (rows : List CodeNode) (k at : ℕ) → length rows ≤ k → at ≡ at + loops (nodes_view (drop k rows))
none_over [] zero at h = omega arith
none_over [] (suc k) at h = omega arith
none_over (x ∷ rows) zero at h = absurd (omega (arith, h))
none_over (x ∷ rows) (suc k) at h = none_over rows k at (omega (arith, h))

-- a node, where the heads of what is behind it are passed
module _ (bs : List ℕ) (s : List Later) (at next k left : ℕ) (rows : List CodeNode) (x y : CodeNode) (cut : drop k rows ≡ x ∷ drop left rows) (is : next ≡ at + loops (nodes_view (drop left rows))) (same : y ≡ x) where
  split_loops : loops (nodes_view (drop k rows)) ≡ loops_in (node_view x) + loops (nodes_view (drop left rows))
  split_loops = ap (λ l. loops (nodes_view l)) cut

  pub within_in : at + loops (nodes_view rows) ≤ length s → next + loops_in (node_view y) ≤ length s
  within_in w =
      let f = loops_behind rows k in
      let p = split_loops in
      let e = ap (λ z. loops_in (node_view z)) same in
      omega (arith, w, f, p, e, is)

  pub heads_in : AreHeads bs s at (nodes_view rows) → AreHeadsIn bs s next (node_view y)
  heads_in a =
      let b : AreHeads bs s at (nodes_view (x ∷ drop left rows)) = subst (λ l. AreHeads bs s at (nodes_view l)) cut (heads_behind bs s at rows k a) in
      subst (λ n. AreHeadsIn bs s n (node_view y)) (sym is) (subst (λ z. AreHeadsIn bs s (at + loops (nodes_view (drop left rows))) (node_view z)) (sym same) b.1)

  pub next_in : (new : ℕ) → new ≡ next + loops_in (node_view y) → new ≡ at + loops (nodes_view (drop k rows))
  next_in new h =
      let p = split_loops in
      let e = ap (λ z. loops_in (node_view z)) same in
      omega (arith, h, p, e, is)

-- ---- nodes

pub plain_has_none : (n : Node) → Rattle.pin_flow.proofs.FlowRows.is_plain n ≡ true → loops_in n ≡ 0
plain_has_none (plain p a) e = refl
plain_has_none (if_ p t one other) e = absurd (let h : false ≡ true = e in cc)
plain_has_none (loop p body latch) e = absurd (let h : false ≡ true = e in cc)
plain_has_none (break_ p) e = absurd (let h : false ≡ true = e in cc)
plain_has_none (next_ p) e = absurd (let h : false ≡ true = e in cc)
plain_has_none (ret p t) e = absurd (let h : false ≡ true = e in cc)

-- no loop
pub heads_leaf : (bs : List ℕ) (s : List Later) (n : Node) → Rattle.pin_flow.proofs.FlowRows.is_leaf n ≡ true → HasHeadsIn bs s s n
heads_leaf bs s (plain p a) e = record { long = omega arith; before = λ j on i h. refl; heads = tt }
heads_leaf bs s (if_ p t one other) e = absurd (let h : false ≡ true = e in cc)
heads_leaf bs s (loop p body latch) e = absurd (let h : false ≡ true = e in cc)
heads_leaf bs s (break_ p) e = record { long = omega arith; before = λ j on i h. refl; heads = tt }
heads_leaf bs s (next_ p) e = record { long = omega arith; before = λ j on i h. refl; heads = tt }
heads_leaf bs s (ret p t) e = record { long = omega arith; before = λ j on i h. refl; heads = tt }

-- two branches
pub heads_if : (bs : List ℕ) (old now new : List Later) (p t : ℕ) (one other : Nodes) → HasHeads bs old now one → HasHeads bs now new other → HasHeadsIn bs old new (if_ p t one other)
heads_if bs old now new p t one other a b =
    let al = a.long in
    let bl = b.long in
    record {
      long = omega (arith, al, bl);
      before = λ j on i h. b.before j on i (omega (arith, h, al)) ∙ a.before j on i h;
      heads = (
        row_same bs now new (length old) one (λ j on i ge lt. b.before j on i (omega (arith, lt, al))) a.heads,
        subst (λ k. AreHeads bs new k other) al b.heads,
      );
    }

-- a step, and then a body
pub heads_within : (bs : List ℕ) (old now new : List Later) (body latch : Nodes) → HasHeads bs old now latch → HasHeads bs now new body → HasHeadsWithin bs old new body latch
heads_within bs old now new body latch a b =
    let al = a.long in
    let bl = b.long in
    record {
      long = omega (arith, al, bl);
      before = λ j on i h. b.before j on i (omega (arith, h, al)) ∙ a.before j on i h;
      in_latch = row_same bs now new (length old) latch (λ j on i ge lt. b.before j on i (omega (arith, lt, al))) a.heads;
      in_body = subst (λ k. AreHeads bs new k body) al b.heads;
    }

-- a loop: its head is put behind the others, and filled in once the step and the body are gone through
pub heads_loop : (bs : List ℕ) (old first second : List Later) (empty head : Later) (p : ℕ) (body latch : Nodes) → first ≡ old ++ (empty ∷ [])
    → HasHeadsWithin bs first second body latch → IsHead bs (later_in head) body latch → HasHeadsIn bs old (set second (length old) head) (loop p body latch)
heads_loop bs old first second empty head p body latch e a is =
    let al = a.long in
    let fl : length first ≡ length old + 1 = ap length e ∙ length-append old (empty ∷ []) in
    let new = set second (length old) head in
    let nl : length new ≡ length second = length-set second (length old) head in
    let same : (at : ℕ) → suc (length old) ≤ at → (ns : Nodes) → AreHeads bs second at ns → AreHeads bs new at ns =
    λ at le ns y. row_same bs second new at ns (λ j on i ge lt. head_apart second head (length old) j on i (omega (arith, ge, le))) y in
    record {
      long = omega (arith, al, fl, nl);
      before = λ j on i h. head_apart second head (length old) j on i (omega (arith, h))
          ∙ (a.before j on i (omega (arith, h, fl)) ∙ (ap (λ l. head_at l j on i) e ∙ head_past old empty j on i h));
      heads = (
        λ b i on h. head_here second head (length old) on i (omega (arith, al, fl)) ∙ is b i on h,
        same (suc (length old)) (omega arith) latch (subst (λ k. AreHeads bs second k latch) (omega (arith, fl)) a.in_latch),
        same (suc (length old) + loops latch) (omega arith) body (subst (λ k. AreHeads bs second k body) (omega (arith, fl)) a.in_body),
      );
    }
