-- What the rounds of a row's loops add, as the program gathers it.
use Rattle.std.proofs.Common.{◌≡◌, ◌≢◌, ◌<◌, ◌≤◌, ◌+◌, ℕ, zero, suc, true, false, length, set, take, List, [], ◌∷◌, ◌++◌, refl, sym, ap, ◌∙◌, subst, arith, length-append, take_all}
use Rattle.std.proofs.lemmas.List.{length-set, take_more}
use Rattle.std.specs.Global.{Vec}
use Rattle.struct_ir.specs.declared.code.Node.{Node as CodeNode}
use Rattle.struct_ir.specs.Nodes.{Node, plain, if_, loop, break_, next_, ret, Nodes, no_nodes, more_nodes}
use Rattle.struct_ir.specs.Views.{node_view, nodes_view}
use Rattle.mark_sets.specs.declared.marks.Marks.{Marks}
use Rattle.mark_sets.specs.Added.{loops, loops_in, IsAdded, set_at, AreAdded, AreAddedIn, Gathers, GathersIn}

-- ---- sets by their numbers

pub set_past : (s : List (Vec ℕ)) (v : Vec ℕ) (j : ℕ) → j < length s → set_at (s ++ (v ∷ [])) j ≡ set_at s j
set_past [] v j h = absurd (omega (arith, h))
set_past (y ∷ s) v zero h = refl
set_past (y ∷ s) v (suc j) h = set_past s v j (omega (arith, h))

set_here : (s : List (Vec ℕ)) (v : Vec ℕ) (j : ℕ) → j < length s → set_at (set s j v) j ≡ v.items
set_here [] v j h = absurd (omega (arith, h))
set_here (y ∷ s) v zero h = refl
set_here (y ∷ s) v (suc j) h = set_here s v j (omega (arith, h))

set_apart : (s : List (Vec ℕ)) (v : Vec ℕ) (i j : ℕ) → i ≢ j → set_at (set s i v) j ≡ set_at s j
set_apart [] v i j ne = refl
set_apart (y ∷ s) v zero zero ne = absurd (ne refl)
set_apart (y ∷ s) v zero (suc j) ne = refl
set_apart (y ∷ s) v (suc i) zero ne = refl
set_apart (y ∷ s) v (suc i) (suc j) ne = set_apart s v i j (λ e. ne (ap suc e))

-- ---- sets that are the same for a row

abbrev IsSame : (s s' : List (Vec ℕ)) (at end : ℕ) → Type 0
IsSame s s' at end = (j : ℕ) → at ≤ j → j < end → set_at s' j ≡ set_at s j

module _ (x : Marks) (s s' : List (Vec ℕ)) where
  mutual
    row_same : (at : ℕ) (ns : Nodes) → IsSame s s' at (at + loops ns) → AreAdded x s at ns → AreAdded x s' at ns
    row_same at no_nodes e a = tt
    row_same at (more_nodes n rest) e a =
        (node_same at n (λ j ge lt. e j ge (omega (arith, lt))) a.0, row_same (at + loops_in n) rest (λ j ge lt. e j (omega (arith, ge)) (omega (arith, lt))) a.1)

    node_same : (at : ℕ) (n : Node) → IsSame s s' at (at + loops_in n) → AreAddedIn x s at n → AreAddedIn x s' at n
    node_same at (plain p act) e a = tt
    node_same at (if_ p t one other) e a =
        (row_same at one (λ j ge lt. e j ge (omega (arith, lt))) a.0, row_same (at + loops one) other (λ j ge lt. e j (omega (arith, ge)) (omega (arith, lt))) a.1)
    node_same at (loop p body latch) e a = (
      subst (λ words. IsAdded x words body latch) (sym (e at (omega arith) (omega arith))) a.0,
      row_same (suc at) body (λ j ge lt. e j (omega (arith, ge)) (omega (arith, lt))) a.1,
      row_same (suc at + loops body) latch (λ j ge lt. e j (omega (arith, ge)) (omega (arith, lt))) a.2,
    )
    node_same at (break_ p) e a = tt
    node_same at (next_ p) e a = tt
    node_same at (ret p t) e a = tt

-- ---- rows, by their nodes

loops_more : (rows : List CodeNode) (n : CodeNode) → loops (nodes_view (rows ++ (n ∷ []))) ≡ loops (nodes_view rows) + loops_in (node_view n)
loops_more [] n = omega arith
loops_more (y ∷ rows) n = let h = loops_more rows n in omega (arith, h)

added_more : (x : Marks) (s : List (Vec ℕ)) (at : ℕ) (rows : List CodeNode) (n : CodeNode) → AreAdded x s at (nodes_view rows) → AreAddedIn x s (at + loops (nodes_view rows)) (node_view n)
    → AreAdded x s at (nodes_view (rows ++ (n ∷ [])))
added_more x s at [] n a b = (subst (λ k. AreAddedIn x s k (node_view n)) (omega arith) b, tt)
added_more x s at (y ∷ rows) n a b =
    (a.0, added_more x s (at + loops_in (node_view y)) rows n a.1 (subst (λ k. AreAddedIn x s k (node_view n)) (omega arith) b))

-- none yet
pub gathers_none : (x : Marks) (s : List (Vec ℕ)) → Gathers x s s no_nodes
gathers_none x s = record { long = omega arith; before = λ j h. refl; added = tt }

-- a node more
pub gathers_more : (x : Marks) (old now new : List (Vec ℕ)) (rows : List CodeNode) (n : CodeNode) → Gathers x old now (nodes_view rows) → GathersIn x now new (node_view n) → Gathers x old new (nodes_view (rows ++ (n ∷ [])))
gathers_more x old now new rows n a b =
    let k = loops_more rows n in
    let al = a.long in
    let bl = b.long in
    record {
      long = omega (arith, k, al, bl);
      before = λ j h. b.before j (omega (arith, h, al)) ∙ a.before j h;
      added = added_more x new (length old) rows n (row_same x now new (length old) (nodes_view rows) (λ j ge lt. b.before j (omega (arith, lt, al))) a.added)
          (subst (λ k. AreAddedIn x new k (node_view n)) al b.added);
    }

-- ... of a row
pub gathers_at : (x : Marks) (old now new : List (Vec ℕ)) (rows : List CodeNode) (i : ℕ) (n : CodeNode) → i < length rows → n ≡ Rattle.std.proofs.Common.get_or rows i n
    → Gathers x old now (nodes_view (take i rows)) → GathersIn x now new (node_view n) → Gathers x old new (nodes_view (take (i + 1) rows))
gathers_at x old now new rows i n le is a b =
    let e : take (i + 1) rows ≡ take i rows ++ (n ∷ []) = take_more rows i n le ∙ ap (λ y. take i rows ++ (y ∷ [])) (sym is) in
    subst (λ r. Gathers x old new (nodes_view r)) (sym e) (gathers_more x old now new (take i rows) n a b)

-- no node more
pub gathers_all : (x : Marks) (old now : List (Vec ℕ)) (rows : List CodeNode) (i : ℕ) → length rows ≤ i → Gathers x old now (nodes_view (take i rows)) → Gathers x old now (nodes_view rows)
gathers_all x old now rows i le a = subst (λ r. Gathers x old now (nodes_view r)) (take_all i rows le) a

-- ---- nodes

-- no loop
pub gathers_leaf : (x : Marks) (s : List (Vec ℕ)) (n : Node) → Rattle.pin_flow.proofs.FlowRows.is_leaf n ≡ true → GathersIn x s s n
gathers_leaf x s (plain p a) e = record { long = omega arith; before = λ j h. refl; added = tt }
gathers_leaf x s (if_ p t one other) e = absurd (let h : false ≡ true = e in cc)
gathers_leaf x s (loop p body latch) e = absurd (let h : false ≡ true = e in cc)
gathers_leaf x s (break_ p) e = record { long = omega arith; before = λ j h. refl; added = tt }
gathers_leaf x s (next_ p) e = record { long = omega arith; before = λ j h. refl; added = tt }
gathers_leaf x s (ret p t) e = record { long = omega arith; before = λ j h. refl; added = tt }

-- two branches
pub gathers_if : (x : Marks) (old now new : List (Vec ℕ)) (p t : ℕ) (one other : Nodes) → Gathers x old now one → Gathers x now new other → GathersIn x old new (if_ p t one other)
gathers_if x old now new p t one other a b =
    let al = a.long in
    let bl = b.long in
    record {
      long = omega (arith, al, bl);
      before = λ j h. b.before j (omega (arith, h, al)) ∙ a.before j h;
      added = (
        row_same x now new (length old) one (λ j ge lt. b.before j (omega (arith, lt, al))) a.added,
        subst (λ k. AreAdded x new k other) al b.added,
      );
    }

-- a loop: its set is put behind the others, and filled in once the body and the step are gone through
pub gathers_loop : (x : Marks) (old first second third : List (Vec ℕ)) (empty words : Vec ℕ) (p : ℕ) (body latch : Nodes) → first ≡ old ++ (empty ∷ [])
    → Gathers x first second body → Gathers x second third latch → IsAdded x words.items body latch → GathersIn x old (set third (length old) words) (loop p body latch)
gathers_loop x old first second third empty words p body latch e a b is =
    let al = a.long in
    let bl = b.long in
    let fl : length first ≡ length old + 1 = ap length e ∙ length-append old (empty ∷ []) in
    let new = set third (length old) words in
    let nl : length new ≡ length third = length-set third (length old) words in
    let same : (at : ℕ) → suc (length old) ≤ at → (ns : Nodes) → AreAdded x third at ns → AreAdded x new at ns =
    λ at le ns y. row_same x third new at ns (λ j ge lt. set_apart third words (length old) j (omega (arith, ge, le))) y in
    record {
      long = omega (arith, al, bl, fl, nl);
      before = λ j h. set_apart third words (length old) j (omega (arith, h))
          ∙ (b.before j (omega (arith, h, al, fl)) ∙ (a.before j (omega (arith, h, fl)) ∙ (ap (λ l. set_at l j) e ∙ set_past old empty j h)));
      added = (
        subst (λ l. IsAdded x l body latch) (sym (set_here third words (length old) (omega (arith, al, bl, fl)))) is,
        same (suc (length old)) (omega arith) body
            (row_same x second third (suc (length old)) body (λ j ge lt. b.before j (omega (arith, lt, al, fl))) (subst (λ k. AreAdded x second k body) (omega (arith, fl)) a.added)),
        same (suc (length old) + loops body) (omega arith) latch (subst (λ k. AreAdded x third k latch) (omega (arith, al, fl)) b.added),
      );
    }

-- of the same row
pub gathers_of : {x : Marks} {s s' : List (Vec ℕ)} {l l' : List CodeNode} → l ≡ l' → Gathers x s s' (nodes_view l) → Gathers x s s' (nodes_view l')
gathers_of {x} {s} {s'} e a = subst (λ r. Gathers x s s' (nodes_view r)) e a
