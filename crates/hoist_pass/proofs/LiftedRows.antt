-- Rows into which Looks are lifted for all registers, as the program makes them.
use Rattle.std.proofs.Common.{◌≡◌, ◌≤◌, ◌<◌, ◌+◌, ℕ, zero, suc, length, drop, get_or, List, [], ◌∷◌, ◌++◌, Some, Bool, true, false, ◌||◌, ◌&&◌, if◌then◌else◌, inl, inr, refl, sym, ap, ◌∙◌, arith}
use Rattle.std.proofs.lemmas.Bool.{eq-eqb, ne_eqb}
use Rattle.std.proofs.lemmas.List.{drop_more, drop_all}
use Rattle.std.specs.Prelude.{not, Result, Ok, Err, OnOk}
use Rattle.struct_ir.specs.declared.code.Node.{Node as CodeNode}
use Rattle.struct_ir.specs.Nodes.{Act, look, Node, plain, if_, loop, break_, next_, ret, Nodes, more_nodes, node_place}
use Rattle.struct_ir.specs.Erased.{put}
use Rattle.struct_ir.specs.Views.{node_view, nodes_view, followed}
use Rattle.struct_ir.proofs.Views.{followed_none}
use Rattle.pin_flow.specs.Looks.{act_looks, act_assigns, some_act, some_in}
use Rattle.pin_flow.specs.Slots.{slot_in, slot_if, one_more, IsIn, bases_below}
use Rattle.pin_flow.proofs.Strip.{by_bool}
use Rattle.pin_flow.proofs.Registers.{base_below}
use Rattle.mark_sets.specs.declared.marks.Marks.{Marks}
use Rattle.mark_sets.specs.Words.{has}
use Rattle.hoist_pass.specs.inner.Hoist.{wants, looks_for, lifted_all, lifted_all_in, IsNotIn, AreDistinct}
use Rattle.hoist_pass.specs.inner.Sets.{Tells, TellsMore, HaveBits, looks_from, is_leaf}
use Rattle.pin_flow.specs.Views.{act_is}
use Rattle.hoist_pass.proofs.AllAtOnce.{looks_none}
use Rattle.hoist_pass.proofs.ByBit.{some_leaf}

-- ---- what is seen

or_none : (y : Bool) → (y || false) ≡ y
or_none true = refl
or_none false = refl

or_apart : (x y z : Bool) → ((x || y) || z) ≡ (x || (y || z))
or_apart true y z = refl
or_apart false y z = refl

-- a node more
pub seen_more : (f : Act → Bool) (old rest : List CodeNode) (n : CodeNode) (before now all : Bool) → old ≡ n ∷ rest → now ≡ (before || some_in f (node_view n)) → (before || some_act f (nodes_view old)) ≡ all
    → (now || some_act f (nodes_view rest)) ≡ all
seen_more f old rest n before now all e h inv =
    ap (λ y. y || some_act f (nodes_view rest)) h
    ∙ (or_apart before (some_in f (node_view n)) (some_act f (nodes_view rest)) ∙ (ap (λ l. before || some_act f (nodes_view l)) (sym e) ∙ inv))

-- no node more
pub seen_over : (f : Act → Bool) (rest : List CodeNode) (now all : Bool) → length rest ≡ 0 → (now || some_act f (nodes_view rest)) ≡ all → now ≡ all
seen_over f [] now all e inv = sym (or_none now) ∙ inv
seen_over f (n ∷ rest) now all e inv = absurd (omega (arith, e))

-- two rows within a node
pub seen_two : (x : Marks) (f : ℕ → Act → Bool) (old new both first second : List ℕ) (n : Node) (one other : Nodes) → ((i : ℕ) → has new i ≡ (has old i || has both i)) → ((i : ℕ) → has both i ≡ (has first i || has second i))
    → Tells x first (λ b. some_act (f b) one) → Tells x second (λ b. some_act (f b) other) → ((b : ℕ) → some_in (f b) n ≡ (some_act (f b) one || some_act (f b) other)) → TellsMore x old new (λ b. some_in (f b) n)
seen_two x f old new both first second n one other e g h k is = λ b i s.
    let p = h b i s in
    let q = k b i s in
    e i ∙ ap (λ y. has old i || y) (g i ∙ ((λ j. p j || q j) ∙ sym (is b)))

-- ---- registers by their places

not_there : (cs : List ℕ) (c j : ℕ) → IsNotIn cs c → j < length cs → (get_or cs j 0 ≡ c → ⊥)
not_there [] c j absent h e = omega (arith, h)
not_there (d ∷ cs) c zero absent h e = absent.0 (sym e)
not_there (d ∷ cs) c (suc j) absent h e = not_there cs c j absent.1 (omega (arith, h)) e

place_is : (bs : List ℕ) → AreDistinct bs → (j : ℕ) → j < length bs → slot_if bs (get_or bs j 0) ≡ Some j
place_is [] d j h = absurd (omega (arith, h))
place_is (c ∷ cs) d zero h = ap (λ t. if t then Some 0 else one_more (slot_if cs c)) (eq-eqb c c refl)
place_is (c ∷ cs) d (suc j) h =
    let b = get_or cs j 0 in
    ap (λ t. if t then Some 0 else one_more (slot_if cs b)) (ne_eqb b c (not_there cs c j d.0 (omega (arith, h)))) ∙ ap one_more (place_is cs d.1 j (omega (arith, h)))

slot_is : (bs : List ℕ) → AreDistinct bs → (j : ℕ) → j < length bs → slot_in bs (get_or bs j 0) ≡ j
slot_is [] d j h = absurd (omega (arith, h))
slot_is (c ∷ cs) d zero h = ap (λ t. if t then 0 else suc (slot_in cs c)) (eq-eqb c c refl)
slot_is (c ∷ cs) d (suc j) h =
    let b = get_or cs j 0 in
    ap (λ t. if t then 0 else suc (slot_in cs b)) (ne_eqb b c (not_there cs c j d.0 (omega (arith, h)))) ∙ ap suc (slot_is cs d.1 j (omega (arith, h)))

-- no register is a base twice
not_last : (xs : List ℕ) (c b : ℕ) → IsNotIn xs c → (c ≡ b → ⊥) → IsNotIn (xs ++ (b ∷ [])) c
not_last [] c b absent ne = (ne, tt)
not_last (x ∷ xs) c b absent ne = (absent.0, not_last xs c b absent.1 ne)

one_last : (xs : List ℕ) (b : ℕ) → AreDistinct xs → ((c : ℕ) → IsIn xs c → c < b) → AreDistinct (xs ++ (b ∷ []))
one_last [] b d below = (tt, tt)
one_last (c ∷ xs) b d below = (not_last xs c b d.0 (λ e. let h = below c (inl refl) in omega (arith, h, e)), one_last xs b d.1 (λ a i. below a (inr i)))

pub bases_distinct : (n : ℕ) (ns : Nodes) → AreDistinct (bases_below n ns)
bases_distinct zero ns = tt
bases_distinct (suc n) ns =
    by_bool (λ t. AreDistinct (if t then bases_below n ns ++ (n ∷ []) else bases_below n ns)) (some_act (Rattle.pin_flow.specs.Slots.accesses n) ns)
    (λ e. one_last (bases_below n ns) n (bases_distinct n ns) (λ c i. base_below n ns c i))
    (λ e. bases_distinct n ns)

-- ---- Looks before a loop

-- those that are wanted by their numbers are those that are wanted
module _ (whole : List ℕ) (n : Node) (wanted : ℕ → Bool) (alike : (b i : ℕ) → slot_if whole b ≡ Some i → wanted i ≡ wants b n) where
  looks_rest : (k : ℕ) (bs : List ℕ) → ((j : ℕ) → j < length bs → slot_if whole (get_or bs j 0) ≡ Some (k + j)) → ((j : ℕ) → j < length bs → slot_in whole (get_or bs j 0) ≡ k + j) → (rest : Nodes)
      → looks_from wanted (node_place n) k bs rest ≡ looks_for (slot_in whole) bs n rest
  looks_rest k [] at slot rest = refl
  looks_rest k (b ∷ bs) at slot rest =
      let here : k + 0 ≡ k = omega arith in
      let s : slot_in whole b ≡ k = slot 0 (omega arith) ∙ here in
      let w : wanted k ≡ wants b n = alike b k (at 0 (omega arith) ∙ ap Some here) in
      let r = looks_rest (suc k) bs (λ j h. at (suc j) (omega (arith, h)) ∙ ap Some (omega arith)) (λ j h. slot (suc j) (omega (arith, h)) ∙ omega arith) rest in
      λ i. put (w i) (plain (node_place n) (look (sym s i) b)) (r i)

  pub looks_whole : AreDistinct whole → (rest : Nodes) → looks_from wanted (node_place n) 0 whole rest ≡ looks_for (slot_in whole) whole n rest
  looks_whole d rest = looks_rest 0 whole (λ j h. place_is whole d j h ∙ ap Some (omega arith)) (λ j h. slot_is whole d j h ∙ omega arith) rest

-- with what was seen in the loop
pub looks_seen : (x : Marks) (bases : List ℕ) (looks assigns first second third fourth : List ℕ) (p : ℕ) (body latch : Nodes) → HaveBits x bases
    → ((i : ℕ) → has looks i ≡ (has first i || has second i)) → ((i : ℕ) → has assigns i ≡ (has third i || has fourth i))
    → Tells x first (λ b. some_act (act_looks b) body) → Tells x second (λ b. some_act (act_looks b) latch) → Tells x third (λ b. some_act (act_assigns b) body) → Tells x fourth (λ b. some_act (act_assigns b) latch)
    → (rest : Nodes) → looks_from (λ i. has looks i && not (has assigns i)) p 0 bases rest ≡ looks_for (slot_in bases) bases (loop p body latch) rest
looks_seen x bases looks assigns first second third fourth p body latch bits l a f s t u rest =
    looks_whole bases (loop p body latch) (λ i. has looks i && not (has assigns i))
    (λ b i e.
    let h = bits.bits b ∙ e in
    let c = l i ∙ (λ j. f b i h j || s b i h j) in
    let d = a i ∙ (λ j. t b i h j || u b i h j) in
    λ j. c j && not (d j)) bits.distinct rest

-- one register more
pub looks_step : (wanted : ℕ → Bool) (p i : ℕ) (bases : List ℕ) (b : ℕ) (out new : List CodeNode) (rest all : Nodes) → i < length bases → b ≡ get_or bases i 0
    → ((r : Nodes) → followed new r ≡ followed out (put (wanted i) (plain p (look i b)) r)) → followed out (looks_from wanted p i (drop i bases) rest) ≡ all → followed new (looks_from wanted p (i + 1) (drop (i + 1) bases) rest) ≡ all
looks_step wanted p i bases b out new rest all h e there inv =
    let more : drop i bases ≡ b ∷ drop (i + 1) bases = drop_more bases i 0 h ∙ ap (λ y. y ∷ drop (i + 1) bases) (sym e) in
    let next : suc i ≡ i + 1 = omega arith in
    there (looks_from wanted p (i + 1) (drop (i + 1) bases) rest)
    ∙ ((λ j. followed out (put (wanted i) (plain p (look i b)) (looks_from wanted p (sym next j) (drop (i + 1) bases) rest))) ∙ (ap (λ l. followed out (looks_from wanted p i l rest)) (sym more) ∙ inv))

pub looks_over : (wanted : ℕ → Bool) (p i : ℕ) (bases : List ℕ) (out : List CodeNode) (rest all : Nodes) → length bases ≤ i → followed out (looks_from wanted p i (drop i bases) rest) ≡ all → followed out rest ≡ all
looks_over wanted p i bases out rest all h inv = ap (λ l. followed out (looks_from wanted p i l rest)) (sym (drop_all i bases h)) ∙ inv

-- ---- rows

pub lifted_over : (s : ℕ → ℕ) (bs : List ℕ) (out rest : List CodeNode) (all : Nodes) → length rest ≡ 0 → followed out (lifted_all s bs (nodes_view rest)) ≡ all → nodes_view out ≡ all
lifted_over s bs out [] all e inv = sym (followed_none out) ∙ inv
lifted_over s bs out (n ∷ rest) all e inv = absurd (omega (arith, e))

-- a node that holds no others
pub leaf_lifted : (s : ℕ → ℕ) (bs : List ℕ) (n : Node) → is_leaf n ≡ true → (rest : Nodes) → more_nodes n rest ≡ looks_for s bs n (more_nodes (lifted_all_in s bs n) rest)
leaf_lifted s bs (plain p a) e rest = sym (looks_none s (plain p a) (λ c. refl) bs (more_nodes (plain p a) rest))
leaf_lifted s bs (if_ p x one other) e rest = absurd (let h : false ≡ true = e in cc)
leaf_lifted s bs (loop p body latch) e rest = absurd (let h : false ≡ true = e in cc)
leaf_lifted s bs (break_ p) e rest = sym (looks_none s (break_ p) (λ c. refl) bs (more_nodes (break_ p) rest))
leaf_lifted s bs (next_ p) e rest = sym (looks_none s (next_ p) (λ c. refl) bs (more_nodes (next_ p) rest))
leaf_lifted s bs (ret p x) e rest = sym (looks_none s (ret p x) (λ c. refl) bs (more_nodes (ret p x) rest))

pub if_lifted : (s : ℕ → ℕ) (bs : List ℕ) (p temp : ℕ) (one other first second : Nodes) (n m : Node) → n ≡ if_ p temp one other → m ≡ if_ p temp first second → first ≡ lifted_all s bs one → second ≡ lifted_all s bs other
    → (rest : Nodes) → more_nodes m rest ≡ looks_for s bs n (more_nodes (lifted_all_in s bs n) rest)
if_lifted s bs p temp one other first second n m is e f g rest =
    (λ i. more_nodes ((e ∙ (λ j. if_ p temp (f j) (g j))) i) rest)
    ∙ (sym (looks_none s (if_ p temp one other) (λ c. refl) bs (more_nodes (lifted_all_in s bs (if_ p temp one other)) rest)) ∙ ap (λ y. looks_for s bs y (more_nodes (lifted_all_in s bs y) rest)) (sym is))

pub loop_lifted : (s : ℕ → ℕ) (bs : List ℕ) (p : ℕ) (body latch first second : Nodes) (n m : Node) → n ≡ loop p body latch → m ≡ loop p first second → first ≡ lifted_all s bs body → second ≡ lifted_all s bs latch
    → (rest : Nodes) → looks_for s bs (loop p body latch) (more_nodes m rest) ≡ looks_for s bs n (more_nodes (lifted_all_in s bs n) rest)
loop_lifted s bs p body latch first second n m is e f g rest =
    (λ i. looks_for s bs (loop p body latch) (more_nodes ((e ∙ (λ j. loop p (f j) (g j))) i) rest)) ∙ ap (λ y. looks_for s bs y (more_nodes (lifted_all_in s bs y) rest)) (sym is)

-- ---- where a call made nothing else

pub on_any : {T E P : Type 0} (r : Result T E) → P → OnOk r P
on_any (Ok x) p = p
on_any (Err e) p = tt

-- what is told of a node that holds no others
pub leaf_tells : (x : Marks) (f : ℕ → Act → Bool) (old new : List ℕ) (n : Node) → is_leaf n ≡ true → TellsMore x old new (λ b. act_is (f b) n) → TellsMore x old new (λ b. some_in (f b) n)
leaf_tells x f old new n e t = λ b i s. t b i s ∙ ap (λ y. has old i || y) (sym (some_leaf (f b) n e))
