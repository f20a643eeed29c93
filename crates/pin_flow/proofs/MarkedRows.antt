-- Registers that are marked, as the program marks them.
use Rattle.std.proofs.lemmas.List.{drop_all, length-set, length-replicate}
use Rattle.std.proofs.lemmas.Bool.Decides.{eqb_tells}
use Rattle.std.proofs.Common.{◌≡◌, ◌≢◌, ℕ, zero, suc, ◌+◌, ◌<◌, ◌≤◌, ◌++◌, if◌then◌else◌, length, length-append, drop, get_or, slice_set, replicate, List, [], ◌∷◌, Bool, true, false, ◌==◌, ◌||◌, inl, inr, refl, sym, ap, subst, ◌∙◌, arith}
use Rattle.std.specs.Global.{Vec}
use Rattle.struct_ir.specs.declared.code.Node.{Node as CodeNode}
use Rattle.struct_ir.specs.declared.code.NodeKind.TheViews as views
use Rattle.struct_ir.specs.Nodes.{Nodes}
use Rattle.struct_ir.specs.Views.{node_view, nodes_view}
use Rattle.struct_ir.proofs.Views.{if_is, loop_is}
use Rattle.pin_flow.specs.Looks.{some_act, some_in}
use Rattle.pin_flow.specs.Slots.{accesses, bases_below}
use Rattle.pin_flow.specs.inner.Marked.{is_marked, IsMarked, IsLeft}
use Rattle.pin_flow.proofs.FlowRows.{split_at}

or_false : (x : Bool) → x ≡ (x || false)
or_false true = refl
or_false false = refl

or_true : (x : Bool) → true ≡ (x || true)
or_true true = refl
or_true false = refl

or_assoc : (x y z : Bool) → ((x || y) || z) ≡ (x || (y || z))
or_assoc true y z = refl
or_assoc false y z = refl

unequal : (i b : ℕ) → i ≢ b → (i == b) ≡ false
unequal i b ne = elim (eqb_tells i b) [ inl e ↦ absurd (ne e.1) | inr e ↦ e.0 ]

same_suc : (i b : ℕ) → (i == b) ≡ (suc i == suc b)
same_suc i b = elim (eqb_tells i b) [
  | inl e ↦ elim (eqb_tells (suc i) (suc b)) [ inl f ↦ e.0 ∙ sym f.0 | inr f ↦ absurd (f.1 (ap suc e.1)) ]
  | inr e ↦ elim (eqb_tells (suc i) (suc b)) [ inl f ↦ absurd (e.1 (let h = f.1 in omega (arith, h))) | inr f ↦ e.0 ∙ sym f.0 ]
]

-- a mark more
set_marked : (l : List Bool) (i b : ℕ) → i < length l → is_marked (slice_set l i true) b ≡ (is_marked l b || (i == b))
set_marked [] i b le = absurd (omega (arith, le))
set_marked (x ∷ rest) zero zero le = or_true x
set_marked (x ∷ rest) zero (suc b) le = or_false (is_marked rest b) ∙ ap (λ y. is_marked rest b || y) (sym (unequal zero (suc b) (λ e. absurd (omega (arith, e)))))
set_marked (x ∷ rest) (suc i) zero le = or_false x ∙ ap (λ y. x || y) (sym (unequal (suc i) zero (λ e. absurd (omega (arith, e)))))
set_marked (x ∷ rest) (suc i) (suc b) le = set_marked rest i b (omega (arith, le)) ∙ ap (λ y. is_marked rest b || y) (same_suc i b)

-- as the program reads them
pub marked_read : (l : List Bool) (b : ℕ) (d : Bool) → b < length l → get_or l b d ≡ is_marked l b
marked_read [] b d le = absurd (omega (arith, le))
marked_read (x ∷ rest) zero d le = refl
marked_read (x ∷ rest) (suc b) d le = marked_read rest b d (omega (arith, le))

pub set_is : (l : List Bool) (i : ℕ) → i < length l → IsMarked l (slice_set l i true) (λ b. i == b)
set_is l i le = record { long = length-set l i true; each = λ b h. set_marked l i b le }

pub past_is : (l : List Bool) (i : ℕ) → length l ≤ i → IsMarked l l (λ b. i == b)
past_is l i le = record { long = refl; each = λ b h. or_false (is_marked l b) ∙ ap (λ x. is_marked l b || x) (sym (unequal i b (λ e. absurd (omega (arith, le, h, e))))) }

pub none_is : (l : List Bool) (f : ℕ → Bool) → ((b : ℕ) → f b ≡ false) → IsMarked l l f
none_is l f e = record { long = refl; each = λ b h. or_false (is_marked l b) ∙ ap (λ x. is_marked l b || x) (sym (e b)) }

pub both_are : (old now new : List Bool) (f g h : ℕ → Bool) → IsMarked old now f → IsMarked now new g → ((b : ℕ) → h b ≡ (f b || g b)) → IsMarked old new h
both_are old now new f g h m n e = record {
  long = n.long ∙ m.long;
  each = λ b le. n.each b (subst (λ k. b < k) (sym m.long) le) ∙ (ap (λ x. x || g b) (m.each b le) ∙ (or_assoc (is_marked old b) (f b) (g b) ∙ ap (λ x. is_marked old b || x) (sym (e b))));
}

-- ---- one after the other

pub left_start : (old : List Bool) (f : ℕ → Bool) → IsLeft old old f f
left_start old f = record { long = refl; each = λ b h. refl }

pub left_more : (old now new : List Bool) (rest rest' f g : ℕ → Bool) → IsLeft old now rest f → IsMarked now new g → ((b : ℕ) → rest b ≡ (g b || rest' b)) → IsLeft old new rest' f
left_more old now new rest rest' f g l m e = record {
  long = m.long ∙ l.long;
  each = λ b le. ap (λ x. x || rest' b) (m.each b (subst (λ k. b < k) (sym l.long) le)) ∙ (or_assoc (is_marked now b) (g b) (rest' b) ∙ (ap (λ x. is_marked now b || x) (sym (e b)) ∙ l.each b le));
}

pub left_end : (old now : List Bool) (rest f : ℕ → Bool) → IsLeft old now rest f → ((b : ℕ) → rest b ≡ false) → IsMarked old now f
left_end old now rest f l e = record { long = l.long; each = λ b le. or_false (is_marked now b) ∙ (ap (λ x. is_marked now b || x) (sym (e b)) ∙ l.each b le) }

-- a row, by its first node and the rest
pub row_split : (rows : List CodeNode) (i : ℕ) (x : CodeNode) → i < length rows → x ≡ get_or rows i x → (b : ℕ)
    → some_act (accesses b) (nodes_view (drop i rows)) ≡ (some_in (accesses b) (node_view x) || some_act (accesses b) (nodes_view (drop (i + 1) rows)))
row_split rows i x le is b = ap (λ l. some_act (accesses b) (nodes_view l)) (split_at rows i x le is)

pub row_none : (rows : List CodeNode) (i : ℕ) → length rows ≤ i → (b : ℕ) → some_act (accesses b) (nodes_view (drop i rows)) ≡ false
row_none rows i le b = ap (λ l. some_act (accesses b) (nodes_view l)) (drop_all i rows le)

pub if_some : (n : CodeNode) (temp : ℕ) (v w : Vec CodeNode) → n.kind ≡ views.If temp v w → (b : ℕ) → some_in (accesses b) (node_view n) ≡ (some_act (accesses b) (nodes_view v.items) || some_act (accesses b) (nodes_view w.items))
if_some n temp v w is b = ap (some_in (accesses b)) (if_is n temp v w is)

pub loop_some : (n : CodeNode) (v w : Vec CodeNode) → n.kind ≡ views.Loop v w → (b : ℕ) → some_in (accesses b) (node_view n) ≡ (some_act (accesses b) (nodes_view v.items) || some_act (accesses b) (nodes_view w.items))
loop_some n v w is b = ap (some_in (accesses b)) (loop_is n v w is)

-- ---- the bases, by the marks

pub base_in : (ns : Nodes) (b : ℕ) (old new : List ℕ) → some_act (accesses b) ns ≡ true → old ≡ bases_below b ns → new ≡ old ++ (b ∷ []) → new ≡ bases_below (b + 1) ns
base_in ns b old new e f g =
    let k : suc b ≡ b + 1 = omega arith in
    let more : new ≡ bases_below (suc b) ns = g ∙ (ap (λ l. l ++ (b ∷ [])) f ∙ ap (λ x. if x then bases_below b ns ++ (b ∷ []) else bases_below b ns) (sym e)) in
    more ∙ ap (λ n. bases_below n ns) k

pub base_out : (ns : Nodes) (b : ℕ) (old new : List ℕ) → some_act (accesses b) ns ≡ false → old ≡ bases_below b ns → new ≡ old → new ≡ bases_below (b + 1) ns
base_out ns b old new e f g =
    let k : suc b ≡ b + 1 = omega arith in
    let same : new ≡ bases_below (suc b) ns = g ∙ (f ∙ ap (λ x. if x then bases_below b ns ++ (b ∷ []) else bases_below b ns) (sym e)) in
    same ∙ ap (λ n. bases_below n ns) k

few_more : (old new : List ℕ) (b : ℕ) → new ≡ old ++ (b ∷ []) → length old ≤ b → length new ≤ b + 1
few_more old new b e le = omega (arith, ap length e, length-append old (b ∷ []), le)

few_same : (old new : List ℕ) (b : ℕ) → new ≡ old → length old ≤ b → length new ≤ b + 1
few_same old new b e le = omega (arith, ap length e, le)

-- those so far, and that there are no more than registers
pub record Those (ns : Nodes) (b : ℕ) (bases : List ℕ) : Type 0 where
  pub those : bases ≡ bases_below b ns
  pub few : length bases ≤ b

pub those_in : (ns : Nodes) (b : ℕ) (old new : List ℕ) → some_act (accesses b) ns ≡ true → old ≡ bases_below b ns → length old ≤ b → new ≡ old ++ (b ∷ []) → Those ns (b + 1) new
those_in ns b old new e f le g = record { those = base_in ns b old new e f g; few = few_more old new b g le }

pub those_out : (ns : Nodes) (b : ℕ) (old new : List ℕ) → some_act (accesses b) ns ≡ false → old ≡ bases_below b ns → length old ≤ b → new ≡ old → Those ns (b + 1) new
those_out ns b old new e f le g = record { those = base_out ns b old new e f g; few = few_same old new b g le }

-- ---- from none marked

unmarked : (n b : ℕ) → is_marked (replicate n false) b ≡ false
unmarked zero b = refl
unmarked (suc n) zero = refl
unmarked (suc n) (suc b) = unmarked n b

pub seen_is : (old new : List Bool) (n : ℕ) (f : ℕ → Bool) → old ≡ replicate n false → IsMarked old new f → (b : ℕ) → b < n → is_marked new b ≡ f b
seen_is old new n f e m b h =
    m.each b (subst (λ k. b < k) (sym (ap length e ∙ length-replicate n false)) h) ∙ ap (λ x. x || f b) (ap (λ l. is_marked l b) e ∙ unmarked n b)

-- what is read at the number of a register
pub read_is : (seen : List Bool) (n b : ℕ) (x : Bool) (f : ℕ → Bool) → length seen ≡ n → ((c : ℕ) → c < n → is_marked seen c ≡ f c) → b < n → x ≡ get_or seen b x → f b ≡ x
read_is seen n b x f e each h r = sym (each b h) ∙ (sym (marked_read seen b x (subst (λ k. b < k) (sym e) h)) ∙ sym r)
