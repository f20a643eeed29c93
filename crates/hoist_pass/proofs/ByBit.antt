-- What is so of each bit is so of each register.
use Rattle.std.proofs.Common.{◌≡◌, ℕ, List, Option, Some, None, Bool, true, false, ◌==◌, ◌||◌, inl, inr, refl, sym, ap, ◌∙◌}
use Rattle.std.proofs.lemmas.Bool.{eq-eqb, ne_eqb, cases_eq}
use Rattle.std.specs.Prelude.{not}
use Rattle.struct_ir.specs.Nodes.{Node, plain, if_, loop, break_, next_, ret, Nodes}
use Rattle.pin_flow.specs.declared.mark.Mark.TheVariants as kinds
use Rattle.pin_flow.specs.Marks.{AllPaths, unreached, join, after, Ways, at, either, in_turn, head_of, flow}
use Rattle.pin_flow.specs.Held.{held}
use Rattle.pin_flow.specs.Views.{act_is}
use Rattle.pin_flow.specs.Looks.{some_in}
use Rattle.pin_flow.proofs.Order.{flow_idle}
use Rattle.pin_flow.proofs.FlowRows as flows
use Rattle.mark_sets.specs.declared.marks.Marks.{Marks}
use Rattle.mark_sets.specs.Sets.{Sets, bads, state_at, AllWays, ways_at}
use Rattle.mark_sets.specs.Words.{has}
use Rattle.mark_sets.specs.Views.{with_bad}
use Rattle.mark_sets.specs.Added.{IsAdded}
use Rattle.mark_sets.proofs.Bits.{changed_state}
use Rattle.mark_sets.proofs.Rounds.{head_is}
use Rattle.hoist_pass.specs.inner.Sets.{bit, state_by, ways_by, TellsMore, is_leaf}

-- ---- states

pub join_by : (r s t : Sets ℕ) → ((i : ℕ) → state_at i r ≡ join (state_at i s) (state_at i t)) → (o : Option ℕ) → state_by o r ≡ join (state_by o s) (state_by o t)
join_by r s t h None = refl
join_by r s t h (Some i) = h i

pub on_by : (r : AllWays ℕ) (t : Sets ℕ) → ((i : ℕ) → ways_at i r ≡ at (state_at i t)) → (o : Option ℕ) → ways_by o r ≡ at (state_by o t)
on_by r t h None = refl
on_by r t h (Some i) = h i

pub either_by : (r a b : AllWays ℕ) → ((i : ℕ) → ways_at i r ≡ either (ways_at i a) (ways_at i b)) → (o : Option ℕ) → ways_by o r ≡ either (ways_by o a) (ways_by o b)
either_by r a b h None = refl
either_by r a b h (Some i) = h i

pub turn_by : (r a b : AllWays ℕ) → ((i : ℕ) → ways_at i r ≡ in_turn (ways_at i a) (ways_at i b)) → (o : Option ℕ) → ways_by o r ≡ in_turn (ways_by o a) (ways_by o b)
turn_by r a b h None = refl
turn_by r a b h (Some i) = h i

pub goes_by : (r a : AllWays ℕ) (f : AllPaths → Ways) → f unreached ≡ at unreached → ((i : ℕ) → ways_at i r ≡ in_turn (ways_at i a) (f (state_at i a.on))) → (o : Option ℕ) → ways_by o r ≡ in_turn (ways_by o a) (f (state_by o a.on))
goes_by r a f e h None = sym (ap (in_turn (at unreached)) e)
goes_by r a f e h (Some i) = h i

-- behind an act
pub changed_by : (f : Bool → Bool) (old new : List ℕ) (o : Option ℕ) → ((i : ℕ) → o ≡ Some i → has new i ≡ not (f (not (has old i)))) → state_by o (bads (has new)) ≡ after f (state_by o (bads (has old)))
changed_by f old new None h = refl
changed_by f old new (Some i) h = changed_state f (has old i) (has new i) (h i refl)

-- where rounds start
pub head_by : (x : Marks) (words : List ℕ) (body latch : Nodes) (r t : Sets ℕ) → IsAdded x words body latch → ((i : ℕ) → state_at i r ≡ with_bad (has words i) (state_at i t))
    → (b : ℕ) (o : Option ℕ) → bit x b ≡ o → state_by o r ≡ head_of (flow (held b) body) (flow (held b) latch) (state_by o t)
head_by x words body latch r t a h b None e =
    head_is (flow (held b) body) (flow (held b) latch) (flow_idle (held b) body) (flow_idle (held b) latch) _ unreached refl
head_by x words body latch r t a h b (Some i) e =
    h i ∙ head_is (flow (held b) body) (flow (held b) latch) (flow_idle (held b) body) (flow_idle (held b) latch) (has words i) (state_at i t) (a (kinds.Held b) i e)

-- ---- nodes that hold no others

-- the same word for it
pub flow_leaf : (n : Node) → is_leaf n ≡ true → flows.is_leaf n ≡ true
flow_leaf (plain p a) e = refl
flow_leaf (if_ p x one other) e = e
flow_leaf (loop p body latch) e = e
flow_leaf (break_ p) e = refl
flow_leaf (next_ p) e = refl
flow_leaf (ret p x) e = refl

pub some_leaf : (f : _) (n : Node) → is_leaf n ≡ true → some_in f n ≡ act_is f n
some_leaf f (plain p a) e = refl
some_leaf f (if_ p x one other) e = absurd (let h : false ≡ true = e in cc)
some_leaf f (loop p body latch) e = absurd (let h : false ≡ true = e in cc)
some_leaf f (break_ p) e = refl
some_leaf f (next_ p) e = refl
some_leaf f (ret p x) e = refl

-- ---- what sets tell

pub eq_comm : (a b : ℕ) → (a == b) ≡ (b == a)
eq_comm a b = elim (cases_eq a b) [
  | inl h ↦ eq-eqb a b h ∙ sym (eq-eqb b a (sym h))
  | inr h ↦ ne_eqb a b h ∙ sym (ne_eqb b a (λ g. h (sym g)))
]

or_none : (y : Bool) → (y || false) ≡ y
or_none true = refl
or_none false = refl

-- nothing more
pub tells_none : (x : Marks) (old : List ℕ) (f : ℕ → Bool) → ((b : ℕ) → f b ≡ false) → TellsMore x old old f
tells_none x old f e = λ b i h. sym (ap (λ y. has old i || y) (e b) ∙ or_none (has old i))

or_turned : (y o : Bool) → (y || o) ≡ (o || y)
or_turned true true = refl
or_turned true false = refl
or_turned false true = refl
or_turned false false = refl

-- what an act tells
pub told_set : (now y o z : Bool) → now ≡ (y || o) → z ≡ y → now ≡ (o || z)
told_set now y o z e h = e ∙ (or_turned y o ∙ ap (λ w. o || w) (sym h))

pub told_look : (b c : ℕ) (now o z : Bool) → now ≡ ((b == c) || o) → z ≡ (c == b) → now ≡ (o || z)
told_look b c now o z e h = told_set now (b == c) o z e (h ∙ eq_comm c b)
