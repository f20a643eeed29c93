-- Covered code, by the states of its accesses.
use Rattle.std.proofs.Common.{◌≡◌, ◌≢◌, ℕ, ◌≤◌, List, [], ◌∷◌, Some, Bool, true, false, inl, inr, refl, sym, subst, ◌∙◌, arith}
use Rattle.std.proofs.lemmas.Bool.{not-false, and_parts, both_ways}
use Rattle.std.specs.Prelude.{not}
use Rattle.struct_ir.specs.Nodes.{Place, Act, Nodes, places_of}
use Rattle.struct_ir.specs.Flow.{entry}
use Rattle.struct_ir.specs.Structured.{done, then_, structured}
use Rattle.struct_ir.specs.Pins.{Among, Available}
use Rattle.pin_flow.specs.Marks.{answer, AllPaths, unreached, good, bad, state_of, Each, EveryAct}
use Rattle.pin_flow.specs.Looks.{act_looks, Covered, Uses}
use Rattle.pin_flow.specs.Held.{held, fresh, IsDue}
use Rattle.pin_flow.specs.Live.{is_slot}
use Rattle.pin_flow.specs.Slots.{own, all_own, IsOwn}
use Rattle.pin_flow.proofs.Order.{rank}
use Rattle.pin_flow.proofs.Sound.{each_holds}
use Rattle.pin_flow.proofs.Real.{Seen, every_shown, each_seen}
use Rattle.pin_flow.proofs.Switch.{each_weaker, each_always}
use Rattle.pin_flow.proofs.Fresh.{fresh_answer, held_answer, fresh_fair, held_fair}
use Rattle.pin_flow.proofs.Live.{slot_is}

-- an access of the slot and register is all right in the state
abbrev pub Serves : (slot b : ℕ) → Act → AllPaths → Type 0
Serves slot b a t = Uses slot b a → t ≢ bad

pub serves_down : (slot b : ℕ) (a : Act) (t u : AllPaths) → rank t ≤ rank u → Serves slot b a u → Serves slot b a t
serves_down slot b a unreached u le s i = λ e. absurd cc
serves_down slot b a good u le s i = λ e. absurd cc
serves_down slot b a bad unreached le s i = absurd (omega arith)
serves_down slot b a bad good le s i = absurd (omega arith)
serves_down slot b a bad bad le s i = s i

pub some_same : (s r : ℕ) → Some s ≡ Some r → s ≡ r
some_same s r e = cc

pub covered_each : (ns : Nodes) → Covered structured (then_ ns done) → (s c : ℕ) → Each (Serves s c) (fresh s c) ns bad
covered_each ns covered s c =
    each_seen false (fresh s c) (fresh_fair s c) (then_ ns done) (Serves s c)
    (λ p a t k here seen u e.
    let x : Seen false (fresh s c) (fresh_fair s c) (then_ ns done) k bad = subst (λ v. Seen false (fresh s c) (fresh_fair s c) (then_ ns done) k v) e seen in
    let q = covered x.0 k x.1 p a here u.0 u.1 in
    let slots : q.0 ≡ s = some_same q.0 s (sym q.1 ∙ u.3) in
    let available : Available structured (then_ ns done) s c k = subst (λ r. Available structured (then_ ns done) r c k) slots (subst (λ r. Available structured (then_ ns done) q.0 r k) u.2 q.2) in
    let yes = sym (fresh_answer structured s c x.0) ∙ available x.0 x.1 in
    both_ways (answer structured (fresh s c) x.0) x.2 yes)
    ns done bad ([], entry, refl)

pub all_owned : (slot_of : ℕ → ℕ) (list : List Place) (x : Place) → all_own slot_of list ≡ true → Among list x → x.slot ≡ Some (slot_of x.base)
all_owned slot_of [] x e i = absurd i
all_owned slot_of (a ∷ rest) x e (inl h) = let p = and_parts (is_slot (slot_of a.base) a.slot) (all_own slot_of rest) e in
    subst (λ (y : Place). y.slot ≡ Some (slot_of y.base)) (sym h) (slot_is (slot_of a.base) a.slot p.0)
all_owned slot_of (a ∷ rest) x e (inr i) = let p = and_parts (is_slot (slot_of a.base) a.slot) (all_own slot_of rest) e in all_owned slot_of rest x p.1 i

pub not_bad_yes : (v : Bool) → state_of v ≢ bad → v ≡ true
not_bad_yes true h = refl
not_bad_yes false h = absurd (h refl)

-- each act to which a path comes has its own slots
pub act_own : (slot_of : ℕ → ℕ) (ns : Nodes) → IsOwn slot_of ns → (w : List Rattle.struct_ir.specs.Structured.Position) (k : Rattle.struct_ir.specs.Structured.Position)
    → Rattle.struct_ir.specs.Flow.Path structured (then_ ns done) w k → (p : ℕ) (a : Act) → Rattle.struct_ir.specs.Structured.here k ≡ Rattle.struct_ir.specs.Flow.does p a → own slot_of a ≡ true
act_own slot_of ns o w k path p a here =
    let all : Act → AllPaths → Type 0 = λ a t. Unit {0} in
    let Owns : Act → AllPaths → Type 0 = λ a t. own slot_of a ≡ true in
    let owns : Each Owns (held 0) ns bad = each_weaker (held 0) all Owns (λ a. not (own slot_of a)) (λ a t e q. not-false _ e) ns o bad (each_always (held 0) all (λ a t. tt) ns bad) in
    each_holds Owns (held 0) (held_fair 0) (λ a t u le q. q) ns owns w k path p a here

pub each_covered : (slot_of : ℕ → ℕ) (ns : Nodes) → IsOwn slot_of ns → ((c : ℕ) → Each (Serves (slot_of c) c) (fresh (slot_of c) c) ns bad) → Covered structured (then_ ns done)
each_covered slot_of ns o serves w k path p act here x i =
    let s = slot_of x.base in
    let named : x.slot ≡ Some s = all_owned slot_of (places_of act) x ((and_parts _ _ (act_own slot_of ns o w k path p act here)).1) i in (
      s,
      named,
      λ w' path'.
          let yes = each_holds (Serves s x.base) (fresh s x.base) (fresh_fair s x.base) (serves_down s x.base) ns (serves x.base) w' k path' p act here (x, i, refl, named) in
          fresh_answer structured s x.base w' ∙ not_bad_yes _ yes,
    )

pub due_needed : (ns : Nodes) (b : ℕ) → Each (IsDue b) (held b) ns bad → EveryAct (λ act k. act_looks b act ≡ true → (slot : ℕ) → Available structured (then_ ns done) slot b k → ⊥) ns done
due_needed ns b due =
    every_shown false (held b) (held_fair b) (then_ ns done) (IsDue b) (λ act k. act_looks b act ≡ true → (slot : ℕ) → Available structured (then_ ns done) slot b k → ⊥)
    (λ p a t k here seen q looks slot available.
    let x : Seen false (held b) (held_fair b) (then_ ns done) k bad = subst (λ u. Seen false (held b) (held_fair b) (then_ ns done) k u) (q looks) seen in
    let yes = held_answer structured slot b x.0 (sym (fresh_answer structured slot b x.0) ∙ available x.0 x.1) in
    both_ways (answer structured (held b) x.0) x.2 yes)
    ns done bad ([], entry, refl) due
