-- The report is the answer.
use Rattle.std.proofs.Common.{◌≡◌, ℕ, ◌≤◌, List, [], ◌∷◌, Option, Some, None, Bool, true, false, inl, inr, refl, sym, ap, subst, ◌∙◌, arith}
use Rattle.std.specs.List.{AllByRecursion, list_all}
use Rattle.std.specs.Prelude.{nat_lt, ◌&&◌, ◌==◌}
use Rattle.std.proofs.lemmas.Bool.{and_parts, and_from, eqb-true, eq-eqb}
use Rattle.struct_ir.specs.Nodes.{Place, Act, Node, plain, if_, loop, break_, next_, ret, Nodes, no_nodes, more_nodes, Func, Ir, places_of, node_place}
use Rattle.struct_ir.specs.Flow.{does, Path}
use Rattle.struct_ir.specs.Structured.{Position, done, then_, here, structured}
use Rattle.struct_ir.specs.Pins.{Fact, unlooked, looked, facts, lacks_if, held_by, Among, IsPlaced, PinSafe}
use Rattle.struct_ir.specs.Valid.{Scope, Around, body_of, latch_of, outside, scope_of, list_at, last_list, is_node, are_nodes, node_is_placed, are_placed}
use Rattle.struct_ir.specs.Safe.{IsPinSafe}
use Rattle.pin_flow.proofs.Strip.{by_bool}
use Rattle.pin_checker.specs.declared.fault.Why.{Why}
use Rattle.pin_checker.specs.declared.fault.Why.TheVariants.{BadTemp, NoLook, StaleLook, NotPinned}
use Rattle.pin_checker.specs.declared.fault.Fault.{Fault}
use Rattle.pin_checker.specs.Safe.{IsSafe}
use Rattle.pin_checker.specs.Faults.{is_alone, is_guarded, is_sound, Invalid, InvalidIn, fails, fails_through, Unsafe, FailsAmong, Fails, rank, NoLater, IsFirst}
use Rattle.pin_checker.specs.Answers.{IsRefused}
use Rattle.pin_checker.specs.inner.Reports.{first_fault}
use Rattle.pin_checker.proofs.Order.{AtMost, no_later_self, same_rank}
use Rattle.pin_checker.proofs.Sound.{funcs_least}
use Rattle.pin_checker.proofs.Shown.{IsShown, AreShown, blamed, funcs_shown}

-- ---- the report is the first fault

same_place : (p : ℕ) (u v : Why) → NoLater p u p v → rank u ≤ rank v
same_place p u v (inl h) = absurd (omega (arith, h))
same_place p u v (inr i) = i.1

first_is : (p : Ir) (f : Fault) → first_fault p ≡ Some f → IsFirst p f.place f.why
first_is p f e =
    let least = (funcs_least (Some f) p p.funcs None (subst (λ r. AtMost (Some f) r) (sym e) (no_later_self f.place f.why))).1 in
    let shown : AreShown (Fails p) (first_fault p) = funcs_shown (Fails p) p p.funcs (λ place why i. i) None tt in
    let x : IsShown (Fails p) f.place f.why = subst (λ r. AreShown (Fails p) r) e shown in
    let lower : rank x.0 ≤ rank f.why = x.1 in
    let higher : rank f.why ≤ rank x.0 = same_place f.place f.why x.0 (least f.place x.0 x.2) in
    let same : x.0 ≡ f.why = same_rank x.0 f.why (omega arith) in
    record { fails = subst (λ v. Fails p f.place v) same x.2; first = least }

none_fails : (p : Ir) → first_fault p ≡ None → (place : ℕ) (why : Why) → Fails p place why → ⊥
none_fails p e = (funcs_least None p p.funcs None (subst (λ r. AtMost None r) (sym e) tt)).1

-- ---- code without faults is safe

true_if : (v : Bool) → (v ≡ false → ⊥) → v ≡ true
true_if true h = refl
true_if false h = absurd (h refl)

mutual
  valid_if : (x : Scope) (around : Around) (before : Option (List ℕ)) (ns : Nodes) → ((place : ℕ) → Invalid x around before ns place → ⊥) → (are_nodes x around ns ≡ true) × (are_placed before ns ≡ true)
  valid_if x around before no_nodes h = (refl, refl)
  valid_if x around before (more_nodes n rest) h =
      let y = and_parts (is_alone x around n) (is_guarded before n rest) (true_if _ (λ e. h (node_place n) (inl (refl, e)))) in
      let m = node_valid_if x around before n rest y.0 y.1 (λ place i. h place (inr (inl i))) in
      let r = valid_if x around (list_at n) rest (λ place i. h place (inr (inr i))) in
      (and_from _ _ m.0 r.0, and_from _ _ m.1 r.1)

  node_valid_if : (x : Scope) (around : Around) (before : Option (List ℕ)) (n : Node) (rest : Nodes) → is_alone x around n ≡ true → is_guarded before n rest ≡ true → ((place : ℕ) → InvalidIn x around n place → ⊥)
      → (is_node x around n ≡ true) × (node_is_placed before n rest ≡ true)
  node_valid_if x around before (plain p a) rest e g h = (e, g)
  node_valid_if x around before (if_ p y one other) rest e g h =
      let a = valid_if x around None one (λ place i. h place (inl i)) in
      let b = valid_if x around None other (λ place i. h place (inr i)) in
      (and_from _ _ e (and_from _ _ a.0 b.0), and_from _ _ a.1 b.1)
  node_valid_if x around before (loop p body latch) rest e g h =
      let a = valid_if x body_of None body (λ place i. h place (inl i)) in
      let b = valid_if x latch_of None latch (λ place i. h place (inr i)) in
      (and_from _ _ a.0 b.0, and_from _ _ a.1 (and_from _ _ b.1 g))
  node_valid_if x around before (break_ p) rest e g h = (e, refl)
  node_valid_if x around before (next_ p) rest e g h = (e, refl)
  node_valid_if x around before (ret p y) rest e g h = (e, refl)

-- an access that fails for no reason is pinned
flags : (base : ℕ) (out : Bool) (f : Fact) → ((why : Why) → fails base out f why ≡ true → ⊥) → (f ≡ looked base false false) × (out ≡ false)
flags base out unlooked h = absurd (h NoLook refl)
flags base out (looked b true lacked) h = absurd (by_bool (λ x. ⊥) (b == base) (λ g. h StaleLook (rw g refl)) (λ g. h BadTemp (rw g refl)))
flags base out (looked b false true) h = absurd (h NotPinned refl)
flags base true (looked b false false) h = absurd (h NotPinned refl)
flags base false (looked b false false) h = by_bool (λ x. (looked b false false ≡ looked base false false) × (false ≡ false)) (b == base)
    (λ g. (ap (λ x. looked x false false) (eqb-true b base g), refl)) (λ g. absurd (h BadTemp (rw g refl)))

placed_if : (ns : Nodes) → ((place : ℕ) (why : Why) → Unsafe ns place why → ⊥) → (w : List Position) (k : Position) → Path structured (then_ ns done) w k → (place : ℕ) (act : Act) → here k ≡ does place act
    → (a : Place) → Among (places_of act) a → (o : Option ℕ) → a.slot ≡ o → IsPlaced structured w act a
placed_if ns safe w k path place act h a among None named =
    absurd (safe place NoLook (record { way = w; at = k; path = path; act = act; here = h; access = a; among = among; fails = subst (λ o. fails_through structured w act a.base o NoLook ≡ true) (sym named) refl }))
placed_if ns safe w k path place act h a among (Some slot) named =
    let x = flags a.base (lacks_if slot (held_by act)) (facts structured slot w) (λ why e. safe place why (blamed ns w k path place act h slot a.base (a, among, refl, named) why e)) in
    record { slot = slot; named = named; looked_for = x.0; held = x.1 }

pin_safe_if : (ns : Nodes) → ((place : ℕ) (why : Why) → Unsafe ns place why → ⊥) → PinSafe structured (then_ ns done)
pin_safe_if ns safe = record { each = λ w k path place act h a among. placed_if ns safe w k path place act h a among a.slot refl }

record AllSafe (p : Ir) (fs : List Func) : Type 0 where
  valid : list_all (λ f. are_nodes (scope_of p f) outside f.nodes) fs ≡ true
  placed : list_all (λ f. are_placed None f.nodes) fs ≡ true
  pinned : AllByRecursion IsPinSafe fs

all_safe_if : (p : Ir) (fs : List Func) → ((place : ℕ) (why : Why) → FailsAmong p fs place why → ⊥) → AllSafe p fs
all_safe_if p [] h = record { valid = refl; placed = refl; pinned = tt }
all_safe_if p (f ∷ rest) h =
    let v = valid_if (scope_of p f) outside None f.nodes (λ place i. h place BadTemp (inl (inl (refl, i)))) in
    let r = all_safe_if p rest (λ place why i. h place why (inr i)) in
    record {
      valid = and_from _ _ v.0 r.valid;
      placed = and_from _ _ v.1 r.placed;
      pinned = (pin_safe_if f.nodes (λ place why u. h place why (inl (inr u))), r.pinned);
    }

-- ---- safe code has no fault

alone_of : (x : Scope) (around : Around) (n : Node) → is_node x around n ≡ true → is_alone x around n ≡ true
alone_of x around (plain p a) e = e
alone_of x around (if_ p y one other) e = (and_parts (nat_lt y x.temps) (are_nodes x around one && are_nodes x around other) e).0
alone_of x around (loop p body latch) e = refl
alone_of x around (break_ p) e = e
alone_of x around (next_ p) e = e
alone_of x around (ret p y) e = e

guarded_of : (before : Option (List ℕ)) (n : Node) (rest : Nodes) → node_is_placed before n rest ≡ true → is_guarded before n rest ≡ true
guarded_of before (plain p a) rest e = e
guarded_of before (if_ p y one other) rest e = refl
guarded_of before (loop p body latch) rest e =
    let y = and_parts (are_placed None body) (are_placed None latch && Rattle.std.specs.Prelude.is_some (last_list None latch)) e in
    (and_parts (are_placed None latch) (Rattle.std.specs.Prelude.is_some (last_list None latch)) y.1).1
guarded_of before (break_ p) rest e = refl
guarded_of before (next_ p) rest e = refl
guarded_of before (ret p y) rest e = refl

mutual
  valid_not : (x : Scope) (around : Around) (before : Option (List ℕ)) (ns : Nodes) → are_nodes x around ns ≡ true → are_placed before ns ≡ true → (place : ℕ) → Invalid x around before ns place → ⊥
  valid_not x around before no_nodes e g place i = i
  valid_not x around before (more_nodes n rest) e g place i =
      let y = and_parts (is_node x around n) (are_nodes x around rest) e in
      let z = and_parts (node_is_placed before n rest) (are_placed (list_at n) rest) g in
      elim i [
        | inl j ↦ (let s : is_sound x around before n rest ≡ true = and_from _ _ (alone_of x around n y.0) (guarded_of before n rest z.0) in let f : is_sound x around before n rest ≡ false = j.1 in let b : true ≡ false = sym s ∙ f in cc)
        | inr (inl j) ↦ node_not x around before n rest y.0 z.0 place j
        | inr (inr j) ↦ valid_not x around (list_at n) rest y.1 z.1 place j
      ]

  node_not : (x : Scope) (around : Around) (before : Option (List ℕ)) (n : Node) (rest : Nodes) → is_node x around n ≡ true → node_is_placed before n rest ≡ true → (place : ℕ) → InvalidIn x around n place → ⊥
  node_not x around before (plain p a) rest e g place i = i
  node_not x around before (if_ p y one other) rest e g place i =
      let a = and_parts (are_nodes x around one) (are_nodes x around other) (and_parts (nat_lt y x.temps) (are_nodes x around one && are_nodes x around other) e).1 in
      let b = and_parts (are_placed None one) (are_placed None other) g in
      elim i [ inl j ↦ valid_not x around None one a.0 b.0 place j | inr j ↦ valid_not x around None other a.1 b.1 place j ]
  node_not x around before (loop p body latch) rest e g place i =
      let a = and_parts (are_nodes x body_of body) (are_nodes x latch_of latch) e in
      let b = and_parts (are_placed None body) (are_placed None latch && Rattle.std.specs.Prelude.is_some (last_list None latch)) g in
      let d = and_parts (are_placed None latch) (Rattle.std.specs.Prelude.is_some (last_list None latch)) b.1 in
      elim i [ inl j ↦ valid_not x body_of None body a.0 b.0 place j | inr j ↦ valid_not x latch_of None latch a.1 d.0 place j ]
  node_not x around before (break_ p) rest e g place i = i
  node_not x around before (next_ p) rest e g place i = i
  node_not x around before (ret p y) rest e g place i = i

no_reason : (base : ℕ) (why : Why) → fails base false (looked base false false) why ≡ true → ⊥
no_reason base BadTemp e = (let g : (base == base) ≡ true = eq-eqb base base refl in let x = rw g at e in cc)
no_reason base NoLook e = cc
no_reason base StaleLook e = (let x = (and_parts (base == base) false e).1 in cc)
no_reason base NotPinned e = cc

pinned_not : (ns : Nodes) → PinSafe structured (then_ ns done) → (place : ℕ) (why : Why) → Unsafe ns place why → ⊥
pinned_not ns s place why u =
    let x : IsPlaced structured u.way u.act u.access = s.each u.way u.at u.path place u.act u.here u.access u.among in
    let f : fails u.access.base (lacks_if x.slot (held_by u.act)) (facts structured x.slot u.way) why ≡ true = subst (λ o. fails_through structured u.way u.act u.access.base o why ≡ true) x.named u.fails in
    let g : fails u.access.base false (facts structured x.slot u.way) why ≡ true = subst (λ out. fails u.access.base out (facts structured x.slot u.way) why ≡ true) x.held f in
    no_reason u.access.base why (subst (λ y. fails u.access.base false y why ≡ true) x.looked_for g)

safe_not : (p : Ir) (fs : List Func) → AllSafe p fs → (place : ℕ) (why : Why) → FailsAmong p fs place why → ⊥
safe_not p [] s place why i = i
safe_not p (f ∷ rest) s place why i =
    let v = and_parts (are_nodes (scope_of p f) outside f.nodes) (list_all (λ g. are_nodes (scope_of p g) outside g.nodes) rest) s.valid in
    let g = and_parts (are_placed None f.nodes) (list_all (λ h. are_placed None h.nodes) rest) s.placed in
    elim i [
      | inl (inl j) ↦ valid_not (scope_of p f) outside None f.nodes v.0 g.0 place j.1
      | inl (inr u) ↦ pinned_not f.nodes s.pinned.0 place why u
      | inr j ↦ safe_not p rest (record { valid = v.1; placed = g.1; pinned = s.pinned.1 }) place why j
    ]

-- ---- the answers

pub accepted_is : (p : Ir) → first_fault p ≡ None → IsSafe p
accepted_is p e = let s = all_safe_if p p.funcs (none_fails p e) in record { valid = s.valid; placed = s.placed; pinned = s.pinned }

pub refused_is : (p : Ir) (f : Fault) → first_fault p ≡ Some f → IsRefused p f.place f.why
refused_is p f e =
    let x = first_is p f e in
    record { first = x; not_safe = λ s. safe_not p p.funcs (record { valid = s.valid; placed = s.placed; pinned = s.pinned }) f.place f.why x.fails }
