-- What follows a value does the same on both sides, use by use.
use Rattle.std.specs.Ordering.{int_eq}
use Rattle.std.proofs.Common.{◌≡◌, ◌≢◌, ℕ, zero, suc, ◌<◌, ◌^◌, ◌*ℤ◌, ℤ, pos, Bool, true, false, not, if◌then◌else◌, List, [], ◌∷◌, Option, Some, None, Result, Ok, Err, refl, sym, ap, subst, ◌∙◌, arith}
use Rattle.ak_words.specs.declared.int_type.IntType.{IntType}
use Rattle.ak_words.specs.declared.number.Num.{Num}
use Rattle.ak_words.specs.declared.operation.Op.{Op}
use Rattle.ak_words.specs.declared.operation.Op.TheVariants as ops
use Rattle.ak_words.specs.declared.rule.Rule.{Rule}
use Rattle.ak_words.specs.IntType.{int, unsigned_long, promoted_type}
use Rattle.ak_words.specs.Num.{num}
use Rattle.ak_words.specs.Op.{result_of, truth as one_if}
use Rattle.block_store.specs.declared.values.Access.{Access}
use Rattle.block_store.specs.declared.values.Access.TheVariants as accesses
use Rattle.block_store.specs.declared.values.Ptr.{Ptr}
use Rattle.block_store.specs.declared.values.Value.{Value}
use Rattle.block_store.specs.declared.values.Value.TheVariants as values
use Rattle.block_store.specs.Actions as actions
use Rattle.block_store.specs.Actions.{World, acted}
use Rattle.block_store.specs.Blocks.{Blocks}
use Rattle.block_store.specs.Pointers.{moved, indexed, tested}
use Rattle.block_store.specs.Runs as runs
use Rattle.block_store.specs.Runs.{Turn}
use Rattle.c_tree.specs.Typed as tree
use Rattle.c_meaning.specs.Values as meant
use Rattle.c_meaning.specs.Values.{Binary, of_two, truth_of, opposite, int_of, int_result, selected, pointer_of, access_of_type}
use Rattle.c_meaning.specs.Control.{Variable, Control, wanted}
use Rattle.c_meaning.specs.Turns.{WayOfUse, on_ok, stays, after_call, second_way, only_way, read_way, second_test_way}
use Rattle.struct_ir.specs.Nodes as ir
use Rattle.struct_ir.specs.Nodes.{Nodes, no_nodes, Place}
use Rattle.struct_ir.specs.Structured.{Position, then_}
use Rattle.struct_ir.specs.meaning.Blocks.{Held, value, number, pointer, truth, Fault, Own, set_at, known, on_value, on_number, on_pointer, or_broken, calculated, same_type, takes, if_taken}
use Rattle.struct_ir.specs.meaning.Threads.{address_of, action_of, action_with, set_if, moved_if}
use Rattle.struct_ir.specs.meaning.Threads as served
use Rattle.lower_forms.specs.Forms as forms
use Rattle.lower_forms.specs.Forms.{sets, sets_int, sets_truth, Reach, found, direct, indexed as by_index, reached, behind, member_reach, member_nodes, converts_number, compares_to_zero, negation}
use Rattle.lower_forms.specs.Programs.{lowered}
use Rattle.lower_turns.proofs.Relation.{HasKind, Below, Reaches, Points, BinaryFits, forwards, forwards_from, calc_of, Joined, not_joined, joined, ConvertFits, to_number, from_atomic, to_pointer, Calls, at_second, at_convert, at_not, at_test, at_member, at_read, at_second_test, Together, both_went, same, at_gives}
use Rattle.lower_turns.proofs.Registers.{set_here, set_there, below_less, below_set}
use Rattle.lower_turns.proofs.Values.{taken_is, binary_is, binary_kind, int_kind, moved_further, member_moved, unmoved, not_moved, times_one, long_is, own_number, one_int}
use Rattle.lower_turns.proofs.Compared.{zero_is, promoted_is, equal_is, not_not}
use Rattle.lower_turns.proofs.Operands.{one_type}
use Rattle.lower_turns.proofs.Steps.{no_more, then_same, set_then, set_result, branch, acts_alike}
use Rattle.lower_turns.proofs.Setting.{Setting, here, now, own, Alike, GoesE, points_found, later}
use Rattle.lower_turns.proofs.Actions.{GivesKind, if_went, load_so}

-- ---- where an access goes

moved_on : (place offset : ℕ) (x y : Result Ptr Fault) → x ≡ y → served.on_ok x (moved_if place offset) ≡ served.on_ok y (moved_if place offset)
moved_on place offset x y e = ap (λ (z : Result Ptr Fault). served.on_ok z (moved_if place offset)) e

-- the place that is reached so leads to the pointer
pub address_reached : (place : ℕ) (l : Own) (rch : Reach) (u : ℕ) (p : Ptr) → Reaches l.temps rch u p → address_of place l (reached rch u) ≡ Ok p
address_reached place l found u p h = ap (λ (x : Held). on_value (known place x) (on_pointer (λ a. served.on_ok (Ok a) (moved_if place 0)))) h
address_reached place l (direct base offset) u p h =
    ap (λ (x : Held). on_value (known place x) (on_pointer (λ a. served.on_ok (Ok a) (moved_if place offset)))) h.holds ∙ h.moved place
address_reached place l (by_index base scale offset) u p h =
    ap (λ (x : Held). on_value (known place x) (on_pointer (λ a. served.on_ok (served.indexed_if place l (Some (suc u)) scale a) (moved_if place offset)))) h.holds
    ∙ moved_on place offset _ _ (ap (λ (x : Held). on_value (known place x) (on_number (λ n. served.further place (n.value *ℤ pos scale) h.start))) h.by ∙ h.further place)
    ∙ h.moved place

-- a step at one place that reads no register, and one that reads one
pub one_place : (place : ℕ) (l : Own) (a : ir.Action) (at : Place) (to : Option ℕ) (p : Ptr) → address_of place l at ≡ Ok p
    → action_of place l (record { action = a; places = at ∷ []; to = to; temps = []; slots = [] }) ≡ action_with a (p ∷ []) []
one_place place l a at to p e =
    ap (λ (x : Result Ptr Fault). served.on_ok (served.on_ok x (λ y. served.on_ok (Ok []) (λ ys. Ok (y ∷ ys)))) (λ places. served.on_ok (Ok []) (action_with a places))) e

-- ---- points

-- a pointer that was moved from the left operand
joined_points : (a b : ℕ → Held) (u : ℕ) (blocks : Blocks) {op : Binary} {lh rh how : Access} {rch : Reach} {left : Value} (v w : Value) → Joined a u op left rch → BinaryFits op lh rh how → HasKind rh v
    → Below (suc u) a b → b (suc u) ≡ value v → of_two blocks op left v ≡ Ok w → Points (set_at b u (value w)) rch u w
joined_points a b u blocks v w (not_joined op left) fits kind below is e = points_found (set_at b u (value w)) u w (set_here b u (value w))
joined_points a b u blocks (values.Pointer o) w (joined base size p lt holds) (forwards _ s) kind below is e = elim kind [ ]
joined_points a b u blocks (values.Num i) w (joined base size p lt holds) (forwards_from _ s) kind below is e = elim kind [ ]
joined_points a b u blocks (values.Pointer o) w (joined base size p lt holds) (forwards_from _ s) kind below is e = absurd cc
joined_points a b u blocks (values.Num i) w (joined base size p lt holds) (forwards _ s) kind below is e = by_result (indexed blocks p i.value size) refl e
  where
    by_result : (res : Result Ptr Rule) → indexed blocks p i.value size ≡ res → pointer_of res ≡ Ok w → Points (set_at b u (value w)) (by_index base size 0) u w
    by_result (Err rule) eq d = absurd cc
    by_result (Ok q) eq d =
        let is_w : values.Pointer q ≡ w = cc in
        let ne : base ≢ u = λ x. absurd (omega (arith, lt, x)) in
        let ne' : suc u ≢ u = λ x. absurd (omega (arith, x)) in
        subst (λ (z : Value). Points (set_at b u (value z)) (by_index base size 0) u z) is_w (record {
          below = lt;
          start = p;
          index = i;
          element = q;
          holds = set_there b u (pointer q) base ne ∙ below base (omega (arith, lt)) ∙ holds;
          by = set_there b u (pointer q) (suc u) ne' ∙ is;
          further = moved_further blocks p (i.value *ℤ pos size) q eq;
          moved = not_moved q;
        })

-- a member of what was reached
member_points : (a : ℕ → Held) (u offset : ℕ) (blocks : Blocks) (rch : Reach) (p q : Ptr) (h : Held) → Reaches a rch u p → moved blocks p (pos offset) ≡ Ok q
    → Reaches (set_at (set_at a (behind rch u) h) u (pointer q)) (member_reach offset rch) u q
member_points a u offset blocks found p q h is e = set_here (set_at a (suc u) h) u (pointer q)
member_points a u offset blocks (direct base (suc o)) p q h is e = set_here (set_at a (suc u) h) u (pointer q)
member_points a u offset blocks (by_index base scale (suc o)) p q h is e = set_here (set_at a (suc (suc u)) h) u (pointer q)
member_points a u offset blocks (direct base zero) p q h is e =
    let ne : base ≢ u = λ x. absurd (omega (arith, is.below, x)) in
    let ne' : base ≢ suc u = λ x. absurd (omega (arith, is.below, x)) in
    record {
      below = is.below;
      start = is.start;
      holds = set_there (set_at a (suc u) h) u (pointer q) base ne ∙ set_there a (suc u) h base ne' ∙ is.holds;
      moved = member_moved blocks is.start offset q (ap (λ (x : Ptr). moved blocks x (pos offset)) (unmoved is.start p is.moved) ∙ e);
    }
member_points a u offset blocks (by_index base scale zero) p q h is e =
    let ne : base ≢ u = λ x. absurd (omega (arith, is.below, x)) in
    let ne' : base ≢ suc (suc u) = λ x. absurd (omega (arith, is.below, x)) in
    let far : suc u ≢ u = λ x. absurd (omega (arith, x)) in
    let far' : suc u ≢ suc (suc u) = λ x. absurd (omega (arith, x)) in
    record {
      below = is.below;
      start = is.start;
      index = is.index;
      element = is.element;
      holds = set_there (set_at a (suc (suc u)) h) u (pointer q) base ne ∙ set_there a (suc (suc u)) h base ne' ∙ is.holds;
      by = set_there (set_at a (suc (suc u)) h) u (pointer q) (suc u) far ∙ set_there a (suc (suc u)) h (suc u) far' ∙ is.by;
      further = is.further;
      moved = member_moved blocks is.element offset q (ap (λ (x : Ptr). moved blocks x (pos offset)) (unmoved is.element p is.moved) ∙ e);
    }

pub above_behind : (rch : Reach) (u : ℕ) → u < behind rch u
above_behind found u = omega arith
above_behind (direct base offset) u = omega arith
above_behind (by_index base scale offset) u = omega arith

-- ---- pieces

not_form : (place : ℕ) (go : Value → Turn Control) (res : Result Bool Rule) → on_ok place go (int_result (opposite res)) ≡ on_ok place (λ c. go (int_of (not c))) res
not_form place go (Ok c) = refl
not_form place go (Err rule) = refl

test_is : (p : ir.Ir) (place u : ℕ) (l : Own) (q : Ptr) → l.temps u ≡ pointer q → calculated p place l (ir.pointer_test u) ≡ or_broken place value (int_result (tested l.blocks q))
test_is p place u l q e = ap (λ (x : Held). on_value (known place x) (on_pointer (λ (y : Ptr). or_broken place truth (tested l.blocks y)))) e ∙ held (tested l.blocks q)
  where
    held : (r : Result Bool Rule) → or_broken place truth r ≡ or_broken place value (int_result r)
    held (Ok c) = refl
    held (Err rule) = refl

select_is : (p : ir.Ir) (place u w offset : ℕ) (l : Own) (q : Ptr) → offset < 2 ^ 64 → l.temps u ≡ pointer q → l.temps w ≡ number (num unsigned_long (pos offset))
    → calculated p place l (ir.pointer_add u w 1) ≡ or_broken place value (selected l.blocks offset (values.Pointer q))
select_is p place u w offset l q small e d =
    ap (λ (x : Held). on_value (known place x) (on_pointer (λ (a : Ptr). on_value (known place (l.temps w)) (on_number (λ (i : Num). or_broken place pointer (indexed l.blocks a i.value 1)))))) e
    ∙ ap (λ (x : Held). on_value (known place x) (on_number (λ (i : Num). or_broken place pointer (indexed l.blocks q i.value 1)))) d
    ∙ ap (λ (z : ℤ). or_broken place pointer (moved l.blocks q z)) (times_one (num unsigned_long (pos offset)).value ∙ long_is offset small)
    ∙ held (moved l.blocks q (pos offset))
  where
    held : (r : Result Ptr Rule) → or_broken place pointer r ≡ or_broken place value (pointer_of r)
    held (Ok c) = refl
    held (Err rule) = refl

module _ (g : Setting) (vs : List Variable) (ob : ℕ → Option ℕ) (b : Blocks) where
  abbrev program_code : ir.Ir
  program_code = lowered g.t

  -- a value comes to the register, and what follows it goes on
  pub gets : (tm tm' : ℕ → Held) (w : WayOfUse) (u : ℕ) (how : Access) (rch : Reach) (r : Nodes) (q : Position) → GoesE g vs ob b tm w u how rch r q → Below u tm tm' → (v : Value) → HasKind how v
      → Points (set_at tm' u (value v)) rch u v → Alike g (w.go v (now g vs b)) (then_ r q) (own g ob (set_at tm' u (value v)) b)
  gets tm tm' w u how rch r q goes below v kind points = goes.go v (set_at tm' u (value v)) kind (below_set u u tm tm' (value v) (omega arith) below) (set_here tm' u (value v)) points

  set_int_points : (tm : ℕ → Held) (u z : ℕ) → Points (set_at tm u (number (num int (pos z)))) found u (values.Num (num int (pos z)))
  set_int_points tm u z = tt

  -- an int comes to it at the end of a row
  pub gets_int : (tm tm' : ℕ → Held) (w : WayOfUse) (u : ℕ) (r : Nodes) (q : Position) → GoesE g vs ob b tm w u (accesses.Number int) found r q → Below u tm tm' → (place z : ℕ)
      → Alike g (w.go (values.Num (num int (pos z))) (now g vs b)) (then_ (sets_int place u z no_nodes) (then_ r q)) (own g ob tm' b)
  gets_int tm tm' w u r q goes below place z =
      set_then program_code g.thread g.answer g.cs' g.s g.t _ place u (ir.constant int (pos z)) no_nodes (then_ r q) (own g ob tm' b) (number (num int (pos z))) refl
      (then_same program_code g.thread g.answer g.cs' g.s g.t _ _ _ _ _ (no_more program_code g.thread g.answer g.cs' g.s (then_ r q) (own g ob (set_at tm' u (number (num int (pos z)))) b))
      (gets tm tm' w u (accesses.Number int) found r q goes below (values.Num (num int (pos z))) refl (set_int_points tm' u z)))

  module _ (tm : ℕ → Held) (w : WayOfUse) (u : ℕ) (r : Nodes) (q : Position) where
    -- both operands are there
    pub second_goes : (how : Access) (rch : Reach) → GoesE g vs ob b tm w u how rch r q → (place : ℕ) (op : Binary) (left : Value) (lh rh : Access) (rrch : Reach) → BinaryFits op lh rh how → HasKind lh left
        → tm u ≡ value left → Joined tm u op left rch → GoesE g vs ob b tm (second_way place op left w) (suc u) rh rrch (sets place u (calc_of op lh u (suc u)) r) q
    second_goes how rch goes place op left lh rh rrch fits lkind lis j = record {
      at = at_second place op left lh rh rrch fits lkind lis j goes.at;
      above = omega (arith, goes.above);
      agrees = goes.agrees;
      go = λ v a kind below is points.
          set_result program_code g.thread g.answer g.cs' g.s g.t (λ x. w.go x (now g vs b)) place u (calc_of op lh u (suc u)) r q (own g ob a b) (of_two b op left v)
          (binary_is program_code place (own g ob a b) u (suc u) left v fits lkind kind (below u (omega arith) ∙ lis) is)
          (λ x e. gets tm a w u how rch r q goes (below_less (suc u) u tm a (omega arith) below) x (binary_kind b left v x fits lkind kind e) (joined_points tm a u b v x j fits kind below is e));
    }

    -- the value of a condition decides which number comes to the register
    pub truth_goes : GoesE g vs ob b tm w u (accesses.Number int) found r q → (place : ℕ) (lh : Access) (rch : Reach) → GoesE g vs ob b tm (second_test_way place w) u lh rch (sets_truth place u 1 0 r) q
    truth_goes goes place lh rch = record {
      at = at_second_test place lh rch goes.at;
      above = goes.above;
      agrees = goes.agrees;
      go = λ v a kind below is points.
          branch program_code g.thread g.answer g.cs' g.s g.t (λ c. w.go (int_of c) (now g vs b)) place u (sets_int place u 1 no_nodes) (sets_int place u 0 no_nodes) r q (own g ob a b) v is
          (gets_int tm a w u r q goes below place 1) (gets_int tm a w u r q goes below place 0);
    }

    convert_is : (place : ℕ) (s : IntType) (a : ℕ → Held) (n : Num) → a u ≡ number n → calculated program_code place (own g ob a b) (ir.convert s u) ≡ Ok (number (num s n.value))
    convert_is place s a n e = ap (λ (x : Held). on_value (known place x) (on_number (λ (m : Num). Ok (number (num s m.value))))) e

    -- what the comparison of a number to 0 gives comes to the register
    compared_alike : (x : Turn Control) (place : ℕ) (op : Op) (s : IntType) (n c : Num) → n.ty ≡ s → ((m o : Num) → m.value ≡ n.value → o.value ≡ pos 0 → result_of op m o ≡ Ok c)
        → (a : ℕ → Held) → Below u tm a → a u ≡ number n → ((d : ℕ → Held) → Below u tm d → Alike g x (then_ r q) (own g ob (set_at d u (number c)) b))
        → Alike g x (then_ (compares_to_zero place op s u r) q) (own g ob a b)
    compared_alike x place op s n c kind result a below is leads = by_type (same_type s (promoted_type s)) refl
      where
        apply_is : (d : ℕ → Held) (m : Num) → m.ty ≡ promoted_type s → m.value ≡ n.value → d u ≡ number m → d (suc u) ≡ number (num (promoted_type s) (pos 0))
            → calculated program_code place (own g ob d b) (ir.apply op (promoted_type s) u (suc u)) ≡ Ok (number c)
        apply_is d m type_is eq there behind_is =
            let t : IntType = promoted_type s in
            ap (λ (h : Held). on_value (known place h) (on_number (λ (z : Num). on_value (known place (d (suc u))) (on_number (λ (o : Num). if_taken (takes op t z.ty o.ty) (or_broken place number (result_of op z o))))))) there
            ∙ ap (λ (h : Held). on_value (known place h) (on_number (λ (o : Num). if_taken (takes op t m.ty o.ty) (or_broken place number (result_of op m o))))) behind_is
            ∙ taken_is (takes op t m.ty t) (or_broken place number (result_of op m (num t (pos 0)))) (subst (λ (z : IntType). takes op t z t ≡ true) (sym type_is) (one_type op t t refl))
            ∙ ap (or_broken place number) (result m (num t (pos 0)) eq (zero_is t))

        once_promoted : (d : ℕ → Held) (m : Num) → Below u tm d → m.ty ≡ promoted_type s → m.value ≡ n.value → d u ≡ number m
            → Alike g x (then_ (sets place (suc u) (ir.constant (promoted_type s) (pos 0)) (sets place u (ir.apply op (promoted_type s) u (suc u)) r)) q) (own g ob d b)
        once_promoted d m under type_is eq there =
            let t : IntType = promoted_type s in
            let ne : u ≢ suc u = λ y. absurd (omega (arith, y)) in
            let d' : ℕ → Held = set_at d (suc u) (number (num t (pos 0))) in
            set_then program_code g.thread g.answer g.cs' g.s g.t x place (suc u) (ir.constant t (pos 0)) (sets place u (ir.apply op t u (suc u)) r) q (own g ob d b) (number (num t (pos 0))) refl
            (set_then program_code g.thread g.answer g.cs' g.s g.t x place u (ir.apply op t u (suc u)) r q (own g ob d' b) (number c)
            (apply_is d' m type_is eq (set_there d (suc u) (number (num t (pos 0))) u ne ∙ there) (set_here d (suc u) (number (num t (pos 0)))))
            (leads d' (below_set u (suc u) tm d (number (num t (pos 0))) (omega arith) under)))

        by_type : (one : Bool) → same_type s (promoted_type s) ≡ one
            → Alike g x (then_ (if one then (sets place (suc u) (ir.constant (promoted_type s) (pos 0)) (sets place u (ir.apply op (promoted_type s) u (suc u)) r)) else sets place u (ir.convert (promoted_type s) u) (sets place (suc u) (ir.constant (promoted_type s) (pos 0)) (sets place u (ir.apply op (promoted_type s) u (suc u)) r))) q) (own g ob a b)
        by_type true e = once_promoted a n below (kind ∙ one_int s (promoted_type s) e) refl is
        by_type false e =
            let m : Num = num (promoted_type s) n.value in
            set_then program_code g.thread g.answer g.cs' g.s g.t x place u (ir.convert (promoted_type s) u) (sets place (suc u) (ir.constant (promoted_type s) (pos 0)) (sets place u (ir.apply op (promoted_type s) u (suc u)) r)) q (own g ob a b) (number m) (convert_is place (promoted_type s) a n is)
            (once_promoted (set_at a u (number m)) m (below_set u u tm a (number m) (omega arith) below) refl (promoted_is n s kind) (set_here a u (number m)))

    number_negated : GoesE g vs ob b tm w u (accesses.Number int) found r q → (place : ℕ) (s : IntType) (v : Value) (a : ℕ → Held) → HasKind (accesses.Number s) v → Below u tm a → a u ≡ value v
        → Alike g ((only_way place meant.negates w).go v (now g vs b)) (then_ (compares_to_zero place ops.Eq s u r) q) (own g ob a b)
    number_negated goes place s (values.Pointer p) a kind below is = elim kind [ ]
    number_negated goes place s (values.Num n) a kind below is =
        let test : Bool = int_eq n.value (pos 0) in
        subst (λ c. Alike g (w.go (int_of c) (now g vs b)) (then_ (compares_to_zero place ops.Eq s u r) q) (own g ob a b)) (sym (not_not test))
        (compared_alike (w.go (int_of test) (now g vs b)) place ops.Eq s n (num int (one_if test)) kind
        (λ m o e d. equal_is m o ∙ ap (λ (y : ℤ). Ok (num int (one_if (int_eq y o.value)))) e ∙ ap (λ (y : ℤ). Ok (num int (one_if (int_eq n.value y)))) d) a below is
        (λ d under. gets tm d w u (accesses.Number int) found r q goes under (int_of test) refl tt))

    truth_negated : GoesE g vs ob b tm w u (accesses.Number int) found r q → (place : ℕ) (v : Value) (a : ℕ → Held) → Below u tm a → a u ≡ value v
        → Alike g ((only_way place meant.negates w).go v (now g vs b)) (then_ (sets_truth place u 0 1 r) q) (own g ob a b)
    truth_negated goes place v a below is =
        subst (λ (x : Turn Control). Alike g x (then_ (sets_truth place u 0 1 r) q) (own g ob a b)) (sym (not_form place (λ x. w.go x (now g vs b)) (truth_of b v)))
        (branch program_code g.thread g.answer g.cs' g.s g.t (λ c. w.go (int_of (not c)) (now g vs b)) place u (sets_int place u 0 no_nodes) (sets_int place u 1 no_nodes) r q (own g ob a b) v is
        (gets_int tm a w u r q goes below place 0) (gets_int tm a w u r q goes below place 1))

    negated : GoesE g vs ob b tm w u (accesses.Number int) found r q → (place : ℕ) (ty : tree.Ty) (v : Value) (a : ℕ → Held) → HasKind (access_of_type ty) v → Below u tm a → a u ≡ value v
        → Alike g ((only_way place meant.negates w).go v (now g vs b)) (then_ (negation place ty u r) q) (own g ob a b)
    negated goes place (tree.integer s) v a kind below is = number_negated goes place s v a kind below is
    negated goes place tree.void v a kind below is = truth_negated goes place v a below is
    negated goes place (tree.atomic s) v a kind below is = truth_negated goes place v a below is
    negated goes place tree.mutex v a kind below is = truth_negated goes place v a below is
    negated goes place (tree.pointer t) v a kind below is = truth_negated goes place v a below is
    negated goes place (tree.array t m) v a kind below is = truth_negated goes place v a below is
    negated goes place (tree.structure m) v a kind below is = truth_negated goes place v a below is

    pub not_goes : GoesE g vs ob b tm w u (accesses.Number int) found r q → (place : ℕ) (ty : tree.Ty) (rch : Reach)
        → GoesE g vs ob b tm (only_way place meant.negates w) u (access_of_type ty) rch (negation place ty u r) q
    not_goes goes place ty rch = record {
      at = at_not place ty rch goes.at;
      above = goes.above;
      agrees = goes.agrees;
      go = λ v a kind below is points. negated goes place ty v a kind below is;
    }

    pub test_goes : GoesE g vs ob b tm w u (accesses.Number int) found r q → (place : ℕ) (rch : Reach) → GoesE g vs ob b tm (only_way place meant.tests w) u accesses.Pointer rch (sets place u (ir.pointer_test u) r) q
    test_goes goes place rch = record {
      at = at_test place rch goes.at;
      above = goes.above;
      agrees = goes.agrees;
      go = go;
    }
      where
        go : (v : Value) (a : ℕ → Held) → HasKind accesses.Pointer v → Below u tm a → a u ≡ value v → Points a rch u v
            → Alike g ((only_way place meant.tests w).go v (now g vs b)) (then_ (sets place u (ir.pointer_test u) r) q) (own g ob a b)
        go (values.Num n) a kind below is points = elim kind [ ]
        go (values.Pointer p) a kind below is points =
            set_result program_code g.thread g.answer g.cs' g.s g.t (λ x. w.go x (now g vs b)) place u (ir.pointer_test u) r q (own g ob a b) (int_result (tested b p)) (test_is program_code place u (own g ob a b) p is)
            (λ x e. gets tm a w u (accesses.Number int) found r q goes below x (int_kind (tested b p) x e) (points_found (set_at a u (value x)) u x (set_here a u (value x))))

    pub member_goes : (place offset : ℕ) (rch : Reach) → offset < 2 ^ 64 → GoesE g vs ob b tm w u accesses.Pointer (member_reach offset rch) r q
        → GoesE g vs ob b tm (only_way place (meant.selects offset) w) u accesses.Pointer rch (member_nodes place offset (behind rch u) u r) q
    member_goes place offset rch small goes = record {
      at = at_member place offset rch small goes.at;
      above = goes.above;
      agrees = goes.agrees;
      go = go;
    }
      where
        go : (v : Value) (a : ℕ → Held) → HasKind accesses.Pointer v → Below u tm a → a u ≡ value v → Points a rch u v
            → Alike g ((only_way place (meant.selects offset) w).go v (now g vs b)) (then_ (member_nodes place offset (behind rch u) u r) q) (own g ob a b)
        go (values.Num n) a kind below is points = elim kind [ ]
        go (values.Pointer p) a kind below is points =
            let h : Held = number (num unsigned_long (pos offset)) in
            let c : ℕ → Held = set_at a (behind rch u) h in
            let ne : u ≢ behind rch u = λ x. absurd (omega (arith, above_behind rch u, x)) in
            set_then program_code g.thread g.answer g.cs' g.s g.t _ place (behind rch u) (ir.constant unsigned_long (pos offset)) (sets place u (ir.pointer_add u (behind rch u) 1) r) q (own g ob a b) h refl
            (set_result program_code g.thread g.answer g.cs' g.s g.t (λ x. w.go x (now g vs b)) place u (ir.pointer_add u (behind rch u) 1) r q (own g ob c b) (selected b offset (values.Pointer p))
            (select_is program_code place u (behind rch u) offset (own g ob c b) p small (set_there a (behind rch u) h u ne ∙ is) (set_here a (behind rch u) h))
            (λ x e. by_result (moved b p (pos offset)) refl x e))
          where
            h' : Held
            h' = number (num unsigned_long (pos offset))

            by_result : (res : Result Ptr Rule) → moved b p (pos offset) ≡ res → (x : Value) → pointer_of res ≡ Ok x
                → Alike g (w.go x (now g vs b)) (then_ r q) (own g ob (set_at (set_at a (behind rch u) (number (num unsigned_long (pos offset)))) u (value x)) b)
            by_result (Err rule) eq x d = absurd cc
            by_result (Ok o) eq x d =
                let is_x : values.Pointer o ≡ x = cc in
                subst (λ (z : Value). Alike g (w.go z (now g vs b)) (then_ r q) (own g ob (set_at (set_at a (behind rch u) (number (num unsigned_long (pos offset)))) u (value z)) b)) is_x
                (gets tm (set_at a (behind rch u) (number (num unsigned_long (pos offset)))) w u accesses.Pointer (member_reach offset rch) r q goes
                (below_set u (behind rch u) tm a (number (num unsigned_long (pos offset))) (omega (arith, above_behind rch u)) below)
                (values.Pointer o) tt (member_points a u offset b rch p o (number (num unsigned_long (pos offset))) points eq))

    number_converted : (place : ℕ) (x y : IntType) (rch : Reach) → GoesE g vs ob b tm w u (accesses.Number y) rch r q → (v : Value) (a : ℕ → Held) → HasKind (accesses.Number x) v → Below u tm a → a u ≡ value v → Points a rch u v
        → Alike g ((only_way place (meant.converts (tree.integer y)) w).go v (now g vs b)) (then_ (converts_number place x y u r) q) (own g ob a b)
    number_converted place x y rch goes (values.Pointer p) a kind below is points = elim kind [ ]
    number_converted place x y rch goes (values.Num n) a kind below is points = by_type (same_type x y) refl
      where
        by_type : (one : Bool) → same_type x y ≡ one
            → Alike g ((only_way place (meant.converts (tree.integer y)) w).go (values.Num n) (now g vs b)) (then_ (if one then r else sets place u (ir.convert y u) r) q) (own g ob a b)
        by_type true e =
            goes.go (values.Num (num y n.value)) a refl below (is ∙ ap number (own_number n y (kind ∙ one_int x y e))) tt
        by_type false e =
            set_then program_code g.thread g.answer g.cs' g.s g.t _ place u (ir.convert y u) r q (own g ob a b) (number (num y n.value)) (convert_is place y a n is)
            (gets tm a w u (accesses.Number y) rch r q goes below (values.Num (num y n.value)) refl tt)

    pub convert_goes : (place : ℕ) (from to : tree.Ty) (rch : Reach) → ConvertFits from to → GoesE g vs ob b tm w u (access_of_type to) rch r q
        → GoesE g vs ob b tm (only_way place (meant.converts to) w) u (access_of_type from) rch (forms.converts place from to u r) q
    convert_goes place _ _ rch (to_pointer x y) goes = record {
      at = at_convert place (tree.pointer x) (tree.pointer y) (to_pointer x y) goes.at;
      above = goes.above;
      agrees = goes.agrees;
      go = goes.go;
    }
    convert_goes place _ _ rch (to_number x y) goes = record {
      at = at_convert place (tree.integer x) (tree.integer y) (to_number x y) goes.at;
      above = goes.above;
      agrees = goes.agrees;
      go = number_converted place x y rch goes;
    }
    convert_goes place _ _ rch (from_atomic x) goes = record {
      at = at_convert place (tree.atomic x) (tree.integer x) (from_atomic x) goes.at;
      above = goes.above;
      agrees = goes.agrees;
      go = number_converted place x x rch goes;
    }

    -- an object is read
    module _ (busy : Calls g.t) where
      pub read_goes : (how : Access) → GoesE g vs ob b tm w u how found r q → (place : ℕ) (atomic : Bool) (rch : Reach)
          → GoesE g vs ob b tm (read_way (here g) place how atomic w) u accesses.Pointer rch (forms.acts place (ir.load how) (reached rch u ∷ []) (Some u) [] r) q
      read_goes how goes place atomic rch = record {
        at = at_read place how atomic rch goes.at;
        above = goes.above;
        agrees = goes.agrees;
        go = go;
      }
        where
          went_on : (a : ℕ → Held) → Below u tm a → (p : Ptr) (v : Option Value) (next : World) → acted (actions.with_blocks g.s b) g.thread g.answer (actions.load p how) ≡ actions.went v next
              → Together g.t (stays (here g) vs (after_call (wanted place w.k) v) next) (runs.went (record { top = record { at = then_ r q; own = own g ob (set_if a (Some u) v) b }; callers = g.cs' }) next)
          went_on a below p None next e = elim ((if_went g.t (GivesKind how) _ None next (load_so g.t (actions.with_blocks g.s b) g.begun g.thread g.answer p how) e).0) [ ]
          went_on a below p (Some v) next e =
              let h = if_went g.t (GivesKind how) _ (Some v) next (load_so g.t (actions.with_blocks g.s b) g.begun g.thread g.answer p how) e in
              let c : ℕ → Held = set_at a u (value v) in
              let under : Below u tm c = below_set u u tm a (value v) (omega arith) below in
              let goes' = later g vs ob b tm w u how c found r q under goes in
              both_went next h.1 (same g.call goes'.agrees (at_gives v h.0 (set_here a u (value v)) goes.above busy goes'.at) g.callers)

          go : (v : Value) (a : ℕ → Held) → HasKind accesses.Pointer v → Below u tm a → a u ≡ value v → Points a rch u v
              → Alike g ((read_way (here g) place how atomic w).go v (now g vs b)) (then_ (forms.acts place (ir.load how) (reached rch u ∷ []) (Some u) [] r) q) (own g ob a b)
          go (values.Num n) a kind below is points = elim kind [ ]
          go (values.Pointer p) a kind below is points =
              acts_alike program_code g.thread g.answer g.cs' g.s g.t _ _ place (record { action = ir.load how; places = reached rch u ∷ []; to = Some u; temps = []; slots = [] }) r q (own g ob a b) (actions.load p how)
              (one_place place (own g ob a b) (ir.load how) (reached rch u) (Some u) p (address_reached place (own g ob a b) rch u p points)) (went_on a below p)
