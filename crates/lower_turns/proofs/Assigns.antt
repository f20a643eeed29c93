-- A value goes to a local or to an object.
use Rattle.lower_turns.proofs.Operands.{computed_taken}
use Rattle.std.proofs.Common.{◌≡◌, Bool, ◌≢◌, ℕ, suc, ◌<◌, ◌^◌, ◌⊎◌, inl, inr, ℤ, pos, true, false, List, [], ◌∷◌, set, Option, Some, None, Result, Ok, Err, refl, sym, ap, subst, ◌∙◌, arith, if◌then◌else◌, unsigned_abs}
use Rattle.std.specs.Prelude.{slice_get}
use Rattle.ak_words.specs.declared.int_type.IntType.{IntType}
use Rattle.ak_words.specs.declared.number.Num.{Num}
use Rattle.ak_words.specs.declared.operation.Op.{Op}
use Rattle.ak_words.specs.declared.operation.Op.TheVariants as ops
use Rattle.ak_words.specs.declared.rule.Rule.{Rule}
use Rattle.ak_words.specs.declared.rule.Rule.TheVariants.{C4}
use Rattle.ak_words.specs.IntType.{unsigned_long}
use Rattle.ak_words.specs.Num.{num}
use Rattle.ak_words.specs.Op.{result_of}
use Rattle.block_store.specs.declared.values.Access.{Access}
use Rattle.block_store.specs.declared.values.Access.TheVariants as accesses
use Rattle.block_store.specs.declared.values.Ptr.{Ptr}
use Rattle.block_store.specs.declared.values.Ptr.TheVariants.{To}
use Rattle.block_store.specs.declared.values.Value.{Value}
use Rattle.block_store.specs.declared.values.Value.TheVariants as values
use Rattle.block_store.specs.Actions as actions
use Rattle.block_store.specs.Actions.{World, acted}
use Rattle.block_store.specs.Blocks.{Blocks}
use Rattle.block_store.specs.Runs as runs
use Rattle.block_store.specs.Runs.{Turn}
use Rattle.c_tree.specs.Typed as tree
use Rattle.c_tree.specs.TypedForm.{Jumps, IsScalar, CanUpdate, is_comparison}
use Rattle.c_tree.specs.TypedLayout.{size_in, align_in}
use Rattle.c_meaning.specs.Values.{access_of_type, element_size, forward, backward, of_two, operand_types, computed, converted_result, value_of, updated}
use Rattle.c_meaning.specs.Control as source
use Rattle.c_meaning.specs.Control.{Variable, Control}
use Rattle.c_meaning.specs.Turns.{Way, on_ok, stays, local_way, nowhere_way, place_way, struct_right_way, update_read_way, update_local_way, updates_variable, update_of, acts}
use Rattle.struct_ir.specs.Nodes as ir
use Rattle.struct_ir.specs.Nodes.{Nodes, Step, more_nodes, plain}
use Rattle.struct_ir.specs.Structured.{Position, then_}
use Rattle.struct_ir.specs.meaning.Blocks.{Held, value, number, pointer, broken, Own, set_at, known, on_value, on_number, or_broken, calculated, start_of, same_type, takes, if_taken}
use Rattle.struct_ir.specs.meaning.Threads.{action_of, set_if}
use Rattle.lower_forms.specs.Forms as forms
use Rattle.lower_forms.specs.Forms.{home, sets, Reach, found, reached, behind, at_temp, moves, converts_number, number_update, computes, sized_copy}
use Rattle.lower_forms.specs.Programs.{lowered}
use Rattle.lower_turns.proofs.Relation.{HasKind, Below, Reaches, Points, InRegister, no_value, one_value, held_in, forwards, backwards, at_local, at_nowhere, at_place, at_block, at_struct_right, at_update_read, at_update_local, Together, both_went, both_broke, same, at_begins}
use Rattle.lower_turns.proofs.Registers.{set_here, set_there, below_same, below_less, below_then, below_set, reaches_below}
use Rattle.lower_turns.proofs.Values.{binary_is, binary_kind, result_kept, own_number, one_int, long_is, taken_is}
use Rattle.lower_turns.proofs.Steps.{set_then, set_result, set_breaks, acts_alike}
use Rattle.lower_turns.proofs.Setting.{Stands, Setting, here, now, own, Alike, frame, start, start_is, agrees_on, GoesE, GoesS, points_found}
use Rattle.lower_turns.proofs.Actions.{GivesNone, if_went, store_so, copy_so, IfWent}
use Rattle.lower_turns.proofs.Uses.{address_reached, above_behind}
use Rattle.lower_turns.proofs.Library.{action_is, one_more_place, one_more_read, at_register}
use Rattle.lower_turns.proofs.LibraryCalls.{store_fits}
use Rattle.lower_turns.proofs.Objects.{agrees_value, agrees_unused}

-- ---- a op b

-- other registers than these stay
abbrev pub But : (x y to : ℕ) → (a b : ℕ → Held) → Type 0
But x y to a b = (i : ℕ) → i ≢ x → i ≢ y → i ≢ to → b i ≡ a i

module _ (g : Setting) (ob : ℕ → Option ℕ) (b : Blocks) (go : Value → Turn Control) (place : ℕ) (x y to : ℕ) (apart : x ≢ y) (r : Nodes) (q : Position) (tm : ℕ → Held) where
  abbrev program_code : ir.Ir
  program_code = lowered g.t

  -- what a result leads to
  abbrev Leads : Access → Type 0
  Leads how = (v : Value) → HasKind how v → (a : ℕ → Held) → But x y to tm a → a to ≡ value v → Alike g (go v) (then_ r q) (own g ob a b)

  converts_to : (a : ℕ → Held) (k : ℕ) (s : IntType) (n : Num) → a k ≡ number n → calculated program_code place (own g ob a b) (ir.convert s k) ≡ Ok (number (num s n.value))
  converts_to a k s n e = ap (λ (h : Held). on_value (known place h) (on_number (λ (m : Num). Ok (number (num s m.value))))) e

  -- a number of a type goes on as one of another, whether it is converted or is of that type already
  becomes_alike : (out : Turn Control) (k : ℕ) (from s : IntType) (n : Num) (rest : Nodes) (a : ℕ → Held) → n.ty ≡ from → a k ≡ number n
      → ((c : ℕ → Held) → ((i : ℕ) → i ≢ k → c i ≡ a i) → c k ≡ number (num s n.value) → Alike g out (then_ rest q) (own g ob c b))
      → Alike g out (then_ (converts_number place from s k rest) q) (own g ob a b)
  becomes_alike out k from s n rest a of e leads = by_type (same_type from s) refl
    where
      by_type : (same : Bool) → same_type from s ≡ same → Alike g out (then_ (if same then rest else sets place k (ir.convert s k) rest) q) (own g ob a b)
      by_type true is = leads a (λ i ne. refl) (e ∙ ap number (own_number n s (of ∙ one_int from s is)))
      by_type false is =
          let h : Held = number (num s n.value) in
          set_then program_code g.thread g.answer g.cs' g.s g.t out place k (ir.convert s k) rest q (own g ob a b) h (converts_to a k s n e)
          (leads (set_at a k h) (λ i ne. set_there a k h i ne) (set_here a k h))

  -- the result of an operation on numbers, of the type t0, comes to its register as one of the left side's type
  applied : (res : Result Num Rule) (s t0 : IntType) (op : Op) (a : ℕ → Held) → But x y to tm a → ((m : Num) → res ≡ Ok m → m.ty ≡ t0)
      → calculated program_code place (own g ob a b) (ir.apply op t0 x y) ≡ or_broken place number res → Leads (accesses.Number s)
      → Alike g (on_ok place go (converted_result (tree.integer s) (value_of res))) (then_ (sets place to (ir.apply op t0 x y) (converts_number place t0 s to r)) q) (own g ob a b)
  applied (Ok m) s t0 op a but of e leads =
      set_then program_code g.thread g.answer g.cs' g.s g.t (go (values.Num (num s m.value))) place to (ir.apply op t0 x y) (converts_number place t0 s to r) q (own g ob a b) (number m) e
      (becomes_alike (go (values.Num (num s m.value))) to t0 s m r (set_at a to (number m)) (of m refl) (set_here a to (number m))
      (λ c keep is. leads (values.Num (num s m.value)) refl c (λ i nx ny nt. keep i nt ∙ set_there a to (number m) i nt ∙ but i nx ny nt) is))
  applied (Err rule) s t0 op a but of e leads =
      subst (Together g.t (runs.broke rule place)) (sym (set_breaks program_code g.thread g.answer g.cs' g.s place to (ir.apply op t0 x y) (converts_number place t0 s to r) q (own g ob a b) (broken rule place) e)) (both_broke rule place)

  apply_is : (t0 : IntType) (op : Op) (a : ℕ → Held) (m n : Num) → takes op t0 m.ty n.ty ≡ true → a x ≡ number m → a y ≡ number n → calculated program_code place (own g ob a b) (ir.apply op t0 x y) ≡ or_broken place number (result_of op m n)
  apply_is t0 op a m n t e d =
      ap (λ (h : Held). on_value (known place h) (on_number (λ (z : Num). on_value (known place (a y)) (on_number (λ (o : Num). if_taken (takes op t0 z.ty o.ty) (or_broken place number (result_of op z o))))))) e
      ∙ ap (λ (h : Held). on_value (known place h) (on_number (λ (o : Num). if_taken (takes op t0 m.ty o.ty) (or_broken place number (result_of op m o))))) d
      ∙ taken_is (takes op t0 m.ty n.ty) (or_broken place number (result_of op m n)) t

  numbers_updated : (op : Op) (s u : IntType) (types : IntType × IntType) (m n : Num) → m.ty ≡ s → n.ty ≡ u → is_comparison op ≡ false → takes op types.0 types.0 types.1 ≡ true
      → tm x ≡ number m → tm y ≡ number n → Leads (accesses.Number s)
      → Alike g (on_ok place go (converted_result (tree.integer s) (computed op types m n))) (then_ (number_update place op s u types x y to r) q) (own g ob tm b)
  numbers_updated op s u types m n left right not_compared t e d leads =
      let one : Num = num types.0 m.value in
      let other : Num = num types.1 n.value in
      becomes_alike _ x s types.0 m _ tm left e
      (λ a keep is.
      becomes_alike _ y u types.1 n _ a right (keep y (λ z. apart (sym z)) ∙ d)
      (λ c keeps holds.
      applied (result_of op one other) s types.0 op c (λ i nx ny nt. keeps i ny ∙ keep i nx) (λ w given. result_kept op one other w not_compared given)
      (apply_is types.0 op c one other t (keeps x apart ∙ is) holds) leads))

  moved_to : (op : Op) (size : ℕ) (u : tree.Ty) (p : Ptr) (n : Num) → (op ≡ ops.Add) ⊎ (op ≡ ops.Sub) → element_size g.t.structs (tree.pointer u) ≡ size → tm x ≡ pointer p → tm y ≡ number n → Leads accesses.Pointer
      → Alike g (on_ok place go (updated g.t.structs b (tree.pointer u) op (values.Pointer p) (values.Num n))) (then_ (sets place to (moves op x y (element_size g.t.structs (tree.pointer u))) r) q) (own g ob tm b)
  moved_to op size u p n (inl is) es e d leads =
      subst (λ o. Alike g (on_ok place go (updated g.t.structs b (tree.pointer u) o (values.Pointer p) (values.Num n))) (then_ (sets place to (moves o x y (element_size g.t.structs (tree.pointer u))) r) q) (own g ob tm b)) (sym is)
      (set_result program_code g.thread g.answer g.cs' g.s g.t go place to (ir.pointer_add x y (element_size g.t.structs (tree.pointer u))) r q (own g ob tm b) (of_two b (forward (element_size g.t.structs (tree.pointer u))) (values.Pointer p) (values.Num n))
      (binary_is program_code place (own g ob tm b) x y (values.Pointer p) (values.Num n) (forwards (element_size g.t.structs (tree.pointer u)) n.ty) tt refl e d)
      (λ v k. leads v (binary_kind b (values.Pointer p) (values.Num n) v (forwards (element_size g.t.structs (tree.pointer u)) n.ty) tt refl k) (set_at tm to (value v)) (λ i nx ny nt. set_there tm to (value v) i nt) (set_here tm to (value v))))
  moved_to op size u p n (inr is) es e d leads =
      subst (λ o. Alike g (on_ok place go (updated g.t.structs b (tree.pointer u) o (values.Pointer p) (values.Num n))) (then_ (sets place to (moves o x y (element_size g.t.structs (tree.pointer u))) r) q) (own g ob tm b)) (sym is)
      (set_result program_code g.thread g.answer g.cs' g.s g.t go place to (ir.pointer_sub x y (element_size g.t.structs (tree.pointer u))) r q (own g ob tm b) (of_two b (backward (element_size g.t.structs (tree.pointer u))) (values.Pointer p) (values.Num n))
      (binary_is program_code place (own g ob tm b) x y (values.Pointer p) (values.Num n) (backwards (element_size g.t.structs (tree.pointer u)) n.ty) tt refl e d)
      (λ v k. leads v (binary_kind b (values.Pointer p) (values.Num n) v (backwards (element_size g.t.structs (tree.pointer u)) n.ty) tt refl k) (set_at tm to (value v)) (λ i nx ny nt. set_there tm to (value v) i nt) (set_here tm to (value v))))

  -- a op b of two registers comes to a third
  pub computes_alike : (op : Op) (ta tb : tree.Ty) → IsScalar ta → CanUpdate g.t.structs op ta tb → (va vb : Value) → HasKind (access_of_type ta) va → HasKind (access_of_type tb) vb → tm x ≡ value va → tm y ≡ value vb → Leads (access_of_type ta)
      → Alike g (on_ok place go (updated g.t.structs b ta op va vb)) (then_ (computes g.t.structs place op ta tb x y to r) q) (own g ob tm b)
  computes_alike op (tree.integer s) (tree.integer z) scalar can (values.Num m) (values.Num n) ka kb e d leads =
      let types : operand_types op m.ty n.ty ≡ operand_types op s z = ap (λ k. operand_types op k n.ty) ka ∙ ap (operand_types op s) kb in
      subst (λ k. Alike g (on_ok place go (converted_result (tree.integer s) (computed op k m n))) (then_ (number_update place op s z (operand_types op s z) x y to r) q) (own g ob tm b)) (sym types)
      (numbers_updated op s z (operand_types op s z) m n ka kb can (computed_taken op s z) e d leads)
  computes_alike op (tree.integer s) (tree.integer z) scalar can (values.Pointer p) vb ka kb e d leads = elim ka [ ]
  computes_alike op (tree.integer s) (tree.integer z) scalar can (values.Num m) (values.Pointer p) ka kb e d leads = elim kb [ ]
  computes_alike op (tree.pointer u) (tree.integer z) scalar can (values.Pointer p) (values.Num n) ka kb e d leads = moved_to op (element_size g.t.structs (tree.pointer u)) u p n can.0 refl e d leads
  computes_alike op (tree.pointer u) (tree.integer z) scalar can (values.Num m) vb ka kb e d leads = elim ka [ ]
  computes_alike op (tree.pointer u) (tree.integer z) scalar can (values.Pointer p) (values.Pointer o) ka kb e d leads = elim kb [ ]
  computes_alike op (tree.atomic s) tb scalar can va vb ka kb e d leads = elim scalar [ ]
  computes_alike op ta tb scalar can va vb ka kb e d leads = elim can [ ]

-- ---- uses

module _ (g : Setting) (vs : List Variable) (ob : ℕ → Option ℕ) (b : Blocks) (tm : ℕ → Held) (agrees : Stands g vs tm ob)
    (io : Jumps) (w : Way) (left : List ℕ) (r : Nodes) (q : Position) (goes : GoesS g io w left r q) where
  abbrev world_now : World
  world_now = actions.with_blocks g.s b

  pub nowhere_goes : (how : Access) (rch : Reach) → GoesE g vs ob b tm (nowhere_way w) (start g) how rch r q
  nowhere_goes how rch = record {
    at = at_nowhere how rch goes.at;
    above = omega arith;
    agrees = agrees;
    go = λ v a kind below is points. goes.end vs b a ob (agrees_on g vs tm a ob (start g) (omega arith) agrees below);
  }

  pub local_goes : (place i : ℕ) (l : tree.Local) (rch : Reach) → slice_get g.f.locals i ≡ Some l → home (frame g) i ≡ None
      → GoesE g vs ob b tm (local_way i w) (start g) (access_of_type l.ty) rch (sets place i (ir.copy (start g)) r) q
  local_goes place i l rch there none = record {
    at = at_local place i l rch there none goes.at;
    above = omega arith;
    agrees = agrees;
    go = λ v a kind below is points.
        set_then (lowered g.t) g.thread g.answer g.cs' g.s g.t (w.end (now g (set vs i (source.holds v)) b)) place i (ir.copy (start g)) r q (own g ob a b) (value v) (ap (λ (h : Held). on_value (known place h) (λ z. Ok (value z))) is)
        (goes.end (set vs i (source.holds v)) b (set_at a i (value v)) ob
        (agrees_value g vs a ob (agrees_on g vs tm a ob (start g) (omega arith) agrees below) i l there none (source.holds v) (set_at a i (value v)) (λ j lt ne. set_there a i (value v) j ne)
        (subst (InRegister (access_of_type l.ty) (source.holds v)) (sym (set_here a i (value v))) (one_value v kind))));
  }

  -- a step without a value, and then the statement is done
  stores : (a : ℕ → Held) → Stands g vs a ob → (place : ℕ) (atomic : Bool) (st : Step) → st.to ≡ None → (act : actions.SharedAction) → action_of place (own g ob a b) st ≡ Ok act
      → IfWent g.t GivesNone (acted world_now g.thread g.answer act)
      → Alike g (acts (here g) place atomic act (λ v next. stays (here g) vs (source.begins w.k) next) (now g vs b)) (then_ (more_nodes (plain place (ir.step st)) r) q) (own g ob a b)
  stores a h place atomic st to act is so =
      acts_alike (lowered g.t) g.thread g.answer g.cs' g.s g.t (λ v next. stays (here g) vs (source.begins w.k) next) _ place st r q (own g ob a b) act is
      (λ v next d. let k = if_went g.t GivesNone (acted world_now g.thread g.answer act) v next so d in
      subst (λ (o : Option ℕ). Together g.t (stays (here g) vs (source.begins w.k) next) (runs.went (record { top = record { at = then_ r q; own = own g ob (set_if a o v) b }; callers = g.cs' }) next)) (sym to)
      (both_went next k.1 (same g.call h (at_begins goes.at) g.callers)))

  -- the value is stored where the left side is
  pub place_goes : (place : ℕ) (atomic : Bool) (to : Ptr) (how : Access) (via rch : Reach) → Reaches tm via (start g) to
      → GoesE g vs ob b tm (place_way (here g) place atomic (values.Pointer to) w) (behind via (start g)) how rch (forms.acts place (ir.store how) (reached via (start g) ∷ []) None (behind via (start g) ∷ []) r) q
  place_goes place atomic to how via rch leads = record {
    at = at_place place atomic to how via rch leads goes.at;
    above = omega (arith, above_behind via (start g));
    agrees = agrees;
    go = λ v a kind below is points.
        stores a (agrees_on g vs tm a ob (behind via (start g)) (omega (arith, above_behind via (start g))) agrees below) place atomic
        (record { action = ir.store how; places = reached via (start g) ∷ []; to = None; temps = behind via (start g) ∷ []; slots = [] }) refl (actions.store to v)
        (action_is place (own g ob a b) (record { action = ir.store how; places = reached via (start g) ∷ []; to = None; temps = behind via (start g) ∷ []; slots = [] }) (to ∷ []) (v ∷ [])
        (one_more_place place (own g ob a b) (reached via (start g)) [] to [] (address_reached place (own g ob a b) via (start g) to (reaches_below tm a via (start g) to leads below)) refl)
        (one_more_read place (own g ob a b) (behind via (start g)) [] v [] is refl) ∙ store_fits how to v kind)
        (store_so g.t world_now g.begun g.thread g.answer to v);
  }

  -- the value is a block's first one
  pub block_goes : (place : ℕ) (atomic : Bool) (i k c : ℕ) (how : Access) (rch : Reach) → home (frame g) i ≡ Some k → i < start g → ob k ≡ Some c
      → GoesE g vs ob b tm (place_way (here g) place atomic (values.Pointer (To c 0)) w) (start g) how rch (sets place i (ir.object k) (forms.acts place (ir.store how) (at_temp i ∷ []) None (start g ∷ []) r)) q
  block_goes place atomic i k c how rch has lt there = record {
    at = at_block place atomic i k c how rch has lt there goes.at;
    above = omega arith;
    agrees = agrees;
    go = λ v a kind below is points.
        let ne : start g ≢ i = λ e. absurd (omega (arith, lt, e)) in
        set_then (lowered g.t) g.thread g.answer g.cs' g.s g.t _ place i (ir.object k) (forms.acts place (ir.store how) (at_temp i ∷ []) None (start g ∷ []) r) q (own g ob a b) (pointer (To c 0)) (ap (λ (o : Option ℕ). Ok (start_of o)) there)
        (stores (set_at a i (pointer (To c 0))) (agrees_unused g vs a ob (agrees_on g vs tm a ob (start g) (omega arith) agrees below) i k has (pointer (To c 0))) place atomic
        (record { action = ir.store how; places = at_temp i ∷ []; to = None; temps = start g ∷ []; slots = [] }) refl (actions.store (To c 0) v)
        (action_is place (own g ob (set_at a i (pointer (To c 0))) b) (record { action = ir.store how; places = at_temp i ∷ []; to = None; temps = start g ∷ []; slots = [] }) (To c 0 ∷ []) (v ∷ [])
        (one_more_place place (own g ob (set_at a i (pointer (To c 0))) b) (at_temp i) [] (To c 0) [] (at_register place (own g ob (set_at a i (pointer (To c 0))) b) i (To c 0) (set_here a i (pointer (To c 0)))) refl)
        (one_more_read place (own g ob (set_at a i (pointer (To c 0))) b) (start g) [] v [] (set_there a i (pointer (To c 0)) (start g) ne ∙ is) refl) ∙ store_fits how (To c 0) v kind)
        (store_so g.t world_now g.begun g.thread g.answer (To c 0) v));
  }

  -- the struct of the right side is found
  pub struct_right_goes : (place : ℕ) (ty : tree.Ty) (to : Ptr) (via rch : Reach) → Reaches tm via (start g) to → size_in g.t.structs ty < 2 ^ 64
      → GoesE g vs ob b tm (struct_right_way (here g) place ty (values.Pointer to) w) (behind via (start g)) accesses.Pointer rch
      (sized_copy g.t.structs place ty (reached via (start g)) (reached rch (behind via (start g))) (behind rch (behind via (start g))) r) q
  struct_right_goes place ty to via rch leads small = record {
    at = at_struct_right place ty to via rch leads small goes.at;
    above = omega (arith, above_behind via (start g));
    agrees = agrees;
    go = go;
  }
    where
      go : (v : Value) (a : ℕ → Held) → HasKind accesses.Pointer v → Below (behind via (start g)) tm a → a (behind via (start g)) ≡ value v → Points a rch (behind via (start g)) v
          → Alike g ((struct_right_way (here g) place ty (values.Pointer to) w).go v (now g vs b)) (then_ (sized_copy g.t.structs place ty (reached via (start g)) (reached rch (behind via (start g))) (behind rch (behind via (start g))) r) q) (own g ob a b)
      go (values.Num n) a kind below is points = elim kind [ ]
      go (values.Pointer p) a kind below is points =
          let h : Held = number (num unsigned_long (pos (size_in g.t.structs ty))) in
          let c : ℕ → Held = set_at a (behind rch (behind via (start g))) h in
          let under : Below (behind rch (behind via (start g))) a c = below_set (behind rch (behind via (start g))) (behind rch (behind via (start g))) a a h (omega arith) (below_same (behind rch (behind via (start g))) a) in
          let less : Below (behind via (start g)) a c = below_less (behind rch (behind via (start g))) (behind via (start g)) a c (omega (arith, above_behind rch (behind via (start g)))) under in
          let all : Below (behind via (start g)) tm c = below_then (behind via (start g)) tm a c below less in
          let st : Step = record { action = ir.copy_bytes (align_in g.t.structs ty) true; places = reached via (start g) ∷ reached rch (behind via (start g)) ∷ []; to = None; temps = behind rch (behind via (start g)) ∷ []; slots = [] } in
          let l : Own = own g ob c b in
          set_then (lowered g.t) g.thread g.answer g.cs' g.s g.t _ place (behind rch (behind via (start g))) (ir.constant unsigned_long (pos (size_in g.t.structs ty))) _ q (own g ob a b) h refl
          (stores c (agrees_on g vs tm c ob (behind via (start g)) (omega (arith, above_behind via (start g))) agrees all) place false st refl (actions.copy to p (size_in g.t.structs ty) (align_in g.t.structs ty) true)
          (action_is place l st (to ∷ p ∷ []) (values.Num (num unsigned_long (pos (size_in g.t.structs ty))) ∷ [])
          (one_more_place place l (reached via (start g)) (reached rch (behind via (start g)) ∷ []) to (p ∷ []) (address_reached place l via (start g) to (reaches_below tm c via (start g) to leads all))
          (one_more_place place l (reached rch (behind via (start g))) [] p [] (address_reached place l rch (behind via (start g)) p (reaches_below a c rch (behind via (start g)) p points under)) refl))
          (one_more_read place l (behind rch (behind via (start g))) [] (values.Num (num unsigned_long (pos (size_in g.t.structs ty)))) [] (set_here a (behind rch (behind via (start g))) h) refl)
          ∙ ap (λ (z : ℤ). Ok (actions.copy to p (unsigned_abs z) (align_in g.t.structs ty) true)) (long_is (size_in g.t.structs ty) small))
          (copy_so g.t world_now g.begun g.thread g.answer to p (size_in g.t.structs ty) (align_in g.t.structs ty) true))

  -- ---- the parts of a op= b

  pub update_read_goes : (place : ℕ) (x right : tree.Expr) (op : Op) (to : Ptr) (by : Value) (via rch : Reach) → Reaches tm via (start g) to → IsScalar (tree.type_of x) → CanUpdate g.t.structs op (tree.type_of x) (tree.type_of right)
      → HasKind (access_of_type (tree.type_of right)) by → tm (behind via (start g)) ≡ value by
      → GoesE g vs ob b tm (update_read_way (here g) (update_of place x op) (values.Pointer to) by w) (suc (behind via (start g))) (access_of_type (tree.type_of x)) rch
      (computes g.t.structs place op (tree.type_of x) (tree.type_of right) (suc (behind via (start g))) (behind via (start g)) (behind via (start g))
      (forms.acts (tree.place_of x) (ir.store (access_of_type (tree.type_of x))) (reached via (start g) ∷ []) None (behind via (start g) ∷ []) r)) q
  update_read_goes place x right op to by via rch leads scalar can kind holds = record {
    at = at_update_read place x right op to by via rch leads scalar can kind holds goes.at;
    above = omega (arith, above_behind via (start g));
    agrees = agrees;
    go = λ v a vkind below is points.
        let ne : suc (behind via (start g)) ≢ behind via (start g) = λ e. absurd (omega (arith, e)) in
        computes_alike g ob b (λ z. (place_way (here g) (tree.place_of x) false (values.Pointer to) w).go z (now g vs b)) place (suc (behind via (start g))) (behind via (start g)) (behind via (start g)) ne
        (forms.acts (tree.place_of x) (ir.store (access_of_type (tree.type_of x))) (reached via (start g) ∷ []) None (behind via (start g) ∷ []) r) q a op (tree.type_of x) (tree.type_of right) scalar can v by vkind kind is
        (below (behind via (start g)) (omega arith) ∙ holds)
        (λ z zkind c but cis.
        let under : Below (behind via (start g)) tm c = λ i lt. but i (λ e. absurd (omega (arith, lt, e))) (λ e. absurd (omega (arith, lt, e))) (λ e. absurd (omega (arith, lt, e))) ∙ below i (omega (arith, lt)) in
        (place_goes (tree.place_of x) false to (access_of_type (tree.type_of x)) via found leads).go z c zkind under cis (points_found c (behind via (start g)) z cis));
  }

  pub update_local_goes : (place i : ℕ) (l : tree.Local) (x right : tree.Expr) (op : Op) (rch : Reach) → slice_get g.f.locals i ≡ Some l → home (frame g) i ≡ None → tree.type_of x ≡ l.ty → IsScalar (tree.type_of x)
      → CanUpdate g.t.structs op (tree.type_of x) (tree.type_of right)
      → GoesE g vs ob b tm (update_local_way (here g) (update_of place x op) i w) (start g) (access_of_type (tree.type_of right)) rch
      (sets (tree.place_of x) (suc (start g)) (ir.copy i) (computes g.t.structs place op (tree.type_of x) (tree.type_of right) (suc (start g)) (start g) i r)) q
  update_local_goes place i l x right op rch there none is_type scalar can = record {
    at = at_update_local place i l x right op rch there none is_type scalar can goes.at;
    above = omega arith;
    agrees = agrees;
    go = λ v a kind below is points.
        by_local v a kind below is (held_in vs i) (a i) ((agrees_on g vs tm a ob (start g) (omega arith) agrees below).register i l there none) refl;
  }
    where
      by_local : (v : Value) (a : ℕ → Held) → HasKind (access_of_type (tree.type_of right)) v → Below (start g) tm a → a (start g) ≡ value v → (y : Variable) (h : Held) → InRegister (access_of_type l.ty) y h → a i ≡ h
          → Alike g (updates_variable (here g) (update_of place x op) i v w y (now g vs b))
          (then_ (sets (tree.place_of x) (suc (start g)) (ir.copy i) (computes g.t.structs place op (tree.type_of x) (tree.type_of right) (suc (start g)) (start g) i r)) q) (own g ob a b)
      by_local v a kind below is _ _ no_value e =
          subst (Together g.t (runs.broke C4 (tree.place_of x)))
          (sym (set_breaks (lowered g.t) g.thread g.answer g.cs' g.s (tree.place_of x) (suc (start g)) (ir.copy i) (computes g.t.structs place op (tree.type_of x) (tree.type_of right) (suc (start g)) (start g) i r) q (own g ob a b) (broken C4 (tree.place_of x))
          (ap (λ (z : Held). on_value (known (tree.place_of x) z) (λ o. Ok (value o))) e))) (both_broke C4 (tree.place_of x))
      by_local v a kind below is _ _ (one_value z zkind) e =
          let ne : suc (start g) ≢ start g = λ y. absurd (omega (arith, y)) in
          let not_start : start g ≢ suc (start g) = λ y. absurd (omega (arith, y)) in
          set_then (lowered g.t) g.thread g.answer g.cs' g.s g.t _ (tree.place_of x) (suc (start g)) (ir.copy i) (computes g.t.structs place op (tree.type_of x) (tree.type_of right) (suc (start g)) (start g) i r) q (own g ob a b) (value z)
          (ap (λ (y : Held). on_value (known (tree.place_of x) y) (λ o. Ok (value o))) e)
          (computes_alike g ob b (λ o. w.end (now g (set vs i (source.holds o)) b)) place (suc (start g)) (start g) i ne r q (set_at a (suc (start g)) (value z)) op (tree.type_of x) (tree.type_of right) scalar can z v
          (subst (λ y. HasKind (access_of_type y) z) (sym is_type) zkind) kind (set_here a (suc (start g)) (value z)) (set_there a (suc (start g)) (value z) (start g) not_start ∙ is)
          (λ o okind d but dis. goes.end (set vs i (source.holds o)) b d ob
          (agrees_value g vs a ob (agrees_on g vs tm a ob (start g) (omega arith) agrees below) i l there none (source.holds o) d
          (λ j jlt jne. let j_far : j ≢ suc (start g) = λ y. absurd (omega (arith, jlt, start_is g, y)) in
          but j j_far (λ y. absurd (omega (arith, jlt, start_is g, y))) jne ∙ set_there a (suc (start g)) (value z) j j_far)
          (subst (InRegister (access_of_type l.ty) (source.holds o)) (sym dis) (one_value o (subst (λ y. HasKind (access_of_type y) o) is_type okind))))))
