-- Each call of the library does the same on both sides.
use Rattle.ak_words.specs.declared.int_type.IntType.{IntType}
use Rattle.ak_words.specs.declared.number.Num.{Num}
use Rattle.std.proofs.Common.{◌≡◌, ◌≢◌, ℕ, suc, ◌*◌, pos, Bool, true, false, List, [], ◌∷◌, map, Option, Some, None, Ok, Err, inr, refl, sym, ap, subst, ◌∙◌, arith, unsigned_abs, if◌then◌else◌}
use Rattle.ak_words.specs.IntType.{int, unsigned_long}
use Rattle.block_store.specs.declared.values.Access.{Access}
use Rattle.block_store.specs.declared.values.Access.TheVariants as accesses
use Rattle.block_store.specs.declared.values.Cell.TheVariants.{Unknown, Byte}
use Rattle.block_store.specs.declared.values.Change.TheVariants.{Add, Swap}
use Rattle.block_store.specs.declared.values.Ptr.{Ptr}
use Rattle.block_store.specs.declared.values.Value.{Value}
use Rattle.block_store.specs.declared.values.Value.TheVariants as values
use Rattle.block_store.specs.Actions as actions
use Rattle.block_store.specs.Actions.{World, SharedAction, acted, bytes, text}
use Rattle.block_store.specs.Blocks.{Blocks}
use Rattle.c_tree.specs.Typed as tree
use Rattle.c_tree.specs.TypedForm.{IsAtomicCall, IsLibCall, AreArguments, IsNth, CanStart, signature_of}
use Rattle.c_tree.specs.TypedPrinting.{parts}
use Rattle.c_meaning.specs.Values.{access_of_type}
use Rattle.c_meaning.specs.Control.{Variable, Wait}
use Rattle.c_meaning.specs.Library.{numbers_of, pointers_of, addend, adds, value_of_call, names_atomic, free_mutex}
use Rattle.c_meaning.specs.Library as meant
use Rattle.c_meaning.specs.Turns.{stays, after_call, calls_library, acts}
use Rattle.struct_ir.specs.Nodes as ir
use Rattle.struct_ir.specs.Nodes.{Nodes, Step, more_nodes, plain}
use Rattle.struct_ir.specs.Structured.{Position, then_}
use Rattle.struct_ir.specs.meaning.Blocks.{Held, value, set_at, wrong_kind, same_type}
use Rattle.struct_ir.specs.meaning.Threads.{action_of, set_if, action_with, on_ok, if_count}
use Rattle.lower_forms.specs.Forms as forms
use Rattle.lower_forms.specs.Forms.{sets_int, at_temp, number_temps, text_places, pointed_number, changed_number, change_nodes, lib_nodes}
use Rattle.lower_forms.specs.Programs.{lowered}
use Rattle.lower_turns.proofs.Relation.{ctx, HasKind, Below, Stand, AreScalars, Calls, AllBegin}
use Rattle.lower_turns.proofs.Registers.{set_here, set_there, below_same, below_less, below_set}
use Rattle.lower_turns.proofs.Values.{kind_fits}
use Rattle.lower_turns.proofs.Operands.{fits_access}
use Rattle.lower_turns.proofs.Changes.{addend_type, change_fits, compare_fits, addend_alike}
use Rattle.lower_turns.proofs.Steps.{set_then, acts_alike}
use Rattle.lower_turns.proofs.Setting.{Stands, Setting, here, now, own, Alike}
use Rattle.lower_turns.proofs.Actions.{GivesKind, GivesNone, IfWent, if_went, copy_so, store_so, allocate_so, reallocate_so, change_so, compare_so, free_so, print_so, lock_so, unlock_so, destroy_so, start_so, join_so}
use Rattle.lower_turns.proofs.Calls.{WaitIs, nth_mapped}
use Rattle.lower_turns.proofs.Library.{action_is, one_more_place, one_more_read, at_register, print_is, Lands, lands_value, lands_zero, lands_none}

-- values of these kinds stand in the registers from u on
abbrev pub StandAs : (ℕ → Held) → List Access → List Value → (u : ℕ) → Type 0
StandAs tm [] [] u = Unit {0}
StandAs tm [] (v ∷ vs) u = ⊥
StandAs tm (h ∷ hs) [] u = ⊥
StandAs tm (h ∷ hs) (v ∷ vs) u = HasKind h v × (tm u ≡ value v) × StandAs tm hs vs (suc u)

pub stand_as : (tm : ℕ → Held) (ts : List tree.Ty) (es : tree.Exprs) (vs : List Value) (u : ℕ) → AreArguments ts es → Stand tm es vs u → StandAs tm (map access_of_type ts) vs u
stand_as tm [] tree.no_exprs [] u h s = tt
stand_as tm [] tree.no_exprs (v ∷ vs) u h s = elim s [ ]
stand_as tm [] (tree.more_exprs e es) vs u h s = elim h [ ]
stand_as tm (t ∷ ts) tree.no_exprs vs u h s = elim h [ ]
stand_as tm (t ∷ ts) (tree.more_exprs e es) [] u h s = elim s [ ]
stand_as tm (t ∷ ts) (tree.more_exprs e es) (v ∷ vs) u h s = (subst (λ z. HasKind z v) (fits_access (tree.type_of e) t h.0) s.0, s.1, stand_as tm ts es vs (suc u) h.1 s.2)

-- the arguments of a call of an atomic number, of which the first tells the type
record AtomicStand (tm : ℕ → Held) (others : IntType → List tree.Ty) (result : IntType → tree.Ty) (es : tree.Exprs) (ty : tree.Ty) (args : List Value) (u : ℕ) : Type 0 where
  pub number : IntType
  pub stand : StandAs tm (accesses.Pointer ∷ map access_of_type (others number)) args u
  pub gives : ty ≡ result number
  pub changed : changed_number es ≡ number

atomic_stand : (tm : ℕ → Held) (others : IntType → List tree.Ty) (result : IntType → tree.Ty) (es : tree.Exprs) (ty : tree.Ty) (args : List Value) (u : ℕ) → IsAtomicCall others result es ty → Stand tm es args u → AtomicStand tm others result es ty args u
atomic_stand tm others result tree.no_exprs ty args u h a = elim h [ ]
atomic_stand tm others result (tree.more_exprs e es) ty [] u h a = elim a [ ]
atomic_stand tm others result (tree.more_exprs e es) ty (v ∷ vs) u h a = record {
  number = h.0;
  stand = (subst (λ (z : tree.Ty). HasKind (access_of_type z) v) h.1 a.0, a.1, stand_as tm (others h.0) es vs (suc u) h.3 a.2);
  gives = h.4;
  changed = ap pointed_number h.1;
}

pub store_fits : (how : Access) (p : Ptr) (v : Value) → HasKind how v → action_with (ir.store how) (p ∷ []) (v ∷ []) ≡ Ok (actions.store p v)
store_fits how p v k = ap (λ b. if b then Ok (actions.store p v) else Err wrong_kind) (kind_fits how v k)

module _ (g : Setting) (busy : Calls g.t) (vs : List Variable) (ob : ℕ → Option ℕ) (b : Blocks) (tm : ℕ → Held) (agrees : Stands g vs tm ob) (place : ℕ) (ty : tree.Ty) (u : ℕ)
    (kw : Wait) (r : Nodes) (q : Position) (waits : WaitIs g ob tm place ty kw u r q) where
  abbrev world_now : World
  world_now = actions.with_blocks g.s b

  abbrev Ends : tree.Lib → List Value → Nodes → Type 0
  Ends which args ns = Alike g (calls_library (here g) place which args kw (meant.action_of which args) (now g vs b)) (then_ ns q) (own g ob tm b)

  lands_kind : (how : Access) → how ≡ access_of_type ty → (v : Option Value) (w : World) → GivesKind how v → AllBegin g.t w → Lands g busy vs ob b tm agrees kw v r q (set_if tm (Some u) v) w
  lands_kind how e None w k all = elim k [ ]
  lands_kind how e (Some v) w k all =
      lands_value g busy vs ob b tm agrees place ty u kw r q waits v (set_at tm u (value v)) w (subst (λ z. HasKind z v) e k) (below_set u u tm tm (value v) (omega arith) (below_same u tm)) (set_here tm u (value v)) all

  -- a step whose value comes to the register
  kind_alike : (atomic : Bool) (how : Access) → how ≡ access_of_type ty → (st : Step) → st.to ≡ Some u → (act : SharedAction) → action_of place (own g ob tm b) st ≡ Ok act → IfWent g.t (GivesKind how) (acted world_now g.thread g.answer act)
      → Alike g (acts (here g) place atomic act (λ v w. stays (here g) vs (after_call kw v) w) (now g vs b)) (then_ (more_nodes (plain place (ir.step st)) r) q) (own g ob tm b)
  kind_alike atomic how e st to act is so =
      acts_alike (lowered g.t) g.thread g.answer g.cs' g.s g.t (λ v w. stays (here g) vs (after_call kw v) w) _ place st r q (own g ob tm b) act is
      (λ v w d. let h = if_went g.t (GivesKind how) (acted world_now g.thread g.answer act) v w so d in
      subst (λ (o : Option ℕ). Lands g busy vs ob b tm agrees kw v r q (set_if tm o v) w) (sym to) (lands_kind how e v w h.0 h.1))

  -- the same from registers that have changed from the next one on
  lands_in : (c : ℕ → Held) → Below (suc u) tm c → (how : Access) → how ≡ access_of_type ty → (v : Option Value) (w : World) → GivesKind how v → AllBegin g.t w → Lands g busy vs ob b tm agrees kw v r q (set_if c (Some u) v) w
  lands_in c below how e None w k all = elim k [ ]
  lands_in c below how e (Some v) w k all =
      lands_value g busy vs ob b tm agrees place ty u kw r q waits v (set_at c u (value v)) w (subst (λ z. HasKind z v) e k) (below_set u u tm c (value v) (omega arith) (below_less (suc u) u tm c (omega arith) below)) (set_here c u (value v)) all

  pub print_alike : (pieces : List tree.Piece) (es : tree.Exprs) (args : List Value) → ty ≡ tree.integer int → AreScalars es → Stand tm es args u → Ends (tree.print pieces) args (lib_nodes place (tree.print pieces) es u r)
  print_alike pieces es args e s h =
      kind_alike false (accesses.Number int) (sym (ap access_of_type e)) (record { action = ir.print pieces; places = text_places es u; to = Some u; temps = number_temps es u; slots = [] }) refl
      (actions.print (parts bytes text pieces (numbers_of args) (pointers_of args))) (print_is place (own g ob tm b) pieces es args u (Some u) s h)
      (print_so g.t world_now g.begun g.thread g.answer (parts bytes text pieces (numbers_of args) (pointers_of args)))

  count_is : (n : Num) (action : SharedAction) → n.ty ≡ unsigned_long → if_count n action ≡ Ok action
  count_is n action e = ap (λ s. if same_type unsigned_long s then Ok action else Err wrong_kind) e

  pub malloc_alike : (es : tree.Exprs) (args : List Value) → ty ≡ tree.pointer tree.void → StandAs tm (accesses.Number unsigned_long ∷ []) args u → Ends tree.malloc args (lib_nodes place tree.malloc es u r)
  malloc_alike es [] e h = elim h [ ]
  malloc_alike es (values.Pointer p ∷ args) e h = elim (h.0) [ ]
  malloc_alike es (values.Num n ∷ x ∷ args) e h = elim (h.2) [ ]
  malloc_alike es (values.Num n ∷ []) e h =
      kind_alike false accesses.Pointer (sym (ap access_of_type e)) (record { action = ir.malloc; places = []; to = Some u; temps = u ∷ []; slots = [] }) refl
      (actions.allocate (unsigned_abs n.value) Unknown)
      (action_is place (own g ob tm b) (record { action = ir.malloc; places = []; to = Some u; temps = u ∷ []; slots = [] }) [] (values.Num n ∷ []) refl (one_more_read place (own g ob tm b) u [] (values.Num n) [] h.1 refl) ∙ count_is n (actions.allocate (unsigned_abs n.value) Unknown) h.0)
      (allocate_so g.t world_now g.begun g.thread g.answer (unsigned_abs n.value) Unknown)

  pub calloc_alike : (es : tree.Exprs) (args : List Value) → ty ≡ tree.pointer tree.void → StandAs tm (accesses.Number unsigned_long ∷ accesses.Number unsigned_long ∷ []) args u → Ends tree.calloc args (lib_nodes place tree.calloc es u r)
  calloc_alike es [] e h = elim h [ ]
  calloc_alike es (values.Pointer p ∷ args) e h = elim (h.0) [ ]
  calloc_alike es (values.Num n ∷ []) e h = elim (h.2) [ ]
  calloc_alike es (values.Num n ∷ values.Pointer p ∷ args) e h = elim (h.2.0) [ ]
  calloc_alike es (values.Num n ∷ values.Num m ∷ x ∷ args) e h = elim (h.2.2) [ ]
  calloc_alike es (values.Num n ∷ values.Num m ∷ []) e h =
      let act : SharedAction = actions.allocate (unsigned_abs n.value * unsigned_abs m.value) (Byte 0) in
      kind_alike false accesses.Pointer (sym (ap access_of_type e)) (record { action = ir.calloc; places = []; to = Some u; temps = u ∷ suc u ∷ []; slots = [] }) refl act
      (action_is place (own g ob tm b) (record { action = ir.calloc; places = []; to = Some u; temps = u ∷ suc u ∷ []; slots = [] }) [] (values.Num n ∷ values.Num m ∷ []) refl
      (one_more_read place (own g ob tm b) u (suc u ∷ []) (values.Num n) (values.Num m ∷ []) h.1
      (one_more_read place (own g ob tm b) (suc u) [] (values.Num m) [] h.2.1 refl))
      ∙ ap (λ o. on_ok o (if_count m)) (count_is n act h.0) ∙ count_is m act h.2.0)
      (allocate_so g.t world_now g.begun g.thread g.answer (unsigned_abs n.value * unsigned_abs m.value) (Byte 0))

  pub realloc_alike : (es : tree.Exprs) (args : List Value) → ty ≡ tree.pointer tree.void → StandAs tm (accesses.Pointer ∷ accesses.Number unsigned_long ∷ []) args u → Ends tree.realloc args (lib_nodes place tree.realloc es u r)
  realloc_alike es [] e h = elim h [ ]
  realloc_alike es (values.Num n ∷ args) e h = elim (h.0) [ ]
  realloc_alike es (values.Pointer p ∷ []) e h = elim (h.2) [ ]
  realloc_alike es (values.Pointer p ∷ values.Pointer o ∷ args) e h = elim (h.2.0) [ ]
  realloc_alike es (values.Pointer p ∷ values.Num n ∷ x ∷ args) e h = elim (h.2.2) [ ]
  realloc_alike es (values.Pointer p ∷ values.Num n ∷ []) e h =
      kind_alike false accesses.Pointer (sym (ap access_of_type e)) (record { action = ir.realloc; places = []; to = Some u; temps = u ∷ suc u ∷ []; slots = [] }) refl
      (actions.reallocate p (unsigned_abs n.value))
      (action_is place (own g ob tm b) (record { action = ir.realloc; places = []; to = Some u; temps = u ∷ suc u ∷ []; slots = [] }) [] (values.Pointer p ∷ values.Num n ∷ []) refl
      (one_more_read place (own g ob tm b) u (suc u ∷ []) (values.Pointer p) (values.Num n ∷ []) h.1
      (one_more_read place (own g ob tm b) (suc u) [] (values.Num n) [] h.2.1 refl))
      ∙ count_is n (actions.reallocate p (unsigned_abs n.value)) h.2.0)
      (reallocate_so g.t world_now g.begun g.thread g.answer p (unsigned_abs n.value))

  pub start_alike : (m : ℕ) (es : tree.Exprs) (args : List Value) → ty ≡ tree.integer int → IsNth (ctx g.t g.n g.f).funcs m CanStart → StandAs tm (accesses.Pointer ∷ accesses.Pointer ∷ []) args u
      → Ends (tree.start m) args (lib_nodes place (tree.start m) es u r)
  start_alike m es [] e c h = elim h [ ]
  start_alike m es (values.Num n ∷ args) e c h = elim (h.0) [ ]
  start_alike m es (values.Pointer p ∷ []) e c h = elim (h.2) [ ]
  start_alike m es (values.Pointer p ∷ values.Num n ∷ args) e c h = elim (h.2.0) [ ]
  start_alike m es (values.Pointer p ∷ values.Pointer o ∷ x ∷ args) e c h = elim (h.2.2) [ ]
  start_alike m es (values.Pointer p ∷ values.Pointer o ∷ []) e c h =
      let f = nth_mapped signature_of g.t.funcs m c.0 c.1 in
      kind_alike false (accesses.Number int) (sym (ap access_of_type e)) (record { action = ir.start m; places = at_temp u ∷ []; to = Some u; temps = suc u ∷ []; slots = [] }) refl
      (actions.start p m o)
      (action_is place (own g ob tm b) (record { action = ir.start m; places = at_temp u ∷ []; to = Some u; temps = suc u ∷ []; slots = [] }) (p ∷ []) (values.Pointer o ∷ [])
      (one_more_place place (own g ob tm b) (at_temp u) [] p [] (at_register place (own g ob tm b) u p h.1) refl)
      (one_more_read place (own g ob tm b) (suc u) [] (values.Pointer o) [] h.2.1 refl))
      (start_so g.t world_now g.begun g.thread g.answer p m o (inr (busy, (f.0, f.1, subst CanStart (sym f.2) c.2))))

  pub join_alike : (es : tree.Exprs) (args : List Value) → ty ≡ tree.integer int → StandAs tm (accesses.Number unsigned_long ∷ accesses.Pointer ∷ []) args u → Ends tree.join args (lib_nodes place tree.join es u r)
  join_alike es [] e h = elim h [ ]
  join_alike es (values.Pointer n ∷ args) e h = elim (h.0) [ ]
  join_alike es (values.Num p ∷ []) e h = elim (h.2) [ ]
  join_alike es (values.Num p ∷ values.Num n ∷ args) e h = elim (h.2.0) [ ]
  join_alike es (values.Num p ∷ values.Pointer o ∷ x ∷ args) e h = elim (h.2.2) [ ]
  join_alike es (values.Num n ∷ values.Pointer o ∷ []) e h =
      kind_alike false (accesses.Number int) (sym (ap access_of_type e)) (record { action = ir.join; places = at_temp (suc u) ∷ []; to = Some u; temps = u ∷ []; slots = [] }) refl
      (actions.join (unsigned_abs n.value) o)
      (action_is place (own g ob tm b) (record { action = ir.join; places = at_temp (suc u) ∷ []; to = Some u; temps = u ∷ []; slots = [] }) (o ∷ []) (values.Num n ∷ [])
      (one_more_place place (own g ob tm b) (at_temp (suc u)) [] o [] (at_register place (own g ob tm b) (suc u) o h.2.1) refl)
      (one_more_read place (own g ob tm b) u [] (values.Num n) [] h.1 refl)
      ∙ count_is n (actions.join (unsigned_abs n.value) o) h.0)
      (join_so g.t world_now g.begun g.thread g.answer (unsigned_abs n.value) o)

  -- ---- without a value

  -- a step that gives none, and what the call's value then is
  none_alike : (which : tree.Lib) (args : List Value) (ns : Nodes) (a : ℕ → Held) (st : Step) → st.to ≡ None → (act : SharedAction) → action_of place (own g ob a b) st ≡ Ok act → IfWent g.t GivesNone (acted world_now g.thread g.answer act)
      → ((v : Option Value) (w : World) → GivesNone v → AllBegin g.t w → Lands g busy vs ob b tm agrees kw (value_of_call which args v) ns q a w)
      → Alike g (acts (here g) place (names_atomic which) act (λ v w. stays (here g) vs (after_call kw (value_of_call which args v)) w) (now g vs b)) (then_ (more_nodes (plain place (ir.step st)) ns) q) (own g ob a b)
  none_alike which args ns a st to act is so lands =
      acts_alike (lowered g.t) g.thread g.answer g.cs' g.s g.t (λ v w. stays (here g) vs (after_call kw (value_of_call which args v)) w) _ place st ns q (own g ob a b) act is
      (λ v w d. let h = if_went g.t GivesNone (acted world_now g.thread g.answer act) v w so d in
      subst (λ (o : Option ℕ). Lands g busy vs ob b tm agrees kw (value_of_call which args v) ns q (set_if a o v) w) (sym to) (lands v w h.0 h.1))

  pub free_alike : (es : tree.Exprs) (args : List Value) → ty ≡ tree.void → StandAs tm (accesses.Pointer ∷ []) args u → Ends tree.free args (lib_nodes place tree.free es u r)
  free_alike es [] e h = elim h [ ]
  free_alike es (values.Num n ∷ args) e h = elim (h.0) [ ]
  free_alike es (values.Pointer p ∷ x ∷ args) e h = elim (h.2) [ ]
  free_alike es (values.Pointer p ∷ []) e h =
      none_alike tree.free (values.Pointer p ∷ []) r tm (record { action = ir.free; places = []; to = None; temps = u ∷ []; slots = [] }) refl (actions.free p)
      (action_is place (own g ob tm b) (record { action = ir.free; places = []; to = None; temps = u ∷ []; slots = [] }) [] (values.Pointer p ∷ []) refl (one_more_read place (own g ob tm b) u [] (values.Pointer p) [] h.1 refl))
      (free_so g.t world_now g.begun g.thread g.answer p)
      (λ v w n all. lands_none g busy vs ob b tm agrees place ty u kw r q waits v n tm w e (below_same u tm) all)

  pub destroy_alike : (es : tree.Exprs) (args : List Value) → ty ≡ tree.void → StandAs tm (accesses.Pointer ∷ []) args u → Ends tree.mutex_destroy args (lib_nodes place tree.mutex_destroy es u r)
  destroy_alike es [] e h = elim h [ ]
  destroy_alike es (values.Num n ∷ args) e h = elim (h.0) [ ]
  destroy_alike es (values.Pointer p ∷ x ∷ args) e h = elim (h.2) [ ]
  destroy_alike es (values.Pointer p ∷ []) e h =
      none_alike tree.mutex_destroy (values.Pointer p ∷ []) r tm (record { action = ir.destroy; places = at_temp u ∷ []; to = None; temps = []; slots = [] }) refl (actions.destroy p)
      (action_is place (own g ob tm b) (record { action = ir.destroy; places = at_temp u ∷ []; to = None; temps = []; slots = [] }) (p ∷ []) [] (one_more_place place (own g ob tm b) (at_temp u) [] p [] (at_register place (own g ob tm b) u p h.1) refl) refl)
      (destroy_so g.t world_now g.begun g.thread g.answer p)
      (λ v w n all. lands_none g busy vs ob b tm agrees place ty u kw r q waits v n tm w e (below_same u tm) all)

  pub lock_alike : (es : tree.Exprs) (args : List Value) → ty ≡ tree.integer int → StandAs tm (accesses.Pointer ∷ []) args u → Ends tree.mutex_lock args (lib_nodes place tree.mutex_lock es u r)
  lock_alike es [] e h = elim h [ ]
  lock_alike es (values.Num n ∷ args) e h = elim (h.0) [ ]
  lock_alike es (values.Pointer p ∷ x ∷ args) e h = elim (h.2) [ ]
  lock_alike es (values.Pointer p ∷ []) e h =
      none_alike tree.mutex_lock (values.Pointer p ∷ []) (sets_int place u 0 r) tm (record { action = ir.lock; places = at_temp u ∷ []; to = None; temps = []; slots = [] }) refl (actions.lock p)
      (action_is place (own g ob tm b) (record { action = ir.lock; places = at_temp u ∷ []; to = None; temps = []; slots = [] }) (p ∷ []) [] (one_more_place place (own g ob tm b) (at_temp u) [] p [] (at_register place (own g ob tm b) u p h.1) refl) refl)
      (lock_so g.t world_now g.begun g.thread g.answer p)
      (λ v w n all. lands_zero g busy vs ob b tm agrees place ty u kw r q waits tm w e (below_same u tm) all)

  pub unlock_alike : (es : tree.Exprs) (args : List Value) → ty ≡ tree.integer int → StandAs tm (accesses.Pointer ∷ []) args u → Ends tree.mutex_unlock args (lib_nodes place tree.mutex_unlock es u r)
  unlock_alike es [] e h = elim h [ ]
  unlock_alike es (values.Num n ∷ args) e h = elim (h.0) [ ]
  unlock_alike es (values.Pointer p ∷ x ∷ args) e h = elim (h.2) [ ]
  unlock_alike es (values.Pointer p ∷ []) e h =
      none_alike tree.mutex_unlock (values.Pointer p ∷ []) (sets_int place u 0 r) tm (record { action = ir.unlock; places = at_temp u ∷ []; to = None; temps = []; slots = [] }) refl (actions.unlock p)
      (action_is place (own g ob tm b) (record { action = ir.unlock; places = at_temp u ∷ []; to = None; temps = []; slots = [] }) (p ∷ []) [] (one_more_place place (own g ob tm b) (at_temp u) [] p [] (at_register place (own g ob tm b) u p h.1) refl) refl)
      (unlock_so g.t world_now g.begun g.thread g.answer p)
      (λ v w n all. lands_zero g busy vs ob b tm agrees place ty u kw r q waits tm w e (below_same u tm) all)

  pub init_alike : (es : tree.Exprs) (args : List Value) → ty ≡ tree.integer int → StandAs tm (accesses.Pointer ∷ []) args u → Ends tree.mutex_init args (lib_nodes place tree.mutex_init es u r)
  init_alike es [] e h = elim h [ ]
  init_alike es (values.Num n ∷ args) e h = elim (h.0) [ ]
  init_alike es (values.Pointer p ∷ x ∷ args) e h = elim (h.2) [ ]
  init_alike es (values.Pointer p ∷ []) e h =
      let ne : u ≢ suc u = λ y. absurd (omega (arith, y)) in
      set_then (lowered g.t) g.thread g.answer g.cs' g.s g.t _ place (suc u) (ir.constant unsigned_long (pos 0)) _ q (own g ob tm b) (value free_mutex) refl
      (none_alike tree.mutex_init (values.Pointer p ∷ []) (sets_int place u 0 r) (set_at tm (suc u) (value free_mutex))
      (record { action = ir.store (accesses.Number unsigned_long); places = at_temp u ∷ []; to = None; temps = suc u ∷ []; slots = [] }) refl (actions.store p free_mutex)
      (action_is place (own g ob (set_at tm (suc u) (value free_mutex)) b) (record { action = ir.store (accesses.Number unsigned_long); places = at_temp u ∷ []; to = None; temps = suc u ∷ []; slots = [] }) (p ∷ []) (free_mutex ∷ [])
      (one_more_place place (own g ob (set_at tm (suc u) (value free_mutex)) b) (at_temp u) [] p [] (at_register place (own g ob (set_at tm (suc u) (value free_mutex)) b) u p (set_there tm (suc u) (value free_mutex) u ne ∙ h.1)) refl)
      (one_more_read place (own g ob (set_at tm (suc u) (value free_mutex)) b) (suc u) [] free_mutex [] (set_here tm (suc u) (value free_mutex)) refl)
      ∙ store_fits (accesses.Number unsigned_long) p free_mutex refl)
      (store_so g.t world_now g.begun g.thread g.answer p free_mutex)
      (λ v w n all. lands_zero g busy vs ob b tm agrees place ty u kw r q waits (set_at tm (suc u) (value free_mutex)) w e (below_set u (suc u) tm tm (value free_mutex) (omega arith) (below_same u tm)) all))

  pub copy_alike : (es : tree.Exprs) (args : List Value) → ty ≡ tree.pointer tree.void → StandAs tm (accesses.Pointer ∷ accesses.Pointer ∷ accesses.Number unsigned_long ∷ []) args u → Ends tree.copy args (lib_nodes place tree.copy es u r)
  copy_alike es [] e h = elim h [ ]
  copy_alike es (values.Num n ∷ args) e h = elim (h.0) [ ]
  copy_alike es (values.Pointer p ∷ []) e h = elim (h.2) [ ]
  copy_alike es (values.Pointer p ∷ values.Num n ∷ args) e h = elim (h.2.0) [ ]
  copy_alike es (values.Pointer p ∷ values.Pointer o ∷ []) e h = elim (h.2.2) [ ]
  copy_alike es (values.Pointer p ∷ values.Pointer o ∷ values.Pointer x ∷ args) e h = elim (h.2.2.0) [ ]
  copy_alike es (values.Pointer p ∷ values.Pointer o ∷ values.Num n ∷ x ∷ args) e h = elim (h.2.2.2) [ ]
  copy_alike es (values.Pointer p ∷ values.Pointer o ∷ values.Num n ∷ []) e h =
      none_alike tree.copy (values.Pointer p ∷ values.Pointer o ∷ values.Num n ∷ []) r tm (record { action = ir.copy_bytes 1 false; places = at_temp u ∷ at_temp (suc u) ∷ []; to = None; temps = suc (suc u) ∷ []; slots = [] }) refl
      (actions.copy p o (unsigned_abs n.value) 1 false)
      (action_is place (own g ob tm b) (record { action = ir.copy_bytes 1 false; places = at_temp u ∷ at_temp (suc u) ∷ []; to = None; temps = suc (suc u) ∷ []; slots = [] }) (p ∷ o ∷ []) (values.Num n ∷ [])
      (one_more_place place (own g ob tm b) (at_temp u) (at_temp (suc u) ∷ []) p (o ∷ []) (at_register place (own g ob tm b) u p h.1)
      (one_more_place place (own g ob tm b) (at_temp (suc u)) [] o [] (at_register place (own g ob tm b) (suc u) o h.2.1) refl))
      (one_more_read place (own g ob tm b) (suc (suc u)) [] (values.Num n) [] h.2.2.1 refl)
      ∙ count_is n (actions.copy p o (unsigned_abs n.value) 1 false) h.2.2.0)
      (copy_so g.t world_now g.begun g.thread g.answer p o (unsigned_abs n.value) 1 false)
      (λ v w k all. lands_value g busy vs ob b tm agrees place ty u kw r q waits (values.Pointer p) tm w (subst (λ z. HasKind (access_of_type z) (values.Pointer p)) (sym e) tt) (below_same u tm) h.1 all)

  -- ---- atomic numbers

  -- a number is added, or taken away
  sum_alike : (away : Bool) (s : IntType) (p : Ptr) (n : Num) → ty ≡ tree.integer s → tm u ≡ value (values.Pointer p) → tm (suc u) ≡ value (values.Num n) → n.ty ≡ s
      → Alike g (acts (here g) place true (adds p (addend away n)) (λ v w. stays (here g) vs (after_call kw v) w) (now g vs b)) (then_ (change_nodes place away s (at_temp u) (suc u) (Some u) r) q) (own g ob tm b)
  sum_alike away s p n e to by is =
      let m : Num = addend away n in
      let is_s : m.ty ≡ s = addend_type away n s is in
      let st : Step = record { action = ir.change Add s; places = at_temp u ∷ []; to = Some u; temps = suc u ∷ []; slots = [] } in
      addend_alike g ob b _ place s (at_temp u) (suc u) (Some u) n r q tm by is away
      (λ c under holds.
      acts_alike (lowered g.t) g.thread g.answer g.cs' g.s g.t (λ v w. stays (here g) vs (after_call kw v) w) _ place st r q (own g ob c b) (actions.change p m.ty Add m.value)
      (action_is place (own g ob c b) st (p ∷ []) (values.Num m ∷ [])
      (one_more_place place (own g ob c b) (at_temp u) [] p [] (at_register place (own g ob c b) u p (under u (omega arith) ∙ to)) refl)
      (one_more_read place (own g ob c b) (suc u) [] (values.Num m) [] holds refl)
      ∙ change_fits Add s p m is_s)
      (λ v w d. let h = if_went g.t (GivesKind (accesses.Number m.ty)) _ v w (change_so g.t world_now g.begun g.thread g.answer p m.ty Add m.value) d in
      lands_in c under (accesses.Number m.ty) (ap accesses.Number is_s ∙ sym (ap access_of_type e)) v w h.0 h.1))

  swap_alike : (s : IntType) (p : Ptr) (n : Num) → ty ≡ tree.integer s → tm u ≡ value (values.Pointer p) → tm (suc u) ≡ value (values.Num n) → n.ty ≡ s
      → Alike g (acts (here g) place true (actions.change p n.ty Swap n.value) (λ v w. stays (here g) vs (after_call kw v) w) (now g vs b)) (then_ (forms.acts place (ir.change Swap s) (at_temp u ∷ []) (Some u) (suc u ∷ []) r) q) (own g ob tm b)
  swap_alike s p n e to by is =
      let st : Step = record { action = ir.change Swap s; places = at_temp u ∷ []; to = Some u; temps = suc u ∷ []; slots = [] } in
      kind_alike true (accesses.Number n.ty) (ap accesses.Number is ∙ sym (ap access_of_type e)) st refl (actions.change p n.ty Swap n.value)
      (action_is place (own g ob tm b) st (p ∷ []) (values.Num n ∷ [])
      (one_more_place place (own g ob tm b) (at_temp u) [] p [] (at_register place (own g ob tm b) u p to) refl)
      (one_more_read place (own g ob tm b) (suc u) [] (values.Num n) [] by refl)
      ∙ change_fits Swap s p n is)
      (change_so g.t world_now g.begun g.thread g.answer p n.ty Swap n.value)

  put_alike : (s : IntType) (p : Ptr) (n : Num) → ty ≡ tree.void → tm u ≡ value (values.Pointer p) → tm (suc u) ≡ value (values.Num n) → n.ty ≡ s
      → Alike g (acts (here g) place true (actions.store p (values.Num n)) (λ v w. stays (here g) vs (after_call kw v) w) (now g vs b)) (then_ (forms.acts place (ir.store (accesses.Number s)) (at_temp u ∷ []) None (suc u ∷ []) r) q) (own g ob tm b)
  put_alike s p n e to by is =
      let st : Step = record { action = ir.store (accesses.Number s); places = at_temp u ∷ []; to = None; temps = suc u ∷ []; slots = [] } in
      none_alike tree.atomic_store (values.Pointer p ∷ values.Num n ∷ []) r tm st refl (actions.store p (values.Num n))
      (action_is place (own g ob tm b) st (p ∷ []) (values.Num n ∷ [])
      (one_more_place place (own g ob tm b) (at_temp u) [] p [] (at_register place (own g ob tm b) u p to) refl)
      (one_more_read place (own g ob tm b) (suc u) [] (values.Num n) [] by refl)
      ∙ store_fits (accesses.Number s) p (values.Num n) is)
      (store_so g.t world_now g.begun g.thread g.answer p (values.Num n))
      (λ v w k all. lands_none g busy vs ob b tm agrees place ty u kw r q waits v k tm w e (below_same u tm) all)

  compare_alike : (s : IntType) (p o : Ptr) (n : Num) → ty ≡ tree.integer int → tm u ≡ value (values.Pointer p) → tm (suc u) ≡ value (values.Pointer o) → tm (suc (suc u)) ≡ value (values.Num n) → n.ty ≡ s
      → Alike g (acts (here g) place true (actions.compare p o n.ty n.value) (λ v w. stays (here g) vs (after_call kw v) w) (now g vs b))
      (then_ (forms.acts place (ir.compare s) (at_temp u ∷ at_temp (suc u) ∷ []) (Some u) (suc (suc u) ∷ []) r) q) (own g ob tm b)
  compare_alike s p o n e to want by is =
      let st : Step = record { action = ir.compare s; places = at_temp u ∷ at_temp (suc u) ∷ []; to = Some u; temps = suc (suc u) ∷ []; slots = [] } in
      kind_alike true (accesses.Number int) (sym (ap access_of_type e)) st refl (actions.compare p o n.ty n.value)
      (action_is place (own g ob tm b) st (p ∷ o ∷ []) (values.Num n ∷ [])
      (one_more_place place (own g ob tm b) (at_temp u) (at_temp (suc u) ∷ []) p (o ∷ []) (at_register place (own g ob tm b) u p to)
      (one_more_place place (own g ob tm b) (at_temp (suc u)) [] o [] (at_register place (own g ob tm b) (suc u) o want) refl))
      (one_more_read place (own g ob tm b) (suc (suc u)) [] (values.Num n) [] by refl)
      ∙ compare_fits s p o n is)
      (compare_so g.t world_now g.begun g.thread g.answer p o n.ty n.value)

  -- a pointer, and a number of this type behind it, or behind another pointer
  one_changed : (s : IntType) (P : List Value → Type 0) → ((p : Ptr) (n : Num) → tm u ≡ value (values.Pointer p) → tm (suc u) ≡ value (values.Num n) → n.ty ≡ s → P (values.Pointer p ∷ values.Num n ∷ []))
      → (args : List Value) → StandAs tm (accesses.Pointer ∷ accesses.Number s ∷ []) args u → P args
  one_changed s P f [] h = elim h [ ]
  one_changed s P f (values.Num n ∷ args) h = elim (h.0) [ ]
  one_changed s P f (values.Pointer p ∷ []) h = elim (h.2) [ ]
  one_changed s P f (values.Pointer p ∷ values.Pointer o ∷ args) h = elim (h.2.0) [ ]
  one_changed s P f (values.Pointer p ∷ values.Num n ∷ x ∷ args) h = elim (h.2.2) [ ]
  one_changed s P f (values.Pointer p ∷ values.Num n ∷ []) h = f p n h.1 h.2.1 h.2.0

  one_compared : (s : IntType) (P : List Value → Type 0)
      → ((p o : Ptr) (n : Num) → tm u ≡ value (values.Pointer p) → tm (suc u) ≡ value (values.Pointer o) → tm (suc (suc u)) ≡ value (values.Num n) → n.ty ≡ s → P (values.Pointer p ∷ values.Pointer o ∷ values.Num n ∷ []))
      → (args : List Value) → StandAs tm (accesses.Pointer ∷ accesses.Pointer ∷ accesses.Number s ∷ []) args u → P args
  one_compared s P f [] h = elim h [ ]
  one_compared s P f (values.Num n ∷ args) h = elim (h.0) [ ]
  one_compared s P f (values.Pointer p ∷ []) h = elim (h.2) [ ]
  one_compared s P f (values.Pointer p ∷ values.Num n ∷ args) h = elim (h.2.0) [ ]
  one_compared s P f (values.Pointer p ∷ values.Pointer o ∷ []) h = elim (h.2.2) [ ]
  one_compared s P f (values.Pointer p ∷ values.Pointer o ∷ values.Pointer x ∷ args) h = elim (h.2.2.0) [ ]
  one_compared s P f (values.Pointer p ∷ values.Pointer o ∷ values.Num n ∷ x ∷ args) h = elim (h.2.2.2) [ ]
  one_compared s P f (values.Pointer p ∷ values.Pointer o ∷ values.Num n ∷ []) h = f p o n h.1 h.2.1 h.2.2.1 h.2.2.0

  -- by the call, in the nodes for the type of its first argument
  atomic_by : (es : tree.Exprs) (s : IntType) (which : tree.Lib) (args : List Value) (ns : IntType → Nodes) → changed_number es ≡ s → Ends which args (ns s) → Ends which args (ns (changed_number es))
  atomic_by es s which args ns e h = subst (λ (z : IntType). Ends which args (ns z)) (sym e) h

  -- ---- by the call

  pub library_alike : (which : tree.Lib) (es : tree.Exprs) (args : List Value) → IsLibCall (ctx g.t g.n g.f) which es ty → AreScalars es → Stand tm es args u → Ends which args (lib_nodes place which es u r)
  library_alike (tree.print pieces) es args h s a = print_alike pieces es args h.1 s a
  library_alike tree.malloc es args h s a = malloc_alike es args h.1 (stand_as tm (tree.integer unsigned_long ∷ []) es args u h.0 a)
  library_alike tree.calloc es args h s a = calloc_alike es args h.1 (stand_as tm (tree.integer unsigned_long ∷ tree.integer unsigned_long ∷ []) es args u h.0 a)
  library_alike tree.realloc es args h s a = realloc_alike es args h.1 (stand_as tm (tree.pointer tree.void ∷ tree.integer unsigned_long ∷ []) es args u h.0 a)
  library_alike tree.free es args h s a = free_alike es args h.1 (stand_as tm (tree.pointer tree.void ∷ []) es args u h.0 a)
  library_alike tree.copy es args h s a = copy_alike es args h.1 (stand_as tm (tree.pointer tree.void ∷ tree.pointer tree.void ∷ tree.integer unsigned_long ∷ []) es args u h.0 a)
  library_alike (tree.start m) es args h s a = start_alike m es args h.2 h.0 (stand_as tm (tree.pointer (tree.integer unsigned_long) ∷ tree.pointer tree.void ∷ []) es args u h.1 a)
  library_alike tree.join es args h s a = join_alike es args h.1 (stand_as tm (tree.integer unsigned_long ∷ tree.pointer (tree.integer int) ∷ []) es args u h.0 a)
  library_alike tree.mutex_init es args h s a = init_alike es args h.1 (stand_as tm (tree.pointer tree.mutex ∷ []) es args u h.0 a)
  library_alike tree.mutex_lock es args h s a = lock_alike es args h.1 (stand_as tm (tree.pointer tree.mutex ∷ []) es args u h.0 a)
  library_alike tree.mutex_unlock es args h s a = unlock_alike es args h.1 (stand_as tm (tree.pointer tree.mutex ∷ []) es args u h.0 a)
  library_alike tree.mutex_destroy es args h s a = destroy_alike es args h.1 (stand_as tm (tree.pointer tree.mutex ∷ []) es args u h.0 a)
  library_alike tree.atomic_add es args h s a =
      let k = atomic_stand tm (λ z. tree.integer z ∷ []) (λ z. tree.integer z) es ty args u h a in
      atomic_by es k.number tree.atomic_add args (λ z. change_nodes place false z (at_temp u) (suc u) (Some u) r) k.changed
      (one_changed k.number (λ vs'. Ends tree.atomic_add vs' (change_nodes place false k.number (at_temp u) (suc u) (Some u) r)) (λ p n to by is. sum_alike false k.number p n k.gives to by is) args k.stand)
  library_alike tree.atomic_sub es args h s a =
      let k = atomic_stand tm (λ z. tree.integer z ∷ []) (λ z. tree.integer z) es ty args u h a in
      atomic_by es k.number tree.atomic_sub args (λ z. change_nodes place true z (at_temp u) (suc u) (Some u) r) k.changed
      (one_changed k.number (λ vs'. Ends tree.atomic_sub vs' (change_nodes place true k.number (at_temp u) (suc u) (Some u) r)) (λ p n to by is. sum_alike true k.number p n k.gives to by is) args k.stand)
  library_alike tree.atomic_swap es args h s a =
      let k = atomic_stand tm (λ z. tree.integer z ∷ []) (λ z. tree.integer z) es ty args u h a in
      atomic_by es k.number tree.atomic_swap args (λ z. forms.acts place (ir.change Swap z) (at_temp u ∷ []) (Some u) (suc u ∷ []) r) k.changed
      (one_changed k.number (λ vs'. Ends tree.atomic_swap vs' (forms.acts place (ir.change Swap k.number) (at_temp u ∷ []) (Some u) (suc u ∷ []) r)) (λ p n to by is. swap_alike k.number p n k.gives to by is) args k.stand)
  library_alike tree.atomic_compare es args h s a =
      let k = atomic_stand tm (λ z. tree.pointer (tree.integer z) ∷ tree.integer z ∷ []) (λ z. tree.integer int) es ty args u h a in
      atomic_by es k.number tree.atomic_compare args (λ z. forms.acts place (ir.compare z) (at_temp u ∷ at_temp (suc u) ∷ []) (Some u) (suc (suc u) ∷ []) r) k.changed
      (one_compared k.number (λ vs'. Ends tree.atomic_compare vs' (forms.acts place (ir.compare k.number) (at_temp u ∷ at_temp (suc u) ∷ []) (Some u) (suc (suc u) ∷ []) r))
      (λ p o n to want by is. compare_alike k.number p o n k.gives to want by is) args k.stand)
  library_alike tree.atomic_store es args h s a =
      let k = atomic_stand tm (λ z. tree.integer z ∷ []) (λ z. tree.void) es ty args u h a in
      atomic_by es k.number tree.atomic_store args (λ z. forms.acts place (ir.store (accesses.Number z)) (at_temp u ∷ []) None (suc u ∷ []) r) k.changed
      (one_changed k.number (λ vs'. Ends tree.atomic_store vs' (forms.acts place (ir.store (accesses.Number k.number)) (at_temp u ∷ []) None (suc u ∷ []) r)) (λ p n to by is. put_alike k.number p n k.gives to by is) args k.stand)
