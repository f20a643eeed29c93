-- The right side of an assignment is evaluated once the left one is found, and an updated object is read, or changed.
use Rattle.std.proofs.Common.{◌≡◌, ℕ, suc, ◌<◌, ◌^◌, Bool, true, false, if◌then◌else◌, List, [], ◌∷◌, Option, Some, None, refl, sym, ap, subst, ◌∙◌, arith}
use Rattle.ak_words.specs.declared.int_type.IntType.{IntType}
use Rattle.ak_words.specs.declared.number.Num.{Num}
use Rattle.ak_words.specs.declared.operation.Op.{Op}
use Rattle.block_store.specs.declared.values.Access.{Access}
use Rattle.block_store.specs.declared.values.Access.TheVariants as accesses
use Rattle.block_store.specs.declared.values.Change.TheVariants.{Add}
use Rattle.block_store.specs.declared.values.Ptr.{Ptr}
use Rattle.block_store.specs.declared.values.Value.{Value}
use Rattle.block_store.specs.declared.values.Value.TheVariants as values
use Rattle.block_store.specs.Actions as actions
use Rattle.block_store.specs.Actions.{World, acted}
use Rattle.block_store.specs.Blocks.{Blocks}
use Rattle.block_store.specs.Runs as runs
use Rattle.c_tree.specs.Typed as tree
use Rattle.c_tree.specs.TypedForm.{Jumps, IsScalar, IsTyped, CanUpdate}
use Rattle.c_tree.specs.TypedLayout.{size_in}
use Rattle.c_meaning.specs.Values.{access_of_type, is_atomic, is_minus}
use Rattle.c_meaning.specs.Library.{addend, changed_by}
use Rattle.c_meaning.specs.Control as source
use Rattle.c_meaning.specs.Control.{Variable, wanted}
use Rattle.c_meaning.specs.Turns.{Way, stays, after_call, place_way, left_way, struct_left_way, struct_right_way, update_left_way, update_reads, update_changes, update_right_way, update_of}
use Rattle.struct_ir.specs.Nodes as ir
use Rattle.struct_ir.specs.Nodes.{Nodes, Step}
use Rattle.struct_ir.specs.Structured.{Position, then_}
use Rattle.struct_ir.specs.meaning.Blocks.{Held, value, set_at}
use Rattle.struct_ir.specs.meaning.Threads.{set_if}
use Rattle.lower_forms.specs.Forms as forms
use Rattle.lower_forms.specs.Forms.{Reach, found, reached, behind, pointed, reach, number_type, change_nodes, update_at, update_by, computes, sized_copy, expr_nodes, place_nodes}
use Rattle.lower_forms.specs.Programs.{lowered}
use Rattle.lower_turns.proofs.Relation.{ctx, HasKind, Below, Reaches, Points, Calls, IsPlace, at_left, at_struct_left, at_update_left, at_update_right, at_update_read, Together, both_went, same, at_begins, at_gives}
use Rattle.lower_turns.proofs.Registers.{set_here, below_same, below_less, below_set, reaches_below}
use Rattle.lower_turns.proofs.Operands.{atomic_updated, plain_updated}
use Rattle.lower_turns.proofs.Changes.{addend_type, change_fits, addend_alike}
use Rattle.lower_turns.proofs.Library.{action_is, one_more_place, one_more_read}
use Rattle.lower_turns.proofs.Steps.{acts_alike}
use Rattle.lower_turns.proofs.Setting.{Stands, Setting, here, now, own, Alike, frame, start, agrees_on, GoesE, GoesS, of_kind}
use Rattle.lower_turns.proofs.Actions.{GivesKind, if_went, load_so, change_so}
use Rattle.lower_turns.proofs.Uses.{address_reached, above_behind, one_place}
use Rattle.lower_turns.proofs.Tests.{SimE, SimP}
use Rattle.lower_turns.proofs.Assigns.{place_goes, struct_right_goes}

module _ (g : Setting) (vs : List Variable) (ob : ℕ → Option ℕ) (b : Blocks) (io : Jumps) (w : Way) (left : List ℕ) (r : Nodes) (q : Position) (goes : GoesS g io w left r q) where
  abbrev world_now : World
  world_now = actions.with_blocks g.s b

  module _ (tm : ℕ → Held) (agrees : Stands g vs tm ob) where
    later_agrees : (a : ℕ → Held) → Below (start g) tm a → Stands g vs a ob
    later_agrees a below = agrees_on g vs tm a ob (start g) (omega arith) agrees below

    -- the left side is found, and then the right one is evaluated
    pub left_goes : (place : ℕ) (atomic : Bool) (right : tree.Expr) (how : Access) (rch : Reach) → IsTyped (ctx g.t g.n g.f) right → IsScalar (tree.type_of right) → access_of_type (tree.type_of right) ≡ how → SimE g right
        → GoesE g vs ob b tm (left_way (here g) place atomic right w) (start g) accesses.Pointer rch
        (expr_nodes (frame g) right (behind rch (start g)) (forms.acts place (ir.store how) (reached rch (start g) ∷ []) None (behind rch (start g) ∷ []) r)) q
    left_goes place atomic right how rch typed scalar is_how sim = record {
      at = at_left place atomic right how rch typed scalar is_how goes.at;
      above = omega arith;
      agrees = agrees;
      go = go;
    }
      where
        go : (v : Value) (a : ℕ → Held) → HasKind accesses.Pointer v → Below (start g) tm a → a (start g) ≡ value v → Points a rch (start g) v
            → Alike g ((left_way (here g) place atomic right w).go v (now g vs b)) (then_ (expr_nodes (frame g) right (behind rch (start g)) (forms.acts place (ir.store how) (reached rch (start g) ∷ []) None (behind rch (start g) ∷ []) r)) q) (own g ob a b)
        go (values.Num n) a kind below is points = elim kind [ ]
        go (values.Pointer p) a kind below is points =
            let ns : Nodes = forms.acts place (ir.store how) (reached rch (start g) ∷ []) None (behind rch (start g) ∷ []) r in
            sim vs ob b a (place_way (here g) place atomic (values.Pointer p) w) (behind rch (start g)) ns q
            (of_kind g vs ob b a (place_way (here g) place atomic (values.Pointer p) w) (behind rch (start g)) how (access_of_type (tree.type_of right)) (pointed (frame g) right) ns q (sym is_how)
            (place_goes g vs ob b a (later_agrees a below) io w left r q goes place atomic p how rch (pointed (frame g) right) points))

    pub struct_left_goes : (place : ℕ) (ty : tree.Ty) (right : tree.Expr) (rch : Reach) → IsTyped (ctx g.t g.n g.f) right → IsPlace (frame g) (tree.node_of right) → size_in g.t.structs ty < 2 ^ 64 → SimP g right
        → GoesE g vs ob b tm (struct_left_way (here g) place ty right w) (start g) accesses.Pointer rch
        (place_nodes (frame g) right (behind rch (start g)) (sized_copy g.t.structs place ty (reached rch (start g)) (reached (reach (frame g) right) (behind rch (start g))) (behind (reach (frame g) right) (behind rch (start g))) r)) q
    struct_left_goes place ty right rch typed is_place small sim = record {
      at = at_struct_left place ty right rch typed is_place small goes.at;
      above = omega arith;
      agrees = agrees;
      go = go;
    }
      where
        go : (v : Value) (a : ℕ → Held) → HasKind accesses.Pointer v → Below (start g) tm a → a (start g) ≡ value v → Points a rch (start g) v
            → Alike g ((struct_left_way (here g) place ty right w).go v (now g vs b))
            (then_ (place_nodes (frame g) right (behind rch (start g)) (sized_copy g.t.structs place ty (reached rch (start g)) (reached (reach (frame g) right) (behind rch (start g))) (behind (reach (frame g) right) (behind rch (start g))) r)) q) (own g ob a b)
        go (values.Num n) a kind below is points = elim kind [ ]
        go (values.Pointer p) a kind below is points =
            sim vs ob b a (struct_right_way (here g) place ty (values.Pointer p) w) (behind rch (start g))
            (sized_copy g.t.structs place ty (reached rch (start g)) (reached (reach (frame g) right) (behind rch (start g))) (behind (reach (frame g) right) (behind rch (start g))) r) q
            (struct_right_goes g vs ob b a (later_agrees a below) io w left r q goes place ty p rch (reach (frame g) right) points small)

    module _ (busy : Calls g.t) (place : ℕ) (x right : tree.Expr) (op : Op) (can : CanUpdate g.t.structs op (tree.type_of x) (tree.type_of right)) where
      -- an object that is atomic is changed
      changed_alike : (to : Ptr) (via : Reach) (s : IntType) (n : Num) (a : ℕ → Held) → n.ty ≡ s → Below (behind via (start g)) tm a → a (behind via (start g)) ≡ value (values.Num n) → Reaches a via (start g) to
          → Alike g (update_changes (here g) (update_of place x op) w (changed_by (is_minus op) to (values.Num n)) (now g vs b))
          (then_ (change_nodes (tree.place_of x) (is_minus op) s (reached via (start g)) (behind via (start g)) None r) q) (own g ob a b)
      changed_alike to via s n a e below is leads =
          let m : Num = addend (is_minus op) n in
          let st : Step = record { action = ir.change Add s; places = reached via (start g) ∷ []; to = None; temps = behind via (start g) ∷ []; slots = [] } in
          addend_alike g ob b _ (tree.place_of x) s (reached via (start g)) (behind via (start g)) None n r q a is e (is_minus op)
          (λ c under holds.
          let low : Below (start g) a c = below_less (behind via (start g)) (start g) a c (omega (arith, above_behind via (start g))) under in
          let low' : Below (start g) tm a = below_less (behind via (start g)) (start g) tm a (omega (arith, above_behind via (start g))) below in
          acts_alike (lowered g.t) g.thread g.answer g.cs' g.s g.t (λ old next. stays (here g) vs (source.begins w.k) next) _ (tree.place_of x) st r q (own g ob c b) (actions.change to m.ty Add m.value)
          (action_is (tree.place_of x) (own g ob c b) st (to ∷ []) (values.Num m ∷ [])
          (one_more_place (tree.place_of x) (own g ob c b) (reached via (start g)) [] to [] (address_reached (tree.place_of x) (own g ob c b) via (start g) to (reaches_below a c via (start g) to leads under)) refl)
          (one_more_read (tree.place_of x) (own g ob c b) (behind via (start g)) [] (values.Num m) [] holds refl)
          ∙ change_fits Add s to m (addend_type (is_minus op) n s e))
          (λ old next d.
          let h = if_went g.t (GivesKind (accesses.Number m.ty)) _ old next (change_so g.t world_now g.begun g.thread g.answer to m.ty Add m.value) d in
          both_went next h.1 (same g.call (agrees_on g vs a c ob (start g) (omega arith) (later_agrees a low') low) (at_begins goes.at) g.callers)))

      by_value : (to : Ptr) (via : Reach) (s : IntType) (v : Value) (a : ℕ → Held) → HasKind (accesses.Number s) v → Below (behind via (start g)) tm a → a (behind via (start g)) ≡ value v → Reaches a via (start g) to
          → Alike g (update_changes (here g) (update_of place x op) w (changed_by (is_minus op) to v) (now g vs b))
          (then_ (change_nodes (tree.place_of x) (is_minus op) s (reached via (start g)) (behind via (start g)) None r) q) (own g ob a b)
      by_value to via s (values.Num n) a kind below is leads = changed_alike to via s n a kind below is leads
      by_value to via s (values.Pointer p) a kind below is leads = elim kind [ ]

      -- the right side has its value: the object is changed, or read
      pub update_right_goes : (to : Ptr) (via rch : Reach) → Reaches tm via (start g) to
          → GoesE g vs ob b tm (update_right_way (here g) (update_of place x op) (values.Pointer to) w) (behind via (start g)) (access_of_type (tree.type_of right)) rch
          (update_by (frame g) place (behind via (start g)) op (reached via (start g)) x right r) q
      update_right_goes to via rch leads = record {
        at = at_update_right place x right op to via rch leads can goes.at;
        above = omega (arith, above_behind via (start g));
        agrees = agrees;
        go = λ v a kind below is points. by_type v a kind below is (reaches_below tm a via (start g) to leads below) (is_atomic (tree.type_of x)) refl;
      }
        where
          went_on : IsScalar (tree.type_of x) → (v : Value) (a : ℕ → Held) → HasKind (access_of_type (tree.type_of right)) v → Below (behind via (start g)) tm a → a (behind via (start g)) ≡ value v → Reaches a via (start g) to → (read : Option Value) (next : World)
              → acted world_now g.thread g.answer (actions.load to (access_of_type (tree.type_of x))) ≡ actions.went read next
              → Together g.t (stays (here g) vs (after_call (wanted (tree.place_of x) (source.update_read (update_of place x op) (values.Pointer to) v w.k)) read) next)
              (runs.went (record {
                top = record {
                  at = then_ (computes g.t.structs place op (tree.type_of x) (tree.type_of right) (suc (behind via (start g))) (behind via (start g)) (behind via (start g))
                      (forms.acts (tree.place_of x) (ir.store (access_of_type (tree.type_of x))) (reached via (start g) ∷ []) None (behind via (start g) ∷ []) r)) q;
                  own = own g ob (set_if a (Some (suc (behind via (start g)))) read) b;
                };
                callers = g.cs';
              }) next)
          went_on scalar v a kind below is leads' None next e =
              elim ((if_went g.t (GivesKind (access_of_type (tree.type_of x))) _ None next (load_so g.t world_now g.begun g.thread g.answer to (access_of_type (tree.type_of x))) e).0) [ ]
          went_on scalar v a kind below is leads' (Some z) next e =
              let h = if_went g.t (GivesKind (access_of_type (tree.type_of x))) _ (Some z) next (load_so g.t world_now g.begun g.thread g.answer to (access_of_type (tree.type_of x))) e in
              let c : ℕ → Held = set_at a (suc (behind via (start g))) (value z) in
              let under : Below (suc (behind via (start g))) a c = below_set (suc (behind via (start g))) (suc (behind via (start g))) a a (value z) (omega arith) (below_same (suc (behind via (start g))) a) in
              let less : Below (behind via (start g)) a c = below_less (suc (behind via (start g))) (behind via (start g)) a c (omega arith) under in
              let low : Below (start g) a c = below_less (suc (behind via (start g))) (start g) a c (omega (arith, above_behind via (start g))) under in
              let low' : Below (start g) tm a = below_less (behind via (start g)) (start g) tm a (omega (arith, above_behind via (start g))) below in
              both_went next h.1 (same g.call (agrees_on g vs a c ob (start g) (omega arith) (later_agrees a low') low)
              (at_gives z h.0 (set_here a (suc (behind via (start g))) (value z)) (omega (arith, above_behind via (start g))) busy
              (at_update_read place x right op to v via found (reaches_below a c via (start g) to leads' less) scalar can kind (less' c under is) goes.at)) g.callers)
            where
              less' : (c : ℕ → Held) → Below (suc (behind via (start g))) a c → a (behind via (start g)) ≡ value v → c (behind via (start g)) ≡ value v
              less' c under h = under (behind via (start g)) (omega arith) ∙ h

          by_type : (v : Value) (a : ℕ → Held) → HasKind (access_of_type (tree.type_of right)) v → Below (behind via (start g)) tm a → a (behind via (start g)) ≡ value v → Reaches a via (start g) to → (m : Bool) → is_atomic (tree.type_of x) ≡ m
              → Alike g (if m then update_changes (here g) (update_of place x op) w (changed_by (is_minus op) to v) (now g vs b) else update_reads (here g) (update_of place x op) (values.Pointer to) v w (now g vs b))
              (then_ (if m then change_nodes (tree.place_of x) (is_minus op) (number_type (tree.type_of x)) (reached via (start g)) (behind via (start g)) None r
              else update_at (frame g) place (behind via (start g)) op (reached via (start g)) x right r) q) (own g ob a b)
          by_type v a kind below is here_leads true e =
              let z = atomic_updated g.t.structs op (tree.type_of x) (tree.type_of right) can e in
              subst (λ (s : IntType). Alike g (update_changes (here g) (update_of place x op) w (changed_by (is_minus op) to v) (now g vs b))
              (then_ (change_nodes (tree.place_of x) (is_minus op) s (reached via (start g)) (behind via (start g)) None r) q) (own g ob a b)) (sym (ap number_type z.1))
              (by_value to via z.0 v a (subst (λ (y : tree.Ty). HasKind (access_of_type y) v) z.2 kind) below is here_leads)
          by_type v a kind below is here_leads false e =
              acts_alike (lowered g.t) g.thread g.answer g.cs' g.s g.t _ _ (tree.place_of x)
              (record { action = ir.load (access_of_type (tree.type_of x)); places = reached via (start g) ∷ []; to = Some (suc (behind via (start g))); temps = []; slots = [] })
              (computes g.t.structs place op (tree.type_of x) (tree.type_of right) (suc (behind via (start g))) (behind via (start g)) (behind via (start g))
              (forms.acts (tree.place_of x) (ir.store (access_of_type (tree.type_of x))) (reached via (start g) ∷ []) None (behind via (start g) ∷ []) r)) q (own g ob a b) (actions.load to (access_of_type (tree.type_of x)))
              (one_place (tree.place_of x) (own g ob a b) (ir.load (access_of_type (tree.type_of x))) (reached via (start g)) (Some (suc (behind via (start g)))) to (address_reached (tree.place_of x) (own g ob a b) via (start g) to here_leads))
              (λ read next d. went_on (plain_updated g.t.structs op (tree.type_of x) (tree.type_of right) can e) v a kind below is here_leads read next d)

    module _ (busy : Calls g.t) (place : ℕ) (x right : tree.Expr) (op : Op) (can : CanUpdate g.t.structs op (tree.type_of x) (tree.type_of right)) where
      pub update_left_goes : (rch : Reach) → IsTyped (ctx g.t g.n g.f) right → IsScalar (tree.type_of right) → ((a : ℕ → Held) → Below (start g) tm a → (p : Ptr) → Reaches a rch (start g) p
          → GoesE g vs ob b a (update_right_way (here g) (update_of place x op) (values.Pointer p) w) (behind rch (start g)) (access_of_type (tree.type_of right)) (pointed (frame g) right) (update_by (frame g) place (behind rch (start g)) op (reached rch (start g)) x right r) q)
          → SimE g right
          → GoesE g vs ob b tm (update_left_way (here g) (update_of place x op) right w) (start g) accesses.Pointer rch
          (expr_nodes (frame g) right (behind rch (start g)) (update_by (frame g) place (behind rch (start g)) op (reached rch (start g)) x right r)) q
      update_left_goes rch typed scalar right_goes sim = record {
        at = at_update_left place x right op rch typed scalar can goes.at;
        above = omega arith;
        agrees = agrees;
        go = go;
      }
        where
          go : (v : Value) (a : ℕ → Held) → HasKind accesses.Pointer v → Below (start g) tm a → a (start g) ≡ value v → Points a rch (start g) v
              → Alike g ((update_left_way (here g) (update_of place x op) right w).go v (now g vs b))
              (then_ (expr_nodes (frame g) right (behind rch (start g)) (update_by (frame g) place (behind rch (start g)) op (reached rch (start g)) x right r)) q) (own g ob a b)
          go (values.Num n) a kind below is points = elim kind [ ]
          go (values.Pointer p) a kind below is points =
              sim vs ob b a (update_right_way (here g) (update_of place x op) (values.Pointer p) w) (behind rch (start g)) (update_by (frame g) place (behind rch (start g)) op (reached rch (start g)) x right r) q
              (right_goes a below p points)

  -- the same, with what follows
  pub updated_goes : (tm : ℕ → Held) → Stands g vs tm ob → (busy : Calls g.t) (place : ℕ) (x right : tree.Expr) (op : Op) → CanUpdate g.t.structs op (tree.type_of x) (tree.type_of right) → (rch : Reach)
      → IsTyped (ctx g.t g.n g.f) right → IsScalar (tree.type_of right) → SimE g right
      → GoesE g vs ob b tm (update_left_way (here g) (update_of place x op) right w) (start g) accesses.Pointer rch
      (expr_nodes (frame g) right (behind rch (start g)) (update_by (frame g) place (behind rch (start g)) op (reached rch (start g)) x right r)) q
  updated_goes tm agrees busy place x right op can rch typed scalar sim =
      update_left_goes tm agrees busy place x right op can rch typed scalar
      (λ a below p points. update_right_goes a (agrees_on g vs tm a ob (start g) (omega arith) agrees below) busy place x right op can p rch (pointed (frame g) right) points) sim
