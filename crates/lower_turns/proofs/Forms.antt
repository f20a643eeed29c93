-- Declarations, assignments, and expressions that are dropped.
use Rattle.std.proofs.Common.{◌≡◌, ℕ, ◌<◌, ◌^◌, Bool, true, false, List, [], ◌∷◌, length, set, Option, Some, None, refl, sym, ap, subst, ◌∙◌, arith, if◌then◌else◌}
use Rattle.std.specs.Prelude.{slice_get}
use Rattle.ak_words.specs.declared.int_type.IntType.{IntType}
use Rattle.ak_words.specs.declared.operation.Op.{Op}
use Rattle.ak_words.specs.IntType.{int}
use Rattle.block_store.specs.declared.values.Ptr.TheVariants.{To}
use Rattle.block_store.specs.declared.values.Value.TheVariants as values
use Rattle.block_store.specs.Blocks.{Blocks}
use Rattle.block_store.specs.Runs.{Turn}
use Rattle.c_tree.specs.Typed as tree
use Rattle.c_tree.specs.TypedForm.{Jumps, IsScalar, IsLvalue, Fits, IsTyped, IsTypedNode, CanUpdate, Converts, IsLocal, IsResult, IsFunc, type_of_result, Signature, signature_of, IsAtomicCall, IsLibCall}
use Rattle.c_tree.specs.TypedLayout.{size_in}
use Rattle.c_meaning.specs.Values.{access_of_type, is_atomic}
use Rattle.c_meaning.specs.Control as source
use Rattle.c_meaning.specs.Control.{Variable, Control, dropped}
use Rattle.c_meaning.specs.Turns.{Now, Way, run, run_place, local_way, place_way, left_way, struct_left_way, update_left_way, update_local_way, update_of, is_block, is_atomic_local, local_at, declared_in, made_local, with_variable, ended_local, assigns, assigns_object, updates, declares, is_struct}
use Rattle.struct_ir.specs.Nodes as ir
use Rattle.struct_ir.specs.Nodes.{Nodes}
use Rattle.struct_ir.specs.Structured.{Position, then_}
use Rattle.struct_ir.specs.meaning.Blocks as code
use Rattle.struct_ir.specs.meaning.Blocks.{Held, Own, set_at, begun}
use Rattle.lower_forms.specs.Forms as forms
use Rattle.lower_forms.specs.Forms.{home, register_if, own_register, pointed, reach, expr_nodes, object_assign, copy_nodes, store_nodes, assign_nodes, update_nodes, update_object, declare_nodes}
use Rattle.lower_forms.specs.Programs.{lowered}
use Rattle.lower_turns.proofs.Relation.{ctx, InRegister, no_value, Calls, IsPlace}
use Rattle.lower_turns.proofs.Registers.{set_here, set_there}
use Rattle.lower_turns.proofs.Operands.{pointer_scalar, sized_pointer, moved_pointer, operand_scalars, fits_access, fits_scalar}
use Rattle.lower_turns.proofs.Steps.{begins_object, set_then}
use Rattle.lower_turns.proofs.Setting.{IsOpen, Stands, Setting, here, now, own, Alike, frame, start, start_is, GoesS, of_kind}
use Rattle.lower_turns.proofs.Calls.{all_at, nth_mapped}
use Rattle.lower_turns.proofs.Layouts.{size_small}
use Rattle.lower_turns.proofs.Locals.{register_is, block_is, struct_is_place}
use Rattle.lower_turns.proofs.Exprs.{expr_sim, place_sim}
use Rattle.lower_turns.proofs.Objects.{agrees_value, within_locals}
use Rattle.lower_turns.proofs.Ends.{begin_block}
use Rattle.lower_turns.proofs.Assigns.{local_goes, block_goes, update_local_goes}
use Rattle.lower_turns.proofs.Sides.{left_goes, struct_left_goes, updated_goes}
use Rattle.lower_turns.proofs.Loops.{stepped}

-- ---- types

struct_of : (ty : tree.Ty) → is_struct ty ≡ true → (s : ℕ) × (ty ≡ tree.structure s)
struct_of (tree.structure s) e = (s, refl)
struct_of tree.void e = absurd cc
struct_of (tree.integer s) e = absurd cc
struct_of (tree.atomic s) e = absurd cc
struct_of tree.mutex e = absurd cc
struct_of (tree.pointer u) e = absurd cc
struct_of (tree.array u n) e = absurd cc

fits_struct : (a : tree.Ty) (s : ℕ) → Fits a (tree.structure s) → a ≡ tree.structure s
fits_struct (tree.structure m) s h = ap tree.structure h
fits_struct tree.void s h = elim h [ ]
fits_struct (tree.integer x) s h = elim h [ ]
fits_struct (tree.atomic x) s h = elim h [ ]
fits_struct tree.mutex s h = elim h [ ]
fits_struct (tree.pointer u) s h = elim h [ ]
fits_struct (tree.array u n) s h = elim h [ ]

fits_number : (a b : tree.Ty) → Fits a b → is_struct b ≡ false → IsScalar a
fits_number (tree.integer x) (tree.integer y) h e = tt
fits_number (tree.integer x) (tree.atomic y) h e = tt
fits_number (tree.pointer x) (tree.pointer y) h e = tt
fits_number (tree.structure m) (tree.structure n) h e = absurd cc
fits_number a b h e = elim h [ ]

pub returned_scalar : (a b : tree.Ty) → Fits a b → IsResult b → IsScalar a
returned_scalar (tree.integer x) (tree.integer y) h r = tt
returned_scalar (tree.integer x) (tree.atomic y) h r = elim r [ ]
returned_scalar (tree.pointer x) (tree.pointer y) h r = tt
returned_scalar (tree.structure m) (tree.structure n) h r = elim r [ ]
returned_scalar a b h r = elim h [ ]

can_scalar : (structs : List tree.Layout) (op : Op) (a b : tree.Ty) → CanUpdate structs op a b → IsScalar b
can_scalar structs op (tree.integer x) (tree.integer y) h = tt
can_scalar structs op (tree.atomic x) (tree.integer y) h = tt
can_scalar structs op (tree.pointer x) (tree.integer y) h = tt
can_scalar structs op a b h = elim h [ ]

-- an expression of a struct's type is an lvalue
struct_lvalue : (g : Setting) (s : ℕ) (node : tree.ExprNode) → IsTypedNode (ctx g.t g.n g.f) (tree.structure s) node → IsLvalue node
struct_lvalue g s (tree.num x z) h = absurd (let e = h.0 in cc)
struct_lvalue g s tree.null h = elim h [ ]
struct_lvalue g s (tree.literal i) h = tt
struct_lvalue g s (tree.global i) h = tt
struct_lvalue g s (tree.local i) h = tt
struct_lvalue g s (tree.deref e) h = tt
struct_lvalue g s (tree.member e i) h = tt
struct_lvalue g s (tree.address_of e) h = absurd (let d = h.2 in cc)
struct_lvalue g s (tree.decay e) h = absurd (let d = h.2.3 in cc)
struct_lvalue g s (tree.convert e) h = no_convert (tree.type_of e) h.1
  where
    no_convert : (ty : tree.Ty) → Converts ty (tree.structure s) → IsLvalue (tree.convert e)
    no_convert ty k = elim k [ ]
struct_lvalue g s (tree.not_ e) h = absurd (let d = h.2 in cc)
struct_lvalue g s (tree.binary op a b) h = no_result (tree.type_of a) (operand_scalars op (tree.type_of a) (tree.type_of b) h.2).0 h.3
  where
    no_result : (ty : tree.Ty) → IsScalar ty → tree.structure s ≡ type_of_result op ty → IsLvalue (tree.binary op a b)
    no_result (tree.integer x) k d = absurd cc
    no_result (tree.pointer u) k d = absurd cc
    no_result ty k d = elim k [ ]
struct_lvalue g s (tree.and_also a b) h = absurd (let d = h.4 in cc)
struct_lvalue g s (tree.or_else a b) h = absurd (let d = h.4 in cc)
struct_lvalue g s (tree.choose a b c) h = elim (h.4) [ ]
struct_lvalue g s (tree.pointer_add a b) h = elim (moved_pointer g.t.structs (tree.type_of a) (tree.type_of b) (tree.structure s) h.2) [ ]
struct_lvalue g s (tree.pointer_sub a b) h = elim (subst IsScalar (sym h.4) (pointer_scalar (tree.type_of a) (sized_pointer g.t.structs (tree.type_of a) h.2))) [ ]
struct_lvalue g s (tree.pointer_diff a b) h = absurd (let d = h.4 in cc)
struct_lvalue g s (tree.pointer_compare op a b) h = absurd (let d = h.5 in cc)
struct_lvalue g s (tree.pointer_test e) h = absurd (let d = h.2 in cc)
struct_lvalue g s (tree.call m args) h =
    let f = nth_mapped signature_of g.t.funcs m h.1.0 h.1.1 in
    let is = all_at (IsFunc g.t) g.t.funcs m f.0 g.well.funcs f.1 in
    elim (subst IsResult (sym (h.1.2.1 ∙ ap (λ (x : Signature). x.result) (sym f.2))) is.result) [ ]
struct_lvalue g s (tree.lib which args) h = no_lib which h.1
  where
    no_atomic : (others : IntType → List tree.Ty) (result : IntType → tree.Ty) (es : tree.Exprs) → IsAtomicCall others result es (tree.structure s) → ((u : IntType) → tree.structure s ≡ result u → ⊥) → IsLvalue (tree.lib which args)
    no_atomic others result tree.no_exprs k n = elim k [ ]
    no_atomic others result (tree.more_exprs e es) k n = absurd (n k.0 k.4)

    no_lib : (which : tree.Lib) → IsLibCall (ctx g.t g.n g.f) which args (tree.structure s) → IsLvalue (tree.lib which args)
    no_lib (tree.print pieces) k = absurd (let d = k.1 in cc)
    no_lib tree.malloc k = absurd (let d = k.1 in cc)
    no_lib tree.calloc k = absurd (let d = k.1 in cc)
    no_lib tree.realloc k = absurd (let d = k.1 in cc)
    no_lib tree.free k = absurd (let d = k.1 in cc)
    no_lib tree.copy k = absurd (let d = k.1 in cc)
    no_lib (tree.start m) k = absurd (let d = k.2 in cc)
    no_lib tree.join k = absurd (let d = k.1 in cc)
    no_lib tree.mutex_init k = absurd (let d = k.1 in cc)
    no_lib tree.atomic_add k = no_atomic (λ s. tree.integer s ∷ []) (λ s. tree.integer s) args k (λ u e. cc)
    no_lib tree.atomic_sub k = no_atomic (λ s. tree.integer s ∷ []) (λ s. tree.integer s) args k (λ u e. cc)
    no_lib tree.atomic_swap k = no_atomic (λ s. tree.integer s ∷ []) (λ s. tree.integer s) args k (λ u e. cc)
    no_lib tree.atomic_compare k = no_atomic (λ s. tree.pointer (tree.integer s) ∷ tree.integer s ∷ []) (λ s. tree.integer int) args k (λ u e. cc)
    no_lib tree.atomic_store k = no_atomic (λ s. tree.integer s ∷ []) (λ s. tree.void) args k (λ u e. cc)
    no_lib tree.mutex_lock k = absurd (let d = k.1 in cc)
    no_lib tree.mutex_unlock k = absurd (let d = k.1 in cc)
    no_lib tree.mutex_destroy k = absurd (let d = k.1 in cc)

struct_expr_lvalue : (g : Setting) (s : ℕ) (e : tree.Expr) → IsTyped (ctx g.t g.n g.f) e → tree.type_of e ≡ tree.structure s → IsLvalue (tree.node_of e)
struct_expr_lvalue g s (tree.at place ty node) h e = struct_lvalue g s node (subst (λ z. IsTypedNode (ctx g.t g.n g.f) z node) e h)

-- ---- statements

module _ (g : Setting) where
  local_is : (i : ℕ) → local_at (here g) i ≡ slice_get g.f.locals i
  local_is i = ap (λ (o : Option tree.Func). declared_in o i) g.call.there

  register_none : (i : ℕ) → is_block (local_at (here g) i) ≡ false → home (frame g) i ≡ None
  register_none i e = register_is g.t g.n g.f g.a i (sym (ap is_block (local_is i)) ∙ e)

  block_some : (i : ℕ) → is_block (local_at (here g) i) ≡ true → (k : ℕ) × (home (frame g) i ≡ Some k)
  block_some i e = block_is g.t g.n g.f g.a i (sym (ap is_block (local_is i)) ∙ e)

  register_scalar : (i : ℕ) (l : tree.Local) → slice_get g.f.locals i ≡ Some l → is_block (local_at (here g) i) ≡ false → IsScalar l.ty
  register_scalar i l e h = (all_at (IsLocal g.t.structs) g.f.locals i l g.is_func.locals e).scalar (sym (ap is_block (local_is i ∙ e)) ∙ h)

  module _ (io : Jumps) (w : Way) (left : List ℕ) (r : Nodes) (q : Position) (goes : GoesS g io w left r q) (vs : List Variable) (b : Blocks) (tm : ℕ → Held) (ob : ℕ → Option ℕ) (agrees : Stands g vs tm ob) where
    -- ---- declarations

    -- the block of a local begins on both sides
    block_begins : (F : Now → Turn Control) (place i k : ℕ) (l : tree.Local) (ns : Nodes) → slice_get g.f.locals i ≡ Some l → home (frame g) i ≡ Some k → IsOpen g i
        → ((xs : List Variable) (c : Blocks) (o : ℕ → Option ℕ) → Stands g xs tm o → o k ≡ Some (length (ended_local i (now g vs b)).world.blocks) → Alike g (F (now g xs c)) (then_ ns q) (own g o tm c))
        → Alike g (F (made_local (here g) i (now g vs b))) (then_ (forms.begins place i (home (frame g) i) ns) q) (own g ob tm b)
    block_begins F place i k l ns e has inside rest =
        let m = begin_block g vs tm ob agrees b i k l e has (inside k has) in
        subst (λ (hm : Option ℕ). Alike g (F (made_local (here g) i (now g vs b))) (then_ (forms.begins place i hm ns) q) (own g ob tm b)) (sym has)
        (stepped g (F (made_local (here g) i (now g vs b))) (then_ (forms.begins place i (Some k) ns) q) (then_ ns q) (own g ob tm b) (begun (lowered g.t) (own g ob tm b) k)
        (begins_object (lowered g.t) g.thread g.answer g.cs' g.s place k ns q (own g ob tm b))
        (subst (λ (x : Now). Alike g (F x) (then_ ns q) (begun (lowered g.t) (own g ob tm b) k)) (sym m.both.source_is)
        (subst (λ (z : Own). Alike g (F (now g m.both.vs' m.both.b')) (then_ ns q) z) (sym m.both.code_is) (rest m.both.vs' m.both.b' m.both.ob' m.both.agrees' m.there))))

    -- a register holds nothing any more, on both sides
    register_begins : (F : Now → Turn Control) (place i : ℕ) (l : tree.Local) (ns : Nodes) → slice_get g.f.locals i ≡ Some l → home (frame g) i ≡ None
        → ((xs : List Variable) (a : ℕ → Held) → Stands g xs a ob → Alike g (F (now g xs b)) (then_ ns q) (own g ob a b))
        → Alike g (F (with_variable i source.unset (now g vs b))) (then_ (forms.begins place i (home (frame g) i) ns) q) (own g ob tm b)
    register_begins F place i l ns e none rest =
        subst (λ (hm : Option ℕ). Alike g (F (with_variable i source.unset (now g vs b))) (then_ (forms.begins place i hm ns) q) (own g ob tm b)) (sym none)
        (set_then (lowered g.t) g.thread g.answer g.cs' g.s g.t (F (now g (set vs i source.unset) b)) place i ir.unset ns q (own g ob tm b) code.unset refl
        (rest (set vs i source.unset) (set_at tm i code.unset) (agrees_value g vs tm ob agrees i l e none source.unset (set_at tm i code.unset) (λ j lt ne. set_there tm i code.unset j ne)
        (subst (InRegister (access_of_type l.ty) source.unset) (sym (set_here tm i code.unset)) no_value))))

    none_at : (place i : ℕ) (l : tree.Local) → slice_get g.f.locals i ≡ Some l → IsOpen g i → (m : Bool) → is_block (local_at (here g) i) ≡ m
        → Alike g (w.end (if m then made_local (here g) i (now g vs b) else with_variable i source.unset (now g vs b))) (then_ (forms.begins place i (home (frame g) i) r) q) (own g ob tm b)
    none_at place i l e inside true h = let k = block_some i h in block_begins w.end place i k.0 l r e k.1 inside (λ xs c o z there. goes.end xs c tm o z)
    none_at place i l e inside false h = register_begins w.end place i l r e (register_none i h) (λ xs a z. goes.end xs b a ob z)

    pub declares_none : (place i : ℕ) (l : tree.Local) → slice_get g.f.locals i ≡ Some l → IsOpen g i → Alike g (declares (here g) place i None w (now g vs b)) (then_ (declare_nodes (frame g) place i None r) q) (own g ob tm b)
    declares_none place i l e inside = none_at place i l e inside (is_block (local_at (here g) i)) refl

    module _ (busy : Calls g.t) where
      some_at : (place i : ℕ) (l : tree.Local) (e : tree.Expr) → slice_get g.f.locals i ≡ Some l → IsTyped (ctx g.t g.n g.f) e → Fits (tree.type_of e) l.ty → IsScalar (tree.type_of e) → IsOpen g i → (m : Bool) → is_block (local_at (here g) i) ≡ m
          → Alike g (if m then run (here g) e (place_way (here g) place (is_atomic_local (local_at (here g) i)) (values.Pointer (To (length (ended_local i (now g vs b)).world.blocks) 0)) w) (made_local (here g) i (now g vs b))
          else run (here g) e (local_way i w) (with_variable i source.unset (now g vs b)))
          (then_ (forms.begins place i (home (frame g) i) (expr_nodes (frame g) e (start g) (forms.initialises place (home (frame g) i) i (start g) (tree.type_of e) r))) q) (own g ob tm b)
      some_at place i l e there typed fits scalar inside true h =
          let k = block_some i h in
          let lt : i < start g = omega (arith, start_is g, within_locals g vs tm ob agrees i k.0 k.1, agrees.count) in
          block_begins (λ x. run (here g) e (place_way (here g) place (is_atomic_local (local_at (here g) i)) (values.Pointer (To (length (ended_local i (now g vs b)).world.blocks) 0)) w) x) place i k.0 l (expr_nodes (frame g) e (start g) (forms.initialises place (home (frame g) i) i (start g) (tree.type_of e) r)) there k.1 inside
          (λ xs d o z is. subst (λ (hm : Option ℕ). Alike g (run (here g) e (place_way (here g) place (is_atomic_local (local_at (here g) i)) (values.Pointer (To (length (ended_local i (now g vs b)).world.blocks) 0)) w) (now g xs d)) (then_ (expr_nodes (frame g) e (start g) (forms.initialises place hm i (start g) (tree.type_of e) r)) q) (own g o tm d)) (sym k.1)
          (expr_sim g busy e typed scalar xs o d tm (place_way (here g) place (is_atomic_local (local_at (here g) i)) (values.Pointer (To (length (ended_local i (now g vs b)).world.blocks) 0)) w) (start g) (forms.initialises place (Some k.0) i (start g) (tree.type_of e) r) q
          (block_goes g xs o d tm z io w left r q goes place _ i k.0 (length (ended_local i (now g vs b)).world.blocks) (access_of_type (tree.type_of e)) (pointed (frame g) e) k.1 lt is)))
      some_at place i l e there typed fits scalar inside false h =
          let none = register_none i h in
          register_begins (λ x. run (here g) e (local_way i w) x) place i l (expr_nodes (frame g) e (start g) (forms.initialises place (home (frame g) i) i (start g) (tree.type_of e) r)) there none
          (λ xs a z. subst (λ (hm : Option ℕ). Alike g (run (here g) e (local_way i w) (now g xs b)) (then_ (expr_nodes (frame g) e (start g) (forms.initialises place hm i (start g) (tree.type_of e) r)) q) (own g ob a b)) (sym none)
          (expr_sim g busy e typed scalar xs ob b a (local_way i w) (start g) (forms.initialises place None i (start g) (tree.type_of e) r) q
          (of_kind g xs ob b a (local_way i w) (start g) (access_of_type l.ty) (access_of_type (tree.type_of e)) (pointed (frame g) e) (forms.initialises place None i (start g) (tree.type_of e) r) q (sym (fits_access (tree.type_of e) l.ty fits))
          (local_goes g xs ob b a z io w left r q goes place i l (pointed (frame g) e) there none))))

      pub declares_some : (place i : ℕ) (l : tree.Local) (e : tree.Expr) → slice_get g.f.locals i ≡ Some l → IsTyped (ctx g.t g.n g.f) e → Fits (tree.type_of e) l.ty → IsScalar (tree.type_of e) → IsOpen g i
          → Alike g (declares (here g) place i (Some e) w (now g vs b)) (then_ (declare_nodes (frame g) place i (Some e) r) q) (own g ob tm b)
      declares_some place i l e there typed fits scalar inside = some_at place i l e there typed fits scalar inside (is_block (local_at (here g) i)) refl

      -- ---- assignments

      object_at : (x right : tree.Expr) → IsTyped (ctx g.t g.n g.f) x → IsTyped (ctx g.t g.n g.f) right → IsPlace (frame g) (tree.node_of x) → Fits (tree.type_of right) (tree.type_of x) → (m : Bool) → is_struct (tree.type_of x) ≡ m
          → Alike g ((if m then run_place (here g) x (struct_left_way (here g) (tree.place_of x) (tree.type_of x) right w) else run_place (here g) x (left_way (here g) (tree.place_of x) (is_atomic (tree.type_of x)) right w)) (now g vs b))
          (then_ (if m then copy_nodes (frame g) x right (start g) r else store_nodes (frame g) x right (start g) r) q) (own g ob tm b)
      object_at x right tx tr p fits true e =
          let s = struct_of (tree.type_of x) e in
          let same_struct : tree.type_of right ≡ tree.structure s.0 = fits_struct (tree.type_of right) s.0 (subst (Fits (tree.type_of right)) s.1 fits) in
          let small : size_in g.t.structs (tree.type_of x) < 2 ^ 64 = subst (λ z. size_in g.t.structs z < 2 ^ 64) (sym s.1) (size_small g.t g.well s.0) in
          let right_place = struct_is_place g.t g.n g.f g.a right s.0 g.is_func.locals tr same_struct (struct_expr_lvalue g s.0 right tr same_struct) in
          place_sim g busy x tx p vs ob b tm (struct_left_way (here g) (tree.place_of x) (tree.type_of x) right w) (start g) _ q
          (struct_left_goes g vs ob b io w left r q goes tm agrees (tree.place_of x) (tree.type_of x) right (reach (frame g) x) tr right_place small (place_sim g busy right tr right_place))
      object_at x right tx tr p fits false e =
          let scalar = fits_number (tree.type_of right) (tree.type_of x) fits e in
          place_sim g busy x tx p vs ob b tm (left_way (here g) (tree.place_of x) (is_atomic (tree.type_of x)) right w) (start g) _ q
          (left_goes g vs ob b io w left r q goes tm agrees (tree.place_of x) (is_atomic (tree.type_of x)) right (access_of_type (tree.type_of x)) (reach (frame g) x) tr scalar (fits_access (tree.type_of right) (tree.type_of x) fits) (expr_sim g busy right tr scalar))

      object_alike : (x right : tree.Expr) → IsTyped (ctx g.t g.n g.f) x → IsTyped (ctx g.t g.n g.f) right → IsPlace (frame g) (tree.node_of x) → Fits (tree.type_of right) (tree.type_of x)
          → Alike g (assigns_object (here g) x right w (now g vs b)) (then_ (object_assign (frame g) x right (start g) r) q) (own g ob tm b)
      object_alike x right tx tr p fits = object_at x right tx tr p fits (is_struct (tree.type_of x)) refl

      local_at_alike : (place where_ : ℕ) (ty : tree.Ty) (i : ℕ) (right : tree.Expr) → IsTypedNode (ctx g.t g.n g.f) ty (tree.local i) → IsTyped (ctx g.t g.n g.f) right → Fits (tree.type_of right) ty → (m : Bool) → is_block (local_at (here g) i) ≡ m
          → Alike g ((if m then assigns_object (here g) (tree.at where_ ty (tree.local i)) right w else run (here g) right (local_way i w)) (now g vs b))
          (then_ (assign_nodes (frame g) place (register_if i (home (frame g) i)) (tree.at where_ ty (tree.local i)) right (start g) r) q) (own g ob tm b)
      local_at_alike place where_ ty i right h tr fits true e =
          let k = block_some i e in
          subst (λ (hm : Option ℕ). Alike g (assigns_object (here g) (tree.at where_ ty (tree.local i)) right w (now g vs b)) (then_ (assign_nodes (frame g) place (register_if i hm) (tree.at where_ ty (tree.local i)) right (start g) r) q) (own g ob tm b)) (sym k.1)
          (object_alike (tree.at where_ ty (tree.local i)) right h tr k fits)
      local_at_alike place where_ ty i right h tr fits false e =
          let none = register_none i e in
          let fits_local : Fits (tree.type_of right) (h.0).ty = subst (Fits (tree.type_of right)) (sym h.2) fits in
          let scalar : IsScalar (tree.type_of right) = fits_scalar (tree.type_of right) (h.0).ty fits_local (register_scalar i h.0 h.1 e) in
          subst (λ (hm : Option ℕ). Alike g (run (here g) right (local_way i w) (now g vs b)) (then_ (assign_nodes (frame g) place (register_if i hm) (tree.at where_ ty (tree.local i)) right (start g) r) q) (own g ob tm b)) (sym none)
          (expr_sim g busy right tr scalar vs ob b tm (local_way i w) (start g) (forms.sets place i (ir.copy (start g)) r) q
          (of_kind g vs ob b tm (local_way i w) (start g) (access_of_type (h.0).ty) (access_of_type (tree.type_of right)) (pointed (frame g) right) (forms.sets place i (ir.copy (start g)) r) q (sym (fits_access (tree.type_of right) (h.0).ty fits_local))
          (local_goes g vs ob b tm agrees io w left r q goes place i h.0 (pointed (frame g) right) h.1 none)))

      pub assigns_alike : (place : ℕ) (x right : tree.Expr) → IsTyped (ctx g.t g.n g.f) x → IsTyped (ctx g.t g.n g.f) right → IsLvalue (tree.node_of x) → Fits (tree.type_of right) (tree.type_of x)
          → Alike g (assigns (here g) (tree.node_of x) x right w (now g vs b)) (then_ (assign_nodes (frame g) place (own_register (frame g) (tree.node_of x)) x right (start g) r) q) (own g ob tm b)
      assigns_alike place (tree.at where_ ty (tree.local i)) right tx tr v fits = local_at_alike place where_ ty i right tx tr fits (is_block (local_at (here g) i)) refl
      assigns_alike place (tree.at where_ ty (tree.literal i)) right tx tr v fits = object_alike (tree.at where_ ty (tree.literal i)) right tx tr tt fits
      assigns_alike place (tree.at where_ ty (tree.global i)) right tx tr v fits = object_alike (tree.at where_ ty (tree.global i)) right tx tr tt fits
      assigns_alike place (tree.at where_ ty (tree.deref e)) right tx tr v fits = object_alike (tree.at where_ ty (tree.deref e)) right tx tr tt fits
      assigns_alike place (tree.at where_ ty (tree.member e i)) right tx tr v fits = object_alike (tree.at where_ ty (tree.member e i)) right tx tr tt fits
      assigns_alike place (tree.at where_ ty node) right tx tr v fits = elim v [ ]

      -- ---- compound assignments

      updated_alike : (place : ℕ) (op : Op) (x right : tree.Expr) → IsTyped (ctx g.t g.n g.f) x → IsTyped (ctx g.t g.n g.f) right → IsPlace (frame g) (tree.node_of x) → CanUpdate g.t.structs op (tree.type_of x) (tree.type_of right)
          → Alike g (run_place (here g) x (update_left_way (here g) (update_of place x op) right w) (now g vs b)) (then_ (update_object (frame g) place op x right (start g) r) q) (own g ob tm b)
      updated_alike place op x right tx tr p can =
          let scalar = can_scalar g.t.structs op (tree.type_of x) (tree.type_of right) can in
          place_sim g busy x tx p vs ob b tm (update_left_way (here g) (update_of place x op) right w) (start g) _ q
          (updated_goes g vs ob b io w left r q goes tm agrees busy place x right op can (reach (frame g) x) tr scalar (expr_sim g busy right tr scalar))

      local_updated : (place where_ : ℕ) (op : Op) (ty : tree.Ty) (i : ℕ) (right : tree.Expr) → IsTypedNode (ctx g.t g.n g.f) ty (tree.local i) → IsTyped (ctx g.t g.n g.f) right → CanUpdate g.t.structs op ty (tree.type_of right) → (m : Bool) → is_block (local_at (here g) i) ≡ m
          → Alike g ((if m then run_place (here g) (tree.at where_ ty (tree.local i)) (update_left_way (here g) (update_of place (tree.at where_ ty (tree.local i)) op) right w)
          else run (here g) right (update_local_way (here g) (update_of place (tree.at where_ ty (tree.local i)) op) i w)) (now g vs b))
          (then_ (update_nodes (frame g) place op (register_if i (home (frame g) i)) (tree.at where_ ty (tree.local i)) right (start g) r) q) (own g ob tm b)
      local_updated place where_ op ty i right h tr can true e =
          let k = block_some i e in
          subst (λ (hm : Option ℕ). Alike g (run_place (here g) (tree.at where_ ty (tree.local i)) (update_left_way (here g) (update_of place (tree.at where_ ty (tree.local i)) op) right w) (now g vs b))
          (then_ (update_nodes (frame g) place op (register_if i hm) (tree.at where_ ty (tree.local i)) right (start g) r) q) (own g ob tm b)) (sym k.1)
          (updated_alike place op (tree.at where_ ty (tree.local i)) right h tr k can)
      local_updated place where_ op ty i right h tr can false e =
          let none = register_none i e in
          let scalar = can_scalar g.t.structs op ty (tree.type_of right) can in
          subst (λ (hm : Option ℕ). Alike g (run (here g) right (update_local_way (here g) (update_of place (tree.at where_ ty (tree.local i)) op) i w) (now g vs b))
          (then_ (update_nodes (frame g) place op (register_if i hm) (tree.at where_ ty (tree.local i)) right (start g) r) q) (own g ob tm b)) (sym none)
          (expr_sim g busy right tr scalar vs ob b tm (update_local_way (here g) (update_of place (tree.at where_ ty (tree.local i)) op) i w) (start g) _ q
          (update_local_goes g vs ob b tm agrees io w left r q goes place i h.0 (tree.at where_ ty (tree.local i)) right op (pointed (frame g) right) h.1 none (sym h.2) (subst IsScalar h.2 (register_scalar i h.0 h.1 e)) can))

      pub updates_alike : (place : ℕ) (op : Op) (x right : tree.Expr) → IsTyped (ctx g.t g.n g.f) x → IsTyped (ctx g.t g.n g.f) right → IsLvalue (tree.node_of x) → CanUpdate g.t.structs op (tree.type_of x) (tree.type_of right)
          → Alike g (updates (here g) (update_of place x op) (tree.node_of x) x right w (now g vs b)) (then_ (update_nodes (frame g) place op (own_register (frame g) (tree.node_of x)) x right (start g) r) q) (own g ob tm b)
      updates_alike place op (tree.at where_ ty (tree.local i)) right tx tr v can = local_updated place where_ op ty i right tx tr can (is_block (local_at (here g) i)) refl
      updates_alike place op (tree.at where_ ty (tree.literal i)) right tx tr v can = updated_alike place op (tree.at where_ ty (tree.literal i)) right tx tr tt can
      updates_alike place op (tree.at where_ ty (tree.global i)) right tx tr v can = updated_alike place op (tree.at where_ ty (tree.global i)) right tx tr tt can
      updates_alike place op (tree.at where_ ty (tree.deref e)) right tx tr v can = updated_alike place op (tree.at where_ ty (tree.deref e)) right tx tr tt can
      updates_alike place op (tree.at where_ ty (tree.member e i)) right tx tr v can = updated_alike place op (tree.at where_ ty (tree.member e i)) right tx tr tt can
      updates_alike place op (tree.at where_ ty node) right tx tr v can = elim v [ ]
