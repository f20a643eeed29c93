-- The code of an expression does what the expression does.
use Rattle.std.proofs.Common.{◌≡◌, ℕ, suc, ◌+◌, ◌≤◌, ◌⊎◌, inl, inr, List, [], ◌∷◌, ◌++◌, length, Option, None, Ok, refl, sym, ap, subst, ◌∙◌, arith, append_assoc, append-nil, if◌then◌else◌}
use Rattle.ak_words.specs.IntType.{int}
use Rattle.ak_words.specs.Num.{num}
use Rattle.block_store.specs.declared.values.Access.{Access}
use Rattle.block_store.specs.declared.values.Access.TheVariants as accesses
use Rattle.block_store.specs.declared.values.Ptr.TheVariants.{Null, To}
use Rattle.block_store.specs.declared.values.Value.{Value}
use Rattle.block_store.specs.declared.values.Value.TheVariants as values
use Rattle.block_store.specs.Blocks.{Blocks}
use Rattle.c_tree.specs.Typed as tree
use Rattle.c_tree.specs.TypedForm.{IsScalar, IsFunc, IsTyped, IsTypedNode, AreTyped, AreArguments, Signature, signature_of}
use Rattle.c_meaning.specs.Values.{on_numbers, forward, backward, distance, on_pointers, selects, member_offset, element_size, access_of_type, is_atomic, tests, negates, converts}
use Rattle.c_meaning.specs.Control.{Variable, Wait, wanted, dropped, Callee, function, library}
use Rattle.c_meaning.specs.Turns.{WayOfUse, run, run_node, run_place_node, run_arguments, calls, only_way, read_way, first_way, argument_way}
use Rattle.struct_ir.specs.Nodes as ir
use Rattle.struct_ir.specs.Nodes.{Nodes}
use Rattle.struct_ir.specs.Structured.{Position, then_}
use Rattle.struct_ir.specs.meaning.Blocks.{Held, value, pointer, set_at, calculated}
use Rattle.lower_forms.specs.Forms as forms
use Rattle.lower_forms.specs.Forms.{home, sets, Reach, found, direct_if, is_pointer, register_of, member_reach, pointed, pointed_in, reach, reach_in, expr_nodes, value_nodes, object_place, args_nodes, lib_nodes}
use Rattle.lower_forms.specs.Programs.{globals_lowered, lowered}
use Rattle.lower_turns.proofs.Relation.{ctx, HasKind, Below, Points, no_join, ConvertFits, to_number, from_atomic, to_pointer, HasValues, Calls, CallIs, AreScalars, IsPlace, Taken, none_yet, one_more, Stand, AtE, at_wanted, at_dropped}
use Rattle.lower_turns.proofs.Registers.{set_here, below_same, taken_le, taken_below, use_below, below_less}
use Rattle.lower_turns.proofs.Operands.{pointer_access, pointer_scalar, integer_scalar, sized_pointer, operands_fit, operand_scalars, moved_scalars, sum_fits, sum_calculated, numbers_calculated, backward_fits, distance_fits, compare_fits, convert_fits, convert_values, scalar_values, argument_scalars, lib_scalars, pointed_is, sum_joins}
use Rattle.lower_turns.proofs.Steps.{set_then}
use Rattle.lower_turns.proofs.Setting.{Stands, Setting, here, now, own, Alike, frame, start, agrees_on, GoesE, anyhow, of_kind}
use Rattle.lower_turns.proofs.Uses.{gets, not_goes, test_goes, member_goes, convert_goes, read_goes}
use Rattle.lower_turns.proofs.Tests.{SimE, SimP, first_goes, and_goes, or_goes, choice_goes, local_alike, found_alike}
use Rattle.lower_turns.proofs.Calls.{all_at, nth_mapped, WaitIs, wait_wanted, wait_dropped, nodes_for, enters_alike}
use Rattle.lower_turns.proofs.LibraryCalls.{library_alike}
use Rattle.lower_turns.proofs.Layouts.{offset_small}
use Rattle.lower_turns.proofs.Locals.{member_place, memory_place, signature_scalars}

-- ---- arguments

taken_stand : (tm : ℕ → Held) (all : tree.Exprs) (u : ℕ) (rest : tree.Exprs) (before : List Value) (v : ℕ) → Taken tm all u rest before v → (vs : List Value) → Stand tm rest vs v → Stand tm all (before ++ vs) u
taken_stand tm all u _ _ _ none_yet vs s = s
taken_stand tm all u _ _ _ (one_more {e} {rest} {before} {t} v k is more) vs s =
    subst (λ xs. Stand tm all xs u) (sym (append_assoc before (v ∷ []) vs)) (taken_stand tm all u (tree.more_exprs e rest) before t more (v ∷ vs) (k, is, s))

all_stand : (tm : ℕ → Held) (all : tree.Exprs) (u : ℕ) (before : List Value) (v : ℕ) → Taken tm all u tree.no_exprs before v → Stand tm all before u
all_stand tm all u before v h = subst (λ xs. Stand tm all xs u) (append-nil before) (taken_stand tm all u tree.no_exprs before v h [] tt)

globals_long : (structs : List tree.Layout) (gs : List tree.GlobalVar) → length (globals_lowered structs gs) ≡ length gs
globals_long structs [] = refl
globals_long structs (x ∷ gs) = ap suc (globals_long structs gs)

library_nodes : (kw : Wait) (place : ℕ) (which : tree.Lib) (all : tree.Exprs) (u : ℕ) (r : Nodes) → nodes_for kw place (library which) all u r ≡ lib_nodes place which all u r
library_nodes (wanted p k) place which all u r = refl
library_nodes (dropped k) place which all u r = refl

-- how a conversion is reached: as its operand is, or by its own pointer
convert_reach : (fr : forms.Frame) (e : tree.Expr) (ty : tree.Ty) (from : tree.Ty) → ConvertFits from ty → (direct_if (if is_pointer ty then register_of fr e else None) ≡ found) ⊎ (direct_if (if is_pointer ty then register_of fr e else None) ≡ pointed fr e)
convert_reach fr e _ _ (to_number x y) = inl refl
convert_reach fr e _ _ (from_atomic x) = inl refl
convert_reach fr e _ _ (to_pointer x y) = by_case (pointed_is fr e)
  where
    by_case : (pointed fr e ≡ direct_if (register_of fr e)) ⊎ (register_of fr e ≡ None) → (direct_if (register_of fr e) ≡ found) ⊎ (direct_if (register_of fr e) ≡ pointed fr e)
    by_case (inl h) = inr (sym h)
    by_case (inr h) = inl (ap direct_if h)

module _ (g : Setting) (busy : Calls g.t) where
  -- the code of arguments, and of the call
  abbrev pub SimArgs : tree.Exprs → Type 0
  SimArgs rest = (vs : List Variable) (ob : ℕ → Option ℕ) (b : Blocks) (tm : ℕ → Held) (place : ℕ) (callee : Callee) (all : tree.Exprs) (before : List Value) (kw : Wait) (u v : ℕ) (ty : tree.Ty) (r : Nodes) (q : Position)
      → AreScalars rest → CallIs (ctx g.t g.n g.f) callee all ty → AreScalars all → WaitIs g ob tm place ty kw u r q → Taken tm all u rest before v → Stands g vs tm ob
      → Alike g (run_arguments (here g) place callee rest before kw (now g vs b)) (then_ (args_nodes (frame g) rest v (nodes_for kw place callee all u r)) q) (own g ob tm b)

  wait_below : (ob : ℕ → Option ℕ) (a c : ℕ → Held) (place : ℕ) (ty : tree.Ty) (kw : Wait) (u v : ℕ) (r : Nodes) (q : Position) → u ≤ v → Below v a c → WaitIs g ob a place ty kw u r q → WaitIs g ob c place ty kw u r q
  wait_below ob a c place ty _ _ v _ _ le below (wait_wanted {k} {u} {r} {q} scalar above at) =
      wait_wanted scalar above (use_below g.t g.n g.f ob a c g.a k u (access_of_type ty) found r q at (below_less v u a c le below))
  wait_below ob a c place ty _ _ v _ _ le below (wait_dropped above at) = wait_dropped above at

  wait_above : (ob : ℕ → Option ℕ) (a : ℕ → Held) (place : ℕ) (ty : tree.Ty) (kw : Wait) (u : ℕ) (r : Nodes) (q : Position) → WaitIs g ob a place ty kw u r q → start g ≤ u
  wait_above ob a place ty _ _ _ _ (wait_wanted scalar above at) = above
  wait_above ob a place ty _ _ _ _ (wait_dropped above at) = above

  -- the call itself
  call_alike : (vs : List Variable) (ob : ℕ → Option ℕ) (b : Blocks) (tm : ℕ → Held) (place : ℕ) (callee : Callee) (all : tree.Exprs) (before : List Value) (kw : Wait) (u : ℕ) (ty : tree.Ty) (r : Nodes) (q : Position)
      → CallIs (ctx g.t g.n g.f) callee all ty → AreScalars all → WaitIs g ob tm place ty kw u r q → Stand tm all before u → Stands g vs tm ob
      → Alike g (calls (here g) place callee before kw (now g vs b)) (then_ (nodes_for kw place callee all u r) q) (own g ob tm b)
  call_alike vs ob b tm place (function m) all before kw u ty r q c scalars waits stand agrees =
      let f = nth_mapped signature_of g.t.funcs m c.0 c.1 in
      let is = all_at (IsFunc g.t) g.t.funcs m f.0 g.well.funcs f.1 in
      let params : AreArguments (signature_of f.0).params all = subst (λ (s : Signature). AreArguments s.params all) (sym f.2) c.2.0 in
      enters_alike g busy vs ob b tm agrees place m all before u f.0 f.1 (params, is.in_registers) stand ty (c.2.1 ∙ ap (λ (s : Signature). s.result) (sym f.2)) kw r q waits
  call_alike vs ob b tm place (library which) all before kw u ty r q c scalars waits stand agrees =
      subst (λ ns. Alike g (calls (here g) place (library which) before kw (now g vs b)) (then_ ns q) (own g ob tm b)) (sym (library_nodes kw place which all u r))
      (library_alike g busy vs ob b tm agrees place ty u kw r q waits which all before c scalars stand)

  argument_at : (ob : ℕ → Option ℕ) (tm : ℕ → Held) (place : ℕ) (callee : Callee) (all : tree.Exprs) (e : tree.Expr) (rest : tree.Exprs) (before : List Value) (kw : Wait) (u v : ℕ) (ty : tree.Ty) (rch : Reach) (r : Nodes) (q : Position)
      → AreTyped (ctx g.t g.n g.f) rest → AreScalars rest → CallIs (ctx g.t g.n g.f) callee all ty → AreScalars all → WaitIs g ob tm place ty kw u r q → Taken tm all u (tree.more_exprs e rest) before v
      → AtE g.t g.n g.f ob tm g.a (Rattle.c_meaning.specs.Control.argument place callee before rest kw) v (access_of_type (tree.type_of e)) rch (args_nodes (frame g) rest (suc v) (nodes_for kw place callee all u r)) q
  argument_at ob tm place callee all e rest before _ _ v ty rch _ _ typed scalars c all_scalars (wait_wanted scalar above at) taken =
      at_wanted place callee all e rest before v ty rch typed scalars c all_scalars scalar taken above at
  argument_at ob tm place callee all e rest before _ _ v ty rch _ _ typed scalars c all_scalars (wait_dropped above at) taken =
      at_dropped place callee all e rest before v ty rch typed scalars c all_scalars taken above at

  -- one argument, and then the rest
  pub argument_goes : (e : tree.Expr) (rest : tree.Exprs) → AreTyped (ctx g.t g.n g.f) rest → SimArgs rest
      → (vs : List Variable) (ob : ℕ → Option ℕ) (b : Blocks) (tm : ℕ → Held) (place : ℕ) (callee : Callee) (all : tree.Exprs) (before : List Value) (kw : Wait) (u v : ℕ) (ty : tree.Ty) (rch : Reach) (r : Nodes) (q : Position)
      → AreScalars rest → CallIs (ctx g.t g.n g.f) callee all ty → AreScalars all → WaitIs g ob tm place ty kw u r q → Taken tm all u (tree.more_exprs e rest) before v → Stands g vs tm ob
      → GoesE g vs ob b tm (argument_way place callee before rest (run_arguments (here g) place callee rest) kw) v (access_of_type (tree.type_of e)) rch (args_nodes (frame g) rest (suc v) (nodes_for kw place callee all u r)) q
  argument_goes e rest typed sim vs ob b tm place callee all before kw u v ty rch r q scalars c all_scalars waits taken agrees =
      let le : u ≤ v = taken_le tm all u (tree.more_exprs e rest) before v taken in
      let above : start g ≤ v = omega (arith, wait_above ob tm place ty kw u r q waits, le) in
      record {
        at = argument_at ob tm place callee all e rest before kw u v ty rch r q typed scalars c all_scalars waits taken;
        above = above;
        agrees = agrees;
        go = λ x a kind below is points.
            sim vs ob b a place callee all (before ++ x ∷ []) kw u (suc v) ty r q scalars c all_scalars (wait_below ob tm a place ty kw u v r q le below waits)
            (one_more x kind is (taken_below tm a all u (tree.more_exprs e rest) before v taken below)) (agrees_on g vs tm a ob v above agrees below);
      }

  -- ---- forms without parts

  -- a value that is there at once
  module _ (vs : List Variable) (ob : ℕ → Option ℕ) (b : Blocks) (tm : ℕ → Held) (w : WayOfUse) (u : ℕ) (r : Nodes) (q : Position) where
    at_once : (how : Access) (rch : Reach) → GoesE g vs ob b tm w u how rch r q → (place : ℕ) (calc : ir.Calc) (v : Value) → calculated (lowered g.t) place (own g ob tm b) calc ≡ Ok (value v) → HasKind how v
        → Points (set_at tm u (value v)) rch u v → Alike g (w.go v (now g vs b)) (then_ (sets place u calc r) q) (own g ob tm b)
    at_once how rch goes place calc v e kind points =
        set_then (lowered g.t) g.thread g.answer g.cs' g.s g.t (w.go v (now g vs b)) place u calc r q (own g ob tm b) (value v) e (gets g vs ob b tm tm w u how rch r q goes (below_same u tm) v kind points)

    global_place : GoesE g vs ob b tm w u accesses.Pointer found r q → (place i : ℕ) → Alike g (w.go (values.Pointer (To i 0)) (now g vs b)) (then_ (sets place u (ir.global i) r) q) (own g ob tm b)
    global_place goes place i = at_once accesses.Pointer found goes place (ir.global i) (values.Pointer (To i 0)) refl tt (set_here tm u (pointer (To i 0)))

    literal_place : GoesE g vs ob b tm w u accesses.Pointer found r q → (place i : ℕ)
        → Alike g (w.go (values.Pointer (To (length g.t.globals + i) 0)) (now g vs b)) (then_ (sets place u (ir.literal i) r) q) (own g ob tm b)
    literal_place goes place i =
        at_once accesses.Pointer found goes place (ir.literal i) (values.Pointer (To (length g.t.globals + i) 0)) (ap (λ n. Ok (pointer (To (n + i) 0))) (globals_long g.t.structs g.t.globals)) tt
        (set_here tm u (pointer (To (length g.t.globals + i) 0)))

    converted_goes : (place : ℕ) (e : tree.Expr) (ty : tree.Ty) → ConvertFits (tree.type_of e) ty → GoesE g vs ob b tm w u (access_of_type ty) (direct_if (if is_pointer ty then register_of (frame g) e else None)) r q
        → GoesE g vs ob b tm (only_way place (converts ty) w) u (access_of_type (tree.type_of e)) (pointed (frame g) e) (forms.converts place (tree.type_of e) ty u r) q
    converted_goes place e ty fits goes = by_case (convert_reach (frame g) e ty (tree.type_of e) fits)
      where
        by_case : (direct_if (if is_pointer ty then register_of (frame g) e else None) ≡ found) ⊎ (direct_if (if is_pointer ty then register_of (frame g) e else None) ≡ pointed (frame g) e)
            → GoesE g vs ob b tm (only_way place (converts ty) w) u (access_of_type (tree.type_of e)) (pointed (frame g) e) (forms.converts place (tree.type_of e) ty u r) q
        by_case (inl h) =
            anyhow g vs ob b tm (only_way place (converts ty) w) u (access_of_type (tree.type_of e)) (pointed (frame g) e) (forms.converts place (tree.type_of e) ty u r) q
            (convert_goes g vs ob b tm w u r q place (tree.type_of e) ty found fits (subst (λ z. GoesE g vs ob b tm w u (access_of_type ty) z r q) h goes))
        by_case (inr h) = convert_goes g vs ob b tm w u r q place (tree.type_of e) ty (pointed (frame g) e) fits (subst (λ z. GoesE g vs ob b tm w u (access_of_type ty) z r q) h goes)

  -- ---- every form

  mutual
    pub expr_sim : (e : tree.Expr) → IsTyped (ctx g.t g.n g.f) e → IsScalar (tree.type_of e) → SimE g e
    expr_sim (tree.at place ty node) h s vs ob b tm w u r q goes = value_sim place ty node h (scalar_values ty s) vs ob b tm w u r q goes

    -- the number of an object that is atomic, too
    values_sim : (e : tree.Expr) → IsTyped (ctx g.t g.n g.f) e → HasValues (tree.type_of e) → SimE g e
    values_sim (tree.at place ty node) h s vs ob b tm w u r q goes = value_sim place ty node h s vs ob b tm w u r q goes

    pub value_sim : (place : ℕ) (ty : tree.Ty) (node : tree.ExprNode) → IsTypedNode (ctx g.t g.n g.f) ty node → HasValues ty
        → (vs : List Variable) (ob : ℕ → Option ℕ) (b : Blocks) (tm : ℕ → Held) (w : WayOfUse) (u : ℕ) (r : Nodes) (q : Position)
        → GoesE g vs ob b tm w u (access_of_type ty) (pointed_in (frame g) ty node) r q
        → Alike g (run_node (here g) place ty node w (now g vs b)) (then_ (value_nodes (frame g) place ty node u r) q) (own g ob tm b)
    value_sim place ty (tree.num x z) h s vs ob b tm w u r q goes =
        at_once vs ob b tm w u r q (access_of_type ty) found goes place (ir.constant x z) (values.Num (num x z)) refl (subst (λ y. HasKind (access_of_type y) (values.Num (num x z))) (sym h.0) refl) tt
    value_sim place ty tree.null h s vs ob b tm w u r q goes =
        at_once vs ob b tm w u r q (access_of_type ty) found goes place ir.null (values.Pointer Null) refl (subst (λ y. HasKind y (values.Pointer Null)) (sym (pointer_access ty h)) tt) (set_here tm u (pointer Null))
    value_sim place ty (tree.literal i) h s vs ob b tm w u r q goes = elim (subst HasValues h.2 s) [ ]
    value_sim place ty (tree.global i) h s vs ob b tm w u r q goes =
        global_place vs ob b tm (read_way (here g) place (access_of_type ty) (is_atomic ty) w) u (forms.loads place ty found u r) q (read_goes g vs ob b tm w u r q busy (access_of_type ty) goes place (is_atomic ty) found) place i
    value_sim place ty (tree.local i) h s vs ob b tm w u r q goes =
        local_alike g vs ob b tm w u r q busy place i ty h.0 h.1 h.2 (home (frame g) i) refl goes
    value_sim place ty (tree.deref e) h s vs ob b tm w u r q goes =
        expr_sim e h.0 (subst IsScalar (sym h.1) tt) vs ob b tm (read_way (here g) place (access_of_type ty) (is_atomic ty) w) u (forms.loads place ty (pointed (frame g) e) u r) q
        (of_kind g vs ob b tm (read_way (here g) place (access_of_type ty) (is_atomic ty) w) u accesses.Pointer (access_of_type (tree.type_of e)) (pointed (frame g) e) (forms.loads place ty (pointed (frame g) e) u r) q (sym (ap access_of_type h.1))
        (read_goes g vs ob b tm w u r q busy (access_of_type ty) goes place (is_atomic ty) (pointed (frame g) e)))
    value_sim place ty (tree.member e i) h s vs ob b tm w u r q goes =
        place_sim e h.0 (member_place g.t g.n g.f g.a e i ty g.is_func.locals h.0 h.1 h.2) vs ob b tm (only_way place (selects (member_offset g.t.structs (tree.type_of e) i)) (read_way (here g) place (access_of_type ty) (is_atomic ty) w)) u _ q
        (member_goes g vs ob b tm (read_way (here g) place (access_of_type ty) (is_atomic ty) w) u (forms.loads place ty (member_reach (member_offset g.t.structs (tree.type_of e) i) (reach (frame g) e)) u r) q place (member_offset g.t.structs (tree.type_of e) i) (reach (frame g) e)
        (offset_small g.t g.well (tree.type_of e) i) (read_goes g vs ob b tm w u r q busy (access_of_type ty) goes place (is_atomic ty) (member_reach (member_offset g.t.structs (tree.type_of e) i) (reach (frame g) e))))
    value_sim place ty (tree.address_of e) h s vs ob b tm w u r q goes =
        place_sim e h.0 (memory_place g.t g.n g.f g.a (tree.node_of e) h.1) vs ob b tm w u r q
        (anyhow g vs ob b tm w u accesses.Pointer (reach (frame g) e) r q (of_kind g vs ob b tm w u (access_of_type ty) accesses.Pointer found r q (ap access_of_type h.2) goes))
    value_sim place ty (tree.decay e) h s vs ob b tm w u r q goes =
        place_sim e h.0 (memory_place g.t g.n g.f g.a (tree.node_of e) h.1) vs ob b tm w u r q
        (anyhow g vs ob b tm w u accesses.Pointer (reach (frame g) e) r q (of_kind g vs ob b tm w u (access_of_type ty) accesses.Pointer found r q (ap access_of_type h.2.3) goes))
    value_sim place ty (tree.convert e) h s vs ob b tm w u r q goes =
        let fits = convert_fits (tree.type_of e) ty h.1 s in
        values_sim e h.0 (convert_values (tree.type_of e) ty fits) vs ob b tm (only_way place (converts ty) w) u (forms.converts place (tree.type_of e) ty u r) q (converted_goes vs ob b tm w u r q place e ty fits goes)
    value_sim place ty (tree.not_ e) h s vs ob b tm w u r q goes =
        expr_sim e h.0 h.1 vs ob b tm (only_way place negates w) u (forms.negation place (tree.type_of e) u r) q
        (not_goes g vs ob b tm w u r q (of_kind g vs ob b tm w u (access_of_type ty) (accesses.Number int) found r q (ap access_of_type h.2) goes) place (tree.type_of e) (pointed (frame g) e))
    value_sim place ty (tree.binary op x y) h s vs ob b tm w u r q goes =
        let k = operand_scalars op (tree.type_of x) (tree.type_of y) h.2 in
        subst (λ c. Alike g (run_node (here g) place ty (tree.binary op x y) w (now g vs b)) (then_ (expr_nodes (frame g) x u (expr_nodes (frame g) y (suc u) (forms.sets place u c r))) q) (own g ob tm b)) (numbers_calculated op (tree.type_of x) u (suc u))
        (expr_sim x h.0 k.0 vs ob b tm (first_way place (on_numbers op) y (run (here g) y) w) u _ q
        (first_goes g vs ob b tm w u r q (access_of_type ty) found goes place (on_numbers op) y (access_of_type (tree.type_of x)) (pointed (frame g) x) h.1 k.1
        (operands_fit op (tree.type_of x) (tree.type_of y) ty h.2 h.3) (no_join (on_numbers op) (access_of_type (tree.type_of x)) (pointed (frame g) x)) (expr_sim y h.1 k.1)))
    value_sim place ty (tree.and_also x y) h s vs ob b tm w u r q goes =
        expr_sim x h.0 h.2 vs ob b tm _ u _ q
        (and_goes g vs ob b tm w u r q (of_kind g vs ob b tm w u (access_of_type ty) (accesses.Number int) found r q (ap access_of_type h.4) goes) (tree.place_of x) y (access_of_type (tree.type_of x)) (pointed (frame g) x) h.1 h.3 (expr_sim y h.1 h.3))
    value_sim place ty (tree.or_else x y) h s vs ob b tm w u r q goes =
        expr_sim x h.0 h.2 vs ob b tm _ u _ q
        (or_goes g vs ob b tm w u r q (of_kind g vs ob b tm w u (access_of_type ty) (accesses.Number int) found r q (ap access_of_type h.4) goes) (tree.place_of x) y (access_of_type (tree.type_of x)) (pointed (frame g) x) h.1 h.3 (expr_sim y h.1 h.3))
    value_sim place ty (tree.choose x y z) h s vs ob b tm w u r q goes =
        expr_sim x h.0 h.3 vs ob b tm _ u _ q
        (choice_goes g vs ob b tm w u r q (access_of_type ty) goes (tree.place_of x) y z (access_of_type (tree.type_of x)) (pointed (frame g) x)
        h.1 (subst IsScalar (sym h.5) (integer_scalar ty h.4)) (ap access_of_type h.5) (expr_sim y h.1 (subst IsScalar (sym h.5) (integer_scalar ty h.4)))
        h.2 (subst IsScalar (sym h.6) (integer_scalar ty h.4)) (ap access_of_type h.6) (expr_sim z h.2 (subst IsScalar (sym h.6) (integer_scalar ty h.4))))
    value_sim place ty (tree.pointer_add x y) h s vs ob b tm w u r q goes =
        let k = moved_scalars g.t.structs (tree.type_of x) (tree.type_of y) ty h.2 in
        subst (λ c. Alike g (run_node (here g) place ty (tree.pointer_add x y) w (now g vs b)) (then_ (expr_nodes (frame g) x u (expr_nodes (frame g) y (suc u) (forms.sets place u c r))) q) (own g ob tm b))
        (sum_calculated g.t.structs (element_size g.t.structs ty) (tree.type_of x) (tree.type_of y) ty h.2 u (suc u))
        (expr_sim x h.0 k.0 vs ob b tm (first_way place (forward (element_size g.t.structs ty)) y (run (here g) y) w) u _ q
        (first_goes g vs ob b tm w u r q (access_of_type ty) (pointed_in (frame g) ty (tree.pointer_add x y)) goes place (forward (element_size g.t.structs ty)) y (access_of_type (tree.type_of x)) (pointed (frame g) x) h.1 k.1
        (sum_fits g.t.structs (element_size g.t.structs ty) (tree.type_of x) (tree.type_of y) ty h.2) (sum_joins (frame g) (element_size g.t.structs ty) x) (expr_sim y h.1 k.1)))
    value_sim place ty (tree.pointer_sub x y) h s vs ob b tm w u r q goes =
        let p = sized_pointer g.t.structs (tree.type_of x) h.2 in
        expr_sim x h.0 (pointer_scalar (tree.type_of x) p) vs ob b tm (first_way place (backward (element_size g.t.structs (tree.type_of x))) y (run (here g) y) w) u _ q
        (first_goes g vs ob b tm w u r q (access_of_type ty) found goes place (backward (element_size g.t.structs (tree.type_of x))) y (access_of_type (tree.type_of x)) (pointed (frame g) x) h.1 (integer_scalar (tree.type_of y) h.3)
        (backward_fits (element_size g.t.structs (tree.type_of x)) (tree.type_of x) (tree.type_of y) ty p h.3 h.4) (no_join (backward (element_size g.t.structs (tree.type_of x))) (access_of_type (tree.type_of x)) (pointed (frame g) x)) (expr_sim y h.1 (integer_scalar (tree.type_of y) h.3)))
    value_sim place ty (tree.pointer_diff x y) h s vs ob b tm w u r q goes =
        let p = sized_pointer g.t.structs (tree.type_of x) h.2 in
        expr_sim x h.0 (pointer_scalar (tree.type_of x) p) vs ob b tm (first_way place (distance (element_size g.t.structs (tree.type_of x))) y (run (here g) y) w) u _ q
        (first_goes g vs ob b tm w u r q (access_of_type ty) found goes place (distance (element_size g.t.structs (tree.type_of x))) y (access_of_type (tree.type_of x)) (pointed (frame g) x) h.1 (pointer_scalar (tree.type_of y) h.3)
        (distance_fits (element_size g.t.structs (tree.type_of x)) (tree.type_of x) (tree.type_of y) ty p h.3 h.4) (no_join (distance (element_size g.t.structs (tree.type_of x))) (access_of_type (tree.type_of x)) (pointed (frame g) x)) (expr_sim y h.1 (pointer_scalar (tree.type_of y) h.3)))
    value_sim place ty (tree.pointer_compare op x y) h s vs ob b tm w u r q goes =
        expr_sim x h.0 (pointer_scalar (tree.type_of x) h.2) vs ob b tm (first_way place (on_pointers op) y (run (here g) y) w) u _ q
        (first_goes g vs ob b tm w u r q (access_of_type ty) found goes place (on_pointers op) y (access_of_type (tree.type_of x)) (pointed (frame g) x) h.1 (pointer_scalar (tree.type_of y) h.3)
        (compare_fits op (tree.type_of x) (tree.type_of y) ty h.2 h.3 h.5) (no_join (on_pointers op) (access_of_type (tree.type_of x)) (pointed (frame g) x)) (expr_sim y h.1 (pointer_scalar (tree.type_of y) h.3)))
    value_sim place ty (tree.pointer_test e) h s vs ob b tm w u r q goes =
        expr_sim e h.0 (pointer_scalar (tree.type_of e) h.1) vs ob b tm (only_way place tests w) u (sets place u (ir.pointer_test u) r) q
        (of_kind g vs ob b tm (only_way place tests w) u accesses.Pointer (access_of_type (tree.type_of e)) (pointed (frame g) e) (sets place u (ir.pointer_test u) r) q (sym (pointer_access (tree.type_of e) h.1))
        (test_goes g vs ob b tm w u r q (of_kind g vs ob b tm w u (access_of_type ty) (accesses.Number int) found r q (ap access_of_type h.2) goes) place (pointed (frame g) e)))
    value_sim place ty (tree.call m args) h s vs ob b tm w u r q goes =
        let f = nth_mapped signature_of g.t.funcs m h.1.0 h.1.1 in
        let is = all_at (IsFunc g.t) g.t.funcs m f.0 g.well.funcs f.1 in
        let scalars = argument_scalars (signature_of f.0).params args (signature_scalars g.t f.0 is) (subst (λ (x : Signature). AreArguments x.params args) (sym f.2) h.1.2.0) in
        args_sim args h.0 vs ob b tm place (function m) args [] (wanted place w.k) u u ty r q scalars h.1 scalars (wait_wanted s goes.above goes.at) none_yet goes.agrees
    value_sim place ty (tree.lib which args) h s vs ob b tm w u r q goes =
        let scalars = lib_scalars (ctx g.t g.n g.f) which args ty h.1 in
        args_sim args h.0 vs ob b tm place (library which) args [] (wanted place w.k) u u ty r q scalars h.1 scalars (wait_wanted s goes.above goes.at) none_yet goes.agrees

    pub place_sim : (e : tree.Expr) → IsTyped (ctx g.t g.n g.f) e → IsPlace (frame g) (tree.node_of e) → SimP g e
    place_sim (tree.at place ty node) h p vs ob b tm w u r q goes = object_sim place ty node h p vs ob b tm w u r q goes

    pub object_sim : (place : ℕ) (ty : tree.Ty) (node : tree.ExprNode) → IsTypedNode (ctx g.t g.n g.f) ty node → IsPlace (frame g) node
        → (vs : List Variable) (ob : ℕ → Option ℕ) (b : Blocks) (tm : ℕ → Held) (w : WayOfUse) (u : ℕ) (r : Nodes) (q : Position)
        → GoesE g vs ob b tm w u accesses.Pointer (reach_in (frame g) node) r q
        → Alike g (run_place_node (here g) place node w (now g vs b)) (then_ (object_place (frame g) place node u r) q) (own g ob tm b)
    object_sim place ty (tree.literal i) h p vs ob b tm w u r q goes = literal_place vs ob b tm w u r q goes place i
    object_sim place ty (tree.global i) h p vs ob b tm w u r q goes = global_place vs ob b tm w u r q goes place i
    object_sim place ty (tree.local i) h p vs ob b tm w u r q goes = found_alike g vs ob b tm w u r q place i p.0 p.1 goes
    object_sim place ty (tree.deref e) h p vs ob b tm w u r q goes =
        expr_sim e h.0 (subst IsScalar (sym h.1) tt) vs ob b tm w u r q (of_kind g vs ob b tm w u accesses.Pointer (access_of_type (tree.type_of e)) (pointed (frame g) e) r q (sym (ap access_of_type h.1)) goes)
    object_sim place ty (tree.member e i) h p vs ob b tm w u r q goes =
        place_sim e h.0 (member_place g.t g.n g.f g.a e i ty g.is_func.locals h.0 h.1 h.2) vs ob b tm (only_way place (selects (member_offset g.t.structs (tree.type_of e) i)) w) u _ q
        (member_goes g vs ob b tm w u r q place (member_offset g.t.structs (tree.type_of e) i) (reach (frame g) e) (offset_small g.t g.well (tree.type_of e) i) goes)
    object_sim place ty node h p vs ob b tm w u r q goes = elim p [ ]

    pub args_sim : (es : tree.Exprs) → AreTyped (ctx g.t g.n g.f) es → SimArgs es
    args_sim tree.no_exprs h vs ob b tm place callee all before kw u v ty r q scalars c all_scalars waits taken agrees =
        call_alike vs ob b tm place callee all before kw u ty r q c all_scalars waits (all_stand tm all u before v taken) agrees
    args_sim (tree.more_exprs e rest) h vs ob b tm place callee all before kw u v ty r q scalars c all_scalars waits taken agrees =
        expr_sim e h.0 scalars.0 vs ob b tm (argument_way place callee before rest (run_arguments (here g) place callee rest) kw) v (args_nodes (frame g) rest (suc v) (nodes_for kw place callee all u r)) q
        (argument_goes e rest h.1 (args_sim rest h.1) vs ob b tm place callee all before kw u v ty (pointed (frame g) e) r q scalars.1 c all_scalars waits taken agrees)
