-- Operands that are still to be evaluated, conditions, and locals.
use Rattle.std.proofs.Common.{◌≡◌, ◌≢◌, ℕ, suc, ◌<◌, true, false, List, Option, Some, None, Ok, refl, sym, ap, subst, ◌∙◌, arith, if◌then◌else◌}
use Rattle.std.specs.Prelude.{slice_get}
use Rattle.std.proofs.lemmas.Option.{slice_get_within}
use Rattle.ak_words.specs.declared.rule.Rule.TheVariants.{C4}
use Rattle.ak_words.specs.IntType.{int}
use Rattle.block_store.specs.declared.values.Access.{Access}
use Rattle.block_store.specs.declared.values.Access.TheVariants as accesses
use Rattle.block_store.specs.declared.values.Ptr.TheVariants.{To}
use Rattle.block_store.specs.declared.values.Value.{Value}
use Rattle.block_store.specs.declared.values.Value.TheVariants as values
use Rattle.block_store.specs.Blocks.{Blocks}
use Rattle.block_store.specs.Runs as runs
use Rattle.block_store.specs.Runs.{Turn}
use Rattle.c_tree.specs.Typed as tree
use Rattle.c_tree.specs.TypedForm.{IsScalar, IsTyped}
use Rattle.c_meaning.specs.Values.{Binary, int_of, access_of_type, is_atomic}
use Rattle.c_meaning.specs.Control as source
use Rattle.c_meaning.specs.Control.{Variable, Control}
use Rattle.c_meaning.specs.Turns.{WayOfUse, run, run_place, first_way, second_way, first_test_way, second_test_way, choice_way, read_way, reads_variable, finds_variable, is_same}
use Rattle.struct_ir.specs.Nodes as ir
use Rattle.struct_ir.specs.Nodes.{Nodes, no_nodes}
use Rattle.struct_ir.specs.Structured.{Position, then_}
use Rattle.struct_ir.specs.meaning.Blocks as code
use Rattle.struct_ir.specs.meaning.Blocks.{Held, value, pointer, broken, set_at, known, on_value, start_of}
use Rattle.lower_forms.specs.Forms as forms
use Rattle.lower_forms.specs.Forms.{home, sets, sets_int, sets_truth, branches, Reach, found, direct, register_if, direct_if, pointed, reach, expr_nodes, place_nodes, object_nodes, local_value, local_place}
use Rattle.lower_forms.specs.Programs.{lowered}
use Rattle.lower_turns.proofs.Relation.{Below, Points, InRegister, no_value, one_value, InBlock, no_block, one_block, held_in, BinaryFits, calc_of, Joins, Calls, at_first, at_and, at_or, at_choice, Together, both_broke, ctx}
use Rattle.lower_turns.proofs.Registers.{set_here, set_there, below_same, below_set}
use Rattle.lower_turns.proofs.Values.{not_moved}
use Rattle.lower_turns.proofs.Operands.{joins_now}
use Rattle.lower_turns.proofs.Steps.{set_then, set_breaks, branch}
use Rattle.lower_turns.proofs.Setting.{Setting, here, now, own, Alike, frame, start_is, GoesE, later, anyhow, inner, of_kind}
use Rattle.lower_turns.proofs.Uses.{second_goes, truth_goes, gets, gets_int, read_goes}

-- the code of an expression does what the expression does, whatever follows
abbrev pub SimE : Setting → tree.Expr → Type 0
SimE g e = (vs : List Variable) (ob : ℕ → Option ℕ) (b : Blocks) (tm : ℕ → Held) (w : WayOfUse) (u : ℕ) (r : Nodes) (q : Position)
    → GoesE g vs ob b tm w u (access_of_type (tree.type_of e)) (pointed (frame g) e) r q
    → Alike g (run (here g) e w (now g vs b)) (then_ (expr_nodes (frame g) e u r) q) (own g ob tm b)

-- and that of an lvalue, which is found
abbrev pub SimP : Setting → tree.Expr → Type 0
SimP g e = (vs : List Variable) (ob : ℕ → Option ℕ) (b : Blocks) (tm : ℕ → Held) (w : WayOfUse) (u : ℕ) (r : Nodes) (q : Position)
    → GoesE g vs ob b tm w u accesses.Pointer (reach (frame g) e) r q
    → Alike g (run_place (here g) e w (now g vs b)) (then_ (place_nodes (frame g) e u r) q) (own g ob tm b)

module _ (g : Setting) (vs : List Variable) (ob : ℕ → Option ℕ) (b : Blocks) where
  abbrev program_code : ir.Ir
  program_code = lowered g.t

  module _ (tm : ℕ → Held) (w : WayOfUse) (u : ℕ) (r : Nodes) (q : Position) where
    pub first_goes : (how : Access) (rch : Reach) → GoesE g vs ob b tm w u how rch r q → (place : ℕ) (op : Binary) (right : tree.Expr) (lh : Access) (lrch : Reach)
        → IsTyped (ctx g.t g.n g.f) right → IsScalar (tree.type_of right) → BinaryFits op lh (access_of_type (tree.type_of right)) how → Joins op lh lrch rch → SimE g right
        → GoesE g vs ob b tm (first_way place op right (run (here g) right) w) u lh lrch (expr_nodes (frame g) right (suc u) (sets place u (calc_of op lh u (suc u)) r)) q
    first_goes how rch goes place op right lh lrch typed scalar fits joins sim = record {
      at = at_first place op right lh lrch typed scalar fits joins goes.at;
      above = goes.above;
      agrees = goes.agrees;
      go = λ v a kind below is points.
          sim vs ob b a (second_way place op v w) (suc u) (sets place u (calc_of op lh u (suc u)) r) q
          (second_goes g vs ob b a w u r q how rch (later g vs ob b tm w u how a rch r q below goes) place op v lh (access_of_type (tree.type_of right)) (pointed (frame g) right) fits kind is
          (joins_now a u v joins fits kind points));
    }

    module _ (goes : GoesE g vs ob b tm w u (accesses.Number int) found r q) (place : ℕ) (right : tree.Expr) (lh : Access) (rch : Reach)
        (typed : IsTyped (ctx g.t g.n g.f) right) (scalar : IsScalar (tree.type_of right)) (sim : SimE g right) where
      right_alike : (a : ℕ → Held) → Below u tm a
          → Alike g (run (here g) right (second_test_way (tree.place_of right) w) (now g vs b)) (then_ (expr_nodes (frame g) right u (sets_truth (tree.place_of right) u 1 0 no_nodes)) (then_ r q)) (own g ob a b)
      right_alike a below =
          sim vs ob b a (second_test_way (tree.place_of right) w) u (sets_truth (tree.place_of right) u 1 0 no_nodes) (then_ r q)
          (truth_goes g vs ob b a w u no_nodes (then_ r q) (inner g vs ob b a w u (accesses.Number int) found r q (later g vs ob b tm w u (accesses.Number int) a found r q below goes))
          (tree.place_of right) (access_of_type (tree.type_of right)) (pointed (frame g) right))

      pub and_goes : GoesE g vs ob b tm (first_test_way place false right (run (here g) right) w) u lh rch
          (branches place u (expr_nodes (frame g) right u (sets_truth (tree.place_of right) u 1 0 no_nodes)) (sets_int place u 0 no_nodes) r) q
      and_goes = record {
        at = at_and place right lh rch typed scalar goes.at;
        above = goes.above;
        agrees = goes.agrees;
        go = λ v a kind below is points.
            branch program_code g.thread g.answer g.cs' g.s g.t
            (λ c. if is_same c false then w.go (int_of c) (now g vs b) else run (here g) right (second_test_way (tree.place_of right) w) (now g vs b)) place u
            (expr_nodes (frame g) right u (sets_truth (tree.place_of right) u 1 0 no_nodes)) (sets_int place u 0 no_nodes) r q (own g ob a b) v is
            (right_alike a below) (gets_int g vs ob b tm a w u r q goes below place 0);
      }

      pub or_goes : GoesE g vs ob b tm (first_test_way place true right (run (here g) right) w) u lh rch
          (branches place u (sets_int place u 1 no_nodes) (expr_nodes (frame g) right u (sets_truth (tree.place_of right) u 1 0 no_nodes)) r) q
      or_goes = record {
        at = at_or place right lh rch typed scalar goes.at;
        above = goes.above;
        agrees = goes.agrees;
        go = λ v a kind below is points.
            branch program_code g.thread g.answer g.cs' g.s g.t
            (λ c. if is_same c true then w.go (int_of c) (now g vs b) else run (here g) right (second_test_way (tree.place_of right) w) (now g vs b)) place u
            (sets_int place u 1 no_nodes) (expr_nodes (frame g) right u (sets_truth (tree.place_of right) u 1 0 no_nodes)) r q (own g ob a b) v is
            (gets_int g vs ob b tm a w u r q goes below place 1) (right_alike a below);
      }

    one_alike : (how : Access) (e : tree.Expr) → access_of_type (tree.type_of e) ≡ how → SimE g e → GoesE g vs ob b tm w u how found r q → (a : ℕ → Held) → Below u tm a
        → Alike g (run (here g) e w (now g vs b)) (then_ (expr_nodes (frame g) e u no_nodes) (then_ r q)) (own g ob a b)
    one_alike how e is sim goes a below =
        sim vs ob b a w u no_nodes (then_ r q)
        (of_kind g vs ob b a w u how (access_of_type (tree.type_of e)) (pointed (frame g) e) no_nodes (then_ r q) (sym is)
        (anyhow g vs ob b a w u how (pointed (frame g) e) no_nodes (then_ r q) (inner g vs ob b a w u how found r q (later g vs ob b tm w u how a found r q below goes))))

    pub choice_goes : (how : Access) → GoesE g vs ob b tm w u how found r q → (place : ℕ) (one other : tree.Expr) (lh : Access) (rch : Reach)
        → IsTyped (ctx g.t g.n g.f) one → IsScalar (tree.type_of one) → access_of_type (tree.type_of one) ≡ how → SimE g one
        → IsTyped (ctx g.t g.n g.f) other → IsScalar (tree.type_of other) → access_of_type (tree.type_of other) ≡ how → SimE g other
        → GoesE g vs ob b tm (choice_way place one other (run (here g) one) (run (here g) other) w) u lh rch (branches place u (expr_nodes (frame g) one u no_nodes) (expr_nodes (frame g) other u no_nodes) r) q
    choice_goes how goes place one other lh rch t1 s1 e1 sim1 t2 s2 e2 sim2 = record {
      at = at_choice place one other lh rch t1 s1 e1 t2 s2 e2 goes.at;
      above = goes.above;
      agrees = goes.agrees;
      go = λ v a kind below is points.
          branch program_code g.thread g.answer g.cs' g.s g.t (λ c. if c then run (here g) one w (now g vs b) else run (here g) other w (now g vs b)) place u
          (expr_nodes (frame g) one u no_nodes) (expr_nodes (frame g) other u no_nodes) r q (own g ob a b) v is
          (one_alike how one e1 sim1 goes a below) (one_alike how other e2 sim2 goes a below);
    }

    -- ---- locals

    -- an unset register, or one of an object that hasn't begun, is read
    pub unset_breaks : (place i : ℕ) → tm i ≡ code.unset → (x : ℕ) → Alike g (runs.broke C4 place) (then_ (sets place x (ir.copy i) r) q) (own g ob tm b)
    unset_breaks place i e x =
        subst (Together g.t (runs.broke C4 place))
        (sym (set_breaks program_code g.thread g.answer g.cs' g.s place x (ir.copy i) r q (own g ob tm b) (broken C4 place) (ap (λ (h : Held). on_value (known place h) (λ v. Ok (value v))) e)))
        (both_broke C4 place)

    pub copies : (x : Turn Control) (place i to : ℕ) (v : Value) → tm i ≡ value v → Alike g x (then_ r q) (own g ob (set_at tm to (value v)) b) → Alike g x (then_ (sets place to (ir.copy i) r) q) (own g ob tm b)
    copies x place i to v e h = set_then program_code g.thread g.answer g.cs' g.s g.t x place to (ir.copy i) r q (own g ob tm b) (value v) (ap (λ (y : Held). on_value (known place y) (λ z. Ok (value z))) e) h

    register_value : (place i : ℕ) (ty : tree.Ty) → i < u → GoesE g vs ob b tm w u (access_of_type ty) (direct i 0) r q → (x : Variable) (h : Held) → InRegister (access_of_type ty) x h → tm i ≡ h
        → Alike g (reads_variable (here g) place ty w x (now g vs b)) (then_ (sets place u (ir.copy i) r) q) (own g ob tm b)
    register_value place i ty lt goes _ _ no_value e = unset_breaks place i e u
    register_value place i ty lt goes _ _ (one_value v kind) e =
        copies (w.go v (now g vs b)) place i u v e (gets g vs ob b tm tm w u (access_of_type ty) (direct i 0) r q goes (below_same u tm) v kind (points v e))
      where
        points : (z : Value) → tm i ≡ value z → Points (set_at tm u (value z)) (direct i 0) u z
        points (values.Num n) is = tt
        points (values.Pointer p) is =
            let ne : i ≢ u = λ y. absurd (omega (arith, lt, y)) in
            record { below = lt; start = p; holds = set_there tm u (pointer p) i ne ∙ is; moved = not_moved p }

  -- a stack object that has begun, and one that hasn't
  pub object_then : (tm : ℕ → Held) (u : ℕ) (r : Nodes) (q : Position) (x : Turn Control) (place k c : ℕ) → ob k ≡ Some c
      → Alike g x (then_ r q) (own g ob (set_at (set_at tm u (pointer (To c 0))) u (pointer (To c 0))) b) → Alike g x (then_ (object_nodes place k u r) q) (own g ob tm b)
  object_then tm u r q x place k c e h =
      set_then program_code g.thread g.answer g.cs' g.s g.t x place u (ir.object k) (sets place u (ir.copy u) r) q (own g ob tm b) (pointer (To c 0)) (ap (λ (o : Option ℕ). Ok (start_of o)) e)
      (copies (set_at tm u (pointer (To c 0))) (record { k = source.to_caller; go = λ v y. runs.unfit }) u r q x place u u (values.Pointer (To c 0)) (set_here tm u (pointer (To c 0))) h)

  pub object_breaks : (tm : ℕ → Held) (u : ℕ) (r : Nodes) (q : Position) (place k : ℕ) → ob k ≡ None → Alike g (runs.broke C4 place) (then_ (object_nodes place k u r) q) (own g ob tm b)
  object_breaks tm u r q place k e =
      set_then program_code g.thread g.answer g.cs' g.s g.t (runs.broke C4 place) place u (ir.object k) (sets place u (ir.copy u) r) q (own g ob tm b) code.unset (ap (λ (o : Option ℕ). Ok (start_of o)) e)
      (unset_breaks (set_at tm u code.unset) (record { k = source.to_caller; go = λ v y. runs.unfit }) u r q place u (set_here tm u code.unset) u)

  module _ (tm : ℕ → Held) (w : WayOfUse) (u : ℕ) (r : Nodes) (q : Position) where
    twice : (c : ℕ) → Below u tm (set_at (set_at tm u (pointer (To c 0))) u (pointer (To c 0)))
    twice c = below_set u u tm (set_at tm u (pointer (To c 0))) (pointer (To c 0)) (omega arith) (below_set u u tm tm (pointer (To c 0)) (omega arith) (below_same u tm))

    block_value : (busy : Calls g.t) (place k : ℕ) (ty : tree.Ty) → GoesE g vs ob b tm w u (access_of_type ty) found r q → (x : Variable) (o : Option ℕ) → InBlock x o → ob k ≡ o
        → Alike g (reads_variable (here g) place ty w x (now g vs b)) (then_ (object_nodes place k u (forms.loads place ty found u r)) q) (own g ob tm b)
    block_value busy place k ty goes _ _ no_block e = object_breaks tm u (forms.loads place ty found u r) q place k e
    block_value busy place k ty goes _ _ (one_block c) e =
        let a : ℕ → Held = set_at (set_at tm u (pointer (To c 0))) u (pointer (To c 0)) in
        let is : a u ≡ pointer (To c 0) = set_here (set_at tm u (pointer (To c 0))) u (pointer (To c 0)) in
        object_then tm u (forms.loads place ty found u r) q ((read_way (here g) place (access_of_type ty) (is_atomic ty) w).go (values.Pointer (To c 0)) (now g vs b)) place k c e
        ((read_goes g vs ob b tm w u r q busy (access_of_type ty) goes place (is_atomic ty) found).go (values.Pointer (To c 0)) a tt (twice c) is is)

    -- the value of a local
    pub local_alike : (busy : Calls g.t) (place i : ℕ) (ty : tree.Ty) (l : tree.Local) → slice_get g.f.locals i ≡ Some l → l.ty ≡ ty → (hm : Option ℕ) → home (frame g) i ≡ hm
        → GoesE g vs ob b tm w u (access_of_type ty) (direct_if (register_if i hm)) r q
        → Alike g (reads_variable (here g) place ty w (held_in vs i) (now g vs b)) (then_ (local_value place ty i u hm r) q) (own g ob tm b)
    local_alike busy place i ty l there is None none goes =
        register_value tm w u r q place i ty (omega (arith, slice_get_within g.f.locals i l there, start_is g, goes.above)) goes (held_in vs i) (tm i)
        (subst (λ z. InRegister (access_of_type z) (held_in vs i) (tm i)) is (goes.agrees.register i l there none)) refl
    local_alike busy place i ty l there is (Some k) some goes = block_value busy place k ty goes (held_in vs i) (ob k) (goes.agrees.block i k some) refl

    block_place : (place k : ℕ) → GoesE g vs ob b tm w u accesses.Pointer found r q → (x : Variable) (o : Option ℕ) → InBlock x o → ob k ≡ o
        → Alike g (finds_variable place w x (now g vs b)) (then_ (object_nodes place k u r) q) (own g ob tm b)
    block_place place k goes _ _ no_block e = object_breaks tm u r q place k e
    block_place place k goes _ _ (one_block c) e =
        let a : ℕ → Held = set_at (set_at tm u (pointer (To c 0))) u (pointer (To c 0)) in
        let is : a u ≡ pointer (To c 0) = set_here (set_at tm u (pointer (To c 0))) u (pointer (To c 0)) in
        object_then tm u r q (w.go (values.Pointer (To c 0)) (now g vs b)) place k c e (goes.go (values.Pointer (To c 0)) a tt (twice c) is is)

    -- the block of a local
    pub found_alike : (place i k : ℕ) → home (frame g) i ≡ Some k → GoesE g vs ob b tm w u accesses.Pointer found r q
        → Alike g (finds_variable place w (held_in vs i) (now g vs b)) (then_ (local_place place i u (home (frame g) i) r) q) (own g ob tm b)
    found_alike place i k e goes =
        subst (λ (hm : Option ℕ). Alike g (finds_variable place w (held_in vs i) (now g vs b)) (then_ (local_place place i u hm r) q) (own g ob tm b)) (sym e)
        (block_place place k goes (held_in vs i) (ob k) (goes.agrees.block i k e) refl)
