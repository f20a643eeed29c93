-- What follows a statement does the same on both sides: rows, branches and loops.
use Rattle.std.proofs.Common.{◌≡◌, ◌≢◌, ℕ, ◌<◌, ◌≤◌, ℤ, pos, Bool, true, false, not, List, [], ◌∷◌, length, Option, Some, None, Result, Ok, refl, sym, ap, subst, ◌∙◌, arith, if◌then◌else◌}
use Rattle.std.specs.Ordering.{int_eq}
use Rattle.std.proofs.lemmas.Int.{ints}
use Rattle.std.proofs.lemmas.Option.{same_Some, slice_get_within}
use Rattle.ak_words.proofs.Wraps.{wrapped_value-in_type}
use Rattle.ak_words.specs.IntType.{int}
use Rattle.ak_words.specs.Num.{num}
use Rattle.block_store.specs.declared.values.Access.{Access}
use Rattle.block_store.specs.declared.values.Answer.{Answer}
use Rattle.block_store.specs.declared.values.Answer.TheVariants as answers
use Rattle.block_store.specs.Actions as actions
use Rattle.block_store.specs.Actions.{World}
use Rattle.block_store.specs.Blocks.{Blocks}
use Rattle.block_store.specs.Runs as runs
use Rattle.block_store.specs.Runs.{Turn}
use Rattle.c_tree.specs.Typed as tree
use Rattle.c_tree.specs.TypedForm.{Jumps, in_function, IsScalar, IfTyped, IsWell, AreWell}
use Rattle.c_meaning.specs.Values.{access_of_type}
use Rattle.c_meaning.specs.Control.{Variable, Control, Loop}
use Rattle.c_meaning.specs.Turns.{Way, plainly, run_stmt, run_row, row_way, if_way, step_way, body_way, loop_test_way, loop_way, rounds, rounds_if, round_over}
use Rattle.struct_ir.specs.Nodes as ir
use Rattle.struct_ir.specs.Nodes.{Nodes, no_nodes, more_nodes}
use Rattle.struct_ir.specs.Structured as position
use Rattle.struct_ir.specs.Structured.{Position, then_}
use Rattle.struct_ir.specs.Threads as threads
use Rattle.struct_ir.specs.Threads.{Thread, if_fits}
use Rattle.struct_ir.specs.meaning.Blocks.{Held, number, Own, object_ended, Fault, set_at, known, on_value, way_of}
use Rattle.struct_ir.specs.meaning.Threads.{is_plain, turned}
use Rattle.lower_forms.specs.Counts.{count, greatest_row, count_if}
use Rattle.lower_forms.specs.Forms.{Reach, looped, held, fresh, breaks_in, nexts_in, over_break, over_next, branches, pointed, stmt_place, guarded, break_nodes, test_nodes, stmt_nodes, row_nodes}
use Rattle.lower_forms.specs.Programs.{lowered}
use Rattle.lower_turns.proofs.Relation.{ctx, inside, InRegister, held_in, with_flag, Holds, in_step, Free, LoopIs, RoomOf, RoomRow, jumps_of, body_nodes, latch_nodes, loop_behind, at_row, at_loop, at_body, at_step, at_if, at_loop_test, Together, both_went, both_unfit, same, at_round}
use Rattle.lower_turns.proofs.Steps.{onward, set_then, test_true, test_false, enters_loop, breaks_out, body_over, then_same, branch, stops_at}
use Rattle.lower_turns.proofs.Setting.{Stands, Leaves, body_in, step_in, row_ends, objects_over, Setting, here, now, own, Alike, frame, start, agrees_on, GoesE, GoesS, inner_row}
use Rattle.lower_turns.proofs.Exprs.{expr_sim}
use Rattle.lower_turns.proofs.Registers.{set_here, set_there, holds_below}
use Rattle.lower_turns.proofs.Ends.{ends_then, none_left}
use Rattle.lower_turns.proofs.Over.{ends_forgive}
use Rattle.lower_turns.proofs.Rooms.{among_if, apart_if}

pub one_or_more : (e : tree.Expr) → 0 < count e
one_or_more (tree.at place ty node) = omega arith

-- the code of a statement does what the statement does, whatever follows
abbrev pub SimS : Setting → Jumps → tree.Stmt → Type 0
SimS g io s = (w : Way) (left : List ℕ) (r : Nodes) (q : Position) → GoesS g io w left r q → (vs : List Variable) (b : Blocks) (tm : ℕ → Held) (ob : ℕ → Option ℕ) → Stands g vs tm ob
    → Alike g (run_stmt (here g) s w (now g vs b)) (then_ (stmt_nodes (frame g) s left r) q) (own g ob tm b)

abbrev pub SimRow : Setting → Jumps → tree.Stmts → Type 0
SimRow g io all = (w : Way) (left : List ℕ) (r : Nodes) (q : Position) → GoesS g io w left r q → (vs : List Variable) (b : Blocks) (tm : ℕ → Held) (ob : ℕ → Option ℕ) → Stands g vs tm ob
    → Alike g (run_row (here g) all w (now g vs b)) (then_ (row_nodes (frame g) all left r) q) (own g ob tm b)

-- ---- the flag of a switch

-- a small int is what it is
pub int_value : (k : ℕ) → k ≤ 4096 → (num int (pos k)).value ≡ pos k
int_value k h = wrapped_value-in_type int (pos k) (omega (arith, ints), omega (arith, ints, h))

pub flag_holds : (flag : Option ℕ) (low high : ℕ) (tm : ℕ → Held) (z : ℕ) (rest : List (ℕ × ℕ)) (i : ℕ) → flag ≡ Some i → Holds low high tm (with_flag flag z rest) → tm i ≡ number (num int (pos z))
flag_holds None low high tm z rest i e h = absurd cc
flag_holds (Some j) low high tm z rest i e h = subst (λ k. tm k ≡ number (num int (pos z))) (same_Some j i e) h.2

-- no local, and no other register of a switch, is the flag
pub flag_clears : (flag : Option ℕ) (low high : ℕ) (tm : ℕ → Held) (rest : List (ℕ × ℕ)) (i : ℕ) → flag ≡ Some i → Holds low high tm (with_flag flag 1 rest)
    → (low ≤ i) × Holds low high (set_at tm i (number (num int (pos 0)))) (with_flag flag 0 rest)
flag_clears None low high tm rest i e h = absurd cc
flag_clears (Some j) low high tm rest i e h =
    let P : ℕ → Type 0 = λ k. (low ≤ k) × Holds low high (set_at tm k (number (num int (pos 0)))) ((j, 0) ∷ rest) in
    subst P (same_Some j i e) (
      h.0,
      (
        h.0,
        h.1,
        set_here tm j (number (num int (pos 0))),
        holds_below low j tm (set_at tm j (number (num int (pos 0)))) rest h.3
            (λ k lt. let ne : k ≢ j = λ z. absurd (omega (arith, lt, z)) in set_there tm j (number (num int (pos 0))) k ne),
      ),
    )

way_one : (place u : ℕ) (l : Own) → l.temps u ≡ number (num int (pos 1)) → on_value (known place (l.temps u)) (way_of place l) ≡ Ok true
way_one place u l e =
    ap (λ (h : Held). on_value (known place h) (way_of place l)) e ∙ ap {B = Result Bool Fault} (λ (z : ℤ). Ok (not (int_eq z (pos 0)))) (int_value 1 (omega arith))

way_zero : (place u : ℕ) (l : Own) → l.temps u ≡ number (num int (pos 0)) → on_value (known place (l.temps u)) (way_of place l) ≡ Ok false
way_zero place u l e =
    ap (λ (h : Held). on_value (known place h) (way_of place l)) e ∙ ap {B = Result Bool Fault} (λ (z : ℤ). Ok (not (int_eq z (pos 0)))) (int_value 0 (omega arith))

module _ (g : Setting) where
  -- one step in between
  pub stepped : (x : Turn Control) (k j : Position) (l m : Own) → onward (lowered g.t) g.thread g.answer g.cs' g.s k l ≡ onward (lowered g.t) g.thread g.answer g.cs' g.s j m → Alike g x j m → Alike g x k l
  stepped x k j l m e h = then_same (lowered g.t) g.thread g.answer g.cs' g.s g.t x k j l m e h

  -- the nodes under a flag that is 1, and those under one that is 0
  pub flag_on : (x : Turn Control) (place i : ℕ) (one r : Nodes) (q : Position) (l : Own) → l.temps i ≡ number (num int (pos 1)) → Alike g x (then_ one (then_ r q)) l → Alike g x (then_ (branches place i one no_nodes r) q) l
  flag_on x place i one r q l e h =
      stepped x (then_ (branches place i one no_nodes r) q) (then_ one (then_ r q)) l l (test_true (lowered g.t) g.thread g.answer g.cs' g.s place i one no_nodes r q l (way_one place i l e)) h

  pub flag_off : (x : Turn Control) (place i : ℕ) (one r : Nodes) (q : Position) (l : Own) → l.temps i ≡ number (num int (pos 0)) → Alike g x (then_ r q) l → Alike g x (then_ (branches place i one no_nodes r) q) l
  flag_off x place i one r q l e h =
      stepped x (then_ (branches place i one no_nodes r) q) (then_ no_nodes (then_ r q)) l l (test_false (lowered g.t) g.thread g.answer g.cs' g.s place i one no_nodes r q l (way_zero place i l e)) (row_ends g x (then_ r q) l h)

  guard_alike : (flag : Option ℕ) → g.a.flag ≡ flag → (io : Jumps) (s : tree.Stmt) → SimS g io s → (w : Way) (left : List ℕ) (r : Nodes) (q : Position) → GoesS g io w left r q → (vs : List Variable) (b : Blocks) (tm : ℕ → Held) (ob : ℕ → Option ℕ) → Stands g vs tm ob
      → Alike g (run_stmt (here g) s w (now g vs b)) (then_ (guarded flag (stmt_place s) (stmt_nodes (frame g) s left) r) q) (own g ob tm b)
  guard_alike None e io s sim w left r q goes vs b tm ob h = sim w left r q goes vs b tm ob h
  guard_alike (Some i) e io s sim w left r q goes vs b tm ob h =
      flag_on (run_stmt (here g) s w (now g vs b)) (stmt_place s) i (stmt_nodes (frame g) s left no_nodes) r q (own g ob tm b) (flag_holds g.a.flag (length g.f.locals) (start g) tm 1 g.a.held i e h.switches)
      (sim w left no_nodes (then_ r q) (inner_row g io w left r q goes) vs b tm ob h)

  -- a statement of a row
  pub guarded_alike : (io : Jumps) (s : tree.Stmt) → SimS g io s → (w : Way) (left : List ℕ) (r : Nodes) (q : Position) → GoesS g io w left r q → (vs : List Variable) (b : Blocks) (tm : ℕ → Held) (ob : ℕ → Option ℕ) → Stands g vs tm ob
      → Alike g (run_stmt (here g) s w (now g vs b)) (then_ (guarded g.a.flag (stmt_place s) (stmt_nodes (frame g) s left) r) q) (own g ob tm b)
  guarded_alike = guard_alike g.a.flag refl

  skip_guard : (flag : Option ℕ) (i : ℕ) → flag ≡ Some i → (x : Turn Control) (place : ℕ) (nodes : Nodes → Nodes) (r : Nodes) (q : Position) (l : Own) → l.temps i ≡ number (num int (pos 0)) → Alike g x (then_ r q) l
      → Alike g x (then_ (guarded flag place nodes r) q) l
  skip_guard None i e x place nodes r q l z h = absurd cc
  skip_guard (Some j) i e x place nodes r q l z h = flag_off x place j (nodes no_nodes) r q l (subst (λ k. l.temps k ≡ number (num int (pos 0))) (sym (same_Some j i e)) z) h

  -- those of a row are passed over where the flag is cleared
  skip_row : (i : ℕ) → g.a.flag ≡ Some i → (rest : tree.Stmts) (left : List ℕ) (r : Nodes) (q : Position) (x : Turn Control) (l : Own) → l.temps i ≡ number (num int (pos 0)) → Alike g x (then_ r q) l → Alike g x (then_ (row_nodes (frame g) rest left r) q) l
  skip_row i e tree.no_stmts left r q x l z h = h
  skip_row i e (tree.more_stmts s all) left r q x l z h =
      skip_guard g.a.flag i e x (stmt_place s) (stmt_nodes (frame g) s left) (row_nodes (frame g) all left r) q l z (skip_row i e all left r q x l z h)

  row_leaves : (rest : tree.Stmts) (w : Way) (left : List ℕ) (r : Nodes) (q : Position) (flag : Option ℕ) → g.a.flag ≡ flag → Leaves g w left r q flag → Leaves g (row_way rest (run_row (here g) rest) w) left (row_nodes (frame g) rest left r) q flag
  row_leaves rest w left r q None e h = h
  row_leaves rest w left r q (Some i) e h = λ vs b tm ob stands.
      skip_row i e rest left r q (w.breaks (now g vs b)) (own g ob tm b) (flag_holds g.a.flag (length g.f.locals) (start g) tm 0 g.a.held i e stands.switches) (h vs b tm ob stands)

  break_at : (place : ℕ) (w : Way) (left : List ℕ) (r : Nodes) (q : Position) (flag : Option ℕ) → g.a.flag ≡ flag → Leaves g w left r q flag → (vs : List Variable) (b : Blocks) (tm : ℕ → Held) (ob : ℕ → Option ℕ) → Stands g vs tm ob
      → Alike g (w.breaks (now g vs b)) (then_ (break_nodes flag place left r) q) (own g ob tm b)
  break_at place w left r q None e h vs b tm ob stands =
      ends_then g (w.breaks (now g vs b)) place left (more_nodes (ir.break_ place) r) q (own g ob tm b)
      (stepped (w.breaks (now g vs b)) (then_ (more_nodes (ir.break_ place) r) q) (position.out_of q) (objects_over left (own g ob tm b)) (objects_over left (own g ob tm b))
      (breaks_out (lowered g.t) g.thread g.answer g.cs' g.s place r q (objects_over left (own g ob tm b))) (h vs b tm ob stands))
  break_at place w left r q (Some i) e h vs b tm ob stands =
      let a : ℕ → Held = set_at tm i (number (num int (pos 0))) in
      let clear = flag_clears g.a.flag (length g.f.locals) (start g) tm g.a.held i e stands.switches in
      set_then (lowered g.t) g.thread g.answer g.cs' g.s g.t (w.breaks (now g vs b)) place i (ir.constant int (pos 0)) r q (own g ob tm b) (number (num int (pos 0))) refl
      (h vs b a ob (record {
        count = stands.count;
        low = stands.low;
        switches = clear.1;
        register = λ j k there none.
            let far : j ≢ i = λ z. absurd (omega (arith, z, clear.0, slice_get_within g.f.locals j k there)) in
            subst (InRegister (access_of_type k.ty) (held_in vs j)) (sym (set_there tm i (number (num int (pos 0))) j far)) (stands.register j k there none);
        block = stands.block;
        closed = stands.closed;
      }))

  -- a break
  pub break_alike : (io : Jumps) (w : Way) (left : List ℕ) (r : Nodes) (q : Position) → GoesS g io w left r q → io.breaks ≡ true → (place : ℕ) (vs : List Variable) (b : Blocks) (tm : ℕ → Held) (ob : ℕ → Option ℕ) → Stands g vs tm ob
      → Alike g (w.breaks (now g vs b)) (then_ (break_nodes g.a.flag place left r) q) (own g ob tm b)
  break_alike io w left r q goes e place = break_at place w left r q g.a.flag refl (goes.breaks e)

  -- behind a statement of a row
  pub row_goes : (io : Jumps) (w : Way) (left : List ℕ) (r : Nodes) (q : Position) → GoesS g io w left r q → (rest : tree.Stmts) → AreWell (inside g.t g.n g.f) io rest → RoomRow g.t g.n g.f g.a rest → Free g.t (greatest_row rest) → SimRow g io rest
      → GoesS g io (row_way rest (run_row (here g) rest) w) left (row_nodes (frame g) rest left r) q
  row_goes io w left r q goes rest well room free sim = record {
    at = at_row rest well room free goes.at;
    end = λ vs b tm ob h. sim w left r q goes vs b tm ob h;
    breaks = λ e. row_leaves rest w left r q g.a.flag refl (goes.breaks e);
    continues = goes.continues;
    over_breaks = goes.over_breaks;
    over_nexts = goes.over_nexts;
  }

  -- a branch
  pub if_goes : (io : Jumps) (w : Way) (left : List ℕ) (r : Nodes) (q : Position) → GoesS g io w left r q → (place : ℕ) (one other : tree.Stmt) → IsWell (inside g.t g.n g.f) io one → IsWell (inside g.t g.n g.f) io other → RoomOf g.t g.n g.f g.a one → RoomOf g.t g.n g.f g.a other
      → SimS g io one → SimS g io other → (vs : List Variable) (ob : ℕ → Option ℕ) (b : Blocks) (tm : ℕ → Held) → Stands g vs tm ob → (lh : Access) (rch : Reach)
      → GoesE g vs ob b tm (if_way place one other (run_stmt (here g) one) (run_stmt (here g) other) w) (start g) lh rch
      (branches place (start g) (stmt_nodes (frame g) one left no_nodes) (stmt_nodes (frame g) other left no_nodes) r) q
  if_goes io w left r q goes place one other w1 w2 m1 m2 sim1 sim2 vs ob b tm agrees lh rch = record {
    at = at_if place one other lh rch w1 w2 m1 m2 goes.at;
    above = omega arith;
    agrees = agrees;
    go = λ v a kind below is points.
        let h = agrees_on g vs tm a ob (start g) (omega arith) agrees below in
        branch (lowered g.t) g.thread g.answer g.cs' g.s g.t (λ c. if c then run_stmt (here g) one w (now g vs b) else run_stmt (here g) other w (now g vs b)) place (start g)
        (stmt_nodes (frame g) one left no_nodes) (stmt_nodes (frame g) other left no_nodes) r q (own g ob a b) v is
        (sim1 w left no_nodes (then_ r q) (inner_row g io w left r q goes) vs b a ob h) (sim2 w left no_nodes (then_ r q) (inner_row g io w left r q goes) vs b a ob h);
  }

  plainly_alike : (answer : Answer) (x : Control) (y : Thread Position Own) (w : World) → Together g.t (runs.went x w) (runs.went y w)
      → Together g.t (plainly answer (runs.went x w)) (turned (if_fits (is_plain answer) (threads.went y w)))
  plainly_alike answers.Plain x y w h = h
  plainly_alike answers.Got x y w h = both_unfit
  plainly_alike answers.None x y w h = both_unfit

  module _ (io : Jumps) (w : Way) (left : List ℕ) (r : Nodes) (q : Position) (goes : GoesS g io w left r q) (l : Loop) (is : LoopIs g.t g.n g.f l) (site : ℕ) where
    abbrev body_row : Nodes
    body_row = body_nodes g.t g.n g.f g.a l

    abbrev latch_row : Nodes
    latch_row = latch_nodes g.t g.n g.f g.a site l

    abbrev step_row : Nodes
    step_row = stmt_nodes (looped (frame g)) l.step [] no_nodes

    abbrev behind_row : Nodes
    behind_row = loop_behind g.t g.n g.f g.a site l r

    abbrev latch : Position
    latch = position.in_latch (body_nodes g.t g.n g.f g.a l) (latch_nodes g.t g.n g.f g.a site l) (then_ (loop_behind g.t g.n g.f g.a site l r) q)

    abbrev body : Position
    body = position.in_body (body_nodes g.t g.n g.f g.a l) (latch_nodes g.t g.n g.f g.a site l) (then_ (loop_behind g.t g.n g.f g.a site l r) q)

    -- out of the loop, where none of its objects has a block
    left_alike : (vs : List Variable) (b : Blocks) (tm : ℕ → Held) (ob : ℕ → Option ℕ) → Stands g vs tm ob → Alike g (w.end (now g vs b)) (then_ behind_row q) (own g ob tm b)
    left_alike vs b tm ob h =
        none_left g vs b tm ob h site (over_break (looped (frame g)) l.body) (λ k e. apart_if (breaks_in l.body) g.a.around (held (looped (frame g)) l.body) k e) (w.end (now g vs b)) r q (goes.end vs b tm ob h)

    -- a round is over
    over_alike : (vs : List Variable) (b : Blocks) (tm : ℕ → Held) (ob : ℕ → Option ℕ) → Stands g vs tm ob → Alike g (round_over (here g) l w.k (now g vs b)) (then_ no_nodes latch) (own g ob tm b)
    over_alike vs b tm ob h =
        row_ends g (round_over (here g) l w.k (now g vs b)) latch (own g ob tm b)
        (subst (Together g.t (round_over (here g) l w.k (now g vs b))) (sym (stops_at (lowered g.t) g.thread g.answer g.cs' g.s latch (own g ob tm b) refl))
        (plainly_alike g.answer _ _ (actions.with_blocks g.s b) (both_went (actions.with_blocks g.s b) g.begun (same g.call h (at_round site l is goes.at) g.callers))))

    pub step_goes : GoesS (step_in g) in_step (step_way (here g) l w) [] no_nodes latch
    step_goes = record {
      at = at_step site l is goes.at;
      end = over_alike;
      breaks = λ e vs b tm ob h. left_alike vs b tm ob h;
      continues = λ e. absurd cc;
      over_breaks = λ e none k h. absurd cc;
      over_nexts = λ e. absurd cc;
    }

    module _ (sim_step : SimS (step_in g) in_step l.step) where
      step_alike' : (vs : List Variable) (b : Blocks) (tm : ℕ → Held) (ob : ℕ → Option ℕ) → Stands g vs tm ob
          → Alike g (run_stmt (here g) l.step (step_way (here g) l w) (now g vs b)) body (own g ob tm b)
      step_alike' vs b tm ob h =
          stepped (run_stmt (here g) l.step (step_way (here g) l w) (now g vs b)) body (then_ latch_row latch) (own g ob tm b) (own g ob tm b) (body_over (lowered g.t) g.thread g.answer g.cs' g.s body_row latch_row (then_ behind_row q) (own g ob tm b))
          (none_left g vs b tm ob h site (over_next (looped (frame g)) l.body) (λ k e. apart_if (nexts_in l.body) g.a.around (held (looped (frame g)) l.body) k e)
          (run_stmt (here g) l.step (step_way (here g) l w) (now g vs b)) step_row latch (sim_step (step_way (here g) l w) [] no_nodes latch step_goes vs b tm ob h))

      pub body_goes : GoesS (body_in g l) (jumps_of g.t g.n g.f l.body) (body_way (here g) l (run_stmt (here g) l.step) w) [] no_nodes body
      body_goes = record {
        at = at_body site l is goes.at;
        end = λ vs b tm ob h. row_ends g (run_stmt (here g) l.step (step_way (here g) l w) (now g vs b)) body (own g ob tm b) (step_alike' vs b tm ob h);
        breaks = λ e vs b tm ob h. left_alike vs b tm ob h;
        continues = λ e vs b tm ob h. step_alike' vs b tm ob h;
        over_breaks = λ e none k h. ends_forgive (lowered g.t) g.thread g.answer g.cs' g.s site (over_break (looped (frame g)) l.body) r q k (among_if (breaks_in l.body) (fresh g.a.around (held (looped (frame g)) l.body)) k e h);
        over_nexts = λ e k h m.
            body_over (lowered g.t) g.thread g.answer g.cs' g.s body_row latch_row (then_ behind_row q) (object_ended m k)
            ∙ ends_forgive (lowered g.t) g.thread g.answer g.cs' g.s site (over_next (looped (frame g)) l.body) step_row latch k (among_if (nexts_in l.body) (fresh g.a.around (held (looped (frame g)) l.body)) k e h) m
            ∙ sym (body_over (lowered g.t) g.thread g.answer g.cs' g.s body_row latch_row (then_ behind_row q) m);
      }

      module _ (sim_body : SimS (body_in g l) (jumps_of g.t g.n g.f l.body) l.body) where
        body_alike : (vs : List Variable) (b : Blocks) (tm : ℕ → Held) (ob : ℕ → Option ℕ) → Stands g vs tm ob
            → Alike g (run_stmt (here g) l.body (body_way (here g) l (run_stmt (here g) l.step) w) (now g vs b)) (then_ (stmt_nodes (frame (body_in g l)) l.body [] no_nodes) body) (own g ob tm b)
        body_alike vs b tm ob h = sim_body (body_way (here g) l (run_stmt (here g) l.step) w) [] no_nodes body body_goes vs b tm ob h

        pub test_goes : (vs : List Variable) (ob : ℕ → Option ℕ) (b : Blocks) (tm : ℕ → Held) → Stands g vs tm ob → (place : ℕ) (lh : Access) (rch : Reach)
            → GoesE (body_in g l) vs ob b tm (loop_test_way (here g) place l (run_stmt (here g) l.body) (run_stmt (here g) l.step) w) (start g) lh rch
            (branches place (start g) no_nodes (more_nodes (ir.break_ place) no_nodes) (stmt_nodes (frame (body_in g l)) l.body [] no_nodes)) body
        test_goes vs ob b tm agrees place lh rch = record {
          at = at_loop_test place site l lh rch is goes.at;
          above = omega arith;
          agrees = agrees;
          go = λ v a kind below e points.
              let h = agrees_on g vs tm a ob (start g) (omega arith) agrees below in
              let rest : Position = then_ (stmt_nodes (frame (body_in g l)) l.body [] no_nodes) body in
              branch (lowered g.t) g.thread g.answer g.cs' g.s g.t
              (λ c. if c then run_stmt (here g) l.body (body_way (here g) l (run_stmt (here g) l.step) w) (now g vs b) else w.end (now g vs b)) place (start g)
              no_nodes (more_nodes (ir.break_ place) no_nodes) (stmt_nodes (frame (body_in g l)) l.body [] no_nodes) body (own g ob a b) v e
              (row_ends g (run_stmt (here g) l.body (body_way (here g) l (run_stmt (here g) l.step) w) (now g vs b)) rest (own g ob a b) (body_alike vs b a ob h))
              (stepped (w.end (now g vs b)) (then_ (more_nodes (ir.break_ place) no_nodes) rest) (then_ behind_row q) (own g ob a b) (own g ob a b)
              (breaks_out (lowered g.t) g.thread g.answer g.cs' g.s place no_nodes rest (own g ob a b)) (left_alike vs b a ob h));
        }

        rounds_alike : (vs : List Variable) (b : Blocks) (tm : ℕ → Held) (ob : ℕ → Option ℕ) → Stands g vs tm ob → (o : Option tree.Expr) → IfTyped (ctx g.t g.n g.f) IsScalar o → Free g.t (count_if o)
            → Alike g (rounds_if (here g) l (run_stmt (here g) l.body) (run_stmt (here g) l.step) w o (now g vs b)) (then_ (test_nodes (frame (body_in g l)) o (stmt_nodes (frame (body_in g l)) l.body [] no_nodes)) body) (own g ob tm b)
        rounds_alike vs b tm ob h None typed free = body_alike vs b tm ob h
        rounds_alike vs b tm ob h (Some e) typed free =
            expr_sim (body_in g l) (free (one_or_more e)) e typed.0 typed.1 vs ob b tm (loop_test_way (here g) (tree.place_of e) l (run_stmt (here g) l.body) (run_stmt (here g) l.step) w) (start g)
            (branches (tree.place_of e) (start g) no_nodes (more_nodes (ir.break_ (tree.place_of e)) no_nodes) (stmt_nodes (frame (body_in g l)) l.body [] no_nodes)) body
            (test_goes vs ob b tm h (tree.place_of e) (access_of_type (tree.type_of e)) (pointed (frame (body_in g l)) e))

        -- a round
        pub loop_alike : (vs : List Variable) (b : Blocks) (tm : ℕ → Held) (ob : ℕ → Option ℕ) → Stands g vs tm ob
            → Alike g (rounds (here g) l (run_stmt (here g) l.body) (run_stmt (here g) l.step) w (now g vs b)) (then_ body_row body) (own g ob tm b)
        loop_alike vs b tm ob h = rounds_alike vs b tm ob h l.condition is.condition is.free_condition

        -- a loop
        pub enters_alike : (vs : List Variable) (b : Blocks) (tm : ℕ → Held) (ob : ℕ → Option ℕ) → Stands g vs tm ob
            → Alike g (rounds (here g) l (run_stmt (here g) l.body) (run_stmt (here g) l.step) w (now g vs b)) (then_ (more_nodes (ir.loop site body_row latch_row) behind_row) q) (own g ob tm b)
        enters_alike vs b tm ob h =
            stepped (rounds (here g) l (run_stmt (here g) l.body) (run_stmt (here g) l.step) w (now g vs b)) (then_ (more_nodes (ir.loop site body_row latch_row) behind_row) q) (then_ body_row body) (own g ob tm b) (own g ob tm b)
            (enters_loop (lowered g.t) g.thread g.answer g.cs' g.s site body_row latch_row behind_row q (own g ob tm b)) (loop_alike vs b tm ob h)

        -- behind the first clause of a for
        pub loop_goes : (around : List ℕ) → GoesS g in_function (loop_way (here g) l (run_stmt (here g) l.body) (run_stmt (here g) l.step) w) around (more_nodes (ir.loop site body_row latch_row) behind_row) q
        loop_goes around = record {
          at = at_loop site around l is goes.at;
          end = enters_alike;
          breaks = λ e. absurd cc;
          continues = λ e. absurd cc;
          over_breaks = λ e. absurd cc;
          over_nexts = λ e. absurd cc;
        }
