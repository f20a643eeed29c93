-- Each turn of a thread of the code is one of the source's thread.
use Rattle.std.proofs.Common.{◌≡◌, ℕ, zero, suc, ◌<◌, ◌≤◌, inl, inr, pos, false, List, [], ◌∷◌, length, map, take, Option, Some, None, Ok, refl, sym, ap, subst, ◌∙◌, arith}
use Rattle.std.specs.Prelude.{slice_get}
use Rattle.std.specs.List.{AllByRecursion}
use Rattle.std.proofs.lemmas.Option.{same_Some, slice_get_within}
use Rattle.ak_words.specs.declared.rule.Rule.TheVariants.{C15}
use Rattle.ak_words.specs.IntType.{int}
use Rattle.ak_words.specs.Num.{num}
use Rattle.block_store.specs.declared.values.Access.{Access}
use Rattle.block_store.specs.declared.values.Access.TheVariants as accesses
use Rattle.block_store.specs.declared.values.Answer.{Answer}
use Rattle.block_store.specs.declared.values.Ptr.{Ptr}
use Rattle.block_store.specs.declared.values.Value.TheVariants as values
use Rattle.block_store.specs.Actions.{World}
use Rattle.block_store.specs.Blocks.{Blocks}
use Rattle.block_store.specs.Runs as runs
use Rattle.c_tree.specs.Typed as tree
use Rattle.c_tree.specs.TypedForm.{Jumps, IsWellFormed, IsFunc, CanStart, IsNth, AreArguments, signature_of}
use Rattle.c_meaning.specs.Values.{access_of_type}
use Rattle.c_meaning.specs.Control as source
use Rattle.c_meaning.specs.Control.{Variable, Control, Todo, Use, wanted, dropped}
use Rattle.c_meaning.specs.Turns.{Way, WayOfUse, way_of, use_of, from_point, turn, begins_in, first_locals}
use Rattle.c_meaning.specs.Meaning.{arguments_if, begins_if}
use Rattle.struct_ir.specs.Nodes as ir
use Rattle.struct_ir.specs.Nodes.{Nodes, Func}
use Rattle.struct_ir.specs.Structured.{Position, then_, done, structured}
use Rattle.struct_ir.specs.Threads.{Thread}
use Rattle.struct_ir.specs.Threads as threads
use Rattle.struct_ir.specs.meaning.Blocks as code
use Rattle.struct_ir.specs.meaning.Blocks.{Held, value, number, broken, Own, set_at, known, on_value, blocks_machine}
use Rattle.struct_ir.specs.meaning.Threads.{nodes_of, params_of, first_temps, passed, blocks_world, start_in, turned, program_of}
use Rattle.lower_forms.specs.Forms.{Reach, found, sets, sets_int, member_reach}
use Rattle.lower_forms.specs.Programs.{homes_from, registers_of, lowered}
use Rattle.lower_turns.proofs.Relation.{Around, AgreesIn, outermost, jumps_of, in_step, at_switch, at_cases, at_switch_test, Calls, Free, AtS, at_leaves, at_row, at_end, at_loop, at_body, at_step, at_inner, at_int, AtE, at_first, at_second, at_convert, at_not, at_test, at_member, at_read, at_and, at_or, at_second_test, at_choice, at_wanted, at_dropped, at_local, at_left, at_place, at_block, at_struct_left, at_struct_right, at_update_left, at_update_right, at_update_read, at_update_local, at_if, at_loop_test, at_caller, at_nowhere, at_inside, at_found, at_again, no_callers, PointIs, at_gives, at_zero, at_lacks, at_begins, at_round, Same, same, CanBegin, AllBegin, Together, both_broke}
use Rattle.lower_turns.proofs.Rooms.{whole_room, body_room, step_room}
use Rattle.lower_turns.proofs.Registers.{set_here, below_same, below_set, agrees_below}
use Rattle.lower_turns.proofs.Steps.{set_then, set_breaks}
use Rattle.lower_turns.proofs.Setting.{Stands, Leaves, at_around, body_in, step_in, halted_in, Setting, here, now, own, Alike, start, agrees_on, GoesE, GoesS, points_found, anyhow, inner, inner_row}
use Rattle.lower_turns.proofs.Uses.{gets, second_goes, truth_goes, not_goes, test_goes, member_goes, convert_goes, read_goes}
use Rattle.lower_turns.proofs.Tests.{first_goes, and_goes, or_goes, choice_goes}
use Rattle.lower_turns.proofs.Calls.{all_at, nth_lowered, ParamsAre, new_agrees, wait_wanted, wait_dropped}
use Rattle.lower_turns.proofs.Exprs.{expr_sim, place_sim, args_sim, argument_goes}
use Rattle.lower_turns.proofs.Ends.{end_goes}
use Rattle.lower_turns.proofs.Assigns.{nowhere_goes, local_goes, place_goes, block_goes, struct_right_goes, update_read_goes, update_local_goes}
use Rattle.lower_turns.proofs.Sides.{left_goes, struct_left_goes, update_right_goes, updated_goes}
use Rattle.lower_turns.proofs.Leaves.{leave_goes, caller_goes}
use Rattle.lower_turns.proofs.Loops.{row_goes, if_goes, step_goes, body_goes, test_goes as round_goes, loop_goes, loop_alike}
use Rattle.lower_turns.proofs.Switches.{label_there, switch_goes, cases_goes, switch_test_goes}
use Rattle.lower_turns.proofs.Stmts.{stmt_sim, row_sim, cases_sim, from_sim, sum_zero}

module _ (g : Setting) where
  int_leaves : (w : Way) (left : List ℕ) (r : Nodes) (q : Position) (place to z : ℕ) → start g ≤ to → (flag : Option ℕ) → Leaves g w left r q flag → Leaves g w left (sets_int place to z r) q flag
  int_leaves w left r q place to z le None h = h
  int_leaves w left r q place to z le (Some flag) h = λ vs b tm ob stands.
      set_then (lowered g.t) g.thread g.answer g.cs' g.s g.t (w.breaks (now g vs b)) place to (ir.constant int (pos z)) r q (own g ob tm b) (number (num int (pos z))) refl
      (h vs b (set_at tm to (number (num int (pos z)))) ob
      (agrees_on (halted_in g) vs tm (set_at tm to (number (num int (pos z)))) ob (start g) (omega arith) stands (below_set (start g) to tm tm (number (num int (pos z))) le (below_same (start g) tm))))

  -- an int comes to a register that nothing uses
  int_goes : (io : Jumps) (w : Way) (left : List ℕ) (r : Nodes) (q : Position) → GoesS g io w left r q → (place to z : ℕ) → start g ≤ to → GoesS g io w left (sets_int place to z r) q
  int_goes io w left r q goes place to z le = record {
    at = at_int place to z le goes.at;
    end = λ vs b tm ob h.
        set_then (lowered g.t) g.thread g.answer g.cs' g.s g.t (w.end (now g vs b)) place to (ir.constant int (pos z)) r q (own g ob tm b) (number (num int (pos z))) refl
        (goes.end vs b (set_at tm to (number (num int (pos z)))) ob (agrees_on g vs tm (set_at tm to (number (num int (pos z)))) ob (start g) (omega arith) h (below_set (start g) to tm tm (number (num int (pos z))) le (below_same (start g) tm))));
    breaks = λ e. int_leaves w left r q place to z le g.a.flag (goes.breaks e);
    continues = goes.continues;
    over_breaks = goes.over_breaks;
    over_nexts = goes.over_nexts;
  }

  module _ (busy : Calls g.t) (vs : List Variable) (ob : ℕ → Option ℕ) (b : Blocks) (tm : ℕ → Held) (agrees : Stands g vs tm ob) where
    -- a register is copied onto itself
    again_goes : (w : WayOfUse) (u : ℕ) (how : Access) (r : Nodes) (q : Position) → GoesE g vs ob b tm w u how found r q → (place : ℕ) (rch : Reach) → GoesE g vs ob b tm w u how rch (sets place u (ir.copy u) r) q
    again_goes w u how r q goes place rch = record {
      at = at_again place rch goes.at;
      above = goes.above;
      agrees = goes.agrees;
      go = λ v a kind below is points.
          set_then (lowered g.t) g.thread g.answer g.cs' g.s g.t (w.go v (now g vs b)) place u (ir.copy u) r q (own g ob a b) (value v) (ap (λ (h : Held). on_value (known place h) (λ z. Ok (value z))) is)
          (gets g vs ob b tm a w u how found r q goes below v kind (points_found (set_at a u (value v)) u v (set_here a u (value v))));
    }

module _ (g : Setting) where
  -- what is left to do is done alike
  pub goes_s : (a : Around) (low : length g.f.locals ≤ a.first) (io : Jumps) (k : Todo) (left : List ℕ) (r : Nodes) (q : Position) → AtS g.t g.n g.f a io k left r q → GoesS (at_around g a low) io (way_of (here g) k) left r q
  goes_s _ low _ _ _ _ _ at_leaves = leave_goes (at_around g (outermost g.t.structs g.f) low) refl
  goes_s _ low _ _ _ _ _ (at_row {a} {io} {k} {left} {r} {q} rest well room free at) = row_goes (at_around g a low) io (way_of (here g) k) left r q (goes_s a low io k left r q at) rest well room free (row_sim (at_around g a low) rest io well room free)
  goes_s _ low _ _ _ _ _ (at_end {a} {io} {k} {left} {r} {q} place is covers at) = end_goes (at_around g a low) io (way_of (here g) k) left r q (goes_s a low io k left r q at) place is covers
  goes_s _ low _ _ _ _ _ (at_loop {a} {io} {k} {left} {r} {q} place around l is at) =
      loop_goes (at_around g a low) io (way_of (here g) k) left r q (goes_s a low io k left r q at) l is place (stmt_sim (step_in (at_around g a low)) l.step in_step is.step (step_room g.t g.n g.f a l is) is.free_step) (stmt_sim (body_in (at_around g a low) l) l.body (jumps_of g.t g.n g.f l.body) is.body (body_room g.t g.n g.f a l is) is.free_body) around
  goes_s _ low _ _ _ _ _ (at_body {a} {io} {k} {left} {r} {q} site l is at) = body_goes (at_around g a low) io (way_of (here g) k) left r q (goes_s a low io k left r q at) l is site (stmt_sim (step_in (at_around g a low)) l.step in_step is.step (step_room g.t g.n g.f a l is) is.free_step)
  goes_s _ low _ _ _ _ _ (at_step {a} {io} {k} {left} {r} {q} site l is at) = step_goes (at_around g a low) io (way_of (here g) k) left r q (goes_s a low io k left r q at) l is site
  goes_s _ low _ _ _ _ _ (at_inner {a} {io} {k} {left} {r} {q} at) = inner_row (at_around g a low) io (way_of (here g) k) left r q (goes_s a low io k left r q at)
  goes_s _ low _ _ _ _ _ (at_int {a} {io} {k} {left} {r} {q} place to z le at) = int_goes (at_around g a low) io (way_of (here g) k) left r q (goes_s a low io k left r q at) place to z le
  goes_s _ low _ _ _ _ _ (at_switch {a} {io} {k} {left} {r} {q} n under at) = switch_goes (at_around g a under) n low io (way_of (here g) k) left r q (goes_s a under io k left r q at)
  goes_s _ low _ _ _ _ _ (at_cases {a} {io} {k} {left} {r} {q} n place labels i rest under well room free past at) =
      let goes = goes_s a under io k left r q at in
      let l = label_there labels n past.at past.starts in
      let few : length labels ≤ 1024 = past.few in
      let small : n ≤ 1024 = omega (arith, few, slice_get_within labels n l.0 l.1) in
      cases_goes (at_around g a under) n low place labels few small io (way_of (here g) k) left r q goes i rest well room free past
      (cases_sim (at_around g a under) n low place labels few small io (way_of (here g) k) left r q goes rest well room free i past)

  -- what a value is used for is done alike
  module _ (busy : Calls g.t) (vs : List Variable) (ob : ℕ → Option ℕ) (b : Blocks) (tm : ℕ → Held) where
    pub goes_e : (a : Around) (low : length g.f.locals ≤ a.first) → Stands (at_around g a low) vs tm ob → (k : Use) (u : ℕ) (how : Access) (rch : Reach) (r : Nodes) (q : Position) → AtE g.t g.n g.f ob tm a k u how rch r q
        → GoesE (at_around g a low) vs ob b tm (use_of (here g) k) u how rch r q
    goes_e _ low agrees _ _ _ _ _ _ (at_first {a} {k} {u} {how} {rch} {r} {q} place op right lh lrch ty sc fits j at) =
        first_goes (at_around g a low) vs ob b tm (use_of (here g) k) u r q how rch (goes_e a low agrees k u how rch r q at) place op right lh lrch ty sc fits j (expr_sim (at_around g a low) busy right ty sc)
    goes_e _ low agrees _ _ _ _ _ _ (at_second {a} {k} {u} {how} {rch} {r} {q} place op left lh rh rrch fits kind e j at) =
        second_goes (at_around g a low) vs ob b tm (use_of (here g) k) u r q how rch (goes_e a low agrees k u how rch r q at) place op left lh rh rrch fits kind e j
    goes_e _ low agrees _ _ _ _ _ _ (at_convert {a} {k} {u} {rch} {r} {q} place from to fits at) =
        convert_goes (at_around g a low) vs ob b tm (use_of (here g) k) u r q place from to rch fits (goes_e a low agrees k u (access_of_type to) rch r q at)
    goes_e _ low agrees _ _ _ _ _ _ (at_not {a} {k} {u} {r} {q} place ty rch at) = not_goes (at_around g a low) vs ob b tm (use_of (here g) k) u r q (goes_e a low agrees k u (accesses.Number int) found r q at) place ty rch
    goes_e _ low agrees _ _ _ _ _ _ (at_test {a} {k} {u} {r} {q} place rch at) = test_goes (at_around g a low) vs ob b tm (use_of (here g) k) u r q (goes_e a low agrees k u (accesses.Number int) found r q at) place rch
    goes_e _ low agrees _ _ _ _ _ _ (at_member {a} {k} {u} {r} {q} place offset rch small at) =
        member_goes (at_around g a low) vs ob b tm (use_of (here g) k) u r q place offset rch small (goes_e a low agrees k u accesses.Pointer (member_reach offset rch) r q at)
    goes_e _ low agrees _ _ _ _ _ _ (at_read {a} {k} {u} {r} {q} place how atomic rch at) = read_goes (at_around g a low) vs ob b tm (use_of (here g) k) u r q busy how (goes_e a low agrees k u how found r q at) place atomic rch
    goes_e _ low agrees _ _ _ _ _ _ (at_and {a} {k} {u} {r} {q} place right lh rch ty sc at) =
        and_goes (at_around g a low) vs ob b tm (use_of (here g) k) u r q (goes_e a low agrees k u (accesses.Number int) found r q at) place right lh rch ty sc (expr_sim (at_around g a low) busy right ty sc)
    goes_e _ low agrees _ _ _ _ _ _ (at_or {a} {k} {u} {r} {q} place right lh rch ty sc at) =
        or_goes (at_around g a low) vs ob b tm (use_of (here g) k) u r q (goes_e a low agrees k u (accesses.Number int) found r q at) place right lh rch ty sc (expr_sim (at_around g a low) busy right ty sc)
    goes_e _ low agrees _ _ _ _ _ _ (at_second_test {a} {k} {u} {r} {q} place lh rch at) = truth_goes (at_around g a low) vs ob b tm (use_of (here g) k) u r q (goes_e a low agrees k u (accesses.Number int) found r q at) place lh rch
    goes_e _ low agrees _ _ _ _ _ _ (at_choice {a} {k} {u} {how} {r} {q} place one other lh rch t1 s1 e1 t2 s2 e2 at) =
        choice_goes (at_around g a low) vs ob b tm (use_of (here g) k) u r q how (goes_e a low agrees k u how found r q at) place one other lh rch t1 s1 e1 (expr_sim (at_around g a low) busy one t1 s1) t2 s2 e2 (expr_sim (at_around g a low) busy other t2 s2)
    goes_e _ low agrees _ _ _ _ _ _ (at_wanted {a} {k} {u} {r} {q} place callee all e rest before v ty rch typed sc call scs scalar taken above at) =
        argument_goes (at_around g a low) busy e rest typed (args_sim (at_around g a low) busy rest typed) vs ob b tm place callee all before (wanted place k) u v ty rch r q sc call scs (wait_wanted scalar above at) taken agrees
    goes_e _ low agrees _ _ _ _ _ _ (at_dropped {a = a} {k = k} {u = u} {r = r} {q = q} place callee all e rest before v ty rch typed sc call scs taken above at) =
        argument_goes (at_around g a low) busy e rest typed (args_sim (at_around g a low) busy rest typed) vs ob b tm place callee all before (dropped k) u v ty rch r q sc call scs (wait_dropped above at) taken agrees
    goes_e _ low agrees _ _ _ _ _ _ (at_local {a} {io} {k} {left} {r} {q} place i l rch there none at) =
        local_goes (at_around g a low) vs ob b tm agrees io (way_of (here g) k) left r q (goes_s a low io k left r q at) place i l rch there none
    goes_e _ low agrees _ _ _ _ _ _ (at_left {a} {io} {k} {left} {r} {q} place atomic right how rch ty sc e at) =
        left_goes (at_around g a low) vs ob b io (way_of (here g) k) left r q (goes_s a low io k left r q at) tm agrees place atomic right how rch ty sc e (expr_sim (at_around g a low) busy right ty sc)
    goes_e _ low agrees _ _ _ _ _ _ (at_place {a} {io} {k} {left} {r} {q} place atomic to how via rch leads at) =
        place_goes (at_around g a low) vs ob b tm agrees io (way_of (here g) k) left r q (goes_s a low io k left r q at) place atomic to how via rch leads
    goes_e _ low agrees _ _ _ _ _ _ (at_block {a} {io} {k} {left} {r} {q} place atomic i object c how rch has lt there at) =
        block_goes (at_around g a low) vs ob b tm agrees io (way_of (here g) k) left r q (goes_s a low io k left r q at) place atomic i object c how rch has lt there
    goes_e _ low agrees _ _ _ _ _ _ (at_struct_left {a} {io} {k} {left} {r} {q} place ty right rch typed p small at) =
        struct_left_goes (at_around g a low) vs ob b io (way_of (here g) k) left r q (goes_s a low io k left r q at) tm agrees place ty right rch typed p small (place_sim (at_around g a low) busy right typed p)
    goes_e _ low agrees _ _ _ _ _ _ (at_struct_right {a} {io} {k} {left} {r} {q} place ty to via rch leads small at) =
        struct_right_goes (at_around g a low) vs ob b tm agrees io (way_of (here g) k) left r q (goes_s a low io k left r q at) place ty to via rch leads small
    goes_e _ low agrees _ _ _ _ _ _ (at_update_left {a} {io} {k} {left} {r} {q} place x right op rch ty sc can at) =
        updated_goes (at_around g a low) vs ob b io (way_of (here g) k) left r q (goes_s a low io k left r q at) tm agrees busy place x right op can rch ty sc (expr_sim (at_around g a low) busy right ty sc)
    goes_e _ low agrees _ _ _ _ _ _ (at_update_right {a} {io} {k} {left} {r} {q} place x right op to via rch leads can at) =
        update_right_goes (at_around g a low) vs ob b io (way_of (here g) k) left r q (goes_s a low io k left r q at) tm agrees busy place x right op can to via rch leads
    goes_e _ low agrees _ _ _ _ _ _ (at_update_read {a} {io} {k} {left} {r} {q} place x right op to by via rch leads scalar can kind e at) =
        update_read_goes (at_around g a low) vs ob b tm agrees io (way_of (here g) k) left r q (goes_s a low io k left r q at) place x right op to by via rch leads scalar can kind e
    goes_e _ low agrees _ _ _ _ _ _ (at_update_local {a} {io} {k} {left} {r} {q} place i l x right op rch there none is scalar can at) =
        update_local_goes (at_around g a low) vs ob b tm agrees io (way_of (here g) k) left r q (goes_s a low io k left r q at) place i l x right op rch there none is scalar can
    goes_e _ low agrees _ _ _ _ _ _ (at_if {a} {io} {k} {left} {r} {q} place one other lh rch w1 w2 m1 m2 at) =
        if_goes (at_around g a low) io (way_of (here g) k) left r q (goes_s a low io k left r q at) place one other w1 w2 m1 m2 (stmt_sim (at_around g a low) one io w1 m1 (λ z. busy)) (stmt_sim (at_around g a low) other io w2 m2 (λ z. busy)) vs ob b tm agrees lh rch
    goes_e _ low agrees _ _ _ _ _ _ (at_loop_test {a} {io} {k} {left} {r} {q} place site l lh rch is at) =
        round_goes (at_around g a low) io (way_of (here g) k) left r q (goes_s a low io k left r q at) l is site (stmt_sim (step_in (at_around g a low)) l.step in_step is.step (step_room g.t g.n g.f a l is) is.free_step) (stmt_sim (body_in (at_around g a low) l) l.body (jumps_of g.t g.n g.f l.body) is.body (body_room g.t g.n g.f a l is) is.free_body) vs ob b tm agrees place lh rch
    goes_e _ low agrees _ _ _ _ _ _ (at_switch_test {a} {io} {k} {left} {r} {q} place labels body s rch all few well room free at) =
        let goes = goes_s a low io k left r q at in
        switch_test_goes (at_around g a low) io (way_of (here g) k) left r q goes place labels body few s all well room free
        (λ n under small i at_it. from_sim (at_around g a low) n under place labels few small io (way_of (here g) k) left r q goes body well room free 0 i (at_it ∙ ap Some (sum_zero i))) vs ob b tm agrees rch
    goes_e _ low agrees _ _ _ _ _ _ (at_caller {a} {r} {q} place rch) = caller_goes (at_around g a low) vs ob b tm agrees place rch r q
    goes_e _ low agrees _ _ _ _ _ _ (at_nowhere {a} {io} {k} {left} {r} {q} how rch at) = nowhere_goes (at_around g a low) vs ob b tm agrees io (way_of (here g) k) left r q (goes_s a low io k left r q at) how rch
    goes_e _ low agrees _ _ _ _ _ _ (at_inside {a} {k} {u} {how} {rch} {r} {q} at) = inner (at_around g a low) vs ob b tm (use_of (here g) k) u how rch r q (goes_e a low agrees k u how rch r q at)
    goes_e _ low agrees _ _ _ _ _ _ (at_found {a} {k} {u} {how} {r} {q} rch at) = anyhow (at_around g a low) vs ob b tm (use_of (here g) k) u how rch r q (goes_e a low agrees k u how found r q at)
    goes_e _ low agrees _ _ _ _ _ _ (at_again {a} {k} {u} {how} {r} {q} place rch at) = again_goes (at_around g a low) busy vs ob b tm agrees (use_of (here g) k) u how r q (goes_e a low agrees k u how found r q at) place rch

  -- from where a turn begins
  pub point_alike : (a : Around) (low : length g.f.locals ≤ a.first) (vs : List Variable) (ob : ℕ → Option ℕ) (b : Blocks) (tm : ℕ → Held) → Stands (at_around g a low) vs tm ob → (p : source.TurnStart) (q : Position) → PointIs g.t g.n g.f ob tm a p q
      → Alike g (from_point (here g) p (now g vs b)) q (own g ob tm b)
  point_alike a low vs ob b tm agrees _ _ (at_gives {k = k} {u} {how} {r} {q} v kind is above busy at) =
      (goes_e busy vs ob b tm a low agrees k u how found r q at).go v tm kind (below_same u tm) is (points_found tm u v is)
  point_alike a low vs ob b tm agrees _ _ (at_zero {k = k} {u} {r} {q} place above busy at) =
      let goes = goes_e busy vs ob b tm a low agrees k u (accesses.Number int) found r q at in
      set_then (lowered g.t) g.thread g.answer g.cs' g.s g.t _ place u (ir.constant int (pos 0)) r q (own g ob tm b) (number (num int (pos 0))) refl
      (gets (at_around g a low) vs ob b tm tm (use_of (here g) k) u (accesses.Number int) found r q goes (below_same u tm) (values.Num (num int (pos 0))) refl tt)
  point_alike a low vs ob b tm agrees _ _ (at_lacks {u = u} {r} {q} place is) =
      subst (Together g.t (runs.broke C15 place))
      (sym (set_breaks (lowered g.t) g.thread g.answer g.cs' g.s place u (ir.copy u) r q (own g ob tm b) (broken C15 place) (ap (λ (h : Held). on_value (known place h) (λ z. Ok (value z))) is))) (both_broke C15 place)
  point_alike a low vs ob b tm agrees _ _ (at_begins {io = io} {k} {left} {r} {q} at) = (goes_s a low io k left r q at).end vs b tm ob agrees
  point_alike a low vs ob b tm agrees _ _ (at_round {io = io} {k} {left} {r} {q} site l is at) =
      loop_alike (at_around g a low) io (way_of (here g) k) left r q (goes_s a low io k left r q at) l is site (stmt_sim (step_in (at_around g a low)) l.step in_step is.step (step_room g.t g.n g.f a l is) is.free_step) (stmt_sim (body_in (at_around g a low) l) l.body (jumps_of g.t g.n g.f l.body) is.body (body_room g.t g.n g.f a l is) is.free_body) vs b tm ob agrees

-- a turn
pub turn_alike : (t : tree.Typed) → IsWellFormed t → (thread : ℕ) (answer : Answer) (x : Control) (y : Thread Position Own) (w : World) → AllBegin t w → Same t x y
    → Together t (turn t thread answer x w) (turned (threads.turn structured (blocks_machine (lowered t)) (blocks_world (lowered t) thread) (start_in (lowered t)) answer y w))
turn_alike t well thread answer _ _ w all (same {a} {n} {f} {vs} {tm} {ob} {b} {p} {q} {cs} {cs'} call agrees point callers) =
    let g : Setting = record {
      t = t;
      well = well;
      thread = thread;
      answer = answer;
      s = w;
      begun = all;
      n = n;
      f = f;
      call = call;
      is_func = all_at (IsFunc t) t.funcs n f well.funcs call.there;
      a = a;
      low = agrees.low;
      cs = cs;
      cs' = cs';
      callers = callers;
    } in
    point_alike g a agrees.low vs ob w.blocks tm agrees p q point

-- ---- how threads begin

taken_long : {A B : Type 0} (h : A → B) (k : ℕ) (xs : List A) → k ≤ length xs → length (map h (take k xs)) ≡ k
taken_long h zero xs le = refl
taken_long h (suc k) [] le = absurd (omega (arith, le))
taken_long h (suc k) (x ∷ xs) le = ap suc (taken_long h k xs (omega (arith, le)))

-- a null pointer: an argument in the tree like a thread's first one
a_pointer : tree.Expr
a_pointer = tree.at 0 (tree.pointer tree.void) tree.null

module _ (t : tree.Typed) (well : IsWellFormed t) (argument : Ptr) where
  begin_zero : (m : ℕ) (f : tree.Func) (k : ℕ) → k ≡ 0 → AgreesIn f (outermost t.structs f) (first_locals f (arguments_if k argument)) (first_temps k argument) (λ i. None)
  begin_zero m f k e =
      subst (λ j. AgreesIn f (outermost t.structs f) (first_locals f (arguments_if j argument)) (first_temps j argument) (λ i. None)) (sym e)
      (new_agrees t m f 0 tree.no_exprs [] (λ i. code.unset) 0 (tt, tt) tt)

  one_temp : (i : ℕ) → first_temps 1 argument i ≡ passed (λ j. value (values.Pointer argument)) (0 ∷ []) i
  one_temp zero = refl
  one_temp (suc i) = refl

  begin_one : (m : ℕ) (f : tree.Func) (k : ℕ) → k ≡ 1 → ParamsAre 1 f.locals (tree.more_exprs a_pointer tree.no_exprs) → AgreesIn f (outermost t.structs f) (first_locals f (arguments_if k argument)) (first_temps k argument) (λ i. None)
  unfolding a_pointer
  begin_one m f k e params =
      subst (λ j. AgreesIn f (outermost t.structs f) (first_locals f (arguments_if j argument)) (first_temps j argument) (λ i. None)) (sym e)
      (agrees_below (homes_from 0 f.locals) (length f.locals) [] (outermost t.structs f).around f.locals (first_locals f (values.Pointer argument ∷ [])) (passed (λ j. value (values.Pointer argument)) (0 ∷ [])) (first_temps 1 argument) (λ i. None)
      (new_agrees t m f 1 (tree.more_exprs a_pointer tree.no_exprs) (values.Pointer argument ∷ []) (λ j. value (values.Pointer argument)) 0 params (tt, refl, tt)) (λ i lt. one_temp i))

  -- a function's first turn, where its locals agree
  begins_with : (m : ℕ) (f : tree.Func) → slice_get t.funcs m ≡ Some f → f.result ≡ tree.integer int → Free t (registers_of f) → AgreesIn f (outermost t.structs f) (first_locals f (arguments_if f.params argument)) (first_temps f.params argument) (λ i. None)
      → Same t (begins_if m argument (slice_get t.funcs m)) ((program_of (lowered t)).begins m argument)
  begins_with m f there gives free agrees =
      let fits = all_at (IsFunc t) t.funcs m f well.funcs there in
      subst (λ (o : Option tree.Func). Same t (begins_if m argument o) ((program_of (lowered t)).begins m argument)) (sym there)
      (subst (λ (o : Option Func). Same t (begins_in m f (arguments_if f.params argument) []) (record { top = record { at = then_ (nodes_of o) done; own = record { function = m; temps = first_temps (params_of o) argument; objects = λ i. None; blocks = [] } }; callers = [] }))
      (sym (nth_lowered t m f there))
      (same (record { there = there; free = free }) agrees (at_begins (at_row f.body fits.body (whole_room t m f) (λ lt. free (omega (arith, lt))) at_leaves)) (no_callers m f there gives)))

  main_begins : (m : ℕ) → m ≡ t.main → Same t (begins_if m argument (slice_get t.funcs m)) ((program_of (lowered t)).begins m argument)
  main_begins m e =
      let h = well.main in
      let there : slice_get t.funcs m ≡ Some h.0 = ap (slice_get t.funcs) e ∙ h.1 in
      begins_with m h.0 there h.2.1 (λ lt f is. subst (λ (z : tree.Func). 0 < registers_of z) (same_Some h.0 f (sym h.1 ∙ is)) lt) (begin_zero m h.0 (h.0).params h.2.0)

  start_begins : (m : ℕ) → Calls t → IsNth t.funcs m (λ f. CanStart (signature_of f)) → Same t (begins_if m argument (slice_get t.funcs m)) ((program_of (lowered t)).begins m argument)
  unfolding a_pointer
  start_begins m calls c =
      let is = all_at (IsFunc t) t.funcs m c.0 well.funcs c.1 in
      let types : map (λ (l : tree.Local). l.ty) (take (c.0).params (c.0).locals) ≡ tree.pointer tree.void ∷ [] = c.2.1 in
      let one : (c.0).params ≡ 1 = sym (taken_long (λ (l : tree.Local). l.ty) (c.0).params (c.0).locals is.params) ∙ ap length types in
      let fit : AreArguments (map (λ (l : tree.Local). l.ty) (take 1 (c.0).locals)) (tree.more_exprs a_pointer tree.no_exprs) =
      subst (λ (k : ℕ). AreArguments (map (λ (l : tree.Local). l.ty) (take k (c.0).locals)) (tree.more_exprs a_pointer tree.no_exprs)) one
      (subst (λ (ts : List tree.Ty). AreArguments ts (tree.more_exprs a_pointer tree.no_exprs)) (sym types) (tt, tt)) in
      let registers : AllByRecursion (λ (l : tree.Local). l.in_memory ≡ false) (take 1 (c.0).locals) = subst (λ (k : ℕ). AllByRecursion (λ (l : tree.Local). l.in_memory ≡ false) (take k (c.0).locals)) one is.in_registers in
      begins_with m c.0 c.1 c.2.0 (λ lt. calls) (begin_one m c.0 (c.0).params one (fit, registers))

  -- a thread begins alike
  pub begins_alike : (m : ℕ) → CanBegin t m → Same t (begins_if m argument (slice_get t.funcs m)) ((program_of (lowered t)).begins m argument)
  begins_alike m (inl e) = main_begins m e
  begins_alike m (inr c) = start_begins m c.0 c.1
