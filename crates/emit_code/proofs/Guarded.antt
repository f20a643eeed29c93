-- A row begins with no call, and with no end of a round: where control comes to it from elsewhere, no safepoint is passed by.
use Rattle.std.proofs.Common.{◌≡◌, ℕ, ◌+◌, List, Option, Some, None, true, false, ◌&&◌, ◌⊎◌, inl, inr, refl, sym, ap, subst}
use Rattle.std.specs.Prelude.{slice_get, is_some}
use Rattle.struct_ir.specs.Nodes.{set, call, step, look, safepoint, begin_object, end_object, plain, if_, loop, break_, next_, ret, Nodes, no_nodes, more_nodes}
use Rattle.struct_ir.specs.Valid.{last_list, are_placed}
use Rattle.struct_ir.specs.Instrs.{Instr}
use Rattle.struct_ir.specs.Lawful.{is_guarded}
use Rattle.struct_ir.specs.Stands.{Lies}
use Rattle.emit_code.proofs.Safepoints.{false_true, left_of, right_of}

module _ (code : List Instr) where
  -- no round goes back at this index, and no call is entered there
  abbrev pub Free : ℕ → Type 0
  Free at = is_guarded (slice_get code at) ≡ false

  -- the row ends in a safepoint, or none is needed behind it
  abbrev pub Ends : Option (List ℕ) → Nodes → (end : ℕ) → Type 0
  Ends list ns end = (is_some (last_list list ns) ≡ true) ⊎ Free end

  free_at : (at to : ℕ) → at ≡ to → Free to → Free at
  free_at at to e f = subst Free (sym e) f

  pub row_free : (ns : Nodes) (at end out next : ℕ) → Lies code ns at end out next → are_placed None ns ≡ true → Ends None ns end → Free at
  row_free no_nodes at end out next l p (inl e) = false_true e
  row_free no_nodes at end out next l p (inr f) = subst Free l f
  row_free (more_nodes (plain place (set to calc)) rest) at end out next l p e = ap is_guarded l.1.0
  row_free (more_nodes (plain place (call c)) rest) at end out next l p e = false_true p
  row_free (more_nodes (plain place (step s)) rest) at end out next l p e = ap is_guarded l.1.0
  row_free (more_nodes (plain place (look slot base)) rest) at end out next l p e = ap is_guarded l.1.0
  row_free (more_nodes (plain place (safepoint slots)) rest) at end out next l p e = ap is_guarded l.1.0
  row_free (more_nodes (plain place (begin_object i)) rest) at end out next l p e = free_at at l.0 (sym l.1) (row_free rest l.0 end out next l.2 p e)
  row_free (more_nodes (plain place (end_object i)) rest) at end out next l p e = free_at at l.0 (sym l.1) (row_free rest l.0 end out next l.2 p e)
  row_free (more_nodes (if_ place temp one other) rest) at end out next l p e = ap is_guarded l.1.1
  row_free (more_nodes (loop place body latch) rest) at end out next l p e =
      let p0 = left_of (are_placed None body && (are_placed None latch && is_some (last_list None latch))) (are_placed None rest) p in
      let p1 = right_of (are_placed None body) (are_placed None latch && is_some (last_list None latch)) p0 in
      let turn = row_free latch l.1.0 l.1.1 (l.1.1 + 1) l.1.1 l.1.3 (left_of (are_placed None latch) (is_some (last_list None latch)) p1) (inl (right_of (are_placed None latch) (is_some (last_list None latch)) p1)) in
      row_free body at l.1.0 (l.1.1 + 1) l.1.0 l.1.2 (left_of (are_placed None body) (are_placed None latch && is_some (last_list None latch)) p0) (inr turn)
  row_free (more_nodes (break_ place) rest) at end out next l p e = ap is_guarded l.1.0
  row_free (more_nodes (next_ place) rest) at end out next l p e = ap is_guarded l.1.0
  row_free (more_nodes (ret place temp) rest) at end out next l p e = ap is_guarded l.1.0

  -- behind a node that is no safepoint
  pub behind_free : (list : Option (List ℕ)) (rest : Nodes) (at end out next : ℕ) → Lies code rest at end out next → are_placed list rest ≡ true → Ends list rest end → (is_some list ≡ true) ⊎ Free at
  behind_free None rest at end out next l p e = inr (row_free rest at end out next l p e)
  behind_free (Some slots) rest at end out next l p e = inl refl
