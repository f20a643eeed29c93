-- At each position of structured code its linear code does the same, or nothing is to be seen there.
use Rattle.std.proofs.Common.{◌≡◌, ℕ, ◌+◌, List, Bool, true, false, Option, Some, refl, sym, ap, ◌∙◌, subst, ◌⊎◌, inl, inr}
use Rattle.std.specs.Prelude.{slice_get}
use Rattle.struct_ir.specs.Nodes.{Act, Node, plain, if_, loop, break_, next_, ret, Nodes, no_nodes, more_nodes}
use Rattle.struct_ir.specs.Flow.{Stays}
use Rattle.struct_ir.specs.Structured.{Position, done, then_, in_body, in_latch, out_of, end_of, here, next, structured}
use Rattle.struct_ir.specs.Instrs.{Instr, acts, unless, jump, round_to, leave, LinearFunc, instrs_of}
use Rattle.struct_ir.specs.Linear.{Spot, instr_here, instr_next, here_in, next_in, linear}
use Rattle.struct_ir.specs.Marks.{is_lifetime_mark, IsUnseen, FollowsAt, both_go, first_goes, Follows}
use Rattle.struct_ir.specs.Stands.{ActLies, Lies, Joins, Stands, StandsAt, StandsIn}

module _ (code : List Instr) where
  -- the same stands at both, and control goes on to positions that correspond
  pub record Goes (k : Position) (at : ℕ) : Type 0 where
    pub same : here_in code at ≡ here k
    pub onward : Stays (here k) → (c : Bool) → StandsAt code (next_in code at c) (next k c)

  -- nothing is to be seen, and the linear code is there already
  pub record Slips (k : Position) (at : ℕ) : Type 0 where
    pub unseen : IsUnseen (here k)
    pub onward : (c : Bool) → StandsAt code at (next k c)

  abbrev pub Kept : Position → ℕ → Type 0
  Kept k at = Goes k at ⊎ Slips k at

  at_place : (at at' : ℕ) (k : Position) → at ≡ at' → StandsAt code at k → StandsAt code at' k
  at_place at at' k e h = subst (λ n. StandsAt code n k) e h

  out_place : (k : Position) (at out next : ℕ) → Stands code k at out next → StandsAt code out (out_of k)
  out_place done at out next h = at_place at out done (sym h.1) (record { out = out; next = next; stands = h })
  out_place (then_ nodes k) at out next h = out_place k h.1 out next h.4
  out_place (in_body body latch k) at out next h = at_place (h.2 + 1) out k (sym h.9) (record { out = h.3; next = h.4; stands = h.10 })
  out_place (in_latch body latch k) at out next h = at_place (at + 1) out k (sym h.9) (record { out = h.3; next = h.4; stands = h.10 })

  end_place : (k : Position) (at out next : ℕ) → Stands code k at out next → StandsAt code next (end_of k)
  end_place done at out next h = at_place at next done (sym h.2) (record { out = out; next = next; stands = h })
  end_place (then_ nodes k) at out next h = end_place k h.1 out next h.4
  end_place (in_body body latch k) at out next h = at_place at next (in_body body latch k) (sym h.8) (record { out = out; next = next; stands = h })
  end_place (in_latch body latch k) at out next h = at_place at next (in_latch body latch k) (sym h.8) (record { out = out; next = next; stands = h })

  -- what is behind the first node of a row
  rest_stands : (n : Node) (rest : Nodes) (k : Position) (at out next : ℕ) → (h : Stands code (then_ (more_nodes n rest) k) at out next) → Stands code (then_ rest k) h.2.0 out next
  rest_stands n rest k at out next h = (h.0, h.1, h.2.2, h.3, h.4)

  rest_place : (n : Node) (rest : Nodes) (k : Position) (at to out next : ℕ) → (h : Stands code (then_ (more_nodes n rest) k) at out next) → h.2.0 ≡ to → StandsAt code to (then_ rest k)
  rest_place n rest k at to out next h e = at_place h.2.0 to (then_ rest k) e (record { out = out; next = next; stands = rest_stands n rest k at out next h })

  -- an instruction that is known at an index
  here_as : (at : ℕ) (i : Instr) → slice_get code at ≡ Some i → here_in code at ≡ instr_here (Some i)
  here_as at i e = ap (λ (o : Option Instr). instr_here o) e

  goes_by : (k : Position) (at : ℕ) (i : Instr) → slice_get code at ≡ Some i → instr_here (Some i) ≡ here k → (Stays (here k) → (c : Bool) → StandsAt code (instr_next at (Some i) c) (next k c)) → Kept k at
  goes_by k at i e h on = inl (record {
    same = here_as at i e ∙ h;
    onward = λ s c. at_place (instr_next at (Some i) c) (next_in code at c) (next k c) (ap (λ (o : Option Instr). instr_next at o c) (sym e)) (on s c);
  })

  -- an act, or a mark
  plain_kept : (place : ℕ) (a : Act) (rest : Nodes) (k : Position) (at out next : ℕ) (b : Bool) → is_lifetime_mark a ≡ b → Stands code (then_ (more_nodes (plain place a) rest) k) at out next → Kept (then_ (more_nodes (plain place a) rest) k) at
  plain_kept place a rest k at out next true e h =
      let f : ActLies true code place a at h.2.0 = subst (λ (b : Bool). ActLies b code place a at h.2.0) e h.2.1 in
      inr (record { unseen = e; onward = λ c. rest_place (plain place a) rest k at at out next h f })
  plain_kept place a rest k at out next false e h =
      let f : ActLies false code place a at h.2.0 = subst (λ (b : Bool). ActLies b code place a at h.2.0) e h.2.1 in
      goes_by _ at (acts place a) f.0 refl (λ s c. rest_place (plain place a) rest k at (at + 1) out next h f.1)

  -- the three parts of an If
  if_next : (place temp : ℕ) (one other rest : Nodes) (k : Position) (at to : ℕ) → StandsAt code (at + 1) (then_ one (then_ rest k)) → StandsAt code to (then_ other (then_ rest k)) → (c : Bool)
      → StandsAt code (instr_next at (Some (unless place temp to)) c) (next (then_ (more_nodes (if_ place temp one other) rest) k) c)
  if_next place temp one other rest k at to x y true = x
  if_next place temp one other rest k at to x y false = y

  if_kept : (place temp : ℕ) (one other rest : Nodes) (k : Position) (at out next : ℕ) → Stands code (then_ (more_nodes (if_ place temp one other) rest) k) at out next → Kept (then_ (more_nodes (if_ place temp one other) rest) k) at
  if_kept place temp one other rest k at out next h =
      let f = h.2.1 in
      let r = rest_stands (if_ place temp one other) rest k at out next h in
      let yes : StandsAt code (at + 1) (then_ one (then_ rest k)) = record { out = out; next = next; stands = (f.0, h.2.0, f.2, inr (place, f.3), r) } in
      let no : StandsAt code (f.0 + 1) (then_ other (then_ rest k)) = record { out = out; next = next; stands = (h.2.0, h.2.0, f.4, inl refl, r) } in
      goes_by _ at (unless place temp (f.0 + 1)) f.1 refl (λ s c. if_next place temp one other rest k at (f.0 + 1) yes no c)

  -- the parts of a loop, which starts here, has its step and the end of its round there, and behind which the rest stands
  module _ (place : ℕ) (body latch : Nodes) (k : Position) (start latch_at round_at out next : ℕ) (bodies : Lies code body start latch_at (round_at + 1) latch_at)
      (latches : Lies code latch latch_at round_at (round_at + 1) round_at) (back : slice_get code round_at ≡ Some (round_to place start)) (rest : Stands code k (round_at + 1) out next) where
    body_place : StandsAt code start (then_ body (in_body body latch k))
    body_place = record {
      out = round_at + 1;
      next = latch_at;
      stands = (latch_at, latch_at, bodies, inl refl, (place, start, round_at, out, next, bodies, latches, back, refl, refl, rest));
    }

    latch_place : StandsAt code latch_at (then_ latch (in_latch body latch k))
    latch_place = record {
      out = round_at + 1;
      next = round_at;
      stands = (round_at, round_at, latches, inl refl, (place, start, latch_at, out, next, bodies, latches, back, refl, refl, rest));
    }

  loop_kept : (place : ℕ) (body latch rest : Nodes) (k : Position) (at out next : ℕ) → Stands code (then_ (more_nodes (loop place body latch) rest) k) at out next → Kept (then_ (more_nodes (loop place body latch) rest) k) at
  loop_kept place body latch rest k at out next h =
      let f = h.2.1 in
      let r = subst (λ m. Stands code (then_ rest k) m out next) f.5 (rest_stands (loop place body latch) rest k at out next h) in
      inr (record { unseen = tt; onward = λ c. body_place place body latch (then_ rest k) at f.0 f.1 out next f.2 f.3 f.4 r })

  node_kept : (n : Node) (rest : Nodes) (k : Position) (at out next : ℕ) → Stands code (then_ (more_nodes n rest) k) at out next → Kept (then_ (more_nodes n rest) k) at
  node_kept (plain place a) rest k at out next h = plain_kept place a rest k at out next (is_lifetime_mark a) refl h
  node_kept (if_ place temp one other) rest k at out next h = if_kept place temp one other rest k at out next h
  node_kept (loop place body latch) rest k at out next h = loop_kept place body latch rest k at out next h
  node_kept (break_ place) rest k at out next h = goes_by _ at (jump place out) h.2.1.0 refl (λ s c. out_place k h.1 out next h.4)
  node_kept (next_ place) rest k at out next h = goes_by _ at (jump place next) h.2.1.0 refl (λ s c. end_place k h.1 out next h.4)
  node_kept (ret place temp) rest k at out next h = goes_by _ at (leave place temp) h.2.1.0 refl (λ s c. absurd s)

  -- the end of a row
  end_kept : (k : Position) (at behind out next : ℕ) → Joins code at behind → Stands code k behind out next → Kept (then_ no_nodes k) at
  end_kept k at behind out next (inl e) h = inr (record { unseen = tt; onward = λ c. at_place behind at k (sym e) (record { out = out; next = next; stands = h }) })
  end_kept k at behind out next (inr e) h = goes_by (then_ no_nodes k) at (jump e.0 behind) e.1 refl (λ s c. record { out = out; next = next; stands = h })

  stands_kept : (k : Position) (at out next : ℕ) → Stands code k at out next → Kept k at
  stands_kept done at out next h = inl (record { same = h.0; onward = λ s c. absurd s })
  stands_kept (then_ no_nodes k) at out next h = end_kept k at h.1 out next (subst (λ m. Joins code m h.1) h.2 h.3) h.4
  stands_kept (then_ (more_nodes n rest) k) at out next h = node_kept n rest k at out next h
  stands_kept (in_body body latch k) at out next h = inr (record { unseen = tt; onward = λ c. latch_place h.0 body latch k h.1 at h.2 h.3 h.4 h.5 h.6 h.7 h.10 })
  stands_kept (in_latch body latch k) at out next h = goes_by (in_latch body latch k) at (round_to h.0 h.1) h.7 refl (λ s c. body_place h.0 body latch k h.1 h.2 at h.3 h.4 h.5 h.6 h.7 h.10)

  pub kept : (k : Position) (at : ℕ) → StandsAt code at k → Kept k at
  kept k at a = stands_kept k at a.out a.next a.stands

module _ (funcs : List LinearFunc) where
  go_on : (k : Position) (p : Spot) → Goes (instrs_of funcs p.function) k p.index ⊎ Slips (instrs_of funcs p.function) k p.index → FollowsAt structured (linear funcs) (StandsIn funcs) k p
  go_on k p (inl g) = both_go (record { here = g.same; next = g.onward })
  go_on k p (inr s) = first_goes s.unseen s.onward

  -- whatever the code is, positions that stand in it are followed
  pub follows : Follows structured (linear funcs) (StandsIn funcs)
  follows k p a = go_on k p (kept (instrs_of funcs p.function) k p.index a)
