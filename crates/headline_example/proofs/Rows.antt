-- Rows of nodes without branches, loops, calls and safepoints, and how many Looks of register 0 stand in one.
use Rattle.std.proofs.Common.{◌≡◌, refl, ap, ℕ, suc, ◌+◌, ◌≤◌, ◌==◌, Bool, true, false, not, ◌&&◌, ◌||◌, arith}
use Rattle.struct_ir.specs.Nodes.{set, call, step, look, safepoint, begin_object, end_object, plain, if_, loop, break_, next_, ret, Nodes, no_nodes, more_nodes}
use Rattle.struct_ir.specs.Erased.{erased}
use Rattle.struct_ir.specs.Placed.{begins_with_call, is_end, are_due}
use Rattle.pin_flow.specs.Looks.{is_to}

-- no branch, no loop, no call, no safepoint and no stack object
abbrev pub Flat : Nodes → Type 0
Flat no_nodes = Unit {0}
Flat (more_nodes (plain place (set to calc)) rest) = Flat rest
Flat (more_nodes (plain place (call c)) rest) = ⊥
Flat (more_nodes (plain place (step s)) rest) = Flat rest
Flat (more_nodes (plain place (look slot base)) rest) = Flat rest
Flat (more_nodes (plain place (safepoint slots)) rest) = ⊥
Flat (more_nodes (plain place (begin_object i)) rest) = ⊥
Flat (more_nodes (plain place (end_object i)) rest) = ⊥
Flat (more_nodes (if_ place temp one other) rest) = ⊥
Flat (more_nodes (loop place body latch) rest) = ⊥
Flat (more_nodes (break_ place) rest) = ⊥
Flat (more_nodes (next_ place) rest) = ⊥
Flat (more_nodes (ret place temp) rest) = Flat rest

-- ---- a row is as flat as what is left of it without Looks and safepoints, where safepoints stand at calls and loops alone

no_call : (rest : Nodes) → begins_with_call rest ≡ true → Flat (erased rest) → ⊥
no_call (more_nodes (plain place (call c)) rest) e h = h
no_call no_nodes e h = absurd (cc e)
no_call (more_nodes n rest) e h = absurd (cc e)

due_here : (b c x : Bool) → ((b || (false || (false && c))) && x) ≡ true → b ≡ true
due_here true c x e = refl
due_here false c x e = absurd (cc e)

pub flat : (ns : Nodes) → are_due false false ns ≡ true → Flat (erased ns) → Flat ns
flat no_nodes d h = tt
flat (more_nodes (plain place (set to calc)) rest) d h = flat rest d h
flat (more_nodes (plain place (call c)) rest) d h = h
flat (more_nodes (plain place (step s)) rest) d h = flat rest d h
flat (more_nodes (plain place (look slot base)) rest) d h = flat rest d h
flat (more_nodes (plain place (safepoint slots)) rest) d h = no_call rest (due_here (begins_with_call rest) (is_end rest) (are_due false false rest) d) h
flat (more_nodes (plain place (begin_object i)) rest) d h = h
flat (more_nodes (plain place (end_object i)) rest) d h = h
flat (more_nodes (if_ place temp one other) rest) d h = h
flat (more_nodes (loop place body latch) rest) d h = h
flat (more_nodes (break_ place) rest) d h = h
flat (more_nodes (next_ place) rest) d h = h
flat (more_nodes (ret place temp) rest) d h = flat rest d h

-- ---- counts, up to the first return

-- Looks
abbrev pub looks : Nodes → ℕ
looks (more_nodes (plain place (look slot base)) rest) = suc (looks rest)
looks (more_nodes (plain place (set to calc)) rest) = looks rest
looks (more_nodes (plain place (step s)) rest) = looks rest
looks ns = 0

-- one more, where it holds
abbrev pub one_if : Bool → ℕ → ℕ
one_if true n = suc n
one_if false n = n

-- assignments of register 0
abbrev pub assigns : Nodes → ℕ
assigns (more_nodes (plain place (look slot base)) rest) = assigns rest
assigns (more_nodes (plain place (set to calc)) rest) = one_if (0 == to) (assigns rest)
assigns (more_nodes (plain place (step s)) rest) = one_if (is_to 0 s.to) (assigns rest)
assigns ns = 0

-- Looks, steps and the return
abbrev pub stops : Nodes → ℕ
stops (more_nodes (plain place (look slot base)) rest) = suc (stops rest)
stops (more_nodes (plain place (set to calc)) rest) = stops rest
stops (more_nodes (plain place (step s)) rest) = suc (stops rest)
stops (more_nodes (ret place temp) rest) = 1
stops ns = 0

pub assigns_kept : (ns : Nodes) → Flat ns → assigns ns ≡ assigns (erased ns)
assigns_kept no_nodes f = refl
assigns_kept (more_nodes (plain place (set to calc)) rest) f = ap (one_if (0 == to)) (assigns_kept rest f)
assigns_kept (more_nodes (plain place (step s)) rest) f = ap (one_if (is_to 0 s.to)) (assigns_kept rest f)
assigns_kept (more_nodes (plain place (look slot base)) rest) f = assigns_kept rest f
assigns_kept (more_nodes (ret place temp) rest) f = refl
assigns_kept (more_nodes (plain place (call c)) rest) f = absurd f
assigns_kept (more_nodes (plain place (safepoint slots)) rest) f = absurd f
assigns_kept (more_nodes (plain place (begin_object i)) rest) f = absurd f
assigns_kept (more_nodes (plain place (end_object i)) rest) f = absurd f
assigns_kept (more_nodes (if_ place temp one other) rest) f = absurd f
assigns_kept (more_nodes (loop place body latch) rest) f = absurd f
assigns_kept (more_nodes (break_ place) rest) f = absurd f
assigns_kept (more_nodes (next_ place) rest) f = absurd f

pub stops_are : (ns : Nodes) → Flat ns → stops ns ≡ looks ns + stops (erased ns)
stops_are no_nodes f = refl
stops_are (more_nodes (plain place (set to calc)) rest) f = stops_are rest f
stops_are (more_nodes (plain place (step s)) rest) f = let h = stops_are rest f in omega (arith, h)
stops_are (more_nodes (plain place (look slot base)) rest) f = let h = stops_are rest f in omega (arith, h)
stops_are (more_nodes (ret place temp) rest) f = refl
stops_are (more_nodes (plain place (call c)) rest) f = absurd f
stops_are (more_nodes (plain place (safepoint slots)) rest) f = absurd f
stops_are (more_nodes (plain place (begin_object i)) rest) f = absurd f
stops_are (more_nodes (plain place (end_object i)) rest) f = absurd f
stops_are (more_nodes (if_ place temp one other) rest) f = absurd f
stops_are (more_nodes (loop place body latch) rest) f = absurd f
stops_are (more_nodes (break_ place) rest) f = absurd f
stops_are (more_nodes (next_ place) rest) f = absurd f

-- ---- Looks that are needed

-- no Look stands where register 0 was looked up and not assigned since
abbrev pub Needed : (held : Bool) → Nodes → Type 0
Needed v (more_nodes (plain place (look slot base)) rest) = (v ≡ false) × Needed true rest
Needed v (more_nodes (plain place (set to calc)) rest) = Needed (not (0 == to) && v) rest
Needed v (more_nodes (plain place (step s)) rest) = Needed (not (is_to 0 s.to) && v) rest
Needed v ns = Unit {0}

looked : (v : Bool) (l a : ℕ) → v ≡ false → one_if true l ≤ 1 + a → one_if v (suc l) ≤ 1 + a
looked false l a e h = h
looked true l a e h = absurd (cc e)

assigned : (b v : Bool) (l a : ℕ) → one_if (not b && v) l ≤ 1 + a → one_if v l ≤ 1 + one_if b a
assigned false v l a h = h
assigned true false l a h = omega (arith, h)
assigned true true l a h = omega (arith, h)

nothing_more : (v : Bool) → one_if v 0 ≤ 1 + 0
nothing_more true = omega arith
nothing_more false = omega arith

-- so there are no more than assignments, and one
pub few : (v : Bool) (ns : Nodes) → Flat ns → Needed v ns → one_if v (looks ns) ≤ 1 + assigns ns
few v no_nodes f d = nothing_more v
few v (more_nodes (plain place (look slot base)) rest) f d = looked v (looks rest) (assigns rest) d.0 (few true rest f d.1)
few v (more_nodes (plain place (set to calc)) rest) f d = assigned (0 == to) v (looks rest) (assigns rest) (few (not (0 == to) && v) rest f d)
few v (more_nodes (plain place (step s)) rest) f d = assigned (is_to 0 s.to) v (looks rest) (assigns rest) (few (not (is_to 0 s.to) && v) rest f d)
few v (more_nodes (ret place temp) rest) f d = nothing_more v
few v (more_nodes (plain place (call c)) rest) f d = absurd f
few v (more_nodes (plain place (safepoint slots)) rest) f d = absurd f
few v (more_nodes (plain place (begin_object i)) rest) f d = absurd f
few v (more_nodes (plain place (end_object i)) rest) f d = absurd f
few v (more_nodes (if_ place temp one other) rest) f d = absurd f
few v (more_nodes (loop place body latch) rest) f d = absurd f
few v (more_nodes (break_ place) rest) f d = absurd f
few v (more_nodes (next_ place) rest) f d = absurd f
