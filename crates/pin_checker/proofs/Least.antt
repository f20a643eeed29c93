-- The report is no later than what each node gives.
use Rattle.std.proofs.Common.{◌≡◌, ℕ, List, [], ◌∷◌, Option, Some, None, Bool, true, false, inl, inr, refl, subst}
use Rattle.std.proofs.lemmas.Bool.{or_cases, and_parts, eqb-true}
use Rattle.std.specs.Prelude.{not, ◌==◌}
use Rattle.struct_ir.specs.Nodes.{Act, Node, plain, if_, loop, break_, next_, ret, Nodes, no_nodes, more_nodes, Func, Ir, node_place}
use Rattle.struct_ir.specs.Flow.{does}
use Rattle.struct_ir.specs.Structured.{Position, done, then_, in_body, in_latch, here}
use Rattle.struct_ir.specs.Valid.{Scope, Around, body_of, latch_of, outside, scope_of, list_at}
use Rattle.pin_flow.specs.Marks.{AllPaths, state_of, flow, flow_node, head_of, end_state}
use Rattle.pin_flow.proofs.EachAt.{EachAt, EachAtIn}
use Rattle.pin_checker.specs.declared.fault.Why.TheVariants.{BadTemp}
use Rattle.pin_checker.specs.declared.fault.Fault.{Fault}
use Rattle.pin_checker.specs.declared.pair.Pair.{Pair}
use Rattle.pin_checker.specs.Faults.{is_sound, Invalid, InvalidIn}
use Rattle.pin_checker.specs.inner.Reports.{Search, report_invalid, report_invalid_in, report, report_node, report_all, for_other, for_none, for_stale, for_lacking, for_bare, is_pair, has_pair, pairs_of, report_pair, report_pairs, report_func}
use Rattle.pin_checker.proofs.Order.{made, AtMost, noted_least}

-- the place of the node at a position
abbrev pub place_at : Position → ℕ
place_at done = 0
place_at (then_ no_nodes k) = 0
place_at (then_ (more_nodes n rest) k) = node_place n
place_at (in_body body latch k) = 0
place_at (in_latch body latch k) = 0

pub placed_at : (k : Position) (p : ℕ) (a : Act) → here k ≡ does p a → place_at k ≡ p
placed_at done p a e = absurd cc
placed_at (then_ no_nodes k) p a e = absurd cc
placed_at (then_ (more_nodes (plain q b) rest) k) p a e = cc
placed_at (then_ (more_nodes (if_ q x one other) rest) k) p a e = absurd cc
placed_at (then_ (more_nodes (loop q body latch) rest) k) p a e = absurd cc
placed_at (then_ (more_nodes (break_ q) rest) k) p a e = absurd cc
placed_at (then_ (more_nodes (next_ q) rest) k) p a e = absurd cc
placed_at (then_ (more_nodes (ret q x) rest) k) p a e = absurd cc
placed_at (in_body body latch k) p a e = absurd cc
placed_at (in_latch body latch k) p a e = absurd cc

-- ---- accesses

module _ (c : Option Fault) (s : Search) where
  -- c is no later than what fails
  abbrev pub Quiet : Act → AllPaths → Position → Type 0
  Quiet a t k = s.blames a t ≡ true → AtMost c (Some (made (place_at k) s.why))

  mutual
    unfolding report report_node

    pub report_least : (ns : Nodes) (k : Position) (t : AllPaths) (best : Option Fault) → AtMost c (report s ns t best) → AtMost c best × EachAt Quiet s.mark ns k t
    report_least no_nodes k t best h = (h, tt)
    report_least (more_nodes n rest) k t best h =
        let y = report_least rest k (flow_node s.mark n t).on (report_node s n t best) h in
        let x = node_least n rest k t best y.0 in
        (x.0, (x.1, y.1))

    node_least : (n : Node) (rest : Nodes) (k : Position) (t : AllPaths) (best : Option Fault) → AtMost c (report_node s n t best) → AtMost c best × EachAtIn Quiet s.mark n rest k t
    node_least (plain p a) rest k t best h = noted_least c (s.blames a t) p s.why best h
    node_least (if_ p x one other) rest k t best h =
        let y = report_least other (then_ rest k) t (report s one t best) h in
        let z = report_least one (then_ rest k) t best y.0 in
        (z.0, (z.1, y.1))
    node_least (loop p body latch) rest k t best h =
        let u = head_of (flow s.mark body) (flow s.mark latch) t in
        let y = report_least latch (in_latch body latch (then_ rest k)) (end_state (flow s.mark body u)) (report s body u best) h in
        let z = report_least body (in_body body latch (then_ rest k)) u best y.0 in
        (z.0, (z.1, y.1))
    node_least (break_ p) rest k t best h = (h, tt)
    node_least (next_ p) rest k t best h = (h, tt)
    node_least (ret p x) rest k t best h = (h, tt)

-- no act of the code that fails is earlier
abbrev pub QuietAll : Option Fault → Nodes → Search → Type 0
QuietAll c ns s = EachAt (Quiet c s) s.mark ns done (state_of s.start)

all_least : (c : Option Fault) (s : Search) (ns : Nodes) (best : Option Fault) → AtMost c (report_all s ns best) → AtMost c best × QuietAll c ns s
all_least c s ns best h = report_least c s ns done (state_of s.start) best h

-- ---- nodes that are not valid

-- c is no later than a node at the place that is not valid
abbrev pub Strict : Option Fault → ℕ → Type 0
Strict c place = AtMost c (Some (made place BadTemp))

not_it : (v : Bool) → v ≡ false → not v ≡ true
not_it true e = absurd cc
not_it false e = refl

mutual
  unfolding report_invalid report_invalid_in

  invalid_least : (c : Option Fault) (x : Scope) (around : Around) (before : Option (List ℕ)) (ns : Nodes) (best : Option Fault) → AtMost c (report_invalid x around before ns best)
      → AtMost c best × ((place : ℕ) → Invalid x around before ns place → Strict c place)
  invalid_least c x around before no_nodes best h = (h, λ place i. absurd i)
  invalid_least c x around before (more_nodes n rest) best h =
      let k = invalid_least c x around (list_at n) rest _ h in
      let m = invalid_in_least c x around n _ k.0 in
      let v = noted_least c (not (is_sound x around before n rest)) (node_place n) BadTemp best m.0 in
      (v.0, λ place. elim [ inl e ↦ subst (Strict c) e.0 (v.1 (not_it _ e.1)) | inr (inl i) ↦ m.1 place i | inr (inr i) ↦ k.1 place i ])

  invalid_in_least : (c : Option Fault) (x : Scope) (around : Around) (n : Node) (best : Option Fault) → AtMost c (report_invalid_in x around n best)
      → AtMost c best × ((place : ℕ) → InvalidIn x around n place → Strict c place)
  invalid_in_least c x around (plain p a) best h = (h, λ place i. absurd i)
  invalid_in_least c x around (if_ p y one other) best h =
      let k = invalid_least c x around None other _ h in
      let m = invalid_least c x around None one best k.0 in
      (m.0, λ place. elim [ inl i ↦ m.1 place i | inr i ↦ k.1 place i ])
  invalid_in_least c x around (loop p body latch) best h =
      let k = invalid_least c x latch_of None latch _ h in
      let m = invalid_least c x body_of None body best k.0 in
      (m.0, λ place. elim [ inl i ↦ m.1 place i | inr i ↦ k.1 place i ])
  invalid_in_least c x around (break_ p) best h = (h, λ place i. absurd i)
  invalid_in_least c x around (next_ p) best h = (h, λ place i. absurd i)
  invalid_in_least c x around (ret p y) best h = (h, λ place i. absurd i)

-- ---- a function

-- no access of the pair that fails is earlier
pub record QuietPair (c : Option Fault) (ns : Nodes) (q : Pair) : Type 0 where
  pub other : QuietAll c ns (for_other q)
  pub none : QuietAll c ns (for_none q)
  pub stale : QuietAll c ns (for_stale q)
  pub lacking : QuietAll c ns (for_lacking q)

pair_least : (c : Option Fault) (ns : Nodes) (q : Pair) (best : Option Fault) → AtMost c (report_pair ns q best) → AtMost c best × QuietPair c ns q
pair_least c ns q best h =
    let l = all_least c (for_lacking q) ns _ h in
    let s = all_least c (for_stale q) ns _ l.0 in
    let n = all_least c (for_none q) ns _ s.0 in
    let o = all_least c (for_other q) ns best n.0 in
    (o.0, record { other = o.1; none = n.1; stale = s.1; lacking = l.1 })

same_pair : (r q : Pair) → is_pair r q ≡ true → r ≡ q
same_pair r q e =
    let p = and_parts (r.slot == q.slot) (r.base == q.base) e in
    let f = eqb-true r.slot q.slot p.0 in
    let g = eqb-true r.base q.base p.1 in
    λ i. record { slot = f i; base = g i }

pairs_least : (c : Option Fault) (ns : Nodes) (list : List Pair) (best : Option Fault) → AtMost c (report_pairs ns list best) → AtMost c best × ((q : Pair) → has_pair q list ≡ true → QuietPair c ns q)
pairs_least c ns [] best h = (h, λ q e. absurd cc)
pairs_least c ns (r ∷ rest) best h =
    let y = pairs_least c ns rest (report_pair ns r best) h in
    let x = pair_least c ns r best y.0 in
    (x.0, λ q e. elim (or_cases (is_pair r q) (has_pair q rest) e) [ inl i ↦ subst (QuietPair c ns) (same_pair r q i) x.1 | inr i ↦ y.1 q i ])

-- nothing of the function that fails is earlier
pub record QuietFunc (c : Option Fault) (p : Ir) (f : Func) : Type 0 where
  pub invalid : (place : ℕ) → Invalid (scope_of p f) outside None f.nodes place → Strict c place
  pub bare : QuietAll c f.nodes for_bare
  pub pairs : (q : Pair) → has_pair q (pairs_of f.nodes []) ≡ true → QuietPair c f.nodes q

pub func_least : (c : Option Fault) (p : Ir) (f : Func) (best : Option Fault) → AtMost c (report_func p f best) → AtMost c best × QuietFunc c p f
func_least c p f best h =
    let q = pairs_least c f.nodes (pairs_of f.nodes []) _ h in
    let b = all_least c for_bare f.nodes _ q.0 in
    let i = invalid_least c (scope_of p f) outside None f.nodes best b.0 in
    (i.0, record { invalid = i.1; bare = b.1; pairs = q.1 })
