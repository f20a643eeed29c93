-- What a search finds in nodes by itself, and what it makes of what was found before.
use Rattle.std.proofs.Common.{◌≡◌, ℕ, ◌+◌, ◌*◌, ◌<◌, ◌≤◌, suc, length, drop, get_or, List, Option, Some, None, Bool, true, false, ◌⊎◌, inl, inr, refl, sym, ap, ◌∙◌, arith, if◌then◌else◌}
use Rattle.std.proofs.lemmas.Bool.Decides.{eqb_tells, leb_tells}
use Rattle.std.specs.Prelude.{◌&&◌, ◌||◌}
use Rattle.std.specs.Global.{Vec}
use Rattle.struct_ir.specs.declared.code.Node.{Node as CodeNode}
use Rattle.struct_ir.specs.declared.code.NodeKind.TheViews as views
use Rattle.struct_ir.specs.Nodes.{Act, Node, plain, if_, loop, break_, next_, ret, Nodes, no_nodes, more_nodes}
use Rattle.struct_ir.specs.declared.code.NodeKind.{NodeKind}
use Rattle.struct_ir.specs.Views.{kind_view, node_view, nodes_view}
use Rattle.struct_ir.proofs.Views.{if_is, loop_is}
use Rattle.pin_flow.specs.Marks.{AllPaths, unreached, good, bad, join, Ways, at, in_turn, end_state, round_of, head_of, flow, flow_node}
use Rattle.pin_flow.proofs.Order.{flow_idle, node_idle}
use Rattle.pin_flow.proofs.FlowRows as flows
use Rattle.pin_checker.specs.declared.fault.Why.{Why}
use Rattle.pin_checker.specs.declared.fault.Why.TheVariants.{BadTemp, NoLook, StaleLook, NotPinned}
use Rattle.pin_checker.specs.declared.fault.Fault.{Fault}
use Rattle.pin_checker.specs.declared.search.Search.{Search as CodeSearch}
use Rattle.pin_checker.specs.declared.search.Search.TheVariants as searches
use Rattle.pin_checker.specs.Faults.{rank}
use Rattle.pin_checker.specs.inner.Reports.{Search, is_before, earlier, noted, report, report_node}
use Rattle.pin_checker.specs.inner.SearchViews.{search_view, blames_at}
use Rattle.pin_checker.specs.inner.Found.{is_leaf, Found, Both, both_of, found_in, found_at, from, earlier_of, behind, one_of, round_from, looped}
use Rattle.pin_checker.proofs.ReportRows as rows

-- ---- the earlier of three faults

-- faults stand in the order of these numbers
abbrev key : Fault → ℕ
key f = 4 * f.place + rank f.why

small : (w : Why) → rank w ≤ 3
small BadTemp = omega arith
small NoLook = omega arith
small StaleLook = omega arith
small NotPinned = omega arith

-- the one is before the other, or it isn't
abbrev Told : Fault → Fault → Type 0
Told f g = ((is_before f g ≡ true) × (key f < key g)) ⊎ ((is_before f g ≡ false) × (key g ≤ key f))

key_tells : (f g : Fault) → Told f g
key_tells f g =
    let a = small f.why in
    let b = small g.why in
    elim (leb_tells (suc f.place) g.place) [
      | inl h ↦ inl (rw h.0 refl, (let le = h.1 in omega arith))
      | inr h ↦ elim (eqb_tells f.place g.place) [
        | inl e ↦ elim (leb_tells (suc (rank f.why)) (rank g.why)) [
          | inl r ↦ inl (rw (h.0, e.0, r.0) refl, (let same = e.1 in let le = r.1 in omega arith))
          | inr r ↦ inr (rw (h.0, e.0, r.0) refl, (let same = e.1 in let le = r.1 in omega arith))
        ]
        | inr e ↦ inr (rw (h.0, e.0) refl, (let ne = e.1 in let le = h.1 in omega arith))
      ]
    ]

by_order : (f g h : Fault) → Told f g → Told g h → Told f h → earlier f (earlier g (Some h)) ≡ earlier_of (Some h) (earlier f (Some g))
by_order f g h (inl a) (inl b) (inl c) = rw b.0 (rw a.0 (rw c.0 refl))
by_order f g h (inl a) (inl b) (inr c) = absurd (omega (arith, a.1, b.1, c.1))
by_order f g h (inl a) (inr b) c = rw b.0 (rw a.0 refl)
by_order f g h (inr a) (inl b) c = rw b.0 (rw a.0 (rw b.0 refl))
by_order f g h (inr a) (inr b) (inl c) = absurd (omega (arith, a.1, b.1, c.1))
by_order f g h (inr a) (inr b) (inr c) = rw b.0 (rw a.0 (rw b.0 (rw c.0 refl)))

some_of : (f g h : Fault) → earlier f (earlier g (Some h)) ≡ earlier_of (Some h) (earlier f (Some g))
some_of f g h = by_order f g h (key_tells f g) (key_tells g h) (key_tells f h)

none_of : (f g : Fault) → earlier f (Some g) ≡ earlier_of None (earlier f (Some g))
none_of f g = elim (is_before f g) as (λ v. (if v then Some f else Some g) ≡ earlier_of None (if v then Some f else Some g)) [ true ↦ refl | false ↦ refl ]

of_three : (a b c : Option Fault) → earlier_of (earlier_of a b) c ≡ earlier_of a (earlier_of b c)
of_three a b None = refl
of_three a None (Some f) = refl
of_three None (Some g) (Some f) = none_of f g
of_three (Some h) (Some g) (Some f) = some_of f g h

-- ---- what was found before is left as it is where nothing earlier is found

noted_from : (is : Bool) (place : ℕ) (why : Why) (best : Option Fault) → noted is place why best ≡ earlier_of best (noted is place why None)
noted_from true place why best = refl
noted_from false place why best = refl

-- the same with more behind
then_from : (more : Option Fault → Option Fault) → ((best : Option Fault) → more best ≡ earlier_of best (more None)) → (best with_it without : Option Fault) → with_it ≡ earlier_of best without → more with_it ≡ earlier_of best (more without)
then_from more f best with_it without e = ap more e ∙ (f (earlier_of best without) ∙ (of_three best without (more None) ∙ ap (earlier_of best) (sym (f without))))

mutual
  unfolding report report_node

  pub report_from : (s : Search) (ns : Nodes) (t : AllPaths) (best : Option Fault) → report s ns t best ≡ earlier_of best (report s ns t None)
  report_from s no_nodes t best = refl
  report_from s (more_nodes n rest) t best = then_from (report s rest (flow_node s.mark n t).on) (λ b. report_from s rest (flow_node s.mark n t).on b) best (report_node s n t best) (report_node s n t None) (node_from s n t best)

  node_from : (s : Search) (n : Node) (t : AllPaths) (best : Option Fault) → report_node s n t best ≡ earlier_of best (report_node s n t None)
  node_from s (plain p a) t best = noted_from (s.blames a t) p s.why best
  node_from s (if_ p x one other) t best = then_from (report s other t) (λ b. report_from s other t b) best (report s one t best) (report s one t None) (report_from s one t best)
  node_from s (loop p body latch) t best =
      let h = head_of (flow s.mark body) (flow s.mark latch) t in
      then_from (report s latch (end_state (flow s.mark body h))) (λ b. report_from s latch (end_state (flow s.mark body h)) b) best (report s body h best) (report s body h None) (report_from s body h best)
  node_from s (break_ p) t best = refl
  node_from s (next_ p) t best = refl
  node_from s (ret p x) t best = refl

-- ---- where no path comes nothing is found

-- no act fails there
abbrev pub IsIdle : Search → Type 0
IsIdle s = (a : Act) → s.blames a unreached ≡ false

head_idle : (m : Rattle.pin_flow.specs.Marks.Mark) (body latch : Nodes) → head_of (flow m body) (flow m latch) unreached ≡ unreached
unfolding head_of round_of
head_idle m body latch = rw (flow_idle m body) (rw (flow_idle m latch) refl)

mutual
  unfolding report report_node

  report_idle : (s : Search) → IsIdle s → (ns : Nodes) → report s ns unreached None ≡ None
  report_idle s i no_nodes = refl
  report_idle s i (more_nodes n rest) = (λ j. report s rest (node_idle s.mark n j).on (at_idle s i n j)) ∙ report_idle s i rest

  at_idle : (s : Search) → IsIdle s → (n : Node) → report_node s n unreached None ≡ None
  at_idle s i (plain p a) = ap (λ v. noted v p s.why None) (i a)
  at_idle s i (if_ p x one other) = ap (report s other unreached) (report_idle s i one) ∙ report_idle s i other
  at_idle s i (loop p body latch) =
      let h = head_idle s.mark body latch in
      let e : end_state (flow s.mark body (head_of (flow s.mark body) (flow s.mark latch) unreached)) ≡ unreached = ap (λ t. end_state (flow s.mark body t)) h ∙ ap end_state (flow_idle s.mark body) in
      let b : report s body (head_of (flow s.mark body) (flow s.mark latch) unreached) None ≡ None = ap (λ t. report s body t None) h ∙ report_idle s i body in
      (λ j. report s latch (e j) (b j)) ∙ report_idle s i latch
  at_idle s i (break_ p) = refl
  at_idle s i (next_ p) = refl
  at_idle s i (ret p x) = refl

never : (x : Bool) → (x && false) ≡ false
never true = refl
never false = refl

lacking_never : (x y : Bool) → (x && (false || (y && false))) ≡ false
lacking_never true true = refl
lacking_never true false = refl
lacking_never false y = refl

pub idle_search : (x : CodeSearch) → IsIdle (search_view x)
idle_search (searches.Other q) a = never _
idle_search (searches.None q) a = never _
idle_search (searches.Stale q) a = never _
idle_search (searches.Lacking q) a = lacking_never _ _
idle_search searches.Bare a = never _

-- ---- what is found from any state, by what is found from two

pub from_row : (s : Search) → IsIdle s → (ns : Nodes) (t : AllPaths) → from (both_of (found_in s ns)) t ≡ found_in s ns t
from_row s i ns unreached = λ j. record { ways = sym (flow_idle s.mark ns) j; first = sym (report_idle s i ns) j }
from_row s i ns good = refl
from_row s i ns bad = refl

pub from_node : (s : Search) → IsIdle s → (n : Node) (t : AllPaths) → from (both_of (found_at s n)) t ≡ found_at s n t
from_node s i n unreached = λ j. record { ways = sym (node_idle s.mark n) j; first = sym (at_idle s i n) j }
from_node s i n good = refl
from_node s i n bad = refl

-- ---- rows

-- what is ahead, with the nodes that are left
abbrev pub followed : Search → Found → Nodes → Found
followed s a ns = record { ways = in_turn a.ways (flow s.mark ns a.ways.on); first = report s ns a.ways.on a.first }

pub row_on : (s : Search) (list : List CodeNode) (i : ℕ) (x : CodeNode) (a b all n : Found) → i < length list → x ≡ get_or list i x → followed s a (nodes_view (drop i list)) ≡ all
    → n ≡ found_at s (node_view x) a.ways.on → b ≡ behind a n → followed s b (nodes_view (drop (i + 1) list)) ≡ all
row_on s list i x a b all n le is inv o f =
    let w = flows.row_on s.mark list i x a.ways b.ways n.ways all.ways le is (ap (λ (z : Found). z.ways) inv) (ap (λ (z : Found). z.ways) o) (ap (λ (z : Found). z.ways) f) in
    let r : b.first ≡ report_node s (node_view x) a.ways.on a.first =
    ap (λ (z : Found). z.first) f ∙ (ap (λ (z : Found). earlier_of a.first z.first) o ∙ sym (node_from s (node_view x) a.ways.on a.first)) in
    let h : b.ways.on ≡ (flow_node s.mark (node_view x) a.ways.on).on = ap (λ (z : Found). z.ways.on) f ∙ ap (λ (z : Found). z.ways.on) o in
    let v = rows.row_on s list i x a.ways.on b.ways.on a.first b.first all.first le is (ap (λ (z : Found). z.first) inv) r h in
    λ j. record { ways = w j; first = v j }

pub row_over : (s : Search) (list : List CodeNode) (i : ℕ) (a all : Found) → length list ≤ i → followed s a (nodes_view (drop i list)) ≡ all → a ≡ all
row_over s list i a all le inv =
    let w = flows.row_over s.mark list i a.ways all.ways le (ap (λ (z : Found). z.ways) inv) in
    let v = rows.row_over s list i a.ways.on a.first all.first le (ap (λ (z : Found). z.first) inv) in
    λ j. record { ways = w j; first = v j }

-- before the first one
pub row_start : (s : Search) (ns : Nodes) (t : AllPaths) → followed s (record { ways = at t; first = None }) ns ≡ found_in s ns t
row_start s ns t = λ j. record { ways = flow s.mark ns t; first = report s ns t None }

-- ---- nodes that hold others

if_found : (s : Search) (p x : ℕ) (one other : Nodes) (t : AllPaths) → one_of (found_in s one t) (found_in s other t) ≡ found_at s (if_ p x one other) t
unfolding flow report_node
if_found s p x one other t = λ j. record { ways = flow_node s.mark (if_ p x one other) t; first = sym (report_from s other t (report s one t None)) j }

pub branch_found : (s : Search) (n : CodeNode) (temp : ℕ) (v w : Vec CodeNode) (t : AllPaths) (a b c : Found) → n.kind ≡ views.If temp v w → a ≡ found_in s (nodes_view v.items) t → b ≡ found_in s (nodes_view w.items) t → c ≡ one_of a b
    → c ≡ found_at s (node_view n) t
branch_found s n temp v w t a b c is e f g = rw (if_is n temp v w is) (g ∙ ((λ j. one_of (e j) (f j)) ∙ if_found s n.place temp (nodes_view v.items) (nodes_view w.items) t))

pub branches_found : (s : Search) (n : CodeNode) (temp : ℕ) (v w : Vec CodeNode) (a b c : Both) → n.kind ≡ views.If temp v w → a ≡ both_of (found_in s (nodes_view v.items)) → b ≡ both_of (found_in s (nodes_view w.items))
    → c.good ≡ one_of a.good b.good → c.bad ≡ one_of a.bad b.bad → c ≡ both_of (found_at s (node_view n))
branches_found s n temp v w a b c is e f g h =
    let one = nodes_view v.items in
    let other = nodes_view w.items in
    let x = g ∙ ((λ j. one_of (e j).good (f j).good) ∙ if_found s n.place temp one other good) in
    let y = h ∙ ((λ j. one_of (e j).bad (f j).bad) ∙ if_found s n.place temp one other bad) in
    rw (if_is n temp v w is) (λ j. record { good = x j; bad = y j })

round_found : (s : Search) → IsIdle s → (body latch : Nodes) (t : AllPaths)
    → round_from (both_of (found_in s body)) (both_of (found_in s latch)) t ≡ record { ways = round_of (flow s.mark body) (flow s.mark latch) t; first = report s latch (end_state (flow s.mark body t)) (report s body t None) }
unfolding round_of
round_found s i body latch t =
    let b = from_row s i body t in
    let l = λ (u : AllPaths). from_row s i latch u in
    let z : end_state (from (both_of (found_in s body)) t).ways ≡ end_state (flow s.mark body t) = ap (λ (o : Found). end_state o.ways) b in
    let k : from (both_of (found_in s latch)) (end_state (from (both_of (found_in s body)) t).ways) ≡ found_in s latch (end_state (flow s.mark body t)) = ap (from (both_of (found_in s latch))) z ∙ l (end_state (flow s.mark body t)) in
    (λ j. record { ways = Rattle.pin_flow.specs.Marks.turned (b j).ways (k j).ways; first = earlier_of (b j).first (k j).first })
    ∙ (λ j. record { ways = round_of (flow s.mark body) (flow s.mark latch) t; first = sym (report_from s latch (end_state (flow s.mark body t)) (report s body t None)) j })

loop_found : (s : Search) → IsIdle s → (p : ℕ) (body latch : Nodes) (t : AllPaths) → looped (both_of (found_in s body)) (both_of (found_in s latch)) t ≡ found_at s (loop p body latch) t
unfolding flow report_node head_of
loop_found s i p body latch t =
    let r = λ (u : AllPaths). round_found s i body latch u in
    let b = both_of (found_in s body) in
    let l = both_of (found_in s latch) in
    let h : join t (round_from b l t).ways.on ≡ head_of (flow s.mark body) (flow s.mark latch) t = ap (λ (o : Found). join t o.ways.on) (r t) in
    let each = ap (round_from b l) h ∙ r (head_of (flow s.mark body) (flow s.mark latch) t) in
    λ j. record { ways = at (each j).ways.broken; first = (each j).first }

pub rounds_found : (s : Search) → IsIdle s → (n : CodeNode) (v w : Vec CodeNode) (a b c : Both) → n.kind ≡ views.Loop v w → a ≡ both_of (found_in s (nodes_view v.items)) → b ≡ both_of (found_in s (nodes_view w.items))
    → c.good ≡ looped a b good → c.bad ≡ looped a b bad → c ≡ both_of (found_at s (node_view n))
rounds_found s i n v w a b c is e f g h =
    let body = nodes_view v.items in
    let latch = nodes_view w.items in
    let x = g ∙ ((λ j. looped (e j) (f j) good) ∙ loop_found s i n.place body latch good) in
    let y = h ∙ ((λ j. looped (e j) (f j) bad) ∙ loop_found s i n.place body latch bad) in
    rw (loop_is n v w is) (λ j. record { good = x j; bad = y j })

-- ---- nodes that hold none

alone_at : (s : Search) (x : Node) → is_leaf x ≡ true → (t : AllPaths) → noted (blames_at s x t) (Rattle.struct_ir.specs.Nodes.node_place x) s.why None ≡ report_node s x t None
unfolding report_node
alone_at s (plain p a) e t = refl
alone_at s (if_ p x one other) e t = absurd (let h : false ≡ true = e in cc)
alone_at s (loop p body latch) e t = absurd (let h : false ≡ true = e in cc)
alone_at s (break_ p) e t = refl
alone_at s (next_ p) e t = refl
alone_at s (ret p x) e t = refl

-- one that holds no others
pub alone_found : (s : Search) (n : CodeNode) (t : AllPaths) (a : Found) → is_leaf (node_view n) ≡ true → a.ways ≡ flow_node s.mark (node_view n) t → a.first ≡ noted (blames_at s (node_view n) t) n.place s.why None → a ≡ found_at s (node_view n) t
alone_found s n t a l e f =
    let g = f ∙ (ap (λ p. noted (blames_at s (node_view n) t) p s.why None) (rows.place_is n.place n.kind) ∙ alone_at s (node_view n) l t) in
    λ j. record { ways = e j; first = g j }

pub leaf_of : (n : CodeNode) (k : NodeKind) → n.kind ≡ k → is_leaf (kind_view n.place k) ≡ true → is_leaf (node_view n) ≡ true
leaf_of n k e l = ap (λ x. is_leaf (kind_view n.place x)) e ∙ l
