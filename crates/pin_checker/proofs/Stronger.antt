-- Of two marks the stronger one tells: where it finds no fault, the other finds none.
use Rattle.std.proofs.Common.{◌≡◌, ℕ, ◌≤◌, Option, Some, None, Bool, true, false, ◌||◌, ◌&&◌, if◌then◌else◌, refl, sym, ap, ◌∙◌, arith}
use Rattle.std.specs.Prelude.{not}
use Rattle.std.proofs.lemmas.Bool.{and_parts, and_from}
use Rattle.struct_ir.specs.Nodes.{Act, Node, plain, if_, loop, break_, next_, ret, Nodes, no_nodes, more_nodes, list_of}
use Rattle.struct_ir.specs.Pins.{lacks_if}
use Rattle.pin_flow.specs.Marks.{Mark, AllPaths, unreached, good, bad, after, Ways, end_state, round_of, head_of, flow, flow_node}
use Rattle.pin_flow.specs.Looks.{act_looks, act_assigns, looks_into}
use Rattle.pin_flow.specs.Held.{filled, filled_for, fresh, pinned}
use Rattle.pin_flow.specs.Live.{uses}
use Rattle.pin_flow.proofs.Order.{rank, of_mono, Below, join_mono, either_mono, in_turn_mono, turned_mono, at_mono, end_mono}
use Rattle.pin_checker.specs.declared.fault.Fault.{Fault}
use Rattle.pin_checker.specs.declared.fault.Why.{Why}
use Rattle.pin_checker.specs.declared.pair.Pair.{Pair}
use Rattle.pin_checker.specs.inner.Reports.{Search, is_bad, is_good, noted, for_other, for_none, for_stale, for_lacking, report, report_node, report_all, report_pair}

-- a yes of the first mark is a yes of the second
abbrev pub IsStronger : Mark → Mark → Type 0
IsStronger m m' = (a : Act) (v v' : Bool) → (v ≡ true → v' ≡ true) → m a v ≡ true → m' a v' ≡ true

-- ---- states by a stronger mark are no better

after_leads : (f g : Bool → Bool) → ((v v' : Bool) → (v ≡ true → v' ≡ true) → f v ≡ true → g v' ≡ true) → (t u : AllPaths) → rank t ≤ rank u → rank (after g t) ≤ rank (after f u)
after_leads f g h unreached u le = omega arith
after_leads f g h good unreached le = absurd (omega arith)
after_leads f g h good good le = of_mono (f true) (g true) (h true true (λ e. e))
after_leads f g h good bad le = of_mono (f false) (g true) (h false true (λ e. refl))
after_leads f g h bad unreached le = absurd (omega arith)
after_leads f g h bad good le = absurd (omega arith)
after_leads f g h bad bad le = of_mono (f false) (g false) (h false false (λ e. e))

-- from a state that is no worse, the first leads to states that are no worse
abbrev pub IsUnder : (AllPaths → Ways) → (AllPaths → Ways) → Type 0
IsUnder f g = (t u : AllPaths) → rank t ≤ rank u → Below (f t) (g u)

round_under : (f g f' g' : AllPaths → Ways) → IsUnder f f' → IsUnder g g' → IsUnder (round_of f g) (round_of f' g')
unfolding round_of
round_under f g f' g' mf mg t u h = turned_mono _ _ _ _ (mf t u h) (mg _ _ (end_mono _ _ (mf t u h)))

head_under : (f g f' g' : AllPaths → Ways) → IsUnder f f' → IsUnder g g' → (t u : AllPaths) → rank t ≤ rank u → rank (head_of f g t) ≤ rank (head_of f' g' u)
unfolding head_of
head_under f g f' g' mf mg t u h = join_mono _ _ _ _ h ((round_under f g f' g' mf mg t u h).on)

mutual
  unfolding flow

  flow_under : (m m' : Mark) → IsStronger m m' → (ns : Nodes) → IsUnder (flow m' ns) (flow m ns)
  flow_under m m' s no_nodes t u h = at_mono t u h
  flow_under m m' s (more_nodes n rest) t u h = let b = node_under m m' s n t u h in in_turn_mono _ _ _ _ b (flow_under m m' s rest _ _ b.on)

  node_under : (m m' : Mark) → IsStronger m m' → (n : Node) → IsUnder (flow_node m' n) (flow_node m n)
  node_under m m' s (plain place a) t u h = at_mono _ _ (after_leads (m a) (m' a) (s a) t u h)
  node_under m m' s (if_ place temp one other) t u h = either_mono _ _ _ _ (flow_under m m' s one t u h) (flow_under m m' s other t u h)
  node_under m m' s (loop place body latch) t u h =
      let mf = flow_under m m' s body in
      let mg = flow_under m m' s latch in
      at_mono _ _ ((round_under _ _ _ _ mf mg _ _ (head_under _ _ _ _ mf mg t u h)).broken)
  node_under m m' s (break_ place) t u h = record { on = omega arith; broken = h; next = omega arith }
  node_under m m' s (next_ place) t u h = record { on = omega arith; broken = omega arith; next = h }
  node_under m m' s (ret place temp) t u h = at_mono _ _ (omega arith)

-- ---- a report without a fault

some_is : (x : Bool) (f g : Fault) → (if x then Some f else Some g) ≡ None → ⊥
some_is true f g e = absurd cc
some_is false f g e = absurd cc

noted_none : (v : Bool) (place : ℕ) (why : Why) (best : Option Fault) → noted v place why best ≡ None → (v ≡ false) × (best ≡ None)
noted_none true place why None e = absurd cc
noted_none true place why (Some g) e = absurd (some_is _ _ g e)
noted_none false place why best e = (refl, e)

mutual
  unfolding report report_node

  none_before : (s : Search) (ns : Nodes) (t : AllPaths) (best : Option Fault) → report s ns t best ≡ None → best ≡ None
  none_before s no_nodes t best e = e
  none_before s (more_nodes n rest) t best e = none_in s n t best (none_before s rest (flow_node s.mark n t).on (report_node s n t best) e)

  none_in : (s : Search) (n : Node) (t : AllPaths) (best : Option Fault) → report_node s n t best ≡ None → best ≡ None
  none_in s (plain p a) t best e = (noted_none (s.blames a t) p s.why best e).1
  none_in s (if_ p x one other) t best e = none_before s one t best (none_before s other t (report s one t best) e)
  none_in s (loop p body latch) t best e =
      let h = head_of (flow s.mark body) (flow s.mark latch) t in
      none_before s body h best (none_before s latch (end_state (flow s.mark body h)) (report s body h best) e)
  none_in s (break_ p) t best e = e
  none_in s (next_ p) t best e = e
  none_in s (ret p x) t best e = e

-- what the second search blames, the first one does
abbrev pub Leads : Search → Search → Type 0
Leads s s' = (a : Act) (t u : AllPaths) → rank t ≤ rank u → s.blames a u ≡ false → s'.blames a t ≡ false

mutual
  unfolding report report_node

  clear : (s s' : Search) → IsStronger s.mark s'.mark → Leads s s' → (ns : Nodes) (t u : AllPaths) → rank t ≤ rank u → report s ns u None ≡ None → (best : Option Fault) → report s' ns t best ≡ best
  clear s s' m l no_nodes t u le e best = refl
  clear s s' m l (more_nodes n rest) t u le e best =
      let first : report_node s n u None ≡ None = none_before s rest (flow_node s.mark n u).on (report_node s n u None) e in
      let second : report s rest (flow_node s.mark n u).on None ≡ None = ap (report s rest (flow_node s.mark n u).on) (sym first) ∙ e in
      clear s s' m l rest _ _ ((node_under s.mark s'.mark m n t u le).on) second (report_node s' n t best) ∙ clear_in s s' m l n t u le first best

  clear_in : (s s' : Search) → IsStronger s.mark s'.mark → Leads s s' → (n : Node) (t u : AllPaths) → rank t ≤ rank u → report_node s n u None ≡ None → (best : Option Fault) → report_node s' n t best ≡ best
  clear_in s s' m l (plain p a) t u le e best = ap (λ v. noted v p s'.why best) (l a t u le ((noted_none (s.blames a u) p s.why None e).0))
  clear_in s s' m l (if_ p x one other) t u le e best =
      let first : report s one u None ≡ None = none_before s other u (report s one u None) e in
      let second : report s other u None ≡ None = ap (report s other u) (sym first) ∙ e in
      clear s s' m l other t u le second (report s' one t best) ∙ clear s s' m l one t u le first best
  clear_in s s' m l (loop p body latch) t u le e best =
      let mf = flow_under s.mark s'.mark m body in
      let mg = flow_under s.mark s'.mark m latch in
      let h = head_of (flow s.mark body) (flow s.mark latch) u in
      let z = end_state (flow s.mark body h) in
      let first : report s body h None ≡ None = none_before s latch z (report s body h None) e in
      let second : report s latch z None ≡ None = ap (report s latch z) (sym first) ∙ e in
      let under = head_under _ _ _ _ mf mg t u le in
      clear s s' m l latch _ _ (end_mono _ _ (mf _ _ under)) second _ ∙ clear s s' m l body _ _ under first best
  clear_in s s' m l (break_ p) t u le e best = refl
  clear_in s s' m l (next_ p) t u le e best = refl
  clear_in s s' m l (ret p x) t u le e best = refl

-- ---- the marks of a pair

if_leads : (x y p q : Bool) → (p ≡ true → q ≡ true) → (if x then y else p) ≡ true → (if x then y else q) ≡ true
if_leads true y p q h e = e
if_leads false y p q h e = h e

or_leads : (x y p q : Bool) → (p ≡ true → q ≡ true) → (if x then y else p) ≡ true → (x || q) ≡ true
or_leads true y p q h e = refl
or_leads false y p q h e = h e

-- the rest of a pinned answer
kept : (n l v : Bool) → (n && (l && v)) ≡ true → (n ≡ true) × (l ≡ true) × (v ≡ true)
kept n l v e =
    let p = and_parts n (l && v) e in
    let q = and_parts l v p.1 in
    (p.0, q.0, q.1)

to_other : (slot b : ℕ) → IsStronger (pinned slot b) (filled_for slot b)
to_other slot b a v v' h = if_leads (looks_into slot a) (act_looks b a) _ v' (λ e. h ((kept (not (act_assigns b a)) (not (lacks_if slot (list_of a))) v e).2))

to_none : (slot b : ℕ) → IsStronger (pinned slot b) (filled slot)
to_none slot b a v v' h = or_leads (looks_into slot a) (act_looks b a) _ v' (λ e. h ((kept (not (act_assigns b a)) (not (lacks_if slot (list_of a))) v e).2))

to_stale : (slot b : ℕ) → IsStronger (pinned slot b) (fresh slot b)
to_stale slot b a v v' h = if_leads (looks_into slot a) (act_looks b a) _ _ (λ e. let k = kept (not (act_assigns b a)) (not (lacks_if slot (list_of a))) v e in and_from _ _ k.0 (h k.2))

to_lacking : (slot b : ℕ) → IsStronger (pinned slot b) (pinned slot b)
to_lacking slot b a v v' h =
    if_leads (looks_into slot a) (act_looks b a) _ _ (λ e. let k = kept (not (act_assigns b a)) (not (lacks_if slot (list_of a))) v e in and_from _ _ k.0 (and_from _ _ k.1 (h k.2)))

bad_leads : (x o : Bool) (t u : AllPaths) → rank t ≤ rank u → (x && (is_bad u || (o && is_good u))) ≡ false → (x && is_bad t) ≡ false
bad_leads false o t u le e = refl
bad_leads true o unreached u le e = refl
bad_leads true o good u le e = refl
bad_leads true o bad unreached le e = absurd (omega (arith, le))
bad_leads true o bad good le e = absurd (omega (arith, le))
bad_leads true o bad bad le e = e

lacking_leads : (x o : Bool) (t u : AllPaths) → rank t ≤ rank u → (x && (is_bad u || (o && is_good u))) ≡ false → (x && (is_bad t || (o && is_good t))) ≡ false
lacking_leads false o t u le e = refl
lacking_leads true true unreached u le e = refl
lacking_leads true false unreached u le e = refl
lacking_leads true o good unreached le e = absurd (omega (arith, le))
lacking_leads true o good good le e = e
lacking_leads true o good bad le e = absurd cc
lacking_leads true o bad unreached le e = absurd (omega (arith, le))
lacking_leads true o bad good le e = absurd (omega (arith, le))
lacking_leads true o bad bad le e = e

-- where no list lacks the slot behind a Look of the base that isn't stale, nothing else fails
pub pair_is : (ns : Nodes) (q : Pair) (best : Option Fault) → report_all (for_lacking q) ns None ≡ None → report_pair ns q best ≡ best
pair_is ns q best e =
    let bads = λ (a : Act) (t u : AllPaths). bad_leads (uses q.slot q.base a) (lacks_if q.slot (list_of a)) t u in
    let other = clear (for_lacking q) (for_other q) (to_other q.slot q.base) bads ns good bad (omega arith) e in
    let none = clear (for_lacking q) (for_none q) (to_none q.slot q.base) bads ns bad bad (omega arith) e in
    let stale = clear (for_lacking q) (for_stale q) (to_stale q.slot q.base) bads ns bad bad (omega arith) e in
    let lacking = clear (for_lacking q) (for_lacking q) (to_lacking q.slot q.base) (λ a t u. lacking_leads (uses q.slot q.base a) (lacks_if q.slot (list_of a)) t u) ns bad bad (omega arith) e in
    lacking _ ∙ (stale _ ∙ (none _ ∙ other best))
