-- Where each act keeps what is used later, each slot is pinned where it is used.
use Rattle.std.proofs.Common.{◌≡◌, ℕ, [], ◌∷◌, Option, None, Bool, true, false, ◌||◌, ◌&&◌, if◌then◌else◌, refl, ap, ◌∙◌}
use Rattle.std.specs.Prelude.{not}
use Rattle.std.proofs.lemmas.Bool.{or_left, or_right, and_from, eq-eqb}
use Rattle.struct_ir.specs.Nodes.{Act, Node, plain, if_, loop, break_, next_, ret, Nodes, no_nodes, more_nodes, list_of}
use Rattle.struct_ir.specs.Pins.{lacks_if}
use Rattle.pin_flow.specs.Marks.{AllPaths, unreached, good, bad, join, state_of, after, Ways, end_state, round_of, head_of, flow, flow_node}
use Rattle.pin_flow.specs.Looks.{act_looks, act_assigns, looks_into}
use Rattle.pin_flow.specs.Held.{pinned}
use Rattle.pin_flow.specs.Live.{uses, Live, lives, live_act, live, live_node, head_live, latch_live, body_lives, latch_lives}
use Rattle.pin_checker.specs.declared.fault.Fault.{Fault}
use Rattle.pin_checker.specs.declared.fault.Why.TheVariants.{NotPinned}
use Rattle.pin_checker.specs.declared.pair.Pair.{Pair}
use Rattle.pin_checker.specs.inner.Reports.{is_bad, is_good, noted, for_lacking, report, report_node, report_pair, report_pairs, is_pair}
use Rattle.pin_checker.specs.inner.Uses.{keeps, Kept, KeptIn, IsKept, KeptPairsAreClean}
use Rattle.pin_checker.proofs.Stronger.{pair_is}

-- nothing is used later where some path says no
abbrev pub Safe : AllPaths → Bool → Type 0
Safe t later = t ≡ bad → later ≡ false

abbrev pub SafeWays : Ways → Live → Type 0
SafeWays o l = Safe o.on l.on × (Safe o.broken l.out × Safe o.next l.end)

safe_none : (later : Bool) → Safe unreached later
safe_none later e = absurd cc

safe_join : (t u : AllPaths) (later : Bool) → Safe t later → Safe u later → Safe (join t u) later
safe_join unreached u later f g = g
safe_join good unreached later f g = f
safe_join good good later f g = f
safe_join good bad later f g = g
safe_join bad u later f g = f

-- ---- acts: s, an assignment of b; x, a list that lacks the slot; y, a Look into the slot; k, a Look of b

good_kept : (s x y k later : Bool) → (later ≡ true → (not s && (not x && (not y || k))) ≡ true) → state_of (if y then k else (not s && (not x && true))) ≡ bad → later ≡ false
good_kept s x y k false h e = refl
good_kept true x y k true h e = absurd (let g : false ≡ true = h refl in cc)
good_kept false true y k true h e = absurd (let g : false ≡ true = h refl in cc)
good_kept false false true true true h e = absurd (let g : good ≡ bad = e in cc)
good_kept false false true false true h e = absurd (let g : false ≡ true = h refl in cc)
good_kept false false false k true h e = absurd (let g : good ≡ bad = e in cc)

bad_kept : (s x y k later u : Bool) → (later ≡ true → (not s && (not x && (not y || k))) ≡ true) → (u || (not y && later)) ≡ false → state_of (if y then k else (not s && (not x && false))) ≡ bad → later ≡ false
bad_kept s x y k false u h f e = refl
bad_kept true x y k true u h f e = absurd (let g : false ≡ true = h refl in cc)
bad_kept false true y k true u h f e = absurd (let g : false ≡ true = h refl in cc)
bad_kept false false true true true u h f e = absurd (let g : good ≡ bad = e in cc)
bad_kept false false true false true u h f e = absurd (let g : false ≡ true = h refl in cc)
bad_kept false false false k true true h f e = absurd (let g : true ≡ false = f in cc)
bad_kept false false false k true false h f e = absurd (let g : true ≡ false = f in cc)

no_blame : (u y later x : Bool) (t : AllPaths) → Safe t (u || (not y && later)) → (u ≡ true → x ≡ false) → (u && (is_bad t || (x && is_good t))) ≡ false
no_blame false y later x t f h = refl
no_blame true y later true t f h = absurd (let g : true ≡ false = h refl in cc)
no_blame true y later false unreached f h = refl
no_blame true y later false good f h = refl
no_blame true y later false bad f h = absurd (let g : true ≡ false = f refl in cc)

or_none : (x y : Bool) → (x || y) ≡ false → (x ≡ false) × (y ≡ false)
or_none true y e = absurd (let g : true ≡ false = e in cc)
or_none false y e = (refl, e)

module _ (slot b : ℕ) where
  safe_act : (a : Act) (t : AllPaths) (later : Bool) → (later ≡ true → keeps slot b a ≡ true) → Safe t (live_act slot b a later) → Safe (after (pinned slot b a) t) later
  safe_act a unreached later h f e = absurd (let g : unreached ≡ bad = e in cc)
  safe_act a good later h f e = good_kept (act_assigns b a) (lacks_if slot (list_of a)) (looks_into slot a) (act_looks b a) later h e
  safe_act a bad later h f e = bad_kept (act_assigns b a) (lacks_if slot (list_of a)) (looks_into slot a) (act_looks b a) later (uses slot b a) h (f refl) e

  -- ---- loops

  module _ (body latch : Nodes) (on : Bool) (F G : AllPaths → Ways)
      (fb : (s : AllPaths) → Safe s (live slot b body (body_lives slot b body latch on)) → SafeWays (F s) (body_lives slot b body latch on))
      (fl : (s : AllPaths) → Safe s (live slot b latch (latch_lives slot b body latch on)) → SafeWays (G s) (latch_lives slot b body latch on)) where
    abbrev top : Bool
    top = head_live slot b body latch on

    -- where nothing is used at the start of the rounds, none is with what the other rounds use
    again : top ≡ false → live slot b body (body_lives slot b body latch on) ≡ false
    unfolding head_live latch_live
    again e = (λ i. live slot b body (lives (live slot b latch (lives (e i) on (e i))) on (live slot b latch (lives (e i) on (e i))))) ∙ e

    pub body_safe : (s : AllPaths) → Safe s top → Safe s (live slot b body (body_lives slot b body latch on))
    body_safe s f e = again (f e)

    pub turn_safe : (s : AllPaths) → Safe s top → Safe (end_state (F s)) (live slot b latch (latch_lives slot b body latch on))
    unfolding latch_live
    turn_safe s f = let p = fb s (body_safe s f) in safe_join _ _ _ p.0 p.1.1

    round_safe : (s : AllPaths) → Safe s top → Safe (round_of F G s).on top × Safe (round_of F G s).broken on
    unfolding round_of
    round_safe s f =
        let p = fb s (body_safe s f) in
        let q = fl (end_state (F s)) (turn_safe s f) in
        (safe_join _ _ _ q.0 q.1.1, safe_join _ _ _ p.1.0 q.1.0)

    pub head_safe : (s : AllPaths) → Safe s top → Safe (head_of F G s) top
    unfolding head_of
    head_safe s f = safe_join _ _ _ f (round_safe s f).0

    pub loop_safe : (s : AllPaths) → Safe s top → Safe (round_of F G (head_of F G s)).broken on
    loop_safe s f = (round_safe (head_of F G s) (head_safe s f)).1

  at_head : (body latch : Nodes) (on : Bool) (t : AllPaths) → Safe t (live slot b body (lives (live slot b latch (lives false on false)) on (live slot b latch (lives false on false)))) → Safe t (head_live slot b body latch on)
  unfolding head_live
  at_head body latch on t f = f

  mutual
    unfolding flow live Kept

    pub safe_flow : (ns : Nodes) (l : Live) (t : AllPaths) → Kept slot b ns l → Safe t (live slot b ns l) → SafeWays (flow (pinned slot b) ns t) l
    safe_flow no_nodes l t k f = (f, (safe_none _, safe_none _))
    safe_flow (more_nodes n rest) l t k f =
        let p = safe_node n (lives (live slot b rest l) l.out l.end) t k.0 f in
        let q = safe_flow rest l (flow_node (pinned slot b) n t).on k.1 p.0 in
        (q.0, (safe_join _ _ _ p.1.0 q.1.0, safe_join _ _ _ p.1.1 q.1.1))

    pub safe_node : (n : Node) (l : Live) (t : AllPaths) → KeptIn slot b n l → Safe t (live_node slot b n l) → SafeWays (flow_node (pinned slot b) n t) l
    safe_node (plain p a) l t k f = (safe_act a t l.on k.0 f, (safe_none _, safe_none _))
    safe_node (if_ p x one other) l t k f =
        let y = safe_flow one l t k.0 (λ e. (or_none _ _ (f e)).0) in
        let z = safe_flow other l t k.1 (λ e. (or_none _ _ (f e)).1) in
        (safe_join _ _ _ y.0 z.0, (safe_join _ _ _ y.1.0 z.1.0, safe_join _ _ _ y.1.1 z.1.1))
    safe_node (loop p body latch) l t k f = (
      loop_safe body latch l.on (flow (pinned slot b) body) (flow (pinned slot b) latch) (λ s. safe_flow body (body_lives slot b body latch l.on) s k.0) (λ s. safe_flow latch (latch_lives slot b body latch l.on) s k.1) t (at_head body latch l.on t f),
      (safe_none _, safe_none _),
    )
    safe_node (break_ p) l t k f = (safe_none _, (f, safe_none _))
    safe_node (next_ p) l t k f = (safe_none _, (safe_none _, f))
    safe_node (ret p x) l t k f = (safe_none _, (safe_none _, safe_none _))

-- ---- nothing is found

module _ (q : Pair) where
  round_body : (l : Live) (body latch : Nodes) → Kept q.slot q.base body (body_lives q.slot q.base body latch l.on) → (s : AllPaths) → Safe s (live q.slot q.base body (body_lives q.slot q.base body latch l.on))
      → SafeWays (flow (pinned q.slot q.base) body s) (body_lives q.slot q.base body latch l.on)
  round_body l body latch k s = safe_flow q.slot q.base body (body_lives q.slot q.base body latch l.on) s k

  round_latch : (l : Live) (body latch : Nodes) → Kept q.slot q.base latch (latch_lives q.slot q.base body latch l.on) → (s : AllPaths) → Safe s (live q.slot q.base latch (latch_lives q.slot q.base body latch l.on))
      → SafeWays (flow (pinned q.slot q.base) latch s) (latch_lives q.slot q.base body latch l.on)
  round_latch l body latch k s = safe_flow q.slot q.base latch (latch_lives q.slot q.base body latch l.on) s k

  mutual
    unfolding flow live Kept report report_node

    none_in : (ns : Nodes) (l : Live) (t : AllPaths) (best : Option Fault) → Kept q.slot q.base ns l → Safe t (live q.slot q.base ns l) → report (for_lacking q) ns t best ≡ best
    none_in no_nodes l t best k f = refl
    none_in (more_nodes n rest) l t best k f =
        let p = safe_node q.slot q.base n (lives (live q.slot q.base rest l) l.out l.end) t k.0 f in
        ap (report (for_lacking q) rest (flow_node (pinned q.slot q.base) n t).on) (none_at n (lives (live q.slot q.base rest l) l.out l.end) t best k.0 f) ∙ none_in rest l (flow_node (pinned q.slot q.base) n t).on best k.1 p.0

    none_at : (n : Node) (l : Live) (t : AllPaths) (best : Option Fault) → KeptIn q.slot q.base n l → Safe t (live_node q.slot q.base n l) → report_node (for_lacking q) n t best ≡ best
    none_at (plain p a) l t best k f =
        ap (λ v. noted v p NotPinned best) (no_blame (uses q.slot q.base a) (looks_into q.slot a) l.on (lacks_if q.slot (list_of a)) t f k.1)
    none_at (if_ p x one other) l t best k f =
        ap (report (for_lacking q) other t) (none_in one l t best k.0 (λ e. (or_none _ _ (f e)).0)) ∙ none_in other l t best k.1 (λ e. (or_none _ _ (f e)).1)
    none_at (loop p body latch) l t best k f =
        let F = flow (pinned q.slot q.base) body in
        let G = flow (pinned q.slot q.base) latch in
        let fb = round_body l body latch k.0 in
        let fl = round_latch l body latch k.1 in
        let top = head_safe q.slot q.base body latch l.on F G fb fl t (at_head q.slot q.base body latch l.on t f) in
        let h = head_of F G t in
        ap (report (for_lacking q) latch (end_state (F h))) (none_in body (body_lives q.slot q.base body latch l.on) h best k.0 (body_safe q.slot q.base body latch l.on F G fb fl h top))
        ∙ none_in latch (latch_lives q.slot q.base body latch l.on) (end_state (F h)) best k.1 (turn_safe q.slot q.base body latch l.on F G fb fl h top)
    none_at (break_ p) l t best k f = refl
    none_at (next_ p) l t best k f = refl
    none_at (ret p x) l t best k f = refl

  pub kept_clean : (ns : Nodes) (best : Option Fault) → IsKept ns q → report_pair ns q best ≡ best
  kept_clean ns best k = pair_is ns q best (none_in ns (lives false false false) bad None k.kept (λ e. k.start))

pub all_clean : KeptPairsAreClean
all_clean ns [] best f = refl
all_clean ns (q ∷ rest) best f =
    let own = or_left _ _ (and_from _ _ (eq-eqb q.slot q.slot refl) (eq-eqb q.base q.base refl)) in
    ap (report_pairs ns rest) (kept_clean q ns best (f q own)) ∙ all_clean ns rest best (λ r e. f r (or_right (is_pair q r) _ e))
