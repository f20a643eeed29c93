-- Where each act keeps what is used later, it is held, and lists by what is used later are those that are asked for.
use Rattle.std.proofs.Common.{◌≡◌, ℕ, List, [], ◌∷◌, Bool, true, false, ◌||◌, ◌&&◌, if◌then◌else◌, inl, inr, refl, sym, ap, ◌∙◌}
use Rattle.std.specs.Prelude.{not}
use Rattle.struct_ir.specs.Nodes.{Act, Node, plain, if_, loop, break_, next_, ret, Nodes, no_nodes, more_nodes}
use Rattle.pin_flow.specs.Marks.{AllPaths, unreached, good, bad, join, state_of, after, Ways, end_state, round_of, head_of, flow, flow_node}
use Rattle.pin_flow.specs.Looks.{act_looks, act_assigns, looks_into}
use Rattle.pin_flow.specs.Held.{held}
use Rattle.pin_flow.specs.Slots.{IsIn}
use Rattle.pin_flow.specs.Live.{uses, Live, lives, live_act, live, live_node, head_live, latch_live, body_lives, latch_lives}
use Rattle.pin_frames.specs.inner.Place.{is_bad, act_listing, list_for, heads, turns, on_states, rest_lives, listed, listed_in}
use Rattle.pin_frames.specs.inner.Together.{slots_for, used_listed, used_listed_in, Kept, KeptIn}
use Rattle.mark_sets.specs.Homes.{keeps}

-- nothing is used later where some path says no
abbrev pub Safe : AllPaths → Bool → Type 0
Safe t later = t ≡ bad → later ≡ false

abbrev pub SafeWays : Ways → Live → Type 0
SafeWays o l = Safe o.on l.on × (Safe o.broken l.out × Safe o.next l.end)

safe_none : (later : Bool) → Safe unreached later
safe_none later e = absurd cc

safe_join : (t u : AllPaths) (later : Bool) → Safe t later → Safe u later → Safe (join t u) later
safe_join unreached u later f g = g
safe_join good unreached later f g = f
safe_join good good later f g = f
safe_join good bad later f g = g
safe_join bad u later f g = f

-- ---- acts: k, a Look of b; s, an assignment; y, a Look into the slot

good_kept : (k s y later : Bool) → (later ≡ true → (not s && (not y || k)) ≡ true) → state_of (k || (not s && true)) ≡ bad → later ≡ false
good_kept k s y false h e = refl
good_kept true s y true h e = absurd (let g : good ≡ bad = e in cc)
good_kept false true y true h e = absurd (let g : false ≡ true = h refl in cc)
good_kept false false y true h e = absurd (let g : good ≡ bad = e in cc)

bad_kept : (k s y later u : Bool) → (later ≡ true → (not s && (not y || k)) ≡ true) → (u || (not y && later)) ≡ false → state_of (k || (not s && false)) ≡ bad → later ≡ false
bad_kept k s y false u h f e = refl
bad_kept true s y true u h f e = absurd (let g : good ≡ bad = e in cc)
bad_kept false true y true u h f e = absurd (let g : false ≡ true = h refl in cc)
bad_kept false false true true u h f e = absurd (let g : false ≡ true = h refl in cc)
bad_kept false false false true true h f e = absurd (let g : true ≡ false = f in cc)
bad_kept false false false true false h f e = absurd (let g : true ≡ false = f in cc)

or_none : (x y : Bool) → (x || y) ≡ false → (x ≡ false) × (y ≡ false)
or_none true y e = absurd (let g : true ≡ false = e in cc)
or_none false y e = (refl, e)

module _ (slot b : ℕ) where
  safe_act : (a : Act) (t : AllPaths) (later : Bool) → (later ≡ true → keeps slot b a ≡ true) → Safe t (live_act slot b a later) → Safe (after (held b a) t) later
  safe_act a unreached later h f e = absurd (let g : unreached ≡ bad = e in cc)
  safe_act a good later h f e = good_kept (act_looks b a) (act_assigns b a) (looks_into slot a) later h e
  safe_act a bad later h f e = bad_kept (act_looks b a) (act_assigns b a) (looks_into slot a) later (uses slot b a) h (f refl) e

  -- ---- loops

  module _ (body latch : Nodes) (on : Bool) (F G : AllPaths → Ways)
      (fb : (s : AllPaths) → Safe s (live slot b body (body_lives slot b body latch on)) → SafeWays (F s) (body_lives slot b body latch on))
      (fl : (s : AllPaths) → Safe s (live slot b latch (latch_lives slot b body latch on)) → SafeWays (G s) (latch_lives slot b body latch on)) where
    abbrev top : Bool
    top = head_live slot b body latch on

    -- where nothing is used at the start of the rounds, none is with what the other rounds use
    again : top ≡ false → live slot b body (body_lives slot b body latch on) ≡ false
    unfolding head_live latch_live
    again e = (λ i. live slot b body (lives (live slot b latch (lives (e i) on (e i))) on (live slot b latch (lives (e i) on (e i))))) ∙ e

    pub body_safe : (s : AllPaths) → Safe s top → Safe s (live slot b body (body_lives slot b body latch on))
    body_safe s f e = again (f e)

    pub turn_safe : (s : AllPaths) → Safe s top → Safe (end_state (F s)) (live slot b latch (latch_lives slot b body latch on))
    unfolding latch_live
    turn_safe s f = let p = fb s (body_safe s f) in safe_join _ _ _ p.0 p.1.1

    round_safe : (s : AllPaths) → Safe s top → Safe (round_of F G s).on top × Safe (round_of F G s).broken on
    unfolding round_of
    round_safe s f =
        let p = fb s (body_safe s f) in
        let q = fl (end_state (F s)) (turn_safe s f) in
        (safe_join _ _ _ q.0 q.1.1, safe_join _ _ _ p.1.0 q.1.0)

    pub head_safe : (s : AllPaths) → Safe s top → Safe (head_of F G s) top
    unfolding head_of
    head_safe s f = safe_join _ _ _ f (round_safe s f).0

    pub loop_safe : (s : AllPaths) → Safe s top → Safe (round_of F G (head_of F G s)).broken on
    loop_safe s f = (round_safe (head_of F G s) (head_safe s f)).1

  at_head : (body latch : Nodes) (on : Bool) (t : AllPaths) → Safe t (live slot b body (lives (live slot b latch (lives false on false)) on (live slot b latch (lives false on false)))) → Safe t (head_live slot b body latch on)
  unfolding head_live
  at_head body latch on t f = f

  mutual
    unfolding flow live Kept

    pub safe_flow : (ns : Nodes) (l : Live) (t : AllPaths) → Kept slot b ns l → Safe t (live slot b ns l) → SafeWays (flow (held b) ns t) l
    safe_flow no_nodes l t k f = (f, (safe_none _, safe_none _))
    safe_flow (more_nodes n rest) l t k f =
        let p = safe_node n (lives (live slot b rest l) l.out l.end) t k.0 f in
        let q = safe_flow rest l (flow_node (held b) n t).on k.1 p.0 in
        (q.0, (safe_join _ _ _ p.1.0 q.1.0, safe_join _ _ _ p.1.1 q.1.1))

    pub safe_node : (n : Node) (l : Live) (t : AllPaths) → KeptIn slot b n l → Safe t (live_node slot b n l) → SafeWays (flow_node (held b) n t) l
    safe_node (plain p a) l t k f = (safe_act a t l.on k f, (safe_none _, safe_none _))
    safe_node (if_ p x one other) l t k f =
        let y = safe_flow one l t k.0 (λ e. (or_none _ _ (f e)).0) in
        let z = safe_flow other l t k.1 (λ e. (or_none _ _ (f e)).1) in
        (safe_join _ _ _ y.0 z.0, (safe_join _ _ _ y.1.0 z.1.0, safe_join _ _ _ y.1.1 z.1.1))
    safe_node (loop p body latch) l t k f = (
      loop_safe body latch l.on (flow (held b) body) (flow (held b) latch) (λ s. safe_flow body (body_lives slot b body latch l.on) s k.0) (λ s. safe_flow latch (latch_lives slot b body latch l.on) s k.1) t (at_head body latch l.on t f),
      (safe_none _, safe_none _),
    )
    safe_node (break_ p) l t k f = (safe_none _, (f, safe_none _))
    safe_node (next_ p) l t k f = (safe_none _, (safe_none _, f))
    safe_node (ret p x) l t k f = (safe_none _, (safe_none _, safe_none _))

-- ---- lists

wanted_is : (t : AllPaths) (u z : Bool) → Safe t (u || z) → ((not (is_bad t) && (u || z)) || u) ≡ (u || z)
wanted_is unreached true z f = refl
wanted_is unreached false true f = refl
wanted_is unreached false false f = refl
wanted_is good true z f = refl
wanted_is good false true f = refl
wanted_is good false false f = refl
wanted_is bad true z f = refl
wanted_is bad false z f = sym (f refl)

module _ (slot_of : ℕ → ℕ) where
  for_used : (a : Act) (ts : ℕ → AllPaths) (ls : ℕ → Live) (todo : List ℕ) → ((b : ℕ) → IsIn todo b → Safe (ts b) (live_act (slot_of b) b a (ls b).on))
      → list_for slot_of todo a ts (λ b. live_act (slot_of b) b a (ls b).on) ≡ slots_for slot_of todo (λ b. live_act (slot_of b) b a (ls b).on)
  for_used a ts ls [] f = refl
  for_used a ts ls (b ∷ todo) f =
      let w = wanted_is (ts b) (uses (slot_of b) b a) (not (looks_into (slot_of b) a) && (ls b).on) (f b (inl refl)) in
      let r = for_used a ts ls todo (λ c j. f c (inr j)) in
      λ i. if w i then slot_of b ∷ r i else r i

  pub slots_same : (x y : ℕ → Bool) (todo : List ℕ) → ((b : ℕ) → IsIn todo b → x b ≡ y b) → slots_for slot_of todo x ≡ slots_for slot_of todo y
  slots_same x y [] e = refl
  slots_same x y (b ∷ todo) e =
      let w = e b (inl refl) in
      let r = slots_same x y todo (λ c j. e c (inr j)) in
      λ i. if w i then slot_of b ∷ r i else r i

  module _ (bs : List ℕ) where
    round_body : (b : ℕ) (l : Live) (body latch : Nodes) → Kept (slot_of b) b body (body_lives (slot_of b) b body latch l.on) → (s : AllPaths) → Safe s (live (slot_of b) b body (body_lives (slot_of b) b body latch l.on))
        → SafeWays (flow (held b) body s) (body_lives (slot_of b) b body latch l.on)
    round_body b l body latch k s = safe_flow (slot_of b) b body (body_lives (slot_of b) b body latch l.on) s k

    round_latch : (b : ℕ) (l : Live) (body latch : Nodes) → Kept (slot_of b) b latch (latch_lives (slot_of b) b body latch l.on) → (s : AllPaths) → Safe s (live (slot_of b) b latch (latch_lives (slot_of b) b body latch l.on))
        → SafeWays (flow (held b) latch s) (latch_lives (slot_of b) b body latch l.on)
    round_latch b l body latch k s = safe_flow (slot_of b) b latch (latch_lives (slot_of b) b body latch l.on) s k

    top_safe : (b : ℕ) (l : Live) (t : AllPaths) (body latch : Nodes) → Kept (slot_of b) b body (body_lives (slot_of b) b body latch l.on) × Kept (slot_of b) b latch (latch_lives (slot_of b) b body latch l.on)
        → Safe t (live (slot_of b) b body (lives (live (slot_of b) b latch (lives false l.on false)) l.on (live (slot_of b) b latch (lives false l.on false)))) → Safe (head_of (flow (held b) body) (flow (held b) latch) t) (head_live (slot_of b) b body latch l.on)
    top_safe b l t body latch k f = head_safe (slot_of b) b body latch l.on (flow (held b) body) (flow (held b) latch) (round_body b l body latch k.0) (round_latch b l body latch k.1) t (at_head (slot_of b) b body latch l.on t f)

    mutual
      unfolding flow live Kept

      pub listed_used : (ns : Nodes) (ts : ℕ → AllPaths) (ls : ℕ → Live) → ((b : ℕ) → IsIn bs b → Kept (slot_of b) b ns (ls b)) → ((b : ℕ) → IsIn bs b → Safe (ts b) (live (slot_of b) b ns (ls b)))
          → listed slot_of bs ns ts ls ≡ used_listed slot_of bs ns ls
      listed_used no_nodes ts ls k f = refl
      listed_used (more_nodes n rest) ts ls k f =
          let here = in_used n ts (rest_lives slot_of rest ls) (λ b j. (k b j).0) f in
          let later = listed_used rest (on_states n ts) ls (λ b j. (k b j).1) (λ b j. (safe_node (slot_of b) b n (rest_lives slot_of rest ls b) (ts b) (k b j).0 (f b j)).0) in
          λ i. more_nodes (here i) (later i)

      in_used : (n : Node) (ts : ℕ → AllPaths) (ls : ℕ → Live) → ((b : ℕ) → IsIn bs b → KeptIn (slot_of b) b n (ls b)) → ((b : ℕ) → IsIn bs b → Safe (ts b) (live_node (slot_of b) b n (ls b)))
          → listed_in slot_of bs n ts ls ≡ used_listed_in slot_of bs n ls
      in_used (plain p a) ts ls k f = ap (λ l. plain p (act_listing a l)) (for_used a ts ls bs f)
      in_used (if_ p x one other) ts ls k f =
          let y = listed_used one ts ls (λ b j. (k b j).0) (λ b j e. (or_none _ _ (f b j e)).0) in
          let z = listed_used other ts ls (λ b j. (k b j).1) (λ b j e. (or_none _ _ (f b j e)).1) in
          λ i. if_ p x (y i) (z i)
      in_used (loop p body latch) ts ls k f =
          let y = listed_used body (heads body latch ts) (λ b. body_lives (slot_of b) b body latch (ls b).on) (λ b j. (k b j).0)
          (λ b j. body_safe (slot_of b) b body latch (ls b).on (flow (held b) body) (flow (held b) latch) (round_body b (ls b) body latch (k b j).0) (round_latch b (ls b) body latch (k b j).1) (heads body latch ts b) (top_safe b (ls b) (ts b) body latch (k b j) (f b j))) in
          let z = listed_used latch (turns body latch ts) (λ b. latch_lives (slot_of b) b body latch (ls b).on) (λ b j. (k b j).1)
          (λ b j. turn_safe (slot_of b) b body latch (ls b).on (flow (held b) body) (flow (held b) latch) (round_body b (ls b) body latch (k b j).0) (round_latch b (ls b) body latch (k b j).1) (heads body latch ts b) (top_safe b (ls b) (ts b) body latch (k b j) (f b j))) in
          λ i. loop p (y i) (z i)
      in_used (break_ p) ts ls k f = refl
      in_used (next_ p) ts ls k f = refl
      in_used (ret p x) ts ls k f = refl

    mutual
      pub used_same : (ns : Nodes) (ls ls' : ℕ → Live) → ((b : ℕ) → IsIn bs b → ls b ≡ ls' b) → used_listed slot_of bs ns ls ≡ used_listed slot_of bs ns ls'
      used_same no_nodes ls ls' e = refl
      used_same (more_nodes n rest) ls ls' e =
          let here = in_same n (rest_lives slot_of rest ls) (rest_lives slot_of rest ls') (λ b j. ap (λ (l : Live). lives (live (slot_of b) b rest l) l.out l.end) (e b j)) in
          let later = used_same rest ls ls' e in
          λ i. more_nodes (here i) (later i)

      pub in_same : (n : Node) (ls ls' : ℕ → Live) → ((b : ℕ) → IsIn bs b → ls b ≡ ls' b) → used_listed_in slot_of bs n ls ≡ used_listed_in slot_of bs n ls'
      in_same (plain p a) ls ls' e = ap (λ l. plain p (act_listing a l)) (slots_same _ _ bs (λ b j. ap (λ (l : Live). live_act (slot_of b) b a l.on) (e b j)))
      in_same (if_ p x one other) ls ls' e = λ i. if_ p x (used_same one ls ls' e i) (used_same other ls ls' e i)
      in_same (loop p body latch) ls ls' e =
          let y = used_same body (λ b. body_lives (slot_of b) b body latch (ls b).on) (λ b. body_lives (slot_of b) b body latch (ls' b).on) (λ b j. ap (λ (l : Live). body_lives (slot_of b) b body latch l.on) (e b j)) in
          let z = used_same latch (λ b. latch_lives (slot_of b) b body latch (ls b).on) (λ b. latch_lives (slot_of b) b body latch (ls' b).on) (λ b j. ap (λ (l : Live). latch_lives (slot_of b) b body latch l.on) (e b j)) in
          λ i. loop p (y i) (z i)
      in_same (break_ p) ls ls' e = refl
      in_same (next_ p) ls ls' e = refl
      in_same (ret p x) ls ls' e = refl
