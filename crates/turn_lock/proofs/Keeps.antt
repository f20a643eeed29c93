-- Each kind of step keeps the rule of the table.
use Rattle.std.proofs.Common.{◌≡◌, ◌≢◌, ℕ, zero, suc, ◌+◌, ◌%◌, ◌^◌, ◌<◌, ◌≤◌, Bool, true, false, List, [], ◌∷◌, ◌++◌, length, set, get_or, ap, ap₂, sym, subst, ◌∙◌, refl, arith, ⊎_elim, length-set, length-append}
use mathlib.Core.Option.{Option, none, some, some-injective, some-ne-none}
use mathlib.Core.Logic.{dite}
use native.Mathlib.Decide.{ℕ_discrete}
use lib.ListN.{get_elem?}
use lib.Seq.{set-get_or}
use Rattle.atomic_table.specs.Table.{State, Me, step, keeps, takes, gives, put_back, rest, Allows, Splits, Joins, opening, Final, Seen}
use Rattle.atomic_table.proofs.Lists.{at_set, set_here, set_else, set_again, at_longer, one_turn}
use Rattle.ak_trace.specs.declared.entry.Entry.{Entry}
use Rattle.turn_lock.specs.declared.board.View.{View}
use Rattle.turn_lock.specs.declared.board.Taken.{Taken}
use Rattle.turn_lock.specs.declared.board.Stage.{Stage}
use Rattle.turn_lock.specs.declared.board.Stage.TheVariants.{Idle, Waiting, Holding, Spent}
use Rattle.turn_lock.specs.Histories.{of_worker}
use Rattle.turn_lock.specs.inner.Board.{words_of, total, founder, one_more, newcomer_of, taken_of, nothing_taken, taken_in, spent, waiting, holding, after_call, busy_at, busy, Tells, Common, Knows, Chief, Holder, InTurn, drew, looked, served}
use Rattle.turn_lock.proofs.Histories.{of_worker-append, of_worker-append_none, none_else, cancel_none}
use Rattle.ak_words.specs.Prefix.{IsPrefix}
use Rattle.ak_words.proofs.Prefixes.{prefix_of_itself, prefix_of_more}
use Rattle.turn_lock.proofs.Counting.{total-set, total_at, total-append, total_most, within, at_end, or_before, or_last, next_mod}

abbrev ticket_of : Stage → ℕ
ticket_of (Waiting t) = t
ticket_of (Holding t) = t
ticket_of _ = 0

abbrev IsSpent : Stage → Type 0
IsSpent Spent = Unit {0}
IsSpent _ = ⊥

abbrev IsHolding : Stage → Type 0
IsHolding (Holding t) = Unit {0}
IsHolding _ = ⊥

-- f, but x at i
put : (ℕ → ℕ) → ℕ → ℕ → ℕ → ℕ
put f i x j = dite (ℕ_discrete j i) (λ _. x) (λ _. f j)

put_here : (f : ℕ → ℕ) (i x : ℕ) → put f i x i ≡ x
unfolding put
put_here f i x = elim (ℕ_discrete i i) as (λ d. dite d (λ _. x) (λ _. f i) ≡ x) [ yes e ↦ refl | no n ↦ absurd (n refl) ]

put_else : (f : ℕ → ℕ) (i x j : ℕ) → j ≢ i → put f i x j ≡ f j
unfolding put
put_else f i x j ne = elim (ℕ_discrete j i) as (λ d. dite d (λ _. x) (λ _. f j) ≡ f j) [ yes e ↦ absurd (ne e) | no n ↦ refl ]

busy_one : (v : View) → busy v ≤ 1
busy_one v = elim v.stage as (λ st. busy_at st ≤ 1) [ Idle ↦ omega arith | Waiting t ↦ omega arith | Holding t ↦ omega arith | Spent ↦ omega arith ]

is_false : (b : Bool) → (b ≡ true → ⊥) → b ≡ false
is_false true never = absurd (never refl)
is_false false never = refl

true_false : {A : Type 0} (b : Bool) → b ≡ true → b ≡ false → A
true_false true p q = absurd (cc q)
true_false false p q = absurd (cc p)

-- a fact of each seat, after one has changed
seats_stay : (K : ℕ → View → Type 0) (vs : List View) (me : ℕ) (w : View) → K me w → ((j : ℕ) (d : View) → j ≢ me → get_elem? vs j ≡ some d → K j d)
    → (j : ℕ) (d : View) → get_elem? (set vs me w) j ≡ some d → K j d
seats_stay K vs me w mine others j d e = ⊎_elim (λ (t : (j ≡ me) × (w ≡ d)). subst (λ (x : ℕ × View). K x.0 x.1) (λ i. (sym t.0 i, t.1 i)) mine)
    (λ (t : (j ≢ me) × (get_elem? vs j ≡ some d)). others j d t.0 t.1) (at_set vs me j w d e)

-- what another pass knows stays so
others_know : (h h' : List Entry) (drawn now drawn' now' : ℕ) (held held' : Bool) (owner owner' : ℕ → ℕ) (i : ℕ) (u : View)
    → (of_worker i h' ≡ of_worker i h) → ((seen : List Entry) → IsPrefix seen h → IsPrefix seen h')
    → ((t : ℕ) → owner t ≡ i → now ≤ t → t < drawn → (t ≡ now → held ≡ false) → (owner' t ≡ i) × (now' ≤ t) × (t < drawn') × (t ≡ now' → held' ≡ false))
    → ((t : ℕ) → owner t ≡ i → t ≡ now → t < drawn → held ≡ true → (owner' t ≡ i) × (t ≡ now') × (t < drawn') × (held' ≡ true) × (h ≡ h'))
    → (st : Stage) → Knows h drawn now held owner i u st → Knows h' drawn' now' held' owner' i u st
others_know h h' drawn now drawn' now' held held' owner owner' i u same longer waits holds Idle k = (k.0, longer u.seen k.1, same ∙ k.2, k.3)
others_know h h' drawn now drawn' now' held held' owner owner' i u same longer waits holds (Waiting t) k =
    let w = waits t k.1 k.2 k.3 k.4 in ((k.0.0, longer u.seen k.0.1, same ∙ k.0.2, k.0.3), w.0, w.1, w.2, w.3)
others_know h h' drawn now drawn' now' held held' owner owner' i u same longer waits holds (Holding t) k =
    let w = holds t k.1 k.2 k.3 k.4 in ((k.0.0, longer u.seen k.0.1, same ∙ k.0.2, k.0.3), w.0, w.1, w.2, w.3, k.5 ∙ w.4)
others_know h h' drawn now drawn' now' held held' owner owner' i u same longer waits holds Spent k = tt

-- what pass 0 knows stays so, at a step of a pass that is not spent
chief_stays : (h h' : List Entry) (vs : List View) (j : ℕ) (v w u u' : View) → get_elem? vs j ≡ some v → ¬ (IsSpent v.stage) → ((i : ℕ) → i ≢ j → of_worker i h' ≡ of_worker i h)
    → ((seen : List Entry) → IsPrefix seen h → IsPrefix seen h') → u'.made ≡ u.made → u'.joined ≡ u.joined → Chief h vs u → Chief h' (set vs j w) u'
chief_stays h h' vs j v w u u' at here same longer made joined c = (
  made ∙ (c.0 ∙ sym (length-set vs j w)),
  λ k l. let f = c.1 k (subst (λ (z : List Taken). k < length z) joined l) in
      let ne : (k + 1) ≢ j = λ e. here (subst (λ (z : View). IsSpent z.stage) (some-injective spent v (sym f.0 ∙ (ap (λ (z : ℕ). get_elem? vs z) e ∙ at))) tt) in
      (set_else vs j (k + 1) w ne ∙ f.0, subst (λ (z : List Taken). Tells h' (k + 1) (get_or z k nothing_taken)) (sym joined) (same (k + 1) ne ∙ f.1.0, longer _ f.1.1)),
)

-- the holder stays while another pass steps
holder_else : (now : ℕ) (vs : List View) (j : ℕ) (v w : View) → get_elem? vs j ≡ some v → ¬ (IsHolding v.stage) → Holder now vs → Holder now (set vs j w)
holder_else now vs j v w at other h =
    (h.0, h.1, set_else vs j h.0 w (λ e. other (subst (λ (z : View). IsHolding z.stage) (some-injective h.1 v (sym h.2 ∙ (ap (λ (z : ℕ). get_elem? vs z) e ∙ at))) (subst IsHolding (sym h.3) tt))) ∙ h.2, h.3)

-- where a pass has the object, some ticket is drawn and not served
holder_busy : (now : ℕ) (vs : List View) → Holder now vs → 0 < total busy vs
holder_busy now vs h = let a = total_at busy vs h.0 h.1 h.2 in let b : busy h.1 ≡ 1 = ap busy_at h.3 in omega arith

home_at : {A : Type 0} (hs : List A) (x : A) → hs ≡ x ∷ [] → get_elem? hs 0 ≡ some x
home_at hs x e = ap (λ (z : List _). get_elem? z 0) e

home_set : {A : Type 0} (hs : List A) (x : A) → length hs ≡ 1 → set hs 0 x ≡ x ∷ []
home_set [] x e = absurd (omega arith)
home_set (y ∷ []) x e = refl
home_set (y ∷ z ∷ zs) x e = absurd (omega arith)

module _ {O : Type 0} (replays : List Entry → O → Type 0) where
  abbrev St : Type 0
  St = State O View

  abbrev M : Type 0
  M = Me O View

  abbrev Rule : St → Type 0
  Rule = InTurn replays

  knows : (s : St) (r : Rule s) (id : ℕ) (v : View) (st : Stage) → get_elem? s.views id ≡ some v → v.stage ≡ st → Knows r.history r.drawn r.now r.held r.owner id v st
  knows s r id v st at is = subst (λ (z : Stage). Knows r.history r.drawn r.now r.held r.owner id v z) is (r.each_seat id v at)

  -- a step of the pass j, by which its view v becomes w
  moves : (s : St) (r : Rule s) (j : ℕ) (v w : View) (words' : List ℕ) (homes' : List (Option O)) (h' : List Entry) (drawn' now' : ℕ) (held' : Bool) (owner' : ℕ → ℕ)
      → get_elem? s.views j ≡ some v → ¬ (IsSpent v.stage) → w.made ≡ v.made → w.joined ≡ v.joined
      → words' ≡ words_of drawn' now' → now' + (r.drawn + busy w) ≡ drawn' + (r.now + busy v)
      → (held' ≡ false → (x : O) × (homes' ≡ some x ∷ []) × replays h' x)
      → (held' ≡ true → Holder now' (set s.views j w))
      → ((i : ℕ) → i ≢ j → of_worker i h' ≡ of_worker i r.history) → ((seen : List Entry) → IsPrefix seen r.history → IsPrefix seen h')
      → ((i t : ℕ) → i ≢ j → r.owner t ≡ i → r.now ≤ t → t < r.drawn → (t ≡ r.now → r.held ≡ false) → (owner' t ≡ i) × (now' ≤ t) × (t < drawn') × (t ≡ now' → held' ≡ false))
      → ((i t : ℕ) → i ≢ j → r.owner t ≡ i → t ≡ r.now → t < r.drawn → r.held ≡ true → (owner' t ≡ i) × (t ≡ now') × (t < drawn') × (held' ≡ true) × (r.history ≡ h'))
      → Knows h' drawn' now' held' owner' j w w.stage
      → Rule record { words = words'; homes = homes'; views = set s.views j w }
  moves s r j v w words' homes' h' drawn' now' held' owner' at here made joined words line home holder same longer waits holds mine = record {
    history = h';
    drawn = drawn';
    now = now';
    held = held';
    owner = owner';
    words_are = words;
    line = let a = total-set busy s.views j v w at in let b = r.line in omega arith;
    few = let a = length-set s.views j w in let b = r.few in omega arith;
    home = home;
    holder = holder;
    fresh = λ k l. let a : length (set s.views j w) ≡ length s.views = length-set s.views j w in let b = within s.views j v at in same k (λ e. omega arith) ∙ r.fresh k (omega arith);
    chief = seats_stay (λ i u. 0 < u.made → (i ≡ 0) × Chief h' (set s.views j w) u) s.views j w
        (λ positive. let c = r.chief j v at (omega arith) in (c.0, chief_stays r.history h' s.views j v w v w at here same longer made joined c.1))
        (λ i u _ e positive. let c = r.chief i u e positive in (c.0, chief_stays r.history h' s.views j v w u u at here same longer refl refl c.1));
    each_seat = seats_stay (λ i u. Knows h' drawn' now' held' owner' i u u.stage) s.views j w mine
        (λ i u ne e. others_know r.history h' r.drawn r.now drawn' now' r.held held' r.owner owner' i u (same i ne) longer (λ t. waits i t ne) (λ t. holds i t ne) u.stage (r.each_seat i u e));
  }

  pub draws : (slots id : ℕ) (me : M) → me.0.stage ≡ Idle → Allows Rule slots id me 0 (λ n. (n + 1) % 2 ^ 64) (drew (step slots 0 1 0 none) me)
  draws slots id me idle s r _ at _ =
      let t : ℕ = r.drawn in let v : View = me.0 in let k : Common r.history r.drawn r.now r.held r.owner id v = knows s r id v Idle at idle in
      let b : busy v ≡ 0 = ap busy_at idle in let line = r.line in (
        waiting t v,
        keeps,
        tt,
        moves s r id v (waiting t v) _ s.homes r.history (t + 1) r.now r.held (put r.owner t id) at (λ g. subst IsSpent idle g) refl refl
            (ap (λ (ws : List ℕ). set ws 0 ((get_or ws 0 0 + 1) % 2 ^ 64)) r.words_are ∙ ap (λ (n : ℕ). n ∷ r.now % 2 ^ 64 ∷ []) (next_mod t))
            (omega arith) r.home (λ h. holder_else r.now s.views id v (waiting t v) at (λ g. subst IsHolding idle g) (r.holder h)) (λ i ne. refl) (λ seen p. p)
            (λ i t' ne own lo hi free. (put_else r.owner t id t' (λ e. omega arith) ∙ own, lo, omega arith, free))
            (λ i t' ne own is hi h. (put_else r.owner t id t' (λ e. omega arith) ∙ own, is, omega arith, h, refl))
            (k, put_here r.owner t id, omega arith, omega arith, λ e. is_false r.held (λ h. let z = holder_busy r.now s.views (r.holder h) in omega arith)),
        (t, ap (λ (ws : List ℕ). get_or ws 0 0) r.words_are, refl, refl),
      )

  -- a ticket that is not served yet and looks like the one that is served is that one
  same_ticket : (s : St) (r : Rule s) (t : ℕ) → r.now ≤ t → t < r.drawn → r.now % 2 ^ 64 ≡ t % 2 ^ 64 → r.now ≡ t
  same_ticket s r t lo hi e = let a = total_most busy busy_one s.views in let few = r.few in let line = r.line in one_turn r.now t (2 ^ 64) lo (omega arith) e

  pub looks : (told : List Entry → O → Type 0) → ((log : List Entry) (x : O) → replays log x → told log x)
      → (slots id : ℕ) (me : M) (t : ℕ) → me.0.stage ≡ Waiting t → Allows Rule slots id me 1 (λ n. n) (looked told (step slots 1 0 0 none) me)
  looks told tells slots id me t wait s r _ at _ =
      let v : View = me.0 in let k = knows s r id v (Waiting t) at wait in let found : get_or s.words 1 0 ≡ r.now % 2 ^ 64 = ap (λ (ws : List ℕ). get_or ws 1 0) r.words_are in
      let b : busy v ≡ 1 = ap busy_at wait in dite (ℕ_discrete r.now t)
      (λ mine. let free : r.held ≡ false = k.4 (sym mine) in let h = r.home free in let x : O = h.0 in let others : List Entry = k.0.1.0 in let all : r.history ≡ v.seen ++ others = k.0.1.1 in
      let w : View = holding t others v in
      let mine_all : of_worker id (v.seen ++ others) ≡ v.own = subst (λ (z : List Entry). of_worker id z ≡ v.own) all k.0.2 in
      let none_here : of_worker id others ≡ [] = cancel_none (of_worker id v.seen) (of_worker id others) (k.0.3 ∙ (sym mine_all ∙ of_worker-append id v.seen others)) in
      let none_mine : of_worker v.number others ≡ [] = subst (λ (z : ℕ). of_worker z others ≡ []) (sym k.0.0) none_here in (
        w,
        takes 0 x,
        home_at s.homes (some x) h.1,
        moves s r id v w _ _ r.history r.drawn r.now true r.owner at (λ g. subst IsSpent wait g) refl refl
            (set-get_or s.words 1 0 ∙ r.words_are) (omega arith) (λ no. absurd (cc no)) (λ _. (id, w, set_here s.views id w (within s.views id v at), ap Holding (sym mine))) (λ i ne. refl) (λ seen p. p)
            (λ i t' ne own lo hi f. (own, lo, hi, λ e. absurd (ne (sym own ∙ (ap r.owner (e ∙ mine) ∙ k.1)))))
            (λ i t' ne own is hi held. true_false r.held held free)
            ((k.0.0, subst (λ (z : List Entry). IsPrefix z r.history) all (prefix_of_itself r.history), k.0.2, mine_all), k.1, sym mine, k.3, refl, sym all),
        (λ t' is. let same : t ≡ t' = ap ticket_of (sym wait ∙ is) in (
          (λ _. (x, others, ap (λ (z : ℕ). holding z others v) same, refl, tells _ x (subst (λ (z : List Entry). replays z x) all h.2), none_mine)),
          λ ne. absurd (ne (found ∙ ap (λ (z : ℕ). z % 2 ^ 64) (mine ∙ same))),
        )),
      ))
      (λ other. (
        v,
        keeps,
        tt,
        subst Rule (λ i. record { words = sym (set-get_or s.words 1 0) i; homes = s.homes; views = sym (set_again s.views id v at) i }) r,
        (λ t' is. let same : t ≡ t' = ap ticket_of (sym wait ∙ is) in
            ((λ e. absurd (other (same_ticket s r t k.2 k.3 (sym found ∙ (e ∙ ap (λ (z : ℕ). z % 2 ^ 64) (sym same)))))), λ _. refl)),
      ))

  pub serves : (slots id : ℕ) (me : M) (t : ℕ) (es : List Entry) (x : O) → slots ≡ 1 → me.0.stage ≡ Holding t → me.1 ≡ (0, x) ∷ [] → of_worker me.0.number es ≡ es → replays (me.0.seen ++ es) x
      → Allows Rule slots id me 1 (λ n. (n + 1) % 2 ^ 64) (served es (step slots 1 1 0 none) me)
  serves slots id me t es x one hold carried own next s r deep at _ =
      let v : View = me.0 in let k = knows s r id v (Holding t) at hold in let w : View = after_call es v in let b : busy v ≡ 1 = ap busy_at hold in let line = r.line in
      let own' : of_worker id es ≡ es = subst (λ (z : ℕ). of_worker z es ≡ es) k.0.0 own in
      let h' : List Entry = r.history ++ es in let grown : v.seen ++ es ≡ h' = ap (λ (z : List Entry). z ++ es) k.5 in (
        w,
        gives,
        tt,
        moves s r id v w _ _ h' r.drawn (r.now + 1) false r.owner at (λ g. subst IsSpent hold g) refl refl
            (ap (λ (ws : List ℕ). set ws 1 ((get_or ws 1 0 + 1) % 2 ^ 64)) r.words_are ∙ ap (λ (n : ℕ). r.drawn % 2 ^ 64 ∷ n ∷ []) (next_mod r.now))
            (omega arith) (λ _. (x, ap (put_back s.homes) carried ∙ home_set s.homes (some x) (deep ∙ one), subst (λ (z : List Entry). replays z x) grown next)) (λ no. absurd (cc no))
            (λ i ne. of_worker-append_none i r.history es (none_else id i es own' ne)) (λ seen p. prefix_of_more seen r.history es p)
            (λ i t' ne o lo hi f. let far : t' ≢ r.now = λ e. ne (sym o ∙ (ap r.owner (e ∙ sym k.2) ∙ k.1)) in (o, omega arith, hi, λ _. refl))
            (λ i t' ne o is hi held. absurd (ne (sym o ∙ (ap r.owner (is ∙ sym k.2) ∙ k.1))))
            (k.0.0, subst (λ (z : List Entry). IsPrefix z h') (sym grown) (prefix_of_itself h'), of_worker-append id r.history es ∙ ap₂ (λ (a b : List Entry). a ++ b) k.0.2 own', of_worker-append id v.seen es ∙ ap₂ (λ (a b : List Entry). a ++ b) k.0.3 own'),
        (refl, ap rest carried),
      )

  -- pass 0 makes another
  pub parts : (id : ℕ) (v : View) → v.stage ≡ Idle → v.joined ≡ [] → 0 < v.made → v.made < 64 → Splits Rule id v (one_more v) (newcomer_of v)
  parts id v idle none_joined first few s r at =
      let k : Common r.history r.drawn r.now r.held r.owner id v = knows s r id v Idle at idle in
      let w : View = one_more v in let vs : List View = set s.views id w in let n : ℕ = length s.views in let new : View = newcomer_of v in
      let c = r.chief id v at first in let here : id ≡ 0 = c.0 in let made : v.made ≡ n = c.1.0 in
      let long : length vs ≡ n = length-set s.views id w in
      let bv : busy v ≡ 0 = ap busy_at idle in
      let all : length (vs ++ new ∷ []) ≡ n + 1 = length-append vs (new ∷ []) ∙ ap (λ (z : ℕ). z + 1) long in
      let nothing : of_worker n r.history ≡ [] = r.fresh n (omega arith) in
      let K : ℕ → View → Type 0 = λ i u. Knows r.history r.drawn r.now r.held r.owner i u u.stage in
      let C : ℕ → View → Type 0 = λ i u. 0 < u.made → (i ≡ 0) × Chief r.history (vs ++ new ∷ []) u in record {
        history = r.history;
        drawn = r.drawn;
        now = r.now;
        held = r.held;
        owner = r.owner;
        words_are = r.words_are;
        line = let a = total-set busy s.views id v w at in let b = total-append busy vs (new ∷ []) in let l = r.line in omega arith;
        few = omega arith;
        home = r.home;
        holder = λ h. let g = holder_else r.now s.views id v w at (λ g. subst IsHolding idle g) (r.holder h) in (g.0, g.1, at_longer vs (new ∷ []) g.0 g.1 g.2, g.3);
        fresh = λ i l. r.fresh i (omega arith);
        chief = λ i u e. ⊎_elim
            (seats_stay C s.views id w (λ _. (here, (ap (λ (z : ℕ). z + 1) made ∙ sym all, λ k l. absurd (let z : length v.joined ≡ 0 = ap length none_joined in omega arith))))
            (λ i u ne e positive. absurd (ne (let z = (r.chief i u e positive).0 in omega arith))) i u)
            (λ (t : (i ≡ length vs) × (new ≡ u)) (positive : 0 < u.made). absurd (let z : 0 ≡ u.made = ap (λ (z : View). z.made) t.1 in let y : ⊥ = omega arith in y))
            (at_end vs new u i e);
        each_seat = λ j d e. ⊎_elim
            (seats_stay K s.views id w (subst (λ (z : Stage). Knows r.history r.drawn r.now r.held r.owner id w z) (sym idle) k) (λ i u _. r.each_seat i u) j d)
            (λ (t : (j ≡ length vs) × (new ≡ d)). subst (λ (z : View). K j z) t.1
            (made ∙ (sym long ∙ sym t.0), (r.history, refl), subst (λ (z : ℕ). of_worker z r.history ≡ []) (sym long ∙ sym t.0) nothing, refl))
            (at_end vs new d j e);
      }

  -- pass 0 takes in the next one
  pub gathers : (id : ℕ) (v : View) (other : ℕ) (w : View) → v.stage ≡ Idle → 0 < v.made → w.stage ≡ Idle → w.number ≡ length v.joined + 1 → Joins Rule id v other w (taken_in v w) spent
  gathers id v other w idle first idle' next s r at apart there =
      let k : Common r.history r.drawn r.now r.held r.owner id v = knows s r id v Idle at idle in
      let v' : View = taken_in v w in let vs : List View = set s.views id v' in let vs' : List View = set vs other spent in
      let was : get_elem? s.views other ≡ some w = sym (set_else s.views id other v' apart) ∙ there in
      let k' : Common r.history r.drawn r.now r.held r.owner other w = knows s r other w Idle was idle' in
      let c = r.chief id v at first in let here : id ≡ 0 = c.0 in
      let place : other ≡ length v.joined + 1 = sym k'.0 ∙ next in
      let long : length vs' ≡ length s.views = length-set vs other spent ∙ length-set s.views id v' in
      let bv : busy v ≡ 0 = ap busy_at idle in let bw : busy w ≡ 0 = ap busy_at idle' in
      let K : ℕ → View → Type 0 = λ i u. Knows r.history r.drawn r.now r.held r.owner i u u.stage in
      let C : ℕ → View → Type 0 = λ i u. 0 < u.made → (i ≡ 0) × Chief r.history vs' u in
      let went : get_elem? vs' other ≡ some spent = set_here vs other spent (within vs other w there) in record {
        history = r.history;
        drawn = r.drawn;
        now = r.now;
        held = r.held;
        owner = r.owner;
        words_are = r.words_are;
        line = let a = total-set busy s.views id v v' at in let b = total-set busy vs other w spent there in let l = r.line in omega arith;
        few = let a = r.few in omega arith;
        home = r.home;
        holder = λ h. holder_else r.now vs other w spent there (λ g. subst IsHolding idle' g) (holder_else r.now s.views id v v' at (λ g. subst IsHolding idle g) (r.holder h));
        fresh = λ i l. r.fresh i (omega arith);
        chief = seats_stay C vs other spent (λ positive. absurd (let y : 0 < 0 = positive in omega arith))
            (λ i u _. seats_stay C s.views id v'
            (λ _. (
              here,
              (
                c.1.0 ∙ sym long,
                took r.history s.views vs' v w c.1.1 (subst (λ (z : ℕ). get_elem? vs' z ≡ some spent) place went) (subst (λ (z : ℕ). Tells r.history z (taken_of w)) place (k'.2, k'.1))
                    (λ j l. set_else vs other (j + 1) spent (λ e. omega arith) ∙ set_else s.views id (j + 1) v' (λ e. omega arith)),
              ),
            ))
            (λ i u ne e positive. absurd (ne (let z = (r.chief i u e positive).0 in omega arith))) i u);
        each_seat = seats_stay K vs other spent tt
            (λ i u _. seats_stay K s.views id v' (subst (λ (z : Stage). Knows r.history r.drawn r.now r.held r.owner id v' z) (sym idle) k) (λ i u _. r.each_seat i u) i u);
      }
    where
      took : (h : List Entry) (vs vs' : List View) (v w : View)
          → ((k : ℕ) → k < length v.joined → (get_elem? vs (k + 1) ≡ some spent) × Tells h (k + 1) (get_or v.joined k nothing_taken))
          → get_elem? vs' (length v.joined + 1) ≡ some spent → Tells h (length v.joined + 1) (taken_of w)
          → ((j : ℕ) → j < length v.joined → get_elem? vs' (j + 1) ≡ get_elem? vs (j + 1))
          → (k : ℕ) → k < length (v.joined ++ taken_of w ∷ []) → (get_elem? vs' (k + 1) ≡ some spent) × Tells h (k + 1) (get_or (v.joined ++ taken_of w ∷ []) k nothing_taken)
      took h vs vs' v w old went own same k l = let all = length-append v.joined (taken_of w ∷ []) in dite (ℕ_discrete k (length v.joined))
          (λ e. (
            subst (λ (z : ℕ). get_elem? vs' (z + 1) ≡ some spent) (sym e) went,
            subst (λ (z : ℕ × Taken). Tells h (z.0 + 1) z.1) (λ i. (sym e i, sym (or_last v.joined (taken_of w) nothing_taken k e) i)) own,
          ))
          (λ ne. let before : k < length v.joined = omega arith in let f = old k before in
          (same k before ∙ f.0, subst (λ (z : Taken). Tells h (k + 1) z) (sym (or_before v.joined (taken_of w) nothing_taken k before)) f.1))

  pub starts : (n : ℕ) (x : O) → n < 2 ^ 64 → replays [] x → Rule (opening (n ∷ n ∷ []) (x ∷ []) (founder 1))
  starts n x fits h = record {
    history = [];
    drawn = n;
    now = n;
    held = false;
    owner = λ _. 0;
    words_are = ap (λ (k : ℕ). k ∷ k ∷ []) (let small : n ≡ n % 2 ^ 64 = omega arith in small);
    line = omega arith;
    few = omega arith;
    home = λ _. (x, refl, h);
    holder = λ e. absurd (cc e);
    fresh = λ k l. refl;
    chief = λ j v e positive. ⊎_elim (λ (t : get_elem? [] j ≡ some v). absurd (some-ne-none v (sym t)))
        (λ (t : (j ≡ 0) × (founder 1 ≡ v)). (t.0, subst (λ (z : View). Chief [] (founder 1 ∷ []) z) t.1 (refl, λ k l. absurd (omega arith))))
        (at_end [] (founder 1) v j e);
    each_seat = λ j v e. ⊎_elim (λ (t : get_elem? [] j ≡ some v). absurd (some-ne-none v (sym t)))
        (λ (t : (j ≡ 0) × (founder 1 ≡ v)). subst (λ (z : View). Knows [] n n false (λ _. 0) j z z.stage) t.1 (sym t.0, ([], refl), refl, refl))
        (at_end [] (founder 1) v j e);
  }

  -- once pass 0 has taken in all others and waits for nothing, no pass has the object
  nobody : (s : St) (r : Rule s) (v : View) → get_elem? s.views 0 ≡ some v → Chief r.history s.views v → length v.joined + 1 ≡ v.made → v.stage ≡ Idle → Holder r.now s.views → ⊥
  nobody s r v at c all idle g = let inside = within s.views g.0 g.1 g.2 in let made = c.0 in none_at g.0 g.1 g.2 g.3 inside
    where
      none_at : (j : ℕ) (u : View) → get_elem? s.views j ≡ some u → u.stage ≡ Holding r.now → j < length s.views → ⊥
      none_at zero u e holds inside = subst IsHolding (sym holds ∙ (ap (λ (z : View). z.stage) (some-injective u v (sym e ∙ at)) ∙ idle)) tt
      none_at (suc k) u e holds inside = let made = c.0 in let f = c.1 k (omega arith) in let is : k + 1 ≡ suc k = omega arith in
          subst IsHolding (sym holds ∙ ap (λ (z : View). z.stage) (some-injective u spent (sym e ∙ (ap (λ (z : ℕ). get_elem? s.views z) (sym is) ∙ f.0)))) tt

  -- what is known at the end, when pass 0 has taken in all others
  pub ends : (id : ℕ) (v : View) (ws : List ℕ) (xs : List O) → Final (Seen Rule id v) ws xs → v.stage ≡ Idle → length v.joined + 1 ≡ v.made
      → (x : O) × (log : List Entry) × (get_elem? xs 0 ≡ some x) × replays log x × Tells log 0 (taken_of v)
      × ((k : ℕ) → k < length v.joined → Tells log (k + 1) (get_or v.joined k nothing_taken)) × ((k : ℕ) → v.made ≤ k → of_worker k log ≡ [])
  ends id v ws xs final idle all =
      let s = final.0 in let r : Rule s = final.1.0 in let at : get_elem? s.views id ≡ some v = final.1.1 in
      let k : Common r.history r.drawn r.now r.held r.owner id v = knows s r id v Idle at idle in
      let c = r.chief id v at (omega arith) in let at0 : get_elem? s.views 0 ≡ some v = subst (λ (z : ℕ). get_elem? s.views z ≡ some v) c.0 at in
      let free : r.held ≡ false = is_false r.held (λ h. nobody s r v at0 c.1 all idle (r.holder h)) in
      let h = r.home free in (
        h.0,
        r.history,
        final.4 0 h.0 (home_at s.homes (some h.0) h.1),
        h.2,
        subst (λ (z : ℕ). Tells r.history z (taken_of v)) c.0 (k.2, k.1),
        (λ i l. (c.1.1 i l).1),
        λ i l. r.fresh i (let b = c.1.0 in omega arith),
      )
