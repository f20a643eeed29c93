-- What the report says some path shows.
use Rattle.std.proofs.Common.{◌≡◌, ℕ, ◌≤◌, List, [], ◌∷◌, Option, Some, None, Bool, true, false, inl, inr, refl, sym, ap, subst, ◌∙◌, arith}
use Rattle.std.specs.Prelude.{not, is_none, ◌&&◌, ◌||◌, ◌==◌}
use Rattle.std.proofs.lemmas.Bool.{or_cases, or_right, and_parts}
use Rattle.struct_ir.specs.Nodes.{Place, Act, Node, plain, if_, loop, break_, next_, ret, Nodes, no_nodes, more_nodes, Func, Ir, places_of, list_of, node_place}
use Rattle.struct_ir.specs.Flow.{does, Path, entry}
use Rattle.struct_ir.specs.Structured.{Position, done, then_, in_body, in_latch, here, structured}
use Rattle.struct_ir.specs.Pins.{Fact, unlooked, looked, facts, lacks_if, held_by, is_fresh, Among}
use Rattle.struct_ir.specs.Valid.{Scope, Around, body_of, latch_of, outside, scope_of, list_at}
use Rattle.pin_flow.specs.Looks.{Uses}
use Rattle.pin_flow.specs.Marks.{Mark, IsFair, AllPaths, unreached, good, bad, state_of, answer_from, flow, flow_node, head_of, end_state}
use Rattle.pin_flow.specs.Held.{held, filled, filled_for, fresh, pinned}
use Rattle.pin_flow.specs.Live.{uses}
use Rattle.pin_flow.proofs.Real.{Seen, row_seen, node_seen, seen_on, loop_seen}
use Rattle.pin_flow.proofs.Fresh.{fresh_answer, fresh_fair, held_fair}
use Rattle.pin_flow.proofs.Live.{has_among}
use Rattle.pin_flow.proofs.Strip.{by_bool}
use Rattle.pin_checker.specs.declared.fault.Why.{Why}
use Rattle.pin_checker.specs.declared.fault.Why.TheVariants.{BadTemp, NoLook, StaleLook, NotPinned}
use Rattle.pin_checker.specs.declared.fault.Fault.{Fault}
use Rattle.pin_checker.specs.declared.pair.Pair.{Pair}
use Rattle.pin_checker.specs.Faults.{is_sound, Invalid, InvalidIn, fails, fails_through, Unsafe, rank, FailsAmong}
use Rattle.pin_checker.specs.inner.Reports.{Search, noted, is_bad, is_good, has_bare, for_other, for_none, for_stale, for_lacking, for_bare, report, report_node, report_all, report_invalid, report_invalid_in, pairs_of, report_pair, report_pairs, report_func, report_funcs}
use Rattle.pin_flow.proofs.Pinned.{is_pinned, pinned_answer, pinned_fair}
use Rattle.pin_checker.proofs.Facts.{suits, is_looked, suits_answer, looked_answer, filled_for_fair, filled_fair}
use Rattle.pin_checker.proofs.Order.{made, earlier_one}
use Rattle.pin_checker.proofs.Sound.{own_is}

-- ---- an access that fails for a reason, or for an earlier one

abbrev pub OneOf : (base : ℕ) (out : Bool) → Fact → Why → Type 0
OneOf base out f why = (v : Why) × (rank v ≤ rank why) × (fails base out f v ≡ true)

other_shows : (b : ℕ) (out : Bool) (f : Fact) → suits b f ≡ false → OneOf b out f BadTemp
other_shows b out unlooked e = absurd cc
other_shows b out (looked c stale lacked) e = (BadTemp, omega arith, rw e refl)

none_shows : (b : ℕ) (out : Bool) (f : Fact) → is_looked f ≡ false → OneOf b out f NoLook
none_shows b out unlooked e = (NoLook, omega arith, refl)
none_shows b out (looked c stale lacked) e = absurd cc

stale_shows : (b : ℕ) (out : Bool) (f : Fact) → is_fresh b f ≡ false → OneOf b out f StaleLook
stale_shows b out unlooked e = (NoLook, omega arith, refl)
stale_shows b out (looked c true lacked) e = by_bool (λ x. OneOf b out (looked c true lacked) StaleLook) (c == b) (λ g. (StaleLook, omega arith, rw g refl)) (λ g. (BadTemp, omega arith, rw g refl))
stale_shows b out (looked c false lacked) e = by_bool (λ x. OneOf b out (looked c false lacked) StaleLook) (c == b) (λ g. absurd (let y = rw g at e in cc)) (λ g. (BadTemp, omega arith, rw g refl))

lacking_shows : (b : ℕ) (out : Bool) (f : Fact) → is_pinned b f ≡ false → OneOf b out f NotPinned
lacking_shows b out unlooked e = (NoLook, omega arith, refl)
lacking_shows b out (looked c true lacked) e = by_bool (λ x. OneOf b out (looked c true lacked) NotPinned) (c == b) (λ g. (StaleLook, omega arith, rw g refl)) (λ g. (BadTemp, omega arith, rw g refl))
lacking_shows b out (looked c false true) e = (NotPinned, omega arith, refl)
lacking_shows b out (looked c false false) e = by_bool (λ x. OneOf b out (looked c false false) NotPinned) (c == b) (λ g. absurd (let y = rw g at e in cc)) (λ g. (BadTemp, omega arith, rw g refl))

out_shows : (b : ℕ) (out : Bool) (f : Fact) → out ≡ true → OneOf b out f NotPinned
out_shows b out unlooked e = (NotPinned, omega arith, e)
out_shows b out (looked c stale lacked) e = (NotPinned, omega arith, or_right lacked out e)

-- an access through a slot that fails behind a path
pub blamed : (ns : Nodes) (w : List Position) (k : Position) → Path structured (then_ ns done) w k → (p : ℕ) (a : Act) → here k ≡ does p a → (slot b : ℕ) → Uses slot b a → (why : Why)
    → fails b (lacks_if slot (held_by a)) (facts structured slot w) why ≡ true → Unsafe ns p why
blamed ns w k path p a h slot b u why e =
    let f : fails u.0.base (lacks_if slot (held_by a)) (facts structured slot w) why ≡ true = subst (λ c. fails c (lacks_if slot (held_by a)) (facts structured slot w) why ≡ true) (sym u.2) e in
    let g : fails_through structured w a u.0.base u.0.slot why ≡ true = subst (λ o. fails_through structured w a u.0.base o why ≡ true) (sym u.3) f in
    record { way = w; at = k; path = path; act = a; here = h; access = u.0; among = u.1; fails = g }

bare_among : (list : List Place) → has_bare list ≡ true → (a : Place) × Among list a × (a.slot ≡ None)
bare_among [] e = absurd cc
bare_among (a ∷ rest) e = elim (or_cases (is_none a.slot) (has_bare rest) e) [ inl i ↦ (a, inl refl, none_is a.slot i) | inr i ↦ (let x = bare_among rest i in (x.0, inr x.1, x.2)) ]
  where
    none_is : (o : Option ℕ) → is_none o ≡ true → o ≡ None
    none_is None e = refl
    none_is (Some s) e = absurd cc

bare_blamed : (ns : Nodes) (w : List Position) (k : Position) → Path structured (then_ ns done) w k → (p : ℕ) (a : Act) → here k ≡ does p a → has_bare (places_of a) ≡ true → Unsafe ns p NoLook
bare_blamed ns w k path p a h e =
    let x = bare_among (places_of a) e in
    record { way = w; at = k; path = path; act = a; here = h; access = x.0; among = x.1; fails = subst (λ o. fails_through structured w a x.0.base o NoLook ≡ true) (sym x.2) refl }

start_seen : (v : Bool) (m : Mark) (fair : IsFair m) (ns : Nodes) → Seen v m fair (then_ ns done) (then_ ns done) (state_of v)
start_seen true m fair ns = ([], entry)
start_seen false m fair ns = ([], entry, refl)

-- ---- what is shown

module _ (F : ℕ → Why → Type 0) where
  -- F holds of the place and of the reason or an earlier one
  abbrev pub IsShown : ℕ → Why → Type 0
  IsShown place why = (v : Why) × (rank v ≤ rank why) × F place v

  abbrev pub AreShown : Option Fault → Type 0
  AreShown None = Unit {0}
  AreShown (Some f) = IsShown f.place f.why

  noted_shown : (is : Bool) (place : ℕ) (why : Why) (best : Option Fault) → AreShown best → (is ≡ true → IsShown place why) → AreShown (noted is place why best)
  noted_shown true place why best r f = earlier_one AreShown (made place why) best (f refl) r
  noted_shown false place why best r f = r

  -- ---- accesses

  module _ (s : Search) (fair : IsFair s.mark) (start : Position) (shows : (p : ℕ) (a : Act) (t : AllPaths) (k : Position) → here k ≡ does p a → Seen s.start s.mark fair start k t → s.blames a t ≡ true → IsShown p s.why) where
    mutual
      unfolding report report_node

      report_shown : (ns : Nodes) (k : Position) (t : AllPaths) (best : Option Fault) → Seen s.start s.mark fair start (then_ ns k) t → AreShown best → AreShown (report s ns t best)
      report_shown no_nodes k t best z r = r
      report_shown (more_nodes n rest) k t best z r =
          report_shown rest k (flow_node s.mark n t).on (report_node s n t best) ((node_seen s.start s.mark fair start n rest k t z).on) (node_shown n rest k t best z r)

      node_shown : (n : Node) (rest : Nodes) (k : Position) (t : AllPaths) (best : Option Fault) → Seen s.start s.mark fair start (then_ (more_nodes n rest) k) t → AreShown best → AreShown (report_node s n t best)
      node_shown (plain p a) rest k t best z r = noted_shown (s.blames a t) p s.why best r (λ e. shows p a t (then_ (more_nodes (plain p a) rest) k) refl z e)
      node_shown (if_ p x one other) rest k t best z r =
          let n = if_ p x one other in
          let y = seen_on s.start s.mark fair start (then_ (more_nodes n rest) k) true tt (λ v. refl) t z in
          let y' = seen_on s.start s.mark fair start (then_ (more_nodes n rest) k) false tt (λ v. refl) t z in
          report_shown other (then_ rest k) t (report s one t best) y' (report_shown one (then_ rest k) t best y r)
      node_shown (loop p body latch) rest k t best z r =
          let l = loop_seen s.start s.mark fair start body latch (then_ rest k) (row_seen s.start s.mark fair start body _) (row_seen s.start s.mark fair start latch _) t (seen_on s.start s.mark fair start (then_ (more_nodes (loop p body latch) rest) k) true tt (λ v. refl) t z) in
          let u = head_of (flow s.mark body) (flow s.mark latch) t in
          report_shown latch (in_latch body latch (then_ rest k)) (end_state (flow s.mark body u)) (report s body u best) l.end (report_shown body (in_body body latch (then_ rest k)) u best l.head r)
      node_shown (break_ p) rest k t best z r = r
      node_shown (next_ p) rest k t best z r = r
      node_shown (ret p x) rest k t best z r = r

  module _ (ns : Nodes) (into : (place : ℕ) (why : Why) → Unsafe ns place why → F place why) where
    all_shown : (s : Search) (fair : IsFair s.mark) → ((p : ℕ) (a : Act) (t : AllPaths) (k : Position) → here k ≡ does p a → Seen s.start s.mark fair (then_ ns done) k t → s.blames a t ≡ true → IsShown p s.why)
        → (best : Option Fault) → AreShown best → AreShown (report_all s ns best)
    all_shown s fair shows best r = report_shown s fair (then_ ns done) shows ns done (state_of s.start) best (start_seen s.start s.mark fair ns) r

    -- an access of the pair in a bad state
    module _ (m : Mark) (fair : IsFair m) (v : Bool) (why : Why) (q : Pair) (yes : Fact → Bool) (says : (w : List Position) → yes (facts structured q.slot w) ≡ answer_from structured m v w)
        (reason : (out : Bool) (f : Fact) → yes f ≡ false → OneOf q.base out f why) where
      bad_shown : (p : ℕ) (a : Act) (t : AllPaths) (k : Position) → here k ≡ does p a → Seen v m fair (then_ ns done) k t → uses q.slot q.base a ≡ true → is_bad t ≡ true → IsShown p why
      bad_shown p a unreached k h z u b = absurd cc
      bad_shown p a good k h z u b = absurd cc
      bad_shown p a bad k h z u b =
          let x = reason (lacks_if q.slot (held_by a)) (facts structured q.slot z.0) (says z.0 ∙ z.2) in
          (x.0, x.1, into p x.0 (blamed ns z.0 k z.1 p a h q.slot q.base (has_among q.slot q.base a u) x.0 x.2))

      bad_only : (p : ℕ) (a : Act) (t : AllPaths) (k : Position) → here k ≡ does p a → Seen v m fair (then_ ns done) k t → (uses q.slot q.base a && is_bad t) ≡ true → IsShown p why
      bad_only p a t k h z e = let x = and_parts (uses q.slot q.base a) (is_bad t) e in bad_shown p a t k h z x.0 x.1

    good_shown : (q : Pair) (m : Mark) (fair : IsFair m) (v : Bool) (p : ℕ) (a : Act) (t : AllPaths) (k : Position) → here k ≡ does p a → Seen v m fair (then_ ns done) k t → uses q.slot q.base a ≡ true
        → (lacks_if q.slot (list_of a) && is_good t) ≡ true → IsShown p NotPinned
    good_shown q m fair v p a t k h z u e = let x = and_parts (lacks_if q.slot (list_of a)) (is_good t) e in by_state t z x.0 x.1
      where
        by_state : (t : AllPaths) → Seen v m fair (then_ ns done) k t → lacks_if q.slot (list_of a) ≡ true → is_good t ≡ true → IsShown p NotPinned
        by_state unreached z o g = absurd cc
        by_state bad z o g = absurd cc
        by_state good z o g =
            let y = out_shows q.base (lacks_if q.slot (held_by a)) (facts structured q.slot z.0) (ap (lacks_if q.slot) (own_is q.slot q.base a u) ∙ o) in
            (y.0, y.1, into p y.0 (blamed ns z.0 k z.1 p a h q.slot q.base (has_among q.slot q.base a u) y.0 y.2))

    lacking_only : (q : Pair) (p : ℕ) (a : Act) (t : AllPaths) (k : Position) → here k ≡ does p a → Seen false (pinned q.slot q.base) (pinned_fair q.slot q.base) (then_ ns done) k t
        → (for_lacking q).blames a t ≡ true → IsShown p NotPinned
    lacking_only q p a t k h z e =
        let x = and_parts (uses q.slot q.base a) (is_bad t || (lacks_if q.slot (list_of a) && is_good t)) e in
        elim (or_cases (is_bad t) (lacks_if q.slot (list_of a) && is_good t) x.1) [
          | inl i ↦ bad_shown (pinned q.slot q.base) (pinned_fair q.slot q.base) false NotPinned q (is_pinned q.base) (pinned_answer structured q.slot q.base) (lacking_shows q.base) p a t k h z x.0 i
          | inr i ↦ good_shown q (pinned q.slot q.base) (pinned_fair q.slot q.base) false p a t k h z x.0 i
        ]

    bare_only : (p : ℕ) (a : Act) (t : AllPaths) (k : Position) → here k ≡ does p a → Seen false (held 0) (held_fair 0) (then_ ns done) k t → for_bare.blames a t ≡ true → IsShown p NoLook
    bare_only p a unreached k h z e = let x = and_parts (has_bare (places_of a)) false e in absurd (let y = x.1 in cc)
    bare_only p a good k h z e = let x = and_parts (has_bare (places_of a)) true e in (NoLook, omega arith, into p NoLook (bare_blamed ns z.0 k z.1 p a h x.0))
    bare_only p a bad k h z e = let x = and_parts (has_bare (places_of a)) true e in (NoLook, omega arith, into p NoLook (bare_blamed ns z.0 k z.1 p a h x.0))

    pair_shown : (q : Pair) (best : Option Fault) → AreShown best → AreShown (report_pair ns q best)
    pair_shown q best r =
        let o = all_shown (for_other q) (filled_for_fair q.slot q.base) (bad_only (filled_for q.slot q.base) (filled_for_fair q.slot q.base) true BadTemp q (suits q.base) (suits_answer structured q.slot q.base) (other_shows q.base)) best r in
        let n = all_shown (for_none q) (filled_fair q.slot) (bad_only (filled q.slot) (filled_fair q.slot) false NoLook q is_looked (looked_answer structured q.slot) (none_shows q.base)) _ o in
        let s = all_shown (for_stale q) (fresh_fair q.slot q.base) (bad_only (fresh q.slot q.base) (fresh_fair q.slot q.base) false StaleLook q (is_fresh q.base) (fresh_answer structured q.slot q.base) (stale_shows q.base)) _ n in
        all_shown (for_lacking q) (pinned_fair q.slot q.base) (lacking_only q) _ s

    pairs_shown : (list : List Pair) (best : Option Fault) → AreShown best → AreShown (report_pairs ns list best)
    pairs_shown [] best r = r
    pairs_shown (q ∷ rest) best r = pairs_shown rest (report_pair ns q best) (pair_shown q best r)

  -- ---- nodes that are not valid

  it_is : (v : Bool) → not v ≡ true → v ≡ false
  it_is true e = absurd cc
  it_is false e = refl

  mutual
    unfolding report_invalid report_invalid_in

    invalid_shown : (x : Scope) (around : Around) (before : Option (List ℕ)) (ns : Nodes) → ((place : ℕ) → Invalid x around before ns place → F place BadTemp) → (best : Option Fault) → AreShown best → AreShown (report_invalid x around before ns best)
    invalid_shown x around before no_nodes into best r = r
    invalid_shown x around before (more_nodes n rest) into best r =
        let v = noted_shown (not (is_sound x around before n rest)) (node_place n) BadTemp best r (λ e. (BadTemp, omega arith, into (node_place n) (inl (refl, it_is _ e)))) in
        invalid_shown x around (list_at n) rest (λ place i. into place (inr (inr i))) _ (invalid_in_shown x around n (λ place i. into place (inr (inl i))) _ v)

    invalid_in_shown : (x : Scope) (around : Around) (n : Node) → ((place : ℕ) → InvalidIn x around n place → F place BadTemp) → (best : Option Fault) → AreShown best → AreShown (report_invalid_in x around n best)
    invalid_in_shown x around (plain p a) into best r = r
    invalid_in_shown x around (if_ p y one other) into best r = invalid_shown x around None other (λ place i. into place (inr i)) _ (invalid_shown x around None one (λ place i. into place (inl i)) best r)
    invalid_in_shown x around (loop p body latch) into best r = invalid_shown x latch_of None latch (λ place i. into place (inr i)) _ (invalid_shown x body_of None body (λ place i. into place (inl i)) best r)
    invalid_in_shown x around (break_ p) into best r = r
    invalid_in_shown x around (next_ p) into best r = r
    invalid_in_shown x around (ret p y) into best r = r

  -- ---- functions

  func_shown : (p : Ir) (f : Func) → ((place : ℕ) (why : Why) → Rattle.pin_checker.specs.Faults.FailsIn p f place why → F place why) → (best : Option Fault) → AreShown best → AreShown (report_func p f best)
  func_shown p f into best r =
      let unsafe : (place : ℕ) (why : Why) → Unsafe f.nodes place why → F place why = λ place why u. into place why (inr u) in
      let i = invalid_shown (scope_of p f) outside None f.nodes (λ place j. into place BadTemp (inl (refl, j))) best r in
      let b = all_shown f.nodes unsafe for_bare (held_fair 0) (bare_only f.nodes unsafe) _ i in
      pairs_shown f.nodes unsafe (pairs_of f.nodes []) _ b

  pub funcs_shown : (p : Ir) (fs : List Func) → ((place : ℕ) (why : Why) → FailsAmong p fs place why → F place why) → (best : Option Fault) → AreShown best → AreShown (report_funcs p fs best)
  funcs_shown p [] into best r = r
  funcs_shown p (f ∷ rest) into best r = funcs_shown p rest (λ place why i. into place why (inr i)) (report_func p f best) (func_shown p f (λ place why i. into place why (inl i)) best r)
