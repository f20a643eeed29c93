-- No fault is earlier than the report.
use Rattle.std.proofs.Common.{◌≡◌, ℕ, ◌≤◌, List, [], ◌∷◌, Option, Some, None, Bool, true, false, inl, inr, refl, sym, ap, subst, ◌∙◌, arith}
use Rattle.std.specs.Prelude.{is_none, ◌&&◌, ◌||◌, ◌==◌}
use Rattle.std.proofs.lemmas.Bool.{or_left, or_right, and_parts, and_from, not-true}
use Rattle.struct_ir.specs.Nodes.{Place, Act, set, call, step, look, safepoint, begin_object, end_object, Nodes, Func, Ir, places_of, list_of}
use Rattle.struct_ir.specs.Flow.{does, Path}
use Rattle.struct_ir.specs.Structured.{Position, done, then_, here, structured}
use Rattle.struct_ir.specs.Pins.{Fact, unlooked, looked, facts, lacks_if, held_by, is_fresh, Among}
use Rattle.pin_flow.specs.Marks.{IsFair, AllPaths, unreached, good, bad, state_of, answer_from}
use Rattle.pin_flow.specs.Held.{held, pinned}
use Rattle.pin_flow.specs.Live.{uses}
use Rattle.pin_flow.proofs.Order.{rank}
use Rattle.pin_flow.proofs.Sound.{each_holds, each_holds_at}
use Rattle.pin_flow.proofs.Fresh.{fresh_answer, fresh_fair, held_fair}
use Rattle.pin_flow.proofs.Live.{among_has}
use Rattle.pin_flow.proofs.Strip.{by_bool}
use Rattle.pin_checker.specs.declared.fault.Why.{Why}
use Rattle.pin_checker.specs.declared.fault.Why.TheVariants.{BadTemp, NoLook, StaleLook, NotPinned}
use Rattle.pin_checker.specs.declared.fault.Fault.{Fault}
use Rattle.pin_checker.specs.Faults.{fails, fails_through, Unsafe, FailsAmong}
use Rattle.pin_checker.specs.inner.Reports.{Search, is_bad, is_good, has_bare, for_other, for_none, for_stale, for_lacking, for_bare, pairs_of, report_func, report_funcs}
use Rattle.pin_flow.proofs.Pinned.{is_pinned, pinned_answer, pinned_fair}
use Rattle.pin_checker.proofs.Facts.{suits, is_looked, suits_answer, looked_answer, filled_for_fair, filled_fair}
use Rattle.pin_checker.proofs.Order.{made, AtMost}
use Rattle.pin_checker.proofs.Least.{Quiet, QuietAll, QuietPair, QuietFunc, func_least, placed_at}
use Rattle.pin_checker.proofs.Pairs.{pair, IsListed, all_listed}

-- ---- what fails in a state fails in a worse one

bad_mono : (x : Bool) (t u : AllPaths) → rank t ≤ rank u → (x && is_bad t) ≡ true → (x && is_bad u) ≡ true
bad_mono false t u le e = absurd cc
bad_mono true unreached u le e = absurd cc
bad_mono true good u le e = absurd cc
bad_mono true bad unreached le e = absurd (omega (arith, le))
bad_mono true bad good le e = absurd (omega (arith, le))
bad_mono true bad bad le e = refl

lacking_mono : (x o : Bool) (t u : AllPaths) → rank t ≤ rank u → (x && (is_bad t || (o && is_good t))) ≡ true → (x && (is_bad u || (o && is_good u))) ≡ true
lacking_mono false o t u le e = absurd cc
lacking_mono true true unreached u le e = absurd cc
lacking_mono true false unreached u le e = absurd cc
lacking_mono true false good u le e = absurd cc
lacking_mono true true good unreached le e = absurd (omega (arith, le))
lacking_mono true true good good le e = refl
lacking_mono true true good bad le e = refl
lacking_mono true o bad unreached le e = absurd (omega (arith, le))
lacking_mono true o bad good le e = absurd (omega (arith, le))
lacking_mono true o bad bad le e = refl

bare_mono : (x : Bool) (t u : AllPaths) → rank t ≤ rank u → (x && (is_bad t || is_good t)) ≡ true → (x && (is_bad u || is_good u)) ≡ true
bare_mono false t u le e = absurd cc
bare_mono true unreached u le e = absurd cc
bare_mono true good unreached le e = absurd (omega (arith, le))
bare_mono true good good le e = refl
bare_mono true good bad le e = refl
bare_mono true bad unreached le e = absurd (omega (arith, le))
bare_mono true bad good le e = absurd (omega (arith, le))
bare_mono true bad bad le e = refl

-- c is no later than an act that fails behind a path
quiet_path : (c : Option Fault) (s : Search) → IsFair s.mark → ((a : Act) (t u : AllPaths) → rank t ≤ rank u → s.blames a t ≡ true → s.blames a u ≡ true) → (ns : Nodes) → QuietAll c ns s
    → (w : List Position) (k : Position) → Path structured (then_ ns done) w k → (p : ℕ) (a : Act) → here k ≡ does p a → s.blames a (state_of (answer_from structured s.mark s.start w)) ≡ true → AtMost c (Some (made p s.why))
quiet_path c s fair mono ns q w k path p a h b =
    subst (λ n. AtMost c (Some (made n s.why))) (placed_at k p a h) (each_holds_at (Quiet c s) s.mark fair (λ x j t u le f e. f (mono x t u le e)) s.start ns q w k path p a h b)

-- ---- answers of paths behind which an access fails

state_bad : (v : Bool) → v ≡ false → is_bad (state_of v) ≡ true
state_bad true e = absurd cc
state_bad false e = refl

state_good : (v : Bool) → v ≡ true → is_good (state_of v) ≡ true
state_good true e = refl
state_good false e = absurd cc

some_state : (v : Bool) → (is_bad (state_of v) || is_good (state_of v)) ≡ true
some_state true = refl
some_state false = refl

other_no : (base : ℕ) (out : Bool) (f : Fact) → fails base out f BadTemp ≡ true → suits base f ≡ false
other_no base out unlooked e = absurd cc
other_no base out (looked b stale lacked) e = not-true (b == base) e

none_no : (base : ℕ) (out : Bool) (f : Fact) → fails base out f NoLook ≡ true → is_looked f ≡ false
none_no base out unlooked e = refl
none_no base out (looked b stale lacked) e = absurd cc

stale_no : (base : ℕ) (out : Bool) (f : Fact) → fails base out f StaleLook ≡ true → is_fresh base f ≡ false
stale_no base out unlooked e = absurd cc
stale_no base out (looked b stale lacked) e = let p = and_parts (b == base) stale e in rw (p.0, p.1) refl

lacking_out : (base : ℕ) (out : Bool) (f : Fact) → fails base out f NotPinned ≡ true → is_pinned base f ≡ true → out ≡ true
lacking_out base out unlooked e g = absurd cc
lacking_out base out (looked b true lacked) e g = let p = and_parts (b == base) false g in absurd (let x = p.1 in cc)
lacking_out base out (looked b false true) e g = let p = and_parts (b == base) false g in absurd (let x = p.1 in cc)
lacking_out base out (looked b false false) e g = e

-- a step that accesses has its own list alone
pub own_is : (slot b : ℕ) (a : Act) → uses slot b a ≡ true → held_by a ≡ list_of a
own_is slot b (step s) e = refl
own_is slot b (set to calc) e = absurd cc
own_is slot b (call c) e = absurd cc
own_is slot b (look s base) e = absurd cc
own_is slot b (safepoint slots) e = absurd cc
own_is slot b (begin_object i) e = absurd cc
own_is slot b (end_object i) e = absurd cc

among_bare : (list : List Place) (a : Place) → Among list a → a.slot ≡ None → has_bare list ≡ true
among_bare [] a i e = absurd i
among_bare (b ∷ rest) a (inl h) e = or_left _ _ (ap is_none (ap (λ (x : Place). x.slot) (sym h) ∙ e))
among_bare (b ∷ rest) a (inr i) e = or_right (is_none b.slot) _ (among_bare rest a i e)

-- ---- faults

-- c is no later than an access through a slot that fails behind a path
module _ (c : Option Fault) (p : Ir) (f : Func) (q : QuietFunc c p f) (w : List Position) (k : Position) (path : Path structured (then_ f.nodes done) w k) (place : ℕ) (act : Act) (h : here k ≡ does place act) where
  module _ (a : Place) (among : Among (places_of act) a) (slot : ℕ) (named : a.slot ≡ Some slot) where
    used : uses slot a.base act ≡ true
    used = among_has slot a.base act (a, among, refl, named)

    quiet : QuietPair c f.nodes (pair slot a.base)
    quiet = q.pairs (pair slot a.base) (each_holds (IsListed slot a.base (pairs_of f.nodes [])) (held 0) (held_fair 0) (λ x t u le e. e) f.nodes (all_listed slot a.base f.nodes bad) w k path place act h used)

    lacking_blames : fails a.base (lacks_if slot (held_by act)) (facts structured slot w) NotPinned ≡ true → (for_lacking (pair slot a.base)).blames act (state_of (answer_from structured (pinned slot a.base) false w)) ≡ true
    lacking_blames e =
        let v = answer_from structured (pinned slot a.base) false w in
        let says : is_pinned a.base (facts structured slot w) ≡ v = pinned_answer structured slot a.base w in
        let l : lacks_if slot (held_by act) ≡ lacks_if slot (list_of act) = ap (lacks_if slot) (own_is slot a.base act used) in
        and_from _ _ used (by_bool (λ x. (is_bad (state_of x) || (lacks_if slot (list_of act) && is_good (state_of x))) ≡ true) v
        (λ g. and_from _ _ (sym l ∙ lacking_out a.base _ (facts structured slot w) e (says ∙ g)) refl)
        (λ g. refl))

    some_least : (why : Why) → fails a.base (lacks_if slot (held_by act)) (facts structured slot w) why ≡ true → AtMost c (Some (made place why))
    some_least BadTemp e =
        quiet_path c (for_other (pair slot a.base)) (filled_for_fair slot a.base) (λ x t u. bad_mono (uses slot a.base x) t u) f.nodes (quiet.other) w k path place act h
        (and_from _ _ used (state_bad _ (sym (suits_answer structured slot a.base w) ∙ other_no a.base _ (facts structured slot w) e)))
    some_least NoLook e =
        quiet_path c (for_none (pair slot a.base)) (filled_fair slot) (λ x t u. bad_mono (uses slot a.base x) t u) f.nodes (quiet.none) w k path place act h
        (and_from _ _ used (state_bad _ (sym (looked_answer structured slot w) ∙ none_no a.base _ (facts structured slot w) e)))
    some_least StaleLook e =
        quiet_path c (for_stale (pair slot a.base)) (fresh_fair slot a.base) (λ x t u. bad_mono (uses slot a.base x) t u) f.nodes (quiet.stale) w k path place act h
        (and_from _ _ used (state_bad _ (sym (fresh_answer structured slot a.base w) ∙ stale_no a.base _ (facts structured slot w) e)))
    some_least NotPinned e =
        quiet_path c (for_lacking (pair slot a.base)) (pinned_fair slot a.base) (λ x t u. lacking_mono (uses slot a.base x) (lacks_if slot (list_of x)) t u) f.nodes (quiet.lacking) w k path place act h (lacking_blames e)

  -- or through none
  bare_least : (a : Place) → Among (places_of act) a → a.slot ≡ None → AtMost c (Some (made place NoLook))
  bare_least a among e =
      quiet_path c for_bare (held_fair 0) (λ x t u. bare_mono (has_bare (places_of x)) t u) f.nodes q.bare w k path place act h
      (and_from _ _ (among_bare (places_of act) a among e) (some_state (answer_from structured (held 0) false w)))

  slot_least : (a : Place) → Among (places_of act) a → (o : Option ℕ) → a.slot ≡ o → (why : Why) → fails_through structured w act a.base o why ≡ true → AtMost c (Some (made place why))
  slot_least a among (Some slot) named why e = some_least a among slot named why e
  slot_least a among None named BadTemp e = absurd cc
  slot_least a among None named NoLook e = bare_least a among named
  slot_least a among None named StaleLook e = absurd cc
  slot_least a among None named NotPinned e = absurd cc

unsafe_least : (c : Option Fault) (p : Ir) (f : Func) → QuietFunc c p f → (place : ℕ) (why : Why) → Unsafe f.nodes place why → AtMost c (Some (made place why))
unsafe_least c p f q place why u = slot_least c p f q u.way u.at u.path place u.act u.here u.access u.among u.access.slot refl why u.fails

pub funcs_least : (c : Option Fault) (p : Ir) (fs : List Func) (best : Option Fault) → AtMost c (report_funcs p fs best) → AtMost c best × ((place : ℕ) (why : Why) → FailsAmong p fs place why → AtMost c (Some (made place why)))
funcs_least c p [] best h = (h, λ place why i. absurd i)
funcs_least c p (f ∷ rest) best h =
    let y = funcs_least c p rest (report_func p f best) h in
    let x = func_least c p f best y.0 in (
      x.0,
      λ place why. elim [
        | inl (inl i) ↦ subst (λ v. AtMost c (Some (made place v))) (sym i.0) (x.1.invalid place i.1)
        | inl (inr u) ↦ unsafe_least c p f x.1 place why u
        | inr j ↦ y.1 place why j
      ],
    )
