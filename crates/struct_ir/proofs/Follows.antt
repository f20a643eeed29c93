-- Code that follows another, but for marks, mirrors it on each machine for which marks are idle, and is as safe for moves.
use Rattle.std.proofs.Common.{◌≡◌, ℕ, zero, suc, ◌<◌, List, [], ◌∷◌, Bool, true, refl, sym, ap, subst, ◌∙◌, arith}
use Rattle.struct_ir.specs.Nodes.{Act, set, call, step, look, safepoint, begin_object, end_object}
use Rattle.struct_ir.specs.Flow.{Here, does, tests, passes, round, returns, GoesOn, Stays, Flow, Shrinks, Path, entry, on}
use Rattle.struct_ir.specs.Machine.{Machine, goes, stopped_or, after_act, ahead_at}
use Rattle.struct_ir.specs.Mirrors.{Both, IsIdle, Match, both, first, IsMirror}
use Rattle.struct_ir.specs.Marks.{is_lifetime_mark, LifetimeMarksAreIdle, IsUnseen, FollowsAt, both_go, first_goes, Follows}
use Rattle.struct_ir.specs.Pins.{passing, doing, facts, IsPinned, PinSafe}

-- ---- machines

module _ {P L F : Type 0} (C : Flow P) (M : Machine L F) (idle : LifetimeMarksAreIdle M) (k : P) where
  unseen_ahead : (h : Here) → IsUnseen h → (l : L) → ahead_at C M (record { at = k; own = l }) h ≡ goes (record { at = C.next k true; own = l })
  unseen_ahead (does place a) u l =
      let i = idle a u in
      ap (λ (s : Bool). stopped_or s (after_act (C.next k true) (M.does place a l))) i.0 ∙ ap (after_act (C.next k true)) (i.1 place l)
  unseen_ahead (tests place temp) u l = absurd u
  unseen_ahead passes u l = refl
  unseen_ahead round u l = absurd u
  unseen_ahead (returns temp) u l = absurd u

  pub unseen_idle : IsUnseen (C.here k) → IsIdle C M k
  unseen_idle u l = unseen_ahead (C.here k) u l

pub follows_mirrors : {P Q L F : Type 0} (C : Flow P) (D : Flow Q) (M : Machine L F) (R : P → Q → Type 0) → LifetimeMarksAreIdle M → Follows C D R → IsMirror C D M R
follows_mirrors C D M R idle follows k j r = go (follows k j r)
  where
    go : FollowsAt C D R k j → Match C D M R k j
    go (both_go b) = both b
    go (first_goes u r') = first (unseen_idle C M idle k u) (r' true)

-- ---- pins

unseen_stays : (h : Here) → IsUnseen h → Stays h
unseen_stays (does place a) u = tt
unseen_stays (tests place temp) u = absurd u
unseen_stays passes u = tt
unseen_stays round u = absurd u
unseen_stays (returns temp) u = absurd u

unseen_goes : (h : Here) → IsUnseen h → GoesOn h
unseen_goes (does place a) u = tt
unseen_goes (tests place temp) u = absurd u
unseen_goes passes u = tt
unseen_goes round u = absurd u
unseen_goes (returns temp) u = absurd u

module _ (s : ℕ) where
  mark_does : (a : Act) → is_lifetime_mark a ≡ true → (f : _) → doing s a f ≡ f
  mark_does (set to calc) e f = absurd cc
  mark_does (call c) e f = absurd cc
  mark_does (step x) e f = absurd cc
  mark_does (look slot base) e f = absurd cc
  mark_does (safepoint slots) e f = absurd cc
  mark_does (begin_object i) e f = refl
  mark_does (end_object i) e f = refl

  unseen_passes : (h : Here) → IsUnseen h → (f : _) → passing s h f ≡ f
  unseen_passes (does place a) u f = mark_does a u f
  unseen_passes (tests place temp) u f = absurd u
  unseen_passes passes u f = refl
  unseen_passes round u f = absurd u
  unseen_passes (returns temp) u f = absurd u

module _ {P Q : Type 0} (C : Flow P) (c_shrinks : Shrinks C) (D : Flow Q) (R : P → Q → Type 0) (follows : Follows C D R) (k0 : P) (j0 : Q) (r0 : R k0 j0) where
  -- a path of the first that has passed what one of the second has
  record Beside (v : List Q) (j : Q) : Type 0 where
    way : List P
    at : P
    path : Path C k0 way at
    level : R at j
    facts : (s : ℕ) → facts D s v ≡ facts C s way

  -- the first comes to where the same stands
  record Caught (v : List Q) (j : Q) : Type 0 where
    beside : Beside v j
    same : Both C D R beside.at j

  catch : (n : ℕ) (v : List Q) (j : Q) (b : Beside v j) → C.size b.at < n → FollowsAt C D R b.at j → Caught v j
  catch zero v j b le m = absurd (omega arith)
  catch (suc n) v j b le (both_go m) = record { beside = b; same = m }
  catch (suc n) v j b le (first_goes u r) =
      let h = c_shrinks b.at true (unseen_goes (C.here b.at) u) in
      let b' : Beside v j = record {
        way = b.at ∷ b.way;
        at = C.next b.at true;
        path = on b.way b.at true (unseen_stays (C.here b.at) u) b.path;
        level = r true;
        facts = λ s. b.facts s ∙ sym (unseen_passes s (C.here b.at) u (facts C s b.way));
      } in
      catch n v j b' (omega arith) (follows (C.next b.at true) j (r true))

  catch_up : (v : List Q) (j : Q) → Beside v j → Caught v j
  catch_up v j b = catch (suc (C.size b.at)) v j b (omega arith) (follows b.at j b.level)

  go_on : (v : List Q) (j : Q) (c : Bool) → Stays (D.here j) → Caught v j → Beside (j ∷ v) (D.next j c)
  go_on v j c stays x =
      let b = x.beside in
      let m = x.same in
      record {
        way = b.at ∷ b.way;
        at = C.next b.at c;
        path = on b.way b.at c (subst Stays m.here stays) b.path;
        level = m.next (subst Stays m.here stays) c;
        facts = λ s. ap (λ (h : Here). passing s h (facts D s v)) m.here ∙ ap (passing s (C.here b.at)) (b.facts s);
      }

  beside : (v : List Q) (j : Q) → Path D j0 v j → Beside v j
  beside _ _ entry = record { way = []; at = k0; path = entry; level = r0; facts = λ s. refl }
  beside _ _ (on v j c s before) = go_on v j c s (catch_up v j (beside v j before))

  pinned_at : (safe : PinSafe C k0) (v : List Q) (j : Q) (place : ℕ) (act : Act) → D.here j ≡ does place act → Caught v j → IsPinned D v act
  pinned_at safe v j place act e x =
      let b = x.beside in
      let p : IsPinned C b.way act = safe.each b.way b.at b.path place act (sym x.same.here ∙ e) in
      λ a i. let q = p a i in record { slot = q.slot; named = q.named; looked_for = b.facts q.slot ∙ q.looked_for; held = q.held }

  pub follows_safe : PinSafe C k0 → PinSafe D j0
  follows_safe safe = record { each = λ v j path place act e. pinned_at safe v j place act e (catch_up v j (beside v j path)) }
