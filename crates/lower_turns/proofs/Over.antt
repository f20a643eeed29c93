-- Objects that end once behind a loop: one that has ended before, or never began, counts nowhere.
use Rattle.std.proofs.Common.{◌≡◌, ℕ, zero, suc, ◌==◌, Bool, true, false, List, [], ◌∷◌, set, Option, Some, None, refl, sym, ap, subst, ◌∙◌, if◌then◌else◌}
use mathlib.Core.Path.{fun_ext}
use Rattle.block_store.specs.declared.values.Answer.{Answer}
use Rattle.block_store.specs.Actions.{World}
use Rattle.block_store.specs.Blocks.{Blocks}
use Rattle.struct_ir.specs.Nodes.{Nodes, Ir}
use Rattle.struct_ir.specs.Structured.{Position, then_}
use Rattle.struct_ir.specs.Machine.{Point}
use Rattle.struct_ir.specs.meaning.Blocks.{Own, set_at, without, object_ended}
use Rattle.lower_forms.specs.Forms.{ends, among, again}
use Rattle.lower_turns.proofs.Rooms.{same_object, among_first, among_later}
use Rattle.lower_turns.proofs.Registers.{set_here, set_there}
use Rattle.lower_turns.proofs.Objects.{by_same}
use Rattle.lower_turns.proofs.Steps.{onward, ends_object}
use Rattle.lower_turns.proofs.Setting.{objects_over}

-- ---- two objects end, in either order

set_two : {A : Type 0} (xs : List A) (c d : ℕ) (y : A) → set (set xs c y) d y ≡ set (set xs d y) c y
set_two [] c d y = refl
set_two (x ∷ xs) zero zero y = refl
set_two (x ∷ xs) zero (suc d) y = refl
set_two (x ∷ xs) (suc c) zero y = refl
set_two (x ∷ xs) (suc c) (suc d) y = ap (λ zs. x ∷ zs) (set_two xs c d y)

without_two : (b : Blocks) (x y : Option ℕ) → without (without b x) y ≡ without (without b y) x
without_two b None None = refl
without_two b None (Some d) = refl
without_two b (Some c) None = refl
without_two b (Some c) (Some d) = set_two b c d None

unset_two : (ob : ℕ → Option ℕ) (i j : ℕ) → set_at (set_at ob i None) j None ≡ set_at (set_at ob j None) i None
unset_two ob i j = fun_ext (λ x. by (x == i) (x == j) x)
  where
    by : (p q : Bool) (x : ℕ) → (if q then None else (if p then None else ob x)) ≡ (if p then None else (if q then None else ob x))
    by true true x = refl
    by true false x = refl
    by false true x = refl
    by false false x = refl

unset_none : (ob : ℕ → Option ℕ) (i : ℕ) → ob i ≡ None → set_at ob i None ≡ ob
unset_none ob i e = fun_ext (λ x. by_same x i (λ s. subst (λ z. set_at ob i None z ≡ ob z) (sym s) (set_here ob i None ∙ sym e)) (λ ne. set_there ob i None x ne))

abbrev with_both : Own → (ℕ → Option ℕ) → Blocks → Own
with_both l objects blocks = record { function = l.function; temps = l.temps; objects = objects; blocks = blocks }

with_two : (l : Own) (a b : ℕ → Option ℕ) (c d : Blocks) → a ≡ b → c ≡ d → with_both l a c ≡ with_both l b d
with_two l a b c d e h = ap (λ (o : ℕ → Option ℕ). with_both l o c) e ∙ ap (with_both l b) h

-- an object that has no block ends: nothing changes
pub ended_none : (l : Own) (i : ℕ) → l.objects i ≡ None → object_ended l i ≡ l
ended_none l i e = with_two l (set_at l.objects i None) l.objects (without l.blocks (l.objects i)) l.blocks (unset_none l.objects i e) (ap (without l.blocks) e)

pub ended_two : (l : Own) (i j : ℕ) → object_ended (object_ended l i) j ≡ object_ended (object_ended l j) i
ended_two l i j = by_same j i (λ e. subst (λ z. object_ended (object_ended l i) z ≡ object_ended (object_ended l z) i) (sym e) refl) (λ ne.
    with_two l (set_at (set_at l.objects i None) j None) (set_at (set_at l.objects j None) i None)
    (without (without l.blocks (l.objects i)) (set_at l.objects i None j)) (without (without l.blocks (l.objects j)) (set_at l.objects j None i))
    (unset_two l.objects i j)
    (ap (without (without l.blocks (l.objects i))) (set_there l.objects i None j ne)
    ∙ without_two l.blocks (l.objects i) (l.objects j)
    ∙ sym (ap (without (without l.blocks (l.objects j))) (set_there l.objects j None i (λ e. ne (sym e))))))

-- an object ends twice
pub ended_again : (l : Own) (i : ℕ) → object_ended (object_ended l i) i ≡ object_ended l i
ended_again l i = ended_none (object_ended l i) i (set_here l.objects i None)

-- ---- several objects end

-- one of them first, or last
pub over_last : (is : List ℕ) (l : Own) (k : ℕ) → objects_over is (object_ended l k) ≡ object_ended (objects_over is l) k
over_last [] l k = refl
over_last (i ∷ is) l k = ap (objects_over is) (ended_two l k i) ∙ over_last is (object_ended l i) k

-- one of them has ended already
twice_by : (i : ℕ) (is : List ℕ) (l : Own) (k : ℕ) → ((m : Own) → among is k ≡ true → objects_over is (object_ended m k) ≡ objects_over is m) → (b : Bool) → (i == k) ≡ b → (if b then true else among is k) ≡ true
    → objects_over (i ∷ is) (object_ended l k) ≡ objects_over (i ∷ is) l
twice_by i is l k rest true h e = ap (objects_over is) (subst (λ z. object_ended (object_ended l z) i ≡ object_ended l i) (same_object i k h) (ended_again l i))
twice_by i is l k rest false h e = ap (objects_over is) (ended_two l k i) ∙ rest (object_ended l i) e

pub over_twice : (is : List ℕ) (l : Own) (k : ℕ) → among is k ≡ true → objects_over is (object_ended l k) ≡ objects_over is l
over_twice [] l k e = absurd cc
over_twice (i ∷ is) l k e = twice_by i is l k (λ m h. over_twice is m k h) (i == k) refl e

-- none of them has a block
pub over_none : (is : List ℕ) (l : Own) → ((k : ℕ) → among is k ≡ true → l.objects k ≡ None) → objects_over is l ≡ l
over_none [] l none = refl
over_none (i ∷ is) l none = ap (objects_over is) (ended_none l i (none i (among_first i is))) ∙ over_none is l (λ k e. none k (among_later i is k e))

-- ---- from a position on

module _ (p : Ir) (thread : ℕ) (answer : Answer) (callers : List (Point Position Own)) (s : World) where
  -- at this position an object that hasn't ended yet makes no difference
  abbrev pub Forgiven : Position → ℕ → Type 0
  Forgiven q k = (l : Own) → onward p thread answer callers s q (object_ended l k) ≡ onward p thread answer callers s q l

  pub ends_over_step : (place : ℕ) (is : List ℕ) (r : Nodes) (q : Position) (l : Own) → onward p thread answer callers s (then_ (ends place is r) q) l ≡ onward p thread answer callers s (then_ r q) (objects_over is l)
  ends_over_step place [] r q l = refl
  ends_over_step place (i ∷ is) r q l = ends_object p thread answer callers s place i (ends place is r) q l ∙ ends_over_step place is r q (object_ended l i)

  -- where these end next, any of them may have ended already
  pub ends_forgive : (place : ℕ) (is : List ℕ) (r : Nodes) (q : Position) (k : ℕ) → among is k ≡ true → Forgiven (then_ (ends place is r) q) k
  ends_forgive place is r q k e l =
      ends_over_step place is r q (object_ended l k)
      ∙ ap (onward p thread answer callers s (then_ r q)) (over_twice is l k e)
      ∙ sym (ends_over_step place is r q l)

  forgiven_by : (outer : List ℕ) (i : ℕ) (is : List ℕ) (q : Position) (l : Own) → (among outer i ≡ false → Forgiven q i)
      → ((m : Own) → onward p thread answer callers s q (objects_over is m) ≡ onward p thread answer callers s q (objects_over (again outer is) m)) → (b : Bool) → among outer i ≡ b
      → onward p thread answer callers s q (objects_over is (object_ended l i)) ≡ onward p thread answer callers s q (objects_over (if b then i ∷ again outer is else again outer is) l)
  forgiven_by outer i is q l f rest true e = rest (object_ended l i)
  forgiven_by outer i is q l f rest false e = ap (onward p thread answer callers s q) (over_last is l i) ∙ f e (objects_over is l) ∙ rest l

  -- so all of these but those that are declared around the loop, too
  pub over_forgiven : (outer is : List ℕ) (q : Position) → ((k : ℕ) → among is k ≡ true → among outer k ≡ false → Forgiven q k) → (l : Own)
      → onward p thread answer callers s q (objects_over is l) ≡ onward p thread answer callers s q (objects_over (again outer is) l)
  over_forgiven outer [] q f l = refl
  over_forgiven outer (i ∷ is) q f l =
      forgiven_by outer i is q l (f i (among_first i is)) (over_forgiven outer is q (λ k e. f k (among_later i is k e))) (among outer i) refl
