-- Registers below a place stay, and what stands on them.
use Rattle.std.proofs.Common.{◌≡◌, ◌≢◌, ℕ, suc, ◌<◌, ◌≤◌, Bool, true, false, List, [], ◌∷◌, length, ◌==◌, Option, refl, sym, subst, ◌∙◌, arith, if◌then◌else◌}
use Rattle.std.proofs.lemmas.Bool.Decides.{nat_tests}
use Rattle.std.proofs.lemmas.Option.{slice_get_within}
use Rattle.block_store.specs.declared.values.Access.{Access}
use Rattle.block_store.specs.declared.values.Ptr.{Ptr}
use Rattle.block_store.specs.declared.values.Value.{Value}
use Rattle.c_tree.specs.Typed as tree
use Rattle.c_meaning.specs.Values.{Binary, access_of_type}
use Rattle.c_meaning.specs.Control.{Variable, Use}
use Rattle.struct_ir.specs.Nodes.{Nodes}
use Rattle.struct_ir.specs.Structured.{Position}
use Rattle.struct_ir.specs.meaning.Blocks.{Held, set_at}
use Rattle.lower_forms.specs.Forms.{Reach, found, direct, indexed, behind}
use Rattle.lower_turns.proofs.Relation.{Below, Reaches, InRegister, held_in, Holds, Around, Agrees, Joined, not_joined, joined, Taken, none_yet, one_more, AtE, at_first, at_second, at_convert, at_not, at_test, at_member, at_read, at_and, at_or, at_second_test, at_choice, at_wanted, at_dropped, at_local, at_left, at_place, at_block, at_struct_left, at_struct_right, at_update_left, at_update_right, at_update_read, at_update_local, at_if, at_loop_test, at_switch_test, at_caller, at_nowhere, at_inside, at_found, at_again}

-- ---- one register is set

taken_if : {A : Type 0} (b c : Bool) (x y z : A) → b ≡ c → (if c then x else y) ≡ z → (if b then x else y) ≡ z
taken_if b c x y z e h = subst (λ d. (if d then x else y) ≡ z) (sym e) h

pub set_here : {A : Type 0} (f : ℕ → A) (k : ℕ) (v : A) → set_at f k v k ≡ v
set_here f k v = taken_if (k == k) true v (f k) v (grind (arith, nat_tests)) refl

pub set_there : {A : Type 0} (f : ℕ → A) (k : ℕ) (v : A) (i : ℕ) → i ≢ k → set_at f k v i ≡ f i
set_there f k v i h = taken_if (i == k) false v (f i) (f i) (grind (arith, nat_tests)) refl

-- ---- registers below a place

pub below_same : (m : ℕ) (a : ℕ → Held) → Below m a a
below_same m a i h = refl

pub below_less : (m k : ℕ) (a b : ℕ → Held) → k ≤ m → Below m a b → Below k a b
below_less m k a b le h i lt = h i (omega (arith, le, lt))

pub below_then : (m : ℕ) (a b c : ℕ → Held) → Below m a b → Below m b c → Below m a c
below_then m a b c h g i lt = g i lt ∙ h i lt

pub below_set : (m to : ℕ) (a b : ℕ → Held) (v : Held) → m ≤ to → Below m a b → Below m a (set_at b to v)
below_set m to a b v le h i lt = let ne : i ≢ to = λ e. absurd (omega (arith, le, lt, e)) in set_there b to v i ne ∙ h i lt

-- ---- what stands on them

pub reaches_below : (a b : ℕ → Held) (r : Reach) (u : ℕ) (p : Ptr) → Reaches a r u p → Below (behind r u) a b → Reaches b r u p
reaches_below a b found u p h g = g u (omega arith) ∙ h
reaches_below a b (direct base offset) u p h g = record { below = h.below; start = h.start; holds = g base (omega (arith, h.below)) ∙ h.holds; moved = h.moved }
reaches_below a b (indexed base scale offset) u p h g = record {
  below = h.below;
  start = h.start;
  index = h.index;
  element = h.element;
  holds = g base (omega (arith, h.below)) ∙ h.holds;
  by = g (suc u) (omega arith) ∙ h.by;
  further = h.further;
  moved = h.moved;
}

joined_below : (a b : ℕ → Held) (u : ℕ) (op : Binary) (v : Value) (r : Reach) → Joined a u op v r → Below u a b → Joined b u op v r
joined_below a b u _ _ _ (not_joined op v) g = not_joined op v
joined_below a b u _ _ _ (joined base size p lt e) g = joined base size p lt (g base lt ∙ e)

pub taken_le : (a : ℕ → Held) (all : tree.Exprs) (t0 : ℕ) (rest : tree.Exprs) (before : List Value) (v : ℕ) → Taken a all t0 rest before v → t0 ≤ v
taken_le a all t0 _ _ _ none_yet = omega arith
taken_le a all t0 _ _ _ (one_more {e} {rest} {before} {t} v k s more) = omega (arith, taken_le a all t0 (tree.more_exprs e rest) before t more)

pub taken_below : (a b : ℕ → Held) (all : tree.Exprs) (t0 : ℕ) (rest : tree.Exprs) (before : List Value) (v : ℕ) → Taken a all t0 rest before v → Below v a b → Taken b all t0 rest before v
taken_below a b all t0 _ _ _ none_yet g = none_yet
taken_below a b all t0 _ _ _ (one_more {e} {rest} {before} {t} v k s more) g =
    one_more v k (g t (omega arith) ∙ s) (taken_below a b all t0 (tree.more_exprs e rest) before t more (below_less (suc t) t a b (omega arith) g))

module _ (t : tree.Typed) (n : ℕ) (f : tree.Func) (ob : ℕ → Option ℕ) (a b : ℕ → Held) where
  pub use_below : (c : Around) (k : Use) (u : ℕ) (how : Access) (rch : Reach) (r : Nodes) (q : Position) → AtE t n f ob a c k u how rch r q → Below u a b → AtE t n f ob b c k u how rch r q
  use_below _ _ _ _ _ _ _ (at_first place op right lh lrch ty sc fits j at) g = at_first place op right lh lrch ty sc fits j (use_below _ _ _ _ _ _ _ at g)
  use_below _ _ _ _ _ _ _ (at_second {k} {u} place op left lh rh rrch fits kind e j at) g =
      let less = below_less (suc u) u a b (omega arith) g in
      at_second place op left lh rh rrch fits kind (g u (omega arith) ∙ e) (joined_below a b u _ _ _ j less) (use_below _ _ _ _ _ _ _ at less)
  use_below _ _ _ _ _ _ _ (at_convert place from to fits at) g = at_convert place from to fits (use_below _ _ _ _ _ _ _ at g)
  use_below _ _ _ _ _ _ _ (at_not place ty rch at) g = at_not place ty rch (use_below _ _ _ _ _ _ _ at g)
  use_below _ _ _ _ _ _ _ (at_test place rch at) g = at_test place rch (use_below _ _ _ _ _ _ _ at g)
  use_below _ _ _ _ _ _ _ (at_member place offset rch small at) g = at_member place offset rch small (use_below _ _ _ _ _ _ _ at g)
  use_below _ _ _ _ _ _ _ (at_read place how atomic rch at) g = at_read place how atomic rch (use_below _ _ _ _ _ _ _ at g)
  use_below _ _ _ _ _ _ _ (at_and place right lh rch ty sc at) g = at_and place right lh rch ty sc (use_below _ _ _ _ _ _ _ at g)
  use_below _ _ _ _ _ _ _ (at_or place right lh rch ty sc at) g = at_or place right lh rch ty sc (use_below _ _ _ _ _ _ _ at g)
  use_below _ _ _ _ _ _ _ (at_second_test place lh rch at) g = at_second_test place lh rch (use_below _ _ _ _ _ _ _ at g)
  use_below _ _ _ _ _ _ _ (at_choice place one other lh rch t1 s1 e1 t2 s2 e2 at) g = at_choice place one other lh rch t1 s1 e1 t2 s2 e2 (use_below _ _ _ _ _ _ _ at g)
  use_below _ _ _ _ _ _ _ (at_wanted {k} {u} place callee all e rest before v ty rch typed sc call scs scalar taken above at) g =
      at_wanted place callee all e rest before v ty rch typed sc call scs scalar (taken_below a b all u _ _ _ taken g) above
      (use_below _ _ _ _ _ _ _ at (below_less v u a b (taken_le a all u _ _ _ taken) g))
  use_below _ _ _ _ _ _ _ (at_dropped {u = u} place callee all e rest before v ty rch typed sc call scs taken above at) g =
      at_dropped place callee all e rest before v ty rch typed sc call scs (taken_below a b all u _ _ _ taken g) above at
  use_below _ _ _ _ _ _ _ (at_local place i l rch e h at) g = at_local place i l rch e h at
  use_below _ _ _ _ _ _ _ (at_left place atomic right how rch ty sc e at) g = at_left place atomic right how rch ty sc e at
  use_below _ _ _ _ _ _ _ (at_place place atomic to how via rch h at) g = at_place place atomic to how via rch (reaches_below a b via _ to h g) at
  use_below _ _ _ _ _ _ _ (at_block place atomic i object c how rch h lt e at) g = at_block place atomic i object c how rch h lt e at
  use_below _ _ _ _ _ _ _ (at_struct_left place ty right rch typed h small at) g = at_struct_left place ty right rch typed h small at
  use_below _ _ _ _ _ _ _ (at_struct_right place ty to via rch h small at) g = at_struct_right place ty to via rch (reaches_below a b via _ to h g) small at
  use_below _ _ _ _ _ _ _ (at_update_left place x right op rch ty sc can at) g = at_update_left place x right op rch ty sc can at
  use_below _ _ _ _ _ _ _ (at_update_right place x right op to via rch h can at) g = at_update_right place x right op to via rch (reaches_below a b via _ to h g) can at
  use_below c _ _ _ _ _ _ (at_update_read place x right op to by via rch h scalar can kind e at) g =
      at_update_read place x right op to by via rch (reaches_below a b via _ to h (below_less _ _ a b (omega arith) g)) scalar can kind (g (behind via _) (omega arith) ∙ e) at
  use_below _ _ _ _ _ _ _ (at_update_local place i l x right op rch e h same scalar can at) g = at_update_local place i l x right op rch e h same scalar can at
  use_below _ _ _ _ _ _ _ (at_if place one other lh rch w1 w2 m1 m2 at) g = at_if place one other lh rch w1 w2 m1 m2 at
  use_below _ _ _ _ _ _ _ (at_loop_test place site l lh rch is at) g = at_loop_test place site l lh rch is at
  use_below _ _ _ _ _ _ _ (at_switch_test place labels body s rch all few well room free at) g = at_switch_test place labels body s rch all few well room free at
  use_below _ _ _ _ _ _ _ (at_caller place rch) g = at_caller place rch
  use_below _ _ _ _ _ _ _ (at_nowhere how rch at) g = at_nowhere how rch at
  use_below _ _ _ _ _ _ _ (at_inside at) g = at_inside (use_below _ _ _ _ _ _ _ at g)
  use_below _ _ _ _ _ _ _ (at_found rch at) g = at_found rch (use_below _ _ _ _ _ _ _ at g)
  use_below _ _ _ _ _ _ _ (at_again place rch at) g = at_again place rch (use_below _ _ _ _ _ _ _ at g)

-- ---- locals

-- what the switches around hold stays while no register below the free ones changes
pub holds_below : (low high : ℕ) (a b : ℕ → Held) (xs : List (ℕ × ℕ)) → Holds low high a xs → Below high a b → Holds low high b xs
holds_below low high a b [] h g = tt
holds_below low high a b (x ∷ xs) h g = (h.0, h.1, g x.0 h.1 ∙ h.2, holds_below low x.0 a b xs h.3 (below_less high x.0 a b (omega (arith, h.1)) g))

-- or changes only one that holds a local
pub holds_but : (low high i : ℕ) (a b : ℕ → Held) (xs : List (ℕ × ℕ)) → i < low → Holds low high a xs → ((j : ℕ) → j < high → j ≢ i → b j ≡ a j) → Holds low high b xs
holds_but low high i a b [] lt h g = tt
holds_but low high i a b (x ∷ xs) lt h g =
    let ne : x.0 ≢ i = λ e. absurd (omega (arith, lt, h.0, e)) in
    (h.0, h.1, g x.0 h.1 ne ∙ h.2, holds_but low x.0 i a b xs lt h.3 (λ j jlt jne. g j (omega (arith, jlt, h.1)) jne))

-- locals agree while no register below the free ones changes
pub agrees_below : (homes : List (Option ℕ)) (first : ℕ) (held : List (ℕ × ℕ)) (around : List ℕ) (ls : List tree.Local) (vs : List Variable) (a b : ℕ → Held) (ob : ℕ → Option ℕ) → Agrees homes first held around ls vs a ob → Below first a b → Agrees homes first held around ls vs b ob
agrees_below homes first held around ls vs a b ob h g =
    let low = h.low in
    record {
      count = h.count;
      low = h.low;
      switches = holds_below (length ls) first a b held h.switches g;
      register = λ i l e none. subst (InRegister (access_of_type l.ty) (held_in vs i)) (sym (g i (omega (arith, slice_get_within ls i l e, low)))) (h.register i l e none);
      block = h.block;
      closed = h.closed;
    }
