-- Calls of the library: each is the same action on both sides.
use Rattle.std.proofs.Common.{◌≡◌, ℕ, suc, ℤ, pos, true, false, not, List, [], ◌∷◌, Option, Some, Result, Ok, refl, sym, ap, subst, ◌∙◌}
use Rattle.ak_words.specs.declared.number.Num.{Num}
use Rattle.ak_words.specs.IntType.{int}
use Rattle.ak_words.specs.Num.{num}
use Rattle.block_store.specs.declared.values.Access.TheVariants as accesses
use Rattle.block_store.specs.declared.values.Ptr.{Ptr}
use Rattle.block_store.specs.declared.values.Value.{Value}
use Rattle.block_store.specs.declared.values.Value.TheVariants as values
use Rattle.block_store.specs.Actions as actions
use Rattle.block_store.specs.Actions.{World, bytes, text}
use Rattle.block_store.specs.Blocks.{Blocks}
use Rattle.block_store.specs.Runs as runs
use Rattle.c_tree.specs.Typed as tree
use Rattle.c_tree.specs.TypedForm.{IsScalar}
use Rattle.c_tree.specs.TypedPrinting.{parts}
use Rattle.c_meaning.specs.Values.{access_of_type}
use Rattle.c_meaning.specs.Control.{Variable, Wait}
use Rattle.c_meaning.specs.Library.{numbers_of, pointers_of}
use Rattle.c_meaning.specs.Turns.{stays, after_call}
use Rattle.struct_ir.specs.Nodes as ir
use Rattle.struct_ir.specs.Nodes.{Nodes, Place, Step}
use Rattle.struct_ir.specs.Structured.{Position, then_}
use Rattle.struct_ir.specs.meaning.Blocks.{Held, value, pointer, Fault, Own, known, on_value, on_pointer}
use Rattle.struct_ir.specs.meaning.Threads.{address_of, action_of, action_with, all_of}
use Rattle.struct_ir.specs.meaning.Threads as served
use Rattle.lower_forms.specs.Forms.{sets_int, found, at_temp, is_number, with_if, number_temps, text_places}
use Rattle.lower_turns.proofs.Relation.{HasKind, Below, HasValues, Stand, AreScalars, Calls, AtE, at_int, AllBegin, Together, both_went, same, at_begins, at_gives, at_zero}
use Rattle.lower_turns.proofs.Registers.{use_below}
use Rattle.lower_turns.proofs.Setting.{Stands, Setting, here, own, agrees_on}
use Rattle.lower_turns.proofs.Actions.{GivesNone}
use Rattle.lower_turns.proofs.Calls.{WaitIs, wait_wanted, wait_dropped}

-- ---- what a step reads

pub action_is : (place : ℕ) (l : Own) (st : Step) (ps : List Ptr) (vs : List Value) → all_of (address_of place l) st.places ≡ Ok ps → all_of (λ (i : ℕ). known place (l.temps i)) st.temps ≡ Ok vs
    → action_of place l st ≡ action_with st.action ps vs
action_is place l st ps vs e d =
    ap (λ (x : Result (List Ptr) Fault). served.on_ok x (λ places. served.on_ok (all_of (λ (i : ℕ). known place (l.temps i)) st.temps) (action_with st.action places))) e
    ∙ ap (λ (x : Result (List Value) Fault). served.on_ok x (action_with st.action ps)) d

pub one_more_place : (place : ℕ) (l : Own) (at : Place) (ats : List Place) (p : Ptr) (ps : List Ptr) → address_of place l at ≡ Ok p → all_of (address_of place l) ats ≡ Ok ps → all_of (address_of place l) (at ∷ ats) ≡ Ok (p ∷ ps)
one_more_place place l at ats p ps e d =
    ap (λ (x : Result Ptr Fault). served.on_ok x (λ y. served.on_ok (all_of (address_of place l) ats) (λ ys. Ok (y ∷ ys)))) e
    ∙ ap (λ (x : Result (List Ptr) Fault). served.on_ok x (λ ys. Ok (p ∷ ys))) d

pub one_more_read : (place : ℕ) (l : Own) (i : ℕ) (is : List ℕ) (v : Value) (vs : List Value) → l.temps i ≡ value v → all_of (λ (j : ℕ). known place (l.temps j)) is ≡ Ok vs
    → all_of (λ (j : ℕ). known place (l.temps j)) (i ∷ is) ≡ Ok (v ∷ vs)
one_more_read place l i is v vs e d =
    ap (λ (x : Held). served.on_ok (known place x) (λ y. served.on_ok (all_of (λ (j : ℕ). known place (l.temps j)) is) (λ ys. Ok (y ∷ ys)))) e
    ∙ ap (λ (x : Result (List Value) Fault). served.on_ok x (λ ys. Ok (v ∷ ys))) d

pub at_register : (place : ℕ) (l : Own) (i : ℕ) (p : Ptr) → l.temps i ≡ pointer p → address_of place l (at_temp i) ≡ Ok p
at_register place l i p e = ap (λ (x : Held). on_value (known place x) (on_pointer (λ a. Ok a))) e

-- ---- what printf takes

abbrev pub numbers_in : List Value → List Value
numbers_in [] = []
numbers_in (values.Num n ∷ vs) = values.Num n ∷ numbers_in vs
numbers_in (values.Pointer p ∷ vs) = numbers_in vs

numbers_are : (vs : List Value) → all_of served.number_of (numbers_in vs) ≡ Ok (numbers_of vs)
numbers_are [] = refl
numbers_are (values.Num n ∷ vs) = ap (λ (x : Result (List ℤ) Fault). served.on_ok x (λ ys. Ok (n.value ∷ ys))) (numbers_are vs)
numbers_are (values.Pointer p ∷ vs) = numbers_are vs

-- an argument is a number, or a pointer
data Scalar (ty : tree.Ty) : Value → Type 0 where
  a_number : (n : Num) → is_number ty ≡ true → Scalar ty (values.Num n)
  a_pointer : (p : Ptr) → is_number ty ≡ false → Scalar ty (values.Pointer p)

scalar_at : (ty : tree.Ty) (v : Value) → IsScalar ty → HasKind (access_of_type ty) v → Scalar ty v
scalar_at (tree.integer s) (values.Num n) h k = a_number n refl
scalar_at (tree.integer s) (values.Pointer p) h k = elim k [ ]
scalar_at (tree.pointer u) (values.Num n) h k = elim k [ ]
scalar_at (tree.pointer u) (values.Pointer p) h k = a_pointer p refl
scalar_at ty v h k = elim h [ ]

module _ (place : ℕ) (l : Own) where
  abbrev Reads : List ℕ → List Value → Type 0
  Reads is vs = all_of (λ (j : ℕ). known place (l.temps j)) is ≡ Ok vs

  abbrev Finds : List Place → List Ptr → Type 0
  Finds ats ps = all_of (address_of place l) ats ≡ Ok ps

  numbers_step : (ty : tree.Ty) (v : Value) (u : ℕ) (is : List ℕ) (vs : List Value) → Scalar ty v → l.temps u ≡ value v → Reads is (numbers_in vs) → Reads (with_if (is_number ty) u is) (numbers_in (v ∷ vs))
  numbers_step ty _ u is vs (a_number n e) h d = subst (λ b. Reads (with_if b u is) (values.Num n ∷ numbers_in vs)) (sym e) (one_more_read place l u is (values.Num n) (numbers_in vs) h d)
  numbers_step ty _ u is vs (a_pointer p e) h d = subst (λ b. Reads (with_if b u is) (numbers_in vs)) (sym e) d

  pub numbers_read : (es : tree.Exprs) (vs : List Value) (u : ℕ) → AreScalars es → Stand l.temps es vs u → Reads (number_temps es u) (numbers_in vs)
  numbers_read tree.no_exprs [] u s h = refl
  numbers_read tree.no_exprs (v ∷ vs) u s h = elim h [ ]
  numbers_read (tree.more_exprs e es) [] u s h = elim h [ ]
  numbers_read (tree.more_exprs e es) (v ∷ vs) u s h = numbers_step (tree.type_of e) v u (number_temps es (suc u)) vs (scalar_at (tree.type_of e) v s.0 h.0) h.1 (numbers_read es vs (suc u) s.1 h.2)

  texts_step : (ty : tree.Ty) (v : Value) (u : ℕ) (ats : List Place) (vs : List Value) → Scalar ty v → l.temps u ≡ value v → Finds ats (pointers_of vs) → Finds (with_if (not (is_number ty)) (at_temp u) ats) (pointers_of (v ∷ vs))
  texts_step ty _ u ats vs (a_number n e) h d = subst (λ b. Finds (with_if (not b) (at_temp u) ats) (pointers_of vs)) (sym e) d
  texts_step ty _ u ats vs (a_pointer p e) h d = subst (λ b. Finds (with_if (not b) (at_temp u) ats) (p ∷ pointers_of vs)) (sym e) (one_more_place place l (at_temp u) ats p (pointers_of vs) (at_register place l u p h) d)

  pub texts_found : (es : tree.Exprs) (vs : List Value) (u : ℕ) → AreScalars es → Stand l.temps es vs u → Finds (text_places es u) (pointers_of vs)
  texts_found tree.no_exprs [] u s h = refl
  texts_found tree.no_exprs (v ∷ vs) u s h = elim h [ ]
  texts_found (tree.more_exprs e es) [] u s h = elim h [ ]
  texts_found (tree.more_exprs e es) (v ∷ vs) u s h = texts_step (tree.type_of e) v u (text_places es (suc u)) vs (scalar_at (tree.type_of e) v s.0 h.0) h.1 (texts_found es vs (suc u) s.1 h.2)

  pub print_is : (pieces : List tree.Piece) (es : tree.Exprs) (vs : List Value) (u : ℕ) (to : Option ℕ) → AreScalars es → Stand l.temps es vs u
      → action_of place l (record { action = ir.print pieces; places = text_places es u; to = to; temps = number_temps es u; slots = [] }) ≡ Ok (actions.print (parts bytes text pieces (numbers_of vs) (pointers_of vs)))
  print_is pieces es vs u to s h =
      action_is place l (record { action = ir.print pieces; places = text_places es u; to = to; temps = number_temps es u; slots = [] }) (pointers_of vs) (numbers_in vs) (texts_found es vs u s h) (numbers_read es vs u s h)
      ∙ ap (λ (x : Result (List ℤ) Fault). served.on_ok x (λ ns. Ok (actions.print (parts bytes text pieces ns (pointers_of vs))))) (numbers_are vs)

-- ---- where a call's value goes

module _ (g : Setting) (busy : Calls g.t) (vs : List Variable) (ob : ℕ → Option ℕ) (b : Blocks) (tm : ℕ → Held) (agrees : Stands g vs tm ob) where
  -- the thread goes on so
  abbrev pub Lands : Wait → Option Value → Nodes → Position → (ℕ → Held) → World → Type 0
  Lands kw v r q a w = Together g.t (stays (here g) vs (after_call kw v) w) (runs.went (record { top = record { at = then_ r q; own = own g ob a b }; callers = g.cs' }) w)

  module _ (place : ℕ) (ty : tree.Ty) (u : ℕ) where
    pub lands_value : (kw : Wait) (r : Nodes) (q : Position) → WaitIs g ob tm place ty kw u r q → (v : Value) (a : ℕ → Held) (w : World) → HasKind (access_of_type ty) v → Below u tm a → a u ≡ value v → AllBegin g.t w
        → Lands kw (Some v) r q a w
    lands_value _ _ _ (wait_wanted {k} {r = r} {q = q} scalar above at) v a w kind below is begun =
        both_went w begun (same g.call (agrees_on g vs tm a ob u above agrees below) (at_gives v kind is above busy (use_below g.t g.n g.f ob tm a g.a k u (access_of_type ty) found r q at below)) g.callers)
    lands_value _ _ _ (wait_dropped above at) v a w kind below is begun = both_went w begun (same g.call (agrees_on g vs tm a ob u above agrees below) (at_begins at) g.callers)

    -- where the value is 0, which then comes to the register
    pub lands_zero : (kw : Wait) (r : Nodes) (q : Position) → WaitIs g ob tm place ty kw u r q → (a : ℕ → Held) (w : World) → ty ≡ tree.integer int → Below u tm a → AllBegin g.t w
        → Lands kw (Some (values.Num (num int (pos 0)))) (sets_int place u 0 r) q a w
    lands_zero _ _ _ (wait_wanted {k} {r = r} {q = q} scalar above at) a w e below begun =
        both_went w begun (same g.call (agrees_on g vs tm a ob u above agrees below)
        (at_zero place above busy (use_below g.t g.n g.f ob tm a g.a k u (accesses.Number int) found r q (subst (λ z. AtE g.t g.n g.f ob tm g.a k u (access_of_type z) found r q) e at) below)) g.callers)
    lands_zero _ _ _ (wait_dropped above at) a w e below begun =
        both_went w begun (same g.call (agrees_on g vs tm a ob u above agrees below) (at_begins (at_int place u 0 above at)) g.callers)

    -- where there is no value
    pub lands_none : (kw : Wait) (r : Nodes) (q : Position) → WaitIs g ob tm place ty kw u r q → (v : Option Value) → GivesNone v → (a : ℕ → Held) (w : World) → ty ≡ tree.void → Below u tm a → AllBegin g.t w
        → Lands kw v r q a w
    lands_none _ _ _ (wait_wanted scalar above at) v none a w e below begun = elim (subst HasValues e scalar) [ ]
    lands_none _ _ _ (wait_dropped above at) v none a w e below begun = both_went w begun (same g.call (agrees_on g vs tm a ob u above agrees below) (at_begins at) g.callers)
