-- Locals that get a value, or whose blocks begin and end.
use Rattle.std.proofs.Common.{◌≡◌, ◌≢◌, ℕ, zero, suc, ◌+◌, ◌<◌, ◌≤◌, ◌==◌, Bool, true, false, List, [], ◌∷◌, length, set, Option, Some, None, refl, sym, ap, subst, ◌∙◌, arith, length-set}
use Rattle.std.specs.Prelude.{slice_get}
use Rattle.std.proofs.lemmas.Option.{same_Some, slice_get_within, slice_get_past}
use Rattle.std.proofs.lemmas.Bool.Decides.{nat_tests}
use Rattle.block_store.specs.declared.values.Access.{Access}
use Rattle.block_store.specs.Blocks.{Blocks}
use Rattle.c_tree.specs.Typed as tree
use Rattle.c_meaning.specs.Values.{access_of_type}
use Rattle.c_meaning.specs.Control as source
use Rattle.c_meaning.specs.Control.{Variable}
use Rattle.c_meaning.specs.Turns.{Now, ended_if, ended_local, variable_or_unset}
use Rattle.struct_ir.specs.Nodes.{StackObject}
use Rattle.struct_ir.specs.meaning.Blocks.{Held, Own, set_at, without, object_ended}
use Rattle.lower_forms.specs.Forms.{home, home_or_none, among}
use Rattle.lower_forms.specs.Programs.{home_if, next_home, homes_from, object_of, with_object, objects_of}
use Rattle.lower_turns.proofs.Relation.{InRegister, no_value, one_value, InBlock, no_block, one_block, held_in, running}
use Rattle.lower_turns.proofs.Registers.{holds_but, set_here, set_there}
use Rattle.lower_turns.proofs.Setting.{Stands, start, start_is, Setting, now, own, frame}

-- ---- lists

pub slice_set : {A : Type 0} (xs : List A) (i : ℕ) (y : A) → i < length xs → slice_get (set xs i y) i ≡ Some y
slice_set [] i y h = absurd (omega (arith, h))
slice_set (x ∷ xs) zero y h = refl
slice_set (x ∷ xs) (suc i) y h = slice_set xs i y (omega (arith, h))

pub slice_other : {A : Type 0} (xs : List A) (i j : ℕ) (y : A) → j ≢ i → slice_get (set xs i y) j ≡ slice_get xs j
slice_other [] i j y h = refl
slice_other (x ∷ xs) zero zero y h = absurd (h refl)
slice_other (x ∷ xs) zero (suc j) y h = refl
slice_other (x ∷ xs) (suc i) zero y h = refl
slice_other (x ∷ xs) (suc i) (suc j) y h = slice_other xs i j y (λ e. h (ap suc e))

pub held_here : (vs : List Variable) (i : ℕ) (x : Variable) → i < length vs → held_in (set vs i x) i ≡ x
held_here vs i x h = ap variable_or_unset (slice_set vs i x h)

pub held_there : (vs : List Variable) (i j : ℕ) (x : Variable) → j ≢ i → held_in (set vs i x) j ≡ held_in vs j
held_there vs i j x h = ap variable_or_unset (slice_other vs i j x h)

-- two numbers are the same, or not
by_test : {A : Type 0} (i j : ℕ) (b : Bool) → (i == j) ≡ b → (i ≡ j → A) → (i ≢ j → A) → A
by_test i j true e f g = f (grind (arith, nat_tests))
by_test i j false e f g = g (λ h. let c : (i == j) ≡ true = grind (arith, h) in absurd cc)

pub by_same : {A : Type 0} (i j : ℕ) → (i ≡ j → A) → (i ≢ j → A) → A
by_same i j f g = by_test i j (i == j) refl f g

-- ---- homes

homes_ge : (next : ℕ) (ls : List tree.Local) (i k : ℕ) → home_or_none (slice_get (homes_from next ls) i) ≡ Some k → next ≤ k
homes_ge next [] i k e = absurd cc
homes_ge next (l ∷ ls) zero k e = by_memory l.in_memory e
  where
    by_memory : (b : Bool) → home_if b next ≡ Some k → next ≤ k
    by_memory true h = omega (arith, same_Some next k h)
    by_memory false h = absurd cc
homes_ge next (l ∷ ls) (suc i) k e = let h = homes_ge (next_home l.in_memory next) ls i k e in by_memory l.in_memory h
  where
    by_memory : (b : Bool) → next_home b next ≤ k → next ≤ k
    by_memory true h = omega (arith, h)
    by_memory false h = h

first_home : (next k i : ℕ) (ls : List tree.Local) (b : Bool) → home_if b next ≡ Some k → home_or_none (slice_get (homes_from (next_home b next) ls) i) ≡ Some k → ⊥
first_home next k i ls true e h = let g = homes_ge (suc next) ls i k h in absurd (omega (arith, same_Some next k e, g))
first_home next k i ls false e h = absurd cc

homes_differ : (next : ℕ) (ls : List tree.Local) (i j k : ℕ) → home_or_none (slice_get (homes_from next ls) i) ≡ Some k → home_or_none (slice_get (homes_from next ls) j) ≡ Some k → i ≡ j
homes_differ next [] i j k e h = absurd cc
homes_differ next (l ∷ ls) zero zero k e h = refl
homes_differ next (l ∷ ls) zero (suc j) k e h = absurd (first_home next k j ls l.in_memory e h)
homes_differ next (l ∷ ls) (suc i) zero k e h = absurd (first_home next k i ls l.in_memory h e)
homes_differ next (l ∷ ls) (suc i) (suc j) k e h = ap suc (homes_differ (next_home l.in_memory next) ls i j k e h)

home_within : (next : ℕ) (ls : List tree.Local) (i k : ℕ) → home_or_none (slice_get (homes_from next ls) i) ≡ Some k → i < length ls
home_within next [] i k e = absurd cc
home_within next (l ∷ ls) zero k e = omega arith
home_within next (l ∷ ls) (suc i) k e = let h = home_within (next_home l.in_memory next) ls i k e in omega (arith, h)

object_here : (structs : List tree.Layout) (next k : ℕ) (x l : tree.Local) (os : List StackObject) (b : Bool) → b ≡ x.in_memory → home_if b next ≡ Some k → x ≡ l
    → (j : ℕ) × (k ≡ next + j) × (slice_get (with_object b (object_of structs x) os) j ≡ Some (object_of structs l))
object_here structs next k x l os true e h is = (0, omega (arith, same_Some next k h), ap (λ (z : tree.Local). Some (object_of structs z)) is)
object_here structs next k x l os false e h is = absurd cc

object_later : (structs : List tree.Layout) (next k : ℕ) (l : tree.Local) (o : StackObject) (os : List StackObject) (b : Bool)
    → (j : ℕ) × (k ≡ next_home b next + j) × (slice_get os j ≡ Some (object_of structs l)) → (j : ℕ) × (k ≡ next + j) × (slice_get (with_object b o os) j ≡ Some (object_of structs l))
object_later structs next k l o os true h = let e = h.1 in (suc h.0, omega (arith, e), h.2)
object_later structs next k l o os false h = h

object_from : (structs : List tree.Layout) (next : ℕ) (ls : List tree.Local) (i k : ℕ) (l : tree.Local) → slice_get ls i ≡ Some l → home_or_none (slice_get (homes_from next ls) i) ≡ Some k
    → (j : ℕ) × (k ≡ next + j) × (slice_get (objects_of structs ls) j ≡ Some (object_of structs l))
object_from structs next [] i k l e h = absurd cc
object_from structs next (x ∷ ls) zero k l e h = object_here structs next k x l (objects_of structs ls) x.in_memory refl h (same_Some x l e)
object_from structs next (x ∷ ls) (suc i) k l e h =
    object_later structs next k l (object_of structs x) (objects_of structs ls) x.in_memory (object_from structs (next_home x.in_memory next) ls i k l e h)

pub object_at : (structs : List tree.Layout) (ls : List tree.Local) (i k : ℕ) (l : tree.Local) → slice_get ls i ≡ Some l → home_or_none (slice_get (homes_from 0 ls) i) ≡ Some k → slice_get (objects_of structs ls) k ≡ Some (object_of structs l)
object_at structs ls i k l e h =
    let r = object_from structs 0 ls i k l e h in
    let s = r.1 in
    let is : k ≡ r.0 = omega (arith, s) in
    ap (slice_get (objects_of structs ls)) is ∙ r.2

-- what both sides have, once locals have changed
pub record Over (g : Setting) (tm : ℕ → Held) (x : Now) (l : Own) : Type 0 where
  pub vs' : List Variable
  pub b' : Blocks
  pub ob' : ℕ → Option ℕ
  pub source_is : x ≡ now g vs' b'
  pub code_is : l ≡ own g ob' tm b'
  pub agrees' : Stands g vs' tm ob'

-- ---- locals that change

module _ (g : Setting) (vs : List Variable) (tm : ℕ → Held) (ob : ℕ → Option ℕ) (agrees : Stands g vs tm ob) where
  -- a register's local
  pub agrees_value : (i : ℕ) (l : tree.Local) → slice_get g.f.locals i ≡ Some l → home (frame g) i ≡ None → (x : Variable) (a : ℕ → Held) → ((j : ℕ) → j < start g → j ≢ i → a j ≡ tm j)
      → InRegister (access_of_type l.ty) x (a i) → Stands g (set vs i x) a ob
  agrees_value i l there none x a others is = record {
    count = length-set vs i x ∙ agrees.count;
    low = agrees.low;
    switches = holds_but (length g.f.locals) (start g) i tm a (running g.a) (slice_get_within g.f.locals i l there) agrees.switches others;
    register = λ j k e h. by_same j i (here_is j k e) (λ ne. subst (λ y. InRegister (access_of_type k.ty) y (a j)) (sym (held_there vs i j x ne))
        (subst (InRegister (access_of_type k.ty) (held_in vs j)) (sym (others j (below_start j k e) ne)) (agrees.register j k e h)));
    block = λ j k h. by_same j i (λ e. absurd (let c : Some k ≡ None = sym h ∙ ap (home (frame g)) e ∙ none in cc))
        (λ ne. subst (λ y. InBlock y (ob k)) (sym (held_there vs i j x ne)) (agrees.block j k h));
    closed = agrees.closed;
  }
    where
      below_start : (j : ℕ) (k : tree.Local) → slice_get g.f.locals j ≡ Some k → j < start g
      below_start j k e = omega (arith, slice_get_within g.f.locals j k e, start_is g)

      within : i < length vs
      within = let c = agrees.count in omega (arith, c, slice_get_within g.f.locals i l there)

      at_i : (k : tree.Local) → slice_get g.f.locals i ≡ Some k → InRegister (access_of_type k.ty) (held_in (set vs i x) i) (a i)
      at_i k e =
          subst (λ y. InRegister (access_of_type k.ty) y (a i)) (sym (held_here vs i x within))
          (subst (λ (z : tree.Local). InRegister (access_of_type z.ty) x (a i)) (same_Some l k (sym there ∙ e)) is)

      here_is : (j : ℕ) (k : tree.Local) → slice_get g.f.locals j ≡ Some k → j ≡ i → InRegister (access_of_type k.ty) (held_in (set vs i x) j) (a j)
      here_is j k e same_number =
          subst (λ m. slice_get g.f.locals m ≡ Some k → InRegister (access_of_type k.ty) (held_in (set vs i x) m) (a m)) (sym same_number) (at_i k) e

  -- a local with a stack object
  pub agrees_block : (i k : ℕ) → home (frame g) i ≡ Some k → (xs : List Variable) (c : ℕ → Option ℕ) → length xs ≡ length vs → ((j : ℕ) → j ≢ i → held_in xs j ≡ held_in vs j) → ((m : ℕ) → m ≢ k → c m ≡ ob m)
      → InBlock (held_in xs i) (c k) → (among g.a.around k ≡ false → c k ≡ None) → Stands g xs tm c
  agrees_block i k has xs c long others objects is shut = record {
    count = long ∙ agrees.count;
    low = agrees.low;
    switches = agrees.switches;
    register = λ j l e h. by_same j i (λ same_number. absurd (let x : None ≡ Some k = sym h ∙ ap (home (frame g)) same_number ∙ has in cc))
        (λ ne. subst (λ y. InRegister (access_of_type l.ty) y (tm j)) (sym (others j ne)) (agrees.register j l e h));
    block = λ j m h. by_same j i (here_is j m h) (λ ne. elsewhere j m h ne);
    closed = λ m e. by_same m k (λ s. subst (λ z. among g.a.around z ≡ false → c z ≡ None) (sym s) shut e) (λ ne. objects m ne ∙ agrees.closed m e);
  }
    where
      here_is : (j m : ℕ) → home (frame g) j ≡ Some m → j ≡ i → InBlock (held_in xs j) (c m)
      here_is j m h same_number =
          let same_object : k ≡ m = same_Some k m (sym has ∙ ap (home (frame g)) (sym same_number) ∙ h) in
          subst (λ z. InBlock (held_in xs z) (c m)) (sym same_number) (subst (λ z. InBlock (held_in xs i) (c z)) same_object is)

      elsewhere : (j m : ℕ) → home (frame g) j ≡ Some m → j ≢ i → InBlock (held_in xs j) (c m)
      elsewhere j m h ne =
          let other : m ≢ k = λ e. ne (homes_differ 0 g.f.locals j i m h (has ∙ ap Some (sym e))) in
          subst (λ y. InBlock y (c m)) (sym (others j ne)) (subst (InBlock (held_in vs j)) (sym (objects m other)) (agrees.block j m h))

  -- the register of a local with a stack object counts nowhere
  pub agrees_unused : (i k : ℕ) → home (frame g) i ≡ Some k → (h : Held) → Stands g vs (set_at tm i h) ob
  agrees_unused i k has h = record {
    count = agrees.count;
    low = agrees.low;
    switches = holds_but (length g.f.locals) (start g) i tm (set_at tm i h) (running g.a) (home_within 0 g.f.locals i k has) agrees.switches (λ j lt ne. set_there tm i h j ne);
    register = λ j l e none. let ne : j ≢ i = λ z. absurd (let c : None ≡ Some k = sym none ∙ ap (home (frame g)) z ∙ has in cc) in
        subst (InRegister (access_of_type l.ty) (held_in vs j)) (sym (set_there tm i h j ne)) (agrees.register j l e none);
    block = agrees.block;
    closed = agrees.closed;
  }

  -- ---- a block ends

  pub within_locals : (i k : ℕ) → home (frame g) i ≡ Some k → i < length vs
  within_locals i k has = let c = agrees.count in omega (arith, c, home_within 0 g.f.locals i k has)

  end_block : (b : Blocks) (i k : ℕ) → home (frame g) i ≡ Some k → (x : Variable) (o : Option ℕ) → InBlock x o → held_in vs i ≡ x → ob k ≡ o
      → Over g tm (ended_if i x (now g vs b)) (record { function = g.n; temps = tm; objects = set_at ob k None; blocks = without b o })
  end_block b i k has _ _ no_block e h = record {
    vs' = vs;
    b' = b;
    ob' = set_at ob k None;
    source_is = refl;
    code_is = refl;
    agrees' = agrees_block i k has vs (set_at ob k None) refl (λ j ne. refl) (λ m ne. set_there ob k None m ne) (subst (λ y. InBlock y (set_at ob k None k)) (sym e) (subst (InBlock source.unset) (sym (set_here ob k None)) no_block)) (λ z. set_here ob k None);
  }
  end_block b i k has _ _ (one_block c) e h = record {
    vs' = set vs i source.unset;
    b' = without b (Some c);
    ob' = set_at ob k None;
    source_is = refl;
    code_is = refl;
    agrees' = agrees_block i k has (set vs i source.unset) (set_at ob k None) (length-set vs i source.unset) (λ j ne. held_there vs i j source.unset ne) (λ m ne. set_there ob k None m ne)
        (subst (λ y. InBlock y (set_at ob k None k)) (sym (held_here vs i source.unset (within_locals i k has))) (subst (InBlock source.unset) (sym (set_here ob k None)) no_block)) (λ z. set_here ob k None);
  }

  pub end_one : (b : Blocks) (i k : ℕ) → home (frame g) i ≡ Some k → Over g tm (ended_local i (now g vs b)) (object_ended (own g ob tm b) k)
  end_one b i k has = end_block b i k has (held_in vs i) (ob k) (agrees.block i k has) refl refl

  -- a local in a register has no block
  kept_at : (b : Blocks) (i : ℕ) (how : Access) (x : Variable) (h : Held) → InRegister how x h → ended_if i x (now g vs b) ≡ now g vs b
  kept_at b i how _ _ no_value = refl
  kept_at b i how _ _ (one_value v kind) = refl

  kept_by : (b : Blocks) (i : ℕ) (o : Option tree.Local) → slice_get g.f.locals i ≡ o → home (frame g) i ≡ None → ended_local i (now g vs b) ≡ now g vs b
  kept_by b i (Some l) e none = kept_at b i (access_of_type l.ty) (held_in vs i) (tm i) (agrees.register i l e none)
  kept_by b i None e none =
      let past : length vs ≤ i = beyond g.f.locals i e (agrees.count) in
      ap (λ o. ended_if i (variable_or_unset o) (now g vs b)) (slice_get_past vs i past)
    where
      beyond : (ls : List tree.Local) (i : ℕ) → slice_get ls i ≡ None → length vs ≡ length ls → length vs ≤ i
      beyond ls i e c = let h = past_list ls i e in omega (arith, c, h)
        where
          past_list : (ls : List tree.Local) (i : ℕ) → slice_get ls i ≡ None → length ls ≤ i
          past_list [] i e = omega arith
          past_list (l ∷ ls) zero e = absurd cc
          past_list (l ∷ ls) (suc i) e = omega (arith, past_list ls i e)

  pub end_register : (b : Blocks) (i : ℕ) → home (frame g) i ≡ None → ended_local i (now g vs b) ≡ now g vs b
  end_register b i none = kept_by b i (slice_get g.f.locals i) refl none
