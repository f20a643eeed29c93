-- The pieces of code are valid and bare.
use Rattle.std.proofs.Common.{◌≡◌, ℕ, zero, suc, ◌<◌, Bool, true, false, if◌then◌else◌, List, [], ◌∷◌, ◌++◌, Option, Some, None, refl, ap, sym, ◌∙◌, ◌==◌, ◌||◌, arith}
use Rattle.std.proofs.lemmas.Bool.{and_from, lt-ltb}
use Rattle.std.specs.Prelude.{nat_lt, IsTrue}
use Rattle.ak_words.specs.declared.int_type.IntType.{IntType}
use Rattle.ak_words.specs.IntType.{int, promoted_type}
use Rattle.ak_words.specs.Width.{is_width}
use Rattle.c_meaning.specs.Values.{access_of_type}
use Rattle.c_tree.specs.Typed as tree
use Rattle.struct_ir.specs.Nodes.{Calc, Place, Step, Nodes, no_nodes, more_nodes, plain, if_, loop, break_, next_, ret, set, step, end_object}
use Rattle.struct_ir.specs.Nodes as ir
use Rattle.struct_ir.specs.Lists.{bare_place, bare_step}
use Rattle.struct_ir.specs.Erased.{erased}
use Rattle.struct_ir.specs.meaning.Blocks.{same_type}
use Rattle.struct_ir.specs.Valid.{Scope, Around, body_of, latch_of, is_below_if, is_promoted, is_calc, is_place, is_step, are_nodes}
use Rattle.lower_forms.specs.Forms.{sets, acts, branches, sets_int, sets_long, sets_truth, Reach, found, direct, indexed, at_temp, reached, member_reach, loads, object_nodes, member_nodes, converts_number, ends}

-- a row is valid there, and has no Look, safepoint, slot or list
pub record Good (x : Scope) (a : Around) (n : Nodes) : Type 0 where
  pub valid : are_nodes x a n ≡ true
  pub bare : erased n ≡ n

-- a step is valid and bare
pub record GoodStep (x : Scope) (s : Step) : Type 0 where
  pub valid : is_step x s ≡ true
  pub bare : bare_step s ≡ s

module _ (x : Scope) where
  -- the register is there
  abbrev pub Below : ℕ → Type 0
  Below t = t < x.temps

  pub below : (t : ℕ) → Below t → nat_lt t x.temps ≡ true
  below t h = lt-ltb t x.temps h

  pub good_none : (a : Around) → Good x a no_nodes
  good_none a = record { valid = refl; bare = refl }

  pub good_set : (a : Around) (place to : ℕ) (c : Calc) (rest : Nodes) → Below to → is_calc x c ≡ true → Good x a rest → Good x a (sets place to c rest)
  good_set a place to c rest h k g = record {
    valid = and_from _ _ (and_from _ _ (below to h) k) g.valid;
    bare = ap (more_nodes (plain place (set to c))) g.bare;
  }

  pub good_becomes : (a : Around) (place : ℕ) (u v : IntType) (t : ℕ) (rest : Nodes) → Below t → Good x a rest → Good x a (converts_number place u v t rest)
  good_becomes a place u v t rest h g = by_type (same_type u v)
    where
      by_type : (same : Bool) → Good x a (if same then rest else sets place t (ir.convert v t) rest)
      by_type true = g
      by_type false = good_set a place t _ rest h (below t h) g

  pub good_step : (a : Around) (place : ℕ) (s : Step) (rest : Nodes) → GoodStep x s → Good x a rest → Good x a (more_nodes (plain place (step s)) rest)
  good_step a place s rest h g = record {
    valid = and_from _ _ h.valid g.valid;
    bare = λ i. more_nodes (plain place (step (h.bare i))) (g.bare i);
  }

  pub good_branches : (a : Around) (place t : ℕ) (one other rest : Nodes) → Below t → Good x a one → Good x a other → Good x a rest → Good x a (branches place t one other rest)
  good_branches a place t one other rest h p q g = record {
    valid = and_from _ _ (and_from _ _ (below t h) (and_from _ _ p.valid q.valid)) g.valid;
    bare = λ i. more_nodes (if_ place t (p.bare i) (q.bare i)) (g.bare i);
  }

  pub good_loop : (a : Around) (place : ℕ) (body latch rest : Nodes) → Good x body_of body → Good x latch_of latch → Good x a rest → Good x a (more_nodes (loop place body latch) rest)
  good_loop a place body latch rest p q g = record {
    valid = and_from _ _ (and_from _ _ p.valid q.valid) g.valid;
    bare = λ i. more_nodes (loop place (p.bare i) (q.bare i)) (g.bare i);
  }

  pub good_break : (a : Around) (place : ℕ) (rest : Nodes) → a.in_loop ≡ true → Good x a rest → Good x a (more_nodes (break_ place) rest)
  good_break a place rest h g = record { valid = and_from _ _ h g.valid; bare = ap (more_nodes (break_ place)) g.bare }

  pub good_next : (a : Around) (place : ℕ) (rest : Nodes) → a.in_body ≡ true → Good x a rest → Good x a (more_nodes (next_ place) rest)
  good_next a place rest h g = record { valid = and_from _ _ h g.valid; bare = ap (more_nodes (next_ place)) g.bare }

  pub good_ret : (a : Around) (place : ℕ) (t : Option ℕ) (rest : Nodes) → is_below_if x.temps t ≡ true → Good x a rest → Good x a (more_nodes (ret place t) rest)
  good_ret a place t rest h g = record { valid = and_from _ _ h g.valid; bare = ap (more_nodes (ret place t)) g.bare }

  pub good_int : (a : Around) (place t n : ℕ) (rest : Nodes) → Below t → Good x a rest → Good x a (sets_int place t n rest)
  good_int a place t n rest h g = good_set a place t _ rest h refl g

  pub good_long : (a : Around) (place t n : ℕ) (rest : Nodes) → Below t → Good x a rest → Good x a (sets_long place t n rest)
  good_long a place t n rest h g = good_set a place t _ rest h refl g

  pub good_truth : (a : Around) (place t m n : ℕ) (rest : Nodes) → Below t → Good x a rest → Good x a (sets_truth place t m n rest)
  good_truth a place t m n rest h g =
      good_branches a place t _ _ rest h (good_int a place t m no_nodes h (good_none a)) (good_int a place t n no_nodes h (good_none a)) g

  -- ---- places

  -- what an access goes by is there
  abbrev pub InReach : Reach → ℕ → Type 0
  InReach found t = Below t
  InReach (direct base offset) t = Below base
  InReach (indexed base scale offset) t = Below base × Below (suc t)

  pub place_in : (r : Reach) (t : ℕ) → InReach r t → is_place x (reached r t) ≡ true
  place_in found t h = and_from _ _ (below t h) refl
  place_in (direct base offset) t h = and_from _ _ (below base h) refl
  place_in (indexed base scale offset) t h = and_from _ _ (below base h.0) (and_from _ _ (below (suc t) h.1) refl)

  pub place_bare : (r : Reach) (t : ℕ) → bare_place (reached r t) ≡ reached r t
  place_bare found t = refl
  place_bare (direct base offset) t = refl
  place_bare (indexed base scale offset) t = refl

  pub temp_in : (t : ℕ) → Below t → is_place x (at_temp t) ≡ true
  temp_in t h = and_from _ _ (below t h) refl

  pub member_in : (offset : ℕ) (r : Reach) (t : ℕ) → Below t → InReach r t → InReach (member_reach offset r) t
  member_in offset found t k h = k
  member_in offset (direct base zero) t k h = h
  member_in offset (direct base (suc n)) t k h = k
  member_in offset (indexed base scale zero) t k h = h
  member_in offset (indexed base scale (suc n)) t k h = k

  -- ---- steps

  -- one place, no register, a result
  pub load_step : (a : Around) (place : ℕ) (ty : tree.Ty) (p : Place) (t : ℕ) (rest : Nodes) → is_place x p ≡ true → bare_place p ≡ p → Below t → Good x a rest
      → Good x a (acts place (ir.load (access_of_type ty)) (p ∷ []) (Some t) [] rest)
  load_step a place ty p t rest h b k g = good_step a place _ rest (record {
    valid = and_from _ _ (and_from _ _ (and_from _ _ h refl) (and_from _ _ refl (below t k))) refl;
    bare = λ i. record { action = ir.load (access_of_type ty); places = b i ∷ []; to = Some t; temps = []; slots = [] };
  }) g

  pub good_loads : (a : Around) (place : ℕ) (ty : tree.Ty) (r : Reach) (t : ℕ) (rest : Nodes) → InReach r t → Below t → Good x a rest → Good x a (loads place ty r t rest)
  good_loads a place ty r t rest h k g = load_step a place ty (reached r t) t rest (place_in r t h) (place_bare r t) k g

  -- one place, one register
  pub store_step : (a : Around) (place : ℕ) (ty : tree.Ty) (p : Place) (t : ℕ) (rest : Nodes) → is_place x p ≡ true → bare_place p ≡ p → Below t → Good x a rest
      → Good x a (acts place (ir.store (access_of_type ty)) (p ∷ []) None (t ∷ []) rest)
  store_step a place ty p t rest h b k g = good_step a place _ rest (record {
    valid = and_from _ _ (and_from _ _ (and_from _ _ h refl) (and_from _ _ (and_from _ _ (below t k) refl) refl)) refl;
    bare = λ i. record { action = ir.store (access_of_type ty); places = b i ∷ []; to = None; temps = t ∷ []; slots = [] };
  }) g

  pub copy_step : (a : Around) (place align : ℕ) (same : Bool) (p q : Place) (t : ℕ) (rest : Nodes) → is_place x p ≡ true → bare_place p ≡ p → is_place x q ≡ true → bare_place q ≡ q → Below t
      → Good x a rest → Good x a (acts place (ir.copy_bytes align same) (p ∷ q ∷ []) None (t ∷ []) rest)
  copy_step a place align same p q t rest h b i c k g = good_step a place _ rest (record {
    valid = and_from _ _ (and_from _ _ (and_from _ _ h (and_from _ _ i refl)) (and_from _ _ (and_from _ _ (below t k) refl) refl)) refl;
    bare = λ j. record { action = ir.copy_bytes align same; places = b j ∷ c j ∷ []; to = None; temps = t ∷ []; slots = [] };
  }) g

  -- ---- parts of expressions

  pub good_object : (a : Around) (place object t : ℕ) (rest : Nodes) → nat_lt object x.objects ≡ true → Below t → Good x a rest → Good x a (object_nodes place object t rest)
  good_object a place object t rest h k g = good_set a place t _ _ k h (good_set a place t _ rest k (below t k) g)

  pub good_member : (a : Around) (place offset w t : ℕ) (rest : Nodes) → Below w → Below t → Good x a rest → Good x a (member_nodes place offset w t rest)
  good_member a place offset w t rest h k g = good_long a place w offset _ h (good_set a place t _ rest k (and_from _ _ (below t k) (below w h)) g)

  -- ---- stack objects

  -- each of them is there
  abbrev pub AreObjects : List ℕ → Type 0
  AreObjects [] = Unit {0}
  AreObjects (k ∷ rest) = (nat_lt k x.objects ≡ true) × AreObjects rest

  pub objects_both : (ks ls : List ℕ) → AreObjects ks → AreObjects ls → AreObjects (ks ++ ls)
  objects_both [] ls h i = i
  objects_both (k ∷ ks) ls h i = (h.0, objects_both ks ls h.1 i)

  pub good_ends : (a : Around) (place : ℕ) (ks : List ℕ) (rest : Nodes) → AreObjects ks → Good x a rest → Good x a (ends place ks rest)
  good_ends a place [] rest h g = g
  good_ends a place (k ∷ ks) rest h g =
      let r = good_ends a place ks rest h.1 g in
      record { valid = and_from _ _ h.0 r.valid; bare = ap (more_nodes (plain place (end_object k))) r.bare }

-- ---- types

-- a type of at least 32 bits has 32 or 64
wide : (n : ℕ) → nat_lt n 32 ≡ false → IsTrue (is_width n) → ((n == 32) || (n == 64)) ≡ true
wide n e h = grind arith

pub promoted_is : (t : IntType) → promoted_type t ≡ t → is_promoted t ≡ true
promoted_is t e = by (nat_lt t.bits 32) refl
  where
    by : (b : Bool) → nat_lt t.bits 32 ≡ b → is_promoted t ≡ true
    by true h = sym (ap is_promoted ((λ i. if sym h i then int else t) ∙ e))
    by false h = wide t.bits h t.known_width

pub promotes : (t : IntType) → is_promoted (promoted_type t) ≡ true
promotes t = by (nat_lt t.bits 32) refl
  where
    by : (b : Bool) → nat_lt t.bits 32 ≡ b → is_promoted (if b then int else t) ≡ true
    by true h = refl
    by false h = wide t.bits h t.known_width
