-- The code of expressions is valid and bare.
use Rattle.std.proofs.Common.{◌≡◌, ℕ, zero, suc, ◌+◌, ◌<◌, ◌≤◌, Bool, true, false, not, if◌then◌else◌, List, [], ◌∷◌, length, map, Option, Some, None, ◌⊎◌, inl, inr, refl, ap, sym, subst, ◌∙◌, ◌==◌, ◌&&◌, count_by, arith}
use Rattle.std.proofs.lemmas.List.Sums.{sum_by-cons}
use mathlib.Core.Bool.{cond}
use Rattle.std.proofs.lemmas.Bool.{and_from}
use Rattle.std.specs.Prelude.{nat_lt, slice_get}
use Rattle.std.specs.List.{list_all}
use Rattle.ak_words.specs.IntType.{int, unsigned_long, promoted_type}
use Rattle.ak_words.specs.declared.int_type.IntType.{IntType}
use Rattle.ak_words.specs.declared.operation.Op.{Op}
use Rattle.ak_words.specs.declared.operation.Op.TheVariants as ops
use Rattle.block_store.specs.declared.values.Change.{Change}
use Rattle.block_store.specs.declared.values.Change.TheVariants.{Add, Swap}
use Rattle.c_tree.specs.Typed as tree
use Rattle.c_tree.specs.TypedForm.{IsPointer, HasBits, ArePrinted, Signature, CanStart, InScope, IsNth, AreArguments, IsAtomicCall, IsLibCall, IsTyped, IsTypedNode, AreTyped}
use Rattle.c_tree.specs.TypedPrinting.{takes_number, takes_text}
use Rattle.c_meaning.specs.Values.{element_size}
use Rattle.struct_ir.specs.Nodes.{Place, Nodes, no_nodes, more_nodes, plain, call}
use Rattle.struct_ir.specs.Nodes as ir
use Rattle.struct_ir.specs.Lists.{bare_place}
use Rattle.struct_ir.specs.Valid.{Scope, Around, is_below_if, are_below, is_promoted, is_calc, is_place, has_params, has_width, is_piece}
use Rattle.lower_forms.specs.Counts.{count, count_parts, count_all}
use Rattle.lower_forms.specs.Forms.{Frame, home, first_temp, acts, calls, Reach, found, direct, indexed, at_temp, behind, member_reach, register_if, is_pointer, register_of, register_in, direct_if, indexed_if, pointer_register, pointed, reach, number_type, compares_to_zero, negation, local_value, local_place, converts, sum_calc, temps_of, is_number, with_if, number_temps, text_places, pointed_number, changed_number, change_nodes, lib_nodes, expr_nodes, value_nodes, place_nodes, object_place, args_nodes}
use Rattle.lower_forms.proofs.Operands.{operands_promoted}
use Rattle.lower_forms.proofs.Pieces.{Good, promoted_is, promotes, below, good_none, good_set, good_becomes, good_step, good_branches, good_int, good_long, good_truth, InReach, temp_in, member_in, good_loads, store_step, copy_step, good_object, good_member}

-- ---- formats

width : (bits : ℕ) (ty : tree.Ty) → HasBits bits ty → has_width bits ≡ true
width bits (tree.integer s) h = of_width h.1
  where
    of_width : (bits ≡ 32) ⊎ (bits ≡ 64) → has_width bits ≡ true
    of_width (inl e) = subst (λ b. has_width b ≡ true) (sym e) refl
    of_width (inr e) = subst (λ b. has_width b ≡ true) (sym e) refl
width bits ty h = elim h [ ]

printed_pieces : (pieces : List tree.Piece) (es : tree.Exprs) → ArePrinted pieces es → list_all is_piece pieces ≡ true
printed_pieces [] es h = refl
printed_pieces (tree.bytes all ∷ pieces) es h = printed_pieces pieces es h
printed_pieces (tree.signed bits ∷ pieces) (tree.more_exprs e es) h = and_from _ _ (width bits (tree.type_of e) h.0) (printed_pieces pieces es h.1)
printed_pieces (tree.unsigned bits ∷ pieces) (tree.more_exprs e es) h = and_from _ _ (width bits (tree.type_of e) h.0) (printed_pieces pieces es h.1)
printed_pieces (tree.hexadecimal bits ∷ pieces) (tree.more_exprs e es) h = and_from _ _ (width bits (tree.type_of e) h.0) (printed_pieces pieces es h.1)
printed_pieces (tree.character ∷ pieces) (tree.more_exprs e es) h = printed_pieces pieces es h.1
printed_pieces (tree.text ∷ pieces) (tree.more_exprs e es) h = printed_pieces pieces es h.1
printed_pieces (tree.signed bits ∷ pieces) tree.no_exprs h = elim h [ ]
printed_pieces (tree.unsigned bits ∷ pieces) tree.no_exprs h = elim h [ ]
printed_pieces (tree.hexadecimal bits ∷ pieces) tree.no_exprs h = elim h [ ]
printed_pieces (tree.character ∷ pieces) tree.no_exprs h = elim h [ ]
printed_pieces (tree.text ∷ pieces) tree.no_exprs h = elim h [ ]

-- what a function's nodes may name is there, where its tree names it
pub record Suits (x : Scope) (c : InScope) (f : Frame) : Type 0 where
  pub first : first_temp f ≤ x.temps
  pub flag : (g : ℕ) → f.flag ≡ Some g → g < x.temps
  pub local : (n : ℕ) (l : tree.Local) → slice_get c.locals n ≡ Some l → n < x.temps
  pub object : (n k : ℕ) → home f n ≡ Some k → nat_lt k x.objects ≡ true
  pub global : (n : ℕ) (ty : tree.Ty) → slice_get c.globals n ≡ Some ty → nat_lt n x.globals ≡ true
  pub literal : (n : ℕ) (bs : List ℕ) → slice_get c.literals n ≡ Some bs → nat_lt n x.literals ≡ true
  pub params : (n : ℕ) (s : Signature) → slice_get c.funcs n ≡ Some s → slice_get x.params n ≡ Some (length s.params)

-- ---- arguments

pub same_of : (m n : ℕ) → m ≡ n → (m == n) ≡ true
same_of m n e = grind (arith, e)

temps_long : (ts : List tree.Ty) (es : tree.Exprs) (t : ℕ) → AreArguments ts es → length (temps_of es t) ≡ length ts
temps_long [] tree.no_exprs t h = refl
temps_long (ty ∷ ts) (tree.more_exprs e es) t h = ap suc (temps_long ts es (suc t) h.1)
temps_long [] (tree.more_exprs e es) t h = absurd h
temps_long (ty ∷ ts) tree.no_exprs t h = absurd h

pub at_least_one : (e : tree.Expr) → 1 ≤ count e
at_least_one (tree.at place ty node) = omega arith

args_many : (ts : List tree.Ty) (es : tree.Exprs) → AreArguments ts es → length ts ≤ count_all es
args_many [] tree.no_exprs h = omega arith
args_many (ty ∷ ts) (tree.more_exprs e es) h = omega (arith, at_least_one e, args_many ts es h.1)
args_many [] (tree.more_exprs e es) h = absurd h
args_many (ty ∷ ts) tree.no_exprs h = absurd h

atomic_many : (others : IntType → List tree.Ty) (result : IntType → tree.Ty) (es : tree.Exprs) (ty : tree.Ty) (n : ℕ) → ((u : IntType) → length (others u) ≡ n) → IsAtomicCall others result es ty → suc n ≤ count_all es
atomic_many others result tree.no_exprs ty n l h = elim h [ ]
atomic_many others result (tree.more_exprs e es) ty n l h = omega (arith, at_least_one e, args_many (others h.0) es h.3, l h.0)

-- the number that is changed has 32 or 64 bits
changed_promoted : (others : IntType → List tree.Ty) (result : IntType → tree.Ty) (es : tree.Exprs) (ty : tree.Ty) → IsAtomicCall others result es ty → is_promoted (changed_number es) ≡ true
changed_promoted others result tree.no_exprs ty h = elim h [ ]
changed_promoted others result (tree.more_exprs e es) ty h = ap (λ (u : tree.Ty). is_promoted (pointed_number u)) h.1 ∙ promoted_is h.0 h.2

number_has : (bits : ℕ) (ty : tree.Ty) → HasBits bits ty → is_number ty ≡ true
number_has bits tree.void h = elim h [ ]
number_has bits (tree.integer s) h = refl
number_has bits (tree.atomic s) h = elim h [ ]
number_has bits tree.mutex h = elim h [ ]
number_has bits (tree.pointer s) h = elim h [ ]
number_has bits (tree.array s n) h = elim h [ ]
number_has bits (tree.structure n) h = elim h [ ]

pointer_has_none : (ty : tree.Ty) → IsPointer ty → is_number ty ≡ false
pointer_has_none tree.void h = elim h [ ]
pointer_has_none (tree.integer s) h = elim h [ ]
pointer_has_none (tree.atomic s) h = elim h [ ]
pointer_has_none tree.mutex h = elim h [ ]
pointer_has_none (tree.pointer s) h = refl
pointer_has_none (tree.array s n) h = elim h [ ]
pointer_has_none (tree.structure n) h = elim h [ ]

text_more : (b c : Bool) (t : ℕ) (ps : List Place) → b ≡ c → length (with_if (not b) (at_temp t) ps) ≡ length (with_if (not c) (at_temp t) ps)
text_more b c t ps e = ap (λ d. length (with_if (not d) (at_temp t) ps)) e

texts_more : (p : tree.Piece) (pieces : List tree.Piece) → takes_text p ≡ true → suc (count_by takes_text pieces) ≡ count_by takes_text (p ∷ pieces)
texts_more p pieces e = omega (arith, sum_by-cons (λ y. cond (takes_text y) 1 0) p pieces, ap {B = ℕ} (λ b. cond b 1 0) e)

numbers_more : (p : tree.Piece) (pieces : List tree.Piece) → takes_number p ≡ true → suc (count_by takes_number pieces) ≡ count_by takes_number (p ∷ pieces)
numbers_more p pieces e = omega (arith, sum_by-cons (λ y. cond (takes_number y) 1 0) p pieces, ap {B = ℕ} (λ b. cond b 1 0) e)

texts_counted : (pieces : List tree.Piece) (es : tree.Exprs) (t : ℕ) → ArePrinted pieces es → length (text_places es t) ≡ count_by takes_text pieces
texts_counted [] tree.no_exprs t h = refl
texts_counted [] (tree.more_exprs e es) t h = elim h [ ]
texts_counted (tree.bytes all ∷ pieces) es t h = texts_counted pieces es t h
texts_counted (tree.signed bits ∷ pieces) tree.no_exprs t h = elim h [ ]
texts_counted (tree.unsigned bits ∷ pieces) tree.no_exprs t h = elim h [ ]
texts_counted (tree.hexadecimal bits ∷ pieces) tree.no_exprs t h = elim h [ ]
texts_counted (tree.character ∷ pieces) tree.no_exprs t h = elim h [ ]
texts_counted (tree.text ∷ pieces) tree.no_exprs t h = elim h [ ]
texts_counted (tree.signed bits ∷ pieces) (tree.more_exprs e es) t h = text_more _ true t _ (number_has bits (tree.type_of e) h.0) ∙ texts_counted pieces es (suc t) h.1
texts_counted (tree.unsigned bits ∷ pieces) (tree.more_exprs e es) t h = text_more _ true t _ (number_has bits (tree.type_of e) h.0) ∙ texts_counted pieces es (suc t) h.1
texts_counted (tree.hexadecimal bits ∷ pieces) (tree.more_exprs e es) t h = text_more _ true t _ (number_has bits (tree.type_of e) h.0) ∙ texts_counted pieces es (suc t) h.1
texts_counted (tree.character ∷ pieces) (tree.more_exprs e es) t h = text_more _ true t _ (number_has 32 (tree.type_of e) h.0) ∙ texts_counted pieces es (suc t) h.1
texts_counted (tree.text ∷ pieces) (tree.more_exprs e es) t h = text_more _ false t _ (pointer_has_none (tree.type_of e) h.0) ∙ (ap suc (texts_counted pieces es (suc t) h.1) ∙ texts_more tree.text pieces refl)

number_more : (b c : Bool) (t : ℕ) (ts : List ℕ) → b ≡ c → length (with_if b t ts) ≡ length (with_if c t ts)
number_more b c t ts e = ap (λ d. length (with_if d t ts)) e

numbers_counted : (pieces : List tree.Piece) (es : tree.Exprs) (t : ℕ) → ArePrinted pieces es → length (number_temps es t) ≡ count_by takes_number pieces
numbers_counted [] tree.no_exprs t h = refl
numbers_counted [] (tree.more_exprs e es) t h = elim h [ ]
numbers_counted (tree.bytes all ∷ pieces) es t h = numbers_counted pieces es t h
numbers_counted (tree.signed bits ∷ pieces) tree.no_exprs t h = elim h [ ]
numbers_counted (tree.unsigned bits ∷ pieces) tree.no_exprs t h = elim h [ ]
numbers_counted (tree.hexadecimal bits ∷ pieces) tree.no_exprs t h = elim h [ ]
numbers_counted (tree.character ∷ pieces) tree.no_exprs t h = elim h [ ]
numbers_counted (tree.text ∷ pieces) tree.no_exprs t h = elim h [ ]
numbers_counted (tree.signed bits ∷ pieces) (tree.more_exprs e es) t h = number_more _ true t _ (number_has bits (tree.type_of e) h.0) ∙ (ap suc (numbers_counted pieces es (suc t) h.1) ∙ numbers_more (tree.signed bits) pieces refl)
numbers_counted (tree.unsigned bits ∷ pieces) (tree.more_exprs e es) t h = number_more _ true t _ (number_has bits (tree.type_of e) h.0) ∙ (ap suc (numbers_counted pieces es (suc t) h.1) ∙ numbers_more (tree.unsigned bits) pieces refl)
numbers_counted (tree.hexadecimal bits ∷ pieces) (tree.more_exprs e es) t h = number_more _ true t _ (number_has bits (tree.type_of e) h.0) ∙ (ap suc (numbers_counted pieces es (suc t) h.1) ∙ numbers_more (tree.hexadecimal bits) pieces refl)
numbers_counted (tree.character ∷ pieces) (tree.more_exprs e es) t h = number_more _ true t _ (number_has 32 (tree.type_of e) h.0) ∙ (ap suc (numbers_counted pieces es (suc t) h.1) ∙ numbers_more (tree.character) pieces refl)
numbers_counted (tree.text ∷ pieces) (tree.more_exprs e es) t h = number_more _ false t _ (pointer_has_none (tree.type_of e) h.0) ∙ numbers_counted pieces es (suc t) h.1

module _ (x : Scope) where
  pub temps_below : (es : tree.Exprs) (t : ℕ) → t + count_all es ≤ x.temps → are_below x.temps (temps_of es t) ≡ true
  temps_below tree.no_exprs t h = refl
  temps_below (tree.more_exprs e es) t h =
      and_from _ _ (below x t (omega (arith, h, at_least_one e))) (temps_below es (suc t) (omega (arith, h, at_least_one e)))

  with_if_below : (b : Bool) (t : ℕ) (ts : List ℕ) → t < x.temps → are_below x.temps ts ≡ true → are_below x.temps (with_if b t ts) ≡ true
  with_if_below true t ts h e = and_from _ _ (below x t h) e
  with_if_below false t ts h e = e

  numbers_below : (es : tree.Exprs) (t : ℕ) → t + count_all es ≤ x.temps → are_below x.temps (number_temps es t) ≡ true
  numbers_below tree.no_exprs t h = refl
  numbers_below (tree.more_exprs e es) t h =
      with_if_below (is_number (tree.type_of e)) t _ (omega (arith, h, at_least_one e)) (numbers_below es (suc t) (omega (arith, h, at_least_one e)))

  with_if_places : (b : Bool) (t : ℕ) (ps : List Place) → t < x.temps → list_all (is_place x) ps ≡ true → list_all (is_place x) (with_if b (at_temp t) ps) ≡ true
  with_if_places true t ps h e = and_from _ _ (temp_in x t h) e
  with_if_places false t ps h e = e

  texts_below : (es : tree.Exprs) (t : ℕ) → t + count_all es ≤ x.temps → list_all (is_place x) (text_places es t) ≡ true
  texts_below tree.no_exprs t h = refl
  texts_below (tree.more_exprs e es) t h =
      with_if_places (not (is_number (tree.type_of e))) t _ (omega (arith, h, at_least_one e)) (texts_below es (suc t) (omega (arith, h, at_least_one e)))

  with_if_bare : (b : Bool) (t : ℕ) (ps : List Place) → map bare_place ps ≡ ps → map bare_place (with_if b (at_temp t) ps) ≡ with_if b (at_temp t) ps
  with_if_bare true t ps e = ap (λ l. at_temp t ∷ l) e
  with_if_bare false t ps e = e

  texts_bare : (es : tree.Exprs) (t : ℕ) → map bare_place (text_places es t) ≡ text_places es t
  texts_bare tree.no_exprs t = refl
  texts_bare (tree.more_exprs e es) t = with_if_bare (not (is_number (tree.type_of e))) t _ (texts_bare es (suc t))

  -- one place, one register, and a result that may be dropped
  change_step : (a : Around) (place : ℕ) (how : Change) (ty : IntType) (p : Place) (u : ℕ) (to : Option ℕ) (rest : Nodes) → is_promoted ty ≡ true → is_place x p ≡ true → bare_place p ≡ p → u < x.temps → is_below_if x.temps to ≡ true
      → Good x a rest → Good x a (acts place (ir.change how ty) (p ∷ []) to (u ∷ []) rest)
  change_step a place how ty p u to rest q h b k w g = good_step x a place _ rest (record {
    valid = and_from _ _ (and_from _ _ (and_from _ _ h refl) (and_from _ _ (and_from _ _ (below x u k) refl) w)) (and_from _ _ refl (and_from _ _ q refl));
    bare = λ i. record { action = ir.change how ty; places = b i ∷ []; to = to; temps = u ∷ []; slots = [] };
  }) g

  pub good_change : (a : Around) (place : ℕ) (away : Bool) (ty : IntType) (p : Place) (u : ℕ) (to : Option ℕ) (rest : Nodes) → is_promoted ty ≡ true → is_place x p ≡ true → bare_place p ≡ p → suc u < x.temps → is_below_if x.temps to ≡ true
      → Good x a rest → Good x a (change_nodes place away ty p u to rest)
  good_change a place false ty p u to rest q h b k w g = change_step a place Add ty p u to rest q h b (omega (arith, k)) w g
  good_change a place true ty p u to rest q h b k w g =
      let m : u < x.temps = omega (arith, k) in
      good_set x a place u _ _ m (below x u m) (good_set x a place (suc u) _ _ k refl
      (good_set x a place u _ _ m (and_from _ _ q (and_from _ _ (below x (suc u) k) (below x u m))) (good_set x a place u _ _ m (below x u m) (change_step a place Add ty p u to rest q h b m w g))))

  pub good_call : (a : Around) (place : ℕ) (to : Option ℕ) (function : ℕ) (temps : List ℕ) (rest : Nodes) → is_below_if x.temps to ≡ true → are_below x.temps temps ≡ true
      → has_params (slice_get x.params function) (length temps) ≡ true → Good x a rest → Good x a (calls place to function temps rest)
  good_call a place to function temps rest h k p g = record {
    valid = and_from _ _ (and_from _ _ (and_from _ _ h k) (and_from _ _ p refl)) g.valid;
    bare = ap (more_nodes (plain place (call (record { to = to; function = function; temps = temps; slots = [] })))) g.bare;
  }

module _ (x : Scope) (c : InScope) (f : Frame) (s : Suits x c f) where
  -- a call has as many arguments as its function has parameters
  pub called : (function : ℕ) (g : Signature) (es : tree.Exprs) (t : ℕ) → slice_get c.funcs function ≡ Some g → AreArguments g.params es
      → has_params (slice_get x.params function) (length (temps_of es t)) ≡ true
  called function g es t e h =
      ap (λ o. has_params o (length (temps_of es t))) (s.params function g e) ∙ same_of _ _ (sym (temps_long g.params es t h))

  started : (function : ℕ) → IsNth c.funcs function CanStart → has_params (slice_get x.params function) 1 ≡ true
  started function h =
      ap (λ o. has_params o 1) (s.params function h.0 h.1) ∙ ap (λ l. length l == 1) h.2.1

  good_lib : (a : Around) (place : ℕ) (which : tree.Lib) (es : tree.Exprs) (ty : tree.Ty) (t : ℕ) (rest : Nodes) → IsLibCall c which es ty
      → t + suc (count_all es) ≤ x.temps → Good x a rest → Good x a (lib_nodes place which es t rest)
  good_lib a place (tree.print pieces) es ty t rest h k g = good_step x a place _ rest (record {
    valid = and_from _ _ (and_from _ _ (texts_below x es t (omega (arith, k))) (and_from _ _ (numbers_below x es t (omega (arith, k))) (below x t (omega (arith, k)))))
        (and_from _ _ (and_from _ _ (same_of _ _ (texts_counted pieces es t h.0)) (and_from _ _ (same_of _ _ (numbers_counted pieces es t h.0)) refl)) (and_from _ _ (printed_pieces pieces es h.0) refl));
    bare = ap (λ l. record { action = ir.print pieces; places = l; to = Some t; temps = number_temps es t; slots = [] }) (texts_bare x es t);
  }) g
  good_lib a place tree.malloc es ty t rest h k g = good_step x a place _ rest (record {
    valid = and_from _ _ (and_from _ _ refl (and_from _ _ (and_from _ _ (below x t (omega (arith, k))) refl) (below x t (omega (arith, k))))) refl;
    bare = refl;
  }) g
  good_lib a place tree.calloc es ty t rest h k g =
      let m : 2 ≤ count_all es = args_many (tree.integer unsigned_long ∷ tree.integer unsigned_long ∷ []) es h.0 in
      good_step x a place _ rest (record {
        valid = and_from _ _ (and_from _ _ refl (and_from _ _ (and_from _ _ (below x t (omega (arith, k))) (and_from _ _ (below x (suc t) (omega (arith, k, m))) refl)) (below x t (omega (arith, k))))) refl;
        bare = refl;
      }) g
  good_lib a place tree.realloc es ty t rest h k g =
      let m : 2 ≤ count_all es = args_many (tree.pointer tree.void ∷ tree.integer unsigned_long ∷ []) es h.0 in
      good_step x a place _ rest (record {
        valid = and_from _ _ (and_from _ _ refl (and_from _ _ (and_from _ _ (below x t (omega (arith, k))) (and_from _ _ (below x (suc t) (omega (arith, k, m))) refl)) (below x t (omega (arith, k))))) refl;
        bare = refl;
      }) g
  good_lib a place tree.free es ty t rest h k g = good_step x a place _ rest (record {
    valid = and_from _ _ (and_from _ _ refl (and_from _ _ (and_from _ _ (below x t (omega (arith, k))) refl) refl)) refl;
    bare = refl;
  }) g
  good_lib a place tree.copy es ty t rest h k g =
      let m : 3 ≤ count_all es = args_many (tree.pointer tree.void ∷ tree.pointer tree.void ∷ tree.integer unsigned_long ∷ []) es h.0 in
      copy_step x a place 1 false (at_temp t) (at_temp (suc t)) (suc (suc t)) rest (temp_in x t (omega (arith, k))) refl
      (temp_in x (suc t) (omega (arith, k, m))) refl (omega (arith, k, m)) g
  good_lib a place (tree.start function) es ty t rest h k g =
      let m : 2 ≤ count_all es = args_many (tree.pointer (tree.integer unsigned_long) ∷ tree.pointer tree.void ∷ []) es h.1 in
      good_step x a place _ rest (record {
        valid = and_from _ _ (and_from _ _ (and_from _ _ (temp_in x t (omega (arith, k))) refl) (and_from _ _ (and_from _ _ (below x (suc t) (omega (arith, k, m))) refl) (below x t (omega (arith, k)))))
            (and_from _ _ refl (and_from _ _ (started function h.0) refl));
        bare = refl;
      }) g
  good_lib a place tree.join es ty t rest h k g =
      let m : 2 ≤ count_all es = args_many (tree.integer unsigned_long ∷ tree.pointer (tree.integer int) ∷ []) es h.0 in
      good_step x a place _ rest (record {
        valid = and_from _ _ (and_from _ _ (and_from _ _ (temp_in x (suc t) (omega (arith, k, m))) refl) (and_from _ _ (and_from _ _ (below x t (omega (arith, k))) refl) (below x t (omega (arith, k))))) refl;
        bare = refl;
      }) g
  good_lib a place tree.mutex_init es ty t rest h k g =
      let m : 1 ≤ count_all es = args_many (tree.pointer tree.mutex ∷ []) es h.0 in
      good_long x a place (suc t) 0 _ (omega (arith, k, m))
      (store_step x a place (tree.integer unsigned_long) (at_temp t) (suc t) _ (temp_in x t (omega (arith, k))) refl (omega (arith, k, m)) (good_int x a place t 0 rest (omega (arith, k)) g))
  good_lib a place tree.mutex_lock es ty t rest h k g = good_step x a place _ _ (record {
    valid = and_from _ _ (and_from _ _ (and_from _ _ (temp_in x t (omega (arith, k))) refl) refl) refl;
    bare = refl;
  }) (good_int x a place t 0 rest (omega (arith, k)) g)
  good_lib a place tree.mutex_unlock es ty t rest h k g = good_step x a place _ _ (record {
    valid = and_from _ _ (and_from _ _ (and_from _ _ (temp_in x t (omega (arith, k))) refl) refl) refl;
    bare = refl;
  }) (good_int x a place t 0 rest (omega (arith, k)) g)
  good_lib a place tree.mutex_destroy es ty t rest h k g = good_step x a place _ _ (record {
    valid = and_from _ _ (and_from _ _ (and_from _ _ (temp_in x t (omega (arith, k))) refl) refl) refl;
    bare = refl;
  }) g
  good_lib a place tree.atomic_add es ty t rest h k g =
      let m : 2 ≤ count_all es = atomic_many (λ u. tree.integer u ∷ []) (λ u. tree.integer u) es ty 1 (λ u. refl) h in
      good_change x a place false (changed_number es) (at_temp t) (suc t) (Some t) rest (changed_promoted (λ s. tree.integer s ∷ []) (λ s. tree.integer s) es ty h) (temp_in x t (omega (arith, k))) refl (omega (arith, k, m)) (below x t (omega (arith, k))) g
  good_lib a place tree.atomic_sub es ty t rest h k g =
      let m : 2 ≤ count_all es = atomic_many (λ u. tree.integer u ∷ []) (λ u. tree.integer u) es ty 1 (λ u. refl) h in
      good_change x a place true (changed_number es) (at_temp t) (suc t) (Some t) rest (changed_promoted (λ s. tree.integer s ∷ []) (λ s. tree.integer s) es ty h) (temp_in x t (omega (arith, k))) refl (omega (arith, k, m)) (below x t (omega (arith, k))) g
  good_lib a place tree.atomic_swap es ty t rest h k g =
      let m : 2 ≤ count_all es = atomic_many (λ u. tree.integer u ∷ []) (λ u. tree.integer u) es ty 1 (λ u. refl) h in
      change_step x a place Swap (changed_number es) (at_temp t) (suc t) (Some t) rest (changed_promoted (λ s. tree.integer s ∷ []) (λ s. tree.integer s) es ty h) (temp_in x t (omega (arith, k))) refl (omega (arith, k, m)) (below x t (omega (arith, k))) g
  good_lib a place tree.atomic_compare es ty t rest h k g =
      let m : 3 ≤ count_all es = atomic_many (λ u. tree.pointer (tree.integer u) ∷ tree.integer u ∷ []) (λ u. tree.integer int) es ty 2 (λ u. refl) h in
      good_step x a place _ rest (record {
        valid = and_from _ _ (and_from _ _ (and_from _ _ (temp_in x t (omega (arith, k))) (and_from _ _ (temp_in x (suc t) (omega (arith, k, m))) refl))
            (and_from _ _ (and_from _ _ (below x (suc (suc t)) (omega (arith, k, m))) refl) (below x t (omega (arith, k)))))
            (and_from _ _ refl (and_from _ _ (changed_promoted (λ s. tree.pointer (tree.integer s) ∷ tree.integer s ∷ []) (λ s. tree.integer int) es ty h) refl));
        bare = refl;
      }) g
  good_lib a place tree.atomic_store es ty t rest h k g =
      let m : 2 ≤ count_all es = atomic_many (λ u. tree.integer u ∷ []) (λ u. tree.void) es ty 1 (λ u. refl) h in
      store_step x a place (tree.integer (changed_number es)) (at_temp t) (suc t) rest (temp_in x t (omega (arith, k))) refl (omega (arith, k, m)) g

  -- ---- where objects are reached

  -- the register, if there is one, is there
  abbrev pub BelowIf : Option ℕ → Type 0
  BelowIf None = Unit {0}
  BelowIf (Some b) = b < x.temps

  pub register_below : (n : ℕ) (h : Option ℕ) → n < x.temps → BelowIf (register_if n h)
  register_below n None k = k
  register_below n (Some object) k = tt

  either_below : (b : Bool) (o : Option ℕ) → BelowIf o → BelowIf (if b then o else None)
  either_below true o h = h
  either_below false o h = tt

  pub local_below : (n : ℕ) (ty : tree.Ty) → IsNth c.locals n (λ l. l.ty ≡ ty) → n < x.temps
  local_below n ty h = s.local n h.0 h.1

  mutual
    register_fits : (e : tree.Expr) → IsTyped c e → BelowIf (register_of f e)
    register_fits (tree.at place ty node) h = register_fits_in ty node h

    register_fits_in : (ty : tree.Ty) (node : tree.ExprNode) → IsTypedNode c ty node → BelowIf (register_in f ty node)
    register_fits_in ty (tree.num t z) h = tt
    register_fits_in ty tree.null h = tt
    register_fits_in ty (tree.literal n) h = tt
    register_fits_in ty (tree.global n) h = tt
    register_fits_in ty (tree.local n) h = register_below n (home f n) (local_below n ty h)
    register_fits_in ty (tree.deref e) h = tt
    register_fits_in ty (tree.member e m) h = tt
    register_fits_in ty (tree.address_of e) h = tt
    register_fits_in ty (tree.decay e) h = tt
    register_fits_in ty (tree.convert e) h = either_below (is_pointer ty) (register_of f e) (register_fits e h.0)
    register_fits_in ty (tree.not_ e) h = tt
    register_fits_in ty (tree.binary op a b) h = tt
    register_fits_in ty (tree.and_also a b) h = tt
    register_fits_in ty (tree.or_else a b) h = tt
    register_fits_in ty (tree.choose d a b) h = tt
    register_fits_in ty (tree.pointer_add p n) h = tt
    register_fits_in ty (tree.pointer_sub p n) h = tt
    register_fits_in ty (tree.pointer_diff p q) h = tt
    register_fits_in ty (tree.pointer_compare op p q) h = tt
    register_fits_in ty (tree.pointer_test p) h = tt
    register_fits_in ty (tree.call function args) h = tt
    register_fits_in ty (tree.lib which args) h = tt

  -- an object is reached by registers that are there, and the next free one is no further than the expression is large
  pub record Reached (r : Reach) (t n : ℕ) : Type 0 where
    pub inside : InReach x r t
    pub next : behind r t ≤ t + n

  direct_reached : (o : Option ℕ) (t n : ℕ) → BelowIf o → t + suc n ≤ x.temps → Reached (direct_if o) t (suc n)
  direct_reached None t n h k = record { inside = omega (arith, k); next = omega arith }
  direct_reached (Some b) t n h k = record { inside = h; next = omega arith }

  indexed_reached : (scale : ℕ) (o : Option ℕ) (t n : ℕ) → BelowIf o → t + suc (suc n) ≤ x.temps → Reached (indexed_if scale o) t (suc (suc n))
  indexed_reached scale None t n h k = record { inside = omega (arith, k); next = omega arith }
  indexed_reached scale (Some b) t n h k = record { inside = (h, omega (arith, k)); next = omega arith }

  more_reached : (r : Reach) (t m n : ℕ) → m ≤ n → Reached r t m → Reached r t n
  more_reached r t m n h g = record { inside = g.inside; next = omega (arith, h, g.next) }

  pointed_reached : (e : tree.Expr) → IsTyped c e → (t : ℕ) → t + count e ≤ x.temps → Reached (pointed f e) t (count e)
  pointed_reached (tree.at place ty (tree.pointer_add d e)) h t k =
      more_reached _ t 2 _ (omega (arith, at_least_one d)) (indexed_reached (element_size f.structs ty) (pointer_register f d) t 0
      (either_below (is_pointer (tree.type_of d)) (register_of f d) (register_fits d h.0)) (omega (arith, k, at_least_one d)))
  pointed_reached (tree.at place ty (tree.num u z)) h t k = direct_reached None t _ tt k
  pointed_reached (tree.at place ty tree.null) h t k = direct_reached None t _ tt k
  pointed_reached (tree.at place ty (tree.literal n)) h t k = direct_reached None t _ tt k
  pointed_reached (tree.at place ty (tree.global n)) h t k = direct_reached None t _ tt k
  pointed_reached (tree.at place ty (tree.local n)) h t k = direct_reached _ t _ (register_fits_in ty (tree.local n) h) k
  pointed_reached (tree.at place ty (tree.deref e)) h t k = direct_reached None t _ tt k
  pointed_reached (tree.at place ty (tree.member e m)) h t k = direct_reached None t _ tt k
  pointed_reached (tree.at place ty (tree.address_of e)) h t k = direct_reached None t _ tt k
  pointed_reached (tree.at place ty (tree.decay e)) h t k = direct_reached None t _ tt k
  pointed_reached (tree.at place ty (tree.convert e)) h t k = direct_reached _ t _ (register_fits_in ty (tree.convert e) h) k
  pointed_reached (tree.at place ty (tree.not_ e)) h t k = direct_reached None t _ tt k
  pointed_reached (tree.at place ty (tree.binary op a b)) h t k = direct_reached None t _ tt k
  pointed_reached (tree.at place ty (tree.and_also a b)) h t k = direct_reached None t _ tt k
  pointed_reached (tree.at place ty (tree.or_else a b)) h t k = direct_reached None t _ tt k
  pointed_reached (tree.at place ty (tree.choose d a b)) h t k = direct_reached None t _ tt k
  pointed_reached (tree.at place ty (tree.pointer_sub p n)) h t k = direct_reached None t _ tt k
  pointed_reached (tree.at place ty (tree.pointer_diff p q)) h t k = direct_reached None t _ tt k
  pointed_reached (tree.at place ty (tree.pointer_compare op p q)) h t k = direct_reached None t _ tt k
  pointed_reached (tree.at place ty (tree.pointer_test p)) h t k = direct_reached None t _ tt k
  pointed_reached (tree.at place ty (tree.call function args)) h t k = direct_reached None t _ tt k
  pointed_reached (tree.at place ty (tree.lib which args)) h t k = direct_reached None t _ tt k

  member_reached : (offset : ℕ) (r : Reach) (t n : ℕ) → t < x.temps → 1 ≤ n → Reached r t n → Reached (member_reach offset r) t n
  member_reached offset found t n k l g = g
  member_reached offset (direct b zero) t n k l g = record { inside = g.inside; next = g.next }
  member_reached offset (direct b (suc o)) t n k l g = record { inside = k; next = omega (arith, l) }
  member_reached offset (indexed b scale zero) t n k l g = record { inside = g.inside; next = g.next }
  member_reached offset (indexed b scale (suc o)) t n k l g = record { inside = k; next = omega (arith, l) }

  found_reached : (t n : ℕ) → t + suc n ≤ x.temps → Reached found t (suc n)
  found_reached t n k = record { inside = omega (arith, k); next = omega arith }

  pub reach_fits : (e : tree.Expr) → IsTyped c e → (t : ℕ) → t + count e ≤ x.temps → Reached (reach f e) t (count e)
  reach_fits (tree.at place ty (tree.deref e)) h t k = more_reached _ t _ _ (omega arith) (pointed_reached e h.0 t (omega (arith, k)))
  reach_fits (tree.at place ty (tree.member e m)) h t k =
      member_reached _ (reach f e) t _ (omega (arith, k)) (omega arith) (more_reached _ t _ _ (omega arith) (reach_fits e h.0 t (omega (arith, k))))
  reach_fits (tree.at place ty (tree.num u z)) h t k = found_reached t _ k
  reach_fits (tree.at place ty tree.null) h t k = found_reached t _ k
  reach_fits (tree.at place ty (tree.literal n)) h t k = found_reached t _ k
  reach_fits (tree.at place ty (tree.global n)) h t k = found_reached t _ k
  reach_fits (tree.at place ty (tree.local n)) h t k = found_reached t _ k
  reach_fits (tree.at place ty (tree.address_of e)) h t k = found_reached t _ k
  reach_fits (tree.at place ty (tree.decay e)) h t k = found_reached t _ k
  reach_fits (tree.at place ty (tree.convert e)) h t k = found_reached t _ k
  reach_fits (tree.at place ty (tree.not_ e)) h t k = found_reached t _ k
  reach_fits (tree.at place ty (tree.binary op a b)) h t k = found_reached t _ k
  reach_fits (tree.at place ty (tree.and_also a b)) h t k = found_reached t _ k
  reach_fits (tree.at place ty (tree.or_else a b)) h t k = found_reached t _ k
  reach_fits (tree.at place ty (tree.choose d a b)) h t k = found_reached t _ k
  reach_fits (tree.at place ty (tree.pointer_add p n)) h t k = found_reached t _ k
  reach_fits (tree.at place ty (tree.pointer_sub p n)) h t k = found_reached t _ k
  reach_fits (tree.at place ty (tree.pointer_diff p q)) h t k = found_reached t _ k
  reach_fits (tree.at place ty (tree.pointer_compare op p q)) h t k = found_reached t _ k
  reach_fits (tree.at place ty (tree.pointer_test p)) h t k = found_reached t _ k
  reach_fits (tree.at place ty (tree.call function args)) h t k = found_reached t _ k
  reach_fits (tree.at place ty (tree.lib which args)) h t k = found_reached t _ k

  -- ---- expressions

  good_local : (a : Around) (place : ℕ) (ty : tree.Ty) (n t : ℕ) (o : Option ℕ) (rest : Nodes) → ((k : ℕ) → o ≡ Some k → nat_lt k x.objects ≡ true) → n < x.temps → t < x.temps
      → Good x a rest → Good x a (local_value place ty n t o rest)
  good_local a place ty n t None rest ok i j g = good_set x a place t _ rest j (below x n i) g
  good_local a place ty n t (Some k) rest ok i j g = good_object x a place k t _ (ok k refl) j (good_loads x a place ty found t rest j j g)

  good_local_place : (a : Around) (place n t : ℕ) (o : Option ℕ) (rest : Nodes) → ((k : ℕ) → o ≡ Some k → nat_lt k x.objects ≡ true) → n < x.temps → t < x.temps
      → Good x a rest → Good x a (local_place place n t o rest)
  good_local_place a place n t None rest ok i j g = good_set x a place t _ rest j (below x n i) g
  good_local_place a place n t (Some k) rest ok i j g = good_object x a place k t _ (ok k refl) j g

  good_converts : (a : Around) (place : ℕ) (from ty : tree.Ty) (t : ℕ) (rest : Nodes) → t < x.temps → Good x a rest → Good x a (converts place from ty t rest)
  good_converts a place from tree.void t rest h g = g
  good_converts a place from (tree.integer s) t rest h g = good_becomes x a place (number_type from) s t rest h g
  good_converts a place from (tree.atomic s) t rest h g = g
  good_converts a place from tree.mutex t rest h g = g
  good_converts a place from (tree.pointer s) t rest h g = g
  good_converts a place from (tree.array s n) t rest h g = g
  good_converts a place from (tree.structure n) t rest h g = g

  two_below : (t : ℕ) → suc t < x.temps → (nat_lt t x.temps && nat_lt (suc t) x.temps) ≡ true
  two_below t h = and_from _ _ (below x t (omega (arith, h))) (below x (suc t) h)

  good_compares : (a : Around) (place : ℕ) (op : Op) (s : IntType) (t : ℕ) (rest : Nodes) → suc t < x.temps → Good x a rest → Good x a (compares_to_zero place op s t rest)
  good_compares a place op s t rest h g =
      good_becomes x a place s (promoted_type s) t _ (omega (arith, h)) (good_set x a place (suc t) _ _ h refl
      (good_set x a place t _ rest (omega (arith, h)) (and_from _ _ (promotes s) (two_below t h)) g))

  good_negation : (a : Around) (place : ℕ) (ty : tree.Ty) (t : ℕ) (rest : Nodes) → suc t < x.temps → Good x a rest → Good x a (negation place ty t rest)
  good_negation a place (tree.integer s) t rest h g = good_compares a place ops.Eq s t rest h g
  good_negation a place tree.void t rest h g = good_truth x a place t 0 1 rest (omega (arith, h)) g
  good_negation a place (tree.atomic s) t rest h g = good_truth x a place t 0 1 rest (omega (arith, h)) g
  good_negation a place tree.mutex t rest h g = good_truth x a place t 0 1 rest (omega (arith, h)) g
  good_negation a place (tree.pointer s) t rest h g = good_truth x a place t 0 1 rest (omega (arith, h)) g
  good_negation a place (tree.array s n) t rest h g = good_truth x a place t 0 1 rest (omega (arith, h)) g
  good_negation a place (tree.structure n) t rest h g = good_truth x a place t 0 1 rest (omega (arith, h)) g

  sum_below : (first : Bool) (t size : ℕ) → suc t < x.temps → is_calc x (sum_calc first t (suc t) size) ≡ true
  sum_below true t size h = two_below t h
  sum_below false t size h = and_from _ _ (below x (suc t) h) (below x t (omega (arith, h)))

  mutual
    pub good_expr : (e : tree.Expr) → IsTyped c e → (t : ℕ) → t + count e ≤ x.temps → (a : Around) (rest : Nodes) → Good x a rest → Good x a (expr_nodes f e t rest)
    good_expr (tree.at place ty node) h t k a rest g = good_value place ty node h t k a rest g

    pub good_value : (place : ℕ) (ty : tree.Ty) (node : tree.ExprNode) → IsTypedNode c ty node → (t : ℕ) → t + suc (count_parts node) ≤ x.temps → (a : Around) (rest : Nodes)
        → Good x a rest → Good x a (value_nodes f place ty node t rest)
    good_value place ty (tree.num u z) h t k a rest g = good_set x a place t _ rest (omega (arith, k)) refl g
    good_value place ty tree.null h t k a rest g = good_set x a place t _ rest (omega (arith, k)) refl g
    good_value place ty (tree.literal n) h t k a rest g = good_set x a place t _ _ (omega (arith, k)) (s.literal n h.0 h.1) (good_loads x a place ty found t rest (omega (arith, k)) (omega (arith, k)) g)
    good_value place ty (tree.global n) h t k a rest g = good_set x a place t _ _ (omega (arith, k)) (s.global n ty h) (good_loads x a place ty found t rest (omega (arith, k)) (omega (arith, k)) g)
    good_value place ty (tree.local n) h t k a rest g = good_local a place ty n t (home f n) rest (s.object n) (local_below n ty h) (omega (arith, k)) g
    good_value place ty (tree.deref e) h t k a rest g =
        good_expr e h.0 t (omega (arith, k)) a _ (good_loads x a place ty (pointed f e) t rest (pointed_reached e h.0 t (omega (arith, k))).inside (omega (arith, k)) g)
    good_value place ty (tree.member e m) h t k a rest g =
        let r = reach_fits e h.0 t (omega (arith, k)) in
        good_place e h.0 t (omega (arith, k)) a _ (good_member x a place _ _ t _ (omega (arith, k, r.next)) (omega (arith, k))
        (good_loads x a place ty _ t rest (member_in x _ (reach f e) t (omega (arith, k)) r.inside) (omega (arith, k)) g))
    good_value place ty (tree.address_of e) h t k a rest g = good_place e h.0 t (omega (arith, k)) a rest g
    good_value place ty (tree.decay e) h t k a rest g = good_place e h.0 t (omega (arith, k)) a rest g
    good_value place ty (tree.convert e) h t k a rest g = good_expr e h.0 t (omega (arith, k)) a _ (good_converts a place (tree.type_of e) ty t rest (omega (arith, k)) g)
    good_value place ty (tree.not_ e) h t k a rest g = good_expr e h.0 t (omega (arith, k)) a _ (good_negation a place (tree.type_of e) t rest (omega (arith, k, at_least_one e)) g)
    good_value place ty (tree.binary op d e) h t k a rest g =
        good_expr d h.0 t (omega (arith, k)) a _ (good_expr e h.1 (suc t) (omega (arith, k, at_least_one d)) a _
        (good_set x a place t _ rest (omega (arith, k)) (and_from _ _ (operands_promoted op _ _ h.2) (two_below t (omega (arith, k, at_least_one d, at_least_one e)))) g))
    good_value place ty (tree.and_also d e) h t k a rest g =
        good_expr d h.0 t (omega (arith, k)) a _ (good_branches x a _ t _ _ rest (omega (arith, k))
        (good_expr e h.1 t (omega (arith, k)) a _ (good_truth x a _ t 1 0 no_nodes (omega (arith, k)) (good_none x a)))
        (good_int x a _ t 0 no_nodes (omega (arith, k)) (good_none x a)) g)
    good_value place ty (tree.or_else d e) h t k a rest g =
        good_expr d h.0 t (omega (arith, k)) a _ (good_branches x a _ t _ _ rest (omega (arith, k))
        (good_int x a _ t 1 no_nodes (omega (arith, k)) (good_none x a))
        (good_expr e h.1 t (omega (arith, k)) a _ (good_truth x a _ t 1 0 no_nodes (omega (arith, k)) (good_none x a))) g)
    good_value place ty (tree.choose b d e) h t k a rest g =
        good_expr b h.0 t (omega (arith, k)) a _ (good_branches x a _ t _ _ rest (omega (arith, k))
        (good_expr d h.1 t (omega (arith, k)) a no_nodes (good_none x a)) (good_expr e h.2 t (omega (arith, k)) a no_nodes (good_none x a)) g)
    good_value place ty (tree.pointer_add d e) h t k a rest g =
        good_expr d h.0 t (omega (arith, k)) a _ (good_expr e h.1 (suc t) (omega (arith, k, at_least_one d)) a _
        (good_set x a place t _ rest (omega (arith, k)) (sum_below (is_pointer (tree.type_of d)) t _ (omega (arith, k, at_least_one d, at_least_one e))) g))
    good_value place ty (tree.pointer_sub d e) h t k a rest g =
        good_expr d h.0 t (omega (arith, k)) a _ (good_expr e h.1 (suc t) (omega (arith, k, at_least_one d)) a _
        (good_set x a place t _ rest (omega (arith, k)) (two_below t (omega (arith, k, at_least_one d, at_least_one e))) g))
    good_value place ty (tree.pointer_diff d e) h t k a rest g =
        good_expr d h.0 t (omega (arith, k)) a _ (good_expr e h.1 (suc t) (omega (arith, k, at_least_one d)) a _
        (good_set x a place t _ rest (omega (arith, k)) (two_below t (omega (arith, k, at_least_one d, at_least_one e))) g))
    good_value place ty (tree.pointer_compare op d e) h t k a rest g =
        good_expr d h.0 t (omega (arith, k)) a _ (good_expr e h.1 (suc t) (omega (arith, k, at_least_one d)) a _
        (good_set x a place t _ rest (omega (arith, k)) (and_from _ _ h.4 (two_below t (omega (arith, k, at_least_one d, at_least_one e)))) g))
    good_value place ty (tree.pointer_test p) h t k a rest g = good_expr p h.0 t (omega (arith, k)) a _ (good_set x a place t _ rest (omega (arith, k)) (below x t (omega (arith, k))) g)
    good_value place ty (tree.call function es) h t k a rest g =
        good_args es h.0 t (omega (arith, k)) a _ (good_call x a place (Some t) function _ _ (below x t (omega (arith, k))) (temps_below x es t (omega (arith, k)))
        (called function h.1.0 es t h.1.1 h.1.2.0) (good_set x a place t _ rest (omega (arith, k)) (below x t (omega (arith, k))) g))
    good_value place ty (tree.lib which es) h t k a rest g = good_args es h.0 t (omega (arith, k)) a _ (good_lib a place which es ty t rest h.1 k g)

    pub good_place : (e : tree.Expr) → IsTyped c e → (t : ℕ) → t + count e ≤ x.temps → (a : Around) (rest : Nodes) → Good x a rest → Good x a (place_nodes f e t rest)
    good_place (tree.at place ty node) h t k a rest g = good_object_place place ty node h t k a rest g

    pub good_object_place : (place : ℕ) (ty : tree.Ty) (node : tree.ExprNode) → IsTypedNode c ty node → (t : ℕ) → t + suc (count_parts node) ≤ x.temps → (a : Around) (rest : Nodes)
        → Good x a rest → Good x a (object_place f place node t rest)
    good_object_place place ty (tree.num u z) h t k a rest g = g
    good_object_place place ty tree.null h t k a rest g = g
    good_object_place place ty (tree.literal n) h t k a rest g = good_set x a place t _ rest (omega (arith, k)) (s.literal n h.0 h.1) g
    good_object_place place ty (tree.global n) h t k a rest g = good_set x a place t _ rest (omega (arith, k)) (s.global n ty h) g
    good_object_place place ty (tree.local n) h t k a rest g = good_local_place a place n t (home f n) rest (s.object n) (local_below n ty h) (omega (arith, k)) g
    good_object_place place ty (tree.deref e) h t k a rest g = good_expr e h.0 t (omega (arith, k)) a rest g
    good_object_place place ty (tree.member e m) h t k a rest g =
        let r = reach_fits e h.0 t (omega (arith, k)) in
        good_place e h.0 t (omega (arith, k)) a _ (good_member x a place _ _ t rest (omega (arith, k, r.next)) (omega (arith, k)) g)
    good_object_place place ty (tree.address_of e) h t k a rest g = g
    good_object_place place ty (tree.decay e) h t k a rest g = g
    good_object_place place ty (tree.convert e) h t k a rest g = g
    good_object_place place ty (tree.not_ e) h t k a rest g = g
    good_object_place place ty (tree.binary op d e) h t k a rest g = g
    good_object_place place ty (tree.and_also d e) h t k a rest g = g
    good_object_place place ty (tree.or_else d e) h t k a rest g = g
    good_object_place place ty (tree.choose b d e) h t k a rest g = g
    good_object_place place ty (tree.pointer_add d e) h t k a rest g = g
    good_object_place place ty (tree.pointer_sub d e) h t k a rest g = g
    good_object_place place ty (tree.pointer_diff d e) h t k a rest g = g
    good_object_place place ty (tree.pointer_compare op d e) h t k a rest g = g
    good_object_place place ty (tree.pointer_test p) h t k a rest g = g
    good_object_place place ty (tree.call function es) h t k a rest g = g
    good_object_place place ty (tree.lib which es) h t k a rest g = g

    pub good_args : (es : tree.Exprs) → AreTyped c es → (t : ℕ) → t + count_all es ≤ x.temps → (a : Around) (rest : Nodes) → Good x a rest → Good x a (args_nodes f es t rest)
    good_args tree.no_exprs h t k a rest g = g
    good_args (tree.more_exprs e es) h t k a rest g = good_expr e h.0 t (omega (arith, k)) a _ (good_args es h.1 (suc t) (omega (arith, k, at_least_one e)) a rest g)
