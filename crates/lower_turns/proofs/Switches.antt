-- The statements of a switch do the same on both sides: how the label is chosen, where they begin, and that they are passed over.
use Rattle.std.proofs.Common.{◌≡◌, ◌≢◌, ℕ, zero, suc, ◌+◌, ◌<◌, ◌≤◌, ◌==◌, ℤ, pos, Bool, true, false, List, [], ◌∷◌, length, Option, Some, None, Ok, refl, sym, ap, subst, ◌∙◌, arith, if◌then◌else◌}
use Rattle.std.specs.Prelude.{slice_get}
use Rattle.std.specs.List.{AllByRecursion}
use Rattle.std.specs.Ordering.{int_eq}
use Rattle.std.proofs.lemmas.Bool.Decides.{nat_tests, Decides-int_eq}
use Rattle.std.proofs.lemmas.Option.{same_Some}
use Rattle.ak_words.specs.declared.int_type.IntType.{IntType}
use Rattle.ak_words.specs.declared.number.Num.{Num}
use Rattle.ak_words.specs.declared.operation.Op.TheVariants as ops
use Rattle.ak_words.specs.IntType.{int}
use Rattle.ak_words.specs.Num.{num}
use Rattle.ak_words.specs.Op.{truth, rule_of, exact_result, result_of}
use Rattle.block_store.specs.declared.values.Access.TheVariants as accesses
use Rattle.block_store.specs.declared.values.Value.{Value}
use Rattle.block_store.specs.declared.values.Value.TheVariants as values
use Rattle.block_store.specs.Blocks.{Blocks}
use Rattle.block_store.specs.Runs.{Turn}
use Rattle.c_tree.specs.Typed as tree
use Rattle.c_tree.specs.TypedForm.{Jumps, in_switch, stmts_count, IsLabel, AreWell}
use Rattle.c_meaning.specs.Switches.{is_number, default_from, equal_from, chosen, stands_at, stands_at_if, starts_at}
use Rattle.c_meaning.specs.Control.{Variable, Control}
use Rattle.c_meaning.specs.Turns.{Way, switch_way, starts, switch_test_way, row_way, run_stmt, run_row, run_from}
use Rattle.struct_ir.specs.Nodes as ir
use Rattle.struct_ir.specs.Nodes.{Nodes, no_nodes}
use Rattle.struct_ir.specs.Structured.{Position, then_}
use Rattle.struct_ir.specs.meaning.Blocks.{Held, value, number, Own, set_at, known, on_value, on_number, or_broken, calculated, takes, if_taken}
use Rattle.lower_forms.specs.Forms.{Reach, number_type, sets_int, branches, equal_nodes, choose_nodes, begin_nodes, begin_if, label_nodes, stmt_place, stmt_nodes, switch_nodes}
use Rattle.lower_forms.specs.Programs.{homes_from, lowered}
use Rattle.lower_turns.proofs.Relation.{HasKind, Below, cases, at_switch_test, RoomRow, inside, running, in_a_switch, Agrees, IsPast, Free, at_switch, at_cases}
use Rattle.lower_forms.specs.Counts.{greatest_row}
use Rattle.lower_turns.proofs.Registers.{set_here, set_there}
use Rattle.lower_turns.proofs.Values.{taken_is}
use Rattle.lower_turns.proofs.Operands.{one_type}
use Rattle.lower_turns.proofs.Steps.{set_then}
use Rattle.lower_turns.proofs.Setting.{Setting, Stands, at_around, row_ends, here, now, own, Alike, frame, start, agrees_on, GoesE, GoesS, inner_row}
use Rattle.lower_turns.proofs.Loops.{SimS, int_value, flag_on, flag_off}

-- ---- numbers that are compared

same_pos : (m n : ℕ) → pos m ≡ pos n → m ≡ n
same_pos m n e = cc

differs : (m n : ℕ) → m ≢ n → m ≤ 4096 → n ≤ 4096 → int_eq (num int (pos n)).value (num int (pos m)).value ≡ false
differs m n ne h k =
    subst (λ (x : ℤ). int_eq x (num int (pos m)).value ≡ false) (sym (int_value n k)) (subst (λ (x : ℤ). int_eq (pos n) x ≡ false) (sym (int_value m h)) (by (int_eq (pos n) (pos m)) refl))
  where
    by : (b : Bool) → int_eq (pos n) (pos m) ≡ b → b ≡ false
    by false e = refl
    by true e = absurd (ne (sym (same_pos n m ((Decides-int_eq (pos n) (pos m)).0 e))))

eq_is : (p : ir.Ir) (place : ℕ) (l : Own) (t : IntType) (x y : ℕ) (m n : Num) → m.ty ≡ t → n.ty ≡ t → l.temps x ≡ number m → l.temps y ≡ number n
    → calculated p place l (ir.apply ops.Eq t x y) ≡ Ok (number (num int (truth (int_eq m.value n.value))))
unfolding rule_of exact_result
eq_is p place l t x y m n e d h k =
    let fits : takes ops.Eq t m.ty n.ty ≡ true = subst (λ z. takes ops.Eq z m.ty n.ty ≡ true) e (one_type ops.Eq m.ty n.ty (e ∙ sym d)) in
    ap (λ (z : Held). on_value (known place z) (on_number (λ (i : Num). on_value (known place (l.temps y)) (on_number (λ (j : Num). if_taken (takes ops.Eq t i.ty j.ty) (or_broken place number (result_of ops.Eq i j))))))) h
    ∙ ap (λ (z : Held). on_value (known place z) (on_number (λ (j : Num). if_taken (takes ops.Eq t m.ty j.ty) (or_broken place number (result_of ops.Eq m j))))) k
    ∙ taken_is (takes ops.Eq t m.ty n.ty) (or_broken place number (result_of ops.Eq m n)) fits

-- ---- the label that is chosen

if_small : (b : Bool) (m k n : ℕ) → m ≤ n → k ≤ n → (if b then m else k) ≤ n
if_small true m k n h g = h
if_small false m k n h g = g

pub default_small : (m n : ℕ) (labels : List tree.Label) → m + length labels ≤ n → default_from m labels ≤ n
default_small m n [] h = omega (arith, h)
default_small m n (tree.case_at t z at ∷ labels) h = default_small (suc m) n labels (omega (arith, h))
default_small m n (tree.default_at at ∷ labels) h = omega (arith, h)

pub equal_small : (v : Value) (other m n : ℕ) (labels : List tree.Label) → other ≤ n → m + length labels ≤ n → equal_from v other m labels ≤ n
equal_small v other m n [] h g = h
equal_small v other m n (tree.case_at t z at ∷ labels) h g =
    if_small (is_number (num t z) v) m (equal_from v other (suc m) labels) n (omega (arith, g)) (equal_small v other (suc m) n labels h (omega (arith, g)))
equal_small v other m n (tree.default_at at ∷ labels) h g = equal_small v other (suc m) n labels h (omega (arith, g))

-- the label of this number stands at this statement
pub label_there : (labels : List tree.Label) (k at : ℕ) → starts_at labels k ≡ Some at → (l : tree.Label) × (slice_get labels k ≡ Some l) × (stands_at l ≡ at)
label_there labels k at e = by (slice_get labels k) refl e
  where
    by : (o : Option tree.Label) → slice_get labels k ≡ o → stands_at_if o ≡ Some at → (l : tree.Label) × (slice_get labels k ≡ Some l) × (stands_at l ≡ at)
    by None d h = absurd cc
    by (Some l) d h = (l, d, same_Some (stands_at l) at h)

module _ (g : Setting) (place : ℕ) (ob : ℕ → Option ℕ) (b : Blocks) where
  abbrev program_code : ir.Ir
  program_code = lowered g.t

  abbrev chosen_in : ℕ
  chosen_in = start g

  abbrev flag_in : ℕ
  flag_in = suc (start g)

  abbrev free_in : ℕ
  free_in = suc (suc (start g))

  -- other registers than these stay
  abbrev But : (i j : ℕ) → (tm a : ℕ → Held) → Type 0
  But i j tm a = (k : ℕ) → k ≢ i → k ≢ j → a k ≡ tm k

  -- ---- comparing the value

  if_held : (d : Bool) (h : Held) (m k : ℕ) → h ≡ number (num int (pos k)) → (if d then number (num int (pos m)) else h) ≡ number (num int (pos (if d then m else k)))
  if_held true h m k e = refl
  if_held false h m k e = e

  equal_branch : (m : ℕ) (rest : Nodes) (q : Position) (x : Turn Control) (tm two : ℕ → Held) (d : Bool) → two flag_in ≡ number (num int (truth d)) → But chosen_in flag_in tm two → two chosen_in ≡ tm chosen_in
      → ((a : ℕ → Held) → But chosen_in flag_in tm a → a chosen_in ≡ (if d then number (num int (pos m)) else tm chosen_in) → Alike g x (then_ rest q) (own g ob a b))
      → Alike g x (then_ (branches place flag_in (sets_int place chosen_in m no_nodes) no_nodes rest) q) (own g ob two b)
  equal_branch m rest q x tm two true e kept c k =
      let three : ℕ → Held = set_at two chosen_in (number (num int (pos m))) in
      flag_on g x place flag_in (sets_int place chosen_in m no_nodes) rest q (own g ob two b) e
      (set_then program_code g.thread g.answer g.cs' g.s g.t x place chosen_in (ir.constant int (pos m)) no_nodes (then_ rest q) (own g ob two b) (number (num int (pos m))) refl
      (row_ends g x (then_ rest q) (own g ob three b)
      (k three (λ i nc nf. set_there two chosen_in (number (num int (pos m))) i nc ∙ kept i nc nf) (set_here two chosen_in (number (num int (pos m)))))))
  equal_branch m rest q x tm two false e kept c k = flag_off g x place flag_in (sets_int place chosen_in m no_nodes) rest q (own g ob two b) e (k two kept c)

  equal_alike : (m : ℕ) (t : IntType) (z : ℤ) (rest : Nodes) (q : Position) (x : Turn Control) (tm : ℕ → Held) (v : Num) → v.ty ≡ t → tm free_in ≡ number v
      → ((a : ℕ → Held) → But chosen_in flag_in tm a → a chosen_in ≡ (if is_number (num t z) (values.Num v) then number (num int (pos m)) else tm chosen_in) → Alike g x (then_ rest q) (own g ob a b))
      → Alike g x (then_ (equal_nodes place chosen_in m t z rest) q) (own g ob tm b)
  equal_alike m t z rest q x tm v ty is k =
      let d : Bool = int_eq v.value (num t z).value in
      let one : ℕ → Held = set_at tm flag_in (number (num t z)) in
      let two : ℕ → Held = set_at one flag_in (number (num int (truth d))) in
      let apart : chosen_in ≢ flag_in = λ e. absurd (omega (arith, e)) in
      let far : free_in ≢ flag_in = λ e. absurd (omega (arith, e)) in
      set_then program_code g.thread g.answer g.cs' g.s g.t x place flag_in (ir.constant t z) _ q (own g ob tm b) (number (num t z)) refl
      (set_then program_code g.thread g.answer g.cs' g.s g.t x place flag_in (ir.apply ops.Eq t free_in flag_in) _ q (own g ob one b) (number (num int (truth d)))
      (eq_is program_code place (own g ob one b) t free_in flag_in v (num t z) ty refl (set_there tm flag_in (number (num t z)) free_in far ∙ is) (set_here tm flag_in (number (num t z))))
      (equal_branch m rest q x tm two d (set_here one flag_in (number (num int (truth d))))
      (λ i nc nf. set_there one flag_in (number (num int (truth d))) i nf ∙ set_there tm flag_in (number (num t z)) i nf)
      (set_there one flag_in (number (num int (truth d))) chosen_in apart ∙ set_there tm flag_in (number (num t z)) chosen_in apart) k))

  pub choose_alike : (s : IntType) (count : ℕ) (ls : List tree.Label) → AllByRecursion (IsLabel (tree.integer s) count) ls → (m other : ℕ) (rest : Nodes) (q : Position) (x : Turn Control) (tm : ℕ → Held) (v : Num) → v.ty ≡ s → tm free_in ≡ number v
      → tm chosen_in ≡ number (num int (pos other))
      → ((a : ℕ → Held) → But chosen_in flag_in tm a → a chosen_in ≡ number (num int (pos (equal_from (values.Num v) other m ls))) → Alike g x (then_ rest q) (own g ob a b))
      → Alike g x (then_ (choose_nodes place chosen_in m ls rest) q) (own g ob tm b)
  choose_alike s count [] all m other rest q x tm v ty is e k = k tm (λ i nc nf. refl) e
  choose_alike s count (tree.case_at t z at ∷ ls) all m other rest q x tm v ty is e k =
      let same_type : s ≡ t = ap number_type all.0.0 in
      choose_alike s count ls all.1 (suc m) other (equal_nodes place chosen_in m t z rest) q x tm v ty is e
      (λ a keep d. equal_alike m t z rest q x a v (ty ∙ same_type) (keep free_in (λ y. absurd (omega (arith, y))) (λ y. absurd (omega (arith, y))) ∙ is)
      (λ c kept h. k c (λ i nc nf. kept i nc nf ∙ keep i nc nf)
      (h ∙ if_held (is_number (num t z) (values.Num v)) (a chosen_in) m (equal_from (values.Num v) other (suc m) ls) d)))
  choose_alike s count (tree.default_at at ∷ ls) all m other rest q x tm v ty is e k = choose_alike s count ls all.1 (suc m) other rest q x tm v ty is e k

  -- ---- where the statements begin

  -- a label that isn't chosen
  miss : (m n : ℕ) → m ≢ n → m ≤ 4096 → n ≤ 4096 → (rest : Nodes) (q : Position) (x : Turn Control) (tm : ℕ → Held) → tm chosen_in ≡ number (num int (pos n))
      → ((a : ℕ → Held) → ((i : ℕ) → i ≢ free_in → a i ≡ tm i) → Alike g x (then_ rest q) (own g ob a b)) → Alike g x (then_ (begin_nodes place chosen_in m rest) q) (own g ob tm b)
  miss m n ne lm ln rest q x tm e k =
      let one : ℕ → Held = set_at tm free_in (number (num int (pos m))) in
      let d : Bool = int_eq (num int (pos n)).value (num int (pos m)).value in
      let two : ℕ → Held = set_at one free_in (number (num int (truth d))) in
      let apart : chosen_in ≢ free_in = λ y. absurd (omega (arith, y)) in
      set_then program_code g.thread g.answer g.cs' g.s g.t x place free_in (ir.constant int (pos m)) _ q (own g ob tm b) (number (num int (pos m))) refl
      (set_then program_code g.thread g.answer g.cs' g.s g.t x place free_in (ir.apply ops.Eq int chosen_in free_in) _ q (own g ob one b) (number (num int (truth d)))
      (eq_is program_code place (own g ob one b) int chosen_in free_in (num int (pos n)) (num int (pos m)) refl refl (set_there tm free_in (number (num int (pos m))) chosen_in apart ∙ e) (set_here tm free_in (number (num int (pos m)))))
      (flag_off g x place free_in (sets_int place flag_in 1 no_nodes) rest q (own g ob two b)
      (set_here one free_in (number (num int (truth d))) ∙ ap (λ (y : Bool). number (num int (truth y))) (differs m n ne lm ln))
      (k two (λ i nf. set_there one free_in (number (num int (truth d))) i nf ∙ set_there tm free_in (number (num int (pos m))) i nf))))

  -- the chosen label
  hit : (n : ℕ) (rest : Nodes) (q : Position) (x : Turn Control) (tm : ℕ → Held) → tm chosen_in ≡ number (num int (pos n))
      → ((a : ℕ → Held) → But flag_in free_in tm a → a flag_in ≡ number (num int (pos 1)) → Alike g x (then_ rest q) (own g ob a b)) → Alike g x (then_ (begin_nodes place chosen_in n rest) q) (own g ob tm b)
  hit n rest q x tm e k =
      let one : ℕ → Held = set_at tm free_in (number (num int (pos n))) in
      let d : Bool = int_eq (num int (pos n)).value (num int (pos n)).value in
      let two : ℕ → Held = set_at one free_in (number (num int (truth d))) in
      let three : ℕ → Held = set_at two flag_in (number (num int (pos 1))) in
      let apart : chosen_in ≢ free_in = λ y. absurd (omega (arith, y)) in
      let yes : d ≡ true = (Decides-int_eq (num int (pos n)).value (num int (pos n)).value).1 refl in
      set_then program_code g.thread g.answer g.cs' g.s g.t x place free_in (ir.constant int (pos n)) _ q (own g ob tm b) (number (num int (pos n))) refl
      (set_then program_code g.thread g.answer g.cs' g.s g.t x place free_in (ir.apply ops.Eq int chosen_in free_in) _ q (own g ob one b) (number (num int (truth d)))
      (eq_is program_code place (own g ob one b) int chosen_in free_in (num int (pos n)) (num int (pos n)) refl refl (set_there tm free_in (number (num int (pos n))) chosen_in apart ∙ e) (set_here tm free_in (number (num int (pos n)))))
      (flag_on g x place free_in (sets_int place flag_in 1 no_nodes) rest q (own g ob two b)
      (set_here one free_in (number (num int (truth d))) ∙ ap (λ (y : Bool). number (num int (truth y))) yes)
      (set_then program_code g.thread g.answer g.cs' g.s g.t x place flag_in (ir.constant int (pos 1)) no_nodes (then_ rest q) (own g ob two b) (number (num int (pos 1))) refl
      (row_ends g x (then_ rest q) (own g ob three b)
      (k three (λ i nfl nfr. set_there two flag_in (number (num int (pos 1))) i nfl ∙ set_there one free_in (number (num int (truth d))) i nfr ∙ set_there tm free_in (number (num int (pos n))) i nfr)
      (set_here two flag_in (number (num int (pos 1)))))))))

  miss_if : (at_it : Bool) (m n : ℕ) → (at_it ≡ true → m ≢ n) → m ≤ 4096 → n ≤ 4096 → (rest : Nodes) (q : Position) (x : Turn Control) (tm : ℕ → Held) → tm chosen_in ≡ number (num int (pos n))
      → ((a : ℕ → Held) → ((i : ℕ) → i ≢ free_in → a i ≡ tm i) → Alike g x (then_ rest q) (own g ob a b)) → Alike g x (then_ (begin_if at_it place chosen_in m rest) q) (own g ob tm b)
  miss_if true m n ne lm ln rest q x tm e k = miss m n (ne refl) lm ln rest q x tm e k
  miss_if false m n ne lm ln rest q x tm e k = k tm (λ i nf. refl)

  hit_if : (at_it : Bool) → at_it ≡ true → (n : ℕ) (rest : Nodes) (q : Position) (x : Turn Control) (tm : ℕ → Held) → tm chosen_in ≡ number (num int (pos n))
      → ((a : ℕ → Held) → But flag_in free_in tm a → a flag_in ≡ number (num int (pos 1)) → Alike g x (then_ rest q) (own g ob a b)) → Alike g x (then_ (begin_if at_it place chosen_in n rest) q) (own g ob tm b)
  hit_if true is n rest q x tm e k = hit n rest q x tm e k
  hit_if false is n rest q x tm e k = absurd cc

  not_free : chosen_in ≢ free_in
  not_free e = absurd (omega (arith, e))

  -- labels of which none that stands here is chosen
  pub pass_labels : (n i : ℕ) (ls : List tree.Label) (m : ℕ) → ((k : ℕ) (l : tree.Label) → slice_get ls k ≡ Some l → stands_at l ≡ i → m + k ≢ n) → m + length ls ≤ 4096 → n ≤ 4096
      → (rest : Nodes) (q : Position) (x : Turn Control) (tm : ℕ → Held) → tm chosen_in ≡ number (num int (pos n))
      → ((a : ℕ → Held) → ((j : ℕ) → j ≢ free_in → a j ≡ tm j) → Alike g x (then_ rest q) (own g ob a b)) → Alike g x (then_ (label_nodes place chosen_in i m ls rest) q) (own g ob tm b)
  pass_labels n i [] m other few small rest q x tm e k = k tm (λ j ne. refl)
  pass_labels n i (l ∷ ls) m other few small rest q x tm e k =
      miss_if (stands_at l == i) m n (λ at_it y. other 0 l refl (grind (arith, nat_tests, at_it)) (omega (arith, y))) (omega (arith, few)) small (label_nodes place chosen_in i (suc m) ls rest) q x tm e
      (λ a keep. pass_labels n i ls (suc m) (λ j h there at_it y. other (suc j) h there at_it (omega (arith, y))) (omega (arith, few)) small rest q x a (keep chosen_in not_free ∙ e) (λ c kept. k c (λ j ne. kept j ne ∙ keep j ne)))

  -- labels of which one is, and stands here
  pub hit_labels : (n i : ℕ) (ls : List tree.Label) (m d : ℕ) (l : tree.Label) → slice_get ls d ≡ Some l → stands_at l ≡ i → m + d ≡ n → m + length ls ≤ 4096 → n ≤ 4096
      → (rest : Nodes) (q : Position) (x : Turn Control) (tm : ℕ → Held) → tm chosen_in ≡ number (num int (pos n))
      → ((a : ℕ → Held) → But flag_in free_in tm a → a flag_in ≡ number (num int (pos 1)) → Alike g x (then_ rest q) (own g ob a b)) → Alike g x (then_ (label_nodes place chosen_in i m ls rest) q) (own g ob tm b)
  hit_labels n i [] m d l there at_it sum few small rest q x tm e k = absurd cc
  hit_labels n i (h ∷ ls) m zero l there at_it sum few small rest q x tm e k =
      let is : stands_at h ≡ i = ap stands_at (same_Some h l there) ∙ at_it in
      let m_is : n ≡ m = omega (arith, sum) in
      let yes : (stands_at h == i) ≡ true = grind (arith, nat_tests, is) in
      hit_if (stands_at h == i) yes m (label_nodes place chosen_in i (suc m) ls rest) q x tm (e ∙ ap (λ z. number (num int (pos z))) m_is)
      (λ a keep one. pass_labels n i ls (suc m) (λ j y there' at_it' z. absurd (omega (arith, m_is, z))) (omega (arith, few)) small rest q x a
      (keep chosen_in (λ z. absurd (omega (arith, z))) not_free ∙ e) (λ c kept. k c (λ j nfl nfr. kept j nfr ∙ keep j nfl nfr) (kept flag_in (λ z. absurd (omega (arith, z))) ∙ one)))
  hit_labels n i (h ∷ ls) m (suc d) l there at_it sum few small rest q x tm e k =
      miss_if (stands_at h == i) m n (λ z y. absurd (omega (arith, sum, y))) (omega (arith, few)) small (label_nodes place chosen_in i (suc m) ls rest) q x tm e
      (λ a keep. hit_labels n i ls (suc m) d l there at_it (omega (arith, sum)) (omega (arith, few)) small rest q x a (keep chosen_in not_free ∙ e)
      (λ c kept one. k c (λ j nfl nfr. kept j nfl nfr ∙ keep j nfr) one))

-- ---- the statements, where the label of this number is chosen

module _ (g : Setting) (n : ℕ) (low : length g.f.locals ≤ suc (suc (start g))) where
  -- the setting of a statement of the switch
  abbrev pub inside_switch : Setting
  inside_switch = at_around g (in_a_switch g.a n) low

  -- what the registers hold, by what the flag is
  abbrev pub SwitchStands : ℕ → List Variable → (ℕ → Held) → (ℕ → Option ℕ) → Type 0
  SwitchStands z vs tm ob = Agrees (homes_from 0 g.f.locals) (suc (suc (start g))) ((suc (start g), z) ∷ (start g, n) ∷ running g.a) g.a.around g.f.locals vs tm ob

  pub leaves_switch : (z : ℕ) (vs : List Variable) (tm : ℕ → Held) (ob : ℕ → Option ℕ) → SwitchStands z vs tm ob → Stands g vs tm ob
  leaves_switch z vs tm ob h = record { count = h.count; low = g.low; switches = h.switches.3.3; register = h.register; block = h.block; closed = h.closed }

  pub enters_switch : (z : ℕ) (vs : List Variable) (tm : ℕ → Held) (ob : ℕ → Option ℕ) → Stands g vs tm ob → tm (start g) ≡ number (num int (pos n)) → tm (suc (start g)) ≡ number (num int (pos z)) → SwitchStands z vs tm ob
  enters_switch z vs tm ob h e d = record {
    count = h.count;
    low = low;
    switches = (omega (arith, g.low), omega arith, d, (g.low, omega arith, e, h.switches));
    register = h.register;
    block = h.block;
    closed = h.closed;
  }

  -- the statements go on
  resumes : (vs : List Variable) (tm a : ℕ → Held) (ob : ℕ → Option ℕ) → SwitchStands 0 vs tm ob → ((k : ℕ) → k ≢ suc (start g) → k ≢ suc (suc (start g)) → a k ≡ tm k) → a (suc (start g)) ≡ number (num int (pos 1)) → SwitchStands 1 vs a ob
  resumes vs tm a ob h keep one =
      let s = leaves_switch 0 vs tm ob h in
      let same : (k : ℕ) → k < start g → a k ≡ tm k = λ k lt. keep k (λ e. absurd (omega (arith, lt, e))) (λ e. absurd (omega (arith, lt, e))) in
      enters_switch 1 vs a ob (agrees_on g vs tm a ob (start g) (omega arith) s same) (keep (start g) (λ e. absurd (omega (arith, e))) (λ e. absurd (omega (arith, e))) ∙ h.switches.3.2) one

  pub switch_goes : (io : Jumps) (w : Way) (left : List ℕ) (r : Nodes) (q : Position) → GoesS g io w left r q → GoesS inside_switch (in_switch io) (switch_way w) left r q
  switch_goes io w left r q goes = record {
    at = at_switch n g.low goes.at;
    end = λ vs b tm ob h. goes.end vs b tm ob (leaves_switch 1 vs tm ob h);
    breaks = λ e vs b tm ob h. goes.end vs b tm ob (leaves_switch 0 vs tm ob h);
    continues = λ e vs b tm ob h. goes.continues e vs b tm ob (leaves_switch 1 vs tm ob h);
    over_breaks = λ e none. absurd cc;
    over_nexts = goes.over_nexts;
  }

  module _ (place : ℕ) (labels : List tree.Label) (few : length labels ≤ 1024) (small : n ≤ 1024) where
    abbrev pub from_case : ℕ → tree.Stmts → List ℕ → Nodes → Nodes
    from_case i rest left r = switch_nodes (frame inside_switch) place (start g) labels i rest left r

    -- no label that stands here is chosen
    others : (i : ℕ) → ((at : ℕ) → starts_at labels n ≡ Some at → at ≢ i) → (k : ℕ) (l : tree.Label) → slice_get labels k ≡ Some l → stands_at l ≡ i → 0 + k ≢ n
    others i apart k l there at_it e =
        let is : k ≡ n = omega (arith, e) in
        absurd (apart i (subst (λ m. stands_at_if (slice_get labels m) ≡ Some i) is (ap stands_at_if there ∙ ap Some at_it)) refl)

    pass_here : (z i : ℕ) → ((at : ℕ) → starts_at labels n ≡ Some at → at ≢ i) → (rest : Nodes) (q : Position) (x : Turn Control) (vs : List Variable) (b : Blocks) (tm : ℕ → Held) (ob : ℕ → Option ℕ) → SwitchStands z vs tm ob
        → ((a : ℕ → Held) → SwitchStands z vs a ob → Alike g x (then_ rest q) (own g ob a b)) → Alike g x (then_ (label_nodes place (start g) i 0 labels rest) q) (own g ob tm b)
    pass_here z i apart rest q x vs b tm ob h k =
        pass_labels g place ob b n i labels 0 (others i apart) (omega (arith, few)) (omega (arith, small)) rest q x tm h.switches.3.2
        (λ a keep.
        let same : (j : ℕ) → j < start g → a j ≡ tm j = λ j lt. keep j (λ e. absurd (omega (arith, lt, e))) in
        k a (enters_switch z vs a ob (agrees_on g vs tm a ob (start g) (omega arith) (leaves_switch z vs tm ob h) same)
        (keep (start g) (λ e. absurd (omega (arith, e))) ∙ h.switches.3.2) (keep (suc (start g)) (λ e. absurd (omega (arith, e))) ∙ h.switches.2)))

    -- those are passed over that no chosen label stands before, or all once the flag is cleared
    pub passed_over : (rest : tree.Stmts) (i : ℕ) → ((at : ℕ) → starts_at labels n ≡ Some at → at < i) → (left : List ℕ) (r : Nodes) (q : Position) (x : Turn Control) (vs : List Variable) (b : Blocks) (tm : ℕ → Held) (ob : ℕ → Option ℕ) → SwitchStands 0 vs tm ob
        → ((a : ℕ → Held) → SwitchStands 0 vs a ob → Alike g x (then_ r q) (own g ob a b)) → Alike g x (then_ (from_case i rest left r) q) (own g ob tm b)
    passed_over tree.no_stmts i past left r q x vs b tm ob h k = k tm h
    passed_over (tree.more_stmts s rest) i past left r q x vs b tm ob h k =
        pass_here 0 i (λ at e y. absurd (omega (arith, past at e, y))) _ q x vs b tm ob h
        (λ a z. flag_off g x (stmt_place s) (suc (start g)) (stmt_nodes (frame inside_switch) s left no_nodes) (from_case (suc i) rest left r) q (own g ob a b) z.switches.2
        (passed_over rest (suc i) (λ at e. let lt = past at e in omega (arith, lt)) left r q x vs b a ob z k))

    module _ (io : Jumps) (w : Way) (left : List ℕ) (r : Nodes) (q : Position) (goes : GoesS g io w left r q) where
      -- the code of the rest does what the rest does
      abbrev pub SimCases : ℕ → tree.Stmts → Type 0
      SimCases i rest = (vs : List Variable) (b : Blocks) (tm : ℕ → Held) (ob : ℕ → Option ℕ) → SwitchStands 1 vs tm ob
          → Alike g (run_row (here g) rest (switch_way w) (now g vs b)) (then_ (from_case i rest left r) q) (own g ob tm b)

      -- behind a statement of a switch
      pub cases_goes : (i : ℕ) (rest : tree.Stmts) → AreWell (inside g.t g.n g.f) (in_switch io) rest → RoomRow g.t g.n g.f g.a rest → Free g.t (greatest_row rest) → IsPast labels n i → SimCases i rest
          → GoesS inside_switch (in_switch io) (row_way rest (run_row (here g) rest) (switch_way w)) left (from_case i rest left r) q
      cases_goes i rest well room free past sim = record {
        at = at_cases n place labels i rest g.low well room free past goes.at;
        end = λ vs b tm ob h. sim vs b tm ob h;
        breaks = λ e vs b tm ob h.
            passed_over rest i (λ at d. let is : past.at ≡ at = same_Some past.at at (sym past.starts ∙ d) in omega (arith, past.past, is)) left r q (w.end (now g vs b)) vs b tm ob h
            (λ a z. goes.end vs b a ob (leaves_switch 0 vs a ob z));
        continues = λ e vs b tm ob h. goes.continues e vs b tm ob (leaves_switch 1 vs tm ob h);
        over_breaks = λ e none. absurd cc;
        over_nexts = goes.over_nexts;
      }

      module _ (s : tree.Stmt) (rest : tree.Stmts) (i : ℕ) (sim : SimS inside_switch (in_switch io) s)
          (behind : GoesS inside_switch (in_switch io) (row_way rest (run_row (here g) rest) (switch_way w)) left (from_case (suc i) rest left r) q) where
        -- a statement that is executed
        under_flag : (vs : List Variable) (b : Blocks) (tm : ℕ → Held) (ob : ℕ → Option ℕ) → SwitchStands 1 vs tm ob
            → Alike g (run_stmt (here g) s (row_way rest (run_row (here g) rest) (switch_way w)) (now g vs b))
            (then_ (branches (stmt_place s) (suc (start g)) (stmt_nodes (frame inside_switch) s left no_nodes) no_nodes (from_case (suc i) rest left r)) q) (own g ob tm b)
        under_flag vs b tm ob h =
            flag_on g _ (stmt_place s) (suc (start g)) (stmt_nodes (frame inside_switch) s left no_nodes) (from_case (suc i) rest left r) q (own g ob tm b) h.switches.2
            (sim (row_way rest (run_row (here g) rest) (switch_way w)) left no_nodes (then_ (from_case (suc i) rest left r) q)
            (inner_row inside_switch (in_switch io) (row_way rest (run_row (here g) rest) (switch_way w)) left (from_case (suc i) rest left r) q behind) vs b tm ob h)

        -- one behind the chosen label, and the one at which it stands
        pub case_alike : IsPast labels n i → (vs : List Variable) (b : Blocks) (tm : ℕ → Held) (ob : ℕ → Option ℕ) → SwitchStands 1 vs tm ob
            → Alike g (run_row (here g) (tree.more_stmts s rest) (switch_way w) (now g vs b)) (then_ (from_case i (tree.more_stmts s rest) left r) q) (own g ob tm b)
        case_alike past vs b tm ob h =
            pass_here 1 i (λ at d y. let is : past.at ≡ at = same_Some past.at at (sym past.starts ∙ d) in absurd (omega (arith, past.past, is, y))) _ q _ vs b tm ob h
            (λ a z. under_flag vs b a ob z)

        pub start_alike : starts_at labels n ≡ Some i → (vs : List Variable) (b : Blocks) (tm : ℕ → Held) (ob : ℕ → Option ℕ) → SwitchStands 0 vs tm ob
            → Alike g (run_from (here g) (tree.more_stmts s rest) 0 (switch_way w) (now g vs b)) (then_ (from_case i (tree.more_stmts s rest) left r) q) (own g ob tm b)
        start_alike at_it vs b tm ob h =
            let l = label_there labels n i at_it in
            hit_labels g place ob b n i labels 0 n l.0 l.1 l.2 (omega arith) (omega (arith, few)) (omega (arith, small)) _ q _ tm h.switches.3.2
            (λ a keep one. under_flag vs b a ob (resumes vs tm a ob h keep one))

      -- a statement before it
      pub before_alike : (s : tree.Stmt) (rest : tree.Stmts) (i k : ℕ) → starts_at labels n ≡ Some (i + suc k)
          → ((vs : List Variable) (b : Blocks) (tm : ℕ → Held) (ob : ℕ → Option ℕ) → SwitchStands 0 vs tm ob
          → Alike g (run_from (here g) rest k (switch_way w) (now g vs b)) (then_ (from_case (suc i) rest left r) q) (own g ob tm b))
          → (vs : List Variable) (b : Blocks) (tm : ℕ → Held) (ob : ℕ → Option ℕ) → SwitchStands 0 vs tm ob
          → Alike g (run_from (here g) (tree.more_stmts s rest) (suc k) (switch_way w) (now g vs b)) (then_ (from_case i (tree.more_stmts s rest) left r) q) (own g ob tm b)
      before_alike s rest i k at_it next vs b tm ob h =
          pass_here 0 i (λ at d y. let is : i + suc k ≡ at = same_Some (i + suc k) at (sym at_it ∙ d) in absurd (omega (arith, is, y))) _ q _ vs b tm ob h
          (λ a z. flag_off g _ (stmt_place s) (suc (start g)) (stmt_nodes (frame inside_switch) s left no_nodes) (from_case (suc i) rest left r) q (own g ob a b) z.switches.2 (next vs b a ob z))

-- ---- the value of a switch

module _ (g : Setting) (io : Jumps) (w : Way) (left : List ℕ) (r : Nodes) (q : Position) (goes : GoesS g io w left r q) (place : ℕ) (labels : List tree.Label) (body : tree.Stmts) (few : length labels ≤ 1024) where
  behind_two : length g.f.locals ≤ suc (suc (start g))
  behind_two = let low = g.low in omega (arith, low)

  -- the code of the statements from the chosen label on does what these do
  abbrev pub SimFrom : Type 0
  SimFrom = (n : ℕ) (low : length g.f.locals ≤ suc (suc (start g))) (small : n ≤ 1024) (at : ℕ) → starts_at labels n ≡ Some at → (vs : List Variable) (b : Blocks) (tm : ℕ → Held) (ob : ℕ → Option ℕ) → SwitchStands g n low 0 vs tm ob
      → Alike g (run_from (here g) body at (switch_way w) (now g vs b)) (then_ (from_case g n low place labels few small 0 body left r) q) (own g ob tm b)

  starts_from : SimFrom → (n : ℕ) (low : length g.f.locals ≤ suc (suc (start g))) (small : n ≤ 1024) (o : Option ℕ) → starts_at labels n ≡ o → (vs : List Variable) (b : Blocks) (tm : ℕ → Held) (ob : ℕ → Option ℕ) → SwitchStands g n low 0 vs tm ob
      → Alike g (starts (run_from (here g) body) w o (now g vs b)) (then_ (from_case g n low place labels few small 0 body left r) q) (own g ob tm b)
  starts_from sim n low small None e vs b tm ob h =
      passed_over g n low place labels few small body 0 (λ at d. let c : None ≡ Some at = sym e ∙ d in absurd cc) left r q (w.end (now g vs b)) vs b tm ob h
      (λ a z. goes.end vs b a ob (leaves_switch g n low 0 vs a ob z))
  starts_from sim n low small (Some at) e vs b tm ob h = sim n low small at e vs b tm ob h

  pub switch_test_goes : (s : IntType) → AllByRecursion (IsLabel (tree.integer s) (stmts_count body)) labels → AreWell (inside g.t g.n g.f) (in_switch io) body → RoomRow g.t g.n g.f g.a body → Free g.t (greatest_row body) → SimFrom
      → (vs : List Variable) (ob : ℕ → Option ℕ) (b : Blocks) (tm : ℕ → Held) → Stands g vs tm ob → (rch : Reach)
      → GoesE g vs ob b tm (switch_test_way labels body (run_from (here g) body) w) (suc (suc (start g))) (accesses.Number s) rch
      (sets_int place (start g) (default_from 0 labels) (choose_nodes place (start g) 0 labels (sets_int place (suc (start g)) 0 (cases g.t g.n g.f g.a 0 place labels 0 body left r)))) q
  switch_test_goes s all well room free sim vs ob b tm agrees rch = record {
    at = at_switch_test place labels body s rch all few well room free goes.at;
    above = omega arith;
    agrees = agrees;
    go = λ v a kind below is points. by v a kind below is;
  }
    where
      by : (v : Value) (a : ℕ → Held) → HasKind (accesses.Number s) v → Below (suc (suc (start g))) tm a → a (suc (suc (start g))) ≡ value v
          → Alike g (starts (run_from (here g) body) w (starts_at labels (chosen labels v)) (now g vs b))
          (then_ (sets_int place (start g) (default_from 0 labels) (choose_nodes place (start g) 0 labels (sets_int place (suc (start g)) 0 (cases g.t g.n g.f g.a 0 place labels 0 body left r)))) q) (own g ob a b)
      by (values.Pointer p) a kind below is = elim kind [ ]
      by (values.Num m) a kind below is =
          let other : ℕ = default_from 0 labels in
          let n : ℕ = chosen labels (values.Num m) in
          let small : n ≤ 1024 = equal_small (values.Num m) other 0 1024 labels (default_small 0 1024 labels (omega (arith, few))) (omega (arith, few)) in
          let one : ℕ → Held = set_at a (start g) (number (num int (pos other))) in
          let far : suc (suc (start g)) ≢ start g = λ e. absurd (omega (arith, e)) in
          let x = starts (run_from (here g) body) w (starts_at labels n) (now g vs b) in
          let h = agrees_on g vs tm a ob (start g) (omega arith) agrees (λ i lt. below i (omega (arith, lt))) in
          set_then (lowered g.t) g.thread g.answer g.cs' g.s g.t x place (start g) (ir.constant int (pos other)) _ q (own g ob a b) (number (num int (pos other))) refl
          (choose_alike g place ob b s (stmts_count body) labels all 0 other _ q x one m kind (set_there a (start g) (number (num int (pos other))) (suc (suc (start g))) far ∙ is) (set_here a (start g) (number (num int (pos other))))
          (λ c keep e.
          let two : ℕ → Held = set_at c (suc (start g)) (number (num int (pos 0))) in
          let apart : start g ≢ suc (start g) = λ y. absurd (omega (arith, y)) in
          let same : (i : ℕ) → i < start g → two i ≡ a i = λ i lt.
          set_there c (suc (start g)) (number (num int (pos 0))) i (λ y. absurd (omega (arith, lt, y))) ∙ keep i (λ y. absurd (omega (arith, lt, y))) (λ y. absurd (omega (arith, lt, y)))
          ∙ set_there a (start g) (number (num int (pos other))) i (λ y. absurd (omega (arith, lt, y))) in
          set_then (lowered g.t) g.thread g.answer g.cs' g.s g.t x place (suc (start g)) (ir.constant int (pos 0)) _ q (own g ob c b) (number (num int (pos 0))) refl
          (starts_from sim n behind_two small (starts_at labels n) refl vs b two ob
          (enters_switch g n behind_two 0 vs two ob (agrees_on g vs a two ob (start g) (omega arith) h same)
          (set_there c (suc (start g)) (number (num int (pos 0))) (start g) apart ∙ e) (set_here c (suc (start g)) (number (num int (pos 0))))))))
