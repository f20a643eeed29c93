-- Numbers that are changed and compared.
use Rattle.std.proofs.Common.{◌≡◌, ℕ, ◌/◌, ◌^◌, ◌+ℤ◌, Bool, true, false, cond, Some, None, refl, sym, ap, ◌∙◌}
use Rattle.std.specs.Ordering.{int_eq}
use Rattle.std.specs.Result.{result_unwrap_or}
use Rattle.ak_words.specs.declared.int_type.IntType.{IntType}
use Rattle.ak_words.specs.declared.number.Num.{Num}
use Rattle.ak_words.specs.declared.operation.Op.TheVariants.{Add, Eq}
use Rattle.ak_words.specs.declared.rule.Rule.TheVariants.{C1}
use Rattle.ak_words.specs.Bytes.{low_bytes}
use Rattle.ak_words.specs.IntType.{int}
use Rattle.ak_words.specs.Num.{num}
use Rattle.ak_words.specs.Op.{exact_result, rule_of, replacement, outcome, rule_if, overflows, truth}
use Rattle.ak_words.specs.Wrapped.{residue, wrapped_value}
use Rattle.block_store.specs.declared.values.Change.{Change}
use Rattle.flat_store.specs.Flat.{first_outside}
use Rattle.ak_trace.specs.declared.endings.TrapKind.TheVariants as kinds
use Rattle.flat_words.specs.Words.{applied, number_in, number_word}
use Rattle.flat_meaning.specs.Accesses.{Done, over, trap, went, within}
use Rattle.flat_meaning.specs.Actions.{word_after_change, changed, compared, is_equal, number_at}
use Rattle.flat_meaning.specs.Memory.{Memory, written}
use Rattle.flat_meaning.specs.Words.{Target}

-- ---- operations

-- with or without a broken rule the sum wraps
either : (b : Bool) (n : Num) → result_unwrap_or (outcome (rule_if C1 b) n) n ≡ n
either true n = refl
either false n = refl

pub added_is : (t : IntType) (a b : ℕ) → applied Add t a b ≡ number_word (num t ((number_in t a).value +ℤ (number_in t b).value))
unfolding exact_result rule_of replacement
added_is t a b = let sum = (number_in t a).value +ℤ (number_in t b).value in ap number_word (either (overflows t sum) (num t sum))

truth_word : (b : Bool) → residue (2 ^ 64) (wrapped_value int (truth b)) ≡ cond {A = ℕ} b 1 0
unfolding residue wrapped_value
truth_word true = refl
truth_word false = refl

equal_is : (t : IntType) (a b : ℕ) → applied Eq t a b ≡ cond {A = ℕ} (is_equal t a b) 1 0
unfolding rule_of exact_result
equal_is t a b = truth_word (int_eq (number_in t a).value (number_in t b).value)

one_only : (b : Bool) → cond {A = ℕ} b 1 0 ≡ 1 → b ≡ true
one_only true e = refl
one_only false e = absurd cc

not_one : (b : Bool) → (cond {A = ℕ} b 1 0 ≡ 1 → ⊥) → b ≡ false
not_one true e = absurd (e refl)
not_one false e = refl

pub are_equal : (t : IntType) (a b same : ℕ) → same ≡ applied Eq t a b → same ≡ 1 → is_equal t a b ≡ true
are_equal t a b same is e = one_only (is_equal t a b) (sym (is ∙ equal_is t a b) ∙ e)

pub are_unequal : (t : IntType) (a b same : ℕ) → same ≡ applied Eq t a b → (same ≡ 1 → ⊥) → is_equal t a b ≡ false
are_unequal t a b same is e = not_one (is_equal t a b) (λ one. e (is ∙ equal_is t a b ∙ one))

-- ---- what comes of it

module _ (m : Memory) (t : IntType) where
  -- a number that is written at an address
  abbrev pub put : (address word gives : ℕ) → Done
  put address word gives = within kinds.Store (first_outside m.storage.bytes address (t.bits / 8)) (went (Some gives) (written m address (low_bytes (t.bits / 8) word)))

  pub changed_is : (how : Change) (a : Target) (by old new : ℕ) → old ≡ number_at t a.address m → new ≡ word_after_change how t old by → put a.address new old ≡ changed how t a by m
  changed_is how a by old new old_is new_is = ap (λ (w : ℕ). put a.address w old) new_is ∙ ap (λ (o : ℕ). put a.address (word_after_change how t o by) o) old_is

  module _ (a want : Target) (new old wanted : ℕ) (old_is : old ≡ number_at t a.address m) (wanted_is : wanted ≡ number_at t want.address m) (first : first_outside m.storage.bytes a.address (t.bits / 8) ≡ None) where
    -- the second address is outside
    pub second_traps : (address : ℕ) → first_outside m.storage.bytes want.address (t.bits / 8) ≡ Some address → compared t a want new m ≡ over (trap address kinds.Store)
    second_traps address second = rw (first, second) refl

    module _ (second : first_outside m.storage.bytes want.address (t.bits / 8) ≡ None) where
      same_numbers : (b : Bool) → is_equal t old wanted ≡ b → is_equal t (number_at t a.address m) (number_at t want.address m) ≡ b
      same_numbers b e = (λ i. is_equal t (sym old_is i) (sym wanted_is i)) ∙ e

      pub equal_puts : is_equal t old wanted ≡ true → put a.address new 1 ≡ compared t a want new m
      equal_puts e = rw (first, second, same_numbers true e) refl

      pub unequal_puts : is_equal t old wanted ≡ false → put want.address old 0 ≡ compared t a want new m
      unequal_puts e = ap (λ (o : ℕ). put want.address o 0) old_is ∙ (rw (first, second, same_numbers false e) refl)
