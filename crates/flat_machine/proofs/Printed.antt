-- What a print comes to.
use Rattle.std.proofs.Common.{◌≡◌, ℕ, ◌+◌, ◌-◌, ◌%◌, ◌^◌, ◌≤◌, ◌++◌, List, length, take, Some, Ok, Err, inl, refl, ap, sym, ◌∙◌, length-append, arith}
use Rattle.std.specs.Prelude.{pos}
use Rattle.std.proofs.Math.Seq.{take-append_seam}
use Rattle.ak_words.specs.IntType.{int}
use Rattle.ak_words.specs.Num.{num}
use Rattle.ak_words.specs.Wrapped.{residue, wrapped_value}
use Rattle.flat_words.specs.Words.{number_word}
use Rattle.ak_trace.specs.declared.endings.TrapKind.TheVariants as kinds
use Rattle.flat_meaning.specs.Accesses.{prints}
use Rattle.flat_meaning.specs.Printing.{Read, reads, outside, too_long}
use Rattle.flat_machine.specs.declared.done.Done.{Done}
use Rattle.flat_machine.specs.declared.done.Done.TheVariants as dones
use Rattle.flat_machine.specs.declared.printing.Fault.{Fault}
use Rattle.flat_machine.specs.declared.printing.Fault.TheVariants as faults
use Rattle.flat_machine.specs.declared.turned.Turned.{Turned}
use Rattle.flat_machine.specs.Shares.{Shared}
use Rattle.flat_machine.specs.inner.Dones.{Does}
use Rattle.flat_machine.specs.inner.Prints.{with_more, PrintsPart}
use Rattle.flat_machine.proofs.Digits.{value_up, low_is, whole_is}
use Rattle.flat_machine.proofs.Doing.{does_go}
use Rattle.flat_machine.proofs.Prints.{with_output}

-- the word of a small number is the number
small_value : (n : ℕ) → n ≤ 16777216 → (num int (pos n)).value ≡ pos n
unfolding wrapped_value
small_value n small =
    let low : n ≡ n % 4294967296 = omega arith in
    value_up 32 2147483648 n n (inl (refl, refl)) (omega arith) (low ∙ low_is (2 ^ 32) n (omega arith)) (omega arith)

small_word : (n : ℕ) → n ≤ 16777216 → number_word (num int (pos n)) ≡ n
small_word n small = ap (residue (2 ^ 64)) (small_value n small) ∙ sym (whole_is n (omega arith))

-- all is printed
pub print_done : (old mid : Shared) (whole : Read) (r : Done) (before n : ℕ) (t : Turned) → before ≡ length old.memory.output → PrintsPart whole old mid (Ok tt) → length mid.memory.output ≤ 16777216 → n ≡ length mid.memory.output - before
    → r ≡ dones.Went (Some n) t → Does old mid r (prints whole old.memory)
print_done old mid (reads all) r before n t before_is put small n_is r_is =
    let lens : length mid.memory.output ≡ length old.memory.output + length all = ap (λ (s : Shared). length s.memory.output) put.1 ∙ length-append old.memory.output all in
    let count : n ≡ length all = omega (arith, lens) in
    let word : n ≡ number_word (num int (pos (length all))) = count ∙ sym (small_word (length all) (omega (arith, lens))) in
    does_go old r (prints (reads all) old.memory) mid (with_more old all).memory (Some (number_word (num int (pos (length all))))) t (r_is ∙ ap (λ (w : ℕ). dones.Went (Some w) t) word) refl put.1
print_done old mid (outside address) r before n t before_is put small n_is r_is = absurd (let e = put.0 in cc)
print_done old mid too_long r before n t before_is put small n_is r_is = absurd (let e = put.0 in cc)

-- what comes of a fault
abbrev pub fault_done : Fault → Done
fault_done (faults.Outside address) = dones.Trap address kinds.Print
fault_done faults.Full = dones.Full

-- what was printed is taken back
taken_back : (old mid new : Shared) (before : ℕ) (more : List ℕ) → before ≡ length old.memory.output → mid ≡ with_more old more → new ≡ with_output mid (take before mid.memory.output) → new ≡ old
taken_back old mid new before more before_is mid_is new_is =
    let cut : take before (old.memory.output ++ more) ≡ old.memory.output = rw before_is (take-append_seam old.memory.output more) in
    new_is ∙ ap (λ (s : Shared). with_output s (take before s.memory.output)) mid_is ∙ ap (with_output old) cut

-- nothing is printed
pub print_stopped : (old mid new : Shared) (whole : Read) (f : Fault) (r : Done) (before : ℕ) → before ≡ length old.memory.output → PrintsPart whole old mid (Err f) → new ≡ with_output mid (take before mid.memory.output) → r ≡ fault_done f
    → Does old new r (prints whole old.memory)
print_stopped old mid new (reads all) f r before before_is put new_is r_is = absurd (let e = put.0 in cc)
print_stopped old mid new (outside address) f r before before_is put new_is r_is =
    let same = taken_back old mid new before put.1 before_is put.2 new_is in
    let f_is : f ≡ faults.Outside address = let e = put.0 in cc in
    rw (r_is, f_is, same) (record { done_ = refl; left = refl })
print_stopped old mid new too_long f r before before_is put new_is r_is =
    let same = taken_back old mid new before put.1 before_is put.2 new_is in
    let f_is : f ≡ faults.Full = let e = put.0 in cc in
    rw (r_is, f_is, same) (record { done_ = refl; left = refl })
