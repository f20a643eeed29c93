-- What the answers of loading are among each other.
use Rattle.std.proofs.Common.{◌≡◌, ℕ, zero, suc, ◌<◌, ◌⊎◌, inl, inr, List, length, Ok, Err, refl, sym, ap, subst, ◌∙◌, arith}
use Rattle.std.proofs.lemmas.Bool.{false≢true}
use Rattle.formats.specs.Laws.{Longest, Spells}
use Rattle.formats.proofs.Whole.{one_spelling}
use Rattle.struct_ir.specs.Nodes.{Ir}
use Rattle.pin_checker.specs.declared.fault.Why.{Why}
use Rattle.pin_checker.specs.declared.fault.Why.TheVariants.{BadTemp, NoLook, StaleLook, NotPinned}
use Rattle.pin_checker.specs.CheckedViews.{program_in}
use Rattle.pin_checker.specs.Faults.{rank, NoLater, IsFirst}
use Rattle.pin_checker.specs.Safe.{IsSafe}
use Rattle.pin_checker.proofs.Main.{accepted_is}
use Rattle.code_file.specs.Files.{file}
use Rattle.code_file.specs.Reads.{IsBad}
use Rattle.code_file.specs.Calls.{ir_filled, ir_bare}
use Rattle.code_file.specs.Conditions.{meets, IsFile}
use Rattle.code_file.proofs.GrammarLaws.{file_lawful}
use Rattle.code_file.proofs.Fillings.{program_back}
use Rattle.code_load.specs.declared.loading.LoadFault.TheVariants.{BadCode, Unsafe, NoMemory}
use Rattle.code_load.specs.Loads.{IsUnmet, IsUnsafeFile}
use Rattle.code_load.specs.Laws.{LoadsWhatWasSaved, LoadingHasOneAnswer}

same_in : (depth : ℕ) (bytes : List ℕ) (x y : Ir) → Spells (file depth) x bytes → Spells (file depth) y bytes → x ≡ y
same_in depth bytes x y s t = (one_spelling (file depth) (file_lawful depth)).one_value x y s.0 t.0 (sym s.1 ∙ t.1)

same : (bytes : List ℕ) (x y : Ir) → Spells (file 1024) x bytes → Spells (file 1024) y bytes → x ≡ y
same = same_in 1024

-- bytes that are a file aren't bad
not_bad : (bytes : List ℕ) (at : ℕ) (code : Ir) → IsFile bytes code → IsBad bytes at ⊎ IsUnmet bytes at → ⊥
not_bad bytes at code f (inl bad) = bad.none code f.spells
not_bad bytes at code f (inr u) = false≢true (sym u.fails ∙ (ap (meets (length bytes)) (same bytes u.code code u.spells f.spells) ∙ f.lawful))

-- safe code isn't refused
not_refused : (bytes : List ℕ) (code p : Ir) (place : ℕ) (why : Why) → IsFile bytes code → ir_filled code ≡ p → IsSafe p → IsUnsafeFile bytes place why → ⊥
not_refused bytes code p place why f e safe u =
    let same_program : p ≡ ir_filled u.code = sym e ∙ ap ir_filled (same bytes code u.code f.spells u.is_file.spells) in
    u.refused.not_safe (subst (λ (x : Ir). IsSafe x) same_program safe)

pub what_was_saved : LoadsWhatWasSaved
what_was_saved p bytes safe f (Ok c) l =
    sym l.filled ∙ (ap ir_filled (same bytes l.code (ir_bare p) l.is_file.spells f.spells) ∙ program_back p safe.placed)
what_was_saved p bytes safe f (Err (BadCode at)) l = not_bad bytes at (ir_bare p) f l
what_was_saved p bytes safe f (Err (Unsafe place why)) l = not_refused bytes (ir_bare p) p place why f (program_back p safe.placed) safe l
what_was_saved p bytes safe f (Err NoMemory) l = tt

-- ---- two answers

not_longer : (bytes : List ℕ) (n m : ℕ) → Longest (file 1024) bytes n → Longest (file 1024) bytes m → n < m → ⊥
not_longer bytes n m x y lt = x.no_longer m lt y.within y.begins

one_longest : (bytes : List ℕ) (n m : ℕ) → Longest (file 1024) bytes n → Longest (file 1024) bytes m → n ≡ m
one_longest bytes n m x y =
    let a : n < m → ⊥ = not_longer bytes n m x y in
    let b : m < n → ⊥ = not_longer bytes m n y x in
    omega (arith, a, b)

one_end : (bytes : List ℕ) (n m : ℕ) → IsBad bytes n ⊎ IsUnmet bytes n → IsBad bytes m ⊎ IsUnmet bytes m → n ≡ m
one_end bytes n m (inl x) (inl y) = one_longest bytes n m x.longest y.longest
one_end bytes n m (inl x) (inr y) = absurd (x.none y.code y.spells)
one_end bytes n m (inr x) (inl y) = absurd (y.none x.code x.spells)
one_end bytes n m (inr x) (inr y) = x.end ∙ sym y.end

abbrev of_rank : ℕ → Why
of_rank zero = BadTemp
of_rank (suc zero) = NoLook
of_rank (suc (suc zero)) = StaleLook
of_rank (suc (suc (suc n))) = NotPinned

rank_back : (w : Why) → of_rank (rank w) ≡ w
rank_back BadTemp = refl
rank_back NoLook = refl
rank_back StaleLook = refl
rank_back NotPinned = refl

one_first : (a b : ℕ) (w v : Why) → NoLater a w b v → NoLater b v a w → (a ≡ b) × (w ≡ v)
one_first a b w v (inl x) (inl y) = absurd (omega (arith, x, y))
one_first a b w v (inl x) (inr y) = absurd (omega (arith, x, y.0))
one_first a b w v (inr x) (inl y) = absurd (omega (arith, x.0, y))
one_first a b w v (inr x) (inr y) =
    let e : rank w ≡ rank v = omega (arith, x.1, y.1) in
    (x.0, sym (rank_back w) ∙ (ap of_rank e ∙ rank_back v))

one_refusal : (bytes : List ℕ) (a b : ℕ) (w v : Why) → IsUnsafeFile bytes a w → IsUnsafeFile bytes b v → (a ≡ b) × (w ≡ v)
one_refusal bytes a b w v x y =
    let e : ir_filled y.code ≡ ir_filled x.code = ap ir_filled (same bytes y.code x.code y.is_file.spells x.is_file.spells) in
    let first : IsFirst (ir_filled x.code) b v = subst (λ (p : Ir). IsFirst p b v) e y.refused.first in
    one_first a b w v (x.refused.first.first b v first.fails) (first.first a w x.refused.first.fails)

pub has_one_answer : LoadingHasOneAnswer
has_one_answer bytes (Ok c) (Ok d) l m = sym l.filled ∙ (ap ir_filled (same bytes l.code m.code l.is_file.spells m.is_file.spells) ∙ m.filled)
has_one_answer bytes (Ok c) (Err NoMemory) l m = tt
has_one_answer bytes (Ok c) (Err (BadCode at)) l m = not_bad bytes at l.code l.is_file m
has_one_answer bytes (Ok c) (Err (Unsafe place why)) l m = not_refused bytes l.code (program_in c) place why l.is_file l.filled (accepted_is (program_in c) c.nothing_fails) m
has_one_answer bytes (Err NoMemory) s l m = tt
has_one_answer bytes (Err (BadCode at)) (Ok d) l m = not_bad bytes at m.code m.is_file l
has_one_answer bytes (Err (BadCode at)) (Err NoMemory) l m = tt
has_one_answer bytes (Err (BadCode at)) (Err (BadCode at')) l m = one_end bytes at at' l m
has_one_answer bytes (Err (BadCode at)) (Err (Unsafe place why)) l m = not_bad bytes at m.code m.is_file l
has_one_answer bytes (Err (Unsafe place why)) (Ok d) l m = not_refused bytes m.code (program_in d) place why m.is_file m.filled (accepted_is (program_in d) d.nothing_fails) l
has_one_answer bytes (Err (Unsafe place why)) (Err NoMemory) l m = tt
has_one_answer bytes (Err (Unsafe place why)) (Err (BadCode at)) l m = not_bad bytes at l.code l.is_file m
has_one_answer bytes (Err (Unsafe place why)) (Err (Unsafe place' why')) l m = one_refusal bytes place place' why why' l m
