-- The first thread that doesn't wait, step by step.
use Rattle.std.proofs.Common.{◌≡◌, ◌<◌, ◌+◌, ◌-◌, ℕ, suc, Bool, true, false, if◌then◌else◌, List, ◌∷◌, ◌++◌, length, drop, take, get_or, Option, Some, None, sym, ap, subst, ◌∙◌, add-one, drop-cons, length-drop}
use Rattle.std.proofs.Math.Seq.{take-length}
use Rattle.block_store.specs.declared.values.Answer.{Answer}
use Rattle.block_store.specs.declared.values.Answer.TheVariants as answers
use Rattle.block_store.specs.Runs.{Program, State}
use Rattle.c_tree.specs.Typed.{Typed}
use Rattle.c_meaning.specs.Control.{Control}
use Rattle.c_meaning.specs.Meaning.{program}
use Rattle.block_meaning.specs.Asking.{told}
use Rattle.block_meaning.specs.declared.running.Turned.{Turned}
use Rattle.block_meaning.specs.declared.running.Turned.TheVariants as turneds
use Rattle.rule_check.specs.declared.choosing.Next.{Next}
use Rattle.rule_check.specs.Seeded.{is_blocked, first_ready}
use Rattle.rule_check.specs.inner.Steps.{IsTried, IsFound}
use Rattle.rule_check.proofs.Ready.{found_before, found_behind}
use Rattle.rule_check.proofs.Told.{waiting_stays}

at_place : (threads : List ℕ) (i x : ℕ) → i < length threads → x ≡ get_or threads i x → drop i threads ≡ x ∷ drop (i + 1) threads
at_place threads i x h e = rw (add-one, drop-cons threads i x h) (ap (λ y. y ∷ drop (suc i) threads) (sym e))

-- one that waits is passed over
pub passes : {A : Type 0} (P : Program A) (s : State A) (threads : List ℕ) (i x : ℕ) (all : Option ℕ) → i < length threads → x ≡ get_or threads i x → is_blocked (told P s x answers.Plain) ≡ true → first_ready P s (drop i threads) ≡ all → first_ready P s (drop (i + 1) threads) ≡ all
passes P s threads i x all h e waits so =
    sym (ap (λ (b : Bool). if b then first_ready P s (drop (i + 1) threads) else Some x) waits) ∙ sym (ap (first_ready P s) (at_place threads i x h e)) ∙ so

-- one that doesn't is found
pub finds : {A : Type 0} (P : Program A) (s : State A) (threads : List ℕ) (i x : ℕ) (all : Option ℕ) → i < length threads → x ≡ get_or threads i x → is_blocked (told P s x answers.Plain) ≡ false → first_ready P s (drop i threads) ≡ all → all ≡ Some x
finds P s threads i x all h e goes so =
    sym so ∙ ap (first_ready P s) (at_place threads i x h e) ∙ ap (λ (b : Bool). if b then first_ready P s (drop (i + 1) threads) else Some x) goes

-- the state behind one that waits
pub stays_behind : (typed : Typed) (s after : State Control) (thread : ℕ) (a : Answer) (t : Turned) → IsTried typed s thread a t after → t ≡ turneds.Blocked → after ≡ s
stays_behind typed s after thread a t tried is = tried.leaves ∙ waiting_stays typed s thread _ (tried.says ∙ ap Some is)

-- found in the first part, or behind it
pub found_first : (typed : Typed) (s after : State Control) (l m : List ℕ) (n : Next) → IsFound typed s l (Some n) after → IsFound typed s (l ++ m) (Some n) after
found_first typed s after l m n found = (found_before (program typed) s l m n.thread found.0, found.1, found.2)

found_there : (typed : Typed) (s after : State Control) (l m : List ℕ) (n : Option Next) → first_ready (program typed) s l ≡ None → IsFound typed s m n after → IsFound typed s (l ++ m) n after
found_there typed s after l m None none found = (found_behind (program typed) s l m none ∙ found.0, found.1)
found_there typed s after l m (Some n) none found = (found_behind (program typed) s l m none ∙ found.0, found.1, found.2)

pub found_second : (typed typed' : Typed) (s mid after : State Control) (l m : List ℕ) (n : Option Next) → IsFound typed s l None mid → typed' ≡ typed → IsFound typed' mid m n after → IsFound typed s (l ++ m) n after
found_second typed typed' s mid after l m n none same found =
    found_there typed s after l m n none.0 (subst (λ (u : State Control). IsFound typed u m n after) none.1 (subst (λ (p : Typed). IsFound p mid m n after) same found))

-- all that is left behind a place
pub whole_rest : (place : ℕ) (l : List ℕ) → take (length l - place) (drop place l) ≡ drop place l
whole_rest place l = ap (λ n. take n (drop place l)) (sym (length-drop place l)) ∙ take-length (drop place l)
