-- Outcomes of the code against the judgement.
use Rattle.std.proofs.Common.{◌≡◌, List, [], ◌∷◌, ◌++◌, Some, Result, Ok, Err, refl, ap, sym, subst, ◌∙◌, arith}
use Rattle.std.proofs.lemmas.Bool.Decides.{nat_tests}
use Rattle.c_lex.specs.declared.refusal.Refusal.{Refusal}
use Rattle.c_lex.specs.declared.refusal.CompileFault.{CompileFault}
use Rattle.c_lex.specs.declared.refusal.CompileFault.TheVariants.{Refused, NoMemory}
use Rattle.c_typing.specs.Faults.{Judged, typed, faulty, Fails, Gives, ◌>>=◌, both, earlier, least}
use Rattle.type_context.specs.inner.Outcomes.{joined}
use Rattle.type_context.specs.Telling.{as_fault, Says, both_fine}

-- what fails where there is a typed form lacks memory, and may fail anywhere
pub fails_typed : {A B : Type 0} (y : A) (j : Judged B) (e : CompileFault) → Fails e (typed y) → Fails e j
fails_typed y j NoMemory h = tt
fails_typed y j (Refused r) h = cc

-- what fails at a part fails at the node
pub fails_part : {A B : Type 0} (j : Judged A) (f : A → Judged B) (e : CompileFault) → Fails e j → Fails e (j >>= f)
fails_part j f NoMemory h = tt
fails_part (typed x) f (Refused r) h = cc
fails_part (faulty s ss) f (Refused r) h = h

-- the refusal at a part is that at the node
pub refused_part : {A B : Type 0} (j : Judged A) (f : A → Judged B) (r : Refusal) → Fails (Refused r) j → Fails (Refused r) (j >>= f)
refused_part j f r h = fails_part j f (Refused r) h

-- what was said is given where memory might have run out
pub fault_gives : {A B : Type 0} (view : A → B) (r : Result A Refusal) (f : Result A CompileFault) (j : Judged B) → f ≡ as_fault r → Says view r j → Gives view f j
fault_gives view r f j is h = subst (λ x. Gives view x j) (sym is) h

earlier_assoc : (a b c : Refusal) → earlier (earlier a b) c ≡ earlier a (earlier b c)
unfolding earlier
earlier_assoc a b c = grind (arith, nat_tests)

-- the first of two lists of faults is the first of the first of each
least_append : (r : Refusal) (rs : List Refusal) (s : Refusal) (ss : List Refusal) → least r (rs ++ s ∷ ss) ≡ earlier (least r rs) (least s ss)
least_append r [] s ss = refl
least_append r (t ∷ rs) s ss = ap (earlier r) (least_append t rs s ss) ∙ sym (earlier_assoc r (least t rs) (least s ss))

-- two parts
pub gives_both : {A B C D : Type 0} (va : A → C) (vb : B → D) (a : Result A CompileFault) (b : Result B CompileFault) (j : Judged C) (k : Judged D)
    → Gives va a j → Gives vb b k → Gives (λ (p : A × B). (va p.0, vb p.1)) (joined a b) (both j k)
unfolding joined
gives_both va vb (Ok x) (Ok y) j k h l = rw (h, l) refl
gives_both va vb (Ok x) (Err NoMemory) j k h l = tt
gives_both va vb (Err NoMemory) (Ok y) j k h l = tt
gives_both va vb (Err NoMemory) (Err e) j k h l = tt
gives_both va vb (Err (Refused r)) (Err NoMemory) j k h l = tt
gives_both va vb (Ok x) (Err (Refused s)) (typed u) (typed v) h l = cc
gives_both va vb (Ok x) (Err (Refused s)) (typed u) (faulty s' ss) h l = l
gives_both va vb (Ok x) (Err (Refused s)) (faulty r' rs) k h l = cc
gives_both va vb (Err (Refused r)) (Ok y) (typed u) k h l = cc
gives_both va vb (Err (Refused r)) (Ok y) (faulty r' rs) (typed v) h l = h
gives_both va vb (Err (Refused r)) (Ok y) (faulty r' rs) (faulty s' ss) h l = cc
gives_both va vb (Err (Refused r)) (Err (Refused s)) (typed u) k h l = cc
gives_both va vb (Err (Refused r)) (Err (Refused s)) (faulty r' rs) (typed v) h l = cc
gives_both va vb (Err (Refused r)) (Err (Refused s)) (faulty r' rs) (faulty s' ss) h l =
    let p : least r' rs ≡ r = cc in
    let q : least s' ss ≡ s = cc in
    ap Some (least_append r' rs s' ss ∙ ap (λ x. earlier x (least s' ss)) p ∙ ap (earlier r) q)

-- where both parts are not typed, the node fails
pub both_fails : {A B C D E : Type 0} (va : A → C) (vb : B → D) (a : Result A CompileFault) (b : Result B CompileFault) (j : Judged C) (k : Judged D) (f : C × D → Judged E) (e : CompileFault)
    → Gives va a j → Gives vb b k → joined a b ≡ Err e → Fails e (both j k >>= f)
both_fails va vb a b j k f e h l q = fails_part (both j k) f e (subst (λ r. Gives (λ p. (va p.0, vb p.1)) r (both j k)) q (gives_both va vb a b j k h l))

-- where they are, they are these
pub both_typed : {A B C D : Type 0} (va : A → C) (vb : B → D) (a : Result A CompileFault) (b : Result B CompileFault) (j : Judged C) (k : Judged D) (p : A × B)
    → Gives va a j → Gives vb b k → joined a b ≡ Ok p → both j k ≡ typed (va p.0, vb p.1)
both_typed va vb a b j k p h l q = subst (λ r. Gives (λ p. (va p.0, vb p.1)) r (both j k)) q (gives_both va vb a b j k h l)

-- where they are, the node is judged from these
pub both_then : {A B C D E F : Type 0} (va : A → C) (vb : B → D) (ve : F → E) (a : Result A CompileFault) (b : Result B CompileFault) (j : Judged C) (k : Judged D) (f : C × D → Judged E) (p : A × B) (r : Result F CompileFault)
    → Gives va a j → Gives vb b k → joined a b ≡ Ok p → Gives ve r (f (va p.0, vb p.1)) → Gives ve r (both j k >>= f)
both_then va vb ve a b j k f p r h l q g = subst (λ i. Gives ve r (i >>= f)) (sym (both_typed va vb a b j k p h l q)) g

-- two things that are fine, and then what follows
pub fine_then : {A : Type 0} (j k : Judged (Unit {0})) (next : Judged A) → (both j k >>= λ p. next) ≡ (both_fine j k >>= λ u. next)
fine_then (typed u) (typed v) next = refl
fine_then (typed u) (faulty s ss) next = refl
fine_then (faulty r rs) (typed v) next = refl
fine_then (faulty r rs) (faulty s ss) next = refl
