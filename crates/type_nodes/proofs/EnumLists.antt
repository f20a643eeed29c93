-- What enums and their enumerators tell, by what their parts tell.
use Rattle.std.proofs.Common.{◌≡◌, ℕ, Result, Ok, Err, refl, ap, sym, subst, ◌∙◌}
use Rattle.std.specs.Prelude.{ℤ}
use Rattle.ak_words.specs.IntType.{int}
use Rattle.c_lex.specs.declared.refusal.CompileFault.{CompileFault}
use Rattle.c_lex.specs.declared.refusal.CompileFault.TheVariants.{Refused, NoMemory}
use Rattle.c_tree.specs.declared.syntax.Name.{Name}
use Rattle.c_tree.specs.Typed.{integer, structure}
use Rattle.c_typing.specs.Faults.{Judged, typed, Gives, both, ◌>>=◌}
use Rattle.c_typing.specs.Scope.{Context, with_tag, tag_number, with_listed, with_enumerator}
use Rattle.c_typing.specs.Judgement.{Judging, Part, whole, is_no_enum, tagged, enumerator_fine, or_zero, enumerated}
use Rattle.type_context.specs.declared.context.Context.{Context as CodeContext}
use Rattle.type_context.specs.ContextViews.{context_view}
use Rattle.type_context.specs.inner.Outcomes.{joined}
use Rattle.type_context.specs.Telling.{Tells}
use Rattle.type_context.proofs.Judging.{gives_both}
use Rattle.type_context.proofs.Walks.{memory_tells, leaves_any, known_tells}
use Rattle.type_rules.specs.declared.specifiers.Part.{Part as CodePart}
use Rattle.type_rules.specs.SpecifierViews.{part_view}
use Rattle.type_nodes.specs.Nodes.{Finishes}
use Rattle.type_nodes.proofs.Telling.{finishes}

-- where memory ran out at the second of two parts all is told
no_memory_second : {A B C : Type 0} (v : A × B → C) (a : Result A CompileFault) (m : CodeContext) (p : Judged C × Context) → Tells v (joined a (Err NoMemory)) m p
unfolding joined
no_memory_second v (Ok x) m p = memory_tells v m p
no_memory_second v (Err NoMemory) m p = memory_tells v m p
no_memory_second v (Err (Refused r)) m p = memory_tells v m p

-- a part that stands for itself and one that was told, where what is left is changed behind them
both_left : {A B C D : Type 0} (va : A → C) (vb : B → D) (a : Result A CompileFault) (b : Result B CompileFault) (j : Context → Judged C) (p : Judged D × Context) (o m : CodeContext) (left : Context → Context)
    → Gives va a (j (context_view o)) → Tells vb b o p → context_view m ≡ left (context_view o) → Tells (λ (q : A × B). (va q.0, vb q.1)) (joined a b) m (both (j p.1) p.0, left p.1)
both_left va vb a (Err NoMemory) j p o m left g h is = no_memory_second (λ q. (va q.0, vb q.1)) a m (both (j p.1) p.0, left p.1)
both_left va vb a (Ok y) j p o m left g h is = record {
  gives = gives_both va vb a (Ok y) (j p.1) p.0 (subst (λ d. Gives va a (j d)) h.leaves g) h.gives;
  leaves = leaves_any (joined a (Ok y)) m (left p.1) (is ∙ ap left h.leaves);
}
both_left va vb a (Err (Refused r)) j p o m left g h is = record {
  gives = gives_both va vb a (Err (Refused r)) (j p.1) p.0 (subst (λ d. Gives va a (j d)) h.leaves g) h.gives;
  leaves = leaves_any (joined a (Err (Refused r))) m (left p.1) (is ∙ ap left h.leaves);
}

-- an enumerator, by its value
pub enumerated_tells : (n : Name) (J : Judging ℤ) (c : Context) (o m : CodeContext) (f : Result (Unit {0} × Unit {0}) CompileFault) (v r : Result ℤ CompileFault) (z : ℤ)
    → Tells (λ z. z) v o (J c) → Gives (λ x. x) f (enumerator_fine (context_view o) n) → z ≡ or_zero (J c).0 → context_view m ≡ with_enumerator (context_view o) n z
    → Finishes (λ z. z) (joined f v) (λ p. typed p.1) r → Tells (λ z. z) r m (enumerated n J c)
enumerated_tells n J c o m f v r z h g is_z is_m fin =
    let p = J c in
    let two = both_left (λ x. x) (λ (i : ℤ). i) f v (λ d. enumerator_fine d n) p o m (λ d. with_enumerator d n (or_zero p.0)) g h (is_m ∙ ap (with_enumerator (context_view o) n) is_z) in
    finishes (λ (q : (Unit {0} × Unit {0}) × ℤ). (q.0, q.1)) (λ (i : ℤ). i) (λ d. (both (enumerator_fine p.1 n) p.0, with_enumerator p.1 n (or_zero p.0))) (λ d q. typed q.1) c m (joined f v) r two fin

-- an enum, behind its closing brace
pub enum_closed_tells : (t : Name) (c : Context) (j : Judged (Unit {0})) (p : Judged (Unit {0}) × Context) (o m : CodeContext) (f l : Result (Unit {0}) CompileFault) (r : Result CodePart CompileFault)
    → Gives (λ _. tt) f j → Tells (λ _. tt) l o p → context_view m ≡ with_listed (context_view o) t → Finishes part_view (joined f l) (λ _. typed (whole (integer int))) r
    → Tells part_view r m (both j p.0 >>= (λ q. typed (whole (integer int))), with_listed p.1 t)
enum_closed_tells t c j p o m f l r g h is fin =
    let unit = λ (u : Unit {0}). u in
    let two = both_left unit unit f l (λ d. j) p o m (λ d. with_listed d t) g h is in
    finishes (λ (q : Unit {0} × Unit {0}). (q.0, q.1)) part_view (λ d. (both j p.0, with_listed p.1 t)) (λ d q. typed (whole (integer int))) c m (joined f l) r two fin

-- a struct by its tag
pub tagged_tells : (t : Name) (c : Context) (m : CodeContext) (number : ℕ) (r : Result CodePart CompileFault)
    → context_view m ≡ with_tag c t → number ≡ tag_number (with_tag c t) t → Gives part_view r (is_no_enum c t >>= λ u. typed (whole (structure number)))
    → Tells part_view r m (tagged t c)
tagged_tells t c m number r is_m is_number g =
    known_tells part_view r m (is_no_enum c t >>= λ u. typed (whole (structure (tag_number (with_tag c t) t)))) (with_tag c t)
    (subst (λ (i : ℕ). Gives part_view r (is_no_enum c t >>= λ u. typed (whole (structure i)))) is_number g) is_m
