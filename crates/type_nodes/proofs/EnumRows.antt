-- Enumerators in a row, one after the other.
use Rattle.std.proofs.Common.{◌≡◌, ℕ, false, List, [], ◌∷◌, ◌++◌, append_assoc, Result, Ok, Err, refl, ap, sym, subst, ◌∙◌}
use Rattle.std.specs.Prelude.{ℤ, pos, ◌+ℤ◌}
use Rattle.c_lex.specs.declared.refusal.CompileFault.{CompileFault}
use Rattle.c_lex.specs.declared.refusal.CompileFault.TheVariants.{Refused, NoMemory}
use Rattle.c_tree.specs.Syntax as source
use Rattle.c_typing.specs.Faults.{Judged, typed, faulty, both, ◌>>=◌}
use Rattle.c_typing.specs.Scope.{Context}
use Rattle.c_typing.specs.Judgement.{Judging, or_zero, judged_enumerator, judged_enumerators}
use Rattle.type_context.specs.declared.context.Context.{Context as CodeContext}
use Rattle.type_context.specs.ContextViews.{context_view}
use Rattle.type_context.specs.inner.Outcomes.{joined}
use Rattle.type_context.specs.Telling.{Tells, lacks_memory}
use Rattle.type_context.proofs.Walks.{both_tell_if}

-- whether enumerators are fine, the value of the next if none is given, and what is left behind them
pub record Behind : Type 0 where
  pub fine : Judged (Unit {0})
  pub next : ℤ
  pub left : Context

-- one more enumerator behind others
abbrev pub one_behind : Behind → source.Enumerator → Behind
one_behind b e = let x = judged_enumerator b.next e b.left in record { fine = both b.fine x.0 >>= λ p. typed tt; next = or_zero x.0 +ℤ pos 1; left = x.1 }

-- enumerators from the last on
abbrev pub all_behind : Behind → List source.Enumerator → Behind
all_behind b [] = b
all_behind b (e ∷ es) = all_behind (one_behind b e) es

-- before the first
abbrev pub none_behind : (next : ℤ) → Context → Behind
none_behind next c = record { fine = typed tt; next = next; left = c }

regroup : (i : Judged (Unit {0})) (j : Judged ℤ) (k : Judged (Unit {0})) → (both (both i j >>= λ p. typed (tt {0})) k >>= λ p. typed (tt {0})) ≡ (both i (both j k >>= λ p. typed (tt {0})) >>= λ p. typed (tt {0}))
regroup (typed u) (typed z) (typed v) = refl
regroup (typed u) (typed z) (faulty t ts) = refl
regroup (typed u) (faulty s ss) (typed v) = refl
regroup (typed u) (faulty s ss) (faulty t ts) = refl
regroup (faulty r rs) (typed z) (typed v) = refl
regroup (faulty r rs) (typed z) (faulty t ts) = refl
regroup (faulty r rs) (faulty s ss) (typed v) = refl
regroup (faulty r rs) (faulty s ss) (faulty t ts) = ap (faulty r) (append_assoc rs (s ∷ ss) (t ∷ ts))

alone : (i : Judged (Unit {0})) → (both i (typed (tt {0})) >>= λ p. typed (tt {0})) ≡ i
alone (typed u) = refl
alone (faulty r rs) = refl

fine_behind : (b : Behind) (es : List source.Enumerator) → (all_behind b es).fine ≡ (both b.fine (judged_enumerators b.next (source.enumerators_of es) b.left).0 >>= λ p. typed tt)
fine_behind b [] = sym (alone b.fine)
fine_behind b (e ∷ es) =
    let x = judged_enumerator b.next e b.left in
    fine_behind (one_behind b e) es ∙ regroup b.fine x.0 (judged_enumerators (or_zero x.0 +ℤ pos 1) (source.enumerators_of es) x.1).0

left_behind : (b : Behind) (es : List source.Enumerator) → (all_behind b es).left ≡ (judged_enumerators b.next (source.enumerators_of es) b.left).1
left_behind b [] = refl
left_behind b (e ∷ es) = left_behind (one_behind b e) es

-- enumerators, as they are judged
pub enumerators_are : (next : ℤ) (es : List source.Enumerator) (c : Context) → ((all_behind (none_behind next c) es).fine, (all_behind (none_behind next c) es).left) ≡ judged_enumerators next (source.enumerators_of es) c
enumerators_are next es c =
    let q = judged_enumerators next (source.enumerators_of es) c in
    ap (λ j. (j, (all_behind (none_behind next c) es).left)) (fine_behind (none_behind next c) es ∙ first q.0) ∙ ap (λ d. (q.0, d)) (left_behind (none_behind next c) es)
  where
    first : (j : Judged (Unit {0})) → (both (typed (tt {0})) j >>= λ p. typed (tt {0})) ≡ j
    first (typed u) = refl
    first (faulty r rs) = refl

pub behind_last : (b : Behind) (es : List source.Enumerator) (e : source.Enumerator) → all_behind b (es ++ e ∷ []) ≡ one_behind (all_behind b es) e
behind_last b [] e = refl
behind_last b (f ∷ es) e = behind_last (one_behind b f) es e

-- one more, told
pub one_tells : (b : Behind) (e : source.Enumerator) (c : Context) (n m : CodeContext) (a : Result (Unit {0}) CompileFault) (v : Result ℤ CompileFault) (next : ℤ)
    → Tells (λ (u : Unit {0}). u) a n (b.fine, b.left) → (lacks_memory a ≡ false → next ≡ b.next) → (lacks_memory a ≡ false → Tells (λ (z : ℤ). z) v m (judged_enumerator next e (context_view n)))
    → Tells (λ (p : Unit {0} × ℤ). (p.0, p.1)) (joined a v) m (both b.fine (judged_enumerator b.next e b.left).0, (judged_enumerator b.next e b.left).1)
one_tells b e c n m a v next h is told =
    both_tell_if (λ (u : Unit {0}). u) (λ (z : ℤ). z) (λ d. (b.fine, b.left)) (judged_enumerator b.next e) c n m a v h
    (λ fine. subst (λ (z : ℤ). Tells (λ (z : ℤ). z) v m (judged_enumerator z e (context_view n))) (is fine) (told fine))
