-- What a node tells, by what its parts tell.
use Rattle.std.proofs.Common.{◌≡◌, false, Result, Ok, Err, refl, sym, subst, ◌∙◌}
use Rattle.c_lex.specs.declared.refusal.CompileFault.{CompileFault}
use Rattle.c_lex.specs.declared.refusal.CompileFault.TheVariants.{Refused, NoMemory}
use Rattle.c_typing.specs.Faults.{Judged, typed, Gives, both, ◌>>=◌}
use Rattle.c_typing.specs.Scope.{Context}
use Rattle.c_typing.specs.Judgement.{Judging, in_turn, ruled}
use Rattle.type_context.specs.declared.context.Context.{Context as CodeContext}
use Rattle.type_context.specs.ContextViews.{context_view}
use Rattle.type_context.specs.inner.Outcomes.{joined}
use Rattle.type_context.proofs.Judging.{fails_part, gives_both}
use Rattle.type_context.specs.Telling.{Leaves, Tells, lacks_memory}

-- where memory ran out all is told
pub memory_tells : {A B : Type 0} (view : A → B) (n : CodeContext) (p : Judged B × Context) → Tells view (Err NoMemory) n p
memory_tells view n p = record { gives = tt; leaves = tt }

-- the context is known whatever is returned
pub leaves_any : {A : Type 0} (r : Result A CompileFault) (n : CodeContext) (d : Context) → context_view n ≡ d → Leaves r n d
leaves_any (Ok x) n d h = h
leaves_any (Err (Refused r)) n d h = h
leaves_any (Err NoMemory) n d h = tt

-- what leaves the context as it is
pub lone_tells : {A B : Type 0} (view : A → B) (r : Result A CompileFault) (n : CodeContext) (j : Judged B) → Gives view r j → Tells view r n (j, context_view n)
lone_tells view r n j h = record { gives = h; leaves = leaves_any r n (context_view n) refl }

-- what leaves a context that is known
pub known_tells : {A B : Type 0} (view : A → B) (r : Result A CompileFault) (n : CodeContext) (j : Judged B) (d : Context) → Gives view r j → context_view n ≡ d → Tells view r n (j, d)
known_tells view r n j d h k = record { gives = h; leaves = leaves_any r n d k }

-- the same fault of another type leaves the same
pub leaves_fault : (A B : Type 0) (e : CompileFault) (n : CodeContext) (d : Context) → Leaves {A = A} (Err e) n d → Leaves {A = B} (Err e) n d
leaves_fault A B (Refused r) n d h = h
leaves_fault A B NoMemory n d h = tt

-- what both leave
left_by_both : (A B : Type 0) (a : Result A CompileFault) (b : Result B CompileFault) (m : CodeContext) (d : Context) → Leaves b m d → Leaves (joined a b) m d
unfolding joined
left_by_both A B (Ok x) (Ok y) m d h = h
left_by_both A B (Ok x) (Err e) m d h = leaves_fault B (A × B) e m d h
left_by_both A B (Err NoMemory) (Ok y) m d h = tt
left_by_both A B (Err NoMemory) (Err e) m d h = tt
left_by_both A B (Err (Refused r)) (Ok y) m d h = h
left_by_both A B (Err (Refused r)) (Err NoMemory) m d h = tt
left_by_both A B (Err (Refused r)) (Err (Refused s)) m d h = h

-- two parts, the second where the first left off
both_behind : {A B C D : Type 0} (va : A → C) (vb : B → D) (J : Judging C) (K : Judging D) (c : Context) (m : CodeContext) (a : Result A CompileFault) (b : Result B CompileFault)
    → Gives va a (J c).0 → Tells vb b m (K (J c).1) → Tells (λ (p : A × B). (va p.0, vb p.1)) (joined a b) m (in_turn J K c)
both_behind va vb J K c m a b h l = record {
  gives = gives_both va vb a b (J c).0 (K (J c).1).0 h l.gives;
  leaves = left_by_both _ _ a b m (K (J c).1).1 l.leaves;
}

no_memory_first : {A B C : Type 0} (v : A × B → C) (b : Result B CompileFault) (m : CodeContext) (p : Judged C × Context) → Tells v (joined (Err NoMemory) b) m p
unfolding joined
no_memory_first v (Ok y) m p = memory_tells v m p
no_memory_first v (Err e) m p = memory_tells v m p

-- two parts, one behind the other
pub both_tell : {A B C D : Type 0} (va : A → C) (vb : B → D) (J : Judging C) (K : Judging D) (c : Context) (n m : CodeContext) (a : Result A CompileFault) (b : Result B CompileFault)
    → Tells va a n (J c) → Tells vb b m (K (context_view n)) → Tells (λ (p : A × B). (va p.0, vb p.1)) (joined a b) m (in_turn J K c)
both_tell va vb J K c n m (Err NoMemory) b h l = no_memory_first (λ p. (va p.0, vb p.1)) b m (in_turn J K c)
both_tell va vb J K c n m (Ok x) b h l = both_behind va vb J K c m (Ok x) b h.gives (subst (λ d. Tells vb b m (K d)) h.leaves l)
both_tell va vb J K c n m (Err (Refused r)) b h l = both_behind va vb J K c m (Err (Refused r)) b h.gives (subst (λ d. Tells vb b m (K d)) h.leaves l)

-- the same, where the second is known only if the first didn't lack memory
pub both_tell_if : {A B C D : Type 0} (va : A → C) (vb : B → D) (J : Judging C) (K : Judging D) (c : Context) (n m : CodeContext) (a : Result A CompileFault) (b : Result B CompileFault)
    → Tells va a n (J c) → (lacks_memory a ≡ false → Tells vb b m (K (context_view n))) → Tells (λ (p : A × B). (va p.0, vb p.1)) (joined a b) m (in_turn J K c)
both_tell_if va vb J K c n m (Err NoMemory) b h l = no_memory_first (λ p. (va p.0, vb p.1)) b m (in_turn J K c)
both_tell_if va vb J K c n m (Ok x) b h l = both_behind va vb J K c m (Ok x) b h.gives (subst (λ d. Tells vb b m (K d)) h.leaves (l refl))
both_tell_if va vb J K c n m (Err (Refused r)) b h l = both_behind va vb J K c m (Err (Refused r)) b h.gives (subst (λ d. Tells vb b m (K d)) h.leaves (l refl))

-- what lacks no memory has parts that lack none
pub joined_keeps : {A B : Type 0} (a : Result A CompileFault) (b : Result B CompileFault) → lacks_memory (joined a b) ≡ false → (lacks_memory a ≡ false) × (lacks_memory b ≡ false)
unfolding joined
joined_keeps (Ok x) (Ok y) h = (refl, refl)
joined_keeps (Ok x) (Err (Refused s)) h = (refl, refl)
joined_keeps (Ok x) (Err NoMemory) h = cc
joined_keeps (Err NoMemory) (Ok y) h = cc
joined_keeps (Err NoMemory) (Err e) h = cc
joined_keeps (Err (Refused r)) (Ok y) h = (refl, refl)
joined_keeps (Err (Refused r)) (Err (Refused s)) h = (refl, refl)
joined_keeps (Err (Refused r)) (Err NoMemory) h = cc

-- a rule on parts that are typed, in the context behind them
pub ok_tells : {A B C D : Type 0} (va : A → C) (vr : B → D) (J : Judging C) (rule : Context → C → Judged D) (c : Context) (n : CodeContext) (a : Result A CompileFault) (x : A) (r : Result B CompileFault)
    → Tells va a n (J c) → a ≡ Ok x → Gives vr r (rule (context_view n) (va x)) → Tells vr r n (ruled J rule c)
ok_tells va vr J rule c n a x r h is g =
    let here : Tells va (Ok x) n (J c) = subst (λ b. Tells va b n (J c)) is h in
    record {
      gives = subst (λ j. Gives vr r (j >>= rule (J c).1)) (sym here.gives) (subst (λ d. Gives vr r (rule d (va x))) here.leaves g);
      leaves = leaves_any r n (J c).1 here.leaves;
    }

-- parts that are not
pub err_tells : {A B C D : Type 0} (va : A → C) (vr : B → D) (J : Judging C) (rule : Context → C → Judged D) (c : Context) (n : CodeContext) (a : Result A CompileFault) (e : CompileFault)
    → Tells va a n (J c) → a ≡ Err e → Tells vr (Err e) n (ruled J rule c)
err_tells {A = A} {B = B} va vr J rule c n a e h is =
    let here : Tells va (Err e) n (J c) = subst (λ b. Tells va b n (J c)) is h in
    record {
      gives = fails_part (J c).0 (rule (J c).1) e here.gives;
      leaves = leaves_fault A B e n (J c).1 here.leaves;
    }

-- a rule on one part, whose judgement is known
pub ok_finishes : {A B C D : Type 0} (va : A → C) (vr : B → D) (rule : C → Judged D) (p : Judged C × Context) (n : CodeContext) (a : Result A CompileFault) (x : A) (r : Result B CompileFault)
    → Tells va a n p → a ≡ Ok x → Gives vr r (rule (va x)) → Tells vr r n (p.0 >>= rule, p.1)
ok_finishes va vr rule p n a x r h is g =
    let here : Tells va (Ok x) n p = subst (λ b. Tells va b n p) is h in
    record { gives = subst (λ j. Gives vr r (j >>= rule)) (sym here.gives) g; leaves = leaves_any r n p.1 here.leaves }

pub err_finishes : {A B C D : Type 0} (va : A → C) (vr : B → D) (rule : C → Judged D) (p : Judged C × Context) (n : CodeContext) (a : Result A CompileFault) (e : CompileFault)
    → Tells va a n p → a ≡ Err e → Tells vr (Err e) n (p.0 >>= rule, p.1)
err_finishes {A = A} {B = B} va vr rule p n a e h is =
    let here : Tells va (Err e) n p = subst (λ b. Tells va b n p) is h in
    record { gives = fails_part p.0 rule e here.gives; leaves = leaves_fault A B e n p.1 here.leaves }

-- a rule on two parts, one behind the other, where both are typed
pub two_ok : {A B C D R E : Type 0} (va : A → C) (vb : B → D) (vr : R → E) (J : Judging C) (K : Judging D) (rule : Context → C × D → Judged E)
    (c : Context) (n m : CodeContext) (a : Result A CompileFault) (b : Result B CompileFault) (q : Result (A × B) CompileFault) (x : A × B) (r : Result R CompileFault)
    → Tells va a n (J c) → Tells vb b m (K (context_view n)) → q ≡ joined a b → q ≡ Ok x → Gives vr r (rule (context_view m) (va x.0, vb x.1)) → Tells vr r m (ruled (in_turn J K) rule c)
two_ok va vb vr J K rule c n m a b q x r h k is was g =
    ok_tells (λ p. (va p.0, vb p.1)) vr (in_turn J K) rule c m (joined a b) x r (both_tell va vb J K c n m a b h k) (sym is ∙ was) g

-- where one is not
pub two_err : {A B C D R E : Type 0} (va : A → C) (vb : B → D) (vr : R → E) (J : Judging C) (K : Judging D) (rule : Context → C × D → Judged E)
    (c : Context) (n m : CodeContext) (a : Result A CompileFault) (b : Result B CompileFault) (q : Result (A × B) CompileFault) (e : CompileFault)
    → Tells va a n (J c) → Tells vb b m (K (context_view n)) → q ≡ joined a b → q ≡ Err e → Tells vr (Err e) m (ruled (in_turn J K) rule c)
two_err va vb vr J K rule c n m a b q e h k is was =
    err_tells (λ p. (va p.0, vb p.1)) vr (in_turn J K) rule c m (joined a b) e (both_tell va vb J K c n m a b h k) (sym is ∙ was)
