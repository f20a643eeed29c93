-- What a node tells at the exits of its body.
use Rattle.std.proofs.Common.{◌≡◌, [], ◌∷◌, ◌++◌, Result, Ok, Err, ap, sym, subst, ◌∙◌}
use Rattle.std.specs.Result.{IsErrAnd}
use Rattle.std.proofs.lemmas.Result.{err_from_is_err_and}
use Rattle.c_lex.specs.declared.refusal.CompileFault.{CompileFault}
use Rattle.c_lex.specs.declared.refusal.CompileFault.TheVariants.{Refused, NoMemory}
use Rattle.c_tree.specs.declared.typed.CType.{CType}
use Rattle.c_tree.specs.Typed.{Ty, void, mutex}
use Rattle.c_tree.specs.TypedViews.{type_view}
use Rattle.c_typing.specs.Faults.{Judged, typed, Fails, Gives, both, ◌>>=◌}
use Rattle.c_typing.specs.Scope.{Context, inside, back_to}
use Rattle.c_typing.specs.Judgement.{Judging, in_turn, ruled}
use Rattle.c_typing.specs.Statements.{or_int, scoped}
use Rattle.type_context.specs.declared.context.Context.{Context as CodeContext}
use Rattle.type_context.specs.ContextViews.{context_view}
use Rattle.type_context.specs.inner.Outcomes.{joined}
use Rattle.type_context.proofs.Judging.{gives_both}
use Rattle.type_context.specs.Telling.{Tells}
use Rattle.type_context.proofs.Walks.{leaves_fault, memory_tells, known_tells, both_tell, ok_tells, err_tells, err_finishes}

-- ---- exits by `?`

-- parts that are not typed
pub err_passes : {A B C D : Type 0} (va : A → C) (vr : B → D) (J : Judging C) (rule : Context → C → Judged D) (c : Context) (n : CodeContext) (a : Result A CompileFault) (e : CompileFault) (r : Result B CompileFault)
    → Tells va a n (J c) → a ≡ Err e → IsErrAnd r (λ f. f ≡ e) → Tells vr r n (ruled J rule c)
err_passes va vr J rule c n a e r h is p =
    let q = err_from_is_err_and r p in
    subst (λ s. Tells vr s n (ruled J rule c)) (sym (q.1 ∙ ap Err q.2)) (err_tells va vr J rule c n a e h is)

-- memory ran out
pub memory_passes : {A B : Type 0} (view : A → B) (r : Result A CompileFault) (e : CompileFault) (n : CodeContext) (p : Judged B × Context) → e ≡ NoMemory → IsErrAnd r (λ f. f ≡ e) → Tells view r n p
memory_passes view r e n p is h =
    let q = err_from_is_err_and r h in
    subst (λ s. Tells view s n p) (sym (q.1 ∙ ap Err (q.2 ∙ is))) (memory_tells view n p)

-- a judgement that is not typed
pub fails_passes : {A B : Type 0} (view : A → B) (r : Result A CompileFault) (e : CompileFault) (j : Judged B) → Fails e j → IsErrAnd r (λ f. f ≡ e) → Gives view r j
fails_passes view r e j h p =
    let q = err_from_is_err_and r p in
    subst (λ s. Gives view s j) (sym (q.1 ∙ ap Err q.2)) h

-- the same value of another type
pub ok_again : {A B C : Type 0} (va : A → C) (vr : B → C) (p : Judged C × Context) (n : CodeContext) (a : Result A CompileFault) (x : A) (y : B) → Tells va a n p → a ≡ Ok x → vr y ≡ va x → Tells vr (Ok y) n p
ok_again va vr p n a x y h is same =
    let here : Tells va (Ok x) n p = subst (λ b. Tells va b n p) is h in
    record { gives = here.gives ∙ ap typed (sym same); leaves = here.leaves }

-- the same fault
pub err_again : {A B C : Type 0} (va : A → C) (vr : B → C) (p : Judged C × Context) (n : CodeContext) (a : Result A CompileFault) (e : CompileFault) (r : Result B CompileFault) → Tells va a n p → a ≡ Err e → IsErrAnd r (λ f. f ≡ e) → Tells vr r n p
err_again {A = A} {B = B} va vr p n a e r h is back =
    let q = err_from_is_err_and r back in
    let here : Tells va (Err e) n p = subst (λ b. Tells va b n p) is h in
    subst (λ s. Tells vr s n p) (sym (q.1 ∙ ap Err q.2)) (record { gives = here.gives; leaves = leaves_fault A B e n p.1 here.leaves })

-- two parts, one behind the other
pub two_pass : {A B R C D E : Type 0} (va : A → C) (vb : B → D) (vr : R → E) (J : Judging C) (K : Judging D) (rule : Context → (C × D) → Judged E) (c : Context) (n m : CodeContext)
    (a : Result A CompileFault) (b : Result B CompileFault) (q : Result (A × B) CompileFault) (e : CompileFault) (r : Result R CompileFault)
    → Tells va a n (J c) → Tells vb b m (K (context_view n)) → q ≡ joined a b → q ≡ Err e → IsErrAnd r (λ f. f ≡ e) → Tells vr r m (ruled (in_turn J K) rule c)
two_pass va vb vr J K rule c n m a b q e r h k is err p =
    err_passes (λ (p : _ × _). (va p.0, vb p.1)) vr (in_turn J K) rule c m (joined a b) e r (both_tell va vb J K c n m a b h k) (sym is ∙ err) p

pub two_rule : {A B R C D E : Type 0} (va : A → C) (vb : B → D) (vr : R → E) (J : Judging C) (K : Judging D) (rule : Context → (C × D) → Judged E) (c : Context) (n m : CodeContext)
    (a : Result A CompileFault) (b : Result B CompileFault) (q : Result (A × B) CompileFault) (x : A × B) (r : Result R CompileFault)
    → Tells va a n (J c) → Tells vb b m (K (context_view n)) → q ≡ joined a b → q ≡ Ok x → Gives vr r (rule (context_view m) (va x.0, vb x.1)) → Tells vr r m (ruled (in_turn J K) rule c)
two_rule va vb vr J K rule c n m a b q x r h k is ok g =
    ok_tells (λ (p : _ × _). (va p.0, vb p.1)) vr (in_turn J K) rule c m (joined a b) x r (both_tell va vb J K c n m a b h k) (sym is ∙ ok) g

-- ---- scopes

pub scope_tells : {A B : Type 0} (view : A → B) (J : Judging B) (c : Context) (m n o : CodeContext) (a : Result A CompileFault)
    → context_view m ≡ inside c → Tells view a n (J (context_view m)) → ((d : Context) → (J d).1.outer ≡ d.outer)
    → ((around : Context) → (context_view n).outer ≡ around.outer ++ around.inner ∷ [] → context_view o ≡ back_to around (context_view n))
    → Tells view a o (scoped J c)
scope_tells view J c m n o (Err NoMemory) into h keeps out = memory_tells view o (scoped J c)
scope_tells view J c m n o (Ok x) into h keeps out =
    let k : Tells view (Ok x) n (J (inside c)) = subst (λ d. Tells view (Ok x) n (J d)) into h in
    record { gives = k.gives; leaves = out c (ap (λ (d : Context). d.outer) k.leaves ∙ keeps (inside c)) ∙ ap (back_to c) k.leaves }
scope_tells view J c m n o (Err (Refused r)) into h keeps out =
    let k : Tells view (Err (Refused r)) n (J (inside c)) = subst (λ d. Tells view (Err (Refused r)) n (J d)) into h in
    record { gives = k.gives; leaves = out c (ap (λ (d : Context). d.outer) k.leaves ∙ keeps (inside c)) ∙ ap (back_to c) k.leaves }

-- ---- objects: a type, what is judged at the name, the declaration, and an initialiser behind it

-- the parts of an object that is declared
abbrev pub declared_parts : {X Y : Type 0} → Judging Ty → (Context → Judged Ty → Judged X) → (Context → Ty → Context) → (Judged Ty → Judging Y) → Judging ((X × Ty) × Y)
declared_parts O F W I c = in_turn (λ d. (both (F (O d).1 (O d).0) (O d).0, W (O d).1 (or_int (O d).0))) (I (O c).0) c

void_or_mutex : (s : Ty) → s ≡ void → s ≡ mutex → ⊥
void_or_mutex s h k = cc

-- a type and what is judged at its name, behind the declaration; where a type was named for a fault, memory was enough
pub object_fine : {A X : Type 0} (vx : A → X) (O : Judging Ty) (F : Context → Judged Ty → Judged X) (W : Context → Ty → Context)
    (c : Context) (m n : CodeContext) (t : Result CType CompileFault) (f : Result A CompileFault) (s : CType)
    → Tells type_view t m (O c)
    → ((j : Judged Ty) → Gives type_view t j → Gives vx f (F (context_view m) j))
    → ((j : Judged Ty) → Gives type_view t j → type_view s ≡ or_int j)
    → context_view n ≡ W (context_view m) (type_view s)
    → Tells (λ (p : A × CType). (vx p.0, type_view p.1)) (joined f t) n (both (F (O c).1 (O c).0) (O c).0, W (O c).1 (or_int (O c).0))
object_fine vx O F W c m n (Err NoMemory) f s h g w l = absurd (void_or_mutex (type_view s) (w (typed void) tt) (w (typed mutex) tt))
object_fine vx O F W c m n (Ok x) f s h g w l =
    let there : context_view m ≡ (O c).1 = h.leaves in
    let declared : context_view n ≡ W (O c).1 (or_int (O c).0) = l ∙ ap (λ d. W d (type_view s)) there ∙ ap (W (O c).1) (w (O c).0 h.gives) in
    let fine : Gives vx f (F (O c).1 (O c).0) = subst (λ d. Gives vx f (F d (O c).0)) there (g (O c).0 h.gives) in
    known_tells (λ (p : _ × CType). (vx p.0, type_view p.1)) (joined f (Ok x)) n (both (F (O c).1 (O c).0) (O c).0) (W (O c).1 (or_int (O c).0)) (gives_both vx type_view f (Ok x) (F (O c).1 (O c).0) (O c).0 fine h.gives) declared
object_fine vx O F W c m n (Err (Refused r)) f s h g w l =
    let there : context_view m ≡ (O c).1 = h.leaves in
    let declared : context_view n ≡ W (O c).1 (or_int (O c).0) = l ∙ ap (λ d. W d (type_view s)) there ∙ ap (W (O c).1) (w (O c).0 h.gives) in
    let fine : Gives vx f (F (O c).1 (O c).0) = subst (λ d. Gives vx f (F d (O c).0)) there (g (O c).0 h.gives) in
    known_tells (λ (p : _ × CType). (vx p.0, type_view p.1)) (joined f (Err (Refused r))) n (both (F (O c).1 (O c).0) (O c).0) (W (O c).1 (or_int (O c).0)) (gives_both vx type_view f (Err (Refused r)) (F (O c).1 (O c).0) (O c).0 fine h.gives) declared

-- the same, and an initialiser behind it
pub object_parts : {A B X Y : Type 0} (vx : A → X) (vi : B → Y) (O : Judging Ty) (F : Context → Judged Ty → Judged X) (W : Context → Ty → Context) (I : Judged Ty → Judging Y)
    (c : Context) (m n o : CodeContext) (t : Result CType CompileFault) (f : Result A CompileFault) (s : CType) (i : Result B CompileFault)
    → Tells type_view t m (O c)
    → ((j : Judged Ty) → Gives type_view t j → Gives vx f (F (context_view m) j))
    → ((j : Judged Ty) → Gives type_view t j → type_view s ≡ or_int j)
    → context_view n ≡ W (context_view m) (type_view s)
    → ((j : Judged Ty) → Gives type_view t j → Tells vi i o (I j (context_view n)))
    → Tells (λ (p : (A × CType) × B). ((vx p.0.0, type_view p.0.1), vi p.1)) (joined (joined f t) i) o (declared_parts O F W I c)
object_parts vx vi O F W I c m n o t f s i h g w l k =
    both_tell (λ (p : _ × CType). (vx p.0, type_view p.1)) vi (λ d. (both (F (O d).1 (O d).0) (O d).0, W (O d).1 (or_int (O d).0))) (I (O c).0) c n o (joined f t) i
    (object_fine vx O F W c m n t f s h g w l) (k (O c).0 h.gives)

-- a rule on parts whose judgement is known, where they are not typed
pub err_finish : {A B C D : Type 0} (va : A → C) (vr : B → D) (rule : C → Judged D) (p : Judged C × Context) (n : CodeContext) (a q : Result A CompileFault) (e : CompileFault) (r : Result B CompileFault)
    → Tells va a n p → q ≡ a → q ≡ Err e → IsErrAnd r (λ d. d ≡ e) → Tells vr r n (p.0 >>= rule, p.1)
err_finish va vr rule p n a q e r h is err back =
    let b = err_from_is_err_and r back in
    subst (λ u. Tells vr u n (p.0 >>= rule, p.1)) (sym (b.1 ∙ ap Err b.2)) (err_finishes va vr rule p n a e h (sym is ∙ err))

-- ---- more parts, one behind another

pub three_told : {A B C D E F : Type 0} (va : A → D) (vb : B → E) (vc : C → F) (J : Judging D) (K : Judging E) (L : Judging F) (d : Context) (n o p : CodeContext)
    (a : Result A CompileFault) (b : Result B CompileFault) (x : Result C CompileFault)
    → Tells va a n (J d) → Tells vb b o (K (context_view n)) → Tells vc x p (L (context_view o))
    → Tells (λ (z : A × (B × C)). (va z.0, (vb z.1.0, vc z.1.1))) (joined a (joined b x)) p (in_turn J (in_turn K L) d)
three_told va vb vc J K L d n o p a b x h k l =
    both_tell va (λ (z : _ × _). (vb z.0, vc z.1)) J (in_turn K L) d n p a (joined b x) h (both_tell vb vc K L (context_view n) o p b x k l)

pub four_told : {A B C D E F G H : Type 0} (va : A → E) (vb : B → F) (vc : C → G) (vd : D → H) (J : Judging E) (K : Judging F) (L : Judging G) (M : Judging H) (d : Context) (n o p q : CodeContext)
    (a : Result A CompileFault) (b : Result B CompileFault) (x : Result C CompileFault) (y : Result D CompileFault)
    → Tells va a n (J d) → Tells vb b o (K (context_view n)) → Tells vc x p (L (context_view o)) → Tells vd y q (M (context_view p))
    → Tells (λ (z : A × (B × (C × D))). (va z.0, (vb z.1.0, (vc z.1.1.0, vd z.1.1.1)))) (joined a (joined b (joined x y))) q (in_turn J (in_turn K (in_turn L M)) d)
four_told va vb vc vd J K L M d n o p q a b x y h k l m =
    both_tell va (λ (z : _ × (_ × _)). (vb z.0, (vc z.1.0, vd z.1.1))) J (in_turn K (in_turn L M)) d n q a (joined b (joined x y)) h (three_told vb vc vd K L M (context_view n) o p q b x y k l m)
