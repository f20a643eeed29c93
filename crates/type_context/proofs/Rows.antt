-- Nodes in a row, judged in the order of the text.
use Rattle.std.proofs.Common.{◌≡◌, ℕ, ◌+◌, ◌<◌, ◌≤◌, length, get_or, take, List, [], ◌∷◌, ◌++◌, map, Result, Ok, Err, refl, ap, sym, subst, ◌∙◌, append_assoc, false}
use Rattle.std.proofs.lemmas.List.{map-append, take_more, take_all}
use Rattle.std.specs.Prelude.{Vec}
use Rattle.std.specs.declared.alloc.Global.{Global}
use Rattle.c_lex.specs.declared.refusal.CompileFault.{CompileFault}
use Rattle.c_lex.specs.declared.refusal.CompileFault.TheVariants.{Refused, NoMemory}
use Rattle.c_typing.specs.Faults.{Judged, typed, faulty, both, ◌>>=◌}
use Rattle.c_typing.specs.Scope.{Context}
use Rattle.c_typing.specs.Judgement.{Judging, in_turn, ruled}
use Rattle.type_context.specs.declared.context.Context.{Context as CodeContext}
use Rattle.type_context.specs.ContextViews.{context_view}
use Rattle.type_context.specs.inner.Outcomes.{joined}
use Rattle.type_context.specs.Telling.{Tells, lacks_memory}
use Rattle.type_context.specs.Rows.{row, state_behind, IsPushed, IsAppended}
use Rattle.type_context.proofs.Walks.{memory_tells, known_tells, both_tell_if, err_tells, ok_tells}

-- ---- one node more at the end

regroup : {A B C D E : Type 0} (put : A → C → D) (snoc : B → E → C) (put' : A → B → B) (snoc' : B → E → D)
    → ((x : A) (y : B) (z : E) → put x (snoc y z) ≡ snoc' (put' x y) z)
    → (i : Judged A) (j : Judged B) (k : Judged E)
    → (both i (both j k >>= λ p. typed (snoc p.0 p.1)) >>= λ p. typed (put p.0 p.1)) ≡ (both (both i j >>= λ p. typed (put' p.0 p.1)) k >>= λ p. typed (snoc' p.0 p.1))
regroup put snoc put' snoc' law (typed x) (typed y) (typed z) = ap typed (law x y z)
regroup put snoc put' snoc' law (typed x) (typed y) (faulty t ts) = refl
regroup put snoc put' snoc' law (typed x) (faulty s ss) (typed z) = refl
regroup put snoc put' snoc' law (typed x) (faulty s ss) (faulty t ts) = refl
regroup put snoc put' snoc' law (faulty r rs) (typed y) (typed z) = refl
regroup put snoc put' snoc' law (faulty r rs) (typed y) (faulty t ts) = refl
regroup put snoc put' snoc' law (faulty r rs) (faulty s ss) (typed z) = refl
regroup put snoc put' snoc' law (faulty r rs) (faulty s ss) (faulty t ts) = ap (faulty r) (sym (append_assoc rs (s ∷ ss) (t ∷ ts)))

alone : {A B : Type 0} (put : A → List B → List B) (snoc : List B → A → List B) → ((x : A) → put x [] ≡ snoc [] x) → (i : Judged A)
    → (both i (typed []) >>= λ p. typed (put p.0 p.1)) ≡ (both (typed []) i >>= λ p. typed (snoc p.0 p.1))
alone put snoc law (typed x) = ap typed (law x)
alone put snoc law (faulty r rs) = refl

pub row_last : {S X A B : Type 0} (node : S → X → Judging A) (next : S → X → S) (put : A → List B → List B) (snoc : List B → A → List B)
    → ((x : A) → put x [] ≡ snoc [] x) → ((x : A) (ys : List B) (z : A) → put x (snoc ys z) ≡ snoc (put x ys) z)
    → (s : S) (xs : List X) (x : X) (c : Context)
    → row node next put s (xs ++ x ∷ []) c ≡ ruled (in_turn (row node next put s xs) (node (state_behind next s xs) x)) (λ d p. typed (snoc p.0 p.1)) c
row_last node next put snoc law more s [] x c = ap (λ j. (j, (node s x c).1)) (alone put snoc law (node s x c).0)
row_last node next put snoc law more s (y ∷ ys) x c =
    let rest = row_last node next put snoc law more (next s y) ys x (node s y c).1 in
    ap (λ q. (both (node s y c).0 q.0 >>= λ p. typed (put p.0 p.1), q.1)) rest
    ∙ ap (λ j. (j, (node (state_behind next (next s y) ys) x (row node next put (next s y) ys (node s y c).1).1).1))
    (regroup put snoc put snoc more (node s y c).0 (row node next put (next s y) ys (node s y c).1).0 (node (state_behind next (next s y) ys) x (row node next put (next s y) ys (node s y c).1).1).0)

pub state_last : {S X : Type 0} (next : S → X → S) (s : S) (xs : List X) (x : X) → state_behind next s (xs ++ x ∷ []) ≡ next (state_behind next s xs) x
state_last next s [] x = refl
state_last next s (y ∷ ys) x = state_last next (next s y) ys x

-- ---- what is pushed

pub pushed_tells : {A B : Type 0} (view : A → B) (q : Result (Vec A Global × A) CompileFault) (r : Result (Vec A Global) CompileFault) (J : Judging (List B × B)) (c : Context) (m : CodeContext)
    → Tells (λ (p : Vec A Global × A). (map view p.0.items, view p.1)) q m (J c) → IsPushed q r → Tells (λ (v : Vec A Global). map view v.items) r m (ruled J (λ d p. typed (p.0 ++ p.1 ∷ [])) c)
pushed_tells view q (Err NoMemory) J c m h is = memory_tells (λ (v : Vec _ Global). map view v.items) m (ruled J (λ d p. typed (p.0 ++ p.1 ∷ [])) c)
pushed_tells view (Ok p) (Ok ys) J c m h is =
    ok_tells (λ (p : Vec _ Global × _). (map view p.0.items, view p.1)) (λ (v : Vec _ Global). map view v.items) J (λ d p. typed (p.0 ++ p.1 ∷ [])) c m (Ok p) p (Ok ys) h refl
    (ap typed (sym (ap (map view) is ∙ map-append view p.0.items (p.1 ∷ []))))
pushed_tells view (Ok p) (Err (Refused s)) J c m h is = absurd is
pushed_tells view (Err e) (Ok ys) J c m h is = absurd is
pushed_tells view (Err e) (Err (Refused s)) J c m h is =
    let same : e ≡ Refused s = is in
    err_tells (λ (p : Vec _ Global × _). (map view p.0.items, view p.1)) (λ (v : Vec _ Global). map view v.items) J (λ d p. typed (p.0 ++ p.1 ∷ [])) c m (Err e) (Refused s) h (ap Err same)

pub appended_tells : {A B : Type 0} (view : A → B) (q : Result (Vec A Global × Vec A Global) CompileFault) (r : Result (Vec A Global) CompileFault) (J : Judging (List B × List B)) (c : Context) (m : CodeContext)
    → Tells (λ (p : Vec A Global × Vec A Global). (map view p.0.items, map view p.1.items)) q m (J c) → IsAppended q r → Tells (λ (v : Vec A Global). map view v.items) r m (ruled J (λ d p. typed (p.0 ++ p.1)) c)
appended_tells view q (Err NoMemory) J c m h is = memory_tells (λ (v : Vec _ Global). map view v.items) m (ruled J (λ d p. typed (p.0 ++ p.1)) c)
appended_tells view (Ok p) (Ok ys) J c m h is =
    ok_tells (λ (p : Vec _ Global × Vec _ Global). (map view p.0.items, map view p.1.items)) (λ (v : Vec _ Global). map view v.items) J (λ d p. typed (p.0 ++ p.1)) c m (Ok p) p (Ok ys) h refl
    (ap typed (sym (ap (map view) is ∙ map-append view p.0.items p.1.items)))
appended_tells view (Ok p) (Err (Refused s)) J c m h is = absurd is
appended_tells view (Err e) (Ok ys) J c m h is = absurd is
appended_tells view (Err e) (Err (Refused s)) J c m h is =
    let same : e ≡ Refused s = is in
    err_tells (λ (p : Vec _ Global × Vec _ Global). (map view p.0.items, map view p.1.items)) (λ (v : Vec _ Global). map view v.items) J (λ d p. typed (p.0 ++ p.1)) c m (Err e) (Refused s) h (ap Err same)

-- ---- a row, node by node

-- none yet
pub starts : {A B : Type 0} (view : A → B) (v : Vec A Global) (n : CodeContext) → v.items ≡ [] → Tells (λ (w : Vec A Global). map view w.items) (Ok v) n (typed [], context_view n)
starts view v n none = known_tells (λ (w : Vec _ Global). map view w.items) (Ok v) n (typed []) (context_view n) (ap typed (sym (ap (map view) none))) refl

pub one_more : {X Y : Type 0} (v : Y → X) (xs : List Y) (i : ℕ) (y : Y) → i < length xs → y ≡ get_or xs i y → map v (take (i + 1) xs) ≡ map v (take i xs) ++ v y ∷ []
one_more v xs i y lt is = ap (map v) (take_more xs i y lt ∙ ap (λ z. take i xs ++ z ∷ []) (sym is)) ∙ map-append v (take i xs) (y ∷ [])

module _ {S X Y A B : Type 0} (view : A → B) (node : S → X → Judging B) (next : S → X → S) (s : S) (v : Y → X) where
  -- one node more
  pub pushed_next : (xs : List Y) (i : ℕ) (y : Y) (c : Context) (all : Result (Vec A Global) CompileFault) (x : Result A CompileFault) (r : Result (Vec A Global) CompileFault) (n m : CodeContext)
      → Tells (λ (w : Vec A Global). map view w.items) all n (row node next (λ b bs. b ∷ bs) s (map v (take i xs)) c)
      → i < length xs → y ≡ get_or xs i y
      → (lacks_memory all ≡ false → Tells view x m (node (state_behind next s (map v (take i xs))) (v y) (context_view n)))
      → IsPushed (joined all x) r
      → Tells (λ (w : Vec A Global). map view w.items) r m (row node next (λ b bs. b ∷ bs) s (map v (take (i + 1) xs)) c)
  pushed_next xs i y c all x r n m so_far lt is here push =
      let ys = map v (take i xs) in
      let most = row node next (λ (b : B) (bs : List B). b ∷ bs) s ys in
      let last = node (state_behind next s ys) (v y) in
      let both_ = both_tell_if (λ (w : Vec A Global). map view w.items) view most last c n m all x so_far here in
      let told = pushed_tells view (joined all x) r (in_turn most last) c m both_ push in
      subst (λ l. Tells (λ (w : Vec A Global). map view w.items) r m (row node next (λ b bs. b ∷ bs) s l c)) (sym (one_more v xs i y lt is))
      (subst (λ q. Tells (λ (w : Vec A Global). map view w.items) r m q) (sym (row_last node next (λ b bs. b ∷ bs) (λ bs b. bs ++ b ∷ []) (λ b. refl) (λ b bs d. refl) s ys (v y) c)) told)

-- the state behind one node more
pub state_next : {S X Y : Type 0} (next : S → X → S) (s : S) (v : Y → X) (xs : List Y) (i : ℕ) (y : Y) (t : S) → i < length xs → y ≡ get_or xs i y → t ≡ state_behind next s (map v (take i xs))
    → next t (v y) ≡ state_behind next s (map v (take (i + 1) xs))
state_next next s v xs i y t lt is same =
    ap (λ u. next u (v y)) same ∙ sym (state_last next s (map v (take i xs)) (v y)) ∙ ap (state_behind next s) (sym (one_more v xs i y lt is))

-- all of them
pub ends : {S X Y A B R : Type 0} (view : R → List B) (node : S → X → Judging A) (next : S → X → S) (put : A → List B → List B) (s : S) (v : Y → X) (xs : List Y) (i : ℕ) (c : Context) (r : Result R CompileFault) (n : CodeContext)
    → Tells view r n (row node next put s (map v (take i xs)) c) → length xs ≤ i → Tells view r n (row node next put s (map v xs) c)
ends view node next put s v xs i c r n h le = subst (λ l. Tells view r n (row node next put s (map v l) c)) (take_all i xs le) h
