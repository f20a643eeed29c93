-- Rows of declarations and statements: one more behind the others.
use Rattle.std.proofs.Common.{◌≡◌, ℕ, ◌+◌, ◌<◌, ◌≤◌, List, [], ◌∷◌, ◌++◌, map, take, length, get_or, Result, refl, ap, sym, subst, ◌∙◌, append_assoc, append-nil}
use Rattle.std.proofs.lemmas.List.{map_more, take_all}
use Rattle.std.specs.Prelude.{Vec}
use Rattle.std.specs.declared.alloc.Global.{Global}
use Rattle.c_lex.specs.declared.refusal.CompileFault.{CompileFault}
use Rattle.c_tree.specs.Syntax as source
use Rattle.c_tree.specs.Typed.{Ty, Stmt}
use Rattle.c_tree.specs.TypedForm.{Jumps}
use Rattle.c_typing.specs.Faults.{Judged, typed, both, ◌>>=◌}
use Rattle.c_typing.specs.Scope.{Context}
use Rattle.c_typing.specs.Judgement.{Judging, in_turn, ruled}
use Rattle.c_typing.specs.Statements.{judged_local, judged_locals, judged_stmt, judged_stmts}
use Rattle.type_context.specs.declared.context.Context.{Context as CodeContext}
use Rattle.type_context.specs.ContextViews.{context_view}
use Rattle.type_context.specs.inner.Outcomes.{joined}
use Rattle.type_context.specs.Telling.{Tells}
use Rattle.type_context.specs.Rows.{row, IsPushed, IsAppended}
use Rattle.type_context.proofs.Walks.{both_tell}
use Rattle.type_context.proofs.Rows.{row_last, pushed_tells, appended_tells}
use Rattle.type_declared.specs.Gathering.{each}

-- ---- a row whose nodes are judged alike

-- one node more in a row is judged behind the others
abbrev pub IsRow : {X B : Type 0} → (X → Judging B) → (List X → Judging (List B)) → Type 0
IsRow node F = (xs : List _) (x : _) (c : Context) → F (xs ++ x ∷ []) c ≡ ruled (in_turn (F xs) (node x)) (λ d p. typed (p.0 ++ p.1 ∷ [])) c

abbrev alike : {X B : Type 0} → (X → Judging B) → List X → Judging (List B)
alike node xs = row (λ (u : Unit {0}) x. node x) (λ u x. u) (λ x ys. x ∷ ys) tt xs

is_alike : {X B : Type 0} (node : X → Judging B) (F : List X → Judging (List B)) → ((c : Context) → F [] c ≡ (typed [], c))
    → ((x : X) (xs : List X) (c : Context) → F (x ∷ xs) c ≡ ruled (in_turn (node x) (F xs)) (λ d p. typed (p.0 ∷ p.1)) c) → (xs : List X) (c : Context) → F xs c ≡ alike node xs c
is_alike node F nil cons [] c = nil c
is_alike node F nil cons (x ∷ xs) c = cons x xs c ∙ ap (λ q. (both (node x c).0 q.0 >>= (λ p. typed (p.0 ∷ p.1)), q.1)) (is_alike node F nil cons xs (node x c).1)

pub is_row : {X B : Type 0} (node : X → Judging B) (F : List X → Judging (List B)) → ((c : Context) → F [] c ≡ (typed [], c))
    → ((x : X) (xs : List X) (c : Context) → F (x ∷ xs) c ≡ ruled (in_turn (node x) (F xs)) (λ d p. typed (p.0 ∷ p.1)) c) → IsRow node F
is_row node F nil cons xs x c =
    is_alike node F nil cons (xs ++ x ∷ []) c
    ∙ row_last (λ (u : Unit {0}) x. node x) (λ u x. u) (λ x ys. x ∷ ys) (λ ys x. ys ++ x ∷ []) (λ x. refl) (λ x ys z. refl) tt xs x c
    ∙ ap (λ q. (both q.0 (node x q.1).0 >>= (λ p. typed (p.0 ++ p.1 ∷ [])), (node x q.1).1)) (sym (is_alike node F nil cons xs c))

pub locals_row : (base : Judged Ty) → IsRow (judged_local base) (judged_locals base)
locals_row base = is_row (judged_local base) (judged_locals base) (λ c. refl) (λ x xs c. refl)

-- one more that is pushed, in a loop over the code's list
pub one_more : {A B X Y : Type 0} (view : A → B) (seen : Y → X) (node : X → Judging B) (F : List X → Judging (List B)) → IsRow node F
    → (ys : List Y) (i : ℕ) (y : Y) (c : Context) (n m : CodeContext) (all : Result (Vec A Global) CompileFault) (next : Result A CompileFault) (r : Result (Vec A Global) CompileFault)
    → i < length ys → y ≡ get_or ys i y → Tells (each view) all n (F (map seen (take i ys)) c) → Tells view next m (node (seen y) (context_view n)) → IsPushed (joined all next) r
    → Tells (each view) r m (F (map seen (take (i + 1) ys)) c)
one_more view seen node F snoc ys i y c n m all next r h is before here push =
    let taken : map seen (take (i + 1) ys) ≡ map seen (take i ys) ++ seen y ∷ [] = map_more seen ys i y h ∙ ap (λ x. map seen (take i ys) ++ seen x ∷ []) (sym is) in
    subst (λ xs. Tells (each view) r m (F xs c)) (sym taken)
    (subst (Tells (each view) r m) (sym (snoc (map seen (take i ys)) (seen y) c))
    (pushed_tells view (joined all next) r (in_turn (F (map seen (take i ys))) (node (seen y))) c m
    (both_tell (each view) view (F (map seen (take i ys))) (node (seen y)) c n m all next before here) push))

-- all were taken
pub at_end : {A B X Y : Type 0} (view : A → B) (seen : Y → X) (F : List X → Judging (List B)) (ys : List Y) (i : ℕ) (c : Context) (n : CodeContext) (all : Result (Vec A Global) CompileFault)
    → length ys ≤ i → Tells (each view) all n (F (map seen (take i ys)) c) → Tells (each view) all n (F (map seen ys) c)
at_end view seen F ys i c n all h before = subst (λ xs. Tells (each view) all n (F (map seen xs) c)) (take_all i ys h) before

-- ---- statements, of which each gives several

abbrev appending : Ty → Jumps → List source.Stmt → Judging (List Stmt)
appending t l ss = row (λ (u : Unit {0}) s. judged_stmt t l s) (λ u s. u) (λ x ys. x ++ ys) tt ss

stmts_alike : (t : Ty) (l : Jumps) (ss : List source.Stmt) (c : Context) → judged_stmts t l (source.stmts_of ss) c ≡ appending t l ss c
stmts_alike t l [] c = refl
stmts_alike t l (s ∷ ss) c = ap (λ q. (both (judged_stmt t l s c).0 q.0 >>= (λ p. typed (p.0 ++ p.1)), q.1)) (stmts_alike t l ss (judged_stmt t l s c).1)

stmts_row : (t : Ty) (l : Jumps) (ss : List source.Stmt) (s : source.Stmt) (c : Context)
    → judged_stmts t l (source.stmts_of (ss ++ s ∷ [])) c ≡ ruled (in_turn (judged_stmts t l (source.stmts_of ss)) (judged_stmt t l s)) (λ d p. typed (p.0 ++ p.1)) c
stmts_row t l ss s c =
    stmts_alike t l (ss ++ s ∷ []) c
    ∙ row_last (λ (u : Unit {0}) s. judged_stmt t l s) (λ u s. u) (λ x ys. x ++ ys) (λ ys x. ys ++ x) (λ x. append-nil x) (λ x ys z. sym (append_assoc x ys z)) tt ss s c
    ∙ ap (λ q. (both q.0 (judged_stmt t l s q.1).0 >>= (λ p. typed (p.0 ++ p.1)), (judged_stmt t l s q.1).1)) (sym (stmts_alike t l ss c))

pub several_more : {A Y : Type 0} (view : A → Stmt) (seen : Y → source.Stmt) (t : Ty) (l : Jumps)
    → (ys : List Y) (i : ℕ) (y : Y) (c : Context) (n m : CodeContext) (all next r : Result (Vec A Global) CompileFault)
    → i < length ys → y ≡ get_or ys i y → Tells (each view) all n (judged_stmts t l (source.stmts_of (map seen (take i ys))) c) → Tells (each view) next m (judged_stmt t l (seen y) (context_view n)) → IsAppended (joined all next) r
    → Tells (each view) r m (judged_stmts t l (source.stmts_of (map seen (take (i + 1) ys))) c)
several_more view seen t l ys i y c n m all next r h is before here push =
    let taken : map seen (take (i + 1) ys) ≡ map seen (take i ys) ++ seen y ∷ [] = map_more seen ys i y h ∙ ap (λ x. map seen (take i ys) ++ seen x ∷ []) (sym is) in
    subst (λ xs. Tells (each view) r m (judged_stmts t l (source.stmts_of xs) c)) (sym taken)
    (subst (Tells (each view) r m) (sym (stmts_row t l (map seen (take i ys)) (seen y) c))
    (appended_tells view (joined all next) r (in_turn (judged_stmts t l (source.stmts_of (map seen (take i ys)))) (judged_stmt t l (seen y))) c m
    (both_tell (each view) (each view) (judged_stmts t l (source.stmts_of (map seen (take i ys)))) (judged_stmt t l (seen y)) c n m all next before here) push))
