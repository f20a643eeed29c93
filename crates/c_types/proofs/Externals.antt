-- Files: external declarations one behind another, and main at the end.
use Rattle.std.proofs.Common.{◌≡◌, ℕ, ◌+◌, ◌<◌, List, [], ◌∷◌, ◌++◌, map, take, length, get_or, Result, Ok, Err, refl, ap, sym, subst, ◌∙◌, append_assoc, append-nil}
use Rattle.std.proofs.lemmas.List.{map_more, map-append}
use Rattle.std.specs.Result.{IsErrAnd}
use Rattle.std.proofs.lemmas.Result.{err_from_is_err_and}
use Rattle.c_lex.specs.declared.refusal.CompileFault.{CompileFault}
use Rattle.c_lex.specs.declared.refusal.CompileFault.TheVariants.{Refused, NoMemory}
use Rattle.c_tree.specs.declared.syntax.External.{External as CodeExternal}
use Rattle.c_tree.specs.declared.typed.Typed.{Typed as CodeTyped}
use Rattle.c_tree.specs.Syntax as source
use Rattle.c_tree.specs.SyntaxViews.{external_view}
use Rattle.c_tree.specs.Typed.{GlobalVar, Func}
use Rattle.c_tree.specs.TypedViews.{global_view, func_view, typed_view}
use Rattle.c_typing.specs.Faults.{Judged, typed, faulty, Gives, both, ◌>>=◌}
use Rattle.c_typing.specs.Scope.{Context}
use Rattle.c_typing.specs.Judgement.{Judging, in_turn, ruled}
use Rattle.c_typing.specs.Programs.{Made, joined, judged_external, judged_externals, has_main, program_of}
use Rattle.type_context.specs.declared.context.Context.{Context as CodeContext}
use Rattle.type_context.specs.ContextViews.{context_view}
use Rattle.type_context.specs.inner.Outcomes as outcomes
use Rattle.type_context.proofs.Judging.{both_fails, both_then}
use Rattle.type_context.specs.Telling.{Tells}
use Rattle.type_context.proofs.Walks.{memory_tells, both_tell, ok_tells, err_tells}
use Rattle.c_types.specs.declared.files.Made.{Made as CodeMade}
use Rattle.c_types.specs.inner.Files.{made_view, IsMade}

-- ---- one declaration more

-- globals and functions together
abbrev pub file_made : List GlobalVar → List Func → Made
file_made g f = record { globals = g; funcs = f }

joined_behind : (x y z : Made) → joined x (joined y z) ≡ joined (joined x y) z
joined_behind x y z =
    ap (λ g. file_made g (x.funcs ++ (y.funcs ++ z.funcs))) (sym (append_assoc x.globals y.globals z.globals))
    ∙ ap (λ f. file_made ((x.globals ++ y.globals) ++ z.globals) f) (sym (append_assoc x.funcs y.funcs z.funcs))

none_behind : (x : Made) → joined x (file_made [] []) ≡ x
none_behind x = ap (λ g. file_made g (x.funcs ++ [])) (append-nil x.globals) ∙ ap (λ f. file_made x.globals f) (append-nil x.funcs)

regroup : (i j k : Judged Made)
    → (both i (both j k >>= λ p. typed (joined p.0 p.1)) >>= λ p. typed (joined p.0 p.1)) ≡ (both (both i j >>= λ p. typed (joined p.0 p.1)) k >>= λ p. typed (joined p.0 p.1))
regroup (typed x) (typed y) (typed z) = ap typed (joined_behind x y z)
regroup (typed x) (typed y) (faulty t ts) = refl
regroup (typed x) (faulty s ss) (typed z) = refl
regroup (typed x) (faulty s ss) (faulty t ts) = refl
regroup (faulty r rs) (typed y) (typed z) = refl
regroup (faulty r rs) (typed y) (faulty t ts) = refl
regroup (faulty r rs) (faulty s ss) (typed z) = refl
regroup (faulty r rs) (faulty s ss) (faulty t ts) = ap (faulty r) (sym (append_assoc rs (s ∷ ss) (t ∷ ts)))

alone : (j : Judged Made)
    → (both j (typed (file_made [] [])) >>= λ p. typed (joined p.0 p.1)) ≡ (both (typed (file_made [] [])) j >>= λ p. typed (joined p.0 p.1))
alone (typed x) = ap typed (none_behind x)
alone (faulty r rs) = refl

externals_last : (names : List (List ℕ)) (xs : List source.External) (x : source.External) (c : Context)
    → judged_externals names (xs ++ x ∷ []) c ≡ ruled (in_turn (judged_externals names xs) (judged_external names x)) (λ d p. typed (joined p.0 p.1)) c
externals_last names [] x c = ap (λ j. (j, (judged_external names x c).1)) (alone (judged_external names x c).0)
externals_last names (y ∷ ys) x c =
    let d = (judged_external names y c).1 in
    ap (λ (q : Judged Made × Context). (both (judged_external names y c).0 q.0 >>= λ p. typed (joined p.0 p.1), q.1)) (externals_last names ys x d)
    ∙ ap (λ j. (j, (judged_external names x (judged_externals names ys d).1).1)) (regroup (judged_external names y c).0 (judged_externals names ys d).0 (judged_external names x (judged_externals names ys d).1).0)

made_tells : (q : Result (CodeMade × CodeMade) CompileFault) (r : Result CodeMade CompileFault) (J : Judging (Made × Made)) (c : Context) (m : CodeContext)
    → Tells (λ (p : CodeMade × CodeMade). (made_view p.0, made_view p.1)) q m (J c) → IsMade q r → Tells made_view r m (ruled J (λ d p. typed (joined p.0 p.1)) c)
made_tells q (Err NoMemory) J c m h is = memory_tells made_view m (ruled J (λ d p. typed (joined p.0 p.1)) c)
made_tells (Ok p) (Ok y) J c m h is =
    ok_tells (λ (p : CodeMade × CodeMade). (made_view p.0, made_view p.1)) made_view J (λ d p. typed (joined p.0 p.1)) c m (Ok p) p (Ok y) h refl (ap typed (sym is))
made_tells (Ok p) (Err (Refused s)) J c m h is = absurd is
made_tells (Err e) (Ok y) J c m h is = absurd is
made_tells (Err e) (Err (Refused s)) J c m h is =
    err_tells (λ (p : CodeMade × CodeMade). (made_view p.0, made_view p.1)) made_view J (λ d p. typed (joined p.0 p.1)) c m (Err e) (Refused s) h (ap Err is)

-- what is refused is refused when it is joined
made_same : (e : CompileFault) → IsMade (Err e) (Err e)
made_same NoMemory = tt
made_same (Refused s) = refl

pub made_fault : (q : Result (CodeMade × CodeMade) CompileFault) (e : CompileFault) (r : Result CodeMade CompileFault) → q ≡ Err e → IsErrAnd r (λ f. f ≡ e) → IsMade q r
made_fault q e r h p =
    let b = err_from_is_err_and r p in
    subst (λ s. IsMade q s) (sym (b.1 ∙ ap Err b.2)) (subst (λ x. IsMade x (Err e)) (sym h) (made_same e))

-- two parts in one
pub made_both : (q : Result (CodeMade × CodeMade) CompileFault) (p : CodeMade × CodeMade) (m : CodeMade)
    → q ≡ Ok p → m.globals.items ≡ p.0.globals.items ++ p.1.globals.items → m.funcs.items ≡ p.0.funcs.items ++ p.1.funcs.items → IsMade q (Ok m)
made_both q p m h g f =
    subst (λ x. IsMade x (Ok m)) (sym h)
    (ap (λ l. file_made l (map func_view m.funcs.items)) (ap (map global_view) g ∙ map-append global_view p.0.globals.items p.1.globals.items)
    ∙ ap (λ l. file_made (map global_view p.0.globals.items ++ map global_view p.1.globals.items) l) (ap (map func_view) f ∙ map-append func_view p.0.funcs.items p.1.funcs.items))

-- one declaration more, joined to those before it
pub external_more : (names : List (List ℕ)) (ys : List CodeExternal) (i : ℕ) (y : CodeExternal) (c : Context) (n m : CodeContext) (all next r : Result CodeMade CompileFault)
    → i < length ys → y ≡ get_or ys i y → Tells made_view all n (judged_externals names (map external_view (take i ys)) c) → Tells made_view next m (judged_external names (external_view y) (context_view n)) → IsMade (outcomes.joined all next) r
    → Tells made_view r m (judged_externals names (map external_view (take (i + 1) ys)) c)
external_more names ys i y c n m all next r h is before here made =
    let xs = map external_view (take i ys) in
    let taken : map external_view (take (i + 1) ys) ≡ xs ++ external_view y ∷ [] = map_more external_view ys i y h ∙ ap (λ x. xs ++ external_view x ∷ []) (sym is) in
    subst (λ l. Tells made_view r m (judged_externals names l c)) (sym taken)
    (subst (Tells made_view r m) (sym (externals_last names xs (external_view y) c))
    (made_tells (outcomes.joined all next) r (in_turn (judged_externals names xs) (judged_external names (external_view y))) c m
    (both_tell made_view made_view (judged_externals names xs) (judged_external names (external_view y)) c n m all next before here) made))

-- ---- the file

-- where memory runs out nothing is said
pub memory_gives : {A B : Type 0} (view : A → B) (r : Result A CompileFault) (e : CompileFault) (j : Judged B) → e ≡ NoMemory → IsErrAnd r (λ d. d ≡ e) → Gives view r j
memory_gives view r e j is h =
    let q = err_from_is_err_and r h in
    subst (λ s. Gives view s j) (sym (q.1 ∙ ap Err (q.2 ∙ is))) tt

-- what a file makes, with the number of main
abbrev pub file_parts : List (List ℕ) → List source.External → Context → Judged (Made × ℕ)
file_parts names xs c = let x = judged_externals names xs c in both x.0 (has_main x.1 names)

pub file_ok : (names : List (List ℕ)) (xs : List source.External) (c : Context) (m : CodeContext) (a : Result CodeMade CompileFault) (b : Result ℕ CompileFault) (p : CodeMade × ℕ) (r : Result CodeTyped CompileFault)
    → Tells made_view a m (judged_externals names xs c) → Gives (λ (n : ℕ). n) b (has_main (context_view m) names) → outcomes.joined a b ≡ Ok p
    → Gives typed_view r (typed (program_of (context_view m) (made_view p.0) p.1))
    → Gives typed_view r (file_parts names xs c >>= λ x. typed (program_of (judged_externals names xs c).1 x.0 x.1))
unfolding outcomes.joined
file_ok names xs c m (Ok x) b p r h g is made =
    let d = (judged_externals names xs c).1 in
    both_then made_view (λ (n : ℕ). n) typed_view (Ok x) b (judged_externals names xs c).0 (has_main d names) (λ z. typed (program_of d z.0 z.1)) p r
    h.gives (subst (λ e. Gives (λ (n : ℕ). n) b (has_main e names)) h.leaves g) is (subst (λ e. Gives typed_view r (typed (program_of e (made_view p.0) p.1))) h.leaves made)
file_ok names xs c m (Err (Refused s)) b p r h g is made =
    let d = (judged_externals names xs c).1 in
    both_then made_view (λ (n : ℕ). n) typed_view (Err (Refused s)) b (judged_externals names xs c).0 (has_main d names) (λ z. typed (program_of d z.0 z.1)) p r
    h.gives (subst (λ e. Gives (λ (n : ℕ). n) b (has_main e names)) h.leaves g) is (subst (λ e. Gives typed_view r (typed (program_of e (made_view p.0) p.1))) h.leaves made)
file_ok names xs c m (Err NoMemory) (Ok y) p r h g is made = cc
file_ok names xs c m (Err NoMemory) (Err e) p r h g is made = cc

pub file_err : (names : List (List ℕ)) (xs : List source.External) (c : Context) (m : CodeContext) (a : Result CodeMade CompileFault) (b : Result ℕ CompileFault) (e : CompileFault) (r : Result CodeTyped CompileFault)
    → Tells made_view a m (judged_externals names xs c) → Gives (λ (n : ℕ). n) b (has_main (context_view m) names) → outcomes.joined a b ≡ Err e → IsErrAnd r (λ d. d ≡ e)
    → Gives typed_view r (file_parts names xs c >>= λ x. typed (program_of (judged_externals names xs c).1 x.0 x.1))
unfolding outcomes.joined
file_err names xs c m (Ok x) b e r h g is back =
    let d = (judged_externals names xs c).1 in
    let q = err_from_is_err_and r back in
    subst (λ s. Gives typed_view s (file_parts names xs c >>= λ x. typed (program_of d x.0 x.1))) (sym (q.1 ∙ ap Err q.2))
    (both_fails made_view (λ (n : ℕ). n) (Ok x) b (judged_externals names xs c).0 (has_main d names) (λ z. typed (program_of d z.0 z.1)) e h.gives (subst (λ k. Gives (λ (n : ℕ). n) b (has_main k names)) h.leaves g) is)
file_err names xs c m (Err (Refused s)) b e r h g is back =
    let d = (judged_externals names xs c).1 in
    let q = err_from_is_err_and r back in
    subst (λ s. Gives typed_view s (file_parts names xs c >>= λ x. typed (program_of d x.0 x.1))) (sym (q.1 ∙ ap Err q.2))
    (both_fails made_view (λ (n : ℕ). n) (Err (Refused s)) b (judged_externals names xs c).0 (has_main d names) (λ z. typed (program_of d z.0 z.1)) e h.gives (subst (λ k. Gives (λ (n : ℕ). n) b (has_main k names)) h.leaves g) is)
file_err names xs c m (Err NoMemory) (Ok y) e r h g is back = memory_gives typed_view r e _ (cc) back
file_err names xs c m (Err NoMemory) (Err d) e r h g is back = memory_gives typed_view r e _ (cc) back
