-- The entries of a switch: one more behind the others.
use Rattle.std.proofs.Common.{◌≡◌, ℕ, ◌+◌, ◌<◌, ◌≤◌, false, List, [], ◌∷◌, ◌++◌, map, take, length, get_or, Result, Ok, Err, Some, refl, ap, sym, subst, ◌∙◌, append_assoc}
use Rattle.std.proofs.lemmas.List.{map_more, take_all}
use Rattle.ak_words.specs.declared.int_type.IntType.{IntType}
use Rattle.c_lex.specs.declared.refusal.Refusal.{Refusal}
use Rattle.c_lex.specs.declared.refusal.CompileFault.{CompileFault}
use Rattle.c_lex.specs.declared.refusal.CompileFault.TheVariants.{Refused, NoMemory}
use Rattle.c_tree.specs.Syntax as source
use Rattle.c_tree.specs.SyntaxViews.{stmt_view}
use Rattle.c_tree.specs.declared.syntax.Stmt.{Stmt as CodeStmt}
use Rattle.c_tree.specs.Typed.{Ty}
use Rattle.c_tree.specs.TypedForm.{Jumps}
use Rattle.c_typing.specs.Faults.{Judged, typed, faulty, Fails, Gives, first, both, ◌>>=◌}
use Rattle.c_typing.specs.Scope.{Context}
use Rattle.c_typing.specs.Judgement.{Judging, in_turn, ruled}
use Rattle.c_typing.specs.Statements.{Entries, no_entries, entries_or, entry_of, judged_stmt, judged_entries}
use Rattle.type_context.specs.declared.context.Context.{Context as CodeContext}
use Rattle.type_context.specs.ContextViews.{context_view}
use Rattle.type_context.specs.inner.Outcomes.{joined, joined_fault}
use Rattle.type_context.specs.Telling.{Tells, lacks_memory}
use Rattle.type_context.proofs.Walks.{memory_tells, both_tell_if, joined_keeps, err_tells}
use Rattle.c_types.specs.declared.switches.Entries.{Entries as CodeEntries}
use Rattle.c_types.specs.inner.Switches.{entries_view, IsFaultMore}
use Rattle.c_types.proofs.StatementNodes.{left_known}

-- ---- entries in a row

-- an entry behind these
abbrev pub entry : Ty → Jumps → IntType → source.Stmt → Entries → Judging Entries
entry r l t s es = entry_of t es s (judged_stmt r l s)

-- what stands before the entry behind these
abbrev pub before : Ty → Jumps → IntType → Entries → List source.Stmt → Context → Entries
before r l t es [] c = es
before r l t es (s ∷ ss) c = before r l t (entries_or (entry r l t s es c).0) ss (entry r l t s es c).1

-- the last of two parts, where both are fine
abbrev pub last_of : Judged Entries → Judged Entries → Judged Entries
last_of i j = both i j >>= λ p. typed p.1

-- one entry behind others, of which this is known
abbrev pub behind : Judged Entries × Context → Judging Entries → Judged Entries × Context
behind x y = (last_of x.0 (y x.1).0, (y x.1).1)

regroup : (i j k : Judged Entries) → last_of i (last_of j k) ≡ last_of (last_of i j) k
regroup (typed x) (typed y) (typed z) = refl
regroup (typed x) (typed y) (faulty t ts) = refl
regroup (typed x) (faulty s ss) (typed z) = refl
regroup (typed x) (faulty s ss) (faulty t ts) = refl
regroup (faulty r rs) (typed y) (typed z) = refl
regroup (faulty r rs) (typed y) (faulty t ts) = refl
regroup (faulty r rs) (faulty s ss) (typed z) = refl
regroup (faulty r rs) (faulty s ss) (faulty t ts) = ap (faulty r) (sym (append_assoc rs (s ∷ ss) (t ∷ ts)))

alone : (es : Entries) (j : Judged Entries) → last_of j (typed (entries_or j)) ≡ last_of (typed es) j
alone es (typed x) = refl
alone es (faulty r rs) = refl

entries_last : (r : Ty) (l : Jumps) (t : IntType) (es : Entries) (ss : List source.Stmt) (s : source.Stmt) (c : Context)
    → judged_entries r l t es (source.stmts_of (ss ++ s ∷ [])) c ≡ behind (judged_entries r l t es (source.stmts_of ss) c) (entry r l t s (before r l t es ss c))
entries_last r l t es [] s c = ap (λ j. (j, (entry r l t s es c).1)) (alone es (entry r l t s es c).0)
entries_last r l t es (u ∷ ss) s c =
    let x = entry r l t u es c in
    let next = entries_or x.0 in
    let q = judged_entries r l t next (source.stmts_of ss) x.1 in
    let y = entry r l t s (before r l t next ss x.1) q.1 in
    ap (λ (z : Judged Entries × Context). (last_of x.0 z.0, z.1)) (entries_last r l t next ss s x.1)
    ∙ ap (λ j. (j, y.1)) (regroup x.0 q.0 y.0)

before_last : (r : Ty) (l : Jumps) (t : IntType) (es : Entries) (ss : List source.Stmt) (s : source.Stmt) (c : Context)
    → before r l t es (ss ++ s ∷ []) c ≡ entries_or (entry r l t s (before r l t es ss c) (judged_entries r l t es (source.stmts_of ss) c).1).0
before_last r l t es [] s c = refl
before_last r l t es (u ∷ ss) s c = before_last r l t (entries_or (entry r l t u es c).0) ss s (entry r l t u es c).1

-- ---- one more, as it is told

fails_first : (j : Judged Entries) (x : Entries) (e : CompileFault) → Fails e j → Fails e (last_of j (typed x))
fails_first j x NoMemory h = tt
fails_first (typed y) x (Refused r) h = cc
fails_first (faulty s ss) x (Refused r) h = h

-- an entry that is typed
typed_more : (x : Judged Entries × Context) (b : Entries) (one : Entries → Judging Entries) (fine : Result (Unit {0}) CompileFault) (e next : CodeEntries) (n m : CodeContext)
    → Tells (λ (u : Unit {0}). entries_view e) fine n x → (lacks_memory fine ≡ false → entries_view e ≡ b) → Tells entries_view (Ok next) m (one (entries_view e) (context_view n))
    → Tells (λ (u : Unit {0}). entries_view next) fine m (behind x (one b))
typed_more x b one (Ok u) e next n m h so told =
    let here : Tells entries_view (Ok next) m (one b x.1) = subst (λ (d : Context). Tells entries_view (Ok next) m (one b d)) h.leaves (subst (λ (es : Entries). Tells entries_view (Ok next) m (one es (context_view n))) (so refl) told) in
    record {
      gives = ap (λ j. last_of j (one b x.1).0) h.gives ∙ ap (λ j. last_of (typed (entries_view e)) j) here.gives;
      leaves = here.leaves;
    }
typed_more x b one (Err NoMemory) e next n m h so told = memory_tells (λ (u : Unit {0}). entries_view next) m (behind x (one b))
typed_more x b one (Err (Refused r)) e next n m h so told =
    let here : Tells entries_view (Ok next) m (one b x.1) = subst (λ (d : Context). Tells entries_view (Ok next) m (one b d)) h.leaves (subst (λ (es : Entries). Tells entries_view (Ok next) m (one es (context_view n))) (so refl) told) in
    record {
      gives = subst (λ j. Fails (Refused r) (last_of x.0 j)) (sym here.gives) (fails_first x.0 (entries_view next) (Refused r) h.gives);
      leaves = here.leaves;
    }

typed_known : (x : Judged Entries × Context) (b : Entries) (one : Entries → Judging Entries) (fine : Result (Unit {0}) CompileFault) (e next : CodeEntries) (n m : CodeContext)
    → Tells (λ (u : Unit {0}). entries_view e) fine n x → (lacks_memory fine ≡ false → entries_view e ≡ b) → Tells entries_view (Ok next) m (one (entries_view e) (context_view n))
    → lacks_memory fine ≡ false → entries_view next ≡ entries_or (one b x.1).0
typed_known x b one fine e next n m h so told known =
    let here : Tells entries_view (Ok next) m (one b x.1) = subst (λ (d : Context). Tells entries_view (Ok next) m (one b d)) (left_known fine n x.1 h.leaves known) (subst (λ (es : Entries). Tells entries_view (Ok next) m (one es (context_view n))) (so known) told) in
    ap entries_or (sym here.gives)

-- a fault has no value, whatever its type is
same_fault : {A B C : Type 0} (a : Result A CompileFault) (f g : CompileFault) → joined {A = A} {B = B} a (Err f) ≡ Err g → joined {A = A} {B = C} a (Err f) ≡ Err g
unfolding joined
same_fault (Ok x) f g h = let e : f ≡ g = cc in ap Err e
same_fault (Err d) f g h = let e : joined_fault d f ≡ g = cc in ap Err e

-- an entry that is at fault
faulty_told : (x : Judged Entries × Context) (b : Entries) (one : Entries → Judging Entries) (fine : Result (Unit {0}) CompileFault) (e : CodeEntries) (f : CompileFault) (n m : CodeContext)
    → Tells (λ (u : Unit {0}). entries_view e) fine n x → (lacks_memory fine ≡ false → entries_view e ≡ b) → Tells {A = CodeEntries} entries_view (Err f) m (one (entries_view e) (context_view n))
    → Tells {A = Unit {0} × CodeEntries} (λ p. (entries_view e, entries_view p.1)) (joined fine (Err f)) m (in_turn (λ d. x) (one b) (context_view n))
faulty_told x b one fine e f n m h so told =
    both_tell_if (λ (u : Unit {0}). entries_view e) entries_view (λ d. x) (one b) (context_view n) n m fine (Err f) h
    (λ known. subst (λ (es : Entries). Tells entries_view (Err f) m (one es (context_view n))) (so known) told)

faulty_more : (x : Judged Entries × Context) (b : Entries) (one : Entries → Judging Entries) (fine after : Result (Unit {0}) CompileFault) (e none : CodeEntries) (f : CompileFault) (n m : CodeContext)
    → Tells (λ (u : Unit {0}). entries_view e) fine n x → (lacks_memory fine ≡ false → entries_view e ≡ b) → Tells {A = CodeEntries} entries_view (Err f) m (one (entries_view e) (context_view n)) → IsFaultMore fine f after
    → Tells (λ (u : Unit {0}). entries_view none) after m (behind x (one b))
faulty_more x b one fine (Ok u) e none f n m h so told more = absurd more
faulty_more x b one fine (Err g) e none f n m h so told more =
    err_tells (λ (p : Unit {0} × CodeEntries). (entries_view e, entries_view p.1)) (λ (u : Unit {0}). entries_view none) (in_turn (λ d. x) (one b)) (λ d p. typed p.1) (context_view n) m (joined fine (Err f)) g
    (faulty_told x b one fine e f n m h so told) (same_fault {B = Unit {0}} fine f g (sym more))

none_or : (j : Judged Entries) (r : Refusal) → Fails (Refused r) j → no_entries ≡ entries_or j
none_or (typed x) r h = cc
none_or (faulty s ss) r h = refl

fault_known : (x : Judged Entries × Context) (b : Entries) (one : Entries → Judging Entries) (fine : Result (Unit {0}) CompileFault) (e : CodeEntries) (f : CompileFault) (n m : CodeContext)
    → Tells (λ (u : Unit {0}). entries_view e) fine n x → (lacks_memory fine ≡ false → entries_view e ≡ b) → Tells {A = CodeEntries} entries_view (Err f) m (one (entries_view e) (context_view n))
    → lacks_memory fine ≡ false → lacks_memory {A = CodeEntries} (Err f) ≡ false → no_entries ≡ entries_or (one b x.1).0
fault_known x b one fine e NoMemory n m h so told known fault = cc
fault_known x b one fine e (Refused r) n m h so told known fault =
    let here : Tells {A = CodeEntries} entries_view (Err (Refused r)) m (one b x.1) =
    subst (λ (d : Context). Tells {A = CodeEntries} entries_view (Err (Refused r)) m (one b d)) (left_known fine n x.1 h.leaves known) (subst (λ (es : Entries). Tells {A = CodeEntries} entries_view (Err (Refused r)) m (one es (context_view n))) (so known) told) in
    none_or (one b x.1).0 r here.gives

faulty_known : (x : Judged Entries × Context) (b : Entries) (one : Entries → Judging Entries) (fine after : Result (Unit {0}) CompileFault) (e none : CodeEntries) (f : CompileFault) (n m : CodeContext)
    → Tells (λ (u : Unit {0}). entries_view e) fine n x → (lacks_memory fine ≡ false → entries_view e ≡ b) → Tells {A = CodeEntries} entries_view (Err f) m (one (entries_view e) (context_view n)) → IsFaultMore fine f after
    → entries_view none ≡ no_entries → lacks_memory after ≡ false → entries_view none ≡ entries_or (one b x.1).0
faulty_known x b one fine (Ok u) e none f n m h so told more is known = absurd more
faulty_known x b one fine (Err g) e none f n m h so told more is known =
    let parts = joined_keeps {A = Unit {0}} {B = Unit {0}} fine (Err f) (subst (λ (q : Result (Unit {0} × Unit {0}) CompileFault). lacks_memory q ≡ false) more (again (Unit {0}) (Unit {0} × Unit {0}) g known)) in
    is ∙ fault_known x b one fine e f n m h so told parts.0 (again (Unit {0}) CodeEntries f parts.1)
  where
    again : (A B : Type 0) (g : CompileFault) → lacks_memory {A = A} (Err g) ≡ false → lacks_memory {A = B} (Err g) ≡ false
    again A B NoMemory h = h
    again A B (Refused r) h = h

-- ---- the code's loop

-- what is known of the entries before the index
pub record Walked (r : Ty) (l : Jumps) (t : IntType) (ss : List source.Stmt) (c : Context) (fine : Result (Unit {0}) CompileFault) (e : CodeEntries) (n : CodeContext) : Type 0 where
  pub told : Tells (λ (u : Unit {0}). entries_view e) fine n (judged_entries r l t no_entries (source.stmts_of ss) c)
  pub so_far : lacks_memory fine ≡ false → entries_view e ≡ before r l t no_entries ss c

pub walked_none : (r : Ty) (l : Jumps) (t : IntType) (e : CodeEntries) (n : CodeContext) → entries_view e ≡ no_entries → Walked r l t [] (context_view n) (Ok tt) e n
walked_none r l t e n is = record { told = record { gives = ap typed (sym is); leaves = refl }; so_far = λ known. is }

taken : (ys : List CodeStmt) (i : ℕ) (y : CodeStmt) → i < length ys → y ≡ get_or ys i y → map stmt_view (take (i + 1) ys) ≡ map stmt_view (take i ys) ++ stmt_view y ∷ []
taken ys i y h is = map_more stmt_view ys i y h ∙ ap (λ x. map stmt_view (take i ys) ++ stmt_view x ∷ []) (sym is)

walked_last : (r : Ty) (l : Jumps) (t : IntType) (ss : List source.Stmt) (s : source.Stmt) (c : Context) (fine : Result (Unit {0}) CompileFault) (e : CodeEntries) (n : CodeContext)
    → Tells (λ (u : Unit {0}). entries_view e) fine n (behind (judged_entries r l t no_entries (source.stmts_of ss) c) (entry r l t s (before r l t no_entries ss c)))
    → (lacks_memory fine ≡ false → entries_view e ≡ entries_or (entry r l t s (before r l t no_entries ss c) (judged_entries r l t no_entries (source.stmts_of ss) c).1).0)
    → Walked r l t (ss ++ s ∷ []) c fine e n
walked_last r l t ss s c fine e n h k = record {
  told = subst (λ p. Tells (λ (u : Unit {0}). entries_view e) fine n p) (sym (entries_last r l t no_entries ss s c)) h;
  so_far = λ known. k known ∙ sym (before_last r l t no_entries ss s c);
}

pub walked_typed : (r : Ty) (l : Jumps) (t : IntType) (ys : List CodeStmt) (i : ℕ) (y : CodeStmt) (c : Context) (fine : Result (Unit {0}) CompileFault) (e next : CodeEntries) (n m : CodeContext) (a : Result CodeEntries CompileFault)
    → i < length ys → y ≡ get_or ys i y → Walked r l t (map stmt_view (take i ys)) c fine e n
    → Tells entries_view a m (entry r l t (stmt_view y) (entries_view e) (context_view n)) → a ≡ Ok next
    → Walked r l t (map stmt_view (take (i + 1) ys)) c fine next m
walked_typed r l t ys i y c fine e next n m a h is w told ok =
    let ss = map stmt_view (take i ys) in
    let x = judged_entries r l t no_entries (source.stmts_of ss) c in
    let b = before r l t no_entries ss c in
    let one = entry r l t (stmt_view y) in
    let here = subst (λ q. Tells entries_view q m (one (entries_view e) (context_view n))) ok told in
    subst (λ xs. Walked r l t xs c fine next m) (sym (taken ys i y h is))
    (walked_last r l t ss (stmt_view y) c fine next m (typed_more x b one fine e next n m w.told w.so_far here) (typed_known x b one fine e next n m w.told w.so_far here))

pub walked_faulty : (r : Ty) (l : Jumps) (t : IntType) (ys : List CodeStmt) (i : ℕ) (y : CodeStmt) (c : Context) (fine after : Result (Unit {0}) CompileFault) (e none : CodeEntries) (f : CompileFault) (n m : CodeContext) (a : Result CodeEntries CompileFault)
    → i < length ys → y ≡ get_or ys i y → Walked r l t (map stmt_view (take i ys)) c fine e n
    → Tells entries_view a m (entry r l t (stmt_view y) (entries_view e) (context_view n)) → a ≡ Err f → IsFaultMore fine f after → entries_view none ≡ no_entries
    → Walked r l t (map stmt_view (take (i + 1) ys)) c after none m
walked_faulty r l t ys i y c fine after e none f n m a h is w told err more empty =
    let ss = map stmt_view (take i ys) in
    let x = judged_entries r l t no_entries (source.stmts_of ss) c in
    let b = before r l t no_entries ss c in
    let one = entry r l t (stmt_view y) in
    let here = subst (λ q. Tells entries_view q m (one (entries_view e) (context_view n))) err told in
    subst (λ xs. Walked r l t xs c after none m) (sym (taken ys i y h is))
    (walked_last r l t ss (stmt_view y) c after none m (faulty_more x b one fine after e none f n m w.told w.so_far here more) (faulty_known x b one fine after e none f n m w.told w.so_far here more empty))

-- the same by other names
pub walked_as : (r : Ty) (l : Jumps) (t : IntType) (ss : List source.Stmt) (c : Context) (fine after : Result (Unit {0}) CompileFault) (e next : CodeEntries) (n : CodeContext)
    → after ≡ fine → next ≡ e → Walked r l t ss c fine e n → Walked r l t ss c after next n
walked_as r l t ss c fine after e next n same is w =
    subst (λ (f : Result (Unit {0}) CompileFault). Walked r l t ss c f next n) (sym same) (subst (λ (x : CodeEntries). Walked r l t ss c fine x n) (sym is) w)

-- all were taken
pub walked_all : (r : Ty) (l : Jumps) (t : IntType) (ys : List CodeStmt) (i : ℕ) (c : Context) (fine : Result (Unit {0}) CompileFault) (e : CodeEntries) (n : CodeContext)
    → length ys ≤ i → Walked r l t (map stmt_view (take i ys)) c fine e n → Tells (λ (u : Unit {0}). entries_view e) fine n (judged_entries r l t no_entries (source.stmts_of (map stmt_view ys)) c)
walked_all r l t ys i c fine e n h w = subst (λ xs. Tells (λ (u : Unit {0}). entries_view e) fine n (judged_entries r l t no_entries (source.stmts_of (map stmt_view xs)) c)) (take_all i ys h) w.told
