-- Parts one behind the other, as the code's loops meet them: they are judged as the tree says.
use Rattle.std.proofs.Common.{◌≡◌, ℕ, ◌+◌, ◌<◌, length, map, get_or, take, false, List, [], ◌∷◌, ◌++◌, Result, Ok, Err, refl, ap, sym, subst, ◌∙◌, append_assoc, append-nil}
use Rattle.std.specs.Prelude.{Vec}
use Rattle.std.specs.declared.alloc.Global.{Global}
use Rattle.c_lex.specs.declared.refusal.CompileFault.{CompileFault}
use Rattle.c_lex.specs.declared.refusal.CompileFault.TheVariants.{Refused, NoMemory}
use Rattle.c_tree.specs.declared.syntax.Name.{Name}
use Rattle.c_tree.specs.Syntax as source
use Rattle.c_tree.specs.Typed.{Ty, Expr}
use Rattle.c_typing.specs.Faults.{Judged, typed, both, ◌>>=◌}
use Rattle.c_typing.specs.Scope.{Context}
use Rattle.c_typing.specs.Judgement.{Judging, in_turn, judged, valued, judged_all, judged_dims, judged_parts, judged_spec, judged_members, judged_member, judged_declarators, array_size, member_by, Part, names_in, names_of_member}
use Rattle.c_typing.specs.Statements.{name_of}
use Rattle.type_context.specs.declared.context.Context.{Context as CodeContext}
use Rattle.type_context.specs.declared.context.MemberType.{MemberType}
use Rattle.type_context.specs.ContextViews.{context_view, member_type_view}
use Rattle.type_context.specs.inner.Outcomes.{joined}
use Rattle.type_context.specs.Telling.{Tells, lacks_memory}
use Rattle.type_context.specs.Rows.{row, state_behind, IsAppended}
use Rattle.type_context.proofs.Walks.{both_tell_if, joined_keeps}
use Rattle.type_context.proofs.Rows.{row_last, appended_tells, one_more}
use Rattle.type_nodes.specs.Nodes.{types_of_members}

-- arguments
abbrev pub args_row : List source.Expr → Judging (List Expr)
args_row = row (λ (u : Unit {0}) (e : source.Expr). valued (judged e)) (λ u e. u) (λ x xs. x ∷ xs) tt

-- the sizes of an array
abbrev pub dims_row : List source.Expr → Judging (List ℕ)
dims_row = row (λ (u : Unit {0}) (e : source.Expr). array_size e (judged e)) (λ u e. u) (λ n ns. n ∷ ns) tt

-- the specifiers of a declaration
abbrev pub parts_row : List source.Spec → Judging (List Part)
parts_row = row (λ (u : Unit {0}) (s : source.Spec). judged_spec s) (λ u s. u) (λ p ps. p ∷ ps) tt

-- the names of the members behind one more declaration
abbrev pub behind_member : List Name → source.Member → List Name
behind_member before m = before ++ names_of_member m

-- the members of a struct, each declaration knowing the names before it
abbrev pub members_row : List Name → List source.Member → Judging (List (List ℕ × Ty))
members_row = row judged_member behind_member (λ ms all. ms ++ all)

-- a member by its declarator
abbrev pub declarator_node : (base : Judged Ty) → (before : List Name) → source.Declarator → Judging (List ℕ × Ty)
declarator_node base before (source.declarator pointers n dims) = member_by before base pointers n (judged_dims dims)

-- the names of the members behind one more declarator
abbrev pub behind_declarator : List Name → source.Declarator → List Name
behind_declarator before d = before ++ name_of d ∷ []

-- the members that one declaration declares
abbrev pub declarators_row : (base : Judged Ty) → List Name → List source.Declarator → Judging (List (List ℕ × Ty))
declarators_row base = row (declarator_node base) behind_declarator (λ m ms. m ∷ ms)

-- ---- they are the judgement

pub args_are : (es : List source.Expr) (c : Context) → args_row es c ≡ judged_all (source.exprs_of es) c
args_are [] c = refl
args_are (e ∷ es) c =
    let x = valued (judged e) c in
    ap (λ (q : Judged (List Expr) × Context). (both x.0 q.0 >>= λ p. typed (p.0 ∷ p.1), q.1)) (args_are es x.1)

pub dims_are : (es : List source.Expr) (c : Context) → dims_row es c ≡ judged_dims (source.exprs_of es) c
dims_are [] c = refl
dims_are (e ∷ es) c =
    let x = array_size e (judged e) c in
    ap (λ (q : Judged (List ℕ) × Context). (both x.0 q.0 >>= λ p. typed (p.0 ∷ p.1), q.1)) (dims_are es x.1)

pub parts_are : (ss : List source.Spec) (c : Context) → parts_row ss c ≡ judged_parts (source.specs_of ss) c
parts_are [] c = refl
parts_are (s ∷ ss) c =
    let x = judged_spec s c in
    ap (λ (q : Judged (List Part) × Context). (both x.0 q.0 >>= λ p. typed (p.0 ∷ p.1), q.1)) (parts_are ss x.1)

pub members_are : (before : List Name) (ms : List source.Member) (c : Context) → members_row before ms c ≡ judged_members before (source.members_row ms) c
members_are before [] c = refl
members_are before (m ∷ ms) c =
    let x = judged_member before m c in
    ap (λ (q : Judged (List (List ℕ × Ty)) × Context). (both x.0 q.0 >>= λ p. typed (p.0 ++ p.1), q.1)) (members_are (behind_member before m) ms x.1)

pub declarators_are : (base : Judged Ty) (before : List Name) (ds : List source.Declarator) (c : Context) → declarators_row base before ds c ≡ judged_declarators before base (source.declarators_of ds) c
declarators_are base before [] c = refl
declarators_are base before (source.declarator pointers n dims ∷ ds) c =
    let x = declarator_node base before (source.declarator pointers n dims) c in
    ap (λ (q : Judged (List (List ℕ × Ty)) × Context). (both x.0 q.0 >>= λ p. typed (p.0 ∷ p.1), q.1)) (declarators_are base (before ++ n ∷ []) ds x.1)

-- the names behind declarators
pub names_behind : (before : List Name) (ds : List source.Declarator) → state_behind behind_declarator before ds ≡ before ++ names_in (source.declarators_of ds)
names_behind before [] = sym (append-nil before)
names_behind before (source.declarator pointers n dims ∷ ds) = names_behind (before ++ n ∷ []) ds ∙ append_assoc before (n ∷ []) (names_in (source.declarators_of ds))

-- ---- members, one behind the other

-- members that are declared together, behind others
pub members_next : {Y : Type 0} (v : Y → source.Member) (before : List Name) (xs : List Y) (i : ℕ) (y : Y) (c : Context)
    (all x r : Result (Vec MemberType Global) CompileFault) (n m : CodeContext)
    → Tells types_of_members all n (members_row before (map v (take i xs)) c)
    → i < length xs → y ≡ get_or xs i y
    → (lacks_memory all ≡ false → Tells types_of_members x m (judged_member (state_behind behind_member before (map v (take i xs))) (v y) (context_view n)))
    → IsAppended (joined all x) r
    → Tells types_of_members r m (members_row before (map v (take (i + 1) xs)) c)
members_next v before xs i y c all x r n m so_far lt is here append =
    let ys = map v (take i xs) in
    let most = members_row before ys in
    let last = judged_member (state_behind behind_member before ys) (v y) in
    let both_ = both_tell_if types_of_members types_of_members most last c n m all x so_far here in
    let told = appended_tells member_type_view (joined all x) r (in_turn most last) c m both_ append in
    subst (λ l. Tells types_of_members r m (members_row before l c)) (sym (one_more v xs i y lt is))
    (subst (λ q. Tells types_of_members r m q)
    (sym (row_last judged_member behind_member (λ ms all. ms ++ all) (λ all ms. all ++ ms) append-nil (λ x ys z. sym (append_assoc x ys z)) before ys (v y) c)) told)

-- what is appended and lacks no memory is made of what lacks none
pub appended_keeps : {A : Type 0} (a b r : Result (Vec A Global) CompileFault) → IsAppended (joined a b) r → lacks_memory r ≡ false → (lacks_memory a ≡ false) × (lacks_memory b ≡ false)
appended_keeps a b r is h = joined_keeps a b (whole (joined a b) r is h)
  where
    whole : {A : Type 0} (q : Result (Vec A Global × Vec A Global) CompileFault) (r : Result (Vec A Global) CompileFault) → IsAppended q r → lacks_memory r ≡ false → lacks_memory q ≡ false
    whole (Ok p) r is h = refl
    whole (Err (Refused s)) r is h = refl
    whole (Err NoMemory) (Ok ys) is h = absurd is
    whole (Err NoMemory) (Err NoMemory) is h = h
    whole (Err NoMemory) (Err (Refused s)) is h = cc
