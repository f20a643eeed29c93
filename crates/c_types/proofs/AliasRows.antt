-- The names of types that are declared together: one more behind the others.
use Rattle.std.proofs.Common.{◌≡◌, ℕ, ◌+◌, ◌<◌, ◌≤◌, List, [], ◌∷◌, ◌++◌, map, take, length, get_or, Result, refl, ap, sym, subst, ◌∙◌, append_assoc}
use Rattle.std.proofs.lemmas.List.{map_more, take_all}
use Rattle.c_lex.specs.declared.refusal.CompileFault.{CompileFault}
use Rattle.c_tree.specs.declared.syntax.Declarator.{Declarator as CodeDeclarator}
use Rattle.c_tree.specs.declared.syntax.Name.{Name}
use Rattle.c_tree.specs.Syntax as source
use Rattle.c_tree.specs.SyntaxViews.{declarator_view}
use Rattle.c_tree.specs.Typed.{Ty}
use Rattle.c_tree.specs.TypedViews.{type_view}
use Rattle.c_tree.specs.declared.typed.CType.{CType}
use Rattle.c_typing.specs.Faults.{Judged, typed, faulty, Gives, both, ◌>>=◌}
use Rattle.c_typing.specs.Scope.{Context}
use Rattle.c_typing.specs.Judgement.{Judging, lone, in_turn, ruled}
use Rattle.c_typing.specs.Statements.{name_of, judged_declarator}
use Rattle.c_typing.specs.Programs.{alias_declared, judged_alias, judged_aliases}
use Rattle.type_context.specs.declared.context.Context.{Context as CodeContext}
use Rattle.type_context.specs.ContextViews.{context_view}
use Rattle.type_context.specs.inner.Outcomes.{joined}
use Rattle.type_context.specs.Telling.{Tells}
use Rattle.type_context.proofs.Walks.{both_tell}
use Rattle.type_nodes.specs.Nodes.{Finishes}
use Rattle.type_nodes.proofs.Telling.{finishes}
use Rattle.type_declared.specs.AliasFits.{named_type}
use Rattle.c_types.proofs.StatementNodes.{declared_name}

-- both are fine
abbrev fine : Judged (Unit {0}) → Judged (Unit {0}) → Judged (Unit {0})
fine i j = both i j >>= λ p. typed tt

regroup : (i j k : Judged (Unit {0})) → fine i (fine j k) ≡ fine (fine i j) k
regroup (typed x) (typed y) (typed z) = refl
regroup (typed x) (typed y) (faulty t ts) = refl
regroup (typed x) (faulty s ss) (typed z) = refl
regroup (typed x) (faulty s ss) (faulty t ts) = refl
regroup (faulty r rs) (typed y) (typed z) = refl
regroup (faulty r rs) (typed y) (faulty t ts) = refl
regroup (faulty r rs) (faulty s ss) (typed z) = refl
regroup (faulty r rs) (faulty s ss) (faulty t ts) = ap (faulty r) (sym (append_assoc rs (s ∷ ss) (t ∷ ts)))

alone : (j : Judged (Unit {0})) → fine j (typed tt) ≡ fine (typed tt) j
alone (typed x) = refl
alone (faulty r rs) = refl

aliases_last : (base : Judged Ty) (ds : List source.Declarator) (d : source.Declarator) (c : Context)
    → judged_aliases base (ds ++ d ∷ []) c ≡ ruled (in_turn (judged_aliases base ds) (judged_alias base d)) (λ e p. typed tt) c
aliases_last base [] d c = ap (λ j. (j, (judged_alias base d c).1)) (alone (judged_alias base d c).0)
aliases_last base (x ∷ ds) d c =
    let a = judged_alias base x c in
    let q = judged_aliases base ds a.1 in
    let y = judged_alias base d q.1 in
    ap (λ (z : Judged (Unit {0}) × Context). (fine a.0 z.0, z.1)) (aliases_last base ds d a.1) ∙ ap (λ j. (j, y.1)) (regroup a.0 q.0 y.0)

-- one more
pub aliases_more : (base : Judged Ty) (ys : List CodeDeclarator) (i : ℕ) (y : CodeDeclarator) (c : Context) (n m : CodeContext) (all next r : Result (Unit {0}) CompileFault)
    → i < length ys → y ≡ get_or ys i y → Tells (λ (u : Unit {0}). tt) all n (judged_aliases base (map declarator_view (take i ys)) c) → Tells (λ (u : Unit {0}). tt) next m (judged_alias base (declarator_view y) (context_view n))
    → Finishes (λ (u : Unit {0}). tt) (joined all next) (λ p. typed (tt {0})) r
    → Tells (λ (u : Unit {0}). tt) r m (judged_aliases base (map declarator_view (take (i + 1) ys)) c)
aliases_more base ys i y c n m all next r h is before here fin =
    let ds = map declarator_view (take i ys) in
    let taken : map declarator_view (take (i + 1) ys) ≡ ds ++ declarator_view y ∷ [] = map_more declarator_view ys i y h ∙ ap (λ x. ds ++ declarator_view x ∷ []) (sym is) in
    let unit = λ (u : Unit {0}). tt {0} in
    subst (λ xs. Tells unit r m (judged_aliases base xs c)) (sym taken)
    (subst (Tells unit r m) (sym (aliases_last base ds (declarator_view y) c))
    (finishes (λ (p : Unit {0} × Unit {0}). (unit p.0, unit p.1)) unit (in_turn (judged_aliases base ds) (judged_alias base (declarator_view y))) (λ e p. typed tt) c m (joined all next) r
    (both_tell unit unit (judged_aliases base ds) (judged_alias base (declarator_view y)) c n m all next before here) fin))

pub aliases_all : (base : Judged Ty) (ys : List CodeDeclarator) (i : ℕ) (c : Context) (n : CodeContext) (all : Result (Unit {0}) CompileFault)
    → length ys ≤ i → Tells (λ (u : Unit {0}). tt) all n (judged_aliases base (map declarator_view (take i ys)) c) → Tells (λ (u : Unit {0}). tt) all n (judged_aliases base (map declarator_view ys) c)
aliases_all base ys i c n all h before = subst (λ xs. Tells (λ (u : Unit {0}). tt) all n (judged_aliases base (map declarator_view xs) c)) (take_all i ys h) before

-- the name of a type, by what its declarator was judged to be
abbrev pub alias_type : Judged Ty → source.Declarator → Judging Ty
alias_type base d = ruled (in_turn (lone base) (judged_declarator d)) (λ c p. alias_declared c p.0 p.1)

pub alias_tells : (base : Judged Ty) (d : CodeDeclarator) (c : Context) (n m : CodeContext) (t : Result CType CompileFault) (r : Result (Unit {0}) CompileFault)
    → Tells type_view t n (alias_type base (declarator_view d) c)
    → ((p : Judged Ty × Context) → Tells type_view t n p → Tells (λ (u : Unit {0}). tt) r m (named_type d.name p))
    → Tells (λ (u : Unit {0}). tt) r m (judged_alias base (declarator_view d) c)
alias_tells base d c n m t r h named =
    subst (λ (name : Name). Tells (λ (u : Unit {0}). tt) r m (named_type name (alias_type base (declarator_view d) c))) (sym (declared_name d)) (named (alias_type base (declarator_view d) c) h)
