-- What calls of the walk tell, by what was found behind them.
use Rattle.std.proofs.Common.{◌≡◌, ℕ, ◌-◌, ◌≤◌, length, map, get_or, take, drop, true, false, List, [], ◌∷◌, ◌++◌, Option, Some, None, Result, ap, sym, subst, ◌∙◌}
use Rattle.std.proofs.lemmas.List.{take_all}
use Rattle.std.specs.Prelude.{Vec, Box}
use Rattle.std.specs.declared.alloc.Global.{Global}
use Rattle.c_lex.specs.declared.refusal.CompileFault.{CompileFault}
use Rattle.c_lex.specs.declared.refusal.Kind.TheVariants.{OutsideSubset}
use Rattle.c_tree.specs.declared.syntax.Name.{Name}
use Rattle.c_tree.specs.declared.syntax.Span.{Span}
use Rattle.c_tree.specs.declared.syntax.PrefixOp.{PrefixOp}
use Rattle.c_tree.specs.declared.syntax.PrefixOp.TheVariants as prefixes
use Rattle.c_tree.specs.declared.syntax.Expr.{Expr as Tree}
use Rattle.c_tree.specs.declared.syntax.Declarator.{Declarator as CodeDeclarator}
use Rattle.c_tree.specs.declared.typed.Expr.{Expr as CodeExpr}
use Rattle.c_tree.specs.declared.typed.Piece.{Piece as CodePiece}
use Rattle.c_tree.specs.Syntax as source
use Rattle.c_tree.specs.SyntaxViews as sources
use Rattle.c_tree.specs.TypedViews.{boxed_expr_view}
use Rattle.c_typing.specs.Faults.{Gives, refuse}
use Rattle.c_typing.specs.Formats.{pieces_of}
use Rattle.c_typing.specs.Literals.{joined_bytes}
use Rattle.c_typing.specs.Rules.{address}
use Rattle.c_typing.specs.Scope.{Context, Binding, meaning_of}
use Rattle.c_typing.specs.Judgement.{judged, valued, judged_all, judged_print, judged_start, judged_started, called_as, called_by, name_in, text_in, node_place, meaning_in, format_or, none_past, place_past, printed, started, starting_or, names_in, prefixed, with_addressed, format_by}
use Rattle.type_context.specs.declared.context.Context.{Context as CodeContext}
use Rattle.type_context.specs.ContextViews.{context_view}
use Rattle.type_context.specs.inner.Outcomes.{joined}
use Rattle.type_rules.specs.ListViews.{exprs_view, pieces_view}
use Rattle.type_context.specs.Telling.{Tells}
use Rattle.type_context.specs.Rows.{state_behind}
use Rattle.type_nodes.specs.Nodes.{Finishes, started_view, is_printf, is_thrd_create}
use Rattle.type_nodes.proofs.Rows.{behind_declarator, names_behind}
use Rattle.type_nodes.proofs.Telling.{headed, addressed_tells}
use Rattle.type_nodes.proofs.Expressions.{print_tells, start_tells, started_tells, printing, beginning, calling, format_found, format_other}

-- ---- prefix operators, and formats

pub address_tells : (place : ℕ) (op : PrefixOp) (name : Option Name) (e : source.Expr) (c : Context) (k m : CodeContext) (a r : Result (Box CodeExpr Global) CompileFault)
    → op ≡ prefixes.AddressOf → name ≡ name_in e → Tells boxed_expr_view a k (judged e c) → context_view m ≡ with_addressed (context_view k) (meaning_in (context_view k) name)
    → Finishes boxed_expr_view a (λ x. address place (boxed_expr_view x)) r → Tells boxed_expr_view r m (prefixed place op (name_in e) (judged e) c)
address_tells place op name e c k m a r is_op is_name told marked finishes =
    subst (λ (o : PrefixOp). Tells boxed_expr_view r m (prefixed place o (name_in e) (judged e) c)) (sym is_op)
    (addressed_tells place (name_in e) (judged e) c k m a r told (subst (λ (o : Option Name). context_view m ≡ with_addressed (context_view k) (meaning_in (context_view k) o)) is_name marked) finishes)

pub text_told : (place : ℕ) (e : source.Expr) (parts : List Span) (n : CodeContext) (r : Result (Vec CodePiece Global) CompileFault)
    → place ≡ node_place e → text_in e ≡ Some parts → Gives pieces_view r (format_by place (pieces_of (joined_bytes (context_view n).text parts)))
    → Tells pieces_view r n (format_or (text_in e) (node_place e) (judged e) (context_view n))
text_told place e parts n r is_place is_text h =
    subst (λ (p : ℕ). Tells pieces_view r n (format_or (text_in e) p (judged e) (context_view n))) is_place (format_found place e parts n r is_text h)

pub no_text_told : (place : ℕ) (e : source.Expr) (c : Context) (n : CodeContext) (a : Result (Box CodeExpr Global) CompileFault) (r : Result (Vec CodePiece Global) CompileFault)
    → place ≡ node_place e → text_in e ≡ None → Tells boxed_expr_view a n (judged e c) → Finishes pieces_view a (λ _. refuse place (OutsideSubset 15)) r
    → Tells pieces_view r n (format_or (text_in e) (node_place e) (judged e) c)
no_text_told place e c n a r is_place is_text told finishes =
    subst (λ (p : ℕ). Tells pieces_view r n (format_or (text_in e) p (judged e) c)) is_place (format_other place e c n a r is_text told finishes)

-- ---- calls, by what the name means

pub call_prints : (callee : Name) (args : source.Exprs) (c : Context) (n : CodeContext) (m : Option Binding) (r : Result (Box CodeExpr Global) CompileFault)
    → m ≡ meaning_of c callee → is_printf m ≡ true → Tells boxed_expr_view r n (judged_print callee.from args c) → Tells boxed_expr_view r n (judged (source.call callee args) c)
call_prints callee args c n m r is prints h =
    subst (λ (q : Option Binding). Tells boxed_expr_view r n (called_by q callee.from (judged_all args) (judged_print callee.from args) (judged_start callee.from args) c)) is
    (printing m callee args c n r prints h)

pub call_starts : (callee : Name) (args : source.Exprs) (c : Context) (n : CodeContext) (m : Option Binding) (r : Result (Box CodeExpr Global) CompileFault)
    → m ≡ meaning_of c callee → is_thrd_create m ≡ true → Tells boxed_expr_view r n (judged_start callee.from args c) → Tells boxed_expr_view r n (judged (source.call callee args) c)
call_starts callee args c n m r is starts h =
    subst (λ (q : Option Binding). Tells boxed_expr_view r n (called_by q callee.from (judged_all args) (judged_print callee.from args) (judged_start callee.from args) c)) is
    (beginning m callee args c n r starts h)

pub call_calls : (callee : Name) (args : source.Exprs) (c : Context) (n : CodeContext) (m : Option Binding) (r : Result (Box CodeExpr Global) CompileFault)
    → m ≡ meaning_of c callee → is_printf m ≡ false → is_thrd_create m ≡ false → Tells boxed_expr_view r n (called_as m callee.from (judged_all args) c)
    → Tells boxed_expr_view r n (judged (source.call callee args) c)
call_calls callee args c n m r is other neither h =
    subst (λ (q : Option Binding). Tells boxed_expr_view r n (called_by q callee.from (judged_all args) (judged_print callee.from args) (judged_start callee.from args) c)) is
    (calling m callee args c n r other neither h)

-- ---- the first of the arguments and those behind it

-- the first and the others are all of them
whole : (xs : List Tree) (x : Tree) (rest : List Tree) → 1 ≤ length xs → x ≡ get_or xs 0 x → rest ≡ take (length xs - 1) (drop 1 xs)
    → source.more_exprs (sources.expr_view x) (source.exprs_of (map sources.expr_view rest)) ≡ source.exprs_of (map sources.expr_view xs)
whole xs x rest h is_x is_rest =
    ap (λ (e : Tree). source.more_exprs (sources.expr_view e) (source.exprs_of (map sources.expr_view rest))) is_x
    ∙ ap (λ (l : List Tree). source.exprs_of (sources.expr_view (get_or xs 0 x) ∷ map sources.expr_view l)) is_rest
    ∙ ap source.exprs_of (headed sources.expr_view xs x h)

pub print_some : (place : ℕ) (xs : List Tree) (x : Tree) (rest : List Tree) (k n m : CodeContext) (few : Result (Unit {0}) CompileFault) (f : Result (Vec CodePiece Global) CompileFault) (a : Result (Vec CodeExpr Global) CompileFault) (r : Result (Box CodeExpr Global) CompileFault)
    → 1 ≤ length xs → x ≡ get_or xs 0 x → rest ≡ take (length xs - 1) (drop 1 xs)
    → Gives (λ _. tt) few (none_past 7 (place_past 16 (source.exprs_of (map sources.expr_view rest))))
    → Tells pieces_view f n (format_or (text_in (sources.expr_view x)) (node_place (sources.expr_view x)) (judged (sources.expr_view x)) (context_view k))
    → Tells exprs_view a m (judged_all (source.exprs_of (map sources.expr_view rest)) (context_view n))
    → Finishes boxed_expr_view (joined few (joined f a)) (λ p. printed place (pieces_view p.1.0, exprs_view p.1.1)) r
    → Tells boxed_expr_view r m (judged_print place (source.exprs_of (map sources.expr_view xs)) (context_view k))
print_some place xs x rest k n m few f a r h is_x is_rest fine found told finishes =
    subst (λ (es : source.Exprs). Tells boxed_expr_view r m (judged_print place es (context_view k))) (whole xs x rest h is_x is_rest)
    (print_tells place (sources.expr_view x) (source.exprs_of (map sources.expr_view rest)) k n m few f a r fine found told finishes)

pub start_some : (place : ℕ) (xs : List Tree) (x : Tree) (rest : List Tree) (c : Context) (n m : CodeContext) (a : Result (Box CodeExpr Global) CompileFault) (b : Result (Option ℕ × Vec CodeExpr Global) CompileFault) (r : Result (Box CodeExpr Global) CompileFault)
    → 1 ≤ length xs → x ≡ get_or xs 0 x → rest ≡ take (length xs - 1) (drop 1 xs)
    → Tells boxed_expr_view a n (valued (judged (sources.expr_view x)) c)
    → Tells started_view b m (judged_started (source.exprs_of (map sources.expr_view rest)) (context_view n))
    → Finishes boxed_expr_view (joined a b) (λ p. started place (boxed_expr_view p.0 ∷ []) p.1.0 (exprs_view p.1.1)) r
    → Tells boxed_expr_view r m (judged_start place (source.exprs_of (map sources.expr_view xs)) c)
start_some place xs x rest c n m a b r h is_x is_rest first told finishes =
    subst (λ (es : source.Exprs). Tells boxed_expr_view r m (judged_start place es c)) (whole xs x rest h is_x is_rest)
    (start_tells place (sources.expr_view x) (source.exprs_of (map sources.expr_view rest)) c n m a b r first told finishes)

pub started_some : (xs : List Tree) (x : Tree) (rest : List Tree) (c : Context) (n m : CodeContext) (f : Result (Option ℕ) CompileFault) (a : Result (Vec CodeExpr Global) CompileFault) (r : Result (Option ℕ × Vec CodeExpr Global) CompileFault)
    → 1 ≤ length xs → x ≡ get_or xs 0 x → rest ≡ take (length xs - 1) (drop 1 xs)
    → Tells (λ (g : Option ℕ). g) f n (starting_or (meaning_in c (name_in (sources.expr_view x))) (judged (sources.expr_view x)) c)
    → Tells exprs_view a m (judged_all (source.exprs_of (map sources.expr_view rest)) (context_view n))
    → r ≡ joined f a
    → Tells started_view r m (judged_started (source.exprs_of (map sources.expr_view xs)) c)
started_some xs x rest c n m f a r h is_x is_rest first told is =
    subst (λ (es : source.Exprs). Tells started_view r m (judged_started es c)) (whole xs x rest h is_x is_rest)
    (started_tells (sources.expr_view x) (source.exprs_of (map sources.expr_view rest)) c n m f a r first told is)

-- ---- the names behind all declarators

pub names_told : (before : List Name) (xs : List CodeDeclarator) (i : ℕ) (now : List Name) → length xs ≤ i → now ≡ state_behind behind_declarator before (map sources.declarator_view (take i xs))
    → now ≡ before ++ names_in (source.declarators_of (map sources.declarator_view xs))
names_told before xs i now le is =
    is ∙ ap (λ (l : List CodeDeclarator). state_behind behind_declarator before (map sources.declarator_view l)) (take_all i xs le) ∙ names_behind before (map sources.declarator_view xs)
