-- What each node of an expression tells, by what its parts tell.
use Rattle.std.proofs.Common.{◌≡◌, ℕ, true, false, List, [], ◌∷◌, Option, Some, None, Result, Ok, Err, refl, sym, subst}
use Rattle.std.specs.Prelude.{Vec, Box}
use Rattle.std.specs.declared.alloc.Global.{Global}
use Rattle.c_lex.specs.declared.refusal.CompileFault.{CompileFault}
use Rattle.c_lex.specs.declared.refusal.CompileFault.TheVariants.{Refused}
use Rattle.c_lex.specs.declared.refusal.Kind.{Kind}
use Rattle.c_lex.specs.declared.refusal.Kind.TheVariants.{OutsideSubset}
use Rattle.c_tree.specs.declared.syntax.Name.{Name}
use Rattle.c_tree.specs.declared.syntax.Span.{Span}
use Rattle.c_tree.specs.declared.syntax.PrefixOp.{PrefixOp}
use Rattle.c_tree.specs.declared.syntax.PrefixOp.TheVariants as prefixes
use Rattle.c_tree.specs.declared.syntax.BinaryOp.{BinaryOp}
use Rattle.c_tree.specs.declared.typed.Expr.{Expr as CodeExpr}
use Rattle.c_tree.specs.declared.typed.CType.{CType}
use Rattle.c_tree.specs.declared.typed.Piece.{Piece as CodePiece}
use Rattle.c_tree.specs.Syntax as source
use Rattle.c_tree.specs.Typed.{Expr, type_of}
use Rattle.c_tree.specs.TypedViews.{type_view, boxed_expr_view}
use Rattle.c_typing.specs.Faults.{typed, refuse, Gives}
use Rattle.c_typing.specs.Formats.{pieces_of}
use Rattle.c_typing.specs.Literals.{joined_bytes}
use Rattle.c_typing.specs.Rules.{value_of, selected, pointed, element, cast, size_number}
use Rattle.c_typing.specs.Scope.{Context, Binding}
use Rattle.c_typing.specs.Judgement.{Judging, lone, prefixed_by, choice, begun_by, no_call, called_as, judged, valued, judged_all, judged_print, judged_start, judged_started, judged_type, prefixed, name_in, text_in, node_place, combined, format_by, format_or, none_past, place_past, printed, started, starting_or, meaning_in, called_by}
use Rattle.type_context.specs.declared.context.Context.{Context as CodeContext}
use Rattle.type_context.specs.ContextViews.{context_view}
use Rattle.type_context.specs.inner.Outcomes.{joined}
use Rattle.type_rules.specs.ListViews.{exprs_view, pieces_view}
use Rattle.type_context.specs.Telling.{Tells}
use Rattle.type_context.proofs.Walks.{lone_tells, both_tell}
use Rattle.type_nodes.specs.Nodes.{Finishes, started_view, is_printf, is_thrd_create}
use Rattle.type_nodes.proofs.Telling.{finishes, finishes_both, finishes_three, prefixed_value, starting_found, starting_sought, call_printf, call_thrd_create, call_other}

-- ---- one part

pub value_tells : (e : source.Expr) (c : Context) (n : CodeContext) (a r : Result (Box CodeExpr Global) CompileFault)
    → Tells boxed_expr_view a n (judged e c) → Finishes boxed_expr_view a (λ x. typed (value_of (boxed_expr_view x))) r → Tells boxed_expr_view r n (valued (judged e) c)
value_tells e c n a r = finishes boxed_expr_view boxed_expr_view (judged e) (λ d x. typed (value_of x)) c n a r

pub size_of_type_tells : (place : ℕ) (t : source.TypeName) (c : Context) (n : CodeContext) (a : Result CType CompileFault) (r : Result (Box CodeExpr Global) CompileFault)
    → Tells type_view a n (judged_type t c) → Finishes boxed_expr_view a (λ x. size_number (context_view n) place (type_view x)) r → Tells boxed_expr_view r n (judged (source.sizeof_type place t) c)
size_of_type_tells place t c n a r = finishes type_view boxed_expr_view (judged_type t) (λ d s. size_number d place s) c n a r

pub size_of_expression_tells : (place : ℕ) (e : source.Expr) (c : Context) (n : CodeContext) (a r : Result (Box CodeExpr Global) CompileFault)
    → Tells boxed_expr_view a n (judged e c) → Finishes boxed_expr_view a (λ x. size_number (context_view n) place (type_of (boxed_expr_view x))) r → Tells boxed_expr_view r n (judged (source.sizeof_expr place e) c)
size_of_expression_tells place e c n a r = finishes boxed_expr_view boxed_expr_view (judged e) (λ d x. size_number d place (type_of x)) c n a r

pub member_tells : (place : ℕ) (e : source.Expr) (m : Name) (c : Context) (n : CodeContext) (a r : Result (Box CodeExpr Global) CompileFault)
    → Tells boxed_expr_view a n (judged e c) → Finishes boxed_expr_view a (λ x. selected (context_view n) place (boxed_expr_view x) m) r → Tells boxed_expr_view r n (judged (source.member place e m) c)
member_tells place e m c n a r = finishes boxed_expr_view boxed_expr_view (judged e) (λ d x. selected d place x m) c n a r

pub arrow_tells : (place : ℕ) (e : source.Expr) (m : Name) (c : Context) (n : CodeContext) (a r : Result (Box CodeExpr Global) CompileFault)
    → Tells boxed_expr_view a n (valued (judged e) c) → Finishes boxed_expr_view a (λ x. pointed (context_view n) place (boxed_expr_view x) m) r → Tells boxed_expr_view r n (judged (source.arrow place e m) c)
arrow_tells place e m c n a r = finishes boxed_expr_view boxed_expr_view (valued (judged e)) (λ d x. pointed d place x m) c n a r

-- a prefix operator other than `&`
pub prefixed_tells : (place : ℕ) (op : PrefixOp) (o : Option Name) (e : source.Expr) (c : Context) (n : CodeContext) (a r : Result (Box CodeExpr Global) CompileFault)
    → (op ≡ prefixes.AddressOf → ⊥) → Tells boxed_expr_view a n (valued (judged e) c) → Finishes boxed_expr_view a (λ x. prefixed_by place op (boxed_expr_view x)) r
    → Tells boxed_expr_view r n (prefixed place op o (judged e) c)
prefixed_tells place op o e c n a r other h f =
    subst (λ q. Tells boxed_expr_view r n q) (prefixed_value op place o (judged e) c other) (finishes boxed_expr_view boxed_expr_view (valued (judged e)) (λ d x. prefixed_by place op x) c n a r h f)

-- ---- two parts and three

pub cast_tells : (place : ℕ) (t : source.TypeName) (e : source.Expr) (c : Context) (n m : CodeContext) (a : Result CType CompileFault) (b r : Result (Box CodeExpr Global) CompileFault)
    → Tells type_view a n (judged_type t c) → Tells boxed_expr_view b m (valued (judged e) (context_view n))
    → Finishes boxed_expr_view (joined a b) (λ p. cast place (type_view p.0) (boxed_expr_view p.1)) r → Tells boxed_expr_view r m (judged (source.cast place t e) c)
cast_tells place t e c n m a b r = finishes_both type_view boxed_expr_view boxed_expr_view (judged_type t) (valued (judged e)) (λ d p. cast place p.0 p.1) c n m a b r

pub index_tells : (place : ℕ) (e i : source.Expr) (c : Context) (n m : CodeContext) (a b r : Result (Box CodeExpr Global) CompileFault)
    → Tells boxed_expr_view a n (valued (judged e) c) → Tells boxed_expr_view b m (valued (judged i) (context_view n))
    → Finishes boxed_expr_view (joined a b) (λ p. element (context_view m) place (boxed_expr_view p.0) (boxed_expr_view p.1)) r → Tells boxed_expr_view r m (judged (source.index place e i) c)
index_tells place e i c n m a b r = finishes_both boxed_expr_view boxed_expr_view boxed_expr_view (valued (judged e)) (valued (judged i)) (λ d p. element d place p.0 p.1) c n m a b r

pub binary_tells : (place : ℕ) (op : BinaryOp) (e f : source.Expr) (c : Context) (n m : CodeContext) (a b r : Result (Box CodeExpr Global) CompileFault)
    → Tells boxed_expr_view a n (valued (judged e) c) → Tells boxed_expr_view b m (valued (judged f) (context_view n))
    → Finishes boxed_expr_view (joined a b) (λ p. combined (context_view m) place op (boxed_expr_view p.0) (boxed_expr_view p.1)) r → Tells boxed_expr_view r m (judged (source.binary place op e f) c)
binary_tells place op e f c n m a b r = finishes_both boxed_expr_view boxed_expr_view boxed_expr_view (valued (judged e)) (valued (judged f)) (λ d p. combined d place op p.0 p.1) c n m a b r

pub conditional_tells : (place : ℕ) (e f g : source.Expr) (c : Context) (n m o : CodeContext) (a b d r : Result (Box CodeExpr Global) CompileFault)
    → Tells boxed_expr_view a n (valued (judged e) c) → Tells boxed_expr_view b m (valued (judged f) (context_view n)) → Tells boxed_expr_view d o (valued (judged g) (context_view m))
    → Finishes boxed_expr_view (joined a (joined b d)) (λ p. choice place (boxed_expr_view p.0) (boxed_expr_view p.1.0) (boxed_expr_view p.1.1)) r → Tells boxed_expr_view r o (judged (source.conditional place e f g) c)
conditional_tells place e f g c n m o a b d r =
    finishes_three boxed_expr_view boxed_expr_view boxed_expr_view boxed_expr_view (valued (judged e)) (valued (judged f)) (valued (judged g)) (λ k p. choice place p.0 p.1.0 p.1.1) c n m o a b d r

-- ---- printf

pub print_tells : (place : ℕ) (e : source.Expr) (rest : source.Exprs) (k n m : CodeContext) (few : Result (Unit {0}) CompileFault) (f : Result (Vec CodePiece Global) CompileFault) (a : Result (Vec CodeExpr Global) CompileFault) (r : Result (Box CodeExpr Global) CompileFault)
    → Gives (λ _. tt) few (none_past 7 (place_past 16 rest)) → Tells pieces_view f n (format_or (text_in e) (node_place e) (judged e) (context_view k)) → Tells exprs_view a m (judged_all rest (context_view n))
    → Finishes boxed_expr_view (joined few (joined f a)) (λ p. printed place (pieces_view p.1.0, exprs_view p.1.1)) r → Tells boxed_expr_view r m (judged_print place (source.more_exprs e rest) (context_view k))
print_tells place e rest k n m few f a r h =
    let past = none_past 7 (place_past 16 rest) in
    finishes_three (λ (u : Unit {0}). u) pieces_view exprs_view boxed_expr_view (lone past) (format_or (text_in e) (node_place e) (judged e)) (judged_all rest) (λ d p. printed place p.1)
    (context_view k) k n m few f a r (lone_tells (λ (u : Unit {0}). u) few k past h)

pub format_found : (place : ℕ) (e : source.Expr) (parts : List Span) (n : CodeContext) (r : Result (Vec CodePiece Global) CompileFault)
    → text_in e ≡ Some parts → Gives pieces_view r (format_by place (pieces_of (joined_bytes (context_view n).text parts)))
    → Tells pieces_view r n (format_or (text_in e) place (judged e) (context_view n))
format_found place e parts n r is h =
    subst (λ t. Tells pieces_view r n (format_or t place (judged e) (context_view n))) (sym is) (lone_tells pieces_view r n (format_by place (pieces_of (joined_bytes (context_view n).text parts))) h)

pub format_other : (place : ℕ) (e : source.Expr) (c : Context) (n : CodeContext) (a : Result (Box CodeExpr Global) CompileFault) (r : Result (Vec CodePiece Global) CompileFault)
    → text_in e ≡ None → Tells boxed_expr_view a n (judged e c) → Finishes pieces_view a (λ _. refuse place (OutsideSubset 15)) r
    → Tells pieces_view r n (format_or (text_in e) place (judged e) c)
format_other place e c n a r is h f =
    subst (λ t. Tells pieces_view r n (format_or t place (judged e) c)) (sym is) (finishes boxed_expr_view pieces_view (judged e) (λ d x. refuse place (OutsideSubset 15)) c n a r h f)

-- ---- thrd_create

pub start_tells : (place : ℕ) (e : source.Expr) (rest : source.Exprs) (c : Context) (n m : CodeContext) (a : Result (Box CodeExpr Global) CompileFault) (b : Result (Option ℕ × Vec CodeExpr Global) CompileFault) (r : Result (Box CodeExpr Global) CompileFault)
    → Tells boxed_expr_view a n (valued (judged e) c) → Tells started_view b m (judged_started rest (context_view n))
    → Finishes boxed_expr_view (joined a b) (λ p. started place (boxed_expr_view p.0 ∷ []) p.1.0 (exprs_view p.1.1)) r → Tells boxed_expr_view r m (judged_start place (source.more_exprs e rest) c)
start_tells place e rest c n m a b r = finishes_both boxed_expr_view started_view boxed_expr_view (valued (judged e)) (judged_started rest) (λ d p. started place (p.0 ∷ []) p.1.0 p.1.1) c n m a b r

pub started_tells : (e : source.Expr) (rest : source.Exprs) (c : Context) (n m : CodeContext) (f : Result (Option ℕ) CompileFault) (a : Result (Vec CodeExpr Global) CompileFault) (r : Result (Option ℕ × Vec CodeExpr Global) CompileFault)
    → Tells (λ (g : Option ℕ). g) f n (starting_or (meaning_in c (name_in e)) (judged e) c) → Tells exprs_view a m (judged_all rest (context_view n)) → r ≡ joined f a
    → Tells started_view r m (judged_started (source.more_exprs e rest) c)
started_tells e rest c n m f a r h k is =
    subst (λ q. Tells started_view q m (judged_started (source.more_exprs e rest) c)) (sym is)
    (both_tell (λ (g : Option ℕ). g) exprs_view (starting_or (meaning_in c (name_in e)) (judged e)) (judged_all rest) c n m f a h k)

pub starting_known : (o : Option Binding) (e : source.Expr) (n : CodeContext) (f : Option ℕ) → begun_by o ≡ Some f → Tells (λ (g : Option ℕ). g) (Ok f) n (starting_or o (judged e) (context_view n))
starting_known o e n f is = subst (λ q. Tells (λ (g : Option ℕ). g) (Ok f) n q) (sym (starting_found o (judged e) (context_view n) f is)) (lone_tells (λ (g : Option ℕ). g) (Ok f) n (typed f) refl)

pub starting_other : (o : Option Binding) (e : source.Expr) (c : Context) (n : CodeContext) (a : Result (Box CodeExpr Global) CompileFault) (r : Result (Option ℕ) CompileFault)
    → begun_by o ≡ None → Tells boxed_expr_view a n (judged e c) → Finishes (λ (g : Option ℕ). g) a (λ _. typed None) r → Tells (λ (g : Option ℕ). g) r n (starting_or o (judged e) c)
starting_other o e c n a r is h f =
    subst (λ q. Tells (λ (g : Option ℕ). g) r n q) (sym (starting_sought o (judged e) c is)) (finishes boxed_expr_view (λ (g : Option ℕ). g) (judged e) (λ d x. typed None) c n a r h f)

-- ---- calls

pub printing : (m : Option Binding) (callee : Name) (args : source.Exprs) (c : Context) (n : CodeContext) (r : Result (Box CodeExpr Global) CompileFault)
    → is_printf m ≡ true → Tells boxed_expr_view r n (judged_print callee.from args c)
    → Tells boxed_expr_view r n (called_by m callee.from (judged_all args) (judged_print callee.from args) (judged_start callee.from args) c)
printing m callee args c n r is h =
    subst (λ q. Tells boxed_expr_view r n q) (call_printf m callee.from (judged_all args) (judged_print callee.from args) (judged_start callee.from args) c is) h

pub beginning : (m : Option Binding) (callee : Name) (args : source.Exprs) (c : Context) (n : CodeContext) (r : Result (Box CodeExpr Global) CompileFault)
    → is_thrd_create m ≡ true → Tells boxed_expr_view r n (judged_start callee.from args c)
    → Tells boxed_expr_view r n (called_by m callee.from (judged_all args) (judged_print callee.from args) (judged_start callee.from args) c)
beginning m callee args c n r is h =
    subst (λ q. Tells boxed_expr_view r n q) (call_thrd_create m callee.from (judged_all args) (judged_print callee.from args) (judged_start callee.from args) c is) h

pub calling : (m : Option Binding) (callee : Name) (args : source.Exprs) (c : Context) (n : CodeContext) (r : Result (Box CodeExpr Global) CompileFault)
    → is_printf m ≡ false → is_thrd_create m ≡ false → Tells boxed_expr_view r n (called_as m callee.from (judged_all args) c)
    → Tells boxed_expr_view r n (called_by m callee.from (judged_all args) (judged_print callee.from args) (judged_start callee.from args) c)
calling m callee args c n r not_print not_start h =
    subst (λ q. Tells boxed_expr_view r n q) (call_other m callee.from (judged_all args) (judged_print callee.from args) (judged_start callee.from args) c not_print not_start) h

-- a call of what can't be called
pub no_call_tells : (place : ℕ) (kind : Kind) (args : Result (Vec CodeExpr Global) CompileFault) (n : CodeContext) (J : Judging (List Expr)) (c : Context) (r : Result (Box CodeExpr Global) CompileFault)
    → Tells exprs_view args n (J c) → Finishes boxed_expr_view (joined {A = Unit {0}} (Err (Refused (record { place = place; kind = kind }))) args) (λ _. refuse place kind) r
    → Tells boxed_expr_view r n (no_call place kind J c)
no_call_tells place kind args n J c r =
    finishes_both (λ (u : Unit {0}). u) exprs_view boxed_expr_view (lone (refuse place kind)) (λ d. J c) (λ d q. refuse place kind) (context_view n) n n (Err (Refused (record { place = place; kind = kind }))) args r
    (lone_tells (λ (u : Unit {0}). u) (Err (Refused (record { place = place; kind = kind }))) n (refuse place kind) refl)
