-- What each node of a type or a declarator tells, by what its parts tell.
use Rattle.std.proofs.Common.{◌≡◌, ℕ, List, Result, sym, subst}
use Rattle.std.specs.Prelude.{Vec, Box}
use Rattle.std.specs.declared.alloc.Global.{Global}
use Rattle.c_lex.specs.declared.refusal.CompileFault.{CompileFault}
use Rattle.c_tree.specs.declared.syntax.Name.{Name}
use Rattle.c_tree.specs.declared.syntax.Pointer.{Pointer}
use Rattle.c_tree.specs.declared.typed.Expr.{Expr as CodeExpr}
use Rattle.c_tree.specs.declared.typed.CType.{CType}
use Rattle.c_tree.specs.Syntax as source
use Rattle.c_tree.specs.Typed.{Ty}
use Rattle.c_tree.specs.TypedViews.{type_view, boxed_expr_view}
use Rattle.c_typing.specs.Faults.{Judged, typed, Gives}
use Rattle.c_typing.specs.Types.{behind_pointers}
use Rattle.c_typing.specs.Scope.{Context, bytes_of}
use Rattle.c_typing.specs.Judgement.{Judging, ruled, judged, valued, judged_type, judged_specs, judged_parts, judged_spec, judged_member, judged_declarators, judged_dims, specified, place_of_specs, dimension, array_size, lone, object_declared, fresh_member, object_by, plain_type}
use Rattle.type_context.specs.declared.context.Context.{Context as CodeContext}
use Rattle.type_context.specs.declared.context.MemberType.{MemberType}
use Rattle.type_context.specs.ContextViews.{context_view, member_type_view}
use Rattle.type_context.specs.inner.Outcomes.{joined}
use Rattle.type_rules.specs.declared.declarators.Declared.{Declared}
use Rattle.type_rules.specs.declared.specifiers.Part.{Part as CodePart}
use Rattle.type_rules.specs.SpecifierViews.{numbers_view, part_view, parts_view, declared_view}
use Rattle.type_context.specs.Telling.{Tells}
use Rattle.type_context.proofs.Walks.{lone_tells}
use Rattle.type_nodes.specs.Nodes.{Finishes, types_of_members}
use Rattle.type_nodes.proofs.Telling.{finishes, finishes_both}
use Rattle.type_nodes.proofs.Rows.{declarator_node}

pub type_name_tells : (specs : source.Specs) (pointers : List Pointer) (c : Context) (n : CodeContext) (a r : Result CType CompileFault)
    → Tells type_view a n (judged_specs specs c) → Finishes type_view a (λ t. plain_type (place_of_specs specs) (behind_pointers (type_view t) pointers)) r → Tells type_view r n (judged_type (source.type_name specs pointers) c)
type_name_tells specs pointers c n a r = finishes type_view type_view (judged_specs specs) (λ d t. plain_type (place_of_specs specs) (behind_pointers t pointers)) c n a r

pub specs_tell : (specs : source.Specs) (c : Context) (n : CodeContext) (a : Result (Vec CodePart Global) CompileFault) (r : Result CType CompileFault)
    → Tells parts_view a n (judged_parts specs c) → Finishes type_view a (λ ps. specified (place_of_specs specs) (parts_view ps)) r → Tells type_view r n (judged_specs specs c)
specs_tell specs c n a r = finishes parts_view type_view (judged_parts specs) (λ d all. specified (place_of_specs specs) all) c n a r

pub dimension_tells : (e : source.Expr) (c : Context) (n : CodeContext) (a : Result (Box CodeExpr Global) CompileFault) (r : Result ℕ CompileFault)
    → Tells boxed_expr_view a n (valued (judged e) c) → Finishes (λ (i : ℕ). i) a (λ x. dimension e (context_view n) (boxed_expr_view x)) r → Tells (λ (i : ℕ). i) r n (array_size e (judged e) c)
dimension_tells e c n a r = finishes boxed_expr_view (λ (i : ℕ). i) (valued (judged e)) (dimension e) c n a r

pub member_tells : (before : List Name) (specs : source.Specs) (ds : source.Declarators) (c : Context) (n m : CodeContext) (a : Result CType CompileFault) (b r : Result (Vec MemberType Global) CompileFault)
    → Tells type_view a n (judged_specs specs c) → Tells types_of_members b m (judged_declarators before (judged_specs specs c).0 ds (context_view n))
    → Finishes types_of_members (joined a b) (λ p. typed (types_of_members p.1)) r → Tells types_of_members r m (judged_member before (source.members_of specs ds) c)
member_tells before specs ds c n m a b r =
    finishes_both type_view types_of_members types_of_members (judged_specs specs) (judged_declarators before (judged_specs specs c).0 ds) (λ d p. typed p.1) c n m a b r

-- a member, by its declarator
pub declarator_tells : (base : Judged Ty) (before : List Name) (d : source.Declarator) (name : Name) (dims : source.Exprs) (pointers : List Pointer) (n m : CodeContext)
    (f : Result (Unit {0}) CompileFault) (t : Result CType CompileFault) (s : Result (Vec ℕ Global) CompileFault) (o : Result CType CompileFault) (r : Result MemberType CompileFault)
    → d ≡ source.declarator pointers name dims
    → Gives (λ _. tt) f (fresh_member (context_view n) before name) → Gives type_view t base → Tells numbers_view s m (judged_dims dims (context_view n))
    → Finishes type_view (joined t s) (λ p. object_declared (context_view m) (type_view p.0) (record { name = name; pointers = pointers; sizes = numbers_view p.1 })) o
    → Finishes member_type_view (joined f o) (λ p. typed (bytes_of (context_view m).text name, type_view p.1)) r
    → Tells member_type_view r m (declarator_node base before d (context_view n))
declarator_tells base before d name dims pointers n m f t s o r is h b k g l =
    subst (λ x. Tells member_type_view r m (declarator_node base before x (context_view n))) (sym is)
    (finishes_both (λ (u : Unit {0}). u) type_view member_type_view (lone (fresh_member (context_view n) before name)) (object_by base pointers name (judged_dims dims)) (λ c p. typed (bytes_of c.text name, p.1)) (context_view n) n m f o r
    (lone_tells (λ (u : Unit {0}). u) f n (fresh_member (context_view n) before name) h)
    (finishes_both type_view numbers_view type_view (lone base) (judged_dims dims) (λ c p. object_declared c p.0 (record { name = name; pointers = pointers; sizes = p.1 })) (context_view n) n m t s o (lone_tells type_view t n base b) k g) l)

-- a declarator, which declares nothing yet
pub declared_tells : (name : Name) (pointers : List Pointer) (J : Judging (List ℕ)) (c : Context) (n : CodeContext) (s : Result (Vec ℕ Global) CompileFault) (r : Result Declared CompileFault)
    → Tells numbers_view s n (J c) → Finishes declared_view s (λ v. typed (record { name = name; pointers = pointers; sizes = numbers_view v })) r
    → Tells declared_view r n (ruled J (λ k sizes. typed (record { name = name; pointers = pointers; sizes = sizes })) c)
declared_tells name pointers J c n s r = finishes numbers_view declared_view J (λ k sizes. typed (record { name = name; pointers = pointers; sizes = sizes })) c n s r
