-- What each kind of node tells, as the code has it.
use Rattle.std.proofs.Common.{◌≡◌, ℕ, Bool, map, List, [], ◌∷◌, ◌++◌, Option, Some, None, Result, refl, ap, sym, subst, ◌∙◌}
use Rattle.std.specs.Option.{option_map}
use Rattle.std.specs.Prelude.{Vec, Box, ℤ, pos}
use Rattle.std.specs.declared.alloc.Global.{Global}
use Rattle.ak_words.specs.IntType.{int}
use Rattle.ak_words.specs.declared.number.Num.{Num}
use Rattle.c_lex.specs.declared.refusal.CompileFault.{CompileFault}
use Rattle.c_tree.specs.declared.syntax.Name.{Name}
use Rattle.c_tree.specs.declared.syntax.Span.{Span}
use Rattle.c_tree.specs.declared.syntax.PrefixOp.{PrefixOp}
use Rattle.c_tree.specs.declared.syntax.BinaryOp.{BinaryOp}
use Rattle.c_tree.specs.declared.syntax.TypeWord.{TypeWord}
use Rattle.c_tree.specs.declared.syntax.Expr.{Expr as Tree}
use Rattle.c_tree.specs.declared.syntax.Expr.TheVariants as codes
use Rattle.c_tree.specs.declared.syntax.Spec.{Spec as CodeSpec}
use Rattle.c_tree.specs.declared.syntax.Spec.TheVariants as code_specs
use Rattle.c_tree.specs.declared.syntax.TypeName.{TypeName as CodeTypeName}
use Rattle.c_tree.specs.declared.syntax.Pointer.{Pointer}
use Rattle.c_tree.specs.declared.syntax.Declarator.{Declarator as CodeDeclarator}
use Rattle.c_tree.specs.declared.syntax.Expr.TheViews.{out-TypeName, out-Member, out-Enumerator}
use Rattle.c_tree.specs.declared.syntax.Member.{Member as CodeMember}
use Rattle.c_tree.specs.declared.syntax.Enumerator.{Enumerator as CodeEnumerator}
use Rattle.c_tree.specs.declared.typed.Expr.{Expr as CodeExpr}
use Rattle.c_tree.specs.declared.typed.CType.{CType}
use Rattle.c_tree.specs.Syntax as source
use Rattle.c_tree.specs.SyntaxViews.{expr_view as seen, type_name_view, spec_view, member_view, declarator_view, enumerator_view}
use Rattle.c_tree.specs.Typed.{Ty, at, pointer, void, null, integer, num}
use Rattle.c_tree.specs.TypedViews.{type_view, boxed_expr_view}
use Rattle.c_typing.specs.Faults.{Judged, typed, Gives}
use Rattle.c_typing.specs.Literals.{joined_bytes, place_of_parts}
use Rattle.c_typing.specs.Types.{behind_pointers}
use Rattle.c_typing.specs.Scope.{Context, meaning_of}
use Rattle.c_typing.specs.Constants.{constant_value}
use Rattle.c_typing.specs.Rules.{element, cast}
use Rattle.c_typing.specs.Statements.{judged_declarator, name_of}
use Rattle.c_typing.specs.Judgement.{judged, valued, judged_type, judged_specs, judged_spec, judged_members, judged_member, judged_declarators, judged_dims, names_in, names_of_member, named, spelled, prefixed, name_in, braced, braced_alone, enum_tagged, enum_braced, judged_enumerators, enumerated, judged_enumerator, aliased, whole, plain_type, enumerator_value, whole_value, place_of_specs, ruled, word}
use Rattle.c_types.specs.inner.Enumerators.{value_or}
use Rattle.type_context.specs.declared.context.Context.{Context as CodeContext}
use Rattle.type_context.specs.ContextViews.{context_view}
use Rattle.type_context.specs.inner.Outcomes.{joined}
use Rattle.type_rules.specs.declared.specifiers.Part.{Part as CodePart}
use Rattle.type_rules.specs.declared.declarators.Declared.{Declared}
use Rattle.type_rules.specs.SpecifierViews.{numbers_view, part_view, declared_view}
use Rattle.type_context.specs.declared.context.MemberType.{MemberType}
use Rattle.type_context.specs.Telling.{Tells}
use Rattle.type_context.proofs.Walks.{lone_tells}
use Rattle.type_nodes.specs.Nodes.{Finishes, types_of_members}
use Rattle.type_nodes.proofs.Rows.{behind_declarator}
use Rattle.type_nodes.proofs.Expressions as tellings
use Rattle.type_nodes.proofs.Types as types
use Rattle.c_types.proofs.Views as views

-- what is told of a tree that is seen so
as_seen : (x : Tree) (y : source.Expr) (c : Context) (n : CodeContext) (r : Result (Box CodeExpr Global) CompileFault) → seen x ≡ y → Tells boxed_expr_view r n (judged y c) → Tells boxed_expr_view r n (judged (seen x) c)
as_seen x y c n r is h = subst (λ (z : source.Expr). Tells boxed_expr_view r n (judged z c)) (sym is) h

spec_as_seen : (x : CodeSpec) (y : source.Spec) (c : Context) (n : CodeContext) (r : Result CodePart CompileFault) → spec_view x ≡ y → Tells part_view r n (judged_spec y c) → Tells part_view r n (judged_spec (spec_view x) c)
spec_as_seen x y c n r is h = subst (λ (z : source.Spec). Tells part_view r n (judged_spec z c)) (sym is) h

pub name_told : (x : Tree) (name : Name) (n : CodeContext) (r : Result (Box CodeExpr Global) CompileFault)
    → x ≡ codes.Name name
    → Gives boxed_expr_view r (named name.from (meaning_of (context_view n) name))
    → Tells boxed_expr_view r n (judged (seen x) (context_view n))
name_told x name n r is h =
    as_seen x _ (context_view n) n r (ap seen is ∙ views.name_seen name) (lone_tells boxed_expr_view r n (named name.from (meaning_of (context_view n) name)) h)

pub int_told : (x : Tree) (place : ℕ) (v : Num) (n : CodeContext) (r : Result (Box CodeExpr Global) CompileFault)
    → x ≡ codes.Int place v
    → Gives boxed_expr_view r (typed (at place (integer v.ty) (num v.ty v.value)))
    → Tells boxed_expr_view r n (judged (seen x) (context_view n))
int_told x place v n r is h =
    as_seen x _ (context_view n) n r (ap seen is ∙ views.int_seen place v) (lone_tells boxed_expr_view r n (typed (at place (integer v.ty) (num v.ty v.value))) h)

pub char_told : (x : Tree) (place : ℕ) (v : Num) (n : CodeContext) (r : Result (Box CodeExpr Global) CompileFault)
    → x ≡ codes.Char place v
    → Gives boxed_expr_view r (typed (at place (integer v.ty) (num v.ty v.value)))
    → Tells boxed_expr_view r n (judged (seen x) (context_view n))
char_told x place v n r is h =
    as_seen x _ (context_view n) n r (ap seen is ∙ views.char_seen place v) (lone_tells boxed_expr_view r n (typed (at place (integer v.ty) (num v.ty v.value))) h)

pub null_told : (x : Tree) (place : ℕ) (n : CodeContext) (r : Result (Box CodeExpr Global) CompileFault)
    → x ≡ codes.Null place
    → Gives boxed_expr_view r (typed (at place (pointer void) null))
    → Tells boxed_expr_view r n (judged (seen x) (context_view n))
null_told x place n r is h =
    as_seen x _ (context_view n) n r (ap seen is ∙ views.null_seen place) (lone_tells boxed_expr_view r n (typed (at place (pointer void) null)) h)

pub text_told : (x : Tree) (parts : Vec Span Global) (spans : List Span) (c : Context) (n : CodeContext) (r : Result (Box CodeExpr Global) CompileFault)
    → x ≡ codes.Text parts
    → spans ≡ parts.items
    → Tells boxed_expr_view r n (spelled (place_of_parts spans) (joined_bytes c.text spans) c)
    → Tells boxed_expr_view r n (judged (seen x) c)
text_told x parts spans c n r is same h =
    as_seen x (source.text parts.items) c n r (ap seen is ∙ views.text_seen parts) (subst (λ (s : List Span). Tells boxed_expr_view r n (spelled (place_of_parts s) (joined_bytes c.text s) c)) same h)

pub group_told : (x : Tree) (b : Box Tree Global) (y : Tree) (c : Context) (n : CodeContext) (r : Result (Box CodeExpr Global) CompileFault)
    → x ≡ codes.Group b
    → y ≡ b.value
    → Tells boxed_expr_view r n (judged (seen y) c)
    → Tells boxed_expr_view r n (judged (seen x) c)
group_told x b y c n r is is_y h =
    as_seen x (source.group (seen y)) c n r (ap seen is ∙ views.group_seen b ∙ ap (λ (z : Tree). source.group (seen z)) (sym is_y)) h

pub call_told : (x : Tree) (callee : Name) (args : Vec Tree Global) (all : List Tree) (c : Context) (n : CodeContext) (r : Result (Box CodeExpr Global) CompileFault)
    → x ≡ codes.Call callee args
    → all ≡ args.items
    → Tells boxed_expr_view r n (judged (source.call callee (source.exprs_of (map seen all))) c)
    → Tells boxed_expr_view r n (judged (seen x) c)
call_told x callee args all c n r is same h =
    as_seen x (source.call callee (source.exprs_of (map seen all))) c n r (ap seen is ∙ views.call_seen callee args ∙ ap (λ (l : List Tree). source.call callee (source.exprs_of (map seen l))) (sym same)) h

pub prefix_told : (x : Tree) (place : ℕ) (op : PrefixOp) (b : Box Tree Global) (y : Tree) (c : Context) (n : CodeContext) (r : Result (Box CodeExpr Global) CompileFault)
    → x ≡ codes.Prefix place op b
    → y ≡ b.value
    → Tells boxed_expr_view r n (prefixed place op (name_in (seen y)) (judged (seen y)) c)
    → Tells boxed_expr_view r n (judged (seen x) c)
prefix_told x place op b y c n r is is_y h =
    as_seen x (source.prefix place op (seen y)) c n r (ap seen is ∙ views.prefix_seen place op b ∙ ap (λ (z : Tree). source.prefix place op (seen z)) (sym is_y)) h

pub sizeof_type_told : (x : Tree) (place : ℕ) (t : CodeTypeName) (c : Context) (n : CodeContext) (r : Result (Box CodeExpr Global) CompileFault)
    → x ≡ codes.SizeofType place t
    → Tells boxed_expr_view r n (judged (source.sizeof_type place (type_name_view t)) c)
    → Tells boxed_expr_view r n (judged (seen x) c)
sizeof_type_told x place t c n r is h = as_seen x (source.sizeof_type place (type_name_view t)) c n r (ap seen is ∙ views.sizeof_type_seen place t) h

pub sizeof_expr_told : (x : Tree) (place : ℕ) (b : Box Tree Global) (y : Tree) (c : Context) (n : CodeContext) (r : Result (Box CodeExpr Global) CompileFault)
    → x ≡ codes.SizeofExpr place b
    → y ≡ b.value
    → Tells boxed_expr_view r n (judged (source.sizeof_expr place (seen y)) c)
    → Tells boxed_expr_view r n (judged (seen x) c)
sizeof_expr_told x place b y c n r is is_y h =
    as_seen x (source.sizeof_expr place (seen y)) c n r (ap seen is ∙ views.sizeof_expr_seen place b ∙ ap (λ (z : Tree). source.sizeof_expr place (seen z)) (sym is_y)) h

pub selection_told : (x : Tree) (place : ℕ) (b : Box Tree Global) (name : Name) (y : Tree) (c : Context) (n : CodeContext) (r : Result (Box CodeExpr Global) CompileFault)
    → x ≡ codes.Member place b name
    → y ≡ b.value
    → Tells boxed_expr_view r n (judged (source.member place (seen y) name) c)
    → Tells boxed_expr_view r n (judged (seen x) c)
selection_told x place b name y c n r is is_y h =
    as_seen x (source.member place (seen y) name) c n r (ap seen is ∙ views.selection_seen place b name ∙ ap (λ (z : Tree). source.member place (seen z) name) (sym is_y)) h

pub arrow_told : (x : Tree) (place : ℕ) (b : Box Tree Global) (name : Name) (y : Tree) (c : Context) (n : CodeContext) (r : Result (Box CodeExpr Global) CompileFault)
    → x ≡ codes.Arrow place b name
    → y ≡ b.value
    → Tells boxed_expr_view r n (judged (source.arrow place (seen y) name) c)
    → Tells boxed_expr_view r n (judged (seen x) c)
arrow_told x place b name y c n r is is_y h =
    as_seen x (source.arrow place (seen y) name) c n r (ap seen is ∙ views.arrow_seen place b name ∙ ap (λ (z : Tree). source.arrow place (seen z) name) (sym is_y)) h

pub cast_told : (x : Tree) (place : ℕ) (t : CodeTypeName) (b : Box Tree Global) (y : Tree) (c : Context) (n : CodeContext) (m : CodeContext) (a : Result CType CompileFault) (d : Result (Box CodeExpr Global) CompileFault) (r : Result (Box CodeExpr Global) CompileFault)
    → x ≡ codes.Cast place t b
    → y ≡ b.value
    → Tells type_view a n (judged_type (type_name_view t) c)
    → Tells boxed_expr_view d m (valued (judged (seen y)) (context_view n))
    → Finishes boxed_expr_view (joined a d) (λ p. cast place (type_view p.0) (boxed_expr_view p.1)) r
    → Tells boxed_expr_view r m (judged (seen x) c)
cast_told x place t b y c n m a d r is is_y h k f =
    as_seen x (source.cast place (type_name_view t) (seen y)) c m r (ap seen is ∙ views.cast_seen place t b ∙ ap (λ (z : Tree). source.cast place (type_name_view t) (seen z)) (sym is_y)) (tellings.cast_tells place (type_name_view t) (seen y) c n m a d r h k f)

pub index_told : (x : Tree) (place : ℕ) (b : Box Tree Global) (b2 : Box Tree Global) (y : Tree) (z : Tree) (c : Context) (n : CodeContext) (m : CodeContext) (a : Result (Box CodeExpr Global) CompileFault) (d : Result (Box CodeExpr Global) CompileFault) (r : Result (Box CodeExpr Global) CompileFault)
    → x ≡ codes.Index place b b2
    → y ≡ b.value
    → z ≡ b2.value
    → Tells boxed_expr_view a n (valued (judged (seen y)) c)
    → Tells boxed_expr_view d m (valued (judged (seen z)) (context_view n))
    → Finishes boxed_expr_view (joined a d) (λ p. element (context_view m) place (boxed_expr_view p.0) (boxed_expr_view p.1)) r
    → Tells boxed_expr_view r m (judged (seen x) c)
index_told x place b b2 y z c n m a d r is is_y is_z h k f =
    as_seen x (source.index place (seen y) (seen z)) c m r (ap seen is ∙ views.index_seen place b b2 ∙ ap (λ (w : Tree). source.index place (seen w) (seen b2.value)) (sym is_y) ∙ ap (λ (w : Tree). source.index place (seen y) (seen w)) (sym is_z)) (tellings.index_tells place (seen y) (seen z) c n m a d r h k f)

pub binary_told : (x : Tree) (place : ℕ) (op : BinaryOp) (b : Box Tree Global) (b2 : Box Tree Global) (y : Tree) (z : Tree) (c : Context) (n : CodeContext) (r : Result (Box CodeExpr Global) CompileFault)
    → x ≡ codes.Binary place op b b2
    → y ≡ b.value
    → z ≡ b2.value
    → Tells boxed_expr_view r n (judged (source.binary place op (seen y) (seen z)) c)
    → Tells boxed_expr_view r n (judged (seen x) c)
binary_told x place op b b2 y z c n r is is_y is_z h =
    as_seen x (source.binary place op (seen y) (seen z)) c n r (ap seen is ∙ views.binary_seen place op b b2 ∙ ap (λ (w : Tree). source.binary place op (seen w) (seen b2.value)) (sym is_y) ∙ ap (λ (w : Tree). source.binary place op (seen y) (seen w)) (sym is_z)) h

pub conditional_told : (x : Tree) (place : ℕ) (b : Box Tree Global) (b2 : Box Tree Global) (b3 : Box Tree Global) (y : Tree) (z : Tree) (w : Tree) (c : Context) (n : CodeContext) (r : Result (Box CodeExpr Global) CompileFault)
    → x ≡ codes.Conditional place b b2 b3
    → y ≡ b.value
    → z ≡ b2.value
    → w ≡ b3.value
    → Tells boxed_expr_view r n (judged (source.conditional place (seen y) (seen z) (seen w)) c)
    → Tells boxed_expr_view r n (judged (seen x) c)
conditional_told x place b b2 b3 y z w c n r is is_y is_z is_w h =
    let is_all = ap seen is ∙ views.conditional_seen place b b2 b3
    ∙ ap (λ (q : Tree). source.conditional place (seen q) (seen b2.value) (seen b3.value)) (sym is_y)
    ∙ ap (λ (q : Tree). source.conditional place (seen y) (seen q) (seen b3.value)) (sym is_z)
    ∙ ap (λ (q : Tree). source.conditional place (seen y) (seen z) (seen q)) (sym is_w) in
    as_seen x (source.conditional place (seen y) (seen z) (seen w)) c n r is_all h

-- ---- specifiers

pub word_told : (x : CodeSpec) (place : ℕ) (w : TypeWord) (n : CodeContext) (r : Result CodePart CompileFault)
    → x ≡ code_specs.Word place w
    → Gives part_view r (typed (word w))
    → Tells part_view r n (judged_spec (spec_view x) (context_view n))
word_told x place w n r is h =
    spec_as_seen x (source.word place w) (context_view n) n r (ap spec_view is ∙ views.word_seen place w) (lone_tells part_view r n (typed (word w)) h)

pub struct_told : (x : CodeSpec) (place : ℕ) (t : Name) (c : Context) (n : CodeContext) (r : Result CodePart CompileFault)
    → x ≡ code_specs.Struct place t
    → Tells part_view r n (judged_spec (source.struct place t) c)
    → Tells part_view r n (judged_spec (spec_view x) c)
struct_told x place t c n r is h =
    spec_as_seen x (source.struct place t) c n r (ap spec_view is ∙ views.struct_seen place t) h

pub body_told : (x : CodeSpec) (place : ℕ) (t : Name) (v : Vec CodeMember Global) (all : List CodeMember) (c : Context) (n : CodeContext) (r : Result CodePart CompileFault)
    → x ≡ code_specs.StructBody place t v
    → all ≡ v.items
    → Tells part_view r n (braced t (judged_members [] (source.members_row (map member_view all))) c)
    → Tells part_view r n (judged_spec (spec_view x) c)
body_told x place t v all c n r is same h =
    spec_as_seen x (source.struct_body place t (source.members_row (map member_view all))) c n r (ap spec_view is ∙ views.body_seen place t v ∙ ap (λ (l : List CodeMember). source.struct_body place t (source.members_row (map member_view l))) (sym same)) h

pub unnamed_struct_told : (x : CodeSpec) (place : ℕ) (v : Vec CodeMember Global) (all : List CodeMember) (c : Context) (n : CodeContext) (r : Result CodePart CompileFault)
    → x ≡ code_specs.UnnamedStruct place v
    → all ≡ v.items
    → Tells part_view r n (braced_alone place (judged_members [] (source.members_row (map member_view all))) c)
    → Tells part_view r n (judged_spec (spec_view x) c)
unnamed_struct_told x place v all c n r is same h =
    spec_as_seen x (source.unnamed_struct place (source.members_row (map member_view all))) c n r (ap spec_view is ∙ views.unnamed_struct_seen place v ∙ ap (λ (l : List CodeMember). source.unnamed_struct place (source.members_row (map member_view l))) (sym same)) h

pub enum_told : (x : CodeSpec) (place : ℕ) (t : Name) (n : CodeContext) (r : Result CodePart CompileFault)
    → x ≡ code_specs.Enum place t
    → Gives part_view r (enum_tagged (context_view n) t)
    → Tells part_view r n (judged_spec (spec_view x) (context_view n))
enum_told x place t n r is h =
    spec_as_seen x (source.enum place t) (context_view n) n r (ap spec_view is ∙ views.enum_seen place t) (lone_tells part_view r n (enum_tagged (context_view n) t) h)

pub enum_body_told : (x : CodeSpec) (place : ℕ) (t : Name) (v : Vec CodeEnumerator Global) (all : List CodeEnumerator) (c : Context) (n : CodeContext) (r : Result CodePart CompileFault)
    → x ≡ code_specs.EnumBody place t v
    → all ≡ v.items
    → Tells part_view r n (enum_braced t (judged_enumerators (pos 0) (source.enumerators_of (map enumerator_view all))) c)
    → Tells part_view r n (judged_spec (spec_view x) c)
enum_body_told x place t v all c n r is same h =
    spec_as_seen x (source.enum_body place t (source.enumerators_of (map enumerator_view all))) c n r (ap spec_view is ∙ views.enum_body_seen place t v ∙ ap (λ (l : List CodeEnumerator). source.enum_body place t (source.enumerators_of (map enumerator_view l))) (sym same)) h

pub unnamed_enum_told : (x : CodeSpec) (place : ℕ) (v : Vec CodeEnumerator Global) (all : List CodeEnumerator) (c : Context) (n : CodeContext) (r : Result CodePart CompileFault)
    → x ≡ code_specs.UnnamedEnum place v
    → all ≡ v.items
    → Tells part_view r n (ruled (judged_enumerators (pos 0) (source.enumerators_of (map enumerator_view all))) (λ d u. typed (whole (integer int))) c)
    → Tells part_view r n (judged_spec (spec_view x) c)
unnamed_enum_told x place v all c n r is same h =
    spec_as_seen x (source.unnamed_enum place (source.enumerators_of (map enumerator_view all))) c n r (ap spec_view is ∙ views.unnamed_enum_seen place v ∙ ap (λ (l : List CodeEnumerator). source.unnamed_enum place (source.enumerators_of (map enumerator_view l))) (sym same)) h

pub alias_told : (x : CodeSpec) (name : Name) (n : CodeContext) (r : Result CodePart CompileFault)
    → x ≡ code_specs.Alias name
    → Gives part_view r (aliased name.from (meaning_of (context_view n) name))
    → Tells part_view r n (judged_spec (spec_view x) (context_view n))
alias_told x name n r is h =
    spec_as_seen x (source.alias name) (context_view n) n r (ap spec_view is ∙ views.alias_seen name) (lone_tells part_view r n (aliased name.from (meaning_of (context_view n) name)) h)

-- ---- enumerators

-- an enumerator, by its value
enumerator_by : (next : ℤ) (e : source.Enumerator) (name : Name) (value : Option source.Expr) (comma : Bool) (c : Context) → e ≡ source.enumerator_of name value comma
    → judged_enumerator next e c ≡ enumerated name (value_or next e) c
enumerator_by next e name None comma c is = subst (λ x. judged_enumerator next x c ≡ enumerated name (value_or next x) c) (sym is) refl
enumerator_by next e name (Some value) comma c is = subst (λ x. judged_enumerator next x c ≡ enumerated name (value_or next x) c) (sym is) refl

pub enumerator_told : (next : ℤ) (e : CodeEnumerator) (c : Context) (n : CodeContext) (r : Result ℤ CompileFault)
    → Tells (λ (z : ℤ). z) r n (enumerated (out-Enumerator e).name (value_or next (enumerator_view e)) c) → Tells (λ (z : ℤ). z) r n (judged_enumerator next (enumerator_view e) c)
enumerator_told next e c n r h =
    subst (λ p. Tells (λ (z : ℤ). z) r n p) (sym (enumerator_by next (enumerator_view e) (out-Enumerator e).name (option_map seen (out-Enumerator e).value) (out-Enumerator e).comma c (views.enumerator_seen e))) h

pub given_told : (next : ℤ) (e : CodeEnumerator) (value : Tree) (c : Context) (n : CodeContext) (r : Result ℤ CompileFault)
    → (out-Enumerator e).value ≡ Some value
    → Tells (λ (z : ℤ). z) r n (ruled (valued (judged (seen value))) (λ d x. enumerator_value (out-Enumerator e).name.from (whole_value (constant_value d (seen value) x))) c)
    → Tells (λ (z : ℤ). z) r n (value_or next (enumerator_view e) c)
given_told next e value c n r is h =
    subst (λ (x : source.Enumerator). Tells (λ (z : ℤ). z) r n (value_or next x c)) (sym (views.enumerator_seen e ∙ ap (λ (o : Option Tree). source.enumerator_of (out-Enumerator e).name (option_map seen o) (out-Enumerator e).comma) is)) h

pub next_told : (next : ℤ) (e : CodeEnumerator) (n : CodeContext) (r : Result ℤ CompileFault)
    → (out-Enumerator e).value ≡ None
    → Gives (λ (z : ℤ). z) r (enumerator_value (out-Enumerator e).name.from (Some next))
    → Tells (λ (z : ℤ). z) r n (value_or next (enumerator_view e) (context_view n))
next_told next e n r is h =
    subst (λ (x : source.Enumerator). Tells (λ (z : ℤ). z) r n (value_or next x (context_view n))) (sym (views.enumerator_seen e ∙ ap (λ (o : Option Tree). source.enumerator_of (out-Enumerator e).name (option_map seen o) (out-Enumerator e).comma) is))
    (lone_tells (λ (z : ℤ). z) r n (enumerator_value (out-Enumerator e).name.from (Some next)) h)

-- ---- the names of types, and members

pub type_name_told : (t : CodeTypeName) (specs : List CodeSpec) (pointers : List Pointer) (place : ℕ) (c : Context) (n : CodeContext) (a r : Result CType CompileFault)
    → specs ≡ (out-TypeName t).specs.items → pointers ≡ (out-TypeName t).pointers.items → place ≡ place_of_specs (source.specs_of (map spec_view specs))
    → Tells type_view a n (judged_specs (source.specs_of (map spec_view specs)) c) → Finishes type_view a (λ s. plain_type place (behind_pointers (type_view s) pointers)) r
    → Tells type_view r n (judged_type (type_name_view t) c)
type_name_told t specs pointers place c n a r is_specs is_pointers is_place h f =
    let is = views.type_name_seen t
    ∙ ap (λ (l : List CodeSpec). source.type_name (source.specs_of (map spec_view l)) (out-TypeName t).pointers.items) (sym is_specs)
    ∙ ap (λ (l : List Pointer). source.type_name (source.specs_of (map spec_view specs)) l) (sym is_pointers) in
    subst (λ (s : source.TypeName). Tells type_view r n (judged_type s c)) (sym is)
    (types.type_name_tells (source.specs_of (map spec_view specs)) pointers c n a r h
    (subst (λ (p : ℕ). Finishes type_view a (λ s. plain_type p (behind_pointers (type_view s) pointers)) r) is_place f))

pub member_told : (before : List Name) (d : CodeMember) (specs : List CodeSpec) (ds : List CodeDeclarator) (c : Context) (n m : CodeContext)
    (a : Result CType CompileFault) (b r : Result (Vec MemberType Global) CompileFault)
    → specs ≡ (out-Member d).specs.items → ds ≡ (out-Member d).declarators.items
    → Tells type_view a n (judged_specs (source.specs_of (map spec_view specs)) c)
    → ((j : Judged Ty) → Gives type_view a j → Tells types_of_members b m (judged_declarators before j (source.declarators_of (map declarator_view ds)) (context_view n)))
    → Finishes types_of_members (joined a b) (λ p. typed (types_of_members p.1)) r
    → Tells types_of_members r m (judged_member before (member_view d) c)
member_told before d specs ds c n m a b r is_specs is_ds h k f =
    let is = views.member_seen d
    ∙ ap (λ (l : List CodeSpec). source.members_of (source.specs_of (map spec_view l)) (source.declarators_of (map declarator_view (out-Member d).declarators.items))) (sym is_specs)
    ∙ ap (λ (l : List CodeDeclarator). source.members_of (source.specs_of (map spec_view specs)) (source.declarators_of (map declarator_view l))) (sym is_ds) in
    subst (λ (s : source.Member). Tells types_of_members r m (judged_member before s c)) (sym is)
    (types.member_tells before (source.specs_of (map spec_view specs)) (source.declarators_of (map declarator_view ds)) c n m a b r h (k (judged_specs (source.specs_of (map spec_view specs)) c).0 h.gives) f)

-- the names that a declaration of members declares
pub member_names : (d : CodeMember) (ds : List CodeDeclarator) → ds ≡ (out-Member d).declarators.items → names_in (source.declarators_of (map declarator_view ds)) ≡ names_of_member (member_view d)
member_names d ds is = ap (λ (l : List CodeDeclarator). names_in (source.declarators_of (map declarator_view l))) is ∙ sym (ap names_of_member (views.member_seen d))

-- a declarator, which declares nothing yet
pub declarator_told : (d : CodeDeclarator) (dims : List Tree) (c : Context) (n : CodeContext) (s : Result (Vec ℕ Global) CompileFault) (r : Result Declared CompileFault)
    → dims ≡ d.dims.items → Tells numbers_view s n (judged_dims (source.exprs_of (map seen dims)) c)
    → Finishes declared_view s (λ v. typed (record { name = d.name; pointers = d.pointers.items; sizes = numbers_view v })) r
    → Tells declared_view r n (judged_declarator (declarator_view d) c)
declarator_told d dims c n s r is h f =
    let e = source.declarator d.pointers.items d.name (source.exprs_of (map seen dims)) in
    let is_e : declarator_view d ≡ e = views.declarator_seen d ∙ ap (λ (l : List Tree). source.declarator d.pointers.items d.name (source.exprs_of (map seen l))) (sym is) in
    subst (λ (x : source.Declarator). Tells declared_view r n (judged_declarator x c)) (sym is_e)
    (types.declared_tells d.name d.pointers.items (judged_dims (source.exprs_of (map seen dims))) c n s r h f)

-- the names behind a declarator
pub declarator_behind : (before : List Name) (d : CodeDeclarator) → before ++ d.name ∷ [] ≡ behind_declarator before (declarator_view d)
declarator_behind before d = ap (λ (n : Name). before ++ n ∷ []) (sym (ap name_of (views.declarator_seen d)))
