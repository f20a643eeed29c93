-- The views of the code's nodes, written out.
use Rattle.std.proofs.Common.{◌≡◌, ℕ, Bool, Option, Some, None, map, refl, sym, ap, ◌∙◌}
use Rattle.std.specs.Prelude.{Vec, Box}
use Rattle.std.specs.Option.{option_map}
use Rattle.std.specs.declared.alloc.Global.{Global}
use Rattle.ak_words.specs.declared.number.Num.{Num}
use Rattle.c_tree.specs.declared.syntax.Name.{Name}
use Rattle.c_tree.specs.declared.syntax.Span.{Span}
use Rattle.c_tree.specs.declared.syntax.PrefixOp.{PrefixOp}
use Rattle.c_tree.specs.declared.syntax.BinaryOp.{BinaryOp}
use Rattle.c_tree.specs.declared.syntax.TypeWord.{TypeWord}
use Rattle.c_tree.specs.declared.syntax.Expr.{Expr}
use Rattle.c_tree.specs.declared.syntax.Expr.TheFolds.{fold-roll-Expr, fold-roll-Spec, fold_out-Member, fold_out-TypeName, fold_out-Declarator, fold_out-Enumerator}
use Rattle.c_tree.specs.declared.syntax.Expr.TheOpen.{Expr-F, Spec-F}
use Rattle.c_tree.specs.declared.syntax.Expr.TheViews.{out-Member, out-TypeName, out-Enumerator}
use Rattle.c_tree.specs.declared.syntax.Expr.TheVariants as codes
use Rattle.c_tree.specs.declared.syntax.TypeName.{TypeName}
use Rattle.c_tree.specs.declared.syntax.Member.{Member}
use Rattle.c_tree.specs.declared.syntax.Declarator.{Declarator}
use Rattle.c_tree.specs.declared.syntax.Enumerator.{Enumerator, map-Enumerator}
use Rattle.c_tree.specs.declared.syntax.Spec.{Spec}
use Rattle.c_tree.specs.declared.syntax.Spec.TheVariants as specs
use Rattle.c_tree.specs.Syntax as source
use Rattle.c_tree.specs.SyntaxViews.{expr_view, type_name_view, spec_view, declarator_view, enumerator_view, member_view, expr_layer, spec_layer, declarator_layer, enumerator_layer, member_layer, type_name_layer}

-- ---- expressions

pub name_seen : (n : Name) → expr_view (codes.Name n) ≡ source.name n
name_seen n =
    ap expr_view (sym (codes.rolls-Name n))
    ∙ fold-roll-Expr source.Expr source.Spec source.Declarator source.Enumerator source.Member source.TypeName expr_layer spec_layer declarator_layer enumerator_layer member_layer type_name_layer (Expr-F.Name n)

pub int_seen : (place : ℕ) (n : Num) → expr_view (codes.Int place n) ≡ source.int place n
int_seen place n =
    ap expr_view (sym (codes.rolls-Int place n))
    ∙ fold-roll-Expr source.Expr source.Spec source.Declarator source.Enumerator source.Member source.TypeName expr_layer spec_layer declarator_layer enumerator_layer member_layer type_name_layer (Expr-F.Int place n)

pub char_seen : (place : ℕ) (n : Num) → expr_view (codes.Char place n) ≡ source.char place n
char_seen place n =
    ap expr_view (sym (codes.rolls-Char place n))
    ∙ fold-roll-Expr source.Expr source.Spec source.Declarator source.Enumerator source.Member source.TypeName expr_layer spec_layer declarator_layer enumerator_layer member_layer type_name_layer (Expr-F.Char place n)

pub text_seen : (parts : Vec Span Global) → expr_view (codes.Text parts) ≡ source.text parts.items
text_seen parts =
    ap expr_view (sym (codes.rolls-Text parts))
    ∙ fold-roll-Expr source.Expr source.Spec source.Declarator source.Enumerator source.Member source.TypeName expr_layer spec_layer declarator_layer enumerator_layer member_layer type_name_layer (Expr-F.Text parts)

pub null_seen : (place : ℕ) → expr_view (codes.Null place) ≡ source.null place
null_seen place =
    ap expr_view (sym (codes.rolls-Null place))
    ∙ fold-roll-Expr source.Expr source.Spec source.Declarator source.Enumerator source.Member source.TypeName expr_layer spec_layer declarator_layer enumerator_layer member_layer type_name_layer (Expr-F.Null place)

pub group_seen : (e : Box Expr Global) → expr_view (codes.Group e) ≡ source.group (expr_view e.value)
group_seen e =
    ap expr_view (sym (codes.rolls-Group e))
    ∙ fold-roll-Expr source.Expr source.Spec source.Declarator source.Enumerator source.Member source.TypeName expr_layer spec_layer declarator_layer enumerator_layer member_layer type_name_layer (Expr-F.Group e)

pub call_seen : (callee : Name) (args : Vec Expr Global) → expr_view (codes.Call callee args) ≡ source.call callee (source.exprs_of (map expr_view args.items))
call_seen callee args =
    ap expr_view (sym (codes.rolls-Call callee args))
    ∙ fold-roll-Expr source.Expr source.Spec source.Declarator source.Enumerator source.Member source.TypeName expr_layer spec_layer declarator_layer enumerator_layer member_layer type_name_layer (Expr-F.Call callee args)

pub prefix_seen : (place : ℕ) (op : PrefixOp) (e : Box Expr Global) → expr_view (codes.Prefix place op e) ≡ source.prefix place op (expr_view e.value)
prefix_seen place op e =
    ap expr_view (sym (codes.rolls-Prefix place op e))
    ∙ fold-roll-Expr source.Expr source.Spec source.Declarator source.Enumerator source.Member source.TypeName expr_layer spec_layer declarator_layer enumerator_layer member_layer type_name_layer (Expr-F.Prefix place op e)

pub sizeof_type_seen : (place : ℕ) (t : TypeName) → expr_view (codes.SizeofType place t) ≡ source.sizeof_type place (type_name_view t)
sizeof_type_seen place t =
    ap expr_view (sym (codes.rolls-SizeofType place t))
    ∙ fold-roll-Expr source.Expr source.Spec source.Declarator source.Enumerator source.Member source.TypeName expr_layer spec_layer declarator_layer enumerator_layer member_layer type_name_layer (Expr-F.SizeofType place t)

pub sizeof_expr_seen : (place : ℕ) (e : Box Expr Global) → expr_view (codes.SizeofExpr place e) ≡ source.sizeof_expr place (expr_view e.value)
sizeof_expr_seen place e =
    ap expr_view (sym (codes.rolls-SizeofExpr place e))
    ∙ fold-roll-Expr source.Expr source.Spec source.Declarator source.Enumerator source.Member source.TypeName expr_layer spec_layer declarator_layer enumerator_layer member_layer type_name_layer (Expr-F.SizeofExpr place e)

pub cast_seen : (place : ℕ) (t : TypeName) (e : Box Expr Global) → expr_view (codes.Cast place t e) ≡ source.cast place (type_name_view t) (expr_view e.value)
cast_seen place t e =
    ap expr_view (sym (codes.rolls-Cast place t e))
    ∙ fold-roll-Expr source.Expr source.Spec source.Declarator source.Enumerator source.Member source.TypeName expr_layer spec_layer declarator_layer enumerator_layer member_layer type_name_layer (Expr-F.Cast place t e)

pub index_seen : (place : ℕ) (e i : Box Expr Global) → expr_view (codes.Index place e i) ≡ source.index place (expr_view e.value) (expr_view i.value)
index_seen place e i =
    ap expr_view (sym (codes.rolls-Index place e i))
    ∙ fold-roll-Expr source.Expr source.Spec source.Declarator source.Enumerator source.Member source.TypeName expr_layer spec_layer declarator_layer enumerator_layer member_layer type_name_layer (Expr-F.Index place e i)

pub selection_seen : (place : ℕ) (e : Box Expr Global) (m : Name) → expr_view (codes.Member place e m) ≡ source.member place (expr_view e.value) m
selection_seen place e m =
    ap expr_view (sym (codes.rolls-Member place e m))
    ∙ fold-roll-Expr source.Expr source.Spec source.Declarator source.Enumerator source.Member source.TypeName expr_layer spec_layer declarator_layer enumerator_layer member_layer type_name_layer (Expr-F.Member place e m)

pub arrow_seen : (place : ℕ) (e : Box Expr Global) (m : Name) → expr_view (codes.Arrow place e m) ≡ source.arrow place (expr_view e.value) m
arrow_seen place e m =
    ap expr_view (sym (codes.rolls-Arrow place e m))
    ∙ fold-roll-Expr source.Expr source.Spec source.Declarator source.Enumerator source.Member source.TypeName expr_layer spec_layer declarator_layer enumerator_layer member_layer type_name_layer (Expr-F.Arrow place e m)

pub binary_seen : (place : ℕ) (op : BinaryOp) (e f : Box Expr Global) → expr_view (codes.Binary place op e f) ≡ source.binary place op (expr_view e.value) (expr_view f.value)
binary_seen place op e f =
    ap expr_view (sym (codes.rolls-Binary place op e f))
    ∙ fold-roll-Expr source.Expr source.Spec source.Declarator source.Enumerator source.Member source.TypeName expr_layer spec_layer declarator_layer enumerator_layer member_layer type_name_layer (Expr-F.Binary place op e f)

pub conditional_seen : (place : ℕ) (e f g : Box Expr Global) → expr_view (codes.Conditional place e f g) ≡ source.conditional place (expr_view e.value) (expr_view f.value) (expr_view g.value)
conditional_seen place e f g =
    ap expr_view (sym (codes.rolls-Conditional place e f g))
    ∙ fold-roll-Expr source.Expr source.Spec source.Declarator source.Enumerator source.Member source.TypeName expr_layer spec_layer declarator_layer enumerator_layer member_layer type_name_layer (Expr-F.Conditional place e f g)

-- ---- types

pub word_seen : (place : ℕ) (w : TypeWord) → spec_view (specs.Word place w) ≡ source.word place w
word_seen place w =
    ap spec_view (sym (specs.rolls-Word place w))
    ∙ fold-roll-Spec source.Expr source.Spec source.Declarator source.Enumerator source.Member source.TypeName expr_layer spec_layer declarator_layer enumerator_layer member_layer type_name_layer (Spec-F.Word place w)

pub struct_seen : (place : ℕ) (t : Name) → spec_view (specs.Struct place t) ≡ source.struct place t
struct_seen place t =
    ap spec_view (sym (specs.rolls-Struct place t))
    ∙ fold-roll-Spec source.Expr source.Spec source.Declarator source.Enumerator source.Member source.TypeName expr_layer spec_layer declarator_layer enumerator_layer member_layer type_name_layer (Spec-F.Struct place t)

pub body_seen : (place : ℕ) (t : Name) (members : Vec Member Global) → spec_view (specs.StructBody place t members) ≡ source.struct_body place t (source.members_row (map member_view members.items))
body_seen place t members =
    ap spec_view (sym (specs.rolls-StructBody place t members))
    ∙ fold-roll-Spec source.Expr source.Spec source.Declarator source.Enumerator source.Member source.TypeName expr_layer spec_layer declarator_layer enumerator_layer member_layer type_name_layer (Spec-F.StructBody place t members)

pub unnamed_struct_seen : (place : ℕ) (members : Vec Member Global) → spec_view (specs.UnnamedStruct place members) ≡ source.unnamed_struct place (source.members_row (map member_view members.items))
unnamed_struct_seen place members =
    ap spec_view (sym (specs.rolls-UnnamedStruct place members))
    ∙ fold-roll-Spec source.Expr source.Spec source.Declarator source.Enumerator source.Member source.TypeName expr_layer spec_layer declarator_layer enumerator_layer member_layer type_name_layer (Spec-F.UnnamedStruct place members)

pub enum_seen : (place : ℕ) (t : Name) → spec_view (specs.Enum place t) ≡ source.enum place t
enum_seen place t =
    ap spec_view (sym (specs.rolls-Enum place t))
    ∙ fold-roll-Spec source.Expr source.Spec source.Declarator source.Enumerator source.Member source.TypeName expr_layer spec_layer declarator_layer enumerator_layer member_layer type_name_layer (Spec-F.Enum place t)

pub enum_body_seen : (place : ℕ) (t : Name) (list : Vec Enumerator Global) → spec_view (specs.EnumBody place t list) ≡ source.enum_body place t (source.enumerators_of (map enumerator_view list.items))
enum_body_seen place t list =
    ap spec_view (sym (specs.rolls-EnumBody place t list))
    ∙ fold-roll-Spec source.Expr source.Spec source.Declarator source.Enumerator source.Member source.TypeName expr_layer spec_layer declarator_layer enumerator_layer member_layer type_name_layer (Spec-F.EnumBody place t list)

pub unnamed_enum_seen : (place : ℕ) (list : Vec Enumerator Global) → spec_view (specs.UnnamedEnum place list) ≡ source.unnamed_enum place (source.enumerators_of (map enumerator_view list.items))
unnamed_enum_seen place list =
    ap spec_view (sym (specs.rolls-UnnamedEnum place list))
    ∙ fold-roll-Spec source.Expr source.Spec source.Declarator source.Enumerator source.Member source.TypeName expr_layer spec_layer declarator_layer enumerator_layer member_layer type_name_layer (Spec-F.UnnamedEnum place list)

pub alias_seen : (n : Name) → spec_view (specs.Alias n) ≡ source.alias n
alias_seen n =
    ap spec_view (sym (specs.rolls-Alias n))
    ∙ fold-roll-Spec source.Expr source.Spec source.Declarator source.Enumerator source.Member source.TypeName expr_layer spec_layer declarator_layer enumerator_layer member_layer type_name_layer (Spec-F.Alias n)

-- its layer, where the option in it is a value
enumerator_layered : (n : Name) (o : Option Expr) (comma : Bool)
    → enumerator_layer (map-Enumerator Expr Spec Declarator Enumerator Member TypeName source.Expr source.Spec source.Declarator source.Enumerator source.Member source.TypeName expr_view spec_view declarator_view enumerator_view member_view type_name_view (record { name = n; value = o; comma = comma }))
    ≡ source.enumerator_of n (option_map expr_view o) comma
enumerator_layered n None comma = refl
enumerator_layered n (Some e) comma = refl

pub enumerator_seen : (e : Enumerator) → enumerator_view e ≡ source.enumerator_of (out-Enumerator e).name (option_map expr_view (out-Enumerator e).value) (out-Enumerator e).comma
enumerator_seen e =
    fold_out-Enumerator source.Expr source.Spec source.Declarator source.Enumerator source.Member source.TypeName expr_layer spec_layer declarator_layer enumerator_layer member_layer type_name_layer e
    ∙ enumerator_layered (out-Enumerator e).name (out-Enumerator e).value (out-Enumerator e).comma

pub member_seen : (m : Member) → member_view m ≡ source.members_of (source.specs_of (map spec_view (out-Member m).specs.items)) (source.declarators_of (map declarator_view (out-Member m).declarators.items))
member_seen m = fold_out-Member source.Expr source.Spec source.Declarator source.Enumerator source.Member source.TypeName expr_layer spec_layer declarator_layer enumerator_layer member_layer type_name_layer m

pub type_name_seen : (t : TypeName) → type_name_view t ≡ source.type_name (source.specs_of (map spec_view (out-TypeName t).specs.items)) (out-TypeName t).pointers.items
type_name_seen t = fold_out-TypeName source.Expr source.Spec source.Declarator source.Enumerator source.Member source.TypeName expr_layer spec_layer declarator_layer enumerator_layer member_layer type_name_layer t

pub declarator_seen : (d : Declarator) → declarator_view d ≡ source.declarator d.pointers.items d.name (source.exprs_of (map expr_view d.dims.items))
declarator_seen d = fold_out-Declarator source.Expr source.Spec source.Declarator source.Enumerator source.Member source.TypeName expr_layer spec_layer declarator_layer enumerator_layer member_layer type_name_layer d
