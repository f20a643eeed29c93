-- Small pieces of C, worked out by hand, and what they are typed to. The trees are those of the texts.
use Rattle.std.specs.Prelude.{◌≡◌, ℕ, pos, Bool, true, false, List, [], ◌∷◌, codes, Some, None}
use Rattle.ak_words.specs.declared.operation.Op.TheVariants as ops
use Rattle.ak_words.specs.IntType.{char, int, long, unsigned_long}
use Rattle.ak_words.specs.Num.{num}
use Rattle.c_lex.specs.declared.refusal.Kind.TheVariants as kinds
use Rattle.c_tree.specs.declared.syntax.Name.{Name}
use Rattle.c_tree.specs.declared.syntax.Span.{Span}
use Rattle.c_tree.specs.declared.syntax.BinaryOp.TheVariants as binaries
use Rattle.c_tree.specs.declared.syntax.Pointer.TheVariants as pointers
use Rattle.c_tree.specs.declared.syntax.TypeWord.{TypeWord}
use Rattle.c_tree.specs.declared.syntax.TypeWord.TheVariants as words
use Rattle.c_tree.specs.Syntax as source
use Rattle.c_tree.specs.Typed as tree
use Rattle.c_typing.specs.Faults.{Judged, typed, first, refuse, ◌>>=◌}
use Rattle.c_typing.specs.Formats.{pieces_of}
use Rattle.c_typing.specs.Judgement.{combined, dimension, judged, object_declared, specified, word}
use Rattle.c_typing.specs.Literals.{joined_bytes}
use Rattle.c_typing.specs.Numbering.{func_of}
use Rattle.c_typing.specs.Scope.{Context, at_start, local_name}

-- where a name stands, from its first byte to behind its last
abbrev pub name : ℕ → ℕ → Name
name from to = record { from = from; to = to }

-- where a string literal stands
abbrev pub span : ℕ → ℕ → Span
span from to = record { from = from; to = to }

-- the type int
abbrev pub int_type : tree.Ty
int_type = tree.integer int

-- a number that is typed, at its place
abbrev pub number_at : (place n : ℕ) → tree.Expr
number_at place n = tree.at place int_type (tree.num int (pos n))

-- an expression at the beginning of a text
abbrev pub judged_in : List ℕ → source.Expr → Judged tree.Expr
judged_in text e = (judged e (at_start text)).0

-- sizeof of a type that one specifier names
abbrev pub size_of : (place : ℕ) → source.Spec → source.Expr
size_of place s = source.sizeof_type place (source.type_name (source.more_specs s source.no_specs) [])

-- the number that a sizeof at place 0 is
abbrev pub size : ℕ → Judged tree.Expr
size n = typed (tree.at 0 (tree.integer unsigned_long) (tree.num unsigned_long (pos n)))

-- ab + cd
abbrev pub two_names : source.Expr
two_names = source.binary 3 (binaries.Value ops.Add) (source.name (name 0 2)) (source.name (name 5 7))

-- 1 + sizeof(char)
abbrev pub a_sum : source.Expr
a_sum = source.binary 2 (binaries.Value ops.Add) (source.int 0 (num int (pos 1))) (size_of 4 (source.word 11 words.Char))

-- sizeof of "ab" "c"
abbrev pub size_of_literals : source.Expr
size_of_literals = source.sizeof_expr 0 (source.text (span 0 4 ∷ span 5 8 ∷ []))

-- a member of this type
abbrev pub member : (place : ℕ) → TypeWord → Name → source.Member
member place w n = source.members_of (source.more_specs (source.word place w) source.no_specs) (source.more_declarators (source.declarator [] n source.no_exprs) source.no_declarators)

-- struct s { int n; char c; }
abbrev pub a_struct : List ℕ
a_struct = codes "struct s { int n; char c; }"

-- sizeof of struct s, without its members
abbrev pub size_by_tag : source.Expr
size_by_tag = size_of 0 (source.struct 0 (name 7 8))

-- and with them
abbrev pub size_by_members : source.Expr
size_by_members =
    size_of 0 (source.struct_body 0 (name 7 8) (source.more_members (member 11 words.Int (name 15 16)) (source.more_members (member 18 words.Char (name 23 24)) source.no_members)))

-- the type of NAME in const char *NAME[3], at place 12
abbrev pub three_names : Judged tree.Ty
three_names =
    specified 0 (word words.Const ∷ word words.Char ∷ [])
    >>= λ t. object_declared (at_start []) t (record { name = name 12 17; pointers = pointers.Star ∷ []; sizes = 3 ∷ [] })

-- the size of an array by the number between the brackets, at place 7
abbrev pub dimension_of : ℕ → Judged ℕ
dimension_of n = dimension (source.int 7 (num int (pos n))) (at_start []) (number_at 7 n)

-- int f(int a, int b){int c; .. &b ..}: a parameter of which the address is taken
abbrev pub an_addressed_parameter : tree.Func
an_addressed_parameter =
    func_of (record { place = 10; ty = int_type } ∷ record { place = 17; ty = int_type } ∷ []) (int_type ∷ int_type ∷ int_type ∷ []) (1 ∷ []) int_type
    (tree.more_stmts (tree.at_stmt 24 (tree.declare 2 None)) tree.no_stmts)

-- a local of type int
abbrev pub local : (in_memory : Bool) → tree.Local
local in_memory = record { ty = int_type; in_memory = in_memory }

-- it has a further local in memory, which begins with the parameter, and c is number 3
abbrev pub with_further_local : tree.Func
with_further_local = record {
  params = 2;
  locals = local false ∷ local false ∷ local true ∷ local false ∷ [];
  result = int_type;
  body = tree.more_stmts (tree.at_stmt 17 (tree.declare 2 (Some (tree.at 17 int_type (tree.local 1))))) (tree.more_stmts (tree.at_stmt 24 (tree.declare 3 None)) tree.no_stmts);
}

-- a text in a body with char c, long l and int *p
abbrev pub in_body : List ℕ → Context
in_body text = record (at_start text) { inner = (codes "c", local_name 0 (tree.integer char)) ∷ (codes "l", local_name 1 (tree.integer long)) ∷ (codes "p", local_name 2 (tree.pointer int_type)) ∷ [] }

-- an expression of such a text
abbrev pub judged_there : List ℕ → source.Expr → Judged tree.Expr
judged_there text e = (judged e (in_body text)).0

-- the three locals, typed, each at its place
abbrev pub c_at : (place : ℕ) → tree.Expr
c_at place = tree.at place (tree.integer char) (tree.local 0)

-- a long
abbrev pub l_at : (place : ℕ) → tree.Expr
l_at place = tree.at place (tree.integer long) (tree.local 1)

-- a pointer to an int
abbrev pub p_at : (place : ℕ) → tree.Expr
p_at place = tree.at place (tree.pointer int_type) (tree.local 2)

-- c + 1
abbrev pub a_promotion : source.Expr
a_promotion = source.binary 2 (binaries.Value ops.Add) (source.name (name 0 1)) (source.int 4 (num int (pos 1)))

-- c << l
abbrev pub a_shift : source.Expr
a_shift = source.binary 2 (binaries.Value ops.Shl) (source.name (name 0 1)) (source.name (name 5 6))

-- c ? c : l
abbrev pub a_choice : source.Expr
a_choice = source.conditional 2 (source.name (name 0 1)) (source.name (name 4 5)) (source.name (name 8 9))

-- p - c
abbrev pub pointer_less_number : source.Expr
pointer_less_number = source.binary 2 (binaries.Value ops.Sub) (source.name (name 0 1)) (source.name (name 4 5))

-- what the pieces are typed to
pub record RowsHold : Type 0 where
  -- the least place is named: of two names that aren't declared the left one
  pub two_names : first (judged_in (codes "ab + cd") two_names) ≡ Some (record { place = 0; kind = kinds.UnknownName })
  -- an int and an unsigned long have the common type unsigned long (C11 6.3.1.8 p1)
  pub a_sum : (judged_in (codes "1 + sizeof(char)") a_sum >>= λ e. typed (tree.type_of e)) ≡ typed (tree.integer unsigned_long)
  -- a literal has an element for each of its bytes and for the zero behind them (C11 6.4.5 p6)
  pub literals : judged_in (codes "\"ab\" \"c\"") size_of_literals ≡ size 4
  pub bytes_of_literals : joined_bytes (codes "\"a\\n\" \"b\"") (span 0 5 ∷ span 6 9 ∷ []) ≡ 97 ∷ 10 ∷ 98 ∷ 0 ∷ []
  -- a struct is declared behind its closing brace, and known there to what follows (C11 6.7.2.3)
  pub before_braces : judged_in a_struct size_by_tag ≡ refuse 0 kinds.BadSize
  pub braces : judged_in a_struct size_by_members ≡ size 8
  pub behind_braces : (judged size_by_tag (judged size_by_members (at_start a_struct)).1).0 ≡ size 8
  -- a format is bytes and conversions
  pub pieces : pieces_of (joined_bytes (codes "\"n = %d%%, %lx\"") (span 0 15 ∷ []))
      ≡ Some (tree.bytes (codes "n = ") ∷ tree.signed 32 ∷ tree.bytes (codes "%, ") ∷ tree.hexadecimal 64 ∷ [])
  -- both operands of && and of || are conditions
  pub both : combined (at_start []) 3 binaries.AndAnd (number_at 7 1) (number_at 7 0) ≡ typed (tree.at 3 int_type (tree.and_also (number_at 7 1) (number_at 7 0)))
  pub either : combined (at_start []) 3 binaries.OrOr (number_at 7 1) (number_at 7 0) ≡ typed (tree.at 3 int_type (tree.or_else (number_at 7 1) (number_at 7 0)))
  -- what stands before a name is nearer to it than what stands before that
  pub three_names : three_names ≡ typed (tree.array (tree.pointer (tree.integer char)) 3)
  -- the size of an array is a constant from 1 on
  pub dimension_of_0 : dimension_of 0 ≡ refuse 7 kinds.BadSize
  pub dimension_of_1 : dimension_of 1 ≡ typed 1
  pub dimension_of_12 : dimension_of 12 ≡ typed 12
  -- a parameter of which the address is taken has a further local in memory
  pub an_addressed_parameter : an_addressed_parameter ≡ with_further_local
  -- a char is promoted to int (C11 6.3.1.1 p2)
  pub a_promotion : judged_there (codes "c + 1") a_promotion
      ≡ typed (tree.at 2 int_type (tree.binary ops.Add (tree.at 0 int_type (tree.convert (c_at 0))) (number_at 4 1)))
  -- a shift has the type of its left operand, promoted, and each operand is promoted by itself (C11 6.5.7 p3)
  pub a_shift : judged_there (codes "c << l") a_shift
      ≡ typed (tree.at 2 int_type (tree.binary ops.Shl (tree.at 0 int_type (tree.convert (c_at 0))) (l_at 5)))
  -- both numbers behind a condition have their common type (C11 6.5.15 p5)
  pub a_choice : judged_there (codes "c ? c : l") a_choice
      ≡ typed (tree.at 2 (tree.integer long) (tree.choose (c_at 0) (tree.at 4 (tree.integer long) (tree.convert (c_at 4))) (l_at 8)))
  -- a pointer less a number is a node of its own, and the number stays as it is
  pub pointer_less_number : judged_there (codes "p - c") pointer_less_number ≡ typed (tree.at 2 (tree.pointer int_type) (tree.pointer_sub (p_at 0) (c_at 4)))
