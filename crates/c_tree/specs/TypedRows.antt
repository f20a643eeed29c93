-- Worked rows: the layout of a struct and the bytes of formats, put to the test.
use Rattle.std.specs.Prelude.{◌≡◌, ℕ, pos, negsuc, false, List, [], ◌∷◌, ◌++◌, codes, Some}
use Rattle.ak_words.specs.declared.int_type.IntType.{IntType}
use Rattle.ak_words.specs.declared.operation.Op.{Op}
use Rattle.ak_words.specs.declared.operation.Op.TheVariants.{Add, Mul}
use Rattle.ak_words.specs.IntType.{char, int, long, unsigned_long}
use Rattle.c_tree.specs.Typed.{Ty, void, integer, atomic, pointer, array, structure, Layout, Piece, bytes, signed, unsigned, hexadecimal, character, text}
use Rattle.c_tree.specs.Typed.{Expr, at, num, null, global, local, deref, address_of, convert, binary, lib, atomic_compare, no_exprs, more_exprs, at_stmt, assign, update, declare, return_, no_stmts, more_stmts, Stmt, Func, Typed}
use Rattle.c_tree.specs.TypedForm.{IsTyped, Inside, in_function, IsWell, IsLayout, IsWellFormed}
use Rattle.c_tree.specs.TypedLayout.{size_in, align_in, laid_out}
use Rattle.c_tree.specs.TypedPrinting.{parts}

-- struct node { struct node *next; char *key; unsigned long len; int owner; };
abbrev pub node : Layout
node = laid_out [] (pointer (structure 0) ∷ pointer (integer char) ∷ integer unsigned_long ∷ integer int ∷ [])

-- struct pair { char tag; struct node of[2]; char last; };
abbrev pub pair : Layout
pair = laid_out (node ∷ []) (integer char ∷ array (structure 0) 2 ∷ integer char ∷ [])

-- what is printed where texts stand for themselves
abbrev pub joined : List (List ℕ) → List ℕ
joined [] = []
joined (bs ∷ rest) = bs ++ joined rest

-- what these pieces print of the numbers -1, -1, 4294967295, -1 and 321, and the text "of"
abbrev pub printed : List Piece → List ℕ
printed pieces = joined (parts (λ bs. bs) (λ bs. bs) pieces (negsuc 0 ∷ negsuc 0 ∷ pos 4294967295 ∷ negsuc 0 ∷ pos 321 ∷ []) (codes "of" ∷ []))

-- int main(void){int x=41;return e+1;}
abbrev pub func : (e : Expr) → Func
func e = record {
  params = 0;
  locals = record { ty = integer int; in_memory = false } ∷ [];
  result = integer int;
  body = more_stmts (at_stmt 15 (declare 0 (Some (at 21 (integer int) (num int (pos 41))))))
      (more_stmts (at_stmt 24 (return_ (Some (at 32 (integer int) (binary Add e (at 33 (integer int) (num int (pos 1)))))))) no_stmts);
}

-- the program of that function alone, with this expression in it
abbrev pub program : (e : Expr) → Typed
program e = record { structs = []; globals = []; literals = []; funcs = func e ∷ []; main = 0 }

-- in a function of a program that has these structs, and no global, function or local
abbrev pub among : List Layout → Inside
among structs = record { context = record { structs = structs; globals = []; literals = []; funcs = []; locals = [] }; params = 0; result = void }

-- *p, where p is a null pointer to this type
abbrev pub pointed : Ty → Expr
pointed t = at 3 t (deref (at 4 (pointer t) null))

-- *p = *q, where p and q are pointers to the first struct
abbrev pub copied : Stmt
copied = at_stmt 2 (assign (pointed (structure 0)) (pointed (structure 0)))

-- 1
abbrev pub one : Expr
one = at 5 (integer int) (num int (pos 1))

-- *p op= 1, where p is a null pointer to an atomic number of this type
abbrev pub updated : (t : IntType) → Op → Stmt
updated t op = at_stmt 2 (update (pointed (atomic t)) op one)

-- atomic_compare_exchange_strong(p, q, 1), where p is a null pointer to this type, and q one to int
abbrev pub exchanged : Ty → Expr
exchanged t = at 1 (integer int) (lib atomic_compare (more_exprs (at 2 (pointer t) null) (more_exprs (at 3 (pointer (integer int)) null) (more_exprs one no_exprs))))

-- a struct that was named and isn't declared
abbrev pub named : Layout
named = laid_out [] []

-- a struct of one member, of this type, with the numbers that it would have if 8 bytes at an alignment of 8 were its member's
abbrev pub of_eight : Ty → Layout
of_eight t = record { offsets = 0 ∷ []; types = t ∷ []; size = 8; align = 8 }

-- struct s { struct s inside; };
abbrev pub inside_itself : List Layout
inside_itself = of_eight (structure 0) ∷ []

-- struct s { struct t inside[1]; }; struct t { struct s inside; };
abbrev pub in_a_circle : List Layout
in_a_circle = of_eight (array (structure 1) 1) ∷ of_eight (structure 0) ∷ []

-- the rows: what each layout, each print and each small program comes to
pub record TypedRowsHold : Type 0 where
  -- the padding between members, and behind the last one
  pub node_offsets : node.offsets ≡ 0 ∷ 8 ∷ 16 ∷ 24 ∷ []
  pub node_size : node.size ≡ 32
  pub pair_offsets : pair.offsets ≡ 0 ∷ 8 ∷ 72 ∷ []
  pub pair_size : size_in (node ∷ pair ∷ []) (array (structure 1) 3) ≡ 240
  pub pair_align : align_in (node ∷ pair ∷ []) (array (structure 1) 3) ≡ 8
  -- an atomic number lies as the number
  pub atomic_offsets : (laid_out [] (integer char ∷ atomic long ∷ atomic int ∷ [])).offsets ≡ 0 ∷ 8 ∷ 16 ∷ []
  -- printf("%d %u%d%lx%s%c", -1, -1, 4294967295, -1, "of", 321), with numbers of other types than the conversions'
  pub format_is : printed (signed 32 ∷ bytes (codes " ") ∷ unsigned 32 ∷ signed 32 ∷ hexadecimal 64 ∷ text ∷ character ∷ [])
      ≡ codes "-1 4294967295-1ffffffffffffffffofA"
  -- x+1 is well formed; the local behind the last one isn't, nor a global where there is none, nor a char that wasn't promoted
  pub accepted : IsWellFormed (program (at 31 (integer int) (local 0)))
  pub no_such_local : IsWellFormed (program (at 31 (integer int) (local 1))) → ⊥
  pub no_such_global : IsWellFormed (program (at 31 (integer int) (global 0))) → ⊥
  pub not_promoted : IsWellFormed (program (at 31 (integer char) (num char (pos 7)))) → ⊥
  -- *p of a pointer to void, or to a struct that isn't declared, has its address; of a pointer to an array, its elements have a size
  pub of_void : IsTyped (among []).context (at 2 (pointer void) (address_of (pointed void)))
  pub of_named : IsTyped (among (named ∷ [])).context (at 2 (pointer (structure 0)) (address_of (pointed (structure 0))))
  pub of_array : IsTyped (among (node ∷ [])).context (pointed (array (structure 0) 2))
  pub of_no_array : IsTyped (among (named ∷ [])).context (pointed (array (structure 0) 2)) → ⊥
  -- a struct is copied once it is declared
  pub copy : IsWell (among (node ∷ [])) in_function copied
  pub no_copy : IsWell (among (named ∷ [])) in_function copied → ⊥
  -- an atomic int is read as an int and as no long; 1 is stored there, or added, but not multiplied; nothing is added to an atomic char;
  -- and no int is exchanged that isn't atomic
  pub read : IsTyped (among []).context (at 2 (integer int) (convert (pointed (atomic int))))
  pub no_wider_read : IsTyped (among []).context (at 2 (integer long) (convert (pointed (atomic int)))) → ⊥
  pub set : IsWell (among []) in_function (at_stmt 2 (assign (pointed (atomic int)) one))
  pub added : IsWell (among []) in_function (updated int Add)
  pub no_multiplied : IsWell (among []) in_function (updated int Mul) → ⊥
  pub no_char : IsWell (among []) in_function (updated char Add) → ⊥
  pub exchange : IsTyped (among []).context (exchanged (atomic int))
  pub no_exchange : IsTyped (among []).context (exchanged (integer int)) → ⊥
  -- what is laid out with the size that it itself says it has, and is no struct of a program, since it lies in itself
  pub laid_in_itself : IsLayout inside_itself (of_eight (structure 0))
  pub not_in_itself : (t : Typed) → t.structs ≡ inside_itself → IsWellFormed t → ⊥
  pub not_in_a_circle : (t : Typed) → t.structs ≡ in_a_circle → IsWellFormed t → ⊥
