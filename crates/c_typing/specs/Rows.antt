-- Small programs, accepted or refused, worked out by hand: the definitions, put to the test. The trees are those of the texts.
use Rattle.std.specs.Prelude.{◌≡◌, ℕ, true, false, pos, List, [], ◌∷◌, codes, Option, Some, None}
use Rattle.ak_words.specs.declared.operation.Op.TheVariants as ops
use Rattle.ak_words.specs.IntType.{int}
use Rattle.ak_words.specs.Num.{num}
use Rattle.c_lex.specs.declared.refusal.Kind.{Kind}
use Rattle.c_lex.specs.declared.refusal.Kind.TheVariants as kinds
use Rattle.c_lex.specs.declared.refusal.Refusal.{Refusal}
use Rattle.c_tree.specs.declared.syntax.Name.{Name}
use Rattle.c_tree.specs.declared.syntax.Span.{Span}
use Rattle.c_tree.specs.declared.syntax.TypeWord.TheVariants as words
use Rattle.c_tree.specs.declared.syntax.Pointer.TheVariants as pointers
use Rattle.c_tree.specs.declared.syntax.PrefixOp.TheVariants as prefixes
use Rattle.c_tree.specs.declared.syntax.BinaryOp.TheVariants as binaries
use Rattle.c_tree.specs.declared.syntax.AssignOp.TheVariants as assigns
use Rattle.c_tree.specs.declared.syntax.StepOp.TheVariants as steps
use Rattle.c_tree.specs.Syntax as source
use Rattle.c_tree.specs.Typed.{Stmt, at_stmt, block, no_stmts, more_stmts}
use Rattle.c_typing.specs.Faults.{first}
use Rattle.c_typing.specs.Statements.{headed}
use Rattle.c_typing.specs.Programs.{judged_file}

-- where a name, or a literal, stands
abbrev name : ℕ → ℕ → Name
name from to = record { from = from; to = to }

-- where a string literal stands, from its first byte to behind its last
abbrev span : ℕ → ℕ → Span
span from to = record { from = from; to = to }

-- the first fault of a text with its tree
abbrev refusal_of : List ℕ → source.File → Option Refusal
refusal_of text f = first (judged_file text f)

-- one fault, of this kind at this place
abbrev at : ℕ → Kind → Option Refusal
at place kind = Some (record { place = place; kind = kind })

-- int main(void){return b;}
abbrev unknown_name_tree : source.File
unknown_name_tree = record { externals = ((source.external_of [] ((source.word 0 words.Int) ∷ []) (source.function [] (name 4 8) ((record { specs = ((source.word 9 words.Void) ∷ []); pointers = []; name = None; dims = [] }) ∷ []) (Some (record { place = 14; items = ((source.return 15 (Some (source.name (name 22 23)))) ∷ []) })))) ∷ []) }

-- int main(void){int a;int a;return 0;}
abbrev double_name_tree : source.File
double_name_tree = record { externals = ((source.external_of [] ((source.word 0 words.Int) ∷ []) (source.function [] (name 4 8) ((record { specs = ((source.word 9 words.Void) ∷ []); pointers = []; name = None; dims = [] }) ∷ []) (Some (record { place = 14; items = ((source.declare (record { specs = ((source.word 15 words.Int) ∷ []); declarators = ((record { declarator = (source.declarator [] (name 19 20) source.no_exprs); value = None }) ∷ []) })) ∷ (source.declare (record { specs = ((source.word 21 words.Int) ∷ []); declarators = ((record { declarator = (source.declarator [] (name 25 26) source.no_exprs); value = None }) ∷ []) })) ∷ (source.return 27 (Some (source.int 34 (num int (pos 0))))) ∷ []) })))) ∷ []) }

-- int main(void){int a=1;{char *a=NULL;a=0;}return a;}
abbrev shadowing_tree : source.File
shadowing_tree = record { externals = ((source.external_of [] ((source.word 0 words.Int) ∷ []) (source.function [] (name 4 8) ((record { specs = ((source.word 9 words.Void) ∷ []); pointers = []; name = None; dims = [] }) ∷ []) (Some (record { place = 14; items = ((source.declare (record { specs = ((source.word 15 words.Int) ∷ []); declarators = ((record { declarator = (source.declarator [] (name 19 20) source.no_exprs); value = (Some (source.int 21 (num int (pos 1)))) }) ∷ []) })) ∷ (source.block 23 (source.more_stmts (source.declare (record { specs = ((source.word 24 words.Char) ∷ []); declarators = ((record { declarator = (source.declarator (pointers.Star ∷ []) (name 30 31) source.no_exprs); value = (Some (source.null 32)) }) ∷ []) })) (source.more_stmts (source.simple (source.assign 38 assigns.Plain (source.name (name 37 38)) (source.int 39 (num int (pos 0))))) source.no_stmts))) ∷ (source.return 42 (Some (source.name (name 49 50)))) ∷ []) })))) ∷ []) }

-- int f(int a){int a;return 0;}int main(void){return 0;}
abbrev parameter_and_body_tree : source.File
parameter_and_body_tree = record { externals = ((source.external_of [] ((source.word 0 words.Int) ∷ []) (source.function [] (name 4 5) ((record { specs = ((source.word 6 words.Int) ∷ []); pointers = []; name = (Some (name 10 11)); dims = [] }) ∷ []) (Some (record { place = 12; items = ((source.declare (record { specs = ((source.word 13 words.Int) ∷ []); declarators = ((record { declarator = (source.declarator [] (name 17 18) source.no_exprs); value = None }) ∷ []) })) ∷ (source.return 19 (Some (source.int 26 (num int (pos 0))))) ∷ []) })))) ∷ (source.external_of [] ((source.word 29 words.Int) ∷ []) (source.function [] (name 33 37) ((record { specs = ((source.word 38 words.Void) ∷ []); pointers = []; name = None; dims = [] }) ∷ []) (Some (record { place = 43; items = ((source.return 44 (Some (source.int 51 (num int (pos 0))))) ∷ []) })))) ∷ []) }

-- int main(void){int a=sizeof a;return a;}
abbrev name_in_its_initialiser_tree : source.File
name_in_its_initialiser_tree = record { externals = ((source.external_of [] ((source.word 0 words.Int) ∷ []) (source.function [] (name 4 8) ((record { specs = ((source.word 9 words.Void) ∷ []); pointers = []; name = None; dims = [] }) ∷ []) (Some (record { place = 14; items = ((source.declare (record { specs = ((source.word 15 words.Int) ∷ []); declarators = ((record { declarator = (source.declarator [] (name 19 20) source.no_exprs); value = (Some (source.sizeof_expr 21 (source.name (name 28 29)))) }) ∷ []) })) ∷ (source.return 30 (Some (source.name (name 37 38)))) ∷ []) })))) ∷ []) }

-- int f(void){return 1;}
abbrev no_main_tree : source.File
no_main_tree = record { externals = ((source.external_of [] ((source.word 0 words.Int) ∷ []) (source.function [] (name 4 5) ((record { specs = ((source.word 6 words.Void) ∷ []); pointers = []; name = None; dims = [] }) ∷ []) (Some (record { place = 11; items = ((source.return 12 (Some (source.int 19 (num int (pos 1))))) ∷ []) })))) ∷ []) }

-- int malloc;int main(void){return 0;}
abbrev library_name_tree : source.File
library_name_tree = record { externals = ((source.external_of [] ((source.word 0 words.Int) ∷ []) (source.variables ((record { declarator = (source.declarator [] (name 4 10) source.no_exprs); value = None }) ∷ []))) ∷ (source.external_of [] ((source.word 11 words.Int) ∷ []) (source.function [] (name 15 19) ((record { specs = ((source.word 20 words.Void) ∷ []); pointers = []; name = None; dims = [] }) ∷ []) (Some (record { place = 25; items = ((source.return 26 (Some (source.int 33 (num int (pos 0))))) ∷ []) })))) ∷ []) }

-- int main(void){return printf;}
abbrev library_value_tree : source.File
library_value_tree = record { externals = ((source.external_of [] ((source.word 0 words.Int) ∷ []) (source.function [] (name 4 8) ((record { specs = ((source.word 9 words.Void) ∷ []); pointers = []; name = None; dims = [] }) ∷ []) (Some (record { place = 14; items = ((source.return 15 (Some (source.name (name 22 28)))) ∷ []) })))) ∷ []) }

-- int main(void){int *p=5;return 0;}
abbrev pointer_to_int_tree : source.File
pointer_to_int_tree = record { externals = ((source.external_of [] ((source.word 0 words.Int) ∷ []) (source.function [] (name 4 8) ((record { specs = ((source.word 9 words.Void) ∷ []); pointers = []; name = None; dims = [] }) ∷ []) (Some (record { place = 14; items = ((source.declare (record { specs = ((source.word 15 words.Int) ∷ []); declarators = ((record { declarator = (source.declarator (pointers.Star ∷ []) (name 20 21) source.no_exprs); value = (Some (source.int 22 (num int (pos 5)))) }) ∷ []) })) ∷ (source.return 24 (Some (source.int 31 (num int (pos 0))))) ∷ []) })))) ∷ []) }

-- int main(void){int *p=malloc(4);void *q=p;p=q;return p==q;}
abbrev void_pointers_tree : source.File
void_pointers_tree = record { externals = ((source.external_of [] ((source.word 0 words.Int) ∷ []) (source.function [] (name 4 8) ((record { specs = ((source.word 9 words.Void) ∷ []); pointers = []; name = None; dims = [] }) ∷ []) (Some (record { place = 14; items = ((source.declare (record { specs = ((source.word 15 words.Int) ∷ []); declarators = ((record { declarator = (source.declarator (pointers.Star ∷ []) (name 20 21) source.no_exprs); value = (Some (source.call (name 22 28) (source.more_exprs (source.int 29 (num int (pos 4))) source.no_exprs))) }) ∷ []) })) ∷ (source.declare (record { specs = ((source.word 32 words.Void) ∷ []); declarators = ((record { declarator = (source.declarator (pointers.Star ∷ []) (name 38 39) source.no_exprs); value = (Some (source.name (name 40 41))) }) ∷ []) })) ∷ (source.simple (source.assign 43 assigns.Plain (source.name (name 42 43)) (source.name (name 44 45)))) ∷ (source.return 46 (Some (source.binary 54 (binaries.Value ops.Eq) (source.name (name 53 54)) (source.name (name 56 57))))) ∷ []) })))) ∷ []) }

-- int main(void){return (int)NULL;}
abbrev number_to_pointer_tree : source.File
number_to_pointer_tree = record { externals = ((source.external_of [] ((source.word 0 words.Int) ∷ []) (source.function [] (name 4 8) ((record { specs = ((source.word 9 words.Void) ∷ []); pointers = []; name = None; dims = [] }) ∷ []) (Some (record { place = 14; items = ((source.return 15 (Some (source.cast 22 (source.type_name (source.more_specs (source.word 23 words.Int) source.no_specs) []) (source.null 27)))) ∷ []) })))) ∷ []) }

-- int main(void){1=2;return 0;}
abbrev no_lvalue_tree : source.File
no_lvalue_tree = record { externals = ((source.external_of [] ((source.word 0 words.Int) ∷ []) (source.function [] (name 4 8) ((record { specs = ((source.word 9 words.Void) ∷ []); pointers = []; name = None; dims = [] }) ∷ []) (Some (record { place = 14; items = ((source.simple (source.assign 16 assigns.Plain (source.int 15 (num int (pos 1))) (source.int 17 (num int (pos 2))))) ∷ (source.return 19 (Some (source.int 26 (num int (pos 0))))) ∷ []) })))) ∷ []) }

-- int main(void){int a[2];int b[2];a=b;return 0;}
abbrev array_assigned_tree : source.File
array_assigned_tree = record { externals = ((source.external_of [] ((source.word 0 words.Int) ∷ []) (source.function [] (name 4 8) ((record { specs = ((source.word 9 words.Void) ∷ []); pointers = []; name = None; dims = [] }) ∷ []) (Some (record { place = 14; items = ((source.declare (record { specs = ((source.word 15 words.Int) ∷ []); declarators = ((record { declarator = (source.declarator [] (name 19 20) (source.more_exprs (source.int 21 (num int (pos 2))) source.no_exprs)); value = None }) ∷ []) })) ∷ (source.declare (record { specs = ((source.word 24 words.Int) ∷ []); declarators = ((record { declarator = (source.declarator [] (name 28 29) (source.more_exprs (source.int 30 (num int (pos 2))) source.no_exprs)); value = None }) ∷ []) })) ∷ (source.simple (source.assign 34 assigns.Plain (source.name (name 33 34)) (source.name (name 35 36)))) ∷ (source.return 37 (Some (source.int 44 (num int (pos 0))))) ∷ []) })))) ∷ []) }

-- int main(void){int a[0];return 0;}
abbrev array_of_none_tree : source.File
array_of_none_tree = record { externals = ((source.external_of [] ((source.word 0 words.Int) ∷ []) (source.function [] (name 4 8) ((record { specs = ((source.word 9 words.Void) ∷ []); pointers = []; name = None; dims = [] }) ∷ []) (Some (record { place = 14; items = ((source.declare (record { specs = ((source.word 15 words.Int) ∷ []); declarators = ((record { declarator = (source.declarator [] (name 19 20) (source.more_exprs (source.int 21 (num int (pos 0))) source.no_exprs)); value = None }) ∷ []) })) ∷ (source.return 24 (Some (source.int 31 (num int (pos 0))))) ∷ []) })))) ∷ []) }

-- int a[16777216];int main(void){return 0;}
abbrev array_of_many_tree : source.File
array_of_many_tree = record { externals = ((source.external_of [] ((source.word 0 words.Int) ∷ []) (source.variables ((record { declarator = (source.declarator [] (name 4 5) (source.more_exprs (source.int 6 (num int (pos 16777216))) source.no_exprs)); value = None }) ∷ []))) ∷ (source.external_of [] ((source.word 16 words.Int) ∷ []) (source.function [] (name 20 24) ((record { specs = ((source.word 25 words.Void) ∷ []); pointers = []; name = None; dims = [] }) ∷ []) (Some (record { place = 30; items = ((source.return 31 (Some (source.int 38 (num int (pos 0))))) ∷ []) })))) ∷ []) }

-- void x;int main(void){return 0;}
abbrev void_object_tree : source.File
void_object_tree = record { externals = ((source.external_of [] ((source.word 0 words.Void) ∷ []) (source.variables ((record { declarator = (source.declarator [] (name 5 6) source.no_exprs); value = None }) ∷ []))) ∷ (source.external_of [] ((source.word 7 words.Int) ∷ []) (source.function [] (name 11 15) ((record { specs = ((source.word 16 words.Void) ∷ []); pointers = []; name = None; dims = [] }) ∷ []) (Some (record { place = 21; items = ((source.return 22 (Some (source.int 29 (num int (pos 0))))) ∷ []) })))) ∷ []) }

-- struct s{struct s *next;int n;};int main(void){struct s a;a.next=&a;return a.next->n;}
abbrev own_struct_tree : source.File
own_struct_tree = record { externals = ((source.external_of [] ((source.struct_body 0 (name 7 8) (source.more_members (source.members_of (source.more_specs (source.struct 9 (name 16 17)) source.no_specs) (source.more_declarators (source.declarator (pointers.Star ∷ []) (name 19 23) source.no_exprs) source.no_declarators)) (source.more_members (source.members_of (source.more_specs (source.word 24 words.Int) source.no_specs) (source.more_declarators (source.declarator [] (name 28 29) source.no_exprs) source.no_declarators)) source.no_members))) ∷ []) (source.nothing)) ∷ (source.external_of [] ((source.word 32 words.Int) ∷ []) (source.function [] (name 36 40) ((record { specs = ((source.word 41 words.Void) ∷ []); pointers = []; name = None; dims = [] }) ∷ []) (Some (record { place = 46; items = ((source.declare (record { specs = ((source.struct 47 (name 54 55)) ∷ []); declarators = ((record { declarator = (source.declarator [] (name 56 57) source.no_exprs); value = None }) ∷ []) })) ∷ (source.simple (source.assign 64 assigns.Plain (source.member 59 (source.name (name 58 59)) (name 60 64)) (source.prefix 65 prefixes.AddressOf (source.name (name 66 67))))) ∷ (source.return 68 (Some (source.arrow 81 (source.member 76 (source.name (name 75 76)) (name 77 81)) (name 83 84)))) ∷ []) })))) ∷ []) }

-- struct s{struct s in;};int main(void){return 0;}
abbrev struct_in_itself_tree : source.File
struct_in_itself_tree = record { externals = ((source.external_of [] ((source.struct_body 0 (name 7 8) (source.more_members (source.members_of (source.more_specs (source.struct 9 (name 16 17)) source.no_specs) (source.more_declarators (source.declarator [] (name 18 20) source.no_exprs) source.no_declarators)) source.no_members)) ∷ []) (source.nothing)) ∷ (source.external_of [] ((source.word 23 words.Int) ∷ []) (source.function [] (name 27 31) ((record { specs = ((source.word 32 words.Void) ∷ []); pointers = []; name = None; dims = [] }) ∷ []) (Some (record { place = 37; items = ((source.return 38 (Some (source.int 45 (num int (pos 0))))) ∷ []) })))) ∷ []) }

-- struct s{int n;};int main(void){struct s a;return a.m;}
abbrev no_member_tree : source.File
no_member_tree = record { externals = ((source.external_of [] ((source.struct_body 0 (name 7 8) (source.more_members (source.members_of (source.more_specs (source.word 9 words.Int) source.no_specs) (source.more_declarators (source.declarator [] (name 13 14) source.no_exprs) source.no_declarators)) source.no_members)) ∷ []) (source.nothing)) ∷ (source.external_of [] ((source.word 17 words.Int) ∷ []) (source.function [] (name 21 25) ((record { specs = ((source.word 26 words.Void) ∷ []); pointers = []; name = None; dims = [] }) ∷ []) (Some (record { place = 31; items = ((source.declare (record { specs = ((source.struct 32 (name 39 40)) ∷ []); declarators = ((record { declarator = (source.declarator [] (name 41 42) source.no_exprs); value = None }) ∷ []) })) ∷ (source.return 43 (Some (source.member 51 (source.name (name 50 51)) (name 52 53)))) ∷ []) })))) ∷ []) }

-- int main(void){printf("%d %s%%\n",1,"ab");return 0;}
abbrev format_tree : source.File
format_tree = record { externals = ((source.external_of [] ((source.word 0 words.Int) ∷ []) (source.function [] (name 4 8) ((record { specs = ((source.word 9 words.Void) ∷ []); pointers = []; name = None; dims = [] }) ∷ []) (Some (record { place = 14; items = ((source.simple (source.eval (source.call (name 15 21) (source.more_exprs (source.text (span 22 33 ∷ [])) (source.more_exprs (source.int 34 (num int (pos 1))) (source.more_exprs (source.text (span 36 40 ∷ [])) source.no_exprs)))))) ∷ (source.return 42 (Some (source.int 49 (num int (pos 0))))) ∷ []) })))) ∷ []) }

-- int main(void){printf("%ld",1);return 0;}
abbrev format_mismatch_tree : source.File
format_mismatch_tree = record { externals = ((source.external_of [] ((source.word 0 words.Int) ∷ []) (source.function [] (name 4 8) ((record { specs = ((source.word 9 words.Void) ∷ []); pointers = []; name = None; dims = [] }) ∷ []) (Some (record { place = 14; items = ((source.simple (source.eval (source.call (name 15 21) (source.more_exprs (source.text (span 22 27 ∷ [])) (source.more_exprs (source.int 28 (num int (pos 1))) source.no_exprs))))) ∷ (source.return 31 (Some (source.int 38 (num int (pos 0))))) ∷ []) })))) ∷ []) }

-- int main(void){printf("%f",1);return 0;}
abbrev format_unknown_tree : source.File
format_unknown_tree = record { externals = ((source.external_of [] ((source.word 0 words.Int) ∷ []) (source.function [] (name 4 8) ((record { specs = ((source.word 9 words.Void) ∷ []); pointers = []; name = None; dims = [] }) ∷ []) (Some (record { place = 14; items = ((source.simple (source.eval (source.call (name 15 21) (source.more_exprs (source.text (span 22 26 ∷ [])) (source.more_exprs (source.int 27 (num int (pos 1))) source.no_exprs))))) ∷ (source.return 30 (Some (source.int 37 (num int (pos 0))))) ∷ []) })))) ∷ []) }

-- int main(void){int *p=x;int q=p;return 0;}
abbrev least_place_tree : source.File
least_place_tree = record { externals = ((source.external_of [] ((source.word 0 words.Int) ∷ []) (source.function [] (name 4 8) ((record { specs = ((source.word 9 words.Void) ∷ []); pointers = []; name = None; dims = [] }) ∷ []) (Some (record { place = 14; items = ((source.declare (record { specs = ((source.word 15 words.Int) ∷ []); declarators = ((record { declarator = (source.declarator (pointers.Star ∷ []) (name 20 21) source.no_exprs); value = (Some (source.name (name 22 23))) }) ∷ []) })) ∷ (source.declare (record { specs = ((source.word 24 words.Int) ∷ []); declarators = ((record { declarator = (source.declarator [] (name 28 29) source.no_exprs); value = (Some (source.name (name 30 31))) }) ∷ []) })) ∷ (source.return 32 (Some (source.int 39 (num int (pos 0))))) ∷ []) })))) ∷ []) }

-- int main(void){int *p=-x;return 0;}
abbrev below_an_untyped_part_tree : source.File
below_an_untyped_part_tree = record { externals = ((source.external_of [] ((source.word 0 words.Int) ∷ []) (source.function [] (name 4 8) ((record { specs = ((source.word 9 words.Void) ∷ []); pointers = []; name = None; dims = [] }) ∷ []) (Some (record { place = 14; items = ((source.declare (record { specs = ((source.word 15 words.Int) ∷ []); declarators = ((record { declarator = (source.declarator (pointers.Star ∷ []) (name 20 21) source.no_exprs); value = (Some (source.prefix 22 prefixes.Minus (source.name (name 23 24)))) }) ∷ []) })) ∷ (source.return 25 (Some (source.int 32 (num int (pos 0))))) ∷ []) })))) ∷ []) }

-- int main(void){break;}
abbrev break_outside_tree : source.File
break_outside_tree = record { externals = ((source.external_of [] ((source.word 0 words.Int) ∷ []) (source.function [] (name 4 8) ((record { specs = ((source.word 9 words.Void) ∷ []); pointers = []; name = None; dims = [] }) ∷ []) (Some (record { place = 14; items = ((source.break 15) ∷ []) })))) ∷ []) }

-- struct s{int n;};int f(struct s a){return 0;}int main(void){return 0;}
abbrev struct_parameter_tree : source.File
struct_parameter_tree = record { externals = ((source.external_of [] ((source.struct_body 0 (name 7 8) (source.more_members (source.members_of (source.more_specs (source.word 9 words.Int) source.no_specs) (source.more_declarators (source.declarator [] (name 13 14) source.no_exprs) source.no_declarators)) source.no_members)) ∷ []) (source.nothing)) ∷ (source.external_of [] ((source.word 17 words.Int) ∷ []) (source.function [] (name 21 22) ((record { specs = ((source.struct 23 (name 30 31)) ∷ []); pointers = []; name = (Some (name 32 33)); dims = [] }) ∷ []) (Some (record { place = 34; items = ((source.return 35 (Some (source.int 42 (num int (pos 0))))) ∷ []) })))) ∷ (source.external_of [] ((source.word 45 words.Int) ∷ []) (source.function [] (name 49 53) ((record { specs = ((source.word 54 words.Void) ∷ []); pointers = []; name = None; dims = [] }) ∷ []) (Some (record { place = 59; items = ((source.return 60 (Some (source.int 67 (num int (pos 0))))) ∷ []) })))) ∷ []) }

-- int f(int x);int main(void){return 0;}
abbrev declared_only_tree : source.File
declared_only_tree = record { externals = ((source.external_of [] ((source.word 0 words.Int) ∷ []) (source.function [] (name 4 5) ((record { specs = ((source.word 6 words.Int) ∷ []); pointers = []; name = (Some (name 10 11)); dims = [] }) ∷ []) None)) ∷ (source.external_of [] ((source.word 13 words.Int) ∷ []) (source.function [] (name 17 21) ((record { specs = ((source.word 22 words.Void) ∷ []); pointers = []; name = None; dims = [] }) ∷ []) (Some (record { place = 27; items = ((source.return 28 (Some (source.int 35 (num int (pos 0))))) ∷ []) })))) ∷ []) }

-- int f(int x);int main(void){return f(1);}int f(int y){return y;}
abbrev declared_before_tree : source.File
declared_before_tree = record { externals = ((source.external_of [] ((source.word 0 words.Int) ∷ []) (source.function [] (name 4 5) ((record { specs = ((source.word 6 words.Int) ∷ []); pointers = []; name = (Some (name 10 11)); dims = [] }) ∷ []) None)) ∷ (source.external_of [] ((source.word 13 words.Int) ∷ []) (source.function [] (name 17 21) ((record { specs = ((source.word 22 words.Void) ∷ []); pointers = []; name = None; dims = [] }) ∷ []) (Some (record { place = 27; items = ((source.return 28 (Some (source.call (name 35 36) (source.more_exprs (source.int 37 (num int (pos 1))) source.no_exprs)))) ∷ []) })))) ∷ (source.external_of [] ((source.word 41 words.Int) ∷ []) (source.function [] (name 45 46) ((record { specs = ((source.word 47 words.Int) ∷ []); pointers = []; name = (Some (name 51 52)); dims = [] }) ∷ []) (Some (record { place = 53; items = ((source.return 54 (Some (source.name (name 61 62)))) ∷ []) })))) ∷ []) }

-- mtx_t m;int main(void){mtx_init(&m,1);return 0;}
abbrev mutex_kind_tree : source.File
mutex_kind_tree = record { externals = ((source.external_of [] ((source.word 0 words.MtxT) ∷ []) (source.variables ((record { declarator = (source.declarator [] (name 6 7) source.no_exprs); value = None }) ∷ []))) ∷ (source.external_of [] ((source.word 8 words.Int) ∷ []) (source.function [] (name 12 16) ((record { specs = ((source.word 17 words.Void) ∷ []); pointers = []; name = None; dims = [] }) ∷ []) (Some (record { place = 22; items = ((source.simple (source.eval (source.call (name 23 31) (source.more_exprs (source.prefix 32 prefixes.AddressOf (source.name (name 33 34))) (source.more_exprs (source.int 35 (num int (pos 1))) source.no_exprs))))) ∷ (source.return 38 (Some (source.int 45 (num int (pos 0))))) ∷ []) })))) ∷ []) }

-- int f(struct s a[][2]){return 0;}int main(void){return 0;}
abbrev elements_without_size_tree : source.File
elements_without_size_tree = record { externals = ((source.external_of [] ((source.word 0 words.Int) ∷ []) (source.function [] (name 4 5) ((record { specs = ((source.struct 6 (name 13 14)) ∷ []); pointers = []; name = (Some (name 15 16)); dims = ((record { place = 16; size = None }) ∷ (record { place = 18; size = (Some (source.int 19 (num int (pos 2)))) }) ∷ []) }) ∷ []) (Some (record { place = 22; items = ((source.return 23 (Some (source.int 30 (num int (pos 0))))) ∷ []) })))) ∷ (source.external_of [] ((source.word 33 words.Int) ∷ []) (source.function [] (name 37 41) ((record { specs = ((source.word 42 words.Void) ∷ []); pointers = []; name = None; dims = [] }) ∷ []) (Some (record { place = 47; items = ((source.return 48 (Some (source.int 55 (num int (pos 0))))) ∷ []) })))) ∷ []) }

-- struct s{int a;void b,a;};int main(void){return 0;}
abbrev sizes_beside_names_tree : source.File
sizes_beside_names_tree = record { externals = ((source.external_of [] ((source.struct_body 0 (name 7 8) (source.more_members (source.members_of (source.more_specs (source.word 9 words.Int) source.no_specs) (source.more_declarators (source.declarator [] (name 13 14) source.no_exprs) source.no_declarators)) (source.more_members (source.members_of (source.more_specs (source.word 15 words.Void) source.no_specs) (source.more_declarators (source.declarator [] (name 20 21) source.no_exprs) (source.more_declarators (source.declarator [] (name 22 23) source.no_exprs) source.no_declarators))) source.no_members))) ∷ []) (source.nothing)) ∷ (source.external_of [] ((source.word 26 words.Int) ∷ []) (source.function [] (name 30 34) ((record { specs = ((source.word 35 words.Void) ∷ []); pointers = []; name = None; dims = [] }) ∷ []) (Some (record { place = 40; items = ((source.return 41 (Some (source.int 48 (num int (pos 0))))) ∷ []) })))) ∷ []) }

-- struct u;int f(struct u *q,struct u *r){*q=*r;return 0;}int main(void){return 0;}
abbrev unknown_struct_assigned_tree : source.File
unknown_struct_assigned_tree = record { externals = ((source.external_of [] ((source.struct 0 (name 7 8)) ∷ []) (source.nothing)) ∷ (source.external_of [] ((source.word 9 words.Int) ∷ []) (source.function [] (name 13 14) ((record { specs = ((source.struct 15 (name 22 23)) ∷ []); pointers = (pointers.Star ∷ []); name = (Some (name 25 26)); dims = [] }) ∷ (record { specs = ((source.struct 27 (name 34 35)) ∷ []); pointers = (pointers.Star ∷ []); name = (Some (name 37 38)); dims = [] }) ∷ []) (Some (record { place = 39; items = ((source.simple (source.assign 42 assigns.Plain (source.prefix 40 prefixes.Deref (source.name (name 41 42))) (source.prefix 43 prefixes.Deref (source.name (name 44 45))))) ∷ (source.return 46 (Some (source.int 53 (num int (pos 0))))) ∷ []) })))) ∷ (source.external_of [] ((source.word 56 words.Int) ∷ []) (source.function [] (name 60 64) ((record { specs = ((source.word 65 words.Void) ∷ []); pointers = []; name = None; dims = [] }) ∷ []) (Some (record { place = 70; items = ((source.return 71 (Some (source.int 78 (num int (pos 0))))) ∷ []) })))) ∷ []) }

-- typedef struct n n;struct n{n *next;};n g;int main(void){return sizeof(n);}
abbrev type_without_size_yet_tree : source.File
type_without_size_yet_tree = record { externals = ((source.types_by ((source.struct 8 (name 15 16)) ∷ []) ((source.declarator [] (name 17 18) source.no_exprs) ∷ [])) ∷ (source.external_of [] ((source.struct_body 19 (name 26 27) (source.more_members (source.members_of (source.more_specs (source.alias (name 28 29)) source.no_specs) (source.more_declarators (source.declarator (pointers.Star ∷ []) (name 31 35) source.no_exprs) source.no_declarators)) source.no_members)) ∷ []) (source.nothing)) ∷ (source.external_of [] ((source.alias (name 38 39)) ∷ []) (source.variables ((record { declarator = (source.declarator [] (name 40 41) source.no_exprs); value = None }) ∷ []))) ∷ (source.external_of [] ((source.word 42 words.Int) ∷ []) (source.function [] (name 46 50) ((record { specs = ((source.word 51 words.Void) ∷ []); pointers = []; name = None; dims = [] }) ∷ []) (Some (record { place = 56; items = ((source.return 57 (Some (source.sizeof_type 64 (source.type_name (source.more_specs (source.alias (name 71 72)) source.no_specs) [])))) ∷ []) })))) ∷ []) }

-- typedef int T;typedef int T;int main(void){return 0;}
abbrev same_type_again_tree : source.File
same_type_again_tree = record { externals = ((source.types_by ((source.word 8 words.Int) ∷ []) ((source.declarator [] (name 12 13) source.no_exprs) ∷ [])) ∷ (source.types_by ((source.word 22 words.Int) ∷ []) ((source.declarator [] (name 26 27) source.no_exprs) ∷ [])) ∷ (source.external_of [] ((source.word 28 words.Int) ∷ []) (source.function [] (name 32 36) ((record { specs = ((source.word 37 words.Void) ∷ []); pointers = []; name = None; dims = [] }) ∷ []) (Some (record { place = 42; items = ((source.return 43 (Some (source.int 50 (num int (pos 0))))) ∷ []) })))) ∷ []) }

-- typedef int T;typedef char T;int main(void){return 0;}
abbrev other_type_again_tree : source.File
other_type_again_tree = record { externals = ((source.types_by ((source.word 8 words.Int) ∷ []) ((source.declarator [] (name 12 13) source.no_exprs) ∷ [])) ∷ (source.types_by ((source.word 22 words.Char) ∷ []) ((source.declarator [] (name 27 28) source.no_exprs) ∷ [])) ∷ (source.external_of [] ((source.word 29 words.Int) ∷ []) (source.function [] (name 33 37) ((record { specs = ((source.word 38 words.Void) ∷ []); pointers = []; name = None; dims = [] }) ∷ []) (Some (record { place = 43; items = ((source.return 44 (Some (source.int 51 (num int (pos 0))))) ∷ []) })))) ∷ []) }

-- int a;typedef int a;int main(void){return 0;}
abbrev type_of_an_object_tree : source.File
type_of_an_object_tree = record { externals = ((source.external_of [] ((source.word 0 words.Int) ∷ []) (source.variables ((record { declarator = (source.declarator [] (name 4 5) source.no_exprs); value = None }) ∷ []))) ∷ (source.types_by ((source.word 14 words.Int) ∷ []) ((source.declarator [] (name 18 19) source.no_exprs) ∷ [])) ∷ (source.external_of [] ((source.word 20 words.Int) ∷ []) (source.function [] (name 24 28) ((record { specs = ((source.word 29 words.Void) ∷ []); pointers = []; name = None; dims = [] }) ∷ []) (Some (record { place = 34; items = ((source.return 35 (Some (source.int 42 (num int (pos 0))))) ∷ []) })))) ∷ []) }

-- typedef int T[2];T f(void){return 0;}int main(void){return 0;}
abbrev array_result_tree : source.File
array_result_tree = record { externals = ((source.types_by ((source.word 8 words.Int) ∷ []) ((source.declarator [] (name 12 13) (source.more_exprs (source.int 14 (num int (pos 2))) source.no_exprs)) ∷ [])) ∷ (source.external_of [] ((source.alias (name 17 18)) ∷ []) (source.function [] (name 19 20) ((record { specs = ((source.word 21 words.Void) ∷ []); pointers = []; name = None; dims = [] }) ∷ []) (Some (record { place = 26; items = ((source.return 27 (Some (source.int 34 (num int (pos 0))))) ∷ []) })))) ∷ (source.external_of [] ((source.word 37 words.Int) ∷ []) (source.function [] (name 41 45) ((record { specs = ((source.word 46 words.Void) ∷ []); pointers = []; name = None; dims = [] }) ∷ []) (Some (record { place = 51; items = ((source.return 52 (Some (source.int 59 (num int (pos 0))))) ∷ []) })))) ∷ []) }

-- enum e{A=2,B};int main(void){int x[B];return sizeof x/sizeof(int)==A+1;}
abbrev enumerators_tree : source.File
enumerators_tree = record { externals = ((source.external_of [] ((source.enum_body 0 (name 5 6) (source.more_enumerators (source.valued (name 7 8) (source.int 9 (num int (pos 2))) true) (source.more_enumerators (source.enumerator (name 11 12) false) source.no_enumerators))) ∷ []) (source.nothing)) ∷ (source.external_of [] ((source.word 14 words.Int) ∷ []) (source.function [] (name 18 22) ((record { specs = ((source.word 23 words.Void) ∷ []); pointers = []; name = None; dims = [] }) ∷ []) (Some (record { place = 28; items = ((source.declare (record { specs = ((source.word 29 words.Int) ∷ []); declarators = ((record { declarator = (source.declarator [] (name 33 34) (source.more_exprs (source.name (name 35 36)) source.no_exprs)); value = None }) ∷ []) })) ∷ (source.return 38 (Some (source.binary 65 (binaries.Value ops.Eq) (source.binary 53 (binaries.Value ops.Div) (source.sizeof_expr 45 (source.name (name 52 53))) (source.sizeof_type 54 (source.type_name (source.more_specs (source.word 61 words.Int) source.no_specs) []))) (source.binary 68 (binaries.Value ops.Add) (source.name (name 67 68)) (source.int 69 (num int (pos 1))))))) ∷ []) })))) ∷ []) }

-- enum{A=2147483647,B};int main(void){return 0;}
abbrev enumerator_past_int_tree : source.File
enumerator_past_int_tree = record { externals = ((source.external_of [] ((source.unnamed_enum 0 (source.more_enumerators (source.valued (name 5 6) (source.int 7 (num int (pos 2147483647))) true) (source.more_enumerators (source.enumerator (name 18 19) false) source.no_enumerators))) ∷ []) (source.nothing)) ∷ (source.external_of [] ((source.word 21 words.Int) ∷ []) (source.function [] (name 25 29) ((record { specs = ((source.word 30 words.Void) ∷ []); pointers = []; name = None; dims = [] }) ∷ []) (Some (record { place = 35; items = ((source.return 36 (Some (source.int 43 (num int (pos 0))))) ∷ []) })))) ∷ []) }

-- enum e x;int main(void){return 0;}
abbrev enum_unknown_tree : source.File
enum_unknown_tree = record { externals = ((source.external_of [] ((source.enum 0 (name 5 6)) ∷ []) (source.variables ((record { declarator = (source.declarator [] (name 7 8) source.no_exprs); value = None }) ∷ []))) ∷ (source.external_of [] ((source.word 9 words.Int) ∷ []) (source.function [] (name 13 17) ((record { specs = ((source.word 18 words.Void) ∷ []); pointers = []; name = None; dims = [] }) ∷ []) (Some (record { place = 23; items = ((source.return 24 (Some (source.int 31 (num int (pos 0))))) ∷ []) })))) ∷ []) }

-- struct e;enum e{A};int main(void){return 0;}
abbrev tag_of_a_struct_tree : source.File
tag_of_a_struct_tree = record { externals = ((source.external_of [] ((source.struct 0 (name 7 8)) ∷ []) (source.nothing)) ∷ (source.external_of [] ((source.enum_body 9 (name 14 15) (source.more_enumerators (source.enumerator (name 16 17) false) source.no_enumerators)) ∷ []) (source.nothing)) ∷ (source.external_of [] ((source.word 19 words.Int) ∷ []) (source.function [] (name 23 27) ((record { specs = ((source.word 28 words.Void) ∷ []); pointers = []; name = None; dims = [] }) ∷ []) (Some (record { place = 33; items = ((source.return 34 (Some (source.int 41 (num int (pos 0))))) ∷ []) })))) ∷ []) }

-- int main(void){int i=0;do{i++;if(i==2)continue;}while(i<3);return i;}
abbrev do_loop_tree : source.File
do_loop_tree = record { externals = ((source.external_of [] ((source.word 0 words.Int) ∷ []) (source.function [] (name 4 8) ((record { specs = ((source.word 9 words.Void) ∷ []); pointers = []; name = None; dims = [] }) ∷ []) (Some (record { place = 14; items = ((source.declare (record { specs = ((source.word 15 words.Int) ∷ []); declarators = ((record { declarator = (source.declarator [] (name 19 20) source.no_exprs); value = (Some (source.int 21 (num int (pos 0)))) }) ∷ []) })) ∷ (source.do_while 23 (source.block 25 (source.more_stmts (source.simple (source.after 27 steps.Increment (source.name (name 26 27)))) (source.more_stmts (source.if_then 30 (source.binary 34 (binaries.Value ops.Eq) (source.name (name 33 34)) (source.int 36 (num int (pos 2)))) (source.continue 38)) source.no_stmts))) (source.binary 55 (binaries.Value ops.Lt) (source.name (name 54 55)) (source.int 56 (num int (pos 3))))) ∷ (source.return 59 (Some (source.name (name 66 67)))) ∷ []) })))) ∷ []) }

-- int main(void){switch(1){case 2:case 1+1:;}return 0;}
abbrev equal_labels_tree : source.File
equal_labels_tree = record { externals = ((source.external_of [] ((source.word 0 words.Int) ∷ []) (source.function [] (name 4 8) ((record { specs = ((source.word 9 words.Void) ∷ []); pointers = []; name = None; dims = [] }) ∷ []) (Some (record { place = 14; items = ((source.switch 15 (source.int 22 (num int (pos 1))) (source.more_stmts (source.case_label 25 (source.int 30 (num int (pos 2)))) (source.more_stmts (source.case_label 32 (source.binary 38 (binaries.Value ops.Add) (source.int 37 (num int (pos 1))) (source.int 39 (num int (pos 1))))) (source.more_stmts (source.empty 41) source.no_stmts)))) ∷ (source.return 43 (Some (source.int 50 (num int (pos 0))))) ∷ []) })))) ∷ []) }

-- int main(void){switch(1){case 0:break;default:;}return 0;}
abbrev break_of_a_switch_tree : source.File
break_of_a_switch_tree = record { externals = ((source.external_of [] ((source.word 0 words.Int) ∷ []) (source.function [] (name 4 8) ((record { specs = ((source.word 9 words.Void) ∷ []); pointers = []; name = None; dims = [] }) ∷ []) (Some (record { place = 14; items = ((source.switch 15 (source.int 22 (num int (pos 1))) (source.more_stmts (source.case_label 25 (source.int 30 (num int (pos 0)))) (source.more_stmts (source.break 32) (source.more_stmts (source.default_label 38) (source.more_stmts (source.empty 46) source.no_stmts))))) ∷ (source.return 48 (Some (source.int 55 (num int (pos 0))))) ∷ []) })))) ∷ []) }

-- int main(void){switch(1){default:continue;}return 0;}
abbrev continue_in_a_switch_tree : source.File
continue_in_a_switch_tree = record { externals = ((source.external_of [] ((source.word 0 words.Int) ∷ []) (source.function [] (name 4 8) ((record { specs = ((source.word 9 words.Void) ∷ []); pointers = []; name = None; dims = [] }) ∷ []) (Some (record { place = 14; items = ((source.switch 15 (source.int 22 (num int (pos 1))) (source.more_stmts (source.default_label 25) (source.more_stmts (source.continue 33) source.no_stmts))) ∷ (source.return 43 (Some (source.int 50 (num int (pos 0))))) ∷ []) })))) ∷ []) }

-- int main(void){switch(1){default:default:;}return 0;}
abbrev two_defaults_tree : source.File
two_defaults_tree = record { externals = ((source.external_of [] ((source.word 0 words.Int) ∷ []) (source.function [] (name 4 8) ((record { specs = ((source.word 9 words.Void) ∷ []); pointers = []; name = None; dims = [] }) ∷ []) (Some (record { place = 14; items = ((source.switch 15 (source.int 22 (num int (pos 1))) (source.more_stmts (source.default_label 25) (source.more_stmts (source.default_label 33) (source.more_stmts (source.empty 41) source.no_stmts)))) ∷ (source.return 43 (Some (source.int 50 (num int (pos 0))))) ∷ []) })))) ∷ []) }

-- int main(void){switch(NULL){}return 0;}
abbrev switch_of_a_pointer_tree : source.File
switch_of_a_pointer_tree = record { externals = ((source.external_of [] ((source.word 0 words.Int) ∷ []) (source.function [] (name 4 8) ((record { specs = ((source.word 9 words.Void) ∷ []); pointers = []; name = None; dims = [] }) ∷ []) (Some (record { place = 14; items = ((source.switch 15 (source.null 22) source.no_stmts) ∷ (source.return 29 (Some (source.int 36 (num int (pos 0))))) ∷ []) })))) ∷ []) }

-- int main(void){int i=0;switch(i){case i:;}return 0;}
abbrev label_not_constant_tree : source.File
label_not_constant_tree = record { externals = ((source.external_of [] ((source.word 0 words.Int) ∷ []) (source.function [] (name 4 8) ((record { specs = ((source.word 9 words.Void) ∷ []); pointers = []; name = None; dims = [] }) ∷ []) (Some (record { place = 14; items = ((source.declare (record { specs = ((source.word 15 words.Int) ∷ []); declarators = ((record { declarator = (source.declarator [] (name 19 20) source.no_exprs); value = (Some (source.int 21 (num int (pos 0)))) }) ∷ []) })) ∷ (source.switch 23 (source.name (name 30 31)) (source.more_stmts (source.case_label 33 (source.name (name 38 39))) (source.more_stmts (source.empty 40) source.no_stmts))) ∷ (source.return 42 (Some (source.int 49 (num int (pos 0))))) ∷ []) })))) ∷ []) }

-- int main(void){int *p=calloc(2,4);p=realloc(p,8);return 0;}
abbrev calloc_and_realloc_tree : source.File
calloc_and_realloc_tree = record { externals = ((source.external_of [] ((source.word 0 words.Int) ∷ []) (source.function [] (name 4 8) ((record { specs = ((source.word 9 words.Void) ∷ []); pointers = []; name = None; dims = [] }) ∷ []) (Some (record { place = 14; items = ((source.declare (record { specs = ((source.word 15 words.Int) ∷ []); declarators = ((record { declarator = (source.declarator (pointers.Star ∷ []) (name 20 21) source.no_exprs); value = (Some (source.call (name 22 28) (source.more_exprs (source.int 29 (num int (pos 2))) (source.more_exprs (source.int 31 (num int (pos 4))) source.no_exprs)))) }) ∷ []) })) ∷ (source.simple (source.assign 35 assigns.Plain (source.name (name 34 35)) (source.call (name 36 43) (source.more_exprs (source.name (name 44 45)) (source.more_exprs (source.int 46 (num int (pos 8))) source.no_exprs))))) ∷ (source.return 49 (Some (source.int 56 (num int (pos 0))))) ∷ []) })))) ∷ []) }

-- int main(void){void *p=calloc(4);return 0;}
abbrev calloc_of_one_tree : source.File
calloc_of_one_tree = record { externals = ((source.external_of [] ((source.word 0 words.Int) ∷ []) (source.function [] (name 4 8) ((record { specs = ((source.word 9 words.Void) ∷ []); pointers = []; name = None; dims = [] }) ∷ []) (Some (record { place = 14; items = ((source.declare (record { specs = ((source.word 15 words.Void) ∷ []); declarators = ((record { declarator = (source.declarator (pointers.Star ∷ []) (name 21 22) source.no_exprs); value = (Some (source.call (name 23 29) (source.more_exprs (source.int 30 (num int (pos 4))) source.no_exprs))) }) ∷ []) })) ∷ (source.return 33 (Some (source.int 40 (num int (pos 0))))) ∷ []) })))) ∷ []) }

-- int main(void){void *p=realloc(8,8);return 0;}
abbrev realloc_of_a_number_tree : source.File
realloc_of_a_number_tree = record { externals = ((source.external_of [] ((source.word 0 words.Int) ∷ []) (source.function [] (name 4 8) ((record { specs = ((source.word 9 words.Void) ∷ []); pointers = []; name = None; dims = [] }) ∷ []) (Some (record { place = 14; items = ((source.declare (record { specs = ((source.word 15 words.Void) ∷ []); declarators = ((record { declarator = (source.declarator (pointers.Star ∷ []) (name 21 22) source.no_exprs); value = (Some (source.call (name 23 30) (source.more_exprs (source.int 31 (num int (pos 8))) (source.more_exprs (source.int 33 (num int (pos 8))) source.no_exprs)))) }) ∷ []) })) ∷ (source.return 36 (Some (source.int 43 (num int (pos 0))))) ∷ []) })))) ∷ []) }

-- int realloc;int main(void){return 0;}
abbrev realloc_declared_tree : source.File
realloc_declared_tree = record { externals = ((source.external_of [] ((source.word 0 words.Int) ∷ []) (source.variables ((record { declarator = (source.declarator [] (name 4 11) source.no_exprs); value = None }) ∷ []))) ∷ (source.external_of [] ((source.word 12 words.Int) ∷ []) (source.function [] (name 16 20) ((record { specs = ((source.word 21 words.Void) ∷ []); pointers = []; name = None; dims = [] }) ∷ []) (Some (record { place = 26; items = ((source.return 27 (Some (source.int 34 (num int (pos 0))))) ∷ []) })))) ∷ []) }

-- _Atomic long n=1;int main(void){n+=2;n=5;return atomic_exchange(&n,3)==n;}
abbrev atomic_number_tree : source.File
atomic_number_tree = record { externals = ((source.external_of [] ((source.word 0 words.Atomic) ∷ (source.word 8 words.Long) ∷ []) (source.variables ((record { declarator = (source.declarator [] (name 13 14) source.no_exprs); value = (Some (source.int 15 (num int (pos 1)))) }) ∷ []))) ∷ (source.external_of [] ((source.word 17 words.Int) ∷ []) (source.function [] (name 21 25) ((record { specs = ((source.word 26 words.Void) ∷ []); pointers = []; name = None; dims = [] }) ∷ []) (Some (record { place = 31; items = ((source.simple (source.assign 33 assigns.Add (source.name (name 32 33)) (source.int 35 (num int (pos 2))))) ∷ (source.simple (source.assign 38 assigns.Plain (source.name (name 37 38)) (source.int 39 (num int (pos 5))))) ∷ (source.return 41 (Some (source.binary 69 (binaries.Value ops.Eq) (source.call (name 48 63) (source.more_exprs (source.prefix 64 prefixes.AddressOf (source.name (name 65 66))) (source.more_exprs (source.int 67 (num int (pos 3))) source.no_exprs))) (source.name (name 71 72))))) ∷ []) })))) ∷ []) }

-- atomic_int n;int main(void){int e=4;return atomic_compare_exchange_weak(&n,&e,9)+atomic_load(&n);}
abbrev atomic_calls_tree : source.File
atomic_calls_tree = record { externals = ((source.external_of [] ((source.alias (name 0 10)) ∷ []) (source.variables ((record { declarator = (source.declarator [] (name 11 12) source.no_exprs); value = None }) ∷ []))) ∷ (source.external_of [] ((source.word 13 words.Int) ∷ []) (source.function [] (name 17 21) ((record { specs = ((source.word 22 words.Void) ∷ []); pointers = []; name = None; dims = [] }) ∷ []) (Some (record { place = 27; items = ((source.declare (record { specs = ((source.word 28 words.Int) ∷ []); declarators = ((record { declarator = (source.declarator [] (name 32 33) source.no_exprs); value = (Some (source.int 34 (num int (pos 4)))) }) ∷ []) })) ∷ (source.return 36 (Some (source.binary 80 (binaries.Value ops.Add) (source.call (name 43 71) (source.more_exprs (source.prefix 72 prefixes.AddressOf (source.name (name 73 74))) (source.more_exprs (source.prefix 75 prefixes.AddressOf (source.name (name 76 77))) (source.more_exprs (source.int 78 (num int (pos 9))) source.no_exprs)))) (source.call (name 81 92) (source.more_exprs (source.prefix 93 prefixes.AddressOf (source.name (name 94 95))) source.no_exprs))))) ∷ []) })))) ∷ []) }

-- int f(_Atomic int a){a++;return a;}int main(void){return f(1);}
abbrev atomic_parameter_tree : source.File
atomic_parameter_tree = record { externals = ((source.external_of [] ((source.word 0 words.Int) ∷ []) (source.function [] (name 4 5) ((record { specs = ((source.word 6 words.Atomic) ∷ (source.word 14 words.Int) ∷ []); pointers = []; name = (Some (name 18 19)); dims = [] }) ∷ []) (Some (record { place = 20; items = ((source.simple (source.after 22 steps.Increment (source.name (name 21 22)))) ∷ (source.return 25 (Some (source.name (name 32 33)))) ∷ []) })))) ∷ (source.external_of [] ((source.word 35 words.Int) ∷ []) (source.function [] (name 39 43) ((record { specs = ((source.word 44 words.Void) ∷ []); pointers = []; name = None; dims = [] }) ∷ []) (Some (record { place = 49; items = ((source.return 50 (Some (source.call (name 57 58) (source.more_exprs (source.int 59 (num int (pos 1))) source.no_exprs)))) ∷ []) })))) ∷ []) }

-- _Atomic _Atomic int n;int main(void){return 0;}
abbrev atomic_twice_tree : source.File
atomic_twice_tree = record { externals = ((source.external_of [] ((source.word 0 words.Atomic) ∷ (source.word 8 words.Atomic) ∷ (source.word 16 words.Int) ∷ []) (source.variables ((record { declarator = (source.declarator [] (name 20 21) source.no_exprs); value = None }) ∷ []))) ∷ (source.external_of [] ((source.word 22 words.Int) ∷ []) (source.function [] (name 26 30) ((record { specs = ((source.word 31 words.Void) ∷ []); pointers = []; name = None; dims = [] }) ∷ []) (Some (record { place = 36; items = ((source.return 37 (Some (source.int 44 (num int (pos 0))))) ∷ []) })))) ∷ []) }

-- char _Atomic n;int main(void){return 0;}
abbrev atomic_char_tree : source.File
atomic_char_tree = record { externals = ((source.external_of [] ((source.word 0 words.Char) ∷ (source.word 5 words.Atomic) ∷ []) (source.variables ((record { declarator = (source.declarator [] (name 13 14) source.no_exprs); value = None }) ∷ []))) ∷ (source.external_of [] ((source.word 15 words.Int) ∷ []) (source.function [] (name 19 23) ((record { specs = ((source.word 24 words.Void) ∷ []); pointers = []; name = None; dims = [] }) ∷ []) (Some (record { place = 29; items = ((source.return 30 (Some (source.int 37 (num int (pos 0))))) ∷ []) })))) ∷ []) }

-- _Atomic atomic_int n;int main(void){return 0;}
abbrev atomic_of_atomic_tree : source.File
atomic_of_atomic_tree = record { externals = ((source.external_of [] ((source.word 0 words.Atomic) ∷ (source.alias (name 8 18)) ∷ []) (source.variables ((record { declarator = (source.declarator [] (name 19 20) source.no_exprs); value = None }) ∷ []))) ∷ (source.external_of [] ((source.word 21 words.Int) ∷ []) (source.function [] (name 25 29) ((record { specs = ((source.word 30 words.Void) ∷ []); pointers = []; name = None; dims = [] }) ∷ []) (Some (record { place = 35; items = ((source.return 36 (Some (source.int 43 (num int (pos 0))))) ∷ []) })))) ∷ []) }

-- _Atomic int n;int main(void){n*=2;return 0;}
abbrev atomic_product_tree : source.File
atomic_product_tree = record { externals = ((source.external_of [] ((source.word 0 words.Atomic) ∷ (source.word 8 words.Int) ∷ []) (source.variables ((record { declarator = (source.declarator [] (name 12 13) source.no_exprs); value = None }) ∷ []))) ∷ (source.external_of [] ((source.word 14 words.Int) ∷ []) (source.function [] (name 18 22) ((record { specs = ((source.word 23 words.Void) ∷ []); pointers = []; name = None; dims = [] }) ∷ []) (Some (record { place = 28; items = ((source.simple (source.assign 30 assigns.Mul (source.name (name 29 30)) (source.int 32 (num int (pos 2))))) ∷ (source.return 34 (Some (source.int 41 (num int (pos 0))))) ∷ []) })))) ∷ []) }

-- _Atomic int n;int main(void){int *p=&n;return 0;}
abbrev atomic_pointer_tree : source.File
atomic_pointer_tree = record { externals = ((source.external_of [] ((source.word 0 words.Atomic) ∷ (source.word 8 words.Int) ∷ []) (source.variables ((record { declarator = (source.declarator [] (name 12 13) source.no_exprs); value = None }) ∷ []))) ∷ (source.external_of [] ((source.word 14 words.Int) ∷ []) (source.function [] (name 18 22) ((record { specs = ((source.word 23 words.Void) ∷ []); pointers = []; name = None; dims = [] }) ∷ []) (Some (record { place = 28; items = ((source.declare (record { specs = ((source.word 29 words.Int) ∷ []); declarators = ((record { declarator = (source.declarator (pointers.Star ∷ []) (name 34 35) source.no_exprs); value = (Some (source.prefix 36 prefixes.AddressOf (source.name (name 37 38)))) }) ∷ []) })) ∷ (source.return 39 (Some (source.int 46 (num int (pos 0))))) ∷ []) })))) ∷ []) }

-- int n;int main(void){return atomic_load(&n);}
abbrev atomic_load_of_int_tree : source.File
atomic_load_of_int_tree = record { externals = ((source.external_of [] ((source.word 0 words.Int) ∷ []) (source.variables ((record { declarator = (source.declarator [] (name 4 5) source.no_exprs); value = None }) ∷ []))) ∷ (source.external_of [] ((source.word 6 words.Int) ∷ []) (source.function [] (name 10 14) ((record { specs = ((source.word 15 words.Void) ∷ []); pointers = []; name = None; dims = [] }) ∷ []) (Some (record { place = 20; items = ((source.return 21 (Some (source.call (name 28 39) (source.more_exprs (source.prefix 40 prefixes.AddressOf (source.name (name 41 42))) source.no_exprs)))) ∷ []) })))) ∷ []) }

-- typedef int atomic_int;int main(void){return 0;}
abbrev atomic_declared_tree : source.File
atomic_declared_tree = record { externals = ((source.types_by ((source.word 8 words.Int) ∷ []) ((source.declarator [] (name 12 22) source.no_exprs) ∷ [])) ∷ (source.external_of [] ((source.word 23 words.Int) ∷ []) (source.function [] (name 27 31) ((record { specs = ((source.word 32 words.Void) ∷ []); pointers = []; name = None; dims = [] }) ∷ []) (Some (record { place = 37; items = ((source.return 38 (Some (source.int 45 (num int (pos 0))))) ∷ []) })))) ∷ []) }

-- the rows: a text with its tree, and the fault that is named, at its place, or none where the program is accepted
pub record Rows : Type 0 where
  pub unknown_name : refusal_of (codes "int main(void){return b;}") unknown_name_tree ≡ at 22 kinds.UnknownName
  pub double_name : refusal_of (codes "int main(void){int a;int a;return 0;}") double_name_tree ≡ at 25 kinds.DoubleName
  pub shadowing : refusal_of (codes "int main(void){int a=1;{char *a=NULL;a=0;}return a;}") shadowing_tree ≡ None
  pub parameter_and_body : refusal_of (codes "int f(int a){int a;return 0;}int main(void){return 0;}") parameter_and_body_tree ≡ at 17 kinds.DoubleName
  pub name_in_its_initialiser : refusal_of (codes "int main(void){int a=sizeof a;return a;}") name_in_its_initialiser_tree ≡ None
  pub no_main : refusal_of (codes "int f(void){return 1;}") no_main_tree ≡ at 22 kinds.UnknownName
  pub library_name : refusal_of (codes "int malloc;int main(void){return 0;}") library_name_tree ≡ at 4 kinds.DoubleName
  pub library_value : refusal_of (codes "int main(void){return printf;}") library_value_tree ≡ at 22 (kinds.OutsideSubset 12)
  pub pointer_to_int : refusal_of (codes "int main(void){int *p=5;return 0;}") pointer_to_int_tree ≡ at 20 kinds.TypeMismatch
  pub void_pointers : refusal_of (codes "int main(void){int *p=malloc(4);void *q=p;p=q;return p==q;}") void_pointers_tree ≡ None
  pub number_to_pointer : refusal_of (codes "int main(void){return (int)NULL;}") number_to_pointer_tree ≡ at 22 (kinds.OutsideSubset 11)
  pub no_lvalue : refusal_of (codes "int main(void){1=2;return 0;}") no_lvalue_tree ≡ at 16 kinds.NotAnLvalue
  pub array_assigned : refusal_of (codes "int main(void){int a[2];int b[2];a=b;return 0;}") array_assigned_tree ≡ at 34 kinds.NotAnLvalue
  pub array_of_none : refusal_of (codes "int main(void){int a[0];return 0;}") array_of_none_tree ≡ at 21 kinds.BadSize
  pub array_of_many : refusal_of (codes "int a[16777216];int main(void){return 0;}") array_of_many_tree ≡ at 4 kinds.BadSize
  pub void_object : refusal_of (codes "void x;int main(void){return 0;}") void_object_tree ≡ at 5 kinds.BadSize
  pub own_struct : refusal_of (codes "struct s{struct s *next;int n;};int main(void){struct s a;a.next=&a;return a.next->n;}") own_struct_tree ≡ None
  pub struct_in_itself : refusal_of (codes "struct s{struct s in;};int main(void){return 0;}") struct_in_itself_tree ≡ at 18 kinds.BadSize
  pub no_member : refusal_of (codes "struct s{int n;};int main(void){struct s a;return a.m;}") no_member_tree ≡ at 51 kinds.UnknownName
  pub format : refusal_of (codes "int main(void){printf(\"%d %s%%\\n\",1,\"ab\");return 0;}") format_tree ≡ None
  pub format_mismatch : refusal_of (codes "int main(void){printf(\"%ld\",1);return 0;}") format_mismatch_tree ≡ at 15 kinds.TypeMismatch
  pub format_unknown : refusal_of (codes "int main(void){printf(\"%f\",1);return 0;}") format_unknown_tree ≡ at 22 (kinds.OutsideSubset 15)
  pub least_place : refusal_of (codes "int main(void){int *p=x;int q=p;return 0;}") least_place_tree ≡ at 22 kinds.UnknownName
  pub below_an_untyped_part : refusal_of (codes "int main(void){int *p=-x;return 0;}") below_an_untyped_part_tree ≡ at 23 kinds.UnknownName
  pub break_outside : refusal_of (codes "int main(void){break;}") break_outside_tree ≡ at 15 kinds.TypeMismatch
  pub struct_parameter : refusal_of (codes "struct s{int n;};int f(struct s a){return 0;}int main(void){return 0;}") struct_parameter_tree ≡ at 32 (kinds.OutsideSubset 13)
  pub declared_only : refusal_of (codes "int f(int x);int main(void){return 0;}") declared_only_tree ≡ at 4 kinds.UnknownName
  pub declared_before : refusal_of (codes "int f(int x);int main(void){return f(1);}int f(int y){return y;}") declared_before_tree ≡ None
  pub mutex_kind : refusal_of (codes "mtx_t m;int main(void){mtx_init(&m,1);return 0;}") mutex_kind_tree ≡ at 35 (kinds.OutsideSubset 14)
  pub elements_without_size : refusal_of (codes "int f(struct s a[][2]){return 0;}int main(void){return 0;}") elements_without_size_tree ≡ at 15 kinds.BadSize
  pub sizes_beside_names : refusal_of (codes "struct s{int a;void b,a;};int main(void){return 0;}") sizes_beside_names_tree ≡ at 20 kinds.BadSize
  pub unknown_struct_assigned : refusal_of (codes "struct u;int f(struct u *q,struct u *r){*q=*r;return 0;}int main(void){return 0;}") unknown_struct_assigned_tree ≡ at 40 kinds.NotAnLvalue
  pub type_without_size_yet : refusal_of (codes "typedef struct n n;struct n{n *next;};n g;int main(void){return sizeof(n);}") type_without_size_yet_tree ≡ None
  pub same_type_again : refusal_of (codes "typedef int T;typedef int T;int main(void){return 0;}") same_type_again_tree ≡ None
  pub other_type_again : refusal_of (codes "typedef int T;typedef char T;int main(void){return 0;}") other_type_again_tree ≡ at 27 kinds.TypeMismatch
  pub type_of_an_object : refusal_of (codes "int a;typedef int a;int main(void){return 0;}") type_of_an_object_tree ≡ at 18 kinds.DoubleName
  pub array_result : refusal_of (codes "typedef int T[2];T f(void){return 0;}int main(void){return 0;}") array_result_tree ≡ at 19 kinds.TypeMismatch
  pub enumerators : refusal_of (codes "enum e{A=2,B};int main(void){int x[B];return sizeof x/sizeof(int)==A+1;}") enumerators_tree ≡ None
  pub enumerator_past_int : refusal_of (codes "enum{A=2147483647,B};int main(void){return 0;}") enumerator_past_int_tree ≡ at 18 kinds.TypeMismatch
  pub enum_unknown : refusal_of (codes "enum e x;int main(void){return 0;}") enum_unknown_tree ≡ at 5 kinds.UnknownName
  pub tag_of_a_struct : refusal_of (codes "struct e;enum e{A};int main(void){return 0;}") tag_of_a_struct_tree ≡ at 14 kinds.DoubleName
  pub do_loop : refusal_of (codes "int main(void){int i=0;do{i++;if(i==2)continue;}while(i<3);return i;}") do_loop_tree ≡ None
  pub equal_labels : refusal_of (codes "int main(void){switch(1){case 2:case 1+1:;}return 0;}") equal_labels_tree ≡ at 32 kinds.DoubleName
  pub break_of_a_switch : refusal_of (codes "int main(void){switch(1){case 0:break;default:;}return 0;}") break_of_a_switch_tree ≡ None
  pub continue_in_a_switch : refusal_of (codes "int main(void){switch(1){default:continue;}return 0;}") continue_in_a_switch_tree ≡ at 33 kinds.TypeMismatch
  pub two_defaults : refusal_of (codes "int main(void){switch(1){default:default:;}return 0;}") two_defaults_tree ≡ at 33 kinds.DoubleName
  pub switch_of_a_pointer : refusal_of (codes "int main(void){switch(NULL){}return 0;}") switch_of_a_pointer_tree ≡ at 15 kinds.TypeMismatch
  pub label_not_constant : refusal_of (codes "int main(void){int i=0;switch(i){case i:;}return 0;}") label_not_constant_tree ≡ at 33 kinds.TypeMismatch
  pub calloc_and_realloc : refusal_of (codes "int main(void){int *p=calloc(2,4);p=realloc(p,8);return 0;}") calloc_and_realloc_tree ≡ None
  pub calloc_of_one : refusal_of (codes "int main(void){void *p=calloc(4);return 0;}") calloc_of_one_tree ≡ at 23 kinds.TypeMismatch
  pub realloc_of_a_number : refusal_of (codes "int main(void){void *p=realloc(8,8);return 0;}") realloc_of_a_number_tree ≡ at 23 kinds.TypeMismatch
  pub realloc_declared : refusal_of (codes "int realloc;int main(void){return 0;}") realloc_declared_tree ≡ at 4 kinds.DoubleName
  pub atomic_number : refusal_of (codes "_Atomic long n=1;int main(void){n+=2;n=5;return atomic_exchange(&n,3)==n;}") atomic_number_tree ≡ None
  pub atomic_calls : refusal_of (codes "atomic_int n;int main(void){int e=4;return atomic_compare_exchange_weak(&n,&e,9)+atomic_load(&n);}") atomic_calls_tree ≡ None
  pub atomic_parameter : refusal_of (codes "int f(_Atomic int a){a++;return a;}int main(void){return f(1);}") atomic_parameter_tree ≡ None
  pub atomic_twice : refusal_of (codes "_Atomic _Atomic int n;int main(void){return 0;}") atomic_twice_tree ≡ at 0 kinds.TypeMismatch
  pub atomic_char : refusal_of (codes "char _Atomic n;int main(void){return 0;}") atomic_char_tree ≡ at 0 kinds.TypeMismatch
  pub atomic_of_atomic : refusal_of (codes "_Atomic atomic_int n;int main(void){return 0;}") atomic_of_atomic_tree ≡ at 0 kinds.TypeMismatch
  pub atomic_product : refusal_of (codes "_Atomic int n;int main(void){n*=2;return 0;}") atomic_product_tree ≡ at 30 kinds.TypeMismatch
  pub atomic_pointer : refusal_of (codes "_Atomic int n;int main(void){int *p=&n;return 0;}") atomic_pointer_tree ≡ at 34 kinds.TypeMismatch
  pub atomic_load_of_int : refusal_of (codes "int n;int main(void){return atomic_load(&n);}") atomic_load_of_int_tree ≡ at 28 kinds.TypeMismatch
  pub atomic_declared : refusal_of (codes "typedef int atomic_int;int main(void){return 0;}") atomic_declared_tree ≡ at 12 kinds.DoubleName
  -- the block of a header holds each local that it declares, and the loop with the last of them
  pub one_block : (place : ℕ) (a b c : Stmt) (loop : Stmt → Stmt) → headed place (a ∷ b ∷ c ∷ []) loop ≡ at_stmt place (block (more_stmts a (more_stmts b (more_stmts (loop c) no_stmts))))
