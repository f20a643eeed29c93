-- What judging leaves as it was, whatever it gives: the text and the scopes around, and in an expression the innermost scope too, but for
-- enumerators that are declared in it.
use Rattle.std.proofs.Common.{◌≡◌, ℕ, Bool, true, false, ◌+◌, refl, sym, ap, ◌∙◌, subst, List, [], ◌∷◌, ◌++◌, length, Option, Some, None, ℤ, pos, ◌+ℤ◌, if◌then◌else◌}
use Rattle.ak_words.specs.declared.int_type.IntType.{IntType}
use Rattle.c_tree.specs.declared.syntax.Name.{Name}
use Rattle.c_tree.specs.declared.syntax.Span.{Span}
use Rattle.c_tree.specs.declared.syntax.PrefixOp.{PrefixOp}
use Rattle.c_tree.specs.declared.syntax.PrefixOp.TheVariants as prefixes
use Rattle.c_tree.specs.Syntax as source
use Rattle.c_tree.specs.Typed.{Ty, Expr, Stmt}
use Rattle.c_tree.specs.TypedForm.{Jumps, in_loop, in_switch}
use Rattle.c_typing.specs.Faults.{Judged, typed, faulty, ◌>>=◌}
use Rattle.c_typing.specs.Scope.{printf, malloc, calloc, realloc, free, memcpy, thrd_create, thrd_join, mtx_init, mtx_lock, mtx_unlock, mtx_destroy, atomic_store, atomic_load, atomic_add, atomic_sub, atomic_swap, atomic_compare, constant, atomic_type}
use Rattle.c_typing.specs.Scope.{Binding, global_name, local_name, function_name, enumerator_name, type_name, library_name, Frame, Context, bytes_of, meaning_of, is_double, is_struct_tag, with_new_struct, with_tag, tag_number, is_begun, with_begun, with_struct, with_enum, with_listed, with_enumerator, inside, declared}
use Rattle.c_typing.specs.Judgement.{Judging, lone, in_turn, ruled, member_by, name_in, text_in, node_place, with_addressed, meaning_in, valued, prefixed, format_or, starting_or, called_by, struct_fits, closed, braces_fit, opened, closing, braced, braced_alone, enumerator_value, whole_value, or_zero, enumerated, enum_braced, specs_by}
use Rattle.c_typing.specs.Judgement.{judged, judged_all, judged_print, judged_start, judged_started, judged_type, judged_parts, judged_spec, judged_enumerator, judged_enumerators, judged_members, judged_member, judged_declarators, judged_dims, judged_specs}
use Rattle.c_typing.specs.Statements.{judged_simple, judged_init, judged_declarator, judged_local, judged_locals, judged_declaration, one_of, scoped, returned, condition, judged_first, judged_condition, judged_step, for_of, switched, type_of_switch, Entries, no_entries, entries_or, entry_of, judged_stmt, judged_stmts, judged_entries}
use Rattle.c_typing.specs.Constants.{constant_value}
use Rattle.c_typing.proofs.Lengthened.{Lengthens, lengthens_itself, lengthens_further, one_longer}
use Rattle.c_typing.specs.Programs.{with_param, judged_size, judged_sizes, judged_param, judged_params, none_if, judged_param_list}

-- the text and the scopes around stay, and the innermost scope gets enumerators at most
pub record Keeping (c d : Context) : Type 0 where
  pub text : d.text ≡ c.text
  pub inner : Lengthens c.inner d.inner
  pub outer : d.outer ≡ c.outer

pub keeping_itself : (c : Context) → Keeping c c
keeping_itself c = record { text = refl; inner = lengthens_itself c.inner; outer = refl }

pub keeping_further : (b c d : Context) → Keeping b c → Keeping c d → Keeping b d
keeping_further b c d f g = record { text = g.text ∙ f.text; inner = lengthens_further b.inner c.inner d.inner f.inner g.inner; outer = g.outer ∙ f.outer }

abbrev pub Still : {A : Type 0} → Judging A → Type 0
Still j = (c : Context) → Keeping c (j c).1

still_both : {A B : Type 0} (a : Judging A) (b : Judging B) → Still a → Still b → Still (in_turn a b)
still_both a b f g c = keeping_further c (a c).1 (b (a c).1).1 (f c) (g (a c).1)

-- contexts of one text and the same scopes
pub keeping_same : (c d : Context) → d.text ≡ c.text → d.inner ≡ c.inner → d.outer ≡ c.outer → Keeping c d
keeping_same c d t i o = record { text = t; inner = subst (Lengthens c.inner) (sym i) (lengthens_itself c.inner); outer = o }

addressed_still : (c : Context) (o : Option Binding) → Keeping c (with_addressed c o)
addressed_still c None = keeping_itself c
addressed_still c (Some (local_name n t)) = keeping_same c (with_addressed c (Some (local_name n t))) refl refl refl
addressed_still c (Some (global_name n t)) = keeping_itself c
addressed_still c (Some (function_name n ps r)) = keeping_itself c
addressed_still c (Some (enumerator_name value)) = keeping_itself c
addressed_still c (Some (type_name t)) = keeping_itself c
addressed_still c (Some (library_name which)) = keeping_itself c

prefixed_still : (place : ℕ) (op : PrefixOp) (n : Option Name) (j : Judging Expr) → Still j → Still (prefixed place op n j)
prefixed_still place prefixes.Minus n j f c = f c
prefixed_still place prefixes.Plus n j f c = f c
prefixed_still place prefixes.Not n j f c = f c
prefixed_still place prefixes.Complement n j f c = f c
prefixed_still place prefixes.Deref n j f c = f c
prefixed_still place prefixes.AddressOf n j f c = keeping_further c (j c).1 (with_addressed (j c).1 (meaning_in (j c).1 n)) (f c) (addressed_still (j c).1 (meaning_in (j c).1 n))

called_still : (o : Option Binding) (place : ℕ) (args : Judging (List Expr)) (print start : Judging Expr) → Still args → Still print → Still start → Still (called_by o place args print start)
called_still (Some (function_name n params result)) place args print start f g h c = f c
called_still (Some (library_name printf)) place args print start f g h c = g c
called_still (Some (library_name thrd_create)) place args print start f g h c = h c
called_still (Some (library_name malloc)) place args print start f g h c = f c
called_still (Some (library_name calloc)) place args print start f g h c = f c
called_still (Some (library_name realloc)) place args print start f g h c = f c
called_still (Some (library_name free)) place args print start f g h c = f c
called_still (Some (library_name memcpy)) place args print start f g h c = f c
called_still (Some (library_name thrd_join)) place args print start f g h c = f c
called_still (Some (library_name mtx_init)) place args print start f g h c = f c
called_still (Some (library_name mtx_lock)) place args print start f g h c = f c
called_still (Some (library_name mtx_unlock)) place args print start f g h c = f c
called_still (Some (library_name mtx_destroy)) place args print start f g h c = f c
called_still (Some (library_name atomic_store)) place args print start f g h c = f c
called_still (Some (library_name atomic_load)) place args print start f g h c = f c
called_still (Some (library_name atomic_add)) place args print start f g h c = f c
called_still (Some (library_name atomic_sub)) place args print start f g h c = f c
called_still (Some (library_name atomic_swap)) place args print start f g h c = f c
called_still (Some (library_name atomic_compare)) place args print start f g h c = f c
called_still (Some (library_name (atomic_type t))) place args print start f g h c = f c
called_still (Some (library_name (constant value))) place args print start f g h c = f c
called_still (Some (global_name n t)) place args print start f g h c = f c
called_still (Some (local_name n t)) place args print start f g h c = f c
called_still (Some (enumerator_name value)) place args print start f g h c = f c
called_still (Some (type_name t)) place args print start f g h c = f c
called_still None place args print start f g h c = f c

format_still : (o : Option (List Span)) (place : ℕ) (j : Judging Expr) → Still j → Still (format_or o place j)
format_still (Some parts) place j f c = keeping_itself c
format_still None place j f c = f c

starting_still : (o : Option Binding) (j : Judging Expr) → Still j → Still (starting_or o j)
starting_still (Some (function_name n params result)) j f c = keeping_itself c
starting_still (Some (library_name (constant value))) j f c = f c
starting_still (Some (library_name printf)) j f c = keeping_itself c
starting_still (Some (library_name atomic_store)) j f c = keeping_itself c
starting_still (Some (library_name atomic_load)) j f c = keeping_itself c
starting_still (Some (library_name atomic_add)) j f c = keeping_itself c
starting_still (Some (library_name atomic_sub)) j f c = keeping_itself c
starting_still (Some (library_name atomic_swap)) j f c = keeping_itself c
starting_still (Some (library_name atomic_compare)) j f c = keeping_itself c
starting_still (Some (library_name (atomic_type t))) j f c = keeping_itself c
starting_still (Some (library_name malloc)) j f c = keeping_itself c
starting_still (Some (library_name calloc)) j f c = keeping_itself c
starting_still (Some (library_name realloc)) j f c = keeping_itself c
starting_still (Some (library_name free)) j f c = keeping_itself c
starting_still (Some (library_name memcpy)) j f c = keeping_itself c
starting_still (Some (library_name thrd_create)) j f c = keeping_itself c
starting_still (Some (library_name thrd_join)) j f c = keeping_itself c
starting_still (Some (library_name mtx_init)) j f c = keeping_itself c
starting_still (Some (library_name mtx_lock)) j f c = keeping_itself c
starting_still (Some (library_name mtx_unlock)) j f c = keeping_itself c
starting_still (Some (library_name mtx_destroy)) j f c = keeping_itself c
starting_still (Some (global_name n t)) j f c = f c
starting_still (Some (local_name n t)) j f c = f c
starting_still (Some (enumerator_name value)) j f c = f c
starting_still (Some (type_name t)) j f c = f c
starting_still None j f c = f c

struct_still : (c : Context) (tag : List ℕ) → Keeping c (with_new_struct c tag)
struct_still c tag = keeping_same c (with_new_struct c tag) refl refl refl

tag_still : (c : Context) (n : Name) → Keeping c (with_tag c n)
tag_still c n = by (is_struct_tag c n)
  where
    by : (b : Bool) → Keeping c (if b then c else with_new_struct c (bytes_of c.text n))
    by true = keeping_itself c
    by false = struct_still c (bytes_of c.text n)

closed_still : (x : Context) (number : ℕ) (j : Judged (List (List ℕ × Ty))) → Keeping x (closed x number j)
closed_still x number (typed all) = keeping_same x (with_struct x number all) refl refl refl
closed_still x number (faulty r rs) = keeping_itself x

closing_still : (place number : ℕ) (opening : Judged (Unit {0})) (again : Bool) (j : Judging (List (List ℕ × Ty))) → Still j → (a c : Context) → Keeping a c
    → Keeping a (closing place number opening again j (with_begun c number)).1
closing_still place number opening again j f a c h =
    keeping_further a x (if again then x else closed x number all)
    (keeping_further a (with_begun c number) x (keeping_further a c (with_begun c number) h (keeping_same c (with_begun c number) refl refl refl)) (f (with_begun c number))) (by again)
  where
    x : Context
    x = (j (with_begun c number)).1

    all : Judged (List (List ℕ × Ty))
    all = (j (with_begun c number)).0 >>= struct_fits (j (with_begun c number)).1 place

    by : (b : Bool) → Keeping (j (with_begun c number)).1 (if b then (j (with_begun c number)).1 else closed (j (with_begun c number)).1 number ((j (with_begun c number)).0 >>= struct_fits (j (with_begun c number)).1 place))
    by true = keeping_itself (j (with_begun c number)).1
    by false = closed_still (j (with_begun c number)).1 number ((j (with_begun c number)).0 >>= struct_fits (j (with_begun c number)).1 place)

braced_still : (t : Name) (j : Judging (List (List ℕ × Ty))) → Still j → Still (braced t j)
braced_still t j f c =
    closing_still t.from (tag_number (with_tag c t) t) (opened (with_tag c t) t) (is_begun (with_tag c t) (tag_number (with_tag c t) t)) j f c (with_tag c t) (tag_still c t)

alone_still : (place : ℕ) (j : Judging (List (List ℕ × Ty))) → Still j → Still (braced_alone place j)
alone_still place j f c = closing_still place (length c.structs) (braces_fit (with_new_struct c []) place) false j f c (with_new_struct c []) (struct_still c [])

-- an enumerator
enumerator_still : (c : Context) (n : Name) (value : ℤ) → Keeping c (with_enumerator c n value)
enumerator_still c n value = by (is_double c n)
  where
    by : (b : Bool) → Keeping c (record (if b then c else record c { inner = c.inner ++ (bytes_of c.text n, enumerator_name value) ∷ [] }) { enumerators = c.enumerators + 1 })
    by true = record { text = refl; inner = lengthens_itself c.inner; outer = refl }
    by false = record { text = refl; inner = one_longer c.inner (bytes_of c.text n) (enumerator_name value) tt; outer = refl }

enumerated_still : (n : Name) (value : Judging ℤ) → Still value → Still (enumerated n value)
enumerated_still n value f c = keeping_further c (value c).1 (with_enumerator (value c).1 n (or_zero (value c).0)) (f c) (enumerator_still (value c).1 n (or_zero (value c).0))

enum_still : (t : Name) (list : Judging (Unit {0})) → Still list → Still (enum_braced t list)
enum_still t list f c =
    keeping_further c (list (with_enum c t)).1 (with_listed (list (with_enum c t)).1 t)
    (keeping_further c (with_enum c t) (list (with_enum c t)).1 (keeping_same c (with_enum c t) refl refl refl) (f (with_enum c t)))
    (keeping_same (list (with_enum c t)).1 (with_listed (list (with_enum c t)).1 t) refl refl refl)

mutual
  pub judged_still : (s : source.Expr) → Still (judged s)
  judged_still (source.name n) c = keeping_itself c
  judged_still (source.call callee args) c = called_still (meaning_of c callee) callee.from (judged_all args) (judged_print callee.from args) (judged_start callee.from args) (all_still args) (print_still callee.from args) (start_still callee.from args) c
  judged_still (source.int place n) c = keeping_itself c
  judged_still (source.char place n) c = keeping_itself c
  judged_still (source.text parts) c = keeping_same c (judged (source.text parts) c).1 refl refl refl
  judged_still (source.null place) c = keeping_itself c
  judged_still (source.group s) c = judged_still s c
  judged_still (source.prefix place op s) c = prefixed_still place op (name_in s) (judged s) (judged_still s) c
  judged_still (source.sizeof_type place t) c = type_still t c
  judged_still (source.sizeof_expr place s) c = judged_still s c
  judged_still (source.cast place t s) c = still_both (judged_type t) (valued (judged s)) (type_still t) (judged_still s) c
  judged_still (source.index place a b) c = still_both (valued (judged a)) (valued (judged b)) (judged_still a) (judged_still b) c
  judged_still (source.member place s m) c = judged_still s c
  judged_still (source.arrow place s m) c = judged_still s c
  judged_still (source.binary place op a b) c = still_both (valued (judged a)) (valued (judged b)) (judged_still a) (judged_still b) c
  judged_still (source.conditional place s a b) c = still_both (valued (judged s)) (in_turn (valued (judged a)) (valued (judged b))) (judged_still s) (still_both (valued (judged a)) (valued (judged b)) (judged_still a) (judged_still b)) c

  all_still : (es : source.Exprs) → Still (judged_all es)
  all_still source.no_exprs c = keeping_itself c
  all_still (source.more_exprs s rest) c = still_both (valued (judged s)) (judged_all rest) (judged_still s) (all_still rest) c

  print_still : (place : ℕ) (es : source.Exprs) → Still (judged_print place es)
  print_still place source.no_exprs c = keeping_itself c
  print_still place (source.more_exprs s rest) c = still_both (format_or (text_in s) (node_place s) (judged s)) (judged_all rest) (format_still (text_in s) (node_place s) (judged s) (judged_still s)) (all_still rest) c

  start_still : (place : ℕ) (es : source.Exprs) → Still (judged_start place es)
  start_still place source.no_exprs c = keeping_itself c
  start_still place (source.more_exprs s rest) c = still_both (valued (judged s)) (judged_started rest) (judged_still s) (started_still rest) c

  started_still : (es : source.Exprs) → Still (judged_started es)
  started_still source.no_exprs c = keeping_itself c
  started_still (source.more_exprs s rest) c = still_both (starting_or (meaning_in c (name_in s)) (judged s)) (judged_all rest) (starting_still (meaning_in c (name_in s)) (judged s) (judged_still s)) (all_still rest) c

  type_still : (t : source.TypeName) → Still (judged_type t)
  type_still (source.type_name specs pointers) c = parts_still specs c

  parts_still : (s : source.Specs) → Still (judged_parts s)
  parts_still source.no_specs c = keeping_itself c
  parts_still (source.more_specs s rest) c = still_both (judged_spec s) (judged_parts rest) (spec_still s) (parts_still rest) c

  spec_still : (s : source.Spec) → Still (judged_spec s)
  spec_still (source.word place x) c = keeping_itself c
  spec_still (source.struct place t) c = tag_still c t
  spec_still (source.struct_body place t members) c = braced_still t (judged_members [] members) (members_still [] members) c
  spec_still (source.unnamed_struct place members) c = alone_still place (judged_members [] members) (members_still [] members) c
  spec_still (source.enum place t) c = keeping_itself c
  spec_still (source.enum_body place t list) c = enum_still t (judged_enumerators (pos 0) list) (enumerators_still (pos 0) list) c
  spec_still (source.unnamed_enum place list) c = enumerators_still (pos 0) list c
  spec_still (source.alias n) c = keeping_itself c

  enumerator_made_still : (next : ℤ) (x : source.Enumerator) → Still (judged_enumerator next x)
  enumerator_made_still next (source.enumerator n comma) c = enumerated_still n (lone (enumerator_value n.from (Some next))) (λ c. keeping_itself c) c
  enumerator_made_still next (source.valued n s comma) c =
      enumerated_still n (ruled (valued (judged s)) (λ d x. enumerator_value n.from (whole_value (constant_value d s x)))) (λ c. judged_still s c) c

  enumerators_still : (next : ℤ) (xs : source.Enumerators) → Still (judged_enumerators next xs)
  enumerators_still next source.no_enumerators c = keeping_itself c
  enumerators_still next (source.more_enumerators x rest) c =
      let a : Judged ℤ × Context = judged_enumerator next x c in
      keeping_further c a.1 (judged_enumerators (or_zero a.0 +ℤ pos 1) rest a.1).1 (enumerator_made_still next x c) (enumerators_still (or_zero a.0 +ℤ pos 1) rest a.1)

  members_still : (before : List Name) (ms : source.Members) → Still (judged_members before ms)
  members_still before source.no_members c = keeping_itself c
  members_still before (source.more_members m rest) c = still_both (judged_member before m) (judged_members _ rest) (member_still before m) (members_still _ rest) c

  member_still : (before : List Name) (m : source.Member) → Still (judged_member before m)
  member_still before (source.members_of specs declarators) c =
      let b : Judged Ty × Context = specs_by specs (judged_parts specs) c in
      keeping_further c b.1 (judged_declarators before b.0 declarators b.1).1 (parts_still specs c) (declarators_still before b.0 declarators b.1)

  declarators_still : (before : List Name) (base : Judged Ty) (ds : source.Declarators) → Still (judged_declarators before base ds)
  declarators_still before base source.no_declarators c = keeping_itself c
  declarators_still before base (source.more_declarators (source.declarator pointers n dims) rest) c =
      still_both (member_by before base pointers n (judged_dims dims)) (judged_declarators (before ++ n ∷ []) base rest) (dims_still dims) (declarators_still (before ++ n ∷ []) base rest) c

  pub dims_still : (es : source.Exprs) → Still (judged_dims es)
  dims_still source.no_exprs c = keeping_itself c
  dims_still (source.more_exprs s rest) c = still_both (valued (judged s)) (judged_dims rest) (judged_still s) (dims_still rest) c

pub specs_still : (s : source.Specs) → Still (judged_specs s)
specs_still s c = parts_still s c

pub declarator_still : (d : source.Declarator) → Still (judged_declarator d)
declarator_still (source.declarator pointers n dims) c = dims_still dims c

-- ---- statements

-- the text, and the scopes around the innermost
abbrev pub around : Context → List ℕ × List Frame
around c = (c.text, c.outer)

abbrev pub Stays : {A : Type 0} → Judging A → Type 0
Stays j = (c : Context) → around (j c).1 ≡ around c

pub stays : {A : Type 0} (j : Judging A) → Still j → Stays j
stays j f c =
    let t : (j c).1.text ≡ c.text = (f c).text in
    let o : (j c).1.outer ≡ c.outer = (f c).outer in
    cc

both_stays : {A B : Type 0} (a : Judging A) (b : Judging B) → Stays a → Stays b → Stays (in_turn a b)
both_stays a b f g c = g (a c).1 ∙ f c

scoped_stays : {A : Type 0} (j : Judging A) → Stays j → Stays (scoped j)
scoped_stays j f c = ap (λ (p : List ℕ × List Frame). (p.0, c.outer)) (f (inside c))

expr_stays : (s : source.Expr) → Stays (judged s)
expr_stays s = stays (judged s) (judged_still s)

simple_stays : (s : source.Simple) → Stays (judged_simple s)
simple_stays (source.before place op s) c = expr_stays s c
simple_stays (source.after place op s) c = expr_stays s c
simple_stays (source.assign place op a b) c = both_stays (judged a) (judged b) (expr_stays a) (expr_stays b) c
simple_stays (source.eval s) c = expr_stays s c

pub declared_stays : (c : Context) (n : Name) (m : Binding) → around (declared c n m) ≡ around c
declared_stays c n m = by (is_double c n)
  where
    by : (b : Bool) → around (if b then c else record c { inner = c.inner ++ (bytes_of c.text n, m) ∷ [] }) ≡ around c
    by true = refl
    by false = refl

init_stays : (place : ℕ) (t : Judged Ty) (o : Option source.Expr) → Stays (judged_init place t o)
init_stays place t None c = refl
init_stays place t (Some s) c = expr_stays s c

local_stays : (base : Judged Ty) (x : source.InitDeclarator) → Stays (judged_local base x)
local_stays base x c = init_stays _ _ x.value _ ∙ declared_stays (judged_declarator x.declarator c).1 _ _ ∙ stays (judged_declarator x.declarator) (declarator_still x.declarator) c

locals_stays : (base : Judged Ty) (xs : List source.InitDeclarator) → Stays (judged_locals base xs)
locals_stays base [] c = refl
locals_stays base (x ∷ xs) c = both_stays (judged_local base x) (judged_locals base xs) (local_stays base x) (locals_stays base xs) c

declaration_stays : (d : source.Declaration) → Stays (judged_declaration d)
declaration_stays d c = locals_stays (judged_specs (source.specs_of d.specs) c).0 d.declarators (judged_specs (source.specs_of d.specs) c).1 ∙ stays (judged_specs (source.specs_of d.specs)) (specs_still (source.specs_of d.specs)) c

returned_stays : (place : ℕ) (r : Ty) (o : Option source.Expr) → Stays (returned place r o)
returned_stays place r None c = refl
returned_stays place r (Some s) c = expr_stays s c

first_stays : (place : ℕ) (f : source.ForFirst) → Stays (judged_first place f)
first_stays place (source.first_declare d) c = declaration_stays d c
first_stays place (source.first_simple s) c = simple_stays s c
first_stays place source.first_nothing c = refl

test_stays : (place : ℕ) (o : Option source.Expr) → Stays (judged_condition place o)
test_stays place None c = refl
test_stays place (Some s) c = expr_stays s c

step_stays : (place : ℕ) (o : Option source.Simple) → Stays (judged_step place o)
step_stays place None c = refl
step_stays place (Some s) c = simple_stays s c

-- the parts of a for
pub for_stays : (r : Ty) (place : ℕ) (first : source.ForFirst) (o : Option source.Expr) (step : Option source.Simple) (t : source.Stmt) → Stays (one_of (judged_stmt r in_loop t))
    → Stays (for_of place (judged_first place first) (judged_condition place o) (judged_step place step) (one_of (judged_stmt r in_loop t)))
for_stays r place first o step t k =
    both_stays (judged_first place first) (in_turn (judged_condition place o) (in_turn (judged_step place step) (one_of (judged_stmt r in_loop t)))) (first_stays place first)
    (both_stays (judged_condition place o) (in_turn (judged_step place step) (one_of (judged_stmt r in_loop t))) (test_stays place o)
    (both_stays (judged_step place step) (one_of (judged_stmt r in_loop t)) (step_stays place step) k))

-- an entry of a switch
entry_stays : (t : IntType) (es : Entries) (s : source.Stmt) (j : Judging (List Stmt)) → Stays j → Stays (entry_of t es s j)
entry_stays t es (source.case_label place s) j f c = expr_stays s c
entry_stays t es (source.default_label place) j f c = refl
entry_stays t es (source.block place items) j f c = f c
entry_stays t es (source.declare d) j f c = f c
entry_stays t es (source.empty place) j f c = f c
entry_stays t es (source.if_then place s u) j f c = f c
entry_stays t es (source.if_else place s u v) j f c = f c
entry_stays t es (source.while place s u) j f c = f c
entry_stays t es (source.for place first s step u) j f c = f c
entry_stays t es (source.do_while place u s) j f c = f c
entry_stays t es (source.switch place s entries) j f c = f c
entry_stays t es (source.break place) j f c = f c
entry_stays t es (source.continue place) j f c = f c
entry_stays t es (source.return place value) j f c = f c
entry_stays t es (source.simple s) j f c = f c

mutual
  pub stmt_stays : (r : Ty) (l : Jumps) (s : source.Stmt) → Stays (judged_stmt r l s)
  stmt_stays r l (source.block place items) c = scoped_stays (judged_stmts r l items) (stmts_stays r l items) c
  stmt_stays r l (source.declare d) c = declaration_stays d c
  stmt_stays r l (source.empty place) c = refl
  stmt_stays r l (source.if_then place s t) c = both_stays (condition place s) (one_of (judged_stmt r l t)) (expr_stays s) (stmt_stays r l t) c
  stmt_stays r l (source.if_else place s t u) c = both_stays (condition place s) (in_turn (one_of (judged_stmt r l t)) (one_of (judged_stmt r l u))) (expr_stays s) (both_stays (one_of (judged_stmt r l t)) (one_of (judged_stmt r l u)) (stmt_stays r l t) (stmt_stays r l u)) c
  stmt_stays r l (source.while place s t) c = both_stays (condition place s) (one_of (judged_stmt r in_loop t)) (expr_stays s) (stmt_stays r in_loop t) c
  stmt_stays r l (source.for place first s step t) c = scoped_stays (for_of place (judged_first place first) (judged_condition place s) (judged_step place step) (one_of (judged_stmt r in_loop t))) (for_stays r place first s step t (stmt_stays r in_loop t)) c
  stmt_stays r l (source.do_while place t s) c = both_stays (one_of (judged_stmt r in_loop t)) (condition place s) (stmt_stays r in_loop t) (expr_stays s) c
  stmt_stays r l (source.switch place s entries) c = entries_stay r (in_switch l) (type_of_switch (switched place s c).0) no_entries entries (switched place s c).1 ∙ expr_stays s c
  stmt_stays r l (source.case_label place s) c = refl
  stmt_stays r l (source.default_label place) c = refl
  stmt_stays r l (source.break place) c = refl
  stmt_stays r l (source.continue place) c = refl
  stmt_stays r l (source.return place value) c = returned_stays place r value c
  stmt_stays r l (source.simple s) c = simple_stays s c

  pub stmts_stays : (r : Ty) (l : Jumps) (ss : source.Stmts) → Stays (judged_stmts r l ss)
  stmts_stays r l source.no_stmts c = refl
  stmts_stays r l (source.more_stmts s rest) c = both_stays (judged_stmt r l s) (judged_stmts r l rest) (stmt_stays r l s) (stmts_stays r l rest) c

  entries_stay : (r : Ty) (l : Jumps) (t : IntType) (es : Entries) (ss : source.Stmts) → Stays (judged_entries r l t es ss)
  entries_stay r l t es source.no_stmts c = refl
  entries_stay r l t es (source.more_stmts s rest) c =
      let a : Judged Entries × Context = entry_of t es s (judged_stmt r l s) c in
      entries_stay r l t (entries_or a.0) rest a.1 ∙ entry_stays t es s (judged_stmt r l s) (stmt_stays r l s) c

-- ---- parameters

size_still : (outermost : Bool) (d : source.ParamDim) (o : Option source.Expr) → Still (judged_size outermost d o)
size_still outermost d None c = keeping_itself c
size_still outermost d (Some s) c = judged_still s c

sizes_still : (outermost : Bool) (ds : List source.ParamDim) → Still (judged_sizes outermost ds)
sizes_still outermost [] c = keeping_itself c
sizes_still outermost (d ∷ ds) c = still_both (judged_size outermost d d.size) (judged_sizes false ds) (size_still outermost d d.size) (sizes_still false ds) c

with_param_stays : (c : Context) (o : Option Name) (t : Ty) → around (with_param c o t) ≡ around c
with_param_stays c None t = refl
with_param_stays c (Some n) t = declared_stays c n (local_name (length c.locals) t)

param_stays : (p : source.Param) → Stays (judged_param p)
param_stays p c =
    with_param_stays (judged_sizes true p.dims (judged_specs (source.specs_of p.specs) c).1).1 p.name _
    ∙ stays (judged_sizes true p.dims) (sizes_still true p.dims) (judged_specs (source.specs_of p.specs) c).1
    ∙ stays (judged_specs (source.specs_of p.specs)) (specs_still (source.specs_of p.specs)) c

params_stays : (ps : List source.Param) → Stays (judged_params ps)
params_stays [] c = refl
params_stays (p ∷ ps) c = both_stays (judged_param p) (judged_params ps) (param_stays p) (params_stays ps) c

none_stays : (p : source.Param) (b : Bool) (c : Context) → around (none_if c p b (judged_params (p ∷ [])) c).1 ≡ around c
none_stays p true c = stays (judged_specs (source.specs_of p.specs)) (specs_still (source.specs_of p.specs)) c
none_stays p false c = params_stays (p ∷ []) c

pub param_list_stays : (ps : List source.Param) → Stays (judged_param_list ps)
param_list_stays [] c = refl
param_list_stays (p ∷ []) c = none_stays p _ c
param_list_stays (p ∷ q ∷ ps) c = params_stays (p ∷ q ∷ ps) c
