-- No leaf of an expression or a type is the end of the text.
use Rattle.std.proofs.Common.{◌≡◌, ℕ, ◌+◌, List, [], ◌∷◌, ◌++◌, map, Bool, true, false, refl, not}
use Rattle.c_tree.specs.declared.syntax.Name.{Name}
use Rattle.c_tree.specs.declared.syntax.Span.{Span}
use Rattle.c_tree.specs.declared.syntax.Pointer.{Pointer}
use Rattle.c_tree.specs.declared.syntax.Pointer.TheVariants.{Star, Const, Restrict}
use Rattle.c_tree.specs.Syntax.{Expr, name, call, int, char, text, null, group, prefix, sizeof_type, sizeof_expr, cast, index, member, arrow, binary, conditional, Exprs, no_exprs, more_exprs, TypeName, type_name, Spec, word, struct, struct_body, unnamed_struct, enum, enum_body, unnamed_enum, alias, Enumerator, enumerator, valued, Enumerators, no_enumerators, more_enumerators, Specs, no_specs, more_specs, Member, members_of, Members, no_members, more_members, Declarator, declarator, Declarators, no_declarators, more_declarators}
use Rattle.c_grammar.specs.Leaves.{Leaf, at, text_at}
use Rattle.c_grammar.specs.Grammar.{counted, on_pointers, stars, on, on_args, on_more_args, on_dims, on_type, on_spec, on_specs, on_member, on_members, on_enumerator, on_enumerators, on_comma, on_declarator, on_declarators, on_more_declarators, Naming, as_name, as_any, as_bare, declared_at, naming_of, typed_row, on_declared}
use Rattle.c_grammar.proofs.Lawful.{told}
use Rattle.c_grammar.proofs.TokenLaws.{is_end}

-- no leaf of these is the end
abbrev pub NoEnd : List Leaf → Type 0
NoEnd [] = Unit {0}
NoEnd (l ∷ ls) = (told (λ s. not (is_end s)) l.sign ≡ true) × NoEnd ls

pub no_end_append : (la lb : List Leaf) → NoEnd la → NoEnd lb → NoEnd (la ++ lb)
no_end_append [] lb f g = g
no_end_append (l ∷ la) lb f g = (f.0, no_end_append la lb f.1 g)

no_end_texts : (d : ℕ) (parts : List Span) → NoEnd (map (λ s. at d (text_at s)) parts)
no_end_texts d [] = tt
no_end_texts d (s ∷ parts) = (refl, no_end_texts d parts)

pub no_end_pointers : (d n : ℕ) (ps : List Pointer) → NoEnd (on_pointers d n ps)
no_end_pointers d n [] = tt
no_end_pointers d n (Star ∷ ps) = (refl, no_end_pointers d (n + 1) ps)
no_end_pointers d n (Const ∷ ps) = (refl, no_end_pointers d n ps)
no_end_pointers d n (Restrict ∷ ps) = (refl, no_end_pointers d n ps)

no_end_name : (k : Naming) (ps : List Pointer) (n : Name) → told (λ s. not (is_end s)) (declared_at k ps n) ≡ true
no_end_name as_name ps n = refl
no_end_name as_any ps n = refl
no_end_name as_bare [] n = refl
no_end_name as_bare (p ∷ ps) n = refl

no_end_comma : (d : ℕ) (comma : Bool) → NoEnd (on_comma d comma)
no_end_comma d true = (refl, tt)
no_end_comma d false = tt

mutual
  pub no_end_expr : (d c : ℕ) (e : Expr) → NoEnd (on d c e)
  no_end_expr d c (name n) = (refl, tt)
  no_end_expr d c (call callee args) = (refl, (refl, no_end_append (on_args (d + 1) c args) _ (no_end_args (d + 1) c args) (refl, tt)))
  no_end_expr d c (int place value) = (refl, tt)
  no_end_expr d c (char place value) = (refl, tt)
  no_end_expr d c (text parts) = no_end_texts d parts
  no_end_expr d c (null place) = (refl, tt)
  no_end_expr d c (group e) = (refl, no_end_append (on (d + 1) c e) _ (no_end_expr (d + 1) c e) (refl, tt))
  no_end_expr d c (prefix place op e) = (refl, no_end_expr (d + 1) c e)
  no_end_expr d c (sizeof_type place t) = (refl, (refl, no_end_append (on_type (d + 2) t) _ (no_end_type (d + 2) t) (refl, tt)))
  no_end_expr d c (sizeof_expr place e) = (refl, no_end_expr (d + 1) c e)
  no_end_expr d c (cast place t e) = (refl, no_end_append (on_type (d + 1) t) _ (no_end_type (d + 1) t) (refl, no_end_expr (d + 1) c e))
  no_end_expr d c (index place a i) = no_end_append _ _ (no_end_append (on d c a) _ (no_end_expr d c a) (refl, no_end_expr (d + 1) (counted c a + 1) i)) (refl, tt)
  no_end_expr d c (member place a m) = no_end_append (on d c a) _ (no_end_expr d c a) (refl, (refl, tt))
  no_end_expr d c (arrow place a m) = no_end_append (on d c a) _ (no_end_expr d c a) (refl, (refl, tt))
  no_end_expr d c (binary place op a b) = no_end_append (on d c a) _ (no_end_expr d c a) (refl, no_end_expr d (counted c a + 1) b)
  no_end_expr d c (conditional place a b e) = no_end_append _ _ (no_end_append (on d c a) _ (no_end_expr d c a) (refl, no_end_expr (d + 1) (counted c a) b)) (refl, no_end_expr (d + 1) (counted (counted c a) b) e)

  no_end_args : (d c : ℕ) (es : Exprs) → NoEnd (on_args d c es)
  no_end_args d c no_exprs = tt
  no_end_args d c (more_exprs e es) = no_end_append (on d c e) _ (no_end_expr d c e) (no_end_more_args d (counted c e) es)

  no_end_more_args : (d c : ℕ) (es : Exprs) → NoEnd (on_more_args d c es)
  no_end_more_args d c no_exprs = tt
  no_end_more_args d c (more_exprs e es) = (refl, no_end_append (on d c e) _ (no_end_expr d c e) (no_end_more_args d (counted c e) es))

  pub no_end_dims : (d n : ℕ) (es : Exprs) → NoEnd (on_dims d n es)
  no_end_dims d n no_exprs = tt
  no_end_dims d n (more_exprs e es) = (refl, no_end_append (on (d + 1) 0 e) _ (no_end_expr (d + 1) 0 e) (refl, no_end_dims d (n + 1) es))

  no_end_type : (d : ℕ) (t : TypeName) → NoEnd (on_type d t)
  no_end_type d (type_name ss ps) = no_end_append (on_specs d ss) _ (no_end_specs d ss) (no_end_pointers d 0 ps)

  pub no_end_spec : (d : ℕ) (s : Spec) → NoEnd (on_spec d s)
  no_end_spec d (word place w) = (refl, tt)
  no_end_spec d (struct place tag) = (refl, (refl, tt))
  no_end_spec d (struct_body place tag ms) = (refl, (refl, (refl, no_end_append (on_members (d + 1) ms) _ (no_end_members (d + 1) ms) (refl, tt))))
  no_end_spec d (unnamed_struct place ms) = (refl, (refl, no_end_append (on_members (d + 1) ms) _ (no_end_members (d + 1) ms) (refl, tt)))
  no_end_spec d (enum place tag) = (refl, (refl, tt))
  no_end_spec d (enum_body place tag es) = (refl, (refl, (refl, no_end_append (on_enumerators (d + 1) es) _ (no_end_enumerators (d + 1) es) (refl, tt))))
  no_end_spec d (unnamed_enum place es) = (refl, (refl, no_end_append (on_enumerators (d + 1) es) _ (no_end_enumerators (d + 1) es) (refl, tt)))
  no_end_spec d (alias n) = (refl, tt)

  no_end_enumerator : (d : ℕ) (e : Enumerator) → NoEnd (on_enumerator d e)
  no_end_enumerator d (enumerator n comma) = (refl, no_end_comma d comma)
  no_end_enumerator d (valued n e comma) = (refl, (refl, no_end_append (on d 0 e) _ (no_end_expr d 0 e) (no_end_comma d comma)))

  no_end_enumerators : (d : ℕ) (es : Enumerators) → NoEnd (on_enumerators d es)
  no_end_enumerators d no_enumerators = tt
  no_end_enumerators d (more_enumerators e es) = no_end_append (on_enumerator d e) _ (no_end_enumerator d e) (no_end_enumerators d es)

  no_end_specs : (d : ℕ) (ss : Specs) → NoEnd (on_specs d ss)
  no_end_specs d no_specs = tt
  no_end_specs d (more_specs s ss) = no_end_append (on_spec d s) _ (no_end_spec d s) (no_end_specs d ss)

  no_end_member : (d : ℕ) (m : Member) → NoEnd (on_member d m)
  no_end_member d (members_of ss ds) = no_end_append _ _ (no_end_append (on_specs d ss) _ (no_end_specs d ss) (no_end_declarators d (naming_of (typed_row false ss)) ds)) (refl, tt)

  no_end_members : (d : ℕ) (ms : Members) → NoEnd (on_members d ms)
  no_end_members d no_members = tt
  no_end_members d (more_members m ms) = no_end_append (on_member d m) _ (no_end_member d m) (no_end_members d ms)

  pub no_end_declared : (d : ℕ) (k : Naming) (x : Declarator) → NoEnd (on_declared d k x)
  no_end_declared d k (declarator ps n es) = no_end_append (on_pointers d 0 ps) _ (no_end_pointers d 0 ps) (no_end_name k ps n, no_end_dims d (stars 0 ps) es)

  no_end_declarators : (d : ℕ) (k : Naming) (ds : Declarators) → NoEnd (on_declarators d k ds)
  no_end_declarators d k no_declarators = tt
  no_end_declarators d k (more_declarators x ds) = no_end_append (on_declared d k x) _ (no_end_declared d k x) (no_end_more_declarators d ds)

  no_end_more_declarators : (d : ℕ) (ds : Declarators) → NoEnd (on_more_declarators d ds)
  no_end_more_declarators d no_declarators = tt
  no_end_more_declarators d (more_declarators x ds) = (refl, no_end_append (on_declared d as_any x) _ (no_end_declared d as_any x) (no_end_more_declarators d ds))

pub no_end_declarator : (d : ℕ) (x : Declarator) → NoEnd (on_declarator d x)
no_end_declarator d x = no_end_declared d as_name x
