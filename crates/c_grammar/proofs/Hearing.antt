-- One look at the tokens of a tree, from left to right, tells of its names what the tree does: behind each leaf these are the names of types.
use Rattle.std.proofs.Common.{◌≡◌, ℕ, ◌+◌, List, [], ◌∷◌, ◌++◌, map, Bool, true, false, refl, sym, ap, subst, ◌∙◌, append_assoc}
use Rattle.c_lex.specs.declared.token.Word.{Word}
use Rattle.c_lex.specs.declared.token.Word.TheVariants as words
use Rattle.c_lex.specs.declared.token.Mark.{Mark}
use Rattle.c_lex.specs.declared.token.Mark.TheVariants as marks
use Rattle.ak_words.specs.declared.operation.Op.TheVariants as ops
use Rattle.c_tree.specs.declared.syntax.Name.{Name}
use Rattle.c_tree.specs.declared.syntax.Span.{Span}
use Rattle.c_tree.specs.declared.syntax.TypeWord.{TypeWord}
use Rattle.c_tree.specs.declared.syntax.TypeWord.TheVariants as types
use Rattle.c_tree.specs.declared.syntax.Pointer.{Pointer}
use Rattle.c_tree.specs.declared.syntax.Pointer.TheVariants.{Star, Const, Restrict}
use Rattle.c_tree.specs.declared.syntax.Storage.{Storage}
use Rattle.c_tree.specs.declared.syntax.Storage.TheVariants as storages
use Rattle.c_tree.specs.declared.syntax.PrefixOp.{PrefixOp}
use Rattle.c_tree.specs.declared.syntax.PrefixOp.TheVariants as prefixes
use Rattle.c_tree.specs.declared.syntax.BinaryOp.{BinaryOp}
use Rattle.c_tree.specs.declared.syntax.BinaryOp.TheVariants.{Value, AndAnd, OrOr}
use Rattle.c_tree.specs.declared.syntax.StepOp.{StepOp}
use Rattle.c_tree.specs.declared.syntax.StepOp.TheVariants as steps
use Rattle.c_tree.specs.declared.syntax.AssignOp.{AssignOp}
use Rattle.c_tree.specs.declared.syntax.AssignOp.TheVariants as assigns
use Rattle.c_tree.specs.Syntax.{Expr, name, call, int, char, text, null, group, prefix, sizeof_type, sizeof_expr, cast, index, member, arrow, binary, conditional, Exprs, no_exprs, more_exprs, TypeName, type_name, Spec, word, struct, struct_body, unnamed_struct, enum, enum_body, unnamed_enum, alias, Enumerator, enumerator, valued, Enumerators, no_enumerators, more_enumerators, Specs, no_specs, more_specs, Member, members_of, Members, no_members, more_members, Declarator, declarator, Declarators, no_declarators, more_declarators}
use Rattle.c_grammar.specs.Leaves.{Sign, name_at, type_at, tag_at, int_at, char_at, text_at, word_at, some_word, mark_at, some_mark, declares, the_end, Leaf, at, operator_at, derivation_at}
use Rattle.c_grammar.specs.Grammar.{word_of_type, word_of_storage, mark_of_prefix, mark_of_binary, mark_of_step, mark_of_assign, counted, on_pointers, stars, on, on_args, on_more_args, on_dims, on_type, on_spec, on_specs, on_member, on_members, on_enumerator, on_enumerators, on_comma, on_declarators, on_more_declarators, Naming, as_name, as_any, as_bare, declared_at, naming_of, typed_row, on_declared}
use Rattle.c_grammar.specs.Names.{Names, spelling, types_behind}
use Rattle.c_grammar.specs.inner.Marking.{Scan, is_outside, by_name, by_comma, by_end, deeper, shallower, by_mark, by_word}

-- ---- the look at leaves

-- behind a leaf
abbrev pub behind_sign : List ℕ → Scan → Sign → Scan
behind_sign t s (name_at n) = by_name s (spelling t n) (is_outside s)
behind_sign t s (type_at n) = by_name s (spelling t n) (is_outside s)
behind_sign t s (tag_at n) = by_name s (spelling t n) (is_outside s)
behind_sign t s (int_at place value) = s
behind_sign t s (char_at place value) = s
behind_sign t s (text_at x) = s
behind_sign t s (word_at place w) = by_word s w
behind_sign t s (some_word w) = by_word s w
behind_sign t s (mark_at place m) = by_mark s m
behind_sign t s (some_mark m) = by_mark s m
behind_sign t s (declares m n) = by_mark s m
behind_sign t s the_end = s

abbrev pub run : List ℕ → Scan → List Leaf → Scan
run t s [] = s
run t s (l ∷ ls) = run t (behind_sign t s l.sign) ls

-- behind each of the leaves the names of types are those that the leaf tells
abbrev pub Heard : List ℕ → Scan → List Leaf → Type 0
Heard t s [] = Unit {0}
Heard t s (l ∷ ls) = ((behind_sign t s l.sign).types ≡ types_behind t s.types l.sign) × Heard t (behind_sign t s l.sign) ls

pub run_append : (t : List ℕ) (s : Scan) (la lb : List Leaf) → run t s (la ++ lb) ≡ run t (run t s la) lb
run_append t s [] lb = refl
run_append t s (l ∷ la) lb = run_append t (behind_sign t s l.sign) la lb

pub heard_append : (t : List ℕ) (s : Scan) (la lb : List Leaf) → Heard t s la → Heard t (run t s la) lb → Heard t s (la ++ lb)
heard_append t s [] lb f g = g
heard_append t s (l ∷ la) lb f g = (f.0, heard_append t (behind_sign t s l.sign) la lb f.1 g)

pub heard_front : (t : List ℕ) (s : Scan) (la lb : List Leaf) → Heard t s (la ++ lb) → Heard t s la
heard_front t s [] lb f = tt
heard_front t s (l ∷ la) lb f = (f.0, heard_front t (behind_sign t s l.sign) la lb f.1)

-- ---- leaves that change nothing where no typedef's declarators stand

-- what a leaf does to brackets and typedefs
pub data Way : Type 0 where
  stays : Way
  opens : Way
  closes : Way
  turns : Way

abbrev pub way_of_mark : Mark → Way
way_of_mark marks.OpenParen = opens
way_of_mark marks.OpenBracket = opens
way_of_mark marks.OpenBrace = opens
way_of_mark marks.CloseParen = closes
way_of_mark marks.CloseBracket = closes
way_of_mark marks.CloseBrace = closes
way_of_mark _ = stays

abbrev pub way_of_word : Word → Way
way_of_word words.Typedef = turns
way_of_word _ = stays

abbrev pub way : Sign → Way
way (word_at place w) = way_of_word w
way (some_word w) = way_of_word w
way (mark_at place m) = way_of_mark m
way (some_mark m) = way_of_mark m
way (declares m n) = turns
way _ = stays

-- nothing is changed, in brackets or where there is no typedef
pub record Still (ls : List Leaf) : Type 0 where
  pub go : (t : List ℕ) (s : Scan) → is_outside s ≡ false → Heard t s ls × (run t s ls ≡ s)

mark_stays : (s : Scan) (m : Mark) → way_of_mark m ≡ stays → is_outside s ≡ false → by_mark s m ≡ s
mark_stays s marks.Comma e f = ap (by_comma s) f
mark_stays s marks.Semicolon e f = ap (by_end s) f
mark_stays s marks.OpenParen e f = absurd cc
mark_stays s marks.OpenBracket e f = absurd cc
mark_stays s marks.OpenBrace e f = absurd cc
mark_stays s marks.CloseParen e f = absurd cc
mark_stays s marks.CloseBracket e f = absurd cc
mark_stays s marks.CloseBrace e f = absurd cc
mark_stays s _ e f = refl

word_stays : (s : Scan) (w : Word) → way_of_word w ≡ stays → by_word s w ≡ s
word_stays s words.Typedef e = absurd cc
word_stays s _ e = refl

sign_stays : (t : List ℕ) (s : Scan) (x : Sign) → way x ≡ stays → is_outside s ≡ false → behind_sign t s x ≡ s
sign_stays t s (name_at n) e f = ap (by_name s (spelling t n)) f
sign_stays t s (type_at n) e f = ap (by_name s (spelling t n)) f
sign_stays t s (tag_at n) e f = ap (by_name s (spelling t n)) f
sign_stays t s (int_at place value) e f = refl
sign_stays t s (char_at place value) e f = refl
sign_stays t s (text_at x) e f = refl
sign_stays t s (word_at place w) e f = word_stays s w e
sign_stays t s (some_word w) e f = word_stays s w e
sign_stays t s (mark_at place m) e f = mark_stays s m e f
sign_stays t s (some_mark m) e f = mark_stays s m e f
sign_stays t s (declares m n) e f = absurd cc
sign_stays t s the_end e f = refl

-- a leaf that is no end of a declarator changes no names of types
same_types : (t : List ℕ) (types : Names) (x : Sign) → way x ≡ stays → types_behind t types x ≡ types
same_types t types (declares m n) e = absurd cc
same_types t types _ e = refl

mark_opens : (s : Scan) (m : Mark) → way_of_mark m ≡ opens → by_mark s m ≡ deeper s
mark_opens s marks.OpenParen e = refl
mark_opens s marks.OpenBracket e = refl
mark_opens s marks.OpenBrace e = refl
mark_opens s _ e = absurd cc

mark_closes : (s : Scan) (m : Mark) → way_of_mark m ≡ closes → by_mark s m ≡ shallower s
mark_closes s marks.CloseParen e = refl
mark_closes s marks.CloseBracket e = refl
mark_closes s marks.CloseBrace e = refl
mark_closes s _ e = absurd cc

no_word : (w : Word) (v : Way) → way_of_word w ≡ v → (v ≡ opens) → ⊥
no_word words.Typedef v e f = absurd (cc (e, f))
no_word _ v e f = absurd (cc (e, f))

no_close : (w : Word) (v : Way) → way_of_word w ≡ v → (v ≡ closes) → ⊥
no_close words.Typedef v e f = absurd (cc (e, f))
no_close _ v e f = absurd (cc (e, f))

sign_opens : (t : List ℕ) (s : Scan) (x : Sign) → way x ≡ opens → (behind_sign t s x ≡ deeper s) × (types_behind t s.types x ≡ s.types)
sign_opens t s (mark_at place m) e = (mark_opens s m e, refl)
sign_opens t s (some_mark m) e = (mark_opens s m e, refl)
sign_opens t s (word_at place w) e = absurd (no_word w opens e refl)
sign_opens t s (some_word w) e = absurd (no_word w opens e refl)
sign_opens t s _ e = absurd cc

sign_closes : (t : List ℕ) (s : Scan) (x : Sign) → way x ≡ closes → (behind_sign t s x ≡ shallower s) × (types_behind t s.types x ≡ s.types)
sign_closes t s (mark_at place m) e = (mark_closes s m e, refl)
sign_closes t s (some_mark m) e = (mark_closes s m e, refl)
sign_closes t s (word_at place w) e = absurd (no_close w closes e refl)
sign_closes t s (some_word w) e = absurd (no_close w closes e refl)
sign_closes t s _ e = absurd cc

-- a leaf, where what is behind it is known
pub heard_first : (t : List ℕ) (s u : Scan) (l : Leaf) (ls : List Leaf) → behind_sign t s l.sign ≡ u → types_behind t s.types l.sign ≡ u.types → Heard t u ls → Heard t s (l ∷ ls)
heard_first t s u l ls e f h = (ap (λ (x : Scan). x.types) e ∙ sym f, subst (λ (x : Scan). Heard t x ls) (sym e) h)

pub run_first : (t : List ℕ) (s u v : Scan) (l : Leaf) (ls : List Leaf) → behind_sign t s l.sign ≡ u → run t u ls ≡ v → run t s (l ∷ ls) ≡ v
run_first t s u v l ls e f = ap (λ (x : Scan). run t x ls) e ∙ f

pub still_none : Still []
still_none = record { go = λ t s e. (tt, refl) }

pub still : (l : Leaf) (ls : List Leaf) → way l.sign ≡ stays → Still ls → Still (l ∷ ls)
still l ls w f = record {
  go = λ t s e.
      let h = sign_stays t s l.sign w e in
      let r = f.go t s e in
      (heard_first t s s l ls h (same_types t s.types l.sign w) r.0, run_first t s s s l ls h r.1);
}

pub still_append : (la lb : List Leaf) → Still la → Still lb → Still (la ++ lb)
still_append la lb f g = record {
  go = λ t s e.
      let a = f.go t s e in
      let b = g.go t s e in
      (heard_append t s la lb a.0 (subst (λ (x : Scan). Heard t x lb) (sym a.1) b.0), run_append t s la lb ∙ ap (λ (x : Scan). run t x lb) a.1 ∙ b.1);
}

-- the same, with the brackets otherwise
pub still_shift : (la lb lc : List Leaf) → Still (la ++ (lb ++ lc)) → Still ((la ++ lb) ++ lc)
still_shift la lb lc f = subst Still (sym (append_assoc la lb lc)) f

-- nothing is changed, wherever it stands
pub record Firm (ls : List Leaf) : Type 0 where
  pub go : (t : List ℕ) (s : Scan) → Heard t s ls × (run t s ls ≡ s)

pub firm_still : (ls : List Leaf) → Firm ls → Still ls
firm_still ls f = record { go = λ t s e. f.go t s }

pub firm_none : Firm []
firm_none = record { go = λ t s. (tt, refl) }

-- a leaf that does nothing at all
pub firm : (l : Leaf) (ls : List Leaf) → ((t : List ℕ) (s : Scan) → behind_sign t s l.sign ≡ s) → ((t : List ℕ) (ns : Names) → types_behind t ns l.sign ≡ ns) → Firm ls → Firm (l ∷ ls)
firm l ls h k f = record { go = λ t s. let r = f.go t s in (heard_first t s s l ls (h t s) (k t s.types) r.0, run_first t s s s l ls (h t s) r.1) }

-- brackets round leaves, and leaves behind them
wrapped : (o : Leaf) (ls : List Leaf) (c : Leaf) (more : List Leaf) → way o.sign ≡ opens → way c.sign ≡ closes → Still ls → (t : List ℕ) (s : Scan) → Heard t s more × (run t s more ≡ s) → Heard t s (o ∷ ls ++ c ∷ more) × (run t s (o ∷ ls ++ c ∷ more) ≡ s)
wrapped o ls c more a b f t s m =
    let x = sign_opens t s o.sign a in
    let i = f.go t (deeper s) refl in
    let y = sign_closes t (deeper s) c.sign b in
    let behind : Heard t (deeper s) (c ∷ more) = heard_first t (deeper s) s c more y.0 y.1 m.0 in
    let inside : Heard t (deeper s) (ls ++ c ∷ more) = heard_append t (deeper s) ls (c ∷ more) i.0 (subst (λ (x : Scan). Heard t x (c ∷ more)) (sym i.1) behind) in
    let there : run t (deeper s) (ls ++ c ∷ more) ≡ s = run_append t (deeper s) ls (c ∷ more) ∙ ap (λ (x : Scan). run t x (c ∷ more)) i.1 ∙ run_first t (deeper s) s s c more y.0 m.1 in
    (heard_first t s (deeper s) o (ls ++ c ∷ more) x.0 x.1 inside, run_first t s (deeper s) s o (ls ++ c ∷ more) x.0 there)

pub still_wrap : (o : Leaf) (ls : List Leaf) (c : Leaf) (more : List Leaf) → way o.sign ≡ opens → way c.sign ≡ closes → Still ls → Still more → Still (o ∷ ls ++ c ∷ more)
still_wrap o ls c more a b f g = record { go = λ t s e. wrapped o ls c more a b f t s (g.go t s e) }

pub firm_wrap : (o : Leaf) (ls : List Leaf) (c : Leaf) (more : List Leaf) → way o.sign ≡ opens → way c.sign ≡ closes → Still ls → Firm more → Firm (o ∷ ls ++ c ∷ more)
firm_wrap o ls c more a b f g = record { go = λ t s. wrapped o ls c more a b f t s (g.go t s) }

-- ---- the words and marks of a tree

type_word_stays : (w : TypeWord) → way_of_word (word_of_type w) ≡ stays
type_word_stays types.Void = refl
type_word_stays types.Char = refl
type_word_stays types.Short = refl
type_word_stays types.Int = refl
type_word_stays types.Long = refl
type_word_stays types.Signed = refl
type_word_stays types.Unsigned = refl
type_word_stays types.SizeT = refl
type_word_stays types.ThrdT = refl
type_word_stays types.MtxT = refl
type_word_stays types.Const = refl
type_word_stays types.Register = refl
type_word_stays types.Auto = refl
type_word_stays types.Atomic = refl

-- a word of a type
pub firm_type_word : (d place : ℕ) (w : TypeWord) → Firm (at d (word_at place (word_of_type w)) ∷ [])
firm_type_word d place w = firm (at d (word_at place (word_of_type w))) [] (λ t s. word_stays s (word_of_type w) (type_word_stays w)) (λ t ns. refl) firm_none

pub storage_stays : (w : Storage) → way_of_word (word_of_storage w) ≡ stays
storage_stays storages.Static = refl
storage_stays storages.Inline = refl

prefix_stays : (op : PrefixOp) → way_of_mark (mark_of_prefix op) ≡ stays
prefix_stays prefixes.Minus = refl
prefix_stays prefixes.Plus = refl
prefix_stays prefixes.Not = refl
prefix_stays prefixes.Complement = refl
prefix_stays prefixes.Deref = refl
prefix_stays prefixes.AddressOf = refl

binary_stays : (op : BinaryOp) → way_of_mark (mark_of_binary op) ≡ stays
binary_stays (Value ops.Mul) = refl
binary_stays (Value ops.Div) = refl
binary_stays (Value ops.Rem) = refl
binary_stays (Value ops.Add) = refl
binary_stays (Value ops.Sub) = refl
binary_stays (Value ops.Shl) = refl
binary_stays (Value ops.Shr) = refl
binary_stays (Value ops.Lt) = refl
binary_stays (Value ops.Gt) = refl
binary_stays (Value ops.Le) = refl
binary_stays (Value ops.Ge) = refl
binary_stays (Value ops.Eq) = refl
binary_stays (Value ops.Ne) = refl
binary_stays (Value ops.And) = refl
binary_stays (Value ops.Xor) = refl
binary_stays (Value ops.Or) = refl
binary_stays AndAnd = refl
binary_stays OrOr = refl

pub step_stays : (op : StepOp) → way_of_mark (mark_of_step op) ≡ stays
step_stays steps.Increment = refl
step_stays steps.Decrement = refl

pub assign_stays : (op : AssignOp) → way_of_mark (mark_of_assign op) ≡ stays
assign_stays assigns.Plain = refl
assign_stays assigns.Add = refl
assign_stays assigns.Sub = refl
assign_stays assigns.Mul = refl
assign_stays assigns.Div = refl
assign_stays assigns.Rem = refl
assign_stays assigns.And = refl
assign_stays assigns.Or = refl
assign_stays assigns.Xor = refl
assign_stays assigns.Shl = refl
assign_stays assigns.Shr = refl

-- the name in a declarator
declared_stays : (k : Naming) (ps : List Pointer) (n : Name) → way (declared_at k ps n) ≡ stays
declared_stays as_name ps n = refl
declared_stays as_any ps n = refl
declared_stays as_bare [] n = refl
declared_stays as_bare (p ∷ ps) n = refl

pub behind_declared : (t : List ℕ) (s : Scan) (k : Naming) (ps : List Pointer) (n : Name) → behind_sign t s (declared_at k ps n) ≡ by_name s (spelling t n) (is_outside s)
behind_declared t s as_name ps n = refl
behind_declared t s as_any ps n = refl
behind_declared t s as_bare [] n = refl
behind_declared t s as_bare (p ∷ ps) n = refl

pub types_declared : (t : List ℕ) (ns : Names) (k : Naming) (ps : List Pointer) (n : Name) → types_behind t ns (declared_at k ps n) ≡ ns
types_declared t ns as_name ps n = refl
types_declared t ns as_any ps n = refl
types_declared t ns as_bare [] n = refl
types_declared t ns as_bare (p ∷ ps) n = refl

-- ---- expressions, types and declarators

still_texts : (d : ℕ) (parts : List Span) → Still (map (λ s. at d (text_at s)) parts)
still_texts d [] = still_none
still_texts d (s ∷ parts) = still (at d (text_at s)) _ refl (still_texts d parts)

pub firm_pointers : (d n : ℕ) (ps : List Pointer) → Firm (on_pointers d n ps)
firm_pointers d n [] = firm_none
firm_pointers d n (Star ∷ ps) = firm (derivation_at d (n + 1) (some_mark marks.Star)) _ (λ t s. refl) (λ t ns. refl) (firm_pointers d (n + 1) ps)
firm_pointers d n (Const ∷ ps) = firm (at d (some_word words.Const)) _ (λ t s. refl) (λ t ns. refl) (firm_pointers d n ps)
firm_pointers d n (Restrict ∷ ps) = firm (at d (some_word words.Restrict)) _ (λ t s. refl) (λ t ns. refl) (firm_pointers d n ps)

pub still_pointers : (d n : ℕ) (ps : List Pointer) → Still (on_pointers d n ps)
still_pointers d n ps = firm_still (on_pointers d n ps) (firm_pointers d n ps)

still_comma : (d : ℕ) (comma : Bool) → Still (on_comma d comma)
still_comma d true = still (at d (some_mark marks.Comma)) [] refl still_none
still_comma d false = still_none

mutual
  pub still_expr : (d c : ℕ) (e : Expr) → Still (on d c e)
  still_expr d c (name n) = still (at d (name_at n)) [] refl still_none
  still_expr d c (call callee args) = still (at d (name_at callee)) _ refl (still_wrap (at (d + 1) (some_mark marks.OpenParen)) (on_args (d + 1) c args) (at (d + 1) (some_mark marks.CloseParen)) [] refl refl (still_args (d + 1) c args) still_none)
  still_expr d c (int place value) = still (at d (int_at place value)) [] refl still_none
  still_expr d c (char place value) = still (at d (char_at place value)) [] refl still_none
  still_expr d c (text parts) = still_texts d parts
  still_expr d c (null place) = still (at d (word_at place words.Null)) [] refl still_none
  still_expr d c (group e) = still_wrap (at (d + 1) (some_mark marks.OpenParen)) (on (d + 1) c e) (at (d + 1) (some_mark marks.CloseParen)) [] refl refl (still_expr (d + 1) c e) still_none
  still_expr d c (prefix place op e) = still (at d (mark_at place (mark_of_prefix op))) (on (d + 1) c e) (prefix_stays op) (still_expr (d + 1) c e)
  still_expr d c (sizeof_type place x) = still (at d (word_at place words.Sizeof)) _ refl (still_wrap (at (d + 2) (some_mark marks.OpenParen)) (on_type (d + 2) x) (at (d + 2) (some_mark marks.CloseParen)) [] refl refl (still_type (d + 2) x) still_none)
  still_expr d c (sizeof_expr place e) = still (at d (word_at place words.Sizeof)) (on (d + 1) c e) refl (still_expr (d + 1) c e)
  still_expr d c (cast place x e) = still_wrap (at (d + 1) (mark_at place marks.OpenParen)) (on_type (d + 1) x) (at (d + 1) (some_mark marks.CloseParen)) (on (d + 1) c e) refl refl (still_type (d + 1) x) (still_expr (d + 1) c e)
  still_expr d c (index place a i) = still_shift (on d c a) (operator_at (d + 1) (counted c a + 1) (mark_at place marks.OpenBracket) ∷ on (d + 1) (counted c a + 1) i) (at (d + 1) (some_mark marks.CloseBracket) ∷ [])
      (still_append (on d c a) (operator_at (d + 1) (counted c a + 1) (mark_at place marks.OpenBracket) ∷ on (d + 1) (counted c a + 1) i ++ at (d + 1) (some_mark marks.CloseBracket) ∷ []) (still_expr d c a)
      (still_wrap (operator_at (d + 1) (counted c a + 1) (mark_at place marks.OpenBracket)) (on (d + 1) (counted c a + 1) i) (at (d + 1) (some_mark marks.CloseBracket)) [] refl refl (still_expr (d + 1) (counted c a + 1) i) still_none))
  still_expr d c (member place a m) = still_append (on d c a) _ (still_expr d c a) (still (operator_at d (counted c a + 1) (mark_at place marks.Dot)) _ refl (still (at d (tag_at m)) [] refl still_none))
  still_expr d c (arrow place a m) = still_append (on d c a) _ (still_expr d c a) (still (operator_at d (counted c a + 1) (mark_at place marks.Arrow)) _ refl (still (at d (tag_at m)) [] refl still_none))
  still_expr d c (binary place op a b) = still_append (on d c a) _ (still_expr d c a) (still (operator_at d (counted c a + 1) (mark_at place (mark_of_binary op))) _ (binary_stays op) (still_expr d (counted c a + 1) b))
  still_expr d c (conditional place a b e) = still_append (on d c a ++ at d (mark_at place marks.Question) ∷ on (d + 1) (counted c a) b) (at d (some_mark marks.Colon) ∷ on (d + 1) (counted (counted c a) b) e)
      (still_append (on d c a) (at d (mark_at place marks.Question) ∷ on (d + 1) (counted c a) b) (still_expr d c a) (still (at d (mark_at place marks.Question)) (on (d + 1) (counted c a) b) refl (still_expr (d + 1) (counted c a) b)))
      (still (at d (some_mark marks.Colon)) (on (d + 1) (counted (counted c a) b) e) refl (still_expr (d + 1) (counted (counted c a) b) e))

  still_args : (d c : ℕ) (es : Exprs) → Still (on_args d c es)
  still_args d c no_exprs = still_none
  still_args d c (more_exprs e es) = still_append (on d c e) _ (still_expr d c e) (still_more_args d (counted c e) es)

  still_more_args : (d c : ℕ) (es : Exprs) → Still (on_more_args d c es)
  still_more_args d c no_exprs = still_none
  still_more_args d c (more_exprs e es) = still (at d (some_mark marks.Comma)) _ refl (still_append (on d c e) _ (still_expr d c e) (still_more_args d (counted c e) es))

  pub firm_dims : (d n : ℕ) (es : Exprs) → Firm (on_dims d n es)
  firm_dims d n no_exprs = firm_none
  firm_dims d n (more_exprs e es) = firm_wrap (derivation_at (d + 1) (n + 1) (some_mark marks.OpenBracket)) (on (d + 1) 0 e) (at (d + 1) (some_mark marks.CloseBracket)) (on_dims d (n + 1) es) refl refl (still_expr (d + 1) 0 e) (firm_dims d (n + 1) es)

  still_type : (d : ℕ) (x : TypeName) → Still (on_type d x)
  still_type d (type_name ss ps) = still_append (on_specs d ss) _ (still_specs d ss) (still_pointers d 0 ps)

  pub still_spec : (d : ℕ) (x : Spec) → Still (on_spec d x)
  still_spec d (word place w) = still (at d (word_at place (word_of_type w))) [] (type_word_stays w) still_none
  still_spec d (struct place tag) = still (at d (word_at place words.Struct)) _ refl (still (at d (tag_at tag)) [] refl still_none)
  still_spec d (struct_body place tag ms) = still (at d (word_at place words.Struct)) _ refl (still (at d (tag_at tag)) _ refl (still_wrap (at (d + 1) (some_mark marks.OpenBrace)) (on_members (d + 1) ms) (at (d + 1) (some_mark marks.CloseBrace)) [] refl refl (still_members (d + 1) ms) still_none))
  still_spec d (unnamed_struct place ms) = still (at d (word_at place words.Struct)) _ refl (still_wrap (at (d + 1) (some_mark marks.OpenBrace)) (on_members (d + 1) ms) (at (d + 1) (some_mark marks.CloseBrace)) [] refl refl (still_members (d + 1) ms) still_none)
  still_spec d (enum place tag) = still (at d (word_at place words.Enum)) _ refl (still (at d (tag_at tag)) [] refl still_none)
  still_spec d (enum_body place tag es) = still (at d (word_at place words.Enum)) _ refl (still (at d (tag_at tag)) _ refl (still_wrap (at (d + 1) (some_mark marks.OpenBrace)) (on_enumerators (d + 1) es) (at (d + 1) (some_mark marks.CloseBrace)) [] refl refl (still_enumerators (d + 1) es) still_none))
  still_spec d (unnamed_enum place es) = still (at d (word_at place words.Enum)) _ refl (still_wrap (at (d + 1) (some_mark marks.OpenBrace)) (on_enumerators (d + 1) es) (at (d + 1) (some_mark marks.CloseBrace)) [] refl refl (still_enumerators (d + 1) es) still_none)
  still_spec d (alias n) = still (at d (type_at n)) [] refl still_none

  still_enumerator : (d : ℕ) (e : Enumerator) → Still (on_enumerator d e)
  still_enumerator d (enumerator n comma) = still (at d (name_at n)) _ refl (still_comma d comma)
  still_enumerator d (valued n e comma) = still (at d (name_at n)) _ refl (still (at d (some_mark marks.Assign)) _ refl (still_append (on d 0 e) _ (still_expr d 0 e) (still_comma d comma)))

  pub still_enumerators : (d : ℕ) (es : Enumerators) → Still (on_enumerators d es)
  still_enumerators d no_enumerators = still_none
  still_enumerators d (more_enumerators e es) = still_append (on_enumerator d e) _ (still_enumerator d e) (still_enumerators d es)

  still_specs : (d : ℕ) (ss : Specs) → Still (on_specs d ss)
  still_specs d no_specs = still_none
  still_specs d (more_specs x ss) = still_append (on_spec d x) _ (still_spec d x) (still_specs d ss)

  still_member : (d : ℕ) (m : Member) → Still (on_member d m)
  still_member d (members_of ss ds) = still_append (on_specs d ss ++ on_declarators d (naming_of (typed_row false ss)) ds) (at d (some_mark marks.Semicolon) ∷ []) (still_append (on_specs d ss) (on_declarators d (naming_of (typed_row false ss)) ds) (still_specs d ss) (still_declarators d (naming_of (typed_row false ss)) ds)) (still (at d (some_mark marks.Semicolon)) [] refl still_none)

  pub still_members : (d : ℕ) (ms : Members) → Still (on_members d ms)
  still_members d no_members = still_none
  still_members d (more_members m ms) = still_append (on_member d m) _ (still_member d m) (still_members d ms)

  pub still_declared : (d : ℕ) (k : Naming) (x : Declarator) → Still (on_declared d k x)
  still_declared d k (declarator ps n es) = still_append (on_pointers d 0 ps) _ (still_pointers d 0 ps) (still (at d (declared_at k ps n)) (on_dims d (stars 0 ps) es) (declared_stays k ps n) (firm_still (on_dims d (stars 0 ps) es) (firm_dims d (stars 0 ps) es)))

  still_declarators : (d : ℕ) (k : Naming) (ds : Declarators) → Still (on_declarators d k ds)
  still_declarators d k no_declarators = still_none
  still_declarators d k (more_declarators x ds) = still_append (on_declared d k x) _ (still_declared d k x) (still_more_declarators d ds)

  still_more_declarators : (d : ℕ) (ds : Declarators) → Still (on_more_declarators d ds)
  still_more_declarators d no_declarators = still_none
  still_more_declarators d (more_declarators x ds) = still (at d (some_mark marks.Comma)) _ refl (still_append (on_declared d as_any x) _ (still_declared d as_any x) (still_more_declarators d ds))
