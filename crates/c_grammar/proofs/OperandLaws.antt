-- The laws of a primary that isn't in brackets.
use Rattle.std.proofs.Common.{◌≡◌, ℕ, suc, ◌+◌, List, [], ◌∷◌, map, Option, Some, None, Bool, true, false, refl, sym, ap, subst, arith, pos, nat_lt}
use Rattle.std.specs.Prelude.{◌||◌}
use Rattle.std.specs.List.{AllByRecursion}
use Rattle.ak_words.specs.declared.number.Num.{Num}
use Rattle.ak_words.specs.IntType.{int as int_type}
use Rattle.ak_words.specs.Num.{num}
use Rattle.c_lex.specs.declared.token.Word.TheVariants as words
use Rattle.c_lex.specs.declared.token.Mark.TheVariants as marks
use Rattle.c_tree.specs.declared.syntax.Name.{Name}
use Rattle.c_tree.specs.declared.syntax.Span.{Span}
use Rattle.c_tree.specs.Syntax.{Expr, name, call, int, char, text, null, binary, conditional}
use Rattle.c_grammar.specs.Leaves.{name_at, text_at, Leaf, at}
use Rattle.c_grammar.specs.Grammar.{counted, on, IsSome, IsExpr}
use Rattle.c_grammar.specs.inner.Readers.{Sort}
use Rattle.c_grammar.specs.inner.Tokens.{is_some, is_mark, is_word, is_text}
use Rattle.c_grammar.specs.inner.Reading.{is_name, Level, named, name_or_call, texts, Operand, Named, AnInt, AChar, Texts, NullWord, operand_by, operand_start, operand, Primary, posts}
use Rattle.c_grammar.proofs.Lawful.{Class, Info, Lawful, both, starts}
use Rattle.c_grammar.proofs.Joints.{Makes, tree, known, narrow}
use Rattle.c_grammar.proofs.Loops.{Rows, from_class, row_leaves, from_leaves, FromIs, option_class, maybe_lawful, row_from_lawful}
use Rattle.c_grammar.proofs.TokenLaws.{Room, plain_class, int_sign, char_sign, word_place_sign, is_int, is_char, name_lawful, text_lawful, int_lawful, char_lawful, word_place_lawful, shallow}
use Rattle.c_grammar.proofs.TreeClasses.{none_less, goes_postfix, expr_class, LevelLawful}
use Rattle.c_grammar.proofs.MoreJoints.{joined, Forms, formed, flat_after}
use Rattle.c_grammar.proofs.Respelling.{Picks, picked}
use Rattle.c_grammar.proofs.ArgumentLaws.{listed, args_class, arguments_lawful}
use Rattle.c_grammar.proofs.PostfixLaws.{BeginsBare, posted_spelt, Adds, postfix_class, posts_lawful}

-- ---- kinds of primaries

abbrev operand_of : Expr → Option Operand
operand_of (name n) = Some Named
operand_of (call n args) = Some Named
operand_of (int place value) = Some AnInt
operand_of (char place value) = Some AChar
operand_of (text parts) = Some Texts
operand_of (null place) = Some NullWord
operand_of _ = None

abbrev WhichOperand : Bool → Operand → Expr → Type 0
WhichOperand b s e = IsExpr b e × (operand_of e ≡ Some s)

abbrev some_name : Name
some_name = record { from = 0; to = 0 }

abbrev some_span : Span
some_span = record { from = 0; to = 0 }

abbrev some_operand : (b : Bool) (s : Operand) → (e : Expr) × WhichOperand b s e
some_operand b Named = (name some_name, (tt, refl))
some_operand b AnInt = (int 0 (num int_type (pos 0)), (tt, refl))
some_operand b AChar = (char 0 (num int_type (pos 0)), (tt, refl))
some_operand b Texts = (text (some_span ∷ []), (tt, refl))
some_operand b NullWord = (null 0, (tt, refl))

-- primaries that aren't in brackets
abbrev pub operand_class : Bool → ℕ → Class
operand_class b d = narrow (expr_class b d 0) (BeginsBare b Primary) (null 0) (none_less 0, tt, refl, refl)

abbrev kind_class : Bool → ℕ → Operand → Class
kind_class b d s = narrow (operand_class b d) (WhichOperand b s) (some_operand b s).0 (some_operand b s).1

abbrev pub begins_operand : Sort → Bool
begins_operand s = is_some (operand_start s)

abbrev pub operand_info : Info
operand_info = record { first = begins_operand; goes = λ s. is_mark marks.OpenParen s || is_text s; empty = false }

abbrev kind_info : Operand → Info
kind_info Named = record { first = is_name; goes = is_mark marks.OpenParen; empty = false }
kind_info AnInt = starts is_int
kind_info AChar = starts is_char
kind_info Texts = record { first = is_text; goes = is_text; empty = false }
kind_info NullWord = starts (is_word words.Null)

-- ---- names and calls

name_forms : (b : Bool) (d : ℕ) → Forms (both (plain_class d name_at some_name) (λ _. option_class (args_class b d))) (kind_class b d Named) (λ (n, args). name_or_call n args)
name_forms b d = record {
  fits = λ a f. named_fits a.0 a.1 f.1;
  spelt = λ c a f. named_spelt c a.0 a.1;
  after = λ c a f. named_after c a.0 a.1;
  back = named_back;
}
  where
    named_fits : (n : Name) (args : Option (List Expr)) → (option_class (args_class b d)).Is args → WhichOperand b Named (name_or_call n args)
    named_fits n None f = (tt, refl)
    named_fits n (Some all) f = (f, refl)

    named_spelt : (c : ℕ) (n : Name) (args : Option (List Expr)) → on d c (name_or_call n args) ≡ at d (name_at n) ∷ (option_class (args_class b d)).leaves c args
    named_spelt c n None = refl
    named_spelt c n (Some all) = refl

    named_after : (c : ℕ) (n : Name) (args : Option (List Expr)) → counted c (name_or_call n args) ≡ (option_class (args_class b d)).after c args
    named_after c n None = refl
    named_after c n (Some all) = refl

    named_back : (e : Expr) → WhichOperand b Named e → (a : Name × Option (List Expr)) × (Unit {0} × (option_class (args_class b d)).Is a.1) × (name_or_call a.0 a.1 ≡ e)
    named_back (name n) f = ((n, None), (tt, tt), refl)
    named_back (call n args) f = let l = listed args in ((n, Some l.0), (tt, subst (IsExpr b) (sym (ap (call n) l.1)) f.0), ap (call n) l.1)
    named_back _ f = absurd (cc f.1)

-- NAME [ arguments ]
pub named_lawful : (b : Bool) (d deeper : ℕ) (inner : Level) → Room d (suc deeper) → LevelLawful b (d + 1) inner → Lawful (kind_class b d Named) (kind_info Named) (named (suc deeper) deeper inner)
unfolding named
named_lawful b d deeper inner e l =
    let args = maybe_lawful (arguments_lawful b d deeper inner e l) (is_mark marks.OpenParen) refl refl in
    let all = joined (name_lawful d (suc deeper) e) args refl in
    known (formed all (kind_class b d Named) (λ (n, args). name_or_call n args) (name_forms b d)) (record { first = refl; goes = refl; empty = refl })

-- ---- strings

abbrev text_rows : ℕ → Rows Span
text_rows d = record {
  first = λ c s. at d (text_at s) ∷ [];
  leaves = λ c s. at d (text_at s) ∷ [];
  after = λ c s. c;
  First = λ s. Unit {0};
  Is = λ s. Unit {0};
  some = some_span;
  some_first = tt;
  some_is = tt;
}

texts_spelt : (d c : ℕ) (parts : List Span) → map (λ s. at d (text_at s)) parts ≡ row_leaves (λ c s. at d (text_at s) ∷ []) (λ c s. c) c parts
texts_spelt d c [] = refl
texts_spelt d c (s ∷ parts) = ap (λ (ls : List Leaf). at d (text_at s) ∷ ls) (texts_spelt d c parts)

text_from_spelt : (d c : ℕ) (parts : List Span) → map (λ s. at d (text_at s)) parts ≡ from_leaves (λ c s. at d (text_at s) ∷ []) (λ c s. at d (text_at s) ∷ []) (λ c s. c) c parts
text_from_spelt d c [] = refl
text_from_spelt d c (s ∷ parts) = ap (λ (ls : List Leaf). at d (text_at s) ∷ ls) (texts_spelt d c parts)

each_any : (parts : List Span) → AllByRecursion (λ s. Unit {0}) parts
each_any [] = tt
each_any (s ∷ parts) = (tt, each_any parts)

some_from : (parts : List Span) → IsSome parts → FromIs (λ s. Unit {0}) (λ s. Unit {0}) parts
some_from [] f = f
some_from (s ∷ parts) f = (tt, each_any parts)

from_some : (parts : List Span) → FromIs (λ s. Unit {0}) (λ s. Unit {0}) parts → IsSome parts
from_some [] f = f
from_some (s ∷ parts) f = tt

text_forms : (b : Bool) (d : ℕ) → Forms (from_class (text_rows d)) (kind_class b d Texts) text
text_forms b d = record {
  fits = λ a f. (from_some a f, refl);
  spelt = λ c a f. text_from_spelt d c a;
  after = λ c a f. sym (flat_after c a);
  back = text_back;
}
  where
    text_back : (e : Expr) → WhichOperand b Texts e → (a : List Span) × FromIs (λ s. Unit {0}) (λ s. Unit {0}) a × (text a ≡ e)
    text_back (text parts) f = (parts, some_from parts f.0, refl)
    text_back _ f = absurd (cc f.1)

-- STRING { STRING }
pub texts_lawful : (b : Bool) (d deeper : ℕ) → Room d (suc deeper) → Lawful (kind_class b d Texts) (kind_info Texts) (texts (suc deeper))
unfolding texts
texts_lawful b d deeper e =
    let one = text_lawful d (suc deeper) e in
    let row = row_from_lawful (text_rows d) one one is_text refl refl refl refl in
    known (formed row (kind_class b d Texts) text (text_forms b d)) (record { first = refl; goes = refl; empty = refl })

-- ---- numbers and NULL

int_makes : (b : Bool) (d : ℕ) → Makes (plain_class d int_sign (0, num int_type (pos 0))) (kind_class b d AnInt) (λ (place, value). int place value)
int_makes b d = record {
  fits = λ a f. (tt, refl);
  spelt = λ c a. refl;
  after = λ c a. refl;
  back = int_back;
}
  where
    int_back : (e : Expr) → WhichOperand b AnInt e → (a : ℕ × Num) × Unit {0} × (int a.0 a.1 ≡ e)
    int_back (int place value) f = ((place, value), tt, refl)
    int_back _ f = absurd (cc f.1)

char_makes : (b : Bool) (d : ℕ) → Makes (plain_class d char_sign (0, num int_type (pos 0))) (kind_class b d AChar) (λ (place, value). char place value)
char_makes b d = record {
  fits = λ a f. (tt, refl);
  spelt = λ c a. refl;
  after = λ c a. refl;
  back = char_back;
}
  where
    char_back : (e : Expr) → WhichOperand b AChar e → (a : ℕ × Num) × Unit {0} × (char a.0 a.1 ≡ e)
    char_back (char place value) f = ((place, value), tt, refl)
    char_back _ f = absurd (cc f.1)

null_makes : (b : Bool) (d : ℕ) → Makes (plain_class d (word_place_sign words.Null) 0) (kind_class b d NullWord) null
null_makes b d = record {
  fits = λ a f. (tt, refl);
  spelt = λ c a. refl;
  after = λ c a. refl;
  back = null_back;
}
  where
    null_back : (e : Expr) → WhichOperand b NullWord e → (a : ℕ) × Unit {0} × (null a ≡ e)
    null_back (null place) f = (place, tt, refl)
    null_back _ f = absurd (cc f.1)

-- ---- one of them

abbrev is_kind : Operand → Option Operand → Bool
is_kind Named (Some Named) = true
is_kind AnInt (Some AnInt) = true
is_kind AChar (Some AChar) = true
is_kind Texts (Some Texts) = true
is_kind NullWord (Some NullWord) = true
is_kind _ _ = false

kind_is : (s : Operand) (o : Option Operand) → is_kind s o ≡ true → o ≡ Some s
kind_is Named (Some Named) e = refl
kind_is AnInt (Some AnInt) e = refl
kind_is AChar (Some AChar) e = refl
kind_is Texts (Some Texts) e = refl
kind_is NullWord (Some NullWord) e = refl
kind_is _ _ e = absurd cc

kind_fits : (b : Bool) (s : Operand) (e : Expr) → WhichOperand b s e → BeginsBare b Primary e
kind_fits b s (name n) f = (none_less 0, f.0, refl, refl)
kind_fits b s (call n args) f = (none_less 0, f.0, refl, refl)
kind_fits b s (int place value) f = (none_less 0, f.0, refl, refl)
kind_fits b s (char place value) f = (none_less 0, f.0, refl, refl)
kind_fits b s (text parts) f = (none_less 0, f.0, refl, refl)
kind_fits b s (null place) f = (none_less 0, f.0, refl, refl)
kind_fits b s _ f = absurd (cc f.1)

which_kind : (b : Bool) (e : Expr) → BeginsBare b Primary e → (s : Operand) × WhichOperand b s e
which_kind b (name n) f = (Named, (f.1, refl))
which_kind b (call n args) f = (Named, (f.1, refl))
which_kind b (int place value) f = (AnInt, (f.1, refl))
which_kind b (char place value) f = (AChar, (f.1, refl))
which_kind b (text parts) f = (Texts, (f.1, refl))
which_kind b (null place) f = (NullWord, (f.1, refl))
which_kind b (binary place op a e) f = absurd (omega (arith, f.0))
which_kind b (conditional place a t e) f = absurd (omega (arith, f.0))
which_kind b _ f = absurd cc

operand_picks : (b : Bool) (d : ℕ) → nat_lt 128 d ≡ false → Picks (operand_class b d) operand_info operand_start (WhichOperand b) kind_info is_kind
operand_picks b d s = record {
  is = kind_is;
  fits = kind_fits b;
  which = which_kind b;
  told = elim [ Named ↦ refl | AnInt ↦ refl | AChar ↦ refl | Texts ↦ refl | NullWord ↦ refl ];
  some = elim [ Named ↦ refl | AnInt ↦ refl | AChar ↦ refl | Texts ↦ refl | NullWord ↦ refl ];
  first = elim [ Named ↦ refl | AnInt ↦ refl | AChar ↦ refl | Texts ↦ refl | NullWord ↦ refl ];
  goes = elim [ Named ↦ refl | AnInt ↦ refl | AChar ↦ refl | Texts ↦ refl | NullWord ↦ refl ];
  shallow = λ c. record { tree = null 0; fits = kind_fits b NullWord (null 0) (some_operand b NullWord).1; shallow = s };
}

operand_part : (b : Bool) (d deeper : ℕ) (inner : Level) → Room d (suc deeper) → LevelLawful b (d + 1) inner → (s : Operand) → Lawful (kind_class b d s) (kind_info s) (operand_by (suc deeper) deeper inner s)
operand_part b d deeper inner e l Named = named_lawful b d deeper inner e l
operand_part b d deeper inner e l AnInt = tree (int_lawful d (suc deeper) e) (kind_class b d AnInt) (λ (place, value). int place value) (int_makes b d)
operand_part b d deeper inner e l AChar = tree (char_lawful d (suc deeper) e) (kind_class b d AChar) (λ (place, value). char place value) (char_makes b d)
operand_part b d deeper inner e l Texts = texts_lawful b d deeper e
operand_part b d deeper inner e l NullWord = tree (word_place_lawful d (suc deeper) e words.Null) (kind_class b d NullWord) null (null_makes b d)

-- a primary that isn't in brackets
pub operand_lawful : (b : Bool) (d deeper : ℕ) (inner : Level) → Room d (suc deeper) → LevelLawful b (d + 1) inner → Lawful (operand_class b d) operand_info (operand (suc deeper) deeper inner)
unfolding operand
operand_lawful b d deeper inner e l = picked (operand_class b d) operand_info operand_start (WhichOperand b) kind_info is_kind (operand_picks b d (shallow d deeper e)) (some_operand b) (operand_by (suc deeper) deeper inner) (operand_part b d deeper inner e l)

-- ---- with the postfix operators behind it

abbrev pub primary_class : Bool → ℕ → Class
primary_class b d = postfix_class b (λ c e. on d c e) Primary (null 0) (none_less 0, tt, refl)

abbrev pub primary_info : Info
primary_info = record { first = begins_operand; goes = goes_postfix; empty = false }

on_adds : (b : Bool) (d : ℕ) → Adds b d Primary (λ c e. on d c e)
on_adds b d c a x f = posted_spelt d c a x

pub primary_lawful : (b : Bool) (d deeper : ℕ) (inner : Level) → Room d (suc deeper) → LevelLawful b (d + 1) inner → Lawful (primary_class b d) primary_info (posts (suc deeper) deeper inner (operand (suc deeper) deeper inner))
primary_lawful b d deeper inner e l =
    let all = posts_lawful b d deeper inner e l Primary (null 0) (none_less 0, tt, refl, refl) (λ c e. on d c e) (on_adds b d) operand_info refl (operand (suc deeper) deeper inner) (operand_lawful b d deeper inner e l) in
    known all (record { first = refl; goes = refl; empty = refl })
