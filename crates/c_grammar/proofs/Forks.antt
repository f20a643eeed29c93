-- More joints that keep the laws: trees that are spelled alike, and one of two parts.
use Rattle.std.proofs.Common.{◌≡◌, ℕ, List, Some, Bool, true, false, refl, sym, ap, subst, ◌∙◌}
use Rattle.c_grammar.specs.Leaves.{Leaf}
use Rattle.c_grammar.specs.inner.Readers.{Reads, Sort, made}
use Rattle.c_grammar.specs.inner.Reading.{either_by, either}
use Rattle.c_grammar.proofs.Sorts.{apart, are_apart, inside, is_inside}
use Rattle.c_grammar.proofs.Runs.{Within, Over, Stopped}
use Rattle.c_grammar.proofs.Lawful.{Class, Info, HeadIn, Headed, Lawful}
use Rattle.c_grammar.proofs.Joints.{narrow, chosen}
use Rattle.c_grammar.proofs.Respelling.{Respells, respelt}

-- trees that are spelled alike
pub record Spells (C D : Class) (f : C.Tree → D.Tree) : Type 0 where
  pub fits : (a : C.Tree) → C.Is a → D.Is (f a)
  pub spelt : (c : ℕ) (a : C.Tree) → C.Is a → D.leaves c (f a) ≡ C.leaves c a
  pub after : (c : ℕ) (a : C.Tree) → C.Is a → D.after c (f a) ≡ C.after c a
  pub back : (b : D.Tree) → D.Is b → (a : C.Tree) × C.Is a × (f a ≡ b)

pub respells : {C D : Class} {f : C.Tree → D.Tree} → Spells C D f → Respells C D f
respells {C = C} {D = D} {f = f} m = record {
  fits = m.fits;
  after = m.after;
  within = λ c a is ts z w. subst (λ (ls : List Leaf). Within ls ts z) (sym (m.spelt c a is)) w;
  stopped = λ c a is ts w n s. subst (λ (ls : List Leaf). Stopped ls ts w n) (sym (m.spelt c a is)) s;
  back_within = λ c b is ts z w. let a = m.back b is in
      (a.0, a.1, a.2, subst (λ (ls : List Leaf). Within ls ts z) (ap (D.leaves c) (sym a.2) ∙ m.spelt c a.0 a.1) w);
  back_over = λ c b is ts k n o. let a = m.back b is in
      (a.0, a.1, a.2, subst (λ (ls : List Leaf). Over ls ts k n) (ap (D.leaves c) (sym a.2) ∙ m.spelt c a.0 a.1) o);
}

spells_headed : (C D : Class) (I : Info) (f : C.Tree → D.Tree) → Spells C D f → Headed C I → Headed D I
spells_headed C D I f m h c b is = let a = m.back b is in
    subst (λ (ls : List Leaf). HeadIn I ls) (sym (m.spelt c a.0 a.1) ∙ ap (D.leaves c) a.2) (h c a.0 a.1)

-- the tree that the parts make, where it is made so of those alone that fit
pub tree_where : {C : Class} {I : Info} {r : Reads C.Tree} → Lawful C I r → (D : Class) (f : C.Tree → D.Tree) → Spells C D f → Lawful D I (made f r)
tree_where {C = C} {I = I} l D f m = respelt l D f (respells m) (spells_headed C D I f m l.headed)

-- ---- one of two parts

-- which of two
abbrev pub by_which : {A : Type 0} → (A → Type 0) → (A → Type 0) → Bool → A → Type 0
by_which Yes No true a = Yes a
by_which Yes No false a = No a

-- the trees of a class are those of two others, told apart by the first token, or by what may follow where the second has none
pub record Forks (D : Class) (I J K : Info) (start : Sort → Bool) (Yes No : D.Tree → Type 0) : Type 0 where
  pub yes_fits : (a : D.Tree) → Yes a → D.Is a
  pub no_fits : (a : D.Tree) → No a → D.Is a
  pub which : (a : D.Tree) → D.Is a → (b : Bool) × by_which Yes No b a
  pub told_yes : inside J.first start ≡ true
  pub told_no : apart K.first start ≡ true
  pub some : J.empty ≡ false
  pub left : K.empty ≡ true → inside start I.goes ≡ true
  pub first_yes : inside J.first I.first ≡ true
  pub first_no : inside K.first I.first ≡ true
  pub goes_yes : inside J.goes I.goes ≡ true
  pub goes_no : inside K.goes I.goes ≡ true
  pub empty : K.empty ≡ true → I.empty ≡ true

abbrev which_info : Info → Info → Bool → Info
which_info J K true = J
which_info J K false = K

not_inside : (p q : Bool) → (p ≡ true → q ≡ true) → q ≡ false → p ≡ false
not_inside true q h f = absurd (cc (h refl, f))
not_inside false q h f = refl

fork_fits : (D : Class) (Yes No : D.Tree → Type 0) → ((a : D.Tree) → Yes a → D.Is a) → ((a : D.Tree) → No a → D.Is a) → (b : Bool) (a : D.Tree) → by_which Yes No b a → D.Is a
fork_fits D Yes No y n true a h = y a h
fork_fits D Yes No y n false a h = n a h

fork_told : (J K : Info) (start : Sort → Bool) → inside J.first start ≡ true → apart K.first start ≡ true → (b : Bool) (x : Sort) → (which_info J K b).first x ≡ true → Some (start x) ≡ Some b
fork_told J K start y n true x h = ap Some (is_inside J.first start y x h)
fork_told J K start y n false x h = ap Some (are_apart K.first start n x h)

fork_left : (I J K : Info) (start : Sort → Bool) → J.empty ≡ false → (K.empty ≡ true → inside start I.goes ≡ true) → (b : Bool) → (which_info J K b).empty ≡ true → (x : Sort) → I.goes x ≡ false → Some (start x) ≡ Some b
fork_left I J K start s n true e x f = absurd (cc (e, s))
fork_left I J K start s n false e x f = ap Some (not_inside (start x) (I.goes x) (is_inside start I.goes (n e) x) f)

fork_first : (I J K : Info) → inside J.first I.first ≡ true → inside K.first I.first ≡ true → (b : Bool) (x : Sort) → (which_info J K b).first x ≡ true → I.first x ≡ true
fork_first I J K y n true x h = is_inside J.first I.first y x h
fork_first I J K y n false x h = is_inside K.first I.first n x h

fork_goes : (I J K : Info) → inside J.goes I.goes ≡ true → inside K.goes I.goes ≡ true → (b : Bool) (x : Sort) → I.goes x ≡ false → (which_info J K b).goes x ≡ false
fork_goes I J K y n true x f = not_inside (J.goes x) (I.goes x) (is_inside J.goes I.goes y x) f
fork_goes I J K y n false x f = not_inside (K.goes x) (I.goes x) (is_inside K.goes I.goes n x) f

fork_empty : (I J K : Info) → J.empty ≡ false → (K.empty ≡ true → I.empty ≡ true) → (b : Bool) → (which_info J K b).empty ≡ true → I.empty ≡ true
fork_empty I J K s n true e = absurd (cc (e, s))
fork_empty I J K s n false e = n e

abbrev fork_some : (D : Class) (Yes No : D.Tree → Type 0) (y : D.Tree) → Yes y → (n : D.Tree) → No n → (b : Bool) → (a : D.Tree) × by_which Yes No b a
fork_some D Yes No y p n q true = (y, p)
fork_some D Yes No y p n q false = (n, q)

fork_part : (D : Class) (J K : Info) (Yes No : D.Tree → Type 0) (y : D.Tree) (p : Yes y) (n : D.Tree) (q : No n) (r s : Reads D.Tree) → Lawful (narrow D Yes y p) J r → Lawful (narrow D No n q) K s
    → (b : Bool) → Lawful (narrow D (by_which Yes No b) (fork_some D Yes No y p n q b).0 (fork_some D Yes No y p n q b).1) (which_info J K b) (either_by r s b)
fork_part D J K Yes No y p n q r s l m true = l
fork_part D J K Yes No y p n q r s l m false = m

-- one of two parts: the first, where the next token begins it
pub forked : (D : Class) (I J K : Info) (start : Sort → Bool) (Yes No : D.Tree → Type 0) → Forks D I J K start Yes No → (y : D.Tree) (p : Yes y) (n : D.Tree) (q : No n) → {r s : Reads D.Tree} → Lawful (narrow D Yes y p) J r → Lawful (narrow D No n q) K s
    → Lawful D I (either start r s)
forked D I J K start Yes No h y p n q {r = r} {s = s} l m =
    chosen D I (λ s. Some (start s)) (by_which Yes No) (which_info J K)
    (record {
      fits = fork_fits D Yes No h.yes_fits h.no_fits;
      which = h.which;
      told = fork_told J K start h.told_yes h.told_no;
      left = fork_left I J K start h.some h.left;
      first = fork_first I J K h.first_yes h.first_no;
      goes = fork_goes I J K h.goes_yes h.goes_no;
      empty = fork_empty I J K h.some h.empty;
      shallow = λ x e. absurd (cc e);
    })
    (fork_some D Yes No y p n q) (either_by r s) (fork_part D J K Yes No y p n q r s l m)
