-- What the text shows keeps a context in order: literals, tags, structs, and the locals whose address is taken.
use Rattle.std.proofs.Common.{◌≡◌, ℕ, ◌+◌, ◌<◌, ◌≤◌, ◌⊎◌, inl, inr, Bool, true, false, ◌||◌, refl, sym, ap, ◌∙◌, subst, arith, List, [], ◌∷◌, ◌++◌, length, Option, Some, None, ℤ, slice_get, nat_le, ◌==◌, if◌then◌else◌}
use Rattle.std.specs.List.{list_any}
use Rattle.std.specs.Map.{lookup}
use Rattle.std.specs.Str.{bytes_eq}
use Rattle.std.proofs.lemmas.List.{length-append}
use Rattle.std.proofs.lemmas.Bool.Decides.{nat_tests}
use Rattle.ak_words.specs.IntType.{char, int, IsInRange}
use Rattle.c_lex.specs.declared.refusal.Kind.TheVariants.{TooMany}
use Rattle.c_tree.specs.declared.syntax.Name.{Name}
use Rattle.c_tree.specs.declared.syntax.Span.{Span}
use Rattle.c_tree.specs.Typed.{Ty, integer, array, Layout, Expr, at, literal}
use Rattle.c_tree.specs.TypedLayout.{greatest_object, layout_size}
use Rattle.c_tree.specs.TypedForm.{IsLayout, HoldsStruct, IsPart, IsNth, taken}
use Rattle.c_tree.specs.TypedForm as form
use Rattle.c_typing.specs.Faults.{typed, refuse, mapped}
use Rattle.c_typing.specs.Scope.{Binding, global_name, local_name, function_name, enumerator_name, type_name, library_name, Frame, Context, bytes_of, or_else, found, is_double, most_plain, tag_among, tag_number, with_new_struct, with_tag, is_begun, with_enumerator}
use Rattle.c_typing.specs.Literals.{between_quotes, joined_bytes}
use Rattle.c_typing.specs.Numbering.{is_in}
use Rattle.c_typing.specs.Judgement.{with_literal, spelled, with_addressed}
use Rattle.c_typing.proofs.Extending.{undeclared, Extends, extends_itself, extends_further, Ready, ready_kept, sized_kept, AreSized, layout_kept, at_most}
use Rattle.c_typing.proofs.Elements.{nothing_at, get_before, get_last, get_either, declared_append, sum_last, taken_kept, any_left, any_last}
use Rattle.c_typing.proofs.Apart.{apart_still}
use Rattle.c_typing.proofs.Lengthened.{lengthens_itself, lookup_last, one_longer}
use Rattle.c_typing.proofs.Carried.{OnTyped, World, IsNamed, visible, IsObject, Good, Within, within_itself, Over, After}
use Rattle.c_typing.proofs.RuledWell.{Made}

pub named_kept : (w : World) (c d : Context) → Extends c.structs d.structs → ((n : ℕ) (t : Ty) → slice_get c.globals n ≡ Some t → slice_get d.globals n ≡ Some t) → ((n : ℕ) (t : Ty) → slice_get c.locals n ≡ Some t → slice_get d.locals n ≡ Some t)
    → (m : Binding) → IsNamed w c m → IsNamed w d m
named_kept w c d x f g (global_name n t) h = f n t h
named_kept w c d x f g (local_name n t) h = g n t h
named_kept w c d x f g (function_name n params result) h = (h.0, ready_kept c.structs d.structs x result h.1)
named_kept w c d x f g (enumerator_name value) h = h
named_kept w c d x f g (type_name t) h = ready_kept c.structs d.structs x t h
named_kept w c d x f g (library_name which) h = h

pub object_kept : (old new : List Layout) → Extends old new → (t : Ty) → IsObject old t → IsObject new t
object_kept old new f t h = (sized_kept old new f t h.0, ready_kept old new f t h.1)

-- ---- literals

joined_some : (text : List ℕ) (parts : List Span) → 0 < length (joined_bytes text parts)
joined_some text [] = omega arith
joined_some text (s ∷ ss) =
    let h = length-append (between_quotes text s) (joined_bytes text ss) in
    let k = joined_some text ss in
    omega (arith, h, k)

literal_good : (w : World) (c : Context) → Good w c → (all : List ℕ) → 0 < length all → c.plain + taken (length all) ≤ most_plain → Good w (with_literal c all)
literal_good w c g all some small = record {
  results = g.results;
  since = g.since;
  numbered = g.numbered;
  names = λ q m h. named_kept w c (with_literal c all) (extends_itself c.structs) (λ n t k. k) (λ n t k. k) m (g.names q m h);
  layouts = g.layouts;
  apart = g.apart;
  members = g.members;
  unbegun = g.unbegun;
  tags = g.tags;
  begun = g.begun;
  literals = λ n bs h. by n bs (get_either c.literals all n bs h);
  globals = g.globals;
  locals = g.locals;
  plain =
      let h = g.plain in
      let k = sum_last (λ (bs : List ℕ). taken (length bs)) c.literals all in
      omega (arith, h, k);
  small = small;
  params = g.params;
  few = g.few;
}
  where
    fits : length all ≤ greatest_object
    fits = omega (arith, small)

    by : (n : ℕ) (bs : List ℕ) → (slice_get c.literals n ≡ Some bs) ⊎ (all ≡ bs) → (0 < length bs) × (length bs ≤ greatest_object)
    by n bs (inl h) = g.literals n bs h
    by n bs (inr e) = subst (λ (x : List ℕ). (0 < length x) × (length x ≤ greatest_object)) e (some, fits)

literal_within : (c : Context) (all : List ℕ) → Within true c (with_literal c all)
literal_within c all = (
  record {
    text = refl;
    structs = extends_itself c.structs;
    begun = λ n h. h;
    begun_kept = λ n l b h. h;
    count = omega arith;
    literals = λ n bs h. get_before c.literals (all ∷ []) n bs h;
    globals = λ n t h. h;
  },
  record { globals = refl; functions = refl; bodies = refl; locals = λ n t h. h; addressed = λ n h. h },
  record { inner = lengthens_itself c.inner; outer = refl; locals = refl },
)

literal_sized : (e : form.InScope) (all : List ℕ) → (0 < length all) × (length all ≤ greatest_object) → Ready e.structs (array (integer char) (length all))
literal_sized e all h = let a = h.0 in let b = h.1 in ((tt, a, omega (arith, b)), tt)

pub spelled_after : (w : World) (c : Context) → Good w c → (place : ℕ) (parts : List Span)
    → OnTyped (λ x. After w true c (spelled place (joined_bytes c.text parts) c).1 (λ e. Made e x)) (spelled place (joined_bytes c.text parts) c).0
spelled_after w c g place parts = by (nat_le (c.plain + taken (length all)) most_plain) refl
  where
    all : List ℕ
    all = joined_bytes c.text parts

    x : Expr
    x = at place (array (integer char) (length all)) (literal (length c.literals))

    fine : (e : form.InScope) → Over w (with_literal c all) e → Made e x
    fine e o =
        let k = o.literals (length c.literals) all (get_last c.literals all) in
        (((all, k, refl), literal_sized e all (o.sound.literals (length c.literals) all k)), tt)

    by : (b : Bool) → nat_le (c.plain + taken (length all)) most_plain ≡ b
        → OnTyped (λ y. After w true c (with_literal c all) (λ e. Made e y)) (mapped (λ u. at place (array (integer char) (length all)) (literal (length c.literals))) (if b then typed (tt {0}) else refuse place (TooMany 9)))
    by true h = record { good = literal_good w c g all (joined_some c.text parts) (at_most (c.plain + taken (length all)) most_plain h); within = literal_within c all; fine = fine }
    by false h = tt

-- ---- locals whose address is taken

addressed_good : (w : World) (c : Context) → Good w c → (k : ℕ) → Good w (record c { addressed = c.addressed ++ k ∷ [] })
addressed_good w c g k = record {
  results = g.results;
  since = g.since;
  numbered = g.numbered;
  names = λ q m h. named_kept w c (record c { addressed = c.addressed ++ k ∷ [] }) (extends_itself c.structs) (λ n t p. p) (λ n t p. p) m (g.names q m h);
  layouts = g.layouts;
  apart = g.apart;
  members = g.members;
  unbegun = g.unbegun;
  tags = g.tags;
  begun = g.begun;
  literals = g.literals;
  globals = g.globals;
  locals = g.locals;
  plain = g.plain;
  small = g.small;
  params = g.params;
  few = g.few;
}

addressed_within : (c : Context) (k : ℕ) → Within true c (record c { addressed = c.addressed ++ k ∷ [] })
addressed_within c k = (
  record { text = refl; structs = extends_itself c.structs; begun = λ n h. h; begun_kept = λ n l b h. h; count = omega arith; literals = λ n bs h. h; globals = λ n t h. h },
  record { globals = refl; functions = refl; bodies = refl; locals = λ n t h. h; addressed = λ n h. any_left (λ m. n == m) c.addressed (k ∷ []) h },
  record { inner = lengthens_itself c.inner; outer = refl; locals = refl },
)

pub addressed_after : (w : World) (c : Context) → Good w c → (o : Option Binding) → Good w (with_addressed c o) × Within true c (with_addressed c o)
addressed_after w c g (Some (local_name n t)) = (addressed_good w c g n, addressed_within c n)
addressed_after w c g (Some (global_name n t)) = (g, within_itself true c)
addressed_after w c g (Some (function_name n ps r)) = (g, within_itself true c)
addressed_after w c g (Some (enumerator_name value)) = (g, within_itself true c)
addressed_after w c g (Some (type_name t)) = (g, within_itself true c)
addressed_after w c g (Some (library_name which)) = (g, within_itself true c)
addressed_after w c g None = (g, within_itself true c)

itself : (n : ℕ) → (n == n) ≡ true
itself n = grind (arith, nat_tests)

pub is_addressed : (c : Context) (n : ℕ) (t : Ty) → is_in n (with_addressed c (Some (local_name n t))).addressed ≡ true
is_addressed c n t = any_last (λ m. n == m) c.addressed n (itself n)

-- ---- tags

pub one_more : (s : List Layout) → Extends s (s ++ undeclared ∷ [])
one_more s n l h = inl (get_before s (undeclared ∷ []) n l h)

no_layout : (s : List Layout) → IsLayout s undeclared
no_layout s = record { sized = tt; laid = refl; few = omega arith; small = omega arith }

none_at_end : (s : List Layout) → slice_get s (length s) ≡ None
none_at_end [] = refl
none_at_end (l ∷ s) = none_at_end s

pub new_struct_good : (w : World) (c : Context) → Good w c → (tag : List ℕ) → Good w (with_new_struct c tag)
new_struct_good w c g k = record {
  results = g.results;
  since = extends_further w.structs c.structs (c.structs ++ undeclared ∷ []) g.since (one_more c.structs);
  numbered = λ n h. let a = length-append c.structs (undeclared ∷ []) in let b = g.numbered n h in omega (arith, a, b);
  names = λ q m h. named_kept w c (with_new_struct c k) (one_more c.structs) (λ n t p. p) (λ n t p. p) m (g.names q m h);
  layouts = λ n l h. layouts l n (get_either c.structs undeclared n l h);
  apart = apart_still c.structs more (length c.structs) (ap layout_size (none_at_end c.structs)) (λ n l h. sized n l (get_either c.structs undeclared n l h)) (λ m n d p. part m n p.0 (get_either c.structs undeclared n p.0 p.1) p.2) g.apart;
  members = λ n l h m t k. members n l m t (get_either c.structs undeclared n l h) k;
  unbegun = λ n l b h. unbegun n l b (get_either c.structs undeclared n l h);
  tags =
      let a = length-append c.tags (k ∷ []) in
      let b = length-append c.structs (undeclared ∷ []) in
      let h = g.tags in
      omega (arith, a, b, h);
  begun = g.begun;
  literals = g.literals;
  globals = λ n t h. object_kept c.structs (c.structs ++ undeclared ∷ []) (one_more c.structs) t (g.globals n t h);
  locals = λ n t h. object_kept c.structs (c.structs ++ undeclared ∷ []) (one_more c.structs) t (g.locals n t h);
  plain = g.plain ∙ sym (taken_kept c.structs (c.structs ++ undeclared ∷ []) (one_more c.structs) c.globals c.literals (λ n t h. (g.globals n t h).0));
  small = g.small;
  params = g.params;
  few = g.few;
}
  where
    more : List Layout
    more = c.structs ++ undeclared ∷ []

    layouts : (l : Layout) (n : ℕ) → (slice_get c.structs n ≡ Some l) ⊎ (undeclared ≡ l) → IsLayout (c.structs ++ undeclared ∷ []) l
    layouts l n (inl h) = layout_kept c.structs (c.structs ++ undeclared ∷ []) (one_more c.structs) l (g.layouts n l h)
    layouts l n (inr e) = subst (IsLayout (c.structs ++ undeclared ∷ [])) e (no_layout (c.structs ++ undeclared ∷ []))

    sized : (n : ℕ) (l : Layout) → (slice_get c.structs n ≡ Some l) ⊎ (undeclared ≡ l) → AreSized c.structs l.types
    sized n l (inl h) = (g.layouts n l h).sized
    sized n l (inr e) = subst (λ (x : Layout). AreSized c.structs x.types) e tt

    part : (m n : ℕ) (l : Layout) → (slice_get c.structs n ≡ Some l) ⊎ (undeclared ≡ l) → (k : ℕ) × IsNth l.types k (λ t. HoldsStruct t m) → IsPart c.structs m n
    part m n l (inl h) p = (l, h, p)
    part m n l (inr e) p = absurd (nothing_at p.0 p.1.0 (subst (λ (x : Layout). slice_get x.types p.0 ≡ Some p.1.0) (sym e) p.1.1))

    members : (n : ℕ) (l : Layout) (m : ℕ) (t : Ty) → (slice_get c.structs n ≡ Some l) ⊎ (undeclared ≡ l) → slice_get l.types m ≡ Some t → Ready (c.structs ++ undeclared ∷ []) t
    members n l m t (inl h) k = ready_kept c.structs (c.structs ++ undeclared ∷ []) (one_more c.structs) t (g.members n l h m t k)
    members n l m t (inr e) k = absurd (nothing_at m t (subst (λ (x : Layout). slice_get x.types m ≡ Some t) (sym e) k))

    unbegun : (n : ℕ) (l : Layout) → is_begun c n ≡ false → (slice_get c.structs n ≡ Some l) ⊎ (undeclared ≡ l) → l ≡ undeclared
    unbegun n l b (inl h) = g.unbegun n l b h
    unbegun n l b (inr e) = sym e

pub new_struct_within : (c : Context) (tag : List ℕ) → Within true c (with_new_struct c tag)
new_struct_within c k = (
  record {
    text = refl;
    structs = one_more c.structs;
    begun = λ n h. h;
    begun_kept = λ n l b h. get_before c.structs (undeclared ∷ []) n l h;
    count = let h = declared_append c.structs in omega (arith, h);
    literals = λ n bs h. h;
    globals = λ n t h. h;
  },
  record { globals = refl; functions = refl; bodies = refl; locals = λ n t h. h; addressed = λ n h. h },
  record { inner = lengthens_itself c.inner; outer = refl; locals = refl },
)

pub tag_after : (w : World) (c : Context) → Good w c → (n : Name) → Good w (with_tag c n) × Within true c (with_tag c n)
tag_after w c g n = by (list_any (bytes_eq (bytes_of c.text n)) c.tags)
  where
    by : (b : Bool) → Good w (if b then c else with_new_struct c (bytes_of c.text n)) × Within true c (if b then c else with_new_struct c (bytes_of c.text n))
    by true = (g, within_itself true c)
    by false = (new_struct_good w c g (bytes_of c.text n), new_struct_within c (bytes_of c.text n))

-- a tag that was named has a number
among : (q : List ℕ) (tags : List (List ℕ)) → list_any (bytes_eq q) tags ≡ true → tag_among q tags < length tags
among q [] h = absurd cc
among q (t ∷ tags) h = by (bytes_eq q t) (among q tags) h
  where
    by : (b : Bool) → (list_any (bytes_eq q) tags ≡ true → tag_among q tags < length tags) → (b || list_any (bytes_eq q) tags) ≡ true → (if b then 0 else 1 + tag_among q tags) < length (t ∷ tags)
    by true f k = omega arith
    by false f k = let p = f k in omega (arith, p)

same_bytes : (q : List ℕ) → bytes_eq q q ≡ true
same_bytes [] = refl
same_bytes (x ∷ q) = grind (arith, nat_tests, same_bytes q)

pub tag_in_list : (w : World) (c : Context) → Good w c → (n : Name) → tag_number (with_tag c n) n < length (with_tag c n).structs
tag_in_list w c g n = subst (λ k. tag_number (with_tag c n) n < k) (tag_after w c g n).0.tags (by (list_any (bytes_eq (bytes_of c.text n)) c.tags) refl)
  where
    by : (b : Bool) → list_any (bytes_eq (bytes_of c.text n)) c.tags ≡ b → tag_number (if b then c else with_new_struct c (bytes_of c.text n)) n < length (if b then c else with_new_struct c (bytes_of c.text n)).tags
    by true h = among (bytes_of c.text n) c.tags h
    by false h = among (bytes_of c.text n) (c.tags ++ bytes_of c.text n ∷ []) (any_last (bytes_eq (bytes_of c.text n)) c.tags (bytes_of c.text n) (same_bytes (bytes_of c.text n)))

-- ---- a name more

-- what a scope says with one more name is that name's meaning, or what it said before
pub seen_or_new : (inner : Frame) (outer : Option Binding) (k q : List ℕ) (v m : Binding) → or_else (lookup (bytes_eq q) (inner ++ (k, v) ∷ [])) outer ≡ Some m → (or_else (lookup (bytes_eq q) inner) outer ≡ Some m) ⊎ (v ≡ m)
seen_or_new inner outer k q v m h = by (lookup (bytes_eq q) inner) (bytes_eq q k) (sym (ap (λ o. or_else o outer) (lookup_last (bytes_eq q) inner k v)) ∙ h)
  where
    by : (o : Option Binding) (b : Bool) → or_else (or_else o (if b then Some v else None)) outer ≡ Some m → (or_else o outer ≡ Some m) ⊎ (v ≡ m)
    by (Some x) b h = inl h
    by None true h = inr cc
    by None false h = inl h

abbrev pub named_too : Context → Name → Binding → Context
named_too c n m = record c { inner = c.inner ++ (bytes_of c.text n, m) ∷ [] }

pub name_good : (w : World) (c : Context) → Good w c → (n : Name) (m : Binding) → IsNamed w c m → Good w (named_too c n m)
name_good w c g n m i = record {
  results = g.results;
  since = g.since;
  numbered = g.numbered;
  names = λ q p h. by q p (seen_or_new c.inner (found c.outer q) (bytes_of c.text n) q m p h);
  layouts = g.layouts;
  apart = g.apart;
  members = g.members;
  unbegun = g.unbegun;
  tags = g.tags;
  begun = g.begun;
  literals = g.literals;
  globals = g.globals;
  locals = g.locals;
  plain = g.plain;
  small = g.small;
  params = g.params;
  few = g.few;
}
  where
    by : (q : List ℕ) (p : Binding) → (visible c q ≡ Some p) ⊎ (m ≡ p) → IsNamed w (named_too c n m) p
    by q p (inl h) = named_kept w c (named_too c n m) (extends_itself c.structs) (λ n t k. k) (λ n t k. k) p (g.names q p h)
    by q p (inr e) = subst (λ x. IsNamed w (named_too c n m) x) e (named_kept w c (named_too c n m) (extends_itself c.structs) (λ n t k. k) (λ n t k. k) m i)

-- an enumerator, which is an int
pub enumerator_after : (w : World) (c : Context) → Good w c → (n : Name) (value : ℤ) → IsInRange int value → Good w (with_enumerator c n value) × Within true c (with_enumerator c n value)
enumerator_after w c g n value i = by (is_double c n)
  where
    counted : (d : Context) (k : ℕ) → Good w d → Good w (record d { enumerators = k })
    counted d k g = record {
      results = g.results;
      since = g.since;
      numbered = g.numbered;
      names = λ q m h. named_kept w d (record d { enumerators = k }) (extends_itself d.structs) (λ n t p. p) (λ n t p. p) m (g.names q m h);
      layouts = g.layouts;
      apart = g.apart;
      members = g.members;
      unbegun = g.unbegun;
      tags = g.tags;
      begun = g.begun;
      literals = g.literals;
      globals = g.globals;
      locals = g.locals;
      plain = g.plain;
      small = g.small;
      params = g.params;
      few = g.few;
    }

    by : (b : Bool) → Good w (record (if b then c else named_too c n (enumerator_name value)) { enumerators = c.enumerators + 1 })
        × Within true c (record (if b then c else named_too c n (enumerator_name value)) { enumerators = c.enumerators + 1 })
    by true = (
      counted c (c.enumerators + 1) g,
      (
        record { text = refl; structs = extends_itself c.structs; begun = λ n h. h; begun_kept = λ n l b h. h; count = omega arith; literals = λ n bs h. h; globals = λ n t h. h },
        record { globals = refl; functions = refl; bodies = refl; locals = λ n t h. h; addressed = λ n h. h },
        record { inner = lengthens_itself c.inner; outer = refl; locals = refl },
      ),
    )
    by false = (
      counted (named_too c n (enumerator_name value)) (c.enumerators + 1) (name_good w c g n (enumerator_name value) i),
      (
        record { text = refl; structs = extends_itself c.structs; begun = λ n h. h; begun_kept = λ n l b h. h; count = omega arith; literals = λ n bs h. h; globals = λ n t h. h },
        record { globals = refl; functions = refl; bodies = refl; locals = λ n t h. h; addressed = λ n h. h },
        record { inner = one_longer c.inner (bytes_of c.text n) (enumerator_name value) tt; outer = refl; locals = refl },
      ),
    )
