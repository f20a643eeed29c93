-- A struct's braces keep a context in order.
use Rattle.std.proofs.Common.{◌≡◌, ◌≢◌, ℕ, zero, suc, ◌+◌, ◌<◌, ◌≤◌, ◌⊎◌, inl, inr, Bool, true, false, not, refl, sym, ap, ◌∙◌, subst, arith, List, [], ◌∷◌, ◌++◌, length, map, set, Option, Some, None, slice_get, nat_lt, nat_le, ◌==◌, if◌then◌else◌}
use Rattle.std.specs.List.{AllByRecursion}
use Rattle.std.proofs.lemmas.List.{length-append, length-set}
use Rattle.std.proofs.lemmas.Option.{slice_get_within, slice_get-get_or}
use Rattle.std.proofs.lemmas.Bool.Decides.{nat_tests}
use Rattle.c_lex.specs.declared.refusal.Kind.TheVariants.{DoubleName, TooMany, BadSize}
use Rattle.c_tree.specs.declared.syntax.Name.{Name}
use Rattle.c_tree.specs.Typed.{Ty, structure, Layout}
use Rattle.c_tree.specs.TypedLayout.{greatest_object, layout_size, laid_out}
use Rattle.c_tree.specs.TypedForm.{IsLayout}
use Rattle.c_tree.specs.TypedForm as form
use Rattle.c_typing.specs.Faults.{Judged, typed, faulty, refuse, unless, both, ◌>>=◌}
use Rattle.c_typing.specs.Scope.{Context, tag_number, with_new_struct, with_tag, is_begun, with_begun, with_struct}
use Rattle.c_typing.specs.Judgement.{Judging, Part, word, whole, struct_fits, closed, is_no_enum, braces_fit, opened, closing, braced, braced_alone}
use Rattle.c_typing.proofs.Extending.{undeclared, Extends, extends_itself, extends_further, Ready, ready_kept, laid_out_kept, layout_kept, below, at_most, AreSized, all_sized_kept}
use Rattle.c_typing.proofs.Elements.{nothing_at, set_other, set_either, declared_set, taken_kept, any_left, none_left, any_last, any_either}
use Rattle.c_typing.proofs.Apart.{different, equal, apart_still}
use Rattle.c_typing.proofs.Carried.{OnTyped, not_given, World, IsObject, Good, Within, After, Keeps}
use Rattle.c_typing.proofs.Lengthened.{lengthens_further}
use Rattle.c_typing.proofs.Own.{own, over_own}
use Rattle.c_typing.proofs.Shown.{named_kept, object_kept, new_struct_good, new_struct_within, tag_after, tag_in_list}

-- ---- a struct is declared

-- the types of members, as they stand in a layout
abbrev pub types_of : List (List ℕ × Ty) → List Ty
types_of all = map (λ (m : List ℕ × Ty). m.1) all

abbrev pub AreObjects : List Layout → List (List ℕ × Ty) → Type 0
AreObjects s all = AllByRecursion (λ (m : List ℕ × Ty). IsObject s m.1) all

objects_sized : (s : List Layout) (all : List (List ℕ × Ty)) → AreObjects s all → AreSized s (types_of all)
objects_sized s [] h = tt
objects_sized s (m ∷ all) h = (h.0.0, objects_sized s all h.1)

object_at : (s : List Layout) (all : List (List ℕ × Ty)) → AreObjects s all → (m : ℕ) (t : Ty) → slice_get (types_of all) m ≡ Some t → Ready s t
object_at s [] h m t k = absurd (nothing_at m t k)
object_at s (x ∷ all) h zero t k = let e : x.1 ≡ t = cc in subst (Ready s) e h.0.1
object_at s (x ∷ all) h (suc m) t k = object_at s all h.1 m t k

-- the struct of a number, which has none yet, may be declared in a context
record MayClose (w : World) (x : Context) (number : ℕ) (all : List (List ℕ × Ty)) : Type 0 where
  good : Good w x
  here : number < length x.structs
  begun : is_begun x number ≡ true
  empty : slice_get x.structs number ≡ Some undeclared
  objects : AreObjects x.structs all
  few : length all ≤ 256
  small : (laid_out x.structs (types_of all)).size ≤ greatest_object

abbrev more : Context → ℕ → List (List ℕ × Ty) → List Layout
more x number all = set x.structs number (laid_out x.structs (types_of all))

closes : (w : World) (x : Context) (number : ℕ) (all : List (List ℕ × Ty)) → MayClose w x number all → Extends x.structs (more x number all)
closes w x number all p n l h = by (n == number) refl
  where
    by : (b : Bool) → (n == number) ≡ b → (slice_get (more x number all) n ≡ Some l) ⊎ (l ≡ undeclared)
    by true k =
        let e : Some l ≡ Some undeclared = sym h ∙ ap (slice_get x.structs) (equal n number k) ∙ p.empty in
        inr cc
    by false k = inl (set_other x.structs number n (laid_out x.structs (types_of all)) (different n number k) ∙ h)

types_few : (all : List (List ℕ × Ty)) → length (types_of all) ≡ length all
types_few [] = refl
types_few (x ∷ all) = ap suc (types_few all)

new_layout : (w : World) (x : Context) (number : ℕ) (all : List (List ℕ × Ty)) → MayClose w x number all → IsLayout (more x number all) (laid_out x.structs (types_of all))
new_layout w x number all p =
    let sized = objects_sized x.structs all p.objects in
    let f = closes w x number all p in
    let k = types_few all in
    let h = p.few in
    record {
      sized = all_sized_kept x.structs (more x number all) f (types_of all) sized;
      laid = sym (laid_out_kept x.structs (more x number all) f (types_of all) sized);
      few = omega (arith, k, h);
      small = p.small;
    }

close_good : (w : World) (x : Context) (number : ℕ) (all : List (List ℕ × Ty)) → MayClose w x number all → Good w (with_struct x number all)
close_good w x number all p = record {
  results = g.results;
  since = extends_further w.structs x.structs (more x number all) g.since f;
  numbered = λ n h. let a = length-set x.structs number new in let b = g.numbered n h in omega (arith, a, b);
  names = λ q m h. named_kept w x (with_struct x number all) f (λ n t k. k) (λ n t k. k) m (g.names q m h);
  layouts = λ n l h. layouts n l (set_either x.structs number n new l h);
  apart = apart_still x.structs (more x number all) number (ap layout_size p.empty) (λ n l h. sized n l (set_either x.structs number n new l h)) (λ m n d k. part m n d k) g.apart;
  members = λ n l h m t k. members n l m t (set_either x.structs number n new l h) k;
  unbegun = λ n l b h. unbegun n l b (set_either x.structs number n new l h);
  tags = g.tags ∙ sym (length-set x.structs number new);
  begun = g.begun;
  literals = g.literals;
  globals = λ n t h. object_kept x.structs (more x number all) f t (g.globals n t h);
  locals = λ n t h. object_kept x.structs (more x number all) f t (g.locals n t h);
  plain = g.plain ∙ sym (taken_kept x.structs (more x number all) f x.globals x.literals (λ n t h. (g.globals n t h).0));
  small = g.small;
  params = g.params;
  few = g.few;
}
  where
    g : Good w x
    g = p.good

    new : Layout
    new = laid_out x.structs (types_of all)

    f : Extends x.structs (more x number all)
    f = closes w x number all p

    layouts : (n : ℕ) (l : Layout) → ((n ≡ number) × (laid_out x.structs (types_of all) ≡ l)) ⊎ ((n ≢ number) × (slice_get x.structs n ≡ Some l)) → IsLayout (more x number all) l
    layouts n l (inl h) = subst (IsLayout (more x number all)) h.1 (new_layout w x number all p)
    layouts n l (inr h) = layout_kept x.structs (more x number all) (closes w x number all p) l (p.good.layouts n l h.1)

    sized : (n : ℕ) (l : Layout) → ((n ≡ number) × (laid_out x.structs (types_of all) ≡ l)) ⊎ ((n ≢ number) × (slice_get x.structs n ≡ Some l)) → AreSized x.structs l.types
    sized n l (inl h) = subst (λ (y : Layout). AreSized x.structs y.types) h.1 (objects_sized x.structs all p.objects)
    sized n l (inr h) = (p.good.layouts n l h.1).sized

    part : (m n : ℕ) → n ≢ number → form.IsPart (more x number all) m n → form.IsPart x.structs m n
    part m n d k = (k.0, sym (set_other x.structs number n new d) ∙ k.1, k.2)

    members : (n : ℕ) (l : Layout) (m : ℕ) (t : Ty) → ((n ≡ number) × (laid_out x.structs (types_of all) ≡ l)) ⊎ ((n ≢ number) × (slice_get x.structs n ≡ Some l)) → slice_get l.types m ≡ Some t → Ready (more x number all) t
    members n l m t (inl h) k =
        let e : slice_get (types_of all) m ≡ Some t = subst (λ (y : Layout). slice_get y.types m ≡ Some t) (sym h.1) k in
        ready_kept x.structs (more x number all) (closes w x number all p) t (object_at x.structs all p.objects m t e)
    members n l m t (inr h) k = ready_kept x.structs (more x number all) (closes w x number all p) t (p.good.members n l h.1 m t k)

    unbegun : (n : ℕ) (l : Layout) → is_begun x n ≡ false → ((n ≡ number) × (laid_out x.structs (types_of all) ≡ l)) ⊎ ((n ≢ number) × (slice_get x.structs n ≡ Some l)) → l ≡ undeclared
    unbegun n l b (inl h) = let e : true ≡ false = sym p.begun ∙ ap (is_begun x) (sym h.0) ∙ b in absurd cc
    unbegun n l b (inr h) = p.good.unbegun n l b h.1

-- ---- the braces

begun_good : (w : World) (c : Context) → Good w c → (number : ℕ) → number < length c.structs → length c.begun < 256 → Good w (with_begun c number)
begun_good w c g number here few = record {
  results = g.results;
  since = g.since;
  numbered = λ n h. there n (any_either (λ other. other == n) c.begun number h);
  names = λ q m h. named_kept w c (with_begun c number) (extends_itself c.structs) (λ n t k. k) (λ n t k. k) m (g.names q m h);
  layouts = g.layouts;
  apart = g.apart;
  members = g.members;
  unbegun = λ n l b h. g.unbegun n l (none_left (λ other. other == n) c.begun (number ∷ []) b) h;
  tags = g.tags;
  begun = let k = length-append c.begun (number ∷ []) in omega (arith, k, few);
  literals = g.literals;
  globals = g.globals;
  locals = g.locals;
  plain = g.plain;
  small = g.small;
  params = g.params;
  few = g.few;
}
  where
    there : (n : ℕ) → (is_begun c n ≡ true) ⊎ ((number == n) ≡ true) → n < length c.structs
    there n (inl h) = g.numbered n h
    there n (inr h) = let e : number ≡ n = equal number n h in omega (arith, e, here)

itself : (n : ℕ) → (n == n) ≡ true
itself n = grind (arith, nat_tests)

-- from before the tag to behind the braces
braces_within : (w : World) (a c x : Context) (number : ℕ) (all : List (List ℕ × Ty)) → Within true a c → is_begun c number ≡ false → Within true (with_begun c number) x → MayClose w x number all → Within true a (with_struct x number all)
braces_within w a c x number all f fresh g p = (
  record {
    text = g.0.text ∙ f.0.text;
    structs = extends_further a.structs x.structs (more x number all) (extends_further a.structs c.structs x.structs f.0.structs g.0.structs) (closes w x number all p);
    begun = λ n h. g.0.begun n (any_left (λ other. other == n) c.begun (number ∷ []) (f.0.begun n h));
    begun_kept = λ n l h k. kept n l (f.0.begun n h) (g.0.begun_kept n l (any_left (λ other. other == n) c.begun (number ∷ []) (f.0.begun n h)) (f.0.begun_kept n l h k));
    count =
        let h = f.0.count in
        let k = g.0.count in
        let i = length-append c.begun (number ∷ []) in
        let j = declared_set x.structs number (laid_out x.structs (types_of all)) in
        omega (arith, h, k, i, j);
    literals = λ n bs h. g.0.literals n bs (f.0.literals n bs h);
    globals = λ n t h. g.0.globals n t (f.0.globals n t h);
  },
  record {
    globals = g.1.globals ∙ f.1.globals;
    functions = g.1.functions ∙ f.1.functions;
    bodies = g.1.bodies ∙ f.1.bodies;
    locals = λ n t h. g.1.locals n t (f.1.locals n t h);
    addressed = λ n h. g.1.addressed n (f.1.addressed n h);
  },
  record { inner = lengthens_further a.inner c.inner x.inner f.2.inner g.2.inner; outer = g.2.outer ∙ f.2.outer; locals = g.2.locals ∙ f.2.locals },
)
  where
    kept : (n : ℕ) (l : Layout) → is_begun c n ≡ true → slice_get x.structs n ≡ Some l → slice_get (more x number all) n ≡ Some l
    kept n l b h = set_other x.structs number n (laid_out x.structs (types_of all)) apart ∙ h
      where
        apart : n ≢ number
        apart e = let k : true ≡ false = sym b ∙ ap (is_begun c) e ∙ fresh in absurd cc

-- what members are, in a tree around: objects, and few
abbrev pub AreMembers : ℕ → form.InScope → List (List ℕ × Ty) → Type 0
AreMembers before e all = AreObjects e.structs all × (before ≤ 256 → before + length all ≤ 256)

-- behind the braces, by what the members gave
behind : (w : World) (a c x : Context) (number place : ℕ) (j : Judged (List (List ℕ × Ty))) → Within true a c → Good w c → is_begun c number ≡ false → number < length c.structs
    → OnTyped (λ all. After w true (with_begun c number) x (λ e. AreMembers 0 e all)) j
    → OnTyped (λ all. After w true a (closed x number (j >>= struct_fits x place)) (λ e. Unit {0})) (j >>= struct_fits x place)
behind w a c x number place (faulty r rs) f g fresh here h = tt
behind w a c x number place (typed all) f g fresh here h = by (nat_le (laid_out x.structs (types_of all)).size greatest_object) refl
  where
    own_members : AreMembers 0 (own w x) all
    own_members = h.fine (own w x) (over_own w x h.good)

    begun : is_begun (with_begun c number) number ≡ true
    begun = any_last (λ other. other == number) c.begun number (itself number)

    may : (laid_out x.structs (types_of all)).size ≤ greatest_object → MayClose w x number all
    may small =
        let empty = empty_before (slice_get c.structs number) refl in
        let kept : slice_get x.structs number ≡ Some undeclared = h.within.0.begun_kept number undeclared (any_last (λ other. other == number) c.begun number (itself number)) empty in
        let few = own_members.1 (omega arith) in
        record {
          good = h.good;
          here = slice_get_within x.structs number undeclared kept;
          begun = h.within.0.begun number (any_last (λ other. other == number) c.begun number (itself number));
          empty = kept;
          objects = own_members.0;
          few = omega (arith, few);
          small = small;
        }
      where
        empty_before : (o : Option Layout) → slice_get c.structs number ≡ o → slice_get c.structs number ≡ Some undeclared
        empty_before None e = let k = slice_get-get_or c.structs number undeclared here in absurd cc
        empty_before (Some l) e = e ∙ ap Some (g.unbegun number l fresh e)

    by : (b : Bool) → nat_le (laid_out x.structs (types_of all)).size greatest_object ≡ b
        → OnTyped (λ ms. After w true a (closed x number ((if b then typed (tt {0}) else refuse place BadSize) >>= λ u. typed all)) (λ e. Unit {0})) ((if b then typed (tt {0}) else refuse place BadSize) >>= λ u. typed all)
    by true k =
        let p = may (at_most (laid_out x.structs (types_of all)).size greatest_object k) in
        record { good = close_good w x number all p; within = braces_within w a c x number all f fresh h.within p; fine = λ e o. tt }
    by false k = tt

with_all : {A B : Type 0} (P : Type 0) (Q : B → Type 0) (k : Judged A) (x : B) → OnTyped (λ y. P) k → (P → Q x) → OnTyped Q (both (typed (tt {0})) k >>= λ p. typed x)
with_all P Q (typed y) x h f = f h
with_all P Q (faulty r rs) x h f = tt

-- a specifier whose type, if it is one of its own, is ready
abbrev pub PartReady : form.InScope → Part → Type 0
PartReady e (word w) = Unit {0}
PartReady e (whole t) = Ready e.structs t

-- what may follow an opening brace: the struct's braces weren't begun, and there are not too many
abbrev MayOpen : Context → ℕ → Type 0
MayOpen c number = (is_begun c number ≡ false) × (length c.begun < 256)

-- the braces of the struct of a number, which stands in the list
closing_after : (w : World) (a c : Context) (number place : ℕ) (opening : Judged (Unit {0})) (again : Bool) (j : Judging (List (List ℕ × Ty))) → Within true a c → Good w c → number < length c.structs
    → OnTyped (λ u. MayOpen c number × (again ≡ false)) opening → Keeps w true j (AreMembers 0)
    → OnTyped (λ part. After w true a (closing place number opening again j (with_begun c number)).1 (λ e. PartReady e part)) (closing place number opening again j (with_begun c number)).0
closing_after w a c number place (faulty r rs) again j f g here h kj = not_given _ r rs ((j (with_begun c number)).0 >>= struct_fits (j (with_begun c number)).1 place) _
closing_after w a c number place (typed u) again j f g here h kj =
    subst (λ b. OnTyped (λ part. After w true a (closing place number (typed u) b j (with_begun c number)).1 (λ e. PartReady e part)) (closing place number (typed u) b j (with_begun c number)).0) (sym h.1)
    (with_all _ _ ((j (with_begun c number)).0 >>= struct_fits (j (with_begun c number)).1 place) (whole (structure number))
    (behind w a c (j (with_begun c number)).1 number place (j (with_begun c number)).0 f g h.0.0 here (kj.keeps (with_begun c number) (begun_good w c g number here h.0.1)))
    (λ k. record { good = k.good; within = k.within; fine = λ e o. tt }))

pub braced_keeps : (w : World) (t : Name) (j : Judging (List (List ℕ × Ty))) → Keeps w true j (AreMembers 0) → Keeps w true (braced t j) PartReady
braced_keeps w t j kj = record {
  keeps = λ a g.
      let c : Context = with_tag a t in
      let h = tag_after w a g t in
      closing_after w a c (tag_number c t) t.from (opened c t) (is_begun c (tag_number c t)) j h.1 h.0 (tag_in_list w a g t) (opening c (is_begun c (tag_number c t)) (is_no_enum c t) (nat_lt (length c.begun) 256) refl refl) kj;
}
  where
    opening : (c : Context) (b : Bool) (k : Judged (Unit {0})) (f : Bool) → is_begun c (tag_number c t) ≡ b → nat_lt (length c.begun) 256 ≡ f
        → OnTyped (λ u. MayOpen c (tag_number c t) × (is_begun c (tag_number c t) ≡ false)) (both (unless t.from DoubleName (not b)) (both k (unless t.from (TooMany 3) f)) >>= λ u. typed (tt {0}))
    opening c false (typed u) true h e = ((h, below (length c.begun) 256 e), h)
    opening c false (typed u) false h e = tt
    opening c false (faulty r rs) true h e = tt
    opening c false (faulty r rs) false h e = tt
    opening c true (typed u) true h e = tt
    opening c true (typed u) false h e = tt
    opening c true (faulty r rs) true h e = tt
    opening c true (faulty r rs) false h e = tt

pub alone_keeps : (w : World) (place : ℕ) (j : Judging (List (List ℕ × Ty))) → Keeps w true j (AreMembers 0) → Keeps w true (braced_alone place j) PartReady
alone_keeps w place j kj = record {
  keeps = λ a g.
      closing_after w a (with_new_struct a []) (length a.structs) place (braces_fit (with_new_struct a []) place) false j (new_struct_within a []) (new_struct_good w a g []) (here a)
      (fits a (unstarted a g) (nat_lt (length a.begun) 256) refl) kj;
}
  where
    here : (a : Context) → length a.structs < length (a.structs ++ undeclared ∷ [])
    here a = let k = length-append a.structs (undeclared ∷ []) in omega (arith, k)

    unstarted : (a : Context) → Good w a → is_begun a (length a.structs) ≡ false
    unstarted a g = by (is_begun a (length a.structs)) refl
      where
        by : (b : Bool) → is_begun a (length a.structs) ≡ b → is_begun a (length a.structs) ≡ false
        by false h = h
        by true h = let k = g.numbered (length a.structs) h in absurd (omega (arith, k))

    fits : (a : Context) → is_begun a (length a.structs) ≡ false → (f : Bool) → nat_lt (length a.begun) 256 ≡ f
        → OnTyped (λ (u : Unit {0}). MayOpen (with_new_struct a []) (length a.structs) × (false ≡ false)) (unless place (TooMany 3) f)
    fits a h true e = ((h, below (length a.begun) 256 e), refl)
    fits a h false e = tt
