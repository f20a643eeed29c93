-- What a judging form keeps: from a context that is in order it leaves one that is, grown, and what it gives, if typed, is well
-- formed in each tree around.
use Rattle.std.proofs.Common.{◌≡◌, ℕ, ◌+◌, ◌<◌, ◌≤◌, Bool, true, false, refl, ◌∙◌, arith, List, length, filter, sum_by, Option, Some, None, slice_get, nat_lt}
use Rattle.std.specs.Map.{lookup}
use Rattle.std.specs.Str.{bytes_eq}
use Rattle.ak_words.specs.IntType.{int, IsInRange}
use Rattle.c_lex.specs.declared.refusal.Kind.{Kind}
use Rattle.c_lex.specs.declared.refusal.Refusal.{Refusal}
use Rattle.c_tree.specs.Typed.{Ty, atomic, pointer, array, Layout, Local}
use Rattle.c_tree.specs.TypedLayout.{greatest_object, size_in, IsSized}
use Rattle.c_tree.specs.TypedForm.{IsLayout, LiesIn, Signature, IsNth, IsResult, IsPromoted, taken}
use Rattle.c_tree.specs.TypedForm as form
use Rattle.c_typing.specs.Faults.{Judged, typed, faulty, unless, both, ◌>>=◌}
use Rattle.c_typing.specs.Scope.{Library, constant, atomic_type, Binding, global_name, local_name, function_name, enumerator_name, type_name, library_name, Context, or_else, found, most_plain, is_begun}
use Rattle.c_typing.specs.Numbering.{is_block, is_in}
use Rattle.c_typing.specs.Rules.{or_mismatch}
use Rattle.c_typing.specs.Judgement.{Judging, lone, in_turn, ruled}
use Rattle.c_typing.proofs.Extending.{undeclared, Extends, extends_itself, extends_further, Ready, ready_kept, AreSmall}
use Rattle.c_typing.proofs.Lengthened.{Lengthens, lengthens_itself, lengthens_further}

-- ---- on outcomes

-- of the typed form, if there is one
abbrev pub OnTyped : {A : Type 0} → (A → Type 0) → Judged A → Type 0
OnTyped P (typed x) = P x
OnTyped P (faulty r rs) = Unit {0}

pub on_bind : {A B : Type 0} (P : A → Type 0) (Q : B → Type 0) (j : Judged A) (f : A → Judged B) → OnTyped P j → ((x : A) → P x → OnTyped Q (f x)) → OnTyped Q (j >>= f)
on_bind P Q (typed x) f h k = k x h
on_bind P Q (faulty r rs) f h k = tt

pub on_both : {A B : Type 0} (P : A → Type 0) (Q : B → Type 0) (j : Judged A) (k : Judged B) → OnTyped P j → OnTyped Q k → OnTyped (λ (p : A × B). P p.0 × Q p.1) (both j k)
on_both P Q (typed x) (typed y) h l = (h, l)
on_both P Q (typed x) (faulty s ss) h l = tt
on_both P Q (faulty r rs) (typed y) h l = tt
on_both P Q (faulty r rs) (faulty s ss) h l = tt

pub on_unless : (place : ℕ) (kind : Kind) (b : Bool) → OnTyped (λ u. b ≡ true) (unless place kind b)
on_unless place kind true = refl
on_unless place kind false = tt

abbrev pub OnSome : {A : Type 0} → (A → Type 0) → Option A → Type 0
OnSome P None = Unit {0}
OnSome P (Some x) = P x

pub on_mismatch : {A : Type 0} (P : A → Type 0) (place : ℕ) (o : Option A) → OnSome P o → OnTyped P (or_mismatch place o)
on_mismatch P place None h = tt
on_mismatch P place (Some x) h = h

pub on_weaker : {A : Type 0} (P Q : A → Type 0) (j : Judged A) → OnTyped P j → ((x : A) → P x → Q x) → OnTyped Q j
on_weaker P Q (typed x) h f = f x h
on_weaker P Q (faulty r rs) h f = tt

-- the second of two parts, where the first is typed, and where it isn't
pub given : {A B : Type 0} (P : B → Type 0) (Q : B → Type 0) (x : A) (k : Judged B) → OnTyped P k → ((y : B) → P y → Q y) → OnTyped Q (both (typed x) k >>= λ p. typed p.1)
given P Q x (typed y) h f = f y h
given P Q x (faulty r rs) h f = tt

pub not_given : {A B C : Type 0} (P : C → Type 0) (r : Refusal) (rs : List Refusal) (k : Judged B) (f : A × B → Judged C) → OnTyped P (both {A = A} (faulty r rs) k >>= f)
not_given P r rs (typed y) f = tt
not_given P r rs (faulty s ss) f = tt

-- ---- contexts

-- no array, behind pointers neither: the types of specifiers and stars
abbrev pub Plain : Ty → Type 0
Plain (pointer t) = Plain t
Plain (array t n) = ⊥
Plain (atomic t) = IsPromoted t
Plain t = Unit {0}

-- the functions of the whole program, how many parameters the function around has, and the structs that were there at least
pub record World : Type 0 where
  pub funcs : List Signature
  pub params : ℕ
  pub structs : List Layout

-- the same world once these structs are there
abbrev pub since : World → List Layout → World
since w s = record { funcs = w.funcs; params = w.params; structs = s }

-- a number of the library is an int
abbrev pub InLibrary : Library → Type 0
InLibrary (constant value) = IsInRange int value
InLibrary (atomic_type t) = IsPromoted t
InLibrary which = Unit {0}

abbrev pub IsNamed : World → Context → Binding → Type 0
IsNamed w c (global_name n t) = slice_get c.globals n ≡ Some t
IsNamed w c (local_name n t) = slice_get c.locals n ≡ Some t
IsNamed w c (function_name n params result) = (slice_get w.funcs n ≡ Some (record { params = params; result = result })) × Ready c.structs result
IsNamed w c (enumerator_name value) = IsInRange int value
IsNamed w c (type_name t) = Ready c.structs t
IsNamed w c (library_name which) = InLibrary which

-- what the scopes say
abbrev pub visible : Context → List ℕ → Option Binding
visible c q = or_else (lookup (bytes_eq q) c.inner) (found c.outer q)

abbrev pub declared_in : List Layout → ℕ
declared_in structs = length (filter (λ (l : Layout). nat_lt 0 l.size) structs)

abbrev pub IsObject : List Layout → Ty → Type 0
IsObject structs t = IsSized structs t × Ready structs t

abbrev pub bytes_taken : List Layout → List Ty → List (List ℕ) → ℕ
bytes_taken structs globals literals = sum_by (λ t. taken (size_in structs t)) globals + sum_by (λ (bs : List ℕ). taken (length bs)) literals

-- a context is in order
pub record Good (w : World) (c : Context) : Type 0 where
  pub results : (n : ℕ) (s : Signature) → slice_get w.funcs n ≡ Some s → IsResult s.result
  pub since : Extends w.structs c.structs
  pub numbered : (n : ℕ) → is_begun c n ≡ true → n < length c.structs
  pub names : (q : List ℕ) (m : Binding) → visible c q ≡ Some m → IsNamed w c m
  pub layouts : (n : ℕ) (l : Layout) → slice_get c.structs n ≡ Some l → IsLayout c.structs l
  pub apart : (n : ℕ) → LiesIn c.structs n n → ⊥
  pub members : (n : ℕ) (l : Layout) → slice_get c.structs n ≡ Some l → (m : ℕ) (t : Ty) → slice_get l.types m ≡ Some t → Ready c.structs t
  pub unbegun : (n : ℕ) (l : Layout) → is_begun c n ≡ false → slice_get c.structs n ≡ Some l → l ≡ undeclared
  pub tags : length c.tags ≡ length c.structs
  pub begun : length c.begun ≤ 256
  pub literals : (n : ℕ) (bs : List ℕ) → slice_get c.literals n ≡ Some bs → (0 < length bs) × (length bs ≤ greatest_object)
  pub globals : (n : ℕ) (t : Ty) → slice_get c.globals n ≡ Some t → IsObject c.structs t
  pub locals : (n : ℕ) (t : Ty) → slice_get c.locals n ≡ Some t → IsObject c.structs t
  pub plain : c.plain ≡ bytes_taken c.structs c.globals c.literals
  pub small : c.plain ≤ most_plain
  pub params : w.params ≤ length c.locals
  pub few : length c.locals ≤ 1024

-- more was shown
pub record Grows (c d : Context) : Type 0 where
  pub text : d.text ≡ c.text
  pub structs : Extends c.structs d.structs
  pub begun : (n : ℕ) → is_begun c n ≡ true → is_begun d n ≡ true
  pub begun_kept : (n : ℕ) (l : Layout) → is_begun c n ≡ true → slice_get c.structs n ≡ Some l → slice_get d.structs n ≡ Some l
  pub count : declared_in d.structs + length c.begun ≤ declared_in c.structs + length d.begun
  pub literals : (n : ℕ) (bs : List ℕ) → slice_get c.literals n ≡ Some bs → slice_get d.literals n ≡ Some bs
  pub globals : (n : ℕ) (t : Ty) → slice_get c.globals n ≡ Some t → slice_get d.globals n ≡ Some t

-- in one function
pub record Deepens (c d : Context) : Type 0 where
  pub globals : d.globals ≡ c.globals
  pub functions : d.functions ≡ c.functions
  pub bodies : d.bodies ≡ c.bodies
  pub locals : (n : ℕ) (t : Ty) → slice_get c.locals n ≡ Some t → slice_get d.locals n ≡ Some t
  pub addressed : (n : ℕ) → is_in n c.addressed ≡ true → is_in n d.addressed ≡ true

-- in one expression: only enumerators are declared
pub record Still (c d : Context) : Type 0 where
  pub inner : Lengthens c.inner d.inner
  pub outer : d.outer ≡ c.outer
  pub locals : d.locals ≡ c.locals

abbrev pub Within : (is_expression : Bool) → Context → Context → Type 0
Within true c d = Grows c d × Deepens c d × Still c d
Within false c d = Grows c d × Deepens c d × Unit {0}

pub grows_itself : (c : Context) → Grows c c
grows_itself c = record {
  text = refl;
  structs = extends_itself c.structs;
  begun = λ n h. h;
  begun_kept = λ n l b h. h;
  count = omega arith;
  literals = λ n bs h. h;
  globals = λ n t h. h;
}

pub grows_further : (b c d : Context) → Grows b c → Grows c d → Grows b d
grows_further b c d f g = record {
  text = g.text ∙ f.text;
  structs = extends_further b.structs c.structs d.structs f.structs g.structs;
  begun = λ n h. g.begun n (f.begun n h);
  begun_kept = λ n l h k. g.begun_kept n l (f.begun n h) (f.begun_kept n l h k);
  count = omega (arith, f.count, g.count);
  literals = λ n bs h. g.literals n bs (f.literals n bs h);
  globals = λ n t h. g.globals n t (f.globals n t h);
}

pub deepens_itself : (c : Context) → Deepens c c
deepens_itself c = record { globals = refl; functions = refl; bodies = refl; locals = λ n t h. h; addressed = λ n h. h }

pub deepens_further : (b c d : Context) → Deepens b c → Deepens c d → Deepens b d
deepens_further b c d f g = record {
  globals = g.globals ∙ f.globals;
  functions = g.functions ∙ f.functions;
  bodies = g.bodies ∙ f.bodies;
  locals = λ n t h. g.locals n t (f.locals n t h);
  addressed = λ n h. g.addressed n (f.addressed n h);
}

pub still_itself : (c : Context) → Still c c
still_itself c = record { inner = lengthens_itself c.inner; outer = refl; locals = refl }

still_further : (b c d : Context) → Still b c → Still c d → Still b d
still_further b c d f g = record { inner = lengthens_further b.inner c.inner d.inner f.inner g.inner; outer = g.outer ∙ f.outer; locals = g.locals ∙ f.locals }

pub within_itself : (v : Bool) (c : Context) → Within v c c
within_itself true c = (grows_itself c, deepens_itself c, still_itself c)
within_itself false c = (grows_itself c, deepens_itself c, tt)

pub within_further : (v : Bool) (b c d : Context) → Within v b c → Within v c d → Within v b d
within_further true b c d f g = (grows_further b c d f.0 g.0, deepens_further b c d f.1 g.1, still_further b c d f.2 g.2)
within_further false b c d f g = (grows_further b c d f.0 g.0, deepens_further b c d f.1 g.1, tt)

pub looser : (v : Bool) (c d : Context) → Within v c d → Within false c d
looser true c d f = (f.0, f.1, tt)
looser false c d f = f

-- ---- trees around

-- what holds in a tree's context whatever stands in it
pub record Sound (e : form.InScope) : Type 0 where
  pub small : AreSmall e.structs
  pub members : (n : ℕ) (l : Layout) → slice_get e.structs n ≡ Some l → (m : ℕ) (t : Ty) → slice_get l.types m ≡ Some t → Ready e.structs t
  pub globals : (n : ℕ) (t : Ty) → slice_get e.globals n ≡ Some t → Ready e.structs t
  pub locals : (n : ℕ) (l : Local) → slice_get e.locals n ≡ Some l → Ready e.structs l.ty
  pub blocks : (n : ℕ) (l : Local) → slice_get e.locals n ≡ Some l → is_block l.ty ≡ true → l.in_memory ≡ true
  pub literals : (n : ℕ) (bs : List ℕ) → slice_get e.literals n ≡ Some bs → (0 < length bs) × (length bs ≤ greatest_object)
  pub results : (n : ℕ) (s : Signature) → slice_get e.funcs n ≡ Some s → IsResult s.result

-- a tree's context holds all that a context has shown
pub record Over (w : World) (d : Context) (e : form.InScope) : Type 0 where
  pub sound : Sound e
  pub funcs : e.funcs ≡ w.funcs
  pub structs : Extends d.structs e.structs
  pub globals : (n : ℕ) (t : Ty) → slice_get d.globals n ≡ Some t → slice_get e.globals n ≡ Some t
  pub literals : (n : ℕ) (bs : List ℕ) → slice_get d.literals n ≡ Some bs → slice_get e.literals n ≡ Some bs
  pub locals : (n : ℕ) (t : Ty) → slice_get d.locals n ≡ Some t → IsNth e.locals n (λ (l : Local). l.ty ≡ t)
  pub addressed : (n : ℕ) (l : Local) → is_in n d.addressed ≡ true → slice_get e.locals n ≡ Some l → l.in_memory ≡ true

pub over_before : (w : World) (v : Bool) (c d : Context) (e : form.InScope) → Within v c d → Over w d e → Over w c e
over_before w v c d e f o = by (looser v c d f)
  where
    by : Within false c d → Over w c e
    by f = record {
      sound = o.sound;
      funcs = o.funcs;
      structs = extends_further c.structs d.structs e.structs f.0.structs o.structs;
      globals = λ n t h. o.globals n t (f.0.globals n t h);
      literals = λ n bs h. o.literals n bs (f.0.literals n bs h);
      locals = λ n t h. o.locals n t (f.1.locals n t h);
      addressed = λ n l h. o.addressed n l (f.1.addressed n h);
    }

-- ---- judging

-- behind a form: the context is in order and grown, and what was given is as it must be in each tree around
pub record After (w : World) (v : Bool) (c d : Context) (P : form.InScope → Type 0) : Type 0 where
  pub good : Good w d
  pub within : Within v c d
  pub fine : (e : form.InScope) → Over w d e → P e

pub record Keeps {A : Type 0} (w : World) (v : Bool) (j : Judging A) (Fine : form.InScope → A → Type 0) : Type 0 where
  pub keeps : (c : Context) → Good w c → OnTyped (λ x. After w v c (j c).1 (λ e. Fine e x)) (j c).0

-- what shows nothing new
pub keeps_here : {A : Type 0} (w : World) (v : Bool) (c : Context) (Fine : form.InScope → A → Type 0) (j : Judged A)
    → Good w c → ((e : form.InScope) → Over w c e → OnTyped (Fine e) j) → OnTyped (λ x. After w v c c (λ e. Fine e x)) j
keeps_here w v c Fine (typed x) g f = record { good = g; within = within_itself v c; fine = f }
keeps_here w v c Fine (faulty r rs) g f = tt

pub keeps_lone : {A : Type 0} (w : World) (v : Bool) (j : Judged A) (Fine : form.InScope → A → Type 0) → ((e : form.InScope) → OnTyped (Fine e) j) → Keeps w v (lone j) Fine
keeps_lone w v j Fine f = record { keeps = λ c g. keeps_here w v c Fine j g (λ e o. f e) }

pub keeps_in_turn : {A B : Type 0} (w : World) (v : Bool) (a : Judging A) (b : Judging B) (FineA : form.InScope → A → Type 0) (FineB : form.InScope → B → Type 0)
    → Keeps w v a FineA → Keeps w v b FineB → Keeps w v (in_turn a b) (λ e p. FineA e p.0 × FineB e p.1)
keeps_in_turn {A} {B} w v a b FineA FineB ka kb = record { keeps = λ c g. by c (a c).1 (a c).0 (ka.keeps c g) }
  where
    then : (c c1 d : Context) (x : A) (k : Judged B) → After w v c c1 (λ e. FineA e x) → OnTyped (λ y. After w v c1 d (λ e. FineB e y)) k
        → OnTyped (λ (p : A × B). After w v c d (λ e. FineA e p.0 × FineB e p.1)) (both (typed x) k)
    then c c1 d x (typed y) p q = record {
      good = q.good;
      within = within_further v c c1 d p.within q.within;
      fine = λ e o. (p.fine e (over_before w v c1 d e q.within o), q.fine e o);
    }
    then c c1 d x (faulty s ss) p q = tt

    none : (c d : Context) (r : _) (rs : List _) (k : Judged B) → OnTyped (λ (p : A × B). After w v c d (λ e. FineA e p.0 × FineB e p.1)) (both {A = A} (faulty r rs) k)
    none c d r rs (typed y) = tt
    none c d r rs (faulty s ss) = tt

    by : (c c1 : Context) (j : Judged A) → OnTyped (λ x. After w v c c1 (λ e. FineA e x)) j
        → OnTyped (λ (p : A × B). After w v c (b c1).1 (λ e. FineA e p.0 × FineB e p.1)) (both j (b c1).0)
    by c c1 (typed x) p = then c c1 (b c1).1 x (b c1).0 p (kb.keeps c1 p.good)
    by c c1 (faulty r rs) p = none c (b c1).1 r rs (b c1).0

pub keeps_ruled : {A B : Type 0} (w : World) (v : Bool) (a : Judging A) (rule : Context → A → Judged B) (FineA : form.InScope → A → Type 0) (FineB : form.InScope → B → Type 0)
    → Keeps w v a FineA → ((d : Context) (e : form.InScope) (x : A) → Good w d → Over w d e → FineA e x → OnTyped (FineB e) (rule d x)) → Keeps w v (ruled a rule) FineB
keeps_ruled {A} {B} w v a rule FineA FineB ka f = record { keeps = λ c g. by c (a c).1 (a c).0 (ka.keeps c g) }
  where
    then : (c d : Context) (P : form.InScope → Type 0) (k : Judged B) → After w v c d P → ((e : form.InScope) → Over w d e → P e → OnTyped (FineB e) k) → OnTyped (λ y. After w v c d (λ e. FineB e y)) k
    then c d P (typed y) p h = record { good = p.good; within = p.within; fine = λ e o. h e o (p.fine e o) }
    then c d P (faulty r rs) p h = tt

    by : (c d : Context) (j : Judged A) → OnTyped (λ x. After w v c d (λ e. FineA e x)) j → OnTyped (λ y. After w v c d (λ e. FineB e y)) (j >>= rule d)
    by c d (typed x) p = then c d (λ e. FineA e x) (rule d x) p (λ e o h. f d e x p.good o h)
    by c d (faulty r rs) p = tt

-- what is asked less of
pub keeps_weaker : {A : Type 0} (w : World) (v : Bool) (a : Judging A) (Fine Less : form.InScope → A → Type 0)
    → Keeps w v a Fine → ((e : form.InScope) (x : A) → Fine e x → Less e x) → Keeps w v a Less
keeps_weaker w v a Fine Less k f = record { keeps = λ c g. on_weaker _ _ (a c).0 (k.keeps c g) (λ x p. record { good = p.good; within = p.within; fine = λ e o. f e x (p.fine e o) }) }

-- an expression in a statement
pub keeps_looser : {A : Type 0} (w : World) (v : Bool) (a : Judging A) (Fine : form.InScope → A → Type 0) → Keeps w v a Fine → Keeps w false a Fine
keeps_looser w v a Fine k = record { keeps = λ c g. on_weaker _ _ (a c).0 (k.keeps c g) (λ x p. record { good = p.good; within = looser v c (a c).1 p.within; fine = p.fine }) }

-- ---- once more structs are there

named_since : (w : World) (s t : List Layout) (c : Context) (m : Binding) → IsNamed (since w s) c m → IsNamed (since w t) c m
named_since w s t c (global_name n u) h = h
named_since w s t c (local_name n u) h = h
named_since w s t c (function_name n params result) h = h
named_since w s t c (enumerator_name value) h = h
named_since w s t c (type_name u) h = h
named_since w s t c (library_name which) h = h

pub good_since : (w : World) (s t : List Layout) (c : Context) → Extends t c.structs → Good (since w s) c → Good (since w t) c
good_since w s t c f g = record {
  results = g.results;
  since = f;
  numbered = g.numbered;
  names = λ q m h. named_since w s t c m (g.names q m h);
  layouts = g.layouts;
  apart = g.apart;
  members = g.members;
  unbegun = g.unbegun;
  tags = g.tags;
  begun = g.begun;
  literals = g.literals;
  globals = g.globals;
  locals = g.locals;
  plain = g.plain;
  small = g.small;
  params = g.params;
  few = g.few;
}

pub over_since : (w : World) (s t : List Layout) (d : Context) (e : form.InScope) → Over (since w s) d e → Over (since w t) d e
over_since w s t d e o = record { sound = o.sound; funcs = o.funcs; structs = o.structs; globals = o.globals; literals = o.literals; locals = o.locals; addressed = o.addressed }

pub after_since : (w : World) (s t : List Layout) (v : Bool) (c d : Context) (P : form.InScope → Type 0) → Extends t d.structs → After (since w s) v c d P → After (since w t) v c d P
after_since w s t v c d P f a = record { good = good_since w s t d f a.good; within = a.within; fine = λ e o. a.fine e (over_since w t s d e o) }

-- what was ready where a world begins is ready in each tree around
pub keeps_ready : (w : World) (v : Bool) (j : Judged Ty) → OnTyped (Ready w.structs) j → Keeps w v (lone j) (λ e t. Ready e.structs t)
keeps_ready w v j h = record {
  keeps = λ c g. keeps_here w v c (λ e t. Ready e.structs t) j g
      (λ e o. on_weaker (Ready w.structs) (Ready e.structs) j h (λ t r. ready_kept w.structs e.structs (extends_further w.structs c.structs e.structs g.since o.structs) t r));
}

-- judging that is ruled by what was there before it
pub ruled_after : {A B : Type 0} (w : World) (v : Bool) (c : Context) (a : Judging A) (rule : Context → A → Judged B) (FineA : form.InScope → A → Type 0) (FineB : form.InScope → B → Type 0)
    → Good w c → Keeps w v a FineA → ((d : Context) (e : form.InScope) (x : A) → Within v c d → Good w d → Over w d e → FineA e x → OnTyped (FineB e) (rule d x))
    → OnTyped (λ y. After w v c (ruled a rule c).1 (λ e. FineB e y)) (ruled a rule c).0
ruled_after {A} {B} w v c a rule FineA FineB g ka f = by (a c).1 (a c).0 (ka.keeps c g)
  where
    then : (d : Context) (P : form.InScope → Type 0) (k : Judged B) → After w v c d P → ((e : form.InScope) → Over w d e → P e → OnTyped (FineB e) k) → OnTyped (λ y. After w v c d (λ e. FineB e y)) k
    then d P (typed y) p h = record { good = p.good; within = p.within; fine = λ e o. h e o (p.fine e o) }
    then d P (faulty r rs) p h = tt

    by : (d : Context) (j : Judged A) → OnTyped (λ x. After w v c d (λ e. FineA e x)) j → OnTyped (λ y. After w v c d (λ e. FineB e y)) (j >>= rule d)
    by d (typed x) p = then d (λ e. FineA e x) (rule d x) p (λ e o h. f d e x p.within p.good o h)
    by d (faulty r rs) p = tt

-- what was judged once more structs were there, from before that
pub after_from : (w : World) (v : Bool) (c b d : Context) (P : form.InScope → Type 0) → Good w b → Within v c b → After (since w b.structs) v b d P → After w v c d P
after_from w v c b d P g f a =
    let k = after_since w b.structs w.structs v b d P (extends_further w.structs b.structs d.structs g.since (looser v b d a.within).0.structs) a in
    record { good = k.good; within = within_further v c b d f k.within; fine = k.fine }
