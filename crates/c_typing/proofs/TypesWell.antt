-- Types that specifiers and declarators name.
use Rattle.std.proofs.Common.{◌≡◌, ℕ, zero, suc, ◌*◌, ◌<◌, ◌≤◌, Bool, true, false, ◌&&◌, not, refl, ap, subst, arith, ℤ, pos, negsuc, List, [], ◌∷◌, length, Option, Some, None, slice_get, nat_lt, nat_le, nat_eq, if◌then◌else◌, int_le, unsigned_abs}
use Rattle.std.specs.List.{AllByRecursion}
use Rattle.std.specs.Map.{lookup}
use Rattle.std.proofs.lemmas.Bool.Decides.{nat_tests}
use Rattle.std.proofs.lemmas.Int.{ints}
use Rattle.ak_words.specs.declared.number.Num.{Num}
use Rattle.ak_words.specs.declared.int_type.IntType.{IntType}
use Rattle.ak_words.specs.IntType.{int, unsigned_long, IsInRange}
use Rattle.ak_words.proofs.Types.{width_bounds}
use Rattle.c_lex.specs.declared.refusal.Kind.TheVariants.{DoubleName, TooMany, BadSize}
use Rattle.c_tree.specs.declared.syntax.Name.{Name}
use Rattle.c_tree.specs.declared.syntax.TypeWord.{TypeWord}
use Rattle.c_tree.specs.declared.syntax.Pointer.{Pointer}
use Rattle.c_tree.specs.declared.syntax.Pointer.TheVariants as stars
use Rattle.c_tree.specs.Syntax as source
use Rattle.c_tree.specs.Typed.{Ty, void, integer, atomic, mutex, pointer, array, structure, Layout, Expr, at, num}
use Rattle.c_tree.specs.TypedLayout.{greatest_object, layout_size, size_in, IsSized}
use Rattle.c_tree.specs.TypedForm.{IsPromoted}
use Rattle.c_tree.specs.TypedForm as form
use Rattle.c_typing.specs.Faults.{typed, refuse, unless, both, ◌>>=◌}
use Rattle.c_typing.specs.Types.{same_type, same_types, has_size, is_small, is_promoted, atomic_by, same_words, type_words, behind_pointers, arrays_of, depth_of, most_depth}
use Rattle.c_typing.specs.Scope.{Context}
use Rattle.c_typing.specs.Constants.{constant_value}
use Rattle.c_typing.specs.Rules.{size_number}
use Rattle.c_typing.specs.Judgement.{Part, word, whole, type_by, atomic_if, atomics_in, specified, wholes_of, words_of, Declarator, dimension_by, dimension, object_type, plain_type, object_declared, most_members, is_again, fresh_member, node_place}
use Rattle.c_typing.proofs.Extending.{Extends, Ready, AreSmall, sized_of, has_size_kept, struct_kept, below, at_most}
use Rattle.c_typing.proofs.Carried.{OnTyped, OnSome, on_bind, on_unless, on_mismatch, Plain, World, Good, IsObject, Over}
use Rattle.c_typing.proofs.RuledWell.{Made, plain_ready, same_number, same_int_is, both_hold}
use Rattle.c_typing.proofs.Shown.{object_kept}
use Rattle.c_typing.proofs.Braced.{AreObjects, PartReady}

-- ---- one type

pub same_type_is : (s t : Ty) → same_type s t ≡ true → s ≡ t
same_type_is void void h = refl
same_type_is (integer s) (integer t) h = ap integer (same_int_is s t h)
same_type_is (atomic s) (atomic t) h = ap atomic (same_int_is s t h)
same_type_is mutex mutex h = refl
same_type_is (pointer s) (pointer t) h = ap pointer (same_type_is s t h)
same_type_is (array s m) (array t n) h =
    let p = both_hold (same_type s t) (nat_eq m n) h in
    let a : s ≡ t = same_type_is s t p.0 in
    let b : m ≡ n = same_number m n p.1 in
    cc
same_type_is (structure m) (structure n) h = ap structure (same_number m n h)
same_type_is _ _ h = absurd cc

pub same_types_are : (ss ts : List Ty) → same_types ss ts ≡ true → ss ≡ ts
same_types_are [] [] h = refl
same_types_are (s ∷ ss) (t ∷ ts) h =
    let p = both_hold (same_type s t) (same_types ss ts) h in
    let a : s ≡ t = same_type_is s t p.0 in
    let b : ss ≡ ts = same_types_are ss ts p.1 in
    cc
same_types_are [] (t ∷ ts) h = absurd cc
same_types_are (s ∷ ss) [] h = absurd cc

-- ---- specifiers

find_any : {K X : Type 0} (P : X → Type 0) (q : K → Bool) (es : List (K × X)) → AllByRecursion (λ (x : K × X). P x.1) es → OnSome P (lookup q es)
find_any P q [] h = tt
find_any {K} {X} P q (x ∷ es) h = by (q x.0) (find_any P q es h.1)
  where
    by : (b : Bool) → OnSome P (lookup q es) → OnSome P (if b then Some x.1 else lookup q es)
    by true r = h.0
    by false r = r

words_plain : AllByRecursion (λ (x : List TypeWord × Ty). Plain x.1) type_words
unfolding type_words
words_plain = (tt, (tt, (tt, (tt, (tt, (tt, (tt, (tt, (tt, (tt, (tt, (tt, (tt, (tt, (tt, (tt, (tt, (tt, (tt, (tt, (tt, (tt, (tt, (tt, (tt, (tt, (tt, (tt, (tt, (tt, tt))))))))))))))))))))))))))))))

words_ready : (s : List Layout) (es : List (List TypeWord × Ty)) → AllByRecursion (λ (x : List TypeWord × Ty). Plain x.1) es → AllByRecursion (λ (x : List TypeWord × Ty). Ready s x.1) es
words_ready s [] h = tt
words_ready s (x ∷ es) h = (plain_ready s x.1 h.0, words_ready s es h.1)

-- specifiers, each ready
abbrev pub ArePartsReady : form.InScope → List Part → Type 0
ArePartsReady e parts = AllByRecursion (PartReady e) parts

wholes_ready : (e : form.InScope) (parts : List Part) → ArePartsReady e parts → AllByRecursion (Ready e.structs) (wholes_of parts)
wholes_ready e [] h = tt
wholes_ready e (word w ∷ parts) h = wholes_ready e parts h.1
wholes_ready e (whole t ∷ parts) h = (h.0, wholes_ready e parts h.1)

-- a number that may be atomic has 32 bits at least
promoted_is : (t : IntType) → is_promoted t ≡ true → IsPromoted t
promoted_is t h = ap (λ b. if b then int else t) (not_below t.bits h)
  where
    not_below : (n : ℕ) → nat_le 32 n ≡ true → nat_lt n 32 ≡ false
    not_below n h = grind (arith, nat_tests)

atomic_ready : (s : List Layout) (count : ℕ) (t : Ty) → Ready s t → OnSome (Ready s) (atomic_by count t)
atomic_ready s zero t h = h
atomic_ready s (suc zero) (integer t) h = by (is_promoted t) refl
  where
    by : (b : Bool) → is_promoted t ≡ b → OnSome (Ready s) (if b then Some (atomic t) else None)
    by true k = promoted_is t k
    by false k = tt
atomic_ready s _ _ h = tt

if_ready : (s : List Layout) (count : ℕ) (o : Option Ty) → OnSome (Ready s) o → OnSome (Ready s) (atomic_if count o)
if_ready s count None h = tt
if_ready s count (Some t) h = atomic_ready s count t h

pub specified_ready : (e : form.InScope) (place : ℕ) (parts : List Part) → ArePartsReady e parts → OnTyped (Ready e.structs) (specified place parts)
specified_ready e place parts h = on_mismatch (Ready e.structs) place (atomic_if (atomics_in parts) (type_by (wholes_of parts) (words_of parts)))
    (if_ready e.structs (atomics_in parts) (type_by (wholes_of parts) (words_of parts)) (by (wholes_of parts) (words_of parts) (wholes_ready e parts h)))
  where
    by : (ts : List Ty) (ws : List TypeWord) → AllByRecursion (Ready e.structs) ts → OnSome (Ready e.structs) (type_by ts ws)
    by [] ws k = find_any (Ready e.structs) (same_words ws) type_words (words_ready e.structs type_words words_plain)
    by (t ∷ []) [] k = k.0
    by (t ∷ []) (w ∷ ws) k = tt
    by (t ∷ u ∷ ts) ws k = tt

pub behind_ready : (s : List Layout) (t : Ty) (ps : List Pointer) → Ready s t → Ready s (behind_pointers t ps)
behind_ready s t [] h = h
behind_ready s t (stars.Star ∷ ps) h = behind_ready s (pointer t) ps h
behind_ready s t (stars.Const ∷ ps) h = behind_ready s t ps h
behind_ready s t (stars.Restrict ∷ ps) h = behind_ready s t ps h

-- a type that is made of few stars and brackets is itself
pub plain_type_is : (P : Ty → Type 0) (place : ℕ) (t : Ty) → P t → OnTyped P (plain_type place t)
plain_type_is P place t h = by (nat_le (depth_of t) most_depth)
  where
    by : (b : Bool) → OnTyped P ((if b then typed (tt {0}) else refuse place (TooMany 15)) >>= λ u. typed t)
    by true = h
    by false = tt

-- ---- sizes

abbrev pub ArePositive : List ℕ → Type 0
ArePositive ns = AllByRecursion (λ n. 0 < n) ns

positive : (v : ℤ) → int_le (pos 1) v ≡ true → 0 < unsigned_abs v
positive (pos n) h = grind (arith, nat_tests)
positive (negsuc n) h = absurd cc

dimension_positive : (place : ℕ) (o : Option Num) → OnTyped (λ n. 0 < n) (dimension_by place o)
dimension_positive place None = tt
dimension_positive place (Some n) = by (int_le (pos 1) n.value && int_le n.value (pos greatest_object)) refl
  where
    by : (b : Bool) → (int_le (pos 1) n.value && int_le n.value (pos greatest_object)) ≡ b → OnTyped (λ k. 0 < k) (if b then typed (unsigned_abs n.value) else refuse place BadSize)
    by true h = positive n.value (both_hold (int_le (pos 1) n.value) (int_le n.value (pos greatest_object)) h).0
    by false h = tt

pub dimension_well : (s : source.Expr) (d : Context) (x : Expr) → OnTyped (λ n. 0 < n) (dimension s d x)
dimension_well s d x = dimension_positive (node_place s) (constant_value d s x)

-- ---- objects

pub arrays_sized : (s : List Layout) → AreSmall s → (t : Ty) → Ready s t → (ns : List ℕ) → ArePositive ns → has_size s (arrays_of t ns) ≡ true → size_in s (arrays_of t ns) ≤ greatest_object → IsObject s (arrays_of t ns)
arrays_sized s f t r [] p h k = (sized_of s f t r h, r)
arrays_sized s f t r (n ∷ ns) p h k =
    let one = p.0 in
    let le : size_in s (arrays_of t ns) ≤ greatest_object = smaller (size_in s (arrays_of t ns)) n one k in
    let i = arrays_sized s f t r ns p.1 h le in
    ((i.0, one, k), ((i.0, one, k), i.1))
  where
    smaller : (a b : ℕ) → 0 < b → a * b ≤ greatest_object → a ≤ greatest_object
    smaller a zero h k = absurd (omega arith)
    smaller a (suc b) h k = omega (arith, k)

small_structs : (w : World) (c : Context) → Good w c → AreSmall c.structs
small_structs w c g n l h = (g.layouts n l h).small

pub object_type_well : (w : World) (c : Context) → Good w c → (place : ℕ) (t : Ty) (ns : List ℕ) → Ready c.structs t → ArePositive ns → OnTyped (IsObject c.structs) (object_type c place (arrays_of t ns))
object_type_well w c g place t ns r p = by (has_size c.structs (arrays_of t ns) && is_small c.structs (arrays_of t ns)) (nat_le (depth_of (arrays_of t ns)) most_depth) refl
  where
    by : (b f : Bool) → (has_size c.structs (arrays_of t ns) && is_small c.structs (arrays_of t ns)) ≡ b
        → OnTyped (IsObject c.structs) (both (if b then typed (tt {0}) else refuse place BadSize) (if f then typed (tt {0}) else refuse place (TooMany 15)) >>= λ u. typed (arrays_of t ns))
    by true true h =
        let k = both_hold (has_size c.structs (arrays_of t ns)) (is_small c.structs (arrays_of t ns)) h in
        arrays_sized c.structs (small_structs w c g) t r ns p k.0 (at_most (size_in c.structs (arrays_of t ns)) greatest_object k.1)
    by true false h = tt
    by false true h = tt
    by false false h = tt

pub object_well : (w : World) (c : Context) → Good w c → (t : Ty) (d : Declarator) → Ready c.structs t → ArePositive d.sizes → OnTyped (IsObject c.structs) (object_declared c t d)
object_well w c g t d h p = object_type_well w c g d.name.from (behind_pointers t d.pointers) d.sizes (behind_ready c.structs t d.pointers h) p

pub objects_kept : (old new : List Layout) → Extends old new → (all : List (List ℕ × Ty)) → AreObjects old all → AreObjects new all
objects_kept old new f [] h = tt
objects_kept old new f (m ∷ all) h = (object_kept old new f m.1 h.0, objects_kept old new f all h.1)

pub fresh_few : (c : Context) (before : List Name) (n : Name) → OnTyped (λ u. length before < most_members) (fresh_member c before n)
fresh_few c before n = by (is_again c before n) (nat_lt (length before) most_members) refl
  where
    by : (b f : Bool) → nat_lt (length before) most_members ≡ f → OnTyped (λ (u : Unit {0}). length before < most_members) (both (unless n.from DoubleName (not b)) (unless n.from (TooMany 4) f) >>= λ u. typed tt)
    by true true h = tt
    by true false h = tt
    by false true h = below (length before) most_members h
    by false false h = tt

-- ---- sizeof

size_there : (old new : List Layout) → Extends old new → (t : Ty) → has_size old t ≡ true → size_in new t ≡ size_in old t
size_there old new f void h = absurd cc
size_there old new f (integer t) h = refl
size_there old new f (atomic t) h = refl
size_there old new f mutex h = refl
size_there old new f (pointer t) h = refl
size_there old new f (array t n) h = ap (λ k. k * n) (size_there old new f t h)
size_there old new f (structure n) h = ap layout_size (struct_kept old new n f (below 0 (layout_size (slice_get old n)) h))

size_bound : (s : List Layout) (t : Ty) → IsSized s t → size_in s t ≤ greatest_object
size_bound s void h = absurd h
size_bound s (integer t) h = let b = width_bounds t.bits t.known_width in let c = b.1 in omega (arith, c)
size_bound s (atomic t) h = let b = width_bounds t.bits t.known_width in let c = b.1 in omega (arith, c)
size_bound s mutex h = omega arith
size_bound s (pointer t) h = omega arith
size_bound s (array t n) h = h.2
size_bound s (structure n) h = h.2

size_fits : (n : ℕ) → n ≤ greatest_object → IsInRange unsigned_long (pos n)
size_fits n h = (omega (arith, ints), omega (arith, ints))

pub size_made : (w : World) (d : Context) (e : form.InScope) → Over w d e → (place : ℕ) (t : Ty) → Ready e.structs t → OnTyped (Made e) (size_number d place t)
size_made w d e o place t r =
    on_bind (λ u. has_size d.structs t ≡ true) (Made e) (unless place BadSize (has_size d.structs t)) (λ u. typed (at place (integer unsigned_long) (num unsigned_long (pos (size_in d.structs t)))))
    (on_unless place BadSize (has_size d.structs t))
    (λ u h.
    let same : size_in e.structs t ≡ size_in d.structs t = size_there d.structs e.structs o.structs t h in
    let bound = size_bound e.structs t (sized_of e.structs o.sound.small t r (has_size_kept d.structs e.structs o.structs t h)) in
    (((refl, size_fits (size_in d.structs t) (subst (λ k. k ≤ greatest_object) same bound)), tt), tt))
