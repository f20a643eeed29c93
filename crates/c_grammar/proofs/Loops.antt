-- Loops keep the five laws: a part and links behind it, rows, and parts that may be left out.
use Rattle.std.proofs.Common.{◌≡◌, ℕ, zero, suc, ◌<◌, List, [], ◌∷◌, ◌++◌, length, Option, Some, None, Ok, Err, Bool, true, false, refl, sym, ap, subst, ◌∙◌, inl, inr, arith, append_assoc}
use Rattle.std.proofs.lemmas.List.{append-nil}
use Rattle.std.specs.Prelude.{◌||◌}
use Rattle.std.specs.List.{AllByRecursion}
use Rattle.c_grammar.specs.declared.terminal.Terminal.{Terminal}
use Rattle.c_lex.specs.declared.refusal.Kind.{Kind}
use Rattle.c_grammar.specs.Leaves.{Leaf}
use Rattle.c_grammar.specs.inner.Readers.{past, stop, spent, Got, Reading, got, Reads, ◌>>=◌, Sort, sort, nothing, made, maybe_by, maybe, Turn, again, last, turn_next, turns, link_by, link_turn, links, chain, chain_by, pushed, row, row_from, unexpected}
use Rattle.c_grammar.proofs.Sorts.{apart, are_apart, inside, is_inside}
use Rattle.c_grammar.proofs.Runs.{Within, Met, Over, within_append, within_split, within_shorter, stopped_behind, over_split}
use Rattle.c_grammar.proofs.Steadiness.{Takes, chain_steady, link_turn_advances, repeat_goes, repeat_ends, repeat_fails}
use Rattle.c_grammar.proofs.Lawful.{Class, Info, Took, Begun, SoundAt, Follows, HeadIn, Headed, Lawful, if_empty, spelt_told, told_more, info_at, more_head}
use Rattle.c_grammar.proofs.Joints.{narrow, empty_info, nothing_lawful, Makes, tree, chosen}

-- ---- the links behind a tree

-- what may be linked to a tree, which it may depend on
pub record Link (A : Type 0) : Type 1 where
  pub Tree : Type 0
  pub leaves : A → ℕ → Tree → List Leaf
  pub after : A → ℕ → Tree → ℕ
  pub Is : A → Tree → Type 0
  pub some : A → Tree
  pub some_is : (a : A) → Is a (some a)

abbrev pub link_class : {A : Type 0} → Link A → A → Class
link_class L a = record { Tree = L.Tree; leaves = L.leaves a; after = L.after a; Is = L.Is a; some = L.some a; some_is = L.some_is a }

-- a tree that is there already, or one with a link more
pub data Built {A X : Type 0} (Base : A → Type 0) (Fits : A → X → Type 0) (join : A → X → A) : A → Type 0 where
  base : (a : A) → Base a → Built Base Fits join a
  step : (b a : A) (x : X) → Built Base Fits join a → Fits a x → join a x ≡ b → Built Base Fits join b

-- each tree of the class is a base with links, whose leaves stand behind it; what begins a link may depend on the tree, behind which one
-- may stand or not
pub record LinkedBy (D : Class) (L : Link D.Tree) (Base : D.Tree → Type 0) (join : D.Tree → L.Tree → D.Tree) (May : D.Tree → Type 0) (start first : D.Tree → Sort → Bool) (I J : Info) : Type 0 where
  pub fits_base : (a : D.Tree) → Base a → D.Is a
  pub fits : (a : D.Tree) (x : L.Tree) → D.Is a → May a → L.Is a x → D.Is (join a x)
  pub spelt : (c : ℕ) (a : D.Tree) (x : L.Tree) → D.Is a → D.leaves c (join a x) ≡ D.leaves c a ++ L.leaves a (D.after c a) x
  pub after : (c : ℕ) (a : D.Tree) (x : L.Tree) → D.after c (join a x) ≡ L.after a (D.after c a) x
  pub built : (b : D.Tree) → D.Is b → Built Base (λ a x. D.Is a × May a × L.Is a x) join b
  -- what begins a link behind a tree
  pub told : (a : D.Tree) (s : Sort) → May a → first a s ≡ true → start a s ≡ true
  -- where a link may stand
  pub may : (a : D.Tree) (s : Sort) → start a s ≡ true → May a
  pub first_in : (a : D.Tree) (s : Sort) → first a s ≡ true → J.first s ≡ true
  pub some : J.empty ≡ false
  pub apart_base : apart J.first I.goes ≡ true
  pub apart_link : apart J.first J.goes ≡ true

abbrev pub chain_info : (Sort → Bool) → Info → Info → Info
chain_info start I J = record {
  first = λ s. I.first s || if_empty I.empty J.first s;
  goes = λ s. start s || (I.goes s || J.goes s);
  empty = I.empty;
}

-- ---- sound

abbrev turned : {A : Type 0} → Turn A → A
turned (again a) = a
turned (last a) = a

abbrev turned_got : {A : Type 0} → Got (Turn A) → Got A
turned_got x = record { tree = turned x.tree; count = x.count; rest = x.rest }

abbrev SoundTurn : (D : Class) → ℕ → List Terminal → Reading (Turn D.Tree) → Type 0
SoundTurn D c ts (Ok x) = Took D c ts (turned_got x)
SoundTurn D c ts (Err (stop w n)) = Begun D c ts w n
SoundTurn D c ts (Err spent) = Unit {0}

-- a tree is read, and its end is at ts
pub record At (D : Class) (c : ℕ) (whole : List Terminal) (a : D.Tree) (ts : List Terminal) : Type 0 where
  pub fits : D.Is a
  pub parts : Within (D.leaves c a) whole ts

link_sound : (D : Class) (L : Link D.Tree) (Base : D.Tree → Type 0) (join : D.Tree → L.Tree → D.Tree) (May : D.Tree → Type 0) (start first : D.Tree → Sort → Bool) (I J : Info) → LinkedBy D L Base join May start first I J → (c : ℕ) (whole : List Terminal) (a : D.Tree) (ts : List Terminal) → At D c whole a ts → May a
    → (o : Reading L.Tree) → SoundAt (link_class L a) (D.after c a) ts o → SoundTurn D c whole (o >>= λ x. got (again (join a x.tree)) x.count x.rest)
link_sound D L Base join May start first I J h c whole a ts w m (Ok x) t = record {
  fits = h.fits a x.tree w.fits m t.fits;
  count = t.count ∙ sym (h.after c a x.tree);
  parts = rw (h.spelt c a x.tree w.fits) (within_append (D.leaves c a) (L.leaves a (D.after c a) x.tree) whole ts x.rest w.parts t.parts);
}
link_sound D L Base join May start first I J h c whole a ts w m (Err (stop v n)) b = record {
  tree = join a b.tree;
  fits = h.fits a b.tree w.fits m b.fits;
  stops = rw (h.spelt c a b.tree w.fits) (stopped_behind (D.leaves c a) (L.leaves a (D.after c a) b.tree) whole ts v n w.parts b.stops);
}
link_sound D L Base join May start first I J h c whole a ts w m (Err spent) b = tt

link_by_sound : (D : Class) (L : Link D.Tree) (Base : D.Tree → Type 0) (join : D.Tree → L.Tree → D.Tree) (May : D.Tree → Type 0) (start first : D.Tree → Sort → Bool) (I J : Info) → LinkedBy D L Base join May start first I J → (link : D.Tree → Reads L.Tree) → ((a : D.Tree) → Lawful (link_class L a) (info_at J (first a)) (link a))
    → (c : ℕ) (whole : List Terminal) (a : D.Tree) (ts : List Terminal) → At D c whole a ts → (b : Bool) → (b ≡ true → May a) → SoundTurn D c whole (link_by join a (link a) b (D.after c a) ts)
link_by_sound D L Base join May start first I J h link l c whole a ts w true m = link_sound D L Base join May start first I J h c whole a ts w (m refl) (link a (D.after c a) ts) ((l a).sound (D.after c a) ts)
link_by_sound D L Base join May start first I J h link l c whole a ts w false m = record { fits = w.fits; count = refl; parts = w.parts }

-- behind a tree there are no more tokens
none_behind : (D : Class) (c : ℕ) (whole : List Terminal) (a : D.Tree) → At D c whole a [] → Begun D c whole unexpected 0
none_behind D c whole a w =
    let P : List Leaf → Type 0 = λ x. Met false x whole 0 in
    record { tree = a; fits = w.fits; stops = subst P (append-nil (D.leaves c a)) (stopped_behind (D.leaves c a) [] whole [] unexpected 0 w.parts refl) }

link_turn_sound : (D : Class) (L : Link D.Tree) (Base : D.Tree → Type 0) (join : D.Tree → L.Tree → D.Tree) (May : D.Tree → Type 0) (start first : D.Tree → Sort → Bool) (I J : Info) → LinkedBy D L Base join May start first I J → (link : D.Tree → Reads L.Tree) → ((a : D.Tree) → Lawful (link_class L a) (info_at J (first a)) (link a))
    → (c : ℕ) (whole : List Terminal) (a : D.Tree) (ts : List Terminal) → At D c whole a ts → SoundTurn D c whole (link_turn start link join a (D.after c a) ts)
link_turn_sound D L Base join May start first I J h link l c whole a [] w = none_behind D c whole a w
link_turn_sound D L Base join May start first I J h link l c whole a (t ∷ ts) w = link_by_sound D L Base join May start first I J h link l c whole a (t ∷ ts) w (start a (sort t)) (h.may a (sort t))

turns_sound_at : (D : Class) (c : ℕ) (whole : List Terminal) (go : D.Tree → Reads D.Tree) → ((a : D.Tree) (ts : List Terminal) → At D c whole a ts → SoundAt D c whole (go a (D.after c a) ts)) → (o : Reading (Turn D.Tree)) → SoundTurn D c whole o
    → SoundAt D c whole (o >>= λ t. turn_next go t.tree t.count t.rest)
turns_sound_at D c whole go h (Ok x) t = by_turn x.tree x.count x.rest t
  where
    by_turn : (u : Turn D.Tree) (d : ℕ) (rest : List Terminal) → Took D c whole (record { tree = turned u; count = d; rest = rest }) → SoundAt D c whole (turn_next go u d rest)
    by_turn (again a) d rest t = rw (t.count) (h a rest (record { fits = t.fits; parts = t.parts }))
    by_turn (last a) d rest t = t
turns_sound_at D c whole go h (Err (stop w n)) b = b
turns_sound_at D c whole go h (Err spent) b = tt

turns_sound : (D : Class) (L : Link D.Tree) (Base : D.Tree → Type 0) (join : D.Tree → L.Tree → D.Tree) (May : D.Tree → Type 0) (start first : D.Tree → Sort → Bool) (I J : Info) → LinkedBy D L Base join May start first I J → (link : D.Tree → Reads L.Tree) → ((a : D.Tree) → Lawful (link_class L a) (info_at J (first a)) (link a))
    → (n : ℕ) (c : ℕ) (whole : List Terminal) (a : D.Tree) (ts : List Terminal) → At D c whole a ts → SoundAt D c whole (turns (link_turn start link join) n a (D.after c a) ts)
unfolding turns
turns_sound D L Base join May start first I J h link l zero c whole a ts w = tt
turns_sound D L Base join May start first I J h link l (suc n) c whole a ts w = turns_sound_at D c whole (turns (link_turn start link join) n) (turns_sound D L Base join May start first I J h link l n c whole)
    (link_turn start link join a (D.after c a) ts) (link_turn_sound D L Base join May start first I J h link l c whole a ts w)

chain_sound_at : (D : Class) (L : Link D.Tree) (Base : D.Tree → Type 0) (a : D.Tree) (q : Base a) (join : D.Tree → L.Tree → D.Tree) (May : D.Tree → Type 0) (start first : D.Tree → Sort → Bool) (I J : Info) → LinkedBy D L Base join May start first I J → (link : D.Tree → Reads L.Tree) → ((a : D.Tree) → Lawful (link_class L a) (info_at J (first a)) (link a))
    → (c : ℕ) (ts : List Terminal) (o : Reading D.Tree) → SoundAt (narrow D Base a q) c ts o → SoundAt D c ts (o >>= λ a. links start link join a.tree a.count a.rest)
chain_sound_at D L Base a q join May start first I J h link l c ts (Ok x) t = rw (t.count) (turns_sound D L Base join May start first I J h link l (suc (length x.rest)) c ts x.tree x.rest (record { fits = h.fits_base x.tree t.fits; parts = t.parts }))
chain_sound_at D L Base a q join May start first I J h link l c ts (Err (stop w n)) b = record { tree = b.tree; fits = h.fits_base b.tree b.fits; stops = b.stops }
chain_sound_at D L Base a q join May start first I J h link l c ts (Err spent) b = tt

-- ---- links take tokens

within_takes : (J : Info) → J.empty ≡ false → (ls : List Leaf) → HeadIn J ls → (ts rest : List Terminal) → Within ls ts rest → length rest < length ts
within_takes J e [] h ts rest w = absurd (cc (h, e))
within_takes J e (l ∷ ls) h [] rest w = absurd w
within_takes J e (l ∷ ls) h (t ∷ ts) rest w = let le = within_shorter ls ts rest w.2 in omega arith

took_takes : (C : Class) (J : Info) → J.empty ≡ false → Headed C J → (c : ℕ) (ts : List Terminal) (o : Reading C.Tree) → SoundAt C c ts o → (x : Got C.Tree) → o ≡ Ok x → length x.rest < length ts
took_takes C J e h c ts o s x is =
    let P : Reading C.Tree → Type 0 = SoundAt C c ts in
    let t : Took C c ts x = subst P is s in
    within_takes J e (C.leaves c x.tree) (h c x.tree t.fits) ts x.rest t.parts

-- a reader of trees that have a leaf
pub lawful_takes : {C : Class} {J : Info} {r : Reads C.Tree} → Lawful C J r → J.empty ≡ false → Takes r
lawful_takes {C = C} {J = J} {r = r} l e c ts x is = took_takes C J e l.headed c ts (r c ts) (l.sound c ts) x is

-- ---- complete

either_false : (a b : Bool) → (a || b) ≡ false → (a ≡ false) × (b ≡ false)
either_false true b e = absurd cc
either_false false b e = (refl, e)

either_is_false : (a b : Bool) → a ≡ false → b ≡ false → (a || b) ≡ false
either_is_false true b e f = absurd cc
either_is_false false b e f = f

-- behind a base or a link neither goes on
abbrev Behind : Info → Info → List Terminal → Type 0
Behind I J ts = Follows I.goes ts × Follows J.goes ts

behind_of : (start : Sort → Bool) (I J : Info) (z : List Terminal) → Follows (chain_info start I J).goes z → Behind I J z
behind_of start I J [] f = absurd f
behind_of start I J (t ∷ z) f = either_false (I.goes (sort t)) (J.goes (sort t)) (either_false (start (sort t)) (I.goes (sort t) || J.goes (sort t)) f).1

-- a link begins here
pub record LinkAt (I J : Info) (start : Sort → Bool) (t : Terminal) : Type 0 where
  pub starts : start (sort t) ≡ true
  pub behind_base : I.goes (sort t) ≡ false
  pub behind_link : J.goes (sort t) ≡ false

link_at : (D : Class) (L : Link D.Tree) (Base : D.Tree → Type 0) (join : D.Tree → L.Tree → D.Tree) (May : D.Tree → Type 0) (start first : D.Tree → Sort → Bool) (I J : Info) → LinkedBy D L Base join May start first I J → (a : D.Tree) (t : Terminal) → May a → first a (sort t) ≡ true → LinkAt I J (start a) t
link_at D L Base join May start first I J h a t m e = record {
  starts = h.told a (sort t) m e;
  behind_base = are_apart J.first I.goes h.apart_base (sort t) (h.first_in a (sort t) e);
  behind_link = are_apart J.first J.goes h.apart_link (sort t) (h.first_in a (sort t) e);
}

-- a list of tokens that begins with a link
abbrev BeginsLink : Info → Info → (Sort → Bool) → List Terminal → Type 0
BeginsLink I J start [] = ⊥
BeginsLink I J start (t ∷ ts) = LinkAt I J start t

begins_within : (D : Class) (L : Link D.Tree) (Base : D.Tree → Type 0) (join : D.Tree → L.Tree → D.Tree) (May : D.Tree → Type 0) (start first : D.Tree → Sort → Bool) (I J : Info) → LinkedBy D L Base join May start first I J → (a : D.Tree) → May a → (ls : List Leaf) → HeadIn (info_at J (first a)) ls → (ts z : List Terminal) → Within ls ts z → BeginsLink I J (start a) ts
begins_within D L Base join May start first I J h a m [] e ts z w = absurd (cc (e, h.some))
begins_within D L Base join May start first I J h a m (l ∷ ls) e [] z w = absurd w
begins_within D L Base join May start first I J h a m (l ∷ ls) e (t ∷ ts) z w = link_at D L Base join May start first I J h a t m (spelt_told (first a) l.sign t w.0 e)

begins_over : (D : Class) (L : Link D.Tree) (Base : D.Tree → Type 0) (join : D.Tree → L.Tree → D.Tree) (May : D.Tree → Type 0) (start first : D.Tree → Sort → Bool) (I J : Info) → LinkedBy D L Base join May start first I J → (a : D.Tree) → May a → (ls : List Leaf) → HeadIn (info_at J (first a)) ls → (ts : List Terminal) (k : Kind) (n : ℕ) → Over ls ts k n → BeginsLink I J (start a) ts
begins_over D L Base join May start first I J h a m [] e ts k n o = absurd o
begins_over D L Base join May start first I J h a m (l ∷ ls) e [] k n o = absurd o
begins_over D L Base join May start first I J h a m (l ∷ ls) e (t ∷ ts) k n o = link_at D L Base join May start first I J h a t m (spelt_told (first a) l.sign t o.0 e)

link_behind : (I J : Info) (start : Sort → Bool) (ts : List Terminal) → BeginsLink I J start ts → Behind I J ts
link_behind I J start [] b = absurd b
link_behind I J start (t ∷ ts) b = (b.behind_base, b.behind_link)

-- where a link begins, the turn reads it
link_goes : {A X : Type 0} (I J : Info) (start : A → Sort → Bool) (link : A → Reads X) (join : A → X → A) (a : A) (c : ℕ) (ts : List Terminal) → BeginsLink I J (start a) ts → link_turn start link join a c ts ≡ made (λ x. again (join a x)) (link a) c ts
link_goes I J start link join a c [] b = absurd b
link_goes I J start link join a c (t ∷ ts) b = rw (b.starts) refl

-- where none begins, it ends
link_ends : {A X : Type 0} (I J : Info) (start : A → Sort → Bool) (link : A → Reads X) (join : A → X → A) (a : A) (c : ℕ) (ts : List Terminal) → Follows (chain_info (start a) I J).goes ts → link_turn start link join a c ts ≡ got (last a) c ts
link_ends I J start link join a c [] f = absurd f
link_ends I J start link join a c (t ∷ ts) f = rw ((either_false (start a (sort t)) (I.goes (sort t) || J.goes (sort t)) f).0) refl

-- reading comes to the links behind a tree
comes : (D : Class) (L : Link D.Tree) (Base : D.Tree → Type 0) (a : D.Tree) (q : Base a) (join : D.Tree → L.Tree → D.Tree) (May : D.Tree → Type 0) (start first : D.Tree → Sort → Bool) (I J : Info) → LinkedBy D L Base join May start first I J → (r : Reads D.Tree) → Lawful (narrow D Base a q) I r
    → (link : D.Tree → Reads L.Tree) → ((a : D.Tree) → Lawful (link_class L a) (info_at J (first a)) (link a)) → (c : ℕ) (b : D.Tree) → Built Base (λ a x. D.Is a × May a × L.Is a x) join b → (ts z : List Terminal) → Within (D.leaves c b) ts z → Behind I J z
    → chain_by r start link join c ts ≡ links start link join b (D.after c b) z
comes D L Base a q join May start first I J h r l link m c b (base b' is) ts z w f = rw (l.complete c b is ts z w f.0) refl
comes D L Base a q join May start first I J h r l link m c b (step b' a' x built fits e) ts z w f =
    let parts : Within (D.leaves c a' ++ L.leaves a' (D.after c a') x) ts z = subst (λ (ls : List Leaf). Within ls ts z) (ap (D.leaves c) (sym e) ∙ h.spelt c a' x fits.0) w in
    let s = within_split (D.leaves c a') (L.leaves a' (D.after c a') x) ts z parts in
    let begins = begins_within D L Base join May start first I J h a' fits.1 (L.leaves a' (D.after c a') x) ((m a').headed (D.after c a') x fits.2) s.0 z s.2 in
    let first = comes D L Base a q join May start first I J h r l link m c a' built ts s.0 s.1 (link_behind I J (start a') s.0 begins) in
    let read : link a' (D.after c a') s.0 ≡ got x (L.after a' (D.after c a') x) z = (m a').complete (D.after c a') x fits.2 s.0 z s.2 f.1 in
    let turn : link_turn start link join a' (D.after c a') s.0 ≡ got (again (join a' x)) (L.after a' (D.after c a') x) z = link_goes I J start link join a' (D.after c a') s.0 begins ∙ rw read refl in
    let more = repeat_goes (link_turn start link join) (link_turn_advances start link join (λ a. lawful_takes (m a) h.some)) a' (join a' x) (D.after c a') (L.after a' (D.after c a') x) s.0 z turn in
    let there : links start link join (join a' x) (L.after a' (D.after c a') x) z ≡ links start link join (join a' x) (D.after c (join a' x)) z = ap (λ (n : ℕ). links start link join (join a' x) n z) (sym (h.after c a' x)) in
    let named : links start link join (join a' x) (D.after c (join a' x)) z ≡ links start link join b (D.after c b) z = ap (λ (v : D.Tree). links start link join v (D.after c v) z) e in
    first ∙ more ∙ there ∙ named

chain_limited : (D : Class) (L : Link D.Tree) (Base : D.Tree → Type 0) (a : D.Tree) (q : Base a) (join : D.Tree → L.Tree → D.Tree) (May : D.Tree → Type 0) (start first : D.Tree → Sort → Bool) (I J : Info) → LinkedBy D L Base join May start first I J → (r : Reads D.Tree) → Lawful (narrow D Base a q) I r
    → (link : D.Tree → Reads L.Tree) → ((a : D.Tree) → Lawful (link_class L a) (info_at J (first a)) (link a)) → (c : ℕ) (b : D.Tree) → Built Base (λ a x. D.Is a × May a × L.Is a x) join b → (ts : List Terminal) (k : Kind) (n : ℕ) → Over (D.leaves c b) ts k n
    → chain_by r start link join c ts ≡ Err (stop (past k) n)
chain_limited D L Base a q join May start first I J h r l link m c b (base b' is) ts k n o = rw (l.limited c b is ts k n o) refl
chain_limited D L Base a q join May start first I J h r l link m c b (step b' a' x built fits e) ts k n o =
    let parts : Over (D.leaves c a' ++ L.leaves a' (D.after c a') x) ts k n = subst (λ (ls : List Leaf). Over ls ts k n) (ap (D.leaves c) (sym e) ∙ h.spelt c a' x fits.0) o in
    elim (over_split (D.leaves c a') (L.leaves a' (D.after c a') x) ts k n parts) [
      | inl v ↦ chain_limited D L Base a q join May start first I J h r l link m c a' built ts k n v
      | inr s ↦
          let begins = begins_over D L Base join May start first I J h a' fits.1 (L.leaves a' (D.after c a') x) ((m a').headed (D.after c a') x fits.2) s.0 k n s.2 in
          let first = comes D L Base a q join May start first I J h r l link m c a' built ts s.0 s.1 (link_behind I J (start a') s.0 begins) in
          let read : link a' (D.after c a') s.0 ≡ Err (stop (past k) n) = (m a').limited (D.after c a') x fits.2 s.0 k n s.2 in
          let turn : link_turn start link join a' (D.after c a') s.0 ≡ Err (stop (past k) n) = link_goes I J start link join a' (D.after c a') s.0 begins ∙ rw read refl in
          first ∙ repeat_fails (link_turn start link join) a' (D.after c a') s.0 (stop (past k) n) turn
    ]

-- ---- the first leaf

either_true : (a b : Bool) → a ≡ true → (a || b) ≡ true
either_true true b e = refl
either_true false b e = absurd cc

or_true : (a b : Bool) → b ≡ true → (a || b) ≡ true
or_true true b e = refl
or_true false b e = e

base_head : (start : Sort → Bool) (I J : Info) (ls : List Leaf) → HeadIn I ls → HeadIn (chain_info start I J) ls
base_head start I J [] e = e
base_head start I J (l ∷ ls) e = told_more I.first (chain_info start I J).first (λ s h. either_true (I.first s) (if_empty I.empty J.first s) h) l.sign e

link_head : (start : Sort → Bool) (I J : Info) → J.empty ≡ false → (la lb : List Leaf) → HeadIn (chain_info start I J) la → HeadIn J lb → HeadIn (chain_info start I J) (la ++ lb)
link_head start I J none [] [] a b = a
link_head start I J none [] (l ∷ lb) a b = told_more J.first (chain_info start I J).first (λ s h. or_true (I.first s) (if_empty I.empty J.first s) (rw (a, h) refl)) l.sign b
link_head start I J none (l ∷ la) lb a b = a

chain_headed : (D : Class) (L : Link D.Tree) (Base : D.Tree → Type 0) (a : D.Tree) (q : Base a) (join : D.Tree → L.Tree → D.Tree) (May : D.Tree → Type 0) (start first : D.Tree → Sort → Bool) (I J : Info) → LinkedBy D L Base join May start first I J → (most : Sort → Bool) → Headed (narrow D Base a q) I
    → ((a : D.Tree) → Headed (link_class L a) (info_at J (first a))) → (c : ℕ) (b : D.Tree) → Built Base (λ a x. D.Is a × May a × L.Is a x) join b → HeadIn (chain_info most I J) (D.leaves c b)
chain_headed D L Base a q join May start first I J h most l m c b (base b' is) = base_head most I J (D.leaves c b) (l c b is)
chain_headed D L Base a q join May start first I J h most l m c b (step b' a' x built fits e) =
    let front = chain_headed D L Base a q join May start first I J h most l m c a' built in
    let both = link_head most I J h.some (D.leaves c a') (L.leaves a' (D.after c a') x) front (more_head J (first a') (h.first_in a') (L.leaves a' (D.after c a') x) (m a' (D.after c a') x fits.2)) in
    subst (HeadIn (chain_info most I J)) (sym (h.spelt c a' x fits.0) ∙ ap (D.leaves c) e) both

-- ---- together

-- what may not follow any of the trees may not follow one
most_follows : (most start : Sort → Bool) (I J : Info) → ((s : Sort) → start s ≡ true → most s ≡ true) → (z : List Terminal) → Follows (chain_info most I J).goes z → Follows (chain_info start I J).goes z
most_follows most start I J f [] g = absurd g
most_follows most start I J f (t ∷ z) g =
    let e = either_false (most (sort t)) (I.goes (sort t) || J.goes (sort t)) g in
    either_is_false (start (sort t)) (I.goes (sort t) || J.goes (sort t)) (not_start (start (sort t)) (most (sort t)) (f (sort t)) e.0) e.1
  where
    not_start : (p q : Bool) → (p ≡ true → q ≡ true) → q ≡ false → p ≡ false
    not_start true q h e = absurd (cc (h refl, e))
    not_start false q h e = refl

-- a spelling is read where what is behind it goes on neither the tree nor its last link
pub chain_complete : (D : Class) (L : Link D.Tree) (Base : D.Tree → Type 0) (a : D.Tree) (q : Base a) (join : D.Tree → L.Tree → D.Tree) (May : D.Tree → Type 0) (start first : D.Tree → Sort → Bool) (I J : Info) → LinkedBy D L Base join May start first I J → (r : Reads D.Tree) → Lawful (narrow D Base a q) I r
    → (link : D.Tree → Reads L.Tree) → ((a : D.Tree) → Lawful (link_class L a) (info_at J (first a)) (link a)) → (c : ℕ) (b : D.Tree) → D.Is b → (ts z : List Terminal) → Within (D.leaves c b) ts z → Follows (chain_info (start b) I J).goes z
    → chain_by r start link join c ts ≡ got b (D.after c b) z
chain_complete D L Base a q join May start first I J h r l link m c b is ts z w f = comes D L Base a q join May start first I J h r l link m c b (h.built b is) ts z w (behind_of (start b) I J z f)
    ∙ repeat_ends (link_turn start link join) b b (D.after c b) (D.after c b) z z (link_ends I J start link join b (D.after c b) z f)

-- a part, and links behind it
pub chained_by : (D : Class) (L : Link D.Tree) (Base : D.Tree → Type 0) (a : D.Tree) (q : Base a) (join : D.Tree → L.Tree → D.Tree) (May : D.Tree → Type 0) (start first : D.Tree → Sort → Bool) (I J : Info) → LinkedBy D L Base join May start first I J → (most : Sort → Bool) → ((a : D.Tree) (s : Sort) → start a s ≡ true → most s ≡ true)
    → (r : Reads D.Tree) → Lawful (narrow D Base a q) I r → (link : D.Tree → Reads L.Tree) → ((a : D.Tree) → Lawful (link_class L a) (info_at J (first a)) (link a)) → Lawful D (chain_info most I J) (chain_by r start link join)
chained_by D L Base a q join May start first I J h most f r l link m = record {
  sound = λ c ts. chain_sound_at D L Base a q join May start first I J h link m c ts (r c ts) (l.sound c ts);
  steady = chain_steady r start link join l.steady (λ a. (m a).steady) (λ a. lawful_takes (m a) h.some);
  complete = λ c b is ts z w g. chain_complete D L Base a q join May start first I J h r l link m c b is ts z w (most_follows most (start b) I J (f b) z g);
  limited = λ c b is ts k n o. chain_limited D L Base a q join May start first I J h r l link m c b (h.built b is) ts k n o;
  headed = λ c b is. chain_headed D L Base a q join May start first I J h most l.headed (λ a. (m a).headed) c b (h.built b is);
}

-- each tree of the class is a base with links, whose leaves stand behind it, and the same begins a link behind each
pub record Linked (D : Class) (L : Link D.Tree) (Base : D.Tree → Type 0) (join : D.Tree → L.Tree → D.Tree) (start : Sort → Bool) (I J : Info) : Type 0 where
  pub fits_base : (a : D.Tree) → Base a → D.Is a
  pub fits : (a : D.Tree) (x : L.Tree) → D.Is a → L.Is a x → D.Is (join a x)
  pub spelt : (c : ℕ) (a : D.Tree) (x : L.Tree) → D.Is a → D.leaves c (join a x) ≡ D.leaves c a ++ L.leaves a (D.after c a) x
  pub after : (c : ℕ) (a : D.Tree) (x : L.Tree) → D.after c (join a x) ≡ L.after a (D.after c a) x
  pub built : (b : D.Tree) → D.Is b → Built Base (λ a x. D.Is a × L.Is a x) join b
  pub told : inside J.first start ≡ true
  pub some : J.empty ≡ false
  pub apart_base : apart J.first I.goes ≡ true
  pub apart_link : apart J.first J.goes ≡ true

-- where a link may stand behind each
more_built : {A X : Type 0} {Base Is : A → Type 0} {Fits : A → X → Type 0} {join : A → X → A} {b : A} → Built Base (λ a x. Is a × Fits a x) join b → Built Base (λ a x. Is a × Unit {0} × Fits a x) join b
more_built (base a f) = base a f
more_built (step b a x built f e) = step b a x (more_built built) (f.0, tt, f.1) e

linked_by : (D : Class) (L : Link D.Tree) (Base : D.Tree → Type 0) (join : D.Tree → L.Tree → D.Tree) (start : Sort → Bool) (I J : Info) → Linked D L Base join start I J → LinkedBy D L Base join (λ _. Unit {0}) (λ _. start) (λ _. J.first) I J
linked_by D L Base join start I J h = record {
  fits_base = h.fits_base;
  fits = λ a x f m g. h.fits a x f g;
  spelt = h.spelt;
  after = h.after;
  built = λ b is. more_built (h.built b is);
  told = λ a s m e. is_inside J.first start h.told s e;
  may = λ a s e. tt;
  first_in = λ a s e. e;
  some = h.some;
  apart_base = h.apart_base;
  apart_link = h.apart_link;
}

pub chained : (D : Class) (L : Link D.Tree) (Base : D.Tree → Type 0) (a : D.Tree) (q : Base a) (join : D.Tree → L.Tree → D.Tree) (start : Sort → Bool) (I J : Info) → Linked D L Base join start I J → (r : Reads D.Tree) → Lawful (narrow D Base a q) I r
    → (link : D.Tree → Reads L.Tree) → ((a : D.Tree) → Lawful (link_class L a) J (link a)) → Lawful D (chain_info start I J) (chain r start link join)
chained D L Base a q join start I J h r l link m = chained_by D L Base a q join (λ _. Unit {0}) (λ _. start) (λ _. J.first) I J (linked_by D L Base join start I J h) start (λ a s e. e) r l link m

-- ---- rows: one part after the other

-- the leaves of parts in a row, and the operators behind them
abbrev pub row_leaves : {A : Type 0} → (ℕ → A → List Leaf) → (ℕ → A → ℕ) → ℕ → List A → List Leaf
row_leaves leaves after c [] = []
row_leaves leaves after c (a ∷ as_) = leaves c a ++ row_leaves leaves after (after c a) as_

abbrev pub row_after : {A : Type 0} → (ℕ → A → ℕ) → ℕ → List A → ℕ
row_after after c [] = c
row_after after c (a ∷ as_) = row_after after (after c a) as_

-- any number of parts
abbrev pub row_class : Class → Class
row_class C = record {
  Tree = List C.Tree;
  leaves = row_leaves C.leaves C.after;
  after = row_after C.after;
  Is = AllByRecursion C.Is;
  some = [];
  some_is = tt;
}

pub all_pushed : {A : Type 0} (P : A → Type 0) (front : List A) (x : A) → AllByRecursion P front → P x → AllByRecursion P (pushed front x)
all_pushed P [] x p q = (q, tt)
all_pushed P (a ∷ front) x p q = (p.0, all_pushed P front x p.1 q)

pushed_leaves : {A : Type 0} (leaves : ℕ → A → List Leaf) (after : ℕ → A → ℕ) (c : ℕ) (front : List A) (x : A) → row_leaves leaves after c (pushed front x) ≡ row_leaves leaves after c front ++ leaves (row_after after c front) x
pushed_leaves leaves after c [] x = append-nil (leaves c x)
pushed_leaves leaves after c (a ∷ front) x = ap (λ (y : List Leaf). leaves c a ++ y) (pushed_leaves leaves after (after c a) front x) ∙ sym (append_assoc (leaves c a) (row_leaves leaves after (after c a) front) (leaves (row_after after (after c a) front) x))

pub pushed_after : {A : Type 0} (after : ℕ → A → ℕ) (c : ℕ) (front : List A) (x : A) → row_after after c (pushed front x) ≡ after (row_after after c front) x
pushed_after after c [] x = refl
pushed_after after c (a ∷ front) x = pushed_after after (after c a) front x

-- the links of a row are its parts
abbrev pub part_link : (A : Type 0) → Class → Link A
part_link A C = record { Tree = C.Tree; leaves = λ _. C.leaves; after = λ _. C.after; Is = λ _. C.Is; some = λ _. C.some; some_is = λ _. C.some_is }

-- a list is built from what stands first by pushing
pub built_from : {A : Type 0} (Base : List A → Type 0) (Fits : List A → A → Type 0) (front rest : List A) → Built Base Fits pushed front → ((before : List A) (a : A) (behind : List A) → front ++ rest ≡ before ++ a ∷ behind → Fits before a)
    → Built Base Fits pushed (front ++ rest)
built_from Base Fits front [] b f = subst (Built Base Fits pushed) (sym (append-nil front)) b
built_from Base Fits front (a ∷ rest) b f =
    let more : Built Base Fits pushed (pushed front a) = step (pushed front a) front a b (f front a rest refl) refl in
    let same : pushed front a ++ rest ≡ front ++ a ∷ rest = append_assoc front (a ∷ []) rest in
    subst (Built Base Fits pushed) same (built_from Base Fits (pushed front a) rest more (λ before x behind e. f before x behind (sym same ∙ e)))

pub all_before : {A : Type 0} (P : A → Type 0) (before : List A) (a : A) (behind : List A) → AllByRecursion P (before ++ a ∷ behind) → AllByRecursion P before × P a
all_before P [] a behind p = (tt, p.0)
all_before P (x ∷ before) a behind p = let q = all_before P before a behind p.1 in ((p.0, q.0), q.1)

row_linked : (C : Class) (start : Sort → Bool) (J : Info) → inside J.first start ≡ true → J.empty ≡ false → apart J.first J.goes ≡ true → apart J.first (λ s. false) ≡ true
    → Linked (row_class C) (part_link (List C.Tree) C) (λ x. [] ≡ x) pushed start empty_info J
row_linked C start J told some apart none = record {
  fits_base = λ a e. subst (AllByRecursion C.Is) e tt;
  fits = λ a x f g. all_pushed C.Is a x f g;
  spelt = λ c a x f. pushed_leaves C.leaves C.after c a x;
  after = λ c a x. pushed_after C.after c a x;
  built = λ b is. built_from (λ x. [] ≡ x) (λ a x. AllByRecursion C.Is a × C.Is x) [] b (base [] refl)
      (λ before a behind e. all_before C.Is before a behind (subst (AllByRecursion C.Is) e is));
  told = told;
  some = some;
  apart_base = none;
  apart_link = apart;
}

abbrev pub row_info : (Sort → Bool) → Info → Info
row_info start J = chain_info start empty_info J

-- any number of parts, while the next token begins one
pub row_lawful : {C : Class} {J : Info} {part : Reads C.Tree} → Lawful C J part → (start : Sort → Bool) → inside J.first start ≡ true → J.empty ≡ false → apart J.first J.goes ≡ true → apart J.first (λ s. false) ≡ true
    → Lawful (row_class C) (row_info start J) (row start part)
row_lawful {C = C} {J = J} {part = part} l start told some apart none =
    chained (row_class C) (part_link (List C.Tree) C) (λ x. [] ≡ x) [] refl pushed start empty_info J (row_linked C start J told some apart none)
    (nothing []) (nothing_lawful (row_class C) [] (λ c. refl) (λ c. refl)) (λ _. part) (λ _. l)

-- ---- rows of one or more, of which the first is spelled otherwise than the rest

abbrev pub from_leaves : {A : Type 0} → (ℕ → A → List Leaf) → (ℕ → A → List Leaf) → (ℕ → A → ℕ) → ℕ → List A → List Leaf
from_leaves first leaves after c [] = []
from_leaves first leaves after c (a ∷ as_) = first c a ++ row_leaves leaves after (after c a) as_

abbrev pub FromIs : {A : Type 0} → (A → Type 0) → (A → Type 0) → List A → Type 0
FromIs First Is [] = ⊥
FromIs First Is (a ∷ as_) = First a × AllByRecursion Is as_

-- one part or more of a type of trees
pub record Rows (A : Type 0) : Type 1 where
  pub first : ℕ → A → List Leaf
  pub leaves : ℕ → A → List Leaf
  pub after : ℕ → A → ℕ
  pub First : A → Type 0
  pub Is : A → Type 0
  pub some : A
  pub some_first : First some
  pub some_is : Is some

abbrev pub first_class : {A : Type 0} → Rows A → Class
first_class {A = A} R = record { Tree = A; leaves = R.first; after = R.after; Is = R.First; some = R.some; some_is = R.some_first }

abbrev pub rest_class : {A : Type 0} → Rows A → Class
rest_class {A = A} R = record { Tree = A; leaves = R.leaves; after = R.after; Is = R.Is; some = R.some; some_is = R.some_is }

abbrev pub from_class : {A : Type 0} → Rows A → Class
from_class {A = A} R = record {
  Tree = List A;
  leaves = from_leaves R.first R.leaves R.after;
  after = row_after R.after;
  Is = FromIs R.First R.Is;
  some = R.some ∷ [];
  some_is = (R.some_first, tt);
}

-- a list of the one part that stands first
abbrev IsFirstOf : {A : Type 0} → (A → Type 0) → List A → Type 0
IsFirstOf First [] = ⊥
IsFirstOf First (a ∷ []) = First a
IsFirstOf First (a ∷ b ∷ as_) = ⊥

from_pushed : {A : Type 0} (First Is : A → Type 0) (front : List A) (x : A) → FromIs First Is front → Is x → FromIs First Is (pushed front x)
from_pushed First Is [] x f g = absurd f
from_pushed First Is (a ∷ front) x f g = (f.0, all_pushed Is front x f.1 g)

pub from_pushed_leaves : {A : Type 0} (R : Rows A) (c : ℕ) (front : List A) (x : A) → FromIs R.First R.Is front → from_leaves R.first R.leaves R.after c (pushed front x) ≡ from_leaves R.first R.leaves R.after c front ++ R.leaves (row_after R.after c front) x
from_pushed_leaves R c [] x f = absurd f
from_pushed_leaves R c (a ∷ front) x f = ap (λ (y : List Leaf). R.first c a ++ y) (pushed_leaves R.leaves R.after (R.after c a) front x)
    ∙ sym (append_assoc (R.first c a) (row_leaves R.leaves R.after (R.after c a) front) (R.leaves (row_after R.after (R.after c a) front) x))

first_fits : {A : Type 0} (First Is : A → Type 0) (a : List A) → IsFirstOf First a → FromIs First Is a
first_fits First Is [] f = f
first_fits First Is (a ∷ []) f = (f, tt)
first_fits First Is (a ∷ b ∷ as_) f = absurd f

-- a list is built from its first part by pushing
pub built_behind : {A : Type 0} (Base : List A → Type 0) (Fits : List A → A → Type 0) (first : A) (front rest : List A) → Built Base Fits pushed (first ∷ front) → ((before : List A) (a : A) (behind : List A) → front ++ rest ≡ before ++ a ∷ behind → Fits (first ∷ before) a)
    → Built Base Fits pushed (first ∷ (front ++ rest))
built_behind Base Fits first front [] b f = subst (λ (x : List _). Built Base Fits pushed (first ∷ x)) (sym (append-nil front)) b
built_behind Base Fits first front (a ∷ rest) b f =
    let more : Built Base Fits pushed (first ∷ pushed front a) = step (first ∷ pushed front a) (first ∷ front) a b (f front a rest refl) refl in
    let same : pushed front a ++ rest ≡ front ++ a ∷ rest = append_assoc front (a ∷ []) rest in
    subst (λ (x : List _). Built Base Fits pushed (first ∷ x)) same (built_behind Base Fits first (pushed front a) rest more (λ before x behind e. f before x behind (sym same ∙ e)))

from_built : {A : Type 0} (First Is : A → Type 0) (b : List A) → FromIs First Is b → Built (IsFirstOf First) (λ a x. FromIs First Is a × Is x) pushed b
from_built First Is [] f = absurd f
from_built First Is (a ∷ as_) f = built_behind (IsFirstOf First) (λ a x. FromIs First Is a × Is x) a [] as_ (base (a ∷ []) f.0)
    (λ before x behind e. let q = all_before Is before x behind (subst (AllByRecursion Is) e f.1) in ((f.0, q.0), q.1))

-- the first part as a list
first_makes : {A : Type 0} (R : Rows A) → Makes (first_class R) (narrow (from_class R) (IsFirstOf R.First) (R.some ∷ []) R.some_first) (λ a. a ∷ [])
first_makes R = record {
  fits = λ a f. f;
  spelt = λ c a. append-nil (R.first c a);
  after = λ c a. refl;
  back = elim [ [] ↦ λ f. absurd f | a ∷ [] ↦ λ f. (a, f, refl) | a ∷ b ∷ as_ ↦ λ f. absurd f ];
}

-- one part, and then more
pub row_from_lawful : {A : Type 0} (R : Rows A) {I J : Info} {first part : Reads A} → Lawful (first_class R) I first → Lawful (rest_class R) J part → (start : Sort → Bool) → inside J.first start ≡ true → J.empty ≡ false → apart J.first I.goes ≡ true → apart J.first J.goes ≡ true
    → Lawful (from_class R) (chain_info start I J) (row_from first start part)
row_from_lawful {A = A} R {I = I} {J = J} {first = first} {part = part} l m start told some apart_first apart_rest =
    chained (from_class R) (part_link (List A) (rest_class R)) (IsFirstOf R.First) (R.some ∷ []) R.some_first pushed start I J
    (record {
      fits_base = first_fits R.First R.Is;
      fits = λ a x f g. from_pushed R.First R.Is a x f g;
      spelt = λ c a x f. from_pushed_leaves R c a x f;
      after = λ c a x. pushed_after R.after c a x;
      built = from_built R.First R.Is;
      told = told;
      some = some;
      apart_base = apart_first;
      apart_link = apart_rest;
    })
    (made (λ a. a ∷ []) first) (tree l (narrow (from_class R) (IsFirstOf R.First) (R.some ∷ []) R.some_first) (λ a. a ∷ []) (first_makes R)) (λ _. part) (λ _. m)

-- ---- a part that may be left out

abbrev pub option_leaves : {A : Type 0} → (ℕ → A → List Leaf) → ℕ → Option A → List Leaf
option_leaves leaves c None = []
option_leaves leaves c (Some a) = leaves c a

abbrev pub option_after : {A : Type 0} → (ℕ → A → ℕ) → ℕ → Option A → ℕ
option_after after c None = c
option_after after c (Some a) = after c a

abbrev pub OptionIs : {A : Type 0} → (A → Type 0) → Option A → Type 0
OptionIs Is None = Unit {0}
OptionIs Is (Some a) = Is a

abbrev pub option_class : Class → Class
option_class C = record {
  Tree = Option C.Tree;
  leaves = option_leaves C.leaves;
  after = option_after C.after;
  Is = OptionIs C.Is;
  some = None;
  some_is = tt;
}

-- whether the part is there
abbrev IsThere : {A : Type 0} → (A → Type 0) → Bool → Option A → Type 0
IsThere Is true None = ⊥
IsThere Is true (Some a) = Is a
IsThere Is false o = None ≡ o

abbrev there_info : Info → Bool → Info
there_info J true = J
there_info J false = empty_info

abbrev pub maybe_info : (Sort → Bool) → Info → Info
maybe_info start J = record { first = J.first; goes = λ s. start s || J.goes s; empty = true }

abbrev some_there : (C : Class) (b : Bool) → (a : Option C.Tree) × IsThere C.Is b a
some_there C true = (Some C.some, C.some_is)
some_there C false = (None, refl)

there_fits : (C : Class) (b : Bool) (a : Option C.Tree) → IsThere C.Is b a → OptionIs C.Is a
there_fits C true None f = tt
there_fits C true (Some a) f = f
there_fits C false None f = tt
there_fits C false (Some a) f = absurd cc

there_which : (C : Class) (a : Option C.Tree) → OptionIs C.Is a → (b : Bool) × IsThere C.Is b a
there_which C None f = (false, refl)
there_which C (Some a) f = (true, f)

maybe_told : (start : Sort → Bool) (J : Info) → inside J.first start ≡ true → (b : Bool) (x : Sort) → (there_info J b).first x ≡ true → Some (start x) ≡ Some b
maybe_told start J e true x h = ap Some (is_inside J.first start e x h)
maybe_told start J e false x h = absurd cc

maybe_left : (start : Sort → Bool) (J : Info) → J.empty ≡ false → (b : Bool) → (there_info J b).empty ≡ true → (x : Sort) → (start x || J.goes x) ≡ false → Some (start x) ≡ Some b
maybe_left start J e true h x f = absurd (cc (h, e))
maybe_left start J e false h x f = ap Some (either_false (start x) (J.goes x) f).0

maybe_first : (J : Info) (b : Bool) (x : Sort) → (there_info J b).first x ≡ true → J.first x ≡ true
maybe_first J true x h = h
maybe_first J false x h = absurd cc

maybe_goes : (start : Sort → Bool) (J : Info) (b : Bool) (x : Sort) → (start x || J.goes x) ≡ false → (there_info J b).goes x ≡ false
maybe_goes start J true x f = (either_false (start x) (J.goes x) f).1
maybe_goes start J false x f = refl

maybe_makes : (C : Class) → Makes C (narrow (option_class C) (IsThere C.Is true) (Some C.some) C.some_is) Some
maybe_makes C = record {
  fits = λ a f. f;
  spelt = λ c a. refl;
  after = λ c a. refl;
  back = elim [ None ↦ λ f. absurd f | Some a ↦ λ f. (a, f, refl) ];
}

maybe_part : {C : Class} {J : Info} {r : Reads C.Tree} → Lawful C J r → (b : Bool) → Lawful (narrow (option_class C) (IsThere C.Is b) (some_there C b).0 (some_there C b).1) (there_info J b) (maybe_by r b)
maybe_part {C = C} {r = r} l true = tree l (narrow (option_class C) (IsThere C.Is true) (Some C.some) C.some_is) Some (maybe_makes C)
maybe_part {C = C} {r = r} l false = nothing_lawful (option_class C) None (λ c. refl) (λ c. refl)

pub maybe_lawful : {C : Class} {J : Info} {r : Reads C.Tree} → Lawful C J r → (start : Sort → Bool) → inside J.first start ≡ true → J.empty ≡ false → Lawful (option_class C) (maybe_info start J) (maybe start r)
maybe_lawful {C = C} {J = J} {r = r} l start told some =
    chosen (option_class C) (maybe_info start J) (λ s. Some (start s)) (IsThere C.Is) (there_info J)
    (record {
      fits = there_fits C;
      which = there_which C;
      told = maybe_told start J told;
      left = maybe_left start J some;
      first = maybe_first J;
      goes = maybe_goes start J;
      empty = λ b e. refl;
      shallow = λ x e. absurd (cc e);
    })
    (some_there C) (maybe_by r) (maybe_part l)
