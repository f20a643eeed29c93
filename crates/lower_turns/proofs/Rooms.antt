-- Which stack objects the blocks of a statement have, and that each of them has its place around.
use Rattle.std.proofs.Common.{◌≡◌, ℕ, ◌==◌, Bool, true, false, List, [], ◌∷◌, ◌++◌, Option, Some, None, refl, sym, ap, subst, ◌∙◌, arith, if◌then◌else◌}
use Rattle.std.specs.Prelude.{slice_get}
use Rattle.std.proofs.lemmas.Bool.Decides.{nat_tests}
use Rattle.c_tree.specs.Typed as tree
use Rattle.c_tree.specs.TypedForm.{Jumps, in_switch, Inside, IsWell, IsWellNode, AreWell, IsFirst, IsStep, IsNoDeclaration, AreNoDeclarations}
use Rattle.c_meaning.specs.Control.{Loop}
use Rattle.c_meaning.specs.Turns.{declared, declared_by, with_declared}
use Rattle.lower_forms.specs.Forms.{Frame, home, home_or_none, looped, among, fresh, held, held_by, held_in, breaks_in, breaks_by, breaks_among, nexts_in, nexts_by, nexts_among, with_home, home_in, objects_in, objects_by}
use Rattle.lower_forms.specs.Programs.{homes_from, frame_of}
use Rattle.lower_turns.proofs.Relation.{Around, outermost, in_a_block, in_the_body, in_the_step, homes_of, fr, bare, Room, RoomOf, RoomRow, LoopIs}

-- ---- objects of a list

pub same_object : (i k : ℕ) → (i == k) ≡ true → i ≡ k
same_object i k e = grind (arith, nat_tests)

-- the first of a row is among it, and each of the others
pub here_by : (b r : Bool) → b ≡ true → (if b then true else r) ≡ true
here_by true r e = refl
here_by false r e = absurd cc

pub later_by : (b r : Bool) → r ≡ true → (if b then true else r) ≡ true
later_by true r e = refl
later_by false r e = e

pub among_first : (i : ℕ) (is : List ℕ) → among (i ∷ is) i ≡ true
among_first i is = here_by (i == i) (among is i) (grind (arith, nat_tests))

pub among_later : (i : ℕ) (is : List ℕ) (k : ℕ) → among is k ≡ true → among (i ∷ is) k ≡ true
among_later i is k e = later_by (i == k) (among is k) e

-- ---- those that aren't declared around the loop, too

fresh_by : (outer : List ℕ) (i : ℕ) (is : List ℕ) (k : ℕ) → (among is k ≡ true → among outer k ≡ false → among (fresh outer is) k ≡ true) → (b : Bool) → among outer i ≡ b → (c : Bool) → (i == k) ≡ c → (if c then true else among is k) ≡ true → among outer k ≡ false
    → among (if b then fresh outer is else i ∷ fresh outer is) k ≡ true
fresh_by outer i is k rest true d true e h g = let c : true ≡ false = sym d ∙ ap (among outer) (same_object i k e) ∙ g in absurd cc
fresh_by outer i is k rest true d false e h g = rest h g
fresh_by outer i is k rest false d true e h g = here_by (i == k) (among (fresh outer is) k) e
fresh_by outer i is k rest false d false e h g = later_by (i == k) (among (fresh outer is) k) (rest h g)

-- each of them is there
pub among_fresh : (outer is : List ℕ) (k : ℕ) → among is k ≡ true → among outer k ≡ false → among (fresh outer is) k ≡ true
among_fresh outer [] k h g = absurd cc
among_fresh outer (i ∷ is) k h g = fresh_by outer i is k (among_fresh outer is k) (among outer i) refl (i == k) refl h g

apart_by : (outer : List ℕ) (i : ℕ) (is : List ℕ) (k : ℕ) → (among (fresh outer is) k ≡ true → among outer k ≡ false) → (b : Bool) → among outer i ≡ b → (c : Bool) → (i == k) ≡ c → among (if b then fresh outer is else i ∷ fresh outer is) k ≡ true → among outer k ≡ false
apart_by outer i is k rest true d c e h = rest h
apart_by outer i is k rest false d true e h = ap (among outer) (sym (same_object i k e)) ∙ d
apart_by outer i is k rest false d false e h = rest (sym (ap (λ (z : Bool). if z then true else among (fresh outer is) k) e) ∙ h)

-- and none of them is declared around the loop
pub fresh_apart : (outer is : List ℕ) (k : ℕ) → among (fresh outer is) k ≡ true → among outer k ≡ false
fresh_apart outer [] k h = absurd cc
fresh_apart outer (i ∷ is) k h = apart_by outer i is k (fresh_apart outer is k) (among outer i) refl (i == k) refl h

left_by : (x : ℕ) (xs ys : List ℕ) (k : ℕ) → (among xs k ≡ true → among (xs ++ ys) k ≡ true) → (b : Bool) → (if b then true else among xs k) ≡ true → (if b then true else among (xs ++ ys) k) ≡ true
left_by x xs ys k rest true e = refl
left_by x xs ys k rest false e = rest e

-- those of the one list, and of the other, are among both
pub among_left : (xs ys : List ℕ) (k : ℕ) → among xs k ≡ true → among (xs ++ ys) k ≡ true
among_left [] ys k e = absurd cc
among_left (x ∷ xs) ys k e = left_by x xs ys k (among_left xs ys k) (x == k) e

pub among_right : (xs ys : List ℕ) (k : ℕ) → among ys k ≡ true → among (xs ++ ys) k ≡ true
among_right [] ys k e = e
among_right (x ∷ xs) ys k e = later_by (x == k) (among (xs ++ ys) k) (among_right xs ys k e)

none_among : (xs : List ℕ) (k : ℕ) → xs ≡ [] → among xs k ≡ true → ⊥
none_among xs k e h = let c : false ≡ true = sym (ap (λ z. among z k) e) ∙ h in absurd cc

-- those that end where a test holds
pub among_if : (b : Bool) (xs : List ℕ) (k : ℕ) → b ≡ true → among xs k ≡ true → among (if b then xs else []) k ≡ true
among_if true xs k e h = h
among_if false xs k e h = absurd cc

pub apart_if : (b : Bool) (outer is : List ℕ) (k : ℕ) → among (if b then fresh outer is else []) k ≡ true → among outer k ≡ false
apart_if true outer is k h = fresh_apart outer is k h
apart_if false outer is k h = absurd cc

-- ---- objects of a statement

-- the stack objects of a block are those of the locals that it declares
pub objects_are : (fr : Frame) (body : tree.Stmts) → homes_of fr.homes (declared body) ≡ objects_in fr body
objects_are fr tree.no_stmts = refl
objects_are fr (tree.more_stmts (tree.at_stmt place node) rest) = by_form fr node (declared rest) (objects_in fr rest) (objects_are fr rest)
  where
    by_form : (fr : Frame) (node : tree.StmtNode) (is os : List ℕ) → homes_of fr.homes is ≡ os → homes_of fr.homes (with_declared node is) ≡ with_home (home_in fr node) os
    by_form fr (tree.declare i init) is os e = ap (with_home (home fr i)) e
    by_form fr node is os e = e

pub first_objects : (fr : Frame) (s : tree.Stmt) → homes_of fr.homes (declared_by s []) ≡ objects_by fr s []
first_objects fr (tree.at_stmt place (tree.declare i init)) = refl
first_objects fr (tree.at_stmt place node) = refl

both_same : {xs ys us vs : List ℕ} → xs ≡ ys → us ≡ vs → xs ++ us ≡ ys ++ vs
both_same {xs} {ys} {us} {vs} e h = ap (λ z. z ++ us) e ∙ ap (λ z. ys ++ z) h

row_objects : (f g : Frame) → f.homes ≡ g.homes → (body : tree.Stmts) → objects_in f body ≡ objects_in g body
row_objects f g e body = sym (objects_are f body) ∙ ap (λ hs. homes_of hs (declared body)) e ∙ objects_are g body

first_same : (f g : Frame) → f.homes ≡ g.homes → (s : tree.Stmt) → objects_by f s [] ≡ objects_by g s []
first_same f g e s = sym (first_objects f s) ∙ ap (λ hs. homes_of hs (declared_by s [])) e ∙ first_objects g s

-- only the homes of the locals count
mutual
  pub same_held : (f g : Frame) → f.homes ≡ g.homes → (s : tree.Stmt) → held f s ≡ held g s
  same_held f g e (tree.at_stmt place node) = same_by f g e node

  same_by : (f g : Frame) → f.homes ≡ g.homes → (node : tree.StmtNode) → held_by f node ≡ held_by g node
  same_by f g e (tree.block body) = both_same (same_in f g e body) (row_objects f g e body)
  same_by f g e (tree.if_ x one) = same_held f g e one
  same_by f g e (tree.if_else x one other) = both_same (same_held f g e one) (same_held f g e other)
  same_by f g e (tree.for_ first x last body) = first_same f g e first
  same_by f g e (tree.switch x labels body) = same_in f g e body
  same_by f g e node = refl

  same_in : (f g : Frame) → f.homes ≡ g.homes → (all : tree.Stmts) → held_in f all ≡ held_in g all
  same_in f g e tree.no_stmts = refl
  same_in f g e (tree.more_stmts s rest) = both_same (same_held f g e s) (same_in f g e rest)

-- ---- jumps

-- what may stand first in a for, and as its step, has none
no_jump : (f : Inside) (j i : Jumps) (s : tree.Stmt) → IsFirst s → IsWell f j s → IsWell f i s
no_jump f j i (tree.at_stmt place (tree.declare n init)) a h = h
no_jump f j i (tree.at_stmt place (tree.assign x y)) a h = h
no_jump f j i (tree.at_stmt place (tree.update x op y)) a h = h
no_jump f j i (tree.at_stmt place (tree.evaluate e)) a h = h
no_jump f j i (tree.at_stmt place tree.empty) a h = h
no_jump f j i (tree.at_stmt place node) a h = elim a [ ]

step_first : (s : tree.Stmt) → IsStep s → IsFirst s
step_first (tree.at_stmt place (tree.assign x y)) a = tt
step_first (tree.at_stmt place (tree.update x op y)) a = tt
step_first (tree.at_stmt place (tree.evaluate e)) a = tt
step_first (tree.at_stmt place tree.empty) a = tt
step_first (tree.at_stmt place node) a = elim a [ ]

-- a statement may stand wherever the jumps may that stand in it
mutual
  pub by_jumps : (f : Inside) (j i : Jumps) (s : tree.Stmt) → IsWell f j s → (breaks_in s ≡ true → i.breaks ≡ true) → (nexts_in s ≡ true → i.continues ≡ true) → IsWell f i s
  by_jumps f j i (tree.at_stmt place node) h b n = jumps_by f j i node h b n

  jumps_by : (f : Inside) (j i : Jumps) (node : tree.StmtNode) → IsWellNode f j node → (breaks_by node ≡ true → i.breaks ≡ true) → (nexts_by node ≡ true → i.continues ≡ true) → IsWellNode f i node
  jumps_by f j i (tree.block body) h b n = jumps_among f j i body h b n
  jumps_by f j i (tree.declare k init) h b n = h
  jumps_by f j i (tree.if_ e one) h b n = (h.0, h.1, by_jumps f j i one h.2 b n, h.3)
  jumps_by f j i (tree.if_else e one other) h b n = (
    h.0,
    h.1,
    by_jumps f j i one h.2 (λ z. b (here_by (breaks_in one) (breaks_in other) z)) (λ z. n (here_by (nexts_in one) (nexts_in other) z)),
    h.3,
    by_jumps f j i other h.4 (λ z. b (later_by (breaks_in one) (breaks_in other) z)) (λ z. n (later_by (nexts_in one) (nexts_in other) z)),
    h.5,
  )
  jumps_by f j i (tree.while_ e body) h b n = h
  jumps_by f j i (tree.for_ first e step body) h b n = (no_jump f j i first h.1 h.0, h.1, h.2, no_jump f j i step (step_first step h.4) h.3, h.4, h.5, h.6)
  jumps_by f j i (tree.do_while body e) h b n = h
  jumps_by f j i (tree.switch e labels body) h b n = (h.0, h.1, h.2, h.3, h.4, jumps_among f (in_switch j) (in_switch i) body h.5 (λ z. refl) n, h.6)
  jumps_by f j i tree.break_ h b n = b refl
  jumps_by f j i tree.continue_ h b n = n refl
  jumps_by f j i (tree.return_ value) h b n = h
  jumps_by f j i (tree.assign x y) h b n = h
  jumps_by f j i (tree.update x op y) h b n = h
  jumps_by f j i (tree.evaluate e) h b n = h
  jumps_by f j i tree.empty h b n = tt

  jumps_among : (f : Inside) (j i : Jumps) (all : tree.Stmts) → AreWell f j all → (breaks_among all ≡ true → i.breaks ≡ true) → (nexts_among all ≡ true → i.continues ≡ true) → AreWell f i all
  jumps_among f j i tree.no_stmts h b n = tt
  jumps_among f j i (tree.more_stmts s rest) h b n = (
    by_jumps f j i s h.0 (λ z. b (here_by (breaks_in s) (breaks_among rest) z)) (λ z. n (here_by (nexts_in s) (nexts_among rest) z)),
    jumps_among f j i rest h.1 (λ z. b (later_by (breaks_in s) (breaks_among rest) z)) (λ z. n (later_by (nexts_in s) (nexts_among rest) z)),
  )

-- ---- what is declared

pub none_declared : (s : tree.Stmt) → IsNoDeclaration s → declared_by s [] ≡ []
none_declared (tree.at_stmt place (tree.declare n init)) h = elim h [ ]
none_declared (tree.at_stmt place node) h = refl

nothing_more : (s : tree.Stmt) (is : List ℕ) → IsNoDeclaration s → declared_by s is ≡ is
nothing_more (tree.at_stmt place (tree.declare n init)) is h = elim h [ ]
nothing_more (tree.at_stmt place node) is h = refl

none_in : (all : tree.Stmts) → AreNoDeclarations all → declared all ≡ []
none_in tree.no_stmts h = refl
none_in (tree.more_stmts s rest) h = nothing_more s (declared rest) h.0 ∙ none_in rest h.1

one_by : (b r : Bool) → (if b then true else false) ≡ true → (if b then true else r) ≡ true
one_by true r e = refl
one_by false r e = absurd cc

one_home : (h : Option ℕ) (os : List ℕ) (k : ℕ) → among (with_home h []) k ≡ true → among (with_home h os) k ≡ true
one_home None os k e = absurd cc
one_home (Some o) os k e = one_by (o == k) (among os k) e

rest_home : (h : Option ℕ) (os : List ℕ) (k : ℕ) → among os k ≡ true → among (with_home h os) k ≡ true
rest_home None os k e = e
rest_home (Some o) os k e = among_later o os k e

part_one : (homes : List (Option ℕ)) (node : tree.StmtNode) (is : List ℕ) (k : ℕ) → among (homes_of homes (with_declared node [])) k ≡ true → among (homes_of homes (with_declared node is)) k ≡ true
part_one homes (tree.declare i init) is k e = one_home (home_or_none (slice_get homes i)) (homes_of homes is) k e
part_one homes node is k e = absurd cc

part_rest : (homes : List (Option ℕ)) (node : tree.StmtNode) (is : List ℕ) (k : ℕ) → among (homes_of homes is) k ≡ true → among (homes_of homes (with_declared node is)) k ≡ true
part_rest homes (tree.declare i init) is k e = rest_home (home_or_none (slice_get homes i)) (homes_of homes is) k e
part_rest homes node is k e = e

-- ---- the parts of a statement

module _ (t : tree.Typed) (n : ℕ) (f : tree.Func) where
  abbrev homes : List (Option ℕ)
  homes = homes_from 0 f.locals

  no_opens : (a : Around) (is : List ℕ) → is ≡ [] → (k : ℕ) → among (homes_of homes is) k ≡ true → among a.around k ≡ true
  no_opens a is e k h = absurd (none_among (homes_of homes is) k (ap (homes_of homes) e) h)

  pub part_room : (a : Around) (s : tree.Stmt) (objects : List ℕ) → IsNoDeclaration s → ((k : ℕ) → among (held (bare t n f) s) k ≡ true → among objects k ≡ true) → Room t n f a objects [] → RoomOf t n f a s
  part_room a s objects none part room = (λ k e apart. room.0 k (part k e) apart, no_opens a (declared_by s []) (none_declared s none))

  pub switch_room : (a : Around) (body : tree.Stmts) → AreNoDeclarations body → Room t n f a (held_in (bare t n f) body) [] → RoomRow t n f a body
  switch_room a body none room = (room.0, no_opens a (declared body) (none_in body none))

  pub block_covers : (a : Around) (body : tree.Stmts) → Room t n f a (held_in (bare t n f) body ++ objects_in (bare t n f) body) [] → (k : ℕ) → among (homes_of homes (declared body)) k ≡ true → among a.outer k ≡ false → a.over k ≡ true
  block_covers a body room k e apart =
      room.0 k (among_right (held_in (bare t n f) body) (objects_in (bare t n f) body) k (subst (λ z. among z k ≡ true) (objects_are (bare t n f) body) e)) apart

  pub block_room : (a : Around) (body : tree.Stmts) → Room t n f a (held_in (bare t n f) body ++ objects_in (bare t n f) body) [] → RoomRow t n f (in_a_block a (homes_of homes (declared body))) body
  block_room a body room =
      (λ k e apart. room.0 k (among_left (held_in (bare t n f) body) (objects_in (bare t n f) body) k e) apart, λ k e. among_left (homes_of homes (declared body)) a.around k e)

  pub for_covers : (a : Around) (first : tree.Stmt) → Room t n f a (objects_by (bare t n f) first []) [] → (k : ℕ) → among (homes_of homes (declared_by first [])) k ≡ true → among a.outer k ≡ false → a.over k ≡ true
  for_covers a first room k e apart = room.0 k (subst (λ z. among z k ≡ true) (first_objects (bare t n f) first) e) apart

  pub first_holds : (s : tree.Stmt) → IsFirst s → held (bare t n f) s ≡ []
  first_holds (tree.at_stmt place (tree.declare k init)) a = refl
  first_holds (tree.at_stmt place (tree.assign x y)) a = refl
  first_holds (tree.at_stmt place (tree.update x op y)) a = refl
  first_holds (tree.at_stmt place (tree.evaluate e)) a = refl
  first_holds (tree.at_stmt place tree.empty) a = refl
  first_holds (tree.at_stmt place node) a = elim a [ ]

  pub step_declares_none : (s : tree.Stmt) → IsStep s → declared_by s [] ≡ []
  step_declares_none (tree.at_stmt place (tree.assign x y)) a = refl
  step_declares_none (tree.at_stmt place (tree.update x op y)) a = refl
  step_declares_none (tree.at_stmt place (tree.evaluate e)) a = refl
  step_declares_none (tree.at_stmt place tree.empty) a = refl
  step_declares_none (tree.at_stmt place node) a = elim a [ ]

  pub step_holds_none : (s : tree.Stmt) → IsStep s → held (bare t n f) s ≡ []
  step_holds_none s a = first_holds s (step_first s a)

  pub first_room : (a : Around) (first : tree.Stmt) → IsFirst first → RoomOf t n f (in_a_block a (homes_of homes (declared_by first []))) first
  first_room a first is = (λ k e apart. absurd (none_among (held (bare t n f) first) k (first_holds first is) e), λ k e. among_left (homes_of homes (declared_by first [])) a.around k e)

  pub row_first : (a : Around) (s : tree.Stmt) (rest : tree.Stmts) → RoomRow t n f a (tree.more_stmts s rest) → RoomOf t n f a s
  row_first a (tree.at_stmt place node) rest room =
      (λ k e apart. room.0 k (among_left (held_by (bare t n f) node) (held_in (bare t n f) rest) k e) apart, λ k e. room.1 k (part_one homes node (declared rest) k e))

  pub row_rest : (a : Around) (s : tree.Stmt) (rest : tree.Stmts) → RoomRow t n f a (tree.more_stmts s rest) → RoomRow t n f a rest
  row_rest a (tree.at_stmt place node) rest room =
      (λ k e apart. room.0 k (among_right (held_by (bare t n f) node) (held_in (bare t n f) rest) k e) apart, λ k e. room.1 k (part_rest homes node (declared rest) k e))

  pub body_room : (a : Around) (l : Loop) → LoopIs t n f l → RoomOf t n f (in_the_body t n f a l) l.body
  body_room a l is = (
    λ k e apart. among_fresh a.around (held (looped (fr t n f a)) l.body) k (subst (λ z. among z k ≡ true) (same_held (bare t n f) (looped (fr t n f a)) refl l.body) e) apart,
    no_opens (in_the_body t n f a l) (declared_by l.body []) is.body_declares,
  )

  pub step_room : (a : Around) (l : Loop) → LoopIs t n f l → RoomOf t n f (in_the_step t n f a) l.step
  step_room a l is =
      (λ k e apart. absurd (none_among (held (bare t n f) l.step) k is.step_holds e), no_opens (in_the_step t n f a) (declared_by l.step []) is.step_declares)

  -- the body of a function
  pub whole_room : RoomRow t n f (outermost t.structs f) f.body
  whole_room = (
    λ k e apart. refl,
    λ k e. among_left (objects_in (frame_of t.structs f) f.body) [] k (subst (λ z. among z k ≡ true) (objects_are (frame_of t.structs f) f.body) e),
  )
