-- Rows that are read behind a first part.
use Rattle.std.proofs.Common.{◌≡◌, ℕ, zero, suc, List, [], ◌∷◌, length, Ok, Err, Bool, true, false, refl, ap, ◌∙◌}
use Rattle.c_grammar.specs.declared.terminal.Terminal.{Terminal}
use Rattle.c_grammar.specs.inner.Readers.{Got, Reading, got, Reads, ◌>>=◌, ◌▸◌, ◌&◌, Sort, sort, made, again, turn_next, turns, link_by, link_turn, links, pushed, row}

-- a reading, with one more before what was read
abbrev headed : {A : Type 0} → A → Reading (List A) → Reading (List A)
headed x r = r >>= λ g. got (x ∷ g.tree) g.count g.rest

-- the turn behind a part that was read
read_turn : {A : Type 0} (start : Sort → Bool) (part : Reads A) (n : ℕ) (x : A) (a : List A)
    → ((b : List A) (c : ℕ) (ts : List Terminal) → turns (link_turn (λ _. start) (λ _. part) pushed) n (x ∷ b) c ts ≡ headed x (turns (link_turn (λ _. start) (λ _. part) pushed) n b c ts))
    → (o : Reading A) → ((o >>= λ g. got (again (pushed (x ∷ a) g.tree)) g.count g.rest) >>= λ t. turn_next (turns (link_turn (λ _. start) (λ _. part) pushed) n) t.tree t.count t.rest)
    ≡ headed x ((o >>= λ g. got (again (pushed a g.tree)) g.count g.rest) >>= λ t. turn_next (turns (link_turn (λ _. start) (λ _. part) pushed) n) t.tree t.count t.rest)
read_turn start part n x a h (Ok g) = h (pushed a g.tree) g.count g.rest
read_turn start part n x a h (Err e) = refl

either_turn : {A : Type 0} (start : Sort → Bool) (part : Reads A) (n : ℕ) (x : A) (a : List A)
    → ((b : List A) (c : ℕ) (ts : List Terminal) → turns (link_turn (λ _. start) (λ _. part) pushed) n (x ∷ b) c ts ≡ headed x (turns (link_turn (λ _. start) (λ _. part) pushed) n b c ts))
    → (c : ℕ) (ts : List Terminal) (go : Bool) → (link_by pushed (x ∷ a) part go c ts >>= λ t. turn_next (turns (link_turn (λ _. start) (λ _. part) pushed) n) t.tree t.count t.rest)
    ≡ headed x (link_by pushed a part go c ts >>= λ t. turn_next (turns (link_turn (λ _. start) (λ _. part) pushed) n) t.tree t.count t.rest)
either_turn start part n x a h c ts true = read_turn start part n x a h (part c ts)
either_turn start part n x a h c ts false = refl

turns_behind : {A : Type 0} (start : Sort → Bool) (part : Reads A) (n : ℕ) (x : A) (a : List A) (c : ℕ) (ts : List Terminal)
    → turns (link_turn (λ _. start) (λ _. part) pushed) n (x ∷ a) c ts ≡ headed x (turns (link_turn (λ _. start) (λ _. part) pushed) n a c ts)
unfolding turns
turns_behind start part zero x a c ts = refl
turns_behind start part (suc n) x a c [] = refl
turns_behind start part (suc n) x a c (t ∷ ts) = either_turn start part n x a (turns_behind start part n x) c (t ∷ ts) (start (sort t))

-- what is read behind a first part is the row, with that part before it
pub row_behind : {A : Type 0} (start : Sort → Bool) (part : Reads A) (x : A) (c : ℕ) (ts : List Terminal) → links (λ _. start) (λ _. part) pushed (x ∷ []) c ts ≡ headed x (row start part c ts)
row_behind start part x c ts = turns_behind start part (suc (length ts)) x [] c ts

-- a part behind the row
abbrev both : {A B : Type 0} → A → Got B → Reading (A × B)
both {A} {B} a g = got {A = A × B} (a, g.tree) g.count g.rest

row_then : {X E : Type 0} (x : X) (e : Reads E) (o : Reading (List X)) → (headed x o >>= λ r. e r.count r.rest >>= λ s. both r.tree s)
    ≡ ((o >>= λ r. e r.count r.rest >>= λ s. both r.tree s) >>= λ g. got {A = List X × E} (x ∷ g.tree.0, g.tree.1) g.count g.rest)
row_then {X} {E} x e (Ok r) = by_end (e r.count r.rest)
  where
    by_end : (o : Reading E) → (o >>= λ s. both (x ∷ r.tree) s) ≡ ((o >>= λ s. both r.tree s) >>= λ g. got {A = List X × E} (x ∷ g.tree.0, g.tree.1) g.count g.rest)
    by_end (Ok s) = refl
    by_end (Err f) = refl
row_then x e (Err f) = refl

links_then : {X E : Type 0} (start : Sort → Bool) (part : Reads X) (e : Reads E) (x : X) (c : ℕ) (ts : List Terminal)
    → (links (λ _. start) (λ _. part) pushed (x ∷ []) & e) c ts ≡ ((row start part & e) c ts >>= λ g. got {A = List X × E} (x ∷ g.tree.0, g.tree.1) g.count g.rest)
links_then {X} {E} start part e x c ts = ap (λ (o : Reading (List X)). o >>= λ r. e r.count r.rest >>= λ s. both {A = List X} {B = E} r.tree s) (row_behind start part x c ts) ∙ row_then x e (row start part c ts)

-- two parts, a row and a part, and how the code reads them: the row behind what the two parts make
pub rest_behind : {A B X E R : Type 0} (a : Reads A) (b : Reads B) (start : Sort → Bool) (part : Reads X) (e : Reads E) (f : A → B → X) (g : List X → R) (c : ℕ) (ts : List Terminal)
    → made {A = A × (B × (List X × E))} (λ (x, (y, (xs, _))). g (f x y ∷ xs)) (a & b & row start part & e) c ts
    ≡ made {A = X × (List X × E)} (λ (_, (xs, _)). g xs) (made {A = A × B} (λ (x, y). f x y) (a & b) ▸ λ x. links (λ _. start) (λ _. part) pushed (x ∷ []) & e) c ts
rest_behind {A} {B} {X} {E} {R} a b start part e f g c ts = by_first (a c ts)
  where
    by_row : (x : Got A) (y : Got B) (o : Reading (List X × E)) → (((o >>= λ z. both y.tree z) >>= λ z. both x.tree z) >>= λ z. got {A = R} (g (f z.tree.0 z.tree.1.0 ∷ z.tree.1.1.0)) z.count z.rest)
        ≡ (((o >>= λ z. got {A = List X × E} (f x.tree y.tree ∷ z.tree.0, z.tree.1) z.count z.rest) >>= λ z. both {A = X} (f x.tree y.tree) z) >>= λ z. got {A = R} (g z.tree.1.0) z.count z.rest)
    by_row x y (Ok z) = refl
    by_row x y (Err h) = refl

    by_second : (x : Got A) (o : Reading B) → (((o >>= λ y. (row start part & e) y.count y.rest >>= λ z. both y.tree z) >>= λ z. both x.tree z) >>= λ z. got {A = R} (g (f z.tree.0 z.tree.1.0 ∷ z.tree.1.1.0)) z.count z.rest)
        ≡ ((((o >>= λ y. both x.tree y) >>= λ w. got {A = X} (f w.tree.0 w.tree.1) w.count w.rest) >>= λ w. (links (λ _. start) (λ _. part) pushed (w.tree ∷ []) & e) w.count w.rest >>= λ z. both w.tree z) >>= λ z. got {A = R} (g z.tree.1.0) z.count z.rest)
    by_second x (Ok y) = rw (links_then start part e (f x.tree y.tree) y.count y.rest) (by_row x y ((row start part & e) y.count y.rest))
    by_second x (Err h) = refl

    by_first : (o : Reading A) → ((o >>= λ x. (b & row start part & e) x.count x.rest >>= λ z. both x.tree z) >>= λ z. got {A = R} (g (f z.tree.0 z.tree.1.0 ∷ z.tree.1.1.0)) z.count z.rest)
        ≡ ((((o >>= λ x. b x.count x.rest >>= λ y. both x.tree y) >>= λ w. got {A = X} (f w.tree.0 w.tree.1) w.count w.rest) >>= λ w. (links (λ _. start) (λ _. part) pushed (w.tree ∷ []) & e) w.count w.rest >>= λ z. both w.tree z) >>= λ z. got {A = R} (g z.tree.1.0) z.count z.rest)
    by_first (Ok x) = by_second x (b x.count x.rest)
    by_first (Err h) = refl
