-- How the code's steps and loops follow the readers'.
use Rattle.std.proofs.Common.{◌≡◌, ℕ, zero, suc, ◌<◌, ◌≤◌, List, [], ◌∷◌, length, Option, Some, None, Ok, Err, Bool, true, false, refl, sym, ap, ◌∙◌, arith}
use Rattle.c_grammar.specs.declared.terminal.Terminal.{Terminal}
use Rattle.c_grammar.specs.inner.Readers.{unexpected, sunk, past, Fault, stop, Reading, got, Reads, ◌>>=◌, Sort, sort, ◌▸◌, ◌&◌, made, choice_turn, choice, Turn, again, turn_next, turns, link_by, link_turn, links, chain_by}
use Rattle.parse_tokens.specs.declared.parser.Stop.{Stop}
use Rattle.parse_tokens.specs.declared.parser.Stop.TheVariants as stops
use Rattle.parse_tokens.specs.inner.Moves.{Fails, peek_turn, peek, ahead}

-- ---- choices

choice_turn_is : {S A : Type 0} (part : S → Reads A) (c : ℕ) (t : Terminal) (ts : List Terminal) (o : Option S) → choice_turn part c t ts o ≡ (peek_turn c t ts o >>= λ g. part g.tree g.count g.rest)
choice_turn_is part c t ts None = refl
choice_turn_is part c t ts (Some s) = refl

pub choice_is : {S A : Type 0} (start : Sort → Option S) (part : S → Reads A) (c : ℕ) (ts : List Terminal) → choice start part c ts ≡ (peek start c ts >>= λ g. part g.tree g.count g.rest)
choice_is start part c [] = refl
choice_is start part c (t ∷ ts) = choice_turn_is part c t ts (start (sort t))

-- what the next token chooses
pub chooses : {S A : Type 0} (start : Sort → Option S) (part : S → Reads A) (c : ℕ) (ts : List Terminal) (s : S) → peek start c ts ≡ got s c ts → choice start part c ts ≡ part s c ts
chooses start part c ts s e = choice_is start part c ts ∙ ap (λ o. o >>= λ g. part g.tree g.count g.rest) e

pub choice_fails : {S A : Type 0} (start : Sort → Option S) (part : S → Reads A) (c : ℕ) (ts : List Terminal) (f : Fault) → peek start c ts ≡ Err f → choice start part c ts ≡ Err f
choice_fails start part c ts f e = choice_is start part c ts ∙ ap (λ o. o >>= λ g. part g.tree g.count g.rest) e

-- ---- loops

-- so many turns, more than tokens are left, give from here what the whole gives
pub record Going {A X : Type 0} (start : A → Sort → Bool) (link : A → Reads X) (join : A → X → A) (whole : Reading A) (a : A) (c : ℕ) (ts : List Terminal) : Type 0 where
  pub turns_left : ℕ
  pub enough : length ts ≤ turns_left
  pub same : turns (link_turn start link join) (suc turns_left) a c ts ≡ whole

pub begins : {A X : Type 0} (start : A → Sort → Bool) (link : A → Reads X) (join : A → X → A) (a : A) (c : ℕ) (ts : List Terminal) → Going start link join (links start link join a c ts) a c ts
begins start link join a c ts = record { turns_left = length ts; enough = omega arith; same = refl }

link_turn_goes : {A X : Type 0} (start : A → Sort → Bool) (link : A → Reads X) (join : A → X → A) (a : A) (c : ℕ) (ts : List Terminal) (x : X) (d : ℕ) (us : List Terminal) → ahead (start a) c ts ≡ got true c ts → link a c ts ≡ got x d us
    → link_turn start link join a c ts ≡ got (again (join a x)) d us
link_turn_goes start link join a c ts x d us p q =
    chooses (λ s. Some (start a s)) (link_by join a (link a)) c ts true p ∙ ap (λ (r : Reading _). r >>= λ b. got (again (join a b.tree)) b.count b.rest) q

turns_go : {A X : Type 0} (start : A → Sort → Bool) (link : A → Reads X) (join : A → X → A) (n : ℕ) (a : A) (c : ℕ) (ts : List Terminal) (x : X) (d : ℕ) (us : List Terminal) → ahead (start a) c ts ≡ got true c ts → link a c ts ≡ got x d us
    → turns (link_turn start link join) (suc n) a c ts ≡ turns (link_turn start link join) n (join a x) d us
unfolding turns
turns_go start link join n a c ts x d us p q =
    ap (λ (r : Reading (Turn _)). r >>= λ t. turn_next (turns (link_turn start link join) n) t.tree t.count t.rest) (link_turn_goes start link join a c ts x d us p q)

-- one more link
pub goes : {A X : Type 0} (start : A → Sort → Bool) (link : A → Reads X) (join : A → X → A) (whole : Reading A) (a : A) (c : ℕ) (ts : List Terminal) (x : X) (d : ℕ) (us : List Terminal) → Going start link join whole a c ts
    → ahead (start a) c ts ≡ got true c ts → link a c ts ≡ got x d us → length us < length ts → Going start link join whole (join a x) d us
goes start link join whole a c ts x d us g p q h = by_turns g.turns_left g.enough g.same
  where
    by_turns : (n : ℕ) → length ts ≤ n → turns (link_turn start link join) (suc n) a c ts ≡ whole → Going start link join whole (join a x) d us
    by_turns zero e s = absurd (omega arith)
    by_turns (suc n) e s = record { turns_left = n; enough = omega arith; same = sym (turns_go start link join (suc n) a c ts x d us p q) ∙ s }

turn_is : {A X : Type 0} (start : A → Sort → Bool) (link : A → Reads X) (join : A → X → A) (whole : Reading A) (a : A) (c : ℕ) (ts : List Terminal) → (g : Going start link join whole a c ts)
    → whole ≡ (link_turn start link join a c ts >>= λ t. turn_next (turns (link_turn start link join) g.turns_left) t.tree t.count t.rest)
unfolding turns
turn_is start link join whole a c ts g = sym g.same

-- no more links
pub ends : {A X : Type 0} (start : A → Sort → Bool) (link : A → Reads X) (join : A → X → A) (whole : Reading A) (a : A) (c : ℕ) (ts : List Terminal) → Going start link join whole a c ts → ahead (start a) c ts ≡ got false c ts → whole ≡ got a c ts
ends start link join whole a c ts g p =
    turn_is start link join whole a c ts g
    ∙ ap (λ (r : Reading (Turn _)). r >>= λ t. turn_next (turns (link_turn start link join) g.turns_left) t.tree t.count t.rest) (chooses (λ s. Some (start a s)) (link_by join a (link a)) c ts false p)

turn_fails : {A X : Type 0} (start : A → Sort → Bool) (link : A → Reads X) (join : A → X → A) (whole : Reading A) (a : A) (c : ℕ) (ts : List Terminal) (f : Fault) → Going start link join whole a c ts → link_turn start link join a c ts ≡ Err f → whole ≡ Err f
turn_fails start link join whole a c ts f g p =
    turn_is start link join whole a c ts g ∙ ap (λ (r : Reading (Turn _)). r >>= λ t. turn_next (turns (link_turn start link join) g.turns_left) t.tree t.count t.rest) p

-- no token is left
pub end_fails : {A X : Type 0} (start : A → Sort → Bool) (link : A → Reads X) (join : A → X → A) (whole : Reading A) (a : A) (c : ℕ) (ts : List Terminal) (f : Fault) → Going start link join whole a c ts → ahead (start a) c ts ≡ Err f → whole ≡ Err f
end_fails start link join whole a c ts f g p = turn_fails start link join whole a c ts f g (choice_fails (λ s. Some (start a s)) (link_by join a (link a)) c ts f p)

-- a link isn't read
pub link_fails : {A X : Type 0} (start : A → Sort → Bool) (link : A → Reads X) (join : A → X → A) (whole : Reading A) (a : A) (c : ℕ) (ts : List Terminal) (f : Fault) → Going start link join whole a c ts → ahead (start a) c ts ≡ got true c ts → link a c ts ≡ Err f → whole ≡ Err f
link_fails start link join whole a c ts f g p q =
    turn_fails start link join whole a c ts f g (chooses (λ s. Some (start a s)) (link_by join a (link a)) c ts true p ∙ ap (λ (r : Reading _). r >>= λ b. got (again (join a b.tree)) b.count b.rest) q)

-- ---- what the code gives up with

-- a fault that is passed on
pub passes : {A B : Type 0} (e : Stop) (r : Reading A) (q : Reading B) → ((f : Fault) → r ≡ Err f → q ≡ Err f) → Fails e r → Fails e q
passes stops.NoMemory r q h f = tt
passes (stops.Unexpected left) r q h f = h (stop unexpected left) f
passes (stops.Sunk left) r q h f = h (stop sunk left) f
passes (stops.Over kind left) r q h f = h (stop (past kind) left) f

pub choice_stops : {S A : Type 0} (start : Sort → Option S) (part : S → Reads A) (c : ℕ) (ts : List Terminal) (e : Stop) → Fails e (peek start c ts) → Fails e (choice start part c ts)
choice_stops start part c ts e = passes e (peek start c ts) (choice start part c ts) (choice_fails start part c ts)

pub end_stops : {A X : Type 0} (start : A → Sort → Bool) (link : A → Reads X) (join : A → X → A) (whole : Reading A) (a : A) (c : ℕ) (ts : List Terminal) (e : Stop) → Going start link join whole a c ts → Fails e (ahead (start a) c ts) → Fails e whole
end_stops start link join whole a c ts e g = passes e (ahead (start a) c ts) whole (λ f p. end_fails start link join whole a c ts f g p)

pub link_stops : {A X : Type 0} (start : A → Sort → Bool) (link : A → Reads X) (join : A → X → A) (whole : Reading A) (a : A) (c : ℕ) (ts : List Terminal) (e : Stop) → Going start link join whole a c ts → ahead (start a) c ts ≡ got true c ts → Fails e (link a c ts) → Fails e whole
link_stops start link join whole a c ts e g p = passes e (link a c ts) whole (λ f q. link_fails start link join whole a c ts f g p q)

-- ---- parts joined

-- a part behind one that leaves nothing in the tree, or that it depends on
pub behind_reads : {A B : Type 0} (r : Reads A) (q : A → Reads B) (c : ℕ) (ts : List Terminal) (a : A) (d : ℕ) (us : List Terminal) (b : B) (e : ℕ) (vs : List Terminal) → r c ts ≡ got a d us → q a d us ≡ got b e vs → made (λ (_, b). b) (r ▸ q) c ts ≡ got b e vs
behind_reads r q c ts a d us b e vs p h = rw p (rw h refl)

pub pair_reads : {A B : Type 0} (r : Reads A) (q : Reads B) (c : ℕ) (ts : List Terminal) (a : A) (d : ℕ) (us : List Terminal) (b : B) (e : ℕ) (vs : List Terminal) → r c ts ≡ got a d us → q d us ≡ got b e vs → (r & q) c ts ≡ got (a, b) e vs
pair_reads r q c ts a d us b e vs p h = rw p (rw h refl)

-- the first part isn't read
pub front_stops : {A B : Type 0} (r : Reads A) (q : A → Reads B) (c : ℕ) (ts : List Terminal) (e : Stop) → Fails e (r c ts) → Fails e (made (λ (_, b). b) (r ▸ q) c ts)
front_stops r q c ts e = passes e (r c ts) (made (λ (_, b). b) (r ▸ q) c ts) (λ f h. rw h refl)

pub pair_stops : {A B : Type 0} (r : Reads A) (q : Reads B) (c : ℕ) (ts : List Terminal) (e : Stop) → Fails e (r c ts) → Fails e ((r & q) c ts)
pair_stops r q c ts e = passes e (r c ts) ((r & q) c ts) (λ f h. rw h refl)

-- the part behind it isn't read
pub behind_stops : {A B : Type 0} (r : Reads A) (q : A → Reads B) (c : ℕ) (ts : List Terminal) (a : A) (d : ℕ) (us : List Terminal) (e : Stop) → r c ts ≡ got a d us → Fails e (q a d us) → Fails e (made (λ (_, b). b) (r ▸ q) c ts)
behind_stops r q c ts a d us e p = passes e (q a d us) (made (λ (_, b). b) (r ▸ q) c ts) (λ f h. rw p (rw h refl))

pub second_stops : {A B : Type 0} (r : Reads A) (q : Reads B) (c : ℕ) (ts : List Terminal) (a : A) (d : ℕ) (us : List Terminal) (e : Stop) → r c ts ≡ got a d us → Fails e (q d us) → Fails e ((r & q) c ts)
second_stops r q c ts a d us e p = passes e (q d us) ((r & q) c ts) (λ f h. rw p (rw h refl))

-- links behind a part
pub begins_behind : {A X : Type 0} (r : Reads A) (start : A → Sort → Bool) (link : A → Reads X) (join : A → X → A) (c : ℕ) (ts : List Terminal) (a : A) (d : ℕ) (us : List Terminal) → r c ts ≡ got a d us → Going start link join (chain_by r start link join c ts) a d us
begins_behind r start link join c ts a d us p = record { turns_left = length us; enough = omega arith; same = rw p refl }

made_again : {A X : Type 0} (f : X → A) (o : Reading X) (b : A) (d : ℕ) (us : List Terminal) → (o >>= λ x. got (f x.tree) x.count x.rest) ≡ got b d us → (o >>= λ x. got (again (f x.tree)) x.count x.rest) ≡ got (again b) d us
made_again f (Ok x) b d us e = ap (λ (r : Reading _). r >>= λ g. got (again g.tree) g.count g.rest) e
made_again f (Err g) b d us e = ap (λ (r : Reading _). r >>= λ g. got (again g.tree) g.count g.rest) e

-- one more link, which is joined already
pub goes_joined : {A X : Type 0} (start : A → Sort → Bool) (link : A → Reads X) (join : A → X → A) (whole : Reading A) (a : A) (c : ℕ) (ts : List Terminal) (b : A) (d : ℕ) (us : List Terminal) → Going start link join whole a c ts
    → ahead (start a) c ts ≡ got true c ts → made (join a) (link a) c ts ≡ got b d us → length us < length ts → Going start link join whole b d us
unfolding turns
goes_joined start link join whole a c ts b d us g p q h = by_turns g.turns_left g.enough g.same
  where
    turn : link_turn start link join a c ts ≡ got (again b) d us
    turn = chooses (λ s. Some (start a s)) (link_by join a (link a)) c ts true p ∙ made_again (join a) (link a c ts) b d us q

    go : (n : ℕ) → turns (link_turn start link join) (suc n) a c ts ≡ turns (link_turn start link join) n b d us
    go n = ap (λ (r : Reading (Turn _)). r >>= λ t. turn_next (turns (link_turn start link join) n) t.tree t.count t.rest) turn

    by_turns : (n : ℕ) → length ts ≤ n → turns (link_turn start link join) (suc n) a c ts ≡ whole → Going start link join whole b d us
    by_turns zero e s = absurd (omega arith)
    by_turns (suc n) e s = record { turns_left = n; enough = omega arith; same = sym (go (suc n)) ∙ s }

made_fails : {A X : Type 0} (f : X → A) (o : Reading X) (g : Fault) → (o >>= λ x. got (f x.tree) x.count x.rest) ≡ Err g → o ≡ Err g
made_fails f (Ok x) g e = cc
made_fails f (Err h) g e = cc

pub joined_stops : {A X : Type 0} (start : A → Sort → Bool) (link : A → Reads X) (join : A → X → A) (whole : Reading A) (a : A) (c : ℕ) (ts : List Terminal) (e : Stop) → Going start link join whole a c ts → ahead (start a) c ts ≡ got true c ts → Fails e (made (join a) (link a) c ts) → Fails e whole
joined_stops start link join whole a c ts e g p = passes e (made (join a) (link a) c ts) whole (λ f q. link_fails start link join whole a c ts f g p (made_fails (join a) (link a c ts) f q))
